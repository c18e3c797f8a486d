-- The indexes say the places of the mailboxes, also where memory runs out on the way.
use Rattle.std.proofs.Common.{◌≡◌, ◌<◌, ◌≤◌, [], ◌∷◌, ◌++◌, List, length, length-append, sym, ap, subst, ◌∙◌, arith}
use Rattle.mta_tables.specs.declared.entry.Mailbox.{Mailbox}
use Rattle.mta_tables.specs.Indexes.{IsIndex, mailbox_word, mailbox_name}
use Rattle.mta_name_digest.specs.Digests.{text_digest}
use Rattle.mta_tables.proofs.Indexes.{index_kept, index_put}
use Rattle.mta_tables.proofs.mailboxes.Mailboxes.push.Goals as goal

pub invariant_of-self-in_err-add-2 : goal.invariant_of-self-in_err-add-2
invariant_of-self-in_err-add-2 c =
    let xs = c.self.inside.inner.items in
    let inv = c.self.invariant in (
      inv.0,
      index_kept mailbox_word xs c.octets_digest-word.result c.len-place.result c.self.inside.words c.add.new.self inv.1
          c.in_ok-add.ensures.ok,
      subst (IsIndex mailbox_name xs) (sym c.in_err-add-2.ensures.err) inv.2,
    )

pub invariant_of-self-in_err-push : goal.invariant_of-self-in_err-push
invariant_of-self-in_err-push c =
    let xs = c.self.inside.inner.items in
    let inv = c.self.invariant in
    let words = c.add.new.self in
    let names = c.add-2.new.self in
    let items : c.push.new.self.items ≡ xs = cc c.in_err-push.ensures.items in
    subst (λ (ys : List Mailbox). (length ys ≤ 4096) × IsIndex mailbox_word ys words × IsIndex mailbox_name ys names)
    (sym items) (
      inv.0,
      index_kept mailbox_word xs c.octets_digest-word.result c.len-place.result c.self.inside.words words inv.1
          c.in_ok-add.ensures.ok,
      index_kept mailbox_name xs c.name_digest-name.result c.len-place.result c.self.inside.names names inv.2
          c.in_ok-add-2.ensures.ok,
    )

pub invariant_of-self-2 : goal.invariant_of-self-2
invariant_of-self-2 c =
    let xs = c.self.inside.inner.items in
    let m = c.args.mailbox in
    let inv = c.self.invariant in
    let words = c.add.new.self in
    let names = c.add-2.new.self in
    let size = c.self.inside.inner.ok.0 in
    let place : c.len-place.result ≡ length xs = omega (arith, c.len-place.ensures, size) in
    let few : length xs < 4096 = omega (arith, c.requires, ap length c.self.view_is) in
    let items : c.push.new.self.items ≡ xs ++ m ∷ [] = cc c.in_ok-push.ensures.items in
    let word = c.octets_digest-word.ensures ∙ ap (text_digest 0) c.as_slice.ensures.exact in
    subst (λ (ys : List Mailbox). (length ys ≤ 4096) × IsIndex mailbox_word ys words × IsIndex mailbox_name ys names)
    (sym items) (
      omega (arith, few, length-append xs (m ∷ [])),
      index_put mailbox_word xs m c.octets_digest-word.result c.len-place.result c.self.inside.words words word place
          inv.1 c.in_ok-add.ensures.ok,
      index_put mailbox_name xs m c.name_digest-name.result c.len-place.result c.self.inside.names names
          c.name_digest-name.ensures place inv.2 c.in_ok-add-2.ensures.ok,
    )
