-- No two lists have one word, and the indexes say the places of the lists, also where memory runs out on the way.
use Rattle.std.proofs.Common.{◌≡◌, ◌<◌, ◌≤◌, [], ◌∷◌, ◌++◌, List, length, sym, ap, subst, ◌∙◌, arith, false}
use Rattle.std.proofs.Common.{length-append}
use Rattle.std.specs.List.{list_any, AllPairs}
use Rattle.std.proofs.lemmas.Result.{err_from_is_err_and}
use Rattle.mta_name_digest.specs.Digests.{text_digest}
use Rattle.mta_tables.specs.declared.entry.MailList.{MailList}
use Rattle.mta_tables.specs.Indexes.{IsIndex, list_word, list_name}
use Rattle.mta_tables.specs.Reading.{has_list_word, opened}
use Rattle.mta_tables.specs.Sameness.{DifferInWord}
use Rattle.mta_tables.proofs.Indexes.{index_kept, index_put}
use Rattle.mta_tables.proofs.ListIndexes.{AreIndexed}
use Rattle.mta_tables.proofs.Ones.{words_more}
use Rattle.mta_tables.proofs.lists.Lists.push.Goals as goal

pub invariant_of-self-in_err-add-2 : goal.invariant_of-self-in_err-add-2
invariant_of-self-in_err-add-2 c =
    let ls = c.self.inside.inner.items in
    let inv = c.self.invariant in (
      inv.0,
      inv.1,
      index_kept list_word ls c.octets_digest-word.result c.len-place.result c.self.inside.words c.add.new.self inv.2
          c.in_ok-add.ensures.ok,
      subst (IsIndex list_name ls) (sym c.in_err-add-2.ensures.err) inv.3,
    )

pub invariant_of-self-in_err-push : goal.invariant_of-self-in_err-push
invariant_of-self-in_err-push c =
    let ls = c.self.inside.inner.items in
    let inv = c.self.invariant in
    let words = c.add.new.self in
    let names = c.add-2.new.self in
    let items : c.push.new.self.items ≡ ls = cc c.in_err-push.ensures.items in
    subst (λ (xs : List MailList). AreIndexed xs words names) (sym items) (
      inv.0,
      inv.1,
      index_kept list_word ls c.octets_digest-word.result c.len-place.result c.self.inside.words words inv.2
          c.in_ok-add.ensures.ok,
      index_kept list_name ls c.name_digest-name.result c.len-place.result c.self.inside.names names inv.3
          c.in_ok-add-2.ensures.ok,
    )

pub invariant_of-self-2 : goal.invariant_of-self-2
invariant_of-self-2 c =
    let ls = c.self.inside.inner.items in
    let h = c.args.head in
    let v = c.self.view_is in
    let inv = c.self.invariant in
    let words = c.add.new.self in
    let names = c.add-2.new.self in
    let none : list_any (has_list_word h.word) ls ≡ false = ap (list_any (has_list_word h.word)) v ∙ c.requires.other in
    let size = c.self.inside.inner.ok.0 in
    let place : c.len-place.result ≡ length ls = omega (arith, c.len-place.ensures, size) in
    let few : length ls < 256 = omega (arith, c.requires.few, ap length v) in
    let list = c.opened-list.ensures in
    let items : c.push.new.self.items ≡ ls ++ opened h ∷ [] = cc c.in_ok-push.ensures.items in
    let word = c.octets_digest-word.ensures ∙ ap (text_digest 0) c.as_slice.ensures.exact ∙ ap list_word list in
    let name = c.name_digest-name.ensures ∙ ap list_name list in
    subst (λ (xs : List MailList). AreIndexed xs words names) (sym items) (
      omega (arith, few, length-append ls (opened h ∷ [])),
      words_more ls h inv.1 none,
      index_put list_word ls (opened h) c.octets_digest-word.result c.len-place.result c.self.inside.words words word
          place inv.2 c.in_ok-add.ensures.ok,
      index_put list_name ls (opened h) c.name_digest-name.result c.len-place.result c.self.inside.names names
          name place inv.3 c.in_ok-add-2.ensures.ok,
    )

pub returns-in_err-add-2 : goal.returns-in_err-add-2
returns-in_err-add-2 c =
    let e = c.from_residual-in_err-add-2 in
    let p = err_from_is_err_and e.result e.ensures.1 in
    rw p.1 tt
