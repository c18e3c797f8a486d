-- The recipients of an activity that was sent.
use Rattle.std.proofs.Common.{◌≡◌, ◌≢◌, ◌<◌, ◌^◌, ℕ, zero, suc, List, [], ◌∷◌, ◌++◌, length, map, set}
use Rattle.std.proofs.Common.{Option, Some, None, refl, sym, ap, ◌∙◌, arith, append-nil}
use Rattle.std.proofs.lemmas.List.{set-get_or, set-set}
use Rattle.std.proofs.lemmas.Option.{get_or_from_slice_get}
use Rattle.mta_records.specs.declared.state.Status.{Status}
use Rattle.mta_records.specs.declared.state.Status.TheVariants.{Sent}
use Rattle.mta_records.specs.declared.state.MailboxLine.{MailboxLine}
use Rattle.mta_apdu.specs.Apdus.{ApduValue}
use Rattle.mta_machine.specs.Items.{ItemValue, Machine, numbered, set_numbered}
use Rattle.mta_machine.specs.Machine.{discharge, items_after, last_tables, lines_of, machine_after}
use Rattle.mta_machine.specs.Machine.{machine_run, made_for, own_item, sent}
use Rattle.mta_machine.proofs.Later.{length-set_numbered}
use Rattle.mta_machine.proofs.Numbered.{set-same}
use Rattle.mta_state.specs.Settled.{put_settled, settled}
use Rattle.mta_histories.specs.Lanes.{Transfer}
use Rattle.mta_histories.specs.History.{sendings}
use Rattle.mta_state.specs.Kept.{settled_one}
use Rattle.mta_replay.specs.Changes.{sent_one, settled_in_order}

-- what is set again
set_again : (items : List ItemValue) (i : ℕ) (a b : ItemValue)
    → set_numbered (set_numbered items i a) i b ≡ set_numbered items i b
set_again items zero a b = refl
set_again items (suc k) a b = set-set items k a b

-- what stands is set
set_itself : (items : List ItemValue) (i : ℕ) (x : ItemValue) → numbered items i ≡ Some x
    → set_numbered items i x ≡ items
set_itself items zero x e = absurd cc
set_itself items (suc k) x e =
    ap (λ (y : ItemValue). set items k y) (sym (get_or_from_slice_get items k x x e)) ∙ set-get_or items k x

abbrev machine_with : Machine → List ItemValue → List MailboxLine → ℕ → Machine
machine_with m items lines moment = record m { items = items; mailboxes = lines; moment = moment }

module _ (i : ℕ) (peer : List ℕ) (moment : ℕ) where
  abbrev status : Status
  status = Sent moment peer

  -- the machine where these recipients of the item have been sent to
  abbrev sent_to : Machine → ItemValue → List ℕ → Machine
  sent_to m item rs = machine_with m (set_numbered m.items i (settled item rs status)) m.mailboxes moment

  sent_alone : (m : Machine) (item : ItemValue) (r : ℕ) → numbered m.items i ≡ Some item
      → settled_one m i (sent_one peer moment r) moment ≡ sent_to m item (r ∷ [])
  sent_alone m item r is =
      ap (λ (items : List ItemValue). machine_with m items (m.mailboxes ++ []) moment)
      (append-nil (put_settled m.items i (numbered m.items i) (r ∷ []) status)
      ∙ ap (λ (o : Option ItemValue). put_settled m.items i o (r ∷ []) status) is)
      ∙ ap (λ (ls : List MailboxLine).
      machine_with m (set_numbered m.items i (settled item (r ∷ []) status)) ls moment)
      (append-nil m.mailboxes)

  sent_first : (m : Machine) (item : ItemValue) (r : ℕ) (rs : List ℕ) → numbered m.items i ≡ Some item
      → settled_in_order (sent_to m item (r ∷ [])) i (map (sent_one peer moment) rs) moment
      ≡ sent_to (sent_to m item (r ∷ [])) (settled item (r ∷ []) status) rs
      → settled_in_order m i (map (sent_one peer moment) (r ∷ rs)) moment ≡ sent_to m item (r ∷ rs)
  sent_first m item r rs is more =
      ap (λ (x : Machine). settled_in_order x i (map (sent_one peer moment) rs) moment) (sent_alone m item r is)
      ∙ (more
      ∙ ap (λ (items : List ItemValue). machine_with m items m.mailboxes moment)
      (set_again m.items i (settled item (r ∷ []) status) (settled item (r ∷ rs) status)))

  sent_then : (rs : List ℕ) (m : Machine) (item : ItemValue) → numbered m.items i ≡ Some item
      → m.moment ≡ moment
      → settled_in_order m i (map (sent_one peer moment) rs) moment ≡ sent_to m item rs
  sent_then [] m item is at =
      sym (ap (λ (items : List ItemValue). machine_with m items m.mailboxes moment) (set_itself m.items i item is)
      ∙ ap (λ (t : ℕ). machine_with m m.items m.mailboxes t) (sym at))
  sent_then (r ∷ rs) m item is at =
      sent_first m item r rs is
      (sent_then rs (sent_to m item (r ∷ [])) (settled item (r ∷ []) status)
      (set-same m.items i (settled item (r ∷ []) status) item is) refl)

  all_sent : (rs : List ℕ) (m : Machine) (item : ItemValue) → numbered m.items i ≡ Some item → rs ≢ []
      → settled_in_order m i (map (sent_one peer moment) rs) moment ≡ sent_to m item rs
  all_sent [] m item is some = absurd (some refl)
  all_sent (r ∷ rs) m item is some =
      sent_first m item r rs is
      (sent_then rs (sent_to m item (r ∷ [])) (settled item (r ∷ []) status)
      (set-same m.items i (settled item (r ∷ []) status) item is) refl)

  -- ---- at once

  module _ (tables decided format : ℕ) where
    no_items : (m : Machine) (item : ItemValue) (o : Option (List ℕ)) (rs : List ℕ)
        → made_for m item o rs (sent peer tables decided format) moment ≡ []
    no_items m item None rs = refl
    no_items m item (Some text) [] = refl
    no_items m item (Some text) (r ∷ rs) = refl

    no_lines : (m : Machine) (rs : List ℕ) → lines_of m i rs (sent peer tables decided format) moment ≡ []
    no_lines m [] = refl
    no_lines m (r ∷ rs) = refl

    items_then : (m : Machine) (item : ItemValue) (rs : List ℕ) → numbered m.items i ≡ Some item
        → items_after m (numbered m.items i) i rs (sent peer tables decided format) moment
        ≡ set_numbered m.items i (settled item rs status)
    items_then m item rs is =
        ap (λ (o : Option ItemValue). items_after m o i rs (sent peer tables decided format) moment) is
        ∙ (ap (λ (vs : List ApduValue).
        set_numbered m.items i (settled item rs status) ++ map (own_item moment) vs)
        (no_items m item (numbered m.tables (last_tables m)) rs)
        ∙ append-nil (set_numbered m.items i (settled item rs status)))

    at_once : (m : Machine) (item : ItemValue) (rs : List ℕ) → numbered m.items i ≡ Some item
        → machine_after m (discharge i rs (sent peer tables decided format) moment) ≡ sent_to m item rs
    at_once m item rs is =
        ap (λ (items : List ItemValue).
        machine_with m items (m.mailboxes ++ lines_of m i rs (sent peer tables decided format) moment) moment)
        (items_then m item rs is)
        ∙ (ap (λ (ls : List MailboxLine).
        machine_with m (set_numbered m.items i (settled item rs status)) (m.mailboxes ++ ls) moment)
        (no_lines m rs)
        ∙ ap (λ (ls : List MailboxLine).
        machine_with m (set_numbered m.items i (settled item rs status)) ls moment)
        (append-nil m.mailboxes))

-- recipients to whom an item was sent are discharged one after the other as all at once
pub sent_in_order : (m : Machine) (t : Transfer) (item : ItemValue) (peer : List ℕ) (moment : ℕ)
    → numbered m.items t.item ≡ Some item → t.recipients ≢ []
    → settled_in_order m t.item (map (sent_one peer moment) t.recipients) moment
    ≡ machine_run m (sendings peer moment (Some t))
sent_in_order m t item peer moment is some =
    all_sent t.item peer moment t.recipients m item is some
    ∙ sym (at_once t.item peer moment t.tables t.moment t.format m item t.recipients is)

-- and there are as many items as before
pub sent_few : (m : Machine) (t : Transfer) (item : ItemValue) (peer : List ℕ) (moment : ℕ)
    → numbered m.items t.item ≡ Some item → length m.items < 2 ^ 32
    → length (machine_run m (sendings peer moment (Some t))).items < 2 ^ 32
sent_few m t item peer moment is few =
    let once = ap (λ (x : Machine). length x.items)
    (at_once t.item peer moment t.tables t.moment t.format m item t.recipients is) in
    let same = length-set_numbered m.items t.item (settled item t.recipients (Sent moment peer)) in
    omega (arith, once, same, few)
