-- What a step of the machine makes is written so that it is read again.
use Rattle.std.proofs.Common.{◌≡◌, ◌≢◌, ℕ, zero, suc, ◌<◌, ◌≤◌, ◌+◌, ◌^◌, Bool, true, false, cond, List, [], ◌∷◌}
use Rattle.std.proofs.Common.{length, map}
use Rattle.std.proofs.Common.{Option, Some, None, refl, arith, sym, ap, ◌∙◌, subst, length-append}
use Rattle.std.specs.Prelude.{IfSome, option_map, option_to_list, slice_get}
use Rattle.std.specs.List.{AllByRecursion}
use Rattle.std.proofs.lemmas.List.{length-map}
use Rattle.std.proofs.lemmas.Option.{same_Some}
use Rattle.mta_ber.specs.Times.{last_moment}
use Rattle.mta_apdu.specs.Apdus.{ApduValue}
use Rattle.mta_procedures.specs.declared.verdict.Verdict.{Verdict}
use Rattle.mta_procedures.specs.declared.verdict.Verdict.TheVariants as Verdicts
use Rattle.mta_machine.specs.Apdu.{value_of, is_report}
use Rattle.mta_machine.specs.Items.{ItemValue, Machine, numbered, set_numbered}
use Rattle.mta_machine.specs.Rules.{reason_of, diagnostic_of, delivery_report, non_delivery_report}
use Rattle.mta_machine.specs.Rules.{passed_back, verdict_of}
use Rattle.mta_machine.specs.Machine.{Discharge, delivered, expanded, affirmed, not_delivered, failed, discarded}
use Rattle.mta_machine.specs.Machine.{passed, sent, MachineStep, set_tables, set_format, accept, discharge, settled}
use Rattle.mta_machine.specs.Machine.{verdict_on, last_tables, HasVerdict, IsJustified, Needs, unless_report, made_by}
use Rattle.mta_machine.specs.Machine.{made_for, own_item, discharged_item, items_after, machine_after, machine_run}
use Rattle.mta_machine.specs.Machine.{IsRun}
use Rattle.mta_machine.proofs.Later.{items-grow, length-set_numbered}
use Rattle.mta_histories.specs.Items.{IsWritten, MakesWritten, MakeWritten, IsNow, AreNow}
use Rattle.mta_histories.specs.Sound.{IsSoundItem}
use Rattle.mta_histories.proofs.SoundItems.{items_stay_sound}
use Rattle.mta_sound_laws.proofs.Codes.{all_coded}
use Rattle.mta_sound_laws.proofs.Expansions.{counted, expansion-written}
use Rattle.mta_sound_laws.proofs.Passed.{passed-report-written}
use Rattle.mta_sound_laws.proofs.Reports.{delivery-report-written, failure-codes, non-delivery-report-written}

-- ---- verdicts

settled-same : (back : Option ApduValue) (v w : Verdict) → settled back v ≡ w → w ≢ Verdicts.Discard → v ≡ w
settled-same back (Verdicts.Deliver place) w e other = e
settled-same back (Verdicts.Expand place) w e other = e
settled-same back (Verdicts.Relay place) w e other = e
settled-same back Verdicts.Affirm w e other = e
settled-same back (Verdicts.NonDeliver reason diagnostic) w e other = e
settled-same back (Verdicts.Hold moment) w e other = e
settled-same None Verdicts.Back w e other = absurd (other (sym e))
settled-same (Some v) Verdicts.Back w e other = e
settled-same back Verdicts.Discard w e other = e

pub settled-is : (back : Option ApduValue) (o : Option Verdict) (w : Verdict) → option_map (settled back) o ≡ Some w
    → w ≢ Verdicts.Discard → o ≡ Some w
settled-is back None w e other = absurd cc
settled-is back (Some v) w e other =
    ap (λ (x : Verdict). Some x) (settled-same back v w (same_Some (settled back v) w e) other)

-- the verdict on the one recipient of a discharge under these tables
has-verdict : (m : Machine) (i : ℕ) (item : ItemValue) (text : List ℕ) (r : ℕ) (rs : List ℕ) (moment : ℕ) (v : Verdict)
    → numbered m.tables (last_tables m) ≡ Some text → numbered m.items i ≡ Some item
    → HasVerdict m i (r ∷ rs) moment v → v ≢ Verdicts.Discard
    → verdict_of m.format text item.octets item.arrival r moment ≡ Some v
has-verdict m i item text r rs moment v told found h other =
    let one : h.0 ≡ r = sym (first r rs h.0 h.1) in
    settled-is (passed_back text m.items item) (verdict_of m.format text item.octets item.arrival r moment) v
    (sym (ap (λ (o : Option (List ℕ)). verdict_on m.format m.items o (numbered m.items i) r moment) told
    ∙ ap (λ (o : Option ItemValue). verdict_on m.format m.items (Some text) o r moment) found)
    ∙ subst (λ (k : ℕ).
    verdict_on m.format m.items (numbered m.tables (last_tables m)) (numbered m.items i) k moment ≡ Some v) one h.2)
    other
  where
    first : (a : ℕ) (more : List ℕ) (b : ℕ) → a ∷ more ≡ b ∷ [] → a ≡ b
    first a more b e = cc

-- ---- what a discharge makes

-- the item is sound, the moment may be written, and there are numbers for what is made
record IsReady (m : Machine) (item : ItemValue) (moment : ℕ) : Type 0 where
  sound : AllByRecursion (IsSoundItem moment) m.items
  this : IsSoundItem moment item
  timely : moment ≤ last_moment

unless-written : (item : ItemValue) (o : Option ApduValue) (n : ℕ) → length (unless_report item o) + n < 2 ^ 32
    → (n + 1 < 2 ^ 32 → IfSome o IsWritten) → AllByRecursion IsWritten (unless_report item o)
unless-written item o n few h = by_kind (is_report (value_of item.octets)) few
  where
    by_kind : (b : Bool) → length (cond b [] (option_to_list o)) + n < 2 ^ 32
        → AllByRecursion IsWritten (cond b [] (option_to_list o))
    by_kind true few = tt
    by_kind false few = counted o (λ one. h (omega (arith, one, few)))

made-written : (m : Machine) (i : ℕ) (item : ItemValue) (text : List ℕ) (r : ℕ) (rs : List ℕ) (how : Discharge)
    (moment : ℕ) → IsReady m item moment → numbered m.tables (last_tables m) ≡ Some text
    → numbered m.items i ≡ Some item → IsJustified m i (r ∷ rs) how moment
    → length (made_by m item text r how moment) + length m.items < 2 ^ 32
    → AllByRecursion IsWritten (made_by m item text r how moment)
made-written m i item text r rs delivered moment ready told found is few =
    unless-written item (delivery_report text (length m.items + 1) item r moment) (length m.items) few
    (λ small. delivery-report-written text (length m.items + 1) item r moment ready.this ready.timely small)
made-written m i item text r rs expanded moment ready told found is few =
    expansion-written m.format text (length m.items) item r is.0 moment ready.this ready.timely
    (has-verdict m i item text r rs moment (Verdicts.Expand is.0) told found is.1 (λ e. absurd cc)) few
made-written m i item text r rs affirmed moment ready told found is few =
    unless-written item (delivery_report text (length m.items + 1) item r moment) (length m.items) few
    (λ small. delivery-report-written text (length m.items + 1) item r moment ready.this ready.timely small)
made-written m i item text r rs (not_delivered reason diagnostic) moment ready told found is few =
    unless-written item (non_delivery_report text (length m.items + 1) item r reason (Some diagnostic))
    (length m.items) few
    (λ small. non-delivery-report-written text (length m.items + 1) item r reason (Some diagnostic) moment ready.this
    ready.timely small
    (all_coded m.format text item.octets item.arrival r moment reason diagnostic
    (has-verdict m i item text r rs moment (Verdicts.NonDeliver reason diagnostic) told found is (λ e. absurd cc))))
made-written m i item text r rs (failed failure) moment ready told found is few =
    unless-written item
    (non_delivery_report text (length m.items + 1) item r (reason_of failure) (diagnostic_of failure))
    (length m.items) few
    (λ small. non-delivery-report-written text (length m.items + 1) item r (reason_of failure) (diagnostic_of failure)
    moment ready.this ready.timely small (failure-codes failure))
made-written m i item text r rs discarded moment ready told found is few = tt
made-written m i item text r rs passed moment ready told found is few =
    counted (passed_back text m.items item)
    (λ one. passed-report-written m.format text m.items item r moment ready.sound ready.this ready.timely
    (has-verdict m i item text r rs moment Verdicts.Back told found is (λ e. absurd cc)))
made-written m i item text r rs (sent peer tables decided format) moment ready told found is few = tt

for-written : (m : Machine) (i : ℕ) (item : ItemValue) (o : Option (List ℕ)) (rs : List ℕ) (how : Discharge)
    (moment : ℕ) → IsReady m item moment → numbered m.tables (last_tables m) ≡ o → numbered m.items i ≡ Some item
    → IsJustified m i rs how moment → length (made_for m item o rs how moment) + length m.items < 2 ^ 32
    → AllByRecursion IsWritten (made_for m item o rs how moment)
for-written m i item None rs how moment ready told found is few = tt
for-written m i item (Some text) [] how moment ready told found is few = tt
for-written m i item (Some text) (r ∷ rs) how moment ready told found is few =
    made-written m i item text r rs how moment ready told found is few

-- ---- a step, and the steps that one of the spool is

-- what is made is behind the items that there are
items-with : (m : Machine) (i : ℕ) (item : ItemValue) (rs : List ℕ) (how : Discharge) (moment : ℕ)
    → numbered m.items i ≡ Some item
    → length (made_for m item (numbered m.tables (last_tables m)) rs how moment) + length m.items
    ≡ length (items_after m (numbered m.items i) i rs how moment)
items-with m i item rs how moment found =
    let made : List ApduValue = made_for m item (numbered m.tables (last_tables m)) rs how moment in
    let front : List ItemValue = set_numbered m.items i (discharged_item item rs how moment) in
    let all = length-append front (map (own_item moment) made) in
    let same = length-set_numbered m.items i (discharged_item item rs how moment) in
    let new = length-map {B = ItemValue} made (own_item moment) in
    let count : length made + length m.items ≡ length (items_after m (Some item) i rs how moment) =
    omega (arith, all, same, new) in
    count ∙ sym (ap (λ (o : Option ItemValue). length (items_after m o i rs how moment)) found)

sound-at : (P : ItemValue → Type 0) (items : List ItemValue) (k : ℕ) (item : ItemValue)
    → slice_get items k ≡ Some item → AllByRecursion P items → P item
sound-at P [] k item e each = absurd cc
sound-at P (x ∷ items) zero item e each = subst P (same_Some x item e) each.0
sound-at P (x ∷ items) (suc k) item e each = sound-at P items k item e each.1

item-sound : (P : ItemValue → Type 0) (items : List ItemValue) (n : ℕ) (item : ItemValue)
    → numbered items n ≡ Some item → AllByRecursion P items → P item
item-sound P items zero item e each = absurd cc
item-sound P items (suc k) item e each = sound-at P items k item e each

step-written : (m : Machine) (step : MachineStep) (now : ℕ) → now ≤ last_moment → Needs m step → IsNow now step
    → AllByRecursion (IsSoundItem now) m.items → length (machine_after m step).items < 2 ^ 32 → MakesWritten m step
step-written m (set_tables text) now timely needs is sound few = tt
step-written m set_format now timely needs is sound few = tt
step-written m (accept octets origin moment) now timely needs is sound few = tt
step-written m (discharge i rs how moment) now timely needs is sound few = λ item found.
    let here : AllByRecursion (IsSoundItem moment) m.items =
    subst (λ (k : ℕ). AllByRecursion (IsSoundItem k) m.items) (sym is) sound in
    for-written m i item (numbered m.tables (last_tables m)) rs how moment
    (record {
      sound = here;
      this = item-sound (IsSoundItem moment) m.items i item found here;
      timely = omega (arith, is, timely);
    })
    refl found needs.2 (omega (arith, few, items-with m i item rs how moment found))

pub run-written : (m : Machine) (steps : List MachineStep) (now : ℕ) → now ≤ last_moment → IsRun m steps
    → AreNow now steps → AllByRecursion (IsSoundItem now) m.items → length (machine_run m steps).items < 2 ^ 32
    → MakeWritten m steps
run-written m [] now timely run at sound few = tt
run-written m (step ∷ steps) now timely run at sound few =
    let more = items-grow (machine_after m step) steps in
    let first : MakesWritten m step =
    step-written m step now timely run.0 at.0 sound (omega (arith, more, few)) in
    let le : now ≤ now = omega arith in
    let after : AllByRecursion (IsSoundItem now) (machine_after m step).items =
    items_stay_sound m (step ∷ []) now now le (run.0, tt) (at.0, tt) (first, tt) sound in
    (first, run-written (machine_after m step) steps now timely run.1 at.1 after few)
