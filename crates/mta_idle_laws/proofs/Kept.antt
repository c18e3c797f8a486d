-- Items go on whatever steps are made: no recipient becomes pending again.
use Rattle.std.proofs.Common.{◌≡◌, ℕ, Bool, true, false, cond, eqb, List, [], ◌∷◌, ◌++◌, Option, Some, None}
use Rattle.std.proofs.Common.{refl, sym, ap, subst, ◌∙◌, inl, inr}
use Rattle.std.proofs.lemmas.Bool.{cases_Bool, eqb-true}
use Rattle.std.proofs.lemmas.Option.{same_Some}
use Rattle.mta_records.specs.declared.state.Status.{Status}
use Rattle.mta_machine.specs.Apdu.{value_of, is_report}
use Rattle.mta_machine.specs.Items.{ItemValue, Machine, numbered, set_numbered, names, has_status, is_pending}
use Rattle.mta_machine.specs.Rules.{Failure, is_expired, verdict_of}
use Rattle.mta_machine.specs.Machine.{Discharge, delivered, expanded, affirmed, not_delivered, failed, discarded}
use Rattle.mta_machine.specs.Machine.{passed}
use Rattle.mta_machine.specs.Machine.{sent, MachineStep, set_tables, set_format, accept, discharge, machine_after}
use Rattle.mta_machine.specs.Machine.{machine_run}
use Rattle.mta_machine.specs.Machine.{items_after, discharged_item, status_after, with_statuses}
use Rattle.mta_machine.proofs.Numbered.{set-same, set-other, numbered-front}
use Rattle.mta_machine.proofs.Steps.{with-other, with-none, with-named}
use Rattle.mta_idle_laws.specs.Idle.{calls_at_once, IsIdle}
use Rattle.mta_idle_laws.specs.Later.{GoesOn, IsLater}
use Rattle.mta_idle_laws.specs.Laws.{ItemsGoOn}

-- ---- who is pending behind a discharge was so before it

not_pending : (b : Bool) (how : Discharge) (moment : ℕ) → is_pending (status_after b how moment) ≡ false
not_pending b delivered moment = refl
not_pending b expanded moment = refl
not_pending b affirmed moment = refl
not_pending true (not_delivered reason diagnostic) moment = refl
not_pending false (not_delivered reason diagnostic) moment = refl
not_pending true (failed failure) moment = refl
not_pending false (failed failure) moment = refl
not_pending b discarded moment = refl
not_pending b passed moment = refl
not_pending b (sent peer tables decided format) moment = refl

was_pending : (ss : List (Option Status)) (rs : List ℕ) (s : Status) (r : ℕ) → is_pending s ≡ false
    → has_status is_pending (numbered (with_statuses ss rs s) r) ≡ true
    → has_status is_pending (numbered ss r) ≡ true
was_pending ss rs s r settled pending = by_status (numbered ss r) refl
  where
    by_name : (x : Option Status) (b : Bool) → numbered ss r ≡ Some x → names rs r ≡ b
        → has_status is_pending (numbered ss r) ≡ true
    by_name x true is named =
        let becomes : has_status is_pending (numbered (with_statuses ss rs s) r) ≡ is_pending s =
        ap (has_status is_pending) (with-named ss rs s r x is named) in
        absurd cc
    by_name x false is unnamed = sym (ap (has_status is_pending) (with-other ss rs s r unnamed)) ∙ pending

    by_status : (o : Option (Option Status)) → numbered ss r ≡ o → has_status is_pending (numbered ss r) ≡ true
    by_status None is =
        let none : has_status is_pending (numbered (with_statuses ss rs s) r) ≡ false =
        ap (has_status is_pending) (with-none ss rs s r is) in
        absurd cc
    by_status (Some x) is = by_name x (names rs r) is refl

discharged_later : (item : ItemValue) (rs : List ℕ) (how : Discharge) (when : ℕ)
    → IsLater item (discharged_item item rs how when)
discharged_later item rs how when = record {
  octets = refl;
  arrival = refl;
  pending = λ r.
      let b : Bool = is_report (value_of item.octets) in
      was_pending item.statuses rs (status_after b how when) r (not_pending b how when);
}

later_self : (item : ItemValue) → IsLater item item
later_self item = record { octets = refl; arrival = refl; pending = λ r is. is }

later_trans : (a b c : ItemValue) → IsLater a b → IsLater b c → IsLater a c
later_trans a b c one two = record {
  octets = two.octets ∙ one.octets;
  arrival = two.arrival ∙ one.arrival;
  pending = λ r is. one.pending r (two.pending r is);
}

-- ---- what is idle stays so

-- the verdict on a recipient of an item is the one later
pub verdict_later : (format : ℕ) (text : List ℕ) (old new : ItemValue) (r moment : ℕ) → IsLater old new
    → verdict_of format text new.octets new.arrival r moment ≡ verdict_of format text old.octets old.arrival r moment
verdict_later format text old new r moment later =
    ap (λ (o : List ℕ). verdict_of format text o new.arrival r moment) later.octets
    ∙ ap (λ (a : ℕ). verdict_of format text old.octets a r moment) later.arrival

expired_later : (format : ℕ) (text : List ℕ) (old new : ItemValue) (moment : ℕ) → IsLater old new
    → is_expired format text new.octets new.arrival moment ≡ is_expired format text old.octets old.arrival moment
expired_later format text old new moment later =
    ap (λ (o : List ℕ). is_expired format text o new.arrival moment) later.octets
    ∙ ap (λ (a : ℕ). is_expired format text old.octets a moment) later.arrival

pub idle_later : (format : ℕ) (text : List ℕ) (old new : ItemValue) (moment : ℕ) → IsLater old new
    → IsIdle format text old moment → IsIdle format text new moment
idle_later format text old new moment later idle r pending =
    let before = idle r (later.pending r pending) in
    record {
      waits = ap calls_at_once (verdict_later format text old new r moment later) ∙ before.waits;
      unexpired = expired_later format text old new moment later ∙ before.unexpired;
    }

-- ---- items

in_front : (items more : List ItemValue) (i : ℕ) (item : ItemValue) → GoesOn items i item
    → GoesOn (items ++ more) i item
in_front items more i item on = record {
  item = on.item;
  item_is = numbered-front items more i on.item on.item_is;
  later = on.later;
}

put_back : (items : List ItemValue) (was new : ItemValue) (j i : ℕ) (item : ItemValue)
    → numbered items j ≡ Some was → IsLater was new → GoesOn items i item
    → GoesOn (set_numbered items j new) i item
put_back items was new j i item there later on = elim (cases_Bool (eqb i j)) [
  | inl here ↦ (
      let same : i ≡ j = eqb-true i j here in
      let is : on.item ≡ was = same_Some on.item was (sym on.item_is ∙ (ap (numbered items) same ∙ there)) in
      record {
        item = new;
        item_is = ap (numbered (set_numbered items j new)) same ∙ set-same items j new was there;
        later = later_trans item was new (subst (λ (x : ItemValue). IsLater item x) is on.later) later;
      })
  | inr apart ↦ record {
    item = on.item;
    item_is = set-other items j i new apart ∙ on.item_is;
    later = on.later;
  }
]

-- ---- steps of the machine

goes_on_one : (m : Machine) (step : MachineStep) (i : ℕ) (item : ItemValue) → GoesOn m.items i item
    → GoesOn (machine_after m step).items i item
goes_on_one m (set_tables other) i item on = on
goes_on_one m set_format i item on = on
goes_on_one m (accept octets origin when) i item on = in_front m.items _ i item on
goes_on_one m (discharge j rs how when) i item on = by_item (numbered m.items j) refl
  where
    by_item : (o : Option ItemValue) → numbered m.items j ≡ o → GoesOn (items_after m o j rs how when) i item
    by_item None is = on
    by_item (Some was) is =
        in_front (set_numbered m.items j (discharged_item was rs how when)) _ i item
        (put_back m.items was (discharged_item was rs how when) j i item is (discharged_later was rs how when) on)

goes_on_run : (m : Machine) (steps : List MachineStep) (i : ℕ) (item : ItemValue) → GoesOn m.items i item
    → GoesOn (machine_run m steps).items i item
goes_on_run m [] i item on = on
goes_on_run m (step ∷ steps) i item on =
    goes_on_run (machine_after m step) steps i item (goes_on_one m step i item on)

pub items_go_on : ItemsGoOn
items_go_on m steps i item is =
    goes_on_run m steps i item (record { item = item; item_is = is; later = later_self item })
