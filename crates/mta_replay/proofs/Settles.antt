-- A step that settles one recipient is possible where each item that it makes has a number, and is then its change.
use Rattle.std.proofs.Common.{◌≡◌, ◌<◌, ◌+◌, ◌^◌, ℕ, Bool, true, false, cond, nat_lt, List, [], ◌∷◌}
use Rattle.std.proofs.Common.{length, Option, Some, None, refl, sym, subst, arith, length-append}
use Rattle.std.specs.Prelude.{option_to_list}
use Rattle.std.proofs.lemmas.Bool.{ltb-true, ltb-false}
use Rattle.mta_records.specs.declared.step.Step.{Step}
use Rattle.mta_procedures.specs.declared.verdict.Verdict.{Verdict}
use Rattle.mta_records.specs.declared.state.Status.{Status}
use Rattle.mta_records.specs.declared.state.MailboxLine.{MailboxLine}
use Rattle.mta_machine.specs.Items.{ItemValue, Machine, numbered, is_pending_at}
use Rattle.mta_machine.specs.Machine.{Discharge, discharge, IsJustified, Needs, verdict_at}
use Rattle.mta_machine.proofs.Later.{length-set_numbered}
use Rattle.mta_state.specs.declared.parts.Made.{Made}
use Rattle.mta_state.specs.Parts.{made_items, settled_machine}
use Rattle.mta_state.specs.Settled.{settled, put_settled, with_settled}
use Rattle.mta_histories.specs.Lanes.{State}
use Rattle.mta_histories.specs.Classes.{Settling, settles, class_of, moment_of}
use Rattle.mta_histories.specs.History.{IsPossible, discharge_by}
use Rattle.mta_histories.proofs.Dues.{of-one}
use Rattle.mta_state.specs.declared.change.Change.{Change}
use Rattle.mta_state.specs.declared.change.Change.TheVariants as change
use Rattle.mta_state.specs.Prepared.{Prepares}
use Rattle.mta_state.specs.Settling.{IsDischarge}
use Rattle.mta_state.proofs.Discharging.{machine_is, settle_changes}
use Rattle.mta_replay.specs.Settleable.{IsReady}
use Rattle.mta_replay.specs.Settling.{settling_change}

put-length : (items : List ItemValue) (i : ℕ) (o : Option ItemValue) (rs : List ℕ) (status : Status)
    → length (put_settled items i o rs status) ≡ length items
put-length items i None rs status = refl
put-length items i (Some item) rs status = length-set_numbered items i (settled item rs status)

-- how many items there are then
settled-length : (m : Machine) (i : ℕ) (rs : List ℕ) (status : Status) (made : List ItemValue)
    (lines : List MailboxLine) (moment : ℕ)
    → length (settled_machine m i rs status made lines moment).items ≡ length m.items + length made
settled-length m i rs status made lines moment =
    let both = length-append (with_settled m.items i rs status) made in
    let same = put-length m.items i (numbered m.items i) rs status in
    omega (arith, both, same)

module _ (s : State) (step : Step) (how : Settling) (i r moment : ℕ) (v : Verdict) (status : Status) (made : Made)
    (line : Option MailboxLine)
  where
    abbrev by : Option Verdict → Discharge
    by o = discharge_by how o

    abbrev Leaves : Option Verdict → Type 0
    Leaves o = IsDischarge s.machine i r (by o) moment status (made_items made) (option_to_list line)

    abbrev are_few : Bool
    are_few = nat_lt (length s.machine.items + length (made_items made)) (2 ^ 32)

    abbrev new : Machine
    new = settled_machine s.machine i (r ∷ []) status (made_items made) (option_to_list line) moment

    count : length new.items ≡ length s.machine.items + length (made_items made)
    count = settled-length s.machine i (r ∷ []) status (made_items made) (option_to_list line) moment

    few : are_few ≡ true → length new.items < 2 ^ 32
    few test = let below = ltb-true _ _ test in omega (arith, count, below)

    module _ (class_is : class_of step ≡ settles how i r) (moment_is : moment_of step ≡ Some moment)
        (ready : IsReady s i r moment v)
      where
        needs : IsJustified s.machine i (r ∷ []) (by (Some v)) moment
            → Needs s.machine (discharge i (r ∷ []) (by (verdict_at s.machine i r moment)) moment)
        needs justified =
            subst (λ (o : Option Verdict). Needs s.machine (discharge i (r ∷ []) (by o) moment))
            (sym ready.verdict_is) (
              of-one (λ q. is_pending_at s.machine i q ≡ true) r ready.may.waiting.pending,
              (refl, tt),
              justified,
              ready.may.in_time,
            )

        leaves : Leaves (Some v) → Leaves (verdict_at s.machine i r moment)
        leaves is = subst (λ (o : Option Verdict). Leaves o) (sym ready.verdict_is) is

        never : Leaves (Some v) → are_few ≡ false → IsPossible s step → ⊥
        never is test possible =
            let below : length new.items < 2 ^ 32 =
            subst (λ (m : Machine). length m.items < 2 ^ 32)
            (sym (machine_is s step how i r moment status made line class_is moment_is (leaves is))) possible.numbers in
            let above = ltb-false _ _ test in omega (arith, count, below, above)

        pub settles_so : IsJustified s.machine i (r ∷ []) (by (Some v)) moment → Leaves (Some v)
            → (found : Option Change) → found ≡ settling_change s.machine.items i r status made line moment
            → Prepares s step found
        settles_so justified is found found_is =
            subst (λ (o : Option Change). Prepares s step o) (sym found_is) (by_test are_few refl)
          where
            by_test : (b : Bool) → are_few ≡ b
                → Prepares s step (cond b (Some (change.Settle i r status made line moment)) None)
            by_test true test =
                settle_changes s step how i r moment status made line class_is moment_is ready.may.waiting.free
                (needs justified) ready.may.timely (leaves is) (few test)
            by_test false test = never is test
