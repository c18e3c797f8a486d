-- A piece that comes: whether its lane takes it, and what is wrong with its octets.
use Rattle.std.proofs.Common.{◌≡◌, ℕ, ◌+◌, ◌-◌, ◌<◌, ◌≤◌, ◌^◌, Bool, true, false, cond, inl, inr, List, ◌++◌}
use Rattle.std.proofs.Common.{length, take}
use Rattle.std.proofs.Common.{Option, None, Some, Result, Ok, Err, refl, sym, ap, subst, ◌∙◌, arith, w64}
use Rattle.std.specs.Prelude.{nat_lt, ◌↔◌}
use Rattle.std.specs.List.{concat}
use Rattle.std.proofs.lemmas.Bool.{cases_lt, ltb-true, ltb-false}
use Rattle.std.proofs.lemmas.List.{length-append}
use Rattle.std.proofs.lemmas.Option.{same_Some}
use Rattle.mta_ber.specs.declared.fault.Fault.{Fault}
use Rattle.mta_ber.specs.declared.fault.Kind.TheVariants as Kinds
use Rattle.mta_edge.specs.Views.{DiskView}
use Rattle.mta_records.specs.declared.step.Step.{Step}
use Rattle.mta_records.specs.declared.step.Step.TheVariants as steps
use Rattle.mta_records.specs.declared.fault.CompleteFault.{CompleteFault}
use Rattle.mta_records.specs.declared.fault.CompleteFault.TheVariants as CompleteFaults
use Rattle.mta_records.specs.declared.fault.StepFault.{StepFault}
use Rattle.mta_records.specs.declared.fault.StepFault.TheVariants as Faults
use Rattle.mta_apdu.specs.Apdus.{ApduValue, apdu_of}
use Rattle.mta_apdu.proofs.ApduLaws.{apdu_full}
use Rattle.mta_machine.specs.Apdu.{IsApdu}
use Rattle.mta_machine.specs.Items.{ItemValue}
use Rattle.mta_ber.specs.declared.fault.ReadFault.TheVariants as ReadFaults
use Rattle.mta_lane_recv.specs.Half as recv
use Rattle.mta_histories.specs.Lanes.{Lane, State, lane_at}
use Rattle.mta_histories.specs.Classes.{LaneStep, secure, complete, on_lane, class_of}
use Rattle.mta_histories.specs.History.{IsOfGeneration, IsOnLane, IsPossible, TakesPiece, longest_activity}
use Rattle.mta_histories.specs.History.{with_piece, when}
use Rattle.mta_histories.specs.Numbers.{numbers_on, numbers_needed}
use Rattle.mta_records.specs.Body.{body_of, lane_octets, activity_octets, numbered_activity_octets}
use Rattle.mta_records.specs.Fields.{string}
use Rattle.mta_records.specs.Form.{number_octets}
use Rattle.mta_journal.specs.Bodies.{longest_body}
use Rattle.mta_journal.specs.Shown.{Shown as JournalShown}
use Rattle.mta_lanes.proofs.Concats.{length_behind}
use Rattle.mta_state.specs.declared.kept.Kept.{Kept}
use Rattle.mta_state.specs.declared.change.Change.{Change}
use Rattle.mta_state.specs.declared.change.Change.TheVariants as change
use Rattle.mta_state.specs.Kept.{state_of}
use Rattle.mta_state.specs.Prepared.{IsChangeOf}
use Rattle.mta_replay.proofs.Completing.{complete_changes}
use Rattle.mta_spool.specs.OnLanes.{refusal_on}
use Rattle.mta_spool.specs.Receiving.{IsBad, IsExpected, IsFaultOn, IsItemOn, IsMemoryOrSpent, IsNoApdu, IsTooLong}
use Rattle.mta_spool.specs.Receiving.{Receives, step_fault_of}
use Rattle.mta_spool.specs.Refusals.{ExpectsPiece, IsFenced, IsRefused, LaneExpects}
use Rattle.mta_spool.specs.Shown.{AtOpening, Shown}
use Rattle.mta_spool.specs.Stands.{Appends, IsSpent, Makes}
use Rattle.mta_spool.specs.Turning.{IsUnchanged}
use Rattle.mta_spool.proofs.Making.{is_spent, no_memory, refused_for_lane}
use Rattle.mta_spool.proofs.OnLanes.{lane_possible}
use Rattle.mta_spool.proofs.Refused.{allowed}

-- ---- whether the lane takes it

module _ (s : State) (n g : ℕ) where
  pub on_expected : (step : LaneStep) (moment : ℕ) (lane : Lane) (A : Type 0)
      → Some lane ≡ lane_at n s.lanes.open_lanes → A ↔ ((g ≡ lane.generation) × LaneExpects s lane step moment)
      → A ↔ IsExpected s n g step moment
  on_expected step moment lane A found same = (
    λ a. let both = same.0 a in
        record { lane = lane; lane_is = sym found; current = both.0; expected = both.1 },
    λ on.
        let e : on.lane ≡ lane = same_Some on.lane lane (sym on.lane_is ∙ sym found) in
        same.1 (
          subst (λ (l : Lane). g ≡ l.generation) e on.current,
          subst (λ (l : Lane). LaneExpects s l step moment) e on.expected,
        ),
  )

  pub none_expected : (step : LaneStep) (moment : ℕ) (A : Type 0) → None ≡ lane_at n s.lanes.open_lanes → (A → ⊥)
      → A ↔ IsExpected s n g step moment
  none_expected step moment A none never =
      (λ a. absurd (never a), λ on. let both : None ≡ Some on.lane = none ∙ on.lane_is in absurd cc)

-- a Complete takes the pieces that a Secure does
pub last_piece : (lane : Lane) (activity number : ℕ) (piece : List ℕ)
    → ExpectsPiece lane (recv.Secure activity number) piece → ExpectsPiece lane (recv.Complete activity number) piece
last_piece lane activity number piece is =
    record { agreed = is.agreed; taken = is.taken; some_octets = is.some_octets; short = is.short }

pub any_piece : (lane : Lane) (activity number : ℕ) (piece : List ℕ)
    → ExpectsPiece lane (recv.Complete activity number) piece → ExpectsPiece lane (recv.Secure activity number) piece
any_piece lane activity number piece is =
    record { agreed = is.agreed; taken = is.taken; some_octets = is.some_octets; short = is.short }

-- ---- why it is refused where it does not

-- a step that tells the lane's generation, and is fenced by it
record Plain (g : ℕ) (step : LaneStep) : Type 0 where
  pub fenced : (lane : Lane) → g < lane.generation → IsFenced lane (Some g) step
  pub later : (lane : Lane) → IsFenced lane (Some g) step → g < lane.generation
  pub told : (lane : Lane) → IsOfGeneration lane (Some g) step → g ≡ lane.generation
  pub is_of : (lane : Lane) → g ≡ lane.generation → IsOfGeneration lane (Some g) step

secure-plain : (g activity number : ℕ) (piece : List ℕ) → Plain g (secure activity number piece)
secure-plain g activity number piece = record {
  fenced = λ lane later. later;
  later = λ lane fenced. fenced;
  told = λ lane of. same_Some g lane.generation of;
  is_of = λ lane same. ap (λ (x : ℕ). Some x) same;
}

complete-plain : (g activity number : ℕ) (piece : List ℕ) → Plain g (complete activity number piece)
complete-plain g activity number piece = record {
  fenced = λ lane later. later;
  later = λ lane fenced. fenced;
  told = λ lane of. same_Some g lane.generation of;
  is_of = λ lane same. ap (λ (x : ℕ). Some x) same;
}

module _ (s : State) (n g moment : ℕ) (step : LaneStep) (plain : Plain g step) where
  on-open : (lane : Lane) → lane_at n s.lanes.open_lanes ≡ Some lane → (IsExpected s n g step moment → ⊥) → (b : Bool)
      → nat_lt g lane.generation ≡ b
      → IsRefused s (on_lane n (Some g) step) moment (cond b (Faults.Fenced lane.generation) Faults.Unexpected)
  on-open lane found never true test = record {
    lane = lane;
    lane_is = found;
    fenced = plain.fenced lane (ltb-true g lane.generation test);
    generation_is = refl;
  }
  on-open lane found never false test = record {
    lane = lane;
    lane_is = found;
    current = λ fenced. omega (arith, plain.later lane fenced, ltb-false g lane.generation test);
    not_now = λ of expects. never (record {
      lane = lane;
      lane_is = found;
      current = plain.told lane of;
      expected = expects;
    });
  }

  refused-on : (IsExpected s n g step moment → ⊥) → (o : Option Lane) → lane_at n s.lanes.open_lanes ≡ o
      → IsRefused s (on_lane n (Some g) step) moment (refusal_on o n g)
  refused-on never None none = (refl, none)
  refused-on never (Some lane) found = on-open lane found never (nat_lt g lane.generation) refl

  -- where it is expected none of the refusals for a lane stands
  none-stands : IsExpected s n g step moment → (f : StepFault) → IsRefused s (on_lane n (Some g) step) moment f → ⊥
  none-stands is (Faults.Fenced generation) refusal =
      let same = same_Some refusal.lane is.lane (sym refusal.lane_is ∙ is.lane_is) in
      omega (
        arith,
        plain.later refusal.lane refusal.fenced,
        ap (λ (l : Lane). l.generation) same,
        is.current,
      )
  none-stands is (Faults.NoLane m) refusal = let both : None ≡ Some is.lane = sym refusal.1 ∙ is.lane_is in cc
  none-stands is Faults.Unexpected refusal =
      let same = same_Some is.lane refusal.lane (sym is.lane_is ∙ refusal.lane_is) in
      refusal.not_now (plain.is_of refusal.lane (is.current ∙ ap (λ (l : Lane). l.generation) same))
      (subst (λ (l : Lane). LaneExpects s l step moment) same is.expected)
  none-stands is any1 refusal = refusal

module _ (s : State) (n g activity number : ℕ) (piece : List ℕ) (moment : ℕ) where
  pub secure_refused : (IsExpected s n g (secure activity number piece) moment → ⊥)
      → IsRefused s (on_lane n (Some g) (secure activity number piece)) moment
      (refusal_on (lane_at n s.lanes.open_lanes) n g)
  secure_refused never =
      refused-on s n g moment (secure activity number piece) (secure-plain g activity number piece) never
      (lane_at n s.lanes.open_lanes) refl

  pub complete_refused : (IsExpected s n g (complete activity number piece) moment → ⊥)
      → IsRefused s (on_lane n (Some g) (complete activity number piece)) moment
      (refusal_on (lane_at n s.lanes.open_lanes) n g)
  complete_refused never =
      refused-on s n g moment (complete activity number piece) (complete-plain g activity number piece) never
      (lane_at n s.lanes.open_lanes) refl

  pub complete_stands : IsExpected s n g (complete activity number piece) moment → (f : StepFault)
      → IsRefused s (on_lane n (Some g) (complete activity number piece)) moment f → ⊥
  complete_stands is f refusal =
      none-stands s n g moment (complete activity number piece) (complete-plain g activity number piece) is f refusal

  -- ---- octets that are too many

  abbrev too_many : Fault
  too_many = record { at = longest_activity; kind = Kinds.TooLong }

  pub is_too_long : IsExpected s n g (secure activity number piece) moment
      → (IsOnLane s n (Some g) (secure activity number piece) moment → ⊥)
      → IsBad s n g (secure activity number piece) moment (IsTooLong number piece too_many)
  is_too_long is never =
      elim (cases_lt longest_activity (length (concat (with_piece is.lane.pieces number piece)))) [
        | inl long ↦
            record {
              lane = is.lane;
              lane_is = is.lane_is;
              current = is.current;
              expected = is.expected;
              wrong = (long, refl);
            }
        | inr short ↦
            absurd (never (record {
              lane = is.lane;
              lane_is = is.lane_is;
              current = ap (λ (x : ℕ). Some x) is.current;
              needs = record {
                agreed = is.expected.agreed;
                taken = is.expected.taken;
                some_octets = is.expected.some_octets;
                short = is.expected.short;
                within = short;
              };
            }))
      ]

  pub not_too_long : IsOnLane s n (Some g) (secure activity number piece) moment → (f : Fault)
      → IsBad s n g (secure activity number piece) moment (IsTooLong number piece f) → ⊥
  not_too_long on f bad =
      let same = same_Some on.lane bad.lane (sym on.lane_is ∙ bad.lane_is) in
      omega (
        arith,
        on.needs.within,
        bad.wrong.0,
        ap (λ (l : Lane). length (concat (with_piece l.pieces number piece))) same,
      )

  pub bad_secure : (f : Fault) → IsBad s n g (secure activity number piece) moment (IsTooLong number piece f)
      → IsExpected s n g (secure activity number piece) moment
  bad_secure f bad =
      record { lane = bad.lane; lane_is = bad.lane_is; current = bad.current; expected = bad.expected }

  -- ---- octets that spell no APDU

  on_lane_there : (o : Option Lane) (lane : Lane) (P : Option Lane → Type 0) → o ≡ Some lane → P o → P (Some lane)
  on_lane_there o lane P is has = subst P is has

  pub is_no_apdu : (f : Fault) → IsExpected s n g (complete activity number piece) moment
      → IsFaultOn (lane_at n s.lanes.open_lanes) number piece (ReadFaults.Bad f)
      → IsBad s n g (complete activity number piece) moment (IsNoApdu number piece f)
  is_no_apdu f is has = record {
    lane = is.lane;
    lane_is = is.lane_is;
    current = is.current;
    expected = is.expected;
    wrong =
        let bad = on_lane_there (lane_at n s.lanes.open_lanes) is.lane
        (λ (o : Option Lane). IsFaultOn o number piece (ReadFaults.Bad f)) is.lane_is has in
        bad.1;
  }

  pub may_complete : (item : ItemValue) → IsExpected s n g (complete activity number piece) moment
      → IsItemOn (lane_at n s.lanes.open_lanes) number piece moment item
      → IsOnLane s n (Some g) (complete activity number piece) moment
  may_complete item is has =
      let made = on_lane_there (lane_at n s.lanes.open_lanes) is.lane
      (λ (o : Option Lane). IsItemOn o number piece moment item) is.lane_is has in
      let apdu : IsApdu (concat (with_piece is.lane.pieces number piece)) = made.0 in
      record {
        lane = is.lane;
        lane_is = is.lane_is;
        current = ap (λ (x : ℕ). Some x) is.current;
        needs = (
          record {
            agreed = is.expected.agreed;
            taken = is.expected.taken;
            some_octets = is.expected.some_octets;
            short = is.expected.short;
            within = apdu.1.short;
          },
          apdu,
        );
      }

  spells-no-fault : (octets : List ℕ) (f : Fault) → IsApdu octets → apdu_of octets ≡ Err f → ⊥
  spells-no-fault octets f apdu wrong =
      let both : ◌≡◌ {A = Result ApduValue Fault} (Ok apdu.0) (Err f) = sym (apdu_full octets apdu.0 apdu.1) ∙ wrong in
      cc

  pub not_no_apdu : IsOnLane s n (Some g) (complete activity number piece) moment → (f : Fault)
      → IsBad s n g (complete activity number piece) moment (IsNoApdu number piece f) → ⊥
  not_no_apdu on f bad =
      let same = same_Some on.lane bad.lane (sym on.lane_is ∙ bad.lane_is) in
      spells-no-fault (concat (with_piece bad.lane.pieces number piece)) f
      (subst (λ (l : Lane). IsApdu (concat (with_piece l.pieces number piece))) same on.needs.1) bad.wrong

  -- the octets have one first fault
  pub one_fault : (f h : Fault) → IsExpected s n g (complete activity number piece) moment
      → IsFaultOn (lane_at n s.lanes.open_lanes) number piece (ReadFaults.Bad f)
      → IsBad s n g (complete activity number piece) moment (IsNoApdu number piece h) → h ≡ f
  one_fault f h is has bad =
      let there = on_lane_there (lane_at n s.lanes.open_lanes) bad.lane
      (λ (o : Option Lane). IsFaultOn o number piece (ReadFaults.Bad f)) bad.lane_is has in
      let wrong : apdu_of (concat (with_piece bad.lane.pieces number piece)) ≡ Err f = there.1 in
      let both : ◌≡◌ {A = Result ApduValue Fault} (Err h) (Err f) = sym bad.wrong ∙ wrong in cc

  -- a lane that takes a piece is open
  pub expected_open : IsExpected s n g (complete activity number piece) moment → lane_at n s.lanes.open_lanes ≡ None → ⊥
  expected_open is none =
      let both : ◌≡◌ {A = Option Lane} None (Some is.lane) = sym none ∙ is.lane_is in cc

  pub bad_complete : (f : Fault) → IsBad s n g (complete activity number piece) moment (IsNoApdu number piece f)
      → IsExpected s n g (complete activity number piece) moment
  bad_complete f bad =
      record { lane = bad.lane; lane_is = bad.lane_is; current = bad.current; expected = bad.expected }

-- ---- it may be made

none-to-secure : (o : Option Lane) (activity number : ℕ) (piece : List ℕ)
    → numbers_on o (secure activity number piece) ≡ 0
none-to-secure None activity number piece = refl
none-to-secure (Some lane) activity number piece = refl

module _ (s : State) (n g activity number : ℕ) (piece : List ℕ) where
  secure_left : length s.machine.items < 2 ^ 32
      → length s.machine.items + numbers_needed s (class_of (steps.Secure n g activity number piece)) < 2 ^ 32
  secure_left few =
      omega (arith, few, none-to-secure (lane_at n s.lanes.open_lanes) activity number piece)

  pub secure_possible : length s.machine.items < 2 ^ 32 → IsOnLane s n (Some g) (secure activity number piece) s.moment
      → IsPossible s (steps.Secure n g activity number piece)
  secure_possible few on =
      lane_possible s (steps.Secure n g activity number piece) n (Some g) (secure activity number piece) refl on
      (omega arith) (secure_left few)

  pub secure_numbers : length s.machine.items < 2 ^ 32 → IsSpent s (steps.Secure n g activity number piece) → ⊥
  secure_numbers few spent = omega (arith, spent, secure_left few)

  module _ (moment : ℕ) where
    complete_needs : IsExpected s n g (complete activity number piece) moment
        → numbers_needed s (class_of (steps.Complete n g activity number piece moment)) ≡ 2
    complete_needs is =
        ap (λ (o : Option Lane). numbers_on o (complete activity number piece)) is.lane_is

    pub expected_on : IsOnLane s n (Some g) (complete activity number piece) moment
        → IsExpected s n g (complete activity number piece) moment
    expected_on on = record {
      lane = on.lane;
      lane_is = on.lane_is;
      current = same_Some g on.lane.generation on.current;
      expected = record {
        agreed = on.needs.0.agreed;
        taken = on.needs.0.taken;
        some_octets = on.needs.0.some_octets;
        short = on.needs.0.short;
      };
    }

    pub complete_spent : IsExpected s n g (complete activity number piece) moment
        → 2 ^ 32 ≤ length s.machine.items + 2 → IsSpent s (steps.Complete n g activity number piece moment)
    complete_spent is few = omega (arith, few, complete_needs is)

    pub complete_numbers : IsExpected s n g (complete activity number piece) moment
        → length s.machine.items + 2 < 2 ^ 32 → IsSpent s (steps.Complete n g activity number piece moment) → ⊥
    complete_numbers is left spent = omega (arith, left, spent, complete_needs is)

    pub complete_possible : IsOnLane s n (Some g) (complete activity number piece) moment → s.moment ≤ moment
        → length s.machine.items + 2 < 2 ^ 32 → IsPossible s (steps.Complete n g activity number piece moment)
    complete_possible on timely left =
        lane_possible s (steps.Complete n g activity number piece moment) n (Some g) (complete activity number piece)
        refl on timely (omega (arith, left, complete_needs (expected_on on)))

-- ---- its record is short

piece-fits : (pieces : List (List ℕ)) (number : ℕ) (piece : List ℕ)
    → length (concat (with_piece pieces number piece)) ≤ longest_activity → length piece ≤ longest_activity
piece-fits pieces number piece within = omega (arith, within, length_behind (take (number - 1) pieces) piece)

pub secured_fits : (s : State) (n g activity number moment : ℕ) (piece : List ℕ)
    → IsOnLane s n (Some g) (secure activity number piece) moment → length piece ≤ longest_activity
secured_fits s n g activity number moment piece on = piece-fits on.lane.pieces number piece on.needs.within

pub completed_fits : (s : State) (n g activity number moment : ℕ) (piece : List ℕ)
    → IsOnLane s n (Some g) (complete activity number piece) moment → length piece ≤ longest_activity
completed_fits s n g activity number moment piece on = piece-fits on.lane.pieces number piece on.needs.0.within

string-octets : (octets : List ℕ) → length (string octets) ≡ length octets + 4
unfolding string number_octets
string-octets octets = omega arith

numbers-octets : (n g activity number : ℕ) → length (numbered_activity_octets (((n, g), activity), number)) ≡ 20
unfolding numbered_activity_octets activity_octets lane_octets number_octets
numbers-octets n g activity number = refl

moment-octets : (moment : ℕ) → length (number_octets w64 moment) ≡ 8
unfolding number_octets
moment-octets moment = refl

module _ (n g activity number : ℕ) (piece : List ℕ) (fits : length piece ≤ longest_activity) where
  pub short_secure : length (body_of (steps.Secure n g activity number piece)) ≤ longest_body
  short_secure =
      omega (
        arith,
        fits,
        length-append (numbered_activity_octets (((n, g), activity), number)) (string piece),
        numbers-octets n g activity number,
        string-octets piece,
      )

  pub short_complete : (moment : ℕ) → length (body_of (steps.Complete n g activity number piece moment)) ≤ longest_body
  short_complete moment =
      omega (
        arith,
        fits,
        length-append (numbered_activity_octets (((n, g), activity), number))
            (string piece ++ number_octets w64 moment),
        length-append (string piece) (number_octets w64 moment),
        numbers-octets n g activity number,
        string-octets piece,
        moment-octets moment,
      )

-- ---- what is answered for the step

module _ {D C T : Type 0} (model : DiskView D) (step : Step) (Bad : Fault → Type 0) (old new : Shown D C)
    (never : (fault : Fault) → Bad fault → ⊥) where
  -- the step was made or refused, and the octets are not bad
  pub step_receives : (result : Result T CompleteFault) (fault : Option StepFault) → step_fault_of result ≡ Some fault
      → Appends model step old new fault → Receives model step Bad old new result
  step_receives result fault is appends = record {
    appends = λ other e.
        subst (λ (f : Option StepFault). Appends model step old new f) (same_Some fault other (sym is ∙ e)) appends;
    bad = λ bad e.
        let none : step_fault_of result ≡ None = ap (λ (r : Result T CompleteFault). step_fault_of r) e in
        let both : ◌≡◌ {A = Option (Option StepFault)} None (Some fault) = sym none ∙ is in absurd cc;
    bad_where = λ bad going is_bad. absurd (never bad is_bad);
  }

  -- it was refused for the lane
  pub lane_receives : (f : StepFault) → IsUnchanged old new → old.journal.ended ≡ false
      → IsRefused old.current (class_of step) (when old.current step) f
      → Receives {T = T} model step Bad old new (Err (CompleteFaults.Step f))
  lane_receives f same going refusal =
      step_receives (Err (CompleteFaults.Step f)) (Some f) refl
      (subst
      (λ (made : List Step).
      Makes model step old.journal old.current old.entries new.journal new.current made (Some f)) (sym same.2)
      (refused_for_lane model step f old.journal new.journal old.current new.current same.0 same.1 going refusal))

abbrev ReceivesBy : {D C T : Type 0} → DiskView D → Step → (State → Fault → Type 0) → C → AtOpening D C → Shown D C
    → Result T CompleteFault → JournalShown D → State → List Step → Type 0
ReceivesBy model step Bad clock opened new result journal state entries =
    Receives model step (Bad state)
    (record { journal = journal; clock = clock; current = state; entries = entries; opened = opened }) new result

-- the same of a journal, a state and entries that are equal to those before
pub receives_along : {D C T : Type 0} (model : DiskView D) (step : Step) (Bad : State → Fault → Type 0)
    (old mid new : Shown D C) (result : Result T CompleteFault) → IsUnchanged old mid
    → Receives model step (Bad mid.current) mid new result → Receives model step (Bad old.current) old new result
receives_along model step Bad old mid new result same receives =
    subst (ReceivesBy model step Bad old.clock old.opened new result old.journal old.current) same.2
    (subst (λ (s : State). ReceivesBy model step Bad old.clock old.opened new result old.journal s mid.entries) same.1
    (subst (λ (j : JournalShown _). ReceivesBy model step Bad old.clock old.opened new result j mid.current mid.entries)
    same.0 (record { appends = receives.appends; bad = receives.bad; bad_where = receives.bad_where })))

-- a piece that its lane takes, with octets that may be secured
module _ {D C : Type 0} (model : DiskView D) (old : Shown D C) (n g activity number : ℕ) (piece : List ℕ)
    (on : IsOnLane old.current n (Some g) (secure activity number piece) old.current.moment) where
  abbrev Secures : Shown D C → Result (Unit {0}) CompleteFault → Type 0
  Secures new result =
      Receives model (steps.Secure n g activity number piece)
      (λ f. IsBad old.current n g (secure activity number piece) old.current.moment (IsTooLong number piece f)) old new
      result

  pub secured : (new : Shown D C) (result : Result (Unit {0}) CompleteFault) (fault : Option StepFault)
      → step_fault_of result ≡ Some fault
      → Appends model (steps.Secure n g activity number piece) old new fault → Secures new result
  secured new result fault is made =
      step_receives model (steps.Secure n g activity number piece)
      (λ f. IsBad old.current n g (secure activity number piece) old.current.moment (IsTooLong number piece f)) old new
      (λ f bad. not_too_long old.current n g activity number piece old.current.moment on f bad) result fault is made

  -- there was no memory to hold it
  pub secure_no_memory : old.journal.ended ≡ false → length old.current.machine.items < 2 ^ 32
      → Secures old (Err (CompleteFaults.Step Faults.Memory))
  secure_no_memory going few =
      secured old (Err (CompleteFaults.Step Faults.Memory)) (Some Faults.Memory) refl
      (no_memory model (steps.Secure n g activity number piece) old.journal old.journal old.current old.current refl
      refl going (secure_numbers old.current n g activity number piece few)
      (λ f is. allowed old.current (class_of (steps.Secure n g activity number piece)) old.current.moment f on is))

-- the last piece, with octets that spell an APDU, and nothing changed yet
module _ {D C : Type 0} (model : DiskView D) (old mid : Shown D C) (n g activity number : ℕ) (piece : List ℕ)
    (moment : ℕ) (same : mid ≡ old) where
  abbrev Completes : Shown D C → Result ℕ CompleteFault → Type 0
  Completes new result =
      Receives model (steps.Complete n g activity number piece moment)
      (λ f. IsBad old.current n g (complete activity number piece) moment (IsNoApdu number piece f)) old new result

  -- it is refused before
  pub last_refused : (result : Result ℕ CompleteFault) → Completes old result → Completes mid result
  last_refused result refused = subst (λ (v : Shown D C). Completes v result) (sym same) refused

  pub completed : IsOnLane old.current n (Some g) (complete activity number piece) moment
      → (new : Shown D C) (result : Result ℕ CompleteFault) (fault : Option StepFault)
      → step_fault_of result ≡ Some fault
      → Appends model (steps.Complete n g activity number piece moment) mid new fault → Completes new result
  completed on new result fault is made =
      step_receives model (steps.Complete n g activity number piece moment)
      (λ f. IsBad old.current n g (complete activity number piece) moment (IsNoApdu number piece f)) old new
      (λ f bad. not_no_apdu old.current n g activity number piece moment on f bad) result fault is
      (subst (λ (v : Shown D C). Appends model (steps.Complete n g activity number piece moment) v new fault) same made)

  no-memory-left : IsOnLane old.current n (Some g) (complete activity number piece) moment
      → old.journal.ended ≡ false → (fault : StepFault)
      → IsMemoryOrSpent (length old.current.machine.items) 2 fault
      → Appends model (steps.Complete n g activity number piece moment) old old (Some fault)
  no-memory-left on going fault (inl memory) =
      subst (λ (f : StepFault). Appends model (steps.Complete n g activity number piece moment) old old (Some f))
      (sym memory.0)
      (no_memory model (steps.Complete n g activity number piece moment) old.journal old.journal old.current old.current
      refl refl going
      (complete_numbers old.current n g activity number piece moment
      (expected_on old.current n g activity number piece moment on) memory.1)
      (λ f is. allowed old.current (class_of (steps.Complete n g activity number piece moment)) moment f on is))
  no-memory-left on going fault (inr spent) =
      subst (λ (f : StepFault). Appends model (steps.Complete n g activity number piece moment) old old (Some f))
      (sym spent.0)
      (is_spent model (steps.Complete n g activity number piece moment) (length old.current.machine.items) old.journal
      old.journal old.current old.current refl refl going refl
      (complete_spent old.current n g activity number piece moment
      (expected_on old.current n g activity number piece moment on) spent.1)
      (λ f is. allowed old.current (class_of (steps.Complete n g activity number piece moment)) moment f on is))

  -- there was no memory to hold it
  pub complete_no_memory : IsOnLane old.current n (Some g) (complete activity number piece) moment
      → old.journal.ended ≡ false → (fault : StepFault)
      → IsMemoryOrSpent (length mid.current.machine.items) 2 fault
      → Completes mid (Err (CompleteFaults.Step fault))
  complete_no_memory on going fault is =
      last_refused (Err (CompleteFaults.Step fault))
      (step_receives model (steps.Complete n g activity number piece moment)
      (λ f. IsBad old.current n g (complete activity number piece) moment (IsNoApdu number piece f)) old old
      (λ f bad. not_no_apdu old.current n g activity number piece moment on f bad) (Err (CompleteFaults.Step fault))
      (Some fault) refl
      (no-memory-left on going fault
      (subst (λ (v : Shown D C). IsMemoryOrSpent (length v.current.machine.items) 2 fault) same is)))

-- ---- what a Complete changes

-- a lane that takes a piece as the last one takes it as any other
secures_too : (lane : Lane) (k n : ℕ) (piece : List ℕ) → TakesPiece lane (recv.Complete k n) n piece
    → TakesPiece lane (recv.Secure k n) n piece
secures_too lane k n piece takes = record {
  agreed = takes.agreed;
  taken = takes.taken;
  some_octets = takes.some_octets;
  short = takes.short;
  within = takes.within;
}

pub complete_is_change : (k : Kept) (n g activity number : ℕ) (piece : List ℕ) (moment : ℕ) (item : ItemValue)
    (made : Change) → IsOnLane (state_of k) n (Some g) (complete activity number piece) moment → k.moment ≤ moment
    → IsItemOn (lane_at n k.lanes.open_lanes.items) number piece moment item
    → made ≡ change.Complete n activity item moment → length k.parts.items.items + 1 < 2 ^ 32
    → IsChangeOf (state_of k) (steps.Complete n g activity number piece moment) made
complete_is_change k n g activity number piece moment item made on timely is same few =
    complete_changes k n g activity number piece moment on.lane
    (record {
      found = on.lane_is;
      current = on.current;
      needs = secures_too on.lane activity number piece on.needs.0;
      timely = timely;
    })
    item made
    (subst (λ (o : Option Lane). IsItemOn o number piece moment item) on.lane_is is)
    same few
