-- The step that a question asks for, and what the lanes see of it where it was made.
use Rattle.std.proofs.Common.{◌≡◌, ◌⊎◌, ℕ, ◌+◌, ◌-◌, ◌^◌, Bool, true, false, cond, List, [], ◌∷◌}
use Rattle.std.proofs.Common.{◌++◌, Option, None, Some, Ok, Err, inl, inr, refl, sym, ap, subst, ◌∙◌, arith}
use Rattle.std.proofs.lemmas.Bool.{cases_lt}
use Rattle.mta_ber.specs.declared.fault.Fault.{Fault}
use Rattle.mta_edge.specs.Views.{ClockView, DiskView}
use Rattle.mta_lane_send.specs.Half.{last_of}
use Rattle.mta_transfer_rules.specs.Lanes.{On}
use Rattle.mta_transfer_rules.specs.Lanes as h
use Rattle.mta_records.specs.declared.step.Step.{Step}
use Rattle.mta_records.specs.declared.step.Step.TheVariants as step
use Rattle.mta_records.specs.declared.fault.StepFault.{StepFault}
use Rattle.mta_records.specs.declared.fault.StepFault.TheVariants as StepFaults
use Rattle.mta_records.specs.declared.fault.CompleteFault.{CompleteFault}
use Rattle.mta_records.specs.declared.fault.CompleteFault.TheVariants as CompleteFaults
use Rattle.mta_records.specs.Outgoing.{Carried}
use Rattle.mta_histories.specs.Lanes.{Lane, State, lane_at, put_lane}
use Rattle.mta_histories.specs.Classes.{class_of, start}
use Rattle.mta_histories.specs.History.{after_step, IsPossible, lane_after, transfer_of, when, on_lane_after}
use Rattle.mta_histories.specs.Seen.{seen_of}
use Rattle.mta_histories.proofs.LaneLists.{number-at}
use Rattle.mta_histories.proofs.Shown.{put-found}
use Rattle.mta_session_list_laws.specs.Calls.{StepOn}
use Rattle.mta_spool.specs.OnLanes.{next_generation}
use Rattle.mta_spool.specs.Receiving.{Receives}
use Rattle.mta_spool.specs.Shown.{Shown}
use Rattle.mta_spool.specs.Stands.{Appends}
use Rattle.mta_spool.specs.Starting.{IsResumed, next_activity}
use Rattle.mta_spool.specs.Turning.{IsUnchanged}
use Rattle.mta_worker.specs.Answers.{BeginsNow, Binds, IsKind, lanes_of, Refuses}

-- ---- what a call leaves, in short

module _ {D C : Type 0} where
  -- The step that is told was made: it stands behind the entries, and the state is the one after it. Where none is told
  -- both are as they were.
  abbrev pub Makes : Option StepOn → Shown D C → Shown D C → Type 0
  Makes (Some x) old new =
      (step : Step) × (new.entries ≡ old.entries ++ step ∷ []) × (new.current ≡ after_step old.current step)
      × (seen_of old.current (class_of step) (when old.current step) ≡ On x.lane x.step)
  Makes None old new = (new.entries ≡ old.entries) × (new.current ≡ old.current)

  -- the step that was made was possible
  abbrev pub WasPossible : Shown D C → Shown D C → Type 0
  WasPossible old new = (step : Step) → new.entries ≡ old.entries ++ step ∷ [] → IsPossible old.current step

  pub same : (old new : Shown D C) → new ≡ old → Makes None old new
  same old new e = (ap (λ (s : Shown D C). s.entries) e, ap (λ (s : Shown D C). s.current) e)

  pub unchanged : (old new : Shown D C) → IsUnchanged old new → Makes None old new
  unchanged old new u = (u.2, u.1)

pub past_last : {T : Type 0} (x : T) (b : Bool) (e f : StepFault) → Ok x ≡ cond b (Err e) (Err f) → ⊥
past_last x true e f is = cc
past_last x false e f is = cc

pub not_begun_past : {T : Type 0} (x : T) (f : StepFault) → Ok x ≡ Err f → ⊥
not_begun_past x f is = cc

pub is_kind : (kind : ℕ) → IsKind kind ⊎ (IsKind kind → ⊥)
is_kind kind =
    elim (cases_lt kind 1) [
      | inl l ↦ inr (λ i. omega (arith, l, i.0))
      | inr low ↦ elim (cases_lt 12 kind) [ inl h ↦ inr (λ i. omega (arith, h, i.1)) | inr high ↦ inl (low, high) ]
    ]

module _ {D C : Type 0} (disks : DiskView D) (clocks : ClockView C) where
  -- ---- steps that are made or refused

  pub made : (step : Step) (x : StepOn) (old new : Shown D C) → Appends disks step old new None
      → seen_of old.current (class_of step) (when old.current step) ≡ On x.lane x.step → Makes (Some x) old new
  made step x old new a is = (step, a.entries, a.changed refl, is)

  pub refused : (step : Step) (fault : StepFault) (old new : Shown D C) → Appends disks step old new (Some fault)
      → Makes None old new
  refused step fault old new a = (a.entries, a.still (λ e. cc))

  -- ---- a lane is bound

  pub bound : (lane g : ℕ) (x : StepOn) (old new : Shown D C) → Binds disks clocks lane old (Ok g) new
      → On lane (h.Bind g) ≡ On x.lane x.step → Makes (Some x) old new
  bound lane g x old new b is =
      elim (cases_lt (next_generation (lane_at lane (lanes_of old))) (2 ^ 64)) [
        | inl l ↦ made (step.Bind lane (next_generation (lane_at lane (lanes_of old)))) x old new (b.0 l)
            (ap (λ (n : ℕ). On lane (h.Bind n)) (sym b.2) ∙ is)
        | inr past ↦ absurd (past_last g old.journal.ended StepFaults.Ended (StepFaults.Spent (2 ^ 64 - 1))
            (b.1 past).1)
      ]

  pub not_bound : (lane : ℕ) (fault : StepFault) (old new : Shown D C) → Binds disks clocks lane old (Err fault) new
      → Makes None old new
  not_bound lane fault old new b =
      elim (cases_lt (next_generation (lane_at lane (lanes_of old))) (2 ^ 64)) [
        | inl l ↦ refused _ fault old new (b.0 l)
        | inr past ↦ unchanged old new (b.1 past).0
      ]

  -- ---- the other end's faults

  pub not_refused : (lane g k kind : ℕ) (u : Unit {0}) (x : StepOn) (old new : Shown D C)
      → Refuses disks clocks lane g k kind old (Ok u) new → On lane (h.Refused g k) ≡ On x.lane x.step
      → Makes (Some x) old new
  not_refused lane g k kind u x old new r is =
      elim (is_kind kind) [
        | inl i ↦ made _ x old new (r.0 i).at is
        | inr n ↦ absurd (let e : Ok u ≡ Err StepFaults.Unexpected = (r.1 n).1 in cc)
      ]

  pub refusal_refused : (lane g k kind : ℕ) (fault : StepFault) (old new : Shown D C)
      → Refuses disks clocks lane g k kind old (Err fault) new → Makes None old new
  refusal_refused lane g k kind fault old new r =
      elim (is_kind kind) [
        | inl i ↦ refused _ fault old new (r.0 i).at
        | inr n ↦ same old new (r.1 n).0
      ]

  -- ---- pieces

  pub taken : {T : Type 0} (step : Step) (Bad : Fault → Type 0) (x : StepOn) (t : T) (old new : Shown D C)
      → Receives disks step Bad old new (Ok t)
      → seen_of old.current (class_of step) (when old.current step) ≡ On x.lane x.step → Makes (Some x) old new
  taken step Bad x t old new r is = made step x old new (r.appends None refl) is

  pub not_taken : {T : Type 0} (step : Step) (Bad : Fault → Type 0) (fault : CompleteFault) (old new : Shown D C)
      → Receives {T = T} disks step Bad old new (Err fault) → Makes None old new
  not_taken step Bad (CompleteFaults.Step f) old new r = refused step f old new (r.appends (Some f) refl)
  not_taken step Bad (CompleteFaults.Bad f) old new r = unchanged old new (r.bad f refl).2

-- ---- an activity is started

-- what is told of it is what the lane transfers then
carried : (l : Lane) (n k g i m : ℕ) (rs : List ℕ) (s : State) (o : Carried)
    → IsResumed (Some (lane_after s l (start k i rs) m)) (Some o) → k ≡ last_of l.sending + 1
    → On n (h.Start g k (transfer_of s.machine i rs m).octets) ≡ On n (h.Start g o.activity o.octets)
carried l n k g i m rs s o is next =
    ap (λ (j : ℕ). On n (h.Start g j (transfer_of s.machine i rs m).octets)) (next ∙ sym is.1.0)
    ∙ ap (λ (os : List ℕ). On n (h.Start g o.activity os)) (sym is.1.1)

module _ {D C : Type 0} (disks : DiskView D) (clocks : ClockView C) where
  begun_at : (lane g k i m : ℕ) (rs : List ℕ) (o : Carried) (x : StepOn) (old new : Shown D C)
      → Appends disks (step.Start lane g k i rs m) old new None → IsPossible old.current (step.Start lane g k i rs m)
      → IsResumed (lane_at lane (lanes_of new)) (Some o) → On lane (h.Start g o.activity o.octets) ≡ On x.lane x.step
      → Makes (Some x) old new
  begun_at lane g k i m rs o x old new a may is so =
      let l : Lane = may.allowed.lane in
      let found : lane_at lane (lanes_of old) ≡ Some l = may.allowed.lane_is in
      let number : lane ≡ l.number = number-at (lanes_of old) lane l found in
      let next : Lane = lane_after old.current l (start k i rs) m in
      let put : lane_at l.number (put_lane next (lanes_of old)) ≡ Some next =
      put-found next l (lanes_of old) (subst (λ (n : ℕ). lane_at n (lanes_of old) ≡ Some l) number found) in
      let lanes : lanes_of new ≡ put_lane next (lanes_of old) =
      ap (λ (s : State). s.lanes.open_lanes) (a.changed refl)
      ∙ ap (λ (z : Option Lane). on_lane_after old.current z (start k i rs) m) found in
      let now : lane_at lane (lanes_of new) ≡ Some next =
      ap (λ (zs : List Lane). lane_at lane zs) lanes ∙ ap (λ (n : ℕ). lane_at n (put_lane next (lanes_of old))) number
      ∙ put in
      let told : IsResumed (Some next) (Some o) = subst (λ (z : Option Lane). IsResumed z (Some o)) now is in
      made disks clocks (step.Start lane g k i rs m) x old new a
      (carried l lane k g i m rs old.current o told may.allowed.needs.next ∙ so)

  pub begun : (lane g i : ℕ) (rs : List ℕ) (o : Carried) (x : StepOn) (old new : Shown D C) → WasPossible old new
      → BeginsNow disks clocks lane g i rs old (Ok o) new → On lane (h.Start g o.activity o.octets) ≡ On x.lane x.step
      → Makes (Some x) old new
  begun lane g i rs o x old new may b is =
      elim (cases_lt (next_activity (lane_at lane (lanes_of old))) (2 ^ 32)) [
        | inl l ↦ begun_at lane g (next_activity (lane_at lane (lanes_of old))) i _ rs o x old new (b.0 l).at
            (may _ (b.0 l).at.entries) b.2 is
        | inr past ↦ absurd (not_begun_past o (b.1 past).at.fault (b.1 past).at.refused)
      ]

  pub not_begun : (lane g i : ℕ) (rs : List ℕ) (fault : StepFault) (old new : Shown D C)
      → BeginsNow disks clocks lane g i rs old (Err fault) new → Makes None old new
  not_begun lane g i rs fault old new b =
      elim (cases_lt (next_activity (lane_at lane (lanes_of old))) (2 ^ 32)) [
        | inl l ↦ refused disks clocks _ fault old new (b.0 l).at
        | inr past ↦ unchanged old new (b.1 past).at.same
      ]
