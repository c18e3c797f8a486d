-- A step that is possible is made, where there is memory and numbers are left.
use Rattle.std.proofs.Common.{◌≡◌, ◌<◌, ◌≤◌, ◌+◌, ◌^◌, ◌++◌, ℕ, List, [], ◌∷◌, length}
use Rattle.std.proofs.Common.{Option, None, Some}
use Rattle.std.proofs.Common.{Result, Ok, Err, refl, sym, ap, subst, ◌∙◌, arith}
use Rattle.std.specs.List.{concat}
use Rattle.std.proofs.lemmas.Option.{same_Some}
use Rattle.mta_apdu.specs.Apdus.{ApduValue, apdu_of}
use Rattle.mta_lane_recv.specs.Half as recv
use Rattle.mta_edge.specs.Views.{ClockView, DiskView}
use Rattle.mta_records.specs.declared.fault.CompleteFault.{CompleteFault}
use Rattle.mta_records.specs.declared.fault.CompleteFault.TheVariants as CompleteFaults
use Rattle.mta_records.specs.declared.fault.StepFault.{StepFault}
use Rattle.mta_records.specs.declared.fault.StepFault.TheVariants as Faults
use Rattle.mta_records.specs.declared.step.Step.{Step}
use Rattle.mta_records.specs.declared.step.Step.TheVariants as step
use Rattle.mta_histories.specs.Classes.{LaneStep, agree, bind, start, confirm, to_end, settle, was_sent, was_dropped}
use Rattle.mta_histories.specs.Classes.{secure, complete, drop_pieces, close, Class, class_of, on_lane}
use Rattle.mta_histories.specs.History.{IsPossible, TakesPiece, with_piece}
use Rattle.mta_histories.specs.Lanes.{Lane, lane_at}
use Rattle.mta_histories.specs.Lanes.{State as SpoolState}
use Rattle.mta_histories.specs.Numbers.{numbers_on}
use Rattle.mta_ber.specs.declared.fault.Fault.{Fault}
use Rattle.mta_journal.specs.Shown.{Shown as JournalShown}
use Rattle.mta_spool.specs.Receiving.{IsBad, IsNoApdu, Receives}
use Rattle.mta_spool.specs.Refusals.{IsRefused, LaneExpects}
use Rattle.mta_spool.specs.Shown.{Shown}
use Rattle.mta_spool.specs.Stands.{Appends, AtMoment, IsHeld, IsSpent, LacksNumbers, fault_of, step_moment}
use Rattle.mta_spool.proofs.Refused.{not_refused}
use Rattle.mta_stations.specs.Halting.{halt_of}
use Rattle.mta_drill_stage_laws.specs.World.{Completed, Made}
use Rattle.mta_drill_answer_laws.specs.Answers.{HasHistory, IsShort}

-- ---- numbers

-- it fails no activity
abbrev pub FailsNone : LaneStep → Type 0
FailsNone (agree checkpoint window) = Unit {0}
FailsNone bind = Unit {0}
FailsNone (start k i rs) = Unit {0}
FailsNone (confirm k n) = Unit {0}
FailsNone (to_end k) = Unit {0}
FailsNone (settle was_sent k) = Unit {0}
FailsNone (settle was_dropped k) = Unit {0}
FailsNone (secure k n piece) = Unit {0}
FailsNone (complete k n piece) = Unit {0}
FailsNone (drop_pieces k) = Unit {0}
FailsNone close = Unit {0}
FailsNone _ = ⊥

-- and needs two numbers at most
few-on : (o : Option Lane) (ls : LaneStep) → FailsNone ls → numbers_on o ls ≤ 2
few-on None ls none = omega arith
few-on (Some lane) (agree checkpoint window) none = omega arith
few-on (Some lane) bind none = omega arith
few-on (Some lane) (start k i rs) none = omega arith
few-on (Some lane) (confirm k n) none = omega arith
few-on (Some lane) (to_end k) none = omega arith
few-on (Some lane) (settle was_sent k) none = omega arith
few-on (Some lane) (settle was_dropped k) none = omega arith
few-on (Some lane) (secure k n piece) none = omega arith
few-on (Some lane) (complete k n piece) none = omega arith
few-on (Some lane) (drop_pieces k) none = omega arith
few-on (Some lane) close none = omega arith
few-on (Some lane) any1 none = absurd none

-- where two numbers are left too few are left for no step that is possible
abbrev pub HasNumbers : SpoolState → Step → Type 0
HasNumbers s made = IsPossible s made → length s.machine.items + 2 < 2 ^ 32 → IsSpent s made → ⊥

pub few_left : (s : SpoolState) (made : Step) (n : ℕ) (g : Option ℕ) (ls : LaneStep) → class_of made ≡ on_lane n g ls
    → FailsNone ls → length s.machine.items + 2 < 2 ^ 32 → IsSpent s made → ⊥
few_left s made n g ls is none left spent =
    let few = few-on (lane_at n s.lanes.open_lanes) ls none in
    let needs : 2 ^ 32 ≤ length s.machine.items + numbers_on (lane_at n s.lanes.open_lanes) ls =
    subst (λ (c : Class). LacksNumbers s c) is spent in
    omega (arith, few, left, needs)

pub on_lanes : (s : SpoolState) (made : Step) (n : ℕ) (g : Option ℕ) (ls : LaneStep) → class_of made ≡ on_lane n g ls
    → FailsNone ls → HasNumbers s made
on_lanes s made n g ls is none possible left spent = few_left s made n g ls is none left spent

-- ---- one call

-- no want of memory
abbrev pub Clear : StepFault → Type 0
Clear f = IsShort (halt_of f) → ⊥

module _ {D C : Type 0} (disks : DiskView D) (old new : Shown D C) where
  refused : (made : Step) (f : StepFault) → Appends disks made old new (Some f) → Clear f
      → HasNumbers old.current made
      → IsPossible old.current made → length old.current.machine.items + 2 < 2 ^ 32 → ⊥
  refused made Faults.Memory m clear numbers possible left = clear tt
  refused made Faults.Disk m clear numbers possible left = clear tt
  refused made Faults.Ended m clear numbers possible left = clear tt
  refused made (Faults.Full size need) m clear numbers possible left = clear tt
  refused made (Faults.Spent last) m clear numbers possible left = numbers possible left (m.spent last refl).1
  refused made (Faults.NoLane n) m clear numbers possible left =
      not_refused old.current made (Faults.NoLane n) possible (m.row (Faults.NoLane n) refl tt)
  refused made (Faults.Fenced g) m clear numbers possible left =
      not_refused old.current made (Faults.Fenced g) possible (m.row (Faults.Fenced g) refl tt)
  refused made (Faults.BusyLanes count) m clear numbers possible left =
      not_refused old.current made (Faults.BusyLanes count) possible (m.row (Faults.BusyLanes count) refl tt)
  refused made Faults.Unexpected m clear numbers possible left =
      not_refused old.current made Faults.Unexpected possible (m.row Faults.Unexpected refl tt)

  pub made_by : {T : Type 0} (made : Step) (x : Result T StepFault) → HasNumbers old.current made
      → ((f : StepFault) → x ≡ Err f → Clear f) → Appends disks made old new (fault_of x)
      → Made old.current made x new.current
  made_by made (Ok v) numbers clear m = m.changed refl
  made_by made (Err f) numbers clear m = λ possible left. refused made f m (clear f refl) numbers possible left

  -- the spool goes on
  not-disk : (f : StepFault) → Clear f → ◌≡◌ {A = Option StepFault} (Some f) (Some Faults.Disk) → ⊥
  not-disk Faults.Disk clear e = clear tt
  not-disk any1 clear e = cc

  not-none : (f : StepFault) → ◌≡◌ {A = Option StepFault} (Some f) None → ⊥
  not-none f e = cc

  pub stays_so : new.journal ≡ old.journal → new.current ≡ old.current → HasHistory disks old → HasHistory disks new
  stays_so journal current alive = (
    alive.0,
    subst (λ (j : JournalShown D). IsHeld disks j new.current alive.0) (sym journal)
        (subst (λ (s : SpoolState). IsHeld disks old.journal s alive.0) (sym current) alive.1),
  )

  pub goes_on : {T : Type 0} (made : Step) (x : Result T StepFault) → HasHistory disks old
      → ((f : StepFault) → x ≡ Err f → Clear f) → Appends disks made old new (fault_of x)
      → HasHistory disks new
  goes_on made (Ok v) alive clear m = (alive.0 ++ made ∷ [], m.done refl alive.0 alive.1)
  goes_on made (Err f) alive clear m =
      let kept = m.kept (not-none f) (not-disk f (clear f refl)) in stays_so kept.0 kept.1 alive

  -- ---- the moment

  moment-is : (told last : ℕ) → told ≡ 0 → step_moment told last ≡ last
  moment-is told last e = omega (arith, e)

  pub at_once : (clocks : ClockView C) (P : ℕ → Type 0) → ((m : ℕ) → clocks.tells old.clock m → m ≡ 0)
      → AtMoment clocks old.clock old.current.moment P → P old.current.moment
  at_once clocks P still a = subst P (moment-is a.told old.current.moment (still a.told a.tells)) a.at

  -- ---- a piece

  module _ {T : Type 0} (made : Step) (Bad : Fault → Type 0) where
    pub piece_made : (x : Result T CompleteFault) → HasNumbers old.current made
        → ((f : StepFault) → x ≡ Err (CompleteFaults.Step f) → Clear f)
        → ((f : Fault) → IsPossible old.current made → Bad f → ⊥) → Receives disks made Bad old new x
        → Made old.current made x new.current
    piece_made (Ok v) numbers clear good r = (r.appends None refl).changed refl
    piece_made (Err (CompleteFaults.Step f)) numbers clear good r =
        λ possible left. refused made f (r.appends (Some f) refl) (clear f refl) numbers possible left
    piece_made (Err (CompleteFaults.Bad f)) numbers clear good r =
        λ possible left. good f possible (r.bad f refl).0

    pub piece_goes_on : (x : Result T CompleteFault) → HasHistory disks old
        → ((f : StepFault) → x ≡ Err (CompleteFaults.Step f) → Clear f) → Receives disks made Bad old new x
        → HasHistory disks new
    piece_goes_on (Ok v) alive clear r = (alive.0 ++ made ∷ [], (r.appends None refl).done refl alive.0 alive.1)
    piece_goes_on (Err (CompleteFaults.Step f)) alive clear r =
        let m = r.appends (Some f) refl in
        let kept = m.kept (not-none f) (not-disk f (clear f refl)) in stays_so kept.0 kept.1 alive
    piece_goes_on (Err (CompleteFaults.Bad f)) alive clear r =
        let bad = r.bad f refl in stays_so bad.2.0 bad.2.1 alive

-- ---- the last piece

module _ (s : SpoolState) (n g k m : ℕ) (piece : List ℕ) (moment : ℕ) (lane : Lane)
    (there : lane_at n s.lanes.open_lanes ≡ Some lane) (current : g ≡ lane.generation)
    (takes : TakesPiece lane (recv.Complete k m) m piece) where
  not_of_lane : (f : StepFault) → IsRefused s (on_lane n (Some g) (complete k m piece)) moment f → ⊥
  not_of_lane (Faults.Fenced generation) is =
      let same = same_Some is.lane lane (sym is.lane_is ∙ there) in
      omega (arith, is.fenced, current, ap (λ (l : Lane). l.generation) same)
  not_of_lane (Faults.NoLane other) is =
      let both : ◌≡◌ {A = Option Lane} None (Some lane) = sym is.1 ∙ there in cc
  not_of_lane Faults.Unexpected is =
      let same = same_Some lane is.lane (sym there ∙ is.lane_is) in
      is.not_now (ap (λ (x : ℕ). Some x) (current ∙ ap (λ (l : Lane). l.generation) same))
      (subst (λ (l : Lane). LaneExpects s l (complete k m piece) moment) same (record {
        agreed = takes.agreed;
        taken = takes.taken;
        some_octets = takes.some_octets;
        short = takes.short;
      }))
  not_of_lane any1 is = is

module _ {D C : Type 0} (disks : DiskView D) (old new : Shown D C) (n g k m : ℕ) (piece : List ℕ) where
  abbrev made : Step
  made = step.Complete n g k m piece old.current.moment

  abbrev Wrong : Fault → Type 0
  Wrong f = IsBad old.current n g (complete k m piece) old.current.moment (IsNoApdu m piece f)

  -- for no other cause than want of memory
  step-refused : (f : StepFault) → Appends disks made old new (Some f) → Clear f → (lane : Lane)
      → lane_at n old.current.lanes.open_lanes ≡ Some lane → g ≡ lane.generation
      → TakesPiece lane (recv.Complete k m) m piece → length old.current.machine.items + 2 < 2 ^ 32 → ⊥
  step-refused Faults.Memory a clear lane there current takes left = clear tt
  step-refused Faults.Disk a clear lane there current takes left = clear tt
  step-refused Faults.Ended a clear lane there current takes left = clear tt
  step-refused (Faults.Full size need) a clear lane there current takes left = clear tt
  step-refused (Faults.Spent last) a clear lane there current takes left =
      few_left old.current made n (Some g) (complete k m piece) refl tt left (a.spent last refl).1
  step-refused (Faults.NoLane other) a clear lane there current takes left =
      not_of_lane old.current n g k m piece old.current.moment lane there current takes (Faults.NoLane other)
      (a.row (Faults.NoLane other) refl tt)
  step-refused (Faults.Fenced h) a clear lane there current takes left =
      not_of_lane old.current n g k m piece old.current.moment lane there current takes (Faults.Fenced h)
      (a.row (Faults.Fenced h) refl tt)
  step-refused (Faults.BusyLanes count) a clear lane there current takes left =
      not_of_lane old.current n g k m piece old.current.moment lane there current takes (Faults.BusyLanes count)
      (a.row (Faults.BusyLanes count) refl tt)
  step-refused Faults.Unexpected a clear lane there current takes left =
      not_of_lane old.current n g k m piece old.current.moment lane there current takes Faults.Unexpected
      (a.row Faults.Unexpected refl tt)

  pub completed : (x : Result ℕ CompleteFault) → ((f : StepFault) → x ≡ Err (CompleteFaults.Step f) → Clear f)
      → Receives disks made Wrong old new x → (lane : Lane) → lane_at n old.current.lanes.open_lanes ≡ Some lane
      → Completed old.current n g k m piece x new.current lane
  completed (Ok v) clear r lane there = (r.appends None refl).changed refl
  completed (Err (CompleteFaults.Step f)) clear r lane there =
      λ current takes v spelled left.
      step-refused f (r.appends (Some f) refl) (clear f refl) lane there current takes left
  completed (Err (CompleteFaults.Bad f)) clear r lane there =
      λ current takes v spelled left.
      let bad = (r.bad f refl).0 in
      let same = same_Some bad.lane lane (sym bad.lane_is ∙ there) in
      let wrong : apdu_of (concat (with_piece lane.pieces m piece)) ≡ Err f =
      subst (λ (l : Lane). apdu_of (concat (with_piece l.pieces m piece)) ≡ Err f) same bad.wrong in
      let both : ◌≡◌ {A = Result ApduValue Fault} (Ok v) (Err f) = sym spelled ∙ wrong in absurd cc
