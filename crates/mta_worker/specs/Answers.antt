-- What a question of a session leaves of the spool, and what it is answered: the one call that it names.
use Rattle.std.specs.Prelude.{◌≡◌, ℕ, ◌+◌, ◌<◌, ◌≤◌, ◌^◌, length, List, Option, Some}
use Rattle.std.specs.Prelude.{Result, Err, IfOk}
use Rattle.std.specs.List.{find}
use Rattle.std.specs.Option.{option_map}
use Rattle.mta_edge.specs.Views.{ClockView, DiskView}
use Rattle.mta_records.specs.declared.step.Step.{Step}
use Rattle.mta_records.specs.declared.step.Step.TheVariants as step
use Rattle.mta_records.specs.declared.fault.StepFault.{StepFault}
use Rattle.mta_records.specs.declared.fault.StepFault.TheVariants as StepFaults
use Rattle.mta_records.specs.Outgoing.{Carried}
use Rattle.mta_lanes.specs.Finds.{is_spare}
use Rattle.mta_spool.specs.Answers.{IsBatchOf}
use Rattle.mta_histories.specs.Lanes.{Lane, lane_at}
use Rattle.mta_histories.specs.Classes.{secure, complete}
use Rattle.mta_spool.specs.Looking.{IsFirstNamed, values_of}
use Rattle.mta_spool.specs.OnLanes.{BindsPastLast, next_generation}
use Rattle.mta_spool.specs.Receiving.{IsBad, IsNoApdu, IsTooLong, Receives}
use Rattle.mta_spool.specs.Shown.{Shown}
use Rattle.mta_spool.specs.Stands.{Appends, AtMoment, fault_of}
use Rattle.mta_spool.specs.Starting.{IsResumed, next_activity, StartsPastLast}
use Rattle.mta_spool.specs.Turning.{IsUnchanged}
use Rattle.mta_session.specs.declared.ask.Ask.{Ask}
use Rattle.mta_session.specs.declared.ask.Ask.TheVariants as ask
use Rattle.mta_session.specs.declared.ask.Reply.{Reply}
use Rattle.mta_session.specs.declared.ask.Reply.TheVariants as reply
use Rattle.mta_worker.specs.Lines.{line_now}

abbrev pub lanes_of : {D C : Type 0} → Shown D C → List Lane
lanes_of s = s.current.lanes.open_lanes

-- the peer refuses for a kind of fault that there is
abbrev pub IsKind : ℕ → Type 0
IsKind kind = (1 ≤ kind) × (kind ≤ 12)

module _ {D C : Type 0} (disks : DiskView D) (clocks : ClockView C) where
  -- the step is made at a moment that the clock tells, or refused
  abbrev pub MakesNow : (ℕ → Step) → Shown D C → Option StepFault → Shown D C → Type 0
  MakesNow step_at old fault new =
      AtMoment clocks old.clock old.current.moment (λ m. Appends disks (step_at m) old new fault)

  -- a lane that is bound is of its next generation, where one is left
  abbrev pub Binds : ℕ → Shown D C → Result ℕ StepFault → Shown D C → Type 0
  Binds lane old x new =
      let next = next_generation (lane_at lane (lanes_of old)) in
      (next < 2 ^ 64 → Appends disks (step.Bind lane next) old new (fault_of x))
      × (2 ^ 64 ≤ next → BindsPastLast old new x)
      × IfOk x (λ g. g ≡ next)

  -- an activity that is started has the next number, where one is left
  abbrev pub BeginsNow : (lane generation item : ℕ) → List ℕ → Shown D C → Result Carried StepFault
      → Shown D C
      → Type 0
  BeginsNow lane generation item rs old x new =
      let next = next_activity (lane_at lane (lanes_of old)) in
      (next < 2 ^ 32 → MakesNow (step.Start lane generation next item rs) old (fault_of x) new)
      × (2 ^ 32 ≤ next → AtMoment clocks old.clock old.current.moment
      (λ m. StartsPastLast lane generation item rs m old new x))
      × IfOk x (λ o. IsResumed (lane_at lane (lanes_of new)) (Some o))

  -- Refused names a kind of fault that there is, or makes no step.
  abbrev pub Refuses : (lane generation activity kind : ℕ) → Shown D C → Result (Unit {0}) StepFault → Shown D C
      → Type 0
  Refuses lane generation activity kind old x new =
      (IsKind kind → MakesNow (step.Refused lane generation activity kind) old (fault_of x) new)
      × ((IsKind kind → ⊥) → (new ≡ old) × (x ≡ Err StepFaults.Unexpected))

  abbrev pub Answered : Ask → Shown D C → Reply → Shown D C → Type 0
  Answered (ask.BatchFor peer) old (reply.BatchFor x) new =
      AtMoment clocks old.clock old.current.moment (λ m. IfOk x (IsBatchOf old.current peer m)) × IsUnchanged old new
  Answered (ask.LaneOpen role peer name twa size window) old (reply.LaneOpen x) new =
      MakesNow (step.LaneOpen role peer name twa size window) old (fault_of x) new
      × IfOk x (λ n. n ≡ old.current.lanes.count + 1)
  Answered (ask.LaneAgree lane g size window) old (reply.LaneAgree x) new =
      Appends disks (step.LaneAgree lane g size window) old new (fault_of x)
  Answered (ask.Bind lane) old (reply.Bind x) new = Binds lane old x new
  Answered (ask.Start lane g batch) old (reply.Start x) new = BeginsNow lane g batch.item batch.recipients old x new
  Answered (ask.Confirm lane g k n) old (reply.Confirm x) new =
      Appends disks (step.Confirm lane g k n) old new (fault_of x)
  Answered (ask.Ending lane g k) old (reply.Ending x) new = Appends disks (step.Ending lane g k) old new (fault_of x)
  Answered (ask.Sent lane g k) old (reply.Sent x) new = MakesNow (step.Sent lane g k) old (fault_of x) new
  Answered (ask.Dropped lane g k) old (reply.Dropped x) new =
      Appends disks (step.Dropped lane g k) old new (fault_of x)
  Answered (ask.Denied lane g k) old (reply.Denied x) new = MakesNow (step.Denied lane g k) old (fault_of x) new
  Answered (ask.Refused lane g k kind) old (reply.Refused x) new = Refuses lane g k kind old x new
  Answered (ask.Secure lane g k n piece) old (reply.Secure x) new =
      Receives disks (step.Secure lane g k n piece)
      (λ f. IsBad old.current lane g (secure k n piece) old.current.moment (IsTooLong n piece f)) old new x
  Answered (ask.Complete lane g k n piece) old (reply.Complete x) new =
      AtMoment clocks old.clock old.current.moment
      (λ m. Receives disks (step.Complete lane g k n piece m)
      (λ f. IsBad old.current lane g (complete k n piece) m (IsNoApdu n piece f)) old new x)
      × IfOk x (λ n. n ≡ length old.current.machine.items + 1)
  Answered (ask.DropActivity lane g k) old (reply.DropActivity x) new =
      Appends disks (step.Drop lane g k) old new (fault_of x)
  Answered (ask.CloseLane lane g) old (reply.CloseLane x) new =
      Appends disks (step.CloseLane lane g) old new (fault_of x)
  Answered (ask.Resumed lane) old (reply.Resumed x) new =
      IfOk x (IsResumed (lane_at lane (lanes_of old))) × (new ≡ old)
  Answered (ask.LaneOf role peer name) old (reply.LaneOf x) new =
      IsFirstNamed role peer name (lanes_of old) x × (new ≡ old)
  Answered (ask.Recovery lane) old (reply.Recovery x) new =
      (x ≡ option_map (λ (l : Lane). l.sending) (lane_at lane (lanes_of old))) × (new ≡ old)
  Answered (ask.Receiving lane) old (reply.Receiving x) new =
      (x ≡ option_map (λ (l : Lane). (l.high, l.last)) (lane_at lane (lanes_of old))) × (new ≡ old)
  Answered (ask.Values lane) old (reply.Values x) new =
      (x ≡ option_map values_of (lane_at lane (lanes_of old))) × (new ≡ old)
  Answered (ask.SpareLane role peer) old (reply.SpareLane x) new =
      (x ≡ option_map (λ (l : Lane). (l.number, l.generation)) (find (is_spare role peer) (lanes_of old)))
      × (new ≡ old)
  Answered (ask.Peer name) old (reply.Peer x) new =
      IfOk x (λ p. p ≡ line_now old.current.machine name) × (new ≡ old)
  Answered _ old _ new = ⊥
