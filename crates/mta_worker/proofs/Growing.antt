-- A question of a session makes at most one step.
use Rattle.std.proofs.Common.{◌≡◌, ◌⊎◌, ℕ, ◌^◌, List, Option, None, Some, Result, Ok, Err, inl, inr}
use Rattle.std.proofs.Common.{refl, ap, arith}
use Rattle.std.proofs.lemmas.Bool.{cases_lt}
use Rattle.mta_edge.specs.Views.{ClockView, DiskView}
use Rattle.mta_ber.specs.declared.fault.Fault.{Fault}
use Rattle.mta_records.specs.declared.step.Step.{Step}
use Rattle.mta_records.specs.declared.fault.StepFault.{StepFault}
use Rattle.mta_records.specs.declared.fault.CompleteFault.{CompleteFault}
use Rattle.mta_records.specs.declared.fault.CompleteFault.TheVariants as CompleteFaults
use Rattle.mta_records.specs.Outgoing.{Carried}
use Rattle.mta_histories.specs.Lanes.{lane_at}
use Rattle.mta_session.specs.State.{State}
use Rattle.mta_session.specs.declared.ask.Ask.{Ask}
use Rattle.mta_session.specs.declared.ask.Ask.TheVariants as ask
use Rattle.mta_session.specs.declared.ask.Reply.{Reply}
use Rattle.mta_session.specs.declared.ask.Reply.TheVariants as reply
use Rattle.mta_shared.specs.Rule.{Grows}
use Rattle.mta_spool.specs.OnLanes.{next_generation}
use Rattle.mta_spool.specs.Receiving.{Receives}
use Rattle.mta_spool.specs.Shown.{Shown}
use Rattle.mta_spool.specs.Stands.{Appends, fault_of}
use Rattle.mta_spool.specs.Starting.{next_activity}
use Rattle.mta_spool.specs.Turning.{IsUnchanged}
use Rattle.mta_worker.specs.Answers.{Answered, Binds, BeginsNow, Refuses, IsKind, lanes_of}
use Rattle.mta_worker.specs.Turns.{Replied}

is_kind : (kind : ℕ) → IsKind kind ⊎ (IsKind kind → ⊥)
is_kind kind =
    elim (cases_lt kind 1) [
      | inl l ↦ inr (λ i. omega (arith, l, i.0))
      | inr low ↦ elim (cases_lt 12 kind) [
        | inl h ↦ inr (λ i. omega (arith, h, i.1))
        | inr high ↦ inl (low, high)
      ]
    ]

module _ {D C : Type 0} (disks : DiskView D) (clocks : ClockView C) where
  pub appended : (step : Step) (old new : Shown D C) (fault : Option StepFault) → Appends disks step old new fault
      → Grows old.entries new.entries
  appended step old new None a = inr (step, a.entries)
  appended step old new (Some f) a = inl a.entries

  same : (old new : Shown D C) → new ≡ old → Grows old.entries new.entries
  same old new e = inl (ap (λ (s : Shown D C). s.entries) e)

  pub unchanged : (old new : Shown D C) → IsUnchanged old new → Grows old.entries new.entries
  unchanged old new u = inl u.2

  binds : (lane : ℕ) (old new : Shown D C) (x : Result ℕ StepFault) → Binds disks clocks lane old x new
      → Grows old.entries new.entries
  binds lane old new x b =
      elim (cases_lt (next_generation (lane_at lane (lanes_of old))) (2 ^ 64))
      [ inl l ↦ appended _ old new (fault_of x) (b.0 l) | inr g ↦ unchanged old new (b.1 g).0 ]

  pub received : {T : Type 0} (step : Step) (Bad : Fault → Type 0) (old new : Shown D C) (x : Result T CompleteFault)
      → Receives disks step Bad old new x → Grows old.entries new.entries
  received step Bad old new (Ok t) r = appended step old new None (r.appends None refl)
  received step Bad old new (Err (CompleteFaults.Step f)) r =
      appended step old new (Some f) (r.appends (Some f) refl)
  received step Bad old new (Err (CompleteFaults.Bad f)) r =
      unchanged old new (r.bad f refl).2

  begins : (lane g item : ℕ) (rs : List ℕ) (old new : Shown D C) (x : Result Carried StepFault)
      → BeginsNow disks clocks lane g item rs old x new → Grows old.entries new.entries
  begins lane g item rs old new x b =
      elim (cases_lt (next_activity (lane_at lane (lanes_of old))) (2 ^ 32))
      [ inl l ↦ appended _ old new (fault_of x) (b.0 l).at | inr h ↦ unchanged old new (b.1 h).at.same ]

  refuses : (lane g k kind : ℕ) (old new : Shown D C) (x : Result (Unit {0}) StepFault)
      → Refuses disks clocks lane g k kind old x new → Grows old.entries new.entries
  refuses lane g k kind old new x r =
      elim (is_kind kind) [ inl i ↦ appended _ old new (fault_of x) (r.0 i).at | inr n ↦ same old new (r.1 n).0 ]

  pub grows : (q : Ask) (old : Shown D C) (x : Reply) (new : Shown D C) → Answered disks clocks q old x new
      → Grows old.entries new.entries
  grows (ask.BatchFor peer) old (reply.BatchFor x) new a = unchanged old new a.1
  grows (ask.LaneOpen role peer name twa size window) old (reply.LaneOpen x) new a =
      appended _ old new (fault_of x) a.0.at
  grows (ask.LaneAgree lane g size window) old (reply.LaneAgree x) new a = appended _ old new (fault_of x) a
  grows (ask.Bind lane) old (reply.Bind x) new a = binds lane old new x a
  grows (ask.Start lane g batch) old (reply.Start x) new a =
      begins lane g batch.item batch.recipients old new x a
  grows (ask.Confirm lane g k n) old (reply.Confirm x) new a = appended _ old new (fault_of x) a
  grows (ask.Ending lane g k) old (reply.Ending x) new a = appended _ old new (fault_of x) a
  grows (ask.Sent lane g k) old (reply.Sent x) new a = appended _ old new (fault_of x) a.at
  grows (ask.Dropped lane g k) old (reply.Dropped x) new a = appended _ old new (fault_of x) a
  grows (ask.Denied lane g k) old (reply.Denied x) new a = appended _ old new (fault_of x) a.at
  grows (ask.Refused lane g k kind) old (reply.Refused x) new a = refuses lane g k kind old new x a
  grows (ask.Secure lane g k n piece) old (reply.Secure x) new a = received _ _ old new x a
  grows (ask.Complete lane g k n piece) old (reply.Complete x) new a = received _ _ old new x a.0.at
  grows (ask.DropActivity lane g k) old (reply.DropActivity x) new a = appended _ old new (fault_of x) a
  grows (ask.CloseLane lane g) old (reply.CloseLane x) new a = appended _ old new (fault_of x) a
  grows (ask.Resumed lane) old (reply.Resumed x) new a = same old new a.1
  grows (ask.LaneOf role peer name) old (reply.LaneOf x) new a = same old new a.1
  grows (ask.Recovery lane) old (reply.Recovery x) new a = same old new a.1
  grows (ask.Receiving lane) old (reply.Receiving x) new a = same old new a.1
  grows (ask.Values lane) old (reply.Values x) new a = same old new a.1
  grows (ask.SpareLane role peer) old (reply.SpareLane x) new a = same old new a.1
  grows (ask.Peer name) old (reply.Peer x) new a = same old new a.1
  grows q old x new a = elim a [ ]

  pub replied_grows : (q : Ask) (t : State) (old : Shown D C) (x : Reply) (new : Shown D C)
      → Replied disks clocks q t old x new → Grows old.entries new.entries
  replied_grows q t old x new r = elim r [ inl u ↦ same old new u.2 | inr a ↦ grows q old x new a.1 ]
