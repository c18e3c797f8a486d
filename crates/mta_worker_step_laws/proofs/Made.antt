-- What is done with the spool in one turn of the lock makes no step, or one that a worker makes.
use Rattle.std.proofs.Common.{◌≡◌, ◌⊎◌, ℕ, ◌^◌, List, [], ◌∷◌, ◌++◌, Option, None, Some, Result, Ok, Err}
use Rattle.std.proofs.Common.{inl, inr, refl, ap, arith}
use Rattle.std.proofs.lemmas.Bool.{cases_lt}
use Rattle.mta_ber.specs.declared.fault.Fault.{Fault}
use Rattle.mta_edge.specs.Views.{ClockView, DiskView}
use Rattle.mta_records.specs.declared.step.Step.{Step}
use Rattle.mta_records.specs.declared.step.Step.TheVariants as step
use Rattle.mta_records.specs.declared.fault.StepFault.{StepFault}
use Rattle.mta_records.specs.declared.fault.CompleteFault.{CompleteFault}
use Rattle.mta_records.specs.declared.fault.CompleteFault.TheVariants as CompleteFaults
use Rattle.mta_records.specs.Outgoing.{Carried}
use Rattle.mta_histories.specs.Lanes.{lane_at}
use Rattle.mta_session.specs.State.{State as Session}
use Rattle.mta_session.specs.declared.ask.Ask.{Ask}
use Rattle.mta_session.specs.declared.ask.Ask.TheVariants as ask
use Rattle.mta_session.specs.declared.ask.Reply.{Reply}
use Rattle.mta_session.specs.declared.ask.Reply.TheVariants as reply
use Rattle.mta_session.specs.declared.event.Action.{Action}
use Rattle.mta_spool.specs.Moments.{IsTimed}
use Rattle.mta_spool.specs.OnLanes.{next_generation}
use Rattle.mta_spool.specs.Receiving.{Receives}
use Rattle.mta_spool.specs.Shown.{Shown}
use Rattle.mta_spool.specs.Stands.{Appends, fault_of, step_moment}
use Rattle.mta_spool.specs.Starting.{next_activity}
use Rattle.mta_spool.specs.Turning.{IsUnchanged}
use Rattle.mta_spool.specs.declared.spool.Turned.TheVariants.{Did, Quiet}
use Rattle.mta_stations.specs.declared.end.Halt.{Halt}
use Rattle.mta_worker.specs.Answers.{Answered, BeginsNow, Binds, IsKind, lanes_of, MakesNow, Refuses}
use Rattle.mta_worker.specs.Readying.{Begun, Closed, IsReadied, IsStepped, No_memory, No_number, No_peer, No_room}
use Rattle.mta_worker.specs.Readying.{Refused, Stepped}
use Rattle.mta_worker.specs.Turns.{At_look, At_reply, HasAnswered, IsLost, Replied}
use Rattle.mta_worker.specs.Working.{TurnsOnce}
use Rattle.mta_worker.specs.declared.proposal.Next.{Next}
use Rattle.mta_worker.specs.declared.ready.Ready.{Ready}
use Rattle.mta_worker.specs.declared.telling.Lost.{Lost}
use Rattle.mta_worker_step_laws.specs.Steps.{IsMade}
use Rattle.mta_worker_step_laws.proofs.Dues.{due_made}

is_kind : (kind : ℕ) → IsKind kind ⊎ (IsKind kind → ⊥)
is_kind kind =
    elim (cases_lt kind 1) [
      | inl l ↦ inr (λ i. omega (arith, l, i.0))
      | inr low ↦ elim (cases_lt 12 kind) [ inl h ↦ inr (λ i. omega (arith, h, i.1)) | inr high ↦ inl (low, high) ]
    ]

module _ {D C : Type 0} (disks : DiskView D) (clocks : ClockView C) where
  abbrev Told : Shown D C → ℕ → Type 0
  Told s = clocks.tells s.clock

  -- no step is made, or one that a worker makes
  abbrev pub MakesOne : Shown D C → Shown D C → Type 0
  MakesOne old new =
      (new.entries ≡ old.entries)
      ⊎ ((made : Step) × (new.entries ≡ old.entries ++ made ∷ []) × IsMade (Told old) old.current made)

  appended : (made : Step) (old new : Shown D C) (fault : Option StepFault) → IsMade (Told old) old.current made
      → Appends disks made old new fault → MakesOne old new
  appended made old new None is a = inr (made, a.entries, is)
  appended made old new (Some f) is a = inl a.entries

  pub same : (old new : Shown D C) → new ≡ old → MakesOne old new
  same old new e = inl (ap (λ (s : Shown D C). s.entries) e)

  unchanged : (old new : Shown D C) → IsUnchanged old new → MakesOne old new
  unchanged old new u = inl u.2

  -- a step that carries a moment
  now : (made : ℕ → Step) (old new : Shown D C) (fault : Option StepFault)
      → ((m : ℕ) → IsTimed (Told old) old.current.moment m → IsMade (Told old) old.current (made m))
      → MakesNow disks clocks made old fault new → MakesOne old new
  now made old new fault is a =
      appended (made (step_moment a.told old.current.moment)) old new fault
      (is (step_moment a.told old.current.moment) (a.told, a.tells, refl)) a.at

  -- ---- what a question is answered

  binds : (lane : ℕ) (old new : Shown D C) (x : Result ℕ StepFault) → Binds disks clocks lane old x new
      → MakesOne old new
  binds lane old new x b =
      elim (cases_lt (next_generation (lane_at lane (lanes_of old))) (2 ^ 64)) [
        | inl l ↦ appended (step.Bind lane (next_generation (lane_at lane (lanes_of old)))) old new (fault_of x)
            (tt, tt) (b.0 l)
        | inr past ↦ unchanged old new (b.1 past).0
      ]

  begins : (lane g item : ℕ) (rs : List ℕ) (old new : Shown D C) (x : Result Carried StepFault)
      → BeginsNow disks clocks lane g item rs old x new → MakesOne old new
  begins lane g item rs old new x b =
      elim (cases_lt (next_activity (lane_at lane (lanes_of old))) (2 ^ 32)) [
        | inl l ↦ now (step.Start lane g (next_activity (lane_at lane (lanes_of old))) item rs) old new (fault_of x)
            (λ m t. (tt, t)) (b.0 l)
        | inr past ↦ unchanged old new (b.1 past).at.same
      ]

  refuses : (lane g k kind : ℕ) (old new : Shown D C) (x : Result (Unit {0}) StepFault)
      → Refuses disks clocks lane g k kind old x new → MakesOne old new
  refuses lane g k kind old new x r =
      elim (is_kind kind) [
        | inl i ↦ now (step.Refused lane g k kind) old new (fault_of x) (λ m t. (tt, t)) (r.0 i)
        | inr none ↦ same old new (r.1 none).0
      ]

  received : {T : Type 0} (made : Step) (Bad : Fault → Type 0) (old new : Shown D C) (x : Result T CompleteFault)
      → IsMade (Told old) old.current made → Receives disks made Bad old new x → MakesOne old new
  received made Bad old new (Ok t) is r = appended made old new None is (r.appends None refl)
  received made Bad old new (Err (CompleteFaults.Step f)) is r =
      appended made old new (Some f) is (r.appends (Some f) refl)
  received made Bad old new (Err (CompleteFaults.Bad f)) is r = unchanged old new (r.bad f refl).2

  pub answered : (q : Ask) (old : Shown D C) (x : Reply) (new : Shown D C) → Answered disks clocks q old x new
      → MakesOne old new
  answered (ask.BatchFor peer) old (reply.BatchFor x) new a = unchanged old new a.1
  answered (ask.LaneOpen role peer name twa size window) old (reply.LaneOpen x) new a =
      now (step.LaneOpen role peer name twa size window) old new (fault_of x) (λ m t. (tt, t)) a.0
  answered (ask.LaneAgree lane g size window) old (reply.LaneAgree x) new a =
      appended (step.LaneAgree lane g size window) old new (fault_of x) (tt, tt) a
  answered (ask.Bind lane) old (reply.Bind x) new a = binds lane old new x a
  answered (ask.Start lane g batch) old (reply.Start x) new a =
      begins lane g batch.item batch.recipients old new x a
  answered (ask.Confirm lane g k n) old (reply.Confirm x) new a =
      appended (step.Confirm lane g k n) old new (fault_of x) (tt, tt) a
  answered (ask.Ending lane g k) old (reply.Ending x) new a =
      appended (step.Ending lane g k) old new (fault_of x) (tt, tt) a
  answered (ask.Sent lane g k) old (reply.Sent x) new a =
      now (step.Sent lane g k) old new (fault_of x) (λ m t. (tt, t)) a
  answered (ask.Dropped lane g k) old (reply.Dropped x) new a =
      appended (step.Dropped lane g k) old new (fault_of x) (tt, tt) a
  answered (ask.Denied lane g k) old (reply.Denied x) new a =
      now (step.Denied lane g k) old new (fault_of x) (λ m t. (tt, t)) a
  answered (ask.Refused lane g k kind) old (reply.Refused x) new a = refuses lane g k kind old new x a
  answered (ask.Secure lane g k n piece) old (reply.Secure x) new a =
      received (step.Secure lane g k n piece) _ old new x (tt, tt) a
  answered (ask.Complete lane g k n piece) old (reply.Complete x) new a =
      received (step.Complete lane g k n piece (step_moment a.0.told old.current.moment)) _ old new x
      (tt, (a.0.told, a.0.tells, refl)) a.0.at
  answered (ask.DropActivity lane g k) old (reply.DropActivity x) new a =
      appended (step.Drop lane g k) old new (fault_of x) (tt, tt) a
  answered (ask.CloseLane lane g) old (reply.CloseLane x) new a =
      appended (step.CloseLane lane g) old new (fault_of x) (tt, tt) a
  answered (ask.Resumed lane) old (reply.Resumed x) new a = same old new a.1
  answered (ask.LaneOf role peer name) old (reply.LaneOf x) new a = same old new a.1
  answered (ask.Recovery lane) old (reply.Recovery x) new a = same old new a.1
  answered (ask.Receiving lane) old (reply.Receiving x) new a = same old new a.1
  answered (ask.Values lane) old (reply.Values x) new a = same old new a.1
  answered (ask.SpareLane role peer) old (reply.SpareLane x) new a = same old new a.1
  answered (ask.Peer name) old (reply.Peer x) new a = same old new a.1
  answered q old x new a = elim a [ ]

  -- ---- in a session

  replied : (q : Ask) (t : Session) (old : Shown D C) (x : Reply) (new : Shown D C)
      → Replied disks clocks q t old x new → MakesOne old new
  replied q t old x new r = elim r [ inl u ↦ same old new u.2 | inr a ↦ answered q old x new a.1 ]

  pub told : (q : Ask) (old : Shown D C) (t : Session) (halt : Option Halt) (new : Shown D C) (u : Session) (b : Action)
      (halt' : Option Halt) → HasAnswered disks clocks q old t halt new u b halt' → MakesOne old new
  told q old t halt new u b halt' h = replied q t old h.answer new h.replied

  pub lost : (q : Ask) (old : Shown D C) (t : Session) (halt : Option Halt) (new : Shown D C) (u : Session)
      (halt' : Option Halt) (why : Lost) → IsLost disks clocks q old t halt new u halt' why → MakesOne old new
  lost q old t halt new u halt' why (At_reply x r cause is noted) = replied q t old x new r
  lost q old t halt new u halt' why (At_look x heard wanted r turn looked) = replied q t old x new r

  -- ---- before one

  stepped : (x : Next) (units : ℕ) (old : Shown D C) (halt : Option Halt) (new : Shown D C) (halt' : Option Halt)
      (r : Ready) → IsStepped disks clocks x units old halt new halt' r → MakesOne old new
  stepped x units old halt new halt' r (No_room is noted) = same old new is
  stepped x units old halt new halt' r (Refused q y fault e a f noted) = answered q old y new a
  stepped x units old halt new halt' r (Closed lane g e a noted) =
      answered (ask.CloseLane lane g) old (reply.CloseLane (Ok tt)) new a
  stepped x units old halt new halt' r (Begun q y plan u first e a p begins) = answered q old y new a

  pub readied : (peer : List ℕ) (units : ℕ) (old : Shown D C) (halt : Option Halt) (new : Shown D C)
      (halt' : Option Halt) (r : Ready) → IsReadied disks clocks peer units old halt new halt' r → MakesOne old new
  readied peer units old halt new halt' r (No_peer is e noted) = same old new e
  readied peer units old halt new halt' r (No_number last is e noted) = same old new e
  readied peer units old halt new halt' r (No_memory e noted) = same old new e
  readied peer units old halt new halt' r (Stepped x _ is s) = stepped x units old halt new halt' r s

  -- ---- what is due

  pub did : (made : Step) (old new : Shown D C) → TurnsOnce disks clocks old (Ok (Did made)) new → MakesOne old new
  did made old new d =
      appended made old new None
      (due_made (Told old) old.current (step_moment d.told old.current.moment) made (d.told, d.tells, refl) d.at.0)
      d.at.1

  pub quiet : (moment : ℕ) (old new : Shown D C) → TurnsOnce disks clocks old (Ok (Quiet moment)) new
      → MakesOne old new
  quiet moment old new d = inl d.at.3.2

  pub refused : (fault : StepFault) (old new : Shown D C) → TurnsOnce disks clocks old (Err fault) new
      → MakesOne old new
  refused fault old new d =
      elim d.at [
        | inl a ↦ inl a.2.2
        | inr b ↦ elim b [ inl c ↦ inl c.2.2 | inr e ↦ inl e.1.2.entries ]
      ]
