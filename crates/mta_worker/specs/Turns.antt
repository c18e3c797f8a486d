-- One turn of the lock in a session: one call of the spool, and the looks behind it.
use Rattle.std.specs.Prelude.{◌≡◌, ◌⊎◌, List, [], ◌∷◌, Option, None, Some, Err}
use Rattle.std.specs.Option.{option_map}
use Rattle.mta_edge.specs.Views.{ClockView, DiskView}
use Rattle.mta_records.specs.declared.fault.StepFault.TheVariants as StepFaults
use Rattle.mta_histories.specs.Lanes.{Lane, lane_at}
use Rattle.mta_spool.specs.Shown.{Shown}
use Rattle.mta_session.specs.Fits.{Answers}
use Rattle.mta_session.specs.State.{State}
use Rattle.mta_session.specs.declared.ask.Ask.{Ask}
use Rattle.mta_session.specs.declared.ask.Ask.TheVariants as ask
use Rattle.mta_session.specs.declared.ask.Reply.{Reply}
use Rattle.mta_session.specs.declared.ask.Reply.TheVariants as reply
use Rattle.mta_session.specs.declared.event.Event.{Event}
use Rattle.mta_session.specs.declared.event.Event.TheVariants as event
use Rattle.mta_session.specs.declared.event.Action.{Action}
use Rattle.mta_session.specs.declared.event.Action.TheVariants as action
use Rattle.mta_session_laws.specs.Runs.{Turn, IsTurn}
use Rattle.mta_stations.specs.declared.end.Halt.{Halt}
use Rattle.mta_worker.specs.declared.telling.Lost.{Lost}
use Rattle.mta_worker.specs.declared.telling.Lost.TheVariants as losts
use Rattle.mta_worker.specs.Answers.{Answered, lanes_of}
use Rattle.mta_worker.specs.Halting.{halt_after}

-- one call of a session that is told a reply
abbrev pub told_reply : State → Reply → Action → State → Turn
told_reply t x a u = record { before = t; event = event.Reply x; action = a; after = u }

-- An activity is to be started on a lane whose sending half is not as the session knows it: another association of
-- the lane went on with it.
abbrev pub StartsElsewhere : {D C : Type 0} → Ask → State → Shown D C → Type 0
StartsElsewhere (ask.Start lane generation batch) t s =
    (option_map (λ (l : Lane). l.sending) (lane_at lane (lanes_of s)) ≡ Some t.send.state) → ⊥
StartsElsewhere _ t s = ⊥

-- the question is a look at a lane, which stands in the turn of the step before it
abbrev pub IsLook : Ask → Type 0
IsLook (ask.Values lane) = Unit {0}
IsLook (ask.Recovery lane) = Unit {0}
IsLook (ask.Receiving lane) = Unit {0}
IsLook (ask.Resumed lane) = Unit {0}
IsLook _ = ⊥

-- what is wanted is no look: each look stands in the turn of the step before it
abbrev pub WantsNoLook : Action → Type 0
WantsNoLook a = (q : Ask) → a ≡ action.Ask q → IsLook q → ⊥

-- why a session is given up at a reply: it is none to its question, or it is one and there is no memory to tell it
abbrev pub IsLostAt : State → Reply → Lost → Type 0
IsLostAt t x losts.Lane = Answers t (event.Reply x) → ⊥
IsLostAt t x losts.Memory = Answers t (event.Reply x)

-- the first cause for which the worker ends stays
abbrev pub noted : Option Halt → Reply → Option Halt
noted (Some halt) x = Some halt
noted None x = halt_after x

abbrev pub noted_of : Option Halt → Event → Option Halt
noted_of halt (event.Reply x) = noted halt x
noted_of halt e = halt

-- that of the replies of these calls
abbrev pub noted_in : Option Halt → List Turn → Option Halt
noted_in halt [] = halt
noted_in halt (x ∷ xs) = noted_in (noted_of halt x.event) xs

module _ {D C : Type 0} (disks : DiskView D) (clocks : ClockView C) where
  -- What a question is replied: what the call that it names answers, or a Start that would begin elsewhere is refused,
  -- and no step is made.
  abbrev pub Replied : Ask → State → Shown D C → Reply → Shown D C → Type 0
  Replied q t old x new =
      (StartsElsewhere q t old × (x ≡ reply.Start (Err StepFaults.Unexpected)) × (new ≡ old))
      ⊎ ((StartsElsewhere q t old → ⊥) × Answered disks clocks q old x new)

  -- the call is told what the spool answers to a look
  abbrev pub IsLooked : Shown D C → (before : Action) → Turn → Type 0
  IsLooked s a x =
      (q : Ask) × (y : Reply) × (a ≡ action.Ask q) × (x.event ≡ event.Reply y) × IsLook q
      × Answered disks clocks q s y s

  -- Looks, one after the other, each told as the spool stands.
  abbrev pub Looks : Shown D C → State → Action → List Turn → State → Action → Type 0
  Looks s t a [] u b = (u ≡ t) × (b ≡ a)
  Looks s t a (x ∷ xs) u b = (x.before ≡ t) × IsLooked s a x × IsTurn x × Looks s x.after x.action xs u b

  -- what looks came to: the session, what it wants then, and why its worker ends
  pub record HasLooked (s : Shown D C) (t : State) (a : Action) (halt : Option Halt) (u : State) (b : Action)
      (halt' : Option Halt) : Type 0 where
    pub turns : List Turn
    pub looks : Looks s t a turns u b
    pub noted : halt' ≡ noted_in halt turns

  -- the session is given up at a look, which is not told
  pub record IsLostLooking (s : Shown D C) (t : State) (a : Action) (halt : Option Halt) (u : State)
      (halt' : Option Halt) (lost : Lost) : Type 0 where
    pub question : Ask
    pub answer : Reply
    pub before : Option Halt
    pub looked : HasLooked s t a halt u (action.Ask question) before
    pub is_look : IsLook question
    pub answered : Answered disks clocks question s answer s
    pub cause : IsLostAt u answer lost
    pub noted : halt' ≡ noted before answer

  -- A question was replied, the session told, and all looks behind it.
  pub record HasAnswered (q : Ask) (old : Shown D C) (t : State) (halt : Option Halt) (new : Shown D C) (u : State)
      (b : Action) (halt' : Option Halt) : Type 0 where
    pub answer : Reply
    pub heard : State
    pub wanted : Action
    pub replied : Replied q t old answer new
    pub told : IsTurn (told_reply t answer wanted heard)
    pub looked : HasLooked new heard wanted (noted halt answer) u b halt'
    pub all_looked : WantsNoLook b

  -- The session is given up: at the reply to the question, which is not told, or at a look behind it.
  pub data IsLost (q : Ask) (old : Shown D C) (t : State) (halt : Option Halt) (new : Shown D C) (u : State)
      (halt' : Option Halt) (lost : Lost) : Type 0 where
    At_reply : (x : Reply) → Replied q t old x new → IsLostAt t x lost → u ≡ t → halt' ≡ noted halt x
        → IsLost q old t halt new u halt' lost
    At_look : (x : Reply) (heard : State) (wanted : Action) → Replied q t old x new
        → IsTurn (told_reply t x wanted heard)
        → IsLostLooking new heard wanted (noted halt x) u halt' lost → IsLost q old t halt new u halt' lost
