-- A step that opens or binds a lane for a session is told in the call that gives the session its lane.
use Rattle.std.proofs.Common.{◌≡◌, ◌<◌, ◌≤◌, ℕ, ◌+◌, ◌-◌, Bool, List, Option, None, Some, Ok, refl, sym, ap, subst}
use Rattle.std.proofs.Common.{◌∙◌, arith, slice_get}
use Rattle.mta_transfer_rules.specs.Lanes.{On, Seen}
use Rattle.mta_units.specs.declared.unit.OpenUnit.{OpenUnit}
use Rattle.mta_lane_match_laws.specs.Asks.{IsAskOf, IsCloseLane, IsForOpen, IsLaneOf, IsLast, IsPeer, IsStart}
use Rattle.mta_lane_match_laws.specs.Generations.{Begins as BeginsHere, BeginsAt}
use Rattle.mta_session.specs.State.{State}
use Rattle.mta_session.specs.Wanted.{ask_of}
use Rattle.mta_session.specs.declared.ask.Ask.{Ask}
use Rattle.mta_session.specs.declared.ask.Ask.TheVariants as ask
use Rattle.mta_session.specs.declared.ask.Reply.{Reply}
use Rattle.mta_session.specs.declared.ask.Reply.TheVariants as reply
use Rattle.mta_session.specs.declared.event.Action.{Action}
use Rattle.mta_session.specs.declared.event.Action.TheVariants as action
use Rattle.mta_session.specs.declared.event.Event.{Event}
use Rattle.mta_session.specs.declared.event.Event.TheVariants as event
use Rattle.mta_session.specs.declared.peer.Peer.{Peer}
use Rattle.mta_session.specs.declared.phase.OwnStep.{OwnStep}
use Rattle.mta_session.specs.declared.phase.OwnStep.TheVariants as own
use Rattle.mta_session.specs.declared.phase.Phase.{Phase}
use Rattle.mta_session.specs.declared.phase.Phase.TheVariants as phase
use Rattle.mta_session_list_laws.specs.Calls.{StepOn, step_told}
use Rattle.mta_session_list_laws.specs.Standing.{ComesTrue, StandsAs}
use Rattle.mta_session_list_laws.specs.Lists.{step_by}
use Rattle.mta_session_list_laws.proofs.Ordering.{IsSome}
use Rattle.mta_shared.specs.Counts.{times}
use Rattle.mta_worker_list_laws.specs.Leads.{entry_at, made_by}
use Rattle.mta_worker_list_laws.proofs.Owned.{none_hit, one_hit}

-- a lane was asked for, and opened or bound
abbrev pub IsBegin : Ask → Reply → Type 0
IsBegin (ask.LaneOpen role peer name twa c w) (reply.LaneOpen (Ok n)) = Unit {0}
IsBegin (ask.Bind n) (reply.Bind (Ok g)) = Unit {0}
IsBegin q y = ⊥

-- the step that is told begins a generation
abbrev pub BeginsAny : (lane generation : ℕ) → StepOn → Type 0
BeginsAny l g z = BeginsHere l g (On z.lane z.step)

as_told : (l g : ℕ) (x z : StepOn) → Some x ≡ Some z → BeginsAny l g z → BeginsAny l g x
as_told l g x z e b =
    let same : z ≡ x = cc in
    subst (λ (s : StepOn). BeginsAny l g s) same b

none_told : {A : Type 0} (z : StepOn) → None ≡ Some z → A
none_told z e = absurd cc

told_begins : (q : Ask) (y : Reply) (z : StepOn) (l g : ℕ) → step_told q y ≡ Some z → BeginsAny l g z → IsBegin q y
told_begins (ask.LaneOpen role peer name twa c w) (reply.LaneOpen (Ok n)) z l g e b = tt
told_begins (ask.Bind n) (reply.Bind (Ok j)) z l g e b = tt
told_begins (ask.LaneAgree n j c w) (reply.LaneAgree (Ok x)) z l g e b = as_told l g _ z e b
told_begins (ask.Start n j batch) (reply.Start (Ok o)) z l g e b = as_told l g _ z e b
told_begins (ask.Confirm n j k m) (reply.Confirm (Ok x)) z l g e b = as_told l g _ z e b
told_begins (ask.Ending n j k) (reply.Ending (Ok x)) z l g e b = as_told l g _ z e b
told_begins (ask.Sent n j k) (reply.Sent (Ok x)) z l g e b = as_told l g _ z e b
told_begins (ask.Dropped n j k) (reply.Dropped (Ok x)) z l g e b = as_told l g _ z e b
told_begins (ask.Denied n j k) (reply.Denied (Ok x)) z l g e b = as_told l g _ z e b
told_begins (ask.Refused n j k kind) (reply.Refused (Ok x)) z l g e b = as_told l g _ z e b
told_begins (ask.Secure n j k m piece) (reply.Secure (Ok x)) z l g e b = as_told l g _ z e b
told_begins (ask.Complete n j k m piece) (reply.Complete (Ok x)) z l g e b = as_told l g _ z e b
told_begins (ask.DropActivity n j k) (reply.DropActivity (Ok x)) z l g e b = as_told l g _ z e b
told_begins (ask.CloseLane n j) (reply.CloseLane (Ok x)) z l g e b = as_told l g _ z e b
told_begins q y z l g e b = none_told z e

-- ---- where a session asks so

peer_none : (q : Ask) (y : Reply) → IsPeer q → IsBegin q y → ⊥
peer_none (ask.Peer name) y i b = b
peer_none q y i b = i

lane_none : (q : Ask) (y : Reply) → IsLaneOf q → IsBegin q y → ⊥
lane_none (ask.LaneOf role peer name) y i b = b
lane_none q y i b = i

close_none : (q : Ask) (y : Reply) → IsCloseLane q → IsBegin q y → ⊥
close_none (ask.CloseLane n g) y i b = b
close_none q y i b = i

start_none : (t : State) (q : Ask) (y : Reply) → IsStart t q → IsBegin q y → ⊥
start_none t (ask.Start n g batch) y i b = b
start_none t q y i b = i

last_none : (t : State) (q : Ask) (y : Reply) → IsLast t q → IsBegin q y → ⊥
last_none t (ask.CloseLane n g) y i b = b
last_none t (ask.Denied n g k) y i b = b
last_none t (ask.Sent n g k) y i b = b
last_none t q y i b = i

step_none : (t : State) (s : OwnStep) (y : Reply) → IsBegin (ask_of t s) y → ⊥
step_none t (own.Confirm n) y b = b
step_none t any1 y b = b

as_asked : (q r : Ask) (y : Reply) → q ≡ r → IsBegin q y → IsBegin r y
as_asked q r y e b = subst (λ (z : Ask). IsBegin z y) e b

new_gives : (again : Bool) (o : Option OpenUnit) (p : Option Peer) (q : Ask) (y : Reply) (u : State)
    → IsForOpen o p q → IsBegin q y → IsSome (step_by (phase.AsksNewLane again) (event.Reply y) u)
new_gives again o p (ask.LaneOpen role peer name twa c w) (reply.LaneOpen (Ok n)) u i b = tt
new_gives again (Some o) (Some p) (ask.Bind n) (reply.Bind (Ok g)) u i b = absurd cc
new_gives again (Some o) None (ask.Bind n) (reply.Bind (Ok g)) u i b = absurd i
new_gives again None p (ask.Bind n) (reply.Bind (Ok g)) u i b = absurd i
new_gives again o p q y u i b = absurd b

bind_gives : (n : ℕ) (q : Ask) (y : Reply) (u : State) → q ≡ ask.Bind n → IsBegin q y
    → IsSome (step_by phase.AsksBind (event.Reply y) u)
bind_gives n (ask.LaneOpen role peer name twa c w) (reply.LaneOpen (Ok m)) u i b = absurd cc
bind_gives n (ask.Bind m) (reply.Bind (Ok g)) u i b = tt
bind_gives n q y u i b = absurd b

-- such a reply gives a session its lane
pub asks_some : (p : Phase) (t : State) (q : Ask) (y : Reply) (u : State) → IsAskOf p t q → IsBegin q y
    → IsSome (step_by p (event.Reply y) u)
asks_some (phase.AsksNewLane again) t q y u i b = new_gives again t.opened t.line q y u i b
asks_some phase.AsksBind t q y u i b = bind_gives t.lane q y u i b
asks_some phase.AsksPeer t q y u i b = absurd (peer_none q y i b)
asks_some phase.AsksStands t q y u i b = absurd (lane_none q y i b)
asks_some phase.AsksRoom t q y u i b = absurd (close_none q y i b)
asks_some phase.AsksOldLane t q y u i b = absurd (lane_none q y i b)
asks_some phase.AsksStart t q y u i b = absurd (start_none t q y i b)
asks_some (phase.AsksLast end) t q y u i b = absurd (last_none t q y i b)
asks_some (phase.AsksStep step) t q y u i b = absurd (step_none t step y (as_asked q _ y i b))
asks_some phase.AsksSpare t q y u i b = absurd (as_asked q _ y i b)
asks_some phase.AsksValues t q y u i b = absurd (as_asked q _ y i b)
asks_some phase.AsksRecovery t q y u i b = absurd (as_asked q _ y i b)
asks_some (phase.AsksReceiving state) t q y u i b = absurd (as_asked q _ y i b)
asks_some (phase.AsksResumed state) t q y u i b = absurd (as_asked q _ y i b)
asks_some phase.AsksAgree t q y u i b = absurd (as_asked q _ y i b)
asks_some phase.AsksDenied t q y u i b = absurd (as_asked q _ y i b)
asks_some phase.AsksDue t q y u i b = absurd (as_asked q _ y i b)
asks_some phase.AsksBatch t q y u i b = absurd (as_asked q _ y i b)
asks_some phase.AsksStillIdle t q y u i b = absurd (as_asked q _ y i b)
asks_some phase.AsksState t q y u i b = absurd (as_asked q _ y i b)
asks_some (phase.AsksSecure k n) t q y u i b = absurd (as_asked q _ y i b)
asks_some (phase.AsksComplete k n) t q y u i b = absurd (as_asked q _ y i b)
asks_some (phase.AsksDrop k found) t q y u i b = absurd (as_asked q _ y i b)
asks_some phase.AsksClose t q y u i b = absurd (as_asked q _ y i b)
asks_some p t q y u i b = absurd i

-- ---- one call

pub begins_told : (l g : ℕ) (x : Seen) (z : StepOn) (o : Option Seen) → o ≡ Some x → o ≡ Some (On z.lane z.step)
    → BeginsHere l g x → BeginsAny l g z
begins_told l g x z o e f b =
    let same : x ≡ On z.lane z.step = cc in
    subst (λ (s : Seen). BeginsHere l g s) same b

module _ (spells : List ℕ → Bool) (history : List Seen) (n : ℕ) where
  pub entry_begins : (q : Ask) (y : Reply) (o : Option StepOn) (from seen k l g : ℕ) → step_told q y ≡ o
      → StandsAs spells history from seen q y o → n ≤ from → 0 < times k (entry_at n seen o)
      → BeginsAt history (n + k) l g → IsBegin q y
  entry_begins q y None from seen k l g e s le hit b = none_hit k hit
  entry_begins q y (Some z) from seen k l g e s le hit b =
      let at : k ≡ seen - 1 - n = one_hit k (seen - 1 - n) hit in
      let there : n + k ≡ seen - 1 = omega (arith, at, le, s.later) in
      told_begins q y z l g e
      (begins_told l g b.0 z (slice_get history (seen - 1))
      (ap (λ (m : ℕ). slice_get history m) (sym there) ∙ b.1) s.entry b.2)

  -- a call that tells of such an entry gives the session its lane
  pub call_begins : (p : Phase) (t : State) (a : Action) (e : Event) (u : State) (from seen k l g : ℕ)
      → ((q : Ask) → a ≡ action.Ask q → IsAskOf p t q) → ComesTrue spells history from seen p a e → n ≤ from
      → 0 < times k (made_by n seen a e) → BeginsAt history (n + k) l g → IsSome (step_by p e u)
  call_begins p t (action.Ask q) (event.Reply y) u from seen k l g asks is le hit b =
      asks_some p t q y u (asks q refl) (entry_begins q y (step_told q y) from seen k l g refl is.1 le hit b)
  call_begins p t (action.Ask q) any3 u from seen k l g asks is le hit b = none_hit k hit
  call_begins p t any2 e u from seen k l g asks is le hit b = none_hit k hit
