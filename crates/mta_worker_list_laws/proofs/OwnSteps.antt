-- Each step that a session makes on its lane is asked for on that lane, in the session's generation.
use Rattle.std.proofs.Common.{◌≡◌, ℕ, true, Option, None, Some, Ok, Err, refl, sym, ap, ◌∙◌}
use Rattle.mta_units.specs.declared.unit.OpenUnit.{OpenUnit}
use Rattle.mta_records.specs.declared.lane.LaneRole.TheVariants.{Initiator, Responder}
use Rattle.mta_session.specs.State.{State}
use Rattle.mta_session.specs.Wanted.{ask_of}
use Rattle.mta_session.specs.declared.ask.Ask.{Ask}
use Rattle.mta_session.specs.declared.ask.Ask.TheVariants as ask
use Rattle.mta_session.specs.declared.ask.Reply.{Reply}
use Rattle.mta_session.specs.declared.ask.Reply.TheVariants as reply
use Rattle.mta_session.specs.declared.peer.Peer.{Peer}
use Rattle.mta_session.specs.declared.phase.OwnStep.{OwnStep}
use Rattle.mta_session.specs.declared.phase.OwnStep.TheVariants as own
use Rattle.mta_session.specs.declared.phase.Phase.{Phase}
use Rattle.mta_session.specs.declared.phase.Phase.TheVariants as phase
use Rattle.mta_lane_match_laws.specs.Asks.{IsAskOf, IsCloseLane, IsForOpen, IsLaneOf, IsLast, IsPeer, IsStart}
use Rattle.mta_lane_match_laws.specs.Calls.{has_lane}
use Rattle.mta_session_list_laws.specs.Calls.{StepOn, step_told}
use Rattle.mta_worker_list_laws.specs.Segments.{IsOwnStep}

-- the lane and the generation of such a step
pub record Place : Type 0 where
  pub lane : ℕ
  pub generation : ℕ

abbrev pub place : ℕ → ℕ → Place
place lane g = record { lane = lane; generation = g }

abbrev pub place_of : Ask → Option Place
place_of (ask.Start lane g batch) = Some (place lane g)
place_of (ask.Confirm lane g k n) = Some (place lane g)
place_of (ask.Ending lane g k) = Some (place lane g)
place_of (ask.Sent lane g k) = Some (place lane g)
place_of (ask.Dropped lane g k) = Some (place lane g)
place_of (ask.Denied lane g k) = Some (place lane g)
place_of (ask.Refused lane g k kind) = Some (place lane g)
place_of (ask.Secure lane g k n piece) = Some (place lane g)
place_of (ask.Complete lane g k n piece) = Some (place lane g)
place_of (ask.DropActivity lane g k) = Some (place lane g)
place_of q = None

none_place : (x : Place) → None ≡ Some x → {A : Type 0} → A
none_place x e = absurd cc

-- what is asked in a phase that asks for no such step
elsewhere : (q f : Ask) (x : Place) → q ≡ f → place_of f ≡ None → place_of q ≡ Some x → {A : Type 0} → A
elsewhere q f x same none e = none_place x (sym none ∙ ap place_of (sym same) ∙ e)

peer_none : (q : Ask) → IsPeer q → place_of q ≡ None
peer_none (ask.Peer name) i = refl
peer_none q i = absurd i

lane_none : (q : Ask) → IsLaneOf q → place_of q ≡ None
lane_none (ask.LaneOf role peer name) i = refl
lane_none q i = absurd i

close_none : (q : Ask) → IsCloseLane q → place_of q ≡ None
close_none (ask.CloseLane lane g) i = refl
close_none q i = absurd i

open_none : (o : Option OpenUnit) (p : Option Peer) (q : Ask) → IsForOpen o p q → place_of q ≡ None
open_none (Some o) (Some p) q i = ap place_of i
open_none (Some o) None q i = absurd i
open_none None p q i = absurd i

of_some : (x y : Place) → Some x ≡ Some y → x ≡ y
of_some x y e = cc

same_place : (l j m g : ℕ) → l ≡ m → j ≡ g → place l j ≡ place m g
same_place l j m g e f = ap (λ (n : ℕ). place n j) e ∙ ap (λ (n : ℕ). place m n) f

start_place : (t : State) (q : Ask) (x : Place) → IsStart t q → place_of q ≡ Some x → x ≡ place t.lane t.generation
start_place t (ask.Start l j batch) x i e =
    sym (of_some (place l j) x e) ∙ same_place l j t.lane t.generation i.0 i.1
start_place t q x i e = absurd i

last_place : (t : State) (q : Ask) (x : Place) → IsLast t q → place_of q ≡ Some x → x ≡ place t.lane t.generation
last_place t (ask.CloseLane l j) x i e = none_place x e
last_place t (ask.Denied l j k) x i e =
    sym (of_some (place l j) x e) ∙ same_place l j t.lane t.generation i.0 i.1
last_place t (ask.Sent l j k) x i e =
    sym (of_some (place l j) x e) ∙ same_place l j t.lane t.generation i.0 i.1
last_place t q x i e = absurd i

own_place : (t : State) (step : OwnStep) → place_of (ask_of t step) ≡ Some (place t.lane t.generation)
own_place t (own.Confirm n) = refl
own_place t any1 = refl

-- It is the session's lane, in a session that has one.
pub asked_place : (p : Phase) (t : State) (q : Ask) (x : Place) → IsAskOf p t q → place_of q ≡ Some x
    → (has_lane p ≡ true) × (x ≡ place t.lane t.generation)
asked_place phase.AsksPeer t q x i e = none_place x (sym (peer_none q i) ∙ e)
asked_place phase.AsksStands t q x i e = none_place x (sym (lane_none q i) ∙ e)
asked_place (phase.AsksNewLane again) t q x i e = none_place x (sym (open_none t.opened t.line q i) ∙ e)
asked_place phase.AsksSpare t q x i e = elsewhere q _ x i refl e
asked_place phase.AsksRoom t q x i e = none_place x (sym (close_none q i) ∙ e)
asked_place phase.AsksOldLane t q x i e = none_place x (sym (lane_none q i) ∙ e)
asked_place phase.AsksBind t q x i e = elsewhere q _ x i refl e
asked_place phase.AsksValues t q x i e = elsewhere q _ x i refl e
asked_place phase.AsksRecovery t q x i e = elsewhere q _ x i refl e
asked_place (phase.AsksReceiving state) t q x i e = elsewhere q _ x i refl e
asked_place (phase.AsksResumed state) t q x i e = elsewhere q _ x i refl e
asked_place phase.AsksAgree t q x i e = elsewhere q _ x i refl e
asked_place phase.AsksDenied t q x i e = (refl, of_some x (place t.lane t.generation) (sym e ∙ ap place_of i))
asked_place phase.AsksDue t q x i e = elsewhere q _ x i refl e
asked_place phase.AsksBatch t q x i e = elsewhere q _ x i refl e
asked_place phase.AsksStart t q x i e = (refl, start_place t q x i e)
asked_place phase.AsksStillIdle t q x i e = elsewhere q _ x i refl e
asked_place (phase.AsksStep step) t q x i e =
    (refl, of_some x (place t.lane t.generation) (sym e ∙ ap place_of i ∙ own_place t step))
asked_place phase.AsksState t q x i e = elsewhere q _ x i refl e
asked_place (phase.AsksSecure k n) t q x i e =
    (refl, of_some x (place t.lane t.generation) (sym e ∙ ap place_of i))
asked_place (phase.AsksComplete k n) t q x i e =
    (refl, of_some x (place t.lane t.generation) (sym e ∙ ap place_of i))
asked_place (phase.AsksDrop k found) t q x i e =
    (refl, of_some x (place t.lane t.generation) (sym e ∙ ap place_of i))
asked_place phase.AsksClose t q x i e = elsewhere q _ x i refl e
asked_place (phase.AsksLast end) t q x i e = (refl, last_place t q x i e)
asked_place p t q x i e = absurd i

-- ---- the step that a reply tells

abbrev pub StepOf : (generation : ℕ) → Option StepOn → Type 0
StepOf g (Some x) = IsOwnStep g x.step
StepOf g None = ⊥

abbrev pub lane_of : Option StepOn → ℕ
lane_of (Some x) = x.lane
lane_of None = 0

-- such a step is told of such a question alone
pub told_place : (q : Ask) (y : Reply) (g : ℕ) → StepOf g (step_told q y)
    → place_of q ≡ Some (place (lane_of (step_told q y)) g)
told_place (ask.Secure l j k n o) (reply.Secure (Ok u)) g p = ap (λ (z : ℕ). Some (place l z)) p
told_place (ask.Complete l j k n o) (reply.Complete (Ok u)) g p = ap (λ (z : ℕ). Some (place l z)) p
told_place (ask.DropActivity l j k) (reply.DropActivity (Ok u)) g p = ap (λ (z : ℕ). Some (place l z)) p
told_place (ask.LaneOpen Initiator peer name twa c w) (reply.LaneOpen (Ok lane)) g p = absurd p
told_place (ask.LaneOpen Responder peer name twa c w) (reply.LaneOpen (Ok lane)) g p = absurd p
told_place (ask.LaneAgree l j c w) (reply.LaneAgree (Ok u)) g p = absurd p
told_place (ask.LaneAgree l j c w) (reply.LaneAgree (Err f)) g p = absurd p
told_place (ask.Bind l) (reply.Bind (Ok u)) g p = absurd p
told_place (ask.Bind l) (reply.Bind (Err f)) g p = absurd p
told_place (ask.Start l j batch) (reply.Start (Ok u)) g p = ap (λ (z : ℕ). Some (place l z)) p
told_place (ask.Start l j batch) (reply.Start (Err f)) g p = absurd p
told_place (ask.Confirm l j k n) (reply.Confirm (Ok u)) g p = ap (λ (z : ℕ). Some (place l z)) p
told_place (ask.Confirm l j k n) (reply.Confirm (Err f)) g p = absurd p
told_place (ask.Ending l j k) (reply.Ending (Ok u)) g p = ap (λ (z : ℕ). Some (place l z)) p
told_place (ask.Ending l j k) (reply.Ending (Err f)) g p = absurd p
told_place (ask.Sent l j k) (reply.Sent (Ok u)) g p = ap (λ (z : ℕ). Some (place l z)) p
told_place (ask.Sent l j k) (reply.Sent (Err f)) g p = absurd p
told_place (ask.Dropped l j k) (reply.Dropped (Ok u)) g p = ap (λ (z : ℕ). Some (place l z)) p
told_place (ask.Dropped l j k) (reply.Dropped (Err f)) g p = absurd p
told_place (ask.Denied l j k) (reply.Denied (Ok u)) g p = ap (λ (z : ℕ). Some (place l z)) p
told_place (ask.Denied l j k) (reply.Denied (Err f)) g p = absurd p
told_place (ask.Refused l j k kind) (reply.Refused (Ok u)) g p = ap (λ (z : ℕ). Some (place l z)) p
told_place (ask.Refused l j k kind) (reply.Refused (Err f)) g p = absurd p
told_place (ask.CloseLane l j) (reply.CloseLane (Ok u)) g p = absurd p
told_place (ask.CloseLane l j) (reply.CloseLane (Err f)) g p = absurd p
told_place (ask.Secure l j k n o) (reply.Secure (Err f)) g p = absurd p
told_place (ask.Complete l j k n o) (reply.Complete (Err f)) g p = absurd p
told_place (ask.DropActivity l j k) (reply.DropActivity (Err f)) g p = absurd p
told_place (ask.LaneOpen role peer name twa c w) (reply.LaneOpen (Err f)) g p = absurd p
told_place q y g p = elim p [ ]
