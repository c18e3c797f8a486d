-- Lists of calls are ordered.
use Rattle.std.proofs.Common.{◌≡◌, false, Option, Some, None, Ok, List, [], ◌∷◌, ◌++◌}
use Rattle.std.proofs.Common.{refl, sym, subst}
use Rattle.mta_session.specs.declared.ask.Reply.TheVariants as reply
use Rattle.mta_session.specs.declared.event.Event.{Event}
use Rattle.mta_session.specs.declared.event.Event.TheVariants as event
use Rattle.mta_session.specs.declared.event.Action.{Action}
use Rattle.mta_session.specs.declared.phase.Phase.{Phase}
use Rattle.mta_session.specs.declared.phase.Phase.TheVariants as phase
use Rattle.mta_session.specs.State.{State}
use Rattle.mta_session.specs.Wanted.{with_lane, answer_for}
use Rattle.mta_session.specs.Follows.{counted}
use Rattle.mta_session_laws.specs.Runs.{Turn, IsTurn}
use Rattle.mta_session_laws.specs.Whole.{AreCalls}
use Rattle.mta_session_laws.proofs.Opening.{wanted_in}
use Rattle.mta_session_laws.proofs.Whole.{is_ended}
use Rattle.mta_transfer_laws.specs.Sessions as x
use Rattle.mta_transfer_laws.specs.Sessions.{SessionList}
use Rattle.mta_session_list_laws.specs.Calls.{Call, StepOn, turns_of}
use Rattle.mta_session_list_laws.specs.Lists.{step_by}
use Rattle.mta_session_list_laws.proofs.Waiting.{Ready, ready_next, does_at}
use Rattle.mta_session_list_laws.proofs.Turns.{TurnGoes}
use Rattle.mta_session_list_laws.proofs.TurnsReplies.{accept_goes, Done, does_done}

-- ---- where a responder's list begins

abbrev pub IsSome : Option StepOn → Type 0
IsSome (Some y) = Unit {0}
IsSome None = ⊥

pub is_some : (o : Option StepOn) (y : StepOn) → o ≡ Some y → IsSome o
is_some o y e = subst IsSome (sym e) tt

begins_goes : (p : Phase) (t : State) (e : Event) (new : State) → IsSome (step_by p e new)
    → TurnGoes x.Before_accept (wanted_in p (counted t e) e) × (is_ended p ≡ false)
begins_goes (phase.AsksNewLane again) t (event.Reply (reply.LaneOpen (Ok lane))) new i =
    let v : State = with_lane t t.opened t.line lane in
    (accept_goes x.Before_accept v (answer_for v.side v.opened v.line) refl, refl)
begins_goes phase.AsksBind t (event.Reply (reply.Bind (Ok generation))) new i = (refl, refl)
begins_goes p t e new i = elim i [ ]

pub begins_done : (t : Turn) → IsTurn t → IsSome (step_by t.before.phase t.event t.after)
    → Done t.action t.after x.Before_accept
begins_done t is i =
    let goes = begins_goes t.before.phase t.before t.event t.after i in
    does_done (counted t.before t.event) (wanted_in t.before.phase (counted t.before t.event) t.event) t.action t.after
    x.Before_accept goes.0 (does_at t t.event refl is goes.1)

-- the calls from one on
pub record Later (c : Call) (cs : List Call) (u : State) : Type 0 where
  pub is : IsTurn c.turn
  pub ready : Ready c.turn.action c.turn.after
  pub run : AreCalls c.turn.after (turns_of cs) u

pub later_calls : (before cs : List Call) (c : Call) (a : Action) (t u : State) → Ready a t
    → AreCalls t (turns_of (before ++ c ∷ cs)) u → Later c cs u
later_calls [] cs c a t u k run =
    let here : Ready a c.turn.before = subst (Ready a) (sym run.0) k in
    record { is = run.1; ready = ready_next c.turn run.1 here.due; run = run.2 }
later_calls (d ∷ ds) cs c a t u k run =
    let here : Ready a d.turn.before = subst (Ready a) (sym run.0) k in
    later_calls ds cs c d.turn.action d.turn.after u (ready_next d.turn run.1 here.due) run.2
