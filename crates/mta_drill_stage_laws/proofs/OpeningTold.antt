-- What is asked while a lane is opened or recovered is answered by what the session waits for.
use Rattle.std.proofs.Common.{◌≡◌, ℕ, Bool, false, List, [], ◌∷◌, Option, Some, None, refl, sym, ◌∙◌, ap}
use Rattle.std.proofs.Common.{subst, arith}
use Rattle.std.specs.Option.{option_map}
use Rattle.mta_units.specs.declared.unit.OpenUnit.{OpenUnit}
use Rattle.mta_lane_send.specs.declared.state.SendState.TheVariants as state
use Rattle.mta_records.specs.Reference.{Identifier}
use Rattle.mta_records.specs.declared.lane.LaneRole.{LaneRole}
use Rattle.mta_histories.specs.Lanes.{Lane, lane_at}
use Rattle.mta_histories.specs.Lanes.{State as SpoolState}
use Rattle.mta_session.specs.declared.ask.Ask.TheVariants as ask
use Rattle.mta_session.specs.declared.ask.Reply.{Reply}
use Rattle.mta_session.specs.declared.ask.Reply.TheVariants as reply
use Rattle.mta_session.specs.declared.event.Event.TheVariants as event
use Rattle.mta_session.specs.declared.peer.Peer.{Peer}
use Rattle.mta_session.specs.declared.phase.Phase.TheVariants as phase
use Rattle.mta_session.specs.Fits.{Answers}
use Rattle.mta_drill_laws.specs.Tables.{gold_1, second_text}
use Rattle.mta_drill_stage_laws.specs.Opening.{Accepted, Accepts, Agrees, Asks_lane, Asks_peer, Asks_stands, AtOpen}
use Rattle.mta_drill_stage_laws.specs.Opening.{Begins, Has_opened, Open_came, Opening, Opens, open_of, opener}
use Rattle.mta_drill_stage_laws.specs.Opening.{responder}
use Rattle.mta_drill_stage_laws.specs.Lines.{line_of_first}
use Rattle.mta_drill_stage_laws.specs.Recovering.{AtReopen, Recovering, UnderWay, again, again_of, binder, blank}
use Rattle.mta_drill_stage_laws.specs.Recovering.{valuer}
use Rattle.mta_drill_stage_laws.specs.Recovering as recovering
use Rattle.mta_drill_stage_laws.specs.Settings.{IsSized, Setting, listener}
use Rattle.mta_drill_stage_laws.specs.World.{IsHeard, Replied, World, values_of}
use Rattle.mta_drill_stage_laws.proofs.Opening.{peer_reply}
use Rattle.mta_drill_stage_laws.proofs.Recovering.{in_high, receiving_reply, recovery_reply, values_reply}
use Rattle.mta_drill_stage_laws.proofs.Told.{asks, puts, questions_are_answered, reads}

-- ---- answers

peer_heard : (right : ℕ) (o : Option OpenUnit) (s new : SpoolState) (y : Reply)
    → s.machine.tables ≡ second_text ∷ []
    → Replied (ask.Peer gold_1) (responder right phase.AsksPeer o None) s y new
    → Answers (responder right phase.AsksPeer o None) (event.Reply y)
peer_heard right o s new y tables h =
    let t = responder right phase.AsksPeer o None in
    let rep = peer_reply gold_1 t s new y h in
    subst (λ z. Answers t (event.Reply z)) (sym (rep.1 ∙ ap reply.Peer (rep.2 refl tables)))
    (omega arith, omega arith, omega arith)

stands_heard : (right : ℕ) (o : Option OpenUnit) (line : Option Peer) (reference : Option Identifier)
    (s new : SpoolState) (y : Reply) (role : LaneRole) (peer : List ℕ)
    → Replied (ask.LaneOf role peer reference) (responder right phase.AsksStands o line) s y new
    → Answers (responder right phase.AsksStands o line) (event.Reply y)
stands_heard right o line reference s new (reply.LaneOf z) role peer h = tt
stands_heard right o line reference s new any0 role peer h = elim h [ ]

old_heard : (right : ℕ) (o : Option OpenUnit) (line : Option Peer) (reference : Option Identifier)
    (s new : SpoolState) (y : Reply) (role : LaneRole) (peer : List ℕ)
    → Replied (ask.LaneOf role peer reference) (responder right phase.AsksOldLane o line) s y new
    → Answers (responder right phase.AsksOldLane o line) (event.Reply y)
old_heard right o line reference s new (reply.LaneOf z) role peer h = tt
old_heard right o line reference s new any0 role peer h = elim h [ ]

open_heard : (right : ℕ) (o : Option OpenUnit) (line : Option Peer) (s new : SpoolState) (y : Reply) (role : LaneRole)
    (peer : List ℕ) (name : Identifier) (twa : Bool) (size window : ℕ)
    → Replied (ask.LaneOpen role peer name twa size window) (responder right (phase.AsksNewLane false) o line) s y new
    → Answers (responder right (phase.AsksNewLane false) o line) (event.Reply y)
open_heard right o line s new (reply.LaneOpen z) role peer name twa size window h = tt
open_heard right o line s new any0 role peer name twa size window h = elim h [ ]

agree_heard : (x : Setting) (left n g size window : ℕ) (s new : SpoolState) (y : Reply)
    → Replied (ask.LaneAgree n g size window) (opener x left phase.AsksAgree) s y new
    → Answers (opener x left phase.AsksAgree) (event.Reply y)
agree_heard x left n g size window s new (reply.LaneAgree z) h = tt
agree_heard x left n g size window s new any0 h = elim h [ ]

bind_heard : (x : Setting) (right n : ℕ) (s new : SpoolState) (y : Reply)
    → Replied (ask.Bind n) (binder x right) s y new
    → Answers (binder x right) (event.Reply y)
bind_heard x right n s new (reply.Bind z) h = tt
bind_heard x right n s new any0 h = elim h [ ]

-- ---- a new lane

at_open_heard : (x : Setting) (w : World) → AtOpen x w → IsHeard w.listening
at_open_heard x w (Open_came l) = reads w.listening l.wants_is
at_open_heard x w (Asks_peer l) =
    asks w.listening _ (responder l.right phase.AsksPeer (Some (open_of x)) None) l.wants_is l.session_is
    (λ y new. peer_heard l.right (Some (open_of x)) w.listening.spool new y l.holds.has.tables)
at_open_heard x w (Asks_stands l) =
    asks w.listening _ (responder l.right phase.AsksStands (Some (open_of x)) (Some line_of_first)) l.wants_is
    l.session_is
    (λ y new. stands_heard l.right (Some (open_of x)) (Some line_of_first) _ w.listening.spool new y _ _)
at_open_heard x w (Asks_lane l) =
    asks w.listening _ (responder l.right (phase.AsksNewLane false) (Some (open_of x)) (Some line_of_first)) l.wants_is
    l.session_is
    (λ y new. open_heard l.right (Some (open_of x)) (Some line_of_first) w.listening.spool new y _ _ _ _ _ _)
at_open_heard x w (Accepts f free h) = puts w.listening _ h.listens.wants_is
at_open_heard x w (Accepted f free h) = reads w.listening h.listens.wants_is

pub openings_heard : (x : Setting) (w : World) → IsSized x → Opening x w → IsHeard w.calling × IsHeard w.listening
openings_heard x w sized (Opens h l) = (puts w.calling _ h.wants_is, reads w.listening l.wants_is)
openings_heard x w sized (Has_opened h at) = (reads w.calling h.wants_is, at_open_heard x w at)
openings_heard x w sized (Agrees h f free second) = (
  asks w.calling _ (opener x h.left phase.AsksAgree) h.wants_is h.session_is
      (λ y new. agree_heard x h.left _ _ _ _ w.calling.spool new y),
  reads w.listening second.listens.wants_is,
)
openings_heard x w sized (Begins h) = questions_are_answered x w sized h

-- ---- a lane that is recovered

at_reopen_heard : (x : Setting) (w : World) (done : ℕ) (u : UnderWay) → AtReopen x w done u → IsHeard w.listening
at_reopen_heard x w done u (recovering.Open_came l) = reads w.listening l.wants_is
at_reopen_heard x w done u (recovering.Asks_peer l) =
    asks w.listening _ (responder l.right phase.AsksPeer (Some (again_of x)) None) l.wants_is l.session_is
    (λ y new. peer_heard l.right (Some (again_of x)) w.listening.spool new y l.holds.has.tables)
at_reopen_heard x w done u (recovering.Asks_lane l) =
    asks w.listening _ (responder l.right phase.AsksOldLane (Some (again_of x)) (Some line_of_first)) l.wants_is
    l.session_is
    (λ y new. old_heard l.right (Some (again_of x)) (Some line_of_first) _ w.listening.spool new y _ _)
at_reopen_heard x w done u (recovering.Asks_bind l) =
    asks w.listening _ (binder x l.right) l.wants_is l.session_is
    (λ y new. bind_heard x l.right 1 w.listening.spool new y)
at_reopen_heard x w done u (recovering.Asks_values l) =
    let t = valuer x l.right in
    asks w.listening (ask.Values 1) t l.wants_is l.session_is (λ y new h.
    let rep = values_reply 1 t w.listening.spool new y h in
    let values = rep.2 ∙ ap (λ ls. option_map values_of (lane_at 1 ls)) l.holds.lanes in
    subst (λ z. Answers t (event.Reply z)) (sym (rep.1 ∙ ap reply.Values values))
    ((omega arith, omega arith, omega arith), refl))
at_reopen_heard x w done u (recovering.Asks_sending l) =
    let t = listener (again x) l.right phase.AsksRecovery blank in
    asks w.listening (ask.Recovery 1) t l.wants_is l.session_is (λ y new h.
    let rep = recovery_reply 1 t w.listening.spool new y h in
    let half = rep.2 ∙ ap (λ ls. option_map (λ (k : Lane). k.sending) (lane_at 1 ls)) l.holds.lanes in
    subst (λ z. Answers t (event.Reply z)) (sym (rep.1 ∙ ap reply.Recovery half)) (λ e. refl))
at_reopen_heard x w done u (recovering.Asks_received l) =
    let t = listener (again x) l.right (phase.AsksReceiving (state.Idle 0)) blank in
    asks w.listening (ask.Receiving 1) t l.wants_is l.session_is (λ y new h.
    let rep = receiving_reply 1 t w.listening.spool new y h in
    let half = rep.2 ∙ ap (λ ls. option_map (λ (k : Lane). (k.high, k.last)) (lane_at 1 ls)) l.holds.lanes in
    subst (λ z. Answers t (event.Reply z)) (sym (rep.1 ∙ ap reply.Receiving half))
    (in_high (again x) done u l.got l.high l.latest l.pieces l.stands))
at_reopen_heard x w done u (recovering.Accepts f free h) = puts w.listening _ h.listens.wants_is
at_reopen_heard x w done u (recovering.Accepted f free h) = reads w.listening h.listens.wants_is

pub recoveries_heard : (x : Setting) (w : World) → IsSized (again x) → Recovering x w
    → IsHeard w.calling × IsHeard w.listening
recoveries_heard x w sized (recovering.Opens done u h l) = (puts w.calling _ h.wants_is, reads w.listening l.wants_is)
recoveries_heard x w sized (recovering.Has_opened done u h at) =
    (reads w.calling h.wants_is, at_reopen_heard x w done u at)
recoveries_heard x w sized (recovering.Begins h) = questions_are_answered (again x) w sized h
