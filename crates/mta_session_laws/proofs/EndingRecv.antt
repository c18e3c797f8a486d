-- Where an open session turns to its end: what the list of its receiving end is then.
use Rattle.std.proofs.Common.{◌≡◌, ℕ, ◌&&◌, ◌==◌, not, nat_lt, if◌then◌else◌, Bool, true, false, Option, Some}
use Rattle.std.proofs.Common.{None, Result, Ok, Err, List, [], ◌∷◌, refl, sym, ap, subst, ◌∙◌}
use Rattle.mta_units.specs.declared.unit.Unit.{Unit as AnyUnit}
use Rattle.mta_units.specs.declared.unit.Unit.TheVariants as unit
use Rattle.mta_lane_send.specs.Half.{is_idle, is_ending, last_of}
use Rattle.mta_transfer_rules.specs.Units as u
use Rattle.mta_transfer_rules.specs.Sending.{SendEnd}
use Rattle.mta_transfer_rules.specs.Receiving as r
use Rattle.mta_transfer_rules.specs.Receiving.{RecvEnd, RecvEvent}
use Rattle.mta_records.specs.declared.fault.StepFault.{StepFault}
use Rattle.mta_records.specs.declared.fault.StepFault.TheVariants as fault
use Rattle.mta_records.specs.declared.fault.CompleteFault.TheVariants as piece
use Rattle.mta_session.specs.declared.ask.Reply.{Reply}
use Rattle.mta_session.specs.declared.ask.Reply.TheVariants as reply
use Rattle.mta_session.specs.declared.event.Action.{Action}
use Rattle.mta_session.specs.declared.event.Action.TheVariants as action
use Rattle.mta_session.specs.declared.event.Event.{Event}
use Rattle.mta_session.specs.declared.event.Event.TheVariants as event
use Rattle.mta_session.specs.declared.phase.Found.{Found}
use Rattle.mta_session.specs.declared.phase.OwnStep.{OwnStep}
use Rattle.mta_session.specs.declared.phase.OwnStep.TheVariants as own
use Rattle.mta_session.specs.declared.phase.Phase.{Phase}
use Rattle.mta_session.specs.declared.phase.Phase.TheVariants as phase
use Rattle.mta_session.specs.Receiving.{taken, is_free}
use Rattle.mta_session.specs.Sending.{called, heard, is_discard_put}
use Rattle.mta_session.specs.State.{State, is_initiator}
use Rattle.mta_session.specs.Wanted.{Wanted, Aborts, Rejects, Ends, Puts, Asks, Reads, Goes_on, Excepts, Never}
use Rattle.mta_session.specs.Wanted.{on_abort, on_close, takes, makes_or, goes_on_if, as_holder, as_listener, on_unit}
use Rattle.mta_session.specs.Wanted.{on_step, is_still, is_given_up, goes_on_with, wanted_of_go, wanted_of_unit}
use Rattle.mta_session.specs.Wanted.{wanted_of_reply, wanted_of_over}
use Rattle.mta_session.specs.Follows.{Of_receiver, Of_neither, part_of, part_of_abort, counted, PutsFor}
use Rattle.mta_session.specs.Follows.{GoesOn, Does}
use Rattle.mta_session.specs.Fits.{Fits}
use Rattle.mta_session_laws.specs.Turning.{is_open, called_for}
use Rattle.mta_session_laws.specs.TurningRecv.{whole, Reaches, ReachesBy, ReachesAt, RecvGoes, taken_as, unless_refused}
use Rattle.mta_session_laws.specs.TurningRecv.{told_by, with_put, with_unit, with_action}
use Rattle.mta_session_laws.proofs.Events.{never}
use Rattle.mta_session_laws.proofs.CallsRecv.{append_run, puts_go, except_goes, at}
use Rattle.mta_session_laws.proofs.Ending.{excepts_way}
use Rattle.mta_session_laws.proofs.Runs.{open_goes_on}
use Rattle.mta_session_laws.proofs.Opening.{wanted_in}
use Rattle.mta_session_laws.proofs.Rows.{refusal_says_nothing}

-- What is told where a session does not go on -----------------------------------------------------

-- but for a transfer that goes on nothing is told, and what is put says nothing of it
abbrev pub Plain : List RecvEvent → Wanted → Type 0
Plain told (Aborts reason) = (told ≡ []) × (part_of_abort reason ≡ Of_neither)
Plain told (Rejects reason) = told ≡ []
Plain told (Ends y) = told ≡ []
Plain told (Asks q v) = told ≡ []
Plain told (Reads v) = told ≡ []
Plain told (Puts x v) = (told ≡ []) × (with_unit [] x ≡ [])
Plain told (Goes_on v) = Unit {0}
Plain told (Excepts v f) = Unit {0}
Plain told Never = Unit {0}

-- the same of a unit, before it is looked at whether it is refused
abbrev Met : List RecvEvent → Wanted → Type 0
Met told (Aborts reason) = part_of_abort reason ≡ Of_neither
Met told (Rejects reason) = told ≡ []
Met told (Ends y) = told ≡ []
Met told (Asks q v) = told ≡ []
Met told (Reads v) = told ≡ []
Met told (Puts x v) = (told ≡ []) × (with_unit [] x ≡ [])
Met told (Goes_on v) = Unit {0}
Met told (Excepts v f) = Unit {0}
Met told Never = Unit {0}

met_plain : (told : List RecvEvent) (w : Wanted) → Met told w → Plain (unless_refused w told) w
met_plain told (Aborts reason) m = (refl, m)
met_plain told (Goes_on v) m = tt
met_plain told (Excepts v f) m = tt
met_plain told Never m = tt
met_plain told any1 m = m

if_met : (told : List RecvEvent) (b : Bool) (w v : Wanted) → Met told w → Met told v → Met told (if b then w else v)
if_met told true w v p q = p
if_met told false w v p q = q

both_met : (x y : List RecvEvent) (b : Bool) (w v : Wanted) → Met x w → Met y v
    → Met (if b then x else y) (if b then w else v)
both_met x y true w v p q = p
both_met x y false w v p q = q

none_told : (b : Bool) → ◌≡◌ {A = List RecvEvent} (if b then [] else []) []
none_told true = refl
none_told false = refl

abort_met : (t : State) (told : List RecvEvent) (reason : ℕ) → told ≡ [] → Met told (on_abort t reason)
abort_met t told reason n =
    if_met told ((reason == 2) && not (is_idle t.send.state)) _ _ n
    (if_met told ((reason == 7) && is_ending t.send.state (last_of t.send.state) && is_discard_put t.send.stage
    (last_of t.send.state)) _ _ n n)

passes_met : (t : State) (f : Option SendEnd) → Met [] (goes_on_if t f)
passes_met t None = refl
passes_met t (Some f) = tt

makes_met : (t : State) (x : AnyUnit) (o : Option OwnStep) → Met [] (makes_or t x o)
makes_met t x None = passes_met t (heard t.send x)
makes_met t x (Some step) = refl

holder_met : (t : State) (x : AnyUnit) → Met [] (as_holder t x)
holder_met t (unit.Please priority) = if_met [] t.twa _ _ tt refl
holder_met t x = makes_met t x (called t.send x)

takes_met : (t : State) (told : List RecvEvent) (f : Option RecvEnd) → Met told (takes t f)
takes_met t told None = refl
takes_met t told (Some f) = tt

close_met : (t : State) → Met [] (on_close t)
close_met t = if_met [] t.please _ _ tt (if_met [] (t.twa && not (is_idle t.send.state)) _ _ (refl, refl) refl)

listener_met : (t : State) (x : AnyUnit) → Met (taken_as x) (as_listener t x)
listener_met t unit.Give = if_met [] (t.twa && is_free t.recv.stage) _ _ tt refl
listener_met t unit.Close = if_met [] (not (is_initiator t.side) && is_free t.recv.stage) _ _ (close_met t) refl
listener_met t (unit.Please priority) = if_met [] t.twa _ _ tt refl
listener_met t x = takes_met t (taken_as x) (taken t.checkpoint t.recv x)

unit_met : (t : State) (x : AnyUnit) → Met (if t.ours then [] else taken_as x) (on_unit t x)
unit_met t (unit.Abort reason) = abort_met t (if t.ours then [] else []) reason (none_told t.ours)
unit_met t x = both_met [] (taken_as x) t.ours _ _ (holder_met t x) (listener_met t x)

if_plain : (told : List RecvEvent) (b : Bool) (w v : Wanted) → Plain told w → Plain told v
    → Plain told (if b then w else v)
if_plain told true w v p q = p
if_plain told false w v p q = q

abort_plain : (t : State) (reason : ℕ) → Plain [] (on_abort t reason)
abort_plain t reason =
    if_plain [] ((reason == 2) && not (is_idle t.send.state)) _ _ refl
    (if_plain [] ((reason == 7) && is_ending t.send.state (last_of t.send.state) && is_discard_put t.send.stage
    (last_of t.send.state)) _ _ refl refl)

closing_plain : (t : State) (x : AnyUnit) → Plain [] (wanted_of_unit phase.ReadsCloseAck t x)
closing_plain t unit.CloseAck = refl
closing_plain t (unit.Please priority) = if_plain [] t.twa _ _ (refl, refl) (refl, refl)
closing_plain t (unit.Abort reason) = abort_plain t reason
closing_plain t x = (refl, refl)

-- what is told of a unit
unit_plain : (p : Phase) (t : State) (q : List ℕ) (x : AnyUnit) → is_open p ≡ true
    → Plain (told_by p t q (event.Unit x)) (called_for p t x)
unit_plain phase.Reads t q x i =
    let c : State = counted t (event.Unit x) in
    met_plain (if t.ours then [] else taken_as x) (called_for phase.Reads t x)
    (if_met (if t.ours then [] else taken_as x) (c.left == 0) (Aborts 3) (wanted_of_unit phase.Reads c x) refl
    (unit_met c x))
unit_plain phase.ReadsCloseAck t q x i =
    let c : State = counted t (event.Unit x) in
    if_plain [] (c.left == 0) (Aborts 3) (wanted_of_unit phase.ReadsCloseAck c x) (refl, refl) (closing_plain c x)
unit_plain phase.Puts t q x i = if_plain [] ((counted t (event.Unit x)).left == 0) (Aborts 3) Never (refl, refl) tt
unit_plain phase.PutsClose t q x i = if_plain [] ((counted t (event.Unit x)).left == 0) (Aborts 3) Never (refl, refl) tt
unit_plain phase.AsksDue t q x i = if_plain [] ((counted t (event.Unit x)).left == 0) (Aborts 3) Never (refl, refl) tt
unit_plain phase.AsksBatch t q x i = if_plain [] ((counted t (event.Unit x)).left == 0) (Aborts 3) Never (refl, refl) tt
unit_plain phase.AsksStart t q x i = if_plain [] ((counted t (event.Unit x)).left == 0) (Aborts 3) Never (refl, refl) tt
unit_plain phase.AsksStillIdle t q x i = if_plain [] ((counted t (event.Unit x)).left == 0) (Aborts 3) Never
    (refl, refl) tt
unit_plain (phase.AsksStep step) t q x i = if_plain [] ((counted t (event.Unit x)).left == 0) (Aborts 3) Never
    (refl, refl) tt
unit_plain phase.AsksState t q x i = if_plain [] ((counted t (event.Unit x)).left == 0) (Aborts 3) Never (refl, refl) tt
unit_plain (phase.AsksSecure k n) t q x i = if_plain [] ((counted t (event.Unit x)).left == 0) (Aborts 3) Never
    (refl, refl) tt
unit_plain (phase.AsksComplete k n) t q x i = if_plain [] ((counted t (event.Unit x)).left == 0) (Aborts 3) Never
    (refl, refl) tt
unit_plain (phase.AsksDrop k found) t q x i = if_plain [] ((counted t (event.Unit x)).left == 0) (Aborts 3) Never
    (refl, refl) tt
unit_plain p t q x i = absurd (never i)

go_plain : (p : Phase) (t : State) (q : List ℕ) → is_open p ≡ true → Plain (told_by p t q event.Go) (wanted_of_go p t)
go_plain phase.Puts t q i = tt
go_plain phase.PutsClose t q i = refl
go_plain phase.Begin t q i = absurd (never i)
go_plain phase.PutsOpen t q i = absurd (never i)
go_plain phase.PutsAccept t q i = absurd (never i)
go_plain (phase.PutsLast y) t q i = absurd (never i)
go_plain p t q i = tt

over_plain : (p : Phase) (t : State) (q : List ℕ) → is_open p ≡ true
    → Plain (told_by p t q event.Over) (wanted_of_over p)
over_plain (phase.PutsLast y) t q i = absurd (never i)
over_plain p t q i = refl

bad_told : (p : Phase) (t : State) (q : List ℕ) → told_by p t q event.BadUnit ≡ []
bad_told phase.Reads t q = refl
bad_told p t q = refl

step_plain : (t : State) (step : OwnStep) (x : Result (Unit {0}) StepFault) → Plain [] (on_step t step x)
step_plain t step (Ok x) = tt
step_plain t step (Err fault.Unexpected) = refl
step_plain t step (Err f) = (refl, refusal_says_nothing f)

dropped_plain : (t : State) (told : List RecvEvent) (found : Option Found) → Plain told (goes_on_with found t)
dropped_plain t told None = tt
dropped_plain t told (Some f) = tt

reply_plain : (p : Phase) (t : State) (q : List ℕ) (x : Reply) → is_open p ≡ true
    → Plain (told_by p t q (event.Reply x)) (wanted_of_reply p t x)
reply_plain phase.AsksDue t q (reply.BatchFor (Ok (Some x))) i = (refl, refl)
reply_plain phase.AsksDue t q (reply.BatchFor (Ok None)) i = tt
reply_plain phase.AsksDue t q (reply.BatchFor (Err x)) i = (refl, refl)
reply_plain phase.AsksBatch t q (reply.BatchFor (Ok (Some x))) i = refl
reply_plain phase.AsksBatch t q (reply.BatchFor (Ok None)) i =
    if_plain [] (is_initiator t.side && not (t.please && t.twa)) _ _ (refl, refl) (refl, refl)
reply_plain phase.AsksBatch t q (reply.BatchFor (Err x)) i = (refl, refl)
reply_plain phase.AsksStart t q (reply.Start (Ok x)) i = tt
reply_plain phase.AsksStart t q (reply.Start (Err fault.Unexpected)) i = refl
reply_plain phase.AsksStart t q (reply.Start (Err x)) i = (refl, refusal_says_nothing x)
reply_plain phase.AsksStillIdle t q (reply.Recovery (Some x)) i =
    if_plain [] (is_still t.send.state x) _ _ (if_plain [] (nat_lt 1 t.left) _ _ refl (refl, refl)) (refl, refl)
reply_plain phase.AsksStillIdle t q (reply.Recovery None) i = (refl, refl)
reply_plain (phase.AsksStep (own.Confirm m)) t q (reply.Confirm x) i = step_plain t (own.Confirm m) x
reply_plain (phase.AsksStep own.Ending) t q (reply.Ending x) i = step_plain t own.Ending x
reply_plain (phase.AsksStep own.Sent) t q (reply.Sent x) i = step_plain t own.Sent x
reply_plain (phase.AsksStep own.Dropped) t q (reply.Dropped x) i = step_plain t own.Dropped x
reply_plain (phase.AsksStep (own.Refused kind)) t q (reply.Refused x) i = step_plain t (own.Refused kind) x
reply_plain phase.AsksState t q (reply.Recovery (Some x)) i = if_plain [] (is_given_up t x) _ _ tt (refl, refl)
reply_plain phase.AsksState t q (reply.Recovery None) i = (refl, refl)
reply_plain (phase.AsksSecure k m) t q (reply.Secure (Ok x)) i = tt
reply_plain (phase.AsksSecure k m) t q (reply.Secure (Err (piece.Bad x))) i = tt
reply_plain (phase.AsksSecure k m) t q (reply.Secure (Err (piece.Step x))) i = (refl, refusal_says_nothing x)
reply_plain (phase.AsksComplete k m) t q (reply.Complete (Ok x)) i = tt
reply_plain (phase.AsksComplete k m) t q (reply.Complete (Err (piece.Bad x))) i = tt
reply_plain (phase.AsksComplete k m) t q (reply.Complete (Err (piece.Step x))) i = (refl, refusal_says_nothing x)
reply_plain (phase.AsksDrop k found) t q (reply.DropActivity (Ok x)) i = dropped_plain _ _ found
reply_plain (phase.AsksDrop k found) t q (reply.DropActivity (Err x)) i = (refl, refusal_says_nothing x)
reply_plain phase.AsksPeer t q x i = absurd (never i)
reply_plain phase.AsksStands t q x i = absurd (never i)
reply_plain (phase.AsksNewLane again) t q x i = absurd (never i)
reply_plain phase.AsksSpare t q x i = absurd (never i)
reply_plain phase.AsksRoom t q x i = absurd (never i)
reply_plain phase.AsksOldLane t q x i = absurd (never i)
reply_plain phase.AsksBind t q x i = absurd (never i)
reply_plain phase.AsksValues t q x i = absurd (never i)
reply_plain phase.AsksRecovery t q x i = absurd (never i)
reply_plain (phase.AsksReceiving s) t q x i = absurd (never i)
reply_plain (phase.AsksResumed s) t q x i = absurd (never i)
reply_plain phase.AsksAgree t q x i = absurd (never i)
reply_plain phase.AsksDenied t q x i = absurd (never i)
reply_plain phase.AsksClose t q x i = absurd (never i)
reply_plain (phase.AsksLast y) t q x i = absurd (never i)
reply_plain p t q x i = tt

pub plain : (p : Phase) (t : State) (q : List ℕ) (e : Event) → is_open p ≡ true
    → Plain (told_by p t q e) (wanted_in p (counted t e) e)
plain p t q event.Go i = go_plain p t q i
plain p t q (event.Unit x) i = unit_plain p t q x i
plain p t q event.BadUnit i =
    if_plain (told_by p t q event.BadUnit) ((counted t event.BadUnit).left == 0) (Aborts 3) (Aborts 4)
    (bad_told p t q, refl) (bad_told p t q, refl)
plain p t q (event.Reply x) i = reply_plain p t q x i
plain p t q event.Over i = over_plain p t q i

-- The events of a call are allowed whatever it leads to --------------------------------------------

-- these events are allowed
abbrev pub Runs : RecvEnd → List RecvEvent → Type 0
Runs e events = (f : RecvEnd) × r.IsReceivingEnd e events f

none_runs : (e : RecvEnd) (events : List RecvEvent) → events ≡ [] → Runs e events
none_runs e events n = (e, subst (λ z. r.IsReceivingEnd e z e) (sym n) refl)

-- an Abort that answers Resume or Discard
abort_runs : (e : RecvEnd) (events : List RecvEvent) (v : State) (z : ℕ) (new : State) (b c : Bool) → (z == 7) ≡ b
    → (z == 2) ≡ c → PutsFor v (part_of_abort z) (unit.Abort z) new → Reaches e events phase.Puts v.recv →
    Runs e (with_put events (part_of_abort z))
abort_runs e events v z new true c p q g a =
    let first = subst (λ b. PutsFor v
    (if b then Of_receiver u.Completed else (if z == 2 then Of_receiver u.Unrecognized else Of_neither))
    (unit.Abort z) new) p g in
    let m = first.0 in
    let end : RecvEnd = whole phase.Puts v.recv a.0 in
    let may : r.MayPut end u.Completed = (m.0, at v.recv (r.Discards m.0) a.0 m.1 refl, m.2) in
    rw p (
      r.put end u.Completed,
      append_run e end (r.put end u.Completed) events (r.Put u.Completed ∷ []) a.1
          (may, refl),
    )
abort_runs e events v z new false true p q g a =
    let first = subst (λ b. PutsFor v
    (if b then Of_receiver u.Completed else (if z == 2 then Of_receiver u.Unrecognized else Of_neither))
    (unit.Abort z) new) p g in
    let second = subst (λ b. PutsFor v (if b then Of_receiver u.Unrecognized else Of_neither) (unit.Abort z) new) q
    first in
    let m = second.0 in
    let end : RecvEnd = whole phase.Puts v.recv a.0 in
    let may : r.MayPut end u.Unrecognized = (m.0, m.1, at v.recv (r.Asked m.0 m.1) a.0 m.2 refl, m.3, m.4) in
    rw p (rw q (
      r.put end u.Unrecognized,
      append_run e end (r.put end u.Unrecognized) events (r.Put u.Unrecognized ∷ []) a.1 (may, refl),
    ))
abort_runs e events v z new false false p q g a = rw p (rw q (whole phase.Puts v.recv a.0, a.1))

put_runs : (e : RecvEnd) (events : List RecvEvent) (v : State) (x : AnyUnit) (new : State) → PutsFor v (part_of x) x new
    → Reaches e events phase.Puts v.recv → Runs e (with_unit events x)
put_runs e events v (unit.Start z) new g a = (whole phase.Puts v.recv a.0, a.1)
put_runs e events v (unit.Piece z) new g a = (whole phase.Puts v.recv a.0, a.1)
put_runs e events v (unit.Sync z) new g a = (whole phase.Puts v.recv a.0, a.1)
put_runs e events v (unit.End z) new g a = (whole phase.Puts v.recv a.0, a.1)
put_runs e events v (unit.Resume z1 z2) new g a = (whole phase.Puts v.recv a.0, a.1)
put_runs e events v (unit.Discard z) new g a = (whole phase.Puts v.recv a.0, a.1)
put_runs e events v (unit.SyncAck z) new g a =
    let k = subst (λ n. ReachesAt e (with_unit events (unit.SyncAck z)) n.phase n.recv) g.1
    (puts_go e events v (unit.SyncAck z) new g a) in (_, k.1)
put_runs e events v (unit.EndAck z) new g a =
    let k = subst (λ n. ReachesAt e (with_unit events (unit.EndAck z)) n.phase n.recv) g.1
    (puts_go e events v (unit.EndAck z) new g a) in (_, k.1)
put_runs e events v (unit.ResumeAck z1 z2) new g a =
    let k = subst (λ n. ReachesAt e (with_unit events (unit.ResumeAck z1 z2)) n.phase n.recv) g.1
    (puts_go e events v (unit.ResumeAck z1 z2) new g a) in (_, k.1)
put_runs e events v (unit.DiscardAck z) new g a =
    let k = subst (λ n. ReachesAt e (with_unit events (unit.DiscardAck z)) n.phase n.recv) g.1
    (puts_go e events v (unit.DiscardAck z) new g a) in (_, k.1)
put_runs e events v (unit.Abort z) new g a = abort_runs e events v z new (z == 7) (z == 2) refl refl g a
put_runs e events v x new g a = elim g [ ]

pub goes_runs : (e : RecvEnd) (events : List RecvEvent) (v : State) (a : Action) (new : State) → GoesOn v a new
    → Fits new → Reaches e events phase.Puts v.recv → Runs e (with_action events a)
goes_runs e events v (action.Put x) new g f k = put_runs e events v x new g k
goes_runs e events v (action.Finish x) new g f k = elim g [ ]
goes_runs e events v any3 new g f k = (whole phase.Puts v.recv k.0, k.1)

-- a run of an open session
pub reached_runs : (e : RecvEnd) (events : List RecvEvent) (new : State) → is_open new.phase ≡ true
    → ReachesAt e events new.phase new.recv → Runs e events
reached_runs e events new i k =
    let there = subst (λ b. ReachesBy b e events new.phase new.recv) (open_goes_on new.phase i) k in
    (whole new.phase new.recv there.0, there.1)

pub wanted_runs : (e : RecvEnd) (events : List RecvEvent) (c : State) (w : Wanted) (a : Action) (new : State)
    → RecvGoes e events w → Plain events w → Does c w a new → Fits new → Runs e (with_action events a)
wanted_runs e events c (Aborts reason) a new g p d f =
    none_runs e (with_action events a) (ap {A = Action} (with_action events) d.0 ∙ ap (with_put events) p.1 ∙ p.0)
wanted_runs e events c (Puts x v) a new g p d f =
    none_runs e (with_action events a)
    (ap {A = Action} (with_action events) d.0 ∙ ap {A = List RecvEvent} (λ z. with_unit z x) p.0 ∙ p.1)
wanted_runs e events c (Goes_on v) a new g p d f = goes_runs e events v a new d f g
wanted_runs e events c (Excepts v y) a new g p d f = reached_runs e (with_action events a) new (excepts_way v y a new d)
    (except_goes e events v y a new d g)
wanted_runs e events c Never a new g p d f = elim d [ ]
wanted_runs e events c any3 a new g p d f =
    none_runs e (with_action events a) (ap {A = Action} (with_action events) d.0 ∙ p)
