-- The turn at a unit that is got.
use Rattle.std.proofs.Common.{◌≡◌, inl, inr, ℕ, ◌==◌, ◌&&◌, not, if◌then◌else◌, Bool, true, false, Option, Some}
use Rattle.std.proofs.Common.{None, refl, sym, subst, ◌||◌}
use Rattle.std.specs.Str.{bytes_eq}
use Rattle.mta_lane_send.specs.Half.{is_idle, is_ending, last_of}
use Rattle.mta_rtse.specs.declared.types.Answer.{Answer}
use Rattle.mta_rtse.specs.declared.types.Answer.TheVariants as answer
use Rattle.mta_units.specs.declared.unit.Unit.{Unit as AnyUnit}
use Rattle.mta_units.specs.declared.unit.Unit.TheVariants as unit
use Rattle.mta_transfer_rules.specs.Receiving.{RecvEnd}
use Rattle.mta_transfer_rules.specs.Sending.{SendEnd}
use Rattle.mta_session.specs.declared.event.InitiatorPlan.{InitiatorPlan}
use Rattle.mta_session.specs.declared.event.Side.{Side}
use Rattle.mta_session.specs.declared.event.Side.TheVariants as side
use Rattle.mta_session.specs.declared.phase.OwnStep.{OwnStep}
use Rattle.mta_session.specs.declared.phase.Phase.{Phase}
use Rattle.mta_session.specs.declared.phase.Phase.TheVariants as phase
use Rattle.mta_session.specs.State.{State, is_initiator}
use Rattle.mta_session.specs.Receiving.{is_free}
use Rattle.mta_session.specs.Sending.{called, heard, is_discard_put}
use Rattle.mta_session.specs.Wanted.{Aborts}
use Rattle.mta_session.specs.Wanted.{on_abort, on_reject, on_accept, on_values, is_refused_value, is_same_reference}
use Rattle.mta_session.specs.Wanted.{makes_or, goes_on_if, as_holder, as_listener, on_close, takes, on_unit, within}
use Rattle.mta_session.specs.Wanted.{on_close_ack, wanted_of_unit, on_answer_by}
use Rattle.mta_transfer_laws.specs.Sessions as x
use Rattle.mta_transfer_laws.specs.Sessions.{Got, Put, Turn, turn_put, turn_got, TurnAllows}
use Rattle.mta_session_list_laws.proofs.Found.{never}
use Rattle.mta_session_list_laws.proofs.Turns.{HoldsBy, HasTurn, Closes, Holds, UnitGoes, if_unit, own_turn}
use Rattle.mta_session_list_laws.proofs.Turns.{abort_allowed, is_answer}

-- ---- an Abort of the other end: the session is about to end

got_abort : (v : Turn) (reason : ℕ) → TurnAllows v (Got (unit.Abort reason))
got_abort x.Before_accept reason = tt
got_abort any0 reason = tt

pub abort_goes : (v : Turn) (t : State) (reason : ℕ) → UnitGoes v (unit.Abort reason) (on_abort t reason)
abort_goes v t reason =
    if_unit v (unit.Abort reason) ((reason == 2) && not (is_idle t.send.state)) _ _ (λ b. (got_abort v reason, tt))
    (λ b. if_unit v (unit.Abort reason)
    ((reason == 7) && is_ending t.send.state (last_of t.send.state) && is_discard_put t.send.stage
    (last_of t.send.state))
    _ _ (λ c. (got_abort v reason, tt)) (λ c. (got_abort v reason, tt)))

-- ---- the answer to an Open

values_goes : (t : State) (c w d z : ℕ) (a : Answer) → UnitGoes x.Before_accept (unit.Accept d z a) (on_values t c w)
values_goes t c w d z a =
    if_unit x.Before_accept (unit.Accept d z a) (is_refused_value t c w) _ _ (λ b. (tt, tt))
    (λ b. if_unit x.Before_accept (unit.Accept d z a) t.agreed _ _ (λ i. (tt, refl)) (λ i. (tt, refl)))

accept_goes : (p : InitiatorPlan) (t : State) (c w : ℕ) (a : Answer)
    → UnitGoes x.Before_accept (unit.Accept c w a) (on_accept p t c w a)
accept_goes p t c w (answer.Bind name password) =
    if_unit x.Before_accept (unit.Accept c w (answer.Bind name password)) p.recovering _ _ (λ b. (tt, tt))
    (λ b. if_unit x.Before_accept (unit.Accept c w (answer.Bind name password))
    (bytes_eq name p.peer && bytes_eq password p.expected_password) _ _ (λ i. values_goes t c w c w _) (λ i. (tt, tt)))
accept_goes p t c w (answer.Recover reference) =
    if_unit x.Before_accept (unit.Accept c w (answer.Recover reference))
    (p.recovering && is_same_reference reference p.reference) _ _ (λ b. values_goes t c w c w _) (λ b. (tt, tt))

reject_goes : (p : InitiatorPlan) (t : State) (reason : ℕ)
    → UnitGoes x.Before_accept (unit.Reject reason) (on_reject p t reason)
reject_goes p t reason =
    if_unit x.Before_accept (unit.Reject reason) ((reason == 1) && not (is_idle t.send.state)) _ _ (λ b. (tt, tt))
    (λ b. if_unit x.Before_accept (unit.Reject reason) ((reason == 1) || not p.recovering) _ _ (λ c. (tt, tt))
    (λ c. (tt, tt)))

answer_goes : (s : Side) (t : State) (u : AnyUnit) → UnitGoes x.Before_accept u (on_answer_by s t u)
answer_goes (side.Initiator p) t (unit.Accept c w a) = accept_goes p t c w a
answer_goes (side.Initiator p) t (unit.Reject reason) = reject_goes p t reason
answer_goes (side.Initiator p) t (unit.Abort reason) = abort_goes x.Before_accept t reason
answer_goes (side.Initiator p) t u = (tt, tt)
answer_goes (side.Responder own) t u = (tt, tt)

abbrev pub is_abort : AnyUnit → Bool
is_abort (unit.Abort reason) = true
is_abort u = false

-- ---- with the turn

abbrev Own_keeps : AnyUnit → Type 0
Own_keeps u = TurnAllows x.Own (Got u) × (turn_got x.Own u ≡ x.Own)

own_keeps : (u : AnyUnit) → is_answer u ≡ true → Own_keeps u
own_keeps (unit.SyncAck n) i = (tt, refl)
own_keeps (unit.EndAck k) i = (tt, refl)
own_keeps (unit.ResumeAck k n) i = (tt, refl)
own_keeps (unit.DiscardAck k) i = (tt, refl)
own_keeps (unit.Exception kind at) i = (tt, refl)
own_keeps u i = absurd (never i)

passes_goes : (u : AnyUnit) (t : State) (f : Option SendEnd) → Own_keeps u → t.ours ≡ true
    → UnitGoes x.Own u (goes_on_if t f)
passes_goes u t (Some f) k o =
    (k.0, subst (λ b. HoldsBy b t.please (turn_got x.Own u)) (sym o) k.1)
passes_goes u t None k o = (tt, tt)

makes_goes : (u : AnyUnit) (t : State) (c : Option OwnStep) → Own_keeps u → t.ours ≡ true
    → UnitGoes x.Own u (makes_or t u c)
makes_goes u t (Some step) k o =
    (k.0, subst (λ b. HoldsBy b t.please (turn_got x.Own u)) (sym o) k.1)
makes_goes u t None k o = passes_goes u t (heard t.send u) k o

please_goes : (t : State) (priority : ℕ) → t.ours ≡ true
    → UnitGoes x.Own (unit.Please priority) (as_holder t (unit.Please priority))
please_goes t priority o =
    if_unit x.Own (unit.Please priority) t.twa _ _
    (λ b. (tt, subst (λ b. HoldsBy b (t.please || is_initiator t.side) x.Own) (sym o) refl))
    (λ b. (tt, tt))

holder_goes : (t : State) (u : AnyUnit) → t.ours ≡ true → is_abort u ≡ false
    → UnitGoes x.Own u (as_holder t u)
holder_goes t (unit.Please priority) o a = please_goes t priority o
holder_goes t (unit.SyncAck n) o a = makes_goes (unit.SyncAck n) t (called t.send (unit.SyncAck n)) (tt, refl) o
holder_goes t (unit.EndAck k) o a = makes_goes (unit.EndAck k) t (called t.send (unit.EndAck k)) (tt, refl) o
holder_goes t (unit.ResumeAck k n) o a = makes_goes (unit.ResumeAck k n) t (called t.send (unit.ResumeAck k n))
    (tt, refl) o
holder_goes t (unit.DiscardAck k) o a = makes_goes (unit.DiscardAck k) t (called t.send (unit.DiscardAck k))
    (tt, refl) o
holder_goes t (unit.Exception k n) o a = makes_goes (unit.Exception k n) t (called t.send (unit.Exception k n))
    (tt, refl) o
holder_goes t (unit.Abort reason) o a = absurd (never (sym a))
holder_goes t u o a = (tt, tt)

-- ---- without it

takes_goes : (v : Turn) (u : AnyUnit) (t : State) (f : Option RecvEnd) → TurnAllows v (Got u)
    → TurnAllows v (x.Refused u) → TurnAllows v (Put (unit.Abort 4)) → HoldsBy t.ours t.please (turn_got v u)
    → UnitGoes v u (takes t f)
takes_goes v u t (Some e) k r a h = (k, h)
takes_goes v u t None k r a h = (r, a)

closes_by : (s : Side) → not (is_initiator s) ≡ true → Closes s x.Their_closing
closes_by (side.Initiator p) i = absurd (never i)
closes_by (side.Responder own) i = refl

first_so : (a b : Bool) → (a && b) ≡ true → a ≡ true
first_so true b e = refl
first_so false b e = absurd (never e)

-- behind Close: it waits for Give, asks for the turn, or closes the lane
closing_behind : (v : Turn) (t : State) → t.ours ≡ false → not (is_initiator t.side) ≡ true → TurnAllows v
    (Got unit.Close)
    → turn_got v unit.Close ≡ x.Their_closing → UnitGoes v unit.Close (on_close t)
closing_behind v t o s k c =
    if_unit v unit.Close t.please _ _
    (λ b. (
      k,
      subst (λ z. HoldsBy t.ours t.please z) (sym c)
          (subst (λ i. HoldsBy i t.please x.Their_closing) (sym o) (inr (refl, b))),
    ))
    (λ b. if_unit v unit.Close (t.twa && not (is_idle t.send.state)) _ _
    (λ d. (
      k,
      subst (λ z. TurnAllows z (Put (unit.Please 0)) × HoldsBy t.ours true (turn_put z (unit.Please 0))) (sym c)
          (tt, subst (λ i. HoldsBy i true x.Theirs) (sym o) (inl refl)),
    ))
    (λ d. (k, subst (λ z. Closes t.side z) (sym c) (closes_by t.side s))))

theirs_goes : (t : State) (u : AnyUnit) → t.ours ≡ false → is_abort u ≡ false → UnitGoes x.Theirs u (as_listener t u)
theirs_goes t unit.Give o a =
    if_unit x.Theirs unit.Give (t.twa && is_free t.recv.stage) _ _ (λ b. (tt, refl)) (λ b. (tt, tt))
theirs_goes t unit.Close o a =
    if_unit x.Theirs unit.Close (not (is_initiator t.side) && is_free t.recv.stage) _ _
    (λ b. closing_behind x.Theirs t o (first_so (not (is_initiator t.side)) (is_free t.recv.stage) b) tt refl)
    (λ b. (tt, tt))
theirs_goes t (unit.Please priority) o a =
    if_unit x.Theirs (unit.Please priority) t.twa _ _
    (λ b. (tt, subst (λ i. HoldsBy i t.please x.Theirs) (sym o) (inl refl))) (λ b. (tt, tt))
theirs_goes t (unit.Start k) o a = takes_goes x.Theirs (unit.Start k) t _ tt tt tt
    (subst (λ i. HoldsBy i t.please x.Theirs) (sym o) (inl refl))
theirs_goes t (unit.Piece k) o a = takes_goes x.Theirs (unit.Piece k) t _ tt tt tt
    (subst (λ i. HoldsBy i t.please x.Theirs) (sym o) (inl refl))
theirs_goes t (unit.Sync k) o a = takes_goes x.Theirs (unit.Sync k) t _ tt tt tt
    (subst (λ i. HoldsBy i t.please x.Theirs) (sym o) (inl refl))
theirs_goes t (unit.End k) o a = takes_goes x.Theirs (unit.End k) t _ tt tt tt
    (subst (λ i. HoldsBy i t.please x.Theirs) (sym o) (inl refl))
theirs_goes t (unit.Resume k n) o a = takes_goes x.Theirs (unit.Resume k n) t _ tt tt tt
    (subst (λ i. HoldsBy i t.please x.Theirs) (sym o) (inl refl))
theirs_goes t (unit.Discard k) o a = takes_goes x.Theirs (unit.Discard k) t _ tt tt tt
    (subst (λ i. HoldsBy i t.please x.Theirs) (sym o) (inl refl))
theirs_goes t (unit.Abort reason) o a = absurd (never (sym a))
theirs_goes t u o a = (tt, tt)

closing_goes : (t : State) (u : AnyUnit) → t.ours ≡ false → t.please ≡ true → is_abort u ≡ false
    → UnitGoes x.Their_closing u (as_listener t u)
closing_goes t unit.Give o q a =
    if_unit x.Their_closing unit.Give (t.twa && is_free t.recv.stage) _ _ (λ b. (tt, refl)) (λ b. (tt, tt))
closing_goes t unit.Close o q a =
    if_unit x.Their_closing unit.Close (not (is_initiator t.side) && is_free t.recv.stage) _ _
    (λ b. closing_behind x.Their_closing t o (first_so (not (is_initiator t.side)) (is_free t.recv.stage) b) tt refl)
    (λ b. (tt, tt))
closing_goes t (unit.Please priority) o q a =
    if_unit x.Their_closing (unit.Please priority) t.twa _ _
    (λ b. (tt, subst (λ i. HoldsBy i t.please x.Their_closing) (sym o) (inr (refl, q)))) (λ b. (tt, tt))
closing_goes t (unit.Start k) o q a = takes_goes x.Their_closing (unit.Start k) t _ tt tt tt
    (subst (λ i. HoldsBy i t.please x.Their_closing) (sym o) (inr (refl, q)))
closing_goes t (unit.Piece k) o q a = takes_goes x.Their_closing (unit.Piece k) t _ tt tt tt
    (subst (λ i. HoldsBy i t.please x.Their_closing) (sym o) (inr (refl, q)))
closing_goes t (unit.Sync k) o q a = takes_goes x.Their_closing (unit.Sync k) t _ tt tt tt
    (subst (λ i. HoldsBy i t.please x.Their_closing) (sym o) (inr (refl, q)))
closing_goes t (unit.End k) o q a = takes_goes x.Their_closing (unit.End k) t _ tt tt tt
    (subst (λ i. HoldsBy i t.please x.Their_closing) (sym o) (inr (refl, q)))
closing_goes t (unit.Resume k n) o q a = takes_goes x.Their_closing (unit.Resume k n) t _ tt tt tt
    (subst (λ i. HoldsBy i t.please x.Their_closing) (sym o) (inr (refl, q)))
closing_goes t (unit.Discard k) o q a = takes_goes x.Their_closing (unit.Discard k) t _ tt tt tt
    (subst (λ i. HoldsBy i t.please x.Their_closing) (sym o) (inr (refl, q)))
closing_goes t (unit.Abort reason) o q a = absurd (never (sym a))
closing_goes t u o q a = (tt, tt)

listener_goes : (v : Turn) (t : State) (u : AnyUnit) → t.ours ≡ false → is_abort u ≡ false → HoldsBy false t.please v
    → UnitGoes v u (as_listener t u)
listener_goes v t u o a (inl k) = subst (λ z. UnitGoes z u (as_listener t u)) (sym k) (theirs_goes t u o a)
listener_goes v t u o a (inr k) = subst (λ z. UnitGoes z u (as_listener t u)) (sym k.0) (closing_goes t u o k.1 a)

-- ---- an open session

by_turn : (v : Turn) (t : State) (u : AnyUnit) → is_abort u ≡ false → HasTurn t v
    → UnitGoes v u (if t.ours then as_holder t u else as_listener t u)
by_turn v t u a h =
    if_unit v u t.ours (as_holder t u) (as_listener t u)
    (λ o. subst (λ z. UnitGoes z u (as_holder t u)) (sym (own_turn t.ours t.please v o h)) (holder_goes t u o a))
    (λ o. listener_goes v t u o a (subst (λ i. HoldsBy i t.please v) o h))

reads_goes : (v : Turn) (t : State) (u : AnyUnit) → HasTurn t v → UnitGoes v u (on_unit t u)
reads_goes v t (unit.Abort reason) h = abort_goes v t reason
reads_goes v t u h = by_turn v t u refl h

initiator_closes : (s : Side) → is_initiator s ≡ true → Closes s x.Acknowledged
initiator_closes (side.Initiator p) i = refl
initiator_closes (side.Responder own) i = absurd (never i)

close_ack_goes : (t : State) (u : AnyUnit) → is_initiator t.side ≡ true → UnitGoes x.Own_closing u (on_close_ack t u)
close_ack_goes t unit.CloseAck i = (tt, initiator_closes t.side i)
close_ack_goes t (unit.Please priority) i =
    if_unit x.Own_closing (unit.Please priority) t.twa _ _ (λ b. (tt, (tt, inl refl))) (λ b. (tt, tt))
close_ack_goes t (unit.Abort reason) i = abort_goes x.Own_closing t reason
close_ack_goes t u i = (tt, tt)

-- ---- any phase that reads

abbrev pub reads_list : Phase → Bool
reads_list phase.ReadsAnswer = true
reads_list phase.Reads = true
reads_list phase.ReadsCloseAck = true
reads_list p = false

pub refused_allowed : (v : Turn) (u : AnyUnit) → TurnAllows v (x.Refused u)
refused_allowed x.Before_accept u = tt
refused_allowed any0 u = tt

pub reading_aborts : (p : Phase) (t : State) (v : Turn) (reason : ℕ) → reads_list p ≡ true → Holds p t v
    → TurnAllows v (Put (unit.Abort reason))
reading_aborts phase.ReadsAnswer t v reason i h = subst (λ z. TurnAllows z (Put (unit.Abort reason))) (sym h) tt
reading_aborts phase.Reads t v reason i h = abort_allowed t.ours t.please v reason h
reading_aborts phase.ReadsCloseAck t v reason i h = subst (λ z. TurnAllows z (Put (unit.Abort reason))) (sym h.0) tt
reading_aborts p t v reason i h = absurd (never i)

unit_wanted : (p : Phase) (t : State) (v : Turn) (u : AnyUnit) → reads_list p ≡ true → Holds p t v
    → UnitGoes v u (wanted_of_unit p t u)
unit_wanted phase.ReadsAnswer t v u i h =
    subst (λ z. UnitGoes z u (on_answer_by t.side t u)) (sym h) (answer_goes t.side t u)
unit_wanted phase.Reads t v u i h = reads_goes v t u h
unit_wanted phase.ReadsCloseAck t v u i h =
    subst (λ z. UnitGoes z u (on_close_ack t u)) (sym h.0) (close_ack_goes t u h.1)
unit_wanted p t v u i h = absurd (never i)

pub unit_goes : (p : Phase) (t : State) (v : Turn) (u : AnyUnit) → reads_list p ≡ true → Holds p t v
    → UnitGoes v u (within t (wanted_of_unit p t u))
unit_goes p t v u i h =
    if_unit v u (t.left == 0) (Aborts 3) (wanted_of_unit p t u)
    (λ b. (refused_allowed v u, reading_aborts p t v 3 i h)) (λ b. unit_wanted p t v u i h)
