-- What is asked in each stage is answered by what the session waits for.
use Rattle.std.proofs.Common.{◌≡◌, ◌⊎◌, inl, inr, ◌<◌, ◌≤◌, ℕ, zero, suc, ◌+◌, Bool, true, false, List, [], ◌∷◌}
use Rattle.std.proofs.Common.{length, None, Ok, refl, sym, ◌∙◌, ap, subst, arith}
use Rattle.std.proofs.lemmas.Bool.{cases_lt}
use Rattle.std.specs.Option.{option_map}
use Rattle.mta_units.specs.declared.unit.Unit.{Unit as AnyUnit}
use Rattle.mta_lane_send.specs.declared.state.SendState.TheVariants as state
use Rattle.mta_lane_recv.specs.declared.state.Last.{Last}
use Rattle.mta_transfer_rules.specs.Pieces.{piece_of}
use Rattle.mta_transfer_rules.specs.Sending as s
use Rattle.mta_transfer_rules.specs.Sending.{SendEnd, SendStage}
use Rattle.mta_transfer_rules.specs.Receiving.{RecvEnd}
use Rattle.mta_records.specs.declared.lane.Batch.{Batch}
use Rattle.mta_histories.specs.Due.{IsBatch}
use Rattle.mta_histories.specs.Lanes.{Lane, lane_at}
use Rattle.mta_histories.specs.Lanes.{State as SpoolState}
use Rattle.mta_session.specs.declared.ask.Ask.{Ask}
use Rattle.mta_session.specs.declared.ask.Ask.TheVariants as ask
use Rattle.mta_session.specs.declared.ask.Reply.{Reply}
use Rattle.mta_session.specs.declared.ask.Reply.TheVariants as reply
use Rattle.mta_session.specs.declared.event.Action.{Action}
use Rattle.mta_session.specs.declared.event.Action.TheVariants as action
use Rattle.mta_session.specs.declared.event.Event.TheVariants as event
use Rattle.mta_session.specs.declared.event.SessionEnd.{SessionEnd}
use Rattle.mta_session.specs.declared.event.SessionEnd.TheVariants as end
use Rattle.mta_session.specs.declared.phase.Phase.TheVariants as phase
use Rattle.mta_session.specs.declared.phase.OwnStep.TheVariants as own
use Rattle.mta_session.specs.Fits.{Answers, StartFits}
use Rattle.mta_session.specs.State.{State}
use Rattle.mta_drill_laws.specs.Tables.{east}
use Rattle.mta_drill_stage_laws.specs.Breaks.{Breaks}
use Rattle.mta_drill_stage_laws.specs.Laws.{QuestionsAreAnswered}
use Rattle.mta_drill_stage_laws.specs.Settings.{FirstHolds, IsSized, Setting, caller, first_lane, half_at, listener}
use Rattle.mta_drill_stage_laws.specs.Settings.{octets_behind}
use Rattle.mta_drill_stage_laws.specs.Settings.{under_way}
use Rattle.mta_drill_stage_laws.specs.Stages.{FirstCalls, Aborts, Acknowledges, AtClose, AtDiscard, AtEnd, AtHeld}
use Rattle.mta_drill_stage_laws.specs.Stages.{AtNext, AtResume}
use Rattle.mta_drill_stage_laws.specs.Stages.{Close_answers, Close_came, Close_rests, Closes_lane, Completes}
use Rattle.mta_drill_stage_laws.specs.Stages.{Discard_came, End_came, Ended, First, Has_aborted, Holds, IsCutOff}
use Rattle.mta_drill_stage_laws.specs.Stages.{Is_over, Piece_came, Rests, Resume_came, Resumed, Resumes, Second}
use Rattle.mta_drill_stage_laws.specs.Stages.{Secures}
use Rattle.mta_drill_stage_laws.specs.Stages.{Start_came, Sync_came, While_putting, While_reading}
use Rattle.mta_drill_stage_laws.specs.Stages as stage
use Rattle.mta_drill_stage_laws.specs.World.{IsHeard, IsHeardOf, Party, Replied, World}
use Rattle.mta_drill_stage_laws.proofs.Asking.{start_reply}
use Rattle.mta_drill_stage_laws.proofs.Ending.{discard_due, resume_due}
use Rattle.mta_drill_stage_laws.proofs.Pieces.{octets-few, octets-more}
use Rattle.mta_drill_stage_laws.proofs.Speaking.{action_is, end_due, piece_due, state_is, window_full}
use Rattle.mta_drill_stage_laws.proofs.Spools.{first_starts}

-- ---- one side

pub puts : (p : Party) (y : AnyUnit) → p.wants ≡ action.Put y → IsHeard p
puts p y e = subst (λ a. IsHeardOf a p) (sym e) tt

pub reads : (p : Party) → p.wants ≡ action.Read → IsHeard p
reads p e = subst (λ a. IsHeardOf a p) (sym e) tt

pub over : (p : Party) (e : SessionEnd) → p.wants ≡ action.Finish e → IsHeard p
over p e is = subst (λ a. IsHeardOf a p) (sym is) tt

pub asks : (p : Party) (q : Ask) (t : State) → p.wants ≡ action.Ask q → p.session ≡ t
    → ((y : Reply) (new : SpoolState) → Replied q t p.spool y new → Answers t (event.Reply y)) → IsHeard p
asks p q t ew es h = subst (λ a. IsHeardOf a p) (sym ew)
    (subst (λ (z : State). (y : Reply) (new : SpoolState) → Replied q z p.spool y new → Answers z (event.Reply y))
    (sym es) h)

-- by what it says
puts_so : (p : Party) (y : AnyUnit) (t : State) → ◌≡◌ {A = Action × State} (p.wants, p.session) (action.Put y, t)
    → IsHeard p
puts_so p y t e = puts p y (action_is (p.wants, p.session) (action.Put y, t) e)

reads_so : (p : Party) (t : State) → ◌≡◌ {A = Action × State} (p.wants, p.session) (action.Read, t) → IsHeard p
reads_so p t e = reads p (action_is (p.wants, p.session) (action.Read, t) e)

asks_so : (p : Party) (q : Ask) (t : State) → ◌≡◌ {A = Action × State} (p.wants, p.session) (action.Ask q, t)
    → ((y : Reply) (new : SpoolState) → Replied q t p.spool y new → Answers t (event.Reply y)) → IsHeard p
asks_so p q t e h = asks p q t (action_is (p.wants, p.session) (action.Ask q, t) e)
    (state_is (p.wants, p.session) (action.Ask q, t) e) h

-- ---- questions

batch_heard : (x : Setting) (left : ℕ) (e : SendEnd) (peer : List ℕ) (s new : SpoolState) (y : Reply)
    → Replied (ask.BatchFor peer) (caller x left phase.AsksBatch e) s y new
    → Answers (caller x left phase.AsksBatch e) (event.Reply y)
batch_heard x left e peer s new (reply.BatchFor z) h = tt
batch_heard x left e peer s new any0 h = elim h [ ]

ending_heard : (x : Setting) (left : ℕ) (e : SendEnd) (n g k : ℕ) (s new : SpoolState) (y : Reply)
    → Replied (ask.Ending n g k) (caller x left (phase.AsksStep own.Ending) e) s y new
    → Answers (caller x left (phase.AsksStep own.Ending) e) (event.Reply y)
ending_heard x left e n g k s new (reply.Ending z) h = tt
ending_heard x left e n g k s new any0 h = elim h [ ]

confirm_heard : (x : Setting) (left : ℕ) (e : SendEnd) (n g k m : ℕ) (s new : SpoolState) (y : Reply)
    → Replied (ask.Confirm n g k m) (caller x left (phase.AsksStep (own.Confirm m)) e) s y new
    → Answers (caller x left (phase.AsksStep (own.Confirm m)) e) (event.Reply y)
confirm_heard x left e n g k m s new (reply.Confirm z) h = tt
confirm_heard x left e n g k m s new any0 h = elim h [ ]

sent_heard : (x : Setting) (left : ℕ) (e : SendEnd) (n g k : ℕ) (s new : SpoolState) (y : Reply)
    → Replied (ask.Sent n g k) (caller x left (phase.AsksStep own.Sent) e) s y new
    → Answers (caller x left (phase.AsksStep own.Sent) e) (event.Reply y)
sent_heard x left e n g k s new (reply.Sent z) h = tt
sent_heard x left e n g k s new any0 h = elim h [ ]

close_heard : (x : Setting) (left : ℕ) (e : SendEnd) (n g : ℕ) (s new : SpoolState) (y : Reply)
    → Replied (ask.CloseLane n g) (caller x left phase.AsksClose e) s y new
    → Answers (caller x left phase.AsksClose e) (event.Reply y)
close_heard x left e n g s new (reply.CloseLane z) h = tt
close_heard x left e n g s new any0 h = elim h [ ]

secure_heard : (x : Setting) (right : ℕ) (f : RecvEnd) (n g k m : ℕ) (piece : List ℕ) (s new : SpoolState) (y : Reply)
    → Replied (ask.Secure n g k m piece) (listener x right (phase.AsksSecure k m) f) s y new
    → Answers (listener x right (phase.AsksSecure k m) f) (event.Reply y)
secure_heard x right f n g k m piece s new (reply.Secure z) h = tt
secure_heard x right f n g k m piece s new any0 h = elim h [ ]

complete_heard : (x : Setting) (right : ℕ) (f : RecvEnd) (n g k m : ℕ) (piece : List ℕ) (s new : SpoolState) (y : Reply)
    → Replied (ask.Complete n g k m piece) (listener x right (phase.AsksComplete k m) f) s y new
    → Answers (listener x right (phase.AsksComplete k m) f) (event.Reply y)
complete_heard x right f n g k m piece s new (reply.Complete z) h = tt
complete_heard x right f n g k m piece s new any0 h = elim h [ ]

lane_heard : (x : Setting) (right : ℕ) (f : RecvEnd) (n g : ℕ) (s new : SpoolState) (y : Reply)
    → Replied (ask.CloseLane n g) (listener x right phase.AsksClose f) s y new
    → Answers (listener x right phase.AsksClose f) (event.Reply y)
lane_heard x right f n g s new (reply.CloseLane z) h = tt
lane_heard x right f n g s new any0 h = elim h [ ]

-- what is started is the next activity, and has octets
start_heard : (x : Setting) (w : World) (done left : ℕ) (batch : Batch) → IsSized x → done < x.count
    → FirstHolds x w.calling.spool done (state.Idle done) None
    → IsBatch w.calling.spool east w.calling.spool.moment batch.item batch.recipients → batch.item ≡ done + 1
    → batch.recipients ≡ 1 ∷ []
    → (y : Reply) (new : SpoolState)
    → Replied (ask.Start 1 x.generation batch) (caller x left phase.AsksStart (half_at (state.Idle done) [] s.Quiet))
    w.calling.spool y new
    → Answers (caller x left phase.AsksStart (half_at (state.Idle done) [] s.Quiet)) (event.Reply y)
start_heard x w done left batch sized below h is ei er y new replied =
    let lane = first_lane x (state.Idle done) None in
    let t = caller x left phase.AsksStart (half_at (state.Idle done) [] s.Quiet) in
    let rep = start_reply 1 x.generation batch w.calling.spool new y
    (replied (ap (λ ls. option_map (λ (l : Lane). l.sending) (lane_at 1 ls)) h.lanes)) in
    let started = first_starts x w.calling.spool new done batch rep.0 sized below h is ei er
    (rep.2 lane (ap (lane_at 1) h.lanes)) in
    let fits : StartFits t.send (Ok started.outgoing) = (
      started.activity,
      omega (arith, ap length started.octets, octets-more x done),
      omega (arith, ap length started.octets, octets-few x done),
    ) in
    subst (λ z. Answers t (event.Reply z)) (sym (rep.1 ∙ ap reply.Start started.answer)) fits

-- ---- the second agent

second_reads : (x : Setting) (w : World) (done read : ℕ) (Has : ℕ → ℕ → Last → List (List ℕ) → Type 0)
    (Bears : Breaks → Type 0) (f : RecvEnd) (came up : List AnyUnit)
    → Second x w done Has Bears read action.Read phase.Reads f came up → IsHeard w.listening
second_reads x w done read Has Bears f came up h = reads w.listening h.listens.wants_is

next_heard : (x : Setting) (w : World) (done c : ℕ) (whole : Bool) (n : ℕ) → AtNext x w done c whole n
    → IsHeard w.listening
next_heard x w done c whole n (Start_came f en ec ew free h) = reads w.listening h.listens.wants_is
next_heard x w done c whole n (Sync_came m j f en sum held h) = reads w.listening h.listens.wants_is
next_heard x w done c whole n (Secures m j f en sum ew free acked from h) =
    asks w.listening _ (listener x h.right (phase.AsksSecure (done + 1) (m + 1)) f) h.listens.wants_is
    h.listens.session_is
    (λ y new. secure_heard x h.right f 1 x.generation (done + 1) (m + 1)
    (piece_of 1024 (octets_behind x done) (m + 1)) w.listening.spool new y)
next_heard x w done c whole n (Acknowledges m j f en sum b h) = puts w.listening _ h.listens.wants_is
next_heard x w done c whole n (Rests j f sum b h) = reads w.listening h.listens.wants_is

held_heard : (x : Setting) (w : World) (done c : ℕ) (whole : Bool) (n : ℕ) → AtHeld x w done c whole n
    → IsHeard w.listening
held_heard x w done c whole n (Piece_came j f sum b h) = reads w.listening h.listens.wants_is
held_heard x w done c whole n (Holds j f sum held h) = reads w.listening h.listens.wants_is

end_heard : (x : Setting) (w : World) (done c n : ℕ) → AtEnd x w done c n → IsHeard w.listening
end_heard x w done c n (End_came whole j f sum held h) = reads w.listening h.listens.wants_is
end_heard x w done c n (Completes j f sum ended h) =
    asks w.listening _ (listener x h.right (phase.AsksComplete (done + 1) (n + 1)) f) h.listens.wants_is
    h.listens.session_is
    (λ y new. complete_heard x h.right f 1 x.generation (done + 1) (n + 1)
    (piece_of 1024 (octets_behind x done) (n + 1)) w.listening.spool new y)
end_heard x w done c n (stage.Answers j f sum free h) = puts w.listening _ h.listens.wants_is
end_heard x w done c n (Ended j f sum free h) = reads w.listening h.listens.wants_is

resume_heard : (x : Setting) (w : World) (done c : ℕ) (whole : Bool) → AtResume x w done c whole → IsHeard w.listening
resume_heard x w done c whole (Resume_came f free h) = reads w.listening h.listens.wants_is
resume_heard x w done c whole (Resumes f b h) = puts w.listening _ h.listens.wants_is
resume_heard x w done c whole (Resumed f b h) = reads w.listening h.listens.wants_is

discard_heard : (x : Setting) (w : World) (done : ℕ) → AtDiscard x w done → IsHeard w.listening
discard_heard x w done (Discard_came f free h) = reads w.listening h.listens.wants_is
discard_heard x w done (Aborts f h) = puts w.listening _ h.listens.wants_is
discard_heard x w done (Has_aborted f h) = over w.listening _ h.listens.wants_is

closing_heard : (x : Setting) (w : World) → AtClose x w → IsHeard w.listening
closing_heard x w (Close_came f free h) = reads w.listening h.listens.wants_is
closing_heard x w (Closes_lane f h) =
    asks w.listening _ (listener x h.right phase.AsksClose f) h.listens.wants_is h.listens.session_is
    (λ y new. lane_heard x h.right f 1 x.generation w.listening.spool new y)
closing_heard x w (Close_answers h) = puts w.listening _ h.listens.wants_is
closing_heard x w (Close_rests h) = over w.listening _ h.listens.wants_is

cut_heard : (p : Party) → IsCutOff p → IsHeard p
cut_heard p (While_putting y e at) = puts p y e
cut_heard p (While_reading e at) = reads p e
cut_heard p (Is_over e) = over p end.Broken e

-- ---- the first agent

window_heard : (x : Setting) (w : World) (done c : ℕ) (whole : Bool) (n : ℕ) → n ≤ c + 2
    → First x w done c whole (s.Next (done + 1) n) → IsHeard w.calling
window_heard x w done c whole n most first = by (cases_lt n (c + 2))
  where
    by : (n < c + 2) ⊎ (c + 2 ≤ n) → IsHeard w.calling
    by (inl less) = puts_so w.calling _ _
        (first.speaks.says ∙ piece_due x first.left (done + 1) c n whole (octets_behind x done) less)
    by (inr full) = reads_so w.calling _ (first.speaks.says
        ∙ window_full x first.left (done + 1) c n whole (octets_behind x done) (omega (arith, full, most)))

last_heard : (x : Setting) (w : World) (done c n : ℕ) (ending : Bool)
    → First x w done c ending (s.Last_put (done + 1) n) → IsHeard w.calling
last_heard x w done c n true first = puts_so w.calling _ _
    (first.speaks.says ∙ end_due x first.left (done + 1) c n (octets_behind x done))
last_heard x w done c n false first =
    let e = half_at (state.Sending (done + 1) c) (octets_behind x done) (s.Last_put (done + 1) n) in
    asks_so w.calling (ask.Ending 1 x.generation (done + 1)) (caller x first.left (phase.AsksStep own.Ending) e)
    first.speaks.says
    (λ y new. ending_heard x first.left e 1 x.generation (done + 1) w.calling.spool new y)

opened_heard : (x : Setting) (w : World) (done c : ℕ) (whole : Bool) → (c ≡ 0 → whole ≡ true)
    → First x w done c whole s.Opened → IsHeard w.calling
opened_heard x w done zero true all first = puts_so w.calling _ _
    (first.speaks.says ∙ discard_due x first.left (done + 1) (octets_behind x done))
opened_heard x w done zero false all first = (let e : false ≡ true = all refl in absurd cc)
opened_heard x w done (suc c) whole all first = puts_so w.calling _ _
    (first.speaks.says ∙ resume_due x first.left (done + 1) (suc c) whole (octets_behind x done) (omega arith))

confirming_heard : (x : Setting) (w : World) (done c : ℕ) (b : Bool) (z : SendStage)
    → FirstCalls x w done c b z (c + 1) (action.Ask (ask.Confirm 1 x.generation (done + 1) (c + 1)))
    (phase.AsksStep (own.Confirm (c + 1)))
    → IsHeard w.calling
confirming_heard x w done c b z first =
    let e = half_at (under_way b (done + 1) c) (octets_behind x done) z in
    asks w.calling _ (caller x first.left (phase.AsksStep (own.Confirm (c + 1))) e) first.calls.wants_is
    first.calls.session_is
    (λ y new. confirm_heard x first.left e 1 x.generation (done + 1) (c + 1) w.calling.spool new y)

-- ---- both

pub questions_are_answered : QuestionsAreAnswered
questions_are_answered x w sized (stage.Looks done left f quiet h) = (
  asks_so w.calling (ask.BatchFor east) (caller x left phase.AsksBatch (half_at (state.Idle done) [] s.Quiet)) h.says
      (λ y new. batch_heard x left (half_at (state.Idle done) [] s.Quiet) east w.calling.spool new y),
  reads w.listening quiet.second.listens.wants_is,
)
questions_are_answered x w sized (stage.Starts done left f batch quiet below is ei er h) = (
  asks w.calling _ (caller x left phase.AsksStart (half_at (state.Idle done) [] s.Quiet)) h.wants_is h.session_is
      (start_heard x w done left batch sized below h.first is ei er),
  reads w.listening quiet.second.listens.wants_is,
)
questions_are_answered x w sized (stage.Begun done f first free h) =
    (puts_so w.calling _ _ first.speaks.says, reads w.listening h.listens.wants_is)
questions_are_answered x w sized (stage.Next done c whole n le most more first at) =
    (window_heard x w done c whole n most first, next_heard x w done c whole n at)
questions_are_answered x w sized (stage.Sync_due done c whole n le most more first at) =
    (puts_so w.calling _ _ first.speaks.says, held_heard x w done c whole n at)
questions_are_answered x w sized (stage.At_last done c whole ending n all le more l_is first at) =
    (last_heard x w done c (n + 1) ending first, held_heard x w done c whole n at)
questions_are_answered x w sized (stage.End done c n le more l_is first at) =
    (reads_so w.calling _ first.speaks.says, end_heard x w done c n at)
questions_are_answered x w sized (stage.Confirms_next done c whole n j f lt most sum more first b h) =
    (confirming_heard x w done c whole (s.Next (done + 1) n) first, reads w.listening h.listens.wants_is)
questions_are_answered x w sized (stage.Confirms_end done c n j f lt sum more l_is first free h) =
    (confirming_heard x w done c true (s.End_put (done + 1) (n + 1)) first, reads w.listening h.listens.wants_is)
questions_are_answered x w sized (stage.Sends done c n f some le few first free h) =
    let e = half_at (state.Ending (done + 1) c) (octets_behind x done) (s.End_put (done + 1) (n + 1)) in (
      asks w.calling _ (caller x first.left (phase.AsksStep own.Sent) e) first.calls.wants_is first.calls.session_is
          (λ y new. sent_heard x first.left e 1 x.generation (done + 1) w.calling.spool new y),
      reads w.listening h.listens.wants_is,
    )
questions_are_answered x w sized (stage.Cut done c ending halted broken marks later a b) =
    (cut_heard w.calling a, cut_heard w.listening b)
questions_are_answered x w sized (stage.Closes left f quiet h) =
    (puts w.calling _ h.wants_is, reads w.listening quiet.second.listens.wants_is)
questions_are_answered x w sized (stage.Closing left more h at) = (reads w.calling h.wants_is, closing_heard x w at)
questions_are_answered x w sized (stage.Closes_first left h has) =
    let e = half_at (state.Idle x.count) [] s.Quiet in (
      asks w.calling _ (caller x left phase.AsksClose e) h.wants_is h.session_is
          (λ y new. close_heard x left e 1 x.generation w.calling.spool new y),
      over w.listening _ has.listens.wants_is,
    )
questions_are_answered x w sized (stage.Closed e h has) = (over w.calling _ e, over w.listening _ has.listens.wants_is)
questions_are_answered x w sized (stage.Reopened done c whole f all more first room free h broken) =
    (opened_heard x w done c whole all first, reads w.listening h.listens.wants_is)
questions_are_answered x w sized (stage.Resuming done c whole some more first room at) =
    (reads_so w.calling _ first.speaks.says, resume_heard x w done c whole at)
questions_are_answered x w sized (stage.Discarding done first broken at) =
    (reads_so w.calling _ first.speaks.says, discard_heard x w done at)
questions_are_answered x w sized (stage.Sends_last done f left transfer below is calls broken h) = (
  asks w.calling _ (caller x left (phase.AsksLast (end.PeerAborted 7))
      (half_at (state.Ending (done + 1) 0) [] (s.Discard_put (done + 1)))) calls.wants_is calls.session_is
      (λ y new r. tt),
  over w.listening _ h.listens.wants_is,
)
questions_are_answered x w sized (stage.Given_back done f within since e first h) =
    (over w.calling _ e, over w.listening _ h.listens.wants_is)
