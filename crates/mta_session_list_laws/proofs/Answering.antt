-- Before a responder has its lane, its receiving end is new.
use Rattle.std.proofs.Common.{◌≡◌, inl, inr, Bool, true, false, Some, List, [], ◌∷◌}
use Rattle.std.proofs.Common.{refl, sym, ap, subst, ◌∙◌}
use Rattle.mta_units.specs.declared.unit.Unit.{Unit as AnyUnit}
use Rattle.mta_transfer_rules.specs.Receiving.{RecvEnd}
use Rattle.mta_session.specs.declared.ask.Reply.TheVariants as reply
use Rattle.mta_session.specs.declared.event.Action.{Action}
use Rattle.mta_session.specs.declared.event.Action.TheVariants as action
use Rattle.mta_session.specs.declared.event.Event.{Event}
use Rattle.mta_session.specs.declared.event.Event.TheVariants as event
use Rattle.mta_session.specs.declared.phase.Phase.{Phase}
use Rattle.mta_session.specs.declared.phase.Phase.TheVariants as phase
use Rattle.mta_session.specs.State.{State}
use Rattle.mta_session.specs.Wanted.{Wanted, Aborts, Rejects, Ends, Puts, Asks, Reads, Goes_on, Excepts, Never}
use Rattle.mta_session.specs.Follows.{Does, counted}
use Rattle.mta_session.specs.Fits.{FitsAt, AnswersAt}
use Rattle.mta_session_laws.specs.Runs.{Turn, IsTurn}
use Rattle.mta_session_laws.specs.Whole.{AreCalls}
use Rattle.mta_session_laws.specs.Turning.{is_open, is_last_phase}
use Rattle.mta_session_laws.proofs.Opening.{wanted_in}
use Rattle.mta_session_laws.proofs.OpeningRecv.{Leaf, Leaves, Stage, at_begin, at_open_read, at_peer, at_stands}
use Rattle.mta_session_laws.proofs.OpeningRecv.{at_new_lane, at_spare, at_room, at_old_lane, at_bind, told_end}
use Rattle.mta_session_laws.proofs.OpeningRecv.{opening_leaves}
use Rattle.mta_session_laws.proofs.Ending.{open_way}
use Rattle.mta_session_laws.proofs.Whole.{is_ended}
use Rattle.mta_transfer_laws.specs.Sessions as x
use Rattle.mta_transfer_laws.specs.Sessions.{turn_after}
use Rattle.mta_session_list_laws.specs.Calls.{Call, turns_of}
use Rattle.mta_session_list_laws.proofs.Found.{never}
use Rattle.mta_session_laws.specs.Order.{awaits}
use Rattle.mta_session_laws.proofs.OrderedCalls.{call_after}
use Rattle.mta_session_list_laws.proofs.Waiting.{Ready, ready_next, does_at}
use Rattle.mta_session_list_laws.proofs.Turns.{Holds, TurnGoes}
use Rattle.mta_session_list_laws.proofs.TurnsUnits.{unit_goes}
use Rattle.mta_session_list_laws.proofs.TurnsReplies.{reply_goes, go_goes, over_goes, does_done}
use Rattle.mta_session_list_laws.proofs.TurnsCalls.{bad_goes}
use Rattle.mta_session_list_laws.proofs.ReceivingCalls.{turned_last, open_going}
use Rattle.mta_session_list_laws.proofs.ReceivedLists.{any_silent}
use Rattle.mta_session_list_laws.proofs.ReceivingLists.{is_unlisted}

-- ---- phases

abbrev first_or_unlisted : Phase → Bool
first_or_unlisted phase.Begin = true
first_or_unlisted p = is_unlisted p

stage_of : (p : Phase) → is_unlisted p ≡ true → Stage p false
stage_of phase.ReadsOpen i = at_open_read
stage_of phase.AsksPeer i = at_peer
stage_of phase.AsksStands i = at_stands
stage_of (phase.AsksNewLane again) i = at_new_lane again
stage_of phase.AsksSpare i = at_spare
stage_of phase.AsksRoom i = at_room
stage_of phase.AsksOldLane i = at_old_lane
stage_of phase.AsksBind i = at_bind
stage_of p i = absurd (never i)

leaf_same : (p : Phase) (b : Bool) (e f : RecvEnd) → is_unlisted p ≡ true → Leaf e b p f → f ≡ e
leaf_same phase.ReadsOpen b e f i k = k.0
leaf_same phase.AsksPeer b e f i k = k.0
leaf_same phase.AsksStands b e f i k = k.0
leaf_same (phase.AsksNewLane again) b e f i k = k.0
leaf_same phase.AsksSpare b e f i k = k.0
leaf_same phase.AsksRoom b e f i k = k.0
leaf_same phase.AsksOldLane b e f i k = k.0
leaf_same phase.AsksBind b e f i k = k.0
leaf_same p b e f i k = absurd (never i)

told_same : (e : Event) (p : Phase) (f : RecvEnd) → is_unlisted p ≡ true → told_end e p f ≡ f
told_same (event.Reply (reply.Receiving (Some z))) (phase.AsksReceiving s) f i = absurd (never i)
told_same (event.Reply (reply.Receiving (Some z))) p f i = refl
told_same e p f i = refl

unlisted_not_last : (p : Phase) → is_unlisted p ≡ true → is_last_phase p ≡ true → ⊥
unlisted_not_last phase.AsksDenied i k = never i
unlisted_not_last phase.AsksClose i k = never i
unlisted_not_last (phase.AsksLast y) i k = never i
unlisted_not_last (phase.PutsLast y) i k = never i
unlisted_not_last (phase.Ended y) i k = never i
unlisted_not_last p i k = never k

unlisted_not_open : (p : Phase) → is_unlisted p ≡ true → is_open p ≡ true → ⊥
unlisted_not_open phase.ReadsOpen i k = never k
unlisted_not_open phase.AsksPeer i k = never k
unlisted_not_open phase.AsksStands i k = never k
unlisted_not_open (phase.AsksNewLane again) i k = never k
unlisted_not_open phase.AsksSpare i k = never k
unlisted_not_open phase.AsksRoom i k = never k
unlisted_not_open phase.AsksOldLane i k = never k
unlisted_not_open phase.AsksBind i k = never k
unlisted_not_open p i k = never i

unlisted_no_turn : (p : Phase) (t : State) (v : x.Turn) → is_unlisted p ≡ true → Holds p t v → ⊥
unlisted_no_turn phase.ReadsOpen t v i k = k
unlisted_no_turn phase.AsksPeer t v i k = k
unlisted_no_turn phase.AsksStands t v i k = k
unlisted_no_turn (phase.AsksNewLane again) t v i k = k
unlisted_no_turn phase.AsksSpare t v i k = k
unlisted_no_turn phase.AsksRoom t v i k = k
unlisted_no_turn phase.AsksOldLane t v i k = k
unlisted_no_turn phase.AsksBind t v i k = k
unlisted_no_turn p t v i k = never i

unlisted_going : (p : Phase) → is_unlisted p ≡ true → is_ended p ≡ false
unlisted_going (phase.Ended y) i = absurd (never i)
unlisted_going p i = refl

-- ---- a call behind which it has no lane leaves the end as it was

same_end : (c : State) (w : Wanted) (a : Action) (new : State) (e : RecvEnd) → Leaves e false w → Does c w a new
    → is_unlisted new.phase ≡ true → new.recv ≡ e
same_end c (Aborts reason) a new e k d i = absurd
    (unlisted_not_last new.phase i (ap {A = State} (λ z. is_last_phase z.phase) d.1))
same_end c (Rejects reason) a new e k d i = absurd
    (unlisted_not_last new.phase i (ap {A = State} (λ z. is_last_phase z.phase) d.1))
same_end c (Ends y) a new e k d i = absurd
    (unlisted_not_last new.phase i (ap {A = State} (λ z. is_last_phase z.phase) d.1))
same_end c (Puts y v) a new e k d i =
    ap {A = State} (λ z. z.recv) d.1 ∙ leaf_same v.phase _ e v.recv (subst (λ z. is_unlisted z.phase ≡ true) d.1 i) k.0
same_end c (Asks q v) a new e k d i =
    ap {A = State} (λ z. z.recv) d.1 ∙ leaf_same v.phase _ e v.recv (subst (λ z. is_unlisted z.phase ≡ true) d.1 i) k
same_end c (Reads v) a new e k d i =
    ap {A = State} (λ z. z.recv) d.1 ∙ leaf_same v.phase _ e v.recv (subst (λ z. is_unlisted z.phase ≡ true) d.1 i) k
same_end c (Goes_on v) a new e k d i = absurd (never k.1)
same_end c (Excepts v f) a new e k d i = absurd k
same_end c Never a new e k d i = elim d [ ]

-- from a phase of these, or the first
staged_same : (t : Turn) → IsTurn t → Stage t.before.phase false → is_ended t.before.phase ≡ false
    → ((f : RecvEnd) → told_end t.event t.before.phase f ≡ f) → is_unlisted t.after.phase ≡ true
    → t.after.recv ≡ t.before.recv
staged_same t is k n same i =
    same_end (counted t.before t.event) (wanted_in t.before.phase (counted t.before t.event) t.event) t.action t.after
    t.before.recv
    (subst (λ f. Leaves f false (wanted_in t.before.phase (counted t.before t.event) t.event)) (same t.before.recv)
    (opening_leaves t.before.phase false t.before t.event k))
    (does_at t t.event refl is n) i

-- ---- a session that has its lane keeps it

abbrev turn_in : Phase → x.Turn
turn_in phase.AsksAgree = x.Own
turn_in phase.PutsAccept = x.Theirs
turn_in p = x.Before_accept

-- but its first call
abbrev is_linking : Phase → Bool
is_linking phase.AsksValues = true
is_linking phase.AsksRecovery = true
is_linking (phase.AsksReceiving state) = true
is_linking (phase.AsksResumed state) = true
is_linking phase.PutsOpen = true
is_linking phase.ReadsAnswer = true
is_linking phase.AsksAgree = true
is_linking phase.PutsAccept = true
is_linking p = false

has_turn : (p : Phase) (t : State) → is_linking p ≡ true → Holds p t (turn_in p)
has_turn phase.AsksValues t i = refl
has_turn phase.AsksRecovery t i = refl
has_turn (phase.AsksReceiving s) t i = refl
has_turn (phase.AsksResumed s) t i = refl
has_turn phase.PutsOpen t i = refl
has_turn phase.ReadsAnswer t i = refl
has_turn phase.AsksAgree t i = refl
has_turn phase.PutsAccept t i = refl
has_turn p t i = absurd (never i)

linking_going : (p : Phase) → is_linking p ≡ true → is_ended p ≡ false
linking_going (phase.Ended y) i = absurd (never i)
linking_going p i = refl

linking_read : (p : Phase) (t : State) (u : AnyUnit) → is_linking p ≡ true → AnswersAt p t (event.Unit u) → p
    ≡ phase.ReadsAnswer
linking_read phase.ReadsAnswer t u i n = refl
linking_read phase.PutsOpen t u i n = absurd (never n)
linking_read phase.PutsAccept t u i n = absurd (never n)
linking_read phase.AsksValues t u i n = absurd n
linking_read phase.AsksRecovery t u i n = absurd n
linking_read (phase.AsksReceiving s) t u i n = absurd n
linking_read (phase.AsksResumed s) t u i n = absurd n
linking_read phase.AsksAgree t u i n = absurd n
linking_read p t u i n = absurd (never i)

linking_bad : (p : Phase) (t : State) → is_linking p ≡ true → AnswersAt p t event.BadUnit → p ≡ phase.ReadsAnswer
linking_bad phase.ReadsAnswer t i n = refl
linking_bad phase.PutsOpen t i n = absurd (never n)
linking_bad phase.PutsAccept t i n = absurd (never n)
linking_bad phase.AsksValues t i n = absurd n
linking_bad phase.AsksRecovery t i n = absurd n
linking_bad (phase.AsksReceiving s) t i n = absurd n
linking_bad (phase.AsksResumed s) t i n = absurd n
linking_bad phase.AsksAgree t i n = absurd n
linking_bad p t i n = absurd (never i)

abbrev Leads : Phase → State → Event → Type 0
Leads p t e = (v : x.Turn) × TurnGoes v (wanted_in p (counted t e) e)

answer_unit_leads : (t : State) (u : AnyUnit) → Leads phase.ReadsAnswer t (event.Unit u)
answer_unit_leads t u = (_, (unit_goes phase.ReadsAnswer (counted t (event.Unit u)) x.Before_accept u refl refl).1)

answer_bad_leads : (t : State) → Leads phase.ReadsAnswer t event.BadUnit
answer_bad_leads t = (x.Before_accept, bad_goes phase.ReadsAnswer (counted t event.BadUnit) x.Before_accept refl refl)

linking_leads : (p : Phase) (t : State) (e : Event) → is_linking p ≡ true → FitsAt p t → AnswersAt p t e → Leads p t e
linking_leads p t event.Go i f n = (turn_in p, go_goes p t (turn_in p) (has_turn p t i) f)
linking_leads p t (event.Reply y) i f n = (turn_in p, reply_goes p t y (turn_in p) (has_turn p t i) f)
linking_leads p t event.Over i f n = (turn_in p, over_goes p (turn_in p))
linking_leads p t (event.Unit u) i f n =
    subst (λ z. Leads z t (event.Unit u)) (sym (linking_read p t u i n)) (answer_unit_leads t u)
linking_leads p t event.BadUnit i f n =
    subst (λ z. Leads z t event.BadUnit) (sym (linking_bad p t i n)) (answer_bad_leads t)

data Group (p : Phase) : Type 0 where
  at_first : p ≡ phase.Begin → Group p
  without : is_unlisted p ≡ true → Group p
  linking : is_linking p ≡ true → Group p
  opened : is_open p ≡ true → Group p
  ending : is_last_phase p ≡ true → Group p

group : (p : Phase) → Group p
group phase.Begin = at_first refl
group phase.ReadsOpen = without refl
group phase.AsksPeer = without refl
group phase.AsksStands = without refl
group (phase.AsksNewLane again) = without refl
group phase.AsksSpare = without refl
group phase.AsksRoom = without refl
group phase.AsksOldLane = without refl
group phase.AsksBind = without refl
group phase.AsksValues = linking refl
group phase.AsksRecovery = linking refl
group (phase.AsksReceiving s) = linking refl
group (phase.AsksResumed s) = linking refl
group phase.PutsOpen = linking refl
group phase.ReadsAnswer = linking refl
group phase.AsksAgree = linking refl
group phase.PutsAccept = linking refl
group phase.AsksDenied = ending refl
group phase.AsksClose = ending refl
group (phase.AsksLast y) = ending refl
group (phase.PutsLast y) = ending refl
group (phase.Ended y) = ending refl
group p = opened refl

-- a session without its lane had none before
abbrev WasWithout : Turn → Type 0
WasWithout t = (first_or_unlisted t.before.phase ≡ true) × (t.after.recv ≡ t.before.recv)

first_unlisted : (p : Phase) → is_unlisted p ≡ true → first_or_unlisted p ≡ true
first_unlisted phase.Begin i = refl
first_unlisted p i = i

first_stage : (p : Phase) → p ≡ phase.Begin → Stage p false
first_stage p e = subst (λ z. Stage z false) (sym e) at_begin

first_told : (e : Event) (p : Phase) (f : RecvEnd) → p ≡ phase.Begin → told_end e p f ≡ f
first_told e p f q = subst (λ z. told_end e z f ≡ f) (sym q) (told_begin e f)
  where
    told_begin : (e : Event) (f : RecvEnd) → told_end e phase.Begin f ≡ f
    told_begin (event.Reply (reply.Receiving (Some z))) f = refl
    told_begin e f = refl

was_without : (t : Turn) → IsTurn t → is_unlisted t.after.phase ≡ true → Group t.before.phase → WasWithout t
was_without t is i (at_first q) = (
  ap {A = Phase} first_or_unlisted q,
  staged_same t is (first_stage t.before.phase q) (ap {A = Phase} is_ended q)
      (λ f. first_told t.event t.before.phase f q) i,
)
was_without t is i (without k) = (
  first_unlisted t.before.phase k,
  staged_same t is (stage_of t.before.phase k) (unlisted_going t.before.phase k)
      (λ f. told_same t.event t.before.phase f k) i,
)
was_without t is i (linking k) =
    let leads = linking_leads t.before.phase t.before t.event k is.fits is.answers in
    let done = does_done (counted t.before t.event) (wanted_in t.before.phase (counted t.before t.event) t.event)
    t.action t.after leads.0 leads.1 (does_at t t.event refl is (linking_going t.before.phase k)) in
    absurd (unlisted_no_turn t.after.phase t.after _ i done.holds)
was_without t is i (opened k) =
    elim (open_way t.before.phase t.before t.event t.action t.after k
    (does_at t t.event refl is (open_going t.before.phase k))) [
      | inl j ↦ absurd (unlisted_not_open t.after.phase i j)
      | inr j ↦ absurd (unlisted_not_last t.after.phase i (turned_last t.after.phase t.before t.event j.to))
    ]
was_without t is i (ending k) =
    absurd (unlisted_not_last t.after.phase i (any_silent t is k (is_ended t.before.phase) refl).last)

never_first : (a : Action) (p : Phase) → awaits a p ≡ true → first_or_unlisted p ≡ true → is_unlisted p ≡ true
never_first (action.Put u) phase.Begin i k = absurd (never i)
never_first (action.Ask q) phase.Begin i k = absurd (never i)
never_first action.Read phase.Begin i k = absurd (never i)
never_first (action.Finish y) phase.Begin i k = absurd (never i)
never_first a p i k = k

-- a state that is reached without a lane
pub reached_without : (cs : List Call) (a : Action) (t u : State) → Ready a t → AreCalls t (turns_of cs) u
    → is_unlisted u.phase ≡ true → (first_or_unlisted t.phase ≡ true) × (u.recv ≡ t.recv)
reached_without [] a t u k run i =
    (subst (λ z. first_or_unlisted z.phase ≡ true) run (first_unlisted u.phase i), ap {A = State} (λ z. z.recv) run)
reached_without (c ∷ cs) a t u k run i =
    let here : Ready a c.turn.before = subst (Ready a) (sym run.0) k in
    let after = call_after c.turn.before c.turn.event c.turn.action c.turn.after run.1.fits here.due run.1.follows in
    let rest = reached_without cs c.turn.action c.turn.after u (ready_next c.turn run.1 here.due) run.2 i in
    let none = never_first c.turn.action c.turn.after.phase after.awaited rest.0 in
    let was = was_without c.turn run.1 none (group c.turn.before.phase) in
    (subst (λ z. first_or_unlisted z.phase ≡ true) run.0 was.0, rest.1 ∙ was.1 ∙ ap {A = State} (λ z. z.recv) run.0)
