-- While a session is carried on it does not look at its lane.
use Rattle.std.proofs.Common.{◌≡◌, Bool, true, false, Option, None, Some, Err, refl, rules, sym, ap}
use Rattle.std.proofs.Common.{◌∙◌, true≢false, not}
use Rattle.mta_rtse.specs.declared.types.Answer.{Answer}
use Rattle.mta_records.specs.declared.fault.StepFault.{StepFault}
use Rattle.mta_records.specs.declared.fault.StepFault.TheVariants as fault
use Rattle.mta_units.specs.declared.unit.Unit.{Unit as AnyUnit}
use Rattle.mta_units.specs.declared.unit.Unit.TheVariants as unit
use Rattle.mta_session.specs.declared.ask.Ask.TheVariants as ask
use Rattle.mta_session.specs.declared.ask.Reply.{Reply}
use Rattle.mta_session.specs.declared.event.Action.{Action}
use Rattle.mta_session.specs.declared.event.Action.TheVariants as action
use Rattle.mta_session.specs.declared.event.Event.{Event}
use Rattle.mta_session.specs.declared.event.Event.TheVariants as event
use Rattle.mta_session.specs.declared.event.Side.{Side}
use Rattle.mta_session.specs.declared.event.Side.TheVariants as side
use Rattle.mta_session.specs.declared.phase.Found.{Found}
use Rattle.mta_session.specs.declared.phase.Phase.{Phase}
use Rattle.mta_session.specs.declared.phase.Phase.TheVariants as phase
use Rattle.mta_session.specs.State.{State}
use Rattle.mta_session.specs.Follows.{counted, Does, ExceptsFor, GoesOn, part_of, Part, Of_sender, Of_receiver}
use Rattle.mta_session.specs.Follows.{Of_neither, phase_behind, PutsFor}
use Rattle.mta_session.specs.Rank.{is_over}
use Rattle.mta_session.specs.Wanted.{Wanted, Aborts, Rejects, Ends, Puts, Asks, Reads, Goes_on, Excepts, Never}
use Rattle.mta_session.specs.Wanted.{answer_for, answers_link, on_bind, puts_accept, wanted_of_reply}
use Rattle.mta_session_laws.specs.Runs.{IsTurn, Turn}
use Rattle.mta_session_laws.proofs.Opening.{wanted_in}
use Rattle.mta_session_laws.proofs.Rows.{Row, row, lane_looked, knows_lane, lane_bound, told_values, told_state, resumes}
use Rattle.mta_session_laws.proofs.Whole.{is_ended}
use Rattle.mta_session_list_laws.proofs.Waiting.{does_at, over_says}

-- it looks at its lane right behind the Bind, which is answered in the same turn of the lock
abbrev pub is_looking : Phase → Bool
is_looking phase.AsksValues = true
is_looking phase.AsksRecovery = true
is_looking (phase.AsksReceiving state) = true
is_looking (phase.AsksResumed state) = true
is_looking p = false

-- neither new, nor about to bind a lane, nor looking at it
abbrev pub is_calm : Phase → Bool
is_calm phase.Begin = false
is_calm phase.AsksBind = false
is_calm phase.AsksValues = false
is_calm phase.AsksRecovery = false
is_calm (phase.AsksReceiving state) = false
is_calm (phase.AsksResumed state) = false
is_calm p = true

not_false : false ≡ true → {A : Type 0} → A
not_false i = absurd (true≢false (sym i))

pub calm_looks : (p : Phase) → is_calm p ≡ true → is_looking p ≡ false
calm_looks phase.AsksValues i = not_false i
calm_looks phase.AsksRecovery i = not_false i
calm_looks (phase.AsksReceiving state) i = not_false i
calm_looks (phase.AsksResumed state) i = not_false i
calm_looks p i = refl

-- ---- what is wanted

abbrev pub IsCalm : Wanted → Type 0
IsCalm (Asks a u) = is_calm u.phase ≡ true
IsCalm (Puts x u) = is_calm u.phase ≡ true
IsCalm (Reads u) = is_calm u.phase ≡ true
IsCalm (Goes_on u) = Unit {0}
IsCalm (Excepts u found) = Unit {0}
IsCalm (Aborts reason) = Unit {0}
IsCalm (Rejects reason) = Unit {0}
IsCalm (Ends e) = Unit {0}
IsCalm Never = Unit {0}

behind_calm : (x : AnyUnit) → is_calm (phase_behind x) ≡ true
behind_calm (unit.Abort reason) = refl
behind_calm x = refl

there : (new t : State) → new ≡ t → is_calm t.phase ≡ true → is_calm new.phase ≡ true
there new t e i = ap (λ (z : State). is_calm z.phase) e ∙ i

pub ended_over : (p : Phase) → is_ended p ≡ true → is_over p ≡ true
ended_over (phase.Ended y) i = refl
ended_over p i = not_false i

-- going on
goes_calm : (t : State) (a : Action) (new : State) → GoesOn t a new → is_calm new.phase ≡ true
goes_calm t (action.Put x) new g = put_calm (part_of x) g
  where
    put_calm : (p : Part) → PutsFor t p x new → is_calm new.phase ≡ true
    put_calm (Of_sender y) f = there new _ f.2 (behind_calm x)
    put_calm (Of_receiver y) f = there new _ f.1 (behind_calm x)
    put_calm Of_neither f = absurd f
goes_calm t (action.Ask (ask.Secure lane k j n piece)) new g = there new _ g.3 refl
goes_calm t (action.Ask (ask.Complete lane k j n piece)) new g = there new _ g.3 refl
goes_calm t (action.Ask (ask.DropActivity lane k j)) new g = there new _ g.3 refl
goes_calm t (action.Ask (ask.Ending lane k j)) new g = there new _ g.6 refl
goes_calm t (action.Ask (ask.BatchFor peer)) new g = there new _ g.3 refl
goes_calm t (action.Ask q) new g = elim g [ ]
goes_calm t action.Read new g = there new _ g.1 refl
goes_calm t (action.Finish e) new g = absurd g

excepts_calm : (t : State) (found : Found) (a : Action) (new : State) → ExceptsFor t found a new
    → is_calm new.phase ≡ true
excepts_calm t found (action.Ask (ask.DropActivity lane g k)) new x = there new _ x.3 refl
excepts_calm t found (action.Put (unit.Exception kind at)) new x = there new _ x.3 refl
excepts_calm t found a new x = elim x [ ]

pub does_calm : (t : State) (w : Wanted) (a : Action) (new : State) → IsCalm w → Does t w a new
    → is_calm new.phase ≡ true
does_calm t (Puts x u) a new i d = there new u d.1 i
does_calm t (Asks q u) a new i d = there new u d.1 i
does_calm t (Reads u) a new i d = there new u d.1 i
does_calm t (Goes_on u) a new i d = goes_calm u a new d
does_calm t (Excepts u found) a new i d = excepts_calm u found a new d
does_calm t Never a new i d = absurd d
does_calm t any1 a new i d = there new _ d.1 refl

-- neither the question for an old lane, nor its Bind, nor a look behind it
abbrev pub is_plain : Phase → Bool
is_plain phase.AsksOldLane = false
is_plain phase.AsksBind = false
is_plain phase.AsksValues = false
is_plain phase.AsksRecovery = false
is_plain (phase.AsksReceiving state) = false
is_plain (phase.AsksResumed state) = false
is_plain p = true

-- a reply leads neither to a Bind nor to such a look where its phase is plain, and another event where it is calm
abbrev pub Keeps : Phase → Event → Type 0
Keeps p (event.Reply x) = is_plain p ≡ true
Keeps p e = is_calm p ≡ true

row_calm : (t : State) (p : Phase) (e : Event) (w : Wanted) → Row t p e w → Keeps p e → IsCalm w
row_calm t p e w (lane_looked s q c) i = not_false i
row_calm t p e w (knows_lane lane) i = not_false i
row_calm t p e w (lane_bound g) i = not_false i
row_calm t p e w (told_values v) i = not_false i
row_calm t p e w (told_state st) i = not_false i
row_calm t p e w (resumes st x c) i = not_false i
row_calm t p e w r i = search rules

pub reply_calm : (p : Phase) (t : State) (x : Reply) → is_plain p ≡ true → IsCalm (wanted_of_reply p t x)
reply_calm p t x i = row_calm t p (event.Reply x) (wanted_of_reply p t x) (row p t (event.Reply x)) i

pub bind_calm : (t : State) (f : StepFault) → IsCalm (on_bind t (Err f))
bind_calm t (fault.NoLane lane) = tt
bind_calm t f = tt

-- behind the last look
pub link_calm : (t : State) (s : Side) → IsCalm (answers_link t s)
link_calm t (side.Initiator p) = refl
link_calm t (side.Responder own) = accept_calm (answer_for t.side t.opened t.line)
  where
    accept_calm : (a : Option Answer) → IsCalm (puts_accept t a)
    accept_calm (Some a) = refl
    accept_calm None = tt

-- the event is no reply
abbrev pub IsNoReply : Event → Type 0
IsNoReply (event.Reply x) = ⊥
IsNoReply e = Unit {0}

wanted_calm : (p : Phase) (t : State) (e : Event) → is_calm p ≡ true → IsNoReply e → IsCalm (wanted_in p t e)
wanted_calm p t (event.Reply x) i n = absurd n
wanted_calm p t e i n = row_calm t p e (wanted_in p t e) (row p t e) i

-- One call that is told no reply leaves a calm session calm.
pub calm_next : (x : Turn) → IsTurn x → is_calm x.before.phase ≡ true → IsNoReply x.event
    → is_calm x.after.phase ≡ true
calm_next x is i n = by_end (is_ended x.before.phase) refl
  where
    by_end : (b : Bool) → is_ended x.before.phase ≡ b → is_calm x.after.phase ≡ true
    by_end false e =
        does_calm (counted x.before x.event) (wanted_in x.before.phase (counted x.before x.event) x.event) x.action
        x.after (wanted_calm x.before.phase (counted x.before x.event) x.event i n) (does_at x x.event refl is e)
    by_end true e = there x.after x.before (over_says x.before.phase x (ended_over x.before.phase e) is.follows).1 i
