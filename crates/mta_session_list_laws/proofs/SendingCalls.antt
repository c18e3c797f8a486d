-- The sending half of a session's list, call by call: an open session, and what is told in each phase.
use Rattle.std.proofs.Common.{◌≡◌, inl, inr, ℕ, Bool, true, false, Option}
use Rattle.std.proofs.Common.{List, [], ◌∷◌, refl, sym, ap, subst, ◌∙◌}
use Rattle.mta_units.specs.declared.unit.Unit.{Unit as AnyUnit}
use Rattle.mta_units.specs.declared.unit.Unit.TheVariants as unit
use Rattle.mta_transfer_rules.specs.Lanes.{Halves}
use Rattle.mta_transfer_rules.specs.Units.{LaneUnit}
use Rattle.mta_transfer_rules.specs.Sending as s
use Rattle.mta_transfer_rules.specs.Sending.{SendEnd, SendEvent, SendStage}
use Rattle.mta_session.specs.declared.event.Action.{Action}
use Rattle.mta_session.specs.declared.event.Event.{Event}
use Rattle.mta_session.specs.declared.event.Event.TheVariants as event
use Rattle.mta_session.specs.declared.phase.Phase.{Phase}
use Rattle.mta_session.specs.declared.phase.Phase.TheVariants as phase
use Rattle.mta_session.specs.State.{State}
use Rattle.mta_session.specs.Wanted.{Wanted, Aborts}
use Rattle.mta_session.specs.Follows.{Does, counted}
use Rattle.mta_session.specs.Fits.{Answers}
use Rattle.mta_session_laws.specs.Called.{heard_as}
use Rattle.mta_session_laws.specs.Runs.{Turn, IsTurn}
use Rattle.mta_session_laws.specs.Turning as turning
use Rattle.mta_session_laws.specs.Turning.{listed, MayFollow, SendGoes, EventsGo, told_by, called_for, unless_refused}
use Rattle.mta_session_laws.specs.Turning.{is_open, is_last_phase}
use Rattle.mta_session_laws.proofs.Opening.{wanted_in}
use Rattle.mta_session_laws.proofs.Whole.{in_phase_wanted}
use Rattle.mta_session_laws.proofs.Ending.{Turned, open_way}
use Rattle.mta_transfer_laws.specs.Sessions as x
use Rattle.mta_transfer_laws.specs.Sessions.{SessionEvent, sending_event, gots_of, answer_unit, send_all}
use Rattle.mta_transfer_laws.specs.Sessions.{SendOwesNothing}
use Rattle.mta_session_list_laws.specs.Calls.{got_as}
use Rattle.mta_session_list_laws.specs.Sent.{without_other}
use Rattle.mta_session_list_laws.proofs.Found.{never}
use Rattle.mta_session_list_laws.proofs.Waiting.{does_at}
use Rattle.mta_session_list_laws.proofs.Handing.{NoHand, open_hands}
use Rattle.mta_session_list_laws.proofs.Receiving.{IsCommon, does_common}
use Rattle.mta_session_list_laws.proofs.ReceivingCalls.{open_going, turned_last}
use Rattle.mta_session_list_laws.proofs.SentEvents.{holder_heard, reads_heard}
use Rattle.mta_session_list_laws.proofs.Turns.{HasTurn, HoldsBy}
use Rattle.mta_session_list_laws.proofs.SendingGoes.{Allowed, action_put, goes_behind}
use Rattle.mta_session_list_laws.proofs.SendingLeft.{Calm, Rested, LeftAt, Leaves, left_after, open_after}
use Rattle.mta_session_list_laws.proofs.SendingOpen.{asks_own, reads_hears, closing_hears}
use Rattle.mta_session_list_laws.proofs.SendingOpen.{go_leaves, bad_leaves, over_leaves}
use Rattle.mta_session_list_laws.proofs.SendingPhases.{AfterSend, opened_after, ended_after}
use Rattle.mta_session_list_laws.proofs.SendingLooks.{RestsSend}

-- ---- a call of an open session

module _ (g : EventsGo) (l : Halves) (size window : ℕ) (accepted : Bool) (later : Type 0) where
  abbrev pub After : SendEnd → Turn → Type 0
  After mid t = AfterSend l size window accepted later mid t.action t.after

  module _ (t : Turn) (e : Event) (same : t.event ≡ e) (is : IsTurn t) (i : is_open t.before.phase ≡ true)
      (heard : Option LaneUnit) (before : List ℕ) where
    abbrev here : SendEnd
    here = listed t.before.send heard before

    abbrev what : Wanted
    what = wanted_in t.before.phase (counted t.before e) e

    does : Does (counted t.before e) what t.action t.after
    does = does_at t e same is (open_going t.before.phase i)

    none : NoHand what
    none = open_hands t.before.phase (counted t.before e) e i

    common : IsCommon t.action
    common = does_common (counted t.before e) what t.action t.after none does

    goes : MayFollow t.before.phase here → SendGoes here (told_by t.before.phase t.before e) what
    goes may =
        subst (λ w. SendGoes here (told_by t.before.phase t.before e) w) (in_phase_wanted t.before e)
        (g t.before e heard before i is.fits (subst (λ z. Answers t.before z) same is.answers) is.heard may)

    -- from an end from which what is wanted is reached
    pub reached_after : (mid : SendEnd) → SendGoes mid [] what → Leaves mid what → After mid t
    reached_after mid reaches leaves =
        elim (open_way t.before.phase t.before e t.action t.after i does) [ inl o ↦ on o | inr k ↦ off k ]
      where
        on : is_open t.after.phase ≡ true → After mid t
        on o = opened_after l size window accepted later mid t.action t.after o
            (open_after mid (counted t.before e) what t.action t.after reaches leaves common does o)

        off : Turned t.before e t.action t.after → After mid t
        off k =
            ended_after l size window accepted later mid t.action t.after
            (turned_last t.after.phase t.before e k.to)
            (sym (action_put t.action common) ∙ k.silent [])
            (left_after (counted t.before e) what t.action t.after mid leaves does)

    -- a session that turns to its end reaches what it wants from anywhere
    pub told_after : (mid : SendEnd) → MayFollow t.before.phase here
        → mid ≡ send_all here (without_other (told_by t.before.phase t.before e)) → Leaves mid what → After mid t
    told_after mid may q leaves =
        reached_after mid
        (subst (λ z. SendGoes z [] what) (sym q)
        (goes_behind here (told_by t.before.phase t.before e) what none (goes may))) leaves

-- ---- what is told

go_told : (p : Phase) (t : State) → is_open p ≡ true → told_by p t event.Go ≡ []
go_told phase.ReadsAnswer t i = absurd (never i)
go_told (phase.AsksLast y) t i = absurd (never i)
go_told p t i = refl

bad_told : (p : Phase) (t : State) → is_open p ≡ true → told_by p t event.BadUnit ≡ []
bad_told phase.ReadsAnswer t i = absurd (never i)
bad_told (phase.AsksLast y) t i = absurd (never i)
bad_told p t i = refl

over_told : (p : Phase) (t : State) → is_open p ≡ true → told_by p t event.Over ≡ []
over_told phase.ReadsAnswer t i = absurd (never i)
over_told (phase.AsksLast y) t i = absurd (never i)
over_told p t i = refl

-- what is left where no own step was asked for
pub left_calm : (p : Phase) (t : State) (a : Action) (b : SendEnd) → is_open p ≡ true → asks_own p ≡ false
    → LeftAt p t a b → Calm t b
left_calm phase.Reads t a b i o k = inl k.0
left_calm (phase.AsksStep step) t a b i o k = absurd (never (sym o))
left_calm phase.AsksState t a b i o k = absurd (never (sym o))
left_calm phase.Puts t a b i o k = k
left_calm phase.AsksDue t a b i o k = k
left_calm phase.AsksBatch t a b i o k = k
left_calm phase.AsksStart t a b i o k = k
left_calm phase.AsksStillIdle t a b i o k = k
left_calm (phase.AsksSecure j n) t a b i o k = k
left_calm (phase.AsksComplete j n) t a b i o k = k
left_calm (phase.AsksDrop j found) t a b i o k = k
left_calm phase.PutsClose t a b i o k = k
left_calm phase.ReadsCloseAck t a b i o k = k
left_calm p t a b i o k = absurd (never i)

-- ---- units got

got_true : (y : AnyUnit) → turning.got_as true y ≡ s.Got (heard_as y) ∷ []
got_true (unit.Abort reason) = refl
got_true y = refl

gots_allowed : (e : SendEnd) (us : List LaneUnit) → Allowed e (gots_of us)
gots_allowed e [] = tt
gots_allowed e (y ∷ us) = (tt, gots_allowed (s.got e y) us)

pub got_allowed : (lane : ℕ) (e : SendEnd) (w : Wanted) (y : AnyUnit) → Allowed e (sending_event lane (got_as w y))
got_allowed lane e (Aborts reason) y = tt
got_allowed lane e any2 y = gots_allowed e (answer_unit y)

pub got_rests : (v : x.Turn) (e : SendEnd) (w : Wanted) (y : AnyUnit) → SendOwesNothing v e → RestsSend v e (got_as w y)
got_rests v e (Aborts reason) y k = k
got_rests v e any2 y k = k

-- what is owed does not rest on what was heard
stage_listed : (e : SendEnd) (h : Option LaneUnit) (o : List ℕ) (z : SendStage) → s.StageOwesNothing e z
    → s.StageOwesNothing (listed e h o) z
stage_listed e h o s.Quiet k = k
stage_listed e h o any3 k = k

rests_by : (o p : Bool) (v : x.Turn) (e : SendEnd) → HoldsBy o p v → s.CallsForNothing e
    → (o ≡ true → (e.stage ≡ s.Quiet → ⊥) × s.StageOwesNothing e e.stage) → SendOwesNothing v e
rests_by true p v e k n puts =
    let own = puts refl in subst (λ z. SendOwesNothing z e) (sym k) (own.0, (n, own.1))
rests_by false p v e (inl k) n puts = subst (λ z. SendOwesNothing z e) (sym k) n
rests_by false p v e (inr k) n puts = subst (λ z. SendOwesNothing z e) (sym k.0) n

pub reads_rest : (t : State) (v : x.Turn) (h : Option LaneUnit) (o : List ℕ) → HasTurn t v
    → Rested t (listed t.send h o) → SendOwesNothing v (listed t.send h o)
reads_rest t v h o k rested =
    rests_by t.ours t.please v (listed t.send h o) k rested.0
    (λ i. let own = rested.1 i in (own.0, stage_listed t.send h o t.send.stage own.1))

pub closing_rest : (v : x.Turn) (e : SendEnd) → v ≡ x.Own_closing → s.CallsForNothing e → SendOwesNothing v e
closing_rest v e k n = subst (λ z. SendOwesNothing z e) (sym k) n

pub before_rest : (v : x.Turn) (e : SendEnd) → v ≡ x.Before_accept → s.CallsForNothing e → SendOwesNothing v e
before_rest v e k n = subst (λ z. SendOwesNothing z e) (sym k) n

-- ---- calls without a step or a look

module _ (g : EventsGo) (l : Halves) (size window : ℕ) (accepted : Bool) (later : Type 0) where
  module _ (t : Turn) (is : IsTurn t) (i : is_open t.before.phase ≡ true) (heard : Option LaneUnit)
      (before : List ℕ) (may : MayFollow t.before.phase (listed t.before.send heard before)) where
    abbrev at : SendEnd
    at = listed t.before.send heard before

    abbrev Here_after : SendEnd → Type 0
    Here_after mid = AfterSend l size window accepted later mid t.action t.after

    nothing_told : (e : Event) → told_by t.before.phase t.before e ≡ []
        → at ≡ send_all at (without_other (told_by t.before.phase t.before e))
    nothing_told e q = ap (λ (z : List SendEvent). send_all at (without_other z)) (sym q)

    pub go_after : t.event ≡ event.Go → (t.before.phase ≡ phase.Puts → Calm t.before at)
        → (t.before.phase ≡ phase.PutsClose → Calm t.before at) → Here_after at
    go_after q c d =
        told_after g l size window accepted later t event.Go q is i heard before at may
        (nothing_told event.Go (go_told t.before.phase t.before i)) (go_leaves at t.before.phase t.before i c d)

    pub bad_after : t.event ≡ event.BadUnit → Here_after at
    bad_after q =
        told_after g l size window accepted later t event.BadUnit q is i heard before at may
        (nothing_told event.BadUnit (bad_told t.before.phase t.before i)) (bad_leaves at (counted t.before
        event.BadUnit))

    pub over_after : t.event ≡ event.Over → Here_after at
    over_after q =
        told_after g l size window accepted later t event.Over q is i heard before at may
        (nothing_told event.Over (over_told t.before.phase t.before i)) (over_leaves at t.before.phase)

  -- a unit that is got
  reads_after : (lane : ℕ) (t : Turn) (y : AnyUnit) (p : Phase) (heard : Option LaneUnit) (before : List ℕ)
      → t.event ≡ event.Unit y → IsTurn t → (i : is_open t.before.phase ≡ true)
      → MayFollow t.before.phase (listed t.before.send heard before)
      → sending_event lane (got_as (called_for t.before.phase t.before y) y)
      ≡ without_other (told_by t.before.phase t.before (event.Unit y))
      → Leaves (send_all (listed t.before.send heard before)
      (sending_event lane (got_as (called_for t.before.phase t.before y) y))) (called_for t.before.phase t.before y)
      → AfterSend l size window accepted later
      (send_all (listed t.before.send heard before)
      (sending_event lane (got_as (called_for t.before.phase t.before y) y))) t.action t.after
  reads_after lane t y p heard before q is i may told leaves =
      told_after g l size window accepted later t (event.Unit y) q is i heard before _ may
      (ap (λ (z : List SendEvent). send_all (listed t.before.send heard before) z) told) leaves

  closing_told : (lane : ℕ) (t : State) (y : AnyUnit)
      → sending_event lane (got_as (called_for phase.ReadsCloseAck t y) y)
      ≡ without_other (told_by phase.ReadsCloseAck t (event.Unit y))
  closing_told lane t y =
      holder_heard lane (called_for phase.ReadsCloseAck t y) y
      ∙ ap (λ (z : List SendEvent). without_other (unless_refused (called_for phase.ReadsCloseAck t y) z))
      (sym (got_true y))

  abbrev pub IsReads : Phase → Bool
  IsReads phase.Reads = true
  IsReads phase.ReadsCloseAck = true
  IsReads p = false

  told_reads : (lane : ℕ) (p : Phase) (t : State) (y : AnyUnit) → IsReads p ≡ true
      → sending_event lane (got_as (called_for p t y) y) ≡ without_other (told_by p t (event.Unit y))
  told_reads lane phase.Reads t y i = reads_heard lane t y
  told_reads lane phase.ReadsCloseAck t y i = closing_told lane t y
  told_reads lane p t y i = absurd (never i)

  leaves_reads : (lane : ℕ) (p : Phase) (t : State) (y : AnyUnit) (heard : Option LaneUnit) (before : List ℕ)
      → IsReads p ≡ true → s.CallsForNothing (listed t.send heard before)
      → Leaves (send_all (listed t.send heard before) (sending_event lane (got_as (called_for p t y) y)))
      (called_for p t y)
  leaves_reads lane phase.Reads t y heard before i n =
      reads_hears lane (listed t.send heard before) t y (refl, refl, n)
  leaves_reads lane phase.ReadsCloseAck t y heard before i n =
      closing_hears lane (listed t.send heard before) t y (refl, refl, n)
  leaves_reads lane p t y heard before i n = absurd (never i)

  pub unit_after : (lane : ℕ) (t : Turn) (y : AnyUnit) (heard : Option LaneUnit) (before : List ℕ)
      → t.event ≡ event.Unit y → IsTurn t → (i : is_open t.before.phase ≡ true) → IsReads t.before.phase ≡ true
      → MayFollow t.before.phase (listed t.before.send heard before)
      → s.CallsForNothing (listed t.before.send heard before)
      → AfterSend l size window accepted later
      (send_all (listed t.before.send heard before)
      (sending_event lane (got_as (called_for t.before.phase t.before y) y))) t.action t.after
  unit_after lane t y heard before q is i r may n =
      reads_after lane t y t.before.phase heard before q is i may (told_reads lane t.before.phase t.before y r)
      (leaves_reads lane t.before.phase t.before y heard before r n)
