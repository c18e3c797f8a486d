-- An open session stays open, or turns to its end; and what its list is then.
use Rattle.std.proofs.Common.{◌≡◌, inl, inr, ℕ, ◌&&◌, ◌==◌, ◌-◌, not, if◌then◌else◌, Bool, true, false}
use Rattle.std.proofs.Common.{List, refl, rules, sym, ap, subst, ◌∙◌}
use Rattle.std.specs.Prelude.{◌⊎◌}
use Rattle.mta_units.specs.declared.unit.Unit.{Unit as AnyUnit}
use Rattle.mta_units.specs.declared.unit.Unit.TheVariants as unit
use Rattle.mta_lane_send.specs.Half.{is_idle, is_ending, last_of}
use Rattle.mta_transfer_rules.specs.Units as u
use Rattle.mta_transfer_rules.specs.Sending.{SendEvent}
use Rattle.mta_session.specs.declared.ask.Ask.{Ask}
use Rattle.mta_session.specs.declared.ask.Ask.TheVariants as ask
use Rattle.mta_session.specs.declared.event.Action.{Action}
use Rattle.mta_session.specs.declared.event.Action.TheVariants as action
use Rattle.mta_session.specs.declared.event.Event.{Event}
use Rattle.mta_session.specs.declared.event.Event.TheVariants as event
use Rattle.mta_session.specs.declared.event.SessionEnd.TheVariants as end
use Rattle.mta_session.specs.declared.phase.Found.{Found}
use Rattle.mta_session.specs.declared.phase.Phase.{Phase}
use Rattle.mta_session.specs.declared.phase.Phase.TheVariants as phase
use Rattle.mta_session.specs.Sending.{is_discard_put}
use Rattle.mta_session.specs.State.{State}
use Rattle.mta_session.specs.Wanted.{Wanted, Aborts, Rejects, Ends, Puts, Asks, Reads, Goes_on, Excepts, Never}
use Rattle.mta_session.specs.Follows.{counted, Of_receiver, Of_neither, part_of, part_of_abort, PutsFor, AsksFor}
use Rattle.mta_session.specs.Follows.{GoesOn, ExceptsFor, Does}
use Rattle.mta_session_laws.specs.Turning.{with_put, with_action, is_open}
use Rattle.mta_session_laws.proofs.Events.{never}
use Rattle.mta_session_laws.proofs.Opening.{wanted_in}
use Rattle.mta_session_laws.proofs.Rows.{Row, row, link_opened, awaits_open, awaits_answer, lane_accepted, reject_closed}
use Rattle.mta_session_laws.proofs.Rows.{abort_denied, abort_sent}

-- What an open session turns to ---------------------------------------------------------------

-- an Abort that settles what it answers
abbrev pub Settles : State → Event → (reason : ℕ) → Type 0
Settles t e reason =
    (e ≡ event.Unit (unit.Abort reason)) × ((t.left - 1 == 0) ≡ false)
    × ((((reason == 2) && not (is_idle t.send.state)) ≡ true)
    ⊎ (((reason == 7) && is_ending t.send.state (last_of t.send.state) && is_discard_put t.send.stage
    (last_of t.send.state)) ≡ true))

abbrev pub KeepsOpen : Phase → State → Event → Type 0
KeepsOpen phase.AsksClose t e = Unit {0}
KeepsOpen (phase.AsksLast (end.PeerAborted reason)) t e = Settles t e reason
KeepsOpen p t e = is_open p ≡ true

abbrev Stays : State → Event → Wanted → Type 0
Stays t e (Asks q v) = KeepsOpen v.phase t e
Stays t e (Puts x v) = is_open v.phase ≡ true
Stays t e (Reads v) = is_open v.phase ≡ true
Stays t e (Aborts reason) = Unit {0}
Stays t e (Rejects reason) = Unit {0}
Stays t e (Ends x) = Unit {0}
Stays t e (Goes_on v) = Unit {0}
Stays t e (Excepts v f) = Unit {0}
Stays t e Never = Unit {0}

row_stays : (t : State) (p : Phase) (e : Event) (w : Wanted) → Row (counted t e) p e w → is_open p ≡ true → Stays t e w
row_stays t p e w (link_opened s q c) i = absurd (never i)
row_stays t p e w (awaits_open own q) i = absurd (never i)
row_stays t p e w awaits_answer i = absurd (never i)
row_stays t p e w (lane_accepted again lane a) i = absurd (never i)
row_stays t p e w (reject_closed reason) i = absurd (never i)
row_stays t p e w (abort_denied reason h l b) i = (refl, l, inl b)
row_stays t p e w (abort_sent reason h l b) i = (refl, l, inr b)
row_stays t p e w r i = search rules

stays : (p : Phase) (t : State) (e : Event) → is_open p ≡ true → Stays t e (wanted_in p (counted t e) e)
stays p t e i = row_stays t p e (wanted_in p (counted t e) e) (row p (counted t e) e) i

-- What is put last says nothing of the own activity --------------------------------------------

nothing_put : (events : List SendEvent) (reason : ℕ) (b c : Bool) → (reason == 7) ≡ b → (reason == 2) ≡ c
    → with_put events (part_of_abort reason) ≡ events
nothing_put events reason true c p q = rw p refl
nothing_put events reason false true p q = rw p (rw q refl)
nothing_put events reason false false p q = rw p (rw q refl)

pub abort_says_nothing : (events : List SendEvent) (reason : ℕ)
    → with_action events (action.Put (unit.Abort reason)) ≡ events
abort_says_nothing events reason = nothing_put events reason (reason == 7) (reason == 2) refl refl

-- the phase that a session turns to at its end
abbrev pub TurnsTo : Phase → State → Event → Type 0
TurnsTo (phase.PutsLast y) t e = Unit {0}
TurnsTo (phase.Ended y) t e = Unit {0}
TurnsTo phase.AsksClose t e = Unit {0}
TurnsTo (phase.AsksLast (end.PeerAborted reason)) t e = Settles t e reason
TurnsTo p t e = ⊥

pub record Turned (t : State) (e : Event) (a : Action) (new : State) : Type 0 where
  pub silent : (events : List SendEvent) → with_action events a ≡ events
  pub to : TurnsTo new.phase t e

-- an Abort in answer to a unit is put last
abbrev pub IsPutLast : Phase → Type 0
IsPutLast (phase.PutsLast y) = Unit {0}
IsPutLast p = ⊥

pub record Answered (a : Action) (new : State) : Type 0 where
  pub silent : (events : List SendEvent) → with_action events a ≡ events
  pub last : IsPutLast new.phase

put_turns : (p : Phase) (t : State) (e : Event) → IsPutLast p → TurnsTo p t e
put_turns (phase.PutsLast y) t e l = tt
put_turns p t e l = elim l [ ]

answered_turns : (t : State) (e : Event) (a : Action) (new : State) → (is_open new.phase ≡ true) ⊎ Answered a new
    → (is_open new.phase ≡ true) ⊎ Turned t e a new
answered_turns t e a new (inl i) = inl i
answered_turns t e a new (inr k) = inr (record { silent = k.silent; to = put_turns new.phase t e k.last })

keeps_way : (p : Phase) (t : State) (e : Event) → KeepsOpen p t e → (is_open p ≡ true) ⊎ TurnsTo p t e
keeps_way phase.AsksClose t e k = inr tt
keeps_way (phase.AsksLast (end.PeerAborted reason)) t e k = inr k
keeps_way p t e k = inl k

-- an Abort in answer to a unit
abort_way : (v : State) (z : ℕ) (new : State) (b c : Bool) → (z == 7) ≡ b → (z == 2) ≡ c
    → PutsFor v (part_of_abort z) (unit.Abort z) new → new.phase ≡ phase.PutsLast (end.Aborted z)
abort_way v z new true c p q g =
    let first = subst (λ b. PutsFor v
    (if b then Of_receiver u.Completed else (if z == 2 then Of_receiver u.Unrecognized else Of_neither))
    (unit.Abort z) new) p g in
    ap {A = State} (λ n. n.phase) first.1
abort_way v z new false true p q g =
    let first = subst (λ b. PutsFor v
    (if b then Of_receiver u.Completed else (if z == 2 then Of_receiver u.Unrecognized else Of_neither))
    (unit.Abort z) new) p g in
    let second = subst (λ b. PutsFor v (if b then Of_receiver u.Unrecognized else Of_neither) (unit.Abort z) new) q
    first in
    ap {A = State} (λ n. n.phase) second.1
abort_way v z new false false p q g =
    let first = subst (λ b. PutsFor v
    (if b then Of_receiver u.Completed else (if z == 2 then Of_receiver u.Unrecognized else Of_neither))
    (unit.Abort z) new) p g in
    let second = subst (λ b. PutsFor v (if b then Of_receiver u.Unrecognized else Of_neither) (unit.Abort z) new) q
    first in
    elim second [ ]

opens_to : (new v : State) → new ≡ v → is_open v.phase ≡ true → is_open new.phase ≡ true
opens_to new v q i = ap {A = State} (λ n. is_open n.phase) q ∙ i

puts_way : (v : State) (x : AnyUnit) (new : State) → PutsFor v (part_of x) x new → (is_open new.phase ≡ true)
    ⊎ Answered (action.Put x) new
puts_way v (unit.Start z) new g = inl (opens_to new _ g.2 refl)
puts_way v (unit.Piece z) new g = inl (opens_to new _ g.2 refl)
puts_way v (unit.Sync z) new g = inl (opens_to new _ g.2 refl)
puts_way v (unit.End z) new g = inl (opens_to new _ g.2 refl)
puts_way v (unit.Resume z w) new g = inl (opens_to new _ g.2 refl)
puts_way v (unit.Discard z) new g = inl (opens_to new _ g.2 refl)
puts_way v (unit.SyncAck z) new g = inl (opens_to new _ g.1 refl)
puts_way v (unit.EndAck z) new g = inl (opens_to new _ g.1 refl)
puts_way v (unit.ResumeAck z w) new g = inl (opens_to new _ g.1 refl)
puts_way v (unit.DiscardAck z) new g = inl (opens_to new _ g.1 refl)
puts_way v (unit.Abort z) new g =
    inr (record {
      silent = λ events. abort_says_nothing events z;
      last = subst (λ p. IsPutLast p) (sym (abort_way v z new (z == 7) (z == 2) refl refl g)) tt;
    })
puts_way v x new g = elim g [ ]

asks_way : (v : State) (x : Ask) (new : State) → AsksFor v x new → is_open new.phase ≡ true
asks_way v (ask.BatchFor z) new g = opens_to new _ g.3 refl
asks_way v (ask.Ending z1 z2 z3) new g = opens_to new _ g.6 refl
asks_way v (ask.Secure z1 z2 z3 z4 z5) new g = opens_to new _ g.3 refl
asks_way v (ask.Complete z1 z2 z3 z4 z5) new g = opens_to new _ g.3 refl
asks_way v (ask.DropActivity z1 z2 z3) new g = opens_to new _ g.3 refl
asks_way v x new g = elim g [ ]

pub goes_way : (v : State) (a : Action) (new : State) → GoesOn v a new → (is_open new.phase ≡ true) ⊎ Answered a new
goes_way v (action.Put x) new g = puts_way v x new g
goes_way v (action.Ask x) new g = inl (asks_way v x new g)
goes_way v action.Read new g = inl (opens_to new _ g.1 refl)
goes_way v (action.Finish x) new g = elim g [ ]

excepts_ask_way : (v : State) (f : Found) (x : Ask) (new : State) → ExceptsFor v f (action.Ask x) new
    → is_open new.phase ≡ true
excepts_ask_way v f (ask.DropActivity z1 z2 z3) new g = opens_to new _ g.3 refl
excepts_ask_way v f x new g = elim g [ ]

excepts_put_way : (v : State) (f : Found) (x : AnyUnit) (new : State) → ExceptsFor v f (action.Put x) new
    → is_open new.phase ≡ true
excepts_put_way v f (unit.Exception z1 z2) new g = opens_to new _ g.3 refl
excepts_put_way v f x new g = elim g [ ]

pub excepts_way : (v : State) (f : Found) (a : Action) (new : State) → ExceptsFor v f a new → is_open new.phase ≡ true
excepts_way v f (action.Ask x) new g = excepts_ask_way v f x new g
excepts_way v f (action.Put x) new g = excepts_put_way v f x new g
excepts_way v f any2 new g = elim g [ ]

-- what was asked last
asked : (t : State) (e : Event) (q : Ask) (v : State) (a : Action) (new : State) → a ≡ action.Ask q → new ≡ v
    → (is_open v.phase ≡ true) ⊎ TurnsTo v.phase t e →
    (is_open new.phase ≡ true) ⊎ Turned t e a new
asked t e q v a new d n (inl i) = inl (opens_to new v n i)
asked t e q v a new d n (inr k) = inr (record {
  silent = λ events. ap {A = Action} (with_action events) d;
  to = subst (λ z. TurnsTo z.phase t e) (sym n) k;
})

does_way : (t : State) (e : Event) (c : State) (w : Wanted) (a : Action) (new : State) → Stays t e w → Does c w a new
    → (is_open new.phase ≡ true) ⊎ Turned t e a new
does_way t e c (Aborts reason) a new o d = inr (record {
  silent = λ events. ap {A = Action} (with_action events) d.0 ∙ abort_says_nothing events reason;
  to = subst (λ z. TurnsTo z.phase t e) (sym d.1) tt;
})
does_way t e c (Rejects reason) a new o d = inr (record {
  silent = λ events. ap {A = Action} (with_action events) d.0;
  to = subst (λ z. TurnsTo z.phase t e) (sym d.1) tt;
})
does_way t e c (Ends y) a new o d = inr (record {
  silent = λ events. ap {A = Action} (with_action events) d.0;
  to = subst (λ z. TurnsTo z.phase t e) (sym d.1) tt;
})
does_way t e c (Puts x v) a new o d = inl (opens_to new v d.1 o)
does_way t e c (Reads v) a new o d = inl (opens_to new v d.1 o)
does_way t e c (Asks q v) a new o d = asked t e q v a new d.0 d.1 (keeps_way v.phase t e o)
does_way t e c (Goes_on v) a new o d = answered_turns t e a new (goes_way v a new d)
does_way t e c (Excepts v f) a new o d = inl (excepts_way v f a new d)
does_way t e c Never a new o d = elim d [ ]

-- a call of an open session leaves it open, or turns to its end
pub open_way : (p : Phase) (t : State) (e : Event) (a : Action) (new : State) → is_open p ≡ true
    → Does (counted t e) (wanted_in p (counted t e) e) a new →
    (is_open new.phase ≡ true) ⊎ Turned t e a new
open_way p t e a new i d = does_way t e (counted t e) (wanted_in p (counted t e) e) a new (stays p t e i) d
