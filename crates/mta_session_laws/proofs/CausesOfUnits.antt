-- What a unit or another event calls for leads to an end for its cause only, and so does what is done then.
use Rattle.std.proofs.Common.{◌≡◌, ◌≤◌, ◌⊎◌, inl, inr, ℕ, ◌-◌, ◌&&◌, ◌||◌, ◌==◌, not, if◌then◌else◌, Bool, true, false}
use Rattle.std.proofs.Common.{Option, Some, None, refl, sym, subst, arith}
use Rattle.std.proofs.lemmas.Bool.Decides.{nat_tests}
use Rattle.std.specs.Str.{bytes_eq}
use Rattle.mta_lane_send.specs.Half.{is_idle, is_ending, last_of}
use Rattle.mta_rtse.specs.declared.types.Answer.{Answer}
use Rattle.mta_rtse.specs.declared.types.Answer.TheVariants as answer
use Rattle.mta_units.specs.declared.unit.Unit.{Unit as AnyUnit}
use Rattle.mta_units.specs.declared.unit.Unit.TheVariants as unit
use Rattle.mta_transfer_rules.specs.Units as u
use Rattle.mta_transfer_rules.specs.Sending.{SendEnd}
use Rattle.mta_transfer_rules.specs.Receiving as r
use Rattle.mta_transfer_rules.specs.Receiving.{RecvEnd}
use Rattle.mta_session.specs.declared.ask.Ask.{Ask}
use Rattle.mta_session.specs.declared.ask.Ask.TheVariants as ask
use Rattle.mta_session.specs.declared.event.Event.{Event}
use Rattle.mta_session.specs.declared.event.Event.TheVariants as event
use Rattle.mta_session.specs.declared.event.Action.{Action}
use Rattle.mta_session.specs.declared.event.Action.TheVariants as action
use Rattle.mta_session.specs.declared.event.Side.{Side}
use Rattle.mta_session.specs.declared.event.Side.TheVariants as side
use Rattle.mta_session.specs.declared.event.InitiatorPlan.{InitiatorPlan}
use Rattle.mta_session.specs.declared.event.SessionEnd.{SessionEnd}
use Rattle.mta_session.specs.declared.event.SessionEnd.TheVariants as end
use Rattle.mta_session.specs.declared.phase.Phase.{Phase}
use Rattle.mta_session.specs.declared.phase.Phase.TheVariants as phase
use Rattle.mta_session.specs.declared.phase.OwnStep.{OwnStep}
use Rattle.mta_session.specs.declared.phase.Found.{Found}
use Rattle.mta_session.specs.Receiving.{taken, is_free}
use Rattle.mta_session.specs.Sending.{called, heard, is_discard_put}
use Rattle.mta_session.specs.State.{State, is_initiator}
use Rattle.mta_session.specs.Wanted.{Wanted, Aborts, Rejects, Ends, Goes_on, Excepts, Never, wanted}
use Rattle.mta_session.specs.Wanted.{wanted_of_go, wanted_of_unit, wanted_of_over, within, begins, is_refused_value}
use Rattle.mta_session.specs.Wanted.{is_same_reference, on_values, on_accept, on_reject, on_close, on_abort, as_holder}
use Rattle.mta_session.specs.Wanted.{makes_or, as_listener, takes, on_answer_by, goes_on_if}
use Rattle.mta_session.specs.Follows.{Of_receiver, Of_neither, part_of, part_of_abort, PutsFor, AsksFor, GoesOn}
use Rattle.mta_session.specs.Follows.{ExceptsFor, Does, FollowsAt, counted}
use Rattle.mta_session.specs.Fits.{Fits, FitsAt, HasPlan}
use Rattle.mta_session_laws.specs.Causes.{end_of, IsUnallowed, IsWrongAnswer, NotAllowed, Takes, IsOther, AbortCause}
use Rattle.mta_session_laws.specs.Causes.{Values_refused, Not_standing, Too_many, Bad_unit, Not_allowed, Not_the_peer}
use Rattle.mta_session_laws.specs.Causes.{Is_done, EndCause, EndsHaveCauses}
use Rattle.mta_session_laws.proofs.Causes.{NeverAborts, Leads, some_none, quiet, ends_at, if_leads, one_of, reply_leads}

-- one unit fewer may come
abbrev less : State → State
less t = record t { left = t.left - 1 }

abort_leads : (t : State) (reason : ℕ) → Leads t (event.Unit (unit.Abort reason)) (on_abort (less t) reason)
abort_leads t reason =
    let e : Event = event.Unit (unit.Abort reason) in
    if_leads t e ((reason == 2) && not (is_idle t.send.state)) _ _ (λ b. ends_at t e (end.PeerAborted reason) refl)
    (λ b. if_leads t e ((reason == 7) && is_ending t.send.state (last_of t.send.state) && is_discard_put t.send.stage
    (last_of t.send.state)) _ _
    (λ c. ends_at t e (end.PeerAborted reason) refl) (λ c. refl))

-- An answer to Open ----------------------------------------------------------------------------

values_lead : (t : State) (p : InitiatorPlan) (c w : ℕ) (a : Answer)
    → Leads t (event.Unit (unit.Accept c w a)) (on_values (less t) c w)
values_lead t p c w a =
    let e : Event = event.Unit (unit.Accept c w a) in
    if_leads t e (is_refused_value t c w) _ _ (λ b. Values_refused c w a refl b)
    (λ b. if_leads t e t.agreed _ _ (λ d. inl (inl refl)) (λ d. quiet t e))

accept_leads : (t : State) (p : InitiatorPlan) (c w : ℕ) (a : Answer) → t.phase ≡ phase.ReadsAnswer
    → t.side ≡ side.Initiator p → Leads t (event.Unit (unit.Accept c w a)) (on_accept p (less t) c w a)
accept_leads t p c w (answer.Bind name password) q s =
    let x : AnyUnit = unit.Accept c w (answer.Bind name password) in
    let e : Event = event.Unit x in
    if_leads t e p.recovering _ _
    (λ b. Not_allowed x refl (subst (λ z. NotAllowed z t x) (sym q)
    (subst (λ z. IsWrongAnswer z (answer.Bind name password)) (sym s) b)))
    (λ b. if_leads t e (bytes_eq name p.peer && bytes_eq password p.expected_password) _ _
    (λ d. values_lead t p c w (answer.Bind name password))
    (λ d. Not_the_peer c w (answer.Bind name password) refl
    (subst (λ z. IsOther z (answer.Bind name password)) (sym s) d)))
accept_leads t p c w (answer.Recover reference) q s =
    let x : AnyUnit = unit.Accept c w (answer.Recover reference) in
    let e : Event = event.Unit x in
    if_leads t e (p.recovering && is_same_reference reference p.reference) _ _
    (λ b. values_lead t p c w (answer.Recover reference))
    (λ b. Not_allowed x refl (subst (λ z. NotAllowed z t x) (sym q)
    (subst (λ z. IsWrongAnswer z (answer.Recover reference)) (sym s) b)))

reject_one : (t : State) (reason : ℕ) → t.phase ≡ phase.ReadsAnswer → reason ≡ 1
    → EndCause t (event.Unit (unit.Reject reason)) (end.Rejected 1)
reject_one t reason q l = (q, subst (λ n. event.Unit (unit.Reject n) ≡ event.Unit (unit.Reject 1)) (sym l) refl)

and_first : (a b : Bool) → (a && b) ≡ true → a ≡ true
and_first true b l = refl
and_first false b l = l

reject_leads : (t : State) (p : InitiatorPlan) (reason : ℕ) → t.phase ≡ phase.ReadsAnswer
    → Leads t (event.Unit (unit.Reject reason)) (on_reject p (less t) reason)
reject_leads t p reason q =
    let e : Event = event.Unit (unit.Reject reason) in
    if_leads t e ((reason == 1) && not (is_idle t.send.state)) _ _
    (λ b. ends_at t e (end.Rejected 1) (reject_one t reason q (one_of reason (and_first (reason == 1) _ b))))
    (λ b. if_leads t e ((reason == 1) || not p.recovering) _ _ (λ c. ends_at t e (end.Rejected reason) (q, refl))
    (λ c. (q, refl)))

answer_leads : (x : Side) (t : State) (y : AnyUnit) → t.phase ≡ phase.ReadsAnswer → t.side ≡ x
    → FitsAt phase.ReadsAnswer t → Leads t (event.Unit y) (on_answer_by x (less t) y)
answer_leads (side.Initiator p) t (unit.Accept c w a) q s f = accept_leads t p c w a q s
answer_leads (side.Initiator p) t (unit.Reject reason) q s f = reject_leads t p reason q
answer_leads (side.Initiator p) t (unit.Abort reason) q s f = abort_leads t reason
answer_leads (side.Initiator p) t y q s f = Not_allowed y refl (subst (λ z. NotAllowed z t y) (sym q) tt)
answer_leads (side.Responder own) t y q s f =
    let none = f.1 in
    absurd (subst (λ z. HasPlan z) s none)

-- A unit on an open session --------------------------------------------------------------------

abbrev IsNoAbort : AnyUnit → Type 0
IsNoAbort (unit.Abort reason) = ⊥
IsNoAbort x = Unit {0}

unallowed : (t : State) (x : AnyUnit) (b : Bool) → t.phase ≡ phase.Reads → t.ours ≡ b → IsUnallowed b t x
    → AbortCause t (event.Unit x) 4
unallowed t x b q o n = Not_allowed x refl
    (subst (λ z. NotAllowed z t x) (sym q) (subst (λ b. IsUnallowed b t x) (sym o) n))

made_leads : (t : State) (x : AnyUnit) (c : Option OwnStep) (h : Option SendEnd) → called t.send x ≡ c
    → heard t.send x ≡ h →
    ((called t.send x ≡ None) → (heard t.send x ≡ None) → AbortCause t (event.Unit x) 4)
    → Leads t (event.Unit x) (makes_or (less t) x c)
made_leads t x (Some step) h p q n = quiet t _
made_leads t x None (Some e) p q n = subst (λ z. Leads t (event.Unit x) (goes_on_if (less t) z)) (sym q)
    (inl (inl refl))
made_leads t x None None p q n = subst (λ z. Leads t (event.Unit x) (goes_on_if (less t) z)) (sym q) (n p q)

holder_leads : (t : State) (x : AnyUnit) → t.phase ≡ phase.Reads → t.ours ≡ true → IsNoAbort x
    → Leads t (event.Unit x) (as_holder (less t) x)
holder_leads t (unit.Please priority) q o a =
    if_leads t _ t.twa _ _ (λ b. inl (inl refl)) (λ b. unallowed t (unit.Please priority) true q o b)
holder_leads t (unit.Abort reason) q o a = elim a [ ]
holder_leads t x q o a = made_leads t x (called t.send x) (heard t.send x) refl refl
    (λ c h. unallowed t x true q o (c, h))

close_leads : (t : State) → Leads t (event.Unit unit.Close) (on_close (less t))
close_leads t =
    let e : Event = event.Unit unit.Close in
    if_leads t e t.please _ _ (λ b. inl (inl refl))
    (λ b. if_leads t e (t.twa && not (is_idle t.send.state)) _ _ (λ c. quiet t e) (λ c. quiet t e))

takes_leads : (t : State) (x : AnyUnit) (f : Option RecvEnd) → taken t.checkpoint t.recv x ≡ f
    → ((taken t.checkpoint t.recv x ≡ None) → AbortCause t (event.Unit x) 4) → Leads t (event.Unit x) (takes (less t) f)
takes_leads t x (Some f) q n = inl (inr q)
takes_leads t x None q n = n q

listener_leads : (t : State) (x : AnyUnit) → t.phase ≡ phase.Reads → t.ours ≡ false → IsNoAbort x
    → Leads t (event.Unit x) (as_listener (less t) x)
listener_leads t unit.Give q o a = if_leads t _ (t.twa && is_free t.recv.stage) _ _ (λ b. inl (inl refl))
    (λ b. unallowed t unit.Give false q o b)
listener_leads t unit.Close q o a = if_leads t _ (not (is_initiator t.side) && is_free t.recv.stage) _ _
    (λ b. close_leads t) (λ b. unallowed t unit.Close false q o b)
listener_leads t (unit.Abort reason) q o a = elim a [ ]
listener_leads t (unit.Please priority) q o a =
    if_leads t _ t.twa _ _ (λ b. inl (inl refl)) (λ b. unallowed t (unit.Please priority) false q o b)
listener_leads t x q o a = takes_leads t x (taken t.checkpoint t.recv x) refl (λ n. unallowed t x false q o n)

reads_leads : (t : State) (x : AnyUnit) → t.phase ≡ phase.Reads
    → Leads t (event.Unit x) (wanted_of_unit phase.Reads (less t) x)
reads_leads t (unit.Abort reason) q = abort_leads t reason
reads_leads t x q = if_leads t _ t.ours _ _ (λ o. holder_leads t x q o tt) (λ o. listener_leads t x q o tt)

pub unit_leads : (p : Phase) (t : State) (x : AnyUnit) → t.phase ≡ p → FitsAt p t
    → Leads t (event.Unit x) (wanted_of_unit p (less t) x)
unit_leads phase.ReadsOpen t (unit.Open o) q f = quiet t _
unit_leads phase.ReadsOpen t (unit.Abort reason) q f = refl
unit_leads phase.ReadsOpen t x q f = Not_allowed x refl (subst (λ z. NotAllowed z t x) (sym q) tt)
unit_leads phase.ReadsAnswer t x q f = answer_leads t.side t x q refl f
unit_leads phase.ReadsCloseAck t unit.CloseAck q f = quiet t _
unit_leads phase.ReadsCloseAck t (unit.Please priority) q f =
    if_leads t _ t.twa _ _ (λ b. quiet t _)
    (λ b. Not_allowed (unit.Please priority) refl (subst (λ z. NotAllowed z t (unit.Please priority)) (sym q) b))
unit_leads phase.ReadsCloseAck t (unit.Abort reason) q f = abort_leads t reason
unit_leads phase.ReadsCloseAck t x q f = Not_allowed x refl (subst (λ z. NotAllowed z t x) (sym q) tt)
unit_leads phase.Reads t x q f = reads_leads t x q
unit_leads p t x q f = tt

-- The other events -----------------------------------------------------------------------------

begins_leads : (t : State) (x : Side) → Leads t event.Go (begins x t)
begins_leads t (side.Initiator p) = if_leads t _ p.recovering _ _ (λ b. quiet t _) (λ b. quiet t _)
begins_leads t (side.Responder own) = quiet t _

go_leads : (p : Phase) (t : State) → end_of p ≡ None → Leads t event.Go (wanted_of_go p t)
go_leads phase.Begin t n = begins_leads t t.side
go_leads phase.PutsOpen t n = quiet t _
go_leads phase.PutsAccept t n =
    if_leads t _ t.twa _ _ (λ b. if_leads t _ (is_idle t.send.state) _ _ (λ c. quiet t _) (λ c. quiet t _))
    (λ b. inl refl)
go_leads phase.Puts t n = inl refl
go_leads phase.PutsClose t n = quiet t _
go_leads (phase.PutsLast x) t n = absurd (some_none _ n)
go_leads p t n = tt

over_leads : (p : Phase) (t : State) → end_of p ≡ None → Leads t event.Over (wanted_of_over p)
over_leads (phase.PutsLast x) t n = absurd (some_none _ n)
over_leads p t n = refl

last_one : (t : State) → (t.left - 1 == 0) ≡ true → t.left ≤ 1
last_one t l = grind (arith, nat_tests)

counted_leads : (t : State) (e : Event) (w : Wanted) → Leads t e w → Leads t e (within (less t) w)
counted_leads t e w l = if_leads t e (t.left - 1 == 0) _ _ (λ b. Too_many (last_one t b)) (λ b. l)

leads : (t : State) (e : Event) → end_of t.phase ≡ None → Fits t → Leads t e (wanted (counted t e) e)
leads t event.Go n f = go_leads t.phase t n
leads t (event.Unit x) n f = counted_leads t _ _ (unit_leads t.phase t x refl f)
leads t event.BadUnit n f = counted_leads t _ _ (Bad_unit refl)
leads t (event.Reply x) n f = reply_leads t.phase t x refl n f
leads t event.Over n f = over_leads t.phase t n

-- What is done ----------------------------------------------------------------------------------

gone : (new v : State) (y : SessionEnd) → new ≡ v → end_of v.phase ≡ None → end_of new.phase ≡ Some y → ⊥
gone new v y q n i =
    let there : end_of v.phase ≡ Some y = subst (λ s. end_of s.phase ≡ Some y) q i in
    cc

ended : (t : State) (e : Event) (new v : State) (x y : SessionEnd) → new ≡ v → end_of v.phase ≡ Some x → EndCause t e x
    → end_of new.phase ≡ Some y → EndCause t e y
ended t e new v x y q s c i =
    let there : end_of v.phase ≡ Some y = subst (λ s. end_of s.phase ≡ Some y) q i in
    let same : x ≡ y = cc in
    subst (λ z. EndCause t e z) same c

seven : (z : ℕ) → (z == 7) ≡ true → 7 ≡ z
seven z l = grind (arith, nat_tests)

two : (z : ℕ) → (z == 2) ≡ true → 2 ≡ z
two z l = grind (arith, nat_tests)

done_cause : (t : State) (e : Event) (f : RecvEnd) → Takes t e f ⊎ NeverAborts f → r.MayPut f u.Completed
    → AbortCause t e 7
done_cause t e f (inl a) m = Is_done f m.0 a m.1 m.2
done_cause t e f (inr b) m = absurd (b.0 m)

unknown_cause : (t : State) (e : Event) (f : RecvEnd) → Takes t e f ⊎ NeverAborts f → r.MayPut f u.Unrecognized
    → AbortCause t e 2
unknown_cause t e f (inl a) m = Not_standing f m.0 m.1 a m.2 m.3 m.4
unknown_cause t e f (inr b) m = absurd (b.1 m)

abort_cause : (t : State) (e : Event) (v : State) (z : ℕ) (new : State) (b c : Bool) → (z == 7) ≡ b → (z == 2) ≡ c
    → Takes t e v.recv ⊎ NeverAborts v.recv → PutsFor v (part_of_abort z) (unit.Abort z) new → (y : SessionEnd)
    → end_of new.phase ≡ Some y → EndCause t e y
abort_cause t e v z new true c p q a g y i =
    let first = subst (λ b. PutsFor v
    (if b then Of_receiver u.Completed else (if z == 2 then Of_receiver u.Unrecognized else Of_neither))
    (unit.Abort z) new) p g in
    ended t e new _ (end.Aborted z) y first.1 refl
    (subst (λ n. AbortCause t e n) (seven z p) (done_cause t e v.recv a first.0)) i
abort_cause t e v z new false true p q a g y i =
    let first = subst (λ b. PutsFor v
    (if b then Of_receiver u.Completed else (if z == 2 then Of_receiver u.Unrecognized else Of_neither))
    (unit.Abort z) new) p g in
    let second = subst (λ b. PutsFor v (if b then Of_receiver u.Unrecognized else Of_neither) (unit.Abort z) new) q
    first in
    ended t e new _ (end.Aborted z) y second.1 refl
    (subst (λ n. AbortCause t e n) (two z q) (unknown_cause t e v.recv a second.0)) i
abort_cause t e v z new false false p q a g y i =
    let first = subst (λ b. PutsFor v
    (if b then Of_receiver u.Completed else (if z == 2 then Of_receiver u.Unrecognized else Of_neither))
    (unit.Abort z) new) p g in
    let second = subst (λ b. PutsFor v (if b then Of_receiver u.Unrecognized else Of_neither) (unit.Abort z) new) q
    first in
    elim second [ ]

puts_cause : (t : State) (e : Event) (v : State) (x : AnyUnit) (new : State) → Takes t e v.recv ⊎ NeverAborts v.recv
    → PutsFor v (part_of x) x new → (y : SessionEnd) → end_of new.phase ≡ Some y → EndCause t e y
puts_cause t e v (unit.Start z) new a g y i = absurd (gone new _ y g.2 refl i)
puts_cause t e v (unit.Piece z) new a g y i = absurd (gone new _ y g.2 refl i)
puts_cause t e v (unit.Sync z) new a g y i = absurd (gone new _ y g.2 refl i)
puts_cause t e v (unit.End z) new a g y i = absurd (gone new _ y g.2 refl i)
puts_cause t e v (unit.Resume z w) new a g y i = absurd (gone new _ y g.2 refl i)
puts_cause t e v (unit.Discard z) new a g y i = absurd (gone new _ y g.2 refl i)
puts_cause t e v (unit.SyncAck z) new a g y i = absurd (gone new _ y g.1 refl i)
puts_cause t e v (unit.EndAck z) new a g y i = absurd (gone new _ y g.1 refl i)
puts_cause t e v (unit.ResumeAck z w) new a g y i = absurd (gone new _ y g.1 refl i)
puts_cause t e v (unit.DiscardAck z) new a g y i = absurd (gone new _ y g.1 refl i)
puts_cause t e v (unit.Abort z) new a g y i = abort_cause t e v z new (z == 7) (z == 2) refl refl a g y i
puts_cause t e v x new a g y i = elim g [ ]

asks_quiet : (v : State) (x : Ask) (new : State) → AsksFor v x new → (y : SessionEnd) → end_of new.phase ≡ Some y → ⊥
asks_quiet v (ask.BatchFor z) new g y i = gone new _ y g.3 refl i
asks_quiet v (ask.Ending z1 z2 z3) new g y i = gone new _ y g.6 refl i
asks_quiet v (ask.Secure z1 z2 z3 z4 z5) new g y i = gone new _ y g.3 refl i
asks_quiet v (ask.Complete z1 z2 z3 z4 z5) new g y i = gone new _ y g.3 refl i
asks_quiet v (ask.DropActivity z1 z2 z3) new g y i = gone new _ y g.3 refl i
asks_quiet v x new g y i = elim g [ ]

goes_cause : (t : State) (e : Event) (v : State) (a : Action) (new : State) → Takes t e v.recv ⊎ NeverAborts v.recv
    → GoesOn v a new → (y : SessionEnd) → end_of new.phase ≡ Some y → EndCause t e y
goes_cause t e v (action.Put x) new a g y i = puts_cause t e v x new a g y i
goes_cause t e v (action.Ask x) new a g y i = absurd (asks_quiet v x new g y i)
goes_cause t e v action.Read new a g y i = absurd (gone new _ y g.1 refl i)
goes_cause t e v (action.Finish x) new a g y i = elim g [ ]

excepts_ask : (v : State) (f : Found) (x : Ask) (new : State) → ExceptsFor v f (action.Ask x) new → (y : SessionEnd)
    → end_of new.phase ≡ Some y → ⊥
excepts_ask v f (ask.DropActivity z1 z2 z3) new g y i = gone new _ y g.3 refl i
excepts_ask v f x new g y i = elim g [ ]

excepts_put : (v : State) (f : Found) (x : AnyUnit) (new : State) → ExceptsFor v f (action.Put x) new → (y : SessionEnd)
    → end_of new.phase ≡ Some y → ⊥
excepts_put v f (unit.Exception z1 z2) new g y i = gone new _ y g.3 refl i
excepts_put v f x new g y i = elim g [ ]

excepts_quiet : (v : State) (f : Found) (a : Action) (new : State) → ExceptsFor v f a new → (y : SessionEnd)
    → end_of new.phase ≡ Some y → ⊥
excepts_quiet v f (action.Ask x) new g y i = excepts_ask v f x new g y i
excepts_quiet v f (action.Put x) new g y i = excepts_put v f x new g y i
excepts_quiet v f any2 new g y i = elim g [ ]

does_cause : (t : State) (e : Event) (v : State) (w : Wanted) (a : Action) (new : State) (y : SessionEnd) → Leads t e w
    → Does v w a new → end_of new.phase ≡ Some y → EndCause t e y
does_cause t e v (Aborts reason) a new y l d i = ended t e new _ (end.Aborted reason) y d.1 refl l i
does_cause t e v (Rejects reason) a new y l d i = ended t e new _ (end.Refused reason) y d.1 refl l i
does_cause t e v (Ends x) a new y l d i = ended t e new _ x y d.1 refl l i
does_cause t e v (Goes_on z) a new y l d i = goes_cause t e z a new l d y i
does_cause t e v (Excepts z f) a new y l d i = absurd (excepts_quiet z f a new d y i)
does_cause t e v Never a new y l d i = elim d [ ]
does_cause t e v any3 a new y l d i = l y (subst (λ s. end_of s.phase ≡ Some y) d.1 i)

going : (p : Phase) (t : State) (e : Event) (a : Action) (new : State) → end_of p ≡ None → FollowsAt p t e a new
    → Does (counted t e) (wanted (counted t e) e) a new
going (phase.Ended x) t e a new n f = absurd (some_none x n)
going p t e a new n f = f

pub causes : EndsHaveCauses
causes t e a new y n f w i = does_cause t e (counted t e) (wanted (counted t e) e) a new y (leads t e n f)
    (going t.phase t e a new n w) i
