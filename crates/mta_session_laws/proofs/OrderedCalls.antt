-- What units and other events call for, and what one call of a session does.
use Rattle.std.proofs.Common.{◌≡◌, inl, inr, ℕ, ◌-◌, ◌==◌, if◌then◌else◌, Bool, true}
use Rattle.std.proofs.Common.{false, Option, Some, None, refl, rules, sym, ap, subst, ◌∙◌}
use Rattle.mta_units.specs.declared.unit.Unit.{Unit as AnyUnit}
use Rattle.mta_units.specs.declared.unit.Unit.TheVariants as unit
use Rattle.mta_units.specs.declared.unit.OpenUnit.{OpenUnit}
use Rattle.mta_transfer_rules.specs.Units as u
use Rattle.mta_transfer_rules.specs.Receiving as r
use Rattle.mta_transfer_rules.specs.Receiving.{RecvStage}
use Rattle.mta_session.specs.declared.ask.Ask.{Ask}
use Rattle.mta_session.specs.declared.ask.Ask.TheVariants as ask
use Rattle.mta_session.specs.declared.event.Event.{Event}
use Rattle.mta_session.specs.declared.event.Event.TheVariants as event
use Rattle.mta_session.specs.declared.event.Action.{Action}
use Rattle.mta_session.specs.declared.event.Action.TheVariants as action
use Rattle.mta_session.specs.declared.event.SessionEnd.{SessionEnd}
use Rattle.mta_session.specs.declared.peer.Peer.{Peer}
use Rattle.mta_session.specs.declared.phase.Phase.{Phase}
use Rattle.mta_session.specs.declared.phase.Phase.TheVariants as phase
use Rattle.mta_session.specs.declared.phase.OwnStep.{OwnStep}
use Rattle.mta_session.specs.declared.phase.OwnStep.TheVariants as own
use Rattle.mta_session.specs.declared.phase.Found.{Found}
use Rattle.mta_session.specs.Receiving.{emptied}
use Rattle.mta_session.specs.State.{State}
use Rattle.mta_session.specs.Rank.{is_over}
use Rattle.mta_session.specs.Wanted.{Wanted, Aborts, Rejects, Ends, Puts, Asks, Reads, Goes_on, Excepts, Never, wanted}
use Rattle.mta_session.specs.Wanted.{ask_of}
use Rattle.mta_session.specs.Wanted.{with_lane}
use Rattle.mta_session.specs.Follows.{Of_receiver, Of_neither, part_of, part_of_abort, PutsFor, AsksFor, GoesOn}
use Rattle.mta_session.specs.Follows.{ExceptsFor, Does, FollowsAt, counted, OwesNothing}
use Rattle.mta_session.specs.Fits.{Fits, FitsAt}
use Rattle.mta_session_laws.specs.Order.{is_due, is_putting, is_reading, is_asking, awaits}
use Rattle.mta_session_laws.proofs.Wants.{is_reads, waits, Enters, Says, SaysAsk, Due, Leads, never, not_ours}
use Rattle.mta_session_laws.proofs.Events.{wanted_same}
use Rattle.mta_session_laws.proofs.Opening.{wanted_in}
use Rattle.mta_session_laws.proofs.Rows.{Row, row, awaits_ack, gives_pleased, none_closes, none_gives, step_called, piece_taken}
use Rattle.mta_session_laws.proofs.Rows.{lane_accepted, dropped, dropped_bad}

abbrev Clear : State → Type 0
Clear t = is_due t.recv.stage ≡ false

-- one unit fewer may come
abbrev less : State → State
less t = record t { left = t.left - 1 }

-- What is wanted ----------------------------------------------------------------------------

step_says : (t : State) (e : Event) (step : OwnStep) → SaysAsk e (ask_of t step)
step_says t e (own.Confirm n) = tt
step_says t e own.Ending = tt
step_says t e own.Sent = tt
step_says t e own.Dropped = tt
step_says t e (own.Refused kind) = tt

lane_clear : (t : State) (o : Option OpenUnit) (p : Option Peer) (lane : ℕ) → Clear t → Clear (with_lane t o p lane)
lane_clear t (Some o) (Some p) lane d = d
lane_clear t (Some o) None lane d = d
lane_clear t None p lane d = d

row_leads : (t : State) (p : Phase) (e : Event) (w : Wanted) → Row (counted t e) p e w → t.phase ≡ p → FitsAt p t
    → Due p t.recv.stage → Leads t e w
row_leads t p e w awaits_ack q f d = (refl, (q, refl), d)
row_leads t p e w (gives_pleased n b) q f d = (refl, tt, inr (q, n, refl), d)
row_leads t p e w (none_closes b) q f d = (refl, refl, refl, d)
row_leads t p e w (none_gives b) q f d = (refl, tt, inl refl, d)
row_leads t p e w (step_called x step o c a) q f d = (refl, tt, step_says (less t) (event.Unit x) step, d)
row_leads t p e w (piece_taken x h o c a) q f d = λ i. absurd (not_ours t.ours o i)
row_leads t p e w (lane_accepted again lane a) q f d = (refl, tt, tt, lane_clear t t.opened t.line lane d)
row_leads t p e w (dropped k v) q f d = λ i. absurd (not_ours t.ours f.1 i)
row_leads t p e w (dropped_bad k y v) q f d =
    let at : t.recv.stage ≡ r.Found k = f.2 in
    subst (λ z. is_due z ≡ false) (sym at) refl
row_leads t p e w x q f d = search rules

leads : (t : State) (e : Event) → Fits t → Due t.phase t.recv.stage → Leads t e (wanted (counted t e) e)
leads t e f d = subst (λ w. Leads t e w) (wanted_same t e)
    (row_leads t t.phase e (wanted_in t.phase (counted t e) e) (row t.phase (counted t e) e) refl f d)

-- What is done -------------------------------------------------------------------------------

abbrev Tells : State → Event → Action → Type 0
Tells t e (action.Put x) = Says t e x
Tells t e (action.Ask q) = SaysAsk e q
Tells t e _ = Unit {0}

pub record After (t : State) (e : Event) (a : Action) (new : State) : Type 0 where
  pub awaited : awaits a new.phase ≡ true
  pub entered : Enters t e new.phase
  pub tells : Tells t e a
  pub owes : new.phase ≡ phase.Reads → OwesNothing new
  pub due : Due new.phase new.recv.stage

puts_first : (p : Phase) → is_putting p ≡ true → is_reads p ≡ false
puts_first phase.Reads i = absurd (never i)
puts_first p i = refl

asks_first : (p : Phase) → is_asking p ≡ true → is_reads p ≡ false
asks_first phase.Reads i = absurd (never i)
asks_first p i = refl

waits_first : (p : Phase) → waits p ≡ true → is_reads p ≡ false
waits_first phase.Reads i = absurd (never i)
waits_first p i = refl

waits_reads : (p : Phase) → waits p ≡ true → is_reading p ≡ true
waits_reads phase.ReadsOpen i = refl
waits_reads phase.ReadsAnswer i = refl
waits_reads phase.ReadsCloseAck i = refl
waits_reads p i = absurd (never i)

not_reads : (new v : State) → new ≡ v → is_reads v.phase ≡ false → new.phase ≡ phase.Reads → ⊥
not_reads new v q n i =
    let here : is_reads new.phase ≡ false = subst (λ z. is_reads z.phase ≡ false) (sym q) n in
    never (sym here ∙ ap {A = Phase} is_reads i)

landed : (t : State) (e : Event) (a b : Action) (new v : State) → a ≡ b → new ≡ v → is_reads v.phase ≡ false
    → awaits b v.phase ≡ true → Enters t e v.phase → Tells t e b → Due v.phase v.recv.stage → After t e a new
landed t e a b new v p q n w i s d = record {
  awaited = subst (λ z. awaits z new.phase ≡ true) (sym p) (subst (λ z. awaits b z.phase ≡ true) (sym q) w);
  entered = subst (λ z. Enters t e z.phase) (sym q) i;
  tells = subst (λ z. Tells t e z) (sym p) s;
  owes = λ l. absurd (not_reads new v q n l);
  due = subst (λ z. Due z.phase z.recv.stage) (sym q) d;
}

syncs_clear : (s : RecvStage) (j m : ℕ) → r.Syncs s j m → is_due s ≡ false
syncs_clear (r.Next k n) j m y = refl
syncs_clear (r.Held k n piece) j m y = refl
syncs_clear (r.Synced k n piece) j m y = refl
syncs_clear (r.Ended k n piece) j m y = refl
syncs_clear s j m y = elim y [ ]

abort_after : (t : State) (e : Event) (v : State) (z : ℕ) (new : State) (b c : Bool) → (z == 7) ≡ b → (z == 2) ≡ c
    → PutsFor v (part_of_abort z) (unit.Abort z) new → After t e (action.Put (unit.Abort z)) new
abort_after t e v z new true c p q g =
    let first = subst (λ b. PutsFor v
    (if b then Of_receiver u.Completed else (if z == 2 then Of_receiver u.Unrecognized else Of_neither))
    (unit.Abort z) new) p g in
    landed t e _ _ new _ refl first.1 refl refl tt tt refl
abort_after t e v z new false true p q g =
    let first = subst (λ b. PutsFor v
    (if b then Of_receiver u.Completed else (if z == 2 then Of_receiver u.Unrecognized else Of_neither))
    (unit.Abort z) new) p g in
    let second = subst (λ b. PutsFor v (if b then Of_receiver u.Unrecognized else Of_neither) (unit.Abort z) new) q
    first in
    landed t e _ _ new _ refl second.1 refl refl tt tt refl
abort_after t e v z new false false p q g =
    let first = subst (λ b. PutsFor v
    (if b then Of_receiver u.Completed else (if z == 2 then Of_receiver u.Unrecognized else Of_neither))
    (unit.Abort z) new) p g in
    let second = subst (λ b. PutsFor v (if b then Of_receiver u.Unrecognized else Of_neither) (unit.Abort z) new) q
    first in
    elim second [ ]

puts_after : (t : State) (e : Event) (v : State) (x : AnyUnit) (new : State) → (v.ours ≡ true → Clear v)
    → PutsFor v (part_of x) x new → After t e (action.Put x) new
puts_after t e v (unit.Start z) new l g = landed t e _ _ new _ refl g.2 refl refl tt tt (l g.0)
puts_after t e v (unit.Piece z) new l g = landed t e _ _ new _ refl g.2 refl refl tt tt (l g.0)
puts_after t e v (unit.Sync z) new l g = landed t e _ _ new _ refl g.2 refl refl tt tt (l g.0)
puts_after t e v (unit.End z) new l g = landed t e _ _ new _ refl g.2 refl refl tt tt (l g.0)
puts_after t e v (unit.Resume z w) new l g = landed t e _ _ new _ refl g.2 refl refl tt tt (l g.0)
puts_after t e v (unit.Discard z) new l g = landed t e _ _ new _ refl g.2 refl refl tt tt (l g.0)
puts_after t e v (unit.SyncAck z) new l g =
    landed t e _ _ new _ refl g.1 refl refl tt tt (syncs_clear v.recv.stage g.0.0 z g.0.1)
puts_after t e v (unit.EndAck z) new l g = landed t e _ _ new _ refl g.1 refl refl tt tt refl
puts_after t e v (unit.ResumeAck z w) new l g = landed t e _ _ new _ refl g.1 refl refl tt tt refl
puts_after t e v (unit.DiscardAck z) new l g = landed t e _ _ new _ refl g.1 refl refl tt tt refl
puts_after t e v (unit.Abort z) new l g = abort_after t e v z new (z == 7) (z == 2) refl refl g
puts_after t e v x new l g = elim g [ ]

asks_after : (t : State) (e : Event) (v : State) (x : Ask) (new : State) → (v.ours ≡ true → Clear v) → AsksFor v x new
    → After t e (action.Ask x) new
asks_after t e v (ask.BatchFor z) new l g = landed t e _ _ new _ refl g.3 refl refl tt tt (l g.0)
asks_after t e v (ask.Ending z1 z2 z3) new l g = landed t e _ _ new _ refl g.6 refl refl tt tt (l g.0)
asks_after t e v (ask.Secure z1 z2 z3 z4 z5) new l g =
    let at : v.recv.stage ≡ r.Synced z3 z4 z5 = g.0.0 in
    landed t e _ _ new _ refl g.3 refl refl tt tt (subst (λ z. is_due (emptied z) ≡ false) (sym at) refl)
asks_after t e v (ask.Complete z1 z2 z3 z4 z5) new l g =
    let at : v.recv.stage ≡ r.Ended z3 z4 z5 = g.0.0 in
    landed t e _ _ new _ refl g.3 refl refl tt tt (subst (λ z. is_due (emptied z) ≡ false) (sym at) refl)
asks_after t e v (ask.DropActivity z1 z2 z3) new l g = landed t e _ _ new _ refl g.3 refl refl tt tt tt
asks_after t e v x new l g = elim g [ ]

owes_clear : (s : RecvStage) (acked : ℕ) → r.StageOwesNothing s acked → is_due s ≡ false
owes_clear r.Free acked o = refl
owes_clear (r.Next k n) acked o = refl
owes_clear (r.Held k n piece) acked o = refl
owes_clear (r.Synced k n piece) acked o = refl
owes_clear (r.Ended k n piece) acked o = elim o [ ]
owes_clear (r.Asked k n) acked o = elim o [ ]
owes_clear (r.Discards k) acked o = elim o [ ]
owes_clear (r.Found k) acked o = elim o [ ]
owes_clear (r.Skips k) acked o = refl

owing : (v : State) → OwesNothing v → OwesNothing (record v { phase = phase.Reads })
owing v o = record { taken = o.taken; put = o.put; next = o.next }

reads_after : (t : State) (e : Event) (v new : State) → OwesNothing v → new ≡ record v { phase = phase.Reads }
    → After t e action.Read new
reads_after t e v new o q = record {
  awaited = subst (λ z. is_reading z.phase ≡ true) (sym q) refl;
  entered = subst (λ z. Enters t e z.phase) (sym q) tt;
  tells = tt;
  owes = λ l. subst (λ z. OwesNothing z) (sym q) (owing v o);
  due = subst (λ z. Due z.phase z.recv.stage) (sym q) (owes_clear v.recv.stage v.recv.acked o.taken);
}

goes_after : (t : State) (e : Event) (v : State) (a : Action) (new : State) → (v.ours ≡ true → Clear v) → GoesOn v a new
    → After t e a new
goes_after t e v (action.Put x) new l g = puts_after t e v x new l g
goes_after t e v (action.Ask x) new l g = asks_after t e v x new l g
goes_after t e v action.Read new l g = reads_after t e v new g.0 g.1
goes_after t e v (action.Finish x) new l g = elim g [ ]

excepts_ask : (t : State) (e : Event) (v : State) (f : Found) (x : Ask) (new : State) → Clear v
    → ExceptsFor v f (action.Ask x) new → After t e (action.Ask x) new
excepts_ask t e v f (ask.DropActivity z1 z2 z3) new l g = landed t e _ _ new _ refl g.3 refl refl tt tt l
excepts_ask t e v f x new l g = elim g [ ]

excepts_put : (t : State) (e : Event) (v : State) (f : Found) (x : AnyUnit) (new : State)
    → ExceptsFor v f (action.Put x) new → After t e (action.Put x) new
excepts_put t e v f (unit.Exception z1 z2) new g =
    let at : v.recv.stage ≡ r.Found g.0.0 = g.0.1 in
    landed t e _ _ new _ refl g.3 refl refl tt tt (subst (λ z. is_due (r.skipped z) ≡ false) (sym at) refl)
excepts_put t e v f x new g = elim g [ ]

excepts_after : (t : State) (e : Event) (v : State) (f : Found) (a : Action) (new : State) → Clear v
    → ExceptsFor v f a new → After t e a new
excepts_after t e v f (action.Ask x) new l g = excepts_ask t e v f x new l g
excepts_after t e v f (action.Put x) new l g = excepts_put t e v f x new g
excepts_after t e v f action.Read new l g = elim g [ ]
excepts_after t e v f (action.Finish x) new l g = elim g [ ]

does_after : (t : State) (e : Event) (c : State) (w : Wanted) (a : Action) (new : State) → Leads t e w → Does c w a new
    → After t e a new
does_after t e c (Aborts reason) a new l d = landed t e a _ new _ d.0 d.1 refl refl tt tt refl
does_after t e c (Rejects reason) a new l d = landed t e a _ new _ d.0 d.1 refl refl tt tt refl
does_after t e c (Ends x) a new l d = landed t e a _ new _ d.0 d.1 refl refl tt tt refl
does_after t e c (Puts x v) a new l d = landed t e a _ new v d.0 d.1 (puts_first v.phase l.0) l.0 l.1 l.2 l.3
does_after t e c (Asks x v) a new l d = landed t e a _ new v d.0 d.1 (asks_first v.phase l.0) l.0 l.1 l.2 l.3
does_after t e c (Reads v) a new l d =
    landed t e a _ new v d.0 d.1 (waits_first v.phase l.0) (waits_reads v.phase l.0) l.1 tt l.2
does_after t e c (Goes_on v) a new l d = goes_after t e v a new l d
does_after t e c (Excepts v f) a new l d = excepts_after t e v f a new l d
does_after t e c Never a new l d = elim d [ ]

over_after : (y : SessionEnd) (t : State) (e : Event) (a : Action) (new : State) → t.phase ≡ phase.Ended y
    → FitsAt (phase.Ended y) t → (a ≡ action.Finish y) × (new ≡ t) → After t e a new
over_after y t e a new q f d =
    let free : t.recv.stage ≡ r.Free = f.1 in
    let ended : Enters t e t.phase = subst (λ z. Enters t e z) (sym q) tt in
    let due : Due t.phase t.recv.stage =
    subst (λ z. Due z t.recv.stage) (sym q) (subst (λ z. is_due z ≡ false) (sym free) refl) in
    landed t e a _ new t d.0 d.1 (ap {A = Phase} is_reads q) (ap {A = Phase} is_over q) ended tt due

at_phase : (p : Phase) (t : State) (e : Event) (a : Action) (new : State) → t.phase ≡ p → FitsAt p t
    → Leads t e (wanted (counted t e) e) → FollowsAt p t e a new → After t e a new
at_phase (phase.Ended y) t e a new q f l g = over_after y t e a new q f g
at_phase p t e a new q f l g = does_after t e (counted t e) (wanted (counted t e) e) a new l g

pub call_after : (t : State) (e : Event) (a : Action) (new : State) → Fits t → Due t.phase t.recv.stage
    → FollowsAt t.phase t e a new → After t e a new
call_after t e a new f d g = at_phase t.phase t e a new refl f (leads t e f d) g
