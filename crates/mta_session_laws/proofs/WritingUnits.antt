-- What a session puts at a unit, or another event, may be written.
use Rattle.std.proofs.Common.{◌≡◌, ◌≤◌, ℕ, ◌-◌, ◌*◌, ◌+◌, ◌&&◌, ◌||◌, ◌==◌, not, if◌then◌else◌, Bool, true, false}
use Rattle.std.proofs.Common.{Option, Some, None, List, length, take, drop, refl, sym, subst, arith}
use Rattle.std.proofs.lemmas.List.{length-take, length-drop}
use Rattle.std.specs.Str.{bytes_eq}
use Rattle.mta_lane_send.specs.Half.{is_idle, is_ending, last_of}
use Rattle.mta_rtse.specs.declared.types.Answer.{Answer}
use Rattle.mta_rtse.specs.declared.types.Answer.TheVariants as answer
use Rattle.mta_units.specs.declared.unit.Unit.{Unit as AnyUnit}
use Rattle.mta_units.specs.declared.unit.Unit.TheVariants as unit
use Rattle.mta_units.specs.Canon.{IsWritable}
use Rattle.mta_transfer_rules.specs.Pieces.{piece_of}
use Rattle.mta_transfer_rules.specs.Units as u
use Rattle.mta_transfer_rules.specs.Sending.{SendEnd}
use Rattle.mta_transfer_rules.specs.Receiving.{RecvEnd}
use Rattle.mta_session.specs.declared.ask.Ask.{Ask}
use Rattle.mta_session.specs.declared.ask.Ask.TheVariants as ask
use Rattle.mta_session.specs.declared.event.Event.{Event}
use Rattle.mta_session.specs.declared.event.Event.TheVariants as event
use Rattle.mta_session.specs.declared.event.Action.{Action}
use Rattle.mta_session.specs.declared.event.Action.TheVariants as action
use Rattle.mta_session.specs.declared.event.Side.{Side}
use Rattle.mta_session.specs.declared.event.Side.TheVariants as side
use Rattle.mta_session.specs.declared.event.InitiatorPlan.{InitiatorPlan}
use Rattle.mta_session.specs.declared.phase.Phase.{Phase}
use Rattle.mta_session.specs.declared.phase.Phase.TheVariants as phase
use Rattle.mta_session.specs.declared.phase.OwnStep.{OwnStep}
use Rattle.mta_session.specs.declared.phase.Found.{Found}
use Rattle.mta_session.specs.Receiving.{taken, is_free}
use Rattle.mta_session.specs.Sending.{called, heard, is_discard_put}
use Rattle.mta_session.specs.State.{State, is_initiator}
use Rattle.mta_session.specs.Wanted.{Wanted, Puts, Asks, Reads, Goes_on, Excepts, Never, wanted}
use Rattle.mta_session.specs.Wanted.{wanted_of_go, wanted_of_unit, wanted_of_over, begins, on_values, is_refused_value}
use Rattle.mta_session.specs.Wanted.{is_same_reference, on_accept, on_reject, on_close, on_abort, as_holder, makes_or}
use Rattle.mta_session.specs.Wanted.{goes_on_if, as_listener, takes, on_answer_by}
use Rattle.mta_session.specs.Follows.{Of_receiver, Of_neither, part_of, part_of_abort, PutsFor, AsksFor, GoesOn}
use Rattle.mta_session.specs.Follows.{ExceptsFor, Does, FollowsAt, counted}
use Rattle.mta_session.specs.Fits.{Fits}
use Rattle.mta_session_laws.specs.Writing.{SideWrites, CallWrites, PhaseWrites, is_silent, CanWrite, TellsWritable}
use Rattle.mta_session_laws.specs.Writing.{PutsWritable, PutsMayBeWritten}
use Rattle.mta_session_laws.proofs.Writing.{Ends_write, Writes, writes_if, stays, opens_writes, reply_writes}

abbrev less : State → State
less t = record t { left = t.left - 1 }

-- a session that is over, or turns to its end, puts no Accept
silent : (v : State) → SideWrites v.side → is_silent v.phase ≡ true → PhaseWrites v.phase → CanWrite v
silent v a s f = record { side = a; call = λ n. absurd (cc (s, n)); found = f }

abort_writes : (v : State) (reason : ℕ) → SideWrites v.side → Writes (on_abort v reason)
abort_writes v reason a =
    writes_if ((reason == 2) && not (is_idle v.send.state)) _ _ (silent _ a refl tt)
    (writes_if ((reason == 7) && is_ending v.send.state (last_of v.send.state) && is_discard_put v.send.stage
    (last_of v.send.state)) _ _ (silent _ a refl tt) tt)

values_write : (v : State) (c w : ℕ) → Ends_write v → Writes (on_values v c w)
values_write v c w a = writes_if (is_refused_value v c w) _ _ tt (writes_if v.agreed _ _ a (stays _ a tt))

accept_writes : (v : State) (p : InitiatorPlan) (c w : ℕ) (x : Answer) → Ends_write v → Writes (on_accept p v c w x)
accept_writes v p c w (answer.Bind name password) a =
    writes_if p.recovering _ _ tt (writes_if (bytes_eq name p.peer && bytes_eq password p.expected_password) _ _
    (values_write v c w a) tt)
accept_writes v p c w (answer.Recover reference) a =
    writes_if (p.recovering && is_same_reference reference p.reference) _ _ (values_write v c w a) tt

reject_writes : (v : State) (p : InitiatorPlan) (reason : ℕ) → SideWrites v.side → Writes (on_reject p v reason)
reject_writes v p reason a =
    writes_if ((reason == 1) && not (is_idle v.send.state)) _ _ (silent _ a refl tt)
    (writes_if ((reason == 1) || not p.recovering) _ _ (silent _ a refl tt) tt)

answer_writes : (x : Side) (v : State) (y : AnyUnit) → Ends_write v → Writes (on_answer_by x v y)
answer_writes (side.Initiator p) v (unit.Accept c w z) a = accept_writes v p c w z a
answer_writes (side.Initiator p) v (unit.Reject reason) a = reject_writes v p reason a.0
answer_writes (side.Initiator p) v (unit.Abort reason) a = abort_writes v reason a.0
answer_writes (side.Initiator p) v y a = tt
answer_writes (side.Responder own) v y a = tt

made_writes : (v : State) (x : AnyUnit) (c : Option OwnStep) (h : Option SendEnd) → heard v.send x ≡ h → Ends_write v
    → Writes (makes_or v x c)
made_writes v x (Some step) h q a = stays _ a tt
made_writes v x None (Some e) q a = subst (λ z. Writes (goes_on_if v z)) (sym q) a
made_writes v x None None q a = subst (λ z. Writes (goes_on_if v z)) (sym q) tt

holder_writes : (v : State) (x : AnyUnit) → Ends_write v → Writes (as_holder v x)
holder_writes v (unit.Please priority) a = writes_if v.twa _ _ a tt
holder_writes v x a = made_writes v x (called v.send x) (heard v.send x) refl a

close_writes : (v : State) → Ends_write v → Writes (on_close v)
close_writes v a = writes_if v.please _ _ a
    (writes_if (v.twa && not (is_idle v.send.state)) _ _ (λ f. tt, stays _ a tt) (stays _ a tt))

takes_writes : (v : State) (f : Option RecvEnd) → Ends_write v → Writes (takes v f)
takes_writes v (Some f) a = a
takes_writes v None a = tt

listener_writes : (v : State) (x : AnyUnit) → Ends_write v → Writes (as_listener v x)
listener_writes v unit.Give a = writes_if (v.twa && is_free v.recv.stage) _ _ a tt
listener_writes v unit.Close a = writes_if (not (is_initiator v.side) && is_free v.recv.stage) _ _ (close_writes v a) tt
listener_writes v (unit.Please priority) a = writes_if v.twa _ _ a tt
listener_writes v x a = takes_writes v (taken v.checkpoint v.recv x) a

reads_writes : (v : State) (x : AnyUnit) → Ends_write v → Writes (wanted_of_unit phase.Reads v x)
reads_writes v (unit.Abort reason) a = abort_writes v reason a.0
reads_writes v x a = writes_if v.ours _ _ (holder_writes v x a) (listener_writes v x a)

unit_writes : (p : Phase) (v : State) (x : AnyUnit) → SideWrites v.side
    → (is_silent p ≡ false → CallWrites v.side v.opened v.line) → Writes (wanted_of_unit p v x)
unit_writes phase.ReadsOpen v (unit.Open o) a c = silent _ a refl tt
unit_writes phase.ReadsOpen v x a c = tt
unit_writes phase.ReadsAnswer v x a c = answer_writes v.side v x (a, c refl)
unit_writes phase.ReadsCloseAck v unit.CloseAck a c = stays _ (a, c refl) tt
unit_writes phase.ReadsCloseAck v (unit.Please priority) a c = writes_if v.twa _ _ (λ f. tt, stays _ (a, c refl) tt) tt
unit_writes phase.ReadsCloseAck v (unit.Abort reason) a c = abort_writes v reason a
unit_writes phase.ReadsCloseAck v x a c = tt
unit_writes phase.Reads v x a c = reads_writes v x (a, c refl)
unit_writes p v x a c = tt

begins_writes : (t : State) (x : Side) → t.side ≡ x → SideWrites x → Writes (begins x t)
begins_writes t (side.Initiator p) q a =
    let can : Ends_write t = subst (λ z. SideWrites z × CallWrites z t.opened t.line) (sym q) (a, tt) in
    writes_if p.recovering _ _ (stays _ can tt) (opens_writes p t a (stays _ can tt))
begins_writes t (side.Responder own) q a = silent _ (subst (λ z. SideWrites z) (sym q) a) refl tt

go_writes : (p : Phase) (t : State) → SideWrites t.side → (is_silent p ≡ false → CallWrites t.side t.opened t.line)
    → Writes (wanted_of_go p t)
go_writes phase.Begin t a c = begins_writes t t.side refl a
go_writes phase.PutsOpen t a c = stays _ (a, c refl) tt
go_writes phase.PutsAccept t a c =
    writes_if t.twa _ _ (writes_if (is_idle t.send.state) _ _ (stays _ (a, c refl) tt)
    (λ f. tt, stays _ (a, c refl) tt)) (a, c refl)
go_writes phase.Puts t a c = (a, c refl)
go_writes phase.PutsClose t a c = stays _ (a, c refl) tt
go_writes p t a c = tt

over_writes : (p : Phase) → Writes (wanted_of_over p)
over_writes (phase.PutsLast x) = tt
over_writes p = tt

writes : (t : State) (e : Event) → CanWrite t → TellsWritable t e → Writes (wanted (counted t e) e)
writes t event.Go w d = go_writes t.phase t w.side w.call
writes t (event.Unit x) w d = writes_if (t.left - 1 == 0) _ _ tt (unit_writes t.phase (less t) x w.side w.call)
writes t event.BadUnit w d = writes_if (t.left - 1 == 0) _ _ tt tt
writes t (event.Reply x) w d = reply_writes t.phase t x refl w.side w.call w.found d
writes t event.Over w d = over_writes t.phase

-- What is done ----------------------------------------------------------------------------------

piece_at : (b : Bool) (size : ℕ) (octets : List ℕ) (n : ℕ)
    → length (if b then octets else take size (drop (size * (n - 1)) octets)) ≤ length octets
piece_at true size octets n = omega arith
piece_at false size octets n = omega
    (arith, length-take size (drop (size * (n - 1)) octets), length-drop (size * (n - 1)) octets)

piece_size : (size : ℕ) (octets : List ℕ) (n : ℕ) → length (piece_of size octets n) ≤ length octets
piece_size size octets n = piece_at (size == 0) size octets n

-- the same ends at another phase
moved : (v new : State) → (s : State) → new ≡ s → Ends_write s → PhaseWrites s.phase → CanWrite new
moved v new s q a f = subst (λ z. CanWrite z) (sym q) (stays s a f)

abort_moved : (v : State) (z : ℕ) (new : State) (b c : Bool) → (z == 7) ≡ b → (z == 2) ≡ c → Ends_write v
    → PutsFor v (part_of_abort z) (unit.Abort z) new → CanWrite new
abort_moved v z new true c p q a g =
    let first = subst (λ b. PutsFor v
    (if b then Of_receiver u.Completed else (if z == 2 then Of_receiver u.Unrecognized else Of_neither))
    (unit.Abort z) new) p g in
    moved v new _ first.1 a tt
abort_moved v z new false true p q a g =
    let first = subst (λ b. PutsFor v
    (if b then Of_receiver u.Completed else (if z == 2 then Of_receiver u.Unrecognized else Of_neither))
    (unit.Abort z) new) p g in
    let second = subst (λ b. PutsFor v (if b then Of_receiver u.Unrecognized else Of_neither) (unit.Abort z) new) q
    first in
    moved v new _ second.1 a tt
abort_moved v z new false false p q a g =
    let first = subst (λ b. PutsFor v
    (if b then Of_receiver u.Completed else (if z == 2 then Of_receiver u.Unrecognized else Of_neither))
    (unit.Abort z) new) p g in
    let second = subst (λ b. PutsFor v (if b then Of_receiver u.Unrecognized else Of_neither) (unit.Abort z) new) q
    first in
    elim second [ ]

-- the octets of the activity are no more than may be
puts_piece : (v : State) (z : List ℕ) (new : State) → Fits new → PutsFor v (part_of (unit.Piece z)) (unit.Piece z) new
    → IsWritable (unit.Piece z)
puts_piece v z new f g =
    let live = subst (λ s. Fits s) g.2 f in
    let whole : length v.send.octets ≤ 2097152 = live.0.3.2 in
    let size = piece_size v.send.size v.send.octets (g.1.1.1 + 1) in
    subst (λ x. length x ≤ 2097152) (sym g.1.1.5) (omega (arith, whole, size))

puts_write : (v : State) (x : AnyUnit) (new : State) → Ends_write v → Fits new → PutsFor v (part_of x) x new
    → CanWrite new × IsWritable x
puts_write v (unit.Start z) new a f g = (moved v new _ g.2 a tt, tt)
puts_write v (unit.Piece z) new a f g = (moved v new _ g.2 a tt, puts_piece v z new f g)
puts_write v (unit.Sync z) new a f g = (moved v new _ g.2 a tt, tt)
puts_write v (unit.End z) new a f g = (moved v new _ g.2 a tt, tt)
puts_write v (unit.Resume z w) new a f g = (moved v new _ g.2 a tt, tt)
puts_write v (unit.Discard z) new a f g = (moved v new _ g.2 a tt, tt)
puts_write v (unit.SyncAck z) new a f g = (moved v new _ g.1 a tt, tt)
puts_write v (unit.EndAck z) new a f g = (moved v new _ g.1 a tt, tt)
puts_write v (unit.ResumeAck z w) new a f g = (moved v new _ g.1 a tt, tt)
puts_write v (unit.DiscardAck z) new a f g = (moved v new _ g.1 a tt, tt)
puts_write v (unit.Abort z) new a f g = (abort_moved v z new (z == 7) (z == 2) refl refl a g, tt)
puts_write v x new a f g = elim g [ ]

asks_write : (v : State) (x : Ask) (new : State) → Ends_write v → AsksFor v x new → CanWrite new
asks_write v (ask.BatchFor z) new a g = moved v new _ g.3 a tt
asks_write v (ask.Ending z1 z2 z3) new a g = moved v new _ g.6 a tt
asks_write v (ask.Secure z1 z2 z3 z4 z5) new a g = moved v new _ g.3 a tt
asks_write v (ask.Complete z1 z2 z3 z4 z5) new a g = moved v new _ g.3 a tt
asks_write v (ask.DropActivity z1 z2 z3) new a g = moved v new _ g.3 a tt
asks_write v x new a g = elim g [ ]

goes_write : (v : State) (x : Action) (new : State) → Ends_write v → Fits new → GoesOn v x new → CanWrite new
    × PutsWritable x
goes_write v (action.Put x) new a f g = puts_write v x new a f g
goes_write v (action.Ask x) new a f g = (asks_write v x new a g, tt)
goes_write v action.Read new a f g = (moved v new _ g.1 a tt, tt)
goes_write v (action.Finish x) new a f g = elim g [ ]

excepts_ask : (v : State) (k : Found) (x : Ask) (new : State) → Ends_write v → IsWritable (unit.Exception k.kind k.at)
    → ExceptsFor v k (action.Ask x) new → CanWrite new
excepts_ask v k (ask.DropActivity z1 z2 z3) new a w g = moved v new _ g.3 a w
excepts_ask v k x new a w g = elim g [ ]

excepts_put : (v : State) (k : Found) (x : AnyUnit) (new : State) → Ends_write v
    → IsWritable (unit.Exception k.kind k.at) → ExceptsFor v k (action.Put x) new → CanWrite new × IsWritable x
excepts_put v k (unit.Exception z1 z2) new a w g =
    let one : IsWritable (unit.Exception z1 k.at) = subst (λ n. IsWritable (unit.Exception n k.at)) (sym g.1) w in
    (moved v new _ g.3 a tt, subst (λ n. IsWritable (unit.Exception z1 n)) (sym g.2) one)
excepts_put v k x new a w g = elim g [ ]

excepts_write : (v : State) (k : Found) (x : Action) (new : State) → Ends_write v
    → IsWritable (unit.Exception k.kind k.at) → ExceptsFor v k x new → CanWrite new × PutsWritable x
excepts_write v k (action.Ask x) new a w g = (excepts_ask v k x new a w g, tt)
excepts_write v k (action.Put x) new a w g = excepts_put v k x new a w g
excepts_write v k any2 new a w g = elim g [ ]

does_write : (v : State) (w : Wanted) (a : Action) (new : State) → SideWrites v.side → Writes w → Fits new
    → Does v w a new → CanWrite new × PutsWritable a
does_write v (Puts x z) a new s w f d =
    (subst (λ y. CanWrite y) (sym d.1) w.1, subst (λ y. PutsWritable y) (sym d.0) (w.0 (subst (λ y. Fits y) d.1 f)))
does_write v (Asks x z) a new s w f d = (subst (λ y. CanWrite y) (sym d.1) w, subst (λ y. PutsWritable y) (sym d.0) tt)
does_write v (Reads z) a new s w f d = (subst (λ y. CanWrite y) (sym d.1) w, subst (λ y. PutsWritable y) (sym d.0) tt)
does_write v (Goes_on z) a new s w f d = goes_write z a new w f d
does_write v (Excepts z k) a new s w f d = excepts_write z k a new w.0 w.1 d
does_write v Never a new s w f d = elim d [ ]
does_write v any1 a new s w f d =
    (subst (λ z. CanWrite z) (sym d.1) (silent _ s refl tt), subst (λ z. PutsWritable z) (sym d.0) tt)

counted_side : (t : State) (e : Event) → SideWrites t.side → SideWrites (counted t e).side
counted_side t event.Go s = s
counted_side t any1 s = s

-- an ended session goes on as it is
going : (p : Phase) (t : State) (e : Event) (a : Action) (new : State) → Fits new → CanWrite t → TellsWritable t e
    → FollowsAt p t e a new → CanWrite new × PutsWritable a
going (phase.Ended x) t e a new f w d g =
    (subst (λ y. CanWrite y) (sym g.1) w, subst (λ y. PutsWritable y) (sym g.0) tt)
going p t e a new f w d g = does_write (counted t e) (wanted (counted t e) e) a new (counted_side t e w.side)
    (writes t e w d) f g

pub puts_may_be_written : PutsMayBeWritten
puts_may_be_written t e a new f g w d h = going t.phase t e a new g w d h
