-- What a session goes on with that does not have the turn.
use Rattle.std.proofs.Common.{◌≡◌, ◌⊎◌, inl, inr, ◌<◌, ◌≤◌, ℕ, ◌+◌, ◌==◌, nat_lt, nat_le, Bool, true, false, None}
use Rattle.std.proofs.Common.{if◌then◌else◌, List, refl, sym, subst, arith}
use Rattle.std.proofs.lemmas.Bool.{and_left, and_parts, eqb-true, le-ltb, lt-ltb, ltb-true}
use Rattle.mta_units.specs.declared.unit.Unit.{Unit as AnyUnit}
use Rattle.mta_units.specs.declared.unit.Unit.TheVariants as unit
use Rattle.mta_lane_recv.specs.declared.state.Last.{Last}
use Rattle.mta_lane_recv.specs.declared.state.Last.TheVariants as last
use Rattle.mta_lane_recv.specs.Half.{IsOfHigh, is_done, is_partial_of, stands, takes_piece}
use Rattle.mta_transfer_rules.specs.Units as u
use Rattle.mta_transfer_rules.specs.Receiving as r
use Rattle.mta_transfer_rules.specs.Receiving.{RecvStage, StageOwesNothing}
use Rattle.mta_session.specs.declared.ask.Ask.{Ask}
use Rattle.mta_session.specs.declared.ask.Ask.TheVariants as ask
use Rattle.mta_session.specs.declared.event.Action.{Action}
use Rattle.mta_session.specs.declared.event.Action.TheVariants as action
use Rattle.mta_session.specs.declared.phase.Phase.TheVariants as phase
use Rattle.mta_session.specs.Follows.{Of_receiver, Of_neither, part_of, part_of_abort, PutsFor, AsksFor}
use Rattle.mta_session.specs.Follows.{IsSettled, phase_behind}
use Rattle.mta_session.specs.RecvFits.{RecvFits, RecvFitsAt}
use Rattle.mta_session.specs.State.{State, in_phase}
use Rattle.mta_session_next_laws.specs.Next.{ListenersGoOn, ack_next, next_of_receiver}
use Rattle.mta_session_next_laws.proofs.Holding.{same, pick_false, pick_true}

-- this is what comes next at a stage
abbrev Is : State → RecvStage → Action → State → Type 0
Is t z a new = ◌≡◌ {A = Action × State} (a, new) (next_of_receiver z t)

-- the stage is this one
at : (t : State) (z : RecvStage) (a : Action) (new : State) → t.recv.stage ≡ z → Is t z a new → Is t t.recv.stage a new
at t z a new e h = subst (λ x. Is t x a new) (sym e) h

-- ---- what stands

done_not_partial : (l : Last) (k : ℕ) → is_done l k ≡ true → is_partial_of l k ≡ false
done_not_partial last.None k e = refl
done_not_partial (last.Partial j p) k e = absurd cc
done_not_partial (last.Done j) k e = refl

not_standing : (l : Last) (k n : ℕ) → is_done l k ≡ false → is_partial_of l k ≡ false → stands l k n ≡ false
not_standing last.None k n d p = refl
not_standing (last.Partial j q) k n d p = and_left (k == j) (nat_le n q) p
not_standing (last.Done j) k n d p = d

-- an activity of which a piece is taken is not done
taking_not_done : (high : ℕ) (l : Last) (k n : ℕ) → IsOfHigh high l → takes_piece high l k n ≡ true
    → is_done l k ≡ false
taking_not_done high last.None k n h e = refl
taking_not_done high (last.Partial j p) k n h e = refl
taking_not_done high (last.Done j) k n h e = other (k == j) refl
  where
    other : (b : Bool) → (k == j) ≡ b → (k == j) ≡ false
    other false q = q
    other true q =
        let above : high < k = ltb-true high k (and_parts (nat_lt high k) (n == 1) e).0 in
        let here : k ≡ j = eqb-true k j q in
        absurd (omega (arith, above, here, h))

-- ---- units

ack_comes : (t : State) (m n : ℕ) (new : State) → m ≡ n → t.recv.acked < m
    → new ≡ record t { phase = phase.Puts; recv = r.put t.recv (u.SyncAck m) }
    → ◌≡◌ {A = Action × State} (action.Put (unit.SyncAck m), new) (ack_next n t)
ack_comes t m n new e le q =
    subst (λ z. ◌≡◌ {A = Action × State} (action.Put (unit.SyncAck m), new) (ack_next z t)) e
    (pick_true (nat_lt t.recv.acked m) _ _ _ (lt-ltb _ _ le) (same _ _ _ q))

ack_at : (z : RecvStage) (t : State) (k m : ℕ) (new : State) → RecvFitsAt t.checkpoint z t.recv → r.Syncs z k m
    → t.recv.acked < m → IsSettled z t.recv.last
    → new ≡ record t { phase = phase.Puts; recv = r.put t.recv (u.SyncAck m) }
    → Is t z (action.Put (unit.SyncAck m)) new
ack_at (r.Next j n) t k m new f y le i q =
    let most : n ≤ t.recv.acked + 1 = f.3 in
    let within : m ≤ n = y.1 in
    ack_comes t m n new (omega (arith, le, most, within)) le q
ack_at (r.Held j n piece) t k m new f y le i q =
    let next : t.recv.acked + 1 ≡ n = f.3 in
    let within : m < n = y.1 in
    absurd (omega (arith, le, next, within))
ack_at (r.Synced j n piece) t k m new f y le i q =
    let most : n ≤ t.recv.acked + 1 = f.4 in
    let within : m ≤ n = y.1 in
    pick_true (is_done t.recv.last j) _ _ _ i (ack_comes t m n new (omega (arith, le, most, within)) le q)
ack_at (r.Ended j n piece) t k m new f y le i q = elim i [ ]
ack_at any0 t k m new f y le i q = elim y [ ]

end_ack : (t : State) (k n : ℕ) (piece : List ℕ) (new : State) → t.recv.stage ≡ r.Ended k n piece
    → is_done t.recv.last k ≡ true → new ≡ record t { phase = phase.Puts; recv = r.put t.recv (u.EndAck k) }
    → Is t t.recv.stage (action.Put (unit.EndAck k)) new
end_ack t k n piece new z d q = at t (r.Ended k n piece) (action.Put (unit.EndAck k)) new z
    (pick_true (is_done t.recv.last k) _ _ _ d (same _ _ _ q))

resume_ack : (t : State) (k n : ℕ) (new : State) → t.recv.stage ≡ r.Asked k n → stands t.recv.last k n ≡ true
    → new ≡ record t { phase = phase.Puts; recv = r.put t.recv (u.ResumeAck k n) }
    → Is t t.recv.stage (action.Put (unit.ResumeAck k n)) new
resume_ack t k n new z d q = at t (r.Asked k n) (action.Put (unit.ResumeAck k n)) new z
    (pick_true (stands t.recv.last k n) _ _ _ d (same _ _ _ q))

discard_ack : (t : State) (k : ℕ) (new : State) → t.recv.stage ≡ r.Discards k → is_done t.recv.last k ≡ false
    → is_partial_of t.recv.last k ≡ false
    → new ≡ record t { phase = phase.Puts; recv = r.put t.recv (u.DiscardAck k) }
    → Is t t.recv.stage (action.Put (unit.DiscardAck k)) new
discard_ack t k new z d p q = at t (r.Discards k) (action.Put (unit.DiscardAck k)) new z
    (pick_false (is_partial_of t.recv.last k) _ _ _ p
    (pick_false (is_done t.recv.last k) _ _ _ d (same _ _ _ q)))

completed_at : (t : State) (k : ℕ) (new : State) → t.recv.stage ≡ r.Discards k → is_done t.recv.last k ≡ true
    → new ≡ record t { phase = phase_behind (unit.Abort 7); recv = r.put t.recv u.Completed }
    → Is t t.recv.stage (action.Put (unit.Abort 7)) new
completed_at t k new z d q = at t (r.Discards k) (action.Put (unit.Abort 7)) new z
    (pick_false (is_partial_of t.recv.last k) _ _ _ (done_not_partial t.recv.last k d)
    (pick_true (is_done t.recv.last k) _ _ _ d (same _ _ _ q)))

unrecognized_at : (t : State) (k n : ℕ) (new : State) → t.recv.stage ≡ r.Asked k n → is_done t.recv.last k ≡ false
    → is_partial_of t.recv.last k ≡ false
    → new ≡ record t { phase = phase_behind (unit.Abort 2); recv = r.put t.recv u.Unrecognized }
    → Is t t.recv.stage (action.Put (unit.Abort 2)) new
unrecognized_at t k n new z d p q = at t (r.Asked k n) (action.Put (unit.Abort 2)) new z
    (pick_false (stands t.recv.last k n) _ _ _ (not_standing t.recv.last k n d p) (same _ _ _ q))

-- an Abort of a reason that is this one
abort_so : (t : State) (z w : ℕ) (new : State) → z ≡ w → Is t t.recv.stage (action.Put (unit.Abort w)) new
    → Is t t.recv.stage (action.Put (unit.Abort z)) new
abort_so t z w new e h = subst (λ x. Is t t.recv.stage (action.Put (unit.Abort x)) new) (sym e) h

abort_next : (t : State) (z : ℕ) (new : State) (b c : Bool) → (z == 7) ≡ b → (z == 2) ≡ c
    → PutsFor t (part_of_abort z) (unit.Abort z) new → Is t t.recv.stage (action.Put (unit.Abort z)) new
abort_next t z new true c p q g =
    let here = subst (λ b. PutsFor t
    (if b then Of_receiver u.Completed else (if z == 2 then Of_receiver u.Unrecognized else Of_neither))
    (unit.Abort z) new) p g in
    let is : z ≡ 7 = eqb-true z 7 p in
    let then_ = subst (λ (x : ℕ). new ≡ record t {
      phase = phase_behind (unit.Abort x);
      recv = r.put t.recv u.Completed;
    }) is here.1 in
    abort_so t z 7 new is (completed_at t here.0.0 new here.0.1 here.0.2 then_)
abort_next t z new false true p q g =
    let first = subst (λ b. PutsFor t
    (if b then Of_receiver u.Completed else (if z == 2 then Of_receiver u.Unrecognized else Of_neither))
    (unit.Abort z) new) p g in
    let here = subst (λ b. PutsFor t (if b then Of_receiver u.Unrecognized else Of_neither) (unit.Abort z) new) q
    first in
    let is : z ≡ 2 = eqb-true z 2 q in
    let then_ = subst (λ (x : ℕ). new ≡ record t {
      phase = phase_behind (unit.Abort x);
      recv = r.put t.recv u.Unrecognized;
    }) is here.1 in
    abort_so t z 2 new is (unrecognized_at t here.0.0 here.0.1 new here.0.2 here.0.3 here.0.4 then_)
abort_next t z new false false p q g =
    let first = subst (λ b. PutsFor t
    (if b then Of_receiver u.Completed else (if z == 2 then Of_receiver u.Unrecognized else Of_neither))
    (unit.Abort z) new) p g in
    let here = subst (λ b. PutsFor t (if b then Of_receiver u.Unrecognized else Of_neither) (unit.Abort z) new) q
    first in
    elim here [ ]

no_turn : (b : Bool) → b ≡ false → b ≡ true → ⊥
no_turn b e f = absurd cc

put_next : (t : State) (x : AnyUnit) (new : State) → t.ours ≡ false → RecvFits t.checkpoint t.recv
    → PutsFor t (part_of x) x new → Is t t.recv.stage (action.Put x) new
put_next t (unit.SyncAck m) new i f g = ack_at t.recv.stage t g.0.0 m new f g.0.1 g.2.0 g.2.1 g.1
put_next t (unit.EndAck k) new i f g = end_ack t k g.0.0 g.0.1 new g.0.2 g.0.3 g.1
put_next t (unit.ResumeAck k n) new i f g = resume_ack t k n new g.0.0 g.0.2 g.1
put_next t (unit.DiscardAck k) new i f g = discard_ack t k new g.0.0 g.0.1 g.0.2 g.1
put_next t (unit.Abort z) new i f g = abort_next t z new (z == 7) (z == 2) refl refl g
put_next t (unit.Start k) new i f g = absurd (no_turn t.ours i g.0)
put_next t (unit.Piece z) new i f g = absurd (no_turn t.ours i g.0)
put_next t (unit.Sync n) new i f g = absurd (no_turn t.ours i g.0)
put_next t (unit.End k) new i f g = absurd (no_turn t.ours i g.0)
put_next t (unit.Resume k n) new i f g = absurd (no_turn t.ours i g.0)
put_next t (unit.Discard k) new i f g = absurd (no_turn t.ours i g.0)
put_next t any1 new i f g = elim g [ ]

-- ---- questions

secure_told : (t : State) (lane g k n : ℕ) (piece : List ℕ) (new : State) → lane ≡ t.lane → g ≡ t.generation
    → Is t t.recv.stage (action.Ask (ask.Secure t.lane t.generation k n piece)) new
    → Is t t.recv.stage (action.Ask (ask.Secure lane g k n piece)) new
secure_told t lane g k n piece new p q h = rw (p, q) h

complete_told : (t : State) (lane g k n : ℕ) (piece : List ℕ) (new : State) → lane ≡ t.lane → g ≡ t.generation
    → Is t t.recv.stage (action.Ask (ask.Complete t.lane t.generation k n piece)) new
    → Is t t.recv.stage (action.Ask (ask.Complete lane g k n piece)) new
complete_told t lane g k n piece new p q h = rw (p, q) h

drop_told : (t : State) (lane g k : ℕ) (new : State) → lane ≡ t.lane → g ≡ t.generation
    → Is t t.recv.stage (action.Ask (ask.DropActivity t.lane t.generation k)) new
    → Is t t.recv.stage (action.Ask (ask.DropActivity lane g k)) new
drop_told t lane g k new p q h = rw (p, q) h

drop_at : (t : State) (k : ℕ) (new : State) → RecvFits t.checkpoint t.recv
    → (t.recv.stage ≡ r.Discards k) ⊎ (t.recv.stage ≡ r.Found k) → is_partial_of t.recv.last k ≡ true
    → new ≡ in_phase t (phase.AsksDrop k None)
    → Is t t.recv.stage (action.Ask (ask.DropActivity t.lane t.generation k)) new
drop_at t k new f (inl z) p q = at t (r.Discards k) (action.Ask (ask.DropActivity t.lane t.generation k)) new z
    (pick_true (is_partial_of t.recv.last k) _ _ _ p (same _ _ _ q))
drop_at t k new f (inr z) p q = absurd (subst (λ x. RecvFitsAt t.checkpoint x t.recv) z f)

ask_next : (t : State) (x : Ask) (new : State) → t.ours ≡ false → RecvFits t.checkpoint t.recv
    → IsOfHigh t.recv.high t.recv.last → AsksFor t x new → Is t t.recv.stage (action.Ask x) new
ask_next t (ask.Secure lane g_ k n piece) new i f h g =
    secure_told t lane g_ k n piece new g.1 g.2
    (at t (r.Synced k n piece) (action.Ask (ask.Secure t.lane t.generation k n piece)) new g.0.0
    (pick_false (is_done t.recv.last k) _ _ _ (taking_not_done t.recv.high t.recv.last k n h g.0.1)
    (same _ _ _ g.3)))
ask_next t (ask.Complete lane g_ k n piece) new i f h g =
    complete_told t lane g_ k n piece new g.1 g.2
    (at t (r.Ended k n piece) (action.Ask (ask.Complete t.lane t.generation k n piece)) new g.0.0
    (pick_false (is_done t.recv.last k) _ _ _ (taking_not_done t.recv.high t.recv.last k n h g.0.1)
    (same _ _ _ g.3)))
ask_next t (ask.DropActivity lane g_ k) new i f h g =
    drop_told t lane g_ k new g.1 g.2 (drop_at t k new f g.0.0 g.0.1 g.3)
ask_next t (ask.BatchFor peer) new i f h g = absurd (no_turn t.ours i g.0)
ask_next t (ask.Ending lane g_ k) new i f h g = absurd (no_turn t.ours i g.0)
ask_next t any1 new i f h g = elim g [ ]

-- ---- the next unit is read

acked_so : (t : State) (n : ℕ) (new : State) → t.recv.acked ≡ n → new ≡ in_phase t phase.Reads
    → ◌≡◌ {A = Action × State} (action.Read, new) (ack_next n t)
acked_so t n new e q =
    pick_false (nat_lt t.recv.acked n) _ _ _ (le-ltb _ _ (omega (arith, e))) (same _ _ _ q)

read_at : (z : RecvStage) (t : State) (new : State) → RecvFitsAt t.checkpoint z t.recv
    → StageOwesNothing z t.recv.acked → new ≡ in_phase t phase.Reads → Is t z action.Read new
read_at r.Free t new f o q = same _ _ _ q
read_at (r.Next k n) t new f o q = acked_so t n new o q
read_at (r.Held k n piece) t new f o q = same _ _ _ q
read_at (r.Synced k n piece) t new f o q =
    pick_true (is_done t.recv.last k) _ _ _ (f.5 (omega (arith, o))) (acked_so t n new o q)
read_at (r.Ended k n piece) t new f o q = elim o [ ]
read_at (r.Asked k n) t new f o q = elim o [ ]
read_at (r.Discards k) t new f o q = elim o [ ]
read_at (r.Found k) t new f o q = elim o [ ]
read_at (r.Skips k) t new f o q = same _ _ _ q

pub listeners_go_on : ListenersGoOn
listeners_go_on t (action.Put x) new i f h g = put_next t x new i f g
listeners_go_on t (action.Ask x) new i f h g = ask_next t x new i f h g
listeners_go_on t action.Read new i f h g = read_at t.recv.stage t new f g.0.taken g.1
listeners_go_on t (action.Finish x) new i f h g = elim g [ ]
