-- What a session goes on with that has the turn.
use Rattle.std.proofs.Common.{◌≡◌, ◌⊎◌, inl, inr, ◌<◌, ◌≤◌, ℕ, ◌+◌, ◌==◌, nat_lt, Bool, true, false}
use Rattle.std.proofs.Common.{if◌then◌else◌, List, refl, sym, ap, subst, ◌∙◌, arith}
use Rattle.std.proofs.lemmas.Bool.{eqb-true, le-ltb, lt-ltb, ne_eqb}
use Rattle.mta_units.specs.declared.unit.Unit.{Unit as AnyUnit}
use Rattle.mta_units.specs.declared.unit.Unit.TheVariants as unit
use Rattle.mta_lane_send.specs.declared.state.SendState.{SendState}
use Rattle.mta_lane_send.specs.declared.state.SendState.TheVariants as state
use Rattle.mta_lane_send.specs.Half.{confirmed_of, goes_on, is_ending, is_sending, last_of}
use Rattle.mta_transfer_rules.specs.Pieces.{piece_of}
use Rattle.mta_transfer_rules.specs.Units as u
use Rattle.mta_transfer_rules.specs.Sending as s
use Rattle.mta_transfer_rules.specs.Sending.{SendStage, is_dropping}
use Rattle.mta_transfer_rules.specs.Receiving as r
use Rattle.mta_transfer_rules.specs.Receiving.{RecvStage}
use Rattle.mta_session.specs.declared.ask.Ask.{Ask}
use Rattle.mta_session.specs.declared.ask.Ask.TheVariants as ask
use Rattle.mta_session.specs.declared.event.Action.{Action}
use Rattle.mta_session.specs.declared.event.Action.TheVariants as action
use Rattle.mta_session.specs.declared.phase.Phase.TheVariants as phase
use Rattle.mta_session.specs.declared.phase.OwnStep.TheVariants as own
use Rattle.mta_session.specs.Follows.{Of_receiver, Of_neither, part_of, part_of_abort, PutsFor, AsksFor}
use Rattle.mta_session.specs.Follows.{OwesNothing}
use Rattle.mta_session.specs.Receiving.{is_free}
use Rattle.mta_session.specs.State.{State, in_phase}
use Rattle.mta_session_next_laws.specs.Next.{HoldersGoOn, goes_on_behind, next_of_sender, piece_next}

-- this is what comes next at a stage
abbrev Is : State → SendStage → Action → State → Type 0
Is t z a new = ◌≡◌ {A = Action × State} (a, new) (next_of_sender z t)

-- the stage is this one
at : (t : State) (z : SendStage) (a : Action) (new : State) → t.send.stage ≡ z → Is t z a new → Is t t.send.stage a new
at t z a new e h = subst (λ x. Is t x a new) (sym e) h

-- what is done leads there
pub same : (a : Action) (new other : State) → new ≡ other → ◌≡◌ {A = Action × State} (a, new) (a, other)
same a new other e = ap {A = State} (λ z. (a, z)) e

pub pick_true : (b : Bool) (x y p : Action × State) → b ≡ true → p ≡ x → p ≡ (if b then x else y)
pick_true b x y p e h = rw e h

pub pick_false : (b : Bool) (x y p : Action × State) → b ≡ false → p ≡ y → p ≡ (if b then x else y)
pick_false b x y p e h = rw e h

-- a half that goes on has the activity for its last
going_last : (st : SendState) (k : ℕ) → goes_on st k ≡ true → k ≡ last_of st
going_last (state.Idle last) k e = absurd cc
going_last (state.Sending j c) k e = eqb-true k j e
going_last (state.Ending j c) k e = eqb-true k j e
going_last (state.Dropping j) k e = absurd cc

sending_not_ending : (st : SendState) (k : ℕ) → is_sending st k ≡ true → is_ending st k ≡ false
sending_not_ending (state.Sending j c) k e = refl
sending_not_ending (state.Idle last) k e = refl
sending_not_ending (state.Ending j c) k e = absurd cc
sending_not_ending (state.Dropping j) k e = refl

not_dropping : (st : SendState) (k : ℕ) → is_dropping st ≡ false → st ≡ state.Dropping k → ⊥
not_dropping st k e q = let h : true ≡ false = sym (ap is_dropping q) ∙ e in absurd cc

not_zero : (c n : ℕ) → 1 ≤ n → c ≡ n → (c == 0) ≡ false
not_zero c n le e = ne_eqb c 0 (λ z. omega (arith, le, e, z))

-- ---- units

piece_comes : (t : State) (n : ℕ) (new : State) → n < confirmed_of t.send.state + t.send.window
    → new ≡ record t {
      phase = phase.Puts;
      send = s.put t.send (u.Piece (piece_of t.send.size t.send.octets (n + 1)));
    }
    → ◌≡◌ {A = Action × State} (action.Put (unit.Piece (piece_of t.send.size t.send.octets (n + 1))), new)
    (piece_next n t)
piece_comes t n new le e = pick_true (nat_lt n (confirmed_of t.send.state + t.send.window)) _ _ _ (lt-ltb _ _ le)
    (same _ _ _ e)

resume_comes : (t : State) (k n : ℕ) (new : State) → k ≡ last_of t.send.state → 1 ≤ n → confirmed_of t.send.state ≡ n
    → new ≡ record t { phase = phase.Puts; send = s.put t.send (u.Resume k n) }
    → ◌≡◌ {A = Action × State} (action.Put (unit.Resume k n), new)
    (goes_on_behind (last_of t.send.state) (confirmed_of t.send.state) t)
resume_comes t k n new is_last le is_n e =
    subst (λ z. ◌≡◌ {A = Action × State} (action.Put (unit.Resume k n), new)
    (goes_on_behind z (confirmed_of t.send.state) t)) is_last
    (subst (λ z. ◌≡◌ {A = Action × State} (action.Put (unit.Resume k n), new) (goes_on_behind k z t)) (sym is_n)
    (pick_false (n == 0) _ _ _ (not_zero n n le refl) (same _ _ _ e)))

discard_comes : (t : State) (k : ℕ) (new : State) → k ≡ last_of t.send.state → confirmed_of t.send.state ≡ 0
    → new ≡ record t { phase = phase.Puts; send = s.put t.send (u.Discard k) }
    → ◌≡◌ {A = Action × State} (action.Put (unit.Discard k), new)
    (goes_on_behind (last_of t.send.state) (confirmed_of t.send.state) t)
discard_comes t k new is_last is_none e =
    subst (λ z. ◌≡◌ {A = Action × State} (action.Put (unit.Discard k), new)
    (goes_on_behind z (confirmed_of t.send.state) t)) is_last
    (subst (λ z. ◌≡◌ {A = Action × State} (action.Put (unit.Discard k), new) (goes_on_behind k z t)) (sym is_none)
    (same _ _ _ e))

piece_at : (t : State) (k n : ℕ) (piece : List ℕ) (new : State) → t.send.stage ≡ s.Next k n
    → n < confirmed_of t.send.state + t.send.window → piece ≡ piece_of t.send.size t.send.octets (n + 1)
    → new ≡ record t { phase = phase.Puts; send = s.put t.send (u.Piece piece) }
    → Is t t.send.stage (action.Put (unit.Piece piece)) new
piece_at t k n piece new z le p e =
    let here = λ (x : List ℕ). new ≡ record t { phase = phase.Puts; send = s.put t.send (u.Piece x) } in
    at t (s.Next k n) (action.Put (unit.Piece piece)) new z
    (subst (λ x. ◌≡◌ {A = Action × State} (action.Put (unit.Piece x), new) (piece_next n t)) (sym p)
    (piece_comes t n new le (subst here p e)))

end_at : (t : State) (k n : ℕ) (new : State) → t.send.stage ≡ s.Last_put k n → is_ending t.send.state k ≡ true
    → new ≡ record t { phase = phase.Puts; send = s.put t.send (u.End k) }
    → Is t t.send.stage (action.Put (unit.End k)) new
end_at t k n new z i e = at t (s.Last_put k n) (action.Put (unit.End k)) new z
    (pick_true (is_ending t.send.state k) _ _ _ i (same _ _ _ e))

discard_at : (t : State) (k : ℕ) (new : State) → is_dropping t.send.state ≡ false → s.PutsAt t.send (u.Discard k)
    → new ≡ record t { phase = phase.Puts; send = s.put t.send (u.Discard k) }
    → Is t t.send.stage (action.Put (unit.Discard k)) new
discard_at t k new d (inl p) e = at t s.Opened (action.Put (unit.Discard k)) new p.0
    (discard_comes t k new (going_last t.send.state k p.1) p.2 e)
discard_at t k new d (inr p) e = absurd (not_dropping t.send.state k d p.0)

-- ---- the other end's units come not, since nothing of it is under way

not_free : (x y : RecvStage) → x ≡ y → is_free y ≡ false → is_free x ≡ true → ⊥
not_free x y e n f = let h : true ≡ false = sym f ∙ ap is_free e ∙ n in absurd cc

no_syncs : (x : RecvStage) (k m : ℕ) → r.Syncs x k m → is_free x ≡ true → ⊥
no_syncs (r.Next j n) k m h f = absurd cc
no_syncs (r.Held j n piece) k m h f = absurd cc
no_syncs (r.Synced j n piece) k m h f = absurd cc
no_syncs (r.Ended j n piece) k m h f = absurd cc
no_syncs any0 k m h f = elim h [ ]

abort_not : (t : State) (z : ℕ) (new : State) (b c : Bool) → (z == 7) ≡ b → (z == 2) ≡ c → is_free t.recv.stage ≡ true
    → PutsFor t (part_of_abort z) (unit.Abort z) new → ⊥
abort_not t z new true c p q f g =
    let here = subst (λ b. PutsFor t
    (if b then Of_receiver u.Completed else (if z == 2 then Of_receiver u.Unrecognized else Of_neither))
    (unit.Abort z) new) p g in
    not_free t.recv.stage (r.Discards here.0.0) here.0.1 refl f
abort_not t z new false true p q f g =
    let first = subst (λ b. PutsFor t
    (if b then Of_receiver u.Completed else (if z == 2 then Of_receiver u.Unrecognized else Of_neither))
    (unit.Abort z) new) p g in
    let here = subst (λ b. PutsFor t (if b then Of_receiver u.Unrecognized else Of_neither) (unit.Abort z) new) q
    first in
    not_free t.recv.stage (r.Asked here.0.0 here.0.1) here.0.2 refl f
abort_not t z new false false p q f g =
    let first = subst (λ b. PutsFor t
    (if b then Of_receiver u.Completed else (if z == 2 then Of_receiver u.Unrecognized else Of_neither))
    (unit.Abort z) new) p g in
    let here = subst (λ b. PutsFor t (if b then Of_receiver u.Unrecognized else Of_neither) (unit.Abort z) new) q
    first in
    elim here [ ]

put_next : (t : State) (x : AnyUnit) (new : State) → is_dropping t.send.state ≡ false → is_free t.recv.stage ≡ true
    → PutsFor t (part_of x) x new → Is t t.send.stage (action.Put x) new
put_next t (unit.Start k) new d f g = at t (s.Started k) (action.Put (unit.Start k)) new g.1.1.0 (same _ _ _ g.2)
put_next t (unit.Piece z) new d f g = piece_at t g.1.1.0 g.1.1.1 z new g.1.1.2 g.1.1.4 g.1.1.5 g.2
put_next t (unit.Sync n) new d f g =
    at t (s.Sync_next g.1.1.0 n) (action.Put (unit.Sync n)) new g.1.1.1 (same _ _ _ g.2)
put_next t (unit.End k) new d f g = end_at t k g.1.1.0 new g.1.1.1 g.1.1.2 g.2
put_next t (unit.Resume k n) new d f g = at t s.Opened (action.Put (unit.Resume k n)) new g.1.1.0
    (resume_comes t k n new (going_last t.send.state k g.1.1.1) g.1.1.2 g.1.1.3 g.2)
put_next t (unit.Discard k) new d f g = discard_at t k new d g.1.1 g.2
put_next t (unit.SyncAck z) new d f g = absurd (no_syncs t.recv.stage g.0.0 z g.0.1 f)
put_next t (unit.EndAck k) new d f g = absurd (not_free t.recv.stage (r.Ended k g.0.0 g.0.1) g.0.2 refl f)
put_next t (unit.ResumeAck k n) new d f g = absurd (not_free t.recv.stage (r.Asked k n) g.0.0 refl f)
put_next t (unit.DiscardAck k) new d f g = absurd (not_free t.recv.stage (r.Discards k) g.0.0 refl f)
put_next t (unit.Abort z) new d f g = absurd (abort_not t z new (z == 7) (z == 2) refl refl f g)
put_next t any1 new d f g = elim g [ ]

-- ---- questions

ending_at : (t : State) (k n : ℕ) (new : State) → t.send.stage ≡ s.Last_put k n → is_sending t.send.state k ≡ true
    → new ≡ in_phase t (phase.AsksStep own.Ending)
    → Is t t.send.stage (action.Ask (ask.Ending t.lane t.generation k)) new
ending_at t k n new z i e = at t (s.Last_put k n) (action.Ask (ask.Ending t.lane t.generation k)) new z
    (pick_false (is_ending t.send.state k) _ _ _ (sending_not_ending t.send.state k i) (same _ _ _ e))

ending_told : (t : State) (lane g k : ℕ) (new : State) → lane ≡ t.lane → g ≡ t.generation
    → Is t t.send.stage (action.Ask (ask.Ending t.lane t.generation k)) new
    → Is t t.send.stage (action.Ask (ask.Ending lane g k)) new
ending_told t lane g k new p q h = rw (p, q) h

batch_told : (t : State) (peer other : List ℕ) (new : State) → peer ≡ other
    → ◌≡◌ {A = Action × State} (action.Ask (ask.BatchFor other), new) (next_of_sender s.Quiet t)
    → ◌≡◌ {A = Action × State} (action.Ask (ask.BatchFor peer), new) (next_of_sender s.Quiet t)
batch_told t peer other new p h = rw p h

drops_not : (t : State) (k : ℕ) → (t.recv.stage ≡ r.Discards k) ⊎ (t.recv.stage ≡ r.Found k)
    → is_free t.recv.stage ≡ true → ⊥
drops_not t k (inl e) f = not_free t.recv.stage (r.Discards k) e refl f
drops_not t k (inr e) f = not_free t.recv.stage (r.Found k) e refl f

ask_next : (t : State) (x : Ask) (new : State) → is_free t.recv.stage ≡ true → AsksFor t x new
    → Is t t.send.stage (action.Ask x) new
ask_next t (ask.BatchFor peer) new f g = at t s.Quiet (action.Ask (ask.BatchFor peer)) new g.1
    (batch_told t peer _ new g.2 (same _ _ _ g.3))
ask_next t (ask.Ending lane g_ k) new f g =
    ending_told t lane g_ k new g.4 g.5 (ending_at t k g.1 new g.2 g.3 g.6)
ask_next t (ask.Secure lane g_ k n piece) new f g =
    absurd (not_free t.recv.stage (r.Synced k n piece) g.0.0 refl f)
ask_next t (ask.Complete lane g_ k n piece) new f g =
    absurd (not_free t.recv.stage (r.Ended k n piece) g.0.0 refl f)
ask_next t (ask.DropActivity lane g_ k) new f g = absurd (drops_not t k g.0.0 f)
ask_next t any1 new f g = elim g [ ]

-- ---- the next unit is read

full : (t : State) (n : ℕ) (new : State) → n ≡ confirmed_of t.send.state + t.send.window
    → new ≡ in_phase t phase.Reads → ◌≡◌ {A = Action × State} (action.Read, new) (piece_next n t)
full t n new is_all e = pick_false (nat_lt n (confirmed_of t.send.state + t.send.window)) _ _ _
    (le-ltb _ _ (omega (arith, is_all))) (same _ _ _ e)

read_at : (z : SendStage) (t : State) (new : State) → t.send.stage ≡ z → s.StageOwesNothing t.send z
    → (z ≡ s.Quiet → ⊥) → new ≡ in_phase t phase.Reads → Is t z action.Read new
read_at s.Quiet t new q o n e = absurd (n refl)
read_at s.Opened t new q o n e = elim o [ ]
read_at (s.Started k) t new q o n e = elim o [ ]
read_at (s.Next k m) t new q o n e = full t m new o.1 e
read_at (s.Sync_next k m) t new q o n e = elim o [ ]
read_at (s.Last_put k m) t new q o n e = elim o [ ]
read_at (s.End_put k m) t new q o n e = same _ _ _ e
read_at (s.Resume_put k m) t new q o n e = same _ _ _ e
read_at (s.Discard_put k) t new q o n e = same _ _ _ e

read_next : (t : State) (new : State) → t.ours ≡ true → OwesNothing t → new ≡ in_phase t phase.Reads
    → Is t t.send.stage action.Read new
read_next t new i o e = read_at t.send.stage t new refl (o.put i).1 (o.next i) e

pub holders_go_on : HoldersGoOn
holders_go_on t (action.Put x) new i d f g = put_next t x new d f g
holders_go_on t (action.Ask x) new i d f g = ask_next t x new f g
holders_go_on t action.Read new i d f g = read_next t new i g.0 g.1
holders_go_on t (action.Finish x) new i d f g = elim g [ ]
