-- The receiving end takes a unit, or finds octets faulty: what stays true.
use Rattle.std.proofs.Common.{◌≡◌, ℕ, ◌+◌, Bool, false, List, [], ◌∷◌, ◌++◌, refl, sym, ◌∙◌, ap, subst, inl, inr}
use Rattle.std.proofs.lemmas.Bool.{eq-eqb}
use Rattle.mta_lane_send.specs.Half.{last_of}
use Rattle.mta_transfer_rules.specs.Units.{LaneUnit, Start, End, Resume, Discard, DiscardAck}
use Rattle.mta_transfer_rules.specs.Sending as s
use Rattle.mta_transfer_rules.specs.Sending.{SendStage}
use Rattle.mta_transfer_rules.specs.Receiving as r
use Rattle.mta_transfer_rules.specs.Receiving.{RecvStage}
use Rattle.mta_world.specs.World.{SendPart}
use Rattle.mta_world.proofs.Units.{Each, each-map, pending, transfers, UpTo, StageUpTo, Own, NoEnd, NoDiscard, LastOnly}
use Rattle.mta_world.proofs.Units.{IsSilent, NoFinish}
use Rattle.mta_world.proofs.Flow.{Place, Between, Behind_pieces, Behind_piece, Skipping, next, after, place, Flows}
use Rattle.mta_world.proofs.Flow.{Order, under-flows}
use Rattle.mta_world.proofs.Talk.{Phase, At_rest, Before, During, Behind, phase, Rest, Begun, Active, Talk, Names}
use Rattle.mta_world.proofs.Talk.{Finish, Genuine}
use Rattle.mta_world.proofs.Moves.{Moves, starts, starts_behind, holds, holds_next, skips_piece, syncs, skips_sync}
use Rattle.mta_world.proofs.Moves.{ends, skips_end, asks, discards, discards_next, discards_held, discards_synced}
use Rattle.mta_world.proofs.Moves.{skips_discard, discards_behind, passes_accept, passes_other, before_it, behind_it}
use Rattle.mta_world.proofs.Moves.{moves-each, moves-last, moves-rest, moves-begun}
use Rattle.mta_world.proofs.Order.{Kept, moves-order, moves-upto}
use Rattle.mta_world.proofs.Claims.{Sides, Bad, heard_with, LinkParts, SendParts, CrossParts, Resumed, Discarded, Acked}
use Rattle.mta_world.proofs.Claims.{ResumedApart, is_rest}

-- What is on its way loses units and gains none.
pub record Shrinks (V W : List LaneUnit) : Type 1 where
  pub each : (P : LaneUnit → Type 0) → Each P V → Each P W
  pub last : (h : ℕ) → LastOnly h V → LastOnly h W
  pub none : V ≡ [] → W ≡ []

pub shrinks-same : (V : List LaneUnit) → Shrinks V V
shrinks-same V = record { each = λ P e. e; last = λ h e. e; none = λ e. e }

not_nil : (x : LaneUnit) (xs : List LaneUnit) (A : Type 0) → x ∷ xs ≡ [] → A
not_nil x xs A e = absurd cc

moves-none : (e f : RecvStage) (x : LaneUnit) (U : List LaneUnit) → Moves e x f → before_it e x U ≡ []
    → behind_it f U ≡ []
moves-none e f x U starts g = not_nil _ _ _ g
moves-none e f x U starts_behind g = not_nil _ _ _ g
moves-none e f x U holds g = not_nil _ _ _ g
moves-none e f x U holds_next g = not_nil _ _ _ g
moves-none e f x U skips_piece g = not_nil _ _ _ g
moves-none e f x U syncs g = not_nil _ _ _ g
moves-none e f x U skips_sync g = not_nil _ _ _ g
moves-none e f x U ends g = not_nil _ _ _ g
moves-none e f x U skips_end g = not_nil _ _ _ g
moves-none e f x U asks g = not_nil _ _ _ g
moves-none e f x U discards g = not_nil _ _ _ g
moves-none e f x U discards_next g = not_nil _ _ _ g
moves-none e f x U discards_held g = not_nil _ _ _ g
moves-none e f x U discards_synced g = not_nil _ _ _ g
moves-none e f x U skips_discard g = not_nil _ _ _ g
moves-none e f x U (discards_behind d) g = not_nil _ _ _ g
moves-none e f x U passes_accept g = g
moves-none e f x U passes_other g = g

pub moves-shrinks : (e f : RecvStage) (x : LaneUnit) (U : List LaneUnit) → Moves e x f
    → Shrinks (before_it e x U) (behind_it f U)
moves-shrinks e f x U m = record {
  each = λ P g. moves-each P e f x U m g;
  last = λ h g. moves-last h e f x U m g;
  none = λ g. moves-none e f x U m g;
}

-- Claims over lists alone ------------------------------------------------------------------------------

pub finish-shrinks : (h : ℕ) (stage : SendStage) (V W : List LaneUnit) → Shrinks V W → Finish h stage V
    → Finish h stage W
finish-shrinks h s.Quiet V W g f = tt
finish-shrinks h (s.End_put k n) V W g f = (g.each (NoDiscard h) f.0, g.last h f.1)
finish-shrinks h (s.Discard_put k) V W g f = (g.each (NoEnd h) f.0, g.last h f.1)
finish-shrinks h any1 V W g f = g.each (NoFinish h) f

module _ (p : Sides) where
  pub acked-map : (V W : List LaneUnit) → (((k : ℕ) → Each (NoEnd k) V → Each (NoEnd k) W)) → (x : LaneUnit)
      → Acked p V x → Acked p W x
  acked-map V W f (DiscardAck k) g = λ i e b. f k (g i e b)
  acked-map V W f _ g = tt

  pub apart-map : (V W : List LaneUnit) → (((k : ℕ) → Each (NoDiscard k) V → Each (NoDiscard k) W)) → (x : LaneUnit)
      → ResumedApart p V x → ResumedApart p W x
  apart-map V W f (Resume k n) g = λ b. f k (g b)
  apart-map V W f _ g = tt

  pub cross-shrinks : (x y : ℕ) (stage : SendStage) (D X Y V W : List LaneUnit) (joined : Bool) → Shrinks X Y
      → Shrinks V W
      → CrossParts p x y stage D X joined V → CrossParts p x y stage D Y joined W
  cross-shrinks x y stage D X Y V W joined sx sv c = record {
    discarded = sv.each (Discarded p stage) c.discarded;
    acked = each-map (Acked p V) (Acked p W) D (acked-map V W (λ k. sv.each (NoEnd k))) c.acked;
    apart = λ ne. sx.each (ResumedApart p W)
        (each-map (ResumedApart p V) (ResumedApart p W) X (apart-map V W (λ k. sv.each (NoDiscard k))) (c.apart ne));
    old = λ o j ne. sv.none (c.old o j ne);
  }

  -- A unit is taken -----------------------------------------------------------------------------------

  no-moves : (f : RecvStage) (x : LaneUnit) (U : List LaneUnit) → transfers (x ∷ U) ≡ [] → (e : RecvStage) → e ≡ r.Free
      → Moves e x f → (f ≡ r.Free) × (transfers U ≡ [])
  no-moves f x U g e at starts = not_nil _ _ _ g
  no-moves f x U g e at starts_behind = not_nil _ _ _ g
  no-moves f x U g e at holds = not_nil _ _ _ g
  no-moves f x U g e at holds_next = not_nil _ _ _ g
  no-moves f x U g e at skips_piece = not_nil _ _ _ g
  no-moves f x U g e at syncs = not_nil _ _ _ g
  no-moves f x U g e at skips_sync = not_nil _ _ _ g
  no-moves f x U g e at ends = not_nil _ _ _ g
  no-moves f x U g e at skips_end = not_nil _ _ _ g
  no-moves f x U g e at asks = not_nil _ _ _ g
  no-moves f x U g e at discards = not_nil _ _ _ g
  no-moves f x U g e at discards_next = not_nil _ _ _ g
  no-moves f x U g e at discards_held = not_nil _ _ _ g
  no-moves f x U g e at discards_synced = not_nil _ _ _ g
  no-moves f x U g e at skips_discard = not_nil _ _ _ g
  no-moves f x U g e at (discards_behind d) = not_nil _ _ _ g
  no-moves f x U g e at passes_accept = (at, g)
  no-moves f x U g e at passes_other = (at, g)

  pub take-link : (x : LaneUnit) (U down : List LaneUnit) (send : SendPart) (e f : RecvStage) (a b : Bool) → Moves e x f
      → LinkParts p (x ∷ U) down send e a b → LinkParts p U down send f a b
  take-link x U down send e f a b m l =
      let k : Kept p.size p.octets (Bad p) e f (before_it e x U) (behind_it f U) =
      moves-order p.size p.octets (Bad p) e f x U m l.genuine l.flows in
      record {
        flows = k.flows;
        genuine = k.genuine;
        named = moves-each (UpTo (last_of p.state)) e f x U m l.named;
        stage_named = moves-upto (last_of p.state) e f x U m l.stage_named l.named;
        fresh = λ u. (let o : (e ≡ r.Free) × (transfers (x ∷ U) ≡ []) × Each IsSilent (heard_with send.heard down) =
            l.fresh u in
            let n : (f ≡ r.Free) × (transfers U ≡ []) = no-moves f x U o.1 e o.0 m in (n.0, n.1, o.2));
        not_joined = l.not_joined;
        not_on = l.not_on;
      }

  moves-active : (h : ℕ) (q : Phase) (e f : RecvStage) (x : LaneUnit) (U D : List LaneUnit) → Moves e x f
      → Active (Bad p) h q e (before_it e x U) D → Active (Bad p) h q f (behind_it f U) D
  moves-active h q e f x U D m a =
      elim a [
        | inl b ↦ inl (moves-begun (Bad p) h U e f x m b.0, b.1)
        | inr c ↦ inr (moves-rest (Bad p) (h + 1) e f x U m c.0, c.1, c.2)
      ]

  moves-talk : (h : ℕ) (q : Phase) (e f : RecvStage) (x : LaneUnit) (U D : List LaneUnit) → Moves e x f
      → Talk (Bad p) h q e (before_it e x U) D → Talk (Bad p) h q f (behind_it f U) D
  moves-talk h At_rest e f x U D m t = (moves-rest (Bad p) (h + 1) e f x U m t.0, t.1)
  moves-talk h Before e f x U D m t = (moves-rest (Bad p) h e f x U m t.0, t.1)
  moves-talk h During e f x U D m t = moves-active h During e f x U D m t
  moves-talk h Behind e f x U D m t = moves-active h Behind e f x U D m t

  pub take-send : (x : LaneUnit) (U D : List LaneUnit) (stage : SendStage) (e f : RecvStage) → Moves e x f
      → Genuine p.size p.octets (Bad p) e → Flows p.size p.octets (place e) (before_it e x U)
      → SendParts p stage D (before_it e x U) e → SendParts p stage D (behind_it f U) f
  take-send x U D stage e f m g fl o =
      let k : Kept p.size p.octets (Bad p) e f (before_it e x U) (behind_it f U) =
      moves-order p.size p.octets (Bad p) e f x U m g fl in
      record {
        idle = o.idle;
        names = o.names;
        talk = moves-talk (last_of p.state) (phase stage) e f x U D m o.talk;
        finish = finish-shrinks (last_of p.state) stage _ _ (moves-shrinks e f x U m) o.finish;
        cut = o.cut;
        order = subst (λ (z : Place). Order stage D z) (sym k.ends_there) o.order;
        truth = o.truth;
        resumed = moves-each (Resumed p) e f x U m o.resumed;
        stands = o.stands;
      }
  -- Octets are found faulty -----------------------------------------------------------------------------

pub data Finds : RecvStage → RecvStage → ℕ → Type 0 where
  at_piece : {k n : ℕ} {o : List ℕ} → Finds (r.Held k n o) (r.Found k) k
  at_sync : {k n : ℕ} {o : List ℕ} → Finds (r.Synced k n o) (r.Found k) k
  at_end : {k n : ℕ} {o : List ℕ} → Finds (r.Ended k n o) (r.Found k) k

pub finds-shrinks : (e f : RecvStage) (k : ℕ) (T : List LaneUnit) → Finds e f k
    → Shrinks (pending e ++ T) (pending f ++ T)
finds-shrinks e f k T at_piece = shrinks-same T
finds-shrinks e f k T at_sync = shrinks-same T
finds-shrinks e f k T (at_end {k = j}) =
    record { each = λ P g. g.1; last = λ h g. g.1; none = λ g. not_nil (End j) T _ g }

finds-flow : (size : ℕ) (octets : ℕ → List ℕ) (e f : RecvStage) (k : ℕ) (T : List LaneUnit) → Finds e f k
    → Flows size octets (place e) (pending e ++ T) → Flows size octets (place f) (pending f ++ T)
finds-flow size octets e f k T (at_piece {n = n}) g =
    (under-flows size octets (Behind_piece k n) (Skipping k) T (inr (k, refl, refl)) g).0
finds-flow size octets e f k T (at_sync {n = n}) g =
    (under-flows size octets (Behind_pieces k n) (Skipping k) T (inr (k, refl, refl)) g).0
finds-flow size octets e f k T at_end g = (under-flows size octets Between (Skipping k) T (inr (k, refl, tt)) g.1).0

finds-named : (h : ℕ) (e f : RecvStage) (k : ℕ) → Finds e f k → StageUpTo h e → StageUpTo h f
finds-named h e f k at_piece g = g
finds-named h e f k at_sync g = g
finds-named h e f k at_end g = g

finds-bad : (size : ℕ) (octets : ℕ → List ℕ) (bad : ℕ → Type 0) (e f : RecvStage) (k : ℕ) → Finds e f k → bad k
    → Genuine size octets bad f
finds-bad size octets bad e f k at_piece b = b
finds-bad size octets bad e f k at_sync b = b
finds-bad size octets bad e f k at_end b = b

finds-free : (e f : RecvStage) (k : ℕ) (A : Type 0) → Finds e f k → e ≡ r.Free → A
finds-free e f k A at_piece g = absurd cc
finds-free e f k A at_sync g = absurd cc
finds-free e f k A at_end g = absurd cc

-- what is left of a transfer that is skipped is skipped
own-skips : (h : ℕ) (T : List LaneUnit) → Each (Own h) T → after (Skipping h) T ≡ Skipping h
own-skips h [] g = refl
own-skips h (Start k ∷ T) g = absurd g.0
own-skips h (Resume k n ∷ T) g = absurd g.0
own-skips h (Discard k ∷ T) g =
    let to : next (Skipping h) (Discard k) ≡ Skipping h = rw (eq-eqb k h g.0) refl in
    ap (λ (z : Place). after z T) to ∙ own-skips h T g.1
own-skips h (_ ∷ T) g = own-skips h T g.1

skip-order : (h : ℕ) (stage : SendStage) (D : List LaneUnit) → Names h stage → is_rest (phase stage) ≡ false
    → Order stage D (Skipping h)
skip-order h s.Quiet D na e = absurd cc
skip-order h (s.Next k n) D na e = inr (h, refl, na)
skip-order h (s.Sync_next k n) D na e = inr (h, refl, na)
skip-order h (s.Last_put k n) D na e = inr (h, refl, na)
skip-order h (s.Resume_put k n) D na e = inr (inr (inr (h, refl, na)))
skip-order h any1 D na e = inr (h, refl, tt)

module _ (bad : ℕ → Type 0) (h : ℕ) where
  -- a transfer in which octets are faulty is that of h
  pub record FoundIn (q : Phase) (k : ℕ) (f : RecvStage) (W D : List LaneUnit) : Type 0 where
    pub same : k ≡ h
    pub own : Each (Own h) W
    pub talk : Talk bad h q f W D
    pub active : is_rest q ≡ false

  found-rest : (i : ℕ) (q : Phase) (e f : RecvStage) (k : ℕ) (T D : List LaneUnit) (A : Type 0) → Finds e f k
      → Rest bad i e (pending e ++ T) → A
  found-rest i q e f k T D A at_piece t = absurd t.0
  found-rest i q e f k T D A at_sync t = absurd t.0
  found-rest i q e f k T D A at_end t = absurd t.0

  found-begun : (e f : RecvStage) (k : ℕ) (T : List LaneUnit) → Finds e f k → Begun bad h e (pending e ++ T) → (k ≡ h)
      × Each (Own h) (pending f ++ T) × Begun bad h f (pending f ++ T)
  found-begun e f k T at_piece b = elim b [ inl z ↦ (z.0, z.1, inl (z.0, z.1)) | inr z ↦ absurd z.0 ]
  found-begun e f k T at_sync b = elim b [ inl z ↦ (z.0, z.1, inl (z.0, z.1)) | inr z ↦ absurd z.0 ]
  found-begun e f k T at_end b = elim b [ inl z ↦ (z.0, z.1.1, inl (z.0, z.1.1)) | inr z ↦ absurd z.0 ]

  pub found-talk : (q : Phase) (e f : RecvStage) (k : ℕ) (T D : List LaneUnit) → Finds e f k
      → Talk bad h q e (pending e ++ T) D → FoundIn q k f (pending f ++ T) D
  found-talk At_rest e f k T D m t = found-rest (h + 1) At_rest e f k T D _ m t.0
  found-talk Before e f k T D m t = found-rest h Before e f k T D _ m t.0
  found-talk During e f k T D m t =
      elim t [
        | inl b ↦ (let g : (k ≡ h) × Each (Own h) (pending f ++ T) × Begun bad h f (pending f ++ T) =
            found-begun e f k T m b.0 in record { same = g.0; own = g.1; talk = inl (g.2, b.1); active = refl })
        | inr c ↦ found-rest (h + 1) During e f k T D _ m c.0
      ]
  found-talk Behind e f k T D m t =
      elim t [
        | inl b ↦ (let g : (k ≡ h) × Each (Own h) (pending f ++ T) × Begun bad h f (pending f ++ T) =
            found-begun e f k T m b.0 in record { same = g.0; own = g.1; talk = inl (g.2, b.1); active = refl })
        | inr c ↦ found-rest (h + 1) Behind e f k T D _ m c.0
      ]

finds-place : (e f : RecvStage) (k : ℕ) → Finds e f k → place f ≡ Skipping k
finds-place e f k at_piece = refl
finds-place e f k at_sync = refl
finds-place e f k at_end = refl

module _ (p : Sides) where
  pub find-link : (U down : List LaneUnit) (send : SendPart) (e f : RecvStage) (k : ℕ) (a b : Bool) → Finds e f k
      → Bad p k
      → LinkParts p U down send e a b → LinkParts p U down send f a b
  find-link U down send e f k a b m bk l = record {
    flows = finds-flow p.size p.octets e f k (transfers U) m l.flows;
    genuine = finds-bad p.size p.octets (Bad p) e f k m bk;
    named = (finds-shrinks e f k (transfers U) m).each (UpTo (last_of p.state)) l.named;
    stage_named = finds-named (last_of p.state) e f k m l.stage_named;
    fresh = λ u. finds-free e f k _ m (l.fresh u).0;
    not_joined = l.not_joined;
    not_on = l.not_on;
  }

  pub find-send : (T D : List LaneUnit) (stage : SendStage) (e f : RecvStage) (k : ℕ) → Finds e f k
      → SendParts p stage D (pending e ++ T) e → SendParts p stage D (pending f ++ T) f
  find-send T D stage e f k m o =
      let h : ℕ = last_of p.state in
      let g : FoundIn (Bad p) h (phase stage) k f (pending f ++ T) D =
      found-talk (Bad p) h (phase stage) e f k T D m o.talk in
      let at : after (place f) (pending f ++ T) ≡ Skipping h =
      ap (λ (z : Place). after z (pending f ++ T)) (finds-place e f k m ∙ ap (λ (z : ℕ). Skipping z) g.same)
      ∙ own-skips h (pending f ++ T) g.own in
      record {
        idle = o.idle;
        names = o.names;
        talk = g.talk;
        finish = finish-shrinks h stage _ _ (finds-shrinks e f k T m) o.finish;
        cut = o.cut;
        order = subst (λ (z : Place). Order stage D z) (sym at) (skip-order h stage D o.names g.active);
        truth = o.truth;
        resumed = (finds-shrinks e f k T m).each (Resumed p) o.resumed;
        stands = o.stands;
      }
