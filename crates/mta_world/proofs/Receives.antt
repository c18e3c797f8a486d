-- The receiving end's half makes a step: what stays true.
use Rattle.std.proofs.Common.{◌≡◌, ◌⊎◌, ◌≤◌, ℕ, suc, ◌+◌, ◌-◌, ◌==◌, ◌&&◌, Bool, true, false, nat_le, ◌*◌, length}
use Rattle.std.proofs.Common.{if◌then◌else◌, List, [], ◌∷◌, ◌++◌, take, drop, refl, sym, ◌∙◌, ap, subst, arith, inl}
use Rattle.std.proofs.Common.{inr}
use Rattle.std.proofs.lemmas.Bool.{eqb-true, and_parts}
use Rattle.mta_lane_send.specs.Half.{last_of, is_idle, confirmed_of}
use Rattle.mta_lane_recv.specs.declared.state.Last.{Last}
use Rattle.mta_lane_recv.specs.declared.state.Last.TheVariants as last
use Rattle.mta_lane_recv.specs.Half.{is_done, is_partial_of, takes_piece}
use Rattle.mta_transfer_rules.specs.Units.{LaneUnit, Start, Piece, Sync, End, Resume, Discard, SyncAck, EndAck}
use Rattle.mta_transfer_rules.specs.Units.{ResumeAck, DiscardAck, Exception, Completed, Unrecognized, CannotRecover}
use Rattle.mta_transfer_rules.specs.Units.{Accept, Other}
use Rattle.mta_transfer_rules.specs.Pieces.{piece_of, is_last, octets_with}
use Rattle.mta_transfer_rules.specs.Sending.{SendStage, is_dropping}
use Rattle.mta_transfer_rules.specs.Receiving as r
use Rattle.mta_transfer_rules.specs.Receiving.{RecvStage}
use Rattle.mta_world.specs.World.{Message, SendPart}
use Rattle.mta_world.specs.Agrees.{IsAmong}
use Rattle.mta_world.specs.Steps.{SpellsNothing}
use Rattle.mta_world.proofs.Units.{Each, each-map, each-both, Own, Leftover, HasBegin, Opens, NoEnd}
use Rattle.mta_world.proofs.Flow.{after}
use Rattle.mta_world.proofs.Talk.{Phase, At_rest, Before, During, Behind, phase, Active, Talk}
use Rattle.mta_world.proofs.Octets.{firsts, firsts-next, whole, front}
use Rattle.mta_world.proofs.Durable.{EachOf, each_of-map, each_of-snoc, among-last, Receives, GoesOn, done-below}
use Rattle.mta_world.proofs.Claims.{Sides, Bad, Good, StandsSome, LinkParts, SendParts, CrossParts, Truth, Resumed}
use Rattle.mta_world.proofs.Claims.{Ended, Discarded, Acked, ResumedApart, IsGoing}

-- The half itself -------------------------------------------------------------------------------------------

module _ (spells : List ℕ → Bool) (size : ℕ) (octets : ℕ → List ℕ) (top high : ℕ) (l : Last) (pieces : List (List ℕ))
    (completed : List Message) (o : Receives spells size octets top high l pieces completed) where
  below-more : (k : ℕ) → high ≤ k → EachOf (λ m. (spells (octets m.activity) ≡ true) × (m.activity ≤ k)) completed
  below-more k le =
      each_of-map (λ m. (spells (octets m.activity) ≡ true) × (m.activity ≤ high))
      (λ m. (spells (octets m.activity) ≡ true) × (m.activity ≤ k)) completed
      (λ m g. (g.0, (let b : m.activity ≤ high = g.1 in omega (arith, b, le)))) o.done_ones

  pub not-among : (k m : ℕ) → GoesOn size octets high l pieces completed k m → IsAmong k completed → ⊥
  not-among k m g a = g.not_done (λ j b. done-below spells size octets top high l pieces completed o j b) a

  pub secured : (k m : ℕ) (piece : List ℕ) → GoesOn size octets high l pieces completed k m → k ≤ top
      → piece ≡ piece_of size (octets k) (suc m) → is_last size (octets k) (suc m) ≡ false
      → Receives spells size octets top k (last.Partial k (suc m)) (take (suc m - 1) pieces ++ piece ∷ []) completed
  secured k m piece g le cut part =
      let less : suc m - 1 ≡ m = omega arith in
      record {
        high_below = le;
        held = (
          refl,
          omega arith,
          part,
          ap (λ (z : ℕ). take z pieces ++ piece ∷ []) less
              ∙ ap (λ (z : List (List ℕ)). z ++ piece ∷ []) g.front_part
              ∙ ap (λ (z : List ℕ). firsts size (octets k) m ++ z ∷ []) cut
              ∙ sym (firsts-next size (octets k) m),
          not-among k m g,
        );
        done_ones = below-more k g.above;
      }

  pub whole-octets : (k m : ℕ) (piece : List ℕ) → GoesOn size octets high l pieces completed k m
      → piece ≡ piece_of size (octets k) (suc m) → is_last size (octets k) (suc m) ≡ true
      → octets_with pieces (suc m) piece ≡ octets k
  whole-octets k m piece g cut end = whole size (octets k) pieces piece m g.front_part g.one_piece cut end

  -- octets that are found faulty are those of a bad activity
  pub front-bad : (k m : ℕ) (piece : List ℕ) → GoesOn size octets high l pieces completed k m
      → piece ≡ piece_of size (octets k) (suc m) → is_last size (octets k) (suc m) ≡ false
      → SpellsNothing spells (octets_with pieces (suc m) piece) → spells (octets k) ≡ false
  front-bad k m piece g cut part none = by_size (size == 0) refl
    where
      by_size : (b : Bool) → (size == 0) ≡ b → spells (octets k) ≡ false
      by_size true e = absurd (let c : (if true then true else nat_le (length (octets k)) (size * suc m)) ≡ false =
          subst (λ (b : Bool). (if b then true else nat_le (length (octets k)) (size * suc m)) ≡ false) e part in
          let d : true ≡ false = c in cc)
      by_size false e = sym (ap spells (front size (octets k) pieces piece m g.front_part e cut))
          ∙ none (drop (size * suc m) (octets k))

  pub completed_by : (k : ℕ) (octets_of_it : List ℕ) → high ≤ k → k ≤ top → spells (octets k) ≡ true
      → Receives spells size octets top k (last.Done k) [] (completed ++ record { activity = k; octets = octets_of_it }
      ∷ [])
  completed_by k oct above le good = record {
    high_below = le;
    held = (refl, among-last k completed _ refl);
    done_ones = each_of-snoc (λ m. (spells (octets m.activity) ≡ true) × (m.activity ≤ k)) completed _
        (below-more k above) (good, omega arith);
  }

  pub dropped : Receives spells size octets top high last.None [] completed
  dropped = record { high_below = o.high_below; held = tt; done_ones = o.done_ones }

-- The sending end's newest link ---------------------------------------------------------------------------------

abbrev pub with_last : Sides → Last → List Message → Sides
with_last p l ms = record p { last = l; completed = ms }

module _ (p : Sides) (l : Last) (ms : List Message) where
  -- what is dropped is not complete yet
  abbrev pub Still : LaneUnit → Type 0
  Still (DiscardAck j) = j ≡ last_of p.state → Good p (last_of p.state) → IsAmong (last_of p.state) ms → ⊥
  Still _ = Unit {0}

  truth-last : (a : SendStage) → ((j : ℕ) → IsAmong j p.completed → IsAmong j ms)
      → (is_dropping p.state ≡ false → IsGoing a → Good p (last_of p.state) → StandsSome p.last (last_of p.state)
      → StandsSome l (last_of p.state))
      → (x : LaneUnit) → Truth p a x → Still x → Truth (with_last p l ms) a x
  truth-last a more keep (EndAck j) t st = more j t
  truth-last a more keep Completed t st = more (last_of p.state) t
  truth-last a more keep (DiscardAck j) t st = λ e. ((t e).0, st e)
  truth-last a more keep (SyncAck n) t st = λ nd go gd. keep nd go gd (t nd go gd)
  truth-last a more keep Exception t st = t
  truth-last a more keep Unrecognized t st = t
  truth-last a more keep CannotRecover t st = t
  truth-last a more keep any3 t st = tt

  pub relast : (a : SendStage) (D V : List LaneUnit) (f : RecvStage) → ((j : ℕ) → IsAmong j p.completed → IsAmong j ms)
      → (is_dropping p.state ≡ false → IsGoing a → Good p (last_of p.state) → StandsSome p.last (last_of p.state)
      → StandsSome l (last_of p.state))
      → (is_idle p.state ≡ false → Each Still D) → (Each (Resumed p) V → Each (Resumed (with_last p l ms)) V)
      → (1 ≤ confirmed_of p.state → Good p (last_of p.state) → StandsSome p.last (last_of p.state)
      → StandsSome l (last_of p.state))
      → SendParts p a D V f → SendParts (with_last p l ms) a D V f
  relast a D V f more keep still res stands o = record {
    idle = o.idle;
    names = o.names;
    talk = o.talk;
    finish = o.finish;
    cut = o.cut;
    order = o.order;
    truth = λ i. each-both (Truth p a) Still (Truth (with_last p l ms) a) D (truth-last a more keep) (o.truth i)
        (still i);
    resumed = res o.resumed;
    stands = λ c g. stands c g (o.stands c g);
  }

  pub resumed-last : (StandsSome p.last (last_of p.state) → Good p (last_of p.state) → StandsSome l (last_of p.state))
      → (x : LaneUnit) → Resumed p x → Resumed (with_last p l ms) x
  resumed-last keep (Resume j n) g = λ i e gd.
      subst (λ (z : ℕ). StandsSome l z) (sym e)
      (keep (subst (λ (z : ℕ). StandsSome p.last z) e (g i e gd)) (subst (λ (z : ℕ). Good p z) e gd))
  resumed-last keep _ g = tt

  pub ended-last : ((j : ℕ) → IsAmong j p.completed → IsAmong j ms) → (x : LaneUnit) → Ended p x
      → Ended (with_last p l ms) x
  ended-last more (End j) g = λ gd. elim (g gd) [ inl z ↦ inl z | inr a ↦ inr (more j a) ]
  ended-last more _ g = tt

  -- an activity of which no End is on its way is not completed now
  pub still-acked : (W : List LaneUnit) → (Good p (last_of p.state) → IsAmong (last_of p.state) p.completed → ⊥)
      → (Good p (last_of p.state) → Each (NoEnd (last_of p.state)) W → IsAmong (last_of p.state) ms → ⊥)
      → is_idle p.state ≡ false → (x : LaneUnit) → Acked p W x → Still x
  still-acked W before after i (DiscardAck j) g =
      λ e gd am. after gd (subst (λ (z : ℕ). Each (NoEnd z) W) e (g i e (subst (λ (z : ℕ). Good p z) (sym e) gd))) am
  still-acked W before after i any4 g = tt

  -- nothing was added
  pub still-same : (ms ≡ p.completed) → (a : SendStage) (x : LaneUnit) → Truth p a x → Still x
  still-same e a (DiscardAck j) t =
      λ s gd am. (t s).1 gd (subst (λ (z : List Message). IsAmong (last_of p.state) z) e am)
  still-same e a any2 t = tt

  pub discarded-last : (a : SendStage) (x : LaneUnit) → Discarded p a x → Discarded (with_last p l ms) a x
  discarded-last a (Discard j) g = g
  discarded-last a _ g = tt

  acked-last : (W : List LaneUnit) (x : LaneUnit) → Acked p W x → Acked (with_last p l ms) W x
  acked-last W (DiscardAck j) g = g
  acked-last W _ g = tt

  apart-last : (W : List LaneUnit) (x : LaneUnit) → ResumedApart p W x → ResumedApart (with_last p l ms) W x
  apart-last W (Resume j n) g = g
  apart-last W _ g = tt

  pub cross-last : (x y : ℕ) (a : SendStage) (D X : List LaneUnit) (joined : Bool) (V : List LaneUnit)
      → CrossParts p x y a D X joined V → CrossParts (with_last p l ms) x y a D X joined V
  cross-last x y a D X joined V c = record {
    discarded = each-map (Discarded p a) (Discarded (with_last p l ms) a) V (discarded-last a) c.discarded;
    acked = each-map (Acked p V) (Acked (with_last p l ms) V) D (acked-last V) c.acked;
    apart = λ ne. each-map (ResumedApart p V) (ResumedApart (with_last p l ms) V) X (apart-last V) (c.apart ne);
    old = c.old;
  }

  pub link-last : (U down : List LaneUnit) (send : SendPart) (e : RecvStage) (a b : Bool)
      → LinkParts p U down send e a b → LinkParts (with_last p l ms) U down send e a b
  link-last U down send e a b g = record {
    flows = g.flows;
    genuine = g.genuine;
    named = g.named;
    stage_named = g.stage_named;
    fresh = g.fresh;
    not_joined = g.not_joined;
    not_on = g.not_on;
  }

-- a piece that is taken keeps what stands
pub stands-same : (high : ℕ) (l : Last) (k n h : ℕ) → takes_piece high l k n ≡ true → (is_done l h ≡ true → ⊥)
    → StandsSome l h → k ≡ h
stands-same high last.None k n h t nd st = elim st [ inl e ↦ absurd cc | inr e ↦ absurd cc ]
stands-same high (last.Done j) k n h t nd st = elim st [ inl e ↦ absurd cc | inr e ↦ absurd (nd e) ]
stands-same high (last.Partial j q) k n h t nd st =
    elim st [
      | inl e ↦ eqb-true k j (and_parts (k == j) (nat_le 1 n)
          (and_parts ((k == j) && nat_le 1 n) (nat_le n (q + 1)) t).0).0 ∙ sym (eqb-true h j e)
      | inr e ↦ absurd cc
    ]

-- a part is of one activity
pub part-same : (l : Last) (k h : ℕ) → is_partial_of l k ≡ true → StandsSome l h → k ≡ h
part-same (last.Partial j q) k h e st = elim st [ inl g ↦ eqb-true k j e ∙ sym (eqb-true h j g) | inr g ↦ absurd cc ]
part-same any0 k h e st = absurd cc

pub part-not_done : (l : Last) (k h : ℕ) → is_partial_of l k ≡ true → is_done l h ≡ true → ⊥
part-not_done last.None k h e g = cc
part-not_done any0 k h e g = cc

-- The stage of a piece that is made durable
module _ (p : Sides) where
  secure-talk : (h : ℕ) (q : Phase) (k n : ℕ) (o : List ℕ) (V D : List LaneUnit) → Talk (Bad p) h q (r.Synced k n o) V D
      → Talk (Bad p) h q (r.Next k n) V D
  secure-talk h During k n o V D t =
      elim t [ inl b ↦ inl (elim b.0 [ inl z ↦ inl z | inr z ↦ absurd z.0 ], b.1) | inr c ↦ absurd c.0.0 ]
  secure-talk h Behind k n o V D t =
      elim t [ inl b ↦ inl (elim b.0 [ inl z ↦ inl z | inr z ↦ absurd z.0 ], b.1) | inr c ↦ absurd c.0.0 ]
  secure-talk h any1 k n o V D t = absurd t.0.0

  pub secure-send : (a : SendStage) (D V : List LaneUnit) (k n : ℕ) (o : List ℕ) → SendParts p a D V (r.Synced k n o)
      → SendParts p a D V (r.Next k n)
  secure-send a D V k n o g = record {
    idle = g.idle;
    names = g.names;
    talk = secure-talk (last_of p.state) (phase a) k n o V D g.talk;
    finish = g.finish;
    cut = g.cut;
    order = g.order;
    truth = g.truth;
    resumed = g.resumed;
    stands = g.stands;
  }

  pub secure-link : (U down : List LaneUnit) (send : SendPart) (k n : ℕ) (o : List ℕ) (a b : Bool)
      → LinkParts p U down send (r.Synced k n o) a b → LinkParts p U down send (r.Next k n) a b
  secure-link U down send k n o a b g = record {
    flows = g.flows;
    genuine = tt;
    named = g.named;
    stage_named = g.stage_named;
    fresh = λ u. absurd (let e : r.Synced k n o ≡ r.Free = (g.fresh u).0 in cc);
    not_joined = g.not_joined;
    not_on = g.not_on;
  }

  -- behind a Discard that is to be answered nothing is resumed
  no-resume : (x : LaneUnit) → Own (last_of p.state) x → Resumed p x → Unit {0}
  no-resume x o g = tt

  own-resumed : (l : Last) (ms : List Message) (h : ℕ) (x : LaneUnit) → Own h x → Resumed (with_last p l ms) x
  own-resumed l ms h (Resume j n) o = absurd o
  own-resumed l ms h _ o = tt

  left-resumed : (l : Last) (ms : List Message) (i : ℕ) (x : LaneUnit) → Leftover (Bad p) i x
      → Resumed (with_last p l ms) x
  left-resumed l ms i (Resume j n) o = absurd o
  left-resumed l ms i _ o = tt

  pub discard-resumed : (l : Last) (ms : List Message) (h : ℕ) (q : Phase) (k : ℕ) (T D : List LaneUnit) → (Bad p k → ⊥)
      → Talk (Bad p) h q (r.Discards k) (Discard k ∷ T) D → Each (Resumed (with_last p l ms)) (Discard k ∷ T)
  discard-resumed l ms h q k T D nb t = by_phase q t
    where
      active : (q : Phase) → Active (Bad p) h q (r.Discards k) (Discard k ∷ T) D
          → Each (Resumed (with_last p l ms)) (Discard k ∷ T)
      active q a =
          elim a [
            | inl b ↦ elim b.0 [
              | inl z ↦ absurd z.0
              | inr z ↦ (let fr : (Opens h (Discard k) × Each (Own h) T)
                  ⊎ (Leftover (Bad p) h (Discard k) × HasBegin (Bad p) h T) = z.1 in
                  elim fr [
                    | inl y ↦ (tt, each-map (Own h) (Resumed (with_last p l ms)) T (own-resumed l ms h) y.1)
                    | inr y ↦ absurd (nb y.0.1)
                  ])
            ]
            | inr c ↦ absurd (nb c.0.1.0.1)
          ]

      by_phase : (q : Phase) → Talk (Bad p) h q (r.Discards k) (Discard k ∷ T) D
          → Each (Resumed (with_last p l ms)) (Discard k ∷ T)
      by_phase During t = active During t
      by_phase Behind t = active Behind t
      by_phase any0 t = absurd (nb t.0.1.0.1)
