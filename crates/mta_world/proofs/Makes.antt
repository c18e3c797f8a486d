-- The sending end's half makes a step: what stays true.
use Rattle.std.proofs.Common.{◌≡◌, ◌⊎◌, ◌<◌, ◌≤◌, ℕ, ◌+◌, Bool, true, false, None, List, ◌∷◌, refl, sym, ◌∙◌, ap, subst}
use Rattle.std.proofs.Common.{arith, inl, inr}
use Rattle.std.proofs.lemmas.Bool.{eqb-true}
use Rattle.mta_lane_send.specs.declared.state.SendState.{SendState}
use Rattle.mta_lane_send.specs.declared.state.SendState.TheVariants as state
use Rattle.mta_lane_send.specs.Half.{last_of, is_idle, is_live, is_ending, confirmed_of, confirmed_at}
use Rattle.mta_transfer_rules.specs.Units.{LaneUnit, Start, Piece, Sync, End, Resume, Discard, SyncAck, EndAck}
use Rattle.mta_transfer_rules.specs.Units.{ResumeAck, DiscardAck, Exception, Completed, Unrecognized, CannotRecover}
use Rattle.mta_transfer_rules.specs.Units.{Accept, Other}
use Rattle.mta_transfer_rules.specs.Sending as s
use Rattle.mta_transfer_rules.specs.Sending.{SendStage, is_dropping, synced}
use Rattle.mta_transfer_rules.specs.Receiving as r
use Rattle.mta_transfer_rules.specs.Receiving.{RecvStage}
use Rattle.mta_world.specs.World.{SendPart}
use Rattle.mta_world.specs.Agrees.{IsAmong}
use Rattle.mta_world.proofs.Units.{Each, each-map, each-both, UpTo, StageUpTo, Leftover, NoEnd, NoFinish, Ends, Clean}
use Rattle.mta_world.proofs.Units.{IsSilent}
use Rattle.mta_world.proofs.Talk.{phase, Rest, Talk, Names, Finish}
use Rattle.mta_world.proofs.Sends.{ending-last, settle-talk, rest-order}
use Rattle.mta_world.proofs.Speaks.{clean-truth}
use Rattle.mta_world.proofs.Claims.{Sides, Bad, Good, StandsSome, NoAccept, unheard, ups, LinkParts, SendParts}
use Rattle.mta_world.proofs.Claims.{CrossParts, Truth, TruthOf, Resumed, Ended, Discarded, Acked, ResumedApart}
use Rattle.mta_world.proofs.Claims.{IsDoomed, IsFirst, IsGoing, is_rest}

abbrev pub with_state : Sides → SendState → Sides
with_state p st = record p { state = st }

module _ (p : Sides) where
  -- Any link ------------------------------------------------------------------------------------------

  upto-more : (h i : ℕ) → h ≤ i → (x : LaneUnit) → UpTo h x → UpTo i x
  upto-more h i le (Start k) g = omega (arith, le, g)
  upto-more h i le (End k) g = omega (arith, le, g)
  upto-more h i le (Resume k n) g = omega (arith, le, g)
  upto-more h i le (Discard k) g = omega (arith, le, g)
  upto-more h i le _ g = tt

  stage-more : (h i : ℕ) → h ≤ i → (e : RecvStage) → StageUpTo h e → StageUpTo i e
  stage-more h i le r.Free g = tt
  stage-more h i le any3 g = omega (arith, le, g)

  pub link-state : (st : SendState) (U down : List LaneUnit) (send : SendPart) (e : RecvStage) (a b : Bool)
      → last_of p.state ≤ last_of st
      → LinkParts p U down send e a b → LinkParts (with_state p st) U down send e a b
  link-state st U down send e a b le l = record {
    flows = l.flows;
    genuine = l.genuine;
    named = each-map (UpTo (last_of p.state)) (UpTo (last_of st)) (ups e U)
        (upto-more (last_of p.state) (last_of st) le) l.named;
    stage_named = stage-more (last_of p.state) (last_of st) le e l.stage_named;
    fresh = l.fresh;
    not_joined = l.not_joined;
    not_on = l.not_on;
  }

  -- what was heard is forgotten, and the stage moves
  pub link-forgets : (U down : List LaneUnit) (send : SendPart) (b : SendStage) (e : RecvStage) (sj rj : Bool)
      → LinkParts p U down send e sj rj
      → LinkParts p U down (record { accepted = send.accepted; stage = b; heard = None }) e sj rj
  link-forgets U down send b e sj rj l = record {
    flows = l.flows;
    genuine = l.genuine;
    named = l.named;
    stage_named = l.stage_named;
    fresh = λ u. (
      (l.fresh u).0,
      (l.fresh u).1,
      unheard (λ (D : List LaneUnit). Each IsSilent D) (λ x D g. g.1) send.heard down (l.fresh u).2,
    );
    not_joined = λ so u. (
      (l.not_joined so u).0,
      unheard (λ (D : List LaneUnit). Each NoAccept D) (λ x D g. g.1) send.heard down (l.not_joined so u).1,
    );
    not_on = l.not_on;
  }

  -- The newest link of the sending end -------------------------------------------------------------------

  truth-dropping : (h : ℕ) (d d' : Bool) (a : SendStage) → (d' ≡ false → d ≡ false) → (x : LaneUnit) → TruthOf p h d a x
      → TruthOf p h d' a x
  truth-dropping h d d' a f (SyncAck n) t = λ nd go gd. t (f nd) go gd
  truth-dropping h d d' a f (EndAck k) t = t
  truth-dropping h d d' a f (DiscardAck k) t = t
  truth-dropping h d d' a f Exception t = t
  truth-dropping h d d' a f Completed t = t
  truth-dropping h d d' a f Unrecognized t = t
  truth-dropping h d d' a f CannotRecover t = t
  truth-dropping h d d' a f _ t = tt

  truth-with : (st : SendState) (h : ℕ) (d : Bool) (a : SendStage) (x : LaneUnit) → TruthOf p h d a x
      → TruthOf (with_state p st) h d a x
  truth-with st h d a (SyncAck n) t = t
  truth-with st h d a (EndAck k) t = t
  truth-with st h d a (DiscardAck k) t = t
  truth-with st h d a Exception t = t
  truth-with st h d a Completed t = t
  truth-with st h d a Unrecognized t = t
  truth-with st h d a CannotRecover t = t
  truth-with st h d a _ t = tt

  resumed-with : (st : SendState) → last_of st ≡ last_of p.state → is_idle st ≡ is_idle p.state → (x : LaneUnit)
      → Resumed p x → Resumed (with_state p st) x
  resumed-with st e i (Resume k n) g = λ live same gd. g (sym i ∙ live) (same ∙ e) gd
  resumed-with st e i _ g = tt

  -- the activity stays under way
  pub restate : (st : SendState) (a : SendStage) (D V : List LaneUnit) (f : RecvStage) → last_of st ≡ last_of p.state
      → is_idle st ≡ is_idle p.state → (is_dropping st ≡ false → is_dropping p.state ≡ false)
      → (1 ≤ confirmed_of st → Good p (last_of st) → StandsSome p.last (last_of st)) → SendParts p a D V f
      → SendParts (with_state p st) a D V f
  restate st a D V f e i d g o = record {
    idle = i ∙ o.idle;
    names = subst (λ (h : ℕ). Names h a) (sym e) o.names;
    talk = subst (λ (h : ℕ). Talk (Bad p) h (phase a) f V D) (sym e) o.talk;
    finish = subst (λ (h : ℕ). Finish h a V) (sym e) o.finish;
    cut = o.cut;
    order = o.order;
    truth = λ live.
        subst (λ (h : ℕ). Each (TruthOf (with_state p st) h (is_dropping st) a) D) (sym e)
        (each-map (TruthOf p (last_of p.state) (is_dropping p.state) a)
        (TruthOf (with_state p st) (last_of p.state) (is_dropping st) a) D
        (λ x t. truth-with st (last_of p.state) (is_dropping st) a x
        (truth-dropping (last_of p.state) (is_dropping p.state) (is_dropping st) a d x t))
        (o.truth (sym i ∙ live)));
    resumed = each-map (Resumed p) (Resumed (with_state p st)) V (resumed-with st e i) o.resumed;
    stands = g;
  }

  left-resumed : (st : SendState) (i : ℕ) (x : LaneUnit) → Leftover (Bad p) i x → Resumed (with_state p st) x
  left-resumed st i (Resume k n) l = absurd l
  left-resumed st i _ l = tt

  left-finish : (i : ℕ) (x : LaneUnit) → Leftover (Bad p) i x → NoFinish i x
  left-finish i (End k) l = λ e. omega (arith, l.0, e)
  left-finish i (Discard k) l = λ e. omega (arith, l.0, e)
  left-finish i _ l = λ e. e

  -- the activity is settled by an answer
  pub settled : (a : SendStage) (x : LaneUnit) (D V : List LaneUnit) (f : RecvStage) → is_idle p.state ≡ false
      → Ends (last_of p.state) x
      → SendParts p a (x ∷ D) V f → SendParts (with_state p (state.Idle (last_of p.state))) s.Quiet D V f
  settled a x D V f live en o =
      let h : ℕ = last_of p.state in
      let rests : is_rest (phase a) ≡ false = sym o.idle ∙ live in
      let t : Rest (Bad p) (h + 1) f V × Each (Clean (h + 1)) D =
      settle-talk (Bad p) h (phase a) f V x D (λ e. (let c : true ≡ false = sym (ap is_rest e) ∙ rests in cc)) en
      o.talk in
      record {
        idle = refl;
        names = tt;
        talk = t;
        finish = tt;
        cut = tt;
        order = rest-order (Bad p) (h + 1) f V t.0;
        truth = λ i. absurd cc;
        resumed = each-map (Leftover (Bad p) (h + 1)) (Resumed (with_state p (state.Idle h))) V
            (left-resumed (state.Idle h) (h + 1)) t.0.1;
        stands = λ c g. absurd (let z : 1 ≤ 0 = c in omega (arith, z));
      }

  -- an activity starts
  pub started : (D V : List LaneUnit) (f : RecvStage) → SendParts p s.Quiet D V f
      → SendParts (with_state p (state.Sending (last_of p.state + 1) 0)) (s.Started (last_of p.state + 1)) D V f
  started D V f o =
      let h : ℕ = last_of p.state in
      let q : Sides = with_state p (state.Sending (h + 1) 0) in
      record {
        idle = refl;
        names = refl;
        talk = o.talk;
        finish = each-map (Leftover (Bad p) (h + 1)) (NoFinish (h + 1)) V (left-finish (h + 1)) o.talk.0.1;
        cut = tt;
        order = o.order;
        truth = λ i. each-map (Clean (h + 1)) (Truth q (s.Started (h + 1))) D
            (clean-truth q (s.Started (h + 1))) o.talk.1;
        resumed = each-map (Leftover (Bad p) (h + 1)) (Resumed q) V
            (left-resumed (state.Sending (h + 1) 0) (h + 1)) o.talk.0.1;
        stands = λ c g. absurd (let z : 1 ≤ 0 = c in omega (arith, z));
      }

  -- The newest link of the receiving end -------------------------------------------------------------------

  pub ended-with : (st : SendState)
      → ((j : ℕ) → Good p j → is_ending p.state j ≡ true → (is_ending st j ≡ true) ⊎ IsAmong j p.completed)
      → (x : LaneUnit) → Ended p x → Ended (with_state p st) x
  ended-with st f (End j) g = λ gd. elim (g gd) [ inl z ↦ f j gd z | inr z ↦ inr z ]
  ended-with st f _ g = tt

  -- where the activity is settled, it is complete, or no End of it is on its way
  ended-none : (st : SendState) (x : LaneUnit) → Ended p x → NoEnd (last_of p.state) x → Ended (with_state p st) x
  ended-none st (End j) g ne = λ gd. elim (g gd) [ inl z ↦ absurd (ne (ending-last p.state j z)) | inr z ↦ inr z ]
  ended-none st any1 g ne = tt

  pub ended-settled : (st : SendState) (V : List LaneUnit) → (Bad p (last_of p.state))
      ⊎ (IsAmong (last_of p.state) p.completed ⊎ Each (NoEnd (last_of p.state)) V)
      → Each (Ended p) V → Each (Ended (with_state p st)) V
  ended-settled st V why g =
      elim why [
        | inl b ↦ each-map (Ended p) (Ended (with_state p st)) V
            (ended-with st (λ j gd z. (let e : j ≡ last_of p.state = ending-last p.state j z in
            absurd (let c : false ≡ true = sym b ∙ ap (λ (k : ℕ). p.spells (p.octets k)) (sym e) ∙ gd in cc)))) g
        | inr w ↦ elim w [
          | inl am ↦ each-map (Ended p) (Ended (with_state p st)) V
              (ended-with st (λ j gd z. inr (subst (λ (k : ℕ). IsAmong k p.completed)
              (sym (ending-last p.state j z)) am))) g
          | inr ne ↦ each-both (Ended p) (NoEnd (last_of p.state)) (Ended (with_state p st)) V (ended-none st) g ne
        ]
      ]

  -- Both links ------------------------------------------------------------------------------------------------

  apart-with : (st : SendState) (V : List LaneUnit) (x : LaneUnit) → ResumedApart p V x
      → ResumedApart (with_state p st) V x
  apart-with st V (Resume k n) g = g
  apart-with st V _ g = tt

  acked-with : (st : SendState) (V : List LaneUnit)
      → (is_idle st ≡ false → (is_idle p.state ≡ false) × (last_of st ≡ last_of p.state)) → (x : LaneUnit) → Acked p V x
      → Acked (with_state p st) V x
  acked-with st V f (DiscardAck k) g = λ i e gd. g (f i).0 (e ∙ (f i).1) gd
  acked-with st V f _ g = tt

  discarded-with : (st : SendState) (a b : SendStage)
      → ((j : ℕ) → is_live st j ≡ true → (is_live p.state j ≡ true) × (IsDoomed p.state a → IsDoomed st b))
      → (x : LaneUnit) → Discarded p a x → Discarded (with_state p st) b x
  discarded-with st a b f (Discard j) g = λ gd l. (f j l).1 (g gd (f j l).0)
  discarded-with st a b f _ g = tt

  pub cross-with : (st : SendState) (a b : SendStage) (x y : ℕ) (D X : List LaneUnit) (joined : Bool)
      (V : List LaneUnit)
      → (is_idle st ≡ false → (is_idle p.state ≡ false) × (last_of st ≡ last_of p.state))
      → ((j : ℕ) → is_live st j ≡ true → (is_live p.state j ≡ true) × (IsDoomed p.state a → IsDoomed st b))
      → CrossParts p x y a D X joined V → CrossParts (with_state p st) x y b D X joined V
  cross-with st a b x y D X joined V f g c = record {
    discarded = each-map (Discarded p a) (Discarded (with_state p st) b) V (discarded-with st a b g) c.discarded;
    acked = each-map (Acked p V) (Acked (with_state p st) V) D (acked-with st V f) c.acked;
    apart = λ ne. each-map (ResumedApart p V) (ResumedApart (with_state p st) V) X (apart-with st V) (c.apart ne);
    old = c.old;
  }

  -- a new activity is named nowhere
  new-discarded : (h : ℕ) (b : SendStage) (x : LaneUnit) → UpTo h x
      → Discarded (with_state p (state.Sending (h + 1) 0)) b x
  new-discarded h b (Discard j) u =
      λ gd l. absurd (let e : j ≡ h + 1 = eqb-true j (h + 1) l in let le : j ≤ h = u in omega (arith, e, le))
  new-discarded h b _ u = tt

  new-acked : (h : ℕ) (V : List LaneUnit) (x : LaneUnit) → Clean (h + 1) x
      → Acked (with_state p (state.Sending (h + 1) 0)) V x
  new-acked h V (DiscardAck j) c = λ i e gd. absurd (let lt : j < h + 1 = c in omega (arith, e, lt))
  new-acked h V _ c = tt

  pub cross-started : (a : SendStage) (x y : ℕ) (D X : List LaneUnit) (joined : Bool) (V : List LaneUnit)
      → Each (UpTo (last_of p.state)) V → Each (Clean (last_of p.state + 1)) D
      → CrossParts p x y a D X joined V → CrossParts (with_state p (state.Sending (last_of p.state + 1) 0)) x y
      (s.Started (last_of p.state + 1)) D X joined V
  cross-started a x y D X joined V u cl c =
      let h : ℕ = last_of p.state in
      record {
        discarded = each-map (UpTo h) (Discarded (with_state p (state.Sending (h + 1) 0)) (s.Started (h + 1))) V
            (new-discarded h (s.Started (h + 1))) u;
        acked = each-map (Clean (h + 1)) (Acked (with_state p (state.Sending (h + 1) 0)) V) D (new-acked h V) cl;
        apart = λ ne. each-map (ResumedApart p V) (ResumedApart (with_state p (state.Sending (h + 1) 0)) V) X
            (apart-with (state.Sending (h + 1) 0) V) (c.apart ne);
        old = c.old;
      }

-- States -----------------------------------------------------------------------------------------------------

pub confirmed-last : (st : SendState) (n : ℕ) → last_of (confirmed_at st n) ≡ last_of st
confirmed-last (state.Idle l) n = refl
confirmed-last any0 n = refl

pub confirmed-idle : (st : SendState) (n : ℕ) → is_idle (confirmed_at st n) ≡ is_idle st
confirmed-idle (state.Idle l) n = refl
confirmed-idle any0 n = refl

pub confirmed-dropping : (st : SendState) (n : ℕ) → is_dropping (confirmed_at st n) ≡ is_dropping st
confirmed-dropping (state.Idle l) n = refl
confirmed-dropping any0 n = refl

pub confirmed-live : (st : SendState) (n j : ℕ) → is_live (confirmed_at st n) j ≡ is_live st j
confirmed-live (state.Idle l) n j = refl
confirmed-live any0 n j = refl

pub confirmed-ending : (st : SendState) (n j : ℕ) → is_ending (confirmed_at st n) j ≡ is_ending st j
confirmed-ending (state.Idle l) n j = refl
confirmed-ending any0 n j = refl

-- a SyncAck counts only in a transfer
pub synced-going : (a : SendStage) (c n : ℕ) → c < n → n ≤ synced a → IsGoing a
synced-going s.Quiet c n lt le = absurd (let z : n ≤ 0 = le in omega arith)
synced-going s.Opened c n lt le = absurd (let z : n ≤ 0 = le in omega arith)
synced-going (s.Started k) c n lt le = absurd (let z : n ≤ 0 = le in omega arith)
synced-going (s.Discard_put k) c n lt le = absurd (let z : n ≤ 0 = le in omega arith)
synced-going any0 c n lt le = tt

pub first-not_going : (a : SendStage) → IsFirst a → IsGoing a → ⊥
first-not_going s.Opened f g = g
first-not_going (s.Discard_put k) f g = g
first-not_going any0 f g = f
