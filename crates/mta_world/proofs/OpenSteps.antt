-- An end opens a link, or takes its Open.
use Rattle.std.proofs.Common.{◌≡◌, ◌<◌, ◌≤◌, ℕ, ◌+◌, Bool, true, false, Option, Some, None, List, [], ◌∷◌, refl, sym}
use Rattle.std.proofs.Common.{◌∙◌, ap, subst, arith, inl, inr}
use Rattle.mta_lane_send.specs.declared.state.SendState.{SendState}
use Rattle.mta_lane_send.specs.declared.state.SendState.TheVariants as state
use Rattle.mta_lane_send.specs.Half.{last_of, is_idle, is_live, confirmed_of}
use Rattle.mta_transfer_rules.specs.Units.{LaneUnit, Start, Piece, Sync, End, Resume, Discard, SyncAck, EndAck}
use Rattle.mta_transfer_rules.specs.Units.{ResumeAck, DiscardAck, Exception, Completed, Unrecognized, CannotRecover}
use Rattle.mta_transfer_rules.specs.Units.{Accept, Other}
use Rattle.mta_transfer_rules.specs.Sending.{SendStage, stage_on_link}
use Rattle.mta_transfer_rules.specs.Receiving as r
use Rattle.mta_transfer_rules.specs.Receiving.{RecvStage}
use Rattle.mta_world.specs.World.{World, Link, SendPart, set_at, new_link}
use Rattle.mta_world.specs.Steps.{opened_by_sender, opened_by_receiver, joined_by_sender, joined_by_receiver}
use Rattle.mta_world.proofs.Units.{Each, each-map, transfers, UpTo, Clean, IsSilent}
use Rattle.mta_world.proofs.Flow.{Between, Order, Flows}
use Rattle.mta_world.proofs.Talk.{phase, Talk, Names, Finish, IsCutAt}
use Rattle.mta_world.proofs.Claims.{Sides, Bad, Good, StandsSome, heard_with, unheard, ups, LinkParts, LinkOk}
use Rattle.mta_world.proofs.Claims.{SendParts, Ended, CrossParts, Acked, Truth, Resumed, ResumedApart, Discarded}
use Rattle.mta_world.proofs.Claims.{IsDoomed, is_rest, Linked, relinked}
use Rattle.mta_world.proofs.Keeps.{sides, Keeps}

not-both : (b : Bool) (A : Type 0) → b ≡ true → b ≡ false → A
not-both b A t f = absurd (let c : true ≡ false = sym t ∙ f in cc)

-- The sending end on a link where nothing of a transfer is -----------------------------------------------------------

silent-clean : (i : ℕ) (x : LaneUnit) → IsSilent x → Clean i x
silent-clean i Accept g = tt
silent-clean i Other g = tt
silent-clean i _ g = absurd g

silent-truth : (p : Sides) (a : SendStage) (x : LaneUnit) → IsSilent x → Truth p a x
silent-truth p a Accept g = tt
silent-truth p a Other g = tt
silent-truth p a _ g = absurd g

silent-acked : (p : Sides) (V : List LaneUnit) (x : LaneUnit) → IsSilent x → Acked p V x
silent-acked p V Accept g = tt
silent-acked p V Other g = tt
silent-acked p V _ g = absurd g

module _ (p : Sides) where
  fresh-order : (st : SendState) (D : List LaneUnit) → Order (stage_on_link st) D Between
  fresh-order (state.Idle l) D = inl refl
  fresh-order any0 D = inl refl

  fresh-talk : (st : SendState) (h : ℕ) (D : List LaneUnit) → Each IsSilent D
      → Talk (Bad p) h (phase (stage_on_link st)) r.Free [] D
  fresh-talk (state.Idle l) h D g = ((tt, tt), each-map IsSilent (Clean (h + 1)) D (silent-clean (h + 1)) g)
  fresh-talk any0 h D g = ((tt, tt), each-map IsSilent (Clean h) D (silent-clean h) g)

  fresh-idle : (st : SendState) → is_idle st ≡ is_rest (phase (stage_on_link st))
  fresh-idle (state.Idle l) = refl
  fresh-idle any0 = refl

  fresh-names : (st : SendState) (h : ℕ) → Names h (stage_on_link st)
  fresh-names (state.Idle l) h = tt
  fresh-names any0 h = tt

  fresh-finish : (st : SendState) (h : ℕ) → Finish h (stage_on_link st) []
  fresh-finish (state.Idle l) h = tt
  fresh-finish any0 h = tt

  fresh-cut : (st : SendState) → IsCutAt p.size p.octets (stage_on_link st)
  fresh-cut (state.Idle l) = tt
  fresh-cut any0 = tt

  fresh-send : (D : List LaneUnit) → Each IsSilent D
      → (1 ≤ confirmed_of p.state → Good p (last_of p.state) → StandsSome p.last (last_of p.state))
      → SendParts p (stage_on_link p.state) D [] r.Free
  fresh-send D g st = record {
    idle = fresh-idle p.state;
    names = fresh-names p.state (last_of p.state);
    talk = fresh-talk p.state (last_of p.state) D g;
    finish = fresh-finish p.state (last_of p.state);
    cut = fresh-cut p.state;
    order = fresh-order p.state D;
    truth = λ i. each-map IsSilent (Truth p (stage_on_link p.state)) D (silent-truth p (stage_on_link p.state)) g;
    resumed = tt;
    stands = st;
  }

  -- what was doomed stays so on a new link
  fresh-doomed : (st : SendState) (a : SendStage) (j : ℕ) → is_live st j ≡ true → IsDoomed st a
      → IsDoomed st (stage_on_link st)
  fresh-doomed (state.Idle l) a j lv d = absurd (let c : false ≡ true = lv in cc)
  fresh-doomed (state.Dropping k) a j lv d = inl refl
  fresh-doomed any0 a j lv d = elim d [ inl e ↦ inl e | inr g ↦ inr (g.0, tt) ]

  fresh-discarded : (a : SendStage) (x : LaneUnit) → Discarded p a x → Discarded p (stage_on_link p.state) x
  fresh-discarded a (Discard j) g = λ gd lv. fresh-doomed p.state a j lv (g gd lv)
  fresh-discarded a _ g = tt

  idle-discarded : is_idle p.state ≡ true → (x : LaneUnit) → Discarded p (stage_on_link p.state) x
  idle-discarded e (Discard j) = λ gd lv. idle-live p.state j e lv
    where
      idle-live : {A : Type 0} (st : SendState) (j : ℕ) → is_idle st ≡ true → is_live st j ≡ true → A
      idle-live (state.Idle l) j e lv = absurd (let c : false ≡ true = lv in cc)
      idle-live (state.Sending k c) j e lv = absurd cc
      idle-live (state.Ending k c) j e lv = absurd cc
      idle-live (state.Dropping k) j e lv = absurd cc
  idle-discarded e any1 = tt

  each-all : (P : LaneUnit → Type 0) (xs : List LaneUnit) → ((x : LaneUnit) → P x) → Each P xs
  each-all P [] f = tt
  each-all P (x ∷ xs) f = (f x, each-all P xs f)

  -- nothing is on the receiving end's new link
  empty-acked : (V : List LaneUnit) (x : LaneUnit) → Acked p V x → Acked p [] x
  empty-acked V (DiscardAck j) g = λ i e gd. tt
  empty-acked V _ g = tt

  empty-apart : (x : LaneUnit) → ResumedApart p [] x
  empty-apart (Resume j n) = λ gd. tt
  empty-apart _ = tt

  all-acked : (x : LaneUnit) → Acked p [] x
  all-acked (DiscardAck j) = λ i e gd. tt
  all-acked _ = tt

  empty-cross : (x y : ℕ) (a : SendStage) (D X : List LaneUnit) (joined : Bool) → CrossParts p x y a D X joined []
  empty-cross x y a D X joined = record {
    discarded = tt;
    acked = each-all (Acked p []) D all-acked;
    apart = λ ne. each-all (ResumedApart p []) X empty-apart;
    old = λ so j ne. refl;
  }

module _ (spells : List ℕ → Bool) (octets : ℕ → List ℕ) (w : World) (k : Keeps spells octets w) where
  abbrev P : Sides
  P = sides spells octets w

  stands-now : 1 ≤ confirmed_of w.state → Good P (last_of w.state) → StandsSome w.last (last_of w.state)
  stands-now c gd = by_link w.send_link refl
    where
      by_link : (o : Option ℕ) → w.send_link ≡ o → StandsSome w.last (last_of w.state)
      by_link (Some x) e = (k.linked.sends x e).stands c gd
      by_link None e = absurd (idle-none w.state (k.homeless e) c)
        where
          idle-none : (st : SendState) → is_idle st ≡ true → 1 ≤ confirmed_of st → ⊥
          idle-none (state.Idle l) e c = let z : 1 ≤ 0 = c in omega (arith, z)
          idle-none (state.Sending j n) e c = cc
          idle-none (state.Ending j n) e c = cc
          idle-none (state.Dropping j) e c = cc

  -- what is on the receiving end's newest link comes to nothing as before
  still-discarded : (y : ℕ) → w.recv_link ≡ Some y
      → Each (Discarded P (stage_on_link w.state)) (ups (w.links y).recv.stage (w.links y).up.way)
  still-discarded y ry = by_link w.send_link refl
    where
      by_link : (o : Option ℕ) → w.send_link ≡ o
          → Each (Discarded P (stage_on_link w.state)) (ups (w.links y).recv.stage (w.links y).up.way)
      by_link (Some x) e = each-map (Discarded P (w.links x).send.stage) (Discarded P (stage_on_link w.state)) _
          (fresh-discarded P (w.links x).send.stage) (k.linked.cross x y e ry).discarded
      by_link None e = each-all P (Discarded P (stage_on_link w.state)) _ (idle-discarded P (k.homeless e))

  -- the sending end's new link, against the receiving end's
  new-cross : (i y : ℕ) (D : List LaneUnit) (joined : Bool) → w.recv_link ≡ Some y → Each IsSilent D
      → (w.sender_opens ≡ true → joined ≡ true → ⊥)
      → CrossParts P i y (stage_on_link w.state) D [] joined (ups (w.links y).recv.stage (w.links y).up.way)
  new-cross i y D joined ry g no_ = record {
    discarded = still-discarded y ry;
    acked = each-map IsSilent (Acked P _) D (silent-acked P _) g;
    apart = λ ne. tt;
    old = λ so j ne. absurd (no_ so j);
  }

  moved : (x y : Option ℕ) (f : ℕ → Link) → Linked (record (sides spells octets w) { send_link = x; recv_link = y }) f
      → (n : ℕ) → w.opened ≤ n
      → (x ≡ None → is_idle w.state ≡ true) → ((i : ℕ) → x ≡ Some i → i < n) → ((i : ℕ) → y ≡ Some i → i < n)
      → Keeps spells octets (record w { send_link = x; recv_link = y; opened = n; links = f })
  moved x y f g n le home sb rb = record {
    linked = record { links = g.links; sends = g.sends; recvs = g.recvs; cross = g.cross };
    outcomes = k.outcomes;
    in_step = k.in_step;
    receives = k.receives;
    homeless = home;
    send_below = sb;
    recv_below = rb;
  }

  -- claims do not depend on which links are the newest
  module _ (x y : Option ℕ) where
    abbrev Q : Sides
    Q = record (sides spells octets w) { send_link = x; recv_link = y }

    link-moved : (U down : List LaneUnit) (send : SendPart) (e : RecvStage) (a b : Bool) → LinkParts P U down send e a b
        → LinkParts Q U down send e a b
    link-moved U down send e a b g =
        record {
          flows = g.flows;
          genuine = g.genuine;
          named = g.named;
          stage_named = g.stage_named;
          fresh = g.fresh;
          not_joined = g.not_joined;
          not_on = g.not_on;
        }

    truth-moved : (a : SendStage) (u : LaneUnit) → Truth P a u → Truth Q a u
    truth-moved a (SyncAck n) g = g
    truth-moved a (EndAck j) g = g
    truth-moved a (DiscardAck j) g = g
    truth-moved a Exception g = g
    truth-moved a Completed g = g
    truth-moved a Unrecognized g = g
    truth-moved a CannotRecover g = g
    truth-moved a _ g = tt

    resumed-moved : (u : LaneUnit) → Resumed P u → Resumed Q u
    resumed-moved (Resume j n) g = g
    resumed-moved _ g = tt

    send-moved : (a : SendStage) (D V : List LaneUnit) (f : RecvStage) → SendParts P a D V f → SendParts Q a D V f
    send-moved a D V f o = record {
      idle = o.idle;
      names = o.names;
      talk = o.talk;
      finish = o.finish;
      cut = o.cut;
      order = o.order;
      truth = λ i. each-map (Truth P a) (Truth Q a) D (truth-moved a) (o.truth i);
      resumed = each-map (Resumed P) (Resumed Q) V resumed-moved o.resumed;
      stands = o.stands;
    }

    ended-moved : (u : LaneUnit) → Ended P u → Ended Q u
    ended-moved (End j) g = g
    ended-moved _ g = tt

    discarded-moved : (a : SendStage) (u : LaneUnit) → Discarded P a u → Discarded Q a u
    discarded-moved a (Discard j) g = g
    discarded-moved a _ g = tt

    acked-moved : (V : List LaneUnit) (u : LaneUnit) → Acked P V u → Acked Q V u
    acked-moved V (DiscardAck j) g = g
    acked-moved V _ g = tt

    apart-moved : (V : List LaneUnit) (u : LaneUnit) → ResumedApart P V u → ResumedApart Q V u
    apart-moved V (Resume j n) g = g
    apart-moved V _ g = tt

    cross-moved : (i j : ℕ) (a : SendStage) (D X : List LaneUnit) (joined : Bool) (V : List LaneUnit)
        → CrossParts P i j a D X joined V → CrossParts Q i j a D X joined V
    cross-moved i j a D X joined V c = record {
      discarded = each-map (Discarded P a) (Discarded Q a) V (discarded-moved a) c.discarded;
      acked = each-map (Acked P V) (Acked Q V) D (acked-moved V) c.acked;
      apart = λ ne. each-map (ResumedApart P V) (ResumedApart Q V) X (apart-moved V) (c.apart ne);
      old = c.old;
    }

  -- A new link
  -- ------------------------------------------------------------------------------------------------------------

  new-link : (a b : Bool) (st : SendState) → (w.sender_opens ≡ false → a ≡ false) → LinkOk P (new_link a b false st)
  new-link a b st f = record {
    flows = tt;
    genuine = tt;
    named = tt;
    stage_named = tt;
    fresh = λ u. (refl, refl, tt);
    not_joined = λ so u. (refl, tt);
    not_on = λ so u. refl;
  }

  not-opened : (i : ℕ) → i ≡ w.opened → i < w.opened → ⊥
  not-opened i e lt = omega (arith, e, lt)

  pub sender-opens : w.sender_opens ≡ true → Keeps spells octets (opened_by_sender w)
  sender-opens so =
      let n : ℕ = w.opened in
      let v : Link = new_link true false false w.state in
      let x : Option ℕ = Some n in
      let y : Option ℕ = w.recv_link in
      moved x y (set_at w.links n v)
      (relinked P (Q x y) w.links n v k.linked (record {
        others = λ l g. link-moved x y _ _ _ _ _ _ g;
        link = link-moved x y _ _ _ _ _ _ (new-link true false w.state (λ e. not-both w.sender_opens _ so e));
        send_here = λ e. send-moved x y _ _ _ _ (fresh-send P [] tt stands-now);
        send_there = λ i ne e. absurd (ne (let g : Some n ≡ Some i = e in let h : n ≡ i = cc in sym h));
        recv_here = λ ry. absurd (not-opened n refl (k.recv_below n ry));
        recv_there = λ i ne ry. each-map (Ended P) (Ended (Q x y)) _ (ended-moved x y) (k.linked.recvs i ry);
        both_here = λ e ry. absurd (not-opened n refl (k.recv_below n ry));
        sends_here = λ i ne e ry. cross-moved x y n i _ _ _ _ _
            (new-cross n i [] false ry tt (λ o j. (let c : true ≡ false = sym j in cc)));
        recvs_here = λ i ne e ry. absurd (not-opened n refl (k.recv_below n ry));
        none_here = λ i j ni nj e ry. absurd (ni (let g : Some n ≡ Some i = e in let h : n ≡ i = cc in sym h));
      }))
      (n + 1) (omega arith) (λ e. absurd (let c : Some n ≡ None = e in cc))
      (λ i e. (let g : Some n ≡ Some i = e in let h : n ≡ i = cc in omega (arith, h)))
      (λ i ry. (let lt : i < n = k.recv_below i ry in omega (arith, lt)))

  pub receiver-opens : w.sender_opens ≡ false → Keeps spells octets (opened_by_receiver w)
  receiver-opens so =
      let n : ℕ = w.opened in
      let v : Link = new_link false true false w.state in
      let x : Option ℕ = w.send_link in
      let y : Option ℕ = Some n in
      moved x y (set_at w.links n v)
      (relinked P (Q x y) w.links n v k.linked (record {
        others = λ l g. link-moved x y _ _ _ _ _ _ g;
        link = link-moved x y _ _ _ _ _ _ (new-link false true w.state (λ e. refl));
        send_here = λ sx. absurd (not-opened n refl (k.send_below n sx));
        send_there = λ i ne sx. send-moved x y _ _ _ _ (k.linked.sends i sx);
        recv_here = λ e. tt;
        recv_there = λ i ne e. absurd (ne (let g : Some n ≡ Some i = e in let h : n ≡ i = cc in sym h));
        both_here = λ sx e. absurd (not-opened n refl (k.send_below n sx));
        sends_here = λ i ne sx e. absurd (not-opened n refl (k.send_below n sx));
        recvs_here = λ i ne sx e. empty-cross (Q x y) i n _ _ _ _;
        none_here = λ i j ni nj sx e. absurd (nj (let g : Some n ≡ Some j = e in let h : n ≡ j = cc in sym h));
      }))
      (n + 1) (omega arith) k.homeless
      (λ i sx. (let lt : i < n = k.send_below i sx in omega (arith, lt)))
      (λ i e. (let g : Some n ≡ Some i = e in let h : n ≡ i = cc in omega (arith, h)))

  -- An Open is taken
  -- ----------------------------------------------------------------------------------------------------------

  pub sender-joins : (i : ℕ) → w.sender_opens ≡ false → i < w.opened → (w.links i).send_joined ≡ false
      → Keeps spells octets (joined_by_sender w i (w.links i))
  sender-joins i so lt off =
      let l : Link = w.links i in
      let o : LinkOk P l = k.linked.links i in
      let fresh : (l.recv.stage ≡ r.Free) × (transfers l.up.way ≡ [])
      × Each IsSilent (heard_with l.send.heard l.down.way) = o.fresh (o.not_on so off) in
      let silent : Each IsSilent l.down.way =
      unheard (λ (D : List LaneUnit). Each IsSilent D) (λ u D g. g.1) l.send.heard l.down.way fresh.2 in
      let v : Link = record l {
        send_joined = true;
        send_stopped = false;
        send =
            record { accepted = true; stage = stage_on_link w.state; heard = None };
      } in
      let none : ups l.recv.stage l.up.way ≡ [] = ap (λ (z : RecvStage). ups z l.up.way) fresh.0 ∙ fresh.1 in
      let x : Option ℕ = Some i in
      let y : Option ℕ = w.recv_link in
      moved x y (set_at w.links i v)
      (relinked P (Q x y) w.links i v k.linked (record {
        others = λ a g. link-moved x y _ _ _ _ _ _ g;
        link = record {
          flows = o.flows;
          genuine = o.genuine;
          named = o.named;
          stage_named = o.stage_named;
          fresh = λ u. absurd (let c : true ≡ false = u in cc);
          not_joined = λ s u. not-both w.sender_opens _ s so;
          not_on = λ s u. absurd (let c : true ≡ false = u in cc);
        };
        send_here = λ e. send-moved x y _ _ _ _
            (subst (λ (z : RecvStage). SendParts P (stage_on_link w.state) l.down.way (ups l.recv.stage l.up.way) z)
            (sym fresh.0)
            (subst (λ (z : List LaneUnit). SendParts P (stage_on_link w.state) l.down.way z r.Free) (sym none)
            (fresh-send P l.down.way silent stands-now)));
        send_there = λ j ne e. absurd (ne (let g : Some i ≡ Some j = e in let h : i ≡ j = cc in sym h));
        recv_here = λ ry. each-map (Ended P) (Ended (Q x y)) _ (ended-moved x y) (k.linked.recvs i ry);
        recv_there = λ j ne ry. each-map (Ended P) (Ended (Q x y)) _ (ended-moved x y) (k.linked.recvs j ry);
        both_here = λ e ry. subst (λ (z : List LaneUnit). CrossParts (Q x y) i i
            (stage_on_link w.state) l.down.way z l.recv_joined z) (sym none) (empty-cross (Q x y) i i _ _ _ _);
        sends_here = λ j ne e ry. subst
            (λ (z : List LaneUnit). CrossParts (Q x y) i j (stage_on_link w.state) l.down.way z l.recv_joined
            (ups (w.links j).recv.stage (w.links j).up.way)) (sym none)
            (cross-moved x y i j _ _ _ _ _ (new-cross i j l.down.way l.recv_joined ry silent
            (λ s g. not-both w.sender_opens _ s so)));
        recvs_here = λ j ne e ry. absurd (ne (let g : Some i ≡ Some j = e in let h : i ≡ j = cc in sym h));
        none_here = λ a b na nb e ry. absurd (na (let g : Some i ≡ Some a = e in let h : i ≡ a = cc in sym h));
      }))
      w.opened (omega arith) (λ e. absurd (let c : Some i ≡ None = e in cc))
      (λ j e. (let g : Some i ≡ Some j = e in let h : i ≡ j = cc in omega (arith, h, lt)))
      k.recv_below

  pub receiver-joins : (i : ℕ) → w.sender_opens ≡ true → i < w.opened → (w.links i).recv_joined ≡ false
      → Keeps spells octets (joined_by_receiver w i (w.links i))
  receiver-joins i so lt off =
      let l : Link = w.links i in
      let o : LinkOk P l = k.linked.links i in
      let fresh : (l.recv.stage ≡ r.Free) × (transfers l.up.way ≡ [])
      × Each IsSilent (heard_with l.send.heard l.down.way) = o.fresh (o.not_joined so off).0 in
      let v : Link = record l {
        recv_joined = true;
        recv_stopped = false;
        recv =
            record { stage = r.Free; from = 0; acked = 0 };
      } in
      let x : Option ℕ = w.send_link in
      let y : Option ℕ = Some i in
      moved x y (set_at w.links i v)
      (relinked P (Q x y) w.links i v k.linked (record {
        others = λ a g. link-moved x y _ _ _ _ _ _ g;
        link = record {
          flows = subst (λ (z : List LaneUnit). Flows w.size octets Between z) (sym fresh.1) tt;
          genuine = tt;
          named = subst (λ (z : List LaneUnit). Each (UpTo (last_of w.state)) z) (sym fresh.1) tt;
          stage_named = tt;
          fresh = λ u. (refl, fresh.1, fresh.2);
          not_joined = λ s u. absurd (let c : true ≡ false = u in cc);
          not_on = o.not_on;
        };
        send_here = λ sx. send-moved x y _ _ _ _
            (subst (λ (z : RecvStage). SendParts P l.send.stage (heard_with l.send.heard l.down.way) (ups z l.up.way) z)
            fresh.0 (k.linked.sends i sx));
        send_there = λ j ne sx. send-moved x y _ _ _ _ (k.linked.sends j sx);
        recv_here = λ e. subst (λ (z : List LaneUnit). Each (Ended (Q x y)) z) (sym fresh.1) tt;
        recv_there = λ j ne e. absurd (ne (let g : Some i ≡ Some j = e in let h : i ≡ j = cc in sym h));
        both_here = λ sx e. subst (λ (z : List LaneUnit). CrossParts (Q x y) i i l.send.stage
            (heard_with l.send.heard l.down.way) z true z) (sym fresh.1) (empty-cross (Q x y) i i _ _ _ _);
        sends_here = λ j ne sx e. absurd (ne (let g : Some i ≡ Some j = e in let h : i ≡ j = cc in sym h));
        recvs_here = λ j ne sx e. subst
            (λ (z : List LaneUnit). CrossParts (Q x y) j i (w.links j).send.stage
            (heard_with (w.links j).send.heard (w.links j).down.way) (ups (w.links j).recv.stage (w.links j).up.way)
            (w.links j).recv_joined z)
            (sym fresh.1) (empty-cross (Q x y) j i _ _ _ _);
        none_here = λ a b na nb sx e. absurd (nb (let g : Some i ≡ Some b = e in let h : i ≡ b = cc in sym h));
      }))
      w.opened (omega arith) k.homeless k.send_below
      (λ j e. (let g : Some i ≡ Some j = e in let h : i ≡ j = cc in omega (arith, h, lt)))
