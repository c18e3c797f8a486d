-- The steps of the receiving end's half.
use Rattle.std.proofs.Common.{◌≡◌, ◌⊎◌, ◌≤◌, ℕ, zero, suc, Bool, true, false, Some, List, [], ◌∷◌, ◌++◌, refl, sym, ◌∙◌}
use Rattle.std.proofs.Common.{ap, subst, arith, inl, inr}
use Rattle.std.proofs.lemmas.Bool.{eq-eqb}
use Rattle.mta_lane_send.specs.declared.state.SendState.{SendState}
use Rattle.mta_lane_send.specs.declared.state.SendState.TheVariants as state
use Rattle.mta_lane_send.specs.Half.{last_of, is_idle, is_live, is_ending, confirmed_of}
use Rattle.mta_lane_recv.specs.declared.state.Last.{Last}
use Rattle.mta_lane_recv.specs.declared.state.Last.TheVariants as last
use Rattle.mta_lane_recv.specs.Half.{is_partial_of, takes_piece}
use Rattle.mta_transfer_rules.specs.Units.{LaneUnit, Start, Piece, Sync, End, Resume, Discard, SyncAck, EndAck}
use Rattle.mta_transfer_rules.specs.Units.{ResumeAck, DiscardAck, Exception, Completed, Unrecognized, CannotRecover}
use Rattle.mta_transfer_rules.specs.Units.{Accept, Other}
use Rattle.mta_transfer_rules.specs.Sending as s
use Rattle.mta_transfer_rules.specs.Sending.{SendStage, is_dropping}
use Rattle.mta_transfer_rules.specs.Receiving as r
use Rattle.mta_transfer_rules.specs.Receiving.{RecvStage, RecvStep}
use Rattle.mta_world.specs.World.{World, Link, Message, RecvPart, set_at, recv_end}
use Rattle.mta_world.specs.Agrees.{IsAmong}
use Rattle.mta_transfer_rules.specs.Pieces.{octets_with}
use Rattle.mta_world.specs.Steps.{receiver_made, Spells}
use Rattle.mta_world.proofs.Units.{Each, each-map, each-both, transfers, StageUpTo, NoEnd, NoDiscard}
use Rattle.mta_world.proofs.Talk.{phase, Talk, Genuine}
use Rattle.mta_world.proofs.Sends.{ending-last}
use Rattle.mta_world.proofs.Makes.{first-not_going}
use Rattle.mta_world.proofs.Durable.{GoesOn, piece-goes_on, not-zero, Receives, InStep, among-last, among-more}
use Rattle.mta_world.proofs.Receives.{not-among, secured, whole-octets, completed_by, dropped, with_last, Still, relast}
use Rattle.mta_world.proofs.Receives.{resumed-last, ended-last, still-acked, still-same, cross-last, link-last}
use Rattle.mta_world.proofs.Receives.{stands-same, part-same, part-not_done, secure-send, secure-link, discard-resumed}
use Rattle.mta_world.proofs.Puts.{bad-good}
use Rattle.mta_world.proofs.Claims.{Sides, Bad, Good, StandsSome, heard_with, ups, LinkParts, SendParts, SendOk, Ended}
use Rattle.mta_world.proofs.Claims.{CrossParts, Acked, Truth, Resumed, ResumedApart, Discarded, IsDoomed, IsGoing}
use Rattle.mta_world.proofs.Claims.{is_rest, Linked, relinked}
use Rattle.mta_world.proofs.Keeps.{sides, Keeps, some-same}

live-self : (st : SendState) → is_idle st ≡ false → is_live st (last_of st) ≡ true
live-self (state.Idle l) e = absurd cc
live-self (state.Sending k c) e = eq-eqb k k refl
live-self (state.Ending k c) e = eq-eqb k k refl
live-self (state.Dropping k) e = eq-eqb k k refl

confirmed-live : (st : SendState) → 1 ≤ confirmed_of st → is_idle st ≡ false
confirmed-live (state.Idle l) c = absurd (let z : 1 ≤ 0 = c in omega (arith, z))
confirmed-live any0 c = refl

dropping-confirmed : (st : SendState) → is_dropping st ≡ true → confirmed_of st ≡ 0
dropping-confirmed (state.Sending k n) e = absurd cc
dropping-confirmed (state.Ending k n) e = absurd cc
dropping-confirmed any0 e = refl

going-rest : (a : SendStage) → IsGoing a → is_rest (phase a) ≡ false
going-rest s.Quiet g = absurd g
going-rest s.Opened g = absurd g
going-rest (s.Started k) g = absurd g
going-rest (s.Discard_put k) g = absurd g
going-rest any0 g = refl

module _ (spells : List ℕ → Bool) (octets : ℕ → List ℕ) (w : World) (k : Keeps spells octets w) (i : ℕ)
    (ry : w.recv_link ≡ Some i) where
  abbrev P : Sides
  P = sides spells octets w

  abbrev h : ℕ
  h = last_of w.state

  abbrev L : Link
  L = w.links i

  -- A step on the newest link: what stands and the stage change ---------------------------------------------------

  step-linked : (l : Last) (ms : List Message) (part : RecvPart)
      → LinkParts P L.up.way L.down.way L.send part.stage L.send_joined L.recv_joined
      → ups part.stage L.up.way ≡ ups L.recv.stage L.up.way
      → ((j : ℕ) → IsAmong j w.completed → IsAmong j ms)
      → ((x : ℕ) → w.send_link ≡ Some x → (x ≡ i → ⊥) → SendOk (with_last P l ms) (w.links x))
      → (w.send_link ≡ Some i → SendParts (with_last P l ms) L.send.stage (heard_with L.send.heard L.down.way)
      (ups part.stage L.up.way) part.stage)
      → Linked (with_last P l ms) (set_at w.links i (record L { recv = part }))
  step-linked l ms part lk same more there here =
      let q : Sides = with_last P l ms in
      let v : Link = record L { recv = part } in
      relinked P q w.links i v k.linked (record {
        others = λ a g. link-last P l ms a.up.way a.down.way a.send a.recv.stage a.send_joined a.recv_joined g;
        link = link-last P l ms L.up.way L.down.way L.send part.stage L.send_joined L.recv_joined lk;
        send_here = here;
        send_there = λ x ne sx. there x sx ne;
        recv_here = λ g. subst (λ (z : List LaneUnit). Each (Ended q) z) (sym same)
            (each-map (Ended P) (Ended q) _ (ended-last P l ms more) (k.linked.recvs i ry));
        recv_there = λ y ne g. absurd (ne (some-same y i w.recv_link g ry));
        both_here = λ sx g. subst (λ (z : List LaneUnit). CrossParts q i i L.send.stage
            (heard_with L.send.heard L.down.way) z L.recv_joined z) (sym same)
            (cross-last P l ms i i L.send.stage _ _ L.recv_joined _ (k.linked.cross i i sx ry));
        sends_here = λ y ne sx g. absurd (ne (some-same y i w.recv_link g ry));
        recvs_here = λ x ne sx g. subst
            (λ (z : List LaneUnit). CrossParts q x i (w.links x).send.stage
            (heard_with (w.links x).send.heard (w.links x).down.way) (ups (w.links x).recv.stage (w.links x).up.way)
            (w.links x).recv_joined z) (sym same)
            (cross-last P l ms x i (w.links x).send.stage _ _ (w.links x).recv_joined _ (k.linked.cross x i sx ry));
        none_here = λ x y nx ny sx g. absurd (ny (some-same y i w.recv_link g ry));
      })

  kept : (l : Last) (ms : List Message) (high : ℕ) (pieces : List (List ℕ)) (f : ℕ → Link) → Linked (with_last P l ms) f
      → InStep octets w.state l w.sent ms
      → Receives spells w.size octets h high l pieces ms
      → Keeps spells octets (record w { links = f; high = high; last = l; pieces = pieces; completed = ms })
  kept l ms high pieces f g st rc = record {
    linked = record { links = g.links; sends = g.sends; recvs = g.recvs; cross = g.cross };
    outcomes = k.outcomes;
    in_step = st;
    receives = rc;
    homeless = k.homeless;
    send_below = k.send_below;
    recv_below = k.recv_below;
  }

  goes : (j m : ℕ) → takes_piece w.high w.last j (suc m) ≡ true
      → GoesOn w.size octets w.high w.last w.pieces w.completed j m
  goes j m t = piece-goes_on w.size octets w.high w.last w.pieces w.completed j m k.receives.held t

  not-completed : (j m : ℕ) → takes_piece w.high w.last j (suc m) ≡ true → IsAmong j w.completed → ⊥
  not-completed j m t = not-among spells w.size octets h w.high w.last w.pieces w.completed k.receives j m (goes j m t)

  still-none : (l : Last) (a : SendStage) (D V : List LaneUnit) (f : RecvStage) → SendParts P a D V f
      → is_idle w.state ≡ false → Each (Still P l w.completed) D
  still-none l a D V f o live = each-map (Truth P a) (Still P l w.completed) D (still-same P l w.completed refl a)
      (o.truth live)

  -- Secure ------------------------------------------------------------------------------------------------------------

  module _ (j m : ℕ) (piece : List ℕ) (at : L.recv.stage ≡ r.Synced j (suc m) piece)
      (t : takes_piece w.high w.last j (suc m) ≡ true) where
    abbrev new : Last
    new = last.Partial j (suc m)

    below : j ≤ h
    below = subst (λ (z : RecvStage). StageUpTo h z) at (k.linked.links i).stage_named

    secure-keeps : StandsSome w.last h → StandsSome new h
    secure-keeps st = inl (eq-eqb h j
        (sym (stands-same w.high w.last j (suc m) h t (λ dn. (goes j m t).not_ahead h dn below) st)))

    secure-part : (a : SendStage) (D V : List LaneUnit) (f : RecvStage) → SendParts P a D V f
        → SendParts (with_last P new w.completed) a D V f
    secure-part a D V f o =
        relast P new w.completed a D V f (λ q am. am) (λ nd go gd st. secure-keeps st)
        (λ live. still-none new a D V f o live)
        (λ g. each-map (Resumed P) (Resumed (with_last P new w.completed)) V
        (resumed-last P new w.completed (λ st gd. secure-keeps st)) g)
        (λ c gd st. secure-keeps st) o

    pub secures : Keeps spells octets (receiver_made w i (r.Secure j (suc m) piece))
    secures =
        let lk : LinkParts P L.up.way L.down.way L.send (r.Synced j (suc m) piece) L.send_joined L.recv_joined =
        subst (λ (z : RecvStage). LinkParts P L.up.way L.down.way L.send z L.send_joined L.recv_joined) at
        (k.linked.links i) in
        kept new w.completed j _ _
        (step-linked new w.completed (record { stage = r.Next j (suc m); from = L.recv.from; acked = L.recv.acked })
        (secure-link P L.up.way L.down.way L.send j (suc m) piece L.send_joined L.recv_joined lk)
        (ap (λ (z : RecvStage). ups z L.up.way) (sym at))
        (λ q am. am)
        (λ x sx ne. secure-part (w.links x).send.stage _ _ (w.links x).recv.stage (k.linked.sends x sx))
        (λ sx. secure-part L.send.stage _ _ (r.Next j (suc m))
        (secure-send P L.send.stage _ _ j (suc m) piece
        (subst (λ (z : RecvStage). SendParts P L.send.stage (heard_with L.send.heard L.down.way) (ups z L.up.way) z)
        at (k.linked.sends i sx)))))
        (elim k.in_step [ inl e ↦ inl e | inr g ↦ absurd ((goes j m t).not_ahead h g.2 below) ])
        (secured spells w.size octets h w.high w.last w.pieces w.completed k.receives j m piece
        (goes j m t) below lk.genuine.0 lk.genuine.1)

  -- Complete
  -- -----------------------------------------------------------------------------------------------------------

  module _ (j m : ℕ) (piece : List ℕ) (at : L.recv.stage ≡ r.Ended j (suc m) piece)
      (t : takes_piece w.high w.last j (suc m) ≡ true) (sp : spells (octets_with w.pieces (suc m) piece) ≡ true) where
    abbrev done : Last
    done = last.Done j

    abbrev ms : List Message
    ms = w.completed ++ record { activity = j; octets = octets_with w.pieces (suc m) piece } ∷ []

    ended-link : LinkParts P L.up.way L.down.way L.send (r.Ended j (suc m) piece) L.send_joined L.recv_joined
    ended-link = subst (λ (z : RecvStage). LinkParts P L.up.way L.down.way L.send z L.send_joined L.recv_joined) at
        (k.linked.links i)

    all-octets : octets_with w.pieces (suc m) piece ≡ octets j
    all-octets = whole-octets spells w.size octets h w.high w.last w.pieces w.completed k.receives j m piece
        (goes j m t) ended-link.genuine ended-link.flows.0.1

    good : spells (octets j) ≡ true
    good = sym (ap spells all-octets) ∙ sp

    is-ending : is_ending w.state j ≡ true
    is-ending =
        let e : Each (Ended P) (ups (r.Ended j (suc m) piece) L.up.way) =
        subst (λ (z : RecvStage). Each (Ended P) (ups z L.up.way)) at (k.linked.recvs i ry) in
        elim (e.0 good) [ inl g ↦ g | inr am ↦ absurd (not-completed j m t am) ]

    same : j ≡ h
    same = ending-last w.state j is-ending

    complete-keeps : StandsSome done h
    complete-keeps = inr (eq-eqb h j (sym same))

    front-end : Each (NoEnd h) (ups L.recv.stage L.up.way) → ⊥
    front-end g =
        let e : Each (NoEnd h) (ups (r.Ended j (suc m) piece) L.up.way) =
        subst (λ (z : RecvStage). Each (NoEnd h) (ups z L.up.way)) at g in
        e.0 same

    complete-still : (x : ℕ) → w.send_link ≡ Some x → is_idle w.state ≡ false
        → Each (Still P done ms) (heard_with (w.links x).send.heard (w.links x).down.way)
    complete-still x sx live =
        each-map (Acked P (ups L.recv.stage L.up.way)) (Still P done ms) _
        (still-acked P done ms (ups L.recv.stage L.up.way)
        (λ gd am. not-completed j m t (subst (λ (z : ℕ). IsAmong z w.completed) (sym same) am))
        (λ gd ne am. front-end ne) live)
        (k.linked.cross x i sx ry).acked

    complete-part : (x : ℕ) → w.send_link ≡ Some x → SendOk (with_last P done ms) (w.links x)
    complete-part x sx =
        relast P done ms (w.links x).send.stage _ _ (w.links x).recv.stage (λ q am. among-more q w.completed _ am)
        (λ nd go gd st. complete-keeps) (complete-still x sx)
        (λ g. each-map (Resumed P) (Resumed (with_last P done ms)) _
        (resumed-last P done ms (λ st gd. complete-keeps)) g)
        (λ c gd st. complete-keeps) (k.linked.sends x sx)

    pub completes : Keeps spells octets (receiver_made w i (r.Complete j (suc m) piece))
    completes =
        kept done ms j [] _
        (step-linked done ms (record { stage = L.recv.stage; from = L.recv.from; acked = L.recv.acked })
        (k.linked.links i) refl (λ q am. among-more q w.completed _ am)
        (λ x sx ne. complete-part x sx) (λ sx. complete-part i sx))
        (elim k.in_step [
          | inl e ↦ inr (
            subst (λ (z : ℕ). is_ending w.state z ≡ true) same is-ending,
            ap (λ (z : List Message). z ++ record { activity = j; octets = octets_with w.pieces (suc m) piece } ∷ []) e
                ∙ ap (λ (z : List ℕ). w.sent ++ record { activity = j; octets = z } ∷ []) all-octets
                ∙ ap (λ (z : ℕ). w.sent ++ record { activity = z; octets = octets z } ∷ []) same,
            eq-eqb h j (sym same),
          )
          | inr g ↦ absurd (not-completed j m t
              (subst (λ (z : ℕ). IsAmong z w.completed) (sym same)
              (subst (λ (z : List Message). IsAmong h z) (sym g.1) (among-last h w.sent _ refl))))
        ])
        (completed_by spells w.size octets h w.high w.last w.pieces w.completed k.receives j _ (goes j m t).above
        (omega (arith, same)) good)

  -- Drop
  -- -----------------------------------------------------------------------------------------------------------------

  module _ (j : ℕ) (why : (L.recv.stage ≡ r.Discards j) ⊎ (L.recv.stage ≡ r.Found j))
      (part : is_partial_of w.last j ≡ true) where
    abbrev gone : Last
    gone = last.None

    is-h : StandsSome w.last h → j ≡ h
    is-h st = part-same w.last j h part st

    found-bad : L.recv.stage ≡ r.Found j → Bad P j
    found-bad e = subst (λ (z : RecvStage). Genuine w.size octets (Bad P) z) e (k.linked.links i).genuine

    -- what is dropped comes to nothing
    doomed : (x : ℕ) → w.send_link ≡ Some x → is_idle w.state ≡ false → Good P h → StandsSome w.last h
        → IsDoomed w.state (w.links x).send.stage
    doomed x sx live gd st =
        elim why [
          | inl e ↦
              (let c : Each (Discarded P (w.links x).send.stage) (ups (r.Discards j) L.up.way) =
              subst (λ (z : RecvStage). Each (Discarded P (w.links x).send.stage) (ups z L.up.way)) e
              (k.linked.cross x i sx ry).discarded in
              c.0 (subst (λ (z : ℕ). Good P z) (sym (is-h st)) gd)
              (subst (λ (z : ℕ). is_live w.state z ≡ true) (sym (is-h st)) (live-self w.state live)))
          | inr e ↦ bad-good P h _ (subst (λ (z : ℕ). Bad P z) (is-h st) (found-bad e)) gd
        ]

    drop-truth : (x : ℕ) → w.send_link ≡ Some x → is_dropping w.state ≡ false → IsGoing (w.links x).send.stage
        → Good P h → StandsSome w.last h → StandsSome gone h
    drop-truth x sx nd go gd st =
        elim (doomed x sx ((k.linked.sends x sx).idle ∙ going-rest (w.links x).send.stage go) gd st) [
          | inl e ↦ absurd (let c : true ≡ false = sym e ∙ nd in cc)
          | inr g ↦ absurd (first-not_going (w.links x).send.stage g.1 go)
        ]

    drop-stands : (x : ℕ) → w.send_link ≡ Some x → 1 ≤ confirmed_of w.state → Good P h → StandsSome w.last h
        → StandsSome gone h
    drop-stands x sx c gd st =
        elim (doomed x sx (confirmed-live w.state c) gd st) [
          | inl e ↦ absurd (omega (arith, c, dropping-confirmed w.state e))
          | inr g ↦ absurd (omega (arith, c, g.0))
        ]

    bad-resumed : Bad P j → (x : LaneUnit) → Resumed P x → Resumed (with_last P gone w.completed) x
    bad-resumed b = resumed-last P gone w.completed
        (λ st gd. bad-good P h _ (subst (λ (z : ℕ). Bad P z) (is-h st) b) gd)

    -- what is resumed on one link is not discarded on the other
    apart-resumed : L.recv.stage ≡ r.Discards j → (x : LaneUnit) → ResumedApart P (ups L.recv.stage L.up.way) x
        → Resumed P x → Resumed (with_last P gone w.completed) x
    apart-resumed e (Resume q n) g o = λ live same gd.
        let st : StandsSome w.last h = subst (λ (z : ℕ). StandsSome w.last z) same (o live same gd) in
        let none : Each (NoDiscard q) (ups (r.Discards j) L.up.way) =
        subst (λ (z : RecvStage). Each (NoDiscard q) (ups z L.up.way)) e (g gd) in
        absurd (none.0 (is-h st ∙ sym same))
    apart-resumed e any1 g o = tt

    by_badness : (A : Type 0) → (Bad P j → A) → ((Bad P j → ⊥) → A) → A
    by_badness A f g = by_test (spells (octets j)) refl
      where
        by_test : (b : Bool) → spells (octets j) ≡ b → A
        by_test true e = g (λ b. (let c : true ≡ false = sym e ∙ b in cc))
        by_test false e = f e

    here-resumed : w.send_link ≡ Some i → Each (Resumed P) (ups L.recv.stage L.up.way)
        → Each (Resumed (with_last P gone w.completed)) (ups L.recv.stage L.up.way)
    here-resumed sx g =
        let bad-all : Bad P j → Each (Resumed (with_last P gone w.completed)) (ups L.recv.stage L.up.way) =
        λ b. each-map (Resumed P) (Resumed (with_last P gone w.completed)) _ (bad-resumed b) g in
        elim why [
          | inl e ↦ by_badness _ bad-all
              (λ nb. subst (λ (z : RecvStage). Each (Resumed (with_last P gone w.completed)) (ups z L.up.way)) (sym e)
              (discard-resumed P gone w.completed h (phase L.send.stage) j (transfers L.up.way)
              (heard_with L.send.heard L.down.way) nb
              (subst (λ (z : RecvStage). Talk (Bad P) h (phase L.send.stage) z (ups z L.up.way)
              (heard_with L.send.heard L.down.way)) e (k.linked.sends i sx).talk)))
          | inr e ↦ bad-all (found-bad e)
        ]

    there-resumed : (x : ℕ) → w.send_link ≡ Some x → (x ≡ i → ⊥)
        → Each (Resumed P) (ups (w.links x).recv.stage (w.links x).up.way)
        → Each (Resumed (with_last P gone w.completed)) (ups (w.links x).recv.stage (w.links x).up.way)
    there-resumed x sx ne g =
        elim why [
          | inl e ↦ each-both (ResumedApart P (ups L.recv.stage L.up.way)) (Resumed P)
              (Resumed (with_last P gone w.completed)) _ (apart-resumed e) ((k.linked.cross x i sx ry).apart ne) g
          | inr e ↦ each-map (Resumed P) (Resumed (with_last P gone w.completed)) _ (bad-resumed (found-bad e)) g
        ]

    drop-part : (x : ℕ) (sx : w.send_link ≡ Some x)
        → (Each (Resumed P) (ups (w.links x).recv.stage (w.links x).up.way)
        → Each (Resumed (with_last P gone w.completed)) (ups (w.links x).recv.stage (w.links x).up.way))
        → SendOk (with_last P gone w.completed) (w.links x)
    drop-part x sx res =
        relast P gone w.completed (w.links x).send.stage _ _ (w.links x).recv.stage (λ q am. am) (drop-truth x sx)
        (λ live. still-none gone (w.links x).send.stage _ _ (w.links x).recv.stage (k.linked.sends x sx) live)
        res (drop-stands x sx) (k.linked.sends x sx)

    pub drops : Keeps spells octets (receiver_made w i (r.Drop j))
    drops =
        kept gone w.completed w.high [] _
        (step-linked gone w.completed (record { stage = L.recv.stage; from = L.recv.from; acked = L.recv.acked })
        (k.linked.links i) refl (λ q am. am)
        (λ x sx ne. drop-part x sx (there-resumed x sx ne)) (λ sx. drop-part i sx (here-resumed sx)))
        (elim k.in_step [ inl e ↦ inl e | inr g ↦ absurd (part-not_done w.last j h part g.2) ])
        (dropped spells w.size octets h w.high w.last w.pieces w.completed k.receives)

  pub makes : (step : RecvStep) → r.MayMake (recv_end w L.recv) step → Spells spells w step
      → Keeps spells octets (receiver_made w i step)
  makes (r.Secure j zero piece) m sp = absurd (not-zero w.high w.last j m.1)
  makes (r.Secure j (suc n) piece) m sp = secures j n piece m.0 m.1
  makes (r.Complete j zero piece) m sp = absurd (not-zero w.high w.last j m.1)
  makes (r.Complete j (suc n) piece) m sp = completes j n piece m.0 m.1 sp
  makes (r.Drop j) m sp = drops j m.0 m.1
