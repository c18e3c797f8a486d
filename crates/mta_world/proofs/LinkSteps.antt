-- The steps that change one link alone.
use Rattle.std.proofs.Common.{◌≡◌, ℕ, zero, suc, Bool, true, false, Some, None, List, [], ◌∷◌, ◌++◌, refl, sym, ◌∙◌, ap}
use Rattle.std.proofs.Common.{subst, arith, inl, inr, append_assoc, append-nil}
use Rattle.std.proofs.lemmas.Bool.{or_parts, or_from}
use Rattle.mta_lane_send.specs.Half.{last_of}
use Rattle.mta_lane_recv.specs.Half.{is_done, takes_piece}
use Rattle.mta_transfer_rules.specs.Units.{LaneUnit, Start, Piece, Sync, End, Resume, Discard, SyncAck, EndAck}
use Rattle.mta_transfer_rules.specs.Units.{ResumeAck, DiscardAck, Exception, Completed, Unrecognized, CannotRecover}
use Rattle.mta_transfer_rules.specs.Units.{Accept, Other}
use Rattle.mta_transfer_rules.specs.Pieces.{piece_of, is_last, octets_with}
use Rattle.mta_transfer_rules.specs.Sending as s
use Rattle.mta_transfer_rules.specs.Sending.{SendStage, SendEnd, is_transfer, is_accept, stage_put, stage_got}
use Rattle.mta_transfer_rules.specs.Receiving as r
use Rattle.mta_transfer_rules.specs.Receiving.{RecvStage, RecvEnd}
use Rattle.mta_world.specs.World.{World, Link, Queue, send_end, recv_end, send_part, recv_part, put_on, Takes}
use Rattle.mta_world.specs.Steps.{with_link, sender_put, sender_got, receiver_took, receiver_put, receiver_found}
use Rattle.mta_world.specs.Steps.{SenderUses, ReceiverUses, IsConfirming, IsFaulty}
use Rattle.mta_world.proofs.Units.{Each, each-snoc, pending, transfers, transfers-snoc, UpTo, IsSilent, NoEnd}
use Rattle.mta_world.proofs.Flow.{Flows, flows-snoc, place}
use Rattle.mta_world.proofs.Talk.{Genuine}
use Rattle.mta_world.proofs.Moves.{Moves, take-moves}
use Rattle.mta_world.proofs.Answers.{Answers}
use Rattle.mta_world.proofs.Sends.{Sends, sends_start, sends_resume, discards_first, discards_started, discards_next}
use Rattle.mta_world.proofs.Sends.{discards_sync, discards_last, discards_resume, sends_piece, sends_last, sends_sync}
use Rattle.mta_world.proofs.Sends.{sends_end, puts-send}
use Rattle.mta_world.proofs.Takes.{Shrinks, shrinks-same, moves-shrinks, cross-shrinks, take-link, take-send, Finds}
use Rattle.mta_world.proofs.Takes.{at_piece, at_sync, at_end, finds-shrinks, find-link, find-send}
use Rattle.mta_world.proofs.Puts.{heard-snoc, bad-good, put-answers, put-link, denied-bad, asked-live, put-send}
use Rattle.mta_world.proofs.Puts.{put-acked, cross-put, answers-shrinks}
use Rattle.mta_world.proofs.Speaks.{Tells, put-tells, part-unheard, cross-unheard, put-stands, put-parts, put-ended}
use Rattle.mta_world.proofs.Speaks.{put-cross_there, put-cross_both, got-parts, got-cross}
use Rattle.mta_world.proofs.Makes.{link-forgets}
use Rattle.mta_world.proofs.Durable.{GoesOn, piece-goes_on, not-zero}
use Rattle.mta_world.proofs.Receives.{front-bad, whole-octets}
use Rattle.mta_world.proofs.Claims.{Sides, Bad, heard_with, unheard, ups, NoAccept, LinkParts, LinkOk, SendParts}
use Rattle.mta_world.proofs.Claims.{SendOk, RecvOk, Ended, CrossParts, CrossOk, Acked, Linked}
use Rattle.mta_world.proofs.Keeps.{sides, Keeps, IsOf, some-same, takes-way, facts, keep-link}

-- a unit of a transfer goes behind the others
ups-transfer : (e : RecvStage) (way : List LaneUnit) (x : LaneUnit) → is_transfer x ≡ true
    → ups e (way ++ x ∷ []) ≡ ups e way ++ x ∷ []
ups-transfer e way x t =
    ap (λ (z : List LaneUnit). pending e ++ z)
    (transfers-snoc way x ∙ ap (λ (z : List LaneUnit). transfers way ++ z) (alone x t))
    ∙ sym (append_assoc (pending e) (transfers way) (x ∷ []))
  where
    alone : (x : LaneUnit) → is_transfer x ≡ true → transfers (x ∷ []) ≡ x ∷ []
    alone Accept t = absurd cc
    alone Other t = absurd cc
    alone _ t = refl

transfers-silent : (way : List LaneUnit) (x : LaneUnit) → transfers (x ∷ []) ≡ []
    → transfers (way ++ x ∷ []) ≡ transfers way
transfers-silent way x t = transfers-snoc way x ∙ ap (λ (z : List LaneUnit). transfers way ++ z) t
    ∙ append-nil (transfers way)

sends-upto : (size : ℕ) (octets : ℕ → List ℕ) (h : ℕ) (a b : SendStage) (x : LaneUnit) → Sends size octets h a x b
    → UpTo h x
sends-upto size octets h a b x sends_start = omega arith
sends-upto size octets h a b x sends_resume = omega arith
sends-upto size octets h a b x discards_first = omega arith
sends-upto size octets h a b x discards_started = omega arith
sends-upto size octets h a b x discards_next = omega arith
sends-upto size octets h a b x discards_sync = omega arith
sends-upto size octets h a b x discards_last = omega arith
sends-upto size octets h a b x discards_resume = omega arith
sends-upto size octets h a b x (sends_piece c) = tt
sends-upto size octets h a b x (sends_last c) = tt
sends-upto size octets h a b x sends_sync = tt
sends-upto size octets h a b x sends_end = omega arith

not-both : (b : Bool) (A : Type 0) → b ≡ true → b ≡ false → A
not-both b A t f = absurd (let c : true ≡ false = sym t ∙ f in cc)

no-accept : (x : LaneUnit) → NoAccept x → is_accept x ≡ false
no-accept Accept g = absurd g
no-accept _ g = refl

module _ (spells : List ℕ → Bool) (octets : ℕ → List ℕ) (w : World) (k : Keeps spells octets w) where
  abbrev P : Sides
  P = sides spells octets w

  pub with-links : (f : ℕ → Link) → Linked (sides spells octets w) f → Keeps spells octets (record w { links = f })
  with-links f l = record {
    linked = record { links = l.links; sends = l.sends; recvs = l.recvs; cross = l.cross };
    outcomes = k.outcomes;
    in_step = k.in_step;
    receives = k.receives;
    homeless = k.homeless;
    send_below = k.send_below;
    recv_below = k.recv_below;
  }

  -- a change that no claim speaks of
  pub unchanged : (i : ℕ) (v : Link) → LinkOk P v → (SendOk P (w.links i) → SendOk P v)
      → (RecvOk P (w.links i) → RecvOk P v)
      → ((y : ℕ) (b : Link) → CrossOk P i y (w.links i) b → CrossOk P i y v b)
      → ((x : ℕ) (a : Link) → CrossOk P x i a (w.links i) → CrossOk P x i a v)
      → Keeps spells octets (with_link w i v)
  unchanged i v lk sd rc cx cy =
      with-links _ (keep-link P w.links i v k.linked lk (λ sx o. sd o) (λ ry o. rc o)
      (λ sx ry c. cx i v (cy i (w.links i) c)) (λ y ne sx ry c. cx y (w.links y) c)
      (λ x ne sx ry c. cy x (w.links x) c))

  pub crashed : (f : ℕ → Link) → ((i : ℕ) → LinkOk P (w.links i) → LinkOk P (f i))
      → ((i : ℕ) → SendOk P (w.links i) → SendOk P (f i)) → ((i : ℕ) → RecvOk P (w.links i) → RecvOk P (f i))
      → ((x y : ℕ) → CrossOk P x y (w.links x) (w.links y) → CrossOk P x y (f x) (f y))
      → Keeps spells octets (record w { links = f })
  crashed f lk sd rc cr = with-links f (record {
    links = λ i. lk i (k.linked.links i);
    sends = λ x sx. sd x (k.linked.sends x sx);
    recvs = λ y ry. rc y (k.linked.recvs y ry);
    cross = λ x y sx ry. cr x y (k.linked.cross x y sx ry);
  })

  -- The receiving end takes a unit --------------------------------------------------------------------------

  pub took : (i : ℕ) (x : LaneUnit) (q : Queue) (e : RecvEnd) → Takes (w.links i).up x q
      → r.take (recv_end w (w.links i).recv) x ≡ Some e → Keeps spells octets (receiver_took w i q e)
  took i x q e tk te =
      let l : Link = w.links i in
      let st : RecvStage = l.recv.stage in
      let m : Moves st x e.stage = (take-moves (recv_end w l.recv) e x te).0 in
      let way : l.up.way ≡ x ∷ q.way = takes-way l.up q x tk in
      let lk : LinkParts P (x ∷ q.way) l.down.way l.send st l.send_joined l.recv_joined =
      subst (λ (z : List LaneUnit). LinkParts P z l.down.way l.send st l.send_joined l.recv_joined) way
      (k.linked.links i) in
      let sh : Shrinks (ups st l.up.way) (ups e.stage q.way) =
      subst (λ (z : List LaneUnit). Shrinks (ups st z) (ups e.stage q.way)) (sym way)
      (moves-shrinks st e.stage x q.way m) in
      with-links _ (keep-link P w.links i (record l { up = q; recv = recv_part e }) k.linked
      (take-link P x q.way l.down.way l.send st e.stage l.send_joined l.recv_joined m lk)
      (λ sx o. take-send P x q.way (heard_with l.send.heard l.down.way) l.send.stage st e.stage m lk.genuine lk.flows
      (subst (λ (z : List LaneUnit). SendParts P l.send.stage (heard_with l.send.heard l.down.way) (ups st z) st) way
      o))
      (λ ry o. sh.each (Ended P) o)
      (λ sx ry c. cross-shrinks P i i l.send.stage _ _ _ _ _ l.recv_joined sh sh c)
      (λ y ne sx ry c. cross-shrinks P i y l.send.stage _ _ _ _ _ l.recv_joined sh (shrinks-same _) c)
      (λ x' ne sx ry c. cross-shrinks P x' i (w.links x').send.stage _ _ _ _ _ (w.links x').recv_joined
      (shrinks-same _) sh c))

  -- It puts a unit --------------------------------------------------------------------------------------------

  never-bad : (j : ℕ) → is_done w.last j ≡ true → Bad P j → ⊥
  never-bad j g b = bad-good P j ⊥ b ((facts spells octets w k).good_done j ((facts spells octets w k).done j g))

  -- with a DiscardAck on the sending end's link, nothing is on another newest link of this end
  acked-there : (i y : ℕ) (x : LaneUnit) (V : List LaneUnit) → (IsConfirming x → V ≡ []) → Acked P V x
  acked-there i y (DiscardAck j) V f = λ live e g. subst (λ (z : List LaneUnit). Each (NoEnd j) z) (sym (f tt)) tt
  acked-there i y any2 V f = tt

  pub puts : (i : ℕ) (x : LaneUnit) → ReceiverUses (w.links i) → r.MayPut (recv_end w (w.links i).recv) x
      → (w.sender_opens ≡ false → IsConfirming x → w.recv_link ≡ Some i) → Keeps spells octets (receiver_put w i x)
  puts i x uses mp late =
      let l : Link = w.links i in
      let e : RecvEnd = recv_end w l.recv in
      let f : RecvStage = (r.put e x).stage in
      let T : List LaneUnit = transfers l.up.way in
      let D : List LaneUnit = heard_with l.send.heard l.down.way in
      let lk : LinkOk P l = k.linked.links i in
      let faulty : (j : ℕ) → e.stage ≡ r.Found j → Bad P j =
      λ j g. subst (λ (z : RecvStage). Genuine w.size octets (Bad P) z) g lk.genuine in
      let any : Answers (Bad P) (λ (j : ℕ). Unit {0}) e.stage x f =
      put-answers (Bad P) (λ (j : ℕ). Unit {0}) e x mp (λ j n a nd np. tt) never-bad faulty in
      let sh : Shrinks (ups e.stage l.up.way) (ups f l.up.way) =
      answers-shrinks (Bad P) (λ (j : ℕ). Unit {0}) e.stage f x T any in
      let known : (o : SendOk P l) → Answers (Bad P) (Bad P) e.stage x f =
      λ o. put-answers (Bad P) (Bad P) e x mp
      (λ j n a nd np. denied-bad P l.send.stage D T e o (facts spells octets w k) lk.genuine refl
      (asked-live P l.send.stage D T e o (facts spells octets w k) lk.genuine refl j n a) j n a nd np)
      never-bad faulty in
      let tell : heard_with l.send.heard (l.down.way ++ x ∷ []) ≡ D ++ x ∷ [] = heard-snoc l.send.heard l.down.way x in
      with-links _ (keep-link P w.links i (record l { down = put_on l.down x; recv = recv_part (r.put e x) }) k.linked
      (put-link P (λ (j : ℕ). Unit {0}) l.up.way l.down.way l.send e.stage f x l.send_joined l.recv_joined uses.0 any
      lk)
      (λ sx o. subst (λ (z : List LaneUnit). SendParts P l.send.stage z (ups f l.up.way) f) (sym tell)
      (put-send P l.send.stage D T e o (facts spells octets w k) lk.genuine refl x f mp (known o) lk.flows))
      (λ ry o. sh.each (Ended P) o)
      (λ sx ry c. subst (λ (z : List LaneUnit). CrossParts P i i l.send.stage z (ups f l.up.way) l.recv_joined
      (ups f l.up.way)) (sym tell)
      (cross-put P i i l.send.stage D (ups f l.up.way) (ups f l.up.way) l.recv_joined x
      (put-acked P l.send.stage D T e (k.linked.sends i sx) (facts spells octets w k) lk.genuine refl x mp f
      (known (k.linked.sends i sx)))
      (cross-shrinks P i i l.send.stage D _ _ _ _ l.recv_joined sh sh c)))
      (λ y ne sx ry c. subst (λ (z : List LaneUnit). CrossParts P i y l.send.stage z (ups f l.up.way) l.recv_joined
      (ups (w.links y).recv.stage (w.links y).up.way)) (sym tell)
      (cross-put P i y l.send.stage D (ups f l.up.way) _ l.recv_joined x
      (acked-there i y x _ (λ conf. empty_there i y uses late sx ry ne c conf))
      (cross-shrinks P i y l.send.stage D _ _ _ _ l.recv_joined sh (shrinks-same _) c)))
      (λ x' ne sx ry c. cross-shrinks P x' i (w.links x').send.stage _ _ _ _ _ (w.links x').recv_joined
      (shrinks-same _) sh c))
    where
      empty_there : (i y : ℕ) → ReceiverUses (w.links i)
          → (w.sender_opens ≡ false → IsConfirming x → w.recv_link ≡ Some i) → w.send_link ≡ Some i
          → w.recv_link ≡ Some y → (y ≡ i → ⊥)
          → CrossOk P i y (w.links i) (w.links y) → IsConfirming x → ups (w.links y).recv.stage (w.links y).up.way ≡ []
      empty_there i y uses late sx ry ne c conf = by_opener w.sender_opens refl
        where
          by_opener : (b : Bool) → w.sender_opens ≡ b → ups (w.links y).recv.stage (w.links y).up.way ≡ []
          by_opener true so = c.old so uses.0 (λ e. ne (sym e))
          by_opener false so = absurd (ne (some-same y i w.recv_link ry (late so conf)))

  -- It finds octets faulty --------------------------------------------------------------------------------------

  find-any : (i j : ℕ) → Finds (w.links i).recv.stage (r.Found j) j → Bad P j
      → Keeps spells octets (receiver_found w i j)
  find-any i j m b =
      let l : Link = w.links i in
      let T : List LaneUnit = transfers l.up.way in
      let sh : Shrinks (ups l.recv.stage l.up.way) (ups (r.Found j) l.up.way) =
      finds-shrinks l.recv.stage (r.Found j) j T m in
      with-links _ (keep-link P w.links i (record l { recv = recv_part (r.found (recv_end w l.recv) j) }) k.linked
      (find-link P l.up.way l.down.way l.send l.recv.stage (r.Found j) j l.send_joined l.recv_joined m b
      (k.linked.links i))
      (λ sx o. find-send P T (heard_with l.send.heard l.down.way) l.send.stage l.recv.stage (r.Found j) j m o)
      (λ ry o. sh.each (Ended P) o)
      (λ sx ry c. cross-shrinks P i i l.send.stage _ _ _ _ _ l.recv_joined sh sh c)
      (λ y ne sx ry c. cross-shrinks P i y l.send.stage _ _ _ _ _ l.recv_joined sh (shrinks-same _) c)
      (λ x' ne sx ry c. cross-shrinks P x' i (w.links x').send.stage _ _ _ _ _ (w.links x').recv_joined
      (shrinks-same _) sh c))

  goes : (j m : ℕ) → takes_piece w.high w.last j (suc m) ≡ true
      → GoesOn w.size octets w.high w.last w.pieces w.completed j m
  goes j m t = piece-goes_on w.size octets w.high w.last w.pieces w.completed j m k.receives.held t

  bad-at_sync : (i j n : ℕ) (piece : List ℕ) → Genuine w.size octets (Bad P) (r.Synced j n piece)
      → takes_piece w.high w.last j n ≡ true → IsFaulty spells (r.Synced j n piece) (octets_with w.pieces n piece)
      → Bad P j
  bad-at_sync i j zero piece g t f = absurd (not-zero w.high w.last j t)
  bad-at_sync i j (suc m) piece g t f =
      front-bad spells w.size octets (last_of w.state) w.high w.last w.pieces w.completed k.receives j m piece
      (goes j m t) g.0 g.1 f

  bad-at_piece : (i j n : ℕ) (piece : List ℕ) → Genuine w.size octets (Bad P) (r.Held j n piece)
      → takes_piece w.high w.last j n ≡ true → IsFaulty spells (r.Held j n piece) (octets_with w.pieces n piece)
      → Bad P j
  bad-at_piece i j zero piece g t f = absurd (not-zero w.high w.last j t)
  bad-at_piece i j (suc m) piece g t f = by_last (is_last w.size (octets j) (suc m)) refl
    where
      by_last : (b : Bool) → is_last w.size (octets j) (suc m) ≡ b → Bad P j
      by_last true e =
          sym (ap spells (whole-octets spells w.size octets
          (last_of w.state) w.high w.last w.pieces w.completed k.receives j m piece (goes j m t) g e))
          ∙ ap spells (sym (append-nil (octets_with w.pieces (suc m) piece))) ∙ f []
      by_last false e = front-bad spells w.size octets (last_of w.state) w.high w.last w.pieces w.completed k.receives j
          m piece (goes j m t) g e f

  bad-at_end : (i j n : ℕ) (piece : List ℕ) → piece ≡ piece_of w.size (octets j) n → is_last w.size (octets j) n ≡ true
      → takes_piece w.high w.last j n ≡ true → spells (octets_with w.pieces n piece) ≡ false → Bad P j
  bad-at_end i j zero piece g e t f = absurd (not-zero w.high w.last j t)
  bad-at_end i j (suc m) piece g e t f =
      sym (ap spells (whole-octets spells w.size octets (last_of w.state) w.high w.last w.pieces w.completed k.receives
      j m piece (goes j m t) g e)) ∙ f

  pub finds : (i j n : ℕ) (piece : List ℕ) → r.MayFind (recv_end w (w.links i).recv) j n piece
      → IsFaulty spells (w.links i).recv.stage (octets_with w.pieces n piece)
      → Keeps spells octets (receiver_found w i j)
  finds i j n piece mf f =
      let l : Link = w.links i in
      elim mf.0 [
        | inl e ↦
            find-any i j (subst (λ (z : RecvStage). Finds z (r.Found j) j) (sym e)
            (at_piece {k = j} {n = n} {o = piece}))
            (bad-at_piece i j n piece (subst (λ (z : RecvStage). Genuine w.size octets (Bad P) z) e
            (k.linked.links i).genuine) mf.1
            (subst (λ (z : RecvStage). IsFaulty spells z (octets_with w.pieces n piece)) e f))
        | inr more ↦ elim more [
          | inl e ↦
              find-any i j (subst (λ (z : RecvStage). Finds z (r.Found j) j) (sym e)
              (at_sync {k = j} {n = n} {o = piece}))
              (bad-at_sync i j n piece (subst (λ (z : RecvStage). Genuine w.size octets (Bad P) z) e
              (k.linked.links i).genuine) mf.1
              (subst (λ (z : RecvStage). IsFaulty spells z (octets_with w.pieces n piece)) e f))
          | inr e ↦
              (let fl : Flows w.size octets (place (r.Ended j n piece)) (ups (r.Ended j n piece) l.up.way) =
              subst (λ (z : RecvStage). Flows w.size octets (place z) (ups z l.up.way)) e (k.linked.links i).flows in
              find-any i j (subst (λ (z : RecvStage). Finds z (r.Found j) j) (sym e)
              (at_end {k = j} {n = n} {o = piece}))
              (bad-at_end i j n piece (subst (λ (z : RecvStage). Genuine w.size octets (Bad P) z) e
              (k.linked.links i).genuine) fl.0.1 mf.1
              (subst (λ (z : RecvStage). IsFaulty spells z (octets_with w.pieces n piece)) e f)))
        ]
      ]

  -- The sending end puts a unit ---------------------------------------------------------------------------------

  put_silent : (i : ℕ) (x : LaneUnit) → transfers (x ∷ []) ≡ []
      → Keeps spells octets (with_link w i
      (record (w.links i) {
        up = put_on (w.links i).up x;
        send =
            record { accepted = (w.links i).send.accepted; stage = (w.links i).send.stage; heard = None };
      }))
  put_silent i x t =
      let l : Link = w.links i in
      let st : RecvStage = l.recv.stage in
      let same : transfers (l.up.way ++ x ∷ []) ≡ transfers l.up.way = transfers-silent l.up.way x t in
      let V : List LaneUnit = ups st l.up.way in
      let W : List LaneUnit = ups st (l.up.way ++ x ∷ []) in
      let eq : V ≡ W = ap (λ (z : List LaneUnit). pending st ++ z) (sym same) in
      let b : LinkParts P l.up.way l.down.way
      (record { accepted = l.send.accepted; stage = l.send.stage; heard = None }) st l.send_joined l.recv_joined =
      link-forgets P l.up.way l.down.way l.send l.send.stage st l.send_joined l.recv_joined (k.linked.links i) in
      with-links _ (keep-link P w.links i _ k.linked
      (record {
        flows = subst (λ (z : List LaneUnit). Flows w.size octets (place st) z) eq b.flows;
        genuine = b.genuine;
        named = subst (λ (z : List LaneUnit). Each (UpTo (last_of w.state)) z) eq b.named;
        stage_named = b.stage_named;
        fresh = λ u. ((b.fresh u).0, same ∙ (b.fresh u).1, (b.fresh u).2);
        not_joined = b.not_joined;
        not_on = b.not_on;
      })
      (λ sx o. subst (λ (z : List LaneUnit). SendParts P l.send.stage l.down.way z st) eq
      (part-unheard P l.send.stage V st l.send.heard l.down.way o))
      (λ ry o. subst (λ (z : List LaneUnit). Each (Ended P) z) eq o)
      (λ sx ry c. subst (λ (z : List LaneUnit). CrossParts P i i l.send.stage l.down.way z l.recv_joined z) eq
      (cross-unheard P i i l.send.stage V l.recv_joined V l.send.heard l.down.way c))
      (λ y ne sx ry c. subst (λ (z : List LaneUnit). CrossParts P i y l.send.stage l.down.way z l.recv_joined
      (ups (w.links y).recv.stage (w.links y).up.way)) eq
      (cross-unheard P i y l.send.stage V l.recv_joined _ l.send.heard l.down.way c))
      (λ x' ne sx ry c. subst (λ (z : List LaneUnit). CrossParts P x' i (w.links x').send.stage
      (heard_with (w.links x').send.heard (w.links x').down.way) (ups (w.links x').recv.stage (w.links x').up.way)
      (w.links x').recv_joined z) eq c))

  put_transfer : IsOf octets w → (i : ℕ) (x : LaneUnit) → is_transfer x ≡ true → SenderUses (w.links i)
      → w.send_link ≡ Some i → s.MayPut (send_end w (w.links i).send) x → Keeps spells octets (sender_put w i x)
  put_transfer isof i x t uses sx mp =
      let l : Link = w.links i in
      let st : RecvStage = l.recv.stage in
      let h : ℕ = last_of w.state in
      let e : SendEnd = send_end w l.send in
      let a : SendStage = l.send.stage in
      let b : SendStage = stage_put e x in
      let V : List LaneUnit = ups st l.up.way in
      let m : Sends w.size octets h a x b = puts-send w.size octets e x t refl (sym (isof h (omega arith))) mp.1 in
      let tl : Tells w.state x = put-tells e x t mp.1 in
      let o : SendParts P a l.down.way V st = part-unheard P a V st l.send.heard l.down.way (k.linked.sends i sx) in
      let eq : V ++ x ∷ [] ≡ ups st (l.up.way ++ x ∷ []) = sym (ups-transfer st l.up.way x t) in
      let bs : LinkParts P l.up.way l.down.way (record { accepted = l.send.accepted; stage = b; heard = None }) st
      l.send_joined l.recv_joined =
      link-forgets P l.up.way l.down.way l.send b st l.send_joined l.recv_joined (k.linked.links i) in
      with-links _ (keep-link P w.links i (record l { up = put_on l.up x; send = send_part (s.put e x) }) k.linked
      (record {
        flows = subst (λ (z : List LaneUnit). Flows w.size octets (place st) z) eq
            (flows-snoc w.size octets (place st) V x bs.flows (put-stands P a b x l.down.way V st m o).0);
        genuine = bs.genuine;
        named = subst (λ (z : List LaneUnit). Each (UpTo h) z) eq
            (each-snoc (UpTo h) V x bs.named (sends-upto w.size octets h a b x m));
        stage_named = bs.stage_named;
        fresh = λ u. not-both l.send.accepted _ (mp.0 t) u;
        not_joined = λ so u. not-both l.send.accepted _ (mp.0 t) (bs.not_joined so u).0;
        not_on = bs.not_on;
      })
      (λ sx' o'. subst (λ (z : List LaneUnit). SendParts P b l.down.way z st) eq
      (put-parts P a b x l.down.way V st tl m o))
      (λ ry o'. subst (λ (z : List LaneUnit). Each (Ended P) z) eq (each-snoc (Ended P) V x o' (put-ended P x tl)))
      (λ sx' ry c. subst (λ (z : List LaneUnit). CrossParts P i i b l.down.way z l.recv_joined z) eq
      (put-cross_both P i a b x l.down.way V l.recv_joined V tl m o.truth
      (cross-unheard P i i a V l.recv_joined V l.send.heard l.down.way c)))
      (λ y ne sx' ry c. subst (λ (z : List LaneUnit). CrossParts P i y b l.down.way z l.recv_joined
      (ups (w.links y).recv.stage (w.links y).up.way)) eq
      (put-cross_there P i y a b x l.down.way V l.recv_joined _ tl m
      (cross-unheard P i y a V l.recv_joined _ l.send.heard l.down.way c)))
      (λ x' ne sx' ry c. absurd (ne (some-same x' i w.send_link sx' sx))))

  pub sends : IsOf octets w → (i : ℕ) (x : LaneUnit) → SenderUses (w.links i)
      → (is_transfer x ≡ true → w.send_link ≡ Some i) → s.MayPut (send_end w (w.links i).send) x
      → Keeps spells octets (sender_put w i x)
  sends isof i Accept uses on mp = put_silent i Accept refl
  sends isof i Other uses on mp = put_silent i Other refl
  sends isof i (Start j) uses on mp = put_transfer isof i (Start j) refl uses (on refl) mp
  sends isof i (Piece o) uses on mp = put_transfer isof i (Piece o) refl uses (on refl) mp
  sends isof i (Sync n) uses on mp = put_transfer isof i (Sync n) refl uses (on refl) mp
  sends isof i (End j) uses on mp = put_transfer isof i (End j) refl uses (on refl) mp
  sends isof i (Resume j n) uses on mp = put_transfer isof i (Resume j n) refl uses (on refl) mp
  sends isof i (Discard j) uses on mp = put_transfer isof i (Discard j) refl uses (on refl) mp
  sends isof i any2 uses on mp = absurd mp.1

  -- It gets one --------------------------------------------------------------------------------------------------

  pub hears : (i : ℕ) (x : LaneUnit) (q : Queue) → SenderUses (w.links i) → Takes (w.links i).down x q
      → Keeps spells octets (sender_got w i x q)
  hears i x q uses tk =
      let l : Link = w.links i in
      let st : RecvStage = l.recv.stage in
      let a : SendStage = l.send.stage in
      let V : List LaneUnit = ups st l.up.way in
      let way : l.down.way ≡ x ∷ q.way = takes-way l.down q x tk in
      let lk : LinkParts P l.up.way (x ∷ q.way) l.send st l.send_joined l.recv_joined =
      subst (λ (z : List LaneUnit). LinkParts P l.up.way z l.send st l.send_joined l.recv_joined) way
      (k.linked.links i) in
      with-links _ (keep-link P w.links i (record l { down = q; send = send_part (s.got (send_end w l.send) x) })
      k.linked
      (record {
        flows = lk.flows;
        genuine = lk.genuine;
        named = lk.named;
        stage_named = lk.stage_named;
        fresh = λ u. (let n : l.send.accepted ≡ false = (or_parts l.send.accepted (is_accept x) u).0 in (
          (lk.fresh n).0,
          (lk.fresh n).1,
          unheard (λ (D : List LaneUnit). Each IsSilent D) (λ y D g. g.1) l.send.heard (x ∷ q.way)
              (lk.fresh n).2,
        ));
        not_joined = λ so u. (let n : (l.send.accepted ≡ false) × Each NoAccept (heard_with l.send.heard (x ∷ q.way)) =
            lk.not_joined so u in
            let t : Each NoAccept (x ∷ q.way) =
            unheard (λ (D : List LaneUnit). Each NoAccept D) (λ y D g. g.1) l.send.heard (x ∷ q.way) n.1 in
            (or_from l.send.accepted (is_accept x) n.0 (no-accept x t.0), t));
        not_on = λ so u. not-both l.send_joined _ uses.0 u;
      })
      (λ sx o. got-parts P a l.send.heard x q.way V st
      (subst (λ (z : List LaneUnit). SendParts P a (heard_with l.send.heard z) V st) way o))
      (λ ry o. o)
      (λ sx ry c. got-cross P i i a l.send.heard x q.way V l.recv_joined V
      (subst (λ (z : List LaneUnit). CrossParts P i i a (heard_with l.send.heard z) V l.recv_joined V) way c))
      (λ y ne sx ry c. got-cross P i y a l.send.heard x q.way V l.recv_joined _
      (subst (λ (z : List LaneUnit). CrossParts P i y a (heard_with l.send.heard z) V l.recv_joined
      (ups (w.links y).recv.stage (w.links y).up.way)) way c))
      (λ x' ne sx ry c. c))
