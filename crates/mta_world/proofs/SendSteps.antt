-- The steps of the sending end's half.
use Rattle.std.proofs.Common.{◌≡◌, ◌⊎◌, ◌<◌, ◌≤◌, ℕ, ◌+◌, ◌==◌, Bool, true, false, Option, Some, None, List, [], ◌∷◌}
use Rattle.std.proofs.Common.{◌++◌, refl, sym, ◌∙◌, ap, subst, arith, inl, inr}
use Rattle.std.proofs.lemmas.Bool.{eqb-true, eq-eqb}
use Rattle.mta_lane_send.specs.declared.state.SendState.{SendState}
use Rattle.mta_lane_send.specs.declared.state.SendState.TheVariants as state
use Rattle.mta_lane_send.specs.Half.{last_of, is_idle, is_live, is_ending, is_sending, goes_on, confirmed_of}
use Rattle.mta_lane_send.specs.Half.{confirmed_at}
use Rattle.mta_lane_recv.specs.Half.{is_done}
use Rattle.mta_transfer_rules.specs.Units.{LaneUnit, SyncAck, EndAck, DiscardAck, Exception, Completed, Unrecognized}
use Rattle.mta_transfer_rules.specs.Units.{CannotRecover}
use Rattle.mta_transfer_rules.specs.Sending as s
use Rattle.mta_transfer_rules.specs.Sending.{SendStage, SendEnd, SendStep, is_dropping, synced, IsCalledBy}
use Rattle.mta_world.specs.World.{World, Link, Message, Outcome, Unsettled, Was_sent, Was_dropped, Was_refused}
use Rattle.mta_world.specs.World.{Was_denied, set_at, send_end}
use Rattle.mta_world.specs.Agrees.{IsAmong}
use Rattle.mta_world.specs.Steps.{with_link, sender_made, given_up, IsOnNewest}
use Rattle.mta_world.proofs.Units.{Each, each-map, Ends, NoEnd}
use Rattle.mta_world.proofs.Sends.{ending-last}
use Rattle.mta_world.proofs.Speaks.{part-unheard, cross-unheard}
use Rattle.mta_world.proofs.Makes.{with_state, link-state, link-forgets, restate, settled, started, ended-with}
use Rattle.mta_world.proofs.Makes.{ended-settled, cross-with, cross-started, confirmed-last, confirmed-idle}
use Rattle.mta_world.proofs.Makes.{confirmed-dropping, confirmed-live, confirmed-ending, synced-going, first-not_going}
use Rattle.mta_world.proofs.Durable as d
use Rattle.mta_world.proofs.Durable.{EachOf, each_of-map, each_of-snoc, among-last, set-same, set-other, bound}
use Rattle.mta_world.proofs.Durable.{bound-live, bound-idle, Outcomes, InStep, IsAhead, Receives, done-good}
use Rattle.mta_world.proofs.Puts.{bad-good}
use Rattle.mta_world.proofs.Claims.{Sides, Bad, Good, StandsSome, heard_with, ups, SendParts, RecvOk, Ended, CrossParts}
use Rattle.mta_world.proofs.Claims.{Linked, relinked, IsDoomed}
use Rattle.mta_world.proofs.Keeps.{sides, Keeps, IsOf, some-same, facts, not_sent}

-- States --------------------------------------------------------------------------------------------------------

ending-live : (st : SendState) (k : ℕ) → is_ending st k ≡ true → (is_idle st ≡ false) × (is_dropping st ≡ false)
    × (is_ending st (last_of st) ≡ true)
ending-live (state.Ending j c) k g = (refl, refl, eq-eqb j j refl)
ending-live any0 k g = absurd cc

sending-live : (st : SendState) (k : ℕ) → is_sending st k ≡ true → (is_idle st ≡ false) × (is_dropping st ≡ false)
    × ((j : ℕ) → is_ending st j ≡ false)
sending-live (state.Sending j c) k g = (refl, refl, λ i. refl)
sending-live any0 k g = absurd cc

sending-confirmed : (st : SendState) (k : ℕ) → is_sending st k ≡ true → (j : ℕ) → is_live st j ≡ (j == last_of st)
sending-confirmed (state.Sending i c) k g j = refl
sending-confirmed any0 k g j = absurd cc

going-state : (st : SendState) (k : ℕ) → goes_on st k ≡ true → (is_idle st ≡ false) × (is_dropping st ≡ false)
going-state (state.Sending j c) k g = (refl, refl)
going-state (state.Ending j c) k g = (refl, refl)
going-state any0 k g = absurd cc

live-last : (st : SendState) (k : ℕ) → is_live st k ≡ true → (is_idle st ≡ false) × (k ≡ last_of st)
live-last (state.Idle l) k g = absurd cc
live-last (state.Sending j c) k g = (refl, eqb-true k j g)
live-last (state.Ending j c) k g = (refl, eqb-true k j g)
live-last (state.Dropping j) k g = (refl, eqb-true k j g)

idle-bound : (st : SendState) → is_idle st ≡ true → last_of st + 1 ≡ bound st
idle-bound st e = sym (bound-idle st e)

confirmed-bound : (st : SendState) (n : ℕ) → bound (confirmed_at st n) ≡ bound st
confirmed-bound (state.Idle l) n = refl
confirmed-bound any0 n = refl

idle-not_ending : (st : SendState) (j : ℕ) → is_idle st ≡ true → is_ending st j ≡ true → ⊥
idle-not_ending (state.Idle l) j i e = cc
idle-not_ending any0 j i e = cc

module _ (spells : List ℕ → Bool) (octets : ℕ → List ℕ) (w : World) (k : Keeps spells octets w) where
  abbrev P : Sides
  P = sides spells octets w

  abbrev h : ℕ
  h = last_of w.state

  -- A step on the newest link: the state and the part of the sending end change -------------------------------

  pub step-linked : (st : SendState) (i : ℕ) (b : SendStage) (D : List LaneUnit) → w.send_link ≡ Some i → h ≤ last_of st
      → (w.links i).down.way ≡ D
      → SendParts (with_state P st) b D (ups (w.links i).recv.stage (w.links i).up.way) (w.links i).recv.stage
      → ((y : ℕ) → w.recv_link ≡ Some y → RecvOk (with_state P st) (w.links y))
      → ((y : ℕ) → w.recv_link ≡ Some y
      → CrossParts (with_state P st) i y b D (ups (w.links i).recv.stage (w.links i).up.way) (w.links i).recv_joined
      (ups (w.links y).recv.stage (w.links y).up.way))
      → Linked (with_state P st) (set_at w.links i
      (record (w.links i) { send = record { accepted = (w.links i).send.accepted; stage = b; heard = None } }))
  step-linked st i b D sx le way sd rc cr =
      let l : Link = w.links i in
      let q : Sides = with_state P st in
      let v : Link = record l { send = record { accepted = l.send.accepted; stage = b; heard = None } } in
      relinked P q w.links i v k.linked (record {
        others = λ a g. link-state P st a.up.way a.down.way a.send a.recv.stage a.send_joined a.recv_joined le g;
        link = link-state P st l.up.way l.down.way v.send l.recv.stage l.send_joined l.recv_joined le
            (link-forgets P l.up.way l.down.way l.send b l.recv.stage l.send_joined l.recv_joined (k.linked.links i));
        send_here = λ sx'. subst (λ (z : List LaneUnit). SendParts q b z (ups l.recv.stage l.up.way) l.recv.stage)
            (sym way) sd;
        send_there = λ x ne sx'. absurd (ne (some-same x i w.send_link sx' sx));
        recv_here = λ ry. rc i ry;
        recv_there = λ y ne ry. rc y ry;
        both_here = λ sx' ry. subst (λ (z : List LaneUnit). CrossParts q i i b z
            (ups l.recv.stage l.up.way) l.recv_joined (ups l.recv.stage l.up.way)) (sym way) (cr i ry);
        sends_here = λ y ne sx' ry. subst
            (λ (z : List LaneUnit). CrossParts q i y b z (ups l.recv.stage l.up.way) l.recv_joined
            (ups (w.links y).recv.stage (w.links y).up.way)) (sym way) (cr y ry);
        recvs_here = λ x ne sx' ry. absurd (ne (some-same x i w.send_link sx' sx));
        none_here = λ x y nx ny sx' ry. absurd (nx (some-same x i w.send_link sx' sx));
      })

  -- A unit is heard: the list of answers begins with it
  heard-list : (i : ℕ) (x : LaneUnit) → (w.links i).send.heard ≡ Some x
      → heard_with (w.links i).send.heard (w.links i).down.way ≡ x ∷ (w.links i).down.way
  heard-list i x e = ap (λ (o : Option LaneUnit). heard_with o (w.links i).down.way) e

  at-heard : (i : ℕ) (x : LaneUnit) → w.send_link ≡ Some i → (w.links i).send.heard ≡ Some x
      → SendParts P (w.links i).send.stage (x ∷ (w.links i).down.way) (ups (w.links i).recv.stage (w.links i).up.way)
      (w.links i).recv.stage
  at-heard i x sx e =
      subst (λ (z : List LaneUnit). SendParts P (w.links i).send.stage z (ups (w.links i).recv.stage (w.links i).up.way)
      (w.links i).recv.stage) (heard-list i x e) (k.linked.sends i sx)

  cross-heard : (i y : ℕ) (x : LaneUnit) → w.send_link ≡ Some i → w.recv_link ≡ Some y → (w.links i).send.heard ≡ Some x
      → CrossParts P i y (w.links i).send.stage (x ∷ (w.links i).down.way)
      (ups (w.links i).recv.stage (w.links i).up.way) (w.links i).recv_joined
      (ups (w.links y).recv.stage (w.links y).up.way)
  cross-heard i y x sx ry e =
      subst (λ (z : List LaneUnit). CrossParts P i y (w.links i).send.stage z
      (ups (w.links i).recv.stage (w.links i).up.way) (w.links i).recv_joined
      (ups (w.links y).recv.stage (w.links y).up.way))
      (heard-list i x e) (k.linked.cross i y sx ry)

  cross-quiet : (i y : ℕ) → w.send_link ≡ Some i → w.recv_link ≡ Some y
      → CrossParts P i y (w.links i).send.stage (w.links i).down.way (ups (w.links i).recv.stage (w.links i).up.way)
      (w.links i).recv_joined (ups (w.links y).recv.stage (w.links y).up.way)
  cross-quiet i y sx ry = cross-unheard P i y (w.links i).send.stage _ (w.links i).recv_joined _ (w.links i).send.heard
      (w.links i).down.way (k.linked.cross i y sx ry)

  part-quiet : (i : ℕ) → w.send_link ≡ Some i
      → SendParts P (w.links i).send.stage (w.links i).down.way (ups (w.links i).recv.stage (w.links i).up.way)
      (w.links i).recv.stage
  part-quiet i sx = part-unheard P (w.links i).send.stage _ (w.links i).recv.stage (w.links i).send.heard
      (w.links i).down.way (k.linked.sends i sx)

  -- Where the activity stays under way ----------------------------------------------------------------------------

  outcomes-same : (st : SendState) → last_of st ≡ h → bound st ≡ bound w.state → is_idle st ≡ is_idle w.state
      → is_dropping st ≡ is_dropping w.state → Outcomes spells octets st w.outcome w.abandoned w.sent
  outcomes-same st e b i dr = record {
    later = λ j lt. k.outcomes.later j (omega (arith, lt, e));
    live = λ live. (
      subst (λ (z : ℕ). w.outcome z ≡ Unsettled) (sym e) (k.outcomes.live (sym i ∙ live)).0,
      subst (λ (z : ℕ). w.abandoned z ≡ is_dropping st) (sym e) ((k.outcomes.live (sym i ∙ live)).1 ∙ sym dr),
    );
    sent_ones = subst (λ (z : ℕ). EachOf
        (λ m. (m.activity < z) × (w.outcome m.activity ≡ Was_sent) × (w.abandoned m.activity ≡ false)) w.sent)
        (sym b) k.outcomes.sent_ones;
    denied = k.outcomes.denied;
  }

  receives-same : (st : SendState) → last_of st ≡ h
      → Receives spells w.size octets (last_of st) w.high w.last w.pieces w.completed
  receives-same st e = subst (λ (z : ℕ). Receives spells w.size octets z w.high w.last w.pieces w.completed)
      (sym e) k.receives

  -- Confirm
  module _ (i n : ℕ) (sx : w.send_link ≡ Some i) (hd : (w.links i).send.heard ≡ Some (SyncAck n))
      (going : goes_on w.state h ≡ true) (above : confirmed_of w.state < n)
      (put : n ≤ synced (w.links i).send.stage) where
    abbrev st' : SendState
    st' = confirmed_at w.state n

    confirm-stands : Good P h → StandsSome w.last h
    confirm-stands gd =
        ((at-heard i (SyncAck n) sx hd).truth (going-state w.state h going).0).0 (going-state w.state h going).1
        (synced-going (w.links i).send.stage (confirmed_of w.state) n above put) gd

    confirm-doomed : (j : ℕ) → is_live st' j ≡ true → (is_live w.state j ≡ true)
        × (IsDoomed w.state (w.links i).send.stage → IsDoomed st' (w.links i).send.stage)
    confirm-doomed j lv = (
      sym (confirmed-live w.state n j) ∙ lv,
      λ dm. elim dm [
        | inl e ↦ inl (confirmed-dropping w.state n ∙ e)
        | inr g ↦ absurd (first-not_going (w.links i).send.stage g.1
            (synced-going (w.links i).send.stage (confirmed_of w.state) n above put))
      ],
    )

    pub confirmed : Keeps spells octets (sender_made w i (s.Confirm n))
    confirmed =
        let l : Link = w.links i in
        let a : SendStage = l.send.stage in
        record {
          linked = (let g : Linked (with_state P st')
              (set_at w.links i (record l { send = record { accepted = l.send.accepted; stage = a; heard = None } })) =
              step-linked st' i a l.down.way sx (omega (arith, confirmed-last w.state n)) refl
              (restate P st' a l.down.way _ l.recv.stage (confirmed-last w.state n) (confirmed-idle w.state n)
              (λ e. sym (confirmed-dropping w.state n) ∙ e)
              (λ c gd. subst (λ (z : ℕ). StandsSome w.last z) (sym (confirmed-last w.state n))
              (confirm-stands (subst (λ (z : ℕ). Good P z) (confirmed-last w.state n) gd)))
              (part-quiet i sx))
              (λ y ry. each-map (Ended P) (Ended (with_state P st')) _
              (ended-with P st' (λ j gd e. inl (confirmed-ending w.state n j ∙ e))) (k.linked.recvs y ry))
              (λ y ry. cross-with P st' a a i y l.down.way _ l.recv_joined _
              (λ e. (sym (confirmed-idle w.state n) ∙ e, confirmed-last w.state n)) confirm-doomed
              (cross-quiet i y sx ry))
              in record { links = g.links; sends = g.sends; recvs = g.recvs; cross = g.cross });
          outcomes = outcomes-same st' (confirmed-last w.state n) (confirmed-bound w.state n) (confirmed-idle w.state n)
              (confirmed-dropping w.state n);
          in_step = elim k.in_step [
            | inl e ↦ inl e
            | inr g ↦ inr (
              subst (λ (z : ℕ). is_ending st' z ≡ true) (sym (confirmed-last w.state n))
                  (confirmed-ending w.state n h ∙ g.0),
              subst (λ (z : ℕ). w.completed ≡ w.sent ++ record { activity = z; octets = octets z } ∷ [])
                  (sym (confirmed-last w.state n)) g.1,
              subst (λ (z : ℕ). is_done w.last z ≡ true) (sym (confirmed-last w.state n)) g.2,
            )
          ];
          receives = receives-same st' (confirmed-last w.state n);
          homeless = λ e. confirmed-idle w.state n ∙ k.homeless e;
          send_below = k.send_below;
          recv_below = k.recv_below;
        }

  -- To_end
  pub ending : (i : ℕ) → w.send_link ≡ Some i → is_sending w.state h ≡ true
      → Keeps spells octets (sender_made w i s.To_end)
  ending i sx sg =
      let l : Link = w.links i in
      let a : SendStage = l.send.stage in
      let st : SendState = state.Ending h (confirmed_of w.state) in
      let live : is_idle w.state ≡ false = (sending-live w.state h sg).0 in
      let dr : is_dropping w.state ≡ false = (sending-live w.state h sg).1 in
      record {
        linked = (let g : Linked (with_state P st)
            (set_at w.links i (record l { send = record { accepted = l.send.accepted; stage = a; heard = None } })) =
            step-linked st i a l.down.way sx (omega arith) refl
            (restate P st a l.down.way _ l.recv.stage refl (sym live) (λ e. dr) (part-quiet i sx).stands
            (part-quiet i sx))
            (λ y ry. each-map (Ended P) (Ended (with_state P st)) _
            (ended-with P st (λ j gd e. absurd (let c : true ≡ false = sym e ∙ (sending-live w.state h sg).2 j in
            cc))) (k.linked.recvs y ry))
            (λ y ry. cross-with P st a a i y l.down.way _ l.recv_joined _ (λ e. (live, refl))
            (λ j lv. (
              sending-confirmed w.state h sg j ∙ lv,
              λ dm. elim dm [ inl e ↦ absurd (let c : true ≡ false = sym e ∙ dr in cc) | inr g ↦ inr g ],
            ))
            (cross-quiet i y sx ry))
            in record { links = g.links; sends = g.sends; recvs = g.recvs; cross = g.cross });
        outcomes = outcomes-same st refl (sym (bound-live w.state live)) (sym live) (sym dr);
        in_step = elim k.in_step [
          | inl e ↦ inl e
          | inr g ↦ absurd (let c : true ≡ false = sym g.0 ∙ (sending-live w.state h sg).2 h in cc)
        ];
        receives = k.receives;
        homeless = λ e. absurd (let c : true ≡ false = sym (k.homeless e) ∙ live in cc);
        send_below = k.send_below;
        recv_below = k.recv_below;
      }

  -- Start
  pub starts : (i : ℕ) (new : List ℕ) → w.send_link ≡ Some i → is_idle w.state ≡ true → (w.links i).send.stage ≡ s.Quiet
      → Keeps spells octets (sender_made w i (s.Start new))
  starts i new sx idle at =
      let l : Link = w.links i in
      let st : SendState = state.Sending (h + 1) 0 in
      let o : SendParts P s.Quiet l.down.way (ups l.recv.stage l.up.way) l.recv.stage =
      subst (λ (z : SendStage). SendParts P z l.down.way (ups l.recv.stage l.up.way) l.recv.stage) at
      (part-quiet i sx) in
      record {
        linked = (let g : Linked (with_state P st)
            (set_at w.links i (record l {
              send =
                  record { accepted = l.send.accepted; stage = s.Started (h + 1); heard = None };
            })) =
            step-linked st i (s.Started (h + 1)) l.down.way sx (omega arith) refl
            (started P l.down.way _ l.recv.stage o)
            (λ y ry. each-map (Ended P) (Ended (with_state P st)) _
            (ended-with P st (λ j gd e. absurd (idle-not_ending w.state j idle e))) (k.linked.recvs y ry))
            (λ y ry. cross-started P l.send.stage i y l.down.way _ l.recv_joined _ (k.linked.links y).named o.talk.1
            (cross-quiet i y sx ry))
            in record { links = g.links; sends = g.sends; recvs = g.recvs; cross = g.cross });
        outcomes = record {
          later = λ j lt. k.outcomes.later j (omega (arith, lt));
          live = λ live. k.outcomes.later (h + 1) (omega arith);
          sent_ones = subst (λ (z : ℕ). EachOf
              (λ m. (m.activity < z) × (w.outcome m.activity ≡ Was_sent) × (w.abandoned m.activity ≡ false)) w.sent)
              (bound-idle w.state idle) k.outcomes.sent_ones;
          denied = k.outcomes.denied;
        };
        in_step = elim k.in_step [ inl e ↦ inl e | inr g ↦ absurd (idle-not_ending w.state h idle g.0) ];
        receives = record {
          high_below = (let le : w.high ≤ h = k.receives.high_below in omega (arith, le));
          held =
              k.receives.held;
          done_ones = k.receives.done_ones;
        };
        homeless = λ e. absurd (let c : Some i ≡ None = sym sx ∙ e in cc);
        send_below = k.send_below;
        recv_below = k.recv_below;
      }

  -- The activity is given up
  pub abandons : is_sending w.state h ≡ true → Keeps spells octets (given_up w)
  abandons sg =
      let st : SendState = state.Dropping h in
      let q : Sides = with_state P st in
      let live : is_idle w.state ≡ false = (sending-live w.state h sg).0 in
      record {
        linked = record {
          links = λ i. link-state P st _ _ _ _ _ _ (omega arith) (k.linked.links i);
          sends = λ x sx. restate P st (w.links x).send.stage _ _ (w.links x).recv.stage refl (sym live)
              (λ e. absurd (let c : true ≡ false = e in cc))
              (λ c gd. absurd (let z : 1 ≤ 0 = c in omega (arith, z))) (k.linked.sends x sx);
          recvs = λ y ry. each-map (Ended P) (Ended q) _
              (ended-with P st (λ j gd e. absurd (let c : true ≡ false = sym e ∙ (sending-live w.state h sg).2 j in
              cc))) (k.linked.recvs y ry);
          cross = λ x y sx ry. cross-with P st (w.links x).send.stage (w.links x).send.stage x y _ _
              (w.links x).recv_joined _ (λ e. (live, refl))
              (λ j lv. (sending-confirmed w.state h sg j ∙ lv, λ dm. inl refl)) (k.linked.cross x y sx ry);
        };
        outcomes = record {
          later = λ j lt. (
            (k.outcomes.later j lt).0,
            set-other w.abandoned h true j (λ (z : Bool). z ≡ false) (λ e. omega (arith, e, lt))
                (k.outcomes.later j lt).1,
          );
          live = λ lv. ((k.outcomes.live live).0, set-same w.abandoned h true (λ (z : Bool). z ≡ true) refl);
          sent_ones = each_of-map (λ m. (m.activity < bound w.state) × (w.outcome m.activity ≡ Was_sent)
              × (w.abandoned m.activity ≡ false))
              (λ m. (m.activity < h) × (w.outcome m.activity ≡ Was_sent)
              × (set_at w.abandoned h true m.activity ≡ false)) w.sent
              (λ m g. (let lt : m.activity < h = subst (λ (z : ℕ). m.activity < z) (bound-live w.state live) g.0 in (
                lt,
                g.1,
                set-other w.abandoned h true m.activity (λ (z : Bool). z ≡ false)
                    (λ e. omega (arith, e, lt)) g.2,
              ))) k.outcomes.sent_ones;
          denied = k.outcomes.denied;
        };
        in_step = elim k.in_step [
          | inl e ↦ inl e
          | inr g ↦ absurd (let c : true ≡ false = sym g.0 ∙ (sending-live w.state h sg).2 h in cc)
        ];
        receives = k.receives;
        homeless = λ e. absurd (let c : true ≡ false = sym (k.homeless e) ∙ live in cc);
        send_below = k.send_below;
        recv_below = k.recv_below;
      }

  -- Settling ------------------------------------------------------------------------------------------------------

  settle-linked : (i : ℕ) (x : LaneUnit) → w.send_link ≡ Some i → (w.links i).send.heard ≡ Some x
      → is_idle w.state ≡ false → Ends h x
      → ((y : ℕ) → w.recv_link ≡ Some y → Bad P h
      ⊎ (IsAmong h w.completed ⊎ Each (NoEnd h) (ups (w.links y).recv.stage (w.links y).up.way)))
      → Linked (with_state P (state.Idle h))
      (set_at w.links i (record (w.links i) {
        send =
            record { accepted = (w.links i).send.accepted; stage = s.Quiet; heard = None };
      }))
  settle-linked i x sx hd live en why =
      let l : Link = w.links i in
      step-linked (state.Idle h) i s.Quiet l.down.way sx (omega arith) refl
      (settled P l.send.stage x l.down.way _ l.recv.stage live en (at-heard i x sx hd))
      (λ y ry. ended-settled P (state.Idle h) _ (why y ry) (k.linked.recvs y ry))
      (λ y ry. cross-with P (state.Idle h) l.send.stage s.Quiet i y l.down.way _ l.recv_joined _
      (λ e. absurd (let c : true ≡ false = e in cc)) (λ j lv. absurd (let c : false ≡ true = lv in cc))
      (cross-quiet i y sx ry))

  -- what is settled otherwise than as sent
  settle-outcomes : (o : Outcome) → is_idle w.state ≡ false → (o ≡ Was_denied → Bad P h)
      → Outcomes spells octets (state.Idle h) (set_at w.outcome h o) w.abandoned w.sent
  settle-outcomes o live why = record {
    later = λ j lt. (
      set-other w.outcome h o j (λ (z : Outcome). z ≡ Unsettled) (λ e. omega (arith, e, lt))
          (k.outcomes.later j lt).0,
      (k.outcomes.later j lt).1,
    );
    live = λ i. absurd (let c : true ≡ false = i in cc);
    sent_ones = each_of-map (λ m. (m.activity < bound w.state) × (w.outcome m.activity ≡ Was_sent)
        × (w.abandoned m.activity ≡ false))
        (λ m. (m.activity < h + 1) × (set_at w.outcome h o m.activity ≡ Was_sent) × (w.abandoned m.activity ≡ false))
        w.sent
        (λ m g. (let lt : m.activity < h = subst (λ (z : ℕ). m.activity < z) (bound-live w.state live) g.0 in (
          omega (arith, lt),
          set-other w.outcome h o m.activity (λ (z : Outcome). z ≡ Was_sent)
              (λ e. omega (arith, e, lt)) g.1,
          g.2,
        ))) k.outcomes.sent_ones;
    denied = λ j e.
        d.set-case w.outcome h o j (λ (z : Outcome). z ≡ Was_denied → spells (octets j) ≡ false)
        (λ same g. subst (λ (z : ℕ). spells (octets z) ≡ false) (sym same) (why g)) (λ ne g. k.outcomes.denied j g) e;
  }

  -- an activity that is not complete leaves what was completed as it is
  in-step-apart : (IsAmong h w.completed → ⊥) → w.completed ≡ w.sent
  in-step-apart nc = elim k.in_step [
    | inl e ↦ e
    | inr g ↦ absurd (nc (subst (λ (z : List Message). IsAmong h z) (sym g.1) (among-last h w.sent _ refl)))
  ]

  -- an activity that is complete is the one ahead
  in-step-ahead : is_idle w.state ≡ false → IsAmong h w.completed → IsAhead octets w.state w.last w.sent w.completed
  in-step-ahead live am = elim k.in_step [
    | inl e ↦ absurd (not_sent w k.outcomes.sent_ones live (subst (λ (z : List Message). IsAmong h z) e am))
    | inr g ↦ g
  ]

  settle-other : (i : ℕ) (x : LaneUnit) (o : Outcome) → w.send_link ≡ Some i → (w.links i).send.heard ≡ Some x
      → is_idle w.state ≡ false → Ends h x
      → ((y : ℕ) → w.recv_link ≡ Some y → Bad P h
      ⊎ (IsAmong h w.completed ⊎ Each (NoEnd h) (ups (w.links y).recv.stage (w.links y).up.way)))
      → (IsAmong h w.completed → ⊥) → (o ≡ Was_denied → Bad P h)
      → Keeps spells octets (record (with_link w i
      (record (w.links i) {
        send = record { accepted = (w.links i).send.accepted; stage = s.Quiet; heard = None };
      })) { state = state.Idle h; outcome = set_at w.outcome h o })
  settle-other i x o sx hd live en why nc den =
      let g : Linked (with_state P (state.Idle h))
      (set_at w.links i (record (w.links i) {
        send =
            record { accepted = (w.links i).send.accepted; stage = s.Quiet; heard = None };
      })) =
      settle-linked i x sx hd live en why in
      record {
        linked = record { links = g.links; sends = g.sends; recvs = g.recvs; cross = g.cross };
        outcomes = settle-outcomes o live den;
        in_step = inl (in-step-apart nc);
        receives = k.receives;
        homeless = λ e. refl;
        send_below = k.send_below;
        recv_below = k.recv_below;
      }

  not-complete : Bad P h → IsAmong h w.completed → ⊥
  not-complete b am = bad-good P h ⊥ b ((facts spells octets w k).good_done h am)

  -- DiscardAck
  pub drops : (i j : ℕ) → w.send_link ≡ Some i → (w.links i).send.heard ≡ Some (DiscardAck j) → is_live w.state j ≡ true
      → Keeps spells octets (sender_made w i s.Dropped)
  drops i j sx hd lv =
      let live : is_idle w.state ≡ false = (live-last w.state j lv).0 in
      let same : j ≡ h = (live-last w.state j lv).1 in
      let nc : IsAmong h w.completed → ⊥ = λ am. (((at-heard i (DiscardAck j) sx hd).truth live).0 same).1
      ((facts spells octets w k).good_done h am) am in
      settle-other i (DiscardAck j) Was_dropped sx hd live same
      (λ y ry. by_test (spells (octets h)) refl
      (λ gd. subst (λ (z : ℕ). Each (NoEnd z) (ups (w.links y).recv.stage (w.links y).up.way)) same
      ((cross-heard i y (DiscardAck j) sx ry hd).acked.0 live same (subst (λ (z : ℕ). Good P z) (sym same) gd))))
      nc (λ e. absurd (let c : Was_dropped ≡ Was_denied = e in cc))
    where
      by_test : {A : Type 0} (b : Bool) → spells (octets h) ≡ b → (spells (octets h) ≡ true → A)
          → (spells (octets h) ≡ false) ⊎ (IsAmong h w.completed ⊎ A)
      by_test true e f = inr (inr (f e))
      by_test false e f = inl e

  -- Exception, and the refusals to resume
  pub refuses : (i : ℕ) → w.send_link ≡ Some i → (w.links i).send.heard ≡ Some Exception → is_idle w.state ≡ false
      → Keeps spells octets (sender_made w i s.Refused)
  refuses i sx hd live =
      let b : Bad P h = ((at-heard i Exception sx hd).truth live).0 in
      settle-other i Exception Was_refused sx hd live tt (λ y ry. inl b) (not-complete b) (λ e. b)

  pub denies : (i : ℕ) → w.send_link ≡ Some i → (w.links i).send.heard ≡ Some Unrecognized → is_idle w.state ≡ false
      → Keeps spells octets (sender_made w i s.Denied)
  denies i sx hd live =
      let b : Bad P h = ((at-heard i Unrecognized sx hd).truth live).0 in
      settle-other i Unrecognized Was_denied sx hd live tt (λ y ry. inl b) (not-complete b) (λ e. b)

  pub never-recovers : (i : ℕ) → w.send_link ≡ Some i → (w.links i).send.heard ≡ Some CannotRecover
      → is_idle w.state ≡ false → ⊥
  never-recovers i sx hd live = ((at-heard i CannotRecover sx hd).truth live).0

  -- EndAck and transferCompleted
  sent_by : IsOf octets w → (i : ℕ) (x : LaneUnit) → w.send_link ≡ Some i → (w.links i).send.heard ≡ Some x
      → is_ending w.state h ≡ true → Ends h x → IsAmong h w.completed → Keeps spells octets (sender_made w i s.Sent)
  sent_by isof i x sx hd eg en am =
      let live : is_idle w.state ≡ false = (ending-live w.state h eg).0 in
      let dr : is_dropping w.state ≡ false = (ending-live w.state h eg).1 in
      let g : Linked (with_state P (state.Idle h))
      (set_at w.links i (record (w.links i) {
        send =
            record { accepted = (w.links i).send.accepted; stage = s.Quiet; heard = None };
      })) =
      settle-linked i x sx hd live en (λ y ry. inr (inl am)) in
      let oc : Outcomes spells octets (state.Idle h) (set_at w.outcome h Was_sent) w.abandoned w.sent =
      settle-outcomes Was_sent live (λ e. absurd (let c : Was_sent ≡ Was_denied = e in cc)) in
      record {
        linked = record { links = g.links; sends = g.sends; recvs = g.recvs; cross = g.cross };
        outcomes = record {
          later = oc.later;
          live = oc.live;
          sent_ones = each_of-snoc (λ m. (m.activity < h + 1) × (set_at w.outcome h Was_sent m.activity ≡ Was_sent)
              × (w.abandoned m.activity ≡ false)) w.sent _ oc.sent_ones (
                omega arith,
                set-same w.outcome h Was_sent (λ (z : Outcome). z ≡ Was_sent) refl,
                (k.outcomes.live live).1
                    ∙ dr,
              );
          denied = oc.denied;
        };
        in_step = inl ((in-step-ahead live am).1
            ∙ ap (λ (z : List ℕ). w.sent ++ record { activity = h; octets = z } ∷ []) (isof h (omega arith)));
        receives = k.receives;
        homeless = λ e. refl;
        send_below = k.send_below;
        recv_below = k.recv_below;
      }

  pub sent_by_ack : IsOf octets w → (i j : ℕ) → w.send_link ≡ Some i → (w.links i).send.heard ≡ Some (EndAck j)
      → is_ending w.state j ≡ true → Keeps spells octets (sender_made w i s.Sent)
  sent_by_ack isof i j sx hd eg =
      let same : j ≡ h = ending-last w.state j eg in
      let live : is_idle w.state ≡ false = (ending-live w.state j eg).0 in
      sent_by isof i (EndAck j) sx hd (ending-live w.state j eg).2 same
      (subst (λ (z : ℕ). IsAmong z w.completed) same ((at-heard i (EndAck j) sx hd).truth live).0)

  pub sent_by_abort : IsOf octets w → (i : ℕ) → w.send_link ≡ Some i → (w.links i).send.heard ≡ Some Completed
      → is_ending w.state h ≡ true → Keeps spells octets (sender_made w i s.Sent)
  sent_by_abort isof i sx hd eg =
      sent_by isof i Completed sx hd eg tt ((at-heard i Completed sx hd).truth (ending-live w.state h eg).0).0

  -- all of them
  module _ (isof : IsOf octets w) (i : ℕ) (sx : w.send_link ≡ Some i) where
    abbrev E : SendEnd
    E = send_end w (w.links i).send

    confirm-case : (n : ℕ) (x : LaneUnit) → (w.links i).send.heard ≡ Some x → IsCalledBy E (s.Confirm n) x
        → Keeps spells octets (sender_made w i (s.Confirm n))
    confirm-case n (SyncAck m) hd c = confirmed i n sx (hd ∙ ap (λ (z : ℕ). Some (SyncAck z)) c.0) c.1 c.2 c.3
    confirm-case n _ hd c = absurd c

    sent-case : (x : LaneUnit) → (w.links i).send.heard ≡ Some x → IsCalledBy E s.Sent x
        → Keeps spells octets (sender_made w i s.Sent)
    sent-case (EndAck j) hd c = sent_by_ack isof i j sx hd c
    sent-case Completed hd c = sent_by_abort isof i sx hd c.0
    sent-case _ hd c = absurd c

    dropped-case : (x : LaneUnit) → (w.links i).send.heard ≡ Some x → IsCalledBy E s.Dropped x
        → Keeps spells octets (sender_made w i s.Dropped)
    dropped-case (DiscardAck j) hd c = drops i j sx hd c
    dropped-case _ hd c = absurd c

    refused-case : (x : LaneUnit) → (w.links i).send.heard ≡ Some x → IsCalledBy E s.Refused x
        → Keeps spells octets (sender_made w i s.Refused)
    refused-case Exception hd c = refuses i sx hd c
    refused-case _ hd c = absurd c

    denied-case : (x : LaneUnit) → (w.links i).send.heard ≡ Some x → IsCalledBy E s.Denied x
        → Keeps spells octets (sender_made w i s.Denied)
    denied-case Unrecognized hd c = denies i sx hd c
    denied-case CannotRecover hd c = absurd (never-recovers i sx hd c)
    denied-case _ hd c = absurd c

    pub makes : (step : SendStep) → IsOnNewest step → s.MayMake E step → Keeps spells octets (sender_made w i step)
    makes (s.Start new) on m = starts i new sx m.0 m.1
    makes (s.Confirm n) on m = confirm-case n m.0 m.1 m.2
    makes s.To_end on m = ending i sx m
    makes s.Sent on m = sent-case m.0 m.1 m.2
    makes s.Dropped on m = dropped-case m.0 m.1 m.2
    makes s.Refused on m = refused-case m.0 m.1 m.2
    makes s.Denied on m = denied-case m.0 m.1 m.2
    makes s.Abandon on m = absurd on
