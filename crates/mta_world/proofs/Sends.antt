-- A sending end puts a unit of its activity, hears an answer, and settles.
use Rattle.std.proofs.Common.{◌≡◌, ℕ, ◌+◌, Bool, true, false, if◌then◌else◌, List, [], ◌∷◌, ◌++◌, refl, sym, ◌∙◌, ap}
use Rattle.std.proofs.Common.{subst, arith, inl, inr}
use Rattle.std.proofs.lemmas.Bool.{eqb-true}
use Rattle.mta_lane_send.specs.declared.state.SendState.{SendState}
use Rattle.mta_lane_send.specs.declared.state.SendState.TheVariants as state
use Rattle.mta_lane_send.specs.Half.{last_of, goes_on, is_ending}
use Rattle.mta_transfer_rules.specs.Units.{LaneUnit, Start, Piece, Sync, End, Resume, Discard, SyncAck, EndAck}
use Rattle.mta_transfer_rules.specs.Units.{ResumeAck, DiscardAck, Exception, Completed, Unrecognized, CannotRecover}
use Rattle.mta_transfer_rules.specs.Units.{Accept, Other}
use Rattle.mta_transfer_rules.specs.Pieces.{piece_of, is_last}
use Rattle.mta_transfer_rules.specs.Sending as s
use Rattle.mta_transfer_rules.specs.Sending.{SendStage, SendEnd, PutsAt, IsCut, is_transfer, stage_put, stage_at_piece}
use Rattle.mta_transfer_rules.specs.Receiving as r
use Rattle.mta_transfer_rules.specs.Receiving.{RecvStage}
use Rattle.mta_world.proofs.Units.{Each, each-snoc, each-map, Own, Leftover, Opens, NoFinish, NoEnd, NoDiscard, Ends}
use Rattle.mta_world.proofs.Units.{NoEnds, Clean, NoResumeAck, begin-snoc, begin-more, last-snoc, own-left}
use Rattle.mta_world.proofs.Flow.{Place, Between, Behind_pieces, Behind_piece, next, after, place, Stands, Under, Order}
use Rattle.mta_world.proofs.Flow.{under-step, IsRest, rest-after, rest-under}
use Rattle.mta_world.proofs.Talk.{IsIdle, IsWaiting, Phase, At_rest, Before, During, Behind, phase, Rest, Active, Talk}
use Rattle.mta_world.proofs.Talk.{Names, Finish, IsCutAt}

-- The state's activity ----------------------------------------------------------------------------

pub goes-last : (st : SendState) (k : ℕ) → goes_on st k ≡ true → k ≡ last_of st
goes-last (state.Sending j c) k h = eqb-true k j h
goes-last (state.Ending j c) k h = eqb-true k j h
goes-last any0 k h = absurd cc

pub ending-last : (st : SendState) (k : ℕ) → is_ending st k ≡ true → k ≡ last_of st
ending-last (state.Ending j c) k h = eqb-true k j h
ending-last any0 k h = absurd cc

module _ (size : ℕ) (octets : ℕ → List ℕ) where
  -- what a sending end of the activity h puts
  pub data Sends (h : ℕ) : SendStage → LaneUnit → SendStage → Type 0 where
    sends_start : Sends h (s.Started h) (Start h) (s.Next h 0)
    sends_resume : {n : ℕ} → Sends h s.Opened (Resume h n) (s.Resume_put h n)
    discards_first : Sends h s.Opened (Discard h) (s.Discard_put h)
    discards_started : Sends h (s.Started h) (Discard h) (s.Discard_put h)
    discards_next : {n : ℕ} → Sends h (s.Next h n) (Discard h) (s.Discard_put h)
    discards_sync : {n : ℕ} → Sends h (s.Sync_next h n) (Discard h) (s.Discard_put h)
    discards_last : {n : ℕ} → Sends h (s.Last_put h n) (Discard h) (s.Discard_put h)
    discards_resume : {n : ℕ} → Sends h (s.Resume_put h n) (Discard h) (s.Discard_put h)
    sends_piece : {n : ℕ} → is_last size (octets h) (n + 1) ≡ false
        → Sends h (s.Next h n) (Piece (piece_of size (octets h) (n + 1))) (s.Sync_next h (n + 1))
    sends_last : {n : ℕ} → is_last size (octets h) (n + 1) ≡ true
        → Sends h (s.Next h n) (Piece (piece_of size (octets h) (n + 1))) (s.Last_put h (n + 1))
    sends_sync : {n : ℕ} → Sends h (s.Sync_next h n) (Sync n) (s.Next h n)
    sends_end : {n : ℕ} → Sends h (s.Last_put h n) (End h) (s.End_put h n)

  module _ (h : ℕ) where
    at_stage : (a b c : SendStage) (x : LaneUnit) → a ≡ b → Sends h b x c → Sends h a x c
    at_stage a b c x e m = subst (λ (z : SendStage). Sends h z x c) (sym e) m

    cut-sends : (a : SendStage) → IsCut a h → Sends h a (Discard h) (s.Discard_put h)
    cut-sends s.Opened c = discards_first
    cut-sends (s.Started j) c = subst (λ (z : ℕ). Sends h (s.Started z) (Discard h) (s.Discard_put h)) c
        discards_started
    cut-sends (s.Next j n) c = subst (λ (z : ℕ). Sends h (s.Next z n) (Discard h) (s.Discard_put h)) c discards_next
    cut-sends (s.Sync_next j n) c =
        subst (λ (z : ℕ). Sends h (s.Sync_next z n) (Discard h) (s.Discard_put h)) c discards_sync
    cut-sends (s.Last_put j n) c = subst (λ (z : ℕ). Sends h (s.Last_put z n) (Discard h) (s.Discard_put h)) c
        discards_last
    cut-sends (s.Resume_put j n) c =
        subst (λ (z : ℕ). Sends h (s.Resume_put z n) (Discard h) (s.Discard_put h)) c discards_resume
    cut-sends any0 c = absurd c

    piece-sends : (n : ℕ) (b : Bool) → is_last size (octets h) (n + 1) ≡ b
        → Sends h (s.Next h n) (Piece (piece_of size (octets h) (n + 1)))
        (if b then s.Last_put h (n + 1) else s.Sync_next h (n + 1))
    piece-sends n true e = sends_last e
    piece-sends n false e = sends_piece e

  -- what the rules allow it to put
  pub puts-send : (e : SendEnd) (x : LaneUnit) → is_transfer x ≡ true → e.size ≡ size
      → e.octets ≡ octets (last_of e.state) → PutsAt e x
      → Sends (last_of e.state) e.stage x (stage_put e x)
  puts-send e (Start k) t sz oc p =
      let same : k ≡ last_of e.state = goes-last e.state k p.1 in
      subst (λ (z : SendStage). Sends (last_of e.state) z (Start k) (s.Next k 0)) (sym p.0)
      (subst (λ (z : ℕ). Sends (last_of e.state) (s.Started z) (Start z) (s.Next z 0)) (sym same) sends_start)
  puts-send e (Piece o) t sz oc p =
      let k : ℕ = p.0 in
      let n : ℕ = p.1 in
      let same : k ≡ last_of e.state = goes-last e.state k p.3 in
      let h : ℕ = last_of e.state in
      let cut : o ≡ piece_of size (octets h) (n + 1) = p.5 ∙ ap (λ (z : ℕ). piece_of z e.octets (n + 1)) sz
      ∙ ap (λ (z : List ℕ). piece_of size z (n + 1)) oc in
      let last : is_last e.size e.octets (n + 1) ≡ is_last size (octets h) (n + 1) =
      ap (λ (z : ℕ). is_last z e.octets (n + 1)) sz ∙ ap (λ (z : List ℕ). is_last size z (n + 1)) oc in
      let to : stage_put e (Piece o) ≡ (if is_last size (octets h) (n + 1) then s.Last_put h (n + 1)
      else s.Sync_next h (n + 1)) =
      ap (λ (z : SendStage). stage_at_piece e.size e.octets z) p.2
      ∙ ap (λ (z : ℕ). if is_last e.size e.octets (n + 1) then s.Last_put z (n + 1) else s.Sync_next z (n + 1)) same
      ∙ ap (λ (z : Bool). if z then s.Last_put h (n + 1) else s.Sync_next h (n + 1)) last in
      let from : e.stage ≡ s.Next h n = p.2 ∙ ap (λ (z : ℕ). s.Next z n) same in
      subst (λ (z : SendStage). Sends h e.stage (Piece o) z) (sym to)
      (subst (λ (z : SendStage). Sends h z (Piece o)
      (if is_last size (octets h) (n + 1) then s.Last_put h (n + 1) else s.Sync_next h (n + 1))) (sym from)
      (subst (λ (z : List ℕ). Sends h (s.Next h n) (Piece z)
      (if is_last size (octets h) (n + 1) then s.Last_put h (n + 1) else s.Sync_next h (n + 1))) (sym cut)
      (piece-sends h n (is_last size (octets h) (n + 1)) refl)))
  puts-send e (Sync m) t sz oc p =
      let same : p.0 ≡ last_of e.state = goes-last e.state p.0 p.2 in
      let h : ℕ = last_of e.state in
      let from : e.stage ≡ s.Sync_next h m = p.1 ∙ ap (λ (z : ℕ). s.Sync_next z m) same in
      subst (λ (z : SendStage). Sends h z (Sync m) (s.stage_at_sync z)) (sym from) sends_sync
  puts-send e (End k) t sz oc p =
      let same : k ≡ last_of e.state = ending-last e.state k p.2 in
      let h : ℕ = last_of e.state in
      let from : e.stage ≡ s.Last_put h p.0 = p.1 ∙ ap (λ (z : ℕ). s.Last_put z p.0) same in
      subst (λ (z : SendStage). Sends h z (End k) (s.stage_at_end z)) (sym from)
      (subst (λ (z : ℕ). Sends h (s.Last_put h p.0) (End z) (s.End_put h p.0)) (sym same) sends_end)
  puts-send e (Resume k n) t sz oc p =
      let same : k ≡ last_of e.state = goes-last e.state k p.1 in
      subst (λ (z : SendStage). Sends (last_of e.state) z (Resume k n) (s.Resume_put k n)) (sym p.0)
      (subst (λ (z : ℕ). Sends (last_of e.state) s.Opened (Resume z n) (s.Resume_put z n)) (sym same) sends_resume)
  puts-send e (Discard k) t sz oc p =
      elim p [
        | inl q ↦
            let same : k ≡ last_of e.state = goes-last e.state k q.1 in
            subst (λ (z : SendStage). Sends (last_of e.state) z (Discard k) (s.Discard_put k)) (sym q.0)
            (subst (λ (z : ℕ). Sends (last_of e.state) s.Opened (Discard z) (s.Discard_put z))
            (sym same) discards_first)
        | inr q ↦
            let same : last_of e.state ≡ k = ap last_of q.0 in
            subst (λ (z : ℕ). Sends z e.stage (Discard k) (s.Discard_put k)) (sym same) (cut-sends k e.stage q.1)
      ]
  puts-send e Accept t sz oc p = absurd cc
  puts-send e Other t sz oc p = absurd cc
  puts-send e any1 t sz oc p = absurd p

  -- What it keeps ---------------------------------------------------------------------------------

  module _ (h : ℕ) where
    pub sends-names : (a b : SendStage) (x : LaneUnit) → Sends h a x b → Names h b
    sends-names a b x sends_start = refl
    sends-names a b x sends_resume = refl
    sends-names a b x discards_first = refl
    sends-names a b x discards_started = refl
    sends-names a b x discards_next = refl
    sends-names a b x discards_sync = refl
    sends-names a b x discards_last = refl
    sends-names a b x discards_resume = refl
    sends-names a b x (sends_piece e) = refl
    sends-names a b x (sends_last e) = refl
    sends-names a b x sends_sync = refl
    sends-names a b x sends_end = refl

    pub sends-cut : (a b : SendStage) (x : LaneUnit) → Sends h a x b → IsCutAt size octets b
    sends-cut a b x sends_start = tt
    sends-cut a b x sends_resume = tt
    sends-cut a b x discards_first = tt
    sends-cut a b x discards_started = tt
    sends-cut a b x discards_next = tt
    sends-cut a b x discards_sync = tt
    sends-cut a b x discards_last = tt
    sends-cut a b x discards_resume = tt
    sends-cut a b x (sends_piece e) = e
    sends-cut a b x (sends_last e) = e
    sends-cut a b x sends_sync = tt
    sends-cut a b x sends_end = tt

    finish-end : (x : LaneUnit) → NoFinish h x → NoEnd h x
    finish-end (End k) f = f
    finish-end _ f = tt

    finish-discard : (x : LaneUnit) → NoFinish h x → NoDiscard h x
    finish-discard (Discard k) f = f
    finish-discard _ f = tt

    discard-finish : (V : List LaneUnit) → Each (NoFinish h) V → Finish h (s.Discard_put h) (V ++ Discard h ∷ [])
    discard-finish V f = (
      each-snoc (NoEnd h) V (Discard h) (each-map (NoFinish h) (NoEnd h) V finish-end f) tt,
      last-snoc h V (Discard h) f,
    )

    pub sends-finish : (a b : SendStage) (x : LaneUnit) (V : List LaneUnit) → Sends h a x b → Finish h a V
        → Finish h b (V ++ x ∷ [])
    sends-finish a b x V sends_start f = each-snoc (NoFinish h) V _ f (λ z. z)
    sends-finish a b x V sends_resume f = each-snoc (NoFinish h) V _ f (λ z. z)
    sends-finish a b x V discards_first f = discard-finish V f
    sends-finish a b x V discards_started f = discard-finish V f
    sends-finish a b x V discards_next f = discard-finish V f
    sends-finish a b x V discards_sync f = discard-finish V f
    sends-finish a b x V discards_last f = discard-finish V f
    sends-finish a b x V discards_resume f = discard-finish V f
    sends-finish a b x V (sends_piece e) f = each-snoc (NoFinish h) V _ f (λ z. z)
    sends-finish a b x V (sends_last e) f = each-snoc (NoFinish h) V _ f (λ z. z)
    sends-finish a b x V sends_sync f = each-snoc (NoFinish h) V _ f (λ z. z)
    sends-finish a b x V sends_end f = (
      each-snoc (NoDiscard h) V (End h) (each-map (NoFinish h) (NoDiscard h) V finish-discard f) tt,
      last-snoc h V (End h) f,
    )

    -- Order
    discard-order : (a b : Place) → Under a b → Stands size octets a (Discard h) → next a (Discard h) ≡ Between
        → Stands size octets b (Discard h) × Under Between (next b (Discard h))
    discard-order a b un f to =
        let w : Stands size octets b (Discard h) × Under (next a (Discard h)) (next b (Discard h)) =
        under-step size octets a b (Discard h) un f in
        (w.0, subst (λ (z : Place). Under z (next b (Discard h))) to w.1)

    resume-order : (n : ℕ) (b : Place) (D : List LaneUnit) → Under Between b → Each NoResumeAck D
        → Stands size octets b (Resume h n) × Order (s.Resume_put h n) D (next b (Resume h n))
    resume-order n b D un d =
        elim un [
          | inl e ↦ subst (λ (z : Place). Stands size octets z (Resume h n)
              × Order (s.Resume_put h n) D (next z (Resume h n))) (sym e) (tt, inl (refl, d))
          | inr p ↦ subst (λ (z : Place). Stands size octets z (Resume h n)
              × Order (s.Resume_put h n) D (next z (Resume h n))) (sym p.1) (tt, inl (refl, d))
        ]

    denied-order : (n : ℕ) (b : Place) (D : List LaneUnit) → Order (s.Resume_put h n) D b
        → Stands size octets b (Discard h) × Under Between (next b (Discard h))
    denied-order n b D o =
        elim o [
          | inl p ↦ subst (λ (z : Place). Stands size octets z (Discard h) × Under Between (next z (Discard h)))
              (sym p.0) (refl, inl refl)
          | inr q ↦ elim q [
            | inl p ↦ subst (λ (z : Place). Stands size octets z (Discard h) × Under Between (next z (Discard h)))
                (sym p.0) (tt, inl refl)
            | inr p ↦ discard-order (Behind_pieces h n) b p refl refl
          ]
        ]

    pub sends-order : (a b : SendStage) (x : LaneUnit) (p : Place) (D : List LaneUnit) → Sends h a x b → Names h a
        → IsCutAt size octets a → (a ≡ s.Opened → Each NoResumeAck D)
        → Order a D p → Stands size octets p x × Order b D (next p x)
    sends-order a b x p D sends_start na c g o = under-step size octets Between p (Start h) o tt
    sends-order a b x p D (sends_resume {n = n}) na c g o = resume-order n p D o (g refl)
    sends-order a b x p D discards_first na c g o = discard-order Between p o tt refl
    sends-order a b x p D discards_started na c g o = discard-order Between p o tt refl
    sends-order a b x p D (discards_next {n = n}) na c g o = discard-order (Behind_pieces h n) p o refl refl
    sends-order a b x p D (discards_sync {n = n}) na c g o = discard-order (Behind_piece h n) p o refl refl
    sends-order a b x p D (discards_last {n = n}) na c g o = discard-order (Behind_piece h n) p o refl refl
    sends-order a b x p D (discards_resume {n = n}) na c g o = denied-order n p D o
    sends-order a b x p D (sends_piece {n = n} e) na c g o = under-step size octets (Behind_pieces h n) p _ o refl
    sends-order a b x p D (sends_last {n = n} e) na c g o = under-step size octets (Behind_pieces h n) p _ o refl
    sends-order a b x p D (sends_sync {n = n}) na c g o =
        under-step size octets (Behind_piece h n) p (Sync n) o (refl, c)
    sends-order a b x p D (sends_end {n = n}) na c g o = under-step size octets (Behind_piece h n) p (End h) o (refl, c)

    -- Talk
    module _ (bad : ℕ → Type 0) where
      idle-waits : (i : ℕ) (e : RecvStage) → IsIdle i e → IsWaiting i e
      idle-waits i (r.Asked k n) w = absurd w
      idle-waits i any1 w = w

      clean-ends : (i : ℕ) (x : LaneUnit) → Clean i x → NoEnds i x
      clean-ends i (DiscardAck k) c e = omega (arith, c, e)
      clean-ends i (EndAck k) c e = c
      clean-ends i Exception c e = c
      clean-ends i Completed c e = c
      clean-ends i Unrecognized c e = c
      clean-ends i CannotRecover c e = c
      clean-ends i _ c e = e

      opens : (p : Phase) (e : RecvStage) (x : LaneUnit) (V D : List LaneUnit) → Rest bad h e V × Each (Clean h) D
          → Opens h x → Active bad h p e (V ++ x ∷ []) D
      opens p e x V D t o = inl (
        inr (idle-waits h e t.0.0, begin-snoc bad h V x t.0.1 o),
        each-map (Clean h) (NoEnds h) D (clean-ends h) t.1,
      )

      own-active : (p : Phase) (e : RecvStage) (x : LaneUnit) (V D : List LaneUnit) → Own h x
          → Active bad h During e V D → Active bad h p e (V ++ x ∷ []) D
      own-active p e x V D o a =
          elim a [
            | inl b ↦ inl (
              elim b.0 [
                | inl q ↦ inl (q.0, each-snoc (Own h) V x q.1 o)
                | inr q ↦ inr (q.0, begin-more bad h V x q.1 o)
              ],
              b.1,
            )
            | inr c ↦ elim c.2 [
              | inl bh ↦ inr ((c.0.0, each-snoc (Leftover bad (h + 1)) V x c.0.1 (own-left bad h bh x o)), c.1, inl bh)
              | inr ne ↦ absurd ne
            ]
          ]

      pub sends-talk : (a b : SendStage) (x : LaneUnit) (e : RecvStage) (V D : List LaneUnit) → Sends h a x b
          → Talk bad h (phase a) e V D → Talk bad h (phase b) e (V ++ x ∷ []) D
      sends-talk a b x e V D sends_start t = opens During e (Start h) V D t refl
      sends-talk a b x e V D (sends_resume {n = n}) t = opens During e (Resume h n) V D t refl
      sends-talk a b x e V D discards_first t = opens Behind e (Discard h) V D t refl
      sends-talk a b x e V D discards_started t = opens Behind e (Discard h) V D t refl
      sends-talk a b x e V D discards_next t = own-active Behind e (Discard h) V D refl t
      sends-talk a b x e V D discards_sync t = own-active Behind e (Discard h) V D refl t
      sends-talk a b x e V D discards_last t = own-active Behind e (Discard h) V D refl t
      sends-talk a b x e V D discards_resume t = own-active Behind e (Discard h) V D refl t
      sends-talk a b x e V D (sends_piece g) t = own-active During e _ V D tt t
      sends-talk a b x e V D (sends_last g) t = own-active During e _ V D tt t
      sends-talk a b x e V D sends_sync t = own-active During e _ V D tt t
      sends-talk a b x e V D sends_end t = own-active Behind e (End h) V D refl t

-- An answer is heard, or passes ------------------------------------------------------------------

module _ (bad : ℕ → Type 0) (h : ℕ) where
  tail-active : (p : Phase) (e : RecvStage) (V : List LaneUnit) (x : LaneUnit) (D : List LaneUnit)
      → Active bad h p e V (x ∷ D) → Active bad h p e V D
  tail-active p e V x D a = elim a [ inl b ↦ inl (b.0, b.1.1) | inr c ↦ inr (c.0, c.1.1, c.2) ]

  pub tail-talk : (p : Phase) (e : RecvStage) (V : List LaneUnit) (x : LaneUnit) (D : List LaneUnit)
      → Talk bad h p e V (x ∷ D) → Talk bad h p e V D
  tail-talk During e V x D t = tail-active During e V x D t
  tail-talk Behind e V x D t = tail-active Behind e V x D t
  tail-talk any0 e V x D t = (t.0, t.1.1)

  -- Settling ------------------------------------------------------------------------------------

  clean_not : (x : LaneUnit) → Clean h x → Ends h x → ⊥
  clean_not (DiscardAck k) c e = omega (arith, c, e)
  clean_not (EndAck k) c e = c
  clean_not Exception c e = c
  clean_not Completed c e = c
  clean_not Unrecognized c e = c
  clean_not CannotRecover c e = c
  clean_not _ c e = e

  settle-active : (p : Phase) (e : RecvStage) (V : List LaneUnit) (x : LaneUnit) (D : List LaneUnit) → Ends h x
      → Active bad h p e V (x ∷ D) → Rest bad (h + 1) e V × Each (Clean (h + 1)) D
  settle-active p e V x D en a = elim a [ inl b ↦ absurd (b.1.0 en) | inr c ↦ (c.0, c.1.0 en) ]

  pub settle-talk : (p : Phase) (e : RecvStage) (V : List LaneUnit) (x : LaneUnit) (D : List LaneUnit)
      → (p ≡ At_rest → ⊥) → Ends h x → Talk bad h p e V (x ∷ D) → Rest bad (h + 1) e V × Each (Clean (h + 1)) D
  settle-talk At_rest e V x D ne en t = absurd (ne refl)
  settle-talk Before e V x D ne en t = absurd (clean_not x t.1.0 en)
  settle-talk During e V x D ne en t = settle-active During e V x D en t
  settle-talk Behind e V x D ne en t = settle-active Behind e V x D en t

idle-rest : (i : ℕ) (e : RecvStage) → IsIdle i e → IsRest (place e)
idle-rest i r.Free w = tt
idle-rest i (r.Skips k) w = tt
idle-rest i (r.Discards k) w = tt
idle-rest i any1 w = absurd w

pub rest-order : (bad : ℕ → Type 0) (i : ℕ) (e : RecvStage) (V : List LaneUnit) → Rest bad i e V
    → Under Between (after (place e) V)
rest-order bad i e V t = rest-under (after (place e) V) (rest-after bad i (place e) V (idle-rest i e t.0) t.1)
