-- A receiving end puts a unit.
use Rattle.std.proofs.Common.{◌≡◌, ◌⊎◌, ℕ, ◌+◌, List, [], ◌∷◌, ◌++◌, refl, sym, ◌∙◌, ap, subst, arith, inl, inr}
use Rattle.mta_transfer_rules.specs.Units.{LaneUnit, End, Resume, Discard, SyncAck, EndAck, ResumeAck, DiscardAck}
use Rattle.mta_transfer_rules.specs.Units.{Exception, Completed, Unrecognized, Accept, Other}
use Rattle.mta_transfer_rules.specs.Sending as s
use Rattle.mta_transfer_rules.specs.Sending.{SendStage}
use Rattle.mta_transfer_rules.specs.Receiving as r
use Rattle.mta_transfer_rules.specs.Receiving.{RecvStage, Syncs}
use Rattle.mta_world.proofs.Units.{Each, each-snoc, each-map, pending, StageUpTo, Own, Leftover, HasBegin, Opens}
use Rattle.mta_world.proofs.Units.{NoFinish, Finishes, LastOnly, NoEnds, Clean, NoResumeAck, answered-snoc}
use Rattle.mta_world.proofs.Units.{answered-more, own-left}
use Rattle.mta_world.proofs.Flow.{Place, Between, Waits, Behind_pieces, Behind_piece, Skipping, after, place, Flows}
use Rattle.mta_world.proofs.Flow.{Under, Order}
use Rattle.mta_world.proofs.Talk.{IsIdle, IsWaiting, Busy, Phase, At_rest, Before, During, Behind, phase, IsBehind}
use Rattle.mta_world.proofs.Talk.{Rest, Begun, Closed, Active, Talk, Names, Finish, Genuine}
use Rattle.mta_world.proofs.Order.{order-answers}

-- a unit that it puts, with what is known of the activity
-- (where the sending end goes on over the link, what is denied is known to be bad)
pub data Answers (bad known : ℕ → Type 0) : RecvStage → LaneUnit → RecvStage → Type 0 where
  confirms : (k : ℕ) {m : ℕ} {e : RecvStage} → Syncs e k m → Answers bad known e (SyncAck m) e
  completes : {k n : ℕ} {o : List ℕ} → Answers bad known (r.Ended k n o) (EndAck k) r.Free
  resumes : {k n : ℕ} → Answers bad known (r.Asked k n) (ResumeAck k n) (r.Next k n)
  denies : {k n : ℕ} → known k → Answers bad known (r.Asked k n) Unrecognized r.Free
  drops : {k : ℕ} → Answers bad known (r.Discards k) (DiscardAck k) r.Free
  has_completed : {k : ℕ} → (bad k → ⊥) → Answers bad known (r.Discards k) Completed r.Free
  refuses : {k : ℕ} → bad k → Answers bad known (r.Found k) Exception (r.Skips k)
  accepts : {e : RecvStage} → Answers bad known e Accept e
  says_other : {e : RecvStage} → Answers bad known e Other e

-- which unit that finishes h may be on its way, by phase
abbrev pub FinishAt : ℕ → Phase → List LaneUnit → Type 0
FinishAt h At_rest V = Unit {0}
FinishAt h Before V = Each (NoFinish h) V
FinishAt h During V = Each (NoFinish h) V
FinishAt h Behind V = LastOnly h V

module _ (bad known : ℕ → Type 0) where
  pub answers-each : (P : LaneUnit → Type 0) (e f : RecvStage) (x : LaneUnit) (T : List LaneUnit)
      → Answers bad known e x f → Each P (pending e ++ T) → Each P (pending f ++ T)
  answers-each P e f x T (confirms k g) h = h
  answers-each P e f x T completes h = h.1
  answers-each P e f x T resumes h = h.1
  answers-each P e f x T (denies b) h = h.1
  answers-each P e f x T drops h = h.1
  answers-each P e f x T (has_completed b) h = h.1
  answers-each P e f x T (refuses b) h = h
  answers-each P e f x T accepts h = h
  answers-each P e f x T says_other h = h

  pub answers-last : (i : ℕ) (e f : RecvStage) (x : LaneUnit) (T : List LaneUnit) → Answers bad known e x f
      → LastOnly i (pending e ++ T) → LastOnly i (pending f ++ T)
  answers-last i e f x T (confirms k g) h = h
  answers-last i e f x T completes h = h.1
  answers-last i e f x T resumes h = h.1
  answers-last i e f x T (denies b) h = h.1
  answers-last i e f x T drops h = h.1
  answers-last i e f x T (has_completed b) h = h.1
  answers-last i e f x T (refuses b) h = h
  answers-last i e f x T accepts h = h
  answers-last i e f x T says_other h = h

  pub answers-upto : (i : ℕ) (e f : RecvStage) (x : LaneUnit) → Answers bad known e x f → StageUpTo i e → StageUpTo i f
  answers-upto i e f x (confirms k g) h = h
  answers-upto i e f x completes h = tt
  answers-upto i e f x resumes h = h
  answers-upto i e f x (denies b) h = tt
  answers-upto i e f x drops h = tt
  answers-upto i e f x (has_completed b) h = tt
  answers-upto i e f x (refuses b) h = h
  answers-upto i e f x accepts h = h
  answers-upto i e f x says_other h = h

  -- Flow --------------------------------------------------------------------------------------

  module _ (size : ℕ) (octets : ℕ → List ℕ) where
    -- behind a Resume that is not answered stands its Discard, or nothing
    waits-flow : (k n : ℕ) (p : Place) (T : List LaneUnit) → (p ≡ Between) ⊎ (p ≡ Behind_pieces k n)
        → Flows size octets (Waits k n) T → Flows size octets p T
    waits-flow k n p [] e g = tt
    waits-flow k n p (Discard j ∷ T) e g =
        elim e [
          | inl q ↦ subst (λ (z : Place). Flows size octets z (Discard j ∷ T)) (sym q) (tt, g.1)
          | inr q ↦ subst (λ (z : Place). Flows size octets z (Discard j ∷ T)) (sym q) (g.0, g.1)
        ]
    waits-flow k n p (_ ∷ T) e g = absurd g.0

    pub answers-flow : (e f : RecvStage) (x : LaneUnit) (T : List LaneUnit) → Answers bad known e x f
        → Genuine size octets bad e → Flows size octets (place e) (pending e ++ T)
        → Flows size octets (place f) (pending f ++ T) × Genuine size octets bad f
    answers-flow e f x T (confirms k b) h g = (g, h)
    answers-flow e f x T completes h g = (g.1, tt)
    answers-flow e f x T (resumes {k = k} {n = n}) h g = (waits-flow k n (Behind_pieces k n) T (inr refl) g.1, tt)
    answers-flow e f x T (denies {k = k} {n = n} b) h g = (waits-flow k n Between T (inl refl) g.1, tt)
    answers-flow e f x T drops h g = (g.1, tt)
    answers-flow e f x T (has_completed b) h g = (g.1, tt)
    answers-flow e f x T (refuses b) h g = (g, h)
    answers-flow e f x T accepts h g = (g, h)
    answers-flow e f x T says_other h g = (g, h)

  -- Order -------------------------------------------------------------------------------------

  module _ (h : ℕ) where
    not_waits : (k n : ℕ) (a : Place) (A : Type 0) → Under a (Waits k n) → (a ≡ Waits k n → ⊥) → A
    not_waits k n a A un ne = elim un [
      | inl p ↦ absurd (ne (sym p))
      | inr p ↦ absurd (let q : Waits k n ≡ Skipping p.0 = p.1 in cc)
    ]

    -- an answer to Resume, where nothing was put behind it
    answered-resume : (stage : SendStage) (D : List LaneUnit) (k n : ℕ) → Order stage D (Waits k n)
        → Order stage (D ++ ResumeAck k n ∷ []) (Behind_pieces k n) × Order stage (D ++ Unrecognized ∷ []) Between
    answered-resume (s.Next j m) D k n o = not_waits k n (Behind_pieces j m) _ o (λ q. cc)
    answered-resume (s.Sync_next j m) D k n o = not_waits k n (Behind_piece j m) _ o (λ q. cc)
    answered-resume (s.Last_put j m) D k n o = not_waits k n (Behind_piece j m) _ o (λ q. cc)
    answered-resume (s.Resume_put j m) D k n o =
        elim o [
          | inl p ↦
              let e : Waits k n ≡ Waits j m = p.0 in
              let ej : k ≡ j = cc in
              let em : n ≡ m = cc in (
                inr (inr (inl (ap (λ (z : ℕ). Behind_pieces z n) ej ∙ ap (λ (z : ℕ). Behind_pieces j z) em))),
                inr (inl (refl, each-snoc NoResumeAck D Unrecognized p.1 tt)),
              )
          | inr q ↦ elim q [
            | inl p ↦ absurd (let e : Waits k n ≡ Between = p.0 in cc)
            | inr p ↦ not_waits k n (Behind_pieces j m) _ p (λ e. cc)
          ]
        ]
    answered-resume any0 D k n o = not_waits k n Between _ o (λ q. cc)

    -- where the sending end waits for an answer to Resume, it put no Discard
    no_discard : (stage : SendStage) (D : List LaneUnit) (b : Place) (k j n : ℕ) (T : List LaneUnit) → Names h stage
        → j ≡ h → Finish h stage (Resume k n ∷ (Discard j ∷ T)) → Order stage D b → (x : LaneUnit)
        → Order stage (D ++ x ∷ []) b
    no_discard (s.Resume_put i m) D b k j n T na e fi o x = absurd (fi.1.0 e)
    no_discard any0 D b k j n T na e fi o x = o

    resume-order : (size : ℕ) (octets : ℕ → List ℕ) (stage : SendStage) (D : List LaneUnit) (k n : ℕ)
        (T : List LaneUnit)
        → Names h stage → k ≡ h → Finish h stage (Resume k n ∷ T) → Flows size octets (Waits k n) T
        → Order stage D (after (Waits k n) T)
        → Order stage (D ++ ResumeAck k n ∷ []) (after (Behind_pieces k n) T)
        × Order stage (D ++ Unrecognized ∷ []) (after Between T)
    resume-order size octets stage D k n [] na e fi g o = answered-resume stage D k n o
    resume-order size octets stage D k n (Discard j ∷ T) na e fi g o = (
      no_discard stage D (after Between T) k j n T na (g.0 ∙ e) fi o (ResumeAck k n),
      no_discard stage D (after Between T) k j n T na (g.0 ∙ e) fi o Unrecognized,
    )
    resume-order size octets stage D k n (_ ∷ T) na e fi g o = absurd g.0

    more : (D : List LaneUnit) (x : LaneUnit) → NoResumeAck x → Each NoResumeAck D → Each NoResumeAck (D ++ x ∷ [])
    more D x p e = each-snoc NoResumeAck D x e p

    pub answers-order : (size : ℕ) (octets : ℕ → List ℕ) (stage : SendStage) (e f : RecvStage) (x : LaneUnit)
        (D T : List LaneUnit) → Answers bad known e x f
        → Names h stage → ((k n : ℕ) → e ≡ r.Asked k n → k ≡ h) → Finish h stage (pending e ++ T)
        → Flows size octets (place e) (pending e ++ T)
        → Order stage D (after (place e) (pending e ++ T))
        → Order stage (D ++ x ∷ []) (after (place f) (pending f ++ T))
    answers-order size octets stage e f x D T (confirms k {m = m} b) na asked fi g o =
        order-answers stage D _ _ (more D (SyncAck m) tt) o
    answers-order size octets stage e f x D T (completes {k = k}) na asked fi g o =
        order-answers stage D _ _ (more D (EndAck k) tt) o
    answers-order size octets stage e f x D T (resumes {k = k} {n = n}) na asked fi g o =
        (resume-order size octets stage D k n T na (asked k n refl) fi g.1 o).0
    answers-order size octets stage e f x D T (denies {k = k} {n = n} b) na asked fi g o =
        (resume-order size octets stage D k n T na (asked k n refl) fi g.1 o).1
    answers-order size octets stage e f x D T (drops {k = k}) na asked fi g o =
        order-answers stage D _ _ (more D (DiscardAck k) tt) o
    answers-order size octets stage e f x D T (has_completed b) na asked fi g o =
        order-answers stage D _ _ (more D Completed tt) o
    answers-order size octets stage e f x D T (refuses b) na asked fi g o =
        order-answers stage D _ _ (more D Exception tt) o
    answers-order size octets stage e f x D T accepts na asked fi g o = order-answers stage D _ _ (more D Accept tt) o
    answers-order size octets stage e f x D T says_other na asked fi g o = order-answers stage D _ _ (more D Other tt) o

  -- Talk --------------------------------------------------------------------------------------

  idle-syncs : (i : ℕ) (e : RecvStage) (k m : ℕ) → IsIdle i e → Syncs e k m → ⊥
  idle-syncs i r.Free k m w g = g
  idle-syncs i (r.Skips j) k m w g = g
  idle-syncs i (r.Discards j) k m w g = g
  idle-syncs i any1 k m w g = w

  answers-rest : (i : ℕ) (e f : RecvStage) (x : LaneUnit) (T : List LaneUnit) → Answers bad known e x f
      → Rest bad i e (pending e ++ T) → Rest bad i f (pending f ++ T) × Clean i x
  answers-rest i e f x T (confirms k {m = m} g) h = absurd (idle-syncs i e k m h.0 g)
  answers-rest i e f x T completes h = absurd h.0
  answers-rest i e f x T resumes h = absurd h.0
  answers-rest i e f x T (denies b) h = absurd h.0
  answers-rest i e f x T drops h = ((tt, h.1.1), h.1.0.0)
  answers-rest i e f x T (has_completed b) h = absurd (b h.1.0.1)
  answers-rest i e f x T (refuses b) h = absurd h.0
  answers-rest i e f x T accepts h = (h, tt)
  answers-rest i e f x T says_other h = (h, tt)

  module _ (h : ℕ) (is_bad : (k : ℕ) → known k → bad k) where
    only-one : (p : Phase) (x : LaneUnit) (T : List LaneUnit) → Finishes h x → IsBehind p ⊎ (p ≡ During)
        → FinishAt h p (x ∷ T) → (T ≡ []) × IsBehind p
    only-one Behind x T g w fi = (fi.0 g, tt)
    only-one At_rest x T g w fi = elim w [ inl b ↦ absurd b | inr e ↦ absurd cc ]
    only-one any0 x T g w fi = absurd (fi.0 g)

    -- the receiving end settles h, and nothing is on its way behind
    closes : (p : Phase) (x y : LaneUnit) (T D : List LaneUnit) → Finishes h x → IsBehind p ⊎ (p ≡ During)
        → FinishAt h p (x ∷ T) → Each (NoEnds h) D → Closed bad h p r.Free T (D ++ y ∷ [])
    closes p x y T D g w fi e =
        let o : (T ≡ []) × IsBehind p = only-one p x T g w fi in (
          (tt, subst (λ (z : List LaneUnit). Each (Leftover bad (h + 1)) z) (sym o.0) tt),
          answered-snoc h D y e,
          inr o.1,
        )

    -- it settles h for octets that spell nothing
    closes_bad : (p : Phase) (f : RecvStage) (y : LaneUnit) (T D : List LaneUnit) → IsIdle (h + 1) f → bad h
        → Each (Own h) T → Each (NoEnds h) D → Closed bad h p f T (D ++ y ∷ [])
    closes_bad p f y T D w b o e = (
      (w, each-map (Own h) (Leftover bad (h + 1)) T (own-left bad h b) o),
      answered-snoc h D y e,
      inl b,
    )

    -- the front unit is the one that begins the transfer of h, or is left of others
    abbrev Front : LaneUnit → List LaneUnit → Type 0
    Front x T = (Opens h x × Each (Own h) T) ⊎ (Leftover bad h x × HasBegin bad h T)

    answers-begun : (p : Phase) (e f : RecvStage) (x : LaneUnit) (D T : List LaneUnit) → IsBehind p ⊎ (p ≡ During)
        → Answers bad known e x f
        → FinishAt h p (pending e ++ T) → Begun bad h e (pending e ++ T) → Each (NoEnds h) D
        → Active bad h p f (pending f ++ T) (D ++ x ∷ [])
    answers-begun p e f x D T w (confirms k {m = m} g) fi b d = inl (b, each-snoc (NoEnds h) D (SyncAck m) d (λ z. z))
    answers-begun p e f x D T w (completes {k = k}) fi b d =
        elim b [ inl q ↦ inr (closes p (End k) (EndAck k) T D q.0 w fi d) | inr q ↦ absurd q.0 ]
    answers-begun p e f x D T w (resumes {k = k} {n = n}) fi b d =
        elim b [
          | inl q ↦ absurd q.0
          | inr q ↦ (let fr : Front (Resume k n) T = q.1 in
              elim fr [
                | inl z ↦ inl (inl (z.0, z.1), each-snoc (NoEnds h) D (ResumeAck k n) d (λ y. y))
                | inr z ↦ absurd z.0
              ])
        ]
    answers-begun p e f x D T w (denies {k = k} {n = n} bk) fi b d =
        elim b [
          | inl q ↦ absurd q.0
          | inr q ↦ (let fr : Front (Resume k n) T = q.1 in
              elim fr [
                | inl z ↦ inr (closes_bad p r.Free Unrecognized T D tt (subst bad z.0 (is_bad k bk)) z.1 d)
                | inr z ↦ absurd z.0
              ])
        ]
    answers-begun p e f x D T w (drops {k = k}) fi b d =
        elim b [
          | inl q ↦ absurd q.0
          | inr q ↦ (let fr : Front (Discard k) T = q.1 in elim fr [
            | inl z ↦ inr (closes p (Discard k) (DiscardAck k) T D z.0 w fi d)
            | inr z ↦ inl (inr (tt, z.1), each-snoc (NoEnds h) D (DiscardAck k) d (λ y. omega (arith, z.0.0)))
          ])
        ]
    answers-begun p e f x D T w (has_completed {k = k} nb) fi b d =
        elim b [
          | inl q ↦ absurd q.0
          | inr q ↦ (let fr : Front (Discard k) T = q.1 in elim fr [
            | inl z ↦ inr (closes p (Discard k) Completed T D z.0 w fi d)
            | inr z ↦ absurd (nb z.0.1)
          ])
        ]
    answers-begun p e f x D T w (refuses {k = k} bk) fi b d =
        elim b [
          | inl q ↦ inr (closes_bad p (r.Skips k) Exception T D (omega (arith, q.0)) (subst bad q.0 bk) q.1 d)
          | inr q ↦ absurd q.0
        ]
    answers-begun p e f x D T w accepts fi b d = inl (b, each-snoc (NoEnds h) D Accept d (λ z. z))
    answers-begun p e f x D T w says_other fi b d = inl (b, each-snoc (NoEnds h) D Other d (λ z. z))

    answers-active : (p : Phase) (e f : RecvStage) (x : LaneUnit) (D T : List LaneUnit) → IsBehind p ⊎ (p ≡ During)
        → Answers bad known e x f
        → FinishAt h p (pending e ++ T) → Active bad h p e (pending e ++ T) D
        → Active bad h p f (pending f ++ T) (D ++ x ∷ [])
    answers-active p e f x D T w an fi a =
        elim a [
          | inl b ↦ answers-begun p e f x D T w an fi b.0 b.1
          | inr c ↦
              let g : Rest bad (h + 1) f (pending f ++ T) × Clean (h + 1) x = answers-rest (h + 1) e f x T an c.0 in
              inr (g.0, answered-more h D x c.1 g.1, c.2)
        ]

    pub answers-talk : (p : Phase) (e f : RecvStage) (x : LaneUnit) (D T : List LaneUnit) → Answers bad known e x f
        → FinishAt h p (pending e ++ T) → Talk bad h p e (pending e ++ T) D
        → Talk bad h p f (pending f ++ T) (D ++ x ∷ [])
    answers-talk At_rest e f x D T an fi t =
        let g : Rest bad (h + 1) f (pending f ++ T) × Clean (h + 1) x = answers-rest (h + 1) e f x T an t.0 in
        (g.0, each-snoc (Clean (h + 1)) D x t.1 g.1)
    answers-talk Before e f x D T an fi t =
        let g : Rest bad h f (pending f ++ T) × Clean h x = answers-rest h e f x T an t.0 in
        (g.0, each-snoc (Clean h) D x t.1 g.1)
    answers-talk During e f x D T an fi t = answers-active During e f x D T (inr refl) an fi t
    answers-talk Behind e f x D T an fi t = answers-active Behind e f x D T (inl tt) an fi t

  module _ (h : ℕ) where
    -- an end that takes part in a transfer takes part in that of h
    by_talk : (p : Phase) (e : RecvStage) (V D : List LaneUnit) (k : ℕ) → ((i : ℕ) → Rest bad i e V → k ≡ h)
        → (Begun bad h e V → k ≡ h) → Talk bad h p e V D → k ≡ h
    by_talk At_rest e V D k f g t = f (h + 1) t.0
    by_talk Before e V D k f g t = f h t.0
    by_talk any0 e V D k f g t = elim t [ inl b ↦ g b.0 | inr c ↦ f (h + 1) c.0 ]

    pub asked-own : (p : Phase) (k n : ℕ) (T D : List LaneUnit) → Talk bad h p (r.Asked k n) (Resume k n ∷ T) D → k ≡ h
    asked-own p k n T D t =
        by_talk p (r.Asked k n) (Resume k n ∷ T) D k (λ i g. absurd g.0)
        (λ b. elim b [
          | inl q ↦ absurd q.0
          | inr q ↦ (let fr : (Opens h (Resume k n) × Each (Own h) T)
              ⊎ (Leftover bad h (Resume k n) × HasBegin bad h T) = q.1 in elim fr [ inl z ↦ z.0 | inr z ↦ absurd z.0 ])
        ])
        t

    pub discards-own : (p : Phase) (k : ℕ) (T D : List LaneUnit) → (bad k → ⊥)
        → Talk bad h p (r.Discards k) (Discard k ∷ T) D → k ≡ h
    discards-own p k T D nb t =
        by_talk p (r.Discards k) (Discard k ∷ T) D k (λ i g. absurd (nb g.1.0.1))
        (λ b. elim b [
          | inl q ↦ absurd q.0
          | inr q ↦ (let fr : (Opens h (Discard k) × Each (Own h) T)
              ⊎ (Leftover bad h (Discard k) × HasBegin bad h T) = q.1 in
              elim fr [ inl z ↦ z.0 | inr z ↦ absurd (nb z.0.1) ])
        ])
        t

    pub found-own : (p : Phase) (k : ℕ) (V D : List LaneUnit) → Talk bad h p (r.Found k) V D → k ≡ h
    found-own p k V D t = by_talk p (r.Found k) V D k (λ i g. absurd g.0)
        (λ b. elim b [ inl q ↦ q.0 | inr q ↦ absurd q.0 ]) t

    busy-syncs : (e : RecvStage) (k m : ℕ) → Syncs e k m → Busy h e → k ≡ h
    busy-syncs (r.Next j n) k m g b = g.0 ∙ b
    busy-syncs (r.Held j n o) k m g b = g.0 ∙ b
    busy-syncs (r.Synced j n o) k m g b = g.0 ∙ b
    busy-syncs (r.Ended j n o) k m g b = g.0 ∙ b
    busy-syncs any0 k m g b = absurd g

    waiting-syncs : (e : RecvStage) (k m : ℕ) → Syncs e k m → IsWaiting h e → ⊥
    waiting-syncs (r.Next j n) k m g b = b
    waiting-syncs (r.Held j n o) k m g b = b
    waiting-syncs (r.Synced j n o) k m g b = b
    waiting-syncs (r.Ended j n o) k m g b = b
    waiting-syncs any0 k m g b = g

    pub syncs-own : (p : Phase) (e : RecvStage) (V D : List LaneUnit) (k m : ℕ) → Syncs e k m → Talk bad h p e V D
        → k ≡ h
    syncs-own p e V D k m g t =
        by_talk p e V D k (λ i q. absurd (idle-syncs i e k m q.0 g))
        (λ b. elim b [ inl q ↦ busy-syncs e k m g q.0 | inr q ↦ absurd (waiting-syncs e k m g q.0) ]) t

pub finish-at : (h : ℕ) (stage : SendStage) (V : List LaneUnit) → Finish h stage V → FinishAt h (phase stage) V
finish-at h s.Quiet V f = tt
finish-at h (s.End_put k n) V f = f.1
finish-at h (s.Discard_put k) V f = f.1
finish-at h any1 V f = f
