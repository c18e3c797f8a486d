-- The sending end puts a unit or hears one: what stays true.
use Rattle.std.proofs.Common.{◌≡◌, ◌⊎◌, ◌<◌, ◌≤◌, ℕ, ◌==◌, ◌&&◌, Bool, true, false, if◌then◌else◌, Option, List, []}
use Rattle.std.proofs.Common.{◌∷◌, ◌++◌, refl, sym, ◌∙◌, ap, subst, arith, inl, inr}
use Rattle.mta_lane_send.specs.declared.state.SendState.{SendState}
use Rattle.mta_lane_send.specs.declared.state.SendState.TheVariants as state
use Rattle.mta_lane_send.specs.Half.{last_of, is_idle, is_live, is_ending, goes_on, confirmed_of}
use Rattle.mta_transfer_rules.specs.Units.{LaneUnit, Start, Piece, Sync, End, Resume, Discard, SyncAck, EndAck}
use Rattle.mta_transfer_rules.specs.Units.{ResumeAck, DiscardAck, Exception, Completed, Unrecognized, CannotRecover}
use Rattle.mta_transfer_rules.specs.Units.{Accept, Other}
use Rattle.mta_transfer_rules.specs.Sending as s
use Rattle.mta_transfer_rules.specs.Sending.{SendStage, SendEnd, PutsAt, is_dropping, is_transfer, stage_got}
use Rattle.mta_transfer_rules.specs.Receiving.{RecvStage}
use Rattle.mta_world.proofs.Units.{Each, each-map, each-snoc, NoDiscard, Clean, NoResumeAck}
use Rattle.mta_world.proofs.Flow.{Place, Stands, next, place, after, after-snoc, Order}
use Rattle.mta_world.proofs.Talk.{phase, Talk}
use Rattle.mta_world.proofs.Order.{order-answers}
use Rattle.mta_world.proofs.Sends.{Sends, sends_start, sends_resume, discards_first, discards_started, discards_next}
use Rattle.mta_world.proofs.Sends.{discards_sync, discards_last, discards_resume, sends_piece, sends_last, sends_sync}
use Rattle.mta_world.proofs.Sends.{sends_end, sends-names, sends-cut, sends-finish, sends-order, sends-talk, tail-talk}
use Rattle.mta_world.proofs.Claims.{Sides, Bad, Good, StandsSome, heard_with, unheard, SendParts, CrossParts, Truth}
use Rattle.mta_world.proofs.Claims.{Resumed, Ended, Discarded, Acked, ResumedApart, IsDoomed, IsGoing, is_rest}

-- What a unit that is put tells of the state -----------------------------------------------------------

pub record Tells (st : SendState) (x : LaneUnit) : Type 0 where
  pub resume : (k n : ℕ) → x ≡ Resume k n → (1 ≤ confirmed_of st) × (is_dropping st ≡ false) × (is_live st k ≡ true)
  pub ending : (k : ℕ) → x ≡ End k → is_ending st k ≡ true
  pub discard : (k : ℕ) → x ≡ Discard k → (is_dropping st ≡ true) ⊎ (confirmed_of st ≡ 0)
  pub live : is_idle st ≡ false

going-live : (st : SendState) (k : ℕ) → goes_on st k ≡ true → (is_idle st ≡ false) × (is_dropping st ≡ false)
    × (is_live st k ≡ true)
going-live (state.Sending j c) k g = (refl, refl, g)
going-live (state.Ending j c) k g = (refl, refl, g)
going-live any0 k g = absurd cc

ending-live : (st : SendState) (k : ℕ) → is_ending st k ≡ true → is_idle st ≡ false
ending-live (state.Ending j c) k g = refl
ending-live any0 k g = absurd cc

tells_little : (st : SendState) (x : LaneUnit) → is_idle st ≡ false → ((k n : ℕ) → x ≡ Resume k n → ⊥)
    → ((k : ℕ) → x ≡ End k → ⊥) → ((k : ℕ) → x ≡ Discard k → ⊥) → Tells st x
tells_little st x i f g h = record {
  resume = λ k n e. absurd (f k n e);
  ending = λ k e. absurd (g k e);
  discard = λ k e. absurd (h k e);
  live = i;
}

pub put-tells : (e : SendEnd) (x : LaneUnit) → is_transfer x ≡ true → PutsAt e x → Tells e.state x
put-tells e (Start k) t g = tells_little e.state (Start k) (going-live e.state k g.1).0 (λ i n q. cc) (λ i q. cc)
    (λ i q. cc)
put-tells e (Piece o) t g = tells_little e.state (Piece o) (going-live e.state g.0 g.3).0 (λ i n q. cc) (λ i q. cc)
    (λ i q. cc)
put-tells e (Sync m) t g = tells_little e.state (Sync m) (going-live e.state g.0 g.2).0 (λ i n q. cc) (λ i q. cc)
    (λ i q. cc)
put-tells e (End k) t g = record {
  resume = λ i n q. absurd cc;
  ending = λ i q. (let same : k ≡ i = cc in subst (λ (z : ℕ). is_ending e.state z ≡ true) same g.2);
  discard = λ i q. absurd cc;
  live = ending-live e.state k g.2;
}
put-tells e (Resume k n) t g = record {
  resume = λ i m q. (let same : k ≡ i = cc in (
    omega (arith, g.2, g.3),
    (going-live e.state k g.1).1,
    subst (λ (z : ℕ). is_live e.state z ≡ true) same (going-live e.state k g.1).2,
  ));
  ending = λ i q. absurd cc;
  discard = λ i q. absurd cc;
  live = (going-live e.state k g.1).0;
}
put-tells e (Discard k) t g = record {
  resume = λ i n q. absurd cc;
  ending = λ i q. absurd cc;
  discard = λ i q. elim g [ inl z ↦ inr z.2 | inr z ↦ inl (ap is_dropping z.0) ];
  live = elim g [ inl z ↦ (going-live e.state k z.1).0 | inr z ↦ ap is_idle z.0 ];
}
put-tells e Accept t g = absurd cc
put-tells e Other t g = absurd cc
put-tells e any1 t g = absurd g

module _ (p : Sides) where
  -- An answer passes ----------------------------------------------------------------------------------

  part-tail : (stage : SendStage) (V : List LaneUnit) (e : RecvStage) (x : LaneUnit) (D : List LaneUnit)
      → SendParts p stage (x ∷ D) V e → SendParts p stage D V e
  part-tail stage V e x D o = record {
    idle = o.idle;
    names = o.names;
    talk = tail-talk (Bad p) (last_of p.state) (phase stage) e V x D o.talk;
    finish = o.finish;
    cut = o.cut;
    order = order-answers stage (x ∷ D) D (after (place e) V) (λ n. n.1) o.order;
    truth = λ i. (o.truth i).1;
    resumed = o.resumed;
    stands = o.stands;
  }

  pub part-unheard : (stage : SendStage) (V : List LaneUnit) (e : RecvStage) (o : Option LaneUnit) (way : List LaneUnit)
      → SendParts p stage (heard_with o way) V e → SendParts p stage way V e
  part-unheard stage V e o way g =
      unheard (λ (D : List LaneUnit). SendParts p stage D V e) (part-tail stage V e) o way g

  cross-tail : (x y : ℕ) (stage : SendStage) (X : List LaneUnit) (joined : Bool) (V : List LaneUnit) (u : LaneUnit)
      (D : List LaneUnit) → CrossParts p x y stage (u ∷ D) X joined V → CrossParts p x y stage D X joined V
  cross-tail x y stage X joined V u D c =
      record { discarded = c.discarded; acked = c.acked.1; apart = c.apart; old = c.old }

  pub cross-unheard : (x y : ℕ) (stage : SendStage) (X : List LaneUnit) (joined : Bool) (V : List LaneUnit)
      (o : Option LaneUnit) (way : List LaneUnit)
      → CrossParts p x y stage (heard_with o way) X joined V → CrossParts p x y stage way X joined V
  cross-unheard x y stage X joined V o way g = unheard (λ (D : List LaneUnit). CrossParts p x y stage D X joined V)
      (cross-tail x y stage X joined V) o way g

  -- A unit is put -------------------------------------------------------------------------------------

  pub clean-truth : (stage : SendStage) (x : LaneUnit) → Clean (last_of p.state) x → Truth p stage x
  clean-truth stage (SyncAck n) c = absurd c
  clean-truth stage (EndAck k) c = absurd c
  clean-truth stage (DiscardAck k) c = λ e. absurd (let c : k < last_of p.state = c in omega (arith, c, e))
  clean-truth stage Exception c = absurd c
  clean-truth stage Completed c = absurd c
  clean-truth stage Unrecognized c = absurd c
  clean-truth stage CannotRecover c = absurd c
  clean-truth stage _ c = tt

  step-truth : (a b : SendStage) → IsGoing a → (a ≡ s.Discard_put (last_of p.state) → ⊥) → (x : LaneUnit) → Truth p a x
      → Truth p b x
  step-truth a b go ne (SyncAck n) t = λ nd g gd. t nd go gd
  step-truth a b go ne (DiscardAck k) t = λ e. absurd (ne (t e).0)
  step-truth a b go ne (EndAck k) t = t
  step-truth a b go ne Exception t = t
  step-truth a b go ne Completed t = t
  step-truth a b go ne Unrecognized t = t
  step-truth a b go ne CannotRecover t = t
  step-truth a b go ne _ t = tt

  clean-resume : (i : ℕ) (x : LaneUnit) → Clean i x → NoResumeAck x
  clean-resume i (ResumeAck k n) c = c
  clean-resume i _ c = tt

  opened-clean : (a : SendStage) (e : RecvStage) (V D : List LaneUnit) → Talk (Bad p) (last_of p.state) (phase a) e V D
      → a ≡ s.Opened → Each NoResumeAck D
  opened-clean a e V D t at =
      each-map (Clean (last_of p.state)) NoResumeAck D (clean-resume (last_of p.state))
      (subst (λ (z : SendStage). Talk (Bad p) (last_of p.state) (phase z) e V D) at t).1

  put-resumed : (a b : SendStage) (x : LaneUnit) → Tells p.state x
      → (1 ≤ confirmed_of p.state → Good p (last_of p.state) → StandsSome p.last (last_of p.state))
      → Sends p.size p.octets (last_of p.state) a x b → Resumed p x
  put-resumed a b x t st (sends_resume {n = n}) = λ i e g. st (t.resume (last_of p.state) n refl).0 g
  put-resumed a b x t st sends_start = tt
  put-resumed a b x t st discards_first = tt
  put-resumed a b x t st discards_started = tt
  put-resumed a b x t st discards_next = tt
  put-resumed a b x t st discards_sync = tt
  put-resumed a b x t st discards_last = tt
  put-resumed a b x t st discards_resume = tt
  put-resumed a b x t st (sends_piece g) = tt
  put-resumed a b x t st (sends_last g) = tt
  put-resumed a b x t st sends_sync = tt
  put-resumed a b x t st sends_end = tt

  not-discarded : (a b : SendStage) (x : LaneUnit) → Sends p.size p.octets (last_of p.state) a x b
      → a ≡ s.Discard_put (last_of p.state) → ⊥
  not-discarded a b x sends_start e = cc
  not-discarded a b x sends_resume e = cc
  not-discarded a b x discards_first e = cc
  not-discarded a b x discards_started e = cc
  not-discarded a b x discards_next e = cc
  not-discarded a b x discards_sync e = cc
  not-discarded a b x discards_last e = cc
  not-discarded a b x discards_resume e = cc
  not-discarded a b x (sends_piece c) e = cc
  not-discarded a b x (sends_last c) e = cc
  not-discarded a b x sends_sync e = cc
  not-discarded a b x sends_end e = cc

  put-truths : (a b : SendStage) (x : LaneUnit) (e : RecvStage) (V D : List LaneUnit)
      → Sends p.size p.octets (last_of p.state) a x b
      → Talk (Bad p) (last_of p.state) (phase a) e V D → Each (Truth p a) D → Each (Truth p b) D
  put-truths a b x e V D sends_start t g = each-map (Clean (last_of p.state)) (Truth p b) D (clean-truth b) t.1
  put-truths a b x e V D sends_resume t g = each-map (Clean (last_of p.state)) (Truth p b) D (clean-truth b) t.1
  put-truths a b x e V D discards_first t g = each-map (Clean (last_of p.state)) (Truth p b) D (clean-truth b) t.1
  put-truths a b x e V D discards_started t g = each-map (Clean (last_of p.state)) (Truth p b) D (clean-truth b) t.1
  put-truths a b x e V D discards_next t g =
      each-map (Truth p a) (Truth p b) D (step-truth a b tt (not-discarded a b x discards_next)) g
  put-truths a b x e V D discards_sync t g =
      each-map (Truth p a) (Truth p b) D (step-truth a b tt (not-discarded a b x discards_sync)) g
  put-truths a b x e V D discards_last t g =
      each-map (Truth p a) (Truth p b) D (step-truth a b tt (not-discarded a b x discards_last)) g
  put-truths a b x e V D discards_resume t g =
      each-map (Truth p a) (Truth p b) D (step-truth a b tt (not-discarded a b x discards_resume)) g
  put-truths a b x e V D (sends_piece c) t g =
      each-map (Truth p a) (Truth p b) D (step-truth a b tt (not-discarded a b x (sends_piece c))) g
  put-truths a b x e V D (sends_last c) t g =
      each-map (Truth p a) (Truth p b) D (step-truth a b tt (not-discarded a b x (sends_last c))) g
  put-truths a b x e V D sends_sync t g =
      each-map (Truth p a) (Truth p b) D (step-truth a b tt (not-discarded a b x sends_sync)) g
  put-truths a b x e V D sends_end t g =
      each-map (Truth p a) (Truth p b) D (step-truth a b tt (not-discarded a b x sends_end)) g

  not-rest : (a b : SendStage) (x : LaneUnit) → Sends p.size p.octets (last_of p.state) a x b
      → is_rest (phase b) ≡ false
  not-rest a b x sends_start = refl
  not-rest a b x sends_resume = refl
  not-rest a b x discards_first = refl
  not-rest a b x discards_started = refl
  not-rest a b x discards_next = refl
  not-rest a b x discards_sync = refl
  not-rest a b x discards_last = refl
  not-rest a b x discards_resume = refl
  not-rest a b x (sends_piece c) = refl
  not-rest a b x (sends_last c) = refl
  not-rest a b x sends_sync = refl
  not-rest a b x sends_end = refl

  pub put-stands : (a b : SendStage) (x : LaneUnit) (D V : List LaneUnit) (e : RecvStage)
      → Sends p.size p.octets (last_of p.state) a x b → SendParts p a D V e
      → Stands p.size p.octets (after (place e) V) x × Order b D (after (place e) (V ++ x ∷ []))
  put-stands a b x D V e m o =
      let g : Stands p.size p.octets (after (place e) V) x × Order b D (next (after (place e) V) x) =
      sends-order p.size p.octets (last_of p.state) a b x (after (place e) V) D m o.names o.cut
      (opened-clean a e V D o.talk) o.order in
      (g.0, subst (λ (z : Place). Order b D z) (sym (after-snoc (place e) V x)) g.1)

  pub put-parts : (a b : SendStage) (x : LaneUnit) (D V : List LaneUnit) (e : RecvStage) → Tells p.state x
      → Sends p.size p.octets (last_of p.state) a x b
      → SendParts p a D V e → SendParts p b D (V ++ x ∷ []) e
  put-parts a b x D V e t m o = record {
    idle = t.live ∙ sym (not-rest a b x m);
    names = sends-names p.size p.octets (last_of p.state) a b x m;
    talk = sends-talk p.size p.octets (last_of p.state) (Bad p) a b x e V D m o.talk;
    finish = sends-finish p.size p.octets (last_of p.state) a b x V m o.finish;
    cut = sends-cut p.size p.octets (last_of p.state) a b x m;
    order = (put-stands a b x D V e m o).1;
    truth = λ i. put-truths a b x e V D m o.talk (o.truth i);
    resumed = each-snoc (Resumed p) V x o.resumed (put-resumed a b x t o.stands m);
    stands = o.stands;
  }

  pub put-ended : (x : LaneUnit) → Tells p.state x → Ended p x
  put-ended (End k) t = λ g. inl (t.ending k refl)
  put-ended any0 t = tt

  -- both ends' links ------------------------------------------------------------------------------------

  put-doomed : (a b : SendStage) (x : LaneUnit) → Tells p.state x → Sends p.size p.octets (last_of p.state) a x b
      → IsDoomed p.state a → IsDoomed p.state b
  put-doomed a b x t discards_first d = elim d [ inl z ↦ inl z | inr z ↦ inr (z.0, tt) ]
  put-doomed a b x t (sends_resume {n = n}) d =
      elim d [
        | inl z ↦ inl z
        | inr z ↦ absurd
            (let c : 1 ≤ confirmed_of p.state = (t.resume (last_of p.state) n refl).0 in omega (arith, c, z.0))
      ]
  put-doomed a b x t sends_start d = elim d [ inl z ↦ inl z | inr z ↦ absurd z.1 ]
  put-doomed a b x t discards_started d = elim d [ inl z ↦ inl z | inr z ↦ absurd z.1 ]
  put-doomed a b x t discards_next d = elim d [ inl z ↦ inl z | inr z ↦ absurd z.1 ]
  put-doomed a b x t discards_sync d = elim d [ inl z ↦ inl z | inr z ↦ absurd z.1 ]
  put-doomed a b x t discards_last d = elim d [ inl z ↦ inl z | inr z ↦ absurd z.1 ]
  put-doomed a b x t discards_resume d = elim d [ inl z ↦ inl z | inr z ↦ absurd z.1 ]
  put-doomed a b x t (sends_piece c) d = elim d [ inl z ↦ inl z | inr z ↦ absurd z.1 ]
  put-doomed a b x t (sends_last c) d = elim d [ inl z ↦ inl z | inr z ↦ absurd z.1 ]
  put-doomed a b x t sends_sync d = elim d [ inl z ↦ inl z | inr z ↦ absurd z.1 ]
  put-doomed a b x t sends_end d = elim d [ inl z ↦ inl z | inr z ↦ absurd z.1 ]

  discarded-map : (a b : SendStage) → (IsDoomed p.state a → IsDoomed p.state b) → (x : LaneUnit) → Discarded p a x
      → Discarded p b x
  discarded-map a b f (Discard k) g = λ gd l. f (g gd l)
  discarded-map a b f _ g = tt

  -- what is resumed was not discarded on the other end's link
  apart-new : (a : SendStage) (k n : ℕ) (V : List LaneUnit) → Tells p.state (Resume k n) → Each (Discarded p a) V
      → Good p k → Each (NoDiscard k) V
  apart-new a k n V t d g = each-map (Discarded p a) (NoDiscard k) V one d
    where
      facts : (1 ≤ confirmed_of p.state) × (is_dropping p.state ≡ false) × (is_live p.state k ≡ true)
      facts = t.resume k n refl

      one : (x : LaneUnit) → Discarded p a x → NoDiscard k x
      one (Discard j) q = λ e.
          elim (q (subst (λ (z : ℕ). Good p z) (sym e) g) (subst (λ (z : ℕ). is_live p.state z ≡ true) (sym e) facts.2)) [
            | inl z ↦ (let c : true ≡ false = sym z ∙ facts.1 in cc)
            | inr z ↦ (let c : 1 ≤ confirmed_of p.state = facts.0 in omega (arith, c, z.0))
          ]
      one any0 q = tt

  apart-put : (a b : SendStage) (x : LaneUnit) (V : List LaneUnit) → Tells p.state x
      → Sends p.size p.octets (last_of p.state) a x b → Each (Discarded p a) V → ResumedApart p V x
  apart-put a b x V t (sends_resume {n = n}) d = apart-new a (last_of p.state) n V t d
  apart-put a b x V t sends_start d = tt
  apart-put a b x V t discards_first d = tt
  apart-put a b x V t discards_started d = tt
  apart-put a b x V t discards_next d = tt
  apart-put a b x V t discards_sync d = tt
  apart-put a b x V t discards_last d = tt
  apart-put a b x V t discards_resume d = tt
  apart-put a b x V t (sends_piece c) d = tt
  apart-put a b x V t (sends_last c) d = tt
  apart-put a b x V t sends_sync d = tt
  apart-put a b x V t sends_end d = tt

  -- the sending end puts on its own newest link alone
  pub put-cross_there : (i y : ℕ) (a b : SendStage) (x : LaneUnit) (D X : List LaneUnit) (joined : Bool)
      (V : List LaneUnit) → Tells p.state x
      → Sends p.size p.octets (last_of p.state) a x b → CrossParts p i y a D X joined V
      → CrossParts p i y b D (X ++ x ∷ []) joined V
  put-cross_there i y a b x D X joined V t m c = record {
    discarded = each-map (Discarded p a) (Discarded p b) V (discarded-map a b (put-doomed a b x t m)) c.discarded;
    acked = c.acked;
    apart = λ ne. each-snoc (ResumedApart p V) X x (c.apart ne) (apart-put a b x V t m c.discarded);
    old = c.old;
  }

  put-discarded : (a b : SendStage) (x : LaneUnit) → Tells p.state x → Sends p.size p.octets (last_of p.state) a x b
      → Discarded p b x
  put-discarded a b x t sends_start = tt
  put-discarded a b x t sends_resume = tt
  put-discarded a b x t discards_first =
      λ g l. elim (t.discard (last_of p.state) refl) [ inl z ↦ inl z | inr z ↦ inr (z, tt) ]
  put-discarded a b x t discards_started =
      λ g l. elim (t.discard (last_of p.state) refl) [ inl z ↦ inl z | inr z ↦ inr (z, tt) ]
  put-discarded a b x t discards_next =
      λ g l. elim (t.discard (last_of p.state) refl) [ inl z ↦ inl z | inr z ↦ inr (z, tt) ]
  put-discarded a b x t discards_sync =
      λ g l. elim (t.discard (last_of p.state) refl) [ inl z ↦ inl z | inr z ↦ inr (z, tt) ]
  put-discarded a b x t discards_last =
      λ g l. elim (t.discard (last_of p.state) refl) [ inl z ↦ inl z | inr z ↦ inr (z, tt) ]
  put-discarded a b x t discards_resume =
      λ g l. elim (t.discard (last_of p.state) refl) [ inl z ↦ inl z | inr z ↦ inr (z, tt) ]
  put-discarded a b x t (sends_piece c) = tt
  put-discarded a b x t (sends_last c) = tt
  put-discarded a b x t sends_sync = tt
  put-discarded a b x t sends_end = tt

  -- no DiscardAck of the activity is on its way where it was not discarded
  none-acked : (a : SendStage) (W : List LaneUnit) → (a ≡ s.Discard_put (last_of p.state) → ⊥) → (x : LaneUnit)
      → Truth p a x → Acked p W x
  none-acked a W ne (DiscardAck k) t = λ i e g. absurd (ne (t e).0)
  none-acked a W ne _ t = tt

  pub put-cross_both : (i : ℕ) (a b : SendStage) (x : LaneUnit) (D X : List LaneUnit) (joined : Bool)
      (V : List LaneUnit) → Tells p.state x
      → Sends p.size p.octets (last_of p.state) a x b → (is_idle p.state ≡ false → Each (Truth p a) D)
      → CrossParts p i i a D X joined V → CrossParts p i i b D (X ++ x ∷ []) joined (V ++ x ∷ [])
  put-cross_both i a b x D X joined V t m tr c = record {
    discarded = each-snoc (Discarded p b) V x
        (each-map (Discarded p a) (Discarded p b) V (discarded-map a b (put-doomed a b x t m)) c.discarded)
        (put-discarded a b x t m);
    acked = each-map (Truth p a) (Acked p (V ++ x ∷ [])) D (none-acked a (V ++ x ∷ []) (not-discarded a b x m))
        (tr t.live);
    apart = λ ne. absurd (ne refl);
    old = λ so j ne. absurd (ne refl);
  }

  -- A unit is heard -------------------------------------------------------------------------------------

  hears-parts : (a : SendStage) (x : LaneUnit) (D V : List LaneUnit) (e : RecvStage) → SendParts p a (x ∷ D) V e
      → SendParts p (stage_got a x) (x ∷ D) V e
  hears-parts (s.Resume_put k n) (ResumeAck j m) D V e o = by_numbers ((j == k) && (m == n)) refl
    where
      goes : SendParts p (s.Next k n) (ResumeAck j m ∷ D) V e
      goes = record {
        idle = o.idle;
        names = o.names;
        talk = o.talk;
        finish = o.finish;
        cut = tt;
        order = elim o.order [ inl z ↦ absurd z.1.0 | inr y ↦ elim y [ inl z ↦ absurd z.1.0 | inr z ↦ z ] ];
        truth = λ i. each-map (Truth p (s.Resume_put k n)) (Truth p (s.Next k n)) (ResumeAck j m ∷ D)
            (step-truth (s.Resume_put k n) (s.Next k n) tt (λ q. cc)) (o.truth i);
        resumed = o.resumed;
        stands = o.stands;
      }

      by_numbers : (b : Bool) → ((j == k) && (m == n)) ≡ b
          → SendParts p (if b then s.Next k n else s.Resume_put k n) (ResumeAck j m ∷ D) V e
      by_numbers true g = goes
      by_numbers false g = o
  hears-parts (s.Resume_put k n) _ D V e o = o
  hears-parts any0 x D V e o = o

  pub got-parts : (a : SendStage) (o : Option LaneUnit) (x : LaneUnit) (D V : List LaneUnit) (e : RecvStage)
      → SendParts p a (heard_with o (x ∷ D)) V e → SendParts p (stage_got a x) (x ∷ D) V e
  got-parts a o x D V e g = hears-parts a x D V e (part-unheard a V e o (x ∷ D) g)

  got-doomed : (a : SendStage) (x : LaneUnit) → IsDoomed p.state a → IsDoomed p.state (stage_got a x)
  got-doomed (s.Resume_put k n) (ResumeAck j m) d = elim d [ inl z ↦ inl z | inr z ↦ absurd z.1 ]
  got-doomed (s.Resume_put k n) _ d = d
  got-doomed s.Quiet x d = d
  got-doomed s.Opened x d = d
  got-doomed (s.Started k) x d = d
  got-doomed (s.Next k n) x d = d
  got-doomed (s.Sync_next k n) x d = d
  got-doomed (s.Last_put k n) x d = d
  got-doomed (s.End_put k n) x d = d
  got-doomed (s.Discard_put k) x d = d

  pub got-cross : (i y : ℕ) (a : SendStage) (o : Option LaneUnit) (x : LaneUnit) (D X : List LaneUnit) (joined : Bool)
      (V : List LaneUnit)
      → CrossParts p i y a (heard_with o (x ∷ D)) X joined V → CrossParts p i y (stage_got a x) (x ∷ D) X joined V
  got-cross i y a o x D X joined V g =
      let c : CrossParts p i y a (x ∷ D) X joined V = cross-unheard i y a X joined V o (x ∷ D) g in
      record {
        discarded = each-map (Discarded p a) (Discarded p (stage_got a x)) V
            (discarded-map a (stage_got a x) (got-doomed a x)) c.discarded;
        acked = c.acked;
        apart = c.apart;
        old = c.old;
      }
