-- The receiving end puts a unit: what stays true.
use Rattle.std.proofs.Common.{◌≡◌, ℕ, ◌==◌, nat_le, Bool, true, false, Option, Some, None, List, [], ◌∷◌, ◌++◌, refl}
use Rattle.std.proofs.Common.{sym, ◌∙◌, ap, subst, inl, inr}
use Rattle.std.proofs.lemmas.Bool.{and_parts}
use Rattle.mta_lane_send.specs.Half.{last_of, is_idle}
use Rattle.mta_lane_recv.specs.declared.state.Last.{Last}
use Rattle.mta_lane_recv.specs.declared.state.Last.TheVariants as last
use Rattle.mta_lane_recv.specs.Half.{is_done, is_partial_of, stands}
use Rattle.mta_transfer_rules.specs.Units.{LaneUnit, Start, Piece, Sync, End, Resume, Discard, SyncAck, EndAck}
use Rattle.mta_transfer_rules.specs.Units.{ResumeAck, DiscardAck, Exception, Completed, Unrecognized, CannotRecover}
use Rattle.mta_transfer_rules.specs.Units.{Accept, Other}
use Rattle.mta_transfer_rules.specs.Sending as s
use Rattle.mta_transfer_rules.specs.Sending.{SendStage}
use Rattle.mta_transfer_rules.specs.Receiving as r
use Rattle.mta_transfer_rules.specs.Receiving.{RecvStage, RecvEnd, Syncs, MayPut, put}
use Rattle.mta_world.specs.World.{SendPart}
use Rattle.mta_world.specs.Agrees.{IsAmong}
use Rattle.mta_world.proofs.Units.{Each, each-snoc, pending, transfers, UpTo, NoEnd, IsSilent}
use Rattle.mta_world.proofs.Flow.{Flows, place}
use Rattle.mta_world.proofs.Talk.{phase, Genuine}
use Rattle.mta_world.proofs.Answers.{Answers, confirms, completes, resumes, denies, drops, has_completed, refuses}
use Rattle.mta_world.proofs.Answers.{accepts, says_other, answers-each, answers-last, answers-upto, answers-flow}
use Rattle.mta_world.proofs.Answers.{answers-order, answers-talk, asked-own, discards-own, found-own, syncs-own}
use Rattle.mta_world.proofs.Answers.{finish-at}
use Rattle.mta_world.proofs.Takes.{Shrinks, finish-shrinks}
use Rattle.mta_world.proofs.Claims.{Sides, Bad, Good, StandsSome, heard_with, LinkParts, SendParts, CrossParts, Truth}
use Rattle.mta_world.proofs.Claims.{Resumed, Acked}

-- what the durable halves tell
pub record Facts (p : Sides) : Type 0 where
  pub done : (k : ℕ) → is_done p.last k ≡ true → IsAmong k p.completed
  pub good_done : (k : ℕ) → IsAmong k p.completed → Good p k
  pub live_done : is_idle p.state ≡ false → IsAmong (last_of p.state) p.completed
      → is_done p.last (last_of p.state) ≡ true

pub heard-snoc : (o : Option LaneUnit) (way : List LaneUnit) (x : LaneUnit)
    → heard_with o (way ++ x ∷ []) ≡ heard_with o way ++ x ∷ []
heard-snoc None way x = refl
heard-snoc (Some y) way x = refl

pub bad-good : (p : Sides) (k : ℕ) (A : Type 0) → Bad p k → Good p k → A
bad-good p k A b g = absurd (let e : false ≡ true = sym b ∙ g in cc)

pub bad-unless : (p : Sides) (k : ℕ) → (Good p k → ⊥) → Bad p k
bad-unless p k f = by_test (p.spells (p.octets k)) refl
  where
    by_test : (b : Bool) → p.spells (p.octets k) ≡ b → p.spells (p.octets k) ≡ false
    by_test true e = absurd (f e)
    by_test false e = e

stands-some : (l : Last) (k n : ℕ) → stands l k n ≡ true → StandsSome l k
stands-some last.None k n e = absurd cc
stands-some (last.Partial j q) k n e = inl (and_parts (k == j) (nat_le n q) e).0
stands-some (last.Done j) k n e = inr e

module _ (bad known : ℕ → Type 0) where
  answers-none : (e f : RecvStage) (x : LaneUnit) (T : List LaneUnit) → Answers bad known e x f → pending e ++ T ≡ []
      → pending f ++ T ≡ []
  answers-none e f x T (confirms k g) h = h
  answers-none e f x T completes h = absurd cc
  answers-none e f x T resumes h = absurd cc
  answers-none e f x T (denies b) h = absurd cc
  answers-none e f x T drops h = absurd cc
  answers-none e f x T (has_completed b) h = absurd cc
  answers-none e f x T (refuses b) h = h
  answers-none e f x T accepts h = h
  answers-none e f x T says_other h = h

  pub answers-shrinks : (e f : RecvStage) (x : LaneUnit) (T : List LaneUnit) → Answers bad known e x f
      → Shrinks (pending e ++ T) (pending f ++ T)
  answers-shrinks e f x T m = record {
    each = λ P g. answers-each bad known P e f x T m g;
    last =
        λ h g. answers-last bad known h e f x T m g;
    none = λ g. answers-none e f x T m g;
  }

  free-syncs : (e : RecvStage) (k m : ℕ) (A : Type 0) → Syncs e k m → e ≡ r.Free → A
  free-syncs e k m A g at = absurd (subst (λ (z : RecvStage). Syncs z k m) at g)

  free-answers : (e f : RecvStage) (x : LaneUnit) → Answers bad known e x f → e ≡ r.Free → (f ≡ r.Free) × IsSilent x
  free-answers e f x (confirms k {m = m} g) at = free-syncs e k m _ g at
  free-answers e f x completes at = absurd cc
  free-answers e f x resumes at = absurd cc
  free-answers e f x (denies b) at = absurd cc
  free-answers e f x drops at = absurd cc
  free-answers e f x (has_completed b) at = absurd cc
  free-answers e f x (refuses b) at = absurd cc
  free-answers e f x accepts at = (at, tt)
  free-answers e f x says_other at = (at, tt)

  -- what the rules allow an end to put
  pub put-answers : (e : RecvEnd) (x : LaneUnit) → MayPut e x
      → ((k n : ℕ) → e.stage ≡ r.Asked k n → is_done e.last k ≡ false → is_partial_of e.last k ≡ false → known k)
      → ((k : ℕ) → is_done e.last k ≡ true → bad k → ⊥)
      → ((k : ℕ) → e.stage ≡ r.Found k → bad k)
      → Answers bad known e.stage x (put e x).stage
  put-answers e (SyncAck m) g kn nd fb = confirms g.0 g.1
  put-answers e (EndAck k) g kn nd fb = subst (λ (z : RecvStage). Answers bad known z (EndAck k) r.Free)
      (sym g.2) completes
  put-answers e (ResumeAck k n) g kn nd fb = subst (λ (z : RecvStage). Answers bad known z (ResumeAck k n) (r.Next k n))
      (sym g.0) resumes
  put-answers e Unrecognized g kn nd fb =
      subst (λ (z : RecvStage). Answers bad known z Unrecognized r.Free) (sym g.2)
      (denies {k = g.0} {n = g.1} (kn g.0 g.1 g.2 g.3 g.4))
  put-answers e (DiscardAck k) g kn nd fb = subst (λ (z : RecvStage). Answers bad known z (DiscardAck k) r.Free)
      (sym g.0) drops
  put-answers e Completed g kn nd fb = subst (λ (z : RecvStage). Answers bad known z Completed r.Free) (sym g.1)
      (has_completed {k = g.0} (nd g.0 g.2))
  put-answers e Exception g kn nd fb = subst (λ (z : RecvStage). Answers bad known z Exception (r.skipped z)) (sym g.1)
      (refuses {k = g.0} (fb g.0 g.1))
  put-answers e Accept g kn nd fb = accepts
  put-answers e Other g kn nd fb = says_other
  put-answers e any1 g kn nd fb = absurd g

module _ (p : Sides) where
  pub put-link : (known : ℕ → Type 0) (U down : List LaneUnit) (send : SendPart) (e f : RecvStage) (x : LaneUnit)
      (a b : Bool) → b ≡ true → Answers (Bad p) known e x f
      → LinkParts p U down send e a b → LinkParts p U (down ++ x ∷ []) send f a b
  put-link known U down send e f x a b on m l =
      let fl : Flows p.size p.octets (place f) (pending f ++ transfers U) × Genuine p.size p.octets (Bad p) f =
      answers-flow (Bad p) known p.size p.octets e f x (transfers U) m l.genuine l.flows in
      record {
        flows = fl.0;
        genuine = fl.1;
        named = answers-each (Bad p) known (UpTo (last_of p.state)) e f x (transfers U) m l.named;
        stage_named = answers-upto (Bad p) known (last_of p.state) e f x m l.stage_named;
        fresh = λ u. (let o : (e ≡ r.Free) × (transfers U ≡ []) × Each IsSilent (heard_with send.heard down) =
            l.fresh u in
            let n : (f ≡ r.Free) × IsSilent x = free-answers (Bad p) known e f x m o.0 in (
              n.0,
              o.1,
              subst (λ (z : List LaneUnit). Each IsSilent z) (sym (heard-snoc send.heard down x))
                  (each-snoc IsSilent (heard_with send.heard down) x o.2 n.1),
            ));
        not_joined = λ so u. absurd (let g : false ≡ true = sym u ∙ on in cc);
        not_on = l.not_on;
      }

  -- a Discard of the activity under way is the last unit of it
  pub discard-behind : (stage : SendStage) (D T : List LaneUnit) (e : RecvStage) (k : ℕ)
      → SendParts p stage D (Discard k ∷ T) e → is_idle p.state ≡ false → k ≡ last_of p.state
      → (stage ≡ s.Discard_put (last_of p.state)) × (T ≡ [])
  discard-behind s.Quiet D T e k o i same = absurd (let g : false ≡ true = sym i ∙ o.idle in cc)
  discard-behind (s.End_put j n) D T e k o i same = absurd (o.finish.0.0 same)
  discard-behind (s.Discard_put j) D T e k o i same = (ap (λ (z : ℕ). s.Discard_put z) o.names, o.finish.1.0 same)
  discard-behind any0 D T e k o i same = absurd (o.finish.0 same)

  module _ (stage : SendStage) (D T : List LaneUnit) (e : RecvEnd)
      (o : SendParts p stage D (pending e.stage ++ T) e.stage) (facts : Facts p)
      (genuine : Genuine p.size p.octets (Bad p) e.stage) (same_last : e.last ≡ p.last) where
    -- the same claims where the stage is known
    at : (f : RecvStage) → e.stage ≡ f → SendParts p stage D (pending f ++ T) f
    at f g = subst (λ (z : RecvStage). SendParts p stage D (pending z ++ T) z) g o

    pub denied-bad : is_idle p.state ≡ false → (k n : ℕ) → e.stage ≡ r.Asked k n → is_done e.last k ≡ false
        → is_partial_of e.last k ≡ false → Bad p k
    denied-bad live k n g nd np =
        bad-unless p k (λ gd.
        elim ((at (r.Asked k n) g).resumed.0 live
        (asked-own (Bad p) (Bad p) (last_of p.state) (phase stage) k n T D (at (r.Asked k n) g).talk) gd) [
          | inl q ↦ (let c : true ≡ false = sym q ∙ ap (λ (z : Last). is_partial_of z k) (sym same_last) ∙ np in
              absurd cc)
          | inr q ↦ (let c : true ≡ false = sym q ∙ ap (λ (z : Last). is_done z k) (sym same_last) ∙ nd in absurd cc)
        ])

    -- an end that asks does so of an activity under way
    pub asked-live : (k n : ℕ) → e.stage ≡ r.Asked k n → is_idle p.state ≡ false
    asked-live k n g = by_stage stage (at (r.Asked k n) g)
      where
        by_stage : (a : SendStage) → SendParts p a D (Resume k n ∷ T) (r.Asked k n) → is_idle p.state ≡ false
        by_stage s.Quiet q = absurd q.talk.0.0
        by_stage s.Opened q = q.idle
        by_stage (s.Started j) q = q.idle
        by_stage (s.Next j m) q = q.idle
        by_stage (s.Sync_next j m) q = q.idle
        by_stage (s.Last_put j m) q = q.idle
        by_stage (s.End_put j m) q = q.idle
        by_stage (s.Resume_put j m) q = q.idle
        by_stage (s.Discard_put j) q = q.idle

    pub faulty-bad : (k : ℕ) → e.stage ≡ r.Found k → Bad p k
    faulty-bad k g = subst (λ (z : RecvStage). Genuine p.size p.octets (Bad p) z) g genuine

    pub done-good : (k : ℕ) → is_done e.last k ≡ true → Bad p k → ⊥
    done-good k g b = bad-good p k ⊥ b
        (facts.good_done k (facts.done k (ap (λ (z : Last). is_done z k) (sym same_last) ∙ g)))

    among : (k : ℕ) → is_done e.last k ≡ true → IsAmong k p.completed
    among k g = facts.done k (ap (λ (z : Last). is_done z k) (sym same_last) ∙ g)

    pub put-truth : (x : LaneUnit) → is_idle p.state ≡ false → MayPut e x → Truth p stage x
    put-truth (SyncAck m) i g = λ nd go gd.
        let own : g.0 ≡ last_of p.state = syncs-own (Bad p) (Bad p) (last_of p.state) (phase stage) e.stage
        (pending e.stage ++ T) D g.0 m g.1 o.talk in
        let held : StandsSome e.last g.0 = stands-some e.last g.0 m g.3 in
        subst (λ (z : ℕ). StandsSome p.last z) own (subst (λ (z : Last). StandsSome z g.0) same_last held)
    put-truth (EndAck k) i g = among k g.3
    put-truth Unrecognized i g =
        let own : g.0 ≡ last_of p.state = asked-own (Bad p) (Bad p) (last_of p.state) (phase stage) g.0 g.1 T D
        (at (r.Asked g.0 g.1) g.2).talk in
        subst (λ (z : ℕ). Bad p z) own (denied-bad i g.0 g.1 g.2 g.3 g.4)
    put-truth (DiscardAck k) i g = λ same. (
      (discard-behind stage D T (r.Discards k) k (at (r.Discards k) g.0) i same).0,
      (λ gd am.
          let d : is_done p.last (last_of p.state) ≡ true = facts.live_done i am in
          let c : true ≡ false = sym d ∙ ap (λ (z : ℕ). is_done p.last z) (sym same)
          ∙ ap (λ (z : Last). is_done z k) (sym same_last) ∙ g.1 in absurd cc),
    )
    put-truth Completed i g =
        let own : g.0 ≡ last_of p.state = discards-own (Bad p) (Bad p) (last_of p.state) (phase stage) g.0 T D
        (done-good g.0 g.2) (at (r.Discards g.0) g.1).talk in
        subst (λ (z : ℕ). IsAmong z p.completed) own (among g.0 g.2)
    put-truth Exception i g =
        let own : g.0 ≡ last_of p.state = found-own (Bad p) (Bad p) (last_of p.state) (phase stage) g.0 T D
        (at (r.Found g.0) g.1).talk in
        subst (λ (z : ℕ). Bad p z) own (faulty-bad g.0 g.1)
    put-truth CannotRecover i g = absurd g
    put-truth any0 i g = tt

    -- with a DiscardAck no End is on its way
    pub put-acked : (x : LaneUnit) → MayPut e x → (f : RecvStage) → Answers (Bad p) (Bad p) e.stage x f
        → Acked p (pending f ++ T) x
    put-acked (DiscardAck k) g f m = λ i same gd.
        let none : T ≡ [] = (discard-behind stage D T (r.Discards k) k (at (r.Discards k) g.0) i same).1 in
        let whole : Each (NoEnd k) (pending e.stage ++ T) =
        subst (λ (z : RecvStage). Each (NoEnd k) (pending z ++ T)) (sym g.0)
        (subst (λ (z : List LaneUnit). Each (NoEnd k) (Discard k ∷ z)) (sym none) (tt, tt)) in
        (answers-shrinks (Bad p) (Bad p) e.stage f (DiscardAck k) T m).each (NoEnd k) whole
    put-acked any0 g f m = tt

    pub put-send : (x : LaneUnit) (f : RecvStage) → MayPut e x → Answers (Bad p) (Bad p) e.stage x f
        → Flows p.size p.octets (place e.stage) (pending e.stage ++ T)
        → SendParts p stage (D ++ x ∷ []) (pending f ++ T) f
    put-send x f g m fl =
        let h : ℕ = last_of p.state in
        record {
          idle = o.idle;
          names = o.names;
          talk = answers-talk (Bad p) (Bad p) h (λ k b. b) (phase stage) e.stage f x D T m
              (finish-at h stage (pending e.stage ++ T) o.finish) o.talk;
          finish = finish-shrinks h stage _ _ (answers-shrinks (Bad p) (Bad p) e.stage f x T m) o.finish;
          cut = o.cut;
          order = answers-order (Bad p) (Bad p) h p.size p.octets stage e.stage f x D T m o.names
              (λ k n a. asked-own (Bad p) (Bad p) h (phase stage) k n T D (at (r.Asked k n) a).talk) o.finish fl
              o.order;
          truth = λ i. each-snoc (Truth p stage) D x (o.truth i) (put-truth x i g);
          resumed = answers-each (Bad p) (Bad p) (Resumed p) e.stage f x T m o.resumed;
          stands = o.stands;
        }

  pub cross-put : (x y : ℕ) (stage : SendStage) (D X V : List LaneUnit) (joined : Bool) (u : LaneUnit) → Acked p V u
      → CrossParts p x y stage D X joined V → CrossParts p x y stage (D ++ u ∷ []) X joined V
  cross-put x y stage D X V joined u a c = record {
    discarded = c.discarded;
    acked = each-snoc (Acked p V) D u c.acked a;
    apart = c.apart;
    old = c.old;
  }
