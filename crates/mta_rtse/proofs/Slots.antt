-- What a step of a reader of components answers is what a component makes, and the other way round.
use Rattle.std.proofs.Common.{◌≡◌, ℕ, ◌≤◌, Bool, true, false, cond, eqb, Result, Ok, Err, refl, sym, ap, ◌∙◌}
use Rattle.std.specs.Prelude.{◌&&◌}
use Rattle.std.proofs.lemmas.Bool.{eqb-true}
use Rattle.mta_ber.specs.declared.fault.Fault.{Fault}
use Rattle.mta_ber.specs.declared.tag.Tag.{Tag}
use Rattle.mta_ber.specs.Head.{◌>>=◌}
use Rattle.mta_ber.specs.Octet.{IsOctets}
use Rattle.mta_ber.specs.Element.{Part}
use Rattle.mta_ber.specs.Parts.{components, parts_of, is_tag, in_order}
use Rattle.mta_ber.specs.Components.{Makes, SpellsComponents}
use Rattle.mta_ber.specs.Explicit.{Spells}
use Rattle.mta_ber.proofs.HeadLaws.{and_true}
use Rattle.mta_ber.proofs.Steps.{ok_is, taken}
use Rattle.mta_ber.proofs.ComponentLaws.{StepSound, StepFull, parts_sound, parts_full}
use Rattle.mta_ber.proofs.ExplicitLaws.{ReadSound, ReadFull, placed_in_order, in_order_full}
use Rattle.mta_rtse.specs.Bind.{vacant}
use Rattle.mta_rtse.specs.Spelling.{Fills, Follows}

-- a tag is no other tag
pub not_tag : (class number class' number' : ℕ) (t : Tag) → is_tag class number t ≡ true
    → (eqb class class' && eqb number number') ≡ false → is_tag class' number' t ≡ false
not_tag class number class' number' t e other =
    let a = and_true (eqb t.class class) (eqb t.number number) e in
    let c : t.class ≡ class = eqb-true t.class class a.0 in
    let n : t.number ≡ number = eqb-true t.number number a.1 in
    rw (c, n) other

-- a tag in one form is a tag
pub is_plain : (class number : ℕ) (t : Tag) (b : Bool) → (is_tag class number t && b) ≡ true
    → is_tag class number t ≡ true
is_plain class number t b e = (and_true (is_tag class number t) b e).0

-- and a tag that is another one is so in each form
pub not_formed : (class number class' number' : ℕ) (t : Tag) (b : Bool) → is_tag class number t ≡ true
    → (eqb class class' && eqb number number') ≡ false → (is_tag class' number' t && b) ≡ false
not_formed class number class' number' t b e other = ap (λ x. x && b) (not_tag class number class' number' t e other)

pub pick : {A : Type 0} {b : Bool} {x z : A} (y : A) → b ≡ true → x ≡ z → cond b x y ≡ z
pick y e h = rw e h

pub pass : {A : Type 0} {b : Bool} {y z : A} (x : A) → b ≡ false → y ≡ z → cond b x y ≡ z
pass x e h = rw e h

vacant_so : {A S : Type 0} (held : Bool) (at : ℕ) (read : Result A Fault) (put : A → S) (t : S)
    → (vacant held at read >>= λ x. Ok (put x)) ≡ Ok t → (x : A) × (held ≡ false) × (read ≡ Ok x) × (put x ≡ t)
vacant_so true at read put t e = absurd cc
vacant_so false at (Ok x) put t e = (x, refl, refl, ok_is (put x) t e)
vacant_so false at (Err d) put t e = absurd cc

pub fills_sound : {S A : Type 0} {expected : Tag → Bool} {held : S → Bool} {put : A → S → S} {spells : Spells A}
    (read : Part → Result A Fault) → ReadSound read spells
    → (s t : S) (p : Part) → p.depth ≤ 16 → IsOctets p.content → IsOctets p.octets → expected p.tag ≡ true
    → (vacant (held s) p.at (read p) >>= λ x. Ok (put x s)) ≡ Ok t
    → Fills expected held put spells p.depth s p.tag p.content p.octets t
fills_sound {held = held} {put = put} read sound s t p shallow octets own is_tag_of e =
    let q = vacant_so (held s) p.at (read p) (λ x. put x s) t e in
    record {
      is_tag_of = is_tag_of;
      absent = q.1;
      value = q.0;
      spelled = sound q.0 p shallow octets own q.2;
      after_is =
          sym q.3;
    }

pub fills_full : {S A : Type 0} {expected : Tag → Bool} {held : S → Bool} {put : A → S → S} {spells : Spells A}
    (read : Part → Result A Fault) → ReadFull read spells
    → (s t : S) (p : Part) → p.depth ≤ 16 → Fills expected held put spells p.depth s p.tag p.content p.octets t
    → (vacant (held s) p.at (read p) >>= λ x. Ok (put x s)) ≡ Ok t
fills_full {held = held} {put = put} read full s t p shallow h =
    let r = full h.value p shallow h.spelled in
    ap (λ b. vacant b p.at (read p) >>= λ x. Ok (put x s)) h.absent ∙ ap (λ r. r >>= λ x. Ok (put x s)) r
    ∙ ap Ok (sym h.after_is)

pub follows_sound : {S A : Type 0} {class number : ℕ} {last : S → ℕ} {needed place : ℕ} {put : A → S → S}
    {spells : Spells A} (read : Part → Result A Fault) → ReadSound read spells
    → (s t : S) (p : Part) → p.depth ≤ 16 → IsOctets p.content → IsOctets p.octets → is_tag class number p.tag ≡ true
    → (in_order (last s) needed place p.at (read p) >>= λ x. Ok (put x s)) ≡ Ok t
    → Follows class number last needed place put spells p.depth s p.tag p.content p.octets t
follows_sound {last = last} {needed = needed} {place = place} {put = put} read sound s t p shallow octets own is_tag_of
    e =
    let q = placed_in_order (last s) needed place p.at (read p) (λ x. put x s) t e in
    record {
      is_tag_of = is_tag_of;
      behind = q.1;
      reached = q.2;
      value = q.0;
      spelled =
          sound q.0 p shallow octets own q.3;
      after_is = sym q.4;
    }

pub follows_full : {S A : Type 0} {class number : ℕ} {last : S → ℕ} {needed place : ℕ} {put : A → S → S}
    {spells : Spells A} (read : Part → Result A Fault) → ReadFull read spells
    → (s t : S) (p : Part) → p.depth ≤ 16
    → Follows class number last needed place put spells p.depth s p.tag p.content p.octets t
    → (in_order (last s) needed place p.at (read p) >>= λ x. Ok (put x s)) ≡ Ok t
follows_full {last = last} {needed = needed} {place = place} {put = put} read full s t p shallow h =
    let r = full h.value p shallow h.spelled in
    ap (λ r. r >>= λ x. Ok (put x s)) (in_order_full (last s) needed place p.at (read p) h.behind h.reached ∙ r)
    ∙ ap Ok (sym h.after_is)

-- ---- all components

module _ {S : Type 0} (step : S → Part → Result S Fault) (makes : Makes S) where
  pub components_sound : StepSound step makes → (s t : S) (p : Part) → IsOctets p.content → components step s p ≡ Ok t
      → (p.tag.constructed ≡ true) × SpellsComponents makes p.depth s p.content t
  components_sound sound s t p octets e =
      let c = taken p.tag.constructed (parts_of step s p) _ t e in
      (c.0, parts_sound step makes sound s t p octets c.1)

  pub components_full : StepFull step makes → (s t : S) (p : Part) → p.tag.constructed ≡ true
      → SpellsComponents makes p.depth s p.content t → components step s p ≡ Ok t
  components_full full s t p is h = pick _ is (parts_full step makes full s t p h)
