-- The components of a SET or a SEQUENCE are read exactly where they are spelled.
use Rattle.std.proofs.Common.{◌≡◌, ℕ, zero, suc, ◌+◌, ◌-◌, ◌≤◌, List, [], ◌∷◌, ◌++◌, length, Result, Ok, refl, ap}
use Rattle.std.proofs.Common.{subst, ◌∙◌, arith}
use Rattle.std.specs.List.{concat}
use Rattle.std.proofs.lemmas.List.{length-append}
use Rattle.mta_ber.specs.declared.fault.Fault.{Fault}
use Rattle.mta_ber.specs.Head.{◌>>=◌}
use Rattle.mta_ber.specs.Element.{Part, part}
use Rattle.mta_ber.specs.Parts.{parts_from, parts_of}
use Rattle.mta_ber.specs.Octet.{IsOctets}
use Rattle.mta_ber.specs.Spelling.{ending_of}
use Rattle.mta_ber.specs.Components.{Makes, AreComponents, SpellsComponents}
use Rattle.mta_ber.proofs.RowLaws.{part_sound, stands_again, lent_part, IsBytes-back}
use Rattle.mta_ber.proofs.RoundTrip.{step_on, parts_none}
use Rattle.mta_ber.proofs.StringLaws.{IsBytes-front, stands_long}
use Rattle.mta_ber.proofs.Steps.{bind_ok, ok_is}

module _ {S : Type 0} (step : S → Part → Result S Fault) (makes : Makes S) where
  -- a step answers no more than what the component makes
  abbrev pub StepSound : Type 0
  StepSound = (s t : S) (p : Part) → p.depth ≤ 16 → IsOctets p.content → IsOctets p.octets → step s p ≡ Ok t
      → makes p.depth s p.tag p.content p.octets t

  -- and all of it
  abbrev pub StepFull : Type 0
  StepFull = (s t : S) (p : Part) → p.depth ≤ 16 → makes p.depth s p.tag p.content p.octets t → step s p ≡ Ok t

  record Found (depth : ℕ) (s : S) (bytes : List ℕ) (t : S) : Type 0 where
    components : List (List ℕ)
    joined : bytes ≡ concat components
    are : AreComponents makes depth s components t

  rows_sound : StepSound → (depth turns at : ℕ) (s t : S) (bytes : List ℕ) → IsOctets bytes → length bytes ≤ turns
      → parts_from step depth turns at s bytes ≡ Ok t → Found depth s bytes t
  unfolding parts_from
  rows_sound sound depth zero at s t [] octets le e = record { components = []; joined = refl; are = ok_is s t e }
  rows_sound sound depth (suc turns) at s t [] octets le e =
      record { components = []; joined = refl; are = ok_is s t e }
  rows_sound sound depth zero at s t (b ∷ bs) octets le e = absurd (omega arith)
  rows_sound sound depth (suc turns) at s t (b ∷ bs) octets le e =
      let p = bind_ok (part at depth (b ∷ bs))
      (λ p. step s p >>= λ t. parts_from step depth turns (at + (length (b ∷ bs) - length p.rest)) t p.rest) t e in
      let q = bind_ok (step s p.0) (λ t. parts_from step depth turns
      (at + (length (b ∷ bs) - length p.0.rest)) t p.0.rest) t p.2 in
      let w = part_sound at depth (b ∷ bs) p.0 octets p.1 in
      let whole = subst IsOctets w.octets_are octets in
      let own = IsBytes-front p.0.octets p.0.rest whole in
      let content = IsBytes-front p.0.content (ending_of w.stands.count)
      (IsBytes-back w.stands.header (p.0.content ++ ending_of w.stands.count)
      (subst IsOctets w.stands.octets_are own)) in
      let shallow : p.0.depth ≤ 16 = omega (arith, w.depth_is, w.stands.shallow) in
      let made = sound s q.0 p.0 shallow content own q.1 in
      let long = stands_long depth p.0.tag p.0.content p.0.octets w.stands in
      let r = rows_sound sound depth turns (at + (length (b ∷ bs) - length p.0.rest)) q.0 t p.0.rest
      (IsBytes-back p.0.octets p.0.rest whole)
      (omega (arith, le, long, ap length w.octets_are, length-append p.0.octets p.0.rest)) q.2 in
      record {
        components = p.0.octets ∷ r.components;
        joined = w.octets_are ∙ ap (λ x. p.0.octets ++ x) r.joined;
        are = (
          q.0,
          record {
            tag = p.0.tag;
            content = p.0.content;
            stands = w.stands;
            made =
                subst (λ d. makes d s p.0.tag p.0.content p.0.octets q.0) w.depth_is made;
          },
          r.are,
        );
      }

  -- what is read is spelled
  pub parts_sound : StepSound → (s t : S) (p : Part) → IsOctets p.content → parts_of step s p ≡ Ok t
      → SpellsComponents makes p.depth s p.content t
  unfolding parts_of
  parts_sound sound s t p octets e =
      let r = rows_sound sound (p.depth + 1) (length p.content) p.start s t p.content octets (omega arith) e in
      record { components = r.components; joined = r.joined; are = r.are }

  rows_full : StepFull → (depth turns at : ℕ) (s t : S) (es : List (List ℕ)) → length (concat es) ≤ turns
      → AreComponents makes depth s es t → parts_from step depth turns at s (concat es) ≡ Ok t
  rows_full full depth turns at s t [] le h = parts_none step depth turns at s ∙ ap (λ x. Ok x) h
  rows_full full depth zero at s t (e ∷ es) le h =
      absurd (let long = stands_long depth h.1.tag h.1.content e h.1.stands in
      omega (arith, le, length-append e (concat es)))
  rows_full full depth (suc turns) at s t (e ∷ es) le h =
      let g = h.1 in
      let long = stands_long depth g.tag g.content e g.stands in
      let lent = lent_part at depth g.tag (length g.stands.header) g.content (concat es) e in
      let stepped = full s h.0 lent g.stands.shallow g.made in
      step_on step depth turns at s h.0 (e ++ concat es) lent
      (stands_again at depth g.tag g.content e (concat es) g.stands) stepped
      ∙ rows_full full depth turns (at + (length (e ++ concat es) - length (concat es))) h.0 t es
      (omega (arith, le, long, length-append e (concat es))) h.2

  -- and what is spelled is read
  pub parts_full : StepFull → (s t : S) (p : Part) → SpellsComponents makes p.depth s p.content t
      → parts_of step s p ≡ Ok t
  unfolding parts_of
  parts_full full s t p h =
      ap (λ b. parts_from step (p.depth + 1) (length p.content) p.start s b) h.joined
      ∙ rows_full full (p.depth + 1) (length p.content) p.start s t h.components
      (omega (arith, ap length h.joined)) h.are
