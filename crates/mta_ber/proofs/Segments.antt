-- Walking over the segments of a string.
use Rattle.std.proofs.Common.{◌≡◌, ℕ, suc, ◌+◌, ◌-◌, ◌≤◌, Bool, true, false, Result, refl, sym, arith}
use Rattle.std.specs.Prelude.{◌&&◌}
use Rattle.mta_ber.specs.declared.fault.Fault.{Fault}
use Rattle.mta_ber.specs.declared.fault.Kind.TheVariants.{BadTag}
use Rattle.mta_ber.specs.Head.{fault}
use Rattle.mta_ber.specs.Element.{Part}
use Rattle.mta_ber.specs.Parts.{parts_of}
use Rattle.mta_ber.specs.Strings.{Piece, is_segment, is_empty, segment, gather}

module _ {S : Type 0} (piece : Piece S) (first second : ℕ) where
  -- the step at a segment, inside a string of the level `depth`
  abbrev pub inner : ℕ → Bool → S → Part → Result S Fault
  inner depth last before p = segment (gather piece (17 - (depth + 1)) first second) first second last before p

  pub gather_constructed : (last : Bool) (before : S) (p : Part) → p.depth ≤ 16 → p.tag.constructed ≡ true
      → gather piece (17 - p.depth) first second last before p ≡ parts_of (inner p.depth last) before p
  unfolding gather
  gather_constructed last before p high e =
      let k : 17 - p.depth ≡ suc (17 - (p.depth + 1)) = omega arith in
      rw (k, e) refl

  pub gather_primitive : (last : Bool) (before : S) (p : Part) → p.depth ≤ 16 → p.tag.constructed ≡ false
      → gather piece (17 - p.depth) first second last before p ≡ piece last before p
  unfolding gather
  gather_primitive last before p high e =
      let k : 17 - p.depth ≡ suc (17 - (p.depth + 1)) = omega arith in
      rw (k, e) refl

  pub inner_taken : (depth : ℕ) (last here : Bool) (before : S) (p : Part) (read : Result S Fault)
      → is_segment first second p.tag ≡ true → here ≡ (last && is_empty p.rest)
      → gather piece (17 - (depth + 1)) first second here before p ≡ read → inner depth last before p ≡ read
  inner_taken depth last here before p read e l h = rw (e, sym l) h

  pub inner_refused : (depth : ℕ) (last : Bool) (before : S) (p : Part) → is_segment first second p.tag ≡ false
      → inner depth last before p ≡ fault p.at BadTag
  inner_refused depth last before p e = rw e refl
