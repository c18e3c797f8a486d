-- What View::first answers.
use Rattle.std.proofs.Common.{◌≡◌, ℕ, List, [], ◌∷◌, ◌++◌, Option, Some, None, Result, Ok, Err, refl, sym, ap, subst}
use Rattle.std.proofs.Common.{◌∙◌, length}
use Rattle.std.specs.Prelude.{IfOk, IfSome, IsOkAnd, IsSomeAnd}
use Rattle.mta_ber.specs.declared.fault.Fault.{Fault}
use Rattle.mta_ber.specs.declared.tag.Tag.{Tag}
use Rattle.mta_ber.specs.declared.view.View.{View}
use Rattle.mta_ber.specs.Element.{Part, part, first, next_part, outermost}
use Rattle.mta_ber.specs.Seen.{Gives, view, next_view}
use Rattle.mta_ber.specs.Spelling.{Stands, Standing, IsLentAt}
use Rattle.mta_ber.proofs.HeadLaws.{IsBytes}
use Rattle.mta_ber.proofs.RowLaws.{part_sound, stands_again, first_sound, first_stands, standing_lent, lent_part}
use Rattle.mta_ber.proofs.RowLaws.{part_is}
use Rattle.mta_ber.proofs.RoundTrip.{no_part}
use Rattle.mta_ber.specs.Head.{◌>>=◌}

pub first_found : (at : ℕ) (bytes : List ℕ) (r : Result View Fault) → IsBytes bytes → Gives view r (first at bytes)
    → IfOk r (λ v. Standing at (outermost v.tag) (view v) bytes)
first_found at bytes (Ok v) octets g = first_sound at bytes (view v) octets g
first_found at bytes (Err f) octets g = tt

pub first_lent : (at : ℕ) (bytes : List ℕ) (r : Result View Fault) → IsBytes bytes → Gives view r (first at bytes)
    → IfOk r (λ v. IsLentAt at (view v) bytes)
first_lent at bytes (Ok v) octets g =
    standing_lent at (outermost v.tag) (view v) bytes (first_sound at bytes (view v) octets g)
first_lent at bytes (Err f) octets g = tt

pub first_only : (at : ℕ) (bytes : List ℕ) (r : Result View Fault) → Gives view r (first at bytes)
    → (t : Tag) (content octets rest : List ℕ) → Stands (outermost t) t content octets → bytes ≡ octets ++ rest
    → IsOkAnd r (λ v. (v.tag ≡ t) × (v.content.now ≡ content) × (v.rest.now ≡ rest) × (v.octets.now ≡ octets))
first_only at bytes (Ok v) g t content octets rest h e =
    let p = part_is (view v) (lent_part at (outermost t) t (length h.header) content rest octets)
    (sym g ∙ ap (first at) e ∙ first_stands at t content octets rest h) in (
      ap (λ (p : Part). p.tag) p,
      ap (λ (p : Part). p.content) p,
      ap (λ (p : Part). p.rest) p,
      ap (λ (p : Part). p.octets) p,
    )
first_only at bytes (Err f) g t content octets rest h e =
    absurd (let k = sym g ∙ ap (first at) e ∙ first_stands at t content octets rest h in cc)

-- ---- what Parts::next answers

nothing_next : (at depth : ℕ) (p : Part) → next_part at depth [] ≡ Ok (Some p) → ⊥
unfolding next_part
nothing_next at depth p e = cc

next_is_part : (at depth : ℕ) (bytes : List ℕ) (p : Part) → next_part at depth bytes ≡ Ok (Some p)
    → part at depth bytes ≡ Ok p
unfolding next_part
next_is_part at depth [] p e = absurd (nothing_next at depth p e)
next_is_part at depth (b ∷ bs) p e = go (part at depth (b ∷ bs)) refl e
  where
    go : (r : Result Part Fault) → part at depth (b ∷ bs) ≡ r → (r >>= λ p. Ok (Some p)) ≡ Ok (Some p)
        → part at depth (b ∷ bs) ≡ Ok p
    go (Ok q) is e = is ∙ (let q-is : q ≡ p = cc in ap (λ (x : Part). Ok x) q-is)
    go (Err f) is e = absurd cc

pub next_found : (at depth : ℕ) (bytes : List ℕ) (r : Result (Option View) Fault) → IsBytes bytes
    → Gives next_view r (next_part at depth bytes) → IfOk r (λ o. IfSome o (λ v. Standing at depth (view v) bytes))
next_found at depth bytes (Ok None) octets g = tt
next_found at depth bytes (Ok (Some v)) octets g =
    part_sound at depth bytes (view v) octets (next_is_part at depth bytes (view v) g)
next_found at depth bytes (Err f) octets g = tt

pub next_lent : (at depth : ℕ) (bytes : List ℕ) (r : Result (Option View) Fault) → IsBytes bytes
    → Gives next_view r (next_part at depth bytes) → IfOk r (λ o. IfSome o (λ v. IsLentAt at (view v) bytes))
next_lent at depth bytes (Ok None) octets g = tt
next_lent at depth bytes (Ok (Some v)) octets g =
    standing_lent at depth (view v) bytes
    (part_sound at depth bytes (view v) octets (next_is_part at depth bytes (view v) g))
next_lent at depth bytes (Err f) octets g = tt

abbrev Answers : Tag → List ℕ → List ℕ → List ℕ → View → Type 0
Answers t content rest octets v = (v.tag ≡ t) × (v.content.now ≡ content) × (v.rest.now ≡ rest)
    × (v.octets.now ≡ octets)

some_octet : (at depth : ℕ) (bytes : List ℕ) (p : Part) → part at depth bytes ≡ Ok p
    → next_part at depth bytes ≡ Ok (Some p)
unfolding next_part
some_octet at depth [] p e = absurd (no_part at depth p e)
some_octet at depth (b ∷ bs) p e = rw e refl

pub next_only : (at depth : ℕ) (bytes : List ℕ) (r : Result (Option View) Fault)
    → Gives next_view r (next_part at depth bytes) → (t : Tag) (content octets rest : List ℕ)
    → Stands depth t content octets → bytes ≡ octets ++ rest
    → IsOkAnd r (λ o. IsSomeAnd o (Answers t content rest octets))
next_only at depth bytes r g t content octets rest h e =
    let is = ap (next_part at depth) e
    ∙ some_octet at depth (octets ++ rest) (lent_part at depth t (length h.header) content rest octets)
    (stands_again at depth t content octets rest h) in
    go r (subst (λ x. Gives next_view r x) is g)
  where
    go : (r : Result (Option View) Fault)
        → Gives next_view r (Ok (Some (lent_part at depth t (length h.header) content rest octets)))
        → IsOkAnd r (λ o. IsSomeAnd o (Answers t content rest octets))
    go (Ok None) g = absurd cc
    go (Ok (Some v)) g =
        let p : lent_part at depth t (length h.header) content rest octets ≡ view v = cc in (
          sym (ap (λ (p : Part). p.tag) p),
          sym (ap (λ (p : Part). p.content) p),
          sym (ap (λ (p : Part). p.rest) p),
          sym (ap (λ (p : Part). p.octets) p),
        )
    go (Err f) g = absurd cc
