-- What is read of a reference is in its range.
use Rattle.std.proofs.Common.{◌≡◌, ℕ, ◌≤◌, cond, ltb, List, length, Option, Some, None, Ok, ap, subst, inl, inr}
use Rattle.std.specs.Prelude.{IfSome}
use Rattle.std.proofs.lemmas.Bool.{ltb-false}
use Rattle.mta_ber.specs.declared.fault.Kind.TheVariants.{BadSize}
use Rattle.mta_ber.specs.Head.{fault}
use Rattle.mta_ber.specs.Element.{Part}
use Rattle.mta_ber.specs.Parts.{is_tag, parts_of}
use Rattle.mta_ber.specs.Strings.{joined, joined_as}
use Rattle.mta_ber.specs.Times.{utc_in, moment_of, timed, last_moment}
use Rattle.mta_ber.proofs.Steps.{bind_ok, chosen, passed, ok_is, parts_of_keep}
use Rattle.mta_ber.proofs.ExplicitLaws.{placed_in_order}
use Rattle.mta_ber.proofs.MomentLaws.{moment_sound}
use Rattle.mta_records.specs.Reference.{longest_reference, IsIdentifier, identifier}
use Rattle.mta_rtse.specs.declared.identifier.ReferenceParts.{ReferenceParts}
use Rattle.mta_rtse.specs.Values.{octets_in}
use Rattle.mta_rtse.specs.Identifier.{reference_step, no_reference}

-- octets of a size are no longer
pub octets_short : (most : ℕ) (p : Part) (o : List ℕ) → octets_in most p ≡ Ok o → length o ≤ most
unfolding octets_in
octets_short most p o e =
    let j = bind_ok (joined p) (λ o. cond (ltb most (length o)) (fault p.at BadSize) (Ok o)) o e in
    let c = passed (ltb most (length j.0)) _ _ o j.2 in
    let P : List ℕ → Type 0 = λ l. length l ≤ most in
    subst P (ok_is j.0 o c.1) (ltb-false most (length j.0) c.0)

pub timed_so : (at : ℕ) (o : Option ℕ) (m : ℕ) → timed at o ≡ Ok m → o ≡ Some m
timed_so at None m e = absurd cc
timed_so at (Some n) m e = ap (λ z. Some z) (ok_is n m e)

-- a moment that is read is one that can be written
pub moment_in_time : (p : Part) (m : ℕ) → utc_in p ≡ Ok m → m ≤ last_moment
unfolding utc_in
moment_in_time p m e =
    let j = bind_ok (joined_as 23 p) (λ t. timed p.at (moment_of t)) m e in
    (moment_sound j.0 m (timed_so p.at (moment_of j.0) m j.2)).in_range

abbrev Short : Option (List ℕ) → Type 0
Short o = IfSome o (λ octets. length octets ≤ longest_reference)

record Fits (s : ReferenceParts) : Type 0 where
  calling : Short s.calling
  common : IfSome s.common (λ m. m ≤ last_moment)
  additional : Short s.additional

step_fits : (s : ReferenceParts) (p : Part) (t : ReferenceParts) → Fits s → reference_step s p ≡ Ok t → Fits t
unfolding reference_step
step_fits s p t h e =
    elim (chosen (is_tag 0 4 p.tag) _ _ _ e) [
      | inl y ↦ (let q = placed_in_order s.last 0 1 p.at (octets_in longest_reference p)
          (λ o. record s { last = 1; calling = Some o }) t y.1 in
          subst Fits q.4 (record {
            calling = octets_short longest_reference p q.0 q.3;
            common = h.common;
            additional =
                h.additional;
          }))
      | inr n ↦ elim (chosen (is_tag 0 23 p.tag) _ _ _ n.1) [
        | inl y ↦ (let q = placed_in_order s.last 1 2 p.at (utc_in p)
            (λ m. record s { last = 2; common = Some m }) t y.1 in
            subst Fits q.4 (record {
              calling = h.calling;
              common = moment_in_time p q.0 q.3;
              additional =
                  h.additional;
            }))
        | inr n ↦ elim (chosen (is_tag 2 0 p.tag) _ _ _ n.1) [
          | inl y ↦ (let q = placed_in_order s.last 2 3 p.at (octets_in longest_reference p)
              (λ o. record s { last = 3; additional = Some o }) t y.1 in
              subst Fits q.4 (record {
                calling = h.calling;
                common = h.common;
                additional =
                    octets_short longest_reference p q.0 q.3;
              }))
          | inr n ↦ absurd (cc n.1)
        ]
      ]
    ]

-- the parts of a reference that were read make one
pub parts_fit : (p : Part) (s : ReferenceParts) (c : List ℕ) (m : ℕ) → parts_of reference_step no_reference p ≡ Ok s
    → s.calling ≡ Some c → s.common ≡ Some m → IsIdentifier (identifier c m s.additional)
parts_fit p s c m e calling common =
    let f = parts_of_keep reference_step Fits step_fits no_reference p s
    (record { calling = tt; common = tt; additional = tt }) e in
    record {
      calling_short = let P : Option (List ℕ) → Type 0 = Short in subst P calling f.calling;
      in_time = let P : Option ℕ → Type 0 = λ o. IfSome o (λ m. m ≤ last_moment) in subst P common f.common;
      additional_short = f.additional;
    }
