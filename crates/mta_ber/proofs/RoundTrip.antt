-- Elements that are written are read again, one after the other.
use Rattle.std.proofs.Common.{◌≡◌, ℕ, zero, suc, ◌+◌, ◌-◌, ◌≤◌, ◌<◌, ◌^◌, Bool, true, false, cond, ltb, List, [], ◌∷◌}
use Rattle.std.proofs.Common.{◌++◌, length, Some, Result, Ok, refl, sym, ap, subst, ◌∙◌, append_assoc, take, drop}
use Rattle.std.proofs.Common.{arith}
use Rattle.std.specs.Int.{w64, to_be_bytes}
use Rattle.std.proofs.lemmas.Bool.Decides.{nat_tests}
use Rattle.std.proofs.lemmas.List.{take_at, drop_at, length-append, append-nil}
use Rattle.mta_ber.specs.declared.fault.Fault.{Fault}
use Rattle.mta_ber.specs.declared.tag.Tag.{Tag}
use Rattle.mta_ber.specs.declared.text.TextClass.{TextClass}
use Rattle.mta_ber.specs.Head.{◌>>=◌, head, ident}
use Rattle.mta_ber.specs.Element.{Part, part, part_from, first, outermost}
use Rattle.mta_ber.specs.Parts.{parts_from, parts_of}
use Rattle.mta_ber.specs.Strings.{octets_piece, joined_as, class_number, between, text_in, IsText}
use Rattle.mta_ber.specs.Canon.{IsTag, element, ident_octets, length_octets, high_octets}
use Rattle.mta_ber.proofs.HeadLaws.{head_again}
use Rattle.mta_ber.proofs.Segments.{gather_primitive}
use Rattle.mta_ber.proofs.CanonLaws.{header_octets, header_spelled, element_is, element_split, lent, few_significant}

abbrev lent_as : ℕ → ℕ → Tag → ℕ → List ℕ → List ℕ → List ℕ → Part
lent_as at depth t start content r octets =
    record { tag = t; at = at; depth = depth; start = start; content = content; rest = r; octets = octets }

lent_is : (at depth : ℕ) (t : Tag) (s s' : ℕ) (c c' r r' o o' : List ℕ) → s ≡ s' → c ≡ c' → r ≡ r' → o ≡ o'
    → lent_as at depth t s c r o ≡ lent_as at depth t s' c' r' o'
lent_is at depth t s s' c c' r r' o o' a b e f = cc

-- the part behind a header
from_header : (at depth : ℕ) (t : Tag) (content r header : List ℕ)
    → part_from at depth (header ++ (content ++ r))
    (record { tag = t; count = Some (length content); body = content ++ r }) ≡ Ok
    (lent_as at depth t (at + length header) content r (header ++ content))
unfolding part_from
from_header at depth t content r header =
    let size : length (header ++ (content ++ r)) - length (content ++ r) ≡ length header =
    omega (arith, length-append header (content ++ r)) in
    let whole : length (header ++ (content ++ r)) - length (content ++ r) + length content ≡ length
    (header ++ content) = omega (arith, size, length-append header content) in
    let octets : take (length (header ++ (content ++ r)) - length (content ++ r) + length content)
    (header ++ (content ++ r)) ≡ header ++ content =
    ap (take (length (header ++ (content ++ r)) - length (content ++ r) + length content))
    (sym (append_assoc header content r))
    ∙ take_at (header ++ content) r (length (header ++ (content ++ r)) - length (content ++ r) + length content)
    (sym whole) in
    ap (λ (x : Part). Ok x) (lent_is at depth t (at + (length (header ++ (content ++ r)) - length (content ++ r)))
    (at + length header) (take (length content) (content ++ r)) content (drop (length content) (content ++ r)) r
    (take (length (header ++ (content ++ r)) - length (content ++ r) + length content) (header ++ (content ++ r)))
    (header ++ content)
    (ap (λ n. at + n) size) (take_at content r (length content) refl) (drop_at content r (length content) refl) octets)

spelled_as : (at depth : ℕ) (t : Tag) (content r : List ℕ)
    → ◌≡◌ {A = Result Part Fault} (Ok
    (lent_as at depth t (at + length (header_octets t content)) content r (header_octets t content ++ content)))
    (Ok (lent at depth t content r))
spelled_as at depth t content r = ap (λ o. Ok (lent_as at depth t (at + length (header_octets t content)) content r o))
    (element_split t content)

pub part_again : (at depth : ℕ) (t : Tag) (content r : List ℕ) → IsTag t → length content < 2 ^ 64 → depth ≤ 16
    → part at depth (element t content ++ r) ≡ Ok (lent at depth t content r)
unfolding part
part_again at depth t content r low lt d =
    let h = head_again at depth t (Some (length content)) (header_octets t content) (content ++ r)
    (header_spelled t content low lt)
    (let fits : length content ≤ length (content ++ r) = omega (arith, length-append content r) in fits) d in
    ap (λ b. head at depth b >>= part_from at depth b) (element_is t content r)
    ∙ ap (λ x. x >>= part_from at depth (header_octets t content ++ (content ++ r))) h
    ∙ from_header at depth t content r (header_octets t content)
    ∙ spelled_as at depth t content r

pub first_again : (at : ℕ) (t : Tag) (content r : List ℕ) → IsTag t → length content < 2 ^ 64
    → first at (element t content ++ r) ≡ Ok (lent at (outermost t) t content r)
unfolding first
first_again at t content r low lt =
    let h = head_again at 1 t (Some (length content)) (header_octets t content) (content ++ r)
    (header_spelled t content low lt)
    (let fits : length content ≤ length (content ++ r) = omega (arith, length-append content r) in fits)
    (omega arith) in
    ap (λ b. head at 1 b >>= λ h. part_from at (outermost h.tag) b h) (element_is t content r)
    ∙ ap (λ x. x >>= λ h. part_from at (outermost h.tag) (header_octets t content ++ (content ++ r)) h) h
    ∙ from_header at (outermost t) t content r (header_octets t content)
    ∙ spelled_as at (outermost t) t content r

-- ---- parts

pub no_part : (at depth : ℕ) (p : Part) → part at depth [] ≡ Ok p → ⊥
unfolding part head ident
no_part at depth p e = cc

pub step_on : {S : Type 0} (step : S → Part → Result S Fault) (depth turns at : ℕ) (s t : S) (bytes : List ℕ) (p : Part)
    → part at depth bytes ≡ Ok p → step s p ≡ Ok t
    → parts_from step depth (suc turns) at s bytes ≡ parts_from step depth turns
    (at + (length bytes - length p.rest)) t p.rest
unfolding parts_from
step_on step depth turns at s t [] p e h = absurd (no_part at depth p e)
step_on step depth turns at s t (b ∷ bs) p e h = rw (e, h) refl

pub parts_one : {S : Type 0} (step : S → Part → Result S Fault) (depth turns at : ℕ) (s s' : S) (t : Tag)
    (content more : List ℕ) → IsTag t → length content < 2 ^ 64 → depth ≤ 16 → 1 ≤ turns
    → step s (lent at depth t content more) ≡ Ok s'
    → parts_from step depth turns at s (element t content ++ more) ≡ parts_from step depth (turns - 1)
    (at + (length (element t content ++ more) - length more)) s' more
parts_one step depth turns at s s' t content more low lt d some h =
    let k : turns ≡ suc (turns - 1) = omega arith in
    ap (λ n. parts_from step depth n at s (element t content ++ more)) k
    ∙ step_on step depth (turns - 1) at s s' (element t content ++ more) (lent at depth t content more)
    (part_again at depth t content more low lt d) h

pub parts_none : {S : Type 0} (step : S → Part → Result S Fault) (depth turns at : ℕ) (s : S)
    → parts_from step depth turns at s [] ≡ Ok s
unfolding parts_from
parts_none step depth zero at s = refl
parts_none step depth (suc turns) at s = refl

some_cond : (b : Bool) (x y : List ℕ) → 1 ≤ length x → 1 ≤ length y → 1 ≤ length (cond b x y)
some_cond true x y h k = h
some_cond false x y h k = k

some_ident : (t : Tag) → 1 ≤ length (ident_octets t)
unfolding ident_octets
some_ident t = some_cond (ltb t.number 31) _ _ (omega arith) (omega arith)

some_length : (n : ℕ) → 1 ≤ length (length_octets n)
unfolding length_octets
some_length n = some_cond (ltb n 128) _ _ (omega arith) (omega arith)

-- an element has at least two octets
pub element_long : (t : Tag) (content : List ℕ) → 2 + length content ≤ length (element t content)
unfolding element
element_long t content = omega (
  arith,
  some_ident t,
  some_length (length content),
  length-append (ident_octets t) (length_octets (length content) ++ content),
  length-append (length_octets (length content)) content,
)

few_cond : (n : ℕ) (b : Bool) (x y : List ℕ) → length x ≤ n → length y ≤ n → length (cond b x y) ≤ n
few_cond n true x y h k = h
few_cond n false x y h k = k

few_high : (n : ℕ) → length (high_octets n) ≤ 4
unfolding high_octets
few_high n = few_cond 4 (ltb n 128) _ _ (omega arith)
    (few_cond 4 (ltb n (2 ^ 14)) _ _ (omega arith) (few_cond 4 (ltb n (2 ^ 21)) _ _ (omega arith) (omega arith)))

few_ident : (t : Tag) → length (ident_octets t) ≤ 5
unfolding ident_octets
few_ident t = few_cond 5 (ltb t.number 31) _ _ (omega arith) (let h = few_high t.number in omega arith)

few_length : (n : ℕ) → length (length_octets n) ≤ 9
unfolding length_octets
few_length n = few_cond 9 (ltb n 128) _ _ (omega arith) (let h = few_significant (to_be_bytes w64 n) in omega arith)

-- and at most 14 more than its content
pub element_short : (t : Tag) (content : List ℕ) → length (element t content) ≤ 14 + length content
unfolding element
element_short t content = omega (
  arith,
  few_ident t,
  few_length (length content),
  length-append (ident_octets t) (length_octets (length content) ++ content),
  length-append (length_octets (length content)) content,
)

-- ---- texts

pub text_again : (class : TextClass) (low high : ℕ) (p : Part) → p.tag.constructed ≡ false → p.depth ≤ 16
    → IsText class low high p.content → text_in class low high p ≡ Ok p.content
unfolding text_in joined_as
text_again class low high p primitive d h =
    let g = gather_primitive octets_piece 4 (class_number class) true [] p d primitive in
    let size : between low high (length p.content) ≡ true = within low high (length p.content) h.at_least h.at_most in
    rw (g, h.characters, size) refl
  where
    within : (low high n : ℕ) → low ≤ n → n ≤ high → between low high n ≡ true
    within low high n a b = grind (arith, nat_tests)

-- ---- rows of elements that are written

module _ {S : Type 0} (step : S → Part → Result S Fault) (depth : ℕ) where
  -- from the state s these octets give the state s', wherever they stand
  pub record Taken (s : S) (bytes : List ℕ) (s' : S) : Type 0 where
    pub anywhere : (turns at : ℕ) → length bytes ≤ turns → parts_from step depth turns at s bytes ≡ Ok s'

  pub none_taken : (s : S) → Taken s [] s
  none_taken s = record { anywhere = λ turns at le. parts_none step depth turns at s }

  pub one_taken : (s s1 s' : S) (t : Tag) (content more : List ℕ) → IsTag t → length content < 2 ^ 64 → depth ≤ 16
      → ((at : ℕ) (r : List ℕ) → step s (lent at depth t content r) ≡ Ok s1) → Taken s1 more s'
      → Taken s (element t content ++ more) s'
  one_taken s s1 s' t content more low lt d h rest = record {
    anywhere = λ turns at le.
        let long = element_long t content in
        let sum = length-append (element t content) more in
        parts_one step depth turns at s s1 t content more low lt d (omega arith) (h at more)
        ∙ rest.anywhere (turns - 1) (at + (length (element t content ++ more) - length more)) (omega arith);
  }

  pub last_taken : (s s' : S) (t : Tag) (content : List ℕ) → IsTag t → length content < 2 ^ 64 → depth ≤ 16
      → ((at : ℕ) (r : List ℕ) → step s (lent at depth t content r) ≡ Ok s') → Taken s (element t content) s'
  last_taken s s' t content low lt d h = subst (λ bytes. Taken s bytes s') (append-nil (element t content))
      (one_taken s s' s' t content [] low lt d h (none_taken s'))

pub whole_taken : {S : Type 0} (step : S → Part → Result S Fault) (s s' : S) (p : Part)
    → Taken step (p.depth + 1) s p.content s' → parts_of step s p ≡ Ok s'
unfolding parts_of
whole_taken step s s' p h = h.anywhere (length p.content) p.start (omega arith)
