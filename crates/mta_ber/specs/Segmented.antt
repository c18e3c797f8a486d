-- Which contents octets spell a string (X.690, 8.6, 8.7 and 8.23), by cases: apart from reading.
use Rattle.std.specs.Prelude.{◌≡◌, ℕ, zero, suc, ◌-◌, ◌*◌, ◌/◌, ◌<◌, ◌≤◌, ◌^◌, ◌⊎◌}
use Rattle.std.specs.Prelude.{Bool, true, false, List, [], ◌∷◌, ◌++◌, length, ◌&&◌}
use Rattle.std.specs.List.{concat}
use Rattle.mta_ber.specs.declared.tag.Tag.{Tag}
use Rattle.mta_ber.specs.declared.text.TextClass.{TextClass}
use Rattle.mta_ber.specs.Head.{base}
use Rattle.mta_ber.specs.Strings.{is_segment, class_number, IsText}
use Rattle.mta_ber.specs.Bits.{BitString, no_bits, with_bits, at_most_64}
use Rattle.mta_ber.specs.Spelling.{Stands}

-- what the contents octets of one primitive piece add to what stands before it; the flag says that no piece follows
abbrev pub Adds : Type 0 → Type 1
Adds S = Bool → S → List ℕ → S → Type 0

abbrev pub is_none : List (List ℕ) → Bool
is_none [] = true
is_none (e ∷ es) = false

-- one segment: an element with a segment's tag, whose content is a string itself
pub record IsSegment {S : Type 0} (inside : Bool → Adds S) (first second depth : ℕ) (last : Bool) (before : S)
    (octets : List ℕ) (after : S) : Type 0 where
  pub tag : Tag
  pub content : List ℕ
  pub is_tag : is_segment first second tag ≡ true
  pub stands : Stands depth tag content octets
  pub is_string : inside tag.constructed last before content after

-- segments one behind the other
abbrev pub AreSegments : {S : Type 0} → (Bool → Adds S) → ℕ → ℕ → ℕ → Bool → S → List (List ℕ)
    → S → Type 0
AreSegments inside first second depth last before [] after = before ≡ after
AreSegments {S} inside first second depth last before (e ∷ es) after =
    (between : S) × IsSegment inside first second depth (last && is_none es) before e between
    × AreSegments inside first second depth last between es after

-- a content with `left` levels left for it, primitive or constructed
abbrev pub SpellsString : {S : Type 0} → Adds S → ℕ → ℕ → ℕ → Bool → Adds S
SpellsString adds first second zero constructed last before content after = ⊥
SpellsString adds first second (suc left) false last before content after = adds last before content after
SpellsString adds first second (suc left) true last before content after =
    (segments : List (List ℕ)) × (content ≡ concat segments)
    × AreSegments (SpellsString adds first second left) first second (17 - left) last before segments after

-- ---- octets

abbrev pub AddsOctets : Adds (List ℕ)
AddsOctets last before content after = after ≡ before ++ content

-- the octets of a string in the level `depth` whose segments have the tag of OCTET STRING or the universal number `own`
abbrev pub SpellsOctets : ℕ → ℕ → Bool → List ℕ → List ℕ → Type 0
SpellsOctets own depth constructed content octets =
    SpellsString AddsOctets 4 own (17 - depth) constructed true [] content octets

-- the characters of a string of a class and a size
pub record SpellsText (class : TextClass) (low high depth : ℕ) (constructed : Bool)
    (content t : List ℕ) : Type 0 where
  pub spelled : SpellsOctets (class_number class) depth constructed content t
  pub is_text : IsText class low high t

-- ---- bits

-- a piece says first how many bits of its last octet are unused: at most 7, none where there is no other octet, and
-- none where a piece follows; more than 64 bits are too many, however many
pub record AddsBits (last : Bool) (before : BitString) (content : List ℕ) (after : BitString) : Type 0 where
  pub unused : ℕ
  pub octets : List ℕ
  pub content_is : content ≡ unused ∷ octets
  pub few : unused < 8
  pub some : (unused ≡ 0) ⊎ ((last ≡ true) × (1 ≤ length octets))
  pub after_is : after ≡ at_most_64
      (with_bits before (record { count = 8 * length octets - unused; word = base 256 octets / 2 ^ unused }))

pub record SpellsBits (depth : ℕ) (constructed : Bool) (content : List ℕ) (b : BitString) : Type 0 where
  pub spelled : SpellsString AddsBits 3 3 (17 - depth) constructed true no_bits content b
  pub few : b.count ≤ 64
