-- Strings that may come in segments (X.690, 8.6, 8.7 and 8.23), and the classes of characters.
use Rattle.std.specs.Prelude.{ℕ, zero, suc, ◌-◌, ◌≤◌, Bool, true, false, IsTrue, List, [], ◌∷◌, ◌++◌, length}
use Rattle.std.specs.Prelude.{Result, Ok, nat_lt, nat_le, ◌==◌, if◌then◌else◌, ◌&&◌, ◌||◌, not}
use Rattle.std.specs.List.{list_all}
use Rattle.mta_ber.specs.declared.fault.Fault.{Fault}
use Rattle.mta_ber.specs.declared.fault.Kind.TheVariants.{BadTag, BadText, BadSize, TooDeep}
use Rattle.mta_ber.specs.declared.tag.Tag.{Tag}
use Rattle.mta_ber.specs.declared.text.TextClass.{TextClass}
use Rattle.mta_ber.specs.declared.text.TextClass.TheVariants.{Numeric, Printable, Ia5}
use Rattle.mta_ber.specs.Head.{◌>>=◌, fault}
use Rattle.mta_ber.specs.Element.{Part}
use Rattle.mta_ber.specs.Parts.{parts_of}

-- what a primitive piece of a string makes of what stands before it; the flag says that no piece may follow it
abbrev pub Piece : Type 0 → Type 0
Piece S = Bool → S → Part → Result S Fault

-- a segment has a universal tag of one of two numbers
abbrev pub is_segment : ℕ → ℕ → Tag → Bool
is_segment first second tag = (tag.class == 0) && ((tag.number == first) || (tag.number == second))

abbrev pub is_empty : List ℕ → Bool
is_empty [] = true
is_empty (b ∷ bs) = false

-- a segment behind what stands before it
abbrev pub segment : {S : Type 0} → Piece S → ℕ → ℕ → Bool → S → Part → Result S Fault
segment inside first second last before p = if is_segment first second p.tag then
    inside (last && is_empty p.rest) before p else fault p.at BadTag

-- a string behind what stands before it, with `left` levels left for its segments
unfoldable pub gather : {S : Type 0} → Piece S → ℕ → ℕ → ℕ → Piece S
gather piece zero first second last before p = fault p.at TooDeep
gather piece (suc left) first second last before p =
    if p.tag.constructed then parts_of (segment (gather piece left first second) first second last) before p
    else piece last before p

-- octets are joined
abbrev pub octets_piece : Piece (List ℕ)
octets_piece last before p = Ok (before ++ p.content)

-- the octets of a string whose segments have the tag of OCTET STRING or the universal number `own`
unfoldable pub joined_as : ℕ → Part → Result (List ℕ) Fault
joined_as own p = gather octets_piece (17 - p.depth) 4 own true [] p

-- the number of a tag of the universal class; that of OCTET STRING for any other
abbrev pub own_number : Tag → ℕ
own_number tag = if tag.class == 0 then tag.number else 4

-- the octets of a string of no known type
abbrev pub joined : Part → Result (List ℕ) Fault
joined p = joined_as (own_number p.tag) p

-- the universal number of a class of characters
abbrev pub class_number : TextClass → ℕ
class_number Numeric = 18
class_number Printable = 19
class_number Ia5 = 22

abbrev pub between : ℕ → ℕ → ℕ → Bool
between low high c = nat_le low c && nat_le c high

-- PrintableString's letters, digits, space and ' ( ) + , - . / : = ?
abbrev pub in_class : TextClass → ℕ → Bool
in_class Numeric c = between 48 57 c || (c == 32)
in_class Printable c = between 97 122 c || between 65 90 c || between 43 58 c || between 39 41 c || (c == 32) ||
    (c == 61) || (c == 63)
in_class Ia5 c = nat_lt c 128

unfoldable pub text_in : TextClass → ℕ → ℕ → Part → Result (List ℕ) Fault
text_in class low high p =
    joined_as (class_number class) p >>= λ t.
    if not (list_all (in_class class) t) then fault p.at BadText
    else if not (between low high (length t)) then fault p.at BadSize
    else Ok t

-- a text of a class and a size
pub record IsText (class : TextClass) (low high : ℕ) (t : List ℕ) : Type 0 where
  pub characters : IsTrue (list_all (in_class class) t)
  pub at_least : low ≤ length t
  pub at_most : length t ≤ high
