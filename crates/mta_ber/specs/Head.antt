-- Identifier and length octets, and the first fault there.
use Rattle.std.specs.Prelude.{ℕ, ◌+◌, ◌-◌, ◌*◌, ◌/◌, ◌%◌, Bool, false, List, [], ◌∷◌, length, take, drop, fold}
use Rattle.std.specs.Prelude.{position, Option, Some, None, Result, Ok, Err, nat_lt, ◌==◌, if◌then◌else◌, ◌&&◌, ◌||◌}
use Rattle.mta_ber.specs.declared.fault.Fault.{Fault}
use Rattle.mta_ber.specs.declared.fault.Kind.{Kind}
use Rattle.mta_ber.specs.declared.fault.Kind.TheVariants.{Truncated, BadLength, BadTag, TooDeep}
use Rattle.mta_ber.specs.declared.tag.Tag.{Tag}

infixl 10 ◌>>=◌
abbrev pub ◌>>=◌ : {A B : Type 0} → Result A Fault → (A → Result B Fault) → Result B Fault
(Ok x) >>= f = f x
(Err e) >>= f = Err e

abbrev pub fault : {A : Type 0} → ℕ → Kind → Result A Fault
fault at kind = Err (record { at = at; kind = kind })

-- the number whose digits, the most significant first, are the octets, each without what passes the base
abbrev pub base : ℕ → List ℕ → ℕ
base m octets = fold (λ n b. n * m + b % m) 0 octets

-- the octets up to the place of the last one, and what follows
abbrev pub cut : List ℕ → Option ℕ → Option (List ℕ × List ℕ)
cut bytes None = None
cut bytes (Some p) = Some (take (p + 1) bytes, drop (p + 1) bytes)

-- the octets up to the first with its top bit clear, and what follows
abbrev pub group : List ℕ → Option (List ℕ × List ℕ)
group bytes = cut bytes (position (λ b. nat_lt b 128) bytes)

-- the octets of an identifier whose first octet is taken
abbrev pub behind : ℕ → Option (List ℕ × List ℕ) → Option (ℕ × List ℕ × List ℕ)
behind first None = None
behind first (Some g) = Some (first, g.0, g.1)

-- the first octet, the octets of a high tag number, and what follows
unfoldable pub ident : List ℕ → Option (ℕ × List ℕ × List ℕ)
ident [] = None
ident (first ∷ rest) = if nat_lt (first % 32) 31 then Some (first, [], rest) else behind first (group rest)

-- a definite length, and the content and what follows it
abbrev pub definite : ℕ → ℕ → List ℕ → Result (Option ℕ × List ℕ) Fault
definite at count body = if nat_lt (length body) count then fault at Truncated else Ok (Some count, body)

-- the length octets: how many octets the content has, or None where the length is indefinite, and what follows
unfoldable pub length_at : ℕ → Bool → List ℕ → Result (Option ℕ × List ℕ) Fault
length_at at constructed [] = fault at Truncated
length_at at constructed (l ∷ rest) =
    if nat_lt l 128 then definite at l rest
    else if (l == 128) && constructed then Ok (None, rest)
    else if (l == 128) || nat_lt 136 l then fault at BadLength
    else if nat_lt (length rest) (l - 128) then fault at Truncated
    else definite at (base 256 (take (l - 128) rest)) (drop (l - 128) rest)

-- the octets of a high tag number that is not allowed: more than four, a leading 80, or a number that has a low form
abbrev pub bad_number : List ℕ → Bool
bad_number [] = false
bad_number (b ∷ bs) = nat_lt 4 (length (b ∷ bs)) || (b == 128) || nat_lt (base 128 (b ∷ bs)) 31

abbrev pub is_constructed : ℕ → Bool
is_constructed first = (first / 32) % 2 == 1

abbrev pub tag_of : ℕ → List ℕ → Tag
tag_of first high = record {
  class = first / 64;
  constructed = is_constructed first;
  number =
      if length high == 0 then first % 32 else base 128 high;
}

-- a header, and what follows it
pub record Header : Type 0 where
  pub tag : Tag
  pub count : Option ℕ
  pub body : List ℕ

-- the header behind its identifier octets
abbrev pub header_from : ℕ → ℕ → Option (ℕ × List ℕ × List ℕ) → Result Header Fault
header_from at depth None = fault at Truncated
header_from at depth (Some i) =
    length_at at (is_constructed i.0) i.2 >>= λ l.
    if bad_number i.1 then fault at BadTag
    else if nat_lt 16 depth then fault at TooDeep
    else Ok (record { tag = tag_of i.0 i.1; count = l.0; body = l.1 })

-- the header at the front, of an element that stands at `at` in the level `depth`
unfoldable pub head : ℕ → ℕ → List ℕ → Result Header Fault
head at depth bytes = header_from at depth (ident bytes)
