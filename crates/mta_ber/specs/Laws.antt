-- Laws over values and octets.
use Rattle.std.specs.Prelude.{◌≡◌, ℕ, ℤ, ◌+◌, ◌≤◌, ◌<◌, ◌^◌, true, List, ◌++◌, length, Result, Ok, FitsSigned}
use Rattle.std.specs.Int.{w64}
use Rattle.mta_ber.specs.declared.fault.Fault.{Fault}
use Rattle.mta_ber.specs.declared.tag.Tag.{Tag}
use Rattle.mta_ber.specs.declared.text.TextClass.{TextClass}
use Rattle.mta_ber.specs.Head.{◌>>=◌}
use Rattle.mta_ber.specs.Element.{Part, first, explicit}
use Rattle.mta_ber.specs.Int.{in_range, int_in}
use Rattle.mta_ber.specs.Strings.{text_in, IsText}
use Rattle.mta_ber.specs.Bits.{BitString, bits_in}
use Rattle.mta_ber.specs.Times.{last_moment, utc_in}
use Rattle.mta_ber.specs.Oid.{oid_in, IsOid}
use Rattle.mta_ber.specs.Canon.{IsTag, element}
use Rattle.mta_ber.specs.Contents.{as_primitive, canon_int, canon_bits, canon_utc}

-- a value, and the octets behind its element
abbrev pub beside : {A : Type 0} → A → List ℕ → Result (A × List ℕ) Fault
beside v rest = Ok (v, rest)

abbrev pub with_rest : {A : Type 0} → (Part → Result A Fault) → Part → Result (A × List ℕ) Fault
with_rest read p = read p >>= λ v. beside v p.rest

-- what a reader is lent of an element
pub record Lent : Type 0 where
  pub tag : Tag
  pub content : List ℕ
  pub octets : List ℕ

abbrev pub lent_of : Part → Result Lent Fault
lent_of p = Ok (record { tag = p.tag; content = p.content; octets = p.octets })

-- an element that is written is read again, whatever follows it
abbrev pub ElementsAreReadAgain : Type 0
ElementsAreReadAgain = (t : Tag) (content more : List ℕ) (at : ℕ) → IsTag t → length content < 2 ^ 64
    → (first at (element t content ++ more) >>= with_rest lent_of) ≡ beside
    (record { tag = t; content = content; octets = element t content }) more

abbrev pub NumbersAreReadAgain : Type 0
NumbersAreReadAgain = (t : Tag) (n low high : ℤ) (more : List ℕ) (at : ℕ) → IsTag t → FitsSigned w64 n
    → in_range low high n ≡ true
    → (first at (canon_int t n ++ more) >>= with_rest
    (λ p. int_in p.at p.tag.constructed low high p.content)) ≡ beside
    n more

abbrev pub BitsAreReadAgain : Type 0
BitsAreReadAgain = (t : Tag) (b : BitString) (more : List ℕ) (at : ℕ) → IsTag t → b.count ≤ 64
    → b.word < 2 ^ b.count
    → (first at (canon_bits t b ++ more) >>= with_rest bits_in) ≡ beside b more

abbrev pub MomentsAreReadAgain : Type 0
MomentsAreReadAgain = (t : Tag) (moment : ℕ) (more : List ℕ) (at : ℕ) → IsTag t → moment ≤ last_moment
    → (first at (canon_utc t moment ++ more) >>= with_rest utc_in) ≡ beside moment more

abbrev pub TextsAreReadAgain : Type 0
TextsAreReadAgain = (t : Tag) (class : TextClass) (low high : ℕ) (text more : List ℕ) (at : ℕ) → IsTag t
    → IsText class low high text → length text < 2 ^ 64
    → (first at (element (as_primitive t) text ++ more) >>= with_rest (text_in class low high)) ≡ beside text more

abbrev pub OidsAreReadAgain : Type 0
OidsAreReadAgain = (t : Tag) (octets more : List ℕ) (at : ℕ) → IsTag t → IsOid octets → length octets < 2 ^ 64
    → (first at (element (as_primitive t) octets ++ more) >>= with_rest oid_in) ≡ beside octets more

-- an element that is written in an explicit tag is read again inside it, and it stands there alone
abbrev pub ExplicitTagsAreReadAgain : Type 0
ExplicitTagsAreReadAgain = (t u : Tag) (content more : List ℕ) (at : ℕ) → IsTag t → t.constructed ≡ true
    → IsTag u
    → length content + 14 < 2 ^ 64
    → (first at (element t (element u content) ++ more) >>= with_rest (explicit lent_of)) ≡ beside
    (record { tag = u; content = content; octets = element u content }) more
