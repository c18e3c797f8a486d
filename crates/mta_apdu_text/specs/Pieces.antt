-- Pieces of the texts that are printed.
use Rattle.std.specs.Prelude.{ℕ, zero, suc, ◌+◌, ◌/◌, ◌%◌, Bool, true, false, List, [], ◌∷◌}
use Rattle.std.specs.Prelude.{◌++◌, Option, Some, None, nat_lt, if◌then◌else◌, codes}
use Rattle.std.specs.List.{flat_map}
use Rattle.mta_ber.specs.Bits.{BitString, bit}
use Rattle.mta_ber.specs.Contents.{utc_content}
use Rattle.mta_ber.specs.Strings.{between}
use Rattle.mta_ber.specs.Times.{last_moment}
use Rattle.mta_names.specs.declared.attributes.Label.{Label}
use Rattle.mta_fields.specs.declared.domain.DomainFields.{DomainFields}
use Rattle.mta_fields.specs.declared.identifier.MtsIdFields.{MtsIdFields}

-- 0 to 9, and a to f
abbrev pub hex_digit : ℕ → ℕ
hex_digit n = if nat_lt n 10 then 48 + n else 87 + n

abbrev pub hex_octet : ℕ → List ℕ
hex_octet c = hex_digit (c / 16) ∷ hex_digit (c % 16) ∷ []

-- two lower-case hexadecimal digits per octet
abbrev pub hex_text : List ℕ → List ℕ
hex_text octets = flat_map hex_octet octets

abbrev pub bit_digit : Bool → ℕ
bit_digit true = 49
bit_digit false = 48

-- so many bits from a place on
abbrev pub bits_from : BitString → ℕ → ℕ → List ℕ
bits_from b place zero = []
bits_from b place (suc left) = bit_digit (bit b place) ∷ bits_from b (place + 1) left

-- each bit as 0 or 1, the first one first
unfoldable pub bits_text : BitString → List ℕ
bits_text b = bits_from b 0 b.count

-- an octet outside 20 to 7E is printed as a backslash and two hexadecimal digits
abbrev pub escaped : ℕ → List ℕ
escaped c = if between 32 126 c then c ∷ [] else 92 ∷ hex_octet c

abbrev pub escaped_text : List ℕ → List ℕ
escaped_text octets = flat_map escaped octets

-- a moment past the last one of a UTCTime is printed as that one
abbrev pub printed_moment : ℕ → ℕ
printed_moment moment = if nat_lt last_moment moment then last_moment else moment

-- YYMMDDhhmmssZ
unfoldable pub moment_text : ℕ → List ℕ
moment_text moment = utc_content (printed_moment moment)

abbrev pub prmd_text : Option Label → List ℕ
prmd_text None = []
prmd_text (Some l) = codes ";P=" ++ l.text

-- C=..;A=.., and ;P=.. where there is a private domain
unfoldable pub domain_text : DomainFields → List ℕ
domain_text d = codes "C=" ++ (d.country.text ++ (codes ";A=" ++ (d.admd.text ++ prmd_text d.prmd)))

-- the text form of the domain, a slash, and the local identifier
unfoldable pub id_text : MtsIdFields → List ℕ
id_text i = domain_text i.domain ++ 47 ∷ escaped_text i.local

abbrev pub word_if : Bool → List ℕ → List ℕ
word_if true word = word
word_if false word = []
