-- Numbers, words and octets of a size.
use Rattle.std.specs.Prelude.{ℕ, pos, Bool, List, length, Result, Ok, unsigned_abs, nat_lt, ◌==◌, if◌then◌else◌}
use Rattle.mta_ber.specs.declared.fault.Fault.{Fault}
use Rattle.mta_ber.specs.declared.fault.Kind.TheVariants.{BadSize}
use Rattle.mta_ber.specs.declared.text.TextClass.TheVariants.{Ia5}
use Rattle.mta_ber.specs.Head.{◌>>=◌, fault}
use Rattle.mta_ber.specs.Element.{Part}
use Rattle.mta_ber.specs.Int.{int_in}
use Rattle.mta_ber.specs.Strings.{joined, text_in}

-- the greatest number of a unit
abbrev pub last_number : ℕ
last_number = 4294967295

abbrev pub bounded_in : ℕ → Part → Result ℕ Fault
bounded_in high p = int_in p.at p.tag.constructed (pos 0) (pos high) p.content >>= λ n. Ok (unsigned_abs n)

-- an INTEGER of 0 to the greatest number
unfoldable pub number_in : Part → Result ℕ Fault
number_in p = bounded_in last_number p

-- an INTEGER of 0 or 1: whether it is 1
unfoldable pub flag_in : Part → Result Bool Fault
flag_in p = bounded_in 1 p >>= λ n. Ok (n == 1)

-- the octets of a string that has at most so many
unfoldable pub octets_in : ℕ → Part → Result (List ℕ) Fault
octets_in most p = joined p >>= λ o. if nat_lt most (length o) then fault p.at BadSize else Ok o

-- an IA5String of 1 to 32 characters
abbrev pub word_in : Part → Result (List ℕ) Fault
word_in p = text_in Ia5 1 32 p
