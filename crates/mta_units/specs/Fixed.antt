-- Bodies of one size.
use Rattle.std.specs.Prelude.{ℕ, List, [], ◌∷◌, Result, Ok, nat_lt, if◌then◌else◌, ◌||◌}
use Rattle.std.specs.Int.{w32, from_be_bytes}
use Rattle.mta_ber.specs.declared.fault.Fault.{Fault}
use Rattle.mta_ber.specs.declared.fault.Kind.TheVariants.{BadSize}
use Rattle.mta_ber.specs.Head.{◌>>=◌, fault}

abbrev pub bad_size : {A : Type 0} → Result A Fault
bad_size = fault 0 BadSize

-- a number: four octets, the most significant first
abbrev pub number_in : List ℕ → Result ℕ Fault
number_in (a ∷ b ∷ c ∷ d ∷ []) = Ok (from_be_bytes w32 (a ∷ b ∷ c ∷ d ∷ []))
number_in _ = bad_size

-- two numbers
abbrev pub pair_in : List ℕ → Result (ℕ × ℕ) Fault
pair_in (a ∷ b ∷ c ∷ d ∷ rest) = number_in rest >>= λ n. Ok (from_be_bytes w32 (a ∷ b ∷ c ∷ d ∷ []), n)
pair_in _ = bad_size

-- the number of a kind of fault, 1 to 12, and a number
abbrev pub exception_in : List ℕ → Result (ℕ × ℕ) Fault
exception_in [] = bad_size
exception_in (kind ∷ rest) = if nat_lt kind 1 || nat_lt 12 kind then bad_size
    else (number_in rest >>= λ n. Ok (kind, n))

abbrev pub nothing_in : List ℕ → Result (Unit {0}) Fault
nothing_in [] = Ok tt
nothing_in (b ∷ bs) = bad_size
