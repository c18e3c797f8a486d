-- Elements whose headers have two octets: a tag number below 31, and a length of one octet.
use Rattle.std.specs.Prelude.{◌≡◌, ℕ, ◌+◌, ◌≤◌, true, List, Ok}
use Rattle.mta_ber.specs.Head.{◌>>=◌}
use Rattle.mta_ber.specs.Element.{Extent, element_size}

-- the element at the front has so many octets, whatever stands inside others
abbrev pub HasSize : ℕ → List ℕ → Type 0
HasSize n bytes = (inside : Extent) (depth at : ℕ) → depth ≤ 16 → element_size inside depth at bytes ≡ Ok n

-- the element at the front has two octets, and then a row up to its end
abbrev pub IsMarked : List ℕ → List ℕ → Type 0
IsMarked rest bytes = (inside : Extent) (depth at : ℕ) → depth ≤ 16
    → element_size inside depth at bytes ≡ (inside true (at + 2) rest >>= λ n. Ok (2 + n))
