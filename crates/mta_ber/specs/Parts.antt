-- Reading the parts of a constructed content one after the other.
use Rattle.std.specs.Prelude.{◌≡◌, ℕ, zero, suc, ◌+◌, ◌-◌, Bool, List, [], ◌∷◌, length, Option, Some, None}
use Rattle.std.specs.Prelude.{Result, Ok, Err, is_some, nat_lt, nat_le, ◌==◌, if◌then◌else◌, ◌&&◌}
use Rattle.mta_ber.specs.declared.fault.Fault.{Fault}
use Rattle.mta_ber.specs.declared.fault.Kind.TheVariants.{BadTag, Missing, Twice}
use Rattle.mta_ber.specs.declared.fault.ReadFault.{ReadFault}
use Rattle.mta_ber.specs.declared.fault.ReadFault.TheVariants as faults
use Rattle.mta_ber.specs.declared.tag.Tag.{Tag}
use Rattle.mta_ber.specs.Head.{◌>>=◌, fault}
use Rattle.mta_ber.specs.Element.{Part, part}

-- from the state s, with a step at each part; there are no more parts than octets
unfoldable pub parts_from : {S : Type 0} → (S → Part → Result S Fault) → ℕ → ℕ → ℕ → S → List ℕ
    → Result S Fault
parts_from step depth turns at s [] = Ok s
parts_from step depth zero at s (b ∷ bs) = Ok s
parts_from step depth (suc turns) at s (b ∷ bs) =
    part at depth (b ∷ bs) >>= λ p. step s p >>= λ t. parts_from step depth turns
    (at + (length (b ∷ bs) - length p.rest)) t p.rest

unfoldable pub parts_of : {S : Type 0} → (S → Part → Result S Fault) → S → Part → Result S Fault
parts_of step s p = parts_from step (p.depth + 1) (length p.content) p.start s p.content

-- the components of a SET or a SEQUENCE
abbrev pub components : {S : Type 0} → (S → Part → Result S Fault) → S → Part → Result S Fault
components step none p = if p.tag.constructed then parts_of step none p else fault p.at BadTag

abbrev pub is_tag : ℕ → ℕ → Tag → Bool
is_tag class number tag = (tag.class == class) && (tag.number == number)

-- a component of a SET may stand once
abbrev pub once : {A : Type 0} → Option A → ℕ → Result A Fault → Result A Fault
once held at read = if is_some held then fault at Twice else read

-- a component of a SEQUENCE stands at a place among the components: behind the last one read, and where `needed`, the
-- place of the last required one before it, was reached
abbrev pub may_follow : ℕ → ℕ → ℕ → ℕ → Result (Unit {0}) Fault
may_follow last needed place at = if nat_lt last place && nat_le needed last then Ok tt else fault at BadTag

abbrev pub in_order : {A : Type 0} → ℕ → ℕ → ℕ → ℕ → Result A Fault → Result A Fault
in_order last needed place at read = may_follow last needed place at >>= λ _. read

-- a required component
abbrev pub required : {A : Type 0} → Option A → ℕ → Result A Fault
required (Some x) at = Ok x
required None at = fault at Missing

-- What a function returned and left is what reading gives, unless memory ran out.
abbrev pub Fails : {Y : Type 0} → ReadFault → Result Y Fault → Type 0
Fails faults.Memory read = Unit {0}
Fails (faults.Bad f) read = read ≡ Err f

abbrev pub Leaves : {S U : Type 0} → Result U ReadFault → S → Result S Fault → Type 0
Leaves (Ok x) s read = read ≡ Ok s
Leaves (Err e) s read = Fails e read

abbrev pub Reads : {X : Type 0} → Result X ReadFault → Result X Fault → Type 0
Reads (Ok x) read = read ≡ Ok x
Reads (Err e) read = Fails e read

-- what a function answers is this value, unless memory ran out
abbrev pub IsReadAs : {X : Type 0} → Result X ReadFault → X → Type 0
IsReadAs (Ok x) y = x ≡ y
IsReadAs (Err faults.Memory) y = Unit {0}
IsReadAs (Err (faults.Bad f)) y = ⊥
