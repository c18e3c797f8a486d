-- The tags of components, each with the form that its type has (X.690, 8.1.2.5), and components under one tag.
use Rattle.std.specs.Prelude.{ℕ, Bool, Result, ◌&&◌, not, if◌then◌else◌}
use Rattle.mta_ber.specs.declared.fault.Fault.{Fault}
use Rattle.mta_ber.specs.declared.fault.Kind.TheVariants.{BadTag}
use Rattle.mta_ber.specs.declared.tag.Tag.{Tag}
use Rattle.mta_ber.specs.Element.{Part}
use Rattle.mta_ber.specs.Head.{fault}
use Rattle.mta_ber.specs.Parts.{is_tag, parts_of}

-- the tag of a component whose type has the primitive form alone, as a number
abbrev pub is_primitive_tag : ℕ → ℕ → Tag → Bool
is_primitive_tag class number tag = is_tag class number tag && not tag.constructed

-- the tag of a component whose type has the constructed form alone, as a SET, a SEQUENCE or an explicit tag
abbrev pub is_constructed_tag : ℕ → ℕ → Tag → Bool
is_constructed_tag class number tag = is_tag class number tag && tag.constructed

-- the components of a SET or a SEQUENCE that has this tag
abbrev pub components_under : {S : Type 0} → ℕ → ℕ → (S → Part → Result S Fault) → S → Part
    → Result S Fault
components_under class number step none p =
    if is_constructed_tag class number p.tag then parts_of step none p else fault p.at BadTag
