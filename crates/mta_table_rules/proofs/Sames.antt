-- A test that holds exactly where a fact does is the test of that fact.
use Rattle.std.proofs.Common.{◌≡◌, Bool, true, false, refl, sym, ◌↔◌}
use Rattle.std.specs.Prelude.{IsTrue}
use Rattle.mta_names.specs.declared.attributes.Attributes.{Attributes}
use Rattle.mta_names.specs.Normal.{is_same_name, IsSameName}
use Rattle.mta_names.proofs.NormalLaws.{name_decides}
use Rattle.mta_fields.specs.declared.identifier.MtsIdFields.{MtsIdFields}
use Rattle.mta_fields.specs.Identifiers.{is_same_id, IsSameId}
use Rattle.mta_fields.proofs.IdentifierLaws.{id_decides}

both : {P : Type 0} (r b : Bool) → (IsTrue r ↔ P) → ((b ≡ true) ↔ P) → r ≡ b
both true true h k = refl
both true false h k = sym (k.1 (h.0 refl))
both false true h k = h.1 (k.0 refl)
both false false h k = refl

pub same_is : (m n : Attributes) (r : Bool) → (IsTrue r ↔ IsSameName m n) → r ≡ is_same_name m n
same_is m n r h = both r (is_same_name m n) h (name_decides m n)

pub id_is : (v w : MtsIdFields) (r : Bool) → (IsTrue r ↔ IsSameId v w) → r ≡ is_same_id v w
id_is v w r h = both r (is_same_id v w) h (id_decides v w (is_same_id v w) refl)
