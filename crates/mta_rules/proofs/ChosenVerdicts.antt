-- The recipient at a position.
use Rattle.std.proofs.Common.{◌≡◌, ℕ, List, get_or, Some, ap, ◌∙◌}
use Rattle.std.specs.Prelude.{slice_get}
use Rattle.std.proofs.lemmas.Option.{get_or_from_slice_get}
use Rattle.mta_envelope_recipient.specs.declared.recipient.RecipientFields.{RecipientFields}

-- the fields of the item at an index are those of the position
pub chosen_is : (rs all : List RecipientFields) (i : ℕ) (x fields r : RecipientFields) → rs ≡ all
    → x ≡ get_or rs i x → fields ≡ x → slice_get all i ≡ Some r → fields ≡ r
chosen_is rs all i x fields r e is f h = f ∙ is ∙ ap (λ xs. get_or xs i x) e ∙ get_or_from_slice_get all i r x h
