-- The extension fields with another history.
use Rattle.std.proofs.Common.{◌≡◌, ℕ, zero, suc, ◌+◌, ◌<◌, ◌≤◌, Bool, true, false, List, []}
use Rattle.std.proofs.Common.{◌∷◌}
use Rattle.std.proofs.Common.{◌++◌, length, get_or, Some, None, refl, sym, ◌∙◌, ap, cond, arith}
use Rattle.std.proofs.Common.{inl, inr}
use Rattle.std.specs.Prelude.{slice_set, ◌==◌, if◌then◌else◌, nat_lt, not}
use Rattle.std.specs.List.{position, position_or_len}
use Rattle.std.proofs.lemmas.Bool.{cases_lt, lt-ltb}
use Rattle.std.proofs.lemmas.List.Quantifiers.{position-Some}
use Rattle.mta_fields.specs.declared.extension.ExtFields.{ExtFields}
use Rattle.mta_fields.specs.ExtensionFields.{IsElement, IsExtField}
use Rattle.mta_envelope_extensions.specs.declared.value.Topic.TheVariants.{ExpansionHistory, LatestDelivery}
use Rattle.mta_envelope_extensions.specs.declared.value.Topic.TheVariants.{ExpansionProhibited}
use Rattle.mta_envelope_extensions.specs.declared.value.Topic.TheVariants.{Other}
use Rattle.mta_envelope_extensions.specs.Told.{is_topic}
use Rattle.mta_envelope_extensions.specs.Topics.{standard_topic}
use Rattle.mta_procedures.specs.Members.{history_field, is_history_field, with_history}

-- ---- types

topic_so : (a b c : Bool)
    → is_topic ExpansionHistory (if a then ExpansionHistory else if b then LatestDelivery
    else if c then ExpansionProhibited else Other) ≡ a
topic_so true b c = refl
topic_so false true c = refl
topic_so false false true = refl
topic_so false false false = refl

pub history_number : (n : ℕ) → is_topic ExpansionHistory (standard_topic n) ≡ (n == 26)
history_number n = topic_so (n == 26) (n == 5) (n == 3)

-- ---- fields that are made

pub history_field_is_one : (v : List ℕ) → IsElement v → IsExtField (history_field v)
history_field_is_one v h = record { kind = omega arith; value = h }

pub changed_is_one : (f : ExtFields) (v : List ℕ) → IsExtField f → IsElement v
    → IsExtField (record f { value = v })
changed_is_one f v i h = record { kind = i.kind; value = h }

pub ruleset field_steps = (history_field_is_one, changed_is_one)

-- ---- the field that has a history

set_history : (v : List ℕ) (fs : List ExtFields) (i : ℕ) (d : ExtFields) → i < length fs
    → is_history_field (get_or fs i d) ≡ true
    → ((k : ℕ) → k < i → is_history_field (get_or fs k d) ≡ false)
    → slice_set fs i (record (get_or fs i d) { value = v }) ≡ with_history v fs
set_history v [] i d lt is none = absurd (omega arith)
set_history v (f ∷ fs) zero d lt is none =
    sym (ap (λ b. cond b (record f { value = v } ∷ fs) (f ∷ with_history v fs)) is)
set_history v (f ∷ fs) (suc i) d lt is none =
    let first : is_history_field f ≡ false = none 0 (omega arith) in
    let more : slice_set fs i (record (get_or fs i d) { value = v }) ≡ with_history v fs =
    set_history v fs i d (omega arith) is (λ k below. none (suc k) (omega arith)) in
    ap (λ xs. f ∷ xs) more
    ∙ sym (ap (λ b. cond b (record f { value = v } ∷ fs) (f ∷ with_history v fs)) first)

pub set_found : (v : List ℕ) (fs : List ExtFields) (i : ℕ) (d : ExtFields)
    → position is_history_field fs ≡ Some i
    → slice_set fs i (record (get_or fs i d) { value = v }) ≡ with_history v fs
set_found v fs i d e =
    let h = position-Some is_history_field fs i d e in
    set_history v fs i d h.0 h.1 h.2

pub place_below : (fs : List ExtFields) (i : ℕ) → position is_history_field fs ≡ Some i → i < length fs
place_below fs i e = (position-Some is_history_field fs i (history_field []) e).0

pub ruleset set_steps = (set_found, place_below)

-- ---- no field that has a history

not_none : (b : Bool) (i : ℕ) → cond b (Some i) None ≡ None → b ≡ false
not_none true i e = absurd cc
not_none false i e = refl

behind : (v : List ℕ) (fs : List ExtFields) → length fs ≤ position_or_len is_history_field fs
    → fs ++ history_field v ∷ [] ≡ with_history v fs
behind v [] le = refl
behind v (f ∷ fs) le = at (is_history_field f) (behind v fs) le
  where
    at : (b : Bool)
        → (length fs ≤ position_or_len is_history_field fs → fs ++ history_field v ∷ [] ≡ with_history v fs)
        → length (f ∷ fs) ≤ cond (not b) (1 + position_or_len is_history_field fs) 0
        → f ∷ (fs ++ history_field v ∷ []) ≡ cond b (record f { value = v } ∷ fs) (f ∷ with_history v fs)
    at true next le = absurd (omega (arith, le))
    at false next le = ap (λ xs. f ∷ xs) (next (omega (arith, le)))

pub add_history : (v : List ℕ) (fs : List ExtFields) → position is_history_field fs ≡ None
    → fs ++ history_field v ∷ [] ≡ with_history v fs
add_history v fs e =
    let place = position_or_len is_history_field fs in
    let none = not_none (nat_lt place (length fs)) place e in
    behind v fs (elim (cases_lt place (length fs)) [
      | inl lt ↦ absurd (cc (lt-ltb place (length fs) lt, none))
      | inr le ↦ le
    ])
