-- Recipients with responsibility as it is to be: one of them, and one more of them.
use Rattle.std.proofs.Common.{◌≡◌, ℕ, ◌+◌, ◌<◌, Bool, List, [], ◌∷◌, ◌++◌, length, take, get_or, Option}
use Rattle.std.proofs.Common.{sym, ap, ◌∙◌, arith}
use Rattle.std.proofs.lemmas.List.{take_more, length-take-le}
use Rattle.mta_ber.specs.Bits.{BitString}
use Rattle.mta_names.specs.declared.attributes.Attributes.{Attributes}
use Rattle.mta_fields.specs.declared.extension.ExtFields.{ExtFields}
use Rattle.mta_envelope_recipient.specs.declared.recipient.RecipientFields.{RecipientFields}
use Rattle.mta_envelope_recipient.specs.Recipients.{IsRecipient}
use Rattle.mta_procedures.specs.Bits.{with_responsibility}
use Rattle.mta_procedures.specs.Copies.{chosen_from, is_chosen, responsible_for, responsible_if}
use Rattle.mta_procedures.proofs.BitLaws.{responsibility_said}

pub responsible_is_recipient : (c : Bool) (r : RecipientFields) → IsRecipient r → IsRecipient (responsible_if c r)
responsible_is_recipient c r h = record {
  some = h.some;
  small = h.small;
  indicators = (responsibility_said c r.indicators h.indicators).indicators;
  conversion = h.conversion;
}

pub responsible_so : (c : Bool) (r : RecipientFields) (n : Attributes) (b : BitString) (k : Option (List ℕ))
    (x : List ExtFields) → n ≡ r.name → b ≡ with_responsibility c r.indicators → k ≡ r.conversion
    → x ≡ r.extensions
    → record r { name = n; indicators = b; conversion = k; extensions = x } ≡ responsible_if c r
responsible_so c r n b k x name indicators conversion extensions =
    let i = with_responsibility c r.indicators in
    ap (λ a. record r { name = a; indicators = b; conversion = k; extensions = x }) name
    ∙ ap (λ a. record r { indicators = a; conversion = k; extensions = x }) indicators
    ∙ ap (λ a. record r { indicators = i; conversion = a; extensions = x }) conversion
    ∙ ap (λ a. record r { indicators = i; extensions = a }) extensions

-- ---- one more

one_behind : (k : ℕ) (chosen : List ℕ) (rs : List RecipientFields) (r : RecipientFields)
    → chosen_from k chosen (rs ++ r ∷ [])
    ≡ chosen_from k chosen rs ++ responsible_if (is_chosen chosen (k + length rs)) r ∷ []
one_behind k chosen [] r =
    let e : k ≡ k + 0 = omega arith in
    ap (λ n. responsible_if (is_chosen chosen n) r ∷ []) e
one_behind k chosen (x ∷ xs) r =
    let e : k + 1 + length xs ≡ k + length (x ∷ xs) = omega arith in
    let last : ℕ → List RecipientFields = λ n. responsible_if (is_chosen chosen n) r ∷ [] in
    ap (λ ys. responsible_if (is_chosen chosen k) x ∷ ys)
    (one_behind (k + 1) chosen xs r ∙ ap (λ n. chosen_from (k + 1) chosen xs ++ last n) e)

pub chosen_more : (chosen : List ℕ) (rs : List RecipientFields) (i : ℕ) (r : RecipientFields)
    (row next : List RecipientFields) → i < length rs → r ≡ get_or rs i r
    → row ≡ responsible_for chosen (take i rs)
    → next ≡ row ++ responsible_if (is_chosen chosen (i + 1)) r ∷ []
    → next ≡ responsible_for chosen (take (i + 1) rs)
chosen_more chosen rs i r row next lt is e n =
    let count : length (take i rs) ≡ i = length-take-le i rs (omega (arith, lt)) in
    let place : 1 + length (take i rs) ≡ i + 1 = omega (arith, count) in
    let last : ℕ → List RecipientFields = λ k. responsible_if (is_chosen chosen k) r ∷ [] in
    let front : take (i + 1) rs ≡ take i rs ++ r ∷ [] =
    take_more rs i r lt ∙ ap (λ (x : RecipientFields). take i rs ++ x ∷ []) (sym is) in
    n ∙ ap (λ xs. xs ++ last (i + 1)) e
    ∙ sym (ap (responsible_for chosen) front ∙ one_behind 1 chosen (take i rs) r
    ∙ ap (λ k. responsible_for chosen (take i rs) ++ last k) place)
