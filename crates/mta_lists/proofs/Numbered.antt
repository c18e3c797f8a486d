-- Members as recipients, one more.
use Rattle.std.proofs.Common.{◌≡◌, ℕ, ◌+◌, ◌<◌, ◌≤◌, List, [], ◌∷◌, ◌++◌, length, take}
use Rattle.std.proofs.Common.{get_or}
use Rattle.std.proofs.Common.{sym, ap, ◌∙◌, arith}
use Rattle.std.proofs.lemmas.List.{take_more, length-take-le}
use Rattle.mta_names.specs.declared.attributes.Attributes.{Attributes}
use Rattle.mta_envelope_recipient.specs.declared.recipient.RecipientFields.{RecipientFields}
use Rattle.mta_envelope_recipient.specs.Recipients.{IsRecipient}
use Rattle.mta_procedures.specs.Members.{member_as, members_from}

pub member_is_recipient : (r : RecipientFields) (k : ℕ) (m : Attributes) → IsRecipient r → 1 ≤ k → k ≤ 32767
    → IsRecipient (member_as r k m)
member_is_recipient r k m h some small = record {
  some = some;
  small = small;
  indicators = h.indicators;
  conversion = tt;
}

one_behind : (k : ℕ) (r : RecipientFields) (ms : List Attributes) (m : Attributes)
    → members_from k r (ms ++ m ∷ []) ≡ members_from k r ms ++ member_as r (k + length ms) m ∷ []
one_behind k r [] m =
    let e : k ≡ k + 0 = omega arith in
    ap (λ n. member_as r n m ∷ []) e
one_behind k r (x ∷ xs) m =
    let e : k + 1 + length xs ≡ k + length (x ∷ xs) = omega arith in
    let last : ℕ → List RecipientFields = λ n. member_as r n m ∷ [] in
    ap (λ ys. member_as r k x ∷ ys)
    (one_behind (k + 1) r xs m ∙ ap (λ n. members_from (k + 1) r xs ++ last n) e)

pub members_more : (r : RecipientFields) (ms : List Attributes) (i : ℕ) (m : Attributes)
    (row next : List RecipientFields) → i < length ms → m ≡ get_or ms i m
    → row ≡ members_from 1 r (take i ms)
    → next ≡ row ++ member_as r (i + 1) m ∷ []
    → next ≡ members_from 1 r (take (i + 1) ms)
members_more r ms i m row next lt is e n =
    let count : length (take i ms) ≡ i = length-take-le i ms (omega (arith, lt)) in
    let place : 1 + length (take i ms) ≡ i + 1 = omega (arith, count) in
    let last : ℕ → List RecipientFields = λ k. member_as r k m ∷ [] in
    let front : take (i + 1) ms ≡ take i ms ++ m ∷ [] =
    take_more ms i m lt ∙ ap (λ (x : Attributes). take i ms ++ x ∷ []) (sym is) in
    n ∙ ap (λ xs. xs ++ last (i + 1)) e
    ∙ sym (ap (members_from 1 r) front ∙ one_behind 1 r (take i ms) m
    ∙ ap (λ k. members_from 1 r (take i ms) ++ last k) place)
