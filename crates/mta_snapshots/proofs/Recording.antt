-- What of a state is recorded.
use Rattle.std.proofs.Common.{◌≡◌, ℕ, suc, ◌+◌, ◌≤◌, ◌<◌, Bool, List, [], ◌∷◌, ◌++◌, length, get_or, drop, Option, Some}
use Rattle.std.proofs.Common.{None}
use Rattle.std.proofs.Common.{Result, refl, sym, ap, subst, ◌∙◌, append_assoc, append-nil, add-one}
use Rattle.std.specs.Prelude.{IfOk, option_to_list}
use Rattle.std.proofs.lemmas.List.{drop_all}
use Rattle.mta_ber.specs.declared.memory.Memory.{Memory}
use Rattle.mta_apdu.specs.Apdus.{ApduValue, SpellsStored}
use Rattle.mta_records.specs.State.{RecordedItem}
use Rattle.mta_records.specs.declared.state.MailboxLine.{MailboxLine}
use Rattle.mta_records.specs.declared.state.Status.{Status}
use Rattle.mta_machine.specs.Apdu.{value_of}
use Rattle.mta_machine.specs.Items.{ItemValue}
use Rattle.mta_histories.specs.Compact.{codes_of, is_named, recorded_item, recorded_from}
use Rattle.mta_snapshots.specs.Spent.{IsEmptied, IsEmptiedOf}
use Rattle.mta_snapshots.proofs.Each.{next}
use Rattle.mta_snapshots.proofs.Reading.{stored_as}

-- ---- codes

codes_first : (x : Option Status) (xs : List (Option Status)) → codes_of (x ∷ xs) ≡ option_to_list x ++ codes_of xs
codes_first None xs = refl
codes_first (Some s) xs = refl

pub codes_next : (all : List (Option Status)) (k : ℕ) (codes new : List Status) (x : Option Status) → k < length all
    → x ≡ get_or all k x → codes ++ codes_of (drop k all) ≡ codes_of all → new ≡ codes ++ option_to_list x
    → new ++ codes_of (drop (k + 1) all) ≡ codes_of all
codes_next all k codes new x within is way put =
    let rest = codes_of (drop (k + 1) all) in
    ap (λ (cs : List Status). cs ++ rest) put
    ∙ (append_assoc codes (option_to_list x) rest
    ∙ (ap (λ (cs : List Status). codes ++ cs) (sym (codes_first x (drop (k + 1) all)))
    ∙ (ap (λ (xs : List (Option Status)). codes ++ codes_of xs) (sym (next all k x within is)) ∙ way)))

pub codes_done : (all : List (Option Status)) (k : ℕ) (codes : List Status) → length all ≤ k
    → codes ++ codes_of (drop k all) ≡ codes_of all → codes ≡ codes_of all
codes_done all k codes past way =
    sym (append-nil codes)
    ∙ (ap (λ (xs : List (Option Status)). codes ++ codes_of xs) (sym (drop_all k all past)) ∙ way)

-- ---- items

module _ (lines : List MailboxLine) (all : List ItemValue) (k : ℕ) (records : List RecordedItem)
    (way : records ++ recorded_from lines (suc k) (drop k all) ≡ recorded_from lines 1 all)
  where
    pub items_next : (new : List RecordedItem) (item : ItemValue) (i : RecordedItem) (named : Bool) → k < length all
        → item ≡ get_or all k item → named ≡ is_named lines (suc k) → i ≡ recorded_item named item
        → new ≡ records ++ i ∷ [] → new ++ recorded_from lines (suc (k + 1)) (drop (k + 1) all)
        ≡ recorded_from lines 1 all
    items_next new item i named within is names same put =
        let rest = recorded_from lines (suc (suc k)) (drop (k + 1) all) in
        let here : i ≡ recorded_item (is_named lines (suc k)) item =
        same ∙ ap (λ (b : Bool). recorded_item b item) names in
        ap (λ (n : ℕ). new ++ recorded_from lines (suc n) (drop (k + 1) all)) (add-one k)
        ∙ (ap (λ (rs : List RecordedItem). rs ++ rest) put
        ∙ (append_assoc records (i ∷ []) rest
        ∙ (ap (λ (x : RecordedItem). records ++ x ∷ rest) here
        ∙ (ap (λ (xs : List ItemValue). records ++ recorded_from lines (suc k) xs) (sym (next all k item within is))
        ∙ way))))

    pub items_done : length all ≤ k → records ≡ recorded_from lines 1 all
    items_done past =
        sym (append-nil records)
        ∙ (ap (λ (xs : List ItemValue). records ++ recorded_from lines (suc k) xs) (sym (drop_all k all past)) ∙ way)

-- ---- octets

pub emptied_is : (octets : List ℕ) (v : ApduValue) (r : Result (Option (List ℕ)) Memory) → SpellsStored octets v
    → IfOk r (IsEmptied v) → IfOk r (IsEmptiedOf (value_of octets))
emptied_is octets v r spelled each =
    subst (λ (o : Option ApduValue). IfOk r (IsEmptiedOf o)) (sym (stored_as octets v spelled).read) each
