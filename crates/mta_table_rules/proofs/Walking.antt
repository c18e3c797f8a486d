-- The first message among items of which a report says something.
use Rattle.std.proofs.Common.{◌≡◌, ℕ, zero, suc, ◌+◌, ◌<◌, ◌≤◌, Bool, true, false, List, []}
use Rattle.std.proofs.Common.{◌∷◌, length, take, get_or, Option, Some, None, refl, sym, ap, ◌∙◌}
use Rattle.std.proofs.Common.{arith, ◌&&◌, ◌||◌, map}
use Rattle.std.specs.Prelude.{is_some, option_and_then}
use Rattle.std.specs.List.{find, flat_map, list_any, zip}
use Rattle.std.specs.Option.{option_map, option_or}
use Rattle.std.proofs.lemmas.List.{take_all}
use Rattle.std.proofs.lemmas.List.Folds.{find-append}
use Rattle.mta_names.specs.declared.attributes.Attributes.{Attributes}
use Rattle.mta_names.specs.Normal.{is_same_name}
use Rattle.mta_envelope_recipient.specs.declared.recipient.RecipientFields.{RecipientFields}
use Rattle.mta_report.specs.declared.fields.ReportFields.{ReportFields}
use Rattle.mta_tables.specs.declared.entry.MailList.{MailList}
use Rattle.mta_tables.specs.Tables.{TablesValue}
use Rattle.mta_tables.specs.Hops.{list_named}
use Rattle.mta_procedures.specs.Walks.{Accepted, behind_list, is_expanded_as, is_subject_of, passed_to, walk_of}
use Rattle.mta_records.specs.declared.state.Status.{Status}
use Rattle.mta_machine.specs.Items.{ItemValue}
use Rattle.mta_machine.specs.Rules.{accepted_in, accepted_of, is_expanded}

-- ---- lists of lists

first_none : {X : Type 0} (o p : Option X) → option_or o p ≡ None → o ≡ None
first_none None p e = refl
first_none (Some x) p e = absurd cc

second_none : {X : Type 0} (o p : Option X) → option_or o p ≡ None → p ≡ None
second_none None p e = e
second_none (Some x) p e = absurd cc

module_found : {X A : Type 0} (test : A → Bool) (f : X → List A) (x : X) (xs : List X)
    → find test (flat_map f (x ∷ xs)) ≡ option_or (find test (f x)) (find test (flat_map f xs))
module_found test f x xs = find-append test (f x) (flat_map f xs)

pub found_at : {X A : Type 0} (test : A → Bool) (f : X → List A) (xs : List X) (i : ℕ) (x : X) (a : A)
    → i < length xs → x ≡ get_or xs i x → find test (flat_map f (take i xs)) ≡ None
    → find test (f x) ≡ Some a → find test (flat_map f xs) ≡ Some a
found_at test f [] i x a lt is none found = absurd (omega (arith, lt))
found_at test f (y ∷ ys) zero x a lt is none found =
    module_found test f y ys
    ∙ ap (λ z. option_or (find test (f z)) (find test (flat_map f ys))) (sym is)
    ∙ ap (λ o. option_or o (find test (flat_map f ys))) found
found_at test f (y ∷ ys) (suc i) x a lt is none found =
    let parts : option_or (find test (f y)) (find test (flat_map f (take i ys))) ≡ None =
    sym (module_found test f y (take i ys)) ∙ none in
    let more : find test (flat_map f ys) ≡ Some a =
    found_at test f ys i x a (omega (arith, lt)) is
    (second_none (find test (f y)) (find test (flat_map f (take i ys))) parts) found in
    module_found test f y ys
    ∙ ap (λ o. option_or o (find test (flat_map f ys)))
    (first_none (find test (f y)) (find test (flat_map f (take i ys))) parts)
    ∙ more

none_suc : {X A : Type 0} (test : A → Bool) (f : X → List A) (xs : List X) (i : ℕ) (x : X)
    → i < length xs → x ≡ get_or xs i x → find test (flat_map f (take i xs)) ≡ None
    → find test (f x) ≡ None → find test (flat_map f (take (suc i) xs)) ≡ None
none_suc test f [] i x lt is none next = absurd (omega (arith, lt))
none_suc test f (y ∷ ys) zero x lt is none next =
    module_found test f y []
    ∙ ap (λ z. option_or (find test (f z)) (find test (flat_map f []))) (sym is)
    ∙ ap (λ o. option_or o (find test (flat_map f []))) next
none_suc test f (y ∷ ys) (suc i) x lt is none next =
    let parts : option_or (find test (f y)) (find test (flat_map f (take i ys))) ≡ None =
    sym (module_found test f y (take i ys)) ∙ none in
    let more : find test (flat_map f (take (suc i) ys)) ≡ None =
    none_suc test f ys i x (omega (arith, lt)) is
    (second_none (find test (f y)) (find test (flat_map f (take i ys))) parts) next in
    module_found test f y (take (suc i) ys)
    ∙ ap (λ o. option_or o (find test (flat_map f (take (suc i) ys))))
    (first_none (find test (f y)) (find test (flat_map f (take i ys))) parts)
    ∙ more

-- ---- the messages among items

-- none of the first items is the message
abbrev pub AreOthers : ReportFields → MailList → List ItemValue → ℕ → Type 0
AreOthers p l items i = find (is_subject_of p l) (accepted_in (take i items)) ≡ None

pub no_items : (p : ReportFields) (l : MailList) (items : List ItemValue) → AreOthers p l items 0
unfolding accepted_in
no_items p l items = refl

not_mapped : {A B : Type 0} (f : A → B) (o : Option A) → None ≡ option_map f o → o ≡ None
not_mapped f None e = refl
not_mapped f (Some x) e = absurd cc

pub one_other : (t : TablesValue) (p : ReportFields) (l : MailList) (items : List ItemValue) (i : ℕ)
    (item : ItemValue) (walk : Option (Option Attributes)) → i < length items → item ≡ get_or items i item
    → AreOthers p l items i → walk ≡ option_map (walk_of t) (find (is_subject_of p l) (accepted_of item))
    → walk ≡ None → AreOthers p l items (i + 1)
unfolding accepted_in
one_other t p l items i item walk lt is none walked gone =
    let place : i + 1 ≡ suc i = omega arith in
    ap (λ k. find (is_subject_of p l) (flat_map accepted_of (take k items))) place
    ∙ none_suc (is_subject_of p l) accepted_of items i item lt is none
    (not_mapped (walk_of t) (find (is_subject_of p l) (accepted_of item)) (sym gone ∙ walked))

pub none_walks : (t : TablesValue) (p : ReportFields) (l : MailList) (items : List ItemValue) (i : ℕ)
    → length items ≤ i → AreOthers p l items i
    → None ≡ option_and_then (walk_of t) (find (is_subject_of p l) (accepted_in items))
none_walks t p l items i le none =
    ap (λ (o : Option Accepted). option_and_then (walk_of t) o)
    (sym (ap (λ xs. find (is_subject_of p l) (accepted_in xs)) (sym (take_all i items le)) ∙ none))

walked_at : (t : TablesValue) (p : ReportFields) (l : MailList) (items : List ItemValue) (i : ℕ)
    (item : ItemValue) (walk : Option Attributes) (o : Option Accepted) → i < length items
    → item ≡ get_or items i item → AreOthers p l items i → find (is_subject_of p l) (accepted_of item) ≡ o
    → Some walk ≡ option_map (walk_of t) o
    → walk ≡ option_and_then (walk_of t) (find (is_subject_of p l) (accepted_in items))
unfolding accepted_in
walked_at t p l items i item walk None lt is none at walked = absurd cc
walked_at t p l items i item walk (Some a) lt is none at walked =
    let same : walk ≡ walk_of t a = cc in
    same ∙ ap (λ (o : Option Accepted). option_and_then (walk_of t) o)
    (sym (found_at (is_subject_of p l) accepted_of items i item a lt is none at))

pub first_walks : (t : TablesValue) (p : ReportFields) (l : MailList) (items : List ItemValue) (i : ℕ)
    (item : ItemValue) (found : Option (Option Attributes)) (walk : Option Attributes) → i < length items
    → item ≡ get_or items i item → AreOthers p l items i
    → found ≡ option_map (walk_of t) (find (is_subject_of p l) (accepted_of item)) → found ≡ Some walk
    → walk ≡ option_and_then (walk_of t) (find (is_subject_of p l) (accepted_in items))
first_walks t p l items i item found walk lt is none walked e =
    walked_at t p l items i item walk (find (is_subject_of p l) (accepted_of item)) lt is none refl (sym e ∙ walked)

pub is_some_mapped : {A B : Type 0} (f : A → B) (o : Option A) → is_some (option_map f o) ≡ is_some o
is_some_mapped f None = refl
is_some_mapped f (Some x) = refl

-- ---- who was expanded

-- a recipient and a status, who is this list and was expanded
abbrev pub is_expanded_here : MailList → RecipientFields × Option Status → Bool
is_expanded_here l x = is_expanded x.1 && is_same_name x.0.name l.name

pub expanded_here : (l : MailList) (rs : List RecipientFields) (statuses : List (Option Status))
    → list_any (is_expanded_here l) (zip rs statuses)
    ≡ list_any (is_expanded_as l) (zip rs (map is_expanded statuses))
expanded_here l [] statuses = refl
expanded_here l (r ∷ rs) [] = refl
expanded_here l (r ∷ rs) (s ∷ statuses) =
    ap (λ b. is_expanded_here l (r, s) || b) (expanded_here l rs statuses)

-- ---- to whom a report is passed back

pub own_passes : (t : TablesValue) (own : Bool) (p : ReportFields) (accepted : List Accepted) → own ≡ true
    → None ≡ passed_to t own p accepted
unfolding passed_to
own_passes t true p accepted e = refl
own_passes t false p accepted e = absurd cc

pub no_list_passes : (t : TablesValue) (own : Bool) (p q : ReportFields) (accepted : List Accepted)
    → own ≡ false → q ≡ p → None ≡ list_named t q.destination → None ≡ passed_to t own p accepted
unfolding passed_to
no_list_passes t true p q accepted e h k = absurd cc
no_list_passes t false p q accepted e h k =
    ap (λ (o : Option MailList). option_and_then (behind_list t p accepted) o)
    (k ∙ ap (λ (x : ReportFields). list_named t x.destination) h)

pub list_passes : (t : TablesValue) (own : Bool) (p q : ReportFields) (accepted : List Accepted) (l : MailList)
    → own ≡ false → q ≡ p → Some l ≡ list_named t q.destination
    → behind_list t p accepted l ≡ passed_to t own p accepted
unfolding passed_to
list_passes t true p q accepted l e h k = absurd cc
list_passes t false p q accepted l e h k =
    ap (λ (o : Option MailList). option_and_then (behind_list t p accepted) o)
    (k ∙ ap (λ (x : ReportFields). list_named t x.destination) h)
