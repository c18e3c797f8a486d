-- A text form is what is written of the name that is read from it: the attributes that parts make have these parts
-- again.
use Rattle.std.proofs.Common.{◌≡◌, ℕ, ◌≤◌, ◌<◌, Bool, true, false, eqb, ltb, List, [], ◌∷◌, ◌++◌, Option, Some, None}
use Rattle.std.proofs.Common.{refl, sym, ap, ◌∙◌, inl, inr, arith, ◌||◌, not, append_assoc, append-nil}
use Rattle.std.specs.Prelude.{map, option_map, IfSome, is_some}
use Rattle.std.proofs.lemmas.Bool.{and_parts, or_cases, ne_eqb}
use Rattle.mta_ber.specs.Strings.{is_empty}
use Rattle.mta_names.specs.declared.attributes.Attributes.{Attributes}
use Rattle.mta_names.specs.declared.attributes.PairFields.{PairFields}
use Rattle.mta_names.specs.declared.attributes.PersonFields.{PersonFields}
use Rattle.mta_names.specs.Values.{nothing}
use Rattle.mta_name_text.specs.declared.key.Key.{Key}
use Rattle.mta_name_text.specs.declared.key.Key.TheVariants as Keys
use Rattle.mta_name_text.specs.declared.part.Part.{Part}
use Rattle.mta_name_text.specs.declared.place.Grammar.TheVariants.{Names}
use Rattle.mta_name_text.specs.declared.place.Place.{Place}
use Rattle.mta_name_text.specs.Forms.{keyed, keyed_if, labelled_if, units_keyed, person_keyed, pair_keyed, pairs_keyed}
use Rattle.mta_name_text.specs.Forms.{label_text, keyed_of, part_text, joined, text_form}
use Rattle.mta_name_text.specs.Grammar.{start, behind, is_again, follows, is_kind, IsPart, Follow}
use Rattle.mta_name_text.specs.Keys.{place_of, repeats, needs_surname}
use Rattle.mta_name_text.specs.Made.{with_given, with_initials, with_generation, pair_of, put, put_at, put_all}
use Rattle.mta_name_text.specs.Made.{IsTextForm}
use Rattle.mta_name_text.specs.Reading.{part}
use Rattle.mta_name_text.proofs.NameFits.{later, not_before}

-- ---- lists behind one another

-- one part more at the end of what stands behind
outer : (s rest more z : List Part) → more ≡ rest ++ z → s ++ more ≡ (s ++ rest) ++ z
outer s rest more z e = ap (λ x. s ++ x) e ∙ sym (append_assoc s rest z)

-- one part more, where nothing stands behind
inner : (s more rest z : List Part) → rest ≡ [] → more ≡ s ++ z → more ++ rest ≡ (s ++ rest) ++ z
inner s more rest z e f = ap (λ x. more ++ x) e ∙ append-nil more ∙ f
    ∙ ap (λ x. x ++ z) (sym (append-nil s) ∙ ap (λ x. s ++ x) (sym e))

none_both : (s t : List Part) → s ≡ [] → t ≡ [] → s ++ t ≡ []
none_both s t e f = ap (λ x. x ++ t) e ∙ f

-- ---- what stands behind each attribute

abbrev from_user : Attributes → List Part
from_user n = keyed_if Keys.User n.user ++ pairs_keyed n.pairs

abbrev from_terminal : Attributes → List Part
from_terminal n = keyed_if Keys.Terminal n.terminal ++ from_user n

abbrev from_network : Attributes → List Part
from_network n = keyed_if Keys.Network n.network ++ from_terminal n

abbrev from_common : Attributes → List Part
from_common n = keyed_if Keys.Common n.common ++ from_network n

abbrev from_person : Attributes → List Part
from_person n = person_keyed n.person ++ from_common n

abbrev from_units : Attributes → List Part
from_units n = units_keyed n.units ++ from_person n

abbrev from_organization : Attributes → List Part
from_organization n = keyed_if Keys.Organization n.organization ++ from_units n

abbrev from_prmd : Attributes → List Part
from_prmd n = labelled_if Keys.Prmd n.prmd ++ from_organization n

abbrev from_admd : Attributes → List Part
from_admd n = labelled_if Keys.Admd n.admd ++ from_prmd n

-- nothing stands behind the last part, and a personal name is there behind a surname
pub record Fresh (p : Place) (n : Attributes) : Type 0 where
  pub country : p.last < 1 → n.country ≡ None
  pub admd : p.last < 2 → n.admd ≡ None
  pub prmd : p.last < 3 → n.prmd ≡ None
  pub organization : p.last < 4 → n.organization ≡ None
  pub units : p.last < 5 → n.units ≡ []
  pub person : p.last < 6 → n.person ≡ None
  pub given : p.last < 7 → IfSome n.person (λ q. q.given ≡ None)
  pub initials : p.last < 8 → IfSome n.person (λ q. q.initials ≡ None)
  pub generation : p.last < 9 → IfSome n.person (λ q. q.generation ≡ None)
  pub common : p.last < 10 → n.common ≡ None
  pub network : p.last < 11 → n.network ≡ None
  pub terminal : p.last < 12 → n.terminal ≡ None
  pub user : p.last < 13 → n.user ≡ None
  pub pairs : p.last < 14 → n.pairs ≡ []
  pub surname : p.surname ≡ true → is_some n.person ≡ true
  pub left : (p.last ≡ 5 → ⊥) → (p.last ≡ 14 → ⊥) → p.left ≡ 0

no_pairs : (p : Place) (n : Attributes) → Fresh p n → p.last < 14 → pairs_keyed n.pairs ≡ []
no_pairs p n h l = ap pairs_keyed (h.pairs l)

no_user : (p : Place) (n : Attributes) → Fresh p n → p.last < 13 → from_user n ≡ []
no_user p n h l = none_both _ _ (ap (keyed_if Keys.User) (h.user l)) (no_pairs p n h (omega arith))

no_terminal : (p : Place) (n : Attributes) → Fresh p n → p.last < 12 → from_terminal n ≡ []
no_terminal p n h l = none_both _ _ (ap (keyed_if Keys.Terminal) (h.terminal l)) (no_user p n h (omega arith))

no_network : (p : Place) (n : Attributes) → Fresh p n → p.last < 11 → from_network n ≡ []
no_network p n h l = none_both _ _ (ap (keyed_if Keys.Network) (h.network l)) (no_terminal p n h (omega arith))

no_common : (p : Place) (n : Attributes) → Fresh p n → p.last < 10 → from_common n ≡ []
no_common p n h l = none_both _ _ (ap (keyed_if Keys.Common) (h.common l)) (no_network p n h (omega arith))

no_person : (p : Place) (n : Attributes) → Fresh p n → p.last < 6 → from_person n ≡ []
no_person p n h l = none_both _ _ (ap person_keyed (h.person l)) (no_common p n h (omega arith))

no_units : (p : Place) (n : Attributes) → Fresh p n → p.last < 5 → from_units n ≡ []
no_units p n h l = none_both _ _ (ap units_keyed (h.units l)) (no_person p n h (omega arith))

no_organization : (p : Place) (n : Attributes) → Fresh p n → p.last < 4 → from_organization n ≡ []
no_organization p n h l = none_both _ _ (ap (keyed_if Keys.Organization) (h.organization l))
    (no_units p n h (omega arith))

no_prmd : (p : Place) (n : Attributes) → Fresh p n → p.last < 3 → from_prmd n ≡ []
no_prmd p n h l = none_both _ _ (ap (labelled_if Keys.Prmd) (h.prmd l)) (no_organization p n h (omega arith))

no_admd : (p : Place) (n : Attributes) → Fresh p n → p.last < 2 → from_admd n ≡ []
no_admd p n h l = none_both _ _ (ap (labelled_if Keys.Admd) (h.admd l)) (no_prmd p n h (omega arith))

-- ---- one attribute more

-- a key that does not repeat stands behind the last part
only_later : (p : Place) (n : Attributes) (k : Key) → Fresh p n → follows Names p k ≡ true → (place_of k ≡ 5 → ⊥)
    → (place_of k ≡ 14 → ⊥) → p.last < place_of k
only_later p n k h f u r =
    elim (later p k f) [
      | inl l ↦ l
      | inr e ↦ (
          let same = e.0 in
          let some = e.1 in
          let none : p.left ≡ 0 = h.left (λ g. u (sym same ∙ g)) (λ g. r (sym same ∙ g)) in
          absurd (omega arith))
    ]

no_kind : (t : List ℕ) → is_empty t ≡ true → t ≡ []
no_kind [] e = refl
no_kind (c ∷ t) e = absurd cc

-- a part without a type
as_keyed : (k : Key) (t v : List ℕ) → is_kind false t ≡ true → keyed k v ≡ part k t v
as_keyed k t v e = ap (λ x. part k x v) (sym (no_kind t e))

-- where nothing stood
put_first : (s : List Part) (x y : Part) → s ≡ [] → x ≡ y → x ∷ [] ≡ s ++ y ∷ []
put_first s x y e f = ap (λ z. z ∷ []) f ∙ ap (λ z. z ++ y ∷ []) (sym e)

units_more : (us : List (List ℕ)) (v : List ℕ) → units_keyed (us ++ v ∷ []) ≡ units_keyed us ++ keyed Keys.Unit v ∷ []
units_more [] v = refl
units_more (u ∷ us) v = ap (λ x. keyed Keys.Unit u ∷ x) (units_more us v)

pairs_more : (ps : List PairFields) (q : PairFields) → pairs_keyed (ps ++ q ∷ []) ≡ pairs_keyed ps ++ pair_keyed q ∷ []
pairs_more [] q = refl
pairs_more (p ∷ ps) q = ap (λ x. pair_keyed p ∷ x) (pairs_more ps q)

abbrev person_of : List ℕ → Option (List ℕ) → Option (List ℕ) → Option (List ℕ) → PersonFields
person_of s g i q = record { surname = s; given = g; initials = i; generation = q }

given_of : (s : List ℕ) (g i q : Option (List ℕ)) (v : List ℕ) → g ≡ None → i ≡ None → q ≡ None
    → person_keyed (Some (person_of s (Some v) i q)) ≡ person_keyed (Some (person_of s g i q)) ++ keyed Keys.Given v ∷
    []
given_of s None None None v e f h = refl
given_of s None None (Some q) v e f h = absurd cc
given_of s None (Some i) q v e f h = absurd cc
given_of s (Some g) i q v e f h = absurd cc

initials_of : (s : List ℕ) (g i q : Option (List ℕ)) (v : List ℕ) → i ≡ None → q ≡ None
    → person_keyed (Some (person_of s g (Some v) q)) ≡ person_keyed (Some (person_of s g i q)) ++ keyed Keys.Initials v
    ∷ []
initials_of s None None None v f h = refl
initials_of s (Some g) None None v f h = refl
initials_of s g None (Some q) v f h = absurd cc
initials_of s g (Some i) q v f h = absurd cc

generation_of : (s : List ℕ) (g i q : Option (List ℕ)) (v : List ℕ) → q ≡ None
    → person_keyed (Some (person_of s g i (Some v))) ≡ person_keyed (Some (person_of s g i q))
    ++ keyed Keys.Generation v ∷ []
generation_of s None None None v h = refl
generation_of s (Some g) None None v h = refl
generation_of s None (Some i) None v h = refl
generation_of s (Some g) (Some i) None v h = refl
generation_of s g i (Some q) v h = absurd cc

given_more : (o : Option PersonFields) (v : List ℕ) → is_some o ≡ true → IfSome o (λ q. q.given ≡ None)
    → IfSome o (λ q. q.initials ≡ None) → IfSome o (λ q. q.generation ≡ None)
    → person_keyed (with_given v o) ≡ person_keyed o ++ keyed Keys.Given v ∷ []
given_more None v s e f h = absurd cc
given_more (Some q) v s e f h = given_of q.surname q.given q.initials q.generation v e f h

initials_more : (o : Option PersonFields) (v : List ℕ) → is_some o ≡ true → IfSome o (λ q. q.initials ≡ None)
    → IfSome o (λ q. q.generation ≡ None) → person_keyed (with_initials v o) ≡ person_keyed o ++ keyed Keys.Initials v ∷
    []
initials_more None v s f h = absurd cc
initials_more (Some q) v s f h = initials_of q.surname q.given q.initials q.generation v f h

generation_more : (o : Option PersonFields) (v : List ℕ) → is_some o ≡ true → IfSome o (λ q. q.generation ≡ None)
    → person_keyed (with_generation v o) ≡ person_keyed o ++ keyed Keys.Generation v ∷ []
generation_more None v s h = absurd cc
generation_more (Some q) v s h = generation_of q.surname q.given q.initials q.generation v h

-- a key that needs a surname has one
has_person : (p : Place) (n : Attributes) (k : Key) → Fresh p n → follows Names p k ≡ true → needs_surname k ≡ true
    → is_some n.person ≡ true
has_person p n k h f s =
    let a = and_parts (ltb p.last (place_of k) || is_again p k) (p.surname || not (needs_surname k)) f in
    elim (or_cases p.surname (not (needs_surname k)) a.1) [
      | inl there ↦ h.surname there
      | inr none ↦ (let e : not true ≡ true = ap not (sym s) ∙ none in absurd cc)
    ]

-- what is put where nothing stood, nor behind it
put_keyed : (k : Key) (t v : List ℕ) (o : Option (List ℕ)) (rest : List Part) → o ≡ None → rest ≡ []
    → is_kind false t ≡ true → keyed_if k (Some v) ++ rest ≡ (keyed_if k o ++ rest) ++ part k t v ∷ []
put_keyed k t v o rest none e i =
    inner (keyed_if k o) (keyed_if k (Some v)) rest (part k t v ∷ []) e
    (put_first (keyed_if k o) (keyed k v) (part k t v) (ap (keyed_if k) none) (as_keyed k t v i))

-- attributes in front that stay are passed
module _ (n m : Attributes) (z : List Part) where
  same : (s s' rest more : List Part) → s' ≡ s → more ≡ rest ++ z → s' ++ more ≡ (s ++ rest) ++ z
  same s s' rest more e f = ap (λ x. x ++ more) e ∙ outer s rest more z f

  past_country : m.country ≡ n.country → from_admd m ≡ from_admd n ++ z → keyed_of m ≡ keyed_of n ++ z
  past_country e0 e =
      same (labelled_if Keys.Country n.country) (labelled_if Keys.Country m.country) (from_admd n) (from_admd m)
      (ap (labelled_if Keys.Country) e0) e

  past_admd : m.country ≡ n.country → m.admd ≡ n.admd → from_prmd m ≡ from_prmd n ++ z
      → keyed_of m ≡ keyed_of n ++ z
  past_admd e0 e1 e =
      past_country e0
      (same (labelled_if Keys.Admd n.admd) (labelled_if Keys.Admd m.admd) (from_prmd n) (from_prmd m)
      (ap (labelled_if Keys.Admd) e1) e)

  past_prmd : m.country ≡ n.country → m.admd ≡ n.admd → m.prmd ≡ n.prmd
      → from_organization m ≡ from_organization n ++ z → keyed_of m ≡ keyed_of n ++ z
  past_prmd e0 e1 e2 e =
      past_admd e0 e1
      (same (labelled_if Keys.Prmd n.prmd) (labelled_if Keys.Prmd m.prmd) (from_organization n) (from_organization m)
      (ap (labelled_if Keys.Prmd) e2) e)

  past_organization : m.country ≡ n.country → m.admd ≡ n.admd → m.prmd ≡ n.prmd
      → m.organization ≡ n.organization → from_units m ≡ from_units n ++ z
      → keyed_of m ≡ keyed_of n ++ z
  past_organization e0 e1 e2 e3 e =
      past_prmd e0 e1 e2
      (same (keyed_if Keys.Organization n.organization) (keyed_if Keys.Organization m.organization) (from_units n)
      (from_units m) (ap (keyed_if Keys.Organization) e3) e)

  past_units : m.country ≡ n.country → m.admd ≡ n.admd → m.prmd ≡ n.prmd
      → m.organization ≡ n.organization → m.units ≡ n.units → from_person m ≡ from_person n ++ z
      → keyed_of m ≡ keyed_of n ++ z
  past_units e0 e1 e2 e3 e4 e =
      past_organization e0 e1 e2 e3
      (same (units_keyed n.units) (units_keyed m.units) (from_person n) (from_person m) (ap units_keyed e4) e)

  past_person : m.country ≡ n.country → m.admd ≡ n.admd → m.prmd ≡ n.prmd
      → m.organization ≡ n.organization → m.units ≡ n.units → m.person ≡ n.person
      → from_common m ≡ from_common n ++ z → keyed_of m ≡ keyed_of n ++ z
  past_person e0 e1 e2 e3 e4 e5 e =
      past_units e0 e1 e2 e3 e4
      (same (person_keyed n.person) (person_keyed m.person) (from_common n) (from_common m) (ap person_keyed e5) e)

  past_common : m.country ≡ n.country → m.admd ≡ n.admd → m.prmd ≡ n.prmd
      → m.organization ≡ n.organization → m.units ≡ n.units → m.person ≡ n.person
      → m.common ≡ n.common → from_network m ≡ from_network n ++ z → keyed_of m ≡ keyed_of n ++ z
  past_common e0 e1 e2 e3 e4 e5 e6 e =
      past_person e0 e1 e2 e3 e4 e5
      (same (keyed_if Keys.Common n.common) (keyed_if Keys.Common m.common) (from_network n) (from_network m)
      (ap (keyed_if Keys.Common) e6) e)

  past_network : m.country ≡ n.country → m.admd ≡ n.admd → m.prmd ≡ n.prmd
      → m.organization ≡ n.organization → m.units ≡ n.units → m.person ≡ n.person
      → m.common ≡ n.common → m.network ≡ n.network → from_terminal m ≡ from_terminal n ++ z
      → keyed_of m ≡ keyed_of n ++ z
  past_network e0 e1 e2 e3 e4 e5 e6 e7 e =
      past_common e0 e1 e2 e3 e4 e5 e6
      (same (keyed_if Keys.Network n.network) (keyed_if Keys.Network m.network) (from_terminal n) (from_terminal m)
      (ap (keyed_if Keys.Network) e7) e)

  past_terminal : m.country ≡ n.country → m.admd ≡ n.admd → m.prmd ≡ n.prmd
      → m.organization ≡ n.organization → m.units ≡ n.units → m.person ≡ n.person
      → m.common ≡ n.common → m.network ≡ n.network → m.terminal ≡ n.terminal
      → from_user m ≡ from_user n ++ z → keyed_of m ≡ keyed_of n ++ z
  past_terminal e0 e1 e2 e3 e4 e5 e6 e7 e8 e =
      past_network e0 e1 e2 e3 e4 e5 e6 e7
      (same (keyed_if Keys.Terminal n.terminal) (keyed_if Keys.Terminal m.terminal) (from_user n) (from_user m)
      (ap (keyed_if Keys.Terminal) e8) e)

  past_user : m.country ≡ n.country → m.admd ≡ n.admd → m.prmd ≡ n.prmd
      → m.organization ≡ n.organization → m.units ≡ n.units → m.person ≡ n.person
      → m.common ≡ n.common → m.network ≡ n.network → m.terminal ≡ n.terminal → m.user ≡ n.user
      → pairs_keyed m.pairs ≡ pairs_keyed n.pairs ++ z → keyed_of m ≡ keyed_of n ++ z
  past_user e0 e1 e2 e3 e4 e5 e6 e7 e8 e9 e =
      past_terminal e0 e1 e2 e3 e4 e5 e6 e7 e8
      (same (keyed_if Keys.User n.user) (keyed_if Keys.User m.user) (pairs_keyed n.pairs) (pairs_keyed m.pairs)
      (ap (keyed_if Keys.User) e9) e)

-- the part that is put stands behind those that stood
keyed_more : (k : Key) (t v : List ℕ) (p : Place) (n : Attributes) → Fresh p n → follows Names p k ≡ true
    → IsPart (part k t v) → keyed_of (put_at k t v n) ≡ keyed_of n ++ part k t v ∷ []
keyed_more Keys.Country t v p n h f i =
    let l : p.last < 1 = only_later p n Keys.Country h f (λ e. omega arith) (λ e. omega arith) in
    put_keyed Keys.Country t v (option_map label_text n.country) (from_admd n)
    (ap (option_map label_text) (h.country l)) (no_admd p n h (omega arith)) i.kind
keyed_more Keys.Admd t v p n h f i =
    let l : p.last < 2 = only_later p n Keys.Admd h f (λ e. omega arith) (λ e. omega arith) in
    past_country n (put_at Keys.Admd t v n) (part Keys.Admd t v ∷ []) refl
    (put_keyed Keys.Admd t v (option_map label_text n.admd) (from_prmd n) (ap (option_map label_text) (h.admd l))
    (no_prmd p n h (omega arith)) i.kind)
keyed_more Keys.Prmd t v p n h f i =
    let l : p.last < 3 = only_later p n Keys.Prmd h f (λ e. omega arith) (λ e. omega arith) in
    past_admd n (put_at Keys.Prmd t v n) (part Keys.Prmd t v ∷ []) refl refl
    (put_keyed Keys.Prmd t v (option_map label_text n.prmd) (from_organization n)
    (ap (option_map label_text) (h.prmd l)) (no_organization p n h (omega arith)) i.kind)
keyed_more Keys.Organization t v p n h f i =
    let l : p.last < 4 = only_later p n Keys.Organization h f (λ e. omega arith) (λ e. omega arith) in
    past_prmd n (put_at Keys.Organization t v n) (part Keys.Organization t v ∷ []) refl refl refl
    (put_keyed Keys.Organization t v n.organization (from_units n) (h.organization l)
    (no_units p n h (omega arith)) i.kind)
keyed_more Keys.Unit t v p n h f i =
    let l : p.last ≤ 5 = not_before p Keys.Unit f in
    past_organization n (put_at Keys.Unit t v n) (part Keys.Unit t v ∷ []) refl refl refl refl
    (inner (units_keyed n.units) (units_keyed (n.units ++ v ∷ [])) (from_person n) (part Keys.Unit t v ∷ [])
    (no_person p n h (omega arith))
    (units_more n.units v ∙ ap (λ x. units_keyed n.units ++ x ∷ []) (as_keyed Keys.Unit t v i.kind)))
keyed_more Keys.Surname t v p n h f i =
    let m = put_at Keys.Surname t v n in
    let l : p.last < 6 = only_later p n Keys.Surname h f (λ e. omega arith) (λ e. omega arith) in
    past_units n (put_at Keys.Surname t v n) (part Keys.Surname t v ∷ []) refl refl refl refl refl
    (inner (person_keyed n.person) (person_keyed m.person) (from_common n) (part Keys.Surname t v ∷ [])
    (no_common p n h (omega arith))
    (put_first (person_keyed n.person) (keyed Keys.Surname v) (part Keys.Surname t v) (ap person_keyed (h.person l))
    (as_keyed Keys.Surname t v i.kind)))
keyed_more Keys.Given t v p n h f i =
    let m = put_at Keys.Given t v n in
    let l : p.last < 7 = only_later p n Keys.Given h f (λ e. omega arith) (λ e. omega arith) in
    let there = has_person p n Keys.Given h f refl in
    past_units n (put_at Keys.Given t v n) (part Keys.Given t v ∷ []) refl refl refl refl refl
    (inner (person_keyed n.person) (person_keyed m.person) (from_common n) (part Keys.Given t v ∷ [])
    (no_common p n h (omega arith))
    (given_more n.person v there (h.given l) (h.initials (omega arith)) (h.generation (omega arith))
    ∙ ap (λ x. person_keyed n.person ++ x ∷ []) (as_keyed Keys.Given t v i.kind)))
keyed_more Keys.Initials t v p n h f i =
    let m = put_at Keys.Initials t v n in
    let l : p.last < 8 = only_later p n Keys.Initials h f (λ e. omega arith) (λ e. omega arith) in
    let there = has_person p n Keys.Initials h f refl in
    past_units n (put_at Keys.Initials t v n) (part Keys.Initials t v ∷ []) refl refl refl refl refl
    (inner (person_keyed n.person) (person_keyed m.person) (from_common n) (part Keys.Initials t v ∷ [])
    (no_common p n h (omega arith))
    (initials_more n.person v there (h.initials l) (h.generation (omega arith))
    ∙ ap (λ x. person_keyed n.person ++ x ∷ []) (as_keyed Keys.Initials t v i.kind)))
keyed_more Keys.Generation t v p n h f i =
    let m = put_at Keys.Generation t v n in
    let l : p.last < 9 = only_later p n Keys.Generation h f (λ e. omega arith) (λ e. omega arith) in
    let there = has_person p n Keys.Generation h f refl in
    past_units n (put_at Keys.Generation t v n) (part Keys.Generation t v ∷ []) refl refl refl refl refl
    (inner (person_keyed n.person) (person_keyed m.person) (from_common n) (part Keys.Generation t v ∷ [])
    (no_common p n h (omega arith))
    (generation_more n.person v there (h.generation l)
    ∙ ap (λ x. person_keyed n.person ++ x ∷ []) (as_keyed Keys.Generation t v i.kind)))
keyed_more Keys.Common t v p n h f i =
    let l : p.last < 10 = only_later p n Keys.Common h f (λ e. omega arith) (λ e. omega arith) in
    past_person n (put_at Keys.Common t v n) (part Keys.Common t v ∷ []) refl refl refl refl refl refl
    (put_keyed Keys.Common t v n.common (from_network n) (h.common l) (no_network p n h (omega arith)) i.kind)
keyed_more Keys.Network t v p n h f i =
    let l : p.last < 11 = only_later p n Keys.Network h f (λ e. omega arith) (λ e. omega arith) in
    past_common n (put_at Keys.Network t v n) (part Keys.Network t v ∷ []) refl refl refl refl refl refl refl
    (put_keyed Keys.Network t v n.network (from_terminal n) (h.network l) (no_terminal p n h (omega arith)) i.kind)
keyed_more Keys.Terminal t v p n h f i =
    let l : p.last < 12 = only_later p n Keys.Terminal h f (λ e. omega arith) (λ e. omega arith) in
    past_network n (put_at Keys.Terminal t v n) (part Keys.Terminal t v ∷ []) refl refl refl refl refl refl refl
    refl
    (put_keyed Keys.Terminal t v n.terminal (from_user n) (h.terminal l) (no_user p n h (omega arith)) i.kind)
keyed_more Keys.User t v p n h f i =
    let l : p.last < 13 = only_later p n Keys.User h f (λ e. omega arith) (λ e. omega arith) in
    past_terminal n (put_at Keys.User t v n) (part Keys.User t v ∷ []) refl refl refl refl refl refl refl refl
    refl
    (put_keyed Keys.User t v n.user (pairs_keyed n.pairs) (h.user l) (no_pairs p n h (omega arith)) i.kind)
keyed_more Keys.Pair t v p n h f i =
    past_user n (put_at Keys.Pair t v n) (part Keys.Pair t v ∷ []) refl refl refl refl refl refl refl refl refl
    refl
    (pairs_more n.pairs (pair_of t v))

-- ---- nothing stands behind the part that was put

given_kept : (o : Option PersonFields) (v : List ℕ) → IfSome o (λ q. q.initials ≡ None)
    → IfSome (with_given v o) (λ q. q.initials ≡ None)
given_kept None v h = tt
given_kept (Some q) v h = h

given_kept_too : (o : Option PersonFields) (v : List ℕ) → IfSome o (λ q. q.generation ≡ None)
    → IfSome (with_given v o) (λ q. q.generation ≡ None)
given_kept_too None v h = tt
given_kept_too (Some q) v h = h

initials_kept : (o : Option PersonFields) (v : List ℕ) → IfSome o (λ q. q.generation ≡ None)
    → IfSome (with_initials v o) (λ q. q.generation ≡ None)
initials_kept None v h = tt
initials_kept (Some q) v h = h

given_there : (o : Option PersonFields) (v : List ℕ) → is_some o ≡ true → is_some (with_given v o) ≡ true
given_there None v h = h
given_there (Some q) v h = refl

initials_there : (o : Option PersonFields) (v : List ℕ) → is_some o ≡ true → is_some (with_initials v o) ≡ true
initials_there None v h = h
initials_there (Some q) v h = refl

generation_there : (o : Option PersonFields) (v : List ℕ) → is_some o ≡ true → is_some (with_generation v o) ≡ true
generation_there None v h = h
generation_there (Some q) v h = refl

or_false : (b : Bool) → (b || false) ≡ true → b ≡ true
or_false true e = refl
or_false false e = e

none_left : (p : Place) (k : Key) → p.last < place_of k → repeats k ≡ 0 → (behind p k).left ≡ 0
none_left p k l r = let other : eqb p.last (place_of k) ≡ false = ne_eqb p.last (place_of k) (λ e. omega arith) in
    rw other r

-- what nothing stands behind, part by part
fresh : {p : Place} {n : Attributes} → (p.last < 1 → n.country ≡ None)
    → (p.last < 2 → n.admd ≡ None) → (p.last < 3 → n.prmd ≡ None)
    → (p.last < 4 → n.organization ≡ None) → (p.last < 5 → n.units ≡ [])
    → (p.last < 6 → n.person ≡ None) → (p.last < 7 → IfSome n.person (λ q. q.given ≡ None))
    → (p.last < 8 → IfSome n.person (λ q. q.initials ≡ None))
    → (p.last < 9 → IfSome n.person (λ q. q.generation ≡ None)) → (p.last < 10 → n.common ≡ None)
    → (p.last < 11 → n.network ≡ None) → (p.last < 12 → n.terminal ≡ None)
    → (p.last < 13 → n.user ≡ None) → (p.last < 14 → n.pairs ≡ [])
    → (p.surname ≡ true → is_some n.person ≡ true)
    → ((p.last ≡ 5 → ⊥) → (p.last ≡ 14 → ⊥) → p.left ≡ 0) → Fresh p n
fresh country admd prmd organization units person given initials generation common network terminal user pairs surname
    left = record {
      country = country;
      admd = admd;
      prmd = prmd;
      organization = organization;
      units = units;
      person = person;
      given = given;
      initials = initials;
      generation = generation;
      common = common;
      network = network;
      terminal = terminal;
      user = user;
      pairs = pairs;
      surname = surname;
      left = left;
    }

-- it stays so for a place behind
weaker : (p : Place) (c : ℕ) (n : Attributes) → Fresh p n → p.last ≤ c
    → Fresh (record { last = c; left = 0; surname = p.surname }) n
weaker p c n h b =
    fresh (λ g. h.country (omega arith)) (λ g. h.admd (omega arith)) (λ g. h.prmd (omega arith))
    (λ g. h.organization (omega arith)) (λ g. h.units (omega arith)) (λ g. h.person (omega arith))
    (λ g. h.given (omega arith)) (λ g. h.initials (omega arith)) (λ g. h.generation (omega arith))
    (λ g. h.common (omega arith)) (λ g. h.network (omega arith)) (λ g. h.terminal (omega arith))
    (λ g. h.user (omega arith)) (λ g. h.pairs (omega arith)) h.surname (λ u r. refl)

fresh_more : (k : Key) (t v : List ℕ) (p : Place) (n : Attributes) → Fresh p n → follows Names p k ≡ true
    → Fresh (behind p k) (put_at k t v n)
fresh_more Keys.Country t v p n h f =
    let w = weaker p 1 n h (not_before p Keys.Country f) in
    let l : p.last < 1 = only_later p n Keys.Country h f (λ e. omega arith) (λ e. omega arith) in
    fresh (λ g. absurd (omega arith)) w.admd w.prmd w.organization w.units w.person w.given w.initials w.generation
    w.common w.network w.terminal w.user w.pairs (λ e. h.surname (or_false p.surname e))
    (λ u r. none_left p Keys.Country l refl)
fresh_more Keys.Admd t v p n h f =
    let w = weaker p 2 n h (not_before p Keys.Admd f) in
    let l : p.last < 2 = only_later p n Keys.Admd h f (λ e. omega arith) (λ e. omega arith) in
    fresh w.country (λ g. absurd (omega arith)) w.prmd w.organization w.units w.person w.given w.initials
    w.generation w.common w.network w.terminal w.user w.pairs (λ e. h.surname (or_false p.surname e))
    (λ u r. none_left p Keys.Admd l refl)
fresh_more Keys.Prmd t v p n h f =
    let w = weaker p 3 n h (not_before p Keys.Prmd f) in
    let l : p.last < 3 = only_later p n Keys.Prmd h f (λ e. omega arith) (λ e. omega arith) in
    fresh w.country w.admd (λ g. absurd (omega arith)) w.organization w.units w.person w.given w.initials
    w.generation w.common w.network w.terminal w.user w.pairs (λ e. h.surname (or_false p.surname e))
    (λ u r. none_left p Keys.Prmd l refl)
fresh_more Keys.Organization t v p n h f =
    let w = weaker p 4 n h (not_before p Keys.Organization f) in
    let l : p.last < 4 = only_later p n Keys.Organization h f (λ e. omega arith) (λ e. omega arith) in
    fresh w.country w.admd w.prmd (λ g. absurd (omega arith)) w.units w.person w.given w.initials w.generation
    w.common w.network w.terminal w.user w.pairs (λ e. h.surname (or_false p.surname e))
    (λ u r. none_left p Keys.Organization l refl)
fresh_more Keys.Unit t v p n h f =
    let w = weaker p 5 n h (not_before p Keys.Unit f) in
    fresh w.country w.admd w.prmd w.organization (λ g. absurd (omega arith)) w.person w.given w.initials
    w.generation w.common w.network w.terminal w.user w.pairs (λ e. h.surname (or_false p.surname e))
    (λ u r. absurd (u refl))
fresh_more Keys.Surname t v p n h f =
    let w = weaker p 6 n h (not_before p Keys.Surname f) in
    let l : p.last < 6 = only_later p n Keys.Surname h f (λ e. omega arith) (λ e. omega arith) in
    fresh w.country w.admd w.prmd w.organization w.units (λ g. absurd (omega arith)) (λ g. refl) (λ g. refl)
    (λ g. refl) w.common w.network w.terminal w.user w.pairs (λ e. refl) (λ u r. none_left p Keys.Surname l refl)
fresh_more Keys.Given t v p n h f =
    let w = weaker p 7 n h (not_before p Keys.Given f) in
    let l : p.last < 7 = only_later p n Keys.Given h f (λ e. omega arith) (λ e. omega arith) in
    fresh w.country w.admd w.prmd w.organization w.units (λ g. absurd (omega arith)) (λ g. absurd (omega arith))
    (λ g. given_kept n.person v (w.initials g)) (λ g. given_kept_too n.person v (w.generation g)) w.common
    w.network w.terminal w.user w.pairs (λ e. given_there n.person v (h.surname (or_false p.surname e)))
    (λ u r. none_left p Keys.Given l refl)
fresh_more Keys.Initials t v p n h f =
    let w = weaker p 8 n h (not_before p Keys.Initials f) in
    let l : p.last < 8 = only_later p n Keys.Initials h f (λ e. omega arith) (λ e. omega arith) in
    fresh w.country w.admd w.prmd w.organization w.units (λ g. absurd (omega arith)) (λ g. absurd (omega arith))
    (λ g. absurd (omega arith)) (λ g. initials_kept n.person v (w.generation g)) w.common w.network w.terminal
    w.user w.pairs (λ e. initials_there n.person v (h.surname (or_false p.surname e)))
    (λ u r. none_left p Keys.Initials l refl)
fresh_more Keys.Generation t v p n h f =
    let w = weaker p 9 n h (not_before p Keys.Generation f) in
    let l : p.last < 9 = only_later p n Keys.Generation h f (λ e. omega arith) (λ e. omega arith) in
    fresh w.country w.admd w.prmd w.organization w.units (λ g. absurd (omega arith)) (λ g. absurd (omega arith))
    (λ g. absurd (omega arith)) (λ g. absurd (omega arith)) w.common w.network w.terminal w.user w.pairs
    (λ e. generation_there n.person v (h.surname (or_false p.surname e)))
    (λ u r. none_left p Keys.Generation l refl)
fresh_more Keys.Common t v p n h f =
    let w = weaker p 10 n h (not_before p Keys.Common f) in
    let l : p.last < 10 = only_later p n Keys.Common h f (λ e. omega arith) (λ e. omega arith) in
    fresh w.country w.admd w.prmd w.organization w.units w.person w.given w.initials w.generation
    (λ g. absurd (omega arith)) w.network w.terminal w.user w.pairs (λ e. h.surname (or_false p.surname e))
    (λ u r. none_left p Keys.Common l refl)
fresh_more Keys.Network t v p n h f =
    let w = weaker p 11 n h (not_before p Keys.Network f) in
    let l : p.last < 11 = only_later p n Keys.Network h f (λ e. omega arith) (λ e. omega arith) in
    fresh w.country w.admd w.prmd w.organization w.units w.person w.given w.initials w.generation w.common
    (λ g. absurd (omega arith)) w.terminal w.user w.pairs (λ e. h.surname (or_false p.surname e))
    (λ u r. none_left p Keys.Network l refl)
fresh_more Keys.Terminal t v p n h f =
    let w = weaker p 12 n h (not_before p Keys.Terminal f) in
    let l : p.last < 12 = only_later p n Keys.Terminal h f (λ e. omega arith) (λ e. omega arith) in
    fresh w.country w.admd w.prmd w.organization w.units w.person w.given w.initials w.generation w.common w.network
    (λ g. absurd (omega arith)) w.user w.pairs (λ e. h.surname (or_false p.surname e))
    (λ u r. none_left p Keys.Terminal l refl)
fresh_more Keys.User t v p n h f =
    let w = weaker p 13 n h (not_before p Keys.User f) in
    let l : p.last < 13 = only_later p n Keys.User h f (λ e. omega arith) (λ e. omega arith) in
    fresh w.country w.admd w.prmd w.organization w.units w.person w.given w.initials w.generation w.common w.network
    w.terminal (λ g. absurd (omega arith)) w.pairs (λ e. h.surname (or_false p.surname e))
    (λ u r. none_left p Keys.User l refl)
fresh_more Keys.Pair t v p n h f =
    let w = weaker p 14 n h (not_before p Keys.Pair f) in
    fresh w.country w.admd w.prmd w.organization w.units w.person w.given w.initials w.generation w.common w.network
    w.terminal w.user (λ g. absurd (omega arith)) (λ e. h.surname (or_false p.surname e))
    (λ u r. absurd (r refl))

-- ---- all parts

nothing_fresh : Fresh start nothing
nothing_fresh = record {
  country = λ g. refl;
  admd = λ g. refl;
  prmd = λ g. refl;
  organization = λ g. refl;
  units = λ g. refl;
  person = λ g. refl;
  given = λ g. tt;
  initials = λ g. tt;
  generation = λ g. tt;
  common = λ g. refl;
  network = λ g. refl;
  terminal = λ g. refl;
  user = λ g. refl;
  pairs = λ g. refl;
  surname = λ e. e;
  left = λ u r. refl;
}

parts_written : (xs : List Part) (p q : Place) (n : Attributes) → Fresh p n → Follow Names p xs q
    → keyed_of (put_all n xs) ≡ keyed_of n ++ xs
parts_written [] p q n h f = sym (append-nil (keyed_of n))
parts_written (x ∷ xs) p q n h f =
    parts_written xs (behind p x.key) q (put n x) (fresh_more x.key x.kind x.value p n h f.0) f.2
    ∙ ap (λ z. z ++ xs) (keyed_more x.key x.kind x.value p n h f.0 f.1)
    ∙ append_assoc (keyed_of n) (x ∷ []) xs

-- its parts are those that were read
pub name_parts : (text : List ℕ) (n : Attributes) (h : IsTextForm text n) → keyed_of n ≡ h.parts
name_parts text n h = ap keyed_of h.name_is
    ∙ parts_written h.parts start h.form.last nothing nothing_fresh h.form.follow

pub form_written : (text : List ℕ) (n : Attributes) → IsTextForm text n → text ≡ text_form n
unfolding text_form
form_written text n h = h.form.text_is ∙ ap (λ ps. joined (map part_text ps)) (sym (name_parts text n h))
