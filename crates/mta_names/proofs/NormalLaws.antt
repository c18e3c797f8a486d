-- Normal texts, and the test whether two names are the same.
use Rattle.std.proofs.Common.{◌≡◌, ◌≤◌, ◌-◌, get_or, take, drop, arith, ℕ, Bool, true, false, eqb, List, [], ◌∷◌}
use Rattle.std.proofs.Common.{length, refl, sym, ap, ◌∙◌, inl, inr, Option, Some, None, ◌&&◌, ◌↔◌}
use Rattle.std.specs.Prelude.{map}
use Rattle.std.specs.Option.{option_map}
use Rattle.std.proofs.lemmas.Bool.{cases_Bool, and_parts, and_from, eq-eqb}
use Rattle.std.proofs.lemmas.List.{take_rest}
use Rattle.std.proofs.lemmas.Slice.Eq.{bytes_eq-Decides}
use Rattle.mta_names.specs.declared.attributes.Attributes.{Attributes}
use Rattle.mta_names.specs.Normal.{unspaced, squeezed, normal_text, normal_label, NormalPerson, NormalPair, NormalList}
use Rattle.mta_names.specs.Normal.{normal_person, normal_pair, normal_list, is_same_text, is_same_option, is_same_list}
use Rattle.mta_names.specs.Normal.{is_same_value, is_same_labels, is_same_label, is_same_person, is_same_persons}
use Rattle.mta_names.specs.Normal.{is_same_texts, is_same_pair, is_same_pairs, is_same_name, IsSameName}

-- a space that waits, before a text without spaces at its beginning
abbrev pub spaced : List ℕ → List ℕ
spaced [] = []
spaced (c ∷ cs) = 32 ∷ squeezed false (c ∷ cs)

waiting : (text : List ℕ) → squeezed true text ≡ spaced (unspaced text)
waiting [] = refl
waiting (c ∷ cs) =
    elim (cases_Bool (eqb c 32)) [
      | inl space ↦ rw space (waiting cs)
      | inr other ↦ rw other (rw other refl)
    ]

pub spaced_none : (t : List ℕ) → length t ≡ 0 → spaced t ≡ []
spaced_none [] e = refl
spaced_none (c ∷ cs) e = absurd cc

pub spaced_some : (t : List ℕ) → (length t ≡ 0 → ⊥) → spaced t ≡ 32 ∷ squeezed false t
spaced_some [] h = absurd (h refl)
spaced_some (c ∷ cs) h = refl

-- a text whose first character is a space, and what stands behind the spaces
pub spaces_first : (text behind : List ℕ) → 1 ≤ length text → get_or text 0 0 ≡ 32
    → behind ≡ unspaced (take (length text - 1) (drop 1 text)) → squeezed false text ≡ spaced behind
spaces_first [] behind l e t = absurd (omega arith)
spaces_first (x ∷ xs) behind l e t =
    (let s : eqb x 32 ≡ true = eq-eqb x 32 e in
    rw s (waiting xs ∙ ap spaced (sym (t ∙ ap unspaced (take_rest (x ∷ xs) 1)))))

-- ---- tests that decide whether normal forms are equal

abbrev pub Decides : {X Y : Type 0} → (X → X → Bool) → (X → Y) → Type 0
Decides {X} same normal = (x y : X) → (same x y ≡ true) ↔ (normal x ≡ normal y)

pub text_decides : Decides is_same_text normal_text
text_decides s t = bytes_eq-Decides (normal_text s) (normal_text t)

abbrev some : {Y : Type 0} → Y → Option Y
some y = Some y

some_is : {Y : Type 0} (x y : Y) → some x ≡ some y → x ≡ y
some_is x y e = cc

none_some : {Y : Type 0} (y : Y) → None ≡ some y → ⊥
none_some y e = cc

some_none : {Y : Type 0} (y : Y) → some y ≡ None → ⊥
some_none y e = cc

pub option_decides : {X Y : Type 0} (same : X → X → Bool) (normal : X → Y) → Decides same normal
    → Decides (is_same_option same) (option_map normal)
option_decides same normal d None None = (λ e. refl, λ e. refl)
option_decides same normal d None (Some y) = (λ e. absurd cc, λ e. absurd (none_some (normal y) e))
option_decides same normal d (Some x) None = (λ e. absurd cc, λ e. absurd (some_none (normal x) e))
option_decides same normal d (Some x) (Some y) =
    (λ e. ap some ((d x y).0 e), λ e. (d x y).1 (some_is (normal x) (normal y) e))

cons_is : {Y : Type 0} (x y : Y) (xs ys : List Y) → x ∷ xs ≡ y ∷ ys → (x ≡ y) × (xs ≡ ys)
cons_is x y xs ys e = ((cc), (cc))

is_cons : {Y : Type 0} (x y : Y) (xs ys : List Y) → x ≡ y → xs ≡ ys → x ∷ xs ≡ y ∷ ys
is_cons x y xs ys e f = cc

nil_cons : {Y : Type 0} (y : Y) (ys : List Y) → [] ≡ y ∷ ys → ⊥
nil_cons y ys e = cc

pub list_decides : {X Y : Type 0} (same : X → X → Bool) (normal : X → Y) → Decides same normal
    → Decides (is_same_list same) (map normal)
list_decides same normal d [] [] = (λ e. refl, λ e. refl)
list_decides same normal d [] (y ∷ ys) = (λ e. absurd cc, λ e. absurd (nil_cons (normal y) (map normal ys) e))
list_decides same normal d (x ∷ xs) [] = (λ e. absurd cc, λ e. absurd (nil_cons (normal x) (map normal xs) (sym e)))
list_decides same normal d (x ∷ xs) (y ∷ ys) =
    let r = list_decides same normal d xs ys in (
      λ e. let a = and_parts (same x y) (is_same_list same xs ys) e in
          is_cons (normal x) (normal y) (map normal xs) (map normal ys) ((d x y).0 a.0) (r.0 a.1),
      λ e. let c = cons_is (normal x) (normal y) (map normal xs) (map normal ys) e in
          and_from (same x y) (is_same_list same xs ys) ((d x y).1 c.0) (r.1 c.1),
    )

label_decides : Decides is_same_labels normal_label
label_decides l m = text_decides l.text m.text

value_decides : Decides is_same_value (option_map normal_text)
value_decides = option_decides is_same_text normal_text text_decides

abbrev made_person : List ℕ → Option (List ℕ) → Option (List ℕ) → Option (List ℕ) → NormalPerson
made_person a b c d = record { surname = a; given = b; initials = c; generation = d }

person_of : (a b : List ℕ) (c d e f g h : Option (List ℕ)) → a ≡ b → c ≡ d → e ≡ f → g ≡ h
    → made_person a c e g ≡ made_person b d f h
person_of a b c d e f g h p q r s = cc

person_is : (p q : NormalPerson) → p.surname ≡ q.surname → p.given ≡ q.given → p.initials ≡ q.initials
    → p.generation ≡ q.generation → p ≡ q
person_is p q a b c d = person_of p.surname q.surname p.given q.given p.initials q.initials p.generation q.generation a
    b c d

person_decides : Decides is_same_person normal_person
person_decides p q =
    let a = text_decides p.surname q.surname in
    let b = value_decides p.given q.given in
    let c = value_decides p.initials q.initials in
    let d = value_decides p.generation q.generation in (
      λ e.
          let z = and_parts (is_same_text p.surname q.surname && is_same_value p.given q.given && is_same_value
          p.initials q.initials) (is_same_value p.generation q.generation) e in
          let y = and_parts (is_same_text p.surname q.surname && is_same_value p.given q.given)
          (is_same_value p.initials q.initials) z.0 in
          let x = and_parts (is_same_text p.surname q.surname) (is_same_value p.given q.given) y.0 in
          person_is (normal_person p) (normal_person q) (a.0 x.0) (b.0 x.1) (c.0 y.1) (d.0 z.1),
      λ e. and_from _ _ (and_from _ _
          (and_from _ _ (a.1 (ap (λ (n : NormalPerson). n.surname) e)) (b.1 (ap (λ (n : NormalPerson). n.given) e)))
          (c.1 (ap (λ (n : NormalPerson). n.initials) e))) (d.1 (ap (λ (n : NormalPerson). n.generation) e)),
    )

abbrev made_pair : List ℕ → List ℕ → NormalPair
made_pair a b = record { kind = a; value = b }

pair_of : (a b c d : List ℕ) → a ≡ b → c ≡ d → made_pair a c ≡ made_pair b d
pair_of a b c d p q = cc

pair_is : (p q : NormalPair) → p.kind ≡ q.kind → p.value ≡ q.value → p ≡ q
pair_is p q a b = pair_of p.kind q.kind p.value q.value a b

pair_decides : Decides is_same_pair normal_pair
pair_decides p q =
    let a = text_decides p.kind q.kind in
    let b = text_decides p.value q.value in (
      λ e. let x = and_parts (is_same_text p.kind q.kind) (is_same_text p.value q.value) e in
          pair_is (normal_pair p) (normal_pair q) (a.0 x.0) (b.0 x.1),
      λ e. and_from _ _ (a.1 (ap (λ (n : NormalPair). n.kind) e)) (b.1 (ap (λ (n : NormalPair). n.value) e)),
    )

-- one field after another is the other list's
list_is : (m n : NormalList) → m.country ≡ n.country → m.admd ≡ n.admd → m.prmd ≡ n.prmd
    → m.organization ≡ n.organization → m.units ≡ n.units → m.person ≡ n.person → m.common ≡ n.common
    → m.network ≡ n.network → m.terminal ≡ n.terminal → m.user ≡ n.user → m.pairs ≡ n.pairs → m ≡ n
list_is m n a b c d e f g h i j k =
    ap (λ x. record m { country = x }) a ∙ ap (λ x. record m { country = n.country; admd = x }) b
    ∙ ap (λ x. record m { country = n.country; admd = n.admd; prmd = x }) c
    ∙ ap (λ x. record m { country = n.country; admd = n.admd; prmd = n.prmd; organization = x }) d
    ∙ ap (λ x. record m {
      country = n.country;
      admd = n.admd;
      prmd = n.prmd;
      organization = n.organization;
      units =
          x;
    }) e
    ∙ ap (λ x. record n {
      person = x;
      common = m.common;
      network = m.network;
      terminal = m.terminal;
      user = m.user;
      pairs = m.pairs;
    }) f
    ∙ ap (λ x. record n { common = x; network = m.network; terminal = m.terminal; user = m.user; pairs = m.pairs }) g
    ∙ ap (λ x. record n { network = x; terminal = m.terminal; user = m.user; pairs = m.pairs }) h
    ∙ ap (λ x. record n { terminal = x; user = m.user; pairs = m.pairs }) i
    ∙ ap (λ x. record n { user = x; pairs = m.pairs }) j ∙ ap (λ x. record n { pairs = x }) k

pub name_decides : (m n : Attributes) → (is_same_name m n ≡ true) ↔ IsSameName m n
unfolding is_same_name
name_decides m n =
    let a = option_decides is_same_labels normal_label label_decides m.country n.country in
    let b = option_decides is_same_labels normal_label label_decides m.admd n.admd in
    let c = option_decides is_same_labels normal_label label_decides m.prmd n.prmd in
    let d = value_decides m.organization n.organization in
    let e = list_decides is_same_text normal_text text_decides m.units n.units in
    let f = option_decides is_same_person normal_person person_decides m.person n.person in
    let g = value_decides m.common n.common in
    let h = value_decides m.network n.network in
    let i = value_decides m.terminal n.terminal in
    let j = value_decides m.user n.user in
    let k = list_decides is_same_pair normal_pair pair_decides m.pairs n.pairs in (
      λ t.
          let tk = and_parts _ (is_same_pairs m.pairs n.pairs) t in
          let tj = and_parts _ (is_same_value m.user n.user) tk.0 in
          let ti = and_parts _ (is_same_value m.terminal n.terminal) tj.0 in
          let th = and_parts _ (is_same_value m.network n.network) ti.0 in
          let tg = and_parts _ (is_same_value m.common n.common) th.0 in
          let tf = and_parts _ (is_same_persons m.person n.person) tg.0 in
          let te = and_parts _ (is_same_texts m.units n.units) tf.0 in
          let td = and_parts _ (is_same_value m.organization n.organization) te.0 in
          let tc = and_parts _ (is_same_label m.prmd n.prmd) td.0 in
          let tb = and_parts (is_same_label m.country n.country) (is_same_label m.admd n.admd) tc.0 in
          list_is (normal_list m) (normal_list n) (a.0 tb.0) (b.0 tb.1) (c.0 tc.1) (d.0 td.1) (e.0 te.1) (f.0 tf.1)
          (g.0 tg.1) (h.0 th.1) (i.0 ti.1) (j.0 tj.1) (k.0 tk.1),
      λ t.
          and_from _ _ (and_from _ _ (and_from _ _
          (and_from _ _ (and_from _ _ (and_from _ _
          (and_from _ _ (and_from _ _ (and_from _ _
          (and_from _ _ (a.1 (ap (λ (l : NormalList). l.country) t)) (b.1 (ap (λ (l : NormalList). l.admd) t)))
          (c.1 (ap (λ (l : NormalList). l.prmd) t)))
          (d.1 (ap (λ (l : NormalList). l.organization) t))) (e.1 (ap (λ (l : NormalList). l.units) t)))
          (f.1 (ap (λ (l : NormalList). l.person) t))) (g.1 (ap (λ (l : NormalList). l.common) t)))
          (h.1 (ap (λ (l : NormalList). l.network) t))) (i.1 (ap (λ (l : NormalList). l.terminal) t)))
          (j.1 (ap (λ (l : NormalList). l.user) t))) (k.1 (ap (λ (l : NormalList). l.pairs) t)),
    )

pub same_decides : (m n : Attributes) (r : Bool) → r ≡ is_same_name m n → (r ≡ true) ↔ IsSameName m n
same_decides m n r e = (λ h. (name_decides m n).0 (sym e ∙ h), λ h. e ∙ (name_decides m n).1 h)
