-- A name of which the text form says all is read from it: its attributes are parts that follow one another, and make it
-- again.
use Rattle.std.proofs.Common.{◌≡◌, ℕ, ◌+◌, ◌-◌, ◌≤◌, ◌<◌, Bool, true, false, eqb, ltb, List, [], ◌∷◌, ◌++◌, length}
use Rattle.std.proofs.Common.{Option, Some, None, Ok, refl, sym, ap, subst, ◌∙◌, arith, ◌||◌, not, append_assoc}
use Rattle.std.proofs.Common.{append-nil}
use Rattle.std.specs.Prelude.{IfSome, IsTrue}
use Rattle.std.specs.List.{list_all}
use Rattle.std.specs.Option.{option_map}
use Rattle.std.proofs.lemmas.Bool.{and_from, or_left, or_right, eq-eqb, ne_eqb, le-leb, lt-ltb}
use Rattle.mta_ber.specs.Strings.{IsText}
use Rattle.mta_ber.specs.declared.text.TextClass.{TextClass}
use Rattle.mta_ber.specs.declared.text.TextClass.TheVariants.{Numeric, Printable}
use Rattle.mta_names.specs.declared.attributes.Attributes.{Attributes}
use Rattle.mta_names.specs.declared.attributes.Label.{Label}
use Rattle.mta_names.specs.declared.attributes.PairFields.{PairFields}
use Rattle.mta_names.specs.declared.attributes.PersonFields.{PersonFields}
use Rattle.mta_names.specs.Values.{Each, country_character, country_size, IsCountry, IsLabel, IsPerson, IsPair, nothing}
use Rattle.mta_name_text.specs.declared.key.Key.{Key}
use Rattle.mta_name_text.specs.declared.key.Key.TheVariants as Keys
use Rattle.mta_name_text.specs.declared.part.Part.{Part}
use Rattle.mta_name_text.specs.declared.place.Grammar.TheVariants.{Names}
use Rattle.mta_name_text.specs.declared.place.Place.{Place}
use Rattle.mta_name_text.specs.declared.shape.Shape.TheVariants as Shapes
use Rattle.mta_name_text.specs.Forms.{keyed, keyed_if, label_text, labelled_if, units_keyed, person_keyed, pairs_keyed}
use Rattle.mta_name_text.specs.Forms.{keyed_of, text_form}
use Rattle.mta_name_text.specs.Grammar.{start, behind, is_again, follows, is_kind, IsPart, Follow}
use Rattle.mta_name_text.specs.Keys.{place_of, repeats, has_kind, needs_surname, shape_of}
use Rattle.mta_name_text.specs.Made.{country_label, printable_label, put, put_all, name_of, IsTextForm, name_of_text}
use Rattle.mta_name_text.specs.Made.{IsTold}
use Rattle.mta_name_text.specs.Shapes.{is_no_equals, is_value}
use Rattle.mta_name_text.proofs.MadeLaws.{name_read}

-- ---- values

told_text : (class : TextClass) (low high : ℕ) (v : List ℕ) → IsText class low high v
    → is_value (Shapes.Text class low high) v ≡ true
unfolding is_value
told_text class low high v h = and_from _ _ (and_from _ _ h.characters (le-leb low (length v) h.at_least))
    (le-leb (length v) high h.at_most)

told_kind : (t : List ℕ) → IsText Printable 1 8 t → IsTrue (list_all is_no_equals t) → is_value Shapes.Kind t ≡ true
unfolding is_value
told_kind t h e = and_from _ _ (and_from _ _ (and_from _ _ e h.characters) (le-leb 1 (length t) h.at_least))
    (le-leb (length t) 8 h.at_most)

told_country_of : (b : Bool) (v : List ℕ) → list_all (country_character b) v ≡ true → length v ≡ country_size b
    → is_value Shapes.Country v ≡ true
unfolding is_value
told_country_of true v c s = or_right _ _ (and_from _ _ c (eq-eqb (length v) 3 s))
told_country_of false v c s = or_left _ _ (and_from _ _ c (eq-eqb (length v) 2 s))

told_country : (l : Label) → IsCountry l → is_value Shapes.Country l.text ≡ true
told_country l h = told_country_of l.numeric l.text h.characters h.size

-- ---- parts that follow a place, and lead to one that is not behind another

record Leads (p : Place) (xs : List Part) (most : ℕ) : Type 0 where
  to : Place
  follow : Follow Names p xs to
  below : to.last ≤ most
  surname : p.surname ≡ true → to.surname ≡ true

follow_both : (xs ys : List Part) (p q r : Place) → Follow Names p xs q → Follow Names q ys r
    → Follow Names p (xs ++ ys) r
follow_both [] ys p q r h i = subst (λ s. Follow Names s ys r) (sym h) i
follow_both (x ∷ xs) ys p q r h i = (h.0, h.1, follow_both xs ys (behind p x.key) q r h.2 i)

then_more : (p : Place) (xs ys : List Part) (m n : ℕ) → Leads p xs m
    → ((q : Place) → q.last ≤ m → (p.surname ≡ true → q.surname ≡ true) → Leads q ys n) → Leads p (xs ++ ys) n
then_more p xs ys m n h more =
    let i = more h.to h.below h.surname in
    record {
      to = i.to;
      follow = follow_both xs ys p h.to i.to h.follow i.follow;
      below = i.below;
      surname =
          λ e. i.surname (h.surname e);
    }

nothing_more : (p : Place) (m : ℕ) → p.last ≤ m → Leads p [] m
nothing_more p m l = record { to = p; follow = refl; below = l; surname = λ e. e }

next_open : (p : Place) (k : Key) → p.last < place_of k → (p.surname || not (needs_surname k)) ≡ true
    → follows Names p k ≡ true
next_open p k l s = and_from _ _ (or_left (ltb p.last (place_of k)) (is_again p k) (lt-ltb p.last (place_of k) l)) s

one_part : (p : Place) (x : Part) → follows Names p x.key ≡ true → IsPart x → Leads p (x ∷ []) (place_of x.key)
one_part p x f i = record {
  to = behind p x.key;
  follow = (f, i, refl);
  below = omega arith;
  surname =
      λ e. or_left _ _ e;
}

plain_part : (k : Key) (v : List ℕ) → has_kind k ≡ false → is_value (shape_of k) v ≡ true → IsPart (keyed k v)
plain_part k v e h = record { kind = ap (λ b. is_kind b []) e; value = h }

one_if : (p : Place) (k : Key) (o : Option (List ℕ)) → p.last < place_of k → (p.surname || not (needs_surname k)) ≡ true
    → has_kind k ≡ false → IfSome o (λ v. is_value (shape_of k) v ≡ true) → Leads p (keyed_if k o) (place_of k)
one_if p k None l s e h = nothing_more p (place_of k) (omega arith)
one_if p k (Some v) l s e h = one_part p (keyed k v) (next_open p k l s) (plain_part k v e h)

-- ---- parts with the same key

abbrev OfKey : Key → Part → Type 0
OfKey k x = (x.key ≡ k) × IsPart x

cons_leads : (p : Place) (x : Part) (xs : List Part) (m : ℕ) → follows Names p x.key ≡ true → IsPart x
    → Leads (behind p x.key) xs m → Leads p (x ∷ xs) m
cons_leads p x xs m f i h = record {
  to = h.to;
  follow = (f, i, h.follow);
  below = h.below;
  surname =
      λ e. h.surname (or_left _ _ e);
}

again_open : (p : Place) (k : Key) → p.last ≡ place_of k → 0 < p.left → needs_surname k ≡ false
    → follows Names p k ≡ true
again_open p k e l s =
    and_from _ _ (or_right (ltb p.last (place_of k)) (is_again p k)
    (and_from _ _ (eq-eqb p.last (place_of k) e) (lt-ltb 0 p.left l))) (or_right p.surname _ (ap not s))

left_again : (p : Place) (k : Key) → p.last ≡ place_of k → (behind p k).left ≡ p.left - 1
left_again p k e = let same : eqb p.last (place_of k) ≡ true = eq-eqb p.last (place_of k) e in rw same refl

left_first : (p : Place) (k : Key) → p.last < place_of k → (behind p k).left ≡ repeats k
left_first p k l = let other : eqb p.last (place_of k) ≡ false = ne_eqb p.last (place_of k) (λ e. omega arith) in
    rw other refl

rest_of_key : (k : Key) (xs : List Part) (p : Place) → needs_surname k ≡ false → Each (OfKey k) xs → p.last ≡ place_of k
    → length xs ≤ p.left → Leads p xs (place_of k)
rest_of_key k [] p s h e l = nothing_more p (place_of k) (omega arith)
rest_of_key k (x ∷ xs) p s h e l =
    let same = h.0.0 in
    let at_key : p.last ≡ place_of x.key = e ∙ ap place_of (sym same) in
    let f : follows Names p x.key ≡ true =
    subst (λ j. follows Names p j ≡ true) (sym same) (again_open p k e (omega arith) s) in
    let left = left_again p x.key at_key in
    cons_leads p x xs (place_of k) f h.0.1 (rest_of_key k xs (behind p x.key) s h.1 (ap place_of same) (omega arith))

all_of_key : (k : Key) (xs : List Part) (p : Place) → needs_surname k ≡ false → Each (OfKey k) xs → p.last < place_of k
    → length xs ≤ repeats k + 1 → Leads p xs (place_of k)
all_of_key k [] p s h e l = nothing_more p (place_of k) (omega arith)
all_of_key k (x ∷ xs) p s h e l =
    let same = h.0.0 in
    let before_key : p.last < place_of x.key = subst (λ j. p.last < place_of j) (sym same) e in
    let f : follows Names p x.key ≡ true =
    subst (λ j. follows Names p j ≡ true) (sym same) (next_open p k e (or_right p.surname _ (ap not s))) in
    let left : (behind p x.key).left ≡ repeats k = left_first p x.key before_key ∙ ap repeats same in
    cons_leads p x xs (place_of k) f h.0.1 (rest_of_key k xs (behind p x.key) s h.1 (ap place_of same) (omega arith))

-- ---- the attributes of a name

label_told : (k : Key) (fits : Label → Type 0) (o : Option Label) → IfSome o fits
    → ((l : Label) → fits l → is_value (shape_of k) l.text ≡ true)
    → IfSome (option_map label_text o) (λ v. is_value (shape_of k) v ≡ true)
label_told k fits None h f = tt
label_told k fits (Some l) h f = f l h

text_told : (class : TextClass) (low high : ℕ) (o : Option (List ℕ)) → IfSome o (IsText class low high)
    → IfSome o (λ v. is_value (Shapes.Text class low high) v ≡ true)
text_told class low high None h = tt
text_told class low high (Some v) h = told_text class low high v h

-- a label that is not numeric
printable : (low high : ℕ) (l : Label) → (IsLabel low high l × (l.numeric ≡ false))
    → is_value (Shapes.Text Printable low high) l.text ≡ true
printable low high l h = by_case l.numeric h.1 h.0
  where
    by_case : (b : Bool) → b ≡ false → IsLabel low high (record { numeric = b; text = l.text })
        → is_value (Shapes.Text Printable low high) l.text ≡ true
    by_case true e t = absurd cc
    by_case false e t = told_text Printable low high l.text t

both : (low high : ℕ) (o : Option Label) → IfSome o (IsLabel low high) → IfSome o (λ l. l.numeric ≡ false)
    → IfSome o (λ l. IsLabel low high l × (l.numeric ≡ false))
both low high None h e = tt
both low high (Some l) h e = (h, e)

units_told : (us : List (List ℕ)) → Each (IsText Printable 1 32) us → Each (OfKey Keys.Unit) (units_keyed us)
units_told [] h = tt
units_told (u ∷ us) h = ((refl, plain_part Keys.Unit u refl (told_text Printable 1 32 u h.0)), units_told us h.1)

pairs_told : (ps : List PairFields) → Each IsPair ps
    → Each (λ (p : PairFields). IsTrue (list_all is_no_equals p.kind)) ps → Each (OfKey Keys.Pair) (pairs_keyed ps)
pairs_told [] h e = tt
pairs_told (p ∷ ps) h e = (
  (
    refl,
    record { kind = told_kind p.kind h.0.kind e.0; value = told_text Printable 1 128 p.value h.0.value },
  ),
  pairs_told ps h.1 e.1,
)

units_length : (us : List (List ℕ)) → length (units_keyed us) ≡ length us
units_length [] = refl
units_length (u ∷ us) = omega (arith, units_length us)

pairs_length : (ps : List PairFields) → length (pairs_keyed ps) ≡ length ps
pairs_length [] = refl
pairs_length (p ∷ ps) = omega (arith, pairs_length ps)

person_leads : (p : Place) (o : Option PersonFields) → p.last < 6 → IfSome o IsPerson → Leads p (person_keyed o) 9
person_leads p None l h = nothing_more p 9 (omega arith)
person_leads p (Some q) l h =
    let here : (behind p Keys.Surname).surname ≡ true = or_right p.surname true refl in
    cons_leads p (keyed Keys.Surname q.surname) _ 9 (next_open p Keys.Surname l (or_right p.surname true refl))
    (plain_part Keys.Surname q.surname refl (told_text Printable 1 40 q.surname h.surname))
    (then_more (behind p Keys.Surname) (keyed_if Keys.Given q.given) _ 7 9
    (one_if (behind p Keys.Surname) Keys.Given q.given (omega arith) (or_left _ _ here) refl
    (text_told Printable 1 16 q.given h.given))
    (λ r m s. then_more r (keyed_if Keys.Initials q.initials) _ 8 9
    (one_if r Keys.Initials q.initials (omega arith) (or_left _ _ (s here)) refl
    (text_told Printable 1 5 q.initials h.initials))
    (λ t n u. one_if t Keys.Generation q.generation (omega arith) (or_left _ _ (u (s here))) refl
    (text_told Printable 1 3 q.generation h.generation))))

plain_if : (p : Place) (k : Key) (o : Option (List ℕ)) → p.last < place_of k → needs_surname k ≡ false
    → has_kind k ≡ false → IfSome o (λ v. is_value (shape_of k) v ≡ true) → Leads p (keyed_if k o) (place_of k)
plain_if p k o l s e h = one_if p k o l (or_right p.surname _ (ap not s)) e h

name_leads : (n : Attributes) → IsTold n → Leads start (keyed_of n) 14
name_leads n h =
    let m = h.name in
    let few = m.few_units in
    let few_pairs = m.few_pairs in
    then_more start _ _ 1 14 (plain_if start Keys.Country (option_map label_text n.country) (omega arith) refl refl
    (label_told Keys.Country IsCountry n.country m.country told_country))
    (λ q1 l1 s1. then_more q1 _ _ 2 14
    (plain_if q1 Keys.Admd (option_map label_text n.admd) (omega arith) refl refl
    (label_told Keys.Admd _ n.admd (both 0 16 n.admd m.admd h.admd) (printable 0 16)))
    (λ q2 l2 s2. then_more q2 _ _ 3 14
    (plain_if q2 Keys.Prmd (option_map label_text n.prmd) (omega arith) refl refl
    (label_told Keys.Prmd _ n.prmd (both 1 16 n.prmd m.prmd h.prmd) (printable 1 16)))
    (λ q3 l3 s3. then_more q3 _ _ 4 14
    (plain_if q3 Keys.Organization n.organization (omega arith) refl refl
    (text_told Printable 1 64 n.organization m.organization))
    (λ q4 l4 s4. then_more q4 _ _ 5 14
    (all_of_key Keys.Unit (units_keyed n.units) q4 refl (units_told n.units m.units) (omega arith)
    (omega (arith, units_length n.units)))
    (λ q5 l5 s5. then_more q5 _ _ 9 14 (person_leads q5 n.person (omega arith) m.person)
    (λ q6 l6 s6. then_more q6 _ _ 10 14
    (plain_if q6 Keys.Common n.common (omega arith) refl refl (text_told Printable 1 64 n.common m.common))
    (λ q7 l7 s7. then_more q7 _ _ 11 14
    (plain_if q7 Keys.Network n.network (omega arith) refl refl (text_told Numeric 1 16 n.network m.network))
    (λ q8 l8 s8. then_more q8 _ _ 12 14
    (plain_if q8 Keys.Terminal n.terminal (omega arith) refl refl (text_told Printable 1 24 n.terminal m.terminal))
    (λ q9 l9 s9. then_more q9 _ _ 13 14
    (plain_if q9 Keys.User n.user (omega arith) refl refl (text_told Numeric 1 32 n.user m.user))
    (λ q10 l10 s10. all_of_key Keys.Pair (pairs_keyed n.pairs) q10 refl (pairs_told n.pairs m.pairs h.pairs)
    (omega arith) (omega (arith, pairs_length n.pairs))))))))))))

-- ---- its parts make it again

put_both : (n : Attributes) (xs ys : List Part) → put_all n (xs ++ ys) ≡ put_all (put_all n xs) ys
put_both n [] ys = refl
put_both n (x ∷ xs) ys = put_both (put n x) xs ys

next_put : (n m out : Attributes) (xs ys : List Part) → put_all n xs ≡ m → put_all m ys ≡ out
    → put_all n (xs ++ ys) ≡ out
next_put n m out xs ys e f = put_both n xs ys ∙ ap (λ a. put_all a ys) e ∙ f

abbrev upto : Option Label → Option Label → Option Label → Option (List ℕ) → List (List ℕ) → Option PersonFields
    → Option (List ℕ) → Option (List ℕ) → Option (List ℕ) → Option (List ℕ) → List PairFields → Attributes
upto c a d o us p cn nw te ui ps = record {
  country = c;
  admd = a;
  network = nw;
  terminal = te;
  prmd = d;
  organization = o;
  user = ui;
  person = p;
  units = us;
  pairs = ps;
  common = cn;
  extras = [];
  directory = None;
}

abbrev label : Bool → List ℕ → Label
label b v = record { numeric = b; text = v }

size_told : (v : List ℕ) (b : Bool) → length v ≡ country_size b → eqb (length v) 3 ≡ b
size_told v true e = eq-eqb (length v) 3 e
size_told v false e = ne_eqb (length v) 3 (λ f. omega arith)

country_again : (l : Label) → IsCountry l → country_label l.text ≡ l
country_again l h = ap (λ b. label b l.text) (size_told l.text l.numeric h.size)

printable_again : (l : Label) → l.numeric ≡ false → printable_label l.text ≡ l
printable_again l e = ap (λ b. label b l.text) (sym e)

put_country : (c : Option Label) → IfSome c IsCountry
    → put_all nothing (labelled_if Keys.Country c) ≡ upto c None None None [] None None None None None []
put_country None h = refl
put_country (Some l) h = ap (λ x. upto (Some x) None None None [] None None None None None []) (country_again l h)

put_admd : (c a : Option Label) → IfSome a (λ l. l.numeric ≡ false)
    → put_all (upto c None None None [] None None None None None [])
    (labelled_if Keys.Admd a) ≡ upto c a None None [] None None None None None []
put_admd c None h = refl
put_admd c (Some l) h = ap (λ x. upto c (Some x) None None [] None None None None None []) (printable_again l h)

put_prmd : (c a d : Option Label) → IfSome d (λ l. l.numeric ≡ false)
    → put_all (upto c a None None [] None None None None None [])
    (labelled_if Keys.Prmd d) ≡ upto c a d None [] None None None None None []
put_prmd c a None h = refl
put_prmd c a (Some l) h = ap (λ x. upto c a (Some x) None [] None None None None None []) (printable_again l h)

put_organization : (c a d : Option Label) (o : Option (List ℕ))
    → put_all (upto c a d None [] None None None None None [])
    (keyed_if Keys.Organization o) ≡ upto c a d o [] None None None None None []
put_organization c a d None = refl
put_organization c a d (Some v) = refl

put_units : (c a d : Option Label) (o : Option (List ℕ)) (us vs : List (List ℕ))
    → put_all (upto c a d o us None None None None None []) (units_keyed vs) ≡ upto c a d o
    (us ++ vs) None None None None None []
put_units c a d o us [] = ap (λ x. upto c a d o x None None None None None []) (sym (append-nil us))
put_units c a d o us (v ∷ vs) = put_units c a d o (us ++ v ∷ []) vs
    ∙ ap (λ x. upto c a d o x None None None None None []) (append_assoc us (v ∷ []) vs)

abbrev person_of : List ℕ → Option (List ℕ) → Option (List ℕ) → Option (List ℕ) → PersonFields
person_of s g i q = record { surname = s; given = g; initials = i; generation = q }

put_named : (c a d : Option Label) (o : Option (List ℕ)) (us : List (List ℕ)) (s : List ℕ) (g i q : Option (List ℕ))
    → put_all (upto c a d o us None None None None None []) (person_keyed (Some (person_of s g i q))) ≡ upto c a d o us
    (Some (person_of s g i q)) None None None None []
put_named c a d o us s None None None = refl
put_named c a d o us s (Some g) None None = refl
put_named c a d o us s None (Some i) None = refl
put_named c a d o us s None None (Some q) = refl
put_named c a d o us s (Some g) (Some i) None = refl
put_named c a d o us s (Some g) None (Some q) = refl
put_named c a d o us s None (Some i) (Some q) = refl
put_named c a d o us s (Some g) (Some i) (Some q) = refl

put_person : (c a d : Option Label) (o : Option (List ℕ)) (us : List (List ℕ)) (p : Option PersonFields)
    → put_all (upto c a d o us None None None None None []) (person_keyed p) ≡ upto c a d o us p None None None None []
put_person c a d o us None = refl
put_person c a d o us (Some p) = put_named c a d o us p.surname p.given p.initials p.generation

put_common : (c a d : Option Label) (o : Option (List ℕ)) (us : List (List ℕ)) (p : Option PersonFields)
    (cn : Option (List ℕ)) → put_all (upto c a d o us p None None None None [])
    (keyed_if Keys.Common cn) ≡ upto c a d o us p cn None None None []
put_common c a d o us p None = refl
put_common c a d o us p (Some v) = refl

put_network : (c a d : Option Label) (o : Option (List ℕ)) (us : List (List ℕ)) (p : Option PersonFields)
    (cn nw : Option (List ℕ)) → put_all (upto c a d o us p cn None None None [])
    (keyed_if Keys.Network nw) ≡ upto c a d o us p cn nw None None []
put_network c a d o us p cn None = refl
put_network c a d o us p cn (Some v) = refl

put_terminal : (c a d : Option Label) (o : Option (List ℕ)) (us : List (List ℕ)) (p : Option PersonFields)
    (cn nw te : Option (List ℕ)) → put_all (upto c a d o us p cn nw None None [])
    (keyed_if Keys.Terminal te) ≡ upto c a d o us p cn nw te None []
put_terminal c a d o us p cn nw None = refl
put_terminal c a d o us p cn nw (Some v) = refl

put_user : (c a d : Option Label) (o : Option (List ℕ)) (us : List (List ℕ)) (p : Option PersonFields)
    (cn nw te ui : Option (List ℕ))
    → put_all (upto c a d o us p cn nw te None []) (keyed_if Keys.User ui) ≡ upto c a d o us p cn nw te ui []
put_user c a d o us p cn nw te None = refl
put_user c a d o us p cn nw te (Some v) = refl

put_pairs : (c a d : Option Label) (o : Option (List ℕ)) (us : List (List ℕ)) (p : Option PersonFields)
    (cn nw te ui : Option (List ℕ)) (ps qs : List PairFields)
    → put_all (upto c a d o us p cn nw te ui ps) (pairs_keyed qs) ≡ upto c a d o us p cn nw te ui (ps ++ qs)
put_pairs c a d o us p cn nw te ui ps [] = ap (upto c a d o us p cn nw te ui) (sym (append-nil ps))
put_pairs c a d o us p cn nw te ui ps (q ∷ qs) = put_pairs c a d o us p cn nw te ui (ps ++ q ∷ []) qs
    ∙ ap (upto c a d o us p cn nw te ui) (append_assoc ps (q ∷ []) qs)

parts_make : (n : Attributes) → IsTold n
    → name_of (keyed_of n) ≡ upto n.country n.admd n.prmd n.organization n.units n.person n.common n.network n.terminal
    n.user n.pairs
parts_make n h =
    let c = n.country in
    let a = n.admd in
    let d = n.prmd in
    let o = n.organization in
    let us = n.units in
    let p = n.person in
    next_put nothing _ _ (labelled_if Keys.Country c) _ (put_country c h.name.country)
    (next_put (upto c None None None [] None None None None None []) _ _ (labelled_if Keys.Admd a) _
    (put_admd c a h.admd)
    (next_put (upto c a None None [] None None None None None []) _ _ (labelled_if Keys.Prmd d) _
    (put_prmd c a d h.prmd)
    (next_put (upto c a d None [] None None None None None []) _ _ (keyed_if Keys.Organization o) _
    (put_organization c a d o)
    (next_put (upto c a d o [] None None None None None []) _ _ (units_keyed us) _ (put_units c a d o [] us)
    (next_put (upto c a d o us None None None None None []) _ _ (person_keyed p) _ (put_person c a d o us p)
    (next_put (upto c a d o us p None None None None []) _ _ (keyed_if Keys.Common n.common) _
    (put_common c a d o us p n.common)
    (next_put (upto c a d o us p n.common None None None []) _ _ (keyed_if Keys.Network n.network) _
    (put_network c a d o us p n.common n.network)
    (next_put (upto c a d o us p n.common n.network None None []) _ _ (keyed_if Keys.Terminal n.terminal) _
    (put_terminal c a d o us p n.common n.network n.terminal)
    (next_put (upto c a d o us p n.common n.network n.terminal None []) _ _ (keyed_if Keys.User n.user) _
    (put_user c a d o us p n.common n.network n.terminal n.user)
    (put_pairs c a d o us p n.common n.network n.terminal n.user [] n.pairs))))))))))

all_told : (n : Attributes) → IsTold n
    → upto n.country n.admd n.prmd n.organization n.units n.person n.common n.network n.terminal n.user n.pairs ≡ n
all_told n h = ap (λ e. record n { extras = e; directory = None }) (sym h.extras)
    ∙ ap (λ d. record n { directory = d }) (sym h.directory)

pub told_form : (n : Attributes) → IsTold n → IsTextForm (text_form n) n
unfolding text_form
told_form n h =
    let l = name_leads n h in
    record {
      parts = keyed_of n;
      form = record { last = l.to; follow = l.follow; some = h.some; text_is = refl };
      name_is = sym (parts_make n h ∙ all_told n h);
    }

pub name_again : (n : Attributes) → IsTold n → name_of_text (text_form n) ≡ Ok n
name_again n h = name_read (text_form n) n (told_form n h)
