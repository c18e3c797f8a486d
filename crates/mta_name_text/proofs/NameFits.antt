-- The attributes that the parts of a text form make are such as those of a name are.
use Rattle.std.proofs.Common.{◌≡◌, ℕ, ◌+◌, ◌-◌, ◌≤◌, ◌<◌, Bool, true, false, cond, eqb, leb, ltb, List, [], ◌∷◌, ◌++◌}
use Rattle.std.proofs.Common.{length, Option, Some, None, refl, sym, ap, subst, inl, inr, ◌⊎◌, arith, ◌&&◌, ◌||◌, not}
use Rattle.std.proofs.Common.{length-append}
use Rattle.std.specs.Prelude.{IfSome}
use Rattle.std.specs.List.{list_all}
use Rattle.std.proofs.lemmas.Bool.{and_parts, or_cases, eqb-true, eq-eqb, ne_eqb, leb-true, ltb-true}
use Rattle.mta_ber.specs.Strings.{in_class, IsText}
use Rattle.mta_ber.specs.declared.text.TextClass.{TextClass}
use Rattle.mta_ber.specs.declared.text.TextClass.TheVariants.{Numeric, Printable}
use Rattle.mta_names.specs.declared.attributes.Attributes.{Attributes}
use Rattle.mta_names.specs.declared.attributes.PersonFields.{PersonFields}
use Rattle.mta_names.specs.Values.{Each, is_letter, is_digit, count_of, IsCountry, IsLabel, IsPerson, IsPair, IsExtra}
use Rattle.mta_names.specs.Values.{IsRaw, IsName, nothing}
use Rattle.mta_name_text.specs.declared.key.Key.{Key}
use Rattle.mta_name_text.specs.declared.key.Key.TheVariants as Keys
use Rattle.mta_name_text.specs.declared.part.Part.{Part}
use Rattle.mta_name_text.specs.declared.place.Grammar.TheVariants.{Names}
use Rattle.mta_name_text.specs.declared.place.Place.{Place}
use Rattle.mta_name_text.specs.declared.shape.Shape.TheVariants as Shapes
use Rattle.mta_name_text.specs.Grammar.{start, behind, is_again, follows, IsPart, Follow}
use Rattle.mta_name_text.specs.Keys.{place_of, needs_surname}
use Rattle.mta_name_text.specs.Made.{country_label, with_given, with_initials, with_generation, pair_of, put, put_at}
use Rattle.mta_name_text.specs.Made.{put_all, IsTextForm}
use Rattle.mta_name_text.specs.Reading.{part}
use Rattle.mta_name_text.specs.Shapes.{is_no_equals, is_value}

-- ---- values

pub text_fits : (class : TextClass) (low high : ℕ) (v : List ℕ) → is_value (Shapes.Text class low high) v ≡ true
    → IsText class low high v
unfolding is_value
text_fits class low high v h =
    let a = and_parts (list_all (in_class class) v && leb low (length v)) (leb (length v) high) h in
    let b = and_parts (list_all (in_class class) v) (leb low (length v)) a.0 in
    record { characters = b.0; at_least = leb-true low (length v) b.1; at_most = leb-true (length v) high a.1 }

kind_fits : (t : List ℕ) → is_value Shapes.Kind t ≡ true → IsText Printable 1 8 t
unfolding is_value
kind_fits t h =
    let a = and_parts (list_all is_no_equals t && list_all (in_class Printable) t && leb 1 (length t))
    (leb (length t) 8) h in
    let b = and_parts (list_all is_no_equals t && list_all (in_class Printable) t) (leb 1 (length t)) a.0 in
    let d = and_parts (list_all is_no_equals t) (list_all (in_class Printable) t) b.0 in
    record { characters = d.1; at_least = leb-true 1 (length t) b.1; at_most = leb-true (length t) 8 a.1 }

numeric_country : (v : List ℕ) (b : Bool) → b ≡ true → list_all is_digit v ≡ true → length v ≡ 3
    → IsCountry (record { numeric = b; text = v })
numeric_country v true e h l = record { characters = h; size = l }
numeric_country v false e h l = absurd cc

lettered_country : (v : List ℕ) (b : Bool) → b ≡ false → list_all is_letter v ≡ true → length v ≡ 2
    → IsCountry (record { numeric = b; text = v })
lettered_country v true e h l = absurd cc
lettered_country v false e h l = record { characters = h; size = l }

country_fits : (v : List ℕ) → is_value Shapes.Country v ≡ true → IsCountry (country_label v)
unfolding is_value
country_fits v h =
    elim (or_cases (list_all is_letter v && eqb (length v) 2) (list_all is_digit v && eqb (length v) 3) h) [
      | inl letters ↦ (
          let a = and_parts (list_all is_letter v) (eqb (length v) 2) letters in
          let l : length v ≡ 2 = eqb-true (length v) 2 a.1 in
          lettered_country v (eqb (length v) 3) (ne_eqb (length v) 3 (λ e. omega arith)) a.0 l)
      | inr digits ↦ (
          let a = and_parts (list_all is_digit v) (eqb (length v) 3) digits in
          numeric_country v (eqb (length v) 3) a.1 a.0 (eqb-true (length v) 3 a.1))
    ]

-- ---- how many units and pairs there are

pub record Counts (p : Place) (units pairs : ℕ) : Type 0 where
  pub no_units : p.last < 5 → units ≡ 0
  pub units_left : p.last ≡ 5 → units + p.left ≤ 4
  pub few_units : units ≤ 4
  pub no_pairs : p.last < 14 → pairs ≡ 0
  pub pairs_left : p.last ≡ 14 → pairs + p.left ≤ 4
  pub few_pairs : pairs ≤ 4

-- a later key, or one more part of the last key
pub later : (p : Place) (k : Key) → follows Names p k ≡ true → (p.last < place_of k)
    ⊎ ((p.last ≡ place_of k) × (0 < p.left))
later p k h =
    let a = and_parts (ltb p.last (place_of k) || is_again p k) (p.surname || not (needs_surname k)) h in
    elim (or_cases (ltb p.last (place_of k)) (is_again p k) a.0) [
      | inl next ↦ inl (ltb-true p.last (place_of k) next)
      | inr again ↦ (let b = and_parts (eqb p.last (place_of k)) (ltb 0 p.left) again in
          inr (eqb-true p.last (place_of k) b.0, ltb-true 0 p.left b.1))
    ]

pub not_before : (p : Place) (k : Key) → follows Names p k ≡ true → p.last ≤ place_of k
not_before p k h =
    elim (later p k h) [
      | inl l ↦ omega arith
      | inr e ↦ (let f = e.0 in omega arith)
    ]

counts_kept : (p q : Place) (units pairs : ℕ) → Counts p units pairs → p.last ≤ q.last → (q.last ≡ 5 → ⊥)
    → (q.last ≡ 14 → ⊥) → Counts q units pairs
counts_kept p q units pairs c l u r = record {
  no_units = λ h. c.no_units (omega arith);
  units_left = λ e. absurd (u e);
  few_units = c.few_units;
  no_pairs = λ h. c.no_pairs (omega arith);
  pairs_left = λ e. absurd (r e);
  few_pairs = c.few_pairs;
}

one_more : (last left place count : ℕ) → (last < place) ⊎ ((last ≡ place) × (0 < left)) → (last < place → count ≡ 0)
    → (last ≡ place → count + left ≤ 4) → (count + 1) + cond (eqb last place) (left - 1) 3 ≤ 4
one_more last left place count h none some =
    elim h [
      | inl l ↦ (
          let e : count ≡ 0 = none l in
          let other : eqb last place ≡ false = ne_eqb last place (λ f. omega arith) in
          rw other (omega arith))
      | inr s ↦ (
          let e = some s.0 in
          let l = s.1 in
          let same : eqb last place ≡ true = eq-eqb last place s.0 in
          rw same (omega arith))
    ]

one_unit : (p : Place) (units pairs : ℕ) → Counts p units pairs → follows Names p Keys.Unit ≡ true
    → Counts (behind p Keys.Unit) (units + 1) pairs
one_unit p units pairs c f =
    let more = one_more p.last p.left 5 units (later p Keys.Unit f) c.no_units c.units_left in
    let l = not_before p Keys.Unit f in
    record {
      no_units = λ h. absurd (omega arith);
      units_left = λ e. more;
      few_units = omega arith;
      no_pairs = λ h. c.no_pairs (omega arith);
      pairs_left = λ e. absurd (omega arith);
      few_pairs = c.few_pairs;
    }

one_pair : (p : Place) (units pairs : ℕ) → Counts p units pairs → follows Names p Keys.Pair ≡ true
    → Counts (behind p Keys.Pair) units (pairs + 1)
one_pair p units pairs c f =
    let more = one_more p.last p.left 14 pairs (later p Keys.Pair f) c.no_pairs c.pairs_left in
    record {
      no_units = λ h. absurd (omega arith);
      units_left = λ e. absurd (omega arith);
      few_units = c.few_units;
      no_pairs = λ h. absurd (omega arith);
      pairs_left = λ e. more;
      few_pairs = omega arith;
    }

-- ---- one attribute more

pub each_more : {X : Type 0} (P : X → Type 0) (xs : List X) (x : X) → Each P xs → P x → Each P (xs ++ x ∷ [])
each_more P [] x h p = (p, tt)
each_more P (y ∷ ys) x h p = (h.0, each_more P ys x h.1 p)

length_more : {X : Type 0} (xs : List X) (x : X) → length (xs ++ x ∷ []) ≡ length xs + 1
length_more xs x = length-append xs (x ∷ [])

given_fits : (v : List ℕ) (o : Option PersonFields) → IfSome o IsPerson → IsText Printable 1 16 v
    → IfSome (with_given v o) IsPerson
given_fits v None h t = tt
given_fits v (Some q) h t = record { surname = h.surname; given = t; initials = h.initials; generation = h.generation }

initials_fit : (v : List ℕ) (o : Option PersonFields) → IfSome o IsPerson → IsText Printable 1 5 v
    → IfSome (with_initials v o) IsPerson
initials_fit v None h t = tt
initials_fit v (Some q) h t = record { surname = h.surname; given = h.given; initials = t; generation = h.generation }

generation_fits : (v : List ℕ) (o : Option PersonFields) → IfSome o IsPerson → IsText Printable 1 3 v
    → IfSome (with_generation v o) IsPerson
generation_fits v None h t = tt
generation_fits v (Some q) h t = record { surname = h.surname; given = h.given; initials = h.initials; generation = t }

pub record Holds (p : Place) (n : Attributes) : Type 0 where
  pub name : IsName n
  pub counts : Counts p (length n.units) (length n.pairs)
  pub extras : n.extras ≡ []

no_extensions : (n : Attributes) → n.extras ≡ [] → 1 + length n.extras ≤ 256
no_extensions n e = let l : length n.extras ≡ 0 = ap length e in omega arith

kept_name : (p : Place) (k : Key) (n : Attributes) → Holds p n → follows Names p k ≡ true → (place_of k ≡ 5 → ⊥)
    → (place_of k ≡ 14 → ⊥) → Counts (behind p k) (length n.units) (length n.pairs)
kept_name p k n h f u r = counts_kept p (behind p k) (length n.units) (length n.pairs) h.counts (not_before p k f) u r

-- a name is such part by part
held : {p : Place} {n : Attributes} → IfSome n.country IsCountry → IfSome n.admd (IsLabel 0 16)
    → IfSome n.network (IsText Numeric 1 16) → IfSome n.terminal (IsText Printable 1 24)
    → IfSome n.prmd (IsLabel 1 16) → IfSome n.organization (IsText Printable 1 64)
    → IfSome n.user (IsText Numeric 1 32) → IfSome n.person IsPerson → Each (IsText Printable 1 32) n.units
    → length n.units ≤ 4 → Each IsPair n.pairs → length n.pairs ≤ 4
    → IfSome n.common (IsText Printable 1 64) → Each IsExtra n.extras
    → count_of n.common + length n.extras ≤ 256 → IfSome n.directory (IsRaw 2 0)
    → Counts p (length n.units) (length n.pairs) → n.extras ≡ [] → Holds p n
held country admd network terminal prmd organization user person units few_units pairs few_pairs common others few
    directory counts extras = record {
      name = record {
        country = country;
        admd = admd;
        network = network;
        terminal = terminal;
        prmd = prmd;
        organization = organization;
        user = user;
        person = person;
        units = units;
        few_units = few_units;
        pairs = pairs;
        few_pairs = few_pairs;
        common = common;
        extras = others;
        few_extensions = few;
        directory = directory;
      };
      counts = counts;
      extras = extras;
    }

put_holds : (k : Key) (t v : List ℕ) (p : Place) (n : Attributes) → Holds p n → follows Names p k ≡ true
    → IsPart (part k t v) → Holds (behind p k) (put_at k t v n)
put_holds Keys.Country t v p n h f i =
    let m = h.name in
    held (country_fits v i.value) m.admd m.network m.terminal m.prmd m.organization m.user m.person m.units
    m.few_units m.pairs m.few_pairs m.common m.extras m.few_extensions m.directory
    (kept_name p Keys.Country n h f (λ e. omega arith) (λ e. omega arith)) h.extras
put_holds Keys.Admd t v p n h f i =
    let m = h.name in
    held m.country (text_fits Printable 0 16 v i.value) m.network m.terminal m.prmd m.organization m.user m.person
    m.units m.few_units m.pairs m.few_pairs m.common m.extras m.few_extensions m.directory
    (kept_name p Keys.Admd n h f (λ e. omega arith) (λ e. omega arith)) h.extras
put_holds Keys.Prmd t v p n h f i =
    let m = h.name in
    held m.country m.admd m.network m.terminal (text_fits Printable 1 16 v i.value) m.organization m.user m.person
    m.units m.few_units m.pairs m.few_pairs m.common m.extras m.few_extensions m.directory
    (kept_name p Keys.Prmd n h f (λ e. omega arith) (λ e. omega arith)) h.extras
put_holds Keys.Organization t v p n h f i =
    let m = h.name in
    held m.country m.admd m.network m.terminal m.prmd (text_fits Printable 1 64 v i.value) m.user m.person m.units
    m.few_units m.pairs m.few_pairs m.common m.extras m.few_extensions m.directory
    (kept_name p Keys.Organization n h f (λ e. omega arith) (λ e. omega arith)) h.extras
put_holds Keys.Unit t v p n h f i =
    let m = h.name in
    let e = length_more n.units v in
    let c : Counts (behind p Keys.Unit) (length (n.units ++ v ∷ [])) (length n.pairs) =
    subst (λ u. Counts (behind p Keys.Unit) u (length n.pairs)) (sym e)
    (one_unit p (length n.units) (length n.pairs) h.counts f) in
    let few = c.few_units in
    held m.country m.admd m.network m.terminal m.prmd m.organization m.user m.person
    (each_more (IsText Printable 1 32) n.units v m.units (text_fits Printable 1 32 v i.value)) few m.pairs
    m.few_pairs m.common m.extras m.few_extensions m.directory c h.extras
put_holds Keys.Surname t v p n h f i =
    let m = h.name in
    held m.country m.admd m.network m.terminal m.prmd m.organization m.user
    (record { surname = text_fits Printable 1 40 v i.value; given = tt; initials = tt; generation = tt }) m.units
    m.few_units m.pairs m.few_pairs m.common m.extras m.few_extensions m.directory
    (kept_name p Keys.Surname n h f (λ e. omega arith) (λ e. omega arith)) h.extras
put_holds Keys.Given t v p n h f i =
    let m = h.name in
    held m.country m.admd m.network m.terminal m.prmd m.organization m.user
    (given_fits v n.person m.person (text_fits Printable 1 16 v i.value)) m.units m.few_units m.pairs m.few_pairs
    m.common m.extras m.few_extensions m.directory
    (kept_name p Keys.Given n h f (λ e. omega arith) (λ e. omega arith)) h.extras
put_holds Keys.Initials t v p n h f i =
    let m = h.name in
    held m.country m.admd m.network m.terminal m.prmd m.organization m.user
    (initials_fit v n.person m.person (text_fits Printable 1 5 v i.value)) m.units m.few_units m.pairs m.few_pairs
    m.common m.extras m.few_extensions m.directory
    (kept_name p Keys.Initials n h f (λ e. omega arith) (λ e. omega arith)) h.extras
put_holds Keys.Generation t v p n h f i =
    let m = h.name in
    held m.country m.admd m.network m.terminal m.prmd m.organization m.user
    (generation_fits v n.person m.person (text_fits Printable 1 3 v i.value)) m.units m.few_units m.pairs
    m.few_pairs m.common m.extras m.few_extensions m.directory
    (kept_name p Keys.Generation n h f (λ e. omega arith) (λ e. omega arith)) h.extras
put_holds Keys.Common t v p n h f i =
    let m = h.name in
    let none = no_extensions n h.extras in
    held m.country m.admd m.network m.terminal m.prmd m.organization m.user m.person m.units m.few_units m.pairs
    m.few_pairs (text_fits Printable 1 64 v i.value) m.extras none m.directory
    (kept_name p Keys.Common n h f (λ e. omega arith) (λ e. omega arith)) h.extras
put_holds Keys.Network t v p n h f i =
    let m = h.name in
    held m.country m.admd (text_fits Numeric 1 16 v i.value) m.terminal m.prmd m.organization m.user m.person
    m.units m.few_units m.pairs m.few_pairs m.common m.extras m.few_extensions m.directory
    (kept_name p Keys.Network n h f (λ e. omega arith) (λ e. omega arith)) h.extras
put_holds Keys.Terminal t v p n h f i =
    let m = h.name in
    held m.country m.admd m.network (text_fits Printable 1 24 v i.value) m.prmd m.organization m.user m.person
    m.units m.few_units m.pairs m.few_pairs m.common m.extras m.few_extensions m.directory
    (kept_name p Keys.Terminal n h f (λ e. omega arith) (λ e. omega arith)) h.extras
put_holds Keys.User t v p n h f i =
    let m = h.name in
    held m.country m.admd m.network m.terminal m.prmd m.organization (text_fits Numeric 1 32 v i.value) m.person
    m.units m.few_units m.pairs m.few_pairs m.common m.extras m.few_extensions m.directory
    (kept_name p Keys.User n h f (λ e. omega arith) (λ e. omega arith)) h.extras
put_holds Keys.Pair t v p n h f i =
    let m = h.name in
    let e = length_more n.pairs (pair_of t v) in
    let c : Counts (behind p Keys.Pair) (length n.units) (length (n.pairs ++ pair_of t v ∷ [])) =
    subst (λ r. Counts (behind p Keys.Pair) (length n.units) r) (sym e)
    (one_pair p (length n.units) (length n.pairs) h.counts f) in
    let few = c.few_pairs in
    held m.country m.admd m.network m.terminal m.prmd m.organization m.user m.person m.units m.few_units
    (each_more IsPair n.pairs (pair_of t v) m.pairs
    (record { kind = kind_fits t i.kind; value = text_fits Printable 1 128 v i.value }))
    few m.common m.extras m.few_extensions m.directory c h.extras

all_hold : (xs : List Part) (p q : Place) (n : Attributes) → Holds p n → Follow Names p xs q → IsName (put_all n xs)
all_hold [] p q n h f = h.name
all_hold (x ∷ xs) p q n h f = all_hold xs (behind p x.key) q (put n x)
    (put_holds x.key x.kind x.value p n h f.0 f.1) f.2

nothing_holds : Holds start nothing
nothing_holds = record {
  name = record {
    country = tt;
    admd = tt;
    network = tt;
    terminal = tt;
    prmd = tt;
    organization = tt;
    user = tt;
    person = tt;
    units = tt;
    few_units = omega arith;
    pairs = tt;
    few_pairs = omega arith;
    common = tt;
    extras = tt;
    few_extensions = omega arith;
    directory = tt;
  };
  counts = record {
    no_units = λ h. refl;
    units_left = λ e. omega arith;
    few_units = omega arith;
    no_pairs = λ h. refl;
    pairs_left = λ e. omega arith;
    few_pairs = omega arith;
  };
  extras = refl;
}

pub name_fits : (text : List ℕ) (n : Attributes) → IsTextForm text n → IsName n
name_fits text n h = subst IsName (sym h.name_is)
    (all_hold h.parts start h.form.last nothing nothing_holds h.form.follow)
