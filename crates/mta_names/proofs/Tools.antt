-- Tools for readers of components: slots, tags, lists, and what all components keep.
use Rattle.std.proofs.Common.{◌≡◌, ℕ, ◌+◌, ◌≤◌, Bool, true, false, cond, eqb, List, [], ◌∷◌, ◌++◌, length, Option, Some}
use Rattle.std.proofs.Common.{None, Result, Ok, Err, refl, sym, ap, subst, ◌∙◌, arith}
use Rattle.std.proofs.lemmas.Bool.{eqb-true}
use Rattle.std.proofs.lemmas.Bool.Decides.{nat_tests}
use Rattle.mta_ber.specs.declared.fault.Fault.{Fault}
use Rattle.mta_ber.specs.declared.fault.Kind.TheVariants.{BadTag, BadSize}
use Rattle.mta_ber.specs.declared.tag.Tag.{Tag}
use Rattle.mta_ber.specs.Components.{Makes, AreComponents, SpellsComponents}
use Rattle.mta_ber.specs.Element.{Part}
use Rattle.mta_ber.specs.Explicit.{Spells}
use Rattle.mta_ber.specs.Forms.{is_constructed_tag}
use Rattle.mta_ber.specs.Head.{◌>>=◌, fault}
use Rattle.mta_ber.specs.Octet.{IsOctets}
use Rattle.mta_ber.specs.declared.fault.ReadFault.{ReadFault}
use Rattle.mta_ber.specs.declared.fault.ReadFault.TheVariants as faults
use Rattle.mta_ber.specs.Parts.{components, parts_of, is_tag, Fails, IsReadAs}
use Rattle.mta_ber.specs.Spelling.{Stands}
use Rattle.mta_ber.specs.Strings.{between}
use Rattle.mta_ber.proofs.ComponentLaws.{StepSound, StepFull, parts_sound, parts_full}
use Rattle.mta_ber.proofs.ExplicitLaws.{ReadSound, ReadFull}
use Rattle.mta_ber.proofs.HeadLaws.{and_true}
use Rattle.mta_ber.proofs.Steps.{bind_ok, ok_is, taken}
use Rattle.mta_names.specs.Strings.{item_step, counted, AddsItem, Puts}
use Rattle.mta_names.specs.Lists.{list_in, SpellsList}
use Rattle.mta_names.specs.Values.{Each}

-- ---- a value that is put into its place

pub puts_sound : {S A : Type 0} (read : Result A Fault) (put : A → S) (t : S) (spelled : A → Type 0)
    → ((x : A) → read ≡ Ok x → spelled x) → (read >>= λ x. Ok (put x)) ≡ Ok t → Puts spelled put t
puts_sound read put t spelled f e =
    let b = bind_ok read (λ x. Ok (put x)) t e in
    record { value = b.0; value_spelled = f b.0 b.1; after_is = sym (ok_is (put b.0) t b.2) }

pub puts_full : {S A : Type 0} (read : Result A Fault) (put : A → S) (t : S) (spelled : A → Type 0)
    → ((x : A) → spelled x → read ≡ Ok x) → Puts spelled put t → (read >>= λ x. Ok (put x)) ≡ Ok t
puts_full {S} read put t spelled f h =
    ap (λ r. r >>= λ x. Ok (put x)) (f h.value h.value_spelled) ∙ ap (λ (x : S). Ok x) (sym h.after_is)

-- ---- tags

pub tag_is : (class number : ℕ) (t : Tag) → is_tag class number t ≡ true → (t.class ≡ class) × (t.number ≡ number)
tag_is class number t h = let a = and_true (eqb t.class class) (eqb t.number number) h in
    (eqb-true t.class class a.0, eqb-true t.number number a.1)

-- a tag of the constructed form
pub constructed_tag : (class number : ℕ) (t : Tag) → is_constructed_tag class number t ≡ true
    → (is_tag class number t ≡ true) × (t.constructed ≡ true)
constructed_tag class number t h = and_true (is_tag class number t) t.constructed h

pub so_constructed : (class number : ℕ) (t : Tag) → is_tag class number t ≡ true → t.constructed ≡ true
    → is_constructed_tag class number t ≡ true
so_constructed class number t h k = rw (h, k) refl

-- what a chain of tests finds
pub picked : {A : Type 0} (P : A → Type 0) (b : Bool) (x : A) (o : Option A) → (b ≡ true → P x)
    → ((k : A) → o ≡ Some k → P k) → (k : A) → cond b (Some x) o ≡ Some k → P k
picked P true x o here there k e = subst P (let f : x ≡ k = cc in f) (here refl)
picked P false x o here there k e = there k e

pub not_none : {A : Type 0} (P : A → Type 0) (k : A) → None ≡ Some k → P k
not_none P k e = absurd cc

-- ---- components

pub components_sound : {S : Type 0} (step : S → Part → Result S Fault) (makes : Makes S) → StepSound step makes
    → (s t : S) (p : Part) → IsOctets p.content → components step s p ≡ Ok t
    → (p.tag.constructed ≡ true) × SpellsComponents makes p.depth s p.content t
components_sound step makes sound s t p octets e =
    let c = taken p.tag.constructed (parts_of step s p) _ t e in
    (c.0, parts_sound step makes sound s t p octets c.1)

pub components_full : {S : Type 0} (step : S → Part → Result S Fault) (makes : Makes S) → StepFull step makes
    → (s t : S) (p : Part) → p.tag.constructed ≡ true → SpellsComponents makes p.depth s p.content t
    → components step s p ≡ Ok t
components_full step makes full s t p is h =
    ap (λ b. cond b (parts_of step s p) (fault p.at BadTag)) is ∙ parts_full step makes full s t p h

-- what each component keeps, all of them keep
module _ {S : Type 0} (makes : Makes S) (P : S → Type 0) where
  abbrev pub Keeps : Type 0
  Keeps = (depth : ℕ) (s t : S) (tag : Tag) (content octets : List ℕ) → Stands depth tag content octets
      → makes depth s tag content octets t → P s → P t

  are_keep : Keeps → (depth : ℕ) (s t : S) (es : List (List ℕ)) → AreComponents makes depth s es t → P s → P t
  are_keep keeps depth s t [] h k = subst P h k
  are_keep keeps depth s t (e ∷ es) h k =
      are_keep keeps depth h.0 t es h.2 (keeps depth s h.0 h.1.tag h.1.content e h.1.stands h.1.made k)

  pub spelled_keep : Keeps → (depth : ℕ) (s t : S) (content : List ℕ) → SpellsComponents makes depth s content t → P s
      → P t
  spelled_keep keeps depth s t content h k = are_keep keeps (depth + 1) s t h.components h.are k

-- ---- lists

pub each_more : {X : Type 0} (P : X → Type 0) (xs : List X) (x : X) → Each P xs → P x → Each P (xs ++ x ∷ [])
each_more P [] x h k = (k, tt)
each_more P (y ∷ xs) x h k = (h.0, each_more P xs x h.1 k)

pub between_so : (low high n : ℕ) → between low high n ≡ true → (low ≤ n) × (n ≤ high)
between_so low high n e = grind (arith, nat_tests)

pub so_between : (low high n : ℕ) → low ≤ n → n ≤ high → between low high n ≡ true
so_between low high n a b = grind (arith, nat_tests)

pub counted_so : {A : Type 0} (low high n at : ℕ) (x y : A) → cond (between low high n) (Ok x) (fault at BadSize) ≡ Ok y
    → (low ≤ n) × (n ≤ high) × (x ≡ y)
counted_so {A} low high n at x y e =
    let c = taken (between low high n) (Ok x) (record { at = at; kind = BadSize }) y e in
    let b = between_so low high n c.0 in
    (b.0, b.1, ok_is x y c.1)

module _ {X : Type 0} (is_item : Tag → Bool) (read : Part → Result X Fault) (spells : Spells X) where
  pub item_sound : ReadSound read spells → StepSound (item_step is_item read) (AddsItem is_item spells)
  item_sound sound s t p shallow content octets e =
      let c = taken (is_item p.tag) (read p >>= λ x. Ok (s ++ x ∷ [])) _ t e in
      let b = bind_ok (read p) (λ x. Ok (s ++ x ∷ [])) t c.1 in
      record {
        is_item_tag = c.0;
        item = b.0;
        spelled = sound b.0 p shallow content octets b.1;
        after_is =
            sym (ok_is (s ++ b.0 ∷ []) t b.2);
      }

  pub item_full : ReadFull read spells → StepFull (item_step is_item read) (AddsItem is_item spells)
  item_full full s t p shallow h =
      let r = full h.item p shallow h.spelled in
      rw (h.is_item_tag, r) (ap (λ (x : List X). Ok x) (sym h.after_is))

  pub list_sound : ReadSound read spells → (low high : ℕ) (p : Part) (xs : List X) → IsOctets p.content
      → list_in is_item read low high p ≡ Ok xs
      → SpellsList is_item spells low high p.depth p.tag.constructed p.content xs
  list_sound sound low high p xs octets e =
      let b = bind_ok (components (item_step is_item read) [] p) (counted p.at low high) xs e in
      let c = components_sound (item_step is_item read) (AddsItem is_item spells)
      (item_sound sound) [] b.0 p octets b.1 in
      let d = counted_so low high (length b.0) p.at b.0 xs b.2 in
      subst (λ ys. SpellsList is_item spells low high p.depth p.tag.constructed p.content ys) d.2
      (record { is_constructed = c.0; spelled = c.1; at_least = d.0; at_most = d.1 })

  pub list_full : ReadFull read spells → (low high : ℕ) (p : Part) (xs : List X)
      → SpellsList is_item spells low high p.depth p.tag.constructed p.content xs
      → list_in is_item read low high p ≡ Ok xs
  list_full full low high p xs h =
      ap (λ r. r >>= counted p.at low high)
      (components_full (item_step is_item read) (AddsItem is_item spells)
      (item_full full) [] xs p h.is_constructed h.spelled)
      ∙ rw (so_between low high (length xs) h.at_least h.at_most) refl

  -- each item is one of those that can be spelled
  pub list_each : (P : X → Type 0)
      → ((depth : ℕ) (tag : Tag) (content octets : List ℕ) (x : X) → spells depth tag content octets x → P x)
      → (low high depth : ℕ) (c : Bool) (content : List ℕ) (xs : List X)
      → SpellsList is_item spells low high depth c content xs → Each P xs
  list_each P good low high depth c content xs h =
      spelled_keep (AddsItem is_item spells) (Each P)
      (λ depth s t tag content octets stands m k. subst (Each P) (sym m.after_is)
      (each_more P s m.item k (good depth tag content octets m.item m.spelled))) depth [] xs content h.spelled tt

-- ---- what readers answer

pub ok_as : {X : Type 0} (read : Result X Fault) (x y : X) → read ≡ Ok x → read ≡ Ok y → x ≡ y
ok_as read x y e f = ok_is x y (sym e ∙ f)

pub fails_as : {X : Type 0} (e : ReadFault) (read : Result X Fault) (y : X) → Fails e read → read ≡ Ok y
    → IsReadAs {X = X} (Err e) y
fails_as faults.Memory read y h e = tt
fails_as (faults.Bad f) read y h e = absurd (let k = sym h ∙ e in cc)
