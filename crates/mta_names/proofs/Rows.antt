-- Components that are written one behind the other are spelled, piece by piece from the last one on.
use Rattle.std.proofs.Common.{◌≡◌, ℕ, ◌+◌, ◌≤◌, ◌<◌, ◌^◌, Bool, true, List, [], ◌∷◌, ◌++◌, length, Option, Some, None}
use Rattle.std.proofs.Common.{Result, Ok, refl, sym, ap, subst, ◌∙◌, append_assoc, arith}
use Rattle.std.specs.Prelude.{IfSome}
use Rattle.std.specs.List.{concat, flat_map}
use Rattle.std.proofs.lemmas.List.{append-nil, length-append}
use Rattle.mta_ber.specs.declared.fault.Fault.{Fault}
use Rattle.mta_ber.specs.declared.tag.Tag.{Tag}
use Rattle.mta_ber.specs.Canon.{IsTag, element, optional}
use Rattle.mta_ber.specs.Components.{Makes, IsComponent, AreComponents, SpellsComponents}
use Rattle.mta_ber.specs.Element.{Part}
use Rattle.mta_ber.specs.Head.{◌>>=◌}
use Rattle.mta_ber.specs.Laws.{with_rest, beside}
use Rattle.mta_ber.specs.Spelling.{Stands}
use Rattle.mta_ber.proofs.CanonLaws.{header_octets, header_spelled, element_split, lent}
use Rattle.mta_ber.proofs.RoundTrip.{part_again, element_long}
use Rattle.mta_ber.proofs.RowLaws.{one_spelling, lent_part}
use Rattle.mta_ber.proofs.Steps.{ok_is}
use Rattle.mta_names.specs.Laws.{IsReadAgain, NoneBeginsAnother}
use Rattle.mta_names.specs.Lists.{listed}
use Rattle.mta_names.specs.Strings.{Puts}
use Rattle.mta_names.specs.Values.{Each}

-- ---- elements

-- an element that is written stands in every level that may be
pub element_stands : (depth : ℕ) (t : Tag) (content : List ℕ) → IsTag t → length content < 2 ^ 64 → depth ≤ 16
    → Stands depth t content (element t content)
element_stands depth t content low short d = record {
  count = Some (length content);
  header = header_octets t content;
  is_header = header_spelled t content low short;
  shallow = d;
  definite = refl;
  indefinite = tt;
  octets_are = sym (element_split t content) ∙ ap (λ c. header_octets t content ++ c) (sym (append-nil content));
}

-- the content of an element that can be written can be written
pub short_inside : (t : Tag) (content : List ℕ) → length (element t content) < 2 ^ 64 → length content < 2 ^ 64
short_inside t content short = let long = element_long t content in omega arith

pub short_front : (a b : List ℕ) → length (a ++ b) < 2 ^ 64 → length a < 2 ^ 64
short_front a b short = omega (arith, length-append a b)

pub short_back : (a b : List ℕ) → length (a ++ b) < 2 ^ 64 → length b < 2 ^ 64
short_back a b short = omega (arith, length-append a b)

-- a value that is put into its place
pub puts : {S A : Type 0} (spelled : A → Type 0) (put : A → S) (x : A) → spelled x → Puts spelled put (put x)
puts spelled put x h = record { value = x; value_spelled = h; after_is = refl }

-- an element that is written is a component where its content makes one
pub component : {S : Type 0} (makes : Makes S) (depth : ℕ) (s t : S) (tag : Tag) (content : List ℕ) → IsTag tag
    → depth ≤ 16 → length (element tag content) < 2 ^ 64 → makes depth s tag content (element tag content) t
    → IsComponent makes depth s (element tag content) t
component makes depth s t tag content low d short made =
    record {
      tag = tag;
      content = content;
      stands =
          element_stands depth tag content low (short_inside tag content short) d;
      made = made;
    }

-- ---- rows

module _ {S : Type 0} (makes : Makes S) (depth : ℕ) where
  -- octets that are components one behind the other
  pub record IsRow (s : S) (bytes : List ℕ) (t : S) : Type 0 where
    pub components : List (List ℕ)
    pub joined : bytes ≡ concat components
    pub are : AreComponents makes depth s components t

  pub no_row : (s : S) → IsRow s [] s
  no_row s = record { components = []; joined = refl; are = refl }

  pub row_more : (s t u : S) (octets rest : List ℕ) → IsComponent makes depth s octets t → IsRow t rest u
      → IsRow s (octets ++ rest) u
  row_more s t u octets rest h r =
      record { components = octets ∷ r.components; joined = ap (λ x. octets ++ x) r.joined; are = (t, h, r.are) }

  pub row_last : (s t : S) (octets : List ℕ) → IsComponent makes depth s octets t → IsRow s octets t
  row_last s t octets h = subst (λ x. IsRow s x t) (append-nil octets) (row_more s t t octets [] h (no_row t))

pub row_spelled : {S : Type 0} (makes : Makes S) (depth : ℕ) (s t : S) (content : List ℕ)
    → IsRow makes (depth + 1) s content t → SpellsComponents makes depth s content t
row_spelled makes depth s t content r = record { components = r.components; joined = r.joined; are = r.are }

-- the items of a list, each of which makes one item more
pub items_row : {S X : Type 0} (makes : Makes S) (depth : ℕ) (held : List X → S) (write : X → List ℕ) (P : X → Type 0)
    → ((ys : List X) (x : X) → P x → length (write x) < 2 ^ 64
    → IsComponent makes depth (held ys) (write x) (held (ys ++ x ∷ [])))
    → (ys xs : List X) → Each P xs → length (flat_map write xs) < 2 ^ 64
    → IsRow makes depth (held ys) (flat_map write xs) (held (ys ++ xs))
items_row makes depth held write P item ys [] h short =
    subst (λ zs. IsRow makes depth (held ys) [] (held zs)) (sym (append-nil ys)) (no_row makes depth (held ys))
items_row makes depth held write P item ys (x ∷ xs) h short =
    row_more makes depth (held ys) (held (ys ++ x ∷ [])) (held (ys ++ x ∷ xs)) (write x) (flat_map write xs)
    (item ys x h.0 (short_front (write x) (flat_map write xs) short))
    (subst (λ zs. IsRow makes depth (held (ys ++ x ∷ [])) (flat_map write xs) (held zs)) (append_assoc ys (x ∷ []) xs)
    (items_row makes depth held write P item (ys ++ x ∷ []) xs h.1 (short_back (write x) (flat_map write xs) short)))

pub each_both : {X : Type 0} (P Q : X → Type 0) (xs : List X) → Each P xs → Each Q xs → Each (λ x. P x × Q x) xs
each_both P Q [] h k = tt
each_both P Q (x ∷ xs) h k = ((h.0, k.0), each_both P Q xs h.1 k.1)

-- ---- pieces in an order, some of which may be absent, behind one whose place is `low` or later

module _ {S M : Type 0} (makes : Makes S) (depth : ℕ) (parts : ℕ → M → S) (low : ℕ) where
  -- where the place before them is `last`, they end at one that is no earlier
  pub record Ends (m : M) (bytes : List ℕ) (n : M) (last : ℕ) : Type 0 where
    pub end : ℕ
    pub behind : last ≤ end
    pub row : IsRow makes depth (parts last m) bytes (parts end n)

  -- octets that stand at a place or later
  abbrev pub From : ℕ → M → List ℕ → M → Type 0
  From place m bytes n = length bytes < 2 ^ 64 → (last : ℕ) → low ≤ last → last < place → Ends m bytes n last

  -- one piece at its place
  abbrev pub Piece : ℕ → M → List ℕ → M → Type 0
  Piece place m octets n = length octets < 2 ^ 64 → (last : ℕ) → low ≤ last → last < place
      → IsComponent makes depth (parts last m) octets (parts place n)

  pub none_from : (place : ℕ) (n : M) → From place n [] n
  none_from place n short last ge lt =
      record { end = last; behind = omega arith; row = no_row makes depth (parts last n) }

  pub later_from : (place next : ℕ) (m : M) (bytes : List ℕ) (n : M) → place ≤ next → From next m bytes n
      → From place m bytes n
  later_from place next m bytes n le h short last ge lt = h short last ge (omega arith)

  pub piece_from : (place next : ℕ) (m k : M) (octets rest : List ℕ) (n : M) → place < next → Piece place m octets k
      → From next k rest n → From place m (octets ++ rest) n
  piece_from place next m k octets rest n le h r short last ge lt =
      let e = r (short_back octets rest short) place (omega arith) le in
      record {
        end = e.end;
        behind = let b = e.behind in omega arith;
        row = row_more makes depth (parts last m) (parts place k) (parts e.end n) octets rest
            (h (short_front octets rest short) last ge lt) e.row;
      }

  pub optional_from : {A : Type 0} (place next : ℕ) (write : A → List ℕ) (P : A → Type 0) (put : Option A → M)
      (o : Option A) (rest : List ℕ) (n : M) → place < next → IfSome o P
      → ((x : A) → P x → Piece place (put None) (write x) (put (Some x))) → From next (put o) rest n
      → From place (put None) (optional write o ++ rest) n
  optional_from place next write P put None rest n le h piece r =
      later_from place next (put None) rest n (omega arith) r
  optional_from place next write P put (Some x) rest n le h piece r =
      piece_from place next (put None) (put (Some x)) (write x) rest n le (piece x h) r

  pub listed_from : {X : Type 0} (place next : ℕ) (write : List X → List ℕ) (put : List X → M) (xs : List X)
      (rest : List ℕ) (n : M) → place < next
      → (1 ≤ length xs → Piece place (put []) (write xs) (put xs)) → From next (put xs) rest n
      → From place (put []) (listed write xs ++ rest) n
  listed_from place next write put [] rest n le piece r = later_from place next (put []) rest n (omega arith) r
  listed_from place next write put (x ∷ xs) rest n le piece r =
      piece_from place next (put []) (put (x ∷ xs)) (write (x ∷ xs)) rest n le (piece (omega arith)) r

  -- the last piece, behind which nothing stands
  pub at_last : (place : ℕ) (m : M) (bytes : List ℕ) (n : M) → From place m (bytes ++ []) n → From place m bytes n
  at_last place m bytes n h = subst (λ x. From place m x n) (append-nil bytes) h

-- ---- pieces that are grouped from the left

pub regroup_4 : (a b c d : List ℕ) → a ++ (b ++ (c ++ d)) ≡ a ++ b ++ c ++ d
regroup_4 a b c d = simp append_assoc

pub regroup_6 : (a b c d e f : List ℕ) → a ++ (b ++ (c ++ (d ++ (e ++ f)))) ≡ a ++ b ++ c ++ d ++ e ++ f
regroup_6 a b c d e f = simp append_assoc

pub regroup_9 : (a b c d e f g h i : List ℕ) → a ++ (b ++ (c ++ (d ++ (e ++ (f ++ (g ++ (h ++ i))))))) ≡ a ++ b ++ c
    ++ d ++ e ++ f ++ g ++ h ++ i
regroup_9 a b c d e f g h i = simp append_assoc

-- ---- what is written is read again, where its content is read

pub read_again : {A : Type 0} (read : Part → Result A Fault) (depth : ℕ) (tag : Tag) (content : List ℕ) (v : A)
    → IsTag tag → depth ≤ 16
    → (length content < 2 ^ 64 → (at : ℕ) (more : List ℕ) → read (lent at depth tag content more) ≡ Ok v)
    → IsReadAgain read depth (element tag content) v
read_again read depth tag content v low d f short at more =
    let s = short_inside tag content short in
    ap (λ x. x >>= with_rest read) (part_again at depth tag content more low s d)
    ∙ ap (λ x. x >>= λ v. beside v more) (f s at more)

pub content_again : {A : Type 0} (read : Part → Result A Fault) (spells : ℕ → Bool → List ℕ → A → Type 0)
    → ((v : A) (p : Part) → spells p.depth p.tag.constructed p.content v → read p ≡ Ok v)
    → (depth : ℕ) (tag : Tag) (content : List ℕ) (v : A) → IsTag tag → tag.constructed ≡ true → depth ≤ 16
    → (length content < 2 ^ 64 → spells depth true content v) → IsReadAgain read depth (element tag content) v
content_again read spells full depth tag content v low is d f =
    read_again read depth tag content v low d
    (λ short at more. full v (lent at depth tag content more)
    (subst (λ c. spells depth c content v) (sym is) (f short)))

-- a value that is spelled is the only one, and so are its octets
pub none_begins : {A : Type 0} (read : Part → Result A Fault) (spells : ℕ → Bool → List ℕ → A → Type 0)
    → ((v : A) (p : Part) → p.depth ≤ 16 → spells p.depth p.tag.constructed p.content v → read p ≡ Ok v)
    → NoneBeginsAnother spells
none_begins read spells full depth e e' x y v w h k same =
    let one = one_spelling depth h.tag k.tag h.content k.content e e' x y h.stands k.stands same in
    let p = lent_part 0 depth h.tag 0 h.content [] e in
    let second = subst (λ t. spells depth t.constructed h.content w) (sym one.1)
    (subst (λ c. spells depth k.tag.constructed c w) (sym one.2) k.spelled) in
    (one.0, ok_is v w (sym (full v p h.stands.shallow h.spelled) ∙ full w p h.stands.shallow second))
