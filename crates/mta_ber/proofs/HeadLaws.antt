-- A header is read exactly where it is spelled.
use Rattle.std.proofs.Common.{◌≡◌, ◌≢◌, ℕ, suc, ◌+◌, ◌-◌, ◌*◌, ◌/◌, ◌%◌, ◌≤◌, ◌<◌, Bool, true, false, cond, ltb, eqb}
use Rattle.std.proofs.Common.{List, [], ◌∷◌, ◌++◌, length, get_or, take, drop, Option, Some, None, Result, Ok, Err}
use Rattle.std.proofs.Common.{refl, sym, ap, subst, ◌∙◌, append_assoc, arith, inl, inr, ◌⊎◌}
use Rattle.std.specs.Prelude.{IfOk, position, nat_lt, not, IfSome, ◌||◌, ◌&&◌}
use Rattle.std.specs.List.{prefix_len}
use Rattle.std.proofs.lemmas.Bool.{cases_lt, ne_eqb, eqb-false, lt-ltb, le-ltb, ltb-true, ltb-false, eqb-true}
use Rattle.std.proofs.lemmas.List.{take_at, drop_at, take-append-drop, length-append, length-take, get_or-drop}
use Rattle.mta_ber.specs.declared.tag.Tag.{Tag}
use Rattle.mta_ber.specs.declared.fault.Fault.{Fault}
use Rattle.mta_ber.specs.declared.head.Head.{Head}
use Rattle.mta_ber.specs.Seen.{Gives, head_view}
use Rattle.mta_ber.specs.Head.{base, group, ident, definite, cut, behind, length_at, bad_number, is_constructed, tag_of}
use Rattle.mta_ber.specs.Head.{Header, header_from, head}
use Rattle.mta_ber.specs.Canon.{class_octet}
use Rattle.mta_ber.specs.Octet.{IsOctets}
use Rattle.mta_ber.specs.Spelling.{IsGroup, IsHigh, IsIdent, IsLength, IsCount, IsHeader}
use Rattle.mta_ber.proofs.Steps.{bind_ok, chosen, passed, ok_is}

-- ---- the octets of a number in base 128

abbrev ups : List ℕ → ℕ
ups bytes = prefix_len (λ b. not (ltb b 128)) bytes

ups_low : (b : ℕ) (bs : List ℕ) → b < 128 → ups (b ∷ bs) ≡ 0
ups_low b bs lt = ap (λ t. cond (not t) (1 + ups bs) 0) (lt-ltb b 128 lt)

ups_high : (b : ℕ) (bs : List ℕ) → 128 ≤ b → ups (b ∷ bs) ≡ 1 + ups bs
ups_high b bs le = ap (λ t. cond (not t) (1 + ups bs) 0) (le-ltb b 128 le)

ups_group : (g r : List ℕ) → IsGroup g → ups (g ++ r) + 1 ≡ length g
ups_group [] r h = absurd h
ups_group (b ∷ []) r h = omega (arith, ups_low b r h)
ups_group (b ∷ c ∷ bs) r h = omega (arith, ups_high b (c ∷ (bs ++ r)) h.0, ups_group (c ∷ bs) r h.1)

place_is : (bytes : List ℕ) → ups bytes < length bytes → position (λ b. nat_lt b 128) bytes ≡ Some (ups bytes)
place_is bytes lt = ap (λ t. cond t (Some (ups bytes)) None) (lt-ltb (ups bytes) (length bytes) lt)

pub group_again : (g r : List ℕ) → IsGroup g → group (g ++ r) ≡ Some (g, r)
group_again g r h =
    let e = ups_group g r h in
    let lt : ups (g ++ r) < length (g ++ r) = omega (arith, e, length-append g r) in
    ap (cut (g ++ r)) (place_is (g ++ r) lt) ∙ ap (λ n. Some (take n (g ++ r), drop n (g ++ r))) e
    ∙ rw (take_at g r (length g) refl, drop_at g r (length g) refl) refl

joins : (b : ℕ) (bs : List ℕ) (n : ℕ) → 128 ≤ b → IsGroup (take (suc n) bs) → IsGroup (take (suc (1 + n)) (b ∷ bs))
joins b [] n high h = absurd h
joins b (c ∷ cs) n high h = let e : 1 + n ≡ suc n = omega arith in rw e (high, h)

group_taken : (bytes : List ℕ) → ups bytes < length bytes → IsGroup (take (suc (ups bytes)) bytes)
group_taken [] lt = absurd (omega arith)
group_taken (b ∷ bs) lt =
    elim (cases_lt b 128) [
      | inl low ↦ subst (λ n. IsGroup (take (suc n) (b ∷ bs))) (sym (ups_low b bs low)) low
      | inr high ↦ subst (λ n. IsGroup (take (suc n) (b ∷ bs))) (sym (ups_high b bs high))
          (joins b bs (ups bs) high (group_taken bs (omega (arith, lt, ups_high b bs high))))
    ]

place_none : (bytes : List ℕ) → length bytes ≤ ups bytes → position (λ b. nat_lt b 128) bytes ≡ None
place_none bytes le = ap (λ t. cond t (Some (ups bytes)) None) (le-ltb (ups bytes) (length bytes) le)

abbrev pub found : {A : Type 0} → A → Option A
found x = Some x

pub some_is : {A : Type 0} (x y : A) → found x ≡ found y → x ≡ y
some_is x y e = cc

pub group_sound : (bytes g r : List ℕ) → group bytes ≡ Some (g, r) → IsGroup g × (bytes ≡ g ++ r)
group_sound bytes g r e =
    elim (cases_lt (ups bytes) (length bytes)) [
      | inl lt ↦ (
          let k : ups bytes + 1 ≡ suc (ups bytes) = omega arith in
          let is = some_is (take (ups bytes + 1) bytes, drop (ups bytes + 1) bytes) (g, r)
          (sym (ap (cut bytes) (place_is bytes lt)) ∙ e) in
          subst (λ (p : List ℕ × List ℕ). IsGroup p.0 × (bytes ≡ p.0 ++ p.1)) is (
            subst (λ n. IsGroup (take n bytes)) (sym k) (group_taken bytes lt),
            sym (take-append-drop (ups bytes + 1) bytes),
          ))
      | inr le ↦ absurd (let n : group bytes ≡ None = ap (cut bytes) (place_none bytes le) in cc)
    ]

-- ---- identifier octets

-- the parts of a first octet
record FirstOctet (class : ℕ) (c : Bool) (n first : ℕ) : Type 0 where
  number : first % 32 ≡ n
  class_is : first / 64 ≡ class
  form : is_constructed first ≡ c

first_octet : (class : ℕ) (c : Bool) (n : ℕ) → class < 4 → n < 32 → FirstOctet class c n (class * 64 + cond c 32 0 + n)
first_octet class true n lt few =
    record {
      number = omega arith;
      class_is = omega arith;
      form = let e : (class * 64 + 32 + n) / 32 % 2 ≡ 1 =
          omega arith in ap (λ v. eqb v 1) e;
    }
first_octet class false n lt few =
    record {
      number = omega arith;
      class_is = omega arith;
      form = let e : (class * 64 + 0 + n) / 32 % 2 ≡ 0 =
          omega arith in ap (λ v. eqb v 1) e;
    }

-- what an identifier means
pub record Means (t : Tag) (first : ℕ) (high : List ℕ) : Type 0 where
  pub tag : tag_of first high ≡ t
  pub good : bad_number high ≡ false

abbrev make_tag : ℕ → Bool → ℕ → Tag
make_tag class c n = record { class = class; constructed = c; number = n }

tag_is : (class class' : ℕ) (c c' : Bool) (n n' : ℕ) → class ≡ class' → c ≡ c' → n ≡ n'
    → make_tag class c n ≡ make_tag class' c' n'
tag_is class class' c c' n n' a b d = cc

low_ident_again : (t : Tag) (r : List ℕ) → t.class < 4 → t.number < 31
    → ident ((class_octet t + t.number) ∷ r) ≡ Some (class_octet t + t.number, [], r)
unfolding ident
low_ident_again t r class low =
    let f = first_octet t.class t.constructed t.number class (omega arith) in
    let lt : ltb ((class_octet t + t.number) % 32) 31 ≡ true = lt-ltb _ _ (omega (arith, f.number)) in
    rw lt refl

low_means : (t : Tag) → t.class < 4 → t.number < 31 → Means t (class_octet t + t.number) []
low_means t class low =
    let f = first_octet t.class t.constructed t.number class (omega arith) in
    record { tag = tag_is _ _ _ _ _ _ f.class_is f.form f.number; good = refl }

high_ident_again : (t : Tag) (hs r : List ℕ) → t.class < 4 → IsHigh t.number hs
    → ident ((class_octet t + 31) ∷ (hs ++ r)) ≡ Some (class_octet t + 31, hs, r)
unfolding ident
high_ident_again t hs r class h =
    let f = first_octet t.class t.constructed 31 class (omega arith) in
    let ge : ltb ((class_octet t + 31) % 32) 31 ≡ false = le-ltb _ _ (omega (arith, f.number)) in
    rw ge (ap (behind (class_octet t + 31)) (group_again hs r h.group))

good_number : (n : ℕ) (hs : List ℕ) → IsHigh n hs → bad_number hs ≡ false
good_number n [] h = absurd h.group
good_number n (b ∷ bs) h =
    let few : ltb 4 (length (b ∷ bs)) ≡ false = le-ltb _ _ h.few in
    let no : eqb b 128 ≡ false = ne_eqb b 128 h.no_zero in
    let value : ltb (base 128 (b ∷ bs)) 31 ≡ false = le-ltb _ _ (omega (arith, h.value, h.high)) in
    rw (few, no, value) refl

high_means : (t : Tag) (hs : List ℕ) → t.class < 4 → IsHigh t.number hs → Means t (class_octet t + 31) hs
high_means t hs class h =
    let f = first_octet t.class t.constructed 31 class (omega arith) in
    record { tag = tag_is _ _ _ _ _ _ f.class_is f.form (number_is t.number hs h); good = good_number t.number hs h }
  where
    number_is : (n : ℕ) (hs : List ℕ) → IsHigh n hs
        → cond (eqb (length hs) 0) ((class_octet t + 31) % 32) (base 128 hs) ≡ n
    number_is n [] h = absurd h.group
    number_is n (b ∷ bs) h = let some : eqb (length (b ∷ bs)) 0 ≡ false =
        ne_eqb (length (b ∷ bs)) 0 (λ e. omega arith) in rw some (sym h.value)

pub record Identified (t : Tag) (octets r : List ℕ) : Type 0 where
  pub first : ℕ
  pub high : List ℕ
  pub read : ident (octets ++ r) ≡ Some (first, high, r)
  pub means : Means t first high

pub ident_again : (t : Tag) (octets r : List ℕ) → IsIdent t octets → Identified t octets r
ident_again t octets r h = elim h.1 [
  | inl low ↦ record {
    first = class_octet t + t.number;
    high = [];
    read =
        rw low.octet (low_ident_again t r h.0 low.low);
    means = low_means t h.0 low.low;
  }
  | inr hi ↦ record {
    first = class_octet t + 31;
    high = hi.number;
    read =
        rw hi.octets_are (high_ident_again t hi.number r h.0 hi.high);
    means = high_means t hi.number h.0 hi.high;
  }
]

-- ---- length octets

definite_fits : (at n : ℕ) (r : List ℕ) → n ≤ length r → definite at n r ≡ Ok (Some n, r)
definite_fits at n r le = rw (le-ltb (length r) n le) refl

pub length_short : (at n : ℕ) (c : Bool) (r : List ℕ) → n < 128 → n ≤ length r → length_at at c (n ∷ r) ≡ Ok (Some n, r)
unfolding length_at
length_short at n c r lt le = rw (lt-ltb n 128 lt) (definite_fits at n r le)

length_long : (at : ℕ) (c : Bool) (ds r : List ℕ) → 1 ≤ length ds → length ds ≤ 8 → base 256 ds ≤ length r
    → length_at at c ((128 + length ds) ∷ (ds ++ r)) ≡ Ok (Some (base 256 ds), r)
unfolding length_at
length_long at c ds r some few le =
    let a : ltb (128 + length ds) 128 ≡ false = le-ltb _ _ (omega arith) in
    let b : eqb (128 + length ds) 128 ≡ false = ne_eqb _ _ (λ e. omega arith) in
    let d : ltb 136 (128 + length ds) ≡ false = le-ltb _ _ (omega arith) in
    let k : 128 + length ds - 128 ≡ length ds = omega arith in
    let e : ltb (length (ds ++ r)) (length ds) ≡ false = le-ltb _ _ (omega (arith, length-append ds r)) in
    rw (a, b, d, k, e, take_at ds r (length ds) refl, drop_at ds r (length ds) refl)
    (definite_fits at (base 256 ds) r le)

pub length_open : (at : ℕ) (r : List ℕ) → length_at at true (128 ∷ r) ≡ Ok (None, r)
unfolding length_at
length_open at r = refl

pub count_again : (at : ℕ) (c : Bool) (count : Option ℕ) (octets r : List ℕ) → IsCount c count octets
    → IfSome count (λ n. n ≤ length r) → length_at at c (octets ++ r) ≡ Ok (count, r)
count_again at c None octets r h fits = rw (h.0, h.1) (length_open at r)
count_again at c (Some n) octets r h fits = elim h [
  | inl short ↦ rw short.1 (length_short at n c r short.0 fits)
  | inr long ↦ (
      let le : base 256 long.digits ≤ length r = subst (λ m. m ≤ length r) long.value fits in
      rw long.octets_are (length_long at c long.digits r long.some long.few le
      ∙ ap (λ m. Ok (Some m, r)) (sym long.value)))
]

head_of_ident : (at depth first : ℕ) (high bytes r : List ℕ) (count : Option ℕ) (body : List ℕ) (t : Tag)
    → ident bytes ≡ Some (first, high, r) → Means t first high
    → length_at at t.constructed r ≡ Ok (count, body) → depth ≤ 16
    → head at depth bytes ≡ Ok (record { tag = t; count = count; body = body })
unfolding head
head_of_ident at depth first high bytes r count body t e m l d =
    let form : is_constructed first ≡ t.constructed = ap (λ (x : Tag). x.constructed) m.tag in
    let shallow : ltb 16 depth ≡ false = le-ltb _ _ d in
    let len : length_at at (is_constructed first) r ≡ Ok (count, body) = rw form l in
    ap (header_from at depth) e ∙ rw (len, m.good, shallow)
    (ap (λ (x : Tag). Ok (record { tag = x; count = count; body = body })) m.tag)

-- what is spelled as a header is read, whatever follows, where there is room for its content
pub head_again : (at depth : ℕ) (t : Tag) (count : Option ℕ) (octets body : List ℕ) → IsHeader t count octets
    → IfSome count (λ n. n ≤ length body) → depth ≤ 16
    → head at depth (octets ++ body) ≡ Ok (record { tag = t; count = count; body = body })
head_again at depth t count octets body h fits d =
    let i = ident_again t h.ident (h.lengths ++ body) h.is_ident in
    let l = count_again at t.constructed count h.lengths body h.is_count fits in
    let regrouped : octets ++ body ≡ h.ident ++ (h.lengths ++ body) =
    rw h.octets_are (append_assoc h.ident h.lengths body) in
    ap (head at depth) regrouped ∙ head_of_ident at depth i.first i.high (h.ident ++ (h.lengths ++ body))
    (h.lengths ++ body) count body t i.read i.means l d

-- ---- and nothing else is read

-- every octet is below 256
abbrev pub IsBytes : List ℕ → Type 0
IsBytes bytes = IsOctets bytes

-- an identifier that was read
pub record Read (first : ℕ) (high r bytes : List ℕ) : Type 0 where
  pub octets_are : bytes ≡ first ∷ (high ++ r)
  pub form : ((first % 32 < 31) × (high ≡ [])) ⊎ ((31 ≤ first % 32) × IsGroup high)

abbrev three : ℕ → List ℕ → List ℕ → ℕ × List ℕ × List ℕ
three a b c = (a, b, c)

some_three : (a a' : ℕ) (b b' c c' : List ℕ) → found (three a b c) ≡ found (three a' b' c') → (a ≡ a') × (b ≡ b')
    × (c ≡ c')
some_three a a' b b' c c' e = (
  ap (λ (p : ℕ × List ℕ × List ℕ). p.0) (some_is (three a b c) (three a' b' c') e),
  ap (λ (p : ℕ × List ℕ × List ℕ). p.1) (some_is (three a b c) (three a' b' c') e),
  ap (λ (p : ℕ × List ℕ × List ℕ). p.2) (some_is (three a b c) (three a' b' c') e),
)

ident_sound : (bytes : List ℕ) (first : ℕ) (high r : List ℕ) → ident bytes ≡ Some (first, high, r)
    → Read first high r bytes
unfolding ident
ident_sound [] first high r e = absurd cc
ident_sound (b ∷ bs) first high r e = elim (cases_lt (b % 32) 31) [
  | inl lt ↦ (
      let t : ltb (b % 32) 31 ≡ true = lt-ltb _ _ lt in
      let is = some_three b first [] high bs r (rw t at e) in
      record { octets_are = cc (is.0, is.1, is.2); form = inl (subst (λ n. n % 32 < 31) is.0 lt, sym is.1) })
  | inr ge ↦ (
      let t : ltb (b % 32) 31 ≡ false = le-ltb _ _ ge in
      high_read (group bs) refl ge (rw t at e))
]
  where
    high_read : (g : Option (List ℕ × List ℕ)) → group bs ≡ g → 31 ≤ b % 32 → behind b g ≡ Some (first, high, r)
        → Read first high r (b ∷ bs)
    high_read None is ge e = absurd cc
    high_read (Some p) is ge e =
        let q = some_three b first p.0 high p.1 r e in
        let s = group_sound bs p.0 p.1 is in
        record {
          octets_are = cc (s.1, q.0, q.1, q.2);
          form =
              inr (subst (λ n. 31 ≤ n % 32) q.0 ge, subst IsGroup q.1 s.0);
        }

pub or_false : (a b : Bool) → (a || b) ≡ false → (a ≡ false) × (b ≡ false)
or_false true b e = absurd cc
or_false false b e = (refl, e)

octet_parts : (first : ℕ) (c : Bool) → is_constructed first ≡ c → first / 64 * 64 + cond c 32 0 + first % 32 ≡ first
octet_parts first true e = let k = eqb-true (first / 32 % 2) 1 e in omega arith
octet_parts first false e = let k : first / 32 % 2 ≢ 1 = eqb-false (first / 32 % 2) 1 e in omega arith

high_sound : (high : List ℕ) → IsGroup high → bad_number high ≡ false → IsHigh (base 128 high) high
high_sound [] h e = absurd h
high_sound (b ∷ bs) h e =
    let a = or_false (ltb 4 (length (b ∷ bs)) || eqb b 128) (ltb (base 128 (b ∷ bs)) 31) e in
    let c = or_false (ltb 4 (length (b ∷ bs))) (eqb b 128) a.0 in
    record { group = h; few = ltb-false _ _ c.0; no_zero = eqb-false b 128 c.1; value = refl; high = ltb-false _ _ a.1 }

pub means_sound : (first : ℕ) (high : List ℕ) → first < 256 → ((first % 32 < 31) × (high ≡ []))
    ⊎ ((31 ≤ first % 32) × IsGroup high) → bad_number high ≡ false → IsIdent (tag_of first high) (first ∷ high)
means_sound first [] lt form good = elim form [
  | inl low ↦ (
    omega arith,
    inl (record {
      low = low.0;
      octet =
          ap (λ n. n ∷ []) (sym (octet_parts first (is_constructed first) refl));
    }),
  )
  | inr hi ↦ absurd hi.1
]
means_sound first (b ∷ bs) lt form good = elim form [
  | inl low ↦ absurd (let e = low.1 in cc)
  | inr hi ↦ (
      let h = high_sound (b ∷ bs) hi.1 good in
      let some : eqb (length (b ∷ bs)) 0 ≡ false = ne_eqb (length (b ∷ bs)) 0 (λ e. omega arith) in
      let number : (tag_of first (b ∷ bs)).number ≡ base 128 (b ∷ bs) = rw some refl in
      let all : first % 32 ≡ 31 = omega arith in (
        omega arith,
        inr (record {
          number = b ∷ bs;
          high = subst (λ n. IsHigh n (b ∷ bs)) (sym number) h;
          octets_are =
              ap (λ n. n ∷ (b ∷ bs)) (sym (octet_parts first (is_constructed first) refl)
              ∙ ap (λ k. first / 64 * 64 + cond (is_constructed first) 32 0 + k) all);
        }),
      ))
]

-- a length that was read
pub record Counted (c : Bool) (count : Option ℕ) (bytes body : List ℕ) : Type 0 where
  pub octets : List ℕ
  pub is_count : IsCount c count octets
  pub octets_are : bytes ≡ octets ++ body
  pub fits : IfSome count (λ n. n ≤ length body)

abbrev counts : Option ℕ → List ℕ → Option ℕ × List ℕ
counts count body = (count, body)

definite_sound : (at n : ℕ) (r : List ℕ) (count : Option ℕ) (body : List ℕ) → definite at n r ≡ Ok (count, body)
    → (count ≡ Some n) × (body ≡ r) × (n ≤ length r)
definite_sound at n r count body e =
    let g = passed (ltb (length r) n) _ _ (counts count body) e in
    let p = ok_is (counts (Some n) r) (counts count body) g.1 in
    (sym (ap (λ (x : Option ℕ × List ℕ). x.0) p), sym (ap (λ (x : Option ℕ × List ℕ). x.1) p), ltb-false _ _ g.0)

counted_as : (c : Bool) (n : ℕ) (octets r : List ℕ) (count : Option ℕ) (body bytes : List ℕ) → IsLength n octets
    → bytes ≡ octets ++ r → (count ≡ Some n) × (body ≡ r) × (n ≤ length r) → Counted c count bytes body
counted_as c n octets r count body bytes is e d = record {
  octets = octets;
  is_count = subst (λ o. IsCount c o octets) (sym d.0) is;
  octets_are = e ∙ ap (λ b. octets ++ b) (sym d.1);
  fits = subst (λ o. IfSome o (λ n. n ≤ length body)) (sym d.0) (subst (λ b. n ≤ length b) (sym d.1) d.2);
}

pub and_true : (a b : Bool) → (a && b) ≡ true → (a ≡ true) × (b ≡ true)
and_true true b e = (refl, e)
and_true false b e = absurd cc

opened : (c : Bool) (l : ℕ) (rest : List ℕ) (count : Option ℕ) (body : List ℕ) → l ≡ 128 → c ≡ true → None ≡ count
    → rest ≡ body → Counted c count (l ∷ rest) body
opened c l rest count body e t n b =
    subst (λ o. Counted c o (l ∷ rest) body) n
    (record { octets = l ∷ []; is_count = (t, ap (λ x. x ∷ []) e); octets_are = ap (λ x. l ∷ x) b; fits = tt })

pub length_sound : (at : ℕ) (c : Bool) (bytes : List ℕ) (count : Option ℕ) (body : List ℕ)
    → length_at at c bytes ≡ Ok (count, body) → Counted c count bytes body
unfolding length_at
length_sound at c [] count body e = absurd cc
length_sound at c (l ∷ rest) count body e = elim (chosen (ltb l 128) _ _ _ e) [
  | inl a ↦ counted_as c l (l ∷ []) rest count body (l ∷ rest) (inl (ltb-true _ _ a.0, refl)) refl
      (definite_sound at l rest count body a.1)
  | inr a ↦ elim (chosen (eqb l 128 && c) _ _ _ a.1) [
    | inl b ↦ (
        let o = and_true (eqb l 128) c b.0 in
        let p = ok_is (counts None rest) (counts count body) b.1 in
        let l-is : l ≡ 128 = eqb-true l 128 o.0 in
        opened c l rest count body l-is o.1 (ap (λ (x : Option ℕ × List ℕ). x.0) p)
        (ap (λ (x : Option ℕ × List ℕ). x.1) p))
    | inr b ↦ (
        let d = passed (eqb l 128 || ltb 136 l) _ _ _ b.1 in
        let f = passed (ltb (length rest) (l - 128)) _ _ _ d.1 in
        let o = or_false (eqb l 128) (ltb 136 l) d.0 in
        let high = ltb-false l 128 a.0 in
        let ne : l ≢ 128 = eqb-false l 128 o.0 in
        let few = ltb-false 136 l o.1 in
        let room = ltb-false (length rest) (l - 128) f.0 in
        let len : length (take (l - 128) rest) ≡ l - 128 = omega (arith, length-take (l - 128) rest) in
        let first : l ≡ 128 + length (take (l - 128) rest) = omega arith in
        counted_as c (base 256 (take (l - 128) rest)) (l ∷ take (l - 128) rest) (drop (l - 128) rest) count body
        (l ∷ rest)
        (inr (record {
          digits = take (l - 128) rest;
          some = omega arith;
          few = omega arith;
          value = refl;
          octets_are =
              ap (λ n. n ∷ take (l - 128) rest) first;
        }))
        (ap (λ x. l ∷ x) (sym (take-append-drop (l - 128) rest)))
        (definite_sound at (base 256 (take (l - 128) rest)) (drop (l - 128) rest) count body f.1))
  ]
]

-- a header that was read
pub record Headed (depth : ℕ) (h : Header) (bytes : List ℕ) : Type 0 where
  pub octets : List ℕ
  pub header : IsHeader h.tag h.count octets
  pub octets_are : bytes ≡ octets ++ h.body
  pub fits : IfSome h.count (λ n. n ≤ length h.body)
  pub shallow : depth ≤ 16

abbrev header : Tag → Option ℕ → List ℕ → Header
header t count body = record { tag = t; count = count; body = body }

head_sound_from : (at depth : ℕ) (bytes : List ℕ) (i : Option (ℕ × List ℕ × List ℕ)) (h : Header)
    → ((k : ℕ) → get_or bytes k 0 < 256) → ident bytes ≡ i → header_from at depth i ≡ Ok h → Headed depth h bytes
head_sound_from at depth bytes None h octets is e = absurd cc
head_sound_from at depth bytes (Some i) h octets is e =
    let r = ident_sound bytes i.0 i.1 i.2 is in
    let a = bind_ok (length_at at (is_constructed i.0) i.2) _ h e in
    let b = passed (bad_number i.1) _ _ h a.2 in
    let d = passed (ltb 16 depth) _ _ h b.1 in
    let l = length_sound at (is_constructed i.0) i.2 a.0.0 a.0.1 a.1 in
    let first : i.0 < 256 = subst (λ (x : List ℕ). get_or x 0 0 < 256) r.octets_are (octets 0) in
    let made : Headed depth (header (tag_of i.0 i.1) a.0.0 a.0.1) bytes = record {
      octets = (i.0 ∷ i.1) ++ l.octets;
      header = record {
        ident = i.0 ∷ i.1;
        lengths = l.octets;
        is_ident = means_sound i.0 i.1 first r.form b.0;
        is_count = l.is_count;
        octets_are = refl;
      };
      octets_are = r.octets_are ∙ ap (λ x. (i.0 ∷ i.1) ++ x) l.octets_are
          ∙ sym (append_assoc (i.0 ∷ i.1) l.octets a.0.1);
      fits = l.fits;
      shallow = ltb-false 16 depth d.0;
    } in
    subst (λ x. Headed depth x bytes) (ok_is (header (tag_of i.0 i.1) a.0.0 a.0.1) h d.1) made

-- what is read as a header is spelled as one
pub head_sound : (at depth : ℕ) (bytes : List ℕ) (h : Header) → IsBytes bytes → head at depth bytes ≡ Ok h
    → Headed depth h bytes
unfolding head
head_sound at depth bytes h octets e = head_sound_from at depth bytes (ident bytes) h octets refl e

pub head_octets : (at depth : ℕ) (bytes : List ℕ) (r : Result Head Fault) → IsBytes bytes
    → Gives head_view r (head at depth bytes) → IfOk r (λ h. IsOctets h.body.now)
head_octets at depth bytes (Ok h) octets g =
    let s = head_sound at depth bytes (head_view h) octets g in
    λ i. subst (λ x. get_or x i 0 < 256) (drop_at s.octets h.body.now (length s.octets) refl)
    (rw get_or-drop (subst (λ x. get_or x (length s.octets + i) 0 < 256) s.octets_are
    (octets (length s.octets + i))))
head_octets at depth bytes (Err f) octets g = tt
