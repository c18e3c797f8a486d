-- A string is gathered exactly where it is spelled.
use Rattle.std.proofs.Common.{◌≡◌, ℕ, zero, suc, ◌+◌, ◌-◌, ◌≤◌, Bool, true, false, cond, List, [], ◌∷◌, ◌++◌, length}
use Rattle.std.proofs.Common.{Result, Ok, Err, refl, sym, ap, subst, ◌∙◌, arith, inl, inr, ◌⊎◌, ◌<◌, ltb, eqb, eq-eqb}
use Rattle.std.specs.Prelude.{◌&&◌, ◌||◌, not, IsTrue, IfOk}
use Rattle.std.specs.List.{concat, list_all}
use Rattle.std.proofs.lemmas.Bool.Decides.{nat_tests}
use Rattle.std.proofs.lemmas.List.{take_at, length-append}
use Rattle.mta_ber.specs.declared.fault.Fault.{Fault}
use Rattle.mta_ber.specs.declared.tag.Tag.{Tag}
use Rattle.mta_ber.specs.Head.{◌>>=◌, fault}
use Rattle.mta_ber.specs.Element.{Part, part}
use Rattle.mta_ber.specs.declared.fault.ReadFault.{ReadFault}
use Rattle.mta_ber.specs.declared.fault.ReadFault.TheVariants as faults
use Rattle.mta_ber.specs.Parts.{parts_from, parts_of, Reads, IsReadAs}
use Rattle.mta_ber.specs.Spelling.{Stands, ending_of}
use Rattle.mta_ber.specs.declared.text.TextClass.{TextClass}
use Rattle.mta_ber.specs.Strings.{Piece, is_segment, is_empty, segment, gather, octets_piece, joined_as, class_number}
use Rattle.mta_ber.specs.Strings.{in_class, between, text_in}
use Rattle.mta_ber.specs.declared.fault.Kind.TheVariants.{BadInt}
use Rattle.mta_ber.specs.Bits.{BitString, no_bits, with_bits, at_most_64, good_unused, bits_of, bits_behind, bits_piece}
use Rattle.mta_ber.specs.Bits.{bits_in}
use Rattle.mta_ber.specs.Segmented.{Adds, is_none, AreSegments, SpellsString, AddsOctets, SpellsOctets, SpellsText}
use Rattle.mta_ber.specs.Segmented.{AddsBits, SpellsBits}
use Rattle.std.proofs.lemmas.Bool.{lt-ltb, le-ltb, ltb-true, ltb-false, eqb-true}
use Rattle.mta_ber.proofs.HeadLaws.{IsBytes, and_true}
use Rattle.mta_ber.proofs.RowLaws.{part_sound, stands_again, lent_part, IsBytes-back, IsBytes-take, some_ident}
use Rattle.mta_ber.proofs.RowLaws.{some_count}
use Rattle.mta_ber.proofs.RoundTrip.{step_on, parts_none}
use Rattle.mta_ber.proofs.Steps.{bind_ok, passed, taken, ok_is}

pub IsBytes-front : (a b : List ℕ) → IsBytes (a ++ b) → IsBytes a
IsBytes-front a b h = subst IsBytes (take_at a b (length a) refl) (IsBytes-take (length a) (a ++ b) h)

-- an element has at least two octets
pub stands_long : (depth : ℕ) (t : Tag) (content octets : List ℕ) → Stands depth t content octets → 2 ≤ length octets
stands_long depth t content octets h =
    let i = some_ident t h.is_header.ident h.is_header.is_ident in
    let l = some_count t.constructed h.count h.is_header.lengths h.is_header.is_count in
    omega (
      arith,
      ap length h.octets_are,
      length-append h.header (content ++ ending_of h.count),
      ap length h.is_header.octets_are,
      length-append h.is_header.ident h.is_header.lengths,
    )

empty_so : (a : List ℕ) (b : List ℕ) → 1 ≤ length a → is_empty (a ++ b) ≡ false
empty_so [] b h = absurd (omega arith)
empty_so (x ∷ a) b h = refl

-- what is left is empty where no segment is left
none_left : {S : Type 0} (inside : Bool → Adds S) (first second depth : ℕ) (last : Bool) (s t : S) (es : List (List ℕ))
    → AreSegments inside first second depth last s es t → is_empty (concat es) ≡ is_none es
none_left inside first second depth last s t [] h = refl
none_left inside first second depth last s t (e ∷ es) h =
    empty_so e (concat es) (let long = stands_long depth h.1.tag h.1.content e h.1.stands in omega arith)

record Segmented {S : Type 0} (inside : Bool → Adds S) (first second depth : ℕ) (last : Bool) (s : S) (bytes : List ℕ)
    (t : S) : Type 0 where
  segments : List (List ℕ)
  joined : bytes ≡ concat segments
  are : AreSegments inside first second depth last s segments t

module _ {S : Type 0} (piece : Piece S) (adds : Adds S) (first second : ℕ) where
  -- ---- what is gathered is spelled

  abbrev pub PieceSound : Type 0
  PieceSound = (last : Bool) (s t : S) (p : Part) → IsBytes p.content → piece last s p ≡ Ok t → adds last s p.content t

  abbrev pub Sound : ℕ → Type 0
  Sound left = (last : Bool) (s t : S) (p : Part) → p.depth + left ≡ 17 → IsBytes p.content
      → gather piece left first second last s p ≡ Ok t
      → SpellsString adds first second left p.tag.constructed last s p.content t

  rows_sound : (left : ℕ) → Sound left → (depth turns at : ℕ) (last : Bool) (s t : S) (bytes : List ℕ)
      → depth + left ≡ 17 → IsBytes bytes → length bytes ≤ turns
      → parts_from (segment (gather piece left first second) first second last) depth turns at s bytes ≡ Ok t
      → Segmented (SpellsString adds first second left) first second depth last s bytes t
  unfolding parts_from
  rows_sound left again depth zero at last s t [] d octets le e =
      record { segments = []; joined = refl; are = ok_is s t e }
  rows_sound left again depth (suc turns) at last s t [] d octets le e =
      record { segments = []; joined = refl; are = ok_is s t e }
  rows_sound left again depth zero at last s t (b ∷ bs) d octets le e = absurd (omega arith)
  rows_sound left again depth (suc turns) at last s t (b ∷ bs) d octets le e =
      let step = segment (gather piece left first second) first second last in
      let p = bind_ok (part at depth (b ∷ bs))
      (λ p. step s p >>= λ t. parts_from step depth turns (at + (length (b ∷ bs) - length p.rest)) t p.rest) t e in
      let q = bind_ok (step s p.0) (λ t. parts_from step depth turns
      (at + (length (b ∷ bs) - length p.0.rest)) t p.0.rest) t p.2 in
      let w = part_sound at depth (b ∷ bs) p.0 octets p.1 in
      let c = taken (is_segment first second p.0.tag) (gather piece left first second (last && is_empty p.0.rest) s p.0)
      _ q.0 q.1 in
      let whole = subst IsBytes w.octets_are octets in
      let own = subst IsBytes w.stands.octets_are (IsBytes-front p.0.octets p.0.rest whole) in
      let content = IsBytes-front p.0.content (ending_of w.stands.count)
      (IsBytes-back w.stands.header (p.0.content ++ ending_of w.stands.count) own) in
      let here : p.0.depth + left ≡ 17 = omega (arith, w.depth_is, d) in
      let inside = again (last && is_empty p.0.rest) s q.0 p.0 here content c.1 in
      let long = stands_long depth p.0.tag p.0.content p.0.octets w.stands in
      let r = rows_sound left again depth turns (at + (length (b ∷ bs) - length p.0.rest)) last q.0 t p.0.rest d
      (IsBytes-back p.0.octets p.0.rest whole)
      (omega (arith, le, long, ap length w.octets_are, length-append p.0.octets p.0.rest)) q.2 in
      let flag : is_empty p.0.rest ≡ is_none r.segments = ap is_empty r.joined
      ∙ none_left (SpellsString adds first second left) first second depth last q.0 t r.segments r.are in
      record {
        segments = p.0.octets ∷ r.segments;
        joined = w.octets_are ∙ ap (λ x. p.0.octets ++ x) r.joined;
        are = (
          q.0,
          record {
            tag = p.0.tag;
            content = p.0.content;
            is_tag = c.0;
            stands = w.stands;
            is_string =
                subst (λ l. SpellsString adds first second left p.0.tag.constructed (last && l) s p.0.content q.0) flag
                inside;
          },
          r.are,
        );
      }

  one_sound : (left : ℕ) → Sound left → PieceSound → (c last : Bool) (s t : S) (p : Part) → p.tag.constructed ≡ c
      → p.depth + suc left ≡ 17 → IsBytes p.content → gather piece (suc left) first second last s p ≡ Ok t
      → SpellsString adds first second (suc left) c last s p.content t
  unfolding gather parts_of
  one_sound left again sound true last s t p is d octets e =
      let deeper : 17 - left ≡ p.depth + 1 = omega arith in
      let r = rows_sound left again (p.depth + 1) (length p.content) p.start last s t p.content (omega arith) octets
      (omega arith) (rw is at e) in (
        r.segments,
        r.joined,
        subst (λ k. AreSegments (SpellsString adds first second left) first second k last s
            r.segments t) (sym deeper) r.are,
      )
  one_sound left again sound false last s t p is d octets e =
      sound last s t p octets (subst (λ b. cond b
      (parts_of (segment (gather piece left first second) first second last) s p) (piece last s p) ≡ Ok t) is e)

  nothing_left : (last : Bool) (s t : S) (p : Part) → gather piece 0 first second last s p ≡ Ok t → ⊥
  unfolding gather
  nothing_left last s t p e = cc

  pub gather_sound : PieceSound → (left : ℕ) → Sound left
  gather_sound sound zero last s t p d octets e = absurd (nothing_left last s t p e)
  gather_sound sound (suc left) last s t p d octets e =
      one_sound left (gather_sound sound left) sound p.tag.constructed last s t p refl d octets e

  -- ---- and what is spelled is gathered

  abbrev pub PieceFull : Type 0
  PieceFull = (last : Bool) (s t : S) (p : Part) → adds last s p.content t → piece last s p ≡ Ok t

  abbrev pub Full : ℕ → Type 0
  Full left = (last : Bool) (s t : S) (p : Part) → p.depth + left ≡ 17
      → SpellsString adds first second left p.tag.constructed last s p.content t
      → gather piece left first second last s p ≡ Ok t

  rows_full : (left : ℕ) → Full left → (depth turns at : ℕ) (last : Bool) (s t : S) (es : List (List ℕ))
      → depth + left ≡ 17 → length (concat es) ≤ turns
      → AreSegments (SpellsString adds first second left) first second depth last s es t
      → parts_from (segment (gather piece left first second) first second last) depth turns at s (concat es) ≡ Ok t
  rows_full left again depth turns at last s t [] d le h =
      parts_none (segment (gather piece left first second) first second last) depth turns at s ∙ ap (λ x. Ok x) h
  rows_full left again depth zero at last s t (e ∷ es) d le h =
      absurd (let long = stands_long depth h.1.tag h.1.content e h.1.stands in
      omega (arith, le, length-append e (concat es)))
  rows_full left again depth (suc turns) at last s t (e ∷ es) d le h =
      let step = segment (gather piece left first second) first second last in
      let g = h.1 in
      let long = stands_long depth g.tag g.content e g.stands in
      let lent = lent_part at depth g.tag (length g.stands.header) g.content (concat es) e in
      let flag : is_none es ≡ is_empty (concat es) =
      sym (none_left (SpellsString adds first second left) first second depth last h.0 t es h.2) in
      let inside : gather piece left first second (last && is_empty (concat es)) s lent ≡ Ok h.0 =
      again (last && is_empty (concat es)) s h.0 lent d
      (subst (λ l. SpellsString adds first second left g.tag.constructed (last && l) s g.content h.0) flag
      g.is_string) in
      let stepped : step s lent ≡ Ok h.0 = rw g.is_tag inside in
      step_on step depth turns at s h.0 (e ++ concat es) lent
      (stands_again at depth g.tag g.content e (concat es) g.stands) stepped
      ∙ rows_full left again depth turns (at + (length (e ++ concat es) - length (concat es))) last h.0 t es d
      (omega (arith, le, long, length-append e (concat es))) h.2

  one_full : (left : ℕ) → Full left → PieceFull → (c last : Bool) (s t : S) (p : Part) → p.tag.constructed ≡ c
      → p.depth + suc left ≡ 17 → SpellsString adds first second (suc left) c last s p.content t
      → gather piece (suc left) first second last s p ≡ Ok t
  unfolding gather parts_of
  one_full left again full true last s t p is d h =
      let deeper : 17 - left ≡ p.depth + 1 = omega arith in
      let are = subst (λ k. AreSegments (SpellsString adds first second left) first second k last s h.0 t) deeper h.2 in
      rw is (ap (λ b. parts_from (segment (gather piece left first second) first second last) (p.depth + 1)
      (length p.content) p.start s b) h.1
      ∙ rows_full left again (p.depth + 1) (length p.content) p.start last s t h.0 (omega arith)
      (omega (arith, ap length h.1)) are)
  one_full left again full false last s t p is d h =
      ap (λ b. cond b (parts_of (segment (gather piece left first second) first second last) s p) (piece last s p)) is
      ∙ full last s t p h

  pub gather_full : PieceFull → (left : ℕ) → Full left
  gather_full full zero last s t p d h = absurd h
  gather_full full (suc left) last s t p d h =
      one_full left (gather_full full left) full p.tag.constructed last s t p refl d h

-- ---- octets

octets_sound : PieceSound octets_piece AddsOctets 4 4
octets_sound last s t p octets e = sym (ok_is (s ++ p.content) t e)

octets_full : PieceFull octets_piece AddsOctets 4 4
octets_full last s t p h = ap (λ (x : List ℕ). Ok x) (sym h)

pub joined_sound : (own : ℕ) (p : Part) (t : List ℕ) → p.depth ≤ 16 → IsBytes p.content → joined_as own p ≡ Ok t
    → SpellsOctets own p.depth p.tag.constructed p.content t
unfolding joined_as
joined_sound own p t d octets e = gather_sound octets_piece AddsOctets 4 own octets_sound (17 - p.depth) true [] t p
    (omega arith) octets e

pub joined_full : (own : ℕ) (p : Part) (t : List ℕ) → p.depth ≤ 16
    → SpellsOctets own p.depth p.tag.constructed p.content t → joined_as own p ≡ Ok t
unfolding joined_as
joined_full own p t d h = gather_full octets_piece AddsOctets 4 own octets_full (17 - p.depth) true [] t p
    (omega arith) h

-- ---- texts

is_so : (b : Bool) → not b ≡ false → IsTrue b
is_so true e = refl
is_so false e = absurd cc

within : (low high n : ℕ) → between low high n ≡ true → (low ≤ n) × (n ≤ high)
within low high n e = grind (arith, nat_tests)

without : (low high n : ℕ) → low ≤ n → n ≤ high → between low high n ≡ true
without low high n a b = grind (arith, nat_tests)

pub text_sound : (class : TextClass) (low high : ℕ) (p : Part) (t : List ℕ) → p.depth ≤ 16 → IsBytes p.content
    → text_in class low high p ≡ Ok t → SpellsText class low high p.depth p.tag.constructed p.content t
unfolding text_in
text_sound class low high p t d octets e =
    let j = bind_ok (joined_as (class_number class) p) _ t e in
    let a = passed (not (list_all (in_class class) j.0)) _ _ t j.2 in
    let b = passed (not (between low high (length j.0))) _ _ t a.1 in
    let same = ok_is j.0 t b.1 in
    let size = within low high (length j.0) (is_so (between low high (length j.0)) b.0) in
    subst (λ x. SpellsText class low high p.depth p.tag.constructed p.content x) same (record {
      spelled = joined_sound (class_number class) p j.0 d octets j.1;
      is_text = record { characters = is_so (list_all (in_class class) j.0) a.0; at_least = size.0; at_most = size.1 };
    })

pub text_full : (class : TextClass) (low high : ℕ) (p : Part) (t : List ℕ) → p.depth ≤ 16
    → SpellsText class low high p.depth p.tag.constructed p.content t → text_in class low high p ≡ Ok t
unfolding text_in
text_full class low high p t d h =
    let g = joined_full (class_number class) p t d h.spelled in
    let size : between low high (length t) ≡ true = without low high (length t) h.is_text.at_least h.is_text.at_most in
    rw (g, h.is_text.characters, size) refl

-- ---- bits

or_true : (a b : Bool) → (a || b) ≡ true → (a ≡ true) ⊎ (b ≡ true)
or_true true b e = inl refl
or_true false b e = inr e

some_so : (octets : List ℕ) → not (is_empty octets) ≡ true → 1 ≤ length octets
some_so [] e = absurd cc
some_so (o ∷ os) e = omega arith

not_empty : (octets : List ℕ) → 1 ≤ length octets → not (is_empty octets) ≡ true
not_empty [] h = absurd (omega arith)
not_empty (o ∷ os) h = refl

record Good (last : Bool) (unused : ℕ) (octets : List ℕ) : Type 0 where
  few : unused < 8
  some : (unused ≡ 0) ⊎ ((last ≡ true) × (1 ≤ length octets))

good_sound : (last : Bool) (unused : ℕ) (octets : List ℕ) → good_unused last unused octets ≡ true
    → Good last unused octets
good_sound last unused octets e =
    let a = and_true (ltb unused 8) (eqb unused 0 || (last && not (is_empty octets))) e in
    record {
      few = ltb-true unused 8 a.0;
      some = elim (or_true (eqb unused 0) (last && not (is_empty octets)) a.1) [
        | inl z ↦ inl (eqb-true unused 0 z)
        | inr l ↦ inr (let b = and_true last (not (is_empty octets)) l in (b.0, some_so octets b.1))
      ];
    }

good_full : (last : Bool) (unused : ℕ) (octets : List ℕ) → unused < 8 → (unused ≡ 0)
    ⊎ ((last ≡ true) × (1 ≤ length octets)) → good_unused last unused octets ≡ true
good_full last unused octets few some =
    let t : ltb unused 8 ≡ true = lt-ltb unused 8 few in
    elim some [
      | inl z ↦ (let u : eqb unused 0 ≡ true = eq-eqb unused 0 z in rw (t, u) refl)
      | inr l ↦ (let n = not_empty octets l.1 in rw (t, l.0, n) (or_so (eqb unused 0)))
    ]
  where
    or_so : (b : Bool) → (b || true) ≡ true
    or_so true = refl
    or_so false = refl

behind_sound : (last : Bool) (at : ℕ) (content : List ℕ) (s t : BitString) → bits_behind s last at content ≡ Ok t
    → AddsBits last s content t
behind_sound last at [] s t e = absurd cc
behind_sound last at (unused ∷ octets) s t e =
    let g = taken (good_unused last unused octets) _ _ t e in
    let h = good_sound last unused octets g.0 in
    record {
      unused = unused;
      octets = octets;
      content_is = refl;
      few = h.few;
      some = h.some;
      after_is =
          sym (ok_is (at_most_64 (with_bits s (bits_of unused octets))) t g.1);
    }

bits_sound : PieceSound bits_piece AddsBits 3 3
bits_sound last s t p octets e = behind_sound last p.at p.content s t e

bits_full : PieceFull bits_piece AddsBits 3 3
bits_full last s t p h =
    ap (bits_behind s last p.at) h.content_is
    ∙ ap (λ b. cond b (Ok (at_most_64 (with_bits s (bits_of h.unused h.octets)))) (fault p.at BadInt))
    (good_full last h.unused h.octets h.few h.some)
    ∙ ap (λ (x : BitString). Ok x) (sym h.after_is)

pub bits_in_sound : (p : Part) (b : BitString) → p.depth ≤ 16 → IsBytes p.content → bits_in p ≡ Ok b
    → SpellsBits p.depth p.tag.constructed p.content b
unfolding bits_in
bits_in_sound p b d octets e =
    let g = bind_ok (gather bits_piece (17 - p.depth) 3 3 true no_bits p) _ b e in
    let f = passed (ltb 64 g.0.count) _ _ b g.2 in
    let same = ok_is g.0 b f.1 in
    subst (λ x. SpellsBits p.depth p.tag.constructed p.content x) same (record {
      spelled = gather_sound bits_piece AddsBits 3 3 bits_sound (17 - p.depth) true no_bits g.0 p
          (omega arith) octets g.1;
      few = ltb-false 64 g.0.count f.0;
    })

pub bits_in_full : (p : Part) (b : BitString) → p.depth ≤ 16 → SpellsBits p.depth p.tag.constructed p.content b
    → bits_in p ≡ Ok b
unfolding bits_in
bits_in_full p b d h =
    let g = gather_full bits_piece AddsBits 3 3 bits_full (17 - p.depth) true no_bits b p (omega arith) h.spelled in
    let few : ltb 64 b.count ≡ false = le-ltb 64 b.count h.few in
    rw (g, few) refl

-- ---- what readers answer

pub reads_found : {X : Type 0} (P : X → Type 0) (r : Result X ReadFault) (read : Result X Fault) → Reads r read
    → ((x : X) → read ≡ Ok x → P x) → IfOk r P
reads_found P (Ok x) read h f = f x h
reads_found P (Err e) read h f = tt

pub reads_as : {X : Type 0} (r : Result X ReadFault) (read : Result X Fault) (y : X) → Reads r read → read ≡ Ok y
    → IsReadAs r y
reads_as (Ok x) read y h e = ok_is x y (sym h ∙ e)
reads_as (Err faults.Memory) read y h e = tt
reads_as (Err (faults.Bad f)) read y h e = absurd (let k = sym h ∙ e in cc)

pub given_found : {X : Type 0} (P : X → Type 0) (r : Result X Fault) (read : Result X Fault) → r ≡ read
    → ((x : X) → read ≡ Ok x → P x) → IfOk r P
given_found P (Ok x) read h f = f x (sym h)
given_found P (Err e) read h f = tt

-- a primitive content is its own octets
pub octets_spelled : (own depth : ℕ) (content : List ℕ) → depth ≤ 16 → SpellsOctets own depth false content content
octets_spelled own depth content d =
    let left : suc (16 - depth) ≡ 17 - depth = omega arith in
    subst (λ k. SpellsString AddsOctets 4 own k false true [] content content) left refl
