-- A text form is short: at most 60 parts follow one another, each of fewer than 200 octets.
use Rattle.std.proofs.Common.{◌≡◌, ℕ, ◌+◌, ◌*◌, ◌-◌, ◌≤◌, ◌<◌, ◌^◌, ◌⊎◌, Bool, true, false, cond, eqb, List, [], ◌∷◌}
use Rattle.std.proofs.Common.{◌++◌, length, take, Err, sym, ap, ◌∙◌, inl, inr, arith, length-append, ◌&&◌}
use Rattle.std.specs.Prelude.{map, nat_lt, ◌||◌}
use Rattle.std.specs.List.{flat_map, list_all}
use Rattle.std.proofs.lemmas.Bool.{and_parts, or_cases, eqb-true, leb-true, cases_Bool}
use Rattle.std.proofs.lemmas.Bool.Decides.{nat_tests}
use Rattle.std.proofs.lemmas.List.{length-take-le}
use Rattle.mta_ber.specs.Strings.{is_empty}
use Rattle.mta_names.specs.Values.{is_letter, is_digit}
use Rattle.mta_name_text.specs.declared.key.Key.{Key}
use Rattle.mta_name_text.specs.declared.key.Key.TheVariants as Keys
use Rattle.mta_name_text.specs.declared.part.Part.{Part}
use Rattle.mta_name_text.specs.declared.place.Grammar.{Grammar}
use Rattle.mta_name_text.specs.declared.place.Grammar.TheVariants.{Names, Patterns}
use Rattle.mta_name_text.specs.declared.place.Place.{Place}
use Rattle.mta_name_text.specs.declared.shape.Shape.{Shape}
use Rattle.mta_name_text.specs.declared.shape.Shape.TheVariants.{Country, Kind, Text}
use Rattle.mta_name_text.specs.Forms.{key_text, part_text, behind_semicolon, joined}
use Rattle.mta_name_text.specs.Grammar.{start, behind, is_again, follows, is_kind, IsPart, Follow, IsForm}
use Rattle.mta_name_text.specs.Keys.{place_of, repeats, has_kind, shape_of}
use Rattle.mta_name_text.specs.Shapes.{is_value}
use Rattle.mta_name_text.specs.Reading.{parts_of_text}
use Rattle.mta_name_text.proofs.Again.{first_fault}

-- ---- one part

abbrev most : Shape → ℕ
most Country = 3
most Kind = 8
most (Text class low high) = high

value_short : (s : Shape) (v : List ℕ) → is_value s v ≡ true → length v ≤ most s
unfolding is_value
value_short Country v h =
    elim (or_cases (list_all is_letter v && eqb (length v) 2) (list_all is_digit v && eqb (length v) 3) h) [
      | inl two ↦ omega (arith, eqb-true (length v) 2 (and_parts (list_all is_letter v) (eqb (length v) 2) two).1)
      | inr three ↦ omega (arith, eqb-true (length v) 3 (and_parts (list_all is_digit v) (eqb (length v) 3) three).1)
    ]
value_short Kind v h = leb-true (length v) 8 (and_parts _ _ h).1
value_short (Text class low high) v h = leb-true (length v) high (and_parts _ _ h).1

shape_short : (k : Key) → most (shape_of k) ≤ 128
shape_short Keys.Country = omega arith
shape_short Keys.Admd = omega arith
shape_short Keys.Prmd = omega arith
shape_short Keys.Organization = omega arith
shape_short Keys.Unit = omega arith
shape_short Keys.Surname = omega arith
shape_short Keys.Given = omega arith
shape_short Keys.Initials = omega arith
shape_short Keys.Generation = omega arith
shape_short Keys.Common = omega arith
shape_short Keys.Network = omega arith
shape_short Keys.Terminal = omega arith
shape_short Keys.User = omega arith
shape_short Keys.Pair = omega arith

key_short : (k : Key) → length (key_text k) ≤ 4
key_short Keys.Country = omega arith
key_short Keys.Admd = omega arith
key_short Keys.Prmd = omega arith
key_short Keys.Organization = omega arith
key_short Keys.Unit = omega arith
key_short Keys.Surname = omega arith
key_short Keys.Given = omega arith
key_short Keys.Initials = omega arith
key_short Keys.Generation = omega arith
key_short Keys.Common = omega arith
key_short Keys.Network = omega arith
key_short Keys.Terminal = omega arith
key_short Keys.User = omega arith
key_short Keys.Pair = omega arith

empty_short : (t : List ℕ) → is_empty t ≡ true → length t ≤ 8
empty_short [] h = omega arith
empty_short (c ∷ cs) h = absurd cc

kind_short : (b : Bool) (t : List ℕ) → is_kind b t ≡ true → length t ≤ 8
kind_short true t h = value_short Kind t h
kind_short false t h = empty_short t h

part_short : (x : Part) → IsPart x → length (part_text x) ≤ 141
part_short x h =
    let k = key_short x.key in
    let t = kind_short (has_kind x.key) x.kind h.kind in
    let v = value_short (shape_of x.key) x.value h.value in
    let s = shape_short x.key in
    let e = length-append (key_text x.key) (x.kind ++ 61 ∷ x.value) in
    let f = length-append x.kind (61 ∷ x.value) in
    omega arith

-- ---- how many parts may still follow

abbrev room : Place → ℕ
room p = 4 * (15 - p.last) + p.left

place_small : (k : Key) → place_of k ≤ 14
place_small Keys.Country = omega arith
place_small Keys.Admd = omega arith
place_small Keys.Prmd = omega arith
place_small Keys.Organization = omega arith
place_small Keys.Unit = omega arith
place_small Keys.Surname = omega arith
place_small Keys.Given = omega arith
place_small Keys.Initials = omega arith
place_small Keys.Generation = omega arith
place_small Keys.Common = omega arith
place_small Keys.Network = omega arith
place_small Keys.Terminal = omega arith
place_small Keys.User = omega arith
place_small Keys.Pair = omega arith

repeats_small : (k : Key) → repeats k ≤ 3
repeats_small Keys.Country = omega arith
repeats_small Keys.Admd = omega arith
repeats_small Keys.Prmd = omega arith
repeats_small Keys.Organization = omega arith
repeats_small Keys.Unit = omega arith
repeats_small Keys.Surname = omega arith
repeats_small Keys.Given = omega arith
repeats_small Keys.Initials = omega arith
repeats_small Keys.Generation = omega arith
repeats_small Keys.Common = omega arith
repeats_small Keys.Network = omega arith
repeats_small Keys.Terminal = omega arith
repeats_small Keys.User = omega arith
repeats_small Keys.Pair = omega arith

-- a part of the last key, or one of a key behind it
moves_on : (g : Grammar) (p : Place) (k : Key) → follows g p k ≡ true → ((p.last ≡ place_of k) × (1 ≤ p.left))
    ⊎ (p.last < place_of k)
moves_on Names p k h =
    let a = and_parts (nat_lt p.last (place_of k) || is_again p k) _ h in
    elim (or_cases (nat_lt p.last (place_of k)) (is_again p k) a.0) [
      | inl on ↦ inr (grind (arith, nat_tests))
      | inr again ↦ inl (let b = and_parts (eqb p.last (place_of k)) (nat_lt 0 p.left) again in
          (eqb-true p.last (place_of k) b.0, grind (arith, nat_tests)))
    ]
moves_on Patterns p k h =
    let a = and_parts (eqb (p.last + 1) (place_of k) || is_again p k) _ h in
    elim (or_cases (eqb (p.last + 1) (place_of k)) (is_again p k) a.0) [
      | inl next ↦ inr (let e = eqb-true (p.last + 1) (place_of k) next in omega arith)
      | inr again ↦ inl (let b = and_parts (eqb p.last (place_of k)) (nat_lt 0 p.left) again in
          (eqb-true p.last (place_of k) b.0, grind (arith, nat_tests)))
    ]

less_room : (last left place more : ℕ) → place ≤ 14 → more ≤ 3 → ((last ≡ place) × (1 ≤ left)) ⊎ (last < place)
    → 4 * (15 - place) + cond (eqb last place) (left - 1) more + 1 ≤ 4 * (15 - last) + left
less_room last left place more small few h =
    elim (cases_Bool (eqb last place)) [
      | inl same ↦ (
          let e = eqb-true last place same in
          rw same (elim h [
            | inl again ↦ (let l = again.1 in omega arith)
            | inr on ↦ absurd (omega arith)
          ]))
      | inr other ↦ rw other (elim h [
        | inl again ↦ absurd (let e : eqb last place ≡ true = ap (λ n. eqb last n) (sym again.0) ∙ same_number last in
            cc)
        | inr on ↦ omega arith
      ])
    ]
  where
    same_number : (n : ℕ) → eqb n n ≡ true
    same_number n = grind (arith, nat_tests)

room_behind : (g : Grammar) (p : Place) (k : Key) → follows g p k ≡ true → room (behind p k) + 1 ≤ room p
room_behind g p k h = less_room p.last p.left (place_of k) (repeats k) (place_small k) (repeats_small k)
    (moves_on g p k h)

-- ---- a text form

parts_short : (g : Grammar) (p q : Place) (xs : List Part) → Follow g p xs q
    → length (flat_map behind_semicolon (map part_text xs)) ≤ 200 * room p
parts_short g p q [] h = omega arith
parts_short g p q (x ∷ xs) h =
    let r = room_behind g p x.key h.0 in
    let s = part_short x h.1 in
    let m = parts_short g (behind p x.key) q xs h.2 in
    let e = length-append (59 ∷ part_text x) (flat_map behind_semicolon (map part_text xs)) in
    omega arith

joined_short : (texts : List (List ℕ)) → length (joined texts) ≤ length (flat_map behind_semicolon texts)
joined_short [] = omega arith
joined_short (t ∷ ts) =
    let e = length-append t (flat_map behind_semicolon ts) in
    let f = length-append (59 ∷ t) (flat_map behind_semicolon ts) in
    omega arith

form_short : (g : Grammar) (text : List ℕ) (parts : List Part) → IsForm g text parts → length text ≤ 12000
form_short g text parts h =
    let a = parts_short g start h.last parts h.follow in
    let b = joined_short (map part_text parts) in
    let e = ap length h.text_is in
    omega arith

-- some text form begins with all before the octet at fault
pub fault_short : (g : Grammar) (text : List ℕ) (at : ℕ) → parts_of_text g text ≡ Err at → at < 2 ^ 32
fault_short g text at e =
    let f = first_fault g text at e in
    let b = f.begun in
    let l = form_short g (take at text ++ b.rest) b.parts b.form in
    let m = length-append (take at text) b.rest in
    let n = length-take-le at text f.within in
    omega arith
