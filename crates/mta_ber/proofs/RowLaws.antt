-- A row is measured exactly where it is spelled.
use Rattle.std.proofs.Common.{◌≡◌, ℕ, zero, suc, ◌+◌, ◌-◌, ◌≤◌, ◌<◌, Bool, true, false, cond, eqb, List, [], ◌∷◌, ◌++◌}
use Rattle.std.proofs.Common.{length, take, drop, Option, Some, None, Result, Ok, refl, sym, ap, subst, ◌∙◌}
use Rattle.std.proofs.Common.{append_assoc, arith, inl, inr}
use Rattle.std.specs.Prelude.{IfSome, IfNone, ◌&&◌}
use Rattle.std.specs.List.{concat}
use Rattle.std.proofs.lemmas.Bool.{cases_lt, eqb-true}
use Rattle.std.proofs.lemmas.List.{take_at, drop_at, length-append, append-nil, take-append-drop, length-take}
use Rattle.std.proofs.lemmas.List.{get_or-drop, get_or-take, get_or_past, append_cancel_right}
use Rattle.mta_ber.specs.declared.fault.Fault.{Fault}
use Rattle.mta_ber.specs.declared.tag.Tag.{Tag}
use Rattle.mta_ber.specs.Head.{◌>>=◌, Header, head}
use Rattle.mta_ber.specs.Element.{Extent, at_end, end_size, content_size, element_size, row, run, Part, part, part_from}
use Rattle.mta_ber.specs.Element.{first, outermost}
use Rattle.mta_ber.specs.Spelling.{IsIdent, IsCount, IsRow, Row, IsContent, ending_of, Encloses, Whole, Stands}
use Rattle.mta_ber.specs.Spelling.{Standing, IsLentAt}
use Rattle.mta_ber.proofs.HeadLaws.{head_again, head_sound, Headed, IsBytes, and_true}
use Rattle.mta_ber.proofs.Steps.{bind_ok, chosen, ok_is}

-- ---- what is spelled is measured

-- `inside` measures a row whose elements P spells
pub record Measures (P : List ℕ → Type 0) (inside : Extent) : Type 0 where
  pub all : (at : ℕ) (content : List ℕ) → Row P false content → inside false at content ≡ Ok (length content)
  pub front : (at : ℕ) (content r : List ℕ) → Row P true content
      → inside true at (content ++ (0 ∷ 0 ∷ r)) ≡ Ok (length content + 2)

abbrev tagged : ℕ → Bool → ℕ → Tag
tagged class c n = record { class = class; constructed = c; number = n }

abbrev headed : Tag → Option ℕ → List ℕ → Header
headed t count body = record { tag = t; count = count; body = body }

content_again : (P : List ℕ → Type 0) (inside : Extent) (start class : ℕ) (c : Bool) (number : ℕ) (count : Option ℕ)
    (content r : List ℕ) → Measures P inside → IsContent P c count content
    → content_size inside start (headed (tagged class c number) count (content ++ (ending_of count ++ r))) ≡ Ok
    (length (content ++ ending_of count))
unfolding content_size
content_again P inside start class true number (Some n) content r m h =
    let t : take n (content ++ r) ≡ content = take_at content r n (sym h.0) in
    rw (t, m.all start content (h.1 refl)) (ap Ok (h.0 ∙ ap length (sym (append-nil content))))
content_again P inside start class false number (Some n) content r m h =
    ap Ok (h.0 ∙ ap length (sym (append-nil content)))
content_again P inside start class c number None content r m h = m.front start content r h
    ∙ ap Ok (sym (length-append content (0 ∷ 0 ∷ [])))

room_for : (P : List ℕ → Type 0) (c : Bool) (count : Option ℕ) (content r : List ℕ) → IsContent P c count content
    → IfSome count (λ n. n ≤ length (content ++ (ending_of count ++ r)))
room_for P c None content r h = tt
room_for P c (Some n) content r h = omega (arith, h.0, length-append content r)

-- an element, whatever follows it
element_again : (P : List ℕ → Type 0) (inside : Extent) (depth at : ℕ) (e r : List ℕ) → Measures P inside → depth ≤ 16
    → Encloses P e → element_size inside depth at (e ++ r) ≡ Ok (length e)
unfolding element_size
element_again P inside depth at e r m d h =
    let body = h.content ++ (ending_of h.count ++ r) in
    let octets : e ++ r ≡ h.header ++ body = ap (λ x. x ++ r) h.octets_are
    ∙ append_assoc h.header (h.content ++ ending_of h.count) r
    ∙ ap (λ x. h.header ++ x) (append_assoc h.content (ending_of h.count) r) in
    let head_is = head_again at depth h.tag h.count h.header body h.is_header
    (room_for P h.tag.constructed h.count h.content r h.is_content) d in
    let size = content_again P inside (at + (length (h.header ++ body) - length body)) h.tag.class h.tag.constructed
    h.tag.number h.count h.content r m h.is_content in
    let sum : length (h.header ++ body) - length body + length (h.content ++ ending_of h.count) ≡ length e =
    omega (
      arith,
      length-append h.header body,
      length-append h.header (h.content ++ ending_of h.count),
      ap length h.octets_are,
    ) in
    ap (element_size inside depth at) octets
    ∙ ap (λ x. x >>= λ k. content_size inside (at + (length (h.header ++ body) - length k.body)) k >>= λ n. Ok
    (length (h.header ++ body) - length k.body + n)) head_is
    ∙ ap (λ x. x >>= λ n. Ok (length (h.header ++ body) - length body + n)) size
    ∙ ap Ok sum

pub some_ident : (t : Tag) (octets : List ℕ) → IsIdent t octets → 1 ≤ length octets
some_ident t octets h = elim h.1 [
  | inl low ↦ omega (arith, ap length low.octet)
  | inr high ↦ omega (arith, ap length high.octets_are)
]

pub some_count : (c : Bool) (count : Option ℕ) (octets : List ℕ) → IsCount c count octets → 1 ≤ length octets
some_count c None octets h = omega (arith, ap length h.1)
some_count c (Some n) octets h =
    elim h [ inl short ↦ omega (arith, ap length short.1) | inr long ↦ omega (arith, ap length long.octets_are) ]

-- an element has at least two octets
pub whole_long : (P : List ℕ → Type 0) (e : List ℕ) → Encloses P e → 2 ≤ length e
whole_long P e h =
    let i = some_ident h.tag h.is_header.ident h.is_header.is_ident in
    let l = some_count h.tag.constructed h.count h.is_header.lengths h.is_header.is_count in
    omega (
      arith,
      ap length h.octets_are,
      length-append h.header (h.content ++ ending_of h.count),
      ap length h.is_header.octets_are,
      length-append h.is_header.ident h.is_header.lengths,
    )

not_ended : (marked : Bool) (e r : List ℕ) → 2 ≤ length e → (marked ≡ true → at_end true e ≡ false)
    → at_end marked (e ++ r) ≡ false
not_ended marked [] r long h = absurd (omega arith)
not_ended marked (b ∷ []) r long h = absurd (omega arith)
not_ended false (b ∷ c ∷ e) r long h = refl
not_ended true (b ∷ c ∷ e) r long h = h refl

-- what stands behind a row
abbrev pub behind_row : Bool → List ℕ → List ℕ
behind_row false r = []
behind_row true r = 0 ∷ 0 ∷ r

is_ended : (marked : Bool) (r : List ℕ) → at_end marked (behind_row marked r) ≡ true
is_ended false r = refl
is_ended true r = refl

row_end : (inside : Extent) (depth turns at : ℕ) (marked : Bool) (r : List ℕ)
    → row inside depth (suc turns) marked at (behind_row marked r) ≡ Ok (end_size marked)
unfolding row
row_end inside depth turns at marked r = rw (is_ended marked r) refl

row_more : (inside : Extent) (depth turns at n m : ℕ) (marked : Bool) (bytes : List ℕ) → at_end marked bytes ≡ false
    → element_size inside depth at bytes ≡ Ok n → row inside depth turns marked (at + n) (drop n bytes) ≡ Ok m
    → row inside depth (suc turns) marked at bytes ≡ Ok (n + m)
unfolding row
row_more inside depth turns at n m marked bytes more e h = rw (more, e, h) refl

rows_again : (P : List ℕ → Type 0) (inside : Extent) (depth : ℕ) (marked : Bool) → Measures P inside → depth ≤ 16
    → (es : List (List ℕ)) (turns at : ℕ) (r : List ℕ) → IsRow (Encloses P) marked es
    → length (concat es) < turns → row inside depth turns marked at (concat es ++ behind_row marked r) ≡ Ok
    (length (concat es) + end_size marked)
rows_again P inside depth marked m d [] zero at r h lt = absurd (omega arith)
rows_again P inside depth marked m d [] (suc turns) at r h lt = row_end inside depth turns at marked r
    ∙ ap Ok (omega arith)
rows_again P inside depth marked m d (e ∷ es) zero at r h lt = absurd (omega arith)
rows_again P inside depth marked m d (e ∷ es) (suc turns) at r h lt =
    let more = concat es ++ behind_row marked r in
    let long = whole_long P e h.0 in
    let octets : concat (e ∷ es) ++ behind_row marked r ≡ e ++ more =
    append_assoc e (concat es) (behind_row marked r) in
    let size = element_again P inside depth at e more m d h.0 in
    let sum = length-append e (concat es) in
    let rest = rows_again P inside depth marked m d es turns (at + length e) r h.2 (omega arith) in
    let after : row inside depth turns marked (at + length e) (drop (length e) (e ++ more)) ≡ Ok
    (length (concat es) + end_size marked) =
    ap (row inside depth turns marked (at + length e)) (drop_at e more (length e) refl) ∙ rest in
    ap (row inside depth (suc turns) marked at) octets
    ∙ row_more inside depth turns at (length e) (length (concat es) + end_size marked) marked (e ++ more)
    (not_ended marked e more long h.1) size after
    ∙ ap Ok (let total : length e + (length (concat es) + end_size marked) ≡ length
    (concat (e ∷ es)) + end_size marked = omega arith in total)

measures_rows : (P : List ℕ → Type 0) (inside : Extent) (depth : ℕ) → Measures P inside → depth ≤ 16
    → (at : ℕ) (marked : Bool) (content r : List ℕ) → Row (Encloses P) marked content
    → row inside depth (suc (length (content ++ behind_row marked r))) marked at (content ++ behind_row marked r) ≡ Ok
    (length content + end_size marked)
measures_rows P inside depth m d at marked content r h =
    let lt : length (concat h.elements) < suc (length (content ++ behind_row marked r)) =
    omega (arith, ap length h.joined, length-append content (behind_row marked r)) in
    ap (λ x. row inside depth (suc (length (content ++ behind_row marked r))) marked at (x ++ behind_row marked r))
    h.joined
    ∙ rows_again P inside depth marked m d h.elements (suc (length (content ++ behind_row marked r))) at r h.each lt
    ∙ ap (λ x. Ok (length x + end_size marked)) (sym h.joined)

run_one : (left : ℕ) (marked : Bool) (at : ℕ) (bytes : List ℕ)
    → run (suc left) marked at bytes ≡ row (run left) (17 - left) (suc (length bytes)) marked at bytes
unfolding run
run_one left marked at bytes = refl

-- a row, by what stands behind it
abbrev MeasuresAt : (List ℕ → Type 0) → Extent → Type 0
MeasuresAt P inside = (at : ℕ) (marked : Bool) (content r : List ℕ) → Row P marked content
    → inside marked at (content ++ behind_row marked r) ≡ Ok (length content + end_size marked)

measured : (P : List ℕ → Type 0) (inside : Extent) → MeasuresAt P inside → Measures P inside
measured P inside m = record {
  all = λ at content h. ap (inside false at) (sym (append-nil content)) ∙ m at false content [] h
      ∙ ap Ok (let e : length content + 0 ≡ length content = omega arith in e);
  front = λ at content r h. m at true content r h;
}

no_rows : (marked : Bool) (content : List ℕ) (es : List (List ℕ)) → IsRow (Whole 0) marked es → content ≡ concat es
    → content ≡ []
no_rows marked content [] each e = e
no_rows marked content (e ∷ es) each j = absurd each.0

measures_none : MeasuresAt (Whole 0) (run 1)
measures_none at marked content r h =
    let e = no_rows marked content h.elements h.each h.joined in
    run_one 0 marked at (content ++ behind_row marked r)
    ∙ ap (λ x. row (run 0) 17 (suc (length (x ++ behind_row marked r))) marked at (x ++ behind_row marked r)) e
    ∙ row_end (run 0) 17 (length (behind_row marked r)) at marked r
    ∙ ap Ok (let k : end_size marked ≡ length content + end_size marked = omega (arith, ap length e) in k)

pub run_measures : (left : ℕ) → left ≤ 16 → Measures (Whole left) (run (suc left))
run_measures zero le = measured (Whole 0) (run 1) measures_none
run_measures (suc left) le = measured (Whole (suc left)) (run (suc (suc left))) (λ at marked content r h.
    run_one (suc left) marked at (content ++ behind_row marked r)
    ∙ measures_rows (Whole left) (run (suc left)) (17 - suc left) (run_measures left (omega arith))
    (omega arith) at marked content r h)

-- ---- an element that is spelled is lent, whatever follows it

abbrev pub lent_part : ℕ → ℕ → Tag → ℕ → List ℕ → List ℕ → List ℕ → Part
lent_part at depth t size content r octets =
    record { tag = t; at = at; depth = depth; start = at + size; content = content; rest = r; octets = octets }

abbrev lent_whole : ℕ → ℕ → Tag → ℕ → List ℕ → List ℕ → List ℕ → Part
lent_whole at depth t s c r o = record { tag = t; at = at; depth = depth; start = s; content = c; rest = r; octets = o }

lent_is : (at depth : ℕ) (t : Tag) (s s' : ℕ) (c c' r r' o o' : List ℕ) → s ≡ s' → c ≡ c' → r ≡ r' → o ≡ o'
    → lent_whole at depth t s c r o ≡ lent_whole at depth t s' c' r' o'
lent_is at depth t s s' c c' r r' o o' a b e f = cc

-- the octets of an element that a header and a content make
front_of : (header body inner rest : List ℕ) (k : ℕ) → body ≡ inner ++ rest → k ≡ length inner
    → take (length (header ++ body) - length body + k) (header ++ body) ≡ header ++ inner
front_of header body inner rest k e size =
    let count : length (header ++ inner) ≡ length (header ++ body) - length body + k =
    omega (arith, length-append header body, length-append header inner) in
    ap (λ x. take (length (header ++ body) - length body + k) (header ++ x)) e
    ∙ ap (take (length (header ++ body) - length body + k)) (sym (append_assoc header inner rest))
    ∙ take_at (header ++ inner) rest (length (header ++ body) - length body + k) count

from_again : (at depth : ℕ) (t : Tag) (count : Option ℕ) (header content r : List ℕ) → depth ≤ 16
    → IfSome count (λ n. n ≡ length content) → IfNone count (Row (Whole (16 - depth)) true content)
    → part_from at depth (header ++ (content ++ (ending_of count ++ r)))
    (headed t count (content ++ (ending_of count ++ r))) ≡ Ok
    (lent_part at depth t (length header) content r (header ++ (content ++ ending_of count)))
unfolding part_from
from_again at depth t (Some n) header content r d definite row_is =
    let body = content ++ r in
    let size : at + (length (header ++ body) - length body) ≡ at + length header =
    omega (arith, length-append header body) in
    let octets = front_of header body (content ++ []) r n (ap (λ x. x ++ r) (sym (append-nil content)))
    (definite ∙ ap length (sym (append-nil content))) in
    ap (λ (x : Part). Ok x) (lent_is at depth t (at + (length (header ++ body) - length body)) (at + length header)
    (take n body) content (drop n body) r (take (length (header ++ body) - length body + n) (header ++ body))
    (header ++ (content ++ []))
    size (take_at content r n (sym definite)) (drop_at content r n (sym definite)) octets)
from_again at depth t None header content r d definite row_is =
    let body = content ++ (0 ∷ 0 ∷ r) in
    let size : at + (length (header ++ body) - length body) ≡ at + length header =
    omega (arith, length-append header body) in
    let left : 17 - depth ≡ suc (16 - depth) = omega arith in
    let m = run_measures (16 - depth) (omega arith) in
    let used : run (17 - depth) true (at + (length (header ++ body) - length body)) body ≡ Ok (length content + 2) =
    ap (λ k. run k true (at + (length (header ++ body) - length body)) body) left
    ∙ m.front (at + (length (header ++ body) - length body)) content r row_is in
    let two : length content + 2 - 2 ≡ length content = omega arith in
    let taken : take (length content + 2 - 2) body ≡ content =
    take_at content (0 ∷ 0 ∷ r) (length content + 2 - 2) (sym two) in
    let dropped : drop (length content + 2) body ≡ r =
    ap (drop (length content + 2)) (sym (append_assoc content (0 ∷ 0 ∷ []) r))
    ∙ drop_at (content ++ 0 ∷ 0 ∷ []) r (length content + 2) (length-append content (0 ∷ 0 ∷ [])) in
    let octets = front_of header body (content ++ 0 ∷ 0 ∷ []) r (length content + 2)
    (sym (append_assoc content (0 ∷ 0 ∷ []) r)) (sym (length-append content (0 ∷ 0 ∷ []))) in
    rw used (ap (λ (x : Part). Ok x)
    (lent_is at depth t (at + (length (header ++ body) - length body)) (at + length header)
    (take (length content + 2 - 2) body) content (drop (length content + 2) body) r
    (take (length (header ++ body) - length body + (length content + 2)) (header ++ body))
    (header ++ (content ++ 0 ∷ 0 ∷ [])) size taken dropped octets))

stands_room : (count : Option ℕ) (content r : List ℕ) → IfSome count (λ n. n ≡ length content)
    → IfSome count (λ n. n ≤ length (content ++ (ending_of count ++ r)))
stands_room None content r d = tt
stands_room (Some n) content r d = omega (arith, d, length-append content r)

pub stands_again : (at depth : ℕ) (t : Tag) (content e r : List ℕ) → (h : Stands depth t content e)
    → part at depth (e ++ r) ≡ Ok (lent_part at depth t (length h.header) content r e)
unfolding part
stands_again at depth t content e r h =
    let body = content ++ (ending_of h.count ++ r) in
    let octets : e ++ r ≡ h.header ++ body = ap (λ x. x ++ r) h.octets_are
    ∙ append_assoc h.header (content ++ ending_of h.count) r
    ∙ ap (λ x. h.header ++ x) (append_assoc content (ending_of h.count) r) in
    ap (λ b. head at depth b >>= part_from at depth b) octets
    ∙ ap (λ x. x >>= part_from at depth (h.header ++ body))
    (head_again at depth t h.count h.header body h.is_header (stands_room h.count content r h.definite) h.shallow)
    ∙ from_again at depth t h.count h.header content r h.shallow h.definite h.indefinite
    ∙ ap (λ o. Ok (lent_part at depth t (length h.header) content r o)) (sym h.octets_are)

-- ---- what is measured is spelled

-- a row that was found at the front
pub record Found (P : List ℕ → Type 0) (marked : Bool) (bytes : List ℕ) (n : ℕ) : Type 0 where
  pub content : List ℕ
  pub rest : List ℕ
  pub is_row : Row P marked content
  pub octets_are : bytes ≡ content ++ behind_row marked rest
  pub size : n ≡ length content + end_size marked

pub record Finds (P : List ℕ → Type 0) (inside : Extent) : Type 0 where
  pub found : (marked : Bool) (at n : ℕ) (bytes : List ℕ) → IsBytes bytes → inside marked at bytes ≡ Ok n
      → Found P marked bytes n

pub IsBytes-drop : (n : ℕ) (bytes : List ℕ) → IsBytes bytes → IsBytes (drop n bytes)
IsBytes-drop n bytes h i = rw get_or-drop (h (n + i))

pub IsBytes-take : (count : ℕ) (octets : List ℕ) → IsBytes octets → IsBytes (take count octets)
IsBytes-take count octets each place =
    elim (cases_lt place count) [
      | inl lt ↦ rw (get_or-take count octets place 0 lt) (each place)
      | inr le ↦ rw (get_or_past (take count octets) place 0 (omega (arith, length-take count octets))) (omega arith)
    ]

pub IsBytes-back : (a b : List ℕ) → IsBytes (a ++ b) → IsBytes b
IsBytes-back a b h = subst IsBytes (drop_at a b (length a) refl) (IsBytes-drop (length a) (a ++ b) h)

-- a content behind a header
record Content (P : List ℕ → Type 0) (c : Bool) (count : Option ℕ) (body : List ℕ) (k : ℕ) : Type 0 where
  content : List ℕ
  rest : List ℕ
  is_content : IsContent P c count content
  octets_are : body ≡ content ++ (ending_of count ++ rest)
  size : k ≡ length (content ++ ending_of count)

plain_row : (P : List ℕ → Type 0) (bytes : List ℕ) (n : ℕ) → Found P false bytes n → Row P false bytes
plain_row P bytes n f = subst (Row P false) (sym (f.octets_are ∙ append-nil f.content)) f.is_row

content_sound : (P : List ℕ → Type 0) (inside : Extent) (start class : ℕ) (c : Bool) (number : ℕ) (count : Option ℕ)
    (body : List ℕ) (k : ℕ) → Finds P inside → IsBytes body → IfSome count (λ n. n ≤ length body)
    → content_size inside start (headed (tagged class c number) count body) ≡ Ok k → Content P c count body k
unfolding content_size
content_sound P inside start class true number (Some n) body k f octets fits e =
    let a = bind_ok (inside false start (take n body)) _ k e in
    let row_is = plain_row P (take n body) a.0 (f.found false start a.0 (take n body) (IsBytes-take n body octets) a.1)
    in
    let len : n ≡ length (take n body) = omega (arith, length-take n body) in
    record {
      content = take n body;
      rest = drop n body;
      is_content = (len, λ _. row_is);
      octets_are =
          sym (take-append-drop n body);
      size = sym (ok_is n k a.2) ∙ len ∙ ap length (sym (append-nil (take n body)));
    }
content_sound P inside start class false number (Some n) body k f octets fits e =
    let len : n ≡ length (take n body) = omega (arith, length-take n body) in
    record {
      content = take n body;
      rest = drop n body;
      is_content = (len, λ e. absurd cc);
      octets_are =
          sym (take-append-drop n body);
      size = sym (ok_is n k e) ∙ len ∙ ap length (sym (append-nil (take n body)));
    }
content_sound P inside start class c number None body k f octets fits e =
    let r = f.found true start k body octets e in
    record {
      content = r.content;
      rest = r.rest;
      is_content = r.is_row;
      octets_are = r.octets_are;
      size = r.size
          ∙ sym (length-append r.content (0 ∷ 0 ∷ []));
    }

-- an element at the front
record Front (P : List ℕ → Type 0) (bytes : List ℕ) (n : ℕ) : Type 0 where
  element : List ℕ
  rest : List ℕ
  encloses : Encloses P element
  octets_are : bytes ≡ element ++ rest
  size : n ≡ length element

element_sound : (P : List ℕ → Type 0) (inside : Extent) (depth at n : ℕ) (bytes : List ℕ) → Finds P inside
    → IsBytes bytes → element_size inside depth at bytes ≡ Ok n → Front P bytes n
unfolding element_size
element_sound P inside depth at n bytes f octets e =
    let a = bind_ok (head at depth bytes) _ n e in
    let h = a.0 in
    let b = bind_ok (content_size inside (at + (length bytes - length h.body)) h) _ n a.2 in
    let s = head_sound at depth bytes h octets a.1 in
    let c = content_sound P inside (at + (length bytes - length h.body)) h.tag.class h.tag.constructed h.tag.number
    h.count h.body b.0 f (IsBytes-back s.octets h.body (subst IsBytes s.octets_are octets)) s.fits b.1 in
    let whole = s.octets ++ (c.content ++ ending_of h.count) in
    let split : bytes ≡ whole ++ c.rest = s.octets_are
    ∙ ap (λ x. s.octets ++ x) (c.octets_are ∙ sym (append_assoc c.content (ending_of h.count) c.rest))
    ∙ sym (append_assoc s.octets (c.content ++ ending_of h.count) c.rest) in
    record {
      element = whole;
      rest = c.rest;
      encloses = record {
        tag = h.tag;
        count = h.count;
        header = s.octets;
        content = c.content;
        is_header = s.header;
        is_content = c.is_content;
        octets_are = refl;
      };
      octets_are = split;
      size = sym (ok_is _ n b.2) ∙ (let sum : length bytes - length h.body + b.0 ≡ length whole =
          omega (
            arith,
            ap length s.octets_are,
            length-append s.octets h.body,
            length-append s.octets (c.content ++ ending_of h.count),
            c.size,
          ) in sum);
    }

ended_so : (marked : Bool) (bytes : List ℕ) → at_end marked bytes ≡ true → (r : List ℕ) × (bytes ≡ behind_row marked r)
ended_so false [] e = ([], refl)
ended_so false (b ∷ bs) e = absurd cc
ended_so true [] e = absurd cc
ended_so true (b ∷ []) e = absurd cc
ended_so true (b ∷ c ∷ bs) e =
    let a = and_true (eqb b 0) (eqb c 0) e in
    let b-is = eqb-true b 0 a.0 in
    let c-is = eqb-true c 0 a.1 in
    (bs, cc)

begins_not : (marked : Bool) (e r : List ℕ) → 2 ≤ length e → at_end marked (e ++ r) ≡ false → marked ≡ true
    → at_end true e ≡ false
begins_not marked [] r long h m = absurd (omega arith)
begins_not marked (b ∷ []) r long h m = absurd (omega arith)
begins_not false (b ∷ c ∷ e) r long h m = absurd cc
begins_not true (b ∷ c ∷ e) r long h m = h

rows_sound : (P : List ℕ → Type 0) (inside : Extent) (depth : ℕ) (marked : Bool) → Finds P inside
    → (turns at n : ℕ) (bytes : List ℕ) → IsBytes bytes → row inside depth turns marked at bytes ≡ Ok n
    → Found (Encloses P) marked bytes n
unfolding row
rows_sound P inside depth marked f zero at n bytes octets e = absurd cc
rows_sound P inside depth marked f (suc turns) at n bytes octets e = elim (chosen (at_end marked bytes) _ _ _ e) [
  | inl done ↦ (
      let r = ended_so marked bytes done.0 in
      record {
        content = [];
        rest = r.0;
        is_row = record { elements = []; each = tt; joined = refl };
        octets_are = r.1;
        size = sym (ok_is (end_size marked) n done.1)
            ∙ (let z : end_size marked ≡ 0 + end_size marked = omega arith in z);
      })
  | inr more ↦ (
      let a = bind_ok (element_size inside depth at bytes) _ n more.1 in
      let b = bind_ok (row inside depth turns marked (at + a.0) (drop a.0 bytes)) _ n a.2 in
      let x = element_sound P inside depth at a.0 bytes f octets a.1 in
      let rest-is : drop a.0 bytes ≡ x.rest = ap (drop a.0) x.octets_are ∙ drop_at x.element x.rest a.0 (sym x.size) in
      let y = rows_sound P inside depth marked f turns (at + a.0) b.0 (drop a.0 bytes)
      (IsBytes-drop a.0 bytes octets) b.1 in
      let begins = begins_not marked x.element x.rest (whole_long P x.element x.encloses)
      (subst (λ z. at_end marked z ≡ false) x.octets_are more.0) in
      record {
        content = x.element ++ y.content;
        rest = y.rest;
        is_row = record {
          elements = x.element ∷ y.is_row.elements;
          each = (x.encloses, begins, y.is_row.each);
          joined =
              ap (λ z. x.element ++ z) y.is_row.joined;
        };
        octets_are = x.octets_are ∙ ap (λ z. x.element ++ z) (sym rest-is ∙ y.octets_are)
            ∙ sym (append_assoc x.element y.content (behind_row marked y.rest));
        size = sym (ok_is (a.0 + b.0) n b.2)
            ∙ (let sum : a.0 + b.0 ≡ length (x.element ++ y.content) + end_size marked =
            omega (arith, x.size, y.size, length-append x.element y.content) in sum);
      })
]

last_level : (turns at n : ℕ) (marked : Bool) (bytes : List ℕ) → IsBytes bytes
    → row (run 0) 17 (suc turns) marked at bytes ≡ Ok n → Found (Whole 0) marked bytes n
unfolding row element_size
last_level turns at n marked bytes octets e = elim (chosen (at_end marked bytes) _ _ _ e) [
  | inl done ↦ (
      let r = ended_so marked bytes done.0 in
      record {
        content = [];
        rest = r.0;
        is_row = record { elements = []; each = tt; joined = refl };
        octets_are = r.1;
        size = sym (ok_is (end_size marked) n done.1)
            ∙ (let z : end_size marked ≡ 0 + end_size marked = omega arith in z);
      })
  | inr more ↦ (
      let a = bind_ok (element_size (run 0) 17 at bytes) _ n more.1 in
      let b = bind_ok (head at 17 bytes) _ a.0 a.1 in
      let s = head_sound at 17 bytes b.0 octets b.1 in
      let d = s.shallow in
      absurd (omega arith))
]

run_finds_at : (left : ℕ) → left ≤ 16 → (marked : Bool) (at n : ℕ) (bytes : List ℕ) → IsBytes bytes
    → run (suc left) marked at bytes ≡ Ok n → Found (Whole left) marked bytes n
run_finds_at zero le marked at n bytes octets e =
    last_level (length bytes) at n marked bytes octets (sym (run_one 0 marked at bytes) ∙ e)
run_finds_at (suc left) le marked at n bytes octets e =
    let inner : Finds (Whole left) (run (suc left)) =
    record { found = λ m a k bs o e. run_finds_at left (omega arith) m a k bs o e } in
    rows_sound (Whole left) (run (suc left)) (17 - suc left) marked inner (suc (length bytes)) at n bytes octets
    (sym (run_one (suc left) marked at bytes) ∙ e)

from_sound : (at depth : ℕ) (bytes : List ℕ) (t : Tag) (count : Option ℕ) (body : List ℕ) (p : Part) → IsBytes bytes
    → Headed depth (headed t count body) bytes → part_from at depth bytes (headed t count body) ≡ Ok p
    → Standing at depth p bytes
unfolding part_from
from_sound at depth bytes t (Some n) body p octets s e =
    let size : at + (length bytes - length body) ≡ at + length s.octets =
    omega (arith, ap length s.octets_are, length-append s.octets body) in
    let len : n ≡ length (take n body) = omega (arith, length-take n body, s.fits) in
    let front = front_of s.octets body (take n body ++ []) (drop n body) n
    (sym (take-append-drop n body) ∙ ap (λ x. x ++ drop n body) (sym (append-nil (take n body))))
    (len ∙ ap length (sym (append-nil (take n body)))) in
    let octets_is : take (length bytes - length body + n) bytes ≡ s.octets ++ (take n body ++ []) =
    ap (λ x. take (length x - length body + n) x) s.octets_are ∙ front in
    let made : Standing at depth (lent_whole at depth t (at + (length bytes - length body)) (take n body) (drop n body)
    (s.octets ++ (take n body ++ []))) bytes = record {
      stands = record {
        count = Some n;
        header = s.octets;
        is_header = s.header;
        shallow = s.shallow;
        definite = len;
        indefinite = tt;
        octets_are = refl;
      };
      octets_are = s.octets_are ∙ ap (λ x. s.octets ++ x)
          (sym (take-append-drop n body) ∙ ap (λ x. x ++ drop n body) (sym (append-nil (take n body))))
          ∙ sym (append_assoc s.octets (take n body ++ []) (drop n body));
      at_is = refl;
      depth_is = refl;
      start_is = size;
    } in
    let same = ap (λ o. lent_whole at depth t (at + (length bytes - length body)) (take n body) (drop n body) o)
    (sym octets_is) in
    subst (λ q. Standing at depth q bytes)
    (same ∙ ok_is (lent_whole at depth t (at + (length bytes - length body)) (take n body) (drop n body)
    (take (length bytes - length body + n) bytes)) p e) made
from_sound at depth bytes t None body p octets s e =
    let start = at + (length bytes - length body) in
    let a = bind_ok (run (17 - depth) true start body)
    (λ k. Ok (lent_whole at depth t start (take (k - 2) body) (drop k body)
    (take (length bytes - length body + k) bytes))) p e in
    let shallow = s.shallow in
    let left : 17 - depth ≡ suc (16 - depth) = omega arith in
    let within = IsBytes-back s.octets body (subst IsBytes s.octets_are octets) in
    let f = run_finds_at (16 - depth) (omega arith) true start a.0 body within
    (ap (λ k. run k true start body) (sym left) ∙ a.1) in
    let size : start ≡ at + length s.octets = omega (arith, ap length s.octets_are, length-append s.octets body) in
    let two : a.0 - 2 ≡ length f.content = omega (arith, f.size) in
    let taken : take (a.0 - 2) body ≡ f.content = ap (take (a.0 - 2)) f.octets_are
    ∙ take_at f.content (0 ∷ 0 ∷ f.rest) (a.0 - 2) (sym two) in
    let whole : body ≡ (f.content ++ 0 ∷ 0 ∷ []) ++ f.rest = f.octets_are
    ∙ sym (append_assoc f.content (0 ∷ 0 ∷ []) f.rest) in
    let dropped : drop a.0 body ≡ f.rest = ap (drop a.0) whole
    ∙ drop_at (f.content ++ 0 ∷ 0 ∷ []) f.rest a.0 (length-append f.content (0 ∷ 0 ∷ []) ∙ sym f.size) in
    let front = front_of s.octets body (f.content ++ 0 ∷ 0 ∷ []) f.rest a.0 whole
    (f.size ∙ sym (length-append f.content (0 ∷ 0 ∷ []))) in
    let octets_is : take (length bytes - length body + a.0) bytes ≡ s.octets ++ (f.content ++ 0 ∷ 0 ∷ []) =
    ap (λ x. take (length x - length body + a.0) x) s.octets_are ∙ front in
    let made : Standing at depth (lent_whole at depth t start f.content f.rest (s.octets ++ (f.content ++ 0 ∷ 0 ∷ [])))
    bytes = record {
      stands = record {
        count = None;
        header = s.octets;
        is_header = s.header;
        shallow = shallow;
        definite = tt;
        indefinite = f.is_row;
        octets_are = refl;
      };
      octets_are = s.octets_are ∙ ap (λ x. s.octets ++ x) whole
          ∙ sym (append_assoc s.octets (f.content ++ 0 ∷ 0 ∷ []) f.rest);
      at_is = refl;
      depth_is = refl;
      start_is = size;
    } in
    let same = lent_is at depth t start start f.content (take (a.0 - 2) body) f.rest (drop a.0 body)
    (s.octets ++ (f.content ++ 0 ∷ 0 ∷ [])) (take (length bytes - length body + a.0) bytes) refl (sym taken)
    (sym dropped) (sym octets_is) in
    subst (λ q. Standing at depth q bytes)
    (same ∙ ok_is (lent_whole at depth t start (take (a.0 - 2) body) (drop a.0 body)
    (take (length bytes - length body + a.0) bytes)) p a.2) made

-- what is read stands there
pub part_sound : (at depth : ℕ) (bytes : List ℕ) (p : Part) → IsBytes bytes → part at depth bytes ≡ Ok p
    → Standing at depth p bytes
unfolding part
part_sound at depth bytes p octets e =
    let a = bind_ok (head at depth bytes) (part_from at depth bytes) p e in
    from_sound at depth bytes a.0.tag a.0.count a.0.body p octets (head_sound at depth bytes a.0 octets a.1) a.2

-- ---- the outermost element, and how elements end

headed_in : (depth : ℕ) (h : Header) (bytes : List ℕ) → depth ≤ 16 → Headed 1 h bytes → Headed depth h bytes
headed_in depth h bytes d s = record {
  octets = s.octets;
  header = s.header;
  octets_are = s.octets_are;
  fits = s.fits;
  shallow = d;
}

low_outermost : (t : Tag) → outermost t ≤ 16
low_outermost t = low_cond (eqb t.class 2 && eqb t.number 2)
  where
    low_cond : (b : Bool) → cond b 2 1 ≤ 16
    low_cond true = omega arith
    low_cond false = omega arith

tag_of_part : (at depth : ℕ) (bytes : List ℕ) (t : Tag) (count : Option ℕ) (body : List ℕ) (p : Part)
    → part_from at depth bytes (headed t count body) ≡ Ok p → p.tag ≡ t
unfolding part_from
tag_of_part at depth bytes t (Some n) body p e =
    sym (ap (λ (q : Part). q.tag) (ok_is
    (lent_whole at depth t (at + (length bytes - length body)) (take n body) (drop n body)
    (take (length bytes - length body + n) bytes)) p e))
tag_of_part at depth bytes t None body p e =
    let start = at + (length bytes - length body) in
    let a = bind_ok (run (17 - depth) true start body)
    (λ k. Ok (lent_whole at depth t start (take (k - 2) body) (drop k body)
    (take (length bytes - length body + k) bytes))) p e in
    sym (ap (λ (q : Part). q.tag) (ok_is
    (lent_whole at depth t start (take (a.0 - 2) body) (drop a.0 body)
    (take (length bytes - length body + a.0) bytes)) p a.2))

pub first_sound : (at : ℕ) (bytes : List ℕ) (p : Part) → IsBytes bytes → first at bytes ≡ Ok p
    → Standing at (outermost p.tag) p bytes
unfolding first
first_sound at bytes p octets e =
    let a = bind_ok (head at 1 bytes) (λ h. part_from at (outermost h.tag) bytes h) p e in
    let s = from_sound at (outermost a.0.tag) bytes a.0.tag a.0.count a.0.body p octets
    (headed_in (outermost a.0.tag) a.0 bytes (low_outermost a.0.tag) (head_sound at 1 bytes a.0 octets a.1)) a.2 in
    subst (λ t. Standing at (outermost t) p bytes)
    (sym (tag_of_part at (outermost a.0.tag) bytes a.0.tag a.0.count a.0.body p a.2)) s

pub first_stands : (at : ℕ) (t : Tag) (content e r : List ℕ) → (h : Stands (outermost t) t content e)
    → first at (e ++ r) ≡ Ok (lent_part at (outermost t) t (length h.header) content r e)
unfolding first
first_stands at t content e r h =
    let body = content ++ (ending_of h.count ++ r) in
    let octets : e ++ r ≡ h.header ++ body = ap (λ x. x ++ r) h.octets_are
    ∙ append_assoc h.header (content ++ ending_of h.count) r
    ∙ ap (λ x. h.header ++ x) (append_assoc content (ending_of h.count) r) in
    ap (λ b. head at 1 b >>= λ h. part_from at (outermost h.tag) b h) octets
    ∙ ap (λ x. x >>= λ k. part_from at (outermost k.tag) (h.header ++ body) k)
    (head_again at 1 t h.count h.header body h.is_header (stands_room h.count content r h.definite) (omega arith))
    ∙ from_again at (outermost t) t h.count h.header content r h.shallow h.definite h.indefinite
    ∙ ap (λ o. Ok (lent_part at (outermost t) t (length h.header) content r o)) (sym h.octets_are)

abbrev answer : Part → Result Part Fault
answer p = Ok p

pub part_is : (p q : Part) → answer p ≡ answer q → p ≡ q
part_is p q e = cc

-- no spelling of an element begins another
pub one_spelling : (depth : ℕ) (t t' : Tag) (c c' e e' x y : List ℕ) → Stands depth t c e → Stands depth t' c' e' → e
    ++ x ≡ e' ++ y → (e ≡ e') × (t ≡ t') × (c ≡ c')
one_spelling depth t t' c c' e e' x y h h' same =
    let p = lent_part 0 depth t (length h.header) c x e in
    let q = lent_part 0 depth t' (length h'.header) c' y e' in
    let pq : p ≡ q = part_is p q (sym (stands_again 0 depth t c e x h) ∙ ap (part 0 depth) same
    ∙ stands_again 0 depth t' c' e' y h') in
    let rest : x ≡ y = ap (λ (p : Part). p.rest) pq in (
      append_cancel_right e e' x (same ∙ ap (λ z. e' ++ z) (sym rest)),
      ap (λ (p : Part). p.tag) pq,
      ap (λ (p : Part). p.content) pq,
    )

-- ---- where what is lent stands

pub standing_lent : (at depth : ℕ) (p : Part) (bytes : List ℕ) → Standing at depth p bytes → IsLentAt at p bytes
standing_lent at depth p bytes s =
    let h = s.stands.header in
    let tail = ending_of s.stands.count ++ p.rest in
    let whole : bytes ≡ h ++ (p.content ++ tail) = s.octets_are ∙ ap (λ x. x ++ p.rest) s.stands.octets_are
    ∙ append_assoc h (p.content ++ ending_of s.stands.count) p.rest
    ∙ ap (λ x. h ++ x) (append_assoc p.content (ending_of s.stands.count) p.rest) in
    let size : p.start - at ≡ length h = omega (arith, s.start_is) in
    let behind : drop (p.start - at) bytes ≡ p.content ++ tail = ap (λ n. drop n bytes) size
    ∙ ap (drop (length h)) whole ∙ drop_at h (p.content ++ tail) (length h) refl in
    let count : length bytes - length p.rest ≡ length p.octets =
    omega (arith, ap length s.octets_are, length-append p.octets p.rest) in
    record {
      content = sym (ap (take (length p.content)) behind ∙ take_at p.content tail (length p.content) refl);
      rest = sym (ap (λ n. drop n bytes) count ∙ ap (drop (length p.octets)) s.octets_are
          ∙ drop_at p.octets p.rest (length p.octets) refl);
      octets = sym (ap (take (length p.octets)) s.octets_are ∙ take_at p.octets p.rest (length p.octets) refl);
    }
