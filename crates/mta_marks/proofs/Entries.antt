-- A mark is read of its body, and a body is that of the mark that is read.
use Rattle.std.proofs.Common.{◌≡◌, ◌≤◌, ◌<◌, ◌^◌, ℕ, Bool, true, false, cond, eqb, leb, List, [], ◌∷◌, ◌++◌, Option}
use Rattle.std.proofs.Common.{Some, None, Result, Ok, Err, refl, sym, ap, subst, ◌∙◌}
use Rattle.std.specs.Prelude.{IfOk}
use Rattle.std.proofs.lemmas.Bool.{leb-true, le-leb, eqb-true}
use Rattle.std.proofs.lemmas.List.{append-nil}
use Rattle.mta_ber.specs.declared.memory.Memory.{Memory}
use Rattle.mta_records.specs.Fields.{a_number, a_word, is_nothing}
use Rattle.mta_records.proofs.FieldForms.{word_is}
use Rattle.mta_records.proofs.Forms.{IsForm, both_is, narrowed_is, number32_is}
use Rattle.mta_records.proofs.Splits.{AreOctets, octets-tail}
use Rattle.mta_marks.specs.declared.mark.Mark.{Mark}
use Rattle.mta_marks.specs.declared.mark.MarkKind.{MarkKind}
use Rattle.mta_marks.specs.declared.mark.MarkKind.TheVariants as Kinds
use Rattle.mta_marks.specs.Marks.{IsEntry, IsMark, a_place, an_entry, body_of, entry_octets, octet_of}
use Rattle.mta_marks.specs.Reading.{alone, entry_in, kind_of, mark_of, mark_with}

-- ---- entries

some_same : {A : Type 0} (x y : A) → ◌≡◌ {A = Option A} (Some x) (Some y) → x ≡ y
some_same x y e = cc

place_is : IsForm a_place
place_is = narrowed_is a_number (λ n. leb 1 n) (λ n. (1 ≤ n) × (n < 2 ^ 32)) number32_is
    (record { widens = λ n l. l.1; passes = λ n l. le-leb 1 n l.0; fits = λ n w e. (leb-true 1 n e, w) })

entry_is : IsForm an_entry
entry_is = both_is a_word a_place word_is place_is

alone_ok : {Y : Type 0} (x : Y) (rest : List ℕ) (y : Y) → cond (is_nothing rest) (Some x) None ≡ Some y
    → ◌≡◌ {A = Result (Y × List ℕ) ℕ} (Ok (x, rest)) (Ok (y, []))
alone_ok {Y} x [] y e = ap (λ (z : Y). ok (z, [])) (some_same x y e)
  where
    ok : Y × List ℕ → Result (Y × List ℕ) ℕ
    ok z = Ok z
alone_ok x (o ∷ rest) y e = absurd cc

alone_is : {Y : Type 0} (r : Result (Y × List ℕ) ℕ) (y : Y) → alone r ≡ Some y → r ≡ Ok (y, [])
alone_is (Ok x) y e = alone_ok x.0 x.1 y e
alone_is (Err left) y e = absurd cc

pub entry_found : (octets mailbox : List ℕ) (number : ℕ) → AreOctets octets
    → entry_in octets ≡ Some (mailbox, number) → IsEntry mailbox number × (entry_octets mailbox number ≡ octets)
unfolding entry_in entry_octets
entry_found octets mailbox number each e =
    let read = alone_is (an_entry.at octets) (mailbox, number) e in
    let s = entry_is.splits octets (mailbox, number) [] each read in
    (s.1, sym (s.0.whole ∙ append-nil (an_entry.spelled (mailbox, number))))

pub entry_again : (mailbox : List ℕ) (number : ℕ) → IsEntry mailbox number
    → entry_in (entry_octets mailbox number) ≡ Some (mailbox, number)
unfolding entry_in entry_octets
entry_again mailbox number is =
    ap alone
    (subst (λ (o : List ℕ). an_entry.at o ≡ Ok ((mailbox, number), []))
    (append-nil (an_entry.spelled (mailbox, number))) (entry_is.again (mailbox, number) [] is))

pub entry_same : (a b : List ℕ) (m n : ℕ) → IsEntry a m → IsEntry b n → entry_octets a m ≡ entry_octets b n
    → (a ≡ b) × (m ≡ n)
entry_same a b m n p q e =
    let same : (a, m) ≡ (b, n) = some_same (a, m) (b, n) (sym (entry_again a m p) ∙ ap entry_in e ∙ entry_again b n q)
    in
    (ap (λ (x : List ℕ × ℕ). x.0) same, ap (λ (x : List ℕ × ℕ). x.1) same)

-- ---- marks

kind_octet : (o : ℕ) (kind : MarkKind) → kind_of o ≡ Some kind → octet_of kind ≡ o
kind_octet o kind e = by_one (eqb o 1) refl e
  where
    by_two : (test : Bool) → eqb o 2 ≡ test → cond test (Some Kinds.Deleted) None ≡ Some kind → octet_of kind ≡ o
    by_two true is w = ap octet_of (sym (some_same Kinds.Deleted kind w)) ∙ sym (eqb-true o 2 is)
    by_two false is w = absurd cc

    by_one : (test : Bool) → eqb o 1 ≡ test
        → cond test (Some Kinds.Fetched) (cond (eqb o 2) (Some Kinds.Deleted) None) ≡ Some kind → octet_of kind ≡ o
    by_one true is w = ap octet_of (sym (some_same Kinds.Fetched kind w)) ∙ sym (eqb-true o 1 is)
    by_one false is w = by_two (eqb o 2) refl w

kind_again : (kind : MarkKind) → kind_of (octet_of kind) ≡ Some kind
kind_again Kinds.Fetched = refl
kind_again Kinds.Deleted = refl

mark_found : (body : List ℕ) (m : Mark) → AreOctets body → mark_of body ≡ Some m → IsMark m × (body_of m ≡ body)
mark_found [] m each e = absurd cc
mark_found (o ∷ octets) m each e = by_kind (kind_of o) (entry_in octets) refl refl e
  where
    by_kind : (k : Option MarkKind) (x : Option (List ℕ × ℕ)) → kind_of o ≡ k → entry_in octets ≡ x
        → mark_with k x ≡ Some m → IsMark m × (body_of m ≡ o ∷ octets)
    by_kind None x ke xe w = absurd cc
    by_kind (Some kind) None ke xe w = absurd cc
    by_kind (Some kind) (Some entry) ke xe w =
        let f = entry_found octets entry.0 entry.1 (octets-tail o octets each) xe in
        subst (λ (z : Mark). IsMark z × (body_of z ≡ o ∷ octets))
        (some_same (record { kind = kind; mailbox = entry.0; number = entry.1 }) m w) (
          f.0,
          ap (λ (x : ℕ). x ∷ entry_octets entry.0 entry.1) (kind_octet o kind ke)
              ∙ ap (λ (rest : List ℕ). o ∷ rest) f.1,
        )

pub mark_again : (m : Mark) → IsMark m → mark_of (body_of m) ≡ Some m
mark_again m is =
    ap (λ (k : Option MarkKind). mark_with k (entry_in (entry_octets m.mailbox m.number))) (kind_again m.kind)
    ∙ ap (mark_with (Some m.kind)) (entry_again m.mailbox m.number is)

pub body_same : (s t : Mark) → IsMark s → IsMark t → body_of s ≡ body_of t → s ≡ t
body_same s t p q e = some_same s t (sym (mark_again s p) ∙ ap mark_of e ∙ mark_again t q)

-- ---- what is answered

pub read_found : (r : Result (Option Mark) Memory) (body : List ℕ) → AreOctets body → IfOk r (λ o. o ≡ mark_of body)
    → (m : Mark) → r ≡ Ok (Some m) → IsMark m × (body_of m ≡ body)
read_found r body each is m e =
    mark_found body m each
    (sym (subst (λ (x : Result (Option Mark) Memory). IfOk x (λ (o : Option Mark). o ≡ mark_of body)) e is))

pub read_none : (r : Result (Option Mark) Memory) (body : List ℕ) → IfOk r (λ o. o ≡ mark_of body)
    → r ≡ Ok None → (m : Mark) → IsMark m → body_of m ≡ body → ⊥
read_none r body is e m mark same =
    let none : None ≡ mark_of body =
    subst (λ (x : Result (Option Mark) Memory). IfOk x (λ (o : Option Mark). o ≡ mark_of body)) e is in
    let some : mark_of body ≡ Some m = ap mark_of (sym same) ∙ mark_again m mark in
    let wrong : ◌≡◌ {A = Option Mark} None (Some m) = none ∙ some in
    cc
