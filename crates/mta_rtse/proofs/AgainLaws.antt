-- What is written of the protocol data units is read again.
use Rattle.std.proofs.Common.{◌≡◌, append_assoc, ℕ, ◌+◌, ◌^◌, ◌≤◌, ◌<◌, Bool, true, false, ltb, List, [], ◌++◌, length}
use Rattle.std.proofs.Common.{Option, Some, None, Result, Ok, refl, sym, ap, subst, ◌∙◌, arith, ℤ, pos}
use Rattle.std.specs.Prelude.{IfSome, FitsSigned}
use Rattle.std.specs.Int.{w64}
use Rattle.std.proofs.lemmas.List.{append-nil}
use Rattle.std.proofs.lemmas.Bool.{le-ltb}
use Rattle.std.proofs.lemmas.Int.{fits_signed_from_abs}
use Rattle.mta_ber.specs.declared.fault.Fault.{Fault}
use Rattle.mta_ber.specs.declared.tag.Tag.{Tag}
use Rattle.mta_ber.specs.declared.text.TextClass.TheVariants.{Ia5}
use Rattle.mta_ber.specs.Head.{◌>>=◌}
use Rattle.mta_ber.specs.Element.{Part, part, first, outermost, inner, alone, explicit}
use Rattle.mta_ber.specs.Parts.{required}
use Rattle.mta_ber.specs.Int.{in_range, int_in, SpellsInteger}
use Rattle.mta_ber.specs.Strings.{joined_as, IsText}
use Rattle.mta_ber.specs.Times.{last_moment, utc_in, moment_of, timed}
use Rattle.mta_ber.specs.Moments.{IsMomentText}
use Rattle.mta_ber.specs.Canon.{IsTag, element, primitive, constructed, optional}
use Rattle.mta_ber.specs.Contents.{int_content, utc_content, canon_utc}
use Rattle.mta_ber.specs.Laws.{with_rest, beside}
use Rattle.mta_ber.proofs.Steps.{bind_ok, ok_is}
use Rattle.mta_ber.proofs.CanonLaws.{lent}
use Rattle.mta_ber.proofs.RoundTrip.{part_again, first_again, element_long, Taken, one_taken, last_taken, whole_taken}
use Rattle.mta_ber.proofs.IntLaws.{int_sound}
use Rattle.mta_ber.proofs.StringLaws.{octets_spelled, joined_full}
use Rattle.mta_ber.proofs.ValueLaws.{numbers_again}
use Rattle.mta_ber.proofs.TimeAgain.{moments_again}
use Rattle.mta_ber.proofs.MomentLaws.{moment_sound}
use Rattle.mta_records.specs.Reference.{Identifier, identifier, longest_reference, IsIdentifier}
use Rattle.mta_rtse.specs.declared.identifier.ReferenceParts.{ReferenceParts}
use Rattle.mta_rtse.specs.Values.{last_number, number_in, flag_in, octets_in, word_in}
use Rattle.mta_rtse.specs.Identifier.{reference_step, no_reference, reference_in}
use Rattle.mta_rtse.proofs.ValueLaws.{number_full, flag_full, short_full, time_full, word_full}
use Rattle.mta_rtse.proofs.IdentifierLaws.{timed_so}
use Rattle.mta_rtse.proofs.SizeLaws.{int_short, utc_short}

pub context : (c : Bool) (number : ℕ) → number < 2 ^ 28 → IsTag (record { class = 2; constructed = c; number = number })
context c number h = record { class = omega arith; number = h }

pub universal : (c : Bool) (number : ℕ) → number < 2 ^ 28
    → IsTag (record { class = 0; constructed = c; number = number })
universal c number h = record { class = omega arith; number = h }

-- what is read of a whole element is read of its part
read_of : {A : Type 0} (read : Part → Result A Fault) (v : A) (t : Tag) (content : List ℕ) → IsTag t
    → length content < 2 ^ 64 → (first 0 (element t content ++ []) >>= with_rest read) ≡ beside v []
    → read (lent 0 (outermost t) t content []) ≡ Ok v
read_of {A} read v t content tag fits e =
    let found = first_again 0 t content [] tag fits in
    let inside : (read (lent 0 (outermost t) t content []) >>= λ x. beside x []) ≡ beside v [] =
    sym (ap (λ r. r >>= with_rest read) found) ∙ e in
    let x = bind_ok (read (lent 0 (outermost t) t content [])) (λ x. beside x []) (v, []) inside in
    let same : x.0 ≡ v = ap (λ (q : A × List ℕ). q.0) (ok_is (x.0, []) (v, []) x.2) in
    x.1 ∙ ap Ok same

-- ---- values

range_holds : (high n : ℕ) → n ≤ high → in_range (pos 0) (pos high) (pos n) ≡ true
range_holds high n le =
    let low : ltb n 0 ≡ false = le-ltb n 0 (omega arith) in
    let top : ltb high n ≡ false = le-ltb high n le in
    rw (low, top) refl

pub int_fits : (n : ℤ) → length (int_content n) ≤ 20
int_fits n = omega (arith, element_long (primitive 2 0) (int_content n), int_short (primitive 2 0) n)

spelled_number : (high n : ℕ) → n ≤ high → n < 2 ^ 32 → SpellsInteger (pos 0) (pos high) false (int_content (pos n))
    (pos n)
spelled_number high n le small =
    let t = primitive 2 0 in
    let fits : FitsSigned w64 (pos n) = fits_signed_from_abs w64 (pos n) (omega arith) in
    let e = numbers_again t (pos n) (pos 0) (pos high) [] 0 (context false 0 (omega arith)) fits
    (range_holds high n le) in
    let r = read_of (λ p. int_in p.at p.tag.constructed (pos 0) (pos high) p.content) (pos n) t (int_content (pos n))
    (context false 0 (omega arith)) (omega (arith, int_fits (pos n))) e in
    int_sound 0 false (pos 0) (pos high) (int_content (pos n)) (pos n) r

pub number_again : (n : ℕ) → n < 2 ^ 32 → (at depth class number : ℕ) (r : List ℕ) → depth ≤ 16
    → number_in (lent at depth (primitive class number) (int_content (pos n)) r) ≡ Ok n
number_again n small at depth class number r d =
    number_full n (lent at depth (primitive class number) (int_content (pos n)) r) d
    (spelled_number last_number n (omega arith) small)

pub flag_again : (at depth : ℕ) (r : List ℕ) → depth ≤ 16
    → flag_in (lent at depth (primitive 2 2) (int_content (pos 1)) r) ≡ Ok true
flag_again at depth r d = flag_full true (lent at depth (primitive 2 2) (int_content (pos 1)) r) d
    (spelled_number 1 1 (omega arith) (omega arith))

octets_again : (most : ℕ) (o : List ℕ) → length o ≤ most → (at depth class : ℕ) (number : ℕ) (r : List ℕ) → depth ≤ 16
    → octets_in most (lent at depth (primitive class number) o r) ≡ Ok o
octets_again most o h at depth class number r d = short_full most o (lent at depth (primitive class number) o r) d
    (record { spelled = octets_spelled _ depth o d; short = h })

pub word_again : (w : List ℕ) → IsText Ia5 1 32 w → (at depth class number : ℕ) (r : List ℕ) → depth ≤ 16
    → word_in (lent at depth (primitive class number) w r) ≡ Ok w
word_again w h at depth class number r d =
    word_full w (lent at depth (primitive class number) w r) d
    (record { spelled = octets_spelled 22 depth w d; is_text = h })

utc_fits : (m : ℕ) → length (utc_content m) ≤ 25
utc_fits m = omega (arith, element_long (primitive 0 23) (utc_content m), utc_short (primitive 0 23) m)

moment_text : (m : ℕ) → m ≤ last_moment → IsMomentText (utc_content m) m
unfolding utc_in
moment_text m le =
    let t = primitive 0 23 in
    let text = utc_content m in
    let whole = lent 0 1 t text [] in
    let r = read_of utc_in m t text (universal false 23 (omega arith)) (omega (arith, utc_fits m))
    (moments_again t m [] 0 (universal false 23 (omega arith)) le) in
    let j = bind_ok (joined_as 23 whole) (λ t. timed 0 (moment_of t)) m r in
    let same : j.0 ≡ text = ok_is j.0 text
    (sym j.1 ∙ joined_full 23 whole text (omega arith) (octets_spelled 23 1 text (omega arith))) in
    subst (λ t. IsMomentText t m) same (moment_sound j.0 m (timed_so 0 (moment_of j.0) m j.2))

time_again : (m : ℕ) → m ≤ last_moment → (at depth : ℕ) (r : List ℕ) → depth ≤ 16
    → utc_in (lent at depth (primitive 0 23) (utc_content m) r) ≡ Ok m
time_again m le at depth r d =
    time_full m (lent at depth (primitive 0 23) (utc_content m) r) d
    (record {
      text = utc_content m;
      spelled = octets_spelled 23 depth (utc_content m) d;
      is_text =
          moment_text m le;
    })

-- ---- explicit tags

pub explicit_again : {A : Type 0} (read : Part → Result A Fault) (v : A) (at depth number : ℕ) (t : Tag)
    (content r : List ℕ) → IsTag t → length content < 2 ^ 64 → depth + 1 ≤ 16
    → ((at : ℕ) → read (lent at (depth + 1) t content []) ≡ Ok v)
    → explicit read (lent at depth (constructed 2 number) (element t content) r) ≡ Ok v
unfolding inner alone
explicit_again read v at depth number t content r tag fits d h =
    let whole = lent at depth (constructed 2 number) (element t content) r in
    let found : part whole.start (depth + 1) (element t content) ≡ Ok (lent whole.start (depth + 1) t content []) =
    ap (part whole.start (depth + 1)) (sym (append-nil (element t content)))
    ∙ part_again whole.start (depth + 1) t content [] tag fits d in
    ap (λ r. r >>= λ q. read q >>= λ x. alone q >>= λ _. Ok x) found
    ∙ ap (λ r. r >>= λ x. alone (lent whole.start (depth + 1) t content []) >>= λ _. Ok x) (h whole.start)

-- ---- references

abbrev parts : ℕ → Option (List ℕ) → Option ℕ → Option (List ℕ) → ReferenceParts
parts last calling common additional =
    record { last = last; calling = calling; common = common; additional = additional }

abbrev place : Option (List ℕ) → ℕ
place None = 2
place (Some o) = 3

module _ (c : List ℕ) (m : ℕ) (depth : ℕ) (short : length c ≤ longest_reference) (in_time : m ≤ last_moment)
    (d : depth + 1 ≤ 16) where
  calling_taken : (at : ℕ) (r : List ℕ) → reference_step no_reference (lent at (depth + 1) (primitive 0 4) c r) ≡ Ok
      (parts 1 (Some c) None None)
  unfolding reference_step
  calling_taken at r = ap (λ x. x >>= λ o. Ok (parts 1 (Some o) None None))
      (octets_again longest_reference c short at (depth + 1) 0 4 r d)

  common_taken : (at : ℕ) (r : List ℕ)
      → reference_step (parts 1 (Some c) None None) (lent at (depth + 1) (primitive 0 23) (utc_content m) r) ≡ Ok
      (parts 2 (Some c) (Some m) None)
  unfolding reference_step
  common_taken at r = ap (λ x. x >>= λ m. Ok (parts 2 (Some c) (Some m) None)) (time_again m in_time at (depth + 1) r d)

  additional_taken : (a : List ℕ) → length a ≤ longest_reference → (at : ℕ) (r : List ℕ)
      → reference_step (parts 2 (Some c) (Some m) None) (lent at (depth + 1) (primitive 2 0) a r) ≡ Ok
      (parts 3 (Some c) (Some m) (Some a))
  unfolding reference_step
  additional_taken a h at r = ap (λ x. x >>= λ o. Ok (parts 3 (Some c) (Some m) (Some o)))
      (octets_again longest_reference a h at (depth + 1) 2 0 r d)

  rest_taken : (o : Option (List ℕ)) → IfSome o (λ a. length a ≤ longest_reference)
      → Taken reference_step (depth + 1) (parts 1 (Some c) None None)
      (canon_utc (primitive 0 23) m ++ optional (element (primitive 2 0)) o) (parts (place o) (Some c) (Some m) o)
  rest_taken None h =
      subst (λ bytes. Taken reference_step (depth + 1) (parts 1 (Some c) None None) bytes
      (parts 2 (Some c) (Some m) None)) (sym (append-nil (canon_utc (primitive 0 23) m)))
      (last_taken reference_step (depth + 1) (parts 1 (Some c) None None) (parts 2 (Some c) (Some m) None)
      (primitive 0 23) (utc_content m) (universal false 23 (omega arith))
      (omega (arith, utc_fits m)) d common_taken)
  rest_taken (Some a) h =
      one_taken reference_step (depth + 1) (parts 1 (Some c) None None) (parts 2 (Some c) (Some m) None)
      (parts 3 (Some c) (Some m) (Some a)) (primitive 0 23) (utc_content m) (element (primitive 2 0) a)
      (universal false 23 (omega arith)) (omega (arith, utc_fits m)) d common_taken
      (last_taken reference_step (depth + 1) (parts 2 (Some c) (Some m) None) (parts 3 (Some c) (Some m) (Some a))
      (primitive 2 0) a (context false 0 (omega arith)) (omega (arith, h)) d (additional_taken a h))

abbrev pub reference_content : Identifier → List ℕ
reference_content i = element (primitive 0 4) i.calling ++ canon_utc (primitive 0 23) i.common
    ++ optional (element (primitive 2 0)) i.additional

abbrev finished : ℕ → ReferenceParts → Result Identifier Fault
finished at s = required s.calling at >>= λ c. required s.common at >>= λ m. Ok (identifier c m s.additional)

pub reference_again : (i : Identifier) → IsIdentifier i → (at depth class number : ℕ) (r : List ℕ) → depth + 1 ≤ 16
    → reference_in (lent at depth (constructed class number) (reference_content i) r) ≡ Ok i
unfolding reference_in
reference_again i h at depth class number r d =
    let whole = lent at depth (constructed class number) (reference_content i) r in
    let last = parts (place i.additional) (Some i.calling) (Some i.common) i.additional in
    let taken = one_taken reference_step (depth + 1) no_reference (parts 1 (Some i.calling) None None) last
    (primitive 0 4) i.calling (canon_utc (primitive 0 23) i.common
    ++ optional (element (primitive 2 0)) i.additional)
    (universal false 4 (omega arith)) (omega (arith, h.calling_short)) d
    (calling_taken i.calling i.common depth h.calling_short h.in_time d)
    (rest_taken i.calling i.common depth h.calling_short h.in_time d i.additional h.additional_short) in
    let all = subst (λ bytes. Taken reference_step (depth + 1) no_reference bytes last)
    (sym (simp append_assoc)) taken in
    ap (λ r. r >>= finished at) (whole_taken reference_step no_reference last whole all)
