-- A unit that is written is read again, whatever follows it.
use Rattle.std.proofs.Common.{◌≡◌, append_assoc, ℕ, ◌+◌, ◌/◌, ◌%◌, ◌^◌, ◌≤◌, ◌<◌, Bool, true, false, cond, ltb, List}
use Rattle.std.proofs.Common.{[], ◌∷◌, ◌++◌, length, Result, Ok, refl, sym, ap, ◌∙◌, arith, pos}
use Rattle.std.specs.Int.{w64, to_be_bytes}
use Rattle.std.proofs.lemmas.List.{append-nil, length-append}
use Rattle.mta_ber.specs.declared.fault.Fault.{Fault}
use Rattle.mta_ber.specs.declared.tag.Tag.{Tag}
use Rattle.mta_ber.specs.Head.{◌>>=◌}
use Rattle.mta_ber.specs.Element.{Part, first, outermost}
use Rattle.mta_ber.specs.Canon.{IsTag, element, primitive, constructed, drop_zeros, length_octets, ident_octets}
use Rattle.mta_ber.specs.Contents.{int_content, canon_int}
use Rattle.mta_ber.proofs.CanonLaws.{lent, few_significant}
use Rattle.mta_ber.proofs.RoundTrip.{first_again, element_long}
use Rattle.mta_ber.proofs.StringLaws.{octets_spelled, joined_full}
use Rattle.mta_records.specs.Reference.{Identifier, IsIdentifier}
use Rattle.mta_rtse.specs.Request.{rtorq_in}
use Rattle.mta_rtse.specs.Answer.{rtoac_in}
use Rattle.mta_rtse.specs.Reason.{rtorj_in, rtab_in}
use Rattle.mta_rtse.specs.Spelling.{request_of}
use Rattle.mta_rtse.specs.Canon.{canon_reference, canon_rtorq, canon_rtoac, canon_reason, canon_request_data}
use Rattle.mta_rtse.specs.Canon.{canon_answer_data}
use Rattle.mta_rtse.proofs.AgainLaws.{context, universal, int_fits, number_again, word_again, reference_content}
use Rattle.mta_rtse.proofs.AgainLaws.{reference_again}
use Rattle.mta_rtse.proofs.ApduAgain.{request_content, answer_content, rtorq_again, rtoac_again, rtorj_again}
use Rattle.mta_rtse.proofs.ApduAgain.{rtab_again, writable, identified, answer_octets}
use Rattle.mta_rtse.proofs.SizeLaws.{reference_short, rtorq_short, rtoac_short, request_data_short, reason_short}
use Rattle.mta_rtse.proofs.SizeLaws.{int_short}
use Rattle.mta_ber.specs.declared.text.TextClass.TheVariants.{Ia5}
use Rattle.mta_ber.specs.Strings.{IsText}
use Rattle.mta_units.specs.declared.unit.Unit.{Unit as AnyUnit}
use Rattle.mta_units.specs.declared.unit.Unit.TheVariants as unit
use Rattle.mta_units.specs.declared.unit.OpenUnit.{OpenUnit}
use Rattle.mta_units.specs.Front.{longest_body}
use Rattle.mta_units.specs.Body.{only_in, ended, rttr_in, rttp_in, name_in, tagged_reference_in, open_in, accept_in}
use Rattle.mta_units.specs.Body.{reject_in, piece_in, please_in, abort_in, other_in, fixed_in, body_in}
use Rattle.mta_units.specs.Look.{with_body, look_behind, look}
use Rattle.mta_units.specs.Canon.{kind_of, number_octets, open_octets, body_octets, unit_octets, IsUnit, IsOpenUnit}
use Rattle.mta_units.specs.Canon.{longest_piece}
use Rattle.mta_units.specs.Reading.{UnitsAreReadAgain}
use Rattle.mta_units.specs.Spelling.{framed}
use Rattle.mta_units.proofs.BodyLaws.{number_again as plain_again, pair_again, exception_again}
use Rattle.mta_units.proofs.LookLaws.{framed_again}
use Rattle.mta_units.specs.Front.{front}
use Rattle.mta_units.proofs.SizeLaws.{open_short}

only_again : {A : Type 0} (read : Part → Result A Fault) (v : A) (t : Tag) (content : List ℕ) → IsTag t
    → length content < 2 ^ 64 → read (lent 0 (outermost t) t content []) ≡ Ok v
    → only_in read (element t content) ≡ Ok v
only_again read v t content tag fits h =
    ap (λ l. first 0 l >>= λ p. read p >>= λ x. ended p >>= λ _. Ok x) (sym (append-nil (element t content)))
    ∙ ap (λ r. r >>= λ p. read p >>= λ x. ended p >>= λ _. Ok x) (first_again 0 t content [] tag fits)
    ∙ ap (λ r. r >>= λ x. ended (lent 0 (outermost t) t content []) >>= λ _. Ok x) h

rttr_again : (o : List ℕ) → rttr_in (lent 0 1 (primitive 0 4) o []) ≡ Ok o
unfolding rttr_in
rttr_again o = joined_full 4 (lent 0 1 (primitive 0 4) o []) o (omega arith) (octets_spelled 4 1 o (omega arith))

rttp_again : (n : ℕ) → n < 2 ^ 32 → rttp_in (lent 0 1 (primitive 0 2) (int_content (pos n)) []) ≡ Ok n
unfolding rttp_in
rttp_again n small = number_again n small 0 1 0 2 [] (omega arith)

-- ---- an opening

abbrev after_reference : List ℕ → Part → Identifier → Result AnyUnit Fault
after_reference name q reference =
    only_in rtorq_in q.rest >>= λ r. Ok
    (unit.Open (record {
      name = name;
      reference = reference;
      checkpoint = r.checkpoint;
      window = r.window;
      twa = r.twa;
      request = r.request;
    }))

abbrev after_name : Part → List ℕ → Result AnyUnit Fault
after_name p name = first 0 p.rest >>= λ q. tagged_reference_in q >>= after_reference name q

named_again : (w : List ℕ) → IsText Ia5 1 32 w → (r : List ℕ) → name_in (lent 0 1 (primitive 0 22) w r) ≡ Ok w
unfolding name_in
named_again w h r = word_again w h 0 1 0 22 r (omega arith)

tagged_again : (i : Identifier) → IsIdentifier i → (r : List ℕ)
    → tagged_reference_in (lent 0 1 (constructed 0 16) (reference_content i) r) ≡ Ok i
unfolding tagged_reference_in
tagged_again i h r = reference_again i h 0 1 0 16 r (omega arith)

open_again : (o : OpenUnit) → IsOpenUnit o → open_in (open_octets o) ≡ Ok (unit.Open o)
unfolding open_in open_octets canon_reference canon_rtorq
open_again o h =
    let named = element (primitive 0 22) o.name in
    let content = reference_content o.reference in
    let reference = element (constructed 0 16) content in
    let asked = request_content o.checkpoint o.window o.twa o.request in
    let request = element (constructed 2 16) asked in
    let data_fits : length (canon_request_data o.request) < 2 ^ 64 =
    omega (arith, request_data_short o.request (writable o.request h.request) (identified o.request h.request)) in
    let reference_fits : length content < 2 ^ 64 =
    omega (
      arith,
      reference_short (constructed 0 16) o.reference h.reference,
      element_long (constructed 0 16) content,
    ) in
    let request_fits : length asked < 2 ^ 64 =
    omega (
      arith,
      rtorq_short o.checkpoint o.window o.twa o.request (writable o.request h.request)
          (identified o.request h.request),
      element_long (constructed 2 16) asked,
    ) in
    ap (λ l. first 0 l >>= λ p. name_in p >>= after_name p) (append_assoc named reference request)
    ∙ ap (λ r. r >>= λ p. name_in p >>= after_name p)
    (first_again 0 (primitive 0 22) o.name (reference ++ request) (universal false 22 (omega arith))
    (omega (arith, h.name.at_most)))
    ∙ ap (λ r. r >>= after_name (lent 0 1 (primitive 0 22) o.name (reference ++ request)))
    (named_again o.name h.name (reference ++ request))
    ∙ ap (λ r. r >>= λ q. tagged_reference_in q >>= after_reference o.name q)
    (first_again 0 (constructed 0 16) content request (universal true 16 (omega arith)) reference_fits)
    ∙ ap (λ r. r >>= after_reference o.name (lent 0 1 (constructed 0 16) content request))
    (tagged_again o.reference h.reference request)
    ∙ ap (λ r. r >>= λ r. Ok (unit.Open
    (record {
      name = o.name;
      reference = o.reference;
      checkpoint = r.checkpoint;
      window = r.window;
      twa = r.twa;
      request = r.request;
    })))
    (only_again rtorq_in (record { checkpoint = o.checkpoint; window = o.window; twa = o.twa; request = o.request })
    (constructed 2 16) asked (context true 16 (omega arith)) request_fits
    (rtorq_again o.checkpoint o.window o.twa o.request h.checkpoint h.window h.request data_fits 0 []))

-- ---- each body

body_again : (u : AnyUnit) → IsUnit u → body_in (kind_of u) (body_octets u) ≡ Ok u
unfolding body_in accept_in reject_in piece_in please_in abort_in fixed_in other_in canon_rtoac canon_reason
body_again (unit.Open o) h = open_again o h
body_again (unit.Accept c w a) h =
    let content = answer_content c w a in
    let data_fits : length (canon_answer_data a) < 2 ^ 64 =
    omega (
      arith,
      ap length (answer_octets a),
      request_data_short (request_of a) (writable (request_of a) h.answer)
          (identified (request_of a) h.answer),
    ) in
    let fits : length content < 2 ^ 64 =
    omega (
      arith,
      rtoac_short c w a (writable (request_of a) h.answer) (identified (request_of a) h.answer),
      element_long (constructed 2 17) content,
    ) in
    ap (λ r. r >>= λ a. Ok (unit.Accept a.checkpoint a.window a.answer))
    (only_again rtoac_in (record { checkpoint = c; window = w; answer = a }) (constructed 2 17) content
    (context true 17 (omega arith)) fits (rtoac_again c w a h.checkpoint h.window h.answer data_fits 0 []))
body_again (unit.Reject n) h =
    ap (λ r. r >>= λ n. Ok (unit.Reject n))
    (only_again rtorj_in n (constructed 2 18) (canon_int (primitive 2 0) (pos n)) (context true 18 (omega arith))
    (omega (arith, int_short (primitive 2 0) (pos n))) (rtorj_again n h 0 []))
body_again (unit.Start n) h = ap (λ r. r >>= λ n. Ok (unit.Start n))
    (plain_again n (number_octets n) (record { small = h; octets_are = refl }))
body_again (unit.Piece o) h =
    ap (λ r. r >>= λ o. Ok (unit.Piece o))
    (only_again rttr_in o (primitive 0 4) o (universal false 4 (omega arith)) (omega (arith, h)) (rttr_again o))
body_again (unit.Sync n) h = ap (λ r. r >>= λ n. Ok (unit.Sync n))
    (plain_again n (number_octets n) (record { small = h; octets_are = refl }))
body_again (unit.SyncAck n) h =
    ap (λ r. r >>= λ n. Ok (unit.SyncAck n)) (plain_again n (number_octets n) (record { small = h; octets_are = refl }))
body_again (unit.End n) h = ap (λ r. r >>= λ n. Ok (unit.End n))
    (plain_again n (number_octets n) (record { small = h; octets_are = refl }))
body_again (unit.EndAck n) h = ap (λ r. r >>= λ n. Ok (unit.EndAck n))
    (plain_again n (number_octets n) (record { small = h; octets_are = refl }))
body_again (unit.Resume n m) h =
    ap (λ r. r >>= λ (n : ℕ × ℕ). Ok (unit.Resume n.0 n.1))
    (pair_again n m (number_octets n ++ number_octets m)
    (record { first_small = h.0; second_small = h.1; octets_are = refl }))
body_again (unit.ResumeAck n m) h =
    ap (λ r. r >>= λ (n : ℕ × ℕ). Ok (unit.ResumeAck n.0 n.1))
    (pair_again n m (number_octets n ++ number_octets m)
    (record { first_small = h.0; second_small = h.1; octets_are = refl }))
body_again (unit.Discard n) h =
    ap (λ r. r >>= λ n. Ok (unit.Discard n)) (plain_again n (number_octets n) (record { small = h; octets_are = refl }))
body_again (unit.DiscardAck n) h =
    ap (λ r. r >>= λ n. Ok (unit.DiscardAck n))
    (plain_again n (number_octets n) (record { small = h; octets_are = refl }))
body_again (unit.Please n) h =
    ap (λ r. r >>= λ n. Ok (unit.Please n))
    (only_again rttp_in n (primitive 0 2) (int_content (pos n)) (universal false 2 (omega arith))
    (omega (arith, int_fits (pos n))) (rttp_again n h))
body_again unit.Give h = refl
body_again (unit.Exception k at) h =
    ap (λ r. r >>= λ (n : ℕ × ℕ). Ok (unit.Exception n.0 n.1))
    (exception_again k at (k ∷ number_octets at) (record { is_fault = h.0; small = h.1; octets_are = refl }))
body_again (unit.Abort n) h =
    ap (λ r. r >>= λ n. Ok (unit.Abort n))
    (only_again rtab_in n (constructed 2 22) (canon_int (primitive 2 0) (pos n)) (context true 22 (omega arith))
    (omega (arith, int_short (primitive 2 0) (pos n))) (rtab_again n h 0 []))
body_again unit.Close h = refl
body_again unit.CloseAck h = refl

-- ---- the length of a piece

few_digits : (n : ℕ) → n < 2 ^ 24 → length (length_octets n) ≤ 4
unfolding length_octets
few_digits n small = go (ltb n 128)
  where
    five : to_be_bytes w64 n ≡ 0 ∷ 0 ∷ 0 ∷ 0 ∷ 0 ∷ (n / 65536 % 256) ∷ (n / 256 % 256) ∷ (n % 256) ∷ []
    five =
        let a : n / 72057594037927936 % 256 ≡ 0 = omega arith in
        let b : n / 281474976710656 % 256 ≡ 0 = omega arith in
        let c : n / 1099511627776 % 256 ≡ 0 = omega arith in
        let d : n / 4294967296 % 256 ≡ 0 = omega arith in
        let e : n / 16777216 % 256 ≡ 0 = omega arith in
        cc

    go : (b : Bool) → length (cond b (n ∷ [])
        ((128 + length (drop_zeros (to_be_bytes w64 n))) ∷ drop_zeros (to_be_bytes w64 n))) ≤ 4
    go true = omega arith
    go false = omega (
      arith,
      ap (λ l. length (drop_zeros l)) five,
      few_significant ((n / 65536 % 256) ∷ (n / 256 % 256) ∷ (n % 256) ∷ []),
    )

piece_short : (o : List ℕ) → length o ≤ longest_piece → length (element (primitive 0 4) o) ≤ longest_body
unfolding element ident_octets
piece_short o h = omega (arith, h, length-append (length_octets (length o)) o, few_digits (length o) (omega (arith, h)))

body_limit : (u : AnyUnit) → IsUnit u → length (body_octets u) ≤ longest_body
body_limit (unit.Open o) h = omega (
  arith,
  open_short o (record { name_fits = h.name; request_fits = writable o.request h.request })
      (record { own = h.reference; asked = identified o.request h.request }),
)
body_limit (unit.Accept c w a) h =
    omega (arith, rtoac_short c w a (writable (request_of a) h.answer) (identified (request_of a) h.answer))
body_limit (unit.Reject n) h = omega (arith, reason_short 18 n)
body_limit (unit.Start n) h = omega arith
body_limit (unit.Piece o) h = piece_short o h
body_limit (unit.Sync n) h = omega arith
body_limit (unit.SyncAck n) h = omega arith
body_limit (unit.End n) h = omega arith
body_limit (unit.EndAck n) h = omega arith
body_limit (unit.Resume n m) h = omega arith
body_limit (unit.ResumeAck n m) h = omega arith
body_limit (unit.Discard n) h = omega arith
body_limit (unit.DiscardAck n) h = omega arith
body_limit (unit.Please n) h = omega (arith, int_short (primitive 0 2) (pos n))
body_limit unit.Give h = omega arith
body_limit (unit.Exception k at) h = omega arith
body_limit (unit.Abort n) h = omega (arith, reason_short 22 n)
body_limit unit.Close h = omega arith
body_limit unit.CloseAck h = omega arith

frame_more : (u : AnyUnit) (more : List ℕ) → unit_octets u ++ more ≡ framed (kind_of u) (body_octets u) more
unfolding unit_octets
frame_more u more = simp append_assoc

pub units_again : UnitsAreReadAgain
unfolding look
units_again u more h =
    ap look_behind (ap front (frame_more u more) ∙ framed_again (kind_of u) (body_octets u) more (body_limit u h))
    ∙ ap (λ r. with_body r more) (body_again u h)
