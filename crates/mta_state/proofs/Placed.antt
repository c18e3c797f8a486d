-- Where the content of a message lies in the octets that were read.
use Rattle.std.proofs.Common.{◌≡◌, ℕ, ◌+◌, ◌-◌, List, [], ◌∷◌, ◌++◌, length, take, drop, Option, Some, None}
use Rattle.std.proofs.Common.{refl, sym, ap, ◌∙◌, arith, append_assoc, length-append, append-nil}
use Rattle.std.specs.Borrow.{Bor}
use Rattle.std.proofs.Math.Nat.{add-zero}
use Rattle.std.proofs.Math.Seq.{take-append_seam, drop-append_seam}
use Rattle.mta_ber.specs.Spelling.{ending_of}
use Rattle.mta_envelope.specs.declared.content.Content.{Content}
use Rattle.mta_envelope.specs.declared.content.Content.TheVariants.{Lent, Joined}
use Rattle.mta_envelope.specs.declared.place.Place.{Place}
use Rattle.mta_envelope.specs.Places.{IsPlaced}
use Rattle.mta_apdu.specs.declared.apdu.Apdu.{Apdu}
use Rattle.mta_apdu.specs.declared.apdu.Apdu.TheVariants as apdu
use Rattle.mta_apdu.specs.Apdus.{apdu_value, IsContentOf, IsPlacedIn, SpellsApdu}
use Rattle.mta_state.proofs.Few.{value_is}
use Rattle.mta_state.specs.Readings.{IsCounted, IsCut, IsDecodedAs, IsDecodedOf, IsLentAt, IsLentIn}
use Rattle.mta_state.specs.declared.decoded.DecodedApdu.{DecodedApdu}

-- ---- where a content lies

-- octets behind a front of so many
record IsBehind (whole octets : List ℕ) (offset : ℕ) : Type 0 where
  front : List ℕ
  back : List ℕ
  whole_is : whole ≡ front ++ (octets ++ back)
  offset_is : offset ≡ length front

alone : (octets : List ℕ) → IsBehind octets octets 0
alone octets = record { front = []; back = []; whole_is = sym (append-nil octets); offset_is = refl }

regrouped : (a f octets b back : List ℕ) → a ++ ((f ++ (octets ++ b)) ++ back) ≡ (a ++ f) ++ (octets ++ (b ++ back))
regrouped a f octets b back = simp append_assoc

-- behind one front more
behind_more : (big a whole back octets : List ℕ) (total offset : ℕ) → big ≡ a ++ (whole ++ back)
    → total ≡ length a + offset → IsBehind whole octets offset → IsBehind big octets total
behind_more big a whole back octets total offset e n h =
    let count = length-append a h.front in
    let is = h.offset_is in
    record {
      front = a ++ h.front;
      back = h.back ++ back;
      whole_is =
          e ∙ ap (λ xs. a ++ (xs ++ back)) h.whole_is ∙ regrouped a h.front octets h.back back;
      offset_is = omega (arith, count, n, is);
    }

content_behind : (whole octets : List ℕ) (offset : ℕ) → IsContentOf whole octets offset
    → IsBehind whole octets offset
content_behind whole octets offset h =
    let inside = h.inside in
    let last = inside.last in
    let in_string : IsBehind inside.string octets inside.inner_offset =
    behind_more inside.string last.stands.header octets (ending_of last.stands.count) octets inside.inner_offset 0
    last.stands.octets_are (last.offset_is ∙ sym (add-zero (length last.stands.header))) (alone octets) in
    let in_content : IsBehind h.content octets h.inner_offset =
    behind_more h.content inside.envelope inside.string [] octets h.inner_offset inside.inner_offset
    (inside.joined ∙ ap (λ xs. inside.envelope ++ xs) (sym (append-nil inside.string))) inside.offset_is in_string in
    behind_more whole h.stands.header h.content (ending_of h.stands.count) octets offset h.inner_offset
    h.stands.octets_are h.offset_is in_content

cut_at : (whole octets : List ℕ) (from to offset : ℕ) → IsBehind whole octets offset → from ≡ offset
    → to ≡ from + length octets → IsCut whole octets from to
cut_at whole octets from to offset h e n =
    let front = h.front in
    let back = h.back in
    let is = h.offset_is in
    let counted = ap length h.whole_is in
    let first = length-append front (octets ++ back) in
    let second = length-append octets back in
    let begin : from ≡ length front = omega (arith, e, is) in
    let count : to - from ≡ length octets = omega (arith, n) in
    record {
      order = omega (arith, n);
      within = omega (arith, n, begin, counted, first, second);
      cut =
          ap (λ k. take k (drop from whole)) count
          ∙ ap (λ k. take (length octets) (drop k whole)) begin
          ∙ ap (λ xs. take (length octets) (drop (length front) xs)) h.whole_is
          ∙ ap (λ xs. take (length octets) xs) (drop-append_seam front (octets ++ back))
          ∙ take-append_seam octets back;
    }

content_placed : (whole : Bor (List ℕ)) (c : Content) (place : Option Place)
    → IsPlaced IsContentOf 0 whole c place → IsLentAt whole.now c place
content_placed whole (Lent c) (Some place) h =
    let from = h.from_is in
    let begin : place.from ≡ h.offset = omega (arith, from) in
    cut_at whole.now c.now place.from place.to h.offset (content_behind whole.now c.now h.offset h.stands) begin
    h.to_is
content_placed whole (Joined o) None h = tt
content_placed whole (Lent c) None h = absurd h
content_placed whole (Joined o) (Some place) h = absurd h

pub placed : (whole : Bor (List ℕ)) (a : Apdu) → IsPlacedIn whole a → IsLentIn whole.now a
placed whole (apdu.Message m) h = content_placed whole m.content m.place h
placed whole (apdu.Probe p) h = tt
placed whole (apdu.Report r) h = tt

-- what is left of an APDU that was read from octets
pub decoded_of : (whole : Bor (List ℕ)) (a : Apdu) (d : DecodedApdu) (back : ℕ) → SpellsApdu whole.now (apdu_value a)
    → IsPlacedIn whole a → (IsLentIn whole.now a → IsDecodedAs whole.now a d) → IsCounted a back
    → IsDecodedOf whole.now (record { apdu = d; back = back })
decoded_of whole a d back spells places as_is counts =
    let is = as_is (placed whole a places) in
    record {
      value = value_is whole.now (apdu_value a) spells ∙ sym is.value;
      within = is.within;
      counted = is.counted back counts;
    }
