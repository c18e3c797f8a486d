-- APDUs are read exactly where they are spelled.
use Rattle.std.proofs.Common.{◌≡◌, ℕ, ◌+◌, ◌-◌, ◌≤◌, Bool, true, false, cond, nat_le, List, [], ◌∷◌, ◌++◌, length}
use Rattle.std.proofs.Common.{Option, Some, None, Result, Ok, Err, refl, sym, ap, subst, ◌∙◌, append-nil, arith}
use Rattle.std.proofs.lemmas.Bool.{leb-true, le-leb}
use Rattle.mta_ber.specs.declared.fault.Fault.{Fault}
use Rattle.mta_ber.specs.declared.fault.Kind.TheVariants.{BadTag, TooLong}
use Rattle.mta_ber.specs.declared.tag.Tag.{Tag}
use Rattle.mta_ber.specs.Element.{Part, first, outermost}
use Rattle.mta_ber.specs.Head.{◌>>=◌, fault}
use Rattle.mta_ber.specs.Octet.{IsOctets}
use Rattle.mta_ber.specs.Parts.{is_tag}
use Rattle.mta_ber.specs.Spelling.{Stands, Standing, ending_of}
use Rattle.mta_ber.proofs.RowLaws.{first_sound, first_stands, lent_part, IsBytes-back}
use Rattle.mta_ber.proofs.Steps.{bind_ok, ok_is, taken}
use Rattle.mta_ber.proofs.StringLaws.{IsBytes-front}
use Rattle.mta_names.proofs.Tools.{puts_sound, puts_full, picked, not_none, tag_is}
use Rattle.mta_envelope.specs.declared.place.Place.{Place}
use Rattle.mta_envelope.specs.Messages.{message_in, SpellsMessage, probe_in, SpellsProbe}
use Rattle.mta_envelope.specs.Places.{IsBehindEnvelope, IsPlaced}
use Rattle.mta_envelope.proofs.MessageLaws.{message_sound, message_full, probe_sound, probe_full}
use Rattle.mta_report.specs.Reports.{report_in, SpellsReport}
use Rattle.mta_report.proofs.ReportLaws.{report_sound, report_full}
use Rattle.std.specs.Prelude.{IfOk}
use Rattle.std.specs.Borrow.{Bor}
use Rattle.mta_ber.specs.declared.fault.ReadFault.{ReadFault}
use Rattle.mta_ber.specs.Place.{IsAt}
use Rattle.mta_envelope.specs.declared.content.Content.{Content}
use Rattle.mta_envelope.specs.declared.content.Content.TheVariants.{Lent, Joined}
use Rattle.mta_apdu.specs.declared.apdu.Apdu.{Apdu}
use Rattle.mta_apdu.specs.declared.apdu.Apdu.TheVariants as apdu
use Rattle.mta_apdu.specs.declared.kind.ApduKind.{ApduKind}
use Rattle.mta_apdu.specs.declared.kind.ApduKind.TheVariants.{OfMessage, OfReport, OfProbe}
use Rattle.mta_apdu.specs.Apdus.{ApduValue, message, probe, report, longest_apdu, kind_of, apdu_as, apdu_of_kind}
use Rattle.mta_apdu.specs.Apdus.{apdu_in, end_at, ends, whole_in, front_in, longest_stored, stored_of, apdu_of}
use Rattle.mta_apdu.specs.Apdus.{kind_number, SpellsKind, SpellsWhole, SpellsApdu, SpellsStored, IsContentOf}
use Rattle.mta_apdu.specs.Apdus.{IsPlacedIn, IsPlacedInside}

abbrev HasTag : Tag → ApduKind → Type 0
HasTag t k = is_tag 2 (kind_number k) t ≡ true

tagged : (t : Tag) (k : ApduKind) → kind_of t ≡ Some k → HasTag t k
tagged t = picked (HasTag t) (is_tag 2 0 t) OfMessage _ (λ e. e)
    (picked (HasTag t) (is_tag 2 1 t) OfReport _ (λ e. e)
    (picked (HasTag t) (is_tag 2 2 t) OfProbe _ (λ e. e) (not_none (HasTag t))))

found : (k : ApduKind) (t : Tag) → HasTag t k → kind_of t ≡ Some k
found OfMessage t h = let e = tag_is 2 0 t h in rw (e.0, e.1) refl
found OfReport t h = let e = tag_is 2 1 t h in rw (e.0, e.1) refl
found OfProbe t h = let e = tag_is 2 2 t h in rw (e.0, e.1) refl

kind_sound : (k : ApduKind) (v : ApduValue) (p : Part) → IsOctets p.content → apdu_as k p ≡ Ok v
    → SpellsKind k p.depth p.tag p.content v
unfolding apdu_as
kind_sound OfMessage v p o e = puts_sound (message_in p) message v (SpellsMessage p.depth p.tag p.content)
    (λ x r. message_sound x p o r) e
kind_sound OfReport v p o e = puts_sound (report_in p) report v (SpellsReport p.depth p.tag p.content)
    (λ x r. report_sound x p o r) e
kind_sound OfProbe v p o e = puts_sound (probe_in p) probe v (SpellsProbe p.depth p.tag p.content)
    (λ x r. probe_sound x p o r) e

kind_full : (k : ApduKind) (v : ApduValue) (p : Part) → SpellsKind k p.depth p.tag p.content v → apdu_as k p ≡ Ok v
unfolding apdu_as
kind_full OfMessage v p h = puts_full (message_in p) message v (SpellsMessage p.depth p.tag p.content)
    (λ x r. message_full x p r) h
kind_full OfReport v p h = puts_full (report_in p) report v (SpellsReport p.depth p.tag p.content)
    (λ x r. report_full x p r) h
kind_full OfProbe v p h = puts_full (probe_in p) probe v (SpellsProbe p.depth p.tag p.content)
    (λ x r. probe_full x p r) h

end_so : (at : ℕ) (rest : List ℕ) (u : Unit {0}) → end_at at rest ≡ Ok u → rest ≡ []
end_so at [] u e = refl
end_so at (b ∷ bs) u e = absurd cc

choice_so : (o : Option ApduKind) (p : Part) (v : ApduValue) → apdu_of_kind o p ≡ Ok v → (k : ApduKind) × (o ≡ Some k)
    × (apdu_as k p ≡ Ok v)
choice_so None p v e = absurd cc
choice_so (Some k) p v e = (k, refl, e)

content_octets : (at depth : ℕ) (p : Part) (bytes : List ℕ) → Standing at depth p bytes → IsOctets bytes
    → IsOctets p.content
content_octets at depth p bytes h octets =
    let own = IsBytes-front p.octets p.rest (subst IsOctets h.octets_are octets) in
    IsBytes-front p.content (ending_of h.stands.count)
    (IsBytes-back h.stands.header (p.content ++ ending_of h.stands.count) (subst IsOctets h.stands.octets_are own))

abbrev after_end : ApduValue → Unit {0} → Result ApduValue Fault
after_end v u = Ok v

abbrev after_element : Part → ApduValue → Result ApduValue Fault
after_element p v = ends p >>= after_end v

whole_sound : (bytes : List ℕ) (v : ApduValue) → IsOctets bytes → front_in bytes ≡ Ok v → SpellsWhole bytes v
unfolding apdu_in ends
whole_sound bytes v octets e =
    let f = bind_ok (first 0 bytes) whole_in v e in
    let a = bind_ok (apdu_in f.0) (after_element f.0) v f.2 in
    let n = bind_ok (ends f.0) (after_end a.0) v a.2 in
    let s = first_sound 0 bytes f.0 octets f.1 in
    let none = end_so (f.0.at + length f.0.octets) f.0.rest n.0 n.1 in
    let all : f.0.octets ≡ bytes = sym (s.octets_are ∙ ap (λ r. f.0.octets ++ r) none ∙ append-nil f.0.octets) in
    let k = choice_so (kind_of f.0.tag) f.0 a.0 a.1 in
    subst (λ (x : ApduValue). SpellsWhole bytes x) {x = a.0} (ok_is a.0 v n.2) (record {
      tag = f.0.tag;
      content = f.0.content;
      stands = subst (λ o. Stands (outermost f.0.tag) f.0.tag f.0.content o) all s.stands;
      kind = k.0;
      is_tag_of = tagged f.0.tag k.0 k.1;
      spelled = subst (λ d. SpellsKind k.0 d f.0.tag f.0.content a.0) s.depth_is
          (kind_sound k.0 a.0 f.0 (content_octets 0 (outermost f.0.tag) f.0 bytes s octets) k.2);
    })

whole_full : (bytes : List ℕ) (v : ApduValue) → SpellsWhole bytes v → front_in bytes ≡ Ok v
unfolding apdu_in ends
whole_full bytes v h =
    let p : Part = lent_part 0 (outermost h.tag) h.tag (length h.stands.header) h.content [] bytes in
    let found_first : first 0 bytes ≡ Ok p = ap (first 0) (sym (append-nil bytes))
    ∙ first_stands 0 h.tag h.content bytes [] h.stands in
    ap (λ r. r >>= whole_in) found_first
    ∙ ap (λ o. apdu_of_kind o p >>= after_element p) (found h.kind h.tag h.is_tag_of)
    ∙ ap (λ r. r >>= after_element p) (kind_full h.kind v p h.spelled)

limited_so : (limit : ℕ) (bytes : List ℕ) (v : ApduValue)
    → cond (nat_le (length bytes) limit) (front_in bytes) (fault limit TooLong) ≡ Ok v → (length bytes ≤ limit)
    × (front_in bytes ≡ Ok v)
limited_so limit bytes v e =
    let c = taken (nat_le (length bytes) limit) (front_in bytes) (record { at = limit; kind = TooLong }) v e in
    (leb-true (length bytes) limit c.0, c.1)

pub so_limited : (limit : ℕ) (bytes : List ℕ) → length bytes ≤ limit
    → cond (nat_le (length bytes) limit) (front_in bytes) (fault limit TooLong) ≡ front_in bytes
so_limited limit bytes short = ap (λ b. cond b (front_in bytes) (fault limit TooLong))
    (le-leb (length bytes) limit short)

pub apdu_sound : (bytes : List ℕ) (v : ApduValue) → IsOctets bytes → apdu_of bytes ≡ Ok v → SpellsApdu bytes v
unfolding apdu_of
apdu_sound bytes v octets e = let c = limited_so longest_apdu bytes v e in
    record { short = c.0; whole = whole_sound bytes v octets c.1 }

pub apdu_full : (bytes : List ℕ) (v : ApduValue) → SpellsApdu bytes v → apdu_of bytes ≡ Ok v
unfolding apdu_of
apdu_full bytes v h = so_limited longest_apdu bytes h.short ∙ whole_full bytes v h.whole

pub stored_sound : (bytes : List ℕ) (v : ApduValue) → IsOctets bytes → stored_of bytes ≡ Ok v → SpellsStored bytes v
unfolding stored_of
stored_sound bytes v octets e = let c = limited_so longest_stored bytes v e in
    record { short = c.0; whole = whole_sound bytes v octets c.1 }

pub stored_full : (bytes : List ℕ) (v : ApduValue) → SpellsStored bytes v → stored_of bytes ≡ Ok v
unfolding stored_of
stored_full bytes v h = so_limited longest_stored bytes h.short ∙ whole_full bytes v h.whole

-- what is short enough to be submitted is read in the same way once it is kept
pub stored_is : (bytes : List ℕ) → length bytes ≤ longest_apdu → stored_of bytes ≡ apdu_of bytes
unfolding apdu_of stored_of
stored_is bytes short =
    let kept : length bytes ≤ longest_stored = omega arith in
    so_limited longest_stored bytes kept ∙ sym (so_limited longest_apdu bytes short)

pub read_short : (bytes : List ℕ) (v : ApduValue) → apdu_of bytes ≡ Ok v → length bytes ≤ longest_apdu
unfolding apdu_of
read_short bytes v e = (limited_so longest_apdu bytes v e).0

-- ---- the place of a content

content_placed : (c : Content) (o : Option Place) (whole slice : Bor (List ℕ)) (p : Part)
    → Standing 0 (outermost p.tag) p whole.now → p.rest ≡ [] → slice.now ≡ p.content → IsAt (p.start - 0) slice whole
    → IsPlaced (IsBehindEnvelope (p.depth + 1)) p.start slice c o → IsPlaced IsContentOf 0 whole c o
content_placed (Joined x) None whole slice p h none own memory placed = tt
content_placed (Joined x) (Some o) whole slice p h none own memory placed = placed
content_placed (Lent c) None whole slice p h none own memory placed = placed
content_placed (Lent c) (Some o) whole slice p h none own memory placed =
    let all : whole.now ≡ p.octets = h.octets_are ∙ ap (λ r. p.octets ++ r) none ∙ append-nil p.octets in
    let inside : IsBehindEnvelope (outermost p.tag + 1) p.content c.now placed.offset =
    subst (λ d. IsBehindEnvelope (d + 1) p.content c.now placed.offset) h.depth_is
    (subst (λ l. IsBehindEnvelope (p.depth + 1) l c.now placed.offset) own placed.stands) in
    record {
      offset = p.start + placed.offset;
      from_is = omega (arith, placed.from_is);
      to_is = placed.to_is;
      stands = record {
        tag = p.tag;
        content = p.content;
        stands = record {
          count = h.stands.count;
          header = h.stands.header;
          is_header = h.stands.is_header;
          shallow = h.stands.shallow;
          definite = h.stands.definite;
          indefinite = h.stands.indefinite;
          octets_are = all ∙ h.stands.octets_are;
        };
        inner_offset = placed.offset;
        inside = inside;
        offset_is = omega (arith, h.start_is);
      };
      memory = (placed.memory.0 ∙ memory.0, omega (arith, placed.memory.1, memory.1));
    }

apdu_placed : (a : Apdu) (whole slice : Bor (List ℕ)) (p : Part) → Standing 0 (outermost p.tag) p whole.now
    → p.rest ≡ [] → slice.now ≡ p.content → IsAt (p.start - 0) slice whole
    → IsPlacedInside p.depth p.start slice a → IsPlacedIn whole a
apdu_placed (apdu.Message m) whole slice p h none own memory placed =
    content_placed m.content m.place whole slice p h none own memory placed
apdu_placed (apdu.Probe m) whole slice p h none own memory placed = tt
apdu_placed (apdu.Report m) whole slice p h none own memory placed = tt

pub placed_in : (whole slice : Bor (List ℕ)) (p : Part) (r : Result Apdu ReadFault)
    → Standing 0 (outermost p.tag) p whole.now → IfOk r (λ _. p.rest ≡ []) → slice.now ≡ p.content
    → IsAt (p.start - 0) slice whole
    → IfOk r (IsPlacedInside p.depth p.start slice) → IfOk r (IsPlacedIn whole)
placed_in whole slice p (Ok a) h none own memory placed = apdu_placed a whole slice p h none own memory placed
placed_in whole slice p (Err f) h none own memory placed = tt
