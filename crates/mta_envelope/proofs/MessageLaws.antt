-- Messages are read exactly where they are spelled.
use Rattle.std.proofs.Common.{◌≡◌, ℕ, ◌+◌, ◌≤◌, true, false, cond, List, [], ◌∷◌, ◌++◌, length, Option, Some, Result}
use Rattle.std.proofs.Common.{Ok, refl, sym, ap, subst, ◌∙◌, append-nil, arith}
use Rattle.mta_ber.specs.declared.fault.Fault.{Fault}
use Rattle.mta_ber.specs.declared.fault.Kind.TheVariants.{BadTag}
use Rattle.mta_ber.specs.Element.{Part, part, next_part, alone}
use Rattle.mta_ber.specs.Forms.{is_constructed_tag}
use Rattle.mta_ber.specs.Head.{◌>>=◌, fault}
use Rattle.mta_ber.specs.Octet.{IsOctets}
use Rattle.mta_ber.specs.Spelling.{Standing, ending_of}
use Rattle.mta_ber.proofs.LentLaws.{alone_found, alone_only}
use Rattle.mta_ber.proofs.RoundTrip.{no_part}
use Rattle.mta_ber.proofs.RowLaws.{part_sound, stands_again, lent_part, IsBytes-back}
use Rattle.mta_ber.proofs.Steps.{bind_ok, ok_is, taken}
use Rattle.mta_ber.proofs.StringLaws.{IsBytes-front}
use Rattle.mta_envelope_recipient.specs.Lists.{is_set}
use Rattle.mta_envelope.specs.declared.envelope.EnvelopeFields.{EnvelopeFields}
use Rattle.mta_envelope.specs.Contents.{ContentValue, content_in, SpellsContent}
use Rattle.mta_envelope.specs.Envelopes.{envelope_in, SpellsEnvelope}
use Rattle.mta_envelope.specs.Messages.{MessageValue, message_as, there, next_in, set_in, behind_at, last_in, two_in}
use Rattle.mta_envelope.specs.Messages.{message_in, probe_in, SpellsSet, SpellsOctetString, SpellsMessage, SpellsProbe}
use Rattle.mta_envelope.proofs.ContentLaws.{content_sound, content_full}
use Rattle.mta_envelope.proofs.EnvelopeLaws.{envelope_sound, envelope_full}

-- ---- the next element

abbrev some_part : Part → Result (Option Part) Fault
some_part p = Ok (Some p)

abbrev given : Option Part → Result (Option Part) Fault
given o = Ok o

next_so : (whole at depth : ℕ) (bytes : List ℕ) (p : Part) → next_in whole at depth bytes ≡ Ok p
    → part at depth bytes ≡ Ok p
unfolding next_part
next_so whole at depth [] p e = absurd cc
next_so whole at depth (b ∷ bs) p e =
    let q = bind_ok (part at depth (b ∷ bs) >>= some_part) (there whole) p e in
    let r = bind_ok (part at depth (b ∷ bs)) some_part q.0 q.1 in
    let same : there whole (Some r.0) ≡ Ok p = ap (there whole) (ok_is (Some r.0) q.0 r.2) ∙ q.2 in
    r.1 ∙ same

so_next : (whole at depth : ℕ) (bytes : List ℕ) (p : Part) → part at depth bytes ≡ Ok p
    → next_in whole at depth bytes ≡ Ok p
unfolding next_part
so_next whole at depth [] p e = absurd (no_part at depth p e)
so_next whole at depth (b ∷ bs) p e = ap (λ r. (r >>= some_part) >>= there whole) e

-- octets of what stands among octets
content_octets : (at depth : ℕ) (p : Part) (bytes : List ℕ) → Standing at depth p bytes → IsOctets bytes
    → IsOctets p.content
content_octets at depth p bytes h octets =
    let own = IsBytes-front p.octets p.rest (subst IsOctets h.octets_are octets) in
    IsBytes-front p.content (ending_of h.stands.count)
    (IsBytes-back h.stands.header (p.content ++ ending_of h.stands.count) (subst IsOctets h.stands.octets_are own))

rest_octets : (at depth : ℕ) (p : Part) (bytes : List ℕ) → Standing at depth p bytes → IsOctets bytes → IsOctets p.rest
rest_octets at depth p bytes h octets = IsBytes-back p.octets p.rest (subst IsOctets h.octets_are octets)

-- ---- the envelope

set_sound : (v : EnvelopeFields) (p : Part) → IsOctets p.content → set_in p ≡ Ok v → (is_set p.tag ≡ true)
    × SpellsEnvelope false p.depth p.tag.constructed p.content v
unfolding set_in
set_sound v p octets e = let c = taken (is_set p.tag) (envelope_in false p) (record { at = p.at; kind = BadTag }) v e in
    (c.0, envelope_sound false v p octets c.1)

set_full : (v : EnvelopeFields) (p : Part) → is_set p.tag ≡ true
    → SpellsEnvelope false p.depth p.tag.constructed p.content v → set_in p ≡ Ok v
unfolding set_in
set_full v p is h = ap (λ b. cond b (envelope_in false p) (fault p.at BadTag)) is ∙ envelope_full false v p h

set_stands : (at depth : ℕ) (p : Part) (bytes : List ℕ) (v : EnvelopeFields) → Standing at depth p bytes
    → IsOctets bytes → set_in p ≡ Ok v → SpellsSet depth p.octets v
set_stands at depth p bytes v h octets e =
    let s = set_sound v p (content_octets at depth p bytes h octets) e in
    record {
      tag = p.tag;
      content = p.content;
      stands = h.stands;
      is_set_tag = s.0;
      spelled =
          subst (λ d. SpellsEnvelope false d p.tag.constructed p.content v) h.depth_is s.1;
    }

string_stands : (at depth : ℕ) (p : Part) (bytes : List ℕ) (v : ContentValue) → Standing at depth p bytes
    → IsOctets bytes → content_in p ≡ Ok v → SpellsOctetString depth p.octets v
string_stands at depth p bytes v h octets e =
    let shallow : p.depth ≤ 16 = omega (arith, h.depth_is, h.stands.shallow) in
    let s = content_sound v p shallow (content_octets at depth p bytes h octets) e in
    record {
      tag = p.tag;
      content = p.content;
      stands = h.stands;
      spelled =
          subst (λ d. SpellsContent d p.tag p.content p.octets v) h.depth_is s;
    }

-- ---- messages

abbrev after_content : Part → ContentValue → Result ContentValue Fault
after_content c o = alone c >>= λ _. Ok o

abbrev after_last : Part → Result ContentValue Fault
after_last c = content_in c >>= after_content c

abbrev after_set : Part → Part → EnvelopeFields → Result MessageValue Fault
after_set p e v = last_in p.at (behind_at p e) (p.depth + 1) e.rest >>= λ o. Ok (message_as v o)

abbrev after_first : Part → Part → Result MessageValue Fault
after_first p e = set_in e >>= after_set p e

last_sound : (v : ContentValue) (whole at depth : ℕ) (bytes : List ℕ) → IsOctets bytes
    → last_in whole at depth bytes ≡ Ok v → SpellsOctetString depth bytes v
unfolding last_in
last_sound v whole at depth bytes octets e =
    let s = bind_ok (next_in whole at depth bytes) after_last v e in
    let o = bind_ok (content_in s.0) (after_content s.0) v s.2 in
    let a = bind_ok (alone s.0) (λ _. Ok o.0) v o.2 in
    let second = part_sound at depth bytes s.0 octets (next_so whole at depth bytes s.0 s.1) in
    let none : s.0.rest ≡ [] = alone_found s.0 (Ok a.0) (sym a.1) in
    let own : s.0.octets ≡ bytes = sym (second.octets_are ∙ ap (λ r. s.0.octets ++ r) none ∙ append-nil s.0.octets) in
    subst (λ x. SpellsOctetString depth x v) own
    (subst (λ (x : ContentValue). SpellsOctetString depth s.0.octets x) (ok_is o.0 v a.2)
    (string_stands at depth s.0 bytes o.0 second octets o.1))

last_full : (v : ContentValue) (whole at depth : ℕ) (bytes : List ℕ) → SpellsOctetString depth bytes v
    → last_in whole at depth bytes ≡ Ok v
unfolding last_in
last_full v whole at depth bytes c =
    let second : Part = lent_part at depth c.tag (length c.stands.header) c.content [] bytes in
    let found : part at depth bytes ≡ Ok second = ap (part at depth) (sym (append-nil bytes))
    ∙ stands_again at depth c.tag c.content bytes [] c.stands in
    ap (λ r. r >>= after_last) (so_next whole at depth bytes second found)
    ∙ ap (λ r. r >>= after_content second) (content_full v second c.stands.shallow c.spelled)
    ∙ ap (λ r. r >>= λ _. Ok v) (alone_only second (alone second) refl refl)

pub message_sound : (v : MessageValue) (p : Part) → IsOctets p.content → message_in p ≡ Ok v
    → SpellsMessage p.depth p.tag p.content v
unfolding message_in
message_sound v p octets read =
    let c = taken (is_constructed_tag 2 0 p.tag) (two_in p) (record { at = p.at; kind = BadTag }) v read in
    let e = bind_ok (next_in p.at p.start (p.depth + 1) p.content) (after_first p) v c.1 in
    let n = bind_ok (set_in e.0) (after_set p e.0) v e.2 in
    let o = bind_ok (last_in p.at (behind_at p e.0) (p.depth + 1) e.0.rest) (λ o. Ok (message_as n.0 o)) v n.2 in
    let first = part_sound p.start (p.depth + 1) p.content e.0 octets
    (next_so p.at p.start (p.depth + 1) p.content e.0 e.1) in
    let rest = rest_octets p.start (p.depth + 1) e.0 p.content first octets in
    subst (λ (x : MessageValue). SpellsMessage p.depth p.tag p.content x) {x = message_as n.0 o.0}
    (ok_is (message_as n.0 o.0) v o.2) (record {
      is_tag_of = c.0;
      first = e.0.octets;
      second = e.0.rest;
      joined = first.octets_are;
      envelope = set_stands p.start (p.depth + 1) e.0 p.content n.0 first octets n.1;
      content_of = last_sound o.0 p.at (behind_at p e.0) (p.depth + 1) e.0.rest rest o.1;
    })

pub message_full : (v : MessageValue) (p : Part) → SpellsMessage p.depth p.tag p.content v → message_in p ≡ Ok v
unfolding message_in
message_full v p h =
    let e = h.envelope in
    let first : Part = lent_part p.start (p.depth + 1) e.tag (length e.stands.header) e.content h.second h.first in
    let found : part p.start (p.depth + 1) p.content ≡ Ok first = ap (part p.start (p.depth + 1)) h.joined
    ∙ stands_again p.start (p.depth + 1) e.tag e.content h.first h.second e.stands in
    ap (λ b. cond b (two_in p) (fault p.at BadTag)) h.is_tag_of
    ∙ ap (λ r. r >>= after_first p) (so_next p.at p.start (p.depth + 1) p.content first found)
    ∙ ap (λ r. r >>= after_set p first) (set_full v.envelope first e.is_set_tag e.spelled)
    ∙ ap (λ r. r >>= λ o. Ok (message_as v.envelope o))
    (last_full v.content p.at (behind_at p first) (p.depth + 1) h.second h.content_of)

pub probe_sound : (v : EnvelopeFields) (p : Part) → IsOctets p.content → probe_in p ≡ Ok v
    → SpellsProbe p.depth p.tag p.content v
unfolding probe_in
probe_sound v p octets e =
    let c = taken (is_constructed_tag 2 2 p.tag) (envelope_in true p) (record { at = p.at; kind = BadTag }) v e in
    record { is_tag_of = c.0; spelled = envelope_sound true v p octets c.1 }

pub probe_full : (v : EnvelopeFields) (p : Part) → SpellsProbe p.depth p.tag p.content v → probe_in p ≡ Ok v
unfolding probe_in
probe_full v p h = ap (λ b. cond b (envelope_in true p) (fault p.at BadTag)) h.is_tag_of
    ∙ envelope_full true v p h.spelled
