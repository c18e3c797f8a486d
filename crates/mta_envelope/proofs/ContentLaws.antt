-- Contents are read exactly where they are spelled, and what is lent is the input itself.
use Rattle.std.proofs.Common.{◌≡◌, ℕ, ◌+◌, ◌-◌, ◌≤◌, Bool, true, false, cond, List, [], ◌++◌, length, Option, Some}
use Rattle.std.proofs.Common.{None, Result, Ok, Err, refl, sym, ap, subst, ◌∙◌, arith, length-append}
use Rattle.std.specs.Prelude.{IfOk, not}
use Rattle.std.specs.Borrow.{Bor}
use Rattle.mta_ber.specs.declared.fault.Kind.TheVariants.{BadTag}
use Rattle.mta_ber.specs.declared.fault.Fault.{Fault}
use Rattle.mta_ber.specs.declared.fault.ReadFault.{ReadFault}
use Rattle.mta_ber.specs.declared.fault.ReadFault.TheVariants as faults
use Rattle.mta_ber.specs.Element.{Part}
use Rattle.mta_ber.specs.Head.{◌>>=◌, fault}
use Rattle.mta_ber.specs.Octet.{IsOctets}
use Rattle.mta_ber.specs.Place.{IsTail, IsAt}
use Rattle.mta_ber.specs.Segmented.{SpellsOctets}
use Rattle.mta_ber.specs.Spelling.{Standing, IsCount, ending_of}
use Rattle.mta_ber.specs.Strings.{joined_as}
use Rattle.mta_ber.proofs.Steps.{bind_ok, ok_is, taken}
use Rattle.mta_ber.proofs.StringLaws.{joined_sound, joined_full, octets_spelled}
use Rattle.mta_envelope.specs.declared.content.Content.{Content}
use Rattle.mta_envelope.specs.declared.content.Content.TheVariants.{Lent, Joined}
use Rattle.mta_envelope.specs.Contents.{ReadsSeen, IsSeenAs, ContentValue, content_as, content_value, IsLentFrom}
use Rattle.mta_envelope.specs.Contents.{IsLentEndOf, is_octet_string, content_in, SpellsContent}

pub content_sound : (v : ContentValue) (p : Part) → p.depth ≤ 16 → IsOctets p.content → content_in p ≡ Ok v
    → SpellsContent p.depth p.tag p.content p.octets v
unfolding content_in
content_sound v p d o e =
    let c = taken (is_octet_string p.tag) (joined_as 4 p >>= λ x. Ok (content_as (not p.tag.constructed) x))
    (record { at = p.at; kind = BadTag }) v e in
    let b = bind_ok (joined_as 4 p) (λ x. Ok (content_as (not p.tag.constructed) x)) v c.1 in
    subst (λ (x : ContentValue). SpellsContent p.depth p.tag p.content p.octets x) {x =
    content_as (not p.tag.constructed) b.0} (ok_is (content_as (not p.tag.constructed) b.0) v b.2)
    (record { is_tag_of = c.0; spelled = joined_sound 4 p b.0 d o b.1; lent = refl })

pub content_full : (v : ContentValue) (p : Part) → p.depth ≤ 16 → SpellsContent p.depth p.tag p.content p.octets v
    → content_in p ≡ Ok v
unfolding content_in
content_full v p d h =
    ap (λ b. cond b (joined_as 4 p >>= λ x. Ok (content_as (not p.tag.constructed) x)) (fault p.at BadTag)) h.is_tag_of
    ∙ ap (λ r. r >>= λ x. Ok (content_as (not p.tag.constructed) x)) (joined_full 4 p v.octets d h.spelled)
    ∙ ap (λ b. Ok (content_as b v.octets)) (sym h.lent)

-- a primitive content is its own octets
pub primitive_in : (p : Part) → p.depth ≤ 16 → is_octet_string p.tag ≡ true → p.tag.constructed ≡ false
    → content_in p ≡ Ok (content_as true p.content)
primitive_in p d is c =
    content_full (content_as true p.content) p d (record {
      is_tag_of = is;
      spelled = subst (λ b. SpellsOctets 4 p.depth b p.content p.content) (sym c)
          (octets_spelled 4 p.depth p.content d);
      lent = ap not (sym c);
    })

abbrev Slice : Type 0
Slice = Bor (List ℕ)

abbrev some_slice : Slice → Option Slice
some_slice c = Some c

plain_so : (b : Bool) (o c : Slice) → some_slice o ≡ cond b None (some_slice c) → (b ≡ false) × (o ≡ c)
plain_so true o c e = absurd cc
plain_so false o c e = (refl, let f : o ≡ c = cc in f)

pub lent_in : (p : Part) (o c : Slice) → p.depth ≤ 16 → is_octet_string p.tag ≡ true → c.now ≡ p.content
    → some_slice o ≡ cond p.tag.constructed None (some_slice c) → content_in p ≡ Ok (content_value (Lent o))
lent_in p o c d is own e =
    let s = plain_so p.tag.constructed o c e in
    let same : p.content ≡ o.now = sym (ap (λ (x : Slice). x.now) s.1 ∙ own) in
    primitive_in p d is s.0 ∙ ap (λ x. Ok (content_as true x)) same

-- ---- the place of what is lent

-- a primitive element that nothing follows ends where its content ends
ends_with : (at depth : ℕ) (p : Part) (bytes : List ℕ) → Standing at depth p bytes → p.tag.constructed ≡ false
    → p.rest ≡ [] → (p.start - at) + length p.content ≡ length bytes
ends_with at depth p bytes h c none = go h.stands.count h.stands.is_header.is_count h.stands.octets_are h.start_is
  where
    go : (count : _) → IsCount p.tag.constructed count h.stands.is_header.lengths → p.octets ≡ h.stands.header
        ++ (p.content ++ ending_of count) → p.start ≡ at + length h.stands.header
        → (p.start - at) + length p.content ≡ length bytes
    go None is own start = absurd (let k = sym is.0 ∙ c in cc)
    go (Some n) is own start =
        omega (
          arith,
          start,
          ap length own,
          ap length h.octets_are,
          ap length none,
          length-append p.octets p.rest,
          length-append h.stands.header (p.content ++ []),
          length-append p.content [],
        )

lent_primitive : (slice : Slice) (p : Part) (c : Slice) → p.depth ≤ 16 → IsOctets p.content
    → content_in p ≡ Ok (content_value (Lent c)) → p.tag.constructed ≡ false
lent_primitive slice p c d o e = go p.tag.constructed (content_sound (content_as true c.now) p d o e).lent
  where
    go : (b : Bool) → true ≡ not b → b ≡ false
    go true e = absurd cc
    go false e = refl

pub lent_end : (c : Content) (slice left whole : Slice) (at depth : ℕ) (p : Part) → p.depth ≤ 16 → IsOctets p.content
    → content_in p ≡ Ok (content_value c) → IsLentFrom slice c → p.content ≡ slice.now
    → IsAt (p.start - at) slice left → IsTail left whole → Standing at depth p left.now → p.rest ≡ []
    → IsLentEndOf whole c
lent_end (Joined o) slice left whole at depth p d octets read from is place tail stands none = tt
lent_end (Lent c) slice left whole at depth p d octets read from is place tail stands none =
    let primitive = lent_primitive slice p c d octets read in
    let ends = ends_with at depth p left.now stands primitive none in
    let same = ap length is in
    subst (λ s. IsTail s whole) (sym from) (place.0 ∙ tail.0, omega (arith, place.1, tail.1, ends, same))

-- the end of an end
pub end_of_end : (c : Content) (left whole : Slice) → IsLentEndOf left c → IsTail left whole → IsLentEndOf whole c
end_of_end (Joined o) left whole h tail = tt
end_of_end (Lent c) left whole h tail = (h.0 ∙ tail.0, h.1 ∙ tail.1)

-- ---- what readers answer, as it is seen

pub seen_found : {X Y : Type 0} (seen : X → Y) (P : Y → Type 0) (r : Result X ReadFault) (read : Result Y Fault)
    → ReadsSeen seen r read → ((y : Y) → read ≡ Ok y → P y) → IfOk r (λ x. P (seen x))
seen_found seen P (Ok x) read e f = f (seen x) e
seen_found seen P (Err fault) read e f = tt

pub seen_only : {X Y : Type 0} (seen : X → Y) (r : Result X ReadFault) (read : Result Y Fault) (y : Y)
    → ReadsSeen seen r read → read ≡ Ok y → IsSeenAs seen r y
seen_only seen (Ok x) read y e f = ok_is (seen x) y (sym e ∙ f)
seen_only seen (Err faults.Memory) read y e f = tt
seen_only seen (Err (faults.Bad d)) read y e f = absurd (let k = sym e ∙ f in cc)
