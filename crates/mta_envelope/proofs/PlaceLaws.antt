-- A content that is lent lies at its place.
use Rattle.std.proofs.Common.{◌≡◌, ℕ, ◌+◌, ◌-◌, ◌≤◌, Bool, true, false, cond, List, [], ◌++◌, length, Option, Some}
use Rattle.std.proofs.Common.{None, Result, Ok, refl, sym, ap, subst, ◌∙◌, append-nil, length-append, arith}
use Rattle.std.specs.Prelude.{not, IfSome, IfNone}
use Rattle.std.specs.Borrow.{Bor}
use Rattle.mta_ber.specs.Element.{Part, IsBehind}
use Rattle.mta_ber.specs.Octet.{IsOctets}
use Rattle.mta_ber.specs.Place.{IsAt, IsTail}
use Rattle.mta_ber.specs.Spelling.{Stands, Standing, Row, Whole, ending_of}
use Rattle.mta_envelope.specs.declared.content.Content.{Content}
use Rattle.mta_envelope.specs.declared.content.Content.TheVariants.{Lent, Joined}
use Rattle.mta_envelope.specs.declared.place.Place.{Place}
use Rattle.mta_envelope.specs.Contents.{content_value, is_lent, IsLentFrom, content_in}
use Rattle.mta_envelope.specs.Places.{place_in, IsLast, IsBehindEnvelope, IsPlacedAt, IsPlaced}
use Rattle.mta_envelope.proofs.ContentLaws.{content_sound}

-- an element that nothing follows is all there is
last_of : (at depth : ℕ) (p : Part) (bytes octets : List ℕ) → octets ≡ p.content → p.tag.constructed ≡ false
    → Standing at depth p bytes → p.rest ≡ [] → IsLast depth bytes octets (p.start - at)
last_of at depth p bytes octets own primitive h none =
    let all : bytes ≡ p.octets = h.octets_are ∙ ap (λ r. p.octets ++ r) none ∙ append-nil p.octets in
    let stands : Stands depth p.tag octets bytes = record {
      count = h.stands.count;
      header = h.stands.header;
      is_header = h.stands.is_header;
      shallow = h.stands.shallow;
      definite = subst (λ o. IfSome h.stands.count (λ n. n ≡ length o)) (sym own) h.stands.definite;
      indefinite = subst (λ o. IfNone h.stands.count (Row (Whole (16 - depth)) true o)) (sym own) h.stands.indefinite;
      octets_are = all ∙ h.stands.octets_are ∙ ap (λ o. h.stands.header ++ (o ++ ending_of h.stands.count)) (sym own);
    } in
    record { tag = p.tag; stands = stands; is_primitive = primitive; offset_is = omega (arith, h.start_is) }

primitive_so : (b c : Bool) → b ≡ not c → c ≡ not b
primitive_so true true e = e
primitive_so true false e = refl
primitive_so false true e = refl
primitive_so false false e = e

form_of : (c : Content) (p : Part) → p.depth ≤ 16 → IsOctets p.content → content_in p ≡ Ok (content_value c)
    → p.tag.constructed ≡ not (is_lent c)
form_of c p d octets e = primitive_so (is_lent c) p.tag.constructed (content_sound (content_value c) p d octets e).lent

abbrev placed_in : ℕ → ℕ → Place
placed_in from to = record { from = from; to = to }

pub placed_last : (c : Content) (slice left : Bor (List ℕ)) (at depth : ℕ) (p : Part) → p.depth ≤ 16
    → IsOctets p.content → content_in p ≡ Ok (content_value c) → IsLentFrom slice c → p.content ≡ slice.now
    → IsAt (p.start - at) slice left → Standing at depth p left.now → p.rest ≡ []
    → IsPlaced (IsLast depth) at left c (place_in p)
placed_last (Joined o) slice left at depth p d octets read from is memory h none =
    subst (λ b. IsPlaced (IsLast depth) at left (Joined o)
    (cond b None (Some (placed_in p.start (p.start + length p.content)))))
    (sym (form_of (Joined o) p d octets read)) tt
placed_last (Lent c) slice left at depth p d octets read from is memory h none =
    let primitive = form_of (Lent c) p d octets read in
    let own : c.now ≡ p.content = ap (λ (s : Bor (List ℕ)). s.now) from ∙ sym is in
    subst (λ b. IsPlaced (IsLast depth) at left (Lent c)
    (cond b None (Some (placed_in p.start (p.start + length p.content))))) (sym primitive) (record {
      offset = p.start - at;
      from_is = omega (arith, h.start_is);
      to_is = omega (arith, ap length own);
      stands = last_of at depth p left.now c.now own primitive h none;
      memory = subst (λ s. IsAt (p.start - at) s left) (sym from) memory;
    })

pub placed_behind : (c : Content) (o : Option Place) (start depth at : ℕ) (whole left : Bor (List ℕ)) (e : Part)
    → Standing start depth e whole.now → IsBehind start whole.now e.rest at left.now → IsTail left whole
    → IsPlaced (IsLast depth) at left c o → IsPlaced (IsBehindEnvelope depth) start whole c o
placed_behind (Joined x) None start depth at whole left e h behind tail p = tt
placed_behind (Joined x) (Some o) start depth at whole left e h behind tail p = p
placed_behind (Lent c) None start depth at whole left e h behind tail p = p
placed_behind (Lent c) (Some o) start depth at whole left e h behind tail p =
    let size = length-append e.octets e.rest in
    let all = ap length h.octets_are in
    let rest = ap length behind.follows in
    record {
      offset = length e.octets + p.offset;
      from_is = omega (arith, p.from_is, behind.offset, size, all);
      to_is = p.to_is;
      stands = record {
        envelope = e.octets;
        string = e.rest;
        joined = h.octets_are;
        tag = e.tag;
        inside = e.content;
        stands = h.stands;
        inner_offset = p.offset;
        last = subst (λ l. IsLast depth l c.now p.offset) behind.follows p.stands;
        offset_is = refl;
      };
      memory = (p.memory.0 ∙ tail.0, omega (arith, p.memory.1, tail.1, size, all, rest));
    }
