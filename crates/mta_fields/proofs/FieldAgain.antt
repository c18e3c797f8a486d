-- What is written of a domain, an MTS identifier, a trace element and an expansion is spelled so, and is read again.
use Rattle.std.proofs.Common.{◌≡◌, ℕ, suc, ◌+◌, ◌-◌, ◌≤◌, ◌<◌, ◌^◌, Bool, true, false, List, [], ◌∷◌, ◌++◌, length}
use Rattle.std.proofs.Common.{Option, Some, None, Ok, refl, sym, ap, subst, ◌∙◌, append_assoc, arith, inr, pos}
use Rattle.std.specs.Prelude.{IfSome}
use Rattle.mta_ber.specs.declared.tag.Tag.{Tag}
use Rattle.mta_ber.specs.declared.text.TextClass.TheVariants.{Ia5}
use Rattle.mta_ber.specs.Bits.{BitString, no_bits}
use Rattle.mta_ber.specs.Canon.{IsTag, element, primitive, constructed, optional}
use Rattle.mta_ber.specs.Components.{IsComponent}
use Rattle.mta_ber.specs.Contents.{int_content, bits_content, utc_content, canon_int, canon_bits, canon_utc}
use Rattle.mta_ber.specs.Head.{◌>>=◌}
use Rattle.mta_ber.specs.Laws.{with_rest, beside}
use Rattle.mta_ber.specs.Moments.{SpellsMoment}
use Rattle.mta_ber.specs.Segmented.{AddsBits, SpellsString, SpellsBits, SpellsText}
use Rattle.mta_ber.specs.Parts.{is_tag}
use Rattle.mta_ber.specs.Strings.{joined_as}
use Rattle.mta_ber.specs.Times.{moment_of, timed, utc_in, last_moment}
use Rattle.mta_ber.proofs.CanonLaws.{lent}
use Rattle.mta_ber.proofs.MomentLaws.{moment_sound}
use Rattle.mta_ber.proofs.RoundTrip.{first_again}
use Rattle.mta_ber.proofs.Steps.{bind_ok, ok_is}
use Rattle.mta_ber.proofs.StringLaws.{joined_full, octets_spelled}
use Rattle.mta_ber.proofs.TimeAgain.{moments_again}
use Rattle.mta_names.specs.declared.attributes.Attributes.{Attributes}
use Rattle.mta_names.specs.declared.attributes.Label.{Label}
use Rattle.mta_names.specs.Labels.{SpellsLabel, SpellsChoice, canonical_choice, canonical_label, label_number}
use Rattle.mta_names.specs.Laws.{IsRawAt}
use Rattle.mta_names.specs.Names.{SpellsName, kept, name_content, canonical_name}
use Rattle.mta_names.specs.Values.{IsCountry, IsLabel}
use Rattle.mta_names.proofs.Again.{low_tag, string_tag, text_spelled, number_spelled, label_spelled, choice_spelled}
use Rattle.mta_names.proofs.NameAgain.{name_spelled}
use Rattle.mta_names.proofs.Rows.{short_inside, short_front, short_back, puts, component, IsRow, no_row, row_more}
use Rattle.mta_names.proofs.Rows.{row_last, row_spelled, From, Piece, none_from, piece_from, optional_from, at_last}
use Rattle.mta_names.proofs.Rows.{regroup_6, content_again}
use Rattle.mta_fields.proofs.Tagged.{tagged_again}
use Rattle.mta_fields.specs.declared.domain.DomainFields.{DomainFields}
use Rattle.mta_fields.specs.declared.domain.DomainPart.TheVariants as domains
use Rattle.mta_fields.specs.declared.domain.DomainParts.{DomainParts}
use Rattle.mta_fields.specs.declared.expansion.ExpansionFields.{ExpansionFields}
use Rattle.mta_fields.specs.declared.expansion.ExpansionPart.TheVariants as expansions
use Rattle.mta_fields.specs.declared.expansion.ExpansionParts.{ExpansionParts}
use Rattle.mta_fields.specs.declared.identifier.MtsIdFields.{MtsIdFields}
use Rattle.mta_fields.specs.declared.identifier.MtsIdPart.TheVariants as ids
use Rattle.mta_fields.specs.declared.identifier.MtsIdParts.{MtsIdParts}
use Rattle.mta_fields.specs.declared.supplied.Action.{Action}
use Rattle.mta_fields.specs.declared.supplied.Action.TheVariants.{Relayed, Rerouted}
use Rattle.mta_fields.specs.declared.supplied.Supplied.{Supplied}
use Rattle.mta_fields.specs.declared.supplied.SuppliedPart.{SuppliedPart}
use Rattle.mta_fields.specs.declared.supplied.SuppliedPart.TheVariants.{Arrival, Deferred, Routing, Other, Attempted}
use Rattle.mta_fields.specs.declared.supplied.SuppliedPart.TheVariants.{Converted}
use Rattle.mta_fields.specs.declared.supplied.SuppliedParts.{SuppliedParts}
use Rattle.mta_fields.specs.declared.trace.TraceFields.{TraceFields}
use Rattle.mta_fields.specs.declared.trace.TracePart.TheVariants as traces
use Rattle.mta_fields.specs.declared.trace.TraceParts.{TraceParts}
use Rattle.mta_fields.specs.Domains.{IsDomain, with_country, with_admd, with_prmd, no_domain, domain_in, is_domain_tag}
use Rattle.mta_fields.specs.Domains.{MakesDomain, SpellsDomain, domain_content, canonical_domain}
use Rattle.mta_fields.specs.Expansions.{with_name, with_moment, no_expansion, expansion_in, MakesExpansion}
use Rattle.mta_fields.specs.Expansions.{SpellsExpansion, canonical_expansion}
use Rattle.mta_fields.specs.Identifiers.{with_domain, with_local, no_id, id_in, MakesId, SpellsMtsId, canonical_id}
use Rattle.mta_fields.specs.Laws.{KeepsSupplied, KeepsTrace, KeepsExpansion, IsWholeSupplied, IsWholeId, IsWholeTrace}
use Rattle.mta_fields.specs.Laws.{IsWholeExpansion, DomainsAreReadAgain, MtsIdentifiersAreReadAgain}
use Rattle.mta_fields.specs.Laws.{SuppliedInformationIsReadAgain, TraceElementsAreReadAgain, ExpansionsAreReadAgain}
use Rattle.mta_fields.specs.TraceElements.{no_trace, trace_in, MakesTrace, SpellsTrace, canonical_trace}
use Rattle.mta_fields.specs.TraceElements as trace
use Rattle.mta_fields.specs.Traces.{action_number, is_supplied_tag, with_arrival, with_deferred, with_action}
use Rattle.mta_fields.specs.Traces.{with_other, with_attempted, with_converted, no_supplied, bit_if, supplied}
use Rattle.mta_fields.specs.Traces.{supplied_in, SpellsAction, MakesSuppliedPart, MakesSupplied, SpellsSupplied}
use Rattle.mta_fields.specs.Traces.{two_bits, canonical_other, canonical_deferred, supplied_content, canonical_supplied}
use Rattle.mta_fields.proofs.DomainLaws.{domain_full}
use Rattle.mta_fields.proofs.ExpansionLaws.{expansion_full}
use Rattle.mta_fields.proofs.IdentifierLaws.{id_full}
use Rattle.mta_fields.proofs.SuppliedLaws.{supplied_full}
use Rattle.mta_fields.proofs.TraceLaws.{trace_full}

-- ---- moments

utc_short : (m : ℕ) → length (utc_content m) < 2 ^ 64
unfolding utc_content
utc_short m = omega arith

timed_so : (at : ℕ) (o : Option ℕ) (m : ℕ) → timed at o ≡ Ok m → o ≡ Some m
timed_so at None m e = absurd cc
timed_so at (Some n) m e = ap (λ k. Some k) (ok_is n m e)

abbrev moment_beside : ℕ → ℕ × List ℕ
moment_beside m = (m, [])

-- the text that is written of a moment is one of that moment
moment_read : (m : ℕ) → m ≤ last_moment → moment_of (utc_content m) ≡ Some m
unfolding utc_in
moment_read m le =
    let t = primitive 0 23 in
    let low : IsTag t = low_tag 0 23 false (omega arith) (omega arith) in
    let p = lent 0 1 t (utc_content m) [] in
    let found = ap (λ x. x >>= with_rest utc_in) (first_again 0 t (utc_content m) [] low (utc_short m)) in
    let whole = moments_again t m [] 0 low le in
    let b = bind_ok (utc_in p) (λ v. beside v []) (moment_beside m) (sym found ∙ whole) in
    let same : b.0 ≡ m = ap (λ (x : ℕ × List ℕ). x.0) (ok_is (moment_beside b.0) (moment_beside m) b.2) in
    let j = bind_ok (joined_as 23 p) (λ x. timed 0 (moment_of x)) b.0 b.1 in
    let text : j.0 ≡ utc_content m =
    ok_is j.0 (utc_content m) (sym j.1
    ∙ joined_full 23 p (utc_content m) (omega arith) (octets_spelled 23 1 (utc_content m) (omega arith))) in
    ap moment_of (sym text) ∙ timed_so 0 (moment_of j.0) b.0 j.2 ∙ ap (λ k. Some k) same

pub moment_spelled : (depth m : ℕ) → m ≤ last_moment → depth ≤ 16 → SpellsMoment depth false (utc_content m) m
moment_spelled depth m le d = record {
  text = utc_content m;
  spelled = octets_spelled 23 depth (utc_content m) d;
  is_text = moment_sound (utc_content m) m (moment_read m le);
}

-- ---- domains

abbrev domain_parts : ℕ → Label → Label → Option Label → DomainParts
domain_parts last c a o = record { last = last; country = Some c; admd = Some a; prmd = o }

prmd_tag : (b : Bool) → is_domain_tag domains.Prmd (primitive 0 (label_number b)) ≡ true
prmd_tag true = refl
prmd_tag false = refl

domain_tail : (depth : ℕ) (c a : Label) → depth + 1 ≤ 16 → (o : Option Label) → IfSome o (IsLabel 1 16)
    → length (optional canonical_choice o) < 2 ^ 64
    → (last : ℕ) × IsRow MakesDomain depth (domain_parts 2 c a None) (optional canonical_choice o)
    (domain_parts last c a o)
domain_tail depth c a d None h short = (2, no_row MakesDomain depth (domain_parts 2 c a None))
domain_tail depth c a d (Some l) h short = (
  3,
  row_last MakesDomain depth (domain_parts 2 c a None) (domain_parts 3 c a (Some l)) (canonical_choice l)
      (component MakesDomain depth (domain_parts 2 c a None) (domain_parts 3 c a (Some l))
      (primitive 0 (label_number l.numeric)) l.text (string_tag l.numeric) (omega arith) short (record {
        part = domains.Prmd;
        is_tag_of = prmd_tag l.numeric;
        needed = omega arith;
        behind = omega arith;
        made = puts (SpellsChoice (IsLabel 1 16) depth (primitive 0 (label_number l.numeric)) l.text
            (canonical_choice l)) (with_prmd (domain_parts 2 c a None)) l
            (choice_spelled (IsLabel 1 16) depth (canonical_choice l) l h (omega arith));
      })),
)

abbrev half_domain : Label → DomainParts
half_domain c = record { last = 1; country = Some c; admd = None; prmd = None }

pub domain_spelled : (depth : ℕ) (v : DomainFields) → IsDomain v → depth + 2 ≤ 16 → length (domain_content v) < 2 ^ 64
    → SpellsDomain depth (constructed 1 3) (domain_content v) v
domain_spelled depth v h d short =
    let country = canonical_label 1 1 v.country in
    let admd = canonical_label 1 2 v.admd in
    let prmd = optional canonical_choice v.prmd in
    let front = short_front (country ++ admd) prmd short in
    let first = short_front country admd front in
    let second = short_back country admd front in
    let tail = domain_tail (depth + 1) v.country v.admd (omega arith) v.prmd h.prmd
    (short_back (country ++ admd) prmd short) in
    let parts = domain_parts tail.0 v.country v.admd v.prmd in
    let admd_there : IsComponent MakesDomain (depth + 1) (half_domain v.country) admd
    (domain_parts 2 v.country v.admd None) =
    component MakesDomain (depth + 1) (half_domain v.country) (domain_parts 2 v.country v.admd None) (constructed 1 2)
    (canonical_choice v.admd) (low_tag 1 2 true (omega arith) (omega arith)) (omega arith) second (record {
      part = domains.Admd;
      is_tag_of = refl;
      needed = omega arith;
      behind = omega arith;
      made = puts (SpellsLabel (IsLabel 0 16) (depth + 1) true (canonical_choice v.admd))
          (with_admd (half_domain v.country)) v.admd
          (label_spelled (IsLabel 0 16) (depth + 1) v.admd h.admd (omega arith)
          (short_inside (constructed 1 2) (canonical_choice v.admd) second));
    }) in
    let country_there : IsComponent MakesDomain (depth + 1) no_domain country (half_domain v.country) =
    component MakesDomain (depth + 1) no_domain (half_domain v.country) (constructed 1 1) (canonical_choice v.country)
    (low_tag 1 1 true (omega arith) (omega arith)) (omega arith) first (record {
      part = domains.Country;
      is_tag_of = refl;
      needed = omega arith;
      behind = omega arith;
      made = puts (SpellsLabel IsCountry (depth + 1) true (canonical_choice v.country))
          (with_country no_domain) v.country
          (label_spelled IsCountry (depth + 1) v.country h.country (omega arith)
          (short_inside (constructed 1 1) (canonical_choice v.country) first));
    }) in
    let row = row_more MakesDomain (depth + 1) no_domain (half_domain v.country) parts country
    (admd ++ prmd) country_there (row_more MakesDomain (depth + 1) (half_domain v.country)
    (domain_parts 2 v.country v.admd None) parts admd prmd admd_there tail.1) in
    record {
      is_tag_of = refl;
      parts = parts;
      spelled = row_spelled MakesDomain depth no_domain parts (domain_content v)
          (subst (λ octets. IsRow MakesDomain (depth + 1) no_domain octets parts)
          (sym (append_assoc country admd prmd)) row);
      country = refl;
      admd = refl;
      prmd = refl;
    }

domain_low : IsTag (constructed 1 3)
domain_low = low_tag 1 3 true (omega arith) (omega arith)

pub domains_again : DomainsAreReadAgain
unfolding canonical_domain
domains_again depth v h d = tagged_again domain_in SpellsDomain domain_full depth (constructed 1 3)
    (domain_content v) v domain_low (omega arith) (domain_spelled depth v h d)

-- ---- MTS identifiers

abbrev id_parts : ℕ → DomainFields → Option (List ℕ) → MtsIdParts
id_parts last d l = record { last = last; domain = Some d; local = l }

abbrev canonical_local : List ℕ → List ℕ
canonical_local t = element (primitive 0 22) t

pub identifier_spelled : (depth : ℕ) (v : MtsIdFields) → IsWholeId v → depth + 3 ≤ 16
    → length (canonical_domain v.domain ++ canonical_local v.local) < 2 ^ 64
    → SpellsMtsId depth (constructed 1 4) (canonical_domain v.domain ++ canonical_local v.local) v
unfolding canonical_domain
identifier_spelled depth v h d short =
    let domain = canonical_domain v.domain in
    let local = canonical_local v.local in
    let first = short_front domain local short in
    let domain_there : IsComponent MakesId (depth + 1) no_id domain (id_parts 1 v.domain None) =
    component MakesId (depth + 1) no_id (id_parts 1 v.domain None) (constructed 1 3)
    (domain_content v.domain) domain_low (omega arith) first (record {
      part = ids.Issuer;
      is_tag_of = refl;
      needed = omega arith;
      behind = omega arith;
      made = puts (SpellsDomain (depth + 1) (constructed 1 3) (domain_content v.domain)) (with_domain no_id) v.domain
          (domain_spelled (depth + 1) v.domain h.domain (omega arith)
          (short_inside (constructed 1 3) (domain_content v.domain) first));
    }) in
    let local_there : IsComponent MakesId (depth + 1) (id_parts 1 v.domain None) local
    (id_parts 2 v.domain (Some v.local)) =
    component MakesId (depth + 1) (id_parts 1 v.domain None) (id_parts 2 v.domain (Some v.local))
    (primitive 0 22) v.local (low_tag 0 22 false (omega arith) (omega arith)) (omega arith)
    (short_back domain local short) (record {
      part = ids.Local;
      is_tag_of = refl;
      needed = omega arith;
      behind = omega arith;
      made = puts (SpellsText Ia5 1 32 (depth + 1) false v.local) (with_local (id_parts 1 v.domain None)) v.local
          (text_spelled Ia5 1 32 (depth + 1) v.local h.local (omega arith));
    }) in
    let whole = id_parts 2 v.domain (Some v.local) in
    let row = row_more MakesId (depth + 1) no_id (id_parts 1 v.domain None) whole domain local domain_there
    (row_last MakesId (depth + 1) (id_parts 1 v.domain None) whole local local_there) in
    record {
      is_tag_of = refl;
      parts = whole;
      spelled = row_spelled MakesId depth no_id whole (domain ++ local) row;
      domain = refl;
      local = refl;
    }

pub identifiers_again : MtsIdentifiersAreReadAgain
unfolding canonical_id
identifiers_again depth v h d = tagged_again id_in SpellsMtsId id_full depth (constructed 1 4)
    (canonical_domain v.domain ++ canonical_local v.local) v (low_tag 1 4 true (omega arith) (omega arith))
    (omega arith) (identifier_spelled depth v h d)

-- ---- bits

pub bits_spelled : (depth : ℕ) (content : List ℕ) (b : BitString) → AddsBits true no_bits content b → b.count ≤ 64
    → depth ≤ 16 → SpellsBits depth false content b
bits_spelled depth content b h few d =
    let left : suc (16 - depth) ≡ 17 - depth = omega arith in
    record { spelled = subst (λ k. SpellsString AddsBits 3 3 k false true no_bits content b) left h; few = few }

two_added : (a b : Bool) → AddsBits true no_bits (bits_content (two_bits a b)) (two_bits a b)
unfolding bits_content
two_added true true = record {
  unused = 6;
  octets = 192 ∷ [];
  content_is = refl;
  few = omega arith;
  some =
      inr (refl, omega arith);
  after_is = refl;
}
two_added true false = record {
  unused = 6;
  octets = 128 ∷ [];
  content_is = refl;
  few = omega arith;
  some =
      inr (refl, omega arith);
  after_is = refl;
}
two_added false true = record {
  unused = 6;
  octets = 64 ∷ [];
  content_is = refl;
  few = omega arith;
  some =
      inr (refl, omega arith);
  after_is = refl;
}
two_added false false = record {
  unused = 6;
  octets = 0 ∷ [];
  content_is = refl;
  few = omega arith;
  some =
      inr (refl, omega arith);
  after_is = refl;
}

abbrev others_of : Bool → Bool → Option BitString
others_of true b = Some (two_bits true b)
others_of false true = Some (two_bits false true)
others_of false false = None

abbrev write_others : BitString → List ℕ
write_others b = canon_bits (primitive 2 3) b

others_written : (a b : Bool) → optional write_others (others_of a b) ≡ canonical_other a b
others_written true true = refl
others_written true false = refl
others_written false true = refl
others_written false false = refl

record IsOther (b : BitString) : Type 0 where
  adds : AddsBits true no_bits (bits_content b) b
  few : b.count ≤ 64

others_are : (a b : Bool) → IfSome (others_of a b) IsOther
others_are true b = record { adds = two_added true b; few = omega arith }
others_are false true = record { adds = two_added false true; few = omega arith }
others_are false false = tt

first_other : (a b : Bool) → bit_if (others_of a b) 0 ≡ a
first_other true true = refl
first_other true false = refl
first_other false true = refl
first_other false false = refl

second_other : (a b : Bool) → bit_if (others_of a b) 1 ≡ b
second_other true true = refl
second_other true false = refl
second_other false true = refl
second_other false false = refl

-- ---- what a domain supplied

supplied_piece : (k : SuppliedPart) (place depth : ℕ) (s t : SuppliedParts) (tag : Tag) (content : List ℕ) → IsTag tag
    → is_supplied_tag k tag ≡ true → depth ≤ 16
    → (length content < 2 ^ 64 → MakesSuppliedPart k depth s tag content (element tag content) t)
    → Piece MakesSupplied depth (λ last s. s) 0 place s (element tag content) t
supplied_piece k place depth s t tag content low is d made short last ge lt =
    component MakesSupplied depth s t tag content low d short
    (record { part = k; is_tag_of = is; made = made (short_inside tag content short) })

action_small : (a : Action) → action_number a ≤ 1
action_small Relayed = omega arith
action_small Rerouted = omega arith

action_spelled : (a : Action) → SpellsAction false (int_content (pos (action_number a))) a
action_spelled a = let small = action_small a in
    record { spelled = number_spelled 1 (action_number a) small (omega arith) }

abbrev stood : Supplied → Option ℕ → Option ℕ → Option Action → Option BitString → SuppliedParts
stood v m p a o = record {
  arrival = m;
  deferred = p;
  action = a;
  other = o;
  attempted = v.attempted;
  converted =
      v.converted;
}

abbrev early : Option DomainFields → Option (List ℕ) → SuppliedParts
early a c = record { arrival = None; deferred = None; action = None; other = None; attempted = a; converted = c }

abbrev others : Supplied → Option BitString
others v = others_of v.redirected v.dl

abbrev whole : Supplied → SuppliedParts
whole v = stood v (Some v.arrival) v.deferred (Some v.action) (others v)

abbrev action_octets : Supplied → List ℕ
action_octets v = canon_int (primitive 2 2) (pos (action_number v.action))

abbrev arrival_octets : Supplied → List ℕ
arrival_octets v = canon_utc (primitive 2 0) v.arrival

abbrev behind_arrival : Supplied → List ℕ
behind_arrival v = optional canonical_deferred v.deferred ++ (action_octets v ++ optional write_others (others v))

module _ (depth : ℕ) (d : depth + 2 ≤ 16) (v : Supplied) (h : IsWholeSupplied v)
    (k : IfSome v.converted (IsRawAt depth 1 5)) where
  others_from : From MakesSupplied depth (λ last s. s) 0 6 (stood v (Some v.arrival) v.deferred (Some v.action) None)
      (optional write_others (others v)) (whole v)
  others_from =
      at_last MakesSupplied depth (λ last s. s) 0 6 (stood v (Some v.arrival) v.deferred (Some v.action) None)
      (optional write_others (others v)) (whole v)
      (optional_from MakesSupplied depth (λ last s. s) 0 6 7 write_others IsOther
      (λ o. stood v (Some v.arrival) v.deferred (Some v.action) o) (others v) [] (whole v) (omega arith)
      (others_are v.redirected v.dl)
      (λ x is. supplied_piece Other 6 depth (stood v (Some v.arrival) v.deferred (Some v.action) None)
      (stood v (Some v.arrival) v.deferred (Some v.action) (Some x)) (primitive 2 3) (bits_content x)
      (low_tag 2 3 false (omega arith) (omega arith)) refl (omega arith)
      (λ short. (
        refl,
        puts (SpellsBits depth false (bits_content x))
            (with_other (stood v (Some v.arrival) v.deferred (Some v.action) None)) x
            (bits_spelled depth (bits_content x) x is.adds is.few (omega arith)),
      )))
      (none_from MakesSupplied depth (λ last s. s) 0 7 (whole v)))

  action_from : From MakesSupplied depth (λ last s. s) 0 5 (stood v (Some v.arrival) v.deferred None None)
      ((action_octets v) ++ optional write_others (others v)) (whole v)
  action_from =
      piece_from MakesSupplied depth (λ last s. s) 0 5 6 (stood v (Some v.arrival) v.deferred None None)
      (stood v (Some v.arrival) v.deferred (Some v.action) None) (action_octets v)
      (optional write_others (others v)) (whole v) (omega arith)
      (supplied_piece Routing 5 depth (stood v (Some v.arrival) v.deferred None None)
      (stood v (Some v.arrival) v.deferred (Some v.action) None) (primitive 2 2)
      (int_content (pos (action_number v.action))) (low_tag 2 2 false (omega arith) (omega arith)) refl
      (omega arith)
      (λ short. (
        refl,
        puts (SpellsAction false (int_content (pos (action_number v.action))))
            (with_action (stood v (Some v.arrival) v.deferred None None)) v.action (action_spelled v.action),
      )))
      others_from

  deferred_from : From MakesSupplied depth (λ last s. s) 0 4 (stood v (Some v.arrival) None None None)
      (optional canonical_deferred v.deferred ++ ((action_octets v) ++ optional write_others (others v))) (whole v)
  deferred_from =
      optional_from MakesSupplied depth (λ last s. s) 0 4 5 canonical_deferred (λ m. m ≤ last_moment)
      (λ o. stood v (Some v.arrival) o None None) v.deferred ((action_octets v) ++ optional write_others (others v))
      (whole v) (omega arith) h.supplied.deferred
      (λ x is. supplied_piece Deferred 4 depth (stood v (Some v.arrival) None None None)
      (stood v (Some v.arrival) (Some x) None None) (primitive 2 1) (utc_content x)
      (low_tag 2 1 false (omega arith) (omega arith)) refl (omega arith)
      (λ short. (
        refl,
        puts (SpellsMoment depth false (utc_content x))
            (with_deferred (stood v (Some v.arrival) None None None)) x (moment_spelled depth x is (omega arith)),
      )))
      action_from

  arrival_from : From MakesSupplied depth (λ last s. s) 0 3 (stood v None None None None)
      ((arrival_octets v) ++ (behind_arrival v)) (whole v)
  arrival_from =
      piece_from MakesSupplied depth (λ last s. s) 0 3 4 (stood v None None None None)
      (stood v (Some v.arrival) None None None) (arrival_octets v) (behind_arrival v) (whole v) (omega arith)
      (supplied_piece Arrival 3 depth (stood v None None None None) (stood v (Some v.arrival) None None None)
      (primitive 2 0) (utc_content v.arrival) (low_tag 2 0 false (omega arith) (omega arith)) refl (omega arith)
      (λ short. (
        refl,
        puts (SpellsMoment depth false (utc_content v.arrival))
            (with_arrival (stood v None None None None)) v.arrival
            (moment_spelled depth v.arrival h.supplied.arrival (omega arith)),
      )))
      deferred_from

  converted_from : From MakesSupplied depth (λ last s. s) 0 2 (early v.attempted None)
      (optional kept v.converted ++ ((arrival_octets v) ++ (behind_arrival v))) (whole v)
  converted_from =
      optional_from MakesSupplied depth (λ last s. s) 0 2 3 kept (IsRawAt depth 1 5)
      (λ o. early v.attempted o) v.converted ((arrival_octets v) ++ (behind_arrival v)) (whole v) (omega arith) k
      (λ x is short last ge lt. record {
        tag = is.tag;
        content = is.content;
        stands = is.stands;
        made = record {
          part = Converted;
          is_tag_of = is.is_tag_of;
          made =
              (refl, puts (λ y. y ≡ x) (with_converted (early v.attempted None)) x refl);
        };
      })
      arrival_from

  attempted_from : From MakesSupplied depth (λ last s. s) 0 1 no_supplied
      (optional canonical_domain v.attempted
      ++ (optional kept v.converted ++ ((arrival_octets v) ++ (behind_arrival v)))) (whole v)
  unfolding canonical_domain
  attempted_from =
      optional_from MakesSupplied depth (λ last s. s) 0 1 2 canonical_domain IsDomain (λ o. early o None) v.attempted
      (optional kept v.converted ++ ((arrival_octets v) ++ (behind_arrival v))) (whole v) (omega arith) h.attempted
      (λ x is. supplied_piece Attempted 1 depth no_supplied (early (Some x) None) (constructed 1 3)
      (domain_content x) domain_low refl (omega arith)
      (λ short. (
        refl,
        puts (SpellsDomain depth (constructed 1 3) (domain_content x)) (with_attempted no_supplied) x
            (domain_spelled depth x is d short),
      )))
      converted_from

supplied_group : (v : Supplied) → optional canonical_domain v.attempted
    ++ (optional kept v.converted ++ (arrival_octets v ++ behind_arrival v)) ≡ supplied_content v
supplied_group v =
    regroup_6 (optional canonical_domain v.attempted) (optional kept v.converted) (arrival_octets v)
    (optional canonical_deferred v.deferred) (action_octets v) (optional write_others (others v))
    ∙ ap (λ octets. optional canonical_domain v.attempted ++ optional kept v.converted ++ arrival_octets v
    ++ optional canonical_deferred v.deferred ++ action_octets v ++ octets) (others_written v.redirected v.dl)

supplied_is : (v : Supplied) → v ≡ supplied v.arrival v.action (whole v)
supplied_is v = made v.arrival v.action v.attempted v.deferred v.converted v.redirected v.dl (bit_if (others v) 0)
    (bit_if (others v) 1) (sym (first_other v.redirected v.dl)) (sym (second_other v.redirected v.dl))
  where
    made : (m : ℕ) (a : Action) (w : Option DomainFields) (p : Option ℕ) (c : Option (List ℕ)) (r l r' l' : Bool)
        → r ≡ r' → l ≡ l'
        → ◌≡◌ {A = Supplied} (record {
          arrival = m;
          action = a;
          attempted = w;
          deferred = p;
          converted = c;
          redirected =
              r;
          dl = l;
        }) (record {
          arrival = m;
          action = a;
          attempted = w;
          deferred = p;
          converted = c;
          redirected = r';
          dl = l';
        })
    made m a w p c r l r' l' e f = cc

pub supplied_spelled : (depth : ℕ) (v : Supplied) → IsWholeSupplied v → KeepsSupplied depth v → depth + 3 ≤ 16
    → length (supplied_content v) < 2 ^ 64 → SpellsSupplied depth true (supplied_content v) v
supplied_spelled depth v h k d short =
    let all = subst (λ octets. From MakesSupplied (depth + 1) (λ last s. s) 0 1 no_supplied octets (whole v))
    (supplied_group v) (attempted_from (depth + 1) (omega arith) v h k) in
    let e = all short 0 (omega arith) (omega arith) in
    record {
      is_constructed = refl;
      parts = whole v;
      spelled =
          row_spelled MakesSupplied depth no_supplied (whole v) (supplied_content v) e.row;
      arrival = refl;
      action = refl;
      value = supplied_is v;
    }

supplied_low : IsTag (constructed 0 17)
supplied_low = low_tag 0 17 true (omega arith) (omega arith)

pub supplied_again : SuppliedInformationIsReadAgain
unfolding canonical_supplied
supplied_again depth v h k d = content_again supplied_in SpellsSupplied supplied_full depth (constructed 0 17)
    (supplied_content v) v supplied_low refl (omega arith) (supplied_spelled depth v h k d)

-- ---- trace elements

abbrev trace_parts : ℕ → DomainFields → Option Supplied → TraceParts
trace_parts last d l = record { last = last; domain = Some d; supplied = l }

pub trace_spelled : (depth : ℕ) (v : TraceFields) → IsWholeTrace v → KeepsTrace depth v → depth + 4 ≤ 16
    → length (canonical_domain v.domain ++ canonical_supplied v.supplied) < 2 ^ 64
    → SpellsTrace depth (constructed 0 16) (canonical_domain v.domain ++ canonical_supplied v.supplied) v
unfolding canonical_domain canonical_supplied
trace_spelled depth v h k d short =
    let domain = canonical_domain v.domain in
    let information = canonical_supplied v.supplied in
    let first = short_front domain information short in
    let second = short_back domain information short in
    let half = trace_parts 1 v.domain None in
    let all = trace_parts 2 v.domain (Some v.supplied) in
    let domain_there : IsComponent MakesTrace (depth + 1) no_trace domain half =
    component MakesTrace (depth + 1) no_trace half (constructed 1 3) (domain_content v.domain) domain_low
    (omega arith) first (record {
      part = traces.Place;
      is_tag_of = refl;
      needed = omega arith;
      behind = omega arith;
      made = puts (SpellsDomain (depth + 1) (constructed 1 3) (domain_content v.domain))
          (trace.with_domain no_trace) v.domain
          (domain_spelled (depth + 1) v.domain h.domain (omega arith)
          (short_inside (constructed 1 3) (domain_content v.domain) first));
    }) in
    let supplied_there : IsComponent MakesTrace (depth + 1) half information all =
    component MakesTrace (depth + 1) half all (constructed 0 17) (supplied_content v.supplied) supplied_low
    (omega arith) second (record {
      part = traces.Information;
      is_tag_of = refl;
      needed = omega arith;
      behind = omega arith;
      made = puts (SpellsSupplied (depth + 1) true (supplied_content v.supplied)) (trace.with_supplied half) v.supplied
          (supplied_spelled (depth + 1) v.supplied h.supplied k (omega arith)
          (short_inside (constructed 0 17) (supplied_content v.supplied) second));
    }) in
    let row = row_more MakesTrace (depth + 1) no_trace half all domain information domain_there
    (row_last MakesTrace (depth + 1) half all information supplied_there) in
    record {
      is_tag_of = refl;
      parts = all;
      spelled =
          row_spelled MakesTrace depth no_trace all (domain ++ information) row;
      domain = refl;
      supplied = refl;
    }

sequence_low : IsTag (constructed 0 16)
sequence_low = low_tag 0 16 true (omega arith) (omega arith)

pub traces_again : TraceElementsAreReadAgain
unfolding canonical_trace
traces_again depth v h k d = tagged_again trace_in SpellsTrace trace_full depth (constructed 0 16)
    (canonical_domain v.domain ++ canonical_supplied v.supplied) v sequence_low (omega arith)
    (trace_spelled depth v h k d)

-- ---- expansions

abbrev expansion_parts : ℕ → Attributes → Option ℕ → ExpansionParts
expansion_parts last n m = record { last = last; name = Some n; moment = m }

abbrev expansion_content : ExpansionFields → List ℕ
expansion_content v = canonical_name (constructed 1 0) v.name ++ canon_utc (primitive 0 23) v.moment

pub expansion_spelled : (depth : ℕ) (v : ExpansionFields) → IsWholeExpansion v → KeepsExpansion depth v → depth + 5 ≤ 16
    → length (expansion_content v) < 2 ^ 64 → SpellsExpansion depth (constructed 0 16) (expansion_content v) v
unfolding canonical_name
expansion_spelled depth v h k d short =
    let name = canonical_name (constructed 1 0) v.name in
    let time = canon_utc (primitive 0 23) v.moment in
    let first = short_front name time short in
    let second = short_back name time short in
    let half = expansion_parts 1 v.name None in
    let all = expansion_parts 2 v.name (Some v.moment) in
    let name_there : IsComponent MakesExpansion (depth + 1) no_expansion name half =
    component MakesExpansion (depth + 1) no_expansion half (constructed 1 0) (name_content v.name)
    (low_tag 1 0 true (omega arith) (omega arith)) (omega arith) first (record {
      part = expansions.Name;
      is_tag_of = refl;
      needed = omega arith;
      behind = omega arith;
      made = puts (SpellsName (depth + 1) true (name_content v.name)) (with_name no_expansion) v.name
          (name_spelled (depth + 1) v.name h.name k (omega arith)
          (short_inside (constructed 1 0) (name_content v.name) first));
    }) in
    let time_there : IsComponent MakesExpansion (depth + 1) half time all =
    component MakesExpansion (depth + 1) half all (primitive 0 23) (utc_content v.moment)
    (low_tag 0 23 false (omega arith) (omega arith)) (omega arith) second (record {
      part = expansions.Time;
      is_tag_of = refl;
      needed = omega arith;
      behind = omega arith;
      made = puts (SpellsMoment (depth + 1) false (utc_content v.moment)) (with_moment half) v.moment
          (moment_spelled (depth + 1) v.moment h.moment (omega arith));
    }) in
    let row = row_more MakesExpansion (depth + 1) no_expansion half all name time name_there
    (row_last MakesExpansion (depth + 1) half all time time_there) in
    record {
      is_tag_of = refl;
      parts = all;
      spelled =
          row_spelled MakesExpansion depth no_expansion all (name ++ time) row;
      name = refl;
      moment = refl;
    }

pub expansions_again : ExpansionsAreReadAgain
unfolding canonical_expansion
expansions_again depth v h k d = tagged_again expansion_in SpellsExpansion expansion_full depth (constructed 0 16)
    (expansion_content v) v sequence_low (omega arith) (expansion_spelled depth v h k d)
