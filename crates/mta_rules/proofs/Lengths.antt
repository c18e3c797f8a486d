-- How many octets the parts of a copy have.
use Rattle.std.proofs.Common.{◌≡◌, ℕ, ◌+◌, ◌<◌, ◌≤◌, Bool, false, List, [], ◌∷◌}
use Rattle.std.proofs.Common.{◌++◌, min, Option, Some, None, refl, sym, ◌∙◌, ap, append-nil}
use Rattle.std.specs.Prelude.{if◌then◌else◌}
use Rattle.std.specs.List.{flat_map}
use Rattle.std.proofs.lemmas.Bool.{lt-ltb, le-ltb}
use Rattle.std.proofs.lemmas.List.Concat.{flat_map-append}
use Rattle.mta_ber.specs.Canon.{element, ident_octets, length_octets, constructed, primitive}
use Rattle.mta_ber.specs.Contents.{int_content, utc_content}
use Rattle.mta_ber.specs.Lengths.{octet_length}
use Rattle.mta_fields.specs.declared.trace.TraceFields.{TraceFields}
use Rattle.mta_fields.specs.TraceElements.{canonical_trace}
use Rattle.mta_fields.specs.Traces.{canonical_supplied}
use Rattle.mta_envelope_recipient.specs.declared.recipient.RecipientFields.{RecipientFields}
use Rattle.mta_envelope_recipient.specs.Lists.{canonical_recipients}
use Rattle.mta_envelope_recipient.specs.Recipients.{canonical_recipient}
use Rattle.mta_procedures.specs.Bits.{with_responsibility}
use Rattle.mta_procedures.specs.Copies.{chosen_from, deferred_time, is_chosen, responsible_for, responsible_if}
use Rattle.mta_procedures.specs.Situations.{Situation}
use Rattle.mta_procedures.specs.Traces.{own_trace}
use Rattle.mta_procedures.proofs.LongLaws.{AsLong, same, both, behind, before, around, bits_long, responsible_count}

-- ---- what this agent supplies

relayed_has : (s : Situation) → 20 ≡ octet_length (canonical_supplied (own_trace s None false).supplied)
unfolding canonical_supplied element ident_octets length_octets utc_content int_content
relayed_has s = refl

held_has : (s : Situation) (m : ℕ) → 35 ≡ octet_length (canonical_supplied (own_trace s (Some m) false).supplied)
unfolding canonical_supplied element ident_octets length_octets utc_content int_content
held_has s m = refl

abbrev supplied_octets : Situation → Option ℕ → List ℕ
supplied_octets s o = canonical_supplied (own_trace s o false).supplied

pub not_deferred : (s : Situation) (o : Option ℕ) → o ≡ None
    → 20 ≡ octet_length (supplied_octets s (deferred_time s o))
not_deferred s o e = relayed_has s ∙ ap (λ x. octet_length (supplied_octets s (deferred_time s x))) (sym e)

pub behind_arrival : (s : Situation) (o : Option ℕ) (d : ℕ) → o ≡ Some d → s.arrival < d
    → 35 ≡ octet_length (supplied_octets s (deferred_time s o))
behind_arrival s o d e lt =
    held_has s s.moment
    ∙ ap (λ b. octet_length (supplied_octets s (if b then Some s.moment else None))) (sym (lt-ltb s.arrival d lt))
    ∙ ap (λ x. octet_length (supplied_octets s (deferred_time s x))) (sym e)

pub before_arrival : (s : Situation) (o : Option ℕ) (d : ℕ) → o ≡ Some d → d ≤ s.arrival
    → 20 ≡ octet_length (supplied_octets s (deferred_time s o))
before_arrival s o d e le =
    relayed_has s
    ∙ ap (λ b. octet_length (supplied_octets s (if b then Some s.moment else None))) (sym (le-ltb s.arrival d le))
    ∙ ap (λ x. octet_length (supplied_octets s (deferred_time s x))) (sym e)

-- ---- traces

pub one_more : (xs : List TraceFields) (x : TraceFields)
    → flat_map canonical_trace (xs ++ x ∷ []) ≡ flat_map canonical_trace xs ++ canonical_trace x
one_more xs x = flat_map-append canonical_trace xs (x ∷ []) ∙ ap (λ l. flat_map canonical_trace xs ++ l)
    (append-nil (canonical_trace x))

-- ---- recipients

recipient_long : (c : Bool) (r : RecipientFields)
    → AsLong (canonical_recipient r) (canonical_recipient (responsible_if c r))
unfolding canonical_recipient
recipient_long c r =
    let y = with_responsibility c r.indicators in
    around (constructed 0 17) _ _
    (before _ _ _ (before _ _ _
    (behind _ _ _ (around (primitive 2 1) _ _
    (bits_long r.indicators y (sym (responsible_count c r.indicators)))))))

recipients_long : (k : ℕ) (chosen : List ℕ) (rs : List RecipientFields)
    → AsLong (flat_map canonical_recipient rs) (flat_map canonical_recipient (chosen_from k chosen rs))
recipients_long k chosen [] = same []
recipients_long k chosen (r ∷ rs) =
    both _ _ _ _ (recipient_long (is_chosen chosen k) r) (recipients_long (k + 1) chosen rs)

list_long : (rs : List RecipientFields)
    → AsLong (canonical_recipients rs) (canonical_recipients (responsible_for [] rs))
unfolding canonical_recipients
list_long rs = around (constructed 2 2) _ _ (recipients_long 1 [] rs)

pub recipients_told : (rs : List RecipientFields) (n : ℕ) → n ≡ octet_length (canonical_recipients rs)
    → n ≡ octet_length (canonical_recipients (responsible_for [] rs))
recipients_told rs n e =
    let long = list_long rs in
    e ∙ ap (λ k. min k 18446744073709551615) long.as_long
