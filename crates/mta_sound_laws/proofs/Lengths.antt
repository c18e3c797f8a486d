-- The octets of the history of a members' copy are some of the copy's.
use Rattle.std.proofs.Common.{◌≡◌, ℕ, ◌≤◌, Bool, true, false, List, [], ◌∷◌, ◌++◌, length, refl, arith}
use Rattle.std.proofs.Common.{length-append}
use Rattle.std.specs.Prelude.{bytes_eq, if◌then◌else◌}
use Rattle.std.specs.List.{flat_map}
use Rattle.mta_ber.specs.declared.tag.Tag.{Tag}
use Rattle.mta_ber.specs.Canon.{constructed, element, ident_octets}
use Rattle.mta_ber.proofs.RoundTrip.{element_long}
use Rattle.mta_fields.specs.declared.expansion.ExpansionFields.{ExpansionFields}
use Rattle.mta_fields.specs.declared.extension.ExtFields.{ExtFields}
use Rattle.mta_fields.specs.Expansions.{canonical_expansion}
use Rattle.mta_fields.specs.ExtensionFields.{canonical_criticality, canonical_ext, canonical_kind, null}
use Rattle.mta_envelope_common.specs.ExtensionLists.{canonical_ext_list}
use Rattle.mta_envelope_recipient.specs.declared.recipient.RecipientFields.{RecipientFields}
use Rattle.mta_envelope.specs.declared.envelope.EnvelopeFields.{EnvelopeFields}
use Rattle.mta_envelope.specs.Envelopes.{envelope_back, envelope_content, envelope_front, envelope_middle}
use Rattle.mta_envelope.specs.Messages.{canonical_message}
use Rattle.mta_tables.specs.declared.entry.MailList.{MailList}
use Rattle.mta_procedures.specs.Members.{expanded_history, history_field, history_octets, is_history_field}
use Rattle.mta_procedures.specs.Members.{members_envelope, with_history}
use Rattle.mta_procedures.specs.Situations.{Situation}

-- the list has as many octets at least
record HasAtLeast (n : ℕ) (xs : List ℕ) : Type 0 where
  at_least : n ≤ length xs

in-front : (n : ℕ) (xs ys : List ℕ) → HasAtLeast n xs → HasAtLeast n (xs ++ ys)
in-front n xs ys h = record { at_least = omega (arith, length-append xs ys, h.at_least) }

behind : (n : ℕ) (xs ys : List ℕ) → HasAtLeast n ys → HasAtLeast n (xs ++ ys)
behind n xs ys h = record { at_least = omega (arith, length-append xs ys, h.at_least) }

around : (n : ℕ) (t : Tag) (content : List ℕ) → HasAtLeast n content → HasAtLeast n (element t content)
around n t content h = record { at_least = omega (arith, element_long t content, h.at_least) }

-- ---- the extensions

no-null : (xs : List ExpansionFields) → bytes_eq (history_octets xs) null ≡ false
unfolding history_octets element ident_octets
no-null xs = refl

value-has : (n : ℕ) (b : Bool) (v : List ℕ) → b ≡ false → HasAtLeast n v
    → HasAtLeast n (if b then [] else element (constructed 2 2) v)
value-has n true v none h = absurd cc
value-has n false v none h = around n (constructed 2 2) v h

ext-has : (n : ℕ) (f : ExtFields) (v : List ℕ) → bytes_eq v null ≡ false → HasAtLeast n v
    → HasAtLeast n (canonical_ext (record f { value = v }))
unfolding canonical_ext
ext-has n f v none h =
    around n (constructed 0 16) _
    (behind n (canonical_kind f.kind ++ canonical_criticality f.submission f.transfer f.delivery) _
    (value-has n (bytes_eq v null) v none h))

fields-have : (n : ℕ) (fs : List ExtFields) (v : List ℕ) → bytes_eq v null ≡ false → HasAtLeast n v
    → HasAtLeast n (flat_map canonical_ext (with_history v fs))
fields-have n [] v none h = in-front n (canonical_ext (history_field v)) [] (ext-has n (history_field []) v none h)
fields-have n (f ∷ fs) v none h = at (is_history_field f) (fields-have n fs v none h)
  where
    at : (b : Bool) → HasAtLeast n (flat_map canonical_ext (with_history v fs))
        → HasAtLeast n (flat_map canonical_ext (if b then record f { value = v } ∷ fs else f ∷ with_history v fs))
    at true more =
        in-front n (canonical_ext (record f { value = v })) (flat_map canonical_ext fs) (ext-has n f v none h)
    at false more = behind n (canonical_ext f) (flat_map canonical_ext (with_history v fs)) more

list-has : (n : ℕ) (t : Tag) (fs : List ExtFields) → HasAtLeast n (flat_map canonical_ext fs)
    → HasAtLeast n (canonical_ext_list t fs)
list-has n t [] h = h
list-has n t (f ∷ fs) h = around n t (flat_map canonical_ext (f ∷ fs)) h

-- ---- the copy

history-has : (xs : List ExpansionFields)
    → HasAtLeast (length (flat_map canonical_expansion xs)) (history_octets xs)
unfolding history_octets
history-has xs =
    around (length (flat_map canonical_expansion xs)) (constructed 0 16) (flat_map canonical_expansion xs)
    (record { at_least = omega arith })

envelope-has : (n : ℕ) (s : Situation) (l : MailList) (e : EnvelopeFields) (r : RecipientFields)
    → HasAtLeast n (canonical_ext_list (constructed 2 3) (members_envelope s l e r).extensions)
    → HasAtLeast n (envelope_content (members_envelope s l e r))
unfolding envelope_content envelope_front envelope_middle envelope_back
envelope-has n s l e r h = behind n _ _ (behind n _ _ h)

copy-has : (n : ℕ) (e : EnvelopeFields) (content : List ℕ) → HasAtLeast n (envelope_content e)
    → HasAtLeast n (canonical_message e content)
unfolding canonical_message
copy-has n e content h =
    around n (constructed 2 0) _ (in-front n _ _ (around n (constructed 0 17) (envelope_content e) h))

-- so they are not more than the copy has
pub history-within : (s : Situation) (l : MailList) (e : EnvelopeFields) (r : RecipientFields) (content : List ℕ)
    → length (flat_map canonical_expansion (expanded_history s l e))
    ≤ length (canonical_message (members_envelope s l e r) content)
history-within s l e r content =
    let xs : List ExpansionFields = expanded_history s l e in
    let n : ℕ = length (flat_map canonical_expansion xs) in
    let fields = fields-have n e.extensions (history_octets xs) (no-null xs) (history-has xs) in
    let whole = copy-has n (members_envelope s l e r) content
    (envelope-has n s l e r (list-has n (constructed 2 3) (with_history (history_octets xs) e.extensions) fields)) in
    whole.at_least
