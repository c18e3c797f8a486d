-- A members' copy has as many octets whenever it is made.
use Rattle.std.proofs.Common.{◌≡◌, ℕ, Bool, true, false, List, [], ◌∷◌, ◌++◌, length, refl, sym, ap, ◌∙◌}
use Rattle.std.specs.Prelude.{bytes_eq, if◌then◌else◌}
use Rattle.std.specs.List.{flat_map}
use Rattle.mta_ber.specs.declared.tag.Tag.{Tag}
use Rattle.mta_ber.specs.Canon.{element, ident_octets, constructed}
use Rattle.mta_ber.specs.Contents.{utc_content}
use Rattle.mta_names.specs.declared.attributes.Attributes.{Attributes}
use Rattle.mta_names.specs.Names.{canonical_name}
use Rattle.mta_fields.specs.declared.expansion.ExpansionFields.{ExpansionFields}
use Rattle.mta_fields.specs.declared.extension.ExtFields.{ExtFields}
use Rattle.mta_fields.specs.Expansions.{canonical_expansion}
use Rattle.mta_fields.specs.ExtensionFields.{canonical_criticality, canonical_ext, canonical_kind, null}
use Rattle.mta_envelope_common.specs.ExtensionLists.{canonical_ext_list}
use Rattle.mta_envelope_recipient.specs.declared.recipient.RecipientFields.{RecipientFields}
use Rattle.mta_envelope.specs.declared.envelope.EnvelopeFields.{EnvelopeFields}
use Rattle.mta_envelope.specs.Envelopes.{envelope_back, envelope_content, envelope_front, envelope_middle}
use Rattle.mta_envelope.specs.Messages.{canonical_message}
use Rattle.mta_tables.specs.declared.entry.MailList.{MailList}
use Rattle.mta_tables.specs.Tables.{TablesValue}
use Rattle.mta_procedures.specs.Members.{expanded_history, history_field, history_octets, is_history_field}
use Rattle.mta_procedures.specs.Members.{members_envelope, with_history}
use Rattle.mta_procedures.specs.Situations.{situation}
use Rattle.mta_procedures.proofs.LongLaws.{AsLong, behind, before, around}

-- ---- the history

moment_long : (m n : ℕ) → AsLong (utc_content m) (utc_content n)
unfolding utc_content
moment_long m n = record { as_long = refl }

expansion_long : (name : Attributes) (m n : ℕ)
    → AsLong (canonical_expansion (record { name = name; moment = m }))
    (canonical_expansion (record { name = name; moment = n }))
unfolding canonical_expansion
expansion_long name m n =
    around (constructed 0 16) _ _
    (behind (canonical_name (constructed 1 0) name) _ _ (around _ _ _ (moment_long m n)))

joined : (xs : List ExpansionFields) (x y : ExpansionFields)
    → AsLong (canonical_expansion x) (canonical_expansion y)
    → AsLong (flat_map canonical_expansion (xs ++ x ∷ [])) (flat_map canonical_expansion (xs ++ y ∷ []))
joined [] x y h = before (canonical_expansion x) (canonical_expansion y) [] h
joined (z ∷ zs) x y h =
    behind (canonical_expansion z) (flat_map canonical_expansion (zs ++ x ∷ []))
    (flat_map canonical_expansion (zs ++ y ∷ [])) (joined zs x y h)

-- the octets of the history of a members' copy
abbrev history_at : TablesValue → (arrival moment : ℕ) → MailList → EnvelopeFields → List ℕ
history_at t arrival moment l e = history_octets (expanded_history (situation t arrival moment) l e)

history_long : (t : TablesValue) (arrival m n : ℕ) (l : MailList) (e : EnvelopeFields)
    → AsLong (history_at t arrival m l e) (history_at t arrival n l e)
unfolding history_octets
history_long t arrival m n l e =
    around (constructed 0 16) _ _ (joined e.history _ _ (expansion_long l.name m n))

no_null : (xs : List ExpansionFields) → bytes_eq (history_octets xs) null ≡ false
unfolding history_octets element ident_octets
no_null xs = refl

-- ---- the extensions

value_if : (a b : Bool) (v w : List ℕ) → a ≡ false → b ≡ false → AsLong v w
    → AsLong (if a then [] else element (constructed 2 2) v) (if b then [] else element (constructed 2 2) w)
value_if false false v w p q h = around (constructed 2 2) v w h
value_if true b v w p q h = absurd cc
value_if false true v w p q h = absurd cc

-- two values that are as long, neither of which is NULL
record AreValues (v w : List ℕ) : Type 0 where
  first : bytes_eq v null ≡ false
  second : bytes_eq w null ≡ false
  long : AsLong v w

ext_long : (f : ExtFields) (v w : List ℕ) → AreValues v w
    → AsLong (canonical_ext (record f { value = v })) (canonical_ext (record f { value = w }))
unfolding canonical_ext
ext_long f v w h =
    around (constructed 0 16) _ _
    (behind (canonical_kind f.kind ++ canonical_criticality f.submission f.transfer f.delivery) _ _
    (value_if (bytes_eq v null) (bytes_eq w null) v w h.first h.second h.long))

fields_long : (fs : List ExtFields) (v w : List ℕ) → AreValues v w
    → AsLong (flat_map canonical_ext (with_history v fs)) (flat_map canonical_ext (with_history w fs))
fields_long [] v w h =
    before (canonical_ext (history_field v)) (canonical_ext (history_field w)) [] (ext_long (history_field []) v w h)
fields_long (f ∷ fs) v w h = at (is_history_field f) (fields_long fs v w h)
  where
    at : (b : Bool)
        → AsLong (flat_map canonical_ext (with_history v fs)) (flat_map canonical_ext (with_history w fs))
        → AsLong
        (flat_map canonical_ext (if b then record f { value = v } ∷ fs else f ∷ with_history v fs))
        (flat_map canonical_ext (if b then record f { value = w } ∷ fs else f ∷ with_history w fs))
    at true more =
        before (canonical_ext (record f { value = v })) (canonical_ext (record f { value = w }))
        (flat_map canonical_ext fs) (ext_long f v w h)
    at false more = behind (canonical_ext f) _ _ more

some_fields : (t : Tag) (v : List ℕ) (fs : List ExtFields)
    → canonical_ext_list t (with_history v fs) ≡ element t (flat_map canonical_ext (with_history v fs))
some_fields t v [] = refl
some_fields t v (f ∷ fs) = at (is_history_field f)
  where
    at : (b : Bool)
        → canonical_ext_list t (if b then record f { value = v } ∷ fs else f ∷ with_history v fs)
        ≡ element t (flat_map canonical_ext (if b then record f { value = v } ∷ fs else f ∷ with_history v fs))
    at true = refl
    at false = refl

list_long : (t : Tag) (fs : List ExtFields) (v w : List ℕ) → AreValues v w
    → AsLong (canonical_ext_list t (with_history v fs)) (canonical_ext_list t (with_history w fs))
list_long t fs v w h =
    let long = around t _ _ (fields_long fs v w h) in
    record {
      as_long =
          ap length (some_fields t v fs) ∙ long.as_long ∙ sym (ap length (some_fields t w fs));
    }

-- ---- the copy

envelope_long : (t : TablesValue) (arrival m n : ℕ) (l : MailList) (e : EnvelopeFields) (r : RecipientFields)
    → AsLong (envelope_content (members_envelope (situation t arrival m) l e r))
    (envelope_content (members_envelope (situation t arrival n) l e r))
unfolding envelope_content envelope_front envelope_middle envelope_back
envelope_long t arrival m n l e r =
    let values : AreValues (history_at t arrival m l e) (history_at t arrival n l e) = record {
      first = no_null (expanded_history (situation t arrival m) l e);
      second = no_null (expanded_history (situation t arrival n) l e);
      long = history_long t arrival m n l e;
    } in
    behind _ _ _ (behind _ _ _
    (list_long (constructed 2 3) e.extensions (history_at t arrival m l e) (history_at t arrival n l e) values))

pub copy_long : (t : TablesValue) (arrival m n : ℕ) (l : MailList) (e : EnvelopeFields) (r : RecipientFields)
    (content : List ℕ)
    → AsLong (canonical_message (members_envelope (situation t arrival m) l e r) content)
    (canonical_message (members_envelope (situation t arrival n) l e r) content)
unfolding canonical_message
copy_long t arrival m n l e r content =
    around (constructed 2 0) _ _
    (before _ _ _ (around (constructed 0 17) _ _ (envelope_long t arrival m n l e r)))
