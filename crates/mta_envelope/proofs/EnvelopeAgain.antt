-- Envelopes that are written are spelled so.
use Rattle.std.proofs.Common.{◌≡◌, ℕ, pos, ◌+◌, ◌≤◌, ◌<◌, ◌^◌, Bool, true, false, cond, eqb, List, [], ◌∷◌, ◌++◌}
use Rattle.std.proofs.Common.{length, Option, Some, None, refl, sym, ap, subst, ◌∙◌, append_assoc, arith}
use Rattle.std.specs.Prelude.{IfSome, ◌&&◌, not, unwrap_or}
use Rattle.std.specs.List.{flat_map}
use Rattle.std.proofs.lemmas.Bool.{eqb-true}
use Rattle.mta_ber.specs.declared.tag.Tag.{Tag}
use Rattle.mta_ber.specs.declared.text.TextClass.TheVariants.{Printable}
use Rattle.mta_ber.specs.Bits.{BitString}
use Rattle.mta_ber.specs.Canon.{IsTag, element, constructed, primitive, optional}
use Rattle.mta_ber.specs.Components.{IsComponent}
use Rattle.mta_ber.specs.Contents.{int_content, bits_content, utc_content, canon_int}
use Rattle.mta_ber.specs.Moments.{SpellsMoment}
use Rattle.mta_ber.specs.Oid.{IsOid}
use Rattle.mta_ber.specs.Times.{last_moment}
use Rattle.mta_ber.proofs.HeadLaws.{and_true}
use Rattle.mta_names.specs.declared.attributes.Attributes.{Attributes}
use Rattle.mta_names.specs.Laws.{IsRawAt, KeepsName}
use Rattle.mta_names.specs.Lists.{is_sequence, listed}
use Rattle.mta_names.specs.Names.{SpellsName, name_content, canonical_name, kept}
use Rattle.mta_names.specs.Strings.{SpellsNumber, AddsItem}
use Rattle.mta_names.specs.Values.{Each}
use Rattle.mta_names.proofs.Again.{low_tag, number_spelled, text_spelled}
use Rattle.mta_names.proofs.NameAgain.{name_spelled}
use Rattle.mta_names.proofs.Rows.{short_inside, puts, component, row_spelled, items_row, each_both, From, Piece}
use Rattle.mta_names.proofs.Rows.{none_from, piece_from, optional_from, listed_from, at_last}
use Rattle.mta_fields.specs.declared.expansion.ExpansionFields.{ExpansionFields}
use Rattle.mta_fields.specs.declared.extension.ExtFields.{ExtFields}
use Rattle.mta_fields.specs.declared.identifier.MtsIdFields.{MtsIdFields}
use Rattle.mta_fields.specs.declared.trace.TraceFields.{TraceFields}
use Rattle.mta_fields.specs.Domains.{canonical_domain}
use Rattle.mta_fields.specs.ExtensionFields.{canonical_ext}
use Rattle.mta_fields.specs.Identifiers.{SpellsMtsId, canonical_id}
use Rattle.mta_fields.specs.Laws.{IsWholeTrace, KeepsTrace}
use Rattle.mta_fields.specs.TraceElements.{canonical_trace}
use Rattle.mta_fields.specs.Traces.{canonical_supplied}
use Rattle.mta_fields.proofs.FieldAgain.{moment_spelled, identifier_spelled, trace_spelled}
use Rattle.mta_envelope_common.specs.declared.kind.ContentKind.{ContentKind}
use Rattle.mta_envelope_common.specs.declared.kind.ContentKind.TheVariants.{Number, Oid}
use Rattle.mta_envelope_common.specs.ContentIdentifiers.{IsContentId, SpellsContentId, canonical_content_id}
use Rattle.mta_envelope_common.specs.ContentKinds.{IsContentKind, SpellsContentKind, kind_in_front, kind_in_place}
use Rattle.mta_envelope_common.specs.ExtensionLists.{canonical_ext_list}
use Rattle.mta_envelope_common.specs.Indicators.{IsIndicators, SpellsIndicators, canonical_indicators}
use Rattle.mta_envelope_common.specs.TraceLists.{SpellsTraceItem, SpellsTraceList, canonical_trace_list}
use Rattle.mta_envelope_extensions.specs.declared.extensions.Extensions.{Extensions}
use Rattle.mta_envelope_extensions.specs.declared.value.Topic.TheVariants.{ExpansionHistory, LatestDelivery}
use Rattle.mta_envelope_extensions.specs.declared.value.Topic.TheVariants.{ExpansionProhibited}
use Rattle.mta_envelope_extensions.specs.Laws.{SaysAt, AreToldAt}
use Rattle.mta_envelope_extensions.specs.Told.{SpellsExtensions, history_said, latest_said, prohibited_said}
use Rattle.mta_envelope_extensions.proofs.ToldAgain.{extensions_spelled}
use Rattle.mta_envelope_recipient.specs.declared.recipient.RecipientFields.{RecipientFields}
use Rattle.mta_envelope_recipient.specs.Laws.{IsWholeRecipient, KeepsRecipient}
use Rattle.mta_envelope_recipient.specs.Lists.{SpellsRecipients, canonical_recipients}
use Rattle.mta_envelope_recipient.specs.Recipients.{canonical_recipient}
use Rattle.mta_envelope_recipient.proofs.Again.{sequence_low, write_fields, fields_listed, recipients_spelled}
use Rattle.mta_envelope_recipient.proofs.BitsAgain.{indicators_spelled}
use Rattle.mta_envelope.specs.declared.envelope.EnvelopeFields.{EnvelopeFields}
use Rattle.mta_envelope.specs.declared.parts.EnvelopePart.{EnvelopePart}
use Rattle.mta_envelope.specs.declared.parts.EnvelopePart.TheVariants.{Originator, Identifier, InformationTypes}
use Rattle.mta_envelope.specs.declared.parts.EnvelopePart.TheVariants.{ContentType, MessagePriority, Indicators}
use Rattle.mta_envelope.specs.declared.parts.EnvelopePart.TheVariants.{TraceList, ContentIdentifier, Deferral, Length}
use Rattle.mta_envelope.specs.declared.parts.EnvelopePart.TheVariants.{Bilateral, RecipientList, ExtensionSet}
use Rattle.mta_envelope.specs.declared.parts.EnvelopeParts.{EnvelopeParts}
use Rattle.mta_envelope.specs.declared.priority.Priority.{Priority}
use Rattle.mta_envelope.specs.declared.priority.Priority.TheVariants.{Normal, NonUrgent, Urgent}
use Rattle.mta_envelope.specs.Components.{longest, is_envelope_tag, with_originator, with_id, with_eits}
use Rattle.mta_envelope.specs.Components.{with_content_kind, with_priority, with_indicators, with_trace}
use Rattle.mta_envelope.specs.Components.{with_content_id, with_deferral, with_length, with_bilateral, with_recipients}
use Rattle.mta_envelope.specs.Components.{with_extensions, no_envelope, MakesEnvelopePart, MakesEnvelope}
use Rattle.mta_envelope.specs.Envelopes.{IsOfKind, told_history, told_or_none, history_or_none, indicators_or_none}
use Rattle.mta_envelope.specs.Envelopes.{priority_or_normal, envelope, SpellsEnvelope, canonical_or_none}
use Rattle.mta_envelope.specs.Envelopes.{canonical_deferral, canonical_length, envelope_front, envelope_middle}
use Rattle.mta_envelope.specs.Envelopes.{envelope_back, envelope_content}
use Rattle.mta_envelope.specs.Laws.{told_of, IsWholeEnvelope, KeepsEnvelope}
use Rattle.mta_envelope.specs.Priorities.{priority_number, SpellsPriority, canonical_priority}

-- ---- traces

abbrev IsKeptTrace : ℕ → TraceFields → Type 0
IsKeptTrace depth v = IsWholeTrace v × KeepsTrace depth v

trace_item : (depth : ℕ) → depth + 4 ≤ 16 → (vs : List TraceFields) (v : TraceFields) → IsKeptTrace depth v
    → length (canonical_trace v) < 2 ^ 64 → IsComponent (AddsItem is_sequence SpellsTraceItem) depth vs
    (canonical_trace v) (vs ++ v ∷ [])
unfolding canonical_trace
trace_item depth d vs v h short =
    component (AddsItem is_sequence SpellsTraceItem) depth vs (vs ++ v ∷ []) (constructed 0 16)
    (canonical_domain v.domain ++ canonical_supplied v.supplied) sequence_low (omega arith) short
    (record {
      is_item_tag = refl;
      item = v;
      spelled =
          trace_spelled depth v h.0 h.1 d
          (short_inside (constructed 0 16) (canonical_domain v.domain ++ canonical_supplied v.supplied) short);
      after_is =
          refl;
    })

trace_list_spelled : (depth : ℕ) (vs : List TraceFields) → Each (IsKeptTrace (depth + 1)) vs → length vs ≤ 512
    → depth + 5 ≤ 16 → length (flat_map canonical_trace vs) < 2 ^ 64
    → SpellsTraceList depth true (flat_map canonical_trace vs) vs
trace_list_spelled depth vs h few d short = record {
  is_constructed = refl;
  spelled = row_spelled (AddsItem is_sequence SpellsTraceItem) depth [] vs (flat_map canonical_trace vs)
      (items_row (AddsItem is_sequence SpellsTraceItem) (depth + 1) (λ ys. ys) canonical_trace (IsKeptTrace (depth + 1))
      (trace_item (depth + 1) (omega arith)) [] vs h short);
  at_least = omega arith;
  at_most = few;
}

-- ---- what is left out where it is the default

abbrev front_of : ContentKind → Option (List ℕ)
front_of (Number n) = None
front_of (Oid o) = Some o

abbrev place_of : ContentKind → Option ℕ
place_of (Number n) = Some n
place_of (Oid o) = None

abbrev write_oid : List ℕ → List ℕ
write_oid o = element (primitive 0 6) o

abbrev write_number : ℕ → List ℕ
write_number n = canon_int (primitive 1 6) (pos n)

front_written : (k : ContentKind) → optional write_oid (front_of k) ≡ kind_in_front k
front_written (Number n) = refl
front_written (Oid o) = refl

place_written : (k : ContentKind) → optional write_number (place_of k) ≡ kind_in_place k
place_written (Number n) = refl
place_written (Oid o) = refl

abbrev as_oid : Option (List ℕ) → Option ContentKind
as_oid None = None
as_oid (Some o) = Some (Oid o)

abbrev as_number : Option ContentKind → Option ℕ → Option ContentKind
as_number prior None = prior
as_number prior (Some n) = Some (Number n)

kind_again : (k : ContentKind) → as_number (as_oid (front_of k)) (place_of k) ≡ Some k
kind_again (Number n) = refl
kind_again (Oid o) = refl

-- a number, where no object identifier stands
record IsPlaced (k : ContentKind) (n : ℕ) : Type 0 where
  small : n ≤ 32767
  alone : front_of k ≡ None

front_is : (k : ContentKind) → IsContentKind k → IfSome (front_of k) IsOid
front_is (Number n) h = tt
front_is (Oid o) h = h

place_is : (k : ContentKind) → IsContentKind k → IfSome (place_of k) (IsPlaced k)
place_is (Number n) h = record { small = h; alone = refl }
place_is (Oid o) h = tt

abbrev some_priority : Priority → Option Priority
some_priority Normal = None
some_priority NonUrgent = Some NonUrgent
some_priority Urgent = Some Urgent

abbrev write_priority : Priority → List ℕ
write_priority p = canon_int (primitive 1 7) (pos (priority_number p))

priority_written : (p : Priority) → optional write_priority (some_priority p) ≡ canonical_priority p
priority_written Normal = refl
priority_written NonUrgent = refl
priority_written Urgent = refl

priority_again : (p : Priority) → p ≡ priority_or_normal (some_priority p)
priority_again Normal = refl
priority_again NonUrgent = refl
priority_again Urgent = refl

priority_small : (p : Priority) → priority_number p ≤ 2
priority_small Normal = omega arith
priority_small NonUrgent = omega arith
priority_small Urgent = omega arith

priority_spelled : (p : Priority) → SpellsPriority false (int_content (pos (priority_number p))) p
priority_spelled p = let small = priority_small p in
    record { spelled = number_spelled 2 (priority_number p) small (omega arith) }

abbrev bits_as : Bool → BitString → Option BitString
bits_as b x = cond b None (Some x)

abbrev is_default : BitString → Bool
is_default x = eqb x.count 8 && eqb x.word 0

abbrev some_bits : BitString → Option BitString
some_bits x = bits_as (is_default x) x

abbrev write_bits : BitString → List ℕ
write_bits x = canonical_indicators (primitive 1 8) x

bits_written : (x : BitString) → optional write_bits (some_bits x) ≡ canonical_or_none x
bits_written x = go (is_default x)
  where
    go : (b : Bool) → optional write_bits (bits_as b x) ≡ cond b [] (canonical_indicators (primitive 1 8) x)
    go true = refl
    go false = refl

bits_hold : (P : BitString → Type 0) (b : Bool) (x : BitString) → P x → IfSome (bits_as b x) P
bits_hold P true x h = tt
bits_hold P false x h = h

bits_are : (c c' w w' : ℕ) → c ≡ c' → w ≡ w'
    → ◌≡◌ {A = BitString} (record { count = c; word = w }) (record { count = c'; word = w' })
bits_are c c' w w' a b = cc

bits_again : (x : BitString) → x ≡ indicators_or_none (some_bits x)
bits_again x = go (is_default x) refl
  where
    go : (b : Bool) → is_default x ≡ b → x ≡ indicators_or_none (bits_as b x)
    go true e = let a = and_true (eqb x.count 8) (eqb x.word 0) e in
        bits_are x.count 8 x.word 0 (eqb-true x.count 8 a.0) (eqb-true x.word 0 a.1)
    go false e = refl

history_again : (xs : List ExpansionFields) → xs ≡ history_or_none (told_history xs)
history_again [] = refl
history_again (x ∷ xs) = refl

-- a component of messages alone, and one of probes alone
record IsTimed (b : Bool) (m : ℕ) : Type 0 where
  small : m ≤ last_moment
  message : not b ≡ true

record IsLong (b : Bool) (n : ℕ) : Type 0 where
  small : n ≤ longest
  probe : b ≡ true

urgent_message : (b : Bool) (v : EnvelopeFields) → IsOfKind b v → IfSome (some_priority v.priority) (λ p. not b ≡ true)
urgent_message true v h = subst (λ p. IfSome (some_priority p) (λ p. not true ≡ true)) (sym h.no_priority) tt
urgent_message false v h = go v.priority
  where
    go : (p : Priority) → IfSome (some_priority p) (λ p. not false ≡ true)
    go Normal = tt
    go NonUrgent = refl
    go Urgent = refl

timed : (b : Bool) (v : EnvelopeFields) → IsOfKind b v → IfSome v.deferral (λ m. m ≤ last_moment)
    → IfSome v.deferral (IsTimed b)
timed true v h k = subst (λ o. IfSome o (IsTimed true)) (sym h.no_deferral) tt
timed false v h k = go v.deferral k
  where
    go : (o : Option ℕ) → IfSome o (λ m. m ≤ last_moment) → IfSome o (IsTimed false)
    go None k = tt
    go (Some m) k = record { small = k; message = refl }

long : (b : Bool) (v : EnvelopeFields) → IsOfKind b v → IfSome v.length (λ n. n ≤ longest) → IfSome v.length (IsLong b)
long false v h k = subst (λ o. IfSome o (IsLong false)) (sym h) tt
long true v h k = go v.length k
  where
    go : (o : Option ℕ) → IfSome o (λ n. n ≤ longest) → IfSome o (IsLong true)
    go None k = tt
    go (Some n) k = record { small = k; probe = refl }

-- ---- extension fields

abbrev some_told : Extensions → List ExtFields → Option Extensions
some_told t [] = None
some_told t (f ∷ fs) = Some t

no_history : (o : Option (List ExpansionFields)) (depth : ℕ) → SaysAt depth ExpansionHistory [] (history_said o)
    → None ≡ o
no_history None depth h = refl
no_history (Some xs) depth h = absurd h

no_latest : (o : Option ℕ) (depth : ℕ) → SaysAt depth LatestDelivery [] (latest_said o) → None ≡ o
no_latest None depth h = refl
no_latest (Some xs) depth h = absurd h

no_prohibited : (o : Option Bool) (depth : ℕ) → SaysAt depth ExpansionProhibited [] (prohibited_said o) → None ≡ o
no_prohibited None depth h = refl
no_prohibited (Some xs) depth h = absurd h

told_is : (f f' : List ExtFields) (h h' : Option (List ExpansionFields)) (l l' : Option ℕ) (p p' : Option Bool) → f ≡ f'
    → h ≡ h' → l ≡ l' → p ≡ p'
    → ◌≡◌ {A = Extensions} (record { fields = f; history = h; latest = l; prohibited = p })
    (record { fields = f'; history = h'; latest = l'; prohibited = p' })
told_is f f' h h' l l' p p' a b c d = cc

told_again : (depth : ℕ) (fs : List ExtFields) (h : Option (List ExpansionFields)) (l : Option ℕ) (p : Option Bool)
    → AreToldAt depth (record { fields = fs; history = h; latest = l; prohibited = p })
    → told_or_none (some_told (record { fields = fs; history = h; latest = l; prohibited = p }) fs) ≡ record {
      fields =
          fs;
      history = h;
      latest = l;
      prohibited = p;
    }
told_again depth [] h l p t = told_is [] [] None h None l None p refl (no_history h (depth + 3) t.history)
    (no_latest l (depth + 3) t.latest) (no_prohibited p (depth + 3) t.prohibited)
told_again depth (f ∷ fs) h l p t = refl

-- ---- components

abbrev same : ℕ → EnvelopeParts → EnvelopeParts
same last s = s

envelope_piece : (k : EnvelopePart) (place depth : ℕ) (s t : EnvelopeParts) (tag : Tag) (content : List ℕ) → IsTag tag
    → is_envelope_tag s.probe k tag ≡ true → depth ≤ 16
    → (length content < 2 ^ 64 → MakesEnvelopePart k depth s tag content (element tag content) t)
    → Piece MakesEnvelope depth same 0 place s (element tag content) t
envelope_piece k place depth s t tag content low is d made short last ge lt =
    component MakesEnvelope depth s t tag content low d short
    (record { part = k; is_tag_of = is; made = made (short_inside tag content short) })

-- the components so far, one more at each stage

abbrev stage_1 : Bool → EnvelopeFields → Option (List ℕ) → EnvelopeParts
stage_1 b v x = record (no_envelope b) { content_kind = as_oid x }

abbrev stage_2 : Bool → EnvelopeFields → Option Attributes → EnvelopeParts
stage_2 b v x = record (stage_1 b v (front_of v.content_kind)) { originator = x }

abbrev stage_3 : Bool → EnvelopeFields → Option MtsIdFields → EnvelopeParts
stage_3 b v x = record (stage_2 b v (Some v.originator)) { id = x }

abbrev stage_4 : Bool → EnvelopeFields → Option (List ℕ) → EnvelopeParts
stage_4 b v x = record (stage_3 b v (Some v.id)) { eits = x }

abbrev stage_5 : Bool → EnvelopeFields → Option ℕ → EnvelopeParts
stage_5 b v x = record (stage_4 b v v.eits) { content_kind = as_number (as_oid (front_of v.content_kind)) x }

abbrev stage_6 : Bool → EnvelopeFields → Option Priority → EnvelopeParts
stage_6 b v x = record (stage_5 b v (place_of v.content_kind)) { priority = x }

abbrev stage_7 : Bool → EnvelopeFields → Option BitString → EnvelopeParts
stage_7 b v x = record (stage_6 b v (some_priority v.priority)) { indicators = x }

abbrev stage_8 : Bool → EnvelopeFields → Option (List TraceFields) → EnvelopeParts
stage_8 b v x = record (stage_7 b v (some_bits v.indicators)) { trace = x }

abbrev stage_9 : Bool → EnvelopeFields → Option (List ℕ) → EnvelopeParts
stage_9 b v x = record (stage_8 b v (Some v.trace)) { content_id = x }

abbrev stage_10 : Bool → EnvelopeFields → Option ℕ → EnvelopeParts
stage_10 b v x = record (stage_9 b v v.content_id) { deferral = x }

abbrev stage_11 : Bool → EnvelopeFields → Option ℕ → EnvelopeParts
stage_11 b v x = record (stage_10 b v v.deferral) { length = x }

abbrev stage_12 : Bool → EnvelopeFields → Option (List ℕ) → EnvelopeParts
stage_12 b v x = record (stage_11 b v v.length) { bilateral = x }

abbrev stage_13 : Bool → EnvelopeFields → Option (List RecipientFields) → EnvelopeParts
stage_13 b v x = record (stage_12 b v v.bilateral) { recipients = x }

abbrev stage_14 : Bool → EnvelopeFields → Extensions → List ExtFields → EnvelopeParts
stage_14 b v t fs = record (stage_13 b v (Some v.recipients)) { extensions = some_told t fs }

abbrev whole : Bool → EnvelopeFields → Extensions → EnvelopeParts
whole b v t = stage_14 b v t v.extensions

abbrev id_content : MtsIdFields → List ℕ
id_content i = canonical_domain i.domain ++ element (primitive 0 22) i.local

abbrev octets_14 : EnvelopeFields → List ℕ
octets_14 v = listed (write_fields (constructed 2 3)) v.extensions

abbrev octets_13 : EnvelopeFields → List ℕ
octets_13 v = canonical_recipients v.recipients ++ octets_14 v

abbrev octets_12 : EnvelopeFields → List ℕ
octets_12 v = optional kept v.bilateral ++ octets_13 v

abbrev octets_11 : EnvelopeFields → List ℕ
octets_11 v = optional canonical_length v.length ++ octets_12 v

abbrev octets_10 : EnvelopeFields → List ℕ
octets_10 v = optional canonical_deferral v.deferral ++ octets_11 v

abbrev octets_9 : EnvelopeFields → List ℕ
octets_9 v = optional canonical_content_id v.content_id ++ octets_10 v

abbrev octets_8 : EnvelopeFields → List ℕ
octets_8 v = canonical_trace_list v.trace ++ octets_9 v

abbrev octets_7 : EnvelopeFields → List ℕ
octets_7 v = optional write_bits (some_bits v.indicators) ++ octets_8 v

abbrev octets_6 : EnvelopeFields → List ℕ
octets_6 v = optional write_priority (some_priority v.priority) ++ octets_7 v

abbrev octets_5 : EnvelopeFields → List ℕ
octets_5 v = optional write_number (place_of v.content_kind) ++ octets_6 v

abbrev octets_4 : EnvelopeFields → List ℕ
octets_4 v = optional kept v.eits ++ octets_5 v

abbrev octets_3 : EnvelopeFields → List ℕ
octets_3 v = canonical_id v.id ++ octets_4 v

abbrev octets_2 : EnvelopeFields → List ℕ
octets_2 v = canonical_name (constructed 1 0) v.originator ++ octets_3 v

abbrev octets_1 : EnvelopeFields → List ℕ
octets_1 v = optional write_oid (front_of v.content_kind) ++ octets_2 v

module _ (b : Bool) (depth : ℕ) (d : depth + 6 ≤ 16) (v : EnvelopeFields) (t : Extensions) (h : IsWholeEnvelope v)
    (of : IsOfKind b v) (same_fields : t.fields ≡ v.extensions) (told : AreToldAt depth t)
    (kn : KeepsName depth v.originator) (ke : IfSome v.eits (IsRawAt depth 1 5))
    (kb : IfSome v.bilateral (IsRawAt depth 2 1))
    (kr : Each (λ r. IsWholeRecipient r × KeepsRecipient (depth + 1) r) v.recipients)
    (kt : Each (IsKeptTrace (depth + 1)) v.trace) where
  extension_piece : (fs : List ExtFields) → v.extensions ≡ fs → 1 ≤ length fs
      → Piece MakesEnvelope depth same 0 14 (stage_13 b v (Some v.recipients)) (write_fields (constructed 2 3) fs)
      (stage_14 b v t fs)
  extension_piece [] is some = absurd (omega arith)
  extension_piece (f ∷ fs) is some =
      envelope_piece ExtensionSet 14 depth (stage_13 b v (Some v.recipients)) (stage_14 b v t (f ∷ fs))
      (constructed 2 3) (flat_map canonical_ext (f ∷ fs)) (low_tag 2 3 true (omega arith) (omega arith)) refl
      (omega arith)
      (λ short. (
        refl,
        puts (SpellsExtensions depth true (flat_map canonical_ext (f ∷ fs)))
            (with_extensions (stage_13 b v (Some v.recipients))) t
            (subst (λ xs. SpellsExtensions depth true (flat_map canonical_ext xs) t) (same_fields ∙ is)
            (extensions_spelled depth t told (omega arith)
            (subst (λ xs. length (flat_map canonical_ext xs) < 2 ^ 64) (sym (same_fields ∙ is)) short))),
      ))

  from_14 : From MakesEnvelope depth same 0 14 (stage_13 b v (Some v.recipients)) (octets_14 v) (whole b v t)
  from_14 =
      at_last MakesEnvelope depth same 0 14 (stage_13 b v (Some v.recipients)) (octets_14 v) (whole b v t)
      (listed_from MakesEnvelope depth same 0 14 15 (write_fields (constructed 2 3)) (stage_14 b v t) v.extensions []
      (whole b v t) (omega arith) (extension_piece v.extensions refl)
      (none_from MakesEnvelope depth same 0 15 (whole b v t)))

  from_13 : From MakesEnvelope depth same 0 13 (stage_12 b v v.bilateral) (octets_13 v) (whole b v t)
  unfolding canonical_recipients
  from_13 =
      piece_from MakesEnvelope depth same 0 13 14 (stage_12 b v v.bilateral) (stage_13 b v (Some v.recipients))
      (canonical_recipients v.recipients) (octets_14 v) (whole b v t) (omega arith)
      (envelope_piece RecipientList 13 depth (stage_12 b v v.bilateral) (stage_13 b v (Some v.recipients))
      (constructed 2 2) (flat_map canonical_recipient v.recipients)
      (low_tag 2 2 true (omega arith) (omega arith)) refl (omega arith)
      (λ short. (
        refl,
        puts (SpellsRecipients depth true (flat_map canonical_recipient v.recipients))
            (with_recipients (stage_12 b v v.bilateral)) v.recipients
            (recipients_spelled depth v.recipients kr h.envelope.some_recipients h.envelope.few_recipients d short),
      )))
      from_14

  from_12 : From MakesEnvelope depth same 0 12 (stage_11 b v v.length) (octets_12 v) (whole b v t)
  from_12 =
      optional_from MakesEnvelope depth same 0 12 13 kept (IsRawAt depth 2 1) (stage_12 b v) v.bilateral (octets_13 v)
      (whole b v t) (omega arith) kb
      (λ x is short last ge lt. record {
        tag = is.tag;
        content = is.content;
        stands = is.stands;
        made = record {
          part = Bilateral;
          is_tag_of = is.is_tag_of;
          made =
              (refl, puts (λ y. y ≡ x) (with_bilateral (stage_11 b v v.length)) x refl);
        };
      })
      from_13

  from_11 : From MakesEnvelope depth same 0 11 (stage_10 b v v.deferral) (octets_11 v) (whole b v t)
  from_11 =
      optional_from MakesEnvelope depth same 0 11 12 canonical_length (IsLong b) (stage_11 b v) v.length (octets_12 v)
      (whole b v t) (omega arith) (long b v of h.envelope.length_fits)
      (λ x is. envelope_piece Length 11 depth (stage_11 b v None) (stage_11 b v (Some x)) (primitive 2 0)
      (int_content (pos x)) (low_tag 2 0 false (omega arith) (omega arith)) is.probe (omega arith)
      (λ short. (
        refl,
        puts (SpellsNumber 0 longest false (int_content (pos x)))
            (with_length (stage_10 b v v.deferral)) x
            (number_spelled longest x is.small (let small = is.small in omega arith)),
      )))
      from_12

  from_10 : From MakesEnvelope depth same 0 10 (stage_9 b v v.content_id) (octets_10 v) (whole b v t)
  from_10 =
      optional_from MakesEnvelope depth same 0 10 11 canonical_deferral (IsTimed b) (stage_10 b v) v.deferral
      (octets_11 v) (whole b v t) (omega arith) (timed b v of h.envelope.deferral)
      (λ x is. envelope_piece Deferral 10 depth (stage_10 b v None) (stage_10 b v (Some x)) (primitive 2 0)
      (utc_content x) (low_tag 2 0 false (omega arith) (omega arith)) is.message (omega arith)
      (λ short. (
        refl,
        puts (SpellsMoment depth false (utc_content x)) (with_deferral (stage_9 b v v.content_id)) x
            (moment_spelled depth x is.small (omega arith)),
      )))
      from_11

  from_9 : From MakesEnvelope depth same 0 9 (stage_8 b v (Some v.trace)) (octets_9 v) (whole b v t)
  from_9 =
      optional_from MakesEnvelope depth same 0 9 10 canonical_content_id IsContentId (stage_9 b v) v.content_id
      (octets_10 v) (whole b v t) (omega arith) h.envelope.content_id
      (λ x is. envelope_piece ContentIdentifier 9 depth (stage_9 b v None) (stage_9 b v (Some x)) (primitive 1 10) x
      (low_tag 1 10 false (omega arith) (omega arith)) refl (omega arith)
      (λ short. (
        refl,
        puts (SpellsContentId depth false x) (with_content_id (stage_8 b v (Some v.trace))) x
            (text_spelled Printable 1 16 depth x is (omega arith)),
      )))
      from_10

  from_8 : From MakesEnvelope depth same 0 8 (stage_7 b v (some_bits v.indicators)) (octets_8 v) (whole b v t)
  unfolding canonical_trace_list
  from_8 =
      piece_from MakesEnvelope depth same 0 8 9 (stage_7 b v (some_bits v.indicators)) (stage_8 b v (Some v.trace))
      (canonical_trace_list v.trace) (octets_9 v) (whole b v t) (omega arith)
      (envelope_piece TraceList 8 depth (stage_7 b v (some_bits v.indicators)) (stage_8 b v (Some v.trace))
      (constructed 1 9) (flat_map canonical_trace v.trace) (low_tag 1 9 true (omega arith) (omega arith)) refl
      (omega arith)
      (λ short. (
        refl,
        puts (SpellsTraceList depth true (flat_map canonical_trace v.trace))
            (with_trace (stage_7 b v (some_bits v.indicators))) v.trace
            (trace_list_spelled depth v.trace kt h.envelope.few_elements (omega arith) short),
      )))
      from_9

  from_7 : From MakesEnvelope depth same 0 7 (stage_6 b v (some_priority v.priority)) (octets_7 v) (whole b v t)
  from_7 =
      optional_from MakesEnvelope depth same 0 7 8 write_bits IsIndicators (stage_7 b v) (some_bits v.indicators)
      (octets_8 v) (whole b v t) (omega arith)
      (bits_hold IsIndicators (is_default v.indicators) v.indicators h.envelope.indicators)
      (λ x is. envelope_piece Indicators 7 depth (stage_7 b v None) (stage_7 b v (Some x)) (primitive 1 8)
      (bits_content x) (low_tag 1 8 false (omega arith) (omega arith)) refl (omega arith)
      (λ short. (
        refl,
        puts (SpellsIndicators depth false (bits_content x))
            (with_indicators (stage_6 b v (some_priority v.priority))) x (indicators_spelled depth x is (omega arith)),
      )))
      from_8

  from_6 : From MakesEnvelope depth same 0 6 (stage_5 b v (place_of v.content_kind)) (octets_6 v) (whole b v t)
  from_6 =
      optional_from MakesEnvelope depth same 0 6 7 write_priority (λ p. not b ≡ true) (stage_6 b v)
      (some_priority v.priority) (octets_7 v) (whole b v t) (omega arith) (urgent_message b v of)
      (λ x is. envelope_piece MessagePriority 6 depth (stage_6 b v None) (stage_6 b v (Some x)) (primitive 1 7)
      (int_content (pos (priority_number x))) (low_tag 1 7 false (omega arith) (omega arith)) is (omega arith)
      (λ short. (
        refl,
        puts (SpellsPriority false (int_content (pos (priority_number x))))
            (with_priority (stage_5 b v (place_of v.content_kind))) x (priority_spelled x),
      )))
      from_7

  from_5 : From MakesEnvelope depth same 0 5 (stage_4 b v v.eits) (octets_5 v) (whole b v t)
  from_5 =
      optional_from MakesEnvelope depth same 0 5 6 write_number (IsPlaced v.content_kind) (stage_5 b v)
      (place_of v.content_kind) (octets_6 v) (whole b v t) (omega arith)
      (place_is v.content_kind h.envelope.content_kind)
      (λ x is. envelope_piece ContentType 5 depth (stage_5 b v None) (stage_5 b v (Some x)) (primitive 1 6)
      (int_content (pos x)) (low_tag 1 6 false (omega arith) (omega arith)) refl (omega arith)
      (λ short. (
        ap as_oid is.alone,
        puts
            (SpellsContentKind depth (primitive 1 6) (int_content (pos x)) (write_number x))
            (with_content_kind (stage_4 b v v.eits)) (Number x)
            ((refl, number_spelled 32767 x is.small (let small = is.small in omega arith))),
      )))
      from_6

  from_4 : From MakesEnvelope depth same 0 4 (stage_3 b v (Some v.id)) (octets_4 v) (whole b v t)
  from_4 =
      optional_from MakesEnvelope depth same 0 4 5 kept (IsRawAt depth 1 5) (stage_4 b v) v.eits (octets_5 v)
      (whole b v t) (omega arith) ke
      (λ x is short last ge lt. record {
        tag = is.tag;
        content = is.content;
        stands = is.stands;
        made = record {
          part = InformationTypes;
          is_tag_of = is.is_tag_of;
          made =
              (refl, puts (λ y. y ≡ x) (with_eits (stage_3 b v (Some v.id))) x refl);
        };
      })
      from_5

  from_3 : From MakesEnvelope depth same 0 3 (stage_2 b v (Some v.originator)) (octets_3 v) (whole b v t)
  unfolding canonical_id
  from_3 =
      piece_from MakesEnvelope depth same 0 3 4 (stage_2 b v (Some v.originator)) (stage_3 b v (Some v.id))
      (canonical_id v.id) (octets_4 v) (whole b v t) (omega arith)
      (envelope_piece Identifier 3 depth (stage_2 b v (Some v.originator)) (stage_3 b v (Some v.id)) (constructed 1 4)
      (id_content v.id) (low_tag 1 4 true (omega arith) (omega arith)) refl (omega arith)
      (λ short. (
        refl,
        puts (SpellsMtsId depth (constructed 1 4) (id_content v.id))
            (with_id (stage_2 b v (Some v.originator))) v.id (identifier_spelled depth v.id h.id (omega arith) short),
      )))
      from_4

  from_2 : From MakesEnvelope depth same 0 2 (stage_1 b v (front_of v.content_kind)) (octets_2 v) (whole b v t)
  unfolding canonical_name
  from_2 =
      piece_from MakesEnvelope depth same 0 2 3 (stage_1 b v (front_of v.content_kind))
      (stage_2 b v (Some v.originator)) (canonical_name (constructed 1 0) v.originator) (octets_3 v) (whole b v t)
      (omega arith)
      (envelope_piece Originator 2 depth (stage_1 b v (front_of v.content_kind)) (stage_2 b v (Some v.originator))
      (constructed 1 0) (name_content v.originator) (low_tag 1 0 true (omega arith) (omega arith)) refl
      (omega arith)
      (λ short. (
        refl,
        puts (SpellsName depth true (name_content v.originator))
            (with_originator (stage_1 b v (front_of v.content_kind))) v.originator
            (name_spelled depth v.originator h.originator kn (omega arith) short),
      )))
      from_3

  from_1 : From MakesEnvelope depth same 0 1 (no_envelope b) (octets_1 v) (whole b v t)
  from_1 =
      optional_from MakesEnvelope depth same 0 1 2 write_oid IsOid (stage_1 b v) (front_of v.content_kind) (octets_2 v)
      (whole b v t) (omega arith) (front_is v.content_kind h.envelope.content_kind)
      (λ x is. envelope_piece ContentType 1 depth (stage_1 b v None) (stage_1 b v (Some x)) (primitive 0 6) x
      (low_tag 0 6 false (omega arith) (omega arith)) refl (omega arith)
      (λ short. (
        refl,
        puts (SpellsContentKind depth (primitive 0 6) x (write_oid x))
            (with_content_kind (no_envelope b)) (Oid x)
            ((refl, record { primitive = refl; is_oid_of = is; kept = refl })),
      )))
      from_2

-- ---- all of it

regroup : (a b c d e f g h i j k l m n : List ℕ) → a
    ++ (b ++ (c ++ (d ++ (e ++ (f ++ (g ++ (h ++ (i ++ (j ++ (k ++ (l ++ (m ++ n)))))))))))) ≡ (a ++ b ++ c ++ d ++ e
    ++ f) ++ (g ++ h ++ i) ++ (j ++ k ++ l ++ m ++ n)
regroup a b c d e f g h i j k l m n = simp append_assoc

content_is : (v : EnvelopeFields) → octets_1 v ≡ envelope_content v
unfolding envelope_content envelope_front envelope_middle envelope_back
content_is v =
    written (optional write_oid (front_of v.content_kind)) (kind_in_front v.content_kind)
    (optional write_number (place_of v.content_kind)) (kind_in_place v.content_kind)
    (optional write_priority (some_priority v.priority)) (canonical_priority v.priority)
    (optional write_bits (some_bits v.indicators)) (canonical_or_none v.indicators)
    (listed (write_fields (constructed 2 3)) v.extensions) (canonical_ext_list (constructed 2 3) v.extensions)
    (front_written v.content_kind) (place_written v.content_kind) (priority_written v.priority)
    (bits_written v.indicators) (fields_listed (constructed 2 3) v.extensions)
    ∙ regroup (kind_in_front v.content_kind) (canonical_name (constructed 1 0) v.originator) (canonical_id v.id)
    (optional kept v.eits) (kind_in_place v.content_kind) (canonical_priority v.priority)
    (canonical_or_none v.indicators) (canonical_trace_list v.trace)
    (optional canonical_content_id v.content_id) (optional canonical_deferral v.deferral)
    (optional canonical_length v.length) (optional kept v.bilateral) (canonical_recipients v.recipients)
    (canonical_ext_list (constructed 2 3) v.extensions)
  where
    written : (a a' e e' f f' g g' n n' : List ℕ) → a ≡ a' → e ≡ e' → f ≡ f' → g ≡ g' → n ≡ n'
        → a ++ (canonical_name (constructed 1 0) v.originator
        ++ (canonical_id v.id ++ (optional kept v.eits
        ++ (e ++ (f ++ (g ++ (canonical_trace_list v.trace ++ (optional canonical_content_id v.content_id
        ++ (optional canonical_deferral v.deferral
        ++ (optional canonical_length v.length
        ++ (optional kept v.bilateral ++ (canonical_recipients v.recipients ++ n))))))))))))
        ≡ a' ++ (canonical_name (constructed 1 0) v.originator
        ++ (canonical_id v.id ++ (optional kept v.eits
        ++ (e' ++ (f' ++ (g' ++ (canonical_trace_list v.trace ++ (optional canonical_content_id v.content_id
        ++ (optional canonical_deferral v.deferral
        ++ (optional canonical_length v.length
        ++ (optional kept v.bilateral ++ (canonical_recipients v.recipients ++ n'))))))))))))
    written a a' e e' f f' g g' n n' p q r s t = cc

fields_are : (o o' : Attributes) (i : MtsIdFields) (e c l : Option (List ℕ)) (k : ContentKind) (p p' : Priority)
    (g g' : BitString) (d n m m' : Option ℕ) (r : List RecipientFields) (t : List TraceFields) (x x' : List ExtFields)
    (h h' : List ExpansionFields) (y y' : Bool)
    → p ≡ p' → g ≡ g' → x ≡ x' → h ≡ h' → m ≡ m' → y ≡ y'
    → ◌≡◌ {A = EnvelopeFields} (record {
      id = i;
      originator = o;
      eits = e;
      content_kind = k;
      content_id = c;
      priority =
          p;
      indicators = g;
      deferral = d;
      length = n;
      bilateral = l;
      recipients = r;
      trace = t;
      extensions = x;
      history =
          h;
      latest = m;
      dl_prohibited = y;
    })
    (record {
      id = i;
      originator = o;
      eits = e;
      content_kind = k;
      content_id = c;
      priority = p';
      indicators = g';
      deferral = d;
      length = n;
      bilateral = l;
      recipients = r;
      trace = t;
      extensions = x';
      history = h';
      latest = m';
      dl_prohibited = y';
    })
fields_are o o' i e c l k p p' g g' d n m m' r t x x' h h' y y' a1 a2 a3 a4 a5 a6 = cc

value_again : (b : Bool) (depth : ℕ) (v : EnvelopeFields) (q : Option Bool) → v.dl_prohibited ≡ unwrap_or q false
    → AreToldAt depth (told_of v q) → v ≡ envelope v.originator v.id v.content_kind v.trace v.recipients
    (whole b v (told_of v q))
value_again b depth v q prohibited told =
    let again : told_or_none (some_told (told_of v q) v.extensions) ≡ told_of v q =
    told_again depth v.extensions (told_history v.history) v.latest q told in
    let e : Extensions = told_or_none (some_told (told_of v q) v.extensions) in
    fields_are v.originator v.originator v.id v.eits v.content_id v.bilateral v.content_kind v.priority
    (priority_or_normal (some_priority v.priority)) v.indicators
    (indicators_or_none (some_bits v.indicators)) v.deferral v.length v.latest e.latest v.recipients v.trace
    v.extensions e.fields v.history (history_or_none e.history) v.dl_prohibited (unwrap_or e.prohibited false)
    (priority_again v.priority) (bits_again v.indicators) (sym (ap (λ (x : Extensions). x.fields) again))
    (history_again v.history ∙ sym (ap (λ (x : Extensions). history_or_none x.history) again))
    (sym (ap (λ (x : Extensions). x.latest) again))
    (prohibited ∙ sym (ap (λ (x : Extensions). unwrap_or x.prohibited false) again))

deeper : {X : Type 0} (P : ℕ → X → Type 0) (depth : ℕ) (xs : List X) → Each (P (depth + 2)) xs
    → Each (P (depth + 1 + 1)) xs
deeper P depth xs h = subst (λ k. Each (P k) xs) (let e : depth + 2 ≡ depth + 1 + 1 = omega arith in e) h

pub envelope_spelled : (b : Bool) (depth : ℕ) (v : EnvelopeFields) → IsWholeEnvelope v → IsOfKind b v
    → KeepsEnvelope depth v → depth + 7 ≤ 16 → length (envelope_content v) < 2 ^ 64
    → SpellsEnvelope b depth true (envelope_content v) v
envelope_spelled b depth v h of k d short =
    let t = told_of v k.prohibition in
    let recipients = each_both IsWholeRecipient (KeepsRecipient (depth + 1 + 1)) v.recipients h.recipients
    (deeper KeepsRecipient depth v.recipients k.recipients) in
    let trace = each_both IsWholeTrace (KeepsTrace (depth + 1 + 1)) v.trace h.trace
    (deeper KeepsTrace depth v.trace k.trace) in
    let all = subst (λ octets. From MakesEnvelope (depth + 1) same 0 1 (no_envelope b) octets (whole b v t))
    (content_is v) (from_1 b (depth + 1) (omega arith) v t h of refl k.told k.originator k.eits k.bilateral
    recipients trace) in
    let e = all short 0 (omega arith) (omega arith) in
    record {
      is_constructed = refl;
      parts = whole b v t;
      spelled = row_spelled MakesEnvelope depth (no_envelope b) (whole b v t) (envelope_content v) e.row;
      originator = refl;
      id = refl;
      content_kind = kind_again v.content_kind;
      trace = refl;
      recipients = refl;
      value = value_again b (depth + 1) v k.prohibition k.prohibited_is k.told;
    }
