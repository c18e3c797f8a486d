-- What was read of an envelope stands and says the same in the level of its place, so a message or a probe that was
-- read is written so
-- that it is read again.
use Rattle.std.proofs.Common.{◌≡◌, ℕ, ◌+◌, ◌≤◌, Bool, true, false, List, [], ◌∷◌, Option, Some, None, refl, sym, ap}
use Rattle.std.proofs.Common.{subst, ◌∙◌, arith}
use Rattle.std.specs.Prelude.{IfSome}
use Rattle.mta_ber.specs.declared.tag.Tag.{Tag}
use Rattle.mta_ber.specs.Spelling.{Stands}
use Rattle.mta_names.specs.Laws.{IsRawAt, KeepsName}
use Rattle.mta_names.specs.Values.{Each, IsName}
use Rattle.mta_names.proofs.Kept.{KeepsAt, spelled_kept, name_kept}
use Rattle.mta_names.proofs.NameLaws.{name_is}
use Rattle.mta_fields.proofs.Tagged.{none_tagged_begins}
use Rattle.mta_fields.specs.declared.expansion.ExpansionFields.{ExpansionFields}
use Rattle.mta_fields.specs.Laws.{IsWholeId, KeepsTrace}
use Rattle.mta_fields.proofs.Kept.{identifier_whole}
use Rattle.mta_envelope_common.proofs.Kept.{AreKeptTraces, trace_list_kept}
use Rattle.mta_envelope_extensions.specs.declared.extensions.Extensions.{Extensions}
use Rattle.mta_envelope_extensions.specs.declared.value.Topic.TheVariants.{ExpansionHistory}
use Rattle.mta_envelope_extensions.specs.Laws.{SaysAt, AreToldAt}
use Rattle.mta_envelope_extensions.specs.Told.{history_said, values_of}
use Rattle.mta_envelope_extensions.proofs.ExtKept.{extensions_kept}
use Rattle.mta_envelope_recipient.specs.Laws.{IsWholeRecipient, KeepsRecipient}
use Rattle.mta_envelope_recipient.proofs.Again.{IsKeptRecipient}
use Rattle.mta_envelope_recipient.proofs.RecKept.{each_first, each_second, recipients_kept}
use Rattle.mta_envelope.specs.declared.envelope.EnvelopeFields.{EnvelopeFields}
use Rattle.mta_envelope.specs.declared.parts.EnvelopePart.{EnvelopePart}
use Rattle.mta_envelope.specs.declared.parts.EnvelopePart.TheVariants.{Originator, Identifier, InformationTypes}
use Rattle.mta_envelope.specs.declared.parts.EnvelopePart.TheVariants.{ContentType, MessagePriority, Indicators}
use Rattle.mta_envelope.specs.declared.parts.EnvelopePart.TheVariants.{TraceList, ContentIdentifier, Deferral, Length}
use Rattle.mta_envelope.specs.declared.parts.EnvelopePart.TheVariants.{Bilateral, RecipientList, ExtensionSet}
use Rattle.mta_envelope.specs.declared.parts.EnvelopeParts.{EnvelopeParts}
use Rattle.mta_envelope.specs.Components.{is_envelope_tag, no_envelope, MakesEnvelopePart, MakesEnvelope}
use Rattle.mta_envelope.specs.Envelopes.{told_history, told_or_none, history_or_none, SpellsEnvelope}
use Rattle.mta_envelope.specs.Laws.{told_of, IsWholeEnvelope, KeepsEnvelope, ReadEnvelopesAreKept}
use Rattle.mta_envelope.specs.Laws.{ReadMessagesAreReadAgain, ReadProbesAreReadAgain, NoMessageBeginsAnother}
use Rattle.mta_envelope.specs.Laws.{NoProbeBeginsAnother}
use Rattle.mta_envelope.specs.Messages.{message_in, SpellsMessage, probe_in, SpellsProbe}
use Rattle.mta_envelope.proofs.EnvelopeLaws.{envelope_is, envelope_kind}
use Rattle.mta_envelope.proofs.MessageAgain.{messages_again, probes_again}
use Rattle.mta_envelope.proofs.MessageLaws.{message_full, probe_full}

-- ---- components

record Holds (depth : ℕ) (s : EnvelopeParts) : Type 0 where
  originator : IfSome s.originator (λ n. KeepsName depth n × IsName n)
  id : IfSome s.id IsWholeId
  eits : IfSome s.eits (IsRawAt depth 1 5)
  bilateral : IfSome s.bilateral (IsRawAt depth 2 1)
  recipients : IfSome s.recipients (Each (IsKeptRecipient (depth + 1)))
  trace : IfSome s.trace (AreKeptTraces (depth + 1))
  extensions : IfSome s.extensions (AreToldAt depth)

-- what the parts of an envelope keep, one behind another
holds : {depth : ℕ} {s : EnvelopeParts} → (IfSome s.originator (λ n. KeepsName depth n × IsName n))
    → IfSome s.id IsWholeId → IfSome s.eits (IsRawAt depth 1 5) → IfSome s.bilateral (IsRawAt depth 2 1)
    → IfSome s.recipients (Each (IsKeptRecipient (depth + 1))) → IfSome s.trace (AreKeptTraces (depth + 1))
    → IfSome s.extensions (AreToldAt depth) → Holds depth s
holds originator id eits bilateral recipients trace extensions =
    record {
      originator = originator;
      id = id;
      eits = eits;
      bilateral = bilateral;
      recipients = recipients;
      trace = trace;
      extensions = extensions;
    }

part_kept : (b : Bool) (k : EnvelopePart) (depth : ℕ) (s t : EnvelopeParts) (tag : Tag) (content octets : List ℕ)
    → depth + 6 ≤ 16 → is_envelope_tag b k tag ≡ true → Stands depth tag content octets
    → MakesEnvelopePart k depth s tag content octets t → Holds depth s → Holds depth t
part_kept b Originator depth s t tag content octets d is stands m h =
    subst (Holds depth) (sym m.1.after_is)
    (holds (
      name_kept depth tag.constructed content m.1.value m.1.value_spelled,
      name_is depth tag.constructed content m.1.value m.1.value_spelled,
    )
    h.id h.eits h.bilateral h.recipients h.trace h.extensions)
part_kept b Identifier depth s t tag content octets d is stands m h =
    subst (Holds depth) (sym m.1.after_is)
    (holds h.originator (identifier_whole depth tag content m.1.value m.1.value_spelled) h.eits h.bilateral
    h.recipients h.trace h.extensions)
part_kept b InformationTypes depth s t tag content octets d is stands m h =
    subst (Holds depth) (sym m.1.after_is)
    (holds h.originator h.id
    (subst (IsRawAt depth 1 5) (sym m.1.value_spelled)
    (record { tag = tag; content = content; is_tag_of = is; stands = stands }))
    h.bilateral h.recipients h.trace h.extensions)
part_kept b ContentType depth s t tag content octets d is stands m h =
    subst (Holds depth) (sym m.1.after_is)
    (holds h.originator h.id h.eits h.bilateral h.recipients h.trace h.extensions)
part_kept b MessagePriority depth s t tag content octets d is stands m h =
    subst (Holds depth) (sym m.1.after_is)
    (holds h.originator h.id h.eits h.bilateral h.recipients h.trace h.extensions)
part_kept b Indicators depth s t tag content octets d is stands m h =
    subst (Holds depth) (sym m.1.after_is)
    (holds h.originator h.id h.eits h.bilateral h.recipients h.trace h.extensions)
part_kept b TraceList depth s t tag content octets d is stands m h =
    subst (Holds depth) (sym m.1.after_is)
    (holds h.originator h.id h.eits h.bilateral h.recipients
    (trace_list_kept depth tag.constructed content m.1.value m.1.value_spelled) h.extensions)
part_kept b ContentIdentifier depth s t tag content octets d is stands m h =
    subst (Holds depth) (sym m.1.after_is)
    (holds h.originator h.id h.eits h.bilateral h.recipients h.trace h.extensions)
part_kept b Deferral depth s t tag content octets d is stands m h =
    subst (Holds depth) (sym m.1.after_is)
    (holds h.originator h.id h.eits h.bilateral h.recipients h.trace h.extensions)
part_kept b Length depth s t tag content octets d is stands m h =
    subst (Holds depth) (sym m.1.after_is)
    (holds h.originator h.id h.eits h.bilateral h.recipients h.trace h.extensions)
part_kept b Bilateral depth s t tag content octets d is stands m h =
    subst (Holds depth) (sym m.1.after_is)
    (holds h.originator h.id h.eits
    (subst (IsRawAt depth 2 1) (sym m.1.value_spelled)
    (record { tag = tag; content = content; is_tag_of = is; stands = stands }))
    h.recipients h.trace h.extensions)
part_kept b RecipientList depth s t tag content octets d is stands m h =
    subst (Holds depth) (sym m.1.after_is)
    (holds h.originator h.id h.eits h.bilateral
    (recipients_kept depth tag.constructed content m.1.value m.1.value_spelled d) h.trace h.extensions)
part_kept b ExtensionSet depth s t tag content octets d is stands m h =
    subst (Holds depth) (sym m.1.after_is)
    (holds h.originator h.id h.eits h.bilateral h.recipients h.trace
    (extensions_kept depth tag.constructed content m.1.value m.1.value_spelled (omega arith)))

kept : (b : Bool) (depth : ℕ) → depth + 6 ≤ 16 → KeepsAt MakesEnvelope (Holds depth) depth
kept b depth d s t tag content octets stands m h =
    part_kept s.probe m.part depth s t tag content octets d m.is_tag_of stands m.made h

-- ---- extension fields

told_so : (depth : ℕ) (o : Option Extensions) → IfSome o (AreToldAt depth) → AreToldAt depth (told_or_none o)
told_so depth None h = record { fields = tt; kept = tt; history = tt; latest = tt; prohibited = tt }
told_so depth (Some x) h = h

-- a history that is told has an expansion
some_history : (depth : ℕ) (vs : List (List ℕ)) (o : Option (List ExpansionFields))
    → SaysAt depth ExpansionHistory vs (history_said o) → o ≡ told_history (history_or_none o)
some_history depth vs None h = refl
some_history depth [] (Some []) h = absurd h
some_history depth (v ∷ []) (Some []) h = absurd (let n = h.spelled.1.at_least in omega arith)
some_history depth (v ∷ w ∷ vs) (Some []) h = absurd h
some_history depth vs (Some (x ∷ xs)) h = refl

told_as : (depth : ℕ) (e : Extensions) (v : EnvelopeFields) → v.extensions ≡ e.fields
    → v.history ≡ history_or_none e.history → v.latest ≡ e.latest → AreToldAt depth e
    → AreToldAt depth (told_of v e.prohibited)
told_as depth e v f x l h =
    let history : e.history ≡ told_history v.history =
    some_history (depth + 3) (values_of ExpansionHistory e.fields) e.history h.history ∙ ap told_history (sym x) in
    subst (λ (t : Extensions). AreToldAt depth t)
    (same e.fields v.extensions e.history (told_history v.history) e.latest v.latest (sym f) history (sym l)) h
  where
    same : (f f' : _) (h h' : Option (List ExpansionFields)) (l l' : Option ℕ) → f ≡ f' → h ≡ h' → l ≡ l'
        → ◌≡◌ {A = Extensions} (record { fields = f; history = h; latest = l; prohibited = e.prohibited })
        (record { fields = f'; history = h'; latest = l'; prohibited = e.prohibited })
    same f f' h h' l l' a b c = cc

-- ---- envelopes

envelope_both : (b : Bool) (depth : ℕ) (c : Bool) (content : List ℕ) (v : EnvelopeFields)
    → SpellsEnvelope b depth c content v → depth + 7 ≤ 16 → KeepsEnvelope depth v × IsWholeEnvelope v
envelope_both b depth c content v h d =
    let k = spelled_kept MakesEnvelope (Holds (depth + 1)) depth (kept b (depth + 1) (omega arith))
    (no_envelope b) h.parts content h.spelled
    (record { originator = tt; id = tt; eits = tt; bilateral = tt; recipients = tt; trace = tt; extensions = tt })
    in
    let e : Extensions = told_or_none h.parts.extensions in
    let level : depth + 1 + 1 ≡ depth + 2 = omega arith in
    let name : KeepsName (depth + 1) v.originator × IsName v.originator =
    subst (λ o. IfSome o (λ n. KeepsName (depth + 1) n × IsName n)) h.originator k.originator in
    let id : IsWholeId v.id = subst (λ o. IfSome o IsWholeId) h.id k.id in
    let recipients : Each (IsKeptRecipient (depth + 1 + 1)) v.recipients =
    subst (λ o. IfSome o (Each (IsKeptRecipient (depth + 1 + 1)))) h.recipients k.recipients in
    let trace : AreKeptTraces (depth + 1 + 1) v.trace =
    subst (λ o. IfSome o (AreKeptTraces (depth + 1 + 1))) h.trace k.trace in (
      record {
        originator = name.0;
        eits = subst (λ o. IfSome o (IsRawAt (depth + 1) 1 5))
            (sym (ap (λ (x : EnvelopeFields). x.eits) h.value)) k.eits;
        bilateral = subst (λ o. IfSome o (IsRawAt (depth + 1) 2 1))
            (sym (ap (λ (x : EnvelopeFields). x.bilateral) h.value)) k.bilateral;
        recipients = subst (λ n. Each (KeepsRecipient n) v.recipients) level
            (each_second IsWholeRecipient (KeepsRecipient (depth + 1 + 1)) v.recipients recipients);
        trace = subst (λ n. Each (KeepsTrace n) v.trace) level trace.kept;
        prohibition = e.prohibited;
        prohibited_is = ap (λ (x : EnvelopeFields). x.dl_prohibited) h.value;
        told = told_as (depth + 1) e v (ap (λ (x : EnvelopeFields). x.extensions) h.value)
            (ap (λ (x : EnvelopeFields). x.history) h.value) (ap (λ (x : EnvelopeFields). x.latest) h.value)
            (told_so (depth + 1) h.parts.extensions k.extensions);
      },
      record {
        envelope = envelope_is b depth c content v h;
        originator = name.1;
        id = id;
        recipients = each_first IsWholeRecipient (KeepsRecipient (depth + 1 + 1)) v.recipients recipients;
        trace = trace.traces;
      },
    )

pub envelope_kept : ReadEnvelopesAreKept
envelope_kept b depth c content v h d = envelope_both b depth c content v h d

-- ---- messages and probes

pub read_messages_again : ReadMessagesAreReadAgain
read_messages_again content v more at h short =
    let e = h.envelope in
    let k = envelope_both false 2 e.tag.constructed e.content v.envelope e.spelled (omega arith) in
    messages_again v.envelope v.content.octets more at k.1
    (envelope_kind false 2 e.tag.constructed e.content v.envelope e.spelled) k.0 short

pub read_probes_again : ReadProbesAreReadAgain
read_probes_again content v more at h short =
    let k = envelope_both true 2 true content v h.spelled (omega arith) in
    probes_again v more at k.1 (envelope_kind true 2 true content v h.spelled) k.0 short

pub no_message_begins : NoMessageBeginsAnother
no_message_begins = none_tagged_begins message_in SpellsMessage (λ v p d h. message_full v p h)

pub no_probe_begins : NoProbeBeginsAnother
no_probe_begins = none_tagged_begins probe_in SpellsProbe (λ v p d h. probe_full v p h)
