-- What was read of the extension fields of an envelope stands and says the same in the level of its place.
use Rattle.std.proofs.Common.{◌≡◌, ℕ, ◌+◌, ◌≤◌, ◌<◌, Bool, true, false, List, [], ◌∷◌, ◌++◌, Option, Some, None, refl}
use Rattle.std.proofs.Common.{sym, ap, subst, ◌∙◌, arith}
use Rattle.std.specs.Prelude.{IfSome, is_some}
use Rattle.mta_ber.specs.declared.tag.Tag.{Tag}
use Rattle.mta_ber.specs.Canon.{primitive}
use Rattle.mta_ber.specs.Explicit.{SpellsExplicit}
use Rattle.mta_ber.specs.Spelling.{Stands}
use Rattle.mta_names.specs.Values.{Each}
use Rattle.mta_names.proofs.Kept.{KeepsAt, spelled_kept}
use Rattle.mta_names.proofs.Tools.{each_more}
use Rattle.mta_fields.specs.declared.expansion.ExpansionFields.{ExpansionFields}
use Rattle.mta_fields.specs.declared.extension.ExtFields.{ExtFields}
use Rattle.mta_fields.specs.declared.extension.ExtKind.{ExtKind}
use Rattle.mta_fields.specs.ExtensionFields.{IsExtField, null}
use Rattle.mta_fields.specs.Laws.{KeepsExtField}
use Rattle.mta_envelope_extensions.specs.declared.value.Topic.{Topic}
use Rattle.mta_envelope_extensions.specs.declared.value.Topic.TheVariants.{ExpansionHistory, LatestDelivery}
use Rattle.mta_envelope_extensions.specs.declared.value.Topic.TheVariants.{ExpansionProhibited, Other}
use Rattle.mta_envelope_extensions.specs.declared.value.Said.{Said}
use Rattle.mta_envelope_extensions.specs.declared.value.Said.TheVariants.{History, Latest, Prohibited, Unread}
use Rattle.mta_envelope_extensions.specs.declared.value.ExtValue.{ExtValue}
use Rattle.mta_envelope_extensions.specs.declared.field.Held.{Held}
use Rattle.mta_envelope_extensions.specs.declared.field.Told.{Told}
use Rattle.mta_envelope_extensions.specs.declared.field.FieldPart.{FieldPart}
use Rattle.mta_envelope_extensions.specs.declared.field.FieldPart.TheVariants.{FieldType, Criticality, FieldValue}
use Rattle.mta_envelope_extensions.specs.declared.field.FieldParts.{FieldParts}
use Rattle.mta_envelope_extensions.specs.declared.extensions.Extensions.{Extensions}
use Rattle.mta_envelope_extensions.specs.Topics.{topic_of, SpellsValue}
use Rattle.mta_envelope_extensions.specs.Fields.{is_held, field_place, no_field, MakesFieldType, MakesFieldValue}
use Rattle.mta_envelope_extensions.specs.Fields.{MakesFieldPart, MakesField, IsNull, IsValue, SpellsField}
use Rattle.mta_envelope_extensions.specs.Laws.{IsSaidAt, SaysAt, AreToldAt, ReadEnvelopeExtensionsAreKept}
use Rattle.mta_envelope_extensions.specs.Told.{held_of, with_said, no_extensions, MakesExtension, SpellsExtensions}
use Rattle.mta_envelope_extensions.specs.Told.{is_topic, values_of, history_said, latest_said, prohibited_said}
use Rattle.mta_envelope_extensions.proofs.FieldAgain.{null_there}
use Rattle.mta_envelope_extensions.proofs.FieldLaws.{field_is}
use Rattle.mta_envelope_extensions.proofs.ToldLaws.{values_same, values_more}

-- ---- one field

said_at : (t : Topic) (depth : ℕ) (c : Bool) (content : List ℕ) (v : ExtValue)
    → SpellsExplicit (SpellsValue t) depth c content v → IsSaidAt (depth + 1) t v.octets v.said
said_at t depth c content v h = record {
  tag = h.tag;
  content = h.inside;
  stands = subst (λ o. Stands (depth + 1) h.tag h.inside o) (sym h.spelled.octets_are) h.stands;
  spelled = h.spelled.said;
}

record Holds (depth : ℕ) (s : FieldParts) : Type 0 where
  value : (k : ExtKind) → s.kind ≡ Some k → IfSome s.value (λ v. IsSaidAt (depth + 1) (topic_of k) v.octets v.said)
  empty : s.last ≡ 0 → s.value ≡ None

abbrev some_kind : ExtKind → Option ExtKind
some_kind k = Some k

kind_as : (k j : ExtKind) → some_kind k ≡ some_kind j → k ≡ j
kind_as k j e = cc

nothing_said : (P : ExtValue → Type 0) (o : Option ExtValue) → o ≡ None → IfSome o P
nothing_said P o e = subst (λ x. IfSome x P) (sym e) tt

type_kept : (depth : ℕ) (s t : FieldParts) (tag : Tag) (content octets : List ℕ) → s.last ≡ 0
    → MakesFieldType depth s tag content octets t → Holds depth s → Holds depth t
type_kept depth s t tag content octets first m h =
    subst (Holds depth) (sym m.after_is)
    (record {
      value = λ k e. nothing_said (λ v. IsSaidAt (depth + 1) (topic_of k) v.octets v.said) s.value
          (h.empty first);
      empty = λ e. absurd (omega arith);
    })

value_kept : (depth : ℕ) (s t : FieldParts) (tag : Tag) (content octets : List ℕ)
    → MakesFieldValue depth s tag content octets t → Holds depth s → Holds depth t
value_kept depth s t tag content octets m h =
    let said = said_at (topic_of m.kind) depth tag.constructed content m.puts.value m.puts.value_spelled in
    subst (Holds depth) (sym m.puts.after_is) (record {
      value = λ k e. subst (λ j. IsSaidAt (depth + 1) (topic_of j) m.puts.value.octets m.puts.value.said)
          (kind_as m.kind k (sym m.kind_is ∙ e)) said;
      empty = λ e. absurd (omega arith);
    })

part_kept : (k : FieldPart) (depth : ℕ) (s t : FieldParts) (tag : Tag) (content octets : List ℕ)
    → s.last < field_place k → MakesFieldPart k depth s tag content octets t → Holds depth s → Holds depth t
part_kept FieldType depth s t tag content octets lt m h = type_kept depth s t tag content octets (omega arith) m h
part_kept Criticality depth s t tag content octets lt m h =
    subst (Holds depth) (sym m.after_is) (record { value = h.value; empty = λ e. absurd (omega arith) })
part_kept FieldValue depth s t tag content octets lt m h = value_kept depth s t tag content octets m h

kept : (depth : ℕ) → KeepsAt MakesField (Holds depth) depth
kept depth s t tag content octets stands m h = part_kept m.part depth s t tag content octets m.behind m.made h

null_said : (t : Topic) (depth : ℕ) (v : ExtValue) → depth ≤ 16 → IsNull t v → IsSaidAt depth t v.octets v.said
null_said ExpansionHistory depth v d h = absurd h
null_said LatestDelivery depth v d h = absurd h
null_said ExpansionProhibited depth v d h = absurd h
null_said Other depth v d h = subst (λ (x : ExtValue). IsSaidAt depth Other x.octets x.said) (sym h)
    (record { tag = primitive 0 5; content = []; stands = null_there depth d; spelled = tt })

value_said_at : (t : Topic) (depth : ℕ) (o : Option ExtValue) (v : ExtValue) → depth ≤ 16 → IsValue t o v
    → IfSome o (λ w. IsSaidAt depth t w.octets w.said) → IsSaidAt depth t v.octets v.said
value_said_at t depth (Some w) v d h k = subst (λ (x : ExtValue). IsSaidAt depth t x.octets x.said) (sym h) k
value_said_at t depth None v d h k = null_said t depth v d h

field_said : (held : Held) (depth : ℕ) (c : Bool) (content : List ℕ) (t : Told) → SpellsField held depth c content t
    → depth + 2 ≤ 16 → IsSaidAt (depth + 2) (topic_of t.field.kind) t.field.value t.said
field_said held depth c content t h d =
    let k = spelled_kept MakesField (Holds (depth + 1)) depth (kept (depth + 1))
    (no_field held h.at) h.parts content h.spelled (record { value = λ k e. tt; empty = λ e. refl }) in
    let there = k.value t.field.kind h.kind in
    let level : depth + 1 + 1 ≡ depth + 2 = omega arith in
    let at = subst (λ n. IfSome h.parts.value (λ w. IsSaidAt n (topic_of t.field.kind) w.octets w.said)) level there in
    let said = value_said_at (topic_of t.field.kind) (depth + 2) h.parts.value h.value d h.value_is at in
    let value : h.value.octets ≡ t.field.value = sym (ap (λ (x : Told). x.field.value) h.told_is) in
    let says : h.value.said ≡ t.said = sym (ap (λ (x : Told). x.said) h.told_is) in
    subst (λ o. IsSaidAt (depth + 2) (topic_of t.field.kind) o t.said) value
    (subst (λ s. IsSaidAt (depth + 2) (topic_of t.field.kind) h.value.octets s) says said)

-- ---- all of them

says_same : (d : ℕ) (t : Topic) (fs : List ExtFields) (f : ExtFields) (o : Option Said)
    → is_topic t (topic_of f.kind) ≡ false → SaysAt d t (values_of t fs) o → SaysAt d t (values_of t (fs ++ f ∷ [])) o
says_same d t fs f o h k = subst (λ vs. SaysAt d t vs o) (sym (values_same t fs f h)) k

said_none : (d : ℕ) (t : Topic) (vs : List (List ℕ)) → SaysAt d t vs None → vs ≡ []
said_none d t [] h = refl
said_none d t (v ∷ []) h = absurd h
said_none d t (v ∷ w ∷ vs) h = absurd h

says_first : (d : ℕ) (t : Topic) (fs : List ExtFields) (f : ExtFields) (s : Said) → is_topic t (topic_of f.kind) ≡ true
    → SaysAt d t (values_of t fs) None → IsSaidAt d t f.value s → SaysAt d t (values_of t (fs ++ f ∷ [])) (Some s)
says_first d t fs f s h k said =
    let one : values_of t (fs ++ f ∷ []) ≡ f.value ∷ [] = values_more t fs f h
    ∙ ap (λ vs. vs ++ f.value ∷ []) (said_none d t (values_of t fs) k) in
    subst (λ vs. SaysAt d t vs (Some s)) (sym one) said

none_so : {A : Type 0} (o : Option A) → is_some o ≡ false → o ≡ None
none_so None e = refl
none_so (Some x) e = absurd cc

record Says (d : ℕ) (s : Extensions) : Type 0 where
  history : SaysAt d ExpansionHistory (values_of ExpansionHistory s.fields) (history_said s.history)
  latest : SaysAt d LatestDelivery (values_of LatestDelivery s.fields) (latest_said s.latest)
  prohibited : SaysAt d ExpansionProhibited (values_of ExpansionProhibited s.fields) (prohibited_said s.prohibited)

says_more : (k : Topic) (d : ℕ) (s : Extensions) (f : ExtFields) (said : Said) → topic_of f.kind ≡ k
    → is_held k (held_of s) ≡ false → IsSaidAt d k f.value said → Says d s
    → Says d (with_said said (record s { fields = s.fields ++ f ∷ [] }))
says_more ExpansionHistory d s f (History xs) is first by h = record {
  history = says_first d ExpansionHistory s.fields f (History xs) (ap (is_topic ExpansionHistory) is)
      (subst (λ o. SaysAt d ExpansionHistory (values_of ExpansionHistory s.fields) (history_said o))
      (none_so s.history first) h.history) by;
  latest = says_same d LatestDelivery s.fields f (latest_said s.latest) (ap (is_topic LatestDelivery) is) h.latest;
  prohibited = says_same d ExpansionProhibited s.fields f (prohibited_said s.prohibited)
      (ap (is_topic ExpansionProhibited) is) h.prohibited;
}
says_more LatestDelivery d s f (Latest m) is first by h = record {
  history = says_same d ExpansionHistory s.fields f (history_said s.history)
      (ap (is_topic ExpansionHistory) is) h.history;
  latest = says_first d LatestDelivery s.fields f (Latest m) (ap (is_topic LatestDelivery) is)
      (subst (λ o. SaysAt d LatestDelivery (values_of LatestDelivery s.fields) (latest_said o))
      (none_so s.latest first) h.latest) by;
  prohibited = says_same d ExpansionProhibited s.fields f (prohibited_said s.prohibited)
      (ap (is_topic ExpansionProhibited) is) h.prohibited;
}
says_more ExpansionProhibited d s f (Prohibited b) is first by h = record {
  history = says_same d ExpansionHistory s.fields f (history_said s.history)
      (ap (is_topic ExpansionHistory) is) h.history;
  latest = says_same d LatestDelivery s.fields f (latest_said s.latest) (ap (is_topic LatestDelivery) is) h.latest;
  prohibited = says_first d ExpansionProhibited s.fields f (Prohibited b) (ap (is_topic ExpansionProhibited) is)
      (subst (λ o. SaysAt d ExpansionProhibited (values_of ExpansionProhibited s.fields) (prohibited_said o))
      (none_so s.prohibited first) h.prohibited) by;
}
says_more Other d s f Unread is first by h = record {
  history = says_same d ExpansionHistory s.fields f (history_said s.history)
      (ap (is_topic ExpansionHistory) is) h.history;
  latest = says_same d LatestDelivery s.fields f (latest_said s.latest) (ap (is_topic LatestDelivery) is) h.latest;
  prohibited = says_same d ExpansionProhibited s.fields f (prohibited_said s.prohibited)
      (ap (is_topic ExpansionProhibited) is) h.prohibited;
}
says_more ExpansionHistory d s f (Latest m) is first by h = absurd by.spelled
says_more ExpansionHistory d s f (Prohibited b) is first by h = absurd by.spelled
says_more ExpansionHistory d s f Unread is first by h = absurd by.spelled
says_more LatestDelivery d s f (History xs) is first by h = absurd by.spelled
says_more LatestDelivery d s f (Prohibited b) is first by h = absurd by.spelled
says_more LatestDelivery d s f Unread is first by h = absurd by.spelled
says_more ExpansionProhibited d s f (History xs) is first by h = absurd by.spelled
says_more ExpansionProhibited d s f (Latest m) is first by h = absurd by.spelled
says_more ExpansionProhibited d s f Unread is first by h = absurd by.spelled
says_more Other d s f (History xs) is first by h = absurd by.spelled
says_more Other d s f (Latest m) is first by h = absurd by.spelled
says_more Other d s f (Prohibited b) is first by h = absurd by.spelled

record ToldAt (depth : ℕ) (s : Extensions) : Type 0 where
  fields : Each IsExtField s.fields
  kept : Each (KeepsExtField depth) s.fields
  says : Says (depth + 2) s

fields_of_said : (s : Said) (e : Extensions) → e.fields ≡ (with_said s e).fields
fields_of_said (History xs) e = refl
fields_of_said (Latest m) e = refl
fields_of_said (Prohibited b) e = refl
fields_of_said Unread e = refl

told_kept : (depth : ℕ) → depth + 2 ≤ 16 → KeepsAt MakesExtension (ToldAt depth) depth
told_kept depth d s t tag content octets stands m h =
    let x = m.puts.value in
    let f = field_is (held_of s) depth tag.constructed content x m.puts.value_spelled in
    let said = field_said (held_of s) depth tag.constructed content x m.puts.value_spelled d in
    let more : Extensions = record s { fields = s.fields ++ x.field ∷ [] } in
    subst (ToldAt depth) (sym m.puts.after_is) (record {
      fields = subst (Each IsExtField) (fields_of_said x.said more)
          (each_more IsExtField s.fields x.field h.fields f.field);
      kept = subst (Each (KeepsExtField depth)) (fields_of_said x.said more)
          (each_more (KeepsExtField depth) s.fields x.field h.kept
          (record { tag = said.tag; content = said.content; stands = said.stands }));
      says = says_more (topic_of x.field.kind) (depth + 2) s x.field x.said refl f.first said h.says;
    })

pub extensions_kept : ReadEnvelopeExtensionsAreKept
extensions_kept depth c content s h d =
    let k = spelled_kept MakesExtension (ToldAt (depth + 1)) depth
    (told_kept (depth + 1) (omega arith)) no_extensions s content h.spelled
    (record { fields = tt; kept = tt; says = record { history = tt; latest = tt; prohibited = tt } }) in
    let level : depth + 1 + 2 ≡ depth + 3 = omega arith in
    let says = subst (λ n. Says n s) level k.says in
    record {
      fields = k.fields;
      kept = k.kept;
      history = says.history;
      latest = says.latest;
      prohibited =
          says.prohibited;
    }
