-- A members' copy is a message, whose extensions say the history that it has.
use Rattle.std.proofs.Common.{◌≡◌, ℕ, suc, ◌+◌, ◌<◌, ◌≤◌, ◌^◌, Bool, true, false, cond, List, [], ◌∷◌, ◌++◌, length}
use Rattle.std.proofs.Common.{Option, Some, None, refl, sym, ◌∙◌, ap, subst, arith, length-append}
use Rattle.std.specs.List.{flat_map}
use Rattle.mta_ber.specs.Canon.{IsTag, constructed, primitive}
use Rattle.mta_ber.specs.Contents.{canon_utc}
use Rattle.mta_names.specs.Names.{canonical_name}
use Rattle.mta_ber.specs.Components.{IsComponent}
use Rattle.mta_names.specs.declared.attributes.Attributes.{Attributes}
use Rattle.mta_names.specs.Laws.{KeepsName}
use Rattle.mta_names.specs.Lists.{is_sequence}
use Rattle.mta_names.specs.Strings.{AddsItem}
use Rattle.mta_names.specs.Values.{Each, IsName}
use Rattle.mta_names.proofs.Again.{low_tag}
use Rattle.mta_names.proofs.Kept.{KeepsAt, spelled_kept}
use Rattle.mta_names.proofs.Rows.{short_inside, component, row_spelled, items_row, each_both, element_stands}
use Rattle.mta_names.proofs.Tools.{each_more}
use Rattle.mta_fields.specs.declared.expansion.ExpansionFields.{ExpansionFields}
use Rattle.mta_fields.specs.declared.extension.ExtFields.{ExtFields}
use Rattle.mta_fields.specs.Expansions.{canonical_expansion}
use Rattle.mta_fields.specs.ExtensionFields.{IsExtField}
use Rattle.mta_fields.specs.Laws.{IsWholeExpansion, KeepsExpansion, KeepsExtField, IsWholeTrace, KeepsTrace}
use Rattle.mta_fields.proofs.FieldAgain.{expansion_spelled}
use Rattle.mta_fields.proofs.Kept.{expansion_kept, expansion_whole}
use Rattle.mta_envelope_extensions.specs.declared.value.Said.{Said}
use Rattle.mta_envelope_extensions.specs.declared.value.Said.TheVariants.{History}
use Rattle.mta_envelope_extensions.specs.declared.value.Topic.{Topic}
use Rattle.mta_envelope_extensions.specs.declared.value.Topic.TheVariants.{ExpansionHistory, LatestDelivery}
use Rattle.mta_envelope_extensions.specs.declared.value.Topic.TheVariants.{ExpansionProhibited, Other}
use Rattle.mta_envelope_extensions.specs.Laws.{IsSaidAt, SaysAt, AreToldAt}
use Rattle.mta_envelope_extensions.specs.Told.{is_topic, values_of, history_said, latest_said, prohibited_said, Says}
use Rattle.mta_envelope_extensions.specs.Topics.{topic_of, SpellsItem, SpellsHistory}
use Rattle.mta_envelope_recipient.specs.declared.recipient.RecipientFields.{RecipientFields}
use Rattle.mta_envelope_recipient.specs.Laws.{IsWholeRecipient, KeepsRecipient}
use Rattle.mta_envelope.specs.declared.envelope.EnvelopeFields.{EnvelopeFields}
use Rattle.mta_envelope.specs.Envelopes.{told_history}
use Rattle.mta_envelope.specs.Laws.{IsWholeEnvelope, KeepsEnvelope, told_of}
use Rattle.mta_tables.specs.declared.entry.MailList.{MailList}
use Rattle.mta_procedures.specs.Laws.{IsExpandable}
use Rattle.mta_procedures.specs.Members.{expanded_history, expansion_of, history_field, history_octets}
use Rattle.mta_procedures.specs.Members.{is_history_field, members_envelope, members_from, with_history}
use Rattle.mta_procedures.specs.Situations.{Situation}
use Rattle.mta_procedures.specs.Traces.{own_trace}
use Rattle.mta_procedures.proofs.WholeLaws.{each_behind, one_more, own_whole}

-- ---- histories: each is an expansion, and keeps what it keeps in the level `depth`

pub record AreKept (depth : ℕ) (xs : List ExpansionFields) : Type 0 where
  pub expansions : Each IsWholeExpansion xs
  pub kept : Each (KeepsExpansion depth) xs

expansion_more : (depth : ℕ) → KeepsAt (AddsItem is_sequence SpellsItem) (AreKept depth) depth
expansion_more depth s t tag content octets stands m h =
    let v = m.item in
    subst (AreKept depth) (sym m.after_is) (record {
      expansions = each_more IsWholeExpansion s v h.expansions (expansion_whole depth tag content v m.spelled);
      kept = each_more (KeepsExpansion depth) s v h.kept (expansion_kept depth tag content v m.spelled);
    })

pub history_kept : (depth : ℕ) (c : Bool) (content : List ℕ) (xs : List ExpansionFields)
    → SpellsHistory depth c content xs → AreKept (depth + 1) xs
history_kept depth c content xs h = spelled_kept (AddsItem is_sequence SpellsItem) (AreKept (depth + 1)) depth
    (expansion_more (depth + 1)) [] xs content h.spelled (record { expansions = tt; kept = tt })

abbrev expansion_content : ExpansionFields → List ℕ
expansion_content v = canonical_name (constructed 1 0) v.name ++ canon_utc (primitive 0 23) v.moment

pub sequence_low : IsTag (constructed 0 16)
sequence_low = low_tag 0 16 true (omega arith) (omega arith)

expansion_item : (depth : ℕ) → depth + 5 ≤ 16 → (vs : List ExpansionFields) (v : ExpansionFields) → IsWholeExpansion v
    × KeepsExpansion depth v → length (canonical_expansion v) < 2 ^ 64
    → IsComponent (AddsItem is_sequence SpellsItem) depth vs (canonical_expansion v) (vs ++ v ∷ [])
unfolding canonical_expansion
expansion_item depth d vs v h short =
    component (AddsItem is_sequence SpellsItem) depth vs (vs ++ v ∷ []) (constructed 0 16)
    (expansion_content v) sequence_low (omega arith) short
    (record {
      is_item_tag = refl;
      item = v;
      spelled =
          expansion_spelled depth v h.0 h.1 d (short_inside (constructed 0 16) (expansion_content v) short);
      after_is =
          refl;
    })

history_spelled : (depth : ℕ) (xs : List ExpansionFields) → AreKept (depth + 1) xs → 1 ≤ length xs → length xs ≤ 512
    → depth + 6 ≤ 16 → length (flat_map canonical_expansion xs) < 2 ^ 64
    → SpellsHistory depth true (flat_map canonical_expansion xs) xs
history_spelled depth xs h some few d short =
    let both = each_both IsWholeExpansion (KeepsExpansion (depth + 1)) xs h.expansions h.kept in
    record {
      is_constructed = refl;
      spelled = row_spelled (AddsItem is_sequence SpellsItem) depth [] xs (flat_map canonical_expansion xs)
          (items_row (AddsItem is_sequence SpellsItem) (depth + 1) (λ ys. ys) canonical_expansion
          (λ v. IsWholeExpansion v × KeepsExpansion (depth + 1) v)
          (expansion_item (depth + 1) (omega arith)) [] xs both short);
      at_least = some;
      at_most = few;
    }

pub value_says : (depth : ℕ) (xs : List ExpansionFields) → AreKept (depth + 1) xs → 1 ≤ length xs → length xs ≤ 512
    → depth + 6 ≤ 16 → length (flat_map canonical_expansion xs) < 2 ^ 64
    → IsSaidAt depth ExpansionHistory (history_octets xs) (History xs)
unfolding history_octets
value_says depth xs h some few d short = record {
  tag = constructed 0 16;
  content = flat_map canonical_expansion xs;
  stands = element_stands depth (constructed 0 16) (flat_map canonical_expansion xs) sequence_low short (omega arith);
  spelled = (refl, history_spelled depth xs h some few d short);
}

-- the history that was there
pub kept_before : (vals : List (List ℕ)) (h : List ExpansionFields)
    → SaysAt 6 ExpansionHistory vals (history_said (told_history h)) → AreKept 7 h
kept_before vals [] s = record { expansions = tt; kept = tt }
kept_before [] (x ∷ xs) s = absurd s
kept_before (v ∷ []) (x ∷ xs) s = history_kept 6 s.tag.constructed s.content (x ∷ xs) s.spelled.1
kept_before (v ∷ w ∷ vs) (x ∷ xs) s = absurd s

pub told_more : (h : List ExpansionFields) (x : ExpansionFields) → told_history (h ++ x ∷ []) ≡ Some (h ++ x ∷ [])
told_more [] x = refl
told_more (y ∷ ys) x = refl

-- ---- fields

-- a topic that is that of a history
is_history : (t u : Topic) → is_topic ExpansionHistory u ≡ true → is_topic t ExpansionHistory ≡ false
    → is_topic t u ≡ false
is_history t ExpansionHistory e h = h
is_history t any1 e h = absurd cc

skipped : (b : Bool) (v : List ℕ) (vs : List (List ℕ)) → b ≡ false → cond b (v ∷ vs) vs ≡ vs
skipped true v vs e = absurd cc
skipped false v vs e = refl

pub values_other : (t : Topic) (v : List ℕ) (fs : List ExtFields) → is_topic t ExpansionHistory ≡ false
    → values_of t (with_history v fs) ≡ values_of t fs
values_other t v [] e = skipped (is_topic t ExpansionHistory) v [] e
values_other t v (f ∷ fs) e = at (is_history_field f) refl (values_other t v fs e)
  where
    at : (b : Bool) → is_history_field f ≡ b → values_of t (with_history v fs) ≡ values_of t fs
        → values_of t (cond b (record f { value = v } ∷ fs) (f ∷ with_history v fs)) ≡ values_of t (f ∷ fs)
    at true is next = let no' = is_history t (topic_of f.kind) is e in
        skipped (is_topic t (topic_of f.kind)) v (values_of t fs) no'
        ∙ sym (skipped (is_topic t (topic_of f.kind)) f.value (values_of t fs) no')
    at false is next = ap (λ vs. cond (is_topic t (topic_of f.kind)) (f.value ∷ vs) vs) next

none_left : (vs : List (List ℕ)) (w : List ℕ) → length (w ∷ vs) ≤ 1 → vs ≡ []
none_left [] w h = refl
none_left (v ∷ vs) w h = absurd (omega arith)

pub values_history : (v : List ℕ) (fs : List ExtFields) → length (values_of ExpansionHistory fs) ≤ 1
    → values_of ExpansionHistory (with_history v fs) ≡ v ∷ []
values_history v [] h = refl
values_history v (f ∷ fs) h = at (is_history_field f) refl h (values_history v fs)
  where
    at : (b : Bool) → is_history_field f ≡ b
        → length (cond b (f.value ∷ values_of ExpansionHistory fs) (values_of ExpansionHistory fs)) ≤ 1
        → (length (values_of ExpansionHistory fs) ≤ 1 → values_of ExpansionHistory (with_history v fs) ≡ v ∷ [])
        → values_of ExpansionHistory (cond b (record f { value = v } ∷ fs) (f ∷ with_history v fs)) ≡ v ∷ []
    at true is h next = ap (λ t. cond t (v ∷ values_of ExpansionHistory fs) (values_of ExpansionHistory fs)) is
        ∙ ap (λ vs. v ∷ vs) (none_left (values_of ExpansionHistory fs) f.value h)
    at false is h next = ap (λ t. cond t (f.value ∷ values_of ExpansionHistory (with_history v fs))
        (values_of ExpansionHistory (with_history v fs))) is ∙ next h

each_with : (P : ExtFields → Type 0) (v : List ℕ) → P (history_field v)
    → ((f : ExtFields) → P f → P (record f { value = v })) → (fs : List ExtFields) → Each P fs
    → Each P (with_history v fs)
each_with P v new changed [] h = (new, tt)
each_with P v new changed (f ∷ fs) h = at (is_history_field f) (each_with P v new changed fs h.1)
  where
    at : (b : Bool) → Each P (with_history v fs) → Each P (cond b (record f { value = v } ∷ fs) (f ∷ with_history v fs))
    at true next = (changed f h.0, h.1)
    at false next = (h.0, next)

few_values : (t : Topic) (depth : ℕ) (vs : List (List ℕ)) (o : Option Said) → SaysAt depth t vs o → length vs ≤ 1
few_values t depth [] o h = omega arith
few_values t depth (v ∷ []) o h = omega arith
few_values t depth (v ∷ w ∷ vs) o h = absurd h

says_so : (t : Topic) (depth : ℕ) (vs : List (List ℕ)) (o : Option Said) → SaysAt depth t vs o → Says t vs o
says_so t depth [] None h = tt
says_so t depth [] (Some s) h = absurd h
says_so t depth (v ∷ []) None h = absurd h
says_so t depth (v ∷ []) (Some s) h =
    record { depth = depth; tag = h.tag; content = h.content; stands = h.stands; spelled = h.spelled }
says_so t depth (v ∷ w ∷ vs) o h = absurd h

-- ---- members

whole_members : (k : ℕ) (r : RecipientFields) (ms : List Attributes) → 1 ≤ k → k + length ms ≤ 32768
    → IsWholeRecipient r → Each IsName ms → Each IsWholeRecipient (members_from k r ms)
whole_members k r [] some few h names = tt
whole_members k r (m ∷ ms) some few h names = (
  record {
    recipient = record {
      some = some;
      small = omega arith;
      indicators = h.recipient.indicators;
      conversion =
          tt;
    };
    name = names.0;
    extensions = tt;
  },
  whole_members (k + 1) r ms (omega arith) (omega arith) h names.1,
)

kept_members : (k : ℕ) (r : RecipientFields) (ms : List Attributes) → Each (KeepsName 5) ms
    → Each (KeepsRecipient 4) (members_from k r ms)
kept_members k r [] h = tt
kept_members k r (m ∷ ms) h = (record { name = h.0; conversion = tt; extensions = tt }, kept_members (k + 1) r ms h.1)

pub length-members_from : (k : ℕ) (r : RecipientFields) (ms : List Attributes)
    → length (members_from k r ms) ≡ length ms
length-members_from k r [] = refl
length-members_from k r (m ∷ ms) = ap (λ n. suc n) (length-members_from (k + 1) r ms)

-- ---- the copy

told_so : (s : Situation) (l : MailList) (e : EnvelopeFields) (r : RecipientFields) (p : Option Bool)
    → IsExpandable s l e r → AreToldAt 3 (told_of e p) → AreToldAt 3 (told_of (members_envelope s l e r) p)
told_so s l e r p h t =
    let xs = expanded_history s l e in
    let x = expansion_of s l in
    let v = history_octets xs in
    let before = kept_before (values_of ExpansionHistory e.extensions) e.history t.history in
    let all : AreKept 7 xs = record {
      expansions = each_behind IsWholeExpansion e.history x before.expansions
          (record { name = h.name; moment = h.writable.moment });
      kept = each_behind (KeepsExpansion 7) e.history x before.kept h.name_kept;
    } in
    let more : length xs ≡ length e.history + 1 = length-append e.history (x ∷ []) in
    let short = h.short_history in
    let some : 1 ≤ length xs = omega arith in
    let few : length xs ≤ 512 = omega arith in
    let says = value_says 6 xs all some few (omega arith) h.counted in
    let told : SaysAt 6 ExpansionHistory (v ∷ []) (history_said (Some xs)) = says in
    let Told : Option (List ExpansionFields) → Type 0 = λ o. SaysAt 6 ExpansionHistory (v ∷ []) (history_said o) in
    let Held : List (List ℕ) → Type 0 = λ vs. SaysAt 6 ExpansionHistory vs (history_said (told_history xs)) in
    record {
      fields = each_with IsExtField v
          (record {
            kind = omega arith;
            value =
                record { depth = 6; tag = says.tag; content = says.content; stands = says.stands };
          })
          (λ f i. record {
            kind = i.kind;
            value =
                record { depth = 6; tag = says.tag; content = says.content; stands = says.stands };
          }) e.extensions
          t.fields;
      kept = each_with (KeepsExtField 4) v (record { tag = says.tag; content = says.content; stands = says.stands })
          (λ f i. record { tag = says.tag; content = says.content; stands = says.stands }) e.extensions t.kept;
      history = subst Held (sym (values_history v e.extensions (few_values ExpansionHistory 6 _ _ t.history)))
          (subst Told (sym (told_more e.history x)) told);
      latest = subst (λ vs. SaysAt 6 LatestDelivery vs (latest_said e.latest))
          (sym (values_other LatestDelivery v e.extensions refl)) t.latest;
      prohibited = subst (λ vs. SaysAt 6 ExpansionProhibited vs (prohibited_said p))
          (sym (values_other ExpansionProhibited v e.extensions refl)) t.prohibited;
    }

pub members_whole : (s : Situation) (l : MailList) (e : EnvelopeFields) (r : RecipientFields) → IsExpandable s l e r
    → IsWholeEnvelope e → KeepsEnvelope 2 e
    → IsWholeEnvelope (members_envelope s l e r) × KeepsEnvelope 2 (members_envelope s l e r)
members_whole s l e r x h k =
    let own = own_trace s None true in
    let count = length-members_from 1 r l.members in
    let told = told_so s l e r k.prohibition x k.told in (
      record {
        envelope = record {
          eits = h.envelope.eits;
          content_kind = h.envelope.content_kind;
          content_id = h.envelope.content_id;
          indicators = h.envelope.indicators;
          deferral = h.envelope.deferral;
          length_fits = h.envelope.length_fits;
          bilateral = h.envelope.bilateral;
          some_recipients = omega (arith, count, x.some_members);
          few_recipients = omega (arith, count, x.few_members);
          few_elements = one_more e.trace own x.short_trace;
          said = record {
            prohibition = k.prohibition;
            prohibited_is = k.prohibited_is;
            told = record {
              history = says_so ExpansionHistory 6 _ _ told.history;
              latest = says_so LatestDelivery 6 _ _ told.latest;
              prohibited = says_so ExpansionProhibited 6 _ _ told.prohibited;
            };
          };
        };
        originator = h.originator;
        id = h.id;
        recipients = whole_members 1 r l.members (omega arith) (omega (arith, x.few_members)) x.recipient x.members;
        trace = each_behind IsWholeTrace e.trace own h.trace (own_whole s None true x.writable tt);
      },
      record {
        originator = k.originator;
        eits = k.eits;
        bilateral = k.bilateral;
        recipients = kept_members 1 r l.members x.members_kept;
        trace = each_behind (KeepsTrace 4) e.trace own k.trace tt;
        prohibition = k.prohibition;
        prohibited_is = k.prohibited_is;
        told = told;
      },
    )
