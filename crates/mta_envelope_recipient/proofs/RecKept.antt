-- What was read of a recipient stands in the level of its place.
use Rattle.std.proofs.Common.{◌≡◌, ℕ, ◌+◌, ◌≤◌, Bool, List, [], ◌∷◌, sym, ap, subst, arith}
use Rattle.std.specs.Prelude.{IfSome, true}
use Rattle.mta_ber.specs.declared.tag.Tag.{Tag}
use Rattle.mta_ber.specs.Parts.{is_tag}
use Rattle.mta_ber.specs.Spelling.{Stands}
use Rattle.mta_names.specs.Laws.{IsRawAt, KeepsName}
use Rattle.mta_names.specs.Strings.{AddsItem}
use Rattle.mta_names.specs.Values.{Each, IsName}
use Rattle.mta_names.proofs.Kept.{KeepsAt, spelled_kept, name_kept}
use Rattle.mta_names.proofs.NameLaws.{name_is}
use Rattle.mta_names.proofs.Tools.{each_more}
use Rattle.mta_fields.specs.Laws.{KeepsExtField}
use Rattle.mta_envelope_common.proofs.Kept.{AreKeptFields, ext_list_kept, fields_or_none_kept}
use Rattle.mta_envelope_recipient.specs.declared.recipient.RecipientFields.{RecipientFields}
use Rattle.mta_envelope_recipient.specs.declared.parts.RecipientPart.{RecipientPart}
use Rattle.mta_envelope_recipient.specs.declared.parts.RecipientPart.TheVariants.{Addressee, Number, Indicators}
use Rattle.mta_envelope_recipient.specs.declared.parts.RecipientPart.TheVariants.{Conversion, Extensions}
use Rattle.mta_envelope_recipient.specs.declared.parts.RecipientParts.{RecipientParts}
use Rattle.mta_envelope_recipient.specs.Laws.{KeepsRecipient, IsWholeRecipient, ReadRecipientsAreKept}
use Rattle.mta_envelope_recipient.specs.Lists.{is_set, SpellsItem, SpellsRecipients}
use Rattle.mta_envelope_recipient.specs.Recipients.{is_recipient_tag, no_recipient, MakesRecipientPart, MakesRecipient}
use Rattle.mta_envelope_recipient.specs.Recipients.{SpellsRecipient}
use Rattle.mta_envelope_recipient.proofs.Again.{IsKeptRecipient}
use Rattle.mta_envelope_recipient.proofs.RecipientLaws.{recipient_is}

-- ---- recipients

record Holds (depth : ℕ) (s : RecipientParts) : Type 0 where
  name : IfSome s.name (λ n. KeepsName depth n × IsName n)
  conversion : IfSome s.conversion (IsRawAt depth 2 2)
  extensions : IfSome s.extensions (AreKeptFields (depth + 1))

part_kept : (k : RecipientPart) (depth : ℕ) (s t : RecipientParts) (tag : Tag) (content octets : List ℕ)
    → depth + 3 ≤ 16 → is_recipient_tag k tag ≡ true → Stands depth tag content octets
    → MakesRecipientPart k depth s tag content octets t
    → Holds depth s → Holds depth t
part_kept Addressee depth s t tag content octets d is stands m h =
    subst (Holds depth) (sym m.1.after_is)
    (record {
      name = (
        name_kept depth tag.constructed content m.1.value m.1.value_spelled,
        name_is depth tag.constructed content m.1.value m.1.value_spelled,
      );
      conversion = h.conversion;
      extensions =
          h.extensions;
    })
part_kept Number depth s t tag content octets d is stands m h =
    subst (Holds depth) (sym m.1.after_is)
    (record { name = h.name; conversion = h.conversion; extensions = h.extensions })
part_kept Indicators depth s t tag content octets d is stands m h =
    subst (Holds depth) (sym m.1.after_is)
    (record { name = h.name; conversion = h.conversion; extensions = h.extensions })
part_kept Conversion depth s t tag content octets d is stands m h =
    subst (Holds depth) (sym m.1.after_is)
    (record {
      name = h.name;
      conversion =
          subst (IsRawAt depth 2 2) (sym m.1.value_spelled)
          (record { tag = tag; content = content; is_tag_of = is; stands = stands });
      extensions = h.extensions;
    })
part_kept Extensions depth s t tag content octets d is stands m h =
    subst (Holds depth) (sym m.1.after_is)
    (record {
      name = h.name;
      conversion = h.conversion;
      extensions =
          ext_list_kept depth tag.constructed content m.1.value m.1.value_spelled d;
    })

kept : (depth : ℕ) → depth + 3 ≤ 16 → KeepsAt MakesRecipient (Holds depth) depth
kept depth d s t tag content octets stands m h =
    part_kept m.part depth s t tag content octets d m.is_tag_of stands m.made h

pub each_first : {X : Type 0} (P Q : X → Type 0) (xs : List X) → Each (λ x. P x × Q x) xs → Each P xs
each_first P Q [] h = tt
each_first P Q (x ∷ xs) h = (h.0.0, each_first P Q xs h.1)

pub each_second : {X : Type 0} (P Q : X → Type 0) (xs : List X) → Each (λ x. P x × Q x) xs → Each Q xs
each_second P Q [] h = tt
each_second P Q (x ∷ xs) h = (h.0.1, each_second P Q xs h.1)

pub recipient_kept : ReadRecipientsAreKept
recipient_kept depth c content v h d =
    let k = spelled_kept MakesRecipient (Holds (depth + 1)) depth
    (kept (depth + 1) (omega arith)) no_recipient h.parts content h.spelled
    (record { name = tt; conversion = tt; extensions = tt }) in
    let name : KeepsName (depth + 1) v.name × IsName v.name =
    subst (λ o. IfSome o (λ n. KeepsName (depth + 1) n × IsName n)) h.name k.name in
    let conversion : IfSome v.conversion (IsRawAt (depth + 1) 2 2) =
    subst (λ o. IfSome o (IsRawAt (depth + 1) 2 2))
    (sym (ap (λ (x : RecipientFields). x.conversion) h.value)) k.conversion in
    let fields : AreKeptFields (depth + 1 + 1) v.extensions =
    subst (AreKeptFields (depth + 1 + 1)) (sym (ap (λ (x : RecipientFields). x.extensions) h.value))
    (fields_or_none_kept (depth + 1 + 1) h.parts.extensions k.extensions) in
    let level : depth + 1 + 1 ≡ depth + 2 = omega arith in (
      record {
        name = name.0;
        conversion = conversion;
        extensions =
            subst (λ n. Each (KeepsExtField n) v.extensions) level fields.kept;
      },
      record { recipient = recipient_is depth c content v h; name = name.1; extensions = fields.fields },
    )

-- ---- lists

recipient_more : (depth : ℕ) → depth + 5 ≤ 16
    → KeepsAt (AddsItem is_set SpellsItem) (Each (IsKeptRecipient depth)) depth
recipient_more depth d s t tag content octets stands m h =
    let k = recipient_kept depth tag content m.item m.spelled d in
    subst (Each (IsKeptRecipient depth)) (sym m.after_is) (each_more (IsKeptRecipient depth) s m.item h (k.1, k.0))

pub recipients_kept : (depth : ℕ) (c : Bool) (content : List ℕ) (vs : List RecipientFields)
    → SpellsRecipients depth c content vs → depth + 6 ≤ 16 → Each (IsKeptRecipient (depth + 1)) vs
recipients_kept depth c content vs h d =
    spelled_kept (AddsItem is_set SpellsItem) (Each (IsKeptRecipient (depth + 1))) depth
    (recipient_more (depth + 1) (omega arith)) [] vs content h.spelled tt
