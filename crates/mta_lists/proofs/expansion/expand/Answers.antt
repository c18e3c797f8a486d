use Rattle.std.proofs.Common.{◌≡◌, ◌-◌, Option, Some, sym, ap, subst, ◌∙◌}
use Rattle.std.specs.Prelude.{slice_get}
use Rattle.std.specs.Option.{option_map}
use Rattle.mta_envelope_recipient.specs.declared.recipient.RecipientFields.{RecipientFields}
use Rattle.mta_envelope_recipient.specs.Recipients.{IsRecipient}
use Rattle.mta_envelope.specs.declared.envelope.EnvelopeFields.{EnvelopeFields}
use Rattle.mta_envelope.specs.Messages.{MessageValue, message_value}
use Rattle.mta_tables.specs.declared.entry.MailList.{MailList}
use Rattle.mta_procedures.specs.Members.{members_copy}
use Rattle.mta_procedures.specs.Situations.{Situation, situation}
use Rattle.mta_rules.proofs.ChosenVerdicts.{chosen_is}
use Rattle.mta_lists.proofs.Chosen.{if_ok_so, list_at, list_is, few_members, writable}
use Rattle.mta_lists.proofs.expansion.expand.Goals as goal

pub copy_for-requires-clause-list : goal.copy_for-requires-clause-list
copy_for-requires-clause-list c =
    let l : MailList = c.index-lists-list.result in
    let at = list_at c.args.tables.now c.lists-lists.result.now c.args.list l c.lists-lists.ensures
    c.requires.list c.index-lists-list.is in
    writable c.text-text.result.now c.args.tables.now c.args.list l c.text-text.ensures.read at

pub copy_for-requires-clause-few : goal.copy_for-requires-clause-few
copy_for-requires-clause-few c =
    let l : MailList = c.index-lists-list.result in
    let at = list_at c.args.tables.now c.lists-lists.result.now c.args.list l c.lists-lists.ensures
    c.requires.list c.index-lists-list.is in
    few_members c.args.tables.now c.args.list l c.are_whole.ensures at

pub copy_for-requires-clause-recipient : goal.copy_for-requires-clause-recipient
copy_for-requires-clause-recipient c =
    subst IsRecipient (sym c.fields-who.ensures.exact) c.fields-who.ensures.recipient

pub returns : goal.returns
returns c =
    let s : Situation = situation c.args.tables.now c.args.arrival c.args.moment in
    let m : MessageValue = message_value c.args.message.now in
    let l : MailList = c.index-lists-list.result in
    let who : RecipientFields = c.fields-who.result.now in
    let at = list_at c.args.tables.now c.lists-lists.result.now c.args.list l c.lists-lists.ensures
    c.requires.list c.index-lists-list.is in
    let copy : MailList → RecipientFields → Option MessageValue = λ x y. members_copy s x m y in
    let same = λ (r : RecipientFields)
    (h : slice_get c.args.message.now.envelope.recipients (c.args.recipient - 1) ≡ Some r).
    chosen_is c.as_slice-recipients.result.now c.args.message.now.envelope.recipients (c.args.recipient - 1)
    c.index-recipients-recipient.result who r
    (c.as_slice-recipients.ensures ∙ ap (λ (e : EnvelopeFields). e.recipients) c.fields.ensures.exact)
    c.index-recipients-recipient.is c.fields-who.ensures.exact h in
    if_ok_so c.copy_for.result (λ made. option_map message_value made ≡ copy l who)
    (λ made. (x : MailList) (r : RecipientFields) → slice_get c.args.tables.now.lists c.args.list ≡ Some x
    → slice_get c.args.message.now.envelope.recipients (c.args.recipient - 1) ≡ Some r
    → option_map message_value made ≡ copy x r)
    (λ made e x r h k. e ∙ ap (λ a. copy a who) (list_is (slice_get c.args.tables.now.lists c.args.list) l x at h)
    ∙ ap (λ a. copy x a) (same r k))
    c.copy_for.ensures
