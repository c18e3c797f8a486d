use Rattle.std.proofs.Common.{◌≡◌, List, Some, ap, ◌∙◌, map}
use Rattle.mta_envelope_recipient.specs.declared.recipient.RecipientFields.{RecipientFields}
use Rattle.mta_envelope.specs.declared.envelope.EnvelopeFields.{EnvelopeFields}
use Rattle.mta_envelope.specs.Messages.{MessageValue, message_value}
use Rattle.mta_apdu.specs.Apdus.{ApduValue}
use Rattle.mta_state.specs.Parts.{made_items}
use Rattle.mta_machine.specs.Items.{numbered}
use Rattle.mta_machine.specs.Machine.{own_item}
use Rattle.mta_machine.specs.Rules.{expanded_for, expanded_to}
use Rattle.mta_table_rules.proofs.Expanded.{has_room, to_list}
use Rattle.mta_table_rules.proofs.Read.{if_ok_so}
use Rattle.mta_table_rules.proofs.expansion.expanded_for.Goals as goal

pub expanded_to-requires-clause-room : goal.expanded_to-requires-clause-room
expanded_to-requires-clause-room c =
    let who : RecipientFields = c.fields-who.result.now in
    let recipients = c.as_slice-recipients.ensures ∙ ap (λ (e : EnvelopeFields). e.recipients) c.fields.ensures.exact in
    let chosen = ap (λ (x : RecipientFields). Some x) c.fields-who.ensures.exact ∙ c.in-Some.ensures
    ∙ ap (λ (rs : List RecipientFields). numbered rs c.args.recipient) recipients in
    has_room c.requires.list.0 c.args.tables.now (message_value c.args.message.now) c.args.arrival c.args.recipient
    c.args.moment who c.in-List.place c.in-Some-list_of.list.now chosen c.requires.list.1 c.in-List.ensures.exact
    c.in-Some-list_of.ensures

pub returns : goal.returns
returns c =
    let t = c.args.tables.now in
    let m : MessageValue = message_value c.args.message.now in
    let who : RecipientFields = c.fields-who.result.now in
    let recipients = c.as_slice-recipients.ensures ∙ ap (λ (e : EnvelopeFields). e.recipients) c.fields.ensures.exact in
    let chosen = ap (λ (x : RecipientFields). Some x) c.fields-who.ensures.exact ∙ c.in-Some.ensures
    ∙ ap (λ (rs : List RecipientFields). numbered rs c.args.recipient) recipients in
    let o = numbered m.envelope.recipients c.args.recipient in
    let same = to_list t c.args.number c.args.arrival m o who c.in-List.place (Some c.in-Some-list_of.list.now)
    c.args.moment chosen c.in-List.ensures.exact c.in-Some-list_of.ensures in
    if_ok_so c.expanded_to.result
    (λ made. made_items made ≡ map (own_item c.args.moment)
    (expanded_to t c.args.number c.args.arrival m who (Some c.in-Some-list_of.list.now) c.args.moment))
    (λ made. made_items made ≡ map (own_item c.args.moment)
    (expanded_for t c.args.number c.args.arrival m o c.args.moment))
    (λ made e. e ∙ ap (λ (xs : List ApduValue). map (own_item c.args.moment) xs) same) c.expanded_to.ensures
