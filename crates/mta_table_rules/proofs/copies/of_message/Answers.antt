use Rattle.std.proofs.Common.{ap, ◌∙◌}
use Rattle.mta_envelope.specs.Messages.{MessageValue, message_value}
use Rattle.mta_procedures.specs.Heads.{outgoing_head}
use Rattle.mta_procedures.specs.Situations.{situation}
use Rattle.mta_table_rules.proofs.Copied.{copy_made, few_content, few_octets}
use Rattle.mta_table_rules.proofs.copies.of_message.Goals as goal

pub content_of-requires-clause-few : goal.content_of-requires-clause-few
content_of-requires-clause-few c =
    few_content c.args.tables.now (message_value c.args.message.now) c.args.item.now.arrival c.args.recipients.now
    c.args.moment c.requires.copy

pub new-requires-clause-fits : goal.new-requires-clause-fits
new-requires-clause-fits c =
    let m : MessageValue = message_value c.args.message.now in
    let rest = c.in_ok-octets.field-0 in
    few_octets c.args.tables.now m c.args.item.now.arrival c.args.recipients.now c.in_ok-head.head rest.octets.value
    c.args.moment rest.from rest.to c.requires.copy
    (c.in_ok-head.ensures
    ∙ ap (λ n. outgoing_head (situation c.args.tables.now n c.args.moment) m c.args.recipients.now)
    c.arrival-arrival.ensures)
    c.in_ok-octets.ensures

pub returns : goal.returns
returns c =
    let m : MessageValue = message_value c.args.message.now in
    let rest = c.in_ok-octets.field-0 in
    c.new.ensures
    ∙ copy_made c.args.tables.now m c.args.item.now.arrival c.args.recipients.now c.in_ok-head.head
    rest.octets.value c.args.moment c.args.activity rest.from rest.to
    (c.in_ok-head.ensures
    ∙ ap (λ n. outgoing_head (situation c.args.tables.now n c.args.moment) m c.args.recipients.now)
    c.arrival-arrival.ensures)
    c.in_ok-octets.ensures
