use Rattle.std.proofs.Common.{Option, ap, ◌∙◌}
use Rattle.std.specs.Option.{option_map_or}
use Rattle.mta_ber.specs.Lengths.{octet_length}
use Rattle.mta_envelope.specs.Messages.{MessageValue, message_value}
use Rattle.mta_procedures.specs.Members.{message_octets}
use Rattle.mta_table_rules.proofs.Counts.{at_list}
use Rattle.mta_table_rules.proofs.Numbered.{numbered_at, some_at}
use Rattle.mta_table_rules.proofs.verdicts.copy_length.Goals as goal

pub returns : goal.returns
returns c =
    let t = c.args.tables.now in
    let m : MessageValue = message_value c.args.message.now in
    let l = some_at t.lists c.args.list c.requires.place in
    let chosen = numbered_at m.envelope.recipients c.args.recipient c.args.who.now c.requires.who in
    at_list t c.args.arrival m c.args.who.now c.length_of.result c.args.list l.0 c.requires.list l.1
    (c.length_of.ensures
    ∙ ap (λ (o : Option MessageValue). option_map_or (λ x. octet_length (message_octets x)) o 0)
    (c.in_ok-copy.ensures l.0 c.args.who.now l.1 chosen.at))
