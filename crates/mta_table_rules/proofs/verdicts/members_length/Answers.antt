use Rattle.std.proofs.Common.{length, ap, arith}
use Rattle.mta_envelope.specs.declared.envelope.EnvelopeFields.{EnvelopeFields}
use Rattle.mta_envelope.specs.Messages.{message_value}
use Rattle.mta_tables.specs.declared.hop.Hop.TheVariants as Hops
use Rattle.mta_rules.proofs.HopPlaces.{hop_is_of}
use Rattle.mta_table_rules.proofs.Counts.{full_history, full_trace}
use Rattle.mta_table_rules.proofs.verdicts.members_length.Goals as goal

pub returns-then-len-ge512 : goal.returns-then-len-ge512
returns-then-len-ge512 c =
    let same = ap (λ (e : EnvelopeFields). length e.trace) c.fields-envelope.ensures.exact in
    full_trace c.args.tables.now c.args.arrival (message_value c.args.message.now) c.args.who.now 0
    (omega (arith, same, c.len.ensures, c.if-len-ge512.true))

pub returns-then-len-ge512-2 : goal.returns-then-len-ge512-2
returns-then-len-ge512-2 c =
    let same = ap (λ (e : EnvelopeFields). length e.history) c.fields-envelope.ensures.exact in
    full_history c.args.tables.now c.args.arrival (message_value c.args.message.now) c.args.who.now 0
    (omega (arith, same, c.len-2.ensures, c.if-len-ge512-2.true))

pub copy_length-requires-clause-place : goal.copy_length-requires-clause-place
copy_length-requires-clause-place c =
    hop_is_of c.args.tables.now c.args.who.now.name (Hops.List c.in-List.list) c.in-List.ensures.found
