use Rattle.std.proofs.Common.{◌≡◌, ℕ, List, length, ap, ◌∙◌}
use Rattle.mta_envelope.specs.declared.envelope.EnvelopeFields.{EnvelopeFields}
use Rattle.mta_envelope.specs.Messages.{MessageValue, message_value}
use Rattle.mta_procedures.specs.Copies.{outgoing_envelope}
use Rattle.mta_procedures.specs.Heads.{message_head, outgoing_head}
use Rattle.mta_procedures.specs.Situations.{Situation, situation}
use Rattle.mta_copies.proofs.Copied.{if_ok_so}
use Rattle.mta_copies.proofs.Wholes.{head_is}
use Rattle.mta_copies.proofs.outgoing.outgoing_head.Goals as goal

pub returns : goal.returns
returns c =
    let s : Situation = situation c.args.tables.now c.args.arrival c.args.moment in
    let m : MessageValue = message_value c.args.message.now in
    let copy : EnvelopeFields = outgoing_envelope s m.envelope c.args.chosen.now in
    let octets : List ℕ = c.as_slice.result.now in
    let whole = ap (λ (e : EnvelopeFields). message_head e (length octets)) c.in_ok-envelope.ensures
    ∙ ap (λ (o : List ℕ). message_head copy (length o)) c.as_slice.ensures
    ∙ head_is s m c.args.chosen.now in
    if_ok_so c.message_head.result (λ o. o ≡ message_head c.in_ok-envelope.envelope (length octets))
    (λ o. o ≡ outgoing_head s m c.args.chosen.now) (λ o is. is ∙ whole) c.message_head.ensures
