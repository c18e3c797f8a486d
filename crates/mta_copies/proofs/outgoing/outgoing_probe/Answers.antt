use Rattle.std.proofs.Common.{◌≡◌, ap, ◌∙◌}
use Rattle.mta_envelope.specs.declared.envelope.EnvelopeFields.{EnvelopeFields}
use Rattle.mta_envelope.specs.Messages.{canonical_probe}
use Rattle.mta_procedures.specs.Copies.{outgoing_probe}
use Rattle.mta_procedures.specs.Situations.{Situation, situation}
use Rattle.mta_copies.proofs.Copied.{if_ok_so}
use Rattle.mta_copies.proofs.Wholes.{probe_is}
use Rattle.mta_copies.proofs.outgoing.outgoing_probe.Goals as goal

pub returns : goal.returns
returns c =
    let s : Situation = situation c.args.tables.now c.args.arrival c.args.moment in
    let e : EnvelopeFields = c.args.probe.now.envelope in
    let whole = ap (λ (v : EnvelopeFields). canonical_probe v) c.in_ok-envelope.ensures
    ∙ probe_is s e c.args.chosen.now in
    if_ok_so c.probe_octets.result (λ o. o ≡ canonical_probe c.in_ok-envelope.envelope)
    (λ o. o ≡ outgoing_probe s e c.args.chosen.now) (λ o is. is ∙ whole) c.probe_octets.ensures
