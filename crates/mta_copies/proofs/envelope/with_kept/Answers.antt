use Rattle.mta_copies.proofs.Envelopes.{kept_parts}
use Rattle.mta_copies.proofs.envelope.with_kept.Goals as goal

pub returns : goal.returns
returns c =
    kept_parts c.args.fields.now c.args.kept c.args.recipients c.args.trace c.args.extensions c.args.history
    c.requires
