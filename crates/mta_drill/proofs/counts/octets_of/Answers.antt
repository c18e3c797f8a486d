use Rattle.std.proofs.Common.{◌≡◌, rules, ap, ◌∙◌, length}
use Rattle.mta_drill_laws.specs.Messages.{content_of}
use Rattle.mta_drill_laws.proofs.Contents.{length_of}
use Rattle.mta_drill.proofs.counts.octets_of.Goals as goal

pub returns-then-branch-2-clause-some : goal.returns-then-branch-2-clause-some
returns-then-branch-2-clause-some c =
    let e : c.as_slice.result.now ≡ content_of c.args.message = search rules in
    (search rules, ap length e ∙ length_of c.args.message)
