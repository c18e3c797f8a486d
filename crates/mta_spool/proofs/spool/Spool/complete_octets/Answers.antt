use Rattle.std.proofs.Common.{ℕ, subst}
use Rattle.mta_records.specs.declared.step.Step.TheVariants as steps
use Rattle.mta_histories.specs.Classes.{complete}
use Rattle.mta_spool.specs.Receiving.{IsBad, IsNoApdu, Receives}
use Rattle.mta_spool.proofs.Pieces.{receives_along}
use Rattle.mta_spool.proofs.spool.Spool.complete_octets.Goals as goal

pub returns-clause-receives : goal.returns-clause-receives
returns-clause-receives g c =
    let m = c.step_moment-moment.ensures.moment in
    let piece = c.args.piece in
    let told = c.step_moment-moment.result in
    record {
      told = m.told;
      tells = m.tells;
      at = subst
          (λ (n : ℕ).
          Receives g.D.Disk.model
          (steps.Complete c.args.lane c.args.generation c.args.activity c.args.number piece n)
          (λ f.
          IsBad c.args.self.now.current c.args.lane c.args.generation
          (complete c.args.activity c.args.number piece) n (IsNoApdu c.args.number piece f))
          c.args.self.now c.complete_octets_at.new.self c.complete_octets_at.result)
          m.at
          (receives_along g.D.Disk.model
          (steps.Complete c.args.lane c.args.generation c.args.activity c.args.number piece told)
          (λ s f.
          IsBad s c.args.lane c.args.generation (complete c.args.activity c.args.number piece) told
          (IsNoApdu c.args.number piece f))
          c.args.self.now c.step_moment-moment.new.self c.complete_octets_at.new.self c.complete_octets_at.result
          c.step_moment-moment.ensures.rest c.complete_octets_at.ensures.receives);
    }
