use Rattle.mta_session.proofs.Little.{fits_little}
use Rattle.mta_session.proofs.machine.Machine.holds_little.Goals as goal

pub returns : goal.returns
returns c = fits_little c.args.self.now c.requires
