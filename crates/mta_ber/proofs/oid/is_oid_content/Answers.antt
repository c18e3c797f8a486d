use Rattle.mta_ber.proofs.OidLaws.{is_oid_is}
use Rattle.mta_ber.proofs.oid.is_oid_content.Goals as goal

pub returns-clause-spelled : goal.returns-clause-spelled
returns-clause-spelled c = is_oid_is c.args.octets.now c.ends_low.result c.ends_low.ensures
