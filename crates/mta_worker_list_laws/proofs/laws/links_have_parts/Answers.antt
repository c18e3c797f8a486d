use Rattle.mta_worker_list_laws.proofs.Parts.{links_have_parts}
use Rattle.mta_worker_list_laws.proofs.laws.links_have_parts.Goals as goal

pub returns : goal.returns
returns g c = links_have_parts g.L.Link.model
