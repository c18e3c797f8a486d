-- The texts are not too long, so they are read one behind another.
use Rattle.std.proofs.Common.{List, Ok, subst}
use Rattle.mta_tables.specs.Tables.{TablesValue}
use Rattle.mta_rehearse_run.specs.Network.{network_from, network_of, AddsRead}
use Rattle.mta_rehearse_run.proofs.LongTexts.{read_short}
use Rattle.mta_rehearse_run.proofs.Texts.{has_bad, has_read}
use Rattle.mta_rehearse_run.proofs.network.network_in.Goals as goal

pub returns-in-Ok-clause-read : goal.returns-in-Ok-clause-read
returns-in-Ok-clause-read c =
    let octets = c.args.octets.now in
    let new = c.read_from.new.agents in
    has_read (network_from 64 0 octets) (network_of octets) new c.in-Ok.field-0 (read_short octets c.requires)
    (subst (λ (xs : List TablesValue). AddsRead (network_from 64 0 octets) xs new (Ok c.in-Ok.field-0))
    c.new-agents.ensures c.in-Ok.ensures.read)

pub returns-in-Err-clause-read : goal.returns-in-Err-clause-read
returns-in-Err-clause-read c =
    let octets = c.args.octets.now in
    has_bad (network_from 64 0 octets) (network_of octets) c.new-agents.result c.read_from.new.agents c.in-Err.stop
    (read_short octets c.requires) c.in-Err.ensures.read
