use Rattle.std.proofs.Common.{Ok, Err, sym}
use Rattle.std.proofs.lemmas.List.Sorted.{searched}
use Rattle.mta_lanes.proofs.Searching.{named_at, not_found}
use Rattle.mta_lanes.proofs.transfer.is_found.Goals as goal

pub returns-in-Ok : goal.returns-in-Ok
returns-in-Ok c =
    let xs = c.args.recipients.now in
    let found = searched xs c.args.recipient (Ok c.in-Ok.field-0) c.in-Ok.ensures.ok c.requires in
    sym (named_at xs c.in-Ok.field-0 c.args.recipient found.0 found.1)

pub returns-in-Err : goal.returns-in-Err
returns-in-Err c =
    let xs = c.args.recipients.now in
    let found = searched xs c.args.recipient (Err c.in-Err.field-0) c.in-Err.ensures.position c.requires in
    sym (not_found xs c.args.recipient c.in-Err.field-0 found.1 found.2)
