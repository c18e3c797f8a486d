-- What is answered has this text form, what has it is answered, and no text form goes on at the octet at fault.
use Rattle.std.proofs.Common.{Ok, Err, sym, ap, ◌∙◌}
use Rattle.mta_name_text.specs.Made.{pattern_of_text}
use Rattle.mta_name_text.proofs.MadeLaws.{pattern_found, pattern_read, pattern_fault, only_read, fault_read_as}
use Rattle.mta_name_text.proofs.MadeLaws.{pattern_fits}
use Rattle.mta_name_text.proofs.reading.pattern_from_text.Goals as goal

pub from_parts-requires : goal.from_parts-requires
from_parts-requires c = pattern_fits c.args.text.now c.in-Ok.values
    (pattern_found c.args.text.now c.in-Ok.values c.in-Ok.ensures)

pub returns-in-Ok-clause-found : goal.returns-in-Ok-clause-found
returns-in-Ok-clause-found c = pattern_found c.args.text.now c.from_parts.result
    (c.in-Ok.ensures ∙ ap (λ x. Ok x) (sym c.from_parts.ensures))

pub returns-in-Ok-clause-only : goal.returns-in-Ok-clause-only
returns-in-Ok-clause-only c = λ n h. c.from_parts.ensures
    ∙ only_read (pattern_of_text c.args.text.now) (Ok c.in-Ok.values) n c.in-Ok.ensures
    (pattern_read c.args.text.now n h)

pub returns-in-Err-clause-only : goal.returns-in-Err-clause-only
returns-in-Err-clause-only c = λ n h. only_read (pattern_of_text c.args.text.now)
    (Err c.in-Err.fault) n c.in-Err.ensures (pattern_read c.args.text.now n h)

pub returns-in-Err-clause-fault : goal.returns-in-Err-clause-fault
returns-in-Err-clause-fault c =
    λ at e. pattern_fault c.args.text.now at
    (fault_read_as (pattern_of_text c.args.text.now) (Err c.in-Err.fault) at c.in-Err.ensures e)
