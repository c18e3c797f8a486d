-- What is answered has this text form, what has it is answered, and no text form goes on at the octet at fault.
use Rattle.std.proofs.Common.{Ok, Err, sym, ap, ◌∙◌}
use Rattle.mta_name_text.specs.Made.{name_of_text}
use Rattle.mta_name_text.proofs.MadeLaws.{name_found, name_read, name_fault, only_read, fault_read_as}
use Rattle.mta_name_text.proofs.NameFits.{name_fits}
use Rattle.mta_name_text.proofs.reading.name_from_text.Goals as goal

pub finished-requires : goal.finished-requires
finished-requires c = name_fits c.args.text.now c.in-Ok.draft (name_found c.args.text.now c.in-Ok.draft c.in-Ok.ensures)

pub returns-in_ok-name-in-Ok-clause-found : goal.returns-in_ok-name-in-Ok-clause-found
returns-in_ok-name-in-Ok-clause-found c =
    name_found c.args.text.now c.in_ok-name-in-Ok.name
    (c.in-Ok.ensures ∙ ap (λ x. Ok x) (sym c.in_ok-name-in-Ok.ensures))

pub returns-in_ok-name-in-Ok-clause-only : goal.returns-in_ok-name-in-Ok-clause-only
returns-in_ok-name-in-Ok-clause-only c = λ n h. c.in_ok-name-in-Ok.ensures
    ∙ only_read (name_of_text c.args.text.now) (Ok c.in-Ok.draft) n c.in-Ok.ensures (name_read c.args.text.now n h)

pub returns-in-Err-clause-only : goal.returns-in-Err-clause-only
returns-in-Err-clause-only c = λ n h. only_read (name_of_text c.args.text.now) (Err c.in-Err.fault) n c.in-Err.ensures
    (name_read c.args.text.now n h)

pub returns-in-Err-clause-fault : goal.returns-in-Err-clause-fault
returns-in-Err-clause-fault c =
    λ at e. name_fault c.args.text.now at
    (fault_read_as (name_of_text c.args.text.now) (Err c.in-Err.fault) at c.in-Err.ensures e)
