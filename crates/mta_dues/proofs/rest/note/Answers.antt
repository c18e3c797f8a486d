use Rattle.std.proofs.Common.{refl}
use Rattle.mta_dues.specs.declared.index.Index.{Index}
use Rattle.mta_dues.proofs.Indexed.{kept}
use Rattle.mta_dues.proofs.Learnt.{span_found}
use Rattle.mta_dues.proofs.rest.note.Goals as goal

pub returns-in_err-call : goal.returns-in_err-call
returns-in_err-call c = λ format text items item is rests indexed.
    let old = c.learn.new.self in
    let new : Index = record { agenda = c.call.new.self; spans = old.spans; hand = old.hand; looked = old.looked } in
    kept format text items old new c.in_err-call.ensures.keeps refl refl refl
    (c.learn.ensures.indexed format text items item is
    (span_found format text item c.args.found.now.span rests.span) indexed)

pub returns-then-is_active : goal.returns-then-is_active
returns-then-is_active c = λ format text items item is rests indexed.
    let old = c.learn.new.self in
    let new : Index = record { agenda = c.call.new.self; spans = old.spans; hand = old.hand; looked = old.looked } in
    c.put_to_rest.ensures.indexed format text items item is rests.idle
    (kept format text items old new c.in_ok-call.ensures.keeps refl refl refl
    (c.learn.ensures.indexed format text items item is
    (span_found format text item c.args.found.now.span rests.span) indexed))

pub returns-else-is_active : goal.returns-else-is_active
returns-else-is_active c = λ format text items item is rests indexed.
    let old = c.learn.new.self in
    let new : Index = record { agenda = c.call.new.self; spans = old.spans; hand = old.hand; looked = old.looked } in
    kept format text items old new c.in_ok-call.ensures.keeps refl refl refl
    (c.learn.ensures.indexed format text items item is
    (span_found format text item c.args.found.now.span rests.span) indexed)
