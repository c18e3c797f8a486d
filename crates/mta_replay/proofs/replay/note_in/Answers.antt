use Rattle.std.proofs.Common.{Option, subst}
use Rattle.mta_state.specs.Asked.{IsRestOf}
use Rattle.mta_state.specs.declared.rest.Rest.{Rest}
use Rattle.mta_replay.proofs.replay.note_in.Goals as goal

pub returns-in-None : goal.returns-in-None
returns-in-None c = λ format text items item is rests decoded indexed.
    c.keep_decoded.ensures.indexed format text items item is decoded indexed

pub returns-in-Ok : goal.returns-in-Ok
returns-in-Ok c = λ format text items item is rests decoded indexed.
    c.note.ensures format text items item is
    (subst (λ (o : Option Rest). IsRestOf format text item c.args.moment o) c.in-Some.is rests)
    (c.keep_decoded.ensures.indexed format text items item is decoded indexed)

pub returns-in-Err : goal.returns-in-Err
returns-in-Err c = λ format text items item is rests decoded indexed.
    c.note.ensures format text items item is
    (subst (λ (o : Option Rest). IsRestOf format text item c.args.moment o) c.in-Some.is rests)
    (c.keep_decoded.ensures.indexed format text items item is decoded indexed)
