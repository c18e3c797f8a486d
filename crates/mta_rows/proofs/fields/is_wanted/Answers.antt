use Rattle.std.proofs.Common.{lit<}
use Rattle.mta_rows.proofs.Wanted.{wanted_alone, wanted_behind, wanted_first, wanted_none}
use Rattle.mta_rows.proofs.fields.is_wanted.Goals as goal

pub returns-in-None : goal.returns-in-None
returns-in-None c =
    wanted_alone c.args.said.now c.args.fields.rest.now c.args.is_last c.eq.result
    (c.in-None.ensures.byte (lit< tt) (λ w o f. f)) c.eq.ensures

pub returns-then-eq : goal.returns-then-eq
returns-then-eq c =
    let k = c.in-Some.ensures.byte (lit< tt) (λ w o f. f) in
    wanted_first c.args.said.now c.args.fields.rest.now c.in-Some.last.now c.in-Some.others.now c.args.is_last
    c.eq-in-Some.result c.eq-in-Some.ensures k.0 k.1 k.2 c.if-eq.true

pub returns-then-not-is_last : goal.returns-then-not-is_last
returns-then-not-is_last c =
    let k = c.in-Some.ensures.byte (lit< tt) (λ w o f. f) in
    wanted_behind c.args.said.now c.args.fields.rest.now c.in-Some.last.now c.in-Some.others.now c.args.is_last
    c.eq-in-Some.result c.eq-in-Some.ensures k.0 k.1 k.2 c.is_said.result c.if-eq.false c.if-not-is_last.true
    c.is_said.ensures

pub returns-else-not-is_last : goal.returns-else-not-is_last
returns-else-not-is_last c =
    let k = c.in-Some.ensures.byte (lit< tt) (λ w o f. f) in
    wanted_none c.args.said.now c.args.fields.rest.now c.in-Some.last.now c.in-Some.others.now c.args.is_last
    c.eq-in-Some.result c.eq-in-Some.ensures k.0 k.1 k.2 c.if-eq.false c.if-not-is_last.false
