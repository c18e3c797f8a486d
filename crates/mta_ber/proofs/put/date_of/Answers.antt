use Rattle.std.proofs.Common.{◌≡◌, pos, ◌+ℤ◌, arith}
use Rattle.std.proofs.lemmas.Int.{ints}
use Rattle.jiff_core.specs.Date.{epoch_day}
use Rattle.mta_ber.proofs.DateLaws.{date_is}
use Rattle.mta_ber.proofs.put.date_of.Goals as goal

pub returns-clause-year : goal.returns-clause-year
returns-clause-year c =
    let e : epoch_day c.in-Ok.date +ℤ pos 7305 ≡ pos c.args.day =
    omega (arith, ints, c.in-Ok.ensures.value, c.requires) in
    (date_is c.args.day c.in-Ok.date c.requires e).0

pub returns-clause-month : goal.returns-clause-month
returns-clause-month c =
    let e : epoch_day c.in-Ok.date +ℤ pos 7305 ≡ pos c.args.day =
    omega (arith, ints, c.in-Ok.ensures.value, c.requires) in
    (date_is c.args.day c.in-Ok.date c.requires e).1

pub returns-clause-day : goal.returns-clause-day
returns-clause-day c =
    let e : epoch_day c.in-Ok.date +ℤ pos 7305 ≡ pos c.args.day =
    omega (arith, ints, c.in-Ok.ensures.value, c.requires) in
    (date_is c.args.day c.in-Ok.date c.requires e).2

pub returns-clause-low : goal.returns-clause-low
returns-clause-low c =
    let e : epoch_day c.in-Ok.date +ℤ pos 7305 ≡ pos c.args.day =
    omega (arith, ints, c.in-Ok.ensures.value, c.requires) in
    let h = date_is c.args.day c.in-Ok.date c.requires e in
    omega (arith, ints, h.0, h.4)

pub returns-clause-high : goal.returns-clause-high
returns-clause-high c =
    let e : epoch_day c.in-Ok.date +ℤ pos 7305 ≡ pos c.args.day =
    omega (arith, ints, c.in-Ok.ensures.value, c.requires) in
    let h = date_is c.args.day c.in-Ok.date c.requires e in
    omega (arith, ints, h.0, h.3)
