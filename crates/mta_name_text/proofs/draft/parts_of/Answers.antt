-- The octet at which no text form goes on is near the front, since some text form begins with all before it.
use Rattle.std.proofs.Common.{rules, ◌≡◌, length, Err, arith}
use Rattle.std.proofs.lemmas.Grind.{common_steps}
use Rattle.mta_name_text.specs.Reading.{parts_of_text}
use Rattle.mta_name_text.proofs.Short.{fault_short}
use Rattle.mta_name_text.proofs.draft.parts_of.Goals as goal

pub overflow_cast-result : goal.overflow_cast-result
unfolding parts_of_text
overflow_cast-result c =
    let e : parts_of_text c.args.grammar c.args.text.now ≡ Err c.loop-i.i =
    first_of (search rules, grind (arith, common_steps)) in
    let l = fault_short c.args.grammar c.args.text.now c.loop-i.i e in
    omega arith

pub overflow_cast-result-in-None-2 : goal.overflow_cast-result-in-None-2
unfolding parts_of_text
overflow_cast-result-in-None-2 c =
    let e : parts_of_text c.args.grammar c.args.text.now ≡ Err (length c.args.text.now) =
    first_of (search rules, grind (arith, common_steps)) in
    let l = fault_short c.args.grammar c.args.text.now (length c.args.text.now) e in
    omega arith
