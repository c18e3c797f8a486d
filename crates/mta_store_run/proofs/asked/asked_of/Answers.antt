use Rattle.std.proofs.Common.{map, string_bytes, Global, arith, length}
use Rattle.std.proofs.lemmas.Bool.{ltb-true, ltb-false}
use Rattle.std.proofs.lemmas.List.{length-map}
use Rattle.mta_store_run.proofs.Asking.{few_ask_nothing, many_ask_nothing}
use Rattle.mta_store_run.proofs.asked.asked_of.Goals as goal
use Rattle.mta_store_run.proofs.asked.asked_of.Goals.{in_default-via-then-words-lt2}
use Rattle.mta_store_run.proofs.asked.asked_of.Goals.{in_default-via-else-words-lt2+else-words-lt3+else-words-lt4}

pub returns-in_default : goal.returns-in_default
returns-in_default c =
    let same = length-map c.args.words.now (string_bytes {Z = Global}) in
    elim c.in_default.branch [
      | in_default-via-then-words-lt2 w ↦
          (let few = ltb-true (length c.args.words.now) 2 w.if-words-lt2-1.true in
          few_ask_nothing (map (string_bytes {Z = Global}) c.args.words.now) (omega (arith, same, few)))
      | in_default-via-else-words-lt2+else-words-lt3+else-words-lt4 w ↦
          (let many = ltb-false (length c.args.words.now) 4 w.if-words-lt4-1.false in
          many_ask_nothing (map (string_bytes {Z = Global}) c.args.words.now) (omega (arith, same, many)))
    ]
