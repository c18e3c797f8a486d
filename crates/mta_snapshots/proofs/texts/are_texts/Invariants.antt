use Rattle.std.proofs.Common.{◌≡◌, true, drop}
use Rattle.std.specs.Prelude.{◌↔◌}
use Rattle.std.specs.List.{AllByRecursion}
use Rattle.mta_machine.specs.Rules.{is_tables_text}
use Rattle.mta_snapshots.proofs.texts.are_texts.Given as goal

abbrev pub invariant-loop-text : goal.invariant-loop-text
invariant-loop-text g l =
    AllByRecursion (λ text. is_tables_text text ≡ true) l.texts
    ↔ AllByRecursion (λ text. is_tables_text text ≡ true) (drop l.text-index l.texts)
