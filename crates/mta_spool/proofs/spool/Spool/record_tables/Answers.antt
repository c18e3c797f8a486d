use Rattle.std.proofs.Common.{◌<◌, ◌^◌, length, ap, ◌∙◌, arith}
use Rattle.mta_tables.specs.Tables.{tables_of}
use Rattle.mta_spool.specs.Shown.{Shown}
use Rattle.mta_spool.proofs.Dues.{tables_possible}
use Rattle.mta_spool.proofs.Lengths.{length-tables, short_tables}
use Rattle.mta_spool.proofs.spool.Spool.record_tables.Goals as goal

pub make-requires-clause-fields : goal.make-requires-clause-fields
make-requires-clause-fields g c =
    omega (
      arith,
      ap length c.in_ok-text.ensures,
      ap length c.text.ensures.exact,
      short_tables c.args.tables.now c.text.result.now c.text.ensures.exact c.text.ensures.read,
    )

pub make-requires-clause-short : goal.make-requires-clause-short
make-requires-clause-short g c =
    omega (
      arith,
      length-tables c.in_ok-text.text,
      ap length c.in_ok-text.ensures,
      ap length c.text.ensures.exact,
      short_tables c.args.tables.now c.text.result.now c.text.ensures.exact c.text.ensures.read,
    )

pub make-requires-clause-possible : goal.make-requires-clause-possible
make-requires-clause-possible g c =
    let n : length c.args.self.now.current.machine.items < 2 ^ 32 =
    omega (
      arith,
      c.self.invariant.sound.numbers,
      ap (λ (v : Shown _ _). length v.current.machine.items) c.self.view_is,
    ) in
    tables_possible c.args.self.now.current c.in_ok-text.text c.args.tables.now
    (ap tables_of c.in_ok-text.ensures ∙ c.text.ensures.read) n
