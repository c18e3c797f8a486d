-- The mailbox of the name is the one to which its hop goes.
use Rattle.std.proofs.Common.{ap, sym, ◌∙◌}
use Rattle.mta_tables.specs.Hops.{mailbox_place}
use Rattle.mta_tables.specs.Surnames.{name_of_surname}
use Rattle.mta_tables.specs.Tables.{TablesValue}
use Rattle.mta_tables.proofs.HopLaws.{local_is_mailbox}
use Rattle.mta_tables.proofs.tables.Tables.mailbox_of_surname.Goals as goal

pub returns : goal.returns
returns c =
    let n = name_of_surname c.args.country.now c.args.admd.now c.args.surname.now in
    c.of_surname.ensures ∙ ap (λ (t : TablesValue). mailbox_place t n) c.self.view_is
    ∙ sym (local_is_mailbox c.args.self.now n)
