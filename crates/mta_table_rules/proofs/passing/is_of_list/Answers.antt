use Rattle.std.proofs.Common.{ap, ◌∙◌}
use Rattle.mta_names.specs.Normal.{is_same_name}
use Rattle.mta_envelope_recipient.specs.declared.recipient.RecipientFields.{RecipientFields}
use Rattle.mta_table_rules.proofs.Sames.{same_is}
use Rattle.mta_table_rules.proofs.passing.is_of_list.Goals as goal

pub returns : goal.returns
returns c =
    same_is c.fields.result.now.name c.args.list.now.name c.same.result c.same.ensures
    ∙ ap (λ (x : RecipientFields). is_same_name x.name c.args.list.now.name) c.fields.ensures.exact
