use Rattle.std.proofs.Common.{◌≡◌, ◌-◌, Some, sym, ap, ◌∙◌}
use Rattle.std.specs.Prelude.{slice_get}
use Rattle.std.specs.Option.{option_map}
use Rattle.std.proofs.lemmas.Option.{slice_get_within}
use Rattle.mta_envelope.specs.Messages.{MessageValue, message_value}
use Rattle.mta_envelope_recipient.specs.declared.recipient.RecipientFields.{RecipientFields}
use Rattle.mta_tables.specs.declared.entry.MailList.{MailList}
use Rattle.mta_procedures.specs.Members.{members_copy}
use Rattle.mta_procedures.specs.Histories.{is_in_history}
use Rattle.mta_procedures.specs.Situations.{Situation, situation}
use Rattle.mta_procedures.proofs.MembersLaws.{none_in_history}
use Rattle.mta_table_rules.proofs.Numbered.{numbered_at}
use Rattle.mta_table_rules.proofs.Read.{if_ok_so}
use Rattle.mta_table_rules.proofs.expansion.members_copy.Goals as goal

pub returns-then-is_in_history : goal.returns-then-is_in_history
returns-then-is_in_history c =
    sym (none_in_history (situation c.args.tables.now c.args.arrival c.args.moment) c.args.list.now
    (message_value c.args.message.now) c.args.who.now
    (ap (is_in_history c.args.list.now) (sym c.fields.ensures.exact) ∙ sym c.is_in_history.ensures
    ∙ c.if-is_in_history.true))

pub expand-requires-clause-list : goal.expand-requires-clause-list
expand-requires-clause-list c =
    slice_get_within c.args.tables.now.lists c.args.place c.args.list.now c.requires.list

pub expand-requires-clause-few : goal.expand-requires-clause-few
expand-requires-clause-few c =
    let at = numbered_at c.args.message.now.envelope.recipients c.args.recipient c.args.who.now c.requires.who in
    at.few

pub returns : goal.returns
returns c =
    let s : Situation = situation c.args.tables.now c.args.arrival c.args.moment in
    let m : MessageValue = message_value c.args.message.now in
    let at = numbered_at m.envelope.recipients c.args.recipient c.args.who.now c.requires.who in
    if_ok_so c.expand.result
    (λ made. (l : MailList) (r : RecipientFields) → slice_get c.args.tables.now.lists c.args.place ≡ Some l
    → slice_get m.envelope.recipients (c.args.recipient - 1) ≡ Some r
    → option_map message_value made ≡ members_copy s l m r)
    (λ made. option_map message_value made ≡ members_copy s c.args.list.now m c.args.who.now)
    (λ made h. h c.args.list.now c.args.who.now c.requires.list at.at) c.expand.ensures
