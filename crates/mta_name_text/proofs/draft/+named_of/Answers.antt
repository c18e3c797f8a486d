use Rattle.std.proofs.Common.{sym, ◌∙◌}
use Rattle.std.specs.Str.{bytes_eq}
use Rattle.mta_name_text.specs.Keys.{lead}
use Rattle.mta_name_text.proofs.KeyLaws.{find_next}
use Rattle.mta_name_text.proofs.draft.+named_of.Goals as goal

pub returns-else-is_lead : goal.returns-else-is_lead
returns-else-is_lead t c = find_next (λ k. bytes_eq (lead k) c.args.front.now) c.args.keys.now _ c.named_of.result
    c.in-len1-up.len_at_least (sym c.is_lead.ensures ∙ c.if-is_lead.false) c.named_of.ensures
