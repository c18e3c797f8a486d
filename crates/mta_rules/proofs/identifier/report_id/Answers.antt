use Rattle.std.proofs.Common.{ℕ, List, sym, subst, ◌∙◌}
use Rattle.mta_ber.specs.declared.text.TextClass.TheVariants.{Ia5}
use Rattle.mta_ber.specs.Strings.{IsText}
use Rattle.mta_rules.proofs.Digits.{behind_letter, id_is, local_fits}
use Rattle.mta_rules.proofs.identifier.report_id.Goals as goal

pub from_fields-requires : goal.from_fields-requires
from_fields-requires c =
    let told = behind_letter c.new-octets.result.items c.push.new.self.items c.put_digits.new.octets.items
    c.args.number c.new-octets.ensures.items c.in_ok-push.ensures.items c.in_ok-put_digits.ensures in
    let local = c.from_octets-local.ensures ∙ c.from_vec.ensures ∙ told in
    subst (λ (a : List ℕ). IsText Ia5 1 32 a) (sym local) (local_fits c.args.number)

pub returns : goal.returns
returns c =
    let told = behind_letter c.new-octets.result.items c.push.new.self.items c.put_digits.new.octets.items
    c.args.number c.new-octets.ensures.items c.in_ok-push.ensures.items c.in_ok-put_digits.ensures in
    let local = c.from_octets-local.ensures ∙ c.from_vec.ensures ∙ told in
    c.from_fields.ensures ∙ id_is _ _ _ c.args.number c.in_ok-domain.ensures local
