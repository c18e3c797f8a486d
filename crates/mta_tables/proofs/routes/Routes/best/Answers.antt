-- Each look-up finds the routes of one part more; where no part is left, no route has more.
use Rattle.std.proofs.Common.{◌≡◌, ℕ, ◌+◌, ◌≤◌, Option, sym, ap, subst, ◌∙◌, arith}
use Rattle.std.specs.Option.{option_copied}
use Rattle.mta_name_text.specs.Routes.{route_attributes}
use Rattle.mta_tables.specs.Fronts.{or_shorter, route_at}
use Rattle.mta_tables.proofs.FrontLaws.{front_first, front_has, front_step, best_step, best_is, none_past}
use Rattle.mta_tables.proofs.FrontLaws.{none_past_eight, NoLonger}
use Rattle.mta_tables.proofs.routes.Routes.best.Goals as goal

pub of_front-requires : goal.of_front-requires
of_front-requires c =
    let l = c.loop-place in
    let n = c.args.name.now in
    let d = c.text_digest-digest.result in
    let at = sym (ap option_copied c.in-Some.is) ∙ c.part_at.ensures in
    let fronts = front_step n l.place l.digest d c.in-Some.part.now l.invariant.1 at c.text_digest-digest.ensures in
    λ ps h e. front_has n (l.place + 1) d fronts ps h e ∙ sym c.digest_step.ensures

pub loop-place-preserved : goal.loop-place-preserved
loop-place-preserved c =
    let l = c.loop-place in
    let n = c.args.name.now in
    let d = c.text_digest-digest.result in
    let at = sym (ap option_copied c.in-Some.is) ∙ c.part_at.ensures in
    let fronts = front_step n l.place l.digest d c.in-Some.part.now l.invariant.1 at c.text_digest-digest.ensures in
    let few = c.loop-place-test.true in
    let best = best_step c.args.self.now n l.place c.of_front.result l.best c.of_front.ensures l.invariant.2 in
    (omega (arith, few), fronts, ap (λ (o : Option ℕ). or_shorter o l.best) (sym c.in_default-of_front.is) ∙ best)

pub loop-place-preserved-in-Some-of_front : goal.loop-place-preserved-in-Some-of_front
loop-place-preserved-in-Some-of_front c =
    let l = c.loop-place in
    let n = c.args.name.now in
    let d = c.text_digest-digest.result in
    let at = sym (ap option_copied c.in-Some.is) ∙ c.part_at.ensures in
    let fronts = front_step n l.place l.digest d c.in-Some.part.now l.invariant.1 at c.text_digest-digest.ensures in
    let few = c.loop-place-test.true in
    let best = best_step c.args.self.now n l.place c.of_front.result l.best c.of_front.ensures l.invariant.2 in
    (omega (arith, few), fronts, ap (λ (o : Option ℕ). or_shorter o l.best) (sym c.in-Some-of_front.is) ∙ best)

pub returns-in_default : goal.returns-in_default
returns-in_default c =
    let l = c.loop-place in
    let n = c.args.name.now in
    let routes = c.args.self.now in
    let none = sym c.part_at.ensures ∙ ap option_copied c.in_default.is in
    ap (route_at routes) l.invariant.2
    ∙ best_is routes n l.place c.have_parts.ensures (none_past routes n l.place none)

pub returns : goal.returns
returns c =
    let l = c.loop-place in
    let n = c.args.name.now in
    let routes = c.args.self.now in
    let past = c.loop-place-test.false in
    let within = l.invariant.0 in
    let eight : 8 ≡ l.place = omega (arith, past, within) in
    ap (route_at routes) l.invariant.2
    ∙ best_is routes n l.place c.have_parts.ensures
    (subst (NoLonger routes n) eight (none_past_eight routes n c.attributes-attributes.ensures.name))
