use Rattle.std.proofs.Common.{◌≡◌, ℕ, List, Some, get_or, length, refl, sym, ap, ◌∙◌}
use Rattle.std.specs.Prelude.{slice_get}
use Rattle.std.proofs.lemmas.Option.{slice_get-get_or}
use Rattle.mta_machine.specs.Items.{ItemValue}
use Rattle.mta_dues.specs.declared.index.Index.{Index}
use Rattle.mta_dues.proofs.Indexed.{learnt_next}
use Rattle.mta_dues.proofs.learning.learn_next.Goals as goal

pub returns-clause-indexed : goal.returns-clause-indexed
returns-clause-indexed g c =
    let items = c.args.kept.now.parts.items.items in
    let old = c.args.index.now in
    let new : Index = record { agenda = old.agenda; spans = c.push.new.self; hand = old.hand; looked = old.looked } in
    let item = c.index-as_slice-count.result in
    let same : item ≡ get_or items (length old.spans) item =
    c.index-as_slice-count.is
    ∙ (ap (λ (xs : List ItemValue). get_or xs c.count.result item) c.as_slice.ensures.value
    ∙ ap (λ (n : ℕ). get_or items n item) c.count.ensures) in
    let there : slice_get items (length old.spans) ≡ Some item =
    slice_get-get_or items (length old.spans) item c.requires.next ∙ ap Some (sym same) in
    learnt_next (g.R.Rules.format c.args.rules.now) (g.R.Rules.text c.args.rules.now) items old new
    item c.in_ok-span.span c.in_ok-push.ensures.more refl refl refl there
    c.in_ok-span.ensures c.requires.indexed
