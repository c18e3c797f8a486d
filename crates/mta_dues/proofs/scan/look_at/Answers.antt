use Rattle.std.proofs.Common.{sym, subst, ◌∙◌}
use Rattle.mta_state.specs.Kept.{state_of}
use Rattle.mta_dues.specs.Agendas.{AgendaValue, IsAllCalled}
use Rattle.mta_dues.proofs.Idle.{nothing_of_idle}
use Rattle.mta_dues.proofs.Indexed.{change_later}
use Rattle.mta_dues.proofs.Waiting.{all_idle, idle_on, idle_until, none_due, unexpired_before}
use Rattle.mta_dues.proofs.scan.look_at.Goals as goal

pub first_of-requires-clause-known : goal.first_of-requires-clause-known
first_of-requires-clause-known g c =
    let format = g.R.Rules.format c.args.rules.now in
    let text = g.R.Rules.text c.args.rules.now in
    none_due (state_of c.args.kept.now) c.args.number c.known_idle-known.result c.args.moment format text
    c.args.item.now c.requires.kept c.requires.text c.requires.format c.requires.item
    (c.known_idle-known.ensures format text c.args.kept.now.parts.items.items c.requires.item c.requires.indexed)

pub idle_from-requires-clause-known : goal.idle_from-requires-clause-known
idle_from-requires-clause-known g c =
    let format = g.R.Rules.format c.args.rules.now in
    let text = g.R.Rules.text c.args.rules.now in
    c.known_idle-known.ensures format text c.args.kept.now.parts.items.items c.requires.item c.requires.indexed

pub idle_from-requires-clause-unexpired : goal.idle_from-requires-clause-unexpired
idle_from-requires-clause-unexpired g c =
    let format = g.R.Rules.format c.args.rules.now in
    let text = g.R.Rules.text c.args.rules.now in
    unexpired_before format text c.args.item.now c.args.moment c.in-Some.until
    (sym c.next_change.ensures ∙ c.in-Some.is)

pub put_to_rest-requires-clause-later : goal.put_to_rest-requires-clause-later
put_to_rest-requires-clause-later g c =
    let format = g.R.Rules.format c.args.rules.now in
    let text = g.R.Rules.text c.args.rules.now in
    let item = c.args.item.now in
    let idle = all_idle format text item c.in_ok-most.most c.args.moment (c.are_all.ensures.0 c.if-are_all.true)
    c.in_ok-most.ensures in
    change_later format text item c.args.moment c.in-Some.until
    (idle_until format text item c.args.moment c.in-Some.until idle (sym c.next_change.ensures ∙ c.in-Some.is))

pub returns-then-are_all-clause-first : goal.returns-then-are_all-clause-first
returns-then-are_all-clause-first g c =
    let format = g.R.Rules.format c.args.rules.now in
    let text = g.R.Rules.text c.args.rules.now in
    let item = c.args.item.now in
    nothing_of_idle (state_of c.args.kept.now) c.args.number c.args.moment format text item c.requires.kept
    c.requires.text c.requires.format c.requires.item
    (all_idle format text item c.in_ok-most.most c.args.moment (c.are_all.ensures.0 c.if-are_all.true)
    c.in_ok-most.ensures)

pub returns-then-are_all-clause-indexed : goal.returns-then-are_all-clause-indexed
returns-then-are_all-clause-indexed g c =
    let format = g.R.Rules.format c.args.rules.now in
    let text = g.R.Rules.text c.args.rules.now in
    let item = c.args.item.now in
    let idle = all_idle format text item c.in_ok-most.most c.args.moment (c.are_all.ensures.0 c.if-are_all.true)
    c.in_ok-most.ensures in
    c.put_to_rest.ensures.indexed format text c.args.kept.now.parts.items.items item c.requires.item
    (idle_until format text item c.args.moment c.in-Some.until idle (sym c.next_change.ensures ∙ c.in-Some.is))
    c.requires.indexed

pub first_of-requires-2-clause-known : goal.first_of-requires-2-clause-known
first_of-requires-2-clause-known g c =
    let format = g.R.Rules.format c.args.rules.now in
    let text = g.R.Rules.text c.args.rules.now in
    none_due (state_of c.args.kept.now) c.args.number c.in_ok-most.most c.args.moment format text c.args.item.now
    c.requires.kept c.requires.text c.requires.format c.requires.item c.in_ok-most.ensures

pub returns-clause-indexed : goal.returns-clause-indexed
returns-clause-indexed g c =
    let format = g.R.Rules.format c.args.rules.now in
    let text = g.R.Rules.text c.args.rules.now in
    let item = c.args.item.now in
    c.keep_idle.ensures.indexed format text c.args.kept.now.parts.items.items item c.requires.item
    (idle_on format text item c.in_ok-most.most c.args.moment c.in-Some.until
    (sym c.next_change.ensures ∙ c.in-Some.is) c.in_ok-most.ensures)
    c.requires.indexed

pub returns-clause-called : goal.returns-clause-called
returns-clause-called g c = λ count all.
    subst (λ (a : AgendaValue). IsAllCalled a count c.args.moment) (sym c.keep_idle.ensures.agenda) all
