use Rattle.std.proofs.Common.{[], List, sym, subst}
use Rattle.std.specs.Prelude.{option_to_list}
use Rattle.mta_queue.specs.declared.mark.Mark.{Mark}
use Rattle.mta_replay.specs.Queued.{AreRows}
use Rattle.mta_replay.proofs.queued.rows_of_made.Goals as goal

pub returns : goal.returns
returns g c =
    let text = g.R.Rules.text c.args.rules.now in
    let words = c.args.queues.now.words in
    let none = subst (λ (rows : List (List Mark)). AreRows text words rows []) (sym c.new-rows.ensures.items) tt in
    c.in_ok-push_row-2.ensures (option_to_list c.args.made.now.first) (c.in_ok-push_row.ensures [] none)
