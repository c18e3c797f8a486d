use Rattle.std.proofs.Common.{◌≡◌, ◌≤◌, true, List, ℕ}
use Rattle.mta_ber.specs.Times.{last_moment}
use Rattle.mta_machine.specs.Items.{ItemValue}
use Rattle.mta_machine.specs.Rules.{is_tables_text}
use Rattle.mta_state.specs.Parts.{machine_of}
use Rattle.mta_snapshots.proofs.Going.{all_at, no_item_goes, no_text_goes}
use Rattle.mta_snapshots.proofs.transfers.goes_to.Goals as goal

pub returns-in_default : goal.returns-in_default
returns-in_default g c =
    no_item_goes (machine_of c.args.parts.now) c.args.peer.now c.args.transfer.now c.item.result c.item.ensures
    c.in_default.ensures

pub returns-in_default-text_at : goal.returns-in_default-text_at
returns-in_default-text_at g c =
    no_text_goes (machine_of c.args.parts.now) c.args.peer.now c.args.transfer.now c.tables.result c.tables.ensures
    c.in_default-text_at.ensures

pub goes_under-requires-clause-text : goal.goes_under-requires-clause-text
goes_under-requires-clause-text g c =
    all_at (λ (text : List ℕ). is_tables_text text ≡ true) c.args.parts.now.texts.items c.tables.result
    c.in-Some-text_at.text.now c.in-Some-text_at.ensures c.requires.texts

pub goes_under-requires-clause-arrived : goal.goes_under-requires-clause-arrived
goes_under-requires-clause-arrived g c =
    all_at (λ (item : ItemValue). item.arrival ≤ last_moment) c.args.parts.now.items.items c.item.result
    c.in-Some.item.now c.in-Some.ensures c.requires.arrived
