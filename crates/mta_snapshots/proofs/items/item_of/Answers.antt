use Rattle.std.proofs.Common.{List, ℕ, Option, ap, subst, ◌∙◌}
use Rattle.std.specs.Global.{Vec}
use Rattle.mta_records.specs.State.{RecordedItem}
use Rattle.mta_records.specs.declared.state.Status.{Status}
use Rattle.mta_snapshots.specs.Items.{StatusesBegin}
use Rattle.mta_snapshots.proofs.Reading.{not_arrived, no_statuses, is_begun, item_as}
use Rattle.mta_snapshots.proofs.items.item_of.Goals as goal

pub returns-then-moment-arrival : goal.returns-then-moment-arrival
returns-then-moment-arrival c =
    let i : RecordedItem =
    record {
      origin = c.args.origin;
      arrival = c.args.arrival;
      octets = c.args.octets.value;
      codes =
          c.args.codes.items;
    } in
    not_arrived c.args.moment i c.if-moment-arrival.true

pub returns-in-None : goal.returns-in-None
returns-in-None c =
    let i : RecordedItem =
    record {
      origin = c.args.origin;
      arrival = c.args.arrival;
      octets = c.args.octets.value;
      codes =
          c.args.codes.items;
    } in
    no_statuses c.args.moment i c.requires
    (subst (λ (o : Option (Vec (Option Status))). StatusesBegin c.args.moment c.args.octets.value c.args.codes.items o)
    c.in-None.is
    (subst (λ (os : List ℕ). StatusesBegin c.args.moment os c.args.codes.items c.in_ok-statuses_begun.field-0)
    (c.as_slice.ensures ∙ c.deref.ensures)
    c.in_ok-statuses_begun.ensures))

pub returns-in-Some : goal.returns-in-Some
returns-in-Some c =
    let i : RecordedItem =
    record {
      origin = c.args.origin;
      arrival = c.args.arrival;
      octets = c.args.octets.value;
      codes =
          c.args.codes.items;
    } in
    is_begun c.args.moment i c.in-Some.statuses.items c.new.result
    (subst (λ (o : Option (Vec (Option Status))). StatusesBegin c.args.moment c.args.octets.value c.args.codes.items o)
    c.in-Some.is
    (subst (λ (os : List ℕ). StatusesBegin c.args.moment os c.args.codes.items c.in_ok-statuses_begun.field-0)
    (c.as_slice.ensures ∙ c.deref.ensures)
    c.in_ok-statuses_begun.ensures))
    c.if-moment-arrival.false
    (c.new.ensures
    ∙ ap (λ (ss : List (Option Status)). item_as c.args.octets.value c.args.arrival c.args.origin ss)
    c.from_vec-statuses.ensures)
