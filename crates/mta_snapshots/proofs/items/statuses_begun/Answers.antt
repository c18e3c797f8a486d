use Rattle.std.proofs.Common.{◌≡◌, true, List, map, Option, Some, None, subst}
use Rattle.std.specs.Prelude.{◌↔◌, is_some}
use Rattle.std.specs.Global.{Vec}
use Rattle.std.specs.List.{AllByRecursion}
use Rattle.mta_records.specs.declared.state.Status.{Status}
use Rattle.mta_histories.specs.Sound.{IsInTime}
use Rattle.mta_snapshots.specs.Items.{AreRecipients, Spreads}
use Rattle.mta_snapshots.proofs.Each.{not_so}
use Rattle.mta_snapshots.proofs.Reading.{unread, unspread, untimely, has_read}
use Rattle.mta_snapshots.proofs.items.statuses_begun.Goals as goal

pub returns-in_default : goal.returns-in_default
returns-in_default c =
    unread c.args.moment c.args.octets.now c.args.codes.items
    (subst (λ (o : Option (List (Option Status))). AreRecipients c.args.octets.now o) c.in_default.is
    c.in_ok-recipients.ensures)

pub returns-in_default-2 : goal.returns-in_default-2
returns-in_default-2 c =
    unspread c.args.moment c.args.octets.now c.args.codes.items c.in-Some.recipients
    (subst (λ (o : Option (List (Option Status))). AreRecipients c.args.octets.now o) c.in-Some.is
    c.in_ok-recipients.ensures)
    (subst (λ (ss : List (Option Status)). Spreads (map is_some ss) c.args.codes.items None) c.as_slice.ensures
    (subst
    (λ (o : Option (Vec (Option Status))). Spreads (map is_some c.as_slice.result.now) c.args.codes.items o)
    c.in_default-2.is c.in_ok-statuses.ensures))

pub returns-then-not-are_in_time : goal.returns-then-not-are_in_time
returns-then-not-are_in_time c =
    untimely c.args.moment c.args.octets.now c.args.codes.items c.in-Some.recipients
    (subst (λ (o : Option (List (Option Status))). AreRecipients c.args.octets.now o) c.in-Some.is
    c.in_ok-recipients.ensures)
    c.in-Some-2.statuses
    (subst (λ (ss : List (Option Status)). Spreads (map is_some ss) c.args.codes.items (Some c.in-Some-2.statuses))
    c.as_slice.ensures
    (subst
    (λ (o : Option (Vec (Option Status))). Spreads (map is_some c.as_slice.result.now) c.args.codes.items o)
    c.in-Some-2.is c.in_ok-statuses.ensures))
    (λ timely. not_so c.are_in_time.result
    (subst (λ (ss : List (Option Status)). (c.are_in_time.result ≡ true) ↔ AllByRecursion (IsInTime c.args.moment) ss)
    c.as_slice-2.ensures.value c.are_in_time.ensures)
    c.if-not-are_in_time.true timely)

pub returns : goal.returns
returns c =
    has_read c.args.moment c.args.octets.now c.args.codes.items c.in-Some.recipients
    (subst (λ (o : Option (List (Option Status))). AreRecipients c.args.octets.now o) c.in-Some.is
    c.in_ok-recipients.ensures)
    c.in-Some-2.statuses
    (subst (λ (ss : List (Option Status)). Spreads (map is_some ss) c.args.codes.items (Some c.in-Some-2.statuses))
    c.as_slice.ensures
    (subst
    (λ (o : Option (Vec (Option Status))). Spreads (map is_some c.as_slice.result.now) c.args.codes.items o)
    c.in-Some-2.is c.in_ok-statuses.ensures))
    ((subst (λ (ss : List (Option Status)). (c.are_in_time.result ≡ true) ↔ AllByRecursion (IsInTime c.args.moment) ss)
    c.as_slice-2.ensures.value c.are_in_time.ensures).0
    c.if-not-are_in_time.false)
