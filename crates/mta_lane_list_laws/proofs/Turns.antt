-- The positions of lists that stand one behind the other rise.
use Rattle.std.proofs.Common.{◌≤◌, ℕ, ◌+◌, List, [], ◌∷◌, ◌++◌, arith}
use Rattle.mta_transfer_laws.specs.Covering as sent
use Rattle.mta_transfer_laws.specs.ReceivingOrder as received
use Rattle.mta_lane_list_laws.specs.Turns.{ListsInTurnRise, None_more, ReceivesBetween, SendsBetween, Then}

-- what rises from one length on does so from an earlier one
sent_from : (low from : ℕ) (xs : List sent.Placed) → low ≤ from → sent.Rises from xs → sent.Rises low xs
sent_from low from [] le r = tt
sent_from low from (x ∷ xs) le r = let here = r.0 in (omega (arith, le, here), r.1)

received_from : (low from : ℕ) (xs : List received.Placed) → low ≤ from → received.Rises from xs
    → received.Rises low xs
received_from low from [] le r = tt
received_from low from (x ∷ xs) le r = let here = r.0 in (omega (arith, le, here), r.1)

-- one list and those behind it
sent_behind : (from upto : ℕ) (xs ys : List sent.Placed) → SendsBetween from upto xs → sent.Rises upto ys
    → sent.Rises from (xs ++ ys)
sent_behind from upto [] ys b r = sent_from from upto ys b r
sent_behind from upto (x ∷ xs) ys b r = (b.0, sent_behind (x.position + 1) upto xs ys b.1 r)

received_behind : (from upto : ℕ) (xs ys : List received.Placed) → ReceivesBetween from upto xs
    → received.Rises upto ys → received.Rises from (xs ++ ys)
received_behind from upto [] ys b r = received_from from upto ys b r
received_behind from upto (x ∷ xs) ys b r = (b.0, received_behind (x.position + 1) upto xs ys b.1 r)

pub lists_in_turn_rise : ListsInTurnRise
lists_in_turn_rise lane from [] None_more = (tt, tt)
lists_in_turn_rise lane from (l ∷ ls) (Then upto _ b rest) =
    let more = lists_in_turn_rise lane upto ls rest in (
      (
        b.begins,
        sent_behind (l.at + 1) upto (sent.placed_events lane l.events) (sent.placed_lists lane ls) b.sends more.0,
      ),
      (
        b.begins,
        received_behind (l.at + 1) upto (received.placed_events lane l.events) (received.placed_lists lane ls)
            b.receives more.1,
      ),
    )
