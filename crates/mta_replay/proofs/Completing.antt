-- What a Complete changes.
use Rattle.std.proofs.Common.{◌≡◌, ◌<◌, ◌+◌, ◌^◌, ℕ, List, [], ◌∷◌, ◌++◌, length, Some, None, refl}
use Rattle.std.proofs.Common.{sym, ap, subst, ◌∙◌, arith, length-append}
use Rattle.std.specs.List.{concat}
use Rattle.std.proofs.lemmas.Option.{same_Some}
use Rattle.mta_lane_recv.specs.Half as recv
use Rattle.mta_records.specs.declared.step.Step.TheVariants as steps
use Rattle.mta_records.specs.declared.state.Origin.TheVariants as Origins
use Rattle.mta_machine.specs.Apdu.{IsApdu}
use Rattle.mta_machine.specs.Items.{ItemValue, Machine}
use Rattle.mta_machine.specs.Machine.{accepted_item}
use Rattle.mta_histories.specs.Lanes.{Lane}
use Rattle.mta_histories.specs.Classes.{secure, complete}
use Rattle.mta_histories.specs.History.{TakesPiece, lane_steps, with_piece}
use Rattle.mta_ber.specs.declared.fault.Fault.{Fault}
use Rattle.mta_ber.specs.declared.fault.ReadFault.TheVariants as ReadFaults
use Rattle.mta_state.specs.Reading.{IsFaultOf, IsItemOf}
use Rattle.mta_lanes.specs.declared.change.LaneChange.TheVariants as lane_change
use Rattle.mta_state.specs.declared.kept.Kept.{Kept}
use Rattle.mta_state.specs.declared.change.Change.{Change}
use Rattle.mta_state.specs.declared.change.Change.TheVariants as change
use Rattle.mta_state.specs.Kept.{state_of, with_item, lanes_changed}
use Rattle.mta_state.specs.Prepared.{Prepares}
use Rattle.mta_replay.specs.Changes.{IsOpenFor, Makes, OpenFor}
use Rattle.mta_replay.proofs.Changing.{machine_is, not_prepared, prepared, state}

-- what a Secure needs of its piece a Complete needs too
takes_too : (lane : Lane) (k n : ℕ) (piece : List ℕ) → TakesPiece lane (recv.Secure k n) n piece
    → TakesPiece lane (recv.Complete k n) n piece
takes_too lane k n piece takes = record {
  agreed = takes.agreed;
  taken = takes.taken;
  some_octets = takes.some_octets;
  short = takes.short;
  within = takes.within;
}

takes_so : (lane : Lane) (k n : ℕ) (piece : List ℕ) → TakesPiece lane (recv.Complete k n) n piece
    → TakesPiece lane (recv.Secure k n) n piece
takes_so lane k n piece takes = record {
  agreed = takes.agreed;
  taken = takes.taken;
  some_octets = takes.some_octets;
  short = takes.short;
  within = takes.within;
}

-- ---- what changes

more_items : (items : List ItemValue) (item : ItemValue) → length (items ++ item ∷ []) ≡ length items + 1
more_items items item = length-append items (item ∷ [])

module _ (k : Kept) (n g activity number : ℕ) (piece : List ℕ) (moment : ℕ) where
  -- no step of this generation and piece is made where a Secure of it may not be made
  pub not_taken : OpenFor (state_of k) n (Some g) (secure activity number piece) moment None
      → Prepares (state_of k) (steps.Complete n g activity number piece moment) None
  not_taken never =
      not_prepared (state_of k) (steps.Complete n g activity number piece moment) n (Some g)
      (complete activity number piece) moment refl refl
      (λ lane may. never lane (record {
        found = may.found;
        current = may.current;
        needs = takes_so lane activity number piece may.needs.0;
        timely = may.timely;
      }))

  module _ (lane : Lane) (may : IsOpenFor (state_of k) n (Some g) (secure activity number piece) moment lane)
    where
      -- nor where no number is left for an item
      pub no_number : (length k.parts.items.items + 1 < 2 ^ 32 → ⊥)
          → Prepares (state_of k) (steps.Complete n g activity number piece moment) None
      no_number none =
          λ possible.
          let few = possible.numbers in
          let same = ap (λ (m : Machine). length m.items)
          (machine_is (state_of k) (steps.Complete n g activity number piece moment) n (Some g)
          (complete activity number piece) moment refl refl lane may.found) in
          let long = more_items k.parts.items.items
          (accepted_item (concat (with_piece lane.pieces number piece)) Origins.Lane moment) in
          none (omega (arith, few, same, long))

      -- nor where the pieces spell no APDU
      pub not_spelled : (fault : Fault)
          → IsFaultOf (concat (with_piece lane.pieces number piece)) (ReadFaults.Bad fault)
          → Prepares (state_of k) (steps.Complete n g activity number piece moment) None
      not_spelled fault bad =
          not_prepared (state_of k) (steps.Complete n g activity number piece moment) n (Some g)
          (complete activity number piece) moment refl refl
          (λ other other_may.
          let same : other ≡ lane = same_Some other lane (sym other_may.found ∙ may.found) in
          bad.0 (subst (λ (l : Lane). IsApdu (concat (with_piece l.pieces number piece))) same
          other_may.needs.1))

      completes : (item : ItemValue)
          → IsItemOf (concat (with_piece lane.pieces number piece)) Origins.Lane moment item
          → IsOpenFor (state_of k) n (Some g) (complete activity number piece) moment lane
      completes item accepted = record {
        found = may.found;
        current = may.current;
        needs = (takes_too lane activity number piece may.needs, accepted.0);
        timely = may.timely;
      }

      makes : (item : ItemValue)
          → IsItemOf (concat (with_piece lane.pieces number piece)) Origins.Lane moment item
          → length k.parts.items.items + 1 < 2 ^ 32
          → Makes (state_of k) (lane_steps lane (complete activity number piece) moment) n
          (lane_change.Complete activity) moment (Some (change.Complete n activity item moment))
      makes item accepted few = record {
        after = ap (λ (x : ItemValue). state (with_item (state_of k).machine x moment)
            (lanes_changed (state_of k).lanes n (lane_change.Complete activity)) moment) accepted.1;
        can = tt;
        numbers =
            let long = more_items k.parts.items.items
            (accepted_item (concat (with_piece lane.pieces number piece)) Origins.Lane moment) in
            omega (arith, long, few);
      }

      change_is : (item : ItemValue)
          → IsItemOf (concat (with_piece lane.pieces number piece)) Origins.Lane moment item
          → length k.parts.items.items + 1 < 2 ^ 32
          → Prepares (state_of k) (steps.Complete n g activity number piece moment)
          (Some (change.Complete n activity item moment))
      change_is item accepted few =
          prepared (state_of k) (steps.Complete n g activity number piece moment) n (Some g)
          (complete activity number piece) moment refl refl lane (lane_change.Complete activity)
          (completes item accepted) refl refl (Some (change.Complete n activity item moment))
          (makes item accepted few)

      pub complete_changes : (item : ItemValue) (made : Change)
          → IsItemOf (concat (with_piece lane.pieces number piece)) Origins.Lane moment item
          → made ≡ change.Complete n activity item moment → length k.parts.items.items + 1 < 2 ^ 32
          → Prepares (state_of k) (steps.Complete n g activity number piece moment) (Some made)
      complete_changes item made accepted is few =
          subst (λ (c : Change). Prepares (state_of k) (steps.Complete n g activity number piece moment) (Some c))
          (sym is)
          (change_is item accepted few)

pub ruleset complete_laws = (not_taken, no_number, not_spelled, complete_changes)
