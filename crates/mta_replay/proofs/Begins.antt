-- What is stored of the state of a snapshot with which a history begins.
use Rattle.std.proofs.Common.{ℕ, ◌≤◌, ◌<◌, ◌^◌, List, [], ◌∷◌, length, map, ap, arith}
use Rattle.std.specs.Prelude.{is_some}
use Rattle.std.specs.List.{All, AllByRecursion}
use Rattle.std.proofs.lemmas.List.Elements.{All-nil, All-cons}
use Rattle.std.proofs.lemmas.List.{length-map}
use Rattle.mta_ber.specs.Times.{last_moment}
use Rattle.mta_records.specs.Body.{HasFields}
use Rattle.mta_records.specs.Snapshots.{a_snapshot, item_form}
use Rattle.mta_records.specs.State.{RecordedItem, SnapshotValue}
use Rattle.mta_records.specs.declared.step.Step.TheVariants.{Snapshot}
use Rattle.mta_machine.specs.Apdu.{responsible_in}
use Rattle.mta_machine.specs.Items.{status_at_first}
use Rattle.mta_histories.specs.Sound.{IsSoundItem, item_begun, machine_begun}
use Rattle.mta_state.proofs.Few.{few_whole}
use Rattle.mta_state.specs.Asked.{IsStored}

-- an item arrived in time, and as its octets are short they spell an APDU, whose recipients have numbers
stored-item : (moment : ℕ) (i : RecordedItem) → item_form.Fits i → IsSoundItem moment (item_begun i)
    → IsStored (item_begun i)
unfolding item_form
stored-item moment i fits sound =
    let short : length i.octets < 2 ^ 32 = fits.0.1.1.0 in
    let spelled = sound.spelled (omega (arith, short)) in
    record {
      arrived = fits.0.1.0;
      few = omega (
        arith,
        few_whole spelled.0 spelled.1.whole,
        length-map (responsible_in spelled.0) status_at_first,
        length-map (item_begun i).statuses is_some,
        ap (λ bs. length bs) spelled.2,
      );
    }

stored-items : (moment : ℕ) (items : List RecordedItem) → AllByRecursion item_form.Fits items
    → AllByRecursion (IsSoundItem moment) (map item_begun items) → All IsStored (map item_begun items)
stored-items moment [] fits sound = All-nil IsStored
stored-items moment (i ∷ items) fits sound =
    All-cons IsStored (item_begun i) (map item_begun items) (stored-item moment i fits.0 sound.0)
    (stored-items moment items fits.1 sound.1)

module _ (t : SnapshotValue) (fields : HasFields (Snapshot t)) where
  pub begins-in-time : t.moment ≤ last_moment
  unfolding a_snapshot
  begins-in-time = fields.1.0.0

  pub begins-stored : AllByRecursion (IsSoundItem t.moment) (machine_begun t).items
      → All IsStored (machine_begun t).items
  unfolding a_snapshot
  begins-stored sound = stored-items t.moment t.items fields.1.0.1.1.0.1 sound

  pub begins-few : length (machine_begun t).items < 2 ^ 32
  unfolding a_snapshot
  begins-few =
      let few : length t.items < 2 ^ 32 = fields.1.0.1.1.0.0 in
      omega (arith, few, length-map t.items item_begun)
