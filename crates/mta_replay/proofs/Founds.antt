-- What is found of an item that is accepted.
use Rattle.std.proofs.Common.{◌≡◌, ℕ, ◌<◌, List, length, Option, Some, None, Ok, refl, sym, ap, subst, ◌∙◌}
use Rattle.std.specs.Prelude.{IfSome, option_map}
use Rattle.std.proofs.lemmas.Option.{same_Some}
use Rattle.mta_records.specs.declared.step.Step.{Step}
use Rattle.mta_records.specs.declared.step.Step.TheVariants.{Accept}
use Rattle.mta_records.specs.declared.state.Origin.TheVariants as Origins
use Rattle.mta_machine.specs.Items.{ItemValue, numbered}
use Rattle.mta_machine.specs.Machine.{accepted_item, last_tables}
use Rattle.mta_histories.specs.Lanes.{State}
use Rattle.mta_histories.specs.History.{IsPossible, after_step}
use Rattle.mta_state.specs.Asked.{IsRestOf, IsTextOf}
use Rattle.mta_state.specs.Readings.{IsDecodedOf}
use Rattle.mta_state.specs.declared.change.Change.{Change}
use Rattle.mta_state.specs.declared.decoded.Decoded.{Decoded}
use Rattle.mta_state.specs.declared.kept.Kept.{Kept}
use Rattle.mta_state.specs.declared.rest.Rest.{Rest}
use Rattle.mta_state.specs.Parts.{machine_of}
use Rattle.mta_state.specs.Kept.{state_of}
use Rattle.mta_state.specs.Prepared.{Prepares}
use Rattle.mta_replay.specs.declared.accept.Arrival.{Arrival}
use Rattle.mta_dues.proofs.Indexed.{change_later}
use Rattle.mta_replay.specs.Found.{IsDecodedItem, IsFound, IsFoundLast, accept_change}
use Rattle.mta_replay.specs.Ready.{IsReady, TakesUp}
use Rattle.mta_replay.specs.Sound.{AreInForce}
use Rattle.mta_replay.proofs.Sounds.{numbered-last}

-- there is one text of the tables recorded last
pub found_under : (kept : Kept) (format : ℕ) (text : List ℕ) (item : ItemValue) (moment : ℕ) (rest : Option Rest)
    → AreInForce format text (machine_of kept.parts) → IsRestOf format text item moment rest
    → IsFound kept item moment rest
found_under kept format text item moment rest force found = λ other is.
    subst (λ (t : List ℕ). IsRestOf kept.parts.format t item moment rest)
    (same_Some text other (sym force.last ∙ is))
    (subst (λ (f : ℕ). IsRestOf f text item moment rest) force.in_format found)

-- the item that is accepted is the last one, and the tables stay
pub found_last : (old new : Kept) (moment : ℕ) (apdu : List ℕ) (rest : Option Rest)
    (decoded : Decoded) → state_of new ≡ after_step (state_of old) (Accept moment apdu)
    → IsFound old (accepted_item apdu Origins.Submitted moment) moment rest → IsDecodedOf apdu decoded
    → IsFoundLast new moment rest decoded
found_last old new moment apdu rest decoded same found read = record {
  item = accepted_item apdu Origins.Submitted moment;
  item_is =
      ap (λ (s : State). numbered s.machine.items (length s.machine.items)) same
      ∙ numbered-last old.parts.items.items (accepted_item apdu Origins.Submitted moment);
  found = λ text is.
      subst (λ (f : ℕ). IsRestOf f text (accepted_item apdu Origins.Submitted moment) moment rest)
      (sym (ap (λ (s : State). s.machine.format) same))
      (found text (sym (ap (λ (s : State). numbered s.machine.tables (last_tables s.machine)) same) ∙ is));
  decoded_is = read;
}

-- what was found changes later
pub found_later : (kept : Kept) (text : List ℕ) (moment : ℕ) (rest : Option Rest) (decoded : Decoded)
    → IsTextOf kept text → IsFoundLast kept moment rest decoded → IfSome rest (λ found. moment < found.until)
found_later kept text moment None decoded last found = tt
found_later kept text moment (Some rest) decoded last found =
    change_later kept.parts.format text found.item moment rest.until (found.found text last).idle

-- what was found is ready
pub arrival_ready : {R : Type 0} (format : R → ℕ) (text : R → List ℕ) (s : State) (moment : ℕ) (apdu : List ℕ)
    (found : Option Arrival) (arrival : Arrival) (new : Change) → found ≡ Some arrival
    → Prepares s (Accept moment apdu) (option_map (accept_change moment) found) → new ≡ accept_change moment arrival
    → IsReady format text s (Accept moment apdu) new None
arrival_ready format text s moment apdu found arrival new is prepares same = record {
  is_change =
      subst (λ (x : Change). Prepares s (Accept moment apdu) (Some x)) (sym same)
      (subst (λ (o : Option Arrival). Prepares s (Accept moment apdu) (option_map (accept_change moment) o)) is
      prepares);
  under = refl;
  fresh = tt;
  queued = tt;
}

pub arrival_found : (kept : Kept) (item : ItemValue) (moment : ℕ) (found : Option Arrival) (arrival : Arrival)
    → found ≡ Some arrival → IfSome found (λ (a : Arrival). IsFound kept item moment a.rest)
    → IsFound kept item moment arrival.rest
arrival_found kept item moment found arrival is was =
    subst (λ (o : Option Arrival). IfSome o (λ (a : Arrival). IsFound kept item moment a.rest)) is was

pub arrival_decoded : (apdu : List ℕ) (found : Option Arrival) (arrival : Arrival) → found ≡ Some arrival
    → IfSome found (λ (a : Arrival). IsDecodedItem apdu a.item a.decoded)
    → IsDecodedItem apdu arrival.item arrival.decoded
arrival_decoded apdu found arrival is was =
    subst (λ (o : Option Arrival). IfSome o (λ (a : Arrival). IsDecodedItem apdu a.item a.decoded)) is was

pub taken_up : (step : Step) (old new : State) → IsPossible old step → new ≡ after_step old step
    → TakesUp step old new (Ok tt)
taken_up step old new possible same = record { made = λ ok. (possible, same); impossible = λ never. absurd cc }
