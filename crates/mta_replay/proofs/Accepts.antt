-- What is changed by tables that are recorded, and by an APDU that is accepted.
use Rattle.std.proofs.Common.{◌≡◌, ◌<◌, ◌+◌, ◌^◌, ℕ, true, false, List, [], ◌∷◌, ◌++◌}
use Rattle.std.proofs.Common.{length, Option, Some, None, refl, ap, subst, arith, length-append}
use Rattle.mta_records.specs.declared.step.Step.TheVariants as step
use Rattle.mta_records.specs.declared.state.Origin.TheVariants as Origins
use Rattle.mta_machine.specs.Items.{ItemValue}
use Rattle.mta_machine.specs.Machine.{accepted_item}
use Rattle.mta_machine.specs.Rules.{is_tables_text}
use Rattle.mta_histories.specs.Lanes.{State}
use Rattle.mta_ber.specs.declared.fault.Fault.{Fault}
use Rattle.mta_ber.specs.declared.fault.ReadFault.TheVariants as ReadFaults
use Rattle.mta_state.specs.Reading.{IsAccepted, IsFaultOf}
use Rattle.mta_state.specs.declared.change.Change.TheVariants as change
use Rattle.mta_state.specs.declared.rest.Rest.{Rest}
use Rattle.mta_state.specs.declared.decoded.Decoded.{Decoded}
use Rattle.mta_state.specs.Asked.{IsRestOf}
use Rattle.mta_state.specs.Readings.{IsDecodedOf}
use Rattle.mta_state.specs.Kept.{with_item}
use Rattle.mta_state.specs.Prepared.{Prepares}
use Rattle.mta_replay.specs.Found.{IsDecodedItem}
use Rattle.mta_replay.specs.Settleable.{MayAccept}

-- ---- tables

pub tables_change : (s : State) (text : List ℕ) → is_tables_text text ≡ true → length s.machine.items < 2 ^ 32
    → Prepares s (step.Tables text) (Some (change.Tables text))
tables_change s text reads few = record {
  possible = record { allowed = reads; as_machine = tt; timely = omega arith; numbers = few };
  after = refl;
  can = tt;
}

pub no_tables : (s : State) (text : List ℕ) → is_tables_text text ≡ false → Prepares s (step.Tables text) None
no_tables s text never possible = let reads = possible.allowed in absurd cc

pub ruleset tables_laws = (tables_change, no_tables)

-- ---- an APDU

abbrev state_with : State → ItemValue → ℕ → State
state_with s item moment = record s { machine = with_item s.machine item moment; moment = moment; begun = true }

one-more : (items : List ItemValue) (item : ItemValue) → length (items ++ item ∷ []) ≡ length items + 1
one-more items item = length-append items (item ∷ [])

pub accept_change : (s : State) (moment : ℕ) (apdu : List ℕ) (item : ItemValue) → MayAccept s moment
    → IsAccepted apdu Origins.Submitted moment (Some item)
    → Prepares s (step.Accept moment apdu) (Some (change.Accept item moment))
accept_change s moment apdu item may is = record {
  possible = record {
    allowed = tt;
    as_machine = (is.0, may.recorded, may.in_time);
    timely = may.timely;
    numbers =
        let more = one-more s.machine.items (accepted_item apdu Origins.Submitted moment) in
        omega (arith, more, may.numbered);
  };
  after = ap (λ (x : ItemValue). state_with s x moment) is.1;
  can = tt;
}

pub may_not_accept : (s : State) (moment : ℕ) (apdu : List ℕ) → (MayAccept s moment → ⊥)
    → Prepares s (step.Accept moment apdu) None
may_not_accept s moment apdu never possible =
    let more = one-more s.machine.items (accepted_item apdu Origins.Submitted moment) in
    never (record {
      recorded = possible.as_machine.1;
      in_time = possible.as_machine.2;
      timely = possible.timely;
      numbered = omega (arith, more, possible.numbers);
    })

pub no_apdu : (s : State) (moment : ℕ) (apdu : List ℕ) → IsAccepted apdu Origins.Submitted moment None
    → Prepares s (step.Accept moment apdu) None
no_apdu s moment apdu never possible = never possible.as_machine.0

pub bad_apdu : (s : State) (moment : ℕ) (apdu : List ℕ) (fault : Fault) → IsFaultOf apdu (ReadFaults.Bad fault)
    → Prepares s (step.Accept moment apdu) None
bad_apdu s moment apdu fault bad = no_apdu s moment apdu bad.0

-- what is found of the item is found of that of the octets
pub found_of : (format : ℕ) (text : List ℕ) (moment : ℕ) (apdu : List ℕ) (item : ItemValue) (rest : Option Rest)
    → IsAccepted apdu Origins.Submitted moment (Some item) → IsRestOf format text item moment rest
    → IsRestOf format text (accepted_item apdu Origins.Submitted moment) moment rest
found_of format text moment apdu item rest is found =
    subst (λ (x : ItemValue). IsRestOf format text x moment rest) is.1 found

-- and it has the octets, as they were read
pub decoded_of : (moment : ℕ) (apdu : List ℕ) (item : ItemValue) (decoded : Decoded)
    → IsAccepted apdu Origins.Submitted moment (Some item) → IsDecodedOf item.octets decoded
    → IsDecodedItem apdu item decoded
decoded_of moment apdu item decoded is read =
    let same : item.octets ≡ apdu = ap (λ (x : ItemValue). x.octets) is.1 in
    record {
      octets_are = same;
      read_as = subst (λ (o : List ℕ). IsDecodedOf o decoded) same read;
    }

pub ruleset accept_laws = (accept_change, may_not_accept, no_apdu, bad_apdu)

pub ruleset arrival_laws = (accept_change, may_not_accept, no_apdu, bad_apdu, found_of, decoded_of)
