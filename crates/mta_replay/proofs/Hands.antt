-- What is read of the item of a number, and what is at hand of it.
use Rattle.std.proofs.Common.{◌≡◌, ℕ, List, Some, None, Result, Ok, Err, subst, ◌∙◌}
use Rattle.std.specs.Prelude.{IfOk}
use Rattle.std.proofs.lemmas.Option.{none-some, same_Some}
use Rattle.mta_machine.specs.Items.{ItemValue, numbered}
use Rattle.mta_state.specs.declared.readings.Reading.{Reading}
use Rattle.mta_state.specs.Readings.{IsReadingOf}
use Rattle.mta_replay.specs.Ready.{IsReadAt}

-- where there is no item nothing is asked of the reading
pub no_item : (items : List ItemValue) (i : ℕ) (r : Reading) → None ≡ numbered items i → IsReadAt items i r
no_item items i r none = λ item there. absurd (none-some item (none ∙ there))

read_of : (items : List ItemValue) (i : ℕ) (found : ItemValue) (r : Reading) → Some found ≡ numbered items i
    → IsReadingOf found.octets r → IsReadAt items i r
read_of items i found r at is = λ item there.
    subst (λ (x : ItemValue). IsReadingOf x.octets r) (same_Some found item (at ∙ there)) is

-- what was read of the item of a number
pub read_all : {E : Type 0} (items : List ItemValue) (i : ℕ) (found : ItemValue) (made : Result Reading E)
    → Some found ≡ numbered items i → IfOk made (IsReadingOf found.octets) → IfOk made (IsReadAt items i)
read_all items i found (Ok r) at is = read_of items i found r at is
read_all items i found (Err e) at is = is
