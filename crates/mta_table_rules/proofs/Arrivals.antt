-- What is read of octets that are submitted.
use Rattle.std.proofs.Common.{◌≡◌, ℕ, ◌<◌, ◌^◌, List, length, Option, Some, sym, ap, subst, ◌∙◌, arith}
use Rattle.mta_apdu.specs.Apdus.{ApduValue, SpellsApdu}
use Rattle.mta_tables.specs.Tables.{TablesValue}
use Rattle.mta_records.specs.declared.state.Status.{Status}
use Rattle.mta_records.specs.declared.state.Origin.TheVariants as Origins
use Rattle.mta_machine.specs.Items.{ItemValue, statuses_of, statuses_read}
use Rattle.mta_machine.specs.Machine.{accepted_item}
use Rattle.mta_machine.specs.Rules.{tables_value}
use Rattle.mta_state.proofs.Few.{few_accepted, value_is}
use Rattle.mta_state.specs.Asked.{IsRestOf}
use Rattle.mta_state.specs.declared.rest.Rest.{Rest}
use Rattle.mta_table_rules.specs.Rests.{IsRestUnder}
use Rattle.mta_table_rules.proofs.Rests.{rest_is}

-- the item of an APDU that was read
pub item_is : (octets : List ℕ) (moment : ℕ) (v : ApduValue) (statuses : List (Option Status)) (item : ItemValue)
    → SpellsApdu octets v → statuses ≡ statuses_of v
    → item ≡ record { octets = octets; arrival = moment; origin = Origins.Submitted; statuses = statuses }
    → item ≡ accepted_item octets Origins.Submitted moment
item_is octets moment v statuses item spells are is =
    is
    ∙ ap
    (λ (x : List (Option Status)). record {
      octets = octets;
      arrival = moment;
      origin = Origins.Submitted;
      statuses = x;
    })
    (are ∙ sym (ap statuses_read (value_is octets v spells)))

-- its recipients have numbers
pub item_few : (octets : List ℕ) (moment : ℕ) (v : ApduValue) (item : ItemValue) → SpellsApdu octets v
    → item ≡ accepted_item octets Origins.Submitted moment → length item.statuses < 2 ^ 32
item_few octets moment v item spells is =
    omega (arith, few_accepted octets (v, spells), ap (λ (x : ItemValue). length x.statuses) is)

-- what is found of it
pub item_rest : (format : ℕ) (t : TablesValue) (octets : List ℕ) (moment : ℕ) (v : ApduValue) (item : ItemValue)
    (rest : Option Rest) → tables_value t.text ≡ Some t → SpellsApdu octets v
    → item ≡ accepted_item octets Origins.Submitted moment → IsRestUnder format t v item moment rest
    → IsRestOf format t.text item moment rest
item_rest format t octets moment v item rest reads spells is found =
    let same = accepted_item octets Origins.Submitted moment in
    subst (λ (x : ItemValue). IsRestOf format t.text x moment rest) (sym is)
    (rest_is format t same v moment rest reads (value_is octets v spells)
    (subst (λ (x : ItemValue). IsRestUnder format t v x moment rest) is found))
