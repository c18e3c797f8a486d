-- A delivery that is reported (X.411, DeliveryReport): a SET of a time and a type of user.
use Rattle.std.specs.Prelude.{◌≡◌, ℕ, pos, Bool, true, false, List, [], ◌++◌, Option, Some}
use Rattle.std.specs.Prelude.{None, is_some, unwrap_or, Result, Ok, ◌==◌, if◌then◌else◌}
use Rattle.mta_ber.specs.declared.fault.Fault.{Fault}
use Rattle.mta_ber.specs.declared.fault.Kind.TheVariants.{BadTag, Twice}
use Rattle.mta_ber.specs.declared.tag.Tag.{Tag}
use Rattle.mta_ber.specs.Canon.{element, constructed, primitive}
use Rattle.mta_ber.specs.Components.{SpellsComponents}
use Rattle.mta_ber.specs.Contents.{canon_int, canon_utc}
use Rattle.mta_ber.specs.Element.{Part}
use Rattle.mta_ber.specs.Forms.{is_primitive_tag}
use Rattle.mta_ber.specs.Head.{◌>>=◌, fault}
use Rattle.mta_ber.specs.Moments.{SpellsMoment}
use Rattle.mta_ber.specs.Parts.{components, is_tag, required}
use Rattle.mta_ber.specs.Times.{utc_in}
use Rattle.mta_names.specs.Strings.{Puts, number_in, SpellsNumber}
use Rattle.mta_report_recipient.specs.declared.outcome.Outcome.{Outcome}
use Rattle.mta_report_recipient.specs.declared.outcome.Outcome.TheVariants.{Delivery}
use Rattle.mta_report_recipient.specs.declared.delivery.DeliveryPart.{DeliveryPart}
use Rattle.mta_report_recipient.specs.declared.delivery.DeliveryPart.TheVariants.{Moment, User}
use Rattle.mta_report_recipient.specs.declared.delivery.DeliveryParts.{DeliveryParts}

abbrev pub delivery_part_of : Tag → Option DeliveryPart
delivery_part_of t =
    if is_tag 2 0 t then Some Moment
    else if is_primitive_tag 2 1 t then Some User
    else None

-- whether a tag is that of a component
abbrev pub is_delivery_tag : DeliveryPart → Tag → Bool
is_delivery_tag Moment t = is_tag 2 0 t
is_delivery_tag User t = is_primitive_tag 2 1 t

-- whether a component is there already
abbrev pub delivery_held : DeliveryPart → DeliveryParts → Bool
delivery_held Moment s = is_some s.moment
delivery_held User s = is_some s.user

abbrev pub with_moment : DeliveryParts → ℕ → DeliveryParts
with_moment s x = record s { moment = Some x }

abbrev pub with_user : DeliveryParts → ℕ → DeliveryParts
with_user s x = record s { user = Some x }

abbrev pub delivery_part_in : DeliveryPart → DeliveryParts → Part → Result DeliveryParts Fault
delivery_part_in Moment s p = utc_in p >>= λ x. Ok (with_moment s x)
delivery_part_in User s p = number_in 0 32767 p >>= λ x. Ok (with_user s x)

-- each component may stand once
abbrev pub delivery_step_of : Option DeliveryPart → DeliveryParts → Part → Result DeliveryParts Fault
delivery_step_of None s p = fault p.at BadTag
delivery_step_of (Some k) s p = if delivery_held k s then fault p.at Twice else delivery_part_in k s p

unfoldable pub delivery_step : DeliveryParts → Part → Result DeliveryParts Fault
delivery_step s p = delivery_step_of (delivery_part_of p.tag) s p

abbrev pub no_delivery : DeliveryParts
no_delivery = record { moment = None; user = None }

-- a type of user that is absent is 0, public
abbrev pub delivery : ℕ → DeliveryParts → Outcome
delivery moment s = Delivery moment (unwrap_or s.user 0)

-- the required components are there
abbrev pub delivery_from : DeliveryParts → ℕ → Result Outcome Fault
delivery_from s at = required s.moment at >>= λ moment. Ok (delivery moment s)

unfoldable pub delivery_in : Part → Result Outcome Fault
delivery_in p = components delivery_step no_delivery p >>= λ s. delivery_from s p.at

-- ---- what spells a delivery

abbrev pub MakesDeliveryPart : DeliveryPart → ℕ → DeliveryParts → Tag → List ℕ → List ℕ
    → DeliveryParts → Type 0
MakesDeliveryPart Moment depth s tag content octets after =
    Puts (SpellsMoment depth tag.constructed content) (with_moment s) after
MakesDeliveryPart User depth s tag content octets after =
    Puts (SpellsNumber 0 32767 tag.constructed content) (with_user s) after

pub record MakesDelivery (depth : ℕ) (before : DeliveryParts) (tag : Tag) (content octets : List ℕ)
    (after : DeliveryParts) : Type 0 where
  pub part : DeliveryPart
  pub is_tag_of : is_delivery_tag part tag ≡ true
  pub absent : delivery_held part before ≡ false
  pub made : MakesDeliveryPart part depth before tag content octets after

-- a SET of its components in any order, each at most once
pub record SpellsDelivery (depth : ℕ) (constructed : Bool) (content : List ℕ) (v : Outcome) : Type 0 where
  pub is_constructed : constructed ≡ true
  pub parts : DeliveryParts
  pub spelled : SpellsComponents MakesDelivery depth no_delivery content parts
  pub moment : ℕ
  pub moment_is : parts.moment ≡ Some moment
  pub value : v ≡ delivery moment parts

-- ---- the one spelling that is written: no type of user where it is public

abbrev pub canonical_user : ℕ → List ℕ
canonical_user user = if user == 0 then [] else canon_int (primitive 2 1) (pos user)

abbrev pub canonical_delivery : ℕ → ℕ → List ℕ
canonical_delivery moment user = element (constructed 2 0) (canon_utc (primitive 2 0) moment ++ canonical_user user)
