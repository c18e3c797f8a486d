-- An open session hands a piece on, or drops one, only where it goes on; and it rejects nothing.
use Rattle.std.proofs.Common.{◌≡◌, Bool, true, false}
use Rattle.std.proofs.Common.{rules, sym, ◌∙◌}
use Rattle.mta_units.specs.declared.unit.Unit.{Unit as AnyUnit}
use Rattle.mta_units.specs.declared.unit.Unit.TheVariants as unit
use Rattle.mta_session.specs.declared.event.Event.{Event}
use Rattle.mta_session.specs.declared.phase.Phase.{Phase}
use Rattle.mta_session.specs.declared.phase.Phase.TheVariants as phase
use Rattle.mta_session.specs.State.{State}
use Rattle.mta_session.specs.Wanted.{Wanted, Aborts, Rejects, Ends, Puts, Asks, Reads, Goes_on, Excepts, Never}
use Rattle.mta_session_laws.specs.Turning.{is_open}
use Rattle.mta_session_laws.proofs.Opening.{wanted_in}
use Rattle.mta_session_laws.proofs.Rows.{Row, row, rejected, link_opened, lane_accepted, idle_opened, idle_accepted}
use Rattle.mta_session_laws.proofs.Rows.{resumed_opened, resumed_accepted}
use Rattle.mta_session_list_laws.proofs.Found.{never}

abbrev pub hands : Phase → Bool
hands (phase.AsksSecure k n) = true
hands (phase.AsksComplete k n) = true
hands p = false

-- it says nothing of the link
abbrev pub is_common : AnyUnit → Bool
is_common (unit.Open o) = false
is_common (unit.Accept c w a) = false
is_common (unit.Reject reason) = false
is_common u = true

abbrev pub NoHand : Wanted → Type 0
NoHand (Asks a t) = hands t.phase ≡ false
NoHand (Puts u t) = (is_common u ≡ true) × (hands t.phase ≡ false)
NoHand (Rejects reason) = ⊥
NoHand (Aborts reason) = Unit {0}
NoHand (Ends y) = Unit {0}
NoHand (Reads t) = hands t.phase ≡ false
NoHand (Goes_on t) = Unit {0}
NoHand (Excepts t f) = Unit {0}
NoHand Never = Unit {0}

row_hands : (t : State) (p : Phase) (e : Event) (w : Wanted) → Row t p e w → is_open p ≡ true → NoHand w
row_hands t p e w (rejected reason o) i = absurd (never (sym o ∙ i))
row_hands t p e w (link_opened s q c) i = absurd (never i)
row_hands t p e w (lane_accepted again lane a) i = absurd (never i)
row_hands t p e w (idle_opened st x s c q) i = absurd (never i)
row_hands t p e w (idle_accepted st x a c) i = absurd (never i)
row_hands t p e w (resumed_opened st o s q) i = absurd (never i)
row_hands t p e w (resumed_accepted st o a) i = absurd (never i)
row_hands t p e w r i = search rules

pub open_hands : (p : Phase) (t : State) (e : Event) → is_open p ≡ true → NoHand (wanted_in p t e)
open_hands p t e i = row_hands t p e (wanted_in p t e) (row p t e) i
