-- A session that has a lane keeps it, in its generation.
use Rattle.std.proofs.Common.{◌≡◌, ℕ, true}
use Rattle.std.proofs.Common.{refl, rules, ap, ◌∙◌}
use Rattle.mta_units.specs.declared.unit.Unit.{Unit as AnyUnit}
use Rattle.mta_units.specs.declared.unit.Unit.TheVariants as unit
use Rattle.mta_session.specs.State.{State}
use Rattle.mta_session.specs.Follows.{Part, Of_sender, Of_receiver, Of_neither, part_of, PutsFor, AsksFor, GoesOn}
use Rattle.mta_session.specs.Follows.{ExceptsFor, Does, FollowsAt, counted}
use Rattle.mta_session.specs.Wanted.{Wanted, Puts, Asks, Reads, Goes_on, Excepts, Never, wanted}
use Rattle.mta_session.specs.declared.ask.Ask.{Ask}
use Rattle.mta_session.specs.declared.ask.Ask.TheVariants as ask
use Rattle.mta_session.specs.declared.event.Event.{Event}
use Rattle.mta_session.specs.declared.event.Event.TheVariants as event
use Rattle.mta_session.specs.declared.event.Action.{Action}
use Rattle.mta_session.specs.declared.event.Action.TheVariants as action
use Rattle.mta_session.specs.declared.phase.Phase.{Phase}
use Rattle.mta_session.specs.declared.phase.Phase.TheVariants as phase
use Rattle.mta_session.specs.declared.phase.Found.{Found}
use Rattle.mta_session_laws.proofs.Rows.{Row, row, aborted}
use Rattle.mta_lane_match_laws.specs.Calls.{has_lane, LanesStay}

-- the lane and its generation
abbrev place : State → ℕ × ℕ
place t = (t.lane, t.generation)

-- what is wanted has them
abbrev PlaceAs : State → Wanted → Type 0
PlaceAs t (Asks a u) = place u ≡ place t
PlaceAs t (Puts x u) = place u ≡ place t
PlaceAs t (Reads u) = place u ≡ place t
PlaceAs t (Goes_on u) = place u ≡ place t
PlaceAs t (Excepts u found) = place u ≡ place t
PlaceAs t _ = Unit {0}

row_place : (t : State) (p : Phase) (e : Event) (w : Wanted) → Row t p e w → has_lane p ≡ true → PlaceAs t w
row_place t p e w (aborted reason q) has = tt
row_place t p e w r has = search rules

event_place : (t : State) (e : Event) → has_lane t.phase ≡ true → PlaceAs (counted t e) (wanted (counted t e) e)
event_place t event.Go has = row_place t t.phase event.Go (wanted t event.Go) (row t.phase t event.Go) has
event_place t e has = row_place (counted t e) t.phase e (wanted (counted t e) e) (row t.phase (counted t e) e) has

-- ---- what is done

put_place : (t : State) (part : Part) (x : AnyUnit) (new : State) → PutsFor t part x new → place new ≡ place t
put_place t (Of_sender y) x new d = ap place d.2
put_place t (Of_receiver y) x new d = ap place d.1
put_place t Of_neither x new d = absurd d

ask_place : (t : State) (x : Ask) (new : State) → AsksFor t x new → place new ≡ place t
ask_place t (ask.Secure lane g k n piece) new d = ap place d.3
ask_place t (ask.Complete lane g k n piece) new d = ap place d.3
ask_place t (ask.DropActivity lane g k) new d = ap place d.3
ask_place t (ask.Ending lane g k) new d = ap place d.6
ask_place t (ask.BatchFor peer) new d = ap place d.3
ask_place t x new d = absurd d

goes_on_place : (t : State) (a : Action) (new : State) → GoesOn t a new → place new ≡ place t
goes_on_place t (action.Put x) new d = put_place t (part_of x) x new d
goes_on_place t (action.Ask x) new d = ask_place t x new d
goes_on_place t action.Read new d = ap place d.1
goes_on_place t (action.Finish e) new d = absurd d

excepts_ask : (t : State) (found : Found) (x : Ask) (new : State) → ExceptsFor t found (action.Ask x) new
    → place new ≡ place t
excepts_ask t found (ask.DropActivity lane g k) new d = ap place d.3
excepts_ask t found x new d = absurd d

excepts_put : (t : State) (found : Found) (x : AnyUnit) (new : State) → ExceptsFor t found (action.Put x) new
    → place new ≡ place t
excepts_put t found (unit.Exception kind at) new d = ap place d.3
excepts_put t found x new d = absurd d

excepts_place : (t : State) (found : Found) (a : Action) (new : State) → ExceptsFor t found a new → place new ≡ place t
excepts_place t found (action.Put x) new d = excepts_put t found x new d
excepts_place t found (action.Ask x) new d = excepts_ask t found x new d
excepts_place t found any2 new d = absurd d

done_place : (t : State) (w : Wanted) (a : Action) (new : State) → PlaceAs t w → Does t w a new → place new ≡ place t
done_place t (Puts x after) a new h d = ap place d.1 ∙ h
done_place t (Asks x after) a new h d = ap place d.1 ∙ h
done_place t (Reads after) a new h d = ap place d.1 ∙ h
done_place t (Goes_on after) a new h d = goes_on_place after a new d ∙ h
done_place t (Excepts after found) a new h d = excepts_place after found a new d ∙ h
done_place t Never a new h d = absurd d
done_place t any1 a new h d = ap place d.1

counted_place : (t : State) (e : Event) → place (counted t e) ≡ place t
counted_place t event.Go = refl
counted_place t any1 = refl

follows_place : (f : Phase) (t : State) (e : Event) (a : Action) (new : State) → has_lane f ≡ true
    → PlaceAs (counted t e) (wanted (counted t e) e) → FollowsAt f t e a new → place new ≡ place t
follows_place (phase.Ended x) t e a new has w h = absurd cc
follows_place f t e a new has w h =
    done_place (counted t e) (wanted (counted t e) e) a new w h ∙ counted_place t e

pub lanes_stay : LanesStay
lanes_stay t e a new has h =
    let same = follows_place t.phase t e a new has (event_place t e has) h in
    (ap (λ (x : ℕ × ℕ). x.0) same, ap (λ (x : ℕ × ℕ). x.1) same)
