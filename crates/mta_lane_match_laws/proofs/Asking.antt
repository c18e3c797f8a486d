-- What is asked for is of the phase that the session is in then.
use Rattle.std.proofs.Common.{◌≡◌, ℕ}
use Rattle.std.proofs.Common.{refl, rules, sym, ap, subst}
use Rattle.mta_histories.proofs.Halves.{sending-last}
use Rattle.mta_units.specs.declared.unit.Unit.TheVariants as unit
use Rattle.mta_session.specs.State.{State, in_phase}
use Rattle.mta_session.specs.Follows.{Does, AsksFor, ExceptsFor, FollowsAt, counted}
use Rattle.mta_session.specs.Wanted.{Wanted, Aborts, Rejects, Ends, Puts, Asks, Reads, Goes_on, Excepts, Never, wanted}
use Rattle.mta_session.specs.Wanted.{ask_of}
use Rattle.mta_session.specs.declared.ask.Ask.{Ask}
use Rattle.mta_session.specs.declared.ask.Ask.TheVariants as ask
use Rattle.mta_session.specs.declared.event.Event.{Event}
use Rattle.mta_session.specs.declared.event.Event.TheVariants as event
use Rattle.mta_session.specs.declared.event.Action.TheVariants as action
use Rattle.mta_session.specs.declared.phase.Phase.{Phase}
use Rattle.mta_session.specs.declared.phase.Phase.TheVariants as phase
use Rattle.mta_session.specs.declared.phase.Found.{Found}
use Rattle.mta_session.specs.declared.phase.OwnStep.{OwnStep}
use Rattle.mta_session.specs.declared.phase.OwnStep.TheVariants as own
use Rattle.mta_session_laws.proofs.Rows.{Row, row, lane_new, lane_again, step_called}
use Rattle.mta_lane_match_laws.specs.Asks.{IsAskOf, AsksAreOfPhase}

-- the question that is wanted is of its phase
abbrev AsksAs : Wanted → Type 0
AsksAs (Asks a u) = IsAskOf u.phase u a
AsksAs _ = Unit {0}

step_asked : (t : State) (step : OwnStep) → ask_of t step ≡ ask_of (in_phase t (phase.AsksStep step)) step
step_asked t (own.Confirm n) = refl
step_asked t any1 = refl

row_asked : (t : State) (p : Phase) (e : Event) (w : Wanted) → Row t p e w → AsksAs w
row_asked t p e w (lane_new o l a b) = rw a (rw b refl)
row_asked t p e w (lane_again o l x a b) = rw a (rw b refl)
row_asked t p e w (step_called x step o q n) = step_asked t step
row_asked t p e w r = search rules

event_asked : (t : State) (e : Event) → AsksAs (wanted t e)
event_asked t event.Go = row_asked t t.phase event.Go (wanted t event.Go) (row t.phase t event.Go)
event_asked t e = row_asked t t.phase e (wanted t e) (row t.phase t e)

-- ---- what is done

asked_for : (t : State) (a : Ask) (new : State) → AsksFor t a new → IsAskOf new.phase new a
asked_for t (ask.Secure lane g k n piece) new h = rw h.3 (rw h.1 (rw h.2 refl))
asked_for t (ask.Complete lane g k n piece) new h = rw h.3 (rw h.1 (rw h.2 refl))
asked_for t (ask.DropActivity lane g k) new h = rw h.3 (rw h.1 (rw h.2 refl))
asked_for t (ask.Ending lane g k) new h =
    rw h.6 (rw h.4 (rw h.5 (ap (λ (j : ℕ). ask.Ending t.lane t.generation j) (sending-last t.send.state k h.3))))
asked_for t (ask.BatchFor peer) new h = rw h.3 (rw h.2 refl)
asked_for t a new h = absurd h

excepted_for : (t : State) (found : Found) (a : Ask) (new : State) → ExceptsFor t found (action.Ask a) new
    → IsAskOf new.phase new a
excepted_for t found (ask.DropActivity lane g k) new h = rw h.3 (rw h.1 (rw h.2 refl))
excepted_for t found a new h = absurd h

asked_is : (t : State) (x a : Ask) (after new : State) → action.Ask a ≡ action.Ask x → new ≡ after
    → IsAskOf after.phase after x → IsAskOf new.phase new a
asked_is t x a after new ea en h =
    let same : a ≡ x = cc in
    subst (λ (u : State). IsAskOf u.phase u a) (sym en)
    (subst (λ (y : Ask). IsAskOf after.phase after y) (sym same) h)

done_asked : (t : State) (w : Wanted) (a : Ask) (new : State) → AsksAs w → Does t w (action.Ask a) new
    → IsAskOf new.phase new a
done_asked t (Asks x after) a new h d = asked_is t x a after new d.0 d.1 h
done_asked t (Goes_on after) a new h d = asked_for after a new d
done_asked t (Excepts after found) a new h d = excepted_for after found a new d
done_asked t (Aborts reason) a new h d = absurd (let none : action.Ask a ≡ action.Put (unit.Abort reason) = d.0 in cc)
done_asked t (Rejects reason) a new h d =
    absurd (let none : action.Ask a ≡ action.Put (unit.Reject reason) = d.0 in cc)
done_asked t (Ends e) a new h d = absurd (let none : action.Ask a ≡ action.Finish e = d.0 in cc)
done_asked t (Puts x after) a new h d = absurd (let none : action.Ask a ≡ action.Put x = d.0 in cc)
done_asked t (Reads after) a new h d = absurd (let none : action.Ask a ≡ action.Read = d.0 in cc)
done_asked t Never a new h d = absurd d

follows_asked : (f : Phase) (t : State) (e : Event) (a : Ask) (new : State) → FollowsAt f t e (action.Ask a) new
    → IsAskOf new.phase new a
follows_asked (phase.Ended x) t e a new h = absurd (let none : action.Ask a ≡ action.Finish x = h.0 in cc)
follows_asked f t e a new h =
    done_asked (counted t e) (wanted (counted t e) e) a new (event_asked (counted t e) e) h

pub asks_are_of_phase : AsksAreOfPhase
asks_are_of_phase t e a new h = follows_asked t.phase t e a new h
