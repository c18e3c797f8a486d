-- The calls of an open session, one after the other.
use Rattle.std.proofs.Common.{◌≡◌, true, false, List, [], ◌∷◌, ◌++◌, refl, sym, subst}
use Rattle.mta_transfer_rules.specs.Receiving.{RecvEvent}
use Rattle.mta_session.specs.declared.phase.Phase.{Phase}
use Rattle.mta_session.specs.declared.phase.Phase.TheVariants as phase
use Rattle.mta_session.specs.State.{State}
use Rattle.mta_session_laws.specs.Turning as sending
use Rattle.mta_session_laws.specs.Turning.{listed, MayFollow, is_open, is_last_phase}
use Rattle.mta_session_laws.specs.TurningRecv as receiving
use Rattle.mta_session_laws.specs.TurningRecv.{whole}
use Rattle.mta_session_laws.specs.Runs.{Turn, AreTurns, sending_events_of, sending_events, SendingRuns}
use Rattle.mta_session_laws.specs.Runs.{receiving_events_of, ReceivingRuns}
use Rattle.mta_session_laws.proofs.Calls as calls
use Rattle.mta_session_laws.proofs.CallsRecv as calls_recv
use Rattle.mta_session_laws.proofs.Events.{never}

pub open_goes_on : (p : Phase) → is_open p ≡ true → is_last_phase p ≡ false
open_goes_on phase.AsksDenied l = absurd (never l)
open_goes_on phase.AsksClose l = absurd (never l)
open_goes_on (phase.AsksLast x) l = absurd (never l)
open_goes_on (phase.PutsLast x) l = absurd (never l)
open_goes_on (phase.Ended x) l = absurd (never l)
open_goes_on p l = refl

not_last : (xs : List Turn) (t u : State) → AreTurns t xs u → is_last_phase u.phase ≡ false
    → is_last_phase t.phase ≡ false
not_last [] t u run l = subst (λ v. is_last_phase v.phase ≡ false) run l
not_last (x ∷ xs) t u run l = subst (λ v. is_last_phase v.phase ≡ false) run.0 (open_goes_on x.before.phase run.1)

pub sending_runs : sending.CallsGo → SendingRuns
sending_runs g [] t u h o run l m = subst (λ v. sending.Reaches (listed t.send h o) [] v.phase v.send) (sym run)
    (h, o, refl, m)
sending_runs g (x ∷ xs) t u h o run l m =
    let goes : MayFollow x.before.phase (listed x.before.send h o)
    → sending.Reaches (listed x.before.send h o) (sending_events (x ∷ xs)) u.phase u.send =
    λ (may : MayFollow x.before.phase (listed x.before.send h o)).
    let first = g x.before x.event x.action x.after h o run.1 run.2.fits run.2.answers run.2.heard may run.2.follows in
    let there : sending.Reaches (listed x.before.send h o) (sending_events_of x) x.after.phase x.after.send =
    subst (λ b. sending.ReachesBy b (listed x.before.send h o) (sending_events_of x) x.after.phase x.after.send)
    (not_last xs x.after u run.3 l) first in
    let rest = sending_runs g xs x.after u there.0 there.1 run.3 l there.3 in (
      rest.0,
      rest.1,
      calls.append_run (listed x.before.send h o) (listed x.after.send there.0 there.1)
          (listed u.send rest.0 rest.1) (sending_events_of x) (sending_events xs) there.2 rest.2,
      rest.3,
    ) in
    subst (λ v. MayFollow v.phase (listed v.send h o)
    → sending.Reaches (listed v.send h o) (sending_events (x ∷ xs)) u.phase u.send) run.0 goes m

pub receiving_runs : receiving.CallsGo → ReceivingRuns
receiving_runs g [] t u p run l =
    ([], refl, subst (λ v. receiving.Reaches (whole t.phase t.recv p) [] v.phase v.recv) (sym run) (p, refl))
receiving_runs g (x ∷ xs) t u p run l =
    let first = g x.before x.event x.action x.after p run.1 run.2.fits run.2.fits_after run.2.answers run.2.follows in
    let there : receiving.Reaches (whole x.before.phase x.before.recv p)
    (receiving_events_of x p) x.after.phase x.after.recv =
    subst (λ b. receiving.ReachesBy b (whole x.before.phase x.before.recv p)
    (receiving_events_of x p) x.after.phase x.after.recv) (not_last xs x.after u run.3 l) first in
    let rest = receiving_runs g xs x.after u there.0 run.3 l in
    let events : List RecvEvent = receiving_events_of x p ++ rest.0 in
    let reached : receiving.Reaches (whole x.before.phase x.before.recv p) events u.phase u.recv = (
      rest.2.0,
      calls_recv.append_run (whole x.before.phase x.before.recv p) (whole x.after.phase x.after.recv there.0)
          (whole u.phase u.recv rest.2.0) (receiving_events_of x p) rest.0 there.1 rest.2.1,
    ) in (
      events,
      (p, rest.0, refl, rest.1),
      subst (λ v. receiving.Reaches (whole v.phase v.recv p) events u.phase u.recv) run.0 reached,
    )
