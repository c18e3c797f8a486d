-- What a call of a session does.
use Rattle.std.proofs.Common.{◌≡◌, ◌<◌, ℕ, ◌-◌, ◌==◌, Bool, true, false, if◌then◌else◌, refl}
use Rattle.std.proofs.Common.{subst, arith}
use Rattle.std.proofs.lemmas.Bool.{ne_eqb}
use Rattle.mta_units.specs.declared.unit.Unit.TheVariants as unit
use Rattle.mta_session.specs.declared.event.Action.{Action}
use Rattle.mta_session.specs.declared.event.Event.{Event}
use Rattle.mta_session.specs.declared.phase.Phase.{Phase}
use Rattle.mta_session.specs.declared.phase.Phase.TheVariants as phase
use Rattle.mta_session.specs.Follows.{Does, Follows, FollowsAt, GoesOn, counted}
use Rattle.mta_session.specs.Rank.{is_over}
use Rattle.mta_session.specs.State.{State}
use Rattle.mta_session.specs.Wanted.{Goes_on, wanted}
use Rattle.mta_session_next_laws.specs.Next.{CallsDoNext, HoldersAsk, ListenersTake, MayGoOn}
use Rattle.mta_session_next_laws.specs.Next.{next_of_receiver, next_of_sender}
use Rattle.mta_session_next_laws.proofs.Holding.{holders_go_on}
use Rattle.mta_session_next_laws.proofs.Listening.{listeners_go_on}

-- a session that is not over follows the table
does_at : (p : Phase) (t : State) (e : Event) (a : Action) (new : State) → is_over p ≡ false → FollowsAt p t e a new
    → Does (counted t e) (wanted (counted t e) e) a new
does_at (phase.Ended x1) t e a new i f = absurd cc
does_at any0 t e a new i f = f

goes_so : (t after : State) (e : Event) (a : Action) (new : State) → is_over t.phase ≡ false
    → wanted (counted t e) e ≡ Goes_on after → Follows t e a new → GoesOn after a new
goes_so t after e a new i w f = subst (λ z. Does (counted t e) z a new) w (does_at t.phase t e a new i f)

next_so : (b : Bool) (t : State) (a : Action) (new : State) → t.ours ≡ b → MayGoOn t → GoesOn t a new
    → ◌≡◌ {A = Action × State} (a, new)
    (if b then next_of_sender t.send.stage t else next_of_receiver t.recv.stage t)
next_so true t a new i m g = holders_go_on t a new i (m.sends i) (m.free i) g
next_so false t a new i m g = listeners_go_on t a new i (m.fits i) (m.high i) g

pub calls_do_next : CallsDoNext
calls_do_next t after e a new i w m f = next_so after.ours after a new refl m (goes_so t after e a new i w f)

-- ---- units

pub not_last : (left : ℕ) → 1 < left → (left - 1 == 0) ≡ false
not_last left more = ne_eqb (left - 1) 0 (λ z. omega (arith, more, z))

pub listeners_take : ListenersTake
listeners_take t (unit.Start k) e p i l x q = rw (not_last t.left l, p, i, q) refl
listeners_take t (unit.Piece piece) e p i l x q = rw (not_last t.left l, p, i, q) refl
listeners_take t (unit.Sync n) e p i l x q = rw (not_last t.left l, p, i, q) refl
listeners_take t (unit.End k) e p i l x q = rw (not_last t.left l, p, i, q) refl
listeners_take t (unit.Resume k n) e p i l x q = rw (not_last t.left l, p, i, q) refl
listeners_take t (unit.Discard k) e p i l x q = rw (not_last t.left l, p, i, q) refl
listeners_take t any1 e p i l x q = absurd cc

pub holders_ask : HoldersAsk
holders_ask t (unit.SyncAck n) step p i l q = rw (not_last t.left l, p, i, q) refl
holders_ask t (unit.EndAck k) step p i l q = rw (not_last t.left l, p, i, q) refl
holders_ask t (unit.DiscardAck k) step p i l q = rw (not_last t.left l, p, i, q) refl
holders_ask t (unit.Exception kind at) step p i l q = rw (not_last t.left l, p, i, q) refl
holders_ask t any1 step p i l q = absurd cc
