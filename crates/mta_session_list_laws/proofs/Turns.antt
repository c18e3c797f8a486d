-- Whose turn it is in a session's list: what a session wants keeps the turn, in each of its phases.
use Rattle.std.proofs.Common.{◌≡◌, ◌⊎◌, inl, inr, ℕ, if◌then◌else◌, Bool, true, false}
use Rattle.std.proofs.Common.{refl, sym, ap, subst, ◌∙◌}
use Rattle.mta_units.specs.declared.unit.Unit.{Unit as AnyUnit}
use Rattle.mta_units.specs.declared.unit.Unit.TheVariants as unit
use Rattle.mta_session.specs.declared.event.Side.{Side}
use Rattle.mta_session.specs.declared.event.Side.TheVariants as side
use Rattle.mta_session.specs.declared.phase.Phase.{Phase}
use Rattle.mta_session.specs.declared.phase.Phase.TheVariants as phase
use Rattle.mta_session.specs.State.{State, is_initiator}
use Rattle.mta_session.specs.Wanted.{Wanted, Aborts, Rejects, Ends, Puts, Asks, Reads, Goes_on, Excepts, Never}
use Rattle.mta_transfer_laws.specs.Sessions as x
use Rattle.mta_transfer_laws.specs.Sessions.{SessionEvent, Got, Refused, Put, Turn, turn_put, turn_got, turn_after}
use Rattle.mta_transfer_laws.specs.Sessions.{TurnAllows}
use Rattle.mta_session_list_laws.specs.Calls.{got_as}
use Rattle.mta_session_list_laws.proofs.Found.{never}

-- ---- the turn of a state

-- Where this end does not have the turn, Close may have been got that crossed its Please.
abbrev pub HoldsBy : (ours please : Bool) → Turn → Type 0
HoldsBy true please v = v ≡ x.Own
HoldsBy false please v = (v ≡ x.Theirs) ⊎ ((v ≡ x.Their_closing) × (please ≡ true))

abbrev pub HasTurn : State → Turn → Type 0
HasTurn t v = HoldsBy t.ours t.please v

-- the initiator closes behind CloseAck, the responder behind Close
abbrev pub Closes : Side → Turn → Type 0
Closes (side.Initiator p) v = v ≡ x.Acknowledged
Closes (side.Responder own) v = v ≡ x.Their_closing

abbrev pub Holds : Phase → State → Turn → Type 0
Holds phase.Begin t v = (v ≡ x.Before_accept) × (is_initiator t.side ≡ true)
Holds phase.AsksValues t v = v ≡ x.Before_accept
Holds phase.AsksRecovery t v = v ≡ x.Before_accept
Holds (phase.AsksReceiving state) t v = v ≡ x.Before_accept
Holds (phase.AsksResumed state) t v = v ≡ x.Before_accept
Holds phase.PutsOpen t v = v ≡ x.Before_accept
Holds phase.ReadsAnswer t v = v ≡ x.Before_accept
Holds phase.AsksAgree t v = v ≡ x.Own
Holds phase.PutsAccept t v = v ≡ x.Theirs
Holds phase.AsksDue t v = v ≡ x.Theirs
Holds phase.PutsClose t v = (v ≡ x.Own_closing) × (is_initiator t.side ≡ true)
Holds phase.ReadsCloseAck t v = (v ≡ x.Own_closing) × (is_initiator t.side ≡ true)
Holds phase.AsksClose t v = Closes t.side v
Holds phase.AsksDenied t v = Unit {0}
Holds (phase.AsksLast y) t v = Unit {0}
Holds (phase.PutsLast y) t v = Unit {0}
Holds (phase.Ended y) t v = Unit {0}
Holds phase.Puts t v = HasTurn t v
Holds phase.Reads t v = HasTurn t v
Holds phase.AsksBatch t v = HasTurn t v
Holds phase.AsksStart t v = HasTurn t v
Holds phase.AsksStillIdle t v = HasTurn t v
Holds (phase.AsksStep step) t v = HasTurn t v
Holds phase.AsksState t v = HasTurn t v
Holds (phase.AsksSecure k n) t v = HasTurn t v
Holds (phase.AsksComplete k n) t v = HasTurn t v
Holds (phase.AsksDrop k found) t v = HasTurn t v
Holds p t v = ⊥

-- ---- what is wanted

abbrev pub TurnGoes : Turn → Wanted → Type 0
TurnGoes v (Aborts reason) = TurnAllows v (Put (unit.Abort reason))
TurnGoes v (Rejects reason) = TurnAllows v (Put (unit.Reject reason))
TurnGoes v (Ends e) = Unit {0}
TurnGoes v (Puts u t) = TurnAllows v (Put u) × Holds t.phase t (turn_put v u)
TurnGoes v (Asks a t) = Holds t.phase t v
TurnGoes v (Reads t) = Holds t.phase t v
TurnGoes v (Goes_on t) = HasTurn t v
TurnGoes v (Excepts t f) = HasTurn t v
TurnGoes v Never = Unit {0}

-- a unit is got
abbrev pub UnitGoes : Turn → AnyUnit → Wanted → Type 0
UnitGoes v u w = TurnAllows v (got_as w u) × TurnGoes (turn_after v (got_as w u)) w

pub if_goes : (v : Turn) (b : Bool) (w z : Wanted) → (b ≡ true → TurnGoes v w) → (b ≡ false → TurnGoes v z)
    → TurnGoes v (if b then w else z)
if_goes v true w z p q = p refl
if_goes v false w z p q = q refl

pub if_unit : (v : Turn) (u : AnyUnit) (b : Bool) (w z : Wanted) → (b ≡ true → UnitGoes v u w)
    → (b ≡ false → UnitGoes v u z) → UnitGoes v u (if b then w else z)
if_unit v u true w z p q = p refl
if_unit v u false w z p q = q refl

-- ---- who has the turn

pub own_turn : (o p : Bool) (v : Turn) → o ≡ true → HoldsBy o p v → v ≡ x.Own
own_turn true p v i k = k
own_turn false p v i k = absurd (never i)

-- an Abort may be put by either end
pub abort_allowed : (o p : Bool) (v : Turn) (reason : ℕ) → HoldsBy o p v → TurnAllows v (Put (unit.Abort reason))
abort_allowed true p v reason k = subst (λ z. TurnAllows z (Put (unit.Abort reason))) (sym k) tt
abort_allowed false p v reason (inl k) = subst (λ z. TurnAllows z (Put (unit.Abort reason))) (sym k) tt
abort_allowed false p v reason (inr k) = subst (λ z. TurnAllows z (Put (unit.Abort reason))) (sym k.0) tt

-- the end that has it puts units of its transfer
abbrev pub is_transfer : AnyUnit → Bool
is_transfer (unit.Start k) = true
is_transfer (unit.Piece octets) = true
is_transfer (unit.Sync n) = true
is_transfer (unit.End k) = true
is_transfer (unit.Resume k n) = true
is_transfer (unit.Discard k) = true
is_transfer u = false

-- and the other answers them
abbrev pub is_answer : AnyUnit → Bool
is_answer (unit.SyncAck n) = true
is_answer (unit.EndAck k) = true
is_answer (unit.ResumeAck k n) = true
is_answer (unit.DiscardAck k) = true
is_answer (unit.Exception kind at) = true
is_answer u = false

transfer_put : (u : AnyUnit) → is_transfer u ≡ true
    → TurnAllows x.Own (Put u) × (turn_put x.Own u ≡ x.Own)
transfer_put (unit.Start k) i = (tt, refl)
transfer_put (unit.Piece octets) i = (tt, refl)
transfer_put (unit.Sync n) i = (tt, refl)
transfer_put (unit.End k) i = (tt, refl)
transfer_put (unit.Resume k n) i = (tt, refl)
transfer_put (unit.Discard k) i = (tt, refl)
transfer_put u i = absurd (never i)

answer_put : (v : Turn) (u : AnyUnit) → is_answer u ≡ true → (v ≡ x.Own) ⊎ ((v ≡ x.Theirs) ⊎ (v ≡ x.Their_closing))
    → TurnAllows v (Put u) × (turn_put v u ≡ v)
answer_put v (unit.SyncAck n) i (inl k) = subst
    (λ z. TurnAllows z (Put (unit.SyncAck n)) × (turn_put z (unit.SyncAck n) ≡ z)) (sym k) (tt, refl)
answer_put v (unit.EndAck n) i (inl k) = subst
    (λ z. TurnAllows z (Put (unit.EndAck n)) × (turn_put z (unit.EndAck n) ≡ z)) (sym k) (tt, refl)
answer_put v (unit.ResumeAck j n) i (inl k) = subst
    (λ z. TurnAllows z (Put (unit.ResumeAck j n)) × (turn_put z (unit.ResumeAck j n) ≡ z)) (sym k) (tt, refl)
answer_put v (unit.DiscardAck n) i (inl k) = subst
    (λ z. TurnAllows z (Put (unit.DiscardAck n)) × (turn_put z (unit.DiscardAck n) ≡ z)) (sym k) (tt, refl)
answer_put v (unit.Exception j n) i (inl k) = subst
    (λ z. TurnAllows z (Put (unit.Exception j n)) × (turn_put z (unit.Exception j n) ≡ z)) (sym k) (tt, refl)
answer_put v (unit.SyncAck n) i (inr (inl k)) = subst
    (λ z. TurnAllows z (Put (unit.SyncAck n)) × (turn_put z (unit.SyncAck n) ≡ z)) (sym k) (tt, refl)
answer_put v (unit.EndAck n) i (inr (inl k)) = subst
    (λ z. TurnAllows z (Put (unit.EndAck n)) × (turn_put z (unit.EndAck n) ≡ z)) (sym k) (tt, refl)
answer_put v (unit.ResumeAck j n) i (inr (inl k)) = subst
    (λ z. TurnAllows z (Put (unit.ResumeAck j n)) × (turn_put z (unit.ResumeAck j n) ≡ z)) (sym k) (tt, refl)
answer_put v (unit.DiscardAck n) i (inr (inl k)) = subst
    (λ z. TurnAllows z (Put (unit.DiscardAck n)) × (turn_put z (unit.DiscardAck n) ≡ z)) (sym k) (tt, refl)
answer_put v (unit.Exception j n) i (inr (inl k)) = subst
    (λ z. TurnAllows z (Put (unit.Exception j n)) × (turn_put z (unit.Exception j n) ≡ z)) (sym k) (tt, refl)
answer_put v (unit.SyncAck n) i (inr (inr k)) = subst
    (λ z. TurnAllows z (Put (unit.SyncAck n)) × (turn_put z (unit.SyncAck n) ≡ z)) (sym k) (tt, refl)
answer_put v (unit.EndAck n) i (inr (inr k)) = subst
    (λ z. TurnAllows z (Put (unit.EndAck n)) × (turn_put z (unit.EndAck n) ≡ z)) (sym k) (tt, refl)
answer_put v (unit.ResumeAck j n) i (inr (inr k)) = subst
    (λ z. TurnAllows z (Put (unit.ResumeAck j n)) × (turn_put z (unit.ResumeAck j n) ≡ z)) (sym k) (tt, refl)
answer_put v (unit.DiscardAck n) i (inr (inr k)) = subst
    (λ z. TurnAllows z (Put (unit.DiscardAck n)) × (turn_put z (unit.DiscardAck n) ≡ z)) (sym k) (tt, refl)
answer_put v (unit.Exception j n) i (inr (inr k)) = subst
    (λ z. TurnAllows z (Put (unit.Exception j n)) × (turn_put z (unit.Exception j n) ≡ z)) (sym k) (tt, refl)
answer_put v u i k = absurd (never i)

some_turn : (o p : Bool) (v : Turn) → HoldsBy o p v → (v ≡ x.Own) ⊎ ((v ≡ x.Theirs) ⊎ (v ≡ x.Their_closing))
some_turn true p v k = inl k
some_turn false p v (inl k) = inr (inl k)
some_turn false p v (inr k) = inr (inr k.0)

pub transfer_keeps : (o p : Bool) (v : Turn) (u : AnyUnit) → is_transfer u ≡ true → o ≡ true → HoldsBy o p v
    → TurnAllows v (Put u) × HoldsBy o p (turn_put v u)
transfer_keeps o p v u i own k =
    let same : v ≡ x.Own = own_turn o p v own k in
    let puts = transfer_put u i in
    let stays : turn_put v u ≡ v = ap (λ (z : Turn). turn_put z u) same ∙ puts.1 ∙ sym same in
    (subst (λ z. TurnAllows z (Put u)) (sym same) puts.0, subst (λ z. HoldsBy o p z) (sym stays) k)

pub answer_keeps : (o p : Bool) (v : Turn) (u : AnyUnit) → is_answer u ≡ true → HoldsBy o p v
    → TurnAllows v (Put u) × HoldsBy o p (turn_put v u)
answer_keeps o p v u i k =
    let puts = answer_put v u i (some_turn o p v k) in
    (puts.0, subst (λ z. HoldsBy o p z) (sym puts.1) k)
