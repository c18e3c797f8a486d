-- What a reply tells of the sending half: nothing, an own step, or that one is refused.
use Rattle.std.proofs.Common.{◌≡◌, ℕ, ◌==◌, ◌-◌, if◌then◌else◌, Bool, true, false, Option, Some, None, Result, Ok, Err}
use Rattle.std.proofs.Common.{List, [], ◌∷◌, refl, sym, ap, subst}
use Rattle.mta_ber.specs.declared.memory.Memory.{Memory as NoMemory}
use Rattle.mta_transfer_rules.specs.Lanes as h
use Rattle.mta_transfer_rules.specs.Lanes.{SeenStep}
use Rattle.mta_transfer_rules.specs.Sending as s
use Rattle.mta_transfer_rules.specs.Sending.{SendEnd, SendEvent}
use Rattle.mta_records.specs.declared.fault.CompleteFault.{CompleteFault}
use Rattle.mta_records.specs.declared.fault.CompleteFault.TheVariants as piece
use Rattle.mta_records.specs.declared.fault.StepFault.{StepFault}
use Rattle.mta_records.specs.declared.lane.Batch.{Batch}
use Rattle.mta_session.specs.declared.ask.Ask.{Ask}
use Rattle.mta_session.specs.declared.ask.Ask.TheVariants as ask
use Rattle.mta_session.specs.declared.ask.Reply.{Reply}
use Rattle.mta_session.specs.declared.ask.Reply.TheVariants as reply
use Rattle.mta_session.specs.declared.phase.OwnStep.{OwnStep}
use Rattle.mta_session.specs.declared.phase.OwnStep.TheVariants as own
use Rattle.mta_session.specs.declared.phase.Phase.{Phase}
use Rattle.mta_session.specs.declared.phase.Phase.TheVariants as phase
use Rattle.mta_session.specs.State.{State, peer_of}
use Rattle.mta_session.specs.Sending.{step_of}
use Rattle.mta_session.specs.Wanted.{ask_of, on_step, wanted_of_reply}
use Rattle.mta_session.specs.Fits.{RepliesTo, AnswersStep}
use Rattle.mta_session_laws.specs.Turning.{made_by}
use Rattle.mta_transfer_laws.specs.Sessions as x
use Rattle.mta_transfer_laws.specs.Sessions.{SessionEvent, Made, Looked, sending_event, sending_step_of, seen_after}
use Rattle.mta_transfer_laws.specs.Sessions.{step_seen}
use Rattle.mta_transfer_laws.specs.Sessions.{turn_after}
use Rattle.mta_lane_match_laws.specs.Asks.{IsAskOf, handed_by}
use Rattle.mta_session_list_laws.specs.Abandons.{step_upto, has_before}
use Rattle.mta_session_list_laws.specs.Calls.{on, step_told, look_told, told_as}
use Rattle.mta_session_list_laws.proofs.Found.{never}
use Rattle.mta_session_list_laws.proofs.SendingLooks.{RestsSend, own_seen}

-- ---- nothing

-- an event that does not concern the sending half
pub record IsQuiet (lane : ℕ) (y : SessionEvent) : Type 0 where
  pub before : has_before lane y ≡ None
  pub after : (from : ℕ) → seen_after lane from y ≡ from
  pub none : sending_event lane y ≡ []
  pub rests : (v : x.Turn) (e : SendEnd) → RestsSend v e y
  pub turns : (v : x.Turn) → turn_after v y ≡ v

if_nothing : (b : Bool) (xs : List SendEvent) → xs ≡ [] → (if b then xs else []) ≡ []
if_nothing true xs e = e
if_nothing false xs e = refl

pub made_quiet : (lane p j : ℕ) (step : SeenStep) → sending_step_of step ≡ [] → IsQuiet lane (Made p j step)
made_quiet lane p j step e =
    let none : sending_event lane (Made p j step) ≡ [] = if_nothing (j == lane) (sending_step_of step) e in
    record {
      before = ap (λ (z : List SendEvent). step_upto p z) none;
      after = λ from. ap (λ (z : List SendEvent). step_seen from p z) none;
      none = none;
      rests = λ v e. tt;
      turns = λ v. refl;
    }

-- a step on another lane
pub other_quiet : (lane p j : ℕ) (step : SeenStep) → (j == lane) ≡ false → IsQuiet lane (Made p j step)
other_quiet lane p j step e =
    let none : sending_event lane (Made p j step) ≡ [] =
    ap (λ (b : Bool). if b then sending_step_of step else []) e in
    record {
      before = ap (λ (z : List SendEvent). step_upto p z) none;
      after = λ from. ap (λ (z : List SendEvent). step_seen from p z) none;
      none = none;
      rests = λ v e. tt;
      turns = λ v. refl;
    }

elsewhere_quiet : (lane n : ℕ) → IsQuiet lane (Looked n x.Elsewhere)
elsewhere_quiet lane n = record
    { before = refl; after = λ from. refl; none = refl; rests = λ v e. tt; turns = λ v. refl }

finds_quiet : (lane n k m : ℕ) (piece : List ℕ) → IsQuiet lane (Looked n (x.Finds k m piece))
finds_quiet lane n k m piece = record
    { before = refl; after = λ from. refl; none = refl; rests = λ v e. tt; turns = λ v. refl }

batch_none_quiet : (lane n : ℕ) → IsQuiet lane (Looked n x.No_batch)
batch_none_quiet lane n = record
    { before = refl; after = λ from. refl; none = refl; rests = λ v e. tt; turns = λ v. refl }

abbrev pub Told : (lane seen : ℕ) → Ask → Reply → Type 0
Told lane seen q y = IsQuiet lane (told_as seen (step_told q y) (look_told q y))

batch_quiet : (lane seen : ℕ) (peer : List ℕ) (z : Result (Option Batch) NoMemory)
    → Told lane seen (ask.BatchFor peer) (reply.BatchFor z)
batch_quiet lane seen peer (Ok (Some b)) = elsewhere_quiet lane seen
batch_quiet lane seen peer (Ok None) = batch_none_quiet lane seen
batch_quiet lane seen peer (Err m) = elsewhere_quiet lane seen

secure_quiet : (lane seen n g k m : ℕ) (o : List ℕ) (z : Result (Unit {0}) CompleteFault)
    → Told lane seen (ask.Secure n g k m o) (reply.Secure z)
secure_quiet lane seen n g k m o (Ok w) = made_quiet lane (seen - 1) n (h.Secure g k m o) refl
secure_quiet lane seen n g k m o (Err (piece.Bad f)) = finds_quiet lane seen k m o
secure_quiet lane seen n g k m o (Err (piece.Step f)) = elsewhere_quiet lane seen

complete_quiet : (lane seen n g k m : ℕ) (o : List ℕ) (z : Result ℕ CompleteFault)
    → Told lane seen (ask.Complete n g k m o) (reply.Complete z)
complete_quiet lane seen n g k m o (Ok w) = made_quiet lane (seen - 1) n (h.Complete g k m o) refl
complete_quiet lane seen n g k m o (Err (piece.Bad f)) = finds_quiet lane seen k m o
complete_quiet lane seen n g k m o (Err (piece.Step f)) = elsewhere_quiet lane seen

drop_quiet : (lane seen n g k : ℕ) (z : Result (Unit {0}) StepFault)
    → Told lane seen (ask.DropActivity n g k) (reply.DropActivity z)
drop_quiet lane seen n g k (Ok w) = made_quiet lane (seen - 1) n (h.Drop g k) refl
drop_quiet lane seen n g k (Err f) = elsewhere_quiet lane seen

pub close_quiet : (lane seen n g : ℕ) (y : Reply) → Told lane seen (ask.CloseLane n g) y
close_quiet lane seen n g (reply.CloseLane (Ok w)) = made_quiet lane (seen - 1) n (h.CloseLane g) refl
close_quiet lane seen n g y = elsewhere_quiet lane seen

agree_quiet : (lane seen n g c w : ℕ) (z : Result (Unit {0}) StepFault)
    → Told lane seen (ask.LaneAgree n g c w) (reply.LaneAgree z)
agree_quiet lane seen n g c w (Ok v) = made_quiet lane (seen - 1) n _ refl
agree_quiet lane seen n g c w (Err f) = elsewhere_quiet lane seen

-- the phases whose questions are of something else
abbrev pub asks_else : Phase → Bool
asks_else phase.AsksValues = true
asks_else (phase.AsksReceiving state) = true
asks_else phase.AsksAgree = true
asks_else phase.AsksDue = true
asks_else phase.AsksBatch = true
asks_else (phase.AsksSecure k n) = true
asks_else (phase.AsksComplete k n) = true
asks_else (phase.AsksDrop k found) = true
asks_else p = false

asked_as : (lane seen : ℕ) (q z : Ask) (y : Reply) → q ≡ z → Told lane seen z y → Told lane seen q y
asked_as lane seen q z y e k = subst (λ w. Told lane seen w y) (sym e) k

pub else_quiet : (lane seen : ℕ) (p : Phase) (t : State) (q : Ask) (y : Reply) → asks_else p ≡ true → IsAskOf p t q
    → RepliesTo p t y → Told lane seen q y
else_quiet lane seen phase.AsksValues t q (reply.Values z) i k r =
    asked_as lane seen q _ (reply.Values z) k (elsewhere_quiet lane seen)
else_quiet lane seen (phase.AsksReceiving st) t q (reply.Receiving z) i k r =
    asked_as lane seen q _ (reply.Receiving z) k (elsewhere_quiet lane seen)
else_quiet lane seen phase.AsksAgree t q (reply.LaneAgree z) i k r =
    asked_as lane seen q _ (reply.LaneAgree z) k
    (agree_quiet lane seen t.lane t.generation t.checkpoint t.window z)
else_quiet lane seen phase.AsksDue t q (reply.BatchFor z) i k r =
    asked_as lane seen q _ (reply.BatchFor z) k (batch_quiet lane seen (peer_of t.side t.opened) z)
else_quiet lane seen phase.AsksBatch t q (reply.BatchFor z) i k r =
    asked_as lane seen q _ (reply.BatchFor z) k (batch_quiet lane seen (peer_of t.side t.opened) z)
else_quiet lane seen (phase.AsksSecure j n) t q (reply.Secure z) i k r =
    asked_as lane seen q _ (reply.Secure z) k (secure_quiet lane seen t.lane t.generation j n (handed_by q) z)
else_quiet lane seen (phase.AsksComplete j n) t q (reply.Complete z) i k r =
    asked_as lane seen q _ (reply.Complete z) k (complete_quiet lane seen t.lane t.generation j n (handed_by q) z)
else_quiet lane seen (phase.AsksDrop j found) t q (reply.DropActivity z) i k r =
    asked_as lane seen q _ (reply.DropActivity z) k (drop_quiet lane seen t.lane t.generation j z)
else_quiet lane seen phase.AsksPeer t q y i k r = absurd (never i)
else_quiet lane seen phase.AsksStands t q y i k r = absurd (never i)
else_quiet lane seen (phase.AsksNewLane again) t q y i k r = absurd (never i)
else_quiet lane seen phase.AsksSpare t q y i k r = absurd (never i)
else_quiet lane seen phase.AsksRoom t q y i k r = absurd (never i)
else_quiet lane seen phase.AsksOldLane t q y i k r = absurd (never i)
else_quiet lane seen phase.AsksBind t q y i k r = absurd (never i)
else_quiet lane seen phase.AsksRecovery t q y i k r = absurd (never i)
else_quiet lane seen (phase.AsksResumed st) t q y i k r = absurd (never i)
else_quiet lane seen phase.AsksDenied t q y i k r = absurd (never i)
else_quiet lane seen phase.AsksStart t q y i k r = absurd (never i)
else_quiet lane seen phase.AsksStillIdle t q y i k r = absurd (never i)
else_quiet lane seen (phase.AsksStep step) t q y i k r = absurd (never i)
else_quiet lane seen phase.AsksState t q y i k r = absurd (never i)
else_quiet lane seen phase.AsksClose t q y i k r = absurd (never i)
else_quiet lane seen (phase.AsksLast z) t q y i k r = absurd (never i)
else_quiet lane seen p t q y i k r = absurd r

-- ---- an own step

-- it was made, or refused
pub data StepReply (t : State) (step : OwnStep) (y : Reply) : Type 0 where
  makes : step_told (ask_of t step) y ≡ on t.lane (own_seen t step) → made_by step y ≡ s.Made (step_of step) ∷ []
      → wanted_of_reply (phase.AsksStep step) t y ≡ on_step t step (Ok tt) → StepReply t step y
  refuses : (f : StepFault) → step_told (ask_of t step) y ≡ None → look_told (ask_of t step) y ≡ x.At_sending
      → made_by step y ≡ [] → wanted_of_reply (phase.AsksStep step) t y ≡ on_step t step (Err f) → StepReply t step y

pub step_reply : (t : State) (step : OwnStep) (y : Reply) → AnswersStep step y → StepReply t step y
step_reply t (own.Confirm n) (reply.Confirm (Ok z)) k = makes refl refl refl
step_reply t (own.Confirm n) (reply.Confirm (Err f)) k = refuses f refl refl refl refl
step_reply t own.Ending (reply.Ending (Ok z)) k = makes refl refl refl
step_reply t own.Ending (reply.Ending (Err f)) k = refuses f refl refl refl refl
step_reply t own.Sent (reply.Sent (Ok z)) k = makes refl refl refl
step_reply t own.Sent (reply.Sent (Err f)) k = refuses f refl refl refl refl
step_reply t own.Dropped (reply.Dropped (Ok z)) k = makes refl refl refl
step_reply t own.Dropped (reply.Dropped (Err f)) k = refuses f refl refl refl refl
step_reply t (own.Refused j) (reply.Refused (Ok z)) k = makes refl refl refl
step_reply t (own.Refused j) (reply.Refused (Err f)) k = refuses f refl refl refl refl
step_reply t step y k = absurd k
