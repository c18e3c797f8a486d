-- What the events of a session's list are for its receiving half.
use Rattle.std.proofs.Common.{◌≡◌, ℕ, ◌==◌, if◌then◌else◌, Bool, true, false, Option, Some, None, Ok, Err, List, []}
use Rattle.std.proofs.Common.{◌∷◌}
use Rattle.std.proofs.Common.{◌++◌, refl, sym, ap}
use Rattle.std.proofs.lemmas.Bool.{eq-eqb}
use Rattle.std.proofs.lemmas.List.{append-nil}
use Rattle.mta_units.specs.declared.unit.Unit.{Unit as AnyUnit}
use Rattle.mta_units.specs.declared.unit.Unit.TheVariants as unit
use Rattle.mta_transfer_rules.specs.Units.{LaneUnit}
use Rattle.mta_transfer_rules.specs.Receiving.{RecvEvent}
use Rattle.mta_records.specs.declared.lane.LaneRole.TheVariants as role
use Rattle.mta_session.specs.declared.ask.Ask.{Ask}
use Rattle.mta_session.specs.declared.ask.Ask.TheVariants as ask
use Rattle.mta_session.specs.declared.ask.Reply.{Reply}
use Rattle.mta_session.specs.declared.ask.Reply.TheVariants as reply
use Rattle.mta_session.specs.Wanted.{Wanted, Aborts}
use Rattle.mta_session.specs.Follows.{part_of_abort}
use Rattle.mta_session_laws.specs.TurningRecv.{taken_as, unless_refused, with_put, with_unit}
use Rattle.mta_transfer_laws.specs.Sessions as x
use Rattle.mta_transfer_laws.specs.Sessions.{SessionEvent, Made, Looked, Look, transfer_unit, answer_unit, abort_unit}
use Rattle.mta_transfer_laws.specs.Sessions.{took_of}
use Rattle.mta_transfer_laws.specs.Sessions.{answers_of, found_by, receiving_step_of, receiving_event, TurnAllows}
use Rattle.mta_transfer_laws.specs.Sessions.{IsNone}
use Rattle.mta_session_list_laws.specs.Calls.{StepOn, step_told, look_told, told_as, got_as, looked_at}
use Rattle.mta_session_list_laws.proofs.Found.{never}
use Rattle.mta_session_list_laws.proofs.Handing.{is_common}

-- ---- units

took_same : (y : AnyUnit) → took_of (transfer_unit y) ≡ taken_as y
took_same (unit.Start k) = refl
took_same y = refl

none_took : (us : List LaneUnit) → IsNone us → took_of us ≡ []
none_took [] i = refl
none_took (y ∷ ys) i = absurd i

module _ (lane : ℕ) where
  pub nothing_taken : (w : Wanted) (y : AnyUnit) → took_of (transfer_unit y) ≡ []
      → receiving_event lane (got_as w y) ≡ []
  nothing_taken (Aborts reason) y e = refl
  nothing_taken any0 y e = e

  -- a holder of the turn takes no unit of a transfer
  pub own_taken : (w : Wanted) (y : AnyUnit) → TurnAllows x.Own (got_as w y)
      → receiving_event lane (got_as w y) ≡ unless_refused w []
  own_taken (Aborts reason) y k = refl
  own_taken any0 y k = none_took (transfer_unit y) k

  pub their_taken : (w : Wanted) (y : AnyUnit) → receiving_event lane (got_as w y) ≡ unless_refused w (taken_as y)
  their_taken (Aborts reason) y = refl
  their_taken any0 y = took_same y

abort_same : (told : List RecvEvent) (reason : ℕ) (b c : Bool) → (reason == 7) ≡ b → (reason == 2) ≡ c
    → with_put told (part_of_abort reason) ≡ told ++ answers_of (abort_unit reason)
abort_same told reason true c p q = rw p refl
abort_same told reason false true p q = rw p (rw q refl)
abort_same told reason false false p q = rw p (rw q (sym (append-nil told)))

-- a unit that is put, but for those of the link
pub put_same : (told : List RecvEvent) (y : AnyUnit) → is_common y ≡ true
    → with_unit told y ≡ told ++ answers_of (answer_unit y)
put_same told (unit.Open o) i = absurd (never i)
put_same told (unit.Accept c w a) i = absurd (never i)
put_same told (unit.Reject reason) i = absurd (never i)
put_same told (unit.SyncAck n) i = refl
put_same told (unit.EndAck k) i = refl
put_same told (unit.ResumeAck k n) i = refl
put_same told (unit.DiscardAck k) i = refl
put_same told (unit.Exception kind at) i = refl
put_same told (unit.Abort reason) i = abort_same told reason (reason == 7) (reason == 2) refl refl
put_same told y i = sym (append-nil told)

-- ---- replies

abbrev pub is_receiving : Reply → Bool
is_receiving (reply.Secure y) = true
is_receiving (reply.Complete y) = true
is_receiving (reply.DropActivity y) = true
is_receiving y = false

abbrev pub QuietStep : Option StepOn → Type 0
QuietStep None = Unit {0}
QuietStep (Some z) = receiving_step_of z.step ≡ []

if_none : (b : Bool) (xs : List RecvEvent) → xs ≡ [] → ◌≡◌ {A = List RecvEvent} (if b then xs else []) []
if_none true xs e = e
if_none false xs e = refl

quiet_event : (lane seen : ℕ) (o : Option StepOn) (look : Look) → QuietStep o → found_by look ≡ []
    → receiving_event lane (told_as seen o look) ≡ []
quiet_event lane seen (Some z) look q e = if_none (z.lane == lane) (receiving_step_of z.step) q
quiet_event lane seen None look q e = e

finds_none : (a : Ask) → found_by (looked_at a) ≡ []
finds_none (ask.Start lane g batch) = refl
finds_none a = refl

look_none : (a : Ask) (y : Reply) → is_receiving y ≡ false → found_by (look_told a y) ≡ []
look_none (ask.BatchFor peer) (reply.BatchFor (Ok None)) i = refl
look_none (ask.BatchFor peer) (reply.BatchFor (Ok (Some batch))) i = refl
look_none (ask.BatchFor peer) (reply.BatchFor (Err m)) i = refl
look_none a (reply.Secure y) i = absurd (never (sym i))
look_none a (reply.Complete y) i = absurd (never (sym i))
look_none a (reply.DropActivity y) i = absurd (never (sym i))
look_none a y i = finds_none a

pub quiet_step : (a : Ask) (y : Reply) → is_receiving y ≡ false → QuietStep (step_told a y)
quiet_step (ask.LaneOpen role.Initiator peer reference twa c w) (reply.LaneOpen (Ok lane)) i = refl
quiet_step (ask.LaneOpen role.Responder peer reference twa c w) (reply.LaneOpen (Ok lane)) i = refl
quiet_step (ask.LaneAgree lane g c w) (reply.LaneAgree (Ok z)) i = refl
quiet_step (ask.Bind lane) (reply.Bind (Ok g)) i = refl
quiet_step (ask.Start lane g batch) (reply.Start (Ok o)) i = refl
quiet_step (ask.Confirm lane g k n) (reply.Confirm (Ok z)) i = refl
quiet_step (ask.Ending lane g k) (reply.Ending (Ok z)) i = refl
quiet_step (ask.Sent lane g k) (reply.Sent (Ok z)) i = refl
quiet_step (ask.Dropped lane g k) (reply.Dropped (Ok z)) i = refl
quiet_step (ask.Denied lane g k) (reply.Denied (Ok z)) i = refl
quiet_step (ask.Refused lane g k kind) (reply.Refused (Ok z)) i = refl
quiet_step (ask.CloseLane lane g) (reply.CloseLane (Ok z)) i = refl
quiet_step a (reply.Secure y) i = absurd (never (sym i))
quiet_step a (reply.Complete y) i = absurd (never (sym i))
quiet_step a (reply.DropActivity y) i = absurd (never (sym i))
quiet_step a y i = tt

-- what does not concern the half
pub quiet_reply : (lane seen : ℕ) (a : Ask) (y : Reply) → is_receiving y ≡ false
    → receiving_event lane (told_as seen (step_told a y) (look_told a y)) ≡ []
quiet_reply lane seen a y i = quiet_event lane seen (step_told a y) (look_told a y) (quiet_step a y i) (look_none a y i)

pub own_step : (lane : ℕ) (xs : List RecvEvent) → (if lane == lane then xs else []) ≡ xs
own_step lane xs = ap (λ (b : Bool). if b then xs else []) (eq-eqb lane lane refl)
