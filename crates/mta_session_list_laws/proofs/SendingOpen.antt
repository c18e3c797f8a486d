-- What a session that is open makes of what comes leaves its list's sending end at rest.
use Rattle.std.proofs.Common.{◌≡◌, inl, inr, ℕ, ◌&&◌, ◌==◌, not, nat_lt, if◌then◌else◌, Bool, true, false}
use Rattle.std.proofs.Common.{Option, Some, None, Result, Ok, Err, [], refl, sym, ap, subst, ◌∙◌}
use Rattle.mta_ber.specs.declared.memory.Memory.{Memory as NoMemory}
use Rattle.mta_lane_send.specs.declared.state.SendState.{SendState}
use Rattle.mta_lane_send.specs.declared.state.SendState.TheVariants as state
use Rattle.mta_lane_send.specs.Half.{is_idle, is_ending, is_sending, goes_on, last_of}
use Rattle.mta_units.specs.declared.unit.Unit.{Unit as AnyUnit}
use Rattle.mta_units.specs.declared.unit.Unit.TheVariants as unit
use Rattle.mta_transfer_rules.specs.Units.{LaneUnit}
use Rattle.mta_transfer_rules.specs.Units as u
use Rattle.mta_transfer_rules.specs.Receiving.{RecvEnd}
use Rattle.mta_transfer_rules.specs.Sending as s
use Rattle.mta_transfer_rules.specs.Sending.{SendEnd, SendStage, SendStep, is_dropping, is_discarded}
use Rattle.mta_records.specs.Outgoing.{Carried}
use Rattle.mta_records.specs.declared.fault.CompleteFault.{CompleteFault}
use Rattle.mta_records.specs.declared.fault.CompleteFault.TheVariants as piece
use Rattle.mta_records.specs.declared.fault.StepFault.{StepFault}
use Rattle.mta_records.specs.declared.fault.StepFault.TheVariants as fault
use Rattle.mta_records.specs.declared.lane.Batch.{Batch}
use Rattle.mta_session.specs.declared.ask.Reply.{Reply}
use Rattle.mta_session.specs.declared.ask.Reply.TheVariants as reply
use Rattle.mta_session.specs.declared.event.Event.TheVariants as event
use Rattle.mta_session.specs.declared.phase.Found.{Found}
use Rattle.mta_session.specs.declared.phase.OwnStep.{OwnStep}
use Rattle.mta_session.specs.declared.phase.Phase.{Phase}
use Rattle.mta_session.specs.declared.phase.Phase.TheVariants as phase
use Rattle.mta_session.specs.Receiving.{taken, is_free}
use Rattle.mta_session.specs.Sending.{called, heard, is_discard_put}
use Rattle.mta_session.specs.State.{State, is_initiator}
use Rattle.mta_session.specs.Wanted.{Wanted, Aborts}
use Rattle.mta_session.specs.Wanted.{on_abort, makes_or, goes_on_if, as_holder, as_listener, on_close, takes, on_unit}
use Rattle.mta_session.specs.Wanted.{on_close_ack, on_batch, on_due, on_start, on_still_idle, within}
use Rattle.mta_session.specs.Wanted.{is_still, is_cut, on_step, on_state, is_given_up, on_secured, on_completed}
use Rattle.mta_session.specs.Wanted.{on_dropped, goes_on_with, wanted_of_reply, wanted_of_go, wanted_of_over}
use Rattle.mta_session.specs.Follows.{counted}
use Rattle.mta_session.specs.Fits.{FitsAt}
use Rattle.mta_session_laws.specs.Called.{abort_unit}
use Rattle.mta_session_laws.specs.Turning.{is_open, called_for}
use Rattle.mta_session_laws.proofs.Linking.{eq_of, denied_last, sent_last}
use Rattle.mta_transfer_laws.specs.Sessions.{sending_event, answer_unit, gots_of, send_all}
use Rattle.mta_session_list_laws.specs.Calls.{got_as}
use Rattle.mta_session_list_laws.proofs.Found.{never, both}
use Rattle.mta_session_list_laws.proofs.SendingLeft.{Owes, Calm, Leaves}
use Rattle.mta_session_list_laws.proofs.TurnsUnits.{is_abort}

-- ---- calm ends

pub quiet_calm : (t : State) (b : SendEnd) → t.send.stage ≡ s.Quiet → Calm t b → s.CallsForNothing b
quiet_calm t b q (inl n) = n
quiet_calm t b q (inr k) = absurd (k.1 (subst (λ z. s.StageOwesNothing t.send z) (sym q) tt))

pub listening_calm : (t : State) (b : SendEnd) → t.ours ≡ false → Calm t b → s.CallsForNothing b
listening_calm t b o (inl n) = n
listening_calm t b o (inr k) = absurd (never (sym o ∙ k.0))

-- ---- units

module _ (lane : ℕ) (b : SendEnd) where
  -- a unit that is answered by an Abort is not taken
  abbrev pub Hears : Wanted → AnyUnit → Type 0
  Hears w y = Leaves (send_all b (sending_event lane (got_as w y))) w

  if_hears : (y : AnyUnit) (c : Bool) (w z : Wanted) → (c ≡ true → Hears w y) → (c ≡ false → Hears z y)
      → Hears (if c then w else z) y
  if_hears y true w z p q = p refl
  if_hears y false w z p q = q refl

  takes_hears : (t : State) (f : Option RecvEnd) (y : AnyUnit) → answer_unit y ≡ [] → s.CallsForNothing b
      → Hears (takes t f) y
  takes_hears t None y e n = tt
  takes_hears t (Some f) y e n =
      subst (λ us. Leaves (send_all b (gots_of us)) (takes t (Some f))) (sym e) (inl n)

  close_hears : (t : State) → s.CallsForNothing b → Hears (on_close t) unit.Close
  close_hears t n =
      if_hears unit.Close t.please _ _ (λ c. inl n)
      (λ c. if_hears unit.Close (t.twa && not (is_idle t.send.state)) _ _ (λ d. (refl, inl n)) (λ d. tt))

  listener_hears : (t : State) (y : AnyUnit) → is_abort y ≡ false → s.CallsForNothing b → Hears (as_listener t y) y
  listener_hears t unit.Give i n = if_hears unit.Give (t.twa && is_free t.recv.stage) _ _ (λ c. inl n) (λ c. tt)
  listener_hears t unit.Close i n =
      if_hears unit.Close (not (is_initiator t.side) && is_free t.recv.stage) _ _ (λ c. close_hears t n) (λ c. tt)
  listener_hears t (unit.Please priority) i n =
      if_hears (unit.Please priority) t.twa _ _ (λ c. inl n) (λ c. tt)
  listener_hears t (unit.Start k) i n = takes_hears t (taken t.checkpoint t.recv (unit.Start k)) (unit.Start k) refl n
  listener_hears t (unit.Piece k) i n = takes_hears t (taken t.checkpoint t.recv (unit.Piece k)) (unit.Piece k) refl n
  listener_hears t (unit.Sync k) i n = takes_hears t (taken t.checkpoint t.recv (unit.Sync k)) (unit.Sync k) refl n
  listener_hears t (unit.End k) i n = takes_hears t (taken t.checkpoint t.recv (unit.End k)) (unit.End k) refl n
  listener_hears t (unit.Resume k m) i n =
      takes_hears t (taken t.checkpoint t.recv (unit.Resume k m)) (unit.Resume k m) refl n
  listener_hears t (unit.Discard k) i n =
      takes_hears t (taken t.checkpoint t.recv (unit.Discard k)) (unit.Discard k) refl n
  listener_hears t (unit.Abort reason) i n = absurd (never (sym i))
  listener_hears t y i n = tt

  -- ---- with the turn

  some_is : (y z : LaneUnit) → Some y ≡ Some z → y ≡ z
  some_is y z e = cc

  -- ResumeAck calls for no step
  none_resumes : (e : SendEnd) (step : SendStep) (k n : ℕ) → s.IsCalledBy e step (u.ResumeAck k n) → ⊥
  none_resumes e (s.Start octets) k n c = c
  none_resumes e any1 k n c = c

  dropping_stays : (st : SendState) (k : ℕ) → is_dropping st ≡ true → goes_on st k ≡ true → ⊥
  dropping_stays (state.Dropping j) k d g = never g
  dropping_stays any0 k d g = never d

  -- nor does SyncAck where the activity is given up
  none_confirms : (e : SendEnd) (step : SendStep) (n : ℕ) → is_dropping e.state ≡ true
      → s.IsCalledBy e step (u.SyncAck n) → ⊥
  none_confirms e (s.Confirm m) n d c = dropping_stays e.state (last_of e.state) d c.1
  none_confirms e any1 n d c = c

  sync_passes : (t : State) (n : ℕ) (c : Bool) → (is_dropping t.send.state && is_discarded t.send.stage) ≡ c
      → b.state ≡ t.send.state
      → Hears (goes_on_if t (if c then Some t.send else None)) (unit.SyncAck n)
  sync_passes t n true q e =
      let drops : is_dropping b.state ≡ true =
      ap is_dropping e ∙ (both (is_dropping t.send.state) (is_discarded t.send.stage) q).0 in
      inl (λ y step h c. none_confirms (s.got b (u.SyncAck n)) step n drops
      (subst (λ z. s.IsCalledBy (s.got b (u.SyncAck n)) step z) (sym (some_is (u.SyncAck n) y h)) c))
  sync_passes t n false q e = tt

  resume_passes : (t : State) (k n : ℕ) (f : Option SendEnd) → Hears (goes_on_if t f) (unit.ResumeAck k n)
  resume_passes t k n None = tt
  resume_passes t k n (Some f) =
      inl (λ y step h c. none_resumes (s.got b (u.ResumeAck k n)) step k n
      (subst (λ z. s.IsCalledBy (s.got b (u.ResumeAck k n)) step z) (sym (some_is (u.ResumeAck k n) y h)) c))

  passes_hears : (t : State) (y : AnyUnit) → b.state ≡ t.send.state → Hears (goes_on_if t (heard t.send y)) y
  passes_hears t (unit.SyncAck n) e =
      sync_passes t n (is_dropping t.send.state && is_discarded t.send.stage) refl e
  passes_hears t (unit.ResumeAck k n) e = resume_passes t k n (heard t.send (unit.ResumeAck k n))
  passes_hears t y e = tt

  makes_hears : (t : State) (y : AnyUnit) (o : Option OwnStep) → b.state ≡ t.send.state → Hears (makes_or t y o) y
  makes_hears t y None e = passes_hears t y e
  makes_hears t y (Some step) e = tt

  holder_hears : (t : State) (y : AnyUnit) → b.state ≡ t.send.state → s.CallsForNothing b → Hears (as_holder t y) y
  holder_hears t (unit.Please priority) e n =
      if_hears (unit.Please priority) t.twa _ _ (λ c. inl n) (λ c. tt)
  holder_hears t y e n = makes_hears t y (called t.send y) e

  -- ---- an Abort settles what it answers

  pub denied_at : (st : SendState) (reason : ℕ) → b.state ≡ st → ((reason == 2) && not (is_idle st)) ≡ true
      → s.MayMake (send_all b (gots_of (answer_unit (unit.Abort reason)))) s.Denied
  denied_at st reason e i =
      let two : reason ≡ 2 = eq_of reason 2 (both (reason == 2) (not (is_idle st)) i).0 in
      let may : s.MayMake (s.got b (abort_unit reason)) s.Denied = (denied_last b st reason e i).0 two in
      subst (λ r. s.MayMake (send_all b (gots_of (answer_unit (unit.Abort r)))) s.Denied) (sym two)
      (subst (λ r. s.MayMake (s.got b (abort_unit r)) s.Denied) two may)

  pub sent_at : (st : SendState) (z : SendStage) (reason : ℕ) → b.state ≡ st → b.stage ≡ z
      → ((reason == 7) && is_ending st (last_of st) && is_discard_put z (last_of st)) ≡ true
      → s.MayMake (send_all b (gots_of (answer_unit (unit.Abort reason)))) s.Sent
  sent_at st z reason e q i =
      let front = both ((reason == 7) && is_ending st (last_of st)) (is_discard_put z (last_of st)) i in
      let seven : reason ≡ 7 = eq_of reason 7 (both (reason == 7) (is_ending st (last_of st)) front.0).0 in
      let may : s.MayMake (s.got b (abort_unit reason)) s.Sent = (sent_last b st z reason e q i).1 seven in
      subst (λ r. s.MayMake (send_all b (gots_of (answer_unit (unit.Abort r)))) s.Sent) (sym seven)
      (subst (λ r. s.MayMake (s.got b (abort_unit r)) s.Sent) seven may)

  pub abort_hears : (t : State) (reason : ℕ) → b.state ≡ t.send.state → b.stage ≡ t.send.stage
      → Hears (on_abort t reason) (unit.Abort reason)
  abort_hears t reason e q =
      if_hears (unit.Abort reason) ((reason == 2) && not (is_idle t.send.state)) _ _
      (λ c. denied_at t.send.state reason e c)
      (λ c. if_hears (unit.Abort reason)
      ((reason == 7) && is_ending t.send.state (last_of t.send.state)
      && is_discard_put t.send.stage (last_of t.send.state)) _ _
      (λ d. sent_at t.send.state t.send.stage reason e q d) (λ d. tt))

  -- ---- by phase

  abbrev IsOf : State → Type 0
  IsOf t = (b.state ≡ t.send.state) × (b.stage ≡ t.send.stage) × s.CallsForNothing b

  by_turn : (t : State) (y : AnyUnit) → is_abort y ≡ false → IsOf t
      → Hears (if t.ours then as_holder t y else as_listener t y) y
  by_turn t y i k =
      if_hears y t.ours _ _ (λ c. holder_hears t y k.0 k.2) (λ c. listener_hears t y i k.2)

  unit_hears : (t : State) (y : AnyUnit) → IsOf t → Hears (on_unit t y) y
  unit_hears t (unit.Abort reason) k = abort_hears t reason k.0 k.1
  unit_hears t y k = by_turn t y refl k

  close_ack_hears : (t : State) (y : AnyUnit) → IsOf t → Hears (on_close_ack t y) y
  close_ack_hears t unit.CloseAck k = tt
  close_ack_hears t (unit.Please priority) k =
      if_hears (unit.Please priority) t.twa _ _ (λ c. (refl, inl k.2)) (λ c. tt)
  close_ack_hears t (unit.Abort reason) k = abort_hears t reason k.0 k.1
  close_ack_hears t y k = tt

  pub within_hears : (t : State) (w : Wanted) (y : AnyUnit) → Hears w y → Hears (within t w) y
  within_hears t w y k = if_hears y (t.left == 0) (Aborts 3) w (λ c. tt) (λ c. k)

  pub reads_hears : (t : State) (y : AnyUnit) → IsOf t → Hears (called_for phase.Reads t y) y
  reads_hears t y k =
      let c : State = counted t (event.Unit y) in
      within_hears c (on_unit c y) y (unit_hears c y k)

  pub closing_hears : (t : State) (y : AnyUnit) → IsOf t → Hears (called_for phase.ReadsCloseAck t y) y
  closing_hears t y k =
      let c : State = counted t (event.Unit y) in
      within_hears c (on_close_ack c y) y (close_ack_hears c y k)

-- ---- replies

-- an own step was asked for, or whether it was given up
abbrev pub asks_own : Phase → Bool
asks_own (phase.AsksStep step) = true
asks_own phase.AsksState = true
asks_own p = false

module _ (mid : SendEnd) where
  if_leaves : (c : Bool) (w z : Wanted) → (c ≡ true → Leaves mid w) → (c ≡ false → Leaves mid z)
      → Leaves mid (if c then w else z)
  if_leaves true w z p q = p refl
  if_leaves false w z p q = q refl

  due_leaves : (t : State) (y : Result (Option Batch) NoMemory) → Calm t mid → Leaves mid (on_due t y)
  due_leaves t (Ok (Some batch)) c = (refl, c)
  due_leaves t (Ok None) c = c
  due_leaves t (Err m) c = tt

  batch_leaves : (t : State) (y : Result (Option Batch) NoMemory) → t.send.stage ≡ s.Quiet → Calm t mid
      → Leaves mid (on_batch t y)
  batch_leaves t (Ok (Some batch)) q c = c
  batch_leaves t (Ok None) q c =
      if_leaves (is_initiator t.side && not (t.please && t.twa)) _ _ (λ i. (refl, c))
      (λ i. (refl, inl (quiet_calm t mid q c)))
  batch_leaves t (Err m) q c = tt

  pub start_leaves : (t : State) (y : Result Carried StepFault) → t.send.stage ≡ s.Quiet → Calm t mid
      → Leaves mid (on_start t y)
  start_leaves t (Ok o) q c = inl (quiet_calm t mid q c)
  start_leaves t (Err fault.Unexpected) q c = c
  start_leaves t (Err f) q c = tt

  pub still_leaves : (t : State) (y : Option SendState) → Calm t mid → Leaves mid (on_still_idle t y)
  still_leaves t (Some told) c =
      if_leaves (is_still t.send.state told) _ _ (λ i. if_leaves (nat_lt 1 t.left) _ _ (λ j. c) (λ j. tt)) (λ i. tt)
  still_leaves t None c = tt

  secured_leaves : (t : State) (k n : ℕ) (y : Result (Unit {0}) CompleteFault) → Calm t mid
      → Leaves mid (on_secured t k n y)
  secured_leaves t k n (Ok z) c = c
  secured_leaves t k n (Err (piece.Bad f)) c = c
  secured_leaves t k n (Err (piece.Step f)) c = tt

  completed_leaves : (t : State) (k n : ℕ) (y : Result ℕ CompleteFault) → Calm t mid
      → Leaves mid (on_completed t k n y)
  completed_leaves t k n (Ok z) c = c
  completed_leaves t k n (Err (piece.Bad f)) c = c
  completed_leaves t k n (Err (piece.Step f)) c = tt

  found_leaves : (t v : State) (found : Option Found) → Calm v mid → Leaves mid (goes_on_with found v)
  found_leaves t v None c = c
  found_leaves t v (Some f) c = c

  dropped_leaves : (t : State) (k : ℕ) (found : Option Found) (y : Result (Unit {0}) StepFault) → Calm t mid
      → Leaves mid (on_dropped t k found y)
  dropped_leaves t k found (Ok z) c = found_leaves t _ found c
  dropped_leaves t k found (Err f) c = tt

  pub step_leaves : (t : State) (step : OwnStep) (y : Result (Unit {0}) StepFault) → s.CallsForNothing mid
      → Leaves mid (on_step t step y)
  step_leaves t step (Ok z) n = inl n
  step_leaves t step (Err fault.Unexpected) n = tt
  step_leaves t step (Err f) n = tt

  pub refused_leaves : (t : State) (step : OwnStep) (f : StepFault) → Leaves mid (on_step t step (Err f))
  refused_leaves t step fault.Unexpected = tt
  refused_leaves t step f = tt

  -- an activity that was given up is discarded before the next unit is got
  given_owes : (e : SendEnd) (z : SendStage) (k : ℕ) → is_cut z k ≡ true
      → s.StageOwesNothing (record e { state = state.Dropping k }) z → ⊥
  given_owes e s.Quiet k i o = never i
  given_owes e (s.Next j n) k i o = never o.0
  given_owes e (s.End_put j n) k i o = never i
  given_owes e (s.Resume_put j n) k i o = never o
  given_owes e (s.Discard_put j) k i o = never i
  given_owes e any1 k i o = o

  cut_owes : (e : SendEnd) (st : SendState) (k : ℕ) → e.state ≡ st → is_sending st k ≡ true → is_cut e.stage k ≡ true
      → Owes (s.made e s.Abandon)
  cut_owes e (state.Sending j n) k q i c = λ o. given_owes (s.made e s.Abandon) e.stage k c
      (subst (λ z. s.StageOwesNothing (record (s.made e s.Abandon) { state = z }) e.stage)
      (ap (λ (z : SendState). state.Dropping (last_of z)) q ∙ ap state.Dropping (sym (eq_of k j i))) o)
  cut_owes e any1 k q i c = absurd (never i)

  pub given_calm : (t : State) (told : SendState) → t.ours ≡ true → is_given_up t told ≡ true
      → Owes (s.made t.send s.Abandon)
  given_calm t (state.Dropping k) o g =
      let parts = both (is_sending t.send.state k) (is_cut t.send.stage k) g in
      cut_owes t.send t.send.state k refl parts.0 parts.1
  given_calm t any1 o g = absurd (never g)

  pub state_leaves : (t : State) (y : Option SendState) → t.ours ≡ true → Leaves mid (on_state t y)
  state_leaves t (Some told) o =
      if_leaves (is_given_up t told) _ _ (λ g. inr (o, given_calm t told o g)) (λ g. tt)
  state_leaves t None o = tt

  pub reply_leaves : (p : Phase) (t : State) (y : Reply) → is_open p ≡ true → asks_own p ≡ false → FitsAt p t
      → Calm t mid → Leaves mid (wanted_of_reply p t y)
  reply_leaves phase.AsksDue t (reply.BatchFor y) i o f c = due_leaves t y c
  reply_leaves phase.AsksBatch t (reply.BatchFor y) i o f c = batch_leaves t y f.3 c
  reply_leaves phase.AsksStart t (reply.Start y) i o f c = start_leaves t y f.3 c
  reply_leaves phase.AsksStillIdle t (reply.Recovery y) i o f c = still_leaves t y c
  reply_leaves (phase.AsksSecure k n) t (reply.Secure y) i o f c = secured_leaves t k n y c
  reply_leaves (phase.AsksComplete k n) t (reply.Complete y) i o f c = completed_leaves t k n y c
  reply_leaves (phase.AsksDrop k found) t (reply.DropActivity y) i o f c = dropped_leaves t k found y c
  reply_leaves (phase.AsksStep step) t y i o f c = absurd (never (sym o))
  reply_leaves phase.AsksState t y i o f c = absurd (never (sym o))
  reply_leaves phase.AsksPeer t y i o f c = absurd (never i)
  reply_leaves phase.AsksStands t y i o f c = absurd (never i)
  reply_leaves (phase.AsksNewLane again) t y i o f c = absurd (never i)
  reply_leaves phase.AsksSpare t y i o f c = absurd (never i)
  reply_leaves phase.AsksRoom t y i o f c = absurd (never i)
  reply_leaves phase.AsksOldLane t y i o f c = absurd (never i)
  reply_leaves phase.AsksBind t y i o f c = absurd (never i)
  reply_leaves phase.AsksValues t y i o f c = absurd (never i)
  reply_leaves phase.AsksRecovery t y i o f c = absurd (never i)
  reply_leaves (phase.AsksReceiving r) t y i o f c = absurd (never i)
  reply_leaves (phase.AsksResumed r) t y i o f c = absurd (never i)
  reply_leaves phase.AsksAgree t y i o f c = absurd (never i)
  reply_leaves phase.AsksDenied t y i o f c = absurd (never i)
  reply_leaves phase.AsksClose t y i o f c = absurd (never i)
  reply_leaves (phase.AsksLast z) t y i o f c = absurd (never i)
  reply_leaves p t y i o f c = tt

  pub go_leaves : (p : Phase) (t : State) → is_open p ≡ true → (p ≡ phase.Puts → Calm t mid)
      → (p ≡ phase.PutsClose → Calm t mid) → Leaves mid (wanted_of_go p t)
  go_leaves phase.Puts t i c d = c refl
  go_leaves phase.PutsClose t i c d = d refl
  go_leaves phase.Begin t i c d = absurd (never i)
  go_leaves phase.PutsOpen t i c d = absurd (never i)
  go_leaves phase.PutsAccept t i c d = absurd (never i)
  go_leaves (phase.PutsLast y) t i c d = absurd (never i)
  go_leaves p t i c d = tt

  pub bad_leaves : (t : State) → Leaves mid (within t (Aborts 4))
  bad_leaves t = if_leaves (t.left == 0) (Aborts 3) (Aborts 4) (λ c. tt) (λ c. tt)

  pub over_leaves : (p : Phase) → Leaves mid (wanted_of_over p)
  over_leaves (phase.PutsLast y) = tt
  over_leaves p = tt
