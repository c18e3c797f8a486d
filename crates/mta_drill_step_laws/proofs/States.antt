-- What the steps of a drill leave of the states of both agents.
use Rattle.std.proofs.Common.{◌≡◌, ℕ, zero, suc, ◌+◌, ◌&&◌, true, false, List, [], ◌∷◌, Option, Some, None}
use Rattle.std.proofs.Common.{refl}
use Rattle.std.proofs.Common.{sym, ap, subst, arith}
use Rattle.std.specs.List.{concat}
use Rattle.mta_lane_send.specs.declared.state.SendState.{SendState}
use Rattle.mta_lane_send.specs.declared.state.SendState.TheVariants as state
use Rattle.mta_lane_send.specs.Half.{is_idle}
use Rattle.mta_records.specs.declared.state.Origin.TheVariants as Origins
use Rattle.mta_machine.specs.Items.{ItemValue, numbered}
use Rattle.mta_machine.specs.Machine.{accept, discharge, machine_run, sent}
use Rattle.mta_machine.specs.Rules.{outgoing_copy}
use Rattle.mta_histories.specs.Classes.{Class, LaneStep, class_of, complete, on_lane, settle, was_sent}
use Rattle.mta_histories.specs.Classes.{abandon, agree, bind, close, confirm, drop_pieces, secure, start, to_end}
use Rattle.mta_histories.specs.Classes.{opens}
use Rattle.mta_histories.specs.History.{copied, machine_left, on_lane_steps, with_piece}
use Rattle.mta_histories.specs.Lanes.{Lane, State, Transfer, activities_of, holds, is_for, is_transferring, lane_at}
use Rattle.mta_histories.proofs.SoundMachine.{numbered-some}
use Rattle.mta_drill_laws.specs.Messages.{copy_of, message_of}
use Rattle.mta_drill_laws.specs.Tables.{east, first_text, second_text}
use Rattle.mta_drill_laws.proofs.Relayed.{messages_relayed}
use Rattle.mta_drill_step_laws.specs.First.{HasAccepted}
use Rattle.mta_drill_step_laws.specs.Second.{HasGot}
use Rattle.mta_drill_step_laws.specs.States.{AcceptedIsOneMore, CompleteIsOneMore, DeliveredIsOneMore, FirstBegins}
use Rattle.mta_drill_step_laws.specs.States.{fresh}
use Rattle.mta_drill_step_laws.specs.States.{IdleLanesLeaveAllFree, NoLanesLeaveAllFree, SecondBegins, SentIsOneMore}
use Rattle.mta_drill_step_laws.specs.States.{StillStepsLeaveItems, TransferIsCopy, is_still}
use Rattle.mta_drill_step_laws.specs.States.{is_still_on_lane}
use Rattle.mta_drill_step_laws.proofs.First.{accept_leads_on, sent_leads_on, text-last}
use Rattle.mta_drill_step_laws.proofs.Second.{complete_leads_on, deliver_leads_on}

-- ---- steps that the items do not see

still-lane : (o : Option Lane) (ls : LaneStep) (moment : ℕ) → is_still_on_lane ls ≡ true
    → on_lane_steps o ls moment ≡ []
still-lane None ls moment e = refl
still-lane (Some lane) (agree checkpoint window) moment e = refl
still-lane (Some lane) bind moment e = refl
still-lane (Some lane) (start k i rs) moment e = refl
still-lane (Some lane) (confirm k n) moment e = refl
still-lane (Some lane) (to_end k) moment e = refl
still-lane (Some lane) (secure k n piece) moment e = refl
still-lane (Some lane) (drop_pieces k) moment e = refl
still-lane (Some lane) close moment e = refl
still-lane (Some lane) (settle outcome k) moment e = absurd cc
still-lane (Some lane) (abandon k) moment e = absurd cc
still-lane (Some lane) (complete k n piece) moment e = absurd cc

still-class : (s : State) (c : Class) (moment : ℕ) → is_still c ≡ true → machine_left s c moment ≡ s.machine
still-class s (opens role peer reference twa checkpoint window) moment e = refl
still-class s (on_lane n g ls) moment e =
    ap (machine_run s.machine) (still-lane (lane_at n s.lanes.open_lanes) ls moment e)
still-class s any0 moment e = absurd cc

pub still_steps : StillStepsLeaveItems
still_steps s made e = still-class s (class_of made) _ e

-- ---- before the first message

no-item : {A : Type 0} (k : ℕ) (x : A) → numbered [] k ≡ Some x → ⊥
no-item zero x e = absurd cc
no-item (suc k) x e = absurd cc

first-fresh : (before : ℕ) → HasAccepted before 0 0 (record fresh { tables = first_text ∷ [] })
first-fresh before = record {
  format = refl;
  tables = refl;
  moment = refl;
  items = refl;
  within = omega arith;
  each = λ k item e. absurd (no-item k item e);
  mailboxes = refl;
}

second-fresh : (before : ℕ) → HasGot before 0 0 (record fresh { tables = second_text ∷ [] })
second-fresh before = record {
  format = refl;
  tables = refl;
  moment = refl;
  items = refl;
  within = omega arith;
  each = λ k item e. absurd (no-item k item e);
  lines = refl;
  each_line = λ k line e. absurd (no-item k line e);
}

pub first_begins : FirstBegins
first_begins before s e = rw e (first-fresh before)

pub second_begins : SecondBegins
second_begins before s e = rw e (second-fresh before)

-- ---- a message

pub accepted_is_one_more : AcceptedIsOneMore
accepted_is_one_more before count s h = accept_leads_on before count s.machine h

copied-so : (a : Option (List ℕ)) (b : Option ItemValue) (text octets copy : List ℕ) (item : ItemValue)
    → a ≡ Some text → b ≡ Some item → item.octets ≡ octets → item.arrival ≡ 0
    → outgoing_copy text octets 0 (1 ∷ []) 0 ≡ Some copy → copied a b (1 ∷ []) 0 ≡ copy
copied-so a b text octets copy item ea eb eo et c = rw (ea, eb) (rw (eo, et, c) refl)

pub transfer_is_copy : TransferIsCopy
transfer_is_copy before count done s h le =
    let found = numbered-some s.machine.items (done + 1) (omega arith) (omega (arith, h.items, le)) in
    let is = h.each (done + 1) found.0 found.1 in
    copied-so (numbered s.machine.tables _) (numbered s.machine.items (done + 1)) first_text
    (message_of (before + (done + 1))) (copy_of (before + (done + 1))) found.0 (text-last before count done s.machine h)
    found.1 is.octets is.arrival (messages_relayed (before + (done + 1))).copy

sent-steps : (o : Option Lane) (lane : Lane) (done k : ℕ) (t : Transfer) → o ≡ Some lane → lane.peer ≡ east
    → lane.transfer ≡ Some t → t.item ≡ done + 1 → t.recipients ≡ 1 ∷ []
    → on_lane_steps o (settle was_sent k) 0
    ≡ discharge (done + 1) (1 ∷ []) (sent east t.tables t.moment t.format) 0 ∷ []
sent-steps o lane done k t e p q i r = rw (e, q) (rw (p, i, r) refl)

pub sent_is_one_more : SentIsOneMore
sent_is_one_more before count done n g k s lane h le found t =
    let steps = sent-steps (lane_at n s.lanes.open_lanes) lane done k t.transfer found t.peer t.transfer_is t.item
    t.recipients in
    subst (λ xs. HasAccepted before count (done + 1) (machine_run s.machine xs)) (sym steps)
    (sent_leads_on before count done t.transfer.tables t.transfer.moment t.transfer.format s.machine h le)

complete-steps : (o : Option Lane) (lane : Lane) (k m : ℕ) (piece octets : List ℕ) → o ≡ Some lane
    → concat (with_piece lane.pieces m piece) ≡ octets
    → on_lane_steps o (complete k m piece) 0 ≡ accept octets Origins.Lane 0 ∷ []
complete-steps o lane k m piece octets e q = rw e (ap (λ z. accept z Origins.Lane 0 ∷ []) q)

pub complete_is_one_more : CompleteIsOneMore
complete_is_one_more before count done n g k m piece s lane h found q =
    let steps = complete-steps (lane_at n s.lanes.open_lanes) lane k m piece (copy_of (before + (count + 1))) found q in
    subst (λ xs. HasGot before (count + 1) done (machine_run s.machine xs)) (sym steps)
    (complete_leads_on before count done s.machine h)

pub delivered_is_one_more : DeliveredIsOneMore
delivered_is_one_more before count done s h le = deliver_leads_on before count done s.machine h le

-- ---- lanes

idle-holds : (st : SendState) (i r : ℕ) (t : Option Transfer) → is_idle st ≡ true
    → (is_transferring st && is_for i r t) ≡ false
idle-holds (state.Idle last) i r t e = refl
idle-holds (state.Sending k c) i r t e = absurd cc
idle-holds (state.Ending k c) i r t e = absurd cc
idle-holds (state.Dropping k) i r t e = absurd cc

none-held : (lanes : List Lane) (lane : Lane) (i r : ℕ) → lanes ≡ lane ∷ [] → holds i r lane ≡ false
    → activities_of lanes i r ≡ 0
none-held lanes lane i r e h = rw e (rw h refl)

pub idle_is_free : IdleLanesLeaveAllFree
idle_is_free s lane e idle i r =
    none-held s.lanes.open_lanes lane i r e (idle-holds lane.sending i r lane.transfer idle)

pub none_is_free : NoLanesLeaveAllFree
none_is_free s e i r = rw e refl
