-- The receiving half of a session's list, with Abandons of other passes, from the step that begins the list.
use Rattle.std.proofs.Common.{◌≡◌, ℕ, suc, ◌==◌, ◌+◌, ◌*◌, if◌then◌else◌, Bool, true, false, Option}
use Rattle.std.proofs.Common.{Some, None, Ok, List, [], ◌∷◌, ◌++◌, take, refl, sym, ap, subst, ◌∙◌, arith}
use Rattle.std.proofs.lemmas.Option.{slice_get_within}
use Rattle.mta_lane_recv.specs.declared.state.Last.TheVariants as last
use Rattle.mta_lane_send.specs.Half.{last_of}
use Rattle.mta_units.specs.declared.unit.OpenUnit.{OpenUnit}
use Rattle.mta_transfer_rules.specs.Units.{LaneUnit}
use Rattle.mta_transfer_rules.specs.Lanes as h
use Rattle.mta_transfer_rules.specs.Lanes.{Halves, SeenStep, Seen, On, Unopened, Open, Closed, unopened, Allows}
use Rattle.mta_transfer_rules.specs.Lanes.{halves_after}
use Rattle.mta_transfer_rules.specs.Lanes.{lane_in}
use Rattle.mta_transfer_rules.specs.Receiving as r
use Rattle.mta_transfer_rules.specs.Receiving.{RecvEnd, RecvEvent}
use Rattle.mta_transfer_rules.specs.Sending.{SendEnd}
use Rattle.mta_transfer_laws.specs.History.{IsOfLanes}
use Rattle.mta_session.specs.declared.ask.Reply.TheVariants as reply
use Rattle.mta_session.specs.declared.event.Event.{Event}
use Rattle.mta_session.specs.declared.event.Event.TheVariants as event
use Rattle.mta_session.specs.declared.event.InitiatorPlan.{InitiatorPlan}
use Rattle.mta_session.specs.declared.peer.Peer.{Peer}
use Rattle.mta_session.specs.declared.phase.Phase.{Phase}
use Rattle.mta_session.specs.declared.phase.Phase.TheVariants as phase
use Rattle.mta_session.specs.State.{State}
use Rattle.mta_session.specs.Wanted.{with_lane, answer_for}
use Rattle.mta_session.specs.Follows.{counted}
use Rattle.mta_session_laws.specs.Whole.{AreCalls}
use Rattle.mta_session_laws.proofs.Opening.{wanted_in}
use Rattle.mta_session_laws.proofs.Whole.{is_ended}
use Rattle.mta_transfer_laws.specs.Receivings.{end_on_link, ArePlain}
use Rattle.mta_transfer_laws.specs.Sessions as x
use Rattle.mta_transfer_laws.proofs.Histories.{upto-take}
use Rattle.mta_transfer_laws.specs.Sessions.{SessionEvent, Made, Looked, Got, Refused, Put, took_of, answers_of}
use Rattle.mta_transfer_laws.specs.Sessions.{receiving_step_of}
use Rattle.mta_transfer_laws.specs.Sessions.{transfer_unit, answer_unit, receiving_event, receiving_events, recv_all}
use Rattle.mta_transfer_laws.specs.Sessions.{seen_after}
use Rattle.mta_transfer_laws.specs.Sessions.{send_all, sending_event}
use Rattle.mta_session_list_laws.specs.Calls.{Call, StepOn, turns_of}
use Rattle.mta_session_list_laws.specs.Abandons.{has_before, abandoned_upto, abandon_at, given_up, with_abandons}
use Rattle.mta_session_list_laws.specs.Lists.{HasAt, step_for, step_by}
use Rattle.mta_session_list_laws.specs.Laws.{OwesAt, OwesNothingAt}
use Rattle.mta_session_list_laws.proofs.Insertion.{none_received}
use Rattle.mta_session_list_laws.proofs.Lanes.{lane_at, step_allowed, step_leads, between_keeps}
use Rattle.mta_session_list_laws.proofs.Ordering.{is_some}
use Rattle.mta_session_list_laws.proofs.Receiving.{Allowed}
use Rattle.mta_session_list_laws.proofs.ReceivingPhases.{first, RecvWaits, accept_waits}
use Rattle.mta_session_list_laws.proofs.ReceivingLists.{is_unlisted, RestsRecv, RecvKeeps}

-- ---- a lane that was never opened has done nothing

abbrev IsNew : Halves → Type 0
IsNew l = l.phase ≡ Unopened → l ≡ unopened

opened_not : (l : Halves) → l.phase ≡ Open → IsNew l
opened_not l o u = absurd (let c : Open ≡ Unopened = sym o ∙ u in cc)

new_step : (spells : List ℕ → Bool) (l : Halves) (step : SeenStep) → Allows spells l step → IsNew (halves_after l step)
new_step spells l (h.LaneOpen a s w) p = λ u. absurd (let c : Open ≡ Unopened = u in cc)
new_step spells l (h.LaneAgree s w) p = opened_not (halves_after l (h.LaneAgree s w)) p.0
new_step spells l (h.Bind g) p = opened_not (halves_after l (h.Bind g)) p.0
new_step spells l (h.Abandon k) p = opened_not (halves_after l (h.Abandon k)) p.0
new_step spells l (h.CloseLane g) p = λ u. absurd (let c : Closed ≡ Unopened = u in cc)
new_step spells l (h.Start g k o) p = opened_not (halves_after l (h.Start g k o)) p.0.0
new_step spells l (h.Confirm g k n) p = opened_not (halves_after l (h.Confirm g k n)) p.0.0
new_step spells l (h.To_end g k) p = opened_not (halves_after l (h.To_end g k)) p.0.0
new_step spells l (h.Sent g k) p = opened_not (halves_after l (h.Sent g k)) p.0.0
new_step spells l (h.Refused g k) p = opened_not (halves_after l (h.Refused g k)) p.0.0
new_step spells l (h.Denied g k) p = opened_not (halves_after l (h.Denied g k)) p.0.0
new_step spells l (h.Dropped g k) p = opened_not (halves_after l (h.Dropped g k)) p.0.0
new_step spells l (h.Secure g k n o) p = opened_not (halves_after l (h.Secure g k n o)) p.0.0
new_step spells l (h.Complete g k n o) p = opened_not (halves_after l (h.Complete g k n o)) p.0.0
new_step spells l (h.Drop g k) p = opened_not (halves_after l (h.Drop g k)) p.0.0

module _ (spells : List ℕ → Bool) (history : List Seen) (lane : ℕ) (allow : IsOfLanes spells history) where
  new_before : (at : ℕ) (a : Bool) (s w : ℕ) → HasAt history at (record { lane = lane; step = h.LaneOpen a s w })
      → lane_at spells history lane allow.allowed at ≡ unopened
  new_before at a s w is =
      let within = slice_get_within history at _ is in
      between_keeps spells history lane allow.allowed IsNew 0 at (omega arith) (omega (arith, within))
      (λ q i j step e k. new_step spells (lane_at spells history lane allow.allowed q) step
      (step_allowed spells history lane allow.allowed q step e))
      (allow.begun lane) (step_allowed spells history lane allow.allowed at (h.LaneOpen a s w) is)

  -- a lane as it is opened
  pub opened_half : (at : ℕ) (a : Bool) (s w : ℕ) → HasAt history at (record { lane = lane; step = h.LaneOpen a s w })
      → lane_in lane (take (at + 1) history) ≡ halves_after unopened (h.LaneOpen a s w)
  opened_half at a s w is =
      let e : at + 1 ≡ suc at = omega arith in
      sym (upto-take history lane (at + 1) (omega arith))
      ∙ ap (λ (n : ℕ). lane_at spells history lane allow.allowed n) e
      ∙ step_leads spells history lane allow.allowed at (h.LaneOpen a s w) is
      ∙ ap (λ (l : Halves). halves_after l (h.LaneOpen a s w)) (new_before at a s w is)

abbrev fresh : RecvEnd
fresh = record { high = 0; last = last.None; stage = r.Free; from = 0; acked = 0 }

-- ---- what a list is made of

rest_plain : (us : List LaneUnit) → ArePlain (took_of us)
rest_plain [] = tt
rest_plain (y ∷ us) = (tt, rest_plain us)

put_plain : (us : List LaneUnit) → ArePlain (answers_of us)
put_plain [] = tt
put_plain (y ∷ us) = (tt, put_plain us)

made_plain : (step : SeenStep) → ArePlain (receiving_step_of step)
made_plain (h.Secure g k n piece) = (tt, tt)
made_plain (h.Complete g k n piece) = (tt, tt)
made_plain (h.Drop g k) = (tt, tt)
made_plain step = tt

if_plain : (b : Bool) (xs : List RecvEvent) → ArePlain xs → ArePlain (if b then xs else [])
if_plain true xs k = k
if_plain false xs k = tt

event_plain : (lane : ℕ) (y : SessionEvent) → ArePlain (receiving_event lane y)
event_plain lane (Got u) = rest_plain (transfer_unit u)
event_plain lane (Refused u) = tt
event_plain lane (Put u) = put_plain (answer_unit u)
event_plain lane (Made p j step) = if_plain (j == lane) (receiving_step_of step) (made_plain step)
event_plain lane (Looked n (x.Finds k m piece)) = (tt, tt)
event_plain lane (Looked n x.At_sending) = tt
event_plain lane (Looked n x.No_batch) = tt
event_plain lane (Looked n x.Elsewhere) = tt

both_plain : (xs ys : List RecvEvent) → ArePlain xs → ArePlain ys → ArePlain (xs ++ ys)
both_plain [] ys p q = q
both_plain (v ∷ vs) ys p q = (p.0, both_plain vs ys p.1 q)

pub all_plain : (lane : ℕ) (ys : List SessionEvent) → ArePlain (receiving_events lane ys)
all_plain lane [] = tt
all_plain lane (y ∷ ys) = both_plain (receiving_event lane y) (receiving_events lane ys) (event_plain lane y)
    (all_plain lane ys)

both_allowed : (b : RecvEnd) (xs ys : List RecvEvent) → Allowed b xs → Allowed (recv_all b xs) ys → Allowed b (xs ++ ys)
both_allowed b [] ys p q = q
both_allowed b (v ∷ vs) ys p q = (p.0, both_allowed (r.recv_after b v) vs ys p.1 q)

pub keeps_allowed : (lane : ℕ) (b : RecvEnd) (ys : List SessionEvent) → RecvKeeps lane b ys → Allowed b
    (receiving_events lane ys)
keeps_allowed lane b [] k = tt
keeps_allowed lane b (y ∷ ys) k =
    both_allowed b (receiving_event lane y) (receiving_events lane ys) k.1
    (keeps_allowed lane (recv_all b (receiving_event lane y)) ys k.2)

rests_owes : (b : RecvEnd) (y : SessionEvent) → RestsRecv b y → OwesAt b y
rests_owes b (Got u) k = k
rests_owes b (Refused u) k = k
rests_owes b any1 k = tt

pub keeps_owes : (lane : ℕ) (b : RecvEnd) (ys : List SessionEvent) → RecvKeeps lane b ys → OwesNothingAt lane b ys
keeps_owes lane b [] k = tt
keeps_owes lane b (y ∷ ys) k = (rests_owes b y k.0, keeps_owes lane (recv_all b (receiving_event lane y)) ys k.2)

-- Abandons of other passes are none of this half's
keeps_before : (lane : ℕ) (b : RecvEnd) (history : List Seen) (e : SendEnd) (found : Option ℕ) (ys : List SessionEvent)
    → RecvKeeps lane b ys → RecvKeeps lane b (abandon_at lane e found ++ ys)
keeps_before lane b history e None ys k = k
keeps_before lane b history e (Some p) ys k =
    subst (λ z. Unit {0} × Allowed b z × RecvKeeps lane (recv_all b z) ys)
    (sym (none_received history lane p (last_of e.state))) (tt, tt, k)

pub keeps_with : (history : List Seen) (lane : ℕ) (ys : List SessionEvent) (from : ℕ) (e : SendEnd) (b : RecvEnd)
    → RecvKeeps lane b ys → RecvKeeps lane b (with_abandons history lane from e ys)
keeps_with history lane [] from e b k = tt
keeps_with history lane (y ∷ ys) from e b k =
    let found : Option ℕ = abandoned_upto history lane from e (has_before lane y) in
    keeps_before lane b history e found _ (
      k.0,
      k.1,
      keeps_with history lane ys (seen_after lane from y) (send_all (given_up e found) (sending_event lane y))
          (recv_all b (receiving_event lane y)) k.2,
    )

-- ---- where a list begins

same_recv : (t : State) (o : Option OpenUnit) (p : Option Peer) (lane : ℕ) → (with_lane t o p lane).recv ≡ t.recv
same_recv t (Some o) (Some p) lane = refl
same_recv t (Some o) None lane = refl
same_recv t None p lane = refl

some_is : (y z : StepOn) → Some y ≡ Some z → y ≡ z
some_is y z e = cc

module _ (spells : List ℕ → Bool) (history : List Seen) (at : ℕ) (allow : IsOfLanes spells history) where
  abbrev pub now : Type 0
  now = at + 1 ≡ at + 1

  abbrev pub half : (lane : ℕ) → Halves
  half lane = lane_in lane (take (at + 1) history)

  opened_first : (lane : ℕ) (a : Bool) (s w : ℕ) → HasAt history at (record { lane = lane; step = h.LaneOpen a s w })
      → fresh ≡ first (half lane) now
  opened_first lane a s w is = sym (ap end_on_link (opened_half spells history lane allow at a s w is))

  pub planned : (p : InitiatorPlan) → HasAt history at (step_for p) → p.recovering ≡ false
      → fresh ≡ first (half p.lane) now
  planned p is e =
      opened_first p.lane false (1024 * p.checkpoint) p.window
      (subst (λ b. HasAt history at (record {
        lane = p.lane;
        step = if b then h.Bind p.generation else h.LaneOpen false (1024 * p.checkpoint) p.window;
      })) e is)

  pub responds : (p : Phase) (t : State) (e : Event) (new : State) (y : StepOn) → step_by p e new ≡ Some y
      → HasAt history
      at y
      → (is_unlisted p ≡ true → t.recv ≡ fresh)
      → RecvWaits (half new.lane) now (wanted_in p (counted t e) e) × (is_ended p ≡ false)
  responds (phase.AsksNewLane again) t (event.Reply (reply.LaneOpen (Ok lane))) new y q is k =
      let v : State = with_lane t t.opened t.line lane in
      let there = opened_first new.lane true (1024 * new.checkpoint) new.window
      (subst (λ z. HasAt history at z) (sym (some_is _ y q)) is) in (
        accept_waits (half new.lane) now v (answer_for v.side v.opened v.line)
            (same_recv t t.opened t.line lane ∙ k refl ∙ there),
        refl,
      )
  responds phase.AsksBind t (event.Reply (reply.Bind (Ok generation))) new y q is k = ((λ a. (refl, refl)), refl)
  responds p t e new y q is k = elim (is_some (step_by p e new) y q) [ ]

pub run_front : (before cs : List Call) (c : Call) (t u : State) → AreCalls t (turns_of (before ++ c ∷ cs)) u
    → AreCalls t (turns_of before) c.turn.before
run_front [] cs c t u run = run.0
run_front (d ∷ ds) cs c t u run = (run.0, run.1, run_front ds cs c d.turn.after u run.2)
