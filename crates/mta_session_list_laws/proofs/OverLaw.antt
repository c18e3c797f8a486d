-- The list of a session is a good one, however the session is over.
use Rattle.std.proofs.Common.{◌≡◌, inr, ℕ, ◌+◌, ◌≤◌, not, Bool, true, false, Option, None, Some, List, [], ◌∷◌, ◌++◌}
use Rattle.std.proofs.Common.{take, refl, sym, ap}
use Rattle.std.proofs.Common.{subst}
use Rattle.std.proofs.Common.{◌∙◌, arith, append_assoc}
use Rattle.std.proofs.lemmas.Option.{slice_get_within}
use Rattle.mta_transfer_rules.specs.Lanes.{Halves, Seen, Unopened, lane_in}
use Rattle.mta_transfer_rules.specs.Receiving as r
use Rattle.mta_transfer_rules.specs.Receiving.{RecvEnd}
use Rattle.mta_transfer_rules.specs.Sending as s
use Rattle.mta_transfer_rules.specs.Sending.{SendEnd}
use Rattle.mta_transfer_laws.specs.History.{IsOfLanes}
use Rattle.mta_transfer_laws.proofs.Histories.{upto-take}
use Rattle.mta_session_list_laws.proofs.Finding.{Tracks}
use Rattle.mta_session.specs.declared.event.Action.{Action}
use Rattle.mta_session.specs.declared.event.Action.TheVariants as action
use Rattle.mta_session.specs.declared.event.Event.{Event}
use Rattle.mta_session.specs.declared.event.Event.TheVariants as event
use Rattle.mta_session.specs.declared.phase.Phase.{Phase}
use Rattle.mta_session.specs.declared.phase.Phase.TheVariants as phase
use Rattle.mta_session.specs.Session.{new_initiator, new_responder}
use Rattle.mta_session.specs.State.{State}
use Rattle.mta_session.specs.Follows.{counted}
use Rattle.mta_session_laws.specs.Turning.{EventsGo, is_last_phase}
use Rattle.mta_session_laws.specs.Whole.{AreCalls}
use Rattle.mta_session_laws.proofs.Opening.{wanted_in}
use Rattle.mta_transfer_laws.specs.Receivings.{AreTrue, end_on_link}
use Rattle.mta_transfer_laws.specs.Sessions as x
use Rattle.mta_transfer_laws.specs.Sessions.{SessionEvent, SessionList, Made, Put, Refused, IsGoodSession, send_all}
use Rattle.mta_transfer_laws.specs.Sessions.{recv_all}
use Rattle.mta_transfer_laws.specs.Sessions.{sending_events, receiving_events}
use Rattle.mta_session_list_laws.specs.Calls.{Call, StepOn, turns_of, step_told, look_told, list_of, event_of}
use Rattle.mta_session_list_laws.specs.Calls.{action_of}
use Rattle.mta_session_list_laws.specs.Abandons.{with_abandons}
use Rattle.mta_session_list_laws.specs.Laws.{ListsAreGood, OwnsPieces}
use Rattle.mta_session_list_laws.specs.Lists.{HasAt, step_for, step_by, Initiates, Responds, end_begun, completed}
use Rattle.mta_session_list_laws.specs.Lists.{AreValues}
use Rattle.mta_session_list_laws.specs.Over.{abort_of, came_of, EndsAs, MayComeLast, Over, seen_of, tail_of, untold_of}
use Rattle.mta_session_list_laws.specs.Standing.{ComesTrue, AllComeTrue}
use Rattle.mta_session_list_laws.proofs.Insertion as insertion
use Rattle.mta_session_list_laws.proofs.Waiting.{Ready, ready_next, does_at}
use Rattle.mta_session_list_laws.proofs.Ordering.{is_some, later_calls, begins_done}
use Rattle.mta_session_list_laws.proofs.Answering.{reached_without}
use Rattle.mta_session_list_laws.proofs.Turns.{Holds}
use Rattle.mta_session_list_laws.proofs.TurnsReplies.{PutAllowed, turned}
use Rattle.mta_session_list_laws.proofs.Receiving as recv
use Rattle.mta_session_list_laws.proofs.ReceivingPhases as phases
use Rattle.mta_session_list_laws.proofs.ReceivingPhases.{RecvAt, first}
use Rattle.mta_session_list_laws.proofs.ReceivingLists.{RecvKeeps, Asked, asked_next, is_early, part}
use Rattle.mta_session_list_laws.proofs.ReceivedLists.{come_receives}
use Rattle.mta_session_list_laws.proofs.ReceivedAll as all
use Rattle.mta_session_list_laws.proofs.ReceivingLaw as received
use Rattle.mta_session_list_laws.proofs.SendingGoes as send
use Rattle.mta_session_list_laws.proofs.SendingPhases as sending
use Rattle.mta_session_list_laws.proofs.SendingPhases.{SendAt, one}
use Rattle.mta_session_list_laws.proofs.SendingOpening.{is_soon}
use Rattle.mta_session_list_laws.proofs.SendingLooks.{SendKeeps, With, NotYet}
use Rattle.mta_session_list_laws.proofs.SendingList.{come_sends}
use Rattle.mta_session_list_laws.proofs.SendingLaw as law
use Rattle.mta_session_list_laws.proofs.FindingCalls.{FindKeeps, FoundSo, Behind, behind_other, told_behind}
use Rattle.mta_session_list_laws.proofs.FindingCalls.{come_behind}
use Rattle.mta_session_list_laws.proofs.FindingLaw as finding
use Rattle.mta_session_list_laws.proofs.FindingLaw.{come_finds, gen_next}
use Rattle.mta_session_list_laws.proofs.OverLists.{calls_refuse, calls_rise, calls_stand, calls_turn}
use Rattle.mta_session_list_laws.proofs.Rising.{calls_never_fall, never_with}
use Rattle.mta_session_list_laws.proofs.OverHalves.{tail_receives, tail_sends, abort_behind, tail_finds}

-- ---- the receiving half, call by call

module _ (spells : List ℕ → Bool) (history : List Seen) (lane at : ℕ) where
  abbrev half : Halves
  half = lane_in lane (take (at + 1) history)

  early_here : (p : Phase) (t : State) (a : Action) (c : RecvEnd) (from : ℕ) → is_early p ≡ true
      → RecvAt (from ≡ at + 1) (first half (from ≡ at + 1)) p t a c → from ≡ at + 1
  early_here phase.Begin t a c from i k = k.2
  early_here phase.AsksValues t a c from i k = k.1
  early_here phase.AsksRecovery t a c from i k = k.1
  early_here (phase.AsksReceiving st) t a c from i k = k.1
  early_here p t a c from i k = absurd (not_so i)
    where
      not_so : false ≡ true → ⊥
      not_so e = cc

  pub calls_receive : (cs : List Call) (a : Action) (t u : State) (b c : RecvEnd) (from : ℕ) (y : Over) → Ready a t
      → Asked a t → (is_last_phase t.phase ≡ false → t.lane ≡ lane) → r.IsReceivingEnd b (recv.pending a) c
      → RecvAt (from ≡ at + 1) (first half (from ≡ at + 1)) t.phase t a c → AllComeTrue spells history from a cs
      → AreCalls t (turns_of cs) u → EndsAs spells history (seen_of from cs) (action_of a cs) u y
      → RecvKeeps lane b (list_of a cs ++ tail_of (action_of a cs) y)
  calls_receive [] a t u b c from y k asked f put here is run ends =
      tail_receives half (from ≡ at + 1) lane spells history from a t y y.untold b c
      (record { waits = k.waits; asked = asked; lane_is = f; put = put; at = here })
      (subst (λ z. EndsAs spells history from a z y) run ends).came
  calls_receive (d ∷ ds) a t u b c from y k asked f put here is run ends =
      let tail : List SessionEvent = tail_of (action_of d.turn.action ds) y in
      let ready : Ready a d.turn.before = subst (Ready a) (sym run.0) k in
      let asks : Asked a d.turn.before = subst (Asked a) (sym run.0) asked in
      let keeps : is_last_phase d.turn.before.phase ≡ false → d.turn.before.lane ≡ lane =
      subst (λ z. is_last_phase z.phase ≡ false → z.lane ≡ lane) (sym run.0) f in
      let stands : RecvAt (from ≡ at + 1) (first half (from ≡ at + 1)) d.turn.before.phase d.turn.before a c =
      subst (λ z. RecvAt (from ≡ at + 1) (first half (from ≡ at + 1)) z.phase z a c) (sym run.0) here in
      let next : is_early d.turn.before.phase ≡ true → from ≡ at + 1 → d.seen ≡ at + 1 =
      λ i e. all.in_turn spells history d.turn.before.phase a d.turn.event from d.seen is.0 ready.waits i ∙ e in
      subst (λ z. RecvKeeps lane b z) (sym (append_assoc (event_of a d) (list_of d.turn.action ds) tail))
      (come_receives half (from ≡ at + 1) (d.seen ≡ at + 1) lane a d.turn d.seen d.turn.event b c
      (list_of d.turn.action ds ++ tail)
      (record { is = run.1; waits = ready.waits; asked = asks; lane_is = keeps; at = stands }) put refl
      (all.tells spells history d.turn.before.phase d.turn.event lane at from d.seen d.turn.before a refl asks
      ready.waits
      keeps
      (λ i. next i (early_here d.turn.before.phase d.turn.before a c from i stands)) is.0)
      next
      (λ e more. calls_receive ds d.turn.action d.turn.after u e more.ended d.seen y (ready_next d.turn run.1 ready.due)
      (asked_next d.turn.action d.turn.before d.turn.event d.turn.after run.1.follows)
      (all.lane_next (from ≡ at + 1) (first half (from ≡ at + 1)) c a lane d.turn run.1 stands keeps
      (part d.turn.before.phase))
      more.run more.at is.1 run.2 ends))

-- ---- the sending half

module _ (g : EventsGo) (spells : List ℕ → Bool) (history : List Seen) (lane : ℕ) (allow : IsOfLanes spells history)
    (size window : ℕ) (values : AreValues history lane size window) (accepted : Bool) (low : ℕ) where
  abbrev whole_half : Halves
  whole_half = lane_in lane (take low history)

  soon_here : (p : Phase) (t : State) (a : Action) (c : SendEnd) (from : ℕ) → is_soon p ≡ true
      → SendAt whole_half size window accepted (from ≡ low) p t a c → from ≡ low
  soon_here phase.Begin t a c from i k = k.3
  soon_here phase.AsksValues t a c from i k = k.2
  soon_here phase.AsksRecovery t a c from i k = k.2
  soon_here (phase.AsksReceiving st) t a c from i k = k.3
  soon_here (phase.AsksResumed st) t a c from i k = k.3
  soon_here p t a c from i k = absurd (not_so i)
    where
      not_so : false ≡ true → ⊥
      not_so e = cc

  pub calls_send : (cs : List Call) (a : Action) (t u : State) (b c : SendEnd) (behind from : ℕ) (v : x.Turn) (y : Over)
      → Ready a t → Asked a t → (is_last_phase t.phase ≡ false → t.lane ≡ lane) → s.IsSendingEnd b (send.pending a) c
      → SendAt whole_half size window accepted (from ≡ low) t.phase t a c → PutAllowed a v
      → Holds t.phase t (turned a v) → NotYet spells history lane allow behind b → low ≤ behind → behind ≤ from
      → AllComeTrue spells history from a cs → AreCalls t (turns_of cs) u
      → EndsAs spells history (seen_of from cs) (action_of a cs) u y
      → SendKeeps lane v b (With history lane behind b (list_of a cs ++ tail_of (action_of a cs) y))
  calls_send [] a t u b c behind from v y k asked f put here allowed holds yet lo up is run ends =
      tail_sends g spells history lane allow whole_half size window accepted low (from ≡ low) a t y y.untold b c behind
      from v (subst (λ z. EndsAs spells history from a z y) run ends).came
      (λ e last.
      let now : is_soon t.phase ≡ true → from ≡ low → y.seen ≡ low =
      λ i n. law.in_turn spells history t.phase a e from y.seen last.stands k.waits i ∙ n in (
        record {
          waits = k.waits;
          asked = asked;
          lane_is = f;
          holds = holds;
          put = put;
          at = here;
          begun = lo;
          upto = up;
          yet = yet;
          soon = now;
        },
        law.on_event spells history lane allow size window values accepted low t.phase t a e from y.seen asked refl
            k.waits last.stands f (λ i. now i (soon_here t.phase t a c from i here)),
      ))
  calls_send (d ∷ ds) a t u b c behind from v y k asked f put here allowed holds yet lo up is run ends =
      let tail : List SessionEvent = tail_of (action_of d.turn.action ds) y in
      let ready : Ready a d.turn.before = subst (Ready a) (sym run.0) k in
      let asks : Asked a d.turn.before = subst (Asked a) (sym run.0) asked in
      let keeps : is_last_phase d.turn.before.phase ≡ false → d.turn.before.lane ≡ lane =
      subst (λ z. is_last_phase z.phase ≡ false → z.lane ≡ lane) (sym run.0) f in
      let stands : SendAt whole_half size window accepted (from ≡ low) d.turn.before.phase d.turn.before a c =
      subst (λ z. SendAt whole_half size window accepted (from ≡ low) z.phase z a c) (sym run.0) here in
      let holds_ : Holds d.turn.before.phase d.turn.before (turned a v) =
      subst (λ z. Holds z.phase z (turned a v)) (sym run.0) holds in
      let next : is_soon d.turn.before.phase ≡ true → from ≡ low → d.seen ≡ low =
      λ i e. law.in_turn spells history d.turn.before.phase a d.turn.event from d.seen is.0 ready.waits i ∙ e in
      subst (λ z. SendKeeps lane v b (With history lane behind b z))
      (sym (append_assoc (event_of a d) (list_of d.turn.action ds) tail))
      (come_sends g spells history lane allow whole_half size window accepted low (from ≡ low) (d.seen ≡ low) a d.turn
      d.seen d.turn.event b c behind from v (list_of d.turn.action ds ++ tail)
      (record {
        turn = record { is = run.1; waits = ready.waits; allowed = allowed; holds = holds_ };
        asked = asks;
        lane_is = keeps;
        at = stands;
        put = put;
        begun = lo;
        upto = up;
        yet = yet;
        next = next;
        soon = next;
      }) refl is.0 run.1.answers
      (law.on_event spells history lane allow size window values accepted low d.turn.before.phase d.turn.before a
      d.turn.event from d.seen asks refl ready.waits is.0 keeps
      (λ i. next i (soon_here d.turn.before.phase d.turn.before a c from i stands)))
      (λ z e to done after yet_ down above. calls_send ds d.turn.action d.turn.after u e after.ended to d.seen z y
      (ready_next d.turn run.1 ready.due)
      (asked_next d.turn.action d.turn.before d.turn.event d.turn.after run.1.follows)
      (law.lane_next g spells history lane allow size window values accepted low (from ≡ low) c a d.turn run.1 stands
      keeps (part d.turn.before.phase))
      after.run after.at done.allowed done.holds yet_ down above is.1 run.2 ends))

-- ---- what is found

module _ (spells : List ℕ → Bool) (history : List Seen) (lane : ℕ) (allow : IsOfLanes spells history) (gen : ℕ) where
  behind_then : (cs : List Call) (from : ℕ) (a : Action) (tail : List SessionEvent)
      → AllComeTrue spells history from a cs
      → Behind spells history lane allow gen (seen_of from cs) tail
      → Behind spells history lane allow gen from (list_of a cs ++ tail)
  behind_then [] from a tail is low = low
  behind_then (c ∷ cs) from a tail is low =
      subst (λ z. Behind spells history lane allow gen from z)
      (sym (append_assoc (event_of a c) (list_of c.turn.action cs) tail))
      (come_behind spells history lane allow gen from c.seen c.turn.before.phase a c.turn c.turn.event
      (list_of c.turn.action cs ++ tail) is.0 (behind_then cs c.seen c.turn.action tail is.1 low))

  came_behind : (from seen : ℕ) (p : Phase) (aborts : Bool) (a : Action) (e : Event)
      → ComesTrue spells history from seen p a e
      → Behind spells history lane allow gen from (came_of a seen e ++ abort_of aborts)
  came_behind from seen p aborts (action.Put w) e is =
      behind_other spells history lane allow gen from from (Put w) (abort_of aborts) (omega arith) (λ q j step k. cc)
      (abort_behind spells history lane allow gen from aborts)
  came_behind from seen p aborts action.Read (event.Unit w) is =
      behind_other spells history lane allow gen from from (Refused w) (abort_of aborts) (omega arith)
      (λ q j step k. cc) (abort_behind spells history lane allow gen from aborts)
  came_behind from seen p aborts action.Read any5 is = abort_behind spells history lane allow gen from aborts
  came_behind from seen p aborts (action.Ask q) (event.Reply z) is =
      told_behind spells history lane allow gen from seen q z (step_told q z) (look_told q z) (abort_of aborts) is.1
      (abort_behind spells history lane allow gen seen aborts)
  came_behind from seen p aborts (action.Ask q) any5 is = abort_behind spells history lane allow gen from aborts
  came_behind from seen p aborts (action.Finish z) e is = abort_behind spells history lane allow gen from aborts

  tail_behind : (from seen : ℕ) (u : State) (aborts : Bool) (a : Action) (o : Option Event)
      → MayComeLast spells history from a u seen o
      → Behind spells history lane allow gen from (untold_of a seen o ++ abort_of aborts)
  tail_behind from seen u aborts a None last = abort_behind spells history lane allow gen from aborts
  tail_behind from seen u aborts a (Some e) last = came_behind from seen u.phase aborts a e last.stands

module _ (spells : List ℕ → Bool) (history : List Seen) (lane : ℕ) (allow : IsOfLanes spells history) (gen at : ℕ)
  where
    abbrev half_at : Halves
    half_at = lane_in lane (take (at + 1) history)

    pub calls_find : (cs : List Call) (a : Action) (t u : State) (b c : RecvEnd) (pieces : List (List ℕ)) (n from : ℕ)
        (y : Over) → Ready a t → Asked a t → (is_last_phase t.phase ≡ false → t.lane ≡ lane)
        → (is_last_phase t.phase ≡ false → t.generation ≡ gen) → r.IsReceivingEnd b (recv.pending a) c
        → RecvAt (from ≡ at + 1) (first half_at (from ≡ at + 1)) t.phase t a c
        → (is_last_phase t.phase ≡ false
        → FoundSo spells history lane allow gen from pieces n (list_of a cs ++ tail_of (action_of a cs) y))
        → AllComeTrue spells history from a cs → AreCalls t (turns_of cs) u
        → EndsAs spells history (seen_of from cs) (action_of a cs) u y
        → Behind spells history lane allow gen (seen_of from cs) (tail_of (action_of a cs) y)
        → FindKeeps spells lane b pieces (list_of a cs ++ tail_of (action_of a cs) y)
    calls_find [] a t u b c pieces n from y k asked f d put here found is run ends low =
        tail_finds spells history lane allow gen half_at (from ≡ at + 1) a t y y.untold b c pieces n from
        (record { waits = k.waits; asked = asked; lane_is = f; put = put; at = here }) d
        (subst (λ z. EndsAs spells history from a z y) run ends).came found
    calls_find (w ∷ ws) a t u b c pieces n from y k asked f d put here found is run ends low =
        let tail : List SessionEvent = tail_of (action_of w.turn.action ws) y in
        let ready : Ready a w.turn.before = subst (Ready a) (sym run.0) k in
        let asks : Asked a w.turn.before = subst (Asked a) (sym run.0) asked in
        let keeps : is_last_phase w.turn.before.phase ≡ false → w.turn.before.lane ≡ lane =
        subst (λ z. is_last_phase z.phase ≡ false → z.lane ≡ lane) (sym run.0) f in
        let gens : is_last_phase w.turn.before.phase ≡ false → w.turn.before.generation ≡ gen =
        subst (λ z. is_last_phase z.phase ≡ false → z.generation ≡ gen) (sym run.0) d in
        let stands : RecvAt (from ≡ at + 1) (first half_at (from ≡ at + 1)) w.turn.before.phase w.turn.before a c =
        subst (λ z. RecvAt (from ≡ at + 1) (first half_at (from ≡ at + 1)) z.phase z a c) (sym run.0) here in
        let so : is_last_phase w.turn.before.phase ≡ false → FoundSo spells history lane allow gen from pieces n
        (event_of a w ++ (list_of w.turn.action ws ++ tail)) =
        subst (λ z. is_last_phase w.turn.before.phase ≡ false → FoundSo spells history lane allow gen from pieces n z)
        (append_assoc (event_of a w) (list_of w.turn.action ws) tail)
        (subst (λ z. is_last_phase z.phase ≡ false
        → FoundSo spells history lane allow gen from pieces n (list_of a (w ∷ ws) ++ tail)) (sym run.0) found) in
        let next : is_early w.turn.before.phase ≡ true → from ≡ at + 1 → w.seen ≡ at + 1 =
        λ i e. all.in_turn spells history w.turn.before.phase a w.turn.event from w.seen is.0 ready.waits i ∙ e in
        subst (λ z. FindKeeps spells lane b pieces z)
        (sym (append_assoc (event_of a w) (list_of w.turn.action ws) tail))
        (come_finds spells history lane allow gen half_at (from ≡ at + 1) (w.seen ≡ at + 1) a w.turn w.seen from
        w.turn.event b c pieces n (list_of w.turn.action ws ++ tail)
        (record {
          here = record { is = run.1; waits = ready.waits; asked = asks; lane_is = keeps; at = stands };
          gen_is = gens;
          put = put;
          next = next;
        }) refl
        (all.tells spells history w.turn.before.phase w.turn.event lane at from w.seen w.turn.before a refl asks
        ready.waits
        keeps (λ i. next i (early_here spells history lane at w.turn.before.phase w.turn.before a c from i stands))
        is.0)
        is.0 so
        (λ e many m after left. calls_find ws w.turn.action w.turn.after u e after.ended many m w.seen y
        (ready_next w.turn run.1 ready.due)
        (asked_next w.turn.action w.turn.before w.turn.event w.turn.after run.1.follows)
        (all.lane_next (from ≡ at + 1) (first half_at (from ≡ at + 1)) c a lane w.turn run.1 stands keeps
        (part w.turn.before.phase))
        (gen_next (from ≡ at + 1) (first half_at (from ≡ at + 1)) c a gen w.turn run.1 stands gens
        (part w.turn.before.phase))
        after.run after.at left is.1 run.2 ends low)
        (behind_then spells history lane allow gen ws w.seen w.turn.action tail is.1 low))

-- ---- all of it

good_at : (g : EventsGo) (spells : List ℕ → Bool) (history : List Seen) (allow : IsOfLanes spells history)
    (lane size window at : ℕ) (values : AreValues history lane size window) (initiator : Bool) (a : Action)
    (cs : List Call) (t u : State) (step : StepOn) (b : SendEnd) (c : RecvEnd) (y : Over) (opening : List SessionEvent)
    → HasAt history at step → ((lane_in lane (take (at + 1) history)).phase ≡ Unopened → ⊥)
    → t.generation ≡ (lane_in lane (take (at + 1) history)).generation
    → OwnsPieces history lane (completed history lane size window initiator
    (record { opening = opening; at = at; events = list_of a cs ++ tail_of (action_of a cs) y }))
    → Ready a t → Asked a t → (is_last_phase t.phase ≡ false → t.lane ≡ lane)
    → s.IsSendingEnd (end_begun history lane size window at initiator) (send.pending a) b
    → SendAt (lane_in lane (take (at + 1) history)) size window (not initiator) (at + 1 ≡ at + 1) t.phase t a b
    → r.IsReceivingEnd (end_on_link (lane_in lane (take (at + 1) history))) (recv.pending a) c
    → RecvAt (at + 1 ≡ at + 1) (first (lane_in lane (take (at + 1) history)) (at + 1 ≡ at + 1)) t.phase t a c
    → PutAllowed a x.Before_accept → Holds t.phase t (turned a x.Before_accept)
    → NotYet spells history lane allow (at + 1) (end_begun history lane size window at initiator)
    → AllComeTrue spells history (at + 1) a cs → AreCalls t (turns_of cs) u
    → EndsAs spells history (seen_of (at + 1) cs) (action_of a cs) u y
    → IsGoodSession spells history lane size window initiator (completed history lane size window initiator
    (record { opening = opening; at = at; events = list_of a cs ++ tail_of (action_of a cs) y }))
good_at g spells history allow lane size window at values initiator a cs t u step b c y opening is open_ gen owns ready
    asked keeps sent sends_at got gets_at allowed holds yet true_ run ends =
    let l : Halves = lane_in lane (take (at + 1) history) in
    let e : SendEnd = end_begun history lane size window at initiator in
    let f : RecvEnd = end_on_link l in
    let ys : List SessionEvent = list_of a cs ++ tail_of (action_of a cs) y in
    let ws : List SessionEvent = with_abandons history lane (at + 1) e ys in
    let rises = calls_rise spells history lane cs (at + 1) (at + 1) a u y (omega arith) true_ ends.came in
    let sends : SendKeeps lane x.Before_accept e ws =
    calls_send g spells history lane allow size window values (not initiator) (at + 1) cs a t u e b (at + 1) (at + 1)
    x.Before_accept y ready asked keeps sent sends_at allowed holds yet (omega arith) (omega arith) true_ run ends in
    let gets : RecvKeeps lane f ys =
    calls_receive spells history lane at cs a t u f c (at + 1) y ready asked keeps got gets_at true_ run ends in
    let with_gets : RecvKeeps lane f ws = received.keeps_with history lane ys (at + 1) e f gets in
    let found : FindKeeps spells lane f l.pieces ys =
    calls_find spells history lane allow l.generation at cs a t u f c l.pieces (at + 1) (at + 1) y ready asked keeps
    (λ i. gen) got gets_at
    (λ i. record {
      before = omega arith;
      tracks = subst (Tracks l.generation l.pieces) (sym (upto-take history lane (at + 1) (omega arith)))
          (open_, inr (refl, refl));
      owned = λ q st down there piece. finding.in_without history lane l.generation ys (at + 1) e q st piece
          (owns q st (omega (arith, down)) there piece);
    })
    true_ run ends
    (tail_behind spells history lane allow l.generation (seen_of (at + 1) cs) y.seen u y.aborts (action_of a cs)
    y.untold ends.came) in
    record {
      begun = slice_get_within history at _ is;
      stands = insertion.stand history lane ys (at + 1) e rises
          (calls_stand spells history lane cs (at + 1) a u y true_ ends.came);
      never_fall = never_with history lane ys (at + 1) (at + 1) e
          (calls_never_fall spells history cs (at + 1) (at + 1) a u y (omega arith) true_ ends.came);
      sending = record {
        plain = law.all_plain lane ws;
        last_end = send_all e (sending_events lane ws);
        allowed = send.allowed_run e (sending_events lane ws) (law.keeps_allowed lane x.Before_accept e ws sends);
      };
      receiving = record {
        plain = received.all_plain lane ws;
        last_end = recv_all f (receiving_events lane ws);
        allowed = recv.allowed_run f (receiving_events lane ws) (received.keeps_allowed lane f ws with_gets);
        findings = subst (λ z. AreTrue spells f l.pieces z) (sym (insertion.received history lane ys (at + 1) e))
            (finding.keeps_true spells lane f l.pieces ys found);
      };
      turn = insertion.turns history lane ys (at + 1) e x.Before_accept
          (calls_turn cs a t u x.Before_accept y ready allowed holds run ends.going);
      rests = finding.rests lane x.Before_accept e f ws (law.keeps_owes lane x.Before_accept e ws sends)
          (received.keeps_owes lane f ws with_gets);
      refuses = insertion.refusals history lane ys (at + 1) e (calls_refuse cs a t u y ready run ends.going);
      placed = insertion.places history lane ys (at + 1) e rises;
    }

-- the last action and the last length are those of the calls behind the first ones
last_action : (before cs : List Call) (c : Call) (a : Action)
    → action_of a (before ++ c ∷ cs) ≡ action_of c.turn.action cs
last_action [] cs c a = refl
last_action (d ∷ ds) cs c a = last_action ds cs c d.turn.action

last_seen : (before cs : List Call) (c : Call) (n : ℕ) → seen_of n (before ++ c ∷ cs) ≡ seen_of c.seen cs
last_seen [] cs c n = refl
last_seen (d ∷ ds) cs c n = last_seen ds cs c d.seen

pub lists_good : EventsGo → ListsAreGood
lists_good g spells history one_ u calls lane size window l y allow (Initiates p units at cs is true_) values opens owns
    run ends =
    let begun = finding.planned_so spells history at allow p is opens in
    good_at g spells history allow p.lane size window at values true action.Read cs (new_initiator p units) u (step_for
    p)
    (one (lane_in p.lane (take (at + 1) history)) size window false)
    (first (lane_in p.lane (take (at + 1) history)) (at + 1 ≡ at + 1)) y [] is begun.0 begun.1 owns
    (record { due = refl; waits = refl }) tt (λ n. refl) refl
    (refl, (λ n. law.planned g spells history at allow size window p units is n), refl, refl) refl
    (refl, (λ n. received.planned spells history at allow p is n), refl) tt (refl, refl)
    (law.begin_yet g spells history at allow size window p.lane false) true_ run ends
lists_good g spells history one_ u calls lane size window l y allow
    (Responds own units at before cs c z by seen is true_) values opens owns run ends =
    let start : Ready action.Read (new_responder own units) = record { due = refl; waits = refl } in
    let later = later_calls before cs c action.Read (new_responder own units) u start run in
    let begins = begins_done c.turn later.is (is_some (step_by c.turn.before.phase c.turn.event c.turn.after) z by) in
    let lane_ : ℕ = c.turn.after.lane in
    let l_ : Halves = lane_in lane_ (take (at + 1) history) in
    let waits = received.responds spells history at allow c.turn.before.phase c.turn.before c.turn.event c.turn.after z
    by
    is
    (λ i. (reached_without before action.Read (new_responder own units) c.turn.before start
    (received.run_front before cs c (new_responder own units) u run) i).1) in
    let done = does_at c.turn c.turn.event refl later.is waits.1 in
    let gets = phases.waits_after l_ (at + 1 ≡ at + 1) (counted c.turn.before c.turn.event)
    (wanted_in c.turn.before.phase (counted c.turn.before c.turn.event) c.turn.event) c.turn.action c.turn.after waits.0
    done later.is.fits_after in
    let sends = sending.waits_after l_ size window true (at + 1 ≡ at + 1) (one l_ size window true)
    (counted c.turn.before c.turn.event)
    (wanted_in c.turn.before.phase (counted c.turn.before c.turn.event) c.turn.event) c.turn.action c.turn.after
    (law.responds g spells history at allow size window c.turn.before.phase c.turn.before c.turn.event
    c.turn.action c.turn.after z by is later.is.fits values done) done in
    let begun = finding.responds_so spells history at allow c.turn.before.phase c.turn.before c.turn.event c.turn.action
    c.turn.after z by is later.is.fits done in
    let acts : action_of action.Read (before ++ c ∷ cs) ≡ action_of c.turn.action cs = last_action before cs c
    action.Read
    in
    let sees : seen_of (at + 1) (before ++ c ∷ cs) ≡ seen_of (at + 1) cs =
    last_seen before cs c (at + 1) ∙ ap (λ (n : ℕ). seen_of n cs) seen in
    let opening_ : List SessionEvent = list_of action.Read before in
    let listed : Action → SessionList =
    λ k. completed history lane_ size window false
    (record { opening = opening_; at = at; events = list_of c.turn.action cs ++ tail_of k y }) in
    subst (λ k. IsGoodSession spells history lane_ size window false (listed k)) (sym acts)
    (good_at g spells history allow lane_ size window at values false c.turn.action cs c.turn.after u z sends.ended
    gets.ended y opening_ is begun.0 begun.1 (subst (λ k. OwnsPieces history lane_ (listed k)) acts owns) later.ready
    (asked_next c.turn.action c.turn.before c.turn.event c.turn.after later.is.follows) (λ n. refl) sends.run sends.at
    gets.run gets.at begins.allowed begins.holds (law.begin_yet g spells history at allow size window lane_ true) true_
    later.run
    (subst (λ n. EndsAs spells history n (action_of c.turn.action cs) u y) sees
    (subst (λ k. EndsAs spells history (seen_of (at + 1) (before ++ c ∷ cs)) k u y) acts ends)))
