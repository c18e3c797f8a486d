-- The steps of a session's list stand one behind the other, behind the step that begins it.
use Rattle.std.proofs.Common.{◌≡◌, ◌≤◌, ℕ, ◌+◌, ◌-◌, ◌==◌, if◌then◌else◌, Bool, true, false, Option, Some, None}
use Rattle.std.proofs.Common.{List, [], ◌∷◌, ◌++◌, refl, sym, ap, subst, ◌∙◌, append_assoc, arith}
use Rattle.mta_units.specs.declared.unit.Unit.{Unit as AnyUnit}
use Rattle.mta_lane_send.specs.Half.{last_of}
use Rattle.mta_transfer_rules.specs.Lanes as h
use Rattle.mta_transfer_rules.specs.Lanes.{Seen, SeenStep}
use Rattle.mta_transfer_rules.specs.Receiving.{RecvEvent}
use Rattle.mta_transfer_rules.specs.Sending as s
use Rattle.mta_transfer_rules.specs.Sending.{SendEnd, SendEvent, SendStep}
use Rattle.mta_transfer_laws.specs.Covering as sent
use Rattle.mta_transfer_laws.specs.ReceivingOrder as received
use Rattle.mta_transfer_laws.specs.Sendings as sendings
use Rattle.mta_transfer_laws.specs.Sessions as x
use Rattle.mta_transfer_laws.specs.Sessions.{Got, Look, Looked, Made, Put, receiving_step_of, Refused, seen_after}
use Rattle.mta_transfer_laws.specs.Sessions.{send_all, sending_event, sending_step_of, SessionEvent, SessionList}
use Rattle.mta_transfer_laws.specs.Sessions.{step_seen}
use Rattle.mta_session.specs.Wanted.{Wanted, Aborts}
use Rattle.mta_session.specs.declared.ask.Ask.{Ask}
use Rattle.mta_session.specs.declared.ask.Reply.{Reply}
use Rattle.mta_session.specs.declared.event.Action.{Action}
use Rattle.mta_session.specs.declared.event.Action.TheVariants as action
use Rattle.mta_session.specs.declared.event.Event.{Event}
use Rattle.mta_session.specs.declared.event.Event.TheVariants as event
use Rattle.mta_session.specs.declared.phase.Phase.{Phase}
use Rattle.mta_session_laws.specs.Runs.{Turn}
use Rattle.mta_session_laws.specs.Turning.{called_for}
use Rattle.mta_session_list_laws.specs.Abandons.{abandon_at, abandoned_upto, given_up, has_before, step_upto}
use Rattle.mta_session_list_laws.specs.Abandons.{with_abandons}
use Rattle.mta_session_list_laws.specs.Calls.{action_of, Call, come_of, event_of, got_as, list_of, look_told, step_told}
use Rattle.mta_session_list_laws.specs.Calls.{StepOn, told_as}
use Rattle.mta_session_list_laws.specs.Lists.{completed, end_begun, Initiates, Responds}
use Rattle.mta_session_list_laws.specs.Over.{abort_of, came_of, list_over, Over, seen_of, tail_of, untold_of}
use Rattle.mta_session_list_laws.specs.Standing.{AllComeTrue, ComesTrue, StandsAs}
use Rattle.mta_session_list_laws.proofs.Found.{kept, Placed, placed, placed_upto}
use Rattle.mta_session_list_laws.proofs.Insertion.{none_received, own}
use Rattle.mta_lane_list_laws.specs.Between.{IsSeen, ListsStandBetween}
use Rattle.mta_lane_list_laws.specs.Turns.{ReceivesBetween, SendsBetween, StandsBetween}

-- ---- steps and looks, one behind the other

abbrev pub StandUpto : (from upto : ℕ) → List SessionEvent → Type 0
StandUpto from upto [] = from ≤ upto
StandUpto from upto (Made p j step ∷ ys) = (from ≤ p) × StandUpto (p + 1) upto ys
StandUpto from upto (Looked n look ∷ ys) = (from ≤ n) × StandUpto n upto ys
StandUpto from upto (Got u ∷ ys) = StandUpto from upto ys
StandUpto from upto (Refused u ∷ ys) = StandUpto from upto ys
StandUpto from upto (Put u ∷ ys) = StandUpto from upto ys

-- what is so for each beginning that is no later
abbrev pub From : (seen upto : ℕ) → List SessionEvent → Type 0
From seen upto rest = (low : ℕ) → low ≤ seen → StandUpto low upto rest

module _ (spells : List ℕ → Bool) (history : List Seen) where
  pub told_stand : (low from seen upto : ℕ) (a : Ask) (y : Reply) (o : Option StepOn) (look : Look)
      (rest : List SessionEvent) → low ≤ from → StandsAs spells history from seen a y o → From seen upto rest
      → StandUpto low upto (told_as seen o look ∷ rest)
  told_stand low from seen upto a y (Some step) look rest le is more =
      (omega (arith, le, is.later), more (seen - 1 + 1) (omega (arith, is.later)))
  told_stand low from seen upto a y None look rest le is more =
      (omega (arith, le, is.later), more seen (omega arith))

  got_stand : (low upto : ℕ) (w : Wanted) (u : AnyUnit) (rest : List SessionEvent) → StandUpto low upto rest
      → StandUpto low upto (got_as w u ∷ rest)
  got_stand low upto (Aborts reason) u rest r = r
  got_stand low upto any2 u rest r = r

  come_stand : (low from seen upto : ℕ) (p : Phase) (a : Action) (t : Turn) (e : Event) (rest : List SessionEvent)
      → low ≤ from → ComesTrue spells history from seen p a e → From seen upto rest
      → StandUpto low upto (come_of a t seen e ++ rest)
  come_stand low from seen upto p action.Read t (event.Unit u) rest le is more =
      got_stand low upto (called_for t.before.phase t.before u) u rest (more low (omega (arith, le, is)))
  come_stand low from seen upto p action.Read t any7 rest le is more = more low (omega (arith, le, is))
  come_stand low from seen upto p (action.Ask a) t (event.Reply y) rest le is more =
      told_stand low from seen upto a y (step_told a y) (look_told a y) rest le is.1 more
  come_stand low from seen upto p (action.Ask a) t any7 rest le is more = more low (omega (arith, le, is))
  come_stand low from seen upto p any5 t e rest le is more = more low (omega (arith, le, is))

  pub calls_then : (cs : List Call) (tail : List SessionEvent) (low from upto : ℕ) (a : Action) → low ≤ from
      → AllComeTrue spells history from a cs → From (seen_of from cs) upto tail
      → StandUpto low upto (list_of a cs ++ tail)
  calls_then [] tail low from upto a le is base = base low le
  calls_then (c ∷ cs) tail low from upto a le is base =
      subst (λ (z : List SessionEvent). StandUpto low upto z)
      (sym (append_assoc (event_of a c) (list_of c.turn.action cs) tail))
      (come_stand low from c.seen upto c.turn.before.phase a c.turn c.turn.event
      (list_of c.turn.action cs ++ tail) le is.0
      (λ to more. calls_then cs tail to c.seen upto c.turn.action more is.1 base))

  pub abort_stand : (low upto : ℕ) (b : Bool) → low ≤ upto → StandUpto low upto (abort_of b)
  abort_stand low upto true le = le
  abort_stand low upto false le = le

  came_stand : (low from seen : ℕ) (p : Phase) (aborts : Bool) (a : Action) (e : Event) → low ≤ from
      → ComesTrue spells history from seen p a e → StandUpto low seen (came_of a seen e ++ abort_of aborts)
  came_stand low from seen p aborts (action.Put u) e le is = abort_stand low seen aborts (omega (arith, le, is))
  came_stand low from seen p aborts action.Read (event.Unit u) le is =
      abort_stand low seen aborts (omega (arith, le, is))
  came_stand low from seen p aborts action.Read any6 le is = abort_stand low seen aborts (omega (arith, le, is))
  came_stand low from seen p aborts (action.Ask q) (event.Reply z) le is =
      told_stand low from seen seen q z (step_told q z) (look_told q z) (abort_of aborts) le is.1
      (λ to more. abort_stand to seen aborts more)
  came_stand low from seen p aborts (action.Ask q) any6 le is = abort_stand low seen aborts (omega (arith, le, is))
  came_stand low from seen p aborts (action.Finish z) e le is = abort_stand low seen aborts (omega (arith, le, is))

  pub tail_stand : (low from seen : ℕ) (p : Phase) (aborts : Bool) (a : Action) (o : Option Event) → low ≤ from
      → IsSeen spells history from seen p a o → StandUpto low seen (untold_of a seen o ++ abort_of aborts)
  tail_stand low from seen p aborts a None le is = abort_stand low seen aborts (omega (arith, le, is))
  tail_stand low from seen p aborts a (Some e) le is = came_stand low from seen p aborts a e le is

-- it is so from each earlier length on
sooner : (low from upto : ℕ) (ys : List SessionEvent) → low ≤ from → StandUpto from upto ys → StandUpto low upto ys
sooner low from upto [] le r = omega (arith, le, r)
sooner low from upto (Got u ∷ ys) le r = sooner low from upto ys le r
sooner low from upto (Refused u ∷ ys) le r = sooner low from upto ys le r
sooner low from upto (Put u ∷ ys) le r = sooner low from upto ys le r
sooner low from upto any3 le r = let here = r.0 in (omega (arith, le, here), r.1)

-- ---- the receiving half

received_sooner : (low from upto : ℕ) (xs : List received.Placed) → low ≤ from → ReceivesBetween from upto xs
    → ReceivesBetween low upto xs
received_sooner low from upto [] le b = omega (arith, le, b)
received_sooner low from upto (y ∷ ys) le b = let here = b.0 in (omega (arith, le, here), b.1)

-- a step is one event of the half at most
received_made : (p from upto : ℕ) (b : Bool) (step : SeenStep) (xs : List received.Placed) → from ≤ p
    → ReceivesBetween (p + 1) upto xs
    → ReceivesBetween from upto (received.placed_at p (if b then receiving_step_of step else []) ++ xs)
received_made p from upto false step xs le r = received_sooner from (p + 1) upto xs (omega (arith, le)) r
received_made p from upto true (h.Secure g k n piece) xs le r = (le, r)
received_made p from upto true (h.Complete g k n piece) xs le r = (le, r)
received_made p from upto true (h.Drop g k) xs le r = (le, r)
received_made p from upto true step xs le r = received_sooner from (p + 1) upto xs (omega (arith, le)) r

module _ (lane : ℕ) where
  received_stand : (ys : List SessionEvent) (from upto : ℕ) → StandUpto from upto ys
      → ReceivesBetween from upto (received.placed_events lane ys)
  received_stand [] from upto r = r
  received_stand (Made p j step ∷ ys) from upto r =
      received_made p from upto (j == lane) step (received.placed_events lane ys) r.0
      (received_stand ys (p + 1) upto r.1)
  received_stand (Looked n look ∷ ys) from upto r =
      received_sooner from n upto (received.placed_events lane ys) r.0 (received_stand ys n upto r.1)
  received_stand (Got u ∷ ys) from upto r = received_stand ys from upto r
  received_stand (Refused u ∷ ys) from upto r = received_stand ys from upto r
  received_stand (Put u ∷ ys) from upto r = received_stand ys from upto r

-- ---- the sending half

sent_sooner : (low from upto : ℕ) (xs : List sent.Placed) → low ≤ from → SendsBetween from upto xs
    → SendsBetween low upto xs
sent_sooner low from upto [] le b = omega (arith, le, b)
sent_sooner low from upto (y ∷ ys) le b = let here = b.0 in (omega (arith, le, here), b.1)

data Events : List SendEvent → Type 0 where
  none_there : Events []
  one_there : (v : SendStep) → Events (s.Made v ∷ [])

events_of : (b : Bool) (step : SeenStep) → Events (if b then sending_step_of step else [])
events_of false step = none_there
events_of true (h.Start g k octets) = one_there (s.Start octets)
events_of true (h.Confirm g k n) = one_there (s.Confirm n)
events_of true (h.To_end g k) = one_there s.To_end
events_of true (h.Sent g k) = one_there s.Sent
events_of true (h.Refused g k) = one_there s.Refused
events_of true (h.Denied g k) = one_there s.Denied
events_of true (h.Dropped g k) = one_there s.Dropped
events_of true (h.Abandon k) = one_there s.Abandon
events_of true step = none_there

-- an Abandon, and what stands behind it
abbrev With : Option ℕ → List sent.Placed → List sent.Placed
With None xs = xs
With (Some q) xs = record { position = q; step = sendings.Makes s.Abandon } ∷ xs

module _ (history : List Seen) (lane : ℕ) where
  with_placed : (e : SendEnd) (found : Option ℕ) (y : SessionEvent) (ws : List SessionEvent)
      → sent.placed_events lane (abandon_at lane e found ++ y ∷ ws)
      ≡ With found (sent.placed_event lane y ++ sent.placed_events lane ws)
  with_placed e None y ws = refl
  with_placed e (Some q) y ws =
      ap (λ (es : List SendEvent). sent.placed_at q es ++ (sent.placed_event lane y ++ sent.placed_events lane ws))
      (own history lane q (last_of e.state))

  behind : (from p upto : ℕ) (e : SendEnd) (found : Option ℕ) (xs : List sent.Placed) → from ≤ p
      → Placed history lane from p e found → SendsBetween p upto xs → SendsBetween from upto (With found xs)
  behind from p upto e None xs le (kept seen) b = sent_sooner from p upto xs le b
  behind from p upto e (Some q) xs le (placed _ i a lt is none) b =
      (a, sent_sooner (q + 1) p upto xs (omega (arith, lt)) b)

  -- what is so of the events behind, from any earlier length and any end on
  abbrev Rest : (upto to : ℕ) → List SessionEvent → Type 0
  Rest upto to ys =
      (low : ℕ) (f : SendEnd) → low ≤ to
      → SendsBetween low upto (sent.placed_events lane (with_abandons history lane low f ys))

  abbrev MadeWith : (from p : ℕ) → SendEnd → List SessionEvent → List SendEvent → List sent.Placed
  MadeWith from p e ys events =
      With (abandoned_upto history lane from e (step_upto p events))
      (sent.placed_at p events
      ++ sent.placed_events lane (with_abandons history lane (step_seen from p events)
      (send_all (given_up e (abandoned_upto history lane from e (step_upto p events))) events) ys))

  by_events : (from p upto : ℕ) (e : SendEnd) (ys : List SessionEvent) (events : List SendEvent) → Events events
      → from ≤ p → Rest upto (p + 1) ys → SendsBetween from upto (MadeWith from p e ys events)
  by_events from p upto e ys _ none_there le rest = rest from e (omega (arith, le))
  by_events from p upto e ys _ (one_there v) le rest =
      behind from p upto e (abandoned_upto history lane from e (Some p)) _ le (placed_upto history lane from p e le)
      (omega arith, rest (p + 1) _ (omega arith))

  sent_stand : (ys : List SessionEvent) (from upto : ℕ) (e : SendEnd) → StandUpto from upto ys
      → SendsBetween from upto (sent.placed_events lane (with_abandons history lane from e ys))
  sent_stand [] from upto e r = r
  sent_stand (Made p j step ∷ ys) from upto e r =
      subst (SendsBetween from upto)
      (sym (with_placed e (abandoned_upto history lane from e (has_before lane (Made p j step))) (Made p j step) _))
      (by_events from p upto e ys (sending_event lane (Made p j step)) (events_of (j == lane) step) r.0
      (λ low f le. sent_stand ys low upto f (sooner low (p + 1) upto ys le r.1)))
  sent_stand (Looked n x.At_sending ∷ ys) from upto e r =
      let found : Option ℕ = abandoned_upto history lane from e (Some n) in
      subst (SendsBetween from upto) (sym (with_placed e found (Looked n x.At_sending) _))
      (behind from n upto e found _ r.0 (placed_upto history lane from n e r.0)
      (sent_stand ys n upto (given_up e found) r.1))
  sent_stand (Looked n (x.Finds k m piece) ∷ ys) from upto e r =
      sent_stand ys from upto e (sooner from n upto ys r.0 r.1)
  sent_stand (Looked n x.No_batch ∷ ys) from upto e r = sent_stand ys from upto e (sooner from n upto ys r.0 r.1)
  sent_stand (Looked n x.Elsewhere ∷ ys) from upto e r = sent_stand ys from upto e (sooner from n upto ys r.0 r.1)
  sent_stand (Got u ∷ ys) from upto e r = sent_stand ys from upto (send_all e (sending_event lane (Got u))) r
  sent_stand (Refused u ∷ ys) from upto e r = sent_stand ys from upto e r
  sent_stand (Put u ∷ ys) from upto e r = sent_stand ys from upto (send_all e (sending_event lane (Put u))) r

  -- an Abandon is no step of the receiving half
  received_before : (e : SendEnd) (found : Option ℕ) (ys : List SessionEvent)
      → received.placed_events lane (abandon_at lane e found ++ ys) ≡ received.placed_events lane ys
  received_before e None ys = refl
  received_before e (Some p) ys =
      ap (λ (es : List RecvEvent). received.placed_at p es ++ received.placed_events lane ys)
      (none_received history lane p (last_of e.state))

  received_still : (ys : List SessionEvent) (from : ℕ) (e : SendEnd)
      → received.placed_events lane (with_abandons history lane from e ys) ≡ received.placed_events lane ys
  received_still [] from e = refl
  received_still (y ∷ ys) from e =
      let found : Option ℕ = abandoned_upto history lane from e (has_before lane y) in
      let f : SendEnd = send_all (given_up e found) (sending_event lane y) in
      received_before e found (y ∷ with_abandons history lane (seen_after lane from y) f ys)
      ∙ ap (λ (xs : List received.Placed). received.placed_event lane y ++ xs)
      (received_still ys (seen_after lane from y) f)

-- ---- a list

pub stand_between : (history : List Seen) (lane size window upto : ℕ) (initiator : Bool) (l : SessionList)
    → StandUpto (l.at + 1) upto l.events → StandsBetween lane l.at upto (completed history lane size window initiator l)
stand_between history lane size window upto initiator l r =
    let e : SendEnd = end_begun history lane size window l.at initiator in
    record {
      begins = omega arith;
      sends = sent_stand history lane l.events (l.at + 1) upto e r;
      receives = subst (ReceivesBetween (l.at + 1) upto) (sym (received_still history lane l.events (l.at + 1) e))
          (received_stand lane l.events (l.at + 1) upto r);
    }

-- behind calls that end with others
pub seen_more : (from low : ℕ) (before cs : List Call) (c : Call) → seen_of from (before ++ c ∷ cs) ≡ seen_of c.seen cs
seen_more from low [] cs c = refl
seen_more from low (d ∷ ds) cs c = seen_more d.seen low ds cs c

pub action_more : (a : Action) (before cs : List Call) (c : Call)
    → action_of a (before ++ c ∷ cs) ≡ action_of c.turn.action cs
action_more a [] cs c = refl
action_more a (d ∷ ds) cs c = action_more d.turn.action ds cs c

over_stands : (spells : List ℕ → Bool) (history : List Seen) (cs : List Call) (from : ℕ) (a : Action) (p : Phase)
    (y : Over) → AllComeTrue spells history from a cs
    → IsSeen spells history (seen_of from cs) y.seen p (action_of a cs) y.untold
    → StandUpto from y.seen (list_of a cs ++ tail_of (action_of a cs) y)
over_stands spells history cs from a p y is last =
    calls_then spells history cs (tail_of (action_of a cs) y) from from y.seen a (omega arith) is
    (λ low le. tail_stand spells history low (seen_of from cs) y.seen p y.aborts (action_of a cs) y.untold le last)

pub lists_stand_between : ListsStandBetween
lists_stand_between spells history _ calls _ size window initiator _ p y (Initiates plan units at _ has is) last =
    stand_between history plan.lane size window y.seen initiator
    (list_over calls (record { opening = []; at = at; events = list_of action.Read calls }) y)
    (over_stands spells history calls (at + 1) action.Read p y is last)
lists_stand_between spells history _ _ _ size window initiator _ p y
    (Responds own units at before calls c step by seen has is) last =
    let whole : List Call = before ++ c ∷ calls in
    let l : SessionList = record {
      opening = list_of action.Read before;
      at = at;
      events = list_of c.turn.action calls;
    } in
    let wanted : action_of action.Read whole ≡ action_of c.turn.action calls = action_more action.Read before calls c in
    let from : seen_of (at + 1) whole ≡ seen_of (at + 1) calls =
    seen_more (at + 1) 0 before calls c ∙ ap (λ (n : ℕ). seen_of n calls) seen in
    let there : IsSeen spells history (seen_of (at + 1) calls) y.seen p (action_of c.turn.action calls) y.untold =
    subst (λ (a : Action). IsSeen spells history (seen_of (at + 1) calls) y.seen p a y.untold) wanted
    (subst (λ (n : ℕ). IsSeen spells history n y.seen p (action_of action.Read whole) y.untold) from last) in
    stand_between history c.turn.after.lane size window y.seen initiator (list_over whole l y)
    (subst (λ (a : Action). StandUpto (at + 1) y.seen (list_of c.turn.action calls ++ tail_of a y)) (sym wanted)
    (over_stands spells history calls (at + 1) c.turn.action p y is there))
