-- What an event calls for is of a session that knows what it knew, and what the event told.
use Rattle.std.proofs.Common.{◌≡◌, ℕ, ◌==◌, ◌-◌, ◌&&◌, ◌||◌, Bool, true, false, if◌then◌else◌, Option, Some, None, refl}
use Rattle.std.proofs.Common.{rules, subst, List}
use Rattle.std.specs.Str.{bytes_eq}
use Rattle.mta_units.specs.declared.unit.Unit.{Unit as AnyUnit}
use Rattle.mta_units.specs.declared.unit.Unit.TheVariants as unit
use Rattle.mta_transfer_rules.specs.Sending.{SendEnd}
use Rattle.mta_transfer_rules.specs.Receiving.{RecvEnd}
use Rattle.mta_session.specs.State.{State}
use Rattle.mta_session.specs.Sending.{heard}
use Rattle.mta_session.specs.Wanted.{Wanted, Aborts, Goes_on, on_values, on_accept, on_reject, is_refused_value}
use Rattle.mta_session.specs.Wanted.{is_same_reference, as_holder, as_listener, takes, goes_on_if, makes_or, on_abort}
use Rattle.mta_session.specs.Wanted.{on_answer_by, on_close_ack, wanted_of_unit, wanted_of_go, wanted_of_over}
use Rattle.mta_session.specs.Wanted.{wanted_of_reply}
use Rattle.mta_session.specs.declared.event.Event.TheVariants as event
use Rattle.mta_session.specs.declared.event.Side.{Side}
use Rattle.mta_session.specs.declared.event.Side.TheVariants as side
use Rattle.mta_session.specs.declared.event.InitiatorPlan.{InitiatorPlan}
use Rattle.mta_rtse.specs.declared.types.Answer.{Answer}
use Rattle.mta_rtse.specs.declared.types.Answer.TheVariants as answer
use Rattle.mta_session.specs.declared.phase.Phase.{Phase}
use Rattle.mta_session.specs.declared.phase.Phase.TheVariants as phase
use Rattle.mta_session.specs.declared.phase.OwnStep.{OwnStep}
use Rattle.mta_session.specs.declared.ask.Reply.{Reply}
use Rattle.mta_lane_match_laws.specs.Matches.{Known, known, follows_lane}
use Rattle.mta_lane_match_laws.specs.Calls.{Pieces, KnowsAs, HeardAs, HeardKeeps, TakenAs, TakenKeeps, EventsKnow}
use Rattle.mta_lane_match_laws.specs.Calls.{learned_of}
use Rattle.mta_lane_match_laws.specs.Calls.{learned_of_unit, proposed}

if_knows : (k : Known) (b : Bool) (w v : Wanted) → KnowsAs k w → KnowsAs k v → KnowsAs k (if b then w else v)
if_knows k true w v p q = p
if_knows k false w v p q = q

over_knows : (f : Phase) (k : Known) → KnowsAs k (wanted_of_over f)
over_knows f k = search rules

abort_knows : (t : State) (k : Known) (reason : ℕ) → KnowsAs k (on_abort t reason)
abort_knows t k reason = search rules

module _ (xs : List (List ℕ)) where
  go_knows : (f : Phase) (t : State) → follows_lane f ≡ true → KnowsAs (known t xs) (wanted_of_go f t)
  go_knows f t e = search rules

  same_send : (t : State) (f : SendEnd) → HeardAs t.send (Some f) → known (record t { send = f }) xs ≡ known t xs
  same_send t f h = rw h.0 (rw h.1 refl)

  same_recv : (t : State) (f : RecvEnd) → TakenAs t.recv (Some f) → known (record t { recv = f }) xs ≡ known t xs
  same_recv t f h = rw h.0 (rw h.1 refl)

  heard_knows : (t : State) (f : Option SendEnd) → HeardAs t.send f → KnowsAs (known t xs) (goes_on_if t f)
  heard_knows t None h = tt
  heard_knows t (Some f) h = same_send t f h

  taken_knows : (t : State) (f : Option RecvEnd) → TakenAs t.recv f → KnowsAs (known t xs) (takes t f)
  taken_knows t None h = tt
  taken_knows t (Some f) h = same_recv t f h

  makes_knows : HeardKeeps → (t : State) (x : AnyUnit) (f : Option OwnStep) → KnowsAs (known t xs) (makes_or t x f)
  makes_knows h t x None = heard_knows t (heard t.send x) (h t.send x)
  makes_knows h t x (Some step) = refl

  holder_knows : HeardKeeps → (t : State) (x : AnyUnit) → KnowsAs (known t xs) (as_holder t x)
  holder_knows h t x = search (rules, makes_knows h t)

  listener_knows : TakenKeeps → (t : State) (x : AnyUnit) → KnowsAs (known t xs) (as_listener t x)
  listener_knows h t (unit.Please priority) = if_knows (known t xs) t.twa (Goes_on t) (Aborts 4) refl tt
  listener_knows h t x = search (rules, taken_knows t)

  reject_knows : (plan : InitiatorPlan) (t : State) (reason : ℕ) → KnowsAs (known t xs) (on_reject plan t reason)
  reject_knows plan t reason = search rules

  close_ack_knows : (t : State) (x : AnyUnit) → KnowsAs (known t xs) (on_close_ack t x)
  close_ack_knows t x = search rules

  agreed_knows : (t : State) → t.agreed ≡ true → known (record t { agreed = true }) xs ≡ known t xs
  agreed_knows t e = rw e refl

by_tests : (k l : Known) (a b : Bool) (u v : Wanted) → (a ≡ true → KnowsAs k u) → (a ≡ false → KnowsAs l v)
    → KnowsAs (if a || b then k else l) (if b then Aborts 1 else (if a then u else v))
by_tests k l true true u v p q = tt
by_tests k l true false u v p q = p refl
by_tests k l false true u v p q = tt
by_tests k l false false u v p q = q refl

module _ (p : Pieces) where
  values_know : (t : State) (c w : ℕ) → KnowsAs (proposed p t c w) (on_values t c w)
  values_know t c w =
      by_tests (known t p.stand) (record (known t p.stand) { checkpoint = c; window = w }) t.agreed
      (is_refused_value t c w) _ _ (λ e. agreed_knows p.stand t e) (λ e. refl)

  accept_knows : (plan : InitiatorPlan) (t : State) (c w : ℕ) (a : Answer)
      → KnowsAs (proposed p t c w) (on_accept plan t c w a)
  accept_knows plan t c w (answer.Bind name password) =
      let fits = bytes_eq name plan.peer && bytes_eq password plan.expected_password in
      if_knows (proposed p t c w) plan.recovering (Aborts 4) (if fits then on_values t c w else Aborts 5) tt
      (if_knows (proposed p t c w) fits (on_values t c w) (Aborts 5) (values_know t c w) tt)
  accept_knows plan t c w (answer.Recover reference) =
      if_knows (proposed p t c w) (plan.recovering && is_same_reference reference plan.reference) (on_values t c w)
      (Aborts 4) (values_know t c w) tt

  answer_knows : (s : Side) (t : State) (x : AnyUnit)
      → KnowsAs (learned_of_unit phase.ReadsAnswer p t x) (on_answer_by s t x)
  answer_knows (side.Responder own) t x = tt
  answer_knows (side.Initiator plan) t x =
      search (rules, accept_knows plan t, reject_knows p.stand plan t, abort_knows t (known t p.stand))

  reply_knows : (f : Phase) (t : State) (x : Reply) → follows_lane f ≡ true
      → KnowsAs (learned_of f p t x) (wanted_of_reply f t x)
  reply_knows f t x e = search rules

  -- a unit of a session that follows its lane, once it is counted
  unit_knows : HeardKeeps → TakenKeeps → (f : Phase) (t : State) (x : AnyUnit) → follows_lane f ≡ true
      → KnowsAs (learned_of_unit f p t x) (wanted_of_unit f t x)
  unit_knows h r f t x e =
      search (
        rules,
        holder_knows p.stand h t x,
        listener_knows p.stand r t x,
        answer_knows t.side t x,
        close_ack_knows p.stand t x,
        abort_knows t (known t p.stand),
      )

  -- how many units are left does not matter
  same_learned : (f : Phase) (t : State) (n : ℕ) (x : AnyUnit)
      → learned_of_unit f p (record t { left = n }) x ≡ learned_of_unit f p t x
  same_learned f t n x = search rules

pub events_know : HeardKeeps → TakenKeeps → EventsKnow
events_know h r p t event.Go f = go_knows p.stand t.phase t f
events_know h r p t (event.Unit x) f =
    let counted : State = record t { left = t.left - 1 } in
    if_knows (learned_of_unit t.phase p t x) (t.left - 1 == 0) (Aborts 3) (wanted_of_unit t.phase counted x) tt
    (subst (λ (k : Known). KnowsAs k (wanted_of_unit t.phase counted x)) (same_learned p t.phase t (t.left - 1) x)
    (unit_knows p h r t.phase counted x f))
events_know h r p t event.BadUnit f = if_knows _ _ (Aborts 3) (Aborts 4) tt tt
events_know h r p t (event.Reply x) f = reply_knows p t.phase t x f
events_know h r p t event.Over f = over_knows t.phase (known t p.stand)
