-- What a session learns by a reply is how its lane is then.
use Rattle.std.proofs.Common.{◌≡◌, ℕ, ◌≤◌, Bool, true, false, if◌then◌else◌, List, [], Option, Some, None, Result, Ok}
use Rattle.std.proofs.Common.{Err, refl, rules, sym, ap, subst, ◌∙◌, arith, inl, inr}
use Rattle.std.specs.Prelude.{◌||◌}
use Rattle.std.proofs.lemmas.Bool.{and_parts}
use Rattle.mta_lane_send.specs.declared.state.SendState.{SendState}
use Rattle.mta_lane_send.specs.declared.state.SendState.TheVariants.{Idle, Sending, Ending, Dropping}
use Rattle.mta_lane_send.specs.Half.{last_of, is_idle, is_sending}
use Rattle.mta_units.specs.declared.unit.Unit.{Unit as AnyUnit}
use Rattle.mta_records.specs.declared.fault.StepFault.{StepFault}
use Rattle.mta_records.specs.Outgoing.{Carried}
use Rattle.mta_histories.specs.Lanes.{Lane}
use Rattle.mta_histories.specs.Lanes as spool
use Rattle.mta_histories.specs.Classes.{LaneStep, agree, start, secure, complete, drop_pieces}
use Rattle.mta_histories.proofs.Halves.{sending-last}
use Rattle.mta_session.specs.State.{State}
use Rattle.mta_session.specs.Fits.{FitsAt}
use Rattle.mta_session.specs.Wanted.{is_given_up, is_cut, is_refused_value}
use Rattle.mta_session.specs.declared.event.Event.TheVariants as event
use Rattle.mta_session.specs.declared.phase.Phase.{Phase}
use Rattle.mta_session.specs.declared.phase.Phase.TheVariants as phase
use Rattle.mta_session.specs.declared.phase.OwnStep.TheVariants as own
use Rattle.mta_session.specs.declared.ask.Reply.{Reply}
use Rattle.mta_session.specs.declared.ask.Reply.TheVariants as reply
use Rattle.mta_lane_match_laws.specs.Matches.{Known, known, IsValue, IsKnown, MatchesLane, Matches}
use Rattle.mta_lane_match_laws.specs.Steps.{IsAsked, learned}
use Rattle.mta_lane_match_laws.specs.Laws.{OwnStepsMatch}
use Rattle.mta_lane_match_laws.specs.Calls.{Pieces, Makes, IsReplyOf, RepliesMatch, given_up, sending_of, proposed}
use Rattle.mta_lane_match_laws.specs.Calls.{learned_of}
use Rattle.mta_lane_match_laws.specs.Calls.{learned_of_unit, step_on}

-- ---- a reply that tells of no step

stays : (k : Known) (s after : spool.State) → after ≡ s → Matches k s → Matches k after
stays k s after same m = subst (λ (x : spool.State). Matches k x) (sym same) m

-- ---- a step

makes_match : OwnStepsMatch → (k : Known) (t : State) (s : spool.State) (on : LaneStep) (octets : List ℕ)
    (after : spool.State) → k.lane ≡ t.lane → k.generation ≡ t.generation → IsAsked k on → Makes t s on octets after
    → Matches k s → Matches (learned k octets on) after
makes_match lead k t s on octets after lane_is generation_is asked made m =
    subst (λ (x : spool.State). Matches (learned k octets on) x) (sym made.after_is)
    (lead k s made.step on octets (rw lane_is (rw generation_is made.step_is)) made.possible asked made.told m)

-- ---- values that were proposed

module _ (k : Known) (c w : ℕ) where
  lower_known : (lane : Lane) → k.agreed ≡ false → c ≤ k.checkpoint → w ≤ k.window → IsKnown k lane
      → IsKnown (record k { checkpoint = c; window = w }) lane
  lower_known lane none lc lw m =
      let over : k.checkpoint ≤ lane.checkpoint =
      subst (λ (b : Bool). IsValue b k.checkpoint lane.checkpoint) none m.checkpoint in
      let wide : k.window ≤ lane.window = subst (λ (b : Bool). IsValue b k.window lane.window) none m.window in
      record {
        generation = m.generation;
        agreed = m.agreed;
        twa = m.twa;
        checkpoint = subst (λ (b : Bool). IsValue b c lane.checkpoint) (sym none) (omega (arith, lc, over));
        window = subst (λ (b : Bool). IsValue b w lane.window) (sym none) (omega (arith, lw, wide));
        sending = m.sending;
        octets = m.octets;
        high = m.high;
        last = m.last;
        pieces = m.pieces;
      }

  lower_at : (x : Option Lane) → k.agreed ≡ false → c ≤ k.checkpoint → w ≤ k.window → MatchesLane k x
      → MatchesLane (record k { checkpoint = c; window = w }) x
  lower_at None none lc lw m = tt
  lower_at (Some lane) none lc lw (inl lt) = inl lt
  lower_at (Some lane) none lc lw (inr m) = inr (lower_known lane none lc lw m)

within_values : (t : State) (c w : ℕ) → is_refused_value t c w ≡ false → (c ≤ t.checkpoint) × (w ≤ t.window)
within_values t c w e = grind (arith, e)

proposed_match : (xs : List (List ℕ)) (t : State) (s : spool.State) (c w : ℕ) → Matches (known t xs) s → (a b : Bool)
    → t.agreed ≡ a → is_refused_value t c w ≡ b
    → Matches (if a || b then known t xs else record (known t xs) { checkpoint = c; window = w }) s
proposed_match xs t s c w m true true p q = m
proposed_match xs t s c w m true false p q = m
proposed_match xs t s c w m false true p q = m
proposed_match xs t s c w m false false p q =
    let fits = within_values t c w q in
    (m.0, lower_at (known t xs) c w (spool.lane_at t.lane s.lanes.open_lanes) p fits.0 fits.1 m.1)

unit_cases : (P : Known → Type 0) (f : Phase) (p : Pieces) (t : State) (x : AnyUnit) → P (known t p.stand)
    → ((c w : ℕ) → P (proposed p t c w)) → P (learned_of_unit f p t x)
unit_cases P f p t x same lower = search rules

unit_match : (f : Phase) (p : Pieces) (t : State) (s : spool.State) (x : AnyUnit) → Matches (known t p.stand) s
    → Matches (learned_of_unit f p t x) s
unit_match f p t s x m =
    unit_cases (λ k. Matches k s) f p t x m
    (λ c w. proposed_match p.stand t s c w m t.agreed (is_refused_value t c w) refl refl)

-- ---- an activity that was given up

module _ (xs : List (List ℕ)) (t : State) (k : ℕ) where
  abbrev dropped : Known
  dropped = record (known t xs) { sending = Dropping (last_of t.send.state) }

  dropped_at : is_sending t.send.state k ≡ true → (y : Option Lane) → Some (Dropping k) ≡ sending_of y
      → MatchesLane (known t xs) y → MatchesLane dropped y
  dropped_at e None told m = tt
  dropped_at e (Some lane) told (inl lt) = inl lt
  dropped_at e (Some lane) told (inr m) =
      let here : lane.sending ≡ Dropping k = cc in
      inr (record {
        generation = m.generation;
        agreed = m.agreed;
        twa = m.twa;
        checkpoint = m.checkpoint;
        window = m.window;
        sending = here ∙ ap Dropping (sending-last t.send.state k e);
        octets = m.octets;
        high = m.high;
        last = m.last;
        pieces = m.pieces;
      })

  dropped_match : (s : spool.State) → Some (Dropping k) ≡ sending_of (spool.lane_at t.lane s.lanes.open_lanes)
      → Matches (known t xs) s → (b : Bool) → is_given_up t (Dropping k) ≡ b
      → Matches (if b then record (known t xs) { sending = Dropping (last_of t.send.state) } else known t xs) s
  dropped_match s told m true e =
      let sends : is_sending t.send.state k ≡ true =
      (and_parts (is_sending t.send.state k) (is_cut t.send.stage k) e).0 in
      (m.0, dropped_at sends (spool.lane_at t.lane s.lanes.open_lanes) told m.1)
  dropped_match s told m false e = m

given_up_match : (p : Pieces) (t : State) (s : spool.State) (x : Option SendState)
    → x ≡ sending_of (spool.lane_at t.lane s.lanes.open_lanes) → Matches (known t p.stand) s
    → Matches (given_up p t x) s
given_up_match p t s None told m = m
given_up_match p t s (Some (Idle l)) told m = m
given_up_match p t s (Some (Sending k c)) told m = m
given_up_match p t s (Some (Ending k c)) told m = m
given_up_match p t s (Some (Dropping k)) told m =
    dropped_match p.stand t k s told m (is_given_up t (Dropping k)) refl

-- ---- by phase and reply

-- what is left to show of each reply that tells of a step
record EachStep (P : Known → Type 0) (p : Pieces) (t : State) (s after : spool.State) : Type 0 where
  pub agreed : Makes t s (agree t.checkpoint t.window) [] after
      → P (learned (known t p.stand) [] (agree t.checkpoint t.window))
  pub started : (o : Carried) (i : ℕ) (rs : List ℕ) → is_idle t.send.state ≡ true
      → Makes t s (start o.activity i rs) o.octets after
      → P (learned (known t p.stand) o.octets (start o.activity 0 []))
  pub confirmed : (n : ℕ) → Makes t s (step_on t (own.Confirm n)) [] after
      → P (learned (known t p.stand) [] (step_on t (own.Confirm n)))
  pub ending : Makes t s (step_on t own.Ending) [] after → P (learned (known t p.stand) [] (step_on t own.Ending))
  pub sent : Makes t s (step_on t own.Sent) [] after → P (learned (known t p.stand) [] (step_on t own.Sent))
  pub dropped : Makes t s (step_on t own.Dropped) [] after → P (learned (known t p.stand) [] (step_on t own.Dropped))
  pub refused : (kind : ℕ) → Makes t s (step_on t (own.Refused kind)) [] after
      → P (learned (known t p.stand) [] (step_on t (own.Refused kind)))
  pub secured : (k n : ℕ) → Makes t s (secure k n p.handed) [] after
      → P (learned (known t p.stand) [] (secure k n p.handed))
  pub completed : (k n : ℕ) → Makes t s (complete k n p.handed) [] after
      → P (learned (known t p.stand) [] (complete k n p.handed))
  pub given : (k : ℕ) → Makes t s (drop_pieces k) [] after → P (learned (known t p.stand) [] (drop_pieces k))

-- an activity is started where none is under way
abbrev IsIdleAt : Phase → State → Type 0
IsIdleAt phase.AsksStart t = is_idle t.send.state ≡ true
IsIdleAt _ t = Unit {0}

pub idle_at : (f : Phase) (t : State) → FitsAt f t → IsIdleAt f t
idle_at f t fits = search rules

start_case : (P : Known → Type 0) (p : Pieces) (t : State) (s after : spool.State) (r : Result Carried StepFault)
    → is_idle t.send.state ≡ true → IsReplyOf phase.AsksStart p.handed t s (reply.Start r) after
    → (after ≡ s → P (known t p.stand)) → EachStep P p t s after
    → P (learned_of phase.AsksStart p t (reply.Start r))
start_case P p t s after (Ok o) idle m same each = each.started o m.0 m.1 idle m.2
start_case P p t s after (Err f) idle m same each = same m

starts_case : (P : Known → Type 0) (p : Pieces) (t : State) (s after : spool.State) (x : Reply)
    → is_idle t.send.state ≡ true → IsReplyOf phase.AsksStart p.handed t s x after
    → (after ≡ s → P (known t p.stand)) → EachStep P p t s after → P (learned_of phase.AsksStart p t x)
starts_case P p t s after (reply.Start r) idle m same each = start_case P p t s after r idle m same each
starts_case P p t s after x idle m same each = same m

reply_cases : (P : Known → Type 0) (f : Phase) (p : Pieces) (t : State) (s after : spool.State) (x : Reply)
    → IsIdleAt f t → IsReplyOf f p.handed t s x after → (after ≡ s → P (known t p.stand)) → EachStep P p t s after
    → ((told : Option SendState) → told ≡ sending_of (spool.lane_at t.lane s.lanes.open_lanes) → after ≡ s
    → P (given_up p t told))
    → P (learned_of f p t x)
reply_cases P phase.AsksStart p t s after x idle r same each told = starts_case P p t s after x idle r same each
reply_cases P f p t s after x idle r same each told =
    search (
      rules,
      same,
      told,
      each.agreed,
      each.confirmed,
      each.ending,
      each.sent,
      each.dropped,
      each.refused,
      each.secured,
      each.completed,
      each.given,
    )

reply_match : OwnStepsMatch → (f : Phase) (p : Pieces) (t : State) (s : spool.State) (x : Reply) (after : spool.State)
    → FitsAt f t → Matches (known t p.stand) s → IsReplyOf f p.handed t s x after → Matches (learned_of f p t x) after
reply_match lead f p t s x after fits m r =
    let made : (on : LaneStep) (octets : List ℕ) → IsAsked (known t p.stand) on → Makes t s on octets after
    → Matches (learned (known t p.stand) octets on) after =
    λ on octets asked made. makes_match lead (known t p.stand) t s on octets after refl refl asked made m in
    reply_cases (λ k. Matches k after) f p t s after x (idle_at f t fits) r
    (λ e. stays (known t p.stand) s after e m) (record {
      agreed = made (agree t.checkpoint t.window) [] (refl, refl);
      started = λ o i rs idle. made (start o.activity i rs) o.octets idle;
      confirmed = λ n. made (step_on t (own.Confirm n)) [] refl;
      ending = made (step_on t own.Ending) [] refl;
      sent = made (step_on t own.Sent) [] refl;
      dropped = made (step_on t own.Dropped) [] refl;
      refused = λ kind. made (step_on t (own.Refused kind)) [] refl;
      secured = λ k n. made (secure k n p.handed) [] tt;
      completed = λ k n. made (complete k n p.handed) [] tt;
      given = λ k. made (drop_pieces k) [] tt;
    })
    (λ told is e. stays (given_up p t told) s after e (given_up_match p t s told is m))

pub replies_match : OwnStepsMatch → RepliesMatch
replies_match lead p t s (event.Unit x) after fits m r =
    stays (learned_of_unit t.phase p t x) s after r (unit_match t.phase p t s x m)
replies_match lead p t s (event.Reply x) after fits m r = reply_match lead t.phase p t s x after fits m r
replies_match lead p t s any4 after fits m r = stays (known t p.stand) s after r m
