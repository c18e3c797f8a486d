-- What other workers do to a lane keeps it as the session knows it, or makes it later.
use Rattle.std.proofs.Common.{◌≡◌, ℕ, ◌<◌, true, Option, Some, None, [], ◌∷◌, suc, refl, sym, ap, subst, ◌∙◌}
use Rattle.std.proofs.Common.{arith, inl, inr}
use Rattle.std.proofs.lemmas.Bool.{eqb-true}
use Rattle.mta_lane_send.specs.declared.state.SendState.{SendState}
use Rattle.mta_lane_send.specs.declared.state.SendState.TheVariants.{Sending, Dropping}
use Rattle.mta_lane_send.specs.Half.{is_sending}
use Rattle.mta_histories.specs.Lanes.{Lane}
use Rattle.mta_histories.specs.Lanes as spool
use Rattle.mta_histories.specs.Classes.{LaneStep, agree, bind, start, confirm, to_end, settle, abandon, secure}
use Rattle.mta_histories.specs.Classes.{complete, drop_pieces, close, Class, begins}
use Rattle.mta_histories.specs.Classes.{on_lane, class_of}
use Rattle.mta_histories.specs.History.{IsOfGeneration, LaneNeeds, lane_after, after_step, when}
use Rattle.mta_histories.specs.Laws.{StepsKeep}
use Rattle.mta_lane_match_laws.specs.Matches.{Known, IsHalf, IsKnown, IsLaterOrKnown}
use Rattle.mta_lane_match_laws.specs.Steps.{IsOthers, IsOthersOn, IsElsewhere}
use Rattle.mta_lane_match_laws.specs.Laws.{OthersKeep, OthersKeepAll}
use Rattle.mta_lane_match_laws.proofs.OneLane.{LeadsOn, BeginsWith, step_keeps}

-- what is given up was in Sending, so the session has it there
given_up : (known kept : SendState) (k : ℕ) → is_sending kept k ≡ true → IsHalf known kept → IsHalf known (Dropping k)
given_up (Sending i d) (Sending j c) k e (inl h) =
    inr (let one : i ≡ j = cc in ap Dropping (eqb-true k j e ∙ sym one))
given_up (Sending i d) (Sending j c) k e (inr h) = absurd cc
given_up any0 (Sending j c) k e h = absurd cc
given_up known any1 k e h = absurd cc

module _ (t : Known) (s : spool.State) (lane : Lane) (moment : ℕ) where
  -- a lane of a later generation stays so
  still_later : (step : LaneStep) → t.generation < lane.generation
      → t.generation < (lane_after s lane step moment).generation
  still_later (agree c w) lt = lt
  still_later bind lt = omega (arith, lt)
  still_later (start k i rs) lt = lt
  still_later (confirm k n) lt = lt
  still_later (to_end k) lt = lt
  still_later (settle how k) lt = lt
  still_later (abandon k) lt = lt
  still_later (secure k n piece) lt = lt
  still_later (complete k n piece) lt = lt
  still_later (drop_pieces k) lt = lt
  still_later close lt = lt

  -- a step that tells the session's generation is the session's
  none : {T : Type 0} (g : Option ℕ) → lane.generation ≡ t.generation → g ≡ Some lane.generation
      → IsElsewhere t.lane t.generation t.lane g → T
  none None same e other = absurd other
  none (Some h) same e other = absurd (other refl (let one : h ≡ lane.generation = cc in one ∙ same))

  given_up_known : (k : ℕ) → is_sending lane.sending k ≡ true → IsKnown t lane
      → IsKnown t (lane_after s lane (abandon k) moment)
  given_up_known k sends m = record {
    generation = m.generation;
    agreed = m.agreed;
    twa = m.twa;
    checkpoint = m.checkpoint;
    window = m.window;
    sending = given_up t.sending lane.sending k sends m.sending;
    octets = m.octets;
    high = m.high;
    last = m.last;
    pieces = m.pieces;
  }

  lane_keeps : (step : LaneStep) (g : Option ℕ) → IsOfGeneration lane g step → LaneNeeds s lane step moment
      → IsOthersOn t.lane t.generation t.lane g step
      → IsLaterOrKnown t lane → IsLaterOrKnown t (lane_after s lane step moment)
  lane_keeps step g current needs other (inl lt) = inl (still_later step lt)
  lane_keeps (agree c w) g current needs other (inr m) = none g m.generation current other
  lane_keeps bind g current needs other (inr m) = inl (omega (arith, m.generation))
  lane_keeps (start k i rs) g current needs other (inr m) = none g m.generation current other
  lane_keeps (confirm k n) g current needs other (inr m) = none g m.generation current other
  lane_keeps (to_end k) g current needs other (inr m) = none g m.generation current other
  lane_keeps (settle how k) g current needs other (inr m) = none g m.generation current other
  lane_keeps (abandon k) g current needs other (inr m) = inr (given_up_known k needs.0 m)
  lane_keeps (secure k n piece) g current needs other (inr m) = none g m.generation current other
  lane_keeps (complete k n piece) g current needs other (inr m) = none g m.generation current other
  lane_keeps (drop_pieces k) g current needs other (inr m) = none g m.generation current other
  lane_keeps close g current needs other (inr m) = inr m

others_lead : (t : Known) (s : spool.State) (c : Class) (moment : ℕ) → IsOthers t.lane t.generation c
    → LeadsOn (IsLaterOrKnown t) t.lane s c moment
others_lead t s (on_lane n g step) moment other =
    λ lane same current needs. lane_keeps t s lane moment step g current needs
    (subst (λ (v : ℕ). IsOthersOn t.lane t.generation v g step) same other)
others_lead t s any2 moment other = tt

-- a snapshot is none of theirs
others_begin : (t : Known) (c : Class) → IsOthers t.lane t.generation c → BeginsWith (IsLaterOrKnown t) t.lane c
others_begin t (begins state) other = absurd other
others_begin t any1 other = tt

pub others_keep : OthersKeep
others_keep t s step numbered possible others m =
    step_keeps (IsLaterOrKnown t) t.lane s step numbered possible (others_begin t (class_of step) others)
    (others_lead t s (class_of step) (when s step) others) m

pub others_keep_all : OthersKeep → StepsKeep → OthersKeepAll
others_keep_all keeps stays t s [] kept possible others m = m
others_keep_all keeps stays t s (step ∷ steps) kept possible others m =
    others_keep_all keeps stays t (after_step s step) steps (stays s step kept possible.0) possible.1
    (λ n x e. others (suc n) x e)
    (keeps t s step kept.numbered_lanes possible.0 (others 0 step refl) m)
