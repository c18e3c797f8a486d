-- What a reply of the spool tells of a lane is true of the history.
use Rattle.std.proofs.Common.{◌≡◌, ℕ, ◌+◌, ◌-◌, ◌*◌, ◌<◌, ◌≤◌, Bool, false, List, [], ◌∷◌, ◌++◌, length, take}
use Rattle.std.proofs.Common.{Option, None, Some, Result, Ok, Err, is_ok, option_map, inl, inr, refl, sym, ap, subst}
use Rattle.std.proofs.Common.{◌∙◌}
use Rattle.std.proofs.Common.{append_assoc, append-nil, arith}
use Rattle.std.specs.List.{concat}
use Rattle.std.proofs.lemmas.List.{length-append}
use Rattle.mta_ber.specs.declared.fault.Fault.{Fault}
use Rattle.mta_edge.specs.Views.{ClockView, DiskView}
use Rattle.mta_lane_send.specs.declared.state.SendState.{SendState}
use Rattle.mta_lane_send.specs.Half.{last_of}
use Rattle.mta_lane_recv.specs.declared.state.Last.{Last}
use Rattle.mta_transfer_rules.specs.Lanes.{Halves, IsHeld, lane_in}
use Rattle.mta_transfer_rules.specs.Pieces.{joined, octets_with}
use Rattle.mta_world.specs.Steps.{SpellsNothing}
use Rattle.mta_records.specs.declared.step.Step.{Step}
use Rattle.mta_records.specs.declared.fault.CompleteFault.TheVariants as CompleteFaults
use Rattle.mta_records.specs.declared.fault.StepFault.{StepFault}
use Rattle.mta_records.specs.declared.fault.StepFault.TheVariants as StepFaults
use Rattle.mta_records.specs.declared.lane.LaneValues.{LaneValues}
use Rattle.mta_records.specs.Outgoing.{Carried}
use Rattle.mta_apdu.specs.Apdus.{apdu_of, ApduValue, longest_apdu}
use Rattle.mta_apdu.proofs.ApduLaws.{apdu_full, read_short}
use Rattle.mta_histories.specs.Lanes.{Lane, State, Transfer, lane_at}
use Rattle.mta_histories.specs.Classes.{complete, secure}
use Rattle.mta_histories.specs.History.{after, IsHistory, longest_activity, with_piece}
use Rattle.mta_histories.specs.Seen.{annotated, halves_of, transferred}
use Rattle.mta_histories.proofs.LaneLists.{each-at, number-at}
use Rattle.mta_histories.proofs.Seeing.{lanes_see_histories}
use Rattle.mta_session.specs.State.{State as Session}
use Rattle.mta_session.specs.declared.ask.Ask.{Ask}
use Rattle.mta_session.specs.declared.ask.Ask.TheVariants as ask
use Rattle.mta_session.specs.declared.ask.Reply.{Reply}
use Rattle.mta_session.specs.declared.ask.Reply.TheVariants as reply
use Rattle.mta_session_list_laws.specs.Standing.{HasValues, IsTrue}
use Rattle.mta_spool.specs.Looking.{values_of}
use Rattle.mta_spool.specs.Receiving.{IsBad, IsNoApdu, IsTooLong}
use Rattle.mta_spool.specs.Shown.{Shown}
use Rattle.mta_spool.specs.Stands.{step_moment}
use Rattle.mta_spool.specs.Starting.{Carries, IsResumed}
use Rattle.mta_worker.specs.Answers.{Answered, lanes_of}
use Rattle.mta_worker.specs.Turns.{Replied}
use Rattle.mta_worker_list_laws.specs.Histories.{is_apdu, TellsApdus}

joined_concat : (xs : List (List ℕ)) (x : List ℕ) → concat (xs ++ x ∷ []) ≡ joined xs ++ x
joined_concat [] x = append-nil x
joined_concat (y ∷ ys) x =
    ap (λ (t : List ℕ). y ++ t) (joined_concat ys x) ∙ sym (append_assoc y (joined ys) x)

-- the octets up to a piece, as the spool has them and as the lanes do
octets_are : (pieces : List (List ℕ)) (n : ℕ) (piece : List ℕ)
    → concat (with_piece pieces n piece) ≡ octets_with pieces n piece
octets_are pieces n piece = joined_concat (take (n - 1) pieces) piece

carried_octets : (t : Option Transfer) (k : ℕ) (x : Carried) → Carries t k x → transferred t ≡ x.octets
carried_octets None k x c = absurd c
carried_octets (Some t) k x c = sym c.1

-- ---- octets that are read

pub reading_tells : TellsApdus is_apdu
reading_tells = record {
  of_apdus = λ octets i. ap (λ (r : Result ApduValue Fault). is_ok r) (apdu_full octets i.0 i.1);
  of_others = λ octets f e. ap (λ (r : Result ApduValue Fault). is_ok r) e;
}

-- ---- octets that are none of a message

module _ (spells : List ℕ → Bool) (tells : TellsApdus spells) where
  -- too many octets are not read
  long_fault : (octets : List ℕ) → longest_activity < length octets → (r : Result ApduValue Fault) → apdu_of octets ≡ r
      → spells octets ≡ false
  long_fault octets l (Ok v) e =
      let short : length octets ≤ longest_apdu = read_short octets v e in absurd (omega (arith, l, short))
  long_fault octets l (Err f) e = tells.of_others octets f e

  too_long : (octets : List ℕ) → longest_activity < length octets → SpellsNothing spells octets
  too_long octets l more =
      let len : length (octets ++ more) ≡ length octets + length more = length-append octets more in
      long_fault (octets ++ more) (omega (arith, l, len)) (apdu_of (octets ++ more)) refl

  no_apdu : (octets : List ℕ) (f : Fault) → apdu_of octets ≡ Err f → spells octets ≡ false
  no_apdu octets f e = tells.of_others octets f e

  -- ---- a lane

  module _ (steps : List Step) (history : IsHistory steps) where
    abbrev there : ℕ → Halves
    there n = lane_in n (annotated steps)

    -- an open lane is seen as it is
    shown : (n : ℕ) (l : Lane) → lane_at n (after steps).lanes.open_lanes ≡ Some l → there n ≡ halves_of l
    shown n l e =
        subst (λ (k : ℕ). there k ≡ halves_of l) (sym (number-at (after steps).lanes.open_lanes n l e))
        (each-at (λ lane. lane_in lane.number (annotated steps) ≡ halves_of lane) (after steps).lanes.open_lanes n l e
        (lanes_see_histories steps history).opened)

    values_true : (n : ℕ) (v : LaneValues) (o : Option Lane) → lane_at n (after steps).lanes.open_lanes ≡ o
        → Some v ≡ option_map values_of o → HasValues (there n) v.agreed v.checkpoint v.window
    values_true n v None at e = absurd cc
    values_true n v (Some l) at e =
        let is : there n ≡ halves_of l = shown n l at in
        let same : v ≡ values_of l = cc in
        record {
          agreed_is = ap (λ (x : Halves). x.agreed) is ∙ ap (λ (x : LaneValues). x.agreed) (sym same);
          size_is = ap (λ (x : Halves). x.size) is ∙ ap (λ (x : LaneValues). 1024 * x.checkpoint) (sym same);
          window_is = ap (λ (x : Halves). x.window) is ∙ ap (λ (x : LaneValues). x.window) (sym same);
        }

    recovery_true : (n : ℕ) (x : SendState) (o : Option Lane) → lane_at n (after steps).lanes.open_lanes ≡ o
        → Some x ≡ option_map (λ (l : Lane). l.sending) o → (there n).state ≡ x
    recovery_true n x None at e = absurd cc
    recovery_true n x (Some l) at e =
        let same : x ≡ l.sending = cc in ap (λ (y : Halves). y.state) (shown n l at) ∙ sym same

    receiving_true : (n : ℕ) (x : ℕ × Last) (o : Option Lane) → lane_at n (after steps).lanes.open_lanes ≡ o
        → Some x ≡ option_map (λ (l : Lane). (l.high, l.last)) o
        → ((there n).high ≡ x.0) × ((there n).last ≡ x.1)
    receiving_true n x None at e = absurd cc
    receiving_true n x (Some l) at e =
        let same : x ≡ (l.high, l.last) = cc in (
          ap (λ (y : Halves). y.high) (shown n l at) ∙ ap (λ (y : ℕ × Last). y.0) (sym same),
          ap (λ (y : Halves). y.last) (shown n l at) ∙ ap (λ (y : ℕ × Last). y.1) (sym same),
        )

    resumed_true : (n : ℕ) (x : Carried) (o : Option Lane) → lane_at n (after steps).lanes.open_lanes ≡ o
        → IsResumed o (Some x) → (there n).octets ≡ x.octets
    resumed_true n x None at is = absurd is
    resumed_true n x (Some l) at is =
        ap (λ (y : Halves). y.octets) (shown n l at) ∙ carried_octets l.transfer (last_of l.sending) x is.1

    long_true : (n g k p : ℕ) (piece : List ℕ) (m : ℕ) (f : Fault)
        → IsBad (after steps) n g (secure k p piece) m (IsTooLong p piece f)
        → IsHeld (there n) g × SpellsNothing spells (octets_with (there n).pieces p piece)
    long_true n g k p piece m f b =
        let is : there n ≡ halves_of b.lane = shown n b.lane b.lane_is in (
          (ap (λ (y : Halves). y.phase) is, b.current ∙ ap (λ (y : Halves). y.generation) (sym is)),
          subst (λ (y : Halves). SpellsNothing spells (octets_with y.pieces p piece)) (sym is)
              (subst (λ (os : List ℕ). SpellsNothing spells os) (octets_are b.lane.pieces p piece)
              (too_long (concat (with_piece b.lane.pieces p piece)) b.wrong.0)),
        )

    bad_true : (n g k p : ℕ) (piece : List ℕ) (m : ℕ) (f : Fault)
        → IsBad (after steps) n g (complete k p piece) m (IsNoApdu p piece f)
        → IsHeld (there n) g × (spells (octets_with (there n).pieces p piece) ≡ false)
    bad_true n g k p piece m f b =
        let is : there n ≡ halves_of b.lane = shown n b.lane b.lane_is in (
          (ap (λ (y : Halves). y.phase) is, b.current ∙ ap (λ (y : Halves). y.generation) (sym is)),
          subst (λ (y : Halves). spells (octets_with y.pieces p piece) ≡ false) (sym is)
              (subst (λ (os : List ℕ). spells os ≡ false) (octets_are b.lane.pieces p piece)
              (no_apdu (concat (with_piece b.lane.pieces p piece)) f b.wrong)),
        )

    -- ---- a reply

    module _ {D C : Type 0} (disks : DiskView D) (clocks : ClockView C) (old : Shown D C)
        (state : old.current ≡ after steps) where
      abbrev lanes_are : (n : ℕ) → lane_at n (lanes_of old) ≡ lane_at n (after steps).lanes.open_lanes
      lanes_are n = ap (λ (s : State). lane_at n s.lanes.open_lanes) state

      pub answer_true : (q : Ask) (x : Reply) (new : Shown D C) → Answered disks clocks q old x new
          → IsTrue spells (annotated steps) q x
      answer_true (ask.Values n) (reply.Values (Some v)) new a =
          values_true n v (lane_at n (lanes_of old)) (sym (lanes_are n)) a.0
      answer_true (ask.Recovery n) (reply.Recovery (Some x)) new a =
          recovery_true n x (lane_at n (lanes_of old)) (sym (lanes_are n)) a.0
      answer_true (ask.Receiving n) (reply.Receiving (Some x)) new a =
          receiving_true n x (lane_at n (lanes_of old)) (sym (lanes_are n)) a.0
      answer_true (ask.Resumed n) (reply.Resumed (Ok (Some o))) new a =
          resumed_true n o (lane_at n (lanes_of old)) (sym (lanes_are n)) a.0
      answer_true (ask.Secure n g k p piece) (reply.Secure (Err (CompleteFaults.Bad f))) new a =
          long_true n g k p piece old.current.moment f
          (subst (λ (s : State). IsBad s n g (secure k p piece) old.current.moment (IsTooLong p piece f)) state
          (a.bad f refl).0)
      answer_true (ask.Complete n g k p piece) (reply.Complete (Err (CompleteFaults.Bad f))) new a =
          bad_true n g k p piece (step_moment a.0.told old.current.moment) f
          (subst (λ (s : State). IsBad s n g (complete k p piece) (step_moment a.0.told old.current.moment)
          (IsNoApdu p piece f)) state (a.0.at.bad f refl).0)
      answer_true q x new a = tt

      start_true : (q : Ask) (f : StepFault) → IsTrue spells (annotated steps) q (reply.Start (Err f))
      start_true (ask.Start n g batch) f = tt
      start_true q f = tt

      pub reply_true : (q : Ask) (t : Session) (x : Reply) (new : Shown D C) → Replied disks clocks q t old x new
          → IsTrue spells (annotated steps) q x
      reply_true q t x new r =
          elim r [
            | inl u ↦ subst (λ (y : Reply). IsTrue spells (annotated steps) q y) (sym u.1)
                (start_true q StepFaults.Unexpected)
            | inr a ↦ answer_true q x new a.1
          ]
