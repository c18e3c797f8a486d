-- A good session list is good over a longer history.
use Rattle.std.proofs.Common.{◌≡◌, ◌<◌, ◌≤◌, ℕ, ◌+◌, not, Some, slice_get, get_or, List, [], ◌∷◌, ◌++◌, length, take}
use Rattle.std.proofs.Common.{sym, ◌∙◌, ap, subst, arith}
use Rattle.std.proofs.lemmas.List.{length-append, take-append-le, get_or_append_left}
use Rattle.std.proofs.lemmas.Option.{slice_get-get_or, slice_get_within}
use Rattle.mta_transfer_rules.specs.Sending as s
use Rattle.mta_transfer_rules.specs.Sending.{SendEnd, SendEvent}
use Rattle.mta_transfer_rules.specs.Receiving as r
use Rattle.mta_transfer_rules.specs.Lanes.{Halves, Seen, On, lane_in}
use Rattle.mta_transfer_rules.specs.Lanes as h
use Rattle.mta_transfer_laws.specs.Sendings as sendings
use Rattle.mta_transfer_laws.specs.Receivings as receivings
use Rattle.mta_transfer_laws.specs.Sessions as x
use Rattle.mta_transfer_laws.specs.Sessions.{SessionList, SessionEvent, IsGoodSession, StepsStand, PlacesAbandons, Sees}
use Rattle.mta_transfer_laws.specs.Sessions.{StepSees, IsSeen, IsKept, seen_after, send_all, sending_event}
use Rattle.mta_transfer_laws.specs.Sessions.{sending_list, receiving_list, Rests, Before_accept, GoodSessionsGrow}

module _ (history more : List Seen) where
  longer : length history ≤ length (history ++ more)
  longer = let e : length (history ++ more) ≡ length history
      + length more = length-append history more in omega (arith, e)

  same-at : (p : ℕ) → p < length history → slice_get (history ++ more) p ≡ slice_get history p
  same-at p lt =
      let d : Seen = get_or history p (On 0 (h.Bind 0)) in
      slice_get-get_or (history ++ more) p d (omega (arith, lt, longer))
      ∙ ap (λ (z : Seen). Some z) (get_or_append_left history more d p lt) ∙ sym (slice_get-get_or history p d lt)

  stand : (es : List SessionEvent) → StepsStand history es → StepsStand (history ++ more) es
  stand [] g = tt
  stand (x.Made p j step ∷ es) g = (same-at p (slice_get_within history p (On j step) g.0) ∙ g.0, stand es g.1)
  stand (x.Looked n look ∷ es) g = (omega (arith, g.0, longer), stand es g.1)
  stand (x.Got y ∷ es) g = stand es g
  stand (x.Refused y ∷ es) g = stand es g
  stand (x.Put y ∷ es) g = stand es g

  kept : (lane k from upto : ℕ) → upto ≤ length history → IsKept history lane k from upto
      → IsKept (history ++ more) lane k from upto
  kept lane k from upto le g p a b e = g p a b (sym (same-at p (omega (arith, b, le))) ∙ e)

  seen : (lane from upto : ℕ) (e : SendEnd) → upto ≤ length history → IsSeen history lane from upto e
      → IsSeen (history ++ more) lane from upto e
  seen lane from upto e le g i = kept lane _ from upto le (g i)

  step-sees : (lane from p : ℕ) (e : SendEnd) (zs : List SendEvent) → p ≤ length history
      → StepSees history lane from p e zs → StepSees (history ++ more) lane from p e zs
  step-sees lane from p e [] le g = tt
  step-sees lane from p e (z ∷ zs) le g = (g.0, seen lane from p e le g.1)

  places : (lane : ℕ) (es : List SessionEvent) (from : ℕ) (e : SendEnd) → StepsStand history es
      → PlacesAbandons history lane from e es → PlacesAbandons (history ++ more) lane from e es
  places lane [] from e st g = tt
  places lane (x.Made p j step ∷ es) from e st g =
      let lt : p < length history = slice_get_within history p (On j step) st.0 in (
        step-sees lane from p e (sending_event lane (x.Made p j step)) (omega (arith, lt)) g.0,
        places lane es _ _ st.1 g.1,
      )
  places lane (x.Looked n x.At_sending ∷ es) from e st g =
      ((g.0.0, seen lane from n e st.0 g.0.1), places lane es _ _ st.1 g.1)
  places lane (x.Looked n (x.Finds k m piece) ∷ es) from e st g = (tt, places lane es _ _ st.1 g.1)
  places lane (x.Looked n x.No_batch ∷ es) from e st g = (tt, places lane es _ _ st.1 g.1)
  places lane (x.Looked n x.Elsewhere ∷ es) from e st g = (tt, places lane es _ _ st.1 g.1)
  places lane (x.Got y ∷ es) from e st g = (tt, places lane es _ _ st g.1)
  places lane (x.Refused y ∷ es) from e st g = (tt, places lane es _ _ st g.1)
  places lane (x.Put y ∷ es) from e st g = (tt, places lane es _ _ st g.1)

pub grow : GoodSessionsGrow
grow spells history more lane size window initiator l g =
    let same : take (l.at + 1) (history ++ more)
    ≡ take (l.at + 1) history = take-append-le (l.at + 1) history more (omega (arith, g.begun)) in
    let back : take (l.at + 1) history ≡ take (l.at + 1) (history ++ more) = sym same in
    record {
      begun = (let le : length history ≤ length (history ++ more) = longer history more in omega (arith, g.begun, le));
      stands = stand history more l.events g.stands;
      never_fall = g.never_fall;
      sending = record {
        plain = g.sending.plain;
        last_end = g.sending.last_end;
        allowed = subst (λ (z : List Seen). s.IsSendingEnd
            (sendings.end_on_link (lane_in lane z) size window (not initiator)) (sending_list lane l).events
            g.sending.last_end) back g.sending.allowed;
      };
      receiving = record {
        plain = g.receiving.plain;
        last_end = g.receiving.last_end;
        allowed = subst (λ (z : List Seen). r.IsReceivingEnd (receivings.end_on_link (lane_in lane z))
            (receiving_list lane l).events g.receiving.last_end) back g.receiving.allowed;
        findings = subst (λ (z : List Seen). receivings.AreTrue spells (receivings.end_on_link (lane_in lane z))
            (lane_in lane z).pieces (receiving_list lane l).events) back g.receiving.findings;
      };
      turn = g.turn;
      rests = subst (λ (z : List Seen). Rests lane Before_accept
          (sendings.end_on_link (lane_in lane z) size window (not initiator)) (receivings.end_on_link (lane_in lane z))
          l.events) back g.rests;
      refuses = g.refuses;
      placed = places history more lane l.events (l.at + 1)
          (sendings.end_on_link (lane_in lane (take (l.at + 1) (history ++ more))) size window (not initiator)) g.stands
          (subst (λ (z : List Seen). PlacesAbandons history lane (l.at + 1)
          (sendings.end_on_link (lane_in lane z) size window (not initiator)) l.events) back g.placed);
    }
