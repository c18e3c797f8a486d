-- A new lane is as the session knows it for which it was opened.
use Rattle.std.proofs.Common.{◌≡◌, ℕ, ◌+◌, [], ◌∷◌, ◌++◌, Some, refl, sym, subst, arith, inr}
use Rattle.mta_lane_send.specs.declared.state.SendState.{SendState}
use Rattle.mta_lane_send.specs.declared.state.SendState.TheVariants.{Idle}
use Rattle.mta_records.specs.declared.lane.LaneRole.TheVariants.{Initiator, Responder}
use Rattle.mta_session.specs.Wanted.{agreed_checkpoint, agreed_window}
use Rattle.mta_histories.specs.Lanes.{Lane, lane_at}
use Rattle.mta_histories.specs.History.{new_lane}
use Rattle.mta_histories.proofs.Shown.{more-found}
use Rattle.mta_lane_match_laws.specs.Matches.{IsHalf, MatchesLane}
use Rattle.mta_lane_match_laws.specs.Laws.{OpensMatch, AcceptsMatch}

idle_half : (x : SendState) → x ≡ Idle 0 → IsHalf x (Idle 0)
idle_half x e = subst (λ (y : SendState). IsHalf y (Idle 0)) (sym e) refl

pub opens_match : OpensMatch
opens_match p units s moment numbered lane_is generation_is =
    let new : Lane =
    new_lane (s.lanes.count + 1) Initiator p.peer p.reference p.twa p.checkpoint p.window in
    let at : lane_at p.lane (s.lanes.open_lanes ++ new ∷ []) ≡ Some new =
    subst (λ (n : ℕ). lane_at n (s.lanes.open_lanes ++ new ∷ []) ≡ Some new) (sym lane_is)
    (more-found 0 new s.lanes.open_lanes s.lanes.count refl numbered) in (
      omega (arith, lane_is),
      subst (MatchesLane _) (sym at) (inr (record {
        generation = sym generation_is;
        agreed = refl;
        twa = refl;
        checkpoint = omega arith;
        window = omega arith;
        sending = refl;
        octets = refl;
        high = refl;
        last = refl;
        pieces = refl;
      })),
    )

pub accepts_match : AcceptsMatch
accepts_match t o line again s moment numbered fits =
    let new : Lane =
    new_lane (s.lanes.count + 1) Responder o.name o.reference o.twa (agreed_checkpoint o.checkpoint line.checkpoint)
    (agreed_window o.window line.window) in (
      omega arith,
      subst (MatchesLane _) (sym (more-found 0 new s.lanes.open_lanes s.lanes.count refl numbered)) (inr (record {
        generation = refl;
        agreed = refl;
        twa = refl;
        checkpoint = refl;
        window = refl;
        sending = idle_half t.send.state fits.0.0.1;
        octets = sym fits.0.0.0.3;
        high = sym fits.0.0.2;
        last = sym fits.0.0.3;
        pieces = refl;
      })),
    )
