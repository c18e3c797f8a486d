-- The step that may be made behind an Abort.
use Rattle.std.proofs.Common.{◌≡◌, ℕ, ◌&&◌, ◌==◌, not, Bool, true, false, Some}
use Rattle.std.proofs.Common.{refl, ap, ◌∙◌, arith}
use Rattle.std.proofs.lemmas.Bool.Decides.{nat_tests}
use Rattle.mta_lane_send.specs.declared.state.SendState.{SendState}
use Rattle.mta_lane_send.specs.Half.{is_idle, is_ending, last_of}
use Rattle.mta_transfer_rules.specs.Units.{LaneUnit}
use Rattle.mta_transfer_rules.specs.Units as u
use Rattle.mta_transfer_rules.specs.Sending as s
use Rattle.mta_transfer_rules.specs.Sending.{SendEnd, SendStage, stage_got, is_discarded}
use Rattle.mta_session.specs.declared.event.SessionEnd.TheVariants as end
use Rattle.mta_session.specs.declared.phase.Phase.TheVariants as phase
use Rattle.mta_session.specs.Sending.{is_discard_put}
use Rattle.mta_session_laws.specs.Called.{abort_unit}
use Rattle.mta_session_laws.proofs.Opening.{LastFits}
use Rattle.mta_session_laws.proofs.Events.{never}

and_first : (a b : Bool) → (a && b) ≡ true → a ≡ true
and_first true b l = refl
and_first false b l = l

and_second : (a b : Bool) → (a && b) ≡ true → b ≡ true
and_second true b l = l
and_second false b l = absurd (never l)

not_true : (b : Bool) → not b ≡ true → b ≡ false
not_true true l = absurd (never l)
not_true false l = refl

pub eq_of : (n m : ℕ) → (n == m) ≡ true → n ≡ m
eq_of n m l = grind (arith, nat_tests)

discarded_got : (stage : SendStage) (k : ℕ) (x : LaneUnit) → is_discard_put stage k ≡ true
    → is_discarded (stage_got stage x) ≡ true
discarded_got (s.Discard_put j) k x l = refl
discarded_got any0 k x l = absurd (never l)

-- unrecognizedActivity denies what is under way
pub denied_last : (e : SendEnd) (st : SendState) (reason : ℕ) → e.state ≡ st
    → ((reason == 2) && not (is_idle st)) ≡ true →
    LastFits (phase.AsksLast (end.PeerAborted reason)) (s.got e (abort_unit reason))
denied_last e st reason a l =
    let two : reason ≡ 2 = eq_of reason 2 (and_first (reason == 2) (not (is_idle st)) l) in
    let live : is_idle e.state ≡ false = ap is_idle a
    ∙ not_true (is_idle st) (and_second (reason == 2) (not (is_idle st)) l) in
    (λ q. (u.Unrecognized, ap {A = ℕ} (λ z. Some (abort_unit z)) q, live), λ q. absurd (omega (arith, two, q)))

-- transferCompleted behind Discard says that the peer has what is discarded
pub sent_last : (e : SendEnd) (st : SendState) (stage : SendStage) (reason : ℕ) → e.state ≡ st → e.stage ≡ stage →
    ((reason == 7) && is_ending st (last_of st) && is_discard_put stage (last_of st)) ≡ true →
    LastFits (phase.AsksLast (end.PeerAborted reason)) (s.got e (abort_unit reason))
sent_last e st stage reason a b l =
    let front = and_first ((reason == 7) && is_ending st (last_of st)) (is_discard_put stage (last_of st)) l in
    let seven : reason ≡ 7 = eq_of reason 7 (and_first (reason == 7) (is_ending st (last_of st)) front) in
    let ends : is_ending e.state (last_of e.state) ≡ true =
    ap {A = SendState} (λ z. is_ending z (last_of z)) a ∙ and_second (reason == 7) (is_ending st (last_of st)) front in
    let put : is_discard_put e.stage (last_of st) ≡ true =
    ap {A = SendStage} (λ z. is_discard_put z (last_of st)) b
    ∙ and_second ((reason == 7) && is_ending st (last_of st)) (is_discard_put stage (last_of st)) l in (
      λ q. absurd (omega (arith, seven, q)),
      λ q. (
        u.Completed,
        ap {A = ℕ} (λ z. Some (abort_unit z)) q,
        (ends, discarded_got e.stage (last_of st) (abort_unit reason) put),
      ),
    )
