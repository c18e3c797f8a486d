-- Behind a session both agents do what is due, until nothing is.
use Rattle.std.proofs.Common.{◌≡◌, inl, inr, ◌<◌, ◌≤◌, ℕ, ◌+◌, ◌^◌, Bool, true, false, List, [], ◌∷◌, length}
use Rattle.std.proofs.Common.{refl, sym, subst, arith}
use Rattle.mta_lane_recv.specs.declared.state.Last.{Last}
use Rattle.mta_edge.specs.Held.{HeldDisk}
use Rattle.mta_records.specs.declared.step.Step.{Step}
use Rattle.mta_records.specs.declared.step.Step.TheVariants as step
use Rattle.mta_histories.specs.Due.{IsNext, IsQuiet}
use Rattle.mta_histories.specs.History.{after_step}
use Rattle.mta_histories.specs.Lanes.{Lane}
use Rattle.mta_histories.specs.Lanes.{State as SpoolState}
use Rattle.mta_spool.specs.Shown.{Shown}
use Rattle.mta_spool.specs.Stands.{IsSpent}
use Rattle.mta_drill_step_laws.specs.First.{AllAreFree, HasAccepted}
use Rattle.mta_drill_step_laws.specs.Second.{HasGot}
use Rattle.mta_drill_step_laws.proofs.First.{first_is_quiet}
use Rattle.mta_drill_step_laws.proofs.Second.{next_is_delivered}
use Rattle.mta_drill_step_laws.proofs.States.{delivered_is_one_more, idle_is_free, none_is_free}
use Rattle.mta_drill_stage_laws.specs.Sessions.{Settles as SettlesIn}
use Rattle.mta_drill_stage_laws.specs.Settings.{IsSized, SecondHolds, Setting, octets_behind, second_lane}
use Rattle.mta_drill_stage_laws.specs.Stages.{HasEnded, StandsHalted, Was_broken, Was_closed, Was_given_back}
use Rattle.mta_drill_stage_laws.specs.World.{World}
use Rattle.mta_drill.specs.Calls.{HasRest, HasSettled, Not_yet, One_more, Settles}
use Rattle.mta_drill.proofs.Calling.{nothing_due}

-- ---- at the first agent nothing is

pub first_settles : (before count done : ℕ) (old new : Shown HeldDisk (List ℕ))
    → HasAccepted before count done old.current.machine → old.current.moment ≡ 0 → HasSettled old new
    → SettlesIn old.current [] new.current
first_settles before count done old new accepted moment settled = (
  first_is_quiet before count done old.current accepted,
  nothing_due before count done old.current new.current accepted moment settled.turned.settles,
)

-- ---- at the second one messages are delivered

-- what it holds all the while
record Delivers (before got : ℕ) (ls : List Lane) (s : SpoolState) : Type 0 where
  pub given : ℕ
  pub has : HasGot before got given s.machine
  pub lanes : s.lanes.open_lanes ≡ ls
  pub moment : s.moment ≡ 0

module _ (before got : ℕ) (ls : List Lane) (free : (z : SpoolState) → z.lanes.open_lanes ≡ ls → AllAreFree z)
  where
    -- what is next is a delivery
    next-here : (s : SpoolState) (due : Step) → (at : Delivers before got ls s) → IsNext s s.moment due
        → (at.given < got) × (due ≡ step.Deliver (at.given + 1) 1 0)
    next-here s due at next =
        next_is_delivered before got at.given s due at.has (free s at.lanes)
        (subst (λ (m : ℕ). IsNext s m due) at.moment next)

    one-on : (s : SpoolState) (due : Step) → Delivers before got ls s → IsNext s s.moment due
        → Delivers before got ls (after_step s due)
    one-on s due at next =
        let is = next-here s due at next in
        subst (λ (d : Step). Delivers before got ls (after_step s d)) (sym is.1) (record {
          given = at.given + 1;
          has = delivered_is_one_more before got at.given s at.has is.0;
          lanes = at.lanes;
          moment = refl;
        })

    goes-on : (s t : SpoolState) → Delivers before got ls s → Settles s t → Delivers before got ls t
    goes-on s t at Not_yet = at
    goes-on s t at (One_more u due settles next) = one-on u due (goes-on s u at settles) next

    -- steps that are known from the last one are known from the first one
    from-first : (s t new : SpoolState) (rest : List Step) → Delivers before got ls s → Settles s t
        → SettlesIn t rest new → (all : List Step) × SettlesIn s all new
    from-first s t new rest at Not_yet after = (rest, after)
    from-first s t new rest at (One_more u due settles next) after =
        from-first s u new (due ∷ rest) at settles
        (subst (λ (m : ℕ). IsNext u m due) (goes-on s u at settles).moment next, after)

    -- numbers are left
    quiet-here : (s : SpoolState) → got ≤ 1000 → Delivers before got ls s → HasRest s → IsQuiet s 0
    quiet-here s few at (inl quiet) = subst (λ (m : ℕ). IsQuiet s m) at.moment quiet
    quiet-here s few at (inr spent) =
        let is = next-here s spent.0 at spent.1 in
        let short : IsSpent s (step.Deliver (at.given + 1) 1 0) = subst (λ (d : Step). IsSpent s d) is.1 spent.2 in
        let needs : 2 ^ 32 ≤ length s.machine.items + 2 = short in
        absurd (omega (arith, needs, at.has.items, few))

    pub second_settles : (given : ℕ) (old new : Shown HeldDisk (List ℕ)) → got ≤ 1000
        → HasGot before got given old.current.machine → old.current.lanes.open_lanes ≡ ls → old.current.moment ≡ 0
        → HasSettled old new → (others : List Step) × SettlesIn old.current others new.current
    second_settles given old new few has lanes moment settled =
        let at : Delivers before got ls old.current =
        record { given = given; has = has; lanes = lanes; moment = moment } in
        from-first old.current new.current new.current [] at settled.turned.settles
        (quiet-here new.current few (goes-on old.current new.current at settled.turned.settles) settled.rest, refl)

-- ---- behind a session

-- what is due at both agents where they stand so
pub record HaveSettled (w : World) (first second : SpoolState) : Type 0 where
  pub ones : List Step
  pub others : List Step
  pub first_settles : SettlesIn w.calling.spool ones first
  pub second_settles : SettlesIn w.listening.spool others second

module _ (x : Setting) (w : World) (sized : IsSized x) (first first_new second second_new : Shown HeldDisk (List ℕ))
    (one : w.calling.spool ≡ first.current) (other : w.listening.spool ≡ second.current)
    (settled : HasSettled first first_new) (all_settled : HasSettled second second_new) where
  first-here : (done : ℕ) → HasAccepted x.before x.count done w.calling.spool.machine → w.calling.spool.moment ≡ 0
      → SettlesIn w.calling.spool [] first_new.current
  first-here done accepted moment =
      subst (λ (s : SpoolState). SettlesIn s [] first_new.current) (sym one)
      (first_settles x.before x.count done first first_new
      (subst (λ (s : SpoolState). HasAccepted x.before x.count done s.machine) one accepted)
      (subst (λ (s : SpoolState). s.moment ≡ 0) one moment) settled)

  second-here : (got : ℕ) (ls : List Lane) → ((z : SpoolState) → z.lanes.open_lanes ≡ ls → AllAreFree z)
      → got ≤ x.count → HasGot x.before got x.given w.listening.spool.machine → w.listening.spool.lanes.open_lanes ≡ ls
      → w.listening.spool.moment ≡ 0
      → (others : List Step) × SettlesIn w.listening.spool others second_new.current
  second-here got ls free most has lanes moment =
      let few : got ≤ 1000 = omega (arith, most, sized.few) in
      subst (λ (s : SpoolState). (others : List Step) × SettlesIn s others second_new.current) (sym other)
      (second_settles x.before got ls free x.given second second_new few
      (subst (λ (s : SpoolState). HasGot x.before got x.given s.machine) other has)
      (subst (λ (s : SpoolState). s.lanes.open_lanes ≡ ls) other lanes)
      (subst (λ (s : SpoolState). s.moment ≡ 0) other moment) all_settled)

  on-lane : (got high : ℕ) (l : Last) (pieces : List (List ℕ)) → got ≤ x.count
      → SecondHolds x w.listening.spool got high l pieces
      → (others : List Step) × SettlesIn w.listening.spool others second_new.current
  on-lane got high l pieces most holds =
      second-here got (second_lane x high l pieces ∷ [])
      (λ z e. idle_is_free z (second_lane x high l pieces) e refl) most holds.has holds.lanes holds.moment

  most-halted : (ending : Bool) (done c got high : ℕ) (o : List ℕ) (l : Last) (pieces : List (List ℕ))
      → done < x.count → StandsHalted ending done o c got high l pieces → got ≤ x.count
  most-halted true done c got high o l pieces below h = omega (arith, below, h.got_is)
  most-halted false done c got high o l pieces below h = omega (arith, below, h.3.got_is)

  pub both_settle : HasEnded x w → HaveSettled w first_new.current second_new.current
  both_settle (Was_closed e f closed others marks) =
      let second = second-here x.count [] (λ z none. none_is_free z none) (omega arith) others.has others.lanes
      others.moment in
      record {
        ones = [];
        others = second.0;
        first_settles = first-here x.count closed.accepted closed.moment;
        second_settles = second.1;
      }
  both_settle (Was_broken done c ending e f halted marks later) =
      let most = most-halted ending done c halted.got halted.high (octets_behind x done) halted.last halted.pieces
      halted.below halted.stands in
      let second = on-lane halted.got halted.high halted.last halted.pieces most halted.second_holds in
      record {
        ones = [];
        others = second.0;
        first_settles = first-here done halted.first_holds.accepted halted.first_holds.moment;
        second_settles = second.1;
      }
  both_settle (Was_given_back done got high l pieces within since e f holds others stands marks) =
      let second = on-lane got high l pieces (omega (arith, within, stands.got_is)) others in
      record {
        ones = [];
        others = second.0;
        first_settles = first-here done holds.accepted holds.moment;
        second_settles = second.1;
      }
