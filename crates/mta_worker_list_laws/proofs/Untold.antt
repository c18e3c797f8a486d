-- A session that has no list opened or bound no lane but one of its peer's.
use Rattle.std.proofs.Common.{◌≡◌, ◌<◌, ◌≤◌, ℕ, ◌+◌, ◌-◌, Bool, false, List, [], ◌∷◌, ◌++◌, length, Option, None}
use Rattle.std.proofs.Common.{Ok, refl, sym, ap, subst, ◌∙◌, append-nil, arith, slice_get, inl, inr}
use Rattle.std.proofs.lemmas.Bool.{cases_lt}
use Rattle.mta_transfer_rules.specs.Lanes.{Seen}
use Rattle.mta_links.specs.Links.{LinkView}
use Rattle.mta_records.specs.declared.lane.LaneRole.TheVariants.{Responder}
use Rattle.mta_records.specs.declared.step.Step.{Step}
use Rattle.mta_lane_match_laws.specs.Generations.{BeginsAt}
use Rattle.mta_session.specs.State.{is_initiator, State}
use Rattle.mta_session.specs.Session.{new_responder}
use Rattle.mta_session.specs.declared.ask.Ask.{Ask}
use Rattle.mta_session.specs.declared.ask.Ask.TheVariants as ask
use Rattle.mta_session.specs.declared.ask.Reply.{Reply}
use Rattle.mta_session.specs.declared.ask.Reply.TheVariants as reply
use Rattle.mta_session.specs.declared.event.Action.{Action}
use Rattle.mta_session.specs.declared.event.Action.TheVariants as action
use Rattle.mta_session_laws.specs.Whole.{AreCalls}
use Rattle.mta_session_list_laws.specs.Calls.{Call, opened, StepOn, step_told, turns_of}
use Rattle.mta_session_list_laws.specs.Standing.{AllComeTrue, Stands, StandsAs}
use Rattle.mta_session_list_laws.proofs.Found.{never}
use Rattle.mta_shared.specs.Counts.{times}
use Rattle.mta_shared.proofs.Sums.{times-append}
use Rattle.mta_worker_list_laws.specs.Begun.{begun_by, Calls, GiveNone, IsGivenOver, IsNewAt, IsOver, Listens}
use Rattle.mta_worker_list_laws.specs.Begun.{made_over, Untold}
use Rattle.mta_worker_list_laws.specs.Histories.{place, whole}
use Rattle.mta_worker_list_laws.specs.Leads.{entry_at, Leads, made_in}
use Rattle.mta_worker_list_laws.specs.Roles.{WasOpenAs, WhereBegun}
use Rattle.mta_worker_list_laws.specs.Segments.{ListsAs, OnLane, told_over}
use Rattle.mta_worker_list_laws.specs.Untold.{UntoldAreTheirs}
use Rattle.mta_worker_list_laws.proofs.Beginning.{begins_told, entry_begins, IsBegin}
use Rattle.mta_worker_list_laws.proofs.Once.{begun_lane, none_begun}
use Rattle.mta_worker_list_laws.proofs.Owned.{none_hit, one_hit}
use Rattle.mta_worker_list_laws.proofs.Sessions.{later_seen}

module _ (spells : List ℕ → Bool) (history : List Seen) (n : ℕ) where
  -- the lane is that of the step that stands there
  there : (z : StepOn) (from seen k l g : ℕ) → Stands history from seen z → n ≤ from → 0 < times k ((seen - 1 - n) ∷ [])
      → BeginsAt history (n + k) l g → l ≡ z.lane
  there z from seen k l g s le hit b =
      let at : k ≡ seen - 1 - n = one_hit k (seen - 1 - n) hit in
      let here : n + k ≡ seen - 1 = omega (arith, at, le, s.later) in
      begun_lane l g z.lane z.step
      (begins_told l g b.0 z (slice_get history (seen - 1))
      (ap (λ (m : ℕ). slice_get history m) (sym here) ∙ b.1) s.entry b.2)

  by_reply : (P : ℕ → Type 0) (q : Ask) (y : Reply) (from seen k l g : ℕ) → IsBegin q y
      → StandsAs spells history from seen q y (step_told q y) → n ≤ from → 0 < times k (entry_at n seen (step_told q y))
      → BeginsAt history (n + k) l g → WhereBegun P q y → P l
  by_reply P (ask.LaneOpen role peer name twa c w) (reply.LaneOpen (Ok m)) from seen k l g begin s le hit b given =
      let z : StepOn = record { lane = m; step = opened role c w } in
      subst P (sym (there z from seen k l g s le hit b)) given
  by_reply P (ask.Bind m) (reply.Bind (Ok j)) from seen k l g begin s le hit b given =
      subst P (sym (there _ from seen k l g s le hit b)) given
  by_reply P q y from seen k l g begin s le hit b given = absurd begin

  over_theirs : (steps : List Step) (mid upto : ℕ) (u : State) (b : Action) (o : IsOver spells history mid upto u b)
      (k lane g : ℕ) → n ≤ mid → 0 < times k (made_over n o) → BeginsAt history (n + k) lane g → IsGivenOver steps o
      → WasOpenAs Responder lane steps
  over_theirs steps mid upto u b (Untold q y aborts is comes answers going) k lane g le hit begins given =
      by_reply (λ m. WasOpenAs Responder m steps) q y mid upto k lane g
      (entry_begins spells history n q y (step_told q y) mid upto k lane g refl comes.1 le hit begins) comes.1 le hit
      begins given
  over_theirs steps mid upto u b any5 k lane g le hit begins given = none_hit k hit

  own_theirs : (steps : List Step) (from mid upto : ℕ) (t u : State) (b : Action) (calls : List Call)
      (new : IsNewAt history from t) (o : IsOver spells history mid upto u b) (k lane g : ℕ)
      → is_initiator t.side ≡ false → GiveNone calls → Leads spells history from t action.Read calls mid u b → n ≤ from
      → 0 < times k (begun_by n new ++ (made_in n action.Read calls ++ made_over n o))
      → BeginsAt history (n + k) lane g → IsGivenOver steps o → WasOpenAs Responder lane steps
  own_theirs steps from mid upto t u b calls (Calls p units at _ is has opens) o k lane g side none led le hit begins
      given =
      absurd (never (sym side))
  own_theirs steps from mid upto t u b calls (Listens own units _) o k lane g side none led le hit begins given =
      let sum : times k (made_in n action.Read calls ++ made_over n o)
      ≡ times k (made_in n action.Read calls) + times k (made_over n o) =
      times-append k (made_in n action.Read calls) (made_over n o) in
      let less : n ≤ mid = subst (λ (m : ℕ). n ≤ m) led.seen
      (omega (arith, le, later_seen spells history n calls action.Read from led.come_true)) in
      let same : calls ≡ calls ++ [] = sym (append-nil calls) in
      elim (cases_lt 0 (times k (made_in n action.Read calls))) [
        | inl now ↦ absurd (
            none_begun spells history n calls [] action.Read (new_responder own units) u from k lane g tt
            (subst (λ (cs : List Call). AreCalls (new_responder own units) (turns_of cs) u) same led.calls_are)
            (subst (λ (cs : List Call). AllComeTrue spells history from action.Read cs) same led.come_true) none le now
            begins)
        | inr zero_of ↦ over_theirs steps mid upto u b o k lane g less (omega (arith, hit, sum, zero_of)) begins given
      ]

pub untold_are_theirs : {L : Type 0} (links : LinkView L) → UntoldAreTheirs links
untold_are_theirs links spells first entries s x k lane g list hit begins =
    let history : List Seen = whole first entries in
    let listed : ListsAs spells history x.new x.calls (told_over x.ran.done.over) None =
    subst (λ (o : Option OnLane). ListsAs spells history x.new x.calls (told_over x.ran.done.over) o) list x.of_it.list
    in
    own_theirs spells history (length first) (first ++ entries) (place first x.begun) (place first x.ran.done.mid)
    (place first x.over) x.new x.ran.done.last x.ran.done.wanted x.calls x.ran.begins x.ran.done.over k lane g listed.0
    listed.1 x.ran.done.leads (omega arith) (subst (λ (ns : List ℕ). 0 < times k ns) x.of_it.own hit) begins
    x.ran.done.given_over
