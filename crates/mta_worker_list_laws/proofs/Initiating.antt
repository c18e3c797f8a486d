-- Where a session that its worker began has its lane.
use Rattle.std.proofs.Common.{◌≡◌, ℕ, ◌+◌, ◌-◌, ◌*◌, ◌≤◌, ◌<◌, Bool, true, false, Option, None, Some, Result, Ok, Err}
use Rattle.std.proofs.Common.{List}
use Rattle.std.proofs.Common.{[], ◌∷◌, ◌++◌, length, cond, refl, sym, ap, subst, ◌∙◌, arith, append-nil}
use Rattle.std.proofs.lemmas.List.{length-append}
use mathlib.Core.List.{IsPrefix}
use Rattle.mta_edge.specs.Views.{ClockView, DiskView}
use Rattle.mta_transfer_rules.specs.Lanes.{Seen}
use Rattle.mta_transfer_rules.specs.Lanes as h
use Rattle.mta_records.specs.declared.step.Step.{Step}
use Rattle.mta_records.specs.declared.lane.LaneRole.TheVariants.{Initiator}
use Rattle.mta_histories.specs.Lanes.{State}
use Rattle.mta_histories.specs.History.{after, IsHistory}
use Rattle.mta_session.specs.Follows.{Does, Follows}
use Rattle.mta_session.specs.Groups.{has_turned}
use Rattle.mta_session.specs.State.{in_phase, State as Session}
use Rattle.mta_session.specs.Session.{new_initiator}
use Rattle.mta_session.specs.Wanted.{Asks, opens}
use Rattle.mta_session.specs.declared.ask.Ask.{Ask}
use Rattle.mta_session.specs.declared.ask.Ask.TheVariants as ask
use Rattle.mta_session.specs.declared.ask.Reply.{Reply}
use Rattle.mta_session.specs.declared.ask.Reply.TheVariants as reply
use Rattle.mta_session.specs.declared.event.Action.{Action}
use Rattle.mta_session.specs.declared.event.Action.TheVariants as action
use Rattle.mta_session.specs.declared.event.Event.TheVariants as event
use Rattle.mta_session.specs.declared.event.InitiatorPlan.{InitiatorPlan}
use Rattle.mta_session.specs.declared.phase.Phase.TheVariants as phase
use Rattle.mta_session_laws.specs.Runs.{IsTurn}
use Rattle.mta_session_list_laws.specs.Calls.{Call, StepOn, step_told}
use Rattle.mta_session_list_laws.specs.Lists.{step_for}
use Rattle.mta_session_list_laws.specs.Standing.{Stands}
use Rattle.mta_worker.specs.Plans.{on_lane}
use Rattle.mta_links.specs.Links.{LinkView}
use Rattle.mta_links.specs.declared.role.Role.TheVariants as Roles
use Rattle.mta_spool.specs.Shown.{Shown}
use Rattle.mta_units.specs.Feed.{no_feed}
use Rattle.mta_worker.specs.Serving.{At}
use Rattle.mta_stations.specs.declared.end.Halt.{Halt}
use Rattle.mta_worker.specs.declared.proposal.Next.{Next}
use Rattle.mta_worker.specs.declared.proposal.Next.TheVariants as next
use Rattle.mta_worker.specs.declared.ready.Ready.TheVariants as ready
use Rattle.mta_worker.specs.declared.telling.Lost.{Lost}
use Rattle.mta_worker.specs.declared.telling.Lost.TheVariants as losts
use Rattle.mta_worker.specs.Answers.{Answered}
use Rattle.mta_worker.specs.Proposals.{Binds, IsNext, Opens}
use Rattle.mta_worker.specs.Readying.{asks_next, Begins, Begun, IsReadied, IsStepped, Lost_looking, plan_behind}
use Rattle.mta_worker.specs.Readying.{Stepped, Well, Without_memory}
use Rattle.mta_shared.specs.Held.{Held}
use Rattle.mta_shared.specs.Counts.{row}
use Rattle.mta_histories.specs.Kept.{IsKept}
use Rattle.mta_histories.specs.Lanes.{Lane}
use Rattle.mta_histories.proofs.LaneLists.{number-at}
use Rattle.mta_worker_list_laws.specs.Begun.{at_first, begun_by, Calls, IsBehind, IsCalledOn, IsNewAt}
use Rattle.mta_worker_list_laws.specs.Roles.{AreGiven, IsOpenTo, WasOpenTo}
use Rattle.mta_worker_list_laws.specs.Histories.{TellsApdus, place, whole}
use Rattle.mta_worker_list_laws.specs.Leads.{Leads}
use Rattle.mta_worker_list_laws.proofs.Calm.{is_looking}
use Rattle.mta_worker_list_laws.proofs.Ending.{Closed, done_at_once, done_behind, Gave_up, looking_closed}
use Rattle.mta_worker_list_laws.proofs.Joining.{leads_more, none_carried}
use Rattle.mta_worker_list_laws.proofs.Calling.{line_named, opened_with, was_opened}
use Rattle.mta_worker_list_laws.proofs.Given.{given_more, kept_stood, looks_given, unheard}
use Rattle.mta_worker_list_laws.proofs.Heard.{looks_mind, Minds}
use Rattle.mta_worker_list_laws.proofs.Known.{first_peers, IsPeers, Knows}
use Rattle.mta_worker_list_laws.proofs.Knowing.{IsBound, lane_bound}
use Rattle.mta_worker_list_laws.proofs.Making.{Makes, WasPossible}
use Rattle.mta_worker_list_laws.proofs.Telling.{answer_made}
use Rattle.mta_worker_list_laws.proofs.Turns.{calls_at, IsQuiet, looks_lead, looks_quiet, made_entries, made_stands}
use Rattle.mta_worker_list_laws.proofs.Turns.{stands_before, stands_next, Stands as StandsNow, was_possible}
use Rattle.mta_worker_list_laws.proofs.Waits.{calls_wait, looks_not, Waits, waits_next}

-- ---- what is proposed

-- a lane is opened for a session that recovers none
opens_new : (s : State) (peer : List ℕ) (p : InitiatorPlan) → IsNext s peer (next.Open p) → p.recovering ≡ false
opens_new s peer p (Opens tables line now none) = refl

binds_old : (s : State) (peer : List ℕ) (n : ℕ) (p : InitiatorPlan) → IsNext s peer (next.Bind n p)
    → p.recovering ≡ true
binds_old s peer n p (Binds tables line lane now is agreed) = refl

-- the reply tells of the step that the plan is for, and a lane that is opened is in its first generation
pub record IsPlanned (q : Ask) (y : Reply) (plan : InitiatorPlan) : Type 0 where
  pub told : step_told q y ≡ Some (step_for plan)
  pub opens : plan.recovering ≡ false → plan.generation ≡ 1
  pub binds : plan.recovering ≡ true → (q ≡ ask.Bind plan.lane) × (y ≡ reply.Bind (Ok plan.generation))

abbrev as_planned : (p : InitiatorPlan) (lane g : ℕ) → Bool → Option StepOn
as_planned p lane g b =
    Some (record { lane = lane; step = cond b (h.Bind g) (h.LaneOpen false (1024 * p.checkpoint) p.window) })

new_step : (p : InitiatorPlan) (lane : ℕ) → p.recovering ≡ false
    → Some (record { lane = lane; step = h.LaneOpen false (1024 * p.checkpoint) p.window })
    ≡ Some (step_for (on_lane p lane 1))
new_step p lane e = ap (λ (b : Bool). as_planned p lane 1 b) (sym e)

old_step : (p : InitiatorPlan) (lane g : ℕ) → p.recovering ≡ true
    → Some (record { lane = lane; step = h.Bind g }) ≡ Some (step_for (on_lane p lane g))
old_step p lane g e = ap (λ (b : Bool). as_planned p lane g b) (sym e)

-- of a lane that is opened, and of one that is bound
open_planned : (p : InitiatorPlan) (q : Ask) (lane : ℕ) (plan : InitiatorPlan) → p.recovering ≡ false
    → ask.LaneOpen Initiator p.peer p.reference p.twa p.checkpoint p.window ≡ q → on_lane p lane 1 ≡ plan
    → IsPlanned q (reply.LaneOpen (Ok lane)) plan
open_planned p q lane plan new is so =
    subst (λ (z : Ask). IsPlanned z (reply.LaneOpen (Ok lane)) plan) is
    (subst (λ (z : InitiatorPlan). IsPlanned (ask.LaneOpen Initiator p.peer p.reference p.twa p.checkpoint p.window)
    (reply.LaneOpen (Ok lane)) z) so
    (record {
      told = new_step p lane new;
      opens = λ e. refl;
      binds = λ e. absurd (let both : false ≡ true = sym new ∙ e in cc);
    }))

bind_planned : (n : ℕ) (p : InitiatorPlan) (q : Ask) (g : ℕ) (plan : InitiatorPlan) → p.recovering ≡ true
    → ask.Bind n ≡ q → on_lane p n g ≡ plan → IsPlanned q (reply.Bind (Ok g)) plan
bind_planned n p q g plan old is so =
    subst (λ (z : Ask). IsPlanned z (reply.Bind (Ok g)) plan) is
    (subst (λ (z : InitiatorPlan). IsPlanned (ask.Bind n) (reply.Bind (Ok g)) z) so
    (record {
      told = old_step p n g old;
      opens = λ e. absurd (let both : true ≡ false = sym old ∙ e in cc);
      binds = λ e. (refl, refl);
    }))

same_some : {A : Type 0} (x y : A) → Some x ≡ Some y → x ≡ y
same_some x y e = cc

none_some : {A B : Type 0} (x : A) → None ≡ Some x → B
none_some x e = absurd cc

planned : (s : State) (peer : List ℕ) (x : Next) (q : Ask) (y : Reply) (plan : InitiatorPlan) → IsNext s peer x
    → asks_next x ≡ Some q → plan_behind x y ≡ Some plan → IsPlanned q y plan
planned s peer (next.Open p) q (reply.LaneOpen (Ok lane)) plan is asks so =
    open_planned p q lane plan (opens_new s peer p is) (same_some _ q asks) (same_some _ plan so)
planned s peer (next.Bind n p) q (reply.Bind (Ok g)) plan is asks so =
    bind_planned n p q g plan (binds_old s peer n p is) (same_some _ q asks) (same_some _ plan so)
planned s peer x q y plan is asks so = none_some plan so

-- a lane is opened to the peer that is called
opens_peer : (s : State) (peer : List ℕ) (p : InitiatorPlan) → IsNext s peer (next.Open p) → p.peer ≡ peer
opens_peer s peer p (Opens tables line now none) = line_named tables peer line now.line_is

-- the lane that is bound is one that this agent opened to it
binds_own : (s : State) (peer : List ℕ) (n : ℕ) (p : InitiatorPlan) → IsNext s peer (next.Bind n p) → IsKept s
    → IsPeers Initiator peer n s.lanes.open_lanes
binds_own s peer n p (Binds tables line lane now is agreed) kept =
    subst (λ (k : ℕ). IsPeers Initiator peer k s.lanes.open_lanes)
    (number-at s.lanes.open_lanes is.number lane is.lane_is)
    (first_peers Initiator peer None 0 s.lanes.open_lanes s.lanes.count is.number kept.numbered_lanes is.first)

-- ---- the turn before the session

-- a session begins with this plan, behind the reply to this question, at a station that calls this peer
pub record BeginsWith {D C : Type 0} (disks : DiskView D) (clocks : ClockView C) (peer : List ℕ) (units : ℕ)
    (old new : Shown D C) (halt : Option Halt) (u : Session) (halt' : Option Halt) (first : Result Action Lost)
    : Type 0 where
  pub question : Ask
  pub answer : Reply
  pub plan : InitiatorPlan
  pub answered : Answered disks clocks question old answer new
  pub planned : IsPlanned question answer plan
  pub begins : Begins disks clocks new plan units halt u halt' first
  pub opened : IsKept old.current → WasPossible old new → IsOpenTo peer plan.lane new.current

module _ {D C : Type 0} (disks : DiskView D) (clocks : ClockView C) where
  bound_own : (peer : List ℕ) (n g : ℕ) (old new : Shown D C) → IsPeers Initiator peer n old.current.lanes.open_lanes
      → IsBound n g old.current new.current → IsOpenTo peer n new.current
  bound_own peer n g old new p b =
      let same : p.lane ≡ b.was = same_some p.lane b.was (sym p.lane_is ∙ b.was_is) in
      record {
        now = b.lane;
        now_is = b.lane_is;
        role_is = b.role_is ∙ ap (λ (l : Lane). l.role) (sym same) ∙ p.role_is;
        peer_is = b.peer_is ∙ ap (λ (l : Lane). l.peer) (sym same) ∙ p.peer_is;
      }

  -- the lane of the session is open then, as one that this agent opened to the peer that is called
  begins_as : (peer : List ℕ) (x : Next) (q : Ask) (y : Reply) (plan : InitiatorPlan) (old new : Shown D C)
      → IsNext old.current peer x → asks_next x ≡ Some q → plan_behind x y ≡ Some plan
      → Answered disks clocks q old y new → IsKept old.current → WasPossible old new
      → IsOpenTo peer plan.lane new.current
  begins_as peer (next.Open p) q (reply.LaneOpen (Ok n)) plan old new is asks so a kept may =
      subst (λ (z : InitiatorPlan). IsOpenTo peer z.lane new.current) (same_some _ plan so)
      (subst (λ (z : List ℕ). IsOpenTo z n new.current) (opens_peer old.current peer p is)
      (opened_with disks clocks p.peer p.reference p.twa p.checkpoint p.window n old new
      (subst (λ (z : Ask). Answered disks clocks z old (reply.LaneOpen (Ok n)) new) (sym (same_some _ q asks)) a)
      kept))
  begins_as peer (next.Bind n p) q (reply.Bind (Ok g)) plan old new is asks so a kept may =
      subst (λ (z : InitiatorPlan). IsOpenTo peer z.lane new.current) (same_some _ plan so)
      (bound_own peer n g old new (binds_own old.current peer n p is kept)
      (lane_bound disks clocks n g old new
      (subst (λ (z : Ask). Answered disks clocks z old (reply.Bind (Ok g)) new) (sym (same_some _ q asks)) a) may))
  begins_as peer x q y plan old new is asks so a kept may = none_some plan so

  stepped_begins : (peer : List ℕ) (x : Next) (units : ℕ) (old new : Shown D C) (halt halt' : Option Halt) (u : Session)
      (first : Result Action Lost) → IsNext old.current peer x
      → IsStepped disks clocks x units old halt new halt' (ready.Begins u first)
      → BeginsWith disks clocks peer units old new halt u halt' first
  stepped_begins peer x units old new halt halt' u first is (Begun q y plan v f asks a so begins) = record {
    question = q;
    answer = y;
    plan = plan;
    answered = a;
    planned = planned old.current peer x q y plan is asks so;
    begins = begins;
    opened = begins_as peer x q y plan old new is asks so a;
  }

  pub readied_begins : (peer : List ℕ) (units : ℕ) (old new : Shown D C) (halt halt' : Option Halt) (u : Session)
      (first : Result Action Lost) → IsReadied disks clocks peer units old halt new halt' (ready.Begins u first)
      → BeginsWith disks clocks peer units old new halt u halt' first
  readied_begins peer units old new halt halt' u first (Stepped x r is s) =
      stepped_begins peer x units old new halt halt' u first is s

  -- ---- its first calls

  -- a lane that was bound is open, in the plan's generation
  bound_lane : (plan : InitiatorPlan) (q : Ask) (y : Reply) (old new : Shown D C) → Answered disks clocks q old y new
      → WasPossible old new → (q ≡ ask.Bind plan.lane) × (y ≡ reply.Bind (Ok plan.generation))
      → IsBound plan.lane plan.generation old.current new.current
  bound_lane plan q y old new a may is =
      let asked : Answered disks clocks (ask.Bind plan.lane) old y new =
      subst (λ (z : Ask). Answered disks clocks z old y new) is.0 a in
      lane_bound disks clocks plan.lane plan.generation old new
      (subst (λ (z : Reply). Answered disks clocks (ask.Bind plan.lane) old z new) is.1 asked) may

  first_knows : (plan : InitiatorPlan) (units : ℕ) (one : Action) (t : Session) (old new : State)
      → Follows (new_initiator plan units) event.Go one t
      → (plan.recovering ≡ true → IsBound plan.lane plan.generation old new) → Knows t new
  first_knows plan units one t old new follows bound = by_plan plan.recovering refl follows
    where
      fresh : Session
      fresh = new_initiator plan units

      by_plan : (b : Bool) → plan.recovering ≡ b
          → Does fresh (cond b (Asks (ask.Values fresh.lane) (in_phase fresh phase.AsksValues)) (opens plan fresh)) one
          t → Knows t new
      by_plan true e d =
          let is = bound e in
          subst (λ (z : Session). Knows z new) (sym d.1) (record {
            lane = is.lane;
            lane_is = is.lane_is;
            looked = is.generation_is;
            role = tt;
          })
      by_plan false e d = subst (λ (z : Session). Knows z new) (sym d.1) tt

  module _ (spells : List ℕ → Bool) (tells : TellsApdus spells) (first entries : List Step)
      (possible : IsHistory (first ++ entries)) (peer : List ℕ) where
    abbrev history : List Seen
    history = whole first entries

    abbrev long : Shown D C → ℕ
    long s = length first + length s.entries

    -- the session begins there
    pub record IsBegun (old new : Shown D C) (pass : Held Step) : Type 0 where
      pub plan : InitiatorPlan
      pub units : ℕ
      pub begun : IsNewAt history (place first pass) (new_initiator plan units)
      pub opened : row (length old.entries) (length new.entries - length old.entries)
          ≡ begun_by (length first) begun
      pub later : length (begun_by (length first) begun) ≤ length pass.seen
      pub behind : IsBehind (length first + length old.entries) begun
      pub called : IsCalledOn (first ++ entries) (Roles.Out peer) begun

    -- It is carried on from these first calls.
    pub record Led (old new : Shown D C) (pass : Held Step) (u : Session) (b : Action) : Type 0 where
      pub begins : IsBegun old new pass
      pub calls : List Call
      pub leads : Leads spells history (long new) (new_initiator begins.plan begins.units) action.Read calls (long new)
          u b
      pub quiet : IsQuiet disks clocks spells tells first entries possible action.Read calls []
      pub given : AreGiven (first ++ entries) calls
      pub waits : Waits b u
      pub still : is_looking u.phase ≡ false
      pub knows : Knows u new.current
      pub stands : new.current ≡ after (first ++ new.entries)

    back : (n : ℕ) → 0 < n → n - 1 + 1 ≡ n
    back n l = omega (arith, l)

    abbrev has_step : (q : Ask) (y : Reply) (plan : InitiatorPlan) (old new : Shown D C) (pass : Held Step)
        → pass.seen ≡ new.entries → old.current ≡ after (first ++ old.entries) → IsPrefix new.entries entries
        → IsPlanned q y plan → Makes (step_told q y) old new → WasOpenTo peer plan.lane (first ++ entries)
        → (units : ℕ) → IsBegun old new pass
    has_step q y plan old new pass sees state f p m opened units =
        let makes : Makes (Some (step_for plan)) old new = subst (λ (o : Option StepOn). Makes o old new) p.told m in
        let stands : Stands history 0 (long new) (step_for plan) =
        made_stands disks clocks spells tells first entries possible (step_for plan) 0 old new makes state f
        (omega arith)
        in
        let there : place first pass ≡ long new = ap (λ (xs : List Step). length first + length xs) sees in
        record {
          plan = plan;
          units = units;
          begun = Calls plan units (long new - 1) (place first pass) (there ∙ sym (back (long new) stands.later))
              stands.entry p.opens;
          later =
              let one : length (old.entries ++ makes.0 ∷ []) ≡ length old.entries + 1 =
              length-append old.entries (makes.0 ∷ []) in
              let same : length pass.seen ≡ length (old.entries ++ makes.0 ∷ []) =
              ap length (sees ∙ makes.1) in
              omega (arith, one, same);
          opened = made_entries disks clocks spells tells first entries possible (Some (step_for plan)) old new makes;
          behind =
              let one : length (old.entries ++ makes.0 ∷ []) ≡ length old.entries + 1 =
              length-append old.entries (makes.0 ∷ []) in
              let same : length new.entries ≡ length (old.entries ++ makes.0 ∷ []) = ap length makes.1 in
              omega (arith, one, same);
          called = opened;
        }

    -- the step for it was made
    was_made : (units : ℕ) (old new : Shown D C) (halt halt' : Option Halt) (u : Session) (r : Result Action Lost)
        → old.current ≡ after (first ++ old.entries) → IsPrefix new.entries entries
        → (w : BeginsWith disks clocks peer units old new halt u halt' r)
        → Makes (step_told w.question w.answer) old new
    was_made units old new halt halt' u r state f w =
        answer_made disks clocks w.question old w.answer new
        (was_possible disks clocks spells tells first entries possible old new state f) w.answered

    -- its lane is open then, as one that this agent opened to the peer
    was_called : (units : ℕ) (old new : Shown D C) (halt halt' : Option Halt) (u : Session) (r : Result Action Lost)
        → old.current ≡ after (first ++ old.entries) → IsPrefix new.entries entries
        → (w : BeginsWith disks clocks peer units old new halt u halt' r)
        → WasOpenTo peer w.plan.lane (first ++ entries)
    was_called units old new halt halt' u r state f w =
        let makes : Makes (step_told w.question w.answer) old new =
        was_made units old new halt halt' u r state f w in
        was_opened disks clocks spells tells first entries possible peer w.plan.lane new
        (stands_next disks clocks spells tells first entries possible (step_told w.question w.answer) old new makes
        state f)
        (w.opened
        (kept_stood disks clocks spells tells first entries possible old
        (stands_before disks clocks spells tells first entries possible (step_told w.question w.answer) old new makes
        state f)) (was_possible disks clocks spells tells first entries possible old new state f))

    abbrev there : (units : ℕ) (old new : Shown D C) (pass : Held Step) (halt halt' : Option Halt) (u : Session)
        (r : Result Action Lost) → pass.seen ≡ new.entries → old.current ≡ after (first ++ old.entries)
        → IsPrefix new.entries entries → BeginsWith disks clocks peer units old new halt u halt' r
        → IsBegun old new pass
    there units old new pass halt halt' u r sees state f w =
        has_step w.question w.answer w.plan old new pass sees state f w.planned
        (was_made units old new halt halt' u r state f w)
        (was_called units old new halt halt' u r state f w) units

    stands_there : (units : ℕ) (old new : Shown D C) (halt halt' : Option Halt) (u : Session) (r : Result Action Lost)
        → old.current ≡ after (first ++ old.entries) → IsPrefix new.entries entries
        → BeginsWith disks clocks peer units old new halt u halt' r
        → StandsNow disks clocks spells tells first entries possible new
    stands_there units old new halt halt' u r state f w =
        stands_next disks clocks spells tells first entries possible (step_told w.question w.answer) old new
        (was_made units old new halt halt' u r state f w) state f

    -- the first call
    abbrev first_call : (t : Session) (new : Shown D C) → Action → Session → Call
    first_call t new one u =
        record { turn = record { before = t; event = event.Go; action = one; after = u }; seen = long new }

    first_leads : (t : Session) (new : Shown D C) (one : Action) (u : Session) → IsTurn (first_call t new one u).turn
        → Leads spells history (long new) t action.Read (first_call t new one u ∷ []) (long new) u one
    first_leads t new one u turn =
        record { calls_are = (refl, turn, refl); come_true = (refl, tt); wanted = refl; seen = refl }

    -- nothing is made in it
    first_quiet : (t : Session) (new : Shown D C) (one : Action) (u : Session) (looks : List Call)
        → IsQuiet disks clocks spells tells first entries possible one looks []
        → IsQuiet disks clocks spells tells first entries possible action.Read (first_call t new one u ∷ looks) []
    first_quiet t new one u looks quiet =
        record { got = quiet.got; put = ([], [], refl, quiet.put, refl); made = quiet.made }

    -- the session knows its lane behind that call
    first_minds : (units : ℕ) (old new : Shown D C) (halt halt' : Option Halt) (u : Session) (r : Result Action Lost)
        (one : Action) (t : Session) → old.current ≡ after (first ++ old.entries) → IsPrefix new.entries entries
        → (w : BeginsWith disks clocks peer units old new halt u halt' r)
        → IsTurn (first_call (new_initiator w.plan units) new one t).turn → Minds disks clocks one t new.current
    first_minds units old new halt halt' u r one t state f w turn = record {
      waits = waits_next (first_call (new_initiator w.plan units) new one t).turn turn refl;
      knows =
          first_knows w.plan units one t old.current new.current turn.follows
          (λ e. bound_lane w.plan w.question w.answer old new w.answered
          (was_possible disks clocks spells tells first entries possible old new state f) (w.planned.binds e));
    }

    pub begins_led : (units : ℕ) (old new : Shown D C) (pass : Held Step) (halt halt' : Option Halt) (u : Session)
        (b : Action) → pass.seen ≡ new.entries → old.current ≡ after (first ++ old.entries)
        → IsPrefix new.entries entries → BeginsWith disks clocks peer units old new halt u halt' (Ok b)
        → Led old new pass u b
    begins_led units old new pass halt halt' u b sees state f w = by_begin w.begins
      where
        fresh : Session
        fresh = new_initiator w.plan units

        by_begin : Begins disks clocks new w.plan units halt u halt' (Ok b) → Led old new pass u b
        by_begin (Well one c t turn looked none) =
            let call : Call = first_call fresh new one t in
            let looks : List Call = calls_at (long new) looked.turns in
            let look_leads = looks_lead disks clocks spells tells first entries possible looked.turns new t one u b
            (stands_there units old new halt halt' u (Ok b) state f w) looked.looks in
            let waits : Waits b u =
            subst (λ (a : Action). Waits a u) look_leads.wanted
            (calls_wait looks one t u (waits_next call.turn turn refl) look_leads.calls_are) in
            record {
              begins = there units old new pass halt halt' u (Ok b) sees state f w;
              calls = call ∷ [] ++ looks;
              leads =
                  leads_more spells history (call ∷ []) looks (long new) (long new) (long new) fresh t u action.Read
                  one b
                  (first_leads fresh new one t turn) look_leads;
              quiet =
                  first_quiet fresh new one t looks
                  (looks_quiet disks clocks spells tells first entries possible looked.turns new t one u b (long new)
                  looked.looks);
              given =
                  given_more (first ++ entries) (call ∷ []) looks (unheard (first ++ entries) call.turn (long new) tt)
                  (looks_given disks clocks (first ++ entries) looked.turns new t one u b (long new) looked.looks);
              waits = waits;
              still = looks_not b u waits none;
              knows =
                  (looks_mind disks clocks spells tells first entries possible looked.turns new t one u b
                  (stands_there units old new halt halt' u (Ok b) state f w)
                  (first_minds units old new halt halt' u (Ok b) one t state f w turn) looked.looks).knows;
              stands = (stands_there units old new halt halt' u (Ok b) state f w).state;
            }

    -- It is given up in the turn of the lock in which it began.
    module _ {L : Type 0} (links : LinkView L) where
      pub record Lost_there (old new : Shown D C) (at : L) (pass : Held Step) (link : L) : Type 0 where
        pub begins : IsBegun old new pass
        pub closed : Closed disks clocks links spells tells first entries
            (at_first (new_initiator begins.plan begins.units) at pass) pass link

      pub begins_lost : (units : ℕ) (old new : Shown D C) (halt halt' : Option Halt) (u : Session) (lost : Lost)
          (at : L) (pass : Held Step) (link : L) → old.current ≡ after (first ++ old.entries)
          → IsPrefix new.entries entries → pass.seen ≡ new.entries
          → BeginsWith disks clocks peer units old new halt u halt' (Err lost)
          → (lost ≡ losts.Memory → Gave_up links (has_turned u.phase) at link) → Lost_there old new at pass link
      begins_lost units old new halt halt' u lost at pass link state f sees w gives = by_begin lost gives w.begins
        where
          fresh : Session
          fresh = new_initiator w.plan units

          begin : At L
          begin = at_first fresh at pass

          by_begin : (l : Lost) → (l ≡ losts.Memory → Gave_up links (has_turned u.phase) at link)
              → Begins disks clocks new w.plan units halt u halt' (Err l) → Lost_there old new at pass link
          by_begin l gave (Without_memory same is) = record {
            begins = there units old new pass halt halt' u (Err lost) sees state f w;
            closed = (
              [],
              done_at_once links spells first entries fresh at pass link
                  (subst (λ (z : Session). Gave_up links (has_turned z.phase) at link) same (gave refl)),
            );
          }
          by_begin l gave (Lost_looking one t m turn looking) =
              let call : Call = first_call fresh new one t in
              let x : At L = record {
                session = t;
                action = one;
                link = at;
                feed = no_feed;
                pass = pass;
                halt = halt;
              } in
              let quiet = first_quiet fresh new one t [] (record { got = refl; put = refl; made = refl }) in
              let rest = looking_closed disks clocks links spells tells first entries possible new t one halt halt' u
              l x link
              refl refl sees (stands_there units old new halt halt' u (Err lost) state f w)
              (first_minds units old new halt halt' u (Err lost) one t state f w turn) looking gave in
              let led : Leads spells history (place first pass) fresh action.Read (call ∷ []) (place first pass) t one =
              subst (λ (xs : List Step). Leads spells history (length first + length xs) fresh action.Read (call ∷ [])
              (length first + length xs) t one) (sym sees) (first_leads fresh new one t turn) in
              record {
                begins = there units old new pass halt halt' u (Err lost) sees state f w;
                closed = (
                  call ∷ [] ++ rest.0,
                  done_behind links spells first entries begin x (call ∷ []) rest.0 pass link led
                      (sym (append-nil pass.own) ∙ ap (λ (ns : List ℕ). pass.own ++ ns) (sym quiet.made))
                      (none_carried links (call ∷ []) action.Read at no_feed quiet.got quiet.put)
                      (unheard (first ++ entries) call.turn (long new) tt) rest.1,
                );
              }
