-- Both agents begin a session.
use Rattle.std.proofs.Common.{◌≡◌, ◌≤◌, ◌+◌, ◌-◌, ◌^◌, ◌==◌, ℕ, Bool, true, false, if◌then◌else◌, List, [], ◌∷◌}
use Rattle.std.proofs.Common.{length, Option, None, Some, Result, Ok, Err, refl, sym, ap, subst, ◌∙◌, arith, inl, inr}
use Rattle.std.specs.Prelude.{codes, unwrap_or}
use Rattle.mta_edge.specs.Held.{HeldDisk}
use Rattle.mta_edge.specs.Images.{memory_disk}
use Rattle.mta_edge.specs.Moments.{memory_clock}
use Rattle.mta_records.specs.Reference.{Identifier}
use Rattle.mta_records.specs.declared.fault.StepFault.{StepFault}
use Rattle.mta_records.specs.declared.lane.LaneRole.{LaneRole}
use Rattle.mta_records.specs.declared.lane.LaneRole.TheVariants.{Initiator}
use Rattle.mta_machine.specs.Items.{Machine, numbered}
use Rattle.mta_machine.specs.Rules.{tables_value}
use Rattle.mta_histories.specs.Lanes.{Lane, lane_at}
use Rattle.mta_histories.specs.Lanes.{State as SpoolState}
use Rattle.mta_histories.specs.Limits.{is_with}
use Rattle.mta_session.specs.declared.ask.Ask.{Ask}
use Rattle.mta_session.specs.declared.ask.Ask.TheVariants as ask
use Rattle.mta_session.specs.declared.ask.Reply.{Reply}
use Rattle.mta_session.specs.declared.ask.Reply.TheVariants as reply
use Rattle.mta_session.specs.declared.event.Action.{Action}
use Rattle.mta_session.specs.declared.event.Action.TheVariants as action
use Rattle.mta_session.specs.declared.event.Event.TheVariants as event
use Rattle.mta_session.specs.declared.event.InitiatorPlan.{InitiatorPlan}
use Rattle.mta_session.specs.declared.peer.Peer.{Peer}
use Rattle.mta_session.specs.Follows.{Follows}
use Rattle.mta_session.specs.Session.{new_initiator, new_responder}
use Rattle.mta_session.specs.State.{State}
use Rattle.mta_session_laws.specs.Runs.{IsTurn}
use Rattle.mta_spool.specs.Looking.{IsFirstNamed}
use Rattle.mta_spool.specs.Shown.{Shown}
use Rattle.mta_spool.specs.Stands.{TellsFewer}
use Rattle.mta_spool.specs.Turning.{IsLastRecorded}
use Rattle.mta_stations.specs.Halting.{halt_of}
use Rattle.mta_stations.specs.declared.end.Halt.{Halt}
use Rattle.mta_stations.specs.declared.end.Halt.TheVariants as halts
use Rattle.mta_tables.specs.Tables.{TablesValue}
use Rattle.mta_worker.specs.Answers.{Answered}
use Rattle.mta_worker.specs.Halting.{fault_of, halt_after}
use Rattle.mta_worker.specs.PeerLines.{line_in}
use Rattle.mta_worker.specs.Names.{is_name, name_shown}
use Rattle.mta_worker.specs.Plans.{on_lane, plan_of, plan_to_open, plan_to_recover}
use Rattle.mta_worker.specs.Proposals.{Binds, Closes, HasFirst, HasNone, IsLineNow, IsNext, IsNoPeer, No_line}
use Rattle.mta_worker.specs.Proposals.{No_tables}
use Rattle.mta_worker.specs.Proposals.{Opens, Past_last, Without}
use Rattle.mta_worker.specs.Readying.{Begins, Begun, Closed, IsReadied, IsStepped, Lost_looking, No_memory, No_number}
use Rattle.mta_worker.specs.Readying.{No_peer, No_room, Refused, Stepped, Well, Without_memory, asks_next, halt_before}
use Rattle.mta_worker.specs.Readying.{plan_behind}
use Rattle.mta_worker.specs.Turns.{IsLook, IsLostLooking, noted}
use Rattle.mta_worker.specs.Turns as looking
use Rattle.mta_worker.specs.declared.proposal.Next.{Next}
use Rattle.mta_worker.specs.declared.proposal.Next.TheVariants as next
use Rattle.mta_worker.specs.declared.ready.Ready.{Ready}
use Rattle.mta_worker.specs.declared.ready.Ready.TheVariants as ready
use Rattle.mta_worker.specs.declared.telling.Lost.{Lost}
use Rattle.mta_worker.specs.declared.telling.Lost.TheVariants as losts
use Rattle.mta_drill_laws.specs.Tables.{east, first_tables, first_text, gold_1, second_tables, second_text}
use Rattle.mta_drill_laws.proofs.TablesRead.{first_is_read, second_is_read}
use Rattle.mta_drill_answer_laws.specs.Answers.{HasHistory, IsShort, WantsMemory, Works}
use Rattle.mta_drill_answer_laws.proofs.Asking.{questions_are_asked}
use Rattle.mta_drill_answer_laws.proofs.Looks.{looks_so}
use Rattle.mta_drill_stage_laws.specs.Breaks.{Breaks}
use Rattle.mta_drill_stage_laws.specs.Lines.{line_of_second}
use Rattle.mta_drill_stage_laws.specs.Sessions.{AreKnown, Between, HasStarted, IsDrill, IsOurs, IsRefused, None_open}
use Rattle.mta_drill_stage_laws.specs.Sessions.{Not_bound}
use Rattle.mta_drill_stage_laws.specs.Sessions.{Not_opened, One_open}
use Rattle.mta_drill_stage_laws.specs.Starting.{Calls, HasBegun, HasLooked, On_new, On_old, WantsNoLook, is_look}
use Rattle.mta_drill_stage_laws.specs.Starting.{plan_at}
use Rattle.mta_drill_stage_laws.specs.Starting as starting
use Rattle.mta_drill_stage_laws.specs.World.{Party, World}
use Rattle.mta_drill_stage_laws.proofs.Knowing.{looks_heard, none_is_refused, sessions_known}
use Rattle.mta_drill.specs.declared.side.Side.{Side}
use Rattle.mta_drill.specs.Acts.{IsSide}
use Rattle.mta_drill.specs.Runs.{HasCalled, IsAtStart, IsCallerOf, Listens, most_units, our_reference}

some-same : {A : Type 0} (x y : A) → Some x ≡ Some y → x ≡ y
some-same x y e = cc

none-is-some : {A : Type 0} (x : A) → None ≡ Some x → ⊥
none-is-some x e = cc

-- ---- the tables of both agents

text-is : (ts : List (List ℕ)) (text other : List ℕ) → ts ≡ text ∷ [] → numbered ts (length ts) ≡ Some other
    → other ≡ text
text-is ts text other is at =
    some-same other text (sym at ∙ ap (λ (us : List (List ℕ)). numbered us (length us)) is)

none-recorded : (ts : List (List ℕ)) (text : List ℕ) → ts ≡ text ∷ [] → ts ≡ [] → ⊥
none-recorded ts text is none = (let both : text ∷ [] ≡ [] = sym is ∙ none in cc)

first-tables : (m : Machine) (t : TablesValue) → m.tables ≡ first_text ∷ [] → IsLastRecorded m (Some t)
    → t ≡ first_tables
first-tables m t is last =
    let text : t.text ≡ first_text = text-is m.tables first_text t.text is last.0 in
    some-same t first_tables (sym last.1 ∙ ap (λ (os : List ℕ). tables_value os) text ∙ first_is_read)

second-tables : (m : Machine) (t : TablesValue) → m.tables ≡ second_text ∷ [] → IsLastRecorded m (Some t)
    → t ≡ second_tables
second-tables m t is last =
    let text : t.text ≡ second_text = text-is m.tables second_text t.text is last.0 in
    some-same t second_tables (sym last.1 ∙ ap (λ (os : List ℕ). tables_value os) text ∙ second_is_read)

own-east : second_tables.own ≡ east
unfolding east
own-east = refl

-- the line of the second agent in the tables of the first
east-line : line_in first_tables east ≡ Some line_of_second
unfolding east
east-line = refl

-- ---- the second agent

abbrev pub party_of : Shown HeldDisk (List ℕ) → Side × Action → Party
party_of s x = record { spool = s.current; session = x.0.session; wants = x.1; came = [] }

module _ (before count n : ℕ) (first : SpoolState) (b : Breaks) (t : Shown HeldDisk (List ℕ))
    (between : Between before count our_reference n first t.current b) where
  second-texts : t.current.machine.tables ≡ second_text ∷ []
  second-texts = (sessions_known before count our_reference n first t.current b between).second_tables

  pub none_listens : Listens t None → ⊥
  none_listens none = none-recorded t.current.machine.tables second_text second-texts none

  pub listens_so : (y : Side × Action) → Listens t (Some y) → starting.Listens t.current (party_of t y)
  listens_so y l =
      let tables : l.0 ≡ second_tables = second-tables t.current.machine l.0 second-texts l.1 in
      let own : l.0.own ≡ east = ap (λ (v : TablesValue). v.own) tables ∙ own-east in
      record {
        spool_is = refl;
        follows = subst (λ (o : List ℕ). Follows (new_responder o most_units) event.Go y.1 y.0.session) own
            l.2.turn.follows;
        came_is = refl;
      }

-- ---- what is next at the first agent

-- what is proposed, before the lane is known
abbrev proposed : (recovering : Bool) → InitiatorPlan
proposed recovering = plan_of (codes "GOLD-1") line_of_second our_reference recovering

-- the first lane is opened, or the one that is open is bound
abbrev IsOurNext : SpoolState → Next → Type 0
IsOurNext s (next.Open p) = (s.lanes.open_lanes ≡ []) × (p ≡ proposed false)
IsOurNext s (next.Bind k p) =
    (lane : Lane) × (s.lanes.open_lanes ≡ lane ∷ []) × (lane.reference ≡ our_reference) × (k ≡ lane.number)
    × (p ≡ proposed true)
IsOurNext s _ = ⊥

no-peer : (s : SpoolState) → s.machine.tables ≡ first_text ∷ [] → IsNoPeer s east → ⊥
no-peer s is (No_tables none) = none-recorded s.machine.tables first_text is none
no-peer s is (No_line t at none) =
    let same : t ≡ first_tables = first-tables s.machine t is at in
    none-is-some line_of_second
    (sym none ∙ ap (λ (v : TablesValue). line_in v east) same ∙ east-line)

-- its tables and the line in them
record IsOurLine (tables : TablesValue) (line : Peer) : Type 0 where
  pub tables_are : tables ≡ first_tables
  pub line_is : line ≡ line_of_second

our-line : (s : SpoolState) (tables : TablesValue) (line : Peer) → s.machine.tables ≡ first_text ∷ []
    → IsLineNow s east tables line → IsOurLine tables line
our-line s tables line is l =
    let same : tables ≡ first_tables = first-tables s.machine tables is l.recorded in
    record {
      tables_are = same;
      line_is = some-same line line_of_second
          (sym l.line_is ∙ ap (λ (v : TablesValue). line_in v east) same ∙ east-line);
    }

-- the lane is found that is open
is-ours : (lane : Lane) → lane.role ≡ Initiator → lane.peer ≡ east → is_with Initiator east lane ≡ true
unfolding east
is-ours lane role peer =
    let at : is_with Initiator east lane ≡ is_with Initiator east (record lane { role = Initiator; peer = east }) =
    ap (λ (r : LaneRole). is_with Initiator east (record lane { role = r })) role
    ∙ ap (λ (p : List ℕ). is_with Initiator east (record lane { role = Initiator; peer = p })) peer in at

found-none : (lane : Lane) → lane.role ≡ Initiator → lane.peer ≡ east
    → IsFirstNamed Initiator east None (lane ∷ []) None → ⊥
found-none lane role peer (inl here) = none-is-some lane.number here.1
found-none lane role peer (inr other) = other.0 (is-ours lane role peer, tt)

found-one : (lane : Lane) (k : ℕ) → lane.role ≡ Initiator → lane.peer ≡ east
    → IsFirstNamed Initiator east None (lane ∷ []) (Some k) → k ≡ lane.number
found-one lane k role peer (inl here) = some-same k lane.number here.1
found-one lane k role peer (inr other) = absurd (other.0 (is-ours lane role peer, tt))

at-own : (lane : Lane) → lane.number ≡ 1 → lane_at lane.number (lane ∷ []) ≡ Some lane
at-own lane is = ap (λ (m : ℕ). if m == m then Some lane else None) is

first-is : (s : SpoolState) (lane found : Lane) → s.lanes.open_lanes ≡ lane ∷ [] → lane.role ≡ Initiator
    → lane.peer ≡ east → lane.number ≡ 1 → HasFirst s east found → found ≡ lane
first-is s lane found is role peer number h =
    let k : h.number ≡ lane.number = found-one lane h.number role peer
    (subst (λ (ls : List Lane). IsFirstNamed Initiator east None ls (Some h.number)) is h.first) in
    some-same found lane
    (sym h.lane_is ∙ ap (λ (ls : List Lane). lane_at h.number ls) is ∙ ap (λ (n : ℕ). lane_at n (lane ∷ [])) k
    ∙ at-own lane number)

-- the own name is shown on it
either-own : (shown : Bool) (own : List ℕ) → (if shown then own else own) ≡ own
either-own true own = refl
either-own false own = refl

own-shown : name_shown (codes "GOLD-1") our_reference ≡ codes "GOLD-1"
own-shown = either-own (is_name (codes "GOLD-1")) (codes "GOLD-1")

module _ (s : SpoolState) (is : s.machine.tables ≡ first_text ∷ []) (zero : s.moment ≡ 0) where
  opens-first : (tables : TablesValue) (line : Peer) → IsOurs our_reference s → IsLineNow s east tables line
      → HasNone s east → IsOurNext s (next.Open (plan_to_open tables line s.moment (s.lanes.count + 1)))
  opens-first tables line (None_open empty count) l none =
      let ours = our-line s tables line is l in (
        empty,
        ap (λ (v : TablesValue). plan_to_open v line s.moment (s.lanes.count + 1)) ours.tables_are
            ∙ ap (λ (p : Peer). plan_to_open first_tables p s.moment (s.lanes.count + 1)) ours.line_is
            ∙ ap (λ (m : ℕ). plan_to_open first_tables line_of_second m (s.lanes.count + 1)) zero
            ∙ ap (λ (c : ℕ). plan_to_open first_tables line_of_second 0 (c + 1)) count,
      )
  opens-first tables line (One_open lane one number role peer reference agreed) l none =
      absurd (found-none lane role peer
      (subst (λ (ls : List Lane). IsFirstNamed Initiator east None ls None) one none))

  never-last : IsOurs our_reference s → HasNone s east → 2 ^ 32 - 1 ≤ s.lanes.count → ⊥
  never-last (None_open empty count) none most = omega (arith, count, most)
  never-last (One_open lane one number role peer reference agreed) none most =
      found-none lane role peer (subst (λ (ls : List Lane). IsFirstNamed Initiator east None ls None) one none)

  binds-ours : (tables : TablesValue) (line : Peer) (lane : Lane) → IsOurs our_reference s
      → IsLineNow s east tables line → HasFirst s east lane
      → IsOurNext s (next.Bind lane.number (plan_to_recover tables line lane.reference))
  binds-ours tables line lane (None_open empty count) l first =
      absurd (none-is-some first.number (sym
      (subst (λ (ls : List Lane). IsFirstNamed Initiator east None ls (Some first.number)) empty first.first)))
  binds-ours tables line found (One_open lane one number role peer reference agreed) l first =
      let same : found ≡ lane = first-is s lane found one role peer number first in
      let ours = our-line s tables line is l in (
        lane,
        one,
        reference,
        ap (λ (k : Lane). k.number) same,
        ap (λ (k : Lane). plan_to_recover tables line k.reference) same
            ∙ ap (λ (r : Identifier). plan_to_recover tables line r) reference
            ∙ ap (λ (v : TablesValue). plan_to_recover v line our_reference) ours.tables_are
            ∙ ap (λ (p : Peer). plan_to_recover first_tables p our_reference) ours.line_is
            ∙ ap (λ (own : List ℕ). plan_of own line_of_second our_reference true) own-shown,
      )

  never-closes : (lane : Lane) → IsOurs our_reference s → HasFirst s east lane → lane.agreed ≡ false → ⊥
  never-closes lane (None_open empty count) first never =
      none-is-some first.number (sym
      (subst (λ (ls : List Lane). IsFirstNamed Initiator east None ls (Some first.number)) empty first.first))
  never-closes found (One_open lane one number role peer reference agreed) first never =
      let same : found ≡ lane = first-is s lane found one role peer number first in
      let both : true ≡ false = sym agreed ∙ ap (λ (k : Lane). k.agreed) (sym same) ∙ never in cc

  next-is : (x : Next) → IsOurs our_reference s → IsNext s east x → IsOurNext s x
  next-is x ours (Without none) = absurd (no-peer s is none)
  next-is x ours (Opens tables line l none) = opens-first tables line ours l none
  next-is x ours (Past_last tables line l none most) = absurd (never-last ours none most)
  next-is x ours (Binds tables line lane l first agreed) = binds-ours tables line lane ours l first
  next-is x ours (Closes tables line lane l first never) = absurd (never-closes lane ours first never)

-- what is proposed on a lane is what is known of it
plan-same : (recovering : Bool) (number generation : ℕ)
    → on_lane (proposed recovering) number generation ≡ plan_at number our_reference recovering generation
unfolding gold_1
plan-same recovering number generation = refl

-- ---- why no session begins

halts-for-memory : (x : Option (Side × Action)) → IsCallerOf (ready.Halts halts.Memory) x → ⊥
halts-for-memory None caller = caller tt
halts-for-memory (Some y) caller = caller

clear-halt : (o : Option Halt) → (WantsMemory (unwrap_or o halts.Memory) → ⊥) → IsShort o → ⊥
clear-halt None clear short = short
clear-halt (Some halt) clear short = clear short

enough-before : (o : Option Halt) (y : Reply) → (IsShort (noted o y) → ⊥) → IsShort o → ⊥
enough-before None y enough short = short
enough-before (Some halt) y enough short = enough short

is-look : (q : Ask) → is_look q ≡ true → IsLook q
is-look (ask.Values n) e = tt
is-look (ask.Recovery n) e = tt
is-look (ask.Receiving n) e = tt
is-look (ask.Resumed n) e = tt
is-look any1 e = absurd (let both : false ≡ true = e in cc)

wants-none : (a : Action) → looking.WantsNoLook a → WantsNoLook a
wants-none a all = λ q wants look. all q wants (is-look q look)

-- ---- the first agent

abbrev opening : Ask
opening = ask.LaneOpen Initiator east our_reference false 1 2

module _ (before count n : ℕ) (second : SpoolState) (b : Breaks) (s new : Shown HeldDisk (List ℕ))
    (drill : IsDrill before count) (works : Works s)
    (between : Between before count our_reference n s.current second b)
    (clock : TellsFewer memory_clock s.clock new.clock) where
  known : AreKnown our_reference s.current second
  known = sessions_known before count our_reference n s.current second b between

  -- the lane is opened or bound, and a session that begins with this plan begins on it
  record IsOpened (plan : InitiatorPlan) : Type 0 where
    pub history : HasHistory memory_disk new
    pub begun : (t : State) (a : Action) → HasLooked new.current plan t a
        → HasBegun our_reference s.current (record { spool = new.current; session = t; wants = a; came = [] })

  opens-so : (q : Ask) (y : Reply) (plan : InitiatorPlan) → s.current.lanes.open_lanes ≡ [] → q ≡ opening
      → Answered memory_disk memory_clock q s y new → plan_behind (next.Open (proposed false)) y ≡ Some plan
      → IsOpened plan
  opens-so q (reply.LaneOpen (Ok number)) plan empty is answered behind =
      let asked = questions_are_asked opening s (reply.LaneOpen (Ok number)) new works
      (subst (λ (z : Ask). Answered memory_disk memory_clock z s (reply.LaneOpen (Ok number)) new) is answered)
      (λ short. short) in
      let same : on_lane (proposed false) number 1 ≡ plan = some-same (on_lane (proposed false) number 1) plan behind in
      record {
        history = asked.1;
        begun = λ t a looked. On_new number empty asked.0
            (subst (λ (p : InitiatorPlan). HasLooked new.current p t a) (sym same ∙ plan-same false number 1) looked);
      }
  opens-so q any1 plan empty is answered behind = absurd (none-is-some plan behind)

  binds-so : (lane : Lane) (q : Ask) (y : Reply) (plan : InitiatorPlan) → s.current.lanes.open_lanes ≡ lane ∷ []
      → lane.reference ≡ our_reference → q ≡ ask.Bind lane.number → Answered memory_disk memory_clock q s y new
      → plan_behind (next.Bind lane.number (proposed true)) y ≡ Some plan → IsOpened plan
  binds-so lane q (reply.Bind (Ok g)) plan one reference is answered behind =
      let asked = questions_are_asked (ask.Bind lane.number) s (reply.Bind (Ok g)) new works
      (subst (λ (z : Ask). Answered memory_disk memory_clock z s (reply.Bind (Ok g)) new) is answered)
      (λ short. short) in
      let same : on_lane (proposed true) lane.number g ≡ plan =
      some-same (on_lane (proposed true) lane.number g) plan behind in
      let on : plan ≡ plan_at lane.number lane.reference true g =
      sym same ∙ plan-same true lane.number g
      ∙ ap (λ (r : Identifier). plan_at lane.number r true g) (sym reference) in
      record {
        history = asked.1;
        begun = λ t a looked. On_old lane g one asked.0
            (subst (λ (p : InitiatorPlan). HasLooked new.current p t a) on looked);
      }
  binds-so lane q any1 plan one reference is answered behind = absurd (none-is-some plan behind)

  opened-so : (x : Next) (q : Ask) (y : Reply) (plan : InitiatorPlan) → IsOurNext s.current x → asks_next x ≡ Some q
      → Answered memory_disk memory_clock q s y new → plan_behind x y ≡ Some plan → IsOpened plan
  opened-so (next.Open p) q y plan ours asks answered behind =
      opens-so q y plan ours.0
      (some-same q opening
      (sym asks ∙ ap (λ (z : InitiatorPlan). asks_next (next.Open z)) ours.1))
      answered
      (ap (λ (z : InitiatorPlan). plan_behind (next.Open z) y) (sym ours.1) ∙ behind)
  opened-so (next.Bind k p) q y plan ours asks answered behind =
      binds-so ours.0 q y plan ours.1 ours.2
      (some-same q (ask.Bind ours.0.number) (sym asks ∙ ap (λ (m : ℕ). Some (ask.Bind m)) ours.3))
      answered
      (ap (λ (m : ℕ). plan_behind (next.Bind m (proposed true)) y) (sym ours.3)
      ∙ ap (λ (z : InitiatorPlan). plan_behind (next.Bind k z) y) (sym ours.4) ∙ behind)
  opened-so any1 q y plan ours asks answered behind = absurd ours

  -- ---- none is refused

  open-refused : (q : Ask) (y : Reply) (fault : StepFault) → s.current.lanes.open_lanes ≡ [] → q ≡ opening
      → Answered memory_disk memory_clock q s y new → fault_of y ≡ Some fault
      → (IsShort (halt_of fault) → ⊥) → IsRefused our_reference s.current new.current
  open-refused q y fault empty is answered told clear =
      by y (subst (λ (z : Ask). Answered memory_disk memory_clock z s y new) is answered) told
    where
      by : (z : Reply) → Answered memory_disk memory_clock opening s z new → fault_of z ≡ Some fault
          → IsRefused our_reference s.current new.current
      by (reply.LaneOpen (Ok number)) at e = absurd (none-is-some fault e)
      by (reply.LaneOpen (Err f)) at e =
          let same : f ≡ fault = some-same f fault e in
          Not_opened f empty (questions_are_asked opening s (reply.LaneOpen (Err f)) new works at
          (subst (λ (g : StepFault). IsShort (halt_of g) → ⊥) (sym same) clear)).0
      by any1 at e = absurd at

  bind-refused : (lane : Lane) (q : Ask) (y : Reply) (fault : StepFault) → s.current.lanes.open_lanes ≡ lane ∷ []
      → q ≡ ask.Bind lane.number → Answered memory_disk memory_clock q s y new → fault_of y ≡ Some fault
      → (IsShort (halt_of fault) → ⊥) → IsRefused our_reference s.current new.current
  bind-refused lane q y fault one is answered told clear =
      by y (subst (λ (z : Ask). Answered memory_disk memory_clock z s y new) is answered) told
    where
      by : (z : Reply) → Answered memory_disk memory_clock (ask.Bind lane.number) s z new → fault_of z ≡ Some fault
          → IsRefused our_reference s.current new.current
      by (reply.Bind (Ok g)) at e = absurd (none-is-some fault e)
      by (reply.Bind (Err f)) at e =
          let same : f ≡ fault = some-same f fault e in
          Not_bound lane f one (questions_are_asked (ask.Bind lane.number) s (reply.Bind (Err f)) new works at
          (subst (λ (g : StepFault). IsShort (halt_of g) → ⊥) (sym same) clear)).0
      by any1 at e = absurd at

  refused-so : (x : Next) (q : Ask) (y : Reply) (fault : StepFault) → IsOurNext s.current x → asks_next x ≡ Some q
      → Answered memory_disk memory_clock q s y new → fault_of y ≡ Some fault
      → (IsShort (halt_of fault) → ⊥) → IsRefused our_reference s.current new.current
  refused-so (next.Open p) q y fault ours asks answered told clear =
      open-refused q y fault ours.0
      (some-same q opening (sym asks ∙ ap (λ (z : InitiatorPlan). asks_next (next.Open z)) ours.1)) answered told clear
  refused-so (next.Bind k p) q y fault ours asks answered told clear =
      bind-refused ours.0 q y fault ours.1
      (some-same q (ask.Bind ours.0.number) (sym asks ∙ ap (λ (m : ℕ). Some (ask.Bind m)) ours.3)) answered told clear
  refused-so any1 q y fault ours asks answered told clear = absurd ours

  never-refused : (x : Next) (q : Ask) (y : Reply) (fault : StepFault) (o : Option (Side × Action))
      → IsOurNext s.current x → asks_next x ≡ Some q → Answered memory_disk memory_clock q s y new
      → fault_of y ≡ Some fault → IsCallerOf (ready.Halts (halt_before fault)) o → ⊥
  never-refused x q y fault None ours asks answered told caller =
      none_is_refused before count our_reference n s.current second new.current b drill between
      (refused-so x q y fault ours asks answered told (clear-halt (halt_of fault) caller))
  never-refused x q y fault (Some z) ours asks answered told caller = caller

  -- ---- the session

  -- the side that calls
  pub record IsCalling (x : Option (Side × Action)) : Type 0 where
    pub side : Side × Action
    pub is : x ≡ Some side
    pub goes_on : Works new
    pub calls : Calls our_reference s.current (party_of new side)

  works-still : HasHistory memory_disk new → Works new
  works-still history = record { history = history; clock = λ k told. works.clock k (clock k told) }

  looked-so : (plan : InitiatorPlan) (first : Action) (t u : State) (a : Action) (halt : Option Halt)
      → HasHistory memory_disk new
      → IsTurn (record { before = new_initiator plan most_units; event = event.Go; action = first; after = t })
      → looking.HasLooked memory_disk memory_clock new t first None u a halt → (IsShort halt → ⊥)
      → HasLooked new.current plan u a × (halt ≡ None)
  looked-so plan first t u a halt history turn looked enough =
      let looks = looks_so new (works-still history) t first looked.turns u a looked.looks
      (subst (λ (h : Option Halt). IsShort h → ⊥) looked.noted enough) in (
        record {
          first = first;
          session = t;
          follows = turn.follows;
          looks = looks.0.0;
          looked = looks.0.1;
        },
        looked.noted ∙ looks.1,
      )

  begins-well : (plan : InitiatorPlan) (u : State) (a : Action) (o : Option (Side × Action)) → IsOpened plan
      → HasLooked new.current plan u a → looking.WantsNoLook a → IsCallerOf (ready.Begins u (Ok a)) o → IsCalling o
  begins-well plan u a None opened looked all caller = absurd caller
  begins-well plan u a (Some y) opened looked all caller = record {
    side = y;
    is = refl;
    goes_on = works-still opened.history;
    calls = record {
      begun = opened.begun y.0.session y.1
          (subst (λ (t : State). HasLooked new.current plan t y.1) (sym caller.0)
          (subst (λ (c : Action). HasLooked new.current plan u c) (sym caller.1) looked));
      all = subst WantsNoLook (sym caller.1) (wants-none a all);
      came_is = refl;
    };
  }

  never-lost : (plan : InitiatorPlan) (first : Action) (t u : State) (halt : Option Halt) → IsOpened plan
      → IsTurn (record { before = new_initiator plan most_units; event = event.Go; action = first; after = t })
      → IsLostLooking memory_disk memory_clock new t first None u halt losts.Lane → (IsShort halt → ⊥) → ⊥
  never-lost plan first t u halt opened turn lost enough =
      let still : IsShort (noted lost.before lost.answer) → ⊥ =
      subst (λ (h : Option Halt). IsShort h → ⊥) lost.noted enough in
      let looked =
      looked-so plan first t u (action.Ask lost.question) lost.before opened.history turn lost.looked
      (enough-before lost.before lost.answer still) in
      let clear : IsShort (halt_after lost.answer) → ⊥ =
      subst (λ (o : Option Halt). IsShort (noted o lost.answer) → ⊥) looked.1 still in
      let asked = questions_are_asked lost.question new lost.answer new (works-still opened.history) lost.answered
      clear in
      lost.cause (looks_heard before count our_reference n s.current second b
      (record { spool = new.current; session = u; wants = action.Ask lost.question; came = [] }) lost.question
      lost.answer drill between (opened.begun u (action.Ask lost.question) looked.0) refl asked.0)

  lost-not : (u : State) (lost : Lost) (o : Option (Side × Action))
      → (lost ≡ losts.Lane → ⊥) → IsCallerOf (ready.Begins u (Err lost)) o → ⊥
  lost-not u losts.Memory None never caller = caller
  lost-not u losts.Memory (Some y) never caller = caller
  lost-not u losts.Lane None never caller = never refl
  lost-not u losts.Lane (Some y) never caller = caller

  begins-so : (plan : InitiatorPlan) (u : State) (first : Result Action Lost) (halt : Option Halt)
      (o : Option (Side × Action)) → IsOpened plan
      → Begins memory_disk memory_clock new plan most_units None u halt first → (IsShort halt → ⊥)
      → IsCallerOf (ready.Begins u first) o → IsCalling o
  begins-so plan u first halt o opened (Well f a t turn looked all) enough caller =
      begins-well plan u a o opened (looked-so plan f t u a halt opened.history turn looked enough).0 all caller
  begins-so plan u first halt o opened (Without_memory same still) enough caller =
      absurd (lost-not u losts.Memory o (λ e. cc) caller)
  begins-so plan u first halt o opened (Lost_looking f t lost turn gone) enough caller =
      absurd (lost-not u lost o (λ e. never-lost plan f t u halt opened turn
      (subst (λ (l : Lost). IsLostLooking memory_disk memory_clock new t f None u halt l) e gone) enough) caller)

  stepped-so : (x : Next) (r : Ready) (halt : Option Halt) (o : Option (Side × Action)) → IsOurNext s.current x
      → IsStepped memory_disk memory_clock x most_units s None new halt r → (IsShort halt → ⊥) → IsCallerOf r o
      → IsCalling o
  stepped-so x r halt o ours (No_room same still) enough caller = absurd (halts-for-memory o caller)
  stepped-so x r halt o ours (Refused q y fault asks answered told still) enough caller =
      absurd (never-refused x q y fault o ours asks answered told caller)
  stepped-so x r halt o ours (Closed lane generation is answered still) enough caller =
      absurd (subst (λ (z : Next). IsOurNext s.current z) is ours)
  stepped-so x r halt o ours (Begun q y plan u first asks answered behind begins) enough caller =
      begins-so plan u first halt o (opened-so x q y plan ours asks answered behind) begins enough caller

  readied-so : (r : Ready) (halt : Option Halt) (o : Option (Side × Action))
      → IsReadied memory_disk memory_clock east most_units s None new halt r → (IsShort halt → ⊥) → IsCallerOf r o
      → IsCalling o
  readied-so r halt o (No_peer is same still) enough caller =
      absurd (next-is s.current known.first_tables known.first_moment next.NoPeer known.lanes is)
  readied-so r halt o (No_number last is same still) enough caller =
      absurd (next-is s.current known.first_tables known.first_moment (next.NoNumber last) known.lanes is)
  readied-so r halt o (No_memory same still) enough caller = absurd (halts-for-memory o caller)
  readied-so r halt o (Stepped x z is stepped) enough caller =
      stepped-so x z halt o (next-is s.current known.first_tables known.first_moment x known.lanes is) stepped enough
      caller

-- ---- both

module _ (before count n : ℕ) (second : SpoolState) (b : Breaks) (s new : Shown HeldDisk (List ℕ))
    (drill : IsDrill before count) (works : Works s)
    (between : Between before count our_reference n s.current second b) where
  pub none_called : HasCalled east s None new → ⊥
  none_called h =
      let calling =
      readied-so before count n second b s new drill works between h.clock h.ready h.halt None h.readied h.enough
      h.caller in
      none-is-some calling.side calling.is

  pub called_so : (x : Side × Action) → HasCalled east s (Some x) new
      → Works new × Calls our_reference s.current (party_of new x)
  called_so x h =
      let calling =
      readied-so before count n second b s new drill works between h.clock h.ready h.halt (Some x) h.readied h.enough
      h.caller in
      let same : calling.side ≡ x = some-same calling.side x (sym calling.is) in (
        calling.goes_on,
        subst (λ (z : Side × Action). Calls our_reference s.current (party_of new z)) same calling.calls,
      )

-- a side at its start
pub starts_so : (s : Shown HeldDisk (List ℕ)) (x : Side × Action) (b : Breaks) → Works s → IsAtStart x.0
    → IsSide x.0 s x.1 b (party_of s x) (record { is_broken = false; breaks = b })
starts_so s x b works start = record {
  spool = refl;
  session = refl;
  wants = refl;
  came = start.none;
  broken = sym start.whole;
  breaks = refl;
  works = works;
}

called-start : (r : Ready) (x : Side × Action) → IsCallerOf r (Some x) → IsAtStart x.0
called-start (ready.Begins u (Ok a)) x caller = caller.2
called-start (ready.Begins u (Err losts.Memory)) x caller = absurd caller
called-start (ready.Begins u (Err losts.Lane)) x caller = absurd caller
called-start ready.Closed x caller = absurd caller
called-start (ready.Halts halt) x caller = absurd caller

-- both at the beginning of a session
abbrev pub start_of : (s t : Shown HeldDisk (List ℕ)) (x y : Side × Action) → Breaks → World
start_of s t x y b = record {
  calling = party_of s x;
  listening = party_of t y;
  link = record { is_broken = false; breaks = b };
}

-- they begin a session, and each side is as its agent shows it
pub record HaveBegun (first second s : Shown HeldDisk (List ℕ)) (x y : Side × Action) (b : Breaks) : Type 0 where
  pub started : HasStarted our_reference first.current second.current b (start_of s second x y b)
  pub calling : IsSide x.0 s x.1 b (party_of s x) (record { is_broken = false; breaks = b })
  pub listening : IsSide y.0 second y.1 b (party_of second y) (record { is_broken = false; breaks = b })

pub both_begin : (before count n : ℕ) (first second s : Shown HeldDisk (List ℕ)) (x y : Side × Action) (b : Breaks)
    → IsDrill before count → Works first → Works second
    → Between before count our_reference n first.current second.current b → HasCalled east first (Some x) s
    → Listens second (Some y) → HaveBegun first second s x y b
both_begin before count n first second s x y b drill first_works second_works between called listens =
    let calls = called_so before count n second.current b first s drill first_works between x called in
    record {
      started = record {
        calls = calls.1;
        listens = listens_so before count n first.current b second between y listens;
        whole_link = refl;
        breaks_are = refl;
      };
      calling = starts_so s x b calls.0 (called-start called.ready x called.caller);
      listening = starts_so second y b second_works listens.4;
    }
