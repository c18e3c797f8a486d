-- What a worker does with a link, from the first call of its session to its end.
use Rattle.std.proofs.Common.{◌≡◌, ◌≤◌, ℕ, ◌+◌, ◌-◌, Bool, false, List, [], ◌∷◌, ◌++◌, length, Option, None, Some}
use Rattle.std.proofs.Common.{Result}
use Rattle.std.proofs.Common.{Ok, Err, inl, inr, refl, sym, ap, subst, ◌∙◌, append_assoc, append-nil, arith, slice_get}
use Rattle.std.proofs.lemmas.Bool.{cases_lt}
use mathlib.Core.List.{IsPrefix}
use Rattle.mta_ber.specs.declared.memory.Memory.{Memory as NoMemory}
use Rattle.mta_edge.specs.Views.{ClockView, DiskView}
use Rattle.mta_links.specs.Links.{LinkView}
use Rattle.mta_links.specs.declared.role.Role.{Role}
use Rattle.mta_links.specs.declared.role.Role.TheVariants as Roles
use Rattle.mta_transfer_rules.specs.Lanes.{CloseLane, On, Seen}
use Rattle.mta_records.specs.Reference.{Identifier}
use Rattle.mta_records.specs.declared.fault.StepFault.{StepFault}
use Rattle.mta_records.specs.declared.lane.LaneRole.TheVariants.{Initiator}
use Rattle.mta_records.specs.declared.step.Step.{Step}
use Rattle.mta_histories.specs.History.{after}
use Rattle.mta_histories.specs.Lanes.{State}
use Rattle.mta_units.specs.Feed.{no_feed}
use Rattle.mta_session.specs.State.{State as Session}
use Rattle.mta_session.specs.Follows.{Follows}
use Rattle.mta_session.specs.Groups.{has_turned}
use Rattle.mta_session.specs.Session.{new_initiator, new_responder}
use Rattle.mta_session.specs.declared.ask.Ask.{Ask}
use Rattle.mta_session.specs.declared.ask.Ask.TheVariants as ask
use Rattle.mta_session.specs.declared.ask.Reply.{Reply}
use Rattle.mta_session.specs.declared.ask.Reply.TheVariants as reply
use Rattle.mta_session.specs.declared.event.Action.{Action}
use Rattle.mta_session.specs.declared.event.Action.TheVariants as action
use Rattle.mta_session.specs.declared.event.Event.TheVariants as event
use Rattle.mta_session_laws.specs.Runs.{IsTurn}
use Rattle.mta_session_list_laws.specs.Calls.{Call, StepOn}
use Rattle.mta_shared.specs.Counts.{row, times}
use Rattle.mta_shared.specs.declared.history.Base.{Base}
use Rattle.mta_shared.specs.Held.{Held}
use Rattle.mta_shared.proofs.Fronts.{prefix_length, prefix_self, prefix_trans}
use Rattle.mta_shared.proofs.Sums.{times-append}
use Rattle.mta_spool.specs.Shown.{Shown}
use Rattle.mta_stations.specs.declared.end.Halt.{Halt}
use Rattle.mta_worker.specs.Answers.{Answered}
use Rattle.mta_worker.specs.Halting.{fault_of}
use Rattle.mta_worker.specs.Readying.{asks_next, Closed, IsReadied, IsStepped, No_memory, No_number, No_peer, No_room}
use Rattle.mta_worker.specs.Readying.{Refused, Stepped}
use Rattle.mta_worker.specs.Served.{Calling, Closings, Halting, HasCalled, HasListened, IsOwnName, Listening}
use Rattle.mta_worker.specs.Served.{Lost_at_once}
use Rattle.mta_worker.specs.Served.{Lost_before, Too_often, Wanting, Without}
use Rattle.mta_worker.specs.Serving.{At, GivesUp, InTurn, IsServed}
use Rattle.mta_worker.specs.declared.proposal.Next.{Next}
use Rattle.mta_worker.specs.declared.proposal.Next.TheVariants as next
use Rattle.mta_worker.specs.declared.ready.Ready.TheVariants as ready
use Rattle.mta_worker.specs.declared.telling.Lost.{Lost}
use Rattle.mta_worker.specs.declared.telling.Lost.TheVariants as losts
use Rattle.mta_worker.specs.declared.session.Served.{Served}
use Rattle.mta_worker.proofs.Growing.{grows}
use Rattle.mta_worker_list_laws.specs.Begun.{at_first, begun_by, Calls, HasRun, IsBehind, IsNewAt, Listens}
use Rattle.mta_worker_list_laws.specs.Histories.{AreEntries, TellsApdus, place, whole}
use Rattle.mta_worker_list_laws.specs.Leads.{Leads}
use Rattle.mta_worker_list_laws.specs.Linked.{AreClosings, Began, IsRun, LinksAreRun, None_began}
use Rattle.mta_worker_list_laws.proofs.Calm.{is_looking}
use Rattle.mta_worker_list_laws.proofs.Ending.{done_at_once, done_behind, gave_up, served_closed, served_grows}
use Rattle.mta_worker_list_laws.proofs.Going.{state_then, turn_base, turn_grows}
use Rattle.mta_worker_list_laws.proofs.Given.{unheard}
use Rattle.mta_worker_list_laws.proofs.Initiating.{begins_led, begins_lost, Led, Lost_there, readied_begins}
use Rattle.mta_worker_list_laws.proofs.Joining.{none_carried}
use Rattle.mta_worker_list_laws.proofs.Known.{Knows}
use Rattle.mta_worker_list_laws.proofs.Making.{Makes, not_bound, refused}
use Rattle.mta_worker_list_laws.proofs.Owned.{none_hit, one_hit}
use Rattle.mta_worker_list_laws.proofs.Telling.{answer_made}
use Rattle.mta_worker_list_laws.proofs.Turns.{made_entries, made_stands, was_possible}
use Rattle.mta_worker_list_laws.proofs.Waits.{waits_next}

listens_first : (own : List ℕ) (units : ℕ) (first : Action) (t : Session)
    → Follows (new_responder own units) event.Go first t → is_looking t.phase ≡ false
listens_first own units first t f = ap (λ (z : Session). is_looking z.phase) f.1

listens_knows : (own : List ℕ) (units : ℕ) (first : Action) (t : Session) (s : State)
    → Follows (new_responder own units) event.Go first t → Knows t s
listens_knows own units first t s f = subst (λ (z : Session). Knows z s) (sym f.1) tt

behind_less : {history : List Seen} {from : ℕ} {t : Session} (low high : ℕ) → low ≤ high
    → (new : IsNewAt history from t) → IsBehind high new → IsBehind low new
behind_less low high le (Calls p units at from is has opens) b = omega (arith, le, b)
behind_less low high le (Listens own units from) b = omega (arith, le, b)

module _ {D C L : Type 0} (disks : DiskView D) (clocks : ClockView C) (links : LinkView L) (spells : List ℕ → Bool)
    (tells : TellsApdus spells) (first entries : List Step) where
  abbrev history : List Seen
  history = whole first entries

  -- A session that began over this link of a station of this role, behind these entries of its pass.
  pub record RunOf (r : Role) (old new_link : L) (low : ℕ) (own opened : List ℕ) (q : Held Step) : Type 0 where
    pub new : Session
    pub begun : Held Step
    pub calls : List Call
    pub ran : HasRun links spells first entries old new begun calls q new_link
    pub of_role : ran.role ≡ r
    pub owns : begun.own ≡ own ++ begun_by (length first) ran.begins
    pub later : length (begun_by (length first) ran.begins) ≤ length begun.seen
    pub behind : IsBehind low ran.begins

  abbrev Ran : Role → L → L → Held Step → Held Step → Served → Type 0
  Ran r old new p q served = IsRun links spells first entries r old new p q served

  no_closings : AreClosings history (length first) []
  no_closings k hit = none_hit k hit

  -- where none was closed
  began : (role : Role) (old new : L) (p q : Held Step) (served : Served)
      → RunOf role old new (place first p) p.own [] q → Ran role old new p q served
  began role old new p q served r = Began [] r.new r.begun r.calls r.ran r.of_role no_closings r.owns r.later r.behind

  none_began : (role : Role) (old new : L) (p q : Held Step) (served : Served) → served.end ≡ None → q.own ≡ p.own
      → new ≡ old → Ran role old new p q served
  none_began role old new p q served none owns same =
      None_began [] no_closings none (owns ∙ sym (append-nil p.own)) same

  -- no entry is made in a turn of the lock
  pub still_owns : (done : Shown D C → Shown D C → Type 0) (p q : Held Step) (i : InTurn disks clocks done p q)
      → i.after.entries ≡ i.before.entries → q.own ≡ p.own
  still_owns done p q i same =
      let none : length i.after.entries - length i.before.entries ≡ 0 =
      (let long : length i.after.entries ≡ length i.before.entries = ap length same in omega (arith, long)) in
      ap (λ (h : Held Step). h.own) i.left
      ∙ ap (λ (n : ℕ). p.own ++ row (length i.before.entries) n) none ∙ append-nil p.own

  -- what is behind the turns of the lock before the session
  turn_then : (done : Shown D C → Shown D C → Type 0) (p q : Held Step) → AreEntries p.base first entries
      → InTurn disks clocks done p q → AreEntries q.base first entries
  turn_then done p q are i =
      subst (λ (b : Base). AreEntries b first entries) (sym (turn_base disks clocks done p q i)) are

  -- ---- a peer called

  listens_run : (own : List ℕ) (units : ℕ) (mid : Held Step) (old new : L) (q : Held Step) (served : Served)
      (one : Action) (t : Session) → AreEntries mid.base first entries
      → IsTurn (record { before = new_responder own units; event = event.Go; action = one; after = t })
      → IsServed disks clocks links (record {
        session = t;
        action = one;
        link = old;
        feed = no_feed;
        pass = mid;
        halt = None;
      }) new q served → IsPrefix q.seen entries → RunOf Roles.In old new (place first mid) mid.own [] q
  listens_run own units mid old new q served one t are turn is f =
      let n : ℕ = place first mid in
      let fresh : Session = new_responder own units in
      let call : Call = record {
        turn = record { before = fresh; event = event.Go; action = one; after = t };
        seen = n;
      } in
      let x : At L = record {
        session = t;
        action = one;
        link = old;
        feed = no_feed;
        pass = mid;
        halt = None;
      } in
      let rest = served_closed disks clocks links spells tells first entries x new q served are
      (waits_next call.turn turn refl) (listens_first own units one t turn.follows)
      (listens_knows own units one t (after (first ++ mid.seen)) turn.follows) is f in
      record {
        new = fresh;
        begun = mid;
        calls = call ∷ [] ++ rest.0;
        of_role = refl;
        ran = record {
          role = Roles.In;
          begins = Listens own units n;
          called = tt;
          done =
              done_behind links spells first entries (at_first fresh old mid) x (call ∷ []) rest.0 q new
              (record { calls_are = (refl, turn, refl); come_true = (refl, tt); wanted = refl; seen = refl })
              (sym (append-nil mid.own))
              (none_carried links (call ∷ []) action.Read old no_feed refl ([], [], refl, refl, refl))
              (unheard (first ++ entries) call.turn n tt) rest.1;
        };
        owns = sym (append-nil mid.own);
        later = omega arith;
        behind = omega arith;
      }

  -- a pass that saw no entry made has seen as much as before
  seen_still : (done : Shown D C → Shown D C → Type 0) (p q : Held Step) (i : InTurn disks clocks done p q)
      → i.after.entries ≡ i.before.entries → place first p ≤ place first q
  seen_still done p q i same =
      let front : length p.seen ≤ length i.before.entries = prefix_length p.seen i.before.entries i.begins in
      let seen : length q.seen ≡ length i.before.entries = ap length (ap (λ (h : Held Step). h.seen) i.left ∙ same) in
      omega (arith, front, seen)

  own_still : (own : Result (Option (List ℕ)) NoMemory) (p q : Held Step)
      → InTurn disks clocks (λ s t. IsOwnName s.current own × (t ≡ s)) p q → q.own ≡ p.own
  own_still own p q i =
      still_owns (λ s t. IsOwnName s.current own × (t ≡ s)) p q i (ap (λ (s : Shown D C). s.entries) i.did.1)

  listened_run : (units : ℕ) (p : Held Step) (old new : L) (q : Held Step) (served : Served)
      → AreEntries p.base first entries → HasListened disks clocks links units p old new q served
      → IsPrefix q.seen entries → Ran Roles.In old new p q served
  listened_run units p old new q served are (Without i same is) f =
      none_began Roles.In old new p q served (ap (λ (s : Served). s.end) is) (own_still (Ok None) p q i) same
  listened_run units p old new q served are (Wanting i same is) f =
      none_began Roles.In old new p q served (ap (λ (s : Served). s.end) is)
      (still_owns (λ s t. t ≡ s) p q i (ap (λ (s : Shown D C). s.entries) i.did)) same
  listened_run units p old new q served are (Listening own mid one t i turn is) f =
      let r = listens_run own units mid old new q served one t
      (turn_then (λ s t. IsOwnName s.current (Ok (Some own)) × (t ≡ s)) p mid are i) turn is f in
      began Roles.In old new p q served (record {
        new = r.new;
        begun = r.begun;
        calls = r.calls;
        ran = r.ran;
        of_role = r.of_role;
        owns = r.owns ∙ ap (λ (ns : List ℕ). ns ++ begun_by (length first) r.ran.begins)
            (own_still (Ok (Some own)) p mid i);
        later = r.later;
        behind =
            behind_less (place first p) (place first mid)
            (seen_still (λ s t. IsOwnName s.current (Ok (Some own)) × (t ≡ s)) p mid i
            (ap (λ (s : Shown D C). s.entries) i.did.1)) r.ran.begins r.behind;
      })
  listened_run units p old new q served are (Lost_at_once own i gives) f =
      let fresh : Session = new_responder own units in
      began Roles.In old new p q served (record {
        new = fresh;
        begun = q;
        calls = [];
        of_role = refl;
        ran = record {
          role = Roles.In;
          begins = Listens own units (place first q);
          called = tt;
          done = done_at_once links spells first entries fresh old q new
              (gave_up links losts.Memory false None old new served gives refl);
        };
        owns = own_still (Ok (Some own)) p q i ∙ sym (append-nil p.own);
        later = omega arith;
        behind =
            seen_still (λ s t. IsOwnName s.current (Ok (Some own)) × (t ≡ s)) p q i
            (ap (λ (s : Shown D C). s.entries) i.did.1);
      })

  -- ---- this agent called

  -- its entry, and what it did
  begins_run : (peer : List ℕ) (units : ℕ) (mid at : Held Step) (u : Session) (one : Action) (noted : Option Halt)
      (old new : L) (q : Held Step) (served : Served) → AreEntries mid.base first entries
      → InTurn disks clocks (λ s t. IsReadied disks clocks peer units s None t noted (ready.Begins u (Ok one))) mid at
      → IsServed disks clocks links (record {
        session = u;
        action = one;
        link = old;
        feed = no_feed;
        pass = at;
        halt = noted;
      }) new q served → IsPrefix at.seen entries → IsPrefix q.seen entries
      → RunOf (Roles.Out peer) old new (place first mid) mid.own [] q
  begins_run peer units mid at u one noted old new q served are i is front f =
      let left : at.seen ≡ i.after.entries = ap (λ (h : Held Step). h.seen) i.left in
      let owned : at.own
      ≡ mid.own ++ row (length i.before.entries) (length i.after.entries - length i.before.entries) =
      ap (λ (h : Held Step). h.own) i.left in
      let behind : IsPrefix i.after.entries entries = subst (λ (xs : List Step). IsPrefix xs entries) left front in
      let state = state_then disks clocks i.before mid.base first entries i.keeps are in
      let led : Led disks clocks spells tells first entries are.possible peer i.before i.after at u one =
      begins_led disks clocks spells tells first entries are.possible peer units i.before i.after at None noted u one
      left state
      behind (readied_begins disks clocks peer units i.before i.after None noted u (Ok one) i.did) in
      let there : length first + length i.after.entries ≡ place first at =
      ap (λ (xs : List Step). length first + length xs) (sym left) in
      let fresh : Session = new_initiator led.begins.plan led.begins.units in
      let x : At L = record {
        session = u;
        action = one;
        link = old;
        feed = no_feed;
        pass = at;
        halt = noted;
      } in
      let rest = served_closed disks clocks links spells tells first entries x new q served
      (turn_then (λ s t. IsReadied disks clocks peer units s None t noted (ready.Begins u (Ok one))) mid at are i)
      led.waits led.still
      (subst (λ (xs : List Step). Knows u (after (first ++ xs))) (sym left)
      (subst (λ (s : State). Knows u s) led.stands led.knows)) is f in
      record {
        new = fresh;
        begun = at;
        calls = led.calls ++ rest.0;
        of_role = refl;
        ran = record {
          role = Roles.Out peer;
          begins = led.begins.begun;
          called = led.begins.called;
          done =
              done_behind links spells first entries (at_first fresh old at) x led.calls rest.0 q new
              (subst (λ (k : ℕ). Leads spells history k fresh action.Read led.calls k u one) there led.leads)
              (sym (append-nil at.own) ∙ ap (λ (ns : List ℕ). at.own ++ ns) (sym led.quiet.made))
              (none_carried links led.calls action.Read old no_feed led.quiet.got led.quiet.put) led.given rest.1;
        };
        owns = owned ∙ ap (λ (ns : List ℕ). mid.own ++ ns) led.begins.opened;
        later = led.begins.later;
        behind =
            let seen : length mid.seen ≤ length i.before.entries = prefix_length mid.seen i.before.entries i.begins in
            behind_less (place first mid) (length first + length i.before.entries) (omega (arith, seen))
            led.begins.begun led.begins.behind;
      }

  lost_run : (peer : List ℕ) (units : ℕ) (mid q : Held Step) (u : Session) (lost : Lost) (noted : Option Halt)
      (old new : L) (served : Served) → AreEntries mid.base first entries
      → InTurn disks clocks (λ s t. IsReadied disks clocks peer units s None t noted (ready.Begins u (Err lost))) mid q
      → GivesUp links lost (has_turned u.phase) noted old new served → IsPrefix q.seen entries
      → RunOf (Roles.Out peer) old new (place first mid) mid.own [] q
  lost_run peer units mid q u lost noted old new served are i gives f =
      let left : q.seen ≡ i.after.entries = ap (λ (h : Held Step). h.seen) i.left in
      let owned : q.own
      ≡ mid.own ++ row (length i.before.entries) (length i.after.entries - length i.before.entries) =
      ap (λ (h : Held Step). h.own) i.left in
      let behind : IsPrefix i.after.entries entries = subst (λ (xs : List Step). IsPrefix xs entries) left f in
      let state = state_then disks clocks i.before mid.base first entries i.keeps are in
      let led : Lost_there disks clocks spells tells first entries are.possible peer links i.before i.after old q new =
      begins_lost disks clocks spells tells first entries are.possible peer links units i.before i.after None noted u
      lost old q new
      state behind left (readied_begins disks clocks peer units i.before i.after None noted u (Err lost) i.did)
      (gave_up links lost (has_turned u.phase) noted old new served gives) in
      record {
        new = new_initiator led.begins.plan led.begins.units;
        begun = q;
        calls = led.closed.0;
        of_role = refl;
        ran = record {
          role = Roles.Out peer;
          begins = led.begins.begun;
          called = led.begins.called;
          done = led.closed.1;
        };
        owns = owned ∙ ap (λ (ns : List ℕ). mid.own ++ ns) led.begins.opened;
        later = led.begins.later;
        behind =
            let seen : length mid.seen ≤ length i.before.entries = prefix_length mid.seen i.before.entries i.begins in
            behind_less (place first mid) (length first + length i.before.entries) (omega (arith, seen))
            led.begins.begun led.begins.behind;
      }

  -- ---- the turns before

  -- a refused question makes no entry
  open_refused : (peer : List ℕ) (name : Identifier) (twa : Bool) (c w : ℕ) (y : Reply) (f : StepFault)
      (old new : Shown D C) → Answered disks clocks (ask.LaneOpen Initiator peer name twa c w) old y new
      → fault_of y ≡ Some f → new.entries ≡ old.entries
  open_refused peer name twa c w (reply.LaneOpen (Ok lane)) f old new a e = absurd cc
  open_refused peer name twa c w (reply.LaneOpen (Err g)) f old new a e = (refused disks clocks _ g old new a.0.at).0
  open_refused peer name twa c w y f old new a e = elim a [ ]

  bind_refused : (lane : ℕ) (y : Reply) (f : StepFault) (old new : Shown D C)
      → Answered disks clocks (ask.Bind lane) old y new → fault_of y ≡ Some f → new.entries ≡ old.entries
  bind_refused lane (reply.Bind (Ok g)) f old new a e = absurd cc
  bind_refused lane (reply.Bind (Err g)) f old new a e = (not_bound disks clocks lane g old new a).0
  bind_refused lane y f old new a e = elim a [ ]

  close_refused : (lane g : ℕ) (y : Reply) (f : StepFault) (old new : Shown D C)
      → Answered disks clocks (ask.CloseLane lane g) old y new → fault_of y ≡ Some f → new.entries ≡ old.entries
  close_refused lane g (reply.CloseLane (Ok u)) f old new a e = absurd cc
  close_refused lane g (reply.CloseLane (Err h)) f old new a e = (refused disks clocks _ h old new a).0
  close_refused lane g y f old new a e = elim a [ ]

  same_ask : (p q : Ask) → Some p ≡ Some q → q ≡ p
  same_ask p q e = cc

  none_asked : {A : Type 0} (q : Ask) → None ≡ Some q → A
  none_asked q e = absurd cc

  next_refused : (x : Next) (q : Ask) (y : Reply) (f : StepFault) (old new : Shown D C) → asks_next x ≡ Some q
      → Answered disks clocks q old y new → fault_of y ≡ Some f → new.entries ≡ old.entries
  next_refused (next.Open p) q y f old new e a is =
      open_refused p.peer p.reference p.twa p.checkpoint p.window y f old new
      (subst (λ (z : Ask). Answered disks clocks z old y new) (same_ask _ q e) a) is
  next_refused (next.Bind lane p) q y f old new e a is =
      bind_refused lane y f old new (subst (λ (z : Ask). Answered disks clocks z old y new) (same_ask _ q e) a) is
  next_refused (next.Close lane g) q y f old new e a is =
      close_refused lane g y f old new (subst (λ (z : Ask). Answered disks clocks z old y new) (same_ask _ q e) a) is
  next_refused any0 q y f old new e a is = none_asked q e

  same_entries : (old new : Shown D C) → new ≡ old → new.entries ≡ old.entries
  same_entries old new e = ap (λ (s : Shown D C). s.entries) e

  stepped_halts : (x : Next) (units : ℕ) (old new : Shown D C) (noted : Option Halt) (halt : Halt)
      → IsStepped disks clocks x units old None new noted (ready.Halts halt) → new.entries ≡ old.entries
  stepped_halts x units old new noted halt (No_room same is) = same_entries old new same
  stepped_halts x units old new noted halt (Refused q y f e a is same) = next_refused x q y f old new e a is

  pub readied_halts : (peer : List ℕ) (units : ℕ) (old new : Shown D C) (noted : Option Halt) (halt : Halt)
      → IsReadied disks clocks peer units old None new noted (ready.Halts halt) → new.entries ≡ old.entries
  readied_halts peer units old new noted halt (No_peer is same e) = same_entries old new same
  readied_halts peer units old new noted halt (No_number last is same e) = same_entries old new same
  readied_halts peer units old new noted halt (No_memory same e) = same_entries old new same
  readied_halts peer units old new noted halt (Stepped x r is s) = stepped_halts x units old new noted halt s

  -- a lane was closed
  pub record CloseOf (old new : Shown D C) : Type 0 where
    pub lane : ℕ
    pub generation : ℕ
    pub answered : Answered disks clocks (ask.CloseLane lane generation) old (reply.CloseLane (Ok tt)) new

  stepped_closed : (x : Next) (units : ℕ) (old new : Shown D C)
      → IsStepped disks clocks x units old None new None ready.Closed → CloseOf old new
  stepped_closed x units old new (Closed lane g e a same) = record { lane = lane; generation = g; answered = a }

  readied_closed : (peer : List ℕ) (units : ℕ) (old new : Shown D C)
      → IsReadied disks clocks peer units old None new None ready.Closed → CloseOf old new
  readied_closed peer units old new (Stepped x r is s) = stepped_closed x units old new s

  pub record Closed_one (p m : Held Step) : Type 0 where
    pub entry : ℕ
    pub owns : m.own ≡ p.own ++ entry ∷ []
    pub lane : ℕ
    pub generation : ℕ
    pub stands : slice_get history (length first + entry) ≡ Some (On lane (CloseLane generation))

  closed_one : (peer : List ℕ) (units : ℕ) (p m : Held Step) → AreEntries p.base first entries
      → InTurn disks clocks (λ s t. IsReadied disks clocks peer units s None t None ready.Closed) p m
      → IsPrefix m.seen entries → Closed_one p m
  closed_one peer units p m are i f =
      let left : m.seen ≡ i.after.entries = ap (λ (h : Held Step). h.seen) i.left in
      let owned : m.own ≡ p.own ++ row (length i.before.entries) (length i.after.entries - length i.before.entries) =
      ap (λ (h : Held Step). h.own) i.left in
      let behind : IsPrefix i.after.entries entries = subst (λ (xs : List Step). IsPrefix xs entries) left f in
      let state = state_then disks clocks i.before p.base first entries i.keeps are in
      let c = readied_closed peer units i.before i.after i.did in
      let step : StepOn = record { lane = c.lane; step = CloseLane c.generation } in
      let made : Makes (Some step) i.before i.after =
      answer_made disks clocks (ask.CloseLane c.lane c.generation) i.before (reply.CloseLane (Ok tt)) i.after
      (was_possible disks clocks spells tells first entries are.possible i.before i.after state behind) c.answered in
      let stands = made_stands disks clocks spells tells first entries are.possible step
      (length first + length i.before.entries) i.before i.after made state behind (omega arith) in
      let long : ℕ = length first + length i.after.entries in
      let place : length first + (long - 1 - length first) ≡ long - 1 = omega (arith, stands.later) in
      record {
        entry = long - 1 - length first;
        owns =
            owned
            ∙ ap (λ (ns : List ℕ). p.own ++ ns)
            (made_entries disks clocks spells tells first entries are.possible (Some step) i.before i.after made);
        lane = c.lane;
        generation = c.generation;
        stands = ap (λ (n : ℕ). slice_get history n) place ∙ stands.entry;
      }

  answered_grow : (q : Ask) (s t : Shown D C) (y : Reply) → Answered disks clocks q s y t
      → IsPrefix s.entries t.entries
  answered_grow q s t y a =
      elim (grows disks clocks q s y t a) [
        | inl e ↦ subst (λ (xs : List Step). IsPrefix s.entries xs) (sym e) (prefix_self s.entries)
        | inr more ↦ subst (λ (xs : List Step). IsPrefix s.entries xs) (sym more.1) (more.0 ∷ [], refl)
      ]

  closing_grows : (peer : List ℕ) (units : ℕ) (p m : Held Step)
      → InTurn disks clocks (λ s t. IsReadied disks clocks peer units s None t None ready.Closed) p m
      → IsPrefix p.seen m.seen
  closing_grows peer units p m i =
      turn_grows disks clocks (λ s t. IsReadied disks clocks peer units s None t None ready.Closed) p m
      (λ s t d. let c = readied_closed peer units s t d in
      answered_grow (ask.CloseLane c.lane c.generation) s t (reply.CloseLane (Ok tt)) c.answered) i

  pub closings_grow : (peer : List ℕ) (units : ℕ) (p : Held Step) (ms : List (Held Step)) (q : Held Step)
      → Closings disks clocks links peer units p ms q → IsPrefix p.seen q.seen
  closings_grow peer units p [] q c = subst (λ (z : Held Step). IsPrefix p.seen z.seen) (sym c) (prefix_self p.seen)
  closings_grow peer units p (m ∷ ms) q c =
      prefix_trans p.seen m.seen q.seen (closing_grows peer units p m c.0) (closings_grow peer units m ms q c.1)

  -- the entries of the turns in which lanes were closed
  pub record ClosedAll (p q : Held Step) : Type 0 where
    pub closings : List ℕ
    pub are : AreClosings history (length first) closings
    pub owns : q.own ≡ p.own ++ closings
    pub base : AreEntries q.base first entries

  closed_all : (peer : List ℕ) (units : ℕ) (p : Held Step) (ms : List (Held Step)) (q : Held Step)
      → AreEntries p.base first entries → Closings disks clocks links peer units p ms q → IsPrefix q.seen entries
      → ClosedAll p q
  closed_all peer units p [] q are c f = record {
    closings = [];
    are = no_closings;
    owns = ap (λ (h : Held Step). h.own) c ∙ sym (append-nil p.own);
    base = subst (λ (z : Held Step). AreEntries z.base first entries) (sym c) are;
  }
  closed_all peer units p (m ∷ ms) q are c f =
      let here : IsPrefix m.seen entries = prefix_trans m.seen q.seen entries (closings_grow peer units m ms q c.1) f in
      let one = closed_one peer units p m are c.0 here in
      let rest = closed_all peer units m ms q
      (turn_then (λ s t. IsReadied disks clocks peer units s None t None ready.Closed) p m are c.0) c.1 f in
      record {
        closings = one.entry ∷ rest.closings;
        are = λ k hit.
            let sum : times k (one.entry ∷ [] ++ rest.closings)
            ≡ times k (one.entry ∷ []) + times k rest.closings =
            times-append k (one.entry ∷ []) rest.closings in
            elim (cases_lt 0 (times k (one.entry ∷ []))) [
              | inl now ↦ (
                one.lane,
                one.generation,
                ap (λ (m : ℕ). slice_get history (length first + m)) (one_hit k one.entry now) ∙ one.stands,
              )
              | inr none ↦ rest.are k (omega (arith, hit, sum, none))
            ];
        owns =
            rest.owns ∙ ap (λ (ns : List ℕ). ns ++ rest.closings) one.owns
            ∙ append_assoc p.own (one.entry ∷ []) rest.closings;
        base = rest.base;
      }

  pub readied_grows : (peer : List ℕ) (units : ℕ) (p m : Held Step) (u : Session) (r : Result Action Lost)
      (noted : Option Halt)
      → InTurn disks clocks (λ s t. IsReadied disks clocks peer units s None t noted (ready.Begins u r)) p m
      → IsPrefix p.seen m.seen
  readied_grows peer units p m u r noted i =
      turn_grows disks clocks (λ s t. IsReadied disks clocks peer units s None t noted (ready.Begins u r)) p m
      (λ s t d. let w = readied_begins disks clocks peer units s t None noted u r d in
      answered_grow w.question s t w.answer w.answered) i

  begun_behind : (role : Role) (old new : L) (p mid q : Held Step) (served : Served) → ClosedAll p mid
      → IsPrefix p.seen mid.seen → RunOf role old new (place first mid) mid.own [] q → Ran role old new p q served
  begun_behind role old new p mid q served c front r =
      Began c.closings r.new r.begun r.calls r.ran r.of_role c.are
      (r.owns ∙ ap (λ (ns : List ℕ). ns ++ begun_by (length first) r.ran.begins) c.owns
      ∙ append_assoc p.own c.closings (begun_by (length first) r.ran.begins)) r.later
      (let seen : length p.seen ≤ length mid.seen = prefix_length p.seen mid.seen front in
      behind_less (place first p) (place first mid) (omega (arith, seen)) r.ran.begins r.behind)

  called_run : (peer : List ℕ) (units : ℕ) (p : Held Step) (old new : L) (q : Held Step) (served : Served)
      → AreEntries p.base first entries → HasCalled disks clocks links peer units p old new q served
      → IsPrefix q.seen entries → Ran (Roles.Out peer) old new p q served
  called_run peer units p old new q served are (Halting ms mid halt noted c i same is) f =
      let entries_are : i.after.entries ≡ i.before.entries =
      readied_halts peer units i.before i.after noted halt i.did in
      let still : q.own ≡ mid.own =
      still_owns (λ s t. IsReadied disks clocks peer units s None t noted (ready.Halts halt)) mid q i entries_are in
      let grown_on : IsPrefix mid.seen q.seen =
      subst (λ (xs : List Step). IsPrefix mid.seen xs)
      (sym (ap (λ (h : Held Step). h.seen) i.left ∙ entries_are)) i.begins in
      let all = closed_all peer units p ms mid are c (prefix_trans mid.seen q.seen entries grown_on f) in
      None_began all.closings all.are (ap (λ (s : Served). s.end) is) (still ∙ all.owns) same
  called_run peer units p old new q served are (Calling ms mid at u one noted c i is) f =
      let grown_on : IsPrefix at.seen q.seen =
      served_grows disks clocks links spells tells first entries (record {
        session = u;
        action = one;
        link = old;
        feed = no_feed;
        pass = at;
        halt = noted;
      }) new q served is in
      let front : IsPrefix at.seen entries = prefix_trans at.seen q.seen entries grown_on f in
      let before : IsPrefix mid.seen at.seen = readied_grows peer units mid at u (Ok one) noted i in
      let all = closed_all peer units p ms mid are c (prefix_trans mid.seen at.seen entries before front) in
      begun_behind (Roles.Out peer) old new p mid q served all (closings_grow peer units p ms mid c)
      (begins_run peer units mid at u one noted old new q served all.base i is front f)
  called_run peer units p old new q served are (Lost_before ms mid u lost noted c i gives) f =
      let before : IsPrefix mid.seen q.seen = readied_grows peer units mid q u (Err lost) noted i in
      let all = closed_all peer units p ms mid are c (prefix_trans mid.seen q.seen entries before f) in
      begun_behind (Roles.Out peer) old new p mid q served all (closings_grow peer units p ms mid c)
      (lost_run peer units mid q u lost noted old new served all.base i gives f)
  called_run peer units p old new q served are (Too_often ms c many same is) f =
      let all = closed_all peer units p ms q are c f in
      None_began all.closings all.are (ap (λ (s : Served). s.end) is) all.owns same

pub links_are_run : {D C L : Type 0} (disks : DiskView D) (clocks : ClockView C) (links : LinkView L)
    → LinksAreRun disks clocks links
links_are_run disks clocks links spells first entries Roles.In units p old new q served tells are is f =
    listened_run disks clocks links spells tells first entries units p old new q served are is f
links_are_run disks clocks links spells first entries (Roles.Out peer) units p old new q served tells are is f =
    called_run disks clocks links spells tells first entries peer units p old new q served are is f
