-- The list of one session that a worker served: it stands between where the session had its lane and where it was over.
use Rattle.std.proofs.Common.{◌≡◌, ◌<◌, ◌≤◌, ℕ, ◌+◌, Bool, false, Option, Some, None, List, [], ◌∷◌, ◌++◌}
use Rattle.std.proofs.Common.{refl, sym, ap, subst, ◌∙◌, arith}
use Rattle.mta_links.specs.Links.{LinkView}
use Rattle.mta_transfer_rules.specs.Lanes.{Seen}
use Rattle.mta_records.specs.declared.step.Step.{Step}
use Rattle.mta_transfer_laws.specs.Sessions.{SessionEvent, SessionList}
use Rattle.mta_session.specs.State.{is_initiator, State}
use Rattle.mta_session.specs.declared.ask.Ask.{Ask}
use Rattle.mta_session.specs.declared.event.Action.{Action}
use Rattle.mta_session.specs.declared.event.Action.TheVariants as action
use Rattle.mta_session.specs.declared.event.Event.{Event}
use Rattle.mta_session.specs.declared.event.Event.TheVariants as event
use Rattle.mta_session_list_laws.specs.Calls.{action_of, Call}
use Rattle.mta_session_list_laws.specs.Laws.{IsIn}
use Rattle.mta_session_list_laws.specs.Lists.{completed, Initiates, IsListOf, Responds}
use Rattle.mta_session_list_laws.specs.Over.{abort_of, list_over, seen_of, tail_of, untold_of}
use Rattle.mta_session_list_laws.specs.Standing.{ComesTrue}
use Rattle.mta_worker_list_laws.specs.Agreeing.{IsListIn}
use Rattle.mta_worker_list_laws.specs.All.{AllParts}
use Rattle.mta_worker_list_laws.specs.Begun.{Ended, IsAtLink, IsOver, over_as, Stopped, Untold}
use Rattle.mta_worker_list_laws.specs.Histories.{place, whole}
use Rattle.mta_worker_list_laws.specs.Parts.{IsSession}
use Rattle.mta_worker_list_laws.specs.Segments.{IsOne, ListsAs, OnLane, Segment, told_over}
use Rattle.mta_worker_list_laws.proofs.Good.{read_asks}
use Rattle.mta_worker_list_laws.proofs.Whole.{over_in, with_in}
use Rattle.mta_lane_list_laws.specs.Turns.{StandsBetween}
use Rattle.mta_lane_list_laws.proofs.Between.{abort_stand, calls_then, From, seen_more, stand_between, StandUpto}
use Rattle.mta_lane_list_laws.proofs.Between.{tail_stand}

-- ---- how much was seen

-- behind the step by which it has its lane a session has seen no more than when it was over
seen_most : (calls : List Call) (at from mid upto : ℕ) → seen_of from calls ≡ mid → mid ≤ upto → at < upto
    → seen_of (at + 1) calls ≤ upto
seen_most [] at from mid upto e le less = omega (arith, less)
seen_most (c ∷ cs) at from mid upto e le less = omega (arith, e, le)

-- and as much as before its last question
seen_asked : (calls : List Call) (at from mid : ℕ) (q : Ask) → action_of action.Read calls ≡ action.Ask q
    → seen_of from calls ≡ mid → seen_of (at + 1) calls ≡ mid
seen_asked [] at from mid q w e = absurd (read_asks q w)
seen_asked (c ∷ cs) at from mid q w e = e

-- ---- its list

module _ (spells : List ℕ → Bool) (history : List Seen) where
  -- the list of its calls, with what stands behind
  list_then : (t : State) (calls : List Call) (lane : ℕ) (l : SessionList) (tail : List SessionEvent) (upto : ℕ)
      → IsListOf spells history t calls lane l → From (seen_of (l.at + 1) calls) upto tail
      → StandUpto (l.at + 1) upto (l.events ++ tail)
  list_then _ calls _ _ tail upto (Initiates p units at _ has is) base =
      calls_then spells history calls tail (at + 1) (at + 1) upto action.Read (omega arith) is base
  list_then _ _ _ _ tail upto (Responds own units at before calls c step by seen has is) base =
      let last : seen_of (at + 1) calls ≡ seen_of (at + 1) (before ++ c ∷ calls) =
      ap (λ (n : ℕ). seen_of n calls) (sym seen) ∙ sym (seen_more (at + 1) 0 before calls c) in
      calls_then spells history calls tail (at + 1) (at + 1) upto c.turn.action (omega arith) is
      (λ low le. base low (subst (λ (n : ℕ). low ≤ n) last le))

  -- nothing of what came at the link is a step
  link_tail : (low upto : ℕ) (a : Action) (came : Option Event) (aborts : Bool) → IsAtLink a → low ≤ upto
      → StandUpto low upto (untold_of a upto came ++ abort_of aborts)
  link_tail low upto a None aborts at le = abort_stand spells history low upto aborts le
  link_tail low upto (action.Put x) (Some e) aborts at le = abort_stand spells history low upto aborts le
  link_tail low upto action.Read (Some (event.Unit u)) aborts at le = abort_stand spells history low upto aborts le
  link_tail low upto action.Read (Some any4) aborts at le = abort_stand spells history low upto aborts le
  link_tail low upto any2 (Some e) aborts at le = absurd at

  over_stands : (t u : State) (b : Action) (calls : List Call) (lane from mid upto : ℕ) (l : SessionList)
      (o : IsOver spells history mid upto u b) → IsListOf spells history t calls lane l
      → action_of action.Read calls ≡ b → seen_of from calls ≡ mid → l.at < upto
      → StandUpto (l.at + 1) upto (list_over calls l (over_as o)).events
  over_stands t u b calls lane from mid upto l (Ended e is same) list w seen less =
      let most = seen_most calls l.at from mid upto seen (omega (arith, same)) less in
      list_then t calls lane l (tail_of (action_of action.Read calls)
      (record { untold = None; seen = upto; aborts = false })) upto list
      (λ low le. abort_stand spells history low upto false (omega (arith, le, most)))
  over_stands t u b calls lane from mid upto l (Stopped came aborts at may going same) list w seen less =
      let most = seen_most calls l.at from mid upto seen (omega (arith, same)) less in
      list_then t calls lane l
      (tail_of (action_of action.Read calls) (record { untold = came; seen = upto; aborts = aborts })) upto list
      (λ low le. link_tail low upto (action_of action.Read calls) came aborts (subst IsAtLink (sym w) at)
      (omega (arith, le, most)))
  over_stands t u b calls lane from mid upto l (Untold q y aborts is comes answers going) list w seen less =
      let last : seen_of (l.at + 1) calls ≡ mid = seen_asked calls l.at from mid q (w ∙ is) seen in
      let asked : ComesTrue spells history mid upto u.phase (action_of action.Read calls) (event.Reply y) =
      subst (λ (a : Action). ComesTrue spells history mid upto u.phase a (event.Reply y)) (sym (w ∙ is)) comes in
      list_then t calls lane l
      (tail_of (action_of action.Read calls) (record { untold = Some (event.Reply y); seen = upto; aborts = aborts }))
      upto list
      (λ low le. tail_stand spells history low mid upto u.phase aborts (action_of action.Read calls)
      (Some (event.Reply y)) (omega (arith, le, last)) asked)

-- ---- a session

module _ {L : Type 0} (links : LinkView L) (spells : List ℕ → Bool) (first entries : List Step) (low : ℕ)
    (all : AllParts links spells first entries low) (lane size window : ℕ) (initiator : Bool) where
  abbrev history : List Seen
  history = whole first entries

  pub record OneList (on : OnLane) (upto : ℕ) : Type 0 where
    pub list : SessionList
    pub is : IsListIn links spells first entries all.parts lane size window initiator list
    pub at_is : list.at ≡ on.at
    pub stands : StandsBetween lane list.at upto list
    pub has : (y : SessionEvent) → IsIn y on.events → IsIn y list.events

  pub one_list : (s : Segment) (x : IsSession links spells first entries s) (on : OnLane) → IsOne s all.parts
      → s.list ≡ Some on → on.lane ≡ lane → is_initiator x.new.side ≡ initiator → on.at < place first x.over
      → OneList on (place first x.over)
  one_list s x on one has lane_is side less = record {
    list = whole_list;
    is = record {
      part = s;
      one = one;
      session = x;
      side = side;
      on = on;
      has = has;
      lane_is = lane_is;
      listed = listed;
      list = m;
      behind = refl;
      list_is = refl;
    };
    at_is = at;
    stands = subst (λ (n : ℕ). StandsBetween n m.at upto whole_list) lane_is
        (stand_between history on.lane size window upto (is_initiator x.new.side) m
        (subst (λ (n : ℕ). StandUpto (n + 1) upto m.events) (sym (at ∙ listed.2)) there));
    has = λ y i.
        with_in history on.lane y m.events _ _
        (over_in spells history mid upto u b x.calls l m x.ran.done.over y x.ran.done.leads.wanted refl
        (subst (λ (ys : List SessionEvent). IsIn y ys) listed.3 i));
  } where
    u : State
    u = x.ran.done.last

    b : Action
    b = x.ran.done.wanted

    mid : ℕ
    mid = place first x.ran.done.mid

    upto : ℕ
    upto = place first x.over

    listed : ListsAs spells history x.new x.calls (told_over x.ran.done.over) (Some on)
    listed = subst (ListsAs spells history x.new x.calls (told_over x.ran.done.over)) has x.of_it.list

    l : SessionList
    l = listed.0

    m : SessionList
    m = list_over x.calls l (over_as x.ran.done.over)

    whole_list : SessionList
    whole_list = completed history on.lane size window (is_initiator x.new.side) m

    at : m.at ≡ on.at
    at = sym listed.2

    there : StandUpto (l.at + 1) upto m.events
    there =
        over_stands spells history x.new u b x.calls on.lane (place first x.begun) mid upto l x.ran.done.over listed.1
        x.ran.done.leads.wanted x.ran.done.leads.seen (subst (λ (n : ℕ). n < upto) listed.2 less)
