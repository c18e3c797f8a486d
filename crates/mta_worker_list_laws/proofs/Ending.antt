-- How a session that was served is over, and what its list has behind its last call.
use Rattle.std.proofs.Common.{◌≡◌, ℕ, ◌+◌, ◌-◌, ◌≤◌, Bool, true, false, List, [], ◌∷◌, ◌++◌, length, Option, None, Some}
use Rattle.std.proofs.Common.{inl, inr, refl, sym, ap, subst, ◌∙◌, append-nil, arith}
use mathlib.Core.List.{IsPrefix}
use Rattle.mta_edge.specs.Causes.{Rose}
use Rattle.mta_edge.specs.Views.{ClockView, DiskView}
use Rattle.mta_links.specs.Links.{LinkView}
use Rattle.mta_links.specs.Links as talks
use Rattle.mta_units.specs.Feed.{Feed, no_feed}
use Rattle.mta_units.specs.declared.unit.Unit.{Unit as AnyUnit}
use Rattle.mta_units.specs.declared.unit.Unit.TheVariants as unit
use Rattle.mta_session_run.specs.Carried.{Carried}
use Rattle.mta_session_run.proofs.Talks.{carried_front, leads_map}
use Rattle.mta_transfer_rules.specs.Lanes.{Seen}
use Rattle.mta_records.specs.declared.lane.LaneRole.TheVariants.{Responder}
use Rattle.mta_records.specs.declared.step.Step.{Step}
use Rattle.mta_histories.specs.History.{after, IsHistory}
use Rattle.mta_session.specs.Fits.{Answers as SessionAnswers}
use Rattle.mta_session.specs.Groups.{has_turned}
use Rattle.mta_session.specs.State.{State as Session}
use Rattle.mta_session.specs.declared.ask.Ask.{Ask}
use Rattle.mta_session.specs.declared.ask.Reply.{Reply}
use Rattle.mta_session.specs.declared.event.Event.{Event}
use Rattle.mta_session.specs.declared.event.Event.TheVariants as event
use Rattle.mta_session.specs.declared.event.Action.{Action}
use Rattle.mta_session.specs.declared.event.Action.TheVariants as action
use Rattle.mta_session_run.specs.Running.{HasDone, IsShort, IsUndone, Not_done, Not_put, Not_read, Not_told}
use Rattle.mta_session_list_laws.specs.Calls.{Call, StepOn}
use Rattle.mta_session_list_laws.specs.Standing.{ComesTrue}
use Rattle.mta_session_list_laws.proofs.Found.{never}
use Rattle.mta_shared.specs.Counts.{row}
use Rattle.mta_shared.specs.Held.{Held}
use Rattle.mta_shared.specs.declared.history.Base.{Base}
use Rattle.mta_shared.proofs.Fronts.{prefix_length, prefix_trans}
use Rattle.mta_spool.specs.Shown.{Shown}
use Rattle.mta_stations.specs.declared.end.Halt.{Halt}
use Rattle.mta_worker.specs.Serving.{At, Cut, Given_up, GivesUp, IsServed, PutsAbort, Stopped, To_its_end, Unput}
use Rattle.mta_worker.specs.Serving.{Whole}
use Rattle.mta_worker.specs.Turns.{At_look, At_reply, IsLost, IsLostAt, IsLostLooking, noted, told_reply}
use Rattle.mta_worker.specs.declared.session.Served.{Served}
use Rattle.mta_worker.specs.declared.telling.Lost.{Lost}
use Rattle.mta_worker.specs.declared.telling.Lost.TheVariants as losts
use Rattle.mta_worker_list_laws.specs.Begun.{at_first, HasAborted, IsAtLink, IsDone, IsGivenOver, IsOver, LeavesLink}
use Rattle.mta_worker_list_laws.specs.Begun.{made_over}
use Rattle.mta_worker_list_laws.specs.Begun as over
use Rattle.mta_worker_list_laws.specs.Histories.{AreEntries, TellsApdus, place, whole}
use Rattle.mta_worker_list_laws.specs.Leads.{AreCarried, entry_at, Leads, made_by, made_in}
use Rattle.mta_worker_list_laws.proofs.Calm.{is_looking}
use Rattle.mta_worker_list_laws.proofs.Joining.{carried_more, leads_more, no_calls, none_carried, owns_more}
use Rattle.mta_worker_list_laws.proofs.Going.{answers_grow, goes_base, goes_grow, goes_led, Reaches, run_ran}
use Rattle.mta_worker_list_laws.proofs.Going.{state_then}
use Rattle.mta_worker_list_laws.proofs.Going.{since_knows, turn_grows}
use Rattle.mta_worker_list_laws.specs.Roles.{AreGiven, WasOpenAs, WhereBegun}
use Rattle.mta_worker_list_laws.proofs.Calling.{look_begins, reply_theirs}
use Rattle.mta_worker_list_laws.proofs.Given.{given_more, looks_given, reply_given}
use Rattle.mta_worker_list_laws.proofs.Heard.{look_answered, looks_mind, Minds, reply_answers, reply_minds}
use Rattle.mta_worker_list_laws.proofs.Known.{Knows}
use Rattle.mta_worker_list_laws.proofs.Turns.{calls_at, IsQuiet, look_comes, look_tells, looks_lead, looks_quiet}
use Rattle.mta_worker_list_laws.proofs.Turns.{one_call}
use Rattle.mta_worker_list_laws.proofs.Turns.{history_then, quiet_first, reply_comes, reply_entries, reply_stands}
use Rattle.mta_worker_list_laws.proofs.Turns.{Stands}
use Rattle.mta_worker_list_laws.proofs.Waits.{Waits}

-- behind other calls
pub done_behind : {L : Type 0} (links : LinkView L) (spells : List ℕ → Bool) (first entries : List Step) (x y : At L)
    (calls cs : List Call) (q : Held Step) (new : L)
    → Leads spells (whole first entries) (place first x.pass) x.session x.action calls (place first y.pass) y.session
    y.action
    → y.pass.own ≡ x.pass.own ++ made_in (length first) x.action calls
    → AreCarried links x.action calls x.link x.feed y.link y.feed → AreGiven (first ++ entries) calls
    → IsDone links spells first entries y cs q new → IsDone links spells first entries x (calls ++ cs) q new
done_behind links spells first entries x y calls cs q new leads owns carried given d = record {
  mid = d.mid;
  last = d.last;
  wanted = d.wanted;
  leads =
      leads_more spells (whole first entries) calls cs (place first x.pass) (place first y.pass) (place first d.mid)
      x.session y.session d.last x.action y.action d.wanted leads d.leads;
  owns =
      owns_more calls cs (length first) x.action y.action x.pass.own y.pass.own d.mid.own leads.wanted owns d.owns;
  over = d.over;
  owns_over = d.owns_over;
  left = d.left;
  feed = d.feed;
  carried =
      carried_more links calls cs x.action y.action x.link y.link d.left x.feed y.feed d.feed leads.wanted carried
      d.carried;
  leaves = d.leaves;
  given = given_more (first ++ entries) calls cs given d.given;
  given_over = d.given_over;
}

-- ---- a session that is given up

-- the Abort of its worker, or none
pub record Gave_up {L : Type 0} (links : LinkView L) (turned : Bool) (old new : L) : Type 0 where
  pub aborts : Bool
  pub going : aborts ≡ true → turned ≡ false
  pub aborted : HasAborted links aborts old new

none_put : {L : Type 0} (links : LinkView L) (turned : Bool) (old new : L) → links.talk new ≡ links.talk old
    → Gave_up links turned old new
none_put links turned old new same = record { aborts = false; going = λ e. absurd (never e); aborted = same }

abort_put : {L : Type 0} (links : LinkView L) (old new : L) → PutsAbort links (unit.Abort 0) old new
    → Gave_up links false old new
abort_put links old new (Whole all) = record { aborts = true; going = λ e. refl; aborted = inl all }
abort_put links old new (Cut front rose) =
    record { aborts = true; going = λ e. refl; aborted = inr (front, rose) }
abort_put links old new (Unput same) = none_put links false old new same

gave_by : {L : Type 0} (links : LinkView L) (turned : Bool) (halt : Option Halt) (old new : L) (served : Served)
    → GivesUp links losts.Memory turned halt old new served → Gave_up links turned old new
gave_by {L} links true halt old new served g =
    none_put links true old new (ap (λ (z : L). links.talk z) (g.silent refl))
gave_by links false halt old new served g = abort_put links old new (g.says refl)

-- where memory was wanted
pub gave_up : {L : Type 0} (links : LinkView L) (lost : Lost) (turned : Bool) (halt : Option Halt) (old new : L)
    (served : Served) → GivesUp links lost turned halt old new served → lost ≡ losts.Memory
    → Gave_up links turned old new
gave_up links lost turned halt old new served g e =
    gave_by links turned halt old new served
    (subst (λ (z : Lost). GivesUp links z turned halt old new served) e g)

-- a reply to the question is not told for want of memory alone
memory_lost : (t : Session) (x : Reply) (lost : Lost) → SessionAnswers t (event.Reply x) → IsLostAt t x lost
    → lost ≡ losts.Memory
memory_lost t x losts.Memory answers why = refl
memory_lost t x losts.Lane answers why = absurd (why answers)

-- a reply that is not told, and the entry that it tells
pub record Untold_at {L : Type 0} (links : LinkView L) (spells : List ℕ → Bool) (history : List Seen)
    (n from upto : ℕ) (u : Session) (b : Action) (q : Ask) (x : Reply) (old : L) (fed : Feed) (new : L)
    : Type 0 where
  pub over : IsOver spells history from upto u b
  pub made : made_over n over ≡ made_by n upto (action.Ask q) (event.Reply x)
  pub leaves : LeavesLink links over old fed new
  pub given : (steps : List Step) → WhereBegun (λ lane. WasOpenAs Responder lane steps) q x → IsGivenOver steps over

untold : {L : Type 0} (links : LinkView L) (spells : List ℕ → Bool) (history : List Seen) (n from upto : ℕ)
    (u : Session) (b : Action) (q : Ask) (x : Reply) (old : L) (fed : Feed) (new : L) → b ≡ action.Ask q
    → SessionAnswers u (event.Reply x)
    → ComesTrue spells history from upto u.phase (action.Ask q) (event.Reply x)
    → Gave_up links (has_turned u.phase) old new → Untold_at links spells history n from upto u b q x old fed new
untold links spells history n from upto u b q x old fed new asks answers so gave = record {
  over = over.Untold q x gave.aborts asks so answers gave.going;
  made = refl;
  leaves = gave.aborted;
  given = λ steps g. g;
}

-- ---- a session that was stopped at its link

undone_at : {L : Type 0} (links : LinkView L) (b : Action) (old : L) (fed : Feed) (new : L)
    → IsUndone links b old fed new → IsAtLink b
undone_at links b old fed new (Not_put x is same) = subst (λ (z : Action). IsAtLink z) (sym is) tt
undone_at links b old fed new (Not_read is front) = subst (λ (z : Action). IsAtLink z) (sym is) tt

done_at : {L : Type 0} (links : LinkView L) (b : Action) (old : L) (fed : Feed) (e : Event) (new : L) (feed : Feed)
    → HasDone links b old fed e new feed → IsAtLink b
done_at links (action.Ask q) old fed e new feed h = absurd h
done_at links (action.Finish y) old fed e new feed h = absurd h
done_at links any1 old fed e new feed h = tt

-- what came of its last action, and that no entry is made then
pub record Stopped_at {L : Type 0} (links : LinkView L) (spells : List ℕ → Bool) (history : List Seen)
    (n from upto : ℕ) (u : Session) (b : Action) (old : L) (fed : Feed) (new : L) : Type 0 where
  pub over : IsOver spells history from upto u b
  pub made : made_over n over ≡ []
  pub leaves : LeavesLink links over old fed new
  pub given : (steps : List Step) → IsGivenOver steps over

pub stopped_at : {L : Type 0} (links : LinkView L) (spells : List ℕ → Bool) (history : List Seen) (n from upto : ℕ)
    (u : Session) (b : Action) (old : L) (fed : Feed) (mid new : L) → upto ≡ from
    → IsShort links u b old fed mid → Gave_up links (has_turned u.phase) mid new
    → Stopped_at links spells history n from upto u b old fed new
stopped_at links spells history n from upto u b old fed mid new same (Not_done undone) gave = record {
  over = over.Stopped None gave.aborts (undone_at links b old fed mid undone) tt gave.going same;
  made = refl;
  leaves = (mid, undone, gave.aborted);
  given = λ steps. tt;
}
stopped_at links spells history n from upto u b old fed mid new same (Not_told e feed done answers) gave = record {
  over = over.Stopped (Some e) gave.aborts (done_at links b old fed e mid feed done) answers gave.going same;
  made = refl;
  leaves = (mid, (feed, done), gave.aborted);
  given = λ steps. tt;
}

-- nothing was read yet
pub none_read : {L : Type 0} (links : LinkView L) (u : Session) (old : L) (fed : Feed)
    → IsShort links u action.Read old fed old
none_read links u old fed =
    Not_done (Not_read refl (λ since us octets l. leads_map (λ f g c. carried_front us octets fed f g c) l))

-- a new session that was told nothing, since there was no memory for its first call
pub done_at_once : {L : Type 0} (links : LinkView L) (spells : List ℕ → Bool) (first entries : List Step) (t : Session)
    (old : L) (p : Held Step) (new : L) → Gave_up links (has_turned t.phase) old new
    → IsDone links spells first entries (at_first t old p) [] p new
done_at_once links spells first entries t old p new gave =
    let end = stopped_at links spells (whole first entries) (length first) (place first p) (place first p) t action.Read
    old no_feed old new refl (none_read links t old no_feed) gave in
    record {
      mid = p;
      last = t;
      wanted = action.Read;
      leads = no_calls spells (whole first entries) (place first p) t action.Read;
      owns = sym (append-nil p.own);
      over = end.over;
      owns_over = sym (append-nil p.own) ∙ ap (λ (ns : List ℕ). p.own ++ ns) (sym end.made);
      left = old;
      feed = no_feed;
      carried = none_carried links [] action.Read old no_feed refl refl;
      leaves = end.leaves;
      given = tt;
      given_over = end.given (first ++ entries);
    }

module _ {D C L : Type 0} (disks : DiskView D) (clocks : ClockView C) (links : LinkView L) (spells : List ℕ → Bool)
    (tells : TellsApdus spells) (first entries : List Step) where
  abbrev history : List Seen
  history = whole first entries

  abbrev long : Shown D C → ℕ
  long s = length first + length s.entries

  abbrev Done : At L → List Call → Held Step → L → Type 0
  Done x calls q new = IsDone links spells first entries x calls q new

  -- all that is done from one point on
  abbrev pub Closed : At L → Held Step → L → Type 0
  Closed x q new = (calls : List Call) × Done x calls q new

  module _ (possible : IsHistory (first ++ entries)) where
    -- The session is given up at a look, which it is not told. No entry is made then.
    pub looking_closed : (s : Shown D C) (t : Session) (a : Action) (halt halt' : Option Halt) (u : Session)
        (lost : Lost) (x : At L) (new : L) → x.session ≡ t → x.action ≡ a → x.pass.seen ≡ s.entries
        → Stands disks clocks spells tells first entries possible s → Minds disks clocks a t s.current
        → IsLostLooking disks clocks s t a halt u halt' lost
        → (lost ≡ losts.Memory → Gave_up links (has_turned u.phase) x.link new) → Closed x x.pass new
    looking_closed s t a halt halt' u lost x new here wants sees st m l gives = (
      calls,
      record {
        mid = x.pass;
        last = u;
        wanted = action.Ask l.question;
        leads =
            subst (λ (z : Session). Leads spells history (place first x.pass) z x.action calls (place first x.pass) u
            (action.Ask l.question)) (sym here)
            (subst (λ (b : Action). Leads spells history (place first x.pass) t b calls (place first x.pass) u
            (action.Ask l.question)) (sym wants) looks);
        owns =
            sym (append-nil x.pass.own)
            ∙ ap (λ (ns : List ℕ). x.pass.own ++ ns) (sym quiet.made)
            ∙ ap (λ (b : Action). x.pass.own ++ made_in (length first) b calls) (sym wants);
        over = end.over;
        owns_over =
            sym (append-nil x.pass.own) ∙ ap (λ (ns : List ℕ). x.pass.own ++ ns) (sym (end.made ∙ none));
        left = x.link;
        feed = x.feed;
        carried =
            subst (λ (b : Action). AreCarried links b calls x.link x.feed x.link x.feed) (sym wants)
            (none_carried links calls a x.link x.feed quiet.got quiet.put);
        leaves = end.leaves;
        given = looks_given disks clocks (first ++ entries) l.looked.turns s t a u (action.Ask l.question) (long s)
            l.looked.looks;
        given_over =
            end.given (first ++ entries)
            (look_begins (λ lane. WasOpenAs Responder lane (first ++ entries)) l.question l.answer l.is_look);
      },
    )
      where
        calls : List Call
        calls = calls_at (long s) l.looked.turns

        there : long s ≡ place first x.pass
        there = ap (λ (xs : List Step). length first + length xs) (sym sees)

        quiet : IsQuiet disks clocks spells tells first entries possible a calls []
        quiet = looks_quiet disks clocks spells tells first entries possible l.looked.turns s t a u
            (action.Ask l.question) (long s) l.looked.looks

        looks : Leads spells history (place first x.pass) t a calls (place first x.pass) u (action.Ask l.question)
        looks =
            subst (λ (n : ℕ). Leads spells history n t a calls n u (action.Ask l.question)) there
            (looks_lead disks clocks spells tells first entries possible l.looked.turns s t a u (action.Ask l.question)
            st l.looked.looks)

        answers : SessionAnswers u (event.Reply l.answer)
        answers =
            look_answered disks clocks spells tells first entries possible l.question u l.answer s st
            (looks_mind disks clocks spells tells first entries possible l.looked.turns s t a u (action.Ask l.question)
            st m l.looked.looks) l.is_look l.answered

        end : Untold_at links spells history (length first) (place first x.pass) (place first x.pass) u
            (action.Ask l.question) l.question l.answer x.link x.feed new
        end =
            subst (λ (n : ℕ). Untold_at links spells history (length first) n n u (action.Ask l.question) l.question
            l.answer x.link x.feed new)
            there
            (untold links spells history (length first) (long s) (long s) u (action.Ask l.question) l.question l.answer
            x.link x.feed new refl answers
            (look_comes disks clocks spells tells first entries possible l.question u l.answer s st l.is_look
            l.answered) (gives (memory_lost u l.answer lost answers l.cause)))

        none : made_by (length first) (place first x.pass) (action.Ask l.question) (event.Reply l.answer) ≡ []
        none =
            ap (λ (o : Option StepOn). entry_at (length first) (place first x.pass) o)
            (look_tells l.question l.answer l.is_look)

    -- it is given up in the turn for its question
    pub turn_closed : (q : Ask) (old new : Shown D C) (halt : Option Halt) (u : Session) (lost : Lost) (x : At L)
        (pass : Held Step) (link : L) → x.action ≡ action.Ask q → old.current ≡ after (first ++ old.entries)
        → IsPrefix new.entries entries → length x.pass.seen ≤ length old.entries → pass.seen ≡ new.entries
        → pass.own ≡ x.pass.own ++ row (length old.entries) (length new.entries - length old.entries)
        → is_looking x.session.phase ≡ false → Minds disks clocks (action.Ask q) x.session old.current
        → IsLost disks clocks q old x.session x.halt new u halt lost
        → (lost ≡ losts.Memory → Gave_up links (has_turned u.phase) x.link link) → Closed x pass link
    turn_closed q old new halt u lost x pass link asks state f shorter sees owned calm m (At_reply y r why same is)
        gives = (
          [],
          record {
            mid = x.pass;
            last = x.session;
            wanted = x.action;
            leads = no_calls spells history (place first x.pass) x.session x.action;
            owns = sym (append-nil x.pass.own);
            over = end.over;
            owns_over = owned ∙ ap (λ (ns : List ℕ). x.pass.own ++ ns) (entries_are ∙ sym end.made);
            left = x.link;
            feed = x.feed;
            carried = none_carried links [] x.action x.link x.feed refl refl;
            leaves = end.leaves;
            given = tt;
            given_over =
                end.given (first ++ entries)
                (reply_theirs disks clocks spells tells first entries possible q x.session y old new state f m r);
          },
        )
      where
        there : long new ≡ place first pass
        there = ap (λ (xs : List Step). length first + length xs) (sym sees)

        answers : SessionAnswers x.session (event.Reply y)
        answers = reply_answers disks clocks spells tells first entries possible q x.session y old new state f m r

        gave : Gave_up links (has_turned x.session.phase) x.link link
        gave =
            subst (λ (z : Session). Gave_up links (has_turned z.phase) x.link link) same
            (gives (memory_lost x.session y lost answers why))

        end : Untold_at links spells history (length first) (place first x.pass) (place first pass) x.session x.action
            q y x.link x.feed link
        end =
            untold links spells history (length first) (place first x.pass) (place first pass) x.session x.action q y
            x.link x.feed link asks answers
            (subst (λ (n : ℕ). ComesTrue spells history (place first x.pass) n x.session.phase (action.Ask q)
            (event.Reply y)) there
            (reply_comes disks clocks spells tells first entries possible q x.session y old new (place first x.pass)
            state
            f (omega (arith, shorter)) calm r)) gave

        entries_are : row (length old.entries) (length new.entries - length old.entries)
            ≡ made_by (length first) (place first pass) (action.Ask q) (event.Reply y)
        entries_are =
            reply_entries disks clocks spells tells first entries possible q x.session y old new state f r
            ∙ ap (λ (n : ℕ). made_by (length first) n (action.Ask q) (event.Reply y)) there
    turn_closed q old new halt u lost x pass link asks state f shorter sees owned calm m (At_look y v w r turn l)
        gives =
        let rest = looking_closed new v w (noted x.halt y) halt u lost behind link refl refl sees
        (reply_stands disks clocks spells tells first entries possible q x.session y old new state f r)
        (reply_minds disks clocks spells tells first entries possible q x.session y w v old new state f m r turn) l
        gives in (
          call ∷ [] ++ rest.0,
          done_behind links spells first entries x behind (call ∷ []) rest.0 pass link led owns carried
              (reply_given disks clocks spells tells first entries possible q x.session y w v old new (long new) state f
              m r turn) rest.1,
        )
      where
        behind : At L
        behind = record {
          session = v;
          action = w;
          link = x.link;
          feed = x.feed;
          pass = pass;
          halt = x.halt;
        }

        call : Call
        call = record { turn = told_reply x.session y w v; seen = long new }

        quiet : IsQuiet disks clocks spells tells first entries possible (action.Ask q) (call ∷ [])
            (row (length old.entries) (length new.entries - length old.entries))
        quiet = quiet_first disks clocks spells tells first entries possible q x.session v w y old new [] state f r
            (record { got = refl; put = refl; made = refl })

        led : Leads spells history (place first x.pass) x.session x.action (call ∷ []) (place first pass) v w
        led =
            subst (λ (xs : List Step). Leads spells history (place first x.pass) x.session x.action (call ∷ [])
            (length first + length xs) v w) (sym sees)
            (subst (λ (b : Action). Leads spells history (place first x.pass) x.session b (call ∷ []) (long new) v w)
            (sym asks)
            (one_call disks clocks spells tells first entries possible q x.session v w y old new (place first x.pass)
            state f (omega (arith, shorter)) calm r turn))

        owns : pass.own ≡ x.pass.own ++ made_in (length first) x.action (call ∷ [])
        owns =
            owned ∙ ap (λ (ns : List ℕ). x.pass.own ++ ns) (sym quiet.made)
            ∙ ap (λ (b : Action). x.pass.own ++ made_in (length first) b (call ∷ [])) (sym asks)

        carried : AreCarried links x.action (call ∷ []) x.link x.feed x.link x.feed
        carried =
            subst (λ (b : Action). AreCarried links b (call ∷ []) x.link x.feed x.link x.feed) (sym asks)
            (none_carried links (call ∷ []) (action.Ask q) x.link x.feed quiet.got quiet.put)

  lost_grows : (q : Ask) (t : Session) (halt halt' : Option Halt) (u : Session) (lost : Lost) (s s' : Shown D C)
      → IsLost disks clocks q s t halt s' u halt' lost → IsPrefix s.entries s'.entries
  lost_grows q t halt halt' u lost s s' (At_reply x r why same is) = answers_grow disks clocks links q t s s' x r
  lost_grows q t halt halt' u lost s s' (At_look x v w r turn l) = answers_grow disks clocks links q t s s' x r

  -- the pass has seen no less then
  pub served_grows : (x : At L) (link : L) (pass : Held Step) (served : Served)
      → IsServed disks clocks links x link pass served → IsPrefix x.pass.seen pass.seen
  served_grows x link pass served (To_its_end zs y e g fin at same is halt) =
      subst (λ (h : Held Step). IsPrefix x.pass.seen h.seen) (sym same) (goes_grow disks clocks links x zs y g)
  served_grows x link pass served (Stopped zs y t at g h same gives) =
      subst (λ (z : Held Step). IsPrefix x.pass.seen z.seen) (sym same) (goes_grow disks clocks links x zs y g)
  served_grows x link pass served (Given_up zs y q t halt lost g asks i gives) =
      prefix_trans x.pass.seen y.pass.seen pass.seen (goes_grow disks clocks links x zs y g)
      (turn_grows disks clocks (λ s s'. IsLost disks clocks q s y.session y.halt s' t halt lost) y.pass pass
      (λ s s'. lost_grows q y.session y.halt halt t lost s s') i)

  -- behind what was done, where that is known
  behind_led : (x y : At L) (pass : Held Step) (link : L)
      → Reaches disks clocks links spells tells first entries x y → Closed y pass link → Closed x pass link
  behind_led x y pass link led c = (
    led.calls ++ c.0,
    done_behind links spells first entries x y led.calls c.0 pass link led.leads led.owns led.carried led.given c.1,
  )

  -- A session that is served is done with from there on.
  pub served_closed : (x : At L) (link : L) (pass : Held Step) (served : Served) → AreEntries x.pass.base first entries
      → Waits x.action x.session → is_looking x.session.phase ≡ false
      → Knows x.session (after (first ++ x.pass.seen)) → IsServed disks clocks links x link pass served
      → IsPrefix pass.seen entries → Closed x pass link
  served_closed x link pass served are w calm k (To_its_end zs y e g fin at same is halt) f =
      let here : IsPrefix y.pass.seen entries = subst (λ (h : Held Step). IsPrefix h.seen entries) same f in
      let led = goes_led disks clocks links spells tells first entries x zs y are w calm k g here in (
        led.calls,
        record {
          mid = y.pass;
          last = y.session;
          wanted = y.action;
          leads = led.leads;
          owns = led.owns;
          over = over.Ended e fin (ap (λ (h : Held Step). place first h) same);
          owns_over = ap (λ (h : Held Step). h.own) same ∙ sym (append-nil y.pass.own);
          left = y.link;
          feed = y.feed;
          carried = led.carried;
          leaves = at;
          given = led.given;
          given_over = tt;
        },
      )
  served_closed x link pass served are w calm k (Stopped zs y t at g h same gives) f =
      let here : IsPrefix y.pass.seen entries = subst (λ (z : Held Step). IsPrefix z.seen entries) same f in
      let led = goes_led disks clocks links spells tells first entries x zs y are w calm k g here in
      let ran = run_ran spells history (length first) (Rose (links.faults y.link) (links.faults at))
      (place first y.pass)
      y.session y.action h.turns h.units h.octets t h.last led.waits led.still h.runs in
      let end = stopped_at links spells history (length first) (place first y.pass) (place first pass) t h.last h.mid
      h.mid_fed at link (ap (λ (z : Held Step). place first z) same) h.short
      (gave_up links losts.Memory (has_turned t.phase) y.halt at link served gives refl) in
      behind_led x y pass link led (
        ran.calls,
        record {
          mid = y.pass;
          last = t;
          wanted = h.last;
          leads = ran.leads;
          owns = sym (append-nil y.pass.own) ∙ ap (λ (ns : List ℕ). y.pass.own ++ ns) (sym ran.made);
          over = end.over;
          owns_over =
              ap (λ (z : Held Step). z.own) same ∙ sym (append-nil y.pass.own)
              ∙ ap (λ (ns : List ℕ). y.pass.own ++ ns) (sym end.made);
          left = h.mid;
          feed = h.mid_fed;
          carried = record {
            octets = h.octets;
            put = ran.put;
            carried = λ since us os l.
                subst (λ (vs : List AnyUnit). talks.Leads (Carried (us ++ vs) (os ++ h.octets) h.mid_fed) since
                (links.talk h.mid)) (sym ran.got) (h.carried since us os l);
          };
          leaves = end.leaves;
          given = ran.given (first ++ entries);
          given_over = end.given (first ++ entries);
        },
      )
  served_closed x link pass served are w calm k (Given_up zs y q t halt lost g asks i gives) f =
      let left : pass.seen ≡ i.after.entries = ap (λ (h : Held Step). h.seen) i.left in
      let owned : pass.own
      ≡ y.pass.own ++ row (length i.before.entries) (length i.after.entries - length i.before.entries) =
      ap (λ (h : Held Step). h.own) i.left in
      let after_front : IsPrefix i.after.entries entries = subst (λ (xs : List Step). IsPrefix xs entries) left f in
      let grown_on : IsPrefix y.pass.seen pass.seen =
      turn_grows disks clocks (λ s s'. IsLost disks clocks q s y.session y.halt s' t halt lost) y.pass pass
      (λ s s'. lost_grows q y.session y.halt halt t lost s s') i in
      let here : IsPrefix y.pass.seen entries = prefix_trans y.pass.seen pass.seen entries grown_on f in
      let led = goes_led disks clocks links spells tells first entries x zs y are w calm k g here in
      let base : y.pass.base ≡ x.pass.base = goes_base disks clocks links x zs y g in
      let are_then : AreEntries y.pass.base first entries =
      subst (λ (b : Base). AreEntries b first entries) (sym base) are in
      let state = state_then disks clocks i.before y.pass.base first entries i.keeps are_then in
      let shorter : length y.pass.seen ≤ length i.before.entries =
      prefix_length y.pass.seen i.before.entries i.begins in
      let before : IsPrefix i.before.entries entries =
      prefix_trans i.before.entries i.after.entries entries
      (lost_grows q y.session y.halt halt t lost i.before i.after i.did) after_front in
      let minds : Minds disks clocks (action.Ask q) y.session i.before.current = record {
        waits = subst (λ (b : Action). Waits b y.session) asks led.waits;
        knows =
            since_knows y.session first y.pass.seen i.before i.begins
            (history_then disks clocks spells tells first entries are.possible i.before before) state led.still
            led.knows;
      } in
      behind_led x y pass link led
      (turn_closed are.possible q i.before i.after halt t lost y pass link asks state after_front shorter left owned
      led.still minds i.did (gave_up links lost (has_turned t.phase) halt y.link link served gives))
