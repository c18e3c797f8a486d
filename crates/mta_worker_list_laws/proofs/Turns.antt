-- What is done for a session in one turn of the lock are calls of it that the history has.
use Rattle.std.proofs.Common.{◌≡◌, ℕ, ◌+◌, ◌-◌, ◌≤◌, Bool, List, [], ◌∷◌, ◌++◌, length, take, Option, None, Some}
use Rattle.std.proofs.Common.{false, refl, sym, ap, subst, ◌∙◌, append_assoc, append-nil, arith, true≢false}
use Rattle.std.specs.Prelude.{slice_get}
use Rattle.std.proofs.lemmas.List.{length-append}
use mathlib.Core.List.{IsPrefix}
use Rattle.mta_edge.specs.Views.{ClockView, DiskView}
use Rattle.mta_transfer_rules.specs.Lanes.{Seen}
use Rattle.mta_records.specs.declared.step.Step.{Step}
use Rattle.mta_histories.specs.Lanes.{State}
use Rattle.mta_histories.specs.Classes.{class_of}
use Rattle.mta_histories.specs.History.{after, after_step, IsHistory, IsPossible, when}
use Rattle.mta_histories.specs.Seen.{annotated, seen_of}
use Rattle.mta_session.specs.State.{State as Session}
use Rattle.mta_session.specs.declared.ask.Ask.{Ask}
use Rattle.mta_session.specs.declared.ask.Ask.TheVariants as ask
use Rattle.mta_session.specs.declared.ask.Reply.{Reply}
use Rattle.mta_session.specs.declared.event.Event.{Event}
use Rattle.mta_session.specs.declared.event.Event.TheVariants as event
use Rattle.mta_session.specs.declared.event.Action.{Action}
use Rattle.mta_session.specs.declared.event.Action.TheVariants as action
use Rattle.mta_session.specs.declared.phase.Phase.{Phase}
use Rattle.mta_session.specs.declared.phase.Phase.TheVariants as phase
use Rattle.mta_session_laws.specs.Runs.{IsTurn, Turn}
use Rattle.mta_session_run.specs.Running.{units_of}
use Rattle.mta_session_list_laws.specs.Calls.{Call, StepOn, step_told}
use Rattle.mta_shared.specs.Counts.{row}
use Rattle.mta_session_list_laws.specs.Standing.{ComesTrue, IsInTurn, IsTrue, StandsAs}
use Rattle.mta_session_list_laws.specs.Standing.{Stands as StandsThere}
use Rattle.mta_spool.specs.Shown.{Shown}
use Rattle.mta_stations.specs.declared.end.Halt.{Halt}
use Rattle.mta_worker.specs.Answers.{Answered}
use Rattle.mta_worker.specs.Turns.{HasAnswered, IsLook, IsLooked, Looks, Replied, told_reply}
use Rattle.mta_worker_list_laws.specs.Histories.{TellsApdus, whole}
use Rattle.mta_worker_list_laws.specs.Leads.{entry_at, got_in, Leads, made_by, made_in, PutBy, PutIn}
use Rattle.mta_worker_list_laws.proofs.Calm.{is_looking}
use Rattle.mta_worker_list_laws.proofs.Annotating.{after_more, front_history, length_seen, possible_behind, seen_behind}
use Rattle.mta_worker_list_laws.proofs.Annotating.{seen_front}
use Rattle.mta_worker_list_laws.proofs.Joining.{leads_more}
use Rattle.mta_worker_list_laws.proofs.Making.{Makes, WasPossible}
use Rattle.mta_worker_list_laws.proofs.Telling.{reply_made}
use Rattle.mta_worker_list_laws.proofs.Truth.{answer_true, reply_true}

-- ---- looks that are answered in the turn of a Bind

in_same_turn : (p : Phase) (n : ℕ) → IsInTurn p n n
in_same_turn phase.AsksValues n = refl
in_same_turn phase.AsksRecovery n = refl
in_same_turn (phase.AsksReceiving state) n = refl
in_same_turn (phase.AsksResumed state) n = refl
in_same_turn p n = tt

-- no look but one of these is answered in the turn before
not_looking : (p : Phase) (from seen : ℕ) → is_looking p ≡ false → IsInTurn p from seen
not_looking phase.AsksValues from seen calm = absurd (true≢false calm)
not_looking phase.AsksRecovery from seen calm = absurd (true≢false calm)
not_looking (phase.AsksReceiving state) from seen calm = absurd (true≢false calm)
not_looking (phase.AsksResumed state) from seen calm = absurd (true≢false calm)
not_looking p from seen calm = tt

-- the calls of so many turns of the session, at one length of the history
abbrev pub calls_at : ℕ → List Turn → List Call
calls_at n [] = []
calls_at n (x ∷ xs) = record { turn = x; seen = n } ∷ calls_at n xs

-- a look tells of no step
pub look_tells : (q : Ask) (x : Reply) → IsLook q → step_told q x ≡ None
look_tells (ask.Values n) x i = refl
look_tells (ask.Recovery n) x i = refl
look_tells (ask.Receiving n) x i = refl
look_tells (ask.Resumed n) x i = refl
look_tells q x i = absurd i

module _ {D C : Type 0} (disks : DiskView D) (clocks : ClockView C) where
  -- ---- the history

  module _ (spells : List ℕ → Bool) (tells : TellsApdus spells) (first entries : List Step)
      (possible : IsHistory (first ++ entries)) where
    abbrev history : List Seen
    history = whole first entries

    -- nothing goes over the link in these calls, and they tell these entries
    pub record IsQuiet (a : Action) (calls : List Call) (told : List ℕ) : Type 0 where
      pub got : got_in calls ≡ []
      pub put : PutIn a calls []
      pub made : made_in (length first) a calls ≡ told

    -- how long the history was
    abbrev pub upto : Shown D C → ℕ
    upto s = length first + length s.entries

    -- the spool has this state, and its entries begin the history
    pub record Stands (s : Shown D C) : Type 0 where
      pub state : s.current ≡ after (first ++ s.entries)
      pub front : IsPrefix s.entries entries

    in_two : (s : Shown D C) (rest : List Step) → s.entries ++ rest ≡ entries
        → (first ++ s.entries) ++ rest ≡ first ++ entries
    in_two s rest e = append_assoc first s.entries rest ∙ ap (λ (xs : List Step). first ++ xs) e

    pub history_then : (s : Shown D C) → IsPrefix s.entries entries → IsHistory (first ++ s.entries)
    history_then s f =
        front_history (first ++ s.entries) f.0
        (subst (λ (xs : List Step). IsHistory xs) (sym (in_two s f.0 f.1)) possible)

    pub long_then : (s : Shown D C) → length (first ++ s.entries) ≡ upto s
    long_then s = length-append first s.entries

    pub seen_then : (s : Shown D C) → IsPrefix s.entries entries
        → take (upto s) history ≡ annotated (first ++ s.entries)
    seen_then s f =
        ap (λ (n : ℕ). take n history) (sym (long_then s))
        ∙ ap (λ (xs : List Step). take (length (first ++ s.entries)) (annotated xs)) (sym (in_two s f.0 f.1))
        ∙ seen_front (first ++ s.entries) f.0

    pub within : (s : Shown D C) → IsPrefix s.entries entries → upto s ≤ length history
    within s f =
        let all : length history ≡ length first + length entries =
        length_seen (first ++ entries) ∙ length-append first entries in
        let parts : length (s.entries ++ f.0) ≡ length s.entries + length f.0 = length-append s.entries f.0 in
        let same : length (s.entries ++ f.0) ≡ length entries = ap length f.1 in
        omega (arith, all, parts, same)

    -- ---- what a reply makes

    step_between : (old new : Shown D C) (step : Step) → IsPrefix new.entries entries
        → new.entries ≡ old.entries ++ step ∷ []
        → (rest : List Step) × (first ++ entries ≡ (first ++ old.entries) ++ step ∷ rest)
    step_between old new step f e = (
      f.0,
      ap (λ (xs : List Step). first ++ xs)
          (sym f.1 ∙ ap (λ (xs : List Step). xs ++ f.0) e ∙ append_assoc old.entries (step ∷ []) f.0)
          ∙ sym (append_assoc first old.entries (step ∷ f.0)),
    )

    pub was_possible : (old new : Shown D C) → old.current ≡ after (first ++ old.entries) → IsPrefix new.entries entries
        → WasPossible old new
    was_possible old new state f step e =
        let two = step_between old new step f e in
        subst (λ (s : State). IsPossible s step) (sym state)
        (possible_behind (first ++ old.entries) step two.0
        (subst (λ (xs : List Step). IsHistory xs) two.1 possible))

    pub makes_front : (o : Option StepOn) (old new : Shown D C) → Makes o old new → IsPrefix new.entries entries
        → IsPrefix old.entries entries
    makes_front (Some x) old new m f = (
      m.0 ∷ f.0,
      sym (append_assoc old.entries (m.0 ∷ []) f.0) ∙ ap (λ (xs : List Step). xs ++ f.0) (sym m.1) ∙ f.1,
    )
    makes_front None old new m f = (f.0, ap (λ (xs : List Step). xs ++ f.0) (sym m.0) ∙ f.1)

    makes_state : (o : Option StepOn) (old new : Shown D C) → Makes o old new
        → old.current ≡ after (first ++ old.entries) → new.current ≡ after (first ++ new.entries)
    makes_state (Some x) old new m state =
        m.2 ∙ ap (λ (s : State). after_step s m.0) state ∙ sym (after_more (first ++ old.entries) m.0)
        ∙ ap (λ (xs : List Step). after xs)
        (append_assoc first old.entries (m.0 ∷ []) ∙ ap (λ (xs : List Step). first ++ xs) (sym m.1))
    makes_state None old new m state =
        m.1 ∙ state ∙ ap (λ (xs : List Step). after (first ++ xs)) (sym m.0)

    -- the same of the spool before
    pub stands_before : (o : Option StepOn) (old new : Shown D C) → Makes o old new
        → old.current ≡ after (first ++ old.entries) → IsPrefix new.entries entries → Stands old
    stands_before o old new m state f = record { state = state; front = makes_front o old new m f }

    pub stands_next : (o : Option StepOn) (old new : Shown D C) → Makes o old new
        → old.current ≡ after (first ++ old.entries) → IsPrefix new.entries entries → Stands new
    stands_next o old new m state f = record { state = makes_state o old new m state; front = f }

    -- ---- a reply is true

    -- the step that was made is the last entry then
    pub made_stands : (y : StepOn) (from : ℕ) (old new : Shown D C) → Makes (Some y) old new
        → old.current ≡ after (first ++ old.entries) → IsPrefix new.entries entries → from ≤ upto old
        → StandsThere history from (upto new) y
    made_stands y from old new m state f le =
        let two = step_between old new m.0 f m.1 in
        let long : length (old.entries ++ m.0 ∷ []) ≡ length old.entries + 1 = length-append old.entries (m.0 ∷ []) in
        let same : length new.entries ≡ length (old.entries ++ m.0 ∷ []) = ap length m.1 in
        let at : length (first ++ old.entries) ≡ upto new - 1 =
        long_then old ∙ omega (arith, long, same) in
        record {
          later = omega (arith, le, long, same);
          entry =
              ap (λ (n : ℕ). slice_get history n) (sym at)
              ∙ ap (λ (xs : List Step). slice_get (annotated xs) (length (first ++ old.entries))) two.1
              ∙ seen_behind (first ++ old.entries) m.0 two.0
              ∙ ap Some (ap (λ (s : State). seen_of s (class_of m.0) (when s m.0)) (sym state) ∙ m.3);
        }

    pub stands_as : (o : Option StepOn) (q : Ask) (x : Reply) (from : ℕ) (old new : Shown D C) → Makes o old new
        → old.current ≡ after (first ++ old.entries) → IsPrefix new.entries entries → from ≤ upto old
        → IsTrue spells (annotated (first ++ old.entries)) q x → StandsAs spells history from (upto new) q x o
    stands_as (Some y) q x from old new m state f le told = made_stands y from old new m state f le
    stands_as None q x from old new m state f le told =
        let same : length new.entries ≡ length old.entries = ap length m.0 in
        record {
          later = omega (arith, le, same);
          within = within new f;
          told =
              subst (λ (xs : List Seen). IsTrue spells xs q x)
              (ap (λ (xs : List Step). annotated (first ++ xs)) (sym m.0) ∙ sym (seen_then new f)) told;
        }

    -- ---- looks

    look_true : (q : Ask) (x : Reply) (s : Shown D C) → Stands s → Answered disks clocks q s x s
        → StandsAs spells history (upto s) (upto s) q x None
    look_true q x s st a =
        stands_as None q x (upto s) s s (refl, refl) st.state st.front (omega arith)
        (answer_true spells tells (first ++ s.entries) (history_then s st.front) disks clocks s st.state q x s a)

    looks_stand : (q : Ask) (x : Reply) (s : Shown D C) → Stands s → IsLook q → Answered disks clocks q s x s
        → StandsAs spells history (upto s) (upto s) q x (step_told q x)
    looks_stand (ask.Values n) x s st i a = look_true (ask.Values n) x s st a
    looks_stand (ask.Recovery n) x s st i a = look_true (ask.Recovery n) x s st a
    looks_stand (ask.Receiving n) x s st i a = look_true (ask.Receiving n) x s st a
    looks_stand (ask.Resumed n) x s st i a = look_true (ask.Resumed n) x s st a
    looks_stand q x s st i a = absurd i

    looked_true : (x : Turn) (a : Action) (s : Shown D C) → Stands s → IsLooked disks clocks s a x
        → ComesTrue spells history (upto s) (upto s) x.before.phase a x.event
    looked_true x a s st l =
        let both : IsInTurn x.before.phase (upto s) (upto s)
        × StandsAs spells history (upto s) (upto s) l.0 l.1 (step_told l.0 l.1) =
        (in_same_turn x.before.phase (upto s), looks_stand l.0 l.1 s st l.4 l.5) in
        subst (λ (b : Action). ComesTrue spells history (upto s) (upto s) x.before.phase b x.event) (sym l.2)
        (subst (λ (e : Event). ComesTrue spells history (upto s) (upto s) x.before.phase (action.Ask l.0) e) (sym l.3)
        both)

    pub looks_lead : (xs : List Turn) (s : Shown D C) (t : Session) (a : Action) (u : Session) (b : Action) → Stands s
        → Looks disks clocks s t a xs u b
        → Leads spells history (upto s) t a (calls_at (upto s) xs) (upto s) u b
    looks_lead [] s t a u b st l = record { calls_are = l.0; come_true = tt; wanted = sym l.1; seen = refl }
    looks_lead (x ∷ xs) s t a u b st l =
        let rest = looks_lead xs s x.after x.action u b st l.3 in
        record {
          calls_are = (l.0, l.2, rest.calls_are);
          come_true = (looked_true x a s st l.1, rest.come_true);
          wanted = rest.wanted;
          seen = rest.seen;
        }

    -- ---- a turn of the lock

    -- looks make no entries, and nothing goes over the link
    pub looks_quiet : (xs : List Turn) (s : Shown D C) (t : Session) (a : Action) (u : Session) (b : Action) (k : ℕ)
        → Looks disks clocks s t a xs u b → IsQuiet a (calls_at k xs) []
    looks_quiet [] s t a u b k l = record { got = refl; put = refl; made = refl }
    looks_quiet (x ∷ xs) s t a u b k l =
        let rest = looks_quiet xs s x.after x.action u b k l.3 in
        let look = l.1 in
        let none : made_by (length first) k a x.event ≡ [] =
        ap (λ (z : Action). made_by (length first) k z x.event) look.2
        ∙ ap (λ (e : Event). made_by (length first) k (action.Ask look.0) e) look.3
        ∙ ap (λ (o : Option StepOn). entry_at (length first) k o) (look_tells look.0 look.1 look.4) in
        record {
          got = ap (λ (e : Event). units_of e ++ got_in (calls_at k xs)) look.3 ∙ rest.got;
          put = (
            [],
            [],
            subst (λ (z : Action). PutBy z x.event []) (sym look.2) refl,
            rest.put,
            refl,
          );
          made = ap (λ (ns : List ℕ). ns ++ made_in (length first) x.action (calls_at k xs)) none ∙ rest.made;
        }

    -- the step that was made is the pass's own entry
    pub made_entries : (o : Option StepOn) (old new : Shown D C) → Makes o old new
        → row (length old.entries) (length new.entries - length old.entries) ≡ entry_at (length first) (upto new) o
    made_entries (Some x) old new m =
        let long : length (old.entries ++ m.0 ∷ []) ≡ length old.entries + 1 = length-append old.entries (m.0 ∷ []) in
        let same : length new.entries ≡ length (old.entries ++ m.0 ∷ []) = ap length m.1 in
        let one : length new.entries - length old.entries ≡ 1 = omega (arith, long, same) in
        let at : length old.entries ≡ upto new - 1 - length first = omega (arith, long, same) in
        ap (λ (n : ℕ). row (length old.entries) n) one ∙ ap (λ (n : ℕ). n ∷ []) at
    made_entries None old new m =
        let same : length new.entries ≡ length old.entries = ap length m.0 in
        let none : length new.entries - length old.entries ≡ 0 = omega (arith, same) in
        ap (λ (n : ℕ). row (length old.entries) n) none

    pub reply_entries : (q : Ask) (t : Session) (x : Reply) (old new : Shown D C)
        → old.current ≡ after (first ++ old.entries) → IsPrefix new.entries entries
        → Replied disks clocks q t old x new
        → row (length old.entries) (length new.entries - length old.entries)
        ≡ made_by (length first) (upto new) (action.Ask q) (event.Reply x)
    reply_entries q t x old new state f r =
        made_entries (step_told q x) old new (reply_made disks clocks q t old x new (was_possible old new state f) r)

    -- what is replied is true, whether the session is told it or not
    pub reply_comes : (q : Ask) (t : Session) (x : Reply) (old new : Shown D C) (from : ℕ)
        → old.current ≡ after (first ++ old.entries) → IsPrefix new.entries entries → from ≤ upto old
        → is_looking t.phase ≡ false → Replied disks clocks q t old x new
        → ComesTrue spells history from (upto new) t.phase (action.Ask q) (event.Reply x)
    reply_comes q t x old new from state f le calm r =
        let makes : Makes (step_told q x) old new =
        reply_made disks clocks q t old x new (was_possible old new state f) r in
        let before : IsPrefix old.entries entries = makes_front (step_told q x) old new makes f in (
          not_looking t.phase from (upto new) calm,
          stands_as (step_told q x) q x from old new makes state f le
              (reply_true spells tells (first ++ old.entries) (history_then old before) disks clocks old state q t x
              new r),
        )

    pub look_comes : (q : Ask) (t : Session) (x : Reply) (s : Shown D C) → Stands s → IsLook q
        → Answered disks clocks q s x s
        → ComesTrue spells history (upto s) (upto s) t.phase (action.Ask q) (event.Reply x)
    look_comes q t x s st i a = (in_same_turn t.phase (upto s), looks_stand q x s st i a)

    -- the reply, told to the session
    pub one_call : (q : Ask) (t u : Session) (a : Action) (x : Reply) (old new : Shown D C) (from : ℕ)
        → old.current ≡ after (first ++ old.entries) → IsPrefix new.entries entries → from ≤ upto old
        → is_looking t.phase ≡ false → Replied disks clocks q t old x new → IsTurn (told_reply t x a u)
        → Leads spells history from t (action.Ask q) (record { turn = told_reply t x a u; seen = upto new } ∷ [])
        (upto new) u a
    one_call q t u a x old new from state f le calm r turn = record {
      calls_are = (refl, turn, refl);
      come_true = (reply_comes q t x old new from state f le calm r, tt);
      wanted = refl;
      seen = refl;
    }

    pub reply_stands : (q : Ask) (t : Session) (x : Reply) (old new : Shown D C)
        → old.current ≡ after (first ++ old.entries) → IsPrefix new.entries entries
        → Replied disks clocks q t old x new → Stands new
    reply_stands q t x old new state f r =
        stands_next (step_told q x) old new (reply_made disks clocks q t old x new (was_possible old new state f) r)
        state f

    -- the first call of a turn, and looks behind it
    pub quiet_first : (q : Ask) (t u : Session) (a : Action) (x : Reply) (old new : Shown D C) (looks : List Call)
        → old.current ≡ after (first ++ old.entries) → IsPrefix new.entries entries
        → Replied disks clocks q t old x new → IsQuiet a looks []
        → IsQuiet (action.Ask q) (record { turn = told_reply t x a u; seen = upto new } ∷ looks)
        (row (length old.entries) (length new.entries - length old.entries))
    quiet_first q t u a x old new looks state f r quiet = record {
      got = quiet.got;
      put = ([], [], refl, quiet.put, refl);
      made =
          ap (λ (ns : List ℕ). made_by (length first) (upto new) (action.Ask q) (event.Reply x) ++ ns) quiet.made
          ∙ append-nil (made_by (length first) (upto new) (action.Ask q) (event.Reply x))
          ∙ sym (reply_entries q t x old new state f r);
    }

    -- the calls of one turn of the lock
    pub record TurnLed (q : Ask) (t : Session) (old new : Shown D C) (from : ℕ) (u : Session) (b : Action) : Type 0
      where
        pub calls : List Call
        pub leads : Leads spells history from t (action.Ask q) calls (upto new) u b
        pub quiet : IsQuiet (action.Ask q) calls
            (row (length old.entries) (length new.entries - length old.entries))

    abbrev pub turn_leads : (q : Ask) (t : Session) (halt : Option Halt) (old new : Shown D C) (u : Session)
        (b : Action)
        (halt' : Option Halt) (from : ℕ) → old.current ≡ after (first ++ old.entries) → IsPrefix new.entries entries
        → from ≤ upto old → is_looking t.phase ≡ false → HasAnswered disks clocks q old t halt new u b halt'
        → TurnLed q t old new from u b
    turn_leads q t halt old new u b halt' from state f le calm h =
        let call : Call = record { turn = told_reply t h.answer h.wanted h.heard; seen = upto new } in
        let looks : List Call = calls_at (upto new) h.looked.turns in
        record {
          calls = call ∷ [] ++ looks;
          leads =
              leads_more spells history (call ∷ []) looks from (upto new) (upto new) t h.heard u (action.Ask q)
              h.wanted b
              (one_call q t h.heard h.wanted h.answer old new from state f le calm h.replied h.told)
              (looks_lead h.looked.turns new h.heard h.wanted u b (reply_stands q t h.answer old new state f h.replied)
              h.looked.looks);
          quiet =
              quiet_first q t h.heard h.wanted h.answer old new looks state f h.replied
              (looks_quiet h.looked.turns new h.heard h.wanted u b (upto new) h.looked.looks);
        }
