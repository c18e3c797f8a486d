-- All entries that a worker made are in parts of the history.
use Rattle.std.proofs.Common.{◌≡◌, ◌⊎◌, ◌<◌, ◌≤◌, ℕ, ◌+◌, ◌-◌, Bool, List, [], ◌∷◌, ◌++◌, length, Option}
use Rattle.std.proofs.Common.{None, Some, Result}
use Rattle.std.proofs.lemmas.List.{length-append}
use Rattle.std.proofs.Common.{Ok, Err, inl, inr, refl, sym, ap, subst, ◌∙◌, append_assoc, append-nil, arith, slice_get}
use mathlib.Core.List.{IsPrefix}
use Rattle.mta_edge.specs.Views.{ClockView, DiskView}
use Rattle.mta_links.specs.Links.{LinkView, StationView}
use Rattle.mta_links.specs.declared.role.Role.{Role}
use Rattle.mta_links.specs.declared.role.Role.TheVariants as role
use Rattle.mta_transfer_rules.specs.Lanes.{Abandon, Elsewhere, On, Seen, SeenStep}
use Rattle.mta_records.specs.declared.fault.StepFault.{StepFault}
use Rattle.mta_records.specs.declared.step.Step.{Step}
use Rattle.mta_records.specs.declared.step.Step.TheVariants as steps
use Rattle.mta_procedures.specs.declared.verdict.Verdict.{Verdict}
use Rattle.mta_procedures.specs.declared.verdict.Verdict.TheVariants as Verdicts
use Rattle.mta_histories.specs.Classes.{class_of}
use Rattle.mta_histories.specs.Due.{IsNext, step_of}
use Rattle.mta_histories.specs.History.{after, when}
use Rattle.mta_histories.specs.Lanes.{State}
use Rattle.mta_histories.specs.Seen.{annotated, seen_of}
use Rattle.mta_session.specs.State.{State as Session}
use Rattle.mta_session.specs.declared.event.Action.{Action}
use Rattle.mta_session.specs.declared.limits.Limits.{Limits}
use Rattle.mta_shared.specs.Counts.{row, times}
use Rattle.mta_shared.specs.declared.history.Base.{Base}
use Rattle.mta_shared.specs.Held.{Held}
use Rattle.mta_shared.proofs.Fronts.{prefix_length, prefix_self, prefix_trans}
use Rattle.mta_spool.specs.Shown.{Shown}
use Rattle.mta_spool.specs.declared.spool.Turned.TheVariants.{Did, Quiet}
use Rattle.mta_stations.specs.declared.end.Halt.{Halt}
use Rattle.mta_stations.specs.declared.end.WorkerEnd.{WorkerEnd}
use Rattle.mta_worker.specs.Readying.{IsReadied}
use Rattle.mta_worker.specs.Served.{Calling, Closings, Halting, HasCalled, HasListened, IsLinkServed, IsOwnName}
use Rattle.mta_worker.specs.Served.{Listening}
use Rattle.mta_worker.specs.Served.{Lost_at_once, Lost_before, Too_often, Wanting, Without}
use Rattle.mta_worker.specs.Serving.{At, Given_up, InTurn, IsServed, Stopped, To_its_end}
use Rattle.mta_worker.specs.Turns.{IsLost}
use Rattle.mta_worker.specs.Working.{AllServed, AtStation, At_limit, Behind, Dues, Halted, HasSettled, HasWorked}
use Rattle.mta_worker.specs.Working.{Is_quiet}
use Rattle.mta_worker.specs.Working.{Is_refused, No_link, Serves, Station_failed, TurnsOnce}
use Rattle.mta_worker.specs.declared.ready.Ready.TheVariants as ready
use Rattle.mta_worker.specs.declared.session.Served.{Served}
use Rattle.mta_worker.specs.declared.telling.Lost.{Lost}
use Rattle.mta_worker_list_laws.specs.Begun.{IsBehind}
use Rattle.mta_worker_list_laws.specs.Histories.{AreEntries, place, TellsApdus, whole}
use Rattle.mta_worker_list_laws.specs.Linked.{Began, IsRun, None_began}
use Rattle.mta_worker_list_laws.specs.Parts.{AreForNone, AreOfRole, AreParts, AreSessions, BeginsBetween, IsForNone}
use Rattle.mta_worker_list_laws.specs.Parts.{IsSession, plain}
use Rattle.mta_worker_list_laws.specs.Parts.{StandInTurn, StandsFrom}
use Rattle.mta_worker_list_laws.specs.OfLinks.{AllForNone, AreOfLink, AreOfLinks, AreOfWorker, WorkersHaveParts}
use Rattle.mta_worker_list_laws.specs.Segments.{AreSegments, Begins, IsOwnStep, IsSegment, OnLane, owned, Segment}
use Rattle.mta_worker_list_laws.proofs.Annotating.{seen_behind}
use Rattle.mta_worker_list_laws.proofs.Going.{goes_base, state_then, turn_base, turn_grows}
use Rattle.mta_worker_list_laws.proofs.Ending.{served_grows}
use Rattle.mta_worker_list_laws.proofs.Later.{own_later}
use Rattle.mta_worker_list_laws.proofs.Linked.{closings_grow, links_are_run, readied_grows, readied_halts, still_owns}
use Rattle.mta_worker_list_laws.proofs.Owned.{one_hit}
use Rattle.mta_worker_list_laws.proofs.Parts.{closings_for_none, closings_plain, links_have_parts}

-- ---- what is due concerns no pieces

some_same : (x y : Seen) → Some x ≡ Some y → x ≡ y
some_same x y e = cc

else_on : (lane : ℕ) (step : SeenStep) → Elsewhere ≡ On lane step → {A : Type 0} → A
else_on lane step e = absurd cc

none_some : {A B : Type 0} (x : A) → None ≡ Some x → B
none_some x e = absurd cc

same_due : (x y : Step) → Some x ≡ Some y → x ≡ y
same_due x y e = cc

verdict_plain : (s : State) (v : Verdict) (i r m at lane : ℕ) (x : Step) (step : SeenStep) → step_of v i r m ≡ Some x
    → seen_of s (class_of x) at ≡ On lane step → ⊥
verdict_plain s (Verdicts.Deliver place) i r m at lane x step e get =
    else_on lane step (ap (λ (z : Step). seen_of s (class_of z) at) (same_due (steps.Deliver i r m) x e) ∙ get)
verdict_plain s (Verdicts.Expand place) i r m at lane x step e get =
    else_on lane step (ap (λ (z : Step). seen_of s (class_of z) at) (same_due (steps.Expand i r m) x e) ∙ get)
verdict_plain s Verdicts.Affirm i r m at lane x step e get =
    else_on lane step (ap (λ (z : Step). seen_of s (class_of z) at) (same_due (steps.Affirm i r m) x e) ∙ get)
verdict_plain s (Verdicts.NonDeliver reason diagnostic) i r m at lane x step e get =
    else_on lane step (ap (λ (z : Step). seen_of s (class_of z) at) (same_due (steps.Report i r m) x e) ∙ get)
verdict_plain s Verdicts.Back i r m at lane x step e get =
    else_on lane step (ap (λ (z : Step). seen_of s (class_of z) at) (same_due (steps.Back i r m) x e) ∙ get)
verdict_plain s Verdicts.Discard i r m at lane x step e get =
    else_on lane step (ap (λ (z : Step). seen_of s (class_of z) at) (same_due (steps.Discard i r m) x e) ∙ get)
verdict_plain s any1 i r m at lane x step e get = none_some x e

abandon_plain : (n k lane g : ℕ) (step : SeenStep) → On n (Abandon k) ≡ On lane step → IsOwnStep g step → ⊥
abandon_plain n k lane g step e piece =
    let same : Abandon k ≡ step = cc in subst (λ (z : SeenStep). IsOwnStep g z) (sym same) piece

due_plain : (s now : State) (m at lane g : ℕ) (x : Step) (step : SeenStep) → IsNext now m x
    → seen_of s (class_of x) at ≡ On lane step → IsOwnStep g step → ⊥
due_plain s now m at lane g x step next get piece =
    elim next.is_due [
      | inl v ↦ verdict_plain s v.verdict next.item next.recipient m at lane x step v.step_is get
      | inr e ↦ abandon_plain e.number _ lane g step
          (ap (λ (z : Step). seen_of s (class_of z) at) (sym e.step_is) ∙ get)
          piece
    ]

verdict_for_none : (s : State) (v : Verdict) (i r m at : ℕ) (x : Step) → step_of v i r m ≡ Some x
    → IsForNone (seen_of s (class_of x) at)
verdict_for_none s (Verdicts.Deliver place) i r m at x e =
    subst (λ (z : Step). IsForNone (seen_of s (class_of z) at)) (same_due (steps.Deliver i r m) x e) tt
verdict_for_none s (Verdicts.Expand place) i r m at x e =
    subst (λ (z : Step). IsForNone (seen_of s (class_of z) at)) (same_due (steps.Expand i r m) x e) tt
verdict_for_none s Verdicts.Affirm i r m at x e =
    subst (λ (z : Step). IsForNone (seen_of s (class_of z) at)) (same_due (steps.Affirm i r m) x e) tt
verdict_for_none s (Verdicts.NonDeliver reason diagnostic) i r m at x e =
    subst (λ (z : Step). IsForNone (seen_of s (class_of z) at)) (same_due (steps.Report i r m) x e) tt
verdict_for_none s Verdicts.Back i r m at x e =
    subst (λ (z : Step). IsForNone (seen_of s (class_of z) at)) (same_due (steps.Back i r m) x e) tt
verdict_for_none s Verdicts.Discard i r m at x e =
    subst (λ (z : Step). IsForNone (seen_of s (class_of z) at)) (same_due (steps.Discard i r m) x e) tt
verdict_for_none s any1 i r m at x e = none_some x e

due_for_none : (s now : State) (m at : ℕ) (x : Step) → IsNext now m x → IsForNone (seen_of s (class_of x) at)
due_for_none s now m at x next =
    elim next.is_due [
      | inl v ↦ verdict_for_none s v.verdict next.item next.recipient m at x v.step_is
      | inr e ↦ subst (λ (z : Step). IsForNone (seen_of s (class_of z) at)) (sym e.step_is) tt
    ]

-- ---- parts behind parts

pub owned_more : (xs ys : List Segment) → owned (xs ++ ys) ≡ owned xs ++ owned ys
owned_more [] ys = refl
owned_more (x ∷ xs) ys =
    ap (λ (ns : List ℕ). x.own ++ ns) (owned_more xs ys) ∙ sym (append_assoc x.own (owned xs) (owned ys))

pub segments_more : (history : List Seen) (n : ℕ) (xs ys : List Segment) → AreSegments history n xs
    → AreSegments history n ys → AreSegments history n (xs ++ ys)
segments_more history n [] ys a b = b
segments_more history n (x ∷ xs) ys a b = (a.0, segments_more history n xs ys a.1 b)

module _ {D C L S : Type 0} (disks : DiskView D) (clocks : ClockView C) (links : LinkView L)
    (stations : StationView S) (spells : List ℕ → Bool) (tells : TellsApdus spells) (first entries : List Step)
    (theirs : Role) where
  abbrev history : List Seen
  history = whole first entries

  abbrev Parts : Held Step → Held Step → Type 0
  Parts p q = AreParts links spells first entries theirs p q

  -- how long the history is that a pass has seen
  seen_more : (p q : Held Step) → IsPrefix p.seen q.seen → place first p ≤ place first q
  seen_more p q f = let le : length p.seen ≤ length q.seen = prefix_length p.seen q.seen f in omega (arith, le)

  pub sessions_more : (xs ys : List Segment) → AreSessions links spells first entries xs
      → AreSessions links spells first entries ys → AreSessions links spells first entries (xs ++ ys)
  sessions_more [] ys a b = b
  sessions_more (x ∷ xs) ys a b = (a.0, sessions_more xs ys a.1 b)

  -- from an earlier length on too
  stands_sooner : (low from upto : ℕ) (s : Segment)
      (x : AreForNone history (length first) s ⊎ IsSession links spells first entries s) → low ≤ from
      → StandsFrom from upto x → StandsFrom low upto x
  stands_sooner low from upto s (inl none) le b = omega (arith, le, b)
  stands_sooner low from upto s (inr x) le b =
      let here = b.1 in (sooner s.list b.0, omega (arith, le, here), b.2)
    where
      sooner : (o : Option OnLane) → BeginsBetween from (place first x.over) o
          → BeginsBetween low (place first x.over) o
      sooner None i = tt
      sooner (Some on) i = let there = i.0 in (omega (arith, le, there), i.1)

  abbrev Turns : (from upto : ℕ) (ss : List Segment) → AreSessions links spells first entries ss → Type 0
  Turns from upto ss are = StandInTurn links spells first entries from upto ss are

  turns_sooner : (low from upto : ℕ) (ss : List Segment) (are : AreSessions links spells first entries ss)
      → low ≤ from → Turns from upto ss are → Turns low upto ss are
  turns_sooner low from upto [] are le t = omega (arith, le, t)
  turns_sooner low from upto (s ∷ ss) are le t =
      (t.0, stands_sooner low from t.0 s are.0 le t.1, t.2)

  turns_more : (from mid upto : ℕ) (xs ys : List Segment) (a : AreSessions links spells first entries xs)
      (b : AreSessions links spells first entries ys) → Turns from mid xs a → Turns mid upto ys b
      → Turns from upto (xs ++ ys) (sessions_more xs ys a b)
  unfolding sessions_more
  turns_more from mid upto [] ys a b t u = turns_sooner from mid upto ys b t u
  turns_more from mid upto (x ∷ xs) ys a b t u =
      (t.0, t.1, turns_more t.0 mid upto xs ys a.1 b t.2 u)

  -- and so are their roles
  of_role_more : (xs ys : List Segment) (a : AreSessions links spells first entries xs)
      (b : AreSessions links spells first entries ys) → AreOfRole links spells first entries theirs xs a
      → AreOfRole links spells first entries theirs ys b
      → AreOfRole links spells first entries theirs (xs ++ ys) (sessions_more xs ys a b)
  unfolding sessions_more
  of_role_more [] ys a b t u = u
  of_role_more (x ∷ xs) ys a b t u = (t.0, of_role_more xs ys a.1 b t.1 u)

  abbrev no_parts : (p q : Held Step) → q.own ≡ p.own → IsPrefix p.seen q.seen → Parts p q
  no_parts p q e f = record {
    parts = [];
    are = tt;
    sessions = tt;
    of_role = tt;
    owns = e ∙ sym (append-nil p.own);
    turns = seen_more p q f;
  }

  abbrev parts_more : (p m q : Held Step) → Parts p m → Parts m q → Parts p q
  parts_more p m q a b = record {
    parts = a.parts ++ b.parts;
    are = segments_more history (length first) a.parts b.parts a.are b.are;
    sessions = sessions_more a.parts b.parts a.sessions b.sessions;
    of_role = of_role_more a.parts b.parts a.sessions b.sessions a.of_role b.of_role;
    owns =
        b.owns ∙ ap (λ (ns : List ℕ). ns ++ owned b.parts) a.owns
        ∙ append_assoc p.own (owned a.parts) (owned b.parts)
        ∙ ap (λ (ns : List ℕ). p.own ++ ns) (sym (owned_more a.parts b.parts));
    turns = turns_more (place first p) (place first m) (place first q) a.parts b.parts a.sessions b.sessions a.turns
        b.turns;
  }

  -- parts that were made for no session
  abbrev ForNone : Held Step → Held Step → Type 0
  ForNone p q = (a : Parts p q) × AllForNone history (length first) a.parts

  none_more : (xs ys : List Segment) → AllForNone history (length first) xs → AllForNone history (length first) ys
      → AllForNone history (length first) (xs ++ ys)
  none_more [] ys a b = b
  none_more (x ∷ xs) ys a b = (a.0, none_more xs ys a.1 b)

  none_then : (p m q : Held Step) → ForNone p m → ForNone m q → ForNone p q
  none_then p m q a b = (parts_more p m q a.0 b.0, none_more a.0.parts b.0.parts a.1 b.1)

  no_dues : (p q : Held Step) → q.own ≡ p.own → IsPrefix p.seen q.seen → ForNone p q
  no_dues p q e f = (no_parts p q e f, tt)

  -- each entry of a session stands where it began or behind
  begins_later : (p : Held Step) (s : Segment) (x : IsSession links spells first entries s)
      → IsBehind (place first p) x.ran.begins → IsSegment history (length first) s
      → BeginsBetween (place first p) (place first x.over) s.list
  begins_later p s x after is = by_list s.list is.begins
    where
      by_list : (o : Option OnLane) → Begins history (length first) s.own o
          → BeginsBetween (place first p) (place first x.over) o
      by_list None b = tt
      by_list (Some on) b =
          let k : ℕ = on.at - length first in
          let there : (place first p ≤ length first + k) × (length first + k < place first x.over) =
          own_later spells history (length first) (place first p) x.ran.begins x.calls x.ran.done.over k after
          (omega arith) x.ran.done.leads
          (subst (λ (ns : List ℕ). 0 < times k ns) x.of_it.own b.owned) in
          let low = there.0 in
          let high = there.1 in
          (omega (arith, low, b.later), omega (arith, high, b.later))

  link_parts : (old new : L) (p q : Held Step) (served : Served) → IsPrefix p.seen q.seen
      → IsRun links spells first entries theirs old new p q served → Parts p q
  link_parts old new p q served f (None_began closings are none owns same) = record {
    parts = plain closings ∷ [];
    are = (closings_plain history (length first) closings are, tt);
    sessions = (inl (closings_for_none history (length first) closings are), tt);
    of_role = (tt, tt);
    owns = owns ∙ ap (λ (ns : List ℕ). p.own ++ ns) (sym (append-nil closings));
    turns = (place first q, seen_more p q f, omega arith);
  }
  link_parts old new p q served f (Began closings t begun calls ran of_role are owns later after) =
      let given = links_have_parts links spells first entries theirs old new p q served
      (Began closings t begun calls ran of_role are owns later after) in
      let s : Segment = given.of_it.0 in
      let none : AreForNone history (length first) (plain closings) =
      closings_for_none history (length first) closings are in
      let x : IsSession links spells first entries s = record {
        link = old;
        new = t;
        begun = begun;
        calls = calls;
        over = q;
        link_over = new;
        ran = ran;
        of_it = given.of_it.2;
      } in
      let segments : AreSegments history (length first) (plain closings ∷ s ∷ []) =
      subst (λ (ss : List Segment). AreSegments history (length first) ss) given.of_it.1 given.are in
      record {
        parts = plain closings ∷ s ∷ [];
        are = segments;
        sessions = (inl none, (inr x, tt));
        of_role = (tt, (of_role, tt));
        owns = given.owns ∙ ap (λ (ss : List Segment). p.own ++ owned ss) given.of_it.1;
        turns = (
          place first p,
          omega arith,
          (
            place first q,
            (begins_later p s x after segments.1.0, seen_more p q f, omega arith),
            omega arith,
          ),
        );
      }

  -- they are those of the link
  link_parts_are : (old new : L) (p q : Held Step) (served : Served) (f : IsPrefix p.seen q.seen)
      (run : IsRun links spells first entries theirs old new p q served)
      → (link_parts old new p q served f run).parts
      ≡ (links_have_parts links spells first entries theirs old new p q served run).parts
  unfolding link_parts
  link_parts_are old new p q served f (None_began closings are none owns same) =
      sym (links_have_parts links spells first entries theirs old new p q served
      (None_began closings are none owns same)).of_it
  link_parts_are old new p q served f (Began closings t begun calls ran of_role are owns later after) =
      sym (links_have_parts links spells first entries theirs old new p q served
      (Began closings t begun calls ran of_role are owns later after)).of_it.1

  -- ---- what is due

  base_on : (done : Shown D C → Shown D C → Type 0) (p q : Held Step) → AreEntries p.base first entries
      → InTurn disks clocks done p q → AreEntries q.base first entries
  base_on done p q are i =
      subst (λ (b : Base). AreEntries b first entries) (sym (turn_base disks clocks done p q i)) are

  due_front : (step : Step) (s t : Shown D C) → TurnsOnce disks clocks s (Ok (Did step)) t
      → IsPrefix s.entries t.entries
  due_front step s t d = (step ∷ [], sym d.at.1.entries)

  due_grows : (step : Step) (p m : Held Step)
      → InTurn disks clocks (λ s t. TurnsOnce disks clocks s (Ok (Did step)) t) p m → IsPrefix p.seen m.seen
  due_grows step p m i =
      turn_grows disks clocks (λ s t. TurnsOnce disks clocks s (Ok (Did step)) t) p m (due_front step) i

  one_due : (step : Step) (p m : Held Step) → AreEntries p.base first entries
      → InTurn disks clocks (λ s t. TurnsOnce disks clocks s (Ok (Did step)) t) p m → IsPrefix m.seen entries
      → ForNone p m
  one_due step p m are i f =
      let old : Shown D C = i.before in
      let made : i.after.entries ≡ old.entries ++ step ∷ [] = i.did.at.1.entries in
      let left : m.seen ≡ i.after.entries = ap (λ (h : Held Step). h.seen) i.left in
      let owned_now : m.own ≡ p.own ++ row (length old.entries) (length i.after.entries - length old.entries) =
      ap (λ (h : Held Step). h.own) i.left in
      let behind : IsPrefix i.after.entries entries = subst (λ (xs : List Step). IsPrefix xs entries) left f in
      let state : old.current ≡ after (first ++ old.entries) =
      state_then disks clocks old p.base first entries i.keeps are in
      let one : length i.after.entries - length old.entries ≡ 1 =
      (let long : length (old.entries ++ step ∷ []) ≡ length old.entries + 1 =
      length-append old.entries (step ∷ []) in
      let same : length i.after.entries ≡ length (old.entries ++ step ∷ []) = ap length made in
      omega (arith, long, same)) in
      let all : first ++ entries ≡ (first ++ old.entries) ++ step ∷ behind.0 =
      ap (λ (xs : List Step). first ++ xs)
      (sym behind.1 ∙ ap (λ (xs : List Step). xs ++ behind.0) made
      ∙ append_assoc old.entries (step ∷ []) behind.0)
      ∙ sym (append_assoc first old.entries (step ∷ behind.0)) in
      let there : slice_get history (length first + length old.entries)
      ≡ Some (seen_of (after (first ++ old.entries)) (class_of step) (when (after (first ++ old.entries)) step)) =
      ap (λ (n : ℕ). slice_get history n) (sym (length-append first old.entries))
      ∙ ap (λ (xs : List Step). slice_get (annotated xs) (length (first ++ old.entries))) all
      ∙ seen_behind (first ++ old.entries) step behind.0 in
      let for_none : AreForNone history (length first) (plain (length old.entries ∷ [])) = record {
        none = refl;
        entries = λ k x hit get.
            let place : k ≡ length old.entries = one_hit k (length old.entries) hit in
            let same = some_same _ _ (sym there ∙ ap (λ (n : ℕ). slice_get history (length first + n)) (sym place)
            ∙ get) in
            subst IsForNone same
            (due_for_none (after (first ++ old.entries)) old.current _
            (when (after (first ++ old.entries)) step) step i.did.at.0);
      } in (
        record {
          parts = plain (length old.entries ∷ []) ∷ [];
          are = (
            record {
              begins = tt;
              lists = λ k lane g other hit get piece. absurd (
                  let place : k ≡ length old.entries = one_hit k (length old.entries) hit in
                  let same = some_same _ _ (sym there
                  ∙ ap (λ (n : ℕ). slice_get history (length first + n)) (sym place) ∙ get) in
                  due_plain (after (first ++ old.entries)) old.current _ _ lane g step other i.did.at.0 same piece);
              once = λ k lane g hit begins. tt;
            },
            tt,
          );
          sessions = (inl for_none, tt);
          of_role = (tt, tt);
          owns = owned_now ∙ ap (λ (n : ℕ). p.own ++ row (length old.entries) n) one;
          turns = (place first m, seen_more p m (due_grows step p m i), omega arith);
        },
        (for_none, tt),
      )

  dues_grow : (p : Held Step) (ms : List (Held Step)) (q : Held Step) → Dues disks clocks p ms q
      → IsPrefix p.seen q.seen
  dues_grow p [] q d = subst (λ (z : Held Step). IsPrefix p.seen z.seen) (sym d) (prefix_self p.seen)
  dues_grow p (m ∷ ms) q d =
      prefix_trans p.seen m.seen q.seen (due_grows d.0.0 p m d.0.1) (dues_grow m ms q d.1)

  dues_base : (p : Held Step) (ms : List (Held Step)) (q : Held Step) → AreEntries p.base first entries
      → Dues disks clocks p ms q → AreEntries q.base first entries
  dues_base p [] q are d = subst (λ (z : Held Step). AreEntries z.base first entries) (sym d) are
  dues_base p (m ∷ ms) q are d =
      dues_base m ms q (base_on (λ s t. TurnsOnce disks clocks s (Ok (Did d.0.0)) t) p m are d.0.1) d.1

  all_dues : (p : Held Step) (ms : List (Held Step)) (q : Held Step) → AreEntries p.base first entries
      → Dues disks clocks p ms q → IsPrefix q.seen entries → ForNone p q
  all_dues p [] q are d f = no_dues p q (ap (λ (h : Held Step). h.own) d) (dues_grow p [] q d)
  all_dues p (m ∷ ms) q are d f =
      let here : IsPrefix m.seen entries = prefix_trans m.seen q.seen entries (dues_grow m ms q d.1) f in
      none_then p m q (one_due d.0.0 p m are d.0.1 here)
      (all_dues m ms q (base_on (λ s t. TurnsOnce disks clocks s (Ok (Did d.0.0)) t) p m are d.0.1) d.1 f)

  quiet_same : (moment : ℕ) (s t : Shown D C) → TurnsOnce disks clocks s (Ok (Quiet moment)) t → t.entries ≡ s.entries
  quiet_same moment s t d = d.at.3.2

  refused_same : (fault : StepFault) (s t : Shown D C) → TurnsOnce disks clocks s (Err fault) t
      → t.entries ≡ s.entries
  refused_same fault s t d =
      elim d.at [
        | inl a ↦ a.2.2
        | inr b ↦ elim b [ inl c ↦ c.2.2 | inr e ↦ e.1.2.entries ]
      ]

  still_grows : (done : Shown D C → Shown D C → Type 0) (p q : Held Step) (i : InTurn disks clocks done p q)
      → i.after.entries ≡ i.before.entries → IsPrefix p.seen q.seen
  still_grows done p q i e =
      subst (λ (xs : List Step). IsPrefix p.seen xs) (sym (ap (λ (h : Held Step). h.seen) i.left ∙ e)) i.begins

  quiet_owns : (done : Shown D C → Shown D C → Type 0) (p q : Held Step) (i : InTurn disks clocks done p q)
      → i.after.entries ≡ i.before.entries → q.own ≡ p.own
  quiet_owns done p q i e = still_owns disks clocks links spells tells first entries done p q i e

  settled_parts : (p q : Held Step) (halt : Option Halt) → AreEntries p.base first entries
      → HasSettled disks clocks p q halt → IsPrefix q.seen entries → ForNone p q
  settled_parts p q halt are (Is_quiet ms mid moment d i) f =
      let done = λ (s t : Shown D C). TurnsOnce disks clocks s (Ok (Quiet moment)) t in
      let e : i.after.entries ≡ i.before.entries = quiet_same moment i.before i.after i.did in
      let front : IsPrefix mid.seen entries =
      prefix_trans mid.seen q.seen entries (still_grows done mid q i e) f in
      none_then p mid q (all_dues p ms mid are d front)
      (no_dues mid q (quiet_owns done mid q i e) (still_grows done mid q i e))
  settled_parts p q halt are (Is_refused ms mid fault d i) f =
      let done = λ (s t : Shown D C). TurnsOnce disks clocks s (Err fault) t in
      let e : i.after.entries ≡ i.before.entries = refused_same fault i.before i.after i.did in
      let front : IsPrefix mid.seen entries =
      prefix_trans mid.seen q.seen entries (still_grows done mid q i e) f in
      none_then p mid q (all_dues p ms mid are d front)
      (no_dues mid q (quiet_owns done mid q i e) (still_grows done mid q i e))

  settled_grows : (p q : Held Step) (halt : Option Halt) → HasSettled disks clocks p q halt → IsPrefix p.seen q.seen
  settled_grows p q halt (Is_quiet ms mid moment d i) =
      prefix_trans p.seen mid.seen q.seen (dues_grow p ms mid d)
      (still_grows (λ s t. TurnsOnce disks clocks s (Ok (Quiet moment)) t) mid q i
      (quiet_same moment i.before i.after i.did))
  settled_grows p q halt (Is_refused ms mid fault d i) =
      prefix_trans p.seen mid.seen q.seen (dues_grow p ms mid d)
      (still_grows (λ s t. TurnsOnce disks clocks s (Err fault) t) mid q i
      (refused_same fault i.before i.after i.did))

  settled_base : (p q : Held Step) (halt : Option Halt) → AreEntries p.base first entries
      → HasSettled disks clocks p q halt → AreEntries q.base first entries
  settled_base p q halt are (Is_quiet ms mid moment d i) =
      base_on (λ s t. TurnsOnce disks clocks s (Ok (Quiet moment)) t) mid q (dues_base p ms mid are d) i
  settled_base p q halt are (Is_refused ms mid fault d i) =
      base_on (λ s t. TurnsOnce disks clocks s (Err fault) t) mid q (dues_base p ms mid are d) i

  behind_grows : (p : Held Step) (why : Option Halt) (q : Held Step) (halt : Option Halt)
      → Behind disks clocks p why q halt → IsPrefix p.seen q.seen
  behind_grows p None q halt b = settled_grows p q halt b
  behind_grows p (Some why) q halt b =
      subst (λ (z : Held Step). IsPrefix p.seen z.seen) (sym b.0) (prefix_self p.seen)

  behind_parts : (p : Held Step) (why : Option Halt) (q : Held Step) (halt : Option Halt)
      → AreEntries p.base first entries → Behind disks clocks p why q halt → IsPrefix q.seen entries → ForNone p q
  behind_parts p None q halt are b f = settled_parts p q halt are b f
  behind_parts p (Some why) q halt are b f =
      no_dues p q (ap (λ (h : Held Step). h.own) b.0) (behind_grows p (Some why) q halt b)

  behind_base : (p : Held Step) (why : Option Halt) (q : Held Step) (halt : Option Halt)
      → AreEntries p.base first entries → Behind disks clocks p why q halt → AreEntries q.base first entries
  behind_base p None q halt are b = settled_base p q halt are b
  behind_base p (Some why) q halt are b = subst (λ (z : Held Step). AreEntries z.base first entries) (sym b.0) are

  -- ---- one link

  served_base : (x : At L) (link : L) (pass : Held Step) (served : Served)
      → IsServed disks clocks links x link pass served → pass.base ≡ x.pass.base
  served_base x link pass served (To_its_end zs y e g fin at same is halt) =
      ap (λ (h : Held Step). h.base) same ∙ goes_base disks clocks links x zs y g
  served_base x link pass served (Stopped zs y t at g h same gives) =
      ap (λ (z : Held Step). z.base) same ∙ goes_base disks clocks links x zs y g
  served_base x link pass served (Given_up zs y q t halt lost g asks i gives) =
      turn_base disks clocks (λ s s'. IsLost disks clocks q s y.session y.halt s' t halt lost) y.pass pass i
      ∙ goes_base disks clocks links x zs y g

  closings_base : (peer : List ℕ) (units : ℕ) (p : Held Step) (ms : List (Held Step)) (q : Held Step)
      → Closings disks clocks links peer units p ms q → q.base ≡ p.base
  closings_base peer units p [] q c = ap (λ (h : Held Step). h.base) c
  closings_base peer units p (m ∷ ms) q c =
      closings_base peer units m ms q c.1
      ∙ turn_base disks clocks (λ s t. IsReadied disks clocks peer units s None t None ready.Closed) p m c.0

  -- the pass has seen no less, over the same base
  pub record Grown (p q : Held Step) : Type 0 where
    pub seen : IsPrefix p.seen q.seen
    pub base : q.base ≡ p.base

  grown_more : (p m q : Held Step) → Grown p m → Grown m q → Grown p q
  grown_more p m q a b =
      record { seen = prefix_trans p.seen m.seen q.seen a.seen b.seen; base = b.base ∙ a.base }

  still_grown : (done : Shown D C → Shown D C → Type 0) (p q : Held Step) (i : InTurn disks clocks done p q)
      → i.after.entries ≡ i.before.entries → Grown p q
  still_grown done p q i e =
      record { seen = still_grows done p q i e; base = turn_base disks clocks done p q i }

  served_grown : (x : At L) (link : L) (pass : Held Step) (served : Served)
      → IsServed disks clocks links x link pass served → Grown x.pass pass
  served_grown x link pass served is = record {
    seen = served_grows disks clocks links spells tells first entries x link pass served is;
    base = served_base x link pass served is;
  }

  closings_grown : (peer : List ℕ) (units : ℕ) (p : Held Step) (ms : List (Held Step)) (q : Held Step)
      → Closings disks clocks links peer units p ms q → Grown p q
  closings_grown peer units p ms q c = record {
    seen = closings_grow disks clocks links spells tells first entries peer units p ms q c;
    base = closings_base peer units p ms q c;
  }

  readied_grown : (peer : List ℕ) (units : ℕ) (p m : Held Step) (u : Session) (r : Result Action Lost)
      (noted : Option Halt)
      → InTurn disks clocks (λ s t. IsReadied disks clocks peer units s None t noted (ready.Begins u r)) p m
      → Grown p m
  readied_grown peer units p m u r noted i = record {
    seen = readied_grows disks clocks links spells tells first entries peer units p m u r noted i;
    base = turn_base disks clocks (λ s t. IsReadied disks clocks peer units s None t noted (ready.Begins u r)) p m i;
  }

  listened_grown : (units : ℕ) (p : Held Step) (old new : L) (q : Held Step) (served : Served)
      → HasListened disks clocks links units p old new q served → Grown p q
  listened_grown units p old new q served (Without i same is) =
      still_grown (λ s t. IsOwnName s.current (Ok None) × (t ≡ s)) p q i (ap (λ (s : Shown D C). s.entries) i.did.1)
  listened_grown units p old new q served (Wanting i same is) =
      still_grown (λ s t. t ≡ s) p q i (ap (λ (s : Shown D C). s.entries) i.did)
  listened_grown units p old new q served (Listening own mid one t i turn is) =
      grown_more p mid q
      (still_grown (λ s t. IsOwnName s.current (Ok (Some own)) × (t ≡ s)) p mid i
      (ap (λ (s : Shown D C). s.entries) i.did.1))
      (served_grown _ new q served is)
  listened_grown units p old new q served (Lost_at_once own i gives) =
      still_grown (λ s t. IsOwnName s.current (Ok (Some own)) × (t ≡ s)) p q i
      (ap (λ (s : Shown D C). s.entries) i.did.1)

  called_grown : (peer : List ℕ) (units : ℕ) (p : Held Step) (old new : L) (q : Held Step) (served : Served)
      → HasCalled disks clocks links peer units p old new q served → Grown p q
  called_grown peer units p old new q served (Halting ms mid halt noted c i same is) =
      grown_more p mid q (closings_grown peer units p ms mid c)
      (still_grown (λ s t. IsReadied disks clocks peer units s None t noted (ready.Halts halt)) mid q i
      (readied_halts disks clocks links spells tells first entries peer units i.before i.after noted halt i.did))
  called_grown peer units p old new q served (Calling ms mid at u one noted c i is) =
      grown_more p mid q (closings_grown peer units p ms mid c)
      (grown_more mid at q (readied_grown peer units mid at u (Ok one) noted i) (served_grown _ new q served is))
  called_grown peer units p old new q served (Lost_before ms mid u lost noted c i gives) =
      grown_more p mid q (closings_grown peer units p ms mid c) (readied_grown peer units mid q u (Err lost) noted i)
  called_grown peer units p old new q served (Too_often ms c many same is) = closings_grown peer units p ms q c

  link_grown : (r : Role) (units : ℕ) (p : Held Step) (old new : L) (q : Held Step) (served : Served)
      → IsLinkServed disks clocks links r units p old new q served → Grown p q
  link_grown role.In units p old new q served is = listened_grown units p old new q served is
  link_grown (role.Out peer) units p old new q served is = called_grown peer units p old new q served is

  -- ---- the worker

  base_of : (p q : Held Step) → AreEntries p.base first entries → q.base ≡ p.base → AreEntries q.base first entries
  base_of p q are e = subst (λ (b : Base). AreEntries b first entries) (sym e) are

  serves_parts : (limits : Limits) (x y : AtStation S) (halt : Option Halt) → AreEntries x.pass.base first entries
      → stations.role x.station ≡ theirs → (s : Serves disks clocks links stations limits x y halt)
      → IsPrefix y.pass.seen entries
      → (b : Parts x.pass y.pass) × AreOfLink disks clocks links stations spells first entries theirs s b.parts
  serves_parts limits x y halt are e s f =
      let g = link_grown (stations.role s.given) limits.units x.pass s.link s.left s.mid s.served s.session in
      let front : IsPrefix s.mid.seen entries =
      prefix_trans s.mid.seen y.pass.seen entries (behind_grows s.mid s.served.halt y.pass halt s.behind) f in
      let run : IsRun links spells first entries theirs s.link s.left x.pass s.mid s.served =
      subst (λ (r : Role). IsRun links spells first entries r s.link s.left x.pass s.mid s.served) (s.kept ∙ e)
      (links_are_run disks clocks links spells first entries (stations.role s.given) limits.units x.pass s.link s.left
      s.mid s.served tells are s.session front) in
      let one : Parts x.pass s.mid = link_parts s.link s.left x.pass s.mid s.served g.seen run in
      let dues : ForNone s.mid y.pass =
      behind_parts s.mid s.served.halt y.pass halt (base_of x.pass s.mid are g.base) s.behind f in
      let all : Parts x.pass y.pass = parts_more x.pass s.mid y.pass one dues.0 in (
        all,
        record {
          role = s.kept ∙ e;
          run = run;
          parts = links_have_parts links spells first entries theirs s.link s.left x.pass s.mid s.served run;
          dues = dues.0.parts;
          none = dues.1;
          are = ap (λ (ss : List Segment). ss ++ dues.0.parts)
              (link_parts_are s.link s.left x.pass s.mid s.served g.seen run);
          owns = all.owns;
        },
      )

  serves_grows : (limits : Limits) (x y : AtStation S) (halt : Option Halt)
      → Serves disks clocks links stations limits x y halt → IsPrefix x.pass.seen y.pass.seen
  serves_grows limits x y halt s =
      prefix_trans x.pass.seen s.mid.seen y.pass.seen
      (link_grown (stations.role s.given) limits.units x.pass s.link s.left s.mid s.served s.session).seen
      (behind_grows s.mid s.served.halt y.pass halt s.behind)

  serves_base : (limits : Limits) (x y : AtStation S) (halt : Option Halt) → AreEntries x.pass.base first entries
      → Serves disks clocks links stations limits x y halt → AreEntries y.pass.base first entries
  serves_base limits x y halt are s =
      behind_base s.mid s.served.halt y.pass halt
      (base_of x.pass s.mid are
      (link_grown (stations.role s.given) limits.units x.pass s.link s.left s.mid s.served s.session).base) s.behind

  all_grow : (limits : Limits) (x : AtStation S) (zs : List (AtStation S)) (y : AtStation S)
      → AllServed disks clocks links stations limits x zs y → IsPrefix x.pass.seen y.pass.seen
  all_grow limits x [] y a = subst (λ (z : AtStation S). IsPrefix x.pass.seen z.pass.seen) (sym a)
      (prefix_self x.pass.seen)
  all_grow limits x (z ∷ zs) y a =
      prefix_trans x.pass.seen z.pass.seen y.pass.seen (serves_grows limits x z None a.0) (all_grow limits z zs y a.1)

  all_base : (limits : Limits) (x : AtStation S) (zs : List (AtStation S)) (y : AtStation S)
      → AreEntries x.pass.base first entries → AllServed disks clocks links stations limits x zs y
      → AreEntries y.pass.base first entries
  all_base limits x [] y are a = subst (λ (z : AtStation S). AreEntries z.pass.base first entries) (sym a) are
  all_base limits x (z ∷ zs) y are a = all_base limits z zs y (serves_base limits x z None are a.0) a.1

  all_roles : (limits : Limits) (x : AtStation S) (zs : List (AtStation S)) (y : AtStation S)
      → AllServed disks clocks links stations limits x zs y → stations.role y.station ≡ stations.role x.station
  all_roles limits x [] y a = ap (λ (z : AtStation S). stations.role z.station) a
  all_roles limits x (z ∷ zs) y a = all_roles limits z zs y a.1 ∙ a.0.role

  all_parts : (limits : Limits) (x : AtStation S) (zs : List (AtStation S)) (y : AtStation S)
      → AreEntries x.pass.base first entries → stations.role x.station ≡ theirs
      → (a : AllServed disks clocks links stations limits x zs y) → IsPrefix y.pass.seen entries
      → (b : Parts x.pass y.pass)
      × AreOfLinks disks clocks links stations spells first entries theirs limits x zs y a b.parts
  all_parts limits x [] y are e a f =
      (no_parts x.pass y.pass (ap (λ (z : AtStation S). z.pass.own) a) (all_grow limits x [] y a), refl)
  all_parts limits x (z ∷ zs) y are e a f =
      let front : IsPrefix z.pass.seen entries =
      prefix_trans z.pass.seen y.pass.seen entries (all_grow limits z zs y a.1) f in
      let here = serves_parts limits x z None are e a.0 front in
      let more = all_parts limits z zs y (serves_base limits x z None are a.0) (a.0.role ∙ e) a.1 f in
      (parts_more x.pass z.pass y.pass here.0 more.0, (here.0.parts, more.0.parts, refl, here.1, more.1))

  up_to : (limits : Limits) (x : AtStation S) (zs : List (AtStation S)) (y : AtStation S) (q : Held Step)
      → AreEntries x.pass.base first entries → stations.role x.station ≡ theirs
      → (a : AllServed disks clocks links stations limits x zs y) → q ≡ y.pass → IsPrefix q.seen entries
      → (b : Parts x.pass q)
      × AreOfLinks disks clocks links stations spells first entries theirs limits x zs y a b.parts
  up_to limits x zs y q are at a e f =
      subst (λ (h : Held Step). (b : Parts x.pass h)
      × AreOfLinks disks clocks links stations spells first entries theirs limits x zs y a b.parts) (sym e)
      (all_parts limits x zs y are at a (subst (λ (h : Held Step). IsPrefix h.seen entries) e f))

  pub worked_parts : (limits : Limits) (x : AtStation S) (last : S) (q : Held Step) (end : WorkerEnd)
      → AreEntries x.pass.base first entries → stations.role x.station ≡ theirs
      → (did : HasWorked disks clocks links stations limits x last q end) → IsPrefix q.seen entries
      → (b : Parts x.pass q) × AreOfWorker disks clocks links stations spells first entries theirs did b.parts
  worked_parts limits x last q end are at (At_limit zs y a le is e) f = up_to limits x zs y q are at a e f
  worked_parts limits x last q end are at (No_link zs y a next e) f = up_to limits x zs y q are at a e f
  worked_parts limits x last q end are at (Station_failed zs y a rose served e) f =
      up_to limits x zs y q are at a e f
  worked_parts limits x last q end are at (Halted zs y z halt a s is e) f =
      let front : IsPrefix z.pass.seen entries = subst (λ (h : Held Step). IsPrefix h.seen entries) e f in
      let before : IsPrefix y.pass.seen entries =
      prefix_trans y.pass.seen z.pass.seen entries (serves_grows limits y z (Some halt) s) front in
      let served = all_parts limits x zs y are at a before in
      let last_one = serves_parts limits y z (Some halt) (all_base limits x zs y are a)
      (all_roles limits x zs y a ∙ at) s front in
      subst (λ (h : Held Step). (b : Parts x.pass h) × ((seen : List Segment) × (here : List Segment)
      × (b.parts ≡ seen ++ here)
      × AreOfLinks disks clocks links stations spells first entries theirs limits x zs y a seen
      × AreOfLink disks clocks links stations spells first entries theirs s here)) (sym e) (
        parts_more x.pass y.pass z.pass served.0 last_one.0,
        (served.0.parts, last_one.0.parts, refl, served.1, last_one.1),
      )

pub workers_have_parts : {D C L S : Type 0} (disks : DiskView D) (clocks : ClockView C) (links : LinkView L)
    (stations : StationView S) → WorkersHaveParts disks clocks links stations
workers_have_parts disks clocks links stations spells first entries limits x last q end tells are did f =
    worked_parts disks clocks links stations spells tells first entries (stations.role x.station) limits x last q end
    are refl did f
