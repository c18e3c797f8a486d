-- What a spool keeps under a base from call to call.
use Rattle.std.proofs.Common.{inl, inr, ⊎_elim, ◌≡◌, ◌≢◌, ℕ, Bool, true, false, List, [], ◌∷◌, ◌++◌, map}
use Rattle.std.specs.Prelude.{◌⊎◌}
use Rattle.std.proofs.Common.{Contains, Option, None, Some, refl, sym, ap, subst, ◌∙◌, append_assoc, arith}
use Rattle.std.proofs.lemmas.List.{append-nil}
use Rattle.mta_edge.specs.Views.{ClockLaws, ClockView, DiskLaws, DiskView, IsAmong}
use Rattle.mta_journal.specs.Shown.{Shown as JournalShown}
use Rattle.mta_records.specs.declared.step.Step.{Step}
use Rattle.mta_records.specs.declared.fault.StepFault.{StepFault}
use Rattle.mta_records.specs.declared.fault.StepFault.TheVariants as Faults
use Rattle.mta_records.specs.Body.{body_of}
use Rattle.mta_records.proofs.Records.{body_same}
use Rattle.mta_histories.specs.Compact.{IsLeftOf, as_it_was, at_base, at_opened}
use Rattle.mta_histories.specs.Lanes.{State, empty}
use Rattle.mta_histories.specs.History.{IsHistory, after}
use Rattle.mta_histories.proofs.Runs.{possible-more}
use Rattle.mta_images.specs.Image.{AreRecords, StandsFor}
use Rattle.mta_images.specs.Opened.{IsFound}
use Rattle.mta_images.proofs.GoingOn.{goes_on_left}
use Rattle.mta_shared.specs.declared.history.Base.{Base}
use Rattle.mta_spool.specs.Bases.{Keeps, KeepsOn, StandsForOne, StaysSafe, base_of, found_of, over_of, since_of}
use Rattle.mta_spool.specs.Bases.{where_listed, where_told}
use Rattle.mta_spool.specs.Crashing.{IsLeftWith, Reached}
use Rattle.mta_spool.specs.GoingOn.{HasOpened, IsSameOrLeft}
use Rattle.mta_spool.specs.Shown.{AtOpening, Shown}
use Rattle.mta_spool.specs.Stands.{Appends, IsHeld, Stands, TellsFewer}
use Rattle.mta_spool.specs.Turning.{IsUnchanged}
use Rattle.mta_spool.proofs.Crashing.{made, reached_as, reached_first, reached_second, stands_held, torn, with_none}

-- no step was torn
none-tried : (first entries : List Step) → IsHistory (first ++ entries) → IsHistory (first ++ (entries ++ []))
none-tried first entries history =
    subst (λ (x : List Step). IsHistory (first ++ x)) (sym (append-nil entries)) history

module _ {D C : Type 0} (disks : DiskView D) (clocks : ClockView C) where
  -- ---- nothing has changed

  abbrev KeepsBy : C → AtOpening D C → Base → JournalShown D → State → List Step → Type 0
  KeepsBy clock opened base journal state entries =
      Keeps disks clocks
      (record { journal = journal; clock = clock; current = state; entries = entries; opened = opened }) base

  along : (clock : C) (opened : AtOpening D C) (base : Base) (j k : JournalShown D) (s t : State) (a b : List Step)
      → k ≡ j → t ≡ s → b ≡ a → KeepsBy clock opened base j s a → KeepsBy clock opened base k t b
  along clock opened base j k s t a b same_journal same_state same_entries keeps =
      subst (KeepsBy clock opened base k t) (sym same_entries)
      (subst (λ (x : State). KeepsBy clock opened base k x a) (sym same_state)
      (subst (λ (x : JournalShown D). KeepsBy clock opened base x s a) (sym same_journal) keeps))

  moved : (clock other : C) (opened more : AtOpening D C) (base : Base) (j : JournalShown D) (s : State) (a : List Step)
      → TellsFewer clocks clock other → KeepsBy clock opened base j s a → KeepsBy other more base j s a
  moved clock other opened more base j s a fewer keeps = record {
    count = keeps.count;
    ended = keeps.ended;
    place = keeps.place;
    clock = λ moments found m told. keeps.clock moments found m (fewer m told);
    first = keeps.first;
    found = keeps.found;
    each = keeps.each;
    history = keeps.history;
    state = keeps.state;
    stands = keeps.stands;
    torn_step = keeps.torn_step;
    one = keeps.one;
    calm = keeps.calm;
    tried = keeps.tried;
    safe = keeps.safe;
  }

  pub keeps_still : (old new : Shown D C) → IsUnchanged old new → TellsFewer clocks old.clock new.clock
      → KeepsOn disks clocks old new
  keeps_still old new same fewer base keeps =
      along new.clock new.opened base old.journal new.journal old.current new.current old.entries new.entries same.0
      same.1 same.2
      (moved old.clock new.clock old.opened new.opened base old.journal old.current old.entries fewer keeps)

  fewer-same : (old new : Shown D C) → new.clock ≡ old.clock → TellsFewer clocks old.clock new.clock
  fewer-same old new same m told = subst (λ (c : C). clocks.tells c m) same told

  -- the clock was not asked
  pub keeps_same : (old new : Shown D C) → IsUnchanged old new → new.clock ≡ old.clock → KeepsOn disks clocks old new
  keeps_same old new same clock = keeps_still old new same (fewer-same old new clock)

  -- the same of a spool that is equal
  pub keeps_from : (old mid new : Shown D C) → mid ≡ old → KeepsOn disks clocks mid new → KeepsOn disks clocks old new
  keeps_from old mid new same keeps = subst (λ (v : Shown D C). KeepsOn disks clocks v new) same keeps

  -- ---- a step was made

  module _ (laws : DiskLaws disks) (step : Step) (old new : Shown D C) (clock : new.clock ≡ old.clock) where
    going-on : (fault : Option StepFault) → Appends disks step old new fault → fault ≢ Some Faults.Ended → (b : Bool)
        → old.journal.ended ≡ b → old.journal.ended ≡ false
    going-on fault a other true is = absurd (other (a.ended.1 is))
    going-on fault a other false is = is

    made-safe : (since over : ℕ) (found between : List (List ℕ)) (first torn_step : List Step)
        → Appends disks step old new None
        → IsHeld disks old.journal old.current (first ++ old.entries) → torn_step ≡ []
        → StaysSafe disks old.journal.disk since over found between first old.entries torn_step
        → StaysSafe disks new.journal.disk since over found between first (old.entries ++ step ∷ []) []
    made-safe since over found between first torn_step a held none x =
        let steps = first ++ old.entries in
        let more = old.entries ++ step ∷ [] in
        let there = a.told x.content x.told in
        let leaves = made disks step old new (a.crash (inl refl)) x.content x.told steps held a.told
        (a.done refl steps held) in
        let whole : steps ++ step ∷ [] ≡ first ++ more = append_assoc first old.entries (step ∷ []) in
        let now : (g : List ℕ) → disks.may_leave new.journal.disk g → IsLeftWith first more [] g = λ g may.
        ⊎_elim {C = IsLeftWith first more [] g} (λ here. inl (subst (StandsFor g) whole here))
        (λ here. inl (subst (StandsFor g) whole here)) (leaves.now g may) in
        let behind : more ≡ more ++ [] = sym (append-nil more) in
        let still : (g : List ℕ) → Reached first (old.entries ++ torn_step) g → Reached first (more ++ []) g = λ g was.
        reached_as first more (more ++ []) g behind
        (reached_first first old.entries (step ∷ []) g
        (reached_as first (old.entries ++ torn_step) (old.entries ++ []) g
        (ap (λ (t : List Step). old.entries ++ t) none) was)) in
        let here : (g : List ℕ) → Reached steps (step ∷ []) g → Reached first (more ++ []) g = λ g reached.
        reached_as first more (more ++ []) g behind (reached_second first old.entries (step ∷ []) g reached) in
        record {
          content = there.0;
          told = there.1;
          reads = now there.0 (laws.reads_image new.journal.disk there.0 there.1);
          now = now;
          synced = x.synced;
          opened = omega (arith, x.opened, leaves.during.later);
          each = λ g left.
              ⊎_elim {C = Reached first (more ++ []) g} (λ before. still g (x.each g before)) (here g)
              (leaves.during.since over g x.opened left);
          opening = λ g left.
              ⊎_elim {C = StandsForOne found between g ⊎ Reached first (more ++ []) g}
              (λ before. ⊎_elim {C = StandsForOne found between g ⊎ Reached first (more ++ []) g}
              (λ one. inl one) (λ was. inr (still g was)) (x.opening g before)) (λ reached. inr (here g reached))
              (leaves.during.since since g (omega (arith, x.synced, x.opened)) left);
        }

    keeps_made : Appends disks step old new None → KeepsOn disks clocks old new
    keeps_made a base keeps =
        let going = going-on None a (λ e. absurd cc) old.journal.ended refl in
        let done = a.done refl (keeps.first ++ old.entries) (keeps.stands going) in
        let whole : (keeps.first ++ old.entries) ++ step ∷ [] ≡ keeps.first ++ new.entries =
        append_assoc keeps.first old.entries (step ∷ []) ∙ ap (λ (x : List Step). keeps.first ++ x) (sym a.entries)
        in
        record {
          count = omega (arith, keeps.count, a.later);
          ended = λ e. let on : new.journal.ended ≡ false = a.going refl in absurd cc;
          place = a.place ∙ keeps.place;
          clock = λ moments found m told. keeps.clock moments found m (fewer-same old new clock m told);
          first = keeps.first;
          found = keeps.found;
          each = subst AreRecords whole done.each;
          history = subst IsHistory whole done.history;
          state = done.state_is ∙ ap (λ (x : List Step). after x) whole;
          stands = λ on. subst (Stands disks new) whole done;
          torn_step = [];
          one = omega arith;
          calm = λ on. refl;
          tried = none-tried keeps.first new.entries (subst IsHistory whole done.history);
          safe = λ bodies between found.
              subst
              (λ (x : List Step).
              StaysSafe disks new.journal.disk (since_of base) (over_of base) bodies between keeps.first x [])
              (sym a.entries)
              (made-safe (since_of base) (over_of base) bodies between keeps.first keeps.torn_step a
              (keeps.stands going) (keeps.calm going) (keeps.safe bodies between found));
        }

    -- ---- the disk failed in a step

    torn-safe : (since over : ℕ) (found between : List (List ℕ)) (first torn_step : List Step)
        → Appends disks step old new (Some Faults.Disk)
        → IsHeld disks old.journal old.current (first ++ old.entries) → torn_step ≡ []
        → StaysSafe disks old.journal.disk since over found between first old.entries torn_step
        → StaysSafe disks new.journal.disk since over found between first old.entries (step ∷ [])
    torn-safe since over found between first torn_step a held none x =
        let steps = first ++ old.entries in
        let more = old.entries ++ step ∷ [] in
        let there = a.told x.content x.told in
        let leaves = torn disks step old new (a.crash (inr refl)) x.content x.told steps held in
        let whole : steps ++ step ∷ [] ≡ first ++ more = append_assoc first old.entries (step ∷ []) in
        let now : (g : List ℕ) → disks.may_leave new.journal.disk g → IsLeftWith first old.entries (step ∷ []) g =
        λ g may.
        ⊎_elim {C = IsLeftWith first old.entries (step ∷ []) g}
        (λ here. inl (subst (StandsFor g) (append-nil steps) here))
        (λ here. inr (subst (StandsFor g) whole here)) (leaves.now g may) in
        let still : (g : List ℕ) → Reached first (old.entries ++ torn_step) g → Reached first more g = λ g was.
        reached_first first old.entries (step ∷ []) g
        (reached_as first (old.entries ++ torn_step) (old.entries ++ []) g
        (ap (λ (t : List Step). old.entries ++ t) none) was) in
        let here : (g : List ℕ) → Reached steps (step ∷ []) g → Reached first more g = λ g reached.
        reached_second first old.entries (step ∷ []) g reached in
        record {
          content = there.0;
          told = there.1;
          reads = now there.0 (laws.reads_image new.journal.disk there.0 there.1);
          now = now;
          synced = x.synced;
          opened = omega (arith, x.opened, leaves.during.later);
          each = λ g left.
              ⊎_elim {C = Reached first more g} (λ before. still g (x.each g before)) (here g)
              (leaves.during.since over g x.opened left);
          opening = λ g left.
              ⊎_elim {C = StandsForOne found between g ⊎ Reached first more g}
              (λ before. ⊎_elim {C = StandsForOne found between g ⊎ Reached first more g}
              (λ one. inl one) (λ was. inr (still g was)) (x.opening g before)) (λ reached. inr (here g reached))
              (leaves.during.since since g (omega (arith, x.synced, x.opened)) left);
        }

    torn-history : (first : List Step) → Appends disks step old new (Some Faults.Disk)
        → IsHistory (first ++ old.entries) → IsHeld disks old.journal old.current (first ++ old.entries)
        → IsHistory (first ++ (old.entries ++ step ∷ []))
    torn-history first a history held =
        let steps = first ++ old.entries in
        subst IsHistory (append_assoc first old.entries (step ∷ []))
        (possible-more empty steps step history ((a.crash (inr refl)).possible steps held))

    keeps_torn : Appends disks step old new (Some Faults.Disk) → KeepsOn disks clocks old new
    keeps_torn a base keeps =
        let going = going-on (Some Faults.Disk) a (λ e. absurd cc) old.journal.ended refl in
        record {
          count = omega (arith, keeps.count, a.later);
          ended = λ e. omega (arith, keeps.count, a.disk refl);
          place = a.place ∙ keeps.place;
          clock = λ moments found m told. keeps.clock moments found m (fewer-same old new clock m told);
          first = keeps.first;
          found = keeps.found;
          each = subst (λ (x : List Step). AreRecords (keeps.first ++ x)) (sym a.entries) keeps.each;
          history = subst (λ (x : List Step). IsHistory (keeps.first ++ x)) (sym a.entries) keeps.history;
          state = a.still (λ e. absurd cc) ∙ keeps.state
              ∙ ap (λ (x : List Step). after (keeps.first ++ x)) (sym a.entries);
          stands = λ on. let ended : new.journal.ended ≡ true = a.marked refl in absurd cc;
          torn_step = step ∷ [];
          one = omega arith;
          calm = λ on. let ended : new.journal.ended ≡ true = a.marked refl in absurd cc;
          tried = subst (λ (x : List Step). IsHistory (keeps.first ++ (x ++ step ∷ []))) (sym a.entries)
              (torn-history keeps.first a keeps.history (keeps.stands going));
          safe = λ bodies between found.
              subst
              (λ (x : List Step).
              StaysSafe disks new.journal.disk (since_of base) (over_of base) bodies between keeps.first x (step ∷ []))
              (sym a.entries)
              (torn-safe (since_of base) (over_of base) bodies between keeps.first keeps.torn_step a
              (keeps.stands going) (keeps.calm going) (keeps.safe bodies between found));
        }

    -- ---- a step was made or refused

    keeps_refused : (fault : StepFault) → fault ≢ Faults.Disk → Appends disks step old new (Some fault)
        → KeepsOn disks clocks old new
    keeps_refused fault other a =
        let same = a.kept (λ e. absurd cc) (λ e. absurd (other cc)) in
        keeps_same old new (same.0, same.1, a.entries) clock

    pub keeps_appends : (fault : Option StepFault) → Appends disks step old new fault → KeepsOn disks clocks old new
    keeps_appends None a = keeps_made a
    keeps_appends (Some (Faults.Full size need)) a = keeps_refused (Faults.Full size need) (λ e. absurd cc) a
    keeps_appends (Some Faults.Disk) a = keeps_torn a
    keeps_appends (Some Faults.Ended) a = keeps_refused Faults.Ended (λ e. absurd cc) a
    keeps_appends (Some (Faults.Fenced generation)) a =
        keeps_refused (Faults.Fenced generation) (λ e. absurd cc) a
    keeps_appends (Some (Faults.NoLane lane)) a = keeps_refused (Faults.NoLane lane) (λ e. absurd cc) a
    keeps_appends (Some (Faults.BusyLanes count)) a = keeps_refused (Faults.BusyLanes count) (λ e. absurd cc) a
    keeps_appends (Some Faults.Unexpected) a = keeps_refused Faults.Unexpected (λ e. absurd cc) a
    keeps_appends (Some (Faults.Spent last)) a = keeps_refused (Faults.Spent last) (λ e. absurd cc) a
    keeps_appends (Some Faults.Memory) a = keeps_refused Faults.Memory (λ e. absurd cc) a

-- ---- it was opened

found-is : (told : Option (List ℕ)) (goes_on found between bodies middle : List (List ℕ))
    → ◌≡◌ {A = List (List (List ℕ))} (goes_on ∷ where_told told found between) (goes_on ∷ bodies ∷ middle ∷ [])
    → (f : List ℕ) × (told ≡ Some f) × (found ≡ bodies) × (between ≡ middle)
found-is None goes_on found between bodies middle e = absurd cc
found-is (Some f) goes_on found between bodies middle e = (f, refl, cc, cc)

among-listed : (listed : Option (List ℕ)) (moments : List ℕ) (m : ℕ) → where_listed listed ≡ moments ∷ []
    → IsAmong listed m → Contains moments m
among-listed None moments m e among = absurd cc
among-listed (Some listed) moments m e among = let same : listed ≡ moments = cc in rw same at among

module _ {D C : Type 0} (disks : DiskView D) (clocks : ClockView C) (laws : DiskLaws disks)
    (clock_laws : ClockLaws clocks) (old : D) (spool : Shown D C) (o : HasOpened disks old spool)
    (clock : spool.clock ≡ spool.opened.clock) where
  -- what opening may leave is what was found, what it was compacted to, or what the spool goes on with
  left-is : (f g : List ℕ) → disks.content old ≡ Some f → IsSameOrLeft f g
      → StandsForOne spool.opened.found spool.opened.between g ⊎ Reached o.steps [] g
  left-is f g was same = by (goes_on_left f g o.found o.steps (o.opens f was) same)
    where
      is : IsFound f o.found
      is = (o.opens f was).is

      by : (left : List Step) × IsLeftOf is.first_of_two is.size o.found left × StandsFor g left
          → StandsForOne spool.opened.found spool.opened.between g ⊎ Reached o.steps [] g
      by (left, which, stands) = one left which stands
        where
          one : (left : List Step) → IsLeftOf is.first_of_two is.size o.found left → StandsFor g left
              → StandsForOne spool.opened.found spool.opened.between g ⊎ Reached o.steps [] g
          one left as_it_was stands =
              inl (record { steps = o.found; bodies = inl (sym o.found_is); stands = stands })
          one left at_base stands = inl (record {
            steps = o.between;
            bodies = inr (sym o.between_is);
            stands = subst (StandsFor g) (sym (o.compacted f was is)) stands;
          })
          one left at_opened stands =
              inr (0, with_none g o.steps (subst (StandsFor g) (sym (o.opens f was).goes_on_is) stands))

  opened-safe : (f : List ℕ) → disks.content old ≡ Some f
      → StaysSafe disks spool.journal.disk (disks.moment spool.opened.synced) (disks.moment spool.opened.over)
      spool.opened.found spool.opened.between o.steps spool.entries []
  opened-safe f was =
      let there = o.told f was in
      let from = o.synced f was in
      let behind : o.steps ≡ o.steps ++ spool.entries = sym (append-nil o.steps)
      ∙ ap (λ (x : List Step). o.steps ++ x) (sym o.none) in
      let tried : spool.entries ++ [] ≡ [] = append-nil spool.entries ∙ o.none in
      let here : StandsFor there.0 o.steps =
      stands_held disks spool.journal spool.current o.steps o.stands there.0 (o.stands.holds.file there.0 there.1) in
      let same : (g : List ℕ) → disks.may_leave spool.journal.disk g → StandsFor g o.steps = λ g may.
      subst (λ (x : List ℕ). StandsFor x o.steps) (sym (o.stands.holds.settled there.0 there.1 g may)) here in
      let now : (g : List ℕ) → disks.may_leave spool.journal.disk g → IsLeftWith o.steps spool.entries [] g = λ g may.
      inl (subst (StandsFor g) behind (same g may)) in
      let at_end : disks.moment spool.opened.over ≡ disks.moment spool.journal.disk =
      ap (λ (d : D). disks.moment d) o.over in
      record {
        content = there.0;
        told = there.1;
        reads = now there.0 (laws.reads_image spool.journal.disk there.0 there.1);
        now = now;
        synced = (let until = from.until in omega (arith, until, at_end));
        opened = omega (arith, at_end);
        each = λ g left. (
          0,
          with_none g o.steps (same g (laws.only_now spool.journal.disk g
              (subst (λ (n : ℕ). disks.left_since spool.journal.disk n g) at_end left))),
        );
        opening = λ g left.
            ⊎_elim
            {C = StandsForOne spool.opened.found spool.opened.between g ⊎ Reached o.steps (spool.entries ++ []) g}
            (λ one. inl one) (λ reached. inr (reached_as o.steps [] (spool.entries ++ []) g (sym tried) reached))
            (left-is f g was (from.left g left));
      }

  pub keeps_opened : Keeps disks clocks spool (base_of disks clocks spool)
  keeps_opened =
      let behind : o.steps ≡ o.steps ++ spool.entries = sym (append-nil o.steps)
      ∙ ap (λ (x : List Step). o.steps ++ x) (sym o.none) in
      record {
        count = omega (arith, o.later, ap (λ (d : D). disks.faults d) o.disk);
        ended = λ e. let going : spool.journal.ended ≡ false = o.stands.holds.going in absurd cc;
        place = sym o.first;
        clock = λ moments found m told.
            among-listed (clocks.moments spool.opened.clock) moments m found
            ((clock_laws.listed spool.opened.clock m).0 (subst (λ (c : C). clocks.tells c m) clock told));
        first = o.steps;
        found = sym o.bodies;
        each = subst AreRecords behind o.stands.each;
        history = subst IsHistory behind o.stands.history;
        state = o.stands.state_is ∙ ap (λ (x : List Step). after x) behind;
        stands = λ on. subst (Stands disks spool) behind o.stands;
        torn_step = [];
        one = omega arith;
        calm = λ on. refl;
        tried = none-tried o.steps spool.entries (subst IsHistory behind o.stands.history);
        safe = λ bodies middle found.
            let is = found-is (disks.content spool.opened.disk) spool.opened.bodies spool.opened.found
            spool.opened.between bodies middle found in
            subst
            (λ (x : List (List ℕ)).
            StaysSafe disks spool.journal.disk (disks.moment spool.opened.synced) (disks.moment spool.opened.over) x
            middle o.steps spool.entries []) is.2
            (subst
            (λ (x : List (List ℕ)).
            StaysSafe disks spool.journal.disk (disks.moment spool.opened.synced) (disks.moment spool.opened.over)
            spool.opened.found x o.steps spool.entries []) is.3
            (opened-safe is.0 (ap (λ (d : D). disks.content d) (sym o.disk) ∙ is.1)));
      }

-- ---- one history is found

front-records : (a b : List Step) → AreRecords (a ++ b) → AreRecords a
front-records [] b each = tt
front-records (step ∷ a) b each = (each.0, front-records a b each.1)

same-steps : (a b : List Step) → AreRecords a → AreRecords b → map body_of a ≡ map body_of b → a ≡ b
same-steps [] [] fits fit e = refl
same-steps [] (t ∷ b) fits fit e = absurd cc
same-steps (s ∷ a) [] fits fit e = absurd cc
same-steps (s ∷ a) (t ∷ b) fits fit e =
    let here : body_of s ≡ body_of t = cc in
    let behind : map body_of a ≡ map body_of b = cc in
    let first : s ≡ t = body_same s t fits.0 fit.0 here in
    let rest : a ≡ b = same-steps a b fits.1 fit.1 behind in
    cc

-- spools that keep under one base have one history from opening
pub one_first : {D C : Type 0} (disks : DiskView D) (clocks : ClockView C) (s t : Shown D C) (base : Base)
    (k : Keeps disks clocks s base) (l : Keeps disks clocks t base) → k.first ≡ l.first
one_first disks clocks s t base k l =
    same-steps k.first l.first (front-records k.first s.entries k.each) (front-records l.first t.entries l.each)
    (k.found ∙ sym l.found)

-- it is the one that was found
pub first_found : {D C : Type 0} (disks : DiskView D) (clocks : ClockView C) (s : Shown D C) (base : Base)
    (k : Keeps disks clocks s base) (steps : List Step) → AreRecords steps → map body_of steps ≡ found_of base
    → k.first ≡ steps
first_found disks clocks s base k steps each found =
    same-steps k.first steps (front-records k.first s.entries k.each) each (k.found ∙ sym found)
