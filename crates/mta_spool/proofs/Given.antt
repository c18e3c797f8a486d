-- What opening a spool answers.
use Rattle.std.proofs.Common.{inl, inr, ⊎_elim, ◌≡◌, ◌≢◌, ◌⊎◌, ℕ, ◌+◌, ◌≤◌, ◌<◌, eqb, Bool, true, false, List, [], ◌∷◌}
use Rattle.std.proofs.Common.{◌++◌}
use Rattle.std.proofs.Common.{length, map, Some, Result, Ok, Err, refl, sym, ap, subst, ◌∙◌, arith}
use Rattle.std.specs.Prelude.{if◌then◌else◌}
use Rattle.std.proofs.lemmas.Bool.{cases_eq, eqb-true}
use Rattle.mta_edge.specs.Causes.{Rose}
use Rattle.mta_edge.specs.Crashes.{AtAnyMoment}
use Rattle.mta_edge.specs.Views.{DiskView, StaysTold}
use Rattle.mta_edge.proofs.Moments.{joined, weaken}
use Rattle.mta_journal.specs.Bodies.{records, HasBodiesAt, StandsFor as HoldsBodies}
use Rattle.mta_journal.specs.Opening.{IsSynced}
use Rattle.mta_journal.specs.Shown.{Shown as JournalShown, IsPlain}
use Rattle.mta_journal.specs.declared.why.OpenWhy.{OpenWhy as JournalWhy}
use Rattle.mta_journal.specs.declared.why.OpenWhy.TheVariants as JournalWhys
use Rattle.mta_journal.proofs.OpenedDisk.{stands_for}
use Rattle.mta_journal.proofs.Unique.{one_area, one_list}
use Rattle.mta_records.specs.Body.{body_of}
use Rattle.mta_records.specs.declared.step.Step.{Step}
use Rattle.mta_records.specs.declared.step.Step.TheVariants.{Format}
use Rattle.mta_histories.specs.Compact.{base, opened, IsLeftOf, as_it_was, at_base, at_opened}
use Rattle.mta_histories.specs.History.{after}
use Rattle.mta_histories.specs.Lanes.{State}
use Rattle.mta_images.specs.Image.{HasOnlyArea, IsSnapshot, OpensAt, StandsFor, in_only, in_first as at_first, size_of}
use Rattle.mta_images.specs.Opened.{base_of, IsFound, IsFullForFormat, IsLeftByOpening, IsWeighed, Opens}
use Rattle.mta_images.specs.Opened.{in_first, elsewhere}
use Rattle.mta_images.proofs.GoingOn.{found_of}
use Rattle.mta_images.proofs.Unique.{one_history}
use Rattle.mta_spool.specs.GoingOn.{BeforeOrLeft, GoesOnFrom, GoesOnSafely, HasFound, HasNotOpened, HasOpened}
use Rattle.mta_spool.specs.GoingOn.{IsGateFrom, IsLeftFrom, IsSameOrLeft, IsStopped, StandsForLeft, why_of_journal}
use Rattle.mta_spool.specs.GoingOn.{unsynced, synced}
use Rattle.mta_spool.specs.Opening.{BeforeOrSame, HasRefused, IsLeft, IsSame}
use Rattle.mta_spool.specs.Opening.{unsynced as was_unsynced, synced as was_synced}
use Rattle.mta_spool.specs.Shown.{Shown}
use Rattle.mta_spool.specs.declared.why.OpenWhy.{OpenWhy}
use Rattle.mta_spool.specs.declared.why.OpenWhy.TheVariants as Whys
use Rattle.mta_spool.proofs.Compacted.{short_stays}

-- ---- what is the same may be left

left_of_same : (f g : List ℕ) → IsSame f g → IsSameOrLeft f g
left_of_same f g (inl same) = inl same
left_of_same f g (inr both) = inr (record {
  found = both.0;
  left = both.0;
  leaves = record { is = found_of f both.0 both.1; left_is = as_it_was };
  stands = both.2;
})

module _ {D : Type 0} (model : DiskView D) (old : D) where
  before_of : (f g : List ℕ) → BeforeOrSame model old f g → BeforeOrLeft model old f g
  before_of f g (inl before) = inl before
  before_of f g (inr same) = inr (left_of_same f g same)

  stopped_of : (f : List ℕ) (new : D) → IsLeft model f old new → IsStopped model f old new
  stopped_of f new (was_unsynced same left) = unsynced same left
  stopped_of f new (was_synced x) = synced (record {
    first = x.first;
    sync = x.sync;
    left = record {
      from = x.same.from;
      until = x.same.until;
      left = λ g left. left_of_same f g (x.same.same g left);
    };
  })

  -- ---- nothing was found

  why_disk : (why : JournalWhy) → why_of_journal why ≡ Whys.Disk → why ≡ JournalWhys.Disk
  why_disk (JournalWhys.NotSpool at) e = absurd cc
  why_disk JournalWhys.Disk e = refl
  why_disk JournalWhys.Memory e = absurd cc

  why_place : (why : JournalWhy) (at : ℕ) → why_of_journal why ≡ Whys.NotSpool at → why ≡ JournalWhys.NotSpool at
  why_place (JournalWhys.NotSpool n) at e = let same : n ≡ at = cc in ap (λ (m : ℕ). JournalWhys.NotSpool m) same
  why_place JournalWhys.Disk at e = absurd cc
  why_place JournalWhys.Memory at e = absurd cc

  why_full : (why : JournalWhy) (size need : ℕ) → why_of_journal why ≡ Whys.Full size need → ⊥
  why_full (JournalWhys.NotSpool n) size need e = absurd cc
  why_full JournalWhys.Disk size need e = absurd cc
  why_full JournalWhys.Memory size need e = absurd cc

  pub not_found : (new : D) (why : JournalWhy) → HasRefused model old new why
      → HasNotOpened model old new (why_of_journal why)
  not_found new why r = record {
    later = r.later;
    disk = λ e. r.disk (why_disk why e);
    not_spool = λ at e. r.not_spool at (why_place why at e);
    full = λ size need e. absurd (why_full why size need e);
    kept = r.kept;
    told = r.told;
    images = λ f was.
        weaken model (BeforeOrSame model old f) (BeforeOrLeft model old f) old new (before_of f) (r.images f was);
    left = λ f was. stopped_of f new (r.left f was);
  }

-- ---- the history was found

opened_by : (b c : Bool) (m n : ℕ) (steps : List Step) → base b m steps ≡ base c n steps
    → opened b m steps ≡ opened c n steps
opened_by b c m n steps same =
    ap (λ (x : List Step). if eqb (after steps).machine.format 2 then x else x ++ Format 2 ∷ []) same

left_by : (b c : Bool) (m n : ℕ) (steps left : List Step) → base b m steps ≡ base c n steps
    → IsLeftOf b m steps left → IsLeftOf c n steps left
left_by b c m n steps left same as_it_was = as_it_was
left_by b c m n steps left same at_base = subst (λ (x : List Step). IsLeftOf c n steps x) (sym same) at_base
left_by b c m n steps left same at_opened =
    subst (λ (x : List Step). IsLeftOf c n steps x) (sym (opened_by b c m n steps same)) at_opened

module _ {D : Type 0} (model : DiskView D) (old : D) (journal : JournalShown D) (state : State)
    (bodies : List (List ℕ)) (first : D) (fd : HasFound model old journal state bodies first) where
  some_steps : (xs : List Step) → (xs ≡ []) ⊎ ((xs ≡ []) → ⊥)
  some_steps [] = inl refl
  some_steps (x ∷ xs) = inr (λ e. absurd cc)

  no_bodies : (xs : List Step) → map body_of xs ≡ [] → xs ≡ []
  no_bodies [] e = refl
  no_bodies (x ∷ xs) e = absurd cc

  -- where there are steps the disk that was handed in has their bodies in the journal's area
  there : (f : List ℕ) → model.content old ≡ Some f → (fd.steps ≡ [] → ⊥)
      → HasBodiesAt journal.first (map body_of fd.steps) f
  there f was some = fd.held.holds.file f (fd.kept f was filled)
    where
      filled : HoldsBodies f [] → ⊥
      filled none = some (no_bodies fd.steps (one_list f (map body_of fd.steps) [] (fd.history f was).bodies none))

  -- where there are none the journal is short
  short_none : fd.steps ≡ [] → journal.size < 1048576
  short_none none = ⊎_elim {C = journal.size < 1048576} small
      (λ (other : IsPlain journal.first → ⊥). absurd (alone (fd.held.alone other))) plain_or_not
    where
      empty_not : {x : Step} → ◌≡◌ {A = List Step} [] (x ∷ []) → ⊥
      empty_not e = absurd cc

      alone : IsSnapshot fd.steps → ⊥
      alone one = empty_not (sym none ∙ one.1)

      small : IsPlain journal.first → journal.size < 1048576
      small plain =
          let le : journal.first ≤ 23 = ⊎_elim {C = journal.first ≤ 23}
          (λ (e : journal.first ≡ 8). omega (arith, e)) (λ (e : journal.first ≡ 23). omega (arith, e)) plain in
          let size = fd.held.holds.size in
          omega (arith, size, le, ap (λ (xs : List Step). length (records (map body_of xs))) none)

      plain_or_not : IsPlain journal.first ⊎ (IsPlain journal.first → ⊥)
      plain_or_not = ⊎_elim {C = IsPlain journal.first ⊎ (IsPlain journal.first → ⊥)}
          (λ (e : journal.first ≡ 8). inl (inl e))
          (λ (not_eight : journal.first ≢ 8).
          ⊎_elim {C = IsPlain journal.first ⊎ (IsPlain journal.first → ⊥)}
          (λ (e : journal.first ≡ 23). inl (inr e))
          (λ (not_more : journal.first ≢ 23).
          inr (λ plain. ⊎_elim {C = ⊥} (λ (e : journal.first ≡ 8). not_eight e)
          (λ (e : journal.first ≡ 23). not_more e) plain))
          (cases_eq journal.first 23))
          (cases_eq journal.first 8)

  -- the journal decides as the image does
  base_agrees : (f : List ℕ) → model.content old ≡ Some f → (is : IsFound f fd.steps)
      → base is.first_of_two is.size fd.steps ≡ base (eqb journal.first 23) journal.size fd.steps
  base_agrees f was is = ⊎_elim
      {C = base is.first_of_two is.size fd.steps ≡ base (eqb journal.first 23) journal.size fd.steps}
      (λ (none : fd.steps ≡ []).
      short_stays is.first_of_two is.size fd.steps (short_there none is.weighed)
      ∙ sym (short_stays (eqb journal.first 23) journal.size fd.steps (short_none none)))
      (λ (some : fd.steps ≡ [] → ⊥). by some is.weighed) (some_steps fd.steps)
    where
      short_there : fd.steps ≡ [] → IsWeighed f fd.steps is.first_of_two is.size → is.size < 1048576
      short_there none (in_first here b size) =
          omega (arith, size, ap (λ (xs : List Step). length (records (map body_of xs))) none)
      short_there none (elsewhere not_there b size) = omega (arith, size)

      by : (fd.steps ≡ [] → ⊥) → IsWeighed f fd.steps is.first_of_two is.size
          → base is.first_of_two is.size fd.steps ≡ base (eqb journal.first 23) journal.size fd.steps
      by some (in_first here b size) =
          let at : journal.first ≡ 23 =
          (one_area f journal.first 23 (map body_of fd.steps) (map body_of fd.steps) (there f was some) here).0 in
          let size_is : is.size ≡ journal.size = omega (arith, size, fd.held.holds.size, at) in
          let chosen : is.first_of_two ≡ eqb journal.first 23 = b ∙ ap (λ (n : ℕ). eqb n 23) (sym at) in
          ap (λ (c : Bool). base c is.size fd.steps) chosen
          ∙ ap (λ (n : ℕ). base (eqb journal.first 23) n fd.steps) size_is
      by some (elsewhere not_there b size) = ap (λ (c : Bool). base c is.size fd.steps) b
          ∙ sym (other (eqb journal.first 23) refl)
        where
          other : (c : Bool) → eqb journal.first 23 ≡ c → base c journal.size fd.steps ≡ fd.steps
          other false e = refl
          other true e =
              absurd (not_there (subst (λ (n : ℕ). HasBodiesAt n (map body_of fd.steps) f)
              (eqb-true journal.first 23 e) (there f was some)))

  opens_on : (f : List ℕ) → model.content old ≡ Some f
      → Opens f fd.steps (opened (eqb journal.first 23) journal.size fd.steps)
  opens_on f was =
      let is = found_of f fd.steps (fd.history f was) in
      record {
        is = is;
        goes_on_is = sym (opened_by is.first_of_two (eqb journal.first 23) is.size journal.size fd.steps
            (base_agrees f was is));
      }

  left_on : (f g : List ℕ) → model.content old ≡ Some f
      → StandsForLeft (eqb journal.first 23) journal.size fd.steps g → IsSameOrLeft f g
  left_on f g was left =
      let is = found_of f fd.steps (fd.history f was) in
      inr (record {
        found = fd.steps;
        left = left.0;
        leaves = record {
          is = is;
          left_is = left_by (eqb journal.first 23) is.first_of_two journal.size is.size fd.steps left.0
              (sym (base_agrees f was is)) left.1;
        };
        stands = left.2;
      })

  -- ---- where the records stand

  some_behind : (x : List ℕ) (xs : List (List ℕ)) → x ∷ xs ≡ [] → ⊥
  some_behind x xs e = absurd cc

  -- where the disk has bodies in the only area the journal does
  only_there : (f : List ℕ) → model.content old ≡ Some f → HasOnlyArea f → journal.first ≡ 8
  only_there f was only =
      let all : List (List ℕ) = only.body ∷ only.bodies in
      let same : map body_of fd.steps ≡ all =
      one_list f (map body_of fd.steps) all (fd.history f was).bodies (stands_for 8 f all only.has) in
      let some : fd.steps ≡ [] → ⊥ =
      λ none. some_behind only.body only.bodies (sym same ∙ ap (map body_of) none) in
      (one_area f journal.first 8 (map body_of fd.steps) all (there f was some) only.has).0

  -- and where the journal has them there the disk does
  only_here : (f : List ℕ) → model.content old ≡ Some f → journal.first ≡ 8 → HasOnlyArea f
  only_here f was eight = has fd.steps refl
    where
      has : (xs : List Step) → fd.steps ≡ xs → HasOnlyArea f
      has [] e =
          let some = fd.some eight in
          let size = fd.held.holds.size in
          absurd (omega (arith, some, eight, size, ap (λ (ys : List Step). length (records (map body_of ys))) e))
      has (x ∷ xs) e = record {
        body = body_of x;
        bodies = map body_of xs;
        has = subst (λ (n : ℕ). HasBodiesAt n (map body_of (x ∷ xs)) f) eight
            (subst (λ (ys : List Step). HasBodiesAt journal.first (map body_of ys) f) e
            (there f was (λ none. some_step x xs (sym e ∙ none))));
      }
        where
          some_step : (x : Step) (xs : List Step) → x ∷ xs ≡ [] → ⊥
          some_step x xs e = absurd cc

  place_on : (f : List ℕ) → model.content old ≡ Some f → (gate : ℕ) → IsGateFrom journal.first gate → OpensAt f gate
  place_on f was gate is = ⊎_elim {C = OpensAt f gate}
      (λ (eight : journal.first ≡ 8). in_only (is.0 eight) (only_here f was eight))
      (λ (other : journal.first ≢ 8). at_first (is.1 other) (λ only. other (only_there f was only)))
      (cases_eq journal.first 8)

  gate_back : (f : List ℕ) → model.content old ≡ Some f → (gate : ℕ) → OpensAt f gate → IsGateFrom journal.first gate
  gate_back f was gate (in_only eight only) =
      ((λ e. eight), (λ other. absurd (other (only_there f was only))))
  gate_back f was gate (at_first more not_only) =
      ((λ e. absurd (not_only (only_here f was e))), (λ other. more))

  some_gate : (gate : ℕ) × IsGateFrom journal.first gate
  some_gate = ⊎_elim {C = (gate : ℕ) × IsGateFrom journal.first gate}
      (λ (eight : journal.first ≡ 8). (8, ((λ e. refl), (λ other. absurd (other eight)))))
      (λ (other : journal.first ≢ 8). (23, ((λ e. absurd (other e)), (λ o. refl))))
      (cases_eq journal.first 8)

  module _ {T : Type 0} (new : JournalShown D) (now : State) (result : Result T OpenWhy)
      (go : GoesOnFrom model fd.steps journal new now result) where
    -- ---- what a crash leaves

    told_on : StaysTold model old new.disk
    told_on f was = let x = fd.told f was in go.told x.0 x.1

    later_on : model.faults old ≤ model.faults new.disk
    later_on = omega (arith, fd.later, go.later)

    images_on : GoesOnSafely model old new.disk
    images_on f was =
        let x = fd.told f was in
        joined model (BeforeOrLeft model old f) old journal.disk new.disk
        (weaken model (BeforeOrSame model old f) (BeforeOrLeft model old f) old journal.disk (before_of model old f)
        (fd.images f was))
        (weaken model (StandsForLeft (eqb journal.first 23) journal.size fd.steps) (BeforeOrLeft model old f)
        journal.disk new.disk (λ g left. inr (left_on f g was left)) (go.images x.0 x.1))

    since_on : (f : List ℕ) → model.content old ≡ Some f → IsLeftFrom model f old new.disk (model.moment first)
    since_on f was =
        let x = fd.told f was in
        let before = fd.since f was in
        let during = go.images x.0 x.1 in
        let later = during.later in
        record {
          from = before.from;
          until = (let until = before.until in omega (arith, until, later));
          left = λ g left. ⊎_elim {C = IsSameOrLeft f g} (λ was_left. left_of_same f g (before.same g was_left))
              (λ one. left_on f g was one) (during.since (model.moment first) g before.until left);
        }

  -- ---- it was not gone on with

  pub not_gone_on : {T : Type 0} (new : JournalShown D) (now : State) (why : OpenWhy)
      → GoesOnFrom {T = T} model fd.steps journal new now (Err why) → HasNotOpened model old new.disk why
  not_gone_on {T} new now why go = record {
    later = later_on new now (Err why) go;
    disk = λ e.
        let rose = go.disk (ap (λ (x : OpenWhy). Err x) e) in
        let before = fd.later in
        omega (arith, rose, before);
    not_spool = λ at e. absurd (go.spool at (ap (λ (x : OpenWhy). Err x) e));
    full = λ size need e f was.
        let full = go.full size need (ap (λ (x : OpenWhy). Err x) e) in
        let is = found_of f fd.steps (fd.history f was) in
        let gate = some_gate in
        record {
          found = fd.steps;
          is = is;
          older = full.0;
          used = (
            gate.0,
            place_on f was gate.0 gate.1,
            full.3 gate.0 gate.1 ∙ ap (λ (x : List Step). size_of gate.0 x) (sym (base_agrees f was is)),
          );
          need_is = full.1;
          over = full.2;
        };
    kept = λ f was none. absurd (none fd.steps (fd.history f was));
    told = told_on new now (Err why) go;
    images = images_on new now (Err why) go;
    left = λ f was. synced (record { first = first; sync = fd.sync; left = since_on new now (Err why) go f was });
  }

  -- ---- it was

  fits_on : {T : Type 0} (new : JournalShown D) (now : State) (x : T)
      → GoesOnFrom {T = T} model fd.steps journal new now (Ok x) → (f : List ℕ) → model.content old ≡ Some f
      → (size need : ℕ) → IsFullForFormat f size need → ⊥
  fits_on new now x go f was size need full = by full.found full.is full.older full.used
    where
      Used : (xs : List Step) → IsFound f xs → Type 0
      Used xs is = (gate : ℕ) × OpensAt f gate × (size ≡ size_of gate (base_of is))

      at : (is : IsFound f fd.steps) → eqb (after fd.steps).machine.format 2 ≡ false → Used fd.steps is → ⊥
      at is older used =
          let fits = go.fits refl older used.0 (gate_back f was used.0 used.1) in
          let here : size ≡ size_of used.0 (base (eqb journal.first 23) journal.size fd.steps) =
          used.2 ∙ ap (λ (y : List Step). size_of used.0 y) (base_agrees f was is) in
          let over = full.over in
          let needs = full.need_is in
          absurd (omega (arith, fits, here, over, needs))

      by : (found : List Step) (is : IsFound f found) → eqb (after found).machine.format 2 ≡ false → Used found is → ⊥
      by found is =
          subst
          (λ (xs : List Step). (of : IsFound f xs) → eqb (after xs).machine.format 2 ≡ false → Used xs of → ⊥)
          (sym (one_history f found fd.steps is.stands (fd.history f was))) at is

  pub gone_on : {C T : Type 0} (spool : Shown D C) (x : T)
      → GoesOnFrom {T = T} model fd.steps journal spool.journal spool.current (Ok x) → spool.opened.synced ≡ first
      → spool.entries ≡ [] → spool.opened.disk ≡ old → spool.opened.over ≡ spool.journal.disk
      → spool.opened.first ≡ spool.journal.first → spool.opened.found ≡ bodies
      → spool.opened.between ≡ map body_of (base (eqb journal.first 23) journal.size fd.steps)
      → spool.opened.bodies ≡ map body_of (opened (eqb journal.first 23) journal.size fd.steps)
      → HasOpened model old spool
  gone_on spool x go sync none disk over gate found between given = record {
    found = fd.steps;
    between = base (eqb journal.first 23) journal.size fd.steps;
    steps = opened (eqb journal.first 23) journal.size fd.steps;
    stands = go.done refl;
    opens = opens_on;
    compacted = λ f was is. sym (base_agrees f was is);
    place = λ f was. place_on f was spool.journal.first (go.place refl);
    fits = fits_on spool.journal spool.current x go;
    later = later_on spool.journal spool.current (Ok x) go;
    told = told_on spool.journal spool.current (Ok x) go;
    images = images_on spool.journal spool.current (Ok x) go;
    sync = subst (λ (d : D). IsSynced model old d) (sym sync) fd.sync;
    synced = λ f was.
        subst (λ (d : D). IsLeftFrom model f old spool.journal.disk (model.moment d)) (sym sync)
        (since_on spool.journal spool.current (Ok x) go f was);
    none = none;
    disk = disk;
    over = over;
    first = gate;
    found_is = found ∙ fd.bodies_are;
    between_is = between;
    bodies = given;
  }
