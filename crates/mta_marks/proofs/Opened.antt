-- What opening a disk of marks leaves, and one mark more.
use Rattle.std.proofs.Common.{inl, inr, ⊎_elim, ◌≡◌, ◌≢◌, ◌+◌, ◌≤◌, ◌<◌, ℕ, List, [], ◌∷◌, ◌++◌, length, map, Some}
use Rattle.std.proofs.Common.{Result}
use Rattle.std.proofs.Common.{Ok, Err, refl, sym, ap, subst, ◌∙◌, arith}
use Rattle.std.specs.Prelude.{◌⊎◌, IsErrOf}
use Rattle.mta_edge.specs.Causes.{Rose}
use Rattle.mta_edge.specs.Crashes.{AtAnyMoment, CrashLeaves}
use Rattle.mta_edge.specs.Views.{DiskLaws, DiskView, StaysTold, WhereTold}
use Rattle.mta_edge.proofs.Moments.{joined, weaken}
use Rattle.mta_images.specs.Image.{HasOnlyArea, OpensAt, in_first, in_only}
use Rattle.mta_journal.specs.Appending.{Appends}
use Rattle.mta_journal.specs.Bodies.{records, HasBodiesAt, StandsFor as HoldsBodies}
use Rattle.mta_journal.specs.Compacting.{Settles}
use Rattle.mta_journal.specs.Opening.{BeforeOrSame, HasRefused, IsLeft, IsSameFrom, IsSynced, KeepsFilled, synced}
use Rattle.mta_journal.specs.Shown.{Holds, IsPlain, Shown as JournalShown}
use Rattle.mta_journal.specs.Stages.{HasEither}
use Rattle.mta_journal.specs.declared.journal.AppendFault.{AppendFault}
use Rattle.mta_journal.specs.declared.journal.AppendFault.TheVariants as Faults
use Rattle.mta_journal.specs.declared.why.OpenWhy.{OpenWhy}
use Rattle.mta_journal.specs.declared.why.OpenWhy.TheVariants as Whys
use Rattle.mta_journal.proofs.OpenedDisk.{stands_for}
use Rattle.mta_journal.proofs.Unique.{one_area, one_list as one_list_of_bodies}
use Rattle.mta_marks.specs.declared.mark.Mark.{Mark}
use Rattle.mta_marks.specs.declared.mark.Standing.{Standing}
use Rattle.mta_marks.specs.Image.{NoMarksAt, StandsFor, StopsAt}
use Rattle.mta_marks.specs.Left.{IsWithOrWithout, MarksLeft}
use Rattle.mta_marks.specs.Marks.{AreMarks, body_of}
use Rattle.mta_marks.specs.Opening.{Adds, BeforeOrStands, HasFound, HasNotOpened, HasOpened, IsHeld, Shown, StandsSince}
use Rattle.mta_marks.specs.Opening.{why_of_settle}
use Rattle.mta_marks.specs.Replaying.{HasStopped, IsReplay}
use Rattle.mta_marks.proofs.Lefts.{kept_left, opened_left, same_stands}

-- what opening a journal says of it, of its bodies, and of the disk as the first sync left it
pub record IsOpened {E : Type 0} (model : DiskView E) (old : E) (journal : JournalShown E) (bodies : List (List ℕ))
    (first : E) : Type 0 where
  pub holds : Holds model journal bodies
  pub stood : WhereTold model old (λ f. HoldsBodies f bodies)
  pub some : journal.first ≡ 8 → 9 < journal.size
  pub later : model.faults old ≤ model.faults journal.disk
  pub told : StaysTold model old journal.disk
  pub kept : KeepsFilled model old journal.disk
  pub images : CrashLeaves model (BeforeOrSame model old) old journal.disk
  pub since : WhereTold model old (λ f. IsSameFrom model f old journal.disk (model.moment first))
  pub sync : IsSynced model old first

some_behind : (xs ys : List (List ℕ)) (y : List ℕ) → xs ++ y ∷ ys ≡ [] → ⊥
some_behind [] ys y e = cc
some_behind (x ∷ xs) ys y e = cc

-- an image that holds bodies is long, and does not stand for none
long : (f : List ℕ) (bodies : List (List ℕ)) → HoldsBodies f bodies → (bodies ≡ [] → ⊥) → 9 < length f
long f bodies (inl short) some = absurd (some short.1)
long f bodies (inr more) some = more.0

filled : (f : List ℕ) (bodies : List (List ℕ)) → HoldsBodies f bodies → (bodies ≡ [] → ⊥) → HoldsBodies f [] → ⊥
filled f bodies holds some none = some (one_list_of_bodies f bodies [] holds none)

place_same : (m n : ℕ) → Whys.NotSpool m ≡ Whys.NotSpool n → m ≡ n
place_same m n e = cc

module _ {E : Type 0} (model : DiskView E) (laws : DiskLaws model) where
  -- ---- the disk is no journal, or was not read

  pub not_opened : (old new : E) (why : OpenWhy) → HasRefused model old new why → KeepsFilled model old new
      → StaysTold model old new → CrashLeaves model (BeforeOrSame model old) old new
      → WhereTold model old (λ f. IsLeft model f old new) → HasNotOpened model old new why
  not_opened old new why refused kept told images left = record {
    disk = refused.disk;
    not_marks = λ at e f was. let no = (refused.not_spool at e).each f was in inl no.2.1;
    left = kept_left model laws old new refused.later told kept images left;
  }

  -- ---- the journal was opened

  module _ (old : E) (journal : JournalShown E) (bodies : List (List ℕ)) (first : E)
      (o : IsOpened model old journal bodies first) where
    -- where there are bodies the disk that was handed in has them in the journal's area
    there : (f : List ℕ) → model.content old ≡ Some f → (bodies ≡ [] → ⊥) → HasBodiesAt journal.first bodies f
    there f was some = o.holds.file f (o.kept f was (filled f bodies (o.stood f was) some))

    left : MarksLeft model old journal.disk [] []
    left = kept_left model laws old journal.disk o.later o.told o.kept o.images
        (λ f was. synced (record { first = first; sync = o.sync; same = o.since f was }))

    -- the bodies are those of no marks, or there was no memory for what they say
    pub not_replayed : (gate : ℕ) → gate ≡ journal.first → (why : OpenWhy) → HasStopped gate bodies why
        → HasNotOpened model old journal.disk why
    not_replayed gate at Whys.Disk stops = absurd stops
    not_replayed gate at Whys.Memory stops =
        record { disk = λ e. absurd cc; not_marks = λ n e. absurd cc; left = left }
    not_replayed gate at (Whys.NotSpool n) stops =
        let some : bodies ≡ [] → ⊥ =
        λ none. some_behind (map body_of stops.marks) stops.more stops.body (sym stops.bodies_are ∙ none) in
        record {
          disk = λ e. absurd cc;
          not_marks = λ m e f was. inr (record {
            long = long f bodies (o.stood f was) some;
            first = journal.first;
            bodies = bodies;
            has = there f was some;
            stops = subst (λ (x : ℕ). StopsAt x bodies m) at (subst (StopsAt gate bodies) (place_same n m e) stops);
          });
          left = left;
        }

    -- they are those of marks
    pub replayed : (entries : List (List ℕ × Standing)) (marks : List Mark) → IsReplay bodies entries marks
        → HasFound model old journal entries
    replayed entries marks r = record {
      marks = marks;
      knows = r.knows;
      holds = subst (Holds model journal) (sym r.bodies_are) o.holds;
      are = r.are;
      stood = λ f was. subst (HoldsBodies f) (sym r.bodies_are) (o.stood f was);
      some = o.some;
      later = o.later;
      told = o.told;
      kept = o.kept;
      images = o.images;
      first = first;
      sync = o.sync;
      since = o.since;
    }

  -- ---- it was settled

  module _ (old : E) (journal : JournalShown E) (entries : List (List ℕ × Standing))
      (fd : HasFound model old journal entries) where
    abbrev bodies_found : List (List ℕ)
    bodies_found = map body_of fd.marks

    stood : WhereTold model old (λ f. StandsFor f fd.marks)
    stood f was = record { bodies = fd.stood f was; are = fd.are }

    found_at : (f : List ℕ) → model.content old ≡ Some f → (bodies_found ≡ [] → ⊥)
        → HasBodiesAt journal.first bodies_found f
    found_at f was some = fd.holds.file f (fd.kept f was (filled f bodies_found (fd.stood f was) some))

    -- where the disk has bodies in the only area the journal does, and the other way round
    some_first : (x : List ℕ) (xs : List (List ℕ)) → x ∷ xs ≡ [] → ⊥
    some_first x xs e = absurd cc

    only_there : (f : List ℕ) → model.content old ≡ Some f → HasOnlyArea f → journal.first ≡ 8
    only_there f was only =
        let all : List (List ℕ) = only.body ∷ only.bodies in
        let same : bodies_found ≡ all =
        one_list_of_bodies f bodies_found all (fd.stood f was) (stands_for 8 f all only.has) in
        let some : bodies_found ≡ [] → ⊥ = λ none. some_first only.body only.bodies (sym same ∙ none) in
        (one_area f journal.first 8 bodies_found all (found_at f was some) only.has).0

    only_here : (f : List ℕ) → model.content old ≡ Some f → journal.first ≡ 8 → HasOnlyArea f
    only_here f was eight = has bodies_found refl
      where
        has : (xs : List (List ℕ)) → bodies_found ≡ xs → HasOnlyArea f
        has [] e =
            let some = fd.some eight in
            let size = fd.holds.size in
            absurd (omega (arith, some, eight, size, ap (λ (ys : List (List ℕ)). length (records ys)) e))
        has (x ∷ xs) e = record {
          body = x;
          bodies = xs;
          has = subst (λ (n : ℕ). HasBodiesAt n (x ∷ xs) f) eight
              (subst (λ (ys : List (List ℕ)). HasBodiesAt journal.first ys f) e
              (found_at f was (λ none. some_first x xs (sym e ∙ none))));
        }

    either_stands : (gate : ℕ) (g : List ℕ) → HasEither gate bodies_found bodies_found g → StandsFor g fd.marks
    either_stands gate g (inl has) = record { bodies = stands_for gate g bodies_found has; are = fd.are }
    either_stands gate g (inr has) = record { bodies = stands_for has.0 g bodies_found has.1; are = fd.are }

    module _ (new : JournalShown E) (result : Result (Unit {0}) AppendFault)
        (settled : Settles model journal new result) where
      told_then : StaysTold model old new.disk
      told_then f was = let x = fd.told f was in settled.told x.0 x.1

      later_then : model.faults old ≤ model.faults new.disk
      later_then = let a = fd.later in let b = settled.later in omega (arith, a, b)

      moved : (f : List ℕ) → model.content old ≡ Some f
          → AtAnyMoment model (HasEither journal.first bodies_found bodies_found) journal.disk new.disk
      moved f was = let x = fd.told f was in settled.images x.0 x.1 bodies_found fd.holds

      images_then : WhereTold model old (λ f. AtAnyMoment model (BeforeOrStands model old fd.marks) old new.disk)
      images_then f was =
          joined model (BeforeOrStands model old fd.marks) old journal.disk new.disk
          (weaken model (BeforeOrSame model old f) (BeforeOrStands model old fd.marks) old journal.disk
          (λ g. ⊎_elim {C = BeforeOrStands model old fd.marks g} (λ before. inl before)
          (λ same. inr (same_stands f g fd.marks same (stood f was)))) (fd.images f was))
          (weaken model (HasEither journal.first bodies_found bodies_found) (BeforeOrStands model old fd.marks)
          journal.disk new.disk (λ g has. inr (either_stands journal.first g has)) (moved f was))

      since_then : WhereTold model old (λ f. StandsSince model fd.marks (model.moment fd.first) new.disk)
      since_then f was =
          let s = fd.since f was in
          let m = moved f was in
          record {
            until = (let a = s.until in let b = m.later in omega (arith, a, b));
            each = λ g left. ⊎_elim {C = StandsFor g fd.marks}
                (λ before. same_stands f g fd.marks (s.same g before) (stood f was))
                (λ has. either_stands journal.first g has) (m.since (model.moment fd.first) g s.until left);
          }

      left_then : MarksLeft model old new.disk [] []
      left_then =
          opened_left model laws old new.disk fd.marks later_then told_then stood
          (λ f was. weaken model (BeforeOrStands model old fd.marks)
          (λ g. model.may_leave old g ⊎ IsWithOrWithout fd.marks [] g) old new.disk
          (λ g. ⊎_elim {C = model.may_leave old g ⊎ IsWithOrWithout fd.marks [] g} (λ before. inl before)
          (λ same. inr (inl same))) (images_then f was))
          fd.first fd.sync since_then

      gate_plain : ((journal.first ≡ 8) × (new ≡ journal)) ⊎ ((journal.first ≢ 8) × (new.first ≡ 23))
          → IsPlain new.first
      gate_plain (inl same) = inl (ap (λ (j : JournalShown E). j.first) same.1 ∙ same.0)
      gate_plain (inr other) = inr other.1

      gate_there : (f : List ℕ) → model.content old ≡ Some f
          → ((journal.first ≡ 8) × (new ≡ journal)) ⊎ ((journal.first ≢ 8) × (new.first ≡ 23)) → OpensAt f new.first
      gate_there f was (inl same) =
          in_only (ap (λ (j : JournalShown E). j.first) same.1 ∙ same.0) (only_here f was same.0)
      gate_there f was (inr other) = in_first other.1 (λ only. other.0 (only_there f was only))

    pub settled_opened : (new : JournalShown E) → Settles {T = Unit {0}} model journal new (Ok tt)
        → HasOpened model old (record { journal = new; entries = entries })
    settled_opened new settled = record {
      marks = fd.marks;
      held = record {
        holds = settled.done refl bodies_found fd.holds;
        are = fd.are;
        knows = fd.knows;
        plain = gate_plain new (Ok tt) settled (settled.place refl);
      };
      stood = stood;
      place = λ f was. gate_there new (Ok tt) settled f was (settled.place refl);
      later = later_then new (Ok tt) settled;
      told = told_then new (Ok tt) settled;
      images = images_then new (Ok tt) settled;
      first = fd.first;
      sync = fd.sync;
      since = since_then new (Ok tt) settled;
    }

    rose_then : (new : JournalShown E) (fault : AppendFault) → Settles {T = Unit {0}} model journal new (Err fault)
        → why_of_settle fault ≡ Whys.Disk → Rose (model.faults old) (model.faults new.disk)
    rose_then new (Faults.Full size need) settled e = absurd cc
    rose_then new Faults.Ended settled e = absurd cc
    rose_then new Faults.Memory settled e = absurd cc
    rose_then new Faults.Disk settled e =
        let a = fd.later in
        let b : Rose (model.faults journal.disk) (model.faults new.disk) = settled.disk refl in
        omega (arith, a, b)

    no_place : (fault : AppendFault) (at : ℕ) → why_of_settle fault ≡ Whys.NotSpool at → ⊥
    no_place (Faults.Full size need) at e = cc
    no_place Faults.Disk at e = cc
    no_place Faults.Ended at e = cc
    no_place Faults.Memory at e = cc

    pub settled_refused : (new : JournalShown E) (fault : AppendFault)
        → Settles {T = Unit {0}} model journal new (Err fault)
        → HasNotOpened model old new.disk (why_of_settle fault)
    settled_refused new fault settled = record {
      disk = rose_then new fault settled;
      not_marks = λ at e. absurd (no_place fault at e);
      left = left_then new (Err fault) settled;
    }
