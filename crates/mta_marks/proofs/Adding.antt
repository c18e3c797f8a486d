-- What a mark more leaves.
use Rattle.std.proofs.Common.{inl, inr, ⊎_elim, ◌≡◌, ◌+◌, ◌≤◌, ◌<◌, ℕ, true, false, List, [], ◌∷◌, ◌++◌, length, map}
use Rattle.std.proofs.Common.{Some, Result, Ok, Err, refl, sym, ap, subst, ◌∙◌, arith}
use Rattle.std.specs.Prelude.{◌⊎◌, IsErrOf, IsOk}
use Rattle.std.proofs.lemmas.Bool.{cases_lt}
use Rattle.std.proofs.lemmas.List.{append-nil}
use Rattle.mta_edge.specs.Causes.{Rose}
use Rattle.mta_edge.specs.Crashes.{AtAnyMoment}
use Rattle.mta_edge.specs.Views.{DiskLaws, DiskView, StaysTold, WhereTold}
use Rattle.mta_edge.proofs.Moments.{at_once, joined, weaken}
use Rattle.mta_journal.specs.Appending.{Appends, journal_limit}
use Rattle.mta_journal.specs.Bodies.{need_of, HasBodiesAt, HasOrOneMore as HasOrOneMoreBody}
use Rattle.mta_journal.specs.Shown.{Holds, Shown as JournalShown}
use Rattle.mta_journal.specs.declared.journal.AppendFault.{AppendFault}
use Rattle.mta_journal.specs.declared.journal.AppendFault.TheVariants as Faults
use Rattle.mta_journal.proofs.OpenedDisk.{stands_for}
use Rattle.mta_marks.specs.declared.mark.Mark.{Mark}
use Rattle.mta_marks.specs.Image.{StandsFor}
use Rattle.mta_marks.specs.Left.{IsLeftWith, IsWithOrWithout, MarksLeft}
use Rattle.mta_marks.specs.Marks.{IsMark, IsPossible, body_of}
use Rattle.mta_marks.specs.Opening.{Adds, BeforeOrStands, HasOpened, HasOrOneMore, IsHeld, Shown}
use Rattle.mta_marks.proofs.Kept.{are_more}
use Rattle.mta_marks.proofs.Lefts.{BeforeOrWith, IsSince, left_with, opened_left}
use Rattle.mta_marks.proofs.Replays.{map-more}

fault_same : (x y : AppendFault) → ◌≡◌ {A = Result (Unit {0}) AppendFault} (Err x) (Err y) → x ≡ y
fault_same x y e = cc

module _ {E : Type 0} (model : DiskView E) (laws : DiskLaws model) where
  -- ---- what the call leaves

  module _ (m : Shown E) (marks : List Mark) (held : IsHeld model m marks) (mark : Mark) (is : IsMark mark)
      (can : IsPossible marks mark) where
    stands_at : (gate : ℕ) (g : List ℕ) → HasBodiesAt gate (map body_of marks) g → StandsFor g marks
    stands_at gate g has = record { bodies = stands_for gate g (map body_of marks) has; are = held.are }

    stands_more : (gate : ℕ) (g : List ℕ) → HasBodiesAt gate (map body_of marks ++ body_of mark ∷ []) g
        → StandsFor g (marks ++ mark ∷ [])
    stands_more gate g has = record {
      bodies = stands_for gate g (map body_of (marks ++ mark ∷ []))
          (subst (λ (bodies : List (List ℕ)). HasBodiesAt gate bodies g) (sym (map-more marks mark)) has);
      are = are_more [] marks mark held.are is can;
    }

    adds_none : (new : JournalShown E) → new ≡ m.journal → Adds model marks mark m new.disk (Err Faults.Memory)
    adds_none new same =
        subst (λ (j : JournalShown E). Adds model marks mark m j.disk (Err Faults.Memory)) (sym same) (record {
          done = λ ok. absurd cc;
          settled = λ ok. absurd cc;
          told = λ f was. (f, was);
          images = λ f was. at_once model (HasOrOneMore marks mark) m.journal.disk
              (λ g left. inl (subst (λ (x : List ℕ). StandsFor x marks)
              (sym (held.holds.settled f was g (laws.only_now m.journal.disk g left)))
              (stands_at m.journal.first f (held.holds.file f was))));
          kept = λ e other. refl;
          full = λ size need e. absurd cc;
          fits = λ ok. absurd cc;
          going = λ e. absurd cc;
          later = omega arith;
          disk = λ e. absurd cc;
        })

    not_full : (size need : ℕ) (result : Result (Unit {0}) AppendFault) → IsOk result
        → IsErrOf result (Faults.Full size need) → ⊥
    not_full size need (Ok done) ok e = cc
    not_full size need (Err fault) ok e = cc

    adds_appended : (new : JournalShown E) (result : Result (Unit {0}) AppendFault)
        → Appends model (body_of mark) m.journal new result → Adds model marks mark m new.disk result
    adds_appended new result a = record {
      done = λ ok g now.
          stands_more new.first g ((a.done ok (map body_of marks) held.holds).file g now);
      settled = λ ok. (a.done ok (map body_of marks) held.holds).settled;
      told = a.told;
      images = λ f was. weaken model (HasOrOneMoreBody m.journal.first (map body_of marks) (body_of mark))
          (HasOrOneMore marks mark) m.journal.disk new.disk
          (λ g. ⊎_elim {C = HasOrOneMore marks mark g} (λ has. inl (stands_at m.journal.first g has))
          (λ has. inr (stands_more m.journal.first g has)))
          (a.images f was (map body_of marks) held.holds);
      kept = λ e other. ap (λ (j : JournalShown E). j.disk) (a.kept e other);
      full = a.full;
      fits = λ ok. ⊎_elim {C = m.journal.size + need_of (body_of mark) ≤ journal_limit}
          (λ over. absurd (not_full m.journal.size (need_of (body_of mark)) result ok
          (a.full_where held.holds.going over)))
          (λ le. le) (cases_lt journal_limit (m.journal.size + need_of (body_of mark)));
      going = λ e. (let ended = a.ended.0 e in let going = held.holds.going in
          let wrong : true ≡ false = sym ended ∙ going in cc);
      later = a.later;
      disk = a.disk;
    }

    pub adds : (new : JournalShown E) (result : Result (Unit {0}) AppendFault)
        → (IsErrOf result Faults.Memory × (new ≡ m.journal)) ⊎ Appends model (body_of mark) m.journal new result
        → Adds model marks mark m new.disk result
    adds new result (inr a) = adds_appended new result a
    adds new result (inl none) =
        subst (λ (r : Result (Unit {0}) AppendFault). Adds model marks mark m new.disk r) (sym none.0)
        (adds_none new none.1)

  -- the same where the journal is seen in another value of the same view
  pub adds_of : (inner m : Shown E) → inner ≡ m → (marks : List Mark) → IsHeld model m marks → (mark : Mark)
      → IsMark mark → IsPossible marks mark → (new : JournalShown E) (result : Result (Unit {0}) AppendFault)
      → (IsErrOf result Faults.Memory × (new ≡ inner.journal)) ⊎ Appends model (body_of mark) inner.journal new result
      → Adds model marks mark m new.disk result
  adds_of inner m same marks held mark is can new result a =
      adds m marks held mark is can new result
      (subst
      (λ (v : Shown E). (IsErrOf result Faults.Memory × (new ≡ v.journal))
      ⊎ Appends model (body_of mark) v.journal new result) same a)

  -- ---- with opening before it

  module _ (old : E) (m : Shown E) (o : HasOpened model old m) where
    -- no mark was tried
    pub ended_left : MarksLeft model old m.journal.disk [] []
    ended_left =
        opened_left model laws old m.journal.disk o.marks o.later o.told o.stood
        (λ f was. weaken model (BeforeOrStands model old o.marks) (BeforeOrWith model laws old o.marks []) old
        m.journal.disk
        (λ g. ⊎_elim {C = BeforeOrWith model laws old o.marks [] g} (λ before. inl before) (λ same. inr (inl same)))
        (o.images f was))
        o.first o.sync o.since

    module _ (mark : Mark) (new : E) (result : Result (Unit {0}) AppendFault)
        (a : Adds model o.marks mark m new result) where
      told_then : StaysTold model old new
      told_then f was = let x = o.told f was in a.told x.0 x.1

      later_then : model.faults old ≤ model.faults new
      later_then = let p = o.later in let q = a.later in omega (arith, p, q)

      tried : (f : List ℕ) → model.content old ≡ Some f
          → AtAnyMoment model (HasOrOneMore o.marks mark) m.journal.disk new
      tried f was = let x = o.told f was in a.images x.0 x.1

      images_then : WhereTold model old (λ f. AtAnyMoment model (BeforeOrWith model laws old o.marks (mark ∷ [])) old
          new)
      images_then f was =
          joined model (BeforeOrWith model laws old o.marks (mark ∷ [])) old m.journal.disk new
          (weaken model (BeforeOrStands model old o.marks) (BeforeOrWith model laws old o.marks (mark ∷ [])) old
          m.journal.disk
          (λ g. ⊎_elim {C = BeforeOrWith model laws old o.marks (mark ∷ []) g} (λ before. inl before)
          (λ same. inr (inl same))) (o.images f was))
          (weaken model (HasOrOneMore o.marks mark) (BeforeOrWith model laws old o.marks (mark ∷ [])) m.journal.disk
          new (λ g has. inr has) (tried f was))

      since_then : WhereTold model old
          (λ f. IsSince model laws o.marks (mark ∷ []) (model.moment o.first) new)
      since_then f was =
          let s = o.since f was in
          let t = tried f was in
          record {
            until = (let p = s.until in let q = t.later in omega (arith, p, q));
            each = λ g left. ⊎_elim {C = IsWithOrWithout o.marks (mark ∷ []) g}
                (λ before. inl (s.each g before)) (λ has. has)
                (t.since (model.moment o.first) g s.until left);
          }

      now_then : (f : List ℕ) → model.content old ≡ Some f → (g : List ℕ) → model.may_leave new g
          → IsWithOrWithout o.marks (mark ∷ []) g
      now_then f was g may =
          let s = since_then f was in
          s.each g (laws.counts_now new (model.moment o.first) g s.until may)

    pub added_left : (mark : Mark) (new : E) → Adds model o.marks mark m new (Ok tt)
        → MarksLeft model old new (mark ∷ []) []
    added_left mark new a =
        left_with model laws old new o.marks (mark ∷ []) [] (omega arith) (later_then mark new (Ok tt) a)
        (λ calm. refl) (told_then mark new (Ok tt) a) o.stood (images_then mark new (Ok tt) a) o.first o.sync
        (since_then mark new (Ok tt) a)
        (λ f was g may. let x = told_then mark new (Ok tt) a f was in
        inl (subst (λ (y : List ℕ). StandsFor y (o.marks ++ mark ∷ [])) (sym (a.settled refl x.0 x.1 g may))
        (a.done refl x.0 x.1)))

    pub rose_then : (mark : Mark) (new : E) → Adds model o.marks mark m new (Err Faults.Disk)
        → Rose (model.faults old) (model.faults new)
    rose_then mark new a =
        let p = o.later in
        let q : Rose (model.faults m.journal.disk) (model.faults new) = a.disk refl in
        omega (arith, p, q)

    pub torn_left : (mark : Mark) (new : E) → Adds model o.marks mark m new (Err Faults.Disk)
        → MarksLeft model old new [] (mark ∷ [])
    torn_left mark new a =
        left_with model laws old new o.marks [] (mark ∷ []) (omega arith) (later_then mark new (Err Faults.Disk) a)
        (λ calm. absurd (calm (rose_then mark new a))) (told_then mark new (Err Faults.Disk) a) o.stood
        (images_then mark new (Err Faults.Disk) a) o.first o.sync (since_then mark new (Err Faults.Disk) a)
        (λ f was g may. ⊎_elim {C = IsLeftWith o.marks [] (mark ∷ []) g}
        (λ same. inl (subst (StandsFor g) (sym (append-nil o.marks)) same)) (λ more. inr more)
        (now_then mark new (Err Faults.Disk) a f was g may))

    pub refused_left : (mark : Mark) (new : E) (fault : AppendFault) → (fault ≡ Faults.Disk → ⊥)
        → Adds model o.marks mark m new (Err fault) → MarksLeft model old new [] []
    refused_left mark new fault other a =
        subst (λ (d : E). MarksLeft model old d [] []) (sym (a.kept refl (λ e. other (fault_same fault Faults.Disk e))))
        ended_left
