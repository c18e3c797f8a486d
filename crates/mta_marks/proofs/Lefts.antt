-- What becomes of a disk of marks, from what its calls leave.
use Rattle.std.proofs.Common.{inl, inr, ⊎_elim, ◌≡◌, ◌≤◌, ℕ, List, [], ◌∷◌, ◌++◌, length, map, Some, refl, sym, subst}
use Rattle.std.proofs.Common.{◌∙◌, arith}
use Rattle.std.specs.Prelude.{◌⊎◌}
use Rattle.std.proofs.lemmas.List.{append-nil}
use Rattle.mta_edge.specs.Causes.{Rose}
use Rattle.mta_edge.specs.Crashes.{AtAnyMoment, CrashLeaves}
use Rattle.mta_edge.specs.Views.{DiskLaws, DiskView, StaysTold, WhereTold}
use Rattle.mta_journal.specs.Bodies.{StandsFor as HoldsBodies}
use Rattle.mta_journal.specs.Opening.{BeforeOrSame, IsLeft, IsSame, IsSynced, KeepsFilled, synced, unsynced}
use Rattle.mta_journal.proofs.Unique.{one_list as one_list_of_bodies}
use Rattle.mta_marks.specs.declared.mark.Mark.{Mark}
use Rattle.mta_marks.specs.Image.{StandsFor}
use Rattle.mta_marks.specs.Left.{IsAsItWas, IsLeftWith, IsWithOrWithout, MarksLeft, Synced, Unsynced}
use Rattle.mta_marks.specs.Marks.{body_of}
use Rattle.mta_marks.specs.Opening.{StandsSince}
use Rattle.mta_marks.proofs.Images.{one_list}

-- ---- what is the same for a journal is the same for its marks

pub same_stands : (f g : List ℕ) (marks : List Mark) → IsSame f g → StandsFor f marks → StandsFor g marks
same_stands f g marks (inl same) s = subst (λ (x : List ℕ). StandsFor x marks) (sym same) s
same_stands f g marks (inr both) s = record {
  bodies = subst (HoldsBodies g) (sym (one_list_of_bodies f (map body_of marks) [] s.bodies both.0)) both.1;
  are = s.are;
}

pub stands_none : (f : List ℕ) → HoldsBodies f [] → StandsFor f []
stands_none f holds = record { bodies = holds; are = tt }

pub with_none : (g : List ℕ) (marks : List Mark) → StandsFor g marks → IsLeftWith marks [] [] g
with_none g marks s = inl (subst (StandsFor g) (sym (append-nil marks)) s)

some_same : (f g : List ℕ) → Some f ≡ Some g → f ≡ g
some_same f g e = cc

module _ {E : Type 0} (model : DiskView E) (laws : DiskLaws model) where
  -- ---- nothing was added, and whether it stood for marks is not known

  pub kept_left : (old new : E) → model.faults old ≤ model.faults new → StaysTold model old new
      → KeepsFilled model old new → CrashLeaves model (BeforeOrSame model old) old new
      → WhereTold model old (λ f. IsLeft model f old new) → MarksLeft model old new [] []
  kept_left old new later told filled images left = record {
    one = omega arith;
    later = later;
    calm = λ calm. refl;
    told = told;
    stands = λ f g marks was now s. with_none g marks (reads f g marks was now s (left f was));
    crash = λ f marks was s. crashes f marks s (left f was);
    before = λ f marks was s g since. ⊎_elim {C = model.may_leave old g ⊎ IsWithOrWithout marks [] g}
        (λ before. inl before) (λ same. inr (inl (same_stands f g marks same s))) ((images f was).each g since);
    no_marks = λ f was none. record {
      reads = filled f was (λ empty. none [] (stands_none f empty));
      images = λ g since. as_before f g none ((images f was).each g since);
    };
  }
    where
      reads : (f g : List ℕ) (marks : List Mark) → model.content old ≡ Some f → model.content new ≡ Some g
          → StandsFor f marks → IsLeft model f old new → StandsFor g marks
      reads f g marks was now s (unsynced same x) =
          subst (λ (y : List ℕ). StandsFor y marks) (some_same f g (sym was ∙ sym same ∙ now)) s
      reads f g marks was now s (synced since) =
          same_stands f g marks
          (since.same.same g (laws.counts_now new (model.moment since.first) g since.same.until
          (laws.reads_image new g now))) s

      crashes : (f : List ℕ) (marks : List Mark) → StandsFor f marks → IsLeft model f old new
          → Unsynced model [] old new ⊎ Synced model marks [] [] old new
      crashes f marks s (unsynced same x) = inl (record { none = refl; reads = same; images = x })
      crashes f marks s (synced since) = inr (record {
        first = since.first;
        sync = since.sync;
        until = since.same.until;
        images = λ g x. inl (same_stands f g marks (since.same.same g x) s);
        now = λ g may. with_none g marks
            (same_stands f g marks
            (since.same.same g (laws.counts_now new (model.moment since.first) g since.same.until may)) s);
      })

      as_before : (f g : List ℕ) → ((marks : List Mark) → StandsFor f marks → ⊥) → BeforeOrSame model old f g
          → model.may_leave old g ⊎ (g ≡ f)
      as_before f g none (inl before) = inl before
      as_before f g none (inr (inl same)) = inr same
      as_before f g none (inr (inr both)) = absurd (none [] (stands_none f both.0))

  -- ---- it stood for these marks

  abbrev pub BeforeOrWith : E → List Mark → List Mark → List ℕ → Type 0
  BeforeOrWith old marks tried g = model.may_leave old g ⊎ IsWithOrWithout marks tried g

  -- what is known since the first sync
  pub record IsSince (marks tried : List Mark) (since : ℕ) (new : E) : Type 0 where
    pub until : since ≤ model.moment new
    pub each : (g : List ℕ) → model.left_since new since g → IsWithOrWithout marks tried g

  pub left_with : (old new : E) (marks added torn_mark : List Mark) → length (added ++ torn_mark) ≤ 1
      → model.faults old ≤ model.faults new
      → ((Rose (model.faults old) (model.faults new) → ⊥) → torn_mark ≡ []) → StaysTold model old new
      → WhereTold model old (λ f. StandsFor f marks)
      → WhereTold model old (λ f. AtAnyMoment model (BeforeOrWith old marks (added ++ torn_mark)) old new)
      → (first : E) → IsSynced model old first
      → WhereTold model old (λ f. IsSince marks (added ++ torn_mark) (model.moment first) new)
      → WhereTold model old (λ f. (g : List ℕ) → model.may_leave new g → IsLeftWith marks added torn_mark g)
      → MarksLeft model old new added torn_mark
  left_with old new marks added torn_mark one later calm told stood images first sync since now = record {
    one = one;
    later = later;
    calm = calm;
    told = told;
    stands = λ f g ms was reads s. subst (λ (x : List Mark). IsLeftWith x added torn_mark g) (same f ms was s)
        (now f was g (laws.reads_image new g reads));
    crash = λ f ms was s. inr (record {
      first = first;
      sync = sync;
      until = (since f was).until;
      images = λ g left. subst (λ (x : List Mark). IsWithOrWithout x (added ++ torn_mark) g) (same f ms was s)
          ((since f was).each g left);
      now = λ g may. subst (λ (x : List Mark). IsLeftWith x added torn_mark g) (same f ms was s) (now f was g may);
    });
    before = λ f ms was s g left. subst (λ (x : List Mark). BeforeOrWith old x (added ++ torn_mark) g)
        (same f ms was s) ((images f was).each g left);
    no_marks = λ f was none. absurd (none marks (stood f was));
  }
    where
      same : (f : List ℕ) (ms : List Mark) → model.content old ≡ Some f → StandsFor f ms → marks ≡ ms
      same f ms was s = one_list f marks ms (stood f was) s

  -- nothing was added
  pub opened_left : (old new : E) (marks : List Mark) → model.faults old ≤ model.faults new → StaysTold model old new
      → WhereTold model old (λ f. StandsFor f marks)
      → WhereTold model old (λ f. AtAnyMoment model (BeforeOrWith old marks []) old new)
      → (first : E) → IsSynced model old first
      → WhereTold model old (λ f. StandsSince model marks (model.moment first) new)
      → MarksLeft model old new [] []
  opened_left old new marks later told stood images first sync since =
      left_with old new marks [] [] (omega arith) later (λ calm. refl) told stood images first sync
      (λ f was. record { until = (since f was).until; each = λ g left. inl ((since f was).each g left) })
      (λ f was g may. with_none g marks
      ((since f was).each g (laws.counts_now new (model.moment first) g (since f was).until may)))

  -- it was not called
  pub alone_left : (disk : E) → MarksLeft model disk disk [] []
  alone_left disk = record {
    one = omega arith;
    later = omega arith;
    calm = λ calm. refl;
    told = λ f was. (f, was);
    stands = λ f g marks was now s. with_none g marks
        (subst (λ (y : List ℕ). StandsFor y marks) (some_same f g (sym was ∙ now)) s);
    crash = λ f marks was s. inl (record { none = refl; reads = refl; images = λ g left. laws.only_now disk g left });
    before = λ f marks was s g left. inl (laws.only_now disk g left);
    no_marks = λ f was none. record { reads = was; images = λ g left. inl (laws.only_now disk g left) };
  }
