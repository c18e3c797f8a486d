-- What a crash leaves of steps that are added one after the other.
use Rattle.std.proofs.Common.{inl, inr, ⊎_elim, ◌≡◌, ℕ, suc, ◌+◌, min, List, [], ◌∷◌, ◌++◌, length, map, take, Some}
use Rattle.std.proofs.Common.{sym, ap, subst, ◌∙◌, append_assoc, arith}
use Rattle.std.proofs.lemmas.List.{append-nil, take_min, take-append-le}
use Rattle.mta_edge.specs.Views.{DiskView, DiskLaws, StaysTold}
use Rattle.mta_edge.specs.Crashes.{AtAnyMoment}
use Rattle.mta_edge.proofs.Moments.{weaken, joined}
use Rattle.mta_disk.proofs.Writing.{settled_once}
use Rattle.mta_journal.specs.Shown.{Shown as JournalShown}
use Rattle.mta_records.specs.declared.step.Step.{Step}
use Rattle.mta_journal.specs.Bodies.{HasBodiesAt}
use Rattle.mta_records.specs.Body.{body_of}
use Rattle.mta_histories.specs.Lanes.{State}
use Rattle.mta_images.specs.Image.{StandsFor}
use Rattle.mta_images.proofs.GoingOn.{plain_alone, stands_at}
use Rattle.mta_spool.specs.Shown.{Shown}
use Rattle.mta_spool.specs.Stands.{IsHeld, Stands, IsOneOf, MayHave}
use Rattle.mta_spool.specs.Crashing.{Reached, IsLeftWith, Leaves}

-- ---- beginnings

-- with no step more
pub with_none : (g : List ℕ) (steps : List Step) → StandsFor g steps → StandsFor g (steps ++ [])
with_none g steps s = subst (StandsFor g) (sym (append-nil steps)) s

pub reached_one : (steps : List Step) (step : Step) (g : List ℕ) → IsOneOf steps step g → Reached steps (step ∷ []) g
reached_one steps step g (inl s) = (0, with_none g steps s)
reached_one steps step g (inr s) = (1, s)

-- a beginning of the first steps is one of all
pub reached_first : (steps a b : List Step) (g : List ℕ) → Reached steps (a ++ []) g → Reached steps (a ++ b) g
reached_first steps a b g r =
    let k : ℕ = min r.0 (length a) in
    let same : take r.0 (a ++ []) ≡ take k (a ++ b) =
    ap (take r.0) (append-nil a) ∙ sym (take_min r.0 a) ∙ sym (take-append-le k a b (omega arith)) in
    (k, subst (λ (x : List Step). StandsFor g (steps ++ x)) same r.1)

take_past : (a b : List Step) (n : ℕ) → take (length a + n) (a ++ b) ≡ a ++ take n b
take_past [] b n = let none : 0 + n ≡ n = omega arith in ap (λ (k : ℕ). take k b) none
take_past (step ∷ a) b n =
    let next : suc (length a) + n ≡ suc (length a + n) = omega arith in
    ap (λ (k : ℕ). take k (step ∷ (a ++ b))) next ∙ ap (λ (x : List Step). step ∷ x) (take_past a b n)

-- and so are the first steps with a beginning of the others
pub reached_second : (steps a b : List Step) (g : List ℕ) → Reached (steps ++ a) b g → Reached steps (a ++ b) g
reached_second steps a b g r = (
  length a + r.0,
  subst (StandsFor g)
      (append_assoc steps a (take r.0 b) ∙ ap (λ (x : List Step). steps ++ x) (sym (take_past a b r.0))) r.1,
)

pub reached_as : (steps a b : List Step) (g : List ℕ) → a ≡ b → Reached steps a g → Reached steps b g
reached_as steps a b g e r = subst (λ (x : List Step). Reached steps x g) e r

-- an image in which a journal holds its bodies stands for their history
pub stands_held : {D : Type 0} (model : DiskView D) (journal : JournalShown D) (state : State) (steps : List Step)
    → IsHeld model journal state steps → (g : List ℕ) → HasBodiesAt journal.first (map body_of steps) g
    → StandsFor g steps
stands_held model journal state steps held g has =
    stands_at journal.first g steps has held.each held.history
    (λ chosen. held.alone
    (λ plain. plain_alone journal.first (map body_of steps) g plain has chosen))

-- ---- calls

module _ {D C : Type 0} (disks : DiskView D) where
  -- the disk was not called
  pub still : DiskLaws disks → (old new : Shown D C) → new.journal ≡ old.journal → (f : List ℕ)
      → disks.content old.journal.disk ≡ Some f → (steps : List Step) → Stands disks old steps
      → Leaves disks steps [] [] old.journal.disk new.journal.disk
  still laws old new same f told steps s =
      let here : StandsFor f (steps ++ []) =
      with_none f steps (stands_held disks old.journal old.current steps s f (s.holds.file f told))
      in
      subst (λ (j : JournalShown D). Leaves disks steps [] [] old.journal.disk j.disk) (sym same) (record {
        during = settled_once disks laws (Reached steps []) old.journal.disk f s.holds.settled told (0, here);
        now = λ g may.
            inl (subst (λ (x : List ℕ). StandsFor x (steps ++ [])) (sym (s.holds.settled f told g may)) here);
      })

  module _ (step : Step) (old new : Shown D C) (m : MayHave disks step old.journal old.current new.journal)
      (f : List ℕ) (told : disks.content old.journal.disk ≡ Some f) (steps : List Step)
      (s : Stands disks old steps) where
    during-one : AtAnyMoment disks (Reached steps (step ∷ [])) old.journal.disk new.journal.disk
    during-one =
        weaken disks (IsOneOf steps step) (Reached steps (step ∷ [])) old.journal.disk new.journal.disk
        (λ g one. reached_one steps step g one) (m.during f told steps s)

    -- a step was made
    pub made : StaysTold disks old.journal.disk new.journal.disk → Stands disks new (steps ++ step ∷ [])
        → Leaves disks steps (step ∷ []) [] old.journal.disk new.journal.disk
    made stays now =
        let there = stays f told in
        let here : StandsFor there.0 (steps ++ step ∷ []) =
        stands_held disks new.journal new.current (steps ++ step ∷ []) now there.0 (now.holds.file there.0 there.1) in
        record {
          during = during-one;
          now = λ g may.
              inl (subst (λ (x : List ℕ). StandsFor x (steps ++ step ∷ []))
              (sym (now.holds.settled there.0 there.1 g may)) here);
        }

    -- the disk failed in a step
    pub torn : Leaves disks steps [] (step ∷ []) old.journal.disk new.journal.disk
    torn = record {
      during = during-one;
      now = λ g may.
          ⊎_elim {C = IsLeftWith steps [] (step ∷ []) g} (λ without. inl (with_none g steps without))
          (λ with. inr with) (m.now f told steps s g may);
    }

-- one row of steps behind another
pub leaves_then : {D : Type 0} (disks : DiskView D) (steps a b torn_step : List Step) (old mid new : D)
    → Leaves disks steps a [] old mid → Leaves disks (steps ++ a) b torn_step mid new
    → Leaves disks steps (a ++ b) torn_step old new
leaves_then disks steps a b torn_step old mid new p q =
    let whole : a ++ (b ++ torn_step) ≡ (a ++ b) ++ torn_step = sym (append_assoc a b torn_step) in
    let Of = Reached steps ((a ++ b) ++ torn_step) in
    record {
      during = joined disks Of old mid new
          (weaken disks (Reached steps (a ++ [])) Of old mid
          (λ g r.
          reached_as steps (a ++ (b ++ torn_step)) ((a ++ b) ++ torn_step) g whole
          (reached_first steps a (b ++ torn_step) g r)) p.during)
          (weaken disks (Reached (steps ++ a) (b ++ torn_step)) Of mid new
          (λ g r.
          reached_as steps (a ++ (b ++ torn_step)) ((a ++ b) ++ torn_step) g whole
          (reached_second steps a (b ++ torn_step) g r)) q.during);
      now = λ g may.
          ⊎_elim {C = IsLeftWith steps (a ++ b) torn_step g}
          (λ without. inl (subst (StandsFor g) (append_assoc steps a b) without))
          (λ with.
          inr (subst (StandsFor g)
          (append_assoc steps a (b ++ torn_step) ∙ ap (λ (x : List Step). steps ++ x) whole) with)) (q.now g may);
    }
