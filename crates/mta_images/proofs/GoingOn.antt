-- A spool is gone on with in one way.
use Rattle.std.proofs.Common.{inl, inr, ⊎_elim, ◌≡◌, ◌≢◌, ◌⊎◌, ℕ, ◌+◌, ◌≤◌, Bool, true, false, List, [], ◌∷◌, length}
use Rattle.std.proofs.Common.{map}
use Rattle.std.proofs.Common.{refl, sym, ap, subst, ◌∙◌, arith}
use Rattle.mta_journal.specs.Bodies.{need_of, HasBodies, HasBodiesAt, HasSecondArea, IsCurrent}
use Rattle.mta_journal.specs.Bodies.{StandsFor as HoldsBodies}
use Rattle.mta_journal.specs.Bodies.{alone, first, second}
use Rattle.mta_journal.specs.Shown.{IsPlain}
use Rattle.mta_journal.proofs.OpenedDisk.{stands_for}
use Rattle.mta_journal.proofs.Unique.{one_area}
use Rattle.mta_records.specs.Body.{body_of}
use Rattle.mta_records.specs.declared.step.Step.{Step}
use Rattle.mta_histories.specs.Compact.{opened, IsLeftOf, as_it_was, at_opened}
use Rattle.mta_histories.specs.History.{IsHistory}
use Rattle.mta_images.specs.Image.{AreRecords, IsSnapshot, size_of, StandsFor}
use Rattle.mta_images.specs.Opened.{EachIsOpened, FoundIsLeft, IsFound, IsInFirst, IsWeighed, OneOpening, OpenedIsLeft}
use Rattle.mta_images.specs.Opened.{Opens}
use Rattle.mta_images.specs.Opened.{IsLeftByOpening, OpeningLeaves, in_first, elsewhere}
use Rattle.mta_images.proofs.Unique.{one_history}

-- ---- areas

-- the second area is not current where an image has bodies in the only one or in the first
pub plain_alone : (gate : ℕ) (bodies : List (List ℕ)) (image : List ℕ) → IsPlain gate → HasBodiesAt gate bodies image
    → HasSecondArea image → ⊥
plain_alone gate bodies image plain has chosen = by has.current
  where
    low : IsPlain gate → gate ≤ 23
    low (inl e) = omega (arith, e)
    low (inr e) = omega (arith, e)

    by : IsCurrent gate bodies image → ⊥
    by (alone begins lone is) = lone chosen.areas
    by (first areas other is) = other chosen.chosen
    by (second areas one is body only below) = absurd (omega (arith, low plain, below))

-- where it is current there is one body
pub second_one : (gate : ℕ) (bodies : List (List ℕ)) (image : List ℕ) → HasBodiesAt gate bodies image
    → HasSecondArea image → (body : List ℕ) × (bodies ≡ body ∷ [])
second_one gate bodies image has chosen = by has.current
  where
    by : IsCurrent gate bodies image → (body : List ℕ) × (bodies ≡ body ∷ [])
    by (alone begins lone is) = absurd (lone chosen.areas)
    by (first areas other is) = absurd (other chosen.chosen)
    by (second areas one is body only below) = (body, only)

-- an image that has the bodies of a history there stands for it
pub stands_at : (gate : ℕ) (image : List ℕ) (steps : List Step) → HasBodiesAt gate (map body_of steps) image
    → AreRecords steps → IsHistory steps → (HasSecondArea image → IsSnapshot steps) → StandsFor image steps
stands_at gate image steps has each history there = record {
  bodies = stands_for gate image (map body_of steps) has;
  each = each;
  history = history;
  second = there;
}

pub stands_plain : (gate : ℕ) (image : List ℕ) (steps : List Step) → IsPlain gate
    → HasBodiesAt gate (map body_of steps) image → AreRecords steps → IsHistory steps → StandsFor image steps
stands_plain gate image steps plain has each history =
    stands_at gate image steps has each history
    (λ chosen. absurd (plain_alone gate (map body_of steps) image plain has chosen))

-- ---- what decides whether a history is compacted

-- what was decided is decided once
weighed_once : (image : List ℕ) (found : List Step) (b c : Bool) (m n : ℕ) → IsWeighed image found b m
    → IsWeighed image found c n → (b ≡ c) × (m ≡ n)
weighed_once image found b c m n (in_first here is size) (in_first there also same) =
    (is ∙ sym also, size ∙ sym same)
weighed_once image found b c m n (in_first here is size) (elsewhere not_there also same) = absurd (not_there here)
weighed_once image found b c m n (elsewhere not_here is size) (in_first there also same) = absurd (not_here there)
weighed_once image found b c m n (elsewhere not_here is size) (elsewhere nor also same) =
    (is ∙ sym also, size ∙ sym same)

pub opened_once : (image : List ℕ) (found : List Step) (a b : IsFound image found)
    → (a.first_of_two ≡ b.first_of_two) × (a.size ≡ b.size)
opened_once image found a b =
    weighed_once image found a.first_of_two b.first_of_two a.size b.size a.weighed b.weighed

-- an image has its first area or another
in_first_or_not : (image : List ℕ) (found : List Step) → StandsFor image found
    → IsInFirst image found ⊎ (IsInFirst image found → ⊥)
in_first_or_not image found stands = held stands.bodies
  where
    not_short : length image ≤ 9 → IsInFirst image found → ⊥
    not_short short has = at has.current
      where
        at : IsCurrent 23 (map body_of found) image → ⊥
        at (alone begins lone is) = absurd (omega (arith, is))
        at (first areas other is) = let inside = areas.inside in absurd (omega (arith, short, inside))
        at (second areas one is body only below) = absurd (omega (arith, below))

    at_gate : (gate : ℕ) → HasBodiesAt gate (map body_of found) image
        → IsInFirst image found ⊎ (IsInFirst image found → ⊥)
    at_gate gate has = by has.current
      where
        other : gate ≢ 23 → IsInFirst image found → ⊥
        other not_there there =
            not_there (one_area image gate 23 (map body_of found) (map body_of found) has there).0

        by : IsCurrent gate (map body_of found) image → IsInFirst image found ⊎ (IsInFirst image found → ⊥)
        by (alone begins lone is) = inr (other (λ e. absurd (omega (arith, is, e))))
        by (first areas other_one is) =
            inl (subst (λ (n : ℕ). HasBodiesAt n (map body_of found) image) is has)
        by (second areas one is body only below) = inr (other (λ e. absurd (omega (arith, below, e))))

    held : HoldsBodies image (map body_of found) → IsInFirst image found ⊎ (IsInFirst image found → ⊥)
    held (inl none) = inr (not_short none.0)
    held (inr some) = at_gate some.1.0 some.1.1

pub found_of : (image : List ℕ) (found : List Step) → StandsFor image found → IsFound image found
found_of image found stands = ⊎_elim {C = IsFound image found}
    (λ (here : IsInFirst image found). record {
      stands = stands;
      first_of_two = true;
      size = size_of 23 found;
      weighed = in_first here refl refl;
    })
    (λ (not_there : IsInFirst image found → ⊥). record {
      stands = stands;
      first_of_two = false;
      size = 0;
      weighed = elsewhere not_there refl refl;
    })
    (in_first_or_not image found stands)

pub each_is_opened : EachIsOpened
each_is_opened image found stands =
    let is = found_of image found stands in
    (opened is.first_of_two is.size found, record { is = is; goes_on_is = refl })

-- ---- one way

same_opening : (image : List ℕ) (found : List Step) (goes_on goes_on' : List Step) → Opens image found goes_on
    → Opens image found goes_on' → goes_on ≡ goes_on'
same_opening image found goes_on goes_on' a b =
    let same = opened_once image found a.is b.is in
    a.goes_on_is ∙ ap (λ (x : Bool). opened x a.is.size found) same.0
    ∙ ap (λ (n : ℕ). opened b.is.first_of_two n found) same.1 ∙ sym b.goes_on_is

pub one_opening : OneOpening
one_opening image found other goes_on goes_on' a b =
    let same = one_history image found other a.is.stands b.is.stands in (
      same,
      same_opening image found goes_on goes_on' a
          (subst (λ (x : List Step). Opens image x goes_on') (sym same) b),
    )

pub opened_is_left : OpenedIsLeft
opened_is_left image found goes_on o = record {
  is = o.is;
  left_is = subst (λ (x : List Step). IsLeftOf o.is.first_of_two o.is.size found x) (sym o.goes_on_is) at_opened;
}

pub found_is_left : FoundIsLeft
found_is_left image found is = record { is = is; left_is = as_it_was }

-- ---- what a crash leaves

-- an image that is the same, or is left while the first one is opened, stands for a history that may be left
pub goes_on_left : (f g : List ℕ) (found goes_on : List Step) → (o : Opens f found goes_on)
    → (g ≡ f) ⊎ IsLeftByOpening f g
    → (left : List Step) × IsLeftOf o.is.first_of_two o.is.size found left × StandsFor g left
goes_on_left f g found goes_on o (inl same) =
    (found, as_it_was, subst (λ (x : List ℕ). StandsFor x found) (sym same) o.is.stands)
goes_on_left f g found goes_on o (inr by) =
    (by.left, of_found by.found by.leaves.is by.leaves.left_is, by.stands)
  where
    here : (is : IsFound f found) → IsLeftOf is.first_of_two is.size found by.left
        → IsLeftOf o.is.first_of_two o.is.size found by.left
    here is which =
        let once = opened_once f found is o.is in
        subst (λ (b : Bool). IsLeftOf b o.is.size found by.left) once.0
        (subst (λ (n : ℕ). IsLeftOf is.first_of_two n found by.left) once.1 which)

    of_found : (other : List Step) (is : IsFound f other) → IsLeftOf is.first_of_two is.size other by.left
        → IsLeftOf o.is.first_of_two o.is.size found by.left
    of_found other is which =
        subst
        (λ (x : List Step).
        (is : IsFound f x) → IsLeftOf is.first_of_two is.size x by.left
        → IsLeftOf o.is.first_of_two o.is.size found by.left)
        (sym (one_history f other found is.stands o.is.stands)) here is which
