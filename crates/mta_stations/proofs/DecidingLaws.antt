-- Which of several workers' ends is found is the one that decides.
use Rattle.std.proofs.Common.{◌≡◌, ◌<◌, ◌≤◌, ℕ, Bool, true, false, List, ◌∷◌, Option, Some, None, refl}
use Rattle.std.proofs.Common.{ap, subst, arith, eqb-true, get_or}
use Rattle.std.specs.Prelude.{All, IfSome, IfNone}
use Rattle.std.specs.Option.{option_or}
use Rattle.mta_stations.specs.declared.end.Halt.{Halt}
use Rattle.mta_stations.specs.declared.end.Halt.TheVariants as Halts
use Rattle.mta_stations.specs.Deciding.{Decides, IsAbove, IsFrom, IsUndecided, deciding, first_of, is_status, status_of}
use Rattle.mta_stations.proofs.Finds.{Found, find_none, find_some, of_front}

-- ---- one end

by_status : (P : Option ℕ → Type 0) → P None → P (Some 4) → P (Some 5) → P (Some 7) → (h : Halt) → P (status_of h)
by_status P n d r m Halts.Limit = n
by_status P n d r m Halts.StationEnded = n
by_status P n d r m Halts.StationFailed = n
by_status P n d r m Halts.NoPeer = m
by_status P n d r m Halts.Disk = d
by_status P n d r m (Halts.Full size need) = r
by_status P n d r m (Halts.Spent last) = r
by_status P n d r m Halts.Memory = m

abbrev IsNo : ℕ → Halt → Type 0
IsNo status h = is_status status (status_of h) ≡ false

from_4 : (h : Halt) → IsFrom 4 h
from_4 = by_status (λ o. IfSome o (λ m. 4 ≤ m)) tt (omega arith) (omega arith) (omega arith)

above_4 : (h : Halt) → IsNo 4 h → IsAbove 4 h
above_4 = by_status (λ o. is_status 4 o ≡ false → IfSome o (λ m. 4 < m)) (λ _. tt) (λ a. absurd cc) (λ _. omega arith)
    (λ _. omega arith)

from_5 : (h : Halt) → IsNo 4 h → IsFrom 5 h
from_5 = by_status (λ o. is_status 4 o ≡ false → IfSome o (λ m. 5 ≤ m)) (λ _. tt) (λ a. absurd cc) (λ _. omega arith)
    (λ _. omega arith)

above_5 : (h : Halt) → IsNo 4 h → IsNo 5 h → IsAbove 5 h
above_5 = by_status (λ o. is_status 4 o ≡ false → is_status 5 o ≡ false → IfSome o (λ m. 5 < m)) (λ _ _. tt)
    (λ a _. absurd cc) (λ _ b. absurd cc) (λ _ _. omega arith)

from_7 : (h : Halt) → IsNo 4 h → IsNo 5 h → IsFrom 7 h
from_7 = by_status (λ o. is_status 4 o ≡ false → is_status 5 o ≡ false → IfSome o (λ m. 7 ≤ m)) (λ _ _. tt)
    (λ a _. absurd cc) (λ _ b. absurd cc) (λ _ _. omega arith)

of_none : (h : Halt) → IsNo 4 h → IsNo 5 h → IsNo 7 h → status_of h ≡ None
of_none = by_status (λ o. is_status 4 o ≡ false → is_status 5 o ≡ false → is_status 7 o ≡ false → o ≡ None)
    (λ _ _ _. refl) (λ a _ _. absurd cc) (λ _ b _. absurd cc) (λ _ _ c. absurd cc)

above_7 : (h : Halt) → IsNo 4 h → IsNo 5 h → IsNo 7 h → IsAbove 7 h
above_7 h a b c = let e = of_none h a b c in rw e tt

its_status : (status : ℕ) (o : Option ℕ) → is_status status o ≡ true → o ≡ Some status
its_status status None e = absurd cc
its_status status (Some m) e = ap (λ (n : ℕ). Some n) (eqb-true m status e)

-- ---- several

abbrev AreNo : ℕ → List Halt → Type 0
AreNo status halts = All (IsNo status) halts

abbrev FoundOf : ℕ → List Halt → Halt → Type 0
FoundOf status halts h = Found (λ x. is_status status (status_of x)) halts h

front : (status other : ℕ) (halts : List Halt) (h : Halt) (f : FoundOf status halts h) → AreNo other halts
    → AreNo other f.before
front status other halts h f none = of_front (IsNo other) f.before (h ∷ f.behind)
    (subst (All (IsNo other)) f.stands none)

of_disk : (halts : List Halt) (h : Halt) → FoundOf 4 halts h → Decides halts h
of_disk halts h f = record {
  before = f.before;
  behind = f.behind;
  stands = f.stands;
  status = 4;
  is_its = its_status 4 (status_of h) f.passes;
  lowest = λ k d lt. from_4 (get_or halts k d);
  first = λ k d lt. above_4 (get_or f.before k d) (f.others k d lt);
}

of_room : (halts : List Halt) (h : Halt) → AreNo 4 halts → FoundOf 5 halts h → Decides halts h
of_room halts h a f = record {
  before = f.before;
  behind = f.behind;
  stands = f.stands;
  status = 5;
  is_its = its_status 5 (status_of h) f.passes;
  lowest = λ k d lt. from_5 (get_or halts k d) (a k d lt);
  first = λ k d lt. above_5 (get_or f.before k d) (front 5 4 halts h f a k d lt) (f.others k d lt);
}

of_memory : (halts : List Halt) (h : Halt) → AreNo 4 halts → AreNo 5 halts → FoundOf 7 halts h → Decides halts h
of_memory halts h a b f = record {
  before = f.before;
  behind = f.behind;
  stands = f.stands;
  status = 7;
  is_its = its_status 7 (status_of h) f.passes;
  lowest = λ k d lt. from_7 (get_or halts k d) (a k d lt) (b k d lt);
  first = λ k d lt. above_7 (get_or f.before k d) (front 7 4 halts h f a k d lt) (front 7 5 halts h f b k d lt)
      (f.others k d lt);
}

one_of : (halts : List Halt) (d r m : Option Halt) → IfSome d (FoundOf 4 halts) → IfNone d (AreNo 4 halts)
    → IfSome r (FoundOf 5 halts) → IfNone r (AreNo 5 halts) → IfSome m (FoundOf 7 halts)
    → IfSome (option_or d (option_or r m)) (Decides halts)
one_of halts (Some h) r m f a g b i = of_disk halts h f
one_of halts None (Some h) m f a g b i = of_room halts h a g
one_of halts None None (Some h) f a g b i = of_memory halts h a b i
one_of halts None None None f a g b i = tt

none_of : (halts : List Halt) (d r m : Option Halt) → IfNone d (AreNo 4 halts) → IfNone r (AreNo 5 halts)
    → IfNone m (AreNo 7 halts) → IfNone (option_or d (option_or r m)) (IsUndecided halts)
none_of halts (Some h) r m a b c = tt
none_of halts None (Some h) m a b c = tt
none_of halts None None (Some h) a b c = tt
none_of halts None None None a b c =
    λ k d lt. of_none (get_or halts k d) (a k d lt) (b k d lt) (c k d lt)

abbrev tests : ℕ → Halt → Bool
tests status x = is_status status (status_of x)

pub deciding_found : (halts : List Halt) → IfSome (deciding halts) (Decides halts)
deciding_found halts = one_of halts (first_of 4 halts) (first_of 5 halts) (first_of 7 halts)
    (find_some (tests 4) halts) (find_none (tests 4) halts) (find_some (tests 5) halts) (find_none (tests 5) halts)
    (find_some (tests 7) halts)

pub deciding_none : (halts : List Halt) → IfNone (deciding halts) (IsUndecided halts)
deciding_none halts = none_of halts (first_of 4 halts) (first_of 5 halts) (first_of 7 halts)
    (find_none (tests 4) halts) (find_none (tests 5) halts) (find_none (tests 7) halts)
