-- The items that wait, ascending, and how many recipients of each.
use Rattle.std.specs.Prelude.{◌≡◌, ◌≤◌, ◌<◌, ℕ, ◌==◌, List, [], ◌∷◌, length, if◌then◌else◌}

-- numbers that ascend
abbrev pub IsAscending : List ℕ → Type 0
IsAscending [] = Unit {0}
IsAscending (a ∷ []) = Unit {0}
IsAscending (a ∷ b ∷ rest) = (a < b) × IsAscending (b ∷ rest)

abbrev pub AreSome : List ℕ → Type 0
AreSome [] = Unit {0}
AreSome (c ∷ cs) = (1 ≤ c) × AreSome cs

-- the count that stands beside a number; none where the number is not among them
abbrev pub count_beside : List ℕ → List ℕ → ℕ → ℕ
count_beside [] cs i = 0
count_beside (n ∷ ns) [] i = 0
count_beside (n ∷ ns) (c ∷ cs) i = if n == i then c else count_beside ns cs i

pub record QueueValue : Type 0 where
  pub numbers : List ℕ
  pub counts : List ℕ
  pub room : ℕ

-- how many recipients of an item wait
abbrev pub waits : QueueValue → ℕ → ℕ
waits q i = count_beside q.numbers q.counts i

pub record IsWhole (numbers counts : List ℕ) : Type 0 where
  pub both : length numbers ≡ length counts
  pub ascending : IsAscending numbers
  pub some : AreSome counts

-- as many more of one item wait
abbrev pub more_of : ℕ → ℕ → ℕ → ℕ
more_of item count i = if item == i then count else 0
