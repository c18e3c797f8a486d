-- What a clock in memory tells: its moments in order and then the last one, or 0 where there is none.
use Rattle.std.specs.Prelude.{ℕ, zero, suc, ◌≡◌, ◌⊎◌, ◌<◌, ◌↔◌, List, [], ◌∷◌, Contains, length, slice_index_or, Some}
use mathlib.Core.Path.{sym, refl}
use mathlib.Core.Logic.{inl, inr}
use Rattle.std.proofs.Common.{arith}
use Rattle.mta_edge.specs.Views.{ClockLaws, ClockView}

-- one of the moments that are left, or 0 where there are none
abbrev pub may_tell : List ℕ → ℕ → Type 0
may_tell left m = Contains left m ⊎ ((left ≡ []) × (m ≡ 0))

-- what is left behind a call: the last moment stays
abbrev pub later_moments : List ℕ → List ℕ
later_moments [] = []
later_moments (m ∷ []) = m ∷ []
later_moments (m ∷ n ∷ left) = n ∷ left

-- the moments that it may still tell
abbrev pub listed : List ℕ → List ℕ
listed [] = 0 ∷ []
listed (m ∷ left) = m ∷ left

abbrev pub memory_clock : ClockView (List ℕ)
memory_clock = record { tells = may_tell; moments = λ left. Some (listed left) }

only_zero : (m k : ℕ) → k < 1 → slice_index_or (0 ∷ []) k m ≡ m → m ≡ 0
only_zero m zero inside is = sym is
only_zero m (suc k) inside is = absurd (omega (arith, inside))

tells_listed : (left : List ℕ) (m : ℕ) → may_tell left m ↔ Contains (listed left) m
tells_listed [] m = (
  λ told.
      elim told [ inl one ↦ absurd (omega (arith, one.1)) | inr none ↦ (0, omega arith, sym none.1) ],
  λ one. inr (refl, only_zero m one.0 one.1 one.2),
)
tells_listed (x ∷ left) m = (
  λ told. elim told [ inl one ↦ one | inr none ↦ absurd cc ],
  λ one. inl one,
)

pub memory_clock_laws : ClockLaws memory_clock
memory_clock_laws = record { listed = tells_listed }
