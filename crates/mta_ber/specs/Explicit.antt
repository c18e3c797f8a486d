-- Which contents octets spell an explicit tag (X.690, 8.14): apart from reading.
use Rattle.std.specs.Prelude.{◌≡◌, ℕ, ◌+◌, Bool, true, List}
use Rattle.mta_ber.specs.declared.tag.Tag.{Tag}
use Rattle.mta_ber.specs.Element.{Part}
use Rattle.mta_ber.specs.Spelling.{Stands, Standing}

-- what an element of a level, a tag, these contents and these octets of its own spells
abbrev pub Spells : Type 0 → Type 1
Spells A = ℕ → Tag → List ℕ → List ℕ → A → Type 0

-- the content of an explicit tag in the level `depth` is exactly one element
pub record SpellsExplicit {A : Type 0} (spells : Spells A) (depth : ℕ) (constructed : Bool) (content : List ℕ)
    (x : A) : Type 0 where
  pub is_constructed : constructed ≡ true
  pub tag : Tag
  pub inside : List ℕ
  pub stands : Stands (depth + 1) tag inside content
  pub spelled : spells (depth + 1) tag inside content x

-- an element stands at the front of the content of an explicit tag, which begins at `start`, in the level below the
-- tag's own
pub record StandsInside (start depth : ℕ) (constructed : Bool) (content : List ℕ) (p : Part) : Type 0 where
  pub is_constructed : constructed ≡ true
  pub standing : Standing start (depth + 1) p content
