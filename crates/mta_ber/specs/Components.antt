-- Which contents octets spell the components of a SET or a SEQUENCE (X.690, 8.9 to 8.12): apart from reading.
use Rattle.std.specs.Prelude.{◌≡◌, ℕ, ◌+◌, List, [], ◌∷◌}
use Rattle.std.specs.List.{concat}
use Rattle.mta_ber.specs.declared.tag.Tag.{Tag}
use Rattle.mta_ber.specs.Spelling.{Stands}

-- what a component of a tag, with these contents and these octets of its own, makes of what was read before it, in the
-- level of the component
abbrev pub Makes : Type 0 → Type 1
Makes S = ℕ → S → Tag → List ℕ → List ℕ → S → Type 0

-- one component
pub record IsComponent {S : Type 0} (makes : Makes S) (depth : ℕ) (before : S) (octets : List ℕ)
    (after : S) : Type 0 where
  pub tag : Tag
  pub content : List ℕ
  pub stands : Stands depth tag content octets
  pub made : makes depth before tag content octets after

-- components one behind the other
abbrev pub AreComponents : {S : Type 0} → Makes S → ℕ → S → List (List ℕ) → S → Type 0
AreComponents makes depth before [] after = before ≡ after
AreComponents {S} makes depth before (e ∷ es) after = (between : S) × IsComponent makes depth before e between
    × AreComponents makes depth between es after

-- the content of a SET or a SEQUENCE in the level `depth`
pub record SpellsComponents {S : Type 0} (makes : Makes S) (depth : ℕ) (before : S) (content : List ℕ)
    (after : S) : Type 0 where
  pub components : List (List ℕ)
  pub joined : content ≡ concat components
  pub are : AreComponents makes (depth + 1) before components after
