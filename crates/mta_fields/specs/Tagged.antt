-- Spellings of types that have one tag each.
use Rattle.std.specs.Prelude.{◌≡◌, ℕ, List, ◌++◌}
use Rattle.mta_ber.specs.declared.tag.Tag.{Tag}
use Rattle.mta_ber.specs.Spelling.{Stands}

-- octets that spell a value of such a type in a level
pub record IsTagged {A : Type 0} (spells : ℕ → Tag → List ℕ → A → Type 0) (depth : ℕ)
    (octets : List ℕ) (v : A) : Type 0 where
  pub tag : Tag
  pub content : List ℕ
  pub stands : Stands depth tag content octets
  pub spelled : spells depth tag content v

-- where octets begin with a spelling, they begin with no other, and it is the spelling of one value
abbrev pub NoTaggedBeginsAnother : {A : Type 0} → (ℕ → Tag → List ℕ → A → Type 0) → Type 0
NoTaggedBeginsAnother {A} spells =
    (depth : ℕ) (e e' x y : List ℕ) (v w : A) → IsTagged spells depth e v → IsTagged spells depth e' w
    → e ++ x ≡ e' ++ y → (e ≡ e') × (v ≡ w)
