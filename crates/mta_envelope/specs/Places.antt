-- Where a content lies that is lent of the octets of a message.
use Rattle.std.specs.Prelude.{◌≡◌, ℕ, ◌+◌, false, List, ◌++◌, length, Option, Some, None}
use Rattle.std.specs.Prelude.{if◌then◌else◌}
use Rattle.std.specs.Borrow.{Bor}
use Rattle.mta_ber.specs.declared.tag.Tag.{Tag}
use Rattle.mta_ber.specs.Element.{Part}
use Rattle.mta_ber.specs.Place.{IsAt}
use Rattle.mta_ber.specs.Spelling.{Stands}
use Rattle.mta_envelope.specs.declared.content.Content.{Content}
use Rattle.mta_envelope.specs.declared.content.Content.TheVariants.{Lent, Joined}
use Rattle.mta_envelope.specs.declared.place.Place.{Place}

-- the place of the contents octets of an element, where it is primitive
abbrev pub place_in : Part → Option Place
place_in p = if p.tag.constructed then None else Some (record { from = p.start; to = p.start + length p.content })

-- the octets of an element that has nothing behind it, at an offset of its own
pub record IsLast (depth : ℕ) (bytes octets : List ℕ) (offset : ℕ) : Type 0 where
  pub tag : Tag
  pub stands : Stands depth tag octets bytes
  pub is_primitive : tag.constructed ≡ false
  pub offset_is : offset ≡ length stands.header

-- the octets of the content in the contents octets of a message: those of the element behind the envelope
pub record IsBehindEnvelope (depth : ℕ) (content octets : List ℕ) (offset : ℕ) : Type 0 where
  pub envelope : List ℕ
  pub string : List ℕ
  pub joined : content ≡ envelope ++ string
  pub tag : Tag
  pub inside : List ℕ
  pub stands : Stands depth tag inside envelope
  pub inner_offset : ℕ
  pub last : IsLast depth string octets inner_offset
  pub offset_is : offset ≡ length envelope + inner_offset

-- what is lent is memory of `whole` from an offset on, of which the place tells the offset in the input, where `whole`
-- begins at `start`
pub record IsPlacedAt (at_offset : List ℕ → List ℕ → ℕ → Type 0) (start : ℕ) (whole c : Bor (List ℕ))
    (p : Place) : Type 0 where
  pub offset : ℕ
  pub from_is : p.from ≡ start + offset
  pub to_is : p.to ≡ p.from + length c.now
  pub stands : at_offset whole.now c.now offset
  pub memory : IsAt offset c whole

-- a content that is lent has a place, and one that was joined has none
abbrev pub IsPlaced : (List ℕ → List ℕ → ℕ → Type 0) → ℕ → Bor (List ℕ) → Content
    → Option Place → Type 0
IsPlaced at_offset start whole (Lent c) (Some p) = IsPlacedAt at_offset start whole c p
IsPlaced at_offset start whole (Joined o) None = Unit {0}
IsPlaced at_offset start whole (Lent c) None = ⊥
IsPlaced at_offset start whole (Joined o) (Some p) = ⊥
