-- What personal names, domain-defined attributes and attributes kept unread may hold, and when contents octets are an
-- object identifier or a number of 0 to 32,767 (X.411, upper bounds).
use Rattle.std.specs.Prelude.{◌≡◌, ◌≢◌, ℕ, ◌≤◌, true, List, IfSome}
use Rattle.mta_ber.specs.declared.tag.Tag.{Tag}
use Rattle.mta_ber.specs.declared.text.TextClass.TheVariants.{Printable}
use Rattle.mta_ber.specs.Parts.{is_tag}
use Rattle.mta_ber.specs.Spelling.{Stands}
use Rattle.mta_ber.specs.Strings.{IsText}
use Rattle.mta_names.specs.declared.attributes.PersonFields.{PersonFields}
use Rattle.mta_names.specs.declared.attributes.PairFields.{PairFields}
use Rattle.mta_names.specs.declared.attributes.ExtraFields.{ExtraFields}

pub record IsPerson (p : PersonFields) : Type 0 where
  pub surname : IsText Printable 1 40 p.surname
  pub given : IfSome p.given (IsText Printable 1 16)
  pub initials : IfSome p.initials (IsText Printable 1 5)
  pub generation : IfSome p.generation (IsText Printable 1 3)

pub record IsPair (p : PairFields) : Type 0 where
  pub kind : IsText Printable 1 8 p.kind
  pub value : IsText Printable 1 128 p.value

-- the whole octets of one element of a tag, at some level
pub record IsRaw (class number : ℕ) (octets : List ℕ) : Type 0 where
  pub depth : ℕ
  pub tag : Tag
  pub content : List ℕ
  pub is_tag_of : is_tag class number tag ≡ true
  pub stands : Stands depth tag content octets

-- what is kept of an attribute is the explicit tag around its value, which is constructed (X.690, 8.14)
pub record IsExtra (e : ExtraFields) : Type 0 where
  pub small : e.number ≤ 32767
  pub other : e.number ≢ 1
  pub raw : IsRaw 2 1 e.raw
  pub explicit : raw.tag.constructed ≡ true

-- a number as most of X.411 bounds them: a built-in content type, the type of an extension, a type of user, a reason, a
-- diagnostic
abbrev pub IsCode : ℕ → Type 0
IsCode n = n ≤ 32767
