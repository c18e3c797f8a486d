-- The octets that are written: definite minimal lengths, SETs in the order of their tags, no component that equals its
-- default, and nothing that is passed over when it is read. A password is written as IA5String.
use Rattle.std.specs.Prelude.{ℕ, pos, Bool, List, [], ◌++◌, ◌==◌, if◌then◌else◌}
use Rattle.mta_ber.specs.declared.tag.Tag.{Tag}
use Rattle.mta_ber.specs.Canon.{element, primitive, constructed, optional}
use Rattle.mta_ber.specs.Contents.{canon_int, canon_utc}
use Rattle.mta_ber.specs.declared.text.TextClass.TheVariants.{Ia5}
use Rattle.mta_ber.specs.Strings.{IsText}
use Rattle.mta_records.specs.Reference.{Identifier, IsIdentifier}
use Rattle.mta_rtse.specs.declared.types.Request.{Request}
use Rattle.mta_rtse.specs.declared.types.Request.TheVariants as ask
use Rattle.mta_rtse.specs.declared.types.Answer.{Answer}
use Rattle.mta_rtse.specs.declared.types.Answer.TheVariants as reply
use Rattle.mta_rtse.specs.Bind.{longest_password}
use Rattle.mta_rtse.specs.Request.{default_window}

-- a session connection identifier under a tag
unfoldable pub canon_reference : Tag → Identifier → List ℕ
canon_reference t i =
    element t (element (primitive 0 4) i.calling ++ canon_utc (primitive 0 23) i.common
    ++ optional (element (primitive 2 0)) i.additional)

-- a bind of a name and a password, opened
unfoldable pub canon_bind : List ℕ → List ℕ → List ℕ
canon_bind name password =
    element (constructed 2 0) (element (constructed 2 1)
    (element (primitive 2 0) name ++ element (constructed 2 1) (element (primitive 0 22) password)))

unfoldable pub canon_null : List ℕ
canon_null = element (constructed 2 0) (element (primitive 0 5) [])

abbrev pub canon_request_data : Request → List ℕ
canon_request_data ask.Null = canon_null
canon_request_data (ask.Bind name password) = canon_bind name password
canon_request_data (ask.Recover reference) = canon_reference (constructed 2 1) reference

abbrev pub canon_answer_data : Answer → List ℕ
canon_answer_data (reply.Bind name password) = canon_bind name password
canon_answer_data (reply.Recover reference) = canon_reference (constructed 2 1) reference

-- a number, where it is not its default
abbrev pub canon_unless : ℕ → ℕ → ℕ → List ℕ
canon_unless default number n = if n == default then [] else canon_int (primitive 2 number) (pos n)

abbrev pub canon_flag : ℕ → Bool → List ℕ
canon_flag number flag = if flag then canon_int (primitive 2 number) (pos 1) else []

unfoldable pub canon_rtorq : ℕ → ℕ → Bool → Request → List ℕ
canon_rtorq checkpoint window twa request =
    element (constructed 2 16) (canon_unless 0 0 checkpoint ++ canon_unless default_window 1 window ++ canon_flag 2 twa
    ++ element (constructed 2 3) (canon_request_data request))

unfoldable pub canon_rtoac : ℕ → ℕ → Answer → List ℕ
canon_rtoac checkpoint window answer =
    element (constructed 2 17) (canon_unless 0 0 checkpoint ++ canon_unless default_window 1 window
    ++ element (constructed 2 2) (canon_answer_data answer))

-- a reason under a tag
unfoldable pub canon_reason : ℕ → ℕ → List ℕ
canon_reason number reason = element (constructed 2 number) (canon_int (primitive 2 0) (pos reason))

-- a reference that a request holds is one
abbrev pub HasIdentifier : Request → Type 0
HasIdentifier ask.Null = Unit {0}
HasIdentifier (ask.Bind name password) = Unit {0}
HasIdentifier (ask.Recover reference) = IsIdentifier reference

-- what can be written: names of 1 to 32 and passwords of at most 62 characters of IA5String
pub record IsWritableBind (name password : List ℕ) : Type 0 where
  pub name_fits : IsText Ia5 1 32 name
  pub password_fits : IsText Ia5 0 longest_password password

abbrev pub IsWritableRequest : Request → Type 0
IsWritableRequest ask.Null = Unit {0}
IsWritableRequest (ask.Bind name password) = IsWritableBind name password
IsWritableRequest (ask.Recover reference) = Unit {0}

-- what can be written, of which a reference is one
abbrev pub IsReadAgain : Request → Type 0
IsReadAgain ask.Null = Unit {0}
IsReadAgain (ask.Bind name password) = IsWritableBind name password
IsReadAgain (ask.Recover reference) = IsIdentifier reference
