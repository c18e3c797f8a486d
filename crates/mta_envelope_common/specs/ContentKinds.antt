-- Content types (X.411, ContentType): a number, or an object identifier.
use Rattle.std.specs.Prelude.{◌≡◌, ℕ, pos, ◌≤◌, Bool, true, List, [], Result, Ok, ◌||◌, if◌then◌else◌}
use Rattle.mta_ber.specs.declared.fault.Fault.{Fault}
use Rattle.mta_ber.specs.declared.fault.Kind.TheVariants.{BadTag}
use Rattle.mta_ber.specs.declared.tag.Tag.{Tag}
use Rattle.mta_ber.specs.Canon.{element, primitive}
use Rattle.mta_ber.specs.Contents.{canon_int}
use Rattle.mta_ber.specs.Element.{Part}
use Rattle.mta_ber.specs.Explicit.{Spells}
use Rattle.mta_ber.specs.Forms.{is_primitive_tag}
use Rattle.mta_ber.specs.Head.{◌>>=◌, fault}
use Rattle.mta_ber.specs.Oid.{oid_in, IsOid, SpellsOid}
use Rattle.mta_ber.specs.Parts.{is_tag}
use Rattle.mta_names.specs.Strings.{number_in, SpellsNumber}
use Rattle.mta_envelope_common.specs.declared.kind.ContentKind.{ContentKind}
use Rattle.mta_envelope_common.specs.declared.kind.ContentKind.TheVariants.{Number, Oid}

abbrev pub IsContentKind : ContentKind → Type 0
IsContentKind (Number n) = n ≤ 32767
IsContentKind (Oid o) = IsOid o

-- the tag of a content type, which is primitive: [APPLICATION 6], or that of OBJECT IDENTIFIER
abbrev pub is_content_kind : Tag → Bool
is_content_kind t = is_primitive_tag 1 6 t || is_primitive_tag 0 6 t

abbrev pub number_kind_in : Part → Result ContentKind Fault
number_kind_in p = number_in 0 32767 p >>= λ n. Ok (Number n)

abbrev pub oid_kind_in : Part → Result ContentKind Fault
oid_kind_in p = oid_in p >>= λ o. Ok (Oid o)

unfoldable pub content_kind_in : Part → Result ContentKind Fault
content_kind_in p = if is_tag 1 6 p.tag then number_kind_in p else if is_tag 0 6 p.tag then oid_kind_in p
    else fault p.at BadTag

-- ---- what spells a content type

abbrev pub SpellsContentKind : Spells ContentKind
SpellsContentKind depth tag content octets (Number n) = (is_tag 1 6 tag ≡ true)
    × SpellsNumber 0 32767 tag.constructed content n
SpellsContentKind depth tag content octets (Oid o) = (is_tag 0 6 tag ≡ true) × SpellsOid tag.constructed content o

-- ---- the one spelling that is written

abbrev pub canonical_content_kind : ContentKind → List ℕ
canonical_content_kind (Number n) = canon_int (primitive 1 6) (pos n)
canonical_content_kind (Oid o) = element (primitive 0 6) o

-- in a SET an object identifier stands in front of all components of other classes, and a number at the place of its
-- tag
abbrev pub kind_in_front : ContentKind → List ℕ
kind_in_front (Number n) = []
kind_in_front (Oid o) = element (primitive 0 6) o

abbrev pub kind_in_place : ContentKind → List ℕ
kind_in_place (Number n) = canon_int (primitive 1 6) (pos n)
kind_in_place (Oid o) = []
