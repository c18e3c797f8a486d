-- The content of a message (X.411, Content): an OCTET STRING, lent where it is primitive, else its segments joined.
use Rattle.std.specs.Prelude.{◌≡◌, Bool, true, false, List, ℕ, Result, Ok, Err, not, if◌then◌else◌}
use Rattle.std.specs.Borrow.{Bor}
use Rattle.mta_ber.specs.declared.fault.Fault.{Fault}
use Rattle.mta_ber.specs.declared.fault.Kind.TheVariants.{BadTag}
use Rattle.mta_ber.specs.declared.fault.ReadFault.{ReadFault}
use Rattle.mta_ber.specs.declared.fault.ReadFault.TheVariants as faults
use Rattle.mta_ber.specs.declared.tag.Tag.{Tag}
use Rattle.mta_ber.specs.Element.{Part}
use Rattle.mta_ber.specs.Head.{◌>>=◌, fault}
use Rattle.mta_ber.specs.Parts.{is_tag, Fails}
use Rattle.mta_ber.specs.Place.{IsTail}
use Rattle.mta_ber.specs.Segmented.{SpellsOctets}
use Rattle.mta_ber.specs.Strings.{joined_as}
use Rattle.mta_envelope.specs.declared.content.Content.{Content}
use Rattle.mta_envelope.specs.declared.content.Content.TheVariants.{Lent, Joined}

-- what a function answers, seen by a view, is what reading gives, unless memory ran out
abbrev pub ReadsSeen : {X Y : Type 0} → (X → Y) → Result X ReadFault → Result Y Fault → Type 0
ReadsSeen seen (Ok x) read = read ≡ Ok (seen x)
ReadsSeen seen (Err e) read = Fails e read

-- and is this value, unless memory ran out
abbrev pub IsSeenAs : {X Y : Type 0} → (X → Y) → Result X ReadFault → Y → Type 0
IsSeenAs seen (Ok x) y = seen x ≡ y
IsSeenAs seen (Err faults.Memory) y = Unit {0}
IsSeenAs seen (Err (faults.Bad f)) y = ⊥

-- ---- values

abbrev pub octets_of : Content → List ℕ
octets_of (Lent c) = c.now
octets_of (Joined o) = o

abbrev pub is_lent : Content → Bool
is_lent (Lent c) = true
is_lent (Joined o) = false

-- whether a content stands in one piece, and its octets
pub record ContentValue : Type 0 where
  pub lent : Bool
  pub octets : List ℕ

abbrev pub content_as : Bool → List ℕ → ContentValue
content_as lent octets = record { lent = lent; octets = octets }

abbrev pub content_value : Content → ContentValue
content_value c = content_as (is_lent c) (octets_of c)

-- what is lent is this slice itself
abbrev pub IsLentFrom : Bor (List ℕ) → Content → Type 0
IsLentFrom slice (Lent c) = c ≡ slice
IsLentFrom slice (Joined o) = Unit {0}

-- what is lent is the end of this slice, in its memory
abbrev pub IsLentEndOf : Bor (List ℕ) → Content → Type 0
IsLentEndOf slice (Lent c) = IsTail c slice
IsLentEndOf slice (Joined o) = Unit {0}

-- ---- reading

abbrev pub is_octet_string : Tag → Bool
is_octet_string t = is_tag 0 4 t

unfoldable pub content_in : Part → Result ContentValue Fault
content_in p = if is_octet_string p.tag then (joined_as 4 p >>= λ o. Ok (content_as (not p.tag.constructed) o))
    else fault p.at BadTag

-- ---- what spells a content: lent exactly where it is primitive

pub record SpellsContent (depth : ℕ) (tag : Tag) (content octets : List ℕ) (v : ContentValue) : Type 0 where
  pub is_tag_of : is_octet_string tag ≡ true
  pub spelled : SpellsOctets 4 depth tag.constructed content v.octets
  pub lent : v.lent ≡ not tag.constructed
