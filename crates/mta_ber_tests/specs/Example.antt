-- The example of a SET of three components.
use Rattle.std.specs.Prelude.{◌≡◌, ◌⊎◌, true, Bool, ℕ, ℤ, pos, List, Some, None, Result, Ok, if◌then◌else◌, unwrap_or}
use Rattle.mta_ber.specs.declared.fault.Fault.{Fault}
use Rattle.mta_ber.specs.declared.fault.Kind.TheVariants.{BadTag}
use Rattle.mta_ber.specs.declared.tag.Tag.{Tag}
use Rattle.mta_ber.specs.declared.text.TextClass.TheVariants.{Printable}
use Rattle.mta_ber_tests.specs.declared.note.Note.{Note}
use Rattle.mta_ber_tests.specs.declared.note.NoteParts.{NoteParts}
use Rattle.mta_ber.specs.Head.{◌>>=◌, fault}
use Rattle.mta_ber.specs.Element.{Part}
use Rattle.mta_ber.specs.Parts.{components, is_tag, once, required}
use Rattle.mta_ber.specs.Strings.{text_in}
use Rattle.mta_ber.specs.Int.{int_in, SpellsInteger}
use Rattle.mta_ber.specs.Bits.{BitString, bits_in}
use Rattle.mta_ber.specs.Segmented.{SpellsText, SpellsBits}
use Rattle.mta_ber.specs.Components.{Makes, SpellsComponents}

-- what a component makes of the components before it, or the fault there
unfoldable pub note_step : NoteParts → Part → Result NoteParts Fault
note_step s p =
    if is_tag 2 0 p.tag then (once s.title p.at (text_in Printable 1 20 p) >>= λ t. Ok (record s { title = Some t }))
    else if is_tag 2 1 p.tag then (once s.count p.at (int_in p.at p.tag.constructed (pos 0) (pos 100) p.content) >>=
    λ n. Ok (record s { count = Some n }))
    else if is_tag 2 2 p.tag then (once s.flags p.at (bits_in p) >>= λ b. Ok (record s { flags = Some b }))
    else fault p.at BadTag

abbrev pub no_note : NoteParts
no_note = record { title = None; count = None; flags = None }

unfoldable pub note_in : Part → Result Note Fault
note_in p =
    components note_step no_note p >>= λ s.
    required s.title p.at >>= λ t.
    Ok (record { title = t; count = unwrap_or s.count (pos 0); flags = s.flags })

-- ---- what a component makes where octets spell it

pub record MakesTitle (depth : ℕ) (before : NoteParts) (tag : Tag) (content : List ℕ)
    (after : NoteParts) : Type 0 where
  pub is_tag_of : is_tag 2 0 tag ≡ true
  pub absent : before.title ≡ None
  pub title : List ℕ
  pub spelled : SpellsText Printable 1 20 depth tag.constructed content title
  pub after_is : after ≡ record before { title = Some title }

pub record MakesCount (before : NoteParts) (tag : Tag) (content : List ℕ) (after : NoteParts) : Type 0 where
  pub is_tag_of : is_tag 2 1 tag ≡ true
  pub absent : before.count ≡ None
  pub count : ℤ
  pub spelled : SpellsInteger (pos 0) (pos 100) tag.constructed content count
  pub after_is : after ≡ record before { count = Some count }

pub record MakesFlags (depth : ℕ) (before : NoteParts) (tag : Tag) (content : List ℕ)
    (after : NoteParts) : Type 0 where
  pub is_tag_of : is_tag 2 2 tag ≡ true
  pub absent : before.flags ≡ None
  pub flags : BitString
  pub spelled : SpellsBits depth tag.constructed content flags
  pub after_is : after ≡ record before { flags = Some flags }

abbrev pub MakesNote : Makes NoteParts
MakesNote depth before tag content octets after = MakesTitle depth before tag content after
    ⊎ (MakesCount before tag content after ⊎ MakesFlags depth before tag content after)

-- a SET of a note's components in any order, each at most once, where the count is 0 if it is absent
pub record SpellsNote (depth : ℕ) (constructed : Bool) (content : List ℕ) (v : Note) : Type 0 where
  pub is_constructed : constructed ≡ true
  pub parts : NoteParts
  pub spelled : SpellsComponents MakesNote depth no_note content parts
  pub title : parts.title ≡ Some v.title
  pub count : v.count ≡ unwrap_or parts.count (pos 0)
  pub flags : v.flags ≡ parts.flags
