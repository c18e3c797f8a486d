-- Messages (X.411, Message): a SEQUENCE of an envelope and a content, under [0]. Probes: an envelope, under [2].
use Rattle.std.specs.Prelude.{◌≡◌, ℕ, ◌+◌, ◌-◌, Bool, true, false, List, ◌++◌, length}
use Rattle.std.specs.Prelude.{Option, Some, None, Result, Ok, if◌then◌else◌}
use Rattle.mta_ber.specs.declared.fault.Fault.{Fault}
use Rattle.mta_ber.specs.declared.fault.Kind.TheVariants.{BadTag, Missing}
use Rattle.mta_ber.specs.declared.tag.Tag.{Tag}
use Rattle.mta_ber.specs.Canon.{element, constructed, primitive}
use Rattle.mta_ber.specs.Element.{Part, next_part, alone}
use Rattle.mta_ber.specs.Forms.{is_constructed_tag}
use Rattle.mta_ber.specs.Head.{◌>>=◌, fault}
use Rattle.mta_ber.specs.Spelling.{Stands}
use Rattle.mta_envelope_recipient.specs.Lists.{is_set}
use Rattle.mta_envelope.specs.declared.envelope.EnvelopeFields.{EnvelopeFields}
use Rattle.mta_envelope.specs.declared.message.Message.{Message}
use Rattle.mta_envelope.specs.Contents.{ContentValue, content_value, content_in, SpellsContent}
use Rattle.mta_envelope.specs.Envelopes.{envelope_in, SpellsEnvelope, envelope_content}

pub record MessageValue : Type 0 where
  pub envelope : EnvelopeFields
  pub content : ContentValue

abbrev pub message_as : EnvelopeFields → ContentValue → MessageValue
message_as envelope content = record { envelope = envelope; content = content }

abbrev pub message_value : Message → MessageValue
message_value m = message_as m.envelope (content_value m.content)

-- ---- reading

-- the next element of a SEQUENCE, which has to be there
abbrev pub there : ℕ → Option Part → Result Part Fault
there whole None = fault whole Missing
there whole (Some p) = Ok p

abbrev pub next_in : ℕ → ℕ → ℕ → List ℕ → Result Part Fault
next_in whole at depth bytes = next_part at depth bytes >>= there whole

unfoldable pub set_in : Part → Result EnvelopeFields Fault
set_in p = if is_set p.tag then envelope_in false p else fault p.at BadTag

-- where what follows an element begins
abbrev pub behind_at : Part → Part → ℕ
behind_at whole p = whole.start + (length whole.content - length p.rest)

-- a content, and nothing behind it
unfoldable pub last_in : ℕ → ℕ → ℕ → List ℕ → Result ContentValue Fault
last_in whole at depth bytes = next_in whole at depth bytes >>= λ c. content_in c >>= λ o. alone c >>= λ _. Ok o

-- an envelope, and the content behind it
abbrev pub two_in : Part → Result MessageValue Fault
two_in p =
    next_in p.at p.start (p.depth + 1) p.content >>= λ e.
    set_in e >>= λ v.
    last_in p.at (behind_at p e) (p.depth + 1) e.rest >>= λ o.
    Ok (message_as v o)

unfoldable pub message_in : Part → Result MessageValue Fault
message_in p = if is_constructed_tag 2 0 p.tag then two_in p else fault p.at BadTag

unfoldable pub probe_in : Part → Result EnvelopeFields Fault
probe_in p = if is_constructed_tag 2 2 p.tag then envelope_in true p else fault p.at BadTag

-- ---- what spells a message

-- the envelope's SET in the level `depth`
pub record SpellsSet (depth : ℕ) (octets : List ℕ) (v : EnvelopeFields) : Type 0 where
  pub tag : Tag
  pub content : List ℕ
  pub stands : Stands depth tag content octets
  pub is_set_tag : is_set tag ≡ true
  pub spelled : SpellsEnvelope false depth tag.constructed content v

pub record SpellsOctetString (depth : ℕ) (octets : List ℕ) (v : ContentValue) : Type 0 where
  pub tag : Tag
  pub content : List ℕ
  pub stands : Stands depth tag content octets
  pub spelled : SpellsContent depth tag content octets v

-- a SEQUENCE of an envelope and a content
pub record SpellsMessage (depth : ℕ) (tag : Tag) (content : List ℕ) (v : MessageValue) : Type 0 where
  pub is_tag_of : is_constructed_tag 2 0 tag ≡ true
  pub first : List ℕ
  pub second : List ℕ
  pub joined : content ≡ first ++ second
  pub envelope : SpellsSet (depth + 1) first v.envelope
  pub content_of : SpellsOctetString (depth + 1) second v.content

-- the envelope of a probe
pub record SpellsProbe (depth : ℕ) (tag : Tag) (content : List ℕ) (v : EnvelopeFields) : Type 0 where
  pub is_tag_of : is_constructed_tag 2 2 tag ≡ true
  pub spelled : SpellsEnvelope true depth tag.constructed content v

-- ---- the one spelling that is written

unfoldable pub canonical_message : EnvelopeFields → List ℕ → List ℕ
canonical_message v content = element (constructed 2 0)
    (element (constructed 0 17) (envelope_content v) ++ element (primitive 0 4) content)

unfoldable pub canonical_probe : EnvelopeFields → List ℕ
canonical_probe v = element (constructed 2 2) (envelope_content v)
