-- Critical extensions (X.411, the criticality mechanism): those that are marked critical for what this agent is to
-- do, and that it does not honour.
use Rattle.std.specs.Prelude.{ℕ, Bool, true, false, List, [], ◌∷◌, ◌==◌, ◌&&◌, ◌||◌, not}
use Rattle.std.specs.List.{list_any}
use Rattle.mta_fields.specs.declared.extension.ExtFields.{ExtFields}
use Rattle.mta_fields.specs.declared.extension.ExtKind.{ExtKind}
use Rattle.mta_fields.specs.declared.extension.ExtKind.TheVariants.{Standard, Private}
use Rattle.mta_envelope.specs.declared.envelope.EnvelopeFields.{EnvelopeFields}
use Rattle.mta_envelope_recipient.specs.declared.recipient.RecipientFields.{RecipientFields}
use Rattle.mta_tables.specs.declared.hop.Hop.{Hop}
use Rattle.mta_tables.specs.declared.hop.Hop.TheVariants as Hops

-- recipient-reassignment-prohibited 1, dl-expansion-prohibited 3, conversion-with-loss-prohibited 4,
-- latest-delivery-time 5, dl-expansion-history 26, internal-trace-information 38
abbrev pub honoured_numbers : List ℕ
honoured_numbers = 1 ∷ 3 ∷ 4 ∷ 5 ∷ 26 ∷ 38 ∷ []

abbrev pub is_honoured : ExtKind → Bool
is_honoured (Standard n) = list_any (λ k. n == k) honoured_numbers
is_honoured (Private o) = false

-- a mailbox, or a list (own for a list)
abbrev pub is_here : Hop → Bool
is_here (Hops.Local place) = true
is_here (Hops.List place) = true
is_here (Hops.Peer place) = false
is_here Hops.None = false

-- marked critical for transfer, or for delivery where it is delivered here
abbrev pub is_critical : Hop → ExtFields → Bool
is_critical hop f = not (is_honoured f.kind) && (f.transfer || (f.delivery && is_here hop))

-- among the message's extensions or the recipient's
abbrev pub has_critical : Hop → EnvelopeFields → RecipientFields → Bool
has_critical hop e r = list_any (is_critical hop) e.extensions || list_any (is_critical hop) r.extensions
