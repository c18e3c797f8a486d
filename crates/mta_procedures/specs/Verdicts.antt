-- What is done with a recipient (X.411, clause 14: main module, deferral, routing, distribution lists; which reason
-- stands with which diagnostic is own): the first case that applies, in the column of the item's kind.
use Rattle.std.specs.Prelude.{◌≡◌, ℕ, Bool, true, false, List, [], ◌∷◌, ◌++◌, unwrap_or}
use Rattle.std.specs.Prelude.{if◌then◌else◌, ◌&&◌}
use Rattle.std.specs.List.{find, list_any}
use Rattle.std.specs.Option.{option_map_or}
use Rattle.mta_envelope_recipient.specs.declared.recipient.RecipientFields.{RecipientFields}
use Rattle.mta_envelope.specs.declared.envelope.EnvelopeFields.{EnvelopeFields}
use Rattle.mta_envelope.specs.Messages.{MessageValue}
use Rattle.mta_report.specs.declared.fields.ReportFields.{ReportFields}
use Rattle.mta_tables.specs.declared.hop.Hop.{Hop}
use Rattle.mta_tables.specs.declared.hop.Hop.TheVariants as Hops
use Rattle.mta_tables.specs.Hops.{best_hop}
use Rattle.mta_procedures.specs.declared.case.Case.{Case}
use Rattle.mta_procedures.specs.declared.case.Case.TheVariants.{Looped, CriticalExtension, NoRoute, Expired, Deferred}
use Rattle.mta_procedures.specs.declared.case.Case.TheVariants.{ListInHistory, ListProhibited, PosterNotPermitted}
use Rattle.mta_procedures.specs.declared.case.Case.TheVariants.{FullHistory, LongMembersCopy, ToList, ToMailbox}
use Rattle.mta_procedures.specs.declared.case.Case.TheVariants.{LongCopy, ToPeer}
use Rattle.mta_procedures.specs.declared.codes.TheConstants.{TRANSFER_FAILURE, UNABLE_TO_TRANSFER, UNRECOGNISED_NAME}
use Rattle.mta_procedures.specs.declared.codes.TheConstants.{LOOP_DETECTED, MAXIMUM_TIME_EXPIRED, CONTENT_TOO_LONG}
use Rattle.mta_procedures.specs.declared.codes.TheConstants.{UNSUPPORTED_CRITICAL_FUNCTION, EXPANSION_PROHIBITED}
use Rattle.mta_procedures.specs.declared.codes.TheConstants.{NO_SUBMIT_PERMISSION}
use Rattle.mta_procedures.specs.declared.verdict.Verdict.{Verdict}
use Rattle.mta_procedures.specs.declared.verdict.Verdict.TheVariants.{Deliver, Expand, Relay, Affirm, NonDeliver, Hold}
use Rattle.mta_procedures.specs.declared.verdict.Verdict.TheVariants.{Back, Discard}
use Rattle.mta_procedures.specs.Facts.{Facts, facts_of_message, facts_of_probe, facts_of_report, list_at}
use Rattle.mta_procedures.specs.Members.{members_length}
use Rattle.mta_procedures.specs.Situations.{Situation}

-- ---- cases

abbrev pub leads_nowhere : Hop → Bool
leads_nowhere Hops.None = true
leads_nowhere _ = false

abbrev pub leads_to_list : Hop → Bool
leads_to_list (Hops.List place) = true
leads_to_list _ = false

abbrev pub leads_to_mailbox : Hop → Bool
leads_to_mailbox (Hops.Local place) = true
leads_to_mailbox _ = false

abbrev pub leads_to_peer : Hop → Bool
leads_to_peer (Hops.Peer place) = true
leads_to_peer _ = false

-- when a case applies
abbrev pub applies : Facts → Case → Bool
applies f Looped = f.looped
applies f CriticalExtension = f.critical
applies f NoRoute = leads_nowhere f.hop
applies f Expired = f.expired
applies f Deferred = f.deferred
applies f ListInHistory = leads_to_list f.hop && f.in_history
applies f ListProhibited = leads_to_list f.hop && f.prohibited
applies f PosterNotPermitted = leads_to_list f.hop && f.not_permitted
applies f FullHistory = leads_to_list f.hop && f.full_history
applies f LongMembersCopy = leads_to_list f.hop && f.long_members
applies f ToList = leads_to_list f.hop
applies f ToMailbox = leads_to_mailbox f.hop
applies f LongCopy = leads_to_peer f.hop && f.long_copy
applies f ToPeer = leads_to_peer f.hop

-- the order in which they are looked at
abbrev pub cases : List Case
cases =
    Looped ∷ CriticalExtension ∷ NoRoute ∷ Expired ∷ Deferred ∷ ListInHistory ∷ ListProhibited ∷
    PosterNotPermitted ∷ FullHistory ∷ LongMembersCopy ∷ ToList ∷ ToMailbox ∷ LongCopy ∷ ToPeer ∷ []

-- the first case that applies; one does, since a hop leads nowhere, to a list, to a mailbox or to a peer
unfoldable pub first_case : Facts → Case
first_case f = unwrap_or (find (applies f) cases) ToPeer

-- ---- columns

-- the place to which a hop leads
abbrev pub place_of : Hop → ℕ
place_of (Hops.Local place) = place
place_of (Hops.List place) = place
place_of (Hops.Peer place) = place
place_of Hops.None = 0

-- of a message, whose deferral is given
abbrev pub message_column : Hop → ℕ → Case → Verdict
message_column hop deferral Looped = NonDeliver TRANSFER_FAILURE LOOP_DETECTED
message_column hop deferral CriticalExtension = NonDeliver UNABLE_TO_TRANSFER UNSUPPORTED_CRITICAL_FUNCTION
message_column hop deferral NoRoute = NonDeliver UNABLE_TO_TRANSFER UNRECOGNISED_NAME
message_column hop deferral Expired = NonDeliver TRANSFER_FAILURE MAXIMUM_TIME_EXPIRED
message_column hop deferral Deferred = Hold deferral
message_column hop deferral ListInHistory = Expand (place_of hop)
message_column hop deferral ListProhibited = NonDeliver UNABLE_TO_TRANSFER EXPANSION_PROHIBITED
message_column hop deferral PosterNotPermitted = NonDeliver UNABLE_TO_TRANSFER NO_SUBMIT_PERMISSION
message_column hop deferral FullHistory = NonDeliver TRANSFER_FAILURE LOOP_DETECTED
message_column hop deferral LongMembersCopy = NonDeliver UNABLE_TO_TRANSFER CONTENT_TOO_LONG
message_column hop deferral ToList = Expand (place_of hop)
message_column hop deferral ToMailbox = Deliver (place_of hop)
message_column hop deferral LongCopy = NonDeliver UNABLE_TO_TRANSFER CONTENT_TOO_LONG
message_column hop deferral ToPeer = Relay (place_of hop)

-- of a probe, which is affirmed where a message would be delivered or a list looked at; it has no deferral
abbrev pub probe_column : Hop → Case → Verdict
probe_column hop Looped = NonDeliver TRANSFER_FAILURE LOOP_DETECTED
probe_column hop CriticalExtension = NonDeliver UNABLE_TO_TRANSFER UNSUPPORTED_CRITICAL_FUNCTION
probe_column hop NoRoute = NonDeliver UNABLE_TO_TRANSFER UNRECOGNISED_NAME
probe_column hop Expired = NonDeliver TRANSFER_FAILURE MAXIMUM_TIME_EXPIRED
probe_column hop Deferred = Affirm
probe_column hop ListInHistory = Affirm
probe_column hop ListProhibited = NonDeliver UNABLE_TO_TRANSFER EXPANSION_PROHIBITED
probe_column hop PosterNotPermitted = NonDeliver UNABLE_TO_TRANSFER NO_SUBMIT_PERMISSION
probe_column hop FullHistory = Affirm
probe_column hop LongMembersCopy = Affirm
probe_column hop ToList = Affirm
probe_column hop ToMailbox = Affirm
probe_column hop LongCopy = NonDeliver UNABLE_TO_TRANSFER CONTENT_TOO_LONG
probe_column hop ToPeer = Relay (place_of hop)

-- of a report, which is never reported on; one that goes to a list goes back where there is someone to whom it can
abbrev pub report_column : Hop → Bool → Case → Verdict
report_column hop back ToList = if back then Back else Discard
report_column hop back ToMailbox = Deliver (place_of hop)
report_column hop back ToPeer = Relay (place_of hop)
report_column hop back Looped = Discard
report_column hop back NoRoute = Discard
report_column hop back Expired = Discard
report_column hop back LongCopy = Discard
report_column hop back _ = Discard

-- ---- verdicts

-- of a recipient of a message in a format, where the members' copy would have so many octets
unfoldable pub verdict_of_message : (format : ℕ) → Situation → MessageValue → RecipientFields → ℕ
    → Verdict
verdict_of_message format s m r members =
    message_column (best_hop s.tables r.name) (unwrap_or m.envelope.deferral 0)
    (first_case (facts_of_message format s m r members))

-- how many octets the members' copy has, where the name leads to a list
abbrev pub length_for_members : Situation → MessageValue → RecipientFields → ℕ
length_for_members s m r = option_map_or (λ l. members_length s l m r) (list_at s.tables (best_hop s.tables r.name)) 0

-- of a recipient of a message, all told
abbrev pub verdict_on_message : (format : ℕ) → Situation → MessageValue → RecipientFields → Verdict
verdict_on_message format s m r = verdict_of_message format s m r (length_for_members s m r)

unfoldable pub verdict_of_probe : (format : ℕ) → Situation → EnvelopeFields → RecipientFields → Verdict
verdict_of_probe format s e r = probe_column (best_hop s.tables r.name) (first_case (facts_of_probe format s e r))

-- of a report, where it is known whether there is someone to whom it can go back; it is the same in each format
unfoldable pub verdict_of_report : Situation → ReportFields → Bool → Verdict
verdict_of_report s p back = report_column (best_hop s.tables p.destination) back (first_case (facts_of_report s p))

-- ---- the same, as facts

-- a case applies, and none before it does
pub record IsFirst (f : Facts) (c : Case) : Type 0 where
  pub before : List Case
  pub behind : List Case
  pub stands : cases ≡ before ++ c ∷ behind
  pub applies_so : applies f c ≡ true
  pub none_before : list_any (applies f) before ≡ false
