-- Worked cases: a message of 101 octets, and what becomes of it.
use Rattle.std.specs.Prelude.{◌≡◌, ℕ, Bool, true, false, List, [], ◌∷◌, length, map, take, Option, Some}
use Rattle.std.specs.Prelude.{None}
use Rattle.std.specs.Option.{option_map}
use Rattle.mta_ber.specs.Bits.{BitString, bit}
use Rattle.mta_names.specs.declared.attributes.Attributes.{Attributes}
use Rattle.mta_names.specs.declared.attributes.Label.{Label}
use Rattle.mta_names.specs.Values.{nothing}
use Rattle.mta_fields.specs.declared.domain.DomainFields.{DomainFields}
use Rattle.mta_fields.specs.declared.identifier.MtsIdFields.{MtsIdFields}
use Rattle.mta_envelope_common.specs.TraceLists.{canonical_trace_list}
use Rattle.mta_envelope_common.specs.declared.kind.ContentKind.TheVariants.{Number}
use Rattle.mta_envelope_recipient.specs.declared.recipient.RecipientFields.{RecipientFields}
use Rattle.mta_envelope.specs.declared.envelope.EnvelopeFields.{EnvelopeFields}
use Rattle.mta_envelope.specs.declared.priority.Priority.TheVariants.{Normal}
use Rattle.mta_envelope.specs.Contents.{content_as}
use Rattle.mta_envelope.specs.Messages.{MessageValue, message_as, canonical_message}
use Rattle.mta_report_recipient.specs.declared.outcome.Outcome.{Outcome}
use Rattle.mta_report_recipient.specs.declared.outcome.Outcome.TheVariants.{Delivery, NonDelivery}
use Rattle.mta_report_recipient.specs.declared.reported.ReportedFields.{ReportedFields}
use Rattle.mta_report.specs.declared.fields.ReportFields.{ReportFields}
use Rattle.mta_tables.specs.declared.entry.MailList.{MailList}
use Rattle.mta_tables.specs.declared.entry.Route.{Route}
use Rattle.mta_tables.specs.declared.entry.Target.TheVariants as Targets
use Rattle.mta_tables.specs.declared.hop.Hop.TheVariants as Hops
use Rattle.mta_tables.specs.Tables.{TablesValue}
use Rattle.mta_tables.specs.Hops.{best_hop}
use Rattle.mta_procedures.specs.declared.verdict.Verdict.{Verdict}
use Rattle.mta_procedures.specs.declared.verdict.Verdict.TheVariants.{Deliver, Expand, Affirm, NonDeliver, Hold}
use Rattle.mta_procedures.specs.declared.verdict.Verdict.TheVariants.{Discard}
use Rattle.mta_procedures.specs.Copies.{outgoing_envelope, outgoing_message, responsible_for}
use Rattle.mta_procedures.specs.Heads.{outgoing_head}
use Rattle.mta_procedures.specs.Members.{members_copy, members_envelope}
use Rattle.mta_procedures.specs.Reports.{report_of, delivery_report, expansion_report}
use Rattle.mta_procedures.specs.Situations.{Situation}
use Rattle.mta_procedures.specs.Verdicts.{verdict_of_message, verdict_on_message, verdict_of_probe, verdict_of_report}

-- ---- values

abbrev pub printable : List ℕ → Label
printable t = record { numeric = false; text = t }

-- C=GB;A=GOLD
abbrev pub gold : DomainFields
gold = record { country = printable (71 ∷ 66 ∷ []); admd = printable (71 ∷ 79 ∷ 76 ∷ 68 ∷ []); prmd = None }

-- C=GB;A=GOLD;S=..
abbrev pub of_surname : List ℕ → Attributes
of_surname s = record nothing {
  country = Some (printable (71 ∷ 66 ∷ []));
  admd = Some (printable (71 ∷ 79 ∷ 76 ∷ 68 ∷ []));
  person = Some (record { surname = s; given = None; initials = None; generation = None });
}

abbrev pub bell : Attributes
bell = of_surname (66 ∷ 69 ∷ 76 ∷ 76 ∷ [])

abbrev pub watt : Attributes
watt = of_surname (87 ∷ 65 ∷ 84 ∷ 84 ∷ [])

-- 10101000
abbrev pub asked : BitString
asked = record { count = 8; word = 168 }

abbrev pub to : Attributes → ℕ → RecipientFields
to name number = record { name = name; number = number; indicators = asked; conversion = None; extensions = [] }

-- M0001 of this domain
abbrev pub first_id : MtsIdFields
first_id = record { domain = gold; local = 77 ∷ 48 ∷ 48 ∷ 48 ∷ 49 ∷ [] }

abbrev pub envelope_to : List RecipientFields → EnvelopeFields
envelope_to rs = record {
  id = first_id;
  originator = bell;
  eits = None;
  content_kind = Number 22;
  content_id = None;
  priority = Normal;
  indicators = record { count = 8; word = 0 };
  deferral = None;
  length = None;
  bilateral = None;
  recipients = rs;
  trace = [];
  extensions = [];
  history = [];
  latest = None;
  dl_prohibited = false;
}

-- from bell to watt, with the content "Hi"
abbrev pub sample : MessageValue
sample = message_as (envelope_to (to watt 1 ∷ [])) (content_as false (72 ∷ 105 ∷ []))

-- domain C=GB;A=GOLD, name GOLD-1, whose text does not count here
abbrev pub bare : TablesValue
bare = record {
  text = [];
  domain = gold;
  own = 71 ∷ 79 ∷ 76 ∷ 68 ∷ 45 ∷ 49 ∷ [];
  peers = [];
  mailboxes = [];
  lists = [];
  routes = [];
  holds = record { urgent = 14400; normal = 86400; non_urgent = 345600 };
}

-- at the first moment
abbrev pub at_once : Situation
at_once = record { tables = bare; arrival = 0; moment = 0 }

-- ---- a copy

-- the trace with its one element: the own domain, arrived at the first moment, relayed
abbrev pub first_trace : List ℕ
first_trace =
    105 ∷ 38 ∷ 48 ∷ 36 ∷ 99 ∷ 14 ∷ 97 ∷ 4 ∷ 19 ∷ 2 ∷ 71 ∷ 66 ∷ 98 ∷ 6 ∷ 19 ∷
    4 ∷ 71 ∷ 79 ∷ 76 ∷ 68 ∷ 49 ∷ 18 ∷ 128 ∷ 13 ∷ 53 ∷ 48 ∷ 48 ∷ 49 ∷ 48 ∷ 49 ∷ 48 ∷
    48 ∷
    48 ∷ 48 ∷ 48 ∷ 48 ∷
    90 ∷ 130 ∷ 1 ∷ 0 ∷ []

-- the copy of the sample has 141 octets, begins with A0 81 8A 31 81 83, and its trace is 69 26 and the element
pub record SampleIsCopied : Type 0 where
  pub sample_has : length (canonical_message sample.envelope sample.content.octets) ≡ 101
  pub has : length (outgoing_message at_once sample (1 ∷ [])) ≡ 141
  pub begins : take 6 (outgoing_message at_once sample (1 ∷ [])) ≡ 160 ∷ 129 ∷ 138 ∷ 49 ∷ 129 ∷ 131 ∷ []
  pub trace : canonical_trace_list (outgoing_envelope at_once sample.envelope (1 ∷ [])).trace ≡ first_trace
  pub head : length (outgoing_head at_once sample (1 ∷ [])) ≡ 139

abbrev pub responsibilities : List RecipientFields → List Bool
responsibilities rs = map (λ (r : RecipientFields). bit r.indicators 0) rs

abbrev pub three : List RecipientFields
three = to watt 1 ∷ to bell 2 ∷ to watt 3 ∷ []

-- of three recipients one is chosen for each copy
pub record ChosenAreResponsible : Type 0 where
  pub first : responsibilities (responsible_for (1 ∷ []) three) ≡ true ∷ false ∷ false ∷ []
  pub second : responsibilities (responsible_for (2 ∷ []) three) ≡ false ∷ true ∷ false ∷ []
  pub none : responsibilities (responsible_for [] three) ≡ false ∷ false ∷ false ∷ []

-- ---- a report

-- R0000000002 of this domain
abbrev pub second_id : MtsIdFields
second_id = record {
  domain = gold;
  local = 82 ∷ 48 ∷ 48 ∷ 48 ∷ 48 ∷ 48 ∷ 48 ∷ 48 ∷ 48 ∷ 48 ∷ 50 ∷ [];
}

abbrev pub sample_report : ReportFields
sample_report = record {
  id = second_id;
  destination = bell;
  trace = [];
  extensions = [];
  subject = first_id;
  subject_trace = None;
  eits = None;
  content_kind = Some (Number 22);
  content_id = None;
  returned = None;
  additional = None;
  content_extensions = [];
  recipients = record {
    name = watt;
    number = 1;
    indicators = asked;
    arrival = 0;
    converted = None;
    outcome = NonDelivery 1 (Some 0);
    intended = None;
    supplementary = None;
    extensions = [];
  } ∷ [];
}

-- under tables that know nobody the name is unrecognised, and the second item is the report of it, which goes nowhere
pub record SampleIsReported : Type 0 where
  pub verdict : verdict_of_message 1 at_once sample (to watt 1) 0 ≡ NonDeliver 1 0
  pub report : report_of bare 2 0 sample.envelope (to watt 1) (NonDelivery 1 (Some 0)) ≡ Some sample_report
  pub no_further : verdict_of_report at_once sample_report false ≡ Discard

-- ---- lists

-- C=GB;A=GOLD;CN=..
abbrev pub of_common : List ℕ → Attributes
of_common s = record nothing {
  country = Some (printable (71 ∷ 66 ∷ []));
  admd = Some (printable (71 ∷ 79 ∷ 76 ∷ 68 ∷ []));
  common = Some s;
}

abbrev pub list_of : List ℕ → Bool → List Attributes → MailList
list_of s back members = record { word = s; back = back; name = of_common s; from = []; members = members }

-- the lists A and B, each the other's only member, which send reports back
abbrev pub list_a : MailList
list_a = list_of (65 ∷ []) true (of_common (66 ∷ []) ∷ [])

abbrev pub list_b : MailList
list_b = list_of (66 ∷ []) true (of_common (65 ∷ []) ∷ [])

abbrev pub with_lists : List MailList → TablesValue
with_lists ls = record bare {
  mailboxes = record { word = 119 ∷ []; name = watt } ∷ record { word = 98 ∷ []; name = bell } ∷ [];
  lists = ls;
}

abbrev pub at_lists : List MailList → Situation
at_lists ls = record { tables = with_lists ls; arrival = 0; moment = 0 }

abbrev pub to_a : RecipientFields
to_a = to (of_common (65 ∷ [])) 1

abbrev pub to_b : RecipientFields
to_b = to (of_common (66 ∷ [])) 1

abbrev pub posted : MessageValue
posted = message_as (envelope_to (to_a ∷ [])) (content_as false [])

abbrev pub expanded_once : MessageValue
expanded_once =
    message_as (members_envelope (at_lists (list_a ∷ list_b ∷ [])) list_a posted.envelope to_a) posted.content

abbrev pub expanded_twice : MessageValue
expanded_twice =
    message_as (members_envelope
    (at_lists (list_a ∷ list_b ∷ [])) list_b expanded_once.envelope to_b) posted.content

-- a message to A is expanded, and so is the copy to B; the copy back to A is expanded to no members
pub record ListsEnd : Type 0 where
  pub first : verdict_on_message 1 (at_lists (list_a ∷ list_b ∷ [])) posted to_a ≡ Expand 0
  pub first_copy : members_copy (at_lists (list_a ∷ list_b ∷ [])) list_a posted to_a ≡ Some expanded_once
  pub second : verdict_on_message 1 (at_lists (list_a ∷ list_b ∷ [])) expanded_once to_b ≡ Expand 1
  pub second_copy : members_copy (at_lists (list_a ∷ list_b ∷ [])) list_b expanded_once to_b ≡ Some expanded_twice
  pub third : verdict_on_message 1 (at_lists (list_a ∷ list_b ∷ [])) expanded_twice to_a ≡ Expand 0
  pub no_third_copy : members_copy (at_lists (list_a ∷ list_b ∷ [])) list_a expanded_twice to_a ≡ None

-- with bit 3 set too: 10111000
abbrev pub asking : RecipientFields → RecipientFields
asking r = record r { indicators = record { count = 8; word = 184 } }

-- the list CREW, which keeps reports, with watt as its member
abbrev pub crew : MailList
crew = list_of (67 ∷ 82 ∷ 69 ∷ 87 ∷ []) false (watt ∷ [])

abbrev pub to_crew : RecipientFields
to_crew = asking (to crew.name 1)

abbrev pub to_the_crew : MessageValue
to_the_crew = message_as (envelope_to (to_crew ∷ [])) (content_as false [])

abbrev pub for_the_crew : MessageValue
for_the_crew =
    message_as (members_envelope (at_lists (crew ∷ [])) crew to_the_crew.envelope to_crew) to_the_crew.content

abbrev pub destination_of : ReportFields → Attributes
destination_of p = p.destination

abbrev pub outcomes_of : ReportFields → List Outcome
outcomes_of p = map (λ (r : ReportedFields). r.outcome) p.recipients

abbrev pub crew_report : Option ReportFields
crew_report = expansion_report (with_lists (crew ∷ [])) 3 0 to_the_crew.envelope to_crew crew 0

-- the list's report of type of user 3 goes to the originator; what is delivered to its member makes none, since its
-- walk ends at the list
pub record CrewKeepsReports : Type 0 where
  pub list_report : option_map destination_of crew_report ≡ Some bell
  pub of_type_3 : option_map outcomes_of crew_report ≡ Some (Delivery 0 3 ∷ [])
  pub delivered : verdict_of_message 1 (at_lists (crew ∷ [])) for_the_crew (asking (to watt 1)) 0 ≡ Deliver 0
  pub no_report : delivery_report (with_lists (crew ∷ [])) 4 0 for_the_crew.envelope (asking (to watt 1)) 0 ≡ None

-- ---- times

abbrev pub deferred : MessageValue
deferred = message_as (record (envelope_to (to watt 1 ∷ [])) { deferral = Some 1000 }) (content_as false [])

abbrev pub at : ℕ → Situation
at moment = record { tables = with_lists []; arrival = 0; moment = moment }

-- a message that is deferred to 1,000 is held until then, and expires a day behind it
pub record DeferredIsHeld : Type 0 where
  pub held : verdict_of_message 1 (at 999) deferred (to watt 1) 0 ≡ Hold 1000
  pub due : verdict_of_message 1 (at 1000) deferred (to watt 1) 0 ≡ Deliver 0
  pub last : verdict_of_message 1 (at 87399) deferred (to watt 1) 0 ≡ Deliver 0
  pub expired : verdict_of_message 1 (at 87400) deferred (to watt 1) 0 ≡ NonDeliver 0 5

-- the same with a latest delivery time, and a deferral or none
abbrev pub latest_at : Option ℕ → ℕ → MessageValue
latest_at deferral latest =
    message_as (record (envelope_to (to watt 1 ∷ [])) { deferral = deferral; latest = Some latest })
    (content_as false [])

abbrev pub verdict_in : (format : ℕ) → Option ℕ → (latest moment : ℕ) → Verdict
verdict_in format deferral latest moment =
    verdict_of_message format (at moment) (latest_at deferral latest) (to watt 1) 0

-- In format 2 a message with the latest delivery time 1,000 expires then, whether it is deferred to an earlier moment,
-- to that one or to a later one; one that is later than the end of its hold time changes nothing.
pub record LatestCounts : Type 0 where
  pub before : verdict_in 2 None 1000 999 ≡ Deliver 0
  pub expired : verdict_in 2 None 1000 1000 ≡ NonDeliver 0 5
  pub held_in_front : verdict_in 2 (Some 500) 1000 499 ≡ Hold 500
  pub due_in_front : verdict_in 2 (Some 500) 1000 999 ≡ Deliver 0
  pub expired_behind : verdict_in 2 (Some 500) 1000 1000 ≡ NonDeliver 0 5
  pub held_up_to : verdict_in 2 (Some 1000) 1000 999 ≡ Hold 1000
  pub expired_at : verdict_in 2 (Some 1000) 1000 1000 ≡ NonDeliver 0 5
  pub held_before : verdict_in 2 (Some 2000) 1000 999 ≡ Hold 2000
  pub expired_before : verdict_in 2 (Some 2000) 1000 1500 ≡ NonDeliver 0 5
  pub held_time : verdict_in 2 None 90000 86399 ≡ Deliver 0
  pub held_no_longer : verdict_in 2 None 90000 86400 ≡ NonDeliver 0 5

-- in format 1 it does not count
pub record LatestDoesNotCount : Type 0 where
  pub due : verdict_in 1 None 1000 1000 ≡ Deliver 0
  pub held : verdict_in 1 (Some 2000) 1000 1500 ≡ Hold 2000
  pub expired : verdict_in 1 None 1000 86400 ≡ NonDeliver 0 5

-- ---- probes

-- a probe to a mailbox is affirmed, and one whose latest delivery time has passed is not
pub record SampleIsAffirmed : Type 0 where
  pub affirmed : verdict_of_probe 1 (at 0) sample.envelope (to watt 1) ≡ Affirm
  pub in_time : verdict_of_probe 2 (at 999) (latest_at None 1000).envelope (to watt 1) ≡ Affirm
  pub late : verdict_of_probe 2 (at 1000) (latest_at None 1000).envelope (to watt 1) ≡ NonDeliver 0 5
  pub in_format_1 : verdict_of_probe 1 (at 1000) (latest_at None 1000).envelope (to watt 1) ≡ Affirm

-- ---- routes

abbrev pub route_to : List (List ℕ) → ℕ → Route
route_to pattern place = record { pattern = pattern; target = Targets.Peer place }

abbrev pub acme : List ℕ
acme = 65 ∷ 67 ∷ 77 ∷ 69 ∷ 32 ∷ 76 ∷ 84 ∷ 68 ∷ []

-- C=GB to the first peer, C=GB;A=GOLD to the second, C=GB;A=GOLD;P=ACME LTD to the third
abbrev pub routed : TablesValue
routed = record bare {
  routes =
      route_to ((71 ∷ 66 ∷ []) ∷ []) 0
      ∷ route_to ((71 ∷ 66 ∷ []) ∷ (71 ∷ 79 ∷ 76 ∷ 68 ∷ []) ∷ []) 1
      ∷ route_to ((71 ∷ 66 ∷ []) ∷ (71 ∷ 79 ∷ 76 ∷ 68 ∷ []) ∷ acme ∷ []) 2
      ∷ [];
}

-- C=gb;A= gold;P=acme  ltd ;S=X
abbrev pub x_of_acme : Attributes
x_of_acme = record nothing {
  country = Some (printable (103 ∷ 98 ∷ []));
  admd = Some (printable (32 ∷ 103 ∷ 111 ∷ 108 ∷ 100 ∷ []));
  prmd = Some (printable (97 ∷ 99 ∷ 109 ∷ 101 ∷ 32 ∷ 32 ∷ 108 ∷ 116 ∷ 100 ∷ 32 ∷ []));
  person = Some (record { surname = 88 ∷ []; given = None; initials = None; generation = None });
}

pub record LongestRouteIsTaken : Type 0 where
  pub third : best_hop routed x_of_acme ≡ Hops.Peer 2
  pub second : best_hop routed (of_surname (88 ∷ [])) ≡ Hops.Peer 1
  pub unknown : best_hop bare watt ≡ Hops.None
