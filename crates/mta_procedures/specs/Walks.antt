-- To whom a report goes (X.411, clause 14: reports, distribution lists): back along the lists that were expanded, as
-- the policy of each says, and to the originator at last.
use Rattle.std.specs.Prelude.{Bool, true, List, [], ◌∷◌, ◌++◌, Option, Some, None, option_and_then}
use Rattle.std.specs.Prelude.{◌&&◌, if◌then◌else◌}
use Rattle.std.specs.List.{find, list_any, zip}
use Rattle.mta_names.specs.declared.attributes.Attributes.{Attributes}
use Rattle.mta_names.specs.Normal.{is_same_name}
use Rattle.mta_fields.specs.Identifiers.{is_same_id}
use Rattle.mta_envelope_recipient.specs.declared.recipient.RecipientFields.{RecipientFields}
use Rattle.mta_envelope.specs.declared.envelope.EnvelopeFields.{EnvelopeFields}
use Rattle.mta_report.specs.declared.fields.ReportFields.{ReportFields}
use Rattle.mta_tables.specs.declared.entry.MailList.{MailList}
use Rattle.mta_tables.specs.Tables.{TablesValue}
use Rattle.mta_tables.specs.Hops.{list_named}
use Rattle.mta_procedures.specs.Histories.{lists_behind}
use Rattle.mta_procedures.specs.Situations.{Situation}
use Rattle.mta_procedures.specs.Traces.{own_trace}

-- the name itself where it is no list here; a list that keeps reports ends the walk, and one that sends them back is
-- passed over
abbrev pub walked_to : Attributes → Option MailList → Option Attributes → Option Attributes
walked_to n None further = Some n
walked_to n (Some l) further = if l.back then further else None

-- from the lists, the last one first, to the originator
abbrev pub walk : TablesValue → Attributes → List Attributes → Option Attributes
walk t originator [] = Some originator
walk t originator (n ∷ ns) = walked_to n (list_named t n) (walk t originator ns)

-- to whom a report on this message or probe goes; nobody where a list keeps it
unfoldable pub report_walk : TablesValue → EnvelopeFields → Option Attributes
report_walk t e = walk t e.originator (lists_behind e)

-- ---- reports that come to a list

-- a message that was accepted, and for each of its recipients whether it was expanded
pub record Accepted : Type 0 where
  pub envelope : EnvelopeFields
  pub expanded : List Bool

abbrev pub is_expanded_as : MailList → RecipientFields × Bool → Bool
is_expanded_as l x = x.1 && is_same_name x.0.name l.name

-- the message of which the report says something, expanded here for the list
abbrev pub is_subject_of : ReportFields → MailList → Accepted → Bool
is_subject_of p l a =
    is_same_id a.envelope.id p.subject && list_any (is_expanded_as l) (zip a.envelope.recipients a.expanded)

abbrev pub walk_of : TablesValue → Accepted → Option Attributes
walk_of t a = report_walk t a.envelope

-- to whom the first such message of these leads, in their order
abbrev pub behind_list : TablesValue → ReportFields → List Accepted → MailList → Option Attributes
behind_list t p accepted l = if l.back then option_and_then (walk_of t) (find (is_subject_of p l) accepted) else None

-- to whom a report that goes to a list here is passed back, from the messages accepted so far, in their order; nobody
-- where this agent made the report itself
unfoldable pub passed_to : TablesValue → Bool → ReportFields → List Accepted → Option Attributes
passed_to t own p accepted =
    if own then None else option_and_then (behind_list t p accepted) (list_named t p.destination)

-- The report that is passed back: its destination is another, and its trace has an own element more, with
-- dl-operation. So the agents which had it before find no loop where it comes by them again, on its way back along the
-- lists.
abbrev pub passed_back : Situation → ReportFields → Attributes → ReportFields
passed_back s p n = record p { destination = n; trace = p.trace ++ own_trace s None true ∷ [] }
