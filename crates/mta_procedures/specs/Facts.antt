-- What a verdict asks of an item and a recipient.
use Rattle.std.specs.Prelude.{ℕ, Bool, false, [], Option, None, length, slice_get, not}
use Rattle.std.specs.Option.{option_map_or}
use Rattle.mta_envelope_recipient.specs.declared.recipient.RecipientFields.{RecipientFields}
use Rattle.mta_envelope.specs.declared.envelope.EnvelopeFields.{EnvelopeFields}
use Rattle.mta_envelope.specs.Messages.{MessageValue}
use Rattle.mta_report.specs.declared.fields.ReportFields.{ReportFields}
use Rattle.mta_tables.specs.declared.entry.MailList.{MailList}
use Rattle.mta_tables.specs.declared.hop.Hop.{Hop}
use Rattle.mta_tables.specs.declared.hop.Hop.TheVariants as Hops
use Rattle.mta_tables.specs.Tables.{TablesValue}
use Rattle.mta_tables.specs.Hops.{best_hop}
use Rattle.mta_procedures.specs.Copies.{outgoing_message, outgoing_probe, outgoing_report, is_long}
use Rattle.mta_procedures.specs.Criticals.{has_critical}
use Rattle.mta_procedures.specs.Histories.{is_in_history, poster, may_post, has_full_history}
use Rattle.mta_procedures.specs.Situations.{Situation, terms_of, report_terms, is_expired, is_deferred}
use Rattle.mta_procedures.specs.Traces.{has_looped}

pub record Facts : Type 0 where
  pub hop : Hop
  pub looped : Bool
  pub critical : Bool
  pub expired : Bool
  pub deferred : Bool
  pub in_history : Bool
  pub prohibited : Bool
  pub not_permitted : Bool
  pub full_history : Bool
  pub long_members : Bool
  pub long_copy : Bool

-- the list to which a hop leads
abbrev pub list_at : TablesValue → Hop → Option MailList
list_at t (Hops.Local place) = None
list_at t (Hops.List place) = slice_get t.lists place
list_at t (Hops.Peer place) = None
list_at t Hops.None = None

-- a fact of the list to which a hop leads
abbrev pub of_list : TablesValue → Hop → (MailList → Bool) → Bool
of_list t hop is = option_map_or is (list_at t hop) false

abbrev pub is_unwanted : EnvelopeFields → MailList → Bool
is_unwanted e l = not (may_post l (poster e))

-- what an envelope and a recipient say in a format, for a hop, a length of the members' copy and a length of the copy
-- for a peer
abbrev pub envelope_facts : (format : ℕ) → Situation → EnvelopeFields → RecipientFields → Hop → ℕ → ℕ
    → Facts
envelope_facts format s e r hop members copy = record {
  hop = hop;
  looped = has_looped s e.trace;
  critical = has_critical hop e r;
  expired = is_expired s (terms_of format e);
  deferred = is_deferred s (terms_of format e);
  in_history = of_list s.tables hop (λ l. is_in_history l e);
  prohibited = e.dl_prohibited;
  not_permitted = of_list s.tables hop (is_unwanted e);
  full_history = has_full_history e;
  long_members = is_long members;
  long_copy = is_long copy;
}

abbrev pub facts_of_message : (format : ℕ) → Situation → MessageValue → RecipientFields → ℕ → Facts
facts_of_message format s m r members =
    envelope_facts format s m.envelope r (best_hop s.tables r.name) members (length (outgoing_message s m []))

-- a probe has no members' copy
abbrev pub facts_of_probe : (format : ℕ) → Situation → EnvelopeFields → RecipientFields → Facts
facts_of_probe format s e r = envelope_facts format s e r (best_hop s.tables r.name) 0 (length (outgoing_probe s e []))

-- a report has one recipient, its destination; it has no deferral, no latest delivery time and no history, and none of
-- its extensions counts, so it is the same in each format
abbrev pub facts_of_report : Situation → ReportFields → Facts
facts_of_report s p = record {
  hop = best_hop s.tables p.destination;
  looped = has_looped s p.trace;
  critical = false;
  expired = is_expired s report_terms;
  deferred = false;
  in_history = false;
  prohibited = false;
  not_permitted = false;
  full_history = false;
  long_members = false;
  long_copy = is_long (length (outgoing_report s p));
}
