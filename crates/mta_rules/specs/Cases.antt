-- The cases behind the deferral, which go by where a name leads.
use Rattle.std.specs.Prelude.{◌≡◌, ℕ, ◌<◌, true, false, List, [], ◌∷◌, length, unwrap_or}
use Rattle.std.specs.List.{find}
use Rattle.mta_procedures.specs.declared.case.Case.{Case}
use Rattle.mta_procedures.specs.declared.case.Case.TheVariants.{ListInHistory, ListProhibited, PosterNotPermitted}
use Rattle.mta_procedures.specs.declared.case.Case.TheVariants.{FullHistory, LongMembersCopy, ToList, ToMailbox}
use Rattle.mta_procedures.specs.declared.case.Case.TheVariants.{LongCopy, ToPeer}
use Rattle.mta_ber.specs.Lengths.{octet_length}
use Rattle.mta_envelope.specs.declared.envelope.EnvelopeFields.{EnvelopeFields}
use Rattle.mta_tables.specs.declared.entry.MailList.{MailList}
use Rattle.mta_report.specs.declared.fields.ReportFields.{ReportFields}
use Rattle.mta_tables.specs.declared.hop.Hop.{Hop}
use Rattle.mta_tables.specs.declared.hop.Hop.TheVariants as Hops
use Rattle.mta_tables.specs.Tables.{TablesValue}
use Rattle.mta_envelope.specs.Envelopes.{envelope_back}
use Rattle.mta_procedures.specs.Copies.{is_long, outgoing_envelope}
use Rattle.mta_procedures.specs.Facts.{Facts, of_list, is_unwanted}
use Rattle.mta_procedures.specs.Histories.{is_in_history, has_full_history}
use Rattle.mta_procedures.specs.Situations.{Situation, report_terms, is_expired}
use Rattle.mta_procedures.specs.Traces.{has_looped}
use Rattle.mta_procedures.specs.Verdicts.{applies, leads_to_list}

-- a hop to a list leads to one of the tables
abbrev pub IsHopOf : TablesValue → Hop → Type 0
IsHopOf t (Hops.List place) = place < length t.lists
IsHopOf t _ = Unit {0}

abbrev pub later_cases : List Case
later_cases =
    ListInHistory ∷ ListProhibited ∷ PosterNotPermitted ∷ FullHistory ∷ LongMembersCopy ∷
    ToList ∷ ToMailbox ∷ LongCopy ∷ ToPeer ∷ []

unfoldable pub later_case : Facts → Case
later_case f = unwrap_or (find (applies f) later_cases) ToPeer

-- what the facts say where the hop leads to this list
pub record IsAtList (l : MailList) (e : EnvelopeFields) (members : ℕ) (f : Facts) : Type 0 where
  pub leads : leads_to_list f.hop ≡ true
  pub in_history : f.in_history ≡ is_in_history l e
  pub prohibited : f.prohibited ≡ e.dl_prohibited
  pub not_permitted : f.not_permitted ≡ is_unwanted e l
  pub full_history : f.full_history ≡ has_full_history e
  pub long_members : f.long_members ≡ is_long members

pub record IsAtHop (t : TablesValue) (e : EnvelopeFields) (hop : Hop) (members copy : ℕ) (f : Facts) : Type 0 where
  pub hop_is : f.hop ≡ hop
  pub in_history : f.in_history ≡ of_list t hop (λ l. is_in_history l e)
  pub prohibited : f.prohibited ≡ e.dl_prohibited
  pub not_permitted : f.not_permitted ≡ of_list t hop (is_unwanted e)
  pub full_history : f.full_history ≡ has_full_history e
  pub long_members : f.long_members ≡ is_long members
  pub long_copy : f.long_copy ≡ is_long copy

-- what the facts say of a report
pub record IsOfReport (s : Situation) (p : ReportFields) (hop : Hop) (copy : ℕ) (f : Facts) : Type 0 where
  pub hop_is : f.hop ≡ hop
  pub looped : f.looped ≡ has_looped s p.trace
  pub critical : f.critical ≡ false
  pub expired : f.expired ≡ is_expired s report_terms
  pub deferred : f.deferred ≡ false
  pub in_history : f.in_history ≡ false
  pub prohibited : f.prohibited ≡ false
  pub not_permitted : f.not_permitted ≡ false
  pub full_history : f.full_history ≡ false
  pub long_members : f.long_members ≡ false
  pub long_copy : f.long_copy ≡ is_long copy

-- the length of the copy, where the hop leads to a peer
abbrev pub IsCopyLength : Hop → List ℕ → ℕ → Type 0
IsCopyLength (Hops.Peer place) copy n = n ≡ octet_length copy
IsCopyLength _ copy n = Unit {0}

-- how many octets the components of a copy have from the deferred delivery time on, whenever and wherever it is made
abbrev pub IsBackOf : EnvelopeFields → ℕ → Type 0
IsBackOf e n = (s : Situation) → n ≡ octet_length (envelope_back (outgoing_envelope s e []))
