-- The reasons and diagnostics of verdicts are codes.
use Rattle.std.proofs.Common.{◌≡◌, ℕ, true, List, [], ◌∷◌, Option, Some, None}
use Rattle.std.proofs.Common.{subst, arith}
use Rattle.std.specs.Prelude.{IfSome, unwrap_or}
use Rattle.std.specs.Option.{option_map}
use Rattle.std.proofs.lemmas.Option.{same_Some}
use Rattle.mta_names.specs.Bounded.{IsCode}
use Rattle.mta_names.specs.declared.attributes.Attributes.{Attributes}
use Rattle.mta_envelope_recipient.specs.declared.recipient.RecipientFields.{RecipientFields}
use Rattle.mta_envelope.specs.declared.envelope.EnvelopeFields.{EnvelopeFields}
use Rattle.mta_envelope.specs.Messages.{MessageValue}
use Rattle.mta_report.specs.declared.fields.ReportFields.{ReportFields}
use Rattle.mta_apdu.specs.Apdus.{ApduValue, message, probe, report}
use Rattle.mta_tables.specs.declared.hop.Hop.{Hop}
use Rattle.mta_tables.specs.Hops.{best_hop}
use Rattle.mta_tables.specs.Tables.{TablesValue}
use Rattle.mta_procedures.specs.declared.case.Case.{Case}
use Rattle.mta_procedures.specs.declared.case.Case.TheVariants as Cases
use Rattle.mta_procedures.specs.declared.verdict.Verdict.{Verdict}
use Rattle.mta_procedures.specs.declared.verdict.Verdict.TheVariants as Verdicts
use Rattle.mta_procedures.specs.Situations.{Situation, situation}
use Rattle.mta_procedures.specs.Facts.{facts_of_message, facts_of_probe, facts_of_report}
use Rattle.mta_procedures.specs.Verdicts.{first_case, length_for_members, message_column, probe_column}
use Rattle.mta_procedures.specs.Verdicts.{report_column, verdict_of_message, verdict_of_probe, verdict_of_report}
use Rattle.mta_procedures.specs.Verdicts.{verdict_on_message}
use Rattle.mta_machine.specs.Apdu.{value_of}
use Rattle.mta_machine.specs.Items.{numbered}
use Rattle.mta_machine.specs.Rules.{read_both, tables_value, verdict_of, verdict_under}

abbrev IsCoded : Verdict → Type 0
IsCoded (Verdicts.Deliver place) = Unit {0}
IsCoded (Verdicts.Expand place) = Unit {0}
IsCoded (Verdicts.Relay place) = Unit {0}
IsCoded Verdicts.Affirm = Unit {0}
IsCoded (Verdicts.NonDeliver reason diagnostic) = IsCode reason × IsCode diagnostic
IsCoded (Verdicts.Hold moment) = Unit {0}
IsCoded Verdicts.Back = Unit {0}
IsCoded Verdicts.Discard = Unit {0}

message_coded : (hop : Hop) (d : ℕ) (c : Case) → IsCoded (message_column hop d c)
message_coded hop d Cases.Looped = (omega arith, omega arith)
message_coded hop d Cases.CriticalExtension = (omega arith, omega arith)
message_coded hop d Cases.NoRoute = (omega arith, omega arith)
message_coded hop d Cases.Expired = (omega arith, omega arith)
message_coded hop d Cases.Deferred = tt
message_coded hop d Cases.ListInHistory = tt
message_coded hop d Cases.ListProhibited = (omega arith, omega arith)
message_coded hop d Cases.PosterNotPermitted = (omega arith, omega arith)
message_coded hop d Cases.FullHistory = (omega arith, omega arith)
message_coded hop d Cases.LongMembersCopy = (omega arith, omega arith)
message_coded hop d Cases.ToList = tt
message_coded hop d Cases.ToMailbox = tt
message_coded hop d Cases.LongCopy = (omega arith, omega arith)
message_coded hop d Cases.ToPeer = tt

probe_coded : (hop : Hop) (c : Case) → IsCoded (probe_column hop c)
probe_coded hop Cases.Looped = (omega arith, omega arith)
probe_coded hop Cases.CriticalExtension = (omega arith, omega arith)
probe_coded hop Cases.NoRoute = (omega arith, omega arith)
probe_coded hop Cases.Expired = (omega arith, omega arith)
probe_coded hop Cases.Deferred = tt
probe_coded hop Cases.ListInHistory = tt
probe_coded hop Cases.ListProhibited = (omega arith, omega arith)
probe_coded hop Cases.PosterNotPermitted = (omega arith, omega arith)
probe_coded hop Cases.FullHistory = tt
probe_coded hop Cases.LongMembersCopy = tt
probe_coded hop Cases.ToList = tt
probe_coded hop Cases.ToMailbox = tt
probe_coded hop Cases.LongCopy = (omega arith, omega arith)
probe_coded hop Cases.ToPeer = tt

report_coded : (hop : Hop) (c : Case) → IsCoded (report_column hop true c)
report_coded hop Cases.Looped = tt
report_coded hop Cases.CriticalExtension = tt
report_coded hop Cases.NoRoute = tt
report_coded hop Cases.Expired = tt
report_coded hop Cases.Deferred = tt
report_coded hop Cases.ListInHistory = tt
report_coded hop Cases.ListProhibited = tt
report_coded hop Cases.PosterNotPermitted = tt
report_coded hop Cases.FullHistory = tt
report_coded hop Cases.LongMembersCopy = tt
report_coded hop Cases.ToList = tt
report_coded hop Cases.ToMailbox = tt
report_coded hop Cases.LongCopy = tt
report_coded hop Cases.ToPeer = tt

mapped : {A : Type 0} (of : A → Verdict) (o : Option A) → ((x : A) → IsCoded (of x))
    → IfSome (option_map of o) IsCoded
mapped of None h = tt
mapped of (Some x) h = h x

of_message : (format : ℕ) (s : Situation) (m : MessageValue) (r : RecipientFields) (members : ℕ)
    → IsCoded (verdict_of_message format s m r members)
unfolding verdict_of_message
of_message format s m r members =
    message_coded (best_hop s.tables r.name) (unwrap_or m.envelope.deferral 0)
    (first_case (facts_of_message format s m r members))

of_probe : (format : ℕ) (s : Situation) (e : EnvelopeFields) (r : RecipientFields)
    → IsCoded (verdict_of_probe format s e r)
unfolding verdict_of_probe
of_probe format s e r = probe_coded (best_hop s.tables r.name) (first_case (facts_of_probe format s e r))

of_report : (s : Situation) (p : ReportFields) → IsCoded (verdict_of_report s p true)
unfolding verdict_of_report
of_report s p = report_coded (best_hop s.tables p.destination) (first_case (facts_of_report s p))

under_coded : (format : ℕ) (t : TablesValue) (v : ApduValue) (arrival r moment : ℕ)
    → IfSome (verdict_under format t v arrival r moment) IsCoded
under_coded format t (message v) arrival r moment =
    let s : Situation = situation t arrival moment in
    mapped (verdict_on_message format s v) (numbered v.envelope.recipients r)
    (λ x. of_message format s v x (length_for_members s v x))
under_coded format t (probe v) arrival r moment =
    let s : Situation = situation t arrival moment in
    mapped (verdict_of_probe format s v) (numbered v.recipients r) (of_probe format s v)
under_coded format t (report v) arrival r moment =
    let s : Situation = situation t arrival moment in
    mapped (λ (n : Attributes). verdict_of_report s v true) (numbered (v.destination ∷ []) r) (λ n. of_report s v)

read_coded : (format : ℕ) (to : Option TablesValue) (vo : Option ApduValue) (arrival r moment : ℕ)
    → IfSome (read_both to vo (λ t v. verdict_under format t v arrival r moment)) IsCoded
read_coded format None vo arrival r moment = tt
read_coded format (Some t) None arrival r moment = tt
read_coded format (Some t) (Some v) arrival r moment = under_coded format t v arrival r moment

-- a reason and a diagnostic that a verdict tells may be written
abbrev pub AreCodes : Option Verdict → Type 0
AreCodes verdict =
    (reason diagnostic : ℕ) → verdict ≡ Some (Verdicts.NonDeliver reason diagnostic)
    → IsCode reason × IsCode diagnostic

codes : (o : Option Verdict) → IfSome o IsCoded → AreCodes o
codes None h = λ reason diagnostic e. absurd cc
codes (Some v) h = λ reason diagnostic e. subst IsCoded (same_Some v (Verdicts.NonDeliver reason diagnostic) e) h

pub all_coded : (format : ℕ) (text octets : List ℕ) (arrival r moment : ℕ)
    → AreCodes (verdict_of format text octets arrival r moment)
unfolding verdict_of
all_coded format text octets arrival r moment =
    codes (verdict_of format text octets arrival r moment)
    (read_coded format (tables_value text) (value_of octets) arrival r moment)
