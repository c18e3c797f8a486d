-- The length of a copy counts where the hop leads to a peer.
use Rattle.std.proofs.Common.{◌≡◌, ℕ, ◌<◌, ◌≤◌, Bool, List, length, refl, sym, ◌∙◌}
use Rattle.std.proofs.Common.{ap, arith, inl, inr}
use Rattle.std.proofs.lemmas.Bool.{cases_lt, lt-ltb, le-ltb}
use Rattle.mta_ber.specs.Lengths.{octet_length}
use Rattle.mta_envelope_recipient.specs.declared.recipient.RecipientFields.{RecipientFields}
use Rattle.mta_envelope.specs.declared.envelope.EnvelopeFields.{EnvelopeFields}
use Rattle.mta_report.specs.declared.fields.ReportFields.{ReportFields}
use Rattle.mta_tables.specs.declared.hop.Hop.{Hop}
use Rattle.mta_tables.specs.declared.hop.Hop.TheVariants as Hops
use Rattle.mta_tables.specs.Hops.{best_hop}
use Rattle.mta_procedures.specs.declared.case.Case.{Case}
use Rattle.mta_procedures.specs.Copies.{is_long, outgoing_report, longest_copy}
use Rattle.mta_procedures.specs.Facts.{Facts, envelope_facts, facts_of_report}
use Rattle.mta_procedures.specs.Situations.{Situation}
use Rattle.mta_procedures.specs.Verdicts.{first_case}
use Rattle.mta_rules.specs.Cases.{IsCopyLength, IsOfReport}
use Rattle.mta_rules.proofs.HopPlaces.{hop_is_of}

-- a number of 64 bits is above the limit where the number of octets is
long_so : (octets : List ℕ) (n : ℕ) → n ≡ octet_length octets → is_long n ≡ is_long (length octets)
long_so octets n e = elim (cases_lt longest_copy (length octets)) [
  | inl lt ↦ (let above : longest_copy < n =
      omega (arith, e, lt) in lt-ltb longest_copy n above ∙ sym (lt-ltb longest_copy (length octets) lt))
  | inr le ↦ (let within : n ≤ longest_copy =
      omega (arith, e, le) in le-ltb longest_copy n within ∙ sym (le-ltb longest_copy (length octets) le))
]

-- the facts, with a copy that is long or not
abbrev with_long : Facts → Bool → Facts
with_long f b = record f { long_copy = b }

pub copy_counts : (format : ℕ) (s : Situation) (e : EnvelopeFields) (r : RecipientFields) (hop : Hop) (members : ℕ)
    (octets : List ℕ) (n : ℕ) → IsCopyLength hop octets n
    → first_case (envelope_facts format s e r hop members n) ≡ first_case
    (envelope_facts format s e r hop members (length octets))
unfolding first_case
copy_counts format s e r (Hops.Peer place) members octets n h =
    ap (λ b. first_case (with_long (envelope_facts format s e r (Hops.Peer place) members 0) b)) (long_so octets n h)
copy_counts format s e r (Hops.Local place) members octets n h = refl
copy_counts format s e r (Hops.List place) members octets n h = refl
copy_counts format s e r Hops.None members octets n h = refl

-- what a report says, for a hop and a length of the copy
abbrev report_facts : Situation → ReportFields → Hop → ℕ → Facts
report_facts s p hop n = record (with_long (facts_of_report s p) (is_long n)) { hop = hop }

report_at : (s : Situation) (p : ReportFields) (hop : Hop) (n : ℕ) → IsOfReport s p hop n (report_facts s p hop n)
report_at s p hop n = record {
  hop_is = refl;
  looped = refl;
  critical = refl;
  expired = refl;
  deferred =
      refl;
  in_history = refl;
  prohibited = refl;
  not_permitted = refl;
  full_history = refl;
  long_members =
      refl;
  long_copy = refl;
}

report_so : (s : Situation) (p : ReportFields) (hop : Hop) (n : ℕ) → IsCopyLength hop (outgoing_report s p) n
    → first_case (report_facts s p hop n) ≡ first_case (report_facts s p hop (length (outgoing_report s p)))
unfolding first_case
report_so s p (Hops.Peer place) n h =
    ap (λ b. first_case (record (with_long (facts_of_report s p) b) { hop = Hops.Peer place }))
    (long_so (outgoing_report s p) n h)
report_so s p (Hops.Local place) n h = refl
report_so s p (Hops.List place) n h = refl
report_so s p Hops.None n h = refl

pub report_copy_counts : (s : Situation) (p : ReportFields) (hop : Hop) (n : ℕ) (c : Case)
    → hop ≡ best_hop s.tables p.destination → IsCopyLength hop (outgoing_report s p) n
    → ((f : Facts) → IsOfReport s p hop n f → c ≡ first_case f)
    → c ≡ first_case (facts_of_report s p)
report_copy_counts s p hop n c e h is =
    is (report_facts s p hop n) (report_at s p hop n) ∙ report_so s p hop n h
    ∙ ap (λ x. first_case (record (facts_of_report s p) { hop = x })) e

pub ruleset steps = (copy_counts, hop_is_of)

pub ruleset told = (report_copy_counts)
