-- APDUs that are written are read again, and so are those that were read.
use Rattle.std.proofs.Common.{◌≡◌, ℕ, ◌+◌, ◌≤◌, ◌<◌, ◌^◌, Bool, true, false, cond, List, [], ◌++◌, length, Some, Result}
use Rattle.std.proofs.Common.{Ok, refl, sym, ap, subst, ◌∙◌, append-nil, arith}
use Rattle.std.proofs.lemmas.Bool.{le-leb}
use Rattle.mta_ber.specs.declared.fault.Fault.{Fault}
use Rattle.mta_ber.specs.declared.fault.Kind.TheVariants.{TooLong}
use Rattle.mta_ber.specs.declared.tag.Tag.{Tag}
use Rattle.mta_ber.specs.Canon.{IsTag, element, constructed, primitive}
use Rattle.mta_ber.specs.Element.{Part, first, outermost}
use Rattle.mta_ber.specs.Head.{◌>>=◌, fault}
use Rattle.mta_ber.specs.Laws.{with_rest, beside}
use Rattle.mta_ber.specs.Parts.{is_tag}
use Rattle.mta_ber.specs.Spelling.{Stands}
use Rattle.mta_ber.proofs.CanonLaws.{lent}
use Rattle.mta_ber.proofs.RoundTrip.{first_again}
use Rattle.mta_ber.proofs.RowLaws.{one_spelling}
use Rattle.mta_ber.proofs.Steps.{bind_ok, ok_is}
use Rattle.mta_names.proofs.Again.{low_tag}
use Rattle.mta_names.proofs.Levels.{stands_above}
use Rattle.mta_names.proofs.Rows.{short_inside}
use Rattle.mta_names.proofs.Tools.{tag_is}
use Rattle.mta_envelope.specs.declared.envelope.EnvelopeFields.{EnvelopeFields}
use Rattle.mta_envelope.specs.Contents.{content_as}
use Rattle.mta_envelope.specs.Envelopes.{IsOfKind, envelope_content}
use Rattle.mta_envelope.specs.Laws.{IsWholeEnvelope, KeepsEnvelope}
use Rattle.mta_envelope.specs.Messages.{MessageValue, message_as, message_in, SpellsMessage, probe_in, SpellsProbe}
use Rattle.mta_envelope.specs.Messages.{canonical_message, canonical_probe}
use Rattle.mta_envelope.proofs.EnvelopeLaws.{envelope_kind}
use Rattle.mta_envelope.proofs.EnvKept.{envelope_kept}
use Rattle.mta_envelope.proofs.MessageAgain.{messages_again, probes_again}
use Rattle.mta_report.specs.declared.fields.ReportFields.{ReportFields}
use Rattle.mta_report.specs.Laws.{IsWholeReport, KeepsReport}
use Rattle.mta_report.specs.ReportContents.{canonical_content}
use Rattle.mta_report.specs.ReportEnvelopes.{canonical_envelope}
use Rattle.mta_report.specs.Reports.{report_in, canonical_report}
use Rattle.mta_report.proofs.ReportAgain.{whole_reports_again}
use Rattle.mta_report.proofs.ReportKept.{report_kept}
use Rattle.mta_apdu.specs.declared.kind.ApduKind.{ApduKind}
use Rattle.mta_apdu.specs.declared.kind.ApduKind.TheVariants.{OfMessage, OfReport, OfProbe}
use Rattle.mta_apdu.specs.Apdus.{ApduValue, message, probe, report, longest_apdu, kind_of, apdu_as, apdu_of_kind}
use Rattle.mta_apdu.specs.Apdus.{apdu_in, ends, whole_in, front_in, longest_stored, stored_of, apdu_of, kind_number}
use Rattle.mta_apdu.specs.Apdus.{SpellsKind, SpellsWhole, SpellsApdu, canonical_apdu}
use Rattle.mta_apdu.proofs.ApduLaws.{apdu_full, so_limited}
use Rattle.mta_apdu.specs.Laws.{IsWholeApdu, KeepsApdu, in_one_piece, ApdusAreReadAgain, ReadApdusAreKept}
use Rattle.mta_apdu.specs.Laws.{ReadApdusAreReadAgain, StoredApdusAreReadAgain, StoredApdusAreKept, NoApduBeginsAnother}

-- ---- elements

-- octets that are not too many have a length
short_so : (bytes : List ℕ) → length bytes ≤ longest_apdu → length bytes < 2 ^ 64
short_so bytes h = omega arith

kept_so : (bytes : List ℕ) → length bytes ≤ longest_stored → length bytes < 2 ^ 64
kept_so bytes h = omega arith

-- a value beside what follows it is one value
beside_is : {A : Type 0} (x y : A) (xs ys : List ℕ) → beside x xs ≡ beside y ys → x ≡ y
beside_is {A = A} x y xs ys e = ap (λ (p : A × List ℕ). p.0) (ok_is (x, xs) (y, ys) e)

-- what is read of an element with something behind it, is read of it
alone_so : {A : Type 0} (read : Part → Result A Fault) (p : Part) (v : A) (more : List ℕ)
    → with_rest read p ≡ beside v more → read p ≡ Ok v
alone_so read p v more e =
    let b = bind_ok (read p) (λ x. beside x p.rest) (v, more) e in
    b.1 ∙ ap (λ x. Ok x) (beside_is b.0 v p.rest more b.2)

-- the part that an element of canonical octets is, at the front of them
abbrev front : Tag → List ℕ → Part
front tag content = lent 0 (outermost tag) tag content []

front_is : (tag : Tag) (content : List ℕ) → IsTag tag → length (element tag content) < 2 ^ 64
    → first 0 (element tag content) ≡ Ok (front tag content)
front_is tag content low short = ap (first 0) (sym (append-nil (element tag content)))
    ∙ first_again 0 tag content [] low (short_inside tag content short)

-- what reads an element with nothing behind it, reads the part at the front
part_so : {A : Type 0} (read : Part → Result A Fault) (tag : Tag) (content : List ℕ) (v : A) → IsTag tag
    → length (element tag content) < 2 ^ 64
    → (first 0 (element tag content ++ []) >>= with_rest read) ≡ beside v [] → read (front tag content) ≡ Ok v
part_so read tag content v low short e =
    alone_so read (front tag content) v []
    (sym (ap (λ r. r >>= with_rest read) (first_again 0 tag content [] low (short_inside tag content short))) ∙ e)

element_again : (kind : ApduKind) (tag : Tag) (content : List ℕ) (v : ApduValue) → IsTag tag → kind_of tag ≡ Some kind
    → length (element tag content) < 2 ^ 64 → apdu_as kind (front tag content) ≡ Ok v
    → front_in (element tag content) ≡ Ok v
unfolding apdu_in ends
element_again kind tag content v low is short e =
    let p = front tag content in
    ap (λ r. r >>= whole_in) (front_is tag content low short)
    ∙ ap (λ o. apdu_of_kind o p >>= λ x. ends p >>= λ _. Ok x) is
    ∙ ap (λ r. r >>= λ x. ends p >>= λ _. Ok x) e

-- ---- APDUs that are written

message_again : (v : MessageValue) → IsWholeEnvelope v.envelope → IsOfKind false v.envelope → KeepsEnvelope 2 v.envelope
    → length (canonical_apdu (message v)) < 2 ^ 64
    → front_in (canonical_apdu (message v)) ≡ Ok (in_one_piece (message v))
unfolding canonical_message apdu_as
message_again v h of k size =
    let tag = constructed 2 0 in
    let content = element (constructed 0 17) (envelope_content v.envelope)
    ++ element (primitive 0 4) v.content.octets in
    let low = low_tag 2 0 true (omega arith) (omega arith) in
    let value = message_as v.envelope (content_as true v.content.octets) in
    let read = part_so message_in tag content value low size
    (messages_again v.envelope v.content.octets [] 0 h of k size) in
    element_again OfMessage tag content (message value) low refl size (ap (λ r. r >>= λ x. Ok (message x)) read)

probe_again : (v : EnvelopeFields) → IsWholeEnvelope v → IsOfKind true v → KeepsEnvelope 2 v
    → length (canonical_apdu (probe v)) < 2 ^ 64 → front_in (canonical_apdu (probe v)) ≡ Ok (probe v)
unfolding canonical_probe apdu_as
probe_again v h of k size =
    let tag = constructed 2 2 in
    let content = envelope_content v in
    let low = low_tag 2 2 true (omega arith) (omega arith) in
    let read = part_so probe_in tag content v low size (probes_again v [] 0 h of k size) in
    element_again OfProbe tag content (probe v) low refl size (ap (λ r. r >>= λ x. Ok (probe x)) read)

report_again : (v : ReportFields) → IsWholeReport v → KeepsReport 1 v → length (canonical_apdu (report v)) < 2 ^ 64
    → front_in (canonical_apdu (report v)) ≡ Ok (report v)
unfolding canonical_report apdu_as
report_again v h k size =
    let tag = constructed 2 1 in
    let content = canonical_envelope v ++ canonical_content v in
    let low = low_tag 2 1 true (omega arith) (omega arith) in
    let read = part_so report_in tag content v low size (whole_reports_again v [] 0 h k size) in
    element_again OfReport tag content (report v) low refl size (ap (λ r. r >>= λ x. Ok (report x)) read)

front_again : (v : ApduValue) → IsWholeApdu v → KeepsApdu v → length (canonical_apdu v) < 2 ^ 64
    → front_in (canonical_apdu v) ≡ Ok (in_one_piece v)
front_again (message v) h k size = message_again v h.0 h.1 k size
front_again (probe v) h k size = probe_again v h.0 h.1 k size
front_again (report v) h k size = report_again v h k size

pub apdus_again : ApdusAreReadAgain
unfolding apdu_of
apdus_again v h k short = so_limited longest_apdu (canonical_apdu v) short
    ∙ front_again v h k (short_so (canonical_apdu v) short)

pub stored_again : StoredApdusAreReadAgain
unfolding stored_of
stored_again v h k short = so_limited longest_stored (canonical_apdu v) short
    ∙ front_again v h k (kept_so (canonical_apdu v) short)

-- ---- APDUs that were read

message_kept : (depth : ℕ) (tag : Tag) (content : List ℕ) (v : MessageValue) → SpellsMessage depth tag content v
    → depth + 8 ≤ 16 → KeepsEnvelope (depth + 1) v.envelope × IsWholeEnvelope v.envelope × IsOfKind false v.envelope
message_kept depth c content v h d =
    let e = h.envelope in
    let k = envelope_kept false (depth + 1) e.tag.constructed e.content v.envelope e.spelled (omega arith) in
    (k.0, k.1, envelope_kind false (depth + 1) e.tag.constructed e.content v.envelope e.spelled)

probe_kept : (depth : ℕ) (tag : Tag) (content : List ℕ) (v : EnvelopeFields) → SpellsProbe depth tag content v
    → depth + 7 ≤ 16 → KeepsEnvelope depth v × IsWholeEnvelope v × IsOfKind true v
probe_kept depth tag content v h d =
    let k = envelope_kept true depth tag.constructed content v h.spelled d in
    (k.0, k.1, envelope_kind true depth tag.constructed content v h.spelled)

-- a message and a report are in the level 1, and a probe is in the level 2
abbrev kind_level : ApduKind → ℕ
kind_level OfMessage = 1
kind_level OfReport = 1
kind_level OfProbe = 2

level_is : (kind : ApduKind) (tag : Tag) → is_tag 2 (kind_number kind) tag ≡ true → outermost tag ≡ kind_level kind
level_is OfMessage tag h = let e = tag_is 2 0 tag h in rw (e.0, e.1) refl
level_is OfReport tag h = let e = tag_is 2 1 tag h in rw (e.0, e.1) refl
level_is OfProbe tag h = let e = tag_is 2 2 tag h in rw (e.0, e.1) refl

kind_kept : (kind : ApduKind) (tag : Tag) (content : List ℕ) (v : ApduValue)
    → SpellsKind kind (kind_level kind) tag content v → KeepsApdu v × IsWholeApdu v
kind_kept OfMessage tag content v h =
    let k = message_kept 1 tag content h.value h.value_spelled (omega arith) in
    subst (λ x. KeepsApdu x × IsWholeApdu x) (sym h.after_is) (k.0, (k.1, k.2))
kind_kept OfReport tag content v h =
    let k = report_kept 1 tag content h.value h.value_spelled (omega arith) in
    subst (λ x. KeepsApdu x × IsWholeApdu x) (sym h.after_is) (k.0, k.1)
kind_kept OfProbe tag content v h =
    let k = probe_kept 2 tag content h.value h.value_spelled (omega arith) in
    subst (λ x. KeepsApdu x × IsWholeApdu x) (sym h.after_is) (k.0, (k.1, k.2))

whole_kept : (bytes : List ℕ) (v : ApduValue) → SpellsWhole bytes v → KeepsApdu v × IsWholeApdu v
whole_kept bytes v h = kind_kept h.kind h.tag h.content v
    (subst (λ d. SpellsKind h.kind d h.tag h.content v) (level_is h.kind h.tag h.is_tag_of) h.spelled)

pub apdus_kept : ReadApdusAreKept
apdus_kept bytes v h = whole_kept bytes v h.whole

pub stored_kept : StoredApdusAreKept
stored_kept bytes v h = whole_kept bytes v h.whole

pub read_apdus_again : ReadApdusAreReadAgain
read_apdus_again bytes v h short = let k = apdus_kept bytes v h in apdus_again v k.1 k.0 short

-- ---- no spelling begins another

level_low : (kind : ApduKind) → 1 ≤ kind_level kind
level_low OfMessage = omega arith
level_low OfReport = omega arith
level_low OfProbe = omega arith

-- whatever its choice, an APDU is an element that stands in the level 1
outer_stands : (bytes : List ℕ) (v : ApduValue) (h : SpellsWhole bytes v) → Stands 1 h.tag h.content bytes
outer_stands bytes v h = stands_above (outermost h.tag) 1 h.tag h.content bytes
    (subst (λ l. 1 ≤ l) (sym (level_is h.kind h.tag h.is_tag_of)) (level_low h.kind)) h.stands

pub no_apdu_begins : NoApduBeginsAnother
no_apdu_begins e e' x y v w h k same =
    let one = one_spelling 1 h.whole.tag k.whole.tag h.whole.content k.whole.content e e' x y (outer_stands e v h.whole)
    (outer_stands e' w k.whole) same in
    (one.0, ok_is v w (sym (apdu_full e v h) ∙ ap apdu_of one.0 ∙ apdu_full e' w k))
