-- Before the next change verdicts stay as they are, and once there is none, for good.
use Rattle.std.proofs.Common.{◌≡◌, ℕ, ◌+◌, ◌<◌, ◌≤◌, Bool, true, false, cond, List, [], ◌∷◌, length, Option, Some, None}
use Rattle.std.proofs.Common.{refl, sym, ap, subst, ◌∙◌, arith}
use Rattle.std.specs.Prelude.{if◌then◌else◌, nat_lt, min, unwrap_or}
use Rattle.std.specs.Option.{option_map, option_map_or}
use Rattle.std.proofs.lemmas.Bool.{leb-true, leb-false, lt-leb, le-leb, ltb-true, ltb-false, lt-ltb, le-ltb, true≢false}
use Rattle.mta_envelope_recipient.specs.declared.recipient.RecipientFields.{RecipientFields}
use Rattle.mta_envelope.specs.declared.envelope.EnvelopeFields.{EnvelopeFields}
use Rattle.mta_envelope.specs.declared.priority.Priority.{Priority}
use Rattle.mta_envelope.specs.Messages.{MessageValue, message_as}
use Rattle.mta_report.specs.declared.fields.ReportFields.{ReportFields}
use Rattle.mta_apdu.specs.Apdus.{ApduValue, message, probe, report}
use Rattle.mta_tables.specs.declared.entry.MailList.{MailList}
use Rattle.mta_tables.specs.declared.hop.Hop.{Hop}
use Rattle.mta_tables.specs.declared.hop.Hop.TheVariants as Hops
use Rattle.mta_tables.specs.Hops.{best_hop}
use Rattle.mta_tables.specs.Tables.{TablesValue}
use Rattle.mta_procedures.specs.declared.case.Case.{Case}
use Rattle.mta_procedures.specs.declared.verdict.Verdict.{Verdict}
use Rattle.mta_procedures.specs.Copies.{is_long, outgoing_message, outgoing_probe, outgoing_report}
use Rattle.mta_procedures.specs.Criticals.{has_critical}
use Rattle.mta_procedures.specs.Facts.{Facts, facts_of_message, facts_of_probe, facts_of_report, is_unwanted, list_at}
use Rattle.mta_procedures.specs.Facts.{of_list}
use Rattle.mta_procedures.specs.Histories.{is_in_history, has_full_history}
use Rattle.mta_procedures.specs.Members.{has_no_copy, members_copy, members_envelope, members_length, message_octets}
use Rattle.mta_procedures.specs.declared.terms.Terms.{Terms}
use Rattle.mta_procedures.specs.Situations.{Situation, situation, terms_of, report_terms, expiry, is_deferred}
use Rattle.mta_procedures.specs.Situations as situations
use Rattle.mta_procedures.specs.Traces.{has_looped}
use Rattle.mta_procedures.specs.Verdicts.{first_case, message_column, probe_column, report_column, length_for_members}
use Rattle.mta_procedures.specs.Verdicts.{verdict_of_message, verdict_on_message, verdict_of_probe, verdict_of_report}
use Rattle.mta_procedures.proofs.LongLaws.{messages_long, probes_long}
use Rattle.mta_names.specs.declared.attributes.Attributes.{Attributes}
use Rattle.mta_machine.specs.Apdu.{value_of}
use Rattle.mta_machine.specs.Items.{numbered}
use Rattle.mta_machine.specs.Rules.{expired_under, is_expired, read_both, tables_value, terms_in, verdict_of}
use Rattle.mta_machine.specs.Rules.{verdict_under}
use Rattle.mta_idle_laws.specs.Next.{up_to_deferral, next_in, next_under, next_change}
use Rattle.mta_idle_laws.specs.Idle.{calls_at_once}
use Rattle.mta_idle_laws.specs.Laws.{AreSame, StaysUntil, VerdictsStay, VerdictsAreLast, IdleUntilNext}
use Rattle.mta_idle_laws.proofs.Lengths.{copy_long}

-- ---- times

-- At two moments the item has expired or not, and where it has not, the deferral is to come or not. What has expired
-- is so whether its deferral is still to come or not.
record AreSameTimes (t : TablesValue) (arrival m n : ℕ) (x : Terms) : Type 0 where
  expired : situations.is_expired (situation t arrival m) x ≡ situations.is_expired (situation t arrival n) x
  deferred : situations.is_expired (situation t arrival n) x ≡ false
      → is_deferred (situation t arrival m) x ≡ is_deferred (situation t arrival n) x

record TimesStay (t : TablesValue) (arrival m until : ℕ) (x : Terms) : Type 0 where
  later : m < until
  same : (n : ℕ) → m ≤ n → n < until → AreSameTimes t arrival n m x
  unexpired : situations.is_expired (situation t arrival m) x ≡ false

abbrev terms : Priority → (deferral latest : Option ℕ) → Terms
terms p d l = record { priority = p; deferral = d; latest = l }

abbrev expiry_of : TablesValue → ℕ → Terms → ℕ
expiry_of t arrival x = expiry (situation t arrival arrival) x

-- up to the expiry, or up to the deferral where that is to come before it
before_next : (t : TablesValue) (arrival m : ℕ) (p : Priority) (d l : Option ℕ)
    → situations.is_expired (situation t arrival m) (terms p d l) ≡ false
    → TimesStay t arrival m (up_to_deferral m d (expiry_of t arrival (terms p d l))) (terms p d l)
before_next t arrival m p None l is =
    let e : ℕ = expiry_of t arrival (terms p None l) in
    record {
      later = leb-false e m is;
      same = λ n from below. record {
        expired = lt-leb e n below ∙ sym is;
        deferred = λ un. refl;
      };
      unexpired = is;
    }
before_next t arrival m p (Some d) l is = by_test (nat_lt m d) refl
  where
    by_test : (b : Bool) → nat_lt m d ≡ b
        → TimesStay t arrival m
        (cond b (min d (expiry_of t arrival (terms p (Some d) l))) (expiry_of t arrival (terms p (Some d) l)))
        (terms p (Some d) l)
    by_test true to_come =
        let e : ℕ = expiry_of t arrival (terms p (Some d) l) in
        let above : m < e = leb-false e m is in
        let ahead : m < d = ltb-true m d to_come in
        record {
          later = omega (arith, above, ahead);
          same = λ n from below. record {
            expired = lt-leb e n (omega (arith, below)) ∙ sym is;
            deferred = λ un. lt-ltb n d (omega (arith, below)) ∙ sym to_come;
          };
          unexpired = is;
        }
    by_test false past =
        let e : ℕ = expiry_of t arrival (terms p (Some d) l) in
        record {
          later = leb-false e m is;
          same = λ n from below. record {
            expired = lt-leb e n below ∙ sym is;
            deferred = λ un. le-ltb n d (omega (arith, ltb-false m d past, from)) ∙ sym past;
          };
          unexpired = is;
        }

times_stay : (t : TablesValue) (arrival m until : ℕ) (p : Priority) (d l : Option ℕ)
    → next_in (situation t arrival m) (terms p d l) ≡ Some until → TimesStay t arrival m until (terms p d l)
times_stay t arrival m until p d l e = by_test (situations.is_expired (situation t arrival m) (terms p d l)) refl e
  where
    by_test : (b : Bool) → situations.is_expired (situation t arrival m) (terms p d l) ≡ b
        → cond b None (Some (up_to_deferral m d (expiry_of t arrival (terms p d l)))) ≡ Some until
        → TimesStay t arrival m until (terms p d l)
    by_test true is e = absurd cc
    by_test false is e =
        let same : up_to_deferral m d (expiry_of t arrival (terms p d l)) ≡ until = cc in
        subst (λ (u : ℕ). TimesStay t arrival m u (terms p d l)) same (before_next t arrival m p d l is)

times_are_last : (t : TablesValue) (arrival m n : ℕ) (p : Priority) (d l : Option ℕ)
    → next_in (situation t arrival m) (terms p d l) ≡ None → m ≤ n → AreSameTimes t arrival n m (terms p d l)
times_are_last t arrival m n p d l e from =
    by_test (situations.is_expired (situation t arrival m) (terms p d l)) refl e
  where
    by_test : (b : Bool) → situations.is_expired (situation t arrival m) (terms p d l) ≡ b
        → cond b None (Some (up_to_deferral m d (expiry_of t arrival (terms p d l)))) ≡ None
        → AreSameTimes t arrival n m (terms p d l)
    by_test true is e =
        let past : expiry_of t arrival (terms p d l) ≤ m = leb-true (expiry_of t arrival (terms p d l)) m is in
        record {
          expired = le-leb (expiry_of t arrival (terms p d l)) n (omega (arith, past, from)) ∙ sym is;
          deferred = λ un. absurd (true≢false (sym is ∙ un));
        }
    by_test false is e = absurd cc

-- ---- lengths

copied_if : (b : Bool) (x y : MessageValue) → length (message_octets x) ≡ length (message_octets y)
    → option_map_or (λ c. length (message_octets c)) (if b then None else Some x) 0
    ≡ option_map_or (λ c. length (message_octets c)) (if b then None else Some y) 0
copied_if true x y h = refl
copied_if false x y h = h

members_same : (t : TablesValue) (arrival m n : ℕ) (l : MailList) (v : MessageValue) (x : RecipientFields)
    → members_length (situation t arrival m) l v x ≡ members_length (situation t arrival n) l v x
unfolding members_copy
members_same t arrival m n l v x =
    let long = copy_long t arrival m n l v.envelope x v.content.octets in
    copied_if (has_no_copy l v.envelope)
    (message_as (members_envelope (situation t arrival m) l v.envelope x) v.content)
    (message_as (members_envelope (situation t arrival n) l v.envelope x) v.content) long.as_long

lengths_same : (t : TablesValue) (arrival m n : ℕ) (v : MessageValue) (x : RecipientFields)
    → length_for_members (situation t arrival m) v x ≡ length_for_members (situation t arrival n) v x
lengths_same t arrival m n v x = by_list (list_at t (best_hop t x.name))
  where
    by_list : (o : Option MailList)
        → option_map_or (λ l. members_length (situation t arrival m) l v x) o 0
        ≡ option_map_or (λ l. members_length (situation t arrival n) l v x) o 0
    by_list None = refl
    by_list (Some l) = members_same t arrival m n l v x

-- ---- verdicts

-- the facts of a recipient of a message or probe, of which these change with the moment
abbrev facts_with : TablesValue → EnvelopeFields → RecipientFields → (expired deferred members copy : Bool) → Facts
facts_with t e r expired deferred members copy = record {
  hop = best_hop t r.name;
  looped = has_looped (situation t 0 0) e.trace;
  critical = has_critical (best_hop t r.name) e r;
  expired = expired;
  deferred = deferred;
  in_history = of_list t (best_hop t r.name) (λ l. is_in_history l e);
  prohibited = e.dl_prohibited;
  not_permitted = of_list t (best_hop t r.name) (is_unwanted e);
  full_history = has_full_history e;
  long_members = members;
  long_copy = copy;
}

facts_same : (t : TablesValue) (e : EnvelopeFields) (r : RecipientFields) (a b c d p u v : Bool) → a ≡ p → c ≡ u → d ≡ v
    → facts_with t e r a b c d ≡ facts_with t e r p b u v
facts_same t e r a b c d p u v h j k =
    ap (λ (x : Bool). facts_with t e r x b c d) h
    ∙ (ap (λ (x : Bool). facts_with t e r p b x d) j ∙ ap (λ (x : Bool). facts_with t e r p b u x) k)

-- what has expired has done so whether its deferral is still to come or not
expired_at : (hop : Hop) (f : Facts) (a b : Bool)
    → first_case (record f { hop = hop; expired = true; deferred = a })
    ≡ first_case (record f { hop = hop; expired = true; deferred = b })
unfolding first_case
expired_at (Hops.Local place) f a b = refl
expired_at (Hops.List place) f a b = refl
expired_at (Hops.Peer place) f a b = refl
expired_at Hops.None f a b = refl

deferred_counts : (f : Facts) (a b : Bool) → (f.expired ≡ false → a ≡ b)
    → first_case (record f { deferred = a }) ≡ first_case (record f { deferred = b })
deferred_counts f a b same = by_test f.expired refl
  where
    by_test : (x : Bool) → f.expired ≡ x
        → first_case (record f { deferred = a }) ≡ first_case (record f { deferred = b })
    by_test true is =
        ap (λ (x : Bool). first_case (record f { expired = x; deferred = a })) is ∙ expired_at f.hop f a b
        ∙ sym (ap (λ (x : Bool). first_case (record f { expired = x; deferred = b })) is)
    by_test false is = ap (λ (x : Bool). first_case (record f { deferred = x })) (same is)

cases_same : (t : TablesValue) (e : EnvelopeFields) (r : RecipientFields) (a b c d p q u v : Bool) → a ≡ p
    → (p ≡ false → b ≡ q) → c ≡ u → d ≡ v
    → first_case (facts_with t e r a b c d) ≡ first_case (facts_with t e r p q u v)
cases_same t e r a b c d p q u v h i j k =
    ap first_case (facts_same t e r a b c d p u v h j k) ∙ deferred_counts (facts_with t e r p b u v) b q i

message_same : (format : ℕ) (t : TablesValue) (arrival m n : ℕ) (v : MessageValue) (x : RecipientFields)
    → AreSameTimes t arrival m n (terms_of format v.envelope)
    → verdict_on_message format (situation t arrival m) v x ≡ verdict_on_message format (situation t arrival n) v x
unfolding verdict_of_message
message_same format t arrival m n v x same =
    ap
    (λ (c : Case). message_column (best_hop t x.name) (unwrap_or v.envelope.deferral 0) c)
    (cases_same t v.envelope x
    (situations.is_expired (situation t arrival m) (terms_of format v.envelope))
    (is_deferred (situation t arrival m) (terms_of format v.envelope))
    (is_long (length_for_members (situation t arrival m) v x))
    (is_long (length (outgoing_message (situation t arrival m) v [])))
    (situations.is_expired (situation t arrival n) (terms_of format v.envelope))
    (is_deferred (situation t arrival n) (terms_of format v.envelope))
    (is_long (length_for_members (situation t arrival n) v x))
    (is_long (length (outgoing_message (situation t arrival n) v [])))
    same.expired same.deferred (ap is_long (lengths_same t arrival m n v x))
    (ap is_long (messages_long (situation t arrival m) (situation t arrival n) v [] [] refl refl)))

probe_same : (format : ℕ) (t : TablesValue) (arrival m n : ℕ) (e : EnvelopeFields) (x : RecipientFields)
    → AreSameTimes t arrival m n (terms_of format e)
    → verdict_of_probe format (situation t arrival m) e x ≡ verdict_of_probe format (situation t arrival n) e x
unfolding verdict_of_probe
probe_same format t arrival m n e x same =
    ap (λ (c : Case). probe_column (best_hop t x.name) c)
    (cases_same t e x
    (situations.is_expired (situation t arrival m) (terms_of format e))
    (is_deferred (situation t arrival m) (terms_of format e))
    (is_long 0)
    (is_long (length (outgoing_probe (situation t arrival m) e [])))
    (situations.is_expired (situation t arrival n) (terms_of format e))
    (is_deferred (situation t arrival n) (terms_of format e))
    (is_long 0)
    (is_long (length (outgoing_probe (situation t arrival n) e [])))
    same.expired same.deferred refl
    (ap is_long (probes_long (situation t arrival m) (situation t arrival n) e [] [] refl refl)))

report_same : (t : TablesValue) (arrival m n : ℕ) (p : ReportFields) → AreSameTimes t arrival m n report_terms
    → verdict_of_report (situation t arrival m) p true ≡ verdict_of_report (situation t arrival n) p true
unfolding verdict_of_report outgoing_report
report_same t arrival m n p same =
    ap
    (λ (b : Bool). report_column (best_hop t p.destination) true
    (first_case (record (facts_of_report (situation t arrival m) p) { expired = b })))
    same.expired

under_same : (format : ℕ) (t : TablesValue) (v : ApduValue) (arrival r m n : ℕ)
    → AreSameTimes t arrival m n (terms_in format v)
    → verdict_under format t v arrival r m ≡ verdict_under format t v arrival r n
under_same format t (message v) arrival r m n same = by_found (numbered v.envelope.recipients r)
  where
    by_found : (o : Option RecipientFields)
        → option_map (verdict_on_message format (situation t arrival m) v) o
        ≡ option_map (verdict_on_message format (situation t arrival n) v) o
    by_found None = refl
    by_found (Some x) = ap (λ (w : Verdict). Some w) (message_same format t arrival m n v x same)
under_same format t (probe e) arrival r m n same = by_found (numbered e.recipients r)
  where
    by_found : (o : Option RecipientFields)
        → option_map (verdict_of_probe format (situation t arrival m) e) o
        ≡ option_map (verdict_of_probe format (situation t arrival n) e) o
    by_found None = refl
    by_found (Some x) = ap (λ (w : Verdict). Some w) (probe_same format t arrival m n e x same)
under_same format t (report p) arrival r m n same =
    ap (λ (w : Verdict). option_map (λ (a : Attributes). w) (numbered (p.destination ∷ []) r))
    (report_same t arrival m n p same)

-- ---- what is read

record AreSameRead (format : ℕ) (a : Option TablesValue) (b : Option ApduValue) (arrival m n : ℕ) : Type 0 where
  verdicts : (r : ℕ) → read_both a b (λ t v. verdict_under format t v arrival r m)
      ≡ read_both a b (λ t v. verdict_under format t v arrival r n)
  expired : expired_under format a b arrival m ≡ expired_under format a b arrival n

record ReadStays (format : ℕ) (a : Option TablesValue) (b : Option ApduValue) (arrival m until : ℕ) : Type 0 where
  later : m < until
  same : (n : ℕ) → m ≤ n → n < until → AreSameRead format a b arrival n m
  unexpired : expired_under format a b arrival m ≡ false

read_same : (format : ℕ) (t : TablesValue) (v : ApduValue) (arrival m n : ℕ)
    → AreSameTimes t arrival m n (terms_in format v) → AreSameRead format (Some t) (Some v) arrival m n
read_same format t v arrival m n same = record {
  verdicts = λ r. under_same format t v arrival r m n same;
  expired = same.expired;
}

read_stays : (format : ℕ) (a : Option TablesValue) (b : Option ApduValue) (arrival m until : ℕ)
    → next_under format a b arrival m ≡ Some until → ReadStays format a b arrival m until
read_stays format None b arrival m until e = absurd cc
read_stays format (Some t) None arrival m until e = absurd cc
read_stays format (Some t) (Some v) arrival m until e =
    let stay = times_stay t arrival m until (terms_in format v).priority (terms_in format v).deferral
    (terms_in format v).latest e in
    record {
      later = stay.later;
      same = λ n from below. read_same format t v arrival n m (stay.same n from below);
      unexpired = stay.unexpired;
    }

read_is_last : (format : ℕ) (a : Option TablesValue) (b : Option ApduValue) (arrival m n : ℕ)
    → next_under format a b arrival m ≡ None → m ≤ n → AreSameRead format a b arrival n m
read_is_last format None b arrival m n e from = record { verdicts = λ r. refl; expired = refl }
read_is_last format (Some t) None arrival m n e from = record { verdicts = λ r. refl; expired = refl }
read_is_last format (Some t) (Some v) arrival m n e from =
    read_same format t v arrival n m (times_are_last t arrival m n (terms_in format v).priority
    (terms_in format v).deferral (terms_in format v).latest e from)

-- ---- the laws

as_read : (format : ℕ) (text octets : List ℕ) (arrival m n : ℕ)
    → AreSameRead format (tables_value text) (value_of octets) arrival m n → AreSame format text octets arrival m n
unfolding verdict_of is_expired
as_read format text octets arrival m n same = record { verdicts = same.verdicts; expired = same.expired }

pub verdicts_stay : VerdictsStay
unfolding next_change is_expired
verdicts_stay format text octets arrival moment until e =
    let stay = read_stays format (tables_value text) (value_of octets) arrival moment until e in
    record {
      later = stay.later;
      same = λ n from below. as_read format text octets arrival n moment (stay.same n from below);
      unexpired = stay.unexpired;
    }

pub verdicts_are_last : VerdictsAreLast
unfolding next_change
verdicts_are_last format text octets arrival moment n e from =
    as_read format text octets arrival n moment
    (read_is_last format (tables_value text) (value_of octets) arrival moment n e from)

pub idle_until_next : IdleUntilNext
idle_until_next format text item moment until n is from below r pending =
    let stay = verdicts_stay format text item.octets item.arrival moment until is.1 in
    let same = stay.same n from below in
    record {
      waits = ap calls_at_once (same.verdicts r) ∙ is.0 r pending;
      unexpired = same.expired ∙ stay.unexpired;
    }
