-- The fields of a snapshot are a form.
use Rattle.std.proofs.Common.{◌≡◌, ℕ, ◌+◌, ◌^◌, ◌<◌, ◌≤◌, Bool, true, false, eqb, leb, List, [], ◌∷◌, length, Option}
use Rattle.std.proofs.Common.{Some, None, refl, sym, ap, subst, ◌∙◌, arith}
use Rattle.std.specs.Prelude.{find}
use Rattle.std.proofs.lemmas.Bool.{leb-true, le-leb, eqb-true}
use Rattle.mta_lane_recv.specs.declared.state.Last.{Last}
use Rattle.mta_lane_recv.specs.declared.state.Last.TheVariants as last
use Rattle.mta_lane_send.specs.Half.{confirmed_of, last_of}
use Rattle.mta_lane_send.specs.declared.state.SendState.{SendState}
use Rattle.mta_lane_send.specs.declared.state.SendState.TheVariants.{Idle, Sending, Ending, Dropping}
use Rattle.mta_records.specs.Fields.{a_number, a_long_number, a_moment, a_string, a_word, a_truth, some_numbers}
use Rattle.mta_records.specs.Form.{Form, both, narrowed, optional, list_of, nothing_for, variant, keyed, one_listed}
use Rattle.mta_records.specs.LaneName.{a_lane_name}
use Rattle.mta_records.specs.State.{Transfer, Lane, RecordedItem, SnapshotValue}
use Rattle.mta_records.specs.Snapshots.{is_zero, has_none, no_number, no_moment, no_numbers, no_string, a_place}
use Rattle.mta_records.specs.Snapshots.{octet_of_origin, all_origins, an_origin, Code, pending, delivered, expanded}
use Rattle.mta_records.specs.Snapshots.{sent}
use Rattle.mta_records.specs.Snapshots.{reported, affirmed, discarded, passed, octet_of_code, all_codes, code_of, since}
use Rattle.mta_records.specs.Snapshots.{sent_to, reason_told, diagnostic_told, a_diagnostic, status_as, status_form}
use Rattle.mta_records.specs.Snapshots.{item_form, line_form, Stage, idle, sending, ending, dropping, octet_of_stage}
use Rattle.mta_records.specs.Snapshots.{all_stages, stage_of, transfer_in, start_format, no_start_format, a_transfer}
use Rattle.mta_records.specs.Snapshots.{unused, all_zero, SendingHalf, sending_as, sending_form, Standing, nothing}
use Rattle.mta_records.specs.Snapshots.{part, whole}
use Rattle.mta_records.specs.Snapshots.{octet_of_standing, all_standings, standing_of, ReceivingHalf, has_some}
use Rattle.mta_records.specs.Snapshots.{some_pieces, receiving_as, receiving_form, some_values, lane_form, is_format}
use Rattle.mta_records.specs.Snapshots.{a_format, snapshot_as, a_snapshot, a_version}
use Rattle.mta_records.specs.declared.state.MailboxLine.{MailboxLine}
use Rattle.mta_records.specs.declared.state.Origin.{Origin}
use Rattle.mta_records.specs.declared.state.Origin.TheVariants as origin
use Rattle.mta_records.specs.declared.state.Status.{Status}
use Rattle.mta_records.specs.declared.state.Status.TheVariants.{Pending, Delivered, Expanded, Sent, Reported, Affirmed}
use Rattle.mta_records.specs.declared.state.Status.TheVariants.{Discarded, Passed}
use Rattle.mta_records.proofs.Forms.{IsForm, octet_is, number32_is, number64_is, both_is, narrowed_is, optional_is}
use Rattle.mta_records.proofs.Forms.{list_of_is}
use Rattle.mta_records.proofs.FieldForms.{moment_is, string_is, word_is, truth_is, numbers_is}
use Rattle.mta_records.proofs.LaneNames.{lane_name_is}
use Rattle.mta_records.proofs.MoreForms.{nothing_for_is, nothing_but_is, variant_is, keyed_is, one_listed_is}

-- ---- fields in which nothing else may stand

none_is : {A : Type 0} (xs : List A) → has_none xs ≡ true → xs ≡ []
none_is [] e = refl
none_is (x ∷ xs) e = absurd cc

no_number_is : IsForm no_number
no_number_is = nothing_but_is a_number 0 is_zero number32_is
    (record { fits = omega arith; here = refl; only = λ n e. eqb-true n 0 e })

no_moment_is : IsForm no_moment
no_moment_is = nothing_but_is a_moment 0 is_zero moment_is
    (record { fits = omega arith; here = refl; only = λ n e. eqb-true n 0 e })

no_numbers_is : IsForm no_numbers
no_numbers_is = nothing_but_is some_numbers [] has_none numbers_is
    (record { fits = (omega arith, tt); here = refl; only = none_is })

no_string_is : IsForm no_string
no_string_is = nothing_but_is a_string [] has_none string_is
    (record { fits = omega arith; here = refl; only = none_is })

place_is : IsForm a_place
place_is = narrowed_is a_number (λ n. leb 1 n) (λ n. (1 ≤ n) × (n < 2 ^ 32)) number32_is
    (record { widens = λ n l. l.1; passes = λ n l. le-leb 1 n l.0; fits = λ n w e. (leb-true 1 n e, w) })

-- ---- items

origin_is : IsForm an_origin
origin_is = one_listed_is all_origins octet_of_origin small listed
  where
    small : (o : Origin) → octet_of_origin o < 256
    small origin.Submitted = omega arith
    small origin.Lane = omega arith
    small origin.Own = omega arith

    listed : (o : Origin) → find (λ l. eqb (octet_of_origin l) (octet_of_origin o)) all_origins ≡ Some o
    listed origin.Submitted = refl
    listed origin.Lane = refl
    listed origin.Own = refl

code_is : IsForm (one_listed all_codes octet_of_code)
code_is = one_listed_is all_codes octet_of_code small listed
  where
    small : (o : Code) → octet_of_code o < 256
    small pending = omega arith
    small delivered = omega arith
    small expanded = omega arith
    small sent = omega arith
    small reported = omega arith
    small affirmed = omega arith
    small discarded = omega arith
    small passed = omega arith

    listed : (o : Code) → find (λ l. eqb (octet_of_code l) (octet_of_code o)) all_codes ≡ Some o
    listed pending = refl
    listed delivered = refl
    listed expanded = refl
    listed sent = refl
    listed reported = refl
    listed affirmed = refl
    listed discarded = refl
    listed passed = refl

diagnostic_is : IsForm a_diagnostic
diagnostic_is = optional_is a_truth a_number 0 is_zero truth_is number32_is
    (record { tells = λ b. tt; fits = omega arith; here = refl; only = λ n e. eqb-true n 0 e })

status_as_is : (c : Code) → IsForm (status_as c)
status_as_is pending = nothing_for_is Pending
status_as_is delivered = variant_is a_moment Delivered since moment_is (λ x. refl)
status_as_is expanded = variant_is a_moment Expanded since moment_is (λ x. refl)
status_as_is sent =
    variant_is (both a_moment a_word) (λ p. Sent p.0 p.1) (λ s. (since s, sent_to s))
    (both_is a_moment a_word moment_is word_is) (λ x. refl)
status_as_is reported =
    variant_is (both a_moment (both a_number a_diagnostic)) (λ p. Reported p.0 p.1.0 p.1.1)
    (λ s. (since s, (reason_told s, diagnostic_told s)))
    (both_is a_moment (both a_number a_diagnostic) moment_is (both_is a_number a_diagnostic number32_is diagnostic_is))
    (λ x. refl)
status_as_is affirmed = variant_is a_moment Affirmed since moment_is (λ x. refl)
status_as_is discarded = variant_is a_moment Discarded since moment_is (λ x. refl)
status_as_is passed = variant_is a_moment Passed since moment_is (λ x. refl)

status_has : (c : Code) (s : Status) → (status_as c).Fits s → code_of s ≡ c
status_has pending s fits = ap code_of fits
status_has delivered s fits = sym (ap code_of fits.1)
status_has expanded s fits = sym (ap code_of fits.1)
status_has sent s fits = sym (ap code_of fits.1)
status_has reported s fits = sym (ap code_of fits.1)
status_has affirmed s fits = sym (ap code_of fits.1)
status_has discarded s fits = sym (ap code_of fits.1)
status_has passed s fits = sym (ap code_of fits.1)

status_is : IsForm status_form
unfolding status_form
status_is = keyed_is (one_listed all_codes octet_of_code) status_as code_of code_is status_as_is status_has

item_is : IsForm item_form
unfolding item_form
item_is =
    variant_is (both an_origin (both a_moment (both a_string (list_of status_form))))
    (λ p. record { origin = p.0; arrival = p.1.0; octets = p.1.1.0; codes = p.1.1.1 })
    (λ i. (i.origin, (i.arrival, (i.octets, i.codes))))
    (both_is an_origin (both a_moment (both a_string (list_of status_form))) origin_is
    (both_is a_moment (both a_string (list_of status_form)) moment_is
    (both_is a_string (list_of status_form) string_is (list_of_is status_form status_is))))
    (λ x. refl)

-- ---- mailboxes

line_is : IsForm line_form
unfolding line_form
line_is =
    variant_is (both a_word (both a_number a_moment))
    (λ p. record { mailbox = p.0; item = p.1.0; moment = p.1.1 })
    (λ l. (l.mailbox, (l.item, l.moment)))
    (both_is a_word (both a_number a_moment) word_is (both_is a_number a_moment number32_is moment_is)) (λ x. refl)

-- ---- lanes

stage_is : IsForm (one_listed all_stages octet_of_stage)
stage_is = one_listed_is all_stages octet_of_stage small listed
  where
    small : (o : Stage) → octet_of_stage o < 256
    small idle = omega arith
    small sending = omega arith
    small ending = omega arith
    small dropping = omega arith

    listed : (o : Stage) → find (λ l. eqb (octet_of_stage l) (octet_of_stage o)) all_stages ≡ Some o
    listed idle = refl
    listed sending = refl
    listed ending = refl
    listed dropping = refl

start_format_is : (two : Bool) → IsForm (start_format two)
start_format_is true = number32_is
start_format_is false = nothing_for_is 1

no_start_format_is : (two : Bool) → IsForm (no_start_format two)
no_start_format_is true = no_number_is
no_start_format_is false = nothing_for_is tt

transfer_is : (two : Bool) → IsForm (a_transfer two)
unfolding a_transfer
transfer_is two =
    variant_is (both a_number (both some_numbers (both a_moment (both a_place (both (start_format two) a_string)))))
    (λ p. record {
      item = p.0;
      recipients = p.1.0;
      moment = p.1.1.0;
      tables = p.1.1.1.0;
      format = p.1.1.1.1.0;
      octets = p.1.1.1.1.1;
    })
    (λ t. (t.item, (t.recipients, (t.moment, (t.tables, (t.format, t.octets))))))
    (both_is a_number (both some_numbers (both a_moment (both a_place (both (start_format two) a_string)))) number32_is
    (both_is some_numbers (both a_moment (both a_place (both (start_format two) a_string))) numbers_is
    (both_is a_moment (both a_place (both (start_format two) a_string)) moment_is
    (both_is a_place (both (start_format two) a_string) place_is
    (both_is (start_format two) a_string (start_format_is two) string_is)))))
    (λ x. refl)

unused_is : (two : Bool) → IsForm (unused two)
unfolding unused
unused_is two =
    both_is no_number (both no_numbers (both no_moment (both no_number (both (no_start_format two) no_string))))
    no_number_is
    (both_is no_numbers (both no_moment (both no_number (both (no_start_format two) no_string))) no_numbers_is
    (both_is no_moment (both no_number (both (no_start_format two) no_string)) no_moment_is
    (both_is no_number (both (no_start_format two) no_string) no_number_is
    (both_is (no_start_format two) no_string (no_start_format_is two) no_string_is))))

sending_as_is : (two : Bool) (s : Stage) → IsForm (sending_as two s)
sending_as_is two idle =
    variant_is (both a_number (both no_number (unused two))) (λ p. (Idle p.0, None))
    (λ h. (last_of h.0, (tt, all_zero)))
    (both_is a_number (both no_number (unused two)) number32_is
    (both_is no_number (unused two) no_number_is (unused_is two))) (λ x. refl)
sending_as_is two sending =
    variant_is (both a_number (both a_number (a_transfer two))) (λ p. (Sending p.0 p.1.0, Some p.1.1))
    (λ h. (last_of h.0, (confirmed_of h.0, transfer_in h.1)))
    (both_is a_number (both a_number (a_transfer two)) number32_is
    (both_is a_number (a_transfer two) number32_is (transfer_is two))) (λ x. refl)
sending_as_is two ending =
    variant_is (both a_number (both a_number (a_transfer two))) (λ p. (Ending p.0 p.1.0, Some p.1.1))
    (λ h. (last_of h.0, (confirmed_of h.0, transfer_in h.1)))
    (both_is a_number (both a_number (a_transfer two)) number32_is
    (both_is a_number (a_transfer two) number32_is (transfer_is two))) (λ x. refl)
sending_as_is two dropping =
    variant_is (both a_number (both no_number (a_transfer two))) (λ p. (Dropping p.0, Some p.1.1))
    (λ h. (last_of h.0, (tt, transfer_in h.1)))
    (both_is a_number (both no_number (a_transfer two)) number32_is
    (both_is no_number (a_transfer two) no_number_is (transfer_is two))) (λ x. refl)

sending_has : (two : Bool) (s : Stage) (h : SendingHalf) → (sending_as two s).Fits h → stage_of h.0 ≡ s
sending_has two idle h fits = sym (ap (λ (x : SendingHalf). stage_of x.0) fits.1)
sending_has two sending h fits = sym (ap (λ (x : SendingHalf). stage_of x.0) fits.1)
sending_has two ending h fits = sym (ap (λ (x : SendingHalf). stage_of x.0) fits.1)
sending_has two dropping h fits = sym (ap (λ (x : SendingHalf). stage_of x.0) fits.1)

sending_is : (two : Bool) → IsForm (sending_form two)
unfolding sending_form
sending_is two =
    keyed_is (one_listed all_stages octet_of_stage) (sending_as two) (λ h. stage_of h.0) stage_is (sending_as_is two)
    (sending_has two)

standing_is : IsForm (one_listed all_standings octet_of_standing)
standing_is = one_listed_is all_standings octet_of_standing small listed
  where
    small : (o : Standing) → octet_of_standing o < 256
    small nothing = omega arith
    small part = omega arith
    small whole = omega arith

    listed : (o : Standing) → find (λ l. eqb (octet_of_standing l) (octet_of_standing o)) all_standings ≡ Some o
    listed nothing = refl
    listed part = refl
    listed whole = refl

pieces_is : IsForm some_pieces
unfolding some_pieces
pieces_is = narrowed_is (list_of a_string) has_some (λ xs. (list_of a_string).Fits xs × (has_some xs ≡ true))
    (list_of_is a_string string_is)
    (record { widens = λ xs f. f.0; passes = λ xs f. f.1; fits = λ xs w e. (w, e) })

receiving_as_is : (s : Standing) → IsForm (receiving_as s)
receiving_as_is nothing =
    variant_is (both a_number no_number) (λ p. (p.0, (last.None, []))) (λ h. (h.0, tt))
    (both_is a_number no_number number32_is no_number_is) (λ x. refl)
receiving_as_is part =
    variant_is (both a_number some_pieces) (λ p. (p.0, (last.Partial p.0 (length p.1), p.1))) (λ h. (h.0, h.1.1))
    (both_is a_number some_pieces number32_is pieces_is) (λ x. refl)
receiving_as_is whole =
    variant_is (both a_number no_number) (λ p. (p.0, (last.Done p.0, []))) (λ h. (h.0, tt))
    (both_is a_number no_number number32_is no_number_is) (λ x. refl)

receiving_has : (s : Standing) (h : ReceivingHalf) → (receiving_as s).Fits h → standing_of h.1.0 ≡ s
receiving_has nothing h fits = sym (ap (λ (x : ReceivingHalf). standing_of x.1.0) fits.1)
receiving_has part h fits = sym (ap (λ (x : ReceivingHalf). standing_of x.1.0) fits.1)
receiving_has whole h fits = sym (ap (λ (x : ReceivingHalf). standing_of x.1.0) fits.1)

receiving_is : IsForm receiving_form
unfolding receiving_form
receiving_is =
    keyed_is (one_listed all_standings octet_of_standing) receiving_as (λ h. standing_of h.1.0) standing_is
    receiving_as_is receiving_has

values_is : IsForm some_values
unfolding some_values
values_is =
    both_is a_truth (both a_truth (both a_number (both a_number a_long_number))) truth_is
    (both_is a_truth (both a_number (both a_number a_long_number)) truth_is
    (both_is a_number (both a_number a_long_number) number32_is
    (both_is a_number a_long_number number32_is number64_is)))

lane_form_is : (two : Bool) → IsForm (lane_form two)
unfolding lane_form
lane_form_is two =
    variant_is (both a_number (both a_lane_name (both some_values (both (sending_form two) receiving_form))))
    (λ p. record {
      number = p.0;
      role = p.1.0.0;
      peer = p.1.0.1.0;
      reference = p.1.0.1.1;
      checkpoint = p.1.1.0.1.1.0;
      window = p.1.1.0.1.1.1.0;
      twa = p.1.1.0.0;
      agreed = p.1.1.0.1.0;
      generation = p.1.1.0.1.1.1.1;
      sending = p.1.1.1.0.0;
      transfer = p.1.1.1.0.1;
      high = p.1.1.1.1.0;
      last = p.1.1.1.1.1.0;
      pieces = p.1.1.1.1.1.1;
    })
    (λ l. (
      l.number,
      (
        (l.role, (l.peer, l.reference)),
        (
          (l.twa, (l.agreed, (l.checkpoint, (l.window, l.generation)))),
          ((l.sending, l.transfer), (l.high, (l.last, l.pieces))),
        ),
      ),
    ))
    (both_is a_number (both a_lane_name (both some_values (both (sending_form two) receiving_form))) number32_is
    (both_is a_lane_name (both some_values (both (sending_form two) receiving_form)) lane_name_is
    (both_is some_values (both (sending_form two) receiving_form) values_is
    (both_is (sending_form two) receiving_form (sending_is two) receiving_is))))
    (λ x. refl)

-- ---- the whole

format_is : IsForm a_format
format_is = narrowed_is a_number is_format (λ n. (n < 2 ^ 32) × (is_format n ≡ true)) number32_is
    (record { widens = λ n f. f.0; passes = λ n f. f.1; fits = λ n w e. (w, e) })

snapshot_as_is : (format : ℕ) → IsForm (snapshot_as format)
snapshot_as_is format =
    let texts = list_of a_string in
    let items = list_of item_form in
    let lines = list_of line_form in
    let lanes = list_of (lane_form (eqb format 2)) in
    variant_is
    (both a_moment (both texts (both items (both lines (both a_number lanes)))))
    (λ p. record {
      format = format;
      moment = p.0;
      tables = p.1.0;
      items = p.1.1.0;
      mailboxes = p.1.1.1.0;
      lane_count = p.1.1.1.1.0;
      lanes = p.1.1.1.1.1;
    })
    (λ s. (s.moment, (s.tables, (s.items, (s.mailboxes, (s.lane_count, s.lanes))))))
    (both_is a_moment (both texts (both items (both lines (both a_number lanes)))) moment_is
    (both_is texts (both items (both lines (both a_number lanes))) (list_of_is a_string string_is)
    (both_is items (both lines (both a_number lanes)) (list_of_is item_form item_is)
    (both_is lines (both a_number lanes) (list_of_is line_form line_is)
    (both_is a_number lanes number32_is
    (list_of_is (lane_form (eqb format 2)) (lane_form_is (eqb format 2))))))))
    (λ x. refl)

snapshot_has : (format : ℕ) (s : SnapshotValue) → (snapshot_as format).Fits s → s.format ≡ format
snapshot_has format s fits = sym (ap (λ (x : SnapshotValue). x.format) fits.1)

pub snapshot_is : IsForm a_snapshot
unfolding a_snapshot
snapshot_is = keyed_is a_format snapshot_as (λ s. s.format) format_is snapshot_as_is snapshot_has

pub version_is : IsForm a_version
version_is = narrowed_is a_number (λ n. eqb n 2) (λ n. n ≡ 2) number32_is
    (record { widens = λ n e. omega (arith, e); passes = two; fits = λ n w e. eqb-true n 2 e })
  where
    two : (n : ℕ) → n ≡ 2 → eqb n 2 ≡ true
    two n e = ap (λ (m : ℕ). eqb m 2) e
