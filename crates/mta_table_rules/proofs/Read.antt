-- What the text of tables and the octets of an item give, once they are read.
use Rattle.std.proofs.Common.{◌≡◌, ℕ, List, Option, Some, None, ap, ◌∙◌}
use Rattle.std.proofs.Common.{Result, Ok, Err}
use Rattle.std.specs.Prelude.{IfOk, is_some, option_and_then}
use Rattle.mta_apdu.specs.Apdus.{ApduValue}
use Rattle.mta_tables.specs.Tables.{TablesValue, peer_of}
use Rattle.mta_procedures.specs.Reports as reports
use Rattle.mta_machine.specs.Apdu.{value_of}
use Rattle.mta_machine.specs.Items.{ItemValue}
use Rattle.mta_machine.specs.Rules.{delivery_report, expansion, expansion_under, expired_under, is_expired}
use Rattle.mta_machine.specs.Rules.{mailbox_at, mailbox_word, names_peer, non_delivery_report, passed_back}
use Rattle.mta_machine.specs.Rules.{passed_under, peer_at, peer_word, read_both, report_on, route_under, route_word}
use Rattle.mta_machine.specs.Rules.{tables_value, verdict_of, verdict_under, outgoing_copy, copy_under}

pub if_ok_so : {A E : Type 0} (made : Result A E) (P Q : A → Type 0) → ((a : A) → P a → Q a) → IfOk made P
    → IfOk made Q
if_ok_so (Ok a) P Q f h = f a h
if_ok_so (Err e) P Q f h = h

both_read : {A : Type 0} (to : Option TablesValue) (vo : Option ApduValue) (t : TablesValue) (v : ApduValue)
    (give : TablesValue → ApduValue → Option A) → to ≡ Some t → vo ≡ Some v → read_both to vo give ≡ give t v
both_read to vo t v give e h =
    ap (λ (o : Option TablesValue). read_both o vo give) e
    ∙ ap (λ (o : Option ApduValue). read_both (Some t) o give) h

none_read : {A : Type 0} (to : Option TablesValue) (vo : Option ApduValue) (t : TablesValue)
    (give : TablesValue → ApduValue → Option A) → to ≡ Some t → vo ≡ None → read_both to vo give ≡ None
none_read to vo t give e h =
    ap (λ (o : Option TablesValue). read_both o vo give) e
    ∙ ap (λ (o : Option ApduValue). read_both (Some t) o give) h

-- ---- the words of tables

pub names_peer_is : (t : TablesValue) (word : List ℕ) → tables_value t.text ≡ Some t
    → names_peer t.text word ≡ is_some (peer_of t word)
unfolding names_peer
names_peer_is t word e =
    ap (λ (o : Option TablesValue). is_some (option_and_then (λ (x : TablesValue). peer_of x word) o)) e

pub peer_word_is : (t : TablesValue) (place : ℕ) → tables_value t.text ≡ Some t
    → peer_word t.text place ≡ peer_at t place
unfolding peer_word
peer_word_is t place e =
    ap (λ (o : Option TablesValue). option_and_then (λ (x : TablesValue). peer_at x place) o) e

pub mailbox_word_is : (t : TablesValue) (place : ℕ) → tables_value t.text ≡ Some t
    → mailbox_word t.text place ≡ mailbox_at t place
unfolding mailbox_word
mailbox_word_is t place e =
    ap (λ (o : Option TablesValue). option_and_then (λ (x : TablesValue). mailbox_at x place) o) e

-- ---- routes

pub route_is : (t : TablesValue) (octets : List ℕ) (v : ApduValue) (r : ℕ) → tables_value t.text ≡ Some t
    → value_of octets ≡ Some v → route_word t.text octets r ≡ route_under t v r
unfolding route_word
route_is t octets v r e h =
    both_read (tables_value t.text) (value_of octets) t v (λ x y. route_under x y r) e h

pub no_route : (t : TablesValue) (octets : List ℕ) (r : ℕ) → tables_value t.text ≡ Some t
    → value_of octets ≡ None → route_word t.text octets r ≡ None
unfolding route_word
no_route t octets r e h = none_read (tables_value t.text) (value_of octets) t (λ x y. route_under x y r) e h

-- ---- verdicts

pub verdict_is : (format : ℕ) (t : TablesValue) (octets : List ℕ) (v : ApduValue) (arrival r moment : ℕ)
    → tables_value t.text ≡ Some t → value_of octets ≡ Some v
    → verdict_of format t.text octets arrival r moment ≡ verdict_under format t v arrival r moment
unfolding verdict_of
verdict_is format t octets v arrival r moment e h =
    both_read (tables_value t.text) (value_of octets) t v (λ x y. verdict_under format x y arrival r moment) e h

pub no_verdict : (format : ℕ) (t : TablesValue) (octets : List ℕ) (arrival r moment : ℕ)
    → tables_value t.text ≡ Some t → value_of octets ≡ None
    → verdict_of format t.text octets arrival r moment ≡ None
unfolding verdict_of
no_verdict format t octets arrival r moment e h =
    none_read (tables_value t.text) (value_of octets) t (λ x y. verdict_under format x y arrival r moment) e h

pub expired_is : (format : ℕ) (t : TablesValue) (octets : List ℕ) (v : Option ApduValue) (arrival moment : ℕ)
    → tables_value t.text ≡ Some t → value_of octets ≡ v
    → is_expired format t.text octets arrival moment ≡ expired_under format (Some t) v arrival moment
unfolding is_expired
expired_is format t octets v arrival moment e h =
    ap (λ (o : Option TablesValue). expired_under format o (value_of octets) arrival moment) e
    ∙ ap (λ (o : Option ApduValue). expired_under format (Some t) o arrival moment) h

-- ---- reports

pub delivery_is : (t : TablesValue) (number : ℕ) (item : ItemValue) (v : ApduValue) (r moment : ℕ)
    → tables_value t.text ≡ Some t → value_of item.octets ≡ Some v
    → delivery_report t.text number item r moment
    ≡ report_on (λ e x. reports.delivery_report t number item.arrival e x moment) r v
unfolding delivery_report
delivery_is t number item v r moment e h =
    both_read (tables_value t.text) (value_of item.octets) t v
    (λ y z. report_on (λ e x. reports.delivery_report y number item.arrival e x moment) r z) e h

pub no_delivery : (t : TablesValue) (number : ℕ) (item : ItemValue) (r moment : ℕ)
    → tables_value t.text ≡ Some t → value_of item.octets ≡ None
    → delivery_report t.text number item r moment ≡ None
unfolding delivery_report
no_delivery t number item r moment e h =
    none_read (tables_value t.text) (value_of item.octets) t
    (λ y z. report_on (λ e x. reports.delivery_report y number item.arrival e x moment) r z) e h

pub non_delivery_is : (t : TablesValue) (number : ℕ) (item : ItemValue) (v : ApduValue) (r reason : ℕ)
    (diagnostic : Option ℕ) → tables_value t.text ≡ Some t → value_of item.octets ≡ Some v
    → non_delivery_report t.text number item r reason diagnostic
    ≡ report_on (λ e x. reports.non_delivery_report t number item.arrival e x reason diagnostic) r v
unfolding non_delivery_report
non_delivery_is t number item v r reason diagnostic e h =
    both_read (tables_value t.text) (value_of item.octets) t v
    (λ y z. report_on (λ e x. reports.non_delivery_report y number item.arrival e x reason diagnostic) r z) e h

pub no_non_delivery : (t : TablesValue) (number : ℕ) (item : ItemValue) (r reason : ℕ)
    (diagnostic : Option ℕ) → tables_value t.text ≡ Some t → value_of item.octets ≡ None
    → non_delivery_report t.text number item r reason diagnostic ≡ None
unfolding non_delivery_report
no_non_delivery t number item r reason diagnostic e h =
    none_read (tables_value t.text) (value_of item.octets) t
    (λ y z. report_on (λ e x. reports.non_delivery_report y number item.arrival e x reason diagnostic) r z) e h

-- ---- expansions

pub expansion_is : (t : TablesValue) (number : ℕ) (item : ItemValue) (v : Option ApduValue) (r moment : ℕ)
    → tables_value t.text ≡ Some t → value_of item.octets ≡ v
    → expansion t.text number item r moment ≡ expansion_under (Some t) number item.arrival v r moment
unfolding expansion
expansion_is t number item v r moment e h =
    ap (λ (o : Option TablesValue). expansion_under o number item.arrival (value_of item.octets) r moment) e
    ∙ ap (λ (o : Option ApduValue). expansion_under (Some t) number item.arrival o r moment) h

-- ---- reports that are passed back

pub passed_is : (t : TablesValue) (items : List ItemValue) (item : ItemValue) (v : ApduValue)
    → tables_value t.text ≡ Some t → value_of item.octets ≡ Some v
    → passed_back t.text items item ≡ passed_under items item.origin item.arrival t v
unfolding passed_back
passed_is t items item v e h =
    both_read (tables_value t.text) (value_of item.octets) t v (passed_under items item.origin item.arrival) e h

pub none_passed : (t : TablesValue) (items : List ItemValue) (item : ItemValue)
    → tables_value t.text ≡ Some t → value_of item.octets ≡ None → passed_back t.text items item ≡ None
unfolding passed_back
none_passed t items item e h =
    none_read (tables_value t.text) (value_of item.octets) t (passed_under items item.origin item.arrival) e h

-- ---- copies

pub copy_is : (t : TablesValue) (octets : List ℕ) (v : ApduValue) (arrival : ℕ) (rs : List ℕ) (moment : ℕ)
    → tables_value t.text ≡ Some t → value_of octets ≡ Some v
    → outgoing_copy t.text octets arrival rs moment ≡ Some (copy_under t v arrival rs moment)
unfolding outgoing_copy
copy_is t octets v arrival rs moment e h =
    both_read (tables_value t.text) (value_of octets) t v (λ x y. Some (copy_under x y arrival rs moment)) e h

pub no_copy : (t : TablesValue) (octets : List ℕ) (arrival : ℕ) (rs : List ℕ) (moment : ℕ)
    → tables_value t.text ≡ Some t → value_of octets ≡ None
    → outgoing_copy t.text octets arrival rs moment ≡ None
unfolding outgoing_copy
no_copy t octets arrival rs moment e h =
    none_read (tables_value t.text) (value_of octets) t (λ x y. Some (copy_under x y arrival rs moment)) e h
