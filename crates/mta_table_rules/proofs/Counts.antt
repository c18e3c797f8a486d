-- Which numbers stand for the length of the members' copy in a verdict.
use Rattle.std.proofs.Common.{◌≡◌, ℕ, ◌<◌, ◌≤◌, Bool, true, false, List, length, Option, Some, None}
use Rattle.std.proofs.Common.{refl, sym, ap, ◌∙◌, arith, inl, inr, ◌||◌}
use Rattle.std.specs.Prelude.{if◌then◌else◌, nat_le, slice_get, unwrap_or}
use Rattle.std.specs.Option.{option_map_or}
use Rattle.std.proofs.lemmas.Bool.{cases_lt, lt-ltb, le-ltb, le-leb}
use Rattle.mta_ber.specs.Lengths.{octet_length}
use Rattle.mta_envelope_recipient.specs.declared.recipient.RecipientFields.{RecipientFields}
use Rattle.mta_envelope.specs.Messages.{MessageValue, message_as}
use Rattle.mta_tables.specs.declared.entry.MailList.{MailList}
use Rattle.mta_tables.specs.declared.hop.Hop.{Hop}
use Rattle.mta_tables.specs.declared.hop.Hop.TheVariants as Hops
use Rattle.mta_tables.specs.Hops.{best_hop}
use Rattle.mta_tables.specs.Tables.{TablesValue}
use Rattle.mta_procedures.specs.declared.verdict.Verdict.{Verdict}
use Rattle.mta_procedures.specs.Copies.{is_long, longest_copy}
use Rattle.mta_procedures.specs.Facts.{Facts, facts_of_message, list_at}
use Rattle.mta_procedures.specs.Members.{has_no_copy, members_copy, members_envelope, members_length, message_octets}
use Rattle.mta_procedures.specs.Histories.{has_full_history}
use Rattle.mta_procedures.specs.Situations.{Situation, situation}
use Rattle.mta_procedures.specs.Traces.{comes_back, has_looped}
use Rattle.mta_procedures.specs.Verdicts.{first_case, leads_to_list, length_for_members, message_column}
use Rattle.mta_procedures.specs.Verdicts.{verdict_of_message}
use Rattle.mta_rules.proofs.CaseSteps.{looped_first}
use Rattle.mta_table_rules.specs.Counts.{CountsAsLength}
use Rattle.mta_idle_laws.proofs.Lengths.{copy_long}

-- the facts, with a members' copy that is long or not
abbrev with_long : Facts → Bool → Facts
with_long f b = record f { long_members = b }

abbrev verdict_with : (format : ℕ) → Situation → MessageValue → RecipientFields → Bool → Verdict
verdict_with format s m r b =
    message_column (best_hop s.tables r.name) (unwrap_or m.envelope.deferral 0)
    (first_case (with_long (facts_of_message format s m r 0) b))

-- ---- where the length does not count

or_true : (a b : Bool) → b ≡ true → (a || b) ≡ true
or_true true b e = refl
or_true false b e = e

pub full_trace : (t : TablesValue) (arrival : ℕ) (m : MessageValue) (r : RecipientFields) (n : ℕ)
    → 512 ≤ length m.envelope.trace → CountsAsLength t arrival m r n
unfolding verdict_of_message
full_trace t arrival m r n le = λ format moment.
    let s : Situation = situation t arrival moment in
    let looped : has_looped s m.envelope.trace ≡ true =
    or_true (comes_back t.domain m.envelope.trace) (nat_le 512 (length m.envelope.trace))
    (le-leb 512 (length m.envelope.trace) le) in
    ap (message_column (best_hop t r.name) (unwrap_or m.envelope.deferral 0))
    (sym (looped_first (facts_of_message format s m r n) looped)
    ∙ looped_first (facts_of_message format s m r (length_for_members s m r)) looped)

full_at : (hop : Hop) (f : Facts) (a b : Bool)
    → first_case (record f { hop = hop; full_history = true; long_members = a })
    ≡ first_case (record f { hop = hop; full_history = true; long_members = b })
unfolding first_case
full_at (Hops.Local place) f a b = refl
full_at (Hops.List place) f a b = refl
full_at (Hops.Peer place) f a b = refl
full_at Hops.None f a b = refl

full_first : (f : Facts) (a b : Bool) → f.full_history ≡ true
    → first_case (with_long f a) ≡ first_case (with_long f b)
full_first f a b e =
    ap (λ (x : Bool). first_case (record f { full_history = x; long_members = a })) e
    ∙ full_at f.hop f a b
    ∙ sym (ap (λ (x : Bool). first_case (record f { full_history = x; long_members = b })) e)

pub full_history : (t : TablesValue) (arrival : ℕ) (m : MessageValue) (r : RecipientFields) (n : ℕ)
    → 512 ≤ length m.envelope.history → CountsAsLength t arrival m r n
unfolding verdict_of_message
full_history t arrival m r n le = λ format moment.
    let s : Situation = situation t arrival moment in
    let full : has_full_history m.envelope ≡ true = le-leb 512 (length m.envelope.history) le in
    ap (message_column (best_hop t r.name) (unwrap_or m.envelope.deferral 0))
    (full_first (facts_of_message format s m r 0) (is_long n) (is_long (length_for_members s m r)) full)

elsewhere_at : (hop : Hop) (f : Facts) (a b : Bool) → leads_to_list hop ≡ false
    → first_case (record f { hop = hop; long_members = a }) ≡ first_case (record f { hop = hop; long_members = b })
unfolding first_case
elsewhere_at (Hops.Local place) f a b e = refl
elsewhere_at (Hops.List place) f a b e = absurd cc
elsewhere_at (Hops.Peer place) f a b e = refl
elsewhere_at Hops.None f a b e = refl

pub elsewhere : (t : TablesValue) (arrival : ℕ) (m : MessageValue) (r : RecipientFields) (n : ℕ) (hop : Hop)
    → hop ≡ best_hop t r.name → leads_to_list hop ≡ false → CountsAsLength t arrival m r n
unfolding verdict_of_message
elsewhere t arrival m r n hop e away = λ format moment.
    let s : Situation = situation t arrival moment in
    ap (message_column (best_hop t r.name) (unwrap_or m.envelope.deferral 0))
    (elsewhere_at (best_hop t r.name) (facts_of_message format s m r 0) (is_long n)
    (is_long (length_for_members s m r)) (ap leads_to_list (sym e) ∙ away))

-- ---- where it does

long_so : (octets : List ℕ) (n : ℕ) → n ≡ octet_length octets → is_long n ≡ is_long (length octets)
long_so octets n e = elim (cases_lt longest_copy (length octets)) [
  | inl lt ↦ (let above : longest_copy < n =
      omega (arith, e, lt) in lt-ltb longest_copy n above ∙ sym (lt-ltb longest_copy (length octets) lt))
  | inr le ↦ (let within : n ≤ longest_copy =
      omega (arith, e, le) in le-ltb longest_copy n within ∙ sym (le-ltb longest_copy (length octets) le))
]

counted_if : (b : Bool) (x y : MessageValue) (n : ℕ) → length (message_octets x) ≡ length (message_octets y)
    → n ≡ option_map_or (λ c. octet_length (message_octets c)) (if b then None else Some x) 0
    → is_long n ≡ is_long (option_map_or (λ c. length (message_octets c)) (if b then None else Some y) 0)
counted_if true x y n h e = ap is_long e
counted_if false x y n h e = long_so (message_octets x) n e ∙ ap is_long h

counted : (t : TablesValue) (arrival moment : ℕ) (l : MailList) (m : MessageValue) (r : RecipientFields) (n : ℕ)
    → n ≡ option_map_or (λ c. octet_length (message_octets c)) (members_copy (situation t arrival arrival) l m r) 0
    → is_long n ≡ is_long (members_length (situation t arrival moment) l m r)
unfolding members_copy
counted t arrival moment l m r n e =
    let long = copy_long t arrival arrival moment l m.envelope r m.content.octets in
    counted_if (has_no_copy l m.envelope)
    (message_as (members_envelope (situation t arrival arrival) l m.envelope r) m.content)
    (message_as (members_envelope (situation t arrival moment) l m.envelope r) m.content) n long.as_long e

length_at : (s : Situation) (m : MessageValue) (r : RecipientFields) (place : ℕ) (l : MailList)
    → best_hop s.tables r.name ≡ Hops.List place → slice_get s.tables.lists place ≡ Some l
    → length_for_members s m r ≡ members_length s l m r
length_at s m r place l e h =
    ap (λ (hop : Hop). option_map_or (λ x. members_length s x m r) (list_at s.tables hop) 0) e
    ∙ ap (λ (o : Option MailList). option_map_or (λ x. members_length s x m r) o 0) h

verdict_by : (format : ℕ) (s : Situation) (m : MessageValue) (r : RecipientFields) (n k : ℕ) → is_long n ≡ is_long k
    → verdict_of_message format s m r n ≡ verdict_of_message format s m r k
unfolding verdict_of_message
verdict_by format s m r n k e = ap (λ (b : Bool). verdict_with format s m r b) e

pub at_list : (t : TablesValue) (arrival : ℕ) (m : MessageValue) (r : RecipientFields) (n place : ℕ) (l : MailList)
    → best_hop t r.name ≡ Hops.List place → slice_get t.lists place ≡ Some l
    → n ≡ option_map_or (λ c. octet_length (message_octets c)) (members_copy (situation t arrival arrival) l m r) 0
    → CountsAsLength t arrival m r n
at_list t arrival m r n place l e h is = λ format moment.
    let s : Situation = situation t arrival moment in
    verdict_by format s m r n (length_for_members s m r)
    (counted t arrival moment l m r n is ∙ ap is_long (sym (length_at s m r place l e h)))
