-- The texts of a state and of the one that its snapshot has are the same.
use Rattle.std.proofs.Common.{◌≡◌, ℕ, zero, suc, ◌+◌, ◌-◌, eqb, Bool, true, false, cond, List, [], ◌∷◌, ◌++◌}
use Rattle.std.proofs.Common.{map, Option, Some, Result, Ok, Err, refl, sym, ap, ◌∙◌, append_assoc, arith}
use Rattle.std.proofs.lemmas.Bool.{eq-eqb}
use Rattle.std.specs.Prelude.{slice_get, filter, ◌||◌}
use Rattle.std.specs.List.{AllByRecursion, flat_map}
use Rattle.mta_ber.specs.declared.fault.Fault.{Fault}
use Rattle.mta_apdu.specs.Apdus.{ApduValue, message, probe, report, stored_of}
use Rattle.mta_machine.specs.Apdu.{value_read, value_of}
use Rattle.mta_machine.specs.Items.{ItemValue}
use Rattle.mta_records.specs.declared.state.MailboxLine.{MailboxLine}
use Rattle.mta_records.specs.declared.state.Status.{Status}
use Rattle.mta_histories.specs.Lanes.{State}
use Rattle.mta_histories.specs.Sound.{IsSoundItem, IsSoundLine, item_begun}
use Rattle.mta_histories.specs.Compact.{kept_octets, is_named, recorded_item, recorded_from, shown_of, without_content}
use Rattle.mta_histories.specs.Compact.{IsShownAs}
use Rattle.mta_histories.specs.Compaction.{AreShort}
use Rattle.mta_histories.proofs.Compacting.{snapshots_show_the_same, named_items_keep}
use Rattle.mta_show.specs.Compacted.{QueuesPrintTheSame, MailboxesPrintTheSame}
use Rattle.mta_show.specs.Mailbox.{is_for, item_if, delivered_line, delivered_text, mailbox_text, octets_text}
use Rattle.mta_show.specs.Lanes.{lane_lines}
use Rattle.mta_show.specs.Queue.{item_line, item_text, items_text, lines_if, status_lines}

-- ---- the queue

-- the lines of an item tell nothing of its content
lines-without : (number arrival : ℕ) (ss : List (Option Status)) (v : ApduValue)
    → item_line number arrival v ++ status_lines ss v
    ≡ item_line number arrival (without_content v) ++ status_lines ss (without_content v)
unfolding item_line
lines-without number arrival ss (message m) = refl
lines-without number arrival ss (probe e) = refl
lines-without number arrival ss (report p) = refl

same-shown : (v w : ApduValue) → shown_of (Some v) ≡ shown_of (Some w) → without_content v ≡ without_content w
same-shown v w e = cc

module _ (number : ℕ) (new old : ItemValue) (arrival : new.arrival ≡ old.arrival)
    (statuses : new.statuses ≡ old.statuses) where
  lines-same : (a b : Result ApduValue Fault) → shown_of (value_read a) ≡ shown_of (value_read b)
      → lines_if number new a ≡ lines_if number old b
  lines-same (Err f) (Err g) e = refl
  lines-same (Err f) (Ok w) e = absurd cc
  lines-same (Ok v) (Err g) e = absurd cc
  lines-same (Ok v) (Ok w) e =
      ap (λ (n : ℕ). item_line number n v ++ status_lines new.statuses v) arrival
      ∙ (ap (λ (ss : List (Option Status)). item_line number old.arrival v ++ status_lines ss v) statuses
      ∙ (lines-without number old.arrival old.statuses v
      ∙ (ap (λ (x : ApduValue). item_line number old.arrival x ++ status_lines old.statuses x) (same-shown v w e)
      ∙ sym (lines-without number old.arrival old.statuses w))))

item-same : (number : ℕ) (old new : ItemValue) → IsShownAs old new → item_text number new ≡ item_text number old
unfolding item_text value_of
item-same number old new is =
    lines-same number new old is.arrival is.statuses (stored_of new.octets) (stored_of old.octets) is.shown

items-same : (moment : ℕ) (lines : List MailboxLine) (number n : ℕ) (items : List ItemValue)
    → AllByRecursion (IsSoundItem moment) items → AreShort lines n items
    → items_text number (map item_begun (recorded_from lines n items)) ≡ items_text number items
items-same moment lines number n [] sound short = refl
items-same moment lines number n (x ∷ items) sound short =
    let new : ItemValue = item_begun (recorded_item (is_named lines n) x) in
    ap (λ (t : List ℕ). t ++ items_text (number + 1) (map item_begun (recorded_from lines (suc n) items)))
    (item-same number x new (snapshots_show_the_same moment (is_named lines n) x sound.0 short.0.0 short.0.1))
    ∙ ap (λ (t : List ℕ). item_text number x ++ t) (items-same moment lines (number + 1) (suc n) items sound.1 short.1)

pub queues_print_the_same : QueuesPrintTheSame
queues_print_the_same s sound short =
    ap (λ (t : List ℕ). t ++ lane_lines s.lanes.open_lanes)
    (items-same s.moment s.machine.mailboxes 1 1 s.machine.items sound.items short)

-- ---- mailboxes

named-here : (front : List MailboxLine) (line : MailboxLine) (back : List MailboxLine)
    → is_named (front ++ line ∷ back) line.item ≡ true
named-here [] line back = first (eqb line.item line.item) (is_named back line.item) (eq-eqb line.item line.item refl)
  where
    first : (a b : Bool) → a ≡ true → (a || b) ≡ true
    first true b e = refl
    first false b e = absurd cc
named-here (x ∷ front) line back = behind (eqb x.item line.item) (is_named (front ++ line ∷ back) line.item)
    (named-here front line back)
  where
    behind : (a b : Bool) → b ≡ true → (a || b) ≡ true
    behind true b e = refl
    behind false b e = e

-- the item at a place that a delivery names has its octets still
pub named-same : (lines : List MailboxLine) (n k : ℕ) (items : List ItemValue) → is_named lines (n + k) ≡ true
    → item_if (slice_get (map item_begun (recorded_from lines n items)) k) ≡ item_if (slice_get items k)
named-same lines n k [] named = refl
named-same lines n zero (x ∷ items) named =
    let here : is_named lines n ≡ true = ap (is_named lines) (omega arith) ∙ named in
    ap (λ (b : Bool). octets_text (kept_octets b x)) here ∙ ap octets_text (named_items_keep x)
named-same lines n (suc k) (x ∷ items) named =
    named-same lines (suc n) k items (ap (is_named lines) (omega arith) ∙ named)

-- each delivery of a list that ends with these prints the same
abbrev PrintsSame : List ItemValue → List ItemValue → MailboxLine → Type 0
PrintsSame new old line = item_if (slice_get new (line.item - 1)) ≡ item_if (slice_get old (line.item - 1))

deliveries-same : (s : State) (lines front back : List MailboxLine) (items : List ItemValue) → lines ≡ front ++ back
    → AllByRecursion (IsSoundLine s) back
    → AllByRecursion (PrintsSame (map item_begun (recorded_from lines 1 items)) items) back
deliveries-same s lines front [] items e sound = tt
deliveries-same s lines front (line ∷ back) items e sound =
    let here : is_named lines line.item ≡ true =
    ap (λ (ls : List MailboxLine). is_named ls line.item) e ∙ named-here front line back in (
      named-same lines 1 (line.item - 1) items
          (ap (is_named lines) (omega (arith, sound.0.some_item)) ∙ here),
      deliveries-same s lines (front ++ line ∷ []) back items (e ∙ sym (append_assoc front (line ∷ []) back)) sound.1,
    )

texts-same : (name : List ℕ) (new old : List ItemValue) (lines : List MailboxLine)
    → AllByRecursion (PrintsSame new old) lines → mailbox_text name new lines ≡ mailbox_text name old lines
texts-same name new old [] same = refl
texts-same name new old (line ∷ lines) same =
    by_test (is_for name line) (texts-same name new old lines same.1)
  where
    by_test : (b : Bool) → mailbox_text name new lines ≡ mailbox_text name old lines
        → flat_map (delivered_text new) (cond b (line ∷ filter (is_for name) lines) (filter (is_for name) lines))
        ≡ flat_map (delivered_text old) (cond b (line ∷ filter (is_for name) lines) (filter (is_for name) lines))
    by_test true rest =
        ap (λ (t : List ℕ). (delivered_line line ++ t) ++ mailbox_text name new lines) same.0
        ∙ ap (λ (t : List ℕ). delivered_text old line ++ t) rest
    by_test false rest = rest

pub mailboxes_print_the_same : MailboxesPrintTheSame
mailboxes_print_the_same name s sound short =
    texts-same name (map item_begun (recorded_from s.machine.mailboxes 1 s.machine.items)) s.machine.items
    s.machine.mailboxes
    (deliveries-same s s.machine.mailboxes [] s.machine.mailboxes s.machine.items refl sound.lines)
