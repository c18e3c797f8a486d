-- The fields of a snapshot are in their ranges where the octets that spell it are so few.
use Rattle.std.proofs.Common.{◌≡◌, ℕ, ◌<◌, ◌≤◌, ◌^◌, Bool, true, false, List, [], ◌∷◌, ◌++◌, length, Option}
use Rattle.std.proofs.Common.{None, Some, refl, sym, ap, ◌∙◌, arith, length-append}
use Rattle.std.specs.Prelude.{flat_map}
use Rattle.std.specs.Int.{w32, w64}
use Rattle.std.specs.List.{AllByRecursion}
use Rattle.mta_ber.specs.Times.{last_moment}
use Rattle.mta_lane_recv.specs.declared.state.Last.{Last}
use Rattle.mta_lane_recv.specs.declared.state.Last.TheVariants as last
use Rattle.mta_lane_recv.specs.Half.{IsOfHigh}
use Rattle.mta_lane_send.specs.Half.{confirmed_of, is_idle, last_of}
use Rattle.mta_lane_send.specs.declared.state.SendState.{SendState}
use Rattle.mta_lane_send.specs.declared.state.SendState.TheVariants as half
use Rattle.mta_records.specs.Fields.{a_number, a_string, numbers, string}
use Rattle.mta_records.specs.Form.{Form, list_of, listed, number_octets}
use Rattle.mta_records.specs.LaneName.{a_lane_name}
use Rattle.mta_records.specs.Snapshots.{ReceivingHalf, a_transfer, all_zero, code_of, has_some, item_form, lane_form}
use Rattle.mta_records.specs.Snapshots.{line_form, octet_of_code, octet_of_origin}
use Rattle.mta_records.specs.Snapshots.{receiving_form, sending_form, since, some_pieces, some_values}
use Rattle.mta_records.specs.Snapshots.{start_format, status_as, status_form, unused}
use Rattle.mta_records.specs.State.{Lane, RecordedItem, Transfer}
use Rattle.mta_records.specs.Words.{is_word}
use Rattle.mta_records.specs.declared.state.MailboxLine.{MailboxLine}
use Rattle.mta_records.specs.declared.state.Status.{Status}
use Rattle.mta_records.specs.declared.state.Status.TheVariants.{Pending, Delivered, Expanded, Sent, Reported, Affirmed}
use Rattle.mta_records.specs.declared.state.Status.TheVariants.{Discarded, Passed}
use Rattle.mta_records.proofs.Lengths.{number_length, string_length}
use Rattle.mta_histories.specs.Kept.{ArePieces}
use Rattle.mta_sound_laws.proofs.Coded.{IsCoded}
use Rattle.mta_sound_laws.proofs.LaneFields.{HasRecipients, IsNumber, IsWritable}

-- ---- parts of what is short

pub front-short : (a b : List ℕ) → length (a ++ b) < 2 ^ 32 → length a < 2 ^ 32
front-short a b h = omega (arith, h, length-append a b)

pub behind-short : (a b : List ℕ) → length (a ++ b) < 2 ^ 32 → length b < 2 ^ 32
behind-short a b h = omega (arith, h, length-append a b)

some-front : (a b : List ℕ) → 1 ≤ length a → 1 ≤ length (a ++ b)
some-front a b h = omega (arith, h, length-append a b)

string-short : (s : List ℕ) → length (string s) < 2 ^ 32 → length s < 2 ^ 32
string-short s h = omega (arith, h, string_length s)

some-string : (s : List ℕ) → 1 ≤ length (string s)
some-string s = omega (arith, string_length s)

some-number : (n : ℕ) → 1 ≤ length (number_octets w32 n)
some-number n = omega (arith, number_length n)

some-octet : (o : ℕ) → 1 ≤ length (o ∷ [])
some-octet o = omega arith

-- ---- lists

count-within : {A : Type 0} (f : A → List ℕ) (xs : List A) → ((x : A) → 1 ≤ length (f x))
    → length xs ≤ length (flat_map f xs)
count-within f [] some = omega arith
count-within f (x ∷ xs) some =
    omega (arith, some x, count-within f xs some, length-append (f x) (flat_map f xs))

each-short : {A : Type 0} (f : A → List ℕ) (P Q : A → Type 0) (xs : List A)
    → ((x : A) → P x → length (f x) < 2 ^ 32 → Q x) → AllByRecursion P xs → length (flat_map f xs) < 2 ^ 32
    → AllByRecursion Q xs
each-short f P Q [] h each short = tt
each-short f P Q (x ∷ xs) h each short = (
  h x each.0 (front-short (f x) (flat_map f xs) short),
  each-short f P Q xs h each.1 (behind-short (f x) (flat_map f xs) short),
)

-- a list fits where each of it does that is short
pub listed-fits : {A : Type 0} (f : Form A) (P : A → Type 0) (xs : List A) → ((x : A) → 1 ≤ length (f.spelled x))
    → ((x : A) → P x → length (f.spelled x) < 2 ^ 32 → f.Fits x) → AllByRecursion P xs
    → length (listed f.spelled xs) < 2 ^ 32 → (list_of f).Fits xs
listed-fits f P xs some fits each short =
    let rest = behind-short (number_octets w32 (length xs)) (flat_map f.spelled xs) short in
    (omega (arith, rest, count-within f.spelled xs some), each-short f.spelled P f.Fits xs fits each rest)

all-anything : {A : Type 0} (xs : List A) → AllByRecursion (λ (x : A). Unit {0}) xs
all-anything [] = tt
all-anything (x ∷ xs) = (tt, all-anything xs)

-- strings
pub strings-fit : (xs : List (List ℕ)) → length (listed string xs) < 2 ^ 32 → (list_of a_string).Fits xs
strings-fit xs short =
    listed-fits a_string (λ (x : List ℕ). Unit {0}) xs some-string (λ x h s. string-short x s) (all-anything xs) short

numbers-fit : (ns : List ℕ) → AllByRecursion IsNumber ns → length (numbers ns) < 2 ^ 32 → (list_of a_number).Fits ns
unfolding numbers
numbers-fit ns each short = listed-fits a_number IsNumber ns some-number (λ n h s. h) each short

-- ---- items

-- the moment and the codes of a status are those of a record
abbrev pub IsToldStatus : Status → Type 0
IsToldStatus s = (since s ≤ last_moment) × IsCoded (Some s)

status-fits : (s : Status) → IsToldStatus s → status_form.Fits s
unfolding status_form
status-fits Pending h = (tt, refl)
status-fits (Delivered moment) h = (tt, (h.0, refl))
status-fits (Expanded moment) h = (tt, (h.0, refl))
status-fits (Sent moment peer) h = (tt, ((h.0, h.1), refl))
status-fits (Reported moment reason diagnostic) h = (tt, ((h.0, (h.1.0, h.1.1)), refl))
status-fits (Affirmed moment) h = (tt, (h.0, refl))
status-fits (Discarded moment) h = (tt, (h.0, refl))
status-fits (Passed moment) h = (tt, (h.0, refl))

some-status : (s : Status) → 1 ≤ length (status_form.spelled s)
unfolding status_form
some-status s =
    some-front (octet_of_code (code_of s) ∷ []) ((status_as (code_of s)).spelled s)
    (some-octet (octet_of_code (code_of s)))

-- when the item came, and its statuses, are those of a record
abbrev pub IsToldItem : RecordedItem → Type 0
IsToldItem i = (i.arrival ≤ last_moment) × AllByRecursion IsToldStatus i.codes

pub item-fits : (i : RecordedItem) → IsToldItem i → length (item_form.spelled i) < 2 ^ 32 → item_form.Fits i
unfolding item_form
item-fits i h short =
    let codes = listed status_form.spelled i.codes in
    let a = behind-short (octet_of_origin i.origin ∷ []) (number_octets w64 i.arrival ++ (string i.octets ++ codes))
    short in
    let b = behind-short (number_octets w64 i.arrival) (string i.octets ++ codes) a in (
      (
        tt,
        (
          h.0,
          (
            string-short i.octets (front-short (string i.octets) codes b),
            listed-fits status_form IsToldStatus i.codes some-status (λ s x y. status-fits s x) h.1
                (behind-short (string i.octets) codes b),
          ),
        ),
      ),
      refl,
    )

pub some-item : (i : RecordedItem) → 1 ≤ length (item_form.spelled i)
unfolding item_form
some-item i =
    some-front (octet_of_origin i.origin ∷ [])
    (number_octets w64 i.arrival ++ (string i.octets ++ listed status_form.spelled i.codes))
    (some-octet (octet_of_origin i.origin))

-- ---- deliveries

-- the parts of a delivery are those of a record
pub record IsToldLine (l : MailboxLine) : Type 0 where
  pub word : is_word l.mailbox ≡ true
  pub item : l.item < 2 ^ 32
  pub moment : l.moment ≤ last_moment

pub line-fits : (l : MailboxLine) → IsToldLine l → line_form.Fits l
unfolding line_form
line-fits l h = ((h.word, (h.item, h.moment)), refl)

pub some-line : (l : MailboxLine) → 1 ≤ length (line_form.spelled l)
unfolding line_form
some-line l =
    some-front (string l.mailbox) (number_octets w32 l.item ++ number_octets w64 l.moment) (some-string l.mailbox)

-- ---- sending halves

-- the numbers of a transfer beside its recipients are those of a record
pub record IsToldTransfer (two : Bool) (t : Transfer) : Type 0 where
  pub item : t.item < 2 ^ 32
  pub moment : t.moment ≤ last_moment
  pub tables : (1 ≤ t.tables) × (t.tables < 2 ^ 32)
  pub format : (start_format two).Fits t.format

-- there is a transfer where the half is not idle
abbrev pub HasToldTransfer : Bool → SendState → Option Transfer → Type 0
HasToldTransfer two st None = is_idle st ≡ true
HasToldTransfer two st (Some t) = (is_idle st ≡ false) × IsToldTransfer two t

transfer-fits : (two : Bool) (t : Transfer) → IsToldTransfer two t → AllByRecursion IsNumber t.recipients
    → length ((a_transfer two).spelled t) < 2 ^ 32 → (a_transfer two).Fits t
unfolding a_transfer
transfer-fits two t h each short =
    let octets = string t.octets in
    let from_format = (start_format two).spelled t.format ++ octets in
    let from_tables = number_octets w32 t.tables ++ from_format in
    let from_moment = number_octets w64 t.moment ++ from_tables in
    let a = behind-short (number_octets w32 t.item) (numbers t.recipients ++ from_moment) short in
    let b = behind-short (numbers t.recipients) from_moment a in
    let c = behind-short (number_octets w64 t.moment) from_tables b in
    let d = behind-short (number_octets w32 t.tables) from_format c in
    let e = behind-short ((start_format two).spelled t.format) octets d in (
      (
        h.item,
        (
          numbers-fit t.recipients each (front-short (numbers t.recipients) from_moment a),
          (h.moment, (h.tables, (h.format, string-short t.octets e))),
        ),
      ),
      refl,
    )

unused-fits : (two : Bool) → (unused two).Fits all_zero
unfolding unused
unused-fits true = (tt, (tt, (tt, (tt, (tt, tt)))))
unused-fits false = (tt, (tt, (tt, (tt, (refl, tt)))))

not-both : true ≡ false → ⊥
not-both e = absurd cc

short-transfer : (two : Bool) (o k n : ℕ) (t : Transfer)
    → length ((o ∷ []) ++ (number_octets w32 k ++ (number_octets w32 n ++ (a_transfer two).spelled t))) < 2 ^ 32
    → length ((a_transfer two).spelled t) < 2 ^ 32
short-transfer two o k n t short =
    let spelled = (a_transfer two).spelled t in
    behind-short (number_octets w32 n) spelled
    (behind-short (number_octets w32 k) (number_octets w32 n ++ spelled)
    (behind-short (o ∷ []) (number_octets w32 k ++ (number_octets w32 n ++ spelled)) short))

sending-fits : (two : Bool) (st : SendState) (o : Option Transfer) → last_of st < 2 ^ 32 → confirmed_of st < 2 ^ 32
    → HasRecipients o → HasToldTransfer two st o → length ((sending_form two).spelled (st, o)) < 2 ^ 32
    → (sending_form two).Fits (st, o)
unfolding sending_form
sending-fits two (half.Idle k) None l c rs h short = (tt, ((l, (tt, unused-fits two)), refl))
sending-fits two (half.Idle k) (Some t) l c rs h short = absurd (not-both h.0)
sending-fits two (half.Sending k n) None l c rs h short = absurd (not-both (sym h))
sending-fits two (half.Sending k n) (Some t) l c rs h short =
    (tt, ((l, (c, transfer-fits two t h.1 rs (short-transfer two 1 k n t short))), refl))
sending-fits two (half.Ending k n) None l c rs h short = absurd (not-both (sym h))
sending-fits two (half.Ending k n) (Some t) l c rs h short =
    (tt, ((l, (c, transfer-fits two t h.1 rs (short-transfer two 2 k n t short))), refl))
sending-fits two (half.Dropping k) None l c rs h short = absurd (not-both (sym h))
sending-fits two (half.Dropping k) (Some t) l c rs h short =
    (tt, ((l, (tt, transfer-fits two t h.1 rs (short-transfer two 3 k 0 t short))), refl))

-- ---- receiving halves

abbrev standing_half : ℕ → Last → List (List ℕ) → ReceivingHalf
standing_half high l pieces = (high, (l, pieces))

some-of : (xs : List (List ℕ)) → 1 ≤ length xs → has_some xs ≡ true
some-of [] h = absurd (omega (arith, h))
some-of (x ∷ xs) h = refl

pieces-fit : (pieces : List (List ℕ)) → 1 ≤ length pieces → length (some_pieces.spelled pieces) < 2 ^ 32
    → some_pieces.Fits pieces
unfolding some_pieces
pieces-fit pieces some short = (strings-fit pieces short, some-of pieces some)

receiving-fits : (high : ℕ) (l : Last) (pieces : List (List ℕ)) → high < 2 ^ 32 → IsOfHigh high l
    → ArePieces l pieces → length (receiving_form.spelled (high, (l, pieces))) < 2 ^ 32
    → receiving_form.Fits (high, (l, pieces))
unfolding receiving_form
receiving-fits high last.None pieces fits is are short =
    (tt, ((fits, tt), ap (λ (ps : List (List ℕ)). standing_half high last.None ps) (sym are)))
receiving-fits high (last.Partial k p) pieces fits is are short = (
  tt,
  (
    (
      fits,
      pieces-fit pieces (omega (arith, are.0, are.1))
          (behind-short (number_octets w32 high) (some_pieces.spelled pieces)
          (behind-short (1 ∷ []) (number_octets w32 high ++ some_pieces.spelled pieces) short)),
    ),
    ap (λ (n : ℕ). standing_half high (last.Partial n (length pieces)) pieces) (sym is)
        ∙ ap (λ (n : ℕ). standing_half high (last.Partial k n) pieces) are.1,
  ),
)
receiving-fits high (last.Done k) pieces fits is are short = (
  tt,
  (
    (fits, tt),
    ap (λ (n : ℕ). standing_half high (last.Done n) []) (sym is)
        ∙ ap (λ (ps : List (List ℕ)). standing_half high (last.Done k) ps) (sym are),
  ),
)

-- ---- lanes

-- what a record asks of a lane
pub record IsToldLane (two : Bool) (l : Lane) : Type 0 where
  pub writable : IsWritable l
  pub number : l.number < 2 ^ 32
  pub checkpoint : l.checkpoint < 2 ^ 32
  pub window : l.window < 2 ^ 32
  pub transfer : HasToldTransfer two l.sending l.transfer
  pub standing : IsOfHigh l.high l.last
  pub pieces : ArePieces l.last l.pieces

pub lane-fits : (two : Bool) (l : Lane) → IsToldLane two l → length ((lane_form two).spelled l) < 2 ^ 32
    → (lane_form two).Fits l
unfolding lane_form some_values
lane-fits two l h short =
    let name = a_lane_name.spelled (l.role, (l.peer, l.reference)) in
    let values = some_values.spelled (l.twa, (l.agreed, (l.checkpoint, (l.window, l.generation)))) in
    let sends = (sending_form two).spelled (l.sending, l.transfer) in
    let receives = receiving_form.spelled (l.high, (l.last, l.pieces)) in
    let a = behind-short (number_octets w32 l.number) (name ++ (values ++ (sends ++ receives))) short in
    let b = behind-short name (values ++ (sends ++ receives)) a in
    let c = behind-short values (sends ++ receives) b in (
      (
        h.number,
        (
          (tt, (h.writable.peer, h.writable.reference)),
          (
            (tt, (tt, (h.checkpoint, (h.window, h.writable.generation)))),
            (
              sending-fits two l.sending l.transfer h.writable.last h.writable.confirmed h.writable.recipients
                  h.transfer (front-short sends receives c),
              receiving-fits l.high l.last l.pieces h.writable.high h.standing h.pieces
                  (behind-short sends receives c),
            ),
          ),
        ),
      ),
      refl,
    )

pub some-lane : (two : Bool) (l : Lane) → 1 ≤ length ((lane_form two).spelled l)
unfolding lane_form
some-lane two l =
    some-front (number_octets w32 l.number)
    (a_lane_name.spelled (l.role, (l.peer, l.reference))
    ++ (some_values.spelled (l.twa, (l.agreed, (l.checkpoint, (l.window, l.generation))))
    ++ ((sending_form two).spelled (l.sending, l.transfer) ++ receiving_form.spelled (l.high, (l.last, l.pieces)))))
    (some-number l.number)
