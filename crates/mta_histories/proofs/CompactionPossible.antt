-- A history may begin with the snapshot of a state that is kept and sound.
use Rattle.std.proofs.Common.{◌≡◌, ◌≢◌, ℕ, zero, suc, ◌+◌, ◌≤◌, ◌<◌, ◌^◌, Bool, true, false, cond, eqb, List, [], ◌∷◌}
use Rattle.std.proofs.Common.{length, map}
use Rattle.std.proofs.Common.{Option, Some, None, refl, sym, ap, subst, ◌∙◌, arith}
use Rattle.std.specs.Prelude.{is_some, count_by, ◌&&◌}
use Rattle.std.specs.List.{AllByRecursion}
use Rattle.std.proofs.lemmas.Bool.{and_from, eq-eqb}
use Rattle.std.proofs.lemmas.List.{length-map}
use Rattle.std.proofs.lemmas.List.Sums.{sum_by-cons}
use Rattle.mta_apdu.specs.Apdus.{ApduValue}
use Rattle.mta_records.specs.declared.state.MailboxLine.{MailboxLine}
use Rattle.mta_records.specs.declared.state.Status.{Status}
use Rattle.mta_machine.specs.Apdu.{value_of, responsible_in}
use Rattle.mta_machine.specs.Items.{ItemValue, Machine, numbered, names, status_at, is_pending_at}
use Rattle.mta_machine.proofs.Once.{pending-is}
use Rattle.mta_machine.proofs.Steps.{item-of}
use Rattle.mta_histories.specs.Lanes.{Transfer, Lane, State, lane_at, EachLane, is_transferring, is_for}
use Rattle.mta_histories.specs.Limits.{copied}
use Rattle.mta_histories.specs.Kept.{IsKept, IsDecided, IsDecidedFor}
use Rattle.mta_histories.specs.Sound.{IsSound, IsSoundItem, IsSoundLine, IsSoundLane, IsSoundTransfer, HasSoundTransfer}
use Rattle.mta_histories.specs.Sound.{IsInTime, HasCodes, item_begun, machine_begun, state_begun, responsible_of}
use Rattle.mta_histories.specs.Compact.{is_named, kept_octets, recorded_item, recorded_from, codes_of, snapshot_of}
use Rattle.mta_histories.specs.Compaction.{IsShort, AreShort, CompactionIsSound, CompactionIsPossible}
use Rattle.mta_histories.proofs.Compacting.{kept-shown, snapshots_show_the_same}
use Rattle.mta_histories.proofs.CompactionKept.{begun_from, begun_items, numbered-begun, any-numbered, pending-wants}
use Rattle.mta_histories.proofs.CompactionKept.{wanted-octets}
use Rattle.mta_histories.proofs.CompactionKept.{compaction_keeps}
use Rattle.mta_histories.proofs.Dues.{some-first}
use Rattle.mta_histories.proofs.Falls.{each-found}
use Rattle.mta_histories.proofs.Rows.{held-pending}

-- ---- items

item-sound : (moment : ℕ) (named : Bool) (item : ItemValue) → IsSoundItem moment item → IsShort named item
    → IsSoundItem moment (item_begun (recorded_item named item))
item-sound moment named item sound short =
    let old = sound.spelled short.0 in
    let k = kept-shown named item old.0 old.1 short.1 in
    let same : (item_begun (recorded_item named item)).statuses ≡ item.statuses =
    (snapshots_show_the_same moment named item sound short.0 short.1).statuses in
    record {
      spelled = λ few. (
        k.value,
        k.stored,
        ap (λ (ss : List (Option Status)). map is_some ss) same ∙ (old.2 ∙ sym k.responsible),
      );
      arrived = sound.arrived;
      timely = subst (λ (ss : List (Option Status)). AllByRecursion (IsInTime moment) ss) (sym same) sound.timely;
    }

items-sound : (moment : ℕ) (lines : List MailboxLine) (n : ℕ) (items : List ItemValue)
    → AllByRecursion (IsSoundItem moment) items → AreShort lines n items
    → AllByRecursion (IsSoundItem moment) (begun_from lines n items)
items-sound moment lines n [] sound short = tt
items-sound moment lines n (x ∷ items) sound short =
    (item-sound moment (is_named lines n) x sound.0 short.0, items-sound moment lines (suc n) items sound.1 short.1)

many-from : (lines : List MailboxLine) (n : ℕ) (items : List ItemValue)
    → length (begun_from lines n items) ≡ length items
many-from lines n [] = refl
many-from lines n (x ∷ items) = ap suc (many-from lines (suc n) items)

as-many : (s : State) → length (begun_items s) ≡ length s.machine.items
as-many s = many-from s.machine.mailboxes 1 s.machine.items

count-cons : (b : Bool) (bs : List Bool) → count_by (λ x. x) (b ∷ bs) ≡ cond b 1 0 + count_by (λ x. x) bs
count-cons b bs = sum_by-cons (λ (x : Bool). cond x 1 0) b bs

count-codes : (ss : List (Option Status)) → length (codes_of ss) ≡ count_by (λ b. b) (map is_some ss)
count-codes [] = refl
count-codes (None ∷ ss) = omega (arith, count-codes ss, count-cons false (map is_some ss))
count-codes (Some s ∷ ss) = omega (arith, count-codes ss, count-cons true (map is_some ss))

codes-fit : (moment : ℕ) (lines : List MailboxLine) (n : ℕ) (items : List ItemValue)
    → AllByRecursion (IsSoundItem moment) items → AreShort lines n items
    → AllByRecursion HasCodes (recorded_from lines n items)
codes-fit moment lines n [] sound short = tt
codes-fit moment lines n (x ∷ items) sound short = (here, codes-fit moment lines (suc n) items sound.1 short.1)
  where
    here : HasCodes (recorded_item (is_named lines n) x)
    here =
        let old = sound.0.spelled short.0.0 in
        let k = kept-shown (is_named lines n) x old.0 old.1 short.0.1 in
        count-codes x.statuses
        ∙ (ap (λ (bs : List Bool). count_by (λ b. b) bs) (old.2 ∙ sym k.responsible)
        ∙ sym (ap (λ (o : Option ApduValue). count_by (λ b. b) (responsible_of o)) k.stored.read))

-- ---- deliveries

lines-sound : (s : State) (lines : List MailboxLine) → AllByRecursion (IsSoundLine s) lines
    → AllByRecursion (IsSoundLine (state_begun (snapshot_of s))) lines
lines-sound s [] each = tt
lines-sound s (l ∷ lines) each = (
  record {
    some_item = each.0.some_item;
    item = omega (arith, each.0.item, as-many s);
    timely = each.0.timely;
  },
  lines-sound s lines each.1,
)

-- ---- lanes

copied-same : (text : Option (List ℕ)) (old new : ItemValue) (rs : List ℕ) (moment : ℕ) → new.octets ≡ old.octets
    → new.arrival ≡ old.arrival → copied text (Some new) rs moment ≡ copied text (Some old) rs moment
copied-same None old new rs moment octets arrival = refl
copied-same (Some text) old new rs moment octets arrival =
    ap (λ (o : List ℕ). copied (Some text) (Some (record new { octets = o })) rs moment) octets
    ∙ ap (λ (a : ℕ). copied (Some text) (Some (record old { arrival = a })) rs moment) arrival

copy-same : (s : State) (t : Transfer) (r : ℕ) → is_pending_at s.machine t.item r ≡ true
    → t.octets ≡ copied (numbered s.machine.tables t.tables) (numbered s.machine.items t.item) t.recipients t.moment
    → t.octets ≡ copied (numbered s.machine.tables t.tables) (numbered (begun_items s) t.item)
    t.recipients t.moment
copy-same s t r pending e =
    let p = pending-is (status_at s.machine t.item r) pending in
    let f = item-of (numbered s.machine.items t.item) r (Some p.0) p.1 in
    let k = numbered-begun s t.item f.0 f.1 in
    let same : kept_octets k.named f.0 ≡ f.0.octets =
    wanted-octets k.named f.0 (any-numbered f.0.statuses r (Some p.0) f.2 (pending-wants p.0 p.2)) in
    e
    ∙ (ap (λ (o : Option ItemValue). copied (numbered s.machine.tables t.tables) o t.recipients t.moment) f.1
    ∙ (sym (copied-same (numbered s.machine.tables t.tables) f.0 (item_begun (recorded_item k.named f.0)) t.recipients
    t.moment same refl)
    ∙ ap (λ (o : Option ItemValue). copied (numbered s.machine.tables t.tables) o t.recipients t.moment) (sym k.is)))

abbrev HoldsPending : State → Lane → Type 0
HoldsPending s l =
    is_transferring l.sending ≡ true → (i r : ℕ) → is_for i r l.transfer ≡ true → is_pending_at s.machine i r ≡ true

transfer-sound : (s : State) (l : Lane) (o : Option Transfer)
    → (is_transferring l.sending ≡ true → (i r : ℕ) → is_for i r o ≡ true → is_pending_at s.machine i r ≡ true)
    → (is_transferring l.sending ≡ true → IsDecidedFor s.machine s.moment l.peer o)
    → HasSoundTransfer s l o → HasSoundTransfer (state_begun (snapshot_of s)) l o
transfer-sound s l None pending decided sound = sound
transfer-sound s l (Some t) pending decided sound = (
  sound.0,
  record {
    activity = sound.1.activity;
    item = (sound.1.item.0, omega (arith, sound.1.item.1, as-many s));
    tables = sound.1.tables;
    format = sound.1.format;
    timely = sound.1.timely;
    copy = λ moves. (
        let one = some-first t.recipients (decided moves).0 in
        copy-same s t one.0
        (pending moves t.item one.0
        (and_from (eqb t.item t.item) (names t.recipients one.0) (eq-eqb t.item t.item refl) one.1))
        (sound.1.copy moves));
  },
)

lane-sound : (s : State) (l : Lane) → HoldsPending s l → IsDecided s.machine s.moment l → IsSoundLane s l
    → IsSoundLane (state_begun (snapshot_of s)) l
lane-sound s l pending decided sound = record {
  responder = sound.responder;
  before_agreed = sound.before_agreed;
  transfer = transfer-sound s l l.transfer pending decided sound.transfer;
  pieces = sound.pieces;
}

lanes-sound : (s : State) (lanes : List Lane) → EachLane (λ l. lane_at l.number s.lanes.open_lanes ≡ Some l) lanes
    → IsKept s → EachLane (IsDecided s.machine s.moment) lanes → EachLane (IsSoundLane s) lanes
    → EachLane (IsSoundLane (state_begun (snapshot_of s))) lanes
lanes-sound s [] found kept decided sound = tt
lanes-sound s (l ∷ lanes) found kept decided sound = (
  lane-sound s l
      (λ moves i r has. held-pending s l.number l i r found.0 kept
      (and_from (is_transferring l.sending) (is_for i r l.transfer) moves has))
      decided.0 sound.0,
  lanes-sound s lanes found.1 kept decided.1 sound.1,
)

some-before : (lines : List MailboxLine) (n : ℕ) (items : List ItemValue) → begun_from lines n items ≢ [] → items ≢ []
some-before lines n [] some = λ e. some refl
some-before lines n (x ∷ items) some = λ e. absurd cc

pub compaction_is_sound : CompactionIsSound
compaction_is_sound s kept sound short = record {
  format = sound.format;
  texts = sound.texts;
  recorded = λ some. sound.recorded (some-before s.machine.mailboxes 1 s.machine.items some);
  items = items-sound s.moment s.machine.mailboxes 1 s.machine.items sound.items short;
  lines = lines-sound s s.machine.mailboxes sound.lines;
  lanes = lanes-sound s s.lanes.open_lanes
      (each-found 0 s.lanes.open_lanes s.lanes.count kept.numbered_lanes) kept kept.decided sound.lanes;
  few = sound.few;
  apart = sound.apart;
}

pub compaction_is_possible : CompactionIsPossible
compaction_is_possible s kept sound short few = record {
  allowed = record {
    now = refl;
    first = refl;
    codes = codes-fit s.moment s.machine.mailboxes 1 s.machine.items sound.items short;
    kept = compaction_keeps s kept sound short;
    sound = compaction_is_sound s kept sound short;
  };
  as_machine = tt;
  timely = omega arith;
  numbers = omega (arith, few, as-many s);
}
