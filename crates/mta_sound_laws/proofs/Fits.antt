-- The snapshot of the state after a history of records is a record.
use Rattle.std.proofs.Common.{◌≡◌, ℕ, suc, ◌<◌, ◌≤◌, ◌^◌, Bool, true, false, eqb, List, [], ◌∷◌, ◌++◌, length}
use Rattle.std.proofs.Common.{Option, None, Some, inl, inr, refl, sym, ap, ◌∙◌, arith}
use Rattle.std.specs.Prelude.{◌⊎◌}
use Rattle.std.specs.Int.{w32, w64}
use Rattle.std.specs.List.{AllByRecursion}
use Rattle.std.proofs.lemmas.Bool.{eq-eqb, eqb-true}
use Rattle.mta_ber.specs.Times.{last_moment}
use Rattle.mta_records.specs.Fields.{string}
use Rattle.mta_records.specs.Form.{listed, number_octets}
use Rattle.mta_records.specs.Snapshots.{a_snapshot, is_format, item_form, lane_form, line_form, start_format}
use Rattle.mta_records.specs.State.{Lane, SnapshotValue, Transfer}
use Rattle.mta_records.specs.declared.state.MailboxLine.{MailboxLine}
use Rattle.mta_records.specs.declared.state.Status.{Status}
use Rattle.mta_machine.specs.Items.{ItemValue}
use Rattle.mta_histories.specs.Compact.{codes_of, recorded_from, snapshot_of}
use Rattle.mta_histories.specs.History.{after}
use Rattle.mta_histories.specs.Kept.{AreNumbered, IsKept, IsWhole}
use Rattle.mta_histories.specs.Lanes.{EachLane, State}
use Rattle.mta_histories.specs.Sound.{HasSoundTransfer, IsInTime, IsSound, IsSoundItem, IsSoundLane, IsSoundLine}
use Rattle.mta_histories.proofs.Keeps.{histories_keep}
use Rattle.mta_sound_laws.specs.Laws.{SnapshotsFit}
use Rattle.mta_sound_laws.proofs.Coded.{IsCoded, IsCodedItem, IsWordLine}
use Rattle.mta_sound_laws.proofs.FieldsStay.{IsInFields, histories_in_fields}
use Rattle.mta_sound_laws.proofs.LaneFields.{IsWritable}
use Rattle.mta_sound_laws.proofs.ShortFits.{HasToldTransfer, IsToldItem, IsToldLane, IsToldLine, IsToldStatus}
use Rattle.mta_sound_laws.proofs.ShortFits.{behind-short, front-short, item-fits, lane-fits, line-fits, listed-fits}
use Rattle.mta_sound_laws.proofs.ShortFits.{some-item, some-lane, some-line, strings-fit}
use Rattle.mta_sound_laws.proofs.Stays.{histories_are_sound}

-- ---- items

told-codes : (ss : List (Option Status)) (moment : ℕ) → moment ≤ last_moment → AllByRecursion (IsInTime moment) ss
    → AllByRecursion IsCoded ss → AllByRecursion IsToldStatus (codes_of ss)
told-codes [] moment le timely coded = tt
told-codes (None ∷ ss) moment le timely coded = told-codes ss moment le timely.1 coded.1
told-codes (Some s ∷ ss) moment le timely coded =
    ((omega (arith, le, timely.0), coded.0), told-codes ss moment le timely.1 coded.1)

told-items : (lines : List MailboxLine) (n : ℕ) (items : List ItemValue) (moment : ℕ) → moment ≤ last_moment
    → AllByRecursion (IsSoundItem moment) items → AllByRecursion IsCodedItem items
    → AllByRecursion IsToldItem (recorded_from lines n items)
told-items lines n [] moment le sound coded = tt
told-items lines n (item ∷ items) moment le sound coded = (
  (
    omega (arith, le, sound.0.arrived),
    told-codes item.statuses moment le sound.0.timely coded.0,
  ),
  told-items lines (suc n) items moment le sound.1 coded.1,
)

-- ---- deliveries

told-lines : (s : State) (lines : List MailboxLine) → s.moment ≤ last_moment → length s.machine.items < 2 ^ 32
    → AllByRecursion (IsSoundLine s) lines → AllByRecursion IsWordLine lines → AllByRecursion IsToldLine lines
told-lines s [] le few sound words = tt
told-lines s (l ∷ lines) le few sound words = (
  record {
    word = words.0;
    item = omega (arith, few, sound.0.item);
    moment = omega (arith, le, sound.0.timely);
  },
  told-lines s lines le few sound.1 words.1,
)

-- ---- lanes

-- in format 1 each activity was started in it
start-fits : (b : Bool) (m n : ℕ) → eqb m 2 ≡ b → (m ≡ 1) ⊎ (m ≡ 2) → 1 ≤ n → n ≤ m → (start_format b).Fits n
start-fits true m n e is some most = let two = eqb-true m 2 e in omega (arith, two, most)
start-fits false m n e (inl one) some most = omega (arith, one, some, most)
start-fits false m n e (inr two) some most = absurd (never (sym e ∙ eq-eqb m 2 two))
  where
    never : false ≡ true → ⊥
    never f = absurd cc

-- what is asked of a state beside its lanes
record IsReady (s : State) : Type 0 where
  format : (s.machine.format ≡ 1) ⊎ (s.machine.format ≡ 2)
  moment : s.moment ≤ last_moment
  few : length s.machine.items < 2 ^ 32
  texts : length s.machine.tables < 2 ^ 32

told-transfer : (s : State) (l : Lane) (o : Option Transfer) → IsReady s → HasSoundTransfer s l o
    → HasToldTransfer (eqb s.machine.format 2) l.sending o
told-transfer s l None ready sound = sound
told-transfer s l (Some t) ready sound = (
  sound.0,
  record {
    item = omega (arith, sound.1.item.1, ready.few);
    moment = omega (arith, sound.1.timely, ready.moment);
    tables = (sound.1.tables.0, omega (arith, sound.1.tables.1, ready.texts));
    format = start-fits (eqb s.machine.format 2) s.machine.format t.format refl ready.format sound.1.format.0
        sound.1.format.1;
  },
)

least : (above : ℕ) (lanes : List Lane) (most : ℕ) → AreNumbered above lanes most → above ≤ most
least above [] most a = a
least above (l ∷ lanes) most a = omega (arith, a.0, least l.number lanes most a.1)

told-lanes : (s : State) (above : ℕ) (lanes : List Lane) (most : ℕ) → IsReady s → most < 2 ^ 32
    → AreNumbered above lanes most → EachLane IsWritable lanes → EachLane IsWhole lanes
    → EachLane (IsSoundLane s) lanes → AllByRecursion (IsToldLane (eqb s.machine.format 2)) lanes
told-lanes s above [] most ready fits numbers each whole sound = tt
told-lanes s above (l ∷ lanes) most ready fits numbers each whole sound = (
  record {
    writable = each.0;
    number = omega (arith, fits, least l.number lanes most numbers.1);
    checkpoint = omega (arith, whole.0.checkpoint_fits);
    window = omega (arith, whole.0.window_fits.1);
    transfer = told-transfer s l l.transfer ready sound.0.transfer;
    standing = whole.0.receiving;
    pieces = whole.0.pieces;
  },
  told-lanes s l.number lanes most ready fits numbers.1 each.1 whole.1 sound.1,
)

-- ---- the whole

format-small : (n : ℕ) → (n ≡ 1) ⊎ (n ≡ 2) → n < 2 ^ 32
format-small n (inl one) = omega (arith, one)
format-small n (inr two) = omega (arith, two)

format-is : (n : ℕ) → (n ≡ 1) ⊎ (n ≡ 2) → is_format n ≡ true
format-is n (inl one) = ap is_format one
format-is n (inr two) = ap is_format two

-- the lists of a snapshot are short
record AreShort (t : SnapshotValue) : Type 0 where
  tables : length (listed string t.tables) < 2 ^ 32
  items : length (listed item_form.spelled t.items) < 2 ^ 32
  lines : length (listed line_form.spelled t.mailboxes) < 2 ^ 32
  lanes : length (listed (lane_form (eqb t.format 2)).spelled t.lanes) < 2 ^ 32

are-short : (t : SnapshotValue) → length (a_snapshot.spelled t) < 2 ^ 32 → AreShort t
unfolding a_snapshot
are-short t short =
    let tables = listed string t.tables in
    let items = listed item_form.spelled t.items in
    let lines = listed line_form.spelled t.mailboxes in
    let lanes = listed (lane_form (eqb t.format 2)).spelled t.lanes in
    let count = number_octets w32 t.lane_count in
    let a = behind-short (number_octets w32 t.format)
    (number_octets w64 t.moment ++ (tables ++ (items ++ (lines ++ (count ++ lanes))))) short in
    let b = behind-short (number_octets w64 t.moment) (tables ++ (items ++ (lines ++ (count ++ lanes)))) a in
    let c = behind-short tables (items ++ (lines ++ (count ++ lanes))) b in
    let d = behind-short items (lines ++ (count ++ lanes)) c in
    let e = behind-short lines (count ++ lanes) d in
    record {
      tables = front-short tables (items ++ (lines ++ (count ++ lanes))) b;
      items = front-short items (lines ++ (count ++ lanes)) c;
      lines = front-short lines (count ++ lanes) d;
      lanes = behind-short count lanes e;
    }

state-fits : (s : State) → IsKept s → IsSound s → IsInFields s → AreShort (snapshot_of s)
    → a_snapshot.Fits (snapshot_of s)
unfolding a_snapshot
state-fits s kept sound fields short =
    let two = eqb s.machine.format 2 in
    let texts = strings-fit s.machine.tables short.tables in
    let ready : IsReady s = record {
      format = sound.format;
      moment = fields.moment;
      few = fields.few;
      texts = texts.0;
    } in (
      (format-small s.machine.format sound.format, format-is s.machine.format sound.format),
      (
        (
          fields.moment,
          (
            texts,
            (
              listed-fits item_form IsToldItem (recorded_from s.machine.mailboxes 1 s.machine.items) some-item
                  item-fits
                  (told-items s.machine.mailboxes 1 s.machine.items s.moment fields.moment sound.items
                  fields.machine.items) short.items,
              (
                listed-fits line_form IsToldLine s.machine.mailboxes some-line (λ l h x. line-fits l h)
                    (told-lines s s.machine.mailboxes fields.moment fields.few sound.lines fields.machine.lines)
                    short.lines,
                (
                  fields.count,
                  listed-fits (lane_form two) (IsToldLane two) s.lanes.open_lanes (some-lane two) (lane-fits two)
                      (told-lanes s 0 s.lanes.open_lanes s.lanes.count ready fields.count kept.numbered_lanes
                      fields.lanes kept.whole sound.lanes) short.lanes,
                ),
              ),
            ),
          ),
        ),
        refl,
      ),
    )

tail-short : (o : ℕ) (octets : List ℕ) → length (o ∷ octets) < 2 ^ 32 → length octets < 2 ^ 32
tail-short o octets short = omega (arith, short)

pub snapshots_fit : SnapshotsFit
snapshots_fit steps each history short =
    state-fits (after steps) (histories_keep steps history) (histories_are_sound steps each history)
    (histories_in_fields steps each history)
    (are-short (snapshot_of (after steps)) (tail-short 24 (a_snapshot.spelled (snapshot_of (after steps))) short))
