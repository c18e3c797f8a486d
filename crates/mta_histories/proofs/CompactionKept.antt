-- What every step keeps holds of the state that the snapshot of a state is.
use Rattle.std.proofs.Common.{◌≡◌, ℕ, zero, suc, ◌+◌, ◌≤◌, Bool, true, false, cond, eqb, List, [], ◌∷◌, length, map}
use Rattle.std.proofs.Common.{Option, Some, None, refl, sym, ap, subst, ◌∙◌, arith, inl, inr}
use Rattle.std.specs.Prelude.{slice_get, option_and_then, not, ◌&&◌, ◌||◌}
use Rattle.std.specs.List.{AllByRecursion, list_any}
use Rattle.std.proofs.lemmas.Bool.{and_parts, and_from, eq-eqb, true≢false}
use Rattle.mta_records.specs.declared.state.MailboxLine.{MailboxLine}
use Rattle.mta_records.specs.declared.state.Status.{Status}
use Rattle.mta_records.specs.declared.state.Status.TheVariants.{Pending, Delivered, Expanded, Sent, Reported, Affirmed}
use Rattle.mta_records.specs.declared.state.Status.TheVariants.{Discarded, Passed}
use Rattle.mta_machine.specs.Apdu.{value_of}
use Rattle.mta_machine.specs.Items.{ItemValue, Machine, numbered, names, status_at, is_pending, is_pending_at}
use Rattle.mta_machine.specs.Items.{has_status}
use Rattle.mta_machine.specs.Items.{is_reported, is_reported_at}
use Rattle.mta_machine.specs.Machine.{relay_at, relay_on}
use Rattle.mta_machine.proofs.Once.{pending-is}
use Rattle.mta_machine.proofs.Steps.{item-of}
use Rattle.mta_histories.specs.Lanes.{Transfer, Lane, State, lane_at, EachLane, is_transferring, is_for, activities_of}
use Rattle.mta_histories.specs.Kept.{IsKept, IsDroppedReported, IsDecided, IsDecidedFor, pending_count}
use Rattle.mta_histories.specs.Sound.{IsSound, IsSoundItem, item_begun, machine_begun, state_begun}
use Rattle.mta_histories.specs.Compact.{wants_content, is_message, is_named, emptied, kept_octets, recorded_item}
use Rattle.mta_histories.specs.Compact.{recorded_from, snapshot_of}
use Rattle.mta_histories.specs.Compaction.{AreShort, HasShortItems, CompactionKeeps}
use Rattle.mta_histories.proofs.Compacting.{snapshots_show_the_same}
use Rattle.mta_histories.proofs.Falls.{each-found}
use Rattle.mta_histories.proofs.Rows.{held-pending}
use Rattle.mta_histories.proofs.LaneLists.{each-weaker}

-- items that are numbered from n, as a snapshot has them
abbrev pub begun_from : List MailboxLine → (n : ℕ) → List ItemValue → List ItemValue
begun_from lines n items = map item_begun (recorded_from lines n items)

abbrev pub begun_items : State → List ItemValue
begun_items s = begun_from s.machine.mailboxes 1 s.machine.items

-- ---- statuses

abbrev status_of : ℕ → Option ItemValue → Option (Option Status)
status_of r o = option_and_then (λ (item : ItemValue). numbered item.statuses r) o

get-status : (moment : ℕ) (lines : List MailboxLine) (n : ℕ) (items : List ItemValue) (k r : ℕ)
    → AllByRecursion (IsSoundItem moment) items → AreShort lines n items
    → status_of r (slice_get (begun_from lines n items) k) ≡ status_of r (slice_get items k)
get-status moment lines n [] k r sound short = refl
get-status moment lines n (x ∷ items) zero r sound short =
    ap (λ (ss : List (Option Status)). numbered ss r)
    (snapshots_show_the_same moment (is_named lines n) x sound.0 short.0.0 short.0.1).statuses
get-status moment lines n (x ∷ items) (suc k) r sound short =
    get-status moment lines (suc n) items k r sound.1 short.1

pub same-status : (s : State) (i r : ℕ) → IsSound s → HasShortItems s
    → status_at (machine_begun (snapshot_of s)) i r ≡ status_at s.machine i r
same-status s zero r sound short = refl
same-status s (suc k) r sound short =
    get-status s.moment s.machine.mailboxes 1 s.machine.items k r sound.items short

-- ---- who is pending wants the content

any-at : (ss : List (Option Status)) (k : ℕ) (x : Option Status) → slice_get ss k ≡ Some x → wants_content x ≡ true
    → list_any wants_content ss ≡ true
any-at [] k x e wants = absurd cc
any-at (y ∷ ss) zero x e wants =
    first (wants_content y) (list_any wants_content ss) (ap wants_content (same y x e) ∙ wants)
  where
    same : (a b : Option Status) → Some a ≡ Some b → a ≡ b
    same a b f = cc

    first : (a b : Bool) → a ≡ true → (a || b) ≡ true
    first true b f = refl
    first false b f = absurd cc
any-at (y ∷ ss) (suc k) x e wants = behind (wants_content y) (list_any wants_content ss) (any-at ss k x e wants)
  where
    behind : (a b : Bool) → b ≡ true → (a || b) ≡ true
    behind true b f = refl
    behind false b f = f

pub any-numbered : (ss : List (Option Status)) (r : ℕ) (x : Option Status) → numbered ss r ≡ Some x
    → wants_content x ≡ true → list_any wants_content ss ≡ true
any-numbered ss zero x e wants = absurd cc
any-numbered ss (suc k) x e wants = any-at ss k x e wants

pub pending-wants : (s : Status) → is_pending s ≡ true → wants_content (Some s) ≡ true
pending-wants Pending e = refl
pending-wants (Delivered moment) e = refl
pending-wants (Expanded moment) e = absurd cc
pending-wants (Sent moment peer) e = absurd cc
pending-wants (Reported moment reason diagnostic) e = absurd cc
pending-wants (Affirmed moment) e = absurd cc
pending-wants (Discarded moment) e = absurd cc
pending-wants (Passed moment) e = absurd cc

pub wanted-octets : (named : Bool) (item : ItemValue) → list_any wants_content item.statuses ≡ true
    → kept_octets named item ≡ item.octets
wanted-octets named item wants =
    ap (λ (b : Bool). cond (is_message (value_of item.octets) && not (b || named))
    (emptied (value_of item.octets) item.octets) item.octets) wants
    ∙ unspent (is_message (value_of item.octets))
  where
    unspent : (a : Bool) → cond (a && false) (emptied (value_of item.octets) item.octets) item.octets ≡ item.octets
    unspent true = refl
    unspent false = refl

-- ---- what is transferred

-- the item of a number, as the snapshot has it
pub record IsBegunOf (o : Option ItemValue) (x : ItemValue) : Type 0 where
  pub named : Bool
  pub is : o ≡ Some (item_begun (recorded_item named x))

get-begun : (lines : List MailboxLine) (n : ℕ) (items : List ItemValue) (k : ℕ) (x : ItemValue)
    → slice_get items k ≡ Some x → IsBegunOf (slice_get (begun_from lines n items) k) x
get-begun lines n [] k x e = absurd cc
get-begun lines n (y ∷ items) zero x e = record {
  named = is_named lines n;
  is = ap (λ (z : ItemValue). Some (item_begun (recorded_item (is_named lines n) z))) (same y x e);
}
  where
    same : (a b : ItemValue) → Some a ≡ Some b → a ≡ b
    same a b f = cc
get-begun lines n (y ∷ items) (suc k) x e = get-begun lines (suc n) items k x e

pub numbered-begun : (s : State) (n : ℕ) (x : ItemValue) → numbered s.machine.items n ≡ Some x
    → IsBegunOf (numbered (begun_items s) n) x
numbered-begun s zero x e = absurd cc
numbered-begun s (suc k) x e = get-begun s.machine.mailboxes 1 s.machine.items k x e

relay-octets : (format : ℕ) (text : Option (List ℕ)) (old new : ItemValue) (r d : ℕ) → new.octets ≡ old.octets
    → new.arrival ≡ old.arrival → relay_on format text (Some new) r d ≡ relay_on format text (Some old) r d
relay-octets format None old new r d octets arrival = refl
relay-octets format (Some text) old new r d octets arrival =
    ap (λ (o : List ℕ). relay_on format (Some text) (Some (record new { octets = o })) r d) octets
    ∙ ap (λ (a : ℕ). relay_on format (Some text) (Some (record old { arrival = a })) r d) arrival

-- who is pending of an item relays as before
relay-same : (s : State) (format t i r d : ℕ) (peer : List ℕ) → is_pending_at s.machine i r ≡ true
    → relay_at s.machine format t i r d ≡ Some peer
    → relay_at (machine_begun (snapshot_of s)) format t i r d ≡ Some peer
relay-same s format t i r d peer pending e =
    let p = pending-is (status_at s.machine i r) pending in
    let f = item-of (numbered s.machine.items i) r (Some p.0) p.1 in
    let k = numbered-begun s i f.0 f.1 in
    let same : kept_octets k.named f.0 ≡ f.0.octets =
    wanted-octets k.named f.0 (any-numbered f.0.statuses r (Some p.0) f.2 (pending-wants p.0 p.2)) in
    ap (λ (o : Option ItemValue). relay_on format (numbered s.machine.tables t) o r d) k.is
    ∙ (relay-octets format (numbered s.machine.tables t) f.0 (item_begun (recorded_item k.named f.0)) r d same refl
    ∙ (ap (λ (o : Option ItemValue). relay_on format (numbered s.machine.tables t) o r d) (sym f.1) ∙ e))

decided-still : (s : State) (lane : Lane)
    → (is_transferring lane.sending ≡ true → (i r : ℕ) → is_for i r lane.transfer ≡ true
    → is_pending_at s.machine i r ≡ true)
    → IsDecided s.machine s.moment lane → IsDecided (machine_begun (snapshot_of s)) s.moment lane
decided-still s lane pending was moves = by_transfer lane.transfer (pending moves) (was moves)
  where
    by_transfer : (o : Option Transfer) → ((i r : ℕ) → is_for i r o ≡ true → is_pending_at s.machine i r ≡ true)
        → IsDecidedFor s.machine s.moment lane.peer o
        → IsDecidedFor (machine_begun (snapshot_of s)) s.moment lane.peer o
    by_transfer None p d = absurd d
    by_transfer (Some t) p d = (
      d.0,
      d.1,
      d.2,
      d.3,
      λ r named. relay-same s t.format t.tables t.item r t.moment lane.peer
          (p t.item r (and_from (eqb t.item t.item) (names t.recipients r) (eq-eqb t.item t.item refl) named))
          (d.4 r named),
    )

-- each lane of a list, which stands in it
each-decided : (s : State) → IsKept s → (lanes : List Lane)
    → EachLane (λ l. is_transferring l.sending ≡ true → (i r : ℕ) → is_for i r l.transfer ≡ true
    → is_pending_at s.machine i r ≡ true) lanes
    → EachLane (IsDecided s.machine s.moment) lanes
    → EachLane (IsDecided (machine_begun (snapshot_of s)) s.moment) lanes
each-decided s kept [] pending each = tt
each-decided s kept (l ∷ lanes) pending each =
    (decided-still s l pending.0 each.0, each-decided s kept lanes pending.1 each.1)

pub compaction_keeps : CompactionKeeps
compaction_keeps s kept sound short = record {
  in_time = omega arith;
  numbered_lanes = kept.numbered_lanes;
  one_activity = λ i r. subst (λ (o : Option (Option Status)). activities_of s.lanes.open_lanes i r
      ≤ cond (has_status is_pending o) 1 0) (sym (same-status s i r sound short)) (kept.one_activity i r);
  dropped = each-weaker (IsDroppedReported s.machine) (IsDroppedReported (machine_begun (snapshot_of s)))
      s.lanes.open_lanes
      (λ l was drops i r has. ap (has_status is_reported) (same-status s i r sound short) ∙ was drops i r has)
      kept.dropped;
  whole = kept.whole;
  filled = kept.filled;
  decided = each-decided s kept s.lanes.open_lanes
      (each-weaker (λ l. lane_at l.number s.lanes.open_lanes ≡ Some l)
      (λ l. is_transferring l.sending ≡ true → (i r : ℕ) → is_for i r l.transfer ≡ true
      → is_pending_at s.machine i r ≡ true) s.lanes.open_lanes
      (λ l found moves i r has. held-pending s l.number l i r found kept
      (and_from (is_transferring l.sending) (is_for i r l.transfer) moves has))
      (each-found 0 s.lanes.open_lanes s.lanes.count kept.numbered_lanes))
      kept.decided;
  recorded = kept.recorded;
  at_first = λ e. absurd (true≢false e);
}
