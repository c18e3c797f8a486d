-- When an activity may be started, and what that changes.
use Rattle.std.proofs.Common.{◌≡◌, ◌≤◌, ◌<◌, ◌+◌, ◌^◌, ℕ, Bool, true, false, List, [], ◌∷◌}
use Rattle.std.proofs.Common.{length, take, get_or, Option, Some, None, refl, sym, ap, subst, ◌∙◌, arith}
use Rattle.std.proofs.Common.{zero, suc, eqb, inl, inr}
use Rattle.std.specs.Prelude.{◌↔◌, ◌⊎◌}
use Rattle.std.proofs.lemmas.Bool.{eq-eqb, or_left, or_right}
use Rattle.std.proofs.lemmas.List.{take_all, take_more}
use Rattle.std.proofs.lemmas.Option.{same_Some}
use Rattle.mta_lane_send.specs.declared.state.SendState.TheVariants.{Sending}
use Rattle.mta_lane_send.specs.Half.{last_of}
use Rattle.mta_records.specs.declared.step.Step.TheVariants as steps
use Rattle.mta_machine.specs.Items.{AreDifferent, ItemValue, Machine, names, numbered}
use Rattle.mta_machine.specs.Rules.{outgoing_copy, verdict_of}
use Rattle.mta_machine.specs.Machine.{last_tables, relay_on}
use Rattle.mta_machine.proofs.Copies.{copies_are_made}
use Rattle.mta_machine.proofs.Decided.{relay-verdict}
use Rattle.mta_procedures.specs.declared.verdict.Verdict.TheVariants as Verdicts
use Rattle.mta_histories.specs.Lanes.{Lane, State, Transfer, lane_at}
use Rattle.mta_histories.specs.Classes.{start}
use Rattle.mta_histories.specs.History.{CanStart, copied, octets_of, transfer_of}
use Rattle.mta_histories.specs.Due.{IsToRelay}
use Rattle.mta_histories.proofs.Keeps.{start-octets}
use Rattle.mta_lanes.specs.declared.change.LaneChange.TheVariants as lane_change
use Rattle.mta_dues.proofs.Ascending.{named_more}
use Rattle.mta_state.specs.declared.kept.Kept.{Kept}
use Rattle.mta_state.specs.declared.change.Change.{Change}
use Rattle.mta_state.specs.declared.change.Change.TheVariants as change
use Rattle.mta_state.specs.Asked.{Relays}
use Rattle.mta_state.specs.Kept.{state_of}
use Rattle.mta_state.specs.Prepared.{IsChangeOf, Prepares}
use Rattle.mta_state.proofs.OnLane.{on_lane_change}
use Rattle.mta_replay.specs.Starting.{AreToRelay, FreeFor, IsFreeFor, IsNextOn, IsStartable, MayStartNext, OneOf}
use Rattle.mta_replay.specs.Starting.{TransfersNext}

-- ---- the lane

module _ (s : State) (n g moment : ℕ) where
  pub no_lane : None ≡ lane_at n s.lanes.open_lanes → FreeFor s n g moment None
  no_lane none lane may = let both : None ≡ Some lane = none ∙ may.found in absurd cc

  pub not_free : (lane : Lane) (b : Bool) → Some lane ≡ lane_at n s.lanes.open_lanes
      → (b ≡ true) ↔ IsStartable lane g → (moment < s.moment) ⊎ (b ≡ false) → FreeFor s n g moment None
  not_free lane b found same (inl early) other may = let timely = may.timely in absurd (omega (arith, early, timely))
  not_free lane b found same (inr isnt) other may =
      let here : other ≡ lane = same_Some other lane (sym may.found ∙ sym found) in
      let does : b ≡ true = same.1 (subst (λ (l : Lane). IsStartable l g) here may.startable) in
      absurd cc

  pub is_free : (lane : Lane) (b : Bool) → Some lane ≡ lane_at n s.lanes.open_lanes
      → (b ≡ true) ↔ IsStartable lane g → s.moment ≤ moment → b ≡ true → FreeFor s n g moment (Some lane)
  is_free lane b found same timely does =
      record { found = sym found; startable = same.0 does; timely = timely }

-- ---- the recipients

named_at : (xs : List ℕ) (i d : ℕ) → i < length xs → names xs (get_or xs i d) ≡ true
named_at [] i d p = absurd (omega (arith, p))
named_at (x ∷ xs) zero d p = or_left (eqb x x) (names xs x) (eq-eqb x x refl)
named_at (x ∷ xs) (suc i) d p =
    let more = named_at xs i d (omega (arith, p)) in
    or_right (eqb (get_or xs i d) x) (names xs (get_or xs i d)) more

module _ (s : State) (peer : List ℕ) (moment i : ℕ) (xs : List ℕ) where
  pub relays_at_start : AreToRelay s peer moment i (take 0 xs)
  relays_at_start r e = absurd cc

  pub relays_further : (k x : ℕ) (b : Bool) → k < length xs → x ≡ get_or xs k x
      → (b ≡ true) ↔ IsToRelay s peer moment i x → b ≡ true → AreToRelay s peer moment i (take k xs)
      → AreToRelay s peer moment i (take (k + 1) xs)
  relays_further k x b within is same does each r named =
      at (named_more (take k xs) (get_or xs k x) r
      (subst (λ (ys : List ℕ). names ys r ≡ true) (take_more xs k x within) named))
    where
      at : (names (take k xs) r ≡ true) ⊎ (r ≡ get_or xs k x) → IsToRelay s peer moment i r
      at (inl before) = each r before
      at (inr last) = subst (λ (q : ℕ). IsToRelay s peer moment i q) (is ∙ sym last) (same.0 does)

  pub relays_not : (k x : ℕ) (b : Bool) → k < length xs → x ≡ get_or xs k x
      → (b ≡ true) ↔ IsToRelay s peer moment i x → b ≡ false
      → (false ≡ true) ↔ AreToRelay s peer moment i xs
  relays_not k x b within is same isnt = (
    λ e. absurd cc,
    λ each.
        let named : names xs x ≡ true =
        subst (λ (q : ℕ). names xs q ≡ true) (sym is) (named_at xs k x within) in
        let does : b ≡ true = same.1 (each x named) in
        absurd cc,
  )

  pub relays_all : (k : ℕ) → length xs ≤ k → AreToRelay s peer moment i (take k xs)
      → (true ≡ true) ↔ AreToRelay s peer moment i xs
  relays_all k past each =
      (λ e. subst (AreToRelay s peer moment i) (take_all k xs past) each, λ all. refl)

module _ (s : State) (peer : List ℕ) (moment i : ℕ) where
  pub nobody_goes : (rs : List ℕ) → rs ≡ [] → OneOf s peer moment i rs None
  nobody_goes rs none may = may.some_recipients none

  pub twice_goes : (rs : List ℕ) (b : Bool) → (b ≡ true) ↔ AreDifferent rs → b ≡ false
      → OneOf s peer moment i rs None
  twice_goes rs b same isnt may = let does : b ≡ true = same.1 may.different in absurd cc

  pub some_stays : (rs : List ℕ) (b : Bool) → (b ≡ true) ↔ AreToRelay s peer moment i rs → b ≡ false
      → OneOf s peer moment i rs None
  some_stays rs b same isnt may = let does : b ≡ true = same.1 may.each in absurd cc

  pub first_goes : (rs rest : List ℕ) (first : ℕ) (a b : Bool) → rs ≡ first ∷ rest
      → (a ≡ true) ↔ AreDifferent rs → a ≡ true
      → (b ≡ true) ↔ AreToRelay s peer moment i rs → b ≡ true
      → OneOf s peer moment i rs (Some first)
  first_goes rs rest first a b is different are each relay = (
    record {
      some_recipients = λ none. let both : first ∷ rest ≡ [] = sym is ∙ none in absurd cc;
      different = different.0 are;
      each = each.0 relay;
    },
    subst (λ (ys : List ℕ). names ys first ≡ true) (sym is)
        (or_left (eqb first first) (names rest first) (eq-eqb first first refl)),
  )

-- ---- what is transferred

copied_is : (m : Machine) (i : ℕ) (rs : List ℕ) (moment : ℕ) (text : List ℕ) (item : ItemValue)
    (octets : List ℕ) → numbered m.tables (last_tables m) ≡ Some text → numbered m.items i ≡ Some item
    → Some octets ≡ outgoing_copy text item.octets item.arrival rs moment
    → octets ≡ copied (numbered m.tables (last_tables m)) (numbered m.items i) rs moment
copied_is m i rs moment text item octets text_is item_is copy =
    ap octets_of copy
    ∙ (ap (λ (o : Option ItemValue). copied (Some text) o rs moment) (sym item_is)
    ∙ ap (λ (o : Option (List ℕ)). copied o (numbered m.items i) rs moment) (sym text_is))

pub transfer_is : (m : Machine) (i : ℕ) (rs : List ℕ) (moment tables format : ℕ) (text : List ℕ) (item : ItemValue)
    (octets : List ℕ) → format ≡ m.format → numbered m.tables (last_tables m) ≡ Some text → numbered m.items i
    ≡ Some item
    → Some octets ≡ outgoing_copy text item.octets item.arrival rs moment → tables ≡ length m.tables
    → record { item = i; recipients = rs; moment = moment; tables = tables; format = format; octets = octets }
    ≡ transfer_of m i rs moment
transfer_is m i rs moment tables format text item octets format_is text_is item_is copy count =
    ap (λ (t : ℕ). made t format octets) count
    ∙ (ap (λ (f : ℕ). made (length m.tables) f octets) format_is
    ∙ ap (λ (o : List ℕ). made (length m.tables) m.format o)
    (copied_is m i rs moment text item octets text_is item_is copy))
  where
    made : ℕ → ℕ → List ℕ → Transfer
    made t f o = record { item = i; recipients = rs; moment = moment; tables = t; format = f; octets = o }

-- ---- whether the next one may be started

module _ (k : Kept) (n g i : ℕ) (rs : List ℕ) (moment : ℕ) where
  pub no_transfer_open : FreeFor (state_of k) n g moment None → TransfersNext (state_of k) n g i rs moment None
  no_transfer_open never =
      λ may.
      never may.lane (record {
        found = may.lane_is;
        startable = record { current = may.current; agreed = may.can.agreed; idle = may.can.idle };
        timely = may.timely;
      })

  pub no_transfer_item : None ≡ numbered k.parts.items.items i → TransfersNext (state_of k) n g i rs moment None
  no_transfer_item none =
      λ may. let both : None ≡ Some may.can.item = none ∙ may.can.item_is in absurd cc

  module _ (lane : Lane) (may : IsFreeFor (state_of k) n g moment lane) where
    pub no_transfer_recipients : (peer : List ℕ) → peer ≡ lane.peer
        → OneOf (state_of k) peer moment i rs None → TransfersNext (state_of k) n g i rs moment None
    no_transfer_recipients peer is never =
        λ next.
        let here : next.lane ≡ lane = same_Some next.lane lane (sym next.lane_is ∙ may.found) in
        let peers : next.lane.peer ≡ peer = ap (λ (l : Lane). l.peer) here ∙ sym is in
        never (record {
          some_recipients = next.can.some_recipients;
          different = next.can.different;
          each = λ r named. record {
            waiting = record { pending = next.can.pending r named; free = next.can.free r named };
            relayed = next.can.relayed r named ∙ ap (λ (p : List ℕ). Some p) peers;
          };
        })

    module _ (peer text : List ℕ) (item : ItemValue) (format one : ℕ) (peer_is : peer ≡ lane.peer)
        (format_is : format ≡ k.parts.format)
        (text_is : numbered k.parts.texts.items (length k.parts.texts.items) ≡ Some text)
        (item_is : Some item ≡ numbered k.parts.items.items i)
        (goes : OneOf (state_of k) peer moment i rs (Some one))
      where
        -- the verdict on one of those who go relays
        pub one_relays : Relays (verdict_of format text item.octets item.arrival one moment)
        one_relays =
            relay-verdict text (verdict_of format text item.octets item.arrival one moment) peer
            (ap (λ (f : ℕ). relay_on f (Some text) (Some item) one moment) format_is
            ∙ (sym (ap (λ (o : Option (List ℕ)).
            relay_on k.parts.format o (numbered k.parts.items.items i) one moment) text_is
            ∙ ap (λ (o : Option ItemValue). relay_on k.parts.format (Some text) o one moment) (sym item_is))
            ∙ (goes.0.each one goes.1).relayed))

        -- and so there is a copy for them
        copy_made : (copy : List ℕ) × (outgoing_copy text item.octets item.arrival rs moment ≡ Some copy)
        copy_made =
            copies_are_made format text item.octets item.arrival one moment (Verdicts.Relay one_relays.0) rs moment
            one_relays.1

        may_start : MayStartNext (state_of k) n g i rs moment
        may_start = record {
          lane = lane;
          lane_is = may.found;
          current = may.startable.current;
          timely = may.timely;
          can = record {
            agreed = may.startable.agreed;
            idle = may.startable.idle;
            next = refl;
            some_recipients = goes.0.some_recipients;
            different = goes.0.different;
            pending = λ r named. (goes.0.each r named).waiting.pending;
            free = λ r named. (goes.0.each r named).waiting.free;
            relayed = λ r named. (goes.0.each r named).relayed ∙ ap (λ (p : List ℕ). Some p) peer_is;
            text = text;
            text_is = text_is;
            item = item;
            item_is = sym item_is;
            copy = copy_made.0;
            copy_is = copy_made.1;
          };
        }

        pub transfers_next : (transfer : Transfer) → transfer ≡ transfer_of (state_of k).machine i rs moment
            → TransfersNext (state_of k) n g i rs moment (Some transfer)
        transfers_next transfer is = (may_start, is)

-- ---- the change

-- what may be started may be started as the next number
can_start_as : (s : State) (lane : Lane) (k h i : ℕ) (rs : List ℕ) (moment : ℕ) → k ≡ h → CanStart s lane k i rs moment
    → CanStart s lane h i rs moment
can_start_as s lane k h i rs moment same can = subst (λ (x : ℕ). CanStart s lane x i rs moment) same can

-- what the Start of an activity of the next number changes
pub start_is_change : (s : State) (n g activity i : ℕ) (rs : List ℕ) (moment : ℕ) (transfer : Transfer)
    → MayStartNext s n g i rs moment → IsNextOn (lane_at n s.lanes.open_lanes) activity
    → transfer ≡ transfer_of s.machine i rs moment → activity < 2 ^ 32 → length s.machine.items < 2 ^ 32
    → IsChangeOf s (steps.Start n g activity i rs moment)
    (change.OnLane n (lane_change.Start transfer) (Some moment))
start_is_change s n g activity i rs moment transfer may next is small few =
    on_lane_change s (steps.Start n g activity i rs moment) n (Some g) (start activity i rs) lane
    (lane_change.Start transfer)
    (record {
      class_is = refl;
      found = may.lane_is;
      current = ap (λ (x : ℕ). Some x) may.current;
      needs = can_start_as s lane (last_of lane.sending + 1) activity i rs moment (sym here) may.can;
      quiet = refl;
      after = ap (λ (t : Transfer). started lane t) is;
      stays = refl;
      may = (
        may.can.agreed,
        may.can.idle,
        subst (λ (t : Transfer). 1 ≤ length t.octets) (sym is)
            (start-octets s lane (last_of lane.sending + 1) i rs moment may.can),
        omega (arith, here, small),
      );
      timely = may.timely;
      numbers = few;
    })
  where
    lane : Lane
    lane = may.lane

    here : activity ≡ last_of may.lane.sending + 1
    here = subst (λ (o : Option Lane). IsNextOn o activity) may.lane_is next

    started : Lane → Transfer → Lane
    started l t = record l {
      sending = Sending (last_of l.sending + 1) 0;
      transfer = Some t;
    }

module _ (k : Kept) (n g activity i : ℕ) (rs : List ℕ) (moment : ℕ) where
  pub no_start_number : (b : Bool) → (b ≡ true) ↔ IsNextOn (lane_at n k.lanes.open_lanes.items) activity → b ≡ false
      → Prepares (state_of k) (steps.Start n g activity i rs moment) None
  no_start_number b same isnt =
      λ possible.
      let on = possible.allowed in
      let next : IsNextOn (lane_at n k.lanes.open_lanes.items) activity =
      subst (λ (o : Option Lane). IsNextOn o activity) (sym on.lane_is) on.needs.next in
      let does : b ≡ true = same.1 next in
      absurd cc

  pub no_start : TransfersNext (state_of k) n g i rs moment None
      → Prepares (state_of k) (steps.Start n g activity i rs moment) None
  no_start never =
      λ possible.
      let on = possible.allowed in
      never (record {
        lane = on.lane;
        lane_is = on.lane_is;
        current = same_Some g on.lane.generation on.current;
        timely = possible.timely;
        can =
            let next = last_of on.lane.sending + 1 in
            can_start_as (state_of k) on.lane activity next i rs moment on.needs.next on.needs;
      })

  pub start_changes : (b : Bool) (transfer : Transfer) (made : Change)
      → (b ≡ true) ↔ IsNextOn (lane_at n k.lanes.open_lanes.items) activity → b ≡ true
      → TransfersNext (state_of k) n g i rs moment (Some transfer)
      → made ≡ change.OnLane n (lane_change.Start transfer) (Some moment)
      → activity < 2 ^ 32 → length k.parts.items.items < 2 ^ 32
      → Prepares (state_of k) (steps.Start n g activity i rs moment) (Some made)
  start_changes b transfer made same does may is small few =
      subst (λ (c : Change). IsChangeOf (state_of k) (steps.Start n g activity i rs moment) c) (sym is)
      (start_is_change (state_of k) n g activity i rs moment transfer may.0 (same.0 does) may.1 small few)

pub ruleset idle_laws = (no_lane, not_free, is_free)

pub ruleset each_laws = (relays_at_start, relays_further, relays_not, relays_all)

pub ruleset one_laws = (nobody_goes, twice_goes, some_stays, first_goes)

pub ruleset transfer_laws = (no_transfer_open, no_transfer_item, no_transfer_recipients, one_relays, transfers_next)

pub ruleset start_laws = (no_start_number, no_start, start_changes)
