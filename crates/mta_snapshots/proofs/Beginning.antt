-- What a snapshot has by its form, and when a history may begin with it.
use Rattle.std.proofs.Common.{◌≡◌, ℕ, ◌≤◌, Bool, true, false, eqb, List, [], ◌∷◌, length, Option}
use Rattle.std.proofs.Common.{Some}
use Rattle.std.proofs.Common.{None, refl, sym, ap, subst, ◌∙◌, arith, inl, inr}
use Rattle.std.specs.Prelude.{◌↔◌, ◌⊎◌, count_by}
use Rattle.std.specs.List.{AllByRecursion}
use Rattle.std.proofs.lemmas.Bool.{eqb-true, or_cases, true≢false}
use Rattle.mta_ber.specs.Times.{last_moment}
use Rattle.mta_lane_recv.specs.declared.state.Last.{Last}
use Rattle.mta_lane_recv.specs.declared.state.Last.TheVariants as last
use Rattle.mta_lane_recv.specs.Half.{IsOfHigh}
use Rattle.mta_lane_send.specs.declared.state.SendState.{SendState}
use Rattle.mta_lane_send.specs.declared.state.SendState.TheVariants.{Idle, Sending, Ending, Dropping}
use Rattle.mta_lane_send.specs.Half.{is_idle, last_of}
use Rattle.mta_records.specs.Body.{HasFields}
use Rattle.mta_records.specs.Snapshots.{SendingHalf, ReceivingHalf, item_form, lane_form, sending_form, receiving_form}
use Rattle.mta_records.specs.Snapshots.{some_pieces, has_some, is_format, a_snapshot}
use Rattle.mta_records.specs.State.{Transfer, Lane, RecordedItem, SnapshotValue}
use Rattle.mta_records.specs.declared.step.Step.TheVariants as step
use Rattle.mta_machine.specs.Items.{ItemValue}
use Rattle.mta_histories.specs.Lanes.{State, empty, EachLane, is_transferring}
use Rattle.mta_records.specs.declared.lane.LaneRole.{LaneRole}
use Rattle.mta_histories.specs.Limits.{is_with, most_lanes}
use Rattle.mta_histories.specs.Kept.{AreNumbered, IsDroppedReported}
use Rattle.mta_histories.specs.Kept.{ArePieces, IsWhole, IsFilled, IsDecided, IsDecidedFor}
use Rattle.mta_histories.specs.Sound.{CanBegin, HasSoundTransfer, IsSoundItem, IsSoundLane}
use Rattle.mta_histories.specs.Sound.{AreApart, IsSoundLine, state_begun}
use Rattle.mta_state.specs.Kept.{state_of}
use Rattle.mta_state.specs.declared.kept.Kept.{Kept}
use Rattle.mta_snapshots.specs.Begins.{Begins, HasForm, IsEachFit, Stands}
use Rattle.mta_snapshots.proofs.Each.{not_so}
use Rattle.mta_snapshots.specs.Fits.{AreListed, FitTogether, HasDifferent, HasRest, IsAtRest}
use Rattle.mta_snapshots.specs.Fits.{IsRecorded, TransfersOnce}
use Rattle.mta_snapshots.specs.Items.{HasStringOf}
use Rattle.mta_snapshots.specs.Lanes.{IsAlone, IsSpelled, IsTold}

-- ---- the form

all_weaker : {A : Type 0} (P Q : A → Type 0) (xs : List A) → ((x : A) → P x → Q x) → AllByRecursion P xs
    → AllByRecursion Q xs
all_weaker P Q [] w each = tt
all_weaker P Q (x ∷ xs) w each = (w x each.0, all_weaker P Q xs w each.1)

item_string : (i : RecordedItem) → item_form.Fits i → HasStringOf i
unfolding item_form
item_string i f = f.0.1.1.0

told : (two : Bool) (s : SendState) (o : Option Transfer) → (sending_form two).Fits (s, o) → IsTold (is_idle s) o
unfolding sending_form
told two (Idle k) None f = tt
told two (Idle k) (Some t) f = let e : None ≡ Some t = ap (λ (h : SendingHalf). h.1) f.1.1 in absurd cc
told two (Sending k c) None f =
    let e : Some _ ≡ None = ap (λ (h : SendingHalf). h.1) f.1.1 in absurd cc
told two (Sending k c) (Some t) f = tt
told two (Ending k c) None f =
    let e : Some _ ≡ None = ap (λ (h : SendingHalf). h.1) f.1.1 in absurd cc
told two (Ending k c) (Some t) f = tt
told two (Dropping k) None f =
    let e : Some _ ≡ None = ap (λ (h : SendingHalf). h.1) f.1.1 in absurd cc
told two (Dropping k) (Some t) f = tt

of_high : (high : ℕ) (l : Last) (pieces : List (List ℕ)) → receiving_form.Fits (high, (l, pieces)) → IsOfHigh high l
unfolding receiving_form
of_high high last.None pieces f = tt
of_high high (last.Partial k p) pieces f =
    let e : last.Partial high (length pieces) ≡ last.Partial k p = ap (λ (h : ReceivingHalf). h.1.0) f.1.1 in cc
of_high high (last.Done k) pieces f =
    let e : last.Done high ≡ last.Done k = ap (λ (h : ReceivingHalf). h.1.0) f.1.1 in cc

some_are : (pieces : List (List ℕ)) → has_some pieces ≡ true → 1 ≤ length pieces
some_are [] e = absurd cc
some_are (x ∷ xs) e = omega arith

pieces_are : (high : ℕ) (l : Last) (pieces : List (List ℕ)) → receiving_form.Fits (high, (l, pieces))
    → ArePieces l pieces
unfolding receiving_form some_pieces
pieces_are high last.None pieces f = sym (ap (λ (h : ReceivingHalf). h.1.1) f.1.1)
pieces_are high (last.Partial k p) pieces f =
    let e : last.Partial high (length pieces) ≡ last.Partial k p = ap (λ (h : ReceivingHalf). h.1.0) f.1.1 in
    let count : length pieces ≡ p = cc in
    let some = some_are pieces f.1.0.1.1 in
    (omega (arith, count, some), count)
pieces_are high (last.Done k) pieces f = sym (ap (λ (h : ReceivingHalf). h.1.1) f.1.1)

lane_spelled : (two : Bool) (l : Lane) → (lane_form two).Fits l → IsSpelled l
unfolding lane_form
lane_spelled two l f = record {
  high = of_high l.high l.last l.pieces f.0.1.1.1.1;
  pieces = pieces_are l.high l.last l.pieces f.0.1.1.1.1;
  transfer = told two l.sending l.transfer f.0.1.1.1.0;
}

pub has_form : (t : SnapshotValue) → HasFields (step.Snapshot t) → HasForm t
unfolding a_snapshot
has_form t f = record {
  moment = f.1.0.0;
  format = f.0.1;
  strings = all_weaker item_form.Fits HasStringOf t.items item_string f.1.0.1.1.0.1;
  spelled = all_weaker (lane_form (eqb t.format 2)).Fits IsSpelled t.lanes (lane_spelled (eqb t.format 2))
      f.1.0.1.1.1.1.1.1;
}

-- ---- each lane

to_each : (P : Lane → Type 0) (ls : List Lane) → AllByRecursion P ls → EachLane P ls
to_each P [] each = tt
to_each P (l ∷ ls) each = (each.0, to_each P ls each.1)

to_all : (P : Lane → Type 0) (ls : List Lane) → EachLane P ls → AllByRecursion P ls
to_all P [] each = tt
to_all P (l ∷ ls) each = (each.0, to_all P ls each.1)

both : (P Q R : Lane → Type 0) (ls : List Lane) → ((l : Lane) → P l → Q l → R l) → EachLane P ls → EachLane Q ls
    → EachLane R ls
both P Q R [] w p q = tt
both P Q R (l ∷ ls) w p q = (w l p.0 q.0, both P Q R ls w p.1 q.1)

three : (P Q R S : Lane → Type 0) (ls : List Lane) → ((l : Lane) → P l → Q l → R l → S l) → EachLane P ls
    → EachLane Q ls → EachLane R ls → EachLane S ls
three P Q R S [] w p q r = tt
three P Q R S (l ∷ ls) w p q r = (w l p.0 q.0 r.0, three P Q R S ls w p.1 q.1 r.1)

each_as : (P Q : Lane → Type 0) (ls : List Lane) → ((l : Lane) → P l → Q l) → EachLane P ls → EachLane Q ls
each_as P Q [] w p = tt
each_as P Q (l ∷ ls) w p = (w l p.0, each_as P Q ls w p.1)

-- ---- what is transferred

busy : (s : SendState) → is_transferring s ≡ true → is_idle s ≡ false
busy (Idle k) e = absurd cc
busy (Sending k c) e = refl
busy (Ending k c) e = refl
busy (Dropping k) e = absurd cc

not_told : (idle : Bool) → idle ≡ false → IsTold idle None → ⊥
not_told true e t = true≢false e
not_told false e t = t

nothing_told : (idle : Bool) → IsTold idle None → idle ≡ true
nothing_told true t = refl
nothing_told false t = absurd t

something_told : (idle : Bool) (t : Transfer) → IsTold idle (Some t) → idle ≡ false
something_told true t e = absurd e
something_told false t e = refl

module _ (s : State) (lane : Lane) where
  decided_for : (o : Option Transfer) → IsTold (is_idle lane.sending) o
      → (is_transferring lane.sending ≡ true → HasDifferent o) → HasRest s lane o
      → is_transferring lane.sending ≡ true → IsDecidedFor s.machine s.moment lane.peer o
  decided_for None told_so once rest moves = not_told (is_idle lane.sending) (busy lane.sending moves) told_so
  decided_for (Some t) told_so once rest moves =
      let goes = rest.goes moves in
      (goes.some_recipients, once moves, rest.placed.timely, rest.placed.format.1, goes.relayed)

  decided_so : IsSpelled lane → TransfersOnce lane → IsAtRest s lane → IsDecided s.machine s.moment lane
  decided_so spelled once rest moves = decided_for lane.transfer spelled.transfer once rest moves

  sound_for : IsAlone lane → (o : Option Transfer) → IsTold (is_idle lane.sending) o → HasRest s lane o
      → HasSoundTransfer s lane o
  sound_for alone None told_so rest = nothing_told (is_idle lane.sending) told_so
  sound_for alone (Some t) told_so rest =
      let live = something_told (is_idle lane.sending) t told_so in
      let placed = rest.placed in (
        live,
        record {
          activity = alone.activity live;
          item = placed.item;
          tables = placed.tables;
          format = placed.format;
          timely = placed.timely;
          copy = λ moves. (rest.goes moves).copy;
        },
      )

  sound_lane : IsAlone lane → IsSpelled lane → IsAtRest s lane → IsSoundLane s lane
  sound_lane alone spelled rest = record {
    responder = alone.filled.responder;
    before_agreed = λ e. (alone.whole.before_agreed e, alone.before_agreed e);
    transfer = sound_for alone lane.transfer spelled.transfer rest;
    pieces = alone.pieces;
  }

  under_way : (o : Option Transfer) → HasSoundTransfer s lane o → is_idle lane.sending ≡ false
      → 1 ≤ last_of lane.sending
  under_way None sound live = absurd (true≢false (sym sound ∙ live))
  under_way (Some t) sound live = sound.1.activity

  alone_so : IsWhole lane → IsFilled lane → IsSoundLane s lane → IsAlone lane
  alone_so whole filled sound = record {
    whole = whole;
    filled = filled;
    before_agreed = λ e. (sound.before_agreed e).1;
    activity = under_way lane.transfer sound.transfer;
    pieces = sound.pieces;
  }

  rest_for : (o : Option Transfer) → HasSoundTransfer s lane o
      → (is_transferring lane.sending ≡ true → IsDecidedFor s.machine s.moment lane.peer o) → HasRest s lane o
  rest_for None sound decided = tt
  rest_for (Some t) sound decided =
      let is = sound.1 in
      record {
        placed = record { item = is.item; tables = is.tables; format = is.format; timely = is.timely };
        goes = λ moves. record {
          some_recipients = (decided moves).0;
          relayed = (decided moves).4;
          copy = is.copy moves;
        };
      }

  rest_so : IsSoundLane s lane → IsDecided s.machine s.moment lane → IsAtRest s lane
  rest_so sound decided = rest_for lane.transfer sound.transfer decided

  once_for : (o : Option Transfer) → IsDecidedFor s.machine s.moment lane.peer o → HasDifferent o
  once_for None decided = tt
  once_for (Some t) decided = decided.1

  once_so : IsDecided s.machine s.moment lane → TransfersOnce lane
  once_so decided moves = once_for lane.transfer (decided moves)

-- ---- the whole

format_is : (n : ℕ) → is_format n ≡ true → (n ≡ 1) ⊎ (n ≡ 2)
format_is n e = elim (or_cases (eqb n 1) (eqb n 2) e) [
  | inl one ↦ inl (eqb-true n 1 one)
  | inr two ↦ inr (eqb-true n 2 two)
]

module _ (t : SnapshotValue) where
  abbrev s : State
  s = state_begun t

  pub can_begin : HasForm t → IsEachFit t → FitTogether s → CanBegin empty t t.moment
  can_begin form each fit = record {
    now = refl;
    first = refl;
    codes = each.codes;
    kept = record {
      in_time = omega arith;
      numbered_lanes = fit.listed.numbered_lanes;
      one_activity = fit.once.once;
      dropped = fit.listed.dropped;
      whole = to_each IsWhole t.lanes (all_weaker IsAlone IsWhole t.lanes (λ l a. a.whole) each.lanes);
      filled = to_each IsFilled t.lanes (all_weaker IsAlone IsFilled t.lanes (λ l a. a.filled) each.lanes);
      decided = three IsSpelled TransfersOnce (IsAtRest s) (IsDecided s.machine s.moment) t.lanes (decided_so s)
          (to_each IsSpelled t.lanes form.spelled) fit.once.different fit.transfers;
      recorded = fit.listed.recorded.lanes;
      at_first = λ e. absurd (true≢false e);
    };
    sound = record {
      format = format_is t.format form.format;
      texts = fit.texts;
      recorded = fit.listed.recorded.items;
      items = each.items;
      lines = fit.listed.lines;
      lanes = three IsAlone IsSpelled (IsAtRest s) (IsSoundLane s) t.lanes (sound_lane s)
          (to_each IsAlone t.lanes each.lanes) (to_each IsSpelled t.lanes form.spelled) fit.transfers;
      few = fit.listed.few;
      apart = fit.listed.apart;
    };
  }

  pub each_fit : CanBegin empty t t.moment → IsEachFit t
  each_fit can = record {
    codes = can.codes;
    items = can.sound.items;
    lanes = to_all IsAlone t.lanes
        (three IsWhole IsFilled (IsSoundLane s) IsAlone t.lanes (alone_so s) can.kept.whole can.kept.filled
        can.sound.lanes);
  }

  pub fit : CanBegin empty t t.moment → FitTogether s
  fit can = record {
    listed = record {
      recorded = record { items = can.sound.recorded; lanes = can.kept.recorded };
      lines = can.sound.lines;
      numbered_lanes = can.kept.numbered_lanes;
      few = can.sound.few;
      apart = can.sound.apart;
      dropped = can.kept.dropped;
    };
    texts = can.sound.texts;
    transfers = both (IsSoundLane s) (IsDecided s.machine s.moment) (IsAtRest s) t.lanes (rest_so s) can.sound.lanes
        can.kept.decided;
    once = record {
      different = each_as (IsDecided s.machine s.moment) TransfersOnce t.lanes (once_so s) can.kept.decided;
      once = can.kept.one_activity;
    };
  }

-- ---- what is tested of a state

pub listed_is : (s : State) (b : Bool) → IsRecorded s → AllByRecursion (IsSoundLine s) s.machine.mailboxes
    → AreNumbered 0 s.lanes.open_lanes s.lanes.count
    → ((role : LaneRole) (peer : List ℕ) → count_by (is_with role peer) s.lanes.open_lanes ≤ most_lanes)
    → AreApart s.lanes.open_lanes → (b ≡ true) ↔ EachLane (IsDroppedReported s.machine) s.lanes.open_lanes
    → (b ≡ true) ↔ AreListed s
listed_is s b recorded lines numbers few apart test = (
  λ e. record {
    recorded = recorded;
    lines = lines;
    numbered_lanes = numbers;
    few = few;
    apart = apart;
    dropped = test.0 e;
  },
  λ listed. test.1 listed.dropped,
)

pub listed_not : (s : State) (P : Type 0) (b : Bool) → (b ≡ true) ↔ P → b ≡ false → (AreListed s → P)
    → (false ≡ true) ↔ AreListed s
listed_not s P b test isnt gives = (λ e. absurd cc, λ listed. absurd (not_so b test isnt (gives listed)))

-- ---- the state in memory

pub none_stands : (t : SnapshotValue) → Stands t None → Begins t None
none_stands t never can = never (each_fit t can)

module _ (t : SnapshotValue) (form : HasForm t) (k : Kept) (stands : Stands t (Some k)) where
  pub have_arrived : AllByRecursion (λ (item : ItemValue). item.arrival ≤ last_moment) k.parts.items.items
  have_arrived =
      subst (λ (x : State). AllByRecursion (λ (item : ItemValue). item.arrival ≤ last_moment) x.machine.items)
      (sym stands.1)
      (all_weaker (IsSoundItem t.moment) (λ (item : ItemValue). item.arrival ≤ last_moment) (s t).machine.items
      (λ item sound. let arrived = sound.arrived in let moment = form.moment in omega (arith, arrived, moment))
      stands.0.items)

  pub moment_fits : k.moment ≤ last_moment
  moment_fits =
      let same : k.moment ≡ t.moment = ap (λ (x : State). x.moment) stands.1 in
      let moment = form.moment in
      omega (arith, same, moment)

  pub does_begin : (b : Bool) → (b ≡ true) ↔ FitTogether (state_of k) → b ≡ true → Begins t (Some k)
  does_begin b test does =
      (can_begin t form stands.0 (subst FitTogether stands.1 (test.0 does)), stands.1)

  pub does_not : (b : Bool) → (b ≡ true) ↔ FitTogether (state_of k) → b ≡ false → Begins t None
  does_not b test isnt can = not_so b test isnt (subst FitTogether (sym stands.1) (fit t can))
