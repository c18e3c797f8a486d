-- The recipients of an activity that failed, one after the other.
use Rattle.std.proofs.Common.{◌≡◌, ◌≤◌, ◌<◌, ◌+◌, ◌^◌, ℕ, List, [], ◌∷◌, ◌++◌}
use Rattle.std.proofs.Common.{length, map, take, drop, get_or, Option, Some, None, option_map, option_to_list}
use Rattle.std.proofs.Common.{refl, sym, ap, subst, ◌∙◌, arith, length-append}
use Rattle.std.specs.Global.{Vec}
use Rattle.std.proofs.lemmas.List.{drop_more, length-map, map-append, take-append-drop, take_all, take_more}
use Rattle.mta_apdu.specs.Apdus.{ApduValue}
use Rattle.mta_records.specs.declared.state.Status.{Status}
use Rattle.mta_machine.specs.Items.{ItemValue, Machine, numbered, set_numbered}
use Rattle.mta_machine.specs.Rules.{Failure, diagnostic_of, non_delivery_report, reason_of}
use Rattle.mta_machine.specs.Machine.{MachineStep, discharge, discharged_item, failed, items_after, last_tables}
use Rattle.mta_machine.specs.Machine.{machine_after, machine_run, made_for, own_item}
use Rattle.mta_machine.proofs.Later.{items-grow, length-set_numbered, machine_run-append}
use Rattle.mta_machine.proofs.Numbered.{numbered-front, set-same}
use Rattle.mta_state.specs.declared.change.Settlement.{Settlement}
use Rattle.mta_state.specs.Kept.{settled_one}
use Rattle.mta_state.specs.Settling.{IsDischarge}
use Rattle.mta_state.proofs.Discharging.{discharged}
use Rattle.mta_state.specs.Parts.{settled_machine}
use Rattle.mta_replay.specs.Failures.{AreFailed, FailAll, Fails, IsFailed, fail_each, report_of}
use Rattle.mta_replay.proofs.Changing.{one_more}
use Rattle.mta_replay.proofs.Reports.{reported_anyway, same_report}

abbrev with_statuses_of : ItemValue → List (Option Status) → ItemValue
with_statuses_of item ss = record item { statuses = ss }

-- what stays where recipients of an item fail: the tables, and the item with its APDU
record Stays (m now : Machine) (i : ℕ) (item : ItemValue) : Type 0 where
  pub tables : now.tables ≡ m.tables
  pub statuses : List (Option Status)
  pub item_is : numbered now.items i ≡ Some (with_statuses_of item statuses)

after_one : (m : Machine) (i : ℕ) (item : ItemValue) (r : ℕ) (failure : Failure) (moment : ℕ)
    → numbered m.items i ≡ Some item
    → numbered (machine_after m (discharge i (r ∷ []) (failed failure) moment)).items i
    ≡ Some (discharged_item item (r ∷ []) (failed failure) moment)
after_one m i item r failure moment is =
    let new : ItemValue = discharged_item item (r ∷ []) (failed failure) moment in
    ap (λ (o : Option ItemValue). numbered (items_after m o i (r ∷ []) (failed failure) moment) i) is
    ∙ numbered-front (set_numbered m.items i new)
    (map (own_item moment)
    (made_for m item (numbered m.tables (last_tables m)) (r ∷ []) (failed failure) moment)) i new
    (set-same m.items i new item is)

stays : (rs : List ℕ) (m : Machine) (i : ℕ) (item : ItemValue) (failure : Failure) (moment : ℕ)
    → numbered m.items i ≡ Some item
    → Stays m (machine_run m (fail_each failure moment i rs)) i item
stays [] m i item failure moment is = record { tables = refl; statuses = item.statuses; item_is = is }
stays (r ∷ rs) m i item failure moment is =
    let more = stays rs (machine_after m (discharge i (r ∷ []) (failed failure) moment)) i
    (discharged_item item (r ∷ []) (failed failure) moment) failure moment
    (after_one m i item r failure moment is) in
    record { tables = more.tables; statuses = more.statuses; item_is = more.item_is }

-- ---- one recipient

listed : {A B : Type 0} (f : A → B) (o : Option A) → option_to_list (option_map f o) ≡ map f (option_to_list o)
listed f None = refl
listed f (Some x) = refl

module _ (now : Machine) (text : List ℕ) (i : ℕ) (item : ItemValue) (ss : List (Option Status)) (count r : ℕ)
    (failure : Failure) (moment : ℕ) (text_is : numbered now.tables (last_tables now) ≡ Some text)
    (item_is : numbered now.items i ≡ Some (with_statuses_of item ss)) (count_is : count ≡ length now.items)
  where
    abbrev there : ItemValue
    there = with_statuses_of item ss

    abbrev reports : Option ApduValue
    reports = report_of text count item r failure

    made_is : made_for now there (numbered now.tables (last_tables now)) (r ∷ []) (failed failure) moment
        ≡ option_to_list reports
    made_is =
        ap (λ (o : Option (List ℕ)). made_for now there o (r ∷ []) (failed failure) moment) text_is
        ∙ (reported_anyway text (length now.items + 1) there r (reason_of failure) (diagnostic_of failure)
        ∙ (ap (λ (o : Option ApduValue). option_to_list o)
        (same_report text (length now.items + 1) item ss r (reason_of failure) (diagnostic_of failure))
        ∙ ap (λ (n : ℕ). option_to_list
        (non_delivery_report text (n + 1) item r (reason_of failure) (diagnostic_of failure))) (sym count_is)))

    -- how many items there are then
    then_many : length (machine_after now (discharge i (r ∷ []) (failed failure) moment)).items
        ≡ count + length (option_to_list reports)
    then_many =
        let new : ItemValue = discharged_item there (r ∷ []) (failed failure) moment in
        let made : List ApduValue =
        made_for now there (numbered now.tables (last_tables now)) (r ∷ []) (failed failure) moment in
        let found = ap (λ (o : Option ItemValue).
        length (items_after now o i (r ∷ []) (failed failure) moment)) item_is in
        let both = length-append (set_numbered now.items i new) (map (own_item moment) made) in
        let front = length-set_numbered now.items i new in
        let behind = length-map {B = ItemValue} made (own_item moment) in
        let few = ap (λ (vs : List ApduValue). length vs) made_is in
        omega (arith, found, both, front, behind, few, count_is)

    module _ (s : Settlement) (is : IsFailed text count item r failure moment s) where
      discharges : IsDischarge now i r (failed failure) moment s.status (option_to_list s.made) []
      discharges = record {
        item = there;
        item_is = item_is;
        status_is = is.status;
        made_is =
            ap (λ (o : Option ItemValue). option_to_list o) is.made
            ∙ (listed (own_item moment) reports
            ∙ ap (λ (vs : List ApduValue). map (own_item moment) vs) (sym made_is));
        lines_are = refl;
      }

      -- the discharge is that of the failure
      settles : settled_one now i s moment ≡ machine_after now (discharge i (r ∷ []) (failed failure) moment)
      settles =
          ap (λ (q : ℕ). settled_machine now i (q ∷ []) s.status (option_to_list s.made) [] moment) is.recipient
          ∙ discharged now i r (failed failure) moment s.status (option_to_list s.made) [] discharges

      many : length (machine_after now (discharge i (r ∷ []) (failed failure) moment)).items
          ≡ count + length (option_to_list s.made)
      many =
          let same = ap (λ (xs : List ItemValue). length xs)
          (ap (λ (o : Option ItemValue). option_to_list o) is.made ∙ listed (own_item moment) reports) in
          let mapped = length-map {B = ItemValue} (option_to_list reports) (own_item moment) in
          let all = then_many in
          omega (arith, same, mapped, all)

-- ---- all of them

each_behind : (failure : Failure) (moment i : ℕ) (xs ys : List ℕ)
    → fail_each failure moment i (xs ++ ys) ≡ fail_each failure moment i xs ++ fail_each failure moment i ys
each_behind failure moment i xs ys =
    map-append (λ (r : ℕ). discharge i (r ∷ []) (failed failure) moment) xs ys

run_behind : (m : Machine) (failure : Failure) (moment i : ℕ) (xs ys : List ℕ)
    → machine_run m (fail_each failure moment i (xs ++ ys))
    ≡ machine_run (machine_run m (fail_each failure moment i xs)) (fail_each failure moment i ys)
run_behind m failure moment i xs ys =
    ap (λ (ms : List MachineStep). machine_run m ms) (each_behind failure moment i xs ys)
    ∙ machine_run-append m (fail_each failure moment i xs) (fail_each failure moment i ys)

module _ (m : Machine) (text : List ℕ) (i : ℕ) (item : ItemValue) (failure : Failure) (moment : ℕ)
    (text_is : numbered m.tables (last_tables m) ≡ Some text) (item_is : numbered m.items i ≡ Some item)
  where
    abbrev run : List ℕ → Machine
    run xs = machine_run m (fail_each failure moment i xs)

    text_then : (xs : List ℕ) → numbered (run xs).tables (last_tables (run xs)) ≡ Some text
    text_then xs =
        ap (λ (ts : List (List ℕ)). numbered ts (length ts)) (stays xs m i item failure moment item_is).tables
        ∙ text_is

    one_further : (xs : List ℕ) (r count : ℕ) (ss : List Settlement) (s : Settlement)
        → AreFailed m i xs failure moment count ss → IsFailed text count item r failure moment s
        → AreFailed m i (xs ++ r ∷ []) failure moment (count + length (option_to_list s.made)) (ss ++ s ∷ [])
    one_further xs r count ss s are is =
        let there = stays xs m i item failure moment item_is in
        let after : run (xs ++ r ∷ []) ≡ machine_after (run xs) (discharge i (r ∷ []) (failed failure) moment) =
        run_behind m failure moment i xs (r ∷ []) in
        record {
          same =
              one_more m i ss s moment
              ∙ (ap (λ (x : Machine). settled_one x i s moment) are.same
              ∙ (settles (run xs) text i item there.statuses count r failure moment (text_then xs) there.item_is
              are.count_is s is
              ∙ sym after));
          count_is =
              sym (many (run xs) text i item there.statuses count r failure moment (text_then xs) there.item_is
              are.count_is s is)
              ∙ sym (ap (λ (x : Machine). length x.items) after);
        }

    too_many : (xs ys : List ℕ) (r count : ℕ) (ss : List Settlement)
        → AreFailed m i xs failure moment count ss → Fails text count item r failure moment None
        → 2 ^ 32 ≤ length (run (xs ++ r ∷ ys)).items
    too_many xs ys r count ss are fails =
        let there = stays xs m i item failure moment item_is in
        let after = ap (λ (x : Machine). length x.items) (run_behind m failure moment i xs (r ∷ ys)) in
        let first = then_many (run xs) text i item there.statuses count r failure moment (text_then xs)
        there.item_is are.count_is in
        let grow = items-grow (machine_after (run xs) (discharge i (r ∷ []) (failed failure) moment))
        (fail_each failure moment i ys) in
        omega (arith, after, first, grow, fails)

    pub failing_starts : (rs : List ℕ) (count : ℕ) → count ≡ length m.items
        → AreFailed m i (take 0 rs) failure moment count []
    failing_starts rs count is = record { same = refl; count_is = is }

    pub failing_goes : (rs : List ℕ) (k d count added : ℕ) (ss : List Settlement) (s : Settlement)
        → k < length rs → added ≡ length (option_to_list s.made)
        → AreFailed m i (take k rs) failure moment count ss
        → IsFailed text count item (get_or rs k d) failure moment s
        → AreFailed m i (take (k + 1) rs) failure moment (count + added) (ss ++ s ∷ [])
    failing_goes rs k d count added ss s within added_is are is =
        subst (λ (n : ℕ). AreFailed m i (take (k + 1) rs) failure moment (count + n) (ss ++ s ∷ [])) (sym added_is)
        (subst (λ (xs : List ℕ). AreFailed m i xs failure moment (count + length (option_to_list s.made))
        (ss ++ s ∷ [])) (sym (take_more rs k d within)) (one_further (take k rs) (get_or rs k d) count ss s are is))

    pub failing_stops : (rs : List ℕ) (k d count : ℕ) (ss : List Settlement) → k < length rs
        → AreFailed m i (take k rs) failure moment count ss
        → Fails text count item (get_or rs k d) failure moment None → FailAll m i rs failure moment None
    failing_stops rs k d count ss within are fails =
        subst (λ (xs : List ℕ). 2 ^ 32 ≤ length (run xs).items)
        (ap (λ (xs : List ℕ). take k rs ++ xs) (sym (drop_more rs k d within)) ∙ take-append-drop k rs)
        (too_many (take k rs) (drop (k + 1) rs) (get_or rs k d) count ss are fails)

    pub failing_ends : (rs : List ℕ) (k count : ℕ) (ss : Vec Settlement) → length rs ≤ k → count < 2 ^ 32
        → AreFailed m i (take k rs) failure moment count ss.items → FailAll m i rs failure moment (Some ss)
    failing_ends rs k count ss past small are =
        let all : take k rs ≡ rs = take_all k rs past in
        let many : count ≡ length (run rs).items =
        are.count_is ∙ ap (λ (xs : List ℕ). length (run xs).items) all in (
          are.same ∙ ap run all,
          omega (arith, many, small),
        )

pub ruleset failing_laws = (failing_starts, failing_goes, failing_stops, failing_ends)
