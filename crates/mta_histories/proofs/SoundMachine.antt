-- What of soundness is the machine's stays, whatever the machine does.
use Rattle.std.proofs.Common.{◌≡◌, ◌≢◌, ℕ, zero, suc, ◌≤◌, ◌<◌, Bool, true, false, cond, eqb, List, [], ◌∷◌, ◌++◌}
use Rattle.std.proofs.Common.{length, map, Option, Some, None, refl, sym, ap, subst, ◌∙◌, arith, inl, inr}
use Rattle.std.proofs.Common.{length-append}
use Rattle.std.specs.Prelude.{◌⊎◌, ◌||◌, slice_get}
use Rattle.std.specs.List.{AllByRecursion, concat}
use Rattle.std.proofs.lemmas.Bool.{eq-eqb}
use Rattle.mta_records.specs.declared.state.MailboxLine.{MailboxLine}
use Rattle.mta_records.specs.declared.state.Origin.TheVariants as Origins
use Rattle.mta_machine.specs.Verdict.{Verdict}
use Rattle.mta_machine.specs.Verdict.TheVariants as Verdicts
use Rattle.mta_machine.specs.Items.{ItemValue, Machine, numbered, names, status_at}
use Rattle.mta_machine.specs.Rules.{Failure, denied, expired, is_tables_text, mailbox_word}
use Rattle.mta_machine.specs.Machine.{Discharge, delivered, expanded, affirmed, not_delivered, failed, discarded}
use Rattle.mta_machine.specs.Machine.{passed}
use Rattle.mta_machine.specs.Machine.{sent, MachineStep, set_tables, set_format, accept, discharge, Needs}
use Rattle.mta_machine.specs.Machine.{machine_after}
use Rattle.mta_machine.specs.Machine.{machine_run, IsRun, ArePending, items_after, lines_of, line_at, line_by}
use Rattle.mta_machine.specs.Machine.{last_tables}
use Rattle.mta_machine.specs.Machine.{verdict_at}
use Rattle.mta_machine.proofs.Later.{items-grow}
use Rattle.mta_machine.proofs.Once.{pending-is}
use Rattle.mta_machine.proofs.Steps.{item-of}
use Rattle.mta_lane_send.specs.Half.{is_ending}
use Rattle.mta_histories.specs.Lanes.{Transfer, Lane, State, lane_at, is_dropping}
use Rattle.mta_histories.specs.Classes.{was_sent, was_refused, was_denied, was_dropped, LaneStep, agree, bind, start}
use Rattle.mta_histories.specs.Classes.{confirm, to_end, settle, abandon, secure, complete, drop_pieces, close, Class}
use Rattle.mta_histories.specs.Classes.{begins, sets_format, records, accepts, settles, opens, on_lane}
use Rattle.mta_histories.specs.History.{StepNeeds, failures, sendings, failure_of_kind, with_piece, lane_steps}
use Rattle.mta_histories.specs.History.{on_lane_steps, class_steps}
use Rattle.mta_histories.specs.Sound.{IsSoundItem, IsSoundLine, IsSound}
use Rattle.mta_histories.specs.Items.{MakeWritten, IsNow, AreNow}
use Rattle.mta_histories.proofs.SoundItems.{all-append, all-weaker, items_stay_sound}

-- ---- what has a number

get-within : {A : Type 0} (xs : List A) (k : ℕ) (x : A) → slice_get xs k ≡ Some x → k < length xs
get-within [] k x e = absurd cc
get-within (y ∷ ys) zero x e = omega arith
get-within (y ∷ ys) (suc k) x e = let r = get-within ys k x e in omega (arith, r)

pub numbered-within : {A : Type 0} (xs : List A) (n : ℕ) (x : A) → numbered xs n ≡ Some x
    → (1 ≤ n) × (n ≤ length xs)
numbered-within xs zero x e = absurd cc
numbered-within xs (suc k) x e = let r = get-within xs k x e in (omega arith, omega (arith, r))

get-some : {A : Type 0} (xs : List A) (k : ℕ) → k < length xs → (x : A) × (slice_get xs k ≡ Some x)
get-some [] k lt = absurd (omega (arith, lt))
get-some (y ∷ ys) zero lt = (y, refl)
get-some (y ∷ ys) (suc k) lt = get-some ys k (omega (arith, lt))

pub numbered-some : {A : Type 0} (xs : List A) (n : ℕ) → 1 ≤ n → n ≤ length xs
    → (x : A) × (numbered xs n ≡ Some x)
numbered-some xs zero some few = absurd (omega (arith, some))
numbered-some xs (suc k) some few = get-some xs k (omega (arith, few))

-- ---- the format

abbrev pub HasFormat : Machine → Type 0
HasFormat m = (m.format ≡ 1) ⊎ (m.format ≡ 2)

format-one : (m : Machine) (step : MachineStep) → HasFormat m → HasFormat (machine_after m step)
format-one m (set_tables text) h = h
format-one m set_format h = inr refl
format-one m (accept octets origin moment) h = h
format-one m (discharge i rs how moment) h = h

pub format-run : (m : Machine) (steps : List MachineStep) → HasFormat m → HasFormat (machine_run m steps)
format-run m [] h = h
format-run m (step ∷ steps) h = format-run (machine_after m step) steps (format-one m step h)

-- ---- texts

abbrev pub IsText : List ℕ → Type 0
IsText text = is_tables_text text ≡ true

-- a text that is recorded is read
abbrev pub IsRead : MachineStep → Type 0
IsRead (set_tables text) = IsText text
IsRead set_format = Unit {0}
IsRead (accept octets origin moment) = Unit {0}
IsRead (discharge i rs how moment) = Unit {0}

pub texts-run : (m : Machine) (steps : List MachineStep) → AllByRecursion IsRead steps
    → AllByRecursion IsText m.tables → AllByRecursion IsText (machine_run m steps).tables
texts-run m [] read each = each
texts-run m (set_tables text ∷ steps) read each =
    texts-run (machine_after m (set_tables text)) steps read.1
    (all-append IsText m.tables (text ∷ []) each (read.0, tt))
texts-run m (set_format ∷ steps) read each = texts-run (machine_after m set_format) steps read.1 each
texts-run m (accept octets origin moment ∷ steps) read each =
    texts-run (machine_after m (accept octets origin moment)) steps read.1 each
texts-run m (discharge i rs how moment ∷ steps) read each =
    texts-run (machine_after m (discharge i rs how moment)) steps read.1 each

-- ---- items stand under recorded tables

abbrev pub IsRecorded : Machine → Type 0
IsRecorded m = m.items ≢ [] → m.tables ≢ []

recorded-one : (m : Machine) (step : MachineStep) → Needs m step → IsRecorded m → IsRecorded (machine_after m step)
recorded-one m (set_tables text) needs h = λ some. behind m.tables
  where
    behind : (ts : List (List ℕ)) → ts ++ text ∷ [] ≢ []
    behind [] e = absurd cc
    behind (t ∷ ts) e = absurd cc
recorded-one m set_format needs h = h
recorded-one m (accept octets origin moment) needs h = λ some. needs.1
recorded-one m (discharge i rs how moment) needs h = by_item (numbered m.items i) refl
  where
    there : (items : List ItemValue) (n : ℕ) (item : ItemValue) → numbered items n ≡ Some item → items ≢ []
    there [] zero item e = absurd cc
    there [] (suc k) item e = absurd cc
    there (x ∷ items) n item e = λ f. absurd cc

    by_item : (o : Option ItemValue) → numbered m.items i ≡ o
        → (items_after m o i rs how moment ≢ []) → m.tables ≢ []
    by_item None is = h
    by_item (Some item) is = λ some. h (there m.items i item is)

pub recorded-run : (m : Machine) (steps : List MachineStep) → IsRun m steps → IsRecorded m
    → IsRecorded (machine_run m steps)
recorded-run m [] run h = h
recorded-run m (step ∷ steps) run h =
    recorded-run (machine_after m step) steps run.1 (recorded-one m step run.0 h)

-- ---- deliveries

-- a delivery is one of so many items, at a moment up to this one
pub record IsLineOf (count moment : ℕ) (line : MailboxLine) : Type 0 where
  pub some_item : 1 ≤ line.item
  pub item : line.item ≤ count
  pub timely : line.moment ≤ moment

line-weaker : (a b m n : ℕ) (lines : List MailboxLine) → a ≤ b → m ≤ n → AllByRecursion (IsLineOf a m) lines
    → AllByRecursion (IsLineOf b n) lines
line-weaker a b m n lines more later each =
    all-weaker (IsLineOf a m) (IsLineOf b n) lines
    (λ l h. record {
      some_item = h.some_item;
      item = omega (arith, h.item, more);
      timely = omega (arith, h.timely, later);
    }) each

word-fits : (o : Option (List ℕ)) (count n i : ℕ) → 1 ≤ i → i ≤ count
    → AllByRecursion (IsLineOf count n) (line_at o i n)
word-fits None count n i some few = tt
word-fits (Some word) count n i some few = (record { some_item = some; item = few; timely = omega arith }, tt)

verdict-fits : (a : Option (List ℕ)) (v : Option Verdict) (count n i : ℕ) → 1 ≤ i → i ≤ count
    → AllByRecursion (IsLineOf count n) (line_by a v i n)
verdict-fits None v count n i some few = tt
verdict-fits (Some text) None count n i some few = tt
verdict-fits (Some text) (Some (Verdicts.Deliver place)) count n i some few =
    word-fits (mailbox_word text place) count n i some few
verdict-fits (Some text) (Some (Verdicts.Expand place)) count n i some few = tt
verdict-fits (Some text) (Some (Verdicts.Relay place)) count n i some few = tt
verdict-fits (Some text) (Some Verdicts.Affirm) count n i some few = tt
verdict-fits (Some text) (Some (Verdicts.NonDeliver reason diagnostic)) count n i some few = tt
verdict-fits (Some text) (Some (Verdicts.Hold until)) count n i some few = tt
verdict-fits (Some text) (Some Verdicts.Back) count n i some few = tt
verdict-fits (Some text) (Some Verdicts.Discard) count n i some few = tt

pending-within : (m : Machine) (i r : ℕ) (rs : List ℕ) → ArePending m i (r ∷ rs)
    → (1 ≤ i) × (i ≤ length m.items)
pending-within m i r rs pending =
    let p = pending-is (status_at m i r) (pending r (first (eqb r r) (names rs r) (eq-eqb r r refl))) in
    let f = item-of (numbered m.items i) r (Some p.0) p.1 in
    numbered-within m.items i f.0 f.1
  where
    first : (a b : Bool) → a ≡ true → (a || b) ≡ true
    first true b e = refl
    first false b e = absurd cc

lines-made : (m : Machine) (i : ℕ) (rs : List ℕ) (how : Discharge) (n : ℕ) → ArePending m i rs
    → AllByRecursion (IsLineOf (length m.items) n) (lines_of m i rs how n)
lines-made m i [] how n pending = tt
lines-made m i (r ∷ rs) delivered n pending =
    let p = pending-within m i r rs pending in
    verdict-fits (numbered m.tables (last_tables m)) (verdict_at m i r n) (length m.items) n i p.0 p.1
lines-made m i (r ∷ rs) expanded n pending = tt
lines-made m i (r ∷ rs) affirmed n pending = tt
lines-made m i (r ∷ rs) (not_delivered reason diagnostic) n pending = tt
lines-made m i (r ∷ rs) (failed failure) n pending = tt
lines-made m i (r ∷ rs) discarded n pending = tt
lines-made m i (r ∷ rs) passed n pending = tt
lines-made m i (r ∷ rs) (sent peer tables decided format) n pending = tt

lines-one : (m : Machine) (step : MachineStep) (n : ℕ) → Needs m step → IsNow n step
    → AllByRecursion (IsLineOf (length m.items) n) m.mailboxes
    → AllByRecursion (IsLineOf (length (machine_after m step).items) n) (machine_after m step).mailboxes
lines-one m (set_tables text) n needs now each = each
lines-one m set_format n needs now each = each
lines-one m (accept octets origin moment) n needs now each =
    line-weaker (length m.items) (length (machine_after m (accept octets origin moment)).items) n n m.mailboxes
    (items-grow m (accept octets origin moment ∷ [])) (omega arith) each
lines-one m (discharge i rs how moment) n needs now each =
    line-weaker (length m.items) (length (machine_after m (discharge i rs how moment)).items) n n
    (m.mailboxes ++ lines_of m i rs how moment) (items-grow m (discharge i rs how moment ∷ [])) (omega arith)
    (all-append (IsLineOf (length m.items) n) m.mailboxes (lines_of m i rs how moment) each
    (subst (λ (k : ℕ). AllByRecursion (IsLineOf (length m.items) n) (lines_of m i rs how k)) (sym now)
    (lines-made m i rs how n needs.0)))

pub lines-run : (m : Machine) (steps : List MachineStep) (n : ℕ) → IsRun m steps → AreNow n steps
    → AllByRecursion (IsLineOf (length m.items) n) m.mailboxes
    → AllByRecursion (IsLineOf (length (machine_run m steps).items) n) (machine_run m steps).mailboxes
lines-run m [] n run now each = each
lines-run m (step ∷ steps) n run now each =
    lines-run (machine_after m step) steps n run.1 now.1 (lines-one m step n run.0 now.0 each)

-- ---- the steps of a class

each-failed : (P : MachineStep → Type 0) (moment i : ℕ) (how : Discharge) (rs : List ℕ)
    → ((j : ℕ) (qs : List ℕ) (d : Discharge) → P (discharge j qs d moment))
    → AllByRecursion P (map (λ r. discharge i (r ∷ []) how moment) rs)
each-failed P moment i how [] p = tt
each-failed P moment i how (r ∷ rs) p = (p i (r ∷ []) how, each-failed P moment i how rs p)

failures-each : (P : MachineStep → Type 0) (moment : ℕ) (failure : Failure) (o : Option Transfer)
    → ((j : ℕ) (qs : List ℕ) (d : Discharge) → P (discharge j qs d moment))
    → AllByRecursion P (failures failure moment o)
failures-each P moment failure None p = tt
failures-each P moment failure (Some t) p = each-failed P moment t.item (failed failure) t.recipients p

sendings-each : (P : MachineStep → Type 0) (moment : ℕ) (peer : List ℕ) (o : Option Transfer)
    → ((j : ℕ) (qs : List ℕ) (d : Discharge) → P (discharge j qs d moment))
    → AllByRecursion P (sendings peer moment o)
sendings-each P moment peer None p = tt
sendings-each P moment peer (Some t) p = (p t.item t.recipients (sent peer t.tables t.moment t.format), tt)

either-each : (P : MachineStep → Type 0) (b : Bool) (xs ys : List MachineStep) → AllByRecursion P xs
    → AllByRecursion P ys → AllByRecursion P (cond b xs ys)
either-each P true xs ys p q = p
either-each P false xs ys p q = q

-- a step on a lane accepts an item, or discharges recipients
lane-each : (P : MachineStep → Type 0) (moment : ℕ) → ((octets : List ℕ) → P (accept octets Origins.Lane moment))
    → ((j : ℕ) (qs : List ℕ) (d : Discharge) → P (discharge j qs d moment)) → (lane : Lane) (step : LaneStep)
    → AllByRecursion P (lane_steps lane step moment)
lane-each P moment a p lane (agree checkpoint window) = tt
lane-each P moment a p lane bind = tt
lane-each P moment a p lane (start k i rs) = tt
lane-each P moment a p lane (confirm k n) = tt
lane-each P moment a p lane (to_end k) = tt
lane-each P moment a p lane (settle was_sent k) = sendings-each P moment lane.peer lane.transfer p
lane-each P moment a p lane (settle (was_refused kind) k) =
    either-each P (is_dropping lane.sending) [] (failures (failure_of_kind kind) moment lane.transfer) tt
    (failures-each P moment (failure_of_kind kind) lane.transfer p)
lane-each P moment a p lane (settle was_denied k) =
    either-each P (is_ending lane.sending k) (failures denied moment lane.transfer) []
    (failures-each P moment denied lane.transfer p) tt
lane-each P moment a p lane (settle was_dropped k) = tt
lane-each P moment a p lane (abandon k) = failures-each P moment expired lane.transfer p
lane-each P moment a p lane (secure k n piece) = tt
lane-each P moment a p lane (complete k n piece) = (a (concat (with_piece lane.pieces n piece)), tt)
lane-each P moment a p lane (drop_pieces k) = tt
lane-each P moment a p lane close = tt

on-lane-each : (P : MachineStep → Type 0) (moment : ℕ) → ((octets : List ℕ) → P (accept octets Origins.Lane moment))
    → ((j : ℕ) (qs : List ℕ) (d : Discharge) → P (discharge j qs d moment)) → (o : Option Lane) (step : LaneStep)
    → AllByRecursion P (on_lane_steps o step moment)
on-lane-each P moment a p None step = tt
on-lane-each P moment a p (Some lane) step = lane-each P moment a p lane step

pub class-read : (s : State) (c : Class) (moment : ℕ) → StepNeeds s c moment
    → AllByRecursion IsRead (class_steps s c moment)
class-read s (begins t) moment needs = tt
class-read s sets_format moment needs = (tt, tt)
class-read s (records text) moment needs = (needs, tt)
class-read s (accepts octets) moment needs = (tt, tt)
class-read s (settles how i r) moment needs = (tt, tt)
class-read s (opens role peer reference twa checkpoint window) moment needs = tt
class-read s (on_lane n generation step) moment needs =
    on-lane-each IsRead moment (λ octets. tt) (λ j qs d. tt) (lane_at n s.lanes.open_lanes) step

pub class-now : (s : State) (c : Class) (moment : ℕ) → AreNow moment (class_steps s c moment)
class-now s (begins t) moment = tt
class-now s sets_format moment = (tt, tt)
class-now s (records text) moment = (tt, tt)
class-now s (accepts octets) moment = (refl, tt)
class-now s (settles how i r) moment = (refl, tt)
class-now s (opens role peer reference twa checkpoint window) moment = tt
class-now s (on_lane n generation step) moment =
    on-lane-each (IsNow moment) moment (λ octets. refl) (λ j qs d. refl) (lane_at n s.lanes.open_lanes) step

-- ---- all of it

-- what of soundness is the machine's
pub record IsSoundMachine (m : Machine) (moment : ℕ) : Type 0 where
  pub format : HasFormat m
  pub texts : AllByRecursion IsText m.tables
  pub recorded : IsRecorded m
  pub items : AllByRecursion (IsSoundItem moment) m.items
  pub lines : AllByRecursion (IsLineOf (length m.items) moment) m.mailboxes

pub machine-sound : (s : State) (steps : List MachineStep) (moment : ℕ) → IsSound s → s.moment ≤ moment
    → IsRun s.machine steps → AllByRecursion IsRead steps → AreNow moment steps → MakeWritten s.machine steps
    → IsSoundMachine (machine_run s.machine steps) moment
machine-sound s steps moment sound later run read now made = record {
  format = format-run s.machine steps sound.format;
  texts = texts-run s.machine steps read sound.texts;
  recorded = recorded-run s.machine steps run sound.recorded;
  items = items_stay_sound s.machine steps s.moment moment later run now made sound.items;
  lines = lines-run s.machine steps moment run now
      (line-weaker (length s.machine.items) (length s.machine.items) s.moment moment s.machine.mailboxes (omega arith)
      later
      (all-weaker (IsSoundLine s) (IsLineOf (length s.machine.items) s.moment) s.machine.mailboxes
      (λ l h. record { some_item = h.some_item; item = h.item; timely = h.timely }) sound.lines));
}
