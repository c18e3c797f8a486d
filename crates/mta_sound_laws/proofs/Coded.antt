-- The statuses of items and the deliveries of the machine are such as a record has, whatever the machine does.
use Rattle.std.proofs.Common.{◌≡◌, ◌≢◌, ℕ, zero, suc, ◌<◌, ◌^◌, Bool, true, false, eqb, List, [], ◌∷◌}
use Rattle.std.proofs.Common.{map, set, Option, Some, None, refl, subst, arith}
use Rattle.std.specs.Prelude.{IfSome, slice_get, ◌||◌}
use Rattle.std.specs.List.{AllByRecursion}
use Rattle.std.proofs.lemmas.Bool.{eq-eqb}
use Rattle.mta_records.specs.Words.{is_word}
use Rattle.mta_records.specs.declared.state.MailboxLine.{MailboxLine}
use Rattle.mta_records.specs.declared.state.Status.{Status}
use Rattle.mta_records.specs.declared.state.Status.TheVariants.{Pending, Delivered, Expanded, Sent, Reported, Affirmed}
use Rattle.mta_records.specs.declared.state.Status.TheVariants.{Discarded, Passed}
use Rattle.mta_apdu.specs.Apdus.{ApduValue}
use Rattle.mta_procedures.specs.declared.verdict.Verdict.{Verdict}
use Rattle.mta_procedures.specs.declared.verdict.Verdict.TheVariants as Verdicts
use Rattle.mta_machine.specs.Apdu.{value_of, is_report, responsible_in}
use Rattle.mta_machine.specs.Items.{ItemValue, Machine, numbered, set_numbered, names, status_at_first}
use Rattle.mta_machine.specs.Items.{statuses_read}
use Rattle.mta_machine.specs.Rules.{Failure, too_long, violated, denied, expired, diagnostic_of, reason_of}
use Rattle.mta_machine.specs.Rules.{mailbox_word, passed_back, verdict_of}
use Rattle.mta_machine.specs.Machine.{Discharge, delivered, expanded, affirmed, not_delivered, failed, discarded}
use Rattle.mta_machine.specs.Machine.{passed, sent, MachineStep, set_tables, set_format, accept, discharge, Needs}
use Rattle.mta_machine.specs.Machine.{accepted_item, discharged_item, IsJustified, IsRun, items_after, last_tables}
use Rattle.mta_machine.specs.Machine.{line_at, line_by, lines_of, machine_after, machine_run, made_for, own_item}
use Rattle.mta_machine.specs.Machine.{relay_at, relay_by, relay_on, status_after, verdict_at, verdict_on}
use Rattle.mta_machine.specs.Machine.{with_statuses}
use Rattle.mta_histories.proofs.SoundItems.{all-append}
use Rattle.mta_sound_laws.proofs.Codes.{all_coded}
use Rattle.mta_sound_laws.proofs.Made.{settled-is}
use Rattle.mta_sound_laws.proofs.Words.{mailbox-word-is, peer-word-is}

-- ---- what is said of the machine

-- the peer of a status is a word, and its codes are numbers of a record
abbrev pub IsCoded : Option Status → Type 0
IsCoded None = Unit {0}
IsCoded (Some Pending) = Unit {0}
IsCoded (Some (Delivered moment)) = Unit {0}
IsCoded (Some (Expanded moment)) = Unit {0}
IsCoded (Some (Sent moment peer)) = is_word peer ≡ true
IsCoded (Some (Reported moment reason diagnostic)) = (reason < 2 ^ 32) × IfSome diagnostic (λ n. n < 2 ^ 32)
IsCoded (Some (Affirmed moment)) = Unit {0}
IsCoded (Some (Discarded moment)) = Unit {0}
IsCoded (Some (Passed moment)) = Unit {0}

-- each status of the item is so
abbrev pub IsCodedItem : ItemValue → Type 0
IsCodedItem item = AllByRecursion IsCoded item.statuses

-- the mailbox of the delivery is a word
abbrev pub IsWordLine : MailboxLine → Type 0
IsWordLine line = is_word line.mailbox ≡ true

-- the statuses and the deliveries of a machine are so
pub record IsCodedMachine (m : Machine) : Type 0 where
  pub items : AllByRecursion IsCodedItem m.items
  pub lines : AllByRecursion IsWordLine m.mailboxes

-- ---- lists in which one place is set

all-put : {A : Type 0} (P : A → Type 0) (xs : List A) (k : ℕ) (x : A) → P x → AllByRecursion P xs
    → AllByRecursion P (set xs k x)
all-put P [] k x p each = tt
all-put P (y ∷ ys) zero x p each = (p, each.1)
all-put P (y ∷ ys) (suc k) x p each = (each.0, all-put P ys k x p each.1)

all-set : {A : Type 0} (P : A → Type 0) (xs : List A) (n : ℕ) (x : A) → P x → AllByRecursion P xs
    → AllByRecursion P (set_numbered xs n x)
all-set P xs zero x p each = each
all-set P xs (suc k) x p each = all-put P xs k x p each

all-get : {A : Type 0} (P : A → Type 0) (xs : List A) (k : ℕ) (x : A) → slice_get xs k ≡ Some x → AllByRecursion P xs
    → P x
all-get P [] k x e each = absurd cc
all-get {A} P (y ∷ ys) zero x e each = subst P (same y x e) each.0
  where
    same : (a b : A) → Some a ≡ Some b → a ≡ b
    same a b f = cc
all-get P (y ∷ ys) (suc k) x e each = all-get P ys k x e each.1

all-at : {A : Type 0} (P : A → Type 0) (xs : List A) (n : ℕ) (x : A) → numbered xs n ≡ Some x → AllByRecursion P xs
    → P x
all-at P xs zero x e each = absurd cc
all-at P xs (suc k) x e each = all-get P xs k x e each

-- ---- statuses

statuses-set : (ss : List (Option Status)) (rs : List ℕ) (s : Status) → IsCoded (Some s) → AllByRecursion IsCoded ss
    → AllByRecursion IsCoded (with_statuses ss rs s)
statuses-set ss [] s is each = each
statuses-set ss (r ∷ rs) s is each =
    statuses-set (set_numbered ss r (Some s)) rs s is (all-set IsCoded ss r (Some s) is each)

first-coded : (bs : List Bool) → AllByRecursion IsCoded (map status_at_first bs)
first-coded [] = tt
first-coded (true ∷ bs) = (tt, first-coded bs)
first-coded (false ∷ bs) = (tt, first-coded bs)

read-coded : (o : Option ApduValue) → AllByRecursion IsCoded (statuses_read o)
read-coded None = tt
read-coded (Some v) = first-coded (responsible_in v)

verdict-coded : (format : ℕ) (items : List ItemValue) (a : Option (List ℕ)) (o : Option ItemValue)
    (r moment reason diagnostic : ℕ)
    → verdict_on format items a o r moment ≡ Some (Verdicts.NonDeliver reason diagnostic)
    → (reason < 2 ^ 32) × (diagnostic < 2 ^ 32)
verdict-coded format items None o r moment reason diagnostic e = absurd cc
verdict-coded format items (Some text) None r moment reason diagnostic e = absurd cc
verdict-coded format items (Some text) (Some item) r moment reason diagnostic e =
    let c = all_coded format text item.octets item.arrival r moment reason diagnostic
    (settled-is (passed_back text items item) (verdict_of format text item.octets item.arrival r moment)
    (Verdicts.NonDeliver reason diagnostic) e (λ f. absurd cc)) in
    (omega (arith, c.0), omega (arith, c.1))

relay-told : (text : List ℕ) (v : Option Verdict) (peer : List ℕ) → relay_by text v ≡ Some peer
    → is_word peer ≡ true
relay-told text None peer e = absurd cc
relay-told text (Some (Verdicts.Deliver place)) peer e = absurd cc
relay-told text (Some (Verdicts.Expand place)) peer e = absurd cc
relay-told text (Some (Verdicts.Relay place)) peer e = peer-word-is text place peer e
relay-told text (Some Verdicts.Affirm) peer e = absurd cc
relay-told text (Some (Verdicts.NonDeliver reason diagnostic)) peer e = absurd cc
relay-told text (Some (Verdicts.Hold until)) peer e = absurd cc
relay-told text (Some Verdicts.Back) peer e = absurd cc
relay-told text (Some Verdicts.Discard) peer e = absurd cc

relay-word : (format : ℕ) (a : Option (List ℕ)) (o : Option ItemValue) (r moment : ℕ) (peer : List ℕ)
    → relay_on format a o r moment ≡ Some peer → is_word peer ≡ true
relay-word format None o r moment peer e = absurd cc
relay-word format (Some text) None r moment peer e = absurd cc
relay-word format (Some text) (Some item) r moment peer e =
    relay-told text (verdict_of format text item.octets item.arrival r moment) peer e

sent-word : (m : Machine) (i : ℕ) (rs : List ℕ) (format tables decided : ℕ) (peer : List ℕ) → rs ≢ []
    → ((r : ℕ) → names rs r ≡ true → relay_at m format tables i r decided ≡ Some peer) → is_word peer ≡ true
sent-word m i [] format tables decided peer some relayed = absurd (some refl)
sent-word m i (r ∷ rs) format tables decided peer some relayed =
    relay-word format (numbered m.tables tables) (numbered m.items i) r decided peer
    (relayed r (first (eqb r r) (names rs r) (eq-eqb r r refl)))
  where
    first : (a b : Bool) → a ≡ true → (a || b) ≡ true
    first true b e = refl
    first false b e = absurd cc

failure-coded : (failure : Failure) → (reason_of failure < 2 ^ 32) × IfSome (diagnostic_of failure) (λ n. n < 2 ^ 32)
failure-coded too_long = (omega arith, omega arith)
failure-coded violated = (omega arith, omega arith)
failure-coded denied = (omega arith, tt)
failure-coded expired = (omega arith, omega arith)

-- what becomes of a recipient
after-coded : (m : Machine) (i : ℕ) (rs : List ℕ) (how : Discharge) (moment : ℕ) (b : Bool)
    → IsJustified m i rs how moment → IsCoded (Some (status_after b how moment))
after-coded m i rs delivered moment b is = tt
after-coded m i rs expanded moment b is = tt
after-coded m i rs affirmed moment b is = tt
after-coded m i rs (not_delivered reason diagnostic) moment true is = tt
after-coded m i rs (not_delivered reason diagnostic) moment false is =
    verdict-coded m.format m.items (numbered m.tables (last_tables m)) (numbered m.items i) is.0 moment reason
    diagnostic is.2
after-coded m i rs (failed failure) moment true is = tt
after-coded m i rs (failed failure) moment false is = failure-coded failure
after-coded m i rs discarded moment b is = tt
after-coded m i rs passed moment b is = tt
after-coded m i rs (sent peer tables decided format) moment b is =
    sent-word m i rs format tables decided peer is.0 is.3

-- ---- items

own-coded : (moment : ℕ) (vs : List ApduValue) → AllByRecursion IsCodedItem (map (own_item moment) vs)
own-coded moment [] = tt
own-coded moment (v ∷ vs) = (first-coded (responsible_in v), own-coded moment vs)

items-coded : (m : Machine) (i : ℕ) (o : Option ItemValue) (rs : List ℕ) (how : Discharge) (moment : ℕ)
    → numbered m.items i ≡ o → IsJustified m i rs how moment → AllByRecursion IsCodedItem m.items
    → AllByRecursion IsCodedItem (items_after m o i rs how moment)
items-coded m i None rs how moment found is each = each
items-coded m i (Some item) rs how moment found is each =
    let b = is_report (value_of item.octets) in
    all-append IsCodedItem (set_numbered m.items i (discharged_item item rs how moment))
    (map (own_item moment) (made_for m item (numbered m.tables (last_tables m)) rs how moment))
    (all-set IsCodedItem m.items i (discharged_item item rs how moment)
    (statuses-set item.statuses rs (status_after b how moment) (after-coded m i rs how moment b is)
    (all-at IsCodedItem m.items i item found each)) each)
    (own-coded moment (made_for m item (numbered m.tables (last_tables m)) rs how moment))

-- ---- deliveries

word-line : (o : Option (List ℕ)) (i moment : ℕ) → ((w : List ℕ) → o ≡ Some w → is_word w ≡ true)
    → AllByRecursion IsWordLine (line_at o i moment)
word-line None i moment h = tt
word-line (Some word) i moment h = (h word refl, tt)

verdict-line : (a : Option (List ℕ)) (v : Option Verdict) (i moment : ℕ)
    → AllByRecursion IsWordLine (line_by a v i moment)
verdict-line None v i moment = tt
verdict-line (Some text) None i moment = tt
verdict-line (Some text) (Some (Verdicts.Deliver place)) i moment =
    word-line (mailbox_word text place) i moment (λ w e. mailbox-word-is text place w e)
verdict-line (Some text) (Some (Verdicts.Expand place)) i moment = tt
verdict-line (Some text) (Some (Verdicts.Relay place)) i moment = tt
verdict-line (Some text) (Some Verdicts.Affirm) i moment = tt
verdict-line (Some text) (Some (Verdicts.NonDeliver reason diagnostic)) i moment = tt
verdict-line (Some text) (Some (Verdicts.Hold until)) i moment = tt
verdict-line (Some text) (Some Verdicts.Back) i moment = tt
verdict-line (Some text) (Some Verdicts.Discard) i moment = tt

lines-coded : (m : Machine) (i : ℕ) (rs : List ℕ) (how : Discharge) (moment : ℕ)
    → AllByRecursion IsWordLine (lines_of m i rs how moment)
lines-coded m i [] how moment = tt
lines-coded m i (r ∷ rs) delivered moment =
    verdict-line (numbered m.tables (last_tables m)) (verdict_at m i r moment) i moment
lines-coded m i (r ∷ rs) expanded moment = tt
lines-coded m i (r ∷ rs) affirmed moment = tt
lines-coded m i (r ∷ rs) (not_delivered reason diagnostic) moment = tt
lines-coded m i (r ∷ rs) (failed failure) moment = tt
lines-coded m i (r ∷ rs) discarded moment = tt
lines-coded m i (r ∷ rs) passed moment = tt
lines-coded m i (r ∷ rs) (sent peer tables decided format) moment = tt

-- ---- steps of the machine

step-coded : (m : Machine) (step : MachineStep) → Needs m step → IsCodedMachine m
    → IsCodedMachine (machine_after m step)
step-coded m (set_tables text) needs is = record { items = is.items; lines = is.lines }
step-coded m set_format needs is = record { items = is.items; lines = is.lines }
step-coded m (accept octets origin moment) needs is = record {
  items = all-append IsCodedItem m.items (accepted_item octets origin moment ∷ []) is.items
      (read-coded (value_of octets), tt);
  lines = is.lines;
}
step-coded m (discharge i rs how moment) needs is = record {
  items = items-coded m i (numbered m.items i) rs how moment refl needs.2 is.items;
  lines = all-append IsWordLine m.mailboxes (lines_of m i rs how moment) is.lines
      (lines-coded m i rs how moment);
}

pub run-coded : (m : Machine) (steps : List MachineStep) → IsRun m steps → IsCodedMachine m
    → IsCodedMachine (machine_run m steps)
run-coded m [] run is = is
run-coded m (step ∷ steps) run is = run-coded (machine_after m step) steps run.1 (step-coded m step run.0 is)
