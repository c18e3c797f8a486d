-- What is answered is the same behind a snapshot, and behind an opening.
use Rattle.std.proofs.Common.{◌≡◌, ◌≤◌, ℕ, zero, suc, eqb, Bool, true, false, cond, List, [], ◌∷◌, map, Option}
use Rattle.std.proofs.Common.{Some, None, refl, ap, subst, ◌∙◌, arith}
use Rattle.std.proofs.lemmas.Bool.{eq-eqb}
use Rattle.std.specs.Prelude.{slice_get, filter, ◌||◌}
use Rattle.std.specs.List.{AllByRecursion}
use Rattle.mta_commands.specs.Causes.{mailbox_named}
use Rattle.mta_commands.proofs.SameShown.{opens_same}
use Rattle.mta_histories.specs.Compact.{is_named, recorded_from}
use Rattle.mta_histories.specs.History.{after, after_step}
use Rattle.mta_histories.specs.Lanes.{State}
use Rattle.mta_histories.specs.Sound.{IsSound, IsSoundLine, item_begun}
use Rattle.mta_machine.specs.Items.{ItemValue, numbered}
use Rattle.mta_marks.specs.declared.mark.MarkKind.TheVariants as Kinds
use Rattle.mta_marks.specs.declared.mark.Standing.{Standing}
use Rattle.mta_marks.specs.declared.mark.Standing.TheVariants as Stand
use Rattle.mta_records.specs.declared.state.MailboxLine.{MailboxLine}
use Rattle.mta_records.specs.declared.step.Step.TheVariants.{Format}
use Rattle.mta_show.proofs.Compacted.{named-same}
use Rattle.mta_show.specs.Compacted.{compacted}
use Rattle.mta_show.specs.Mailbox.{is_for, item_if}
use Rattle.mta_store_run.specs.Asked.{mailbox_asked}
use Rattle.mta_store_run.specs.Kept.{OpeningAnswersTheSame, SnapshotsAnswerTheSame}
use Rattle.mta_store_run.specs.Store.{answer_if, answer_in, answer_of, deliveries, fetched, gives, item_text}
use Rattle.mta_store_run.specs.Store.{mark_of}
use Rattle.mta_store_run.specs.declared.asked.Asked.{Asked}
use Rattle.mta_store_run.specs.declared.asked.Asked.TheVariants as Ask

-- ---- an entry is among those that name their items

-- the delivery's item has a number from 1, and one of these names it
abbrev Names : List MailboxLine → MailboxLine → Type 0
Names lines line = (is_named lines line.item ≡ true) × (1 ≤ line.item)

or_first : (a b : Bool) → a ≡ true → (a || b) ≡ true
or_first true b e = refl
or_first false b e = absurd cc

or_behind : (a b : Bool) → b ≡ true → (a || b) ≡ true
or_behind true b e = refl
or_behind false b e = e

same_line : (x y : MailboxLine) → ◌≡◌ {A = Option MailboxLine} (Some x) (Some y) → x ≡ y
same_line x y e = cc

further : (x : MailboxLine) (lines : List MailboxLine) (line : MailboxLine) → Names lines line → Names (x ∷ lines) line
further x lines line n = (or_behind (eqb x.item line.item) (is_named lines line.item) n.0, n.1)

got_named : (s : State) (p : MailboxLine → Bool) (lines : List MailboxLine) (k : ℕ) (line : MailboxLine)
    → AllByRecursion (IsSoundLine s) lines → slice_get (filter p lines) k ≡ Some line → Names lines line
got_named s p [] k line sound e = absurd cc
got_named s p (x ∷ lines) k line sound e = by (p x) k (λ j. got_named s p lines j line sound.1) e
  where
    by : (b : Bool) (k : ℕ) → ((j : ℕ) → slice_get (filter p lines) j ≡ Some line → Names lines line)
        → slice_get (cond b (x ∷ filter p lines) (filter p lines)) k ≡ Some line → Names (x ∷ lines) line
    by true zero rest e =
        subst (Names (x ∷ lines)) (same_line x line e)
        (or_first (eqb x.item x.item) (is_named lines x.item) (eq-eqb x.item x.item refl), sound.0.some_item)
    by true (suc j) rest e = further x lines line (rest j e)
    by false j rest e = further x lines line (rest j e)

entry_named : (s : State) (mailbox : List ℕ) (number : ℕ) (line : MailboxLine) → IsSound s
    → numbered (deliveries mailbox s.machine.mailboxes) number ≡ Some line → Names s.machine.mailboxes line
entry_named s mailbox zero line sound e = absurd cc
entry_named s mailbox (suc k) line sound e = got_named s (is_for mailbox) s.machine.mailboxes k line sound.lines e

-- ---- its item has its octets still

of_number : (lines : List MailboxLine) (items : List ItemValue) (n : ℕ) → is_named lines n ≡ true → 1 ≤ n
    → item_if (numbered (map item_begun (recorded_from lines 1 items)) n) ≡ item_if (numbered items n)
of_number lines items zero named from = absurd (omega (arith, from))
of_number lines items (suc k) named from = named-same lines 1 k items (ap (is_named lines) (omega arith) ∙ named)

-- ---- so is the answer

fetched_same : (new old : List ItemValue) (mailbox : List ℕ) (number : ℕ) (o : Option MailboxLine) (x : Standing)
    → ((line : MailboxLine) → o ≡ Some line → item_text new line ≡ item_text old line)
    → fetched new mailbox number o x ≡ fetched old mailbox number o x
fetched_same new old mailbox number None x same = refl
fetched_same new old mailbox number (Some line) Stand.New same =
    ap (λ (t : List ℕ). gives t (Some (mark_of Kinds.Fetched mailbox number))) (same line refl)
fetched_same new old mailbox number (Some line) Stand.Fetched same = ap (λ (t : List ℕ). gives t None) (same line refl)
fetched_same new old mailbox number (Some line) Stand.Deleted same = refl

in_compacted : (asked : Asked) (s : State) (look : List ℕ → ℕ → Standing) → IsSound s
    → answer_in asked (compacted s) look ≡ answer_in asked s look
in_compacted (Ask.List mailbox) s look sound = refl
in_compacted (Ask.Fetch mailbox number) s look sound =
    fetched_same (compacted s).machine.items s.machine.items mailbox number
    (numbered (deliveries mailbox s.machine.mailboxes) number) (look mailbox number)
    (λ line e. let n = entry_named s mailbox number line sound e in
    of_number s.machine.mailboxes s.machine.items line.item n.0 n.1)
in_compacted (Ask.Delete mailbox number) s look sound = refl

pub snapshots_answer_the_same : SnapshotsAnswerTheSame
snapshots_answer_the_same asked s look sound =
    ap (answer_if (mailbox_named s (mailbox_asked asked))) (in_compacted asked s look sound)

-- a format that is set changes none
in_format : (asked : Asked) (s : State) (look : List ℕ → ℕ → Standing)
    → answer_of asked (after_step s (Format 2)) look ≡ answer_of asked s look
in_format (Ask.List mailbox) s look = refl
in_format (Ask.Fetch mailbox number) s look = refl
in_format (Ask.Delete mailbox number) s look = refl

pub opening_answers_the_same : OpeningAnswersTheSame
opening_answers_the_same asked look =
    opens_same (λ (s : State). answer_of asked s look) (λ s. in_format asked s look)
    (λ steps c. snapshots_answer_the_same asked (after steps) look c.sound)
