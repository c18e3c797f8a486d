-- What is kept of entries answers as the marks do.
use Rattle.std.proofs.Common.{◌≡◌, ◌≤◌, ◌<◌, ◌+◌, ℕ, Bool, true, false, cond, eqb, ltb, List, [], ◌∷◌, ◌++◌, Option}
use Rattle.std.proofs.Common.{Some}
use Rattle.std.proofs.Common.{None, refl, sym, ap, subst, ◌∙◌, arith}
use Rattle.std.specs.Prelude.{◌&&◌}
use Rattle.std.specs.Str.{bytes_eq}
use Rattle.std.proofs.lemmas.Bool.{eqb-true, ltb-true, ltb-false}
use Rattle.mta_tables.specs.Words.{is_word}
use Rattle.mta_commands.specs.Causes.{mailbox_named}
use Rattle.mta_histories.specs.Lanes.{State}
use Rattle.mta_machine.specs.Items.{ItemValue, numbered}
use Rattle.mta_records.specs.declared.state.MailboxLine.{MailboxLine}
use Rattle.mta_marks.specs.declared.mark.Mark.{Mark}
use Rattle.mta_marks.specs.declared.mark.Standing.{Standing}
use Rattle.mta_marks.specs.declared.mark.Standing.TheVariants as Stand
use Rattle.mta_marks.specs.Marks.{Allows, AreMarks, AreMarksBehind, IsMark, IsPossible, is_of, standing, standing_by}
use Rattle.mta_marks.specs.Marks.{standing_from}
use Rattle.mta_marks.specs.declared.mark.MarkKind.TheVariants as Kinds
use Rattle.mta_marks.specs.Standings.{Knows, look, look_in}
use Rattle.mta_store_run.specs.Asked.{IsAsked, mailbox_asked}
use Rattle.mta_store_run.specs.Store.{Answer, StoredEntry, answer_if, answer_in, answer_of, deleted, deliveries}
use Rattle.mta_store_run.specs.Store.{fetched}
use Rattle.mta_store_run.specs.Store.{gives, list_text, no_entry, no_mailbox, not_fetched, stored_from}
use Rattle.mta_store_run.specs.Store.{stored_if}
use Rattle.mta_store_run.specs.declared.asked.Asked.{Asked}
use Rattle.mta_store_run.specs.declared.asked.Asked.TheVariants as Ask

-- ---- entries above the last number are new

and_false : (a b : Bool) → b ≡ false → (a && b) ≡ false
and_false true b e = e
and_false false b e = refl

other_number : (m n : ℕ) → m < n → eqb m n ≡ false
other_number m n lt = by (eqb m n) refl
  where
    by : (b : Bool) → eqb m n ≡ b → b ≡ false
    by true e = absurd (let same = eqb-true m n e in omega (arith, same, lt))
    by false e = refl

high_new : (s : Standing) (before marks : List Mark) (mailbox : List ℕ) (n : ℕ) → AreMarksBehind before marks
    → 4294967296 ≤ n → standing_from s marks mailbox n ≡ s
high_new s before [] mailbox n are high = refl
high_new s before (m ∷ marks) mailbox n are high =
    let low = are.0.1.1 in
    let other : is_of mailbox n m ≡ false =
    and_false (bytes_eq m.mailbox mailbox) (eqb m.number n) (other_number m.number n (omega (arith, low, high))) in
    ap (λ (b : Bool). standing_from (cond b (standing_by m.kind) s) marks mailbox n) other
    ∙ high_new s (before ++ m ∷ []) marks mailbox n are.1.1 high

pub looks_same : (entries : List (List ℕ × Standing)) (marks : List Mark) → Knows entries marks → AreMarks marks
    → (mailbox : List ℕ) → is_word mailbox ≡ true → (n : ℕ) → 1 ≤ n
    → look_in entries mailbox n ≡ standing marks mailbox n
looks_same entries marks knows are mailbox word n from = by (ltb n 4294967296) refl
  where
    by : (b : Bool) → ltb n 4294967296 ≡ b → look_in entries mailbox n ≡ standing marks mailbox n
    by true e =
        (let below = ltb-true n 4294967296 e in
        rw e (knows mailbox n (word, (from, omega (arith, below)))))
    by false e =
        (let above = ltb-false n 4294967296 e in
        rw e (sym (high_new Stand.New [] marks mailbox n are above)))

-- ---- so does what is answered

stored_same : (a b : ℕ → Standing) → ((n : ℕ) → 1 ≤ n → a n ≡ b n) → (n : ℕ) → 1 ≤ n → (lines : List MailboxLine)
    → stored_from a n lines ≡ stored_from b n lines
stored_same a b same n from [] = refl
stored_same a b same n from (line ∷ lines) =
    ap (λ (s : Standing). stored_if s n line ++ stored_from a (n + 1) lines) (same n from)
    ∙ ap (λ (es : List StoredEntry). stored_if (b n) n line ++ es)
    (stored_same a b same (n + 1) (omega (arith, from)) lines)

in_same : (asked : Asked) (s : State) (a b : List ℕ → ℕ → Standing) → IsAsked asked
    → ((mailbox : List ℕ) → is_word mailbox ≡ true → (n : ℕ) → 1 ≤ n → a mailbox n ≡ b mailbox n)
    → answer_in asked s a ≡ answer_in asked s b
in_same (Ask.List mailbox) s a b is same =
    ap (λ (es : List StoredEntry). gives (list_text es) None)
    (stored_same (a mailbox) (b mailbox) (same mailbox is) 1 (omega arith) (deliveries mailbox s.machine.mailboxes))
in_same (Ask.Fetch mailbox number) s a b is same =
    ap (fetched s.machine.items mailbox number (numbered (deliveries mailbox s.machine.mailboxes) number))
    (same mailbox is.0 number is.1.0)
in_same (Ask.Delete mailbox number) s a b is same =
    ap (deleted mailbox number (numbered (deliveries mailbox s.machine.mailboxes) number))
    (same mailbox is.0 number is.1.0)

pub answers_same : (asked : Asked) (s : State) (entries : List (List ℕ × Standing)) (marks : List Mark)
    → IsAsked asked → Knows entries marks → AreMarks marks
    → answer_of asked s (look_in entries) ≡ answer_of asked s (standing marks)
answers_same asked s entries marks is knows are =
    ap (answer_if (mailbox_named s (mailbox_asked asked)))
    (in_same asked s (look_in entries) (standing marks) is (looks_same entries marks knows are))

-- ---- the mark that is made is one, and possible

abbrev Makes : List Mark → Answer → Type 0
Makes marks no_mailbox = Unit {0}
Makes marks no_entry = Unit {0}
Makes marks not_fetched = Unit {0}
Makes marks (gives text None) = Unit {0}
Makes marks (gives text (Some m)) = IsMark m × IsPossible marks m

fetched_makes : (marks : List Mark) (items : List ItemValue) (mailbox : List ℕ) (number : ℕ) (line : Option MailboxLine)
    (s : Standing) → IsAsked (Ask.Fetch mailbox number) → standing marks mailbox number ≡ s
    → Makes marks (fetched items mailbox number line s)
fetched_makes marks items mailbox number None s is e = tt
fetched_makes marks items mailbox number (Some line) Stand.New is e =
    (is, subst (λ (x : Standing). Allows x Kinds.Fetched) (sym e) tt)
fetched_makes marks items mailbox number (Some line) Stand.Fetched is e = tt
fetched_makes marks items mailbox number (Some line) Stand.Deleted is e = tt

deleted_makes : (marks : List Mark) (mailbox : List ℕ) (number : ℕ) (line : Option MailboxLine) (s : Standing)
    → IsAsked (Ask.Delete mailbox number) → standing marks mailbox number ≡ s
    → Makes marks (deleted mailbox number line s)
deleted_makes marks mailbox number None s is e = tt
deleted_makes marks mailbox number (Some line) Stand.New is e = tt
deleted_makes marks mailbox number (Some line) Stand.Fetched is e =
    (is, subst (λ (x : Standing). Allows x Kinds.Deleted) (sym e) tt)
deleted_makes marks mailbox number (Some line) Stand.Deleted is e = tt

in_makes : (asked : Asked) (s : State) (marks : List Mark) → IsAsked asked
    → Makes marks (answer_in asked s (standing marks))
in_makes (Ask.List mailbox) s marks is = tt
in_makes (Ask.Fetch mailbox number) s marks is =
    fetched_makes marks s.machine.items mailbox number (numbered (deliveries mailbox s.machine.mailboxes) number)
    (standing marks mailbox number) is refl
in_makes (Ask.Delete mailbox number) s marks is =
    deleted_makes marks mailbox number (numbered (deliveries mailbox s.machine.mailboxes) number)
    (standing marks mailbox number) is refl

of_makes : (o : Option ℕ) (marks : List Mark) (answer : Answer) → Makes marks answer
    → Makes marks (answer_if o answer)
of_makes None marks answer makes = tt
of_makes (Some place) marks answer makes = makes

pub mark_possible : (asked : Asked) (s : State) (marks : List Mark) (text : List ℕ) (m : Mark) → IsAsked asked
    → answer_of asked s (standing marks) ≡ gives text (Some m) → IsMark m × IsPossible marks m
mark_possible asked s marks text m is e =
    subst (Makes marks) e
    (of_makes (mailbox_named s (mailbox_asked asked)) marks (answer_in asked s (standing marks))
    (in_makes asked s marks is))

-- whatever is known of the entries, it is a mark
abbrev MakesMark : Answer → Type 0
MakesMark no_mailbox = Unit {0}
MakesMark no_entry = Unit {0}
MakesMark not_fetched = Unit {0}
MakesMark (gives text None) = Unit {0}
MakesMark (gives text (Some m)) = IsMark m

fetched_mark : (items : List ItemValue) (mailbox : List ℕ) (number : ℕ) (line : Option MailboxLine) (s : Standing)
    → IsAsked (Ask.Fetch mailbox number) → MakesMark (fetched items mailbox number line s)
fetched_mark items mailbox number None s is = tt
fetched_mark items mailbox number (Some line) Stand.New is = is
fetched_mark items mailbox number (Some line) Stand.Fetched is = tt
fetched_mark items mailbox number (Some line) Stand.Deleted is = tt

deleted_mark : (mailbox : List ℕ) (number : ℕ) (line : Option MailboxLine) (s : Standing)
    → IsAsked (Ask.Delete mailbox number) → MakesMark (deleted mailbox number line s)
deleted_mark mailbox number None s is = tt
deleted_mark mailbox number (Some line) Stand.New is = tt
deleted_mark mailbox number (Some line) Stand.Fetched is = is
deleted_mark mailbox number (Some line) Stand.Deleted is = tt

in_mark : (asked : Asked) (s : State) (look : List ℕ → ℕ → Standing) → IsAsked asked
    → MakesMark (answer_in asked s look)
in_mark (Ask.List mailbox) s look is = tt
in_mark (Ask.Fetch mailbox number) s look is =
    fetched_mark s.machine.items mailbox number (numbered (deliveries mailbox s.machine.mailboxes) number)
    (look mailbox number) is
in_mark (Ask.Delete mailbox number) s look is =
    deleted_mark mailbox number (numbered (deliveries mailbox s.machine.mailboxes) number) (look mailbox number) is

of_mark : (o : Option ℕ) (answer : Answer) → MakesMark answer → MakesMark (answer_if o answer)
of_mark None answer makes = tt
of_mark (Some place) answer makes = makes

pub mark_is : (asked : Asked) (s : State) (look : List ℕ → ℕ → Standing) (text : List ℕ) (m : Mark) → IsAsked asked
    → answer_of asked s look ≡ gives text (Some m) → IsMark m
mark_is asked s look text m is e =
    subst MakesMark e
    (of_mark (mailbox_named s (mailbox_asked asked)) (answer_in asked s look) (in_mark asked s look is))
