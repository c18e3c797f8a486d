-- What a mailbox holds, and what is answered to each that is asked of it.
--
-- An entry is a delivery to the mailbox. Its number is its place, from 1, among all deliveries to it, so it stays: over
-- later deliveries, over deletions of others, and over compactions of the spool.
use Rattle.std.specs.Prelude.{◌+◌, ℕ, List, [], ◌∷◌, ◌++◌, Option, Some, None, filter, codes, decimal}
use Rattle.std.specs.List.{flat_map}
use Rattle.mta_apdu_text.specs.Pieces.{moment_text}
use Rattle.mta_commands.specs.Causes.{mailbox_named}
use Rattle.mta_histories.specs.Lanes.{State}
use Rattle.mta_machine.specs.Items.{ItemValue, numbered}
use Rattle.mta_marks.specs.declared.mark.Mark.{Mark}
use Rattle.mta_marks.specs.declared.mark.MarkKind.{MarkKind}
use Rattle.mta_marks.specs.declared.mark.MarkKind.TheVariants as Kinds
use Rattle.mta_marks.specs.declared.mark.Standing.{Standing}
use Rattle.mta_marks.specs.declared.mark.Standing.TheVariants as Stand
use Rattle.mta_records.specs.declared.state.MailboxLine.{MailboxLine}
use Rattle.mta_show.specs.Mailbox.{is_for, item_if}
use Rattle.mta_store_run.specs.Asked.{mailbox_asked}
use Rattle.mta_store_run.specs.declared.asked.Asked.{Asked}
use Rattle.mta_store_run.specs.declared.asked.Asked.TheVariants as Ask

-- ---- what it holds

-- an entry that is new or fetched, with its number
pub record StoredEntry : Type 0 where
  pub number : ℕ
  pub word : List ℕ
  pub line : MailboxLine

-- the entry of this number; none where it was deleted
abbrev pub stored_if : Standing → ℕ → MailboxLine → List StoredEntry
stored_if Stand.New n line = record { number = n; word = codes "new"; line = line } ∷ []
stored_if Stand.Fetched n line = record { number = n; word = codes "fetched"; line = line } ∷ []
stored_if Stand.Deleted n line = []

-- the entries of a mailbox with these deliveries, the first of which has this number; `look` says of each what became
-- of it
abbrev pub stored_from : (look : ℕ → Standing) → ℕ → List MailboxLine → List StoredEntry
stored_from look n [] = []
stored_from look n (line ∷ lines) = stored_if (look n) n line ++ stored_from look (n + 1) lines

-- the deliveries to a mailbox, in their order
abbrev pub deliveries : (mailbox : List ℕ) → List MailboxLine → List MailboxLine
deliveries mailbox lines = filter (is_for mailbox) lines

-- what it holds: its entries with their numbers, without those that were deleted
abbrev pub stored_entries : State → (mailbox : List ℕ) → (look : ℕ → Standing) → List StoredEntry
stored_entries s mailbox look = stored_from look 1 (deliveries mailbox s.machine.mailboxes)

-- ---- as text

unfoldable pub entry_line : StoredEntry → List ℕ
entry_line e =
    decimal e.number ++ (32 ∷ e.word
    ++ (32 ∷ moment_text e.line.moment ++ (codes " item " ++ (decimal e.line.item ++ 10 ∷ []))))

abbrev pub list_text : List StoredEntry → List ℕ
list_text entries = flat_map entry_line entries

-- the APDU of the item that was delivered
abbrev pub item_text : List ItemValue → MailboxLine → List ℕ
item_text items line = item_if (numbered items line.item)

-- ---- what is answered

-- that no mailbox is named so; that it has no entry of that number; that the entry to be deleted is new; or this text,
-- and the mark that is made, if one is
pub data Answer : Type 0 where
  no_mailbox : Answer
  no_entry : Answer
  not_fetched : Answer
  gives : (text : List ℕ) → Option Mark → Answer

abbrev pub mark_of : MarkKind → (mailbox : List ℕ) → (number : ℕ) → Mark
mark_of kind mailbox number = record { kind = kind; mailbox = mailbox; number = number }

-- to fetch an entry: it is marked where it is new
abbrev pub fetched : List ItemValue → (mailbox : List ℕ) → (number : ℕ) → Option MailboxLine → Standing
    → Answer
fetched items mailbox number None s = no_entry
fetched items mailbox number (Some line) Stand.New =
    gives (item_text items line) (Some (mark_of Kinds.Fetched mailbox number))
fetched items mailbox number (Some line) Stand.Fetched = gives (item_text items line) None
fetched items mailbox number (Some line) Stand.Deleted = no_entry

-- to delete one: it is marked where it was fetched
abbrev pub deleted : (mailbox : List ℕ) → (number : ℕ) → Option MailboxLine → Standing → Answer
deleted mailbox number None s = no_entry
deleted mailbox number (Some line) Stand.New = not_fetched
deleted mailbox number (Some line) Stand.Fetched = gives [] (Some (mark_of Kinds.Deleted mailbox number))
deleted mailbox number (Some line) Stand.Deleted = no_entry

-- where the mailbox is named; `look` says of each of its entries what became of it
abbrev pub answer_in : Asked → State → (look : List ℕ → ℕ → Standing) → Answer
answer_in (Ask.List mailbox) s look = gives (list_text (stored_entries s mailbox (look mailbox))) None
answer_in (Ask.Fetch mailbox number) s look =
    fetched s.machine.items mailbox number (numbered (deliveries mailbox s.machine.mailboxes) number)
    (look mailbox number)
answer_in (Ask.Delete mailbox number) s look =
    deleted mailbox number (numbered (deliveries mailbox s.machine.mailboxes) number) (look mailbox number)

abbrev pub answer_if : Option ℕ → Answer → Answer
answer_if None answer = no_mailbox
answer_if (Some place) answer = answer

-- what is answered in this state
abbrev pub answer_of : Asked → State → (look : List ℕ → ℕ → Standing) → Answer
answer_of asked s look = answer_if (mailbox_named s (mailbox_asked asked)) (answer_in asked s look)

-- the mark that is made
abbrev pub made : Option Mark → List Mark
made None = []
made (Some m) = m ∷ []
