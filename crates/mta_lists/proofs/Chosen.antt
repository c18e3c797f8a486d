-- The list and the recipient that are chosen.
use Rattle.std.proofs.Common.{◌≡◌, ℕ, zero, suc, ◌<◌, ◌≤◌, List, [], ◌∷◌, length, get_or}
use Rattle.std.proofs.Common.{Option, Some, Result, Ok, Err}
use Rattle.std.proofs.Common.{refl, sym, ◌∙◌, ap, arith}
use Rattle.std.specs.Prelude.{IfOk, slice_get}
use Rattle.mta_tables.specs.declared.entry.MailList.{MailList}
use Rattle.mta_tables.specs.Tables.{TablesValue, tables_of}
use Rattle.mta_tables.specs.Whole.{AreTables}
use Rattle.mta_procedures.specs.Readings.{IsWritableList}
use Rattle.mta_procedures.proofs.ToldLaws.{lists_writable}

pub if_ok_so : {A E : Type 0} (made : Result A E) (P Q : A → Type 0) → ((a : A) → P a → Q a) → IfOk made P
    → IfOk made Q
if_ok_so (Ok a) P Q f h = f a h
if_ok_so (Err e) P Q f h = h

item_at : {X : Type 0} (xs : List X) (i : ℕ) (d : X) → i < length xs → slice_get xs i ≡ Some (get_or xs i d)
item_at [] i d lt = absurd (omega arith)
item_at (x ∷ xs) zero d lt = refl
item_at (x ∷ xs) (suc i) d lt = item_at xs i d (omega arith)

pub list_at : (t : TablesValue) (ls : List MailList) (i : ℕ) (l : MailList) → ls ≡ t.lists → i < length t.lists
    → l ≡ get_or ls i l → slice_get t.lists i ≡ Some l
list_at t ls i l e lt is =
    item_at t.lists i l lt
    ∙ ap (λ (x : MailList). Some x) (ap (λ (xs : List MailList). get_or xs i l) (sym e) ∙ sym is)

pub list_is : (o : Option MailList) (l m : MailList) → o ≡ Some l → o ≡ Some m → l ≡ m
list_is o l m e h = cc

pub few_members : (t : TablesValue) (i : ℕ) (l : MailList) → AreTables t → slice_get t.lists i ≡ Some l
    → length l.members ≤ 1000
few_members t i l whole e = whole.few_members i l (record { found = e })

pub writable : (text : List ℕ) (t : TablesValue) (i : ℕ) (l : MailList) → tables_of text ≡ Ok t
    → slice_get t.lists i ≡ Some l → IsWritableList l
writable text t i l read e = lists_writable text t i l read e
