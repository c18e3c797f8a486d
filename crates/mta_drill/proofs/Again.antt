-- What a spool shows that is opened again on the disk of one that stood for a history.
use Rattle.std.proofs.Common.{◌≡◌, ℕ, zero, suc, Bool, true, false, cond, List, [], ◌∷◌, ◌++◌, length, map, Option}
use Rattle.std.proofs.Common.{Some}
use Rattle.std.proofs.Common.{refl, sym, ap, subst, ◌∙◌}
use Rattle.std.specs.Prelude.{slice_get, ◌==◌}
use Rattle.std.specs.List.{AllByRecursion, list_any}
use Rattle.mta_edge.specs.Held.{HeldDisk}
use Rattle.mta_edge.specs.Images.{memory_disk}
use Rattle.mta_records.specs.declared.state.MailboxLine.{MailboxLine}
use Rattle.mta_records.specs.declared.step.Step.{Step}
use Rattle.mta_records.specs.declared.step.Step.TheVariants as step
use Rattle.mta_machine.specs.Items.{ItemValue, numbered}
use Rattle.mta_histories.specs.Compact.{IsShownAs, base, compact, compact_need, is_named, opened}
use Rattle.mta_histories.specs.Compact.{recorded_from, recorded_item, shrinks, snapshot_of, wants_content}
use Rattle.mta_histories.specs.Compaction.{AreShort, HasShortItems}
use Rattle.mta_histories.specs.History.{after}
use Rattle.mta_histories.specs.Lanes.{State as SpoolState}
use Rattle.mta_histories.specs.Sound.{IsSound, IsSoundItem, item_begun, state_begun}
use Rattle.mta_histories.proofs.Compacting.{snapshots_show_the_same}
use Rattle.mta_histories.proofs.CompactionKept.{wanted-octets}
use Rattle.mta_images.specs.Image.{StandsFor}
use Rattle.mta_images.proofs.Unique.{one_history}
use Rattle.mta_spool.specs.GoingOn.{HasOpened}
use Rattle.mta_spool.specs.Shown.{Shown}
use Rattle.mta_spool.proofs.Compacted.{can_compact}
use Rattle.mta_drill.specs.Worked.{As_it_was, In_snapshot, IsAgain}

-- ---- the history with which it goes on

-- In the format that is set nothing is added.
same-format : (b : Bool) (size : ℕ) (steps : List Step) → (after steps).machine.format ≡ 2
    → opened b size steps ≡ base b size steps
same-format b size steps is =
    ap (λ (n : ℕ). cond (n == 2) (base b size steps) (base b size steps ++ step.Format 2 ∷ [])) is

base-again : (b : Bool) (size : ℕ) (steps : List Step) (image : List ℕ) → StandsFor image steps
    → IsAgain steps (after (base b size steps))
base-again false size steps image stands = As_it_was refl
base-again true size steps image stands = by (shrinks true size (compact_need steps)) refl
  where
    by : (c : Bool) → shrinks true size (compact_need steps) ≡ c
        → IsAgain steps (after (cond c (compact steps) steps))
    by false e = As_it_was refl
    by true e =
        let can = can_compact steps stands.each stands.history size e in
        In_snapshot can.sound can.short refl

module _ (disk : HeldDisk) (s : Shown HeldDisk (List ℕ)) (o : HasOpened memory_disk disk s) where
  pub shows_again : (steps : List Step) → StandsFor disk.octets steps → (after steps).machine.format ≡ 2
      → IsAgain steps s.current
  shows_again steps stands format =
      let opens = o.opens disk.octets refl in
      let same : o.found ≡ steps = one_history disk.octets o.found steps opens.is.stands stands in
      let goes_on : o.steps ≡ base opens.is.first_of_two opens.is.size steps =
      opens.goes_on_is ∙ ap (λ (found : List Step). opened opens.is.first_of_two opens.is.size found) same
      ∙ same-format opens.is.first_of_two opens.is.size steps format in
      let is : s.current ≡ after (base opens.is.first_of_two opens.is.size steps) =
      o.stands.state_is ∙ ap (λ (found : List Step). after found) goes_on in
      subst (λ (x : SpoolState). IsAgain steps x) (sym is)
      (base-again opens.is.first_of_two opens.is.size steps disk.octets stands)

-- ---- the items of a snapshot

abbrev begun_from : List MailboxLine → ℕ → List ItemValue → List ItemValue
begun_from lines n items = map item_begun (recorded_from lines n items)

-- It shows the item as it was, and has all its octets where a recipient waits for them or was delivered to.
pub record IsKeptAs (old new : ItemValue) : Type 0 where
  pub shown : IsShownAs old new
  pub whole : list_any wants_content old.statuses ≡ true → new.octets ≡ old.octets

some-is : (x y : ItemValue) → ◌≡◌ {A = Option ItemValue} (Some x) (Some y) → x ≡ y
some-is x y e = cc

-- the item of the same place is that of which it is a record
abbrev IsOfItem : Option ItemValue → ItemValue → Type 0
IsOfItem o new = (old : ItemValue) × (o ≡ Some old) × IsKeptAs old new

at-place : (moment : ℕ) (lines : List MailboxLine) (n : ℕ) (items : List ItemValue) (k : ℕ) (new : ItemValue)
    → AllByRecursion (IsSoundItem moment) items → AreShort lines n items
    → slice_get (begun_from lines n items) k ≡ Some new → IsOfItem (slice_get items k) new
at-place moment lines n [] k new sound short e = absurd cc
at-place moment lines n (x ∷ items) zero new sound short e =
    let named = is_named lines n in
    let is : item_begun (recorded_item named x) ≡ new = some-is (item_begun (recorded_item named x)) new e in
    subst (λ (y : ItemValue). IsOfItem (Some x) y) is (
      x,
      refl,
      record {
        shown = snapshots_show_the_same moment named x sound.0 short.0.0 short.0.1;
        whole = λ wants. wanted-octets named x wants;
      },
    )
at-place moment lines n (x ∷ items) (suc k) new sound short e =
    at-place moment lines (suc n) items k new sound.1 short.1 e

pub item_again : (s : SpoolState) (n : ℕ) (new : ItemValue) → IsSound s → HasShortItems s
    → numbered (state_begun (snapshot_of s)).machine.items n ≡ Some new → IsOfItem (numbered s.machine.items n) new
item_again s zero new sound short e = absurd cc
item_again s (suc k) new sound short e =
    at-place s.moment s.machine.mailboxes 1 s.machine.items k new sound.items short e

many-from : (lines : List MailboxLine) (n : ℕ) (items : List ItemValue)
    → length (begun_from lines n items) ≡ length items
many-from lines n [] = refl
many-from lines n (x ∷ items) = ap suc (many-from lines (suc n) items)

pub as_many : (s : SpoolState) → length (state_begun (snapshot_of s)).machine.items ≡ length s.machine.items
as_many s = many-from s.machine.mailboxes 1 s.machine.items
