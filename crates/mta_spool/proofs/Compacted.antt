-- What compaction and the format make of a history.
use Rattle.std.proofs.Common.{inl, inr, ⊎_elim, ◌≡◌, ℕ, ◌+◌, ◌*◌, ◌≤◌, ◌<◌, ◌^◌, eqb, leb, ltb, Bool, true, false, cond}
use Rattle.std.proofs.Common.{List, [], ◌∷◌, ◌++◌, length, map, min, Option, None, Some, refl, sym, ap, subst, ◌∙◌}
use Rattle.std.proofs.Common.{arith}
use Rattle.std.specs.List.{AllByRecursion}
use Rattle.std.specs.Prelude.{◌⊎◌, ◌&&◌, nat_le, nat_lt, if◌then◌else◌, not}
use Rattle.std.proofs.lemmas.Bool.{and_parts, leb-true, ltb-true}
use Rattle.mta_records.specs.Body.{body_of, HasFields}
use Rattle.mta_records.specs.Sizes.{capped}
use Rattle.mta_records.specs.State.{SnapshotValue}
use Rattle.mta_records.specs.declared.step.Step.{Step}
use Rattle.mta_records.specs.declared.step.Step.TheVariants.{Format, Snapshot}
use Rattle.mta_histories.specs.Compact.{base, compact, compact_need, most_octets, opened, shrinks, snapshot_of}
use Rattle.mta_histories.specs.Compaction.{HasShortItems}
use Rattle.mta_histories.specs.History.{after, after_from, after_step, ArePossible, IsHistory, IsPossible}
use Rattle.mta_histories.specs.Lanes.{State, empty}
use Rattle.mta_histories.specs.Sound.{IsSound}
use Rattle.mta_histories.proofs.CompactionPossible.{compaction_is_possible}
use Rattle.mta_histories.proofs.Keeps.{histories_keep}
use Rattle.mta_histories.proofs.Runs.{possible-more}
use Rattle.mta_sound_laws.proofs.Stays.{histories_are_sound}
use Rattle.mta_sound_laws.proofs.Fits.{snapshots_fit}
use Rattle.mta_images.specs.Image.{AreRecords}
use Rattle.mta_images.proofs.Bodies.{map-more}
use Rattle.mta_journal.specs.Shown.{Shown as JournalShown}
use Rattle.mta_spool.specs.GoingOn.{in_format, IsDone, Shows}
use Rattle.mta_spool.specs.Shown.{compacted_to, with_format}
use Rattle.mta_spool.proofs.ShortItems.{items_short}

-- ---- the format

-- compaction keeps it
pub base_format : (b : Bool) (size : ℕ) (steps : List Step)
    → (after (base b size steps)).machine.format ≡ (after steps).machine.format
base_format b size steps = by (shrinks b size (compact_need steps))
  where
    by : (c : Bool)
        → (after (if c then compact steps else steps)).machine.format ≡ (after steps).machine.format
    by true = refl
    by false = refl

-- behind compaction it is set as opening does it
pub in_format_is : (b : Bool) (size : ℕ) (steps : List Step) → in_format (base b size steps) ≡ opened b size steps
in_format_is b size steps =
    ap
    (λ (n : ℕ). if eqb n 2 then base b size steps else base b size steps ++ Format 2 ∷ [])
    (base_format b size steps)

pub in_format_same : (steps : List Step) → eqb (after steps).machine.format 2 ≡ true → in_format steps ≡ steps
in_format_same steps e = ap (λ (c : Bool). if c then steps else steps ++ Format 2 ∷ []) e

pub in_format_more : (steps : List Step) → eqb (after steps).machine.format 2 ≡ false
    → in_format steps ≡ steps ++ Format 2 ∷ []
in_format_more steps e = ap (λ (c : Bool). if c then steps else steps ++ Format 2 ∷ []) e

-- ---- what shrinks

pub record Shrinks (size need : ℕ) : Type 0 where
  pub long : 1048576 ≤ size
  pub bound : size < 2 ^ 63
  pub halved : 2 * (24 + need) ≤ size
  pub fits : 2 * (24 + need) ≤ most_octets

pub shrinks_parts : (size need : ℕ) → shrinks true size need ≡ true → Shrinks size need
shrinks_parts size need e =
    let a = and_parts
    (nat_le 1048576 size && nat_lt size (2 ^ 63) && nat_le (2 * (24 + need)) size)
    (nat_le (2 * (24 + need)) most_octets) e in
    let b = and_parts (nat_le 1048576 size && nat_lt size (2 ^ 63)) (nat_le (2 * (24 + need)) size) a.0 in
    let c = and_parts (nat_le 1048576 size) (nat_lt size (2 ^ 63)) b.0 in
    record {
      long = leb-true 1048576 size c.0;
      bound = ltb-true size (2 ^ 63) c.1;
      halved = leb-true (2 * (24 + need)) size b.1;
      fits = leb-true (2 * (24 + need)) most_octets a.1;
    }

-- a journal that is too short is not compacted
pub short_stays : (b : Bool) (size : ℕ) (steps : List Step) → size < 1048576 → base b size steps ≡ steps
short_stays b size steps short = by (shrinks b size (compact_need steps)) refl
  where
    never : (c : Bool) → shrinks c size (compact_need steps) ≡ true → ⊥
    never true e = let long = (shrinks_parts size (compact_need steps) e).long in absurd (omega (arith, long, short))
    never false e = absurd cc

    by : (c : Bool) → shrinks b size (compact_need steps) ≡ c → (if c then compact steps else steps) ≡ steps
    by true e = absurd (never b e)
    by false e = refl

pub base_same : (size : ℕ) (steps : List Step) → shrinks true size (compact_need steps) ≡ false
    → base true size steps ≡ steps
base_same size steps e = ap (λ (c : Bool). if c then compact steps else steps) e

pub base_compact : (size : ℕ) (steps : List Step) → shrinks true size (compact_need steps) ≡ true
    → base true size steps ≡ compact steps
base_compact size steps e = ap (λ (c : Bool). if c then compact steps else steps) e

front_records : (xs ys : List Step) → AreRecords (xs ++ ys) → AreRecords xs
front_records [] ys each = tt
front_records (x ∷ xs) ys each = (each.0, front_records xs ys each.1)

pub base_records : (b : Bool) (size : ℕ) (steps : List Step) → AreRecords (opened b size steps)
    → AreRecords (base b size steps)
base_records b size steps each = by (eqb (after steps).machine.format 2) each
  where
    by : (c : Bool) → AreRecords (if c then base b size steps else base b size steps ++ Format 2 ∷ [])
        → AreRecords (base b size steps)
    by true all = all
    by false all = front_records (base b size steps) (Format 2 ∷ []) all

-- ---- what is to be known of a history that is compacted

-- The snapshot of a history can be written, and a history may begin with it: it is sound, and its items are short.
pub record CanCompact (steps : List Step) : Type 0 where
  pub sound : IsSound (after steps)
  pub short : HasShortItems (after steps)
  pub fields : HasFields (Snapshot (snapshot_of (after steps)))
  pub possible : IsPossible empty (Snapshot (snapshot_of (after steps)))

each_fields : (steps : List Step) → AreRecords steps → AllByRecursion HasFields steps
each_fields [] each = tt
each_fields (step ∷ steps) each = (each.0, each_fields steps each.1)

pub sound_after : (steps : List Step) → AreRecords steps → IsHistory steps → IsSound (after steps)
sound_after steps each history = histories_are_sound steps (each_fields steps each) history

numbers_from : (s : State) (steps : List Step) → length s.machine.items < 2 ^ 32 → ArePossible s steps
    → length (after_from s steps).machine.items < 2 ^ 32
numbers_from s [] few possible = few
numbers_from s (step ∷ steps) few possible =
    numbers_from (after_step s step) steps possible.0.numbers possible.1

pub numbers_after : (steps : List Step) → IsHistory steps → length (after steps).machine.items < 2 ^ 32
numbers_after steps history = numbers_from empty steps (omega arith) history

pub can_compact : (steps : List Step) → AreRecords steps → IsHistory steps → (size : ℕ)
    → shrinks true size (compact_need steps) ≡ true → CanCompact steps
can_compact steps each history size shrinks_is =
    let fits = (shrinks_parts size (compact_need steps) shrinks_is).fits in
    let fields = snapshots_fit steps (each_fields steps each) history (omega (arith, fits)) in
    let short = items_short (after steps) fields in
    record {
      sound = sound_after steps each history;
      short = short;
      fields = fields;
      possible = compaction_is_possible (after steps) (histories_keep steps history) (sound_after steps each history)
          short (numbers_after steps history);
    }

-- ---- what opening goes on with is a history of records

base_history : (b : Bool) (size : ℕ) (steps : List Step) → AreRecords steps → IsHistory steps
    → IsHistory (base b size steps)
base_history false size steps each history = history
base_history true size steps each history = by (shrinks true size (compact_need steps)) refl
  where
    by : (c : Bool) → shrinks true size (compact_need steps) ≡ c → IsHistory (if c then compact steps else steps)
    by true e = ((can_compact steps each history size e).possible, tt)
    by false e = history

base_each : (b : Bool) (size : ℕ) (steps : List Step) → AreRecords steps → IsHistory steps
    → AreRecords (base b size steps)
base_each false size steps each history = each
base_each true size steps each history = by (shrinks true size (compact_need steps)) refl
  where
    by : (c : Bool) → shrinks true size (compact_need steps) ≡ c → AreRecords (if c then compact steps else steps)
    by true e = ((can_compact steps each history size e).fields, tt)
    by false e = each

-- the format may be set behind a history with another than the second one
pub format_possible : (steps : List Step) → AreRecords steps → IsHistory steps
    → eqb (after steps).machine.format 2 ≡ false → IsPossible (after steps) (Format 2)
format_possible steps each history older = record {
  allowed = tt;
  as_machine = ⊎_elim {C = (after steps).machine.format ≡ 1} (λ one. one)
      (λ (two : (after steps).machine.format ≡ 2). absurd (not_two two)) (sound_after steps each history).format;
  timely = omega arith;
  numbers = numbers_after steps history;
} where
  not_two : (after steps).machine.format ≡ 2 → ⊥
  not_two two = let e : eqb 2 2 ≡ false = subst (λ (n : ℕ). eqb n 2 ≡ false) two older in absurd cc

pub goes_on_history : (b : Bool) (size : ℕ) (steps : List Step) → AreRecords steps → IsHistory steps
    → IsHistory (opened b size steps)
goes_on_history b size steps each history = by (eqb (after steps).machine.format 2) refl
  where
    by : (c : Bool) → eqb (after steps).machine.format 2 ≡ c
        → IsHistory (if c then base b size steps else base b size steps ++ Format 2 ∷ [])
    by true e = base_history b size steps each history
    by false e =
        possible-more empty (base b size steps) (Format 2) (base_history b size steps each history)
        (format_possible (base b size steps) (base_each b size steps each history)
        (base_history b size steps each history) (ap (λ (n : ℕ). eqb n 2) (base_format b size steps) ∙ e))

-- ---- what is shown of it

shows_same : (bodies : List (List ℕ)) → compacted_to None bodies ≡ bodies
shows_same bodies = refl

pub shows_none : {D : Type 0} (old : JournalShown D) (state : State) (b : Bool)
    → ((steps : List Step) → state ≡ after steps → base b old.size steps ≡ steps) → Shows old state b None
shows_none old state b same steps is = ap (map body_of) (sym (same steps is))

pub shows_some : {D : Type 0} (old : JournalShown D) (state : State) (t : SnapshotValue)
    → ((steps : List Step) → state ≡ after steps → base true old.size steps ≡ Snapshot t ∷ [])
    → Shows old state true (Some (body_of (Snapshot t)))
shows_some old state t is steps of = ap (map body_of) (sym (is steps of))

-- so it is shown whether the format was set
pub is_done : {D : Type 0} (old : JournalShown D) (before state : State) (snapshot : Option (List ℕ)) (b : Bool)
    → Shows old before (eqb old.first 23) snapshot
    → b ≡ not (eqb state.machine.format 2)
    → ((steps : List Step) → before ≡ after steps → state.machine.format ≡ (after steps).machine.format)
    → IsDone old before snapshot b
is_done old before state snapshot b shows is same = (shows, whole)
  where
    set : (c : Bool) (bodies : List (List ℕ)) (steps : List Step) → bodies ≡ map body_of steps
        → with_format (not c) bodies ≡ map body_of (if c then steps else steps ++ Format 2 ∷ [])
    set true bodies steps e = e
    set false bodies steps e = ap (λ (bs : List (List ℕ)). bs ++ body_of (Format 2) ∷ []) e
        ∙ sym (map-more steps (Format 2))

    whole : (steps : List Step) → before ≡ after steps
        → with_format b (compacted_to snapshot (map body_of steps))
        ≡ map body_of (opened (eqb old.first 23) old.size steps)
    whole steps of =
        ap (λ (c : Bool). with_format c (compacted_to snapshot (map body_of steps))) is
        ∙ ap (λ (n : ℕ). with_format (not (eqb n 2)) (compacted_to snapshot (map body_of steps))) (same steps of)
        ∙ set (eqb (after steps).machine.format 2) (compacted_to snapshot (map body_of steps))
        (base (eqb old.first 23) old.size steps) (shows steps of)
