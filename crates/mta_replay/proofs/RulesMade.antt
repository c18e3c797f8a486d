-- What a step changes for which the rules are made anew.
use Rattle.std.proofs.Common.{◌≡◌, ℕ, zero, suc, true, false, List, [], ◌∷◌, length, Option, Some, None}
use Rattle.std.proofs.Common.{◌<◌, ◌^◌, ◌++◌, Result, Ok, Err, sym, ap, subst, ◌∙◌, arith}
use Rattle.std.specs.Prelude.{IfOk, IfSome, IfNone}
use Rattle.std.specs.List.{AllByRecursion}
use Rattle.std.proofs.lemmas.Option.{same_Some}
use Rattle.mta_records.specs.Body.{HasFields}
use Rattle.mta_records.specs.State.{SnapshotValue}
use Rattle.mta_records.specs.declared.step.Step.{Step}
use Rattle.mta_records.specs.declared.step.Step.TheVariants.{Format, Snapshot}
use Rattle.mta_machine.specs.Items.{Machine, numbered}
use Rattle.mta_machine.specs.Rules.{is_tables_text}
use Rattle.mta_histories.specs.Lanes.{State, empty}
use Rattle.mta_histories.specs.History.{IsPossible}
use Rattle.mta_histories.specs.Kept.{IsKept}
use Rattle.mta_histories.specs.Sound.{CanBegin}
use Rattle.mta_state.specs.Kept.{state_of}
use Rattle.mta_state.specs.Parts.{machine_of}
use Rattle.mta_state.specs.declared.change.Change.TheVariants as change
use Rattle.mta_state.specs.declared.kept.Kept.{Kept}
use Rattle.mta_snapshots.specs.Begins.{Begins}
use Rattle.mta_replay.specs.declared.replay.InForce.{InForce}
use Rattle.mta_replay.specs.declared.replay.Ready.{Ready}
use Rattle.mta_replay.specs.Expected.{AreQueuedUnder}
use Rattle.mta_replay.specs.Ready.{AreFresh, IsReady}
use Rattle.mta_replay.specs.Sound.{AreInForce, AreLast, ReadsLast}
use Rattle.mta_replay.proofs.Begins.{begins-few}
use Rattle.mta_replay.proofs.PutDown.{queued_by}
use Rattle.mta_replay.proofs.Sounds.{numbered-last}

-- ---- tables

-- rules in the format of now, under a text that is recorded, are in force then
pub recorded : (m : Machine) (format : ℕ) (given text : List ℕ) → format ≡ m.format → given ≡ text
    → is_tables_text text ≡ true → AreInForce format given (record m { tables = m.tables ++ text ∷ [] })
recorded m format given text format_is is reads = record {
  in_format = format_is;
  last = numbered-last m.tables text ∙ ap (λ (t : List ℕ). Some t) (sym is);
  reads = subst (λ (t : List ℕ). is_tables_text t ≡ true) (sym is) reads;
}

-- the queues are those of a state with the same items and lanes
pub queued_under : {R : Type 0} (text : R → List ℕ) (s t : State) (rules : Option (InForce R))
    → t.machine.items ≡ s.machine.items → t.lanes.open_lanes ≡ s.lanes.open_lanes → AreQueuedUnder text s rules
    → AreQueuedUnder text t rules
queued_under text s t None items lanes queued = tt
queued_under text s t (Some force) items lanes queued =
    queued_by (text force.rules) s t force.queues items lanes queued

-- ---- the format

-- what is ready for a Format of every version is so for a step that is one
module _ {R E : Type 0} (format : R → ℕ) (text : R → List ℕ) (s : State) (version : ℕ) (step : Step)
    (is : step ≡ Format version)
  where
    pub format_ready : (r : Result (Option (Ready R)) E)
        → IfOk r (λ found. IfSome found (λ ready. (v : ℕ) → IsReady format text s (Format v) ready.change ready.rules))
        → IfOk r (λ found. IfSome found (λ ready. IsReady format text s step ready.change ready.rules))
    format_ready (Ok None) each = tt
    format_ready (Ok (Some ready)) each =
        subst (λ (x : Step). IsReady format text s x ready.change ready.rules) (sym is) (each version)
    format_ready (Err e) each = tt

    pub format_not : (r : Result (Option (Ready R)) E)
        → IfOk r (λ found. IfNone found ((v : ℕ) → IsPossible s (Format v) → ⊥))
        → IfOk r (λ found. IfNone found (IsPossible s step → ⊥))
    format_not (Ok None) each = subst (λ (x : Step). IsPossible s x → ⊥) (sym is) (each version)
    format_not (Ok (Some ready)) each = tt
    format_not (Err e) each = tt

-- ---- a snapshot

all-numbered : {A : Type 0} (P : A → Type 0) (xs : List A) (n : ℕ) (x : A) → AllByRecursion P xs
    → numbered xs n ≡ Some x → P x
all-numbered P [] zero x all e = absurd cc
all-numbered P [] (suc n) x all e = absurd cc
all-numbered P (y ∷ xs) zero x all e = absurd cc
all-numbered P (y ∷ xs) (suc zero) x all e = subst P (same_Some y x e) all.0
all-numbered P (y ∷ xs) (suc (suc n)) x all e = all-numbered P xs (suc n) x all.1 e

-- a state that begins has fewer items than there are numbers
pub begins_numbers : (t : SnapshotValue) (kept : Kept) → HasFields (Snapshot t) → Begins t (Some kept)
    → length kept.parts.items.items < 2 ^ 32
begins_numbers t kept fields begins =
    subst (λ (x : State). length x.machine.items < 2 ^ 32) (sym begins.1) (begins-few t fields)

-- the texts of a state that begins are those of tables
pub begins_reads : (t : SnapshotValue) (kept : Kept) → Begins t (Some kept) → ReadsLast (machine_of kept.parts)
begins_reads t kept begins text is =
    all-numbered (λ text. is_tables_text text ≡ true) t.tables (length t.tables) text begins.0.sound.texts
    (subst (λ (x : State). numbered x.machine.tables (length x.machine.tables) ≡ Some text) begins.1 is)

module _ (s : State) (t : SnapshotValue) (kept : IsKept s) (first : s.begun ≡ false) where
  nothing : s ≡ empty
  nothing = kept.at_first first

  begins-possible : (new : Kept) → HasFields (Snapshot t) → Begins t (Some new) → IsPossible s (Snapshot t)
  begins-possible new fields begins =
      let none : s.moment ≡ 0 = ap (λ (x : State). x.moment) nothing in
      record {
        allowed = subst (λ (x : State). CanBegin x t t.moment) (sym nothing) begins.0;
        as_machine = tt;
        timely = omega (arith, none);
        numbers = begins-few t fields;
      }

  pub snapshot_ready : {R : Type 0} (format : R → ℕ) (text : R → List ℕ) (new : Kept) (rules : Option (InForce R))
      → HasFields (Snapshot t) → Begins t (Some new) → AreLast format text (machine_of new.parts) rules
      → AreFresh rules → AreQueuedUnder text (state_of new) rules
      → IsReady format text s (Snapshot t) (change.Begin new) rules
  snapshot_ready format text new rules fields begins last fresh queued = record {
    is_change = record { possible = begins-possible new fields begins; after = begins.1; can = tt };
    under = subst (λ (x : State). AreLast format text x.machine rules) begins.1 last;
    fresh = fresh;
    queued = subst (λ (x : State). AreQueuedUnder text x rules) begins.1 queued;
  }
