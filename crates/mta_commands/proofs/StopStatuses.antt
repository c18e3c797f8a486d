-- What the status of a stop tells.
use Rattle.std.proofs.Common.{◌≡◌, ℕ, List, None, Some, refl, subst, arith, inl, inr}
use Rattle.std.specs.Prelude.{◌⊎◌}
use Rattle.mta_records.specs.declared.step.Step.{Step}
use Rattle.mta_stations.specs.declared.end.Halt.{Halt}
use Rattle.mta_stations.specs.declared.end.Halt.TheVariants as Halts
use Rattle.mta_stations.specs.declared.end.WorkerEnd.{WorkerEnd}
use Rattle.mta_words.specs.declared.words.Words.{Words}
use Rattle.mta_words.specs.declared.words.Words.TheVariants as Say
use Rattle.mta_commands.specs.declared.stop.Stop.{Stop}
use Rattle.mta_commands.specs.Words.{Drills, OpensDisk, Serves}
use Rattle.mta_commands.specs.Handed.{Handed, SourceFailed, DiskFailed}
use Rattle.mta_commands.specs.Lines.{status_of}
use Rattle.mta_commands.specs.DiskLeft.{Opening, uncalled, refused, opened}
use Rattle.mta_commands.specs.Causes.{IsText, of_submit, of_queue, of_serve, of_mailbox, of_decode, of_drill, Cause}
use Rattle.mta_commands.specs.Causes.{usage, memory, source, tables, apdu, not_spool, not_opened, disk, full}
use Rattle.mta_commands.specs.Causes.{spent, no_mailbox, no_peer, full_opening, full_serving, spent_serving, of_worker}
use Rattle.mta_commands.specs.Serving.{stop_of_halt}
use Rattle.mta_commands.proofs.Words.{IsKnown, opens_known, serves_known, tables_known, apdu_known}
use Rattle.mta_commands.proofs.Words.{source_known, drills_said, adds_opens}

-- a fault of the words, the tables, the input or a source
abbrev pub IsEarly : ℕ → Type 0
IsEarly status = (status ≡ 1) ⊎ (status ≡ 2) ⊎ (status ≡ 6) ⊎ (status ≡ 8)

-- ---- the table

-- What the status of a stop tells, and how far the run had come with the disk: a row a status. No stop has 0, and none
-- that has a cause has 9.
pub data StatusTells {D C I : Type 0} (h : Handed D C I) : Opening → ℕ → Type 0 where
  one : h.words ≡ None → StatusTells h uncalled 1
  two : IsKnown h.words → StatusTells h uncalled 2
  three : (opening : Opening) → IsKnown h.words → StatusTells h opening 3
  four : (opening : Opening) → OpensDisk h.words → DiskFailed h → StatusTells h opening 4
  five : (opening : Opening) → IsKnown h.words → StatusTells h opening 5
  six : IsKnown h.words → StatusTells h uncalled 6
  seven : (opening : Opening) → StatusTells h opening 7
  eight : SourceFailed h → StatusTells h uncalled 8
  ten : (opening : Opening) → IsKnown h.words → StatusTells h opening 10

module _ {D C I : Type 0} (h : Handed D C I) where
  said_known : (words : Words) → h.words ≡ Some words → (Drills (Some words) → ⊥) → IsKnown h.words
  said_known words said other = record { said = λ none. cc; other = λ x. other (subst Drills said x) }

  -- the end of a worker decides
  worker_tells : (halt : Halt) → Serves h.words → StatusTells h opened (status_of (stop_of_halt halt))
  worker_tells (Halts.Full size need) serves = five opened (serves_known h.words serves)
  worker_tells (Halts.Spent last) serves = five opened (serves_known h.words serves)
  worker_tells any serves = seven opened

  -- each cause is in its row
  pub stop_tells : (ends : List WorkerEnd) (added : List Step) (opening : Opening) (stop : Stop)
      → Cause h ends added opening stop → StatusTells h opening (status_of stop)
  stop_tells ends added _ _ (usage none) = one none
  stop_tells ends added _ _ (memory opening) = seven opening
  stop_tells ends added _ _ (source failed) = eight failed
  stop_tells ends added _ _ (tables line kind reads first same) = two (tables_known h.words reads)
  stop_tells ends added _ _ (apdu at kind reads read first) = six (apdu_known h.words reads)
  stop_tells ends added _ _ (not_spool at opens inputs none) = three refused (opens_known h.words opens)
  stop_tells ends added _ _ (full_opening size need opens inputs fits) = five refused (opens_known h.words opens)
  stop_tells ends added _ _ (not_opened opens inputs failed) = four refused opens failed
  stop_tells ends added _ _ (disk adds inputs failed) = four opened (adds_opens h.words adds) failed
  stop_tells ends added _ _ (full size need submit inputs why) = five opened (said_known Say.Submit submit (λ x. x))
  stop_tells ends added _ _ (spent last submit inputs why) = five opened (said_known Say.Submit submit (λ x. x))
  stop_tells ends added _ _ (no_mailbox name word none) = ten opened (said_known (Say.Mailbox name) word (λ x. x))
  stop_tells ends added _ _ (no_peer name serves why) = ten uncalled (serves_known h.words serves)
  stop_tells ends added _ _ (full_serving size need serves inputs why) = five opened (serves_known h.words serves)
  stop_tells ends added _ _ (spent_serving last serves inputs why) = five opened (serves_known h.words serves)
  stop_tells ends added _ _ (of_worker halt serves inputs decides) = worker_tells halt serves

  -- ---- its columns

  pub usage_only : (opening : Opening) (n : ℕ) → StatusTells h opening n → n ≡ 1 → h.words ≡ None
  usage_only _ _ (one none) e = none
  usage_only _ _ any e = absurd (omega (arith, e))

  pub disk_only : (opening : Opening) (n : ℕ) → StatusTells h opening n → n ≡ 4
      → OpensDisk h.words × DiskFailed h
  disk_only _ _ (four opening opens failed) e = (opens, failed)
  disk_only _ _ any e = absurd (omega (arith, e))

  pub source_only : (opening : Opening) (n : ℕ) → StatusTells h opening n → n ≡ 8 → SourceFailed h
  source_only _ _ (eight failed) e = failed
  source_only _ _ any e = absurd (omega (arith, e))

  pub sink_never : (opening : Opening) (n : ℕ) → StatusTells h opening n → n ≡ 9 → ⊥
  sink_never _ _ (one none) e = omega (arith, e)
  sink_never _ _ any e = omega (arith, e)

  -- only want of memory takes over where the words are outside the grammar
  pub usage_there : (opening : Opening) (n : ℕ) → StatusTells h opening n → h.words ≡ None → (n ≡ 1) ⊎ (n ≡ 7)
  usage_there _ _ (one none) x = inl refl
  usage_there _ _ (two known) x = absurd (known.said x)
  usage_there _ _ (three opening known) x = absurd (known.said x)
  usage_there _ _ (four opening opens failed) x = absurd ((opens_known h.words opens).said x)
  usage_there _ _ (five opening known) x = absurd (known.said x)
  usage_there _ _ (six known) x = absurd (known.said x)
  usage_there _ _ (seven opening) x = inr refl
  usage_there _ _ (eight failed) x = absurd ((source_known h failed).said x)
  usage_there _ _ (ten opening known) x = absurd (known.said x)

  -- and where they are those of `drill` it stops for that alone
  pub drill_there : (opening : Opening) (n : ℕ) → StatusTells h opening n → Drills h.words → n ≡ 7
  drill_there _ _ (one none) x = absurd (drills_said h.words x none)
  drill_there _ _ (two known) x = absurd (known.other x)
  drill_there _ _ (three opening known) x = absurd (known.other x)
  drill_there _ _ (four opening opens failed) x = absurd ((opens_known h.words opens).other x)
  drill_there _ _ (five opening known) x = absurd (known.other x)
  drill_there _ _ (six known) x = absurd (known.other x)
  drill_there _ _ (seven opening) x = refl
  drill_there _ _ (eight failed) x = absurd ((source_known h failed).other x)
  drill_there _ _ (ten opening known) x = absurd (known.other x)

  pub early : (opening : Opening) (n : ℕ) → StatusTells h opening n → IsEarly n → opening ≡ uncalled
  early _ _ (one none) x = refl
  early _ _ (two known) x = refl
  early _ _ (six known) x = refl
  early _ _ (eight failed) x = refl
  early _ _ any (inl x) = absurd (omega (arith, x))
  early _ _ any (inr (inl x)) = absurd (omega (arith, x))
  early _ _ any (inr (inr (inl x))) = absurd (omega (arith, x))
  early _ _ any (inr (inr (inr x))) = absurd (omega (arith, x))

  -- ---- a text is printed where the words are in the grammar

  said_words : (words : Words) → h.words ≡ Some words → h.words ≡ None → ⊥
  said_words words said none = cc

  pub text_said : (ends : List WorkerEnd) (added : List Step) (opening : Opening) (text : List ℕ)
      → IsText h ends added opening text → h.words ≡ None → ⊥
  text_said ends added _ _ (of_submit n text word inputs small is acc) = said_words Say.Submit word
  text_said ends added _ _ (of_queue text word is) = said_words Say.Queue word
  text_said ends added _ _ (of_mailbox name text word named is) = said_words (Say.Mailbox name) word
  text_said ends added _ _ (of_serve text serves inputs named each is) = (serves_known h.words serves).said
  text_said ends added _ _ (of_decode text word is) = said_words Say.Decode word
  text_said ends added _ _ (of_drill messages text word is) = said_words (Say.Drill messages) word
