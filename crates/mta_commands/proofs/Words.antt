-- What commands read, open and add: who adds steps opens the disk, and `drill` does none of these.
use Rattle.std.proofs.Common.{◌≡◌, Option, None, Some, subst, inl, inr}
use Rattle.mta_words.specs.declared.words.Words.{Words}
use Rattle.mta_words.specs.declared.words.Words.TheVariants as Say
use Rattle.mta_commands.specs.Words.{AddsSteps, Drills, ReadsTables, ReadsApdu, OpensDisk, Serves}
use Rattle.mta_commands.specs.Handed.{Handed, SourceFailed}

-- ---- what one does that another thing comes with

pub adds_opens : (words : Option Words) → AddsSteps words → OpensDisk words
adds_opens (Some Say.Queue) adds = tt
adds_opens (Some (Say.Mailbox name)) adds = tt
adds_opens any adds = adds

pub adds_reads : (words : Option Words) → AddsSteps words → ReadsTables words
adds_reads (Some Say.Submit) adds = adds
adds_reads any adds = adds

pub serves_adds : (words : Option Words) → Serves words → AddsSteps words
serves_adds (Some Say.Submit) serves = tt
serves_adds any serves = serves

pub serves_opens : (words : Option Words) → Serves words → OpensDisk words
serves_opens words serves = adds_opens words (serves_adds words serves)

pub serves_reads : (words : Option Words) → Serves words → ReadsTables words
serves_reads words serves = adds_reads words (serves_adds words serves)

-- ---- the words are those of a command that works on what it is handed

-- these words are in the grammar, and they are not those of `drill`
pub record IsKnown (words : Option Words) : Type 0 where
  pub said : words ≡ None → ⊥
  pub other : Drills words → ⊥

disk_other : (words : Option Words) → OpensDisk words → Drills words → ⊥
disk_other (Some (Say.Drill messages)) opens drills = opens
disk_other any opens drills = drills

tables_other : (words : Option Words) → ReadsTables words → Drills words → ⊥
tables_other (Some (Say.Drill messages)) reads drills = reads
tables_other any reads drills = drills

apdu_other : (words : Option Words) → ReadsApdu words → Drills words → ⊥
apdu_other (Some (Say.Drill messages)) reads drills = reads
apdu_other any reads drills = drills

pub opens_known : (words : Option Words) → OpensDisk words → IsKnown words
opens_known words opens = record { said = λ none. subst OpensDisk none opens; other = disk_other words opens }

pub serves_known : (words : Option Words) → Serves words → IsKnown words
serves_known words serves = opens_known words (serves_opens words serves)

pub tables_known : (words : Option Words) → ReadsTables words → IsKnown words
tables_known words reads = record { said = λ none. subst ReadsTables none reads; other = tables_other words reads }

pub apdu_known : (words : Option Words) → ReadsApdu words → IsKnown words
apdu_known words reads = record { said = λ none. subst ReadsApdu none reads; other = apdu_other words reads }

pub source_known : {D C I : Type 0} (h : Handed D C I) → SourceFailed h → IsKnown h.words
source_known h (inl failed) = tables_known h.words failed.0
source_known h (inr failed) = apdu_known h.words failed.0

pub drills_said : (words : Option Words) → Drills words → words ≡ None → ⊥
drills_said words drills none = subst Drills none drills
