-- What a spool that was opened shows stands on its disk.
use Rattle.std.proofs.Common.{◌≡◌, ℕ, List, refl, sym, subst}
use Rattle.mta_edge.specs.Held.{HeldDisk}
use Rattle.mta_edge.specs.Images.{memory_disk}
use Rattle.mta_records.specs.declared.step.Step.{Step}
use Rattle.mta_histories.specs.Lanes.{State}
use Rattle.mta_images.specs.Image.{StandsFor}
use Rattle.mta_spool.specs.Shown.{Shown}
use Rattle.mta_spool.specs.Stands.{Stands}
use Rattle.mta_spool.proofs.Crashing.{stands_held}
use Rattle.mta_drill_answer_laws.specs.Answers.{Works}
use Rattle.mta_drill_step_laws.specs.First.{HasAccepted}
use Rattle.mta_drill_step_laws.specs.Second.{HasGot}
use Rattle.mta_drill.specs.Calls.{Has_stood, IsOpenable}
use Rattle.mta_drill.specs.Held.{HasDelivered, HasSent, HoldsDelivered, HoldsSent}
use Rattle.mta_drill.specs.Worked.{WasGot, WasSent}

module _ {C : Type 0} (s : Shown HeldDisk C) (opened : (steps : List Step) × Stands memory_disk s steps)
    (before count : ℕ) (disk : HeldDisk) (ended : disk ≡ s.journal.disk) where
  on_disk : StandsFor disk.octets opened.0
  on_disk =
      subst (λ (d : HeldDisk). StandsFor d.octets opened.0) (sym ended)
      (stands_held memory_disk s.journal s.current opened.0 opened.1 s.journal.disk.octets
      (opened.1.holds.file s.journal.disk.octets refl))

  pub has_sent : HoldsSent s.current.machine before count → HasSent disk before count
  has_sent held = record {
    steps = opened.0;
    stands = on_disk;
    sent = subst (λ (x : State). HoldsSent x.machine before count) opened.1.state_is held;
  }

  pub has_delivered : HoldsDelivered s.current.machine before count → HasDelivered disk before count
  has_delivered held = record {
    steps = opened.0;
    stands = on_disk;
    delivered = subst (λ (x : State). HoldsDelivered x.machine before count) opened.1.state_is held;
  }

-- ---- what a spool that works leaves on its disk

module _ (s : Shown HeldDisk (List ℕ)) (works : Works s) (before count : ℕ) (disk : HeldDisk)
    (ended : disk ≡ s.journal.disk) where
  pub was_sent : HasAccepted before count count s.current.machine → WasSent disk.octets before count
  was_sent h = record {
    steps = works.history.0;
    stands = on_disk s works.history before count disk ended;
    accepted = subst (λ (x : State). HasAccepted before count count x.machine) works.history.1.state_is h;
  }

  pub was_got : HasGot before count count s.current.machine → WasGot disk.octets before count
  was_got h = record {
    steps = works.history.0;
    stands = on_disk s works.history before count disk ended;
    got = subst (λ (x : State). HasGot before count count x.machine) works.history.1.state_is h;
  }

-- ---- such a disk is opened again

pub sent_opens : (octets : List ℕ) (before count : ℕ) → WasSent octets before count → IsOpenable octets
sent_opens octets before count w = Has_stood w.steps w.stands w.accepted.format

pub got_opens : (octets : List ℕ) (before count : ℕ) → WasGot octets before count → IsOpenable octets
got_opens octets before count w = Has_stood w.steps w.stands w.got.format
