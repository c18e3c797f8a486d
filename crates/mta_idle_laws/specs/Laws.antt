-- What is proved of verdicts and idle items as time goes on, and as steps are made.
use Rattle.std.specs.Prelude.{◌≡◌, ℕ, ◌≤◌, ◌<◌, false, List, Some, None}
use Rattle.mta_machine.specs.Items.{ItemValue, Machine, numbered}
use Rattle.mta_machine.specs.Rules.{verdict_of, is_expired}
use Rattle.mta_machine.specs.Machine.{MachineStep, machine_run}
use Rattle.mta_idle_laws.specs.Idle.{IsIdle, IsIdleUntil}
use Rattle.mta_idle_laws.specs.Later.{GoesOn}
use Rattle.mta_idle_laws.specs.Next.{next_change}

-- the verdicts on an APDU's recipients and whether it has expired are the same at two moments
pub record AreSame (format : ℕ) (text octets : List ℕ) (arrival m n : ℕ) : Type 0 where
  pub verdicts : (r : ℕ) → verdict_of format text octets arrival r m ≡ verdict_of format text octets arrival r n
  pub expired : is_expired format text octets arrival m ≡ is_expired format text octets arrival n

-- nothing changes before the next change, which is to come
pub record StaysUntil (format : ℕ) (text octets : List ℕ) (arrival moment until : ℕ) : Type 0 where
  pub later : moment < until
  pub same : (n : ℕ) → moment ≤ n → n < until → AreSame format text octets arrival n moment
  pub unexpired : is_expired format text octets arrival moment ≡ false

abbrev pub VerdictsStay : Type 0
VerdictsStay =
    (format : ℕ) (text octets : List ℕ) (arrival moment until : ℕ)
    → next_change format text octets arrival moment ≡ Some until
    → StaysUntil format text octets arrival moment until

-- and where no change is to come nothing changes any more
abbrev pub VerdictsAreLast : Type 0
VerdictsAreLast =
    (format : ℕ) (text octets : List ℕ) (arrival moment n : ℕ)
    → next_change format text octets arrival moment ≡ None → moment ≤ n
    → AreSame format text octets arrival n moment

-- an item is idle from a moment on until the next change, where nothing is called for at that moment
abbrev pub IdleUntilNext : Type 0
IdleUntilNext =
    (format : ℕ) (text : List ℕ) (item : ItemValue) (moment until n : ℕ)
    → IsIdleUntil format text item moment (Some until) → moment ≤ n → n < until → IsIdle format text item n

-- whatever steps are made, an item goes on
abbrev pub ItemsGoOn : Type 0
ItemsGoOn =
    (m : Machine) (steps : List MachineStep) (i : ℕ) (item : ItemValue) → numbered m.items i ≡ Some item
    → GoesOn (machine_run m steps).items i item
