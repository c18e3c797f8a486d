-- What is on its way on the sending end's newest link, beside what that end put there.
use Rattle.std.proofs.Common.{◌≡◌, ◌⊎◌, ◌<◌, ℕ, ◌+◌, true, false, List}
use Rattle.mta_transfer_rules.specs.Units.{LaneUnit}
use Rattle.mta_transfer_rules.specs.Pieces.{piece_of, is_last}
use Rattle.mta_transfer_rules.specs.Sending as s
use Rattle.mta_transfer_rules.specs.Sending.{SendStage}
use Rattle.mta_transfer_rules.specs.Receiving as r
use Rattle.mta_transfer_rules.specs.Receiving.{RecvStage}
use Rattle.mta_world.proofs.Units.{Each, Own, Leftover, HasBegin, NoFinish, NoEnd, NoDiscard, LastOnly, NoEnds, Clean}
use Rattle.mta_world.proofs.Units.{Answered}

-- the receiving end takes part in no transfer, and skips none from h on
abbrev pub IsIdle : ℕ → RecvStage → Type 0
IsIdle h r.Free = Unit {0}
IsIdle h (r.Skips k) = k < h
IsIdle h (r.Discards k) = Unit {0}
IsIdle h _ = ⊥

abbrev pub IsWaiting : ℕ → RecvStage → Type 0
IsWaiting h r.Free = Unit {0}
IsWaiting h (r.Skips k) = k < h
IsWaiting h (r.Discards k) = Unit {0}
IsWaiting h (r.Asked k n) = Unit {0}
IsWaiting h _ = ⊥

-- it takes part in that of h
abbrev pub Busy : ℕ → RecvStage → Type 0
Busy h (r.Next k n) = k ≡ h
Busy h (r.Held k n o) = k ≡ h
Busy h (r.Synced k n o) = k ≡ h
Busy h (r.Ended k n o) = k ≡ h
Busy h (r.Found k) = k ≡ h
Busy h _ = ⊥

-- how far the sending end is with its activity on the link
pub data Phase : Type 0 where
  At_rest : Phase  -- none is under way
  Before : Phase  -- nothing of it is put
  During : Phase
  Behind : Phase  -- End or Discard is put

abbrev pub phase : SendStage → Phase
phase s.Quiet = At_rest
phase s.Opened = Before
phase (s.Started k) = Before
phase (s.End_put k n) = Behind
phase (s.Discard_put k) = Behind
phase any0 = During

abbrev pub IsBehind : Phase → Type 0
IsBehind Behind = Unit {0}
IsBehind _ = ⊥

module _ (bad : ℕ → Type 0) where
  -- all that is on its way, and the receiving end's part, is of activities below h
  abbrev pub Rest : ℕ → RecvStage → List LaneUnit → Type 0
  Rest h e V = IsIdle h e × Each (Leftover bad h) V

  -- the transfer of h goes on
  abbrev pub Begun : ℕ → RecvStage → List LaneUnit → Type 0
  Begun h e V = (Busy h e × Each (Own h) V) ⊎ (IsWaiting h e × HasBegin bad h V)

  -- the receiving end has settled h
  abbrev pub Closed : ℕ → Phase → RecvStage → List LaneUnit → List LaneUnit → Type 0
  Closed h p e V D = Rest (h + 1) e V × Answered h D × (bad h ⊎ IsBehind p)

  abbrev pub Active : ℕ → Phase → RecvStage → List LaneUnit → List LaneUnit → Type 0
  Active h p e V D = (Begun h e V × Each (NoEnds h) D) ⊎ Closed h p e V D

  abbrev pub Talk : ℕ → Phase → RecvStage → List LaneUnit → List LaneUnit → Type 0
  Talk h At_rest e V D = Rest (h + 1) e V × Each (Clean (h + 1)) D
  Talk h Before e V D = Rest h e V × Each (Clean h) D
  Talk h During e V D = Active h During e V D
  Talk h Behind e V D = Active h Behind e V D

-- the stage is of the activity h
abbrev pub Names : ℕ → SendStage → Type 0
Names h s.Quiet = Unit {0}
Names h s.Opened = Unit {0}
Names h (s.Started k) = k ≡ h
Names h (s.Next k n) = k ≡ h
Names h (s.Sync_next k n) = k ≡ h
Names h (s.Last_put k n) = k ≡ h
Names h (s.End_put k n) = k ≡ h
Names h (s.Resume_put k n) = k ≡ h
Names h (s.Discard_put k) = k ≡ h

-- which unit that finishes h may be on its way
abbrev pub Finish : ℕ → SendStage → List LaneUnit → Type 0
Finish h s.Quiet V = Unit {0}
Finish h (s.End_put k n) V = Each (NoDiscard h) V × LastOnly h V
Finish h (s.Discard_put k) V = Each (NoEnd h) V × LastOnly h V
Finish h s.Opened V = Each (NoFinish h) V
Finish h (s.Started k) V = Each (NoFinish h) V
Finish h (s.Next k n) V = Each (NoFinish h) V
Finish h (s.Sync_next k n) V = Each (NoFinish h) V
Finish h (s.Last_put k n) V = Each (NoFinish h) V
Finish h (s.Resume_put k n) V = Each (NoFinish h) V

-- whether the piece that was put is the last
abbrev pub IsCutAt : (size : ℕ) → (ℕ → List ℕ) → SendStage → Type 0
IsCutAt size octets (s.Sync_next k n) = is_last size (octets k) n ≡ false
IsCutAt size octets (s.Last_put k n) = is_last size (octets k) n ≡ true
IsCutAt size octets _ = Unit {0}

-- what a receiving end holds is what was sent, and what it found faulty is so
module _ (size : ℕ) (octets : ℕ → List ℕ) (bad : ℕ → Type 0) where
  abbrev pub Genuine : RecvStage → Type 0
  Genuine (r.Held k n o) = o ≡ piece_of size (octets k) n
  Genuine (r.Synced k n o) = (o ≡ piece_of size (octets k) n) × (is_last size (octets k) n ≡ false)
  Genuine (r.Ended k n o) = o ≡ piece_of size (octets k) n
  Genuine (r.Found k) = bad k
  Genuine (r.Skips k) = bad k
  Genuine _ = Unit {0}
