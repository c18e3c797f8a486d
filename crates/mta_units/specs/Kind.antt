-- The kinds of units, and their kind octets.
use Rattle.std.specs.Prelude.{ℕ, Bool, true, false, List, [], ◌∷◌, Option, find, ◌==◌}
use Rattle.mta_units.specs.declared.kind.UnitKind.{UnitKind}
use Rattle.mta_units.specs.declared.kind.UnitKind.TheVariants as kind

abbrev pub kind_number : UnitKind → ℕ
kind_number kind.Open = 1
kind_number kind.Accept = 2
kind_number kind.Reject = 3
kind_number kind.Start = 4
kind_number kind.Piece = 5
kind_number kind.Sync = 6
kind_number kind.SyncAck = 7
kind_number kind.End = 8
kind_number kind.EndAck = 9
kind_number kind.Resume = 10
kind_number kind.ResumeAck = 11
kind_number kind.Discard = 12
kind_number kind.DiscardAck = 13
kind_number kind.Please = 14
kind_number kind.Give = 15
kind_number kind.Exception = 16
kind_number kind.Abort = 17
kind_number kind.Close = 18
kind_number kind.CloseAck = 19

abbrev pub all_kinds : List UnitKind
all_kinds =
    kind.Open ∷ kind.Accept ∷ kind.Reject ∷ kind.Start ∷ kind.Piece ∷ kind.Sync ∷ kind.SyncAck
    ∷ kind.End ∷ kind.EndAck ∷ kind.Resume ∷ kind.ResumeAck ∷ kind.Discard ∷ kind.DiscardAck
    ∷ kind.Please ∷ kind.Give ∷ kind.Exception ∷ kind.Abort ∷ kind.Close ∷ kind.CloseAck ∷ []

-- the kind with this kind octet
abbrev pub kind_at : ℕ → Option UnitKind
kind_at octet = find (λ k. kind_number k == octet) all_kinds

-- a unit of this kind has one size: it is read without taking memory
abbrev pub is_fixed : UnitKind → Bool
is_fixed kind.Open = false
is_fixed kind.Accept = false
is_fixed kind.Reject = false
is_fixed kind.Piece = false
is_fixed kind.Please = false
is_fixed kind.Abort = false
is_fixed _ = true
