-- The octets that are written of a unit.
use Rattle.std.specs.Prelude.{ℕ, pos, ◌^◌, ◌<◌, ◌≤◌, List, [], ◌∷◌, ◌++◌, length}
use Rattle.std.specs.Int.{w32, to_be_bytes}
use Rattle.mta_ber.specs.Canon.{element, primitive, constructed}
use Rattle.mta_ber.specs.declared.text.TextClass.TheVariants.{Ia5}
use Rattle.mta_ber.specs.Contents.{canon_int}
use Rattle.mta_ber.specs.Strings.{IsText}
use Rattle.mta_records.specs.Reference.{IsIdentifier}
use Rattle.mta_rtse.specs.Canon.{canon_reference, canon_rtorq, canon_rtoac, canon_reason}
use Rattle.mta_rtse.specs.Canon.{IsWritableRequest, HasIdentifier, IsReadAgain}
use Rattle.mta_rtse.specs.declared.types.Answer.{Answer}
use Rattle.mta_rtse.specs.Spelling.{request_of}
use Rattle.mta_units.specs.declared.kind.UnitKind.{UnitKind}
use Rattle.mta_units.specs.declared.kind.UnitKind.TheVariants as kind
use Rattle.mta_units.specs.declared.unit.Unit.{Unit as AnyUnit}
use Rattle.mta_units.specs.declared.unit.Unit.TheVariants as unit
use Rattle.mta_units.specs.declared.unit.OpenUnit.{OpenUnit}
use Rattle.mta_units.specs.Kind.{kind_number}

abbrev pub kind_of : AnyUnit → UnitKind
kind_of (unit.Open o) = kind.Open
kind_of (unit.Accept checkpoint window answer) = kind.Accept
kind_of (unit.Reject reason) = kind.Reject
kind_of (unit.Start activity) = kind.Start
kind_of (unit.Piece octets) = kind.Piece
kind_of (unit.Sync number) = kind.Sync
kind_of (unit.SyncAck number) = kind.SyncAck
kind_of (unit.End activity) = kind.End
kind_of (unit.EndAck activity) = kind.EndAck
kind_of (unit.Resume activity number) = kind.Resume
kind_of (unit.ResumeAck activity number) = kind.ResumeAck
kind_of (unit.Discard activity) = kind.Discard
kind_of (unit.DiscardAck activity) = kind.DiscardAck
kind_of (unit.Please priority) = kind.Please
kind_of unit.Give = kind.Give
kind_of (unit.Exception k at) = kind.Exception
kind_of (unit.Abort reason) = kind.Abort
kind_of unit.Close = kind.Close
kind_of unit.CloseAck = kind.CloseAck

-- a number of four octets, the most significant first
abbrev pub number_octets : ℕ → List ℕ
number_octets n = to_be_bytes w32 n

unfoldable pub open_octets : OpenUnit → List ℕ
open_octets o = element (primitive 0 22) o.name ++ canon_reference (constructed 0 16) o.reference
    ++ canon_rtorq o.checkpoint o.window o.twa o.request

abbrev pub body_octets : AnyUnit → List ℕ
body_octets (unit.Open o) = open_octets o
body_octets (unit.Accept checkpoint window answer) = canon_rtoac checkpoint window answer
body_octets (unit.Reject reason) = canon_reason 18 reason
body_octets (unit.Start activity) = number_octets activity
body_octets (unit.Piece octets) = element (primitive 0 4) octets
body_octets (unit.Sync number) = number_octets number
body_octets (unit.SyncAck number) = number_octets number
body_octets (unit.End activity) = number_octets activity
body_octets (unit.EndAck activity) = number_octets activity
body_octets (unit.Resume activity number) = number_octets activity ++ number_octets number
body_octets (unit.ResumeAck activity number) = number_octets activity ++ number_octets number
body_octets (unit.Discard activity) = number_octets activity
body_octets (unit.DiscardAck activity) = number_octets activity
body_octets (unit.Please priority) = canon_int (primitive 0 2) (pos priority)
body_octets unit.Give = []
body_octets (unit.Exception k at) = k ∷ number_octets at
body_octets (unit.Abort reason) = canon_reason 22 reason
body_octets unit.Close = []
body_octets unit.CloseAck = []

-- the canonical octets of a unit
unfoldable pub unit_octets : AnyUnit → List ℕ
unit_octets u = number_octets (length (body_octets u)) ++ kind_number (kind_of u) ∷ body_octets u

-- the number of a kind of fault
pub record IsFaultNumber (k : ℕ) : Type 0 where
  pub first : 1 ≤ k
  pub last : k ≤ 12

pub record IsWritableOpen (o : OpenUnit) : Type 0 where
  pub name_fits : IsText Ia5 1 32 o.name
  pub request_fits : IsWritableRequest o.request

-- the most octets of a piece
abbrev pub longest_piece : ℕ
longest_piece = 2097152

-- what can be written: names of 1 to 32 characters of IA5String, passwords and pieces that are no longer than they may
-- be, and kinds of faults that there are
abbrev pub IsWritable : AnyUnit → Type 0
IsWritable (unit.Open o) = IsWritableOpen o
IsWritable (unit.Accept checkpoint window answer) = IsWritableRequest (request_of answer)
IsWritable (unit.Piece octets) = length octets ≤ longest_piece
IsWritable (unit.Exception k at) = IsFaultNumber k
IsWritable _ = Unit {0}

-- the references that a unit holds are some
pub record HoldsReferences (o : OpenUnit) : Type 0 where
  pub own : IsIdentifier o.reference
  pub asked : HasIdentifier o.request

abbrev pub HasReferences : AnyUnit → Type 0
HasReferences (unit.Open o) = HoldsReferences o
HasReferences (unit.Accept checkpoint window answer) = HasIdentifier (request_of answer)
HasReferences _ = Unit {0}

-- a unit whose fields are in their ranges, with passwords of IA5String: what is read again once it is written
pub record IsOpenUnit (o : OpenUnit) : Type 0 where
  pub name : IsText Ia5 1 32 o.name
  pub reference : IsIdentifier o.reference
  pub checkpoint : o.checkpoint < 2 ^ 32
  pub window : o.window < 2 ^ 32
  pub request : IsReadAgain o.request

pub record IsAcceptUnit (size places : ℕ) (reply : Answer) : Type 0 where
  pub checkpoint : size < 2 ^ 32
  pub window : places < 2 ^ 32
  pub answer : IsReadAgain (request_of reply)

abbrev pub IsUnit : AnyUnit → Type 0
IsUnit (unit.Open o) = IsOpenUnit o
IsUnit (unit.Accept checkpoint window answer) = IsAcceptUnit checkpoint window answer
IsUnit (unit.Reject reason) = reason < 2 ^ 32
IsUnit (unit.Start activity) = activity < 2 ^ 32
IsUnit (unit.Piece octets) = length octets ≤ longest_piece
IsUnit (unit.Sync number) = number < 2 ^ 32
IsUnit (unit.SyncAck number) = number < 2 ^ 32
IsUnit (unit.End activity) = activity < 2 ^ 32
IsUnit (unit.EndAck activity) = activity < 2 ^ 32
IsUnit (unit.Resume activity number) = (activity < 2 ^ 32) × (number < 2 ^ 32)
IsUnit (unit.ResumeAck activity number) = (activity < 2 ^ 32) × (number < 2 ^ 32)
IsUnit (unit.Discard activity) = activity < 2 ^ 32
IsUnit (unit.DiscardAck activity) = activity < 2 ^ 32
IsUnit (unit.Please priority) = priority < 2 ^ 32
IsUnit unit.Give = Unit {0}
IsUnit (unit.Exception k at) = IsFaultNumber k × (at < 2 ^ 32)
IsUnit (unit.Abort reason) = reason < 2 ^ 32
IsUnit unit.Close = Unit {0}
IsUnit unit.CloseAck = Unit {0}
