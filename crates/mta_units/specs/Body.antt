-- What the bodies of units say, by their kinds.
use Rattle.std.specs.Prelude.{ℕ, List, Result, Ok, Err, if◌then◌else◌}
use Rattle.mta_ber.specs.declared.fault.Fault.{Fault}
use Rattle.mta_ber.specs.declared.fault.Kind.TheVariants.{BadTag, Trailing}
use Rattle.mta_ber.specs.declared.fault.ReadFault.{ReadFault}
use Rattle.mta_ber.specs.declared.fault.ReadFault.TheVariants as faults
use Rattle.mta_ber.specs.Head.{◌>>=◌, fault}
use Rattle.mta_ber.specs.Element.{Part, first}
use Rattle.mta_ber.specs.Parts.{is_tag}
use Rattle.mta_ber.specs.Strings.{joined, is_empty}
use Rattle.mta_records.specs.Reference.{Identifier}
use Rattle.mta_rtse.specs.Values as rtse
use Rattle.mta_rtse.specs.Identifier.{reference_in}
use Rattle.mta_rtse.specs.Request.{rtorq_in}
use Rattle.mta_rtse.specs.Answer.{rtoac_in}
use Rattle.mta_rtse.specs.Reason.{rtorj_in, rtab_in}
use Rattle.mta_units.specs.declared.kind.UnitKind.{UnitKind}
use Rattle.mta_units.specs.declared.kind.UnitKind.TheVariants as kind
use Rattle.mta_units.specs.declared.unit.Unit.{Unit as AnyUnit}
use Rattle.mta_units.specs.declared.unit.Unit.TheVariants as unit
use Rattle.mta_units.specs.Fixed.{number_in, pair_in, exception_in, nothing_in, bad_size}

abbrev pub tagged : ℕ → ℕ → Part → Result (Unit {0}) Fault
tagged class number p = if is_tag class number p.tag then Ok tt else fault p.at BadTag

-- nothing follows an element
abbrev pub ended : Part → Result (Unit {0}) Fault
ended p = if is_empty p.rest then Ok tt else fault p.at Trailing

-- the one element that a body is
abbrev pub only_in : {A : Type 0} → (Part → Result A Fault) → List ℕ → Result A Fault
only_in read body = first 0 body >>= λ p. read p >>= λ x. ended p >>= λ _. Ok x

-- RTTR (X.228): OCTET STRING
unfoldable pub rttr_in : Part → Result (List ℕ) Fault
rttr_in p = tagged 0 4 p >>= λ _. joined p

-- RTTP (X.228): INTEGER
unfoldable pub rttp_in : Part → Result ℕ Fault
rttp_in p = tagged 0 2 p >>= λ _. rtse.number_in p

unfoldable pub accept_in : List ℕ → Result AnyUnit Fault
accept_in body = only_in rtoac_in body >>= λ a. Ok (unit.Accept a.checkpoint a.window a.answer)

unfoldable pub reject_in : List ℕ → Result AnyUnit Fault
reject_in body = only_in rtorj_in body >>= λ n. Ok (unit.Reject n)

unfoldable pub piece_in : List ℕ → Result AnyUnit Fault
piece_in body = only_in rttr_in body >>= λ o. Ok (unit.Piece o)

unfoldable pub please_in : List ℕ → Result AnyUnit Fault
please_in body = only_in rttp_in body >>= λ n. Ok (unit.Please n)

unfoldable pub abort_in : List ℕ → Result AnyUnit Fault
abort_in body = only_in rtab_in body >>= λ n. Ok (unit.Abort n)

-- a name, IA5String
unfoldable pub name_in : Part → Result (List ℕ) Fault
name_in p = tagged 0 22 p >>= λ _. rtse.word_in p

unfoldable pub tagged_reference_in : Part → Result Identifier Fault
tagged_reference_in p = tagged 0 16 p >>= λ _. reference_in p

-- a name, a reference and RTORQ, one behind the other
unfoldable pub open_in : List ℕ → Result AnyUnit Fault
open_in body =
    first 0 body >>= λ p. name_in p >>= λ name.
    first 0 p.rest >>= λ q. tagged_reference_in q >>= λ reference.
    only_in rtorq_in q.rest >>= λ r.
    Ok (unit.Open (record {
      name = name;
      reference = reference;
      checkpoint = r.checkpoint;
      window = r.window;
      twa =
          r.twa;
      request = r.request;
    }))

-- bodies that are not a single number: two numbers, a fault, or nothing
unfoldable pub other_in : UnitKind → List ℕ → Result AnyUnit Fault
other_in kind.Resume body = pair_in body >>= λ n. Ok (unit.Resume n.0 n.1)
other_in kind.ResumeAck body = pair_in body >>= λ n. Ok (unit.ResumeAck n.0 n.1)
other_in kind.Give body = nothing_in body >>= λ _. Ok unit.Give
other_in kind.Exception body = exception_in body >>= λ n. Ok (unit.Exception n.0 n.1)
other_in kind.Close body = nothing_in body >>= λ _. Ok unit.Close
other_in kind.CloseAck body = nothing_in body >>= λ _. Ok unit.CloseAck
other_in _ body = bad_size

-- bodies of one size
unfoldable pub fixed_in : UnitKind → List ℕ → Result AnyUnit Fault
fixed_in kind.Start body = number_in body >>= λ n. Ok (unit.Start n)
fixed_in kind.Sync body = number_in body >>= λ n. Ok (unit.Sync n)
fixed_in kind.SyncAck body = number_in body >>= λ n. Ok (unit.SyncAck n)
fixed_in kind.End body = number_in body >>= λ n. Ok (unit.End n)
fixed_in kind.EndAck body = number_in body >>= λ n. Ok (unit.EndAck n)
fixed_in kind.Discard body = number_in body >>= λ n. Ok (unit.Discard n)
fixed_in kind.DiscardAck body = number_in body >>= λ n. Ok (unit.DiscardAck n)
fixed_in k body = other_in k body

-- the unit of a kind with this body
unfoldable pub body_in : UnitKind → List ℕ → Result AnyUnit Fault
body_in kind.Open body = open_in body
body_in kind.Accept body = accept_in body
body_in kind.Reject body = reject_in body
body_in kind.Piece body = piece_in body
body_in kind.Please body = please_in body
body_in kind.Abort body = abort_in body
body_in k body = fixed_in k body

-- what was not answered for want of memory
abbrev pub TookNone : {X : Type 0} → Result X ReadFault → Type 0
TookNone (Ok x) = Unit {0}
TookNone (Err faults.Memory) = ⊥
TookNone (Err (faults.Bad f)) = Unit {0}
