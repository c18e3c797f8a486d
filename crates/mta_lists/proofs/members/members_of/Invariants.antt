use Rattle.std.proofs.Common.{◌≡◌, ◌+◌, take}
use Rattle.mta_procedures.specs.Members.{members_from}
use Rattle.mta_lists.proofs.members.members_of.Given as goal

abbrev pub invariant-loop-member : goal.invariant-loop-member
invariant-loop-member l =
    (l.row ≡ members_from 1 l.recipient (take l.member-index l.members)) × (l.number ≡ l.member-index + 1)
