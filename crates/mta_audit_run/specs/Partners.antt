-- The lanes of two spools that are two ends of one, and their halves.
use Rattle.std.specs.Prelude.{ℕ, ◌==◌, ◌&&◌, not, Bool, true, false, List, [], ◌∷◌, Option, Some, None, bytes_eq}
use Rattle.std.specs.List.{flat_map, filter, list_any}
use Rattle.mta_records.specs.Reference.{Identifier}
use Rattle.mta_records.specs.declared.lane.LaneRole.{LaneRole}
use Rattle.mta_records.specs.declared.lane.LaneRole.TheVariants.{Initiator, Responder}
use Rattle.mta_audit_run.specs.declared.account.Account.{Account}
use Rattle.mta_audit_run.specs.declared.half.Half.{Half}
use Rattle.mta_audit_run.specs.declared.partners.Part.{Part}
use Rattle.mta_audit_run.specs.declared.partners.Part.TheVariants as Parts

abbrev pub is_initiator : LaneRole → Bool
is_initiator Initiator = true
is_initiator Responder = false

abbrev pub is_responder : LaneRole → Bool
is_responder Initiator = false
is_responder Responder = true

abbrev pub same_octets : Option (List ℕ) → Option (List ℕ) → Bool
same_octets None None = true
same_octets None (Some y) = false
same_octets (Some x) None = false
same_octets (Some x) (Some y) = bytes_eq x y

abbrev pub same_reference : Identifier → Identifier → Bool
same_reference i j = (i.common == j.common) && (bytes_eq i.calling j.calling && same_octets i.additional j.additional)

-- it is with the agent of this name, where that has one
abbrev pub is_with : Option (List ℕ) → Account → Bool
is_with None a = false
is_with (Some name) a = bytes_eq name a.peer

-- an initiator's lane to the agent of this name
abbrev pub is_to : Option (List ℕ) → Account → Bool
is_to name a = is_initiator a.role && is_with name a

-- a responder's lane from the agent of this name, which both call the same
abbrev pub is_partner : Option (List ℕ) → Identifier → Account → Bool
is_partner name reference b = is_responder b.role && (same_reference reference b.reference && is_with name b)

-- The lanes of the other spool that are the other end of this one. One is opened only where no other of its name is
-- open, so they are taken together in order, and the last alone may have an activity in Ending.
abbrev pub partners : Option (List ℕ) → Identifier → List Account → List Account
partners name reference others = filter (is_partner name reference) others

-- a lane stands in the snapshot with which its history begins
abbrev pub in_snapshot : Account → Bool
in_snapshot a = a.in_snapshot

-- one is another end of a lane, and stands in a snapshot
abbrev pub is_begun_end : Option (List ℕ) → Identifier → Account → Bool
is_begun_end name reference b = in_snapshot b && is_partner name reference b

abbrev pub is_without : List Account → Bool
is_without [] = true
is_without (b ∷ ends) = false

-- Whether a lane with these other ends is covered: neither it nor another end of it stands in a snapshot; and it has
-- another end, or the other history does not begin with a snapshot, which would have no closed lane.
abbrev pub is_covered : (begun : Bool) → Account → (ends : List Account) → Bool
is_covered begun a ends = not a.in_snapshot && (not (list_any in_snapshot ends) && not (begun && is_without ends))

-- the activities of a lane
abbrev pub part_of : Part → Account → List (List ℕ)
part_of Parts.Sent b = b.sent
part_of Parts.Completed b = b.completed
part_of Parts.Ending b = b.ending

-- what the initiator sends
abbrev pub out_half : Account → List Account → Half
out_half a ends = record { sent = a.sent; ending = a.ending; completed = flat_map (part_of Parts.Completed) ends }

-- what the responder sends
abbrev pub in_half : Account → List Account → Half
in_half a ends = record {
  sent = flat_map (part_of Parts.Sent) ends;
  ending = flat_map (part_of Parts.Ending) ends;
  completed = a.completed;
}
