-- How long the body of a unit is at most that can be written.
use Rattle.std.proofs.Common.{◌≤◌, ◌++◌, length, arith, pos}
use Rattle.std.proofs.lemmas.List.{length-append}
use Rattle.mta_ber.specs.Canon.{element, primitive, constructed}
use Rattle.mta_ber.proofs.RoundTrip.{element_short}
use Rattle.mta_rtse.specs.Canon.{canon_reference, canon_rtorq}
use Rattle.mta_rtse.proofs.SizeLaws.{int_short, reference_short, rtorq_short, rtoac_short, reason_short}
use Rattle.mta_units.specs.declared.unit.Unit.{Unit as AnyUnit}
use Rattle.mta_units.specs.declared.unit.Unit.TheVariants as unit
use Rattle.mta_units.specs.declared.unit.OpenUnit.{OpenUnit}
use Rattle.mta_units.specs.Canon.{open_octets, body_octets, IsWritable, IsWritableOpen, HasReferences, HoldsReferences}

pub open_short : (o : OpenUnit) → IsWritableOpen o → HoldsReferences o → length (open_octets o) ≤ 4374
unfolding open_octets
open_short o w h =
    let name = element (primitive 0 22) o.name in
    let reference = canon_reference (constructed 0 16) o.reference in
    let request = canon_rtorq o.checkpoint o.window o.twa o.request in
    omega (
      arith,
      length-append (name ++ reference) request,
      length-append name reference,
      element_short (primitive 0 22) o.name,
      w.name_fits.at_most,
      reference_short (constructed 0 16) o.reference h.own,
      rtorq_short o.checkpoint o.window o.twa o.request w.request_fits h.asked,
    )

-- at most some octets more than the longest piece
pub body_short : (u : AnyUnit) → IsWritable u → HasReferences u → length (body_octets u) ≤ 2097166
body_short (unit.Open o) w h = omega (arith, open_short o w h)
body_short (unit.Accept checkpoint window answer) w h = omega (arith, rtoac_short checkpoint window answer w h)
body_short (unit.Reject reason) w h = omega (arith, reason_short 18 reason)
body_short (unit.Start activity) w h = omega arith
body_short (unit.Piece octets) w h = omega (arith, w, element_short (primitive 0 4) octets)
body_short (unit.Sync number) w h = omega arith
body_short (unit.SyncAck number) w h = omega arith
body_short (unit.End activity) w h = omega arith
body_short (unit.EndAck activity) w h = omega arith
body_short (unit.Resume activity number) w h = omega arith
body_short (unit.ResumeAck activity number) w h = omega arith
body_short (unit.Discard activity) w h = omega arith
body_short (unit.DiscardAck activity) w h = omega arith
body_short (unit.Please priority) w h = omega (arith, int_short (primitive 0 2) (pos priority))
body_short unit.Give w h = omega arith
body_short (unit.Exception k at) w h = omega arith
body_short (unit.Abort reason) w h = omega (arith, reason_short 22 reason)
body_short unit.Close w h = omega arith
body_short unit.CloseAck w h = omega arith
