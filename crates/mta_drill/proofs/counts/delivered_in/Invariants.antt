use Rattle.std.proofs.Common.{◌≡◌, ◌+◌}
use Rattle.mta_drill.specs.Held.{AreDeliveries, AreMessages}
use Rattle.mta_drill_text.specs.Text.{octets_up_to}
use Rattle.mta_drill.proofs.counts.delivered_in.Given as goal

abbrev pub invariant-loop-place : goal.invariant-loop-place
invariant-loop-place l = record {
  messages : AreMessages l.items l.before l.place;
  deliveries : AreDeliveries l.lines l.place;
  octets : l.octets + octets_up_to l.before ≡ octets_up_to (l.before + l.place);
}
