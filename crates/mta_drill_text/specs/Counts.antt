-- What is counted in the rounds of a drill.
use Rattle.std.specs.Prelude.{ℕ, ◌+◌, ◌-◌, ◌^◌, min}
use Rattle.mta_drill_text.specs.declared.counts.Counts.{Counts}

abbrev pub none_yet : Counts
none_yet = record { accepted = 0; transferred = 0; delivered = 0; broken = 0; octets = 0 }

-- the greatest number of 64 bits
abbrev pub most : ℕ
most = 2 ^ 64 - 1

-- counts of earlier rounds and of one more; no drill has as many
abbrev pub with_round : Counts → Counts → Counts
with_round c d = record {
  accepted = min (c.accepted + d.accepted) most;
  transferred = min (c.transferred + d.transferred) most;
  delivered = min (c.delivered + d.delivered) most;
  broken = min (c.broken + d.broken) most;
  octets = min (c.octets + d.octets) most;
}
