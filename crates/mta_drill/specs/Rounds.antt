-- The rounds of a drill: 1,000 messages each, and the rest in the last one.
use Rattle.std.specs.Prelude.{◌≡◌, ℕ, ◌+◌, ◌-◌, ◌*◌, ◌/◌}
use Rattle.mta_drill_text.specs.Breaks.{breaks_up_to}
use Rattle.mta_drill_text.specs.Text.{drill_text, octets_up_to}
use Rattle.mta_drill.specs.Held.{HasDelivered, HasSent}
use Rattle.mta_drill_text.specs.declared.counts.Counts.{Counts}
use Rattle.mta_drill.specs.declared.drilling.Drilled.{Drilled}
use Rattle.mta_drill.specs.declared.round.Round.{Round}

abbrev pub round_size : ℕ
round_size = 1000

-- how many messages stand before the last round
abbrev pub before_last : ℕ → ℕ
before_last n = ((n - 1) / round_size) * round_size

-- the counts of so many messages behind this one: each was accepted, transferred and delivered, and the link was broken
-- where it is to be
pub record IsWhole (c : Counts) (before count : ℕ) : Type 0 where
  pub accepted : c.accepted ≡ count
  pub transferred : c.transferred ≡ count
  pub delivered : c.delivered ≡ count
  pub broken : c.broken + breaks_up_to before ≡ breaks_up_to (before + count)
  pub octets : c.octets + octets_up_to before ≡ octets_up_to (before + count)

-- What a round of so many messages behind this one left: its counts, and disks that stand for histories in which the
-- first agent has sent each message and the second has each delivered to watt once, in order.
pub record IsPassed (before count : ℕ) (r : Round) : Type 0 where
  pub whole : IsWhole r.counts before count
  pub sent : HasSent r.first before count
  pub delivered : HasDelivered r.second before count

-- What a drill of so many messages left: its text, and disks that stand for histories of its last round, in which the
-- first agent has sent each message and the second has each delivered to watt once, in order.
pub record HasDrilled (n : ℕ) (d : Drilled) : Type 0 where
  pub text : d.text ≡ drill_text n
  pub sent : HasSent d.first (before_last n) (n - before_last n)
  pub delivered : HasDelivered d.second (before_last n) (n - before_last n)
