-- When the link is broken.
use Rattle.std.specs.Prelude.{◌≡◌, ℕ, ◌+◌, ◌-◌, ◌^◌, ◌<◌, min, Some}
use Rattle.mta_session.specs.declared.ask.Ask.{Ask}
use Rattle.mta_session.specs.declared.ask.Ask.TheVariants as asks
use Rattle.mta_drill_text.specs.declared.breaks.Break.{Break}
use Rattle.mta_drill_text.specs.declared.breaks.Break.TheVariants.{BehindConfirm, BehindComplete}
use Rattle.mta_drill_text.specs.Breaks.{break_of}

-- The breaks of a round: how many messages were before it, the last activity in which the link was broken, and how
-- often it was.
pub record Breaks : Type 0 where
  pub before : ℕ
  pub last : ℕ
  pub made : ℕ

-- the place that is reached with a step which a session asks for, in an activity: the sender knows that the first piece
-- is held, or the receiver has the message
abbrev pub IsReached : Break → ℕ → Ask → Type 0
IsReached BehindConfirm activity (asks.Confirm lane generation k number) = (number ≡ 1) × (k ≡ activity)
IsReached BehindComplete activity (asks.Complete lane generation k number piece) = k ≡ activity
IsReached place activity ask = ⊥

-- the activity of a number transfers the message as far behind those of earlier rounds
abbrev pub message_in : Breaks → ℕ → ℕ
message_in b activity = min (b.before + activity) (2 ^ 32 - 1)

-- The link is to be broken right after this step, in this activity: once in it, and where its message has its break.
pub record IsDueIn (b : Breaks) (ask : Ask) (activity : ℕ) : Type 0 where
  pub place : Break
  pub reached : IsReached place activity ask
  pub once : b.last < activity
  pub there : break_of (message_in b activity) ≡ Some place

abbrev pub IsDue : Breaks → Ask → Type 0
IsDue b ask = (activity : ℕ) × IsDueIn b ask activity

-- the link was broken once more, in this activity
abbrev pub one_more : Breaks → ℕ → Breaks
one_more b activity = record { before = b.before; last = activity; made = min (b.made + 1) (2 ^ 32 - 1) }
