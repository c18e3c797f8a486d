-- In which transfers the link is broken.
use Rattle.std.specs.Prelude.{ℕ, zero, suc, ◌+◌, ◌%◌, Option, None, Some}
use Rattle.mta_drill_text.specs.declared.breaks.Break.{Break}
use Rattle.mta_drill_text.specs.declared.breaks.Break.TheVariants.{BehindConfirm, BehindComplete}

-- by the remainder of a message's number by 3
abbrev pub break_by : ℕ → Option Break
break_by zero = Some BehindConfirm
break_by (suc zero) = Some BehindComplete
break_by (suc (suc n)) = None

-- where the link is broken in the transfer of a message; none where it is not
abbrev pub break_of : ℕ → Option Break
break_of i = break_by (i % 3)

-- how many breaks that makes
abbrev pub count_of : Option Break → ℕ
count_of None = 0
count_of (Some place) = 1

-- how many of the messages from 1 up to this one have a break
unfoldable pub breaks_up_to : ℕ → ℕ
breaks_up_to zero = 0
breaks_up_to (suc n) = breaks_up_to n + count_of (break_of (suc n))
