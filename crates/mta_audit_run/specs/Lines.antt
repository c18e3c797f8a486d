-- The lines of an audit: one for each half of each lane.
use Rattle.std.specs.Prelude.{ℕ, ◌&&◌, Bool, true, List, [], ◌∷◌, ◌++◌, length, codes, Option, Some, None}
use Rattle.std.specs.Prelude.{if◌then◌else◌}
use Rattle.std.specs.Fmt.{decimal}
use Rattle.std.specs.List.{flat_map}
use Rattle.mta_audit_run.specs.declared.account.Account.{Account}
use Rattle.mta_audit_run.specs.declared.half.Half.{Half}
use Rattle.mta_audit_run.specs.declared.stop.Spool.{Spool}
use Rattle.mta_audit_run.specs.declared.stop.Spool.TheVariants.{First, Second}
use Rattle.mta_audit_run.specs.declared.verdict.Verdict.{Verdict}
use Rattle.mta_audit_run.specs.declared.verdict.Verdict.TheVariants.{Agrees, Differs}
use Rattle.mta_audit_run.specs.Halves.{IsAudited, agrees, verdict_of}
use Rattle.mta_audit_run.specs.Partners.{is_to, is_covered, partners, out_half, in_half}

-- ---- lines

-- a half of a lane, told of the spool in which it is an initiator's; none where the lane is not covered
pub record Line : Type 0 where
  pub spool : Spool
  pub lane : ℕ
  pub way : List ℕ
  pub half : Option Half

abbrev pub way_out : List ℕ
way_out = codes " out "

abbrev pub way_in : List ℕ
way_in = codes " in "

abbrev pub line : Spool → ℕ → List ℕ → Option Half → Line
line spool lane way half = record { spool = spool; lane = lane; way = way; half = half }

-- a half of a lane with these other ends, where it is covered
abbrev pub where_covered : (begun : Bool) → Account → (ends : List Account) → Half → Option Half
where_covered begun a ends half = if is_covered begun a ends then Some half else None

-- both halves of a lane with these other ends, `out` before `in`
abbrev pub both_lines : Spool → (begun : Bool) → Account → (ends : List Account) → List Line
both_lines spool begun a ends =
    line spool a.number way_out (where_covered begun a ends (out_half a ends))
    ∷ line spool a.number way_in (where_covered begun a ends (in_half a ends)) ∷ []

-- The lines of a lane, where it is an initiator's to the other spool's agent. The other spool has these lanes, and its
-- history begins with a snapshot or not.
abbrev pub lane_lines : Spool → (own other : Option (List ℕ)) → (begun : Bool) → List Account → Account
    → List Line
lane_lines spool own other begun others a =
    if is_to other a then both_lines spool begun a (partners own a.reference others) else []

-- the lines of these lanes
abbrev pub lines_from : Spool → (own other : Option (List ℕ)) → (begun : Bool) → List Account → List Account
    → List Line
lines_from spool own other begun others known = flat_map (lane_lines spool own other begun others) known

-- a half is audited, where it is covered
abbrev pub IsAuditedWhereCovered : Option Half → Type 0
IsAuditedWhereCovered None = Unit {0}
IsAuditedWhereCovered (Some half) = IsAudited half

-- each half that is covered is audited
abbrev pub AllAudited : List Line → Type 0
AllAudited [] = Unit {0}
AllAudited (l ∷ ls) = IsAuditedWhereCovered l.half × AllAudited ls

-- ---- their text

abbrev pub spool_text : Spool → List ℕ
spool_text First = codes "first"
spool_text Second = codes "second"

unfoldable pub lane_text : ℕ → List ℕ
lane_text n = codes " lane " ++ decimal n

unfoldable pub sent_text : ℕ → List ℕ
sent_text n = codes "sent " ++ decimal n

unfoldable pub completed_text : ℕ → List ℕ
completed_text n = codes " completed " ++ decimal n

unfoldable pub agree_text : List ℕ
agree_text = codes " agree\n"

abbrev pub counts_text : (sent completed : ℕ) → List ℕ
counts_text sent completed = sent_text sent ++ (completed_text completed ++ agree_text)

abbrev pub verdict_text : Half → Verdict → List ℕ
verdict_text h Agrees = counts_text (length h.sent) (length h.completed)
verdict_text h (Differs at) = codes "differs at " ++ (decimal at ++ codes "\n")

unfoldable pub not_covered_text : List ℕ
not_covered_text = codes "not covered\n"

abbrev pub half_text : Option Half → List ℕ
half_text None = not_covered_text
half_text (Some half) = verdict_text half (verdict_of half)

abbrev pub line_text : Line → List ℕ
line_text l = spool_text l.spool ++ (lane_text l.lane ++ (l.way ++ half_text l.half))

abbrev pub text_of : List Line → List ℕ
text_of lines = flat_map line_text lines

-- ---- and whether all agree

-- a half agrees, or is not covered
abbrev pub agrees_where_covered : Option Half → Bool
agrees_where_covered None = true
agrees_where_covered (Some half) = agrees (verdict_of half)

abbrev pub all_agree : List Line → Bool
all_agree [] = true
all_agree (l ∷ ls) = agrees_where_covered l.half && all_agree ls
