-- Activities in Ending are noted, lane by lane.
use Rattle.std.proofs.Common.{◌≡◌, ℕ, suc, ◌+◌, ◌<◌, List, ◌∷◌, length, get_or, drop, add-one, sym, ap, subst, ◌∙◌}
use Rattle.std.proofs.Math.Seq.{drop-cons}
use Rattle.mta_histories.specs.Lanes.{Lane}
use Rattle.mta_audit_run.specs.declared.account.Account.{Account}
use Rattle.mta_audit_run.specs.Account.{AreAscending}
use Rattle.mta_audit_run.specs.Accounts.{ending_in, with_endings}
use Rattle.mta_audit_run.proofs.Changing.{ending_ascending}

-- those of one lane more
pub endings_on : (lanes : List Lane) (i : ℕ) (lane : Lane) (before behind all : List Account)
    → with_endings (drop i lanes) before ≡ all → lane ≡ get_or lanes i lane → i < length lanes
    → behind ≡ ending_in lane lane.sending before → with_endings (drop (i + 1) lanes) behind ≡ all
endings_on lanes i lane before behind all so_far at inside noted =
    ap (with_endings (drop (i + 1) lanes)) noted
    ∙ (ap (λ (ls : List Lane). with_endings ls before) (sym rest) ∙ so_far)
  where
    rest : drop i lanes ≡ lane ∷ drop (i + 1) lanes
    rest = rw (add-one, drop-cons lanes i lane) (ap (λ (l : Lane). l ∷ drop (suc i) lanes) (sym at))

-- the numbers ascend then
pub endings_ascend : (lane : Lane) (before behind : List Account) → AreAscending before
    → behind ≡ ending_in lane lane.sending before → AreAscending behind
endings_ascend lane before behind each noted =
    subst AreAscending (sym noted) (ending_ascending lane lane.sending before each)
