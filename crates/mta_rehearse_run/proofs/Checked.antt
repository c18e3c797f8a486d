-- What the parts of a check say of a walk.
use Rattle.std.proofs.Common.{◌≡◌, ℕ, ◌-◌, Bool, true, false, List, length, get_or, sym, subst, ◌∙◌, ◌↔◌}
use Rattle.std.specs.Prelude.{IsTrue, Contains}
use Rattle.std.proofs.lemmas.Bool.{false≢true}
use Rattle.mta_tables.specs.Indexes.{passes_at}
use Rattle.mta_tables.specs.Tables.{TablesValue}
use Rattle.mta_rehearse_run.specs.declared.turn.Turn.{Turn}
use Rattle.mta_rehearse_run.specs.declared.walked.WalkEnd.{WalkEnd}
use Rattle.mta_rehearse_run.specs.Agents.{has_name, AreApart}
use Rattle.mta_rehearse_run.specs.Turns.{to_word}
use Rattle.mta_rehearse_run.specs.Walks.{BeginsAt, EachGoesOn, AllDiffer, EndsBy, GoesBack, IsWalkBy}
use Rattle.mta_rehearse_run.proofs.Names.{word_on}

-- ---- an end at one of the agents

pub back_named : (xs : List TablesValue) (word walked : List ℕ) (a : ℕ) (r s : Bool) → AreApart xs
    → r ≡ passes_at (has_name word) xs a → r ≡ true → (IsTrue s ↔ Contains walked a)
    → (IsTrue s ↔ GoesBack (to_word xs word) walked a)
back_named xs word walked a r s apart e same h =
    let on = word_on xs word a r apart e in
    (λ t. (on.0 same, h.0 t), λ g. h.1 g.1)

pub back_other : (xs : List TablesValue) (word walked : List ℕ) (a : ℕ) (r : Bool) → AreApart xs
    → r ≡ passes_at (has_name word) xs a → r ≡ false → (IsTrue r ↔ GoesBack (to_word xs word) walked a)
back_other xs word walked a r apart e other =
    let on = word_on xs word a r apart e in
    (λ t. absurd (false≢true (sym other ∙ t)), λ g. on.1 g.0)

-- ---- all parts

pub walk_checked : (turn : ℕ → Turn) (start : ℕ) (agents : List ℕ) (end : WalkEnd) (last : ℕ) (r : Bool)
    → BeginsAt start agents → EachGoesOn turn agents → AllDiffer agents → last ≡ get_or agents (length agents - 1) 0
    → (IsTrue r ↔ EndsBy (turn last) agents end) → (IsTrue r ↔ IsWalkBy turn start agents end)
walk_checked turn start agents end last r begins goes differ is h = (
  λ t. record {
    path = record { begins = begins; each_next = goes; differ = differ };
    ends = subst (λ (i : ℕ). EndsBy (turn i) agents end) is (h.0 t);
  },
  λ w. h.1 (subst (λ (i : ℕ). EndsBy (turn i) agents end) (sym is) w.ends),
)
