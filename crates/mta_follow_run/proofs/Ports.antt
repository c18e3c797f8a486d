-- What was found of a text that is to name a port.
use Rattle.std.proofs.Common.{◌≡◌, ◌≢◌, ◌⊎◌, inl, inr, ℕ, List, Result, Ok, sym, ap}
use Rattle.std.proofs.Common.{◌∙◌, arith}
use Rattle.std.specs.Fmt.{decimal}
use Rattle.std.specs.Str.Parse.{ParsesUnsigned}
use Rattle.std.proofs.lemmas.Fmt.{parse-decimal}
use Rattle.mta_follow_run.specs.Words.{IsPort}

-- a port is read as its number
reads : {E : Type 0} (text : List ℕ) (r : Result ℕ E) (port : ℕ) → ParsesUnsigned 16 10 text r → IsPort text port
    → r ≡ Ok port
reads text r port parses p = parse-decimal 16 port text r (omega (arith, p.most))
    (omega (arith, p.most)) p.digits parses

same_ok : {E : Type 0} (n m : ℕ) → ◌≡◌ {A = Result ℕ E} (Ok n) (Ok m) → n ≡ m
same_ok n m e = cc

pub not_read : {E : Type 0} (text : List ℕ) (r : Result ℕ E) → ParsesUnsigned 16 10 text r
    → ((n : ℕ) → r ≡ Ok n → ⊥) → (port : ℕ) → IsPort text port → ⊥
not_read text r parses none port p = none port (reads text r port parses p)

-- a number that is 0, or another text than its digits, is none
pub not_port : {E : Type 0} (text : List ℕ) (r : Result ℕ E) (n : ℕ) → ParsesUnsigned 16 10 text r → r ≡ Ok n
    → (n ≡ 0) ⊎ (decimal n ≢ text) → (port : ℕ) → IsPort text port → ⊥
not_port text r n parses is why port p = by (same_ok n port (sym is ∙ reads text r port parses p)) why
  where
    by : n ≡ port → (n ≡ 0) ⊎ (decimal n ≢ text) → ⊥
    by e (inl none) = omega (arith, p.least, e, none)
    by e (inr other) = other (ap decimal e ∙ sym p.digits)
