-- What is put of lines.
use Rattle.std.specs.Prelude.{◌≡◌, ℕ, Bool, List, ◌++◌}
use Rattle.mta_audit_run.specs.Lines.{Line, all_agree, text_of}

-- their text is put, and it is answered whether all agree
pub record Puts (lines : List Line) (old new : List ℕ) (all : Bool) : Type 0 where
  pub text : new ≡ old ++ text_of lines
  pub agree : all ≡ all_agree lines
