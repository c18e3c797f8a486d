-- What is printed.
use Rattle.std.specs.Prelude.{ℕ, ◌≤◌, List, OnOk, OnErr, Result}
use Rattle.mta_edge.specs.declared.outside.Failed.{Failed}
use Rattle.mta_output.specs.Output.{Output, Prints, PrintsFront}

-- what putting a text leaves: all of it is taken, or a front of it and the output has failed
pub record HasPut (text : List ℕ) (out : Output) (result : Result Unit Failed) : Type 0 where
  pub whole : OnOk result (Prints out text)
  pub front : OnErr result (PrintsFront out text)
  pub later : out.faults_before ≤ out.faults_after
