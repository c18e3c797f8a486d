-- A session that begins may be carried on.
use Rattle.std.specs.Prelude.{IfOk}
use Rattle.mta_session_run.specs.Running.{IsCalled}
use Rattle.mta_worker.specs.declared.ready.Ready.{Ready}
use Rattle.mta_worker.specs.declared.ready.Ready.TheVariants as ready

-- its first action is awaited, where there is one
abbrev pub MayGoOn : Ready → Type 0
MayGoOn (ready.Begins u first) = IfOk first (IsCalled u)
MayGoOn _ = Unit {0}
