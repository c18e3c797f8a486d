-- An input that is too long for an APDU.
use Rattle.std.proofs.Common.{◌≡◌, ℕ, ◌<◌, cond, List, length, Result, Err, ap}
use Rattle.std.proofs.lemmas.Bool.{lt-leb}
use Rattle.mta_ber.specs.declared.fault.Kind.TheVariants.{TooLong}
use Rattle.mta_ber.specs.Head.{fault}
use Rattle.mta_edge.specs.Views.{SourceView}
use Rattle.mta_apdu.specs.Apdus.{longest_apdu, front_in, apdu_of}
use Rattle.mta_edge.specs.declared.read.SourceFault.{SourceFault}
use Rattle.mta_edge.specs.declared.read.SourceFault.TheVariants as SourceFaults
use Rattle.mta_edge.specs.Streams.{HasReadCause}
use Rattle.mta_commands.specs.Inputs.{HasFirstFault}

read_long : (f : List ℕ) → longest_apdu < length f
    → apdu_of f ≡ Err (record { at = longest_apdu; kind = TooLong })
unfolding apdu_of
read_long f long = ap (λ b. cond b (front_in f) (fault longest_apdu TooLong)) (lt-leb (length f) longest_apdu long)

abbrev err_of : (T : Type 0) → SourceFault → Result T SourceFault
err_of T x = Err x

pub long_input : {I T : Type 0} (sources : SourceView I) (old new : I) (why : SourceFault)
    → why ≡ SourceFaults.TooLong → HasReadCause {T = T} sources longest_apdu old new (Err why) → HasFirstFault
    (sources.left old) longest_apdu TooLong
long_input {I} {T} sources old new why is has i e =
    read_long i (has.long (ap (λ (x : SourceFault). err_of T x) is) i e)
