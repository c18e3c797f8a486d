-- Texts that are too long, and those that are not.
use Rattle.std.proofs.Common.{◌≡◌, ℕ, ◌<◌, ◌≤◌, Bool, cond, List, length, Some, Result, Err, ap}
use Rattle.std.proofs.lemmas.Bool.{lt-ltb, le-ltb}
use Rattle.mta_edge.specs.declared.read.SourceFault.{SourceFault}
use Rattle.mta_edge.specs.declared.read.SourceFault.TheVariants as Faults
use Rattle.mta_edge.specs.Streams.{HasReadCause}
use Rattle.mta_edge.specs.Views.{SourceView}
use Rattle.mta_tables.specs.declared.fault.LineKind.TheVariants as Kinds
use Rattle.mta_tables.specs.Reading.{bad}
use Rattle.mta_rehearse_run.specs.Network.{network_from, network_of}

read_long : (c : List ℕ) → 1048576 < length c → network_of c ≡ bad 1 Kinds.TooLong
unfolding network_of
read_long c long =
    ap (λ (b : Bool). cond b (bad 1 Kinds.TooLong) (network_from 64 0 c)) (lt-ltb 1048576 (length c) long)

pub read_short : (c : List ℕ) → length c ≤ 1048576 → network_of c ≡ network_from 64 0 c
unfolding network_of
read_short c few =
    ap (λ (b : Bool). cond b (bad 1 Kinds.TooLong) (network_from 64 0 c)) (le-ltb 1048576 (length c) few)

abbrev err_of : (T : Type 0) → SourceFault → Result T SourceFault
err_of T x = Err x

pub long_texts : {I T : Type 0} (sources : SourceView I) (old new : I) (why : SourceFault) → why ≡ Faults.TooLong
    → HasReadCause {T = T} sources 1048576 old new (Err why)
    → (c : List ℕ) → sources.left old ≡ Some c → network_of c ≡ bad 1 Kinds.TooLong
long_texts {I} {T} sources old new why is has c e =
    read_long c (has.long (ap (λ (x : SourceFault). err_of T x) is) c e)
