use Rattle.std.proofs.Common.{◌≡◌, ◌&&◌, length, drop}
use Rattle.std.specs.Str.{bytes_eq}
use Rattle.mta_session.proofs.password.is_same_password.Given as goal

abbrev pub invariant-loop-i : goal.invariant-loop-i
invariant-loop-i l = record {
  as_long : length l.one ≡ length l.other;
  so_far : bytes_eq l.one l.other ≡ (l.equal && bytes_eq (drop l.i l.one) (drop l.i l.other));
}
