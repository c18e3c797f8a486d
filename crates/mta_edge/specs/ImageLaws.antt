-- The laws of a disk for the one in memory.
use Rattle.std.specs.Prelude.{ℕ, zero, suc, ◌≤◌, ◌≡◌, List, [], ◌∷◌, length, take, Option, Some}
use mathlib.Core.Path.{sym, refl, subst}
use mathlib.Core.Logic.{inr}
use Rattle.std.proofs.Common.{arith}
use Rattle.std.proofs.lemmas.List.{take_all}
use Rattle.mta_edge.specs.Views.{DiskLaws}
use Rattle.mta_edge.specs.Held.{HeldDisk}
use Rattle.mta_edge.specs.Images.{MayLeave, seen_at, LeftAt, LeftSince, memory_disk}
use Rattle.mta_edge.specs.declared.log.Called.{Called}

-- behind all calls a read gives what it gives now
pub seen_at_end : (log : List Called) (k : ℕ) (now : List ℕ) → length log ≤ k → seen_at log k now ≡ now
unfolding seen_at
seen_at_end [] k now le = refl
seen_at_end (call ∷ log) zero now le = absurd (omega arith)
seen_at_end (call ∷ log) (suc k) now le = seen_at_end log k now (omega arith)

pub left_at_end : (d : HeldDisk) (k : ℕ) (g : List ℕ) → length d.log ≤ k → LeftAt d k g
    → MayLeave d.log d.octets g
left_at_end d k g le left =
    let same = take_all k d.log le in
    let seen = seen_at_end d.log k d.octets le in
    subst (λ (log : List Called). MayLeave log d.octets g) same
    (subst (λ (now : List ℕ). MayLeave (take k d.log) now g) seen left)

pub at_end_left : (d : HeldDisk) (k : ℕ) (g : List ℕ) → length d.log ≤ k → MayLeave d.log d.octets g
    → LeftAt d k g
at_end_left d k g le may =
    let same = take_all k d.log le in
    let seen = seen_at_end d.log k d.octets le in
    subst (λ (now : List ℕ). MayLeave (take k d.log) now g) (sym seen)
    (subst (λ (log : List Called). MayLeave log d.octets g) (sym same) may)

-- what a read gives is one of the images
pub some_same : (a b : List ℕ) → ◌≡◌ {A = Option (List ℕ)} (Some a) (Some b) → b ≡ a
some_same a b e = cc

counts_at_end : (d : HeldDisk) (t : ℕ) (g : List ℕ) → t ≤ length d.log → MayLeave d.log d.octets g
    → LeftSince d t g
counts_at_end d t g le may = record {
  calls = length d.log;
  from = le;
  until = omega arith;
  image = at_end_left d (length d.log) g (omega arith) may;
}

pub memory_disk_laws : DiskLaws memory_disk
memory_disk_laws = record {
  reads_image = λ d f told. inr (some_same d.octets f told);
  counts_now = counts_at_end;
  only_now = λ d g left. left_at_end d left.calls g left.from left.image;
}
