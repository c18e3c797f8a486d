-- Measuring elements one after the other, as a loop does.
use Rattle.std.proofs.Common.{◌≡◌, ℕ, zero, suc, ◌+◌, ◌-◌, ◌≤◌, ◌<◌, Bool, true, false, List, length, drop, Result, Ok}
use Rattle.std.proofs.Common.{Err, refl, sym, ap, ◌∙◌, add_assoc, arith}
use Rattle.std.proofs.lemmas.List.{drop-drop}
use Rattle.mta_ber.specs.declared.fault.Fault.{Fault}
use Rattle.mta_ber.specs.Head.{◌>>=◌}
use Rattle.mta_ber.specs.Element.{Extent, at_end, end_size, element_size, row, run}

abbrev pub added : ℕ → Result ℕ Fault → Result ℕ Fault
added used read = read >>= λ n. Ok (used + n)

pub run_is : (depth : ℕ) (marked : Bool) (at : ℕ) (bytes : List ℕ) → depth ≤ 16
    → run (17 - depth) marked at bytes ≡ row (run (17 - (depth + 1))) (depth + 1) (suc (length bytes)) marked at bytes
unfolding run
run_is depth marked at bytes high =
    let k : 17 - depth ≡ suc (17 - (depth + 1)) = omega arith in
    let d : 17 - (17 - (depth + 1)) ≡ depth + 1 = omega arith in
    rw k (ap (λ (x : ℕ). row (run (17 - (depth + 1))) x (suc (length bytes)) marked at bytes) d)

-- what is known of the row at a place in it: some turns are left, more than octets
pub record Going (inside : Extent) (depth : ℕ) (marked : Bool) (at used : ℕ) (bytes : List ℕ)
    (total : Result ℕ Fault) : Type 0 where
  pub turns : ℕ
  pub enough : length bytes < used + turns
  pub within : used ≤ length bytes
  pub so_far : added used (row inside depth turns marked (at + used) (drop used bytes)) ≡ total

added-added : (m n : ℕ) (read : Result ℕ Fault) → added m (read >>= λ k. Ok (n + k)) ≡ added (m + n) read
added-added m n (Ok k) = ap Ok (sym (add_assoc m n k))
added-added m n (Err f) = refl

pub starts : (inside : Extent) (depth : ℕ) (marked : Bool) (at : ℕ) (bytes : List ℕ)
    → Going inside depth marked at 0 bytes (row inside depth (suc (length bytes)) marked at bytes)
starts inside depth marked at bytes = record {
  turns = suc (length bytes);
  enough = omega arith;
  within = omega arith;
  so_far = rw (ap (λ (x : ℕ). added 0 (row inside depth (suc (length bytes)) marked x bytes)) plain)
      (nothing (row inside depth (suc (length bytes)) marked at bytes));
}
  where
    plain : at + 0 ≡ at
    plain = omega arith

    nothing : (read : Result ℕ Fault) → added 0 read ≡ read
    nothing (Ok n) = ap Ok (omega arith)
    nothing (Err f) = refl

-- one turn, by the turns that are left
one_turn : (inside : Extent) (depth turns : ℕ) (marked : Bool) (at used n : ℕ) (bytes : List ℕ)
    → at_end marked (drop used bytes) ≡ false
    → element_size inside depth (at + used) (drop used bytes) ≡ Ok n
    → added used (row inside depth (suc turns) marked (at + used) (drop used bytes)) ≡ added (used + n)
    (row inside depth turns marked (at + (used + n)) (drop (used + n) bytes))
unfolding row
one_turn inside depth turns marked at used n bytes more e =
    rw (more, e) (rw (drop-drop n used bytes, add_assoc at used n)
    (added-added used n (row inside depth turns marked (at + (used + n)) (drop (used + n) bytes))))

pub goes_on : (inside : Extent) (depth : ℕ) (marked : Bool) (at used n : ℕ) (bytes : List ℕ) (total : Result ℕ Fault)
    → at_end marked (drop used bytes) ≡ false
    → element_size inside depth (at + used) (drop used bytes) ≡ Ok n → 0 < n → used + n ≤ length bytes
    → Going inside depth marked at used bytes total → Going inside depth marked at (used + n) bytes total
goes_on inside depth marked at used n bytes total more e some fits g = go g.turns g.enough g.so_far
  where
    go : (turns : ℕ) → length bytes < used + turns
        → added used (row inside depth turns marked (at + used) (drop used bytes)) ≡ total
        → Going inside depth marked at (used + n) bytes total
    go zero enough so_far = absurd (omega arith)
    go (suc turns) enough so_far = record {
      turns = turns;
      enough = omega arith;
      within = fits;
      so_far =
          sym (one_turn inside depth turns marked at used n bytes more e) ∙ so_far;
    }

fails : (inside : Extent) (depth turns : ℕ) (marked : Bool) (at used : ℕ) (f : Fault) (bytes : List ℕ)
    → at_end marked (drop used bytes) ≡ false
    → element_size inside depth (at + used) (drop used bytes) ≡ Err f
    → added used (row inside depth (suc turns) marked (at + used) (drop used bytes)) ≡ Err f
unfolding row
fails inside depth turns marked at used f bytes more e = rw (more, e) refl

pub ends : (inside : Extent) (depth : ℕ) (marked : Bool) (at used : ℕ) (f : Fault) (bytes : List ℕ)
    (total : Result ℕ Fault) → at_end marked (drop used bytes) ≡ false
    → element_size inside depth (at + used) (drop used bytes) ≡ Err f → Going inside depth marked at used bytes total
    → Err f ≡ total
ends inside depth marked at used f bytes total more e g = go g.turns g.enough g.so_far
  where
    go : (turns : ℕ) → length bytes < used + turns
        → added used (row inside depth turns marked (at + used) (drop used bytes)) ≡ total → Err f ≡ total
    go zero enough so_far = absurd (let w = g.within in omega arith)
    go (suc turns) enough so_far = sym (fails inside depth turns marked at used f bytes more e) ∙ so_far

last_turn : (inside : Extent) (depth turns : ℕ) (marked : Bool) (at used : ℕ) (bytes : List ℕ)
    → at_end marked (drop used bytes) ≡ true
    → added used (row inside depth (suc turns) marked (at + used) (drop used bytes)) ≡ Ok (used + end_size marked)
unfolding row
last_turn inside depth turns marked at used bytes done = rw done refl

pub is_done : (inside : Extent) (depth : ℕ) (marked : Bool) (at used : ℕ) (bytes : List ℕ) (total : Result ℕ Fault)
    → at_end marked (drop used bytes) ≡ true
    → Going inside depth marked at used bytes total → Ok (used + end_size marked) ≡ total
is_done inside depth marked at used bytes total done g = go g.turns g.enough g.so_far
  where
    go : (turns : ℕ) → length bytes < used + turns
        → added used (row inside depth turns marked (at + used) (drop used bytes)) ≡ total
        → Ok (used + end_size marked) ≡ total
    go zero enough so_far = absurd (let w = g.within in omega arith)
    go (suc turns) enough so_far = sym (last_turn inside depth turns marked at used bytes done) ∙ so_far
