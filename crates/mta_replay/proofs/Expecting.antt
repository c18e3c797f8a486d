-- What is found for a change before it is made.
use Rattle.std.proofs.Common.{◌≡◌, ◌≤◌, ◌+◌, ℕ, List, length, sym, subst, arith}
use Rattle.std.specs.Prelude.{IfSome}
use Rattle.mta_queue.specs.Queues.{HasRoom}
use Rattle.mta_state.specs.declared.change.Change.{Change}
use Rattle.mta_replay.specs.declared.replay.InForce.{InForce}
use Rattle.mta_replay.specs.Expected.{IsExpected, IsReadOfMade}
use Rattle.mta_replay.specs.Queued.{AreRows, GoesOn, made_by}
use Rattle.mta_replay.proofs.Rowed.{rows_count}

pub expected : {R : Type 0} (text : R → List ℕ) (force : InForce R) (new : Change) (words : List (List ℕ)) (count : ℕ)
    → AreRows (text force.rules) words force.coming.items (made_by new) → force.queues.words ≡ words
    → count ≡ length force.coming.items → HasRoom force.queues.queues (count + 2) → count ≤ force.queues.room
    → GoesOn new → IfSome force.read (IsReadOfMade new) → IsExpected text force new
expected text force new words count rows same is places room goes_on read =
    let all = rows_count (text force.rules) words force.coming.items (made_by new) rows in
    record {
      goes_on = goes_on;
      rows =
          subst (λ (ws : List (List ℕ)). AreRows (text force.rules) ws force.coming.items (made_by new)) (sym same)
          rows;
      room = omega (arith, all, is, room);
      places = λ place within. (let free = places place within in omega (arith, all, is, free));
      read = read;
    }
