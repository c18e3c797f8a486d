use Rattle.std.proofs.Common.{◌≡◌, ◌≤◌, ◌<◌, ◌-◌, ℕ, length}
use Rattle.mta_queue.specs.Queues.{room_at, waits_at}
use Rattle.mta_queue.proofs.peers.Peers.reserve.Given as goal

abbrev pub invariant-loop-place : goal.invariant-loop-place
invariant-loop-place l = record {
  words : l.self.words ≡ l.fn.self.words;
  count : length l.self.queues ≡ length l.fn.self.queues;
  waits : (p i : ℕ) → waits_at l.self.queues p i ≡ waits_at l.fn.self.queues p i;
  room : (p : ℕ) → p < l.place → l.count ≤ room_at l.self.queues p;
}

abbrev pub decreases-loop-place : goal.decreases-loop-place
decreases-loop-place l = length l.self.queues - l.place
