-- A run in which one message is sent and completed.
use Rattle.std.proofs.Common.{◌≤◌, ℕ, true, List, length, refl, arith}
use Rattle.mta_transfer_rules.specs.Units.{Start, Piece, End, EndAck, Accept}
use Rattle.mta_transfer_rules.specs.Sending as s
use Rattle.mta_transfer_rules.specs.Receiving as r
use Rattle.mta_world.specs.World.{World, Whole, first_world, empty_queue, recv_end}
use Rattle.mta_world.specs.Steps as step
use Rattle.mta_world.specs.Steps.{IsWorldRun, opened_by_sender, joined_by_receiver, receiver_put, sender_got}
use Rattle.mta_world.specs.Steps.{sender_made, sender_put, receiver_took, receiver_made}
use Rattle.mta_world.specs.Agrees.{AMessageArrives}

module _ (octets : List ℕ) (some_octets : 1 ≤ length octets) where
  abbrev w0 : World
  w0 = first_world true 0 1

  abbrev w1 : World
  w1 = opened_by_sender w0

  abbrev w2 : World
  w2 = joined_by_receiver w1 0 (w1.links 0)

  abbrev w3 : World
  w3 = receiver_put w2 0 Accept

  abbrev w4 : World
  w4 = sender_got w3 0 Accept empty_queue

  abbrev w5 : World
  w5 = sender_made w4 0 (s.Start octets)

  abbrev w6 : World
  w6 = sender_put w5 0 (Start 1)

  abbrev end_at : r.RecvStage → r.RecvEnd
  end_at stage = record (recv_end w0 (w0.links 0).recv) { stage = stage }

  abbrev w7 : World
  w7 = receiver_took w6 0 empty_queue (end_at (r.Next 1 0))

  abbrev w8 : World
  w8 = sender_put w7 0 (Piece octets)

  abbrev w9 : World
  w9 = receiver_took w8 0 empty_queue (end_at (r.Held 1 1 octets))

  abbrev w10 : World
  w10 = sender_made w9 0 s.To_end

  abbrev w11 : World
  w11 = sender_put w10 0 (End 1)

  abbrev w12 : World
  w12 = receiver_took w11 0 empty_queue (end_at (r.Ended 1 1 octets))

  abbrev w13 : World
  w13 = receiver_made w12 0 (r.Complete 1 1 octets)

  abbrev w14 : World
  w14 = receiver_put w13 0 (EndAck 1)

  abbrev w15 : World
  w15 = sender_got w14 0 (EndAck 1) empty_queue

  abbrev w16 : World
  w16 = sender_made w15 0 s.Sent

  abbrev Run : World → Type 0
  Run w = IsWorldRun (λ o. true) w

  joined : Run w2
  joined = step.Goes_on (step.Goes_on (step.Begins true 0 1) (step.Sender_opens refl))
      (step.Receiver_joins 0 refl (omega arith) refl)

  accepted : Run w4
  accepted =
      step.Goes_on (step.Goes_on joined (step.Receiver_puts 0 Accept (refl, refl) tt (λ e c. absurd c)))
      (step.Sender_gets 0 Accept empty_queue (refl, refl) Whole)

  started : Run w7
  started =
      step.Goes_on
      (step.Goes_on (step.Goes_on accepted
      (step.Sender_makes 0 (s.Start octets) (refl, refl) refl tt (refl, refl, some_octets)))
      (step.Sender_puts 0 (Start 1) (refl, refl) (λ e. refl) ((λ e. refl), (refl, refl))))
      (step.Receiver_takes 0 (Start 1) empty_queue (end_at (r.Next 1 0)) (refl, refl) Whole refl)

  held : Run w9
  held =
      step.Goes_on (step.Goes_on started
      (step.Sender_puts 0 (Piece octets) (refl, refl) (λ e. refl)
      ((λ e. refl), (1, 0, refl, refl, omega arith, refl))))
      (step.Receiver_takes 0 (Piece octets) empty_queue (end_at (r.Held 1 1 octets)) (refl, refl) Whole refl)

  ended : Run w12
  ended =
      step.Goes_on
      (step.Goes_on (step.Goes_on held (step.Sender_makes 0 s.To_end (refl, refl) refl tt refl))
      (step.Sender_puts 0 (End 1) (refl, refl) (λ e. refl) ((λ e. refl), (1, refl, refl))))
      (step.Receiver_takes 0 (End 1) empty_queue (end_at (r.Ended 1 1 octets)) (refl, refl) Whole refl)

  completed : Run w14
  completed =
      step.Goes_on (step.Goes_on ended
      (step.Receiver_makes 0 (r.Complete 1 1 octets) (refl, refl) refl (refl, refl) refl))
      (step.Receiver_puts 0 (EndAck 1) (refl, refl) (1, octets, refl, refl) (λ e c. absurd c))

  sent : Run w16
  sent =
      step.Goes_on (step.Goes_on completed (step.Sender_gets 0 (EndAck 1) empty_queue (refl, refl) Whole))
      (step.Sender_makes 0 s.Sent (refl, refl) refl tt (EndAck 1, refl, refl))

pub arrives : AMessageArrives
arrives octets le = (w16 octets le, sent octets le, refl, refl)
