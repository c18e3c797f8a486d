-- Events that are allowed are steps of a world.
use Rattle.std.proofs.Common.{ℕ, Bool, Option, List, [], ◌∷◌, sym, ap, subst, unwrap_or}
use Rattle.mta_transfer_rules.specs.Receiving as r
use Rattle.mta_world.specs.World.{World, recv_end}
use Rattle.mta_world.specs.Steps as step
use Rattle.mta_world.specs.Steps.{WorldStep, IsWorldRun, receiver_took}
use Rattle.mta_transfer_laws.specs.Events as x
use Rattle.mta_transfer_laws.specs.Events.{WorldEvent, after, after_all, behind, FitsLinks, SenderAllows}
use Rattle.mta_transfer_laws.specs.Events.{ReceiverAllows, AllFit, SenderKeepsRules, ReceiverKeepsRules, EventsAreARun}

module _ (spells : List ℕ → Bool) where
  stepped : (w : World) (event : WorldEvent) → FitsLinks w event → SenderAllows w event → ReceiverAllows spells w event
      → WorldStep spells w (after w event)
  stepped w (x.Sender_opens i) f a b = step.Sender_opens f.0
  stepped w (x.Receiver_opens i) f a b = step.Receiver_opens f.0
  stepped w (x.Sender_joins i) f a b = step.Sender_joins i f.0 f.1 f.2
  stepped w (x.Receiver_joins i) f a b = step.Receiver_joins i f.0 f.1 f.2
  stepped w (x.Sender_puts i u) f a b = step.Sender_puts i u f a.0 a.1
  stepped w (x.Sender_gets i u) f a b = step.Sender_gets i u (behind (w.links i).down) f.0 f.1
  stepped w (x.Sender_makes i st) f a b = step.Sender_makes i st f a.0 a.1 a.2
  stepped w x.Sender_gives_up f a b = step.Sender_gives_up a
  stepped w (x.Receiver_takes i u) f a b =
      subst (λ (z : r.RecvEnd). WorldStep spells w (receiver_took w i (behind (w.links i).up) z))
      (sym (ap (λ (z : Option r.RecvEnd). unwrap_or z (recv_end w (w.links i).recv)) b.1))
      (step.Receiver_takes i u (behind (w.links i).up) b.0 f.0 f.1 b.1)
  stepped w (x.Receiver_puts i u) f a b = step.Receiver_puts i u f b.0 b.1
  stepped w (x.Receiver_makes i st) f a b = step.Receiver_makes i st f b.0 b.1 b.2
  stepped w (x.Receiver_finds i k n piece) f a b = step.Receiver_finds i k n piece f b.0 b.1
  stepped w (x.Loses_up i n) f a b = step.Loses_up i n f
  stepped w (x.Loses_down i n) f a b = step.Loses_down i n f
  stepped w (x.Sender_stops i) f a b = step.Sender_stops i
  stepped w (x.Receiver_stops i) f a b = step.Receiver_stops i
  stepped w x.Sender_crashes f a b = step.Sender_crashes
  stepped w x.Receiver_crashes f a b = step.Receiver_crashes

pub runs : EventsAreARun
runs spells w [] run f a b = run
runs spells w (e ∷ es) run f a b = runs spells (after w e) es (step.Goes_on run (stepped spells w e f.0 a.0 b.0)) f.1
    a.1 b.1
