-- What holds of every world of a run, and the steps that change one link alone.
use Rattle.std.proofs.Common.{◌≡◌, ◌<◌, ◌≤◌, ℕ, Bool, true, false, Option, Some, None, List, ◌∷◌, refl, sym, ◌∙◌, subst}
use Rattle.std.proofs.Common.{arith, inl, inr}
use Rattle.mta_lane_send.specs.Half.{last_of, is_idle}
use Rattle.mta_lane_recv.specs.Half.{is_done}
use Rattle.mta_transfer_rules.specs.Units.{LaneUnit}
use Rattle.mta_world.specs.World.{World, Link, Queue, Message, set_at, Takes, Whole, Cut, Was_sent}
use Rattle.mta_world.specs.Agrees.{IsAmong}
use Rattle.mta_world.proofs.Puts.{Facts}
use Rattle.mta_world.proofs.Durable as d
use Rattle.mta_world.proofs.Durable.{Outcomes, InStep, Receives, Held, among-each, among-last, done-among}
use Rattle.mta_world.proofs.Claims.{Sides, LinkOk, SendOk, RecvOk, CrossOk, Linked, relinked}

abbrev pub sides : (List ℕ → Bool) → (ℕ → List ℕ) → World → Sides
sides spells octets w = record {
  spells = spells;
  size = w.size;
  octets = octets;
  sender_opens = w.sender_opens;
  state = w.state;
  last = w.last;
  completed = w.completed;
  send_link = w.send_link;
  recv_link = w.recv_link;
}

pub record Keeps (spells : List ℕ → Bool) (octets : ℕ → List ℕ) (w : World) : Type 0 where
  pub linked : Linked (sides spells octets w) w.links
  pub outcomes : Outcomes spells octets w.state w.outcome w.abandoned w.sent
  pub in_step : InStep octets w.state w.last w.sent w.completed
  pub receives : Receives spells w.size octets (last_of w.state) w.high w.last w.pieces w.completed
  pub homeless : w.send_link ≡ None → is_idle w.state ≡ true
  pub send_below : (x : ℕ) → w.send_link ≡ Some x → x < w.opened
  pub recv_below : (y : ℕ) → w.recv_link ≡ Some y → y < w.opened

-- the octets are those of the activities that were started
abbrev pub IsOf : (ℕ → List ℕ) → World → Type 0
IsOf octets w = (k : ℕ) → k ≤ last_of w.state → octets k ≡ w.octets k

pub some-same : (x y : ℕ) (o : Option ℕ) → o ≡ Some x → o ≡ Some y → x ≡ y
some-same x y o a b = let e : Some x ≡ Some y = sym a ∙ b in cc

pub takes-way : (a b : Queue) (x : LaneUnit) → Takes a x b → a.way ≡ x ∷ b.way
takes-way a b x Whole = refl
takes-way a b x Cut = refl

-- What the durable halves tell ------------------------------------------------------------------------------

abbrev pub EachSent : World → Type 0
EachSent w = d.EachOf (λ m. (m.activity < d.bound w.state) × (w.outcome m.activity ≡ Was_sent)
    × (w.abandoned m.activity ≡ false)) w.sent

-- an activity under way is not among those sent
pub not_sent : (w : World) → EachSent w → is_idle w.state ≡ false → IsAmong (last_of w.state) w.sent → ⊥
not_sent w ones i a =
    let lt : last_of w.state < d.bound w.state =
    among-each (λ m. (m.activity < d.bound w.state) × (w.outcome m.activity ≡ Was_sent)
    × (w.abandoned m.activity ≡ false)) (λ j. j < d.bound w.state) (last_of w.state) w.sent (λ m g. g.0) ones a in
    omega (arith, lt, d.bound-live w.state i)

pub ahead-among : (octets : ℕ → List ℕ) (w : World) → InStep octets w.state w.last w.sent w.completed → EachSent w
    → is_idle w.state ≡ false → IsAmong (last_of w.state) w.completed → is_done w.last (last_of w.state) ≡ true
ahead-among octets w st ones i a =
    elim st [
      | inl e ↦ absurd (not_sent w ones i (subst (λ (z : List Message). IsAmong (last_of w.state) z) e a))
      | inr g ↦ g.2
    ]

pub facts : (spells : List ℕ → Bool) (octets : ℕ → List ℕ) (w : World) → Keeps spells octets w
    → Facts (sides spells octets w)
facts spells octets w k = record {
  done = λ j g. done-among w.size octets w.high w.last w.pieces w.completed j k.receives.held g;
  good_done = λ j a. d.done-good spells w.size octets (last_of w.state) w.high w.last w.pieces w.completed k.receives j
      a;
  live_done = λ i a. ahead-among octets w k.in_step k.outcomes.sent_ones i a;
}

-- One link changes, and the durable halves do not ----------------------------------------------------------------

pub keep-link : (p : Sides) (f : ℕ → Link) (i : ℕ) (v : Link) → Linked p f → LinkOk p v
    → (p.send_link ≡ Some i → SendOk p (f i) → SendOk p v) → (p.recv_link ≡ Some i → RecvOk p (f i) → RecvOk p v)
    → (p.send_link ≡ Some i → p.recv_link ≡ Some i → CrossOk p i i (f i) (f i) → CrossOk p i i v v)
    → ((y : ℕ) → (y ≡ i → ⊥) → p.send_link ≡ Some i → p.recv_link ≡ Some y → CrossOk p i y (f i) (f y)
    → CrossOk p i y v (f y))
    → ((x : ℕ) → (x ≡ i → ⊥) → p.send_link ≡ Some x → p.recv_link ≡ Some i → CrossOk p x i (f x) (f i)
    → CrossOk p x i (f x) v)
    → Linked p (set_at f i v)
keep-link p f i v o lk sd rc bo se re = relinked p p f i v o (record {
  others = λ l g. g;
  link = lk;
  send_here = λ sx. sd sx (o.sends i sx);
  send_there = λ x ne sx. o.sends x sx;
  recv_here = λ ry. rc ry (o.recvs i ry);
  recv_there = λ y ne ry. o.recvs y ry;
  both_here = λ sx ry. bo sx ry (o.cross i i sx ry);
  sends_here = λ y ne sx ry. se y ne sx ry (o.cross i y sx ry);
  recvs_here = λ x ne sx ry. re x ne sx ry (o.cross x i sx ry);
  none_here = λ x y nx ny sx ry. o.cross x y sx ry;
})
