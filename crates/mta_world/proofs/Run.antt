-- Every world of a run keeps the claims, and so the ends agree.
use Rattle.std.proofs.Common.{◌≡◌, ◌⊎◌, ◌<◌, ℕ, ◌+◌, Bool, true, false, Some, None, List, [], ◌∷◌, ◌++◌, refl, sym, ◌∙◌}
use Rattle.std.proofs.Common.{ap, subst, arith, inl, inr}
use Rattle.mta_lane_send.specs.declared.state.SendState.{SendState}
use Rattle.mta_lane_send.specs.declared.state.SendState.TheVariants as state
use Rattle.mta_lane_send.specs.Half.{last_of, is_idle, is_ending, confirmed_of}
use Rattle.mta_transfer_rules.specs.Sending as s
use Rattle.mta_transfer_rules.specs.Sending.{SendStep, is_dropping}
use Rattle.mta_world.specs.World.{World, Message, Outcome, Unsettled, Was_sent, Was_dropped, Was_refused, Was_denied}
use Rattle.mta_world.specs.World.{first_world}
use Rattle.mta_world.specs.Steps as step
use Rattle.mta_world.specs.Steps.{WorldStep, IsWorldRun, IsOnNewest, sender_made, given_up}
use Rattle.mta_world.specs.Agrees.{Agrees, IsAmong, octets_of}
use Rattle.mta_world.proofs.Durable.{among-each, among-snoc, set-other, bound, IsAhead}
use Rattle.mta_world.proofs.Makes.{confirmed-last}
use Rattle.mta_world.proofs.Claims.{Linked}
use Rattle.mta_world.proofs.Keeps.{sides, Keeps, IsOf}
use Rattle.mta_world.proofs.LinkSteps as links
use Rattle.mta_world.proofs.SendSteps as sends
use Rattle.mta_world.proofs.RecvSteps as recvs
use Rattle.mta_world.proofs.OpenSteps as opens

-- The first world
-- -------------------------------------------------------------------------------------------------------

first-linked : (spells : List ℕ → Bool) (octets : ℕ → List ℕ) (o : Bool) (size window : ℕ)
    → Linked (sides spells octets (first_world o size window)) (first_world o size window).links
first-linked spells octets o size window = record {
  links = λ i. record {
    flows = tt;
    genuine = tt;
    named = tt;
    stage_named = tt;
    fresh = λ u. (refl, refl, tt);
    not_joined = λ so u. (refl, tt);
    not_on = λ so u. refl;
  };
  sends = λ x sx. absurd (let c : None ≡ Some x = sx in cc);
  recvs = λ y ry. absurd (let c : None ≡ Some y = ry in cc);
  cross = λ x y sx ry. absurd (let c : None ≡ Some x = sx in cc);
}

first-keeps : (spells : List ℕ → Bool) (octets : ℕ → List ℕ) (o : Bool) (size window : ℕ)
    → Keeps spells octets (first_world o size window)
first-keeps spells octets o size window = record {
  linked = first-linked spells octets o size window;
  outcomes = record {
    later = λ k lt. (refl, refl);
    live = λ i. absurd (let c : true ≡ false = i in cc);
    sent_ones = tt;
    denied = λ k e. absurd (let c : Unsettled ≡ Was_denied = e in cc);
  };
  in_step = inl refl;
  receives = record { high_below = omega arith; held = tt; done_ones = tt };
  homeless = λ e. refl;
  send_below = λ x sx. absurd (let c : None ≡ Some x = sx in cc);
  recv_below = λ y ry. absurd (let c : None ≡ Some y = ry in cc);
}

-- Each step
-- ---------------------------------------------------------------------------------------------------------------

Holds : (List ℕ → Bool) → World → Type 0
Holds spells w = (octets : ℕ → List ℕ) → IsOf octets w → Keeps spells octets w

-- octets that are those of the activities after a step were those before it
made-of : (octets : ℕ → List ℕ) (w : World) (i : ℕ) (st : SendStep) → IsOf octets (sender_made w i st) → IsOf octets w
made-of octets w i (s.Start new) f = λ k le.
    set-other w.octets (last_of w.state + 1) new k (λ (z : List ℕ). octets k ≡ z → octets k ≡ w.octets k)
    (λ e. absurd (omega (arith, e, le))) (λ e. e) (f k (omega (arith, le)))
made-of octets w i (s.Confirm n) f = λ k le. f k (omega (arith, le, confirmed-last w.state n))
made-of octets w i any3 f = f

module _ (spells : List ℕ → Bool) where
  stepped : (w v : World) → WorldStep spells w v → Holds spells w → Holds spells v
  unfolding Holds
  stepped w v (step.Sender_opens so) g octets f = opens.sender-opens spells octets w (g octets f) so
  stepped w v (step.Receiver_opens so) g octets f = opens.receiver-opens spells octets w (g octets f) so
  stepped w v (step.Sender_joins i so lt off) g octets f = opens.sender-joins spells octets w (g octets f) i so lt off
  stepped w v (step.Receiver_joins i so lt off) g octets f =
      opens.receiver-joins spells octets w (g octets f) i so lt off
  stepped w v (step.Sender_puts i x uses on m) g octets f = links.sends spells octets w (g octets f) f i x uses on m
  stepped w v (step.Sender_gets i x q uses t) g octets f = links.hears spells octets w (g octets f) i x q uses t
  stepped w v (step.Sender_makes i st uses on newest m) g octets f =
      sends.makes spells octets w (g octets (made-of octets w i st f)) (made-of octets w i st f) i on st newest m
  stepped w v (step.Sender_gives_up sg) g octets f = sends.abandons spells octets w (g octets f) sg
  stepped w v (step.Receiver_takes i x q e uses t m) g octets f = links.took spells octets w (g octets f) i x q e t m
  stepped w v (step.Receiver_puts i x uses m late) g octets f = links.puts spells octets w (g octets f) i x uses m late
  stepped w v (step.Receiver_makes i st uses on m sp) g octets f = recvs.makes spells octets w (g octets f) i on st m sp
  stepped w v (step.Receiver_finds i k n piece uses m bad) g octets f =
      links.finds spells octets w (g octets f) i k n piece m bad
  stepped w v (step.Loses_up i n reach) g octets f =
      links.unchanged spells octets w (g octets f) i _ ((g octets f).linked.links i) (λ o. o) (λ o. o) (λ y b c. c)
      (λ x a c. c)
  stepped w v (step.Loses_down i n reach) g octets f =
      links.unchanged spells octets w (g octets f) i _ ((g octets f).linked.links i) (λ o. o) (λ o. o) (λ y b c. c)
      (λ x a c. c)
  stepped w v (step.Sender_stops i) g octets f =
      links.unchanged spells octets w (g octets f) i _ ((g octets f).linked.links i) (λ o. o) (λ o. o) (λ y b c. c)
      (λ x a c. c)
  stepped w v (step.Receiver_stops i) g octets f =
      links.unchanged spells octets w (g octets f) i _ ((g octets f).linked.links i) (λ o. o) (λ o. o) (λ y b c. c)
      (λ x a c. c)
  stepped w v any2 g octets f = links.crashed spells octets w (g octets f) _ (λ i o. o) (λ i o. o) (λ i o. o)
      (λ x y c. c)

  run-holds : (w : World) → IsWorldRun spells w → Holds spells w
  unfolding Holds
  run-holds w (step.Begins o size window) octets f = first-keeps spells octets o size window
  run-holds w (step.Goes_on {w = u} run st) octets f = stepped u w st (run-holds u run) octets f

  pub keeps : (w : World) → IsWorldRun spells w → Keeps spells w.octets w
  unfolding Holds
  keeps w run = run-holds w run w.octets (λ k le. refl)

-- The ends agree
-- ------------------------------------------------------------------------------------------------------------

octets-more : (ms : List Message) (m : Message) → octets_of (ms ++ m ∷ []) ≡ octets_of ms ++ m.octets ∷ []
octets-more [] m = refl
octets-more (x ∷ ms) m = ap (λ (z : List (List ℕ)). x.octets ∷ z) (octets-more ms m)

is-ending : (st : SendState) → is_ending st (last_of st) ≡ true → (st ≡ state.Ending (last_of st) (confirmed_of st))
    × (is_dropping st ≡ false) × (is_idle st ≡ false)
is-ending (state.Ending k c) e = (refl, refl, refl)
is-ending any0 e = absurd cc

module _ (spells : List ℕ → Bool) (w : World) (k : Keeps spells w.octets w) where
  -- what is completed was sent, or is the activity that ends
  settled_so : (j : ℕ) → IsAmong j w.completed → ((w.outcome j ≡ Was_sent) ⊎ (w.outcome j ≡ Unsettled))
      × (w.abandoned j ≡ false)
  settled_so j am = elim k.in_step [
    | inl e ↦ of_sent (subst (λ (z : List Message). IsAmong j z) e am)
    | inr g ↦ ahead g (among-snoc j w.sent _ (subst (λ (z : List Message). IsAmong j z) g.1 am))
  ]
    where
      of_sent : IsAmong j w.sent → ((w.outcome j ≡ Was_sent) ⊎ (w.outcome j ≡ Unsettled)) × (w.abandoned j ≡ false)
      of_sent a =
          among-each (λ m. (m.activity < bound w.state) × (w.outcome m.activity ≡ Was_sent)
          × (w.abandoned m.activity ≡ false))
          (λ i. ((w.outcome i ≡ Was_sent) ⊎ (w.outcome i ≡ Unsettled)) × (w.abandoned i ≡ false)) j w.sent
          (λ m g. (inl g.1, g.2)) k.outcomes.sent_ones a

      ahead : IsAhead w.octets w.state w.last w.sent w.completed → IsAmong j w.sent ⊎ (last_of w.state ≡ j)
          → ((w.outcome j ≡ Was_sent) ⊎ (w.outcome j ≡ Unsettled)) × (w.abandoned j ≡ false)
      ahead g c =
          elim c [
            | inl a ↦ of_sent a
            | inr e ↦
                (let i : (w.state ≡ state.Ending (last_of w.state) (confirmed_of w.state))
                × (is_dropping w.state ≡ false) × (is_idle w.state ≡ false) = is-ending w.state g.0 in
                subst (λ (z : ℕ). ((w.outcome z ≡ Was_sent) ⊎ (w.outcome z ≡ Unsettled)) × (w.abandoned z ≡ false)) e
                (inr (k.outcomes.live i.2).0, (k.outcomes.live i.2).1 ∙ i.1))
          ]

  other : (j : ℕ) (o : Outcome) → (o ≡ Was_sent → ⊥) → (o ≡ Unsettled → ⊥) → w.outcome j ≡ o → IsAmong j w.completed → ⊥
  other j o ns nu e am = elim (settled_so j am).0 [ inl g ↦ ns (sym e ∙ g) | inr g ↦ nu (sym e ∙ g) ]

  pub agrees : Agrees spells w
  agrees = record {
    same = elim k.in_step [
      | inl e ↦ inl (ap octets_of e)
      | inr g ↦ inr (
        last_of w.state,
        confirmed_of w.state,
        (is-ending w.state g.0).0,
        ap octets_of g.1
            ∙ octets-more w.sent _,
      )
    ];
    not_abandoned = λ j e am. (let c : true ≡ false = sym e ∙ (settled_so j am).1 in cc);
    not_dropped = λ j e am. other j Was_dropped (λ c. cc) (λ c. cc) e am;
    not_refused = λ j e am. other j Was_refused (λ c. cc) (λ c. cc) e am;
    not_denied = λ j e am. other j Was_denied (λ c. cc) (λ c. cc) e am;
    denied_spell_nothing = k.outcomes.denied;
  }

pub ends-agree : (spells : List ℕ → Bool) (w : World) → IsWorldRun spells w → Agrees spells w
ends-agree spells w run = agrees spells w (keeps spells w run)
