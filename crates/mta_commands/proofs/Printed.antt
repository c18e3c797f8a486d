-- What a run printed, from what its command printed and how its stop was told.
use Rattle.std.proofs.Common.{◌≡◌, ℕ, ◌≤◌, List, ◌++◌, length, Option, Result, Ok, Err, refl, sym, ap}
use Rattle.std.proofs.Common.{subst, ◌∙◌}
use Rattle.std.proofs.Common.{arith, append_assoc, inl, inr}
use Rattle.std.proofs.lemmas.List.{length-append}
use Rattle.mta_edge.specs.Views.{SinkView}
use Rattle.mta_edge.specs.Outside.{Goes, Goes-then}
use Rattle.mta_edge.specs.Streams.{TakesFront}
use Rattle.mta_commands.specs.declared.stop.Stop.{Stop}
use Rattle.mta_commands.specs.declared.stop.Stop.TheVariants as Stops
use Rattle.mta_commands.specs.Lines.{line_of, status_of}
use Rattle.mta_output.specs.Output.{Output, output, Prints, line, short, failed, short_failed}
use Rattle.mta_commands.specs.Output.{IsFront, PrintsOrFails, whole, stopped, cut, IsEnded}
use Rattle.mta_commands.specs.Output.{done, told, cut_text, cut_line, HasTold, HasClosed}

joined : (t more a b g : List ℕ) → b ≡ a ++ t → g ≡ b ++ more → g ≡ a ++ (t ++ more)
joined t more a b g first then = then ∙ ap (λ (x : List ℕ). x ++ more) first ∙ append_assoc a t more

line_behind : (t more : List ℕ) (before mid now : Option (List ℕ)) → Goes (λ a b. b ≡ a ++ t) before mid
    → Goes (λ a b. b ≡ a ++ more) mid now → Goes (λ a b. b ≡ a ++ (t ++ more)) before now
line_behind t more before mid now p q = Goes-then (λ a b g was first then. joined t more a b g first then) p q

front_joined : (t more a b g : List ℕ) → b ≡ a ++ t → TakesFront more b g → TakesFront (t ++ more) a g
front_joined t more a b g first front = (
  front.0,
  record {
    whole = front.1.whole ∙ ap (λ (x : List ℕ). x ++ more) first ∙ append_assoc a t more;
    longer = omega (arith, front.1.longer, ap length first, length-append a t);
  },
)

front_behind : (t more : List ℕ) (before mid now : Option (List ℕ)) → Goes (λ a b. b ≡ a ++ t) before mid
    → Goes (TakesFront more) mid now → Goes (TakesFront (t ++ more)) before now
front_behind t more before mid now p q = Goes-then (λ a b g was first then. front_joined t more a b g first then) p q

module _ {O : Type 0} (sinks : SinkView O) (a b c : O) (Cause : Stop → Type 0) (IsText : List ℕ → Type 0)
    (first : sinks.faults a ≤ sinks.faults b) (then : sinks.faults b ≤ sinks.faults c) (memory : Cause Stops.Memory)
    (no_sink : Cause Stops.Sink → ⊥) where
  -- a stop was told
  told_ended : (stop : Stop) (status : ℕ) (text : List ℕ) → Cause stop → IsFront IsText text
      → Prints (output sinks a b) text → HasTold stop (output sinks b c) status
      → IsEnded Cause IsText (output sinks a c) status
  told_ended stop status text why f p (line is goes) = told stop why is text f
      (line_behind text (line_of stop) (sinks.taken a) (sinks.taken b) (sinks.taken c) p goes)
  told_ended stop status text why f p (short is goes) = told Stops.Memory memory is text f
      (line_behind text (line_of Stops.Memory) (sinks.taken a) (sinks.taken b) (sinks.taken c) p goes)
  told_ended stop status text why f p (failed is goes) = cut_line is stop why text f (
    omega (arith, goes.0, first),
    front_behind text (line_of stop) (sinks.taken a) (sinks.taken b) (sinks.taken c)
        p goes.1,
  )
  told_ended stop status text why f p (short_failed is goes) = cut_line is Stops.Memory memory text f (
    omega (arith, goes.0, first),
    front_behind text (line_of Stops.Memory) (sinks.taken a) (sinks.taken b)
        (sinks.taken c) p goes.1,
  )

  -- what was printed, and the status, from what the command printed and what its end added
  pub ended : (result : Result (Unit {0}) Stop) (status : ℕ) → PrintsOrFails Cause IsText (output sinks a b) result
      → HasClosed result (output sinks b c) status → IsEnded Cause IsText (output sinks a c) status
  ended _ status (whole d text x p) q = done q.0 text x
      (subst (λ (t : Option (List ℕ)). Goes (λ f g. g ≡ f ++ text) (sinks.taken a) t) (sym q.1) p)
  ended _ status (stopped stop why text f p) (inl q) = absurd (no_sink (subst Cause q.0 why))
  ended _ status (stopped stop why text f p) (inr q) = told_ended stop status text why f p q.1
  ended _ status (cut text x p) (inl q) = cut_text q.1 text x (
    omega (arith, p.0, then),
    subst (λ (t : Option (List ℕ)). Goes (TakesFront text) (sinks.taken a) t) (sym q.2)
        p.1,
  )
  ended _ status (cut text x p) (inr q) = absurd (q.0 refl)

-- no stop has status 0
some_status : (stop : Stop) (status : ℕ) → status ≡ status_of stop → status ≡ 0 → ⊥
some_status Stops.Usage status e z = omega (arith, e, z)
some_status any0 status e z = omega (arith, e, z)

told_some : (stop : Stop) (out : Output) (status : ℕ) → HasTold stop out status → status ≡ 0 → ⊥
told_some stop out status (line e goes) z = some_status stop status e z
told_some stop out status (short e goes) z = omega (arith, e, z)
told_some stop out status (failed e goes) z = omega (arith, e, z)
told_some stop out status (short_failed e goes) z = omega (arith, e, z)

-- status 0 comes only where the command did what it does
pub closed_well : (result : Result (Unit {0}) Stop) (out : Output) (status : ℕ) → HasClosed result out status
    → status ≡ 0 → result ≡ Ok tt
closed_well (Ok d) out status q z = refl
closed_well (Err stop) out status (inl q) z = absurd (omega (arith, q.1, z))
closed_well (Err stop) out status (inr q) z = absurd (told_some stop out status q.1 z)
