-- One agent more on the path, or the end of it.
use Rattle.std.proofs.Common.{◌≡◌, ℕ, ◌-◌, List, ◌++◌, ◌∷◌, [], length, get_or, sym, ap, subst, ◌∙◌, arith}
use Rattle.std.specs.Prelude.{Contains}
use Rattle.mta_rehearse_run.specs.declared.turn.Turn.{Turn}
use Rattle.mta_rehearse_run.specs.declared.turn.Turn.TheVariants.{On}
use Rattle.mta_rehearse_run.specs.Turns.{turn_of}
use Rattle.mta_rehearse_run.specs.Walks.{IsPath, EndsBy}
use Rattle.mta_rehearse_run.proofs.OneWalk.{stays}
use Rattle.mta_rehearse_run.proofs.Paths.{path_more, last_more, one_longer, few_on_path}
use Rattle.mta_rehearse_run.proofs.walk.walk_from.Goals as goal

pub walking-preserved : goal.walking-preserved
walking-preserved c =
    let turn = turn_of c.args.agents.now c.args.name.now in
    let old = c.walking.walked in
    let next = c.in-On.next in
    let goes : turn (get_or old (length old - 1) 0) ≡ On next
    = ap turn (sym c.walking.invariant.1) ∙ sym c.in_ok-turn.ensures ∙ c.in-On.ensures.0 in
    let new : Contains old next → ⊥
    = subst (λ (xs : List ℕ). Contains xs next → ⊥) c.as_slice.ensures c.in-On.ensures.1 in
    let e = c.in_ok-push-in-On.ensures.ok in (
      subst (IsPath turn c.args.start) (sym e) (path_more turn c.args.start old next c.walking.invariant.0 goes new),
      subst (λ (xs : List ℕ). next ≡ get_or xs (length xs - 1) 0) (sym e) (last_more old next),
    )

pub walking-smaller : goal.walking-smaller
walking-smaller c =
    let agents = c.args.agents.now in
    let turn = turn_of agents c.args.name.now in
    let old = c.walking.walked in
    let next = c.in-On.next in
    let goes : turn (get_or old (length old - 1) 0) ≡ On next
    = ap turn (sym c.walking.invariant.1) ∙ sym c.in_ok-turn.ensures ∙ c.in-On.ensures.0 in
    let new : Contains old next → ⊥
    = subst (λ (xs : List ℕ). Contains xs next → ⊥) c.as_slice.ensures c.in-On.ensures.1 in
    let path = path_more turn c.args.start old next c.walking.invariant.0 goes new in
    let few = few_on_path turn c.args.start (length agents) (old ++ next ∷ []) (stays agents c.args.name.now)
    c.requires.there path in
    omega (arith, few, one_longer old next, ap length c.in_ok-push-in-On.ensures.ok)

pub returns-in-Over : goal.returns-in-Over
returns-in-Over c =
    let turn = turn_of c.args.agents.now c.args.name.now in
    let walked = c.walking.walked in
    let end = c.in-Over.end in
    let by_turn = subst (λ (xs : List ℕ). EndsBy c.in_ok-turn.turn xs end) c.as_slice.ensures c.in-Over.ensures in
    let by_last = subst (λ (t : Turn). EndsBy t walked end) c.in_ok-turn.ensures by_turn in
    record {
      path = c.walking.invariant.0;
      ends = subst (λ (i : ℕ). EndsBy (turn i) walked end) c.walking.invariant.1 by_last;
    }
