-- The best hop leads to a list of the tables, where it leads to a list.
use Rattle.std.proofs.Common.{◌≡◌, ℕ, zero, suc, ◌<◌, List, [], ◌∷◌, length, Some, sym, subst, arith}
use Rattle.std.specs.Prelude.{slice_get}
use Rattle.mta_names.specs.declared.attributes.Attributes.{Attributes}
use Rattle.mta_tables.specs.declared.entry.Target.{Target}
use Rattle.mta_tables.specs.declared.entry.Target.TheVariants as Targets
use Rattle.mta_tables.specs.declared.hop.Hop.{Hop}
use Rattle.mta_tables.specs.Hops.{hop_of_target}
use Rattle.mta_tables.specs.Laws.{IsBestHop, mailbox, list, route, nowhere}
use Rattle.mta_tables.specs.Tables.{TablesValue}
use Rattle.mta_rules.specs.Cases.{IsHopOf}

place_below : {X : Type 0} (xs : List X) (i : ℕ) (x : X) → slice_get xs i ≡ Some x → i < length xs
place_below [] i x e = absurd cc
place_below (y ∷ ys) zero x e = omega arith
place_below (y ∷ ys) (suc i) x e = let below = place_below ys i x e in omega (arith, below)

to_target : (t : TablesValue) (target : Target) → IsHopOf t (hop_of_target target)
to_target t Targets.Here = tt
to_target t (Targets.Peer place) = tt

pub hop_is_of : (t : TablesValue) (n : Attributes) (hop : Hop) → IsBestHop t n hop → IsHopOf t hop
hop_is_of t n hop (mailbox place at e) = subst (IsHopOf t) (sym e) tt
hop_is_of t n hop (list place none at e) = subst (IsHopOf t) (sym e) (place_below t.lists place at.list at.found)
hop_is_of t n hop (route r) = subst (IsHopOf t) (sym r.goes) (to_target t r.route.target)
hop_is_of t n hop (nowhere none e) = subst (IsHopOf t) (sym e) tt
