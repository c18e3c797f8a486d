-- The index says the places of the routes, also where memory runs out on the way.
use Rattle.std.proofs.Common.{◌≡◌, ◌<◌, ◌≤◌, ℕ, [], ◌∷◌, ◌++◌, List, length, length-append, sym, ap, subst, ◌∙◌, arith}
use Rattle.std.specs.Prelude.{map}
use Rattle.mta_names.specs.Normal.{normal_text}
use Rattle.mta_name_digest.specs.Digests.{texts_digest}
use Rattle.mta_tables.specs.declared.entry.Route.{Route}
use Rattle.mta_tables.specs.Indexes.{HaveParts, IsIndex, route_pattern}
use Rattle.mta_tables.specs.Reading.{route_to}
use Rattle.mta_tables.proofs.FrontLaws.{parts_more}
use Rattle.mta_tables.proofs.Indexes.{index_kept, index_put}
use Rattle.mta_tables.proofs.routes.Routes.push.Goals as goal

pub invariant_of-self-in_err-push : goal.invariant_of-self-in_err-push
invariant_of-self-in_err-push c =
    let rs = c.self.inside.inner.items in
    let inv = c.self.invariant in
    let patterns = c.add.new.self in
    let items : c.push.new.self.items ≡ rs = cc c.in_err-push.ensures.items in
    subst (λ (xs : List Route). (length xs ≤ 4096) × HaveParts xs × IsIndex route_pattern xs patterns) (sym items) (
      inv.0,
      inv.1,
      index_kept route_pattern rs c.texts_digest-digest.result c.len-place.result c.self.inside.patterns patterns inv.2
          c.in_ok-add.ensures.ok,
    )

pub invariant_of-self-2 : goal.invariant_of-self-2
invariant_of-self-2 c =
    let rs = c.self.inside.inner.items in
    let r = route_to c.args.pattern c.args.target in
    let inv = c.self.invariant in
    let patterns = c.add.new.self in
    let size = c.self.inside.inner.ok.0 in
    let place : c.len-place.result ≡ length rs = omega (arith, c.len-place.ensures, size) in
    let few : length rs < 4096 = omega (arith, c.requires, ap length c.self.view_is) in
    let items : c.push.new.self.items ≡ rs ++ r ∷ [] = cc c.in_ok-push.ensures.items in
    let digest = c.texts_digest-digest.ensures
    ∙ ap (λ (ps : List (List ℕ)). texts_digest 0 (map normal_text ps)) c.parts.ensures.exact in
    subst (λ (xs : List Route). (length xs ≤ 4096) × HaveParts xs × IsIndex route_pattern xs patterns) (sym items) (
      omega (arith, few, length-append rs (r ∷ [])),
      parts_more rs r inv.1 c.parts.ensures.pattern.some,
      index_put route_pattern rs r c.texts_digest-digest.result c.len-place.result c.self.inside.patterns patterns
          digest
          place inv.2 c.in_ok-add.ensures.ok,
    )
