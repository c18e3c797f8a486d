-- The one list of the word is changed.
use Rattle.std.proofs.Common.{◌≡◌, ◌<◌, length, set, Some, refl, sym, ap, ◌∙◌, arith}
use Rattle.std.specs.Prelude.{map}
use Rattle.std.specs.List.{position}
use Rattle.mta_tables.specs.Reading.{has_list_word, permitted}
use Rattle.mta_tables.proofs.ListIndexes.{one_changed}
use Rattle.mta_tables.proofs.Ones.{words_alone, permitted_one, permitted_none, at_index}
use Rattle.mta_tables.proofs.lists.Lists.permit.Goals as goal

pub returns-in-None : goal.returns-in-None
returns-in-None c = sym (permitted_none c.args.word.now c.args.pattern c.args.self.now (sym c.in-None.ensures.exact))

pub returns-in_ok-push-in-Some : goal.returns-in_ok-push-in-Some
returns-in_ok-push-in-Some c =
    let ls = c.self.inside.inner.items in
    let w = c.args.word.now in
    let i = c.in-Some.place in
    let l = c.index_mut.result.now in
    let v = c.self.view_is in
    let place : position (has_list_word w) ls ≡ Some i = ap (position (has_list_word w)) v
    ∙ sym c.in-Some.ensures.exact in
    let bound = c.in-Some.ensures.bound in
    let within : i < length ls = omega (arith, ap length v) in
    let at = at_index ls i l within c.index_mut.ensures.value in
    ap (λ x. set ls i (record l { from = x })) c.in_ok-push-in-Some.ensures.ok
    ∙ sym (permitted_one w c.args.pattern ls i l (words_alone w ls c.self.invariant.1) place at)
    ∙ ap (map (permitted w c.args.pattern)) v

-- its word and its name stay
pub invariant_of-self-in-Some : goal.invariant_of-self-in-Some
invariant_of-self-in-Some c =
    let ls = c.self.inside.inner.items in
    let i = c.in-Some.place in
    let l = c.index_mut.result.now in
    let bound = c.in-Some.ensures.bound in
    let within : i < length ls = omega (arith, ap length c.self.view_is) in
    let at = at_index ls i l within c.index_mut.ensures.value in
    one_changed ls i l (record l { from = c.push.new.self }) c.self.inside.words c.self.inside.names
    c.self.invariant at refl refl
