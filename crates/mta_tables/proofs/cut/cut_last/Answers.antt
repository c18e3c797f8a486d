-- The last separator is the first one that is found from the end.
use Rattle.std.proofs.Common.{◌≡◌, ℕ, ◌+◌, ◌-◌, ◌<◌, List, Option, length, drop, length-drop, sym, ap, subst, ◌∙◌}
use Rattle.std.proofs.Common.{arith}
use Rattle.std.proofs.lemmas.List.{take_all}
use Rattle.mta_tables.specs.Grammar.{HasNo}
use Rattle.mta_tables.specs.Words.{cut_last}
use Rattle.mta_tables.proofs.Cuttings.{last_none, last_found}
use Rattle.mta_tables.proofs.cut.cut_last.Goals as goal

pub returns-then-text-i-clause-front : goal.returns-then-text-i-clause-front
returns-then-text-i-clause-front c =
    let l = c.loop-i in
    let i = l.i - 1 in
    let s = c.args.separator in
    let text = c.args.text.now in
    let some = c.loop-i-test.true in
    let bound = l.invariant.0 in
    let back : l.i ≡ i + 1 = omega arith in
    let none : HasNo s (drop (i + 1) text) = subst (λ k. HasNo s (drop k text)) back l.invariant.1 in
    let f = last_found s text i (omega arith) c.if-text-i.true none in
    sym (ap (λ (p : Option (List ℕ) × List ℕ). p.0) f)

pub returns-then-text-i-clause-behind : goal.returns-then-text-i-clause-behind
returns-then-text-i-clause-behind c =
    let l = c.loop-i in
    let i = l.i - 1 in
    let s = c.args.separator in
    let text = c.args.text.now in
    let some = c.loop-i-test.true in
    let bound = l.invariant.0 in
    let back : l.i ≡ i + 1 = omega arith in
    let none : HasNo s (drop (i + 1) text) = subst (λ k. HasNo s (drop k text)) back l.invariant.1 in
    let f = last_found s text i (omega arith) c.if-text-i.true none in
    let rest : drop (i + 1) text ≡ (cut_last s text).1 = sym (ap (λ (p : Option (List ℕ) × List ℕ). p.1) f) in
    let whole = length-drop (i + 1) text in
    take_all (length text - (i + 1)) (drop (i + 1) text) (omega arith) ∙ rest

pub returns-clause-front : goal.returns-clause-front
returns-clause-front c =
    let l = c.loop-i in
    let s = c.args.separator in
    let text = c.args.text.now in
    let end = c.loop-i-test.false in
    let zero : l.i ≡ 0 = omega arith in
    let none : HasNo s text = subst (λ k. HasNo s (drop k text)) zero l.invariant.1 in
    sym (ap (λ (p : Option (List ℕ) × List ℕ). p.0) (last_none s text none))

pub returns-clause-behind : goal.returns-clause-behind
returns-clause-behind c =
    let l = c.loop-i in
    let s = c.args.separator in
    let text = c.args.text.now in
    let end = c.loop-i-test.false in
    let zero : l.i ≡ 0 = omega arith in
    let none : HasNo s text = subst (λ k. HasNo s (drop k text)) zero l.invariant.1 in
    sym (ap (λ (p : Option (List ℕ) × List ℕ). p.1) (last_none s text none))
