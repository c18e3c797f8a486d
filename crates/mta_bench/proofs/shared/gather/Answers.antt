use Rattle.std.proofs.Common.{All, ap, ◌∙◌, subst, arith}
use Rattle.mta_shared.specs.Passes.{lock_of}
use Rattle.mta_bench.specs.Parts.{IsPart}
use Rattle.mta_bench.proofs.Gathering.{all_last, all_front}
use Rattle.mta_bench.proofs.shared.gather.Goals as goal

pub join-requires-clause-other : goal.join-requires-clause-other
join-requires-clause-other c =
    let i = c.loop-pass.invariant in
    let all = subst (λ l. All (IsPart (lock_of c.args.shared.now)) l) c.in-Some.ensures.items i.left in
    (all_last (IsPart (lock_of c.args.shared.now)) c.pop.new.self.items c.in-Some.pass all).ready

pub loop-pass-preserved : goal.loop-pass-preserved
loop-pass-preserved c =
    let i = c.loop-pass.invariant in
    let p = c.in-Some.ensures in
    let j = c.join.ensures in
    let all = subst (λ l. All (IsPart (lock_of c.args.shared.now)) l) p.items i.left in
    let one = (all_last (IsPart (lock_of c.args.shared.now)) c.pop.new.self.items c.in-Some.pass all).one in
    record {
      ready = (ap (λ h. h.lock) j.joined ∙ i.ready.0, ap (λ h. h.rests) j.joined ∙ i.ready.1);
      parts_back = let a = ap (λ h. h.parts) j.joined in let b = i.parts_back in let d = p.len in omega arith;
      left = all_front (IsPart (lock_of c.args.shared.now)) c.pop.new.self.items c.in-Some.pass all;
    }
