use Rattle.std.proofs.Common.{◌≡◌, ◌++◌, ◌+◌, ◌∷◌, [], ℕ, List, length, refl, sym, ap, subst, ◌∙◌, arith}
use Rattle.std.proofs.lemmas.Result.{err_from_is_err_and}
use Rattle.std.proofs.lemmas.Option.{MatchOption-at_some, MatchOption-at_none}
use Rattle.mta_journal.specs.Faults.{FaultyAt}
use Rattle.mta_journal.specs.Opening.{IsAhead}
use Rattle.mta_journal.proofs.Reading.{carried, Stays-then}
use Rattle.mta_journal.proofs.Walked.{read_none, read_next, starts, ends, breaks, goes_past, Stays-none}
use Rattle.mta_journal.proofs.read.read_bodies.Goals as goal

pub records-init : goal.records-init
records-init g c = record {
  inside = c.requires.long;
  so_far = read_none c.args.first c.new-bodies.result.items c.new-bodies.ensures.items;
  read = λ f told. starts c.args.first c.new-bodies.result.items f c.new-bodies.ensures.items;
  ahead = λ f told. subst (λ (xs : List ℕ). IsAhead c.args.first xs f) (sym c.new-ahead.ensures) refl;
  few = omega (arith, ap length c.new-ahead.ensures, c.requires.long);
  content = refl;
  later = omega arith;
  crash = Stays-none g.D.Disk.model _;
}

pub returns-in_err-read_body-clause-broken : goal.returns-in_err-read_body-clause-broken
returns-in_err-read_body-clause-broken g c =
    let p = err_from_is_err_and c.from_residual.result c.from_residual.ensures.1 in
    λ q e f told.
    let broken = c.read_body.ensures.broken q (carried _ _ _ _ _ c.in_err-read_body.was p.1 p.2 e) f
    (c.records.invariant.content ∙ told) in
    subst (FaultyAt c.args.first f) (sym broken.0)
    (breaks c.args.first c.records.gate c.records.most c.records.bodies.items f c.records.invariant.so_far
    (c.records.invariant.read f told) broken.1)

pub returns-in-None-clause-found : goal.returns-in-None-clause-found
returns-in-None-clause-found g c = λ f told.
    let closed = MatchOption-at_none _ _ c.in-None.is c.in_ok-read_body.ensures.closed in
    ends c.args.first c.records.gate c.records.most c.records.bodies.items f c.records.invariant.so_far
    (c.records.invariant.read f told) (closed f (c.records.invariant.content ∙ told))

pub returns-in-None-clause-size : goal.returns-in-None-clause-size
returns-in-None-clause-size g c = omega (arith, c.records.invariant.so_far.place)

pub returns-in-None-clause-short : goal.returns-in-None-clause-short
returns-in-None-clause-short g c = c.records.invariant.so_far.each

pub records-preserved : goal.records-preserved
records-preserved g c =
    let body = MatchOption-at_some _ _ _ c.in-Some.is c.in_ok-read_body.ensures.body in
    let fits = MatchOption-at_some _ _ _ c.in-Some.is c.in_ok-read_body.ensures.fits in
    let ahead = MatchOption-at_some _ _ _ c.in-Some.is c.in_ok-read_body.ensures.ahead in
    let few = MatchOption-at_some _ _ _ c.in-Some.is c.in_ok-read_body.ensures.few in
    let place : c.records.gate + length c.in-Some.body + 5 ≡ c.records.gate + (c.len.result + 5) =
    omega (arith, c.len.ensures) in
    let next : c.keep.new.bodies.items ≡ c.records.bodies.items ++ c.in-Some.body ∷ [] = c.in_ok-keep-in-Some.ensures in
    record {
      inside = omega (arith, fits, c.len.ensures);
      so_far = read_next c.args.first c.records.gate c.records.most c.len.result c.records.bodies.items
          c.keep.new.bodies.items c.in-Some.body c.records.invariant.so_far next c.len.ensures fits.0;
      read = λ f told.
          goes_past c.args.first c.records.gate c.records.most c.records.bodies.items f c.records.invariant.so_far
          (c.records.invariant.read f told) c.in-Some.body c.keep.new.bodies.items c.len.result next c.len.ensures
          (body f (c.records.invariant.content ∙ told));
      ahead = λ f told. subst (λ (n : ℕ). IsAhead n c.read_body.new.ahead f) place
          (ahead f (c.records.invariant.content ∙ told));
      few = omega (arith, few, place);
      content = c.read_body.ensures.content ∙ c.records.invariant.content;
      later = omega (arith, c.records.invariant.later, c.read_body.ensures.cause.later);
      crash = Stays-then g.D.Disk.model g.met.D.Disk.laws _ _ _ c.records.invariant.crash c.read_body.ensures.crash;
    }
