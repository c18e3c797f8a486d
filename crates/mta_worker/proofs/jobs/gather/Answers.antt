use Rattle.std.proofs.Common.{[], ◌∷◌, ◌++◌, All, Some, map, reverse, length, refl, sym, ap, ◌∙◌, subst, arith}
use Rattle.std.proofs.Common.{append-nil, append_assoc}
use Rattle.mta_shared.specs.Passes.{lock_of}
use Rattle.mta_shared.proofs.Fronts.{prefix_self, prefix_trans}
use Rattle.mta_worker.specs.Jobs.{end_of, ends_as, station_of, IsDone, owned_by, SawFront}
use Rattle.mta_worker.proofs.Gathering.{all_last, all_front, all_none, reverse_map-cons, map_end, saw_more}
use Rattle.mta_worker.proofs.Gathering.{empty_front}
use Rattle.mta_worker.proofs.jobs.gather.Goals as goal

pub loop-job-init : goal.loop-job-init
loop-job-init g c = record {
  ready = c.requires.ready.0;
  joined = [];
  rest = append-nil c.args.jobs.items;
  parts_back = omega arith;
  same = (refl, refl);
  longer = prefix_self (c.args.main.now.seen);
  order = c.requires.room.0;
  told = ap ends_as c.requires.places.0;
  enough = omega (arith, c.requires.room.1);
  places = (omega (arith, c.requires.places.1), c.args.ends.now.ok.0 ∙ ap length c.requires.places.0);
  own_all = sym (append-nil (c.args.main.now.own));
  seen_all = all_none (SawFront c.args.main.now.seen);
  done = c.requires.ready.1;
}

pub join-requires-clause-other : goal.join-requires-clause-other
join-requires-clause-other g c =
    let i = c.loop-job.invariant in
    let run = subst (λ l. All (IsDone (lock_of c.args.shared.now)) l) c.in-Some.ensures.items i.done in
    let r = all_last (IsDone (lock_of c.args.shared.now)) c.pop.new.self.items c.in-Some.job run in
    r.ready

pub loop-job-preserved : goal.loop-job-preserved
loop-job-preserved g c =
    let i = c.loop-job.invariant in
    let p = c.in-Some.ensures in
    let j = c.join.ensures in
    let q = c.push_reserved.ensures in
    let k = c.push_reserved-in-Some.ensures in
    let post = c.in-Some.job in
    let run = subst (λ l. All (IsDone (lock_of c.args.shared.now)) l) p.items i.done in
    let r = all_last (IsDone (lock_of c.args.shared.now)) c.pop.new.self.items post run in
    record {
      ready = (ap (λ h. h.lock) j.joined ∙ i.ready.0, ap (λ h. h.rests) j.joined ∙ i.ready.1);
      joined = post ∷ i.joined;
      rest = sym (append_assoc c.pop.new.self.items (post ∷ []) i.joined)
          ∙ (ap (λ l. l ++ i.joined) (sym p.items) ∙ i.rest);
      parts_back = let a = ap (λ h. h.parts) j.joined in let b = i.parts_back in let d = r.one in omega arith;
      same = (ap (λ h. h.base) j.joined ∙ i.same.0, ap (λ h. h.from) j.joined ∙ i.same.1);
      longer = prefix_trans _ _ _ i.longer j.seen.0;
      order = q.items ∙ (ap (λ l. l ++ post.station ∷ []) i.order ∙ sym (reverse_map-cons station_of post i.joined));
      told = ap ends_as k.items ∙ (map_end Some c.loop-job.ends.items c.in-Some-end.end
          ∙ (ap (λ l. l ++ Some c.in-Some-end.end ∷ []) i.told
          ∙ (ap (λ e. reverse (map end_of i.joined) ++ e ∷ []) (sym c.in-Some-end.is)
          ∙ sym (reverse_map-cons end_of post i.joined))));
      enough = let a = i.enough in let b = p.len in let d = q.capacity in omega arith;
      places = let a = i.places in let b = p.len in let d = k.capacity in (omega arith, omega arith);
      own_all = ap (λ h. h.own) j.joined ∙ (ap (λ l. l ++ post.pass.own) i.own_all
          ∙ append_assoc (c.args.main.now.own) (owned_by i.joined) (post.pass.own));
      seen_all = saw_more _ _ post i.joined i.seen_all j.seen.0 j.seen.1;
      done = all_front (IsDone (lock_of c.args.shared.now)) c.pop.new.self.items post run;
    }

pub returns-clause-seen : goal.returns-clause-seen
returns-clause-seen g c =
    let i = c.loop-job.invariant in
    let p = c.in_default.ensures in
    subst (λ l. All (SawFront (c.loop-job.main.seen)) l)
    (empty_front c.loop-job.jobs.items i.joined c.args.jobs.items (sym c.loop-job.jobs.ok.0 ∙ p.cases.0) i.rest)
    i.seen_all
