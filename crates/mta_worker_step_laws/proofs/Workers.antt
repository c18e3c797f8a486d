-- All entries that workers made over one history are steps of workers.
use Rattle.std.proofs.Common.{◌≡◌, ◌<◌, ◌≤◌, ℕ, suc, ◌+◌, List, [], ◌∷◌, ◌++◌, length, map, slice_index_or, All}
use Rattle.std.proofs.Common.{inl, inr, refl, sym, ap, subst, ◌∙◌, append_assoc, arith}
use Rattle.std.proofs.lemmas.Bool.{cases_lt}
use Rattle.std.proofs.lemmas.List.{length-append}
use Rattle.mta_edge.specs.Views.{ClockView, DiskView}
use Rattle.mta_links.specs.Links.{LinkView, StationView}
use Rattle.mta_records.specs.Body.{body_of}
use Rattle.mta_records.specs.declared.step.Step.{Step}
use Rattle.mta_histories.specs.History.{after, after_from, after_step}
use Rattle.mta_histories.specs.Lanes.{empty, State}
use Rattle.mta_images.specs.Image.{AreRecords}
use Rattle.mta_session.specs.declared.limits.Limits.{Limits}
use Rattle.mta_shared.specs.Counts.{row, times}
use Rattle.mta_shared.specs.declared.history.Base.{Base}
use Rattle.mta_shared.specs.Held.{LockId}
use Rattle.mta_shared.proofs.Sums.{times-append, times-row-above, times-row-in}
use Rattle.mta_spool.specs.Bases.{found_of}
use Rattle.mta_worker.specs.declared.jobs.Job.{Job}
use Rattle.mta_worker.specs.Jobs.{JobDone, owned_by, SawFront}
use Rattle.mta_worker_step_laws.specs.Steps.{AreMade, IsMade, StepsAreTimed, Tells}
use Rattle.mta_worker_step_laws.proofs.Turns.{Good, IsMadeAt, made_longer}
use Rattle.mta_worker_step_laws.proofs.Walk.{worked}

-- ---- lists

-- two parts of one list, where their fronts are as long
same_split : (xs ys : List Step) (x y : Step) (more rest : List Step) → xs ++ x ∷ more ≡ ys ++ y ∷ rest
    → length xs ≡ length ys → (xs ≡ ys) × (x ≡ y)
same_split [] [] x y more rest e same = (refl, cc)
same_split [] (b ∷ ys) x y more rest e same = absurd (omega (arith, same))
same_split (a ∷ xs) [] x y more rest e same = absurd (omega (arith, same))
same_split (a ∷ xs) (b ∷ ys) x y more rest e same =
    let here : a ≡ b = cc in
    let behind : xs ++ x ∷ more ≡ ys ++ y ∷ rest = cc in
    let both = same_split xs ys x y more rest behind (omega (arith, same)) in
    let fronts : xs ≡ ys = both.0 in
    (cc, both.1)

state_more : (s : State) (xs : List Step) (x : Step) → after_from s (xs ++ x ∷ []) ≡ after_step (after_from s xs) x
state_more s [] x = refl
state_more s (y ∷ ys) x = state_more (after_step s y) ys x

-- each entry from one on is in one of the lists that were shared out
shared_each : (low n : ℕ) (own : List ℕ) → ((k : ℕ) → times k (row 0 low ++ own) ≡ times k (row 0 n)) → (k : ℕ)
    → low ≤ k → k < n → 0 < times k own
shared_each low n own shares k le below =
    let in_row : times k (row 0 n) ≡ 1 = times-row-in k 0 n (omega arith) (omega (arith, below)) in
    let none : times k (row 0 low) ≡ 0 = times-row-above k 0 low (omega (arith, le)) in
    let two : times k (row 0 low ++ own) ≡ times k (row 0 low) + times k own = times-append k (row 0 low) own in
    let same : times k (row 0 low ++ own) ≡ times k (row 0 n) = shares k in
    omega (arith, in_row, none, two, same)

-- ---- entries that are each such a step

module _ (tells : ℕ → Type 0) (first : List Step) where
  all_made : (front made : List Step)
      → ((k : ℕ) → length front ≤ k → k < length (front ++ made) → IsMadeAt tells first (front ++ made) k)
      → AreMade tells (after (first ++ front)) made
  all_made front [] at = tt
  all_made front (step ∷ rest) at =
      let long : length (front ++ step ∷ rest) ≡ length front + length (step ∷ rest) =
      length-append front (step ∷ rest) in
      let here : IsMadeAt tells first (front ++ step ∷ rest) (length front) =
      at (length front) (omega arith) (omega (arith, long)) in
      let same = same_split here.before front here.step step here.behind rest here.parts here.place in
      let joined : (front ++ step ∷ []) ++ rest ≡ front ++ step ∷ rest = append_assoc front (step ∷ []) rest in
      let more : length (front ++ step ∷ []) ≡ length front + 1 = length-append front (step ∷ []) in (
        subst (λ (xs : List Step). IsMade tells (after (first ++ xs)) step) same.0
            (subst (λ (z : Step). IsMade tells (after (first ++ here.before)) z) same.1 here.made),
        subst (λ (s : State). AreMade tells s rest)
            (ap (λ (xs : List Step). after xs) (sym (append_assoc first front (step ∷ [])))
            ∙ state_more empty (first ++ front) step)
            (all_made (front ++ step ∷ []) rest (λ k le below.
            let short : length ((front ++ step ∷ []) ++ rest) ≡ length (front ++ step ∷ rest) = ap length joined in
            subst (λ (xs : List Step). IsMadeAt tells first xs k) (sym joined)
            (at k (omega (arith, le, more)) (omega (arith, below, short))))),
      )

-- ---- all jobs

module _ {D C L S : Type 0} (disks : DiskView D) (clocks : ClockView C) (links : LinkView L)
    (stations : StationView S) (limits : Limits) (lock : LockId) (first front entries : List Step) (base : Base)
    (found : map body_of first ≡ found_of base) (each : AreRecords first) where
  abbrev Begin : Job S → Type 0
  Begin j = (j.pass.seen ≡ front) × (j.pass.base ≡ base) × (j.pass.own ≡ [])

  abbrev Done : (dealt done : List (Job S)) → Type 0
  Done dealt done =
      (i : ℕ) (d : Job S) → i < length dealt
      → JobDone disks clocks links stations limits lock (slice_index_or dealt i d) (slice_index_or done i d)

  begins_well : (j : Job S) → Begin j → Good disks clocks base first found each j.pass
  begins_well j b = record {
    based = b.1;
    own = λ k hit. absurd (
        let none : times k j.pass.own ≡ 0 = ap (λ (ns : List ℕ). times k ns) b.2 in omega (arith, hit, none));
  }

  job_made : (j d : Job S) → Begin j → JobDone disks clocks links stations limits lock j d → SawFront entries d
      → (k : ℕ) → 0 < times k d.pass.own → IsMadeAt (Tells base) first entries k
  job_made j d b did saw k hit =
      made_longer (Tells base) first d.pass.seen entries k saw
      ((worked disks clocks links stations base first found each limits
      (record { station = j.station; pass = j.pass; sessions = 0; closed = 0 }) d.station d.pass did.end did.did
      (begins_well j b)).own k hit)

  jobs_made : (dealt done : List (Job S)) → length done ≡ length dealt → All Begin dealt → Done dealt done
      → All (SawFront entries) done → (k : ℕ) → 0 < times k (owned_by done) → IsMadeAt (Tells base) first entries k
  jobs_made [] [] len begin did saw k hit = absurd (omega (arith, hit))
  jobs_made [] (d ∷ ds) len begin did saw k hit = absurd (omega (arith, len))
  jobs_made (j ∷ js) [] len begin did saw k hit = absurd (omega (arith, len))
  jobs_made (j ∷ js) (d ∷ ds) len begin did saw k hit =
      let sum : times k (owned_by ds ++ d.pass.own) ≡ times k (owned_by ds) + times k d.pass.own =
      times-append k (owned_by ds) d.pass.own in
      elim (cases_lt 0 (times k (owned_by ds))) [
        | inl others ↦ jobs_made js ds (omega (arith, len)) (λ i x l. begin (suc i) x (omega (arith, l)))
            (λ i x l. did (suc i) x (omega (arith, l))) (λ i x l. saw (suc i) x (omega (arith, l))) k others
        | inr none ↦ job_made j d (begin 0 j (omega arith)) (did 0 j (omega arith)) (saw 0 d (omega arith)) k
            (omega (arith, hit, sum, none))
      ]

pub steps_are_timed : {D C L S : Type 0} (disks : DiskView D) (clocks : ClockView C) (links : LinkView L)
    (stations : StationView S) → StepsAreTimed disks clocks links stations
steps_are_timed disks clocks links stations first front made limits old new ends base found each w =
    all_made (Tells base) first front made (λ k le below.
    jobs_made disks clocks links stations limits w.lock first front (front ++ made) base found each w.dealt w.done
    w.as_many w.begin w.each w.seen k
    (shared_each (length front) (length (front ++ made)) (owned_by w.done) w.shares k le below))
