-- All entries that workers made are in parts of the history, no one in two.
use Rattle.std.proofs.Common.{◌≡◌, ◌<◌, ◌≤◌, ℕ, zero, suc, ◌+◌, Bool, List, [], ◌∷◌, ◌++◌, length, Some}
use Rattle.std.proofs.Common.{slice_index_or, All, inl, inr, map, reverse}
use Rattle.std.proofs.Common.{sym, ap, subst, refl, ◌∙◌, append_assoc, append-nil, arith, slice_get}
use Rattle.std.proofs.lemmas.Bool.{cases_lt}
use Rattle.std.proofs.lemmas.Grind.{reverse_onto}
use Rattle.std.proofs.lemmas.List.{length-append, map-append}
use Rattle.mta_edge.specs.Views.{ClockView, DiskView}
use Rattle.mta_links.specs.Links.{LinkView, StationView}
use Rattle.mta_links.specs.declared.role.Role.{Role}
use Rattle.mta_transfer_rules.specs.Lanes.{Abandon, CloseLane, On, Seen, SeenStep}
use Rattle.mta_records.specs.declared.step.Step.{Step}
use Rattle.mta_session.specs.declared.limits.Limits.{Limits}
use Rattle.mta_shared.specs.Counts.{row, times}
use Rattle.mta_shared.specs.declared.history.Base.{Base}
use Rattle.mta_shared.specs.Held.{LockId}
use Rattle.mta_shared.proofs.Fronts.{prefix_trans}
use Rattle.mta_shared.proofs.Sums.{row-add, times-append, times-row-above, times-row-in, times-row-le}
use Rattle.mta_worker.specs.declared.jobs.Job.{Job}
use Rattle.mta_worker.specs.Jobs.{JobDone, owned_by, SawFront, station_of}
use Rattle.mta_worker_list_laws.specs.All.{all_of, AllHaveParts, AllParts, EachInTurn, IsOfStation}
use Rattle.mta_worker_list_laws.specs.All.{roles_at, StationParts}
use Rattle.mta_worker_list_laws.specs.Histories.{AreEntries, place, TellsApdus, whole}
use Rattle.mta_worker_list_laws.specs.OfLinks.{AreOfWorker}
use Rattle.mta_worker_list_laws.specs.Parts.{AreForNone, AreParts, AreSessions, IsForNone, plain, StandInTurn}
use Rattle.mta_worker_list_laws.specs.Segments.{AreAll, AreSegments, IsOwnStep, IsSegment, owned, Segment}
use Rattle.mta_worker_list_laws.proofs.Annotating.{length_seen}
use Rattle.mta_worker_list_laws.proofs.Workers.{owned_more, segments_more, sessions_more, workers_have_parts}

pub place_below : {X : Type 0} (xs : List X) (i : ℕ) (x : X) → slice_get xs i ≡ Some x → i < length xs
place_below [] i x e = absurd cc
place_below (y ∷ ys) zero x e = omega arith
place_below (y ∷ ys) (suc i) x e = let below = place_below ys i x e in omega (arith, below)

-- entries that are shared out are each in one part
shared_all : (first entries : List Step) (low : ℕ) (ss : List Segment)
    → AreSegments (whole first entries) (length first) ss
    → ((k : ℕ) → times k (row 0 low ++ owned ss) ≡ times k (row 0 (length entries)))
    → AreAll (whole first entries) (length first) low ss
shared_all first entries low ss are shares =
    let n : ℕ = length entries in
    let in_two : (k : ℕ) → times k (row 0 low ++ owned ss) ≡ times k (row 0 low) + times k (owned ss) =
    λ k. times-append k (row 0 low) (owned ss) in
    record {
      segments = are;
      once = λ k.
          let one : times k (row 0 n) ≤ 1 = times-row-le k 0 n in
          let two : times k (row 0 low ++ owned ss) ≡ times k (row 0 low) + times k (owned ss) = in_two k in
          let same : times k (row 0 low ++ owned ss) ≡ times k (row 0 n) = shares k in
          omega (arith, one, two, same);
      all = λ k lane g step le get piece.
          let long : length (whole first entries) ≡ length first + n =
          length_seen (first ++ entries) ∙ length-append first entries in
          let below : length first + k < length (whole first entries) =
          place_below (whole first entries) (length first + k) (On lane step) get in
          let in_row : times k (row 0 n) ≡ 1 =
          times-row-in k 0 n (omega arith) (omega (arith, long, below)) in
          let none : times k (row 0 low) ≡ 0 = times-row-above k 0 low (omega (arith, le)) in
          let two : times k (row 0 low ++ owned ss) ≡ times k (row 0 low) + times k (owned ss) = in_two k in
          let same : times k (row 0 low ++ owned ss) ≡ times k (row 0 n) = shares k in
          omega (arith, in_row, none, two, same);
    }

-- entries that were made for no session
none_owns : (lane g : ℕ) (step : SeenStep) → IsForNone (On lane step) → IsOwnStep g step → ⊥
none_owns lane g (CloseLane j) none own = own
none_owns lane g (Abandon k) none own = own
none_owns lane g any none own = none

plain_for_none : (history : List Seen) (n : ℕ) (ks : List ℕ) → AreForNone history n (plain ks)
    → IsSegment history n (plain ks)
plain_for_none history n ks none = record {
  begins = tt;
  lists = λ k lane g step hit get own. absurd (none_owns lane g step (none.entries k (On lane step) hit get) own);
  once = λ k lane g hit begins. tt;
}

-- entries behind the workers are shared out too
shared_behind : (low n m : ℕ) (own : List ℕ) → ((k : ℕ) → times k (row 0 low ++ own) ≡ times k (row 0 n)) → (k : ℕ)
    → times k (row 0 low ++ (row n m ++ own)) ≡ times k (row 0 (n + m))
shared_behind low n m own shares k =
    let split : row 0 (n + m) ≡ row 0 n ++ row n m =
    row-add 0 n m ∙ ap (λ (a : ℕ). row 0 n ++ row a m) (omega arith) in
    let whole_is : times k (row 0 (n + m)) ≡ times k (row 0 n ++ row n m) = ap (times k) split in
    let halves : times k (row 0 n ++ row n m) ≡ times k (row 0 n) + times k (row n m) =
    times-append k (row 0 n) (row n m) in
    let outer : times k (row 0 low ++ (row n m ++ own)) ≡ times k (row 0 low) + times k (row n m ++ own) =
    times-append k (row 0 low) (row n m ++ own) in
    let inner : times k (row n m ++ own) ≡ times k (row n m) + times k own = times-append k (row n m) own in
    let theirs : times k (row 0 low ++ own) ≡ times k (row 0 low) + times k own = times-append k (row 0 low) own in
    omega (arith, whole_is, halves, outer, inner, theirs, shares k)

-- one more station
all_of_more : (more : List (List Segment)) (ss : List Segment) → all_of (more ++ ss ∷ []) ≡ all_of more ++ ss
all_of_more [] ss = append-nil ss
all_of_more (x ∷ xs) ss = ap (λ (zs : List Segment). x ++ zs) (all_of_more xs ss) ∙ sym (append_assoc x (all_of xs) ss)

turns_with : {L : Type 0} (links : LinkView L) (spells : List ℕ → Bool) (first entries : List Step) (from : ℕ)
    (more : List (List Segment)) (ss : List Segment) → EachInTurn links spells first entries from more
    → StationParts links spells first entries from ss → EachInTurn links spells first entries from (more ++ ss ∷ [])
turns_with links spells first entries from [] ss t one = (one, tt)
turns_with links spells first entries from (x ∷ xs) ss t one =
    (t.0, turns_with links spells first entries from xs ss t.1 one)

roles_with : {L : Type 0} (links : LinkView L) (spells : List ℕ → Bool) (first entries : List Step) (from : ℕ)
    (more : List (List Segment)) (ss : List Segment) (t : EachInTurn links spells first entries from more)
    (one : StationParts links spells first entries from ss)
    → roles_at links spells first entries from (more ++ ss ∷ [])
    (turns_with links spells first entries from more ss t one)
    ≡ roles_at links spells first entries from more t ++ one.role ∷ []
unfolding turns_with
roles_with links spells first entries from [] ss t one = refl
roles_with links spells first entries from (x ∷ xs) ss t one =
    ap (λ (rs : List Role). t.0.role ∷ rs) (roles_with links spells first entries from xs ss t.1 one)

roles_more : {L : Type 0} (links : LinkView L) (spells : List ℕ → Bool) (first entries : List Step) (from : ℕ)
    (more : List (List Segment)) (ss : List Segment) (t : EachInTurn links spells first entries from more)
    (one : StationParts links spells first entries from ss) (rs : List Role)
    → roles_at links spells first entries from more t ≡ rs
    → roles_at links spells first entries from (more ++ ss ∷ [])
    (turns_with links spells first entries from more ss t one)
    ≡ rs ++ one.role ∷ []
roles_more links spells first entries from more ss t one rs e =
    roles_with links spells first entries from more ss t one ∙ ap (λ (xs : List Role). xs ++ one.role ∷ []) e

-- and none is before the first one that they share
shared_later : (low n : ℕ) (own : List ℕ) → ((k : ℕ) → times k (row 0 low ++ own) ≡ times k (row 0 n)) → (k : ℕ)
    → 0 < times k own → low ≤ k
shared_later low n own shares k hit =
    elim (cases_lt k low) [
      | inl below ↦ absurd (
          let one : times k (row 0 n) ≤ 1 = times-row-le k 0 n in
          let two : times k (row 0 low ++ own) ≡ times k (row 0 low) + times k own = times-append k (row 0 low) own in
          let same : times k (row 0 low ++ own) ≡ times k (row 0 n) = shares k in
          let here : times k (row 0 low) ≡ 1 = times-row-in k 0 low (omega arith) (omega (arith, below)) in
          omega (arith, one, two, same, here, hit))
      | inr behind ↦ behind
    ]

-- and each from there on is in one
shared_each : (low n : ℕ) (own : List ℕ) → ((k : ℕ) → times k (row 0 low ++ own) ≡ times k (row 0 n)) → (k : ℕ)
    → low ≤ k → k < n → 0 < times k own
shared_each low n own shares k le below =
    let in_row : times k (row 0 n) ≡ 1 = times-row-in k 0 n (omega arith) (omega (arith, below)) in
    let none : times k (row 0 low) ≡ 0 = times-row-above k 0 low (omega (arith, le)) in
    let two : times k (row 0 low ++ own) ≡ times k (row 0 low) + times k own = times-append k (row 0 low) own in
    let same : times k (row 0 low ++ own) ≡ times k (row 0 n) = shares k in
    omega (arith, in_row, none, two, same)

module _ {D C L S : Type 0} (disks : DiskView D) (clocks : ClockView C) (links : LinkView L)
    (stations : StationView S) (spells : List ℕ → Bool) (tells : TellsApdus spells) (first entries : List Step)
    (limits : Limits) (at : LockId) (front : List Step) (base : Base) (based : AreEntries base first entries) where
  -- the parts of all jobs, those of the last one first
  record JobParts (js : List (Job S)) : Type 0 where
    parts : List Segment
    are : AreSegments (whole first entries) (length first) parts
    sessions : AreSessions links spells first entries parts
    owns : owned_by js ≡ owned parts
    by_station : List (List Segment)
    of_stations : parts ≡ all_of by_station
    turns : EachInTurn links spells first entries (length first + length front) by_station
    turned : List (List Segment)
    order : reverse turned ≡ by_station

  -- the roles of their stations, that of the last one first
  abbrev roles_dealt : List (Job S) → List Role
  roles_dealt [] = []
  roles_dealt (j ∷ js) = roles_dealt js ++ stations.role j.station ∷ []

  abbrev Begin : Job S → Type 0
  Begin j = (j.pass.seen ≡ front) × (j.pass.base ≡ base) × (j.pass.own ≡ [])

  abbrev Each : (dealt done : List (Job S)) → Type 0
  Each dealt done =
      (i : ℕ) (d : Job S) → i < length dealt
      → JobDone disks clocks links stations limits at (slice_index_or dealt i d) (slice_index_or done i d)

  job_parts : (j k : Job S) → Begin j → (d : JobDone disks clocks links stations limits at j k) → SawFront entries k
      → (p : AreParts links spells first entries (stations.role j.station) j.pass k.pass)
      × AreOfWorker disks clocks links stations spells first entries (stations.role j.station) d.did p.parts
  job_parts j k b d saw =
      workers_have_parts disks clocks links stations spells first entries limits
      (record { station = j.station; pass = j.pass; sessions = 0; closed = 0 }) k.station k.pass d.end tells
      (subst (λ (z : Base). AreEntries z first entries) (sym b.1) based) d.did saw

  abbrev OfStation : Job S → Job S → List Segment → Type 0
  OfStation j k ss = IsOfStation disks clocks links stations spells first entries limits j k ss

  abbrev EachOf : (dealt done : List (Job S)) → List (List Segment) → Type 0
  EachOf dealt done turned =
      (i : ℕ) (d : Job S) → i < length dealt
      → OfStation (slice_index_or dealt i d) (slice_index_or done i d) (slice_index_or turned i [])

  each_of_more : (j k : Job S) (js ks : List (Job S)) (ss : List Segment) (more : List (List Segment))
      → OfStation j k ss → EachOf js ks more → EachOf (j ∷ js) (k ∷ ks) (ss ∷ more)
  each_of_more j k js ks ss more one rest zero d below = one
  each_of_more j k js ks ss more one rest (suc i) d below = rest i d (omega (arith, below))

  -- with the stations that were dealt
  abbrev Dealt : (dealt done : List (Job S)) → Type 0
  Dealt dealt done =
      (js : JobParts done)
      × (roles_at links spells first entries (length first + length front) js.by_station js.turns ≡ roles_dealt dealt)
      × EachOf dealt done js.turned

  jobs_parts : (dealt done : List (Job S)) → length done ≡ length dealt → All Begin dealt → Each dealt done
      → All (SawFront entries) done → Dealt dealt done
  jobs_parts [] [] len begin each saw = (
    record {
      parts = [];
      are = tt;
      sessions = tt;
      owns = refl;
      by_station = [];
      of_stations = refl;
      turns = tt;
      turned = [];
      order = refl;
    },
    refl,
    λ i d below. absurd (omega (arith, below)),
  )
  jobs_parts [] (k ∷ ks) len begin each saw = absurd (omega (arith, len))
  jobs_parts (j ∷ js) [] len begin each saw = absurd (omega (arith, len))
  jobs_parts (j ∷ js) (k ∷ ks) len begin each saw =
      let dealt : Dealt js ks =
      jobs_parts js ks (omega (arith, len)) (λ i d l. begin (suc i) d (omega (arith, l)))
      (λ i d l. each (suc i) d (omega (arith, l))) (λ i d l. saw (suc i) d (omega (arith, l))) in
      let rest : JobParts ks = dealt.0 in
      let b : Begin j = begin 0 j (omega arith) in
      let did : JobDone disks clocks links stations limits at j k = each 0 j (omega arith) in
      let its = job_parts j k b did (saw 0 k (omega arith)) in
      let one : AreParts links spells first entries (stations.role j.station) j.pass k.pass = its.0 in
      let own : k.pass.own ≡ owned one.parts = one.owns ∙ ap (λ (ns : List ℕ). ns ++ owned one.parts) b.2 in
      let here : StationParts links spells first entries (length first + length front) one.parts = record {
        sessions = one.sessions;
        role = stations.role j.station;
        of_role = one.of_role;
        upto = place first k.pass;
        turns = subst
            (λ (n : ℕ). StandInTurn links spells first entries n (place first k.pass) one.parts one.sessions)
            (ap (λ (xs : List Step). length first + length xs) b.0) one.turns;
      } in (
        record {
          parts = rest.parts ++ one.parts;
          are = segments_more (whole first entries) (length first) rest.parts one.parts rest.are one.are;
          sessions =
              sessions_more disks clocks links stations spells tells first entries (stations.role j.station) rest.parts
              one.parts rest.sessions one.sessions;
          owns =
              ap (λ (ns : List ℕ). ns ++ k.pass.own) rest.owns
              ∙ ap (λ (ns : List ℕ). owned rest.parts ++ ns) own
              ∙ sym (owned_more rest.parts one.parts);
          by_station = rest.by_station ++ one.parts ∷ [];
          of_stations =
              ap (λ (ss : List Segment). ss ++ one.parts) rest.of_stations
              ∙ sym (all_of_more rest.by_station one.parts);
          turns =
              turns_with links spells first entries (length first + length front) rest.by_station one.parts rest.turns
              here;
          turned = one.parts ∷ rest.turned;
          order =
              reverse_onto rest.turned one.parts []
              ∙ ap (λ (zs : List (List Segment)). zs ++ one.parts ∷ []) rest.order;
        },
        roles_more links spells first entries (length first + length front) rest.by_station one.parts rest.turns here
            (roles_dealt js) dealt.1,
        each_of_more j k js ks one.parts rest.turned
            (record { end = did.end; end_is = did.end_is; did = did.did; of_links = its.1; owns = own }) dealt.2,
      )

  -- they are in the order of their stations
  roles_turned : (js : List (Job S)) → roles_dealt js ≡ map stations.role (reverse (map station_of js))
  roles_turned [] = refl
  roles_turned (j ∷ js) =
      let before : List S = reverse (map station_of js) in
      ap (λ (rs : List Role). rs ++ stations.role j.station ∷ []) (roles_turned js)
      ∙ sym (map-append stations.role before (j.station ∷ []))
      ∙ sym (ap (map stations.role) (reverse_onto (map station_of js) j.station []))

  abbrev all_parts : (dealt done : List (Job S)) (n m : ℕ) → length entries ≡ n + m
      → AreForNone (whole first entries) (length first) (plain (row n m)) → JobParts done
      → ((p : ℕ) → times p (row 0 (length front) ++ owned_by done) ≡ times p (row 0 n))
      → AllParts links spells first entries (length front)
  all_parts dealt done n m long none js shares =
      let parts : List Segment = plain (row n m) ∷ js.parts in
      let are : AreSegments (whole first entries) (length first) parts =
      (plain_for_none (whole first entries) (length first) (row n m) none, js.are) in
      let workers : (p : ℕ) → times p (row 0 (length front) ++ owned js.parts) ≡ times p (row 0 n) =
      λ p. ap (λ (ns : List ℕ). times p (row 0 (length front) ++ ns)) (sym js.owns) ∙ shares p in
      let theirs : (p : ℕ) → times p (row 0 (length front) ++ owned parts) ≡ times p (row 0 (length entries)) =
      λ p. shared_behind (length front) n m (owned js.parts) workers p
      ∙ ap (λ (k : ℕ). times p (row 0 k)) (sym long) in
      record {
        parts = parts;
        sessions = (inl none, js.sessions);
        all = shared_all first entries (length front) parts are theirs;
        later = shared_later (length front) (length entries) (owned parts) theirs;
        each = shared_each (length front) (length entries) (owned parts) theirs;
        by_station = js.by_station;
        behind = row n m;
        of_stations = ap (λ (ss : List Segment). plain (row n m) ∷ ss) js.of_stations;
        turns = js.turns;
      }

-- what a worker has seen is a front of the longer history too
saw_more : {S : Type 0} (entries back : List Step) (js : List (Job S)) → All (SawFront entries) js
    → All (SawFront (entries ++ back)) js
saw_more entries back js saw i d below =
    prefix_trans _ entries (entries ++ back) (saw i d below) (back, refl)

pub all_have_parts : {D C L S : Type 0} (disks : DiskView D) (clocks : ClockView C) (links : LinkView L)
    (stations : StationView S) → AllHaveParts disks clocks links stations
all_have_parts disks clocks links stations spells first front entries back limits before after ends base tells based
    none w =
    let jobs = jobs_parts disks clocks links stations spells tells first (entries ++ back) limits w.lock front base
    based w.dealt w.done w.as_many w.begin w.each (saw_more entries back w.done w.seen) in (
      all_parts disks clocks links stations spells tells first (entries ++ back) limits w.lock front base based w.dealt
          w.done (length entries) (length back) (length-append entries back) none jobs.0 w.shares,
      record { turned = jobs.0.turned; order = jobs.0.order; each = jobs.2 },
      jobs.1
          ∙ roles_turned disks clocks links stations spells tells first (entries ++ back) limits w.lock front base based
          w.dealt
          ∙ ap (λ (ss : List _). map stations.role ss) w.before_are,
    )
