-- What `pull` leaves, from what came of it.
use Rattle.std.proofs.Common.{◌≡◌, inl, inr, ⊎_elim, ℕ, zero, suc, ◌+◌, ◌-◌, ◌*◌, ◌≤◌}
use Rattle.std.proofs.Common.{◌<◌, Some}
use Rattle.std.proofs.Common.{List, [], ◌++◌, length, map, Result, refl, sym, ap, subst, ◌∙◌, arith}
use Rattle.std.proofs.lemmas.List.{length-append}
use Rattle.mta_edge.specs.Views.{DiskLaws, WhereTold}
use Rattle.mta_journal.specs.Bodies.{StandsFor}
use Rattle.mta_journal.specs.Shown.{Shown}
use Rattle.mta_journal.proofs.Unique.{one_list}
use Rattle.mta_records.specs.Body.{body_of}
use Rattle.mta_records.specs.declared.step.Step.{Step}
use Rattle.mta_images.specs.Image.{StandsFor as StandsForHistory}
use Rattle.mta_follow_units.specs.Units.{kept_unit, record_units}
use Rattle.mta_follow_run.specs.Copies.{IsCopy, IsKeptFrom}
use Rattle.mta_follow_run.specs.Fronts.{IsFront}
use Rattle.mta_follow_run.specs.Opened.{IsLeft, IsStandby, left_synced, left_unsynced}
use Rattle.mta_follow_run.specs.Outcome.{Follow, Handed, PullsOver, followed, not_opened, pull_no_link, pull_over}
use Rattle.mta_follow_run.specs.Pulling.{IsFollowed, IsSaid, said_all, said_cut}
use Rattle.mta_follow_run.specs.Ran.{Leaves, LeavesCopy, LeavesFront, StandsForFront, carried_none}
use Rattle.mta_follow_run.specs.Ran.{carried_served, leaves_synced, leaves_unsynced, units_of}
use Rattle.mta_follow_run.specs.Talks.{kept_units}
use Rattle.mta_follow_run.specs.declared.stop.Stop.{Stop}
use Rattle.mta_follow_run.proofs.Fronts.{follows_more, front_length}
use Rattle.mta_follow_run.proofs.Histories.{copy_front}
use Rattle.mta_follow_run.proofs.StandbyOpening.{copy_same}

-- ---- copies

copy_more : (f : List ℕ) (kept : List (List ℕ)) (octets g : List ℕ) → IsCopy f kept [] g → IsCopy f kept octets g
copy_more f kept octets g c = record {
  bodies = c.bodies;
  stands = c.stands;
  follows = follows_more kept c.bodies [] octets c.follows;
  second = c.second;
}

followed_copy : (f : List ℕ) (kept : List (List ℕ)) (octets g : List ℕ) → IsFollowed kept octets g
    → IsCopy f kept octets g
followed_copy f kept octets g c = record {
  bodies = c.bodies;
  stands = c.stands;
  follows = c.follows;
  second = λ chosen. absurd (c.plain chosen);
}

-- ---- how many were told kept

kept_long : (n : ℕ) → length (kept_units n) ≡ 13 * n
kept_long zero = omega arith
kept_long (suc n) =
    let one : length (kept_unit (suc n)) ≡ 13 = refl in
    let both : length (kept_units (suc n)) ≡ length (kept_units n) + length (kept_unit (suc n)) =
    length-append (kept_units n) (kept_unit (suc n)) in omega (arith, kept_long n, one, both)

said_long : (n : ℕ) (put : List ℕ) → IsSaid n put → length put ≤ 13 * n
said_long n put (said_all is) = omega (arith, ap length is, kept_long n)
said_long n put (said_cut piece some is front) =
    let one : length (kept_unit n) ≡ 13 = refl in
    let both = length-append (kept_units (n - 1)) piece in
    omega (arith, ap length is, kept_long (n - 1), both, front_length piece (kept_unit n) front, one, some)

said_within : (n number : ℕ) (put : List ℕ) → IsSaid n put → IsFront (kept_units number) put → number ≤ n
said_within n number put said front =
    omega (arith, said_long n put said, front_length (kept_units number) put front, kept_long number)

none_said : (number : ℕ) → IsFront (kept_units number) [] → 0 < number → ⊥
none_said number front some =
    omega (arith, front_length (kept_units number) [] front, kept_long number, some)

module _ {D L S : Type 0} (h : Handed D L S) (laws : DiskLaws h.disks) where
  -- a disk as it reads is one of its images
  reads_since : (first : D) (P : List ℕ → Type 0) → h.disks.moment first ≤ h.disks.moment h.disk_after
      → ((g : List ℕ) → h.disks.left_since h.disk_after (h.disks.moment first) g → P g)
      → WhereTold h.disks h.disk_after P
  reads_since first P until each g now =
      each g (laws.counts_now h.disk_after (h.disks.moment first) g until (laws.reads_image h.disk_after g now))

  -- the same disk by another name
  each_on : (first : D) (P : List ℕ → Type 0) (now : D) → now ≡ h.disk_after
      → ((g : List ℕ) → h.disks.left_since now (h.disks.moment first) g → P g)
      → (g : List ℕ) → h.disks.left_since h.disk_after (h.disks.moment first) g → P g
  each_on first P now is each g left =
      each g (subst (λ (d : D). h.disks.left_since d (h.disks.moment first) g) (sym is) left)

  left_refused : (f : List ℕ) (kept : List (List ℕ)) → h.disks.content h.disk ≡ Some f → StandsFor f kept
      → h.station_after ≡ h.station
      → IsLeft h.disks f kept h.disk h.disk_after → LeavesCopy h f kept
  left_refused f kept told stands same (left_unsynced still may) = record {
    octets = [];
    put = [];
    carried = carried_none refl refl (inl same);
    copies = leaves_unsynced refl may;
    reads = λ g now. copy_same f kept g stands (inl (let old = still ∙ told in cc (old, now)));
    kept_on = λ count front. absurd (none_said (suc count) front (omega arith));
  }
  left_refused f kept told stands same (left_synced first sync c) = record {
    octets = [];
    put = [];
    carried = carried_none refl refl (inl same);
    copies = leaves_synced first sync c.until c.each;
    reads = reads_since first (IsCopy f kept []) c.until c.each;
    kept_on = λ count front. absurd (none_said (suc count) front (omega arith));
  }

  left_over : (f : List ℕ) (kept : List (List ℕ)) (opened closed : Shown D) (count : ℕ) (ended : Result Unit Stop)
      → h.disks.content h.disk ≡ Some f → IsStandby h.disks h.disk opened kept → closed.disk ≡ h.disk_after
      → PullsOver h.disks h.links h.stations kept opened closed h.station h.station_after count ended
      → LeavesCopy h f kept
  left_over f kept opened closed count ended told s is (pull_no_link same zero_is none) =
      let c = s.since f told in
      let disk : opened.disk ≡ h.disk_after = sym (ap (λ (j : Shown D). j.disk) same) ∙ is in
      record {
        octets = [];
        put = [];
        carried = carried_none refl refl (inr none);
        copies = leaves_synced s.first s.sync
            (subst (λ (d : D). h.disks.moment s.first ≤ h.disks.moment d) disk c.until)
            (each_on s.first (IsCopy f kept []) opened.disk disk c.each);
        reads = reads_since s.first (IsCopy f kept [])
            (subst (λ (d : D). h.disks.moment s.first ≤ h.disks.moment d) disk c.until)
            (each_on s.first (IsCopy f kept []) opened.disk disk c.each);
        kept_on = λ count front. absurd (none_said (suc count) front (omega arith));
      }
  left_over f kept opened closed count ended told s is (pull_over begun link result p served) =
      let c = s.since f told in
      let content = s.told f told in
      let octets : List ℕ = record_units p.got ++ p.rest in
      let on = p.images content.0 content.1 in
      let until : h.disks.moment s.first ≤ h.disks.moment h.disk_after =
      subst (λ (d : D). h.disks.moment s.first ≤ h.disks.moment d) is (omega (arith, c.until, on.later)) in
      let each : (g : List ℕ) → h.disks.left_since h.disk_after (h.disks.moment s.first) g → IsCopy f kept octets g =
      each_on s.first (IsCopy f kept octets) closed.disk is
      (λ g left. ⊎_elim (λ before. copy_more f kept octets g (c.each g before))
      (λ after. followed_copy f kept octets g after) (on.since (h.disks.moment s.first) g c.until left)) in
      record {
        octets = record_units p.got ++ p.rest;
        put = p.put;
        carried = carried_served served;
        copies = leaves_synced s.first s.sync until each;
        reads = reads_since s.first (IsCopy f kept octets) until each;
        kept_on = λ number front.
            let within : number < length p.got =
            omega (arith, said_within (length p.got) (suc number) p.put p.said front) in
            record {
              got = p.got;
              brought = record { rest = p.rest; whole_is = refl };
              within = within;
              begun = begun;
              last = link;
              session = p.talks;
              kept =
                  subst (λ (d : D). IsKeptFrom h.disks h.links p.got begun link d number) is
                  (p.each content.0 content.1 number within);
            };
      }

  pub left : (f : List ℕ) (kept : List (List ℕ)) (count : ℕ) (ended : Result Unit Stop)
      → h.disks.content h.disk ≡ Some f → StandsFor f kept → Follow h count ended → LeavesCopy h f kept
  left f kept count ended told stands (not_opened stop none zero_is same) =
      left_refused f kept told stands same (none.left f kept told stands)
  left f kept count ended told stands (followed all opened closed result s is over) =
      let same : all ≡ kept = one_list f all kept (s.stands f told) stands in
      subst (LeavesCopy h f) same (left_over f all opened closed count result told s is over)

  -- where what came is a beginning of what is pushed of a history, the disk holds a beginning of it
  leaves_front : (f spool : List ℕ) (steps whole : List Step) → StandsForHistory f steps
      → StandsForHistory spool whole → IsFront steps whole → LeavesCopy h f (map body_of steps) → LeavesFront h whole
  leaves_front f spool steps whole stood is_whole front c = record {
    octets = c.octets;
    put = c.put;
    carried = c.carried;
    fronts = λ puts. by puts c.copies;
  }
    where
      by : IsFront c.octets (units_of whole)
          → Leaves h.disks (IsCopy f (map body_of steps) c.octets) c.octets h.disk h.disk_after
          → Leaves h.disks (StandsForFront whole) c.octets h.disk h.disk_after
      by puts (leaves_unsynced none may) = leaves_unsynced none may
      by puts (leaves_synced first sync until each) =
          leaves_synced first sync until
          (λ g left. copy_front f steps whole c.octets spool stood is_whole front puts g (each g left))

  pub left_front : (f spool : List ℕ) (steps whole : List Step) (count : ℕ) (ended : Result Unit Stop)
      → h.disks.content h.disk ≡ Some f → StandsForHistory f steps → StandsForHistory spool whole
      → IsFront steps whole → Follow h count ended → LeavesFront h whole
  left_front f spool steps whole count ended told stood is_whole front came =
      leaves_front f spool steps whole stood is_whole front
      (left f (map body_of steps) count ended told stood.bodies came)
