-- All that a worker does keeps each own entry of its pass a step that a worker made.
use Rattle.std.proofs.Common.{◌≡◌, ℕ, List, [], ◌∷◌, Option, None, Some, Result, Ok, Err, map, ap}
use Rattle.mta_ber.specs.declared.memory.Memory.{Memory as NoMemory}
use Rattle.mta_edge.specs.Views.{ClockView, DiskView}
use Rattle.mta_links.specs.Links.{LinkView, StationView}
use Rattle.mta_links.specs.declared.role.Role.{Role}
use Rattle.mta_links.specs.declared.role.Role.TheVariants as role
use Rattle.mta_records.specs.Body.{body_of}
use Rattle.mta_records.specs.declared.step.Step.{Step}
use Rattle.mta_images.specs.Image.{AreRecords}
use Rattle.mta_session.specs.declared.limits.Limits.{Limits}
use Rattle.mta_shared.specs.declared.history.Base.{Base}
use Rattle.mta_shared.specs.Held.{Held}
use Rattle.mta_spool.specs.Bases.{found_of}
use Rattle.mta_spool.specs.declared.spool.Turned.TheVariants.{Did, Quiet}
use Rattle.mta_stations.specs.declared.end.Halt.{Halt}
use Rattle.mta_stations.specs.declared.end.WorkerEnd.{WorkerEnd}
use Rattle.mta_worker.specs.Readying.{IsReadied}
use Rattle.mta_worker.specs.Served.{Calling, Closings, Halting, HasCalled, HasListened, IsLinkServed, IsOwnName}
use Rattle.mta_worker.specs.Served.{Listening, Lost_at_once, Lost_before, Too_often, Wanting, Without}
use Rattle.mta_worker.specs.Serving.{Answers, At, Carries, Does, Given_up, Goes, InTurn, IsServed, Stopped}
use Rattle.mta_worker.specs.Serving.{To_its_end}
use Rattle.mta_worker.specs.Turns.{HasAnswered, IsLost}
use Rattle.mta_worker.specs.Working.{AllServed, At_limit, AtStation, Behind, Dues, Halted, HasSettled, HasWorked}
use Rattle.mta_worker.specs.Working.{Is_quiet, Is_refused, No_link, Serves, Station_failed, TurnsOnce}
use Rattle.mta_worker.specs.declared.ready.Ready.{Ready}
use Rattle.mta_worker.specs.declared.ready.Ready.TheVariants as ready
use Rattle.mta_worker.specs.declared.session.Served.{Served}
use Rattle.mta_worker_step_laws.proofs.Made.{did, lost, quiet, readied, refused, same, told}
use Rattle.mta_worker_step_laws.proofs.Turns.{Good, in_turn, still}

module _ {D C L S : Type 0} (disks : DiskView D) (clocks : ClockView C) (links : LinkView L)
    (stations : StationView S) (base : Base) (first : List Step) (found : map body_of first ≡ found_of base)
    (each : AreRecords first) where
  abbrev Well : Held Step → Type 0
  Well p = Good disks clocks base first found each p

  kept : (p q : Held Step) → q ≡ p → Well p → Well q
  kept p q e w = still disks clocks base first found each p q e w

  -- ---- a session

  does : (x y : At L) → Does disks clocks links x y → Well x.pass → Well y.pass
  does x y (Carries came ran action pass halt) w = kept x.pass y.pass pass w
  does x y (Answers q asks i link feed) w =
      in_turn disks clocks base first found each
      (λ s s'. HasAnswered disks clocks q s x.session x.halt s' y.session y.action y.halt) x.pass y.pass
      (λ s s'. told disks clocks q s x.session x.halt s' y.session y.action y.halt) i w

  goes : (x : At L) (zs : List (At L)) (y : At L) → Goes disks clocks links x zs y → Well x.pass → Well y.pass
  goes x [] y g w = kept x.pass y.pass (ap (λ (z : At L). z.pass) g) w
  goes x (z ∷ zs) y g w = goes z zs y g.1 (does x z g.0 w)

  is_served : (x : At L) (link : L) (pass : Held Step) (served : Served)
      → IsServed disks clocks links x link pass served → Well x.pass → Well pass
  is_served x link pass served (To_its_end zs y e g fin at is end halt) w = kept y.pass pass is (goes x zs y g w)
  is_served x link pass served (Stopped zs y t at g stops is gives) w = kept y.pass pass is (goes x zs y g w)
  is_served x link pass served (Given_up zs y q t halt why g asks i gives) w =
      in_turn disks clocks base first found each
      (λ s s'. IsLost disks clocks q s y.session y.halt s' t halt why) y.pass pass
      (λ s s'. lost disks clocks q s y.session y.halt s' t halt why) i (goes x zs y g w)

  -- ---- a link

  looks_up : (own : Result (Option (List ℕ)) NoMemory) (p q : Held Step)
      → InTurn disks clocks (λ s t. IsOwnName s.current own × (t ≡ s)) p q → Well p → Well q
  looks_up own p q i w =
      in_turn disks clocks base first found each (λ s t. IsOwnName s.current own × (t ≡ s)) p q
      (λ s t d. same disks clocks s t d.1) i w

  is_readied : (peer : List ℕ) (units : ℕ) (noted : Option Halt) (r : Ready) (p q : Held Step)
      → InTurn disks clocks (λ s t. IsReadied disks clocks peer units s None t noted r) p q → Well p → Well q
  is_readied peer units noted r p q i w =
      in_turn disks clocks base first found each (λ s t. IsReadied disks clocks peer units s None t noted r) p q
      (λ s t. readied disks clocks peer units s None t noted r) i w

  closings : (peer : List ℕ) (units : ℕ) (p : Held Step) (ms : List (Held Step)) (q : Held Step)
      → Closings disks clocks links peer units p ms q → Well p → Well q
  closings peer units p [] q c w = kept p q c w
  closings peer units p (m ∷ ms) q c w =
      closings peer units m ms q c.1 (is_readied peer units None ready.Closed p m c.0 w)

  listened : (units : ℕ) (p : Held Step) (old new : L) (q : Held Step) (served : Served)
      → HasListened disks clocks links units p old new q served → Well p → Well q
  listened units p old new q served (Without i link is) w = looks_up (Ok None) p q i w
  listened units p old new q served (Wanting i link is) w =
      in_turn disks clocks base first found each (λ s t. t ≡ s) p q (λ s t d. same disks clocks s t d) i w
  listened units p old new q served (Listening own mid one t i turn is) w =
      is_served _ new q served is (looks_up (Ok (Some own)) p mid i w)
  listened units p old new q served (Lost_at_once own i gives) w = looks_up (Ok (Some own)) p q i w

  called : (peer : List ℕ) (units : ℕ) (p : Held Step) (old new : L) (q : Held Step) (served : Served)
      → HasCalled disks clocks links peer units p old new q served → Well p → Well q
  called peer units p old new q served (Halting ms mid halt noted c i link is) w =
      is_readied peer units noted (ready.Halts halt) mid q i (closings peer units p ms mid c w)
  called peer units p old new q served (Calling ms mid at u one noted c i is) w =
      is_served _ new q served is
      (is_readied peer units noted (ready.Begins u (Ok one)) mid at i (closings peer units p ms mid c w))
  called peer units p old new q served (Lost_before ms mid u why noted c i gives) w =
      is_readied peer units noted (ready.Begins u (Err why)) mid q i (closings peer units p ms mid c w)
  called peer units p old new q served (Too_often ms c many link is) w = closings peer units p ms q c w

  link_served : (r : Role) (units : ℕ) (p : Held Step) (old new : L) (q : Held Step) (served : Served)
      → IsLinkServed disks clocks links r units p old new q served → Well p → Well q
  link_served role.In units p old new q served is w = listened units p old new q served is w
  link_served (role.Out peer) units p old new q served is w = called peer units p old new q served is w

  -- ---- what is due

  dues : (p : Held Step) (ms : List (Held Step)) (q : Held Step) → Dues disks clocks p ms q → Well p → Well q
  dues p [] q d w = kept p q d w
  dues p (m ∷ ms) q d w =
      dues m ms q d.1
      (in_turn disks clocks base first found each (λ s t. TurnsOnce disks clocks s (Ok (Did d.0.0)) t) p m
      (did disks clocks d.0.0) d.0.1 w)

  settled : (p q : Held Step) (halt : Option Halt) → HasSettled disks clocks p q halt → Well p → Well q
  settled p q halt (Is_quiet ms mid moment d i) w =
      in_turn disks clocks base first found each (λ s t. TurnsOnce disks clocks s (Ok (Quiet moment)) t) mid q
      (quiet disks clocks moment) i (dues p ms mid d w)
  settled p q halt (Is_refused ms mid fault d i) w =
      in_turn disks clocks base first found each (λ s t. TurnsOnce disks clocks s (Err fault) t) mid q
      (refused disks clocks fault) i (dues p ms mid d w)

  behind : (p : Held Step) (why : Option Halt) (q : Held Step) (halt : Option Halt)
      → Behind disks clocks p why q halt → Well p → Well q
  behind p None q halt b w = settled p q halt b w
  behind p (Some why) q halt b w = kept p q b.0 w

  -- ---- the worker

  serves : (limits : Limits) (x y : AtStation S) (halt : Option Halt)
      → Serves disks clocks links stations limits x y halt → Well x.pass → Well y.pass
  serves limits x y halt s w =
      behind s.mid s.served.halt y.pass halt s.behind
      (link_served (stations.role s.given) limits.units x.pass s.link s.left s.mid s.served s.session w)

  all_served : (limits : Limits) (x : AtStation S) (zs : List (AtStation S)) (y : AtStation S)
      → AllServed disks clocks links stations limits x zs y → Well x.pass → Well y.pass
  all_served limits x [] y a w = kept x.pass y.pass (ap (λ (z : AtStation S). z.pass) a) w
  all_served limits x (z ∷ zs) y a w = all_served limits z zs y a.1 (serves limits x z None a.0 w)

  pub worked : (limits : Limits) (x : AtStation S) (last : S) (q : Held Step) (end : WorkerEnd)
      → HasWorked disks clocks links stations limits x last q end → Well x.pass → Well q
  worked limits x last q end (At_limit zs y a le is e) w = kept y.pass q e (all_served limits x zs y a w)
  worked limits x last q end (No_link zs y a next e) w = kept y.pass q e (all_served limits x zs y a w)
  worked limits x last q end (Station_failed zs y a rose served e) w =
      kept y.pass q e (all_served limits x zs y a w)
  worked limits x last q end (Halted zs y z halt a s is e) w =
      kept z.pass q e (serves limits y z (Some halt) s (all_served limits x zs y a w))
