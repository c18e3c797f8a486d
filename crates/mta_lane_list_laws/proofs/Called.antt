-- The two ends of each lane agree that this agent opened: the station that calls its peer had all its sessions.
use Rattle.std.proofs.Common.{◌≡◌, ◌⊎◌, ◌<◌, ℕ, ◌+◌, ◌==◌, Bool, true, false, Option, Some, None, List, [], ◌∷◌}
use Rattle.std.proofs.Common.{◌++◌, length, refl, sym, ap, subst, ◌∙◌, inl, inr, arith}
use Rattle.std.proofs.lemmas.Bool.{eqb-false, eqb-true}
use Rattle.mta_links.specs.Links.{LinkView}
use Rattle.mta_links.specs.declared.role.Role.{Role}
use Rattle.mta_links.specs.declared.role.Role.TheVariants as Roles
use Rattle.mta_records.specs.declared.lane.LaneRole.TheVariants.{Initiator, Responder}
use Rattle.mta_records.specs.declared.step.Step.{Step}
use Rattle.mta_histories.specs.History.{IsHistory}
use Rattle.mta_lane_match_laws.specs.Generations.{BeginsAt}
use Rattle.mta_transfer_laws.specs.Clause.{OneStationAgrees}
use Rattle.mta_transfer_laws.specs.Run.{SessionsAgree}
use Rattle.mta_session_list_laws.specs.Laws.{ListsAreGood}
use Rattle.mta_shared.specs.Counts.{times}
use Rattle.mta_worker_list_laws.specs.All.{all_of, AllParts, EachInTurn, roles_at, StationParts}
use Rattle.mta_worker_list_laws.specs.Histories.{whole}
use Rattle.mta_worker_list_laws.specs.Parts.{AreForNone, AreOfRole, AreSessions, IsOfRole, IsSession, plain}
use Rattle.mta_worker_list_laws.specs.Roles.{WasOpenAs}
use Rattle.mta_worker_list_laws.specs.Segments.{IsOne, OnLane, Segment}
use Rattle.mta_worker_list_laws.proofs.Made.{part_is}
use Rattle.mta_worker_list_laws.proofs.Sides.{was_same}
use Rattle.mta_worker_list_laws.proofs.Stations.{called_side, stations_agree}
use Rattle.mta_worker_list_laws.proofs.Untold.{untold_are_theirs}
use Rattle.mta_lane_list_laws.specs.Called.{CalledLanesOfStationsAgree, CallOthers, IsCalled}
use Rattle.mta_lane_list_laws.specs.Lanes.{AreOnSide, AreTold, HaveLane, IsOnSide, IsStation}
use Rattle.mta_lane_list_laws.proofs.Lanes.{of_all, on_side}
use Rattle.mta_lane_list_laws.proofs.Told.{each_began, for_one}

-- ---- parts of some list

one_in : (s : Segment) (xs ys : List Segment) → IsOne s (xs ++ ys) → IsOne s xs ⊎ IsOne s ys
one_in s [] ys i = inr i
one_in s (x ∷ xs) ys i =
    elim i [
      | inl e ↦ inl (inl e)
      | inr more ↦ elim (one_in s xs ys more) [ inl here ↦ inl (inr here) | inr later ↦ inr later ]
    ]

module _ (lane : ℕ) where
  -- one of these had the lane
  record Having (ss : List Segment) : Type 0 where
    segment : Segment
    one : IsOne segment ss
    on : OnLane
    has : segment.list ≡ Some on
    lane_is : on.lane ≡ lane

  abbrev NoneHas : List Segment → Type 0
  NoneHas ss = (s : Segment) (on : OnLane) → IsOne s ss → s.list ≡ Some on → on.lane ≡ lane → ⊥

  same_on : (x y : OnLane) → Some x ≡ Some y → x ≡ y
  same_on x y e = cc

  no_list : (s : Segment) (on : OnLane) → s.list ≡ None → s.list ≡ Some on → {A : Type 0} → A
  no_list s on e f = let both : None ≡ Some on = sym e ∙ f in absurd cc

  not_first : (s : Segment) (ss : List Segment) → ((on : OnLane) → s.list ≡ Some on → on.lane ≡ lane → ⊥)
      → Having ss ⊎ NoneHas ss → Having (s ∷ ss) ⊎ NoneHas (s ∷ ss)
  not_first s ss none (inl h) =
      inl (record { segment = h.segment; one = inr h.one; on = h.on; has = h.has; lane_is = h.lane_is })
  not_first s ss none (inr rest) =
      inr (λ r on i e f.
      elim i [
        | inl same ↦ none on (ap (λ (z : Segment). z.list) (sym same) ∙ e) f
        | inr more ↦ rest r on more e f
      ])

  find : (ss : List Segment) → Having ss ⊎ NoneHas ss
  find [] = inr (λ s on i e f. absurd i)
  find (s ∷ ss) = by_list (find ss) s.list refl
    where
      by_list : Having ss ⊎ NoneHas ss → (o : Option OnLane) → s.list ≡ o → Having (s ∷ ss) ⊎ NoneHas (s ∷ ss)
      by_list rest None e = not_first s ss (λ on f g. no_list s on e f) rest
      by_list rest (Some on) e = by_lane (on.lane == lane) refl
        where
          by_lane : (t : Bool) → (on.lane == lane) ≡ t → Having (s ∷ ss) ⊎ NoneHas (s ∷ ss)
          by_lane true t =
              inl (record {
                segment = s;
                one = inl refl;
                on = on;
                has = e;
                lane_is = eqb-true on.lane lane t;
              })
          by_lane false t =
              not_first s ss
              (λ o f g.
              eqb-false on.lane lane t (ap (λ (z : OnLane). z.lane) (same_on on o (sym e ∙ f)) ∙ g)) rest

-- ---- the station of the lane

module _ {L : Type 0} (links : LinkView L) (spells : List ℕ → Bool) (first entries : List Step)
    (possible : IsHistory (first ++ entries)) (lane : ℕ) (was : WasOpenAs Initiator lane (first ++ entries)) where
  abbrev Part : Segment → Type 0
  Part s = AreForNone (whole first entries) (length first) s ⊎ IsSession links spells first entries s

  abbrev OfRole : Role → Segment → Type 0
  OfRole role s = (x : IsSession links spells first entries s) × (x.ran.role ≡ role)

  -- a part that has a list is a session's, and of the role
  part_of : (role : Role) (s : Segment) (part : Part s) (on : OnLane) → IsOfRole role part → s.list ≡ Some on
      → OfRole role s
  part_of role s (inl none) on of e = no_list lane s on none.none e
  part_of role s (inr x) on of e = (x, of)

  of_role : (role : Role) (ss : List Segment) (are : AreSessions links spells first entries ss) (s : Segment)
      (on : OnLane) → AreOfRole links spells first entries role ss are → IsOne s ss → s.list ≡ Some on → OfRole role s
  of_role role [] are s on of i e = absurd i
  of_role role (r ∷ rs) are s on of i e =
      elim i [
        | inl same ↦ subst (λ (z : Segment). OfRole role z) (sym same)
            (part_of role r are.0 on of.0 (ap (λ (z : Segment). z.list) (sym same) ∙ e))
        | inr more ↦ of_role role rs are.1 s on of.1 more e
      ]

  abbrev Each : ℕ → List (List Segment) → Type 0
  Each from all = EachInTurn links spells first entries from all

  abbrev roles : (from : ℕ) (all : List (List Segment)) → Each from all → List Role
  roles from all t = roles_at links spells first entries from all t

  -- whoever had the lane was at a station that calls this peer
  module _ (peer : List ℕ)
      (calls : (s : Segment) (x : IsSession links spells first entries s) (on : OnLane) → s.list ≡ Some on
      → on.lane ≡ lane → x.ran.role ≡ Roles.Out peer) where
    is_called : (from : ℕ) (all : List (List Segment)) (t : Each from all) (s : Segment) (on : OnLane)
        → IsOne s (all_of all) → s.list ≡ Some on → on.lane ≡ lane → IsCalled peer (roles from all t)
    is_called from [] t s on i e f = absurd i
    is_called from (ss ∷ more) t s on i e f =
        elim (one_in s ss (all_of more) i) [
          | inl here ↦ (
              let x = of_role t.0.role ss t.0.sessions s on t.0.of_role here e in
              inl (sym x.1 ∙ calls s x.0 on e f))
          | inr later ↦ inr (is_called from more t.1 s on later e f)
        ]

  -- the session of a lane that this agent opened
  here_too : (on : OnLane) → on.lane ≡ lane → WasOpenAs Initiator on.lane (first ++ entries)
  here_too on f = subst (λ (n : ℕ). WasOpenAs Initiator n (first ++ entries)) (sym f) was

  record Called (s : Segment) (x : IsSession links spells first entries s) : Type 0 where
    peer : List ℕ
    role_is : x.ran.role ≡ Roles.Out peer
    calls : (r : Segment) (y : IsSession links spells first entries r) (on : OnLane) → r.list ≡ Some on
        → on.lane ≡ lane → y.ran.role ≡ Roles.Out peer

  called : (s : Segment) (x : IsSession links spells first entries s) (on : OnLane) → s.list ≡ Some on
      → on.lane ≡ lane → Called s x
  called s x on e f =
      let a = stations_agree links spells first entries s s x x on on possible (here_too on f) e e refl in
      record {
        peer = a.0;
        role_is = a.1;
        calls = λ r y o g h.
            let b = stations_agree links spells first entries s r x y on o possible (here_too on f) e g (f ∙ sym h) in
            b.2 ∙ sym b.1 ∙ a.1;
      }

  -- one of these stations had all sessions of the lane, or there were none
  record Station (from : ℕ) (all : List (List Segment)) : Type 0 where
    served : List Segment
    parts : StationParts links spells first entries from served
    station : IsStation served all ⊎ (served ≡ [])
    have : HaveLane served (all_of all) lane

  the_station : (from : ℕ) (all : List (List Segment)) (t : Each from all) → CallOthers (roles from all t)
      → Station from all
  the_station from [] t others = record {
    served = [];
    parts = record { sessions = tt; role = Roles.In; of_role = tt; upto = from; turns = omega arith };
    station = inr refl;
    have = λ s on i e f. absurd i;
  }
  the_station from (ss ∷ more) t others = by_find (the_station from more t.1 others.1) (find lane ss)
    where
      by_find : Station from more → Having lane ss ⊎ NoneHas lane ss → Station from (ss ∷ more)
      by_find rest (inl h) =
          let x = of_role t.0.role ss t.0.sessions h.segment h.on t.0.of_role h.one h.has in
          let c : Called h.segment x.0 = called h.segment x.0 h.on h.has h.lane_is in
          record {
            served = ss;
            parts = t.0;
            station = inl (inl refl);
            have = λ s on i e f.
                elim (one_in s ss (all_of more) i) [
                  | inl here ↦ here
                  | inr later ↦ absurd (
                      others.0 c.peer (sym x.1 ∙ c.role_is)
                      (is_called c.peer c.calls from more t.1 s on later e f))
                ];
          }
      by_find rest (inr none) = record {
        served = rest.served;
        parts = rest.parts;
        station = elim rest.station [ inl i ↦ inl (inr i) | inr e ↦ inr e ];
        have = λ s on i e f.
            elim (one_in s ss (all_of more) i) [
              | inl here ↦ absurd (none s on here e f)
              | inr later ↦ rest.have s on later e f
            ];
      }

  -- ---- its sessions

  -- each is an initiator's
  one_side : (s : Segment) (part : Part s) → IsOnSide lane true part
  one_side s (inl none) = tt
  one_side s (inr x) = λ on e f. called_side links spells first entries possible s x on (here_too on f) e

  all_on : (ss : List Segment) (are : AreSessions links spells first entries ss)
      → AreOnSide links spells first entries lane true ss are
  all_on [] are = tt
  all_on (s ∷ ss) are = (one_side s are.0, all_on ss are.1)

  theirs_not : Responder ≡ Initiator → ⊥
  theirs_not e = cc

  -- each was told that it has the lane
  part_told : (s : Segment) (k g : ℕ) → Part s → s.list ≡ None → 0 < times k s.own
      → BeginsAt (whole first entries) (length first + k) lane g → ⊥
  part_told s k g (inl none) e hit b = for_one lane g b.0 b.2 (none.entries k b.0 hit b.1)
  part_told s k g (inr x) e hit b =
      theirs_not
      (was_same Responder Initiator lane (first ++ entries) possible
      (untold_are_theirs links spells first entries s x k lane g e hit b) was)

  module _ (low : ℕ) (all : AllParts links spells first entries low) where
    told : AreTold (whole first entries) (length first) lane all.parts
    told s k g one e hit b =
        part_told s k g (part_is links spells first entries all.parts s all.sessions one) e hit b

    within : (served : List Segment) → IsStation served all.by_station ⊎ (served ≡ []) → (s : Segment)
        → IsOne s served → IsOne s all.parts
    within served (inl i) s one =
        subst (λ (zs : List Segment). IsOne s zs) (sym all.of_stations) (inr (of_all served all.by_station s i one))
    within served (inr e) s one = absurd (subst (λ (zs : List Segment). IsOne s zs) e one)

-- what was made behind all stations had no lane
have_behind : (ss parts : List Segment) (behind : List ℕ) (lane : ℕ) → HaveLane ss parts lane
    → HaveLane ss (plain behind ∷ parts) lane
have_behind ss parts behind lane have s on (inl is) has lane_is =
    let both : ◌≡◌ {A = Option OnLane} None (Some on) = sym (ap (λ (z : Segment). z.list) is) ∙ has in absurd cc
have_behind ss parts behind lane have s on (inr one) has lane_is = have s on one has lane_is

pub called_lanes_agree : ListsAreGood → SessionsAgree → OneStationAgrees → {L : Type 0}
    (links : LinkView L) → CalledLanesOfStationsAgree links
called_lanes_agree good whole_agree agree links spells first entries low all tells possible others lane size
    window was values before added cut from_is =
    let st = the_station links spells first entries possible lane was (length first + low) all.by_station all.turns
    others in
    let have : HaveLane st.served all.parts lane =
    subst (λ (ps : List Segment). HaveLane st.served ps lane) (sym all.of_stations)
    (have_behind st.served (all_of all.by_station) all.behind lane st.have) in
    record {
      served = st.served;
      station = st.station;
      have = have;
      steps =
          on_side good whole_agree agree links spells first entries low all tells possible lane size window
          st.served st.parts
          (within links spells first entries possible lane was low all st.served st.station) have
          (each_began links spells first entries low all lane st.served have
          (told links spells first entries possible lane was low all)) values before added cut from_is true
          (all_on links spells first entries possible lane was st.served st.parts.sessions);
    }
