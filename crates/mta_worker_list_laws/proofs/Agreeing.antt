-- Two ends agree, where workers of this agent served the sessions of its end.
use Rattle.std.proofs.Common.{ℕ, Bool, List, [], ◌∷◌, ◌++◌, length, sym, subst}
use Rattle.mta_edge.specs.Views.{ClockView, DiskView}
use Rattle.mta_links.specs.Links.{LinkView, StationView}
use Rattle.mta_transfer_rules.specs.Lanes.{LanesAllow, Seen}
use Rattle.mta_transfer_laws.specs.History.{IsOfLanes}
use Rattle.mta_records.specs.declared.step.Step.{Step}
use Rattle.mta_transfer_laws.specs.Run.{EachGood, SessionsAgree}
use Rattle.mta_transfer_laws.specs.Sessions.{IsGoodSession, SessionList}
use Rattle.mta_session.specs.State.{is_initiator}
use Rattle.mta_session_list_laws.specs.Laws.{ListsAreGood}
use Rattle.mta_session_list_laws.specs.Lists.{AreValues}
use Rattle.mta_worker_list_laws.specs.Agreeing.{AreListsIn, EndsAgree, IsListIn, PartsAgree}
use Rattle.mta_worker_list_laws.specs.All.{AllParts}
use Rattle.mta_worker_list_laws.specs.Histories.{whole}
use Rattle.mta_worker_list_laws.proofs.AllGood.{all_are_good, one_is_good}
use Rattle.mta_worker_list_laws.proofs.Annotating.{of_lanes}

module _ {L : Type 0} (links : LinkView L) (good : ListsAreGood) (agree : SessionsAgree)
    (spells : List ℕ → Bool) (first entries : List Step) (low : ℕ) (allow : IsOfLanes spells (whole first entries))
    (all : AllParts links spells first entries low) where
  abbrev history : List Seen
  history = whole first entries

  list_good : (lane size window : ℕ) (initiator : Bool) (l : SessionList) → AreValues history lane size window
      → IsListIn links spells first entries all.parts lane size window initiator l
      → IsGoodSession spells history lane size window initiator l
  list_good lane size window initiator l values x =
      let here : AreValues history x.on.lane size window =
      subst (λ (n : ℕ). AreValues history n size window) (sym x.lane_is) values in
      let there : IsGoodSession spells history x.on.lane size window (is_initiator x.session.new.side) l =
      subst (λ (z : SessionList).
      IsGoodSession spells history x.on.lane size window (is_initiator x.session.new.side) z) (sym x.list_is)
      (one_is_good links good spells first entries low allow all x.part x.session x.on x.one x.has x.listed
      x.list size window x.behind here) in
      subst (λ (n : ℕ). IsGoodSession spells history n size window initiator l) x.lane_is
      (subst (λ (b : Bool). IsGoodSession spells history x.on.lane size window b l) x.side there)

  pub each_good : (lane size window : ℕ) (initiator : Bool) (ls : List SessionList) → AreValues history lane size window
      → AreListsIn links spells first entries all.parts lane size window initiator ls
      → EachGood spells history lane size window initiator ls
  each_good lane size window initiator [] values are = tt
  each_good lane size window initiator (l ∷ ls) values are = (
    list_good lane size window initiator l values are.0,
    each_good lane size window initiator ls values are.1,
  )

  pub parts_agree : PartsAgree links spells first entries all.parts
  parts_agree before added lane size window initiator ls cut values are =
      agree spells before added lane size window initiator ls
      (subst (λ (xs : List Seen). LanesAllow spells xs) (sym cut) allow.allowed)
      (subst (λ (xs : List Seen). EachGood spells xs lane size window initiator ls) (sym cut)
      (each_good lane size window initiator ls values are))

pub ends_agree : ListsAreGood → SessionsAgree → {D C L S : Type 0} (disks : DiskView D)
    (clocks : ClockView C) (links : LinkView L) (stations : StationView S) → EndsAgree disks clocks links stations
ends_agree good agree disks clocks links stations spells first front entries back limits before after ends base
    tells based none w =
    let all = all_are_good good disks clocks links stations spells first front entries back limits before after
    ends base tells based none w in (
      all.0,
      all.1,
      all.2,
      parts_agree links good agree spells first (entries ++ back) (length front)
          (of_lanes spells (first ++ (entries ++ back)) tells based.possible) all.0,
      all.3,
    )
