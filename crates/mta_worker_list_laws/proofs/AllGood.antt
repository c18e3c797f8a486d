-- The session lists of all workers are good.
use Rattle.std.proofs.Common.{◌≡◌, ◌≤◌, ℕ, ◌+◌, ◌-◌, Bool, List, length, Option, None, Some}
use Rattle.std.proofs.Common.{◌++◌, refl, subst, arith}
use Rattle.mta_edge.specs.Views.{ClockView, DiskView}
use Rattle.mta_links.specs.Links.{LinkView, StationView}
use Rattle.mta_units.specs.declared.unit.Unit.TheVariants.{EndAck}
use Rattle.mta_transfer_rules.specs.Lanes.{lane_in, Seen}
use Rattle.mta_transfer_laws.specs.History.{IsOfLanes}
use Rattle.mta_records.specs.declared.step.Step.{Step}
use Rattle.mta_session.specs.State.{is_initiator}
use Rattle.mta_session.specs.declared.event.Event.TheVariants as event
use Rattle.mta_transfer_laws.specs.Acknowledged.{HasPut, IsCompleted}
use Rattle.mta_transfer_laws.specs.Sessions.{IsGoodSession, SessionList}
use Rattle.mta_transfer_laws.proofs.Kept.{end_acks-kept}
use Rattle.mta_session_list_laws.specs.Laws.{ListsAreGood}
use Rattle.mta_session_list_laws.specs.Lists.{AreValues, completed}
use Rattle.mta_session_list_laws.specs.Over.{list_over}
use Rattle.mta_worker_list_laws.specs.All.{AllAreGood, AllParts, AreGood, IsGoodWhere}
use Rattle.mta_worker_list_laws.specs.Begun.{over_as}
use Rattle.mta_worker_list_laws.specs.Good.{IsListOver}
use Rattle.mta_worker_list_laws.specs.Histories.{place, whole}
use Rattle.mta_worker_list_laws.specs.Parts.{IsSession}
use Rattle.mta_worker_list_laws.specs.Segments.{Begins, BeginsIn, IsOne, ListsAs, OnLane, Segment, told_over}
use Rattle.mta_worker_list_laws.proofs.All.{all_have_parts}
use Rattle.mta_worker_list_laws.proofs.Annotating.{of_lanes}
use Rattle.mta_worker_list_laws.proofs.Apart.{opening_apart, put_with, session_apart}
use Rattle.mta_worker_list_laws.proofs.Segments.{has_in, is_segment}
use Rattle.mta_worker_list_laws.proofs.Whole.{segments_are_good}

module _ {L : Type 0} (links : LinkView L) (good : ListsAreGood) (spells : List ℕ → Bool)
    (first entries : List Step) (low : ℕ) (allow : IsOfLanes spells (whole first entries))
    (all : AllParts links spells first entries low) where
  abbrev history : List Seen
  history = whole first entries

  -- the step by which the session has its lane is an own entry, so it is one of those from there on
  begins_later : (s : Segment) (on : OnLane) → IsOne s all.parts → s.list ≡ Some on → length first + low ≤ on.at
  begins_later s on i e =
      let begun : BeginsIn history (length first) s.own on =
      subst (λ (o : Option OnLane). Begins history (length first) s.own o) e
      (is_segment history (length first) all.parts s all.all.segments i).begins in
      let behind : low ≤ on.at - length first =
      all.later (on.at - length first) (has_in all.parts s (on.at - length first) i begun.owned) in
      omega (arith, begun.later, behind)

  -- the list of such a session, with what came of its last action
  pub one_is_good : (s : Segment) (x : IsSession links spells first entries s) (on : OnLane) → IsOne s all.parts
      → s.list ≡ Some on → (listed : ListsAs spells history x.new x.calls (told_over x.ran.done.over) (Some on))
      → (m : SessionList) (size window : ℕ) → IsListOver x.calls listed.0 x.ran.done.over m
      → AreValues history on.lane size window
      → IsGoodSession spells history on.lane size window (is_initiator x.new.side)
      (completed history on.lane size window (is_initiator x.new.side) m)
  one_is_good s x on i e listed m size window over values =
      segments_are_good good spells history (length first) low (place first x.begun)
      (place first x.ran.done.mid) (place first x.over) all.parts s x.new x.ran.done.last x.ran.done.wanted x.calls
      x.ran.begins x.ran.done.over on listed.0 m size window allow all.all i x.of_it e (begins_later s on i e)
      x.ran.done.leads listed.1 listed.2 listed.3 over values

  -- a list of such a session, with what came of its last action, has an EndAck only where its activity was completed
  kept : (s : Segment) (x : IsSession links spells first entries s) (on : OnLane) → IsOne s all.parts
      → s.list ≡ Some on → (listed : ListsAs spells history x.new x.calls (told_over x.ran.done.over) (Some on))
      → (m : SessionList) (k : ℕ) → IsListOver x.calls listed.0 x.ran.done.over m → HasPut (EndAck k) m.events
      → IsCompleted history on.lane k
  kept s x on i e listed m k over put =
      let size : ℕ = (lane_in on.lane history).size in
      let window : ℕ = (lane_in on.lane history).window in
      end_acks-kept spells history on.lane size window (is_initiator x.new.side)
      (completed history on.lane size window (is_initiator x.new.side) m)
      (one_is_good s x on i e listed m size window over (λ agreed. (refl, refl))) k
      (put_with history on.lane (EndAck k) m.events (m.at + 1) _ put)

  list_good : (s : Segment) (x : IsSession links spells first entries s) (o : Option OnLane) → IsOne s all.parts
      → s.list ≡ o → ListsAs spells history x.new x.calls (told_over x.ran.done.over) o → IsGoodWhere x o
  list_good s x None i e listed = record {
    responds = listed.0;
    none = listed.1;
    apart = session_apart spells history x.ran.begins x.calls x.ran.done.over x.ran.done.leads listed.0 listed.1;
  }
  list_good s x (Some on) i e listed = record {
    list = listed.0;
    is_list = listed.1;
    apart = opening_apart spells history x.new x.ran.done.last x.calls on.lane listed.0 listed.1
        x.ran.done.leads.calls_are;
    behind = (list_over x.calls listed.0 (over_as x.ran.done.over), refl);
    kept = kept s x on i e listed;
    good = one_is_good s x on i e listed;
  }

  pub parts_are_good : AreGood links spells first entries all.parts
  parts_are_good s x i = list_good s x s.list i refl x.of_it.list

pub all_are_good : ListsAreGood → {D C L S : Type 0} (disks : DiskView D) (clocks : ClockView C)
    (links : LinkView L) (stations : StationView S) → AllAreGood disks clocks links stations
all_are_good good disks clocks links stations spells first front entries back limits before after ends base
    tells based none w =
    let all = all_have_parts disks clocks links stations spells first front entries back limits before after ends base
    tells based none w in (
      all.0,
      all.1,
      parts_are_good links good spells first (entries ++ back) (length front)
          (of_lanes spells (first ++ (entries ++ back)) tells based.possible) all.0,
      all.2,
    )
