-- A lane that this agent opens to a peer, and where no reply that is not told gives a session one.
use Rattle.std.proofs.Common.{◌≡◌, ℕ, ◌+◌, Bool, List, ◌++◌, Option, None, Some, Ok, refl, sym, ap, subst, ◌∙◌}
use Rattle.std.proofs.Common.{inl, inr, append_assoc, slice_get}
use Rattle.std.specs.Prelude.{option_and_then}
use Rattle.std.specs.Option.{option_map}
use mathlib.Core.List.{IsPrefix}
use Rattle.mta_edge.specs.Views.{ClockView, DiskView}
use Rattle.mta_units.specs.declared.unit.OpenUnit.{OpenUnit}
use Rattle.mta_records.specs.Reference.{Identifier}
use Rattle.mta_records.specs.declared.lane.LaneRole.TheVariants.{Initiator, Responder}
use Rattle.mta_records.specs.declared.step.Step.{Step}
use Rattle.mta_tables.specs.Hops.{IsPeerAt}
use Rattle.mta_tables.specs.Tables.{peer_of, TablesValue}
use Rattle.mta_tables.specs.declared.entry.Peer.{Peer as Entry}
use Rattle.mta_tables.proofs.HopLaws.{peer_found}
use Rattle.mta_worker.specs.PeerLines.{line_in, line_of}
use Rattle.mta_histories.specs.History.{after, IsHistory, new_lane as opened_lane}
use Rattle.mta_histories.specs.Kept.{IsKept}
use Rattle.mta_histories.specs.Lanes.{Lane, State, lane_at}
use Rattle.mta_histories.proofs.Shown.{more-found}
use Rattle.mta_lane_match_laws.specs.Asks.{IsAskOf, IsForOpen}
use Rattle.mta_session.specs.State.{State as Session}
use Rattle.mta_session.specs.declared.ask.Ask.{Ask}
use Rattle.mta_session.specs.declared.ask.Ask.TheVariants as ask
use Rattle.mta_session.specs.declared.ask.Reply.{Reply}
use Rattle.mta_session.specs.declared.ask.Reply.TheVariants as reply
use Rattle.mta_session.specs.declared.event.Action.TheVariants as action
use Rattle.mta_session.specs.declared.event.Event.TheVariants as event
use Rattle.mta_session.specs.declared.peer.Peer.{Peer}
use Rattle.mta_session.specs.declared.phase.Phase.{Phase}
use Rattle.mta_session.specs.declared.phase.Phase.TheVariants as phase
use Rattle.mta_session_list_laws.specs.Calls.{step_told}
use Rattle.mta_session_list_laws.specs.Lists.{step_by}
use Rattle.mta_session_list_laws.proofs.Ordering.{IsSome}
use Rattle.mta_spool.specs.Shown.{Shown}
use Rattle.mta_worker.specs.Answers.{Answered, lanes_of}
use Rattle.mta_worker.specs.Turns.{IsLook, Replied}
use Rattle.mta_worker_list_laws.specs.Histories.{TellsApdus}
use Rattle.mta_worker_list_laws.specs.Roles.{IsOpenAs, IsOpenTo, WasOpenAs, WasOpenTo, WhereBegun}
use Rattle.mta_worker_list_laws.proofs.Beginning.{asks_some, IsBegin}
use Rattle.mta_worker_list_laws.proofs.Given.{bound_given, kept_stood, opened_as, was_open}
use Rattle.mta_worker_list_laws.proofs.Heard.{Minds}
use Rattle.mta_worker_list_laws.proofs.Known.{KnowsAt}
use Rattle.mta_worker_list_laws.proofs.Making.{WasPossible}
use Rattle.mta_worker_list_laws.proofs.Telling.{reply_made}
use Rattle.mta_worker_list_laws.proofs.Turns.{reply_stands, Stands, stands_before, was_possible}

-- ---- the peer that is called

none_some : {A B : Type 0} (x : A) → None ≡ Some x → B
none_some x e = absurd cc

same_some : {A : Type 0} (x y : A) → Some x ≡ Some y → x ≡ y
same_some x y e = cc

named_at : (t : TablesValue) (name : List ℕ) (line : Peer) (o : Option ℕ) → IsPeerAt t name o
    → option_map line_of (option_and_then (slice_get t.peers) o) ≡ Some line → line.name ≡ name
named_at t name line None at e = none_some line e
named_at t name line (Some i) at e =
    let found : option_map line_of (slice_get t.peers i) ≡ Some (line_of at.peer) =
    ap (λ (o : Option Entry). option_map line_of o) at.found in
    let same : line_of at.peer ≡ line = same_some _ line (sym found ∙ e) in
    sym (ap (λ (p : Peer). p.name) same) ∙ at.same

-- the line of a name has that name
pub line_named : (t : TablesValue) (name : List ℕ) (line : Peer) → line_in t name ≡ Some line → line.name ≡ name
line_named t name line e = named_at t name line (peer_of t name) (peer_found t name) e

-- ---- a reply that is not told

in_state : (P Q : ℕ → Type 0) → ((n : ℕ) → P n → Q n) → (q : Ask) (x : Reply) → WhereBegun P q x → WhereBegun Q q x
in_state P Q leads (ask.LaneOpen role peer name twa c w) (reply.LaneOpen (Ok n)) b = leads n b
in_state P Q leads (ask.Bind n) (reply.Bind (Ok g)) b = leads n b
in_state P Q leads q x b = tt

-- where such a reply begins a generation it is enough to show it there
where_begun : (P : ℕ → Type 0) (q : Ask) (x : Reply) → (IsBegin q x → WhereBegun P q x) → WhereBegun P q x
where_begun P (ask.LaneOpen role peer name twa c w) (reply.LaneOpen (Ok n)) f = f tt
where_begun P (ask.Bind n) (reply.Bind (Ok g)) f = f tt
where_begun P q x f = tt

-- a look opens and binds none
pub look_begins : (P : ℕ → Type 0) (q : Ask) (x : Reply) → IsLook q → WhereBegun P q x
look_begins P (ask.Values n) x i = tt
look_begins P (ask.Recovery n) x i = tt
look_begins P (ask.Receiving n) x i = tt
look_begins P (ask.Resumed n) x i = tt
look_begins P q x i = absurd i

module _ {D C : Type 0} (disks : DiskView D) (clocks : ClockView C) where
  pub opened_with : (peer : List ℕ) (name : Identifier) (twa : Bool) (c w n : ℕ) (old new : Shown D C)
      → Answered disks clocks (ask.LaneOpen Initiator peer name twa c w) old (reply.LaneOpen (Ok n)) new
      → IsKept old.current → IsOpenTo peer n new.current
  opened_with peer name twa c w n old new a kept =
      let l : Lane = opened_lane (old.current.lanes.count + 1) Initiator peer name twa c w in
      subst (λ (k : ℕ). IsOpenTo peer k new.current) (sym a.1) (record {
        now = l;
        now_is =
            ap (λ (s : State). lane_at (old.current.lanes.count + 1) s.lanes.open_lanes) (a.0.at.changed refl)
            ∙ more-found 0 l (lanes_of old) old.current.lanes.count refl kept.numbered_lanes;
        role_is = refl;
        peer_is = refl;
      })

  abbrev OpensTheirs : Shown D C → Ask → Reply → Type 0
  OpensTheirs new q x = WhereBegun (λ n. IsOpenAs Responder n new.current) q x

  opens_theirs : (t : Session) (o : Option OpenUnit) (p : Option Peer) (n : ℕ) (q : Ask) (old new : Shown D C)
      → IsForOpen o p q → Replied disks clocks q t old (reply.LaneOpen (Ok n)) new → IsKept old.current
      → OpensTheirs new q (reply.LaneOpen (Ok n))
  opens_theirs t (Some o) (Some p) n q old new asked r kept =
      subst (λ (z : Ask). OpensTheirs new z (reply.LaneOpen (Ok n))) (sym asked)
      (elim (subst (λ (z : Ask). Replied disks clocks z t old (reply.LaneOpen (Ok n)) new) asked r) [
        | inl e ↦ absurd e.0
        | inr b ↦ opened_as disks clocks Responder _ _ _ _ _ n old new b.1 kept
      ])
  opens_theirs t (Some o) None n q old new asked r kept = absurd asked
  opens_theirs t None p n q old new asked r kept = absurd asked

  -- a lane that is opened or bound for a session that has none is the peer's
  theirs_at : (p : Phase) (t : Session) (q : Ask) (x : Reply) (old new : Shown D C) → IsAskOf p t q
      → KnowsAt p t old.current → IsKept old.current → WasPossible old new → Replied disks clocks q t old x new
      → IsSome (step_by p (event.Reply x) t) → OpensTheirs new q x
  theirs_at (phase.AsksNewLane again) t q (reply.LaneOpen (Ok n)) old new asked k kept may r i =
      opens_theirs t t.opened t.line n q old new asked r kept
  theirs_at phase.AsksBind t q (reply.Bind (Ok g)) old new asked k kept may r i =
      subst (λ (z : Ask). OpensTheirs new z (reply.Bind (Ok g))) (sym asked)
      (bound_given disks clocks t g old new k
      (subst (λ (z : Ask). Replied disks clocks z t old (reply.Bind (Ok g)) new) asked r) may)
  theirs_at p t q x old new asked k kept may r i = absurd i

  module _ (spells : List ℕ → Bool) (tells : TellsApdus spells) (first entries : List Step)
      (possible : IsHistory (first ++ entries)) where
    -- a length of the history at which it is so
    pub was_opened : (peer : List ℕ) (lane : ℕ) (s : Shown D C)
        → Stands disks clocks spells tells first entries possible s → IsOpenTo peer lane s.current
        → WasOpenTo peer lane (first ++ entries)
    was_opened peer lane s st o = record {
      before = first ++ s.entries;
      behind = st.front.0;
      parts = append_assoc first s.entries st.front.0 ∙ ap (λ (xs : List Step). first ++ xs) st.front.1;
      opened = subst (λ (z : State). IsOpenTo peer lane z) st.state o;
    }

    -- the reply to a question of the session
    pub reply_theirs : (q : Ask) (t : Session) (x : Reply) (old new : Shown D C)
        → old.current ≡ after (first ++ old.entries) → IsPrefix new.entries entries
        → Minds disks clocks (action.Ask q) t old.current → Replied disks clocks q t old x new
        → WhereBegun (λ lane. WasOpenAs Responder lane (first ++ entries)) q x
    reply_theirs q t x old new state f m r =
        let may : WasPossible old new =
        was_possible disks clocks spells tells first entries possible old new state f in
        let stood : Stands disks clocks spells tells first entries possible old =
        stands_before disks clocks spells tells first entries possible (step_told q x) old new
        (reply_made disks clocks q t old x new may r) state f in
        in_state (λ n. IsOpenAs Responder n new.current) (λ n. WasOpenAs Responder n (first ++ entries))
        (λ n o.
        was_open disks clocks spells tells first entries possible Responder n new
        (reply_stands disks clocks spells tells first entries possible q t x old new state f r) o) q x
        (where_begun (λ n. IsOpenAs Responder n new.current) q x
        (λ b.
        theirs_at t.phase t q x old new m.waits.asked m.knows
        (kept_stood disks clocks spells tells first entries possible old stood) may r
        (asks_some t.phase t q x t m.waits.asked b)))
