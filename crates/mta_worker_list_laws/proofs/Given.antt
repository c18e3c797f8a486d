-- A lane that a call tells a responder that it has was opened by its peer.
use Rattle.std.proofs.Common.{◌≡◌, ℕ, ◌+◌, Bool, List, [], ◌∷◌, ◌++◌, Option, None, Some, Ok, refl, sym, ap}
use Rattle.std.proofs.Common.{subst, ◌∙◌, inl, inr, append_assoc}
use mathlib.Core.List.{IsPrefix}
use Rattle.mta_edge.specs.Views.{ClockView, DiskView}
use Rattle.mta_units.specs.declared.unit.OpenUnit.{OpenUnit}
use Rattle.mta_records.specs.Reference.{Identifier}
use Rattle.mta_records.specs.declared.lane.LaneRole.{LaneRole}
use Rattle.mta_records.specs.declared.lane.LaneRole.TheVariants.{Responder}
use Rattle.mta_records.specs.declared.step.Step.{Step}
use Rattle.mta_histories.specs.History.{after, IsHistory, new_lane as opened_lane}
use Rattle.mta_histories.specs.Kept.{IsKept}
use Rattle.mta_histories.specs.Lanes.{Lane, State, lane_at}
use Rattle.mta_histories.proofs.Keeps.{histories_keep}
use Rattle.mta_histories.proofs.Shown.{more-found}
use Rattle.mta_lane_match_laws.specs.Asks.{IsAskOf, IsForOpen}
use Rattle.mta_lane_match_laws.specs.Matches.{WhereOpen}
use Rattle.mta_session.specs.Follows.{Does}
use Rattle.mta_session.specs.State.{State as Session}
use Rattle.mta_session.specs.Wanted.{accepts, answer_for, wanted_of_reply, with_lane}
use Rattle.mta_session.specs.declared.ask.Ask.{Ask}
use Rattle.mta_session.specs.declared.ask.Ask.TheVariants as ask
use Rattle.mta_session.specs.declared.ask.Reply.{Reply}
use Rattle.mta_session.specs.declared.ask.Reply.TheVariants as reply
use Rattle.mta_session.specs.declared.event.Action.{Action}
use Rattle.mta_session.specs.declared.event.Action.TheVariants as action
use Rattle.mta_session.specs.declared.event.Event.{Event}
use Rattle.mta_session.specs.declared.event.Event.TheVariants as event
use Rattle.mta_session.specs.declared.peer.Peer.{Peer}
use Rattle.mta_session.specs.declared.phase.Phase.{Phase}
use Rattle.mta_session.specs.declared.phase.Phase.TheVariants as phase
use Rattle.mta_session_laws.specs.Runs.{IsTurn, Turn}
use Rattle.mta_session_list_laws.specs.Calls.{Call, StepOn, step_told}
use Rattle.mta_session_list_laws.specs.Lists.{step_by}
use Rattle.mta_session_list_laws.proofs.Waiting.{does_at, going}
use Rattle.mta_spool.specs.Shown.{Shown}
use Rattle.mta_worker.specs.Answers.{Answered, lanes_of}
use Rattle.mta_worker.specs.Turns.{IsLook, Looks, Replied, told_reply}
use Rattle.mta_worker_list_laws.specs.Histories.{TellsApdus}
use Rattle.mta_worker_list_laws.specs.Roles.{AreGiven, IsOpenAs, WasOpenAs}
use Rattle.mta_worker_list_laws.proofs.Calm.{IsNoReply}
use Rattle.mta_worker_list_laws.proofs.Heard.{Minds}
use Rattle.mta_worker_list_laws.proofs.Known.{IsAnswered, KnowsAt}
use Rattle.mta_worker_list_laws.proofs.Knowing.{IsBound, lane_bound}
use Rattle.mta_worker_list_laws.proofs.Making.{WasPossible}
use Rattle.mta_worker_list_laws.proofs.Responding.{accept_leaves}
use Rattle.mta_worker_list_laws.proofs.Telling.{reply_made}
use Rattle.mta_worker_list_laws.proofs.Turns.{calls_at, history_then, reply_stands, Stands, stands_before, was_possible}

pub given_more : (steps : List Step) (cs ds : List Call) → AreGiven steps cs → AreGiven steps ds
    → AreGiven steps (cs ++ ds)
given_more steps [] ds g k = k
given_more steps (c ∷ cs) ds g k = (g.0, given_more steps cs ds g.1 k)

-- ---- calls that tell of no lane

none_some : {A : Type 0} (o : Option StepOn) (x : StepOn) → o ≡ None → o ≡ Some x → A
none_some o x n e = absurd (let both : None ≡ Some x = sym n ∙ e in cc)

no_reply_by : (p : Phase) (e : Event) (u : Session) → IsNoReply e → step_by p e u ≡ None
no_reply_by (phase.AsksNewLane again) (event.Reply x) u i = absurd i
no_reply_by phase.AsksBind (event.Reply x) u i = absurd i
no_reply_by p e u i = refl

pub unheard : (steps : List Step) (x : Turn) (k : ℕ) → IsNoReply x.event
    → AreGiven steps (record { turn = x; seen = k } ∷ [])
unheard steps x k i =
    ((λ y e. none_some _ y (no_reply_by x.before.phase x.event x.after i) e), tt)

-- neither that a lane is opened, nor that one is bound
abbrev TellsNone : Reply → Type 0
TellsNone (reply.LaneOpen (Ok n)) = ⊥
TellsNone (reply.Bind (Ok g)) = ⊥
TellsNone x = Unit {0}

none_by : (p : Phase) (x : Reply) (u : Session) → TellsNone x → step_by p (event.Reply x) u ≡ None
none_by (phase.AsksNewLane again) (reply.LaneOpen (Ok n)) u i = absurd i
none_by phase.AsksBind (reply.Bind (Ok g)) u i = absurd i
none_by p x u i = refl

module _ {D C : Type 0} (disks : DiskView D) (clocks : ClockView C) where
  look_none : (q : Ask) (x : Reply) (s : Shown D C) → IsLook q → Answered disks clocks q s x s → TellsNone x
  look_none (ask.Values n) (reply.Values v) s i a = tt
  look_none (ask.Recovery n) (reply.Recovery v) s i a = tt
  look_none (ask.Receiving n) (reply.Receiving v) s i a = tt
  look_none (ask.Resumed n) (reply.Resumed v) s i a = tt
  look_none (ask.Values n) x s i a = elim a [ ]
  look_none (ask.Recovery n) x s i a = elim a [ ]
  look_none (ask.Receiving n) x s i a = elim a [ ]
  look_none (ask.Resumed n) x s i a = elim a [ ]
  look_none q x s i a = absurd i

  pub looks_given : (steps : List Step) (xs : List Turn) (s : Shown D C) (t : Session) (a : Action) (u : Session)
      (b : Action) (k : ℕ) → Looks disks clocks s t a xs u b → AreGiven steps (calls_at k xs)
  looks_given steps [] s t a u b k l = tt
  looks_given steps (x ∷ xs) s t a u b k l = (
    λ y e.
        none_some _ y
        (subst (λ (z : Event). step_by x.before.phase z x.after ≡ None) (sym l.1.3)
        (none_by x.before.phase l.1.1 x.after (look_none l.1.0 l.1.1 s l.1.4 l.1.5))) e,
    looks_given steps xs s x.after x.action u b k l.3,
  )

  -- ---- a lane that was opened or bound

  pub opened_as : (role : LaneRole) (peer : List ℕ) (name : Identifier) (twa : Bool) (c w n : ℕ) (old new : Shown D C)
      → Answered disks clocks (ask.LaneOpen role peer name twa c w) old (reply.LaneOpen (Ok n)) new
      → IsKept old.current → IsOpenAs role n new.current
  opened_as role peer name twa c w n old new a kept =
      let l : Lane = opened_lane (old.current.lanes.count + 1) role peer name twa c w in
      subst (λ (k : ℕ). IsOpenAs role k new.current) (sym a.1) (record {
        now = l;
        now_is =
            ap (λ (s : State). lane_at (old.current.lanes.count + 1) s.lanes.open_lanes) (a.0.at.changed refl)
            ∙ more-found 0 l (lanes_of old) old.current.lanes.count refl kept.numbered_lanes;
        role_is = refl;
      })

  opens_given : (t u : Session) (a : Action) (o : Option OpenUnit) (p : Option Peer) (n : ℕ) (q : Ask)
      (old new : Shown D C) → IsForOpen o p q → Does t (accepts (with_lane t o p n)) a u
      → Replied disks clocks q t old (reply.LaneOpen (Ok n)) new → IsKept old.current
      → IsOpenAs Responder u.lane new.current
  opens_given t u a (Some o) (Some p) n q old new asked d r kept =
      let v : Session = with_lane t (Some o) (Some p) n in
      subst (λ (z : Session). IsOpenAs Responder z.lane new.current)
      (sym (accept_leaves t v u a (answer_for v.side v.opened v.line) d))
      (elim (subst (λ (z : Ask). Replied disks clocks z t old (reply.LaneOpen (Ok n)) new) asked r) [
        | inl e ↦ absurd e.0
        | inr b ↦ opened_as Responder _ _ _ _ _ n old new b.1 kept
      ])
  opens_given t u a (Some o) None n q old new asked d r kept = absurd asked
  opens_given t u a None p n q old new asked d r kept = absurd asked

  pub bound_given : (t : Session) (g : ℕ) (old new : Shown D C) → IsAnswered t.lane old.current
      → Replied disks clocks (ask.Bind t.lane) t old (reply.Bind (Ok g)) new → WasPossible old new
      → IsOpenAs Responder t.lane new.current
  bound_given t g old new k r may =
      elim r [
        | inl e ↦ absurd e.0
        | inr b ↦ (
            let bound : IsBound t.lane g old.current new.current = lane_bound disks clocks t.lane g old new b.1 may in
            let was : bound.was.role ≡ Responder =
            subst (λ (o : Option Lane). WhereOpen (λ lane. lane.role ≡ Responder) o) bound.was_is k.role in
            record { now = bound.lane; now_is = bound.lane_is; role_is = bound.role_is ∙ was })
      ]

  no_step : {A : Type 0} (x : StepOn) → None ≡ Some x → A
  no_step x e = absurd cc

  gives_at : (p : Phase) (t : Session) (q : Ask) (x : Reply) (a : Action) (u : Session) (old new : Shown D C)
      → IsAskOf p t q → KnowsAt p t old.current → IsKept old.current → WasPossible old new
      → Replied disks clocks q t old x new → Does t (wanted_of_reply p t x) a u → (y : StepOn)
      → step_by p (event.Reply x) u ≡ Some y → IsOpenAs Responder u.lane new.current
  gives_at (phase.AsksNewLane again) t q (reply.LaneOpen (Ok n)) a u old new asked k kept may r d y e =
      opens_given t u a t.opened t.line n q old new asked d r kept
  gives_at phase.AsksBind t q (reply.Bind (Ok g)) a u old new asked k kept may r d y e =
      subst (λ (z : Session). IsOpenAs Responder z.lane new.current) (sym d.1)
      (bound_given t g old new k (subst (λ (z : Ask). Replied disks clocks z t old (reply.Bind (Ok g)) new) asked r)
      may)
  gives_at p t q x a u old new asked k kept may r d y e = no_step y e

  module _ (spells : List ℕ → Bool) (tells : TellsApdus spells) (first entries : List Step)
      (possible : IsHistory (first ++ entries)) where
    abbrev Stood : Shown D C → Type 0
    Stood s = Stands disks clocks spells tells first entries possible s

    pub kept_stood : (s : Shown D C) → Stood s → IsKept s.current
    kept_stood s st =
        subst IsKept (sym st.state)
        (histories_keep (first ++ s.entries)
        (history_then disks clocks spells tells first entries possible s st.front))

    -- a length of the history at which it is so
    pub was_open : (role : LaneRole) (lane : ℕ) (s : Shown D C) → Stood s → IsOpenAs role lane s.current
        → WasOpenAs role lane (first ++ entries)
    was_open role lane s st o = record {
      before = first ++ s.entries;
      behind = st.front.0;
      parts = append_assoc first s.entries st.front.0 ∙ ap (λ (xs : List Step). first ++ xs) st.front.1;
      opened = subst (λ (z : State). IsOpenAs role lane z) st.state o;
    }

    pub reply_given : (q : Ask) (t : Session) (x : Reply) (a : Action) (u : Session) (old new : Shown D C) (k : ℕ)
        → old.current ≡ after (first ++ old.entries) → IsPrefix new.entries entries
        → Minds disks clocks (action.Ask q) t old.current → Replied disks clocks q t old x new
        → IsTurn (told_reply t x a u)
        → AreGiven (first ++ entries) (record { turn = told_reply t x a u; seen = k } ∷ [])
    reply_given q t x a u old new k state f m r turn =
        let may : WasPossible old new =
        was_possible disks clocks spells tells first entries possible old new state f in
        let stood : Stood old =
        stands_before disks clocks spells tells first entries possible (step_told q x) old new
        (reply_made disks clocks q t old x new may r) state f in (
          λ y e.
              was_open Responder u.lane new
              (reply_stands disks clocks spells tells first entries possible q t x old new state f r)
              (gives_at t.phase t q x a u old new m.waits.asked m.knows (kept_stood old stood) may r
              (does_at (told_reply t x a u) (event.Reply x) refl turn
              (going (action.Ask q) t.phase refl m.waits.waits)) y e),
          tt,
        )
