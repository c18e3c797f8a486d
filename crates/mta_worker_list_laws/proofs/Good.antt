-- Lists of sessions that workers served are good ones.
use Rattle.std.proofs.Common.{◌≡◌, ◌⊎◌, ℕ, ◌+◌, Bool, true, false, None, Some, List, [], ◌∷◌, inl, inr, refl, sym}
use Rattle.std.proofs.Common.{subst, ◌∙◌}
use Rattle.mta_transfer_rules.specs.Lanes.{Seen}
use Rattle.mta_transfer_laws.specs.History.{IsOfLanes}
use Rattle.mta_session.specs.Fits.{Answers, Fits}
use Rattle.mta_session.specs.Groups.{has_turned}
use Rattle.mta_session.specs.Session.{new_responder}
use Rattle.mta_session.specs.State.{State, is_initiator}
use Rattle.mta_session.specs.declared.ask.Ask.{Ask}
use Rattle.mta_session.specs.declared.ask.Reply.{Reply}
use Rattle.mta_session.specs.declared.event.Action.{Action}
use Rattle.mta_session.specs.declared.event.Action.TheVariants as action
use Rattle.mta_session.specs.declared.event.Event.TheVariants as event
use Rattle.mta_session_laws.specs.Whole.{AreCalls}
use Rattle.mta_transfer_laws.specs.Sessions.{SessionList}
use Rattle.mta_session_list_laws.specs.Calls.{action_of, Call, list_of, turns_of}
use Rattle.mta_session_list_laws.specs.Laws.{ListsAreGood, OpensFirst}
use Rattle.mta_session_list_laws.specs.Lists.{AreValues, Initiates, IsListOf, Responds}
use Rattle.mta_session_list_laws.specs.Over.{EndsAs, list_over, seen_of}
use Rattle.mta_session_list_laws.specs.Standing.{AllComeTrue, ComesTrue}
use Rattle.mta_session_list_laws.proofs.Found.{never}
use Rattle.mta_worker_list_laws.specs.Begun.{Calls, Ended, GiveNone, IsNewAt, IsOver, Listens, over_as, Stopped}
use Rattle.mta_worker_list_laws.specs.Begun.{Untold}
use Rattle.mta_worker_list_laws.specs.Good.{SessionsAreGood, SessionsHaveLists}
use Rattle.mta_worker_list_laws.specs.Leads.{Leads}
use Rattle.mta_worker_list_laws.proofs.Responding.{Begins, begins_or_not}
use Rattle.mta_worker_list_laws.proofs.Stopped.{fits_behind, good_over, IsGood, Owns, stopped_good}

-- ---- which list

module _ (spells : List ℕ → Bool) (history : List Seen) where
  abbrev HasList : State → List Call → Type 0
  HasList t calls = (lane : ℕ) × (l : SessionList) × IsListOf spells history t calls lane l

  responds : (own : List ℕ) (units : ℕ) (calls : List Call) (u : State) (from : ℕ)
      → Begins spells history calls action.Read u from → HasList (new_responder own units) calls
  responds own units calls u from b =
      let l : SessionList = record {
        opening = list_of action.Read b.before;
        at = b.at;
        events = list_of b.call.turn.action b.calls;
      } in (
        b.call.turn.after.lane,
        l,
        subst (λ (cs : List Call). IsListOf spells history (new_responder own units) cs b.call.turn.after.lane l)
            (sym b.cut)
            (Responds own units b.at b.before b.calls b.call b.step b.by b.seen b.has b.come_true),
      )

  listed : (from mid : ℕ) (t u : State) (b : Action) (calls : List Call) → IsNewAt history from t
      → Leads spells history from t action.Read calls mid u b
      → HasList t calls ⊎ ((is_initiator t.side ≡ false) × GiveNone calls)
  listed from mid t u b calls (Calls p units at from' is has opens) l = inl (
    p.lane,
    record { opening = []; at = at; events = list_of action.Read calls },
    Initiates p units at calls has
        (subst (λ (m : ℕ). AllComeTrue spells history m action.Read calls) is l.come_true),
  )
  listed from mid t u b calls (Listens own units n) l =
      elim (begins_or_not spells history calls action.Read (new_responder own units) u n
      (record { due = refl; waits = refl }) tt l.calls_are l.come_true) [
        | inl begins ↦ inl (responds own units calls u n begins)
        | inr none ↦ inr (refl, none)
      ]

pub sessions_have_lists : SessionsHaveLists
sessions_have_lists spells history from upto t u b calls new l = listed spells history from upto t u b calls new l

-- ---- that it is good

opens_first : (history : List Seen) (from : ℕ) (t : State) → IsNewAt history from t → OpensFirst t.side
opens_first history from t (Calls p units at from' is has opens) = opens
opens_first history from t (Listens own units n) = tt

fits_then : (calls : List Call) (a : Action) (t u : State) (q : Ask) → AreCalls t (turns_of calls) u
    → action_of a calls ≡ action.Ask q → (a ≡ action.Ask q → ⊥) → Fits u
fits_then [] a t u q run e none = absurd (none e)
fits_then (c ∷ cs) a t u q run e none = fits_behind cs c.turn.after u run.1.fits_after run.2

-- the length of the history behind some calls
seen_behind : (calls : List Call) (from low : ℕ) (a : Action) (q : Ask) → action_of a calls ≡ action.Ask q
    → (a ≡ action.Ask q → ⊥) → seen_of from calls ≡ seen_of low calls
seen_behind [] from low a q e none = absurd (none e)
seen_behind (c ∷ cs) from low a q e none = refl

pub read_asks : (q : Ask) → action.Read ≡ action.Ask q → ⊥
read_asks q e = cc

module _ (good : ListsAreGood) (spells : List ℕ → Bool) (history : List Seen) (t : State) (calls : List Call)
    (lane : ℕ) (l : SessionList) (size window : ℕ) (allow : IsOfLanes spells history)
    (is_list : IsListOf spells history t calls lane l) (values : AreValues history lane size window)
    (opens : OpensFirst t.side) where
  untold_ends : (u : State) (b : Action) (from mid upto : ℕ) (q : Ask) (x : Reply) (aborts : Bool)
      → Leads spells history from t action.Read calls mid u b → b ≡ action.Ask q
      → ComesTrue spells history mid upto u.phase (action.Ask q) (event.Reply x) → Answers u (event.Reply x)
      → (aborts ≡ true → has_turned u.phase ≡ false)
      → EndsAs spells history (seen_of (l.at + 1) calls) (action_of action.Read calls) u
      (record { untold = Some (event.Reply x); seen = upto; aborts = aborts })
  untold_ends u b from mid upto q x aborts led is true_ answers turned =
      let wants : action_of action.Read calls ≡ action.Ask q = led.wanted ∙ is in
      let place : mid ≡ seen_of (l.at + 1) calls =
      sym led.seen ∙ seen_behind calls from (l.at + 1) action.Read q wants (read_asks q) in
      record {
        came = record {
          fits = fits_then calls action.Read t u q led.calls_are wants (read_asks q);
          answers = answers;
          stands =
              subst (λ (a : Action). ComesTrue spells history (seen_of (l.at + 1) calls) upto u.phase a (event.Reply x))
              (sym wants)
              (subst (λ (n : ℕ). ComesTrue spells history n upto u.phase (action.Ask q) (event.Reply x)) place true_);
        };
        going = turned;
      }

  over_good : (u : State) (b : Action) (from mid upto : ℕ) → IsNewAt history from t
      → Leads spells history from t action.Read calls mid u b → (o : IsOver spells history mid upto u b)
      → Owns good spells history t lane l size window allow values opens (list_over calls l (over_as o))
      → IsGood good spells history t lane l size window allow values opens (list_over calls l (over_as o))
  over_good u b from mid upto new led (Ended e is same) owns =
      good_over good spells history t lane l size window allow values opens calls u
      (record { untold = None; seen = upto; aborts = false }) is_list
      led.calls_are (record { came = tt; going = λ i. absurd (never i) }) owns
  over_good u b from mid upto new led (Stopped came aborts at may going same) owns =
      stopped_good good spells history t lane l size window allow values opens calls u b from mid upto came aborts new
      is_list led same at may going owns
  over_good u b from mid upto new led (Untold q x aborts is true_ answers going) owns =
      good_over good spells history t lane l size window allow values opens calls u
      (record { untold = Some (event.Reply x); seen = upto; aborts = aborts }) is_list led.calls_are
      (untold_ends u b from mid upto q x aborts led is true_ answers going) owns

pub sessions_good : ListsAreGood → SessionsAreGood
sessions_good good spells history from mid upto t u b calls lane l m size window allow new led over is_list so values
    owns =
    let opens : OpensFirst t.side = opens_first history from t new in
    subst (IsGood good spells history t lane l size window allow values opens) (sym so)
    (over_good good spells history t calls lane l size window allow is_list values opens u b from mid upto new led over
    (subst (Owns good spells history t lane l size window allow values opens) so owns))
