-- The list of a session that was given up for want of memory at its link is a good one, whatever came of its last
-- action, with its Abort or none.
use Rattle.std.proofs.Common.{◌≡◌, ℕ, ◌+◌, Bool, true, false, List, [], ◌∷◌, refl, sym, ap, subst, ◌∙◌}
use Rattle.std.proofs.Common.{Option, None, Some}
use Rattle.mta_transfer_rules.specs.Lanes.{Seen}
use Rattle.mta_transfer_laws.specs.History.{IsOfLanes}
use Rattle.mta_session.specs.Fits.{AnswersAt, Fits, is_go}
use Rattle.mta_session.specs.Groups.{has_turned}
use Rattle.mta_session.specs.State.{is_initiator, State}
use Rattle.mta_session.specs.declared.event.Action.{Action}
use Rattle.mta_session.specs.declared.event.Action.TheVariants as action
use Rattle.mta_session.specs.declared.event.Event.{Event}
use Rattle.mta_session.specs.declared.event.Event.TheVariants as event
use Rattle.mta_session.specs.declared.phase.Phase.{Phase}
use Rattle.mta_session.specs.declared.phase.Phase.TheVariants as phase
use Rattle.mta_session_laws.specs.Whole.{AreCalls}
use Rattle.mta_transfer_laws.specs.Sessions.{IsGoodSession, SessionList}
use Rattle.mta_session_list_laws.specs.Calls.{action_of, Call, turns_of}
use Rattle.mta_session_list_laws.specs.Laws.{ListsAreGood, OpensFirst, OwnsPieces}
use Rattle.mta_session_list_laws.specs.Lists.{AreValues, completed, IsListOf}
use Rattle.mta_session_list_laws.specs.Over.{EndsAs, list_over, Over, seen_of}
use Rattle.mta_session_list_laws.specs.Standing.{ComesTrue}
use Rattle.mta_session_list_laws.proofs.Found.{never}
use Rattle.mta_worker_list_laws.specs.Begun.{Calls, IsAtLink, IsNewAt, Listens, MayCome}
use Rattle.mta_worker_list_laws.specs.Leads.{Leads}

-- ---- a session that was called

begin_first : (history : List Seen) (from : ℕ) (t : State) → IsNewAt history from t → t.phase ≡ phase.Begin
begin_first history from t (Calls p units at from' is has opens) = refl
begin_first history from t (Listens own units n) = refl

pub fits_behind : (cs : List Call) (t u : State) → Fits t → AreCalls t (turns_of cs) u → Fits u
fits_behind [] t u f run = subst (λ (z : State). Fits z) (sym run) f
fits_behind (c ∷ cs) t u f run = fits_behind cs c.turn.after u run.1.fits_after run.2

go_alone : (e : Event) → is_go e ≡ true → e ≡ event.Go
go_alone event.Go i = refl
go_alone any0 i = absurd (never i)

-- before its first call nothing but Go comes
first_go : (p : Phase) (t : State) (e : Event) → p ≡ phase.Begin → AnswersAt p t e → e ≡ event.Go
first_go p t e q a = go_alone e (subst (λ (z : Phase). AnswersAt z t e) q a)

link_true : (spells : List ℕ → Bool) (history : List Seen) (n : ℕ) (p : Phase) (b : Action) (e : Event) → IsAtLink b
    → ComesTrue spells history n n p b e
link_true spells history n p (action.Ask q) e at = absurd at
link_true spells history n p (action.Finish y) e at = absurd at
link_true spells history n p any4 e at = refl

-- ---- the law

-- how such a session is over
abbrev pub link_over : Option Event → (upto : ℕ) → (aborts : Bool) → Over
link_over came upto aborts = record { untold = came; seen = upto; aborts = aborts }

module _ (good : ListsAreGood) (spells : List ℕ → Bool) (history : List Seen) (t : State) (lane : ℕ) (l : SessionList)
    (size window : ℕ) (allow : IsOfLanes spells history) (values : AreValues history lane size window)
    (opens : OpensFirst t.side) where
  abbrev pub Owns : SessionList → Type 0
  Owns m = OwnsPieces history lane (completed history lane size window (is_initiator t.side) m)

  abbrev pub IsGood : SessionList → Type 0
  IsGood m =
      IsGoodSession spells history lane size window (is_initiator t.side)
      (completed history lane size window (is_initiator t.side) m)

  pub good_over : (calls : List Call) (u : State) (x : Over) → IsListOf spells history t calls lane l
      → AreCalls t (turns_of calls) u
      → EndsAs spells history (seen_of (l.at + 1) calls) (action_of action.Read calls) u x
      → Owns (list_over calls l x) → IsGood (list_over calls l x)
  good_over calls u x is_list run ends owns =
      good spells history t u calls lane size window l x allow is_list values opens owns run ends

  pub stopped_good : (calls : List Call) (u : State) (b : Action) (from mid upto : ℕ) (came : Option Event)
      (aborts : Bool) → IsNewAt history from t → IsListOf spells history t calls lane l
      → Leads spells history from t action.Read calls mid u b → upto ≡ mid → IsAtLink b → MayCome u came
      → (aborts ≡ true → has_turned u.phase ≡ false) → Owns (list_over calls l (link_over came upto aborts))
      → IsGood (list_over calls l (link_over came upto aborts))
  stopped_good calls u b from mid upto None aborts new is_list led same at may going owns =
      good_over calls u (link_over None upto aborts) is_list led.calls_are (record { came = tt; going = going }) owns
  stopped_good [] u b from mid upto (Some e) aborts new is_list led same at may going owns =
      let begin : u.phase ≡ phase.Begin = ap (λ (z : State). z.phase) led.calls_are ∙ begin_first history from t new in
      let none : list_over [] l (link_over (Some e) upto aborts) ≡ list_over [] l (link_over None upto aborts) =
      ap (λ (z : Event). list_over [] l (link_over (Some z) upto aborts)) (first_go u.phase u e begin may) in
      subst IsGood (sym none)
      (good_over [] u (link_over None upto aborts) is_list led.calls_are (record { came = tt; going = going })
      (subst Owns none owns))
  stopped_good (c ∷ cs) u b from mid upto (Some e) aborts new is_list led same at may going owns =
      let place : upto ≡ seen_of (l.at + 1) (c ∷ cs) = same ∙ sym led.seen in
      let stands : ComesTrue spells history upto upto u.phase (action_of action.Read (c ∷ cs)) e =
      subst (λ (a : Action). ComesTrue spells history upto upto u.phase a e) (sym led.wanted)
      (link_true spells history upto u.phase b e at) in
      good_over (c ∷ cs) u (link_over (Some e) upto aborts) is_list led.calls_are
      (record {
        came = record {
          fits = fits_behind cs c.turn.after u led.calls_are.1.fits_after led.calls_are.2;
          answers = may;
          stands =
              subst (λ (n : ℕ). ComesTrue spells history n upto u.phase (action_of action.Read (c ∷ cs)) e) place
              stands;
        };
        going = going;
      }) owns
