-- Whose the steps are that a command adds.
use Rattle.std.proofs.Common.{◌≡◌, ◌≤◌, ℕ, ◌+◌, List, [], ◌∷◌, ◌++◌, length, Some, inl, inr, refl}
use Rattle.std.proofs.Common.{sym, ap, subst, ◌∙◌, append_assoc, arith}
use Rattle.mta_records.specs.declared.step.Step.{Step}
use Rattle.mta_records.specs.declared.step.Step.TheVariants as step
use Rattle.mta_records.specs.declared.step.Step.TheVariants.{Tables}
use Rattle.mta_machine.specs.Items.{numbered}
use Rattle.mta_histories.specs.Lanes.{empty, State}
use Rattle.mta_histories.specs.Classes.{Class, class_of, moment_of}
use Rattle.mta_histories.specs.Classes as classes
use Rattle.mta_histories.specs.History.{after, after_from, after_step, when}
use Rattle.mta_spool.specs.Turning.{IsRecorded}
use Rattle.mta_spool.specs.Moments.{AreTimed, IsOfWorkers, IsTimedAs}
use Rattle.mta_spool.proofs.TablesKept.{tables_kept}
use Rattle.mta_commands.specs.Handed.{ForOpened, Handed}
use Rattle.mta_commands.specs.Provenance.{AreOfCall, AreTablesOf, IsTablesOf}
use Rattle.mta_commands.specs.Serving.{RecordsFirst}
use Rattle.mta_commands.specs.Submit.{accepts, AreInTurn, AreOwn, IsOwn, IsOwnOf, turn_behind, turn_of_class}
use Rattle.mta_commands.specs.Words.{Serves}
use Rattle.mta_commands.proofs.Added.{accepts_append, after_append, front_in_turn, none_due, turn_append, turn_stays}

-- ---- moments

own_step_timed : (tells : ℕ → Type 0) (conf input : List ℕ) (s : State) (x : Step) → IsOwn tells conf input s x
    → IsTimedAs tells s.moment (moment_of x)
own_step_timed tells conf input s (step.Snapshot t) own = absurd own
own_step_timed tells conf input s (step.Accept m apdu) own = own.1
own_step_timed tells conf input s (step.Deliver i r m) own = own
own_step_timed tells conf input s (step.Expand i r m) own = own
own_step_timed tells conf input s (step.Report i r m) own = own
own_step_timed tells conf input s (step.Affirm i r m) own = own
own_step_timed tells conf input s (step.Discard i r m) own = own
own_step_timed tells conf input s (step.Back i r m) own = own
own_step_timed tells conf input s (step.LaneOpen role peer reference twa c w m) own = absurd own
own_step_timed tells conf input s (step.Start lane g k i rs m) own = absurd own
own_step_timed tells conf input s (step.Sent lane g k m) own = absurd own
own_step_timed tells conf input s (step.Refused lane g k kind m) own = absurd own
own_step_timed tells conf input s (step.Denied lane g k m) own = absurd own
own_step_timed tells conf input s (step.Abandon lane k m) own = own
own_step_timed tells conf input s (step.Complete lane g k n piece m) own = absurd own
own_step_timed tells conf input s x own = tt

pub own_timed : (tells : ℕ → Type 0) (conf input : List ℕ) (s : State) (a : List Step) → AreOwn tells conf input s a
    → AreTimed tells s a
own_timed tells conf input s [] own = tt
own_timed tells conf input s (x ∷ a) own =
    (own_step_timed tells conf input s x own.0, own_timed tells conf input (after_step s x) a own.1)

pub timed_append : (tells : ℕ → Type 0) (s : State) (a b : List Step) → AreTimed tells s a
    → AreTimed tells (after_from s a) b → AreTimed tells s (a ++ b)
timed_append tells s [] b t u = u
timed_append tells s (x ∷ a) b t u = (t.0, timed_append tells (after_step s x) a b t.1 u)

pub own_front : (tells : ℕ → Type 0) (conf input : List ℕ) (s : State) (a b : List Step)
    → AreOwn tells conf input s (a ++ b) → AreOwn tells conf input s a
own_front tells conf input s [] b own = tt
own_front tells conf input s (x ∷ a) b own = (own.0, own_front tells conf input (after_step s x) a b own.1)

-- ---- their order

pub late_append : (a b : List Step) → AreInTurn 2 a → AreInTurn 2 b → AreInTurn 2 (a ++ b)
late_append a b p q = turn_append 2 a b p (subst (λ (k : ℕ). AreInTurn k b) (sym (turn_stays a p)) q)

late_rest : (x : Step) (a : List Step) → AreInTurn 2 (x ∷ a) → AreInTurn 2 a
late_rest x a p =
    let behind : turn_behind x ≡ 2 = omega (arith, p.0) in subst (λ (k : ℕ). AreInTurn k a) behind p.2

first_more : (conf : List ℕ) (a b : List Step) → RecordsFirst conf a → AreInTurn 2 b → RecordsFirst conf (a ++ b)
first_more conf a b (inl p) q = inl (late_append a b p q)
first_more conf a b (inr r) q =
    inr (r.0 ++ b, ap (λ (xs : List Step). xs ++ b) r.1, late_append r.0 b r.2 q)

-- a beginning of them
pub first_front : (conf : List ℕ) (a b : List Step) → RecordsFirst conf (a ++ b) → RecordsFirst conf a
first_front conf a b (inl p) = inl (front_in_turn 2 a b p)
first_front conf [] b (inr r) = inl tt
first_front conf (x ∷ a) b (inr r) =
    let here : x ≡ Tables conf = head_of r.1 in
    inr (a, ap (λ (y : Step). y ∷ a) here, front_in_turn 2 a b (subst (AreInTurn 2) (sym (tail_of r.1)) r.2))
  where
    head_of : x ∷ (a ++ b) ≡ Tables conf ∷ r.0 → x ≡ Tables conf
    head_of e = cc

    tail_of : x ∷ (a ++ b) ≡ Tables conf ∷ r.0 → a ++ b ≡ r.0
    tail_of e = cc

-- ---- tables and APDUs

late_tables_of : (conf : List ℕ) (c : Class) → 2 ≤ turn_of_class c → IsTablesOf conf c
late_tables_of conf (classes.begins t) late = absurd (omega (arith, late))
late_tables_of conf (classes.records text) late = absurd (omega (arith, late))
late_tables_of conf any1 late = tt

late_tables : (conf : List ℕ) (a : List Step) → AreInTurn 2 a → AreTablesOf conf a
late_tables conf [] p = tt
late_tables conf (x ∷ a) p = (late_tables_of conf (class_of x) p.0, late_tables conf a (late_rest x a p))

pub first_tables : (conf : List ℕ) (a : List Step) → RecordsFirst conf a → AreTablesOf conf a
first_tables conf a (inl p) = late_tables conf a p
first_tables conf a (inr r) = subst (AreTablesOf conf) (sym r.1) (refl, late_tables conf r.0 r.2)

pub first_none : (conf : List ℕ) (a : List Step) → RecordsFirst conf a → accepts a ≡ 0
first_none conf a (inl p) = none_due a p
first_none conf a (inr r) =
    let one : accepts (Tables conf ∷ []) ≡ 0 = refl in
    let two : accepts (Tables conf ∷ r.0) ≡ accepts (Tables conf ∷ []) + accepts r.0 =
    accepts_append (Tables conf ∷ []) r.0 in
    let rest : accepts r.0 ≡ 0 = none_due r.0 r.2 in
    ap accepts r.1 ∙ omega (arith, one, two, rest)

own_tables_of : (tells : ℕ → Type 0) (conf input : List ℕ) (last moment : ℕ) (c : Class)
    → IsOwnOf tells conf input last c moment → IsTablesOf conf c
own_tables_of tells conf input last moment (classes.begins t) own = absurd own
own_tables_of tells conf input last moment (classes.records text) own = own
own_tables_of tells conf input last moment any5 own = tt

pub own_tables : (tells : ℕ → Type 0) (conf input : List ℕ) (s : State) (a : List Step)
    → AreOwn tells conf input s a → AreTablesOf conf a
own_tables tells conf input s [] own = tt
own_tables tells conf input s (x ∷ a) own = (
  own_tables_of tells conf input s.moment (when s x) (class_of x) own.0,
  own_tables tells conf input (after_step s x) a own.1,
)

-- ---- the tables recorded last

late_class : (c : Class) → 2 ≤ turn_of_class c → IsOfWorkers c
late_class (classes.begins t) late = absurd (omega (arith, late))
late_class classes.sets_format late = absurd (omega (arith, late))
late_class (classes.records text) late = absurd (omega (arith, late))
late_class (classes.accepts octets) late = absurd (omega (arith, late))
late_class any0 late = tt

late_kept : (s : State) (a : List Step) → AreInTurn 2 a → (after_from s a).machine.tables ≡ s.machine.tables
late_kept s [] p = refl
late_kept s (x ∷ a) p =
    late_kept (after_step s x) a (late_rest x a p) ∙ tables_kept s x (late_class (class_of x) p.0)

pub recorded_as : (s t : State) (text : List ℕ) → t.machine.tables ≡ s.machine.tables → IsRecorded s text
    → IsRecorded t text
recorded_as s t text e r =
    subst (λ (ts : List (List ℕ)). numbered ts (length ts) ≡ Some text) (sym e) r

-- what comes behind tables leaves them the ones recorded last
pub recorded_behind : (text : List ℕ) (steps front behind : List Step) → AreInTurn 2 behind
    → IsRecorded (after (steps ++ front)) text → IsRecorded (after (steps ++ (front ++ behind))) text
recorded_behind text steps front behind late r =
    recorded_as (after (steps ++ front)) (after (steps ++ (front ++ behind))) text
    (ap (λ (xs : List Step). (after xs).machine.tables) (sym (append_assoc steps front behind))
    ∙ ap (λ (s : State). s.machine.tables) (after_append empty (steps ++ front) behind)
    ∙ late_kept (after (steps ++ front)) behind late) r

-- ---- all of it

module _ {D C I : Type 0} (h : Handed D C I) where
  -- of a command that adds none
  pub none_of_call : AreOfCall h []
  none_of_call = record {
    tables = λ c e. tt;
    accepted = λ other. refl;
    moments = λ f found steps was s. tt;
    in_turn = λ serves c e. inl tt;
  }

  -- behind the first steps of `serve` what comes is late
  pub more_of_call : Serves h.words → (front behind : List Step) → AreOfCall h front → AreInTurn 2 behind
      → ForOpened h (λ steps. AreTimed (h.clocks.tells h.clock) (after (steps ++ front)) behind)
      → AreOfCall h (front ++ behind)
  more_of_call serves front behind x late timed = record {
    tables = λ c e.
        first_tables c (front ++ behind) (first_more c front behind (x.in_turn serves c e) late);
    accepted = λ other.
        let before : accepts front ≡ 0 = x.accepted other in
        let two : accepts (front ++ behind) ≡ accepts front + accepts behind = accepts_append front behind in
        let rest : accepts behind ≡ 0 = none_due behind late in
        omega (arith, before, two, rest);
    moments = λ f found steps was s.
        timed_append (h.clocks.tells h.clock) (after steps) front behind (x.moments f found steps was s)
        (subst (λ (st : State). AreTimed (h.clocks.tells h.clock) st behind) (after_append empty steps front)
        (timed f found steps was s));
    in_turn = λ is c e. first_more c front behind (x.in_turn is c e) late;
  }
