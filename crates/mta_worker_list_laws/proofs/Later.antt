-- Each entry of a session stands where it began or behind that, and before it was over.
use Rattle.std.proofs.Common.{◌≡◌, ◌<◌, ◌≤◌, ℕ, ◌+◌, ◌-◌, Bool, Option, None, Some, List, [], ◌∷◌, ◌++◌, arith}
use Rattle.std.proofs.Common.{inl, inr, subst}
use Rattle.std.proofs.lemmas.Bool.{cases_lt}
use Rattle.mta_transfer_rules.specs.Lanes.{Seen}
use Rattle.mta_session.specs.State.{State}
use Rattle.mta_session.specs.declared.ask.Ask.{Ask}
use Rattle.mta_session.specs.declared.ask.Reply.{Reply}
use Rattle.mta_session.specs.declared.event.Action.{Action}
use Rattle.mta_session.specs.declared.event.Action.TheVariants as action
use Rattle.mta_session.specs.declared.event.Event.{Event}
use Rattle.mta_session.specs.declared.event.Event.TheVariants as event
use Rattle.mta_session.specs.declared.phase.Phase.{Phase}
use Rattle.mta_session_list_laws.specs.Calls.{Call, StepOn, step_told}
use Rattle.mta_session_list_laws.specs.Over.{seen_of}
use Rattle.mta_session_list_laws.specs.Standing.{AllComeTrue, ComesTrue, StandsAs}
use Rattle.mta_shared.specs.Counts.{times}
use Rattle.mta_shared.proofs.Sums.{times-append}
use Rattle.mta_worker_list_laws.specs.Begun.{begun_by, Calls, Ended, IsBehind, IsNewAt, IsOver, Listens, made_over}
use Rattle.mta_worker_list_laws.specs.Begun.{Stopped, Untold}
use Rattle.mta_worker_list_laws.specs.Leads.{entry_at, Leads, made_by, made_in}
use Rattle.mta_worker_list_laws.proofs.Owned.{none_hit, one_hit}
use Rattle.mta_worker_list_laws.proofs.Responding.{comes_later}
use Rattle.mta_worker_list_laws.proofs.Sessions.{later_seen}

module _ (spells : List ℕ → Bool) (history : List Seen) (n low : ℕ) (less : n ≤ low) where
  entry_later : (q : Ask) (y : Reply) (o : Option StepOn) (from seen k : ℕ)
      → StandsAs spells history from seen q y o → low ≤ from → 0 < times k (entry_at n seen o)
      → (low ≤ n + k) × (n + k < seen)
  entry_later q y None from seen k s le hit = none_hit k hit
  entry_later q y (Some z) from seen k s le hit =
      let at : k ≡ seen - 1 - n = one_hit k (seen - 1 - n) hit in
      (omega (arith, at, le, less, s.later), omega (arith, at, le, less, s.later))

  call_later : (p : Phase) (a : Action) (e : Event) (from seen k : ℕ) → ComesTrue spells history from seen p a e
      → low ≤ from → 0 < times k (made_by n seen a e) → (low ≤ n + k) × (n + k < seen)
  call_later p (action.Ask q) (event.Reply y) from seen k is le hit =
      entry_later q y (step_told q y) from seen k is.1 le hit
  call_later p (action.Ask q) any2 from seen k is le hit = none_hit k hit
  call_later p any1 e from seen k is le hit = none_hit k hit

  calls_later : (cs : List Call) (a : Action) (from k : ℕ) → AllComeTrue spells history from a cs → low ≤ from
      → 0 < times k (made_in n a cs) → (low ≤ n + k) × (n + k < seen_of from cs)
  calls_later [] a from k is le hit = none_hit k hit
  calls_later (c ∷ cs) a from k is le hit =
      let sum : times k (made_by n c.seen a c.turn.event ++ made_in n c.turn.action cs)
      ≡ times k (made_by n c.seen a c.turn.event) + times k (made_in n c.turn.action cs) =
      times-append k (made_by n c.seen a c.turn.event) (made_in n c.turn.action cs) in
      let later = comes_later spells history c.turn.before.phase a c.turn.event from c.seen is.0 in
      elim (cases_lt 0 (times k (made_by n c.seen a c.turn.event))) [
        | inl now ↦ (
            let here = call_later c.turn.before.phase a c.turn.event from c.seen k is.0 le now in
            let rest = later_seen spells history n cs c.turn.action c.seen is.1 in
            (here.0, omega (arith, here.1, rest)))
        | inr none ↦ calls_later cs c.turn.action c.seen k is.1 (omega (arith, le, later))
            (omega (arith, hit, sum, none))
      ]

  over_later : {mid upto : ℕ} {u : State} {b : Action} (o : IsOver spells history mid upto u b) (k : ℕ)
      → low ≤ mid → 0 < times k (made_over n o) → (low ≤ n + k) × (n + k < upto)
  over_later (Ended e is same) k le hit = none_hit k hit
  over_later (Stopped came aborts at may going same) k le hit = none_hit k hit
  over_later {mid = mid} {upto = upto} (Untold q y aborts is comes answers going) k le hit =
      entry_later q y (step_told q y) mid upto k comes.1 le hit

  -- it begins there or behind
  begins_from : {from : ℕ} {t : State} (new : IsNewAt history from t) → IsBehind low new → low ≤ from
  begins_from (Calls p units at from is has opens) b = omega (arith, is, b)
  begins_from (Listens own units from) b = b

  begun_later : {from : ℕ} {t : State} (new : IsNewAt history from t) (k : ℕ) → IsBehind low new
      → 0 < times k (begun_by n new) → (low ≤ n + k) × (n + k < from)
  begun_later (Calls p units at from is has opens) k b hit =
      let there : k ≡ at - n = one_hit k (at - n) hit in
      (omega (arith, there, b, less), omega (arith, there, b, less, is))
  begun_later (Listens own units from) k b hit = none_hit k hit

-- and no less was seen behind its last call
pub over_grows : (spells : List ℕ → Bool) (history : List Seen) {mid upto : ℕ} {u : State} {b : Action}
    → IsOver spells history mid upto u b → mid ≤ upto
over_grows spells history (Ended e is same) = omega (arith, same)
over_grows spells history (Stopped came aborts at may going same) = omega (arith, same)
over_grows spells history {mid = mid} {upto = upto} {u = u} (Untold q y aborts is comes answers going) =
    comes_later spells history u.phase (action.Ask q) (event.Reply y) mid upto comes

pub own_later : (spells : List ℕ → Bool) (history : List Seen) (n low : ℕ) {from mid upto : ℕ} {t u : State}
    {b : Action} (new : IsNewAt history from t) (calls : List Call) (o : IsOver spells history mid upto u b) (k : ℕ)
    → IsBehind low new → n ≤ low → Leads spells history from t action.Read calls mid u b
    → 0 < times k (begun_by n new ++ (made_in n action.Read calls ++ made_over n o))
    → (low ≤ n + k) × (n + k < upto)
own_later spells history n low {from = from} {mid = mid} {upto = upto} new calls o k behind less led hit =
    let start : low ≤ from = begins_from spells history n low less new behind in
    let grown : from ≤ mid =
    subst (λ (m : ℕ). from ≤ m) led.seen (later_seen spells history n calls action.Read from led.come_true) in
    let last : mid ≤ upto = over_grows spells history o in
    let all : times k (begun_by n new ++ (made_in n action.Read calls ++ made_over n o))
    ≡ times k (begun_by n new) + times k (made_in n action.Read calls ++ made_over n o) =
    times-append k (begun_by n new) (made_in n action.Read calls ++ made_over n o) in
    let rest : times k (made_in n action.Read calls ++ made_over n o)
    ≡ times k (made_in n action.Read calls) + times k (made_over n o) =
    times-append k (made_in n action.Read calls) (made_over n o) in
    elim (cases_lt 0 (times k (begun_by n new))) [
      | inl first ↦ (
          let here = begun_later spells history n low less new k behind first in
          (here.0, omega (arith, here.1, grown, last)))
      | inr not_first ↦ elim (cases_lt 0 (times k (made_in n action.Read calls))) [
        | inl now ↦ (
            let here = calls_later spells history n low less calls action.Read from k led.come_true start now in
            let seen : seen_of from calls ≡ mid = led.seen in
            (here.0, omega (arith, here.1, seen, last)))
        | inr none ↦ over_later spells history n low less o k (omega (arith, start, grown))
            (omega (arith, hit, all, rest, not_first, none))
      ]
    ]
