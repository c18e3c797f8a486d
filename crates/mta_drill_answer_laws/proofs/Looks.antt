-- The looks at a lane before a session begins, where there is memory for all.
use Rattle.std.proofs.Common.{◌≡◌, ℕ, true, List, [], ◌∷◌, Option, None, Some, Ok, Err, refl, sym, ap, subst, ◌∙◌}
use Rattle.mta_edge.specs.Held.{HeldDisk}
use Rattle.mta_edge.specs.Images.{memory_disk}
use Rattle.mta_edge.specs.Moments.{memory_clock}
use Rattle.mta_spool.specs.Shown.{Shown}
use Rattle.mta_session.specs.Follows.{Follows}
use Rattle.mta_session.specs.State.{State}
use Rattle.mta_session.specs.declared.ask.Ask.{Ask}
use Rattle.mta_session.specs.declared.ask.Ask.TheVariants as ask
use Rattle.mta_session.specs.declared.ask.Reply.{Reply}
use Rattle.mta_session.specs.declared.ask.Reply.TheVariants as reply
use Rattle.mta_session.specs.declared.event.Action.{Action}
use Rattle.mta_session.specs.declared.event.Event.{Event}
use Rattle.mta_session.specs.declared.event.Event.TheVariants as event
use Rattle.mta_session_laws.specs.Runs.{Turn}
use Rattle.mta_stations.specs.declared.end.Halt.{Halt}
use Rattle.mta_worker.specs.Answers.{Answered}
use Rattle.mta_worker.specs.Halting.{halt_after}
use Rattle.mta_worker.specs.Turns.{IsLook, Looks, noted_in, noted_of}
use Rattle.mta_drill_stage_laws.specs.Starting.{Look, is_look}
use Rattle.mta_drill_stage_laws.specs.Starting.{Looks as Looked}
use Rattle.mta_drill_answer_laws.specs.Answers.{IsShort, Works}
use Rattle.mta_drill_answer_laws.proofs.Asking.{questions_are_asked}

-- ---- one look

look-is : (q : Ask) → IsLook q → is_look q ≡ true
look-is (ask.Values n) is = refl
look-is (ask.Recovery n) is = refl
look-is (ask.Receiving n) is = refl
look-is (ask.Resumed n) is = refl
look-is any0 is = elim is [ ]

-- what comes of it is nothing, or want of memory
pub look_clear : (s : Shown HeldDisk (List ℕ)) (q : Ask) (y : Reply) → IsLook q
    → Answered memory_disk memory_clock q s y s → (IsShort (halt_after y) → ⊥) → halt_after y ≡ None
look_clear s (ask.Values n) (reply.Values x) is answered clear = refl
look_clear s (ask.Values n) any1 is answered clear = absurd answered
look_clear s (ask.Recovery n) (reply.Recovery x) is answered clear = refl
look_clear s (ask.Recovery n) any1 is answered clear = absurd answered
look_clear s (ask.Receiving n) (reply.Receiving x) is answered clear = refl
look_clear s (ask.Receiving n) any1 is answered clear = absurd answered
look_clear s (ask.Resumed n) (reply.Resumed (Ok o)) is answered clear = refl
look_clear s (ask.Resumed n) (reply.Resumed (Err m)) is answered clear = absurd (clear tt)
look_clear s (ask.Resumed n) any1 is answered clear = absurd answered
look_clear s any0 y is answered clear = absurd is

-- ---- all of them

-- the first cause stays
noted-kept : (halt : Halt) (e : Event) → noted_of (Some halt) e ≡ Some halt
noted-kept halt (event.Reply y) = refl
noted-kept halt any0 = refl

noted-stays : (halt : Halt) (turns : List Turn) → noted_in (Some halt) turns ≡ Some halt
noted-stays halt [] = refl
noted-stays halt (x ∷ xs) =
    ap (λ (h : Option Halt). noted_in h xs) (noted-kept halt x.event) ∙ noted-stays halt xs

-- memory was there for the first look, where it was for all
first-clear : (h : Option Halt) (turns : List Turn) → (IsShort (noted_in h turns) → ⊥) → IsShort h → ⊥
first-clear None turns clear short = short
first-clear (Some halt) turns clear short =
    clear (subst (λ (h : Option Halt). IsShort h) (sym (noted-stays halt turns)) short)

module _ (s : Shown HeldDisk (List ℕ)) (works : Works s) where
  pub looks_so : (t : State) (a : Action) (turns : List Turn) (u : State) (b : Action)
      → Looks memory_disk memory_clock s t a turns u b → (IsShort (noted_in None turns) → ⊥)
      → ((looks : List Look) × Looked s.current t a looks u b) × (noted_in None turns ≡ None)
  looks_so t a [] u b looks clear = (([], looks), refl)
  looks_so t a (x ∷ xs) u b looks clear =
      let looked = looks.1 in
      let q = looked.0 in
      let y = looked.1 in
      let told : x.event ≡ event.Reply y = looked.3 in
      let all : IsShort (noted_in (halt_after y) xs) → ⊥ =
      subst (λ (e : Event). IsShort (noted_in (noted_of None e) xs) → ⊥) told clear in
      let here : IsShort (halt_after y) → ⊥ = first-clear (halt_after y) xs all in
      let none : halt_after y ≡ None = look_clear s q y looked.4 looked.5 here in
      let rest = looks_so x.after x.action xs u b looks.3
      (subst (λ (h : Option Halt). IsShort (noted_in h xs) → ⊥) none all) in
      let asked = questions_are_asked q s y s works looked.5 here in
      let follows : Follows t (event.Reply y) x.action x.after =
      subst (λ (z : State). Follows z (event.Reply y) x.action x.after) looks.0
      (subst (λ (e : Event). Follows x.before e x.action x.after) told looks.2.follows) in
      let look : Look = record { question = q; answer = y; wants = x.action; session = x.after } in (
        (
          look ∷ rest.0.0,
          (looked.2, look-is q looked.4, asked.0, follows, rest.0.1),
        ),
        subst (λ (e : Event). noted_in (noted_of None e) xs ≡ None) (sym told)
            (subst (λ (h : Option Halt). noted_in h xs ≡ None) (sym none) rest.1),
      )
