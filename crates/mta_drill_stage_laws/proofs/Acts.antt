-- What an act is, by what a side wants.
use Rattle.std.proofs.Common.{◌≡◌, inl, inr, ℕ, Bool, true, false, List, [], ◌∷◌, subst}
use Rattle.mta_units.specs.declared.unit.Unit.{Unit as AnyUnit}
use Rattle.mta_session.specs.declared.ask.Ask.{Ask}
use Rattle.mta_session.specs.declared.ask.Ask.TheVariants as ask
use Rattle.mta_session.specs.declared.event.Action.TheVariants as action
use Rattle.mta_session.specs.declared.event.Event.{Event}
use Rattle.mta_session.specs.declared.event.Event.TheVariants as event
use Rattle.mta_session.specs.Follows.{Follows}
use Rattle.mta_session.specs.State.{State}
use Rattle.mta_drill_text.specs.declared.breaks.Break.{Break}
use Rattle.mta_drill_text.specs.declared.breaks.Break.TheVariants.{BehindConfirm, BehindComplete}
use Rattle.mta_drill_stage_laws.specs.Breaks.{IsReached}
use Rattle.mta_drill_stage_laws.specs.World.{Acts, ActsAs, HasAsked, IsTaken, IsTalk, IsTold, Link, Party}

pub puts_over : (p q : Party) (l m : Link) (did : List AnyUnit) (y : AnyUnit) → p.wants ≡ action.Put y
    → l.is_broken ≡ false → Acts p l did q m → IsTalk p event.Go p.came (y ∷ []) l did q m
puts_over p q l m did y e b h =
    subst (λ z. ActsAs (action.Put y) z p.came p l did q m) b
    (subst (λ a. ActsAs a l.is_broken p.came p l did q m) e h)

pub puts_nothing : (p q : Party) (l m : Link) (did : List AnyUnit) (y : AnyUnit) → p.wants ≡ action.Put y
    → l.is_broken ≡ true → Acts p l did q m → IsTalk p event.Over p.came [] l did q m
puts_nothing p q l m did y e b h =
    subst (λ z. ActsAs (action.Put y) z p.came p l did q m) b
    (subst (λ a. ActsAs a l.is_broken p.came p l did q m) e h)

pub reads_first : (p q : Party) (l m : Link) (did rest : List AnyUnit) (y : AnyUnit) → p.wants ≡ action.Read
    → l.is_broken ≡ false → p.came ≡ y ∷ rest → Acts p l did q m
    → IsTalk p (event.Unit y) rest [] l did q m
reads_first p q l m did rest y e b c h =
    subst (λ us. ActsAs action.Read false us p l did q m) c
    (subst (λ z. ActsAs action.Read z p.came p l did q m) b
    (subst (λ a. ActsAs a l.is_broken p.came p l did q m) e h))

pub reads_nothing : (p q : Party) (l m : Link) (did : List AnyUnit) → p.wants ≡ action.Read
    → l.is_broken ≡ true → Acts p l did q m → IsTalk p event.Over p.came [] l did q m
reads_nothing p q l m did e b h =
    subst (λ z. ActsAs action.Read z p.came p l did q m) b
    (subst (λ a. ActsAs a l.is_broken p.came p l did q m) e h)

-- a side that waits does nothing
pub waits_still : (p q : Party) (l m : Link) (did : List AnyUnit) → p.wants ≡ action.Read → l.is_broken ≡ false
    → p.came ≡ [] → Acts p l did q m → ⊥
waits_still p q l m did e b c h =
    subst (λ us. ActsAs action.Read false us p l did q m) c
    (subst (λ z. ActsAs action.Read z p.came p l did q m) b
    (subst (λ a. ActsAs a l.is_broken p.came p l did q m) e h))

pub asks_so : (p q : Party) (l m : Link) (did : List AnyUnit) (x : Ask) → p.wants ≡ action.Ask x
    → Acts p l did q m → HasAsked p x l did q m
asks_so p q l m did x e h = subst (λ a. ActsAs a l.is_broken p.came p l did q m) e h

-- what a session is told, in the state that it is in
pub told_at : (p q : Party) (e : Event) (came : List AnyUnit) (t : State) → p.session ≡ t → IsTold p e came q
    → Follows t e q.wants q.session
told_at p q e came t s h = subst (λ z. Follows z e q.wants q.session) s h.follows

-- ---- breaks

-- a step behind which the link may be broken
abbrev pub is_mark : Ask → Bool
is_mark (ask.Confirm n g k m) = true
is_mark (ask.Complete n g k m piece) = true
is_mark _ = false

reached_not : (place : Break) (a : ℕ) (q : Ask) → is_mark q ≡ false → IsReached place a q → ⊥
reached_not BehindConfirm a (ask.Confirm n g k m) e h = absurd cc
reached_not BehindComplete a (ask.Complete n g k m piece) e h = absurd cc
reached_not place a q e h = elim h [ ]

pub untaken : (l m : Link) (q : Ask) → is_mark q ≡ false → IsTaken l q m → m ≡ l
untaken l m q e (inl h) = absurd (reached_not h.1.place h.0 q e h.1.reached)
untaken l m q e (inr h) = h.1
