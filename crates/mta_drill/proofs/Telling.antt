-- A session that is told what came of its link.
use Rattle.std.proofs.Common.{◌≡◌, ◌<◌, ℕ, Bool, true, false, Option, None, Some, refl, sym, subst, arith}
use Rattle.std.proofs.Common.{inl}
use Rattle.mta_links.specs.Links.{Leads, LinkView, untold_link}
use Rattle.mta_units.specs.declared.unit.Unit.{Unit as AnyUnit}
use Rattle.mta_units.specs.Feed.{no_feed}
use Rattle.mta_session.specs.Fits.{Answers}
use Rattle.mta_session.specs.Rank.{calls_left}
use Rattle.mta_session.specs.State.{State}
use Rattle.mta_session.specs.declared.event.Event.{Event}
use Rattle.mta_session.specs.declared.event.Event.TheVariants as event
use Rattle.mta_session.specs.declared.event.Action.{Action}
use Rattle.mta_session.specs.declared.event.Action.TheVariants as actions
use Rattle.mta_session_run.specs.Running.{HasDone, HasTold, IsCalled}
use Rattle.mta_session_run.proofs.Running.{called_more, done_answers, done_goes, done_tells}
use Rattle.mta_drill.specs.Acts.{IsOfReading, put_event}

-- ---- what a link that tells nothing but its faults has done

abbrev counted : LinkView ℕ
counted = untold_link (λ n. n)

untold : {T : Type 0} (step : T → T → Type 0) → Leads step None None
untold step = record { each = λ f e. absurd cc; back = λ g e. absurd cc }

none-told : {T : Type 0} (step then : T → T → Type 0) (since : Option T) → Leads step since None → Leads then since None
none-told step then since l = record {
  each = λ f e. absurd (let told = l.each f e in let none : None ≡ Some told.0 = told.1 in cc);
  back = λ g e. absurd cc;
}

abbrev Comes : Action → Event → Type 0
Comes a e = HasDone counted a 0 no_feed e 1 no_feed

put-comes : (u : AnyUnit) (b : Bool) → Comes (actions.Put u) (put_event b)
put-comes u true = (((0, untold _), omega arith), refl)
put-comes u false = (untold _, refl)

read-comes : (e : Event) → IsOfReading (Some e) → Comes actions.Read e
read-comes (event.Unit x) is = record {
  read = tt;
  carried = λ since us octets l. none-told _ _ since l;
}
read-comes event.Over is = record {
  read = (inl (omega arith), inl (omega arith));
  carried = λ since us octets l. none-told _ _ since l;
}
read-comes event.Go is = absurd is
read-comes event.BadUnit is = absurd is
read-comes (event.Reply x) is = absurd is

-- ---- what a session makes of it

module _ (t : State) (a : Action) (e : Event) (called : IsCalled t a) (comes : Comes a e) where
  answers : Answers t e
  answers = done_answers counted t a 0 no_feed e 1 no_feed called.awaited comes

  goes-on : (b : Action) (v : State) → HasTold t e b v → IsCalled v b
  goes-on b v told = called_more t a e b v called (done_tells counted t a 0 no_feed e 1 no_feed comes) told

  falls : (b : Action) (v : State) → HasTold t e b v → calls_left v < calls_left t
  falls b v told = told.falls (done_goes counted t a 0 no_feed e 1 no_feed called.awaited comes)

-- ---- a unit was put, or the link is over

module _ (t : State) (u : AnyUnit) (broken : Bool) (e : Event) (called : IsCalled t (actions.Put u))
    (is : e ≡ put_event broken) where
  comes : Comes (actions.Put u) e
  comes = subst (λ (x : Event). Comes (actions.Put u) x) (sym is) (put-comes u broken)

  pub put_answers : Answers t e
  put_answers = answers t (actions.Put u) e called comes

  pub put_called : (b : Action) (v : State) → HasTold t e b v → IsCalled v b
  put_called b v told = goes-on t (actions.Put u) e called comes b v told

  pub put_falls : (b : Action) (v : State) → HasTold t e b v → calls_left v < calls_left t
  put_falls b v told = falls t (actions.Put u) e called comes b v told

-- ---- a unit was got, or the link is over

module _ (t : State) (e : Event) (called : IsCalled t actions.Read) (is : IsOfReading (Some e)) where
  pub got_answers : Answers t e
  got_answers = answers t actions.Read e called (read-comes e is)

  pub got_called : (b : Action) (v : State) → HasTold t e b v → IsCalled v b
  got_called b v told = goes-on t actions.Read e called (read-comes e is) b v told

  pub got_falls : (b : Action) (v : State) → HasTold t e b v → calls_left v < calls_left t
  got_falls b v told = falls t actions.Read e called (read-comes e is) b v told
