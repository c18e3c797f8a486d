-- A session that is served, one thing after another.
use Rattle.std.proofs.Common.{◌≡◌, Bool, List, [], ◌∷◌, ◌++◌, Option, Some, refl, subst, ap}
use Rattle.mta_edge.specs.Views.{ClockView, DiskView}
use Rattle.mta_links.specs.Links.{LinkView}
use Rattle.mta_records.specs.declared.step.Step.{Step}
use Rattle.mta_units.specs.Feed.{Feed}
use Rattle.mta_session.specs.State.{State}
use Rattle.mta_session.specs.Groups.{has_turned}
use Rattle.mta_session.specs.declared.ask.Ask.{Ask}
use Rattle.mta_session.specs.declared.event.Action.{Action}
use Rattle.mta_session.specs.declared.event.Action.TheVariants as action
use Rattle.mta_session.specs.declared.event.SessionEnd.{SessionEnd}
use Rattle.mta_session_run.specs.Running.{HasRun, HasStopped, action_of}
use Rattle.mta_session_run.specs.declared.came.Came.{Came}
use Rattle.mta_session_run.specs.declared.came.Came.TheVariants as came
use Rattle.mta_shared.specs.Held.{Held}
use Rattle.mta_stations.specs.declared.end.Halt.{Halt}
use Rattle.mta_worker.specs.declared.session.Served.{Served}
use Rattle.mta_worker.specs.declared.telling.Lost.{Lost}
use Rattle.mta_worker.specs.declared.telling.Lost.TheVariants as losts
use Rattle.mta_worker.specs.Serving.{At, Answers, Carries, Does, GivesUp, Goes, InTurn, IsServed}
use Rattle.mta_worker.specs.Serving.{To_its_end, Stopped, Given_up}
use Rattle.mta_worker.specs.Turns.{HasAnswered, IsLost}

module _ {D C L : Type 0} (disks : DiskView D) (clocks : ClockView C) (links : LinkView L) where
  pub goes_more : (x : At L) (zs : List (At L)) (y z : At L) → Goes disks clocks links x zs y
      → Does disks clocks links y z → Goes disks clocks links x (zs ++ z ∷ []) z
  goes_more x [] y z g d = (subst (λ (w : At L). Does disks clocks links w z) g d, refl)
  goes_more x (w ∷ ws) y z g d = (g.0, goes_more w ws y z g.1 d)

  -- from the one to the other, whatever stands between
  abbrev pub Gone : At L → At L → Type 0
  Gone x y = (zs : List (At L)) × Goes disks clocks links x zs y

  -- as it stands when it was carried on
  abbrev pub after_run : At L → Came → State → L → Feed → At L
  after_run y c t link feed =
      record { session = t; action = action_of c; link = link; feed = feed; pass = y.pass; halt = y.halt }

  -- as it stands when its question was answered
  abbrev pub after_answer : At L → State → Action → Held Step → Option Halt → At L
  after_answer y t a pass halt =
      record { session = t; action = a; link = y.link; feed = y.feed; pass = pass; halt = halt }

  pub gone_run : (x y : At L) (c : Came) (t : State) (link : L) (feed : Feed) → Gone x y
      → HasRun links y.session y.action y.link y.feed c t link feed → Gone x (after_run y c t link feed)
  gone_run x y c t link feed g h =
      let z = after_run y c t link feed in (g.0 ++ z ∷ [], goes_more x g.0 y z g.1 (Carries c h refl refl refl))

  pub gone_answer : (x y : At L) (q : Ask) (t : State) (a : Action) (pass : Held Step) (halt : Option Halt) → Gone x y
      → y.action ≡ action.Ask q
      → InTurn disks clocks (λ s s'. HasAnswered disks clocks q s y.session y.halt s' t a halt) y.pass pass
      → Gone x (after_answer y t a pass halt)
  gone_answer x y q t a pass halt g asks i =
      let z = after_answer y t a pass halt in (g.0 ++ z ∷ [], goes_more x g.0 y z g.1 (Answers q asks i refl refl))

  asks_so : (c : Came) (q : Ask) → c ≡ came.Asks q → action_of c ≡ action.Ask q
  asks_so c q e = ap (λ (d : Came). action_of d) e

  ends_so : (c : Came) (e : SessionEnd) → c ≡ came.Ends e → action_of c ≡ action.Finish e
  ends_so c e i = ap (λ (d : Came). action_of d) i

  -- It was carried on to a question, which was answered.
  pub gone_round : (x y : At L) (c : Came) (q : Ask) (t u : State) (link : L) (feed : Feed) (a : Action)
      (pass : Held Step) (halt : Option Halt) → Gone x y → c ≡ came.Asks q
      → HasRun links y.session y.action y.link y.feed c t link feed
      → InTurn disks clocks (λ s s'. HasAnswered disks clocks q s t y.halt s' u a halt) y.pass pass
      → Gone x (after_answer (after_run y c t link feed) u a pass halt)
  gone_round x y c q t u link feed a pass halt g is h i =
      gone_answer x (after_run y c t link feed) q u a pass halt (gone_run x y c t link feed g h) (asks_so c q is) i

  -- It was carried on to its end.
  pub served_whole : (x y : At L) (c : Came) (e : SessionEnd) (t : State) (link : L) (feed : Feed) → Gone x y
      → c ≡ came.Ends e → HasRun links y.session y.action y.link y.feed c t link feed
      → IsServed disks clocks links x link y.pass (record { end = Some e; halt = y.halt })
  served_whole x y c e t link feed g is h =
      let r : Gone x (after_run y c t link feed) = gone_run x y c t link feed g h in
      To_its_end r.0 (after_run y c t link feed) e r.1 (ends_so c e is) refl refl refl refl

  -- as the worker that gives it up finds it
  turned_so : (lost : Lost) (b b' : Bool) (halt : Option Halt) (at link : L) (served : Served) → b ≡ b'
      → GivesUp links lost b halt at link served → GivesUp links lost b' halt at link served
  turned_so lost b b' halt at link served e gives =
      subst (λ (z : Bool). GivesUp links lost z halt at link served) e gives

  -- There was no memory to carry it on.
  pub served_stopped : (x y : At L) (t : State) (at link : L) (turned : Bool) (served : Served) → Gone x y
      → HasStopped links y.session y.action y.link y.feed t at → turned ≡ has_turned t.phase
      → GivesUp links losts.Memory turned y.halt at link served → IsServed disks clocks links x link y.pass served
  served_stopped x y t at link turned served g h e gives =
      Stopped g.0 y t at g.1 h refl (turned_so losts.Memory turned (has_turned t.phase) y.halt at link served e gives)

  -- It was carried on to a question, and given up in the turn for it.
  pub served_lost : (x y : At L) (c : Came) (q : Ask) (t u : State) (at link : L) (feed : Feed) (pass : Held Step)
      (halt : Option Halt) (lost : Lost) (turned : Bool) (served : Served) → Gone x y → c ≡ came.Asks q
      → HasRun links y.session y.action y.link y.feed c t at feed
      → InTurn disks clocks (λ s s'. IsLost disks clocks q s t y.halt s' u halt lost) y.pass pass
      → turned ≡ has_turned u.phase → GivesUp links lost turned halt at link served
      → IsServed disks clocks links x link pass served
  served_lost x y c q t u at link feed pass halt lost turned served g is h i e gives =
      let r : Gone x (after_run y c t at feed) = gone_run x y c t at feed g h in
      Given_up r.0 (after_run y c t at feed) q u halt lost r.1 (asks_so c q is) i
      (turned_so lost turned (has_turned u.phase) halt at link served e gives)
