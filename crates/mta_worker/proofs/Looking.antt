-- Looks that are told one after the other.
use Rattle.std.proofs.Common.{◌≡◌, List, [], ◌∷◌, ◌++◌, Option, Result, Err, refl, sym, ap, subst}
use Rattle.std.proofs.Common.{◌∙◌}
use Rattle.mta_edge.specs.Views.{ClockView, DiskView}
use Rattle.mta_spool.specs.Shown.{Shown}
use Rattle.mta_session.specs.Fits.{Answers}
use Rattle.mta_session.specs.State.{State}
use Rattle.mta_session.specs.declared.ask.Ask.{Ask}
use Rattle.mta_session.specs.declared.ask.Reply.{Reply}
use Rattle.mta_session.specs.declared.event.Action.{Action}
use Rattle.mta_session.specs.declared.event.Action.TheVariants as action
use Rattle.mta_session.specs.declared.event.Event.TheVariants as event
use Rattle.mta_session_laws.specs.Runs.{Turn, IsTurn}
use Rattle.mta_stations.specs.declared.end.Halt.{Halt}
use Rattle.mta_worker.specs.declared.telling.Lost.{Lost}
use Rattle.mta_worker.specs.declared.telling.Lost.TheVariants as losts
use Rattle.mta_worker.specs.Answers.{Answered}
use Rattle.mta_worker.specs.Turns.{HasLooked, IsLook, IsLostLooking, Looks, noted, noted_in, noted_of, told_reply}
use Rattle.mta_worker.specs.Turns.{IsLostAt, WantsNoLook}

noted_more : (xs : List Turn) (halt : Option Halt) (x : Turn)
    → noted_in halt (xs ++ x ∷ []) ≡ noted_of (noted_in halt xs) x.event
noted_more [] halt x = refl
noted_more (y ∷ ys) halt x = noted_more ys (noted_of halt y.event) x

-- a session whose call failed at a reply
abbrev failed : Lost → Result Action Lost
failed lost = Err lost

pub lost_at : (t : State) (x : Reply) (lost : Lost)
    → (failed lost ≡ failed losts.Lane → Answers t (event.Reply x) → ⊥)
    → (failed lost ≡ failed losts.Memory → Answers t (event.Reply x)) → IsLostAt t x lost
lost_at t x losts.Lane lane memory = lane refl
lost_at t x losts.Memory lane memory = memory refl

same_ask : (p q : Ask) → action.Ask p ≡ action.Ask q → p ≡ q
same_ask p q e = cc

-- a question that is no look
pub all_looked : (a : Action) (q : Ask) → a ≡ action.Ask q → (IsLook q → ⊥) → WantsNoLook a
all_looked a q e none = λ p f look. none (subst IsLook (same_ask p q (sym f ∙ e)) look)

module _ {D C : Type 0} (disks : DiskView D) (clocks : ClockView C) where
  looks_more : (xs : List Turn) (s : Shown D C) (t : State) (a : Action) (u : State) (q : Ask) (y : Reply) (b : Action)
      (v : State) → Looks disks clocks s t a xs u (action.Ask q) → IsLook q → Answered disks clocks q s y s
      → IsTurn (told_reply u y b v) → Looks disks clocks s t a (xs ++ told_reply u y b v ∷ []) v b
  looks_more [] s t a u q y b v l i w turn = (l.0, (q, y, sym l.1, refl, i, w), turn, (refl, refl))
  looks_more (x ∷ xs) s t a u q y b v l i w turn =
      (l.0, l.1, l.2, looks_more xs s x.after x.action u q y b v l.3 i w turn)

  pub looked_none : (s : Shown D C) (t : State) (a : Action) (halt : Option Halt)
      → HasLooked disks clocks s t a halt t a halt
  looked_none s t a halt = record { turns = []; looks = (refl, refl); noted = refl }

  pub looked_more : (s : Shown D C) (t : State) (a : Action) (halt : Option Halt) (u : State) (c : Action) (q : Ask)
      (mid : Option Halt) (y : Reply) (b : Action) (v : State) (now : Option Halt)
      → HasLooked disks clocks s t a halt u c mid → c ≡ action.Ask q → IsLook q
      → Answered disks clocks q s y s
      → IsTurn (told_reply u y b v) → now ≡ noted mid y → HasLooked disks clocks s t a halt v b now
  looked_more s t a halt u c q mid y b v now l e i w turn is = record {
    turns = l.turns ++ told_reply u y b v ∷ [];
    looks = looks_more l.turns s t a u q y b v (subst (λ (z : Action). Looks disks clocks s t a l.turns u z) e l.looks)
        i w turn;
    noted = is ∙ ap (λ (h : Option Halt). noted h y) l.noted ∙ sym (noted_more l.turns halt (told_reply u y b v));
  }

  pub lost_looking : (s : Shown D C) (t : State) (a : Action) (halt : Option Halt) (u v : State) (c : Action) (q : Ask)
      (mid : Option Halt) (y : Reply) (now : Option Halt) (lost : Lost) → HasLooked disks clocks s t a halt u c mid
      → v ≡ u → c ≡ action.Ask q → IsLook q → Answered disks clocks q s y s → IsLostAt u y lost
      → now ≡ noted mid y
      → IsLostLooking disks clocks s t a halt v now lost
  lost_looking s t a halt u v c q mid y now lost l same e i w why is = record {
    question = q;
    answer = y;
    before = mid;
    looked = subst (λ (z : Action). HasLooked disks clocks s t a halt v z mid) e
        (subst (λ (z : State). HasLooked disks clocks s t a halt z c mid) (sym same) l);
    is_look = i;
    answered = w;
    cause = subst (λ (z : State). IsLostAt z y lost) (sym same) why;
    noted = is;
  }
