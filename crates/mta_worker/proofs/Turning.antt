-- One turn of the lock, from what a pass knows when it is taken and when it is given back.
use Rattle.std.proofs.Common.{◌≡◌, List, [], ◌∷◌, Result, Ok, Err, IfOk, inl, inr, true}
use Rattle.std.proofs.Common.{refl, sym, ap, subst, ◌∙◌, append-nil}
use Rattle.std.specs.Prelude.{IfErr}
use mathlib.Core.List.{IsPrefix}
use Rattle.mta_edge.specs.Views.{ClockView, DiskView}
use Rattle.mta_records.specs.declared.step.Step.{Step}
use Rattle.mta_shared.proofs.Fronts.{prefix_self, prefix_trans}
use Rattle.mta_shared.specs.Held.{Held}
use Rattle.mta_shared.specs.Passes.{Worked, grown}
use Rattle.mta_shared.specs.Rule.{Grows}
use Rattle.mta_session.specs.declared.event.Action.{Action}
use Rattle.mta_spool.specs.Bases.{Keeps, KeepsOn}
use Rattle.mta_spool.specs.Shown.{Shown}
use Rattle.mta_worker.specs.declared.telling.Lost.{Lost}
use Rattle.mta_worker.specs.Serving.{InTurn}

pub worked_self : (p : Held Step) → p.rests ≡ true → Worked p p
worked_self p rests = record {
  lock = refl;
  rests = rests;
  seen = prefix_self p.seen;
  own = prefix_self p.own;
  parts = refl;
  base = refl;
  from = refl;
}

pub worked_trans : (p q r : Held Step) → Worked p q → Worked q r → Worked p r
worked_trans p q r a b = record {
  lock = b.lock ∙ a.lock;
  rests = b.rests;
  seen = prefix_trans p.seen q.seen r.seen a.seen b.seen;
  own = prefix_trans p.own q.own r.own a.own b.own;
  parts = b.parts ∙ a.parts;
  base = b.base ∙ a.base;
  from = b.from ∙ a.from;
}

-- a history that grows begins with what it was
grows_front : (xs ys : List Step) → Grows xs ys → IsPrefix xs ys
grows_front xs ys (inl e) = ([], append-nil xs ∙ sym e)
grows_front xs ys (inr e) = (e.0 ∷ [], sym e.1)

-- the pass that gave a turn back, from what it knew when the turn began
given_as : (p b q : Held Step) (xs ys : List Step) → b ≡ record p { seen = xs } → q ≡ grown ys b
    → q ≡ grown ys (record p { seen = xs })
given_as p b q xs ys taken given = given ∙ ap (λ (h : Held Step). grown ys h) taken

module _ {D C : Type 0} (disks : DiskView D) (clocks : ClockView C) where
  pub in_turn : (done : Shown D C → Shown D C → Type 0) (p b q : Held Step) (s t : Shown D C)
      → IsPrefix p.seen s.entries → Keeps disks clocks s p.base → b ≡ record p { seen = s.entries }
      → q ≡ grown t.entries b → done s t → InTurn disks clocks done p q
  in_turn done p b q s t begins keeps taken given did = record {
    before = s;
    after = t;
    begins = begins;
    keeps = keeps;
    did = did;
    left = given_as p b q s.entries t.entries taken given;
  }

  -- the same, where something came of it
  pub in_turn_ok : (done : Action → Shown D C → Shown D C → Type 0) (p b q : Held Step) (s t : Shown D C)
      (r : Result Action Lost) → IsPrefix p.seen s.entries → Keeps disks clocks s p.base
      → b ≡ record p { seen = s.entries } → q ≡ grown t.entries b → IfOk r (λ a. done a s t)
      → IfOk r (λ a. InTurn disks clocks (done a) p q)
  in_turn_ok done p b q s t (Ok a) begins keeps taken given did =
      in_turn (done a) p b q s t begins keeps taken given did
  in_turn_ok done p b q s t (Err e) begins keeps taken given did = tt

  -- and where it failed
  pub in_turn_err : (done : Lost → Shown D C → Shown D C → Type 0) (p b q : Held Step) (s t : Shown D C)
      (r : Result Action Lost) → IsPrefix p.seen s.entries → Keeps disks clocks s p.base
      → b ≡ record p { seen = s.entries } → q ≡ grown t.entries b → IfErr r (λ e. done e s t)
      → IfErr r (λ e. InTurn disks clocks (done e) p q)
  in_turn_err done p b q s t (Ok a) begins keeps taken given did = tt
  in_turn_err done p b q s t (Err e) begins keeps taken given did =
      in_turn (done e) p b q s t begins keeps taken given did

  -- what a spool has to keep when the turn is given back
  pub gives_fact : (p b : Held Step) (s t : Shown D C) → b ≡ record p { seen = s.entries }
      → Keeps disks clocks s p.base → 0 ≡ p.from → KeepsOn disks clocks s t
      → Keeps disks clocks t b.base × (0 ≡ b.from)
  gives_fact p b s t taken keeps from on =
      subst (λ (h : Held Step). Keeps disks clocks t h.base × (0 ≡ h.from)) (sym taken) (on p.base keeps, from)

  -- with what was done told in other words
  pub in_turn_as : (done done' : Shown D C → Shown D C → Type 0) (p q : Held Step)
      → ((s t : Shown D C) → done s t → done' s t) → InTurn disks clocks done p q
      → InTurn disks clocks done' p q
  in_turn_as done done' p q f i = record {
    before = i.before;
    after = i.after;
    begins = i.begins;
    keeps = i.keeps;
    did = f i.before i.after i.did;
    left = i.left;
  }

-- what grew since the lock was taken grew since the pass saw it
pub grows_from : (p b : Held Step) (xs ys : List Step) → b ≡ record p { seen = xs } → Grows xs ys → Grows b.seen ys
grows_from p b xs ys taken grows = subst (λ (h : Held Step). Grows h.seen ys) (sym taken) grows

-- what a turn leaves of a pass
pub worked_turn : (p b q : Held Step) (xs ys : List Step) → p.rests ≡ true → IsPrefix p.seen xs
    → b ≡ record p { seen = xs } → Grows xs ys → q ≡ grown ys b → Worked p q
worked_turn p b q xs ys rests begins taken grows given =
    subst (λ (h : Held Step). Worked p h) (sym (given_as p b q xs ys taken given)) (record {
      lock = refl;
      rests = rests;
      seen = prefix_trans p.seen xs ys begins (grows_front xs ys grows);
      own = (_, refl);
      parts = refl;
      base = refl;
      from = refl;
    })
