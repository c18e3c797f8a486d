use Rattle.std.proofs.Common.{refl, sym, subst}
use Rattle.mta_journal.specs.Shown.{IsPlain}
use Rattle.mta_spool.specs.Stands.{fault_of}
use Rattle.mta_spool.proofs.Keeping.{keeps_appends, keeps_from}
use Rattle.mta_spool.proofs.spool.Spool.make_ready.Goals as goal

pub returns-clause-keeps : goal.returns-clause-keeps
returns-clause-keeps g c =
    keeps_from g.D.Disk.model g.C.Clock.model c.args.self.now _ _ c.self.view_is
    (keeps_appends g.D.Disk.model g.C.Clock.model g.met.D.Disk.laws c.args.step.now _ _ refl
    (fault_of c.make_ready.result) c.make_ready.ensures.made)

pub invariant_of-self : goal.invariant_of-self
invariant_of-self g c = record {
  sound = c.make_ready.ensures.sound;
  plain = subst IsPlain (sym c.make_ready.ensures.made.place) c.self.invariant.plain;
}

pub make_ready-requires-clause-sound : goal.make_ready-requires-clause-sound
make_ready-requires-clause-sound g c = c.self.invariant.sound

pub make_ready-requires-clause-plain : goal.make_ready-requires-clause-plain
make_ready-requires-clause-plain g c = c.self.invariant.plain
