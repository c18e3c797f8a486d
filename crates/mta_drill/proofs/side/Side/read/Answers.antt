use Rattle.std.proofs.Common.{Option, subst}
use Rattle.mta_session.specs.declared.event.Event.{Event}
use Rattle.mta_drill.specs.Acts.{IsOfReading}
use Rattle.mta_drill.proofs.Telling.{got_called, got_falls}
use Rattle.mta_drill.proofs.side.Side.read.Goals as goal

pub returns-in_ok-tell-in-Some-clause-done : goal.returns-in_ok-tell-in-Some-clause-done
returns-in_ok-tell-in-Some-clause-done c =
    let s = c.args.self.now.session in
    let read = subst (λ (o : Option Event). IsOfReading o) c.in-Some.is c.in_ok-event.ensures.read in
    let told = c.in_ok-tell-in-Some.ensures.told in (
      got_called s c.in-Some.event c.requires.called read c.in_ok-tell-in-Some.field-0 c.tell.new.session told,
      got_falls s c.in-Some.event c.requires.called read c.in_ok-tell-in-Some.field-0 c.tell.new.session told,
    )
