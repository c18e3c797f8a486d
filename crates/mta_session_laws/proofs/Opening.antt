-- What an event calls for, phase by phase, and the step that may be made at the end.
use Rattle.std.proofs.Common.{◌≡◌}
use Rattle.mta_transfer_rules.specs.Sending as s
use Rattle.mta_transfer_rules.specs.Sending.{SendEnd}
use Rattle.mta_session.specs.declared.event.Event.{Event}
use Rattle.mta_session.specs.declared.event.Event.TheVariants as event
use Rattle.mta_session.specs.declared.event.SessionEnd.TheVariants as end
use Rattle.mta_session.specs.declared.phase.Phase.{Phase}
use Rattle.mta_session.specs.declared.phase.Phase.TheVariants as phase
use Rattle.mta_session.specs.State.{State}
use Rattle.mta_session.specs.Wanted.{Wanted, Aborts, wanted_of_unit, wanted_of_reply, wanted_of_go, wanted_of_over}
use Rattle.mta_session.specs.Wanted.{within}

-- the last step may be made
abbrev pub LastFits : Phase → SendEnd → Type 0
LastFits phase.AsksDenied f = s.MayMake f s.Denied
LastFits (phase.AsksLast (end.PeerAborted reason)) f = (reason ≡ 2 → s.MayMake f s.Denied)
    × (reason ≡ 7 → s.MayMake f s.Sent)
LastFits _ f = Unit {0}

-- what an event calls for in a phase
abbrev pub wanted_in : Phase → State → Event → Wanted
wanted_in p t event.Go = wanted_of_go p t
wanted_in p t (event.Unit x) = within t (wanted_of_unit p t x)
wanted_in p t event.BadUnit = within t (Aborts 4)
wanted_in p t (event.Reply x) = wanted_of_reply p t x
wanted_in p t event.Over = wanted_of_over p
