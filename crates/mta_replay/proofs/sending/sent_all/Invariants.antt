use Rattle.std.proofs.Common.{◌≡◌, map, take}
use Rattle.mta_replay.specs.Changes.{sent_one}
use Rattle.mta_replay.proofs.sending.sent_all.Given as goal

abbrev pub invariant-loop-recipient : goal.invariant-loop-recipient
invariant-loop-recipient l =
    l.settlements.items ≡ map (sent_one l.peer l.moment) (take l.recipient-index l.recipients)
