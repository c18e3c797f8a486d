use Rattle.mta_ber.specs.Seen.{view}
use Rattle.mta_names.proofs.Tools.{fails_as, ok_as}
use Rattle.mta_envelope_recipient.specs.Lists.{recipients_in}
use Rattle.mta_envelope_recipient.proofs.ListLaws.{recipients_sound, recipients_full}
use Rattle.mta_envelope_recipient.proofs.list.read_recipients.Goals as goal

pub returns-in-Ok-clause-found : goal.returns-in-Ok-clause-found
returns-in-Ok-clause-found c = let v = c.args.whole.now in
    recipients_sound c.in-Ok.recipients (view v) v.bytes c.in-Ok.ensures

pub returns-in-Ok-clause-only : goal.returns-in-Ok-clause-only
returns-in-Ok-clause-only c = λ n h. let v = c.args.whole.now in
    ok_as (recipients_in (view v)) c.in-Ok.recipients n c.in-Ok.ensures (recipients_full n (view v) h)

pub returns-in-Err-clause-only : goal.returns-in-Err-clause-only
returns-in-Err-clause-only c = λ n h. let v = c.args.whole.now in
    fails_as c.in-Err.fault (recipients_in (view v)) n c.in-Err.ensures (recipients_full n (view v) h)
