use Rattle.mta_ber.specs.Seen.{view}
use Rattle.mta_names.proofs.Tools.{fails_as, ok_as}
use Rattle.mta_envelope.specs.Envelopes.{envelope_in}
use Rattle.mta_envelope.proofs.EnvelopeLaws.{envelope_sound, envelope_full, envelope_is, envelope_kind}
use Rattle.mta_envelope.proofs.envelope.Envelope.read.Goals as goal

pub invariant_of-result : goal.invariant_of-result
invariant_of-result c =
    let v = c.args.whole.now in
    envelope_is c.args.probe v.depth v.tag.constructed v.content.now c.in-Ok.fields
    (envelope_sound c.args.probe c.in-Ok.fields (view v) v.bytes c.in-Ok.ensures)

pub returns-in-Ok-clause-found : goal.returns-in-Ok-clause-found
returns-in-Ok-clause-found c = let v = c.args.whole.now in
    envelope_sound c.args.probe c.in-Ok.fields (view v) v.bytes c.in-Ok.ensures

pub returns-in-Ok-clause-only : goal.returns-in-Ok-clause-only
returns-in-Ok-clause-only c = λ n h. let v = c.args.whole.now in
    ok_as (envelope_in c.args.probe (view v)) c.in-Ok.fields n c.in-Ok.ensures (envelope_full c.args.probe n (view v) h)

pub returns-in-Ok-clause-kind : goal.returns-in-Ok-clause-kind
returns-in-Ok-clause-kind c =
    let v = c.args.whole.now in
    envelope_kind c.args.probe v.depth v.tag.constructed v.content.now c.in-Ok.fields
    (envelope_sound c.args.probe c.in-Ok.fields (view v) v.bytes c.in-Ok.ensures)

pub returns-in-Err-clause-only : goal.returns-in-Err-clause-only
returns-in-Err-clause-only c = λ n h. let v = c.args.whole.now in
    fails_as c.in-Err.fault (envelope_in c.args.probe (view v)) n c.in-Err.ensures
    (envelope_full c.args.probe n (view v) h)
