use Rattle.std.proofs.Common.{Err}
use Rattle.mta_ber.specs.Seen.{view}
use Rattle.mta_names.proofs.Tools.{ok_as}
use Rattle.mta_envelope.specs.declared.probe.Probe.{Probe}
use Rattle.mta_envelope.specs.Messages.{probe_in}
use Rattle.mta_envelope.proofs.ContentLaws.{seen_only}
use Rattle.mta_envelope.proofs.MessageLaws.{probe_sound, probe_full}
use Rattle.mta_envelope.proofs.probe.Probe.read.Goals as goal

pub returns-in-Ok-clause-found : goal.returns-in-Ok-clause-found
returns-in-Ok-clause-found c = let v = c.args.whole.now in
    probe_sound c.in-Ok.envelope (view v) v.bytes c.in-Ok.ensures.exact

pub returns-in-Ok-clause-only : goal.returns-in-Ok-clause-only
returns-in-Ok-clause-only c = λ n h. let v = c.args.whole.now in
    ok_as (probe_in (view v)) c.in-Ok.envelope n c.in-Ok.ensures.exact (probe_full n (view v) h)

pub returns-in-Err-clause-only : goal.returns-in-Err-clause-only
returns-in-Err-clause-only c = λ n h. let v = c.args.whole.now in
    seen_only (λ (p : Probe). p.envelope) (Err c.in-Err.fault) (probe_in (view v)) n c.in-Err.ensures.exact
    (probe_full n (view v) h)
