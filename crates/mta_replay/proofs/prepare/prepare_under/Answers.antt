use Rattle.std.proofs.Common.{ap, subst}
use Rattle.mta_records.specs.declared.step.Step.{Step}
use Rattle.mta_histories.specs.Classes.{class_of, moment_of}
use Rattle.mta_replay.specs.Ready.{IsReadAt, settled_by}
use Rattle.mta_replay.proofs.Sounds.{fits_of}
use Rattle.mta_replay.proofs.prepare.prepare_under.Goals as goal

pub prepare_deliver-requires-clause-fits : goal.prepare_deliver-requires-clause-fits
prepare_deliver-requires-clause-fits g c =
    fits_of c.args.step c.in-Deliver.moment c.requires.fields (ap moment_of c.in-Deliver.is)

pub prepare_expand-requires-clause-fits : goal.prepare_expand-requires-clause-fits
prepare_expand-requires-clause-fits g c =
    fits_of c.args.step c.in-Expand.moment c.requires.fields (ap moment_of c.in-Expand.is)

pub prepare_affirm-requires-clause-fits : goal.prepare_affirm-requires-clause-fits
prepare_affirm-requires-clause-fits g c =
    fits_of c.args.step c.in-Affirm.moment c.requires.fields (ap moment_of c.in-Affirm.is)

pub prepare_start-requires-clause-fits : goal.prepare_start-requires-clause-fits
prepare_start-requires-clause-fits g c =
    fits_of c.args.step c.in-Start.moment c.requires.fields (ap moment_of c.in-Start.is)

pub prepare_deliver-requires-clause-reading : goal.prepare_deliver-requires-clause-reading
prepare_deliver-requires-clause-reading g c =
    subst (λ (s : Step). IsReadAt c.args.kept.now.parts.items.items (settled_by (class_of s)) c.args.reading.now)
    c.in-Deliver.is c.requires.reading

pub prepare_expand-requires-clause-reading : goal.prepare_expand-requires-clause-reading
prepare_expand-requires-clause-reading g c =
    subst (λ (s : Step). IsReadAt c.args.kept.now.parts.items.items (settled_by (class_of s)) c.args.reading.now)
    c.in-Expand.is c.requires.reading

pub prepare_report-requires-clause-reading : goal.prepare_report-requires-clause-reading
prepare_report-requires-clause-reading g c =
    subst (λ (s : Step). IsReadAt c.args.kept.now.parts.items.items (settled_by (class_of s)) c.args.reading.now)
    c.in-Report.is c.requires.reading

pub prepare_affirm-requires-clause-reading : goal.prepare_affirm-requires-clause-reading
prepare_affirm-requires-clause-reading g c =
    subst (λ (s : Step). IsReadAt c.args.kept.now.parts.items.items (settled_by (class_of s)) c.args.reading.now)
    c.in-Affirm.is c.requires.reading

pub prepare_discard-requires-clause-reading : goal.prepare_discard-requires-clause-reading
prepare_discard-requires-clause-reading g c =
    subst (λ (s : Step). IsReadAt c.args.kept.now.parts.items.items (settled_by (class_of s)) c.args.reading.now)
    c.in-Discard.is c.requires.reading

pub prepare_back-requires-clause-reading : goal.prepare_back-requires-clause-reading
prepare_back-requires-clause-reading g c =
    subst (λ (s : Step). IsReadAt c.args.kept.now.parts.items.items (settled_by (class_of s)) c.args.reading.now)
    c.in-Back.is c.requires.reading
