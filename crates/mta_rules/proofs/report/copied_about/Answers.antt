use Rattle.mta_rules.proofs.report.copied_about.Goals as goal

pub returns : goal.returns
returns c = record {
  id = c.in_ok-id.ensures;
  subject = c.in_ok-subject_id.ensures;
  content_kind = c.in_ok-content_kind.ensures;
  content_id = c.in_ok-content_id.ensures;
}
