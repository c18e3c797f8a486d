use Rattle.std.proofs.Common.{◌∙◌}
use Rattle.mta_copies.proofs.outgoing_parts.copied_others.Goals as goal

pub returns : goal.returns
returns c = record {
  id = c.in_ok-id.ensures;
  destination = c.in_ok-destination.ensures;
  extensions = c.in_ok-extensions.ensures ∙ c.as_slice.ensures;
  returned = c.in_ok-returned.ensures;
  additional = c.in_ok-additional.ensures;
  content_extensions = c.in_ok-content_extensions.ensures ∙ c.as_slice-2.ensures;
  recipients = c.in_ok-recipients.ensures ∙ c.as_slice-3.ensures;
}
