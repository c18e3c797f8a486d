-- The state that a history leads to may go to another thread where its rules may. What it holds is taken part by part,
-- since one `search` through all of it gives up.
use denote.RattleType.{RattleType}
use denote.Param.Send.{IsSend, sendable, struct_send}
use denote.Struct.Declared.{shape}
use Rattle.std.proofs.Crossing.{crosses}
use Rattle.std.proofs.MapsCrossingOver.{crosses as sets}
use Rattle.mta_names.specs.contracts.name.OrName as or_name
use Rattle.mta_fields.specs.contracts.domain.Domain as domain
use Rattle.mta_fields.specs.contracts.identifier.MtsId as identifier
use Rattle.mta_fields.specs.contracts.expansion.Expansion as expansion
use Rattle.mta_fields.specs.contracts.trace.TraceElement as trace
use Rattle.mta_fields.specs.contracts.extension.ExtField as extension
use Rattle.mta_envelope_recipient.specs.contracts.recipient.Recipient as recipient
use Rattle.mta_envelope.specs.contracts.envelope.Envelope as envelope
use Rattle.mta_report_recipient.specs.contracts.reported.Reported as reported
use Rattle.mta_report.specs.contracts.report.Report as report
use Rattle.mta_dues.specs.contracts.agenda.Agenda as agenda
use Rattle.mta_dues.specs.contracts.hand.Hand as hand
use Rattle.mta_dues.specs.contracts.spans.Spans as spans
use Rattle.mta_dues.specs.contracts.index.Index as index
use Rattle.mta_queue.specs.contracts.mark.Marks as marks
use Rattle.mta_queue.specs.contracts.queue.Queue as queue
use Rattle.mta_queue.specs.contracts.queues.Queues as queues
use Rattle.mta_state.specs.contracts.kept.Kept as kept
use Rattle.mta_replay.specs.contracts.replay.InForce as in_force
use Rattle.mta_replay.specs.contracts.replay.Replay as replay

pub name_send : IsSend or_name.the_row
name_send = search (crosses, sendable) depth 80 fits 100000

agenda_send : IsSend agenda.the_row
agenda_send = search (crosses, sets, sendable) depth 80 fits 100000

spans_send : IsSend spans.the_row
spans_send = search (crosses, sendable) depth 80 fits 100000

-- what an APDU is read as

domain_send : IsSend domain.the_row
domain_send = search (crosses, sendable) depth 80 fits 100000

identifier_send : IsSend identifier.the_row
identifier_send = search (domain_send, crosses, sendable) depth 80 fits 100000

expansion_send : IsSend expansion.the_row
expansion_send = search (name_send, crosses, sendable) depth 80 fits 100000

trace_send : IsSend trace.the_row
trace_send = search (domain_send, crosses, sendable) depth 80 fits 100000

extension_send : IsSend extension.the_row
extension_send = search (crosses, sendable) depth 80 fits 100000

ruleset fields = (domain_send, name_send, identifier_send, expansion_send, trace_send, extension_send)

recipient_send : IsSend recipient.the_row
recipient_send = search (fields, crosses, sendable) depth 80 fits 100000

envelope_send : IsSend envelope.the_row
envelope_send = search (recipient_send, fields, crosses, sendable) depth 80 fits 100000

reported_send : IsSend reported.the_row
reported_send = search (fields, crosses, sendable) depth 80 fits 100000

report_send : IsSend report.the_row
report_send = search (reported_send, fields, crosses, sendable) depth 80 fits 100000

hand_send : IsSend hand.the_field.row
hand_send = search (envelope_send, report_send, crosses, sendable) depth 80 fits 100000

index_send : IsSend index.the_field.row
index_send = let a = agenda_send in let b = spans_send in let h = hand_send in
    struct_send (shape index.the_type) (
      search sendable depth 20,
      (
        search sendable depth 20,
        (
          search (crosses, sendable) depth 80 fits 100000,
          (search (crosses, sendable) depth 80 fits 100000, tt),
        ),
      ),
    )

kept_send : IsSend kept.the_field.row
kept_send = search (crosses, sendable) depth 80 fits 100000

marks_send : IsSend marks.the_row
marks_send = search (crosses, sendable) depth 80 fits 100000

queue_send : IsSend queue.the_row
queue_send = search (crosses, sendable) depth 80 fits 100000

queues_send : IsSend queues.the_row
queues_send = search (queue_send, marks_send, crosses, sendable) depth 80 fits 100000

module _ (R : RattleType) (r : IsSend R) where
  in_force_send : IsSend (in_force.the_field R).row
  in_force_send = struct_send (shape (in_force.the_type R)) (
    search (crosses, sendable) depth 20,
    (
      r,
      (
        index_send,
        (
          queues_send,
          (
            search (marks_send, crosses, sendable) depth 80 fits 100000,
            (search (envelope_send, report_send, crosses, sendable) depth 80 fits 100000, tt),
          ),
        ),
      ),
    ),
  )

  pub replay_send : IsSend (replay.the_field R).row
  replay_send = let a = in_force_send in
      struct_send (shape (replay.the_type R)) (kept_send, (search sendable depth 20, tt))
