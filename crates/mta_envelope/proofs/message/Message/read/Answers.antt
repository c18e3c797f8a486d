use Rattle.mta_ber.specs.Seen.{view}
use Rattle.mta_envelope.specs.Messages.{message_value, message_in, SpellsMessage}
use Rattle.mta_envelope.proofs.ContentLaws.{seen_found, seen_only}
use Rattle.mta_envelope.proofs.MessageLaws.{message_sound, message_full}
use Rattle.mta_envelope.proofs.message.Message.read.Goals as goal

pub returns-clause-found : goal.returns-clause-found
returns-clause-found c =
    let v = c.args.whole.now in
    seen_found message_value (SpellsMessage v.depth v.tag v.content.now) c.read_message.result
    (message_in (view v)) c.read_message.ensures.exact (λ y e. message_sound y (view v) v.bytes e)

pub returns-clause-only : goal.returns-clause-only
returns-clause-only c = λ y h. let v = c.args.whole.now in
    seen_only message_value c.read_message.result (message_in (view v)) y c.read_message.ensures.exact
    (message_full y (view v) h)
