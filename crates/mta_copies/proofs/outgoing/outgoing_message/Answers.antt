use Rattle.std.proofs.Common.{ℕ, List, ◌++◌, sym, ap, ◌∙◌}
use Rattle.mta_envelope.specs.Messages.{MessageValue, message_value}
use Rattle.mta_procedures.specs.Heads.{outgoing_head}
use Rattle.mta_procedures.specs.Situations.{Situation, situation}
use Rattle.mta_procedures.proofs.HeadLaws.{head_is_in_front}
use Rattle.mta_copies.proofs.outgoing.outgoing_message.Goals as goal

pub returns : goal.returns
returns c =
    let s : Situation = situation c.args.tables.now c.args.arrival c.args.moment in
    let m : MessageValue = message_value c.args.message.now in
    let content : List ℕ = c.as_slice.result.now in
    c.in_ok-extend.ensures.ok
    ∙ ap (λ (o : List ℕ). o ++ content) c.in_ok-octets.ensures
    ∙ ap (λ (o : List ℕ). outgoing_head s m c.args.chosen.now ++ o) c.as_slice.ensures
    ∙ sym (head_is_in_front s m c.args.chosen.now)
