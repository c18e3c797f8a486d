use Rattle.std.proofs.Common.{◌≡◌, ◌+◌, ◌<◌, List, [], ◌∷◌, ◌++◌, length, ap, ◌∙◌, arith}
use Rattle.mta_names.specs.declared.attributes.Attributes.{Attributes}
use Rattle.mta_envelope_recipient.specs.declared.recipient.RecipientFields.{RecipientFields}
use Rattle.mta_procedures.specs.Members.{member_as}
use Rattle.mta_lists.proofs.Numbered.{members_more}
use Rattle.mta_lists.proofs.members.members_of.Goals as goal

pub loop-member-preserved : goal.loop-member-preserved
loop-member-preserved c =
    let r : RecipientFields = c.args.recipient.now in
    let ms : List Attributes = c.args.members.now in
    let i = c.loop-member.member-index in
    let m : Attributes = c.member-item.result in
    let row : List RecipientFields = c.loop-member.row in
    let below : i < length ms = omega arith in
    let item : c.in_ok-one.one ≡ member_as r (i + 1) m =
    c.in_ok-one.ensures ∙ ap (λ k. member_as r k m) c.loop-member.invariant.1 in
    let next : c.push.new.self ≡ row ++ member_as r (i + 1) m ∷ [] =
    c.in_ok-push.ensures.ok ∙ ap (λ (x : RecipientFields). row ++ x ∷ []) item in
    let more = members_more r ms i m row c.push.new.self below c.member-item.is c.loop-member.invariant.0 next in
    (more, omega arith)
