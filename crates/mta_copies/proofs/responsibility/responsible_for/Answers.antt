use Rattle.std.proofs.Common.{◌≡◌, ◌+◌, ◌<◌, ℕ, Bool, false, List, [], ◌∷◌, ◌++◌, length, get_or, ap, ◌∙◌, arith}
use Rattle.std.proofs.lemmas.List.{get_or_default}
use Rattle.mta_envelope_recipient.specs.declared.recipient.RecipientFields.{RecipientFields}
use Rattle.mta_procedures.specs.Copies.{is_chosen, responsible_if}
use Rattle.mta_copies.proofs.Responsible.{chosen_more}
use Rattle.mta_copies.proofs.responsibility.responsible_for.Goals as goal

pub loop-recipient-preserved : goal.loop-recipient-preserved
loop-recipient-preserved c =
    let chosen = c.args.chosen.now in
    let rs : List RecipientFields = c.args.recipients.now in
    let i = c.loop-recipient.recipient-index in
    let r : RecipientFields = c.recipient-item.result in
    let row : List RecipientFields = c.loop-recipient.row in
    let below : i < length rs = omega arith in
    let flags : List Bool = c.in_ok-flags.flags.items in
    let as_many : length flags ≡ length rs = c.in_ok-flags.ensures.as_many in
    let flag : c.index.result.now ≡ is_chosen chosen (i + 1) =
    c.index.ensures
    ∙ get_or_default flags c.loop-recipient.place c.index.result.now false
    (omega (arith, below, as_many, c.loop-recipient.invariant.1))
    ∙ ap (λ (n : ℕ). get_or flags n false) c.loop-recipient.invariant.1
    ∙ c.in_ok-flags.ensures.each i (omega (arith, below, as_many)) in
    let item : c.in_ok-copy.copy ≡ responsible_if (is_chosen chosen (i + 1)) r =
    c.in_ok-copy.ensures ∙ ap (λ b. responsible_if b r) flag in
    let next : c.push.new.self ≡ row ++ responsible_if (is_chosen chosen (i + 1)) r ∷ [] =
    c.in_ok-push.ensures.ok ∙ ap (λ (x : RecipientFields). row ++ x ∷ []) item in
    let more = chosen_more chosen rs i r row c.push.new.self below c.recipient-item.is c.loop-recipient.invariant.0
    next in
    (more, omega arith)
