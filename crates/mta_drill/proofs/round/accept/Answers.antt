use Rattle.std.proofs.Common.{◌≡◌, Bool, false, List, ℕ, Ok, Err, rules, ap, ◌∙◌}
use Rattle.std.proofs.lemmas.Result.{on_ok_weaker}
use Rattle.mta_apdu.specs.Apdus.{apdu_of, message}
use Rattle.mta_drill_laws.specs.Messages.{drilled, message_of}
use Rattle.mta_drill_laws.proofs.Relayed.{messages_relayed}
use Rattle.mta_drill.proofs.Calling.{clear_err, clear_now, clear_ok, has_taken}
use Rattle.mta_drill.proofs.round.accept.Goals as goal

pub returns-then-not-branch : goal.returns-then-not-branch
returns-then-not-branch c = λ before count few is h.
    let no : c.in_ok-is_apdu.field-0 ≡ false = search rules in
    let spelled : c.as_slice.result.now ≡ message_of c.args.message = search rules in
    absurd (c.in_ok-is_apdu.ensures.each (message (drilled c.args.message))
    (ap (λ (octets : List ℕ). apdu_of octets) spelled ∙ (messages_relayed c.args.message).read)
    (ap (λ (b : Bool). Ok b) no))

pub returns-in-Ok : goal.returns-in-Ok
returns-in-Ok c = λ before count few is h.
    let spelled : c.as_slice-2.result.now ≡ message_of c.args.message = search rules in
    has_taken c.args.spool.now c.accept.new.self before count c.as_slice-2.result.now (Ok 0) few
    (spelled ∙ ap (λ (i : ℕ). message_of i) is) h c.in-Ok.ensures.appends c.in-Ok.ensures.no_lane (clear_ok 0)
    c.in-Ok.ensures.clock

pub returns : goal.returns
returns c = λ before count few is h.
    let spelled : c.as_slice-2.result.now ≡ message_of c.args.message = search rules in
    on_ok_weaker c.check.result
    (λ clear. has_taken c.args.spool.now c.accept.new.self before count c.as_slice-2.result.now (Err c.in-Err.fault) few
    (spelled ∙ ap (λ (i : ℕ). message_of i) is) h c.in-Err.ensures.appends c.in-Err.ensures.no_lane
    (clear_err c.in-Err.fault (clear_now c.in-Err.fault c.halt_of.result c.halt_of.ensures clear))
    c.in-Err.ensures.clock)
    c.check.ensures
