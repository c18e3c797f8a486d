use Rattle.std.proofs.Common.{map, string_bytes, Global, ◌∙◌, sym}
use Rattle.std.proofs.lemmas.List.{length-map}
use Rattle.mta_audit_run.proofs.Compared.{compared_unasked, compared_opened, compared_refused}
use Rattle.mta_audit_run.proofs.run.compare.Goals as goal

pub returns-then-words-ne2 : goal.returns-then-words-ne2
returns-then-words-ne2 g c =
    compared_unasked (map (string_bytes {Z = Global}) c.args.words.now) g.D.Disk.model g.E.Disk.model g.met.D.Disk.laws
    g.met.E.Disk.laws c.args.first c.args.first c.args.second c.args.second
    (λ two. c.if-words-ne2.true (sym (length-map c.args.words.now (string_bytes {Z = Global})) ∙ two))

pub returns-in-Ok : goal.returns-in-Ok
returns-in-Ok g c =
    compared_opened (map (string_bytes {Z = Global}) c.args.words.now) g.D.Disk.model g.E.Disk.model g.met.D.Disk.laws
    g.met.E.Disk.laws c.args.first c.in-Ok.field-0.disk c.args.second c.see_second-outcome.result.second
    c.in-Ok.field-0.side c.see_second-outcome.result.outcome
    (length-map c.args.words.now (string_bytes {Z = Global}) ∙ c.if-words-ne2.false) c.in-Ok.ensures.opened
    c.see_second-outcome.ensures

pub returns-in-Err : goal.returns-in-Err
returns-in-Err g c =
    rw c.stop_of_open.ensures
    (compared_refused (map (string_bytes {Z = Global}) c.args.words.now) g.D.Disk.model g.E.Disk.model
    g.met.D.Disk.laws g.met.E.Disk.laws c.args.first c.in-Err.field-0.disk c.args.second c.args.second
    c.in-Err.field-0.why (length-map c.args.words.now (string_bytes {Z = Global}) ∙ c.if-words-ne2.false)
    c.in-Err.ensures.refused)
