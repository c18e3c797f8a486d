use Rattle.std.proofs.Common.{◌≡◌, ◌≤◌, length, arith, refl, sym, ap, subst, ◌∙◌}
use Rattle.mta_edge.specs.Outside.{written, Torn}
use Rattle.mta_edge.specs.Held.{HeldDisk}
use Rattle.mta_edge.proofs.Logged.{logged_write, unlogged_from, Torn-same, written_torn}
use Rattle.mta_edge.proofs.safe_disk.SafeDiskDisk.write_at.Goals as goal

pub returns-in_err-note-clause-crash : goal.returns-in_err-note-clause-crash
returns-in_err-note-clause-crash c =
    unlogged_from c.args.self.now c.args.self.now c.note.new.self refl _ c.in_err-note.ensures.refused
    c.note.ensures.octets (λ f. Torn-same _ _ f)

pub returns-in-Ok-put_over-clause-crash : goal.returns-in-Ok-put_over-clause-crash
returns-in-Ok-put_over-clause-crash c =
    let before : HeldDisk = c.args.self.now in
    let stays : c.self-2.inside.octets.items ≡ before.octets = ap (λ (d : HeldDisk). d.octets) c.self-2.view_is
    ∙ c.note.ensures.octets in
    let whole : c.put_over.new.octets.items ≡ written c.args.at c.args.bytes.now before.octets =
    c.in-Ok-put_over.ensures.ok ∙ ap (written c.args.at c.args.bytes.now) stays in
    let within : c.args.at ≤ length before.octets = c.requires _ refl in
    logged_write before before _ refl c.args.at c.in-Ok.octets c.args.bytes.now c.in-Ok.ensures
    (ap (λ (d : HeldDisk). d.log) c.self-2.view_is ∙ c.in_ok-note.ensures.logged)
    (subst (Torn c.args.at (length c.args.bytes.now) before.octets) (sym whole)
    (written_torn c.args.at c.args.bytes.now c.args.bytes.now before.octets (omega arith) within))

pub returns-in-Err-clause-crash : goal.returns-in-Err-clause-crash
returns-in-Err-clause-crash c =
    let before : HeldDisk = c.args.self.now in
    let stays : c.fault-in-Err.new.self.octets ≡ before.octets =
    c.fault-in-Err.ensures.octets ∙ c.in-Err.ensures.err ∙ ap (λ (d : HeldDisk). d.octets) c.self-2.view_is
    ∙ c.note.ensures.octets in
    logged_write before before c.fault-in-Err.new.self refl c.args.at c.in-Ok.octets c.args.bytes.now c.in-Ok.ensures
    (c.fault-in-Err.ensures.log ∙ ap (λ (d : HeldDisk). d.log) c.self-2.view_is ∙ c.in_ok-note.ensures.logged)
    (subst (Torn c.args.at (length c.args.bytes.now) before.octets) (sym stays) (Torn-same _ _ _))
