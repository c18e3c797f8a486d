use Rattle.std.proofs.Common.{◌≡◌, take, refl, subst, sym, ap, ◌∙◌}
use Rattle.mta_edge.specs.Crashes.{CutShort}
use Rattle.mta_edge.specs.Held.{HeldDisk}
use Rattle.mta_edge.proofs.Logged.{logged_cut, unlogged_from, CutShort-same, CutShort-cut}
use Rattle.mta_edge.proofs.safe_disk.SafeDiskDisk.cut.Goals as goal

pub returns-in_err-note-clause-crash : goal.returns-in_err-note-clause-crash
returns-in_err-note-clause-crash c =
    unlogged_from c.args.self.now c.args.self.now c.note.new.self refl _ c.in_err-note.ensures.refused
    c.note.ensures.octets (λ f. CutShort-same _ f)

pub returns-clause-crash : goal.returns-clause-crash
returns-clause-crash c =
    let stays : c.self.inside.octets.items ≡ c.args.self.now.octets = ap (λ (d : HeldDisk). d.octets) c.self.view_is
    ∙ c.note.ensures.octets in
    let whole : c.truncate.new.self.items ≡ take c.args.size c.args.self.now.octets = c.truncate.ensures.items
    ∙ ap (take c.args.size) stays in
    logged_cut c.args.self.now c.args.self.now _ refl c.args.size
    (ap (λ (d : HeldDisk). d.log) c.self.view_is ∙ c.in_ok-note.ensures.logged)
    (subst (CutShort c.args.size c.args.self.now.octets) (sym whole) (CutShort-cut c.args.size c.args.self.now.octets))
