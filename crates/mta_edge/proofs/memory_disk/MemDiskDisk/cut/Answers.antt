use Rattle.std.proofs.Common.{◌≡◌, take, subst, sym, ap, ◌∙◌}
use Rattle.mta_edge.specs.Crashes.{CutShort}
use Rattle.mta_edge.specs.Held.{HeldDisk}
use Rattle.mta_edge.proofs.Logged.{logged_cut, unlogged_from, CutShort-same, CutShort-cut}
use Rattle.mta_edge.proofs.memory_disk.MemDiskDisk.cut.Goals as goal

pub returns-in_err-log-clause-crash : goal.returns-in_err-log-clause-crash
returns-in_err-log-clause-crash c =
    unlogged_from _ _ _ c.self.view_is _ c.in_err-log.ensures.refused c.log.ensures.octets (λ f. CutShort-same _ f)

pub returns-in_err-begun-clause-crash : goal.returns-in_err-begun-clause-crash
returns-in_err-begun-clause-crash c =
    logged_cut _ _ _ c.self.view_is c.args.size c.in_ok-log.ensures.logged
    (subst (CutShort c.args.size c.self.inside.octets) (sym c.log.ensures.octets) (CutShort-same _ _))

pub returns-clause-crash : goal.returns-clause-crash
returns-clause-crash c =
    let stays : c.self-2.inside.octets ≡ c.self.inside.octets = ap (λ (d : HeldDisk). d.octets) c.self-2.view_is
    ∙ c.log.ensures.octets in
    let whole : c.truncate.new.self ≡ take c.args.size c.self.inside.octets = c.truncate.ensures
    ∙ ap (take c.args.size) stays in
    logged_cut _ _ _ c.self.view_is c.args.size
    (ap (λ (d : HeldDisk). d.log) c.self-2.view_is ∙ c.in_ok-log.ensures.logged)
    (subst (CutShort c.args.size c.self.inside.octets) (sym whole) (CutShort-cut c.args.size c.self.inside.octets))
