use Rattle.std.proofs.Common.{ap, ◌∙◌}
use Rattle.mta_edge.specs.Held.{HeldDisk}
use Rattle.mta_edge.proofs.Chosen.{seen_at_some, seen_at_none}
use Rattle.mta_edge.proofs.memory_disk.MemDisk.first.Goals as goal

pub returns-in-Some : goal.returns-in-Some
returns-in-Some c = c.as_slice.ensures
    ∙ seen_at_some c.deref.result.now c.args.self.now.log c.in-Some.called.now c.args.self.now.octets
    c.in-Some.ensures.value (c.deref.ensures.value ∙ ap (λ (d : HeldDisk). d.log) c.self.view_is)

pub returns-in-None : goal.returns-in-None
returns-in-None c =
    c.as_slice-in-None.ensures ∙ ap (λ (d : HeldDisk). d.octets) c.self.view_is
    ∙ seen_at_none c.deref.result.now c.args.self.now.log c.args.self.now.octets c.in-None.ensures.value
    (c.deref.ensures.value ∙ ap (λ (d : HeldDisk). d.log) c.self.view_is)
