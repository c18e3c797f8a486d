use Rattle.std.proofs.Common.{◌≡◌, ◌≤◌, length, arith, refl, sym, ap, subst, ◌∙◌}
use Rattle.std.specs.Prelude.{IfOk}
use Rattle.mta_edge.specs.Outside.{written, Torn}
use Rattle.mta_edge.specs.Held.{HeldDisk}
use Rattle.mta_edge.proofs.Logged.{logged_write, unlogged_from, Torn-same, written_torn}
use Rattle.mta_edge.proofs.memory_disk.MemDiskDisk.write_at.Goals as goal

pub returns-in_err-octets-clause-crash : goal.returns-in_err-octets-clause-crash
returns-in_err-octets-clause-crash c = unlogged_from _ _ _ c.self.view_is _ refl refl (λ f. Torn-same _ _ f)

pub returns-in_err-log-clause-crash : goal.returns-in_err-log-clause-crash
returns-in_err-log-clause-crash c =
    unlogged_from _ _ _ c.self.view_is _ c.in_err-log.ensures.refused c.log.ensures.octets (λ f. Torn-same _ _ f)

pub returns-in_err-begun-clause-crash : goal.returns-in_err-begun-clause-crash
returns-in_err-begun-clause-crash c =
    let same : c.in_ok-octets.octets ≡ c.args.bytes.now =
    subst (λ r. IfOk r (λ o. o ≡ c.args.bytes.now)) c.in_ok-octets.ensures.same c.from_slice.ensures in
    logged_write _ _ _ c.self.view_is c.args.at _ _ same c.in_ok-log.ensures.logged
    (subst (Torn c.args.at (length c.args.bytes.now) c.self.inside.octets) (sym c.log.ensures.octets)
    (Torn-same _ _ _))

pub returns-in_err-next-clause-crash : goal.returns-in_err-next-clause-crash
returns-in_err-next-clause-crash c = unlogged_from _ _ _ c.self.view_is _ refl refl (λ f. Torn-same _ _ f)

pub returns-clause-crash : goal.returns-clause-crash
returns-clause-crash c =
    let same : c.in_ok-octets.octets ≡ c.args.bytes.now =
    subst (λ r. IfOk r (λ o. o ≡ c.args.bytes.now)) c.in_ok-octets.ensures.same c.from_slice.ensures in
    let wrote : c.in_ok-next.next ≡ written c.args.at c.args.bytes.now c.as_slice.result.now =
    subst (λ r. IfOk r (λ o. o ≡ written c.args.at c.args.bytes.now c.as_slice.result.now))
    c.in_ok-next.ensures.same c.with_piece-found.ensures in
    let whole : c.in_ok-next.next ≡ written c.args.at c.args.bytes.now c.self.inside.octets = wrote
    ∙ ap (written c.args.at c.args.bytes.now) c.as_slice.ensures in
    let within : c.args.at ≤ length c.self.inside.octets =
    subst (λ (d : HeldDisk). c.args.at ≤ length d.octets) (sym c.self.view_is) (c.requires _ refl) in
    logged_write _ _ _ c.self.view_is c.args.at _ _ same
    (ap (λ (d : HeldDisk). d.log) c.self-2.view_is ∙ c.in_ok-log.ensures.logged)
    (subst (Torn c.args.at (length c.args.bytes.now) c.self.inside.octets) (sym whole)
    (written_torn c.args.at c.args.bytes.now c.args.bytes.now c.self.inside.octets (omega arith) within))
