-- RTORJ and RTAB (X.228): a SET of a reason, which is 0 where it is absent, and of components that are passed over.
use Rattle.std.specs.Prelude.{ℕ, Bool, true, false, Some, None, is_some, unwrap_or, Result, Ok, if◌then◌else◌, ◌&&◌}
use Rattle.mta_ber.specs.declared.fault.Fault.{Fault}
use Rattle.mta_ber.specs.declared.fault.Kind.TheVariants.{BadTag}
use Rattle.mta_ber.specs.Forms.{is_primitive_tag}
use Rattle.mta_ber.specs.Head.{◌>>=◌, fault}
use Rattle.mta_ber.specs.Element.{Part}
use Rattle.mta_ber.specs.Parts.{components, is_tag}
use Rattle.mta_rtse.specs.declared.reason.ReasonParts.{ReasonParts}
use Rattle.mta_rtse.specs.Values.{number_in}
use Rattle.mta_rtse.specs.Bind.{vacant}

unfoldable pub reason_step : ReasonParts → Part → Result ReasonParts Fault
reason_step s p =
    if is_primitive_tag 2 0 p.tag then
    (vacant (is_some s.reason) p.at (number_in p) >>= λ n. Ok (record s { reason = Some n }))
    else if is_tag 2 1 p.tag then (vacant s.first p.at (Ok tt) >>= λ (_ : Unit {0}). Ok (record s { first = true }))
    else if s.aborts && is_tag 2 2 p.tag then
    (vacant s.second p.at (Ok tt) >>= λ (_ : Unit {0}). Ok (record s { second = true }))
    else fault p.at BadTag

abbrev pub no_reason : Bool → ReasonParts
no_reason aborts = record { aborts = aborts; reason = None; first = false; second = false }

unfoldable pub reason_in : Bool → Part → Result ℕ Fault
reason_in aborts p = components reason_step (no_reason aborts) p >>= λ s. Ok (unwrap_or s.reason 0)

unfoldable pub rtorj_in : Part → Result ℕ Fault
rtorj_in p = if is_tag 2 18 p.tag then reason_in false p else fault p.at BadTag

unfoldable pub rtab_in : Part → Result ℕ Fault
rtab_in p = if is_tag 2 22 p.tag then reason_in true p else fault p.at BadTag
