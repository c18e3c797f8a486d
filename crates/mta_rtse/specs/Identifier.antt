-- Session connection identifiers (X.228): a calling reference, a common reference and perhaps an additional one, in
-- this order.
use Rattle.std.specs.Prelude.{Some, None, Result, Ok, if◌then◌else◌}
use Rattle.mta_ber.specs.declared.fault.Fault.{Fault}
use Rattle.mta_ber.specs.declared.fault.Kind.TheVariants.{BadTag}
use Rattle.mta_ber.specs.Head.{◌>>=◌, fault}
use Rattle.mta_ber.specs.Element.{Part}
use Rattle.mta_ber.specs.Parts.{components, is_tag, in_order, required}
use Rattle.mta_ber.specs.Times.{utc_in}
use Rattle.mta_records.specs.Reference.{Identifier, identifier, longest_reference}
use Rattle.mta_rtse.specs.declared.identifier.ReferenceParts.{ReferenceParts}
use Rattle.mta_rtse.specs.Values.{octets_in}

unfoldable pub reference_step : ReferenceParts → Part → Result ReferenceParts Fault
reference_step s p =
    if is_tag 0 4 p.tag then (in_order s.last 0 1 p.at (octets_in longest_reference p) >>= λ o. Ok
    (record s { last = 1; calling = Some o }))
    else if is_tag 0 23 p.tag then (in_order s.last 1 2 p.at (utc_in p) >>= λ m. Ok
    (record s { last = 2; common = Some m }))
    else if is_tag 2 0 p.tag then (in_order s.last 2 3 p.at (octets_in longest_reference p) >>= λ o. Ok
    (record s { last = 3; additional = Some o }))
    else fault p.at BadTag

abbrev pub no_reference : ReferenceParts
no_reference = record { last = 0; calling = None; common = None; additional = None }

unfoldable pub reference_in : Part → Result Identifier Fault
reference_in p =
    components reference_step no_reference p >>= λ s.
    required s.calling p.at >>= λ c.
    required s.common p.at >>= λ m.
    Ok (identifier c m s.additional)
