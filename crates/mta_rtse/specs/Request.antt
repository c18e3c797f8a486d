-- RTORQ (X.228): a SET of the checkpoint size, the window, the dialogue mode, connection data and an application
-- protocol, which is passed over.
use Rattle.std.specs.Prelude.{ℕ, true, false, Some, None, is_some, unwrap_or, Result, Ok, if◌then◌else◌}
use Rattle.mta_ber.specs.declared.fault.Fault.{Fault}
use Rattle.mta_ber.specs.declared.fault.Kind.TheVariants.{BadTag}
use Rattle.mta_ber.specs.Forms.{is_primitive_tag, is_constructed_tag}
use Rattle.mta_ber.specs.Head.{◌>>=◌, fault}
use Rattle.mta_ber.specs.Element.{Part}
use Rattle.mta_ber.specs.Parts.{components, is_tag, required}
use Rattle.mta_rtse.specs.declared.request.RequestParts.{RequestParts}
use Rattle.mta_rtse.specs.declared.types.OpenRequest.{OpenRequest}
use Rattle.mta_rtse.specs.Values.{number_in, flag_in}
use Rattle.mta_rtse.specs.Bind.{vacant}
use Rattle.mta_rtse.specs.Connection.{request_in}

-- the window where none is given
abbrev pub default_window : ℕ
default_window = 3

unfoldable pub rtorq_step : RequestParts → Part → Result RequestParts Fault
rtorq_step s p =
    if is_primitive_tag 2 0 p.tag then
    (vacant (is_some s.checkpoint) p.at (number_in p) >>= λ n. Ok (record s { checkpoint = Some n }))
    else if is_primitive_tag 2 1 p.tag then
    (vacant (is_some s.window) p.at (number_in p) >>= λ n. Ok (record s { window = Some n }))
    else if is_primitive_tag 2 2 p.tag then
    (vacant (is_some s.twa) p.at (flag_in p) >>= λ b. Ok (record s { twa = Some b }))
    else if is_constructed_tag 2 3 p.tag then
    (vacant (is_some s.request) p.at (request_in p) >>= λ r. Ok (record s { request = Some r }))
    else if is_tag 2 4 p.tag then (vacant s.protocol p.at (Ok tt) >>= λ (_ : Unit {0}). Ok
    (record s { protocol = true }))
    else fault p.at BadTag

abbrev pub no_request : RequestParts
no_request = record { checkpoint = None; window = None; twa = None; request = None; protocol = false }

unfoldable pub rtorq_parts_in : Part → Result OpenRequest Fault
rtorq_parts_in p =
    components rtorq_step no_request p >>= λ s.
    required s.request p.at >>= λ r.
    Ok (record {
      checkpoint = unwrap_or s.checkpoint 0;
      window = unwrap_or s.window default_window;
      twa =
          unwrap_or s.twa false;
      request = r;
    })

unfoldable pub rtorq_in : Part → Result OpenRequest Fault
rtorq_in p = if is_tag 2 16 p.tag then rtorq_parts_in p else fault p.at BadTag
