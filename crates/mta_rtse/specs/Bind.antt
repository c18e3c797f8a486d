-- The bind of message transfer agents: NULL, or a SET of a name, credentials and perhaps a security context, which is
-- passed over.
use Rattle.std.specs.Prelude.{ℕ, Bool, true, false, List, Some, None, is_some, Result, Ok, if◌then◌else◌}
use Rattle.mta_ber.specs.declared.fault.Fault.{Fault}
use Rattle.mta_ber.specs.declared.fault.Kind.TheVariants.{BadTag, BadSize, Twice}
use Rattle.mta_ber.specs.declared.text.TextClass.TheVariants.{Ia5}
use Rattle.mta_ber.specs.Forms.{is_constructed_tag}
use Rattle.mta_ber.specs.Head.{◌>>=◌, fault}
use Rattle.mta_ber.specs.Element.{Part, explicit}
use Rattle.mta_ber.specs.Parts.{components, is_tag, required}
use Rattle.mta_ber.specs.Strings.{text_in, is_empty}
use Rattle.mta_rtse.specs.declared.bind.BindParts.{BindParts}
use Rattle.mta_rtse.specs.declared.types.Request.{Request}
use Rattle.mta_rtse.specs.declared.types.Request.TheVariants.{Null, Bind}
use Rattle.mta_rtse.specs.Values.{octets_in, word_in}

-- the most octets of a password
abbrev pub longest_password : ℕ
longest_password = 62

-- IA5String or OCTET STRING
unfoldable pub password_in : Part → Result (List ℕ) Fault
password_in p =
    if is_tag 0 22 p.tag then text_in Ia5 0 longest_password p
    else if is_tag 0 4 p.tag then octets_in longest_password p
    else fault p.at BadTag

unfoldable pub explicit_password_in : Part → Result (List ℕ) Fault
explicit_password_in p = explicit password_in p

-- a component that may stand once, where `taken` says whether it stood before
abbrev pub vacant : {A : Type 0} → Bool → ℕ → Result A Fault → Result A Fault
vacant taken at read = if taken then fault at Twice else read

unfoldable pub bind_step : BindParts → Part → Result BindParts Fault
bind_step s p =
    if is_tag 2 0 p.tag then (vacant (is_some s.name) p.at (word_in p) >>= λ w. Ok (record s { name = Some w }))
    else if is_constructed_tag 2 1 p.tag then
    (vacant (is_some s.password) p.at (explicit_password_in p) >>= λ o. Ok (record s { password = Some o }))
    else if is_tag 2 2 p.tag then (vacant s.context p.at (Ok tt) >>= λ (_ : Unit {0}). Ok
    (record s { context = true }))
    else fault p.at BadTag

abbrev pub no_bind : BindParts
no_bind = record { name = None; password = None; context = false }

unfoldable pub bind_in : Part → Result Request Fault
bind_in p =
    components bind_step no_bind p >>= λ s.
    required s.name p.at >>= λ w.
    required s.password p.at >>= λ o.
    Ok (Bind w o)

unfoldable pub null_in : Part → Result Request Fault
null_in p = if p.tag.constructed then fault p.at BadTag else if is_empty p.content then Ok Null else fault p.at BadSize

unfoldable pub open_in : Part → Result Request Fault
open_in p =
    if is_tag 0 5 p.tag then null_in p
    else if is_tag 2 1 p.tag then bind_in p
    else fault p.at BadTag
