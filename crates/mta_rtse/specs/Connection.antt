-- Connection data (X.228): `[0]` around what an association is opened with, or under `[1]` the reference of one to
-- recover.
use Rattle.std.specs.Prelude.{ℕ, Result, Ok, if◌then◌else◌}
use Rattle.mta_ber.specs.declared.fault.Fault.{Fault}
use Rattle.mta_ber.specs.declared.fault.Kind.TheVariants.{BadTag}
use Rattle.mta_ber.specs.Head.{◌>>=◌, fault}
use Rattle.mta_ber.specs.Element.{Part, explicit}
use Rattle.mta_ber.specs.Parts.{is_tag}
use Rattle.mta_rtse.specs.declared.types.Request.{Request}
use Rattle.mta_rtse.specs.declared.types.Request.TheVariants as ask
use Rattle.mta_rtse.specs.declared.types.Answer.{Answer}
use Rattle.mta_rtse.specs.declared.types.Answer.TheVariants as reply
use Rattle.mta_rtse.specs.Identifier.{reference_in}
use Rattle.mta_rtse.specs.Bind.{open_in}

unfoldable pub explicit_open_in : Part → Result Request Fault
explicit_open_in p = explicit open_in p

unfoldable pub recover_in : Part → Result Request Fault
recover_in p = reference_in p >>= λ r. Ok (ask.Recover r)

unfoldable pub connection_in : Part → Result Request Fault
connection_in p =
    if is_tag 2 0 p.tag then explicit_open_in p
    else if is_tag 2 1 p.tag then recover_in p
    else fault p.at BadTag

-- of a request, inside an explicit tag
unfoldable pub request_in : Part → Result Request Fault
request_in p = explicit connection_in p

-- an answer is not NULL
abbrev pub answer_of : ℕ → Request → Result Answer Fault
answer_of at ask.Null = fault at BadTag
answer_of at (ask.Bind name password) = Ok (reply.Bind name password)
answer_of at (ask.Recover reference) = Ok (reply.Recover reference)

-- of an answer, inside an explicit tag
unfoldable pub answer_in : Part → Result Answer Fault
answer_in p = request_in p >>= answer_of p.at
