-- RTOAC (X.228): a SET of the checkpoint size, the window and connection data.
use Rattle.std.specs.Prelude.{Some, None, is_some, unwrap_or, Result, Ok, if◌then◌else◌}
use Rattle.mta_ber.specs.declared.fault.Fault.{Fault}
use Rattle.mta_ber.specs.declared.fault.Kind.TheVariants.{BadTag}
use Rattle.mta_ber.specs.Forms.{is_primitive_tag, is_constructed_tag}
use Rattle.mta_ber.specs.Head.{◌>>=◌, fault}
use Rattle.mta_ber.specs.Element.{Part}
use Rattle.mta_ber.specs.Parts.{components, is_tag, required}
use Rattle.mta_rtse.specs.declared.answer.AnswerParts.{AnswerParts}
use Rattle.mta_rtse.specs.declared.types.OpenAnswer.{OpenAnswer}
use Rattle.mta_rtse.specs.Values.{number_in}
use Rattle.mta_rtse.specs.Bind.{vacant}
use Rattle.mta_rtse.specs.Connection.{answer_in}
use Rattle.mta_rtse.specs.Request.{default_window}

unfoldable pub rtoac_step : AnswerParts → Part → Result AnswerParts Fault
rtoac_step s p =
    if is_primitive_tag 2 0 p.tag then
    (vacant (is_some s.checkpoint) p.at (number_in p) >>= λ n. Ok (record s { checkpoint = Some n }))
    else if is_primitive_tag 2 1 p.tag then
    (vacant (is_some s.window) p.at (number_in p) >>= λ n. Ok (record s { window = Some n }))
    else if is_constructed_tag 2 2 p.tag then
    (vacant (is_some s.answer) p.at (answer_in p) >>= λ a. Ok (record s { answer = Some a }))
    else fault p.at BadTag

abbrev pub no_answer : AnswerParts
no_answer = record { checkpoint = None; window = None; answer = None }

unfoldable pub rtoac_parts_in : Part → Result OpenAnswer Fault
rtoac_parts_in p =
    components rtoac_step no_answer p >>= λ s.
    required s.answer p.at >>= λ a.
    Ok (record { checkpoint = unwrap_or s.checkpoint 0; window = unwrap_or s.window default_window; answer = a })

unfoldable pub rtoac_in : Part → Result OpenAnswer Fault
rtoac_in p = if is_tag 2 17 p.tag then rtoac_parts_in p else fault p.at BadTag
