-- What stands behind the header of a UTCTime is the text of its moment.
use Rattle.std.proofs.Common.{◌++◌, drop, ap, ◌∙◌}
use Rattle.std.proofs.lemmas.Result.{on_ok_weaker}
use Rattle.mta_ber.specs.Canon.{Written, appended, element, primitive}
use Rattle.mta_ber.specs.Contents.{utc_content}
use Rattle.mta_apdu_text.proofs.Chains.{behind_utc}
use Rattle.mta_apdu_text.specs.Pieces.{moment_text}
use Rattle.mta_apdu_text.proofs.pieces.put_moment.Goals as goal

pub returns-clause-ok : goal.returns-clause-ok
unfolding moment_text
returns-clause-ok c =
    let moment = c.printed_moment.result in
    let put = c.in_ok-put_utc.ensures.ok
    ∙ ap (λ (w : Written). appended w (element (primitive 0 23) (utc_content moment))) c.new-writer.ensures in
    on_ok_weaker c.extend.result
    (λ e. e ∙ ap (λ x. c.args.out.now ++ x)
    (c.behind_header.ensures ∙ ap (drop 2) (c.as_slice.ensures ∙ ap (λ (w : Written). w.octets) put) ∙ behind_utc moment
    ∙ ap utc_content c.printed_moment.ensures.exact))
    c.extend.ensures.ok
