use Rattle.std.proofs.Common.{◌≡◌, ◌∙◌, subst, sym}
use Rattle.std.proofs.lemmas.Result.{IfOk-weaker}
use Rattle.mta_worker.specs.Names.{IsName}
use Rattle.mta_worker.proofs.Wordings.{word_is_name}
use Rattle.mta_worker.proofs.name.own_name.Goals as goal

pub returns-clause-shown : goal.returns-clause-shown
returns-clause-shown c =
    let name = word_is_name c.args.tables.now.own c.have_lines.ensures.own in
    IfOk-weaker c.share.result (λ w. w ≡ c.own.result.now) IsName
    (λ w e. subst IsName (sym (e ∙ c.own.ensures)) name) c.share.ensures
