use Rattle.std.proofs.Common.{rules, ◌≡◌, ◌∙◌, ap, ap₂, map, string_bytes, subst}
use Rattle.std.proofs.Common.{Global}
use Rattle.std.proofs.lemmas.Result.{IfOk-weaker}
use Rattle.clap.specs.Words.{App, app_of, is_simple_and_free, rule_of, with_rule}
use Rattle.mta_words.specs.Split.{IsMatched}
use Rattle.mta_words.proofs.ServeLaws.{sessions_rule, stations_rule, serve_app, serve_simple, serve_known}
use Rattle.mta_words.proofs.split.served.Goals as goal

pub matched-requires : goal.matched-requires
matched-requires c =
    let sessions : rule_of c.required-sessions.result ≡ sessions_rule = search rules in
    let stations : rule_of c.action-stations.result ≡ stations_rule = search rules in
    let app : app_of c.in_ok-command.command ≡ serve_app =
    c.in_ok-command.ensures.shape (search rules)
    ∙ ap₂ with_rule (c.in_ok-arg.ensures.shape
    (search rules) ∙ ap₂ with_rule c.new-3.ensures.app sessions) stations in
    ap is_simple_and_free app ∙ serve_simple

pub returns : goal.returns
returns c =
    let texts = map (string_bytes {Z = Global}) c.args.words.now in
    let sessions : rule_of c.required-sessions.result ≡ sessions_rule = search rules in
    let stations : rule_of c.action-stations.result ≡ stations_rule = search rules in
    let app : app_of c.in_ok-command.command ≡ serve_app =
    c.in_ok-command.ensures.shape (search rules)
    ∙ ap₂ with_rule (c.in_ok-arg.ensures.shape
    (search rules) ∙ ap₂ with_rule c.new-3.ensures.app sessions) stations in
    IfOk-weaker c.matched.result _ _
    (λ o h. serve_known texts o c.requires (subst (λ (a : App). IsMatched a texts o) app h)) c.matched.ensures
