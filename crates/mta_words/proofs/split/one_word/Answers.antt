use Rattle.std.proofs.Common.{rules, ◌≡◌, ◌∙◌, sym, true, ap, ap₂, codes, map, string_bytes, subst}
use Rattle.std.proofs.Common.{Global}
use Rattle.clap.specs.Words.{App, app_of, is_simple_and_free, new_rule, rule_of, with_rule}
use Rattle.mta_words.specs.Split.{IsMatched}
use Rattle.mta_words.proofs.WordLaws.{word_app, word_simple, word_known, GivesWord}
use Rattle.mta_words.proofs.split.one_word.Goals as goal

pub matched-requires : goal.matched-requires
matched-requires c =
    let rule : rule_of c.required-word.result ≡ record (new_rule (codes "word")) { required = true } = search rules in
    let app : app_of c.in_ok-command.command ≡ word_app =
    c.in_ok-command.ensures.shape (search rules) ∙ ap₂ with_rule c.new-2.ensures.app rule in
    ap is_simple_and_free app ∙ word_simple

pub returns-in-Some : goal.returns-in-Some
returns-in-Some c =
    let texts = map (string_bytes {Z = Global}) c.args.words.now in
    let rule : rule_of c.required-word.result ≡ record (new_rule (codes "word")) { required = true } = search rules in
    let app : app_of c.in_ok-command.command ≡ word_app =
    c.in_ok-command.ensures.shape (search rules) ∙ ap₂ with_rule c.new-2.ensures.app rule in
    let gives = word_known texts c.in_ok-matches.field-0 c.requires
    (subst (λ (a : App). IsMatched a texts c.in_ok-matches.field-0) app c.in_ok-matches.ensures) in
    c.get_str.ensures ∙ subst (GivesWord texts) c.in-Some.is gives

pub returns-in-None : goal.returns-in-None
returns-in-None c =
    let texts = map (string_bytes {Z = Global}) c.args.words.now in
    let rule : rule_of c.required-word.result ≡ record (new_rule (codes "word")) { required = true } = search rules in
    let app : app_of c.in_ok-command.command ≡ word_app =
    c.in_ok-command.ensures.shape (search rules) ∙ ap₂ with_rule c.new-2.ensures.app rule in
    let gives = word_known texts c.in_ok-matches.field-0 c.requires
    (subst (λ (a : App). IsMatched a texts c.in_ok-matches.field-0) app c.in_ok-matches.ensures) in
    sym (subst (GivesWord texts) c.in-None.is gives)
