use Rattle.std.proofs.Common.{Global, ap, map, rules, string_bytes}
use Rattle.mta_follow_run.proofs.Asking.{not_push, pull_found, push_found, three_of, two_of}
use Rattle.mta_follow_run.proofs.words.command_of.Goals as goal

pub returns-then-eq : goal.returns-then-eq
returns-then-eq c =
    pull_found (map (string_bytes {Z = Global}) c.args.words.now) (string_bytes c.verb-item.result)
    (string_bytes c.port-item.result) c.pull_of.result
    (ap (map (string_bytes {Z = Global})) (two_of c.args.words.now c.verb-item.result c.port-item.result
    c.in-len2.len_at_least c.in-len2.len_below c.verb-item.is c.port-item.is))
    (search rules) (search rules)

pub returns-then-eq-2 : goal.returns-then-eq-2
returns-then-eq-2 c =
    push_found (map (string_bytes {Z = Global}) c.args.words.now) (string_bytes c.verb-item-then-words-lt4.result)
    (string_bytes c.host-item.result) (string_bytes c.port-item-then-words-lt4.result) c.push_of.result
    (ap (map (string_bytes {Z = Global})) (three_of c.args.words.now c.verb-item-then-words-lt4.result
    c.host-item.result c.port-item-then-words-lt4.result c.in-len3.len_at_least c.in-len3.len_below
    c.verb-item-then-words-lt4.is c.host-item.is c.port-item-then-words-lt4.is))
    (search rules) (search rules)

pub returns-else-eq-2 : goal.returns-else-eq-2
returns-else-eq-2 c =
    not_push (map (string_bytes {Z = Global}) c.args.words.now) (string_bytes c.verb-item-then-words-lt4.result)
    (string_bytes c.host-item.result) (string_bytes c.port-item-then-words-lt4.result)
    (ap (map (string_bytes {Z = Global})) (three_of c.args.words.now c.verb-item-then-words-lt4.result
    c.host-item.result c.port-item-then-words-lt4.result c.in-len3.len_at_least c.in-len3.len_below
    c.verb-item-then-words-lt4.is c.host-item.is c.port-item-then-words-lt4.is))
    (λ same. search rules)
