-- A text, and those behind it.
use Rattle.std.proofs.Common.{◌≡◌, ℕ, suc, ◌+◌, ◌-◌, List, length, take, drop, Some, None, sym, ap, subst, ◌∙◌, arith}
use Rattle.mta_tables.specs.declared.fault.LineKind.TheVariants as Kinds
use Rattle.mta_tables.specs.Reading.{bad}
use Rattle.mta_tables.specs.Tables.{TablesValue}
use Rattle.mta_rehearse_run.specs.Network.{lines_in, tables_behind, network_from, AddsRead}
use Rattle.mta_rehearse_run.proofs.Parts.{rest_all}
use Rattle.mta_rehearse_run.proofs.Texts.{none_more, text_read, text_bad, adds_bad, adds_last, adds_more}
use Rattle.mta_rehearse_run.proofs.network.+read_from.Goals as goal

pub returns-then-room-eq0-clause-read : goal.returns-then-room-eq0-clause-read
returns-then-room-eq0-clause-read t c =
    none_more c.args.room c.args.before c.args.octets.now c.if-room-eq0.true
    ∙ ap (λ (n : ℕ). bad {A = List TablesValue} (n + 1) Kinds.TooMany) (sym c.from.ensures)

pub returns-in-None-clause-read : goal.returns-in-None-clause-read
returns-in-None-clause-read t c =
    let before = c.args.before in
    let octets = c.args.octets.now in
    let room = c.args.room in
    let less = room - 1 in
    let e : room ≡ suc less = omega arith in
    adds_last (tables_behind before octets) (network_from room before octets) c.args.agents.now c.add_text.new.agents
    c.add_text.result
    (λ x h. text_read before octets octets None c.in-None.ensures.cut room less x e h)
    (λ line kind h. text_bad before octets octets None c.in-None.ensures.cut room less line kind e h)
    c.add_text.ensures

pub returns-in-Ok-clause-read : goal.returns-in-Ok-clause-read
returns-in-Ok-clause-read t c =
    let before = c.args.before in
    let octets = c.args.octets.now in
    let room = c.args.room in
    let less = room - 1 in
    let e : room ≡ suc less = omega arith in
    let i = c.in-Some.end in
    let text = take i octets in
    let rest = drop (i + 4) octets in
    let mid = c.add_text-in-Some.new.agents in
    let new = c.read_from.new.agents in
    let result = c.read_from.result in
    let behind = subst (λ (n : ℕ). AddsRead (network_from less (before + n + 1)
    (take (length octets - (i + 4)) rest)) mid new result) c.lines_in-lines.ensures.exact c.read_from.ensures.read in
    adds_more (tables_behind before text) (network_from less (before + lines_in text + 1) rest)
    (network_from room before octets) c.args.agents.now mid new result
    (λ x h. text_read before octets text (Some rest) c.in-Some.ensures.cut room less x e h)
    c.in-Ok.ensures
    (subst (λ (ys : List ℕ). AddsRead (network_from less (before + lines_in text + 1) ys) mid new result)
    (rest_all octets (i + 4)) behind)

pub returns-in-Err-clause-read : goal.returns-in-Err-clause-read
returns-in-Err-clause-read t c =
    let before = c.args.before in
    let octets = c.args.octets.now in
    let room = c.args.room in
    let less = room - 1 in
    let e : room ≡ suc less = omega arith in
    let i = c.in-Some.end in
    let text = take i octets in
    let rest = drop (i + 4) octets in
    let mid = c.add_text-in-Some.new.agents in
    adds_bad (tables_behind before text) (network_from room before octets) c.args.agents.now mid mid c.in-Err.stop
    (λ line kind h. text_bad before octets text (Some rest) c.in-Some.ensures.cut room less line kind e h)
    c.in-Err.ensures
