-- The one list of the word is asked.
use Rattle.std.proofs.Common.{◌≡◌, ◌<◌, leb, length, Some, None, sym, ap, ◌∙◌, arith}
use Rattle.std.specs.List.{list_any, position}
use Rattle.mta_tables.specs.declared.entry.MailList.{MailList}
use Rattle.mta_tables.specs.Reading.{has_list_word, is_full_from}
use Rattle.mta_tables.proofs.Ones.{words_alone, none_full, one_full, at_index}
use Rattle.mta_tables.proofs.lists.Lists.is_full_from.Goals as goal

pub returns-in-None : goal.returns-in-None
returns-in-None c = sym (none_full (has_list_word c.args.word.now)
    (λ (l : MailList). leb 100 (length l.from)) c.args.self.now (sym c.in-None.ensures.exact))

pub returns-in-Some : goal.returns-in-Some
returns-in-Some c =
    let ls = c.self.inside.inner.items in
    let w = c.args.word.now in
    let i = c.in-Some.place in
    let v = c.self.view_is in
    let place : position (has_list_word w) ls ≡ Some i = ap (position (has_list_word w)) v
    ∙ sym c.in-Some.ensures.exact in
    let bound = c.in-Some.ensures.bound in
    let within : i < length ls = omega (arith, ap length v) in
    let at = at_index ls i c.index.result.now within c.index.ensures in
    let one = one_full (has_list_word w) (λ (l : MailList). leb 100 (length l.from)) ls i c.index.result.now
    (words_alone w ls c.self.invariant.1) place at in
    ap (leb 100) c.len.ensures ∙ sym one ∙ ap (list_any (is_full_from w)) v
