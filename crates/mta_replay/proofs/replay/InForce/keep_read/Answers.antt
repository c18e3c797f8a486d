use Rattle.std.proofs.Common.{◌≡◌, ℕ, length, Option, Some, sym, subst, ◌∙◌, arith}
use Rattle.std.specs.Prelude.{IfSome}
use Rattle.mta_machine.specs.Items.{numbered}
use Rattle.mta_state.specs.declared.decoded.Decoded.{Decoded}
use Rattle.mta_replay.specs.Expected.{IsReadOfLast}
use Rattle.mta_replay.proofs.replay.InForce.keep_read.Goals as goal

pub returns-else-is_worth_more-clause-indexed : goal.returns-else-is_worth_more-clause-indexed
returns-else-is_worth_more-clause-indexed g c = λ format text read indexed.
    let items = c.args.kept.now.parts.items.items in
    let last : IsReadOfLast items c.in-Some.decoded =
    subst (λ (o : Option Decoded). IfSome o (IsReadOfLast items)) (sym c.take.ensures.value ∙ c.in-Some.is) read in
    let count : c.len-number.result ≡ length items = omega (arith, c.len-number.ensures, c.args.kept.now.parts.items.ok.0) in
    let at : numbered items c.len-number.result ≡ Some last.item =
    subst (λ (n : ℕ). numbered items n ≡ Some last.item) (sym count) last.item_is in
    c.keep_decoded.ensures.indexed format text items last.item at last.decoded indexed
