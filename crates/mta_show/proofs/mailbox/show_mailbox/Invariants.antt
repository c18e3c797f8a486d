use Rattle.std.proofs.Common.{◌≡◌, ◌++◌, drop}
use Rattle.mta_show.specs.Mailbox.{mailbox_text}
use Rattle.mta_show.proofs.mailbox.show_mailbox.Given as goal

abbrev pub invariant-loop-line : goal.invariant-loop-line
invariant-loop-line l =
    l.out ++ mailbox_text l.word l.items (drop l.line-index l.lines)
    ≡ mailbox_text l.word l.items l.lines
