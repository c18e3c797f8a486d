use Rattle.mta_ber.specs.Seen.{view}
use Rattle.mta_ber_tests.specs.Example.{note_in, SpellsNote}
use Rattle.mta_ber_tests.proofs.ExampleLaws.{note_sound, note_full}
use Rattle.mta_ber.proofs.StringLaws.{reads_found, reads_as}
use Rattle.mta_ber_tests.proofs.note.Note.read.Goals as goal

pub returns-clause-found : goal.returns-clause-found
returns-clause-found c =
    let v = c.args.whole.now in
    reads_found (SpellsNote v.depth v.tag.constructed v.content.now) c.read_parts.result
    (note_in (view v)) c.read_parts.ensures (λ n e. note_sound (view v) n v.bytes e)

pub returns-clause-only : goal.returns-clause-only
returns-clause-only c = λ n h. let v = c.args.whole.now in
    reads_as c.read_parts.result (note_in (view v)) n c.read_parts.ensures (note_full (view v) n h)
