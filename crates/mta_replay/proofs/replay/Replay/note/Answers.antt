use Rattle.std.proofs.Common.{◌≡◌, ℕ, length, Option, Some, refl, sym, subst, arith}
use Rattle.mta_machine.specs.Items.{numbered}
use Rattle.mta_state.specs.Asked.{IsRestOf}
use Rattle.mta_state.specs.Parts.{machine_of}
use Rattle.mta_replay.specs.declared.replay.InForce.{InForce}
use Rattle.mta_replay.specs.Sound.{AreLast, IsSound}
use Rattle.mta_replay.proofs.Founds.{found_later}
use Rattle.mta_replay.proofs.Sounds.{sound_with}
use Rattle.mta_replay.proofs.replay.Replay.note.Goals as goal

pub note_in-requires : goal.note_in-requires
note_in-requires g c =
    let kept = c.args.self.now.kept in
    let last = subst (λ (o : Option (InForce g.row.R.Denot)). AreLast g.R.Rules.format g.R.Rules.text
    (machine_of kept.parts) o)
    c.in-Some.is c.requires.sound.last in
    record {
      later = found_later kept (g.R.Rules.text c.in-Some.force.rules) c.args.moment c.args.rest c.args.decoded last.last
          c.requires.found;
    }

pub returns-in-Some-clause-sound : goal.returns-in-Some-clause-sound
returns-in-Some-clause-sound g c =
    let kept = c.args.self.now.kept in
    let force : InForce g.row.R.Denot = c.in-Some.force in
    let new : InForce g.row.R.Denot = record force { index = c.note_in.new.index } in
    let format = g.R.Rules.format force.rules in
    let text = g.R.Rules.text force.rules in
    let items = kept.parts.items.items in
    let sound : IsSound g.R.Rules.format g.R.Rules.text kept (Some force) =
    subst (λ (o : Option (InForce g.row.R.Denot)). IsSound g.R.Rules.format g.R.Rules.text kept o) c.in-Some.is
    c.requires.sound in
    let found = c.requires.found in
    let count : c.len-count.result ≡ length items = omega (arith, c.len-count.ensures, kept.parts.items.ok.0) in
    let at : numbered items c.len-count.result ≡ Some found.item =
    subst (λ (n : ℕ). numbered items n ≡ Some found.item) (sym count) found.item_is in
    let rests : IsRestOf format text found.item c.args.moment c.args.rest =
    subst (λ (n : ℕ). IsRestOf n text found.item c.args.moment c.args.rest) (sym sound.last.in_format)
    (found.found text sound.last.last) in
    sound_with g.R.Rules.format g.R.Rules.text kept force new refl refl
    (c.note_in.ensures format text items found.item at rests found.decoded_is sound.indexed) sound
