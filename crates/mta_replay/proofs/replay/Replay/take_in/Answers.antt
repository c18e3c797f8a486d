use Rattle.std.proofs.Common.{List, ℕ, None, sym, ap, subst, ◌∙◌}
use Rattle.mta_records.specs.declared.step.Step.TheVariants.{Accept}
use Rattle.mta_records.specs.declared.state.Origin.TheVariants as Origins
use Rattle.mta_machine.specs.Machine.{accepted_item}
use Rattle.mta_histories.specs.Lanes.{State}
use Rattle.mta_histories.specs.History.{after_step}
use Rattle.mta_state.specs.Kept.{state_of}
use Rattle.mta_state.specs.Readings.{IsDecodedOf}
use Rattle.mta_replay.specs.Ready.{IsReady}
use Rattle.mta_replay.proofs.Founds.{arrival_decoded, arrival_found, arrival_ready, found_last, taken_up}
use Rattle.mta_replay.proofs.replay.Replay.take_in.Goals as goal

pub reserve_item-requires-clause-decoded : goal.reserve_item-requires-clause-decoded
reserve_item-requires-clause-decoded g c =
    let read = arrival_decoded c.args.apdu c.in_ok-arrival.field-0 c.in-Some.arrival c.in-Some.is
    c.in_ok-arrival.ensures.decoded in
    subst (λ (o : List ℕ). IsDecodedOf o c.in-Some.arrival.decoded) (sym read.octets_are) read.read_as

pub note-requires-clause-sound : goal.note-requires-clause-sound
note-requires-clause-sound g c =
    let format = g.R.Rules.format in
    let text = g.R.Rules.text in
    let step = Accept c.args.moment c.args.apdu in
    let change = c.in_ok-change.change in
    let ready = arrival_ready format text (state_of c.args.self.now.kept) c.args.moment c.args.apdu
    c.in_ok-arrival.field-0 c.in-Some.arrival change c.in-Some.is c.in_ok-arrival.ensures.prepares
    c.in_ok-change.ensures.change in
    c.commit.ensures.sound step c.requires.fields
    (subst (λ (s : State). IsReady format text s step change None) (sym c.in_ok-change.ensures.same) ready)

pub note-requires-clause-found : goal.note-requires-clause-found
note-requires-clause-found g c =
    let format = g.R.Rules.format in
    let text = g.R.Rules.text in
    let kept = c.args.self.now.kept in
    let arrival = c.in-Some.arrival in
    let step = Accept c.args.moment c.args.apdu in
    let change = c.in_ok-change.change in
    let ready = arrival_ready format text (state_of kept) c.args.moment c.args.apdu c.in_ok-arrival.field-0 arrival
    change c.in-Some.is c.in_ok-arrival.ensures.prepares c.in_ok-change.ensures.change in
    let made = c.commit.ensures.made step
    (subst (λ (s : State). IsReady format text s step change None) (sym c.in_ok-change.ensures.same) ready) in
    let read = arrival_decoded c.args.apdu c.in_ok-arrival.field-0 arrival c.in-Some.is
    c.in_ok-arrival.ensures.decoded in
    let decoded = c.in_ok-change.decoded in
    found_last kept c.commit.new.self.kept c.args.moment c.args.apdu arrival.rest decoded
    (made ∙ ap (λ (s : State). after_step s step) c.in_ok-change.ensures.same)
    (arrival_found kept (accepted_item c.args.apdu Origins.Submitted c.args.moment) c.args.moment
    c.in_ok-arrival.field-0 arrival c.in-Some.is c.in_ok-arrival.ensures.rest)
    (subst (λ (o : List ℕ). IsDecodedOf o decoded) read.octets_are c.in_ok-change.ensures.decoded)

pub returns-clause-taken : goal.returns-clause-taken
returns-clause-taken g c =
    let format = g.R.Rules.format in
    let text = g.R.Rules.text in
    let kept = c.args.self.now.kept in
    let step = Accept c.args.moment c.args.apdu in
    let change = c.in_ok-change.change in
    let ready = arrival_ready format text (state_of kept) c.args.moment c.args.apdu c.in_ok-arrival.field-0
    c.in-Some.arrival change c.in-Some.is c.in_ok-arrival.ensures.prepares c.in_ok-change.ensures.change in
    let made = c.commit.ensures.made step
    (subst (λ (s : State). IsReady format text s step change None) (sym c.in_ok-change.ensures.same) ready) in
    taken_up step (state_of kept) (state_of c.note.new.self.kept) ready.is_change.possible
    (ap state_of c.note.ensures.same ∙ made
    ∙ ap (λ (s : State). after_step s step) c.in_ok-change.ensures.same)
