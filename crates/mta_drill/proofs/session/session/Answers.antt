use Rattle.std.proofs.Common.{List, None, Option, Some, subst, ℕ}
use Rattle.std.proofs.lemmas.Result.{IfOk-weaker}
use Rattle.mta_session.specs.declared.event.Action.{Action}
use Rattle.mta_drill.specs.declared.side.Side.{Side}
use Rattle.mta_drill.specs.Runs.{HasCalled, Listens}
use Rattle.mta_drill.proofs.Meeting.{has_met}
use Rattle.mta_drill.proofs.Starting.{both_begin, none_called, none_listens, start_of}
use Rattle.mta_drill.proofs.session.session.Goals as goal

pub returns-in_default : goal.returns-in_default
returns-in_default c = λ before count n drill peer works second_works between.
    absurd (none_called before count n c.args.second.now.current c.args.breaks.now c.args.first.now c.caller.new.spool
    drill works between
    (subst (λ (w : List ℕ). HasCalled w c.args.first.now None c.caller.new.spool) peer
    (subst (λ (o : Option (Side × Action)). HasCalled c.args.peer.now c.args.first.now o c.caller.new.spool)
    c.in_default.is c.in_ok-calling.ensures.readied)))

pub returns-in_default-2 : goal.returns-in_default-2
returns-in_default-2 c = λ before count n drill peer works second_works between.
    absurd (none_listens before count n c.args.first.now.current c.args.breaks.now c.args.second.now between
    (subst (λ (o : Option (Side × Action)). Listens c.args.second.now o) c.in_default-2.is
    c.in_ok-listening.ensures.listens))

pub returns : goal.returns
returns c = λ before count n drill peer works second_works between.
    let x : Side × Action = (c.in-Some.calling, c.in-Some.calls) in
    let y : Side × Action = (c.in-Some-2.listening, c.in-Some-2.listens) in
    let first = c.args.first.now in
    let second = c.args.second.now in
    let s = c.caller.new.spool in
    let b = c.args.breaks.now in
    let begun =
    both_begin before count n first second s x y b drill works second_works between
    (subst (λ (w : List ℕ). HasCalled w first (Some x) s) peer
    (subst (λ (o : Option (Side × Action)). HasCalled c.args.peer.now first o s) c.in-Some.is
    c.in_ok-calling.ensures.readied))
    (subst (λ (o : Option (Side × Action)). Listens second o) c.in-Some-2.is c.in_ok-listening.ensures.listens) in
    let w = start_of s second x y b in
    IfOk-weaker c.run_to_end.result _ _
    (λ is_closed ran. has_met before count n first second b drill between w is_closed c.run_to_end.new.first
    c.run_to_end.new.second c.run_to_end.new.breaks begun.started ran)
    (c.run_to_end.ensures w begun.calling begun.listening)
