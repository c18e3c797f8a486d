use Rattle.std.proofs.Common.{◌≡◌, Bool, List, Option, arith, subst, sym, ℕ}
use Rattle.std.specs.Prelude.{IfSome}
use Rattle.mta_drill_laws.specs.Tables.{east}
use Rattle.mta_drill_stage_laws.specs.Breaks.{Breaks}
use Rattle.mta_drill_stage_laws.specs.Sessions.{IsDrill}
use Rattle.mta_drill.specs.Worked.{HasWorked}
use Rattle.mta_drill.proofs.Meeting.{HasLedTo, IsBetween, begins_between, has_led, never_so_many}
use Rattle.mta_drill.proofs.round.transfer.Goals as goal

pub returns-in_default : goal.returns-in_default
returns-in_default c = λ few h g. absurd (c.in_ok-peer.ensures.some c.in_default.is)

pub loop-sessions-init : goal.loop-sessions-init
loop-sessions-init c = λ few h g.
    subst (λ (b : Breaks). IsBetween c.args.before c.args.count 0 c.args.first.now c.args.second.now b)
    (sym c.new-breaks.ensures)
    (begins_between c.args.before c.args.count c.args.first.now c.args.second.now h g)

pub loop-sessions-preserved : goal.loop-sessions-preserved
loop-sessions-preserved c = λ few h g.
    let drill : IsDrill c.args.before c.args.count = record { few = few; small = c.requires.fits } in
    let i = c.loop-sessions.invariant few h g in
    let peer : c.in-Some.peer ≡ east =
    subst (λ (o : Option (List ℕ)). IfSome o (λ w. w ≡ east)) c.in-Some.is c.in_ok-peer.ensures.exact in
    let met =
    c.in_ok-is_closed.ensures c.args.before c.args.count c.loop-sessions._sessions drill peer i.first_works
    i.second_works i.between in
    subst (λ (b : Bool). HasLedTo c.args.before c.args.count c.loop-sessions._sessions b c.settle.new.spool
    c.settle-in-loop-sessions.new.spool c.session.new.breaks) c.if-is_closed.false
    (has_led c.args.before c.args.count c.loop-sessions._sessions c.loop-sessions.first c.loop-sessions.second
    c.loop-sessions.breaks drill i.between _ c.session.new.first c.session.new.second c.settle.new.spool
    c.settle-in-loop-sessions.new.spool c.session.new.breaks met (c.in_ok-settle.ensures met.first_works)
    (c.in_ok-settle-2.ensures met.second_works))

pub returns-then-is_closed : goal.returns-then-is_closed
returns-then-is_closed c = λ few h g.
    let drill : IsDrill c.args.before c.args.count = record { few = few; small = c.requires.fits } in
    let i = c.loop-sessions.invariant few h g in
    let peer : c.in-Some.peer ≡ east =
    subst (λ (o : Option (List ℕ)). IfSome o (λ w. w ≡ east)) c.in-Some.is c.in_ok-peer.ensures.exact in
    let met =
    c.in_ok-is_closed.ensures c.args.before c.args.count c.loop-sessions._sessions drill peer i.first_works
    i.second_works i.between in
    subst (λ (m : ℕ). HasWorked c.args.before c.args.count m c.settle.new.spool c.settle-in-loop-sessions.new.spool)
    (sym c.made.ensures)
    (subst (λ (b : Bool). HasLedTo c.args.before c.args.count c.loop-sessions._sessions b c.settle.new.spool
    c.settle-in-loop-sessions.new.spool c.session.new.breaks) c.if-is_closed.true
    (has_led c.args.before c.args.count c.loop-sessions._sessions c.loop-sessions.first c.loop-sessions.second
    c.loop-sessions.breaks drill i.between _ c.session.new.first c.session.new.second c.settle.new.spool
    c.settle-in-loop-sessions.new.spool c.session.new.breaks met (c.in_ok-settle.ensures met.first_works)
    (c.in_ok-settle-2.ensures met.second_works)))

pub returns : goal.returns
returns c = λ few h g.
    absurd (never_so_many c.args.before c.args.count c.loop-sessions._sessions c.loop-sessions.first
    c.loop-sessions.second c.loop-sessions.breaks (c.loop-sessions.invariant few h g) (omega arith))
