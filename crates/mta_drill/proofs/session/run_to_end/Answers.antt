use Rattle.std.proofs.Common.{◌≡◌, ◌↔◌, true, refl, rules, inl, inr}
use Rattle.mta_drill.specs.declared.side.Rest.TheVariants as rest
use Rattle.mta_drill.specs.declared.side.Side.{Side}
use Rattle.mta_drill.proofs.Ending.{run_out}
use Rattle.mta_drill.proofs.session.run_to_end.Goals as goal

pub returns : goal.returns
returns c = λ w calling listening.
    let x : Side = record { session = c.run.new.caller.session; came = c.break_off.new.self } in
    let y : Side = record { session = c.run.new.listener.session; came = c.break_off-2.new.self } in
    let z : Side = record { session = c.run.new.listener.session; came = c.go_on.new.other } in
    let r = c.in_ok-calling.field-0 in
    let told : (c.eq.result ≡ true) ↔ (r.calling ≡ rest.Over true) = (λ yes. search rules, λ is. search rules) in
    elim (c.in_ok-calling.ensures.ran w calling listening) [
      | inr up ↦ inr up
      | inl h ↦ inl (run_out w r c.run.new.caller x c.go_on.new.self c.run.new.listener y z c.go_on-2.new.self
          c.run.new.first c.go_on.new.spool c.run.new.second c.go_on-2.new.spool c.run.new.breaks c.go_on.new.breaks
          c.go_on-2.new.breaks c.go_on-2.new.other.feed h c.break_off.ensures.broken refl c.break_off.ensures.feed
          c.break_off-2.ensures.broken refl c.break_off-2.ensures.feed c.in_ok-go_on.field-0 c.in_ok-go_on-2.field-0
          c.in_ok-go_on.ensures.came c.in_ok-go_on.ensures.alike refl c.in_ok-go_on-2.ensures.came c.eq.result told)
    ]
