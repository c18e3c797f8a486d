-- A session that stays within what is known of it.
use Rattle.std.proofs.Common.{Bool, subst}
use Rattle.mta_histories.specs.Lanes.{State as SpoolState}
use Rattle.mta_session.specs.Fits.{Answers}
use Rattle.mta_session.specs.declared.ask.Reply.{Reply}
use Rattle.mta_session.specs.declared.event.Action.{Action}
use Rattle.mta_session.specs.declared.event.Event.TheVariants as event
use Rattle.mta_drill_stage_laws.specs.Settings.{IsSized, Setting}
use Rattle.mta_drill_stage_laws.specs.Stages.{Stage}
use Rattle.mta_drill_stage_laws.specs.World.{CallerActs, Goes, IsHeard, IsHeardOf, ListenerActs}
use Rattle.mta_drill_stage_laws.specs.World.{ListenerGoes, ListenerRests, Party, World}
use Rattle.mta_drill_stage_laws.specs.World as world
use Rattle.mta_drill_stage_laws.proofs.Ended.{caller_stays, listener_stays, sessions_end}
use Rattle.mta_drill_stage_laws.proofs.Told.{questions_are_answered}
use Rattle.mta_drill.specs.Acts.{IsGivenUp}
use Rattle.mta_drill.specs.Laws.{NoneIsGivenUp, RestsAreEnds}
use Rattle.mta_drill.specs.Runs.{Caller, GaveUp, Listener, Listener_first, RanTo}

-- each act leaves it so, and each question is answered by what its session waits for
pub record Stays (P : World → Type 0) : Type 0 where
  pub listens : (w v : World) → P w → ListenerActs w v → P v
  pub calls : (w v : World) → P w → ListenerRests w → CallerActs w v → P v
  pub heard : (w : World) → P w → IsHeard w.calling × IsHeard w.listening

heard-not : (p : Party) (is_closed : Bool) → IsHeard p → IsGivenUp p is_closed → ⊥
heard-not p is_closed heard up =
    let told : (x : Reply) (new : SpoolState) → world.Replied up.question p.session p.spool x new
    → Answers p.session (event.Reply x) =
    subst (λ (a : Action). IsHeardOf a p) up.asks heard in
    up.unheard (told up.answer up.left up.replied)

module _ (P : World → Type 0) (stays : Stays P) where
  listener_goes : (w v : World) → P w → ListenerGoes w v → P v
  listener_goes w v h world.ListenerGoes.Not_yet = h
  listener_goes w v h (world.ListenerGoes.One_more u v_ goes acts) =
      stays.listens u v (listener_goes w u h goes) acts

  both_go : (w v : World) → P w → ListenerRests w → Goes w v → P v × ListenerRests v
  both_go w v h rests world.Goes.Not_yet = (h, rests)
  both_go w v h rests (world.Goes.One_more u v_ goes round) =
      let before = both_go w u h rests goes in (
        listener_goes round.between v (stays.calls u round.between before.0 before.1 round.called) round.listens,
        round.rests,
      )

  pub ran_so : (w v : World) → P w → RanTo w v → P v × ListenerRests v
  ran_so w v h ran = both_go ran.start v (listener_goes w ran.start h ran.first) ran.rested ran.went

  pub none_given_up : (w : World) → P w → GaveUp w → ⊥
  none_given_up w h (Listener_first u is_closed goes up) =
      heard-not u.listening is_closed (stays.heard u (listener_goes w u h goes)).1 up
  none_given_up w h (Caller u is_closed ran up) =
      heard-not u.calling is_closed (stays.heard u (ran_so w u h ran).0).0 up
  none_given_up w h (Listener u v x is_closed ran acts goes up) =
      let before = ran_so w u h ran in
      heard-not x.listening is_closed
      (stays.heard x (listener_goes v x (stays.calls u v before.0 before.1 acts) goes)).1 up

stage_stays : (x : Setting) → IsSized x → Stays (Stage x)
stage_stays x sized = record {
  listens = λ w v h acts. listener_stays x w v sized h acts;
  calls = λ w v h rests acts. caller_stays x w v sized h rests acts;
  heard = λ w h. questions_are_answered x w sized h;
}

pub none_is_given_up : NoneIsGivenUp
none_is_given_up x w sized h up = none_given_up (Stage x) (stage_stays x sized) w h up

pub rests_are_ends : RestsAreEnds
rests_are_ends x w now sized h ran calls listens =
    sessions_end x now (ran_so (Stage x) (stage_stays x sized) w now h ran).0 listens calls
