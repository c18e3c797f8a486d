-- The acts of a session, from its opening to its end.
use Rattle.std.proofs.Common.{[], sym, subst}
use Rattle.mta_drill_stage_laws.specs.Opening.{Agrees, Begins, Has_opened, Opening, Opens, accept}
use Rattle.mta_drill_stage_laws.specs.Recovering.{Recovering, accept_again, again}
use Rattle.mta_drill_stage_laws.specs.Recovering as recovering
use Rattle.mta_drill_stage_laws.specs.Sessions.{InSession, Is_again, Is_new, SessionsCall, SessionsHear}
use Rattle.mta_drill_stage_laws.specs.Sessions.{SessionsListen, SessionsRest}
use Rattle.mta_drill_stage_laws.specs.Settings.{IsSized, Setting}
use Rattle.mta_drill_stage_laws.specs.Stages.{HasEnded}
use Rattle.mta_drill_stage_laws.specs.World.{CallerRests, Goes, ListenerGoes, ListenerRests, World}
use Rattle.mta_drill_stage_laws.specs.World as world
use Rattle.mta_drill_stage_laws.proofs.Ended.{busy_asks, busy_puts, busy_reads, sessions_end}
use Rattle.mta_drill_stage_laws.proofs.Opening.{open_rests, openings_call, openings_listen}
use Rattle.mta_drill_stage_laws.proofs.OpeningTold.{openings_heard, recoveries_heard}
use Rattle.mta_drill_stage_laws.proofs.Recovering.{recoveries_call, recoveries_listen, reopen_rests}

pub sessions_listen : SessionsListen
sessions_listen y w v sized (Is_new new h) acts = Is_new new (openings_listen y w v sized new h acts)
sessions_listen y w v sized (Is_again x e h) acts =
    Is_again x e (recoveries_listen x w v (subst IsSized e sized) h acts)

pub sessions_call : SessionsCall
sessions_call y w v sized (Is_new new h) rest acts = Is_new new (openings_call y w v sized new h rest acts)
sessions_call y w v sized (Is_again x e h) rest acts =
    Is_again x e (recoveries_call x w v (subst IsSized e sized) h rest acts)

pub sessions_go : (y : Setting) (w v : World) → IsSized y → InSession y w → ListenerGoes w v → InSession y v
sessions_go y w v sized h world.ListenerGoes.Not_yet = h
sessions_go y w v sized h (world.ListenerGoes.One_more u v_ goes acts) =
    sessions_listen y u v sized (sessions_go y w u sized h goes) acts

pub sessions_turn : (y : Setting) (w v : World) → IsSized y → InSession y w → ListenerRests w → Goes w v
    → InSession y v × ListenerRests v
sessions_turn y w v sized h rest world.Goes.Not_yet = (h, rest)
sessions_turn y w v sized h rest (world.Goes.One_more u v_ goes round) =
    let before = sessions_turn y w u sized h rest goes in (
      sessions_go y round.between v sized (sessions_call y u round.between sized before.0 before.1 round.called)
          round.listens,
      round.rests,
    )

openings_end : (y : Setting) (w : World) → Opening y w → ListenerRests w → CallerRests w → HasEnded y w
openings_end y w (Opens h l) still rest = absurd (busy_puts w _ h.wants_is rest)
openings_end y w (Has_opened h at) still rest =
    let has = open_rests y w at still in
    absurd (busy_reads w accept [] h.wants_is has.2.whole_link has.2.up_is rest)
openings_end y w (Agrees h f free second) still rest = absurd (busy_asks w _ h.wants_is rest)
openings_end y w (Begins h) still rest = sessions_end y w h still rest

recoveries_end : (x : Setting) (w : World) → Recovering x w → ListenerRests w → CallerRests w → HasEnded (again x) w
recoveries_end x w (recovering.Opens done u h l) still rest = absurd (busy_puts w _ h.wants_is rest)
recoveries_end x w (recovering.Has_opened done u h at) still rest =
    let has = reopen_rests x w done u at still in
    absurd (busy_reads w (accept_again x) [] h.wants_is has.2.whole_link has.2.up_is rest)
recoveries_end x w (recovering.Begins h) still rest = sessions_end (again x) w h still rest

pub sessions_rest : SessionsRest
sessions_rest y w (Is_new new h) still rest = openings_end y w h still rest
sessions_rest y w (Is_again x e h) still rest =
    subst (λ z. HasEnded z w) (sym e) (recoveries_end x w h still rest)

pub sessions_hear : SessionsHear
sessions_hear y w sized (Is_new new h) = openings_heard y w sized h
sessions_hear y w sized (Is_again x e h) = recoveries_heard x w (subst IsSized e sized) h
