-- One call, and one turn, of a session that follows its lane.
use Rattle.std.proofs.Common.{◌≡◌, Bool, true, false, sym, subst}
use Rattle.mta_histories.specs.Lanes as spool
use Rattle.mta_session.specs.State.{State}
use Rattle.mta_session.specs.Follows.{Does, FollowsAt, counted}
use Rattle.mta_session.specs.Wanted.{wanted}
use Rattle.mta_session.specs.declared.event.Event.{Event}
use Rattle.mta_session.specs.declared.event.Action.{Action}
use Rattle.mta_session.specs.declared.phase.Phase.{Phase}
use Rattle.mta_session.specs.declared.phase.Phase.TheVariants as phase
use Rattle.mta_lane_match_laws.specs.Matches.{Known, known, follows_lane, Matches, MatchesBy}
use Rattle.mta_lane_match_laws.specs.Calls.{KnowsBy, learned_by, ActionsKnow, EventsKnow, CallsKnow, RepliesMatch}
use Rattle.mta_lane_match_laws.specs.Calls.{TurnsMatch}

follows_does : (f : Phase) (t : State) (e : Event) (a : Action) (new : State) → follows_lane f ≡ true
    → FollowsAt f t e a new → Does (counted t e) (wanted (counted t e) e) a new
follows_does (phase.Ended x) t e a new follows h = absurd cc
follows_does f t e a new follows h = h

pub calls_know : ActionsKnow → EventsKnow → CallsKnow
calls_know acts events p t e a new follows h =
    acts (learned_by p t e) (counted t e) (wanted (counted t e) e) a new (events p t e follows)
    (follows_does t.phase t e a new follows h)

known_matches : (b : Bool) (k : Known) (u : State) (after : spool.State) → KnowsBy b k u → Matches k after
    → MatchesBy b (known u k.pieces) after
known_matches true k u after same m = subst (λ (x : Known). Matches x after) (sym same) m
known_matches false k u after same m = tt

pub turns_match : CallsKnow → RepliesMatch → TurnsMatch
turns_match calls replies p t s e after a new follows fits m is h =
    let here : Matches (known t p.stand) s = subst (λ (b : Bool). MatchesBy b (known t p.stand) s) follows m in
    known_matches (follows_lane new.phase) (learned_by p t e) new after (calls p t e a new follows h)
    (replies p t s e after fits here is)
