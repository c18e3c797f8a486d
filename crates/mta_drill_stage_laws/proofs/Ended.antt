-- Where both sides rest a session has ended.
use Rattle.std.proofs.Common.{◌≡◌, ◌⊎◌, inl, inr, ◌<◌, ◌≤◌, ℕ, zero, suc, ◌+◌, Bool, true, false, List, [], ◌∷◌, ◌++◌}
use Rattle.std.proofs.Common.{refl, ◌∙◌, ap, subst, arith}
use Rattle.std.proofs.lemmas.Bool.{cases_lt}
use Rattle.mta_units.specs.declared.unit.Unit.{Unit as AnyUnit}
use Rattle.mta_units.specs.declared.unit.Unit.TheVariants as unit
use Rattle.mta_lane_send.specs.declared.state.SendState.TheVariants as state
use Rattle.mta_transfer_rules.specs.Pieces.{piece_of}
use Rattle.mta_transfer_rules.specs.Sending as s
use Rattle.mta_session.specs.declared.ask.Ask.{Ask}
use Rattle.mta_session.specs.declared.ask.Ask.TheVariants as ask
use Rattle.mta_session.specs.declared.event.Action.{Action}
use Rattle.mta_session.specs.declared.event.Action.TheVariants as action
use Rattle.mta_session.specs.declared.event.SessionEnd.{SessionEnd}
use Rattle.mta_session.specs.declared.event.SessionEnd.TheVariants as end
use Rattle.mta_session.specs.declared.phase.Phase.TheVariants as phase
use Rattle.mta_session.specs.declared.phase.OwnStep.TheVariants as own
use Rattle.mta_session.specs.State.{State}
use Rattle.mta_drill_laws.specs.Tables.{east}
use Rattle.mta_drill_stage_laws.specs.Laws.{CallersStay, ListenersStay, SessionsEnd}
use Rattle.mta_drill_stage_laws.specs.Settings.{IsSized, Setting, acks, caller, half_at, octets_behind}
use Rattle.mta_drill_stage_laws.specs.Settings.{under_way}
use Rattle.mta_drill_stage_laws.specs.Stages.{First, HasEnded, IsCutOff, Is_over, Stage, Was_broken, Was_closed}
use Rattle.mta_drill_stage_laws.specs.Stages.{Was_given_back, While_putting, While_reading}
use Rattle.mta_drill_stage_laws.specs.Stages as stage
use Rattle.mta_drill_stage_laws.specs.World.{CallerRests, Goes, ListenerGoes, ListenerRests, RestsAs}
use Rattle.mta_drill_stage_laws.specs.World as world
use Rattle.mta_drill_stage_laws.specs.World.{World}
use Rattle.mta_drill_stage_laws.proofs.CallerGoes.{caller_goes_on, end_rests, next_rests}
use Rattle.mta_drill_stage_laws.proofs.Ending.{aborted_so, close_rests, discard_due, resume_due, resumed_so}
use Rattle.mta_drill_stage_laws.proofs.ListenerGoes.{listener_goes_on}
use Rattle.mta_drill_stage_laws.proofs.Speaking.{acks-first, action_is, end_due, piece_due, window_full}

-- ---- acts one behind the other

pub listener_stays : ListenersStay
listener_stays x w v sized h acts = listener_goes_on x w v sized h acts

pub caller_stays : CallersStay
caller_stays x w v sized h rest acts = caller_goes_on x w v sized h rest acts

pub listener_goes : (x : Setting) (w v : World) → IsSized x → Stage x w → ListenerGoes w v → Stage x v
listener_goes x w v sized h world.ListenerGoes.Not_yet = h
listener_goes x w v sized h (world.ListenerGoes.One_more u v_ goes acts) =
    listener_goes_on x u v sized (listener_goes x w u sized h goes) acts

pub rounds_stay : (x : Setting) (w v : World) → IsSized x → Stage x w → ListenerRests w → Goes w v
    → Stage x v × ListenerRests v
rounds_stay x w v sized h rest world.Goes.Not_yet = (h, rest)
rounds_stay x w v sized h rest (world.Goes.One_more u v_ goes round) =
    let before = rounds_stay x w u sized h rest goes in (
      listener_goes x round.between v sized (caller_goes_on x u round.between sized before.0 before.1 round.called)
          round.listens,
      round.rests,
    )

-- ---- no one waits

pub busy_puts : (w : World) (y : AnyUnit) → w.calling.wants ≡ action.Put y → CallerRests w → ⊥
busy_puts w y e h = subst (λ a. RestsAs a w.link.is_broken w.calling.came) e h

pub busy_asks : (w : World) (q : Ask) → w.calling.wants ≡ action.Ask q → CallerRests w → ⊥
busy_asks w q e h = subst (λ a. RestsAs a w.link.is_broken w.calling.came) e h

pub busy_reads : (w : World) (y : AnyUnit) (us : List AnyUnit) → w.calling.wants ≡ action.Read
    → w.link.is_broken ≡ false → w.calling.came ≡ y ∷ us → CallerRests w → ⊥
busy_reads w y us e b c h =
    subst (λ z. RestsAs action.Read false z) c
    (subst (λ z. RestsAs action.Read z w.calling.came) b
    (subst (λ a. RestsAs a w.link.is_broken w.calling.came) e h))

cut_reads : (w : World) → w.calling.wants ≡ action.Read → w.link.is_broken ≡ true → CallerRests w → ⊥
cut_reads w e b h =
    subst (λ z. RestsAs action.Read z w.calling.came) b
    (subst (λ a. RestsAs a w.link.is_broken w.calling.came) e h)

-- it says that it puts or asks
says_puts : (w : World) (y : AnyUnit) (t : State)
    → ◌≡◌ {A = Action × State} (w.calling.wants, w.calling.session) (action.Put y, t) → CallerRests w → ⊥
says_puts w y t e h = busy_puts w y (action_is (w.calling.wants, w.calling.session) (action.Put y, t) e) h

says_asks : (w : World) (q : Ask) (t : State)
    → ◌≡◌ {A = Action × State} (w.calling.wants, w.calling.session) (action.Ask q, t) → CallerRests w → ⊥
says_asks w q t e h = busy_asks w q (action_is (w.calling.wants, w.calling.session) (action.Ask q, t) e) h

says_reads : (w : World) (y : AnyUnit) (us : List AnyUnit) (t : State)
    → ◌≡◌ {A = Action × State} (w.calling.wants, w.calling.session) (action.Read, t)
    → w.link.is_broken ≡ false → w.calling.came ≡ y ∷ us → CallerRests w → ⊥
says_reads w y us t e b c h =
    busy_reads w y us (action_is (w.calling.wants, w.calling.session) (action.Read, t) e) b c h

last_rests : (x : Setting) (w : World) (done c n : ℕ) (ending : Bool)
    → First x w done c ending (s.Last_put (done + 1) n) → CallerRests w → ⊥
last_rests x w done c n true first rest =
    let o = octets_behind x done in
    says_puts w (unit.End (done + 1)) (caller x first.left phase.Puts
    (half_at (state.Ending (done + 1) c) o (s.End_put (done + 1) n)))
    (first.speaks.says ∙ end_due x first.left (done + 1) c n o) rest
last_rests x w done c n false first rest =
    says_asks w (ask.Ending 1 x.generation (done + 1)) (caller x first.left (phase.AsksStep own.Ending)
    (half_at (state.Sending (done + 1) c) (octets_behind x done) (s.Last_put (done + 1) n))) first.speaks.says rest

opened_rests : (x : Setting) (w : World) (done c : ℕ) (whole : Bool) → (c ≡ 0 → whole ≡ true)
    → First x w done c whole s.Opened → CallerRests w → ⊥
opened_rests x w done zero true all first rest =
    let o = octets_behind x done in
    says_puts w (unit.Discard (done + 1)) (caller x first.left phase.Puts
    (half_at (state.Ending (done + 1) 0) o (s.Discard_put (done + 1))))
    (first.speaks.says ∙ discard_due x first.left (done + 1) o) rest
opened_rests x w done zero false all first rest = (let e : false ≡ true = all refl in absurd cc)
opened_rests x w done (suc c) whole all first rest =
    let o = octets_behind x done in
    says_puts w (unit.Resume (done + 1) (suc c)) (caller x first.left phase.Puts
    (half_at (under_way whole (done + 1) (suc c)) o (s.Resume_put (done + 1) (suc c))))
    (first.speaks.says ∙ resume_due x first.left (done + 1) (suc c) whole o (omega arith)) rest

end_came : (w : World) (c j k : ℕ) (t : State)
    → ◌≡◌ {A = Action × State} (w.calling.wants, w.calling.session) (action.Read, t)
    → w.link.is_broken ≡ false → w.calling.came ≡ acks c j ++ unit.EndAck k ∷ [] → CallerRests w → ⊥
end_came w c zero k t e b came rest = says_reads w (unit.EndAck k) [] t e b came rest
end_came w c (suc j) k t e b came rest =
    says_reads w (unit.SyncAck (c + 1)) (acks (c + 1) j ++ unit.EndAck k ∷ []) t e b came rest

-- over a broken link no one waits
caller_is_over : (w : World) → w.link.is_broken ≡ true → IsCutOff w.calling → CallerRests w
    → w.calling.wants ≡ action.Finish end.Broken
caller_is_over w broken (While_putting y e at) rest = absurd (busy_puts w y e rest)
caller_is_over w broken (While_reading e at) rest = absurd (cut_reads w e broken rest)
caller_is_over w broken (Is_over e) rest = e

listener_is_over : (w : World) → w.link.is_broken ≡ true → IsCutOff w.listening → ListenerRests w
    → w.listening.wants ≡ action.Finish end.Broken
listener_is_over w broken (While_putting y e at) rest =
    absurd (subst (λ a. RestsAs a w.link.is_broken w.listening.came) e rest)
listener_is_over w broken (While_reading e at) rest =
    absurd (subst (λ z. RestsAs action.Read z w.listening.came) broken
    (subst (λ a. RestsAs a w.link.is_broken w.listening.came) e rest))
listener_is_over w broken (Is_over e) rest = e

pub sessions_end : SessionsEnd
sessions_end x w (stage.Looks done left f quiet h) still rest =
    absurd (says_asks w (ask.BatchFor east) (caller x left phase.AsksBatch (half_at (state.Idle done) [] s.Quiet))
    h.says
    rest)
sessions_end x w (stage.Starts done left f batch quiet below is ei er h) still rest =
    absurd (busy_asks w _ h.wants_is rest)
sessions_end x w (stage.Begun done f first free h) still rest =
    absurd (says_puts w (unit.Start (done + 1)) (caller x first.left phase.Puts
    (half_at (state.Sending (done + 1) 0) (octets_behind x done) (s.Next (done + 1) 0))) first.speaks.says rest)
sessions_end x w (stage.Next done c whole n le most more first at) still rest = absurd (by (cases_lt n (c + 2)))
  where
    by : (n < c + 2) ⊎ (c + 2 ≤ n) → ⊥
    by (inl less) =
        let o = octets_behind x done in
        says_puts w (unit.Piece (piece_of 1024 o (n + 1))) (caller x first.left phase.Puts
        (half_at (under_way whole (done + 1) c) o (s.stage_at_piece 1024 o (s.Next (done + 1) n))))
        (first.speaks.says ∙ piece_due x first.left (done + 1) c n whole o less) rest
    by (inr full) =
        let o = octets_behind x done in
        let h = next_rests x w done c whole n at still in
        let is_full : n ≡ c + 2 = omega (arith, full, most) in
        let two : h.j ≡ 1 + 1 = omega (arith, h.sum, is_full) in
        says_reads w (unit.SyncAck (c + 1)) (acks (c + 1) 1) (caller x first.left phase.Reads
        (half_at (under_way whole (done + 1) c) o (s.Next (done + 1) n)))
        (first.speaks.says ∙ window_full x first.left (done + 1) c n whole o is_full) h.second.whole_link
        (h.second.up_is ∙ ap (acks c) two ∙ acks-first c 1) rest
sessions_end x w (stage.Sync_due done c whole n le most more first at) still rest =
    absurd (says_puts w (unit.Sync (n + 1)) (caller x first.left phase.Puts
    (half_at (under_way whole (done + 1) c) (octets_behind x done) (s.Next (done + 1) (n + 1)))) first.speaks.says rest)
sessions_end x w (stage.At_last done c whole ending n all le more l_is first at) still rest =
    absurd (last_rests x w done c (n + 1) ending first rest)
sessions_end x w (stage.End done c n le more l_is first at) still rest =
    let h = end_rests x w done c n at still in
    absurd (end_came w c h.j (done + 1) (caller x first.left phase.Reads
    (half_at (state.Ending (done + 1) c) (octets_behind x done) (s.End_put (done + 1) (n + 1)))) first.speaks.says
    h.second.whole_link h.second.up_is rest)
sessions_end x w (stage.Confirms_next done c whole n j f lt most sum more first b h) still rest =
    absurd (busy_asks w _ first.calls.wants_is rest)
sessions_end x w (stage.Confirms_end done c n j f lt sum more l_is first free h) still rest =
    absurd (busy_asks w _ first.calls.wants_is rest)
sessions_end x w (stage.Sends done c n f some le few first free h) still rest =
    absurd (busy_asks w _ first.calls.wants_is rest)
sessions_end x w (stage.Cut done c ending halted broken marks later a b) still rest =
    Was_broken done c ending (caller_is_over w broken a rest) (listener_is_over w broken b still) halted marks later
sessions_end x w (stage.Closes left f quiet h) still rest = absurd (busy_puts w _ h.wants_is rest)
sessions_end x w (stage.Closing left more h at) still rest =
    let has = close_rests x w at still in
    absurd (busy_reads w unit.CloseAck [] h.wants_is has.whole_link has.up_is rest)
sessions_end x w (stage.Closes_first left h has) still rest = absurd (busy_asks w _ h.wants_is rest)
sessions_end x w (stage.Closed e h has) still rest = Was_closed e has.listens.wants_is h has.holds has.marks
sessions_end x w (stage.Reopened done c whole f all more first room free h broken) still rest =
    absurd (opened_rests x w done c whole all first rest)
sessions_end x w (stage.Resuming done c whole some more first room at) still rest =
    let h = resumed_so x w done c whole at still in
    absurd (says_reads w (unit.ResumeAck (done + 1) c) [] (caller x first.left phase.Reads
    (half_at (under_way whole (done + 1) c) (octets_behind x done) (s.Resume_put (done + 1) c))) first.speaks.says
    h.2.whole_link h.2.up_is rest)
sessions_end x w (stage.Discarding done first broken at) still rest =
    let h = aborted_so x w done at still in
    absurd (says_reads w (unit.Abort 7) [] (caller x first.left phase.Reads
    (half_at (state.Ending (done + 1) 0) (octets_behind x done) (s.Discard_put (done + 1)))) first.speaks.says
    h.1.whole_link h.1.up_is rest)
sessions_end x w (stage.Sends_last done f left transfer below is calls broken h) still rest =
    absurd (busy_asks w _ calls.wants_is rest)
sessions_end x w (stage.Given_back done f within since e first h) still rest =
    Was_given_back done h.got f.high f.last h.pieces within since e h.listens.wants_is first h.holds h.stands h.marks

-- ---- both are over

pub both_over : (x : Setting) (w : World) → HasEnded x w
    → ((e : SessionEnd) × (w.calling.wants ≡ action.Finish e))
    × ((f : SessionEnd) × (w.listening.wants ≡ action.Finish f))
both_over x w (Was_closed e f one other marks) = ((end.Closed, e), (end.Closed, f))
both_over x w (Was_broken done c ending e f halted marks later) = ((end.Broken, e), (end.Broken, f))
both_over x w (Was_given_back done got high l pieces within since e f one other stands marks) =
    ((end.PeerAborted 7, e), (end.Aborted 7, f))
