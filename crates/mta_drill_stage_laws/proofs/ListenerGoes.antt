-- Each act of the second agent leads from a stage to a stage.
use Rattle.std.proofs.Common.{◌≡◌, inl, inr, ◌<◌, ◌≤◌, ℕ, ◌+◌, ◌*◌, Bool, true, List, [], ◌∷◌, ◌++◌}
use Rattle.std.proofs.Common.{Option, Some, None, refl, sym, ◌∙◌, ap, subst, arith}
use Rattle.mta_units.specs.declared.unit.Unit.{Unit as AnyUnit}
use Rattle.mta_units.specs.declared.unit.Unit.TheVariants as unit
use Rattle.mta_lane_recv.specs.declared.state.Last.{Last}
use Rattle.mta_lane_recv.specs.declared.state.Last.TheVariants as last
use Rattle.mta_transfer_rules.specs.Pieces.{is_last}
use Rattle.mta_lane_send.specs.declared.state.SendState.{SendState}
use Rattle.mta_lane_send.specs.declared.state.SendState.TheVariants as state
use Rattle.mta_transfer_rules.specs.Sending as s
use Rattle.mta_transfer_rules.specs.Sending.{SendStage}
use Rattle.mta_transfer_rules.specs.Receiving as r
use Rattle.mta_transfer_rules.specs.Receiving.{RecvEnd}
use Rattle.mta_histories.specs.Lanes.{Transfer}
use Rattle.mta_histories.specs.Lanes.{State as SpoolState}
use Rattle.mta_session.specs.declared.event.SessionEnd.TheVariants as end
use Rattle.mta_session.specs.declared.event.Action.{Action}
use Rattle.mta_session.specs.declared.event.Action.TheVariants as action
use Rattle.mta_session.specs.declared.phase.Phase.{Phase}
use Rattle.mta_session.specs.declared.phase.Phase.TheVariants as phase
use Rattle.mta_session.specs.State.{State}
use Rattle.mta_drill_stage_laws.specs.Breaks.{Breaks}
use Rattle.mta_drill_stage_laws.specs.Settings.{FirstHolds, HasMore, IsSized, Marks, Setting, Stands, WasBroken}
use Rattle.mta_drill_stage_laws.specs.Settings.{Calls, acks, octets_behind, under_way}
use Rattle.mta_drill_stage_laws.specs.Stages.{Acknowledges, Answers, AtEnd, AtHeld, AtNext, Completes, End_came, Ended}
use Rattle.mta_drill_stage_laws.specs.Stages.{First, Halted, Holds, IsCutOff, Is_over, Piece_came, Rests, Second}
use Rattle.mta_drill_stage_laws.specs.Stages.{Secures, Stage, Start_came, Sync_came, While_putting, While_reading}
use Rattle.mta_drill_stage_laws.specs.Stages as stage
use Rattle.mta_drill_stage_laws.specs.World.{Link, ListenerActs, Party, World, came_to}
use Rattle.mta_drill_stage_laws.proofs.Acts.{waits_still}
use Rattle.mta_drill_stage_laws.proofs.Asking.{cut_goes}
use Rattle.mta_drill_stage_laws.proofs.Breaking.{Taken}
use Rattle.mta_drill_stage_laws.proofs.Completing.{HasCompleted, answered, completed, end_came, secured}
use Rattle.mta_drill_stage_laws.proofs.Ending.{close_goes, discard_goes, discard_link, over_listens, resume_goes}
use Rattle.mta_drill_stage_laws.proofs.Hearing.{acknowledged, first_kept, piece_came, start_came, sync_came, up_same}

-- where it waits it does nothing
waits : (x : Setting) (w v : World) (done read : ℕ) (Has : ℕ → ℕ → Last → List (List ℕ) → Type 0)
    (Bears : Breaks → Type 0) (f : RecvEnd) (up : List AnyUnit)
    → Second x w done Has Bears read action.Read phase.Reads f [] up → ListenerActs w v → ⊥
waits x w v done read Has Bears f up h acts = waits_still w.listening v.listening w.link v.link acts.did
    h.listens.wants_is h.whole_link h.listens.came_is acts.acts

less_more : (o : List ℕ) (m n : ℕ) → n ≡ m + 1 → HasMore o n → HasMore o m
less_more o m n e more = omega (arith, e, more)

-- ---- behind Start and each Sync

next_goes : (x : Setting) (w v : World) (done c : ℕ) (whole : Bool) (n : ℕ) → IsSized x → done < x.count
    → HasMore (octets_behind x done) n → AtNext x w done c whole n → ListenerActs w v → AtNext x v done c whole n
next_goes x w v done c whole n sized below more (Start_came f en ec ew free h) acts =
    subst (λ (z : ℕ). AtNext x v done c whole z) (sym en)
    (subst (λ (z : ℕ). AtNext x v done z whole 0) (sym ec)
    (subst (λ z. AtNext x v done 0 z 0) (sym ew) (start_came x w v done f below free h acts)))
next_goes x w v done c whole n sized below more (Sync_came m j f en sum held h) acts =
    subst (λ (z : ℕ). AtNext x v done c whole z) (sym en)
    (sync_came x w v done c m whole j f below sum (less_more (octets_behind x done) m n en more) held h acts)
next_goes x w v done c whole n sized below more (Secures m j f en sum ew free acked from h) acts =
    let small : x.count ≤ 1000 = sized.few in
    subst (λ (z : ℕ). AtNext x v done c whole z) (sym en)
    (subst (λ z. AtNext x v done c z (m + 1)) (sym ew)
    (secured x w v done c m j f (omega (arith, below, small)) sum (less_more (octets_behind x done) m n en more) free
    acked from h acts))
next_goes x w v done c whole n sized below more (Acknowledges m j f en sum b h) acts =
    subst (λ (z : ℕ). AtNext x v done c whole z) (sym en) (acknowledged x w v done c m whole j f sum b h acts)
next_goes x w v done c whole n sized below more (Rests j f sum b h) acts =
    absurd (waits x w v done (2 * n + 1) (Stands whole done (octets_behind x done) n) (Marks x done c whole) f
    (acks c j)
    h acts)

-- ---- behind each piece

held_goes : (x : Setting) (w v : World) (done c : ℕ) (whole : Bool) (n : ℕ) → done < x.count
    → HasMore (octets_behind x done) n → AtHeld x w done c whole n → ListenerActs w v → AtHeld x v done c whole n
held_goes x w v done c whole n below more (Piece_came j f sum b h) acts =
    piece_came x w v done c n whole j f below sum more b h acts
held_goes x w v done c whole n below more (Holds j f sum held h) acts =
    absurd (waits x w v done (2 * n + 2) (Stands whole done (octets_behind x done) n) (Marks x done c whole) f
    (acks c j)
    h acts)

-- ---- behind End

completed_cut : (x : Setting) (w v : World) (done c n right : ℕ) (f : RecvEnd) → HasMore (octets_behind x done) c
    → First x w done c true (s.End_put (done + 1) (n + 1)) → ListenerActs w v → HasCompleted x w v done c right f
    → (v.link.is_broken ≡ true) × WasBroken x done v.link.breaks × (x.broken < v.link.breaks.made) → Stage x v
completed_cut x w v done c n right f more h acts has broken =
    let now = ap (λ (q : Party). q.wants) acts.other
    ∙ ap (λ (z : Action × State). z.0) h.speaks.says in
    stage.Cut done c true (record {
      below = h.below;
      transfer = h.transfer;
      is = h.is;
      more = more;
      first_holds = subst (λ (q : Party). FirstHolds x q.spool done (under_way true (done + 1) c) (Some h.transfer))
          (sym acts.other) h.speaks.first;
      got = has.got;
      high = done + 1;
      last = last.Done (done + 1);
      pieces = [];
      second_holds = has.holds;
      stands = has.stands;
    }) broken.0 broken.1 broken.2
    (While_reading now (ap (λ (q : Party). q.session.phase) acts.other
    ∙ ap (λ (z : Action × State). z.1.phase) h.speaks.says))
    (While_putting (unit.EndAck (done + 1)) has.wants (ap (λ (t : State). t.phase) has.session))

end_goes : (x : Setting) (w v : World) (done c n : ℕ) → IsSized x → c ≤ n → HasMore (octets_behind x done) n
    → is_last 1024 (octets_behind x done) (n + 1) ≡ true → First x w done c true (s.End_put (done + 1) (n + 1))
    → AtEnd x w done c n → ListenerActs w v → Stage x v
end_goes x w v done c n sized le more l_is first (End_came whole j f sum held h) acts =
    stage.End done c n le more l_is
    (first_kept x w v done c true (s.End_put (done + 1) (n + 1)) acts.did acts.other first)
    (end_came x w v done c n whole j f first.below sum more held h acts)
end_goes x w v done c n sized le more l_is first (Completes j f sum ended h) acts =
    let has = completed x w v done c n j f (acks c j) sized first.below more l_is ended h acts in
    by has has.taken
  where
    by : HasCompleted x w v done c h.right (record f { high = done + 1; last = last.Done (done + 1); stage = r.Free })
        → Taken x done c true w.link v.link → Stage x v
    by has (inl broken) = completed_cut x w v done c n h.right
        (record f { high = done + 1; last = last.Done (done + 1); stage = r.Free }) (omega (arith, le, more)) first acts
        has broken
    by has (inr same) =
        stage.End done c n le more l_is
        (first_kept x w v done c true (s.End_put (done + 1) (n + 1)) acts.did acts.other first)
        (Answers j (record f { high = done + 1; last = last.Done (done + 1); stage = r.Free }) sum refl (record {
          right = h.right;
          listens = record { wants_is = has.wants; session_is = has.session; came_is = has.came_is };
          got = has.got;
          pieces = [];
          holds = has.holds;
          stands = has.stands;
          room = h.room;
          up_is = up_same w v (acks c j) has.other h.up_is;
          whole_link = ap (λ (l : Link). l.is_broken) same.0 ∙ h.whole_link;
          marks = same.1;
        }))
end_goes x w v done c n sized le more l_is first (Answers j f sum free h) acts =
    stage.End done c n le more l_is
    (first_kept x w v done c true (s.End_put (done + 1) (n + 1)) acts.did acts.other first)
    (answered x w v done c n j f sum free h acts)
end_goes x w v done c n sized le more l_is first (Ended j f sum free h) acts =
    absurd (waits x w v done (2 * n + 3) (Stands true done (octets_behind x done) n) (Marks x done c true) f
    (acks c j ++ unit.EndAck (done + 1) ∷ []) h acts)

-- ---- the link is broken

-- what came changes nothing of it
pub still_cut : (p q : Party) (us : List AnyUnit) → q ≡ came_to p us → IsCutOff p → IsCutOff q
still_cut p q us e (While_putting y a b) = subst IsCutOff (sym e) (While_putting y a b)
still_cut p q us e (While_reading a b) = subst IsCutOff (sym e) (While_reading a b)
still_cut p q us e (Is_over a) = subst IsCutOff (sym e) (Is_over a)

pub cut_listens : (x : Setting) (w v : World) (done c : ℕ) (ending : Bool)
    → Halted x w.calling.spool w.listening.spool done c ending → w.link.is_broken ≡ true
    → WasBroken x done w.link.breaks → x.broken < w.link.breaks.made → IsCutOff w.calling → IsCutOff w.listening
    → ListenerActs w v → Stage x v
cut_listens x w v done c ending halted broken marks later a b acts =
    let over = cut_goes w.listening v.listening w.link v.link acts.did b broken acts.acts in
    stage.Cut done c ending
    (subst (λ (z : SpoolState). Halted x v.calling.spool z done c ending) (sym over.1)
    (subst (λ (q : Party). Halted x q.spool w.listening.spool done c ending) (sym acts.other) halted))
    (ap (λ (l : Link). l.is_broken) over.3 ∙ broken)
    (subst (λ (l : Link). WasBroken x done l.breaks) (sym over.3) marks)
    (subst (λ (l : Link). x.broken < l.breaks.made) (sym over.3) later)
    (still_cut w.calling v.calling acts.did acts.other a) (Is_over over.0)

-- the first agent waits still
calls_kept : (x : Setting) (w v : World) (done left : ℕ) (st : SendState) (o : List ℕ) (z : SendStage)
    (t : Option Transfer) (wants : Action) (at : Phase) (did : List AnyUnit) → v.calling ≡ came_to w.calling did
    → Calls x w.calling done left st o z t wants at → Calls x v.calling done left st o z t wants at
calls_kept x w v done left st o z t wants at did e h =
    subst (λ q. Calls x q done left st o z t wants at) (sym e)
    (record { wants_is = h.wants_is; session_is = h.session_is; first = h.first })

-- ---- all stages

pub listener_goes_on : (x : Setting) (w v : World) → IsSized x → Stage x w → ListenerActs w v → Stage x v
listener_goes_on x w v sized (stage.Looks done left f quiet h) acts =
    absurd (waits x w v done 0 _ _ f [] quiet.second acts)
listener_goes_on x w v sized (stage.Starts done left f batch quiet below is ei er h) acts =
    absurd (waits x w v done 0 _ _ f [] quiet.second acts)
listener_goes_on x w v sized (stage.Begun done f first free h) acts = absurd (waits x w v done 0 _ _ f [] h acts)
listener_goes_on x w v sized (stage.Next done c whole n le most more first at) acts =
    stage.Next done c whole n le most more
    (first_kept x w v done c whole (s.Next (done + 1) n) acts.did acts.other first)
    (next_goes x w v done c whole n sized first.below more at acts)
listener_goes_on x w v sized (stage.Sync_due done c whole n le most more first at) acts =
    stage.Sync_due done c whole n le most more
    (first_kept x w v done c whole (s.Sync_next (done + 1) (n + 1)) acts.did acts.other first)
    (held_goes x w v done c whole n first.below (less_more (octets_behind x done) n (n + 1) refl more) at acts)
listener_goes_on x w v sized (stage.At_last done c whole ending n all le more l_is first at) acts =
    stage.At_last done c whole ending n all le more l_is
    (first_kept x w v done c ending (s.Last_put (done + 1) (n + 1)) acts.did acts.other first)
    (held_goes x w v done c whole n first.below more at acts)
listener_goes_on x w v sized (stage.End done c n le more l_is first at) acts =
    end_goes x w v done c n sized le more l_is first at acts
listener_goes_on x w v sized (stage.Confirms_next done c whole n j f lt most sum more first b h) acts =
    absurd (waits x w v done (2 * n + 1) _ _ f (acks (c + 1) j) h acts)
listener_goes_on x w v sized (stage.Confirms_end done c n j f lt sum more l_is first free h) acts =
    absurd (waits x w v done (2 * n + 3) _ _ f (acks (c + 1) j ++ unit.EndAck (done + 1) ∷ []) h acts)
listener_goes_on x w v sized (stage.Sends done c n f some le few first free h) acts =
    absurd (waits x w v done (2 * n + 3) _ _ f [] h acts)
listener_goes_on x w v sized (stage.Cut done c ending halted broken marks later a b) acts =
    cut_listens x w v done c ending halted broken marks later a b acts
listener_goes_on x w v sized (stage.Closes left f quiet h) acts =
    absurd (waits x w v x.count 0 _ _ f [] quiet.second acts)
listener_goes_on x w v sized (stage.Closing left more h at) acts =
    stage.Closing left more (calls_kept x w v x.count left (state.Idle x.count) [] s.Quiet None action.Read
    phase.ReadsCloseAck acts.did acts.other h) (close_goes x w v sized at acts)
listener_goes_on x w v sized (stage.Closes_first left h has) acts =
    absurd (over_listens w v end.Closed has.listens.wants_is acts)
listener_goes_on x w v sized (stage.Closed e h has) acts =
    absurd (over_listens w v end.Closed has.listens.wants_is acts)
listener_goes_on x w v sized (stage.Reopened done c whole f all more first room free h broken) acts =
    absurd (waits x w v done 0 _ _ f [] h acts)
listener_goes_on x w v sized (stage.Resuming done c whole some more first room at) acts =
    stage.Resuming done c whole some more
    (first_kept x w v done c whole (s.Resume_put (done + 1) c) acts.did acts.other first) room
    (resume_goes x w v done c whole some first.below at acts)
listener_goes_on x w v sized (stage.Discarding done first broken at) acts =
    stage.Discarding done (first_kept x w v done 0 true (s.Discard_put (done + 1)) acts.did acts.other first)
    (subst (λ (l : Link). WasBroken x done l.breaks) (sym (discard_link x w v done at acts)) broken)
    (discard_goes x w v done first.below at acts)
listener_goes_on x w v sized (stage.Sends_last done f left transfer below is calls broken h) acts =
    absurd (over_listens w v (end.Aborted 7) h.listens.wants_is acts)
listener_goes_on x w v sized (stage.Given_back done f within since e first h) acts =
    absurd (over_listens w v (end.Aborted 7) h.listens.wants_is acts)
