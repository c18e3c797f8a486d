-- Each act of the first agent, while the second one waits, leads from a stage to a stage.
use Rattle.std.proofs.Common.{◌≡◌, inl, inr, ◌<◌, ◌≤◌, ℕ, zero, suc, ◌+◌, ◌-◌, ◌*◌, Bool, true, false, List, [], ◌∷◌}
use Rattle.std.proofs.Common.{◌++◌, Some, refl, sym, ◌∙◌, ap, subst, arith, if◌then◌else◌}
use Rattle.std.proofs.lemmas.Bool.{cases_lt}
use Rattle.mta_units.specs.declared.unit.Unit.{Unit as AnyUnit}
use Rattle.mta_units.specs.declared.unit.Unit.TheVariants as unit
use Rattle.mta_lane_send.specs.declared.state.SendState.TheVariants as state
use Rattle.mta_lane_recv.specs.declared.state.Last.{Last}
use Rattle.mta_transfer_rules.specs.Pieces.{is_last, piece_of}
use Rattle.mta_transfer_rules.specs.Sending as s
use Rattle.mta_transfer_rules.specs.Sending.{SendStage}
use Rattle.mta_transfer_rules.specs.Receiving as r
use Rattle.mta_transfer_rules.specs.Receiving.{RecvEnd}
use Rattle.mta_histories.specs.Lanes.{State as SpoolState}
use Rattle.mta_session.specs.declared.ask.Ask.TheVariants as ask
use Rattle.mta_session.specs.declared.event.Action.{Action}
use Rattle.mta_session.specs.declared.event.Action.TheVariants as action
use Rattle.mta_session.specs.declared.phase.Phase.TheVariants as phase
use Rattle.mta_session.specs.declared.phase.OwnStep.TheVariants as own
use Rattle.mta_session.specs.State.{State}
use Rattle.mta_session_next_laws.specs.Next.{next_of_sender}
use Rattle.mta_drill_stage_laws.specs.Settings.{FirstHolds, HasMore, HoldsPiece, IsBehind, IsSized, IsUntouched}
use Rattle.mta_drill_stage_laws.specs.Settings.{Listens, Marks, Of_none, Of_part, SecondHolds, Setting, Stands}
use Rattle.mta_drill_stage_laws.specs.Settings.{StandsNone, WasBroken, acks, caller, half_at}
use Rattle.mta_drill_stage_laws.specs.Settings.{octets_behind, under_way}
use Rattle.mta_drill_stage_laws.specs.Stages.{Acknowledges, Answers, AtEnd, AtHeld, AtNext, Completes, End_came, Ended}
use Rattle.mta_drill_stage_laws.specs.Stages.{First, FirstCalls, Halted, Holds, IsCutOff, Is_over, Piece_came}
use Rattle.mta_drill_stage_laws.specs.Stages.{Rests, Second, SecondOf, Secures, Stage, StandsHalted, Start_came}
use Rattle.mta_drill_stage_laws.specs.Stages.{Sync_came, While_putting, While_reading}
use Rattle.mta_drill_stage_laws.specs.Stages as stage
use Rattle.mta_session.specs.declared.event.SessionEnd.{SessionEnd}
use Rattle.mta_session.specs.declared.event.SessionEnd.TheVariants as end
use Rattle.mta_drill_stage_laws.specs.World.{ActsAs, CallerActs, Link, ListenerRests, Party, World, came_to}
use Rattle.mta_drill_stage_laws.proofs.Asking.{Confirmed, Stays, confirmed_goes, cut_goes, ends_so}
use Rattle.mta_drill_stage_laws.proofs.Asking.{looks_goes, second_stays, sent_goes, starts_goes}
use Rattle.mta_drill_stage_laws.proofs.Breaking.{Taken, sent_marks}
use Rattle.mta_drill_stage_laws.proofs.Ending.{close_asks, close_puts, close_reads, last_sent, none_behind}
use Rattle.mta_drill_stage_laws.proofs.Ending.{abort_reads, busy_asks, busy_puts, busy_reads, reopens, resume_reads}
use Rattle.mta_drill_stage_laws.proofs.ListenerGoes.{still_cut}
use Rattle.mta_drill_stage_laws.proofs.Pieces.{few-more, last-some, none-more, not-last-more}
use Rattle.mta_drill_stage_laws.proofs.Speaking.{ack_calls, acks-first, action_is, end_calls, end_due}
use Rattle.mta_drill_stage_laws.proofs.Speaking.{first_spoke, not_dropped, piece_due, put_goes, read_calls, second_gets}
use Rattle.mta_drill_stage_laws.proofs.Speaking.{stage_so, state_is, window_full}
use Rattle.mta_drill_stage_laws.proofs.Spools.{last_so}

-- ---- the second agent rests

pub record NextRests (x : Setting) (w : World) (done c : ℕ) (whole : Bool) (n : ℕ) : Type 0 where
  pub j : ℕ
  pub f : RecvEnd
  pub sum : c + j ≡ n
  pub behind : IsBehind f whole (done + 1) n (octets_behind x done)
  pub second : SecondOf x w done c whole n (2 * n + 1) action.Read phase.Reads f [] (acks c j)

pub next_rests : (x : Setting) (w : World) (done c : ℕ) (whole : Bool) (n : ℕ) → AtNext x w done c whole n
    → ListenerRests w → NextRests x w done c whole n
next_rests x w done c whole n (Start_came f en ec ew free h) rest = absurd (busy_reads w (unit.Start (done + 1)) []
    h.listens.wants_is h.whole_link h.listens.came_is rest)
next_rests x w done c whole n (Sync_came m j f en sum held h) rest = absurd (busy_reads w (unit.Sync (m + 1)) []
    h.listens.wants_is h.whole_link h.listens.came_is rest)
next_rests x w done c whole n (Secures m j f en sum ew free acked from h) rest =
    absurd (busy_asks w _ h.listens.wants_is rest)
next_rests x w done c whole n (Acknowledges m j f en sum b h) rest = absurd (busy_puts w _ h.listens.wants_is rest)
next_rests x w done c whole n (Rests j f sum b h) rest =
    record { j = j; f = f; sum = sum; behind = b; second = h }

pub record HeldRests (x : Setting) (w : World) (done c : ℕ) (whole : Bool) (n : ℕ) : Type 0 where
  pub j : ℕ
  pub f : RecvEnd
  pub sum : c + j ≡ n
  pub held : HoldsPiece f (done + 1) (n + 1) (octets_behind x done)
  pub second : SecondOf x w done c whole n (2 * n + 2) action.Read phase.Reads f [] (acks c j)

pub held_rests : (x : Setting) (w : World) (done c : ℕ) (whole : Bool) (n : ℕ) → AtHeld x w done c whole n
    → ListenerRests w → HeldRests x w done c whole n
held_rests x w done c whole n (Piece_came j f sum b h) rest =
    absurd (busy_reads w _ [] h.listens.wants_is h.whole_link h.listens.came_is rest)
held_rests x w done c whole n (Holds j f sum held h) rest =
    record { j = j; f = f; sum = sum; held = held; second = h }

pub record EndRests (x : Setting) (w : World) (done c n : ℕ) : Type 0 where
  pub j : ℕ
  pub f : RecvEnd
  pub sum : c + j ≡ n
  pub free : f.stage ≡ r.Free
  pub second : SecondOf x w done c true n (2 * n + 3) action.Read phase.Reads f []
      (acks c j ++ unit.EndAck (done + 1) ∷ [])

pub end_rests : (x : Setting) (w : World) (done c n : ℕ) → AtEnd x w done c n → ListenerRests w → EndRests x w done c n
end_rests x w done c n (End_came whole j f sum held h) rest =
    absurd (busy_reads w _ [] h.listens.wants_is h.whole_link h.listens.came_is rest)
end_rests x w done c n (Completes j f sum ended h) rest = absurd (busy_asks w _ h.listens.wants_is rest)
end_rests x w done c n (Answers j f sum free h) rest = absurd (busy_puts w _ h.listens.wants_is rest)
end_rests x w done c n (Ended j f sum free h) rest =
    record { j = j; f = f; sum = sum; free = free; second = h }

-- ---- Start

begun_goes : (x : Setting) (w v : World) (done : ℕ) (f : RecvEnd) → First x w done 0 false (s.Started (done + 1))
    → f.stage ≡ r.Free → Second x w done (StandsNone done) (IsUntouched x done) 0 action.Read phase.Reads f [] []
    → CallerActs w v → Stage x v
begun_goes x w v done f first free h acts =
    let o = octets_behind x done in
    let spoke = put_goes x first.left (state.Sending (done + 1) 0) o (s.Next (done + 1) 0) (unit.Start (done + 1)) w v
    refl first.speaks.says h.whole_link acts in
    stage.Next done 0 false 0 (omega arith) (omega arith) (none-more x done)
    (first_spoke x w v done 0 false (s.Started (done + 1)) (s.Next (done + 1) 0) (unit.Start (done + 1)) first spoke)
    (Start_came f refl refl refl free
    (second_gets x w v done 0 first.left (StandsNone done) (IsUntouched x done) f [] (state.Sending (done + 1) 0) o
    (s.Next (done + 1) 0) (unit.Start (done + 1)) h spoke))

-- ---- pieces

abbrev said : AnyUnit → State → Action × State
said y t = (action.Put y, t)

piece_goes : (x : Setting) (w v : World) (done c : ℕ) (whole : Bool) (n : ℕ) → c ≤ n → n < c + 2
    → HasMore (octets_behind x done) n → First x w done c whole (s.Next (done + 1) n) → NextRests x w done c whole n
    → CallerActs w v → Stage x v
piece_goes x w v done c whole n le less more first rest acts =
    by (is_last 1024 (octets_behind x done) (n + 1)) refl
  where
    by : (b : Bool) → is_last 1024 (octets_behind x done) (n + 1) ≡ b → Stage x v
    by b e =
        let o = octets_behind x done in
        let st = under_way whole (done + 1) c in
        let y = unit.Piece (piece_of 1024 o (n + 1)) in
        let to = if b then s.Last_put (done + 1) (n + 1) else s.Sync_next (done + 1) (n + 1) in
        let says : ◌≡◌ {A = Action × State} (w.calling.wants, w.calling.session)
        (action.Put y, caller x first.left phase.Puts (half_at st o to))
        = first.speaks.says ∙ piece_due x first.left (done + 1) c n whole o less
        ∙ ap (λ (z : SendStage). said y (caller x first.left phase.Puts (half_at st o z)))
        (stage_so (done + 1) n b o e) in
        let spoke = put_goes x first.left st o to y w v (not_dropped whole (done + 1) c) says rest.second.whole_link
        acts in
        then_ b e
        (first_spoke x w v done c whole (s.Next (done + 1) n) to y first spoke)
        (second_gets x w v done (2 * n + 1) first.left (Stands whole done o n) (Marks x done c whole) rest.f
        (acks c rest.j) st o to y rest.second spoke)
      where
        then_ : (b : Bool) → is_last 1024 (octets_behind x done) (n + 1) ≡ b
            → First x v done c whole (if b then s.Last_put (done + 1) (n + 1) else s.Sync_next (done + 1) (n + 1))
            → SecondOf x v done c whole n (2 * n + 1) action.Read phase.Reads rest.f
            (unit.Piece (piece_of 1024 (octets_behind x done) (n + 1)) ∷ []) (acks c rest.j)
            → Stage x v
        then_ true e f h = stage.At_last done c whole whole n (λ i. i) le more e f
            (Piece_came rest.j rest.f rest.sum rest.behind h)
        then_ false e f h = stage.Sync_due done c whole n le less (not-last-more (octets_behind x done) (n + 1) e) f
            (Piece_came rest.j rest.f rest.sum rest.behind h)

sync_goes : (x : Setting) (w v : World) (done c : ℕ) (whole : Bool) (n : ℕ) → c ≤ n → n < c + 2
    → HasMore (octets_behind x done) (n + 1) → First x w done c whole (s.Sync_next (done + 1) (n + 1))
    → HeldRests x w done c whole n → CallerActs w v → Stage x v
sync_goes x w v done c whole n le less more first rest acts =
    let o = octets_behind x done in
    let st = under_way whole (done + 1) c in
    let y = unit.Sync (n + 1) in
    let to = s.Next (done + 1) (n + 1) in
    let spoke = put_goes x first.left st o to y w v (not_dropped whole (done + 1) c) first.speaks.says
    rest.second.whole_link acts in
    stage.Next done c whole (n + 1) (omega (arith, le)) (omega (arith, less)) more
    (first_spoke x w v done c whole (s.Sync_next (done + 1) (n + 1)) to y first spoke)
    (Sync_came n rest.j rest.f refl rest.sum rest.held
    (second_gets x w v done (2 * n + 2) first.left (Stands whole done o n) (Marks x done c whole) rest.f
    (acks c rest.j) st o to y rest.second spoke))

-- ---- End

last_goes : (x : Setting) (w v : World) (done c : ℕ) (whole ending : Bool) (n : ℕ) → IsSized x
    → (whole ≡ true → ending ≡ true) → c ≤ n → HasMore (octets_behind x done) n
    → is_last 1024 (octets_behind x done) (n + 1) ≡ true
    → First x w done c ending (s.Last_put (done + 1) (n + 1)) → HeldRests x w done c whole n → CallerActs w v
    → Stage x v
last_goes x w v done c whole true n sized all le more l_is first rest acts =
    let o = octets_behind x done in
    let st = state.Ending (done + 1) c in
    let y = unit.End (done + 1) in
    let to = s.End_put (done + 1) (n + 1) in
    let spoke = put_goes x first.left st o to y w v refl
    (first.speaks.says ∙ end_due x first.left (done + 1) c (n + 1) o) rest.second.whole_link acts in
    stage.End done c n le more l_is
    (first_spoke x w v done c true (s.Last_put (done + 1) (n + 1)) to y first spoke)
    (End_came whole rest.j rest.f rest.sum rest.held
    (second_gets x w v done (2 * n + 2) first.left (Stands whole done o n) (Marks x done c whole) rest.f
    (acks c rest.j) st o to y rest.second spoke))
last_goes x w v done c whole false n sized all le more l_is first rest acts =
    let o = octets_behind x done in
    let ends = ends_so x w v done c (n + 1) sized first acts in
    stage.At_last done c whole true n (λ i. refl) le more l_is ends.first
    (Holds rest.j rest.f rest.sum rest.held
    (second_stays x w v done done (2 * n + 2) (2 * n + 2) (Stands whole done o n) (Stands whole done o n)
    (Marks x done c whole) (Marks x done c whole) rest.f (acks c rest.j) (acks c rest.j) rest.second ends.stays.other
    (ends.stays.came_is ∙ rest.second.up_is) ends.link (omega arith) (λ got ps z. z) rest.second.marks))

-- ---- an acknowledgement is read

ack_reads : (x : Setting) (w v : World) (done c : ℕ) (b : Bool) (z : SendStage) (rest : List AnyUnit)
    → (first : First x w done c b z) → c ≤ 3
    → next_of_sender z (caller x first.left phase.Puts (half_at (under_way b (done + 1) c) (octets_behind x done) z))
    ≡ (action.Read, caller x first.left phase.Reads (half_at (under_way b (done + 1) c) (octets_behind x done) z))
    → w.calling.came ≡ unit.SyncAck (c + 1) ∷ rest → w.link.is_broken ≡ false → c + 1 ≤ s.synced z → CallerActs w v
    → FirstCalls x v done c b z (c + 1) (action.Ask (ask.Confirm 1 x.generation (done + 1) (c + 1)))
    (phase.AsksStep (own.Confirm (c + 1)))
    × (v.calling.came ≡ rest) × (v.link ≡ w.link) × (v.listening ≡ came_to w.listening [])
ack_reads x w v done c b z rest first few reads came broken within acts =
    let o = octets_behind x done in
    let e = half_at (under_way b (done + 1) c) o z in
    let now : Action × State = (action.Read, caller x first.left phase.Reads e) in
    let says = first.speaks.says ∙ reads in
    let called = read_calls x first.left e (unit.SyncAck (c + 1)) rest (own.Confirm (c + 1)) w v
    (action_is (w.calling.wants, w.calling.session) now says)
    (state_is (w.calling.wants, w.calling.session) now says) came broken (omega (arith, first.room, first.below, few))
    (ack_calls b (done + 1) c o z within) acts in (
      record {
        below = first.below;
        left = first.left - 1;
        transfer = first.transfer;
        is = first.is;
        calls = record {
          wants_is = called.wants
              ∙ ap (λ (m : ℕ). action.Ask (ask.Confirm 1 x.generation m (c + 1))) (last_so b (done + 1) c);
          session_is = called.session;
          first = subst (λ q. FirstHolds x q done (under_way b (done + 1) c) (Some first.transfer)) (sym called.spool)
              first.speaks.first;
        };
        room = omega (arith, first.room, first.below, few);
      },
      called.came_is,
      called.link,
      called.other,
    )

full_goes : (x : Setting) (w v : World) (done c : ℕ) (whole : Bool) (n : ℕ) → n ≡ c + 2
    → HasMore (octets_behind x done) n → First x w done c whole (s.Next (done + 1) n) → NextRests x w done c whole n
    → CallerActs w v → Stage x v
full_goes x w v done c whole n full more first rest acts =
    let o = octets_behind x done in
    let few = few-more x done n more in
    let two : rest.j ≡ 1 + 1 = omega (arith, rest.sum, full) in
    let came = rest.second.up_is ∙ ap (acks c) two ∙ acks-first c 1 in
    let read = ack_reads x w v done c whole (s.Next (done + 1) n) (acks (c + 1) 1) first (omega (arith, few, full))
    (window_full x first.left (done + 1) c n whole o full) came rest.second.whole_link (omega (arith, full)) acts in
    stage.Confirms_next done c whole n 1 rest.f (omega (arith, full)) (omega (arith, full)) (omega (arith, full)) more
    read.0 rest.behind
    (second_stays x w v done done (2 * n + 1) (2 * n + 1) (Stands whole done o n) (Stands whole done o n)
    (Marks x done c whole) (Marks x done c whole) rest.f (acks c rest.j)
    (acks (c + 1) 1) rest.second read.3 read.1 read.2
    (omega arith) (λ got ps z. z) rest.second.marks)

next_goes : (x : Setting) (w v : World) (done c : ℕ) (whole : Bool) (n : ℕ) → c ≤ n → n ≤ c + 2
    → HasMore (octets_behind x done) n → First x w done c whole (s.Next (done + 1) n) → NextRests x w done c whole n
    → CallerActs w v → Stage x v
next_goes x w v done c whole n le most more first rest acts = elim (cases_lt n (c + 2)) [
  | inl less ↦ piece_goes x w v done c whole n le less more first rest acts
  | inr full ↦ full_goes x w v done c whole n (omega (arith, full, most)) more first rest acts
]

-- behind End: an acknowledgement, or the answer to End
end_goes : (x : Setting) (w v : World) (done c n j : ℕ) (f : RecvEnd) → c ≤ n → HasMore (octets_behind x done) n
    → is_last 1024 (octets_behind x done) (n + 1) ≡ true → First x w done c true (s.End_put (done + 1) (n + 1))
    → c + j ≡ n → f.stage ≡ r.Free
    → SecondOf x w done c true n (2 * n + 3) action.Read phase.Reads f []
    (acks c j ++ unit.EndAck (done + 1) ∷ [])
    → CallerActs w v → Stage x v
end_goes x w v done c n zero f le more l_is first sum free h acts =
    let o = octets_behind x done in
    let few = few-more x done n more in
    let z = s.End_put (done + 1) (n + 1) in
    let e = half_at (state.Ending (done + 1) c) o z in
    let now : Action × State = (action.Read, caller x first.left phase.Reads e) in
    let says : ◌≡◌ {A = Action × State} (w.calling.wants, w.calling.session) now = first.speaks.says in
    let called = read_calls x first.left e (unit.EndAck (done + 1)) [] own.Sent w v
    (action_is (w.calling.wants, w.calling.session) now says)
    (state_is (w.calling.wants, w.calling.session) now says) h.up_is h.whole_link
    (omega (arith, first.room, first.below, few, le)) (end_calls (done + 1) c (n + 1) o) acts in
    stage.Sends done c n f (omega (arith, last-some x done n l_is, sum)) le few
    (record {
      below = first.below;
      left = first.left - 1;
      transfer = first.transfer;
      is = first.is;
      calls = record {
        wants_is = called.wants;
        session_is = called.session;
        first = subst (λ q. FirstHolds x q done (state.Ending (done + 1) c) (Some first.transfer)) (sym called.spool)
            first.speaks.first;
      };
      room = omega (arith, first.room, first.below, few, le);
    }) free
    (second_stays x w v done done (2 * n + 3) (2 * n + 3) (Stands true done o n) (Stands true done o n)
    (Marks x done c true) (Marks x done c true) f (unit.EndAck (done + 1) ∷ []) [] h called.other called.came_is
    called.link (omega arith) (λ got ps y. y) h.marks)
end_goes x w v done c n (suc j) f le more l_is first sum free h acts =
    let o = octets_behind x done in
    let few = few-more x done n more in
    let up = acks (c + 1) j ++ unit.EndAck (done + 1) ∷ [] in
    let read = ack_reads x w v done c true (s.End_put (done + 1) (n + 1)) up first (omega (arith, few, le)) refl h.up_is
    h.whole_link (omega (arith, sum)) acts in
    stage.Confirms_end done c n j f (omega (arith, sum)) (omega (arith, sum)) more l_is read.0 free
    (second_stays x w v done done (2 * n + 3) (2 * n + 3) (Stands true done o n) (Stands true done o n)
    (Marks x done c true) (Marks x done c true) f (acks c (suc j) ++ unit.EndAck (done + 1) ∷ []) up h read.3 read.1
    read.2 (omega arith) (λ got ps y. y) h.marks)

-- ---- a piece is confirmed

-- the second agent reads still
reads_cut : (x : Setting) (w v : World) (right : ℕ) (f : RecvEnd)
    → Listens x w.listening action.Read phase.Reads right f []
    → v.listening ≡ came_to w.listening [] → IsCutOff v.listening
reads_cut x w v right f l other =
    subst IsCutOff (sym other) (While_reading l.wants_is (ap (λ (t : State). t.phase) l.session_is))

halted_so : (whole : Bool) (done c n got high : ℕ) (o : List ℕ) (l : Last) (ps : List (List ℕ)) → c < n
    → Stands whole done o n got high l ps → StandsHalted whole done o (c + 1) got high l ps
halted_so true done c n got high o l ps lt h = h
halted_so false done c n got high o l ps lt (Of_none z h) = absurd (omega (arith, z, lt))
halted_so false done c n got high o l ps lt (Of_part m le h) = (m, omega (arith, lt, le), omega arith, h)

cut_so : (x : Setting) (w v : World) (done c n read : ℕ) (whole : Bool) (z : SendStage) (f : RecvEnd)
    (up : List AnyUnit) → c < n → HasMore (octets_behind x done) n
    → SecondOf x w done c whole n read action.Read phase.Reads f [] up
    → First x v done (c + 1) whole z → Stays w v [] → IsCutOff v.calling
    → (v.link.is_broken ≡ true) × WasBroken x done v.link.breaks × (x.broken < v.link.breaks.made) → Stage x v
cut_so x w v done c n read whole z f up lt more h first stays cut broken =
    stage.Cut done (c + 1) whole (record {
      below = first.below;
      transfer = first.transfer;
      is = first.is;
      more = omega (arith, lt, more);
      first_holds = first.speaks.first;
      got = h.got;
      high = f.high;
      last = f.last;
      pieces = h.pieces;
      second_holds = subst (λ (q : Party). SecondHolds x q.spool h.got f.high f.last h.pieces)
          (sym stays.other) h.holds;
      stands = halted_so whole done c n h.got f.high (octets_behind x done) f.last h.pieces lt h.stands;
    }) broken.0 broken.1 broken.2 cut (reads_cut x w v h.right f h.listens stays.other)

confirms_next_goes : (x : Setting) (w v : World) (done c : ℕ) (whole : Bool) (n j : ℕ) (f : RecvEnd) → IsSized x
    → c < n → n ≤ c + 2 → c + (j + 1) ≡ n → HasMore (octets_behind x done) n
    → FirstCalls x w done c whole (s.Next (done + 1) n) (c + 1)
    (action.Ask (ask.Confirm 1 x.generation (done + 1) (c + 1))) (phase.AsksStep (own.Confirm (c + 1)))
    → IsBehind f whole (done + 1) n (octets_behind x done)
    → SecondOf x w done c whole n (2 * n + 1) action.Read phase.Reads f [] (acks (c + 1) j) → CallerActs w v
    → Stage x v
confirms_next_goes x w v done c whole n j f sized lt most sum more first b h acts =
    let goes = confirmed_goes x w v done c whole whole (s.Next (done + 1) n) sized
    (omega (arith, lt, more)) first h.marks
    acts in
    by goes goes.taken
  where
    by : Confirmed x w v done c whole whole (s.Next (done + 1) n) → Taken x done (c + 1) whole w.link v.link → Stage x v
    by goes (inl broken) =
        let o = octets_behind x done in
        let k = goes.first in
        let y = unit.Piece (piece_of 1024 o (n + 1)) in
        let now : Action × State = (
          action.Put y,
          caller x k.left phase.Puts
              (half_at (under_way whole (done + 1) (c + 1)) o (s.stage_at_piece 1024 o (s.Next (done + 1) n))),
        ) in
        let says = k.speaks.says ∙ piece_due x k.left (done + 1) (c + 1) n whole o (omega (arith, most)) in
        cut_so x w v done c n (2 * n + 1) whole (s.Next (done + 1) n) f (acks (c + 1) j) lt more h k goes.stays
        (While_putting y (action_is (v.calling.wants, v.calling.session) now says)
        (ap (λ (t : State). t.phase) (state_is (v.calling.wants, v.calling.session) now says))) broken
    by goes (inr same) =
        let o = octets_behind x done in
        stage.Next done (c + 1) whole n (omega (arith, lt)) (omega (arith, most)) more goes.first
        (Rests j f (omega (arith, sum)) b
        (second_stays x w v done done (2 * n + 1) (2 * n + 1) (Stands whole done o n) (Stands whole done o n)
        (Marks x done c whole) (Marks x done (c + 1) whole) f (acks (c + 1) j) (acks (c + 1) j) h goes.stays.other
        (goes.stays.came_is ∙ h.up_is) same.0 (omega arith) (λ got ps z. z)
        (subst (λ (l : Link). Marks x done (c + 1) whole l.breaks) same.0 same.1)))

confirms_end_goes : (x : Setting) (w v : World) (done c n j : ℕ) (f : RecvEnd) → IsSized x
    → c < n → c + (j + 1) ≡ n → HasMore (octets_behind x done) n
    → is_last 1024 (octets_behind x done) (n + 1) ≡ true
    → FirstCalls x w done c true (s.End_put (done + 1) (n + 1)) (c + 1)
    (action.Ask (ask.Confirm 1 x.generation (done + 1) (c + 1))) (phase.AsksStep (own.Confirm (c + 1)))
    → f.stage ≡ r.Free
    → SecondOf x w done c true n (2 * n + 3) action.Read phase.Reads f []
    (acks (c + 1) j ++ unit.EndAck (done + 1) ∷ [])
    → CallerActs w v → Stage x v
confirms_end_goes x w v done c n j f sized lt sum more l_is first free h acts =
    let goes = confirmed_goes x w v done c true true (s.End_put (done + 1) (n + 1)) sized
    (omega (arith, lt, more)) first
    h.marks acts in
    by goes goes.taken
  where
    by : Confirmed x w v done c true true (s.End_put (done + 1) (n + 1)) → Taken x done (c + 1) true w.link v.link
        → Stage x v
    by goes (inl broken) =
        let o = octets_behind x done in
        let k = goes.first in
        let now : Action × State = (
          action.Read,
          caller x k.left phase.Reads
              (half_at (state.Ending (done + 1) (c + 1)) o (s.End_put (done + 1) (n + 1))),
        ) in
        let says : ◌≡◌ {A = Action × State} (v.calling.wants, v.calling.session) now = k.speaks.says in
        cut_so x w v done c n (2 * n + 3) true (s.End_put (done + 1) (n + 1)) f
        (acks (c + 1) j ++ unit.EndAck (done + 1) ∷ []) lt more h k goes.stays
        (While_reading (action_is (v.calling.wants, v.calling.session) now says)
        (ap (λ (t : State). t.phase) (state_is (v.calling.wants, v.calling.session) now says))) broken
    by goes (inr same) =
        let o = octets_behind x done in
        let up = acks (c + 1) j ++ unit.EndAck (done + 1) ∷ [] in
        stage.End done (c + 1) n (omega (arith, lt)) more l_is goes.first
        (Ended j f (omega (arith, sum)) free
        (second_stays x w v done done (2 * n + 3) (2 * n + 3) (Stands true done o n) (Stands true done o n)
        (Marks x done c true) (Marks x done (c + 1) true) f up up h goes.stays.other
        (goes.stays.came_is ∙ h.up_is) same.0 (omega arith) (λ got ps z. z)
        (subst (λ (l : Link). Marks x done (c + 1) true l.breaks) same.0 same.1)))

-- ---- a message is sent

sends_goes : (x : Setting) (w v : World) (done c n : ℕ) (f : RecvEnd) → IsSized x → 1 ≤ c → c ≤ n → n ≤ 3
    → FirstCalls x w done c true (s.End_put (done + 1) (n + 1)) (c + 1)
    (action.Ask (ask.Sent 1 x.generation (done + 1))) (phase.AsksStep own.Sent)
    → f.stage ≡ r.Free → SecondOf x w done c true n (2 * n + 3) action.Read phase.Reads f [] [] → CallerActs w v
    → Stage x v
sends_goes x w v done c n f sized some le few first free h acts =
    let o = octets_behind x done in
    let sent = sent_goes x w v done c (n + 1) (c + 1) sized first acts in
    stage.Looks (done + 1) first.left f (record {
      within = omega (arith, first.below);
      room = omega (arith, first.room, le, few);
      free = free;
      second = second_stays x w v done (done + 1) (2 * n + 3) 0 (Stands true done o n) (StandsNone (done + 1))
          (Marks x done c true) (IsUntouched x (done + 1)) f [] [] h sent.stays.other
          (sent.stays.came_is ∙ h.up_is) sent.link (omega (arith, few))
          (λ got ps z. none_behind done got f.high f.last ps z) (sent_marks x done c w.link.breaks some h.marks);
    }) sent.speaks

-- ---- over a broken link

cut_calls : (x : Setting) (w v : World) (done c : ℕ) (ending : Bool)
    → Halted x w.calling.spool w.listening.spool done c ending → w.link.is_broken ≡ true
    → WasBroken x done w.link.breaks → x.broken < w.link.breaks.made → IsCutOff w.calling → IsCutOff w.listening
    → CallerActs w v → Stage x v
cut_calls x w v done c ending halted broken marks later a b acts =
    let over = cut_goes w.calling v.calling w.link v.link acts.did a broken acts.acts in
    stage.Cut done c ending
    (subst (λ (z : SpoolState). Halted x z v.listening.spool done c ending) (sym over.1)
    (subst (λ (q : Party). Halted x w.calling.spool q.spool done c ending) (sym acts.other) halted))
    (ap (λ (l : Link). l.is_broken) over.3 ∙ broken)
    (subst (λ (l : Link). WasBroken x done l.breaks) (sym over.3) marks)
    (subst (λ (l : Link). x.broken < l.breaks.made) (sym over.3) later)
    (Is_over over.0) (still_cut w.listening v.listening acts.did acts.other b)

-- a session that is over does nothing
over_still : (w v : World) (e : SessionEnd) → w.calling.wants ≡ action.Finish e → CallerActs w v → ⊥
over_still w v e is acts =
    subst (λ a. ActsAs a w.link.is_broken w.calling.came w.calling w.link acts.did v.calling v.link) is acts.acts

-- ---- all stages

pub caller_goes_on : (x : Setting) (w v : World) → IsSized x → Stage x w → ListenerRests w → CallerActs w v → Stage x v
caller_goes_on x w v sized (stage.Looks done left f quiet h) rest acts = looks_goes x w v done left f quiet h acts
caller_goes_on x w v sized (stage.Starts done left f batch quiet below is ei er h) rest acts =
    starts_goes x w v done left f batch sized quiet below is ei er h acts
caller_goes_on x w v sized (stage.Begun done f first free h) rest acts = begun_goes x w v done f first free h acts
caller_goes_on x w v sized (stage.Next done c whole n le most more first at) rest acts =
    next_goes x w v done c whole n le most more first (next_rests x w done c whole n at rest) acts
caller_goes_on x w v sized (stage.Sync_due done c whole n le most more first at) rest acts =
    sync_goes x w v done c whole n le most more first (held_rests x w done c whole n at rest) acts
caller_goes_on x w v sized (stage.At_last done c whole ending n all le more l_is first at) rest acts =
    last_goes x w v done c whole ending n sized all le more l_is first (held_rests x w done c whole n at rest) acts
caller_goes_on x w v sized (stage.End done c n le more l_is first at) rest acts =
    let h = end_rests x w done c n at rest in
    end_goes x w v done c n h.j h.f le more l_is first h.sum h.free h.second acts
caller_goes_on x w v sized (stage.Confirms_next done c whole n j f lt most sum more first b h) rest acts =
    confirms_next_goes x w v done c whole n j f sized lt most sum more first b h acts
caller_goes_on x w v sized (stage.Confirms_end done c n j f lt sum more l_is first free h) rest acts =
    confirms_end_goes x w v done c n j f sized lt sum more l_is first free h acts
caller_goes_on x w v sized (stage.Sends done c n f some le few first free h) rest acts =
    sends_goes x w v done c n f sized some le few first free h acts
caller_goes_on x w v sized (stage.Cut done c ending halted broken marks later a b) rest acts =
    cut_calls x w v done c ending halted broken marks later a b acts
caller_goes_on x w v sized (stage.Closes left f quiet h) rest acts = close_puts x w v left f quiet h acts
caller_goes_on x w v sized (stage.Closing left more h at) rest acts = close_reads x w v left more h at rest acts
caller_goes_on x w v sized (stage.Closes_first left h has) rest acts = close_asks x w v left sized h has acts
caller_goes_on x w v sized (stage.Closed e h has) rest acts = absurd (over_still w v end.Closed e acts)
caller_goes_on x w v sized (stage.Reopened done c whole f all more first room free h broken) rest acts =
    reopens x w v done c whole f all more first room free h broken acts
caller_goes_on x w v sized (stage.Resuming done c whole some more first room at) rest acts =
    resume_reads x w v done c whole some more first room at rest acts
caller_goes_on x w v sized (stage.Discarding done first broken at) rest acts =
    abort_reads x w v done first broken at rest acts
caller_goes_on x w v sized (stage.Sends_last done f left transfer below is calls broken h) rest acts =
    last_sent x w v done f left transfer sized below is calls broken h acts
caller_goes_on x w v sized (stage.Given_back done f within since e first h) rest acts =
    absurd (over_still w v (end.PeerAborted 7) e acts)
