-- A session, and what is due behind it.
use Rattle.std.proofs.Common.{◌≡◌, ◌⊎◌, ◌↔◌, ◌<◌, ◌+◌, ◌*◌, ℕ, Bool, true, false, List, refl, sym, ap, subst, ◌∙◌}
use Rattle.std.proofs.Common.{arith}
use Rattle.std.proofs.Common.{inl, inr}
use Rattle.mta_edge.specs.Held.{HeldDisk}
use Rattle.mta_histories.specs.Lanes.{Lanes}
use Rattle.mta_session.specs.declared.event.Action.TheVariants as action
use Rattle.mta_session.specs.declared.event.SessionEnd.{SessionEnd}
use Rattle.mta_session.specs.declared.event.SessionEnd.TheVariants as ends
use Rattle.mta_spool.specs.Shown.{Shown}
use Rattle.mta_drill_text.specs.Breaks.{breaks_up_to}
use Rattle.mta_drill_answer_laws.specs.Answers.{Works}
use Rattle.mta_drill_stage_laws.specs.Breaks.{Breaks}
use Rattle.mta_drill_stage_laws.specs.Sessions.{Between, HasLed, HasStarted, InSession, IsDrill}
use Rattle.mta_drill_stage_laws.specs.Settings.{IsSized, Setting}
use Rattle.mta_drill_stage_laws.specs.World.{World}
use Rattle.mta_drill_stage_laws.proofs.Beginning.{drills_begin}
use Rattle.mta_drill_stage_laws.proofs.Between.{sessions_are_few, sessions_lead_on, sessions_start}
use Rattle.mta_drill_stage_laws.proofs.Ended.{both_over}
use Rattle.mta_drill_stage_laws.proofs.InSessions.{sessions_call, sessions_go, sessions_hear}
use Rattle.mta_drill_stage_laws.proofs.InSessions.{sessions_listen, sessions_rest, sessions_turn}
use Rattle.mta_drill.specs.Calls.{HasNothing, HasSettled, HasTaken}
use Rattle.mta_drill.specs.Runs.{GaveUp, HasMet, HasRunOut, our_reference}
use Rattle.mta_drill.specs.Worked.{HasWorked}
use Rattle.mta_drill.proofs.Settling.{both_settle}
use Rattle.mta_drill.proofs.Staying.{Stays, none_given_up, ran_so}

finish-same : (f e : SessionEnd) → action.Finish f ≡ action.Finish e → f ≡ e
finish-same f e is = cc

-- ---- a session that both agents began comes to its end

session-stays : (y : Setting) → IsSized y → Stays (InSession y)
session-stays y sized = record {
  listens = λ w v h acts. sessions_listen y w v sized h acts;
  calls = λ w v h rests acts. sessions_call y w v sized h rests acts;
  heard = λ w h. sessions_hear y w sized h;
}

-- So many sessions were, none of which closed the lane, and both agents work on.
pub record IsBetween (before count n : ℕ) (s t : Shown HeldDisk (List ℕ)) (b : Breaks) : Type 0 where
  pub first_works : Works s
  pub second_works : Works t
  pub between : Between before count our_reference n s.current t.current b

-- ---- what a session led to

-- the lane was closed and all is done, or one session more was
abbrev pub HasLedTo : (before count n : ℕ) (is_closed : Bool) (s t : Shown HeldDisk (List ℕ)) → Breaks → Type 0
HasLedTo before count n true u v c = HasWorked before count c.made u v
HasLedTo before count n false u v c = IsBetween before count (n + 1) u v c

led-to : (before count n : ℕ) (now : World) (is_closed : Bool) (u v : Shown HeldDisk (List ℕ)) (c : Breaks)
    → ((is_closed ≡ true) ↔ (now.calling.wants ≡ action.Finish ends.Closed)) → now.link.breaks ≡ c → Works u → Works v
    → HasLed before count our_reference n now u.current v.current → HasLedTo before count n is_closed u v c
led-to before count n now true u v c told is first_works second_works (inl done) = record {
  first_works = first_works;
  second_works = second_works;
  accepted = done.1.accepted;
  got = done.1.got;
  breaks = subst (λ (x : Breaks). x.made + breaks_up_to before ≡ breaks_up_to (before + count)) is done.1.broken;
}
led-to before count n now true u v c told is first_works second_works (inr opened) = absurd (opened.0 (told.0 refl))
led-to before count n now false u v c told is first_works second_works (inl done) =
    (let both : false ≡ true = told.1 done.0 in absurd cc)
led-to before count n now false u v c told is first_works second_works (inr opened) = record {
  first_works = first_works;
  second_works = second_works;
  between = subst (λ (x : Breaks). Between before count our_reference (n + 1) u.current v.current x) is opened.1;
}

module _ (before count n : ℕ) (s t : Shown HeldDisk (List ℕ)) (b : Breaks) (drill : IsDrill before count)
    (between : Between before count our_reference n s.current t.current b) where
  pub has_met : (w : World) (is_closed : Bool) (s1 t1 : Shown HeldDisk (List ℕ)) (c : Breaks)
      → HasStarted our_reference s.current t.current b w → HasRunOut is_closed s1 t1 c w ⊎ GaveUp w
      → HasMet s t b is_closed s1 t1 c
  has_met w is_closed s1 t1 c started (inr up) =
      let x = sessions_start before count our_reference n s.current t.current b w drill between started in
      absurd (none_given_up (InSession x.0) (session-stays x.0 x.1) w x.2 up)
  has_met w is_closed s1 t1 c started (inl out) =
      let x = sessions_start before count our_reference n s.current t.current b w drill between started in
      let at = ran_so (InSession x.0) (session-stays x.0 x.1) w out.now x.2 out.ran in
      let over = both_over x.0 out.now (sessions_rest x.0 out.now at.0 at.1 out.caller_rests) in
      let closed = out.closed over.0.0 over.0.1 in
      let one = out.first over.0.0 over.0.1 in
      let other = out.second over.0.0 over.1.0 over.0.1 over.1.1 in
      record {
        began = w;
        now = out.now;
        started = started;
        passed = record {
          began = out.ran.start;
          first_goes = out.ran.first;
          rested = out.ran.rested;
          went = out.ran.went;
          rests = out.caller_rests;
        };
        closed = (
          λ yes. over.0.1 ∙ ap (λ (e : SessionEnd). action.Finish e) (closed.0 yes),
          λ is. closed.1 (finish-same over.0.0 ends.Closed (sym over.0.1 ∙ is)),
        );
        first_is = one.0;
        second_is = other.0;
        breaks_are = other.1;
        first_works = one.1;
        second_works = other.2;
      }

  pub has_led : (is_closed : Bool) (s1 t1 s2 t2 : Shown HeldDisk (List ℕ)) (c : Breaks)
      → HasMet s t b is_closed s1 t1 c → HasSettled s1 s2 → HasSettled t1 t2 → HasLedTo before count n is_closed s2 t2 c
  has_led is_closed s1 t1 s2 t2 c met settled all_settled =
      let x = sessions_start before count our_reference n s.current t.current b met.began drill between met.started in
      let at = sessions_turn x.0 met.passed.began met.now x.1
      (sessions_go x.0 met.began met.passed.began x.1 x.2 met.passed.first_goes) met.passed.rested met.passed.went in
      let ended = sessions_rest x.0 met.now at.0 at.1 met.passed.rests in
      let both = both_settle x.0 met.now x.1 s1 s2 t1 t2 met.first_is met.second_is settled all_settled ended in
      led-to before count n met.now is_closed s2 t2 c met.closed met.breaks_are settled.turned.works
      all_settled.turned.works
      (sessions_lead_on before count our_reference n s.current t.current b met.began met.now both.ones both.others
      s2.current t2.current drill between met.started met.passed both.first_settles both.second_settles)

-- ---- before the first session, and behind the last one

pub begins_between : (before count : ℕ) (s t : Shown HeldDisk (List ℕ)) → HasTaken before count s
    → HasNothing before t → IsBetween before count 0 s t (record { before = before; last = 0; made = 0 })
begins_between before count s t one other = record {
  first_works = one.works;
  second_works = other.works;
  between = drills_begin before count our_reference s.current t.current
      (ap (λ (l : Lanes). l.open_lanes) one.lanes) (ap (λ (l : Lanes). l.count) one.lanes) one.accepted one.moment
      (ap (λ (l : Lanes). l.open_lanes) other.lanes) (ap (λ (l : Lanes). l.count) other.lanes) other.got other.moment;
}

-- not so many sessions are needed
pub never_so_many : (before count n : ℕ) (s t : Shown HeldDisk (List ℕ)) (b : Breaks)
    → IsBetween before count n s t b → 2 * count < n → ⊥
never_so_many before count n s t b h more =
    omega (arith, sessions_are_few before count our_reference n s.current t.current b h.between, more)
