-- One act of a side, by what it wants.
use Rattle.std.proofs.Common.{◌≡◌, ◌↔◌, ◌++◌, ℕ, Bool, true, false, List, [], ◌∷◌}
use Rattle.std.proofs.Common.{refl, sym, ap, subst, ◌∙◌, inl, inr}
use Rattle.std.proofs.lemmas.List.{append-nil}
use Rattle.mta_edge.specs.Held.{HeldDisk}
use Rattle.mta_edge.specs.Moments.{memory_clock}
use Rattle.mta_session.specs.Fits.{Answers}
use Rattle.mta_session.specs.Follows.{Follows}
use Rattle.mta_session.specs.State.{State}
use Rattle.mta_session.specs.declared.ask.Ask.{Ask}
use Rattle.mta_session.specs.declared.ask.Ask.TheVariants as ask
use Rattle.mta_session.specs.declared.ask.Reply.{Reply}
use Rattle.mta_session.specs.declared.event.Action.{Action}
use Rattle.mta_session.specs.declared.event.Action.TheVariants as action
use Rattle.mta_session.specs.declared.event.Event.TheVariants as event
use Rattle.mta_session.specs.declared.event.SessionEnd.{SessionEnd}
use Rattle.mta_session.specs.declared.event.SessionEnd.TheVariants as ends
use Rattle.mta_session_run.specs.Running.{HasTold}
use Rattle.mta_spool.specs.Shown.{Shown}
use Rattle.mta_spool.specs.Stands.{TellsFewer}
use Rattle.mta_units.specs.Feed.{Feed}
use Rattle.mta_units.specs.declared.unit.Unit.{Unit as AnyUnit}
use Rattle.mta_histories.specs.Lanes.{State as SpoolState}
use Rattle.mta_drill_links.specs.Ways.{AreOnWay}
use Rattle.mta_drill_stage_laws.specs.Breaks.{Breaks, IsDue, IsDueIn, one_more}
use Rattle.mta_drill_stage_laws.specs.World.{Acts, ActsAs, Asked, IsTaken, Link, Party, Replied}
use Rattle.mta_drill_answer_laws.specs.Answers.{QuestionsAreAsked}
use Rattle.mta_drill.specs.declared.side.Done.{Done}
use Rattle.mta_drill.specs.declared.side.Done.TheVariants as done
use Rattle.mta_drill.specs.declared.side.Rest.TheVariants as rest
use Rattle.mta_drill.specs.declared.side.Side.{Side}
use Rattle.mta_drill.specs.Acts.{HasAsked, HasDone, HasRead, IsBrokenBy, IsSide}
use Rattle.mta_drill.specs.Acts.{put_event, put_units}

-- ---- a unit is put

-- by whether the link is broken
talks : (broken : Bool) (u : AnyUnit) (came : List AnyUnit) (p q : Party) (l : Link)
    → Follows p.session (put_event broken) q.wants q.session → q.came ≡ came → q.spool ≡ p.spool
    → ActsAs (action.Put u) broken came p l (put_units broken u) q l
talks true u came p q l follows kept spool = record {
  told = record { follows = follows; came_is = kept };
  spool = spool;
  put_is = refl;
  link = refl;
}
talks false u came p q l follows kept spool = record {
  told = record { follows = follows; came_is = kept };
  spool = spool;
  put_is = refl;
  link = refl;
}

module _ (x y : Side) (s : Shown HeldDisk (List ℕ)) (b : Breaks) (old new : Feed) (p : Party) (l : Link) where
  pub has_put : (u : AnyUnit) (a : Action) → IsSide x s (action.Put u) b p l
      → HasTold x.session (put_event x.came.is_broken) a y.session
      → ((us : List AnyUnit) → AreOnWay us old → AreOnWay (us ++ put_units x.came.is_broken u) new)
      → y.came ≡ x.came → HasDone p l (done.Told a) y s b old new
  has_put u a is told units kept =
      let q : Party = record { spool = p.spool; session = y.session; wants = a; came = p.came } in
      let follows : Follows p.session (put_event l.is_broken) a y.session =
      subst (λ (t : State). Follows t (put_event l.is_broken) a y.session) (sym is.session)
      (subst (λ (c : Bool). Follows x.session (put_event c) a y.session) (sym is.broken) told.turn.follows) in
      record {
        did = put_units l.is_broken u;
        party = q;
        link = l;
        acts =
            subst (λ (w : Action). ActsAs w l.is_broken p.came p l (put_units l.is_broken u) q l) (sym is.wants)
            (talks l.is_broken u p.came p q l follows refl refl);
        side = record {
          spool = is.spool;
          session = refl;
          wants = refl;
          came = subst (λ w. AreOnWay p.came w.feed) (sym kept) is.came;
          broken = is.broken ∙ ap (λ w. w.is_broken) (sym kept);
          breaks = is.breaks;
          works = is.works;
        };
        put = subst (λ (c : Bool). (us : List AnyUnit) → AreOnWay us old → AreOnWay (us ++ put_units c u) new)
            (sym is.broken) units;
      }

  -- ---- a unit is read

  -- the act is that of what is wanted, where the link is so and this came
  along : (c : Bool) (us : List AnyUnit) (q : Party) → l.is_broken ≡ c → p.came ≡ us → IsSide x s action.Read b p l
      → ActsAs action.Read c us p l [] q l → Acts p l [] q l
  along c us q broken came is acts =
      subst (λ (w : Action). ActsAs w l.is_broken p.came p l [] q l) (sym is.wants)
      (subst (λ (d : Bool). ActsAs action.Read d p.came p l [] q l) (sym broken)
      (subst (λ (vs : List AnyUnit). ActsAs action.Read c vs p l [] q l) (sym came) acts))

  none-put : new ≡ old → (us : List AnyUnit) → AreOnWay us old → AreOnWay (us ++ []) new
  none-put still us on =
      subst (λ (vs : List AnyUnit). AreOnWay vs new) (sym (append-nil us))
      (subst (λ (f : Feed). AreOnWay us f) (sym still) on)

  -- by whether the link is broken, and what came
  read-by : (c : Bool) (us : List AnyUnit) (d : Done) → l.is_broken ≡ c → p.came ≡ us → IsSide x s action.Read b p l
      → HasRead c us p.session d y.session y.came.feed → l.is_broken ≡ y.came.is_broken → new ≡ old
      → HasDone p l d y s b old new
  read-by true us (done.Told a) broken came is read same still =
      let q : Party = record { spool = p.spool; session = y.session; wants = a; came = us } in
      let acts : ActsAs action.Read true us p l [] q l = record {
        told = record { follows = read.0.turn.follows; came_is = refl };
        spool = refl;
        put_is = refl;
        link = refl;
      } in
      record {
        did = [];
        party = q;
        link = l;
        acts = along true us q broken came is acts;
        side = record {
          spool = is.spool;
          session = refl;
          wants = refl;
          came = read.1;
          broken = same;
          breaks = is.breaks;
          works = is.works;
        };
        put = none-put still;
      }
  read-by false (v ∷ us) (done.Told a) broken came is read same still =
      let q : Party = record { spool = p.spool; session = y.session; wants = a; came = us } in
      let acts : ActsAs action.Read false (v ∷ us) p l [] q l = record {
        told = record { follows = read.0.turn.follows; came_is = refl };
        spool = refl;
        put_is = refl;
        link = refl;
      } in
      record {
        did = [];
        party = q;
        link = l;
        acts = along false (v ∷ us) q broken came is acts;
        side = record {
          spool = is.spool;
          session = refl;
          wants = refl;
          came = read.1;
          broken = same;
          breaks = is.breaks;
          works = is.works;
        };
        put = none-put still;
      }
  read-by false [] (done.Rests rest.Waits) broken came is read same still = record {
    reads = is.wants;
    none = came;
    whole = broken;
    side = record {
      spool = is.spool;
      session = sym read.0;
      wants = is.wants;
      came = subst (λ (us : List AnyUnit). AreOnWay us y.came.feed) (sym came) read.1;
      broken = same;
      breaks = is.breaks;
      works = is.works;
    };
    put = still;
  }
  read-by true us (done.Rests r) broken came is read same still = absurd read
  read-by false [] (done.Told a) broken came is read same still = absurd read
  read-by false [] (done.Rests (rest.Over c)) broken came is read same still = absurd read
  read-by false (v ∷ us) (done.Rests r) broken came is read same still = absurd read

  pub has_read : (d : Done) → IsSide x s action.Read b p l
      → HasRead x.came.is_broken p.came x.session d y.session y.came.feed → y.came.is_broken ≡ x.came.is_broken
      → new ≡ old → HasDone p l d y s b old new
  has_read d is read same still =
      read-by l.is_broken p.came d refl refl is
      (subst (λ (t : State). HasRead l.is_broken p.came t d y.session y.came.feed) (sym is.session)
      (subst (λ (c : Bool). HasRead c p.came x.session d y.session y.came.feed) (sym is.broken) read))
      (is.broken ∙ sym same) still

-- ---- the spool is asked

replied : (q : Ask) (t : State) (s : SpoolState) (x : Reply) (new : SpoolState) → Asked q s x new
    → Replied q t s x new
replied (ask.Start n g batch) t s x new is = λ as_known. is
replied any1 t s x new is = is

taken : (l : Link) (was : Bool) (b : Breaks) (q : Ask) (is : Bool) (c : Breaks) → l.is_broken ≡ was → l.breaks ≡ b
    → IsBrokenBy was b q is c → IsTaken l q (record { is_broken = is; breaks = c })
taken l was b q is c broken breaks (inl due) = inl (
  due.0,
  subst (λ (d : Breaks). IsDueIn d q due.0) (sym breaks) due.1,
  ap (λ (d : Bool). record { is_broken = d; breaks = c }) due.2
      ∙ ap (λ (d : Breaks). record { is_broken = true; breaks = d })
      (due.3 ∙ ap (λ (d : Breaks). one_more d due.0) (sym breaks)),
)
taken l was b q is c broken breaks (inr none) = inr (
  subst (λ (d : Breaks). IsDue d q → ⊥) (sym breaks) none.0,
  ap (λ (d : Bool). record { is_broken = d; breaks = c }) (none.1 ∙ sym broken)
      ∙ ap (λ (d : Breaks). record { is_broken = l.is_broken; breaks = d }) (none.2 ∙ sym breaks),
)

module _ (law : QuestionsAreAsked) (x y : Side) (s t : Shown HeldDisk (List ℕ)) (b c : Breaks) (old new : Feed)
    (p : Party) (l : Link) (q : Ask) where
  pub has_asked : (d : Done) → IsSide x s (action.Ask q) b p l → HasAsked q s x.session d t y.session
      → IsBrokenBy x.came.is_broken b q y.came.is_broken c → y.came.feed ≡ x.came.feed
      → TellsFewer memory_clock s.clock t.clock → new ≡ old → HasDone p l d y t c old new
  has_asked (done.Told a) is did broken came fewer still =
      let asked = law q s did.0 t is.works did.1.0 did.1.1 in
      let m : Link = record { is_broken = y.came.is_broken; breaks = c } in
      let r : Party = record { spool = t.current; session = y.session; wants = a; came = p.came } in
      let acts : ActsAs (action.Ask q) l.is_broken p.came p l [] r m = record {
        answer = did.0;
        replied = replied q p.session p.spool did.0 t.current
            (subst (λ (z : SpoolState). Asked q z did.0 t.current) (sym is.spool) asked.0);
        told = record {
          follows = subst (λ (z : State). Follows z (event.Reply did.0) a y.session) (sym is.session)
              did.2.turn.follows;
          came_is = refl;
        };
        put = refl;
        taken = taken l x.came.is_broken b q y.came.is_broken c is.broken is.breaks broken;
      } in
      record {
        did = [];
        party = r;
        link = m;
        acts = subst (λ (w : Action). ActsAs w l.is_broken p.came p l [] r m) (sym is.wants) acts;
        side = record {
          spool = refl;
          session = refl;
          wants = refl;
          came = subst (λ (f : Feed). AreOnWay p.came f) (sym came) is.came;
          broken = refl;
          breaks = refl;
          works = record { history = asked.1; clock = λ m told. is.works.clock m (fewer m told) };
        };
        put = λ us on.
            subst (λ (vs : List AnyUnit). AreOnWay vs new) (sym (append-nil us))
            (subst (λ (f : Feed). AreOnWay us f) (sym still) on);
      }
  has_asked (done.Rests (rest.Over is_closed)) is did broken came fewer still =
      let asked = law q s did.0 t is.works did.1.0 did.1.1 in
      inr (record {
        question = q;
        asks = is.wants;
        answer = did.0;
        left = t.current;
        replied = replied q p.session p.spool did.0 t.current
            (subst (λ (z : SpoolState). Asked q z did.0 t.current) (sym is.spool) asked.0);
        unheard = subst (λ (z : State). Answers z (event.Reply did.0) → ⊥) (sym is.session) did.2;
        open_still = did.3;
      })
  has_asked (done.Rests rest.Waits) is did broken came fewer still = absurd did

-- ---- the session is over

pub has_ended : (x : Side) (s : Shown HeldDisk (List ℕ)) (b : Breaks) (feed : Feed) (p : Party) (l : Link)
    (e : SessionEnd) (is_closed : Bool) → IsSide x s (action.Finish e) b p l
    → ((is_closed ≡ true) ↔ (e ≡ ends.Closed)) → HasDone p l (done.Rests (rest.Over is_closed)) x s b feed feed
has_ended x s b feed p l e is_closed is closed = inl (record {
  end = e;
  over = is.wants;
  closed = closed;
  side = is;
  put = refl;
})
