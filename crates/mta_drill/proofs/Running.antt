-- Both sides of a session, carried on in turn.
use Rattle.std.proofs.Common.{◌≡◌, ◌⊎◌, ◌++◌, ℕ, Bool, true, false, List, [], ◌∷◌, refl, sym, ap, subst, ◌∙◌, inl, inr}
use Rattle.std.proofs.lemmas.List.{append-nil, append_assoc}
use Rattle.mta_edge.specs.Held.{HeldDisk}
use Rattle.mta_session.specs.declared.event.Action.{Action}
use Rattle.mta_session.specs.declared.event.Action.TheVariants as action
use Rattle.mta_spool.specs.Shown.{Shown}
use Rattle.mta_units.specs.Feed.{Feed}
use Rattle.mta_units.specs.declared.unit.Unit.{Unit as AnyUnit}
use Rattle.mta_drill_links.specs.Ways.{AreOnWay}
use Rattle.mta_drill_stage_laws.specs.Breaks.{Breaks}
use Rattle.mta_drill_stage_laws.specs.World.{CallerActs, Link, ListenerGoes}
use Rattle.mta_drill_stage_laws.specs.World.{Party, RestsAs, World, came_to}
use Rattle.mta_drill_stage_laws.specs.World as world
use Rattle.mta_drill.specs.declared.side.Done.TheVariants as done
use Rattle.mta_drill.specs.declared.side.Rest.{Rest}
use Rattle.mta_drill.specs.declared.side.Rest.TheVariants as rest
use Rattle.mta_drill.specs.declared.side.Side.{Side}
use Rattle.mta_drill.specs.Acts.{HasActed, HasCome, HasDone, IsGivenUp, IsSide, Not_yet, One_more, RestsAt, Went}
use Rattle.mta_drill.specs.Runs.{AreBoth, Caller, GaveUp, HasRun, HaveRested, Listener, Listener_first}

-- ---- the listener goes on

came-none : (p : Party) → came_to p [] ≡ p
came-none p = ap (λ (us : List AnyUnit). record p { came = us }) (append-nil p.came)

came-more : (p : Party) (us vs : List AnyUnit) → came_to p (us ++ vs) ≡ came_to (came_to p us) vs
came-more p us vs = ap (λ (xs : List AnyUnit). record p { came = xs }) (sym (append_assoc p.came us vs))

-- the world once the listener has put units
abbrev pub behind : World → List AnyUnit → Party → Link → World
behind w us q m = record { calling = came_to w.calling us; listening = q; link = m }

pub listener_went : (w : World) (us : List AnyUnit) (q : Party) (m : Link) → Went w.listening w.link us q m
    → ListenerGoes w (behind w us q m)
listener_went w us q m Not_yet =
    let same : behind w [] w.listening w.link ≡ w =
    ap (λ (p : Party). record { calling = p; listening = w.listening; link = w.link }) (came-none w.calling) in
    subst (λ (v : World). ListenerGoes w v) (sym same) world.Not_yet
listener_went w us q m (One_more vs did r q' n m' went acts) =
    world.One_more (behind w vs r n) (behind w (vs ++ did) q' m') (listener_went w vs r n went) (record {
      did = did;
      acts = acts;
      other = came-more w.calling vs did;
    })

-- ---- where a side rests

module _ (p : Party) (l : Link) (x : Side) (s : Shown HeldDisk (List ℕ)) (b : Breaks) (old new : Feed) where
  pub rests_so : (r : Rest) → HasDone p l (done.Rests r) x s b old new
      → RestsAt r x s b p l ⊎ ((is_closed : Bool) × IsGivenUp p is_closed)
  rests_so rest.Waits is = inl is.side
  rests_so (rest.Over c) (inl is) = inl (is.end, is.closed, is.side)
  rests_so (rest.Over c) (inr is) = inr (c, is)

  rests-by : (c : Bool) (us : List AnyUnit) → c ≡ false → us ≡ [] → RestsAs action.Read c us
  rests-by false [] broken came = tt
  rests-by true us broken came = absurd cc
  rests-by false (v ∷ us) broken came = absurd cc

  pub rests_as : (r : Rest) → HasDone p l (done.Rests r) x s b old new
      → RestsAs p.wants l.is_broken p.came ⊎ ((is_closed : Bool) × IsGivenUp p is_closed)
  rests_as rest.Waits is =
      inl (subst (λ (a : Action). RestsAs a l.is_broken p.came) (sym is.reads)
      (rests-by l.is_broken p.came is.whole is.none))
  rests_as (rest.Over c) (inl is) =
      inl (subst (λ (a : Action). RestsAs a l.is_broken p.came) (sym is.over) tt)
  rests_as (rest.Over c) (inr is) = inr (c, is)

  pub still_put : (r : Rest) → HasDone p l (done.Rests r) x s b old new
      → (new ≡ old) ⊎ ((is_closed : Bool) × IsGivenUp p is_closed)
  still_put rest.Waits is = inl is.put
  still_put (rest.Over d) (inl is) = inl is.put
  still_put (rest.Over d) (inr is) = inr (d, is)

-- the other side, to which units came
pub other_side : (x y : Side) (s : Shown HeldDisk (List ℕ)) (a : Action) (b c : Breaks) (p : Party) (l m : Link)
    (us : List AnyUnit) → IsSide x s a b p l → y.session ≡ x.session → AreOnWay (p.came ++ us) y.came.feed
    → m.is_broken ≡ y.came.is_broken → m.breaks ≡ c → IsSide y s a c (came_to p us) m
other_side x y s a b c p l m us is same came broken breaks = record {
  spool = is.spool;
  session = is.session ∙ sym same;
  wants = is.wants;
  came = came;
  broken = broken;
  breaks = breaks;
  works = is.works;
}

-- the same side, to whose way nothing was done
pub same_side : (x y : Side) (s : Shown HeldDisk (List ℕ)) (a : Action) (b c : Breaks) (p : Party) (l m : Link)
    → IsSide x s a b p l → y.session ≡ x.session → AreOnWay p.came y.came.feed → m.is_broken ≡ y.came.is_broken
    → m.breaks ≡ c → IsSide y s a c p m
same_side x y s a b c p l m is same came broken breaks = record {
  spool = is.spool;
  session = is.session ∙ sym same;
  wants = is.wants;
  came = came;
  broken = broken;
  breaks = breaks;
  works = is.works;
}

pub side-broken : (r : Rest) (x : Side) (s : Shown HeldDisk (List ℕ)) (b : Breaks) (p : Party) (l : Link)
    → RestsAt r x s b p l → l.is_broken ≡ x.came.is_broken
side-broken rest.Waits x s b p l is = is.broken
side-broken (rest.Over c) x s b p l is = is.2.broken

pub side-breaks : (r : Rest) (x : Side) (s : Shown HeldDisk (List ℕ)) (b : Breaks) (p : Party) (l : Link)
    → RestsAt r x s b p l → l.breaks ≡ b
side-breaks rest.Waits x s b p l is = is.breaks
side-breaks (rest.Over c) x s b p l is = is.2.breaks

pub side-came : (r : Rest) (x : Side) (s : Shown HeldDisk (List ℕ)) (b : Breaks) (p : Party) (l : Link)
    → RestsAt r x s b p l → AreOnWay p.came x.came.feed
side-came rest.Waits x s b p l is = is.came
side-came (rest.Over c) x s b p l is = is.2.came

-- a side that rests, to which units came
other_rests : (r : Rest) (x y : Side) (s : Shown HeldDisk (List ℕ)) (b c : Breaks) (p : Party) (l m : Link)
    (us : List AnyUnit) → RestsAt r x s b p l → y.session ≡ x.session → AreOnWay (p.came ++ us) y.came.feed
    → m.is_broken ≡ y.came.is_broken → m.breaks ≡ c → RestsAt r y s c (came_to p us) m
other_rests rest.Waits x y s b c p l m us is same came broken breaks =
    other_side x y s action.Read b c p l m us is same came broken breaks
other_rests (rest.Over d) x y s b c p l m us is same came broken breaks =
    (is.0, is.1, other_side x y s (action.Finish is.0) b c p l m us is.2 same came broken breaks)

pub same_rests : (r : Rest) (x y : Side) (s : Shown HeldDisk (List ℕ)) (b c : Breaks) (p : Party) (l m : Link)
    → RestsAt r x s b p l → y.session ≡ x.session → AreOnWay p.came y.came.feed → m.is_broken ≡ y.came.is_broken
    → m.breaks ≡ c → RestsAt r y s c p m
same_rests rest.Waits x y s b c p l m is same came broken breaks =
    same_side x y s action.Read b c p l m is same came broken breaks
same_rests (rest.Over d) x y s b c p l m is same came broken breaks =
    (is.0, is.1, same_side x y s (action.Finish is.0) b c p l m is.2 same came broken breaks)

-- ---- the listener comes to rest

-- x is the caller before and after, y the listener afterwards
module _ (w : World) (x z y : Side) (s t : Shown HeldDisk (List ℕ)) (a : Action) (r : Rest) (b c : Breaks)
    (calling : IsSide x s a b w.calling w.link) (same : z.session ≡ x.session)
    (came : HasCome w.listening w.link r y t c x.came.feed z.came.feed) (alike : z.came.is_broken ≡ y.came.is_broken)
  where
    abbrev then : World
    then = behind w came.did came.party came.link

    goes : ListenerGoes w then
    goes = listener_went w came.did came.party came.link came.went

    -- so both stand, or the listener's session is given up
    pub listener_came : (ListenerGoes w then × AreBoth z y s t a r c then)
        ⊎ (ListenerGoes w then × ((is_closed : Bool) × IsGivenUp then.listening is_closed))
    listener_came =
        elim (rests_so came.party came.link y t c came.middle z.came.feed r came.rests) [
          | inr up ↦ inr (goes, up)
          | inl rests ↦ elim (rests_as came.party came.link y t c came.middle z.came.feed r came.rests) [
            | inr up ↦ inr (goes, up)
            | inl listens ↦ elim (still_put came.party came.link y t c came.middle z.came.feed r came.rests) [
              | inr up ↦ inr (goes, up)
              | inl still ↦ inl (
                goes,
                record {
                  calling =
                      other_side x z s a b c w.calling w.link came.link came.did calling same
                      (subst (λ (f : Feed). AreOnWay (w.calling.came ++ came.did) f) (sym still)
                      (came.put w.calling.came calling.came))
                      (side-broken r y t c came.party came.link rests ∙ sym alike)
                      (side-breaks r y t c came.party came.link rests);
                  listening = rests;
                  rests = listens;
                },
              )
            ]
          ]
        ]

    -- at the beginning
    pub begins : HasRun z y s t a r c w ⊎ GaveUp w
    begins =
        elim listener_came [
          | inl both ↦ inl (record {
            now = then;
            ran = record { start = then; first = both.0; rested = both.1.rests; went = world.Not_yet };
            both = both.1;
          })
          | inr up ↦ inr (Listener_first then up.1.0 up.0 up.1.1)
        ]

-- ---- one round

module _ (w : World) (x v z y u k : Side) (s s' t t' : Shown HeldDisk (List ℕ)) (a e : Action) (r r' : Rest)
    (b c d : Breaks) (run : HasRun x y s t a r b w)
    (acts : (p : Party) (l : Link) → IsSide x s a b p l → HasDone p l (done.Told e) v s' c y.came.feed u.came.feed)
    (same : u.session ≡ y.session) (alike : y.came.is_broken ≡ x.came.is_broken → u.came.is_broken ≡ v.came.is_broken)
    (goes_on : (p : Party) (l : Link) → RestsAt r u t c p l → HasCome p l r' k t' d v.came.feed z.came.feed)
    (stays : z.session ≡ v.session)
    (as_one : v.came.is_broken ≡ u.came.is_broken → z.came.is_broken ≡ k.came.is_broken) where
  act : HasActed run.now.calling run.now.link e v s' c y.came.feed u.came.feed
  act = acts run.now.calling run.now.link run.both.calling

  abbrev between : World
  between = record {
    calling = act.party;
    listening = came_to run.now.listening act.did;
    link = act.link;
  }

  called : CallerActs run.now between
  called = record { did = act.did; acts = act.acts; other = refl }

  both-broken : u.came.is_broken ≡ v.came.is_broken
  both-broken =
      alike (sym (side-broken r y t b run.now.listening run.now.link run.both.listening) ∙ run.both.calling.broken)

  listens : RestsAt r u t c between.listening between.link
  listens =
      other_rests r y u t b c run.now.listening run.now.link act.link act.did run.both.listening same
      (act.put run.now.listening.came (side-came r y t b run.now.listening run.now.link run.both.listening))
      (act.side.broken ∙ sym both-broken) act.side.breaks

  pub one_round : HasRun z k s' t' e r' d w ⊎ GaveUp w
  one_round =
      let came = goes_on between.listening between.link listens in
      elim (listener_came between v z k s' t' e r' c d act.side stays came (as_one (sym both-broken))) [
        | inl both ↦ inl (record {
          now = behind between came.did came.party came.link;
          ran = record {
            start = run.ran.start;
            first = run.ran.first;
            rested = run.ran.rested;
            went = world.One_more run.now (behind between came.did came.party came.link) run.ran.went (record {
              between = between;
              called = called;
              listens = both.0;
              rests = both.1.rests;
            });
          };
          both = both.1;
        })
        | inr up ↦ inr (Listener run.now between (behind between came.did came.party came.link) up.1.0 run.ran called
            up.0 up.1.1)
      ]

-- ---- the caller rests

module _ (w : World) (x v y u : Side) (s s' t : Shown HeldDisk (List ℕ)) (a : Action) (q r : Rest) (b c : Breaks)
    (run : HasRun x y s t a r b w)
    (acts : (p : Party) (l : Link) → IsSide x s a b p l → HasDone p l (done.Rests q) v s' c y.came.feed u.came.feed)
    (same : u.session ≡ y.session)
    (alike : y.came.is_broken ≡ x.came.is_broken → u.came.is_broken ≡ v.came.is_broken) where
  both-still : u.came.is_broken ≡ v.came.is_broken
  both-still =
      alike (sym (side-broken r y t b run.now.listening run.now.link run.both.listening) ∙ run.both.calling.broken)

  pub both_rest : HaveRested v u s' t (record { calling = q; listening = r }) c w ⊎ GaveUp w
  both_rest =
      let did = acts run.now.calling run.now.link run.both.calling in
      elim (rests_so run.now.calling run.now.link v s' c y.came.feed u.came.feed q did) [
        | inr up ↦ inr (Caller run.now up.0 run.ran up.1)
        | inl rests ↦ elim (rests_as run.now.calling run.now.link v s' c y.came.feed u.came.feed q did) [
          | inr up ↦ inr (Caller run.now up.0 run.ran up.1)
          | inl calls ↦ elim (still_put run.now.calling run.now.link v s' c y.came.feed u.came.feed q did) [
            | inr up ↦ inr (Caller run.now up.0 run.ran up.1)
            | inl still ↦ inl (record {
              now = run.now;
              ran = run.ran;
              calling = rests;
              listening =
                  same_rests r y u t b c run.now.listening run.now.link run.now.link run.both.listening same
                  (subst (λ (f : Feed). AreOnWay run.now.listening.came f) (sym still)
                  (side-came r y t b run.now.listening run.now.link run.both.listening))
                  (side-broken q v s' c run.now.calling run.now.link rests ∙ sym both-still)
                  (side-breaks q v s' c run.now.calling run.now.link rests);
              caller_rests = calls;
              listener_rests = run.both.rests;
            })
          ]
        ]
      ]
