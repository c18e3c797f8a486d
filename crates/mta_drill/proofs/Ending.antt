-- A session is carried on to its end, behind which neither side that is over does anything.
use Rattle.std.proofs.Common.{◌≡◌, ◌↔◌, ◌++◌, Bool, true, List, [], ℕ, refl, sym, ap, subst, ◌∙◌, inl, inr}
use Rattle.std.proofs.lemmas.List.{append-nil}
use Rattle.mta_edge.specs.Held.{HeldDisk}
use Rattle.mta_session.specs.declared.ask.Ask.{Ask}
use Rattle.mta_session.specs.declared.event.Action.{Action}
use Rattle.mta_session.specs.declared.event.Action.TheVariants as action
use Rattle.mta_session.specs.declared.event.SessionEnd.{SessionEnd}
use Rattle.mta_session.specs.declared.event.SessionEnd.TheVariants as ends
use Rattle.mta_spool.specs.Shown.{Shown}
use Rattle.mta_units.specs.Feed.{Feed}
use Rattle.mta_units.specs.declared.unit.Unit.{Unit as AnyUnit}
use Rattle.mta_drill_answer_laws.specs.Answers.{Works}
use Rattle.mta_drill_links.specs.Ways.{AreOnWay}
use Rattle.mta_drill_stage_laws.specs.Breaks.{Breaks}
use Rattle.mta_drill_stage_laws.specs.World.{ActsAs, Link, Party, World}
use Rattle.mta_drill.specs.declared.session.Rests.{Rests}
use Rattle.mta_drill.specs.declared.side.Rest.{Rest}
use Rattle.mta_drill.specs.declared.side.Rest.TheVariants as rest
use Rattle.mta_drill.specs.declared.side.Side.{Side}
use Rattle.mta_drill.specs.Acts.{HasCome, Not_yet, One_more, RestsAt, Went}
use Rattle.mta_drill.specs.Runs.{HasRunOut, HaveRested}
use Rattle.mta_drill.proofs.Running.{rests_so, same_rests, side-breaks, side-broken, side-came, still_put}

read-not : (a : Action) (e : SessionEnd) → a ≡ action.Read → a ≡ action.Finish e → ⊥
read-not a e reads over = let both : action.Read ≡ action.Finish e = sym reads ∙ over in cc

ask-not : (a : Action) (q : Ask) (e : SessionEnd) → a ≡ action.Ask q → a ≡ action.Finish e → ⊥
ask-not a q e asks over = let both : action.Ask q ≡ action.Finish e = sym asks ∙ over in cc

-- ---- a side that is over

record WentNowhere (p q : Party) (l m : Link) (us : List AnyUnit) : Type 0 where
  pub party : q ≡ p
  pub link : m ≡ l
  pub units : us ≡ []

went-nowhere : (p : Party) (l : Link) (e : SessionEnd) → p.wants ≡ action.Finish e → (us : List AnyUnit) (q : Party)
    (m : Link) → Went p l us q m → WentNowhere p q l m us
went-nowhere p l e over us q m Not_yet = record { party = refl; link = refl; units = refl }
went-nowhere p l e over us q m (One_more vs did r q' n m' went acts) =
    let before = went-nowhere p l e over vs r n went in
    let wants : r.wants ≡ action.Finish e = ap (λ (x : Party). x.wants) before.party ∙ over in
    absurd (subst (λ (a : Action). ActsAs a n.is_broken r.came r n did q' m') wants acts)

-- what is known of it and its spool, and that nothing was put
record StaysOver (p : Party) (l : Link) (r : Rest) (x : Side) (s : Shown HeldDisk (List ℕ)) (b : Breaks)
    (old new : Feed) : Type 0 where
  pub at : RestsAt r x s b p l
  pub put : (us : List AnyUnit) → AreOnWay us old → AreOnWay us new

over-stays : (p : Party) (l : Link) (r : Rest) (x : Side) (s : Shown HeldDisk (List ℕ)) (b : Breaks)
    (old new : Feed) (e : SessionEnd) → p.wants ≡ action.Finish e → HasCome p l r x s b old new
    → StaysOver p l r x s b old new
over-stays p l r x s b old new e over come =
    let still = went-nowhere p l e over come.did come.party come.link come.went in
    let wants : come.party.wants ≡ action.Finish e = ap (λ (q : Party). q.wants) still.party ∙ over in
    elim (rests_so come.party come.link x s b come.middle new r come.rests) [
      | inr up ↦ absurd (ask-not come.party.wants up.1.question e up.1.asks wants)
      | inl at ↦ elim (still_put come.party come.link x s b come.middle new r come.rests) [
        | inr up ↦ absurd (ask-not come.party.wants up.1.question e up.1.asks wants)
        | inl same ↦ record {
          at = subst (λ (q : Party). RestsAt r x s b q l) still.party
              (subst (λ (m : Link). RestsAt r x s b come.party m) still.link at);
          put = λ us on.
              subst (λ (vs : List AnyUnit). AreOnWay vs new) (append-nil us)
              (subst (λ (vs : List AnyUnit). AreOnWay (us ++ vs) new) still.units
              (subst (λ (f : Feed). AreOnWay (us ++ come.did) f) (sym same) (come.put us on)));
        }
      ]
    ]

-- ---- what is known of a side that rests

record ShowsAt (p : Party) (l : Link) (s : Shown HeldDisk (List ℕ)) (b : Breaks) : Type 0 where
  pub spool : p.spool ≡ s.current
  pub breaks : l.breaks ≡ b
  pub works : Works s

shows-at : (r : Rest) (x : Side) (s : Shown HeldDisk (List ℕ)) (b : Breaks) (p : Party) (l : Link)
    → RestsAt r x s b p l → ShowsAt p l s b
shows-at rest.Waits x s b p l is = record { spool = is.spool; breaks = is.breaks; works = is.works }
shows-at (rest.Over c) x s b p l is = record { spool = is.2.spool; breaks = is.2.breaks; works = is.2.works }

finish-same : (f e : SessionEnd) → action.Finish f ≡ action.Finish e → f ≡ e
finish-same f e is = cc

over-same : (c d : Bool) → rest.Over c ≡ rest.Over d → c ≡ d
over-same c d is = cc

-- the lane was closed where it is over so
closed-so : (r : Rest) (x : Side) (s : Shown HeldDisk (List ℕ)) (b : Breaks) (p : Party) (l : Link) (is_closed : Bool)
    → ((is_closed ≡ true) ↔ (r ≡ rest.Over true)) → RestsAt r x s b p l → (e : SessionEnd)
    → p.wants ≡ action.Finish e → (is_closed ≡ true) ↔ (e ≡ ends.Closed)
closed-so rest.Waits x s b p l is_closed told is e over = absurd (read-not p.wants e is.wants over)
closed-so (rest.Over c) x s b p l is_closed told is e over =
    let same : is.0 ≡ e = finish-same is.0 e (sym is.2.wants ∙ over) in (
      λ yes. sym same ∙ is.1.0 (over-same c true (told.0 yes)),
      λ closed. told.1 (ap (λ (d : Bool). rest.Over d) (is.1.1 (same ∙ closed))),
    )

-- ---- both sides

-- the sides where both rested, cut off, and at the end; y' is the listener while the caller goes on to its end
module _ (w : World) (r : Rests) (x x1 x2 y y1 y2 y3 : Side) (s s' t t' : Shown HeldDisk (List ℕ)) (b c d : Breaks)
    (other : Feed) (h : HaveRested x y s t r b w)
    (broken-x : x1.came.is_broken ≡ true) (same-x : x1.session ≡ x.session) (feed-x : x1.came.feed ≡ x.came.feed)
    (broken-y : y1.came.is_broken ≡ true) (same-y : y1.session ≡ y.session) (feed-y : y1.came.feed ≡ y.came.feed)
    (q q' : Rest)
    (calls : (p : Party) (l : Link) → RestsAt r.calling x1 s b p l
    → HasCome p l q x2 s' c y1.came.feed y2.came.feed)
    (alike : y1.came.is_broken ≡ x1.came.is_broken → y2.came.is_broken ≡ x2.came.is_broken)
    (stays : y2.session ≡ y1.session)
    (listens : (p : Party) (l : Link) → RestsAt r.listening y2 t c p l
    → HasCome p l q' y3 t' d x2.came.feed other)
    (is_closed : Bool) (told : (is_closed ≡ true) ↔ (r.calling ≡ rest.Over true)) where
  abbrev cut : Link
  cut = record { is_broken = true; breaks = h.now.link.breaks }

  calls-at : RestsAt r.calling x1 s b h.now.calling cut
  calls-at =
      same_rests r.calling x x1 s b b h.now.calling h.now.link cut h.calling same-x
      (subst (λ (f : Feed). AreOnWay h.now.calling.came f) (sym feed-x)
      (side-came r.calling x s b h.now.calling h.now.link h.calling))
      (sym broken-x) (side-breaks r.calling x s b h.now.calling h.now.link h.calling)

  called : (e : SessionEnd) → h.now.calling.wants ≡ action.Finish e
      → StaysOver h.now.calling cut q x2 s' c y1.came.feed y2.came.feed
  called e over =
      over-stays h.now.calling cut q x2 s' c y1.came.feed y2.came.feed e over (calls h.now.calling cut calls-at)

  listens-at : (e : SessionEnd) → h.now.calling.wants ≡ action.Finish e
      → RestsAt r.listening y2 t c h.now.listening cut
  listens-at e over =
      let did = called e over in
      same_rests r.listening y y2 t b c h.now.listening h.now.link cut h.listening (stays ∙ same-y)
      (did.put h.now.listening.came
      (subst (λ (f : Feed). AreOnWay h.now.listening.came f) (sym feed-y)
      (side-came r.listening y t b h.now.listening h.now.link h.listening)))
      (side-broken q x2 s' c h.now.calling cut did.at ∙ sym (alike (broken-y ∙ sym broken-x)))
      (side-breaks q x2 s' c h.now.calling cut did.at)

  listened : (e f : SessionEnd) → h.now.calling.wants ≡ action.Finish e → h.now.listening.wants ≡ action.Finish f
      → ShowsAt h.now.listening cut t' d
  listened e f over ended =
      let did =
      over-stays h.now.listening cut q' y3 t' d x2.came.feed other f ended
      (listens h.now.listening cut (listens-at e over)) in
      shows-at q' y3 t' d h.now.listening cut did.at

  pub run_out : HasRunOut is_closed s' t' d w
  run_out = record {
    now = h.now;
    ran = h.ran;
    caller_rests = h.caller_rests;
    listener_rests = h.listener_rests;
    closed = λ e over. closed-so r.calling x s b h.now.calling h.now.link is_closed told h.calling e over;
    first = λ e over.
        let shows = shows-at q x2 s' c h.now.calling cut (called e over).at in (shows.spool, shows.works);
    second = λ e f over ended.
        let shows = listened e f over ended in (shows.spool, shows.breaks, shows.works);
  }
