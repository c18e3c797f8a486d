-- What finding a spool on a disk leaves.
use Rattle.std.proofs.Common.{inl, inr, ⊎_elim, ◌≡◌, ℕ, ◌+◌, ◌≤◌, ◌<◌, List, [], ◌∷◌, ◌++◌, length, map, Some, refl}
use Rattle.std.proofs.Common.{sym, ap, subst, ◌∙◌, arith}
use Rattle.std.specs.Prelude.{◌⊎◌}
use Rattle.mta_edge.specs.Crashes.{CrashLeaves}
use Rattle.mta_edge.specs.Views.{DiskView, StaysTold, WhereTold}
use Rattle.mta_edge.proofs.Moments.{weaken}
use Rattle.mta_journal.specs.Bodies.{HasBodiesAt, HasSecondArea, IsCurrent, StandsFor as HoldsBodies}
use Rattle.mta_journal.specs.Bodies.{alone as alone_area, first as first_area, second as second_area}
use Rattle.mta_journal.specs.Shown.{Shown as JournalShown, Holds, IsPlain}
use Rattle.mta_journal.specs.Opening.{HasRefused as IsNotOpened, IsSynced, KeepsFilled}
use Rattle.mta_journal.specs.Opening.{IsSame as IsSameJournal, BeforeOrSame as BeforeOrSameJournal}
use Rattle.mta_journal.specs.Opening.{IsSameFrom as IsSameJournalFrom, IsLeft as IsLeftJournal}
use Rattle.mta_journal.specs.Opening.{unsynced as journal_unsynced, synced as journal_synced}
use Rattle.mta_journal.specs.declared.why.OpenWhy.{OpenWhy}
use Rattle.mta_journal.specs.declared.why.OpenWhy.TheVariants as Whys
use Rattle.mta_journal.proofs.Unique.{one_list}
use Rattle.mta_records.specs.declared.step.Step.{Step}
use Rattle.mta_records.specs.declared.step.Step.TheVariants.{Snapshot}
use Rattle.mta_records.specs.Body.{body_of, fields_of}
use Rattle.mta_histories.specs.Lanes.{State}
use Rattle.mta_images.specs.Image.{HasOther, IsNoSnapshot, IsSnapshot, StandsFor, StopsAt}
use Rattle.mta_images.proofs.GoingOn.{plain_alone, second_one}
use Rattle.mta_images.proofs.Unique.{one_history}
use Rattle.mta_spool.specs.Finding.{MayStand}
use Rattle.mta_spool.specs.GoingOn.{HasFound}
use Rattle.mta_spool.specs.Opening.{IsSame, BeforeOrSame, IsSameFrom, IsLeft, HasRefused, OpensSafely}
use Rattle.mta_spool.specs.Opening.{unsynced, synced}
use Rattle.mta_spool.specs.Replaying.{HasStopped, IsReplay}
use Rattle.mta_spool.specs.Stands.{IsHeld}
use Rattle.mta_spool.proofs.SnapshotSteps.{snapshot_step}

-- ---- the same

some_behind : (xs ys : List (List ℕ)) (y : List ℕ) → xs ++ y ∷ ys ≡ [] → ⊥
some_behind [] ys y e = cc
some_behind (x ∷ xs) ys y e = cc

-- an image with bodies in the second area has one
none_second : (f : List ℕ) → HoldsBodies f [] → HasSecondArea f → ⊥
none_second f (inl short) chosen = let inside = chosen.areas.inside in absurd (omega (arith, inside, short.0))
none_second f (inr has) chosen =
    let one = second_one has.1.0 [] f has.1.1 chosen in some_behind [] [] one.0 (sym one.1)

pub none_there : (f : List ℕ) → HoldsBodies f [] → StandsFor f []
none_there f holds = record {
  bodies = holds;
  each = tt;
  history = tt;
  second = λ chosen. absurd (none_second f holds chosen);
}

-- what is the same for a journal is the same for its history
same_of : (f g : List ℕ) → IsSameJournal f g → IsSame f g
same_of f g (inl same) = inl same
same_of f g (inr none) = inr ([], none_there f none.0, none_there g none.1)

-- and stands for the same history
pub same_stands : (f g : List ℕ) (steps : List Step) → IsSame f g → StandsFor f steps → StandsFor g steps
same_stands f g steps (inl same) stands = subst (λ (x : List ℕ). StandsFor x steps) (sym same) stands
same_stands f g steps (inr both) stands = subst (StandsFor g) (one_history f both.0 steps both.1 stands) both.2

-- where there is none it has the same octets
pub same_octets : (f g : List ℕ) → ((steps : List Step) → StandsFor f steps → ⊥) → IsSame f g → g ≡ f
same_octets f g none (inl same) = same
same_octets f g none (inr both) = absurd (none both.0 both.1)

-- an image that holds bodies does not stand for none
filled : (f : List ℕ) (bodies : List (List ℕ)) → HoldsBodies f bodies → (bodies ≡ [] → ⊥) → HoldsBodies f [] → ⊥
filled f bodies holds some none = some (one_list f bodies [] holds none)

module _ {D : Type 0} (model : DiskView D) where
  before_of : (old : D) (f g : List ℕ) → BeforeOrSameJournal model old f g → BeforeOrSame model old f g
  before_of old f g (inl before) = inl before
  before_of old f g (inr same) = inr (same_of f g same)

  safe_of : (old new : D) → CrashLeaves model (BeforeOrSameJournal model old) old new → OpensSafely model old new
  safe_of old new images f told =
      weaken model (BeforeOrSameJournal model old f) (BeforeOrSame model old f) old new
      (λ g left. before_of old f g left)
      (images f told)

  from_of : (f : List ℕ) (old new : D) (since : ℕ) → IsSameJournalFrom model f old new since
      → IsSameFrom model f old new since
  from_of f old new since x = record { from = x.from; until = x.until; same = λ g left. same_of f g (x.same g left) }

  left_of : (f : List ℕ) (old new : D) → IsLeftJournal model f old new → IsLeft model f old new
  left_of f old new (journal_unsynced same left) = unsynced same left
  left_of f old new (journal_synced x) =
      synced (record { first = x.first; sync = x.sync; same = from_of f old new (model.moment x.first) x.same })

  -- ---- the disk is no journal, or was not read

  pub open_refused : (old new : D) (why : OpenWhy) → IsNotOpened model old new why → KeepsFilled model old new
      → StaysTold model old new → CrashLeaves model (BeforeOrSameJournal model old) old new
      → WhereTold model old (λ f. IsLeftJournal model f old new) → HasRefused model old new why
  open_refused old new why refused kept told images left = record {
    later = refused.later;
    disk = refused.disk;
    not_spool = λ at e f t. let no = (refused.not_spool at e).each f t in inl no.2.1;
    kept = λ f was none. kept f was (λ empty. none [] (none_there f empty));
    filled = λ other. kept;
    told = told;
    images = safe_of old new images;
    left = λ f was. left_of f old new (left f was);
  }

-- ---- the journal was opened

-- what opening a journal says of it, of its bodies, and of the disk as the first sync left it
pub record IsOpened {D : Type 0} (model : DiskView D) (old : D) (journal : JournalShown D) (bodies : List (List ℕ))
    (first : D)
    : Type 0 where
  pub holds : Holds model journal bodies
  pub stood : WhereTold model old (λ f. HoldsBodies f bodies)
  pub some : journal.first ≡ 8 → 9 < journal.size
  pub later : model.faults old ≤ model.faults journal.disk
  pub told : StaysTold model old journal.disk
  pub kept : KeepsFilled model old journal.disk
  pub images : CrashLeaves model (BeforeOrSameJournal model old) old journal.disk
  pub since : WhereTold model old (λ f. IsSameJournalFrom model f old journal.disk (model.moment first))
  pub sync : IsSynced model old first

module _ {D : Type 0} (model : DiskView D) (old : D) (journal : JournalShown D) (bodies : List (List ℕ)) (first : D)
    (o : IsOpened model old journal bodies first) where
  -- where there are bodies the disk that was handed in has them in the journal's area
  there : (f : List ℕ) → model.content old ≡ Some f → (bodies ≡ [] → ⊥) → HasBodiesAt journal.first bodies f
  there f was some = o.holds.file f (o.kept f was (filled f bodies (o.stood f was) some))

  -- the bodies are those of no history, or there was no memory for what they say
  pub replay_refused : (gate : ℕ) → gate ≡ journal.first → (why : OpenWhy) → HasStopped gate bodies why
      → HasRefused model old journal.disk why
  replay_refused gate at (Whys.NotSpool n) stops =
      let some : bodies ≡ [] → ⊥ =
      λ none. some_behind (map body_of stops.steps) stops.more stops.body (sym stops.bodies_are ∙ none) in
      record {
        later = o.later;
        disk = λ e. absurd cc;
        not_spool = λ m e f was. inr (inl (record {
          long = long f (o.stood f was) some;
          first = journal.first;
          bodies = bodies;
          has = there f was some;
          stops = subst (λ (x : ℕ). StopsAt x bodies m) at (subst (StopsAt gate bodies) (same n m e) stops);
        }));
        kept = λ f was none. o.kept f was (λ empty. none [] (none_there f empty));
        filled = λ other. o.kept;
        told = o.told;
        images = safe_of model old journal.disk o.images;
        left = λ f was. synced
            (record {
              first = first;
              sync = o.sync;
              same =
                  from_of model f old journal.disk (model.moment first) (o.since f was);
            });
      }
    where
      same : (a b : ℕ) → ◌≡◌ {A = OpenWhy} (Whys.NotSpool a) (Whys.NotSpool b) → a ≡ b
      same a b w = cc

      long : (f : List ℕ) → HoldsBodies f bodies → (bodies ≡ [] → ⊥) → 9 < length f
      long f (inl none) some = absurd (some none.1)
      long f (inr has) some = has.0
  replay_refused gate at Whys.Disk stops = absurd stops
  replay_refused gate at Whys.Memory stops = record {
    later = o.later;
    disk = λ e. absurd cc;
    not_spool = λ m e f was. absurd cc;
    kept = λ f was none. o.kept f was (λ empty. none [] (none_there f empty));
    filled = λ other. o.kept;
    told = o.told;
    images = safe_of model old journal.disk o.images;
    left = λ f was. synced
        (record {
          first = first;
          sync = o.sync;
          same =
              from_of model f old journal.disk (model.moment first) (o.since f was);
        });
  }

  -- ---- what stands there is that of no spool, or its history

  -- since the sync a crash leaves the same
  since_found : (f : List ℕ) → model.content old ≡ Some f → IsLeft model f old journal.disk
  since_found f was = synced (record {
    first = first;
    sync = o.sync;
    same = from_of model f old journal.disk (model.moment first) (o.since f was);
  })

  -- what is known of a disk on which bodies stand from a gate on that is neither that of the only area nor
  -- that of the first
  second_there : (IsPlain journal.first → ⊥) → (f : List ℕ) → HasBodiesAt journal.first bodies f
      → HasSecondArea f × ((body : List ℕ) × (bodies ≡ body ∷ []))
  second_there other f has = by has.current
    where
      by : IsCurrent journal.first bodies f → HasSecondArea f × ((body : List ℕ) × (bodies ≡ body ∷ []))
      by (alone_area begins lone is) = absurd (other (inl is))
      by (first_area areas not_chosen is) = absurd (other (inr is))
      by (second_area areas chosen is body only below) =
          (record { areas = areas; chosen = chosen }, (body, only))

  -- there are some where the second area is current
  some_there : (IsPlain journal.first → ⊥) → (f : List ℕ) → model.content old ≡ Some f → bodies ≡ [] → ⊥
  some_there other f was none =
      let now = o.told f was in
      let one = (second_there other now.0 (o.holds.file now.0 now.1)).1 in
      some_behind [] [] one.0 (sym one.1 ∙ none)

  -- a second area has another record than a snapshot
  pub other_refused : (gate : ℕ) → gate ≡ journal.first → (MayStand gate bodies → ⊥)
      → HasRefused model old journal.disk (Whys.NotSpool gate)
  other_refused gate at wrong = record {
    later = o.later;
    disk = λ e. absurd cc;
    not_spool = λ m e f was. inr (inr (subst (HasOther f) (same gate m e) (there_other f was)));
    kept = λ f was none. o.kept f was (λ empty. none [] (none_there f empty));
    filled = λ other. o.kept;
    told = o.told;
    images = safe_of model old journal.disk o.images;
    left = since_found;
  } where
    same : (a b : ℕ) → ◌≡◌ {A = OpenWhy} (Whys.NotSpool a) (Whys.NotSpool b) → a ≡ b
    same a b w = cc

    not_plain : IsPlain journal.first → ⊥
    not_plain plain = wrong (inl (subst IsPlain (sym at) plain))

    no_snapshot : (body : List ℕ) → bodies ≡ body ∷ [] → IsNoSnapshot body
    no_snapshot body only t fields is = wrong (inr (body, only, (fields_of (Snapshot t), sym is)))

    there_other : (f : List ℕ) → model.content old ≡ Some f → HasOther f gate
    there_other f was =
        let has = there f was (some_there not_plain f was) in
        let second = second_there not_plain f has in
        record {
          second = second.0;
          body = second.1.0;
          has = subst (λ (n : ℕ). HasBodiesAt n (second.1.0 ∷ []) f) (sym at)
              (subst (λ (bs : List (List ℕ)). HasBodiesAt journal.first bs f) second.1.1 has);
          other = no_snapshot second.1.0 second.1.1;
        }

  -- the bodies are those of these steps
  module _ (state : State) (steps : List Step) (is : IsReplay bodies state steps) (may : MayStand journal.first bodies)
    where
      alone_there : (IsPlain journal.first → ⊥) → IsSnapshot steps
      alone_there other = ⊎_elim {C = IsSnapshot steps} (λ plain. absurd (other plain))
          (λ one. one_step steps one.0 one.2.0 (is.bodies_are ∙ one.1) one.2.1) may
        where
          one_step : (ss : List Step) (body rest : List ℕ) → map body_of ss ≡ body ∷ [] → body ≡ 24 ∷ rest
              → IsSnapshot ss
          one_step [] body rest e begins = absurd cc
          one_step (s ∷ []) body rest e begins =
              let here : body_of s ≡ body = cc in
              let found = snapshot_step s rest (here ∙ begins) in
              (found.0, ap (λ (x : Step). x ∷ []) found.1)
          one_step (s ∷ t ∷ ss) body rest e begins = absurd cc

      held_there : IsHeld model journal state steps
      held_there = record {
        holds = subst (Holds model journal) (sym is.bodies_are) o.holds;
        each = is.each;
        state_is = is.state_is;
        history = is.history;
        alone = alone_there;
      }

      pub stood_for : (f : List ℕ) → model.content old ≡ Some f → StandsFor f steps
      stood_for f was = record {
        bodies = subst (HoldsBodies f) (sym is.bodies_are) (o.stood f was);
        each = is.each;
        history = is.history;
        second = λ chosen. alone_there (λ plain. not_second plain chosen);
      } where
        not_second : IsPlain journal.first → HasSecondArea f → ⊥
        not_second plain chosen = at (o.stood f was)
          where
            at : HoldsBodies f bodies → ⊥
            at (inl short) = let inside = chosen.areas.inside in absurd (omega (arith, inside, short.0))
            at (inr has) =
                let one = second_one has.1.0 bodies f has.1.1 chosen in
                let some : bodies ≡ [] → ⊥ = λ none. some_behind [] [] one.0 (sym one.1 ∙ none) in
                plain_alone journal.first bodies f plain (there f was some) chosen

      pub has_found : HasFound model old journal state bodies first
      has_found = record {
        steps = steps;
        held = held_there;
        history = stood_for;
        bodies_are = sym is.bodies_are;
        some = o.some;
        later = o.later;
        told = o.told;
        kept = o.kept;
        images = safe_of model old journal.disk o.images;
        sync = o.sync;
        since = λ f was. from_of model f old journal.disk (model.moment first) (o.since f was);
      }
