-- Many acts of one side, one behind the other.
use Rattle.std.proofs.Common.{◌++◌, ℕ, Bool, List, [], refl, sym, subst, inl}
use Rattle.std.proofs.lemmas.List.{append-nil, append_assoc}
use Rattle.mta_edge.specs.Held.{HeldDisk}
use Rattle.mta_session.specs.declared.event.Action.{Action}
use Rattle.mta_spool.specs.Shown.{Shown}
use Rattle.mta_units.specs.Feed.{Feed}
use Rattle.mta_units.specs.declared.unit.Unit.{Unit as AnyUnit}
use Rattle.mta_drill_links.specs.Ways.{AreOnWay}
use Rattle.mta_drill_stage_laws.specs.Breaks.{Breaks}
use Rattle.mta_drill_stage_laws.specs.World.{Link, Party}
use Rattle.mta_drill.specs.declared.side.Done.TheVariants as done
use Rattle.mta_drill.specs.declared.side.Rest.{Rest}
use Rattle.mta_drill.specs.declared.side.Rest.TheVariants as rest
use Rattle.mta_drill.specs.declared.side.Side.{Side}
use Rattle.mta_drill.specs.Acts.{HasActed, HasCome, HasDone, HasGone, IsSide, Not_yet, One_more, RestsAt}

-- none yet
pub none_yet : (x : Side) (s : Shown HeldDisk (List ℕ)) (a : Action) (b : Breaks) (p : Party) (l : Link) (f : Feed)
    → IsSide x s a b p l → HasGone p l a x s b f f
none_yet x s a b p l f is = record {
  did = [];
  party = p;
  link = l;
  went = Not_yet;
  side = is;
  put = λ us on. subst (λ (vs : List AnyUnit). AreOnWay vs f) (sym (append-nil us)) on;
}

module _ (p : Party) (l : Link) (a : Action) (x y : Side) (s t : Shown HeldDisk (List ℕ)) (b c : Breaks)
    (old mid new : Feed) (gone : HasGone p l a x s b old mid) where
  -- one more
  pub one_more_act : (e : Action)
      → ((q : Party) (m : Link) → IsSide x s a b q m → HasDone q m (done.Told e) y t c mid new)
      → HasGone p l e y t c old new
  one_more_act e acts =
      let act : HasActed gone.party gone.link e y t c mid new = acts gone.party gone.link gone.side in
      record {
        did = gone.did ++ act.did;
        party = act.party;
        link = act.link;
        went = One_more gone.did act.did gone.party act.party gone.link act.link gone.went act.acts;
        side = act.side;
        put = λ us on.
            subst (λ (vs : List AnyUnit). AreOnWay vs new) (append_assoc us gone.did act.did)
            (act.put (us ++ gone.did) (gone.put us on));
      }

  -- and it rests
  pub comes_to_rest : (r : Rest)
      → ((q : Party) (m : Link) → IsSide x s a b q m → HasDone q m (done.Rests r) y t c mid new)
      → HasCome p l r y t c old new
  comes_to_rest r rests = record {
    did = gone.did;
    party = gone.party;
    link = gone.link;
    went = gone.went;
    middle = mid;
    put = gone.put;
    rests = rests gone.party gone.link gone.side;
  }

-- a side that is over stays so
pub over_still : (x : Side) (s : Shown HeldDisk (List ℕ)) (b : Breaks) (p : Party) (l : Link) (f : Feed)
    (is_closed : Bool) → RestsAt (rest.Over is_closed) x s b p l → HasCome p l (rest.Over is_closed) x s b f f
over_still x s b p l f is_closed at = record {
  did = [];
  party = p;
  link = l;
  went = Not_yet;
  middle = f;
  put = λ us on. subst (λ (vs : List AnyUnit). AreOnWay vs f) (sym (append-nil us)) on;
  rests = inl (record { end = at.0; over = at.2.wants; closed = at.1; side = at.2; put = refl });
}
