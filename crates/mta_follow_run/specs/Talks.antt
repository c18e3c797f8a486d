-- What a link carries.
use Rattle.std.specs.Prelude.{◌≡◌, ◌⊎◌, ℕ, zero, suc, ◌≤◌, List, [], ◌∷◌, ◌++◌, Some, Result, Ok, Err}
use Rattle.mta_edge.specs.declared.outside.Failed.{Failed}
use Rattle.mta_edge.specs.Causes.{Rose}
use Rattle.mta_links.specs.Links.{Leads, LinkView, Served, Session, StationView, Talk}
use Rattle.mta_follow_units.specs.Units.{kept_unit}
use Rattle.mta_follow_run.specs.Fronts.{IsFront}

-- it gave these octets, the first ones of those that the peer gives, and took those
pub record Carries (came gone : List ℕ) (f g : Talk) : Type 0 where
  pub got : g.got ≡ f.got ++ came
  pub left : f.left ≡ came ++ g.left
  pub put : g.put ≡ f.put ++ gone

-- so it did, where it tells it, and its count of faults did not fall
pub record Talks {L : Type 0} (links : LinkView L) (got put : List ℕ) (old new : L) : Type 0 where
  pub carried : Leads (Carries got put) (links.talk old) (links.talk new)
  pub later : links.faults old ≤ links.faults new

-- what putting octets leaves: all are taken; or a front of them, and the link has failed
pub data HasPut {L : Type 0} (links : LinkView L) (octets : List ℕ) (old new : L) : Result Unit Failed
    → Type 0 where
  put_whole : Talks links [] octets old new → HasPut links octets old new (Ok tt)
  put_front : (piece : List ℕ) (e : Failed) → IsFront piece octets → Talks links [] piece old new
      → Rose (links.faults old) (links.faults new) → HasPut links octets old new (Err e)

-- it failed between the two
abbrev pub LinkFailed : {L : Type 0} → LinkView L → L → L → Type 0
LinkFailed links old new = Rose (links.faults old) (links.faults new)

-- what the peer gives was read to its end
abbrev pub IsAtEnd : {L : Type 0} → LinkView L → L → Type 0
IsAtEnd links link = (g : Talk) → links.talk link ≡ Some g → g.left ≡ []

-- no more comes of it: it failed, or it is at its end
abbrev pub IsOver : {L : Type 0} → LinkView L → L → L → Type 0
IsOver links old new = LinkFailed links old new ⊎ IsAtEnd links new

-- so many records are told kept, the first ones
abbrev pub kept_units : ℕ → List ℕ
kept_units zero = []
kept_units (suc count) = kept_units count ++ kept_unit (suc count)

-- a session was over whose link gave these octets and took those
pub record HasSession (got put : List ℕ) (f g : Served) : Type 0 where
  pub first : Session
  pub last : Session
  pub given : f.to_come ≡ first ∷ g.to_come
  pub over : g.over ≡ f.over ++ last ∷ []
  pub carried : Carries got put first.talk last.talk

-- so it did, where the station tells it
abbrev pub HasServed : {S : Type 0} → StationView S → (got put : List ℕ) → S → S → Type 0
HasServed stations got put old new = (f g : Served) → stations.served old ≡ Some f
    → stations.served new ≡ Some g
    → HasSession got put f g

-- a station gave no link: it failed, or it has none
pub data HasNoLink {S : Type 0} (stations : StationView S) (old new : S) : Type 0 where
  station_failed : Rose (stations.faults old) (stations.faults new) → HasNoLink stations old new
  none_left : ((f : Served) → stations.served old ≡ Some f → f.to_come ≡ []) → HasNoLink stations old new
