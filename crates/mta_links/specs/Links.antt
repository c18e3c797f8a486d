-- What links and stations tell of themselves to whoever reasons about them, and what their calls do to it.
use Rattle.std.specs.Prelude.{ℕ, ◌≤◌, ◌≡◌, ◌⊎◌, List, [], ◌∷◌, ◌++◌, length, take, drop}
use Rattle.std.specs.Prelude.{◌+◌, Option, Some, None}
use Rattle.mta_links.specs.declared.role.Role.{Role}

-- the octets that were got from the peer, those that it has still to give, and those that were put
pub record Talk : Type 0 where
  pub got : List ℕ
  pub left : List ℕ
  pub put : List ℕ

pub record LinkView (L : Type 0) : Type 1 where
  -- the octets both ways, where the link tells them
  pub talk : L → Option Talk
  -- how often the link has failed
  pub faults : L → ℕ

-- what a session's link has carried, and how often it has failed
pub record Session : Type 0 where
  pub talk : Talk
  pub faults : ℕ

-- the sessions to come, as their links stand, and those that are over, in the order in which their links came back
pub record Served : Type 0 where
  pub to_come : List Session
  pub over : List Session

pub record StationView (S : Type 0) : Type 1 where
  pub role : S → Role
  -- the sessions to come and those that are over, where the station tells them
  pub served : S → Option Served
  -- how many links that the station gave have not come back
  pub out : S → ℕ
  -- how often the station has failed
  pub faults : S → ℕ

-- objects that tell nothing but their faults, as a connection does
abbrev pub untold_link : {L : Type 0} → (L → ℕ) → LinkView L
untold_link faults = record { talk = λ _. None; faults = faults }

abbrev pub untold_station : {S : Type 0} → (S → Role) → (S → ℕ) → (S → ℕ) → StationView S
untold_station role out faults = record { role = role; served = λ _. None; out = out; faults = faults }

-- It is told before exactly where it is told after, and the step leads from the one to the other.
pub record Leads {T : Type 0} (step : T → T → Type 0) (old new : Option T) : Type 0 where
  pub each : (f : T) → old ≡ Some f → (g : T) × (new ≡ Some g) × step f g
  pub back : (g : T) → new ≡ Some g → (f : T) × (old ≡ Some f) × step f g

-- a link gave the first n octets of what is left into a buffer
pub record Gets (n : ℕ) (into : List ℕ) (f g : Talk) : Type 0 where
  pub fits : n ≤ length f.left
  pub moved : take n into ≡ take n f.left
  pub got : g.got ≡ f.got ++ take n f.left
  pub left : g.left ≡ drop n f.left
  pub put : g.put ≡ f.put
  pub some : n ≡ 0 → (length into ≡ 0) ⊎ (f.left ≡ [])

-- a link took the first n octets of the piece
pub record Puts (n : ℕ) (bytes : List ℕ) (f g : Talk) : Type 0 where
  pub got : g.got ≡ f.got
  pub left : g.left ≡ f.left
  pub put : g.put ≡ f.put ++ take n bytes

-- no session is to come
abbrev pub NoneLeft : Served → Served → Type 0
NoneLeft f g = (f.to_come ≡ []) × (g ≡ f)

-- a station gave the link of the first session to come, which tells this and has failed so often
pub record Gives (told : Option Talk) (faults : ℕ) (f g : Served) : Type 0 where
  pub first : (t : Talk) × (told ≡ Some t) × (f.to_come ≡ record { talk = t; faults = faults } ∷ g.to_come)
  pub over : g.over ≡ f.over

-- what a station answered for the next session: none where none is to come, or the link of the first one
abbrev pub LeadsNext : {L : Type 0} → LinkView L → Option L → Option Served → Option Served → Type 0
LeadsNext link None old new = Leads NoneLeft old new
LeadsNext link (Some l) old new = Leads (Gives (link.talk l) (link.faults l)) old new

-- a link that was given is out
abbrev pub one_more_out : {L : Type 0} → Option L → ℕ → ℕ
one_more_out None out = out
one_more_out (Some l) out = out + 1

-- a link that tells this and has failed so often came back, and its session is the last of those that are over
pub record Ends (t : Talk) (faults : ℕ) (f g : Served) : Type 0 where
  pub over : g.over ≡ f.over ++ record { talk = t; faults = faults } ∷ []
  pub to_come : g.to_come ≡ f.to_come

-- what a station that takes this link back makes of the sessions, where the link tells its octets
abbrev pub LeadsBack : {L : Type 0} → LinkView L → L → Option Served → Option Served → Type 0
LeadsBack link l old new = (t : Talk) → link.talk l ≡ Some t → Leads (Ends t (link.faults l)) old new
