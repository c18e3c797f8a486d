-- What a link has carried since a moment: the units read of what it gave, and the octets put.
use Rattle.std.specs.Prelude.{◌≡◌, ◌⊎◌, ◌<◌, ◌+◌, ◌^◌, ℕ, Bool, true, false}
use Rattle.std.specs.Prelude.{Option, Some, List, [], ◌∷◌, ◌++◌, length, take}
use Rattle.mta_edge.specs.Causes.{Rose}
use Rattle.mta_links.specs.Links.{LinkView, Talk, Leads}
use Rattle.mta_units.specs.declared.unit.Unit.{Unit as AnyUnit}
use Rattle.mta_units.specs.declared.front.BadUnit.{BadUnit}
use Rattle.mta_units.specs.Feed.{Feed}
use Rattle.mta_units.specs.Reading.{HasRead}
use Rattle.mta_units.specs.Spelling.{SpellsUnits, HasFault, IsCutOff}
use Rattle.mta_session_run.specs.declared.get.Heard.{Heard}
use Rattle.mta_session_run.specs.declared.get.Heard.TheVariants as heard

-- the units that were read, with what was not taken, are all that was got, and these octets were put
pub record Carried (us : List AnyUnit) (octets : List ℕ) (feed : Feed) (f g : Talk) : Type 0 where
  pub stream : List ℕ
  pub read : HasRead us stream feed
  pub got : g.got ≡ f.got ++ stream
  pub put : g.put ≡ f.put ++ octets

-- the units that were read stand at the front of what was got
pub record Fronted (us : List AnyUnit) (octets : List ℕ) (f g : Talk) : Type 0 where
  pub front : List ℕ
  pub rest : List ℕ
  pub spelled : SpellsUnits us front
  pub got : g.got ≡ f.got ++ (front ++ rest)
  pub put : g.put ≡ f.put ++ octets

-- More octets were fed, of those that can be counted, or none.
abbrev pub FedBy : Bool → Feed → Feed → Type 0
FedBy true old new =
    (new.at ≡ old.at) × (length old.left < length new.left) × (old.at + length old.left < 2 ^ 64)
FedBy false old new = new.left ≡ old.left

-- the input of the link was read to its end
abbrev pub IsAtEnd : {L : Type 0} → LinkView L → L → Type 0
IsAtEnd model link = (g : Talk) → model.talk link ≡ Some g → g.left ≡ []

-- Why no more comes: the link failed, or its input was read to its end.
abbrev pub IsOver : {L : Type 0} → LinkView L → (before : ℕ) → L → Type 0
IsOver model before link = Rose before (model.faults link) ⊎ IsAtEnd model link

abbrev pub and_heard : List AnyUnit → Heard → List AnyUnit
and_heard us (heard.Unit u) = us ++ u ∷ []
and_heard us heard.Bad = us
and_heard us heard.Over = us

-- What is left where no unit came, and why.
abbrev pub Ends : {L : Type 0} → LinkView L → (before : ℕ) → Heard → L → Feed → Type 0
Ends model before (heard.Unit u) link feed = Unit {0}
Ends model before heard.Bad link feed = (k : BadUnit) × HasFault k feed.left
Ends model before heard.Over link feed = IsCutOff feed.left × IsOver model before link

-- a link took these octets
pub record PutsAll (octets : List ℕ) (f g : Talk) : Type 0 where
  pub got : g.got ≡ f.got
  pub left : g.left ≡ f.left
  pub put : g.put ≡ f.put ++ octets

-- a link took a front of these octets
abbrev pub PutsFront : List ℕ → Option Talk → Option Talk → Type 0
PutsFront octets old new = (n : ℕ) × Leads (PutsAll (take n octets)) old new
