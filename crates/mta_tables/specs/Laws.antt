-- What the hop of a name is.
use Rattle.std.specs.Prelude.{◌≡◌, ℕ}
use Rattle.mta_names.specs.declared.attributes.Attributes.{Attributes}
use Rattle.mta_name_text.specs.Routes.{HasRoute}
use Rattle.mta_tables.specs.declared.entry.Route.{Route}
use Rattle.mta_tables.specs.declared.hop.Hop.{Hop}
use Rattle.mta_tables.specs.declared.hop.Hop.TheVariants as Hops
use Rattle.mta_tables.specs.Hops.{StandsAt, IsBestAt, hop_of_target, IsMailboxAt, IsListAt, IsNoneHere}
use Rattle.mta_tables.specs.Tables.{TablesValue}

-- where there is no mailbox and no list of the name, the hop goes where its best route goes
pub record IsToRoute (t : TablesValue) (n : Attributes) (hop : Hop) : Type 0 where
  pub none_here : IsNoneHere t n
  pub place : ℕ
  pub route : Route
  pub best : IsBestAt t.routes n place route
  pub goes : hop ≡ hop_of_target route.target

pub record IsOnNoRoute (t : TablesValue) (n : Attributes) : Type 0 where
  pub none_here : IsNoneHere t n
  pub none : (place : ℕ) (r : Route) → StandsAt t.routes place r → HasRoute n r.pattern → ⊥

-- a mailbox of that name, or a list where there is no mailbox, or where the best route goes where there is neither
pub data IsBestHop (t : TablesValue) (n : Attributes) (hop : Hop) : Type 0 where
  mailbox : (place : ℕ) → IsMailboxAt t n place → hop ≡ Hops.Local place → IsBestHop t n hop
  list : (place : ℕ) → (no_mailbox : (i : ℕ) → IsMailboxAt t n i → ⊥) → IsListAt t n place
      → hop ≡ Hops.List place → IsBestHop t n hop
  route : IsToRoute t n hop → IsBestHop t n hop
  nowhere : IsOnNoRoute t n → hop ≡ Hops.None → IsBestHop t n hop
