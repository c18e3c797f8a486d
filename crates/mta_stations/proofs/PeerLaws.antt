-- Which peer is found is the first that the tables do not name.
use Rattle.std.proofs.Common.{◌≡◌, ℕ, true, false, List, Option, Some, None, get_or}
use Rattle.std.specs.Prelude.{All, IfSome, IfNone, is_none, option_and_then}
use Rattle.std.specs.List.{find}
use Rattle.mta_links.specs.declared.role.Role.{Role}
use Rattle.mta_links.specs.declared.role.Role.TheVariants as Roles
use Rattle.mta_tables.specs.Hops.{IsPeerAt}
use Rattle.mta_tables.specs.Tables.{TablesValue, peer_of}
use Rattle.mta_tables.proofs.HopLaws.{peer_found}
use Rattle.mta_stations.specs.Peers.{IsNamed, IsUnnamed, called, is_unnamed, unnamed_peer}
use Rattle.mta_stations.proofs.Finds.{Found, find_none, find_some}

named_at : (t : TablesValue) (peer : List ℕ) (o : Option ℕ) → is_none o ≡ false → IsPeerAt t peer o
    → IsNamed t (Roles.Out peer)
named_at t peer None e h = absurd cc
named_at t peer (Some place) e h = (place, h)

unnamed_at : (t : TablesValue) (peer : List ℕ) (o : Option ℕ) → is_none o ≡ true → IsPeerAt t peer o
    → IsPeerAt t peer None
unnamed_at t peer None e h = h
unnamed_at t peer (Some place) e h = absurd cc

named : (t : TablesValue) (role : Role) → is_unnamed t role ≡ false → IsNamed t role
named t Roles.In e = tt
named t (Roles.Out peer) e = named_at t peer (peer_of t peer) e (peer_found t peer)

found_of : (t : TablesValue) (roles : List Role) (o : Option Role) → IfSome o (Found (is_unnamed t) roles)
    → IfSome (option_and_then called o) (IsUnnamed t roles)
found_of t roles None h = tt
found_of t roles (Some Roles.In) h = tt
found_of t roles (Some (Roles.Out peer)) h = record {
  before = h.before;
  behind = h.behind;
  stands = h.stands;
  unnamed = unnamed_at t peer (peer_of t peer) h.passes (peer_found t peer);
  named = λ k d lt. named t (get_or h.before k d) (h.others k d lt);
}

none_of : (t : TablesValue) (roles : List Role) (o : Option Role) → IfSome o (Found (is_unnamed t) roles)
    → IfNone o (All (λ role. is_unnamed t role ≡ false) roles)
    → IfNone (option_and_then called o) (All (IsNamed t) roles)
none_of t roles None f h = λ k d lt. named t (get_or roles k d) (h k d lt)
none_of t roles (Some Roles.In) f h = let e : false ≡ true = f.passes in absurd cc
none_of t roles (Some (Roles.Out peer)) f h = tt

pub peer_is_unnamed : (t : TablesValue) (roles : List Role) → IfSome (unnamed_peer t roles) (IsUnnamed t roles)
peer_is_unnamed t roles = found_of t roles (find (is_unnamed t) roles) (find_some (is_unnamed t) roles)

pub all_are_named : (t : TablesValue) (roles : List Role) → IfNone (unnamed_peer t roles) (All (IsNamed t) roles)
all_are_named t roles = none_of t roles (find (is_unnamed t) roles) (find_some (is_unnamed t) roles)
    (find_none (is_unnamed t) roles)
