-- What all tables keep: limits, one mailbox or list of a name, one route of a pattern, and peers that are there.
use Rattle.std.specs.Prelude.{◌≡◌, ℕ, ◌<◌, ◌≤◌, List, length, slice_get, Some}
use Rattle.mta_names.specs.Normal.{IsSameName}
use Rattle.mta_tables.specs.declared.entry.Holds.{Holds}
use Rattle.mta_tables.specs.declared.entry.Mailbox.{Mailbox}
use Rattle.mta_tables.specs.declared.entry.MailList.{MailList}
use Rattle.mta_tables.specs.declared.entry.Peer.{Peer}
use Rattle.mta_tables.specs.declared.entry.Route.{Route}
use Rattle.mta_tables.specs.declared.entry.Target.{Target}
use Rattle.mta_tables.specs.declared.entry.Target.TheVariants as Targets
use Rattle.mta_tables.specs.Sameness.{IsSamePattern}
use Rattle.mta_tables.specs.Tables.{TablesValue}

-- the part at this place
pub record IsAt {X : Type 0} (xs : List X) (place : ℕ) (x : X) : Type 0 where
  pub found : slice_get xs place ≡ Some x

-- at most one place has what is the same
abbrev pub AreApart : {X : Type 0} → (X → X → Type 0) → List X → Type 0
AreApart {X} Same xs = (i j : ℕ) (x y : X) → IsAt xs i x → IsAt xs j y → Same x y → i ≡ j

abbrev pub IsPeerWord : Peer → Peer → Type 0
IsPeerWord p q = p.name ≡ q.name

abbrev pub IsMailboxWord : Mailbox → Mailbox → Type 0
IsMailboxWord m n = m.word ≡ n.word

abbrev pub IsMailboxName : Mailbox → Mailbox → Type 0
IsMailboxName m n = IsSameName m.name n.name

abbrev pub IsListWord : MailList → MailList → Type 0
IsListWord l m = l.word ≡ m.word

abbrev pub IsListName : MailList → MailList → Type 0
IsListName l m = IsSameName l.name m.name

abbrev pub IsRoutePattern : Route → Route → Type 0
IsRoutePattern r s = IsSamePattern r.pattern s.pattern

abbrev pub IsTarget : ℕ → Target → Type 0
IsTarget peers Targets.Here = Unit {0}
IsTarget peers (Targets.Peer place) = place < peers

-- a year at most
pub record AreHolds (h : Holds) : Type 0 where
  pub urgent : h.urgent ≤ 31536000
  pub normal : h.normal ≤ 31536000
  pub non_urgent : h.non_urgent ≤ 31536000

pub record AreTables (t : TablesValue) : Type 0 where
  pub few_peers : length t.peers ≤ 64
  pub few_mailboxes : length t.mailboxes ≤ 4096
  pub few_lists : length t.lists ≤ 256
  pub few_routes : length t.routes ≤ 4096
  pub few_from : (place : ℕ) (l : MailList) → IsAt t.lists place l → length l.from ≤ 100
  pub few_members : (place : ℕ) (l : MailList) → IsAt t.lists place l → length l.members ≤ 1000
  pub peer_words : AreApart IsPeerWord t.peers
  pub mailbox_words : AreApart IsMailboxWord t.mailboxes
  pub list_words : AreApart IsListWord t.lists
  pub mailbox_names : AreApart IsMailboxName t.mailboxes
  pub list_names : AreApart IsListName t.lists
  pub names : (i j : ℕ) (m : Mailbox) (l : MailList) → IsAt t.mailboxes i m → IsAt t.lists j l
      → IsSameName m.name l.name → ⊥
  pub patterns : AreApart IsRoutePattern t.routes
  pub targets : (place : ℕ) (r : Route) → IsAt t.routes place r → IsTarget (length t.peers) r.target
  pub holds : AreHolds t.holds
