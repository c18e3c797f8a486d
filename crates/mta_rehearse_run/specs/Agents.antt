-- Agents, each by its tables, and told by its place, from 0.
use Rattle.std.specs.Prelude.{◌≡◌, ◌⊎◌, ℕ, ◌+◌, ◌<◌, Bool, List, [], Option, Some, None, slice_get}
use Rattle.std.specs.List.{position}
use Rattle.std.specs.Str.{bytes_eq}
use Rattle.mta_fields.specs.Domains.{IsSameDomain}
use Rattle.mta_tables.specs.declared.entry.Mailbox.{Mailbox}
use Rattle.mta_tables.specs.declared.entry.MailList.{MailList}
use Rattle.mta_tables.specs.Indexes.{word_digest}
use Rattle.mta_tables.specs.Tables.{TablesValue}

abbrev pub has_name : List ℕ → TablesValue → Bool
has_name word t = bytes_eq t.own word

abbrev pub own_digest : TablesValue → ℕ
own_digest t = word_digest t.own

-- the agent of this name
abbrev pub agent_named : List TablesValue → List ℕ → Option ℕ
agent_named agents word = position (has_name word) agents

-- ---- words at places

abbrev pub own_in : Option TablesValue → List ℕ
own_in None = []
own_in (Some t) = t.own

abbrev pub own_at : List TablesValue → ℕ → List ℕ
own_at agents a = own_in (slice_get agents a)

abbrev pub mailbox_word_in : Option Mailbox → List ℕ
mailbox_word_in None = []
mailbox_word_in (Some m) = m.word

abbrev pub mailbox_in : Option TablesValue → ℕ → List ℕ
mailbox_in None place = []
mailbox_in (Some t) place = mailbox_word_in (slice_get t.mailboxes place)

abbrev pub mailbox_at : List TablesValue → ℕ → ℕ → List ℕ
mailbox_at agents a place = mailbox_in (slice_get agents a) place

abbrev pub list_word_in : Option MailList → List ℕ
list_word_in None = []
list_word_in (Some l) = l.word

abbrev pub list_in : Option TablesValue → ℕ → List ℕ
list_in None place = []
list_in (Some t) place = list_word_in (slice_get t.lists place)

abbrev pub list_at : List TablesValue → ℕ → ℕ → List ℕ
list_at agents a place = list_in (slice_get agents a) place

-- ---- agents that differ

-- the name, or the domain
abbrev pub IsSameAgent : TablesValue → TablesValue → Type 0
IsSameAgent s t = (s.own ≡ t.own) ⊎ IsSameDomain s.domain t.domain

pub record StandsAt (agents : List TablesValue) (place : ℕ) (t : TablesValue) : Type 0 where
  pub found : slice_get agents place ≡ Some t

-- the agents at two places have one name or one domain
pub record AreSameAt (agents : List TablesValue) (i j : ℕ) : Type 0 where
  pub first : TablesValue
  pub second : TablesValue
  pub there : StandsAt agents i first
  pub here : StandsAt agents j second
  pub same : IsSameAgent first second

-- an earlier agent has the name or the domain of the one at this place
pub record IsTwiceAt (agents : List TablesValue) (place : ℕ) : Type 0 where
  pub earlier : ℕ
  pub before : earlier < place
  pub same : AreSameAt agents earlier place

abbrev pub AreApart : List TablesValue → Type 0
AreApart agents = (place : ℕ) → IsTwiceAt agents place → ⊥

-- the agent of this number, from 1, is the first of which an earlier one has the name or the domain
pub record IsFirstTwice (agents : List TablesValue) (number : ℕ) : Type 0 where
  pub place : ℕ
  pub number_is : number ≡ place + 1
  pub twice : IsTwiceAt agents place
  pub none_before : (i : ℕ) → i < place → IsTwiceAt agents i → ⊥
