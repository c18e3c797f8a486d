-- Indexes of the lines of a kind by digests, and what is found by them.
use Rattle.std.specs.Prelude.{◌≡◌, ℕ, ◌≤◌, Bool, true, false, List, length, map, Option}
use Rattle.std.specs.Prelude.{Some, None, slice_get, if◌then◌else◌}
use Rattle.mta_names.specs.declared.attributes.Attributes.{Attributes}
use Rattle.mta_names.specs.Normal.{normal_text, normal_list}
use Rattle.mta_name_digest.specs.Digests.{text_digest, texts_digest, name_digest}
use Rattle.mta_name_digest.specs.Places.{PlacesValue, place_of}
use Rattle.mta_tables.specs.declared.entry.Mailbox.{Mailbox}
use Rattle.mta_tables.specs.declared.entry.MailList.{MailList}
use Rattle.mta_tables.specs.declared.entry.Peer.{Peer}
use Rattle.mta_tables.specs.declared.entry.Route.{Route}

-- an index that is whole says the place of each by its digest
abbrev pub IsIndex : {X : Type 0} → (X → ℕ) → List X → PlacesValue → Type 0
IsIndex {X} digest xs places =
    places.whole ≡ true → (i : ℕ) (x : X) → slice_get xs i ≡ Some x → place_of places (digest x) ≡ Some i

abbrev pub passes_in : {X : Type 0} → (X → Bool) → Option X → Bool
passes_in p None = false
passes_in p (Some x) = p x

-- what stands at the place passes
abbrev pub passes_at : {X : Type 0} → (X → Bool) → List X → ℕ → Bool
passes_at p xs i = passes_in p (slice_get xs i)

-- the place that an index says, where what stands there passes
abbrev pub checked : {X : Type 0} → (X → Bool) → List X → Option ℕ → Option ℕ
checked p xs None = None
checked p xs (Some i) = if passes_at p xs i then Some i else None

-- each route has a part
abbrev pub HaveParts : List Route → Type 0
HaveParts routes = (i : ℕ) (r : Route) → slice_get routes i ≡ Some r → 1 ≤ length r.pattern

-- ---- digests of lines

abbrev pub word_digest : List ℕ → ℕ
word_digest word = text_digest 0 word

abbrev pub digest_of_name : Attributes → ℕ
digest_of_name n = name_digest (normal_list n)

abbrev pub pattern_digest : List (List ℕ) → ℕ
pattern_digest parts = texts_digest 0 (map normal_text parts)

abbrev pub peer_word : Peer → ℕ
peer_word p = word_digest p.name

abbrev pub mailbox_word : Mailbox → ℕ
mailbox_word m = word_digest m.word

abbrev pub mailbox_name : Mailbox → ℕ
mailbox_name m = digest_of_name m.name

abbrev pub list_word : MailList → ℕ
list_word l = word_digest l.word

abbrev pub list_name : MailList → ℕ
list_name l = digest_of_name l.name

abbrev pub route_pattern : Route → ℕ
route_pattern r = pattern_digest r.pattern
