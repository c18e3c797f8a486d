-- Distribution lists (X.402, clause 7; X.411, clause 14: distribution list expansion): the history of expansions, who
-- posts, and who may.
use Rattle.std.specs.Prelude.{ℕ, Bool, List, length, map, reverse, slice_get, ◌-◌, Option, nat_le, ◌||◌}
use Rattle.std.specs.Prelude.{◌==◌}
use Rattle.std.specs.List.{list_any}
use Rattle.std.specs.Option.{option_map_or}
use Rattle.mta_names.specs.declared.attributes.Attributes.{Attributes}
use Rattle.mta_names.specs.Normal.{is_same_name}
use Rattle.mta_name_text.specs.Routes.{has_parts, route_attributes}
use Rattle.mta_fields.specs.declared.expansion.ExpansionFields.{ExpansionFields}
use Rattle.mta_envelope.specs.declared.envelope.EnvelopeFields.{EnvelopeFields}
use Rattle.mta_tables.specs.declared.entry.MailList.{MailList}

-- the most names of a history
abbrev pub longest_history : ℕ
longest_history = 512

abbrev pub is_of : Attributes → ExpansionFields → Bool
is_of n x = is_same_name x.name n

-- the list was expanded before
abbrev pub is_in_history : MailList → EnvelopeFields → Bool
is_in_history l e = list_any (is_of l.name) e.history

abbrev pub name_of : ExpansionFields → Attributes
name_of x = x.name

-- the lists of the history, the last one first
abbrev pub lists_behind : EnvelopeFields → List Attributes
lists_behind e = reverse (map name_of e.history)

-- the list that was expanded last
abbrev pub last_list : EnvelopeFields → Option ExpansionFields
last_list e = slice_get e.history (length e.history - 1)

-- who posts: the list that was expanded last, or the originator
abbrev pub poster : EnvelopeFields → Attributes
poster e = option_map_or name_of (last_list e) e.originator

abbrev pub is_on : Attributes → List (List ℕ) → Bool
is_on n pattern = has_parts pattern (route_attributes n)

-- everybody may post where no pattern is given, and else whom a pattern matches
abbrev pub may_post : MailList → Attributes → Bool
may_post l n = (length l.from == 0) || list_any (is_on n) l.from

abbrev pub has_full_history : EnvelopeFields → Bool
has_full_history e = nat_le longest_history (length e.history)
