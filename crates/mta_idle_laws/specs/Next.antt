-- When a verdict on an item may change next (X.411, clause 14: deferral, latest delivery, maximum time).
use Rattle.std.specs.Prelude.{ℕ, List, Option, Some, None, nat_lt, min, if◌then◌else◌}
use Rattle.mta_apdu.specs.Apdus.{ApduValue}
use Rattle.mta_tables.specs.Tables.{TablesValue}
use Rattle.mta_procedures.specs.declared.terms.Terms.{Terms}
use Rattle.mta_procedures.specs.Situations.{Situation, situation, expiry, is_expired}
use Rattle.mta_machine.specs.Apdu.{value_of}
use Rattle.mta_machine.specs.Rules.{tables_value, terms_in}

-- a moment that is to come, or the end of the deferral where that is to come before it
abbrev pub up_to_deferral : (now : ℕ) → (deferral : Option ℕ) → (until : ℕ) → ℕ
up_to_deferral now None until = until
up_to_deferral now (Some d) until = if nat_lt now d then min d until else until

-- the end of the deferral while that is to come, or the expiry, which comes before it where there is an early latest
-- delivery time; none once the item has expired
abbrev pub next_in : Situation → Terms → Option ℕ
next_in s t = if is_expired s t then None else Some (up_to_deferral s.moment t.deferral (expiry s t))

abbrev pub next_under : (format : ℕ) → Option TablesValue → Option ApduValue → (arrival moment : ℕ)
    → Option ℕ
next_under format None v arrival moment = None
next_under format (Some t) None arrival moment = None
next_under format (Some t) (Some v) arrival moment = next_in (situation t arrival moment) (terms_in format v)

-- the moment, behind this one, at which a verdict in a format on the recipients of an APDU may change next; none once
-- the APDU has expired, or where text or octets are not read
unfoldable pub next_change : (format : ℕ) (text octets : List ℕ) (arrival moment : ℕ) → Option ℕ
next_change format text octets arrival moment =
    next_under format (tables_value text) (value_of octets) arrival moment
