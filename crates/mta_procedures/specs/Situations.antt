-- Under which tables, since when and at which moment an item is looked at, and when it expires (own hold times;
-- X.411, clause 14: deferral, latest delivery, maximum time).
use Rattle.std.specs.Prelude.{ℕ, ◌+◌, ◌==◌, Bool, false, Option, Some, None, max, min, nat_le, nat_lt, unwrap_or}
use Rattle.std.specs.Prelude.{if◌then◌else◌}
use Rattle.std.specs.Option.{option_map_or}
use Rattle.mta_envelope.specs.declared.envelope.EnvelopeFields.{EnvelopeFields}
use Rattle.mta_envelope.specs.declared.priority.Priority.{Priority}
use Rattle.mta_envelope.specs.declared.priority.Priority.TheVariants.{Normal, NonUrgent, Urgent}
use Rattle.mta_tables.specs.declared.entry.Holds.{Holds}
use Rattle.mta_tables.specs.Tables.{TablesValue}
use Rattle.mta_procedures.specs.declared.terms.Terms.{Terms}

-- the tables recorded last, when the item arrived, and the moment at which it is looked at
pub record Situation : Type 0 where
  pub tables : TablesValue
  pub arrival : ℕ
  pub moment : ℕ

abbrev pub situation : TablesValue → ℕ → ℕ → Situation
situation tables arrival moment = record { tables = tables; arrival = arrival; moment = moment }

-- the latest delivery time counts in format 2 alone
abbrev pub latest_in : (format : ℕ) → EnvelopeFields → Option ℕ
latest_in format e = if format == 2 then e.latest else None

-- what an envelope says of its time, as far as that counts in a format
abbrev pub terms_of : (format : ℕ) → EnvelopeFields → Terms
terms_of format e = record { priority = e.priority; deferral = e.deferral; latest = latest_in format e }

-- a report has the priority normal, no deferral and no latest delivery time
abbrev pub report_terms : Terms
report_terms = record { priority = Normal; deferral = None; latest = None }

-- the seconds for which a priority may wait
abbrev pub hold_of : Holds → Priority → ℕ
hold_of h Urgent = h.urgent
hold_of h Normal = h.normal
hold_of h NonUrgent = h.non_urgent

-- the greater of the arrival and the deferral, and the hold time of the priority
abbrev pub held_until : Situation → Terms → ℕ
held_until s t = max s.arrival (unwrap_or t.deferral 0) + hold_of s.tables.holds t.priority

-- a moment, or the latest delivery time where that is less
abbrev pub earlier : ℕ → Option ℕ → ℕ
earlier moment None = moment
earlier moment (Some latest) = min moment latest

-- the lesser of that and the latest delivery time, where there is one; it may be less than the arrival or the deferral
abbrev pub expiry : Situation → Terms → ℕ
expiry s t = earlier (held_until s t) t.latest

abbrev pub is_expired : Situation → Terms → Bool
is_expired s t = nat_le (expiry s t) s.moment

-- the deferral is still to come
abbrev pub is_deferred : Situation → Terms → Bool
is_deferred s t = option_map_or (λ d. nat_lt s.moment d) t.deferral false
