-- The tables of texts one behind another.
use Rattle.std.proofs.Common.{◌≡◌, ℕ, zero, suc, ◌+◌, true, List, [], ◌∷◌, ◌++◌, Option, Result, Ok, Err, refl, sym, ap}
use Rattle.std.proofs.Common.{subst, ◌∙◌, append_assoc}
use Rattle.mta_tables.specs.declared.fault.LineKind.{LineKind}
use Rattle.mta_tables.specs.declared.fault.LineKind.TheVariants as Kinds
use Rattle.mta_tables.specs.Lines.{◌>>=◌}
use Rattle.mta_tables.specs.Reading.{Bad, bad}
use Rattle.mta_tables.specs.Tables.{TablesValue}
use Rattle.mta_rehearse_run.specs.declared.stop.Stop.{Stop}
use Rattle.mta_rehearse_run.specs.declared.stop.Stop.TheVariants as Stops
use Rattle.mta_rehearse_run.specs.Network.{parted, lines_in, tables_behind, with_first, none_or, network_from}
use Rattle.mta_rehearse_run.specs.Network.{IsAdded, AddsRead, HasRead}

abbrev Read : Type 0
Read = Result (List TablesValue) Bad

pub none_more : (room before : ℕ) (octets : List ℕ) → room ≡ 0
    → network_from room before octets ≡ bad (before + 1) Kinds.TooMany
unfolding network_from
none_more zero before octets e = refl
none_more (suc room) before octets e = absurd cc

-- the tables behind the first, of the text in front of the first line between two and of what stands behind that
abbrev rest_from : (room before : ℕ) (text : List ℕ) → Option (List ℕ) → TablesValue → Read
rest_from room before text rest t = with_first t (none_or (network_from room (before + lines_in text + 1)) rest)

abbrev from_parts : (room before : ℕ) → List ℕ × Option (List ℕ) → Read
from_parts room before p = tables_behind before p.0 >>= rest_from room before p.0 p.1

one_text : (room before : ℕ) (octets : List ℕ)
    → network_from (suc room) before octets ≡ from_parts room before (parted true octets)
unfolding network_from
one_text room before octets = refl

abbrev bind : Result TablesValue Bad → (TablesValue → Read) → Read
bind read next = read >>= next

module _ (before : ℕ) (octets text : List ℕ) (rest : Option (List ℕ)) (cut : parted true octets ≡ (text, rest)) where
  parts : (less : ℕ) → network_from (suc less) before octets
      ≡ bind (tables_behind before text) (rest_from less before text rest)
  parts less = one_text less before octets ∙ ap (from_parts less before) cut

  pub text_read : (room less : ℕ) (t : TablesValue) → room ≡ suc less → tables_behind before text ≡ Ok t
      → network_from room before octets ≡ rest_from less before text rest t
  text_read room less t e h =
      ap (λ (k : ℕ). network_from k before octets) e ∙ parts less
      ∙ ap (λ (r : Result TablesValue Bad). bind r (rest_from less before text rest)) h

  pub text_bad : (room less : ℕ) (line : ℕ) (kind : LineKind) → room ≡ suc less
      → tables_behind before text ≡ bad line kind → network_from room before octets ≡ bad line kind
  text_bad room less line kind e h =
      ap (λ (k : ℕ). network_from k before octets) e ∙ parts less
      ∙ ap (λ (r : Result TablesValue Bad). bind r (rest_from less before text rest)) h

-- ---- what is added to the tables that were there

abbrev done_or : Type 0
done_or = Result (Unit {0}) Stop

-- a text of which the first bad line is that of all
pub adds_bad : (read : Result TablesValue Bad) (all : Read) (old mid new : List TablesValue) (stop : Stop)
    → ((line : ℕ) (kind : LineKind) → read ≡ bad line kind → all ≡ bad line kind)
    → IsAdded read old mid (Err stop) → AddsRead all old new (Err stop)
adds_bad read all old mid new Stops.Usage k h = absurd h
adds_bad read all old mid new (Stops.Tables line kind) k h = k line kind h
adds_bad read all old mid new Stops.Memory k h = tt
adds_bad read all old mid new Stops.Source k h = absurd h
adds_bad read all old mid new (Stops.Twice n) k h = absurd h
adds_bad read all old mid new (Stops.NoAgent name) k h = absurd h

-- the last text
pub adds_last : (read : Result TablesValue Bad) (all : Read) (old new : List TablesValue) (result : done_or)
    → ((t : TablesValue) → read ≡ Ok t → all ≡ Ok (t ∷ []))
    → ((line : ℕ) (kind : LineKind) → read ≡ bad line kind → all ≡ bad line kind)
    → IsAdded read old new result → AddsRead all old new result
adds_last read all old new (Ok done) g k h = (h.0 ∷ [], g h.0 h.1, h.2)
adds_last read all old new (Err stop) g k h = adds_bad read all old new new stop k h

adds_first : (t : TablesValue) (next all : Read) (old new : List TablesValue) (result : done_or)
    → all ≡ with_first t next → AddsRead next (old ++ t ∷ []) new result → AddsRead all old new result
adds_first t next all old new (Ok done) e h =
    (t ∷ h.0, e ∙ ap (with_first t) h.1, h.2 ∙ append_assoc old (t ∷ []) h.0)
adds_first t next all old new (Err Stops.Usage) e h = absurd h
adds_first t next all old new (Err (Stops.Tables line kind)) e h = e ∙ ap (with_first t) h
adds_first t next all old new (Err Stops.Memory) e h = tt
adds_first t next all old new (Err Stops.Source) e h = absurd h
adds_first t next all old new (Err (Stops.Twice n)) e h = absurd h
adds_first t next all old new (Err (Stops.NoAgent name)) e h = absurd h

-- a text and those behind it
pub adds_more : (read : Result TablesValue Bad) (next all : Read) (old mid new : List TablesValue) (result : done_or)
    → ((t : TablesValue) → read ≡ Ok t → all ≡ with_first t next)
    → (t : TablesValue) × (read ≡ Ok t) × (mid ≡ old ++ t ∷ []) → AddsRead next mid new result
    → AddsRead all old new result
adds_more read next all old mid new result g h k =
    adds_first h.0 next all old new result (g h.0 h.1)
    (subst (λ (xs : List TablesValue). AddsRead next xs new result) h.2 k)

-- ---- the tables of all

pub has_bad : (read all : Read) (old new : List TablesValue) (stop : Stop) → all ≡ read
    → AddsRead read old new (Err stop) → HasRead all (Err stop)
has_bad read all old new Stops.Usage e h = absurd h
has_bad read all old new (Stops.Tables line kind) e h = e ∙ h
has_bad read all old new Stops.Memory e h = tt
has_bad read all old new Stops.Source e h = absurd h
has_bad read all old new (Stops.Twice n) e h = absurd h
has_bad read all old new (Stops.NoAgent name) e h = absurd h

abbrev ok_of : List TablesValue → Read
ok_of xs = Ok xs

pub has_read : (read all : Read) (new : List TablesValue) (done : Unit {0}) → all ≡ read
    → AddsRead read [] new (Ok done) → all ≡ Ok new
has_read read all new done e h = e ∙ h.1 ∙ ap ok_of (sym h.2)
