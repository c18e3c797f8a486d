-- How many octets the unit at the front has.
use Rattle.std.proofs.Common.{◌≡◌, append_assoc, ℕ, zero, suc, ◌+◌, ◌-◌, ◌^◌, ◌≤◌, ◌<◌, List, [], ◌∷◌, ◌++◌, length}
use Rattle.std.proofs.Common.{refl, sym, ap}
use Rattle.std.proofs.Common.{subst, ◌∙◌, arith}
use Rattle.std.specs.Int.{w32, w64, from_be_bytes, to_be_bytes}
use Rattle.std.proofs.lemmas.List.{append-nil, length-append}
use Rattle.std.proofs.lemmas.Nat.{from_be_bytes-to_be_bytes_4}
use Rattle.mta_ber.specs.Octet.{IsOctets}
use Rattle.mta_follow_units.specs.declared.due.Due.{Due}
use Rattle.mta_follow_units.specs.declared.due.Due.TheVariants as due
use Rattle.mta_follow_units.specs.Feed.{IsFeed, unit_size, wanted}
use Rattle.mta_follow_units.specs.Look.{Bad, Cut, Done, Kept, Look, Record, look}
use Rattle.mta_follow_units.specs.Laws.{Stands, StandsAlone}
use Rattle.mta_follow_units.specs.Units.{BeginsNumber, BeginsRecord, IsCut, in_body, in_kind, in_size, done_kind}
use Rattle.mta_follow_units.specs.Units.{kept_kind, most, number_unit}
use Rattle.mta_follow_units.specs.Units.{record_head, record_kind, record_unit}
use Rattle.mta_follow_units.proofs.AgainLaws.{most_fits}
use Rattle.mta_follow_units.proofs.LookLaws.{stands}

pub least : (octets : List ℕ) → 5 ≤ unit_size octets
unfolding unit_size
least [] = omega arith
least (a ∷ []) = omega arith
least (a ∷ b ∷ []) = omega arith
least (a ∷ b ∷ c ∷ []) = omega arith
least (a ∷ b ∷ c ∷ d ∷ []) = omega arith
least (a ∷ b ∷ c ∷ d ∷ e ∷ octets) = omega arith

pub grows : (octets more : List ℕ) → unit_size octets ≤ unit_size (octets ++ more)
unfolding unit_size
grows [] more = least more
grows (a ∷ []) more = least (a ∷ more)
grows (a ∷ b ∷ []) more = least (a ∷ b ∷ more)
grows (a ∷ b ∷ c ∷ []) more = least (a ∷ b ∷ c ∷ more)
grows (a ∷ b ∷ c ∷ d ∷ []) more = least (a ∷ b ∷ c ∷ d ∷ more)
grows (a ∷ b ∷ c ∷ d ∷ e ∷ octets) more = omega arith

-- a piece that is wanted is fed
pub feeds : (at : ℕ) (left piece now : List ℕ) (spare capacity capacity' : ℕ) → IsFeed at left spare capacity
    → length piece ≤ wanted left → now ≡ left ++ piece → at + length left + length piece < 2 ^ 64
    → IsOctets (left ++ piece) → length now ≤ capacity' → IsFeed at now 0 capacity'
feeds at left piece now spare capacity capacity' feed fits now_is room bytes memory =
    let size : length now ≡ length left + length piece = ap length now_is ∙ length-append left piece in
    let more : unit_size left ≤ unit_size now =
    subst (λ l. unit_size left ≤ unit_size l) (sym now_is) (grows left piece)
    in
    record {
      room = omega (arith, size, room);
      within = omega (arith, size, more, fits, feed.within);
      bytes = subst IsOctets (sym now_is) bytes;
      memory = omega (arith, memory);
    }

-- octets behind octets
pub bytes_join : (a b : List ℕ) → IsOctets a → IsOctets b → IsOctets (a ++ b)
bytes_join [] b h g = g
bytes_join (x ∷ a) b h g = one (bytes_join a b (λ i. h (suc i)) g)
  where
    one : IsOctets (a ++ b) → IsOctets (x ∷ (a ++ b))
    one rest zero = h 0
    one rest (suc i) = rest i

-- what is cut off wants more
wants : (d : Due) (octets : List ℕ) → IsCut d octets → 0 < wanted octets
unfolding unit_size
wants d [] h = omega arith
wants d (a ∷ []) h = omega arith
wants d (a ∷ b ∷ []) h = omega arith
wants d (a ∷ b ∷ c ∷ []) h = omega arith
wants d (a ∷ b ∷ c ∷ x ∷ []) h = omega arith
wants d (a ∷ b ∷ c ∷ x ∷ k ∷ t) (in_size short) = absurd (omega (arith, short))
wants d (a ∷ b ∷ c ∷ x ∷ k ∷ t) (in_kind four sized) = absurd (omega (arith, four))
wants d (a ∷ b ∷ c ∷ x ∷ k ∷ t) (in_body long short sized of) = omega (arith, short)

pub cut_wants : (d : Due) (octets : List ℕ) → IsOctets octets → look d octets ≡ Cut → 0 < wanted octets
cut_wants d octets bytes e = wants d octets (subst (λ s. Stands d s octets) e (stands d octets bytes))

-- ---- nothing stands behind the unit

none_behind : (front rest : List ℕ) → length (front ++ rest) ≤ length front → rest ≡ []
none_behind front [] h = refl
none_behind front (x ∷ rest) h = absurd (omega (arith, h, length-append front (x ∷ rest)))

alone : (octets front rest : List ℕ) → octets ≡ front ++ rest → length octets ≤ length front → octets ≡ front
alone octets front rest is within =
    is ∙ ap (λ l. front ++ l) (none_behind front rest (omega (arith, ap length is, within))) ∙ append-nil front

-- the size of a unit that begins with its head
head_size : (n kind : ℕ) (tail : List ℕ) → n < 2 ^ 32 → unit_size (to_be_bytes w32 n ++ kind ∷ tail) ≡ 5 + n
unfolding unit_size
head_size n kind tail fits = ap (λ m. 5 + m) (from_be_bytes-to_be_bytes_4 n fits)

record_alone : (got : ℕ) (body octets : List ℕ) → length octets ≤ unit_size octets → BeginsRecord got body octets
    → (length body ≤ most got) × (octets ≡ record_unit body)
record_alone got body octets within h =
    let small : length body < 2 ^ 32 = omega (arith, h.0, most_fits got) in
    let shape : record_unit body ++ h.1 ≡ to_be_bytes w32 (length body) ++ record_kind ∷ (body ++ h.1)
    = simp append_assoc in
    let size : unit_size octets ≡ 5 + length body =
    ap unit_size (h.2 ∙ shape) ∙ head_size (length body) record_kind (body ++ h.1) small in
    let long : length (record_unit body) ≡ 5 + length body = record_length body in
    (h.0, alone octets (record_unit body) h.1 h.2 (omega (arith, within, size, long)))
  where
    record_length : (body : List ℕ) → length (record_unit body) ≡ 5 + length body
    record_length body = length-append (record_head (length body)) body

number_alone : (kind number : ℕ) (octets : List ℕ) → length octets ≤ unit_size octets
    → BeginsNumber kind number octets → octets ≡ number_unit kind number
unfolding unit_size
number_alone kind number octets within h =
    let size : unit_size octets ≡ 13 = ap unit_size h.1 in
    let long : length (number_unit kind number) ≡ 13 = refl in
    alone octets (number_unit kind number) h.0 h.1 (omega (arith, within, size, long))

pub stands_alone : (d : Due) (seen : Look) (octets : List ℕ) → length octets ≤ unit_size octets → Stands d seen octets
    → StandsAlone d seen octets
stands_alone d Cut octets within h = h
stands_alone d Bad octets within h = h
stands_alone (due.Record got) (Record body) octets within h = record_alone got body octets within h
stands_alone (due.Record got) Done octets within h = number_alone done_kind got octets within h
stands_alone (due.Record got) Kept octets within h = h
stands_alone (due.Kept number) (Record body) octets within h = h
stands_alone (due.Kept number) Done octets within h = h
stands_alone (due.Kept number) Kept octets within h = number_alone kept_kind number octets within h
