-- What is answered continues the one reading of a stream.
use Rattle.std.proofs.Common.{◌≡◌, append_assoc, ℕ, List, [], ◌∷◌, ◌++◌, length, Option, Some, None, Result, Ok, Err}
use Rattle.std.proofs.Common.{refl, sym, ap, subst, ◌∙◌, inl, inr, arith}
use Rattle.std.specs.Prelude.{IfOk}
use Rattle.std.proofs.lemmas.List.{append-nil, length-append}
use Rattle.mta_ber.specs.Octet.{IsOctets}
use Rattle.mta_ber.proofs.RowLaws.{IsBytes-back}
use Rattle.mta_units.specs.declared.front.BadUnit.{BadUnit}
use Rattle.mta_units.specs.declared.unit.Unit.{Unit as AnyUnit}
use Rattle.mta_units.specs.declared.next.Next.{Next}
use Rattle.mta_units.specs.declared.next.Next.TheVariants as next
use Rattle.mta_units.specs.Look.{Look, Nothing, Fails, Reads, look, KeepsFault}
use Rattle.mta_units.specs.Spelling.{SpellsUnit, SpellsUnits, HasFault, IsCutOff}
use Rattle.mta_units.specs.Feed.{Feed, no_feed, fed, seen_by, answered, after, Goes}
use Rattle.mta_units.specs.Reading.{HasRead, and_next, Says, BeginsNone, StreamsHaveOneReading}
use Rattle.mta_units.proofs.LookLaws.{Sees, look_sound, cut_seen, fault_seen, unit_seen}

-- a unit behind units
units_more : (us : List AnyUnit) (front : List ℕ) (u : AnyUnit) (first : List ℕ) → SpellsUnits us front
    → SpellsUnit u first → SpellsUnits (us ++ u ∷ []) (front ++ first)
units_more [] front u first h s = (first, [], s, ap (λ l. l ++ first) h ∙ sym (append-nil first), refl)
units_more (v ∷ us) front u first h s =
    (h.0, h.1 ++ first, h.2, ap (λ l. l ++ first) h.3 ∙ simp append_assoc, units_more us h.1 u first h.4 s)

pub starts : HasRead [] [] no_feed
starts = record { front = []; spelled = refl; stream_is = refl; at_is = refl }

pub goes_on : (us : List AnyUnit) (stream piece : List ℕ) (f : Feed) → HasRead us stream f
    → HasRead us (stream ++ piece) (fed f piece)
goes_on us stream piece f h = record {
  front = h.front;
  spelled = h.spelled;
  stream_is =
      ap (λ l. l ++ piece) h.stream_is ∙ simp append_assoc;
  at_is = h.at_is;
}

seen_is : (o : Option BadUnit) (octets : List ℕ) → KeepsFault o octets → seen_by o (look octets) ≡ look octets
seen_is None octets h = refl
seen_is (Some k) octets h = sym h

-- what is answered where this is seen
abbrev Reaches : List AnyUnit → List ℕ → Feed → Look → Type 0
Reaches us stream f l = HasRead (and_next us (answered f.at l)) stream (after f l)

reaches : (us : List AnyUnit) (stream : List ℕ) (f : Feed) (l : Look) → Sees f.left l → HasRead us stream f
    → Reaches us stream f l
reaches us stream f Nothing s h = h
reaches us stream f (Fails k) s h =
    record { front = h.front; spelled = h.spelled; stream_is = h.stream_is; at_is = h.at_is }
reaches us stream f (Reads u rest) s h =
    record {
      front = h.front ++ s.first;
      spelled = units_more us h.front u s.first h.spelled s.spelled;
      stream_is = h.stream_is ∙ ap (λ l. h.front ++ l) s.octets_are ∙ sym (simp append_assoc);
      at_is = omega (arith, h.at_is, ap length s.octets_are, length-append s.first rest, length-append h.front s.first);
    }

says : (f : Feed) (l : Look) → Sees f.left l → Says (answered f.at l) (after f l)
says f Nothing s = s
says f (Fails k) s = (refl, s)
says f (Reads u rest) s = tt

module _ (old new : Feed) (n : Next) (bytes : IsOctets old.left) (kept : KeepsFault old.bad old.left)
    (goes : Goes old n new) where
  answer_is : n ≡ answered old.at (look old.left)
  answer_is = goes.answer ∙ ap (answered old.at) (seen_is old.bad old.left kept)

  left_is : new ≡ after old (look old.left)
  left_is = goes.left ∙ ap (after old) (seen_is old.bad old.left kept)

  pub next_reads : (us : List AnyUnit) (stream : List ℕ) → HasRead us stream old → HasRead (and_next us n) stream new
  next_reads us stream h =
      subst (λ (g : Feed). HasRead (and_next us n) stream g) (sym left_is)
      (subst (λ (m : Next). HasRead (and_next us m) stream (after old (look old.left))) (sym answer_is)
      (reaches us stream old (look old.left) (look_sound old.left bytes) h))

  pub next_says : Says n new
  next_says =
      subst (λ (g : Feed). Says n g) (sym left_is)
      (subst (λ (m : Next). Says m (after old (look old.left))) (sym answer_is)
      (says old (look old.left) (look_sound old.left bytes)))

  pub next_cut : IsCutOff old.left → n ≡ next.More
  next_cut h = answer_is ∙ ap (answered old.at) (cut_seen old.left h)

  pub next_bad : (k : BadUnit) → HasFault k old.left → n ≡ next.Bad old.at k
  next_bad k h = answer_is ∙ ap (answered old.at) (fault_seen k old.left bytes h)

  pub next_unit : (u : AnyUnit) (first rest : List ℕ) → SpellsUnit u first → old.left ≡ first ++ rest → n ≡ next.Unit u
  next_unit u first rest h e = answer_is ∙ ap (answered old.at) (ap look e ∙ unit_seen u first rest h)

-- ---- one reading

abbrev not_read : List ℕ → Type 0
not_read rest = (u : AnyUnit) (more : List ℕ) → look rest ≡ Reads u more → ⊥

none_read : (rest : List ℕ) → IsOctets rest → BeginsNone rest → not_read rest
none_read rest bytes (inl cut) = λ u more e. let n = cut_seen rest cut in absurd cc
none_read rest bytes (inr f) = λ u more e. let n = fault_seen f.0 rest bytes f.1 in absurd cc

record Same (us us' : List AnyUnit) (rest rest' : List ℕ) : Type 0 where
  units : us ≡ us'
  rests : rest ≡ rest'

read_behind : (stream : List ℕ) (u : AnyUnit) (first behind rest : List ℕ) → SpellsUnit u first
    → stream ≡ (first ++ behind) ++ rest → look stream ≡ Reads u (behind ++ rest)
read_behind stream u first behind rest h e = ap look (e ∙ simp append_assoc) ∙ unit_seen u first (behind ++ rest) h

same : (us us' : List AnyUnit) (front front' rest rest' : List ℕ) → IsOctets (front ++ rest) → SpellsUnits us front
    → SpellsUnits us' front' → front ++ rest ≡ front' ++ rest' → BeginsNone rest → BeginsNone rest'
    → Same us us' rest rest'
same [] [] front front' rest rest' bytes h h' e none none' =
    record { units = refl; rests = ap (λ l. l ++ rest) (sym h) ∙ e ∙ ap (λ l. l ++ rest') h' }
same [] (u ∷ us) front front' rest rest' bytes h h' e none none' =
    let whole : rest ≡ (h'.0 ++ h'.1) ++ rest' = ap (λ l. l ++ rest) (sym h) ∙ e ∙ ap (λ l. l ++ rest') h'.3 in
    absurd (none_read rest (IsBytes-back front rest bytes) none u (h'.1 ++ rest')
    (read_behind rest u h'.0 h'.1 rest' h'.2 whole))
same (u ∷ us) [] front front' rest rest' bytes h h' e none none' =
    let whole : rest' ≡ (h.0 ++ h.1) ++ rest = ap (λ l. l ++ rest') (sym h') ∙ sym e ∙ ap (λ l. l ++ rest) h.3 in
    absurd (none_read rest' (IsBytes-back front' rest' (subst IsOctets e bytes)) none' u (h.1 ++ rest)
    (read_behind rest' u h.0 h.1 rest h.2 whole))
same (u ∷ us) (v ∷ vs) front front' rest rest' bytes h h' e none none' =
    let stream = front ++ rest in
    let one : look stream ≡ Reads u (h.1 ++ rest) = read_behind stream u h.0 h.1 rest h.2 (ap (λ l. l ++ rest) h.3) in
    let two : look stream ≡ Reads v (h'.1 ++ rest') =
    read_behind stream v h'.0 h'.1 rest' h'.2 (e ∙ ap (λ l. l ++ rest') h'.3) in
    let unit_is : u ≡ v = cc in
    let behind : h.1 ++ rest ≡ h'.1 ++ rest' = cc in
    let split : stream ≡ h.0 ++ (h.1 ++ rest) = ap (λ l. l ++ rest) h.3 ∙ simp append_assoc in
    let s = same us vs h.1 h'.1 rest rest' (IsBytes-back h.0 (h.1 ++ rest) (subst IsOctets split bytes)) h.4 h'.4 behind
    none none' in
    let us_are : us ≡ vs = s.units in
    record { units = cc (unit_is, us_are); rests = s.rests }

pub one_reading : StreamsHaveOneReading
one_reading stream us us' rest rest' bytes h h' =
    let s = same us us' h.front h'.front rest rest' (subst IsOctets h.stream_is bytes) h.spelled h'.spelled
    (sym h.stream_is ∙ h'.stream_is) h.none h'.none in
    (s.units, s.rests)

-- what holds of a value that was answered
pub if_ok : {X E : Type 0} (r : Result X E) (P Q : X → Type 0) → IfOk r P → ((x : X) → P x → Q x) → IfOk r Q
if_ok (Ok x) P Q h f = f x h
if_ok (Err e) P Q h f = tt
