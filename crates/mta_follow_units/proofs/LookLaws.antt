-- What is seen at the front of a stream is what stands there, and the other way round.
use Rattle.std.proofs.Common.{◌≡◌, ◌≢◌, append_assoc, ◌⊎◌, ℕ, suc, ◌+◌, ◌-◌, ◌^◌, ◌≤◌, ◌<◌, Bool, true, false, cond}
use Rattle.std.proofs.Common.{eqb, ltb}
use Rattle.std.proofs.Common.{List, [], ◌∷◌, ◌++◌, length, take, drop, refl, sym, ap, subst, ◌∙◌, inl, inr, arith}
use Rattle.std.proofs.Common.{⊎_elim}
use Rattle.std.specs.Int.{w32, w64, from_be_bytes, to_be_bytes}
use Rattle.std.proofs.lemmas.Bool.{cond_both, cond-true, cond-false, ltb-true, ltb-false, lt-ltb, le-ltb, eqb-true}
use Rattle.std.proofs.lemmas.Bool.{eqb-false, eq-eqb, ne_eqb}
use Rattle.std.proofs.lemmas.List.{length-append, length-take, take-append-drop, take-append-le, append-nil}
use Rattle.std.proofs.lemmas.Nat.{be_bytes_4, be_bytes_8, from_be_bytes-to_be_bytes_4, from_be_bytes-to_be_bytes_8}
use Rattle.mta_ber.specs.Octet.{IsOctets}
use Rattle.mta_ber.proofs.RowLaws.{IsBytes-back}
use Rattle.mta_ber.proofs.StringLaws.{IsBytes-front}
use Rattle.mta_follow_units.specs.declared.due.Due.{Due}
use Rattle.mta_follow_units.specs.declared.due.Due.TheVariants as due
use Rattle.mta_follow_units.specs.Units.{BeginsNumber, BeginsRecord, IsBad, IsCut, MayHaveKind, MayHaveSize, bad_kind}
use Rattle.mta_follow_units.specs.Units.{bad_number, bad_size, in_body, in_kind, in_size}
use Rattle.mta_follow_units.specs.Units.{done_kind, kept_kind, kind_in, most, number_due, number_in, number_unit}
use Rattle.mta_follow_units.specs.Units.{record_kind, record_unit, size_in}
use Rattle.mta_follow_units.specs.Look.{Bad, Cut, Done, Kept, Look, Record, bodied, fits, has_number, is_of, kinded}
use Rattle.mta_follow_units.specs.Look.{look}
use Rattle.mta_follow_units.specs.Look.{sized, whole}
use Rattle.mta_follow_units.specs.Laws.{LooksDoNotChange, Stands}
use Rattle.mta_follow_units.proofs.Tests.{fits_so, fits_not, not_fits, number_not, number_so, of_not, of_so}

-- ---- what a whole unit is

-- the octets of a unit: those of its length, of its kind, and of its body, and what follows
record Parts (size kind : ℕ) (tail octets : List ℕ) : Type 0 where
  pub a : ℕ
  pub b : ℕ
  pub c : ℕ
  pub e : ℕ
  pub octets_are : octets ≡ a ∷ b ∷ c ∷ e ∷ kind ∷ tail
  pub size_is : size ≡ from_be_bytes w32 (a ∷ b ∷ c ∷ e ∷ [])
  pub length_is : to_be_bytes w32 size ≡ a ∷ b ∷ c ∷ e ∷ []
  pub bytes : IsOctets tail

-- a body of this size, and what follows it
split : (size : ℕ) (tail : List ℕ) → size ≤ length tail → length (take size tail) ≡ size
split size tail fits = omega (arith, fits, length-take size tail)

record_stands : (got size : ℕ) (tail octets : List ℕ) → Parts size record_kind tail octets → size ≤ most got
    → size ≤ length tail → BeginsRecord got (take size tail) octets
record_stands got size tail octets p short fits =
    let long = split size tail fits in (
      omega (arith, long, short),
      drop size tail,
      p.octets_are ∙ ap (λ l. l ++ record_kind ∷ tail) (sym p.length_is)
          ∙ ap (λ l. to_be_bytes w32 size ++ record_kind ∷ l) (sym (take-append-drop size tail))
          ∙ ap (λ n. to_be_bytes w32 n ++ record_kind ∷ (take size tail ++ drop size tail)) (sym long),
    )

number_stands : (kind size number : ℕ) (tail octets : List ℕ) → Parts size kind tail octets → size ≡ 8
    → size ≤ length tail → from_be_bytes w64 (take size tail) ≡ number → BeginsNumber kind number octets
number_stands kind size number tail octets p eight fits is =
    let long = split size tail fits in
    let body : to_be_bytes w64 number ≡ take size tail =
    be_bytes_8 (take size tail) number (long ∙ eight)
    (IsBytes-front (take size tail) (drop size tail)
    (subst IsOctets (sym (take-append-drop size tail)) p.bytes)) (sym is) in
    let head : 0 ∷ 0 ∷ 0 ∷ 8 ∷ [] ≡ p.a ∷ p.b ∷ p.c ∷ p.e ∷ [] =
    ap (to_be_bytes w32) (sym eight) ∙ p.length_is in (
      drop size tail,
      p.octets_are ∙ ap (λ l. l ++ kind ∷ tail) (sym head)
          ∙ ap (λ l. 0 ∷ 0 ∷ 0 ∷ 8 ∷ kind ∷ l) (sym (take-append-drop size tail))
          ∙ ap (λ l. 0 ∷ 0 ∷ 0 ∷ 8 ∷ kind ∷ (l ++ drop size tail)) (sym body),
    )

-- ---- what is seen

-- so far the unit may be due
record MayBe (d : Due) (octets : List ℕ) : Type 0 where
  pub long : 5 + size_in octets ≤ length octets
  pub sized : MayHaveSize d (size_in octets)
  pub of : MayHaveKind d (size_in octets) (kind_in octets)

no_number : (d : Due) (octets : List ℕ) → MayBe d octets → (kind_in octets ≡ record_kind → ⊥)
    → (number_in octets ≡ number_due d → ⊥) → IsBad d octets
no_number d octets m other differs = bad_number m.long m.sized m.of other differs

-- the kind octet of the end is not that of a record
ended : (k size : ℕ) → eqb k record_kind ≡ false → MayHaveKind (due.Record 0) size k → (k ≡ done_kind) × (size ≡ 8)
ended k size other (inl one) = absurd (eqb-false k record_kind other one)
ended k size other (inr both) = both

module _ (a b c e k : ℕ) (t : List ℕ) where
  abbrev size : ℕ
  size = from_be_bytes w32 (a ∷ b ∷ c ∷ e ∷ [])

  abbrev octets : List ℕ
  octets = a ∷ b ∷ c ∷ e ∷ k ∷ t

  parts : IsOctets octets → Parts size k t octets
  parts bytes = record {
    a = a;
    b = b;
    c = c;
    e = e;
    octets_are = refl;
    size_is = refl;
    length_is = be_bytes_4 (a ∷ b ∷ c ∷ e ∷ []) size refl (IsBytes-front (a ∷ b ∷ c ∷ e ∷ []) (k ∷ t) bytes) refl;
    bytes = IsBytes-back (a ∷ b ∷ c ∷ e ∷ k ∷ []) t bytes;
  }

  of_kind : (kind : ℕ) → IsOctets octets → k ≡ kind → Parts size kind t octets
  of_kind kind bytes is = subst (λ n. Parts size n t octets) is (parts bytes)

  may_be : (d : Due) → MayHaveSize d size → MayHaveKind d size k → size ≤ length t → MayBe d octets
  may_be d sized of fits = record { long = omega (arith, fits); sized = sized; of = of }

  -- where the kind is not a record's, in front of a standby
  end_stands : (got : ℕ) → IsOctets octets → MayHaveSize (due.Record got) size → MayHaveKind (due.Record got) size k
      → size ≤ length t → eqb k record_kind ≡ false
      → Stands (due.Record got) (cond (has_number (take size t) got) Done Bad) octets
  end_stands got bytes sized of fits other =
      let both = ended k size other of in
      let long = split size t fits in
      cond_both (has_number (take size t) got) Done Bad (λ s. Stands (due.Record got) s octets)
      (λ so. number_stands done_kind size got t octets (of_kind done_kind bytes both.0) both.1 fits
      (number_so (take size t) got so).1)
      (λ nay. no_number (due.Record got) octets (may_be (due.Record got) sized of fits)
      (eqb-false k record_kind other) (number_not (take size t) got (long ∙ both.1) nay))

  whole_stands : (d : Due) → IsOctets octets → MayHaveSize d size → MayHaveKind d size k → size ≤ length t
      → Stands d (whole d k (take size t)) octets
  whole_stands (due.Record got) bytes sized of fits =
      cond_both (eqb k record_kind) (Record (take size t)) (cond (has_number (take size t) got) Done Bad)
      (λ s. Stands (due.Record got) s octets)
      (λ one. record_stands got size t octets (of_kind record_kind bytes (eqb-true k record_kind one)) sized fits)
      (end_stands got bytes sized of fits)
  whole_stands (due.Kept number) bytes sized of fits =
      let long = split size t fits in
      cond_both (has_number (take size t) number) Kept Bad (λ s. Stands (due.Kept number) s octets)
      (λ so. number_stands kept_kind size number t octets (of_kind kept_kind bytes of) sized fits
      (number_so (take size t) number so).1)
      (λ nay. no_number (due.Kept number) octets (may_be (due.Kept number) sized of fits)
      (λ one. absurd (let two : kept_kind ≡ record_kind = sym of ∙ one in omega (arith, two)))
      (number_not (take size t) number (long ∙ sized) nay))

  bodied_stands : (d : Due) → IsOctets octets → MayHaveSize d size → Stands d (bodied d size k t) octets
  bodied_stands d bytes sized =
      cond_both (is_of d k size) (cond (ltb (length t) size) Cut (whole d k (take size t))) Bad (λ s. Stands d s octets)
      (λ so. cond_both (ltb (length t) size) Cut (whole d k (take size t)) (λ s. Stands d s octets)
      (λ short. in_body (omega arith) (omega (arith, ltb-true (length t) size short)) sized
      (of_so d k size so))
      (λ long. whole_stands d bytes sized (of_so d k size so) (ltb-false (length t) size long)))
      (λ nay. bad_kind (omega arith) sized (of_not d k size nay))

pub stands : (d : Due) (octets : List ℕ) → IsOctets octets → Stands d (look d octets) octets
unfolding look
stands d [] bytes = in_size (omega arith)
stands d (a ∷ []) bytes = in_size (omega arith)
stands d (a ∷ b ∷ []) bytes = in_size (omega arith)
stands d (a ∷ b ∷ c ∷ []) bytes = in_size (omega arith)
stands d (a ∷ b ∷ c ∷ e ∷ []) bytes =
    let size = from_be_bytes w32 (a ∷ b ∷ c ∷ e ∷ []) in
    cond_both (fits d size) Cut Bad (λ s. Stands d s (a ∷ b ∷ c ∷ e ∷ []))
    (λ so. in_kind refl (fits_so d size so))
    (λ nay. bad_size (omega arith) (fits_not d size nay))
stands d (a ∷ b ∷ c ∷ e ∷ k ∷ t) bytes =
    let size = from_be_bytes w32 (a ∷ b ∷ c ∷ e ∷ []) in
    cond_both (fits d size) (bodied d size k t) Bad (λ s. Stands d s (a ∷ b ∷ c ∷ e ∷ k ∷ t))
    (λ so. bodied_stands a b c e k t d bytes (fits_so d size so))
    (λ nay. bad_size (omega arith) (fits_not d size nay))

-- ---- whatever follows

whole_stays : (d : Due) (size k : ℕ) (t more : List ℕ)
    → (cond (ltb (length t) size) Cut (whole d k (take size t)) ≢ Cut)
    → cond (ltb (length (t ++ more)) size) Cut (whole d k (take size (t ++ more)))
    ≡ cond (ltb (length t) size) Cut (whole d k (take size t))
whole_stays d size k t more = go (ltb (length t) size) refl
  where
    go : (b : Bool) → ltb (length t) size ≡ b → (cond b Cut (whole d k (take size t)) ≢ Cut)
        → cond (ltb (length (t ++ more)) size) Cut (whole d k (take size (t ++ more)))
        ≡ cond b Cut (whole d k (take size t))
    go true is told = absurd (told refl)
    go false is told =
        let fits = ltb-false (length t) size is in
        cond-false (ltb (length (t ++ more)) size) Cut (whole d k (take size (t ++ more)))
        (le-ltb (length (t ++ more)) size (omega (arith, fits, length-append t more)))
        ∙ ap (whole d k) (take-append-le size t more fits)

bodied_stays : (d : Due) (size k : ℕ) (t more : List ℕ) → (bodied d size k t ≢ Cut)
    → bodied d size k (t ++ more) ≡ bodied d size k t
bodied_stays d size k t more = go (is_of d k size)
  where
    go : (b : Bool) → (cond b (cond (ltb (length t) size) Cut (whole d k (take size t))) Bad ≢ Cut)
        → cond b (cond (ltb (length (t ++ more)) size) Cut (whole d k (take size (t ++ more)))) Bad
        ≡ cond b (cond (ltb (length t) size) Cut (whole d k (take size t))) Bad
    go false told = refl
    go true told = whole_stays d size k t more told

sized_stays : (d : Due) (size : ℕ) (t more : List ℕ) → (sized d size t ≢ Cut)
    → sized d size (t ++ more) ≡ sized d size t
sized_stays d size t more = go (fits d size) t
  where
    go : (b : Bool) (t : List ℕ) → (cond b (kinded d size t) Bad ≢ Cut)
        → cond b (kinded d size (t ++ more)) Bad ≡ cond b (kinded d size t) Bad
    go false t told = refl
    go true [] told = absurd (told refl)
    go true (k ∷ t) told = bodied_stays d size k t more told

pub stays : LooksDoNotChange
unfolding look
stays d [] more told = absurd (told refl)
stays d (a ∷ []) more told = absurd (told refl)
stays d (a ∷ b ∷ []) more told = absurd (told refl)
stays d (a ∷ b ∷ c ∷ []) more told = absurd (told refl)
stays d (a ∷ b ∷ c ∷ e ∷ t) more told = sized_stays d (from_be_bytes w32 (a ∷ b ∷ c ∷ e ∷ [])) t more told
