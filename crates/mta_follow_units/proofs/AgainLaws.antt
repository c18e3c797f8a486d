-- A unit that is put is read again, and one that stands is seen.
use Rattle.std.proofs.Common.{◌≡◌, ◌≢◌, append_assoc, ◌⊎◌, ℕ, zero, suc, ◌+◌, ◌-◌, ◌^◌, ◌≤◌, ◌<◌, Bool, true, false}
use Rattle.std.proofs.Common.{cond, eqb}
use Rattle.std.proofs.Common.{ltb, List, [], ◌∷◌, ◌++◌, length, take, drop, refl, sym, ap, subst, ◌∙◌, inl, inr, arith}
use Rattle.std.specs.Int.{w32, w64, from_be_bytes, to_be_bytes}
use Rattle.std.proofs.lemmas.Bool.{cond-true, cond-false, ltb-true, ltb-false, lt-ltb, le-ltb, eq-eqb, ne_eqb}
use Rattle.std.proofs.lemmas.List.{length-append, length-take, take-append-le, append-nil}
use Rattle.std.proofs.lemmas.Nat.{from_be_bytes-to_be_bytes_4, from_be_bytes-to_be_bytes_8}
use Rattle.mta_ber.specs.Octet.{IsOctets}
use Rattle.mta_follow_units.specs.declared.due.Due.{Due}
use Rattle.mta_follow_units.specs.declared.due.Due.TheVariants as due
use Rattle.mta_follow_units.specs.Units.{BeginsNumber, BeginsRecord, IsBad, IsCut, MayHaveKind, MayHaveSize, bad_kind}
use Rattle.mta_follow_units.specs.Units.{bad_number, bad_size, in_body, in_kind, in_size}
use Rattle.mta_follow_units.specs.Units.{done_kind, done_unit, kept_kind, kept_unit, kind_in, most, number_due}
use Rattle.mta_follow_units.specs.Units.{number_in}
use Rattle.mta_follow_units.specs.Units.{number_unit, record_kind, record_unit, size_in}
use Rattle.mta_follow_units.specs.Look.{Bad, Cut, Done, Kept, Look, Record, bodied, fits, has_number, is_of, kinded}
use Rattle.mta_follow_units.specs.Look.{look}
use Rattle.mta_follow_units.specs.Look.{sized, whole}
use Rattle.mta_follow_units.specs.Laws.{LooksAreExact, Stands, UnitsAreReadAgain}
use Rattle.mta_follow_units.proofs.Tests.{fits_so, fits_not, not_fits, not_number, not_of, of_not, of_so, so_fits}
use Rattle.mta_follow_units.proofs.Tests.{so_number}
use Rattle.mta_follow_units.proofs.Tests.{so_of}
use Rattle.mta_follow_units.proofs.LookLaws.{stands}

-- ---- what is read of a length and a kind that may be due

seen_sized : (d : Due) (size : ℕ) (octets : List ℕ) → MayHaveSize d size → sized d size octets ≡ kinded d size octets
seen_sized d size octets h = cond-true (fits d size) (kinded d size octets) Bad (so_fits d size h)

seen_bodied : (d : Due) (size k : ℕ) (t : List ℕ) → MayHaveKind d size k
    → bodied d size k t ≡ cond (ltb (length t) size) Cut (whole d k (take size t))
seen_bodied d size k t h =
    cond-true (is_of d k size) (cond (ltb (length t) size) Cut (whole d k (take size t))) Bad (so_of d k size h)

seen_whole : (d : Due) (size k : ℕ) (body more : List ℕ) → MayHaveSize d size → MayHaveKind d size k
    → size ≡ length body → sized d size (k ∷ (body ++ more)) ≡ whole d k body
seen_whole d size k body more sized of size_is =
    seen_sized d size (k ∷ (body ++ more)) sized
    ∙ seen_bodied d size k (body ++ more) of
    ∙ cond-false (ltb (length (body ++ more)) size) Cut (whole d k (take size (body ++ more)))
    (le-ltb (length (body ++ more)) size (omega (arith, size_is, length-append body more)))
    ∙ ap (λ n. whole d k (take n (body ++ more))) size_is
    ∙ ap (whole d k) (taken body more)
  where
    taken : (s t : List ℕ) → take (length s) (s ++ t) ≡ s
    taken [] t = refl
    taken (x ∷ s) t = ap (λ l. x ∷ l) (taken s t)

-- ---- units that are put

-- the head of a record's unit is read as its length and its kind
look_record : (d : Due) (n : ℕ) (tail : List ℕ) → n < 2 ^ 32
    → look d (to_be_bytes w32 n ++ tail) ≡ sized d n tail
unfolding look
look_record d n tail fits = ap (λ m. sized d m tail) (from_be_bytes-to_be_bytes_4 n fits)

pub most_fits : (got : ℕ) → most got < 2 ^ 32
most_fits zero = omega arith
most_fits (suc got) = omega arith

pub records_again : (got : ℕ) (body more : List ℕ) → length body ≤ most got
    → look (due.Record got) (record_unit body ++ more) ≡ Record body
records_again got body more short =
    let small : length body < 2 ^ 32 = omega (arith, short, most_fits got) in
    let shape : record_unit body ++ more ≡ to_be_bytes w32 (length body) ++ record_kind ∷ (body ++ more)
    = simp append_assoc in
    ap (look (due.Record got)) shape
    ∙ look_record (due.Record got) (length body) (record_kind ∷ (body ++ more)) small
    ∙ seen_whole (due.Record got) (length body) record_kind body more short (inl refl) refl

eight : (n : ℕ) → length (to_be_bytes w64 n) ≡ 8
eight n = refl

number_look : (d : Due) (kind number : ℕ) (more : List ℕ) → MayHaveSize d 8 → MayHaveKind d 8 kind
    → look d (number_unit kind number ++ more) ≡ whole d kind (to_be_bytes w64 number)
unfolding look
number_look d kind number more sized of =
    seen_whole d 8 kind (to_be_bytes w64 number) more sized of (sym (eight number))

has_it : (number : ℕ) → number < 2 ^ 64 → has_number (to_be_bytes w64 number) number ≡ true
has_it number fits = so_number (to_be_bytes w64 number) number (eight number) (from_be_bytes-to_be_bytes_8 number fits)

eight_fits : (got : ℕ) → 8 ≤ most got
eight_fits zero = omega arith
eight_fits (suc got) = omega arith

pub done_again : (got : ℕ) (more : List ℕ) → got < 2 ^ 64 → look (due.Record got) (done_unit got ++ more) ≡ Done
done_again got more fits =
    number_look (due.Record got) done_kind got more (eight_fits got) (inr (refl, refl))
    ∙ cond-true (has_number (to_be_bytes w64 got) got) Done Bad (has_it got fits)

pub kept_again : (number : ℕ) (more : List ℕ) → number < 2 ^ 64
    → look (due.Kept number) (kept_unit number ++ more) ≡ Kept
kept_again number more fits =
    number_look (due.Kept number) kept_kind number more refl refl
    ∙ cond-true (has_number (to_be_bytes w64 number) number) Kept Bad (has_it number fits)

pub again : UnitsAreReadAgain
again = record { records = records_again; done = done_again; kept = kept_again }

-- ---- what stands is seen

cut_seen : (d : Due) (size k : ℕ) (t : List ℕ) → length t < size → MayHaveSize d size → MayHaveKind d size k
    → sized d size (k ∷ t) ≡ Cut
cut_seen d size k t short sized of =
    seen_sized d size (k ∷ t) sized ∙ seen_bodied d size k t of
    ∙ cond-true (ltb (length t) size) Cut (whole d k (take size t)) (lt-ltb (length t) size short)

only_cut : (d : Due) (octets : List ℕ) → IsCut d octets → look d octets ≡ Cut
unfolding look
only_cut d [] h = refl
only_cut d (a ∷ []) h = refl
only_cut d (a ∷ b ∷ []) h = refl
only_cut d (a ∷ b ∷ c ∷ []) h = refl
only_cut d (a ∷ b ∷ c ∷ e ∷ []) (in_size short) = absurd (omega (arith, short))
only_cut d (a ∷ b ∷ c ∷ e ∷ []) (in_kind four sized) = seen_sized d _ [] sized
only_cut d (a ∷ b ∷ c ∷ e ∷ []) (in_body long short sized of) = absurd (omega (arith, long))
only_cut d (a ∷ b ∷ c ∷ e ∷ k ∷ t) (in_size short) = absurd (omega (arith, short))
only_cut d (a ∷ b ∷ c ∷ e ∷ k ∷ t) (in_kind four sized) = absurd (omega (arith, four))
only_cut d (a ∷ b ∷ c ∷ e ∷ k ∷ t) (in_body long short sized of) =
    cut_seen d (from_be_bytes w32 (a ∷ b ∷ c ∷ e ∷ [])) k t (omega (arith, short)) sized of

-- a number that is not due is none
bad_whole : (d : Due) (size k : ℕ) (body : List ℕ) → MayHaveKind d size k → (k ≡ record_kind → ⊥)
    → (from_be_bytes w64 body ≡ number_due d → ⊥) → whole d k body ≡ Bad
bad_whole (due.Record got) size k body of other differs =
    cond-false (eqb k record_kind) (Record body) (cond (has_number body got) Done Bad) (ne_eqb k record_kind other)
    ∙ cond-false (has_number body got) Done Bad (not_number body got differs)
bad_whole (due.Kept number) size k body of other differs =
    cond-false (has_number body number) Kept Bad (not_number body number differs)

bad_seen : (d : Due) (size k : ℕ) (t : List ℕ) → size ≤ length t → MayHaveSize d size → MayHaveKind d size k
    → (k ≡ record_kind → ⊥) → (from_be_bytes w64 (take size t) ≡ number_due d → ⊥) → sized d size (k ∷ t) ≡ Bad
bad_seen d size k t fits sized of other differs =
    seen_sized d size (k ∷ t) sized ∙ seen_bodied d size k t of
    ∙ cond-false (ltb (length t) size) Cut (whole d k (take size t)) (le-ltb (length t) size fits)
    ∙ bad_whole d size k (take size t) of other differs

only_bad : (d : Due) (octets : List ℕ) → IsBad d octets → look d octets ≡ Bad
unfolding look
only_bad d [] (bad_size long nay) = absurd (omega (arith, long))
only_bad d [] (bad_kind long sized nay) = absurd (omega (arith, long))
only_bad d [] (bad_number long sized of other differs) = absurd (omega (arith, long))
only_bad d (a ∷ []) (bad_size long nay) = absurd (omega (arith, long))
only_bad d (a ∷ []) (bad_kind long sized nay) = absurd (omega (arith, long))
only_bad d (a ∷ []) (bad_number long sized of other differs) = absurd (omega (arith, long))
only_bad d (a ∷ b ∷ []) (bad_size long nay) = absurd (omega (arith, long))
only_bad d (a ∷ b ∷ []) (bad_kind long sized nay) = absurd (omega (arith, long))
only_bad d (a ∷ b ∷ []) (bad_number long sized of other differs) = absurd (omega (arith, long))
only_bad d (a ∷ b ∷ c ∷ []) (bad_size long nay) = absurd (omega (arith, long))
only_bad d (a ∷ b ∷ c ∷ []) (bad_kind long sized nay) = absurd (omega (arith, long))
only_bad d (a ∷ b ∷ c ∷ []) (bad_number long sized of other differs) = absurd (omega (arith, long))
only_bad d (a ∷ b ∷ c ∷ e ∷ t) (bad_size long nay) =
    cond-false (fits d (from_be_bytes w32 (a ∷ b ∷ c ∷ e ∷ []))) (kinded d (from_be_bytes w32 (a ∷ b ∷ c ∷ e ∷ [])) t)
    Bad (not_fits d (from_be_bytes w32 (a ∷ b ∷ c ∷ e ∷ [])) nay)
only_bad d (a ∷ b ∷ c ∷ e ∷ []) (bad_kind long sized nay) = absurd (omega (arith, long))
only_bad d (a ∷ b ∷ c ∷ e ∷ []) (bad_number long sized of other differs) = absurd (omega (arith, long))
only_bad d (a ∷ b ∷ c ∷ e ∷ k ∷ t) (bad_kind long sized nay) =
    let size = from_be_bytes w32 (a ∷ b ∷ c ∷ e ∷ []) in
    seen_sized d size (k ∷ t) sized
    ∙ cond-false (is_of d k size) (cond (ltb (length t) size) Cut (whole d k (take size t))) Bad (not_of d k size nay)
only_bad d (a ∷ b ∷ c ∷ e ∷ k ∷ t) (bad_number long sized of other differs) =
    bad_seen d (from_be_bytes w32 (a ∷ b ∷ c ∷ e ∷ [])) k t (omega (arith, long)) sized of other differs

only : (d : Due) (octets : List ℕ) (seen : Look) → number_due d < 2 ^ 64 → Stands d seen octets → look d octets ≡ seen
only d octets Cut fits h = only_cut d octets h
only d octets Bad fits h = only_bad d octets h
only (due.Record got) octets (Record body) fits h =
    ap (look (due.Record got)) h.2 ∙ records_again got body h.1 h.0
only (due.Record got) octets Done fits h = ap (look (due.Record got)) h.1 ∙ done_again got h.0 fits
only (due.Record got) octets Kept fits h = absurd h
only (due.Kept number) octets (Record body) fits h = absurd h
only (due.Kept number) octets Done fits h = absurd h
only (due.Kept number) octets Kept fits h = ap (look (due.Kept number)) h.1 ∙ kept_again number h.0 fits

pub exact : LooksAreExact
exact = record { found = stands; only = only }
