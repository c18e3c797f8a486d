-- The names of lanes.
use Rattle.std.proofs.Common.{◌≡◌, ℕ, ◌+◌, ◌-◌, ◌<◌, ◌≤◌, Bool, true, false, cond, List, [], ◌∷◌, length, get_or, take}
use Rattle.std.proofs.Common.{drop, refl}
use Rattle.std.proofs.Common.{sym, ap, subst, ◌∙◌, arith, inl, inr}
use Rattle.std.proofs.Common.{zero, suc, eqb}
use Rattle.std.specs.Prelude.{◌↔◌, ◌⊎◌, ◌||◌, count_by, bytes_eq, replicate, slice_get}
use Rattle.std.specs.List.{AllByRecursion}
use Rattle.std.proofs.lemmas.Bool.{and_parts}
use Rattle.std.proofs.lemmas.List.{take_rest, drop_all, length-replicate}
use Rattle.std.proofs.lemmas.List.Sums.{sum_by-cons}
use Rattle.std.proofs.lemmas.Slice.Eq.{bytes_eq-Decides}
use Rattle.std.proofs.Math.Bool.{or_assoc}
use Rattle.mta_records.specs.State.{Lane}
use Rattle.mta_records.specs.declared.lane.LaneRole.{LaneRole}
use Rattle.mta_records.specs.declared.lane.LaneRole.TheVariants.{Initiator, Responder}
use Rattle.mta_histories.specs.Lanes.{EachLane}
use Rattle.mta_histories.specs.Limits.{is_role, is_with, most_lanes}
use Rattle.mta_histories.specs.Sound.{AreApart}
use Rattle.mta_records.specs.declared.state.MailboxLine.{MailboxLine}
use Rattle.mta_histories.specs.Compact.{is_named}
use Rattle.mta_snapshots.specs.Marks.{AreMarked, AreNamed, is_marked}
use Rattle.mta_snapshots.specs.Names.{IsApartFrom, IsWithFew}
use Rattle.mta_snapshots.proofs.Each.{next, each_still, each_never, each_done, as_well}

-- ---- how many there are of a role with one peer

same_role : (a b : LaneRole) → is_role a b ≡ true → a ≡ b
same_role Initiator Initiator e = refl
same_role Initiator Responder e = absurd cc
same_role Responder Initiator e = absurd cc
same_role Responder Responder e = refl

-- none is of the role with the peer, or one is, and there are few of these
some_or_none : (role : LaneRole) (peer : List ℕ) (all lanes : List Lane) → AllByRecursion (IsWithFew all) lanes
    → (count_by (is_with role peer) lanes ≡ 0) ⊎ (count_by (is_with role peer) all ≤ most_lanes)
some_or_none role peer all [] few = inl refl
some_or_none role peer all (lane ∷ lanes) few =
    by_test (is_with role peer lane) refl (some_or_none role peer all lanes few.1)
  where
    by_test : (b : Bool) → is_with role peer lane ≡ b
        → (count_by (is_with role peer) lanes ≡ 0) ⊎ (count_by (is_with role peer) all ≤ most_lanes)
        → (count_by (is_with role peer) (lane ∷ lanes) ≡ 0) ⊎ (count_by (is_with role peer) all ≤ most_lanes)
    by_test true is rest =
        let parts = and_parts (is_role role lane.role) (bytes_eq peer lane.peer) is in
        let of_role : lane.role ≡ role = sym (same_role role lane.role parts.0) in
        let of_peer : lane.peer ≡ peer = sym ((bytes_eq-Decides peer lane.peer).0 parts.1) in
        inr (subst (λ (p : List ℕ). count_by (is_with role p) all ≤ most_lanes) of_peer
        (subst (λ (r : LaneRole). count_by (is_with r lane.peer) all ≤ most_lanes) of_role few.0))
    by_test false is (inr some) = inr some
    by_test false is (inl none) =
        inl (sum_by-cons (λ (x : Lane). cond (is_with role peer x) 1 0) lane lanes
        ∙ (ap (λ (b : Bool). cond b 1 0 + count_by (is_with role peer) lanes) is ∙ omega (arith, none)))

each_few : (all lanes : List Lane)
    → ((role : LaneRole) (peer : List ℕ) → count_by (is_with role peer) all ≤ most_lanes)
    → AllByRecursion (IsWithFew all) lanes
each_few all [] few = tt
each_few all (lane ∷ lanes) few = (few lane.role lane.peer, each_few all lanes few)

pub few_is : (b : Bool) (lanes : List Lane) → (b ≡ true) ↔ AllByRecursion (IsWithFew lanes) lanes
    → (b ≡ true) ↔ ((role : LaneRole) (peer : List ℕ) → count_by (is_with role peer) lanes ≤ most_lanes)
few_is b lanes test = as_well b test (
  λ each role peer. elim (some_or_none role peer lanes lanes each) [
    | inl none ↦ omega (arith, none)
    | inr some ↦ some
  ],
  λ few. each_few lanes lanes few,
)

-- ---- no two of one name

apart_split : (x : Lane) (xs : List Lane) → AreApart (x ∷ xs) ↔ (EachLane (IsApartFrom x) xs × AreApart xs)
apart_split x xs = (λ e. e, λ e. e)

-- those behind a place, as they are lent
behind : (b : Bool) (x : Lane) (xs : List Lane) (n : ℕ)
    → (b ≡ true) ↔ EachLane (IsApartFrom x) (take (length xs - n) (drop n xs))
    → (b ≡ true) ↔ EachLane (IsApartFrom x) (drop n xs)
behind b x xs n test = subst (λ (ys : List Lane). (b ≡ true) ↔ EachLane (IsApartFrom x) ys) (take_rest xs n) test

module _ (xs : List Lane) where
  pub apart_still : (k : ℕ) (x : Lane) (b : Bool) → k < length xs → x ≡ get_or xs k x
      → (b ≡ true) ↔ EachLane (IsApartFrom x) (take (length xs - (k + 1)) (drop (k + 1) xs)) → b ≡ true → AreApart xs
      ↔ AreApart (drop k xs)
      → AreApart xs ↔ AreApart (drop (k + 1) xs)
  apart_still k x b within is test does same =
      each_still AreApart (λ y ys. EachLane (IsApartFrom y) ys) apart_split tt xs k x b within is
      (behind b x xs (k + 1) test) does same

  pub apart_never : (k : ℕ) (x : Lane) (b : Bool) → k < length xs → x ≡ get_or xs k x
      → (b ≡ true) ↔ EachLane (IsApartFrom x) (take (length xs - (k + 1)) (drop (k + 1) xs)) → b ≡ false → AreApart xs
      ↔ AreApart (drop k xs)
      → (false ≡ true) ↔ AreApart xs
  apart_never k x b within is test isnt same =
      each_never AreApart (λ y ys. EachLane (IsApartFrom y) ys) apart_split tt xs k x b within is
      (behind b x xs (k + 1) test) isnt same

  pub apart_done : (k : ℕ) → length xs ≤ k → AreApart xs ↔ AreApart (drop k xs) → (true ≡ true) ↔ AreApart xs
  apart_done k past same =
      each_done AreApart (λ y ys. EachLane (IsApartFrom y) ys) apart_split tt xs k past same

-- ---- items that deliveries name

-- those are marked whom the first deliveries name, and the others are named by what is left of them
pub record AreNaming (count : ℕ) (all : List MailboxLine) (flags : List Bool) (rest : List MailboxLine) : Type 0 where
  pub counted : length flags ≡ count
  pub marks : (k : ℕ) → k < count → (is_marked (slice_get flags k) || is_named rest (suc k)) ≡ is_named all (suc k)

none_marked : (count k : ℕ) → is_marked (slice_get (replicate count false) k) ≡ false
none_marked zero k = refl
none_marked (suc count) zero = refl
none_marked (suc count) (suc k) = none_marked count k

pub naming_first : (count : ℕ) (all : List MailboxLine) (flags : List Bool) → flags ≡ replicate count false
    → AreNaming count all flags (drop 0 all)
naming_first count all flags none =
    subst (λ (fs : List Bool). AreNaming count all fs all) (sym none)
    (record {
      counted = length-replicate count false;
      marks = λ k within. ap (λ (b : Bool). b || is_named all (suc k)) (none_marked count k);
    })

module _ (count : ℕ) (all : List MailboxLine) (flags new : List Bool) (k : ℕ) (line : MailboxLine)
    (within : k < length all) (is : line ≡ get_or all k line) (way : AreNaming count all flags (drop k all))
    (marked : AreMarked flags new line.item)
  where
    pub naming_next : AreNaming count all new (drop (k + 1) all)
    naming_next =
        let at = next all k line within is in
        let o = subst (λ (ls : List MailboxLine). AreNaming count all flags ls) at way in
        record {
          counted = marked.count ∙ o.counted;
          marks = λ n inside.
              let rest = is_named (drop (k + 1) all) (suc n) in
              ap (λ (b : Bool). b || rest) (marked.marks n (subst (λ (c : ℕ). n < c) (sym o.counted) inside))
              ∙ (or_assoc (is_marked (slice_get flags n)) (eqb line.item (suc n)) rest ∙ o.marks n inside);
        }

pub naming_done : (count : ℕ) (all : List MailboxLine) (flags : List Bool) (k : ℕ) → length all ≤ k
    → AreNaming count all flags (drop k all) → AreNamed count all flags
naming_done count all flags k past way n inside =
    let o = subst (λ (ls : List MailboxLine). AreNaming count all flags ls) (drop_all k all past) way in
    or_false (is_marked (slice_get flags n)) ∙ o.marks n inside
  where
    or_false : (a : Bool) → a ≡ (a || false)
    or_false true = refl
    or_false false = refl
