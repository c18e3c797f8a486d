-- Codes that are spread over recipients.
use Rattle.std.proofs.Common.{◌≡◌, ℕ, suc, ◌+◌, ◌<◌, ◌≤◌, Bool, true, false, cond, List, [], ◌∷◌, ◌++◌, length, map}
use Rattle.std.proofs.Common.{get_or}
use Rattle.std.proofs.Common.{drop, Option, Some, None, sym, ap, subst, ◌∙◌, arith, append_assoc, append-nil}
use Rattle.std.specs.Prelude.{is_some, count_by}
use Rattle.std.specs.Global.{Vec}
use Rattle.std.proofs.lemmas.List.{drop_all}
use Rattle.std.proofs.lemmas.List.Sums.{sum_by-cons}
use Rattle.mta_records.specs.declared.state.Status.{Status}
use Rattle.mta_histories.specs.Sound.{spread}
use Rattle.mta_snapshots.specs.Items.{Spreads}
use Rattle.mta_snapshots.proofs.Each.{next}

abbrev pub flags : List (Option Status) → List Bool
flags ss = map is_some ss

abbrev pub many : List Bool → ℕ
many bs = count_by (λ b. b) bs

many-cons : (b : Bool) (bs : List Bool) → many (b ∷ bs) ≡ cond b 1 0 + many bs
many-cons b bs = sum_by-cons (λ (x : Bool). cond x 1 0) b bs

-- the statuses so far, and what is left of recipients and codes
pub record IsSpreading (all : List (Option Status)) (codes : List Status) (now : List (Option Status))
    (rest : List (Option Status)) (left : List Status) : Type 0 where
  pub same : now ++ spread (flags rest) left ≡ spread (flags all) codes
  pub count : length codes + many (flags rest) ≡ length left + many (flags all)

pub spreading_first : (all : List (Option Status)) (codes left : List Status) (now : List (Option Status)) → now ≡ []
    → left ≡ codes → IsSpreading all codes now (drop 0 all) left
spreading_first all codes left now none same = record {
  same = ap (λ (xs : List (Option Status)). xs ++ spread (flags all) left) none ∙ ap (spread (flags all)) same;
  count = ap (λ (xs : List Status). length xs + many (flags all)) (sym same);
}

module _ (all : List (Option Status)) (codes : List Status) (now now' : List (Option Status)) (left : List Status)
    (k : ℕ) (x : Option Status) (within : k < length all) (is : x ≡ get_or all k x)
    (way : IsSpreading all codes now (drop k all) left)
  where
    at : drop k all ≡ x ∷ drop (k + 1) all
    at = next all k x within is

    -- this recipient is first of those that are left
    opened : IsSpreading all codes now (x ∷ drop (k + 1) all) left
    opened = subst (λ (xs : List (Option Status)). IsSpreading all codes now xs left) at way

    behind : (y : Option Status) (ys : List (Option Status)) → now' ≡ now ++ y ∷ [] → now' ++ ys ≡ now ++ y ∷ ys
    behind y ys pushed =
        ap (λ (xs : List (Option Status)). xs ++ ys) pushed ∙ append_assoc now (y ∷ []) ys

    pub spreading_none : is_some x ≡ false → now' ≡ now ++ None ∷ []
        → IsSpreading all codes now' (drop (k + 1) all) left
    spreading_none none pushed =
        let rest = flags (drop (k + 1) all) in
        let o = opened in
        let one : many (is_some x ∷ rest) ≡ many rest =
        many-cons (is_some x) rest ∙ ap (λ (b : Bool). cond b 1 0 + many rest) none ∙ omega arith in
        record {
          same = behind None (spread rest left) pushed
              ∙ (ap (λ (b : Bool). now ++ spread (b ∷ rest) left) (sym none) ∙ o.same);
          count = (let c = o.count in omega (arith, c, one));
        }

    pub spreading_some : (code : Status) (left' : List Status) → is_some x ≡ true → left ≡ code ∷ left'
        → now' ≡ now ++ Some code ∷ [] → IsSpreading all codes now' (drop (k + 1) all) left'
    spreading_some code left' some taken pushed =
        let rest = flags (drop (k + 1) all) in
        let o = opened in
        let one : many (is_some x ∷ rest) ≡ 1 + many rest =
        many-cons (is_some x) rest ∙ ap (λ (b : Bool). cond b 1 0 + many rest) some in
        let fewer : length left ≡ suc (length left') = ap length taken in
        record {
          same = behind (Some code) (spread rest left') pushed
              ∙ (ap (λ (b : Bool). now ++ spread (b ∷ rest) (code ∷ left')) (sym some)
              ∙ (ap (λ (cs : List Status). now ++ spread (is_some x ∷ rest) cs) (sym taken) ∙ o.same));
          count = (let c = o.count in omega (arith, c, one, fewer));
        }

    -- no code is left for this recipient
    pub too_few : is_some x ≡ true → length left ≡ 0 → Spreads (flags all) codes None
    too_few some none many_is =
        let rest = flags (drop (k + 1) all) in
        let o = opened in
        let c = o.count in
        let one : many (is_some x ∷ rest) ≡ 1 + many rest =
        many-cons (is_some x) rest ∙ ap (λ (b : Bool). cond b 1 0 + many rest) some in
        omega (arith, c, one, none, many_is)

module _ (all : List (Option Status)) (codes : List Status) (now : List (Option Status)) (left : List Status) (k : ℕ)
    (past : length all ≤ k) (way : IsSpreading all codes now (drop k all) left)
  where
    closed : IsSpreading all codes now [] left
    closed = subst (λ (xs : List (Option Status)). IsSpreading all codes now xs left) (drop_all k all past) way

    pub too_many : (code : Status) (left' : List Status) → left ≡ code ∷ left' → Spreads (flags all) codes None
    too_many code left' more many_is =
        let c = closed.count in
        let left_some : length left ≡ suc (length left') = ap length more in
        omega (arith, c, left_some, many_is)

    pub enough : (v : Vec (Option Status)) → v.items ≡ now → length left ≡ 0 → Spreads (flags all) codes (Some v)
    enough v items none =
        let o = closed in
        let c = o.count in
        (omega (arith, c, none), items ∙ (sym (append-nil now) ∙ o.same))
