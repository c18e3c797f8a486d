-- The pieces of a message.
use Rattle.std.proofs.Common.{◌≡◌, ◌⊎◌, inl, inr, ◌<◌, ◌≤◌, ℕ, zero, suc, ◌+◌, ◌-◌, ◌*◌, true, false}
use Rattle.std.proofs.Common.{List, [], ◌∷◌, ◌++◌, length, take, drop, refl, sym, ◌∙◌, ap, subst, arith}
use Rattle.std.proofs.Common.{append-nil, length-append, add-one}
use Rattle.std.specs.List.{concat}
use Rattle.std.proofs.Math.ListN.{length-take, length-drop}
use Rattle.std.proofs.Math.Seq.{take-add}
use Rattle.std.proofs.Math.Nat.{mul-suc}
use Rattle.std.proofs.lemmas.List.{take_all, take-append-le}
use Rattle.std.proofs.lemmas.List.Folds.{concat-append}
use Rattle.std.proofs.lemmas.Bool.{leb-true, cases_lt, le-leb}
use Rattle.mta_transfer_rules.specs.Pieces.{piece_of, is_last}
use Rattle.mta_drill_laws.proofs.Relayed.{messages_relayed}
use Rattle.mta_lane_recv.specs.declared.state.Last.TheVariants as last
use Rattle.mta_drill_stage_laws.specs.Settings.{HasMore, Setting, firsts, lasting, octets_behind}

pub suc-is : (n : ℕ) → suc n ≡ n + 1
suc-is n = sym (add-one n)

firsts-none : (o : List ℕ) → firsts o 0 ≡ []
unfolding firsts
firsts-none o = refl

firsts-suc : (o : List ℕ) (n : ℕ) → firsts o (suc n) ≡ firsts o n ++ piece_of 1024 o (suc n) ∷ []
unfolding firsts
firsts-suc o n = refl

pub firsts-next : (o : List ℕ) (n : ℕ) → firsts o (n + 1) ≡ firsts o n ++ piece_of 1024 o (n + 1) ∷ []
firsts-next o n = subst (λ m. firsts o m ≡ firsts o n ++ piece_of 1024 o m ∷ []) (suc-is n) (firsts-suc o n)

pub no-firsts : (o : List ℕ) → firsts o 0 ≡ []
no-firsts o = firsts-none o

length-firsts : (o : List ℕ) (n : ℕ) → length (firsts o n) ≡ n
length-firsts o zero = ap length (firsts-none o)
length-firsts o (suc n) =
    ap length (firsts-suc o n) ∙ length-append (firsts o n) (piece_of 1024 o (suc n) ∷ [])
    ∙ ap (λ (z : ℕ). z + 1) (length-firsts o n) ∙ add-one n

pub take-firsts : (o : List ℕ) (m n : ℕ) → m ≤ n → take m (firsts o n) ≡ firsts o m
take-firsts o m zero le =
    let e : m ≡ 0 = omega arith in
    take_all m (firsts o 0) (omega (arith, length-firsts o 0)) ∙ sym (ap (firsts o) e)
take-firsts o m (suc n) le =
    elim (cases_lt m (suc n)) [
      | inl lt ↦ ap (take m) (firsts-suc o n)
          ∙ take-append-le m (firsts o n) (piece_of 1024 o (suc n) ∷ []) (omega (arith, lt, length-firsts o n))
          ∙ take-firsts o m n (omega (arith, lt))
      | inr ge ↦ (let e : m ≡ suc n = omega (arith, ge, le) in
          take_all m (firsts o (suc n)) (omega (arith, ge, length-firsts o (suc n))) ∙ sym (ap (firsts o) e))
    ]

piece-cut : (o : List ℕ) (n : ℕ) → piece_of 1024 o (n + 1) ≡ take 1024 (drop (1024 * n) o)
piece-cut o n = ap (λ m. take 1024 (drop (1024 * m) o)) (let e : n + 1 - 1 ≡ n = omega arith in e)

pub piece-some : (o : List ℕ) (n : ℕ) → HasMore o n → 1 ≤ length (piece_of 1024 o (n + 1))
piece-some o n more = omega (
  arith,
  ap length (piece-cut o n),
  length-take 1024 (drop (1024 * n) o),
  length-drop (1024 * n) o,
  more,
)

pub piece-short : (o : List ℕ) (n : ℕ) → length (piece_of 1024 o (n + 1)) ≤ 1024
piece-short o n = omega (arith, ap length (piece-cut o n), length-take 1024 (drop (1024 * n) o))

-- whatever its number
pub piece-any : (o : List ℕ) (n : ℕ) → length (piece_of 1024 o n) ≤ 1024
piece-any o n = omega (arith, length-take 1024 (drop (1024 * (n - 1)) o))

concat-firsts : (o : List ℕ) (n : ℕ) → concat (firsts o n) ≡ take (1024 * n) o
concat-firsts o zero = ap concat (firsts-none o)
concat-firsts o (suc n) =
    ap concat (firsts-suc o n)
    ∙ concat-append (firsts o n) (piece_of 1024 o (suc n) ∷ [])
    ∙ ap (λ (z : List ℕ). z ++ (piece_of 1024 o (suc n) ++ [])) (concat-firsts o n)
    ∙ ap (λ (z : List ℕ). take (1024 * n) o ++ z) (append-nil (piece_of 1024 o (suc n)))
    ∙ ap (λ (z : List ℕ). take (1024 * n) o ++ z) (ap (piece_of 1024 o) (suc-is n) ∙ piece-cut o n)
    ∙ sym (take-add (1024 * n) 1024 o)
    ∙ ap (λ (z : ℕ). take z o) (sym (mul-suc 1024 n))

pub firsts-short : (o : List ℕ) (n : ℕ) → length (concat (firsts o n)) ≤ length o
firsts-short o n = omega (arith, ap length (concat-firsts o n), length-take (1024 * n) o)

-- with the last piece they are all octets
pub firsts-whole : (o : List ℕ) (n : ℕ) → is_last 1024 o (n + 1) ≡ true → concat (firsts o (n + 1)) ≡ o
firsts-whole o n l = concat-firsts o (n + 1)
    ∙ take_all (1024 * (n + 1)) o (leb-true (length o) (1024 * (n + 1)) l)

-- ---- the octets of a message

pub octets-more : (x : Setting) (done : ℕ) → 1500 ≤ length (octets_behind x done)
octets-more x done =
    let long = (messages_relayed (x.before + (done + 1))).some_octets in
    omega (arith, long)

pub octets-few : (x : Setting) (done : ℕ) → length (octets_behind x done) ≤ 3802
octets-few x done =
    let short = (messages_relayed (x.before + (done + 1))).few_octets in
    omega (arith, short)

-- so it has two pieces at least
pub first-more : (x : Setting) (done : ℕ) → HasMore (octets_behind x done) 1
first-more x done = omega (arith, octets-more x done)

-- and four at most
pub few-more : (x : Setting) (done n : ℕ) → HasMore (octets_behind x done) n → n ≤ 3
few-more x done n more = omega (arith, octets-few x done, more)

-- the last piece is not the first one
pub last-some : (x : Setting) (done n : ℕ) → is_last 1024 (octets_behind x done) (n + 1) ≡ true → 1 ≤ n
last-some x done n l =
    omega (arith, octets-more x done, leb-true (length (octets_behind x done)) (1024 * (n + 1)) l)

-- what is not the last has one behind it
pub not-last-more : (o : List ℕ) (n : ℕ) → is_last 1024 o n ≡ false → HasMore o n
not-last-more o n l = by (cases_lt (1024 * n) (length o))
  where
    by : (1024 * n < length o) ⊎ (length o ≤ 1024 * n) → 1024 * n < length o
    by (inl lt) = lt
    by (inr ge) = (let e : true ≡ false = sym (le-leb (length o) (1024 * n) ge) ∙ l in absurd cc)

-- some octets stand behind none
pub none-more : (x : Setting) (done : ℕ) → HasMore (octets_behind x done) 0
none-more x done = omega (arith, octets-more x done)

pub lasting-one : (d : ℕ) → lasting (d + 1) ≡ last.Done (d + 1)
lasting-one d = subst (λ (m : ℕ). lasting m ≡ last.Done m) (suc-is d) refl
