-- What the octets of a record say of the image that they stand in.
use Rattle.std.proofs.Common.{inl, inr, ⊎_elim, ◌≡◌, ◌⊎◌, ℕ, zero, suc, ◌+◌, ◌-◌, ◌≤◌, ◌<◌, min, List, [], ◌∷◌, ◌++◌}
use Rattle.std.proofs.Common.{length, take, drop, get_or, Result, Err, refl, sym, ap, subst, ◌∙◌, append_assoc, arith}
use Rattle.std.specs.Int.{w32, from_be_bytes, to_be_bytes}
use Rattle.std.proofs.lemmas.Bool.{cases_lt}
use Rattle.std.proofs.lemmas.List.{drop-drop, drop-take, length-take, length-take-le, length-drop, take-append-drop}
use Rattle.std.proofs.lemmas.List.{take-take, take_all}
use Rattle.std.proofs.Math.ListN.{drop_of_length-le}
use Rattle.mta_edge.specs.Views.{DiskView, DiskLaws}
use Rattle.mta_edge.specs.Crashes.{Crash, Stays}
use Rattle.mta_disk.specs.Records.{counted}
use Rattle.mta_journal.specs.Faults.{IsFaulty}
use Rattle.mta_journal.specs.Heads.{SaysHead, length_in}
use Rattle.mta_journal.specs.Opening.{IsAhead, StandsAt, ClosedAt, BrokenAt}
use Rattle.mta_journal.specs.declared.why.OpenWhy.{OpenWhy}
use Rattle.mta_journal.specs.declared.read.Head.TheVariants.{Closed, Broken, Open}

first_is : (n : ℕ) (tail : List ℕ) → 0 < n → 0 < length tail → tail ≡ get_or (take n tail) 0 0 ∷ drop 1 tail
first_is n [] some long = absurd (omega arith)
first_is zero (x ∷ tail) some long = absurd (omega arith)
first_is (suc n) (x ∷ tail) some long = refl

-- octets that were read ahead are no more than are left
pub ahead_within : (gate : ℕ) (piece f : List ℕ) → IsAhead gate piece f → length piece ≤ length f - gate
ahead_within gate piece f is =
    omega (arith, ap length is, length-take (length piece) (drop gate f), length-drop gate f)

-- the first five octets of what was read ahead
pub head_ahead : (gate left : ℕ) (piece f : List ℕ) → IsAhead gate piece f → left ≡ length f - gate
    → min left 5 ≤ length piece → take 5 piece ≡ take (min left 5) (drop gate f)
head_ahead gate left piece f is left_is le =
    ⊎_elim {C = take 5 piece ≡ take (min left 5) (drop gate f)}
    (λ (short : left < 5).
    let within = ahead_within gate piece f is in
    let same : length piece ≡ min left 5 = omega (arith, short, within, left_is, le) in
    let few : length piece ≤ 5 = omega (arith, short, same) in
    take_all 5 piece few ∙ is ∙ ap (λ (n : ℕ). take n (drop gate f)) same)
    (λ (long : 5 ≤ left).
    let same : 5 ≡ min left 5 = omega (arith, long) in
    let more : 5 ≤ length piece = omega (arith, long, le) in
    ap (take 5) is ∙ take-take 5 (length piece) (drop gate f) more ∙ ap (λ (n : ℕ). take n (drop gate f)) same)
    (cases_lt left 5)

-- what is left behind a record that is passed
pub passed : (gate n : ℕ) (piece f : List ℕ) → IsAhead gate piece f → IsAhead (gate + n) (drop n piece) f
passed gate n piece f is = ⊎_elim {C = IsAhead (gate + n) (drop n piece) f}
    (λ (short : length piece < n).
    let none : drop n piece ≡ [] = drop_of_length-le piece (omega (arith, short)) in
    subst (λ (xs : List ℕ). IsAhead (gate + n) xs f) (sym none) refl)
    (λ (long : n ≤ length piece).
    let split : n + (length piece - n) ≡ length piece = omega (arith, long) in
    let size : length piece - n ≡ length (drop n piece) = omega (arith, length-drop n piece) in
    ap (drop n) (is ∙ ap (λ (m : ℕ). take m (drop gate f)) (sym split))
    ∙ drop-take n (length piece - n) (drop gate f)
    ∙ ap (take (length piece - n)) (drop-drop n gate f)
    ∙ ap (λ (m : ℕ). take m (drop (gate + n) f)) size)
    (cases_lt (length piece) n)

-- a body that a piece has
pub body_there : (gate count : ℕ) (f piece : List ℕ) → IsAhead gate piece f → count + 5
    ≤ length piece
    → take count (drop 5 piece) ≡ take count (drop (gate + 5) f)
body_there gate count f piece is le =
    let split : 5 + (length piece - 5) ≡ length piece = omega (arith, le) in
    let behind : drop 5 piece ≡ take (length piece - 5) (drop 5 (drop gate f)) =
    ap (drop 5) (is ∙ ap (λ (n : ℕ). take n (drop gate f)) (sym split))
    ∙ drop-take 5 (length piece - 5) (drop gate f) in
    ap (take count) behind ∙ take-take count (length piece - 5) (drop 5 (drop gate f)) (omega (arith, le))
    ∙ ap (take count) (drop-drop 5 gate f)

module _ (most gate left : ℕ) (f head : List ℕ) (left_is : left ≡ length f - gate) (some : 0 < left)
    (head_is : head ≡ take (min left 5) (drop gate f)) where
  size : length (drop gate f) ≡ left
  size = simp length-drop (omega arith)

  begins : drop gate f ≡ get_or head 0 0 ∷ drop 1 (drop gate f)
  begins = first_is (min left 5) (drop gate f) (omega arith) (omega (arith, size))
      ∙ ap (λ (h : List ℕ). get_or h 0 0 ∷ drop 1 (drop gate f)) (sym head_is)

  pub closed_at : SaysHead most head left Closed → ClosedAt gate f
  closed_at says = record { octet = get_or head 0 0; rest = drop 1 (drop gate f); octets = begins; closed = says }

  pub broken_at : SaysHead most head left Broken → BrokenAt most gate f
  broken_at says =
      let rest : List ℕ = drop 1 (drop gate f) in
      let behind : length rest ≡ left - 1 = simp length-drop (omega (arith, size)) in
      record {
        rest = rest;
        octets = begins ∙ ap (λ (n : ℕ). n ∷ rest) says.0;
        faulty = ⊎_elim {C = IsFaulty most rest} (λ (short : left < 5). inl (omega (arith, behind, short)))
            (λ (more : (5 ≤ left) × ((most < length_in head) ⊎ (left < length_in head + 6))).
            let count : min left 5 ≡ 5 = omega (arith, more.0) in
            let five : head ≡ take (1 + 4) (drop gate f) = head_is ∙ ap (λ (n : ℕ). take n (drop gate f)) count in
            let same : length_in head ≡ from_be_bytes w32 (take 4 rest) =
            ap (λ (h : List ℕ). from_be_bytes w32 (drop 1 h)) five
            ∙ ap (from_be_bytes w32) (drop-take 1 4 (drop gate f)) in
            ⊎_elim {C = IsFaulty most rest}
            (λ (long : most < length_in head). inr (subst (λ (n : ℕ). most < n) same long))
            (λ (passes : left < length_in head + 6). inl
            (let here : left < from_be_bytes w32 (take 4 rest)
            + 6 = subst (λ (n : ℕ). left < n + 6) same passes in omega (arith, behind, here, more.0))) more.1)
            says.1;
      }

  pub open_at : (n : ℕ) (body : List ℕ) → SaysHead most head left (Open n) → body ≡ take n (drop (gate + 5) f)
      → StandsAt most gate body f
  unfolding counted
  open_at n body says body_is =
      let tail : List ℕ = drop (gate + 5) f in
      let rest : List ℕ = drop n tail in
      let behind : length tail ≡ left - 5 = simp length-drop (omega arith) in
      let fits : n ≤ length tail = omega (arith, behind, says.2) in
      let count : length body ≡ n = ap length body_is ∙ length-take-le n tail fits in
      let whole : 5 ≡ min left 5 = omega (arith, says.2) in
      let five : take 5 (drop gate f) ≡ 1 ∷ to_be_bytes w32 n = ap (λ (m : ℕ). take m (drop gate f)) whole ∙ sym head_is
      ∙ says.0 in
      let split : tail ≡ body ++ rest = sym (take-append-drop n tail) ∙ ap (λ (x : List ℕ). x ++ rest) (sym body_is) in
      record {
        rest = rest;
        octets = sym (take-append-drop 5 (drop gate f)) ∙ ap (λ (x : List ℕ). x ++ drop 5 (drop gate f)) five
            ∙ ap (λ (x : List ℕ). (1 ∷ to_be_bytes w32 n) ++ x) (drop-drop 5 gate f ∙ split)
            ∙ sym (append_assoc (1 ∷ to_be_bytes w32 n) body rest)
            ∙ ap (λ (m : ℕ). ((1 ∷ to_be_bytes w32 m) ++ body) ++ rest) (sym count);
        more = let l : length rest ≡ length tail - n = length-drop n tail in omega (arith, l, behind, says.2);
        short = omega (arith, count, says.1);
      }

pub five_octets : (head : List ℕ) → length head ≡ 5 → head ≡ get_or head 0 0 ∷ get_or head 1 0 ∷ get_or head 2 0
    ∷ get_or head 3 0 ∷ get_or head 4 0 ∷ []
five_octets [] e = absurd (omega arith)
five_octets (a ∷ []) e = absurd (omega arith)
five_octets (a ∷ b ∷ []) e = absurd (omega arith)
five_octets (a ∷ b ∷ c ∷ []) e = absurd (omega arith)
five_octets (a ∷ b ∷ c ∷ d ∷ []) e = absurd (omega arith)
five_octets (a ∷ b ∷ c ∷ d ∷ x ∷ []) e = refl
five_octets (a ∷ b ∷ c ∷ d ∷ x ∷ y ∷ head) e = absurd (omega arith)

-- an error that a call passed on
pub carried : {T U : Type 0} (r : Result T OpenWhy) (s : Result U OpenWhy) (x y why : OpenWhy) → r ≡ Err x → s ≡ Err y
    → y ≡ x → s ≡ Err why → r ≡ Err why
carried r s x y why was is same e = let one : Err y ≡ Err why = sym is ∙ e in let w : y ≡ why = cc in was
    ∙ ap Err (sym same ∙ w)

-- where enough octets are left the disk does not end before them
pub not_short : (gate count : ℕ) (f : List ℕ) → gate + count ≤ length f → length (drop gate f) < count → ⊥
not_short gate count f fits short = let l : length (drop gate f) ≡ length f - gate = length-drop gate f in omega arith

-- two calls that do nothing to the images
pub Stays-then : {D : Type 0} (model : DiskView D) → DiskLaws model → (a b c : D) → Crash model Stays a b
    → Crash model Stays b c
    → Crash model Stays a c
Stays-then model laws a b c first second =
    let now : (t : ℕ) (h : List ℕ) → t ≤ model.moment a → model.may_leave b h → model.left_since a t h = λ t h le mid.
    let x = first.image h mid in laws.counts_now a t h le (subst (model.may_leave a) (sym x.2) x.1) in
    record {
      later = omega (arith, first.later, second.later);
      image = λ h may. let x = second.image h may in let y = first.image x.0 x.1 in (y.0, y.1, x.2 ∙ y.2);
      since = λ t h le left. ⊎_elim {C = model.left_since a t h ⊎ model.may_leave c h}
          (λ mid. ⊎_elim {C = model.left_since a t h ⊎ model.may_leave c h} (λ old. inl old)
          (λ here. inl (now t h le here)) (first.since t h le mid))
          (λ last. inr last) (second.since t h (omega (arith, le, first.later)) left);
      kept = λ t h le left. second.kept t h (omega (arith, le, first.later)) (first.kept t h le left);
    }
