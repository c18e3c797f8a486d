-- A fault that a stream shows stays as more is fed.
use Rattle.std.proofs.Common.{◌≡◌, ℕ, zero, suc, ◌+◌, ◌^◌, ◌≤◌, ◌<◌, ◌⊎◌, Bool, true, false, cond, ltb, List, [], ◌∷◌}
use Rattle.std.proofs.Common.{◌++◌, length, take, drop, Option, Some, None, Result, Ok, Err, refl, sym, ap, subst, ◌∙◌}
use Rattle.std.proofs.Common.{inl, inr, arith}
use Rattle.std.specs.Int.{w32, from_be_bytes}
use Rattle.std.proofs.lemmas.Bool.{ltb-false, le-ltb}
use Rattle.std.proofs.lemmas.List.{length-append, take-append-le, drop-append-le}
use Rattle.mta_ber.specs.declared.fault.Fault.{Fault}
use Rattle.mta_ber.specs.Octet.{IsOctets}
use Rattle.mta_units.specs.declared.front.BadUnit.{BadUnit}
use Rattle.mta_units.specs.declared.front.BadUnit.TheVariants as bad
use Rattle.mta_units.specs.declared.kind.UnitKind.{UnitKind}
use Rattle.mta_units.specs.declared.unit.Unit.{Unit as AnyUnit}
use Rattle.mta_units.specs.Kind.{kind_at}
use Rattle.mta_units.specs.Front.{Front, Cut, Faulty, Whole, front, kinded, listed, longest_body}
use Rattle.mta_units.specs.Body.{body_in}
use Rattle.mta_units.specs.Look.{Nothing, Fails, with_body, look_behind, look, KeepsFault}
use Rattle.mta_units.specs.Feed.{Holds}

abbrev grown : Front → List ℕ → Front
grown Cut more = Cut
grown (Faulty k) more = Faulty k
grown (Whole k body rest) more = Whole k body (rest ++ more)

-- more octets change nothing but what follows
abbrev Grows : Front → Front → List ℕ → Type 0
Grows before after more = (before ≡ Cut) ⊎ (after ≡ grown before more)

whole_grows : (size : ℕ) (k : UnitKind) (tail more : List ℕ) (b : Bool) → ltb (length tail) size ≡ b
    → Grows (cond b Cut (Whole k (take size tail) (drop size tail))) (listed size (Some k) (tail ++ more)) more
whole_grows size k tail more true is = inl refl
whole_grows size k tail more false is =
    let fits = ltb-false (length tail) size is in
    let still : ltb (length (tail ++ more)) size ≡ false =
    le-ltb (length (tail ++ more)) size (omega (arith, fits, length-append tail more)) in
    inr (ap (λ b. cond b Cut (Whole k (take size (tail ++ more)) (drop size (tail ++ more)))) still
    ∙ ap (λ l. Whole k l (drop size (tail ++ more))) (take-append-le size tail more fits)
    ∙ ap (λ l. Whole k (take size tail) l) (drop-append-le size tail more fits))

listed_grows : (size : ℕ) (o : Option UnitKind) (tail more : List ℕ)
    → Grows (listed size o tail) (listed size o (tail ++ more)) more
listed_grows size None tail more = inr refl
listed_grows size (Some k) tail more = whole_grows size k tail more (ltb (length tail) size) refl

kinded_grows : (size : ℕ) (tail more : List ℕ) → Grows (kinded size tail) (kinded size (tail ++ more)) more
kinded_grows size [] more = inl refl
kinded_grows size (octet ∷ tail) more = listed_grows size (kind_at octet) tail more

sized_grows : (size : ℕ) (tail more : List ℕ) (b : Bool)
    → Grows (cond b (Faulty bad.Length) (kinded size tail))
    (cond b (Faulty bad.Length) (kinded size (tail ++ more))) more
sized_grows size tail more true = inr refl
sized_grows size tail more false = kinded_grows size tail more

front_grows : (octets more : List ℕ) → Grows (front octets) (front (octets ++ more)) more
front_grows [] more = inl refl
front_grows (a ∷ []) more = inl refl
front_grows (a ∷ b ∷ []) more = inl refl
front_grows (a ∷ b ∷ c ∷ []) more = inl refl
front_grows (a ∷ b ∷ c ∷ d ∷ tail) more =
    let size = from_be_bytes w32 (a ∷ b ∷ c ∷ d ∷ []) in
    sized_grows size tail more (ltb longest_body size)

body_stays : (k : BadUnit) (r : Result AnyUnit Fault) (rest more : List ℕ) → with_body r rest ≡ Fails k
    → with_body r (rest ++ more) ≡ Fails k
body_stays k (Ok u) rest more e = absurd cc
body_stays k (Err f) rest more e = e

behind_stays : (k : BadUnit) (f : Front) (more : List ℕ) → look_behind f ≡ Fails k
    → look_behind (grown f more) ≡ Fails k
behind_stays k Cut more e = absurd cc
behind_stays k (Faulty j) more e = e
behind_stays k (Whole j body rest) more e = body_stays k (body_in j body) rest more e

pub fault_stays : (k : BadUnit) (octets more : List ℕ) → look octets ≡ Fails k → look (octets ++ more) ≡ Fails k
unfolding look
fault_stays k octets more e =
    elim (front_grows octets more) [
      | inl cut ↦ absurd (let n : look_behind (front octets) ≡ Nothing = ap look_behind cut in cc)
      | inr grows ↦ ap look_behind grows ∙ behind_stays k (front octets) more e
    ]

pub kept_stays : (o : Option BadUnit) (octets more : List ℕ) → KeepsFault o octets → KeepsFault o (octets ++ more)
kept_stays None octets more h = tt
kept_stays (Some k) octets more h = fault_stays k octets more h

-- octets behind octets
pub octets_join : (a b : List ℕ) → IsOctets a → IsOctets b → IsOctets (a ++ b)
octets_join [] b h g = g
octets_join (x ∷ a) b h g = octets_cons x (a ++ b) (h 0) (octets_join a b (λ i. h (suc i)) g)
  where
    octets_cons : (y : ℕ) (ys : List ℕ) → y < 256 → IsOctets ys → IsOctets (y ∷ ys)
    octets_cons y ys small rest zero = small
    octets_cons y ys small rest (suc i) = rest i

-- what holds of a stream holds when a piece more is fed
pub feed_holds : (taken taken' : ℕ) (octets octets' piece all : List ℕ) (at : ℕ) (o : Option BadUnit)
    (spare spare' capacity capacity' : ℕ) → Holds taken octets at o spare capacity
    → drop taken' octets' ≡ drop taken octets → taken' ≤ length octets' → all ≡ octets' ++ piece → IsOctets piece
    → at + length (drop taken octets) + length piece < 2 ^ 64 → length all + spare' ≤ capacity'
    → Holds taken' all at o spare' capacity'
feed_holds taken taken' octets octets' piece all at o spare spare' capacity capacity' h left within all_is bytes room
    memory =
    let left_is : drop taken' all ≡ drop taken octets ++ piece = ap (drop taken') all_is
    ∙ drop-append-le taken' octets' piece within ∙ ap (λ l. l ++ piece) left in
    let sizes : length (drop taken' all) ≡ length (drop taken octets) + length piece = ap length left_is
    ∙ length-append (drop taken octets) piece in
    record {
      within = omega (arith, within, ap length all_is, length-append octets' piece);
      room = omega (arith, room, sizes);
      bytes = subst IsOctets (sym left_is) (octets_join (drop taken octets) piece h.bytes bytes);
      kept = subst (KeepsFault o) (sym left_is) (kept_stays o (drop taken octets) piece h.kept);
      memory = memory;
    }

-- and where none is
pub still_holds : (taken taken' : ℕ) (octets octets' : List ℕ) (at : ℕ) (o : Option BadUnit)
    (spare spare' capacity capacity' : ℕ) → Holds taken octets at o spare capacity
    → drop taken' octets' ≡ drop taken octets → taken' ≤ length octets' → length octets' + spare' ≤ capacity'
    → Holds taken' octets' at o spare' capacity'
still_holds taken taken' octets octets' at o spare spare' capacity capacity' h left within memory = record {
  within = within;
  room = omega (arith, h.room, ap length left);
  bytes = subst IsOctets (sym left) h.bytes;
  kept = subst (KeepsFault o) (sym left) h.kept;
  memory = memory;
}
