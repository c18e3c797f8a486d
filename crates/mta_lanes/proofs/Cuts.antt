-- Pieces that lie one behind the other.
use Rattle.std.proofs.Common.{◌≡◌, ◌≤◌, ◌<◌, ◌+◌, ◌-◌, ℕ, zero, suc, List, [], ◌∷◌, ◌++◌}
use Rattle.std.proofs.Common.{length, take, drop, get_or, refl, sym, ap, subst, ◌∙◌, arith, append-nil, append_assoc}
use Rattle.std.proofs.Common.{length-append}
use Rattle.std.proofs.lemmas.List.{drop_all, drop_more, drop-take, take-append-drop, take_all, take_more}
use Rattle.std.proofs.lemmas.List.{take-append-le, take-take, length-take-le}
use Rattle.std.proofs.Math.Seq.{drop-append_seam}
use Rattle.std.specs.List.{concat}
use Rattle.mta_lanes.specs.Pieces.{pieces_of, last_end, AreEnds}
use Rattle.mta_lanes.proofs.Concats.{front_shorter, joined_behind, length_behind}

pub rises : (from : ℕ) (es : List ℕ) → AreEnds from es → from ≤ last_end from es
rises from [] a = omega arith
rises from (e ∷ es) a = let more = rises e es a.1 in omega (arith, a.0, more)

pub counted : (o : List ℕ) (from : ℕ) (es : List ℕ) → length (pieces_of o from es) ≡ length es
counted o from [] = refl
counted o from (e ∷ es) = ap suc (counted o e es)

-- ---- the first pieces

pub taken : (n : ℕ) (o : List ℕ) (from : ℕ) (es : List ℕ) → take n (pieces_of o from es) ≡ pieces_of o from (take n es)
taken zero o from es = refl
taken (suc n) o from [] = refl
taken (suc n) o from (e ∷ es) = ap (λ (ps : List (List ℕ)). drop from (take e o) ∷ ps) (taken n o e es)

pub ends_taken : (n from : ℕ) (es : List ℕ) → AreEnds from es → AreEnds from (take n es)
ends_taken zero from es a = tt
ends_taken (suc n) from [] a = tt
ends_taken (suc n) from (e ∷ es) a = (a.0, ends_taken n e es a.1)

pub end_within : (n from : ℕ) (es : List ℕ) → AreEnds from es → last_end from (take n es) ≤ last_end from es
end_within zero from es a = rises from es a
end_within (suc n) from [] a = omega arith
end_within (suc n) from (e ∷ es) a = end_within n e es a.1

end_behind : (n from : ℕ) (es : List ℕ) (d : ℕ) → n < length es → last_end from (take (suc n) es) ≡ get_or es n d
end_behind n from [] d p = absurd (omega (arith, p))
end_behind zero from (e ∷ es) d p = refl
end_behind (suc n) from (e ∷ es) d p = end_behind n e es d (omega (arith, p))

pub end_first : (n : ℕ) (es : List ℕ) → n ≡ 0 → 0 ≡ last_end 0 (take n es)
end_first zero es p = refl
end_first (suc n) es p = absurd (omega (arith, p))

pub end_at : (n : ℕ) (es : List ℕ) (d : ℕ) → 0 < n → n ≤ length es → get_or es (n - 1) d ≡ last_end 0 (take n es)
end_at zero es d p q = absurd (omega (arith, p))
end_at (suc n) es d p q =
    let before : suc n - 1 ≡ n = omega arith in
    ap (λ (k : ℕ). get_or es k d) before ∙ sym (end_behind n 0 es d (omega (arith, q)))

pub end_last : (es : List ℕ) → last_end 0 (take (length es) es) ≡ last_end 0 es
end_last es = ap (last_end 0) (take_all (length es) es (omega arith))

pub end_clamped : (n : ℕ) (es : List ℕ) → length es ≤ n → last_end 0 (take (length es) es) ≡ last_end 0 (take n es)
end_clamped n es p =
    ap (last_end 0) (take_all (length es) es (omega arith)) ∙ sym (ap (last_end 0) (take_all n es p))

-- ---- all octets

seam : (from e : ℕ) (o : List ℕ) → from ≤ e → drop from (take e o) ++ drop e o ≡ drop from o
seam zero e o p = take-append-drop e o
seam (suc from) zero o p = absurd (omega (arith, p))
seam (suc from) (suc e) [] p = refl
seam (suc from) (suc e) (x ∷ o) p = seam from e o (omega (arith, p))

none_left : (n : ℕ) (o : List ℕ) → drop n (take n o) ≡ []
none_left zero o = refl
none_left (suc n) [] = refl
none_left (suc n) (x ∷ o) = none_left n o

pub joined : (o : List ℕ) (from : ℕ) (es : List ℕ) → AreEnds from es
    → concat (pieces_of o from es) ≡ drop from (take (last_end from es) o)
joined o from [] a = sym (none_left from o)
joined o from (e ∷ es) a =
    let last = last_end e es in
    ap (λ (z : List ℕ). drop from (take e o) ++ z) (joined o e es a.1)
    ∙ ap (λ (z : List ℕ). drop from z ++ drop e (take last o)) (sym (take-take e last o (rises e es a.1)))
    ∙ seam from e (take last o) a.0

-- ---- octets that begin alike

pub same : (o q : List ℕ) (from : ℕ) (es : List ℕ) → AreEnds from es
    → take (last_end from es) q ≡ take (last_end from es) o → pieces_of q from es ≡ pieces_of o from es
same o q from [] a alike = refl
same o q from (e ∷ es) a alike =
    let last = last_end e es in
    let first : take e q ≡ take e o =
    sym (take-take e last q (rises e es a.1)) ∙ ap (take e) alike ∙ take-take e last o (rises e es a.1) in
    ap (λ (z : List ℕ). drop from z ∷ pieces_of q e es) first
    ∙ ap (λ (ps : List (List ℕ)). drop from (take e o) ∷ ps) (same o q e es a.1 alike)

-- ---- a piece more

pushed : (o : List ℕ) (from : ℕ) (es : List ℕ) (e : ℕ)
    → pieces_of o from (es ++ e ∷ []) ≡ pieces_of o from es ++ drop (last_end from es) (take e o) ∷ []
pushed o from [] e = refl
pushed o from (x ∷ es) e = ap (λ (ps : List (List ℕ)). drop from (take x o) ∷ ps) (pushed o x es e)

ends_pushed : (from : ℕ) (es : List ℕ) (e : ℕ) → AreEnds from es → last_end from es ≤ e → AreEnds from (es ++ e ∷ [])
ends_pushed from [] e a p = (p, tt)
ends_pushed from (x ∷ es) e a p = (a.0, ends_pushed x es e a.1 p)

last_pushed : (from : ℕ) (es : List ℕ) (e : ℕ) → last_end from (es ++ e ∷ []) ≡ e
last_pushed from [] e = refl
last_pushed from (x ∷ es) e = last_pushed x es e

-- ---- a piece in place of the one behind the first ones, and of all behind it

module _ (n : ℕ) (o es piece q fs : List ℕ) (a : AreEnds 0 es) (within : last_end 0 es ≤ length o)
    (octets : q ≡ take (last_end 0 (take n es)) o ++ piece)
    (ends : fs ≡ take n es ++ (last_end 0 (take n es) + length piece) ∷ [])
  where
    abbrev end : ℕ
    end = last_end 0 (take n es)

    end_in : end ≤ length o
    end_in = let most = end_within n 0 es a in omega (arith, most, within)

    size_front : length (take end o) ≡ end
    size_front = length-take-le end o end_in

    size : length q ≡ end + length piece
    size = ap length octets ∙ (length-append (take end o) piece ∙ ap (λ (k : ℕ). k + length piece) size_front)

    alike : take end q ≡ take end o
    alike =
        ap (take end) octets
        ∙ (take-append-le end (take end o) piece (omega (arith, size_front)) ∙ take-take end end o (omega arith))

    behind : drop end (take (end + length piece) q) ≡ piece
    behind =
        ap (drop end) (take_all (end + length piece) q (omega (arith, size)) ∙ octets)
        ∙ (ap (λ (k : ℕ). drop k (take end o ++ piece)) (sym size_front) ∙ drop-append_seam (take end o) piece)

    pub put_pieces : pieces_of q 0 fs ≡ take n (pieces_of o 0 es) ++ piece ∷ []
    put_pieces =
        ap (pieces_of q 0) ends
        ∙ (pushed q 0 (take n es) (end + length piece)
        ∙ (ap (λ (z : List ℕ). pieces_of q 0 (take n es) ++ z ∷ []) behind
        ∙ ap (λ (ps : List (List ℕ)). ps ++ piece ∷ [])
        (same o q 0 (take n es) (ends_taken n 0 es a) alike ∙ sym (taken n o 0 es))))

    pub put_ends : AreEnds 0 fs
    put_ends =
        subst (λ (zs : List ℕ). AreEnds 0 zs) (sym ends)
        (ends_pushed 0 (take n es) (end + length piece) (ends_taken n 0 es a) (omega arith))

    pub put_within : last_end 0 fs ≤ length q
    put_within =
        let last : last_end 0 fs ≡ end + length piece =
        ap (last_end 0) ends ∙ last_pushed 0 (take n es) (end + length piece) in
        omega (arith, last, size)

    pub put_fits : AreEnds 0 fs × (last_end 0 fs ≤ length q)
    put_fits = (put_ends, put_within)

-- ---- what the first pieces have

pub front : (n : ℕ) (o es : List ℕ) → AreEnds 0 es
    → concat (take n (pieces_of o 0 es)) ≡ take (last_end 0 (take n es)) o
front n o es a = ap concat (taken n o 0 es) ∙ joined o 0 (take n es) (ends_taken n 0 es a)

pub front_in : (n : ℕ) (o es : List ℕ) → AreEnds 0 es → last_end 0 es ≤ length o
    → last_end 0 (take n es) ≤ length o
front_in n o es a within = let most = end_within n 0 es a in omega (arith, most, within)

pub front_size : (n : ℕ) (o es : List ℕ) → AreEnds 0 es → last_end 0 es ≤ length o
    → last_end 0 (take n es) ≡ length (concat (take n (pieces_of o 0 es)))
front_size n o es a within =
    sym (ap length (front n o es a) ∙ length-take-le (last_end 0 (take n es)) o (front_in n o es a within))

pub more_size : (n : ℕ) (o es piece : List ℕ) → AreEnds 0 es → last_end 0 es ≤ length o
    → length (concat (take n (pieces_of o 0 es) ++ piece ∷ [])) ≡ last_end 0 (take n es) + length piece
more_size n o es piece a within =
    let front = front_size n o es a within in
    omega (arith, length_behind (take n (pieces_of o 0 es)) piece, front)

-- ---- all pieces

pub all : (o es : List ℕ) → AreEnds 0 es → take (last_end 0 es) o ≡ concat (pieces_of o 0 es)
all o es a = sym (joined o 0 es a)

-- octets that begin alike have the same pieces
pub same_all : (o q es : List ℕ) (last : ℕ) (xs : List (List ℕ)) → AreEnds 0 es → last ≡ last_end 0 es
    → take last q ≡ take last o → pieces_of o 0 es ≡ xs → pieces_of q 0 es ≡ xs
same_all o q es last xs a is alike are =
    same o q 0 es a (subst (λ (k : ℕ). take k q ≡ take k o) is alike) ∙ are

pub all_fewer : (n : ℕ) (xs : List (List ℕ)) → length xs ≤ n → concat xs ≡ concat (take n xs)
all_fewer n xs p = sym (ap concat (take_all n xs p))

pub kept : (n : ℕ) (o t e p : List ℕ) → n ≤ length o → t ≡ take n o → e ≡ t ++ p → take n e ≡ take n o
kept n o t e p within a b =
    let short = length-take-le n o within in
    ap (take n) (b ∙ ap (λ (z : List ℕ). z ++ p) a)
    ∙ (take-append-le n (take n o) p (omega (arith, short)) ∙ take-take n n o (omega arith))

pub ruleset put_laws = (counted, front_in, more_size, put_pieces, put_fits)

-- ---- pieces that are put one behind the other

-- these octets, with these ends, are the pieces, and nothing is behind them
pub record AreCut (pieces : List (List ℕ)) (o es : List ℕ) : Type 0 where
  pub octets : o ≡ concat pieces
  pub pieces_are : pieces_of o 0 es ≡ pieces
  pub ends : AreEnds 0 es
  pub last : last_end 0 es ≡ length o

pub cut_none : (xs : List (List ℕ)) (o es : List ℕ) → o ≡ [] → es ≡ [] → AreCut (take 0 xs) o es
cut_none xs o es none no_ends = record {
  octets = none;
  pieces_are = ap (pieces_of o 0) no_ends;
  ends = subst (AreEnds 0) (sym no_ends) tt;
  last = ap (last_end 0) no_ends ∙ sym (ap length none);
}

pub cut_more : (xs : List (List ℕ)) (o es piece q fs : List ℕ) → AreCut xs o es → q ≡ o ++ piece
    → fs ≡ es ++ length q ∷ [] → AreCut (xs ++ piece ∷ []) q fs
cut_more xs o es piece q fs cut more ends =
    let size : length q ≡ length o + length piece = ap length more ∙ length-append o piece in
    let last = cut.last in
    let alike : take (last_end 0 es) q ≡ take (last_end 0 es) o =
    ap (take (last_end 0 es)) more ∙ take-append-le (last_end 0 es) o piece (omega (arith, last)) in
    let behind : drop (last_end 0 es) (take (length q) q) ≡ piece =
    ap (drop (last_end 0 es)) (take_all (length q) q (omega arith) ∙ more)
    ∙ (ap (λ (k : ℕ). drop k (o ++ piece)) last ∙ drop-append_seam o piece) in
    record {
      octets = more ∙ (ap (λ (z : List ℕ). z ++ piece) cut.octets ∙ sym (joined_behind xs piece));
      pieces_are =
          ap (pieces_of q 0) ends
          ∙ (pushed q 0 es (length q)
          ∙ (ap (λ (z : List ℕ). pieces_of q 0 es ++ z ∷ []) behind
          ∙ ap (λ (ps : List (List ℕ)). ps ++ piece ∷ []) (same o q 0 es cut.ends alike ∙ cut.pieces_are)));
      ends = subst (AreEnds 0) (sym ends) (ends_pushed 0 es (length q) cut.ends (omega (arith, last, size)));
      last = ap (last_end 0) ends ∙ last_pushed 0 es (length q);
    }

-- the next of pieces that lie in a list
pub cut_next : (xs : List (List ℕ)) (k : ℕ) (o es piece q fs : List ℕ) → k < length xs → piece ≡ get_or xs k piece
    → AreCut (take k xs) o es → q ≡ o ++ piece → fs ≡ es ++ length q ∷ [] → AreCut (take (k + 1) xs) q fs
cut_next xs k o es piece q fs within is cut more ends =
    subst (λ (ys : List (List ℕ)). AreCut ys q fs)
    (ap (λ (p : List ℕ). take k xs ++ p ∷ []) is ∙ sym (take_more xs k piece within))
    (cut_more (take k xs) o es piece q fs cut more ends)

-- the octets of a piece more are not more than those of all
pub cut_fits : (xs : List (List ℕ)) (k most : ℕ) (o es piece q : List ℕ) → k < length xs → piece ≡ get_or xs k piece
    → AreCut (take k xs) o es → q ≡ o ++ piece → length (concat xs) < most → length q < most
cut_fits xs k most o es piece q within is cut more few =
    let front = front_shorter (k + 1) xs in
    let size : length q ≡ length (concat (take (k + 1) xs)) =
    ap length (more ∙ (ap (λ (z : List ℕ). z ++ piece) cut.octets ∙ sym (joined_behind (take k xs) piece)))
    ∙ ap (λ (ys : List (List ℕ)). length (concat ys))
    (ap (λ (p : List ℕ). take k xs ++ p ∷ []) is ∙ sym (take_more xs k piece within)) in
    omega (arith, front, size)

pub cut_all : (xs : List (List ℕ)) (k : ℕ) (o es : List ℕ) → length xs ≤ k → AreCut (take k xs) o es
    → AreCut xs o es
cut_all xs k o es past cut = subst (λ (ys : List (List ℕ)). AreCut ys o es) (take_all k xs past) cut

-- ---- pieces that are taken out one after the other

cut_same : (from to : ℕ) (octets : List ℕ) → from ≤ to
    → take (to - from) (drop from octets) ≡ drop from (take to octets)
cut_same from to octets order =
    let whole : from + (to - from) ≡ to = omega (arith, order) in
    sym (drop-take from (to - from) octets) ∙ ap (λ (n : ℕ). drop from (take n octets)) whole

-- these are the first pieces, and the others lie from here on
pub record AreTaken (octets all : List ℕ) (pieces : List (List ℕ)) (from : ℕ) (ends : List ℕ) : Type 0 where
  pub same : pieces ++ pieces_of octets from ends ≡ pieces_of octets 0 all
  pub order : AreEnds from ends
  pub within : last_end from ends ≤ length octets

pub taken_none : (octets all : List ℕ) (pieces : List (List ℕ)) → AreEnds 0 all → last_end 0 all ≤ length octets
    → pieces ≡ [] → AreTaken octets all pieces 0 (drop 0 all)
taken_none octets all pieces order within none = record {
  same = ap (λ (ps : List (List ℕ)). ps ++ pieces_of octets 0 all) none;
  order = order;
  within = within;
}

module _ (octets all : List ℕ) (pieces : List (List ℕ)) (from k : ℕ) (more : k < length all)
    (way : AreTaken octets all pieces from (drop k all))
  where
    opened : AreTaken octets all pieces from (get_or all k 0 ∷ drop (k + 1) all)
    opened = subst (AreTaken octets all pieces from) (drop_more all k 0 more) way

    pub taken_order : from ≤ get_or all k 0
    taken_order = opened.order.0

    pub taken_within : get_or all k 0 ≤ length octets
    taken_within =
        let o = opened in
        let more_ends = rises (get_or all k 0) (drop (k + 1) all) o.order.1 in
        let inside = o.within in
        omega (arith, more_ends, inside)

    pub taken_next : (piece : List ℕ) (new : List (List ℕ)) → piece ≡ take (get_or all k 0 - from) (drop from octets)
        → new ≡ pieces ++ piece ∷ [] → AreTaken octets all new (get_or all k 0) (drop (k + 1) all)
    taken_next piece new is put =
        let o = opened in
        let rest = pieces_of octets (get_or all k 0) (drop (k + 1) all) in
        record {
          same = ap (λ (ps : List (List ℕ)). ps ++ rest) put
              ∙ (append_assoc pieces (piece ∷ []) rest
              ∙ (ap (λ (p : List ℕ). pieces ++ p ∷ rest) (is ∙ cut_same from (get_or all k 0) octets taken_order)
              ∙ o.same));
          order = o.order.1;
          within = o.within;
        }

pub taken_all : (octets all : List ℕ) (pieces : List (List ℕ)) (from k : ℕ) → length all ≤ k
    → AreTaken octets all pieces from (drop k all) → pieces ≡ pieces_of octets 0 all
taken_all octets all pieces from k past way =
    sym (append-nil pieces)
    ∙ subst (λ (es : List ℕ). pieces ++ pieces_of octets from es ≡ pieces_of octets 0 all) (drop_all k all past)
    way.same
