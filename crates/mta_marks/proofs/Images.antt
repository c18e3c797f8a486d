-- An image stands for one list of marks, or stops at one place.
use Rattle.std.proofs.Common.{◌≡◌, ℕ, ◌+◌, List, [], ◌∷◌, ◌++◌, length, map, drop, refl, sym, ap, subst, ◌∙◌, inl, inr}
use Rattle.std.proofs.Common.{append_assoc}
use Rattle.std.proofs.lemmas.List.{append-nil}
use Rattle.mta_journal.specs.Bodies.{records, StandsFor as HoldsBodies}
use Rattle.mta_journal.proofs.Unique.{one_area, one_list as one_list_of_bodies, not_both, one_place}
use Rattle.mta_marks.specs.declared.mark.Mark.{Mark}
use Rattle.mta_marks.specs.Image.{HasStop, NoMarksAt, OnePlace, StandsFor, StopsAt}
use Rattle.mta_marks.specs.Marks.{AreMarksBehind, IsMark, IsPossible, body_of}
use Rattle.mta_marks.proofs.Entries.{body_same}

same_marks : (a b s t : List Mark) → AreMarksBehind a s → AreMarksBehind b t → map body_of s ≡ map body_of t → s ≡ t
same_marks a b [] [] p q e = refl
same_marks a b [] (y ∷ t) p q e = absurd cc
same_marks a b (x ∷ s) [] p q e = absurd cc
same_marks a b (x ∷ s) (y ∷ t) p q e =
    let here : body_of x ≡ body_of y = cc in
    let behind : map body_of s ≡ map body_of t = cc in
    let first : x ≡ y = body_same x y p.0 q.0 here in
    let rest : s ≡ t = same_marks (a ++ x ∷ []) (b ++ y ∷ []) s t p.1.1 q.1.1 behind in
    cc

pub one_list : (image : List ℕ) (s t : List Mark) → StandsFor image s → StandsFor image t → s ≡ t
one_list image s t p q =
    same_marks [] [] s t p.are q.are
    (one_list_of_bodies image (map body_of s) (map body_of t) p.bodies q.bodies)

-- a mark of this body that is possible behind these
abbrev HasMark : List Mark → List ℕ → Type 0
HasMark before body = (m : Mark) × IsMark m × (body_of m ≡ body) × IsPossible before m

shift : (before : List Mark) (x : Mark) (marks : List Mark) (m : Mark) → IsPossible ((before ++ x ∷ []) ++ marks) m
    → IsPossible (before ++ x ∷ marks) m
shift before x marks m can = subst (λ (ms : List Mark). IsPossible ms m) (append_assoc before (x ∷ []) marks) can

-- marks whose bodies begin with those of others, and then this one, have a possible mark of this body
mark_there : (before marks others : List Mark) (body : List ℕ) (bodies : List (List ℕ)) → AreMarksBehind before marks
    → AreMarksBehind before others → map body_of others ≡ map body_of marks ++ body ∷ bodies
    → HasMark (before ++ marks) body
mark_there before [] [] body bodies p q e = absurd cc
mark_there before (t ∷ marks) [] body bodies p q e = absurd cc
mark_there before [] (o ∷ others) body bodies p q e =
    (o, q.0, cc, subst (λ (ms : List Mark). IsPossible ms o) (sym (append-nil before)) q.1.0)
mark_there before (t ∷ marks) (o ∷ others) body bodies p q e =
    let first : body_of o ≡ body_of t = cc in
    let rest : map body_of others ≡ map body_of marks ++ body ∷ bodies = ap (drop 1) e in
    let same : o ≡ t = body_same o t q.0 p.0 first in
    let found = mark_there (before ++ t ∷ []) marks others body bodies p.1.1
    (subst (λ (x : Mark). AreMarksBehind (before ++ x ∷ []) others) same q.1.1) rest in
    (found.0, found.1, found.2, shift before t marks found.0 found.3)

holds : (image : List ℕ) (at : ℕ) (there : HasStop image at) → HoldsBodies image there.bodies
holds image at there = inr (there.long, (there.first, there.has))

pub no_marks : (image : List ℕ) (at : ℕ) (marks : List Mark) → NoMarksAt image at → StandsFor image marks → ⊥
no_marks image at marks (inl no_journal) stands = not_both image (map body_of marks) at stands.bodies no_journal
no_marks image at marks (inr there) stands =
    let stops = there.stops in
    let same : there.bodies ≡ map body_of marks =
    one_list_of_bodies image there.bodies (map body_of marks) (holds image at there) stands.bodies in
    let found = mark_there [] stops.marks marks stops.body stops.more stops.are stands.are
    (sym same ∙ stops.bodies_are) in
    stops.none found.0 found.1 found.2 found.3

-- no mark that is possible behind these has this body
abbrev HasNone : List Mark → List ℕ → Type 0
HasNone before body = (m : Mark) → IsMark m → body_of m ≡ body → IsPossible before m → ⊥

-- of two lists of marks, behind each of which the same list of bodies stops, neither is longer
same_stop : (before marks others : List Mark) (body body' : List ℕ) (more more' : List (List ℕ))
    → AreMarksBehind before marks → AreMarksBehind before others
    → map body_of marks ++ body ∷ more ≡ map body_of others ++ body' ∷ more'
    → HasNone (before ++ marks) body → HasNone (before ++ others) body' → marks ≡ others
same_stop before [] [] body body' more more' p q e none none' = refl
same_stop before [] (o ∷ others) body body' more more' p q e none none' =
    let first : body_of o ≡ body = cc in
    absurd (none o q.0 first (subst (λ (ms : List Mark). IsPossible ms o) (sym (append-nil before)) q.1.0))
same_stop before (t ∷ marks) [] body body' more more' p q e none none' =
    let first : body_of t ≡ body' = cc in
    absurd (none' t p.0 first (subst (λ (ms : List Mark). IsPossible ms t) (sym (append-nil before)) p.1.0))
same_stop before (t ∷ marks) (o ∷ others) body body' more more' p q e none none' =
    let first : body_of o ≡ body_of t = cc in
    let rest : map body_of marks ++ body ∷ more ≡ map body_of others ++ body' ∷ more' = ap (drop 1) e in
    let same : o ≡ t = body_same o t q.0 p.0 first in
    let behind : marks ≡ others =
    same_stop (before ++ t ∷ []) marks others body body' more more' p.1.1
    (subst (λ (x : Mark). AreMarksBehind (before ++ x ∷ []) others) same q.1.1) rest
    (λ m mark b can. none m mark b (shift before t marks m can))
    (λ m mark b can. none' m mark b
    (subst (λ (x : Mark). IsPossible (before ++ x ∷ others) m) (sym same) (shift before t others m can))) in
    cc

stops_once : (first : ℕ) (bodies : List (List ℕ)) (at other : ℕ) → StopsAt first bodies at → StopsAt first bodies other
    → at ≡ other
stops_once first bodies at other a b =
    let same : a.marks ≡ b.marks =
    same_stop [] a.marks b.marks a.body b.body a.more b.more a.are b.are (sym a.bodies_are ∙ b.bodies_are) a.none
    b.none in
    a.place ∙ ap (λ (marks : List Mark). first + length (records (map body_of marks))) same ∙ sym b.place

pub one_stop : OnePlace
one_stop image at other (inl a) (inl b) = one_place image at other a b
one_stop image at other (inl a) (inr b) = absurd (not_both image b.bodies at (holds image other b) a)
one_stop image at other (inr a) (inl b) = absurd (not_both image a.bodies other (holds image at a) b)
one_stop image at other (inr a) (inr b) =
    let same = one_area image a.first b.first a.bodies b.bodies a.has b.has in
    stops_once a.first a.bodies at other a.stops
    (subst (λ (first : ℕ). StopsAt first a.bodies other) (sym same.0)
    (subst (λ (bodies : List (List ℕ)). StopsAt b.first bodies other) (sym same.1) b.stops))
