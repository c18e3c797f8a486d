-- An image that is no spool stands for no history, and is none at one place only.
use Rattle.std.proofs.Common.{◌≡◌, ℕ, ◌+◌, List, [], ◌∷◌, ◌++◌, length, map, drop, get_or, refl, sym, ap, subst}
use Rattle.std.proofs.Common.{◌∙◌, inl, inr, ◌<◌, arith}
use Rattle.mta_journal.specs.Bodies.{records, StandsFor as HoldsBodies}
use Rattle.mta_journal.proofs.Unique.{one_area, one_list, not_both, one_place}
use Rattle.mta_records.specs.State.{SnapshotValue}
use Rattle.mta_records.specs.declared.step.Step.{Step}
use Rattle.mta_records.specs.declared.step.Step.TheVariants.{Snapshot}
use Rattle.mta_records.specs.Body.{body_of, HasFields}
use Rattle.mta_records.proofs.Records.{body_same}
use Rattle.mta_histories.specs.Lanes.{State, empty}
use Rattle.mta_histories.specs.History.{IsPossible, ArePossible, after_from, after_step}
use Rattle.mta_images.specs.Image.{AreRecords, HasOther, HasStop, StandsFor, StopsAt, NoSpoolAt, OnePlace}

-- a history whose bodies begin with those of another, and then this one, has a possible step of this body
step_there : (s : State) (steps others : List Step) (body : List ℕ) (bodies : List (List ℕ)) → AreRecords steps
    → AreRecords others → ArePossible s others → map body_of others ≡ map body_of steps ++ body ∷ bodies
    → (step : Step) × HasFields step × (body_of step ≡ body) × IsPossible (after_from s steps) step
step_there s [] [] body bodies each each' possible e = absurd cc
step_there s (t ∷ steps) [] body bodies each each' possible e = absurd cc
step_there s [] (o ∷ others) body bodies each each' possible e = (o, each'.0, cc, possible.0)
step_there s (t ∷ steps) (o ∷ others) body bodies each each' possible e =
    let first : body_of o ≡ body_of t = cc in
    let rest : map body_of others ≡ map body_of steps ++ body ∷ bodies = ap (drop 1) e in
    let same : o ≡ t = body_same o t each'.0 each.0 first in
    step_there (after_step s t) steps others body bodies each.1 each'.1
    (subst (λ (x : Step). ArePossible (after_step s x) others) same possible.1) rest

-- an image that has bodies holds them
holds : (image : List ℕ) (at : ℕ) (there : HasStop image at) → HoldsBodies image there.bodies
holds image at there = inr (there.long, (there.first, there.has))

-- so does one whose second area has one record
holds_other : (image : List ℕ) (at : ℕ) (there : HasOther image at) → HoldsBodies image (there.body ∷ [])
holds_other image at there =
    let long : 9 < length image = omega (arith, there.second.areas.inside) in inr (long, (at, there.has))

pub no_history : (image : List ℕ) (at : ℕ) (steps : List Step) → NoSpoolAt image at → StandsFor image steps
    → ⊥
no_history image at steps (inl no_journal) stands = not_both image (map body_of steps) at stands.bodies no_journal
no_history image at steps (inr (inl there)) stands =
    let stops = there.stops in
    let same : there.bodies ≡ map body_of steps =
    one_list image there.bodies (map body_of steps) (holds image at there) stands.bodies in
    let found = step_there empty stops.steps steps stops.body stops.more stops.each stands.each stands.history
    (sym same ∙ stops.bodies_are) in
    stops.none found.0 found.1 found.2 found.3
no_history image at steps (inr (inr there)) stands =
    let snapshot = stands.second there.second in
    let same : there.body ∷ [] ≡ map body_of steps =
    one_list image (there.body ∷ []) (map body_of steps) (holds_other image at there) stands.bodies in
    there.other snapshot.0 (fields steps snapshot.0 snapshot.1 stands.each) (body_is steps snapshot.0 snapshot.1 same)
  where
    fields : (s : List Step) (t : SnapshotValue) → s ≡ Snapshot t ∷ [] → AreRecords s → HasFields (Snapshot t)
    fields s t e each = (subst AreRecords e each).0

    body_is : (s : List Step) (t : SnapshotValue) → s ≡ Snapshot t ∷ [] → there.body ∷ [] ≡ map body_of s
        → body_of (Snapshot t) ≡ there.body
    body_is s t e same =
        let whole : there.body ∷ [] ≡ body_of (Snapshot t) ∷ [] = same ∙ ap (map body_of) e in
        sym (ap (λ (b : List (List ℕ)). get_or b 0 []) whole)

-- no step that is possible in the state has this body
abbrev HasNone : State → List ℕ → Type 0
HasNone s body = (step : Step) → HasFields step → body_of step ≡ body → IsPossible s step → ⊥

-- of two lists of possible steps, behind each of which the same list of bodies stops, neither is longer
same_stop : (s : State) (steps others : List Step) (body body' : List ℕ) (more more' : List (List ℕ))
    → AreRecords steps → AreRecords others
    → ArePossible s steps → ArePossible s others
    → map body_of steps ++ body ∷ more ≡ map body_of others ++ body' ∷ more'
    → HasNone (after_from s steps) body → HasNone (after_from s others) body' → steps ≡ others
same_stop s [] [] body body' more more' each each' possible possible' e none none' = refl
same_stop s [] (o ∷ others) body body' more more' each each' possible possible' e none none' =
    let first : body_of o ≡ body = cc in
    absurd (none o each'.0 first possible'.0)
same_stop s (t ∷ steps) [] body body' more more' each each' possible possible' e none none' =
    let first : body_of t ≡ body' = cc in
    absurd (none' t each.0 first possible.0)
same_stop s (t ∷ steps) (o ∷ others) body body' more more' each each' possible possible' e none none' =
    let first : body_of o ≡ body_of t = cc in
    let rest : map body_of steps ++ body ∷ more ≡ map body_of others ++ body' ∷ more' = ap (drop 1) e in
    let same : o ≡ t = body_same o t each'.0 each.0 first in
    let behind : steps ≡ others =
    same_stop (after_step s t) steps others body body' more more' each.1 each'.1 possible.1
    (subst (λ (x : Step). ArePossible (after_step s x) others) same possible'.1) rest none
    (subst (λ (x : Step). HasNone (after_from (after_step s x) others) body') same none') in
    cc

stops_once : (first : ℕ) (bodies : List (List ℕ)) (at other : ℕ) → StopsAt first bodies at → StopsAt first bodies other
    → at ≡ other
stops_once first bodies at other a b =
    let same : a.steps ≡ b.steps =
    same_stop empty a.steps b.steps a.body b.body a.more b.more a.each b.each a.history b.history
    (sym a.bodies_are ∙ b.bodies_are) a.none b.none in
    a.place ∙ ap (λ (steps : List Step). first + length (records (map body_of steps))) same ∙ sym b.place

-- the first body of all stops where they begin
first_stop : (first : ℕ) (body : List ℕ) (at : ℕ) → StopsAt first (body ∷ []) at → at ≡ first
first_stop first body at stops = stopped stops.steps stops.bodies_are stops.place
  where
    stopped : (steps : List Step) → body ∷ [] ≡ map body_of steps ++ stops.body ∷ stops.more
        → at ≡ first + length (records (map body_of steps)) → at ≡ first
    stopped [] e place = omega (arith, place)
    stopped (step ∷ []) e place = absurd cc
    stopped (step ∷ next ∷ steps) e place = absurd cc

other_stop : (image : List ℕ) (at other : ℕ) → HasOther image at → HasStop image other → at ≡ other
other_stop image at other a b =
    let same = one_area image at b.first (a.body ∷ []) b.bodies a.has b.has in
    let stops : StopsAt b.first (a.body ∷ []) other =
    subst (λ (bodies : List (List ℕ)). StopsAt b.first bodies other) (sym same.1) b.stops in
    same.0 ∙ sym (first_stop b.first a.body other stops)

pub one_stop : OnePlace
one_stop image at other (inl a) (inl b) = one_place image at other a b
one_stop image at other (inl a) (inr (inl b)) = absurd (not_both image b.bodies at (holds image other b) a)
one_stop image at other (inl a) (inr (inr b)) =
    absurd (not_both image (b.body ∷ []) at (holds_other image other b) a)
one_stop image at other (inr (inl a)) (inl b) = absurd (not_both image a.bodies other (holds image at a) b)
one_stop image at other (inr (inr a)) (inl b) =
    absurd (not_both image (a.body ∷ []) other (holds_other image at a) b)
one_stop image at other (inr (inl a)) (inr (inl b)) =
    let same = one_area image a.first b.first a.bodies b.bodies a.has b.has in
    stops_once a.first a.bodies at other a.stops
    (subst (λ (first : ℕ). StopsAt first a.bodies other) (sym same.0)
    (subst (λ (bodies : List (List ℕ)). StopsAt b.first bodies other) (sym same.1) b.stops))
one_stop image at other (inr (inl a)) (inr (inr b)) = sym (other_stop image other at b a)
one_stop image at other (inr (inr a)) (inr (inl b)) = other_stop image at other a b
one_stop image at other (inr (inr a)) (inr (inr b)) =
    (one_area image at other (a.body ∷ []) (b.body ∷ []) a.has b.has).0
