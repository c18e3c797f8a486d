-- Units that are put come, in order.
use Rattle.std.proofs.Common.{◌≡◌, ℕ, List, [], ◌∷◌, ◌++◌, None, refl, sym, ap, subst, ◌∙◌}
use Rattle.std.proofs.lemmas.List.{append-nil, append_assoc}
use Rattle.std.proofs.lemmas.List.Elements.{All-head, All-push, All-tail}
use Rattle.mta_units.specs.Canon.{IsUnit, unit_octets}
use Rattle.mta_units.specs.Feed.{Feed, Goes, after, answered, fed, seen, seen_by}
use Rattle.mta_units.specs.Look.{Look, Nothing, Reads, look}
use Rattle.mta_units.specs.Reading.{UnitsAreReadAgain}
use Rattle.mta_units.specs.declared.next.Next.{Next}
use Rattle.mta_units.specs.declared.next.Next.TheVariants as next
use Rattle.mta_units.specs.declared.unit.Unit.{Unit as AnyUnit}
use Rattle.mta_drill_links.specs.Ways.{AreOnWay, octets_of}

octets-more : (us : List AnyUnit) (u : AnyUnit) → octets_of us ++ unit_octets u ≡ octets_of (us ++ u ∷ [])
octets-more [] u = sym (append-nil (unit_octets u))
octets-more (v ∷ us) u =
    append_assoc (unit_octets v) (octets_of us) (unit_octets u)
    ∙ ap (λ (xs : List ℕ). unit_octets v ++ xs) (octets-more us u)

-- one unit more
pub put_behind : (us : List AnyUnit) (u : AnyUnit) (old new : Feed) (octets : List ℕ) → octets ≡ unit_octets u
    → IsUnit u → new ≡ fed old octets → AreOnWay us old → AreOnWay (us ++ u ∷ []) new
put_behind us u old new octets is read went on =
    let left : new.left ≡ octets_of us ++ unit_octets u =
    ap (λ (f : Feed). f.left) went
    ∙ ap (λ (xs : List ℕ). xs ++ octets) on.octets
    ∙ ap (λ (xs : List ℕ). octets_of us ++ xs) is in
    record {
      octets = left ∙ octets-more us u;
      each = All-push IsUnit us u on.each read;
      good = ap (λ (f : Feed). f.bad) went ∙ on.good;
    }

seen-there : (f : Feed) (l : Look) → f.bad ≡ None → look f.left ≡ l → seen f ≡ l
seen-there f l good is = ap (λ b. seen_by b (look f.left)) good ∙ is

-- the first one is next
pub first_comes : UnitsAreReadAgain → (u : AnyUnit) (us : List AnyUnit) (old : Feed) (n : Next) (new : Feed)
    → AreOnWay (u ∷ us) old → Goes old n new → (n ≡ next.Unit u) × AreOnWay us new
first_comes again u us old n new on goes =
    let sees : seen old ≡ Reads u (octets_of us) =
    seen-there old (Reads u (octets_of us)) on.good
    (ap look on.octets ∙ again u (octets_of us) (All-head IsUnit u us on.each)) in
    let left : new ≡ after old (Reads u (octets_of us)) = goes.left ∙ ap (after old) sees in (
      goes.answer ∙ ap (answered old.at) sees,
      record {
        octets = ap (λ (f : Feed). f.left) left;
        each = All-tail IsUnit u us on.each;
        good = ap (λ (f : Feed). f.bad) left;
      },
    )

look-none : look [] ≡ Nothing
unfolding look
look-none = refl

-- and none where nothing is on the way
pub none_comes : (old : Feed) (n : Next) (new : Feed) → AreOnWay [] old → Goes old n new
    → (n ≡ next.More) × AreOnWay [] new
none_comes old n new on goes =
    let sees : seen old ≡ Nothing = seen-there old Nothing on.good (ap look on.octets ∙ look-none) in
    let left : new ≡ old = goes.left ∙ ap (after old) sees in
    (goes.answer ∙ ap (answered old.at) sees, subst (λ (f : Feed). AreOnWay [] f) (sym left) on)
