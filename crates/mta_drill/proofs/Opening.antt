-- A disk of a drill is opened.
use Rattle.std.proofs.Common.{◌≡◌, ◌<◌, ◌≤◌, ◌+◌, ◌==◌, ◌++◌, ℕ, suc, Bool, true, false, List, [], ◌∷◌, length, map}
use Rattle.std.proofs.Common.{refl, ap, subst, ◌∙◌, arith, inl, inr}
use Rattle.mta_edge.specs.Held.{HeldDisk}
use Rattle.mta_edge.specs.Images.{memory_disk}
use Rattle.mta_edge.specs.Moments.{may_tell}
use Rattle.mta_journal.specs.Bodies.{records}
use Rattle.mta_records.specs.Body.{body_of}
use Rattle.mta_records.specs.declared.step.Step.{Step}
use Rattle.mta_records.specs.declared.step.Step.TheVariants as step
use Rattle.mta_histories.specs.Compact.{opened}
use Rattle.mta_histories.specs.History.{after}
use Rattle.mta_images.specs.Image.{OpensAt, StandsFor, in_first as at_first, in_only as at_only}
use Rattle.mta_images.specs.Opened.{IsFullForFormat, IsWeighed, base_of, elsewhere, in_first}
use Rattle.mta_images.proofs.NoSpool.{no_history}
use Rattle.mta_images.proofs.Unique.{one_history}
use Rattle.mta_spool.specs.GoingOn.{HasNotOpened, HasOpened}
use Rattle.mta_spool.specs.Shown.{Shown}
use Rattle.mta_spool.specs.declared.why.OpenWhy.{OpenWhy}
use Rattle.mta_spool.specs.declared.why.OpenWhy.TheVariants as Whys
use Rattle.mta_spool.proofs.Compacted.{short_stays}
use Rattle.mta_spool.proofs.Lengths.{length-number}
use Rattle.mta_spool.proofs.Openings.{none_there}
use Rattle.mta_drill_answer_laws.specs.Answers.{Works}
use Rattle.mta_drill.specs.Calls.{Has_stood, IsOpenable, IsWant, Is_empty, begun}

-- ---- an empty disk

empty-stands : (octets : List ℕ) → octets ≡ [] → StandsFor octets []
empty-stands octets e =
    let none : length octets ≡ 0 = ap (λ (xs : List ℕ). length xs) e in
    none_there octets (inl (omega (arith, none), refl))

short-size : (image : List ℕ) (found : List Step) (first_of_two : Bool) (size : ℕ) → found ≡ []
    → IsWeighed image found first_of_two size → size < 1048576
short-size image found first_of_two size none (in_first here b is) =
    omega (arith, is, ap (λ (xs : List Step). length (records (map body_of xs))) none)
short-size image found first_of_two size none (elsewhere not_there b is) = omega (arith, is)

-- it is gone on with in the format alone
format-alone : (first_of_two : Bool) (size : ℕ) → size < 1048576
    → opened first_of_two size [] ≡ step.Format 2 ∷ []
format-alone first_of_two size short =
    ap (λ (steps : List Step). steps ++ step.Format 2 ∷ []) (short_stays first_of_two size [] short)

module _ (disk : HeldDisk) (s : Shown HeldDisk (List ℕ)) (o : HasOpened memory_disk disk s) where
  pub begun_so : disk.octets ≡ [] → s.current ≡ begun
  begun_so e =
      let opens = o.opens disk.octets refl in
      let none : o.found ≡ [] = one_history disk.octets o.found [] opens.is.stands (empty-stands disk.octets e) in
      let steps : o.steps ≡ step.Format 2 ∷ [] =
      opens.goes_on_is ∙ ap (λ (found : List Step). opened opens.is.first_of_two opens.is.size found) none
      ∙ format-alone opens.is.first_of_two opens.is.size
      (short-size disk.octets o.found opens.is.first_of_two opens.is.size none opens.is.weighed) in
      o.stands.state_is ∙ ap (λ (steps : List Step). after steps) steps

  -- ---- the clock

  only-zero : (m : ℕ) → may_tell [] m → m ≡ 0
  only-zero m (inl one) = absurd (omega (arith, one.1))
  only-zero m (inr none) = none.1

  pub works_so : s.clock ≡ [] → Works s
  works_so e = record {
    history = (o.steps, o.stands);
    clock = λ m told. only-zero m (subst (λ (c : List ℕ). may_tell c m) e told);
  }

-- ---- no disk of a drill is refused

gate-small : (image : List ℕ) (gate : ℕ) → OpensAt image gate → gate ≤ 23
gate-small image gate (at_only is has) = omega (arith, is)
gate-small image gate (at_first is none) = omega (arith, is)

openable-stands : (octets : List ℕ) → IsOpenable octets → (steps : List Step) × StandsFor octets steps
openable-stands octets (Is_empty e) = ([], empty-stands octets e)
openable-stands octets (Has_stood steps stands format) = (steps, stands)

-- the format fits, or stands already
never-full : (octets : List ℕ) (size need : ℕ) → IsOpenable octets → IsFullForFormat octets size need → ⊥
never-full octets size need (Has_stood steps stands format) full =
    let same : full.found ≡ steps = one_history octets full.found steps full.is.stands stands in
    let is : (after full.found).machine.format ≡ 2 =
    ap (λ (ss : List Step). (after ss).machine.format) same ∙ format in
    let wrong : ◌≡◌ {A = Bool} true false = subst (λ (n : ℕ). n == 2 ≡ false) is full.older in cc
never-full octets size need (Is_empty e) full =
    let none : full.found ≡ [] = one_history octets full.found [] full.is.stands (empty-stands octets e) in
    let no_base : base_of full.is ≡ [] =
    short_stays full.is.first_of_two full.is.size full.found
    (short-size octets full.found full.is.first_of_two full.is.size none full.is.weighed)
    ∙ none in
    let no_records : length (records (map body_of (base_of full.is))) ≡ 0 =
    ap (λ (ss : List Step). length (records (map body_of ss))) no_base in
    let used : size ≡ full.used.0 + length (records (map body_of (base_of full.is))) + 1 = full.used.2 in
    let small = gate-small octets full.used.0 full.used.1 in
    let body : length (body_of (step.Format 2)) ≡ 5 = ap suc (length-number 2) in
    let need_is : need ≡ length (body_of (step.Format 2)) + 5 = full.need_is in
    let over : 536870912 < size + need = full.over in
    omega (arith, used, small, no_records, body, need_is, over)

pub only_want : (disk new : HeldDisk) (why : OpenWhy) → IsOpenable disk.octets
    → HasNotOpened memory_disk disk new why → IsWant why
only_want disk new Whys.Disk openable refused = tt
only_want disk new Whys.Memory openable refused = tt
only_want disk new (Whys.NotSpool at) openable refused =
    let stands = openable-stands disk.octets openable in
    no_history disk.octets at stands.0 (refused.not_spool at refl disk.octets refl) stands.1
only_want disk new (Whys.Full size need) openable refused =
    never-full disk.octets size need openable (refused.full size need refl disk.octets refl)
