-- A disk of one area without bodies, on which two areas are begun.
use Rattle.std.proofs.Common.{inl, inr, ⊎_elim, ◌≡◌, ◌≢◌, ℕ, ◌+◌, ◌≤◌, ◌<◌, List, [], ◌∷◌, ◌++◌, length, take, drop}
use Rattle.std.proofs.Common.{get_or, Option, None, Some, refl, sym, ap, subst, ◌∙◌, arith}
use Rattle.std.proofs.lemmas.Bool.{cases_eq, cases_lt}
use Rattle.std.proofs.lemmas.List.{drop-drop, drop_more, get_or-take, get_or-drop, length-append, length-drop}
use Rattle.std.proofs.Math.Seq.{take-add}
use Rattle.mta_edge.specs.Outside.{Torn, written}
use Rattle.mta_disk.specs.Records.{IsFramedAt, IsLiftedAt}
use Rattle.mta_journal.specs.Bodies.{magic, mark, longest_first, open_record, records, AreWithin, HasRecords, HasAreas}
use Rattle.mta_journal.specs.Bodies.{HasBodies, HasBodiesAt, StandsFor, IsCurrent, selector, alone, first, second}
use Rattle.mta_journal.specs.Opening.{BeginsAreas, IsPlaced, IsSame, KeepsNone, areas_frame, head}
use Rattle.mta_edge.specs.Views.{DiskView, DiskLaws}
use Rattle.mta_edge.specs.Crashes.{AtAnyMoment, Crash, Settled, Stays}
use Rattle.mta_disk.proofs.Writing.{goes_still, settled_once}
use Rattle.mta_journal.proofs.Unique.{inside}
use Rattle.mta_journal.proofs.Appended.{mark_is}
use Rattle.mta_journal.proofs.Stages.{same_before, torn_of, written_at}

mark_open : get_or mark 8 0 ≡ 1
unfolding mark
mark_open = refl

-- gate 8 is closed
closed_there : (g : List ℕ) → take 8 g ≡ magic → 8 < length g → get_or g 8 0 ≢ 1 → HasBodiesAt 8 [] g
closed_there g begins long closed = record {
  current = alone begins (λ areas. closed
      (sym (get_or-take 14 g 8 0 (omega arith)) ∙ ap (λ (l : List ℕ). get_or l 8 0) areas.front ∙ mark_open)) refl;
  stand = record { octet = get_or g 8 0; rest = drop 9 g; octets = drop_more g 8 0 long; closed = closed; each = tt };
}

-- what a disk of one area without bodies begins with
record Empty (f : List ℕ) : Type 0 where
  pub begins : take 8 f ≡ magic
  pub closed : get_or f 8 0 ≢ 1
  pub long : 8 < length f

empty_of : (f : List ℕ) → HasRecords 8 [] f → IsCurrent 8 [] f → Empty f
empty_of f stand (alone begins lone is) = record {
  begins = begins;
  closed = λ one. stand.closed (ap (λ (l : List ℕ). get_or l 0 0) (sym stand.octets) ∙ get_or-drop 8 f 0 0 ∙ one);
  long = omega (arith, ap length stand.octets, length-drop 8 f);
}
empty_of f stand (first areas other is) = absurd (omega (arith, is))
empty_of f stand (second areas one is body none below) = absurd cc

-- what is written behind the closed gate leaves none
pub none_behind : (n : ℕ) (f g : List ℕ) → Torn 9 n f g → KeepsNone f g
none_behind n f g torn has =
    let was = empty_of f has.stand has.current in
    let eight : get_or g 8 0 ≡ get_or f 8 0 = sym (get_or-take 9 g 8 0 (omega arith))
    ∙ ap (λ (l : List ℕ). get_or l 8 0) torn.before ∙ get_or-take 9 f 8 0 (omega arith) in (
      8,
      closed_there g (same_before 9 0 8 f g torn.before (omega arith) ∙ was.begins)
          (omega (arith, was.long, torn.no_shorter)) (λ one. was.closed (sym eight ∙ one)),
    )

-- with the gate open there are two areas, and none stands in the first
opened : (rest g : List ℕ) → take 8 g ≡ magic → drop 8 g ≡ 1 ∷ (areas_frame ++ rest) → HasBodiesAt 23 [] g
opened rest g begins behind =
    let six : take 6 (drop 8 g) ≡ head = ap (take 6) behind in
    let last : drop 23 g ≡ 0 ∷ rest = sym (drop-drop 15 8 g) ∙ ap (drop 15) behind in
    let areas : HasAreas g = record {
      front = take-add 8 6 g ∙ ap (λ (x : List ℕ). x ++ take 6 (drop 8 g)) begins ∙ ap (λ (x : List ℕ). magic ++ x) six
          ∙ mark_is;
      inside = omega (arith, ap length last, length-drop 23 g);
    } in
    let zero_there : selector g ≡ 0 = sym (get_or-drop 8 g 6 0) ∙ ap (λ (l : List ℕ). get_or l 6 0) behind in
    record {
      current = first areas (λ one. absurd (omega (arith, zero_there, one))) refl;
      stand = record { octet = 0; rest = rest; octets = last; closed = λ z. cc; each = tt };
    }

-- and a crash while it is opened leaves them or not
pub none_at_gate : (f g h : List ℕ) → 9 ≤ length f → IsFramedAt 8 areas_frame f g → Torn 8 1 g h → KeepsNone f h
none_at_gate f g h long put torn has =
    let was = empty_of f has.stand has.current in
    let wrote = torn_of 9 areas_frame f g long put in
    let begins : take 8 h ≡ magic = torn.before ∙ same_before 9 0 8 f g wrote.before (omega arith) ∙ was.begins in
    let size : 8 < length h = omega (arith, long, wrote.no_shorter, torn.no_shorter) in
    ⊎_elim {C = (gate : ℕ) × HasBodiesAt gate [] h}
    (λ (one : get_or h 8 0 ≡ 1). (
      23,
      opened (drop (9 + length areas_frame) f) h begins (drop_more h 8 0 size ∙ ap (λ (n : ℕ). n ∷ drop 9 h) one
          ∙ ap (λ (x : List ℕ). 1 ∷ x) (torn.after ∙ written_at 9 areas_frame f g long put)),
    ))
    (λ (closed : get_or h 8 0 ≢ 1). (8, closed_there h begins size closed))
    (cases_eq (get_or h 8 0) 1)

pub begins_areas : (f g h : List ℕ) → 9 ≤ length f → IsFramedAt 8 areas_frame f g → IsLiftedAt 8 g h → BeginsAreas f h
begins_areas f g h long put lifted has =
    let was = empty_of f has.stand has.current in
    let wrote = torn_of 9 areas_frame f g long put in
    let wide : 8 ≤ length g = omega (arith, long, wrote.no_shorter) in
    let torn = torn_of 8 (1 ∷ []) g h wide lifted in
    opened (drop (9 + length areas_frame) f) h
    (torn.before ∙ same_before 9 0 8 f g wrote.before (omega arith) ∙ was.begins)
    (written_at 8 (1 ∷ []) g h wide lifted ∙ ap (λ (x : List ℕ). 1 ∷ x) (written_at 9 areas_frame f g long put))

pub empty_made : (f g : List ℕ) → g ≡ written 0 (77 ∷ 84 ∷ 65 ∷ 83 ∷ 80 ∷ 76 ∷ 48 ∷ 49 ∷ 0 ∷ []) f → HasBodiesAt 8 [] g
unfolding magic
empty_made f g is =
    closed_there g (ap (take 8) is) (omega (arith, ap length is))
    (λ one. absurd (omega (arith, one, ap (λ (l : List ℕ). get_or l 8 0) is)))

pub stands_none : (g : List ℕ) → HasBodies g [] → StandsFor g []
stands_none g has = ⊎_elim {C = StandsFor g []} (λ (long : 9 < length g). inr (long, has))
    (λ (short : length g ≤ 9). inl (short, refl)) (cases_lt 9 (length g))

pub none_long : (g : List ℕ) → HasBodiesAt 8 [] g → 9 ≤ length g
none_long g has = let was = empty_of g has.stand has.current in omega (arith, was.long)

pub placed_none : {D : Type 0} (model : DiskView D) (disk : D) (begin size : ℕ) (bodies : List (List ℕ))
    (frame : Option (List ℕ))
    → begin ≡ 23 → size ≡ 24 → bodies ≡ [] → frame ≡ None
    → ((f : List ℕ) → model.content disk ≡ Some f → HasBodiesAt 23 [] f)
    → IsPlaced model disk begin size bodies frame
placed_none model disk begin size bodies frame at whole none plain made = record {
  file = λ f told. subst (λ (b : List (List ℕ)). HasBodiesAt begin b f) (sym none)
      (subst (λ (n : ℕ). HasBodiesAt n [] f) (sym at) (made f told));
  size_is = omega (arith, at, whole, ap (λ (b : List (List ℕ)). length (records b)) none);
  each = subst (AreWithin longest_first) (sym none) tt;
  within = λ f told. let in_f = inside 23 [] f (made f told).stand in omega (arith, whole, in_f);
  plain = λ e. inr at;
  second = λ kept is. absurd (let e = plain in cc);
}

no_records : (bodies : List (List ℕ)) → length (records bodies) ≡ 0 → bodies ≡ []
no_records [] none = refl
no_records (b ∷ bodies) none = absurd (omega (arith, none, length-append (open_record b) (records bodies)))

pub none_placed : {D : Type 0} (model : DiskView D) (disk : D) (begin size : ℕ) (bodies : List (List ℕ))
    (frame : Option (List ℕ))
    → IsPlaced model disk begin size bodies frame → size ≡ 9 → (f : List ℕ) → model.content disk ≡ Some f
    → HasBodiesAt 8 [] f
none_placed model disk begin size bodies frame placed nine f told =
    at_gate (placed.file f told).current (placed.file f told).stand
  where
    at_gate : IsCurrent begin bodies f → HasRecords begin bodies f → HasBodiesAt 8 [] f
    at_gate (alone begins lone is) stand =
        let none : bodies ≡ [] = no_records bodies (omega (arith, placed.size_is, nine, is)) in
        record {
          current = alone begins lone refl;
          stand = subst (λ (b : List (List ℕ)). HasRecords 8 b f) none
              (subst (λ (n : ℕ). HasRecords n bodies f) is stand);
        }
    at_gate (first areas other is) stand = absurd (omega (arith, placed.size_is, nine, is))
    at_gate (second areas one is body only below) stand = absurd (omega (arith, placed.size_is, nine, below))

-- a call that does nothing to a disk with nothing pending
pub looked : {D : Type 0} (model : DiskView D) → DiskLaws model → (old new : D) (f : List ℕ) → Settled model old
    → model.content old ≡ Some f
    → Crash model Stays old new → AtAnyMoment model (IsSame f) old new
looked model laws old new f settled told crash =
    goes_still model laws (IsSame f) old old new (settled_once model laws (IsSame f) old f settled told (inl refl))
    crash
