-- The journal on a disk on which bodies were found.
use Rattle.std.proofs.Common.{inr, ◌≡◌, ℕ, ◌≤◌, ◌<◌, false, List, [], ◌∷◌, length, get_or, Option, Some, sym, ap, ◌∙◌}
use Rattle.std.proofs.Common.{arith}
use Rattle.std.proofs.lemmas.List.{length-append}
use Rattle.mta_edge.specs.Views.{DiskView}
use Rattle.mta_edge.specs.Crashes.{Settled}
use Rattle.mta_disk.specs.Records.{frame_of}
use Rattle.mta_disk.proofs.Writing.{length-closed, length-counted}
use Rattle.mta_journal.specs.Bodies.{open_record, records, HasBodiesAt, IsCurrent, StandsFor, alone, first, second}
use Rattle.mta_journal.specs.Opening.{IsPlaced}
use Rattle.mta_journal.specs.Shown.{IsFrameOfSecond, IsSound}
use Rattle.mta_journal.proofs.Stages.{length-one}
use Rattle.mta_journal.proofs.BegunAreas.{stands_none}
use Rattle.mta_journal.proofs.Unique.{inside, one_area}

module _ {D : Type 0} (model : DiskView D) (disk : D) (begin size : ℕ) (bodies : List (List ℕ))
    (frame : Option (List ℕ))
    (placed : IsPlaced model disk begin size bodies frame) where
  -- the frame that is kept is that of the one record which the second area has
  frame_found : (kept : List ℕ) → frame ≡ Some kept → IsFrameOfSecond model disk begin size kept
  frame_found kept is =
      let one = placed.second kept is in
      record {
        above = one.3;
        size_is = omega (
          arith,
          placed.size_is,
          ap (λ (b : List (List ℕ)). length (records b)) one.1,
          length-one one.0,
          ap length one.2,
          length-closed one.0,
        );
        frame_is = λ f told body has.
            let same = one_area f begin begin bodies (body ∷ []) (placed.file f told) has in
            let here : one.0 ∷ [] ≡ body ∷ [] = sym one.1 ∙ same.1 in
            one.2 ∙ ap frame_of (ap (λ (b : List (List ℕ)). get_or b 0 []) here);
      }

  pub sound_found : (begin ≡ 8 → 9 < size) → Settled model disk → IsSound model disk begin size false frame
  sound_found some settled = record {
    begun = omega (arith, placed.size_is);
    some = some;
    within = λ going. placed.within;
    settled = λ going. settled;
    plain = λ going. placed.plain;
    second = λ going. frame_found;
  }

-- no area begins before gate 8
at_least : (gate : ℕ) (bodies : List (List ℕ)) (image : List ℕ) → IsCurrent gate bodies image → 8 ≤ gate
at_least gate bodies image (alone begins lone is) = omega (arith, is)
at_least gate bodies image (first areas other is) = omega (arith, is)
at_least gate bodies image (second areas one is body only below) = omega (arith, below)

-- an image that has bodies stands for them
pub stands_for : (gate : ℕ) (image : List ℕ) (bodies : List (List ℕ)) → HasBodiesAt gate bodies image
    → StandsFor image bodies
stands_for gate image [] has = stands_none image (gate, has)
stands_for gate image (body ∷ bodies) has =
    inr (
      omega (
        arith,
        at_least gate (body ∷ bodies) image has.current,
        inside gate (body ∷ bodies) image has.stand,
        length-append (open_record body) (records bodies),
        length-counted body,
      ),
      (gate, has),
    )
