-- What a crash leaves of calls of a disk made one after another, and of the parts of a compaction.
use Rattle.std.proofs.Common.{inl, inr, ◌≡◌, ℕ, ◌+◌, ◌≤◌, ◌<◌, ◌^◌, List, [], ◌∷◌, length, Some, sym, ap, ◌∙◌, arith}
use Rattle.std.proofs.lemmas.List.{length-take}
use Rattle.mta_edge.specs.Views.{DiskView}
use Rattle.mta_edge.specs.Crashes.{CrashLeaves, CutShort}
use Rattle.mta_edge.specs.Outside.{ContentGoes, Goes-then, Torn, Within, written}
use Rattle.mta_edge.proofs.Moments.{weaken, joined}
use Rattle.mta_disk.specs.Records.{IsChosen, IsCutTo, IsFramedAt, IsLiftedAt, IsPointedAt, IsShutAt, IsTornAt}
use Rattle.mta_journal.specs.Stages.{KeepsBoth, KeepsEither, KeepsFirst, KeepsOne, KeepsSecond, LeavesFirst, MovesOne}
use Rattle.mta_journal.specs.Stages.{PutsFirst, PutsSecond, Replaces}
use Rattle.mta_journal.proofs.Stages.{bodies_first, bodies_second, either, chosen_first, chosen_second, chosen_is}
use Rattle.mta_journal.proofs.Stages.{torn_of, keeps_first_then, keeps_pointed, keeps_behind, pointed_torn}
use Rattle.mta_journal.proofs.Stages.{pointed_longer, second_put, keeps_second_then, keeps_gate, keeps_frame, first_put}
use Rattle.mta_journal.proofs.Stages.{longer_put, keeps_both, keeps_cut, cut_short}

-- one step and then another
abbrev pub Then : (List ℕ → List ℕ → Type 0) → (List ℕ → List ℕ → Type 0) → List ℕ → List ℕ → Type 0
Then S T f h = (g : List ℕ) × S f g × T g h

module _ {D : Type 0} (model : DiskView D) where
  -- images of which less is said
  pub less_images : (L K : List ℕ → List ℕ → Type 0) (old new : D) → CrashLeaves model L old new
      → ((f g : List ℕ) → model.content old ≡ Some f → L f g → K f g) → CrashLeaves model K old new
  less_images L K old new images less f told = weaken model (L f) (K f) old new (λ g l. less f g told l) (images f told)

  -- images of one call and then of another
  pub then_images : (S L K : List ℕ → List ℕ → Type 0) (old mid new : D) → CrashLeaves model K old mid
      → ContentGoes model S old mid
      → CrashLeaves model L mid new → ((f g h : List ℕ) → model.content old ≡ Some f → S f g → L g h → K f h)
      → CrashLeaves model K old new
  then_images S L K old mid new images goes next leads f told =
      let one = goes.each f told in
      joined model (K f) old mid new (images f told)
      (weaken model (L one.0) (K f) mid new (λ h l. leads f one.0 h told one.2 l) (next one.0 one.1))

  pub goes_then : (S T : List ℕ → List ℕ → Type 0) (old mid new : D) → ContentGoes model S old mid
      → ContentGoes model T mid new
      → ContentGoes model (Then S T) old new
  goes_then S T old mid new first second = Goes-then (λ f g h told s t. (g, s, t)) first second

  -- behind a write the disk is no shorter
  pub within_written : (n at : ℕ) (bytes : List ℕ) (old new : D) → Within n (model.content old)
      → Within at (model.content old)
      → ContentGoes model (λ f g. g ≡ written at bytes f) old new → Within n (model.content new)
  within_written n at bytes old new le there goes g told =
      let from = goes.back g told in
      omega (arith, le from.0 from.1, (torn_of at bytes from.0 g (there from.0 from.1) from.2).no_shorter)

  module _ (e : ℕ) (frame : List ℕ) (some : 23 < e) (old one two new : D) (within : Within e (model.content old)) where
    pub within_pointed : ContentGoes model (IsPointedAt e) old one → Within (e + 1) (model.content one)
    within_pointed goes g told = let from =
        goes.back g told in pointed_longer e from.0 g some (within from.0 from.1) from.2

    pub second_images_1 : CrashLeaves model (IsTornAt e) old one → CrashLeaves model (KeepsFirst e) old one
    second_images_1 images = less_images (IsTornAt e) (KeepsFirst e) old one images
        (λ f g told torn. keeps_pointed e f g some torn)

    keeps_1 : (f g : List ℕ) → model.content old ≡ Some f → IsPointedAt e f g → KeepsFirst e f g
    keeps_1 f g told is = keeps_pointed e f g some (pointed_torn e f g some (within f told) is)

    pub second_images_2 : CrashLeaves model (KeepsFirst e) old one → ContentGoes model (IsPointedAt e) old one
        → CrashLeaves model (Torn (e + 1) (length frame)) one two → CrashLeaves model (KeepsFirst e) old two
    second_images_2 images goes next =
        then_images (IsPointedAt e) (Torn (e + 1) (length frame)) (KeepsFirst e) old one two images goes next
        (λ f g h told is torn. keeps_first_then e f g h (keeps_1 f g told is)
        (keeps_behind e (e + 1) (length frame) g h some (omega arith) torn))

    pub second_images_3 : CrashLeaves model (KeepsFirst e) old two → ContentGoes model (IsPointedAt e) old one
        → ContentGoes model (IsFramedAt e frame) one two → CrashLeaves model (Torn e 1) two new
        → CrashLeaves model (KeepsFirst e) old new
    second_images_3 images goes put next =
        then_images (Then (IsPointedAt e) (IsFramedAt e frame)) (Torn e 1) (KeepsFirst e) old two new images
        (goes_then (IsPointedAt e) (IsFramedAt e frame) old one two goes put) next
        (λ f h k told both torn.
        let wide : e + 1 ≤ length both.0 = pointed_longer e f both.0 some (within f told) both.1 in
        keeps_first_then e f h k
        (keeps_first_then e f both.0 h (keeps_1 f both.0 told both.1)
        (keeps_behind e (e + 1) (length frame) both.0 h some (omega arith)
        (torn_of (e + 1) frame both.0 h wide both.2)))
        (keeps_behind e e 1 h k some (omega arith) torn))

    pub second_goes : e < 2 ^ 64 → ContentGoes model (IsPointedAt e) old one
        → ContentGoes model (IsFramedAt e frame) one two
        → ContentGoes model (IsLiftedAt e) two new → ContentGoes model (PutsSecond e frame) old new
    second_goes small goes put lifted =
        Goes-then (λ f h k told both lift. second_put e frame f both.0 h k some small (within f told) both.1 both.2
        lift)
        (goes_then (IsPointedAt e) (IsFramedAt e frame) old one two goes put) lifted

  module _ (frame : List ℕ) (old one two new : D) (within : Within 24 (model.content old)) where
    shut_torn : (f g : List ℕ) → model.content old ≡ Some f → IsShutAt 23 f g → Torn 23 1 f g
    shut_torn f g told is = let le = within f told in torn_of 23 (0 ∷ []) f g (omega (arith, le)) is

    pub first_images_1 : CrashLeaves model (Torn 23 1) old one → CrashLeaves model (KeepsSecond frame) old one
    first_images_1 images = less_images (Torn 23 1) (KeepsSecond frame) old one images
        (λ f g told torn. keeps_gate frame f g torn)

    pub first_images_2 : CrashLeaves model (KeepsSecond frame) old one → ContentGoes model (IsShutAt 23) old one
        → CrashLeaves model (Torn 24 (length frame)) one two → CrashLeaves model (KeepsSecond frame) old two
    first_images_2 images goes next =
        then_images (IsShutAt 23) (Torn 24 (length frame)) (KeepsSecond frame) old one two images goes next
        (λ f g h told is torn. keeps_second_then frame f g h (keeps_gate frame f g (shut_torn f g told is))
        (keeps_frame frame g h torn))

    pub first_images_3 : CrashLeaves model (KeepsSecond frame) old two → ContentGoes model (IsShutAt 23) old one
        → ContentGoes model (IsFramedAt 23 frame) one two → CrashLeaves model (Torn 23 1) two new
        → CrashLeaves model (KeepsSecond frame) old new
    first_images_3 images goes put next =
        then_images (Then (IsShutAt 23) (IsFramedAt 23 frame)) (Torn 23 1) (KeepsSecond frame) old two new images
        (goes_then (IsShutAt 23) (IsFramedAt 23 frame) old one two goes put) next
        (λ f h k told both torn.
        let shut : Torn 23 1 f both.0 = shut_torn f both.0 told both.1 in
        let le = within f told in
        let put_torn : Torn 24 (length frame) both.0 h =
        torn_of 24 frame both.0 h (omega (arith, le, shut.no_shorter)) both.2 in
        keeps_second_then frame f h k (keeps_second_then frame f both.0 h (keeps_gate frame f both.0 shut)
        (keeps_frame frame both.0 h put_torn)) (keeps_gate frame h k torn))

    pub first_goes : ContentGoes model (IsShutAt 23) old one → ContentGoes model (IsFramedAt 23 frame) one two
        → ContentGoes model (IsLiftedAt 23) two new → ContentGoes model (PutsFirst frame) old new
    first_goes goes put lifted =
        Goes-then (λ f h k told both lift. first_put frame f both.0 h k (within f told) both.1 both.2 lift)
        (goes_then (IsShutAt 23) (IsFramedAt 23 frame) old one two goes put) lifted

    pub first_longer : ContentGoes model (IsShutAt 23) old one → ContentGoes model (IsFramedAt 23 frame) one two
        → ContentGoes model (IsLiftedAt 23) two new → Within (24 + length frame) (model.content new)
    first_longer goes put lifted k told =
        let three = lifted.back k told in let two = put.back three.0 three.1 in let one = goes.back two.0 two.1 in
        longer_put frame one.0 two.0 three.0 k (within one.0 one.1) one.2 two.2 three.2

  module _ (frame : List ℕ) (old one new : D) (within : Within (24 + length frame) (model.content old)) where
    pub leave_images_1 : CrashLeaves model (Torn 14 1) old one → CrashLeaves model (KeepsBoth frame) old one
    leave_images_1 images = less_images (Torn 14 1) (KeepsBoth frame) old one images
        (λ f g told torn. keeps_both frame f g torn)

    pub leave_images_2 : CrashLeaves model (KeepsBoth frame) old one → ContentGoes model (IsChosen 0) old one
        → CrashLeaves model (CutShort (24 + length frame)) one new → CrashLeaves model (KeepsBoth frame) old new
    leave_images_2 images goes next =
        then_images (IsChosen 0) (CutShort (24 + length frame)) (KeepsBoth frame) old one new images goes next
        (λ f g h told is short e body fits has two. let le =
        within f told in (23, keeps_cut frame f g h (omega (arith, le)) is short e body fits has two))

    pub leave_goes : ContentGoes model (IsChosen 0) old one → ContentGoes model (IsCutTo (24 + length frame)) one new
        → ContentGoes model (LeavesFirst frame) old new
    leave_goes goes cut =
        Goes-then (λ f g h told is to. let le =
        within f told in keeps_cut frame f g h (omega (arith, le)) is (cut_short (24 + length frame) g h to)) goes
        cut

    pub leave_longer : ContentGoes model (IsChosen 0) old one → ContentGoes model (IsCutTo (24 + length frame)) one new
        → Within (24 + length frame) (model.content new)
    leave_longer goes cut h told =
        let two = cut.back h told in let one = goes.back two.0 two.1 in
        let le = within one.0 one.1 in
        let torn : Torn 14 1 one.0 two.0 = torn_of 14 (0 ∷ []) one.0 two.0 (omega (arith, le)) one.2 in
        omega (arith, le, torn.no_shorter, ap length two.2, length-take (24 + length frame) two.0)

  module _ (frame : List ℕ) (old one new : D) where
    pub move_images_1 : CrashLeaves model (KeepsSecond frame) old one → CrashLeaves model (KeepsOne frame) old one
    move_images_1 images =
        less_images (KeepsSecond frame) (KeepsOne frame) old one images
        (λ f g told keeps e body fits has is. let kept =
        keeps e body fits has in (e, bodies_second e body g kept.1 (kept.0 ∙ is)))

    pub move_images_2 : CrashLeaves model (KeepsOne frame) old one → ContentGoes model (PutsFirst frame) old one
        → CrashLeaves model (KeepsBoth frame) one new → CrashLeaves model (KeepsOne frame) old new
    move_images_2 images goes next =
        then_images (PutsFirst frame) (KeepsBoth frame) (KeepsOne frame) old one new images goes next
        (λ f g h told puts both e body fits has is. let p = puts e body fits has in both e body fits p.1 p.2)

    pub move_goes : ContentGoes model (PutsFirst frame) old one → ContentGoes model (LeavesFirst frame) one new
        → ContentGoes model (MovesOne frame) old new
    move_goes goes left =
        Goes-then (λ f g h told puts leaves e body fits has is. let p =
        puts e body fits has in leaves e body fits p.1 p.2) goes left

  module _ (e : ℕ) (frame : List ℕ) (old one two new : D) where
    pub replace_images_1 : CrashLeaves model (KeepsFirst e) old one → CrashLeaves model (KeepsEither e frame) old one
    replace_images_1 images =
        less_images (KeepsFirst e) (KeepsEither e frame) old one images
        (λ f g told keeps bodies body fits has other. inl
        (bodies_first e bodies g (keeps.1 bodies has) (λ is. other (sym keeps.0 ∙ is))))

    pub replace_images_2 : CrashLeaves model (KeepsEither e frame) old one
        → ContentGoes model (PutsSecond e frame) old one
        → CrashLeaves model (Torn 14 1) one two → CrashLeaves model (KeepsEither e frame) old two
    replace_images_2 images goes next =
        then_images (PutsSecond e frame) (Torn 14 1) (KeepsEither e frame) old one two images goes next
        (λ f g h told puts torn bodies body fits has other.
        let p = puts bodies body fits has in
        either e bodies body h (chosen_first e bodies g h torn p.1) (chosen_second e body g h torn p.2))

    pub replace_images_3 : CrashLeaves model (KeepsEither e frame) old two
        → ContentGoes model (PutsSecond e frame) old one
        → ContentGoes model (IsChosen 1) one two → CrashLeaves model (KeepsOne frame) two new
        → CrashLeaves model (KeepsEither e frame) old new
    replace_images_3 images goes chosen next =
        then_images (Then (PutsSecond e frame) (IsChosen 1)) (KeepsOne frame) (KeepsEither e frame) old two new images
        (goes_then (PutsSecond e frame) (IsChosen 1) old one two goes chosen) next
        (λ f h k told both keeps bodies body fits has other.
        let p = both.1 bodies body fits has in
        let le : 14 ≤ length both.0 = omega (arith, p.1.areas.inside) in
        let torn : Torn 14 1 both.0 h = torn_of 14 (1 ∷ []) both.0 h le both.2 in
        inr (keeps e body fits (chosen_second e body both.0 h torn p.2) (chosen_is 1 both.0 h le both.2)))

    pub replace_goes : ContentGoes model (PutsSecond e frame) old one → ContentGoes model (IsChosen 1) one two
        → ContentGoes model (MovesOne frame) two new → ContentGoes model (Replaces e frame) old new
    replace_goes goes chosen moved =
        Goes-then
        (λ f h k told both moves bodies body fits has other.
        let p = both.1 bodies body fits has in
        let le : 14 ≤ length both.0 = omega (arith, p.1.areas.inside) in
        let torn : Torn 14 1 both.0 h = torn_of 14 (1 ∷ []) both.0 h le both.2 in
        moves e body fits (chosen_second e body both.0 h torn p.2) (chosen_is 1 both.0 h le both.2))
        (goes_then (PutsSecond e frame) (IsChosen 1) old one two goes chosen) moved
