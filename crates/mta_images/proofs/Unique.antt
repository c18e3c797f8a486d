-- An image has one history.
use Rattle.std.proofs.Common.{◌≡◌, List, [], ◌∷◌, ℕ, map, refl}
use Rattle.mta_journal.proofs.Unique.{one_list}
use Rattle.mta_records.specs.declared.step.Step.{Step}
use Rattle.mta_records.specs.Body.{body_of}
use Rattle.mta_records.proofs.Records.{body_same}
use Rattle.mta_images.specs.Image.{AreRecords, StandsFor}

pub same_steps : (s t : List Step) → AreRecords s → AreRecords t → map body_of s ≡ map body_of t → s ≡ t
same_steps [] [] fs ft e = refl
same_steps [] (b ∷ t) fs ft e = absurd cc
same_steps (a ∷ s) [] fs ft e = absurd cc
same_steps (a ∷ s) (b ∷ t) fs ft e =
    let here : body_of a ≡ body_of b = cc in
    let behind : map body_of s ≡ map body_of t = cc in
    let first : a ≡ b = body_same a b fs.0 ft.0 here in
    let rest : s ≡ t = same_steps s t fs.1 ft.1 behind in
    cc

pub one_history : (image : List ℕ) (s t : List Step) → StandsFor image s → StandsFor image t → s ≡ t
one_history image s t p q =
    same_steps s t p.each q.each (one_list image (map body_of s) (map body_of t) p.bodies q.bodies)
