-- The digest of a text goes on with each of its octets.
use Rattle.std.proofs.Common.{◌≡◌, ℕ, Bool, true, false, eqb, List, ◌∷◌, refl}
use Rattle.mta_names.specs.Normal.{folded, behind}
use Rattle.mta_name_digest.specs.Digests.{digest_step, text_digest}
use Rattle.mta_name_digest.specs.Folding.{still}

pub spaced_on : (d : ℕ) (started waits : Bool) (c : ℕ) (cs : List ℕ) → c ≡ 32
    → text_digest d (still started waits (c ∷ cs)) ≡ text_digest d (still started started cs)
spaced_on d true waits c cs e = rw e refl
spaced_on d false waits c cs e = rw e refl

behind_on : (d : ℕ) (waits : Bool) (c : ℕ) (cs : List ℕ) → waits ≡ false
    → text_digest d (behind waits c cs) ≡ text_digest (digest_step d c) cs
behind_on d true c cs e = absurd cc
behind_on d false c cs e = refl

-- a character behind a space that waits
pub waited_on : (d : ℕ) (c : ℕ) (cs : List ℕ) → eqb c 32 ≡ false
    → text_digest d (still true true (c ∷ cs)) ≡ text_digest (digest_step (digest_step d 32) (folded c))
    (still true false cs)
waited_on d c cs e = rw e refl

-- a character with no space before it
pub character_on : (d : ℕ) (started : Bool) (c : ℕ) (cs : List ℕ) → eqb c 32 ≡ false
    → text_digest d (still started false (c ∷ cs)) ≡ text_digest (digest_step d (folded c)) (still true false cs)
character_on d true c cs e = rw e refl
character_on d false c cs e = rw (e, e) refl
