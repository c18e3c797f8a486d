-- How many octets contents have.
use Rattle.std.proofs.Common.{◌≡◌, ℕ, zero, suc, ◌+◌, ◌≤◌, [], ◌∷◌, ◌++◌, length, refl, ap, ◌∙◌, arith}
use Rattle.std.proofs.lemmas.List.{length-append}
use Rattle.mta_drill_text.specs.Text.{content_length}
use Rattle.mta_drill_laws.specs.Messages.{content_of, content_up_to, octet_at}

pub none_yet : (i : ℕ) → content_up_to i 0 ≡ []
unfolding content_up_to
none_yet i = refl

pub one_octet_more : (i j : ℕ) → content_up_to i (j + 1) ≡ content_up_to i j ++ octet_at i j ∷ []
unfolding content_up_to
one_octet_more i j = let e : j + 1 ≡ suc j = omega arith in ap (content_up_to i) e

pub as_long : (i n : ℕ) → length (content_up_to i n) ≡ n
unfolding content_up_to
as_long i zero = refl
as_long i (suc n) =
    let e : n + 1 ≡ suc n = omega arith in
    length-append (content_up_to i n) (octet_at i n ∷ []) ∙ ap (λ x. x + 1) (as_long i n) ∙ e

-- how many octets a content has
pub length_of : (i : ℕ) → length (content_of i) ≡ content_length i
length_of i = as_long i (content_length i)

-- a content is not long
pub short : (i : ℕ) → content_length i ≤ 3502
short i = omega arith
