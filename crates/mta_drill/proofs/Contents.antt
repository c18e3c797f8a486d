-- How many octets the contents of messages have.
use Rattle.std.proofs.Common.{◌≡◌, ℕ, zero, suc, ◌+◌, ◌*◌, ◌≤◌, refl, sym, ap, ◌∙◌, arith}
use Rattle.mta_drill_text.specs.Text.{content_length, octets_up_to}
use Rattle.mta_drill_laws.proofs.Contents.{short}

-- those up to a message
pub one_message_more : (i : ℕ) → octets_up_to (i + 1) ≡ octets_up_to i + content_length (i + 1)
unfolding octets_up_to
one_message_more i =
    let e : i + 1 ≡ suc i = omega arith in
    ap octets_up_to e ∙ ap (λ x. octets_up_to i + content_length x) (sym e)

pub no_message : octets_up_to 0 ≡ 0
unfolding octets_up_to
no_message = refl

-- they are not too many for a count
pub few_octets : (n : ℕ) → octets_up_to n ≤ 3502 * n
unfolding octets_up_to
few_octets zero = omega arith
few_octets (suc n) =
    let before = few_octets n in
    let here = short (suc n) in
    omega (arith, before, here)
