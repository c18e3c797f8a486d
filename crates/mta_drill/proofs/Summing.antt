-- The counts of rounds add up.
use Rattle.std.proofs.Common.{◌≡◌, ℕ, ◌+◌, ◌-◌, ◌*◌, ◌^◌, ◌<◌, ◌≤◌, sym, ap, subst, ◌∙◌, arith}
use Rattle.std.specs.Prelude.{min}
use Rattle.mta_drill_text.specs.declared.counts.Counts.{Counts}
use Rattle.mta_drill_text.specs.Counts.{with_round}
use Rattle.mta_drill_text.specs.Breaks.{breaks_up_to}
use Rattle.mta_drill_text.specs.Text.{octets_up_to, drill_text, text_of}
use Rattle.mta_drill_text.proofs.Breaking as breaking
use Rattle.mta_drill_text.proofs.Breaking.{few_breaks}
use Rattle.mta_drill.specs.Rounds.{IsWhole, before_last, round_size}
use Rattle.mta_drill.proofs.Contents.{few_octets, no_message}

-- a sum that fits
fits : (x y : ℕ) → x ≡ y → y < 2 ^ 64 → min x (2 ^ 64 - 1) ≡ y
fits x y e small = omega (arith, e, small)

-- a round more
pub whole_more : (c d : Counts) (b n : ℕ) → b + n < 2 ^ 32 → IsWhole c 0 b → IsWhole d b n
    → IsWhole (with_round c d) 0 (b + n)
whole_more c d b n small x y =
    let from_none : 0 + b ≡ b = omega arith in
    let to_all : 0 + (b + n) ≡ b + n = omega arith in
    let broken : c.broken + d.broken ≡ breaks_up_to (b + n) =
    omega (arith, x.broken, y.broken, breaking.none, ap breaks_up_to from_none) in
    let octets : c.octets + d.octets ≡ octets_up_to (b + n) =
    omega (arith, x.octets, y.octets, no_message, ap octets_up_to from_none) in
    let few = few_breaks (b + n) in
    let short = few_octets (b + n) in
    let all : b + n < 2 ^ 64 = omega (arith, small) in
    record {
      accepted = fits (c.accepted + d.accepted) (b + n) (omega (arith, x.accepted, y.accepted)) all;
      transferred = fits (c.transferred + d.transferred) (b + n) (omega (arith, x.transferred, y.transferred)) all;
      delivered = fits (c.delivered + d.delivered) (b + n) (omega (arith, x.delivered, y.delivered)) all;
      broken = let e = fits (c.broken + d.broken) (breaks_up_to (b + n)) broken (omega (arith, few, all)) in
          omega (arith, e, breaking.none, ap breaks_up_to to_all);
      octets = let e = fits (c.octets + d.octets) (octets_up_to (b + n)) octets (omega (arith, short, small)) in
          omega (arith, e, no_message, ap octets_up_to to_all);
    }

-- and so do whole rounds
pub one_round_more : (c d : Counts) (k : ℕ) → (k + 1) * round_size < 2 ^ 32 → IsWhole c 0 (k * round_size)
    → IsWhole d (k * round_size) round_size → IsWhole (with_round c d) 0 ((k + 1) * round_size)
one_round_more c d k small x y =
    let e : k * round_size + round_size ≡ (k + 1) * round_size = omega arith in
    subst (λ n. IsWhole (with_round c d) 0 n) e
    (whole_more c d (k * round_size) round_size (omega (arith, small, e)) x y)

-- and so do all rounds and the last one
pub all_whole : (c d e : Counts) (n : ℕ) → n < 2 ^ 32 → 1 ≤ n → e ≡ with_round c d → IsWhole c 0 (before_last n)
    → IsWhole d (before_last n) (n - before_last n) → IsWhole e 0 n
all_whole c d e n small some is x y =
    let all : before_last n + (n - before_last n) ≡ n = omega (arith, some) in
    subst (λ m. IsWhole e 0 m) all (subst (λ (z : Counts). IsWhole z 0 (before_last n + (n - before_last n))) (sym is)
    (whole_more c d (before_last n) (n - before_last n) (omega (arith, all, small)) x y))

-- the text of so many
pub text_whole : (c : Counts) (n : ℕ) → IsWhole c 0 n
    → text_of n c.accepted c.transferred c.delivered c.broken c.octets ≡ drill_text n
text_whole c n x =
    let to_all : 0 + n ≡ n = omega arith in
    let broken : c.broken ≡ breaks_up_to n = omega (arith, x.broken, breaking.none, ap breaks_up_to to_all) in
    let octets : c.octets ≡ octets_up_to n = omega (arith, x.octets, no_message, ap octets_up_to to_all) in
    ap (λ a. text_of n a c.transferred c.delivered c.broken c.octets) x.accepted
    ∙ ap (λ a. text_of n n a c.delivered c.broken c.octets) x.transferred
    ∙ ap (λ a. text_of n n n a c.broken c.octets) x.delivered
    ∙ ap (λ a. text_of n n n n a c.octets) broken
    ∙ ap (λ a. text_of n n n n (breaks_up_to n) a) octets
