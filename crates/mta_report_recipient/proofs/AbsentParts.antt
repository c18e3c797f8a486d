-- Where a required component is absent, the whole is Missing.
use Rattle.std.proofs.Common.{◌≡◌, ℕ, false, Option, Some, None, Result, refl}
use Rattle.std.specs.Prelude.{is_some, ◌&&◌}
use Rattle.mta_ber.specs.declared.fault.Fault.{Fault}
use Rattle.mta_ber.specs.declared.fault.Kind.TheVariants.{Missing}
use Rattle.mta_ber.specs.Head.{◌>>=◌, fault}
use Rattle.mta_ber.specs.Parts.{required}

pub one_of_two : {A B E : Type 0} (a : Option A) (b : Option B) (f : A → B → Result E Fault) (at : ℕ)
    → (is_some a && is_some b) ≡ false → (required a at >>= λ x. required b at >>= λ y. f x y) ≡ fault at Missing
one_of_two None b f at e = refl
one_of_two (Some x) None f at e = refl
one_of_two (Some x) (Some y) f at e = absurd cc

pub one_of_three : {A B C E : Type 0} (a : Option A) (b : Option B) (c : Option C) (f : A → B → C → Result E Fault)
    (at : ℕ) → (is_some a && is_some b && is_some c) ≡ false
    → (required a at >>= λ x. required b at >>= λ y. required c at >>= λ z. f x y z) ≡ fault at Missing
one_of_three None b c f at e = refl
one_of_three (Some x) None c f at e = refl
one_of_three (Some x) (Some y) None f at e = refl
one_of_three (Some x) (Some y) (Some z) f at e = absurd cc

pub one_of_four : {A B C D E : Type 0} (a : Option A) (b : Option B) (c : Option C) (d : Option D)
    (f : A → B → C → D → Result E Fault) (at : ℕ) → (is_some a && is_some b && is_some c && is_some d) ≡ false
    → (required a at >>= λ w. required b at >>= λ x. required c at >>= λ y. required d at >>= λ z. f w x y z) ≡ fault at
    Missing
one_of_four None b c d f at e = refl
one_of_four (Some w) None c d f at e = refl
one_of_four (Some w) (Some x) None d f at e = refl
one_of_four (Some w) (Some x) (Some y) None f at e = refl
one_of_four (Some w) (Some x) (Some y) (Some z) f at e = absurd cc
