-- Tools for chains of steps that may fail.
use Rattle.std.proofs.Common.{◌≡◌, ℕ, zero, suc, ◌+◌, ◌-◌, Bool, true, false, cond, List, [], ◌∷◌, length, Option, Some}
use Rattle.std.proofs.Common.{None, Result, Ok, Err, refl, ap, subst, inl, inr, ◌⊎◌}
use Rattle.mta_ber.specs.declared.fault.Fault.{Fault}
use Rattle.mta_ber.specs.Head.{◌>>=◌}
use Rattle.mta_ber.specs.Element.{Part, part}
use Rattle.mta_ber.specs.Parts.{parts_from, parts_of, once, required}

-- the value of a step that did not fail
pub bind_ok : {A B : Type 0} (first : Result A Fault) (next : A → Result B Fault) (y : B) → (first >>= next) ≡ Ok y
    → (x : A) × (first ≡ Ok x) × (next x ≡ Ok y)
bind_ok (Ok x) next y e = (x, refl, e)
bind_ok (Err fault) next y e = absurd cc

pub chosen : {A : Type 0} (b : Bool) (x y z : Result A Fault) → cond b x y ≡ z → ((b ≡ true) × (x ≡ z))
    ⊎ ((b ≡ false) × (y ≡ z))
chosen true x y z e = inl (refl, e)
chosen false x y z e = inr (refl, e)

-- a test before a step that did not fail
pub passed : {A : Type 0} (b : Bool) (d : Fault) (x : Result A Fault) (y : A) → cond b (Err d) x ≡ Ok y → (b ≡ false)
    × (x ≡ Ok y)
passed true d x y e = absurd cc
passed false d x y e = (refl, e)

abbrev done : {A : Type 0} → A → Result A Fault
done x = Ok x

pub ok_is : {A : Type 0} (x y : A) → done x ≡ done y → x ≡ y
ok_is x y e = cc

-- what each step keeps, all the steps keep
pub parts_keep : {S : Type 0} (step : S → Part → Result S Fault) (P : S → Type 0)
    → ((s : S) (p : Part) (t : S) → P s → step s p ≡ Ok t → P t)
    → (depth turns at : ℕ) (s : S) (bytes : List ℕ) (t : S) → P s → parts_from step depth turns at s bytes ≡ Ok t → P t
unfolding parts_from
parts_keep step P keeps depth zero at s [] t h e = subst P (ok_is s t e) h
parts_keep step P keeps depth (suc turns) at s [] t h e = subst P (ok_is s t e) h
parts_keep step P keeps depth zero at s (b ∷ bs) t h e = subst P (ok_is s t e) h
parts_keep step P keeps depth (suc turns) at s (b ∷ bs) t h e =
    let p = bind_ok (part at depth (b ∷ bs))
    (λ p. step s p >>= λ t. parts_from step depth turns (at + (length (b ∷ bs) - length p.rest)) t p.rest) t e in
    let q = bind_ok (step s p.0) (λ t. parts_from step depth turns
    (at + (length (b ∷ bs) - length p.0.rest)) t p.0.rest) t p.2 in
    parts_keep step P keeps depth turns (at + (length (b ∷ bs) - length p.0.rest)) q.0 p.0.rest t
    (keeps s p.0 q.0 h q.1) q.2

pub parts_of_keep : {S : Type 0} (step : S → Part → Result S Fault) (P : S → Type 0)
    → ((s : S) (p : Part) (t : S) → P s → step s p ≡ Ok t → P t)
    → (s : S) (p : Part) (t : S) → P s → parts_of step s p ≡ Ok t → P t
unfolding parts_of
parts_of_keep step P keeps s p t h e =
    parts_keep step P keeps (p.depth + 1) (length p.content) p.start s p.content t h e

-- a component that was put in its place
pub placed : {A S : Type 0} (held : Option A) (at : ℕ) (read : Result A Fault) (put : A → S) (t : S)
    → (once held at read >>= λ x. Ok (put x)) ≡ Ok t → (x : A) × (held ≡ None) × (read ≡ Ok x) × (put x ≡ t)
placed None at (Ok x) put t e = (x, refl, refl, ok_is (put x) t e)
placed None at (Err d) put t e = absurd cc
placed (Some y) at read put t e = absurd cc

-- a step behind a test that did not fail
pub taken : {A : Type 0} (b : Bool) (x : Result A Fault) (f : Fault) (y : A) → cond b x (Err f) ≡ Ok y → (b ≡ true)
    × (x ≡ Ok y)
taken true x f y e = (refl, e)
taken false x f y e = absurd cc

-- a required component that is there
pub required_so : {A : Type 0} (held : Option A) (at : ℕ) (x : A) → required held at ≡ Ok x → held ≡ Some x
required_so (Some y) at x e = ap (λ z. Some z) (ok_is y x e)
required_so None at x e = absurd cc
