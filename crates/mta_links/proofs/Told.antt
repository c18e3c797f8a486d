-- A step of what is told.
use Rattle.std.proofs.Common.{◌≡◌, Option, Some, refl, subst}
use Rattle.mta_links.specs.Links.{Leads}

pub same_told : {T : Type 0} (a b : T) → ◌≡◌ {A = Option T} (Some a) (Some b) → a ≡ b
same_told a b e = cc

pub leads : {T : Type 0} (step : T → T → Type 0) (f g : T) → step f g → Leads step (Some f) (Some g)
leads {T} step f g is = record {
  each = λ x told. (g, refl, subst (λ (y : T). step y g) (same_told f x told) is);
  back = λ y told. (f, refl, subst (λ (x : T). step f x) (same_told g y told) is);
}
