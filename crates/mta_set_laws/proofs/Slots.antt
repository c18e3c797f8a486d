-- Two components that are put into places of their own may change places.
use Rattle.std.proofs.Common.{◌≡◌, Bool, true, false, Option, Some, None, refl, sym, ap, subst, ◌∙◌}
use Rattle.mta_names.specs.Strings.{Puts}

-- the place of a component, and whether it is there already
pub record Slot (S X : Type 0) : Type 0 where
  pub put : S → X → S
  pub held : S → Bool

-- neither of two places is seen or changed by what is put into the other
abbrev pub Apart : {S X Y : Type 0} → Slot S X → Slot S Y → Type 0
Apart {S} {X} {Y} a b =
    ((s : S) (x : X) → b.held (a.put s x) ≡ b.held s)
    × ((s : S) (y : Y) → a.held (b.put s y) ≡ a.held s)
    × ((s : S) (x : X) (y : Y) → b.put (a.put s x) y ≡ a.put (b.put s y) x)

pub moved : {S X Y : Type 0} {P : X → Type 0} {Q : Y → Type 0} (a : Slot S X) (b : Slot S Y) → Apart a b → (s t u : S)
    → Puts P (a.put s) t → Puts Q (b.put t) u → a.held s ≡ false → b.held t ≡ false
    → (between : S) × Puts Q (b.put s) between × (b.held s ≡ false) × Puts P (a.put between) u
    × (a.held between ≡ false)
moved a b apart s t u m n f g = (
  b.put s n.value,
  record { value = n.value; value_spelled = n.value_spelled; after_is = refl },
  sym (apart.0 s m.value) ∙ subst (λ r. b.held r ≡ false) m.after_is g,
  record {
    value = m.value;
    value_spelled = m.value_spelled;
    after_is = n.after_is ∙ ap (λ r. b.put r n.value) m.after_is ∙ apart.2 s m.value n.value;
  },
  apart.1 s n.value ∙ f,
)

pub twice : {S X : Type 0} {P : X → Type 0} (a : Slot S X) → ((s : S) (x : X) → a.held (a.put s x) ≡ true) → (s t : S)
    → Puts P (a.put s) t → a.held t ≡ false → ⊥
twice a holds s t m g =
    let e : true ≡ false = sym (holds s m.value) ∙ subst (λ r. a.held r ≡ false) m.after_is g in
    cc e

-- one component passes another
pub passes_slot : {S X Y : Type 0} {P : X → Type 0} {Q : Y → Type 0} (a : Slot S X) (b : Slot S Y)
    → ((s : S) (x : X) → b.held (a.put s x) ≡ b.held s) → ((s : S) (y : Y) → a.held (b.put s y) ≡ a.held s)
    → ((s : S) (x : X) (y : Y) → b.put (a.put s x) y ≡ a.put (b.put s y) x) → (s t u : S)
    → Puts P (a.put s) t → Puts Q (b.put t) u → a.held s ≡ false → b.held t ≡ false
    → (between : S) × Puts Q (b.put s) between × (b.held s ≡ false) × Puts P (a.put between) u
    × (a.held between ≡ false)
passes_slot a b unseen unseen' apart s t u m n f g = moved a b (unseen, unseen', apart) s t u m n f g

-- the same of places that are looked into
pub record Field (S X : Type 0) : Type 0 where
  pub put : S → X → S
  pub get : S → Option X

abbrev pub AreApart : {S X Y : Type 0} → Field S X → Field S Y → Type 0
AreApart {S} {X} {Y} a b =
    ((s : S) (x : X) → b.get (a.put s x) ≡ b.get s)
    × ((s : S) (y : Y) → a.get (b.put s y) ≡ a.get s)
    × ((s : S) (x : X) (y : Y) → b.put (a.put s x) y ≡ a.put (b.put s y) x)

abbrev pub none : {X : Type 0} → Option X
none = None

pub moved_field : {S X Y : Type 0} {P : X → Type 0} {Q : Y → Type 0} (a : Field S X) (b : Field S Y) → AreApart a b
    → (s t u : S)
    → (a.get s ≡ None) × Puts P (a.put s) t → (b.get t ≡ None) × Puts Q (b.put t) u
    → (between : S) × ((b.get s ≡ None) × Puts Q (b.put s) between)
    × ((a.get between ≡ None) × Puts P (a.put between) u)
moved_field a b apart s t u m n = (
  b.put s n.1.value,
  (
    sym (apart.0 s m.1.value) ∙ subst (λ r. b.get r ≡ None) m.1.after_is n.0,
    record { value = n.1.value; value_spelled = n.1.value_spelled; after_is = refl },
  ),
  (
    apart.1 s n.1.value ∙ m.0,
    record {
      value = m.1.value;
      value_spelled = m.1.value_spelled;
      after_is = n.1.after_is ∙ ap (λ r. b.put r n.1.value) m.1.after_is ∙ apart.2 s m.1.value n.1.value;
    },
  ),
)

pub twice_in_field : {S X : Type 0} {P Q : X → Type 0} (a : Field S X) → ((s : S) (x : X) → a.get (a.put s x) ≡ Some x)
    → (s t u : S)
    → (a.get s ≡ None) × Puts P (a.put s) t → (a.get t ≡ None) × Puts Q (a.put t) u → ⊥
twice_in_field {S} {X} a holds s t u m n =
    let e : ◌≡◌ {A = Option X} (Some m.1.value) None = sym (holds s m.1.value)
    ∙ subst (λ r. a.get r ≡ None) m.1.after_is n.0 in
    cc e

pub passes : {S X Y : Type 0} {P : X → Type 0} {Q : Y → Type 0} (a : Field S X) (b : Field S Y)
    → ((s : S) (x : X) → b.get (a.put s x) ≡ b.get s) → ((s : S) (y : Y) → a.get (b.put s y) ≡ a.get s)
    → ((s : S) (x : X) (y : Y) → b.put (a.put s x) y ≡ a.put (b.put s y) x) → (s t u : S)
    → (a.get s ≡ None) × Puts P (a.put s) t → (b.get t ≡ None) × Puts Q (b.put t) u
    → (between : S) × ((b.get s ≡ None) × Puts Q (b.put s) between)
    × ((a.get between ≡ None) × Puts P (a.put between) u)
passes a b unseen unseen' apart s t u m n = moved_field a b (unseen, unseen', apart) s t u m n
