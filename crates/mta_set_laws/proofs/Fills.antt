-- Two components that each fill a place of their own may change places.
use Rattle.std.proofs.Common.{◌≡◌, ℕ, Bool, true, false, List, refl, sym, ap, subst, ◌∙◌}
use Rattle.mta_ber.specs.declared.tag.Tag.{Tag}
use Rattle.mta_ber.specs.Components.{Makes}
use Rattle.mta_ber.specs.Explicit.{Spells}
use Rattle.mta_rtse.specs.Spelling.{Fills}
use Rattle.mta_set_laws.specs.Orders.{ChangePlaces}

-- the place of a component: whether it is taken, and what is put there
pub record Place (S A : Type 0) : Type 0 where
  pub taken : S → Bool
  pub put : A → S → S

-- neither of two places is seen or changed by what is put into the other
abbrev pub AreApart : {S A B : Type 0} → Place S A → Place S B → Type 0
AreApart {S} {A} {B} a b =
    ((s : S) (x : A) → b.taken (a.put x s) ≡ b.taken s)
    × ((s : S) (y : B) → a.taken (b.put y s) ≡ a.taken s)
    × ((s : S) (x : A) (y : B) → b.put y (a.put x s) ≡ a.put x (b.put y s))

pub change : {S A B : Type 0} {is_a is_b : Tag → Bool} {spells : Spells A} {spells' : Spells B} (a : Place S A)
    (b : Place S B) → AreApart a b → {depth : ℕ} {s t u : S} {g g' : Tag} {c o c' o' : List ℕ}
    → Fills is_a a.taken a.put spells depth s g c o t → (n : Fills is_b b.taken b.put spells' depth t g' c' o' u)
    → Fills is_b b.taken b.put spells' depth s g' c' o' (b.put n.value s)
    × Fills is_a a.taken a.put spells depth (b.put n.value s) g c o u
change a b apart {s = s} m n = (
  record {
    is_tag_of = n.is_tag_of;
    absent = sym (apart.0 s m.value) ∙ subst (λ r. b.taken r ≡ false) m.after_is n.absent;
    value = n.value;
    spelled = n.spelled;
    after_is = refl;
  },
  record {
    is_tag_of = m.is_tag_of;
    absent = apart.1 s n.value ∙ m.absent;
    value = m.value;
    spelled = m.spelled;
    after_is = n.after_is ∙ ap (λ r. b.put n.value r) m.after_is ∙ apart.2 s m.value n.value;
  },
)

-- a place that is taken is not filled again
pub once : {S A : Type 0} {is_a is_b : Tag → Bool} {spells spells' : Spells A} (a : Place S A)
    → ((s : S) (x : A) → a.taken (a.put x s) ≡ true)
    → {depth : ℕ} {s t u : S} {g g' : Tag} {c o c' o' : List ℕ}
    → Fills is_a a.taken a.put spells depth s g c o t → Fills is_b a.taken a.put spells' depth t g' c' o' u → ⊥
once a holds {s = s} m n =
    let e : true ≡ false = sym (holds s m.value) ∙ subst (λ r. a.taken r ≡ false) m.after_is n.absent in
    cc e

-- components that are neighbours may change places, whatever their octets
abbrev pub Swaps : {S : Type 0} → Makes S → Type 0
Swaps {S} makes =
    (depth : ℕ) (s t u : S) (g : Tag) (c o : List ℕ) (g' : Tag) (c' o' : List ℕ)
    → makes depth s g c o t → makes depth t g' c' o' u
    → (between : S) × makes depth s g' c' o' between × makes depth between g c o u

pub neighbours_change : {S : Type 0} (makes : Makes S) → Swaps makes → ChangePlaces makes
neighbours_change makes swapped depth s t u a b h k =
    let w = swapped depth s t u h.tag h.content a k.tag k.content b h.made k.made in (
      w.0,
      record { tag = k.tag; content = k.content; stands = k.stands; made = w.1 },
      record { tag = h.tag; content = h.content; stands = h.stands; made = w.2 },
    )
