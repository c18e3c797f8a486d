-- What activities transfer.
use Rattle.std.proofs.Common.{◌≡◌, ℕ, zero, suc, ◌≤◌, Bool, true, false, eqb, List, [], ◌∷◌, length, get_or}
use Rattle.std.proofs.Common.{Option}
use Rattle.std.proofs.Common.{Some, None, Result, refl, sym, ap, subst, ◌∙◌, arith}
use Rattle.std.specs.Prelude.{◌↔◌, ◌≢◌, slice_get, IfOk}
use Rattle.std.specs.List.{AllByRecursion}
use Rattle.std.proofs.lemmas.Bool.{eq-eqb, or_left}
use Rattle.mta_ber.specs.declared.memory.Memory.{Memory}
use Rattle.mta_procedures.specs.declared.verdict.Verdict.{Verdict}
use Rattle.mta_procedures.specs.declared.verdict.Verdict.TheVariants as Verdicts
use Rattle.mta_records.specs.State.{Transfer, Lane}
use Rattle.mta_machine.specs.Items.{ItemValue, Machine, numbered, names}
use Rattle.mta_machine.specs.Machine.{relay_by, relay_on}
use Rattle.mta_machine.proofs.Decided.{relay-verdict}
use Rattle.mta_histories.specs.Lanes.{State}
use Rattle.mta_snapshots.specs.Fits.{GoesTo, HasRest, RestsOn}

all_get : {A : Type 0} (P : A → Type 0) (xs : List A) (k : ℕ) (x : A) → slice_get xs k ≡ Some x → AllByRecursion P xs
    → P x
all_get P [] k x e each = absurd cc
all_get {A} P (y ∷ ys) zero x e each = subst P (same y x e) each.0
  where
    same : (a b : A) → Some a ≡ Some b → a ≡ b
    same a b f = cc
all_get P (y ∷ ys) (suc k) x e each = all_get P ys k x e each.1

-- it holds of what has a number in the list
pub all_at : {A : Type 0} (P : A → Type 0) (xs : List A) (n : ℕ) (x : A) → Some x ≡ numbered xs n
    → AllByRecursion P xs → P x
all_at P xs zero x e each = absurd cc
all_at P xs (suc k) x e each = all_get P xs k x (sym e) each

first_named : (xs : List ℕ) (d : ℕ) → 1 ≤ length xs → names xs (get_or xs 0 d) ≡ true
first_named [] d some = absurd (omega (arith, some))
first_named (x ∷ xs) d some = or_left (eqb x x) (names xs x) (eq-eqb x x refl)

-- the first of those who are relayed is
pub first_relays : (text : List ℕ) (verdict : ℕ → Option Verdict) (peer xs : List ℕ) → 1 ≤ length xs
    → ((r : ℕ) → names xs r ≡ true → relay_by text (verdict r) ≡ Some peer)
    → (place : ℕ) × (verdict (get_or xs 0 0) ≡ Some (Verdicts.Relay place))
first_relays text verdict peer xs some each =
    relay-verdict text (verdict (get_or xs 0 0)) peer (each (get_or xs 0 0) (first_named xs 0 some))

-- ---- where there is no item, or there are no tables

someone : (rs : List ℕ) → rs ≢ [] → (r : ℕ) × (names rs r ≡ true)
someone [] some = absurd (some refl)
someone (r ∷ rs) some = (r, or_left (eqb r r) (names rs r) (eq-eqb r r refl))

no_item_relays : (format : ℕ) (text : Option (List ℕ)) (r moment : ℕ) (peer : List ℕ)
    → relay_on format text None r moment ≡ Some peer → ⊥
no_item_relays format None r moment peer e = cc
no_item_relays format (Some text) r moment peer e = cc

module _ (m : Machine) (peer : List ℕ) (t : Transfer) where
  pub no_item_goes : (i : ℕ) → i ≡ t.item → None ≡ numbered m.items i → (false ≡ true) ↔ GoesTo m peer t
  no_item_goes i is none = (
    λ e. absurd cc,
    λ goes.
        let one = someone t.recipients goes.some_recipients in
        let found : numbered m.items t.item ≡ None = ap (numbered m.items) (sym is) ∙ sym none in
        absurd (no_item_relays t.format (numbered m.tables t.tables) one.0 t.moment peer
        (subst (λ (o : Option ItemValue). relay_on t.format (numbered m.tables t.tables) o one.0 t.moment ≡ Some peer)
        found (goes.relayed one.0 one.1))),
  )

  pub no_text_goes : (n : ℕ) → n ≡ t.tables → None ≡ numbered m.tables n → (false ≡ true) ↔ GoesTo m peer t
  no_text_goes n is none = (
    λ e. absurd cc,
    λ goes.
        let one = someone t.recipients goes.some_recipients in
        let found : numbered m.tables t.tables ≡ None = ap (numbered m.tables) (sym is) ∙ sym none in
        let nobody : None ≡ Some peer =
        subst (λ (o : Option (List ℕ)). relay_on t.format o (numbered m.items t.item) one.0 t.moment ≡ Some peer)
        found (goes.relayed one.0 one.1) in
        absurd cc,
  )

-- ---- what a lane transfers

pub at_rest_is : (s : State) (lane : Lane) (t : Transfer) (r : Result Bool Memory) → Some t ≡ lane.transfer
    → IfOk r (λ b. (b ≡ true) ↔ RestsOn s lane t) → IfOk r (λ b. (b ≡ true) ↔ HasRest s lane lane.transfer)
at_rest_is s lane t r is each =
    subst (λ (o : Option Transfer). IfOk r (λ (b : Bool). (b ≡ true) ↔ HasRest s lane o)) is each
