-- Items and lanes of records, one after the other.
use Rattle.std.proofs.Common.{◌≡◌, ℕ, true, Bool, List, [], ◌∷◌, ◌++◌, length, map, Some, None, refl, sym, ap}
use Rattle.std.proofs.Common.{subst, ◌∙◌, arith}
use Rattle.std.proofs.Common.{append_assoc, append-nil}
use Rattle.std.specs.Prelude.{◌↔◌}
use Rattle.std.specs.Global.{Vec}
use Rattle.std.specs.List.{AllByRecursion}
use Rattle.mta_records.specs.State.{Lane, RecordedItem}
use Rattle.mta_records.specs.declared.state.Origin.{Origin}
use Rattle.mta_records.specs.declared.state.Status.{Status}
use Rattle.mta_machine.specs.Items.{ItemValue}
use Rattle.mta_histories.specs.Sound.{HasCodes, IsSoundItem, item_begun}
use Rattle.mta_snapshots.specs.Items.{HasStringOf, IsBegunAs, ItemBegins, ItemsBegin}
use Rattle.mta_snapshots.specs.Lanes.{IsAlone, IsSpelled, LanesBegin}

-- a list of which nothing is left
pub nothing_left : {A : Type 0} (xs : List A) → length xs ≡ 0 → xs ≡ []
nothing_left [] none = refl
nothing_left (x ∷ xs) none = absurd (omega (arith, none))

-- one more of a list of which others are left
pub put_behind : {A : Type 0} (xs ys zs : List A) (x : A) (rest : List A) → ys ≡ xs ++ x ∷ [] → xs ++ x ∷ rest ≡ zs
    → ys ++ rest ≡ zs
put_behind xs ys zs x rest put are =
    ap (λ (ws : List _). ws ++ rest) put ∙ (append_assoc xs (x ∷ []) rest ∙ are)

-- ---- lanes

-- what is left of the lanes
pub record AreComing (records lanes rest : List Lane) : Type 0 where
  pub all : lanes ++ rest ≡ records
  pub alone : AllByRecursion IsAlone records ↔ AllByRecursion IsAlone rest
  pub spelled : AllByRecursion IsSpelled rest

pub coming_first : (records lanes rest : List Lane) → lanes ≡ [] → rest ≡ records → AllByRecursion IsSpelled records
    → AreComing records lanes rest
coming_first records lanes rest none same spelled = record {
  all = ap (λ (ls : List Lane). ls ++ rest) none ∙ same;
  alone = subst (λ (ls : List Lane). AllByRecursion IsAlone records ↔ AllByRecursion IsAlone ls) (sym same)
      (λ e. e, λ e. e);
  spelled = subst (AllByRecursion IsSpelled) (sym same) spelled;
}

module _ (records lanes was rest : List Lane) (lane : Lane) (is : was ≡ lane ∷ rest)
    (way : AreComing records lanes was)
  where
    opened : AreComing records lanes (lane ∷ rest)
    opened = subst (AreComing records lanes) is way

    pub coming_spelled : IsSpelled lane
    coming_spelled = opened.spelled.0

    pub coming_next : (lanes' : List Lane) (b : Bool) (put : Lane) → (b ≡ true) ↔ IsAlone lane → b ≡ true → put ≡ lane
        → lanes' ≡ lanes ++ put ∷ [] → AreComing records lanes' rest
    coming_next lanes' b put test does same pushed =
        let o = opened in
        record {
          all = put_behind lanes lanes' records lane rest (pushed ∙ ap (λ (l : Lane). lanes ++ l ∷ []) same) o.all;
          alone = (λ e. (o.alone.0 e).1, λ e. o.alone.1 (test.0 does, e));
          spelled = o.spelled.1;
        }

    pub not_alone : (b : Bool) → (b ≡ true) ↔ IsAlone lane → (b ≡ true → ⊥) → LanesBegin records None
    not_alone b test isnt each = isnt (test.1 (opened.alone.0 each).0)

pub coming_done : (records was : List Lane) (lanes : Vec Lane) → length was ≡ 0 → AreComing records lanes.items was
    → LanesBegin records (Some lanes)
coming_done records was lanes none way =
    let o = subst (AreComing records lanes.items) (nothing_left was none) way in
    (o.alone.1 tt, sym (append-nil lanes.items) ∙ o.all)

-- ---- items

abbrev pub recorded_as : Origin → ℕ → List ℕ → List Status → RecordedItem
recorded_as origin arrival octets codes =
    record { origin = origin; arrival = arrival; octets = octets; codes = codes }

pub same_item : (origin : Origin) (arrival : ℕ) (o p : List ℕ) (c d : List Status) → o ≡ p → c ≡ d
    → recorded_as origin arrival o c ≡ recorded_as origin arrival p d
same_item origin arrival o p c d same alike =
    ap (λ (x : List ℕ). recorded_as origin arrival x c) same
    ∙ ap (λ (y : List Status). recorded_as origin arrival p y) alike

-- what is left of the items
pub record AreComingIn (moment : ℕ) (records : List RecordedItem) (items : List ItemValue)
    (rest : List RecordedItem) : Type 0
  where
    pub all : items ++ map item_begun rest ≡ map item_begun records
    pub codes : AllByRecursion HasCodes records ↔ AllByRecursion HasCodes rest
    pub sound : AllByRecursion (IsSoundItem moment) (map item_begun records)
        ↔ AllByRecursion (IsSoundItem moment) (map item_begun rest)
    pub strings : AllByRecursion HasStringOf rest

pub coming_in_first : (moment : ℕ) (records : List RecordedItem) (items : List ItemValue) (rest : List RecordedItem)
    → items ≡ [] → rest ≡ records → AllByRecursion HasStringOf records → AreComingIn moment records items rest
coming_in_first moment records items rest none same strings =
    subst (AreComingIn moment records items) (sym same)
    (record {
      all = ap (λ (xs : List ItemValue). xs ++ map item_begun records) none;
      codes = (λ e. e, λ e. e);
      sound = (λ e. e, λ e. e);
      strings = strings;
    })

module _ (moment : ℕ) (records : List RecordedItem) (items : List ItemValue) (was rest : List RecordedItem)
    (i : RecordedItem) (is : was ≡ i ∷ rest) (way : AreComingIn moment records items was)
  where
    opened_in : AreComingIn moment records items (i ∷ rest)
    opened_in = subst (AreComingIn moment records items) is way

    pub coming_in_string : HasStringOf i
    coming_in_string = opened_in.strings.0

    pub coming_in_next : (items' : List ItemValue) (item : ItemValue) → IsBegunAs moment i item → items' ≡ items ++ item
        ∷ []
        → AreComingIn moment records items' rest
    coming_in_next items' item begun pushed =
        let o = opened_in in
        record {
          all = put_behind items items' (map item_begun records) (item_begun i) (map item_begun rest)
              (pushed ∙ ap (λ (x : ItemValue). items ++ x ∷ []) begun.same) o.all;
          codes = (λ e. (o.codes.0 e).1, λ e. o.codes.1 (begun.codes, e));
          sound = (λ e. (o.sound.0 e).1, λ e. o.sound.1 (begun.sound, e));
          strings = o.strings.1;
        }

    pub not_begun : ItemBegins moment i None → ItemsBegin moment records None
    not_begun never codes sound =
        let o = opened_in in
        never (o.codes.0 codes).0 (o.sound.0 sound).0

pub coming_in_done : (moment : ℕ) (records was : List RecordedItem) (items : Vec ItemValue) → length was ≡ 0
    → AreComingIn moment records items.items was → ItemsBegin moment records (Some items)
coming_in_done moment records was items none way =
    let o = subst (AreComingIn moment records items.items) (nothing_left was none) way in
    record {
      same = sym (append-nil items.items) ∙ o.all;
      codes = o.codes.1 tt;
      sound = o.sound.1 tt;
    }
