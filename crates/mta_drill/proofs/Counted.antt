-- What the spools hold, message by message.
use Rattle.std.proofs.Common.{◌≡◌, ℕ, suc, ◌+◌, ◌<◌, ◌≤◌, List, Option, Some, length, get_or}
use Rattle.std.proofs.Common.{refl, sym, ap, subst, ◌∙◌, arith, inl, inr}
use Rattle.std.proofs.lemmas.Bool.{cases_lt}
use Rattle.std.proofs.lemmas.Option.{slice_get_read}
use Rattle.mta_machine.specs.Items.{ItemValue, numbered}
use Rattle.mta_records.specs.declared.state.MailboxLine.{MailboxLine}
use Rattle.mta_drill_text.specs.Text.{content_length, octets_up_to}
use Rattle.mta_drill.proofs.Contents.{one_message_more}
use Rattle.mta_drill.specs.Held.{AreDeliveries, AreMessages, AreSent, IsDelivery, IsDeliveredAt, IsMessage, IsSent}

-- what holds up to a number and of the next holds up to the next
one_more : {A : Type 0} (P : ℕ → A → Type 0) (xs : List A) (n : ℕ)
    → ((k : ℕ) (y : A) → k ≤ n → numbered xs k ≡ Some y → P k y)
    → ((y : A) → numbered xs (n + 1) ≡ Some y → P (n + 1) y)
    → (k : ℕ) (y : A) → k ≤ n + 1 → numbered xs k ≡ Some y → P k y
one_more P xs n all here k y le found = elim (cases_lt n k) [
  | inl above ↦
      let e : k ≡ n + 1 = omega (arith, above, le) in
      subst (λ m. P m y) (sym e) (here y (subst (λ m. numbered xs m ≡ Some y) e found))
  | inr within ↦ all k y within found
]

some_is : {A : Type 0} (x y : A) → ◌≡◌ {A = Option A} (Some x) (Some y) → x ≡ y
some_is x y e = cc

-- what has the number of a place
at_place : {A : Type 0} (xs : List A) (n : ℕ) (x y : A) → n < length xs → x ≡ get_or xs n x
    → numbered xs (n + 1) ≡ Some y → x ≡ y
at_place xs n x y within is found =
    let e : n + 1 ≡ suc n = omega arith in
    some_is x y (sym (slice_get_read xs (length xs) n x refl within is) ∙ subst (λ m. numbered xs m ≡ Some y) e found)

-- it stands there
found_at : {A : Type 0} (xs : List A) (n : ℕ) (x : A) → n < length xs → x ≡ get_or xs n x
    → numbered xs (n + 1) ≡ Some x
found_at xs n x within is =
    let e : n + 1 ≡ suc n = omega arith in
    subst (λ m. numbered xs m ≡ Some x) (sym e) (slice_get_read xs (length xs) n x refl within is)

-- ---- those that were sent

-- of all that were, the one of this place was
pub is_sent_at : (items : List ItemValue) (before count n : ℕ) (x : ItemValue) → n < count → AreSent items before count
    → n < length items → x ≡ get_or items n x → IsSent x (before + n + 1)
is_sent_at items before count n x under all within is =
    let e : before + (n + 1) ≡ before + n + 1 = omega arith in
    subst (λ m. IsSent x m) e (all (n + 1) x (omega (arith, under)) (found_at items n x within is))

pub one_sent : (items : List ItemValue) (before n : ℕ) (x : ItemValue) → n < length items → x ≡ get_or items n x
    → IsSent x (before + n + 1) → AreSent items before n → AreSent items before (n + 1)
one_sent items before n x within is sent all k item le found =
    let e : before + n + 1 ≡ before + (n + 1) = omega arith in
    one_more (λ k item. IsSent item (before + k)) items n (λ k item le found. all k item le found)
    (λ y there. subst (λ z. IsSent z (before + (n + 1))) (at_place items n x y within is there)
    (subst (λ m. IsSent x m) e sent)) k item le found

-- ---- those that were delivered

pub is_message_at : (items : List ItemValue) (before n : ℕ) (x : ItemValue) → AreMessages items before (n + 1)
    → n < length items → x ≡ get_or items n x → IsMessage x.octets (before + n + 1)
is_message_at items before n x all within is =
    let e : before + (n + 1) ≡ before + n + 1 = omega arith in
    subst (λ m. IsMessage x.octets m) e (all (n + 1) x (omega arith) (found_at items n x within is))

pub is_delivery_at : (lines : List MailboxLine) (n : ℕ) (x : MailboxLine) → AreDeliveries lines (n + 1)
    → n < length lines → x ≡ get_or lines n x → IsDelivery (n + 1) x
is_delivery_at lines n x all within is = all (n + 1) x (omega arith) (found_at lines n x within is)

-- of all that are, the first ones are
pub fewer_messages : (items : List ItemValue) (before count n : ℕ) → n < count → AreMessages items before count
    → AreMessages items before (n + 1)
fewer_messages items before count n under all k item le found = all k item (omega (arith, under, le)) found

pub fewer_deliveries : (lines : List MailboxLine) (count n : ℕ) → n < count → AreDeliveries lines count
    → AreDeliveries lines (n + 1)
fewer_deliveries lines count n under all k line le found = all k line (omega (arith, under, le)) found

module _ (items : List ItemValue) (lines : List MailboxLine) (before n size : ℕ)
    (d : IsDeliveredAt items lines before (n + 1) size) where
  pub one_message : AreMessages items before n → AreMessages items before (n + 1)
  one_message all k item le found =
      one_more (λ k item. IsMessage item.octets (before + k)) items n (λ k item le found. all k item le found)
      (λ y there. d.item y there) k item le found

  pub one_delivery : AreDeliveries lines n → AreDeliveries lines (n + 1)
  one_delivery all k line le found =
      one_more (λ k line. IsDelivery k line) lines n (λ k line le found. all k line le found)
      (λ y there. d.line y there) k line le found

  -- and the octets so far
  pub more_octets : (sum : ℕ) → sum + octets_up_to before ≡ octets_up_to (before + n)
      → (sum + size) + octets_up_to before ≡ octets_up_to (before + (n + 1))
  more_octets sum e =
      let f : before + (n + 1) ≡ before + n + 1 = omega arith in
      let g = one_message_more (before + n) in
      let h : content_length (before + (n + 1)) ≡ content_length (before + n + 1) = ap content_length f in
      omega (arith, e, g, h, d.size_is, ap octets_up_to f)
