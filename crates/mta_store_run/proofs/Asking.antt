-- What words ask has a word as its mailbox, and a number from 1.
use Rattle.std.proofs.Common.{◌≡◌, ◌≤◌, ◌<◌, ◌^◌, ℕ, Bool, true, false, cond, leb, List, [], ◌∷◌, Option, Some, None}
use Rattle.std.proofs.Common.{refl, subst, arith, length}
use Rattle.std.specs.Prelude.{◌&&◌, codes}
use Rattle.std.specs.Str.{bytes_eq}
use Rattle.std.proofs.lemmas.Bool.{and_parts, leb-true}
use Rattle.mta_tables.specs.Words.{is_decimal, is_number, is_word, number_of}
use Rattle.mta_store_run.specs.Asked.{IsAsked, asked_by_three, asked_of, is_mailbox, is_undashed}
use Rattle.mta_store_run.specs.Asked.{list_said}
use Rattle.mta_store_run.specs.Asked.{mailbox_said, number_said, said_by, said_with, verb_of}
use Rattle.mta_store_run.specs.declared.asked.Asked.{Asked}
use Rattle.mta_store_run.specs.declared.asked.Asked.TheVariants as Ask
use Rattle.mta_store_run.specs.declared.asked.Verb.{Verb}
use Rattle.mta_store_run.specs.declared.asked.Verb.TheVariants as Verbs

some_same : {A : Type 0} (x y : A) → ◌≡◌ {A = Option A} (Some x) (Some y) → x ≡ y
some_same x y e = cc

-- a test that gives something holds
passed : {A : Type 0} (b : Bool) (x y : A) → cond b (Some x) None ≡ Some y → (b ≡ true) × (x ≡ y)
passed true x y e = (refl, some_same x y e)
passed false x y e = absurd cc

mailbox_is : (word mailbox : List ℕ) → mailbox_said word ≡ Some mailbox → is_word mailbox ≡ true
mailbox_is word mailbox e =
    let p = passed (is_mailbox word) word mailbox e in
    subst (λ (w : List ℕ). is_word w ≡ true) p.1 (and_parts (is_word word) (is_undashed word) p.0).0

number_is : (text : List ℕ) (number : ℕ) → number_said text ≡ Some number → (1 ≤ number) × (number < 2 ^ 32)
number_is text number e =
    let p = passed (is_number 1 4294967295 text) (number_of text) number e in
    let most = and_parts (is_decimal text && leb 1 (number_of text)) (leb (number_of text) 4294967295) p.0 in
    let least = and_parts (is_decimal text) (leb 1 (number_of text)) most.0 in
    let low = leb-true 1 (number_of text) least.1 in
    let high = leb-true (number_of text) 4294967295 most.1 in
    let same = p.1 in
    (omega (arith, low, same), omega (arith, high, same))

said_is : (verb : Verb) (mailbox : List ℕ) (number : ℕ) → is_word mailbox ≡ true → (1 ≤ number) × (number < 2 ^ 32)
    → IsAsked (said_by verb mailbox number)
said_is Verbs.Fetch mailbox number word fits = (word, fits)
said_is Verbs.Delete mailbox number word fits = (word, fits)

list_is : (o : Option (List ℕ)) (a : Asked) → ((mailbox : List ℕ) → o ≡ Some mailbox → is_word mailbox ≡ true)
    → list_said o ≡ Some a → IsAsked a
list_is None a word e = absurd cc
list_is (Some mailbox) a word e = subst IsAsked (some_same (Ask.List mailbox) a e) (word mailbox refl)

with_is : (verb : Verb) (o : Option (List ℕ)) (n : Option ℕ) (a : Asked)
    → ((mailbox : List ℕ) → o ≡ Some mailbox → is_word mailbox ≡ true)
    → ((number : ℕ) → n ≡ Some number → (1 ≤ number) × (number < 2 ^ 32)) → said_with verb o n ≡ Some a → IsAsked a
with_is verb None n a word fits e = absurd cc
with_is verb (Some mailbox) None a word fits e = absurd cc
with_is verb (Some mailbox) (Some number) a word fits e =
    subst IsAsked (some_same (said_by verb mailbox number) a e)
    (said_is verb mailbox number (word mailbox refl) (fits number refl))

two_is : (b : Bool) (mailbox : List ℕ) (a : Asked) → cond b (list_said (mailbox_said mailbox)) None ≡ Some a
    → IsAsked a
two_is true mailbox a e = list_is (mailbox_said mailbox) a (mailbox_is mailbox) e
two_is false mailbox a e = absurd cc

three_is : (verb : Option Verb) (mailbox number : List ℕ) (a : Asked) → asked_by_three verb mailbox number ≡ Some a
    → IsAsked a
three_is None mailbox number a e = absurd cc
three_is (Some verb) mailbox number a e =
    with_is verb (mailbox_said mailbox) (number_said number) a (mailbox_is mailbox) (number_is number) e

pub asked_is : (words : List (List ℕ)) (a : Asked) → asked_of words ≡ Some a → IsAsked a
asked_is [] a e = absurd cc
asked_is (verb ∷ []) a e = absurd cc
asked_is (verb ∷ mailbox ∷ []) a e = two_is (bytes_eq verb (codes "list")) mailbox a e
asked_is (verb ∷ mailbox ∷ number ∷ []) a e = three_is (verb_of verb) mailbox number a e
asked_is (verb ∷ mailbox ∷ number ∷ more ∷ words) a e = absurd cc

-- fewer words than two and more than three ask nothing
pub few_ask_nothing : (words : List (List ℕ)) → length words < 2 → None ≡ asked_of words
few_ask_nothing [] few = refl
few_ask_nothing (a ∷ []) few = refl
few_ask_nothing (a ∷ b ∷ words) few = absurd (omega (arith, few))

pub many_ask_nothing : (words : List (List ℕ)) → 4 ≤ length words → None ≡ asked_of words
many_ask_nothing [] many = refl
many_ask_nothing (a ∷ []) many = refl
many_ask_nothing (a ∷ b ∷ []) many = absurd (omega (arith, many))
many_ask_nothing (a ∷ b ∷ c ∷ []) many = absurd (omega (arith, many))
many_ask_nothing (a ∷ b ∷ c ∷ d ∷ words) many = refl
