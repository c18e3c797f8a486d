-- A body is read as a unit exactly where it is spelled.
use Rattle.std.proofs.Common.{◌≡◌, ℕ, ◌^◌, ◌≤◌, ◌<◌, Bool, false, cond, ltb, List, [], ◌∷◌, ◌++◌, length, Result, Ok}
use Rattle.std.proofs.Common.{refl, sym, ap, subst, ◌∙◌, arith}
use Rattle.std.specs.Prelude.{◌||◌}
use Rattle.std.specs.Int.{w32, from_be_bytes}
use Rattle.std.proofs.lemmas.Nat.{be_bytes_4, from_be_bytes-to_be_bytes_4}
use Rattle.std.proofs.lemmas.Bool.{ltb-false, le-ltb}
use Rattle.mta_ber.specs.declared.fault.Fault.{Fault}
use Rattle.mta_ber.specs.declared.fault.Kind.TheVariants.{BadTag, Trailing}
use Rattle.mta_ber.specs.Head.{◌>>=◌, fault}
use Rattle.mta_ber.specs.Octet.{IsOctets}
use Rattle.mta_ber.specs.Element.{Part, first, outermost}
use Rattle.mta_ber.specs.Parts.{is_tag}
use Rattle.mta_ber.specs.Strings.{joined, is_empty, own_number}
use Rattle.mta_ber.specs.Spelling.{ending_of}
use Rattle.mta_ber.specs.Explicit.{Spells}
use Rattle.mta_ber.proofs.HeadLaws.{or_false}
use Rattle.mta_ber.proofs.Steps.{bind_ok, ok_is, taken, passed}
use Rattle.mta_ber.proofs.RowLaws.{first_sound, first_stands, lent_part, IsBytes-back}
use Rattle.mta_ber.proofs.StringLaws.{IsBytes-front, joined_sound, joined_full}
use Rattle.mta_ber.proofs.ExplicitLaws.{ReadSound, ReadFull}
use Rattle.mta_rtse.specs.Values as values
use Rattle.mta_rtse.specs.Identifier.{reference_in}
use Rattle.mta_rtse.specs.Spelling.{SpellsNumber, SpellsWord, SpellsReference}
use Rattle.mta_rtse.proofs.Slots.{pass}
use Rattle.mta_rtse.proofs.ValueLaws.{number_sound, number_full, word_sound, word_full}
use Rattle.mta_rtse.proofs.ReferenceLaws.{reference_sound, reference_full}
use Rattle.mta_units.specs.Fixed.{number_in, pair_in, exception_in, nothing_in}
use Rattle.mta_units.specs.Body.{tagged, ended, only_in, rttr_in, rttp_in, name_in, tagged_reference_in}
use Rattle.mta_units.specs.Canon.{number_octets}
use Rattle.mta_units.specs.Spelling.{SpellsFirst, SpellsOnly, Tagged, SpellsString, SpellsRttr, SpellsRttp, IsNumber}
use Rattle.mta_units.specs.Spelling.{IsPair, IsException}

-- ---- elements

ended_so : (p : Part) (u : Unit {0}) → ended p ≡ Ok u → p.rest ≡ []
ended_so p u e = go p.rest refl e
  where
    go : (l : List ℕ) → p.rest ≡ l → cond (is_empty l) (Ok tt) (fault p.at Trailing) ≡ Ok u → p.rest ≡ []
    go [] is e = is
    go (b ∷ bs) is e = absurd cc

module _ {A : Type 0} (read : Part → Result A Fault) (spells : Spells A) where
  -- the element at the front, and the octets behind it
  pub record FirstRead (octets : List ℕ) (p : Part) (v : A) : Type 0 where
    pub spelled : SpellsFirst spells octets v p.rest
    pub rest_octets : IsOctets p.rest

  pub first_read : ReadSound read spells → (octets : List ℕ) (p : Part) (v : A) → IsOctets octets
      → first 0 octets ≡ Ok p → read p ≡ Ok v → FirstRead octets p v
  first_read sound octets p v bytes e h =
      let w = first_sound 0 octets p bytes e in
      let whole = subst IsOctets w.octets_are bytes in
      let own = IsBytes-front p.octets p.rest whole in
      let content = IsBytes-front p.content (ending_of w.stands.count)
      (IsBytes-back w.stands.header (p.content ++ ending_of w.stands.count)
      (subst IsOctets w.stands.octets_are own)) in
      let shallow : p.depth ≤ 16 = omega (arith, w.depth_is, w.stands.shallow) in
      let s = sound v p shallow content own h in
      record {
        spelled = record {
          tag = p.tag;
          content = p.content;
          element = p.octets;
          stands = w.stands;
          spelled = subst (λ d. spells d p.tag p.content p.octets v) w.depth_is s;
          octets_are = w.octets_are;
        };
        rest_octets = IsBytes-back p.octets p.rest whole;
      }

  pub only_sound : ReadSound read spells → (octets : List ℕ) (v : A) → IsOctets octets → only_in read octets ≡ Ok v
      → SpellsOnly spells octets v
  only_sound sound octets v bytes e =
      let p = bind_ok (first 0 octets) (λ p. read p >>= λ x. ended p >>= λ _. Ok x) v e in
      let x = bind_ok (read p.0) (λ x. ended p.0 >>= λ _. Ok x) v p.2 in
      let n = bind_ok (ended p.0) (λ _. Ok x.0) v x.2 in
      let r = first_read sound octets p.0 x.0 bytes p.1 x.1 in
      let none = ended_so p.0 n.0 n.1 in
      subst (λ l. SpellsFirst spells octets v l) none
      (subst (λ y. SpellsFirst spells octets y p.0.rest) (ok_is x.0 v n.2) r.spelled)

  -- what is spelled at the front is read
  pub record ReadFirst (octets : List ℕ) (v : A) (rest : List ℕ) : Type 0 where
    pub part : Part
    pub found : first 0 octets ≡ Ok part
    pub value : read part ≡ Ok v
    pub rest_is : part.rest ≡ rest

  pub read_first : ReadFull read spells → (octets : List ℕ) (v : A) (rest : List ℕ) → SpellsFirst spells octets v rest
      → ReadFirst octets v rest
  read_first full octets v rest h =
      let lent = lent_part 0 (outermost h.tag) h.tag (length h.stands.header) h.content rest h.element in
      record {
        part = lent;
        found = ap (first 0) h.octets_are ∙ first_stands 0 h.tag h.content h.element rest h.stands;
        value = full v lent h.stands.shallow h.spelled;
        rest_is = refl;
      }

  pub only_full : ReadFull read spells → (octets : List ℕ) (v : A) → SpellsOnly spells octets v
      → only_in read octets ≡ Ok v
  only_full full octets v h =
      let r = read_first full octets v [] h in
      ap (λ r. r >>= λ p. read p >>= λ x. ended p >>= λ _. Ok x) r.found
      ∙ ap (λ x. x >>= λ x. ended r.part >>= λ _. Ok x) r.value
      ∙ ap (λ l. cond (is_empty l) (Ok tt) (fault r.part.at Trailing) >>= λ (_ : Unit {0}). Ok v) r.rest_is

  -- an element of a tag
  pub tagged_sound : (class number : ℕ) → ReadSound read spells
      → ReadSound (λ p. tagged class number p >>= λ _. read p) (Tagged class number spells)
  tagged_sound class number sound v p shallow octets own e =
      let t = bind_ok (tagged class number p) (λ _. read p) v e in
      let is = taken (is_tag class number p.tag) (Ok tt) _ t.0 t.1 in
      record { is_tag_of = is.0; spelled = sound v p shallow octets own t.2 }

  pub tagged_full : (class number : ℕ) → ReadFull read spells
      → ReadFull (λ p. tagged class number p >>= λ _. read p) (Tagged class number spells)
  tagged_full class number full v p shallow h =
      ap (λ b. cond b (Ok tt) (fault p.at BadTag) >>= λ (_ : Unit {0}). read p) h.is_tag_of ∙ full v p shallow h.spelled

string_sound : ReadSound joined SpellsString
string_sound o p shallow octets own e = joined_sound (own_number p.tag) p o shallow octets e

string_full : ReadFull joined SpellsString
string_full o p shallow h = joined_full (own_number p.tag) p o shallow h

pub rttr_sound : ReadSound rttr_in SpellsRttr
unfolding rttr_in
rttr_sound o p shallow octets own e = tagged_sound joined SpellsString 0 4 string_sound o p shallow octets own e

pub rttr_full : ReadFull rttr_in SpellsRttr
unfolding rttr_in
rttr_full o p shallow h = tagged_full joined SpellsString 0 4 string_full o p shallow h

pub rttp_sound : ReadSound rttp_in SpellsRttp
unfolding rttp_in
rttp_sound n p shallow octets own e =
    tagged_sound values.number_in SpellsNumber 0 2 number_sound n p shallow octets own e

pub rttp_full : ReadFull rttp_in SpellsRttp
unfolding rttp_in
rttp_full n p shallow h = tagged_full values.number_in SpellsNumber 0 2 number_full n p shallow h

pub name_sound : ReadSound name_in (Tagged 0 22 SpellsWord)
unfolding name_in
name_sound w p shallow octets own e = tagged_sound values.word_in SpellsWord 0 22 word_sound w p shallow octets own e

pub name_full : ReadFull name_in (Tagged 0 22 SpellsWord)
unfolding name_in
name_full w p shallow h = tagged_full values.word_in SpellsWord 0 22 word_full w p shallow h

pub tagged_reference_sound : ReadSound tagged_reference_in (Tagged 0 16 SpellsReference)
unfolding tagged_reference_in
tagged_reference_sound r p shallow octets own e =
    tagged_sound reference_in SpellsReference 0 16 reference_sound r p shallow octets own e

pub tagged_reference_full : ReadFull tagged_reference_in (Tagged 0 16 SpellsReference)
unfolding tagged_reference_in
tagged_reference_full r p shallow h = tagged_full reference_in SpellsReference 0 16 reference_full r p shallow h

-- ---- bodies of one size

-- four octets are those of their number
pub record IsFour (a b c d : ℕ) : Type 0 where
  pub small : from_be_bytes w32 (a ∷ b ∷ c ∷ d ∷ []) < 2 ^ 32
  pub octets_are : a ∷ b ∷ c ∷ d ∷ [] ≡ number_octets (from_be_bytes w32 (a ∷ b ∷ c ∷ d ∷ []))

pub four : (a b c d : ℕ) (rest : List ℕ) → IsOctets (a ∷ b ∷ c ∷ d ∷ rest) → IsFour a b c d
four a b c d rest bytes =
    let first : a < 256 = bytes 0 in
    let second : b < 256 = bytes 1 in
    let third : c < 256 = bytes 2 in
    let fourth : d < 256 = bytes 3 in
    record {
      small = omega arith;
      octets_are = sym (be_bytes_4 (a ∷ b ∷ c ∷ d ∷ []) (from_be_bytes w32 (a ∷ b ∷ c ∷ d ∷ [])) refl
          (IsBytes-front (a ∷ b ∷ c ∷ d ∷ []) rest bytes) refl);
    }

pub number_so : (n : ℕ) (body : List ℕ) → IsOctets body → number_in body ≡ Ok n → IsNumber n body
number_so n [] bytes e = absurd cc
number_so n (a ∷ []) bytes e = absurd cc
number_so n (a ∷ b ∷ []) bytes e = absurd cc
number_so n (a ∷ b ∷ c ∷ []) bytes e = absurd cc
number_so n (a ∷ b ∷ c ∷ d ∷ []) bytes e =
    let f = four a b c d [] bytes in
    subst (λ m. IsNumber m (a ∷ b ∷ c ∷ d ∷ [])) (ok_is (from_be_bytes w32 (a ∷ b ∷ c ∷ d ∷ [])) n e)
    (record { small = f.small; octets_are = f.octets_are })
number_so n (a ∷ b ∷ c ∷ d ∷ x ∷ xs) bytes e = absurd cc

pub number_again : (n : ℕ) (body : List ℕ) → IsNumber n body → number_in body ≡ Ok n
number_again n body h = ap number_in h.octets_are ∙ ap (λ (m : ℕ). Ok m) (from_be_bytes-to_be_bytes_4 n h.small)

pub pair_so : (n : ℕ × ℕ) (body : List ℕ) → IsOctets body → pair_in body ≡ Ok n → IsPair n.0 n.1 body
pair_so n [] bytes e = absurd cc
pair_so n (a ∷ []) bytes e = absurd cc
pair_so n (a ∷ b ∷ []) bytes e = absurd cc
pair_so n (a ∷ b ∷ c ∷ []) bytes e = absurd cc
pair_so n (a ∷ b ∷ c ∷ d ∷ rest) bytes e =
    let f = four a b c d rest bytes in
    let r = bind_ok (number_in rest) (λ m. Ok (from_be_bytes w32 (a ∷ b ∷ c ∷ d ∷ []), m)) n e in
    let s = number_so r.0 rest (IsBytes-back (a ∷ b ∷ c ∷ d ∷ []) rest bytes) r.1 in
    subst (λ (m : ℕ × ℕ). IsPair m.0 m.1 (a ∷ b ∷ c ∷ d ∷ rest))
    (ok_is (from_be_bytes w32 (a ∷ b ∷ c ∷ d ∷ []), r.0) n r.2) (record {
      first_small = f.small;
      second_small = s.small;
      octets_are = ap (λ l. l ++ rest) f.octets_are
          ∙ ap (λ l. number_octets (from_be_bytes w32 (a ∷ b ∷ c ∷ d ∷ [])) ++ l) s.octets_are;
    })

pub pair_again : (n m : ℕ) (body : List ℕ) → IsPair n m body → pair_in body ≡ Ok (n, m)
pair_again n m body h =
    ap pair_in h.octets_are
    ∙ ap (λ r. r >>= λ m. Ok (from_be_bytes w32 (number_octets n), m))
    (number_again m (number_octets m) (record { small = h.second_small; octets_are = refl }))
    ∙ ap (λ (k : ℕ). Ok (k, m)) (from_be_bytes-to_be_bytes_4 n h.first_small)

pub exception_so : (n : ℕ × ℕ) (body : List ℕ) → IsOctets body → exception_in body ≡ Ok n → IsException n.0 n.1 body
exception_so n [] bytes e = absurd cc
exception_so n (k ∷ rest) bytes e =
    let t = passed (ltb k 1 || ltb 12 k) _ (number_in rest >>= λ m. Ok (k, m)) n e in
    let o = or_false (ltb k 1) (ltb 12 k) t.0 in
    let r = bind_ok (number_in rest) (λ m. Ok (k, m)) n t.1 in
    let s = number_so r.0 rest (IsBytes-back (k ∷ []) rest bytes) r.1 in
    subst (λ (m : ℕ × ℕ). IsException m.0 m.1 (k ∷ rest)) (ok_is (k, r.0) n r.2) (record {
      is_fault = record { first = ltb-false k 1 o.0; last = ltb-false 12 k o.1 };
      small = s.small;
      octets_are = ap (λ l. k ∷ l) s.octets_are;
    })

no_test : (a b : Bool) → a ≡ false → b ≡ false → (a || b) ≡ false
no_test a b e h = rw (e, h) refl

pub exception_again : (k n : ℕ) (body : List ℕ) → IsException k n body → exception_in body ≡ Ok (k, n)
exception_again k n body h =
    ap exception_in h.octets_are
    ∙ pass _ (no_test (ltb k 1) (ltb 12 k) (le-ltb k 1 h.is_fault.first) (le-ltb 12 k h.is_fault.last)) refl
    ∙ ap (λ r. r >>= λ m. Ok (k, m)) (number_again n (number_octets n) (record { small = h.small; octets_are = refl }))

pub nothing_so : (body : List ℕ) (u : Unit {0}) → nothing_in body ≡ Ok u → body ≡ []
nothing_so [] u e = refl
nothing_so (b ∷ bs) u e = absurd cc
