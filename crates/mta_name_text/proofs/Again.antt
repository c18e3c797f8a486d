-- A text form is read as the parts that it is made of, and a text that is none is refused at the first octet at which
-- none goes on.
use Rattle.std.proofs.Common.{◌≡◌, ◌≤◌, ◌<◌, suc, length, take, drop, arith, ℕ, ◌+◌, Bool, true, false, eqb, List, []}
use Rattle.std.proofs.Common.{◌∷◌, ◌++◌, Some, Result, Ok, Err, refl, sym, ap, subst, ◌∙◌, append_assoc, append-nil}
use Rattle.std.proofs.Common.{inl, inr}
use Rattle.std.specs.Prelude.{map}
use Rattle.std.proofs.lemmas.Bool.{cases_order}
use Rattle.std.proofs.lemmas.List.{take-append-drop, take-take}
use Rattle.mta_name_text.specs.declared.draft.Draft.{Draft}
use Rattle.mta_name_text.specs.declared.draft.Stage.TheVariants.{Front, Kind, Value}
use Rattle.mta_name_text.specs.declared.key.Key.{Key}
use Rattle.mta_name_text.specs.declared.part.Part.{Part}
use Rattle.mta_name_text.specs.declared.place.Grammar.{Grammar}
use Rattle.mta_name_text.specs.declared.place.Grammar.TheVariants.{Names, Patterns}
use Rattle.mta_name_text.specs.declared.place.Place.{Place}
use Rattle.mta_name_text.specs.declared.shape.Shape.TheVariants as Shapes
use Rattle.mta_name_text.specs.Forms.{key_text, part_text, joined}
use Rattle.mta_name_text.specs.Grammar.{start, behind, follows, is_kind, IsPart, Follow, IsForm, IsBegun, IsFirstFault}
use Rattle.mta_name_text.specs.Keys.{lead, has_kind, shape_of}
use Rattle.mta_name_text.specs.Shapes.{is_value, is_begun}
use Rattle.mta_name_text.specs.Reading.{is_front, draft, nothing_read, opened_as, opened, front_read, step_front}
use Rattle.mta_name_text.specs.Reading.{step_kind, step_value, step, finish, read_on, parts_of_text}
use Rattle.mta_name_text.proofs.KeyLaws.{key_sound, key_front, lead_front, named_lead, lead_some, tail_of, lead_tail}
use Rattle.mta_name_text.proofs.ShapeLaws.{value_begun, begun_front, no_semicolon, no_equals}
use Rattle.mta_name_text.proofs.Drafts.{IsDraft, read_found, read_stops}

-- what is read here is what is read from a later place on
pub record Goes (g : Grammar) (at : ℕ) (d : Draft) (text : List ℕ) (e : Draft) (rest : List ℕ) : Type 0 where
  pub later : ℕ
  pub same : read_on g at d text ≡ read_on g later e rest

goes_on : (g : Grammar) (at mid : ℕ) (d e f : Draft) (text more rest : List ℕ)
    → read_on g at d text ≡ read_on g mid e more → Goes g mid e more f rest → Goes g at d text f rest
goes_on g at mid d e f text more rest h r = record { later = r.later; same = h ∙ r.same }

-- ---- values, types and keys

value_goes : (g : Grammar) (ps : List Part) (p : Place) (k : Key) (t w : List ℕ) (at : ℕ) (v rest : List ℕ)
    → is_begun (shape_of k) (v ++ w) ≡ true
    → Goes g at (draft ps p (Value k t v)) (w ++ rest) (draft ps p (Value k t (v ++ w))) rest
unfolding step step_value
value_goes g ps p k t [] at v rest h =
    record { later = at; same = ap (λ x. read_on g at (draft ps p (Value k t x)) rest) (sym (append-nil v)) }
value_goes g ps p k t (c ∷ w) at v rest h =
    let together : (v ++ c ∷ []) ++ w ≡ v ++ c ∷ w = append_assoc v (c ∷ []) w in
    let whole : is_begun (shape_of k) ((v ++ c ∷ []) ++ w) ≡ true = ap (is_begun (shape_of k)) together ∙ h in
    let one : is_begun (shape_of k) (v ++ c ∷ []) ≡ true = begun_front (shape_of k) (v ++ c ∷ []) w whole in
    let other : eqb c 59 ≡ false = no_semicolon (shape_of k) v c (key_sound k) one in
    let r = value_goes g ps p k t w (at + 1) (v ++ c ∷ []) rest whole in
    record {
      later = r.later;
      same =
          rw (other, one) (r.same ∙ ap (λ x. read_on g r.later (draft ps p (Value k t x)) rest) together);
    }

kind_goes : (g : Grammar) (ps : List Part) (p : Place) (k : Key) (w : List ℕ) (at : ℕ) (t rest : List ℕ)
    → is_begun Shapes.Kind (t ++ w) ≡ true
    → Goes g at (draft ps p (Kind k t)) (w ++ rest) (draft ps p (Kind k (t ++ w))) rest
unfolding step step_kind
kind_goes g ps p k [] at t rest h =
    record { later = at; same = ap (λ x. read_on g at (draft ps p (Kind k x)) rest) (sym (append-nil t)) }
kind_goes g ps p k (c ∷ w) at t rest h =
    let together : (t ++ c ∷ []) ++ w ≡ t ++ c ∷ w = append_assoc t (c ∷ []) w in
    let whole : is_begun Shapes.Kind ((t ++ c ∷ []) ++ w) ≡ true = ap (is_begun Shapes.Kind) together ∙ h in
    let one : is_begun Shapes.Kind (t ++ c ∷ []) ≡ true = begun_front Shapes.Kind (t ++ c ∷ []) w whole in
    let other : eqb c 61 ≡ false = no_equals t c one in
    let r = kind_goes g ps p k w (at + 1) (t ++ c ∷ []) rest whole in
    record {
      later = r.later;
      same =
          rw (other, one) (r.same ∙ ap (λ x. read_on g r.later (draft ps p (Kind k x)) rest) together);
    }

lead_read : (g : Grammar) (ps : List Part) (p : Place) (k : Key) → follows g p k ≡ true
    → front_read g ps p (lead k) ≡ Some (draft ps p (opened k))
lead_read g ps p k f = rw (lead_front g p k, named_lead k) (rw f refl)

more_read : (g : Grammar) (ps : List Part) (p : Place) (front : List ℕ) → is_front g p front ≡ true
    → front_read g ps p front ≡ Some (draft ps p (Front front))
more_read g ps p front e = rw e refl

key_goes : (g : Grammar) (ps : List Part) (p : Place) (k : Key) (w : List ℕ) (at : ℕ) (front : List ℕ) (c : ℕ)
    (rest : List ℕ) → lead k ≡ front ++ c ∷ w → follows g p k ≡ true
    → Goes g at (draft ps p (Front front)) (c ∷ w ++ rest) (draft ps p (opened k)) rest
unfolding step step_front
key_goes g ps p k [] at front c rest e f =
    let r : front_read g ps p (front ++ c ∷ []) ≡ Some (draft ps p (opened k)) = ap (front_read g ps p) (sym e)
    ∙ lead_read g ps p k f in
    record { later = at + 1; same = rw r refl }
key_goes g ps p k (d ∷ w) at front c rest e f =
    let together : lead k ≡ (front ++ c ∷ []) ++ d ∷ w = e ∙ sym (append_assoc front (c ∷ []) (d ∷ w)) in
    let r = more_read g ps p (front ++ c ∷ []) (key_front g p (front ++ c ∷ []) k d w together f) in
    let s = key_goes g ps p k w (at + 1) (front ++ c ∷ []) d rest together f in
    record { later = s.later; same = rw r s.same }

lead_goes : (g : Grammar) (ps : List Part) (p : Place) (k : Key) (at : ℕ) (rest : List ℕ) → follows g p k ≡ true
    → Goes g at (draft ps p (Front [])) (lead k ++ rest) (draft ps p (opened k)) rest
lead_goes g ps p k at rest f =
    let l = lead_some k in
    let r = key_goes g ps p k l.1 at [] l.0 rest l.2 f in
    record { later = r.later; same = ap (λ x. read_on g at (draft ps p (Front [])) (x ++ rest)) l.2 ∙ r.same }

-- ---- a part

kind_ends : (g : Grammar) (ps : List Part) (p : Place) (k : Key) (t : List ℕ) (at : ℕ) (rest : List ℕ)
    → is_value Shapes.Kind t ≡ true → read_on g at (draft ps p (Kind k t)) (61 ∷ rest) ≡ read_on g (at + 1)
    (draft ps p (Value k t [])) rest
unfolding step step_kind
kind_ends g ps p k t at rest h = rw h refl

tail_goes : (g : Grammar) (ps : List Part) (p : Place) (k : Key) (t v : List ℕ) (b : Bool) (at : ℕ) (rest : List ℕ)
    → is_kind b t ≡ true → is_value (shape_of k) v ≡ true
    → Goes g at (draft ps p (opened_as b k)) (tail_of b t v ++ rest) (draft ps p (Value k t v)) rest
tail_goes g ps p k t v true at rest h i =
    let a = kind_goes g ps p k t at [] (61 ∷ v ++ rest) (value_begun Shapes.Kind t h) in
    let b = kind_ends g ps p k t a.later (v ++ rest) h in
    let c = value_goes g ps p k t v (a.later + 1) [] rest (value_begun (shape_of k) v i) in
    record {
      later = c.later;
      same = ap (read_on g at (draft ps p (Kind k []))) (append_assoc t (61 ∷ v) rest) ∙ a.same
          ∙ b ∙ c.same;
    }
tail_goes g ps p k [] v false at rest h i = value_goes g ps p k [] v at [] rest (value_begun (shape_of k) v i)
tail_goes g ps p k (c ∷ t) v false at rest h i = absurd cc

part_goes : (g : Grammar) (ps : List Part) (p : Place) (x : Part) (at : ℕ) (rest : List ℕ) → follows g p x.key ≡ true
    → IsPart x
    → Goes g at (draft ps p (Front [])) (part_text x ++ rest) (draft ps p (Value x.key x.kind x.value)) rest
part_goes g ps p x at rest f i =
    let tail = tail_of (has_kind x.key) x.kind x.value in
    let a = lead_goes g ps p x.key at (tail ++ rest) f in
    let b = tail_goes g ps p x.key x.kind x.value (has_kind x.key) a.later rest i.kind i.value in
    let split : part_text x ++ rest ≡ lead x.key ++ (tail ++ rest) =
    ap (λ y. y ++ rest) (lead_tail (has_kind x.key) (key_text x.key) x.kind x.value i.kind)
    ∙ append_assoc (lead x.key) tail rest in
    record { later = b.later; same = ap (read_on g at (draft ps p (Front []))) split ∙ a.same ∙ b.same }

value_ends : (g : Grammar) (ps : List Part) (p : Place) (x : Part) (at : ℕ) (rest : List ℕ)
    → is_value (shape_of x.key) x.value ≡ true → is_front g (behind p x.key) [] ≡ true
    → read_on g at (draft ps p (Value x.key x.kind x.value)) (59 ∷ rest) ≡ read_on g (at + 1)
    (draft (ps ++ x ∷ []) (behind p x.key) (Front [])) rest
unfolding step step_value
value_ends g ps p x at rest h f = rw (h, f) refl

text_ends : (g : Grammar) (ps : List Part) (p : Place) (x : Part) (at : ℕ) → is_value (shape_of x.key) x.value ≡ true
    → read_on g at (draft ps p (Value x.key x.kind x.value)) [] ≡ Ok (ps ++ x ∷ [])
unfolding finish
text_ends g ps p x at h = rw h refl

-- some key may stand where one does
key_there : (g : Grammar) (p : Place) (k : Key) → follows g p k ≡ true → is_front g p [] ≡ true
key_there g p k f = let l = lead_some k in key_front g p [] k l.0 l.1 l.2 f

-- ---- all parts

abbrev ok : List Part → Result (List Part) ℕ
ok ps = Ok ps

form_goes : (g : Grammar) (xs : List Part) (x : Part) (ps : List Part) (p q : Place) (at : ℕ) → Follow g p (x ∷ xs) q
    → read_on g at (draft ps p (Front [])) (joined (map part_text (x ∷ xs))) ≡ ok (ps ++ x ∷ xs)
form_goes g [] x ps p q at h =
    let a = part_goes g ps p x at [] h.0 h.1 in
    a.same ∙ text_ends g ps p x a.later h.1.value
form_goes g (y ∷ xs) x ps p q at h =
    let rest = joined (map part_text (y ∷ xs)) in
    let a = part_goes g ps p x at (59 ∷ rest) h.0 h.1 in
    let b = value_ends g ps p x a.later rest h.1.value (key_there g (behind p x.key) y.key h.2.0) in
    let c = form_goes g xs y (ps ++ x ∷ []) (behind p x.key) q (a.later + 1) h.2 in
    a.same ∙ b ∙ c ∙ ap ok (append_assoc ps (x ∷ []) (y ∷ xs))

parts_again_of : (g : Grammar) (parts : List Part) (q : Place) → Follow g start parts q → 1 ≤ length parts
    → read_on g 0 nothing_read (joined (map part_text parts)) ≡ ok parts
parts_again_of g [] q h l = absurd (omega arith)
parts_again_of g (x ∷ xs) q h l = form_goes g xs x [] start q 0 h

pub form_read : (g : Grammar) (text : List ℕ) (parts : List Part) → IsForm g text parts
    → parts_of_text g text ≡ Ok parts
unfolding parts_of_text
form_read g text parts h = ap (read_on g 0 nothing_read) h.text_is ∙ parts_again_of g parts h.last h.follow h.some

-- ---- what is read, and what is refused

first_key : (g : Grammar) → is_front g start [] ≡ true
unfolding is_front
first_key Names = refl
first_key Patterns = refl

started : (g : Grammar) → IsDraft g nothing_read
started g = record { follow = refl; awaits = first_key g }

pub parts_found : (g : Grammar) (text : List ℕ) (parts : List Part) → parts_of_text g text ≡ Ok parts
    → IsForm g text parts
unfolding parts_of_text
parts_found g text parts r = read_found g parts text 0 nothing_read (started g) r

abbrev err : ℕ → Result (List Part) ℕ
err k = Err k

ok_err : (ps : List Part) (k : ℕ) → ok ps ≡ err k → ⊥
ok_err ps k e = cc

pub first_fault : (g : Grammar) (text : List ℕ) (at : ℕ) → parts_of_text g text ≡ Err at → IsFirstFault g text at
unfolding parts_of_text
first_fault g text at r =
    let s = read_stops g text 0 nothing_read at (started g) r in
    let same : s.more ≡ at = (let e = s.stop_is in omega arith) in
    record {
      none = λ ps h. ok_err ps at (sym (form_read g text ps h) ∙ r);
      within = subst (λ k. k ≤ length text) same s.inside;
      begun = subst (λ k. IsBegun g (take k text)) same s.begun;
      stops = λ l b. (
          let stuck = s.stuck (subst (λ k. k < length text) (sym same) l) b.rest in
          let read : read_on g 0 nothing_read (take (suc at) text ++ b.rest) ≡ ok b.parts =
          form_read g (take (suc at) text ++ b.rest) b.parts b.form in
          ok_err b.parts at (sym read ∙ subst (λ k. read_on g 0 nothing_read (take (suc k) text ++ b.rest) ≡ err at)
          same stuck));
    }

-- what begins what is begun is begun
begun_before : (g : Grammar) (text : List ℕ) (k m : ℕ) → k ≤ m → IsBegun g (take m text) → IsBegun g (take k text)
begun_before g text k m l b =
    let split : take m text ≡ take k text ++ drop k (take m text) = sym (take-append-drop k (take m text))
    ∙ ap (λ x. x ++ drop k (take m text)) (take-take k m text l) in
    record {
      rest = drop k (take m text) ++ b.rest;
      parts = b.parts;
      form = subst (λ t. IsForm g t b.parts)
          (ap (λ x. x ++ b.rest) split ∙ append_assoc (take k text) (drop k (take m text)) b.rest) b.form;
    }

not_before : (g : Grammar) (text : List ℕ) (m n : ℕ) → IsFirstFault g text m → IsFirstFault g text n → m < n → ⊥
not_before g text m n f h l =
    let inside : m < length text = (let w = h.within in omega arith) in
    f.stops inside (begun_before g text (suc m) n (omega arith) h.begun)

one_fault : (g : Grammar) (text : List ℕ) (m n : ℕ) → IsFirstFault g text m → IsFirstFault g text n → m ≡ n
one_fault g text m n f h =
    elim (cases_order m n) [
      | inl same ↦ same
      | inr (inl l) ↦ absurd (not_before g text m n f h l)
      | inr (inr l) ↦ absurd (not_before g text n m h f l)
    ]

fault_of : (g : Grammar) (text : List ℕ) (at : ℕ) (r : Result (List Part) ℕ) → parts_of_text g text ≡ r
    → IsFirstFault g text at → r ≡ Err at
fault_of g text at (Ok n) e f = absurd (f.none n (parts_found g text n e))
fault_of g text at (Err k) e f = ap err (one_fault g text k at (first_fault g text k e) f)

pub fault_read : (g : Grammar) (text : List ℕ) (at : ℕ) → IsFirstFault g text at → parts_of_text g text ≡ Err at
fault_read g text at f = fault_of g text at (parts_of_text g text) refl f
