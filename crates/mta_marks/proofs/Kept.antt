-- What is kept of entries, mark by mark.
use Rattle.std.proofs.Common.{◌≡◌, ◌&&◌, ℕ, Bool, true, false, cond, eqb, List, [], ◌∷◌, ◌++◌, map, Option, Some, None}
use Rattle.std.proofs.Common.{refl, sym, ap, subst, ◌∙◌, append_assoc}
use Rattle.std.specs.Prelude.{nat_eq}
use Rattle.std.specs.Cmp.Lexicographic.{bytes_decides, pointwise}
use Rattle.std.specs.Map.{lookup}
use Rattle.std.specs.Str.{bytes_eq}
use Rattle.std.proofs.lemmas.Bool.{and_parts, and_from, eq-eqb, eqb-true}
use Rattle.std.proofs.lemmas.List.{append-nil}
use Rattle.indexmap.specs.IndexMap.{insert_entry}
use Rattle.mta_marks.specs.declared.mark.Mark.{Mark}
use Rattle.mta_marks.specs.declared.mark.Standing.{Standing}
use Rattle.mta_marks.specs.declared.mark.Standing.TheVariants as Stand
use Rattle.mta_marks.specs.Marks.{Allows, AreMarksBehind, IsEntry, IsMark, IsPossible, entry_octets, is_of, standing}
use Rattle.mta_marks.specs.Marks.{standing_by, standing_from}
use Rattle.mta_marks.specs.Standings.{Changes, Knows, kept, look, look_at}
use Rattle.mta_marks.proofs.Entries.{entry_same}

-- ---- tests of octets

pub bytes_same : (a b : List ℕ) → bytes_eq a b ≡ true → a ≡ b
bytes_same a b e = (bytes_decides a b).0 e

pub bytes_true : (a b : List ℕ) → a ≡ b → bytes_eq a b ≡ true
bytes_true a b e = (bytes_decides a b).1 e

not_true : (b : Bool) → (b ≡ true → ⊥) → b ≡ false
not_true true never = absurd (never refl)
not_true false never = refl

pub bytes_false : (a b : List ℕ) → (a ≡ b → ⊥) → bytes_eq a b ≡ false
bytes_false a b never = not_true (bytes_eq a b) (λ e. never (bytes_same a b e))

bytes_flip : (a b : List ℕ) → bytes_eq a b ≡ bytes_eq b a
bytes_flip a b = by (bytes_eq b a) refl
  where
    by : (t : Bool) → bytes_eq b a ≡ t → bytes_eq a b ≡ t
    by true e = bytes_true a b (sym (bytes_same b a e))
    by false e = not_true (bytes_eq a b)
        (λ other. let same = bytes_true b a (sym (bytes_same a b other)) in
        let wrong : true ≡ false = sym same ∙ e in cc)

-- ---- the map by octets

module _ {K : Type 0} (f : K → List ℕ) where
  abbrev shown : K × Standing → List ℕ × Standing
  shown e = (f e.0, e.1)

  abbrev found : List ℕ → List (K × Standing) → Option Standing
  found w es = lookup (λ (j : K). bytes_eq w (f j)) es

  look_found : (w : List ℕ) (es : List (K × Standing)) → lookup (bytes_eq w) (map shown es) ≡ found w es
  look_found w [] = refl
  look_found w (e ∷ es) = ap (λ (o : Option Standing). cond (bytes_eq w (f e.0)) (Some e.1) o) (look_found w es)

  -- what is kept of an entry that was found or not
  pub look_is : (w : List ℕ) (es : List (K × Standing)) (v : List (List ℕ × Standing)) → map shown es ≡ v
      → (o : Option Standing) → o ≡ found w es → kept o ≡ look v w
  look_is w es v is o e =
      ap kept (e ∙ sym (look_found w es)) ∙ ap (λ (x : List (List ℕ × Standing)). look x w) is

  abbrev put : List (K × Standing) → K → Standing → List (K × Standing)
  put es k s = insert_entry (λ (a b : K). bytes_eq (f a) (f b)) es k s

  put_found : (w : List ℕ) (es : List (K × Standing)) (k : K) (s : Standing)
      → found w (put es k s) ≡ cond (bytes_eq (f k) w) (Some s) (found w es)
  put_found w [] k s = ap (λ (b : Bool). cond b (Some s) None) (bytes_flip w (f k))
  put_found w (e ∷ es) k s = by_key (bytes_eq (f k) (f e.0)) refl (put_found w es k s)
    where
      both : (t : Bool) → cond t (Some s) (found w es) ≡ cond t (Some s) (cond t (Some e.1) (found w es))
      both true = refl
      both false = refl

      apart : (t u : Bool) → bytes_eq w (f e.0) ≡ t → bytes_eq (f k) w ≡ u → bytes_eq (f k) (f e.0) ≡ false
          → cond t (Some e.1) (cond u (Some s) (found w es)) ≡ cond u (Some s) (cond t (Some e.1) (found w es))
      apart true true p q never =
          let same = bytes_true (f k) (f e.0) (bytes_same (f k) w q ∙ bytes_same w (f e.0) p) in
          let wrong : true ≡ false = sym same ∙ never in cc
      apart true false p q never = refl
      apart false true p q never = refl
      apart false false p q never = refl

      by_key : (b : Bool) → bytes_eq (f k) (f e.0) ≡ b
          → found w (put es k s) ≡ cond (bytes_eq (f k) w) (Some s) (found w es)
          → found w (cond b ((e.0, s) ∷ es) (e ∷ put es k s))
          ≡ cond (bytes_eq (f k) w) (Some s) (cond (bytes_eq w (f e.0)) (Some e.1) (found w es))
      by_key true is behind =
          let same : bytes_eq w (f e.0) ≡ bytes_eq (f k) w =
          ap (bytes_eq w) (sym (bytes_same (f k) (f e.0) is)) ∙ bytes_flip w (f k) in
          ap (λ (t : Bool). cond t (Some s) (found w es)) same
          ∙ both (bytes_eq (f k) w)
          ∙ ap (λ (t : Bool). cond (bytes_eq (f k) w) (Some s) (cond t (Some e.1) (found w es))) (sym same)
      by_key false is behind =
          ap (λ (o : Option Standing). cond (bytes_eq w (f e.0)) (Some e.1) o) behind
          ∙ apart (bytes_eq w (f e.0)) (bytes_eq (f k) w) refl refl is

  kept_cond : (b : Bool) (s : Standing) (o : Option Standing) → kept (cond b (Some s) o) ≡ cond b s (kept o)
  kept_cond true s o = refl
  kept_cond false s o = refl

  -- a mark is put
  pub put_changes : (es new : List (K × Standing)) (v : List (List ℕ × Standing)) (k : K) (m : Mark)
      → map shown es ≡ v → f k ≡ entry_octets m.mailbox m.number → (s : Standing) → s ≡ standing_by m.kind
      → new ≡ put es k s → Changes m v (map shown new)
  put_changes es new v k m is key s by e octets =
      ap kept (look_found octets new ∙ ap (found octets) e ∙ put_found octets es k s)
      ∙ kept_cond (bytes_eq (f k) octets) s (found octets es)
      ∙ ap (λ (w : List ℕ). cond (bytes_eq w octets) s (kept (found octets es))) key
      ∙ ap (λ (x : Standing). cond (bytes_eq (entry_octets m.mailbox m.number) octets) x (kept (found octets es))) by
      ∙ ap (cond (bytes_eq (entry_octets m.mailbox m.number) octets) (standing_by m.kind))
      (look_is octets es v is (found octets es) refl)

-- ---- what became of an entry by one mark more

standing_more : (s : Standing) (marks : List Mark) (m : Mark) (mailbox : List ℕ) (number : ℕ)
    → standing_from s (marks ++ m ∷ []) mailbox number
    ≡ cond (is_of mailbox number m) (standing_by m.kind) (standing_from s marks mailbox number)
standing_more s [] m mailbox number = refl
standing_more s (x ∷ marks) m mailbox number =
    standing_more (cond (is_of mailbox number x) (standing_by x.kind) s) marks m mailbox number

-- the octets of two entries are the same where they are one
octets_of : (mailbox : List ℕ) (number : ℕ) (m : Mark) → IsMark m → IsEntry mailbox number
    → bytes_eq (entry_octets m.mailbox m.number) (entry_octets mailbox number) ≡ is_of mailbox number m
octets_of mailbox number m mark entry = by (is_of mailbox number m) refl
  where
    by : (b : Bool) → is_of mailbox number m ≡ b
        → bytes_eq (entry_octets m.mailbox m.number) (entry_octets mailbox number) ≡ b
    by true e =
        let parts = and_parts (bytes_eq m.mailbox mailbox) (eqb m.number number) e in
        bytes_true (entry_octets m.mailbox m.number) (entry_octets mailbox number)
        (ap (λ (x : List ℕ). entry_octets x m.number) (bytes_same m.mailbox mailbox parts.0)
        ∙ ap (entry_octets mailbox) (eqb-true m.number number parts.1))
    by false e =
        bytes_false (entry_octets m.mailbox m.number) (entry_octets mailbox number)
        (λ same. let parts = entry_same m.mailbox mailbox m.number number mark entry same in
        let is : is_of mailbox number m ≡ true =
        and_from (bytes_eq m.mailbox mailbox) (eqb m.number number) (bytes_true m.mailbox mailbox parts.0)
        (eq-eqb m.number number parts.1) in
        let wrong : true ≡ false = sym is ∙ e in cc)

pub knows_none : Knows [] []
knows_none mailbox number entry = refl

pub knows_more : (old new : List (List ℕ × Standing)) (marks : List Mark) (m : Mark) → IsMark m → Knows old marks
    → Changes m old new → Knows new (marks ++ m ∷ [])
knows_more old new marks m mark knows changes mailbox number entry =
    changes (entry_octets mailbox number)
    ∙ ap (λ (b : Bool). cond b (standing_by m.kind) (look old (entry_octets mailbox number)))
    (octets_of mailbox number m mark entry)
    ∙ ap (cond (is_of mailbox number m) (standing_by m.kind)) (knows mailbox number entry)
    ∙ sym (standing_more Stand.New marks m mailbox number)

-- a mark is allowed by what is kept of its entry exactly where it is possible
pub allowed : (entries : List (List ℕ × Standing)) (marks : List Mark) (m : Mark) → IsMark m → Knows entries marks
    → Allows (look_at entries m) m.kind → IsPossible marks m
allowed entries marks m mark knows =
    subst (λ (s : Standing). Allows s m.kind) (knows m.mailbox m.number mark)

pub possible : (entries : List (List ℕ × Standing)) (marks : List Mark) (m : Mark) → IsMark m → Knows entries marks
    → IsPossible marks m → Allows (look_at entries m) m.kind
possible entries marks m mark knows =
    subst (λ (s : Standing). Allows s m.kind) (sym (knows m.mailbox m.number mark))

-- ---- one mark more

pub are_more : (before marks : List Mark) (m : Mark) → AreMarksBehind before marks → IsMark m
    → IsPossible (before ++ marks) m → AreMarksBehind before (marks ++ m ∷ [])
are_more before [] m are mark can =
    (mark, (subst (λ (ms : List Mark). IsPossible ms m) (append-nil before) can, tt))
are_more before (x ∷ marks) m are mark can = (
  are.0,
  (
    are.1.0,
    are_more (before ++ x ∷ []) marks m are.1.1 mark
        (subst (λ (ms : List Mark). IsPossible ms m) (sym (append_assoc before (x ∷ []) marks)) can),
  ),
)
