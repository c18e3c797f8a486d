-- What a reader of an explicit tag and of a SEQUENCE's component answers.
use Rattle.std.proofs.Common.{◌≡◌, ℕ, ◌+◌, ◌≤◌, ◌<◌, Bool, true, false, cond, ltb, leb, List, [], ◌∷◌, ◌++◌, length}
use Rattle.std.proofs.Common.{Result, Ok, Err, refl, sym, ap, subst, ◌∙◌, arith}
use Rattle.std.specs.Prelude.{◌&&◌}
use Rattle.std.proofs.lemmas.Bool.{ltb-true, leb-true, lt-ltb, le-leb}
use Rattle.std.proofs.lemmas.List.{append-nil}
use Rattle.mta_ber.specs.declared.fault.Fault.{Fault}
use Rattle.mta_ber.specs.declared.fault.Kind.TheVariants.{BadTag}
use Rattle.mta_ber.specs.Head.{◌>>=◌, fault}
use Rattle.mta_ber.specs.Element.{Part, part, inner, nothing_at, alone, explicit}
use Rattle.mta_ber.specs.Parts.{in_order}
use Rattle.mta_ber.specs.Octet.{IsOctets}
use Rattle.mta_ber.specs.Spelling.{Stands, ending_of}
use Rattle.mta_ber.specs.Explicit.{Spells, SpellsExplicit}
use Rattle.mta_ber.proofs.HeadLaws.{and_true}
use Rattle.mta_ber.proofs.RowLaws.{part_sound, stands_again, lent_part, IsBytes-back}
use Rattle.mta_ber.proofs.StringLaws.{IsBytes-front}
use Rattle.mta_ber.proofs.Steps.{bind_ok, taken, ok_is}

-- ---- a component of a SEQUENCE

abbrev allowed : Bool → ℕ → Result (Unit {0}) Fault
allowed b at = cond b (Ok tt) (fault at BadTag)

pub placed_in_order : {A S : Type 0} (last needed place at : ℕ) (read : Result A Fault) (put : A → S) (t : S)
    → (in_order last needed place at read >>= λ x. Ok (put x)) ≡ Ok t
    → (x : A) × (last < place) × (needed ≤ last) × (read ≡ Ok x) × (put x ≡ t)
placed_in_order {A} {S} last needed place at read put t e = go (ltb last place && leb needed last) refl read e
  where
    go : (b : Bool) → (ltb last place && leb needed last) ≡ b → (r : Result A Fault)
        → ((allowed b at >>= λ _. r) >>= λ x. Ok (put x)) ≡ Ok t → (x : A) × (last < place) × (needed ≤ last)
        × (r ≡ Ok x) × (put x ≡ t)
    go true is (Ok x) e = let a = and_true (ltb last place) (leb needed last) is in
        (x, ltb-true last place a.0, leb-true needed last a.1, refl, ok_is (put x) t e)
    go true is (Err f) e = absurd cc
    go false is r e = absurd cc

pub in_order_full : {A : Type 0} (last needed place at : ℕ) (read : Result A Fault) → last < place → needed ≤ last
    → in_order last needed place at read ≡ read
in_order_full last needed place at read lt le = rw (lt-ltb last place lt, le-leb needed last le) refl

-- ---- an explicit tag

module _ {A : Type 0} (read : Part → Result A Fault) (spells : Spells A) where
  abbrev pub ReadSound : Type 0
  ReadSound = (x : A) (p : Part) → p.depth ≤ 16 → IsOctets p.content → IsOctets p.octets → read p ≡ Ok x
      → spells p.depth p.tag p.content p.octets x

  abbrev pub ReadFull : Type 0
  ReadFull = (x : A) (p : Part) → p.depth ≤ 16 → spells p.depth p.tag p.content p.octets x → read p ≡ Ok x

  alone_so : (at depth : ℕ) (rest : List ℕ) (u : Unit {0}) → nothing_at at depth rest ≡ Ok u → rest ≡ []
  alone_so at depth [] u e = refl
  alone_so at depth (b ∷ bs) u e =
      absurd (let q = bind_ok (part at depth (b ∷ bs)) (λ q. fault q.at BadTag) u e in let k = q.2 in cc)

  pub explicit_sound : ReadSound → (x : A) (p : Part) → IsOctets p.content → explicit read p ≡ Ok x
      → SpellsExplicit spells p.depth p.tag.constructed p.content x
  unfolding inner alone
  explicit_sound sound x p octets e =
      let q = bind_ok (inner p) (λ q. read q >>= λ x. alone q >>= λ _. Ok x) x e in
      let r = bind_ok (read q.0) (λ x. alone q.0 >>= λ _. Ok x) x q.2 in
      let n = bind_ok (alone q.0) (λ _. Ok r.0) x r.2 in
      let c = taken p.tag.constructed (part p.start (p.depth + 1) p.content) _ q.0 q.1 in
      let w = part_sound p.start (p.depth + 1) p.content q.0 octets c.1 in
      let none = alone_so (q.0.at + length q.0.octets) q.0.depth q.0.rest n.0 n.1 in
      let whole : p.content ≡ q.0.octets = w.octets_are ∙ ap (λ l. q.0.octets ++ l) none ∙ append-nil q.0.octets in
      let own = subst IsOctets whole octets in
      let content = IsBytes-front q.0.content (ending_of w.stands.count)
      (IsBytes-back w.stands.header (q.0.content ++ ending_of w.stands.count)
      (subst IsOctets w.stands.octets_are own)) in
      let shallow : q.0.depth ≤ 16 = omega (arith, w.depth_is, w.stands.shallow) in
      let spelled = sound r.0 q.0 shallow content own r.1 in
      let same = ok_is r.0 x n.2 in
      record {
        is_constructed = c.0;
        tag = q.0.tag;
        inside = q.0.content;
        stands = subst (λ o. Stands (p.depth + 1) q.0.tag q.0.content o) (sym whole) w.stands;
        spelled = subst (λ y. spells (p.depth + 1) q.0.tag q.0.content p.content y) same
            (subst (λ o. spells (p.depth + 1) q.0.tag q.0.content o r.0) (sym whole)
            (subst (λ d. spells d q.0.tag q.0.content q.0.octets r.0) w.depth_is spelled));
      }

  pub explicit_full : ReadFull → (x : A) (p : Part) → SpellsExplicit spells p.depth p.tag.constructed p.content x
      → explicit read p ≡ Ok x
  unfolding inner alone
  explicit_full full x p h =
      let lent = lent_part p.start (p.depth + 1) h.tag (length h.stands.header) h.inside [] p.content in
      let found : part p.start (p.depth + 1) p.content ≡ Ok lent =
      ap (part p.start (p.depth + 1)) (sym (append-nil p.content))
      ∙ stands_again p.start (p.depth + 1) h.tag h.inside p.content [] h.stands in
      let value = full x lent h.stands.shallow h.spelled in
      ap (λ b. cond b (part p.start (p.depth + 1) p.content)
      (fault p.at BadTag) >>= λ q. read q >>= λ x. alone q >>= λ _. Ok x) h.is_constructed
      ∙ ap (λ r. r >>= λ q. read q >>= λ x. alone q >>= λ _. Ok x) found
      ∙ ap (λ r. r >>= λ x. alone lent >>= λ _. Ok x) value
