-- An item that each agent of a walk relays meets the domain of an agent in its trace exactly where that one relayed it.
use Rattle.std.proofs.Common.{◌≡◌, ℕ, zero, suc, ◌-◌, ◌<◌, Bool, true, false, not, ◌&&◌, ◌||◌, List, [], ◌∷◌, length}
use Rattle.std.proofs.Common.{take, get_or, Some, refl, sym, ap, subst, ◌∙◌, ◌⊎◌, inl, inr, arith, ◌↔◌}
use Rattle.std.specs.Prelude.{slice_get, Contains}
use Rattle.std.specs.List.{list_any}
use Rattle.mta_fields.specs.declared.domain.DomainFields.{DomainFields}
use Rattle.mta_fields.specs.declared.trace.TraceFields.{TraceFields}
use Rattle.mta_fields.specs.Domains.{IsSameDomain}
use Rattle.mta_fields.proofs.DomainLaws.{same_decides}
use Rattle.mta_names.specs.declared.attributes.Attributes.{Attributes}
use Rattle.mta_procedures.specs.Traces.{is_expansion, is_of_domain, comes_back}
use Rattle.mta_tables.specs.Tables.{TablesValue}
use Rattle.mta_rehearse_run.specs.declared.turn.Turn.{Turn}
use Rattle.mta_rehearse_run.specs.declared.turn.Turn.TheVariants.{On, Over}
use Rattle.mta_rehearse_run.specs.declared.walked.Walk.{Walk}
use Rattle.mta_rehearse_run.specs.declared.walked.WalkEnd.{WalkEnd}
use Rattle.mta_rehearse_run.specs.declared.walked.WalkEnd.TheVariants as Ends
use Rattle.mta_rehearse_run.specs.Agents.{StandsAt, AreApart}
use Rattle.mta_rehearse_run.specs.Traces.{IsElementOf, IsTraceOf, MeetsLoops}
use Rattle.mta_rehearse_run.specs.Turns.{turn_of}
use Rattle.mta_rehearse_run.specs.Walks.{EndsBy, over, around, IsWalk}
use Rattle.mta_rehearse_run.proofs.Names.{equal}
use Rattle.mta_rehearse_run.proofs.Paths.{at_of}

-- ---- the elements, each beside its agent

abbrev Elements : List TablesValue → List ℕ → List TraceFields → Type 0
Elements xs [] [] = Unit {0}
Elements xs [] (e ∷ es) = ⊥
Elements xs (a ∷ bs) [] = ⊥
Elements xs (a ∷ bs) (e ∷ es) = IsElementOf xs a e × Elements xs bs es

elements_of : (xs : List TablesValue) (walked : List ℕ) (trace : List TraceFields) → length trace ≡ length walked
    → ((k : ℕ) (e : TraceFields) → k < length walked → slice_get trace k ≡ Some e
    → IsElementOf xs (get_or walked k 0) e)
    → Elements xs walked trace
elements_of xs [] [] long each = tt
elements_of xs [] (e ∷ es) long each = absurd (omega (arith, long))
elements_of xs (a ∷ bs) [] long each = absurd (omega (arith, long))
elements_of xs (a ∷ bs) (e ∷ es) long each = (
  each 0 e (omega arith) refl,
  elements_of xs bs es (omega (arith, long)) (λ k f l h. each (suc k) f (omega (arith, l)) h),
)

elements_front : (xs : List TablesValue) (k : ℕ) (walked : List ℕ) (trace : List TraceFields)
    → Elements xs walked trace → Elements xs (take k walked) (take k trace)
elements_front xs zero walked trace h = tt
elements_front xs (suc k) [] [] h = tt
elements_front xs (suc k) [] (e ∷ es) h = absurd h
elements_front xs (suc k) (a ∷ bs) [] h = absurd h
elements_front xs (suc k) (a ∷ bs) (e ∷ es) h = (h.0, elements_front xs k bs es h.1)

-- none carries dl-operation
none_expands : (xs : List TablesValue) (walked : List ℕ) (trace : List TraceFields) → Elements xs walked trace
    → list_any is_expansion trace ≡ false
none_expands xs [] [] h = refl
none_expands xs [] (e ∷ es) h = absurd h
none_expands xs (a ∷ bs) [] h = absurd h
none_expands xs (a ∷ bs) (e ∷ es) h = (let f = h.0.no_expansion in rw f (none_expands xs bs es h.1))

-- ---- the domain of an agent in the trace

pub record HasDomain (xs : List TablesValue) (own : DomainFields) (walked : List ℕ) : Type 0 where
  pub agent : ℕ
  pub among : Contains walked agent
  pub tables : TablesValue
  pub there : StandsAt xs agent tables
  pub same : IsSameDomain own tables.domain

later : (xs : List TablesValue) (own : DomainFields) (a : ℕ) (walked : List ℕ) → HasDomain xs own walked
    → HasDomain xs own (a ∷ walked)
later xs own a walked h = record {
  agent = h.agent;
  among = (suc h.among.0, omega (arith, h.among.1), h.among.2);
  tables = h.tables;
  there = h.there;
  same = h.same;
}

here : (xs : List TablesValue) (own : DomainFields) (a : ℕ) (walked : List ℕ) (e : TraceFields)
    → IsElementOf xs a e → is_of_domain own e ≡ true → HasDomain xs own (a ∷ walked)
here xs own a walked e h t = record {
  agent = a;
  among = (0, omega arith, refl);
  tables = h.tables;
  there = h.there;
  same = subst (IsSameDomain own) h.domain ((same_decides own e.domain (is_of_domain own e) refl).0 t);
}

or_cases : (b c : Bool) → (b || c) ≡ true → (b ≡ true) ⊎ (c ≡ true)
or_cases true c h = inl refl
or_cases false c h = inr h

and_first : (b c : Bool) → (b && c) ≡ true → b ≡ true
and_first true c h = refl
and_first false c h = absurd cc

no_trace : false ≡ true → ⊥
no_trace e = absurd cc

found : (xs : List TablesValue) (own : DomainFields) (walked : List ℕ) (trace : List TraceFields)
    → Elements xs walked trace → comes_back own trace ≡ true → HasDomain xs own walked
found xs own [] [] h t = absurd (no_trace t)
found xs own [] (e ∷ es) h t = absurd h
found xs own (a ∷ bs) [] h t = absurd h
found xs own (a ∷ bs) (e ∷ es) h t =
    elim (or_cases (is_of_domain own e && not (list_any is_expansion (e ∷ es))) (comes_back own es) t) [
      | inl b ↦ here xs own a bs e h.0 (and_first (is_of_domain own e) (not (list_any is_expansion (e ∷ es))) b)
      | inr c ↦ later xs own a bs (found xs own bs es h.1 c)
    ]

some_is : (s t : TablesValue) → Some s ≡ Some t → s ≡ t
some_is s t e = cc

one_tables : (xs : List TablesValue) (a : ℕ) (s t : TablesValue) → StandsAt xs a s → StandsAt xs a t → s ≡ t
one_tables xs a s t h k = some_is s t (sym h.found ∙ k.found)

or_first : (b c : Bool) → b ≡ true → (b || c) ≡ true
or_first b c h = rw h refl

or_second : (b c : Bool) → c ≡ true → (b || c) ≡ true
or_second true c h = refl
or_second false c h = h

both : (b c : Bool) → b ≡ true → c ≡ false → (b && not c) ≡ true
both b c h k = rw (h, k) refl

own_element : (xs : List TablesValue) (a : ℕ) (t : TablesValue) (e : TraceFields) → IsElementOf xs a e
    → StandsAt xs a t → is_of_domain t.domain e ≡ true
own_element xs a t e h k =
    let d : e.domain ≡ t.domain
    = h.domain ∙ ap (λ (s : TablesValue). s.domain) (one_tables xs a h.tables t h.there k) in
    (same_decides t.domain e.domain (is_of_domain t.domain e) refl).1
    (subst (IsSameDomain t.domain) (sym d) refl)

met : (xs : List TablesValue) (a : ℕ) (t : TablesValue) (walked : List ℕ) (trace : List TraceFields)
    → Elements xs walked trace → StandsAt xs a t → (k : ℕ) → k < length walked → get_or walked k 0 ≡ a
    → comes_back t.domain trace ≡ true
met xs a t [] [] h there k l is = absurd (omega (arith, l))
met xs a t [] (e ∷ es) h there k l is = absurd h
met xs a t (b ∷ bs) [] h there k l is = absurd h
met xs a t (b ∷ bs) (e ∷ es) h there zero l is =
    or_first (is_of_domain t.domain e && not (list_any is_expansion (e ∷ es))) (comes_back t.domain es)
    (both (is_of_domain t.domain e) (list_any is_expansion (e ∷ es))
    (own_element xs b t e h.0 (subst (λ (i : ℕ). StandsAt xs i t) (sym is) there))
    (none_expands xs (b ∷ bs) (e ∷ es) h))
met xs a t (b ∷ bs) (e ∷ es) h there (suc k) l is =
    or_second (is_of_domain t.domain e && not (list_any is_expansion (e ∷ es))) (comes_back t.domain es)
    (met xs a t bs es h.1 there k (omega (arith, l)) is)

-- ---- agents that can be told apart

apart_below : (xs : List TablesValue) (a b : ℕ) (s t : TablesValue) → AreApart xs → StandsAt xs a s
    → StandsAt xs b t → IsSameDomain s.domain t.domain → a < b → ⊥
apart_below xs a b s t apart h k same l = apart b (record {
  earlier = a;
  before = l;
  same = record { first = s; second = t; there = h; here = k; same = inr same };
})

one_agent : (xs : List TablesValue) (a b : ℕ) (s t : TablesValue) → AreApart xs → StandsAt xs a s → StandsAt xs b t
    → IsSameDomain s.domain t.domain → a ≡ b
one_agent xs a b s t apart h k same =
    equal a b (apart_below xs a b s t apart h k same) (apart_below xs b a t s apart k h (sym same))

-- ---- walks

front_at : (k : ℕ) (xs : List ℕ) (j : ℕ) → j < length (take k xs) → (j < k) × (get_or (take k xs) j 0 ≡ get_or xs j 0)
front_at zero xs j l = absurd (omega (arith, l))
front_at (suc k) [] j l = absurd (omega (arith, l))
front_at (suc k) (x ∷ xs) zero l = (omega arith, refl)
front_at (suc k) (x ∷ xs) (suc j) l = (let h = front_at k xs j (omega (arith, l)) in (omega (arith, h.0), h.1))

is_false : (b : Bool) → (b ≡ true → ⊥) → b ≡ false
is_false true h = absurd (h refl)
is_false false h = refl

on_over : (a : ℕ) (end : WalkEnd) → On a ≡ Over end → ⊥
on_over a end e = absurd cc

same_on : (a b : ℕ) → On a ≡ On b → a ≡ b
same_on a b e = cc

ends_in_loop : (t : Turn) (agents : List ℕ) (end : WalkEnd) (a : ℕ) → t ≡ On a → EndsBy t agents end
    → (end ≡ Ends.Loop a) × Contains agents a
ends_in_loop t agents end a goes (over h) = absurd (on_over a end (sym goes ∙ h))
ends_in_loop t agents end a goes (around b h i k) =
    let same = same_on b a (sym h ∙ goes) in
    (k ∙ ap Ends.Loop same, subst (Contains agents) same i)

module _ (xs : List TablesValue) (start : ℕ) (n : Attributes) (w : Walk) (trace : List TraceFields)
    (apart : AreApart xs) (walked : IsWalk xs start n w) (made : IsTraceOf xs w.agents trace) where
  elements : Elements xs w.agents trace
  elements = elements_of xs w.agents trace made.long made.each

  not_before : (k : ℕ) (t : TablesValue) → k < length w.agents → StandsAt xs (get_or w.agents k 0) t
      → comes_back t.domain (take k trace) ≡ true → ⊥
  not_before k t l there back =
      let h = found xs t.domain (take k w.agents) (take k trace) (elements_front xs k w.agents trace elements) back in
      let same = one_agent xs (get_or w.agents k 0) h.agent t h.tables apart there h.there h.same in
      let at = at_of (take k w.agents) h.agent h.among in
      let front = front_at k w.agents at.0 at.1 in
      walked.path.differ at.0 k front.0 l (sym front.1 ∙ at.2 ∙ sym same)

  at_end : (a : ℕ) (t : TablesValue) → turn_of xs n (get_or w.agents (length w.agents - 1) 0) ≡ On a → StandsAt xs a t
      → (comes_back t.domain trace ≡ true) ↔ (w.end ≡ Ends.Loop a)
  at_end a t goes there =
      let h = ends_in_loop (turn_of xs n (get_or w.agents (length w.agents - 1) 0)) w.agents w.end a goes walked.ends in
      let at = at_of w.agents a h.1 in
      (λ back. h.0, λ end. met xs a t w.agents trace elements there at.0 at.1 at.2)

  pub meets_loops : MeetsLoops xs n w trace
  meets_loops = record {
    on_the_way = λ k t l there. is_false (comes_back t.domain (take k trace)) (not_before k t l there);
    at_the_end = at_end;
  }
