-- What has been read of a text form: some text form begins with it, and the octet at fault is the first at which none
-- goes on.
use Rattle.std.proofs.Common.{◌≡◌, ℕ, suc, ◌+◌, ◌≤◌, ◌<◌, Bool, true, false, cond, eqb, List, [], ◌∷◌, ◌++◌, length}
use Rattle.std.proofs.Common.{take, Option, Some, None, Ok, Err, refl, sym, ap, subst, ◌∙◌, inl, inr, arith}
use Rattle.std.proofs.Common.{append_assoc, append-nil, length-append, ◌&&◌}
use Rattle.std.specs.Prelude.{map}
use Rattle.std.specs.List.{flat_map}
use Rattle.std.proofs.lemmas.Bool.{and_parts, eqb-true, cases_Bool}
use Rattle.mta_name_text.specs.declared.draft.Draft.{Draft}
use Rattle.mta_name_text.specs.declared.draft.Stage.{Stage}
use Rattle.mta_name_text.specs.declared.draft.Stage.TheVariants.{Front, Kind, Value}
use Rattle.mta_name_text.specs.declared.key.Key.{Key}
use Rattle.mta_name_text.specs.declared.part.Part.{Part}
use Rattle.mta_name_text.specs.declared.place.Grammar.{Grammar}
use Rattle.mta_name_text.specs.declared.place.Place.{Place}
use Rattle.mta_name_text.specs.declared.shape.Shape.TheVariants as Shapes
use Rattle.mta_name_text.specs.Forms.{key_text, part_text, behind_semicolon, joined}
use Rattle.mta_name_text.specs.Grammar.{start, behind, follows, is_kind, IsPart, Follow, IsForm, IsBegun}
use Rattle.mta_name_text.specs.Keys.{lead_of, lead, has_kind, shape_of}
use Rattle.mta_name_text.specs.Shapes.{is_value, is_begun}
use Rattle.mta_name_text.specs.Reading.{is_front, named, draft, opened_as, opened, open_key, step_front, step_kind}
use Rattle.mta_name_text.specs.Reading.{step_value, part, step_at, step, finish_at, finish, ended, read_behind, read_on}
use Rattle.mta_name_text.proofs.KeyLaws.{key_sound, front_key, named_is, tail_of, lead_tail}
use Rattle.mta_name_text.proofs.ShapeLaws.{completed, empty_begun}

-- ---- what a draft has read

abbrev pub ended_part : Part → List ℕ
ended_part x = part_text x ++ 59 ∷ []

abbrev pub before : List Part → List ℕ
before ps = flat_map ended_part ps

abbrev pub shown_at : Stage → List ℕ
shown_at (Front front) = front
shown_at (Kind k t) = key_text k ++ t
shown_at (Value k t v) = part_text (part k t v)

abbrev pub shown : Draft → List ℕ
shown d = before d.parts ++ shown_at d.stage

pub record AwaitsKind (g : Grammar) (p : Place) (k : Key) (t : List ℕ) : Type 0 where
  pub open_here : follows g p k ≡ true
  pub kind : has_kind k ≡ true
  pub begun : is_begun Shapes.Kind t ≡ true

pub record AwaitsValue (g : Grammar) (p : Place) (k : Key) (t v : List ℕ) : Type 0 where
  pub open_here : follows g p k ≡ true
  pub kind : is_kind (has_kind k) t ≡ true
  pub begun : is_begun (shape_of k) v ≡ true

abbrev pub Awaits : Grammar → Place → Stage → Type 0
Awaits g p (Front front) = is_front g p front ≡ true
Awaits g p (Kind k t) = AwaitsKind g p k t
Awaits g p (Value k t v) = AwaitsValue g p k t v

pub record IsDraft (g : Grammar) (d : Draft) : Type 0 where
  pub follow : Follow g start d.parts d.place
  pub awaits : Awaits g d.place d.stage

-- ---- one part more

pub follow_more : (g : Grammar) (ps : List Part) (p q : Place) (x : Part) → Follow g p ps q → follows g q x.key ≡ true
    → IsPart x → Follow g p (ps ++ x ∷ []) (behind q x.key)
follow_more g [] p q x h f i = (ap (λ r. follows g r x.key) h ∙ f, i, ap (λ r. behind r x.key) h)
follow_more g (y ∷ ps) p q x h f i = (h.0, h.1, follow_more g ps (behind p y.key) q x h.2 f i)

pub before_more : (ps : List Part) (x : Part) → before (ps ++ x ∷ []) ≡ before ps ++ ended_part x
before_more [] x = append-nil (ended_part x)
before_more (y ∷ ps) x = ap (λ z. ended_part y ++ z) (before_more ps x)
    ∙ sym (append_assoc (ended_part y) (before ps) (ended_part x))

regrouped : (y b x : List ℕ) → y ++ 59 ∷ (b ++ x) ≡ ((y ++ 59 ∷ []) ++ b) ++ x
regrouped y b x = simp append_assoc

behind_more : (ps : List Part) (x : Part) → flat_map behind_semicolon (map part_text (ps ++ x ∷ [])) ≡ 59 ∷
    (before ps ++ part_text x)
behind_more [] x = append-nil (59 ∷ part_text x)
behind_more (y ∷ ps) x = ap (λ z. (59 ∷ part_text y) ++ z) (behind_more ps x)
    ∙ ap (λ z. 59 ∷ z) (regrouped (part_text y) (before ps) (part_text x))

pub form_more : (ps : List Part) (x : Part) → joined (map part_text (ps ++ x ∷ [])) ≡ before ps ++ part_text x
form_more [] x = append-nil (part_text x)
form_more (y ∷ ps) x = ap (λ z. part_text y ++ z) (behind_more ps x) ∙ regrouped (part_text y) (before ps) (part_text x)

pub formed : (g : Grammar) (ps : List Part) (p : Place) (x : Part) → Follow g start ps p → follows g p x.key ≡ true
    → IsPart x → IsForm g (before ps ++ part_text x) (ps ++ x ∷ [])
formed g ps p x h f i = record {
  last = behind p x.key;
  follow = follow_more g ps start p x h f i;
  some = omega (arith, length-append ps (x ∷ []));
  text_is = sym (form_more ps x);
}

-- ---- some text form begins with what a draft has read

begun_by : (g : Grammar) (ps : List Part) (p : Place) (x : Part) (front rest : List ℕ) → Follow g start ps p
    → follows g p x.key ≡ true → IsPart x → front ++ rest ≡ part_text x → IsBegun g (before ps ++ front)
begun_by g ps p x front rest h f i e = record {
  rest = rest;
  parts = ps ++ x ∷ [];
  form = subst (λ text. IsForm g text (ps ++ x ∷ []))
      (ap (λ z. before ps ++ z) (sym e) ∙ sym (append_assoc (before ps) front rest)) (formed g ps p x h f i);
}

sample_value : (k : Key) → (v : List ℕ) × (is_value (shape_of k) v ≡ true)
sample_value k = completed (shape_of k) [] (key_sound k) (empty_begun (shape_of k))

sample_kind : (b : Bool) → (t : List ℕ) × (is_kind b t ≡ true)
sample_kind true = completed Shapes.Kind [] tt (empty_begun Shapes.Kind)
sample_kind false = ([], refl)

key_front_text : (q w lead tail whole : List ℕ) → lead ≡ q ++ w → whole ≡ lead ++ tail → q ++ (w ++ tail) ≡ whole
key_front_text q w lead tail whole e f = sym (append_assoc q w tail) ∙ ap (λ z. z ++ tail) (sym e) ∙ sym f

kind_text : (k t w v : List ℕ) → (k ++ t) ++ (w ++ 61 ∷ v) ≡ k ++ ((t ++ w) ++ 61 ∷ v)
kind_text k t w v = simp append_assoc

value_text : (k t v w : List ℕ) → (k ++ (t ++ 61 ∷ v)) ++ w ≡ k ++ (t ++ 61 ∷ (v ++ w))
value_text k t v w = simp append_assoc

begun_at : (g : Grammar) (ps : List Part) (p : Place) (s : Stage) → Follow g start ps p → Awaits g p s
    → IsBegun g (before ps ++ shown_at s)
begun_at g ps p (Front front) h a =
    let b = front_key g p front a in
    let t = sample_kind (has_kind b.key) in
    let v = sample_value b.key in
    begun_by g ps p (part b.key t.0 v.0) front (b.rest ++ tail_of (has_kind b.key) t.0 v.0) h b.open_here
    (record { kind = t.1; value = v.1 })
    (key_front_text front b.rest (lead b.key) (tail_of (has_kind b.key) t.0 v.0)
    (part_text (part b.key t.0 v.0)) b.lead_is (lead_tail (has_kind b.key) (key_text b.key) t.0 v.0 t.1))
begun_at g ps p (Kind k t) h a =
    let w = completed Shapes.Kind t tt a.begun in
    let v = sample_value k in
    begun_by g ps p (part k (t ++ w.0) v.0) (key_text k ++ t) (w.0 ++ 61 ∷ v.0) h a.open_here
    (record { kind = ap (λ b. is_kind b (t ++ w.0)) a.kind ∙ w.1; value = v.1 }) (kind_text (key_text k) t w.0 v.0)
begun_at g ps p (Value k t v) h a =
    let w = completed (shape_of k) v (key_sound k) a.begun in
    begun_by g ps p (part k t (v ++ w.0)) (part_text (part k t v)) w.0 h a.open_here
    (record { kind = a.kind; value = w.1 }) (value_text (key_text k) t v w.0)

pub draft_begun : (g : Grammar) (d : Draft) → IsDraft g d → IsBegun g (shown d)
draft_begun g d h = begun_at g d.parts d.place d.stage h.follow h.awaits

-- ---- a step takes one octet

pub record Takes (g : Grammar) (ps : List Part) (s : Stage) (c : ℕ) (e : Draft) : Type 0 where
  pub is_draft : IsDraft g e
  pub shown_is : shown e ≡ (before ps ++ shown_at s) ++ c ∷ []

abbrev just : {A : Type 0} → A → Option A
just x = Some x

held : {A : Type 0} (b : Bool) (x : Option A) (y : A) → cond b x None ≡ Some y → (b ≡ true) × (x ≡ Some y)
held true x y e = (refl, e)
held false x y e = absurd cc

some_is : {A : Type 0} (x y : A) → just x ≡ just y → x ≡ y
some_is x y e = cc

opened_awaits : (g : Grammar) (p : Place) (k : Key) (b : Bool) → has_kind k ≡ b → follows g p k ≡ true
    → Awaits g p (opened_as b k)
opened_awaits g p k true e f = record { open_here = f; kind = e; begun = empty_begun Shapes.Kind }
opened_awaits g p k false e f =
    record { open_here = f; kind = ap (λ b. is_kind b []) e; begun = empty_begun (shape_of k) }

opened_text : (k : Key) (b : Bool) → shown_at (opened_as b k) ≡ lead_of b (key_text k)
opened_text k true = append-nil (key_text k)
opened_text k false = refl

opened_takes : (g : Grammar) (ps : List Part) (p : Place) (front : List ℕ) (c : ℕ) (e : Draft) (o : Option Key)
    → Follow g start ps p → named (front ++ c ∷ []) ≡ o → open_key g ps p o ≡ Some e → Takes g ps (Front front) c e
opened_takes g ps p front c e None h n w = absurd cc
opened_takes g ps p front c e (Some k) h n w =
    let a = held (follows g p k) (Some (draft ps p (opened k))) e w in
    subst (λ x. Takes g ps (Front front) c x) (some_is (draft ps p (opened k)) e a.1) (record {
      is_draft = record { follow = h; awaits = opened_awaits g p k (has_kind k) refl a.0 };
      shown_is = ap (λ x. before ps ++ x) (opened_text k (has_kind k) ∙ named_is (front ++ c ∷ []) k n)
          ∙ sym (append_assoc (before ps) front (c ∷ []));
    })

taken_front : (g : Grammar) (ps : List Part) (p : Place) (front : List ℕ) (c : ℕ) (e : Draft) → Follow g start ps p
    → step_front g ps p front c ≡ Some e → Takes g ps (Front front) c e
unfolding step_front
taken_front g ps p front c e h w =
    elim (cases_Bool (is_front g p (front ++ c ∷ []))) [
      | inl more ↦ (
          let t : just (draft ps p (Front (front ++ c ∷ []))) ≡ Some e = rw more at w in
          subst (λ x. Takes g ps (Front front) c x) (some_is _ e t) (record {
            is_draft = record { follow = h; awaits = more };
            shown_is = sym (append_assoc (before ps) front (c ∷ []));
          }))
      | inr whole ↦ (
          let t : open_key g ps p (named (front ++ c ∷ [])) ≡ Some e = rw whole at w in
          opened_takes g ps p front c e (named (front ++ c ∷ [])) h refl t)
    ]

kind_ends : (b k t : List ℕ) → b ++ (k ++ (t ++ 61 ∷ [])) ≡ (b ++ (k ++ t)) ++ 61 ∷ []
kind_ends b k t = simp append_assoc

kind_goes_on : (b k t : List ℕ) (c : ℕ) → b ++ (k ++ (t ++ c ∷ [])) ≡ (b ++ (k ++ t)) ++ c ∷ []
kind_goes_on b k t c = simp append_assoc

taken_kind : (g : Grammar) (ps : List Part) (p : Place) (k : Key) (t : List ℕ) (c : ℕ) (e : Draft) → Follow g start ps p
    → AwaitsKind g p k t → step_kind ps p k t c ≡ Some e → Takes g ps (Kind k t) c e
unfolding step_kind
taken_kind g ps p k t c e h a w =
    elim (cases_Bool (eqb c 61)) [
      | inl equals ↦ (
          let s : cond (is_value Shapes.Kind t) (Some (draft ps p (Value k t []))) None ≡ Some e = rw equals at w in
          let i = held (is_value Shapes.Kind t) (Some (draft ps p (Value k t []))) e s in
          subst (λ x. Takes g ps (Kind k t) c x) (some_is _ e i.1) (record {
            is_draft = record {
              follow = h;
              awaits =
                  record {
                    open_here = a.open_here;
                    kind = ap (λ b. is_kind b t) a.kind ∙ i.0;
                    begun =
                        empty_begun (shape_of k);
                  };
            };
            shown_is = kind_ends (before ps) (key_text k) t
                ∙ ap (λ x. (before ps ++ (key_text k ++ t)) ++ x ∷ []) (sym (eqb-true c 61 equals));
          }))
      | inr other ↦ (
          let s : cond (is_begun Shapes.Kind (t ++ c ∷ [])) (Some (draft ps p (Kind k (t ++ c ∷ [])))) None ≡ Some e =
          rw other at w in
          let i = held (is_begun Shapes.Kind (t ++ c ∷ [])) (Some (draft ps p (Kind k (t ++ c ∷ [])))) e s in
          subst (λ x. Takes g ps (Kind k t) c x) (some_is _ e i.1) (record {
            is_draft = record { follow = h; awaits = record { open_here = a.open_here; kind = a.kind; begun = i.0 } };
            shown_is = kind_goes_on (before ps) (key_text k) t c;
          }))
    ]

value_ends : (b x : List ℕ) (c : ℕ) → c ≡ 59 → (b ++ (x ++ 59 ∷ [])) ++ [] ≡ (b ++ x) ++ c ∷ []
value_ends b x c e = append-nil (b ++ (x ++ 59 ∷ [])) ∙ sym (append_assoc b x (59 ∷ []))
    ∙ ap (λ d. (b ++ x) ++ d ∷ []) (sym e)

value_goes_on : (b k t v : List ℕ) (c : ℕ) → b ++ (k ++ (t ++ 61 ∷ (v ++ c ∷ []))) ≡ (b ++ (k ++ (t ++ 61 ∷ v))) ++ c ∷
    []
value_goes_on b k t v c = simp append_assoc

taken_value : (g : Grammar) (ps : List Part) (p : Place) (k : Key) (t v : List ℕ) (c : ℕ) (e : Draft)
    → Follow g start ps p → AwaitsValue g p k t v → step_value g ps p k t v c ≡ Some e → Takes g ps (Value k t v) c e
unfolding step_value
taken_value g ps p k t v c e h a w =
    elim (cases_Bool (eqb c 59)) [
      | inl semicolon ↦ (
          let s : cond (is_value (shape_of k) v && is_front g (behind p k) [])
          (Some (draft (ps ++ part k t v ∷ []) (behind p k) (Front []))) None ≡ Some e = rw semicolon at w in
          let i = held (is_value (shape_of k) v && is_front g (behind p k) [])
          (Some (draft (ps ++ part k t v ∷ []) (behind p k) (Front []))) e s in
          let j = and_parts (is_value (shape_of k) v) (is_front g (behind p k) []) i.0 in
          subst (λ x. Takes g ps (Value k t v) c x) (some_is _ e i.1) (record {
            is_draft = record {
              follow = follow_more g ps start p (part k t v) h a.open_here
                  (record { kind = a.kind; value = j.0 });
              awaits = j.1;
            };
            shown_is = ap (λ x. x ++ []) (before_more ps (part k t v))
                ∙ value_ends (before ps) (part_text (part k t v)) c (eqb-true c 59 semicolon);
          }))
      | inr other ↦ (
          let s : cond (is_begun (shape_of k) (v ++ c ∷ []))
          (Some (draft ps p (Value k t (v ++ c ∷ [])))) None ≡ Some e = rw other at w in
          let i = held (is_begun (shape_of k) (v ++ c ∷ [])) (Some (draft ps p (Value k t (v ++ c ∷ [])))) e s in
          subst (λ x. Takes g ps (Value k t v) c x) (some_is _ e i.1) (record {
            is_draft = record { follow = h; awaits = record { open_here = a.open_here; kind = a.kind; begun = i.0 } };
            shown_is = value_goes_on (before ps) (key_text k) t v c;
          }))
    ]

taken_at : (g : Grammar) (ps : List Part) (p : Place) (s : Stage) (c : ℕ) (e : Draft) → Follow g start ps p
    → Awaits g p s → step_at g ps p s c ≡ Some e → Takes g ps s c e
taken_at g ps p (Front front) c e h a w = taken_front g ps p front c e h w
taken_at g ps p (Kind k t) c e h a w = taken_kind g ps p k t c e h a w
taken_at g ps p (Value k t v) c e h a w = taken_value g ps p k t v c e h a w

taken : (g : Grammar) (d : Draft) (c : ℕ) (e : Draft) → IsDraft g d → step g d c ≡ Some e → Takes g d.parts d.stage c e
unfolding step
taken g d c e h w = taken_at g d.parts d.place d.stage c e h.follow h.awaits w

-- ---- reading on

finished_at : (g : Grammar) (ps : List Part) (p : Place) (s : Stage) (out : List Part) → Follow g start ps p
    → Awaits g p s → finish_at ps s ≡ Some out → IsForm g (before ps ++ shown_at s) out
finished_at g ps p (Front front) out h a e = absurd cc
finished_at g ps p (Kind k t) out h a e = absurd cc
finished_at g ps p (Value k t v) out h a e =
    let i = held (is_value (shape_of k) v) (Some (ps ++ part k t v ∷ [])) out e in
    subst (λ x. IsForm g (before ps ++ part_text (part k t v)) x) (some_is _ out i.1)
    (formed g ps p (part k t v) h a.open_here (record { kind = a.kind; value = i.0 }))

ended_ok : (at : ℕ) (o : Option (List Part)) (out : List Part) → ended at o ≡ Ok out → o ≡ Some out
ended_ok at None out e = absurd cc
ended_ok at (Some ps) out e = cc

-- what a draft has read, and the rest of the text
found_behind : (g : Grammar) (out : List Part) (c : ℕ) (cs : List ℕ) (at : ℕ) (d : Draft) (o : Option Draft)
    → IsDraft g d → step g d c ≡ o → read_behind at (λ e. read_on g (at + 1) e cs) o ≡ Ok out
    → ((e : Draft) → IsDraft g e → read_on g (at + 1) e cs ≡ Ok out → IsForm g (shown e ++ cs) out)
    → IsForm g (shown d ++ c ∷ cs) out
found_behind g out c cs at d None h w r again = absurd cc
found_behind g out c cs at d (Some e) h w r again =
    let t = taken g d c e h w in
    let together : shown e ++ cs ≡ shown d ++ c ∷ cs = ap (λ x. x ++ cs) t.shown_is
    ∙ append_assoc (shown d) (c ∷ []) cs in
    subst (λ text. IsForm g text out) together (again e t.is_draft r)

pub read_found : (g : Grammar) (out : List Part) (text : List ℕ) (at : ℕ) (d : Draft) → IsDraft g d
    → read_on g at d text ≡ Ok out → IsForm g (shown d ++ text) out
unfolding finish
read_found g out [] at d h r = subst (λ text. IsForm g text out) (sym (append-nil (shown d)))
    (finished_at g d.parts d.place d.stage out h.follow h.awaits (ended_ok at (finish_at d.parts d.stage) out r))
read_found g out (c ∷ cs) at d h r =
    found_behind g out c cs at d (step g d c) h refl r (λ e i q. read_found g out cs (at + 1) e i q)

-- a place behind what has been read: some text form begins with all before it, and no text that goes on with the octet
-- there is read
pub record Stops (g : Grammar) (at : ℕ) (d : Draft) (text : List ℕ) (stop : ℕ) : Type 0 where
  pub more : ℕ
  pub stop_is : stop ≡ at + more
  pub inside : more ≤ length text
  pub begun : IsBegun g (shown d ++ take more text)
  pub stuck : more < length text → (rest : List ℕ) → read_on g at d (take (suc more) text ++ rest) ≡ Err stop

ended_err : (at : ℕ) (o : Option (List Part)) (stop : ℕ) → ended at o ≡ Err stop → stop ≡ at
ended_err at None stop e = cc
ended_err at (Some n) stop e = absurd cc

stops_here : (g : Grammar) (at : ℕ) (d : Draft) (text : List ℕ) (stop : ℕ) → IsDraft g d → stop ≡ at
    → (0 < length text → (rest : List ℕ) → read_on g at d (take 1 text ++ rest) ≡ Err stop) → Stops g at d text stop
stops_here g at d text stop h e stuck = record {
  more = 0;
  stop_is = omega arith;
  inside = omega arith;
  begun = subst (IsBegun g) (sym (append-nil (shown d))) (draft_begun g d h);
  stuck = stuck;
}

stops_behind : (g : Grammar) (c : ℕ) (cs : List ℕ) (at : ℕ) (d : Draft) (o : Option Draft) (stop : ℕ) → IsDraft g d
    → step g d c ≡ o → read_behind at (λ e. read_on g (at + 1) e cs) o ≡ Err stop
    → ((e : Draft) → IsDraft g e → read_on g (at + 1) e cs ≡ Err stop → Stops g (at + 1) e cs stop)
    → Stops g at d (c ∷ cs) stop
stops_behind g c cs at d None stop h w r again =
    let e : stop ≡ at = cc in
    stops_here g at d (c ∷ cs) stop h e (λ l rest. rw w r)
stops_behind g c cs at d (Some e) stop h w r again =
    let t = taken g d c e h w in
    let s = again e t.is_draft r in
    let together : shown e ++ take s.more cs ≡ shown d ++ c ∷ take s.more cs = ap (λ x. x ++ take s.more cs) t.shown_is
    ∙ append_assoc (shown d) (c ∷ []) (take s.more cs) in
    let i = s.inside in
    let p = s.stop_is in
    record {
      more = suc s.more;
      stop_is = omega arith;
      inside = omega arith;
      begun = subst (IsBegun g) together s.begun;
      stuck = λ l rest. (let k : s.more < length cs = omega arith in rw w (s.stuck k rest));
    }

pub read_stops : (g : Grammar) (text : List ℕ) (at : ℕ) (d : Draft) (stop : ℕ) → IsDraft g d
    → read_on g at d text ≡ Err stop → Stops g at d text stop
read_stops g [] at d stop h r = stops_here g at d [] stop h (ended_err at (finish d) stop r) (λ l. absurd (omega arith))
read_stops g (c ∷ cs) at d stop h r =
    stops_behind g c cs at d (step g d c) stop h refl r (λ e i q. read_stops g cs (at + 1) e stop i q)
