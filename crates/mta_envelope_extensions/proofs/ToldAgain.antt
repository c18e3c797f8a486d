-- The extension fields of an envelope that are written are spelled so, and are read again.
use Rattle.std.proofs.Common.{◌≡◌, ℕ, ◌+◌, ◌≤◌, ◌<◌, ◌^◌, Bool, true, false, cond, List, [], ◌∷◌, ◌++◌, length, Option}
use Rattle.std.proofs.Common.{Some, None, refl, sym, ap, subst, ◌∙◌, append_assoc, arith}
use Rattle.std.specs.Prelude.{is_some}
use Rattle.std.specs.List.{flat_map}
use Rattle.std.proofs.lemmas.List.{append-nil}
use Rattle.mta_ber.specs.Canon.{constructed}
use Rattle.mta_ber.specs.Components.{IsComponent}
use Rattle.mta_names.specs.Values.{Each}
use Rattle.mta_names.proofs.Again.{low_tag}
use Rattle.mta_names.proofs.Rows.{short_inside, short_front, short_back, puts, component, IsRow, no_row, row_more}
use Rattle.mta_names.proofs.Rows.{row_spelled, content_again}
use Rattle.mta_fields.specs.declared.expansion.ExpansionFields.{ExpansionFields}
use Rattle.mta_fields.specs.declared.extension.ExtFields.{ExtFields}
use Rattle.mta_fields.specs.ExtensionFields.{IsExtField, ext_content, canonical_ext}
use Rattle.mta_fields.specs.Laws.{KeepsExtField}
use Rattle.mta_envelope_extensions.specs.declared.value.Topic.{Topic}
use Rattle.mta_envelope_extensions.specs.declared.value.Topic.TheVariants.{ExpansionHistory, LatestDelivery}
use Rattle.mta_envelope_extensions.specs.declared.value.Topic.TheVariants.{ExpansionProhibited, Other}
use Rattle.mta_envelope_extensions.specs.declared.value.Said.{Said}
use Rattle.mta_envelope_extensions.specs.declared.value.Said.TheVariants.{History, Latest, Prohibited, Unread}
use Rattle.mta_envelope_extensions.specs.declared.field.Told.{Told}
use Rattle.mta_envelope_extensions.specs.declared.extensions.Extensions.{Extensions}
use Rattle.mta_envelope_extensions.specs.Topics.{topic_of}
use Rattle.mta_envelope_extensions.specs.Fields.{is_held, SpellsField}
use Rattle.mta_envelope_extensions.specs.Laws.{IsSaidAt, SaysAt, AreToldAt, EnvelopeExtensionsAreReadAgain}
use Rattle.mta_envelope_extensions.specs.Told.{held_of, with_said, with_told, no_extensions, extensions_in}
use Rattle.mta_envelope_extensions.specs.Told.{MakesExtension, SpellsExtensions, is_topic, values_of, history_said}
use Rattle.mta_envelope_extensions.specs.Told.{latest_said, prohibited_said}
use Rattle.mta_envelope_extensions.proofs.FieldAgain.{told_spelled}
use Rattle.mta_envelope_extensions.proofs.ToldLaws.{extensions_full}

-- ---- what is still to be said

-- the values of a topic in the fields that follow, what was said of it so far, and what is said in the end
abbrev Pending : ℕ → Topic → List (List ℕ) → Option Said → Option Said → Type 0
Pending depth topic [] now then = now ≡ then
Pending depth topic (v ∷ []) None (Some s) = IsSaidAt depth topic v s
Pending depth topic _ _ _ = ⊥

at_first : (depth : ℕ) (topic : Topic) (vs : List (List ℕ)) (o : Option Said) → SaysAt depth topic vs o
    → Pending depth topic vs None o
at_first depth topic [] None h = refl
at_first depth topic [] (Some s) h = absurd h
at_first depth topic (v ∷ []) None h = absurd h
at_first depth topic (v ∷ []) (Some s) h = h
at_first depth topic (v ∷ w ∷ vs) None h = absurd h
at_first depth topic (v ∷ w ∷ vs) (Some s) h = absurd h

abbrev some_said : Said → Option Said
some_said s = Some s

-- where a field of the topic is next, it says what is said in the end, and no other follows
record Next (depth : ℕ) (topic : Topic) (v : List ℕ) (vs : List (List ℕ)) (now then : Option Said) : Type 0 where
  first : now ≡ None
  said : Said
  said_is : then ≡ some_said said
  by : IsSaidAt depth topic v said
  rest : Pending depth topic vs (some_said said) then

next_of : (depth : ℕ) (topic : Topic) (v : List ℕ) (vs : List (List ℕ)) (now then : Option Said)
    → Pending depth topic (v ∷ vs) now then → Next depth topic v vs now then
next_of depth topic v [] None (Some s) h = record { first = refl; said = s; said_is = refl; by = h; rest = refl }
next_of depth topic v [] None None h = absurd h
next_of depth topic v [] (Some t) None h = absurd h
next_of depth topic v [] (Some t) (Some s) h = absurd h
next_of depth topic v (w ∷ vs) None (Some s) h = absurd h
next_of depth topic v (w ∷ vs) None None h = absurd h
next_of depth topic v (w ∷ vs) (Some t) None h = absurd h
next_of depth topic v (w ∷ vs) (Some t) (Some s) h = absurd h

record ArePending (depth : ℕ) (fs : List ExtFields) (now then : Extensions) : Type 0 where
  history : Pending depth ExpansionHistory (values_of ExpansionHistory fs) (history_said now.history)
      (history_said then.history)
  latest : Pending depth LatestDelivery (values_of LatestDelivery fs) (latest_said now.latest) (latest_said then.latest)
  prohibited : Pending depth ExpansionProhibited (values_of ExpansionProhibited fs) (prohibited_said now.prohibited)
      (prohibited_said then.prohibited)

-- ---- what is said of each topic is one value

no_history : (o : Option (List ExpansionFields)) → history_said o ≡ None → is_some o ≡ false
no_history None e = refl
no_history (Some xs) e = absurd cc

no_latest : (o : Option ℕ) → latest_said o ≡ None → is_some o ≡ false
no_latest None e = refl
no_latest (Some m) e = absurd cc

no_prohibited : (o : Option Bool) → prohibited_said o ≡ None → is_some o ≡ false
no_prohibited None e = refl
no_prohibited (Some b) e = absurd cc

same_history : (a b : Option (List ExpansionFields)) → history_said a ≡ history_said b → a ≡ b
same_history None None e = refl
same_history None (Some xs) e = absurd cc
same_history (Some xs) None e = absurd cc
same_history (Some xs) (Some ys) e = cc

same_latest : (a b : Option ℕ) → latest_said a ≡ latest_said b → a ≡ b
same_latest None None e = refl
same_latest None (Some m) e = absurd cc
same_latest (Some m) None e = absurd cc
same_latest (Some m) (Some n) e = cc

same_prohibited : (a b : Option Bool) → prohibited_said a ≡ prohibited_said b → a ≡ b
same_prohibited None None e = refl
same_prohibited None (Some m) e = absurd cc
same_prohibited (Some m) None e = absurd cc
same_prohibited (Some m) (Some n) e = cc

-- what a value of a topic says is of its own kind
history_kind : (depth : ℕ) (v : List ℕ) (s : Said) → IsSaidAt depth ExpansionHistory v s → (xs : List ExpansionFields)
    × (s ≡ History xs)
history_kind depth v (History xs) h = (xs, refl)
history_kind depth v (Latest m) h = absurd h.spelled
history_kind depth v (Prohibited b) h = absurd h.spelled
history_kind depth v Unread h = absurd h.spelled

latest_kind : (depth : ℕ) (v : List ℕ) (s : Said) → IsSaidAt depth LatestDelivery v s → (m : ℕ) × (s ≡ Latest m)
latest_kind depth v (History xs) h = absurd h.spelled
latest_kind depth v (Latest m) h = (m, refl)
latest_kind depth v (Prohibited b) h = absurd h.spelled
latest_kind depth v Unread h = absurd h.spelled

prohibited_kind : (depth : ℕ) (v : List ℕ) (s : Said) → IsSaidAt depth ExpansionProhibited v s → (b : Bool)
    × (s ≡ Prohibited b)
prohibited_kind depth v (History xs) h = absurd h.spelled
prohibited_kind depth v (Latest m) h = absurd h.spelled
prohibited_kind depth v (Prohibited b) h = (b, refl)
prohibited_kind depth v Unread h = absurd h.spelled

-- ---- one field more

-- a field can be read next, and what is still to be said afterwards
record Goes (depth : ℕ) (f : ExtFields) (fs : List ExtFields) (now then : Extensions) : Type 0 where
  said : Said
  first : is_held (topic_of f.kind) (held_of now) ≡ false
  by : IsSaidAt depth (topic_of f.kind) f.value said
  rest : ArePending depth fs (with_said said (record now { fields = now.fields ++ f ∷ [] })) then

skipped : (depth : ℕ) (t k : Topic) (f : ExtFields) (fs : List ExtFields) (now then : Option Said) → topic_of f.kind ≡ k
    → is_topic t k ≡ false → Pending depth t (values_of t (f ∷ fs)) now then → Pending depth t (values_of t fs) now then
skipped depth t k f fs now then is another h =
    subst (λ b. Pending depth t (cond b (f.value ∷ values_of t fs) (values_of t fs)) now then)
    (ap (is_topic t) is ∙ another) h

reached : (depth : ℕ) (t : Topic) (f : ExtFields) (fs : List ExtFields) (now then : Option Said) → topic_of f.kind ≡ t
    → is_topic t t ≡ true → Pending depth t (values_of t (f ∷ fs)) now then
    → Next depth t f.value (values_of t fs) now then
reached depth t f fs now then is own h = next_of depth t f.value (values_of t fs) now then
    (subst (λ b. Pending depth t (cond b (f.value ∷ values_of t fs) (values_of t fs)) now then)
    (ap (is_topic t) is ∙ own) h)

-- the value of another topic is one whole element, which is not read
unread_at : (depth : ℕ) (f : ExtFields) → KeepsExtField depth f → IsSaidAt (depth + 2) Other f.value Unread
unread_at depth f h = record { tag = h.tag; content = h.content; stands = h.stands; spelled = tt }

goes_as : (k : Topic) (depth : ℕ) (f : ExtFields) (fs : List ExtFields) (now then : Extensions) → topic_of f.kind ≡ k
    → KeepsExtField depth f → ArePending (depth + 2) (f ∷ fs) now then → Goes (depth + 2) f fs now then
goes_as ExpansionHistory depth f fs now then is kept h =
    let n = reached (depth + 2) ExpansionHistory f fs (history_said now.history)
    (history_said then.history) is refl h.history in
    let x = history_kind (depth + 2) f.value n.said n.by in
    record {
      said = History x.0;
      first = subst (λ t. is_held t (held_of now) ≡ false) (sym is) (no_history now.history n.first);
      by = subst (λ t. IsSaidAt (depth + 2) t f.value (History x.0)) (sym is)
          (subst (IsSaidAt (depth + 2) ExpansionHistory f.value) x.1 n.by);
      rest = record {
        history = subst (λ s. Pending (depth + 2) ExpansionHistory (values_of ExpansionHistory fs) (some_said s)
            (history_said then.history)) x.1 n.rest;
        latest = skipped (depth + 2) LatestDelivery ExpansionHistory f fs (latest_said now.latest)
            (latest_said then.latest) is refl h.latest;
        prohibited = skipped (depth + 2) ExpansionProhibited ExpansionHistory f fs (prohibited_said now.prohibited)
            (prohibited_said then.prohibited) is refl h.prohibited;
      };
    }
goes_as LatestDelivery depth f fs now then is kept h =
    let n = reached (depth + 2) LatestDelivery f fs (latest_said now.latest)
    (latest_said then.latest) is refl h.latest in
    let x = latest_kind (depth + 2) f.value n.said n.by in
    record {
      said = Latest x.0;
      first = subst (λ t. is_held t (held_of now) ≡ false) (sym is) (no_latest now.latest n.first);
      by = subst (λ t. IsSaidAt (depth + 2) t f.value (Latest x.0)) (sym is)
          (subst (IsSaidAt (depth + 2) LatestDelivery f.value) x.1 n.by);
      rest = record {
        history = skipped (depth + 2) ExpansionHistory LatestDelivery f fs (history_said now.history)
            (history_said then.history) is refl h.history;
        latest = subst (λ s. Pending (depth + 2) LatestDelivery (values_of LatestDelivery fs) (some_said s)
            (latest_said then.latest)) x.1 n.rest;
        prohibited = skipped (depth + 2) ExpansionProhibited LatestDelivery f fs (prohibited_said now.prohibited)
            (prohibited_said then.prohibited) is refl h.prohibited;
      };
    }
goes_as ExpansionProhibited depth f fs now then is kept h =
    let n = reached (depth + 2) ExpansionProhibited f fs (prohibited_said now.prohibited)
    (prohibited_said then.prohibited) is refl h.prohibited in
    let x = prohibited_kind (depth + 2) f.value n.said n.by in
    record {
      said = Prohibited x.0;
      first = subst (λ t. is_held t (held_of now) ≡ false) (sym is) (no_prohibited now.prohibited n.first);
      by = subst (λ t. IsSaidAt (depth + 2) t f.value (Prohibited x.0)) (sym is)
          (subst (IsSaidAt (depth + 2) ExpansionProhibited f.value) x.1 n.by);
      rest = record {
        history = skipped (depth + 2) ExpansionHistory ExpansionProhibited f fs (history_said now.history)
            (history_said then.history) is refl h.history;
        latest = skipped (depth + 2) LatestDelivery ExpansionProhibited f fs (latest_said now.latest)
            (latest_said then.latest) is refl h.latest;
        prohibited = subst (λ s. Pending (depth + 2) ExpansionProhibited (values_of ExpansionProhibited fs)
            (some_said s) (prohibited_said then.prohibited)) x.1 n.rest;
      };
    }
goes_as Other depth f fs now then is kept h = record {
  said = Unread;
  first = ap (λ t. is_held t (held_of now)) is;
  by = subst (λ t. IsSaidAt (depth + 2) t f.value Unread) (sym is) (unread_at depth f kept);
  rest = record {
    history = skipped (depth + 2) ExpansionHistory Other f fs (history_said now.history)
        (history_said then.history) is refl h.history;
    latest = skipped (depth + 2) LatestDelivery Other f fs (latest_said now.latest)
        (latest_said then.latest) is refl h.latest;
    prohibited = skipped (depth + 2) ExpansionProhibited Other f fs (prohibited_said now.prohibited)
        (prohibited_said then.prohibited) is refl h.prohibited;
  };
}

-- ---- all of them

abbrev told_by : ExtFields → Said → Told
told_by f s = record { field = f; said = s }

field_there : (depth : ℕ) (f : ExtFields) (now : Extensions) (s : Said) → IsExtField f
    → is_held (topic_of f.kind) (held_of now) ≡ false → IsSaidAt (depth + 2) (topic_of f.kind) f.value s
    → depth + 2 ≤ 16
    → length (canonical_ext f) < 2 ^ 64
    → IsComponent MakesExtension depth now (canonical_ext f)
    (with_said s (record now { fields = now.fields ++ f ∷ [] }))
unfolding canonical_ext
field_there depth f now s h first by d short =
    component MakesExtension depth now (with_said s (record now { fields = now.fields ++ f ∷ [] })) (constructed 0 16)
    (ext_content f) (low_tag 0 16 true (omega arith) (omega arith)) (omega arith) short (record {
      is_sequence_tag = refl;
      puts = puts (SpellsField (held_of now) depth true (ext_content f)) (λ t. with_told t now) (told_by f s)
          (told_spelled depth (held_of now) f s h first by d (short_inside (constructed 0 16) (ext_content f) short));
    })

fields_of_said : (s : Said) (e : Extensions) → (with_said s e).fields ≡ e.fields
fields_of_said (History xs) e = refl
fields_of_said (Latest m) e = refl
fields_of_said (Prohibited b) e = refl
fields_of_said Unread e = refl

same_extensions : (a b : Extensions) → a.fields ≡ b.fields → a.history ≡ b.history → a.latest ≡ b.latest
    → a.prohibited ≡ b.prohibited → a ≡ b
same_extensions a b f h l p = made a.fields b.fields a.history b.history a.latest b.latest a.prohibited b.prohibited f h
    l p
  where
    made : (f f' : List ExtFields) (h h' : Option (List ExpansionFields)) (l l' : Option ℕ) (p p' : Option Bool)
        → f ≡ f' → h ≡ h' → l ≡ l' → p ≡ p'
        → ◌≡◌ {A = Extensions} (record { fields = f; history = h; latest = l; prohibited = p })
        (record { fields = f'; history = h'; latest = l'; prohibited = p' })
    made f f' h h' l l' p p' a b c d = cc

fields_row : (depth : ℕ) → depth + 2 ≤ 16 → (fs : List ExtFields) (now then : Extensions) → then.fields ≡ now.fields
    ++ fs → Each IsExtField fs → Each (KeepsExtField depth) fs → ArePending (depth + 2) fs now then
    → length (flat_map canonical_ext fs) < 2 ^ 64 → IsRow MakesExtension depth now (flat_map canonical_ext fs) then
fields_row depth d [] now then is valid kept h short =
    let same = same_extensions now then (sym (is ∙ append-nil now.fields))
    (same_history now.history then.history h.history) (same_latest now.latest then.latest h.latest)
    (same_prohibited now.prohibited then.prohibited h.prohibited) in
    subst (λ (t : Extensions). IsRow MakesExtension depth now [] t) same (no_row MakesExtension depth now)
fields_row depth d (f ∷ fs) now then is valid kept h short =
    let g = goes_as (topic_of f.kind) depth f fs now then refl kept.0 h in
    let next : Extensions = with_said g.said (record now { fields = now.fields ++ f ∷ [] }) in
    let more : then.fields ≡ next.fields ++ fs = is ∙ sym (append_assoc now.fields (f ∷ []) fs)
    ∙ ap (λ xs. xs ++ fs) (sym (fields_of_said g.said (record now { fields = now.fields ++ f ∷ [] }))) in
    row_more MakesExtension depth now next then (canonical_ext f) (flat_map canonical_ext fs)
    (field_there depth f now g.said valid.0 g.first g.by d
    (short_front (canonical_ext f) (flat_map canonical_ext fs) short))
    (fields_row depth d fs next then
    more valid.1 kept.1 g.rest (short_back (canonical_ext f) (flat_map canonical_ext fs) short))

pub extensions_spelled : (depth : ℕ) (s : Extensions) → AreToldAt depth s → depth + 3 ≤ 16
    → length (flat_map canonical_ext s.fields) < 2 ^ 64
    → SpellsExtensions depth true (flat_map canonical_ext s.fields) s
extensions_spelled depth s h d short =
    let level : depth + 3 ≡ depth + 1 + 2 = omega arith in
    let pending : ArePending (depth + 1 + 2) s.fields no_extensions s =
    subst (λ k. ArePending k s.fields no_extensions s) level (record {
      history = at_first (depth + 3) ExpansionHistory (values_of ExpansionHistory s.fields)
          (history_said s.history) h.history;
      latest = at_first (depth + 3) LatestDelivery (values_of LatestDelivery s.fields) (latest_said s.latest) h.latest;
      prohibited = at_first (depth + 3) ExpansionProhibited (values_of ExpansionProhibited s.fields)
          (prohibited_said s.prohibited) h.prohibited;
    }) in
    record {
      is_constructed = refl;
      spelled = row_spelled MakesExtension depth no_extensions s (flat_map canonical_ext s.fields)
          (fields_row (depth + 1) (omega arith) s.fields no_extensions s refl h.fields h.kept pending short);
    }

pub envelope_extensions_again : EnvelopeExtensionsAreReadAgain
envelope_extensions_again tag depth s low is h d =
    content_again extensions_in SpellsExtensions extensions_full depth tag (flat_map canonical_ext s.fields) s low is
    (omega arith) (extensions_spelled depth s h d)
