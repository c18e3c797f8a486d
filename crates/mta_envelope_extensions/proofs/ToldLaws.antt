-- The extension fields of an envelope are read exactly where they are spelled, and what is said is what the kept values
-- say.
use Rattle.std.proofs.Common.{◌≡◌, ℕ, Bool, true, false, cond, List, [], ◌∷◌, ◌++◌, Option, Some, None, Ok, refl, sym}
use Rattle.std.proofs.Common.{ap, subst, ◌∙◌}
use Rattle.std.specs.Prelude.{is_some}
use Rattle.mta_ber.specs.declared.fault.Kind.TheVariants.{BadTag}
use Rattle.mta_ber.specs.Element.{Part}
use Rattle.mta_ber.specs.Head.{◌>>=◌, fault}
use Rattle.mta_ber.specs.Octet.{IsOctets}
use Rattle.mta_ber.proofs.ComponentLaws.{StepSound, StepFull}
use Rattle.mta_ber.proofs.Steps.{taken}
use Rattle.mta_names.specs.Lists.{is_sequence}
use Rattle.mta_names.proofs.Tools.{puts_sound, puts_full, components_sound, components_full, Keeps, spelled_keep}
use Rattle.mta_fields.specs.declared.extension.ExtFields.{ExtFields}
use Rattle.mta_envelope_extensions.specs.declared.value.Topic.{Topic}
use Rattle.mta_envelope_extensions.specs.declared.value.Topic.TheVariants.{ExpansionHistory, LatestDelivery}
use Rattle.mta_envelope_extensions.specs.declared.value.Topic.TheVariants.{ExpansionProhibited, Other}
use Rattle.mta_envelope_extensions.specs.declared.value.Said.{Said}
use Rattle.mta_envelope_extensions.specs.declared.value.Said.TheVariants.{History, Latest, Prohibited, Unread}
use Rattle.mta_envelope_extensions.specs.declared.extensions.Extensions.{Extensions}
use Rattle.mta_envelope_extensions.specs.Topics.{topic_of, IsSaidBy}
use Rattle.mta_envelope_extensions.specs.Fields.{is_held, field_in, SpellsField}
use Rattle.mta_envelope_extensions.specs.Told.{held_of, with_said, with_told, answer, extension_step, no_extensions}
use Rattle.mta_envelope_extensions.specs.Told.{extensions_in, MakesExtension, SpellsExtensions, is_topic, values_of}
use Rattle.mta_envelope_extensions.specs.Told.{Says, history_said, latest_said, prohibited_said, AreTold}
use Rattle.mta_envelope_extensions.proofs.FieldLaws.{field_sound, field_full, field_is}

step_sound : StepSound extension_step MakesExtension
unfolding extension_step
step_sound s t p shallow content octets e =
    let c = taken (is_sequence p.tag) (field_in (held_of s) p >>= λ x. answer (with_told x s))
    (record { at = p.at; kind = BadTag }) t e in
    record {
      is_sequence_tag = c.0;
      puts = puts_sound (field_in (held_of s) p) (λ x. with_told x s) t
          (SpellsField (held_of s) p.depth p.tag.constructed p.content)
          (λ x r. field_sound (held_of s) x p content r) c.1;
    }

step_full : StepFull extension_step MakesExtension
unfolding extension_step
step_full s t p shallow h =
    ap (λ b. cond b (field_in (held_of s) p >>= λ x. answer (with_told x s)) (fault p.at BadTag)) h.is_sequence_tag
    ∙ puts_full (field_in (held_of s) p) (λ x. with_told x s) t
    (SpellsField (held_of s) p.depth p.tag.constructed p.content) (λ x r. field_full (held_of s) x p r) h.puts

pub extensions_sound : (s : Extensions) (p : Part) → IsOctets p.content → extensions_in p ≡ Ok s
    → SpellsExtensions p.depth p.tag.constructed p.content s
unfolding extensions_in
extensions_sound s p octets e =
    let c = components_sound extension_step MakesExtension step_sound no_extensions s p octets e in
    record { is_constructed = c.0; spelled = c.1 }

pub extensions_full : (s : Extensions) (p : Part) → SpellsExtensions p.depth p.tag.constructed p.content s
    → extensions_in p ≡ Ok s
unfolding extensions_in
extensions_full s p h = components_full extension_step MakesExtension step_full no_extensions s p h.is_constructed
    h.spelled

-- ---- what is said

-- a value more in front, or none
in_front : (b : Bool) (v : List ℕ) (vs ws : List (List ℕ)) → vs ≡ ws → cond b (v ∷ vs) vs ≡ cond b (v ∷ ws) ws
in_front true v vs ws h = ap (λ xs. v ∷ xs) h
in_front false v vs ws h = h

behind : (b : Bool) (v w : List ℕ) (vs ws : List (List ℕ)) → vs ≡ ws ++ w ∷ [] → cond b (v ∷ vs) vs ≡ cond b (v ∷ ws) ws
    ++ w ∷ []
behind true v w vs ws h = ap (λ xs. v ∷ xs) h
behind false v w vs ws h = h

-- one field more that is not of the topic
pub values_same : (t : Topic) (fs : List ExtFields) (f : ExtFields) → is_topic t (topic_of f.kind) ≡ false
    → values_of t (fs ++ f ∷ []) ≡ values_of t fs
values_same t [] f h = ap (λ b. cond b (f.value ∷ []) []) h
values_same t (g ∷ fs) f h = in_front (is_topic t (topic_of g.kind)) g.value (values_of t (fs ++ f ∷ []))
    (values_of t fs) (values_same t fs f h)

-- and one that is
pub values_more : (t : Topic) (fs : List ExtFields) (f : ExtFields) → is_topic t (topic_of f.kind) ≡ true
    → values_of t (fs ++ f ∷ []) ≡ values_of t fs ++ f.value ∷ []
values_more t [] f h = ap (λ b. cond b (f.value ∷ []) []) h
values_more t (g ∷ fs) f h = behind (is_topic t (topic_of g.kind)) g.value f.value (values_of t (fs ++ f ∷ []))
    (values_of t fs) (values_more t fs f h)

says_same : (t : Topic) (fs : List ExtFields) (f : ExtFields) (o : Option Said) → is_topic t (topic_of f.kind) ≡ false
    → Says t (values_of t fs) o → Says t (values_of t (fs ++ f ∷ [])) o
says_same t fs f o h k = subst (λ vs. Says t vs o) (sym (values_same t fs f h)) k

said_none : (t : Topic) (vs : List (List ℕ)) → Says t vs None → vs ≡ []
said_none t [] h = refl
said_none t (v ∷ []) h = absurd h
said_none t (v ∷ w ∷ vs) h = absurd h

says_first : (t : Topic) (fs : List ExtFields) (f : ExtFields) (s : Said) → is_topic t (topic_of f.kind) ≡ true
    → Says t (values_of t fs) None → IsSaidBy t f.value s → Says t (values_of t (fs ++ f ∷ [])) (Some s)
says_first t fs f s h k said =
    let one : values_of t (fs ++ f ∷ []) ≡ f.value ∷ [] = values_more t fs f h
    ∙ ap (λ vs. vs ++ f.value ∷ []) (said_none t (values_of t fs) k) in
    subst (λ vs. Says t vs (Some s)) (sym one) said

none_so : {A : Type 0} (o : Option A) → is_some o ≡ false → o ≡ None
none_so None e = refl
none_so (Some x) e = absurd cc

-- a field whose topic is k
told_as : (k : Topic) (s : Extensions) (f : ExtFields) (said : Said) → topic_of f.kind ≡ k
    → is_held k (held_of s) ≡ false → IsSaidBy k f.value said → AreTold s
    → AreTold (with_said said (record s { fields = s.fields ++ f ∷ [] }))
told_as ExpansionHistory s f (History xs) is first by h = record {
  history = says_first ExpansionHistory s.fields f (History xs) (ap (is_topic ExpansionHistory) is)
      (subst (λ o. Says ExpansionHistory (values_of ExpansionHistory s.fields) (history_said o))
      (none_so s.history first) h.history) by;
  latest = says_same LatestDelivery s.fields f (latest_said s.latest) (ap (is_topic LatestDelivery) is) h.latest;
  prohibited = says_same ExpansionProhibited s.fields f (prohibited_said s.prohibited)
      (ap (is_topic ExpansionProhibited) is) h.prohibited;
}
told_as LatestDelivery s f (Latest m) is first by h = record {
  history = says_same ExpansionHistory s.fields f (history_said s.history)
      (ap (is_topic ExpansionHistory) is) h.history;
  latest = says_first LatestDelivery s.fields f (Latest m) (ap (is_topic LatestDelivery) is)
      (subst (λ o. Says LatestDelivery (values_of LatestDelivery s.fields) (latest_said o))
      (none_so s.latest first) h.latest) by;
  prohibited = says_same ExpansionProhibited s.fields f (prohibited_said s.prohibited)
      (ap (is_topic ExpansionProhibited) is) h.prohibited;
}
told_as ExpansionProhibited s f (Prohibited b) is first by h = record {
  history = says_same ExpansionHistory s.fields f (history_said s.history)
      (ap (is_topic ExpansionHistory) is) h.history;
  latest = says_same LatestDelivery s.fields f (latest_said s.latest) (ap (is_topic LatestDelivery) is) h.latest;
  prohibited = says_first ExpansionProhibited s.fields f (Prohibited b) (ap (is_topic ExpansionProhibited) is)
      (subst (λ o. Says ExpansionProhibited (values_of ExpansionProhibited s.fields) (prohibited_said o))
      (none_so s.prohibited first) h.prohibited) by;
}
told_as Other s f Unread is first by h = record {
  history = says_same ExpansionHistory s.fields f (history_said s.history)
      (ap (is_topic ExpansionHistory) is) h.history;
  latest = says_same LatestDelivery s.fields f (latest_said s.latest) (ap (is_topic LatestDelivery) is) h.latest;
  prohibited = says_same ExpansionProhibited s.fields f (prohibited_said s.prohibited)
      (ap (is_topic ExpansionProhibited) is) h.prohibited;
}
told_as ExpansionHistory s f (Latest m) is first by h = absurd by.spelled
told_as ExpansionHistory s f (Prohibited b) is first by h = absurd by.spelled
told_as ExpansionHistory s f Unread is first by h = absurd by.spelled
told_as LatestDelivery s f (History xs) is first by h = absurd by.spelled
told_as LatestDelivery s f (Prohibited b) is first by h = absurd by.spelled
told_as LatestDelivery s f Unread is first by h = absurd by.spelled
told_as ExpansionProhibited s f (History xs) is first by h = absurd by.spelled
told_as ExpansionProhibited s f (Latest m) is first by h = absurd by.spelled
told_as ExpansionProhibited s f Unread is first by h = absurd by.spelled
told_as Other s f (History xs) is first by h = absurd by.spelled
told_as Other s f (Latest m) is first by h = absurd by.spelled
told_as Other s f (Prohibited b) is first by h = absurd by.spelled

keeps : Keeps MakesExtension AreTold
keeps depth s t tag content octets stands m h =
    let x = m.puts.value in
    let f = field_is (held_of s) depth tag.constructed content x m.puts.value_spelled in
    subst AreTold (sym m.puts.after_is) (told_as (topic_of x.field.kind) s x.field x.said refl f.first f.said h)

pub extensions_are : (depth : ℕ) (c : Bool) (content : List ℕ) (s : Extensions) → SpellsExtensions depth c content s
    → AreTold s
extensions_are depth c content s h = spelled_keep MakesExtension AreTold keeps depth no_extensions s content h.spelled
    (record { history = tt; latest = tt; prohibited = tt })
