-- Binds are read exactly where they are spelled.
use Rattle.std.proofs.Common.{◌≡◌, ℕ, cond, List, [], ◌∷◌, Option, Result, Ok, refl, sym, ap, ◌∙◌, inl, inr}
use Rattle.mta_ber.specs.declared.fault.Fault.{Fault}
use Rattle.mta_ber.specs.declared.fault.Kind.TheVariants.{BadSize}
use Rattle.mta_ber.specs.Forms.{is_constructed_tag}
use Rattle.mta_ber.specs.Head.{◌>>=◌, fault}
use Rattle.mta_ber.specs.Element.{Part}
use Rattle.mta_ber.specs.Parts.{components, is_tag, required}
use Rattle.mta_ber.proofs.Steps.{bind_ok, chosen, ok_is, required_so}
use Rattle.mta_ber.proofs.ComponentLaws.{StepSound, StepFull}
use Rattle.mta_ber.proofs.ExplicitLaws.{ReadSound, ReadFull, explicit_sound, explicit_full}
use Rattle.mta_ber.specs.declared.text.TextClass.TheVariants.{Ia5}
use Rattle.mta_ber.specs.Strings.{is_empty}
use Rattle.mta_ber.proofs.StringLaws.{text_sound, text_full}
use Rattle.mta_rtse.specs.declared.bind.BindParts.{BindParts}
use Rattle.mta_rtse.specs.declared.types.Request.{Request}
use Rattle.mta_rtse.specs.declared.types.Request.TheVariants.{Null, Bind}
use Rattle.mta_rtse.specs.Values.{word_in}
use Rattle.mta_rtse.specs.Bind.{longest_password, password_in, explicit_password_in, bind_step, no_bind, bind_in}
use Rattle.mta_rtse.specs.Bind.{null_in, open_in}
use Rattle.mta_rtse.specs.Spelling.{SpellsPassword, SpellsCredentials, MakesBind, SpellsBind, SpellsNull, SpellsOpened}
use Rattle.mta_rtse.proofs.Slots.{not_tag, is_plain, not_formed, pick, pass, fills_sound, fills_full, components_sound}
use Rattle.mta_rtse.proofs.Slots.{components_full}
use Rattle.mta_rtse.proofs.ValueLaws.{short_sound, short_full, word_sound, word_full, nothing_read, anything_sound}
use Rattle.mta_rtse.proofs.ValueLaws.{anything_full}

password_sound : ReadSound password_in SpellsPassword
unfolding password_in
password_sound o p shallow octets own e =
    elim (chosen (is_tag 0 22 p.tag) _ _ _ e) [
      | inl y ↦ inl (record { is_tag_of = y.0; spelled = text_sound Ia5 0 longest_password p o shallow octets y.1 })
      | inr n ↦ elim (chosen (is_tag 0 4 p.tag) _ _ _ n.1) [
        | inl y ↦ inr (record { is_tag_of = y.0; spelled = short_sound longest_password o p shallow octets own y.1 })
        | inr n ↦ absurd (cc n.1)
      ]
    ]

password_full : ReadFull password_in SpellsPassword
unfolding password_in
password_full o p shallow (inl a) = pick _ a.is_tag_of (text_full Ia5 0 longest_password p o shallow a.spelled)
password_full o p shallow (inr a) =
    pass _ (not_tag 0 4 0 22 p.tag a.is_tag_of refl)
    (pick _ a.is_tag_of (short_full longest_password o p shallow a.spelled))

credentials_sound : ReadSound explicit_password_in SpellsCredentials
unfolding explicit_password_in
credentials_sound o p shallow octets own e = explicit_sound password_in SpellsPassword password_sound o p octets e

credentials_full : ReadFull explicit_password_in SpellsCredentials
unfolding explicit_password_in
credentials_full o p shallow h = explicit_full password_in SpellsPassword password_full o p h

step_sound : StepSound bind_step MakesBind
unfolding bind_step
step_sound s t p shallow octets own e =
    elim (chosen (is_tag 2 0 p.tag) _ _ _ e) [
      | inl y ↦ inl (fills_sound word_in word_sound s t p shallow octets own y.0 y.1)
      | inr n ↦ elim (chosen (is_constructed_tag 2 1 p.tag) _ _ _ n.1) [
        | inl y ↦ inr (inl (fills_sound explicit_password_in credentials_sound s t p shallow octets own y.0 y.1))
        | inr n ↦ elim (chosen (is_tag 2 2 p.tag) _ _ _ n.1) [
          | inl y ↦ inr (inr (fills_sound nothing_read anything_sound s t p shallow octets own y.0 y.1))
          | inr n ↦ absurd (cc n.1)
        ]
      ]
    ]

step_full : StepFull bind_step MakesBind
unfolding bind_step
step_full s t p shallow (inl a) = pick _ a.is_tag_of (fills_full word_in word_full s t p shallow a)
step_full s t p shallow (inr (inl a)) =
    pass _ (not_tag 2 1 2 0 p.tag (is_plain 2 1 p.tag p.tag.constructed a.is_tag_of) refl)
    (pick _ a.is_tag_of (fills_full explicit_password_in credentials_full s t p shallow a))
step_full s t p shallow (inr (inr a)) =
    pass _ (not_tag 2 2 2 0 p.tag a.is_tag_of refl)
    (pass _ (not_formed 2 2 2 1 p.tag p.tag.constructed a.is_tag_of refl)
    (pick _ a.is_tag_of (fills_full nothing_read anything_full s t p shallow a)))

abbrev with_password : ℕ → List ℕ → Option (List ℕ) → Result Request Fault
with_password at name password = required password at >>= λ o. Ok (Bind name o)

abbrev finished : ℕ → BindParts → Result Request Fault
finished at s = required s.name at >>= λ w. with_password at w s.password

bind_sound : ReadSound bind_in SpellsBind
unfolding bind_in
bind_sound v p shallow octets own e =
    let a = bind_ok (components bind_step no_bind p) (finished p.at) v e in
    let c = components_sound bind_step MakesBind step_sound no_bind a.0 p octets a.1 in
    let b = bind_ok (required a.0.name p.at) (λ w. with_password p.at w a.0.password) v a.2 in
    let d = bind_ok (required a.0.password p.at) (λ o. Ok (Bind b.0 o)) v b.2 in
    record {
      is_constructed = c.0;
      parts = a.0;
      spelled = c.1;
      name = b.0;
      password = d.0;
      name_is = required_so a.0.name p.at b.0 b.1;
      password_is = required_so a.0.password p.at d.0 d.1;
      value = sym (ok_is (Bind b.0 d.0) v d.2);
    }

bind_full : ReadFull bind_in SpellsBind
unfolding bind_in
bind_full v p shallow h =
    ap (λ r. r >>= finished p.at) (components_full bind_step MakesBind step_full no_bind h.parts p h.is_constructed
    h.spelled)
    ∙ ap (λ o. required o p.at >>= λ w. with_password p.at w h.parts.password) h.name_is
    ∙ ap (λ o. with_password p.at h.name o) h.password_is
    ∙ ap (λ (x : Request). Ok x) (sym h.value)

empty_so : (l : List ℕ) (v : Request) (at : ℕ) → cond (is_empty l) (Ok Null) (fault at BadSize) ≡ Ok v → (l ≡ [])
    × (v ≡ Null)
empty_so [] v at e = (refl, sym (ok_is Null v e))
empty_so (b ∷ bs) v at e = absurd cc

null_sound : (v : Request) (p : Part) → null_in p ≡ Ok v → SpellsNull p.tag p.content v
unfolding null_in
null_sound v p e =
    elim (chosen p.tag.constructed _ _ _ e) [
      | inl y ↦ absurd (cc y.1)
      | inr n ↦ (let q = empty_so p.content v p.at n.1 in record { is_primitive = n.0; nothing = q.0; value = q.1 })
    ]

null_full : (v : Request) (p : Part) → SpellsNull p.tag p.content v → null_in p ≡ Ok v
unfolding null_in
null_full v p h = pass _ h.is_primitive (ap (λ l. cond (is_empty l) (Ok Null) (fault p.at BadSize)) h.nothing
    ∙ ap (λ (x : Request). Ok x) (sym h.value))

pub opened_sound : ReadSound open_in SpellsOpened
unfolding open_in
opened_sound v p shallow octets own e =
    elim (chosen (is_tag 0 5 p.tag) _ _ _ e) [
      | inl y ↦ inl (y.0, null_sound v p y.1)
      | inr n ↦ elim (chosen (is_tag 2 1 p.tag) _ _ _ n.1) [
        | inl y ↦ inr (y.0, bind_sound v p shallow octets own y.1)
        | inr n ↦ absurd (cc n.1)
      ]
    ]

pub opened_full : ReadFull open_in SpellsOpened
unfolding open_in
opened_full v p shallow (inl a) = pick _ a.0 (null_full v p a.1)
opened_full v p shallow (inr a) = pass _ (not_tag 2 1 0 5 p.tag a.0 refl) (pick _ a.0 (bind_full v p shallow a.1))
