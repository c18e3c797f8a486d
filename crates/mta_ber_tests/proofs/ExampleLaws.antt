-- The example: a step answers exactly what a component makes, and so a note is read exactly where it is spelled.
use Rattle.std.proofs.Common.{◌≡◌, ◌≢◌, ℕ, true, false, cond, eqb, List, Option, Some, Result, Ok, refl, sym, ap, subst}
use Rattle.std.proofs.Common.{◌∙◌, arith, inl, inr, ℤ, pos}
use Rattle.std.specs.Prelude.{unwrap_or}
use Rattle.std.proofs.lemmas.Bool.{eqb-true, ne_eqb}
use Rattle.mta_ber.specs.declared.fault.Fault.{Fault}
use Rattle.mta_ber.specs.declared.tag.Tag.{Tag}
use Rattle.mta_ber.specs.declared.text.TextClass.TheVariants.{Printable}
use Rattle.mta_ber_tests.specs.declared.note.Note.{Note}
use Rattle.mta_ber_tests.specs.declared.note.NoteParts.{NoteParts}
use Rattle.mta_ber.specs.declared.fault.Kind.TheVariants.{BadTag}
use Rattle.mta_ber.specs.Head.{◌>>=◌, fault}
use Rattle.mta_ber.specs.Octet.{IsOctets}
use Rattle.mta_ber.specs.Element.{Part}
use Rattle.mta_ber.specs.Parts.{components, parts_of, is_tag, required}
use Rattle.mta_ber.specs.Strings.{text_in}
use Rattle.mta_ber.specs.Int.{int_in}
use Rattle.mta_ber.specs.Bits.{BitString, bits_in}
use Rattle.mta_ber_tests.specs.Example.{note_step, no_note, note_in, MakesNote, SpellsNote}
use Rattle.mta_ber.proofs.HeadLaws.{and_true}
use Rattle.mta_ber.proofs.Steps.{bind_ok, chosen, ok_is, placed, taken, required_so}
use Rattle.mta_ber.proofs.StringLaws.{text_sound, text_full, bits_in_sound, bits_in_full}
use Rattle.mta_ber.proofs.IntLaws.{int_sound, int_full}
use Rattle.mta_ber.proofs.ComponentLaws.{StepSound, StepFull, parts_sound, parts_full}

-- a tag with one number has no other
pub other_tag : (class n m : ℕ) (t : Tag) → is_tag class n t ≡ true → n ≢ m → is_tag class m t ≡ false
other_tag class n m t e ne =
    let a = and_true (eqb t.class class) (eqb t.number n) e in
    let number = eqb-true t.number n a.1 in
    let no : eqb t.number m ≡ false = ne_eqb t.number m (λ k. ne (sym number ∙ k)) in
    rw (a.0, no) refl

abbrev note : List ℕ → ℤ → Option BitString → Note
note t n b = record { title = t; count = n; flags = b }

note_is : (t : List ℕ) (n n' : ℤ) (b b' : Option BitString) → n ≡ n' → b ≡ b' → note t n b ≡ note t n' b'
note_is t n n' b b' e f = cc

abbrev finished : ℕ → NoteParts → Result Note Fault
finished at s = required s.title at >>= λ t. Ok (note t (unwrap_or s.count (pos 0)) s.flags)

step_sound : StepSound note_step MakesNote
unfolding note_step
step_sound s t p shallow content octets e =
    elim (chosen (is_tag 2 0 p.tag) _ _ _ e) [
      | inl y ↦ (let q = placed s.title p.at (text_in Printable 1 20 p) (λ x. record s { title = Some x }) t y.1 in
          inl (record {
            is_tag_of = y.0;
            absent = q.1;
            title = q.0;
            spelled =
                text_sound Printable 1 20 p q.0 shallow content q.2;
            after_is = sym q.3;
          }))
      | inr n ↦ elim (chosen (is_tag 2 1 p.tag) _ _ _ n.1) [
        | inl y ↦ (let q = placed s.count p.at (int_in p.at p.tag.constructed (pos 0) (pos 100) p.content)
            (λ x. record s { count = Some x }) t y.1 in
            inr (inl (record {
              is_tag_of = y.0;
              absent = q.1;
              count = q.0;
              spelled =
                  int_sound p.at p.tag.constructed (pos 0) (pos 100) p.content q.0 q.2;
              after_is = sym q.3;
            })))
        | inr n ↦ elim (chosen (is_tag 2 2 p.tag) _ _ _ n.1) [
          | inl y ↦ (let q = placed s.flags p.at (bits_in p) (λ x. record s { flags = Some x }) t y.1 in
              inr (inr (record {
                is_tag_of = y.0;
                absent = q.1;
                flags = q.0;
                spelled =
                    bits_in_sound p q.0 shallow content q.2;
                after_is = sym q.3;
              })))
          | inr n ↦ absurd (cc n.1)
        ]
      ]
    ]

step_full : StepFull note_step MakesNote
unfolding note_step
step_full s t p shallow h =
    elim h [
      | inl a ↦ (let r = text_full Printable 1 20 p a.title shallow a.spelled in
          rw (a.is_tag_of, a.absent, r) (ap (λ (x : NoteParts). Ok x) (sym a.after_is)))
      | inr h ↦ elim h [
        | inl a ↦ (
            let no : is_tag 2 0 p.tag ≡ false = other_tag 2 1 0 p.tag a.is_tag_of (λ e. omega arith) in
            let r = int_full p.at p.tag.constructed (pos 0) (pos 100) p.content a.count a.spelled in
            rw (no, a.is_tag_of, a.absent, r) (ap (λ (x : NoteParts). Ok x) (sym a.after_is)))
        | inr a ↦ (
            let no : is_tag 2 0 p.tag ≡ false = other_tag 2 2 0 p.tag a.is_tag_of (λ e. omega arith) in
            let nor : is_tag 2 1 p.tag ≡ false = other_tag 2 2 1 p.tag a.is_tag_of (λ e. omega arith) in
            let r = bits_in_full p a.flags shallow a.spelled in
            rw (no, nor, a.is_tag_of, a.absent, r) (ap (λ (x : NoteParts). Ok x) (sym a.after_is)))
      ]
    ]

pub note_sound : (p : Part) (v : Note) → IsOctets p.content → note_in p ≡ Ok v
    → SpellsNote p.depth p.tag.constructed p.content v
unfolding note_in
note_sound p v octets e =
    let a = bind_ok (components note_step no_note p)
    (λ s. required s.title p.at >>= λ t. Ok
    (record { title = t; count = unwrap_or s.count (pos 0); flags = s.flags })) v e in
    let c = taken p.tag.constructed (parts_of note_step no_note p) _ a.0 a.1 in
    let b = bind_ok (required a.0.title p.at) (λ t. Ok (note t (unwrap_or a.0.count (pos 0)) a.0.flags)) v a.2 in
    let same = ok_is (note b.0 (unwrap_or a.0.count (pos 0)) a.0.flags) v b.2 in
    subst (λ (x : Note). SpellsNote p.depth p.tag.constructed p.content x) same (record {
      is_constructed = c.0;
      parts = a.0;
      spelled = parts_sound note_step MakesNote step_sound no_note a.0 p octets c.1;
      title = required_so a.0.title p.at b.0 b.1;
      count = refl;
      flags = refl;
    })

pub note_full : (p : Part) (v : Note) → SpellsNote p.depth p.tag.constructed p.content v → note_in p ≡ Ok v
unfolding note_in
note_full p v h =
    let r = parts_full note_step MakesNote step_full no_note h.parts p h.spelled in
    ap (λ b. cond b (parts_of note_step no_note p) (fault p.at BadTag) >>= finished p.at) h.is_constructed
    ∙ ap (λ x. x >>= finished p.at) r
    ∙ ap (λ o. required o p.at >>= λ t. Ok (note t (unwrap_or h.parts.count (pos 0)) h.parts.flags)) h.title
    ∙ ap (λ (x : Note). Ok x) (note_is v.title (unwrap_or h.parts.count (pos 0)) v.count h.parts.flags v.flags
    (sym h.count) (sym h.flags))
