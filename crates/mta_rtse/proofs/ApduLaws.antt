-- RTORQ, RTOAC, RTORJ and RTAB are read exactly where they are spelled.
use Rattle.std.proofs.Common.{◌≡◌, ℕ, Bool, true, false, cond, Result, Ok, refl, sym, ap, subst, ◌∙◌, inl, inr}
use Rattle.std.specs.Prelude.{unwrap_or, ◌&&◌, not}
use Rattle.mta_ber.specs.declared.fault.Fault.{Fault}
use Rattle.mta_ber.specs.declared.fault.Kind.TheVariants.{BadTag, Twice}
use Rattle.mta_ber.specs.Forms.{is_primitive_tag, is_constructed_tag}
use Rattle.mta_ber.specs.Head.{◌>>=◌, fault}
use Rattle.mta_ber.specs.Octet.{IsOctets}
use Rattle.mta_ber.specs.Element.{Part}
use Rattle.mta_ber.specs.Parts.{components, is_tag, required}
use Rattle.mta_ber.proofs.Steps.{bind_ok, chosen, ok_is, taken, required_so}
use Rattle.mta_ber.proofs.ComponentLaws.{StepSound, StepFull}
use Rattle.mta_ber.proofs.ExplicitLaws.{ReadSound, ReadFull}
use Rattle.mta_ber.proofs.HeadLaws.{and_true}
use Rattle.mta_rtse.specs.declared.request.RequestParts.{RequestParts}
use Rattle.mta_rtse.specs.declared.answer.AnswerParts.{AnswerParts}
use Rattle.mta_rtse.specs.declared.reason.ReasonParts.{ReasonParts}
use Rattle.mta_rtse.specs.declared.types.Request.{Request}
use Rattle.mta_rtse.specs.declared.types.Answer.{Answer}
use Rattle.mta_rtse.specs.declared.types.OpenRequest.{OpenRequest}
use Rattle.mta_rtse.specs.declared.types.OpenAnswer.{OpenAnswer}
use Rattle.mta_rtse.specs.Values.{number_in, flag_in}
use Rattle.mta_rtse.specs.Bind.{vacant}
use Rattle.mta_rtse.specs.Connection.{request_in, answer_in}
use Rattle.mta_rtse.specs.Request.{default_window, rtorq_step, no_request, rtorq_parts_in, rtorq_in}
use Rattle.mta_rtse.specs.Answer.{rtoac_step, no_answer, rtoac_parts_in, rtoac_in}
use Rattle.mta_rtse.specs.Reason.{reason_step, no_reason, reason_in, rtorj_in, rtab_in}
use Rattle.mta_rtse.specs.Spelling.{MakesRequest, SpellsRtorq, MakesAnswer, SpellsRtoac, MakesReason, SpellsReason}
use Rattle.mta_rtse.specs.Spelling.{SpellsRtorj, SpellsRtab}
use Rattle.mta_rtse.proofs.Slots.{not_tag, is_plain, not_formed, pick, pass, fills_sound, fills_full, components_sound}
use Rattle.mta_rtse.proofs.Slots.{components_full}
use Rattle.mta_rtse.proofs.ValueLaws.{number_sound, number_full, flag_sound, flag_full, nothing_read, anything_sound}
use Rattle.mta_rtse.proofs.ValueLaws.{anything_full}
use Rattle.mta_rtse.proofs.ConnectionLaws.{request_data_sound, request_data_full, answer_data_sound, answer_data_full}

-- ---- RTORQ

request_step_sound : StepSound rtorq_step MakesRequest
unfolding rtorq_step
request_step_sound s t p shallow octets own e =
    elim (chosen (is_primitive_tag 2 0 p.tag) _ _ _ e) [
      | inl y ↦ inl (fills_sound number_in number_sound s t p shallow octets own y.0 y.1)
      | inr n ↦ elim (chosen (is_primitive_tag 2 1 p.tag) _ _ _ n.1) [
        | inl y ↦ inr (inl (fills_sound number_in number_sound s t p shallow octets own y.0 y.1))
        | inr n ↦ elim (chosen (is_primitive_tag 2 2 p.tag) _ _ _ n.1) [
          | inl y ↦ inr (inr (inl (fills_sound flag_in flag_sound s t p shallow octets own y.0 y.1)))
          | inr n ↦ elim (chosen (is_constructed_tag 2 3 p.tag) _ _ _ n.1) [
            | inl y ↦ inr (inr (inr (inl (fills_sound request_in request_data_sound s t p shallow octets own y.0 y.1))))
            | inr n ↦ elim (chosen (is_tag 2 4 p.tag) _ _ _ n.1) [
              | inl y ↦ inr (inr (inr (inr (fills_sound nothing_read anything_sound s t p shallow octets own y.0 y.1))))
              | inr n ↦ absurd (cc n.1)
            ]
          ]
        ]
      ]
    ]

request_step_full : StepFull rtorq_step MakesRequest
unfolding rtorq_step
request_step_full s t p shallow (inl a) = pick _ a.is_tag_of (fills_full number_in number_full s t p shallow a)
request_step_full s t p shallow (inr (inl a)) =
    pass _ (not_formed 2 1 2 0 p.tag (not p.tag.constructed)
    (is_plain 2 1 p.tag (not p.tag.constructed) a.is_tag_of) refl)
    (pick _ a.is_tag_of (fills_full number_in number_full s t p shallow a))
request_step_full s t p shallow (inr (inr (inl a))) =
    pass _ (not_formed 2 2 2 0 p.tag (not p.tag.constructed)
    (is_plain 2 2 p.tag (not p.tag.constructed) a.is_tag_of) refl)
    (pass _ (not_formed 2 2 2 1 p.tag (not p.tag.constructed)
    (is_plain 2 2 p.tag (not p.tag.constructed) a.is_tag_of) refl)
    (pick _ a.is_tag_of (fills_full flag_in flag_full s t p shallow a)))
request_step_full s t p shallow (inr (inr (inr (inl a)))) =
    pass _ (not_formed 2 3 2 0 p.tag (not p.tag.constructed) (is_plain 2 3 p.tag (p.tag.constructed) a.is_tag_of) refl)
    (pass _ (not_formed 2 3 2 1 p.tag (not p.tag.constructed)
    (is_plain 2 3 p.tag (p.tag.constructed) a.is_tag_of) refl)
    (pass _ (not_formed 2 3 2 2 p.tag (not p.tag.constructed)
    (is_plain 2 3 p.tag (p.tag.constructed) a.is_tag_of) refl)
    (pick _ a.is_tag_of (fills_full request_in request_data_full s t p shallow a))))
request_step_full s t p shallow (inr (inr (inr (inr a)))) =
    pass _ (not_formed 2 4 2 0 p.tag (not p.tag.constructed) a.is_tag_of refl)
    (pass _ (not_formed 2 4 2 1 p.tag (not p.tag.constructed) a.is_tag_of refl)
    (pass _ (not_formed 2 4 2 2 p.tag (not p.tag.constructed) a.is_tag_of refl)
    (pass _ (not_formed 2 4 2 3 p.tag (p.tag.constructed) a.is_tag_of refl)
    (pick _ a.is_tag_of (fills_full nothing_read anything_full s t p shallow a)))))

abbrev open_request : ℕ → ℕ → Bool → Request → OpenRequest
open_request checkpoint window twa r = record { checkpoint = checkpoint; window = window; twa = twa; request = r }

abbrev requested : ℕ → RequestParts → Result OpenRequest Fault
requested at s = required s.request at >>= λ r. Ok
    (open_request (unwrap_or s.checkpoint 0) (unwrap_or s.window default_window) (unwrap_or s.twa false) r)

open_request_is : (c c' w w' : ℕ) (b b' : Bool) (r : Request) → c ≡ c' → w ≡ w' → b ≡ b'
    → open_request c w b r ≡ open_request c' w' b' r
open_request_is c c' w w' b b' r e f g = cc

pub rtorq_found : (v : OpenRequest) (p : Part) → IsOctets p.content → rtorq_in p ≡ Ok v
    → SpellsRtorq p.depth p.tag p.content p.octets v
unfolding rtorq_in rtorq_parts_in
rtorq_found v p octets e =
    let q = taken (is_tag 2 16 p.tag) (components rtorq_step no_request p >>= requested p.at) _ v e in
    let a = bind_ok (components rtorq_step no_request p) (requested p.at) v q.1 in
    let c = components_sound rtorq_step MakesRequest request_step_sound no_request a.0 p octets a.1 in
    let b = bind_ok (required a.0.request p.at)
    (λ r. Ok (open_request (unwrap_or a.0.checkpoint 0) (unwrap_or a.0.window default_window)
    (unwrap_or a.0.twa false) r)) v a.2 in
    subst (SpellsRtorq p.depth p.tag p.content p.octets)
    (ok_is (open_request (unwrap_or a.0.checkpoint 0) (unwrap_or a.0.window default_window)
    (unwrap_or a.0.twa false) b.0) v b.2) (record {
      is_tag_of = q.0;
      is_constructed = c.0;
      parts = a.0;
      spelled = c.1;
      checkpoint = refl;
      window = refl;
      twa = refl;
      request = required_so a.0.request p.at b.0 b.1;
    })

pub rtorq_sound : ReadSound rtorq_in SpellsRtorq
rtorq_sound v p shallow octets own e = rtorq_found v p octets e

pub rtorq_full : ReadFull rtorq_in SpellsRtorq
unfolding rtorq_in rtorq_parts_in
rtorq_full v p shallow h =
    pick _ h.is_tag_of (
    ap (λ r. r >>= requested p.at) (components_full rtorq_step MakesRequest request_step_full no_request h.parts p
    h.is_constructed h.spelled)
    ∙ ap (λ o. required o p.at >>= λ r. Ok
    (open_request (unwrap_or h.parts.checkpoint 0) (unwrap_or h.parts.window default_window)
    (unwrap_or h.parts.twa false) r)) h.request
    ∙ ap (λ (x : OpenRequest). Ok x)
    (open_request_is _ _ _ _ _ _ v.request (sym h.checkpoint) (sym h.window) (sym h.twa)))

-- ---- RTOAC

answer_step_sound : StepSound rtoac_step MakesAnswer
unfolding rtoac_step
answer_step_sound s t p shallow octets own e =
    elim (chosen (is_primitive_tag 2 0 p.tag) _ _ _ e) [
      | inl y ↦ inl (fills_sound number_in number_sound s t p shallow octets own y.0 y.1)
      | inr n ↦ elim (chosen (is_primitive_tag 2 1 p.tag) _ _ _ n.1) [
        | inl y ↦ inr (inl (fills_sound number_in number_sound s t p shallow octets own y.0 y.1))
        | inr n ↦ elim (chosen (is_constructed_tag 2 2 p.tag) _ _ _ n.1) [
          | inl y ↦ inr (inr (fills_sound answer_in answer_data_sound s t p shallow octets own y.0 y.1))
          | inr n ↦ absurd (cc n.1)
        ]
      ]
    ]

answer_step_full : StepFull rtoac_step MakesAnswer
unfolding rtoac_step
answer_step_full s t p shallow (inl a) = pick _ a.is_tag_of (fills_full number_in number_full s t p shallow a)
answer_step_full s t p shallow (inr (inl a)) =
    pass _ (not_formed 2 1 2 0 p.tag (not p.tag.constructed)
    (is_plain 2 1 p.tag (not p.tag.constructed) a.is_tag_of) refl)
    (pick _ a.is_tag_of (fills_full number_in number_full s t p shallow a))
answer_step_full s t p shallow (inr (inr a)) =
    pass _ (not_formed 2 2 2 0 p.tag (not p.tag.constructed) (is_plain 2 2 p.tag (p.tag.constructed) a.is_tag_of) refl)
    (pass _ (not_formed 2 2 2 1 p.tag (not p.tag.constructed)
    (is_plain 2 2 p.tag (p.tag.constructed) a.is_tag_of) refl)
    (pick _ a.is_tag_of (fills_full answer_in answer_data_full s t p shallow a)))

abbrev open_answer : ℕ → ℕ → Answer → OpenAnswer
open_answer checkpoint window a = record { checkpoint = checkpoint; window = window; answer = a }

abbrev answered : ℕ → AnswerParts → Result OpenAnswer Fault
answered at s = required s.answer at >>= λ a. Ok
    (open_answer (unwrap_or s.checkpoint 0) (unwrap_or s.window default_window) a)

open_answer_is : (c c' w w' : ℕ) (a : Answer) → c ≡ c' → w ≡ w' → open_answer c w a ≡ open_answer c' w' a
open_answer_is c c' w w' a e f = cc

pub rtoac_found : (v : OpenAnswer) (p : Part) → IsOctets p.content → rtoac_in p ≡ Ok v
    → SpellsRtoac p.depth p.tag p.content p.octets v
unfolding rtoac_in rtoac_parts_in
rtoac_found v p octets e =
    let q = taken (is_tag 2 17 p.tag) (components rtoac_step no_answer p >>= answered p.at) _ v e in
    let a = bind_ok (components rtoac_step no_answer p) (answered p.at) v q.1 in
    let c = components_sound rtoac_step MakesAnswer answer_step_sound no_answer a.0 p octets a.1 in
    let b = bind_ok (required a.0.answer p.at)
    (λ r. Ok (open_answer (unwrap_or a.0.checkpoint 0) (unwrap_or a.0.window default_window) r)) v a.2 in
    subst (SpellsRtoac p.depth p.tag p.content p.octets)
    (ok_is (open_answer (unwrap_or a.0.checkpoint 0) (unwrap_or a.0.window default_window) b.0) v b.2) (record {
      is_tag_of = q.0;
      is_constructed = c.0;
      parts = a.0;
      spelled = c.1;
      checkpoint = refl;
      window = refl;
      answer = required_so a.0.answer p.at b.0 b.1;
    })

pub rtoac_sound : ReadSound rtoac_in SpellsRtoac
rtoac_sound v p shallow octets own e = rtoac_found v p octets e

pub rtoac_full : ReadFull rtoac_in SpellsRtoac
unfolding rtoac_in rtoac_parts_in
rtoac_full v p shallow h =
    pick _ h.is_tag_of (
    ap (λ r. r >>= answered p.at) (components_full rtoac_step MakesAnswer answer_step_full no_answer h.parts p
    h.is_constructed h.spelled)
    ∙ ap (λ o. required o p.at >>= λ a. Ok
    (open_answer (unwrap_or h.parts.checkpoint 0) (unwrap_or h.parts.window default_window) a)) h.answer
    ∙ ap (λ (x : OpenAnswer). Ok x) (open_answer_is _ _ _ _ v.answer (sym h.checkpoint) (sym h.window)))

-- ---- RTORJ and RTAB

second_so : (s t : ReasonParts) (at : ℕ)
    → (cond s.second (fault at Twice) (Ok tt) >>= λ (_ : Unit {0}). Ok (record s { second = true })) ≡ Ok t
    → (s.second ≡ false) × (t ≡ record s { second = true })
second_so s t at e = go s.second refl e
  where
    go : (b : Bool) → s.second ≡ b →
        (cond b (fault at Twice) (Ok tt) >>= λ (_ : Unit {0}). Ok (record s { second = true })) ≡ Ok t
        → (s.second ≡ false) × (t ≡ record s { second = true })
    go true is e = absurd cc
    go false is e = (is, sym (ok_is (record s { second = true }) t e))

both : (a b : Bool) → a ≡ true → b ≡ true → (a && b) ≡ true
both a b e h = rw (e, h) refl

reason_step_sound : StepSound reason_step MakesReason
unfolding reason_step
reason_step_sound s t p shallow octets own e =
    elim (chosen (is_primitive_tag 2 0 p.tag) _ _ _ e) [
      | inl y ↦ inl (fills_sound number_in number_sound s t p shallow octets own y.0 y.1)
      | inr n ↦ elim (chosen (is_tag 2 1 p.tag) _ _ _ n.1) [
        | inl y ↦ inr (inl (fills_sound nothing_read anything_sound s t p shallow octets own y.0 y.1))
        | inr n ↦ elim (chosen (s.aborts && is_tag 2 2 p.tag) _ _ _ n.1) [
          | inl y ↦ (let a = and_true s.aborts (is_tag 2 2 p.tag) y.0 in let q = second_so s t p.at y.1 in
              inr (inr (record { aborts = a.0; is_tag_of = a.1; absent = q.0; after_is = q.1 })))
          | inr n ↦ absurd (cc n.1)
        ]
      ]
    ]

reason_step_full : StepFull reason_step MakesReason
unfolding reason_step
reason_step_full s t p shallow (inl a) = pick _ a.is_tag_of (fills_full number_in number_full s t p shallow a)
reason_step_full s t p shallow (inr (inl a)) =
    pass _ (not_formed 2 1 2 0 p.tag (not p.tag.constructed) a.is_tag_of refl)
    (pick _ a.is_tag_of (fills_full nothing_read anything_full s t p shallow a))
reason_step_full s t p shallow (inr (inr a)) =
    pass _ (not_formed 2 2 2 0 p.tag (not p.tag.constructed) a.is_tag_of refl)
    (pass _ (not_tag 2 2 2 1 p.tag a.is_tag_of refl)
    (pick _ (both s.aborts (is_tag 2 2 p.tag) a.aborts a.is_tag_of)
    (ap (λ b. vacant b p.at (Ok tt) >>= λ (_ : Unit {0}). Ok (record s { second = true })) a.absent
    ∙ ap (λ (x : ReasonParts). Ok x) (sym a.after_is))))

abbrev reasoned : ReasonParts → Result ℕ Fault
reasoned s = Ok (unwrap_or s.reason 0)

reason_sound : (number : ℕ) (aborts : Bool) (n : ℕ) (p : Part) → IsOctets p.content
    → cond (is_tag 2 number p.tag) (reason_in aborts p) (fault p.at BadTag) ≡ Ok n
    → SpellsReason number aborts p.depth p.tag p.content p.octets n
unfolding reason_in
reason_sound number aborts n p octets e =
    let q = taken (is_tag 2 number p.tag) (components reason_step (no_reason aborts) p >>= reasoned) _ n e in
    let a = bind_ok (components reason_step (no_reason aborts) p) reasoned n q.1 in
    let c = components_sound reason_step MakesReason reason_step_sound (no_reason aborts) a.0 p octets a.1 in
    record {
      is_tag_of = q.0;
      is_constructed = c.0;
      parts = a.0;
      spelled = c.1;
      reason_is =
          sym (ok_is (unwrap_or a.0.reason 0) n a.2);
    }

reason_full : (number : ℕ) (aborts : Bool) (n : ℕ) (p : Part)
    → SpellsReason number aborts p.depth p.tag p.content p.octets n
    → cond (is_tag 2 number p.tag) (reason_in aborts p) (fault p.at BadTag) ≡ Ok n
unfolding reason_in
reason_full number aborts n p h =
    pick _ h.is_tag_of (
    ap (λ r. r >>= reasoned) (components_full reason_step MakesReason reason_step_full
    (no_reason aborts) h.parts p h.is_constructed h.spelled)
    ∙ ap (λ (x : ℕ). Ok x) (sym h.reason_is))

pub rtorj_found : (n : ℕ) (p : Part) → IsOctets p.content → rtorj_in p ≡ Ok n
    → SpellsRtorj p.depth p.tag p.content p.octets n
unfolding rtorj_in
rtorj_found n p octets e = reason_sound 18 false n p octets e

pub rtorj_sound : ReadSound rtorj_in SpellsRtorj
rtorj_sound n p shallow octets own e = rtorj_found n p octets e

pub rtorj_full : ReadFull rtorj_in SpellsRtorj
unfolding rtorj_in
rtorj_full n p shallow h = reason_full 18 false n p h

pub rtab_found : (n : ℕ) (p : Part) → IsOctets p.content → rtab_in p ≡ Ok n
    → SpellsRtab p.depth p.tag p.content p.octets n
unfolding rtab_in
rtab_found n p octets e = reason_sound 22 true n p octets e

pub rtab_sound : ReadSound rtab_in SpellsRtab
rtab_sound n p shallow octets own e = rtab_found n p octets e

pub rtab_full : ReadFull rtab_in SpellsRtab
unfolding rtab_in
rtab_full n p shallow h = reason_full 22 true n p h
