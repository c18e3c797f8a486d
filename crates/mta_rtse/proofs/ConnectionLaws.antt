-- Connection data is read exactly where it is spelled.
use Rattle.std.proofs.Common.{◌≡◌, ℕ, Ok, refl, sym, ap, subst, ◌∙◌, inl, inr}
use Rattle.mta_ber.specs.Head.{◌>>=◌}
use Rattle.mta_ber.specs.Parts.{is_tag}
use Rattle.mta_ber.proofs.Steps.{bind_ok, chosen, ok_is}
use Rattle.mta_ber.proofs.ExplicitLaws.{ReadSound, ReadFull, explicit_sound, explicit_full}
use Rattle.mta_rtse.specs.declared.types.Request.{Request}
use Rattle.mta_rtse.specs.declared.types.Request.TheVariants as ask
use Rattle.mta_rtse.specs.declared.types.Answer.{Answer}
use Rattle.mta_rtse.specs.declared.types.Answer.TheVariants as reply
use Rattle.mta_rtse.specs.Identifier.{reference_in}
use Rattle.mta_rtse.specs.Bind.{open_in}
use Rattle.mta_rtse.specs.Connection.{explicit_open_in, recover_in, connection_in, request_in, answer_of, answer_in}
use Rattle.mta_rtse.specs.Spelling.{SpellsOpened, SpellsExplicitOpened, SpellsRecover, SpellsConnection}
use Rattle.mta_rtse.specs.Spelling.{SpellsRequestData, request_of, SpellsAnswerData}
use Rattle.mta_rtse.proofs.Slots.{not_tag, pick, pass}
use Rattle.mta_rtse.proofs.ReferenceLaws.{reference_sound, reference_full}
use Rattle.mta_rtse.proofs.BindLaws.{opened_sound, opened_full}

explicit_open_sound : ReadSound explicit_open_in SpellsExplicitOpened
unfolding explicit_open_in
explicit_open_sound v p shallow octets own e = explicit_sound open_in SpellsOpened opened_sound v p octets e

explicit_open_full : ReadFull explicit_open_in SpellsExplicitOpened
unfolding explicit_open_in
explicit_open_full v p shallow h = explicit_full open_in SpellsOpened opened_full v p h

recover_sound : ReadSound recover_in SpellsRecover
unfolding recover_in
recover_sound v p shallow octets own e =
    let r = bind_ok (reference_in p) (λ r. Ok (ask.Recover r)) v e in
    record {
      reference = r.0;
      spelled = reference_sound r.0 p shallow octets own r.1;
      value =
          sym (ok_is (ask.Recover r.0) v r.2);
    }

recover_full : ReadFull recover_in SpellsRecover
unfolding recover_in
recover_full v p shallow h = ap (λ r. r >>= λ r. Ok (ask.Recover r)) (reference_full h.reference p shallow h.spelled)
    ∙ ap (λ (x : Request). Ok x) (sym h.value)

connection_sound : ReadSound connection_in SpellsConnection
unfolding connection_in
connection_sound v p shallow octets own e =
    elim (chosen (is_tag 2 0 p.tag) _ _ _ e) [
      | inl y ↦ inl (y.0, explicit_open_sound v p shallow octets own y.1)
      | inr n ↦ elim (chosen (is_tag 2 1 p.tag) _ _ _ n.1) [
        | inl y ↦ inr (y.0, recover_sound v p shallow octets own y.1)
        | inr n ↦ absurd (cc n.1)
      ]
    ]

connection_full : ReadFull connection_in SpellsConnection
unfolding connection_in
connection_full v p shallow (inl a) = pick _ a.0 (explicit_open_full v p shallow a.1)
connection_full v p shallow (inr a) =
    pass _ (not_tag 2 1 2 0 p.tag a.0 refl) (pick _ a.0 (recover_full v p shallow a.1))

pub request_data_sound : ReadSound request_in SpellsRequestData
unfolding request_in
request_data_sound v p shallow octets own e =
    explicit_sound connection_in SpellsConnection connection_sound v p octets e

pub request_data_full : ReadFull request_in SpellsRequestData
unfolding request_in
request_data_full v p shallow h = explicit_full connection_in SpellsConnection connection_full v p h

answered : (at : ℕ) (r : Request) (a : Answer) → answer_of at r ≡ Ok a → r ≡ request_of a
answered at ask.Null a e = absurd cc
answered at (ask.Bind name password) a e = ap request_of (ok_is (reply.Bind name password) a e)
answered at (ask.Recover reference) a e = ap request_of (ok_is (reply.Recover reference) a e)

answers : (at : ℕ) (a : Answer) → answer_of at (request_of a) ≡ Ok a
answers at (reply.Bind name password) = refl
answers at (reply.Recover reference) = refl

pub answer_data_sound : ReadSound answer_in SpellsAnswerData
unfolding answer_in
answer_data_sound a p shallow octets own e =
    let r = bind_ok (request_in p) (answer_of p.at) a e in
    subst (SpellsRequestData p.depth p.tag p.content p.octets) (answered p.at r.0 a r.2)
    (request_data_sound r.0 p shallow octets own r.1)

pub answer_data_full : ReadFull answer_in SpellsAnswerData
unfolding answer_in
answer_data_full a p shallow h = ap (λ r. r >>= answer_of p.at) (request_data_full (request_of a) p shallow h)
    ∙ answers p.at a
