-- The body of a kind is read as a unit exactly where it is spelled.
use Rattle.std.proofs.Common.{◌≡◌, ℕ, List, Result, Ok, refl, ap, subst, ◌∙◌}
use Rattle.mta_ber.specs.declared.fault.Fault.{Fault}
use Rattle.mta_ber.specs.Head.{◌>>=◌}
use Rattle.mta_ber.specs.Octet.{IsOctets}
use Rattle.mta_ber.specs.Element.{Part, first}
use Rattle.mta_ber.proofs.Steps.{bind_ok, ok_is}
use Rattle.mta_records.specs.Reference.{Identifier}
use Rattle.mta_rtse.specs.declared.types.OpenAnswer.{OpenAnswer}
use Rattle.mta_rtse.specs.Request.{rtorq_in}
use Rattle.mta_rtse.specs.Answer.{rtoac_in}
use Rattle.mta_rtse.specs.Reason.{rtorj_in, rtab_in}
use Rattle.mta_rtse.specs.Spelling.{SpellsWord, SpellsReference, SpellsRtorq, SpellsRtoac, SpellsRtorj, SpellsRtab}
use Rattle.mta_rtse.proofs.ApduLaws.{rtorq_sound, rtorq_full, rtoac_sound, rtoac_full, rtorj_sound, rtorj_full}
use Rattle.mta_rtse.proofs.ApduLaws.{rtab_sound, rtab_full}
use Rattle.mta_units.specs.declared.kind.UnitKind.{UnitKind}
use Rattle.mta_units.specs.declared.kind.UnitKind.TheVariants as kind
use Rattle.mta_units.specs.declared.unit.Unit.{Unit as AnyUnit}
use Rattle.mta_units.specs.declared.unit.Unit.TheVariants as unit
use Rattle.mta_units.specs.declared.unit.OpenUnit.{OpenUnit}
use Rattle.mta_units.specs.Fixed.{number_in, pair_in, exception_in, nothing_in}
use Rattle.mta_units.specs.Body.{only_in, rttr_in, rttp_in, name_in, tagged_reference_in, open_in, accept_in, reject_in}
use Rattle.mta_units.specs.Body.{piece_in, please_in, abort_in, other_in, fixed_in, body_in}
use Rattle.mta_units.specs.Canon.{kind_of}
use Rattle.mta_units.specs.Spelling.{Tagged, SpellsOpen, SpellsRttr, SpellsRttp, SpellsBody, request_part}
use Rattle.mta_units.proofs.BodyLaws.{first_read, only_sound, read_first, only_full, rttr_sound, rttr_full, rttp_sound}
use Rattle.mta_units.proofs.BodyLaws.{rttp_full, name_sound, name_full, tagged_reference_sound, tagged_reference_full}
use Rattle.mta_units.proofs.BodyLaws.{number_so, number_again, pair_so, pair_again, exception_so, exception_again}
use Rattle.mta_units.proofs.BodyLaws.{nothing_so}

-- a unit of a kind with this body
pub record IsOf (k : UnitKind) (u : AnyUnit) (body : List ℕ) : Type 0 where
  pub kind_is : kind_of u ≡ k
  pub spelled : SpellsBody u body

-- what a unit that was made of a part of the body is
made : {A : Type 0} (k : UnitKind) (body : List ℕ) (read : Result A Fault) (make : A → AnyUnit) (u : AnyUnit)
    → ((x : A) → read ≡ Ok x → IsOf k (make x) body) → (read >>= λ x. Ok (make x)) ≡ Ok u → IsOf k u body
made k body read make u each e =
    let x = bind_ok read (λ x. Ok (make x)) u e in
    subst (λ v. IsOf k v body) (ok_is (make x.0) u x.2) (each x.0 x.1)

abbrev after_reference : List ℕ → Part → Identifier → Result AnyUnit Fault
after_reference name q reference =
    only_in rtorq_in q.rest >>= λ r. Ok
    (unit.Open (record {
      name = name;
      reference = reference;
      checkpoint = r.checkpoint;
      window = r.window;
      twa = r.twa;
      request = r.request;
    }))

abbrev after_name : Part → List ℕ → Result AnyUnit Fault
after_name p name = first 0 p.rest >>= λ q. tagged_reference_in q >>= after_reference name q

open_sound : (body : List ℕ) (u : AnyUnit) → IsOctets body → open_in body ≡ Ok u → IsOf kind.Open u body
unfolding open_in
open_sound body u bytes e =
    let p = bind_ok (first 0 body) (λ p. name_in p >>= after_name p) u e in
    let name = bind_ok (name_in p.0) (after_name p.0) u p.2 in
    let n = first_read name_in (Tagged 0 22 SpellsWord) name_sound body p.0 name.0 bytes p.1 name.1 in
    let q = bind_ok (first 0 p.0.rest) (λ q. tagged_reference_in q >>= after_reference name.0 q) u name.2 in
    let reference = bind_ok (tagged_reference_in q.0) (after_reference name.0 q.0) u q.2 in
    let m = first_read tagged_reference_in (Tagged 0 16 SpellsReference) tagged_reference_sound p.0.rest q.0 reference.0
    n.rest_octets q.1 reference.1 in
    made kind.Open body (only_in rtorq_in q.0.rest)
    (λ r. unit.Open (record {
      name = name.0;
      reference = reference.0;
      checkpoint = r.checkpoint;
      window = r.window;
      twa = r.twa;
      request = r.request;
    })) u
    (λ r h. record {
      kind_is = refl;
      spelled = record {
        behind_name = p.0.rest;
        behind_reference = q.0.rest;
        name = n.spelled;
        reference = m.spelled;
        request = only_sound rtorq_in SpellsRtorq rtorq_sound q.0.rest r m.rest_octets h;
      };
    }) reference.2

open_full : (body : List ℕ) (o : OpenUnit) → SpellsOpen body o → open_in body ≡ Ok (unit.Open o)
unfolding open_in
open_full body o h =
    let n = read_first name_in (Tagged 0 22 SpellsWord) name_full body o.name h.behind_name h.name in
    let m = read_first tagged_reference_in (Tagged 0 16 SpellsReference) tagged_reference_full h.behind_name o.reference
    h.behind_reference h.reference in
    ap (λ r. r >>= λ p. name_in p >>= after_name p) n.found
    ∙ ap (λ r. r >>= after_name n.part) n.value
    ∙ ap (λ l. first 0 l >>= λ q. tagged_reference_in q >>= after_reference o.name q) n.rest_is
    ∙ ap (λ r. r >>= λ q. tagged_reference_in q >>= after_reference o.name q) m.found
    ∙ ap (λ r. r >>= after_reference o.name m.part) m.value
    ∙ ap (λ l. only_in rtorq_in l >>= λ r. Ok
    (unit.Open (record {
      name = o.name;
      reference = o.reference;
      checkpoint = r.checkpoint;
      window = r.window;
      twa =
          r.twa;
      request = r.request;
    }))) m.rest_is
    ∙ ap (λ r. r >>= λ r. Ok (unit.Open
    (record {
      name = o.name;
      reference = o.reference;
      checkpoint = r.checkpoint;
      window = r.window;
      twa = r.twa;
      request = r.request;
    }))) (only_full rtorq_in SpellsRtorq rtorq_full h.behind_reference
    (request_part o) h.request)

-- what is read is spelled
pub body_sound : (k : UnitKind) (body : List ℕ) (u : AnyUnit) → IsOctets body → body_in k body ≡ Ok u → IsOf k u body
unfolding body_in accept_in reject_in piece_in please_in abort_in fixed_in other_in
body_sound kind.Open body u bytes e = open_sound body u bytes e
body_sound kind.Accept body u bytes e =
    made kind.Accept body (only_in rtoac_in body) (λ a. unit.Accept a.checkpoint a.window a.answer) u
    (λ a h. record {
      kind_is = refl;
      spelled =
          record { spelled = only_sound rtoac_in SpellsRtoac rtoac_sound body a bytes h };
    }) e
body_sound kind.Reject body u bytes e =
    made kind.Reject body (only_in rtorj_in body) (λ n. unit.Reject n) u
    (λ n h. record { kind_is = refl; spelled = only_sound rtorj_in SpellsRtorj rtorj_sound body n bytes h }) e
body_sound kind.Start body u bytes e = made kind.Start body (number_in body) (λ n. unit.Start n) u
    (λ n h. record { kind_is = refl; spelled = number_so n body bytes h }) e
body_sound kind.Piece body u bytes e =
    made kind.Piece body (only_in rttr_in body) (λ o. unit.Piece o) u
    (λ o h. record { kind_is = refl; spelled = only_sound rttr_in SpellsRttr rttr_sound body o bytes h }) e
body_sound kind.Sync body u bytes e =
    made kind.Sync body (number_in body) (λ n. unit.Sync n) u
    (λ n h. record { kind_is = refl; spelled = number_so n body bytes h }) e
body_sound kind.SyncAck body u bytes e = made kind.SyncAck body (number_in body) (λ n. unit.SyncAck n) u
    (λ n h. record { kind_is = refl; spelled = number_so n body bytes h }) e
body_sound kind.End body u bytes e =
    made kind.End body (number_in body) (λ n. unit.End n) u
    (λ n h. record { kind_is = refl; spelled = number_so n body bytes h }) e
body_sound kind.EndAck body u bytes e = made kind.EndAck body (number_in body) (λ n. unit.EndAck n) u
    (λ n h. record { kind_is = refl; spelled = number_so n body bytes h }) e
body_sound kind.Resume body u bytes e = made kind.Resume body (pair_in body) (λ n. unit.Resume n.0 n.1) u
    (λ n h. record { kind_is = refl; spelled = pair_so n body bytes h }) e
body_sound kind.ResumeAck body u bytes e = made kind.ResumeAck body (pair_in body) (λ n. unit.ResumeAck n.0 n.1) u
    (λ n h. record { kind_is = refl; spelled = pair_so n body bytes h }) e
body_sound kind.Discard body u bytes e = made kind.Discard body (number_in body) (λ n. unit.Discard n) u
    (λ n h. record { kind_is = refl; spelled = number_so n body bytes h }) e
body_sound kind.DiscardAck body u bytes e = made kind.DiscardAck body (number_in body) (λ n. unit.DiscardAck n) u
    (λ n h. record { kind_is = refl; spelled = number_so n body bytes h }) e
body_sound kind.Please body u bytes e =
    made kind.Please body (only_in rttp_in body) (λ n. unit.Please n) u
    (λ n h. record { kind_is = refl; spelled = only_sound rttp_in SpellsRttp rttp_sound body n bytes h }) e
body_sound kind.Give body u bytes e =
    made kind.Give body (nothing_in body) (λ _. unit.Give) u
    (λ n h. record { kind_is = refl; spelled = nothing_so body n h }) e
body_sound kind.Exception body u bytes e = made kind.Exception body (exception_in body) (λ n. unit.Exception n.0 n.1) u
    (λ n h. record { kind_is = refl; spelled = exception_so n body bytes h }) e
body_sound kind.Abort body u bytes e =
    made kind.Abort body (only_in rtab_in body) (λ n. unit.Abort n) u
    (λ n h. record { kind_is = refl; spelled = only_sound rtab_in SpellsRtab rtab_sound body n bytes h }) e
body_sound kind.Close body u bytes e =
    made kind.Close body (nothing_in body) (λ _. unit.Close) u
    (λ n h. record { kind_is = refl; spelled = nothing_so body n h }) e
body_sound kind.CloseAck body u bytes e = made kind.CloseAck body (nothing_in body) (λ _. unit.CloseAck) u
    (λ n h. record { kind_is = refl; spelled = nothing_so body n h }) e

abbrev accepted : OpenAnswer → Result AnyUnit Fault
accepted a = Ok (unit.Accept a.checkpoint a.window a.answer)

-- and what is spelled is read
pub body_full : (u : AnyUnit) (body : List ℕ) → SpellsBody u body → body_in (kind_of u) body ≡ Ok u
unfolding body_in accept_in reject_in piece_in please_in abort_in fixed_in other_in
body_full (unit.Open o) body h = open_full body o h
body_full (unit.Accept checkpoint window answer) body h =
    ap (λ r. r >>= accepted) (only_full rtoac_in SpellsRtoac rtoac_full body
    (record { checkpoint = checkpoint; window = window; answer = answer }) h.spelled)
body_full (unit.Reject reason) body h =
    ap (λ r. r >>= λ n. Ok (unit.Reject n)) (only_full rtorj_in SpellsRtorj rtorj_full body reason h)
body_full (unit.Start activity) body h = ap (λ r. r >>= λ n. Ok (unit.Start n)) (number_again activity body h)
body_full (unit.Piece octets) body h =
    ap (λ r. r >>= λ o. Ok (unit.Piece o)) (only_full rttr_in SpellsRttr rttr_full body octets h)
body_full (unit.Sync number) body h = ap (λ r. r >>= λ n. Ok (unit.Sync n)) (number_again number body h)
body_full (unit.SyncAck number) body h = ap (λ r. r >>= λ n. Ok (unit.SyncAck n)) (number_again number body h)
body_full (unit.End activity) body h = ap (λ r. r >>= λ n. Ok (unit.End n)) (number_again activity body h)
body_full (unit.EndAck activity) body h = ap (λ r. r >>= λ n. Ok (unit.EndAck n)) (number_again activity body h)
body_full (unit.Resume activity number) body h =
    ap (λ r. r >>= λ (n : ℕ × ℕ). Ok (unit.Resume n.0 n.1)) (pair_again activity number body h)
body_full (unit.ResumeAck activity number) body h =
    ap (λ r. r >>= λ (n : ℕ × ℕ). Ok (unit.ResumeAck n.0 n.1)) (pair_again activity number body h)
body_full (unit.Discard activity) body h = ap (λ r. r >>= λ n. Ok (unit.Discard n)) (number_again activity body h)
body_full (unit.DiscardAck activity) body h = ap (λ r. r >>= λ n. Ok (unit.DiscardAck n)) (number_again activity body h)
body_full (unit.Please priority) body h =
    ap (λ r. r >>= λ n. Ok (unit.Please n)) (only_full rttp_in SpellsRttp rttp_full body priority h)
body_full unit.Give body h = ap (λ l. nothing_in l >>= λ _. Ok unit.Give) h
body_full (unit.Exception k at) body h =
    ap (λ r. r >>= λ (n : ℕ × ℕ). Ok (unit.Exception n.0 n.1)) (exception_again k at body h)
body_full (unit.Abort reason) body h =
    ap (λ r. r >>= λ n. Ok (unit.Abort n)) (only_full rtab_in SpellsRtab rtab_full body reason h)
body_full unit.Close body h = ap (λ l. nothing_in l >>= λ _. Ok unit.Close) h
body_full unit.CloseAck body h = ap (λ l. nothing_in l >>= λ _. Ok unit.CloseAck) h
