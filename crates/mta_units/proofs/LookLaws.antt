-- What is seen at the front of a stream is what stands there, and the other way round.
use Rattle.std.proofs.Common.{◌≡◌, append_assoc, ℕ, ◌^◌, ◌≤◌, ◌<◌, ◌⊎◌, Bool, true, false, cond, ltb, List, [], ◌∷◌}
use Rattle.std.proofs.Common.{◌++◌, length, take, drop, Option, Some, None, Result, Ok, Err, refl, sym, ap, subst, ◌∙◌}
use Rattle.std.proofs.Common.{inl, inr, arith}
use Rattle.std.specs.Int.{w32, from_be_bytes}
use Rattle.std.proofs.lemmas.Nat.{from_be_bytes-to_be_bytes_4}
use Rattle.std.proofs.lemmas.Bool.{ltb-true, ltb-false, lt-ltb, le-ltb}
use Rattle.std.proofs.lemmas.List.{append-nil, length-append, length-take, take-append-drop}
use Rattle.mta_ber.specs.declared.fault.Fault.{Fault}
use Rattle.mta_ber.specs.Octet.{IsOctets}
use Rattle.mta_ber.proofs.RowLaws.{IsBytes-back}
use Rattle.mta_ber.proofs.StringLaws.{IsBytes-front}
use Rattle.mta_units.specs.declared.front.BadUnit.{BadUnit}
use Rattle.mta_units.specs.declared.front.BadUnit.TheVariants as bad
use Rattle.mta_units.specs.declared.kind.UnitKind.{UnitKind}
use Rattle.mta_units.specs.declared.kind.UnitKind.TheVariants as kind
use Rattle.mta_units.specs.declared.unit.Unit.{Unit as AnyUnit}
use Rattle.mta_units.specs.Kind.{kind_number, kind_at}
use Rattle.mta_units.specs.Front.{Front, Cut, Faulty, Whole, front, sized, kinded, listed, longest_body}
use Rattle.mta_units.specs.Body.{body_in}
use Rattle.mta_units.specs.Look.{Look, Nothing, Fails, Reads, with_body, look_behind, look}
use Rattle.mta_units.specs.Canon.{kind_of, number_octets}
use Rattle.mta_units.specs.Spelling.{SpellsBody, framed, SpellsUnit, HasLongBody, HasNoKind, HasFault, IsCutOff}
use Rattle.mta_units.proofs.FrontLaws.{kind_so}
use Rattle.mta_units.proofs.BodyLaws.{four}
use Rattle.mta_units.proofs.UnitLaws.{body_sound, body_full}

-- the kind octet of a kind is that kind's
kind_again : (k : UnitKind) → kind_at (kind_number k) ≡ Some k
kind_again kind.Open = refl
kind_again kind.Accept = refl
kind_again kind.Reject = refl
kind_again kind.Start = refl
kind_again kind.Piece = refl
kind_again kind.Sync = refl
kind_again kind.SyncAck = refl
kind_again kind.End = refl
kind_again kind.EndAck = refl
kind_again kind.Resume = refl
kind_again kind.ResumeAck = refl
kind_again kind.Discard = refl
kind_again kind.DiscardAck = refl
kind_again kind.Please = refl
kind_again kind.Give = refl
kind_again kind.Exception = refl
kind_again kind.Abort = refl
kind_again kind.Close = refl
kind_again kind.CloseAck = refl

no_kind : (octet : ℕ) → kind_at octet ≡ None → (k : UnitKind) → kind_number k ≡ octet → ⊥
no_kind octet e k is = let a = kind_again k in let b : kind_at (kind_number k) ≡ kind_at octet = ap kind_at is in
    absurd cc

-- ---- the front

pub record Framed (octets : List ℕ) (k : UnitKind) (body rest : List ℕ) : Type 0 where
  pub short : length body ≤ longest_body
  pub octets_are : octets ≡ framed k body rest

abbrev Means : List ℕ → Front → Type 0
Means octets Cut = IsCutOff octets
Means octets (Faulty bad.Length) = HasFault bad.Length octets
Means octets (Faulty bad.Kind) = HasFault bad.Kind octets
Means octets (Faulty bad.Body) = ⊥
Means octets (Whole k body rest) = Framed octets k body rest

whole_means : (size : ℕ) (k : UnitKind) (tail octets : List ℕ) (b : Bool) → ltb (length tail) size ≡ b
    → size ≤ longest_body → octets ≡ number_octets size ++ kind_number k ∷ tail
    → Means octets (cond b Cut (Whole k (take size tail) (drop size tail)))
whole_means size k tail octets true is short e =
    inr (record {
      size = size;
      rest = kind_number k ∷ tail;
      short = short;
      octets_are = e;
      cut =
          inr (k, tail, refl, ltb-true (length tail) size is);
    })
whole_means size k tail octets false is short e =
    let fits = ltb-false (length tail) size is in
    let long : length (take size tail) ≡ size = omega (arith, fits, length-take size tail) in
    record {
      short = omega (arith, long, short);
      octets_are = e ∙ ap (λ l. number_octets size ++ kind_number k ∷ l) (sym (take-append-drop size tail))
          ∙ ap (λ n. number_octets n ++ kind_number k ∷ (take size tail ++ drop size tail)) (sym long);
    }

listed_means : (size octet : ℕ) (tail octets : List ℕ) (o : Option UnitKind) → kind_at octet ≡ o → size ≤ longest_body
    → octets ≡ number_octets size ++ octet ∷ tail → Means octets (listed size o tail)
listed_means size octet tail octets None is short e =
    record { size = size; octet = octet; rest = tail; short = short; none = no_kind octet is; octets_are = e }
listed_means size octet tail octets (Some k) is short e =
    whole_means size k tail octets (ltb (length tail) size) refl short
    (e ∙ ap (λ n. number_octets size ++ n ∷ tail) (sym (kind_so octet k is)))

kinded_means : (size : ℕ) (tail octets : List ℕ) → size ≤ longest_body → octets ≡ number_octets size ++ tail
    → Means octets (kinded size tail)
kinded_means size [] octets short e =
    inr (record { size = size; rest = []; short = short; octets_are = e; cut = inl refl })
kinded_means size (octet ∷ tail) octets short e = listed_means size octet tail octets (kind_at octet) refl short e

sized_means : (size : ℕ) (tail octets : List ℕ) (b : Bool) → ltb longest_body size ≡ b → size < 2 ^ 32
    → octets ≡ number_octets size ++ tail → Means octets (cond b (Faulty bad.Length) (kinded size tail))
sized_means size tail octets true is fits e =
    record { size = size; rest = tail; fits = fits; long = ltb-true longest_body size is; octets_are = e }
sized_means size tail octets false is fits e = kinded_means size tail octets (ltb-false longest_body size is) e

front_means : (octets : List ℕ) → IsOctets octets → Means octets (front octets)
front_means [] bytes = inl (omega arith)
front_means (a ∷ []) bytes = inl (omega arith)
front_means (a ∷ b ∷ []) bytes = inl (omega arith)
front_means (a ∷ b ∷ c ∷ []) bytes = inl (omega arith)
front_means (a ∷ b ∷ c ∷ d ∷ tail) bytes =
    let f = four a b c d tail bytes in
    let size = from_be_bytes w32 (a ∷ b ∷ c ∷ d ∷ []) in
    sized_means size tail (a ∷ b ∷ c ∷ d ∷ tail) (ltb longest_body size) refl f.small (ap (λ l. l ++ tail) f.octets_are)

-- ---- and back

front_of_size : (size : ℕ) (tail : List ℕ) → size < 2 ^ 32 → front (number_octets size ++ tail) ≡ sized size tail
front_of_size size tail fits = ap (λ n. sized n tail) (from_be_bytes-to_be_bytes_4 size fits)

sized_small : (size : ℕ) (tail : List ℕ) → size ≤ longest_body → front (number_octets size ++ tail) ≡ kinded size tail
sized_small size tail short =
    front_of_size size tail (omega arith)
    ∙ ap (λ b. cond b (Faulty bad.Length) (kinded size tail)) (le-ltb longest_body size short)

cut_tail : (size : ℕ) (tail : List ℕ) → (tail ≡ [])
    ⊎ ((k : UnitKind) × (body : List ℕ) × (tail ≡ kind_number k ∷ body) × (length body < size)) → kinded size tail ≡ Cut
cut_tail size tail (inl e) = ap (kinded size) e
cut_tail size tail (inr h) =
    ap (kinded size) h.2 ∙ ap (λ o. listed size o h.1) (kind_again h.0)
    ∙ ap (λ b. cond b Cut (Whole h.0 (take size h.1) (drop size h.1))) (lt-ltb (length h.1) size h.3)

few : (octets : List ℕ) → length octets < 4 → front octets ≡ Cut
few [] h = refl
few (a ∷ []) h = refl
few (a ∷ b ∷ []) h = refl
few (a ∷ b ∷ c ∷ []) h = refl
few (a ∷ b ∷ c ∷ d ∷ tail) h = absurd (omega arith)

cut_again : (octets : List ℕ) → IsCutOff octets → front octets ≡ Cut
cut_again octets (inl h) = few octets h
cut_again octets (inr h) = ap front h.octets_are ∙ sized_small h.size h.rest h.short ∙ cut_tail h.size h.rest h.cut

long_again : (octets : List ℕ) → HasLongBody octets → front octets ≡ Faulty bad.Length
long_again octets h =
    ap front h.octets_are ∙ front_of_size h.size h.rest h.fits
    ∙ ap (λ b. cond b (Faulty bad.Length) (kinded h.size h.rest)) (lt-ltb longest_body h.size h.long)

found_none : (octet : ℕ) (o : Option UnitKind) → kind_at octet ≡ o → ((k : UnitKind) → kind_number k ≡ octet → ⊥)
    → o ≡ None
found_none octet None e none = refl
found_none octet (Some k) e none = absurd (none k (kind_so octet k e))

no_kind_again : (octets : List ℕ) → HasNoKind octets → front octets ≡ Faulty bad.Kind
no_kind_again octets h =
    ap front h.octets_are ∙ sized_small h.size (h.octet ∷ h.rest) h.short
    ∙ ap (λ o. listed h.size o h.rest) (found_none h.octet (kind_at h.octet) refl h.none)

take_front : (a b : List ℕ) → take (length a) (a ++ b) ≡ a
take_front [] b = refl
take_front (x ∷ a) b = ap (λ l. x ∷ l) (take_front a b)

drop_front : (a b : List ℕ) → drop (length a) (a ++ b) ≡ b
drop_front [] b = refl
drop_front (x ∷ a) b = drop_front a b

pub framed_again : (k : UnitKind) (body rest : List ℕ) → length body ≤ longest_body
    → front (framed k body rest) ≡ Whole k body rest
framed_again k body rest short =
    let size = length body in
    let whole = body ++ rest in
    let fits : size ≤ length whole = omega (arith, length-append body rest) in
    sized_small size (kind_number k ∷ whole) short
    ∙ ap (λ o. listed size o whole) (kind_again k)
    ∙ ap (λ b. cond b Cut (Whole k (take size whole) (drop size whole))) (le-ltb (length whole) size fits)
    ∙ ap (λ l. Whole k l (drop size whole)) (take_front body rest)
    ∙ ap (λ l. Whole k body l) (drop_front body rest)

-- ---- what is seen

-- a unit at the front, and what follows it
pub record BeginsWith (octets : List ℕ) (u : AnyUnit) (rest : List ℕ) : Type 0 where
  pub first : List ℕ
  pub spelled : SpellsUnit u first
  pub octets_are : octets ≡ first ++ rest

abbrev pub Sees : List ℕ → Look → Type 0
Sees octets Nothing = IsCutOff octets
Sees octets (Fails k) = HasFault k octets
Sees octets (Reads u rest) = BeginsWith octets u rest

no_unit : (k : UnitKind) (body : List ℕ) (f : Fault) → body_in k body ≡ Err f → (u : AnyUnit) → kind_of u ≡ k
    → SpellsBody u body → ⊥
no_unit k body f e u is h = let a = body_full u body h in let b : body_in (kind_of u) body ≡ body_in k body =
    ap (λ j. body_in j body) is in absurd cc

frame_split : (k : UnitKind) (body rest : List ℕ) → framed k body rest ≡ framed k body [] ++ rest
frame_split k body rest = ap (λ l. number_octets (length body) ++ kind_number k ∷ (l ++ rest)) (sym (append-nil body))
    ∙ sym (simp append_assoc)

body_seen : (octets : List ℕ) (k : UnitKind) (body rest : List ℕ) (r : Result AnyUnit Fault) → body_in k body ≡ r
    → IsOctets body → Framed octets k body rest → Sees octets (with_body r rest)
body_seen octets k body rest (Ok u) e bytes h =
    let s = body_sound k body u bytes e in
    record {
      first = framed k body [];
      spelled = record {
        body = body;
        spelled = s.spelled;
        short = h.short;
        octets_are =
            ap (λ j. framed j body []) (sym s.kind_is);
      };
      octets_are = h.octets_are ∙ frame_split k body rest;
    }
body_seen octets k body rest (Err f) e bytes h =
    record { kind = k; body = body; rest = rest; short = h.short; none = no_unit k body f e; octets_are = h.octets_are }

body_octets_of : (octets : List ℕ) (k : UnitKind) (body rest : List ℕ) → IsOctets octets → octets ≡ framed k body rest
    → IsOctets body
body_octets_of octets k body rest bytes e =
    IsBytes-front body rest (IsBytes-back (kind_number k ∷ []) (body ++ rest)
    (IsBytes-back (number_octets (length body)) (kind_number k ∷ (body ++ rest)) (subst IsOctets e bytes)))

sees_behind : (octets : List ℕ) (f : Front) → IsOctets octets → Means octets f → Sees octets (look_behind f)
sees_behind octets Cut bytes h = h
sees_behind octets (Faulty bad.Length) bytes h = h
sees_behind octets (Faulty bad.Kind) bytes h = h
sees_behind octets (Faulty bad.Body) bytes h = absurd h
sees_behind octets (Whole k body rest) bytes h =
    body_seen octets k body rest (body_in k body) refl (body_octets_of octets k body rest bytes h.octets_are) h

-- what is seen stands there
pub look_sound : (octets : List ℕ) → IsOctets octets → Sees octets (look octets)
unfolding look
look_sound octets bytes = sees_behind octets (front octets) bytes (front_means octets bytes)

-- and what stands there is seen
pub cut_seen : (octets : List ℕ) → IsCutOff octets → look octets ≡ Nothing
unfolding look
cut_seen octets h = ap look_behind (cut_again octets h)

body_fails : (k : UnitKind) (body rest : List ℕ) (r : Result AnyUnit Fault) → body_in k body ≡ r → IsOctets body
    → ((u : AnyUnit) → kind_of u ≡ k → SpellsBody u body → ⊥) → with_body r rest ≡ Fails bad.Body
body_fails k body rest (Ok u) e bytes none = let s = body_sound k body u bytes e in absurd (none u s.kind_is s.spelled)
body_fails k body rest (Err f) e bytes none = refl

pub fault_seen : (k : BadUnit) (octets : List ℕ) → IsOctets octets → HasFault k octets → look octets ≡ Fails k
unfolding look
fault_seen bad.Length octets bytes h = ap look_behind (long_again octets h)
fault_seen bad.Kind octets bytes h = ap look_behind (no_kind_again octets h)
fault_seen bad.Body octets bytes h =
    ap look_behind (ap front h.octets_are ∙ framed_again h.kind h.body h.rest h.short)
    ∙ body_fails h.kind h.body h.rest (body_in h.kind h.body) refl
    (body_octets_of octets h.kind h.body h.rest bytes h.octets_are) h.none

pub unit_seen : (u : AnyUnit) (first rest : List ℕ) → SpellsUnit u first → look (first ++ rest) ≡ Reads u rest
unfolding look
unit_seen u first rest h =
    let whole : first ++ rest ≡ framed (kind_of u) h.body rest = ap (λ l. l ++ rest) h.octets_are
    ∙ sym (frame_split (kind_of u) h.body rest) in
    ap look_behind (ap front whole ∙ framed_again (kind_of u) h.body rest h.short)
    ∙ ap (λ r. with_body r rest) (body_full u h.body h.spelled)
