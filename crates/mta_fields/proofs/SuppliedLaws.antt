-- What a domain supplied is read exactly where it is spelled.
use Rattle.std.proofs.Common.{◌≡◌, ℕ, zero, suc, ◌≤◌, Bool, true, List, Option, Some, None, Result, Ok, refl, sym, ap}
use Rattle.std.proofs.Common.{subst, ◌∙◌, arith}
use Rattle.std.specs.Prelude.{IfSome}
use Rattle.mta_ber.specs.declared.fault.Fault.{Fault}
use Rattle.mta_ber.specs.declared.tag.Tag.{Tag}
use Rattle.mta_ber.specs.Bits.{bits_in}
use Rattle.mta_ber.specs.Element.{Part}
use Rattle.mta_ber.specs.Forms.{is_primitive_tag, is_constructed_tag}
use Rattle.mta_ber.specs.Head.{◌>>=◌}
use Rattle.mta_ber.specs.Moments.{SpellsMoment}
use Rattle.mta_ber.specs.Octet.{IsOctets}
use Rattle.mta_ber.specs.Parts.{components, is_tag, once, required}
use Rattle.mta_ber.specs.Segmented.{SpellsBits}
use Rattle.mta_ber.specs.Spelling.{Stands}
use Rattle.mta_ber.specs.Times.{utc_in, last_moment}
use Rattle.mta_ber.proofs.ComponentLaws.{StepSound, StepFull}
use Rattle.mta_ber.proofs.MomentLaws.{utc_sound, utc_full}
use Rattle.mta_ber.proofs.FormLaws.{primitive_is, constructed_is}
use Rattle.mta_ber.proofs.Steps.{bind_ok, ok_is, placed, required_so}
use Rattle.mta_ber.proofs.StringLaws.{bits_in_sound, bits_in_full}
use Rattle.mta_names.specs.Strings.{Puts, number_in, SpellsNumber}
use Rattle.mta_names.specs.Values.{IsRaw}
use Rattle.mta_names.proofs.ExtensionLaws.{number_sound, number_full, number_small}
use Rattle.mta_names.proofs.Tools.{puts_full, tag_is, picked, not_none, components_sound, components_full, Keeps}
use Rattle.mta_names.proofs.Tools.{spelled_keep}
use Rattle.mta_fields.specs.declared.supplied.Action.{Action}
use Rattle.mta_fields.specs.declared.supplied.Action.TheVariants.{Relayed, Rerouted}
use Rattle.mta_fields.specs.declared.supplied.Supplied.{Supplied}
use Rattle.mta_fields.specs.declared.supplied.SuppliedPart.{SuppliedPart}
use Rattle.mta_fields.specs.declared.supplied.SuppliedPart.TheVariants.{Arrival, Deferred, Routing, Other, Attempted}
use Rattle.mta_fields.specs.declared.supplied.SuppliedPart.TheVariants.{Converted}
use Rattle.mta_fields.specs.declared.supplied.SuppliedParts.{SuppliedParts}
use Rattle.mta_fields.specs.Domains.{domain_in, SpellsDomain}
use Rattle.mta_fields.specs.Traces.{IsSupplied, action_number, action_of, action_in, supplied_part_of, is_supplied_tag}
use Rattle.mta_fields.specs.Traces.{with_arrival, with_deferred, with_action, with_other, with_attempted}
use Rattle.mta_fields.specs.Traces.{with_converted, raw_in, supplied_part_in, supplied_step_of, supplied_step}
use Rattle.mta_fields.specs.Traces.{no_supplied, supplied, supplied_in, SpellsAction, MakesSuppliedPart, MakesSupplied}
use Rattle.mta_fields.specs.Traces.{SpellsSupplied}
use Rattle.mta_fields.proofs.DomainLaws.{domain_sound, domain_full}

-- ---- actions

number_of_action : (n : ℕ) → n ≤ 1 → action_number (action_of n) ≡ n
number_of_action zero h = refl
number_of_action (suc zero) h = refl
number_of_action (suc (suc n)) h = absurd (omega arith)

action_of_number : (a : Action) → action_of (action_number a) ≡ a
action_of_number Relayed = refl
action_of_number Rerouted = refl

action_sound : (a : Action) (p : Part) → action_in p ≡ Ok a → SpellsAction p.tag.constructed p.content a
action_sound a p e =
    let b = bind_ok (number_in 0 1 p) (λ n. Ok (action_of n)) a e in
    let s = number_sound 0 1 b.0 p b.1 in
    let small = number_small 0 1 b.0 p.tag.constructed p.content s in
    let same : b.0 ≡ action_number a = sym (number_of_action b.0 small)
    ∙ ap action_number (ok_is (action_of b.0) a b.2) in
    record { spelled = subst (λ n. SpellsNumber 0 1 p.tag.constructed p.content n) same s }

action_full : (a : Action) (p : Part) → SpellsAction p.tag.constructed p.content a → action_in p ≡ Ok a
action_full a p h = ap (λ r. r >>= λ n. Ok (action_of n)) (number_full 0 1 (action_number a) p h.spelled)
    ∙ ap (λ (x : Action). Ok x) (action_of_number a)

-- ---- tags

abbrev HasTag : Tag → SuppliedPart → Type 0
HasTag t k = is_supplied_tag k t ≡ true

tagged : (t : Tag) (k : SuppliedPart) → supplied_part_of t ≡ Some k → HasTag t k
tagged t =
    picked (HasTag t) (is_tag 2 0 t) Arrival _ (λ e. e)
    (picked (HasTag t) (is_tag 2 1 t) Deferred _ (λ e. e)
    (picked (HasTag t) (is_primitive_tag 2 2 t) Routing _ (λ e. e)
    (picked (HasTag t) (is_tag 2 3 t) Other _ (λ e. e)
    (picked (HasTag t) (is_constructed_tag 1 3 t) Attempted _ (λ e. e)
    (picked (HasTag t) (is_tag 1 5 t) Converted _ (λ e. e) (not_none (HasTag t)))))))

found : (k : SuppliedPart) (t : Tag) → HasTag t k → supplied_part_of t ≡ Some k
found Arrival t h = let e = tag_is 2 0 t h in rw (e.0, e.1) refl
found Deferred t h = let e = tag_is 2 1 t h in rw (e.0, e.1) refl
found Routing t h = let e = primitive_is 2 2 t h in rw (e.0, e.1, e.2) refl
found Other t h = let e = tag_is 2 3 t h in rw (e.0, e.1) refl
found Attempted t h = let e = constructed_is 1 3 t h in rw (e.0, e.1, e.2) refl
found Converted t h = let e = tag_is 1 5 t h in rw (e.0, e.1) refl

-- ---- one component

once_sound : {S A : Type 0} (held : Option A) (at : ℕ) (read : Result A Fault) (put : A → S) (t : S)
    (spelled : A → Type 0) → ((x : A) → read ≡ Ok x → spelled x) → (once held at read >>= λ x. Ok (put x)) ≡ Ok t
    → (held ≡ None) × Puts spelled put t
once_sound held at read put t spelled f e = let q = placed held at read put t e in
    (q.1, record { value = q.0; value_spelled = f q.0 q.2; after_is = sym q.3 })

once_full : {S A : Type 0} (held : Option A) (at : ℕ) (read : Result A Fault) (put : A → S) (t : S)
    (spelled : A → Type 0) → ((x : A) → spelled x → read ≡ Ok x) → (held ≡ None) × Puts spelled put t
    → (once held at read >>= λ x. Ok (put x)) ≡ Ok t
once_full held at read put t spelled f h = ap (λ o. once o at read >>= λ x. Ok (put x)) h.0
    ∙ puts_full read put t spelled f h.1

part_sound : (k : SuppliedPart) (s t : SuppliedParts) (p : Part) → p.depth ≤ 16 → IsOctets p.content
    → supplied_part_in k s p ≡ Ok t → MakesSuppliedPart k p.depth s p.tag p.content p.octets t
part_sound Arrival s t p d o e =
    once_sound s.arrival p.at (utc_in p) (with_arrival s) t (SpellsMoment p.depth p.tag.constructed p.content)
    (λ x r. utc_sound p x d o r) e
part_sound Deferred s t p d o e =
    once_sound s.deferred p.at (utc_in p) (with_deferred s) t (SpellsMoment p.depth p.tag.constructed p.content)
    (λ x r. utc_sound p x d o r) e
part_sound Routing s t p d o e =
    once_sound s.action p.at (action_in p) (with_action s) t (SpellsAction p.tag.constructed p.content)
    (λ x r. action_sound x p r) e
part_sound Other s t p d o e = once_sound s.other p.at (bits_in p) (with_other s) t
    (SpellsBits p.depth p.tag.constructed p.content) (λ x r. bits_in_sound p x d o r) e
part_sound Attempted s t p d o e = once_sound s.attempted p.at (domain_in p) (with_attempted s) t
    (SpellsDomain p.depth p.tag p.content) (λ x r. domain_sound x p o r) e
part_sound Converted s t p d o e = once_sound s.converted p.at (raw_in p) (with_converted s) t (λ x. x ≡ p.octets)
    (λ x r. sym (ok_is p.octets x r)) e

part_full : (k : SuppliedPart) (s t : SuppliedParts) (p : Part) → p.depth ≤ 16
    → MakesSuppliedPart k p.depth s p.tag p.content p.octets t → supplied_part_in k s p ≡ Ok t
part_full Arrival s t p d h = once_full s.arrival p.at (utc_in p) (with_arrival s) t
    (SpellsMoment p.depth p.tag.constructed p.content) (λ x r. utc_full p x d r) h
part_full Deferred s t p d h = once_full s.deferred p.at (utc_in p) (with_deferred s) t
    (SpellsMoment p.depth p.tag.constructed p.content) (λ x r. utc_full p x d r) h
part_full Routing s t p d h = once_full s.action p.at (action_in p) (with_action s) t
    (SpellsAction p.tag.constructed p.content) (λ x r. action_full x p r) h
part_full Other s t p d h = once_full s.other p.at (bits_in p) (with_other s) t
    (SpellsBits p.depth p.tag.constructed p.content) (λ x r. bits_in_full p x d r) h
part_full Attempted s t p d h = once_full s.attempted p.at (domain_in p) (with_attempted s) t
    (SpellsDomain p.depth p.tag p.content) (λ x r. domain_full x p r) h
part_full Converted s t p d h = once_full s.converted p.at (raw_in p) (with_converted s) t (λ x. x ≡ p.octets)
    (λ x r. ap (λ (o : List ℕ). Ok o) (sym r)) h

step_sound : StepSound supplied_step MakesSupplied
unfolding supplied_step
step_sound s t p shallow content octets e = go (supplied_part_of p.tag) refl e
  where
    go : (o : Option SuppliedPart) → supplied_part_of p.tag ≡ o → supplied_step_of o s p ≡ Ok t
        → MakesSupplied p.depth s p.tag p.content p.octets t
    go None is e = absurd cc
    go (Some k) is e = record { part = k; is_tag_of = tagged p.tag k is; made = part_sound k s t p shallow content e }

step_full : StepFull supplied_step MakesSupplied
unfolding supplied_step
step_full s t p shallow h = ap (λ o. supplied_step_of o s p) (found h.part p.tag h.is_tag_of)
    ∙ part_full h.part s t p shallow h.made

pub supplied_sound : (v : Supplied) (p : Part) → IsOctets p.content → supplied_in p ≡ Ok v
    → SpellsSupplied p.depth p.tag.constructed p.content v
unfolding supplied_in
supplied_sound v p octets e =
    let a = bind_ok (components supplied_step no_supplied p)
    (λ s. required s.arrival p.at >>= λ m. required s.action p.at >>= λ a. Ok (supplied m a s)) v e in
    let c = components_sound supplied_step MakesSupplied step_sound no_supplied a.0 p octets a.1 in
    let b = bind_ok (required a.0.arrival p.at) (λ m. required a.0.action p.at >>= λ d. Ok (supplied m d a.0)) v a.2 in
    let d = bind_ok (required a.0.action p.at) (λ d. Ok (supplied b.0 d a.0)) v b.2 in
    subst (λ (x : Supplied). SpellsSupplied p.depth p.tag.constructed p.content x) {x = supplied b.0 d.0 a.0}
    (ok_is (supplied b.0 d.0 a.0) v d.2) (record {
      is_constructed = c.0;
      parts = a.0;
      spelled = c.1;
      arrival = required_so a.0.arrival p.at b.0 b.1;
      action = required_so a.0.action p.at d.0 d.1;
      value = refl;
    })

pub supplied_full : (v : Supplied) (p : Part) → SpellsSupplied p.depth p.tag.constructed p.content v
    → supplied_in p ≡ Ok v
unfolding supplied_in
supplied_full v p h =
    ap (λ r. r >>= λ s. required s.arrival p.at >>= λ m. required s.action p.at >>= λ a. Ok (supplied m a s))
    (components_full supplied_step MakesSupplied step_full no_supplied h.parts p h.is_constructed h.spelled)
    ∙ ap (λ o. required o p.at >>= λ m. required h.parts.action p.at >>= λ a. Ok (supplied m a h.parts)) h.arrival
    ∙ ap (λ o. required o p.at >>= λ a. Ok (supplied v.arrival a h.parts)) h.action
    ∙ ap (λ (x : Supplied). Ok x) (sym h.value)

-- ---- what is spelled is such as it may be

record Holds (s : SuppliedParts) : Type 0 where
  arrival : IfSome s.arrival (λ m. m ≤ last_moment)
  deferred : IfSome s.deferred (λ m. m ≤ last_moment)
  converted : IfSome s.converted (IsRaw 1 5)

keeps_part : (k : SuppliedPart) (depth : ℕ) (s t : SuppliedParts) (tag : Tag) (content octets : List ℕ) → HasTag tag k
    → Stands depth tag content octets → MakesSuppliedPart k depth s tag content octets t → Holds s → Holds t
keeps_part Arrival depth s t tag content octets is stands m h =
    subst Holds (sym m.1.after_is) (record {
      arrival = m.1.value_spelled.is_text.in_range;
      deferred = h.deferred;
      converted = h.converted;
    })
keeps_part Deferred depth s t tag content octets is stands m h =
    subst Holds (sym m.1.after_is) (record {
      arrival = h.arrival;
      deferred = m.1.value_spelled.is_text.in_range;
      converted = h.converted;
    })
keeps_part Routing depth s t tag content octets is stands m h =
    subst Holds (sym m.1.after_is) (record { arrival = h.arrival; deferred = h.deferred; converted = h.converted })
keeps_part Other depth s t tag content octets is stands m h =
    subst Holds (sym m.1.after_is) (record { arrival = h.arrival; deferred = h.deferred; converted = h.converted })
keeps_part Attempted depth s t tag content octets is stands m h =
    subst Holds (sym m.1.after_is) (record { arrival = h.arrival; deferred = h.deferred; converted = h.converted })
keeps_part Converted depth s t tag content octets is stands m h =
    subst Holds (sym m.1.after_is) (record {
      arrival = h.arrival;
      deferred = h.deferred;
      converted =
          subst (IsRaw 1 5) (sym m.1.value_spelled)
          (record { depth = depth; tag = tag; content = content; is_tag_of = is; stands = stands });
    })

keeps : Keeps MakesSupplied Holds
keeps depth s t tag content octets stands m h =
    keeps_part m.part depth s t tag content octets m.is_tag_of stands m.made h

pub supplied_is : (depth : ℕ) (c : Bool) (content : List ℕ) (v : Supplied) → SpellsSupplied depth c content v
    → IsSupplied v
supplied_is depth c content v h =
    let k = spelled_keep MakesSupplied Holds keeps depth no_supplied h.parts content h.spelled
    (record { arrival = tt; deferred = tt; converted = tt }) in
    let arrival : v.arrival ≤ last_moment = subst (λ o. IfSome o (λ m. m ≤ last_moment)) h.arrival k.arrival in
    subst IsSupplied (sym h.value) (record { arrival = arrival; deferred = k.deferred; converted = k.converted })
