-- Values that are read say exactly what they spell.
use Rattle.std.proofs.Common.{◌≡◌, ℕ, zero, suc, ◌≤◌, Bool, true, false, cond, eqb, List, Ok, refl, sym, ap, subst, ◌∙◌}
use Rattle.std.proofs.Common.{arith}
use Rattle.mta_ber.specs.declared.fault.Kind.TheVariants.{BadTag}
use Rattle.mta_ber.specs.Element.{Part}
use Rattle.mta_ber.specs.Head.{◌>>=◌, fault}
use Rattle.mta_ber.specs.Octet.{IsOctets}
use Rattle.mta_ber.specs.Times.{utc_in}
use Rattle.mta_ber.proofs.ExplicitLaws.{ReadSound, ReadFull}
use Rattle.mta_ber.proofs.MomentLaws.{utc_sound, utc_full}
use Rattle.mta_ber.proofs.Steps.{bind_ok, ok_is, taken}
use Rattle.mta_names.specs.Lists.{is_sequence}
use Rattle.mta_names.specs.Strings.{number_in, SpellsNumber}
use Rattle.mta_names.proofs.ExtensionLaws.{number_sound, number_full, number_small}
use Rattle.mta_names.proofs.Tools.{list_sound, list_full}
use Rattle.mta_fields.specs.declared.expansion.ExpansionFields.{ExpansionFields}
use Rattle.mta_fields.specs.Expansions.{expansion_in}
use Rattle.mta_fields.specs.Traces.{digit}
use Rattle.mta_fields.proofs.ExpansionLaws.{expansion_sound, expansion_full}
use Rattle.mta_envelope_extensions.specs.declared.value.Topic.{Topic}
use Rattle.mta_envelope_extensions.specs.declared.value.Topic.TheVariants.{ExpansionHistory, LatestDelivery}
use Rattle.mta_envelope_extensions.specs.declared.value.Topic.TheVariants.{ExpansionProhibited, Other}
use Rattle.mta_envelope_extensions.specs.declared.value.Said.{Said}
use Rattle.mta_envelope_extensions.specs.declared.value.Said.TheVariants.{History, Latest, Prohibited, Unread}
use Rattle.mta_envelope_extensions.specs.declared.value.ExtValue.{ExtValue}
use Rattle.mta_envelope_extensions.specs.Topics.{history_in, SpellsItem, SpellsHistory, said_history, is_time}
use Rattle.mta_envelope_extensions.specs.Topics.{said_latest, is_number, said_prohibited, said_in, ext_value}
use Rattle.mta_envelope_extensions.specs.Topics.{value_said, SpellsSaid, SpellsValue}

-- ---- histories

item_sound : ReadSound expansion_in SpellsItem
item_sound v p shallow content octets e = expansion_sound v p content e

item_full : ReadFull expansion_in SpellsItem
item_full v p shallow h = expansion_full v p h

pub history_sound : (xs : List ExpansionFields) (p : Part) → IsOctets p.content → history_in p ≡ Ok xs
    → SpellsHistory p.depth p.tag.constructed p.content xs
unfolding history_in
history_sound xs p octets e = list_sound is_sequence expansion_in SpellsItem item_sound 1 512 p xs octets e

pub history_full : (xs : List ExpansionFields) (p : Part) → SpellsHistory p.depth p.tag.constructed p.content xs
    → history_in p ≡ Ok xs
unfolding history_in
history_full xs p h = list_full is_sequence expansion_in SpellsItem item_full 1 512 p xs h

-- ---- what is said

abbrev as_history : List ExpansionFields → Said
as_history xs = History xs

abbrev as_latest : ℕ → Said
as_latest m = Latest m

abbrev as_prohibited : Bool → Said
as_prohibited b = Prohibited b

digit_of : (n : ℕ) → n ≤ 1 → digit (eqb n 1) ≡ n
digit_of zero h = refl
digit_of (suc zero) h = refl
digit_of (suc (suc n)) h = absurd (omega arith)

of_digit : (b : Bool) → eqb (digit b) 1 ≡ b
of_digit true = refl
of_digit false = refl

history_said_sound : (s : Said) (p : Part) → IsOctets p.content → said_history p ≡ Ok s
    → SpellsSaid ExpansionHistory p.depth p.tag p.content s
history_said_sound s p o e =
    let c = taken (is_sequence p.tag) (history_in p >>= λ xs. Ok (as_history xs))
    (record { at = p.at; kind = BadTag }) s e in
    let b = bind_ok (history_in p) (λ xs. Ok (as_history xs)) s c.1 in
    subst (λ (x : Said). SpellsSaid ExpansionHistory p.depth p.tag p.content x) {x = as_history b.0}
    (ok_is (as_history b.0) s b.2) (c.0, history_sound b.0 p o b.1)

latest_said_sound : (s : Said) (p : Part) → p.depth ≤ 16 → IsOctets p.content → said_latest p ≡ Ok s
    → SpellsSaid LatestDelivery p.depth p.tag p.content s
latest_said_sound s p d o e =
    let c = taken (is_time p.tag) (utc_in p >>= λ m. Ok (as_latest m)) (record { at = p.at; kind = BadTag }) s e in
    let b = bind_ok (utc_in p) (λ m. Ok (as_latest m)) s c.1 in
    subst (λ (x : Said). SpellsSaid LatestDelivery p.depth p.tag p.content x) {x = as_latest b.0}
    (ok_is (as_latest b.0) s b.2) (c.0, utc_sound p b.0 d o b.1)

prohibited_said_sound : (s : Said) (p : Part) → said_prohibited p ≡ Ok s
    → SpellsSaid ExpansionProhibited p.depth p.tag p.content s
prohibited_said_sound s p e =
    let c = taken (is_number p.tag) (number_in 0 1 p >>= λ n. Ok (as_prohibited (eqb n 1)))
    (record { at = p.at; kind = BadTag }) s e in
    let b = bind_ok (number_in 0 1 p) (λ n. Ok (as_prohibited (eqb n 1))) s c.1 in
    let w = number_sound 0 1 b.0 p b.1 in
    let small = number_small 0 1 b.0 p.tag.constructed p.content w in
    let v = subst (λ n. SpellsNumber 0 1 p.tag.constructed p.content n) (sym (digit_of b.0 small)) w in
    subst (λ (x : Said). SpellsSaid ExpansionProhibited p.depth p.tag p.content x) {x = as_prohibited (eqb b.0 1)}
    (ok_is (as_prohibited (eqb b.0 1)) s b.2) (c.0, v)

pub said_sound : (t : Topic) (s : Said) (p : Part) → p.depth ≤ 16 → IsOctets p.content → said_in t p ≡ Ok s
    → SpellsSaid t p.depth p.tag p.content s
said_sound ExpansionHistory s p d o e = history_said_sound s p o e
said_sound LatestDelivery s p d o e = latest_said_sound s p d o e
said_sound ExpansionProhibited s p d o e = prohibited_said_sound s p e
said_sound Other s p d o e = subst (λ (x : Said). SpellsSaid Other p.depth p.tag p.content x) {x = Unread}
    (ok_is Unread s e) tt

pub said_full : (t : Topic) (s : Said) (p : Part) → p.depth ≤ 16 → SpellsSaid t p.depth p.tag p.content s
    → said_in t p ≡ Ok s
said_full ExpansionHistory (History xs) p d h =
    ap (λ b. cond b (history_in p >>= λ xs. Ok (as_history xs)) (fault p.at BadTag)) h.0
    ∙ ap (λ r. r >>= λ xs. Ok (as_history xs)) (history_full xs p h.1)
said_full LatestDelivery (Latest m) p d h =
    ap (λ b. cond b (utc_in p >>= λ m. Ok (as_latest m)) (fault p.at BadTag)) h.0
    ∙ ap (λ r. r >>= λ m. Ok (as_latest m)) (utc_full p m d h.1)
said_full ExpansionProhibited (Prohibited b) p d h =
    ap (λ c. cond c (number_in 0 1 p >>= λ n. Ok (as_prohibited (eqb n 1))) (fault p.at BadTag)) h.0
    ∙ ap (λ r. r >>= λ n. Ok (as_prohibited (eqb n 1))) (number_full 0 1 (digit b) p h.1)
    ∙ ap (λ c. Ok (as_prohibited c)) (of_digit b)
said_full Other Unread p d h = refl
said_full ExpansionHistory (Latest m) p d h = absurd h
said_full ExpansionHistory (Prohibited b) p d h = absurd h
said_full ExpansionHistory Unread p d h = absurd h
said_full LatestDelivery (History xs) p d h = absurd h
said_full LatestDelivery (Prohibited b) p d h = absurd h
said_full LatestDelivery Unread p d h = absurd h
said_full ExpansionProhibited (History xs) p d h = absurd h
said_full ExpansionProhibited (Latest m) p d h = absurd h
said_full ExpansionProhibited Unread p d h = absurd h
said_full Other (History xs) p d h = absurd h
said_full Other (Latest m) p d h = absurd h
said_full Other (Prohibited b) p d h = absurd h

-- ---- values

pub value_sound : (t : Topic) → ReadSound (value_said t) (SpellsValue t)
value_sound t v p shallow content octets e =
    let b = bind_ok (said_in t p) (λ s. Ok (ext_value p.octets s)) v e in
    subst (λ (x : ExtValue). SpellsValue t p.depth p.tag p.content p.octets x) {x = ext_value p.octets b.0}
    (ok_is (ext_value p.octets b.0) v b.2)
    (record { said = said_sound t b.0 p shallow content b.1; octets_are = refl })

pub value_full : (t : Topic) → ReadFull (value_said t) (SpellsValue t)
value_full t v p shallow h =
    ap (λ r. r >>= λ s. Ok (ext_value p.octets s)) (said_full t v.said p shallow h.said)
    ∙ ap (λ o. Ok (ext_value o v.said)) (sym h.octets_are)
