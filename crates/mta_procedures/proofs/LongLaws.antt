-- A copy has as many octets whichever recipients are chosen and whenever it is made.
use Rattle.std.proofs.Common.{◌≡◌, ℕ, zero, suc, ◌+◌, ◌-◌, ◌*◌, ◌^◌, Bool, true, false, List, [], ◌∷◌, ◌++◌, length}
use Rattle.std.proofs.Common.{Option, Some, None, refl, sym, ◌∙◌, ap, arith, length-append}
use Rattle.std.specs.Prelude.{if◌then◌else◌, nat_lt}
use Rattle.std.specs.Int.{bytes_high_first}
use Rattle.std.specs.List.{flat_map}
use Rattle.mta_ber.specs.declared.tag.Tag.{Tag}
use Rattle.mta_ber.specs.Bits.{BitString, bit}
use Rattle.mta_ber.specs.Canon.{element, ident_octets, length_octets, constructed, primitive, optional}
use Rattle.mta_ber.specs.Contents.{bits_content, utc_content, octet_count, unused_bits}
use Rattle.mta_fields.specs.declared.trace.TraceFields.{TraceFields}
use Rattle.mta_fields.specs.Domains.{canonical_domain}
use Rattle.mta_fields.specs.TraceElements.{canonical_trace}
use Rattle.mta_fields.specs.Traces.{canonical_supplied, canonical_deferred}
use Rattle.mta_envelope_common.specs.TraceLists.{canonical_trace_list}
use Rattle.mta_envelope_recipient.specs.declared.recipient.RecipientFields.{RecipientFields}
use Rattle.mta_envelope_recipient.specs.Recipients.{canonical_recipient}
use Rattle.mta_envelope_recipient.specs.Lists.{canonical_recipients}
use Rattle.mta_envelope.specs.declared.envelope.EnvelopeFields.{EnvelopeFields}
use Rattle.mta_envelope.specs.Envelopes.{envelope_front, envelope_middle, envelope_back, envelope_content}
use Rattle.mta_envelope.specs.Messages.{MessageValue, canonical_message, canonical_probe}
use Rattle.mta_tables.specs.Tables.{TablesValue}
use Rattle.mta_procedures.specs.Bits.{with_responsibility, with_word, weight}
use Rattle.mta_procedures.specs.Copies.{outgoing_message, outgoing_probe, outgoing_envelope, responsible_if}
use Rattle.mta_procedures.specs.Copies.{chosen_from, is_chosen, deferred_time, responsible_for}
use Rattle.mta_procedures.specs.Situations.{Situation}
use Rattle.mta_procedures.specs.Traces.{own_trace}

-- ---- lists as long as others

pub record AsLong (xs ys : List ℕ) : Type 0 where
  pub as_long : length xs ≡ length ys

pub same : (xs : List ℕ) → AsLong xs xs
same xs = record { as_long = refl }

pub both : (a b x y : List ℕ) → AsLong a b → AsLong x y → AsLong (a ++ x) (b ++ y)
both a b x y h k =
    let p = length-append a x in
    let q = length-append b y in
    let e : length (a ++ x) ≡ length (b ++ y) = omega (arith, p, q, h.as_long, k.as_long) in
    record { as_long = e }

pub behind : (a x y : List ℕ) → AsLong x y → AsLong (a ++ x) (a ++ y)
behind a x y h = both a a x y (same a) h

pub before : (x y b : List ℕ) → AsLong x y → AsLong (x ++ b) (y ++ b)
before x y b h = both x y b b h (same b)

pub around : (t : Tag) (x y : List ℕ) → AsLong x y → AsLong (element t x) (element t y)
unfolding element
around t x y h =
    behind (ident_octets t) (length_octets (length x) ++ x) (length_octets (length y) ++ y)
    (both (length_octets (length x)) (length_octets (length y)) x y
    (record { as_long = ap (λ n. length (length_octets n)) h.as_long }) h)

-- ---- indicators

length_bytes : (k n : ℕ) → length (bytes_high_first k n) ≡ k
length_bytes zero n = refl
length_bytes (suc k) n = ap (λ x. suc x) (length_bytes k n)

pub bits_long : (a b : BitString) → a.count ≡ b.count → AsLong (bits_content a) (bits_content b)
unfolding bits_content
bits_long a b e =
    let p = length_bytes (octet_count a.count) (a.word * 2 ^ unused_bits a.count) in
    let q = length_bytes (octet_count b.count) (b.word * 2 ^ unused_bits b.count) in
    record { as_long = ap (λ n. suc n) (p ∙ ap octet_count e ∙ sym q) }

set_count : (asked : Bool) (b : BitString) (w : ℕ) → (if asked then b else with_word b w).count ≡ b.count
set_count true b w = refl
set_count false b w = refl

clear_count : (asked : Bool) (b : BitString) (w : ℕ) → (if asked then with_word b w else b).count ≡ b.count
clear_count true b w = refl
clear_count false b w = refl

pub responsible_count : (responsible : Bool) (b : BitString) → (with_responsibility responsible b).count ≡ b.count
unfolding with_responsibility
responsible_count true b = set_count (bit b 0) b (b.word + weight b 0)
responsible_count false b = clear_count (bit b 0) b (b.word - weight b 0)

-- ---- recipients

recipient_long : (c d : Bool) (r : RecipientFields)
    → AsLong (canonical_recipient (responsible_if c r)) (canonical_recipient (responsible_if d r))
unfolding canonical_recipient
recipient_long c d r =
    let x = with_responsibility c r.indicators in
    let y = with_responsibility d r.indicators in
    let count : x.count ≡ y.count = responsible_count c r.indicators ∙ sym (responsible_count d r.indicators) in
    around (constructed 0 17) _ _ (before _ _ _
    (before _ _ _ (behind _ _ _ (around (primitive 2 1) (bits_content x) (bits_content y) (bits_long x y count)))))

recipients_long : (k : ℕ) (chosen others : List ℕ) (rs : List RecipientFields)
    → AsLong (flat_map canonical_recipient (chosen_from k chosen rs))
    (flat_map canonical_recipient (chosen_from k others rs))
recipients_long k chosen others [] = same []
recipients_long k chosen others (r ∷ rs) =
    both _ _ _ _ (recipient_long (is_chosen chosen k) (is_chosen others k) r) (recipients_long (k + 1) chosen others rs)

list_long : (chosen others : List ℕ) (rs : List RecipientFields)
    → AsLong (canonical_recipients (responsible_for chosen rs)) (canonical_recipients (responsible_for others rs))
unfolding canonical_recipients
list_long chosen others rs = around (constructed 2 2) _ _ (recipients_long 1 chosen others rs)

-- ---- traces

moment_long : (m n : ℕ) → AsLong (utc_content m) (utc_content n)
unfolding utc_content
moment_long m n = record { as_long = refl }

deferred_long : (m n arrival : ℕ) (deferral : Option ℕ) (t : TablesValue)
    → AsLong (optional canonical_deferred
    (deferred_time (record { tables = t; arrival = arrival; moment = m }) deferral))
    (optional canonical_deferred (deferred_time (record { tables = t; arrival = arrival; moment = n }) deferral))
deferred_long m n arrival None t = same []
deferred_long m n arrival (Some d) t = later (nat_lt arrival d)
  where
    later : (b : Bool) → AsLong (optional canonical_deferred (if b then Some m else None))
        (optional canonical_deferred (if b then Some n else None))
    later true = around (primitive 2 1) (utc_content m) (utc_content n) (moment_long m n)
    later false = same []

own_long : (m n arrival : ℕ) (deferral : Option ℕ) (t : TablesValue)
    → let s : Situation = record { tables = t; arrival = arrival; moment = m } in
    let s' : Situation = record { tables = t; arrival = arrival; moment = n } in
    AsLong (canonical_trace (own_trace s (deferred_time s deferral) false))
    (canonical_trace (own_trace s' (deferred_time s' deferral) false))
unfolding canonical_trace canonical_supplied
own_long m n arrival deferral t =
    around (constructed 0 16) _ _ (behind (canonical_domain t.domain) _ _
    (around (constructed 0 17) _ _ (before _ _ _
    (before _ _ _ (behind _ _ _ (deferred_long m n arrival deferral t))))))

joined : (f : TraceFields → List ℕ) (xs : List TraceFields) (x y : TraceFields) → AsLong (f x) (f y)
    → AsLong (flat_map f (xs ++ x ∷ [])) (flat_map f (xs ++ y ∷ []))
joined f [] x y h = before (f x) (f y) [] h
joined f (z ∷ zs) x y h = behind (f z) (flat_map f (zs ++ x ∷ [])) (flat_map f (zs ++ y ∷ [])) (joined f zs x y h)

trace_long : (xs : List TraceFields) (x y : TraceFields) → AsLong (canonical_trace x) (canonical_trace y)
    → AsLong (canonical_trace_list (xs ++ x ∷ [])) (canonical_trace_list (xs ++ y ∷ []))
unfolding canonical_trace_list
trace_long xs x y h = around (constructed 1 9) _ _ (joined canonical_trace xs x y h)

-- ---- envelopes

envelope_long : (e : EnvelopeFields) (chosen others : List ℕ) (m n arrival : ℕ) (t : TablesValue)
    → AsLong (envelope_content (outgoing_envelope (record { tables = t; arrival = arrival; moment = m }) e chosen))
    (envelope_content (outgoing_envelope (record { tables = t; arrival = arrival; moment = n }) e others))
unfolding envelope_content envelope_front envelope_middle envelope_back
envelope_long e chosen others m n arrival t =
    both _ _ _ _ (behind _ _ _ (before _ _ _
    (behind _ _ _ (trace_long e.trace _ _ (own_long m n arrival e.deferral t)))))
    (before _ _ _ (behind _ _ _ (list_long chosen others e.recipients)))

abbrev again : Situation → ℕ → Situation
again s n = record { tables = s.tables; arrival = s.arrival; moment = n }

as_again : (s t : Situation) → s.tables ≡ t.tables → s.arrival ≡ t.arrival → again s t.moment ≡ t
as_again s t e h = situation_is s.tables t.tables s.arrival t.arrival t.moment e h
  where
    situation_is : (a b : TablesValue) (c d m : ℕ) → a ≡ b → c ≡ d
        → ◌≡◌ {A = Situation} (record { tables = a; arrival = c; moment = m })
        (record { tables = b; arrival = d; moment = m })
    situation_is a b c d m e h = cc

message_long : (v w : EnvelopeFields) (content : List ℕ) → AsLong (envelope_content v) (envelope_content w)
    → AsLong (canonical_message v content) (canonical_message w content)
unfolding canonical_message
message_long v w content h = around (constructed 2 0) _ _
    (before _ _ _ (around (constructed 0 17) (envelope_content v) (envelope_content w) h))

probe_long : (v w : EnvelopeFields) → AsLong (envelope_content v) (envelope_content w)
    → AsLong (canonical_probe v) (canonical_probe w)
unfolding canonical_probe
probe_long v w h = around (constructed 2 2) (envelope_content v) (envelope_content w) h

pub messages_long : (s t : Situation) (m : MessageValue) (chosen others : List ℕ) → s.tables ≡ t.tables
    → s.arrival ≡ t.arrival → length (outgoing_message s m chosen) ≡ length (outgoing_message t m others)
unfolding outgoing_message
messages_long s t m chosen others e h =
    let whole = message_long (outgoing_envelope s m.envelope chosen)
    (outgoing_envelope (again s t.moment) m.envelope others) m.content.octets
    (envelope_long m.envelope chosen others s.moment t.moment s.arrival s.tables) in
    whole.as_long ∙ ap (λ u. length (canonical_message (outgoing_envelope u m.envelope others) m.content.octets))
    (as_again s t e h)

pub probes_long : (s t : Situation) (v : EnvelopeFields) (chosen others : List ℕ) → s.tables ≡ t.tables
    → s.arrival ≡ t.arrival → length (outgoing_probe s v chosen) ≡ length (outgoing_probe t v others)
unfolding outgoing_probe
probes_long s t v chosen others e h =
    let whole = probe_long (outgoing_envelope s v chosen) (outgoing_envelope (again s t.moment) v others)
    (envelope_long v chosen others s.moment t.moment s.arrival s.tables) in
    whole.as_long ∙ ap (λ u. length (canonical_probe (outgoing_envelope u v others))) (as_again s t e h)
