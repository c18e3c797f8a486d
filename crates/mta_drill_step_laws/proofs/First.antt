-- What the first agent holds, and what each step leaves.
use Rattle.std.proofs.Common.{◌≡◌, inl, inr, ◌<◌, ◌≤◌, ℕ, ◌+◌, Bool, true, false, eqb, List, [], ◌∷◌, length}
use Rattle.std.proofs.Common.{Option, Some, None, refl, sym, ap, subst, ◌∙◌, arith, append-nil}
use Rattle.std.proofs.lemmas.Bool.{eqb-true, eqb-false}
use Rattle.std.proofs.lemmas.Bool.Decides.{leb_tells}
use Rattle.std.proofs.lemmas.List.{length-append}
use Rattle.mta_records.specs.declared.state.Origin.TheVariants.{Submitted}
use Rattle.mta_records.specs.declared.state.Status.{Status}
use Rattle.mta_records.specs.declared.state.Status.TheVariants.{Pending, Sent}
use Rattle.mta_procedures.specs.declared.verdict.Verdict.TheVariants as Verdicts
use Rattle.mta_machine.specs.Items.{ItemValue, Machine, has_status, is_pending, is_pending_at, names, numbered}
use Rattle.mta_machine.specs.Items.{set_numbered}
use Rattle.mta_machine.specs.Machine.{accepted_item, discharged_item, items_after}
use Rattle.mta_machine.specs.Machine.{last_tables}
use Rattle.mta_machine.specs.Machine.{relay_at, sent, verdict_at}
use Rattle.mta_machine.proofs.Later.{length-set_numbered}
use Rattle.mta_machine.proofs.Numbered.{set-other, set-same}
use Rattle.mta_histories.specs.Due.{IsToRelay}
use Rattle.mta_histories.specs.Due.{step_of}
use Rattle.mta_histories.specs.History.{HasExpired, IsExpiredOn}
use Rattle.mta_histories.specs.Lanes.{State, Transfer}
use Rattle.mta_histories.proofs.Dues.{some-first}
use Rattle.mta_histories.proofs.SoundMachine.{numbered-some, numbered-within}
use Rattle.mta_drill_laws.specs.Messages.{message_of}
use Rattle.mta_drill_laws.specs.Tables.{east, first_text}
use Rattle.mta_drill_laws.proofs.Relayed.{messages_relayed}
use Rattle.mta_drill_laws.proofs.TablesRead.{first_to_east}
use Rattle.mta_drill_step_laws.specs.First.{AcceptLeadsOn, AllAreFree, FirstIsQuiet, HasAccepted, IsToSend}
use Rattle.mta_drill_step_laws.specs.First.{NextIsRelayed}
use Rattle.mta_drill_step_laws.specs.First.{NoneIsLeft, SentLeadsOn}
use Rattle.mta_drill_step_laws.proofs.Items.{expired-so, item-pending, numbered-last, one-last, one-status, one-waits}
use Rattle.mta_drill_step_laws.proofs.Items.{only-one, pending-item, relay-so, status-set, verdict-so}

-- ---- what waits

pub text-last : (before count done : ℕ) (m : Machine) → HasAccepted before count done m
    → numbered m.tables (last_tables m) ≡ Some first_text
text-last before count done m h = one-last m.tables first_text h.tables

record Waits (done : ℕ) (m : Machine) (i r : ℕ) : Type 0 where
  pub item : ItemValue
  pub item_is : numbered m.items i ≡ Some item
  pub behind : done < i
  pub one : r ≡ 1

sent-pends-not : (ss : List (Option Status)) (r : ℕ) → ss ≡ Some (Sent 0 east) ∷ []
    → has_status is_pending (numbered ss r) ≡ true → ⊥
sent-pends-not ss r e h = let k = one-status ss (Some (Sent 0 east)) r e h in absurd cc

waits : (before count done : ℕ) (m : Machine) (i r : ℕ) → HasAccepted before count done m
    → is_pending_at m i r ≡ true → Waits done m i r
waits before count done m i r h p =
    let found = pending-item m.items i r p in
    let is = h.each i found.0 found.1 in
    elim (leb_tells i done) [
      | inl a ↦ absurd (sent-pends-not found.0.statuses r (is.gone a.1) found.2)
      | inr b ↦ (let k = one-status found.0.statuses (Some Pending) r (is.waits b.1) found.2 in
          record { item = found.0; item_is = found.1; behind = b.1; one = k.0 })
    ]

-- the next one waits, and goes to the second agent
next-pends : (before count done : ℕ) (m : Machine) → HasAccepted before count done m → done < count
    → is_pending_at m (done + 1) 1 ≡ true
next-pends before count done m h le =
    let here : done + 1 ≤ length m.items = omega (arith, h.items, le) in
    let found = numbered-some m.items (done + 1) (omega arith) here in
    let is = h.each (done + 1) found.0 found.1 in
    item-pending m.items (done + 1) 1 found.0 found.1 (one-waits found.0.statuses (is.waits (omega arith)))

goes-east : (before count done : ℕ) (m : Machine) (i : ℕ) (item : ItemValue) → HasAccepted before count done m
    → numbered m.items i ≡ Some item → relay_at m m.format (last_tables m) i 1 0 ≡ Some east
goes-east before count done m i item h e =
    let is = h.each i item e in
    relay-so m.format (numbered m.tables (last_tables m)) (numbered m.items i) first_text (message_of (before + i)) item
    1 0 h.format (text-last before count done m h) e is.octets is.arrival (messages_relayed (before + i)).verdict
    ∙ first_to_east

next-goes : (before count done : ℕ) (s : State) → HasAccepted before count done s.machine → AllAreFree s
    → done < count → IsToRelay s east 0 (done + 1) 1
next-goes before count done s h f le =
    let here : done + 1 ≤ length s.machine.items = omega (arith, h.items, le) in
    let found = numbered-some s.machine.items (done + 1) (omega arith) here in
    record {
      waiting = record { pending = next-pends before count done s.machine h le; free = f (done + 1) 1 };
      relayed = goes-east before count done s.machine (done + 1) found.0 h found.1;
    }

-- ---- nothing is due

verdict-is : (before count done : ℕ) (m : Machine) (i : ℕ) (item : ItemValue) → HasAccepted before count done m
    → numbered m.items i ≡ Some item → verdict_at m i 1 0 ≡ Some (Verdicts.Relay 0)
verdict-is before count done m i item h e =
    let is = h.each i item e in
    verdict-so m.format m.items (numbered m.tables (last_tables m)) (numbered m.items i) first_text
    (message_of (before + i)) item 1 (Verdicts.Relay 0) h.format
    (text-last before count done m h) e is.octets is.arrival
    (messages_relayed (before + i)).verdict

none-expires : (before count done : ℕ) (m : Machine) (o : Option Transfer) → HasAccepted before count done m
    → HasExpired m o 0 → ⊥
none-expires before count done m None h x = x
none-expires before count done m (Some t) h x = found (numbered m.items t.item) refl x
  where
    found : (b : Option ItemValue) → numbered m.items t.item ≡ b
        → IsExpiredOn m.format (numbered m.tables (last_tables m)) b 0 → ⊥
    found None e y = none (numbered m.tables (last_tables m)) y
      where
        none : (a : Option (List ℕ)) → IsExpiredOn m.format a None 0 → ⊥
        none None y = y
        none (Some text) y = y
    found (Some item) e y =
        let is = h.each t.item item e in
        expired-so m.format (numbered m.tables (last_tables m)) (Some item) first_text
        (message_of (before + t.item)) item h.format (text-last before count done m h) refl is.octets is.arrival
        (messages_relayed (before + t.item)).in_time y

pub first_is_quiet : FirstIsQuiet
first_is_quiet before count done s h i r due (inl v) =
    let w = waits before count done s.machine i r h v.waiting.pending in
    let relays = verdict-is before count done s.machine i w.item h w.item_is in
    let at = subst (λ x. verdict_at s.machine i x 0 ≡ Some v.verdict) w.one v.verdict_is in
    let same : Verdicts.Relay 0 ≡ v.verdict = cc in
    let none = subst (λ z. step_of z i r 0 ≡ Some due) (sym same) v.step_is in
    absurd cc
first_is_quiet before count done s h i r due (inr x) =
    none-expires before count done s.machine x.lane.transfer h x.expired

-- ---- what is sent next

pub next_is_relayed : NextIsRelayed
next_is_relayed before count done s i rs h f b =
    let one = some-first rs b.some_recipients in
    let each = λ (r : ℕ) (named : names rs r ≡ true).
    waits before count done s.machine i r h ((b.each r).0 named).waiting.pending in
    let w = each one.0 one.1 in
    let within = numbered-within s.machine.items i w.item w.item_is in
    let more : done < count = omega (arith, w.behind, within.1, h.items) in
    let low : i ≤ done + 1 = b.lowest (done + 1) 1 (next-goes before count done s h f more) in (
      more,
      omega (arith, low, w.behind),
      only-one rs b.some_recipients b.ascending (λ r named. (each r named).one),
    )

pub none_is_left : NoneIsLeft
none_is_left before count done s h f none = elim (leb_tells count done) [
  | inl a ↦ omega (arith, a.1, h.within)
  | inr b ↦ absurd (none (done + 1) 1 (next-goes before count done s h f b.1))
]

-- ---- a message more

pub accept_leads_on : AcceptLeadsOn
accept_leads_on before count m h = record {
  format = h.format;
  tables = h.tables;
  moment = refl;
  items = length-append m.items (accepted_item (message_of (before + (count + 1))) Submitted 0 ∷ [])
      ∙ ap (λ x. x + 1) h.items;
  within = omega arith;
  each = λ k item e. elim (numbered-last m.items (accepted_item (message_of (before + (count + 1))) Submitted 0) k item
      e) [
        | inl p ↦ h.each k item p
        | inr q ↦ (let k_is : k ≡ count + 1 = omega (arith, q.0, h.items) in new k item k_is q.1)
      ];
  mailboxes = h.mailboxes;
}
  where
    new : (k : ℕ) (item : ItemValue) → k ≡ count + 1
        → item ≡ accepted_item (message_of (before + (count + 1))) Submitted 0 → IsToSend before 0 k item
    new k item k_is is = subst (λ x. IsToSend before 0 x item) (sym k_is)
        (subst (λ x. IsToSend before 0 (count + 1) x) (sym is) (record {
          octets = refl;
          arrival = refl;
          gone = λ le. absurd (omega (arith, le));
          waits = λ le. (messages_relayed (before + (count + 1))).statuses;
        }))

-- ---- one more is sent

items-so : (m : Machine) (i tables decided format : ℕ) (item : ItemValue) (text : List ℕ)
    → numbered m.items i ≡ Some item → numbered m.tables (last_tables m) ≡ Some text
    → items_after m (numbered m.items i) i (1 ∷ []) (sent east tables decided format) 0
    ≡ set_numbered m.items i (discharged_item item (1 ∷ []) (sent east tables decided format) 0)
items-so m i tables decided format item text e t =
    rw (e, t) (append-nil (set_numbered m.items i
    (discharged_item item (1 ∷ []) (sent east tables decided format) 0)))

-- the item once it is sent
abbrev sent_item : (tables decided format : ℕ) → ItemValue → ItemValue
sent_item tables decided format item = discharged_item item (1 ∷ []) (sent east tables decided format) 0

each-after : (before done tables decided format : ℕ) (m : Machine) (item : ItemValue)
    → ((k : ℕ) (x : ItemValue) → numbered m.items k ≡ Some x → IsToSend before done k x)
    → numbered m.items (done + 1) ≡ Some item
    → (k : ℕ) (x : ItemValue)
    → numbered (set_numbered m.items (done + 1)
    (discharged_item item (1 ∷ []) (sent east tables decided format) 0)) k ≡ Some x
    → IsToSend before (done + 1) k x
each-after before done tables decided format m item each found k x e = by (eqb k (done + 1)) refl
  where
    here : (x : ItemValue) → (sent_item tables decided format item) ≡ x → IsToSend before (done + 1) (done + 1) x
    here x is = subst (λ z. IsToSend before (done + 1) (done + 1) z) is (
        let was = each (done + 1) item found in
        record {
          octets = was.octets;
          arrival = was.arrival;
          gone = λ le. status-set item.statuses Pending (Sent 0 east) (was.waits (omega arith));
          waits = λ le. absurd (omega (arith, le));
        })

    by : (b : Bool) → eqb k (done + 1) ≡ b → IsToSend before (done + 1) k x
    by true q =
        let k_is : k ≡ done + 1 = eqb-true k (done + 1) q in
        let there = subst (λ z. numbered (set_numbered m.items (done + 1) (sent_item tables decided format item))
        z ≡ Some x) k_is e in
        let set = set-same m.items (done + 1) (sent_item tables decided format item) item found in
        let is : (sent_item tables decided format item) ≡ x = cc in
        subst (λ z. IsToSend before (done + 1) z x) (sym k_is) (here x is)
    by false q =
        let there = sym (set-other m.items (done + 1) k (sent_item tables decided format item) q) ∙ e in
        let was = each k x there in
        let other = eqb-false k (done + 1) q in
        record {
          octets = was.octets;
          arrival = was.arrival;
          gone = λ le. was.gone (below le other);
          waits = λ le. was.waits (omega (arith, le));
        }
      where
        below : k ≤ done + 1 → (k ≡ done + 1 → ⊥) → k ≤ done
        below le other = elim (leb_tells k done) [
          | inl a ↦ a.1
          | inr b ↦ absurd (other (omega (arith, le, b.1)))
        ]

pub sent_leads_on : SentLeadsOn
sent_leads_on before count done tables decided format m h le =
    let here : done + 1 ≤ length m.items = omega (arith, h.items, le) in
    let found = numbered-some m.items (done + 1) (omega arith) here in
    let so = items-so m (done + 1) tables decided format found.0 first_text found.1
    (text-last before count done m h) in
    record {
      format = h.format;
      tables = h.tables;
      moment = refl;
      items = ap length so
          ∙ length-set_numbered m.items (done + 1)
          (discharged_item found.0 (1 ∷ []) (sent east tables decided format) 0)
          ∙ h.items;
      within = omega (arith, le);
      each = λ k x e. each-after before done tables decided format m found.0 h.each found.1 k x
          (subst (λ z. numbered z k ≡ Some x) so e);
      mailboxes = append-nil m.mailboxes ∙ h.mailboxes;
    }
