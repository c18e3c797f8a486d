-- What the second agent holds, and what each step leaves.
use Rattle.std.proofs.Common.{◌≡◌, ◌⊎◌, inl, inr, ◌<◌, ◌≤◌, ℕ, ◌+◌, Bool, true, false, eqb, List, [], ◌∷◌, ◌++◌, length}
use Rattle.std.proofs.Common.{Option, Some, None, refl, sym, ap, subst, ◌∙◌, arith, append-nil}
use Rattle.std.proofs.lemmas.Bool.{eqb-true, eqb-false}
use Rattle.std.proofs.lemmas.Bool.Decides.{leb_tells}
use Rattle.std.proofs.lemmas.List.{length-append}
use Rattle.mta_records.specs.declared.state.MailboxLine.{MailboxLine}
use Rattle.mta_records.specs.declared.state.Origin.TheVariants.{Lane}
use Rattle.mta_records.specs.declared.state.Status.{Status}
use Rattle.mta_records.specs.declared.state.Status.TheVariants.{Delivered, Pending}
use Rattle.mta_records.specs.declared.step.Step.{Step}
use Rattle.mta_records.specs.declared.step.Step.TheVariants as step
use Rattle.mta_procedures.specs.declared.verdict.Verdict.{Verdict}
use Rattle.mta_procedures.specs.declared.verdict.Verdict.TheVariants as Verdicts
use Rattle.mta_apdu.specs.Apdus.{ApduValue, message}
use Rattle.mta_machine.specs.Apdu.{is_report, value_of}
use Rattle.mta_machine.specs.Items.{ItemValue, Machine, has_status, is_pending, is_pending_at, numbered, set_numbered}
use Rattle.mta_machine.specs.Machine.{accepted_item, delivered, discharged_item, items_after}
use Rattle.mta_machine.specs.Machine.{last_tables, line_by, lines_of, unless_report, verdict_at}
use Rattle.mta_machine.specs.Rules.{delivery_report}
use Rattle.mta_machine.proofs.Later.{length-set_numbered}
use Rattle.mta_machine.proofs.Numbered.{set-other, set-same}
use Rattle.mta_histories.specs.Due.{IsDue, step_of}
use Rattle.mta_histories.specs.History.{HasExpired, IsExpiredOn}
use Rattle.mta_histories.specs.Lanes.{State, Transfer}
use Rattle.mta_histories.proofs.SoundMachine.{numbered-some, numbered-within}
use Rattle.mta_drill_laws.specs.Messages.{copied, copy_of}
use Rattle.mta_drill_laws.specs.Tables.{second_text}
use Rattle.mta_drill_laws.proofs.Delivered.{copies_delivered}
use Rattle.mta_drill_laws.proofs.TablesRead.{second_to_watt}
use Rattle.mta_drill_step_laws.specs.First.{AllAreFree}
use Rattle.mta_drill_step_laws.specs.Second.{AllAreDelivered, CompleteLeadsOn, DeliverLeadsOn, HasGot, IsGot, line_of}
use Rattle.mta_drill_step_laws.specs.Second.{NextIsDelivered}
use Rattle.mta_drill_step_laws.proofs.Items.{expired-so, item-pending, numbered-last, one-last, one-status, one-waits}
use Rattle.mta_drill_step_laws.proofs.Items.{pending-item, status-set, verdict-so}

-- ---- what waits

text-last : (before count done : ℕ) (m : Machine) → HasGot before count done m
    → numbered m.tables (last_tables m) ≡ Some second_text
text-last before count done m h = one-last m.tables second_text h.tables

record Waits (done : ℕ) (m : Machine) (i r : ℕ) : Type 0 where
  pub item : ItemValue
  pub item_is : numbered m.items i ≡ Some item
  pub behind : done < i
  pub one : r ≡ 1

delivered-pends-not : (ss : List (Option Status)) (r : ℕ) → ss ≡ Some (Delivered 0) ∷ []
    → has_status is_pending (numbered ss r) ≡ true → ⊥
delivered-pends-not ss r e h = let k = one-status ss (Some (Delivered 0)) r e h in absurd cc

waits : (before count done : ℕ) (m : Machine) (i r : ℕ) → HasGot before count done m
    → is_pending_at m i r ≡ true → Waits done m i r
waits before count done m i r h p =
    let found = pending-item m.items i r p in
    let is = h.each i found.0 found.1 in
    elim (leb_tells i done) [
      | inl a ↦ absurd (delivered-pends-not found.0.statuses r (is.gone a.1) found.2)
      | inr b ↦ (let k = one-status found.0.statuses (Some Pending) r (is.waits b.1) found.2 in
          record { item = found.0; item_is = found.1; behind = b.1; one = k.0 })
    ]

verdict-is : (before count done : ℕ) (m : Machine) (i : ℕ) (item : ItemValue) → HasGot before count done m
    → numbered m.items i ≡ Some item → verdict_at m i 1 0 ≡ Some (Verdicts.Deliver 0)
verdict-is before count done m i item h e =
    let is = h.each i item e in
    verdict-so m.format m.items (numbered m.tables (last_tables m)) (numbered m.items i) second_text
    (copy_of (before + i)) item 1 (Verdicts.Deliver 0) h.format (text-last before count done m h) e is.octets is.arrival
    (copies_delivered (before + i)).verdict

-- the delivery of the next one is due
next-due : (before count done : ℕ) (s : State) → HasGot before count done s.machine → AllAreFree s → done < count
    → IsDue s (done + 1) 1 0 (step.Deliver (done + 1) 1 0)
next-due before count done s h f le =
    let here : done + 1 ≤ length s.machine.items = omega (arith, h.items, le) in
    let found = numbered-some s.machine.items (done + 1) (omega arith) here in
    let is = h.each (done + 1) found.0 found.1 in
    inl (record {
      waiting = record {
        pending = item-pending s.machine.items (done + 1) 1 found.0 found.1
            (one-waits found.0.statuses (is.waits (omega arith)));
        free = f (done + 1) 1;
      };
      verdict = Verdicts.Deliver 0;
      verdict_is = verdict-is before count done s.machine (done + 1) found.0 h found.1;
      step_is = refl;
    })

none-expires : (before count done : ℕ) (m : Machine) (o : Option Transfer) → HasGot before count done m
    → HasExpired m o 0 → ⊥
none-expires before count done m None h x = x
none-expires before count done m (Some t) h x = found (numbered m.items t.item) refl x
  where
    found : (b : Option ItemValue) → numbered m.items t.item ≡ b
        → IsExpiredOn m.format (numbered m.tables (last_tables m)) b 0 → ⊥
    found None e y = none (numbered m.tables (last_tables m)) y
      where
        none : (a : Option (List ℕ)) → IsExpiredOn m.format a None 0 → ⊥
        none None y = y
        none (Some text) y = y
    found (Some item) e y =
        let is = h.each t.item item e in
        expired-so m.format (numbered m.tables (last_tables m)) (Some item) second_text
        (copy_of (before + t.item)) item h.format (text-last before count done m h) refl is.octets is.arrival
        (copies_delivered (before + t.item)).in_time y

-- ---- what is due

-- what a verdict that delivers calls for
delivers : (v : Verdict) (i r : ℕ) (due : Step) → Verdicts.Deliver 0 ≡ v → r ≡ 1 → step_of v i r 0 ≡ Some due
    → due ≡ step.Deliver i 1 0
delivers v i r due e q h =
    let at = subst (λ z. step_of z i r 0 ≡ Some due) (sym e) h in
    let one = subst (λ z. Some (step.Deliver i z 0) ≡ Some due) q at in
    cc

due-is : (before count done : ℕ) (s : State) (i r : ℕ) (due : Step) → HasGot before count done s.machine
    → IsDue s i r 0 due → (done < i) × (i ≤ count) × (due ≡ step.Deliver i 1 0)
due-is before count done s i r due h (inl v) =
    let w = waits before count done s.machine i r h v.waiting.pending in
    let is = verdict-is before count done s.machine i w.item h w.item_is in
    let at = subst (λ x. verdict_at s.machine i x 0 ≡ Some v.verdict) w.one v.verdict_is in
    let same : Verdicts.Deliver 0 ≡ v.verdict = cc in
    let within = numbered-within s.machine.items i w.item w.item_is in
    (w.behind, omega (arith, within.1, h.items), delivers v.verdict i r due same w.one v.step_is)
due-is before count done s i r due h (inr x) =
    absurd (none-expires before count done s.machine x.lane.transfer h x.expired)

first-of : (i j : ℕ) (A : Type 0) → (i < j) ⊎ ((i ≡ j) × A) → i ≤ j
first-of i j A (inl p) = omega (arith, p)
first-of i j A (inr p) = omega (arith, p.0)

pub next_is_delivered : NextIsDelivered
next_is_delivered before count done s due h f n =
    let d = due-is before count done s n.item n.recipient due h n.is_due in
    let more : done < count = omega (arith, d.0, d.1) in
    let low = first-of n.item (done + 1) (n.recipient ≤ 1)
    (n.lowest (done + 1) 1 (step.Deliver (done + 1) 1 0) (next-due before count done s h f more)) in
    let is : n.item ≡ done + 1 = omega (arith, d.0, low) in
    (more, d.2 ∙ ap (λ z. step.Deliver z 1 0) is)

pub all_are_delivered : AllAreDelivered
all_are_delivered before count done s h f quiet = elim (leb_tells count done) [
  | inl a ↦ omega (arith, a.1, h.within)
  | inr b ↦ absurd (quiet (done + 1) 1 (step.Deliver (done + 1) 1 0) (next-due before count done s h f b.1))
]

-- ---- a copy more

pub complete_leads_on : CompleteLeadsOn
complete_leads_on before count done m h = record {
  format = h.format;
  tables = h.tables;
  moment = refl;
  items = length-append m.items (accepted_item (copy_of (before + (count + 1))) Lane 0 ∷ [])
      ∙ ap (λ x. x + 1) h.items;
  within = omega (arith, h.within);
  each = λ k item e. elim (numbered-last m.items (accepted_item (copy_of (before + (count + 1))) Lane 0) k item e) [
    | inl p ↦ h.each k item p
    | inr q ↦ (let k_is : k ≡ count + 1 = omega (arith, q.0, h.items) in new k item k_is q.1)
  ];
  lines = h.lines;
  each_line = h.each_line;
}
  where
    new : (k : ℕ) (item : ItemValue) → k ≡ count + 1
        → item ≡ accepted_item (copy_of (before + (count + 1))) Lane 0 → IsGot before done k item
    new k item k_is is = subst (λ x. IsGot before done x item) (sym k_is)
        (subst (λ x. IsGot before done (count + 1) x) (sym is) (record {
          octets = refl;
          arrival = refl;
          gone = λ le. absurd (omega (arith, le, h.within));
          waits = λ le. (copies_delivered (before + (count + 1))).statuses;
        }))

-- ---- one more is delivered

no-report : (item : ItemValue) (v : ApduValue) (made : Option ApduValue) → value_of item.octets ≡ Some v
    → is_report (Some v) ≡ false → made ≡ None → unless_report item made ≡ []
no-report item v made e n q = rw (e, n, q) refl

items-so : (before count done : ℕ) (m : Machine) (i : ℕ) (item : ItemValue) → HasGot before count done m
    → numbered m.items i ≡ Some item
    → items_after m (numbered m.items i) i (1 ∷ []) delivered 0
    ≡ set_numbered m.items i (discharged_item item (1 ∷ []) delivered 0)
items-so before count done m i item h e =
    let is = h.each i item e in
    let law = copies_delivered (before + i) in
    let none = no-report item (message (copied (before + i)))
    (delivery_report second_text (length m.items + 1) item 1 0) (ap value_of is.octets ∙ law.kept) refl
    (law.no_report (length m.items + 1) item is.octets) in
    let text = text-last before count done m h in
    rw (e, text) (rw none (append-nil (set_numbered m.items i (discharged_item item (1 ∷ []) delivered 0))))

lines-so : (before count done : ℕ) (m : Machine) (i : ℕ) (item : ItemValue) → HasGot before count done m
    → numbered m.items i ≡ Some item → lines_of m i (1 ∷ []) delivered 0 ≡ line_of i ∷ []
lines-so before count done m i item h e =
    let text = text-last before count done m h in
    let v = verdict-is before count done m i item h e in
    by (numbered m.tables (last_tables m)) (verdict_at m i 1 0) text v
  where
    by : (a : Option (List ℕ)) (b : Option Verdict) → a ≡ Some second_text → b ≡ Some (Verdicts.Deliver 0)
        → line_by a b i 0 ≡ line_of i ∷ []
    by a b p q = rw (p, q) (rw second_to_watt refl)

-- the item once it is delivered
abbrev delivered_item : ItemValue → ItemValue
delivered_item item = discharged_item item (1 ∷ []) delivered 0

each-after : (before done : ℕ) (m : Machine) (item : ItemValue)
    → ((k : ℕ) (x : ItemValue) → numbered m.items k ≡ Some x → IsGot before done k x)
    → numbered m.items (done + 1) ≡ Some item
    → (k : ℕ) (x : ItemValue)
    → numbered (set_numbered m.items (done + 1) (discharged_item item (1 ∷ []) delivered 0)) k ≡ Some x
    → IsGot before (done + 1) k x
each-after before done m item each found k x e = by (eqb k (done + 1)) refl
  where
    here : (x : ItemValue) → (delivered_item item) ≡ x → IsGot before (done + 1) (done + 1) x
    here x is = subst (λ z. IsGot before (done + 1) (done + 1) z) is (
        let was = each (done + 1) item found in
        record {
          octets = was.octets;
          arrival = was.arrival;
          gone = λ le. status-set item.statuses Pending (Delivered 0) (was.waits (omega arith));
          waits = λ le. absurd (omega (arith, le));
        })

    by : (b : Bool) → eqb k (done + 1) ≡ b → IsGot before (done + 1) k x
    by true q =
        let k_is : k ≡ done + 1 = eqb-true k (done + 1) q in
        let there = subst (λ z. numbered (set_numbered m.items (done + 1) (delivered_item item)) z ≡ Some x) k_is e in
        let set = set-same m.items (done + 1) (delivered_item item) item found in
        let is : (delivered_item item) ≡ x = cc in
        subst (λ z. IsGot before (done + 1) z x) (sym k_is) (here x is)
    by false q =
        let there = sym (set-other m.items (done + 1) k (delivered_item item) q) ∙ e in
        let was = each k x there in
        let other = eqb-false k (done + 1) q in
        record {
          octets = was.octets;
          arrival = was.arrival;
          gone = λ le. was.gone (below le other);
          waits = λ le. was.waits (omega (arith, le));
        }
      where
        below : k ≤ done + 1 → (k ≡ done + 1 → ⊥) → k ≤ done
        below le other = elim (leb_tells k done) [
          | inl a ↦ a.1
          | inr b ↦ absurd (other (omega (arith, le, b.1)))
        ]

line-last : (done : ℕ) (lines : List MailboxLine) → length lines ≡ done
    → ((k : ℕ) (line : MailboxLine) → numbered lines k ≡ Some line → line ≡ line_of k)
    → (k : ℕ) (line : MailboxLine) → numbered (lines ++ line_of (done + 1) ∷ []) k ≡ Some line → line ≡ line_of k
line-last done lines long each k line e = elim (numbered-last lines (line_of (done + 1)) k line e) [
  | inl p ↦ each k line p
  | inr q ↦ (let k_is : done + 1 ≡ k = omega (arith, q.0, long) in q.1 ∙ ap line_of k_is)
]

pub deliver_leads_on : DeliverLeadsOn
deliver_leads_on before count done m h le =
    let here : done + 1 ≤ length m.items = omega (arith, h.items, le) in
    let found = numbered-some m.items (done + 1) (omega arith) here in
    let so = items-so before count done m (done + 1) found.0 h found.1 in
    let one = lines-so before count done m (done + 1) found.0 h found.1 in
    record {
      format = h.format;
      tables = h.tables;
      moment = refl;
      items = ap length so
          ∙ length-set_numbered m.items (done + 1) (discharged_item found.0 (1 ∷ []) delivered 0)
          ∙ h.items;
      within = omega (arith, le);
      each = λ k x e. each-after before done m found.0 h.each found.1 k x
          (subst (λ z. numbered z k ≡ Some x) so e);
      lines = length-append m.mailboxes (lines_of m (done + 1) (1 ∷ []) delivered 0)
          ∙ ap (λ z. length m.mailboxes + length z) one ∙ ap (λ z. z + 1) h.lines;
      each_line = λ k line e. line-last done m.mailboxes h.lines h.each_line k line
          (subst (λ z. numbered (m.mailboxes ++ z) k ≡ Some line) one e);
    }
