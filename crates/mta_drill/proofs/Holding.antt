-- What both agents hold at the end, in the words of what is counted.
use Rattle.std.proofs.Common.{◌≡◌, ℕ, ◌+◌, ◌≤◌, true, List, [], ◌∷◌, Option, Some, None, refl, sym, ap}
use Rattle.std.proofs.Common.{subst, ◌∙◌}
use Rattle.std.specs.List.{list_any}
use Rattle.mta_envelope.specs.declared.envelope.EnvelopeFields.{EnvelopeFields}
use Rattle.mta_envelope.specs.Contents.{content_as}
use Rattle.mta_envelope.specs.Messages.{MessageValue, message_as}
use Rattle.mta_apdu.specs.Apdus.{ApduValue, message, probe, report}
use Rattle.mta_records.specs.declared.state.MailboxLine.{MailboxLine}
use Rattle.mta_records.specs.declared.state.Status.{Status}
use Rattle.mta_records.specs.declared.state.Status.TheVariants as status
use Rattle.mta_records.specs.declared.step.Step.{Step}
use Rattle.mta_machine.specs.Apdu.{value_of}
use Rattle.mta_machine.specs.Items.{ItemValue, Machine, numbered}
use Rattle.mta_histories.specs.Compact.{shown_of, snapshot_of, wants_content}
use Rattle.mta_histories.specs.Compaction.{HasShortItems}
use Rattle.mta_histories.specs.History.{after}
use Rattle.mta_histories.specs.Lanes.{State as SpoolState}
use Rattle.mta_histories.specs.Sound.{IsSound, state_begun}
use Rattle.mta_drill_laws.specs.Messages.{copied, copy_of, drilled, identifier_of}
use Rattle.mta_drill_laws.specs.Tables.{east}
use Rattle.mta_drill_laws.proofs.Delivered.{copies_delivered}
use Rattle.mta_drill_laws.proofs.Relayed.{messages_relayed}
use Rattle.mta_drill_step_laws.specs.First.{HasAccepted, IsToSend}
use Rattle.mta_drill_step_laws.specs.Second.{HasGot, IsGot}
use Rattle.mta_drill.specs.Held.{HoldsDelivered, HoldsSent, IsDelivery, IsMessage, IsNamed, IsSent, IsSentOn}
use Rattle.mta_drill.specs.Worked.{As_it_was, In_snapshot, IsAgain}
use Rattle.mta_drill.proofs.Again.{IsKeptAs, as_many, item_again}

-- ---- what is sent

sent-on : (ss : List (Option Status)) → ss ≡ Some (status.Sent 0 east) ∷ [] → IsSentOn ss
sent-on ss e = subst (λ (xs : List (Option Status)). IsSentOn xs) (sym e) tt

-- a message that shows the same but for its content has the same envelope
same-envelope : (v w : MessageValue) → shown_of (Some (message w)) ≡ shown_of (Some (message v))
    → w.envelope ≡ v.envelope
same-envelope v w e =
    ap (λ (x : MessageValue). x.envelope)
    (same-message (message_as w.envelope (content_as true [])) (message_as v.envelope (content_as true [])) e)
  where
    same-message : (a b : MessageValue) → ◌≡◌ {A = Option ApduValue} (Some (message a)) (Some (message b)) → a ≡ b
    same-message a b f = cc

named-shown : (i : ℕ) (v : MessageValue) (octets : List ℕ) (o : Option ApduValue)
    → v.envelope.id.local ≡ identifier_of i
    → value_of octets ≡ o → shown_of o ≡ shown_of (Some (message v)) → IsNamed octets i
named-shown i v octets None local read e = absurd cc
named-shown i v octets (Some (probe x)) local read e = absurd cc
named-shown i v octets (Some (report x)) local read e = absurd cc
named-shown i v octets (Some (message w)) local read e = record {
  value = w;
  read = read;
  local = ap (λ (x : EnvelopeFields). x.id.local) (same-envelope v w e) ∙ local;
}

module _ (before count : ℕ) where
  module _ (k : ℕ) (old : ItemValue) (within : k ≤ count) (is : IsToSend before count k old) where
    read-so : value_of old.octets ≡ Some (message (drilled (before + k)))
    read-so = ap value_of is.octets ∙ (messages_relayed (before + k)).kept

    sent-now : IsSent old (before + k)
    sent-now = record {
      named = record { value = drilled (before + k); read = read-so; local = refl };
      sent = sent-on old.statuses (is.gone within);
    }

    sent-still : (new : ItemValue) → IsKeptAs old new → IsSent new (before + k)
    sent-still new kept = record {
      named = named-shown (before + k) (drilled (before + k)) new.octets (value_of new.octets) refl refl
          (kept.shown.shown ∙ ap (λ (o : Option ApduValue). shown_of o) read-so);
      sent = sent-on new.statuses (kept.shown.statuses ∙ is.gone within);
    }

  holds-sent : (m : Machine) → HasAccepted before count count m → HoldsSent m before count
  holds-sent m h = record {
    items = h.items;
    sent = λ k item within found. sent-now k item within (h.each k item found);
  }

  snapshot-sent : (s : SpoolState) → IsSound s → HasShortItems s → HasAccepted before count count s.machine
      → HoldsSent (state_begun (snapshot_of s)).machine before count
  snapshot-sent s sound short h = record {
    items = as_many s ∙ h.items;
    sent = λ k new within found. (
        let old = item_again s k new sound short found in
        sent-still k old.0 within (h.each k old.0 old.1) new old.2);
  }

  pub sent_again : (steps : List Step) (s : SpoolState) → HasAccepted before count count (after steps).machine
      → IsAgain steps s → HoldsSent s.machine before count
  sent_again steps s h (As_it_was is) =
      subst (λ (x : SpoolState). HoldsSent x.machine before count) (sym is) (holds-sent (after steps).machine h)
  sent_again steps s h (In_snapshot sound short is) =
      subst (λ (x : SpoolState). HoldsSent x.machine before count) (sym is) (snapshot-sent (after steps) sound short h)

  -- ---- what is delivered

  message-of : (k : ℕ) (octets : List ℕ) → octets ≡ copy_of (before + k) → IsMessage octets (before + k)
  message-of k octets e = record {
    value = copied (before + k);
    read = ap value_of e ∙ (copies_delivered (before + k)).kept;
    local = refl;
    content = refl;
  }

  delivery-of : (m : Machine) → HasGot before count count m → (k : ℕ) (line : MailboxLine)
      → numbered m.mailboxes k ≡ Some line → IsDelivery k line
  delivery-of m h k line found =
      let e = h.each_line k line found in
      (ap (λ (l : MailboxLine). l.item) e, ap (λ (l : MailboxLine). l.mailbox) e)

  holds-delivered : (m : Machine) → HasGot before count count m → HoldsDelivered m before count
  holds-delivered m h = record {
    items = h.items;
    messages = λ k item within found. message-of k item.octets (h.each k item found).octets;
    lines = h.lines;
    deliveries = λ k line within found. delivery-of m h k line found;
  }

  -- who was delivered to has all octets still
  octets-still : (k : ℕ) (old new : ItemValue) → k ≤ count → IsGot before count k old → IsKeptAs old new
      → new.octets ≡ copy_of (before + k)
  octets-still k old new within is kept =
      kept.whole (ap (λ (ss : List (Option Status)). list_any wants_content ss) (is.gone within)) ∙ is.octets

  snapshot-delivered : (s : SpoolState) → IsSound s → HasShortItems s → HasGot before count count s.machine
      → HoldsDelivered (state_begun (snapshot_of s)).machine before count
  snapshot-delivered s sound short h = record {
    items = as_many s ∙ h.items;
    messages = λ k new within found. (
        let old = item_again s k new sound short found in
        message-of k new.octets (octets-still k old.0 new within (h.each k old.0 old.1) old.2));
    lines = h.lines;
    deliveries = λ k line within found. delivery-of s.machine h k line found;
  }

  pub delivered_again : (steps : List Step) (s : SpoolState) → HasGot before count count (after steps).machine
      → IsAgain steps s → HoldsDelivered s.machine before count
  delivered_again steps s h (As_it_was is) =
      subst (λ (x : SpoolState). HoldsDelivered x.machine before count) (sym is)
      (holds-delivered (after steps).machine h)
  delivered_again steps s h (In_snapshot sound short is) =
      subst (λ (x : SpoolState). HoldsDelivered x.machine before count) (sym is)
      (snapshot-delivered (after steps) sound short h)
