-- Which case is the first, step by step.
use Rattle.std.proofs.Common.{◌≡◌, ℕ, true, false, Some, refl, ap, ◌∙◌}
use Rattle.std.specs.Prelude.{slice_get}
use Rattle.std.specs.Option.{option_map_or}
use Rattle.mta_envelope.specs.declared.envelope.EnvelopeFields.{EnvelopeFields}
use Rattle.mta_envelope_recipient.specs.declared.recipient.RecipientFields.{RecipientFields}
use Rattle.mta_tables.specs.declared.entry.MailList.{MailList}
use Rattle.mta_tables.specs.Tables.{TablesValue}
use Rattle.mta_procedures.specs.Histories.{is_in_history}
use Rattle.mta_procedures.specs.Situations.{Situation}
use Rattle.mta_tables.specs.declared.hop.Hop.{Hop}
use Rattle.mta_tables.specs.declared.hop.Hop.TheVariants as Hops
use Rattle.mta_procedures.specs.declared.case.Case.TheVariants.{Looped, CriticalExtension, NoRoute, Expired, Deferred}
use Rattle.mta_procedures.specs.declared.case.Case.TheVariants.{ListInHistory, ListProhibited, PosterNotPermitted}
use Rattle.mta_procedures.specs.declared.case.Case.TheVariants.{FullHistory, LongMembersCopy, ToList, ToMailbox}
use Rattle.mta_procedures.specs.declared.case.Case.TheVariants.{LongCopy, ToPeer}
use Rattle.mta_procedures.specs.Facts.{Facts, envelope_facts, is_unwanted}
use Rattle.mta_procedures.specs.Verdicts.{first_case, leads_nowhere, leads_to_list, leads_to_mailbox, leads_to_peer}
use Rattle.mta_rules.specs.Cases.{later_case, IsAtList, IsAtHop}

pub looped_first : (f : Facts) → f.looped ≡ true → Looped ≡ first_case f
unfolding first_case
looped_first f a = rw a refl

pub critical_first : (f : Facts) → f.looped ≡ false → f.critical ≡ true → CriticalExtension ≡ first_case f
unfolding first_case
critical_first f a b = rw (a, b) refl

pub no_route_first : (f : Facts) → f.looped ≡ false → f.critical ≡ false → leads_nowhere f.hop ≡ true
    → NoRoute ≡ first_case f
unfolding first_case
no_route_first f a b c = rw (a, b, c) refl

pub expired_first : (f : Facts) → f.looped ≡ false → f.critical ≡ false → leads_nowhere f.hop ≡ false
    → f.expired ≡ true → Expired ≡ first_case f
unfolding first_case
expired_first f a b c d = rw (a, b, c, d) refl

pub deferred_first : (f : Facts) → f.looped ≡ false → f.critical ≡ false → leads_nowhere f.hop ≡ false
    → f.expired ≡ false → f.deferred ≡ true → Deferred ≡ first_case f
unfolding first_case
deferred_first f a b c d e = rw (a, b, c, d, e) refl

pub later_first : (f : Facts) → f.looped ≡ false → f.critical ≡ false → leads_nowhere f.hop ≡ false
    → f.expired ≡ false → f.deferred ≡ false → later_case f ≡ first_case f
unfolding first_case later_case
later_first f a b c d e = rw (a, b, c, d, e) refl

pub in_history_later : (f : Facts) → leads_to_list f.hop ≡ true → f.in_history ≡ true
    → ListInHistory ≡ later_case f
unfolding later_case
in_history_later f a b = rw (a, b) refl

pub prohibited_later : (f : Facts) → leads_to_list f.hop ≡ true → f.in_history ≡ false
    → f.prohibited ≡ true → ListProhibited ≡ later_case f
unfolding later_case
prohibited_later f a b c = rw (a, b, c) refl

pub not_permitted_later : (f : Facts) → leads_to_list f.hop ≡ true → f.in_history ≡ false
    → f.prohibited ≡ false → f.not_permitted ≡ true → PosterNotPermitted ≡ later_case f
unfolding later_case
not_permitted_later f a b c d = rw (a, b, c, d) refl

pub full_history_later : (f : Facts) → leads_to_list f.hop ≡ true → f.in_history ≡ false
    → f.prohibited ≡ false → f.not_permitted ≡ false → f.full_history ≡ true
    → FullHistory ≡ later_case f
unfolding later_case
full_history_later f a b c d e = rw (a, b, c, d, e) refl

pub long_members_later : (f : Facts) → leads_to_list f.hop ≡ true → f.in_history ≡ false
    → f.prohibited ≡ false → f.not_permitted ≡ false → f.full_history ≡ false → f.long_members ≡ true
    → LongMembersCopy ≡ later_case f
unfolding later_case
long_members_later f a b c d e g = rw (a, b, c, d, e, g) refl

pub list_later : (f : Facts) → leads_to_list f.hop ≡ true → f.in_history ≡ false → f.prohibited ≡ false
    → f.not_permitted ≡ false → f.full_history ≡ false → f.long_members ≡ false → ToList ≡ later_case f
unfolding later_case
list_later f a b c d e g = rw (a, b, c, d, e, g) refl

pub mailbox_later : (f : Facts) → leads_to_list f.hop ≡ false → leads_to_mailbox f.hop ≡ true
    → ToMailbox ≡ later_case f
unfolding later_case
mailbox_later f a b = rw (a, b) refl

pub long_copy_later : (f : Facts) → leads_to_list f.hop ≡ false → leads_to_mailbox f.hop ≡ false
    → leads_to_peer f.hop ≡ true → f.long_copy ≡ true → LongCopy ≡ later_case f
unfolding later_case
long_copy_later f a b c d = rw (a, b, c, d) refl

pub peer_later : (f : Facts) → leads_to_list f.hop ≡ false → leads_to_mailbox f.hop ≡ false
    → leads_to_peer f.hop ≡ true → f.long_copy ≡ false → ToPeer ≡ later_case f
unfolding later_case
peer_later f a b c d = rw (a, b, c, d) refl

pub nowhere_later : (f : Facts) → leads_to_list f.hop ≡ false → leads_to_mailbox f.hop ≡ false
    → leads_to_peer f.hop ≡ false → ToPeer ≡ later_case f
unfolding later_case
nowhere_later f a b c = rw (a, b, c) refl

pub ruleset case_steps = (looped_first, critical_first, no_route_first, expired_first, deferred_first, later_first)

pub ruleset list_steps = (
  in_history_later,
  prohibited_later,
  not_permitted_later,
  full_history_later,
  long_members_later,
  list_later,
)

pub ruleset hop_steps = (nowhere_later, mailbox_later, long_copy_later, peer_later)

-- ---- reports

pub report_to_list : (f : Facts) → f.looped ≡ false → f.critical ≡ false → leads_nowhere f.hop ≡ false
    → f.expired ≡ false → f.deferred ≡ false → leads_to_list f.hop ≡ true → f.in_history ≡ false
    → f.prohibited ≡ false → f.not_permitted ≡ false
    → f.full_history ≡ false → f.long_members ≡ false → ToList ≡ first_case f
report_to_list f a b c d e g h i j k l = list_later f g h i j k l ∙ later_first f a b c d e

pub report_to_mailbox : (f : Facts) → f.looped ≡ false → f.critical ≡ false → leads_nowhere f.hop ≡ false
    → f.expired ≡ false → f.deferred ≡ false → leads_to_list f.hop ≡ false
    → leads_to_mailbox f.hop ≡ true → ToMailbox ≡ first_case f
report_to_mailbox f a b c d e g h = mailbox_later f g h ∙ later_first f a b c d e

pub report_long : (f : Facts) → f.looped ≡ false → f.critical ≡ false → leads_nowhere f.hop ≡ false
    → f.expired ≡ false → f.deferred ≡ false → leads_to_list f.hop ≡ false
    → leads_to_mailbox f.hop ≡ false → leads_to_peer f.hop ≡ true → f.long_copy ≡ true
    → LongCopy ≡ first_case f
report_long f a b c d e g h i j = long_copy_later f g h i j ∙ later_first f a b c d e

pub report_to_peer : (f : Facts) → f.looped ≡ false → f.critical ≡ false → leads_nowhere f.hop ≡ false
    → f.expired ≡ false → f.deferred ≡ false → leads_to_list f.hop ≡ false
    → leads_to_mailbox f.hop ≡ false → leads_to_peer f.hop ≡ true → f.long_copy ≡ false
    → ToPeer ≡ first_case f
report_to_peer f a b c d e g h i j = peer_later f g h i j ∙ later_first f a b c d e

pub ruleset report_steps =
    (looped_first, no_route_first, expired_first, report_to_list, report_to_mailbox, report_long, report_to_peer)

-- ---- where a name leads

pub at_list : (t : TablesValue) (e : EnvelopeFields) (place members copy : ℕ) (f : Facts) (l : MailList)
    → IsAtHop t e (Hops.List place) members copy f → slice_get t.lists place ≡ Some l → IsAtList l e members f
at_list t e place members copy f l i h = record {
  leads = ap leads_to_list i.hop_is;
  in_history = i.in_history ∙ ap (λ o. option_map_or (λ x. is_in_history x e) o false) h;
  prohibited = i.prohibited;
  not_permitted = i.not_permitted ∙ ap (λ o. option_map_or (is_unwanted e) o false) h;
  full_history = i.full_history;
  long_members = i.long_members;
}

pub facts_at : (format : ℕ) (s : Situation) (e : EnvelopeFields) (r : RecipientFields) (hop : Hop) (members copy : ℕ)
    → IsAtHop s.tables e hop members copy (envelope_facts format s e r hop members copy)
facts_at format s e r hop members copy =
    record {
      hop_is = refl;
      in_history = refl;
      prohibited = refl;
      not_permitted = refl;
      full_history =
          refl;
      long_members = refl;
      long_copy = refl;
    }
