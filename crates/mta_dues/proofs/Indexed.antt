-- What is known of items, as the index changes, and as steps are made.
use Rattle.std.proofs.Common.{inl, inr, ◌≡◌, ◌≢◌, ◌<◌, ◌++◌, ◌≤◌, ℕ, zero, suc, List, [], ◌∷◌, Option, Some}
use Rattle.std.proofs.Common.{Bool, true, false, None, length, refl, sym, ap, subst, ◌∙◌, arith}
use Rattle.std.specs.Prelude.{◌⊎◌, ◌&&◌, if◌then◌else◌, max, nat_le, nat_lt, slice_get}
use Rattle.std.proofs.lemmas.Bool.{cases_eq, le-leb, leb-true, lt-ltb, ltb-true}
use Rattle.std.proofs.lemmas.Option.{same_Some}
use Rattle.mta_machine.specs.Items.{ItemValue, numbered}
use Rattle.mta_machine.specs.Machine.{machine_run}
use Rattle.mta_machine.specs.Rules.{is_expired}
use Rattle.mta_idle_laws.specs.Idle.{calls_at_once, IsAtRest, IsIdleUntil}
use Rattle.mta_idle_laws.specs.Later.{IsLater}
use Rattle.mta_idle_laws.proofs.Kept.{idle_later, items_go_on, verdict_later}
use Rattle.mta_idle_laws.proofs.Stays.{idle_until_next, verdicts_stay}
use Rattle.mta_machine.specs.Machine.{relay_by}
use Rattle.mta_state.specs.declared.rest.Span.{Span}
use Rattle.mta_state.specs.Spans.{IsSpanFor, has}
use Rattle.mta_dues.specs.Agendas.{AgendaValue, IsAside, IsLetGo, IsPutOff, KeepsAll, Rests}
use Rattle.mta_state.specs.Readings.{IsDecodedOf}
use Rattle.mta_dues.specs.declared.hand.Hand.{Hand}
use Rattle.mta_dues.specs.declared.index.Index.{Index}
use Rattle.mta_dues.specs.declared.looked.Looked.{Looked}
use Rattle.mta_dues.specs.Index.{AreSpansIn, HasPending, IndexesStay, IsAtHand, IsAtRestIn, IsIndexed, IsOfHand, IsSpanIn}
use Rattle.mta_dues.specs.Looked.{AreIdleUpTo, IsLooked, looked_up_to}
use Rattle.mta_dues.specs.Spans.{IsLearnt, held_as}
use Rattle.mta_dues.proofs.Covered.{learnt_one}
use Rattle.mta_dues.proofs.Waiting.{looked_so}

-- the same is at hand
same_hand : (items : List ItemValue) (old new : Index) → new.hand ≡ old.hand → IsAtHand items old.hand
    → IsAtHand items new.hand
same_hand items old new same is = subst (λ (o : Option Hand). IsAtHand items o) (sym same) is

same_looked : (format : ℕ) (text : List ℕ) (items : List ItemValue) (old new : Index) → new.looked ≡ old.looked
    → IsLooked format text items old.looked → IsLooked format text items new.looked
same_looked format text items old new same is =
    subst (λ (o : Option Looked). IsLooked format text items o) (sym same) is

same_spans : (format : ℕ) (text : List ℕ) (items : List ItemValue) (old new : Index) → new.spans ≡ old.spans
    → AreSpansIn format text items old.spans → AreSpansIn format text items new.spans
same_spans format text items old new same are =
    subst (λ (spans : List Span). AreSpansIn format text items spans) (sym same) are

-- an agenda that keeps what rests
pub kept : (format : ℕ) (text : List ℕ) (items : List ItemValue) (old new : Index) → KeepsAll old.agenda new.agenda
    → new.spans ≡ old.spans → new.hand ≡ old.hand → new.looked ≡ old.looked → IsIndexed format text items old
    → IsIndexed format text items new
kept format text items old new agenda spans hand looked indexed = record {
  rests = λ i moment r. indexed.rests i moment (agenda.rests i moment r);
  spans = same_spans format text items old new spans indexed.spans;
  hand = same_hand items old new hand indexed.hand;
  looked = same_looked format text items old new looked indexed.looked;
}

pub with_agenda : (format : ℕ) (text : List ℕ) (items : List ItemValue) (old : Index) (agenda : AgendaValue)
    → KeepsAll old.agenda agenda → IsIndexed format text items old
    → IsIndexed format text items (record old { agenda = agenda })
with_agenda format text items old agenda keeps indexed =
    kept format text items old (record old { agenda = agenda }) keeps refl refl refl indexed

-- what is known of one number, and of the others as before
with_one : (format : ℕ) (text : List ℕ) (items : List ItemValue) (old new : Index) (number : ℕ)
    → ((i moment : ℕ) → i ≢ number → Rests new.agenda i moment → Rests old.agenda i moment)
    → new.spans ≡ old.spans → new.hand ≡ old.hand → new.looked ≡ old.looked
    → ((moment : ℕ) → Rests new.agenda number moment → IsAtRestIn format text items number moment)
    → IsIndexed format text items old → IsIndexed format text items new
with_one format text items old new number rests spans hand looked one indexed = record {
  rests = λ i moment r. elim (cases_eq i number) [
    | inl same ↦
        subst (λ (j : ℕ). IsAtRestIn format text items j moment) (sym same)
        (one moment (subst (λ (j : ℕ). Rests new.agenda j moment) same r))
    | inr apart ↦ indexed.rests i moment (rests i moment apart r)
  ];
  spans = same_spans format text items old new spans indexed.spans;
  hand = same_hand items old new hand indexed.hand;
  looked = same_looked format text items old new looked indexed.looked;
}

-- an item of which nobody is pending rests for good
pub let_go : (format : ℕ) (text : List ℕ) (items : List ItemValue) (old new : Index) (number : ℕ) (item : ItemValue)
    → (HasPending item → ⊥) → numbered items number ≡ Some item → IsLetGo old.agenda new.agenda number
    → new.spans ≡ old.spans → new.hand ≡ old.hand → new.looked ≡ old.looked → IsIndexed format text items old
    → IsIndexed format text items new
let_go format text items old new number item none item_is go spans hand looked indexed =
    with_one format text items old new number go.others.rests spans hand looked
    (λ moment r. record {
      item = item;
      item_is = item_is;
      idle = λ q pending. absurd (none (q, pending));
    })
    indexed

-- an item that is idle until the next change rests until then
pub put_off : (format : ℕ) (text : List ℕ) (items : List ItemValue) (old new : Index) (number : ℕ) (item : ItemValue)
    (moment until : ℕ) → IsIdleUntil format text item moment (Some until) → numbered items number ≡ Some item
    → IsPutOff old.agenda new.agenda number moment until → new.spans ≡ old.spans
    → new.hand ≡ old.hand → new.looked ≡ old.looked → IsIndexed format text items old
    → IsIndexed format text items new
put_off format text items old new number item moment until idle item_is off spans hand looked indexed =
    with_one format text items old new number off.others.rests spans hand looked
    (λ n r.
    let within = off.within n r in
    record {
      item = item;
      item_is = item_is;
      idle = idle_until_next format text item moment until n idle within.0 within.1;
    })
    indexed

-- the next change is to come
pub change_later : (format : ℕ) (text : List ℕ) (item : ItemValue) (moment until : ℕ)
    → IsIdleUntil format text item moment (Some until) → moment < until
change_later format text item moment until idle =
    (verdicts_stay format text item.octets item.arrival moment until idle.1).later

-- ---- spans

both : (a b : Bool) → (a && b) ≡ true → (a ≡ true) × (b ≡ true)
both true true is = (refl, refl)
both true false is = absurd cc
both false b is = absurd cc

later_end : (until moment : ℕ) → moment < until
    → moment < (if nat_lt until 4294967295 then until else max until 18446744073709551615)
later_end until moment before = by_test (nat_lt until 4294967295)
  where
    by_test : (b : Bool) → moment < (if b then until else max until 18446744073709551615)
    by_test true = before
    by_test false = omega (arith, before)

-- what is held of a span has what it has
held_has : (span : Span) (moment : ℕ) → has span moment ≡ true → has (held_as span) moment ≡ true
held_has span moment is =
    let parts = both (nat_le span.from moment) (nat_lt moment span.until) is in
    let from : span.from ≤ moment = leb-true span.from moment parts.0 in
    let until : moment < span.until = ltb-true moment span.until parts.1 in
    let held = held_as span in
    ap (λ b. b && nat_lt moment held.until) (le-leb held.from moment (omega (arith, from)))
    ∙ lt-ltb moment held.until (later_end span.until moment until)

held_within : (format : ℕ) (text : List ℕ) (item : ItemValue) (span : Span) → IsSpanFor format text item span
    → IsSpanFor format text item (held_as span)
held_within format text item span within r moment peer pending relayed =
    held_has span moment (within r moment peer pending relayed)

-- a span more is known
pub learnt : (format : ℕ) (text : List ℕ) (items : List ItemValue) (old new : Index) (number : ℕ) (item : ItemValue)
    (span : Span) → IsLearnt old.spans new.spans number span → new.agenda ≡ old.agenda → new.hand ≡ old.hand
    → new.looked ≡ old.looked → numbered items number ≡ Some item → IsSpanFor format text item span → IsIndexed format text items old
    → IsIndexed format text items new
learnt format text items old new number item span learns agenda hand looked item_is within indexed = record {
  rests = λ i moment r. indexed.rests i moment (subst (λ (a : AgendaValue). Rests a i moment) agenda r);
  spans = λ i s is. by_learning i s (learns i s is);
  hand = same_hand items old new hand indexed.hand;
  looked = same_looked format text items old new looked indexed.looked;
} where
  by_learning : (i : ℕ) (s : Span) → (numbered old.spans i ≡ Some s) ⊎ ((i ≡ number) × (s ≡ held_as span))
      → IsSpanIn format text items i s
  by_learning i s (inl before) = indexed.spans i s before
  by_learning i s (inr here) = record {
    item = item;
    item_is = ap (λ (j : ℕ). numbered items j) here.0 ∙ item_is;
    within = subst (λ (x : Span). IsSpanFor format text item x) (sym here.1)
        (held_within format text item span within);
  }

-- the span of the next item is known
pub learnt_next : (format : ℕ) (text : List ℕ) (items : List ItemValue) (old new : Index) (item : ItemValue)
    (span : Span) → new.spans ≡ old.spans ++ held_as span ∷ [] → new.agenda ≡ old.agenda → new.hand ≡ old.hand
    → new.looked ≡ old.looked → slice_get items (length old.spans) ≡ Some item → IsSpanFor format text item span
    → IsIndexed format text items old → IsIndexed format text items new
learnt_next format text items old new item span is agenda hand looked item_is within indexed =
    learnt format text items old new (suc (length old.spans)) item span
    (learnt_one old.spans new.spans (suc (length old.spans)) span (omega arith) is)
    agenda hand looked item_is within indexed

-- ---- at first

-- nothing is known of any item
pub fresh : (format : ℕ) (text : List ℕ) (items : List ItemValue) (index : Index) → index.agenda.known ≡ 0
    → index.spans ≡ [] → index.hand ≡ None → index.looked ≡ None → IsIndexed format text items index
fresh format text items index none unknown nothing nobody = record {
  rests = λ i moment r. absurd (never i r.aside);
  spans = λ i span is.
      absurd (no_span i span (subst (λ (spans : List Span). numbered spans i ≡ Some span) unknown is));
  hand = subst (λ (o : Option Hand). IsAtHand items o) (sym nothing) tt;
  looked = subst (λ (o : Option Looked). IsLooked format text items o) (sym nobody) tt;
} where
  never : (i : ℕ) → IsAside index.agenda i → ⊥
  never i a = let from = a.from in let known = a.known in omega (arith, from, known, none)

  no_span : (i : ℕ) (span : Span) → numbered [] i ≡ Some span → ⊥
  no_span zero span is = cc
  no_span (suc n) span is = cc

-- ---- what is at hand

-- another is at hand, or none
handed : (format : ℕ) (text : List ℕ) (items : List ItemValue) (old new : Index) → new.agenda ≡ old.agenda
    → new.spans ≡ old.spans → new.looked ≡ old.looked → IsAtHand items new.hand → IsIndexed format text items old
    → IsIndexed format text items new
handed format text items old new agenda spans looked hand indexed = record {
  rests = λ i moment r. indexed.rests i moment (subst (λ (a : AgendaValue). Rests a i moment) agenda r);
  spans = same_spans format text items old new spans indexed.spans;
  hand = hand;
  looked = same_looked format text items old new looked indexed.looked;
}

pub nothing_at_hand : (format : ℕ) (text : List ℕ) (items : List ItemValue) (old new : Index) → new.agenda ≡ old.agenda
    → new.spans ≡ old.spans → new.looked ≡ old.looked → new.hand ≡ None → IsIndexed format text items old
    → IsIndexed format text items new
nothing_at_hand format text items old new agenda spans looked none indexed =
    handed format text items old new agenda spans looked (subst (λ (o : Option Hand). IsAtHand items o) (sym none) tt) indexed

pub one_at_hand : (format : ℕ) (text : List ℕ) (items : List ItemValue) (old new : Index) (hand : Hand)
    (item : ItemValue)
    → new.agenda ≡ old.agenda → new.spans ≡ old.spans → new.looked ≡ old.looked → new.hand ≡ Some hand
    → numbered items hand.number ≡ Some item → IsDecodedOf item.octets hand.decoded
    → IsIndexed format text items old → IsIndexed format text items new
one_at_hand format text items old new hand item agenda spans looked one item_is decoded indexed =
    handed format text items old new agenda spans looked
    (subst (λ (o : Option Hand). IsAtHand items o) (sym one)
    (record { item = item; item_is = item_is; decoded = decoded }))
    indexed

-- what is at hand is of the item that has its number
pub of_hand : (format : ℕ) (text : List ℕ) (items : List ItemValue) (index : Index) (number : ℕ) (item : ItemValue)
    → IsIndexed format text items index → numbered items number ≡ Some item → IsOfHand item number index.hand
of_hand format text items index number item indexed item_is = by_hand index.hand indexed.hand
  where
    by_hand : (o : Option Hand) → IsAtHand items o → IsOfHand item number o
    by_hand None is = tt
    by_hand (Some hand) is = λ same.
        let one : is.item ≡ item =
        same_Some is.item item (sym is.item_is ∙ ap (λ (n : ℕ). numbered items n) same ∙ item_is) in
        subst (λ (x : ItemValue). IsDecodedOf x.octets hand.decoded) one is.decoded

-- ---- who was found to wait

pub looked_at : (format : ℕ) (text : List ℕ) (items : List ItemValue) (old new : Index) (looked : Looked)
    (item : ItemValue)
    → new.agenda ≡ old.agenda → new.spans ≡ old.spans → new.hand ≡ old.hand → new.looked ≡ Some looked
    → numbered items looked.number ≡ Some item
    → ((n : ℕ) → looked.from ≤ n → n < looked.until → AreIdleUpTo format text item looked.most n)
    → IsIndexed format text items old → IsIndexed format text items new
looked_at format text items old new looked item agenda spans hand one item_is idle indexed = record {
  rests = λ i moment r. indexed.rests i moment (subst (λ (a : AgendaValue). Rests a i moment) agenda r);
  spans = same_spans format text items old new spans indexed.spans;
  hand = same_hand items old new hand indexed.hand;
  looked = subst (λ (o : Option Looked). IsLooked format text items o) (sym one)
      (record { item = item; item_is = item_is; idle = idle });
}

-- how many are known to wait
pub looked_up_to_so : (format : ℕ) (text : List ℕ) (items : List ItemValue) (index : Index) (looked : Looked)
    (number moment : ℕ) (item : ItemValue) → index.looked ≡ Some looked → numbered items number ≡ Some item
    → IsIndexed format text items index
    → AreIdleUpTo format text item (looked_up_to looked number moment) moment
looked_up_to_so format text items index looked number moment item one item_is indexed =
    looked_so format text items looked number moment item
    (subst (λ (o : Option Looked). IsLooked format text items o) one indexed.looked) item_is

-- who waits does so later
at_rest_later : (format : ℕ) (text : List ℕ) (old new : ItemValue) (r moment : ℕ) → IsLater old new
    → IsAtRest format text old r moment → IsAtRest format text new r moment
at_rest_later format text old new r moment later before = record {
  waits = ap calls_at_once (verdict_later format text old new r moment later) ∙ before.waits;
  unexpired = ap (λ (o : List ℕ). is_expired format text o new.arrival moment) later.octets
      ∙ ap (λ (a : ℕ). is_expired format text old.octets a moment) later.arrival
      ∙ before.unexpired;
}

-- ---- steps

pub indexes_stay : IndexesStay
indexes_stay format text m steps index indexed = record {
  rests = λ i moment r.
      let was = indexed.rests i moment r in
      let on = items_go_on m steps i was.item was.item_is in
      record {
        item = on.item;
        item_is = on.item_is;
        idle = idle_later format text was.item on.item moment on.later was.idle;
      };
  spans = λ i span is.
      let was = indexed.spans i span is in
      let on = items_go_on m steps i was.item was.item_is in
      record {
        item = on.item;
        item_is = on.item_is;
        within = λ r moment peer pending relayed.
            was.within r moment peer (on.later.pending r pending)
            (sym (ap (relay_by text) (verdict_later format text was.item on.item r moment on.later)) ∙ relayed);
      };
  hand = by_hand index.hand indexed.hand;
  looked = by_looked index.looked indexed.looked;
} where
  by_looked : (o : Option Looked) → IsLooked format text m.items o
      → IsLooked format text (machine_run m steps).items o
  by_looked None is = tt
  by_looked (Some looked) is =
      let on = items_go_on m steps looked.number is.item is.item_is in
      record {
        item = on.item;
        item_is = on.item_is;
        idle = λ n from below r low pending.
            at_rest_later format text is.item on.item r n on.later
            (is.idle n from below r low (on.later.pending r pending));
      }

  by_hand : (o : Option Hand) → IsAtHand m.items o → IsAtHand (machine_run m steps).items o
  by_hand None is = tt
  by_hand (Some hand) is =
      let on = items_go_on m steps hand.number is.item is.item_is in
      record {
        item = on.item;
        item_is = on.item_is;
        decoded = subst (λ (octets : List ℕ). IsDecodedOf octets hand.decoded) (sym on.later.octets) is.decoded;
      }
