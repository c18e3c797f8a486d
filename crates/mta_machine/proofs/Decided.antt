-- What was decided for a transfer stays so: tables and items keep what a verdict rests on.
use Rattle.std.proofs.Common.{◌≡◌, ◌≢◌, ℕ, ◌≤◌, Bool, true, false, eqb, List, [], ◌∷◌}
use Rattle.std.proofs.Common.{◌++◌, Option, Some, None, refl, sym, ap, subst, ◌∙◌, arith, inl, inr}
use Rattle.std.specs.Prelude.{◌⊎◌, ◌&&◌, ◌||◌}
use Rattle.std.proofs.lemmas.Bool.{cases_Bool, eqb-true}
use Rattle.mta_procedures.specs.declared.verdict.Verdict.{Verdict}
use Rattle.mta_procedures.specs.declared.verdict.Verdict.TheVariants as Verdicts
use Rattle.mta_machine.specs.Items.{ItemValue, Machine, numbered, set_numbered, names, AreDifferent, has_status}
use Rattle.mta_machine.specs.Items.{is_pending}
use Rattle.mta_machine.specs.Rules.{Failure, verdict_of}
use Rattle.mta_machine.specs.Machine.{failed, MachineStep, set_tables, set_format, accept, discharge, machine_after}
use Rattle.mta_machine.specs.Machine.{machine_run, Needs}
use Rattle.mta_machine.specs.Machine.{IsRun, ArePending, relay_at, relay_on, relay_by, items_after, discharged_item}
use Rattle.mta_machine.proofs.Numbered.{set-same, set-other, numbered-front}
use Rattle.mta_machine.proofs.Steps.{stays}
use Rattle.mta_machine.proofs.Once.{pending-is}
use Rattle.mta_machine.proofs.Later.{fail_all}

-- the same APDU, of the same arrival
pub record IsSameApdu (before now : ItemValue) : Type 0 where
  pub octets : now.octets ≡ before.octets
  pub arrival : now.arrival ≡ before.arrival

-- an item stays, with its octets and its arrival
abbrev pub Stays : List ItemValue → ℕ → ItemValue → Type 0
Stays items i item = (now : ItemValue) × (numbered items i ≡ Some now) × IsSameApdu item now

replaced-stays : (items : List ItemValue) (j i : ℕ) (old new item : ItemValue) → numbered items j ≡ Some old
    → IsSameApdu old new → numbered items i ≡ Some item → Stays (set_numbered items j new) i item
replaced-stays items j i old new item there same e = elim (cases_Bool (eqb i j)) [
  | inl here ↦ (
      let ij : i ≡ j = eqb-true i j here in
      let is : old ≡ item = some-same old item (sym there ∙ (ap (numbered items) (sym ij) ∙ e)) in (
        new,
        subst (λ (k : ℕ). numbered (set_numbered items j new) k ≡ Some new) (sym ij)
            (set-same items j new old there),
        subst (λ (x : ItemValue). IsSameApdu x new) is same,
      ))
  | inr apart ↦ (item, set-other items j i new apart ∙ e, record { octets = refl; arrival = refl })
]
  where
    some-same : (a b : ItemValue) → Some a ≡ Some b → a ≡ b
    some-same a b f = cc

pub item-stays : (m : Machine) (step : MachineStep) (i : ℕ) (item : ItemValue) → numbered m.items i ≡ Some item
    → Stays (machine_after m step).items i item
item-stays m (set_tables text) i item e = (item, e, record { octets = refl; arrival = refl })
item-stays m set_format i item e = (item, e, record { octets = refl; arrival = refl })
item-stays m (accept octets origin moment) i item e =
    (item, numbered-front m.items _ i item e, record { octets = refl; arrival = refl })
item-stays m (discharge j rs how moment) i item e = by_item (numbered m.items j) refl
  where
    by_item : (o : Option ItemValue) → numbered m.items j ≡ o → Stays (items_after m o j rs how moment) i item
    by_item None is = (item, e, record { octets = refl; arrival = refl })
    by_item (Some old) is =
        let r = replaced-stays m.items j i old (discharged_item old rs how moment) item is (record {
          octets = refl;
          arrival = refl;
        }) e in
        (r.0, numbered-front (set_numbered m.items j (discharged_item old rs how moment)) _ i r.0 r.1, r.2)

pub tables-stay : (m : Machine) (step : MachineStep) (t : ℕ) (text : List ℕ) → numbered m.tables t ≡ Some text
    → numbered (machine_after m step).tables t ≡ Some text
tables-stay m (set_tables new) t text e = numbered-front m.tables _ t text e
tables-stay m set_format t text e = e
tables-stay m (accept octets origin moment) t text e = e
tables-stay m (discharge j rs how moment) t text e = e

pub relayed-on : (format : ℕ) (a : Option (List ℕ)) (b : Option ItemValue) (r d : ℕ) (peer : List ℕ)
    → relay_on format a b r d ≡ Some peer
    → (text : List ℕ) × (item : ItemValue) × (a ≡ Some text) × (b ≡ Some item)
    × (relay_by text (verdict_of format text item.octets item.arrival r d) ≡ Some peer)
relayed-on format None b r d peer e = absurd cc
relayed-on format (Some text) None r d peer e = absurd cc
relayed-on format (Some text) (Some item) r d peer e = (text, item, refl, refl, e)

-- who relays has the verdict to relay
pub relay-verdict : (text : List ℕ) (v : Option Verdict) (peer : List ℕ) → relay_by text v ≡ Some peer
    → (place : ℕ) × (v ≡ Some (Verdicts.Relay place))
relay-verdict text None peer e = absurd cc
relay-verdict text (Some (Verdicts.Deliver place)) peer e = absurd cc
relay-verdict text (Some (Verdicts.Expand place)) peer e = absurd cc
relay-verdict text (Some (Verdicts.Relay place)) peer e = (place, refl)
relay-verdict text (Some Verdicts.Affirm) peer e = absurd cc
relay-verdict text (Some (Verdicts.NonDeliver reason diagnostic)) peer e = absurd cc
relay-verdict text (Some (Verdicts.Hold until)) peer e = absurd cc
relay-verdict text (Some Verdicts.Back) peer e = absurd cc
relay-verdict text (Some Verdicts.Discard) peer e = absurd cc

relay-same : (format : ℕ) (text : List ℕ) (old now : ItemValue) (r d : ℕ) → IsSameApdu old now
    → relay_on format (Some text) (Some now) r d ≡ relay_on format (Some text) (Some old) r d
relay-same format text old now r d same =
    ap (λ (o : List ℕ). relay_by text (verdict_of format text o now.arrival r d)) same.octets ∙ ap
    (λ (a : ℕ). relay_by text (verdict_of format text old.octets a r d)) same.arrival

relay-stays-one : (m : Machine) (step : MachineStep) (format t i r d : ℕ) (peer : List ℕ)
    → relay_at m format t i r d ≡ Some peer → relay_at (machine_after m step) format t i r d ≡ Some peer
relay-stays-one m step format t i r d peer e =
    let f = relayed-on format (numbered m.tables t) (numbered m.items i) r d peer e in
    let s = item-stays m step i f.1 f.3 in
    ap (λ (a : Option (List ℕ)). relay_on format a (numbered (machine_after m step).items i) r d)
    (tables-stay m step t f.0 f.2)
    ∙ (ap (λ (b : Option ItemValue). relay_on format (Some f.0) b r d) s.1
    ∙ (relay-same format f.0 f.1 s.0 r d s.2 ∙ f.4))

-- a verdict that relays stays one
pub relay-stays : (m : Machine) (steps : List MachineStep) (format t i r d : ℕ) (peer : List ℕ)
    → relay_at m format t i r d ≡ Some peer → relay_at (machine_run m steps) format t i r d ≡ Some peer
relay-stays m [] format t i r d peer e = e
relay-stays m (step ∷ steps) format t i r d peer e =
    relay-stays (machine_after m step) steps format t i r d peer (relay-stays-one m step format t i r d peer e)

-- tables that were recorded stay
pub recorded-stays : (m : Machine) (steps : List MachineStep) → m.tables ≢ []
    → (machine_run m steps).tables ≢ []
recorded-stays m [] some = some
recorded-stays m (set_tables text ∷ steps) some =
    recorded-stays (machine_after m (set_tables text)) steps (behind m.tables)
  where
    behind : (ts : List (List ℕ)) → ts ++ text ∷ [] ≢ []
    behind [] e = absurd cc
    behind (t ∷ ts) e = absurd cc
recorded-stays m (set_format ∷ steps) some = recorded-stays (machine_after m set_format) steps some
recorded-stays m (accept octets origin moment ∷ steps) some =
    recorded-stays (machine_after m (accept octets origin moment)) steps some
recorded-stays m (discharge i rs how moment ∷ steps) some =
    recorded-stays (machine_after m (discharge i rs how moment)) steps some

-- ---- recipients that are pending and different can fail one after the other

pub fail-run : (m : Machine) (failure : Failure) (moment i : ℕ) (rs : List ℕ) → ArePending m i rs
    → AreDifferent rs → m.moment ≤ moment → IsRun m (fail_all failure moment i rs)
fail-run m failure moment i [] pending different timely = tt
fail-run m failure moment i (q ∷ rs) pending different timely = (
  (alone, (refl, tt), (q, refl), timely),
  fail-run
      (machine_after m (discharge i (q ∷ []) (failed failure) moment)) failure moment i rs others different.1
      (omega arith),
)
  where
    alone : ArePending m i (q ∷ [])
    alone r named = pending r (either (eqb r q) (names rs r) named)
      where
        either : (a b : Bool) → (a || false) ≡ true → (a || b) ≡ true
        either true b e = refl
        either false b e = absurd cc

    others : ArePending (machine_after m (discharge i (q ∷ []) (failed failure) moment)) i rs
    others r named =
        let p = pending-is _ (pending r (behind (eqb r q) (names rs r) named)) in
        ap (has_status is_pending)
        (stays m (discharge i (q ∷ []) (failed failure) moment) i r (Some p.0)
        (apart (eqb i i) (eqb r q) (differs (cases_Bool (eqb r q)))) p.1) ∙ p.2
      where
        behind : (a b : Bool) → b ≡ true → (a || b) ≡ true
        behind true b e = refl
        behind false b e = e

        apart : (a b : Bool) → b ≡ false → (a && (b || false)) ≡ false
        apart true b e = ap (λ (c : Bool). c || false) e
        apart false b e = refl

        differs : (eqb r q ≡ true) ⊎ (eqb r q ≡ false) → eqb r q ≡ false
        differs (inl same) = absurd (contrary (eqb-true r q same))
          where
            contrary : r ≡ q → ⊥
            contrary e = let both : names rs q ≡ true =
                subst (λ (n : ℕ). names rs n ≡ true) e named in let clash : false ≡ true =
                sym different.0 ∙ both in absurd cc
        differs (inr isnt) = isnt

-- ---- formats

format-grows-one : (m : Machine) (step : MachineStep) → Needs m step → m.format ≤ (machine_after m step).format
format-grows-one m (set_tables text) needs = omega arith
format-grows-one m set_format needs = omega (arith, needs)
format-grows-one m (accept octets origin moment) needs = omega arith
format-grows-one m (discharge i rs how moment) needs = omega arith

-- the format never falls
pub format-grows : (m : Machine) (steps : List MachineStep) → IsRun m steps → m.format ≤ (machine_run m steps).format
format-grows m [] run = omega arith
format-grows m (step ∷ steps) run =
    omega (arith, format-grows-one m step run.0, format-grows (machine_after m step) steps run.1)
