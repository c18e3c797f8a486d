-- One call of a spool of a drill.
use Rattle.std.proofs.Common.{◌≡◌, ◌<◌, ◌≤◌, ◌+◌, ◌^◌, ◌++◌, ℕ, List, [], ◌∷◌, length, Option, None, Some}
use Rattle.std.proofs.Common.{Result, Ok, Err, refl, sym, ap, subst, ◌∙◌, arith, inl, inr}
use Rattle.mta_edge.specs.Held.{HeldDisk}
use Rattle.mta_edge.specs.Images.{memory_disk}
use Rattle.mta_edge.specs.Moments.{may_tell, memory_clock}
use Rattle.mta_records.specs.declared.fault.StepFault.{StepFault}
use Rattle.mta_records.specs.declared.fault.StepFault.TheVariants as Faults
use Rattle.mta_records.specs.declared.step.Step.{Step}
use Rattle.mta_records.specs.declared.step.Step.TheVariants as step
use Rattle.mta_machine.specs.Apdu.{value_read}
use Rattle.mta_machine.specs.Items.{Machine, numbered}
use Rattle.mta_machine.specs.Rules.{tables_value}
use Rattle.mta_histories.specs.Due.{IsNext, IsQuiet}
use Rattle.mta_histories.specs.History.{after_step}
use Rattle.mta_histories.specs.Lanes.{State as SpoolState}
use Rattle.mta_spool.specs.Shown.{Shown}
use Rattle.mta_spool.specs.Stands.{Appends, AtMoment, IsOfNoLane, IsSpent, TellsFewer, fault_of}
use Rattle.mta_spool.specs.Turning.{Records, Turns}
use Rattle.mta_spool.specs.declared.spool.Turned.TheVariants.{Did, Quiet}
use Rattle.mta_stations.specs.Halting.{halt_of}
use Rattle.mta_stations.specs.declared.end.Halt.{Halt}
use Rattle.mta_tables.specs.Reading.{Bad}
use Rattle.mta_tables.specs.Tables.{TablesValue, tables_of}
use Rattle.mta_drill_laws.specs.Messages.{message_of}
use Rattle.mta_drill_laws.specs.Tables.{first_tables, first_text, second_tables, second_text}
use Rattle.mta_drill_laws.proofs.TablesRead.{first_is_read, second_is_read}
use Rattle.mta_drill_answer_laws.specs.Answers.{IsShort, Works}
use Rattle.mta_drill_answer_laws.proofs.Steps.{Clear, at_once, goes_on, stays_so}
use Rattle.mta_drill_step_laws.specs.First.{HasAccepted}
use Rattle.mta_drill_step_laws.specs.Second.{HasGot}
use Rattle.mta_drill_step_laws.proofs.First.{first_is_quiet}
use Rattle.mta_drill_step_laws.proofs.States.{accepted_is_one_more, first_begins, second_begins}
use Rattle.mta_drill.specs.Calls.{HasMade, HasNothing, HasRoom, HasSettled, HasTaken, HasTurned, Not_yet, One_more}
use Rattle.mta_drill.specs.Calls.{Settles, begun}
use Rattle.mta_drill.specs.Rounds.{round_size}

-- ---- tables

none-recorded : (m : Machine) (text : List ℕ) → m.tables ≡ [] → numbered m.tables (length m.tables) ≡ Some text → ⊥
none-recorded m text none is =
    let both : ◌≡◌ {A = Option (List ℕ)} None (Some text) =
    ap (λ (ts : List (List ℕ)). numbered ts (length ts)) (sym none) ∙ is in cc

read-so : (r : Result TablesValue Bad) (t : TablesValue) → value_read r ≡ Some t → r ≡ Ok t
read-so (Ok s) t e = let same : s ≡ t = cc in ap (λ (x : TablesValue). Ok x) same
read-so (Err bad) t e = absurd cc

pub first_read : tables_of first_text ≡ Ok first_tables
unfolding tables_value
first_read = read-so (tables_of first_text) first_tables first_is_read

pub second_read : tables_of second_text ≡ Ok second_tables
unfolding tables_value
second_read = read-so (tables_of second_text) second_tables second_is_read

-- ---- no want of memory

pub clear_now : (fault : StepFault) (halt : Option Halt) → halt ≡ halt_of fault → (IsShort halt → ⊥) → Clear fault
clear_now fault halt is clear = subst (λ (h : Option Halt). IsShort h → ⊥) is clear

pub clear_err : {T : Type 0} (fault : StepFault) → Clear fault → (f : StepFault)
    → ◌≡◌ {A = Result T StepFault} (Err fault) (Err f) → Clear f
clear_err fault clear f e = let same : fault ≡ f = cc in subst (λ (g : StepFault). Clear g) same clear

pub clear_ok : {T : Type 0} (x : T) (f : StepFault) → ◌≡◌ {A = Result T StepFault} (Ok x) (Err f) → Clear f
clear_ok x f e = absurd cc

-- ---- one step

module _ (old new : Shown HeldDisk (List ℕ)) where
  -- it is refused for no other cause than want of memory or of numbers
  not-refused : (made : Step) (f : StepFault) → IsOfNoLane (Some f) → Clear f
      → (HasRoom old.current → IsSpent old.current made → ⊥) → Appends memory_disk made old new (Some f)
      → HasRoom old.current → ⊥
  not-refused made Faults.Memory no_lane clear room m left = clear tt
  not-refused made Faults.Disk no_lane clear room m left = clear tt
  not-refused made Faults.Ended no_lane clear room m left = clear tt
  not-refused made (Faults.Full size need) no_lane clear room m left = clear tt
  not-refused made (Faults.Spent last) no_lane clear room m left = room left (m.spent last refl).1
  not-refused made (Faults.NoLane n) no_lane clear room m left = no_lane
  not-refused made (Faults.Fenced g) no_lane clear room m left = no_lane
  not-refused made (Faults.BusyLanes count) no_lane clear room m left = no_lane
  not-refused made Faults.Unexpected no_lane clear room m left = no_lane

  made-so : {T : Type 0} (made : Step) (x : Result T StepFault) → IsOfNoLane (fault_of x)
      → ((f : StepFault) → x ≡ Err f → Clear f) → (HasRoom old.current → IsSpent old.current made → ⊥)
      → Appends memory_disk made old new (fault_of x) → HasRoom old.current → new.current ≡ after_step old.current made
  made-so made (Ok v) no_lane clear room m left = m.changed refl
  made-so made (Err f) no_lane clear room m left = absurd (not-refused made f no_lane (clear f refl) room m left)

  pub has_made : {T : Type 0} (made : Step) (x : Result T StepFault) → IsOfNoLane (fault_of x)
      → ((f : StepFault) → x ≡ Err f → Clear f) → (HasRoom old.current → IsSpent old.current made → ⊥) → Works old
      → TellsFewer memory_clock old.clock new.clock → Appends memory_disk made old new (fault_of x)
      → HasMade made old new
  has_made made x no_lane clear room works fewer m = record {
    works = record {
      history = goes_on memory_disk old new made x works.history clear m;
      clock = λ k told. works.clock k (fewer k told);
    };
    current = made-so made x no_lane clear room m;
  }

  -- tables are recorded
  pub has_recorded : (text : List ℕ) (x : Result (Unit {0}) StepFault) → Records memory_disk text old new x
      → old.current.machine.tables ≡ [] → IsOfNoLane (fault_of x) → ((f : StepFault) → x ≡ Err f → Clear f)
      → Works old → new.clock ≡ old.clock → HasMade (step.Tables text) old new
  has_recorded text x records none no_lane clear works same =
      has_made (step.Tables text) x no_lane clear
      (λ left spent.
      let few : length old.current.machine.items + 2 < 2 ^ 32 = left in
      let needs : 2 ^ 32 ≤ length old.current.machine.items + 0 = spent in omega (arith, few, needs))
      works
      (λ k told. subst (λ (c : List ℕ). may_tell c k) same told)
      (records.appends (none-recorded old.current.machine text none))

  -- a message is taken
  pub has_taken : (before count : ℕ) (octets : List ℕ) (x : Result ℕ StepFault) → count ≤ round_size
      → octets ≡ message_of (before + (count + 1)) → HasTaken before count old
      → AtMoment memory_clock old.clock old.current.moment
      (λ m. Appends memory_disk (step.Accept m octets) old new (fault_of x))
      → IsOfNoLane (fault_of x) → ((f : StepFault) → x ≡ Err f → Clear f)
      → TellsFewer memory_clock old.clock new.clock → HasTaken before (count + 1) new
  has_taken before count octets x few spelled h at no_lane clear fewer =
      let did =
      has_made (step.Accept old.current.moment octets) x no_lane clear
      (λ left spent.
      let room : length old.current.machine.items + 2 < 2 ^ 32 = left in
      let needs : 2 ^ 32 ≤ length old.current.machine.items + 2 = spent in omega (arith, room, needs))
      h.works fewer
      (at_once memory_disk old new memory_clock (λ m. Appends memory_disk (step.Accept m octets) old new (fault_of x))
      h.works.clock at) in
      let room : length old.current.machine.items + 2 < 2 ^ 32 = omega (arith, few, h.accepted.items) in
      let now : new.current ≡ after_step old.current (step.Accept 0 (message_of (before + (count + 1)))) =
      did.current room
      ∙ ap (λ (m : ℕ). after_step old.current (step.Accept m octets)) h.moment
      ∙ ap (λ (os : List ℕ). after_step old.current (step.Accept 0 os)) spelled in
      record {
        works = did.works;
        accepted = subst (λ (s : SpoolState). HasAccepted before (count + 1) 0 s.machine) (sym now)
            (accepted_is_one_more before count old.current h.accepted);
        moment = ap (λ (s : SpoolState). s.moment) now;
        lanes = ap (λ (s : SpoolState). s.lanes) now ∙ h.lanes;
      }

  -- ---- the first step of an agent

  begun-room : old.current ≡ begun → HasRoom old.current
  begun-room is =
      let none : length old.current.machine.items ≡ 0 = ap (λ (s : SpoolState). length s.machine.items) is in
      omega (arith, none)

  begun-with : (made : Step) → old.current ≡ begun → HasMade made old new → new.current ≡ after_step begun made
  begun-with made is did = did.current (begun-room is) ∙ ap (λ (s : SpoolState). after_step s made) is

  pub none_taken : (before : ℕ) → old.current ≡ begun → HasMade (step.Tables first_text) old new
      → HasTaken before 0 new
  none_taken before is did =
      let now = begun-with (step.Tables first_text) is did in
      record {
        works = did.works;
        accepted = subst (λ (s : SpoolState). HasAccepted before 0 0 s.machine) (sym now)
            (first_begins before begun refl);
        moment = ap (λ (s : SpoolState). s.moment) now;
        lanes = ap (λ (s : SpoolState). s.lanes) now;
      }

  pub none_got : (before : ℕ) → old.current ≡ begun → HasMade (step.Tables second_text) old new
      → HasNothing before new
  none_got before is did =
      let now = begun-with (step.Tables second_text) is did in
      record {
        works = did.works;
        got = subst (λ (s : SpoolState). HasGot before 0 0 s.machine) (sym now) (second_begins before begun refl);
        moment = ap (λ (s : SpoolState). s.moment) now;
        lanes = ap (λ (s : SpoolState). s.lanes) now;
      }

-- ---- what is due

pub none_turned : (s : Shown HeldDisk (List ℕ)) → Works s → HasTurned s s
none_turned s works = record { works = works; settles = Not_yet }

module _ (first old new : Shown HeldDisk (List ℕ)) (turned : HasTurned first old)
    (fewer : TellsFewer memory_clock old.clock new.clock) where
  still : (k : ℕ) → may_tell new.clock k → k ≡ 0
  still k told = turned.works.clock k (fewer k told)

  pub one_turn : (due : Step)
      → AtMoment memory_clock old.clock old.current.moment (λ m. Turns memory_disk m old new (Ok (Did due)))
      → HasTurned first new
  one_turn due at =
      let did =
      at_once memory_disk old new memory_clock (λ m. Turns memory_disk m old new (Ok (Did due))) turned.works.clock at
      in
      let alive = turned.works.history in
      record {
        works = record { history = (alive.0 ++ due ∷ [], did.1.done refl alive.0 alive.1); clock = still };
        settles = subst (λ (s : SpoolState). Settles first.current s) (sym (did.1.changed refl))
            (One_more old.current due turned.settles did.0);
      }

  -- nothing changed
  same-turned : new.journal ≡ old.journal → new.current ≡ old.current → HasTurned first new
  same-turned journal current = record {
    works = record { history = stays_so memory_disk old new journal current turned.works.history; clock = still };
    settles = subst (λ (s : SpoolState). Settles first.current s) (sym current) turned.settles;
  }

  pub quiet_now : (told : ℕ)
      → AtMoment memory_clock old.clock old.current.moment (λ m. Turns memory_disk m old new (Ok (Quiet told)))
      → HasSettled first new
  quiet_now told at =
      let t =
      at_once memory_disk old new memory_clock (λ m. Turns memory_disk m old new (Ok (Quiet told))) turned.works.clock
      at in
      record {
        turned = same-turned t.3.0 t.3.1;
        rest = inl (subst (λ (s : SpoolState). IsQuiet s s.moment) (sym t.3.1) t.2);
      }

  spent-now : (f : StepFault) (due : Step) → IsOfNoLane (Some f) → Clear f → IsNext old.current old.current.moment due
      → Appends memory_disk due old new (Some f) → HasSettled first new
  spent-now Faults.Memory due no_lane clear next m = absurd (clear tt)
  spent-now Faults.Disk due no_lane clear next m = absurd (clear tt)
  spent-now Faults.Ended due no_lane clear next m = absurd (clear tt)
  spent-now (Faults.Full size need) due no_lane clear next m = absurd (clear tt)
  spent-now (Faults.NoLane n) due no_lane clear next m = absurd no_lane
  spent-now (Faults.Fenced g) due no_lane clear next m = absurd no_lane
  spent-now (Faults.BusyLanes count) due no_lane clear next m = absurd no_lane
  spent-now Faults.Unexpected due no_lane clear next m = absurd no_lane
  spent-now (Faults.Spent last) due no_lane clear next m =
      let kept = m.kept (λ e. cc) (λ e. cc) in
      record {
        turned = same-turned kept.0 kept.1;
        rest = inr (
          due,
          subst (λ (s : SpoolState). IsNext s s.moment due) (sym kept.1) next,
          subst (λ (s : SpoolState). IsSpent s due) (sym kept.1) (m.spent last refl).1,
        );
      }

  refused-so : (f : StepFault) → IsOfNoLane (Some f) → Clear f → Turns memory_disk old.current.moment old new (Err f)
      → HasSettled first new
  refused-so f no_lane clear (inl ended) =
      let no : Clear Faults.Ended = subst (λ (g : StepFault). Clear g) ended.0 clear in absurd (no tt)
  refused-so f no_lane clear (inr (inl memory)) =
      let no : Clear Faults.Memory = subst (λ (g : StepFault). Clear g) memory.0 clear in absurd (no tt)
  refused-so f no_lane clear (inr (inr refused)) =
      spent-now f refused.1.0 no_lane clear refused.1.1 refused.1.2

  pub refused_now : (f : StepFault) → IsOfNoLane (Some f) → Clear f
      → AtMoment memory_clock old.clock old.current.moment (λ m. Turns memory_disk m old new (Err f))
      → HasSettled first new
  refused_now f no_lane clear at =
      refused-so f no_lane clear
      (at_once memory_disk old new memory_clock (λ m. Turns memory_disk m old new (Err f)) turned.works.clock at)

-- ---- at the first agent nothing is

not-next : (before count done : ℕ) (s : SpoolState) (due : Step) → HasAccepted before count done s.machine
    → s.moment ≡ 0 → IsNext s s.moment due → ⊥
not-next before count done s due accepted moment next =
    let n = subst (λ (m : ℕ). IsNext s m due) moment next in
    first_is_quiet before count done s accepted n.item n.recipient due n.is_due

pub nothing_due : (before count done : ℕ) (s t : SpoolState) → HasAccepted before count done s.machine
    → s.moment ≡ 0 → Settles s t → t ≡ s
nothing_due before count done s t accepted moment Not_yet = refl
nothing_due before count done s t accepted moment (One_more u due settles next) =
    let same = nothing_due before count done s u accepted moment settles in
    absurd (not-next before count done s due accepted moment
    (subst (λ (x : SpoolState). IsNext x x.moment due) same next))

pub taken_still : (before count : ℕ) (old new : Shown HeldDisk (List ℕ)) → HasTaken before count old
    → HasSettled old new → HasTaken before count new
taken_still before count old new h settled =
    let same =
    nothing_due before count 0 old.current new.current h.accepted h.moment settled.turned.settles in
    record {
      works = settled.turned.works;
      accepted = subst (λ (s : SpoolState). HasAccepted before count 0 s.machine) (sym same) h.accepted;
      moment = ap (λ (s : SpoolState). s.moment) same ∙ h.moment;
      lanes = ap (λ (s : SpoolState). s.lanes) same ∙ h.lanes;
    }
