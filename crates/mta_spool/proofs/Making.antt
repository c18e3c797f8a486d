-- A step is made, or refused.
use Rattle.std.proofs.Common.{inl, inr, ◌≡◌, ℕ, ◌≤◌, true, false, List, [], ◌∷◌, ◌++◌, map}
use Rattle.std.proofs.Common.{Option, None, Some, Ok, Err, refl, sym, ap, subst, ◌∙◌, arith}
use Rattle.mta_edge.specs.Views.{DiskView, DiskLaws, StaysTold}
use Rattle.mta_edge.specs.Crashes.{AtAnyMoment}
use Rattle.mta_edge.proofs.Moments.{weaken}
use Rattle.mta_journal.specs.Bodies.{HasBodiesAt, HasOrOneMore}
use Rattle.mta_journal.specs.Shown.{Shown as JournalShown, Holds, IsPlain}
use Rattle.mta_journal.specs.Appending.{Appends as JournalAppends}
use Rattle.mta_journal.specs.declared.journal.AppendFault.{AppendFault}
use Rattle.mta_journal.specs.declared.journal.AppendFault.TheVariants as AppendFaults
use Rattle.mta_records.specs.declared.step.Step.{Step}
use Rattle.mta_records.specs.declared.fault.StepFault.{StepFault}
use Rattle.mta_records.specs.declared.fault.StepFault.TheVariants as StepFaults
use Rattle.mta_records.specs.Body.{body_of, HasFields}
use Rattle.mta_histories.specs.Lanes.{State, empty}
use Rattle.mta_histories.specs.History.{IsHistory, IsPossible, after, after_step, when}
use Rattle.mta_images.specs.Image.{AreRecords}
use Rattle.mta_histories.proofs.Runs.{after_from-more, possible-more}
use Rattle.mta_images.proofs.Bodies.{map-more, are-records-more}
use Rattle.mta_images.proofs.GoingOn.{stands_plain}
use Rattle.mta_histories.specs.Classes.{class_of}
use Rattle.mta_spool.specs.Making.{step_fault}
use Rattle.mta_spool.specs.Refusals.{IsOfLane, IsRefused}
use Rattle.mta_spool.proofs.Refused.{not_refused, refusal_of_lane, one_refusal}
use Rattle.mta_spool.specs.Stands.{IsHeld, IsOfNoRefusal, IsOneOf, IsSpent, last_number, MayHave, Makes, need_of}

-- with one body more it stands for the step of that body too
one_of : (gate : ℕ) → IsPlain gate → (g : List ℕ) (steps : List Step) (step : Step) → AreRecords steps
    → IsHistory steps → HasFields step
    → IsPossible (after steps) step → HasOrOneMore gate (map body_of steps) (body_of step) g → IsOneOf steps step g
one_of gate plain g steps step each history fields possible (inl has) =
    inl (stands_plain gate g steps plain has each history)
one_of gate plain g steps step each history fields possible (inr has) =
    inr (stands_plain gate g (steps ++ step ∷ []) plain
    (subst (λ (bodies : List (List ℕ)). HasBodiesAt gate bodies g) (sym (map-more steps step)) has)
    (are-records-more steps step each fields) (possible-more empty steps step history possible))

some-is : (x f : StepFault) → ◌≡◌ {A = Option StepFault} (Some x) (Some f) → x ≡ f
some-is x f e = cc

of-lane : (x f : StepFault) → ◌≡◌ {A = Option StepFault} (Some x) (Some f) → IsOfLane f → IsOfLane x
of-lane x f e of = subst IsOfLane (sym (some-is x f e)) of

lane-of : (x f : StepFault) → ◌≡◌ {A = Option StepFault} (Some x) (Some f) → IsOfLane x → IsOfLane f
lane-of x f e of = subst IsOfLane (some-is x f e) of

module _ {D : Type 0} (model : DiskView D) (step : Step) where
  -- behind the history that is held the step is possible
  possible_there : (journal : JournalShown D) (s : State) (steps : List Step) → IsPossible s step
      → IsHeld model journal s steps
      → IsPossible (after steps) step
  possible_there journal s steps possible held = subst (λ (x : State). IsPossible x step) held.state_is possible

  held_more : (old new : JournalShown D) (s s' : State) (steps : List Step) → IsPlain new.first
      → IsHeld model old s steps
      → Holds model new (map body_of steps ++ body_of step ∷ []) → HasFields step → IsPossible s step → s'
      ≡ after_step s step
      → IsHeld model new s' (steps ++ step ∷ [])
  held_more old new s s' steps plain held holds fields possible made = record {
    holds = subst (Holds model new) (sym (map-more steps step)) holds;
    each = are-records-more steps step held.each fields;
    state_is = made ∙ ap (λ (x : State). after_step x step) held.state_is ∙ sym (after_from-more empty steps step);
    history = possible-more empty steps step held.history (possible_there old s steps possible held);
    alone = λ not_plain. absurd (not_plain plain);
  }

  -- a crash at any moment leaves what the journal held, with the step's body or without it
  abbrev HasTried : JournalShown D → JournalShown D → Type 0
  HasTried old new = (f : List ℕ) → model.content old.disk ≡ Some f → (bodies : List (List ℕ)) → Holds model old bodies
      → AtAnyMoment model (HasOrOneMore old.first bodies (body_of step)) old.disk new.disk

  tried : DiskLaws model → (old new : JournalShown D) (s : State) → IsPlain old.first → HasFields step
      → IsPossible s step → HasTried old new
      → MayHave model step old s new
  tried laws old new s plain fields possible images = record {
    possible = λ steps held. possible_there old s steps possible held;
    during = during;
    now = λ f told steps held g may.
        let d = during f told steps held in
        d.each g (laws.counts_now new.disk (model.moment old.disk) g d.later may);
  } where
    during : (f : List ℕ) → model.content old.disk ≡ Some f → (steps : List Step) → IsHeld model old s steps
        → AtAnyMoment model (IsOneOf steps step) old.disk new.disk
    during f told steps held =
        weaken model (HasOrOneMore old.first (map body_of steps) (body_of step)) (IsOneOf steps step) old.disk new.disk
        (λ g has. one_of old.first plain g steps step held.each held.history fields
        (possible_there old s steps possible held) has)
        (images f told (map body_of steps) held.holds)

  -- the body was appended and the change made
  pub made : DiskLaws model → (old new : JournalShown D) (s s' : State) → IsPlain old.first
      → JournalAppends {T = Unit {0}} model (body_of step) old new (Ok tt)
      → old.ended ≡ false → HasFields step → IsPossible s step → (IsSpent s step → ⊥) → s' ≡ after_step s step
      → (a : List Step) → Makes model step old s a new s' (a ++ step ∷ []) None
  made laws old new s s' plain a going fields possible numbers change entries = record {
    entries = refl;
    place = a.place;
    still = λ some. absurd (some refl);
    row = λ f e of. absurd cc;
    row_where = λ on f is. absurd (not_refused s step f possible is);
    done = λ ok steps held. held_more old new s s' steps (subst IsPlain (sym a.place) plain) held
        (a.done refl (map body_of steps) held.holds) fields possible change;
    changed = λ ok. change;
    going = λ ok. a.going refl;
    told = a.told;
    crash = λ calm. tried laws old new s plain fields possible a.images;
    kept = λ some. absurd (some refl);
    later = a.later;
    disk = λ e. absurd cc;
    ended = (λ e. absurd cc, λ e. absurd cc);
    marked = λ e. absurd cc;
    spent = λ last e. absurd cc;
    spent_where = λ on no is. absurd (numbers is);
    full = λ size need e. absurd cc;
    full_where = λ on no left long. let refused = a.full_where going long in absurd cc;
  }

  -- the journal refused the body, and the state is as it was
  pub refused : DiskLaws model → (fault : AppendFault) (old new : JournalShown D) (s s' : State) → IsPlain old.first
      → JournalAppends {T = Unit {0}} model (body_of step) old new (Err fault) → old.ended ≡ false → HasFields step
      → IsPossible s step
      → (IsSpent s step → ⊥) → s' ≡ s → (b : List Step)
      → Makes model step old s b new s' b (Some (step_fault fault))
  refused laws (AppendFaults.Full size need) old new s s' plain a going fields possible numbers same made = record {
    entries = refl;
    place = a.place;
    still = λ some. same;
    row = λ f e of. absurd (of-lane (StepFaults.Full size need) f e of);
    row_where = λ on f is. absurd (not_refused s step f possible is);
    done = λ ok. absurd cc;
    changed = λ ok. absurd cc;
    going = λ ok. absurd cc;
    told = a.told;
    crash = λ calm. tried laws old new s plain fields possible a.images;
    kept = λ some other. (a.kept refl (λ e. absurd cc), same);
    later = a.later;
    disk = λ e. absurd cc;
    ended = (λ e. absurd cc, λ e. absurd cc);
    marked = λ e. absurd cc;
    spent = λ last e. absurd cc;
    spent_where = λ on no is. absurd (numbers is);
    full = λ n m e.
        let f = a.full size need refl in
        let n_is : n ≡ size = cc in
        let m_is : m ≡ need = cc in
        (n_is ∙ f.0, m_is ∙ f.1, omega (arith, f.2, n_is, m_is));
    full_where = λ on no left long.
        let f = a.full size need refl in
        let e : AppendFaults.Full size need
        ≡ AppendFaults.Full old.size (need_of step) = cc in inl (ap (λ (x : AppendFault). Some (step_fault x)) e);
  }
  refused laws AppendFaults.Disk old new s s' plain a going fields possible numbers same made = record {
    entries = refl;
    place = a.place;
    still = λ some. same;
    row = λ f e of. absurd (of-lane StepFaults.Disk f e of);
    row_where = λ on f is. absurd (not_refused s step f possible is);
    done = λ ok. absurd cc;
    changed = λ ok. absurd cc;
    going = λ ok. absurd cc;
    told = a.told;
    crash = λ calm. tried laws old new s plain fields possible a.images;
    kept = λ some other. absurd (other refl);
    later = a.later;
    disk = λ e. a.disk refl;
    ended = (λ e. absurd cc, λ e. absurd cc);
    marked = λ e. a.marked refl;
    spent = λ last e. absurd cc;
    spent_where = λ on no is. absurd (numbers is);
    full = λ n m e. absurd cc;
    full_where = λ on no left long. let full = a.full_where going long in absurd cc;
  }
  refused laws AppendFaults.Ended old new s s' plain a going fields possible numbers same made =
      let is_ended = a.ended.0 refl in absurd cc
  refused laws AppendFaults.Memory old new s s' plain a going fields possible numbers same made = record {
    entries = refl;
    place = a.place;
    still = λ some. same;
    row = λ f e of. absurd (of-lane StepFaults.Memory f e of);
    row_where = λ on f is. absurd (not_refused s step f possible is);
    done = λ ok. absurd cc;
    changed = λ ok. absurd cc;
    going = λ ok. absurd cc;
    told = a.told;
    crash = λ calm. tried laws old new s plain fields possible a.images;
    kept = λ some other. (a.kept refl (λ e. absurd cc), same);
    later = a.later;
    disk = λ e. absurd cc;
    ended = (λ e. absurd cc, λ e. absurd cc);
    marked = λ e. absurd cc;
    spent = λ last e. absurd cc;
    spent_where = λ on no is. absurd (numbers is);
    full = λ n m e. absurd cc;
    full_where = λ on no left long. inr refl;
  }

  stays_told : (old new : JournalShown D) → new ≡ old → StaysTold model old.disk new.disk
  stays_told old new same f told = (f, ap (λ (j : JournalShown D). model.content j.disk) same ∙ told)

  no_later : (old new : JournalShown D) → new ≡ old → model.faults old.disk ≤ model.faults new.disk
  no_later old new same = omega (arith, ap (λ (j : JournalShown D). model.faults j.disk) same)

  -- there was no memory
  pub no_memory : {made : List Step} (old new : JournalShown D) (s s' : State) → new ≡ old → s' ≡ s → old.ended ≡ false
      → (IsSpent s step → ⊥) → IsOfNoRefusal s step
      → Makes model step old s made new s' made (Some StepFaults.Memory)
  no_memory old new s s' same kept going numbers lane = record {
    entries = refl;
    place = ap (λ (j : JournalShown D). j.first) same;
    still = λ some. kept;
    row = λ f e of. absurd (of-lane StepFaults.Memory f e of);
    row_where = λ on f is. absurd (lane f is);
    done = λ ok. absurd cc;
    changed = λ ok. absurd cc;
    going = λ ok. absurd cc;
    told = stays_told old new same;
    crash = λ calm. elim calm [ inl e ↦ absurd cc | inr e ↦ absurd cc ];
    kept = λ some other. (same, kept);
    later = no_later old new same;
    disk = λ e. absurd cc;
    ended = (λ e. absurd cc, λ e. absurd cc);
    marked = λ e. absurd cc;
    spent = λ last e. absurd cc;
    spent_where = λ on no is. absurd (numbers is);
    full = λ n m e. absurd cc;
    full_where = λ on no left long. inr refl;
  }

  -- there was no memory to look whether a refusal for its lane stands
  pub no_memory_to_look : {made : List Step} (old new : JournalShown D) (s s' : State) → new ≡ old → s' ≡ s
      → old.ended ≡ false → (IsSpent s step → ⊥) → Makes model step old s made new s' made (Some StepFaults.Memory)
  no_memory_to_look old new s s' same kept going numbers = record {
    entries = refl;
    place = ap (λ (j : JournalShown D). j.first) same;
    still = λ some. kept;
    row = λ f e of. absurd (of-lane StepFaults.Memory f e of);
    row_where = λ on f is. inr refl;
    done = λ ok. absurd cc;
    changed = λ ok. absurd cc;
    going = λ ok. absurd cc;
    told = stays_told old new same;
    crash = λ calm. elim calm [ inl e ↦ absurd cc | inr e ↦ absurd cc ];
    kept = λ some other. (same, kept);
    later = no_later old new same;
    disk = λ e. absurd cc;
    ended = (λ e. absurd cc, λ e. absurd cc);
    marked = λ e. absurd cc;
    spent = λ last e. absurd cc;
    spent_where = λ on no is. absurd (numbers is);
    full = λ n m e. absurd cc;
    full_where = λ on no left long. inr refl;
  }

  -- an earlier step had answered that the disk failed
  pub is_ended : {made : List Step} (old new : JournalShown D) (s s' : State) → new ≡ old → s' ≡ s → old.ended ≡ true
      → Makes model step old s made new s' made (Some StepFaults.Ended)
  is_ended old new s s' same kept ended = record {
    entries = refl;
    place = ap (λ (j : JournalShown D). j.first) same;
    still = λ some. kept;
    row = λ f e of. absurd (of-lane StepFaults.Ended f e of);
    row_where = λ on f is. absurd cc;
    done = λ ok. absurd cc;
    changed = λ ok. absurd cc;
    going = λ ok. absurd cc;
    told = stays_told old new same;
    crash = λ calm. elim calm [ inl e ↦ absurd cc | inr e ↦ absurd cc ];
    kept = λ some other. (same, kept);
    later = no_later old new same;
    disk = λ e. absurd cc;
    ended = (λ e. ended, λ e. refl);
    marked = λ e. absurd cc;
    spent = λ last e. absurd cc;
    spent_where = λ on no is. absurd cc;
    full = λ n m e. absurd cc;
    full_where = λ on no left long. absurd cc;
  }

  -- too few numbers were left
  pub is_spent : {made : List Step} (last : ℕ) (old new : JournalShown D) (s s' : State) → new ≡ old → s' ≡ s
      → old.ended ≡ false → last ≡ last_number s (class_of step) → IsSpent s step → IsOfNoRefusal s step
      → Makes model step old s made new s' made (Some (StepFaults.Spent last))
  is_spent last old new s s' same kept going count spent lane = record {
    entries = refl;
    place = ap (λ (j : JournalShown D). j.first) same;
    still = λ some. kept;
    row = λ f e of. absurd (of-lane (StepFaults.Spent last) f e of);
    row_where = λ on f is. absurd (lane f is);
    done = λ ok. absurd cc;
    changed = λ ok. absurd cc;
    going = λ ok. absurd cc;
    told = stays_told old new same;
    crash = λ calm. elim calm [ inl e ↦ absurd cc | inr e ↦ absurd cc ];
    kept = λ some other. (same, kept);
    later = no_later old new same;
    disk = λ e. absurd cc;
    ended = (λ e. absurd cc, λ e. absurd cc);
    marked = λ e. absurd cc;
    spent = λ n e. let n_is : n ≡ last = cc in (n_is ∙ count, spent);
    spent_where = λ on no is. ap (λ (n : ℕ). Some (StepFaults.Spent n)) count;
    full = λ n m e. absurd cc;
    full_where = λ on no left long. absurd (left spent);
  }

  -- a refusal for its lane stands
  pub refused_for_lane : {made : List Step} (f : StepFault) (old new : JournalShown D) (s s' : State) → new ≡ old
      → s' ≡ s → old.ended ≡ false → IsRefused s (class_of step) (when s step) f
      → Makes model step old s made new s' made (Some f)
  refused_for_lane f old new s s' same kept going refusal =
      let of = refusal_of_lane s (class_of step) (when s step) f refusal in
      record {
        entries = refl;
        place = ap (λ (j : JournalShown D). j.first) same;
        still = λ some. kept;
        row = λ h e is. subst (λ (x : StepFault). IsRefused s (class_of step) (when s step) x) (some-is f h e) refusal;
        row_where = λ on h other.
            inl (ap (λ (x : StepFault). Some x) (sym (one_refusal s (class_of step) (when s step) f h refusal other)));
        done = λ ok. absurd cc;
        changed = λ ok. absurd cc;
        going = λ ok. absurd cc;
        told = stays_told old new same;
        crash = λ calm. elim calm [ inl e ↦ absurd cc | inr e ↦ absurd (lane-of f StepFaults.Disk e of) ];
        kept = λ some other. (same, kept);
        later = no_later old new same;
        disk = λ e. absurd (lane-of f StepFaults.Disk e of);
        ended = (λ e. absurd (lane-of f StepFaults.Ended e of), λ e. absurd cc);
        marked = λ e. absurd (lane-of f StepFaults.Disk e of);
        spent = λ last e. absurd (lane-of f (StepFaults.Spent last) e of);
        spent_where = λ on no is. absurd (no f refusal);
        full = λ size need e. absurd (lane-of f (StepFaults.Full size need) e of);
        full_where = λ on no left long. absurd (no f refusal);
      }

-- the same of a journal, a state and steps that are equal to those before
pub makes_along : {D : Type 0} (model : DiskView D) (step : Step) (mid old new : JournalShown D) (t s s' : State)
    (b a c : List Step) (fault : Option StepFault) → mid ≡ old → t ≡ s → b ≡ a
    → Makes model step mid t b new s' c fault → Makes model step old s a new s' c fault
makes_along model step mid old new t s s' b a c fault e f h m =
    subst (λ (x : List Step). Makes model step old s x new s' c fault) h
    (subst (λ (x : State). Makes model step old x b new s' c fault) f
    (subst (λ (j : JournalShown _). Makes model step j t b new s' c fault) e m))
