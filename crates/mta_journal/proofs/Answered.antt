-- The answers of an append.
use Rattle.std.proofs.Common.{inl, ◌≡◌, ℕ, ◌+◌, ◌-◌, ◌≤◌, ◌<◌, false, true, List, Some, Ok, Err, refl, sym, ap, subst}
use Rattle.std.proofs.Common.{◌∙◌, arith}
use Rattle.mta_edge.specs.Causes.{Rose}
use Rattle.mta_edge.specs.Views.{DiskView, DiskLaws, StaysTold}
use Rattle.mta_edge.specs.Crashes.{AtAnyMoment, Settled}
use Rattle.mta_disk.proofs.Writing.{settled_once}
use Rattle.mta_journal.specs.Bodies.{need_of, HasBodiesAt, HasOrOneMore}
use Rattle.mta_journal.specs.Shown.{Shown, Holds, IsPlain}
use Rattle.mta_journal.specs.Appending.{Appends, CanFollow, CrashLeavesBehind, IsShortEnough, PutsBehind, journal_limit}
use Rattle.mta_journal.specs.declared.journal.AppendFault.TheVariants as Faults
use Rattle.mta_journal.proofs.Appended.{length-records-more, short_enough}

-- what an append asks of the journal
pub record Takes {D : Type 0} (body : List ℕ) (old : Shown D) : Type 0 where
  pub plain : IsPlain old.first
  pub some : old.first ≡ 8 → 9 < old.size
  pub short : IsShortEnough old.first old.size body

-- the gate of a journal that holds bodies stands right behind their records
follows : {D : Type 0} (model : DiskView D) (body : List ℕ) (journal : Shown D) (bodies : List (List ℕ))
    → Takes body journal → Holds model journal bodies
    → CanFollow journal.first (journal.size - 1) bodies body
follows model body journal bodies takes holds = record {
  plain = takes.plain;
  place = omega (arith, holds.size);
  some = λ e. let past = takes.some e in omega (arith, past);
  short = short_enough journal.first journal.size bodies body takes.short holds.size;
}

module _ {D : Type 0} (model : DiskView D) (body : List ℕ) (old : Shown D) where
  -- nothing was done
  still : DiskLaws model → (f : List ℕ) → model.content old.disk ≡ Some f → (bodies : List (List ℕ))
      → Holds model old bodies
      → AtAnyMoment model (HasOrOneMore old.first bodies body) old.disk old.disk
  still laws f told bodies holds =
      settled_once model laws (HasOrOneMore old.first bodies body) old.disk f holds.settled told
      (inl (holds.file f told))

  -- the record was begun
  begun : Takes body old → (new : D) → CrashLeavesBehind model (old.size - 1) body old.disk new → (f : List ℕ)
      → model.content old.disk ≡ Some f
      → (bodies : List (List ℕ)) → Holds model old bodies
      → AtAnyMoment model (HasOrOneMore old.first bodies body) old.disk new
  begun takes new images f told bodies holds =
      images f told old.first bodies (follows model body old bodies takes holds) (holds.file f told)

module _ {D T : Type 0} (model : DiskView D) (body : List ℕ) (old : Shown D) where
  pub answers_full : DiskLaws model → (size need : ℕ) → old.ended ≡ false → size ≡ old.size → need ≡ need_of body
      → journal_limit < size + need → Appends {T = T} model body old old (Err (Faults.Full size need))
  answers_full laws size need going size_is need_is passes = record {
    done = λ ok. absurd cc;
    place = refl;
    going = λ ok. absurd cc;
    told = λ f told. (f, told);
    images = still model body old laws;
    kept = λ err no_disk. refl;
    ended = (λ e. absurd cc, λ e. absurd cc);
    marked = λ e. absurd cc;
    full = λ s n e.
        let s_is : s ≡ size = cc in
        let n_is : n ≡ need = cc in
        (s_is ∙ size_is, n_is ∙ need_is, omega arith);
    full_where = λ g l. cc;
    later = omega arith;
    disk = λ e. absurd cc;
  }

  pub answers_memory : DiskLaws model → (new : Shown D) → new ≡ old → old.ended ≡ false → old.size + need_of body
      ≤ journal_limit
      → Appends {T = T} model body old new (Err Faults.Memory)
  answers_memory laws new same going fits = record {
    done = λ ok. absurd cc;
    place = ap (λ (n : Shown D). n.first) same;
    going = λ ok. absurd cc;
    told = λ f told. (f, subst (λ (n : Shown D). model.content n.disk ≡ Some f) (sym same) told);
    images = λ f told bodies holds.
        subst (λ (n : Shown D). AtAnyMoment model (HasOrOneMore old.first bodies body) old.disk n.disk) (sym same)
        (still model body old laws f told bodies holds);
    kept = λ err no_disk. same;
    ended = (λ e. absurd cc, λ e. absurd cc);
    marked = λ e. absurd cc;
    full = λ s n e. absurd cc;
    full_where = λ g l. absurd (omega arith);
    later = omega (arith, ap (λ (n : Shown D). model.faults n.disk) same);
    disk = λ e. absurd cc;
  }

  pub answers_disk : Takes body old → (new : Shown D) → new.first ≡ old.first → old.ended ≡ false → new.ended ≡ true
      → old.size + need_of body ≤ journal_limit
      → model.faults old.disk ≤ model.faults new.disk → Rose (model.faults old.disk) (model.faults new.disk)
      → StaysTold model old.disk new.disk → CrashLeavesBehind model (old.size - 1) body old.disk new.disk
      → Appends {T = T} model body old new (Err Faults.Disk)
  answers_disk takes new place going stopped fits later rose told images = record {
    done = λ ok. absurd cc;
    place = place;
    going = λ ok. absurd cc;
    told = told;
    images = begun model body old takes new.disk images;
    kept = λ err no_disk. absurd (no_disk refl);
    ended = (λ e. absurd cc, λ e. absurd cc);
    marked = λ e. stopped;
    full = λ s n e. absurd cc;
    full_where = λ g l. absurd (omega arith);
    later = later;
    disk = λ e. rose;
  }

  pub answers_ok : Takes body old → (new : Shown D) (x : T) → new.first ≡ old.first → old.ended ≡ false → new.ended
      ≡ false → new.size ≡ old.size + need_of body
      → old.size + need_of body ≤ journal_limit → model.faults old.disk ≤ model.faults new.disk
      → PutsBehind model (old.size - 1) body old.disk new.disk → Settled model new.disk
      → StaysTold model old.disk new.disk
      → CrashLeavesBehind model (old.size - 1) body old.disk new.disk → Appends {T = T} model body old new (Ok x)
  answers_ok takes new x place going goes_on size fits later put settled told images = record {
    done = λ ok bodies holds. record {
      file = λ g tells.
          let from = (put new.first bodies
          (subst (λ (n : ℕ). CanFollow n (old.size - 1) bodies body) (sym place)
          (follows model body old bodies takes holds))).back g tells in
          from.2 (subst (λ (n : ℕ). HasBodiesAt n bodies from.0) (sym place) (holds.file from.0 from.1));
      size = omega (arith, size, place, holds.size, length-records-more bodies body);
      going = goes_on;
      settled = settled;
    };
    place = place;
    going = λ ok. goes_on;
    told = told;
    images = begun model body old takes new.disk images;
    kept = λ err no_disk. absurd cc;
    ended = (λ e. absurd cc, λ e. absurd cc);
    marked = λ e. absurd cc;
    full = λ s n e. absurd cc;
    full_where = λ g l. absurd (omega arith);
    later = later;
    disk = λ e. absurd cc;
  }
