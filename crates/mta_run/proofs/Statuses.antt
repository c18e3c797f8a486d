-- What a status tells, and when it is 0.
use Rattle.std.proofs.Common.{◌≡◌, ℕ, suc, List, [], ◌∷◌, ◌++◌, All, Result, Ok, Err, sym, subst, ◌∙◌, arith}
use Rattle.std.proofs.Common.{inl, inr}
use Rattle.std.specs.Prelude.{◌⊎◌}
use Rattle.mta_ber.specs.declared.fault.Fault.{Fault}
use Rattle.mta_apdu.specs.Apdus.{ApduValue, apdu_of}
use Rattle.mta_apdu.proofs.ApduLaws.{apdu_full}
use Rattle.mta_records.specs.declared.step.Step.{Step}
use Rattle.mta_tables.specs.Tables.{TablesValue, tables_of}
use Rattle.mta_tables.specs.Reading.{bad}
use Rattle.mta_tables.specs.declared.fault.LineKind.{LineKind}
use Rattle.mta_tables.proofs.Grammars.{bad_read}
use Rattle.mta_images.proofs.NoSpool.{no_history}
use Rattle.mta_links.specs.declared.role.Role.{Role}
use Rattle.mta_links.specs.declared.role.Role.TheVariants as Roles
use Rattle.mta_stations.specs.declared.end.Halt.{Halt}
use Rattle.mta_stations.specs.declared.end.Halt.TheVariants as Halts
use Rattle.mta_stations.specs.declared.end.WorkerEnd.{WorkerEnd}
use Rattle.mta_stations.specs.Peers.{IsNamed, IsUnnamed}
use Rattle.mta_commands.specs.declared.stop.Stop.{Stop}
use Rattle.mta_commands.specs.Words.{AddsSteps, OpensDisk, roles_named, Serves}
use Rattle.mta_commands.specs.Handed.{Handed}
use Rattle.mta_commands.specs.Lines.{status_of}
use Rattle.mta_output.specs.Output.{Output, OutputFailed}
use Rattle.mta_commands.specs.Output.{IsEnded, done, told, cut_text, cut_line}
use Rattle.mta_commands.specs.DiskLeft.{Opening, uncalled}
use Rattle.mta_commands.specs.Causes.{IsText, Cause, usage, memory, source, tables, apdu, not_spool}
use Rattle.mta_commands.specs.Causes.{full_opening, not_opened, disk, full, spent, no_mailbox, no_peer, full_serving}
use Rattle.mta_commands.specs.Causes.{spent_serving, of_worker}
use Rattle.mta_commands.specs.Serving.{stop_of_halt}
use Rattle.mta_commands.proofs.Same.{ok_same}
use Rattle.mta_commands.proofs.StopStatuses.{IsEarly, StatusTells, stop_tells, usage_only, usage_there}
use Rattle.mta_commands.proofs.StopStatuses.{drill_there, disk_only, source_only, sink_never, early, text_said}
use Rattle.mta_commands.proofs.Words.{serves_adds, serves_reads}
use Rattle.mta_run.specs.Ran.{EndsBeforeOpening, Tells, AllInOrder, IsComplete, IsOlderAndFull}

-- what the status is where all is in order
abbrev Completes : {D C I : Type 0} → Handed D C I → ℕ → Type 0
Completes h status =
    (status ≡ 0) ⊎ (status ≡ 7) ⊎ ((status ≡ 5) × (AddsSteps h.words ⊎ (OpensDisk h.words × IsOlderAndFull h)))

-- ---- what is in order has no fault

all_tail : {X : Type 0} (P : X → Type 0) (x : X) (xs : List X) → All P (x ∷ xs) → All P xs
all_tail P x xs h k d l = h (suc k) d (omega arith)

all_at : {X : Type 0} (P : X → Type 0) (a : List X) (x : X) (b : List X) → All P (a ++ x ∷ b) → P x
all_at P [] x b h = h 0 x (omega arith)
all_at P (y ∷ ys) x b h = all_at P ys x b (all_tail P y (ys ++ x ∷ b) h)

-- tables that name each peer who is called name this one
not_unnamed : (c : List ℕ) (roles : List Role) (name : List ℕ) (t u : TablesValue) → tables_of c ≡ Ok t
    → tables_of c ≡ Ok u → All (IsNamed t) roles → IsUnnamed u roles name → ⊥
not_unnamed c roles name t u one other named x =
    let same : t ≡ u = ok_same t u (sym one ∙ other) in
    let all = subst (λ (y : List Role). All (IsNamed u) y) x.stands
    (subst (λ (v : TablesValue). All (IsNamed v) roles) same named) in
    let found = all_at (IsNamed u) x.before (Roles.Out name) x.behind all in
    x.unnamed found.0 found.1

no_bad : (c : List ℕ) (t : TablesValue) (n : ℕ) (kind : LineKind) → tables_of c ≡ Ok t
    → tables_of c ≡ bad n kind → ⊥
no_bad c t n kind good wrong = cc

no_fault : (r : Result ApduValue Fault) (v : ApduValue) (f : Fault) → r ≡ Ok v → r ≡ Err f → ⊥
no_fault r v f good wrong = cc

-- ---- what a status tells

-- 0 and 9 are none of the early ones
not_first : (status : ℕ) → status ≡ 0 → IsEarly status → ⊥
not_first status e (inl x) = omega (arith, e, x)
not_first status e (inr (inl x)) = omega (arith, e, x)
not_first status e (inr (inr (inl x))) = omega (arith, e, x)
not_first status e (inr (inr (inr x))) = omega (arith, e, x)

not_last : (status : ℕ) → status ≡ 9 → IsEarly status → ⊥
not_last status e (inl x) = omega (arith, e, x)
not_last status e (inr (inl x)) = omega (arith, e, x)
not_last status e (inr (inr (inl x))) = omega (arith, e, x)
not_last status e (inr (inr (inr x))) = omega (arith, e, x)

module _ {D C I : Type 0} (h : Handed D C I) (ends : List WorkerEnd) (added : List Step) where
  -- a stop was told, with its status
  told_tells : (opening : Opening) (stop : Stop) (status : ℕ) → Cause h ends added opening stop
      → status ≡ status_of stop → StatusTells h opening status
  told_tells opening stop status why e =
      subst (StatusTells h opening) (sym e) (stop_tells h ends added opening stop why)

  ended_early : (opening : Opening) (out : Output) (status : ℕ) → IsEnded (Cause h ends added opening)
      (IsText h ends added opening) out status → IsEarly status → opening ≡ uncalled
  ended_early opening out status (done e t x p) is = absurd (not_first status e is)
  ended_early opening out status (told stop why e t f p) is =
      early h opening status (told_tells opening stop status why e) is
  ended_early opening out status (cut_text e t x p) is = absurd (not_last status e is)
  ended_early opening out status (cut_line e stop why t f p) is = absurd (not_last status e is)

  untouched_unless : (opening : Opening) (out : Output) (status : ℕ)
      → ((OpensDisk h.words → ⊥) → opening ≡ uncalled)
      → IsEnded (Cause h ends added opening) (IsText h ends added opening) out status → EndsBeforeOpening h status
      → opening ≡ uncalled
  untouched_unless opening out status unless is (inl none) = unless none
  untouched_unless opening out status unless is (inr first) = ended_early opening out status is first

  where_known : (out : Output) (status n : ℕ) → (status ≡ n) ⊎ (status ≡ 7)
      → (status ≡ n) ⊎ (status ≡ 7) ⊎ ((status ≡ 9) × OutputFailed out)
  where_known out status n (inl e) = inl e
  where_known out status n (inr e) = inr (inl e)

  -- the output failed
  cut_tells : (opening : Opening) (out : Output) (status : ℕ) → ((OpensDisk h.words → ⊥) → opening ≡ uncalled)
      → (opening ≡ uncalled → h.disk.after ≡ h.disk.before) → status ≡ 9 → OutputFailed out
      → IsEnded (Cause h ends added opening) (IsText h ends added opening) out status → Tells h out status
  cut_tells opening out status unless same e failed ended = record {
    usage = λ w. absurd (omega (arith, w, e));
    usage_where = λ none. inr (inr (e, failed));
    drills = λ it. inr (inr (e, failed));
    disk = λ w. absurd (omega (arith, w, e));
    source = λ w. absurd (omega (arith, w, e));
    sink = λ w. failed;
    untouched = λ is. same (untouched_unless opening out status unless ended is);
  }

  -- the fields of what a status tells, but for what became of the disk
  pub ended_tells : (opening : Opening) (out : Output) (status : ℕ)
      → ((OpensDisk h.words → ⊥) → opening ≡ uncalled)
      → (opening ≡ uncalled → h.disk.after ≡ h.disk.before)
      → IsEnded (Cause h ends added opening) (IsText h ends added opening) out status → Tells h out status
  ended_tells opening out status unless same (done e t x p) = record {
    usage = λ w. absurd (omega (arith, w, e));
    usage_where = λ none. absurd (text_said h ends added opening t x none);
    drills = λ it. inl e;
    disk = λ w. absurd (omega (arith, w, e));
    source = λ w. absurd (omega (arith, w, e));
    sink = λ w. absurd (omega (arith, w, e));
    untouched = λ is. same (untouched_unless opening out status unless (done e t x p) is);
  }
  ended_tells opening out status unless same (told stop why e t f p) =
      let row = told_tells opening stop status why e in
      record {
        usage = usage_only h opening status row;
        usage_where = λ none. where_known out status 1 (usage_there h opening status row none);
        drills = λ it. inr (inl (drill_there h opening status row it));
        disk = disk_only h opening status row;
        source = source_only h opening status row;
        sink = λ w. absurd (sink_never h opening status row w);
        untouched = λ is. same (untouched_unless opening out status unless (told stop why e t f p) is);
      }
  ended_tells opening out status unless same (cut_text e t x p) = cut_tells opening out status unless same e p.0
      (cut_text e t x p)
  ended_tells opening out status unless same (cut_line e stop why t f p) =
      cut_tells opening out status unless same e p.0 (cut_line e stop why t f p)

  -- ---- where all is in order

  complete_worker : (halt : Halt) (status : ℕ) → Serves h.words → status ≡ status_of (stop_of_halt halt)
      → Completes h status
  complete_worker (Halts.Full size need) status serves e = inr (inr (e, inl (serves_adds h.words serves)))
  complete_worker (Halts.Spent last) status serves e = inr (inr (e, inl (serves_adds h.words serves)))
  complete_worker any status serves e = inr (inl e)

  complete_stop : (opening : Opening) (stop : Stop) (status : ℕ) (out : Output) → Cause h ends added opening stop
      → AllInOrder h out → status ≡ status_of stop → Completes h status
  complete_stop _ _ status out (usage none) o e = absurd (o.known none)
  complete_stop _ _ status out (memory opening) o e = inr (inl e)
  complete_stop _ _ status out (source s) o e = absurd (o.calm_sources s)
  complete_stop _ _ status out (tables n kind r first same) o e = let x = o.tables r in absurd
      (no_bad x.0 x.2.0 n kind x.2.1 (bad_read x.0 n kind (first x.0 x.1)))
  complete_stop _ _ status out (apdu at kind r read first) o e =
      let x = o.apdu r in
      let fault : Fault = record { at = at; kind = kind } in
      absurd (no_fault (apdu_of x.0) x.2.0 fault (apdu_full x.0 x.2.0 x.2.1) (first x.0 x.1))
  complete_stop _ _ status out (not_spool at opens inputs none) o e = let x = o.spool opens in absurd
      (no_history x.0 at x.1 (none x.0 x.2) x.3)
  complete_stop _ _ status out (full_opening size need opens inputs fits) o e =
      inr (inr (e, inr (opens, (size, need, fits))))
  complete_stop _ _ status out (not_opened opens inputs failed) o e = absurd (o.calm_disk failed)
  complete_stop _ _ status out (disk adds inputs failed) o e = absurd (o.calm_disk failed)
  complete_stop _ _ status out (full size need submit inputs why) o e =
      inr (inr (e, inl (subst AddsSteps (sym submit) tt)))
  complete_stop _ _ status out (spent last submit inputs why) o e =
      inr (inr (e, inl (subst AddsSteps (sym submit) tt)))
  complete_stop _ _ status out (no_mailbox name word none) o e = let x = o.spool (subst OpensDisk (sym word) tt)
      in absurd (o.named name word x.0 x.1 x.2 x.3 (none x.0 x.1 x.2 x.3))
  complete_stop _ _ status out (no_peer name serves unnamed) o e =
      let x = o.tables (serves_reads h.words serves) in
      let named = o.peers serves x.0 x.1 in
      let un = unnamed x.0 x.1 in
      absurd (not_unnamed x.0 (roles_named h.words) name named.0 un.0 named.1 un.1 named.2 un.2)
  complete_stop _ _ status out (full_serving size need serves inputs why) o e =
      inr (inr (e, inl (serves_adds h.words serves)))
  complete_stop _ _ status out (spent_serving last serves inputs why) o e =
      inr (inr (e, inl (serves_adds h.words serves)))
  complete_stop _ _ status out (of_worker halt serves inputs decides) o e = complete_worker halt status serves e

  pub ended_complete : (opening : Opening) (out : Output) (status : ℕ) → IsEnded (Cause h ends added opening)
      (IsText h ends added opening) out status → IsComplete h out status
  ended_complete opening out status (done e t x p) o = inl e
  ended_complete opening out status (told stop why e t f p) o = complete_stop opening stop status out why o e
  ended_complete opening out status (cut_text e t x p) o = absurd (o.calm_output p.0)
  ended_complete opening out status (cut_line e stop why t f p) o = absurd (o.calm_output p.0)
