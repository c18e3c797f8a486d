-- What a status tells, from what a run leaves.
use Rattle.std.proofs.Common.{◌≡◌, ℕ, Bool, true, false, List, [], ◌∷◌, Option, Some, None, Result, Ok, Err, refl}
use Rattle.std.proofs.Common.{sym, subst, ◌∙◌, ◌⊎◌, inl, inr, arith}
use Rattle.std.specs.Prelude.{◌&&◌}
use Rattle.mta_edge.specs.Views.{WhereTold}
use Rattle.mta_records.specs.declared.step.Step.{Step}
use Rattle.mta_images.specs.Image.{StandsFor, NoSpoolAt}
use Rattle.mta_images.proofs.Unique.{one_history}
use Rattle.mta_images.proofs.NoSpool.{no_history}
use Rattle.mta_audit_run.specs.declared.audit.Report.{Report}
use Rattle.mta_audit_run.specs.declared.half.Half.{Half}
use Rattle.mta_audit_run.specs.declared.stop.Stop.{Stop}
use Rattle.mta_audit_run.specs.declared.stop.Stop.TheVariants as Stops
use Rattle.mta_audit_run.specs.declared.verdict.Verdict.{Verdict}
use Rattle.mta_audit_run.specs.declared.verdict.Verdict.TheVariants.{Agrees, Differs}
use Rattle.mta_audit_run.specs.Audit.{lines_of}
use Rattle.mta_audit_run.specs.Halves.{IsAudited, IsVerdict, agrees, verdict_of}
use Rattle.mta_audit_run.specs.Kept.{IsRead}
use Rattle.mta_audit_run.specs.Lines.{AllAudited, IsAuditedWhereCovered, Line, agrees_where_covered, all_agree}
use Rattle.mta_audit_run.specs.Outcome.{AreTwo, DiskFailed, Handed, Outcome, Reports}
use Rattle.mta_audit_run.specs.Outcome.{unasked, audited, no_first as is_no_first, no_second as is_no_second}
use Rattle.mta_audit_run.specs.Outcome.{failed as disk_failed, short as no_memory}
use Rattle.mta_output.specs.Output.{Output, OutputFailed, Prints}
use Rattle.mta_audit_run.specs.Output.{HasClosed}
use Rattle.mta_output.specs.Output.{whole, cut, line, short, failed, short_failed}
use Rattle.mta_audit_run.specs.Ran.{HasRun, CallsFor, IsOrFails, PrintsAudit, Tells, IsComplete}
use Rattle.mta_audit_run.specs.Ran.{usage, no_first, no_second, agree, differ}
use Rattle.mta_audit_run.specs.Stops.{status_by, status_of}
use Rattle.mta_audit_run.proofs.Halves.{verdict_exact}

-- ---- all agree exactly where each half that is covered is audited

true-false : (b : Bool) → b ≡ true → b ≡ false → ⊥
true-false b holds not_so = absurd cc

agrees-audited : (h : Half) (v : Verdict) → IsVerdict h v → agrees v ≡ true → IsAudited h
agrees-audited h Agrees is e = is
agrees-audited h (Differs at) is e = absurd cc

audited-agrees : (h : Half) (v : Verdict) → IsVerdict h v → IsAudited h → agrees v ≡ true
audited-agrees h Agrees is a = refl
audited-agrees h (Differs at) is a = absurd (is.0 a)

both-true : (a b : Bool) → (a && b) ≡ true → (a ≡ true) × (b ≡ true)
both-true true true e = (refl, refl)
both-true true false e = absurd cc
both-true false b e = absurd cc

and-true : (a b : Bool) → a ≡ true → b ≡ true → (a && b) ≡ true
and-true a b p q = rw p q

agrees-covered : (half : Option Half) → agrees_where_covered half ≡ true → IsAuditedWhereCovered half
agrees-covered None e = tt
agrees-covered (Some h) e = agrees-audited h (verdict_of h) (verdict_exact h) e

covered-agrees : (half : Option Half) → IsAuditedWhereCovered half → agrees_where_covered half ≡ true
covered-agrees None is = refl
covered-agrees (Some h) is = audited-agrees h (verdict_of h) (verdict_exact h) is

agree-all : (ls : List Line) → all_agree ls ≡ true → AllAudited ls
agree-all [] e = tt
agree-all (l ∷ ls) e =
    let parts = both-true (agrees_where_covered l.half) (all_agree ls) e in (
      agrees-covered l.half parts.0,
      agree-all ls parts.1,
    )

all-agree : (ls : List Line) → AllAudited ls → all_agree ls ≡ true
all-agree [] each = refl
all-agree (l ∷ ls) each =
    and-true (agrees_where_covered l.half) (all_agree ls) (covered-agrees l.half each.0) (all-agree ls each.1)

-- ---- the status of a report

-- 0 where each half that is covered is audited, and 18 where one is not
pub data IsGood (s t : List Step) (status : ℕ) : Type 0 where
  all_good : status ≡ 0 → AllAudited (lines_of s t) → IsGood s t status
  one_bad : status ≡ 18 → (AllAudited (lines_of s t) → ⊥) → IsGood s t status

good-by : (s t : List Step) (b : Bool) (status : ℕ) → status ≡ status_by b → b ≡ all_agree (lines_of s t)
    → IsGood s t status
good-by s t true status e is = all_good e (agree-all (lines_of s t) (sym is))
good-by s t false status e is =
    one_bad e (λ each. true-false (all_agree (lines_of s t)) (all-agree (lines_of s t) each) (sym is))

module _ {D E : Type 0} (h : Handed D E) (out : Output) (status : ℕ) where
  -- ---- the status for which the words and the images call

  module _ (f g : List ℕ) (first_told : h.firsts.content h.first ≡ Some f)
      (second_told : h.seconds.content h.second ≡ Some g) where
    abbrev Called : Type 0
    Called = CallsFor h.words f g status ⊎ (status ≡ 7) ⊎ ((status ≡ 4) × DiskFailed h)
        ⊎ ((status ≡ 9) × OutputFailed out)

    for-it : (n : ℕ) → status ≡ n → CallsFor h.words f g n → Called
    for-it n e calls = inl (subst (CallsFor h.words f g) (sym e) calls)

    good-called : (s t : List Step) → AreTwo h.words → StandsFor f s → StandsFor g t → IsGood s t status → Called
    good-called s t two a b (all_good e each) = for-it 0 e (agree s t two a b each)
    good-called s t two a b (one_bad e not_all) = for-it 18 e (differ s t two a b not_all)

    stop-called : (stop : Stop) → Outcome h (Err stop) → status ≡ status_of stop → Called
    stop-called stop (unasked off same other) e = for-it 1 e (usage off)
    stop-called stop (is_no_first at two none same) e = for-it 3 e (no_first at two (none f first_told))
    stop-called stop (is_no_second at s two stood none) e =
        for-it 3 e (no_second s at two (stood.stands f first_told) (none g second_told))
    stop-called stop (disk_failed two rose) e = inr (inr (inl (e, rose)))
    stop-called stop no_memory e = inr (inl e)

    pub called : (result : Result Report Stop) → Outcome h result → HasClosed result out status → Called
    called (Ok r) (audited s t q two first second is) (whole e p) =
        good-called s t two (first.stands f first_told) (second.stands g second_told)
        (good-by s t r.agrees status e is.agree)
    called (Ok r) o (cut e p) = inr (inr (inr (e, p.0)))
    called (Err stop) o (line e p) = stop-called stop o e
    called (Err stop) o (short e p) = inr (inl e)
    called (Err stop) o (failed e p) = inr (inr (inr (e, p.0)))
    called (Err stop) o (short_failed e p) = inr (inr (inr (e, p.0)))

    all-same : (s t u v : List Step) → StandsFor f s → StandsFor g t → StandsFor f u → StandsFor g v
        → AllAudited (lines_of s t) → AllAudited (lines_of u v)
    all-same s t u v a b c d each =
        subst (λ (w : List Step). AllAudited (lines_of w v)) (one_history f s u a c)
        (subst (λ (w : List Step). AllAudited (lines_of s w)) (one_history g t v b d) each)

    calls-same : (m n : ℕ) → CallsFor h.words f g m → CallsFor h.words f g n → m ≡ n
    calls-same m n (usage off) (usage also) = refl
    calls-same m n (usage off) (no_first at two none) = absurd (off two)
    calls-same m n (usage off) (no_second s at two a none) = absurd (off two)
    calls-same m n (usage off) (agree s t two a b each) = absurd (off two)
    calls-same m n (usage off) (differ s t two a b not_all) = absurd (off two)
    calls-same m n (no_first at two none) (usage off) = absurd (off two)
    calls-same m n (no_first at two none) (no_first other three also) = refl
    calls-same m n (no_first at two none) (no_second s other three a also) = refl
    calls-same m n (no_first at two none) (agree s t three a b each) = absurd (no_history f at s none a)
    calls-same m n (no_first at two none) (differ s t three a b not_all) = absurd (no_history f at s none a)
    calls-same m n (no_second s at two a none) (usage off) = absurd (off two)
    calls-same m n (no_second s at two a none) (no_first other three also) = refl
    calls-same m n (no_second s at two a none) (no_second u other three b also) = refl
    calls-same m n (no_second s at two a none) (agree u t three b c each) = absurd (no_history g at t none c)
    calls-same m n (no_second s at two a none) (differ u t three b c not_all) = absurd (no_history g at t none c)
    calls-same m n (agree s t two a b each) (usage off) = absurd (off two)
    calls-same m n (agree s t two a b each) (no_first at three none) = absurd (no_history f at s none a)
    calls-same m n (agree s t two a b each) (no_second u at three c none) = absurd (no_history g at t none b)
    calls-same m n (agree s t two a b each) (agree u v three c d also) = refl
    calls-same m n (agree s t two a b each) (differ u v three c d not_all) =
        absurd (not_all (all-same s t u v a b c d each))
    calls-same m n (differ s t two a b not_all) (usage off) = absurd (off two)
    calls-same m n (differ s t two a b not_all) (no_first at three none) = absurd (no_history f at s none a)
    calls-same m n (differ s t two a b not_all) (no_second u at three c none) = absurd (no_history g at t none b)
    calls-same m n (differ s t two a b not_all) (agree u v three c d each) =
        absurd (not_all (all-same u v s t c d a b each))
    calls-same m n (differ s t two a b not_all) (differ u v three c d also) = refl

    wanted-or : (wanted : ℕ) → CallsFor h.words f g wanted → Called → IsOrFails wanted (DiskFailed h) out status
    wanted-or wanted calls (inl is) = inl (calls-same status wanted is calls)
    wanted-or wanted calls (inr (inl e)) = inr (inl e)
    wanted-or wanted calls (inr (inr (inl e))) = inr (inr (inl e))
    wanted-or wanted calls (inr (inr (inr e))) = inr (inr (inr e))

    order-or : (s t : List Step) → AreTwo h.words → StandsFor f s → StandsFor g t → (DiskFailed h → ⊥)
        → (OutputFailed out → ⊥) → Called → (status ≡ 0) ⊎ (status ≡ 18) ⊎ (status ≡ 7)
    order-or s t two a b calm quiet (inl calls) = by status calls refl
      where
        by : (n : ℕ) → CallsFor h.words f g n → status ≡ n → (status ≡ 0) ⊎ (status ≡ 18) ⊎ (status ≡ 7)
        by n (usage off) e = absurd (off two)
        by n (no_first at three none) e = absurd (no_history f at s none a)
        by n (no_second u at three c none) e = absurd (no_history g at t none b)
        by n (agree u v three c d each) e = inl e
        by n (differ u v three c d not_all) e = inr (inl e)
    order-or s t two a b calm quiet (inr (inl e)) = inr (inr e)
    order-or s t two a b calm quiet (inr (inr (inl e))) = absurd (calm e.1)
    order-or s t two a b calm quiet (inr (inr (inr e))) = absurd (quiet e.1)

  -- ---- what a status tells by itself

  good-not : (b : Bool) (n : ℕ) → status ≡ status_by b → status ≡ n → (n ≡ 0 → ⊥) → (n ≡ 18 → ⊥) → ⊥
  good-not true n e is zero_not other_not = zero_not (sym is ∙ e)
  good-not false n e is zero_not other_not = other_not (sym is ∙ e)

  is-usage : (result : Result Report Stop) → Outcome h result → HasClosed result out status → status ≡ 1
      → (AreTwo h.words → ⊥) × (h.first_after ≡ h.first) × (h.second_after ≡ h.second)
  is-usage (Ok r) o (whole e p) n = absurd (good-not r.agrees 1 e n (λ k. omega (arith, k)) (λ k. omega (arith, k)))
  is-usage (Ok r) o (cut e p) n = absurd (omega (arith, e, n))
  is-usage (Err stop) (unasked off same other) (line e p) n = (off, same, other)
  is-usage (Err stop) (is_no_first at two none same) (line e p) n = absurd (omega (arith, e, n))
  is-usage (Err stop) (is_no_second at s two stood none) (line e p) n = absurd (omega (arith, e, n))
  is-usage (Err stop) (disk_failed two rose) (line e p) n = absurd (omega (arith, e, n))
  is-usage (Err stop) no_memory (line e p) n = absurd (omega (arith, e, n))
  is-usage (Err stop) o (short e p) n = absurd (omega (arith, e, n))
  is-usage (Err stop) o (failed e p) n = absurd (omega (arith, e, n))
  is-usage (Err stop) o (short_failed e p) n = absurd (omega (arith, e, n))

  where-unasked : (result : Result Report Stop) → Outcome h result → HasClosed result out status
      → (AreTwo h.words → ⊥) → (status ≡ 1) ⊎ (status ≡ 7) ⊎ ((status ≡ 9) × OutputFailed out)
  where-unasked (Ok r) (audited s t q two first second is) k off = absurd (off two)
  where-unasked (Err stop) (unasked also same other) (line e p) off = inl e
  where-unasked (Err stop) (is_no_first at two none same) (line e p) off = absurd (off two)
  where-unasked (Err stop) (is_no_second at s two stood none) (line e p) off = absurd (off two)
  where-unasked (Err stop) (disk_failed two rose) (line e p) off = absurd (off two)
  where-unasked (Err stop) no_memory (line e p) off = inr (inl e)
  where-unasked (Err stop) o (short e p) off = inr (inl e)
  where-unasked (Err stop) o (failed e p) off = inr (inr (e, p.0))
  where-unasked (Err stop) o (short_failed e p) off = inr (inr (e, p.0))

  is-no-spool : (result : Result Report Stop) → Outcome h result → HasClosed result out status → status ≡ 3
      → (at : ℕ) × (WhereTold h.firsts h.first (λ f. NoSpoolAt f at)
      ⊎ WhereTold h.seconds h.second (λ f. NoSpoolAt f at))
  is-no-spool (Ok r) o (whole e p) n = absurd (good-not r.agrees 3 e n (λ k. omega (arith, k)) (λ k. omega (arith, k)))
  is-no-spool (Ok r) o (cut e p) n = absurd (omega (arith, e, n))
  is-no-spool (Err stop) (unasked off same other) (line e p) n = absurd (omega (arith, e, n))
  is-no-spool (Err stop) (is_no_first at two none same) (line e p) n = (at, inl none)
  is-no-spool (Err stop) (is_no_second at s two stood none) (line e p) n = (at, inr none)
  is-no-spool (Err stop) (disk_failed two rose) (line e p) n = absurd (omega (arith, e, n))
  is-no-spool (Err stop) no_memory (line e p) n = absurd (omega (arith, e, n))
  is-no-spool (Err stop) o (short e p) n = absurd (omega (arith, e, n))
  is-no-spool (Err stop) o (failed e p) n = absurd (omega (arith, e, n))
  is-no-spool (Err stop) o (short_failed e p) n = absurd (omega (arith, e, n))

  is-disk : (result : Result Report Stop) → Outcome h result → HasClosed result out status → status ≡ 4 → DiskFailed h
  is-disk (Ok r) o (whole e p) n = absurd (good-not r.agrees 4 e n (λ k. omega (arith, k)) (λ k. omega (arith, k)))
  is-disk (Ok r) o (cut e p) n = absurd (omega (arith, e, n))
  is-disk (Err stop) (unasked off same other) (line e p) n = absurd (omega (arith, e, n))
  is-disk (Err stop) (is_no_first at two none same) (line e p) n = absurd (omega (arith, e, n))
  is-disk (Err stop) (is_no_second at s two stood none) (line e p) n = absurd (omega (arith, e, n))
  is-disk (Err stop) (disk_failed two rose) (line e p) n = rose
  is-disk (Err stop) no_memory (line e p) n = absurd (omega (arith, e, n))
  is-disk (Err stop) o (short e p) n = absurd (omega (arith, e, n))
  is-disk (Err stop) o (failed e p) n = absurd (omega (arith, e, n))
  is-disk (Err stop) o (short_failed e p) n = absurd (omega (arith, e, n))

  stop-sink : (stop : Stop) → status_of stop ≡ 9 → ⊥
  stop-sink Stops.Usage e = omega (arith, e)
  stop-sink (Stops.NotSpool spool at) e = omega (arith, e)
  stop-sink Stops.Disk e = omega (arith, e)
  stop-sink Stops.Memory e = omega (arith, e)

  is-sink : (result : Result Report Stop) → HasClosed result out status → status ≡ 9 → OutputFailed out
  is-sink (Ok r) (whole e p) n = absurd (good-not r.agrees 9 e n (λ k. omega (arith, k)) (λ k. omega (arith, k)))
  is-sink (Ok r) (cut e p) n = p.0
  is-sink (Err stop) (line e p) n = absurd (stop-sink stop (sym e ∙ n))
  is-sink (Err stop) (short e p) n = absurd (omega (arith, e, n))
  is-sink (Err stop) (failed e p) n = p.0
  is-sink (Err stop) (short_failed e p) n = p.0

  -- ---- the lines of the audit

  zero-not-more : status ≡ 0 → status ≡ 18 → ⊥
  zero-not-more e n = omega (arith, e, n)

  prints : (s t : List Step) (r : Report) → AreTwo h.words → IsRead h.firsts s h.first h.first_after
      → IsRead h.seconds t h.second h.second_after → Reports s t r → Prints out r.text → IsGood s t status
      → PrintsAudit h out status
  prints s t r two first second is p (all_good e each) = record {
    two = two;
    s = s;
    t = t;
    first = first;
    second = second;
    printed = subst (Prints out) is.text p;
    agree = λ k. each;
    differ = λ k. absurd (zero-not-more e k);
  }
  prints s t r two first second is p (one_bad e not_all) = record {
    two = two;
    s = s;
    t = t;
    first = first;
    second = second;
    printed = subst (Prints out) is.text p;
    agree = λ k. absurd (zero-not-more k e);
    differ = λ k. not_all;
  }

  either-not : (status ≡ 0) ⊎ (status ≡ 18) → (n : ℕ) → status ≡ n → (n ≡ 0 → ⊥) → (n ≡ 18 → ⊥) → ⊥
  either-not (inl z) n e zero_not other_not = zero_not (sym e ∙ z)
  either-not (inr z) n e zero_not other_not = other_not (sym e ∙ z)

  stop-not : (stop : Stop) → (status ≡ 0) ⊎ (status ≡ 18) → status ≡ status_of stop → ⊥
  stop-not Stops.Usage k e = either-not k 1 e (λ z. omega (arith, z)) (λ z. omega (arith, z))
  stop-not (Stops.NotSpool spool at) k e = either-not k 3 e (λ z. omega (arith, z)) (λ z. omega (arith, z))
  stop-not Stops.Disk k e = either-not k 4 e (λ z. omega (arith, z)) (λ z. omega (arith, z))
  stop-not Stops.Memory k e = either-not k 7 e (λ z. omega (arith, z)) (λ z. omega (arith, z))

  is-audited : (result : Result Report Stop) → Outcome h result → HasClosed result out status
      → (status ≡ 0) ⊎ (status ≡ 18) → PrintsAudit h out status
  is-audited (Ok r) (audited s t q two first second is) (whole e p) k =
      prints s t r two first second is p (good-by s t r.agrees status e is.agree)
  is-audited (Ok r) o (cut e p) k = absurd (either-not k 9 e (λ z. omega (arith, z)) (λ z. omega (arith, z)))
  is-audited (Err stop) o (line e p) k = absurd (stop-not stop k e)
  is-audited (Err stop) o (short e p) k = absurd (either-not k 7 e (λ z. omega (arith, z)) (λ z. omega (arith, z)))
  is-audited (Err stop) o (failed e p) k = absurd (either-not k 9 e (λ z. omega (arith, z)) (λ z. omega (arith, z)))
  is-audited (Err stop) o (short_failed e p) k =
      absurd (either-not k 9 e (λ z. omega (arith, z)) (λ z. omega (arith, z)))

  -- ---- the clauses

  pub run_tells : HasRun h out status → Tells h out status
  run_tells r = record {
    exact = λ f g wanted first second calls.
        wanted-or f g first second wanted calls (called f g first second r.result r.outcome r.closed);
    only = λ f g first second. called f g first second r.result r.outcome r.closed;
    audited = is-audited r.result r.outcome r.closed;
    usage = is-usage r.result r.outcome r.closed;
    usage_where = where-unasked r.result r.outcome r.closed;
    no_spool = is-no-spool r.result r.outcome r.closed;
    disk = is-disk r.result r.outcome r.closed;
    sink = is-sink r.result r.closed;
  }

  pub run_complete : HasRun h out status → IsComplete h out status
  run_complete r o =
      order-or o.f o.g o.first_told o.second_told o.s o.t o.two o.first_stands o.second_stands o.calm_disks
      o.calm_output
      (called o.f o.g o.first_told o.second_told r.result r.outcome r.closed)
