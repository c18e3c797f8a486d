-- What a status tells, from what a run leaves.
use Rattle.std.proofs.Common.{◌≡◌, ℕ, List, [], Option, Some, None, Result, refl, sym, subst, ◌∙◌}
use Rattle.std.proofs.Common.{◌⊎◌}
use Rattle.std.proofs.Common.{inl, inr, ⊎_elim, arith}
use Rattle.mta_commands.specs.DiskLeft.{DiskLeft, Opening}
use Rattle.mta_output.specs.Output.{Output, OutputFailed, HasToldLine, failed as line_failed, line, short as line_short}
use Rattle.mta_output.specs.Output.{short_failed}
use Rattle.mta_commands.specs.declared.stop.Stop.TheVariants as AgentStops
use Rattle.mta_edge.specs.Views.{WhereTold}
use Rattle.mta_histories.specs.History.{after}
use Rattle.mta_images.specs.Image.{NoSpoolAt}
use Rattle.mta_images.specs.Opened.{IsFullForFormat}
use Rattle.mta_images.proofs.GoingOn.{one_opening}
use Rattle.mta_images.proofs.NoSpool.{no_history}
use Rattle.mta_marks.specs.Image.{NoMarksAt, StandsFor as StandsForMarks}
use Rattle.mta_marks.specs.Left.{MarksLeft}
use Rattle.mta_marks.specs.Marks.{standing}
use Rattle.mta_marks.specs.declared.mark.Mark.{Mark}
use Rattle.mta_marks.proofs.Images.{no_marks as marks_not_both, one_list}
use Rattle.mta_records.specs.declared.step.Step.{Step}
use Rattle.mta_store_run.specs.Acting.{ActOutcome, Fits, done, failed, full, no_marks as is_no_marks, not_opened, short}
use Rattle.mta_store_run.specs.Acting.{told}
use Rattle.mta_store_run.specs.Decided.{TellsAnswer}
use Rattle.mta_store_run.specs.Outcome.{DiskFailed, GoesOnWith, HasRun, Handed, Outcome, acted}
use Rattle.mta_store_run.specs.Outcome.{full_spool as is_full_spool}
use Rattle.mta_store_run.specs.Outcome.{no_spool as is_no_spool, spool_failed, spool_short, unasked, unread}
use Rattle.mta_output.specs.Output.{cut, whole}
use Rattle.mta_store_run.specs.Output.{HasClosed, HasTold}
use Rattle.mta_store_run.specs.Ran.{CallsAsked, CallsFor, CallsOf, Fails, IsComplete, OpensWell}
use Rattle.mta_store_run.specs.Ran.{PrintsAnswer}
use Rattle.mta_store_run.specs.Ran.{TellsStatus, answers, full_spool, no_marks, no_spool}
use Rattle.mta_store_run.specs.Stops.{line_of, status_of}
use Rattle.mta_store_run.specs.Store.{Answer, answer_of, gives, no_entry, no_mailbox, not_fetched}
use Rattle.mta_store_run.specs.declared.asked.Asked.{Asked}
use Rattle.mta_store_run.specs.declared.stop.Stop.{Stop}
use Rattle.mta_store_run.specs.declared.stop.Stop.TheVariants as Stops

-- ---- words and disks call for one status

of_once : (g : List ℕ) (marks : List Mark) (answer : Answer) (m n : ℕ) → CallsOf g marks answer m
    → CallsOf g marks answer n → m ≡ n
of_once g marks no_mailbox m n p q = p ∙ sym q
of_once g marks no_entry m n p q = p ∙ sym q
of_once g marks not_fetched m n p q = p ∙ sym q
of_once g marks (gives text None) m n p q = p ∙ sym q
of_once g marks (gives text (Some mark)) m n (inl p) (inl q) = p.0 ∙ sym q.0
of_once g marks (gives text (Some mark)) m n (inr p) (inr q) = p.0 ∙ sym q.0
of_once g marks (gives text (Some mark)) m n (inl p) (inr q) = absurd (p.1 q.1.0 q.1.1.0 q.1.1.1)
of_once g marks (gives text (Some mark)) m n (inr p) (inl q) = absurd (q.1 p.1.0 p.1.1.0 p.1.1.1)

no_both : (f : List ℕ) (at : ℕ) (steps : List Step) → NoSpoolAt f at → OpensWell f steps → ⊥
no_both f at steps none o = no_history f at o.found none o.opens.is.stands

no_both_full : (f : List ℕ) (at size need : ℕ) → NoSpoolAt f at → IsFullForFormat f size need → ⊥
no_both_full f at size need none o = no_history f at o.found none o.is.stands

once : (f g : List ℕ) (asked : Asked) (m n : ℕ) → CallsAsked f g asked m → CallsAsked f g asked n → m ≡ n
once f g asked m n (no_spool at a p) (no_spool at' b q) = p ∙ sym q
once f g asked m n (no_spool at a p) (full_spool size need b q) = absurd (no_both_full f at size need a b)
once f g asked m n (no_spool at a p) (no_marks steps at' b c q) = absurd (no_both f at steps a b)
once f g asked m n (no_spool at a p) (answers steps marks b c q) = absurd (no_both f at steps a b)
once f g asked m n (full_spool size need a p) (no_spool at b q) = absurd (no_both_full f at size need b a)
once f g asked m n (full_spool size need a p) (full_spool size' need' b q) = p ∙ sym q
once f g asked m n (full_spool size need a p) (no_marks steps at b c q) = absurd (b.fits size need a)
once f g asked m n (full_spool size need a p) (answers steps marks b c q) = absurd (b.fits size need a)
once f g asked m n (no_marks steps at a c p) (no_spool at' b q) = absurd (no_both f at' steps b a)
once f g asked m n (no_marks steps at a c p) (full_spool size need b q) = absurd (a.fits size need b)
once f g asked m n (no_marks steps at a c p) (no_marks steps' at' b d q) = p ∙ sym q
once f g asked m n (no_marks steps at a c p) (answers steps' marks b d q) = absurd (marks_not_both g at marks c d)
once f g asked m n (answers steps marks a c p) (no_spool at b q) = absurd (no_both f at steps b a)
once f g asked m n (answers steps marks a c p) (full_spool size need b q) = absurd (a.fits size need b)
once f g asked m n (answers steps marks a c p) (no_marks steps' at b d q) = absurd (marks_not_both g at marks d c)
once f g asked m n (answers steps marks a c p) (answers steps' marks' b d q) =
    let same_steps : steps ≡ steps' = (one_opening f a.found b.found steps steps' a.opens b.opens).1 in
    let same_marks : marks ≡ marks' = one_list g marks marks' c d in
    of_once g marks' (answer_of asked (after steps') (standing marks')) m n
    (subst (λ (ms : List Mark). CallsOf g ms (answer_of asked (after steps') (standing ms)) m) same_marks
    (subst (λ (ss : List Step). CallsOf g marks (answer_of asked (after ss) (standing marks)) m) same_steps p)) q

calls_once : (f g : List ℕ) (asked : Option Asked) (m n : ℕ) → CallsFor f g asked m → CallsFor f g asked n → m ≡ n
calls_once f g None m n p q = p ∙ sym q
calls_once f g (Some asked) m n p q = once f g asked m n p q

-- ---- the status of a line

module _ (out : Output) (status : ℕ) where
  -- the status of the line, or want of memory for it, or a fault of the output
  line_status : {no_memory : List ℕ} (text : List ℕ) (good : ℕ) → HasToldLine text no_memory good out status
      → (status ≡ good) ⊎ (status ≡ 7) ⊎ ((status ≡ 9) × OutputFailed out)
  line_status text good (line e prints) = inl e
  line_status text good (line_short e prints) = inr (inl e)
  line_status text good (line_failed e front) = inr (inr (e, front.0))
  line_status text good (short_failed e front) = inr (inr (e, front.0))

module _ {D E : Type 0} (h : Handed D E) (out : Output) (status : ℕ) where
  -- ---- the status for which the words and the octets of the disks call

  short_fails : (status ≡ 7) ⊎ ((status ≡ 9) × OutputFailed out) → Fails h out status
  short_fails (inl e) = inl e
  short_fails (inr e) = inr (inr e)

  module _ (f g : List ℕ) (spool_told : h.spools.content h.spool ≡ Some f)
      (marks_told : h.marked.content h.marks ≡ Some g) where
    abbrev Called : Type 0
    Called = CallsFor f g h.asked status ⊎ Fails h out status

    -- by a stop with its status
    by_line : (stop : Stop) → HasTold stop out status
        → (status ≡ status_of stop → Called) → Called
    by_line stop t good = ⊎_elim {C = Called} good (λ other. inr (short_fails other))
        (line_status out status (line_of stop) (status_of stop) t)

    asked_calls : (asked : Asked) → h.asked ≡ Some asked → CallsAsked f g asked status → Called
    asked_calls asked is calls = inl (subst (λ (o : Option Asked). CallsFor f g o status) (sym is) calls)

    tells_calls : (marks : List Mark) (asked : Asked) (answer : Answer) (stop : Stop) → TellsAnswer asked answer stop
        → status ≡ status_of stop → CallsOf g marks answer status
    tells_calls marks asked answer Stops.Usage tells e = absurd tells
    tells_calls marks asked answer (Stops.NotMarks at) tells e = absurd tells
    tells_calls marks asked answer (Stops.NoEntry number) tells e =
        subst (λ (x : Answer). CallsOf g marks x status) (sym tells.0) e
    tells_calls marks asked answer (Stops.NotFetched number) tells e =
        subst (λ (x : Answer). CallsOf g marks x status) (sym tells.0) e
    tells_calls marks asked answer (Stops.Agent (AgentStops.NoMailbox name)) tells e =
        subst (λ (x : Answer). CallsOf g marks x status) (sym tells.0) e
    tells_calls marks asked answer (Stops.Agent AgentStops.Memory) tells e = absurd tells
    tells_calls marks asked answer (Stops.Agent AgentStops.Usage) tells e = absurd tells
    tells_calls marks asked answer (Stops.Agent (AgentStops.Tables at kind)) tells e = absurd tells
    tells_calls marks asked answer (Stops.Agent (AgentStops.NotSpool at)) tells e = absurd tells
    tells_calls marks asked answer (Stops.Agent AgentStops.Disk) tells e = absurd tells
    tells_calls marks asked answer (Stops.Agent (AgentStops.Full size need)) tells e = absurd tells
    tells_calls marks asked answer (Stops.Agent (AgentStops.Spent last)) tells e = absurd tells
    tells_calls marks asked answer (Stops.Agent AgentStops.Source) tells e = absurd tells
    tells_calls marks asked answer (Stops.Agent AgentStops.Sink) tells e = absurd tells
    tells_calls marks asked answer (Stops.Agent (AgentStops.NoPeer name)) tells e = absurd tells
    tells_calls marks asked answer (Stops.Agent (AgentStops.BadApdu at kind)) tells e = absurd tells

    fits_calls : (marks : List Mark) (text : List ℕ) (mark : Option Mark) (answer : Answer)
        → answer ≡ gives text mark → Fits g marks mark → status ≡ 0
        → CallsOf g marks answer status
    fits_calls marks text None answer e fits zero = subst (λ (x : Answer). CallsOf g marks x status) (sym e) zero
    fits_calls marks text (Some mark) answer e fits zero =
        subst (λ (x : Answer). CallsOf g marks x status) (sym e) (inl (zero, fits))

    module _ (asked : Asked) (is : h.asked ≡ Some asked) (steps : List Step) (well : OpensWell f steps) where
      answered_calls : (marks : List Mark) → StandsForMarks g marks
          → CallsOf g marks (answer_of asked (after steps) (standing marks)) status → Called
      answered_calls marks stands calls = asked_calls asked is (answers steps marks well stands calls)

      act_calls : (added torn_mark : List Mark) (result : Result (List ℕ) Stop)
          → ActOutcome h.marked asked (after steps) h.marks h.marks_after added torn_mark result
          → HasClosed result out status → Called
      act_calls _ _ _ short closed = by_line (Stops.Agent AgentStops.Memory) closed (λ e. inr (inl e))
      act_calls _ _ _ (is_no_marks at none) closed =
          by_line (Stops.NotMarks at) closed
          (λ e. asked_calls asked is (no_marks steps at well (none g marks_told) e))
      act_calls _ _ _ (not_opened rose) closed =
          by_line (Stops.Agent AgentStops.Disk) closed (λ e. inr (inr (inl (e, inr rose))))
      act_calls _ _ _ (told marks stop has tells) closed =
          by_line stop closed
          (λ e. answered_calls marks (has g marks_told)
          (tells_calls marks asked (answer_of asked (after steps) (standing marks)) stop tells e))
      act_calls _ _ _ (full marks mark text size need has answer over) closed =
          by_line (Stops.Agent (AgentStops.Full size need)) closed
          (λ e. answered_calls marks (has g marks_told)
          (subst (λ (x : Answer). CallsOf g marks x status) (sym answer) (inr (e, (size, (need, over g marks_told))))))
      act_calls _ _ _ (failed marks mark text has answer rose) closed =
          by_line (Stops.Agent AgentStops.Disk) closed (λ e. inr (inr (inl (e, inr rose))))
      act_calls _ _ _ (done marks text mark has answer fits) (whole e prints) =
          answered_calls marks (has g marks_told)
          (fits_calls marks text mark (answer_of asked (after steps) (standing marks)) answer (fits g marks_told) e)
      act_calls _ _ _ (done marks text mark has answer fits) (cut e front) = inr (inr (inr (e, front.0)))

    called : (opening : Opening) (added torn_mark : List Mark) (result : Result (List ℕ) Stop)
        → Outcome h opening added torn_mark result → HasClosed result out status → Called
    called _ _ _ _ (unasked is same) closed =
        by_line Stops.Usage closed (λ e. inl (subst (λ (o : Option Asked). CallsFor f g o status) (sym is) e))
    called _ _ _ _ (unread same) closed = by_line (Stops.Agent AgentStops.Memory) closed (λ e. inr (inl e))
    called _ _ _ _ (is_no_spool asked at is none same) closed =
        by_line (Stops.Agent (AgentStops.NotSpool at)) closed
        (λ e. asked_calls asked is (no_spool at (none f spool_told) e))
    called _ _ _ _ (is_full_spool asked size need is over same) closed =
        by_line (Stops.Agent (AgentStops.Full size need)) closed
        (λ e. asked_calls asked is (full_spool size need (over f spool_told) e))
    called _ _ _ _ (spool_failed asked is rose same) closed =
        by_line (Stops.Agent AgentStops.Disk) closed (λ e. inr (inr (inl (e, inl rose))))
    called _ _ _ _ (spool_short same) closed = by_line (Stops.Agent AgentStops.Memory) closed (λ e. inr (inl e))
    called _ _ _ _ (acted asked steps added torn_mark result is goes_on fits act) closed =
        let x = goes_on f spool_told in
        act_calls asked is steps (record { found = x.0; opens = x.1; fits = fits f spool_told }) added torn_mark result
        act closed

  -- ---- what comes with each status

  -- what was asked
  abbrev IsSome : Type 0
  IsSome = (asked : Asked) × (h.asked ≡ Some asked)

  -- the status, and what is known with it
  pub data IsGot : Type 0 where
    got_zero : status ≡ 0 → IsSome → PrintsAnswer h out status → IsGot
    got_usage : status ≡ 1 → h.asked ≡ None → h.spool_after ≡ h.spool → h.marks_after ≡ h.marks → IsGot
    got_spool : (at : ℕ) → status ≡ 3 → IsSome → WhereTold h.spools h.spool (λ f. NoSpoolAt f at) → IsGot
    got_marks : (at : ℕ) → status ≡ 14 → IsSome → WhereTold h.marked h.marks (λ g. NoMarksAt g at) → IsGot
    got_disk : status ≡ 4 → IsSome → DiskFailed h → IsGot
    got_full : status ≡ 5 → IsSome → IsGot
    got_told : (status ≡ 10) ⊎ (status ≡ 12) ⊎ (status ≡ 13) → IsSome → IsGot
    got_short : status ≡ 7 → IsGot
    got_sink : status ≡ 9 → OutputFailed out → IsGot

  got_line : (stop : Stop) → HasTold stop out status → (status ≡ status_of stop → IsGot) → IsGot
  got_line stop t good = ⊎_elim {C = IsGot} good
      (⊎_elim {C = IsGot} (λ e. got_short e) (λ x. got_sink x.0 x.1))
      (line_status out status (line_of stop) (status_of stop) t)

  told_status : (asked : Asked) (answer : Answer) (stop : Stop) → TellsAnswer asked answer stop
      → status ≡ status_of stop → (status ≡ 10) ⊎ (status ≡ 12) ⊎ (status ≡ 13)
  told_status asked answer Stops.Usage tells e = absurd tells
  told_status asked answer (Stops.NotMarks at) tells e = absurd tells
  told_status asked answer (Stops.NoEntry number) tells e = inr (inl e)
  told_status asked answer (Stops.NotFetched number) tells e = inr (inr e)
  told_status asked answer (Stops.Agent (AgentStops.NoMailbox name)) tells e = inl e
  told_status asked answer (Stops.Agent AgentStops.Memory) tells e = absurd tells
  told_status asked answer (Stops.Agent AgentStops.Usage) tells e = absurd tells
  told_status asked answer (Stops.Agent (AgentStops.Tables at kind)) tells e = absurd tells
  told_status asked answer (Stops.Agent (AgentStops.NotSpool at)) tells e = absurd tells
  told_status asked answer (Stops.Agent AgentStops.Disk) tells e = absurd tells
  told_status asked answer (Stops.Agent (AgentStops.Full size need)) tells e = absurd tells
  told_status asked answer (Stops.Agent (AgentStops.Spent last)) tells e = absurd tells
  told_status asked answer (Stops.Agent AgentStops.Source) tells e = absurd tells
  told_status asked answer (Stops.Agent AgentStops.Sink) tells e = absurd tells
  told_status asked answer (Stops.Agent (AgentStops.NoPeer name)) tells e = absurd tells
  told_status asked answer (Stops.Agent (AgentStops.BadApdu at kind)) tells e = absurd tells

  act_got : (asked : Asked) → h.asked ≡ Some asked → (steps : List Step) → GoesOnWith h steps
      → (added torn_mark : List Mark) (result : Result (List ℕ) Stop)
      → MarksLeft h.marked h.marks h.marks_after added torn_mark
      → ActOutcome h.marked asked (after steps) h.marks h.marks_after added torn_mark result
      → HasClosed result out status → IsGot
  act_got asked is steps goes_on _ _ _ left short closed =
      got_line (Stops.Agent AgentStops.Memory) closed (λ e. got_short e)
  act_got asked is steps goes_on _ _ _ left (is_no_marks at none) closed =
      got_line (Stops.NotMarks at) closed (λ e. got_marks at e (asked, is) none)
  act_got asked is steps goes_on _ _ _ left (not_opened rose) closed =
      got_line (Stops.Agent AgentStops.Disk) closed (λ e. got_disk e (asked, is) (inr rose))
  act_got asked is steps goes_on _ _ _ left (told marks stop has tells) closed =
      got_line stop closed
      (λ e. got_told (told_status asked (answer_of asked (after steps) (standing marks)) stop tells e) (asked, is))
  act_got asked is steps goes_on _ _ _ left (full marks mark text size need has answer over) closed =
      got_line (Stops.Agent (AgentStops.Full size need)) closed (λ e. got_full e (asked, is))
  act_got asked is steps goes_on _ _ _ left (failed marks mark text has answer rose) closed =
      got_line (Stops.Agent AgentStops.Disk) closed (λ e. got_disk e (asked, is) (inr rose))
  act_got asked is steps goes_on _ _ _ left (done marks text mark has answer fits) (cut e front) =
      got_sink e front.0
  act_got asked is steps goes_on _ _ _ left (done marks text mark has answer fits) (whole e prints) =
      got_zero e (asked, is) (record {
        asked = asked;
        asked_is = is;
        steps = steps;
        goes_on = goes_on;
        text = text;
        mark = mark;
        marks = marks;
        has = has;
        answer = answer;
        printed = prints;
        left = left;
      })

  got : (opening : Opening) (added torn_mark : List Mark) (result : Result (List ℕ) Stop)
      → DiskLeft h.spools h.spool h.spool_after opening [] []
      → MarksLeft h.marked h.marks h.marks_after added torn_mark → Outcome h opening added torn_mark result
      → HasClosed result out status → IsGot
  got _ _ _ _ spool left (unasked is same) closed =
      got_line Stops.Usage closed (λ e. got_usage e is (spool.untouched refl) same)
  got _ _ _ _ spool left (unread same) closed =
      got_line (Stops.Agent AgentStops.Memory) closed (λ e. got_short e)
  got _ _ _ _ spool left (is_no_spool asked at is none same) closed =
      got_line (Stops.Agent (AgentStops.NotSpool at)) closed (λ e. got_spool at e (asked, is) none)
  got _ _ _ _ spool left (is_full_spool asked size need is over same) closed =
      got_line (Stops.Agent (AgentStops.Full size need)) closed (λ e. got_full e (asked, is))
  got _ _ _ _ spool left (spool_failed asked is rose same) closed =
      got_line (Stops.Agent AgentStops.Disk) closed (λ e. got_disk e (asked, is) (inl rose))
  got _ _ _ _ spool left (spool_short same) closed =
      got_line (Stops.Agent AgentStops.Memory) closed (λ e. got_short e)
  got _ _ _ _ spool left (acted asked steps added torn_mark result is goes_on fits act) closed =
      act_got asked is steps goes_on added torn_mark result left act closed

  -- ---- each by itself

  zero_of : IsGot → status ≡ 0 → PrintsAnswer h out status
  zero_of (got_zero e is prints) z = prints
  zero_of (got_usage e none s m) z = absurd (omega (arith, e, z))
  zero_of (got_spool at e is none) z = absurd (omega (arith, e, z))
  zero_of (got_marks at e is none) z = absurd (omega (arith, e, z))
  zero_of (got_disk e is f) z = absurd (omega (arith, e, z))
  zero_of (got_full e is) z = absurd (omega (arith, e, z))
  zero_of (got_told (inl e) is) z = absurd (omega (arith, e, z))
  zero_of (got_told (inr (inl e)) is) z = absurd (omega (arith, e, z))
  zero_of (got_told (inr (inr e)) is) z = absurd (omega (arith, e, z))
  zero_of (got_short e) z = absurd (omega (arith, e, z))
  zero_of (got_sink e f) z = absurd (omega (arith, e, z))

  usage_of : IsGot → status ≡ 1 → (h.asked ≡ None) × (h.spool_after ≡ h.spool) × (h.marks_after ≡ h.marks)
  usage_of (got_zero e is prints) z = absurd (omega (arith, e, z))
  usage_of (got_usage e none s m) z = (none, s, m)
  usage_of (got_spool at e is none) z = absurd (omega (arith, e, z))
  usage_of (got_marks at e is none) z = absurd (omega (arith, e, z))
  usage_of (got_disk e is f) z = absurd (omega (arith, e, z))
  usage_of (got_full e is) z = absurd (omega (arith, e, z))
  usage_of (got_told (inl e) is) z = absurd (omega (arith, e, z))
  usage_of (got_told (inr (inl e)) is) z = absurd (omega (arith, e, z))
  usage_of (got_told (inr (inr e)) is) z = absurd (omega (arith, e, z))
  usage_of (got_short e) z = absurd (omega (arith, e, z))
  usage_of (got_sink e f) z = absurd (omega (arith, e, z))

  some_none : h.asked ≡ None → IsSome → ⊥
  some_none none is = let wrong : ◌≡◌ {A = Option Asked} None (Some is.0) = sym none ∙ is.1 in cc

  abbrev UsageOr : Type 0
  UsageOr = (status ≡ 1) ⊎ (status ≡ 7) ⊎ ((status ≡ 9) × OutputFailed out)

  usage_where : IsGot → h.asked ≡ None → UsageOr
  usage_where (got_zero e is prints) z = absurd (some_none z is)
  usage_where (got_usage e none s m) z = inl e
  usage_where (got_spool at e is none) z = absurd (some_none z is)
  usage_where (got_marks at e is none) z = absurd (some_none z is)
  usage_where (got_disk e is f) z = absurd (some_none z is)
  usage_where (got_full e is) z = absurd (some_none z is)
  usage_where (got_told e is) z = absurd (some_none z is)
  usage_where (got_short e) z = inr (inl e)
  usage_where (got_sink e f) z = inr (inr (e, f))

  spool_of : IsGot → status ≡ 3 → (at : ℕ) × WhereTold h.spools h.spool (λ f. NoSpoolAt f at)
  spool_of (got_zero e is prints) z = absurd (omega (arith, e, z))
  spool_of (got_usage e none s m) z = absurd (omega (arith, e, z))
  spool_of (got_spool at e is none) z = (at, none)
  spool_of (got_marks at e is none) z = absurd (omega (arith, e, z))
  spool_of (got_disk e is f) z = absurd (omega (arith, e, z))
  spool_of (got_full e is) z = absurd (omega (arith, e, z))
  spool_of (got_told (inl e) is) z = absurd (omega (arith, e, z))
  spool_of (got_told (inr (inl e)) is) z = absurd (omega (arith, e, z))
  spool_of (got_told (inr (inr e)) is) z = absurd (omega (arith, e, z))
  spool_of (got_short e) z = absurd (omega (arith, e, z))
  spool_of (got_sink e f) z = absurd (omega (arith, e, z))

  marks_of : IsGot → status ≡ 14 → (at : ℕ) × WhereTold h.marked h.marks (λ g. NoMarksAt g at)
  marks_of (got_zero e is prints) z = absurd (omega (arith, e, z))
  marks_of (got_usage e none s m) z = absurd (omega (arith, e, z))
  marks_of (got_spool at e is none) z = absurd (omega (arith, e, z))
  marks_of (got_marks at e is none) z = (at, none)
  marks_of (got_disk e is f) z = absurd (omega (arith, e, z))
  marks_of (got_full e is) z = absurd (omega (arith, e, z))
  marks_of (got_told (inl e) is) z = absurd (omega (arith, e, z))
  marks_of (got_told (inr (inl e)) is) z = absurd (omega (arith, e, z))
  marks_of (got_told (inr (inr e)) is) z = absurd (omega (arith, e, z))
  marks_of (got_short e) z = absurd (omega (arith, e, z))
  marks_of (got_sink e f) z = absurd (omega (arith, e, z))

  disk_of : IsGot → status ≡ 4 → DiskFailed h
  disk_of (got_zero e is prints) z = absurd (omega (arith, e, z))
  disk_of (got_usage e none s m) z = absurd (omega (arith, e, z))
  disk_of (got_spool at e is none) z = absurd (omega (arith, e, z))
  disk_of (got_marks at e is none) z = absurd (omega (arith, e, z))
  disk_of (got_disk e is f) z = f
  disk_of (got_full e is) z = absurd (omega (arith, e, z))
  disk_of (got_told (inl e) is) z = absurd (omega (arith, e, z))
  disk_of (got_told (inr (inl e)) is) z = absurd (omega (arith, e, z))
  disk_of (got_told (inr (inr e)) is) z = absurd (omega (arith, e, z))
  disk_of (got_short e) z = absurd (omega (arith, e, z))
  disk_of (got_sink e f) z = absurd (omega (arith, e, z))

  sink_of : IsGot → status ≡ 9 → OutputFailed out
  sink_of (got_zero e is prints) z = absurd (omega (arith, e, z))
  sink_of (got_usage e none s m) z = absurd (omega (arith, e, z))
  sink_of (got_spool at e is none) z = absurd (omega (arith, e, z))
  sink_of (got_marks at e is none) z = absurd (omega (arith, e, z))
  sink_of (got_disk e is f) z = absurd (omega (arith, e, z))
  sink_of (got_full e is) z = absurd (omega (arith, e, z))
  sink_of (got_told (inl e) is) z = absurd (omega (arith, e, z))
  sink_of (got_told (inr (inl e)) is) z = absurd (omega (arith, e, z))
  sink_of (got_told (inr (inr e)) is) z = absurd (omega (arith, e, z))
  sink_of (got_short e) z = absurd (omega (arith, e, z))
  sink_of (got_sink e f) z = f

  -- ---- the clauses

  pub tells_status : HasRun h out status → TellsStatus h out status
  tells_status r =
      let d = r.done in
      let x = got d.opening d.added d.torn_mark r.result d.disks.spool d.disks.marks d.outcome r.closed in
      record {
        exact = λ f g wanted spool_told marks_told calls.
            ⊎_elim {C = (status ≡ wanted) ⊎ Fails h out status}
            (λ own. inl (calls_once f g h.asked status wanted own calls)) (λ fails. inr fails)
            (called f g spool_told marks_told d.opening d.added d.torn_mark r.result d.outcome r.closed);
        only = λ f g spool_told marks_told.
            called f g spool_told marks_told d.opening d.added d.torn_mark r.result d.outcome r.closed;
        answered = zero_of x;
        usage = usage_of x;
        usage_where = usage_where x;
        no_spool = spool_of x;
        no_marks = marks_of x;
        disk = disk_of x;
        sink = sink_of x;
      }

  pub is_complete : HasRun h out status → IsComplete h out status
  is_complete r a = ⊎_elim {C = (status ≡ 0) ⊎ (status ≡ 7)} (λ zero. inl zero)
      (⊎_elim {C = (status ≡ 0) ⊎ (status ≡ 7)} (λ e. inr e)
      (⊎_elim {C = (status ≡ 0) ⊎ (status ≡ 7)}
      (λ x. absurd (⊎_elim {C = ⊥} a.calm_spool a.calm_marks x.1)) (λ x. absurd (a.calm_output x.1))))
      ((tells_status r).exact a.f a.g 0 a.spool_told a.marks_told a.asks)
