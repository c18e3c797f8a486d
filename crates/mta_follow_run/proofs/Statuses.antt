-- What a status tells, from what a run leaves.
use Rattle.std.proofs.Common.{◌≡◌, append-nil, ◌⊎◌, inl, inr, ℕ, ◌+◌, Some, List, [], ◌∷◌, ◌++◌}
use Rattle.std.proofs.Common.{length}
use Rattle.std.proofs.Common.{take, Result, Ok, Err, refl, sym, ap, subst, ◌∙◌, arith}
use Rattle.std.specs.Prelude.{codes}
use Rattle.std.proofs.lemmas.List.{length-map}
use Rattle.mta_edge.specs.Causes.{Rose}
use Rattle.mta_edge.specs.Views.{DiskLaws, WhereTold}
use Rattle.mta_journal.specs.Bodies.{HasBodiesAt, StandsFor, records}
use Rattle.mta_journal.specs.Shown.{Holds, Shown}
use Rattle.mta_journal.proofs.OpenedDisk.{stands_for}
use Rattle.mta_records.specs.Body.{body_of}
use Rattle.mta_follow_units.specs.declared.due.Due.TheVariants as due
use Rattle.mta_follow_units.specs.Units.{done_unit, record_units}
use Rattle.mta_follow_run.specs.Copies.{IsUpTo}
use Rattle.mta_follow_run.specs.Opened.{HasSpoolCause, HasStandbyCause, IsSpool, IsStandby}
use Rattle.mta_follow_run.specs.Opened.{SpoolLeft}
use Rattle.mta_follow_run.specs.Outcome.{Follow, Handed, Push, followed, not_opened}
use Rattle.mta_follow_run.specs.Outcome.{not_pushed, pull_no_link, pull_over, push_no_link, push_over, was_pushed}
use Rattle.mta_output.specs.Output.{HasPrinted, Output, OutputFailed, Prints, cut as printed_cut}
use Rattle.mta_output.specs.Output.{whole as printed_whole}
use Rattle.mta_follow_run.specs.Pulling.{PullEnds, Pulls, ends_bad, ends_broken, ends_differs, ends_done, ends_failed}
use Rattle.mta_follow_run.specs.Pulling.{ends_full, ends_more, ends_none, ends_short, ends_unsaid}
use Rattle.mta_follow_run.specs.Pushing.{PushEnds, Pushes, push_bad, push_broken, push_done, push_short, push_undone}
use Rattle.mta_follow_run.specs.Pushing.{push_unput}
use Rattle.mta_follow_run.specs.Ran.{HasRun, HoldsAll, PutsAll, Tells}
use Rattle.mta_follow_run.specs.Ran.{TellsAll}
use Rattle.mta_follow_run.specs.Ran.{TellsPull, TellsPush, differs_behind, differs_there, not_record}
use Rattle.mta_follow_run.specs.Ran.{not_unit}
use Rattle.mta_follow_run.specs.Ran.{EndsEarly, early_failed, early_no_link, early_read}
use Rattle.mta_follow_run.specs.Ran.{run_pulled, run_pushed, run_unasked, tells_all, tells_bad, tells_broken}
use Rattle.mta_follow_run.specs.Ran.{tells_disk}
use Rattle.mta_follow_run.specs.Ran.{tells_diverged, tells_full, tells_no_format, tells_no_journal, tells_no_link}
use Rattle.mta_follow_run.specs.Ran.{tells_no_spool, tells_output, tells_short, tells_usage}
use Rattle.mta_follow_run.specs.Stops.{kept_text, line_of, pushed_text, status_by, status_of}
use Rattle.mta_follow_run.specs.Talks.{HasServed, IsOver, Talks, kept_units}
use Rattle.mta_follow_run.specs.Words.{AskNothing, Pull, Push as AskPush, Says, says_pull, says_push}
use Rattle.mta_follow_run.specs.declared.stop.Stop.{Stop}
use Rattle.mta_follow_run.specs.declared.stop.Stop.TheVariants as Stops
use Rattle.mta_follow_run.proofs.Following.{first_at}
use Rattle.mta_follow_run.proofs.Fronts.{up_behind, up_front}
use Rattle.mta_follow_run.proofs.Pushing.{take_whole}
use Rattle.mta_follow_run.proofs.Told.{left, left_front}

-- ---- words

not_both : (words : List (List ℕ)) (host : List ℕ) (port other : ℕ) → Says words (AskPush host port)
    → Says words (Pull other) → ⊥
not_both words host port other (says_push h text p is named at) (says_pull t o same also) =
    two h text t (sym is ∙ same)
  where
    two : (a b c : List ℕ) → codes "push" ∷ a ∷ b ∷ []
        ≡ codes "pull" ∷ c ∷ [] → ⊥
    two a b c e = let short : 3 ≡ 2 = ap length e in omega (arith, short)

module _ {D L S : Type 0} (h : Handed D L S) (out : Output) where
  -- ---- the words are its own where it ended otherwise

  no_usage : (count : ℕ) → Follow h count (Err Stops.Usage) → ⊥
  no_usage count (not_opened stop none zero_is same) = none.cause
  no_usage count (followed kept opened closed ended s is (pull_over begun link result p served)) = elim p.ends [ ]

  no_usage_push : Push h (Err Stops.Usage) → ⊥
  no_usage_push (not_pushed stop none same) = none.cause
  no_usage_push (was_pushed bodies result spool (push_over begun link r p served)) = elim p.ends [ ]

  -- ---- all

  module _ (count : ℕ) (printed : Prints out (kept_text {T = Unit} count (Ok tt))) where
    held_all : (kept : List (List ℕ)) (opened closed : Shown D) → IsStandby h.disks h.disk opened kept
        → closed.disk ≡ h.disk_after → (begun link : L)
        → (p : Pulls h.disks h.links kept opened closed begun link count (Ok tt))
        → HasServed h.stations (record_units p.got ++ p.rest) p.put h.station h.station_after
        → PullEnds h.disks h.links kept p.got p.rest p.put opened.disk closed.disk closed.size begun link (Ok tt)
        → HoldsAll h out
    held_all kept opened closed s is begun link p served (ends_done rest_is short put_is) =
        let all = p.holds (λ e. absurd cc) in
        let bodies_are : all.0 ≡ p.got = (up_behind kept p.got all.0 all.1 short).0 in
        record {
          got = p.got;
          served = subst (λ (l : List ℕ). HasServed h.stations (record_units p.got ++ l) (kept_units (length p.got))
              h.station h.station_after) rest_is
              (subst (λ (l : List ℕ). HasServed h.stations (record_units p.got ++ p.rest) l h.station h.station_after)
              put_is served);
          reads = λ f told g now.
              let here : h.disks.content closed.disk ≡ Some g = ap h.disks.content is ∙ now in
              subst (StandsFor g) bodies_are (stands_for closed.first g all.0 (all.2.file g here));
          printed = subst (λ (n : ℕ). Prints out (kept_text {T = Unit} n (Ok tt))) p.count_is printed;
        }

    holds_all : Follow h count (Ok tt) → HoldsAll h out
    holds_all (followed kept opened closed ended s is (pull_over begun link result p served)) =
        held_all kept opened closed s is begun link p served p.ends

  -- the number that is answered is that of all records, which were put and told kept
  done_is : (bodies : List (List ℕ)) (count answered : ℕ) (rest piece : List ℕ) (begun link : L)
      → PushEnds h.links bodies count rest piece begun link (Ok answered)
      → (answered ≡ count) × (count ≡ length bodies) × (rest ≡ []) × (piece ≡ done_unit count)
  done_is bodies count answered rest piece begun link (push_done all none piece_is) = (refl, all, none, piece_is)

  module _ (count : ℕ) (printed : Prints out (pushed_text (Ok count))) where
    put_all : (bodies : List (List ℕ)) (begun link : L) → IsSpool h.disks h.disk h.disk_after bodies
        → (p : Pushes h.links bodies begun link (Ok count))
        → HasServed h.stations (kept_units p.count ++ p.rest) (record_units (take p.count bodies) ++ p.piece) h.station
        h.station_after
        → PushEnds h.links bodies p.count p.rest p.piece begun link (Ok count)
        → WhereTold h.disks h.disk (λ f. PutsAll h out f)
    put_all bodies begun link spool p served ends f told =
        let o = spool.opens f told in
        let long : length bodies ≡ length o.1 = ap length o.3 ∙ length-map o.1 body_of in
        let is = done_is bodies p.count count p.rest p.piece begun link ends in
        let got : kept_units p.count ++ p.rest ≡ kept_units (length bodies) =
        ap (λ (l : List ℕ). kept_units p.count ++ l) is.2 ∙ append-nil (kept_units p.count) ∙ ap kept_units is.1 in
        let put : record_units (take p.count bodies) ++ p.piece ≡ record_units bodies ++ done_unit (length bodies) =
        ap (λ (l : List ℕ). record_units (take p.count bodies) ++ l) (is.3 ∙ ap done_unit is.1)
        ∙ ap (λ (l : List (List ℕ)). record_units l ++ done_unit (length bodies))
        (ap (λ (n : ℕ). take n bodies) is.1 ∙ take_whole bodies) in
        let all : HasServed h.stations (kept_units (length bodies)) (record_units bodies ++ done_unit (length bodies))
        h.station h.station_after =
        subst (λ (l : List ℕ). HasServed h.stations l (record_units bodies ++ done_unit (length bodies)) h.station
        h.station_after) got
        (subst (λ (l : List ℕ). HasServed h.stations (kept_units p.count ++ p.rest) l h.station h.station_after)
        put served) in
        record {
          found = o.0;
          steps = o.1;
          opens = o.2;
          served = subst (λ (l : List ℕ). HasServed h.stations (kept_units (length o.1)) l h.station h.station_after)
              (ap (λ (l : List (List ℕ)). record_units l ++ done_unit (length o.1)) o.3)
              (subst (λ (n : ℕ). HasServed h.stations (kept_units n) (record_units bodies ++ done_unit n) h.station
              h.station_after) long all);
          reads = o.4;
          printed = subst (λ (n : ℕ). Prints out (pushed_text (Ok n))) (is.0 ∙ is.1 ∙ long) printed;
        }

    puts_all : Push h (Ok count) → WhereTold h.disks h.disk (λ f. PutsAll h out f)
    puts_all (was_pushed bodies result spool (push_over begun link r p served)) =
        put_all bodies begun link spool p served p.ends

  -- ---- why a standby's side ended

  refused_cause : (new : D) (port : ℕ) (stop : Stop) → Says h.words (Pull port) → new ≡ h.disk_after
      → HasStandbyCause h.disks h.disk new stop → Tells h out (status_of stop)
  refused_cause new port (Stops.NotSpool at) says is cause = tells_no_journal at port says cause
  refused_cause new port Stops.Disk says is cause =
      tells_disk (subst (λ (d : D). Rose (h.disks.faults h.disk) (h.disks.faults d)) is cause)
  refused_cause new port Stops.Memory says is cause = tells_short
  refused_cause new port Stops.Usage says is cause = absurd cause
  refused_cause new port (Stops.Full size need) says is cause = absurd cause
  refused_cause new port Stops.Broken says is cause = absurd cause
  refused_cause new port (Stops.Diverged number) says is cause = absurd cause
  refused_cause new port (Stops.BadUnit at) says is cause = absurd cause

  module _ (kept : List (List ℕ)) (opened closed : Shown D) (s : IsStandby h.disks h.disk opened kept)
      (is : closed.disk ≡ h.disk_after) (begun link : L) where
    ended_cause : (got : List (List ℕ)) (rest put : List ℕ) (stop : Stop)
        → PullEnds h.disks h.links kept got rest put opened.disk closed.disk closed.size begun link (Err stop)
        → Talks h.links (record_units got ++ rest) put begun link
        → HasServed h.stations (record_units got ++ rest) put h.station h.station_after
        → ((◌≡◌ {A = Result Unit Stop} (Err stop) (Err Stops.Disk) → ⊥)
        → (bodies : List (List ℕ)) × IsUpTo kept got bodies × Holds h.disks closed bodies)
        → Tells h out (status_of stop)
    ended_cause got rest put stop (ends_more rest_is longer) talks served holds =
        tells_diverged (record {
          kept = kept;
          got = got;
          rest = rest;
          put = put;
          stands = s.stands;
          served = served;
          differs = differs_behind rest_is longer;
        })
    ended_cause got rest put stop (ends_differs body own rest_is stands other) talks served holds =
        tells_diverged (record {
          kept = kept;
          got = got;
          rest = rest;
          put = put;
          stands = s.stands;
          served = served;
          differs = differs_there body own rest_is stands other;
        })
    ended_cause got rest put stop (ends_bad bad) talks served holds =
        tells_bad (record {
          octets = record_units got;
          rest = rest;
          put = put;
          served = served;
          bad = not_unit (due.Record (length got)) bad;
        })
    ended_cause got rest put stop (ends_none body rest_is short none) talks served holds =
        tells_bad (record {
          octets = record_units got;
          rest = rest;
          put = put;
          served = served;
          bad = not_record body rest_is none;
        })
    ended_cause got rest put stop (ends_broken cut over) talks served holds =
        tells_broken (record {
          begun = begun;
          link = link;
          octets = record_units got ++ rest;
          put = put;
          talks = talks;
          served = served;
          over = over;
        })
    ended_cause got rest put stop (ends_unsaid none failed) talks served holds =
        tells_broken (record {
          begun = begun;
          link = link;
          octets = record_units got ++ rest;
          put = put;
          talks = talks;
          served = served;
          over = inl failed;
        })
    ended_cause got rest put stop (ends_full body need rest_is short one need_is over) talks served holds =
        let all = holds (λ e. cc) in
        let bodies_are : all.0 ≡ got = (up_behind kept got all.0 all.1 short).0 in
        tells_full closed.size (record {
          got = got;
          body = body;
          put = put;
          served = subst (λ (l : List ℕ). HasServed h.stations (record_units got ++ l) put h.station h.station_after)
              rest_is served;
          step = one;
          gate = closed.first;
          holds = λ f told g now.
              let here : h.disks.content closed.disk ≡ Some g = ap h.disks.content is ∙ now in
              subst (λ (l : List (List ℕ)). HasBodiesAt closed.first l g) bodies_are (all.2.file g here);
          size_is = all.2.size ∙ ap (λ (l : List (List ℕ)). closed.first + length (records l) + 1) bodies_are;
          over = omega (arith, over, need_is);
        })
    ended_cause got rest put stop (ends_failed body rest_is short one rose) talks served holds =
        tells_disk (subst (λ (d : D). Rose (h.disks.faults h.disk) (h.disks.faults d)) is
        (omega (arith, rose, s.later)))
    ended_cause got rest put stop ends_short talks served holds = tells_short

  follow_cause : (count port : ℕ) (stop : Stop) → Says h.words (Pull port) → Follow h count (Err stop)
      → Tells h out (status_of stop)
  follow_cause count port stop says (not_opened other none zero_is same) =
      refused_cause h.disk_after port stop says refl none.cause
  follow_cause count port stop says (followed kept opened closed ended s is (pull_no_link same zero_is none)) =
      tells_no_link none
  follow_cause count port stop says (followed kept opened closed ended s is (pull_over begun link result p served)) =
      ended_cause kept opened closed s is begun link p.got p.rest p.put stop p.ends p.talks served p.holds

  -- ---- why the other side ended

  spool_cause : (host : List ℕ) (port : ℕ) (stop : Stop) → Says h.words (AskPush host port)
      → HasSpoolCause h.disks h.disk h.disk_after stop → Tells h out (status_of stop)
  spool_cause host port (Stops.NotSpool at) says cause = tells_no_spool at host port says cause
  spool_cause host port (Stops.Full size need) says cause = tells_no_format size need host port says cause
  spool_cause host port Stops.Disk says cause = tells_disk cause
  spool_cause host port Stops.Memory says cause = tells_short
  spool_cause host port Stops.Usage says cause = absurd cause
  spool_cause host port Stops.Broken says cause = absurd cause
  spool_cause host port (Stops.Diverged number) says cause = absurd cause
  spool_cause host port (Stops.BadUnit at) says cause = absurd cause

  module _ (bodies : List (List ℕ)) (begun link : L) where
    push_over_it : (got put : List ℕ) → Talks h.links got put begun link
        → HasServed h.stations got put h.station h.station_after → IsOver h.links begun link → Tells h out 15
    push_over_it got put talks served over =
        tells_broken (record {
          begun = begun;
          link = link;
          octets = got;
          put = put;
          talks = talks;
          served = served;
          over = over;
        })

    pushed_cause : (count : ℕ) (rest piece : List ℕ) (stop : Stop)
        → PushEnds h.links bodies count rest piece begun link (Err stop)
        → Talks h.links (kept_units count ++ rest) (record_units (take count bodies) ++ piece) begun link
        → HasServed h.stations (kept_units count ++ rest) (record_units (take count bodies) ++ piece) h.station
        h.station_after → Tells h out (status_of stop)
    pushed_cause count rest piece stop (push_unput body stands none front failed) talks served =
        push_over_it (kept_units count ++ rest) (record_units (take count bodies) ++ piece) talks served (inl failed)
    pushed_cause count rest piece stop (push_undone all none front failed) talks served =
        push_over_it (kept_units count ++ rest) (record_units (take count bodies) ++ piece) talks served (inl failed)
    pushed_cause count rest piece stop (push_broken body stands piece_is cut over) talks served =
        push_over_it (kept_units count ++ rest) (record_units (take count bodies) ++ piece) talks served over
    pushed_cause count rest piece stop (push_bad body stands piece_is bad) talks served =
        tells_bad (record {
          octets = kept_units count;
          rest = rest;
          put = record_units (take count bodies) ++ piece;
          served = served;
          bad = not_unit (due.Kept (count + 1)) bad;
        })
    pushed_cause count rest piece stop push_short talks served = tells_short

  push_cause : (host : List ℕ) (port : ℕ) (stop : Stop) → Says h.words (AskPush host port) → Push h (Err stop)
      → Tells h out (status_of stop)
  push_cause host port stop says (not_pushed other none same) = spool_cause host port stop says none.cause
  push_cause host port stop says (was_pushed bodies result spool (push_no_link none)) = tells_no_link none
  push_cause host port stop says (was_pushed bodies result spool (push_over begun link r p served)) =
      pushed_cause bodies begun link p.count p.rest p.piece stop p.ends p.talks served

  -- ---- what a run tells

  module _ (laws : DiskLaws h.disks) (status : ℕ) where
    by_printed : (text : List ℕ) (good : ℕ) → HasPrinted text good out status → Tells h out good → Tells h out status
    by_printed text good (printed_whole is p) t = subst (Tells h out) (sym is) t
    by_printed text good (printed_cut is p) t = subst (Tells h out) (sym is) (tells_output p.0)

    cause : HasRun h out status → Tells h out status
    cause (run_unasked none same still printed) = by_printed (line_of Stops.Usage) 1 printed (tells_usage none)
    cause (run_pulled port count (Ok x) says came printed) = by_printed (kept_text count (Ok x)) 0 printed tells_all
    cause (run_pulled port count (Err stop) says came printed) =
        by_printed (kept_text count (Err stop)) (status_of stop) printed (follow_cause count port stop says came)
    cause (run_pushed host port (Ok count) says came printed) = by_printed (pushed_text (Ok count)) 0 printed tells_all
    cause (run_pushed host port (Err stop) says came printed) =
        by_printed (pushed_text (Err stop)) (status_of stop) printed (push_cause host port stop says came)

    -- the status of a stop is not 0, and 1 is that of other words
    no_stop : (stop : Stop) → status_of stop ≡ 0 → ⊥
    no_stop Stops.Usage e = omega (arith, e)
    no_stop (Stops.NotSpool at) e = omega (arith, e)
    no_stop Stops.Disk e = omega (arith, e)
    no_stop (Stops.Full size need) e = omega (arith, e)
    no_stop Stops.Memory e = omega (arith, e)
    no_stop Stops.Broken e = omega (arith, e)
    no_stop (Stops.Diverged number) e = omega (arith, e)
    no_stop (Stops.BadUnit at) e = omega (arith, e)

    only_usage : (stop : Stop) → status_of stop ≡ 1 → stop ≡ Stops.Usage
    only_usage Stops.Usage e = refl
    only_usage (Stops.NotSpool at) e = absurd (omega (arith, e))
    only_usage Stops.Disk e = absurd (omega (arith, e))
    only_usage (Stops.Full size need) e = absurd (omega (arith, e))
    only_usage Stops.Memory e = absurd (omega (arith, e))
    only_usage Stops.Broken e = absurd (omega (arith, e))
    only_usage (Stops.Diverged number) e = absurd (omega (arith, e))
    only_usage (Stops.BadUnit at) e = absurd (omega (arith, e))

    -- what was printed where the status is a stop's or 9
    is_good : (text : List ℕ) (good : ℕ) → HasPrinted text good out status → (status ≡ 9 → ⊥)
        → (status ≡ good) × Prints out text
    is_good text good (printed_whole is p) other = (is, p)
    is_good text good (printed_cut is p) other = absurd (other is)

    usage_only : HasRun h out status → status ≡ 1 → AskNothing h.words
    usage_only (run_unasked none same still printed) e = none
    usage_only (run_pulled port count (Ok x) says came printed) e =
        let g = is_good (kept_text count (Ok x)) 0 printed (λ nine. omega (arith, nine, e)) in
        absurd (omega (arith, g.0, e))
    usage_only (run_pulled port count (Err stop) says came printed) e =
        let g = is_good (kept_text count (Err stop)) (status_of stop) printed (λ nine. omega (arith, nine, e)) in
        absurd (no_usage count (subst (λ (x : Stop). Follow h count (Err x)) (only_usage stop (sym g.0 ∙ e)) came))
    usage_only (run_pushed host port (Ok count) says came printed) e =
        let g = is_good (pushed_text (Ok count)) 0 printed (λ nine. omega (arith, nine, e)) in
        absurd (omega (arith, g.0, e))
    usage_only (run_pushed host port (Err stop) says came printed) e =
        let g = is_good (pushed_text (Err stop)) (status_of stop) printed (λ nine. omega (arith, nine, e)) in
        absurd (no_usage_push (subst (λ (x : Stop). Push h (Err x)) (only_usage stop (sym g.0 ∙ e)) came))

    usage_where : HasRun h out status → AskNothing h.words → (status ≡ 1) ⊎ ((status ≡ 9) × OutputFailed out)
    usage_where (run_unasked none same still (printed_whole is p)) asks = inl is
    usage_where (run_unasked none same still (printed_cut is p)) asks = inr (is, p.0)
    usage_where (run_pulled port count ended says came printed) asks = absurd (asks (Pull port) says)
    usage_where (run_pushed host port result says came printed) asks = absurd (asks (AskPush host port) says)

    untouched : HasRun h out status → AskNothing h.words → (h.disk_after ≡ h.disk) × (h.station_after ≡ h.station)
    untouched (run_unasked none same still printed) asks = (same, still)
    untouched (run_pulled port count ended says came printed) asks = absurd (asks (Pull port) says)
    untouched (run_pushed host port result says came printed) asks = absurd (asks (AskPush host port) says)

    all_pulled : (count : ℕ) (ended : Result Unit Stop) → Follow h count ended
        → HasPrinted (kept_text count ended) (status_by ended) out status → status ≡ 0 → HoldsAll h out
    all_pulled count (Ok tt) came printed e =
        let g = is_good (kept_text {T = Unit} count (Ok tt)) 0 printed (λ nine. omega (arith, nine, e)) in
        holds_all count g.1 came
    all_pulled count (Err stop) came printed e =
        let g = is_good (kept_text {T = Unit} count (Err stop)) (status_of stop) printed
        (λ nine. omega (arith, nine, e))
        in absurd (no_stop stop (sym g.0 ∙ e))

    only_broken : (stop : Stop) → status_of stop ≡ 15 → stop ≡ Stops.Broken
    only_broken Stops.Broken e = refl
    only_broken Stops.Usage e = absurd (omega (arith, e))
    only_broken (Stops.NotSpool at) e = absurd (omega (arith, e))
    only_broken Stops.Disk e = absurd (omega (arith, e))
    only_broken (Stops.Full size need) e = absurd (omega (arith, e))
    only_broken Stops.Memory e = absurd (omega (arith, e))
    only_broken (Stops.Diverged number) e = absurd (omega (arith, e))
    only_broken (Stops.BadUnit at) e = absurd (omega (arith, e))

    early_over : (kept : List (List ℕ)) (opened closed : Shown D) → closed.disk ≡ h.disk_after → (count : ℕ)
        (begun link : L) → (p : Pulls h.disks h.links kept opened closed begun link count (Err Stops.Broken))
        → HasServed h.stations (record_units p.got ++ p.rest) p.put h.station h.station_after
        → PullEnds h.disks h.links kept p.got p.rest p.put opened.disk closed.disk closed.size begun link
        (Err Stops.Broken) → EndsEarly h
    early_over kept opened closed is count begun link p served (ends_broken cut (inl failed)) =
        early_failed begun link (record_units p.got ++ p.rest) p.put p.talks served failed
    early_over kept opened closed is count begun link p served (ends_broken cut (inr end)) =
        let all = p.holds (λ e. cc) in
        early_read begun link p.got p.rest p.put p.talks served end cut
        (λ f told g now. let here : h.disks.content closed.disk ≡ Some g = ap h.disks.content is ∙ now in
        first_at p.got all.0 closed.first g (up_front kept p.got all.0 all.1) (all.2.file g here))
    early_over kept opened closed is count begun link p served (ends_unsaid none failed) =
        early_failed begun link (record_units p.got ++ p.rest) p.put p.talks served failed

    early : (count : ℕ) → Follow h count (Err Stops.Broken) → EndsEarly h
    early count (not_opened stop none zero_is same) = absurd none.cause
    early count (followed kept opened closed ended s is (pull_no_link same zero_is none)) = early_no_link none
    early count (followed kept opened closed ended s is (pull_over begun link result p served)) =
        early_over kept opened closed is count begun link p served p.ends

    early_pulled : (count : ℕ) (ended : Result Unit Stop) → Follow h count ended
        → HasPrinted (kept_text count ended) (status_by ended) out status → status ≡ 15 → EndsEarly h
    early_pulled count (Ok tt) came printed e =
        let g = is_good (kept_text {T = Unit} count (Ok tt)) 0 printed (λ nine. omega (arith, nine, e)) in
        absurd (omega (arith, g.0, e))
    early_pulled count (Err stop) came printed e =
        let g = is_good (kept_text {T = Unit} count (Err stop)) (status_of stop) printed
        (λ nine. omega (arith, nine, e))
        in early count (subst (λ (x : Stop). Follow h count (Err x)) (only_broken stop (sym g.0 ∙ e)) came)

    other : (count : ℕ) (ended : Result Unit Stop) → Follow h count ended → (f : List ℕ)
        → h.disks.content h.disk ≡ Some f → ((kept : List (List ℕ)) → StandsFor f kept → ⊥)
        → h.disks.content h.disk_after ≡ Some f
    other count ended (not_opened stop none zero_is same) f told never = none.other f told never
    other count ended (followed kept opened closed result s is over) f told never =
        absurd (never kept (s.stands f told))

    pull : HasRun h out status → (port : ℕ) → Says h.words (Pull port) → TellsPull h out status
    pull (run_unasked none same still printed) port says = absurd (none (Pull port) says)
    pull (run_pulled named count ended says came printed) port asks = record {
      copy = λ f kept told stands. left h laws f kept count ended told stands came;
      history = λ f spool steps whole told stood is_whole front.
          left_front h laws f spool steps whole count ended told stood is_whole front came;
      all = all_pulled count ended came printed;
      early = early_pulled count ended came printed;
      other = other count ended came;
    }
    pull (run_pushed host other result says came printed) port asks =
        absurd (not_both h.words host other port says asks)

    all_pushed : (result : Result ℕ Stop) → Push h result
        → HasPrinted (pushed_text result) (status_by result) out status → status ≡ 0
        → WhereTold h.disks h.disk (λ f. PutsAll h out f)
    all_pushed (Ok count) came printed e =
        let g = is_good (pushed_text (Ok count)) 0 printed (λ nine. omega (arith, nine, e)) in puts_all count g.1 came
    all_pushed (Err stop) came printed e =
        let g = is_good (pushed_text (Err stop)) (status_of stop) printed (λ nine. omega (arith, nine, e)) in
        absurd (no_stop stop (sym g.0 ∙ e))

    left_by : (result : Result ℕ Stop) → Push h result → SpoolLeft h.disks h.disk h.disk_after
    left_by result (not_pushed stop none same) = none.left
    left_by result (was_pushed bodies r spool over) = spool.left

    push : HasRun h out status → (host : List ℕ) (port : ℕ) → Says h.words (AskPush host port) → TellsPush h out status
    push (run_unasked none same still printed) host port says = absurd (none (AskPush host port) says)
    push (run_pulled other count ended says came printed) host port asks =
        absurd (not_both h.words host port other asks says)
    push (run_pushed name other result says came printed) host port asks = record {
      left = left_by result came;
      all = all_pushed result came printed;
    }

    pub tells_it : HasRun h out status → TellsAll h out status
    tells_it ran = record {
      usage = record { usage = usage_only ran; usage_where = usage_where ran; untouched = untouched ran };
      pull = pull ran;
      push = push ran;
      cause = cause ran;
    }
