-- What a status tells, from what a run leaves.
use Rattle.std.proofs.Common.{◌≡◌, ℕ, List, Option, Some, None, Result, Ok, Err, refl, sym, ap, ◌∙◌, ◌⊎◌, inl, inr}
use Rattle.std.proofs.Common.{arith}
use Rattle.mta_edge.specs.Causes.{Rose}
use Rattle.mta_edge.specs.Views.{SourceView}
use Rattle.mta_tables.specs.Tables.{TablesValue}
use Rattle.mta_rehearse_run.specs.declared.asked.Asked.{Asked}
use Rattle.mta_rehearse_run.specs.declared.rehearsal.Rehearsal.{Rehearsal}
use Rattle.mta_rehearse_run.specs.declared.stop.Stop.{Stop}
use Rattle.mta_rehearse_run.specs.declared.stop.Stop.TheVariants as Stops
use Rattle.mta_rehearse_run.specs.declared.walked.WalkEnd.{WalkEnd}
use Rattle.mta_rehearse_run.specs.declared.walked.WalkEnd.TheVariants as Ends
use Rattle.mta_rehearse_run.specs.Agents.{agent_named}
use Rattle.mta_rehearse_run.specs.Network.{network_of, AreRead}
use Rattle.mta_output.specs.Output.{Output, OutputFailed, HasPrinted}
use Rattle.mta_output.specs.Output.{whole, cut, line, short, failed, short_failed}
use Rattle.mta_rehearse_run.specs.Output.{HasClosed, HasTold}
use Rattle.mta_rehearse_run.specs.Ran.{HasRun, CallsFor, IsOrFails, IsOfWalk, PrintsWalk, Tells, AllInOrder, IsComplete}
use Rattle.mta_rehearse_run.specs.Rehearsal.{IsRehearsed, Outcome, unasked, unread, answered}
use Rattle.mta_rehearse_run.specs.Rehearsal.{short as no_memory}
use Rattle.mta_rehearse_run.specs.Stops.{status_of as status_of_stop}
use Rattle.mta_rehearse_run.specs.WalkText.{status_of}
use Rattle.mta_rehearse_run.proofs.Called.{result_called}
use Rattle.mta_rehearse_run.proofs.Statuses.{same_ok, ok_bad, same_asked, not_asked, no_place, not_apart, twice_same}
use Rattle.mta_rehearse_run.proofs.Statuses.{named_same, read_in, shown_status, stopped_status, Stopped}

-- ---- the status that is wanted

printed_fails : (fails : Type 0) (text : List ℕ) (good : ℕ) (out : Output) (status wanted : ℕ)
    → HasPrinted text good out status → good ≡ wanted → IsOrFails wanted fails out status
printed_fails fails text good out status wanted (whole e p) h = inl (e ∙ h)
printed_fails fails text good out status wanted (cut e p) h = inr (inr (inr (e, p.0)))

line_fails : (fails : Type 0) (stop : Stop) (out : Output) (status wanted : ℕ) → status ≡ status_of_stop stop
    → Stopped fails wanted stop → IsOrFails wanted fails out status
line_fails fails stop out status wanted e (inl w) = inl (e ∙ sym w)
line_fails fails stop out status wanted e (inr (inl m)) = inr (inl (e ∙ ap status_of_stop m))
line_fails fails stop out status wanted e (inr (inr s)) = inr (inr (inl (e ∙ ap status_of_stop s.0, s.1)))

told_fails : (fails : Type 0) (stop : Stop) (out : Output) (status wanted : ℕ) → HasTold stop out status
    → Stopped fails wanted stop → IsOrFails wanted fails out status
told_fails fails stop out status wanted (line e p) h = line_fails fails stop out status wanted e h
told_fails fails stop out status wanted (short e p) h = inr (inl e)
told_fails fails stop out status wanted (failed e p) h = inr (inr (inr (e, p.0)))
told_fails fails stop out status wanted (short_failed e p) h = inr (inr (inr (e, p.0)))

closed_fails : (told : Option (List ℕ)) (fails : Type 0) (asked : Option Asked) (c : List ℕ) → told ≡ Some c
    → (out : Output) (status : ℕ) (result : Result Rehearsal Stop) → Outcome told fails asked result
    → HasClosed result out status → (wanted : ℕ) → CallsFor asked c wanted → IsOrFails wanted fails out status
closed_fails told fails asked c there out status (Ok r) o k wanted calls =
    printed_fails fails r.text r.status out status wanted k (shown_status told fails asked c there r o wanted calls)
closed_fails told fails asked c there out status (Err stop) o k wanted calls =
    told_fails fails stop out status wanted k (stopped_status told fails asked c there stop o wanted calls)

-- ---- the status of a walk

of_end : (status : ℕ) (end : WalkEnd) → status ≡ status_of end → IsOfWalk status
of_end status (Ends.Mailbox place) e = inl e
of_end status (Ends.List place) e = inl e
of_end status Ends.NoRoute e = inl e
of_end status (Ends.Unknown word) e = inr (inr e)
of_end status (Ends.Loop a) e = inr (inl e)

of_shown : (told : Option (List ℕ)) (fails : Type 0) (asked : Option Asked) (r : Rehearsal)
    → Outcome told fails asked (Ok r) → IsOfWalk r.status
of_shown told fails asked r (answered a xs result is read h) = of_end r.status h.shows.walk.end h.shows.status_is

pub other : (status n : ℕ) → IsOfWalk status → status ≡ n → (n ≡ 0 → ⊥) → (n ≡ 20 → ⊥) → (n ≡ 21 → ⊥) → ⊥
other status n (inl h) e a b c = a (sym e ∙ h)
other status n (inr (inl h)) e a b c = b (sym e ∙ h)
other status n (inr (inr h)) e a b c = c (sym e ∙ h)

-- ---- what a status tells by itself

module _ (told : Option (List ℕ)) (fails : Type 0) (asked : Option Asked) (out : Output) (status : ℕ) where
  stop_usage : (stop : Stop) → status_of_stop stop ≡ 1 → Outcome told fails asked (Err stop) → asked ≡ None
  stop_usage Stops.Usage e (unasked h) = h
  stop_usage Stops.Usage e (unread a stop is h) = absurd h
  stop_usage Stops.Usage e (answered a xs result is read h) = absurd h
  stop_usage (Stops.Tables n kind) e o = absurd (omega (arith, e))
  stop_usage Stops.Memory e o = absurd (omega (arith, e))
  stop_usage Stops.Source e o = absurd (omega (arith, e))
  stop_usage (Stops.Twice n) e o = absurd (omega (arith, e))
  stop_usage (Stops.NoAgent name) e o = absurd (omega (arith, e))

  stop_source : (stop : Stop) → status_of_stop stop ≡ 8 → Outcome told fails asked (Err stop) → fails
  stop_source Stops.Usage e o = absurd (omega (arith, e))
  stop_source (Stops.Tables n kind) e o = absurd (omega (arith, e))
  stop_source Stops.Memory e o = absurd (omega (arith, e))
  stop_source Stops.Source e (unread a stop is h) = h
  stop_source Stops.Source e (answered a xs result is read h) = absurd h
  stop_source (Stops.Twice n) e o = absurd (omega (arith, e))
  stop_source (Stops.NoAgent name) e o = absurd (omega (arith, e))

  stop_sink : (stop : Stop) → status_of_stop stop ≡ 9 → ⊥
  stop_sink Stops.Usage e = omega (arith, e)
  stop_sink (Stops.Tables n kind) e = omega (arith, e)
  stop_sink Stops.Memory e = omega (arith, e)
  stop_sink Stops.Source e = omega (arith, e)
  stop_sink (Stops.Twice n) e = omega (arith, e)
  stop_sink (Stops.NoAgent name) e = omega (arith, e)

  is_usage : (result : Result Rehearsal Stop) → Outcome told fails asked result → HasClosed result out status
      → status ≡ 1 → asked ≡ None
  is_usage (Ok r) o (whole e p) n =
      absurd (other r.status 1 (of_shown told fails asked r o) (sym e ∙ n)
      (λ h. omega (arith, h)) (λ h. omega (arith, h)) (λ h. omega (arith, h)))
  is_usage (Ok r) o (cut e p) n = absurd (omega (arith, e, n))
  is_usage (Err stop) o (line e p) n = stop_usage stop (sym e ∙ n) o
  is_usage (Err stop) o (short e p) n = absurd (omega (arith, e, n))
  is_usage (Err stop) o (failed e p) n = absurd (omega (arith, e, n))
  is_usage (Err stop) o (short_failed e p) n = absurd (omega (arith, e, n))

  is_source : (result : Result Rehearsal Stop) → Outcome told fails asked result → HasClosed result out status
      → status ≡ 8 → fails
  is_source (Ok r) o (whole e p) n =
      absurd (other r.status 8 (of_shown told fails asked r o) (sym e ∙ n)
      (λ h. omega (arith, h)) (λ h. omega (arith, h)) (λ h. omega (arith, h)))
  is_source (Ok r) o (cut e p) n = absurd (omega (arith, e, n))
  is_source (Err stop) o (line e p) n = stop_source stop (sym e ∙ n) o
  is_source (Err stop) o (short e p) n = absurd (omega (arith, e, n))
  is_source (Err stop) o (failed e p) n = absurd (omega (arith, e, n))
  is_source (Err stop) o (short_failed e p) n = absurd (omega (arith, e, n))

  is_sink : (result : Result Rehearsal Stop) → Outcome told fails asked result → HasClosed result out status
      → status ≡ 9 → OutputFailed out
  is_sink (Ok r) o (whole e p) n =
      absurd (other r.status 9 (of_shown told fails asked r o) (sym e ∙ n)
      (λ h. omega (arith, h)) (λ h. omega (arith, h)) (λ h. omega (arith, h)))
  is_sink (Ok r) o (cut e p) n = p.0
  is_sink (Err stop) o (line e p) n = absurd (stop_sink stop (sym e ∙ n))
  is_sink (Err stop) o (short e p) n = absurd (omega (arith, e, n))
  is_sink (Err stop) o (failed e p) n = p.0
  is_sink (Err stop) o (short_failed e p) n = p.0

  abbrev UsageOrFails : Type 0
  UsageOrFails = (status ≡ 1) ⊎ (status ≡ 7) ⊎ ((status ≡ 9) × OutputFailed out)

  stop_unasked : (stop : Stop) → (stop ≡ Stops.Usage) ⊎ (stop ≡ Stops.Memory) → HasTold stop out status → UsageOrFails
  stop_unasked stop (inl u) (line e p) = inl (e ∙ ap status_of_stop u)
  stop_unasked stop (inr m) (line e p) = inr (inl (e ∙ ap status_of_stop m))
  stop_unasked stop h (short e p) = inr (inl e)
  stop_unasked stop h (failed e p) = inr (inr (e, p.0))
  stop_unasked stop h (short_failed e p) = inr (inr (e, p.0))

  where_unasked : (result : Result Rehearsal Stop) → Outcome told fails asked result → HasClosed result out status
      → asked ≡ None → UsageOrFails
  where_unasked result (unasked e) k none = stop_unasked Stops.Usage (inl refl) k
  where_unasked result (unread a stop is h) k none = absurd (not_asked a asked is none)
  where_unasked result (answered a xs other is read h) k none = absurd (not_asked a asked is none)
  where_unasked result no_memory k none = stop_unasked Stops.Memory (inr refl) k

  -- ---- the text of a walk, and the status for which the words and the texts call

  off_walk : (stop : Stop) → IsOfWalk status → status ≡ status_of_stop stop → ⊥
  off_walk Stops.Usage k e = other status 1 k e (λ h. omega (arith, h)) (λ h. omega (arith, h)) (λ h. omega (arith, h))
  off_walk (Stops.Tables n kind) k e =
      other status 2 k e (λ h. omega (arith, h)) (λ h. omega (arith, h)) (λ h. omega (arith, h))
  off_walk Stops.Memory k e = other status 7 k e (λ h. omega (arith, h)) (λ h. omega (arith, h)) (λ h. omega (arith, h))
  off_walk Stops.Source k e = other status 8 k e (λ h. omega (arith, h)) (λ h. omega (arith, h)) (λ h. omega (arith, h))
  off_walk (Stops.Twice n) k e =
      other status 19 k e (λ h. omega (arith, h)) (λ h. omega (arith, h)) (λ h. omega (arith, h))
  off_walk (Stops.NoAgent name) k e =
      other status 10 k e (λ h. omega (arith, h)) (λ h. omega (arith, h)) (λ h. omega (arith, h))

  failed_walk : IsOfWalk status → status ≡ 9 → ⊥
  failed_walk k e = other status 9 k e (λ h. omega (arith, h)) (λ h. omega (arith, h)) (λ h. omega (arith, h))

  is_walk : (result : Result Rehearsal Stop) → Outcome told fails asked result → HasClosed result out status
      → IsOfWalk status → PrintsWalk told asked out status
  is_walk (Ok r) (answered a xs result is read h) (whole e p) k = record {
    a = a;
    asked_is = is;
    agents = xs;
    read = read;
    rehearsal = r;
    shown = h;
    printed = p;
    status_is = e;
  }
  is_walk (Ok r) o (cut e p) k = absurd (failed_walk k e)
  is_walk (Err stop) o (line e p) k = absurd (off_walk stop k e)
  is_walk (Err stop) o (short e p) k = absurd (off_walk Stops.Memory k e)
  is_walk (Err stop) o (failed e p) k = absurd (failed_walk k e)
  is_walk (Err stop) o (short_failed e p) k = absurd (failed_walk k e)

-- ---- the clauses

pub run_tells : {I : Type 0} (sources : SourceView I) (asked : Option Asked) (conf conf_after : I) (out : Output)
    (status : ℕ) → HasRun sources asked conf conf_after out status → Tells sources asked conf conf_after out status
run_tells sources asked conf conf_after out status h =
    let told = sources.left conf in
    let fails = Rose (sources.faults conf) (sources.faults conf_after) in
    record {
      exact = λ c wanted there calls.
          closed_fails told fails asked c there out status h.result h.outcome h.closed wanted calls;
      only = λ c there. result_called told fails asked c there out status h.result h.outcome h.closed;
      walked = is_walk told fails asked out status h.result h.outcome h.closed;
      usage = is_usage told fails asked out status h.result h.outcome h.closed;
      usage_where = where_unasked told fails asked out status h.result h.outcome h.closed;
      source = is_source told fails asked out status h.result h.outcome h.closed;
      sink = is_sink told fails asked out status h.result h.outcome h.closed;
    }

-- ---- all in order

of_walk_or : (status : ℕ) → IsOfWalk status → (status ≡ 0) ⊎ (status ≡ 20) ⊎ (status ≡ 21) ⊎ (status ≡ 7)
of_walk_or status (inl h) = inl h
of_walk_or status (inr (inl h)) = inr (inl h)
of_walk_or status (inr (inr h)) = inr (inr (inl h))

module _ {I : Type 0} (sources : SourceView I) (asked : Option Asked) (conf conf_after : I) (out : Output) (status : ℕ)
    (h : AllInOrder sources asked conf conf_after out) where
  abbrev fails : Type 0
  fails = Rose (sources.faults conf) (sources.faults conf_after)

  unread_only : (stop : Stop) → AreRead (sources.left conf) fails (Err stop) → stop ≡ Stops.Memory
  unread_only Stops.Usage k = absurd k
  unread_only (Stops.Tables n kind) k = absurd (ok_bad h.agents n kind (network_of h.octets) h.read (k h.octets h.told))
  unread_only Stops.Memory k = refl
  unread_only Stops.Source k = absurd (h.calm_source k)
  unread_only (Stops.Twice n) k = absurd k
  unread_only (Stops.NoAgent name) k = absurd k

  answered_only : (a : Asked) (xs : List TablesValue) (stop : Stop) → asked ≡ Some a → network_of h.octets ≡ Ok xs
      → IsRehearsed xs a (Err stop) → stop ≡ Stops.Memory
  answered_only a xs Stops.Usage is read k = absurd k
  answered_only a xs (Stops.Tables n kind) is read k = absurd k
  answered_only a xs Stops.Memory is read k = refl
  answered_only a xs Stops.Source is read k = absurd k
  answered_only a xs (Stops.Twice n) is read k =
      absurd (not_apart h.agents n h.apart
      (twice_same h.agents xs n (same_ok xs h.agents (network_of h.octets) read h.read) k))
  answered_only a xs (Stops.NoAgent name) is read k =
      absurd (no_place h.start (agent_named h.agents h.a.agent) h.named
      (named_same h.agents xs h.a a None (same_ok xs h.agents (network_of h.octets) read h.read)
      (same_asked a h.a asked is h.asked_is) k.none))

  memory_only : (stop : Stop) → Outcome (sources.left conf) fails asked (Err stop) → stop ≡ Stops.Memory
  memory_only stop (unasked e) = absurd (not_asked h.a asked h.asked_is e)
  memory_only stop (unread a other is k) = unread_only other k
  memory_only stop (answered a xs result is read k) =
      answered_only a xs stop is (read_in (sources.left conf) fails asked h.octets h.told xs read) k
  memory_only stop no_memory = refl

  in_order : (result : Result Rehearsal Stop) → Outcome (sources.left conf) fails asked result
      → HasClosed result out status → (status ≡ 0) ⊎ (status ≡ 20) ⊎ (status ≡ 21) ⊎ (status ≡ 7)
  in_order (Ok r) o (cut e p) = absurd (h.calm_output p.0)
  in_order (Ok r) o (whole e p) = of_walk_or status (of_same (of_shown (sources.left conf) fails asked r o))
    where
      of_same : IsOfWalk r.status → IsOfWalk status
      of_same (inl k) = inl (e ∙ k)
      of_same (inr (inl k)) = inr (inl (e ∙ k))
      of_same (inr (inr k)) = inr (inr (e ∙ k))
  in_order (Err stop) o (line e p) = inr (inr (inr (e ∙ ap status_of_stop (memory_only stop o))))
  in_order (Err stop) o (short e p) = inr (inr (inr e))
  in_order (Err stop) o (failed e p) = absurd (h.calm_output p.0)
  in_order (Err stop) o (short_failed e p) = absurd (h.calm_output p.0)

pub run_complete : {I : Type 0} (sources : SourceView I) (asked : Option Asked) (conf conf_after : I) (out : Output)
    (status : ℕ) → HasRun sources asked conf conf_after out status
    → IsComplete sources asked conf conf_after out status
run_complete sources asked conf conf_after out status r h =
    in_order sources asked conf conf_after out status h r.result r.outcome r.closed
