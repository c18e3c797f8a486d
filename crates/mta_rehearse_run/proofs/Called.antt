-- The status that is answered is the one for which the words and the texts call, but for what fails.
use Rattle.std.proofs.Common.{◌≡◌, ℕ, List, Option, Some, Result, Ok, Err, sym, subst, ◌∙◌, inl, inr}
use Rattle.mta_tables.specs.Tables.{TablesValue}
use Rattle.mta_rehearse_run.specs.declared.asked.Asked.{Asked}
use Rattle.mta_rehearse_run.specs.declared.rehearsal.Rehearsal.{Rehearsal}
use Rattle.mta_rehearse_run.specs.declared.stop.Stop.{Stop}
use Rattle.mta_rehearse_run.specs.declared.stop.Stop.TheVariants as Stops
use Rattle.mta_rehearse_run.specs.Network.{AreTablesIn, AreRead}
use Rattle.mta_output.specs.Output.{Output, whole, cut, line, short, failed, short_failed}
use Rattle.mta_rehearse_run.specs.Output.{HasClosed}
use Rattle.mta_rehearse_run.specs.Ran.{CallsFor, usage, bad_line, twice, no_agent, walked, IsCalledForOrFails}
use Rattle.mta_rehearse_run.specs.Rehearsal.{ShowsAsked, IsRehearsed, Outcome, unasked, unread, answered}
use Rattle.mta_rehearse_run.specs.Rehearsal.{short as no_memory}
use Rattle.mta_rehearse_run.specs.Stops.{status_of as status_of_stop}
use Rattle.mta_rehearse_run.proofs.Statuses.{read_in}

module _ (told : Option (List ℕ)) (fails : Type 0) (asked : Option Asked) (c : List ℕ) (there : told ≡ Some c)
    (out : Output) (status : ℕ) where
  abbrev Called : Type 0
  Called = IsCalledForOrFails asked c fails out status

  for_it : (n : ℕ) → status ≡ n → CallsFor asked c n → Called
  for_it n e h = inl (subst (CallsFor asked c) (sym e) h)

  shown : (r : Rehearsal) (a : Asked) (xs : List TablesValue) → asked ≡ Some a → ShowsAsked xs a r
      → AreTablesIn told xs → status ≡ r.status → Called
  shown r a xs is h read e =
      inl (subst (CallsFor asked c) (sym (e ∙ h.shows.status_is))
      (walked a xs h.start h.shows.walk is (read_in told fails asked c there xs read) h.apart h.named h.shows.walked))

  not_read : (a : Asked) (stop : Stop) → asked ≡ Some a → AreRead told fails (Err stop)
      → status ≡ status_of_stop stop → Called
  not_read a Stops.Usage is h e = absurd h
  not_read a (Stops.Tables n kind) is h e = for_it 2 e (bad_line a n kind is (h c there))
  not_read a Stops.Memory is h e = inr (inl e)
  not_read a Stops.Source is h e = inr (inr (inl (e, h)))
  not_read a (Stops.Twice n) is h e = absurd h
  not_read a (Stops.NoAgent name) is h e = absurd h

  not_shown : (a : Asked) (xs : List TablesValue) (stop : Stop) → asked ≡ Some a → AreTablesIn told xs
      → IsRehearsed xs a (Err stop) → status ≡ status_of_stop stop → Called
  not_shown a xs Stops.Usage is read h e = absurd h
  not_shown a xs (Stops.Tables n kind) is read h e = absurd h
  not_shown a xs Stops.Memory is read h e = inr (inl e)
  not_shown a xs Stops.Source is read h e = absurd h
  not_shown a xs (Stops.Twice n) is read h e =
      for_it 19 e (twice a xs n is (read_in told fails asked c there xs read) h)
  not_shown a xs (Stops.NoAgent name) is read h e =
      for_it 10 e (no_agent a xs is (read_in told fails asked c there xs read) h.apart h.none)

  stopped : (stop : Stop) → Outcome told fails asked (Err stop) → status ≡ status_of_stop stop → Called
  stopped stop (unasked h) e = for_it 1 e (usage h)
  stopped stop (unread a other is h) e = not_read a other is h e
  stopped stop (answered a xs result is read h) e = not_shown a xs stop is read h e
  stopped stop no_memory e = inr (inl e)

  pub result_called : (result : Result Rehearsal Stop) → Outcome told fails asked result
      → HasClosed result out status → Called
  result_called (Ok r) (answered a xs result is read h) (whole e p) = shown r a xs is h read e
  result_called (Ok r) o (cut e p) = inr (inr (inr (e, p.0)))
  result_called (Err stop) o (line e p) = stopped stop o e
  result_called (Err stop) o (short e p) = inr (inl e)
  result_called (Err stop) o (failed e p) = inr (inr (inr (e, p.0)))
  result_called (Err stop) o (short_failed e p) = inr (inr (inr (e, p.0)))
