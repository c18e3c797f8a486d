-- What comes of the words and of the texts.
use Rattle.std.proofs.Common.{◌≡◌, ℕ, List, Option, Some, None, Result, Ok, Err, refl, arith}
use Rattle.mta_edge.specs.Outside.{Goes}
use Rattle.mta_edge.specs.Streams.{LeavesBut}
use Rattle.mta_edge.specs.Views.{SourceView}
use Rattle.mta_tables.specs.Tables.{TablesValue}
use Rattle.mta_rehearse_run.specs.declared.asked.Asked.{Asked}
use Rattle.mta_rehearse_run.specs.declared.rehearsal.Rehearsal.{Rehearsal}
use Rattle.mta_rehearse_run.specs.declared.stop.Stop.{Stop}
use Rattle.mta_rehearse_run.specs.declared.stop.Stop.TheVariants as Stops
use Rattle.mta_rehearse_run.specs.Asked.{IsReadAs}
use Rattle.mta_rehearse_run.specs.Network.{HasNetwork}
use Rattle.mta_rehearse_run.specs.Rehearsal.{IsRehearsed, Outcome, unasked, unread, answered, short, HasRehearsed}

not_asked : (a : Asked) (asked : Option Asked) → asked ≡ Some a → asked ≡ None → ⊥
not_asked a asked e f = absurd cc

none_taken : (most : ℕ) (left : Option (List ℕ)) → Goes (LeavesBut most) left left
none_taken most left = record {
  each = λ f e. (f, e, (0, omega arith, refl));
  back = λ g e. (g, e, (0, omega arith, refl));
}

unasked_outcome : (told : Option (List ℕ)) (failed : Type 0) (asked : Option Asked) (stop : Stop)
    → IsReadAs asked (Err stop) → Outcome told failed asked (Err stop)
unasked_outcome told failed asked Stops.Usage h = unasked h
unasked_outcome told failed asked (Stops.Tables line kind) h = absurd h
unasked_outcome told failed asked Stops.Memory h = short
unasked_outcome told failed asked Stops.Source h = absurd h
unasked_outcome told failed asked (Stops.Twice number) h = absurd h
unasked_outcome told failed asked (Stops.NoAgent name) h = absurd h

module _ {I : Type 0} (sources : SourceView I) (asked : Option Asked) where
  -- the words ask nothing, and the source is as it was
  pub has_not_asked : (conf : I) (stop : Stop) → IsReadAs asked (Err stop)
      → HasRehearsed sources asked conf conf (Err stop)
  has_not_asked conf stop h = record {
    drawn = record { later = omega arith; most = none_taken 1048577 (sources.left conf) };
    untouched = λ e. refl;
    outcome = unasked_outcome (sources.left conf) _ asked stop h;
  }

  -- the texts are not read
  pub has_not_read : (a : Asked) (old new : I) (stop : Stop) → asked ≡ Some a
      → HasNetwork sources old new (Err stop) → HasRehearsed sources asked old new (Err stop)
  has_not_read a old new stop is h = record {
    drawn = h.drawn;
    untouched = λ e. absurd (not_asked a asked is e);
    outcome = unread a stop is h.read;
  }

  -- they are
  pub has_answered : (a : Asked) (agents : List TablesValue) (old new : I) (result : Result Rehearsal Stop)
      → asked ≡ Some a → HasNetwork sources old new (Ok agents) → IsRehearsed agents a result
      → HasRehearsed sources asked old new result
  has_answered a agents old new result is h k = record {
    drawn = h.drawn;
    untouched = λ e. absurd (not_asked a asked is e);
    outcome = answered a agents result is h.read k;
  }
