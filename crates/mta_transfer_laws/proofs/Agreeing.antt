-- Good session lists over a possible history make world runs, and so the ends agree.
use Rattle.std.proofs.Common.{ℕ, Bool, not, List, [], ◌∷◌, ◌++◌, map, sym, subst}
use Rattle.mta_world.specs.Steps.{IsWorldRun}
use Rattle.mta_world.specs.Agrees.{EndsAgree}
use Rattle.mta_transfer_laws.specs.Events.{after_all}
use Rattle.mta_transfer_rules.specs.Lanes.{Seen}
use Rattle.mta_transfer_laws.specs.Sessions.{SessionList, sending_list, receiving_list}
use Rattle.mta_transfer_laws.specs.Sendings as sending
use Rattle.mta_transfer_laws.specs.Receivings as receiving
use Rattle.mta_transfer_laws.specs.Run.{EachGood, SessionsAgree}
use Rattle.mta_transfer_laws.proofs.Running.{runs}
use Rattle.mta_transfer_laws.proofs.Schedule as out
use Rattle.mta_transfer_laws.proofs.Intake as into

module _ (spells : List ℕ → Bool) (history : List Seen) (lane size window : ℕ) (initiator : Bool) where
  sendings : (ls : List SessionList) → EachGood spells history lane size window initiator ls
      → sending.EachGood history lane size window (not initiator) (map (sending_list lane) ls)
  sendings [] g = tt
  sendings (l ∷ ls) g = (g.0.sending, sendings ls g.1)

  receivings : (ls : List SessionList) → EachGood spells history lane size window initiator ls
      → receiving.EachGood spells history lane (map (receiving_list lane) ls)
  receivings [] g = tt
  receivings (l ∷ ls) g = (g.0.receiving, receivings ls g.1)

pub agree : EndsAgree → SessionsAgree
agree law spells before added lane size window initiator ls possible good = record {
  sends = λ w events g.
      let gs : sending.EachGood (before ++ added) lane w.size w.window (not w.sender_opens)
      (map (sending_list lane) ls) =
      subst (λ (z : ℕ). sending.EachGood (before ++ added) lane z w.window (not w.sender_opens)
      (map (sending_list lane) ls)) (sym g.size_agreed)
      (subst (λ (z : ℕ). sending.EachGood (before ++ added) lane size z (not w.sender_opens)
      (map (sending_list lane) ls)) (sym g.window_agreed)
      (subst (λ (z : Bool). sending.EachGood (before ++ added) lane size window (not z) (map (sending_list lane) ls))
      (sym g.role)
      (sendings spells (before ++ added) lane size window initiator ls good))) in
      let run : IsWorldRun spells (after_all w events) =
      runs spells w events g.run g.fits
      (out.keep-rules spells before added lane (map (sending_list lane) ls) w events
      (record {
        begins = g.begins;
        order = g.order;
        fits = g.fits;
        other = g.other;
        good = gs;
        possible =
            possible;
      })) g.other in
      (run, law spells (after_all w events) run);
  receives = λ w events g.
      let run : IsWorldRun spells (after_all w events) =
      runs spells w events g.run g.fits g.other
      (into.keep-rules spells before added lane (map (receiving_list lane) ls) w events (record {
        begins = g.begins;
        order = g.order;
        fits = g.fits;
        other = g.other;
        good = receivings spells (before ++ added) lane size window initiator ls good;
        possible = possible;
      })) in
      (run, law spells (after_all w events) run);
}
