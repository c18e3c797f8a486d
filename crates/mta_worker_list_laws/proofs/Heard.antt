-- What a session knows behind a turn of the lock, and that it may be told each reply in it.
use Rattle.std.proofs.Common.{◌≡◌, ℕ, Bool, true, false, List, [], ◌∷◌, ◌++◌, Option, inr, refl, sym}
use Rattle.std.proofs.Common.{subst}
use mathlib.Core.List.{IsPrefix}
use Rattle.mta_edge.specs.Views.{ClockView, DiskView}
use Rattle.mta_records.specs.declared.step.Step.{Step}
use Rattle.mta_histories.specs.History.{after, IsHistory}
use Rattle.mta_histories.specs.Kept.{IsKept}
use Rattle.mta_histories.specs.Lanes.{State}
use Rattle.mta_histories.proofs.Keeps.{histories_keep}
use Rattle.mta_session.specs.Fits.{Answers}
use Rattle.mta_session.specs.State.{State as Session}
use Rattle.mta_session.specs.declared.ask.Ask.{Ask}
use Rattle.mta_session.specs.declared.ask.Ask.TheVariants as ask
use Rattle.mta_session.specs.declared.ask.Reply.{Reply}
use Rattle.mta_session.specs.declared.event.Action.{Action}
use Rattle.mta_session.specs.declared.event.Action.TheVariants as action
use Rattle.mta_session.specs.declared.event.Event.TheVariants as event
use Rattle.mta_session_laws.specs.Runs.{IsTurn, Turn}
use Rattle.mta_session_list_laws.specs.Calls.{step_told}
use Rattle.mta_session_list_laws.proofs.Waiting.{does_at, going}
use Rattle.mta_spool.specs.Shown.{Shown}
use Rattle.mta_stations.specs.declared.end.Halt.{Halt}
use Rattle.mta_worker.specs.Answers.{Answered}
use Rattle.mta_worker.specs.Turns.{HasAnswered, IsLook, Looks, Replied, StartsElsewhere, told_reply}
use Rattle.mta_worker_list_laws.specs.Histories.{TellsApdus}
use Rattle.mta_worker_list_laws.proofs.Calm.{is_looking}
use Rattle.mta_worker_list_laws.proofs.Known.{Knows}
use Rattle.mta_worker_list_laws.proofs.Knowing.{look_answers, told_knows}
use Rattle.mta_worker_list_laws.proofs.Making.{WasPossible}
use Rattle.mta_worker_list_laws.proofs.Suiting.{replied_fits, replied_suits, suits_answers}
use Rattle.mta_worker_list_laws.proofs.Telling.{reply_made}
use Rattle.mta_worker_list_laws.proofs.Turns.{history_then, reply_stands, Stands, stands_before, was_possible}
use Rattle.mta_worker_list_laws.proofs.Waits.{Waits, waits_next}

module _ {D C : Type 0} (disks : DiskView D) (clocks : ClockView C) where
  -- ---- one reply

  may_be_told : (q : Ask) (t : Session) (x : Reply) (old new : Shown D C) → Waits (action.Ask q) t
      → Knows t old.current → IsKept old.current → IsKept new.current → WasPossible old new
      → Replied disks clocks q t old x new → Answers t (event.Reply x)
  may_be_told q t x old new w k kept kept_then may r = by_look (is_looking t.phase) refl
    where
      by_look : (b : Bool) → is_looking t.phase ≡ b → Answers t (event.Reply x)
      by_look true e = look_answers disks clocks t.phase t q x old new w.asked k kept r e
      by_look false e =
          suits_answers t.phase t q x w.waits e w.asked (replied_suits disks clocks q t old x new r)
          (replied_fits disks clocks t.phase t q old new x w.asked r may kept_then)

  look_begins : (q : Ask) (t : Session) (s : Shown D C) → IsLook q → StartsElsewhere q t s → ⊥
  look_begins (ask.Start lane g batch) t s i e = i
  look_begins q t s i e = e

  -- a look is replied what the spool answers
  look_replied : (q : Ask) (t : Session) (s : Shown D C) (x : Reply) → IsLook q → Answered disks clocks q s x s
      → Replied disks clocks q t s x s
  look_replied q t s x i a = inr (look_begins q t s i, a)

  -- a session that waits for what comes of this, and knows its lane
  pub record Minds (a : Action) (t : Session) (s : State) : Type 0 where
    pub waits : Waits a t
    pub knows : Knows t s

  module _ (spells : List ℕ → Bool) (tells : TellsApdus spells) (first entries : List Step)
      (possible : IsHistory (first ++ entries)) where
    abbrev Stood : Shown D C → Type 0
    Stood s = Stands disks clocks spells tells first entries possible s

    kept_at : (s : Shown D C) → Stood s → IsKept s.current
    kept_at s st =
        subst IsKept (sym st.state)
        (histories_keep (first ++ s.entries)
        (history_then disks clocks spells tells first entries possible s st.front))

    possible_at : (old new : Shown D C) → old.current ≡ after (first ++ old.entries) → IsPrefix new.entries entries
        → WasPossible old new
    possible_at old new state f = was_possible disks clocks spells tells first entries possible old new state f

    stood_before : (q : Ask) (t : Session) (x : Reply) (old new : Shown D C)
        → old.current ≡ after (first ++ old.entries) → IsPrefix new.entries entries
        → Replied disks clocks q t old x new → Stood old
    stood_before q t x old new state f r =
        stands_before disks clocks spells tells first entries possible (step_told q x) old new
        (reply_made disks clocks q t old x new (possible_at old new state f) r) state f

    -- Each reply to its question may be told.
    pub reply_answers : (q : Ask) (t : Session) (x : Reply) (old new : Shown D C)
        → old.current ≡ after (first ++ old.entries) → IsPrefix new.entries entries
        → Minds (action.Ask q) t old.current → Replied disks clocks q t old x new → Answers t (event.Reply x)
    reply_answers q t x old new state f m r =
        may_be_told q t x old new m.waits m.knows (kept_at old (stood_before q t x old new state f r))
        (kept_at new (reply_stands disks clocks spells tells first entries possible q t x old new state f r))
        (possible_at old new state f) r

    pub look_answered : (q : Ask) (t : Session) (x : Reply) (s : Shown D C) → Stood s
        → Minds (action.Ask q) t s.current → IsLook q → Answered disks clocks q s x s → Answers t (event.Reply x)
    look_answered q t x s st m i a =
        reply_answers q t x s s st.state st.front m (look_replied q t s x i a)

    -- behind one that was told
    pub reply_minds : (q : Ask) (t : Session) (x : Reply) (a : Action) (u : Session) (old new : Shown D C)
        → old.current ≡ after (first ++ old.entries) → IsPrefix new.entries entries
        → Minds (action.Ask q) t old.current → Replied disks clocks q t old x new → IsTurn (told_reply t x a u)
        → Minds a u new.current
    reply_minds q t x a u old new state f m r turn = record {
      waits = waits_next (told_reply t x a u) turn m.waits.due;
      knows =
          told_knows disks clocks t.phase t q x a u old new m.waits.asked m.knows
          (kept_at old (stood_before q t x old new state f r)) (possible_at old new state f) r
          (does_at (told_reply t x a u) (event.Reply x) refl turn (going (action.Ask q) t.phase refl m.waits.waits));
    }

    -- behind looks
    pub looks_mind : (xs : List Turn) (s : Shown D C) (t : Session) (a : Action) (u : Session) (b : Action) → Stood s
        → Minds a t s.current → Looks disks clocks s t a xs u b → Minds b u s.current
    looks_mind [] s t a u b st m l =
        subst (λ (c : Action). Minds c u s.current) (sym l.1)
        (subst (λ (v : Session). Minds a v s.current) (sym l.0) m)
    looks_mind (x ∷ xs) s t a u b st m l =
        let q : Ask = l.1.0 in
        let here : Minds a x.before s.current = subst (λ (v : Session). Minds a v s.current) (sym l.0) m in
        let asks : Minds (action.Ask q) x.before s.current =
        subst (λ (c : Action). Minds c x.before s.current) l.1.2 here in
        let next : Minds x.action x.after s.current = record {
          waits = waits_next x l.2 here.waits.due;
          knows =
              told_knows disks clocks x.before.phase x.before q l.1.1 x.action x.after s s asks.waits.asked asks.knows
              (kept_at s st) (possible_at s s st.state st.front) (look_replied q x.before s l.1.1 l.1.4 l.1.5)
              (does_at x (event.Reply l.1.1) l.1.3 l.2
              (going (action.Ask q) x.before.phase refl asks.waits.waits));
        } in
        looks_mind xs s x.after x.action u b st next l.3

    -- behind all of a turn
    pub turn_minds : (q : Ask) (t : Session) (halt : Option Halt) (old new : Shown D C) (u : Session) (b : Action)
        (halt' : Option Halt) → old.current ≡ after (first ++ old.entries) → IsPrefix new.entries entries
        → Minds (action.Ask q) t old.current → HasAnswered disks clocks q old t halt new u b halt'
        → Minds b u new.current
    turn_minds q t halt old new u b halt' state f m h =
        looks_mind h.looked.turns new h.heard h.wanted u b
        (reply_stands disks clocks spells tells first entries possible q t h.answer old new state f h.replied)
        (reply_minds q t h.answer h.wanted h.heard old new state f m h.replied h.told) h.looked.looks
