-- At the end of a session: what is wanted says nothing of a transfer, and the last step is asked for once.
use Rattle.std.proofs.Common.{◌≡◌, ℕ, ◌==◌, if◌then◌else◌, Bool, true, false, Result, Ok, Err, []}
use Rattle.std.proofs.Common.{refl, sym, ap, subst, ◌∙◌}
use Rattle.mta_units.specs.declared.unit.Unit.{Unit as AnyUnit}
use Rattle.mta_transfer_rules.specs.Lanes.{Halves}
use Rattle.mta_transfer_rules.specs.Sending as s
use Rattle.mta_transfer_rules.specs.Sending.{SendEnd, SendEvent}
use Rattle.mta_records.specs.declared.fault.StepFault.{StepFault}
use Rattle.mta_session.specs.declared.ask.Ask.{Ask}
use Rattle.mta_session.specs.declared.ask.Ask.TheVariants as ask
use Rattle.mta_session.specs.declared.ask.Reply.{Reply}
use Rattle.mta_session.specs.declared.ask.Reply.TheVariants as reply
use Rattle.mta_session.specs.declared.event.Action.{Action}
use Rattle.mta_session.specs.declared.event.Action.TheVariants as action
use Rattle.mta_session.specs.declared.event.Event.{Event}
use Rattle.mta_session.specs.declared.event.Event.TheVariants as event
use Rattle.mta_session.specs.declared.event.Side.{Side}
use Rattle.mta_session.specs.declared.event.Side.TheVariants as side
use Rattle.mta_session.specs.declared.phase.Phase.{Phase}
use Rattle.mta_session.specs.declared.phase.Phase.TheVariants as phase
use Rattle.mta_session.specs.State.{State}
use Rattle.mta_session.specs.Rank.{is_over}
use Rattle.mta_session.specs.Wanted.{Wanted, Aborts, Rejects, Ends, Puts, Asks, Reads, Goes_on, Excepts, Never}
use Rattle.mta_session.specs.Wanted.{on_denied, closed, on_closed, wanted_of_go, wanted_of_unit}
use Rattle.mta_session.specs.Wanted.{wanted_of_reply, wanted_of_over}
use Rattle.mta_session.specs.Follows.{Does, counted}
use Rattle.mta_session_laws.specs.Turning.{is_last_phase}
use Rattle.mta_session_laws.specs.Runs.{Turn, IsTurn}
use Rattle.mta_session_laws.proofs.Opening.{wanted_in}
use Rattle.mta_session_laws.proofs.Whole.{is_ended}
use Rattle.mta_transfer_laws.specs.Sessions.{transfer_unit, puts_of}
use Rattle.mta_session_list_laws.proofs.Found.{never}
use Rattle.mta_session_list_laws.proofs.Waiting.{is_finish, does_at, over_says}
use Rattle.mta_session_list_laws.proofs.SendingGoes.{pending}
use Rattle.mta_session_list_laws.proofs.SendingLeft.{LastAt}
use Rattle.mta_session_list_laws.proofs.SendingPhases.{SendAt, AfterSend}

abbrev Closes : Ask → Type 0
Closes (ask.CloseLane lane g) = Unit {0}
Closes q = ⊥

abbrev EndWaits : Wanted → Type 0
EndWaits (Aborts reason) = Unit {0}
EndWaits (Rejects reason) = ⊥
EndWaits (Ends y) = Unit {0}
EndWaits (Puts y t) = (transfer_unit y ≡ []) × (is_last_phase t.phase ≡ true)
EndWaits (Asks q t) = Closes q × (is_last_phase t.phase ≡ true)
EndWaits (Reads t) = ⊥
EndWaits (Goes_on t) = ⊥
EndWaits (Excepts t f) = ⊥
EndWaits Never = Unit {0}

if_ends : (b : Bool) (w z : Wanted) → EndWaits w → EndWaits z → EndWaits (if b then w else z)
if_ends true w z p q = p
if_ends false w z p q = q

denied_ends : (t : State) (y : Result (Unit {0}) StepFault) → EndWaits (on_denied t y)
denied_ends t (Ok z) = (tt, refl)
denied_ends t (Err f) = tt

closed_by : (t : State) (z : Side) → EndWaits (closed t z)
closed_by t (side.Initiator p) = tt
closed_by t (side.Responder own) = (refl, refl)

closed_ends : (t : State) (y : Result (Unit {0}) StepFault) → EndWaits (on_closed t y)
closed_ends t (Ok z) = closed_by t t.side
closed_ends t (Err f) = tt

reply_ends : (p : Phase) (t : State) (y : Reply) → is_last_phase p ≡ true → EndWaits (wanted_of_reply p t y)
reply_ends phase.AsksDenied t (reply.Denied y) i = denied_ends t y
reply_ends phase.AsksDenied t y i = tt
reply_ends phase.AsksClose t (reply.CloseLane y) i = closed_ends t y
reply_ends phase.AsksClose t y i = tt
reply_ends (phase.AsksLast z) t y i = tt
reply_ends (phase.PutsLast z) t y i = tt
reply_ends (phase.Ended z) t y i = tt
reply_ends p t y i = absurd (never i)

go_ends : (p : Phase) (t : State) → is_last_phase p ≡ true → EndWaits (wanted_of_go p t)
go_ends (phase.PutsLast y) t i = tt
go_ends phase.AsksDenied t i = tt
go_ends phase.AsksClose t i = tt
go_ends (phase.AsksLast y) t i = tt
go_ends (phase.Ended y) t i = tt
go_ends p t i = absurd (never i)

unit_ends : (p : Phase) (t : State) (y : AnyUnit) → is_last_phase p ≡ true → EndWaits (wanted_of_unit p t y)
unit_ends (phase.PutsLast z) t y i = tt
unit_ends phase.AsksDenied t y i = tt
unit_ends phase.AsksClose t y i = tt
unit_ends (phase.AsksLast z) t y i = tt
unit_ends (phase.Ended z) t y i = tt
unit_ends p t y i = absurd (never i)

over_ends : (p : Phase) → EndWaits (wanted_of_over p)
over_ends (phase.PutsLast y) = tt
over_ends p = tt

end_waits : (p : Phase) (t : State) (e : Event) → is_last_phase p ≡ true → EndWaits (wanted_in p t e)
end_waits p t event.Go i = go_ends p t i
end_waits p t (event.Unit y) i = if_ends (t.left == 0) (Aborts 3) (wanted_of_unit p t y) tt (unit_ends p t y i)
end_waits p t event.BadUnit i = if_ends (t.left == 0) (Aborts 3) (Aborts 4) tt tt
end_waits p t (event.Reply y) i = reply_ends p t y i
end_waits p t event.Over i = over_ends p

-- it puts nothing of a transfer, and asks for no more than that the lane is closed
pub record EndsSilent (a : Action) (new : State) : Type 0 where
  pub none : pending a ≡ []
  pub last : is_last_phase new.phase ≡ true
  pub at : (b : SendEnd) → LastAt a b

closes_at : (q : Ask) → Closes q → (b : SendEnd) → LastAt (action.Ask q) b
closes_at (ask.CloseLane lane g) k b = tt
closes_at q k b = elim k [ ]

silent : (a z : Action) (new n : State) → a ≡ z → new ≡ n → pending z ≡ [] → is_last_phase n.phase ≡ true
    → ((b : SendEnd) → LastAt z b) → EndsSilent a new
silent a z new n p q e i k = record {
  none = ap {A = Action} pending p ∙ e;
  last = ap {A = State} (λ v. is_last_phase v.phase) q ∙ i;
  at = λ b. subst (λ v. LastAt v b) (sym p) (k b);
}

does_silent : (c : State) (w : Wanted) (a : Action) (new : State) → EndWaits w → Does c w a new → EndsSilent a new
does_silent c (Aborts reason) a new k d = silent a _ new _ d.0 d.1 refl refl (λ b. tt)
does_silent c (Ends y) a new k d = silent a _ new _ d.0 d.1 refl refl (λ b. tt)
does_silent c (Puts y t) a new k d = silent a _ new t d.0 d.1 (ap puts_of k.0) k.1 (λ b. tt)
does_silent c (Asks q t) a new k d = silent a _ new t d.0 d.1 refl k.1 (closes_at q k.0)
does_silent c Never a new k d = elim d [ ]
does_silent c any1 a new k d = absurd k

finish_silent : (a : Action) (new : State) → is_finish a ≡ true → is_last_phase new.phase ≡ true → EndsSilent a new
finish_silent (action.Finish y) new i k = record { none = refl; last = k; at = λ b. tt }
finish_silent a new i k = absurd (never i)

ended_over : (p : Phase) → is_ended p ≡ true → is_over p ≡ true
ended_over (phase.Ended y) i = refl
ended_over p i = absurd (never i)

any_silent : (t : Turn) → IsTurn t → is_last_phase t.before.phase ≡ true → (b : Bool) → is_ended t.before.phase ≡ b
    → EndsSilent t.action t.after
any_silent t is i false e =
    does_silent (counted t.before t.event) (wanted_in t.before.phase (counted t.before t.event) t.event) t.action
    t.after (end_waits t.before.phase (counted t.before t.event) t.event i) (does_at t t.event refl is e)
any_silent t is i true e =
    let says = over_says t.before.phase t (ended_over t.before.phase e) is.follows in
    finish_silent t.action t.after says.0 (ap {A = State} (λ z. is_last_phase z.phase) says.1 ∙ i)

module _ (l : Halves) (size window : ℕ) (accepted : Bool) where
  pub end_after : (early : Type 0) (mid : SendEnd) (t : Turn) → IsTurn t → is_last_phase t.before.phase ≡ true
      → AfterSend l size window accepted early mid t.action t.after
  end_after early mid t is i =
      let k = any_silent t is i (is_ended t.before.phase) refl in
      record {
        ended = mid;
        run = subst (λ z. s.IsSendingEnd mid z mid) (sym k.none) refl;
        at = at_last t.after.phase k.last k;
      }
    where
      at_last : (p : Phase) → is_last_phase p ≡ true → EndsSilent t.action t.after
          → SendAt l size window accepted early p t.after t.action mid
      at_last phase.AsksDenied j k = k.at mid
      at_last phase.AsksClose j k = k.at mid
      at_last (phase.AsksLast y) j k = k.at mid
      at_last (phase.PutsLast y) j k = k.at mid
      at_last (phase.Ended y) j k = k.at mid
      at_last p j k = absurd (never j)
