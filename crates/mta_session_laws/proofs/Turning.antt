-- What one call does to the sending end.
use Rattle.std.proofs.Common.{rules, ◌&&◌, ◌≡◌, ℕ, Bool, true, false, Option, Some, None, List, [], ◌∷◌, refl, arith}
use Rattle.std.proofs.Common.{◌||◌, sym, ◌∙◌, ap, subst}
use Rattle.mta_units.specs.declared.unit.Unit.{Unit as AnyUnit}
use Rattle.mta_lane_send.specs.declared.state.SendState.{SendState}
use Rattle.mta_lane_send.specs.declared.state.SendState.TheVariants as state
use Rattle.mta_lane_send.specs.Half.{is_idle, is_sending, last_of, confirmed_at}
use Rattle.mta_transfer_rules.specs.Units.{LaneUnit}
use Rattle.mta_transfer_rules.specs.Units as u
use Rattle.mta_transfer_rules.specs.Sending as s
use Rattle.mta_transfer_rules.specs.Sending.{SendEnd}
use Rattle.mta_session.specs.declared.phase.OwnStep.TheVariants as own
use Rattle.mta_session.specs.declared.phase.Phase.TheVariants as phase
use Rattle.mta_session_laws.specs.Called.{forget}
use Rattle.mta_session.specs.State.{State}
use Rattle.mta_session.specs.Wanted.{is_cut, is_given_up}
use Rattle.mta_session.specs.Follows.{PutsFor, Of_sender}
use Rattle.mta_session_laws.specs.Turning.{kept, listed, Reaches, StepGoes, StartGoes}

-- a unit got, of which nothing is kept
pub got_is : (e f : SendEnd) (h : Option LaneUnit) (o : List ℕ) (x : LaneUnit) → forget (s.got e x) ≡ f
    → listed f (Some x) o ≡ s.got (listed e h o) x
got_is e f h o x eq = rw (sym eq) refl

or_none : (b : Bool) → (b || false) ≡ b
or_none true = refl
or_none false = refl

-- a unit that says nothing of a transfer
pub other : (e : SendEnd) → e.heard ≡ None → forget (s.got e u.Other) ≡ e
other e c = grind (arith, or_none, c)

-- the octets of an activity that is under way are kept
pub kept_live : (st : SendState) (o x : List ℕ) → is_idle st ≡ false → kept st o x ≡ x
kept_live (state.Idle last) o x l = search l
kept_live any0 o x l = refl

pub made_listed : (e : SendEnd) (o : List ℕ) (x : LaneUnit) (step : s.SendStep) → is_idle e.state ≡ false
    → s.MayMake (s.got e x) step → forget (s.got e x) ≡ e → s.MayMake (listed e (Some x) o) step
made_listed e o x step l m eq =
    let whole : listed e (Some x) o ≡ record e { heard = Some x } = rw (kept_live e.state o e.octets l) refl in
    let same : record e { heard = Some x } ≡ s.got e x = ap {A = SendEnd} (λ z. record z { heard = Some x }) (sym eq) in
    subst (λ z. s.MayMake z step) (sym (whole ∙ same)) m

kept_confirmed : (st : SendState) (n : ℕ) (o x : List ℕ) → kept (confirmed_at st n) (kept st o x) x ≡ kept st o x
kept_confirmed (state.Idle last) n o x = refl
kept_confirmed any0 n o x = refl

pub sending_live : (st : SendState) (k : ℕ) → is_sending st k ≡ true → is_idle st ≡ false
sending_live (state.Idle last) k l = search l
sending_live any0 k l = refl

pub step_goes : StepGoes
step_goes t h o (own.Confirm n) c m =
    (None, kept t.send.state o t.send.octets, (m, rw (kept_confirmed t.send.state n o t.send.octets) refl), tt)
step_goes t h o own.Ending c m = (
  None,
  [],
  (
    m,
    rw (kept_live t.send.state o t.send.octets (sending_live t.send.state (last_of t.send.state) m))
        refl,
  ),
  tt,
)
step_goes t h o any3 c m = (None, kept t.send.state o t.send.octets, (m, refl), tt)

pub start_goes : StartGoes
start_goes t h o x c i q l = (None, o, ((i, q, l), refl), tt)

-- a half in Sending is of the activity under way
pub sending_last : (st : SendState) (k : ℕ) → is_sending st k ≡ true → is_sending st (last_of st) ≡ true
sending_last (state.Sending j c) k l = search rules
sending_last any0 k l = search l

both_true : (a b : Bool) → (a && b) ≡ true → a ≡ true
both_true true b l = refl
both_true false b l = search l

pub given_up : (t : State) (told : SendState) → is_given_up t told ≡ true
    → is_sending t.send.state (last_of t.send.state) ≡ true
given_up t (state.Dropping k) g =
    sending_last t.send.state k (both_true (is_sending t.send.state k) (is_cut t.send.stage k) g)
given_up t any1 g = search g

-- what may be put does not rest on what was heard
puts_same : (e : SendEnd) (h : Option LaneUnit) (y : LaneUnit) → s.MayPut e y → s.MayPut (record e { heard = h }) y
    × (s.put (record e { heard = h }) y ≡ s.put e y)
puts_same e h (u.Start k) m = (m, refl)
puts_same e h any2 m = (m, refl)

put_listed : (e : SendEnd) (y : LaneUnit) → is_idle e.state ≡ false → listed (s.put e y) None [] ≡ s.put e y
put_listed e y l = rw (kept_live e.state [] e.octets l) refl

pub put_then : (t : State) (h : Option LaneUnit) (o : List ℕ) (x : AnyUnit) (y : LaneUnit) (new : State)
    → is_idle t.send.state ≡ false → PutsFor t (Of_sender y) x new →
    Reaches (listed t.send h o) (s.Put y ∷ []) phase.Puts new.send
put_then t h o x y new l g =
    let e : SendEnd = t.send in
    let whole : listed e h o ≡ record e { heard = h } = rw (kept_live e.state o e.octets l) refl in
    let both = puts_same e h y g.1 in
    let after : listed (s.put e y) None [] ≡ s.put e y = put_listed e y l in
    let sent : new.send ≡ s.put e y = ap {A = State} (λ z. z.send) g.2 in
    let same : listed new.send None [] ≡ s.put (record e { heard = h }) y = rw sent (after ∙ sym both.1) in
    (None, [], subst (λ z. s.IsSendingEnd z (s.Put y ∷ []) (listed new.send None [])) (sym whole) (both.0, same), tt)
