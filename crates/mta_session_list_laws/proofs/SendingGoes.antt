-- The sending end of a session's list behind what is told in a call, and behind what is put then.
use Rattle.std.proofs.Common.{◌≡◌, inl, Bool, true, false, Option}
use Rattle.std.proofs.Common.{List, [], ◌∷◌, ◌++◌, refl, sym, ap, subst, ◌∙◌}
use Rattle.std.proofs.lemmas.List.{append-nil}
use Rattle.mta_units.specs.declared.unit.Unit.{Unit as AnyUnit}
use Rattle.mta_units.specs.declared.unit.Unit.TheVariants as unit
use Rattle.mta_transfer_rules.specs.Units.{LaneUnit}
use Rattle.mta_transfer_rules.specs.Units as u
use Rattle.mta_transfer_rules.specs.Sending as s
use Rattle.mta_transfer_rules.specs.Sending.{SendEnd, SendEvent}
use Rattle.mta_session.specs.declared.event.Action.{Action}
use Rattle.mta_session.specs.declared.event.Action.TheVariants as action
use Rattle.mta_session.specs.declared.phase.Phase.{Phase}
use Rattle.mta_session.specs.declared.phase.Phase.TheVariants as phase
use Rattle.mta_session.specs.Sending.{step_of}
use Rattle.mta_session.specs.Wanted.{Wanted, Puts, Asks, Reads, Goes_on, Excepts}
use Rattle.mta_session_laws.specs.Turning.{listed, MayFollow, Reaches, ReachesBy, SendGoes}
use Rattle.mta_session_laws.specs.Turning.{with_unit, with_action}
use Rattle.mta_session_laws.proofs.Ending.{abort_says_nothing}
use Rattle.mta_session_laws.specs.Turning.{is_last_phase}
use Rattle.mta_transfer_laws.specs.Sessions.{transfer_unit, puts_of, send_all}
use Rattle.mta_session_list_laws.specs.Sent.{without_other}
use Rattle.mta_session_list_laws.proofs.Found.{never}
use Rattle.mta_session_list_laws.proofs.Handing.{is_common, NoHand}
use Rattle.mta_session_list_laws.proofs.Receiving.{IsCommon}
use Rattle.mta_session_list_laws.proofs.Sent.{Hears, hearing, may_same, leads}

-- ---- lists of events

-- the rules allow each
abbrev pub Allowed : SendEnd → List SendEvent → Type 0
Allowed e [] = Unit {0}
Allowed e (y ∷ ys) = s.SendAllows e y × Allowed (s.send_after e y) ys

pub run_allowed : (e f : SendEnd) (ys : List SendEvent) → s.IsSendingEnd e ys f → Allowed e ys × (f ≡ send_all e ys)
run_allowed e f [] k = (tt, k)
run_allowed e f (y ∷ ys) k = let more = run_allowed (s.send_after e y) f ys k.1 in ((k.0, more.0), more.1)

pub allowed_run : (e : SendEnd) (ys : List SendEvent) → Allowed e ys → s.IsSendingEnd e ys (send_all e ys)
allowed_run e [] k = refl
allowed_run e (y ∷ ys) k = (k.0, allowed_run (s.send_after e y) ys k.1)

-- a run in two parts
pub split_run : (e f : SendEnd) (xs ys : List SendEvent) → s.IsSendingEnd e (xs ++ ys) f
    → Allowed e xs × s.IsSendingEnd (send_all e xs) ys f
split_run e f [] ys k = (tt, k)
split_run e f (x ∷ xs) ys k = let more = split_run (s.send_after e x) f xs ys k.1 in ((k.0, more.0), more.1)

-- ---- what an action puts

abbrev pub units_of : Action → List LaneUnit
units_of (action.Put y) = transfer_unit y
units_of a = []

abbrev pub pending : Action → List SendEvent
pending a = puts_of (units_of a)

unit_put : (told : List SendEvent) (y : AnyUnit) → is_common y ≡ true
    → with_unit told y ≡ told ++ puts_of (transfer_unit y)
unit_put told (unit.Open o) i = absurd (never i)
unit_put told (unit.Accept c w a) i = absurd (never i)
unit_put told (unit.Reject reason) i = absurd (never i)
unit_put told (unit.Start k) i = refl
unit_put told (unit.Piece octets) i = refl
unit_put told (unit.Sync n) i = refl
unit_put told (unit.End k) i = refl
unit_put told (unit.Resume k n) i = refl
unit_put told (unit.Discard k) i = refl
unit_put told (unit.Abort reason) i = abort_says_nothing told reason ∙ sym (append-nil told)
unit_put told y i = sym (append-nil told)

pub action_put : (a : Action) → IsCommon a → with_action [] a ≡ pending a
action_put (action.Put y) i = unit_put [] y i
action_put any0 i = refl

-- ---- without the units that say nothing

puts_stay : (us : List LaneUnit) → without_other (puts_of us) ≡ puts_of us
puts_stay [] = refl
puts_stay (y ∷ us) = ap (λ (z : List SendEvent). s.Put y ∷ z) (puts_stay us)

put_behind : (told : List SendEvent) (us : List LaneUnit)
    → without_other (told ++ puts_of us) ≡ without_other told ++ puts_of us
put_behind [] us = puts_stay us
put_behind (s.Got u.Other ∷ ys) us = put_behind ys us
put_behind (y ∷ ys) us = ap (λ (z : List SendEvent). y ∷ z) (put_behind ys us)

may_hear : (p : Phase) (f : SendEnd) (k : Option LaneUnit) → Hears k f.heard → MayFollow p f
    → MayFollow p (hearing f k)
may_hear (phase.AsksStep step) f k q m = may_same f k (step_of step) q m
may_hear p f k q m = tt

-- what is told leads to this end, with what is put behind it
pub record Led (e mid f : SendEnd) (us : List LaneUnit) : Type 0 where
  pub heard : Option LaneUnit
  pub hears : Hears heard f.heard
  pub run : s.IsSendingEnd mid (puts_of us) (hearing f heard)

pub led : (e f : SendEnd) (told : List SendEvent) (us : List LaneUnit) → s.IsSendingEnd e (told ++ puts_of us) f
    → Allowed e (without_other told) × Led e (send_all e (without_other told)) f us
led e f told us run =
    let all = leads (told ++ puts_of us) e f e.heard (inl refl) run in
    let parts = split_run e (hearing f all.0) (without_other told) (puts_of us)
    (subst (λ z. s.IsSendingEnd e z (hearing f all.0)) (put_behind told us) all.2) in
    (parts.0, record { heard = all.0; hears = all.1; run = parts.1 })

led_reaches : (e : SendEnd) (told : List SendEvent) (p : Phase) (f : SendEnd) → Reaches e told p f
    → Reaches (send_all e (without_other told)) [] p f
led_reaches e told p f k =
    let there = (led e (listed f k.0 k.1) told [] (subst (λ z. s.IsSendingEnd e z (listed f k.0 k.1))
    (sym (append-nil told)) k.2)).1 in
    (there.heard, k.1, there.run, may_hear p (listed f k.0 k.1) there.heard there.hears k.3)

led_unit : (e : SendEnd) (told : List SendEvent) (y : AnyUnit) (p : Phase) (f : SendEnd) → is_common y ≡ true
    → Reaches e (with_unit told y) p f → Reaches (send_all e (without_other told)) (with_unit [] y) p f
led_unit e told y p f i k =
    let there = (led e (listed f k.0 k.1) told (transfer_unit y) (subst (λ z. s.IsSendingEnd e z (listed f k.0 k.1))
    (unit_put told y i) k.2)).1 in (
      there.heard,
      k.1,
      subst (λ z. s.IsSendingEnd (send_all e (without_other told)) z (listed f there.heard k.1)) (sym (unit_put [] y i))
          there.run,
      may_hear p (listed f k.0 k.1) there.heard there.hears k.3,
    )

by_last : (b : Bool) (e mid : SendEnd) (xs ys : List SendEvent) (p : Phase) (f : SendEnd)
    → (Reaches e xs p f → Reaches mid ys p f) → ReachesBy b e xs p f → ReachesBy b mid ys p f
by_last true e mid xs ys p f go k = tt
by_last false e mid xs ys p f go k = go k

-- What is wanted is reached from the end behind what is told.
pub goes_behind : (e : SendEnd) (told : List SendEvent) (w : Wanted) → NoHand w → SendGoes e told w
    → SendGoes (send_all e (without_other told)) [] w
goes_behind e told (Goes_on t) n k = led_reaches e told phase.Puts t.send k
goes_behind e told (Excepts t f) n k = led_reaches e told phase.Puts t.send k
goes_behind e told (Asks q t) n k =
    by_last (is_last_phase t.phase) e _ told [] t.phase t.send (led_reaches e told t.phase t.send) k
goes_behind e told (Reads t) n k =
    by_last (is_last_phase t.phase) e _ told [] t.phase t.send (led_reaches e told t.phase t.send) k
goes_behind e told (Puts y t) n k =
    by_last (is_last_phase t.phase) e _ (with_unit told y) (with_unit [] y) t.phase t.send
    (led_unit e told y t.phase t.send n.0) k
goes_behind e told any2 n k = tt
