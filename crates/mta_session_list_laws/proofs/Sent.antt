-- Units that say nothing of a transfer may be left out, and Abandons end activities.
use Rattle.std.proofs.Common.{◌≡◌, ◌⊎◌, inl, inr, ◌||◌, Bool, true, false, Option, Some, None, List, [], ◌∷◌}
use Rattle.std.proofs.Common.{refl, sym, ap, subst, ◌∙◌}
use Rattle.mta_transfer_rules.specs.Units.{LaneUnit}
use Rattle.mta_transfer_rules.specs.Units as u
use Rattle.mta_transfer_rules.specs.Sending as s
use Rattle.mta_transfer_rules.specs.Sending.{SendEnd, SendEvent, SendStep, SendStage, stage_got}
use Rattle.mta_session_list_laws.specs.Sent.{without_other, OthersMayBeLeftOut, NoneGoesOn, NoneDrops}
use Rattle.mta_session_list_laws.proofs.Lanes.{none_confirms, none_ends, stays_undropped}

-- the same end, where this was heard
abbrev pub hearing : SendEnd → Option LaneUnit → SendEnd
hearing e heard = record e { heard = heard }

-- ---- a unit that says nothing changes what was heard alone

or_none : (b : Bool) → (b || false) ≡ b
or_none true = refl
or_none false = refl

stage_same : (z : SendStage) → stage_got z u.Other ≡ z
stage_same (s.Resume_put k n) = refl
stage_same z = refl

other_is : (e : SendEnd) (h : Option LaneUnit) → hearing (s.got e u.Other) h ≡ hearing e h
other_is e h =
    ap (λ (b : Bool). record e { accepted = b; stage = stage_got e.stage u.Other; heard = h }) (or_none e.accepted)
    ∙ ap (λ (z : SendStage). record e { stage = z; heard = h }) (stage_same e.stage)

-- ---- what rests on it

puts_same : (e : SendEnd) (h : Option LaneUnit) (y : LaneUnit) → s.MayPut e y
    → s.MayPut (hearing e h) y × (s.put (hearing e h) y ≡ s.put e y)
puts_same e h (u.Start k) m = (m, refl)
puts_same e h y m = (m, refl)

-- no step answers it
none_calls : (e : SendEnd) (step : SendStep) → s.IsCalledBy e step u.Other → ⊥
none_calls e (s.Start octets) c = c
none_calls e step c = c

some_is : (x y : LaneUnit) → Some x ≡ Some y → x ≡ y
some_is x y e = cc

-- what was heard without them is what was heard with them, or one of them was heard last
abbrev pub Hears : Option LaneUnit → Option LaneUnit → Type 0
Hears h before = (h ≡ before) ⊎ (before ≡ Some u.Other)

answers_same : (e : SendEnd) (h : Option LaneUnit) (step : SendStep) → Hears h e.heard
    → (x : LaneUnit) × (e.heard ≡ Some x) × s.IsCalledBy e step x
    → (x : LaneUnit) × (h ≡ Some x) × s.IsCalledBy e step x
answers_same e h step (inl q) m = (m.0, q ∙ m.1, m.2)
answers_same e h step (inr q) m =
    absurd (none_calls e step (subst (λ z. s.IsCalledBy e step z) (some_is m.0 u.Other (sym m.1 ∙ q)) m.2))

pub may_same : (e : SendEnd) (h : Option LaneUnit) (step : SendStep) → Hears h e.heard → s.MayMake e step
    → s.MayMake (hearing e h) step
may_same e h (s.Confirm n) k m = answers_same e h (s.Confirm n) k m
may_same e h s.Sent k m = answers_same e h s.Sent k m
may_same e h s.Dropped k m = answers_same e h s.Dropped k m
may_same e h s.Refused k m = answers_same e h s.Refused k m
may_same e h s.Denied k m = answers_same e h s.Denied k m
may_same e h any2 k m = m

-- ---- along a list

abbrev pub Leads : SendEnd → Option LaneUnit → List SendEvent → SendEnd → Type 0
Leads e h ys f =
    (k : Option LaneUnit) × Hears k f.heard × s.IsSendingEnd (hearing e h) (without_other ys) (hearing f k)

made_step : (e f : SendEnd) (h : Option LaneUnit) (step : SendStep) (ys : List SendEvent) → Hears h e.heard
    → s.MayMake e step
    → ((g : Option LaneUnit) → Hears g (s.made e step).heard → Leads (s.made e step) g ys f)
    → Leads e h (s.Made step ∷ ys) f
made_step e f h s.Abandon ys k m more = let rest = more h k in (rest.0, rest.1, (may_same e h s.Abandon k m, rest.2))
made_step e f h (s.Start octets) ys k m more = let rest = more None (inl refl)
    in (rest.0, rest.1, (may_same e h (s.Start octets) k m, rest.2))
made_step e f h (s.Confirm n) ys k m more = let rest = more None (inl refl)
    in (rest.0, rest.1, (may_same e h (s.Confirm n) k m, rest.2))
made_step e f h s.To_end ys k m more = let rest = more None (inl refl) in (
  rest.0,
  rest.1,
  (
    may_same e h s.To_end k m,
    rest.2,
  ),
)
made_step e f h s.Sent ys k m more = let rest = more None (inl refl) in (
  rest.0,
  rest.1,
  (
    may_same e h s.Sent k m,
    rest.2,
  ),
)
made_step e f h s.Dropped ys k m more = let rest = more None (inl refl)
    in (rest.0, rest.1, (may_same e h s.Dropped k m, rest.2))
made_step e f h s.Refused ys k m more = let rest = more None (inl refl)
    in (rest.0, rest.1, (may_same e h s.Refused k m, rest.2))
made_step e f h s.Denied ys k m more = let rest = more None (inl refl) in (
  rest.0,
  rest.1,
  (
    may_same e h s.Denied k m,
    rest.2,
  ),
)

got_unit : (e f : SendEnd) (h : Option LaneUnit) (y : LaneUnit) (ys : List SendEvent)
    → ((g : Option LaneUnit) → Hears g (s.got e y).heard → Leads (s.got e y) g ys f) → Leads e h (s.Got y ∷ ys) f
got_unit e f h u.Other ys more =
    let rest = more h (inr refl) in
    (rest.0, rest.1, subst (λ z. s.IsSendingEnd z (without_other ys) (hearing f rest.0)) (other_is e h) rest.2)
got_unit e f h y ys more = let rest = more (Some y) (inl refl) in (rest.0, rest.1, (tt, rest.2))

pub leads : (ys : List SendEvent) (e f : SendEnd) (h : Option LaneUnit) → Hears h e.heard → s.IsSendingEnd e ys f
    → Leads e h ys f
leads [] e f h k run = (h, subst (λ z. Hears h z.heard) (sym run) k, ap (λ (z : SendEnd). hearing z h) run)
leads (s.New_link b ∷ ys) e f h k run =
    let rest = leads ys (s.on_link e b) f None (inl refl) run.1 in
    (rest.0, rest.1, (tt, rest.2))
leads (s.Put y ∷ ys) e f h k run =
    let puts = puts_same e h y run.0 in
    let rest = leads ys (s.put e y) f None (inl refl) run.1 in
    (rest.0, rest.1, (puts.0, subst (λ z. s.IsSendingEnd z (without_other ys) (hearing f rest.0)) (sym puts.1) rest.2))
leads (s.Got y ∷ ys) e f h k run = got_unit e f h y ys (λ g q. leads ys (s.got e y) f g q run.1)
leads (s.Made step ∷ ys) e f h k run =
    made_step e f h step ys k run.0 (λ g q. leads ys (s.made e step) f g q run.1)

pub others_left_out : OthersMayBeLeftOut
others_left_out e f ys run = let rest = leads ys e f e.heard (inl refl) run in (rest.0, rest.2)

-- ---- Abandons

pub none_goes_on : NoneGoesOn
none_goes_on spells history lane k p upto allow is lt = (
  (λ g n there. none_confirms spells history lane allow k p upto g n is lt there),
  (λ g there. none_ends spells history lane allow k p upto g is lt there),
)

pub none_drops : NoneDrops
none_drops spells history lane k from upto allow a b kept not_so =
    stays_undropped spells history lane allow k from upto a b kept not_so
