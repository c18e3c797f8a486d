-- The sending end of a session's list in each phase of an open session, and at its end: what was heard last calls for
-- nothing where a unit is got, and the last step may be made.
use Rattle.std.proofs.Common.{◌≡◌, ◌⊎◌, inl, inr, ℕ, true, Option, Some, None}
use Rattle.std.proofs.Common.{List, [], ◌∷◌, refl, sym, ap, subst, ◌∙◌}
use Rattle.mta_lane_send.specs.Half.{is_sending, last_of}
use Rattle.mta_units.specs.declared.unit.Unit.{Unit as AnyUnit}
use Rattle.mta_units.specs.declared.unit.Unit.TheVariants as unit
use Rattle.mta_transfer_rules.specs.Units.{LaneUnit}
use Rattle.mta_transfer_rules.specs.Sending as s
use Rattle.mta_transfer_rules.specs.Sending.{SendEnd, SendEvent}
use Rattle.mta_session.specs.declared.ask.Ask.{Ask}
use Rattle.mta_session.specs.declared.ask.Ask.TheVariants as ask
use Rattle.mta_session.specs.declared.event.Action.{Action}
use Rattle.mta_session.specs.declared.event.Action.TheVariants as action
use Rattle.mta_session.specs.declared.phase.Found.{Found}
use Rattle.mta_session.specs.declared.phase.Phase.{Phase}
use Rattle.mta_session.specs.declared.phase.Phase.TheVariants as phase
use Rattle.mta_session.specs.State.{State}
use Rattle.mta_session.specs.Wanted.{Wanted, Aborts, Rejects, Ends, Puts, Asks, Reads, Goes_on, Excepts, Never}
use Rattle.mta_session.specs.Follows.{Part, Of_sender, Of_receiver, Of_neither, part_of, phase_behind, PutsFor, AsksFor}
use Rattle.mta_session.specs.Follows.{GoesOn, ExceptsFor, Does}
use Rattle.mta_session_laws.specs.Turning.{listed, MayFollow, ReachesBy, SendGoes, with_action}
use Rattle.mta_session_laws.specs.Turning.{is_open}
use Rattle.mta_session_laws.proofs.Calls.{does_goes}
use Rattle.mta_session_laws.proofs.Runs.{open_goes_on}
use Rattle.mta_transfer_laws.specs.Sessions.{transfer_unit, puts_of, send_all}
use Rattle.mta_session_list_laws.proofs.Receiving.{IsCommon}
use Rattle.mta_session_list_laws.proofs.SendingGoes.{run_allowed, pending, action_put}

-- ---- what was heard last

abbrev pub Owes : SendEnd → Type 0
Owes e = s.StageOwesNothing e e.stage → ⊥

-- it calls for nothing, or this end puts something before the next is got
abbrev pub Calm : State → SendEnd → Type 0
Calm t b = s.CallsForNothing b ⊎ ((t.ours ≡ true) × Owes t.send)

-- where a unit is got, the end with the turn has put all that it may
abbrev pub Rested : State → SendEnd → Type 0
Rested t b = s.CallsForNothing b
    × (t.ours ≡ true → (t.send.stage ≡ s.Quiet → ⊥) × s.StageOwesNothing t.send t.send.stage)

-- the last step may be made
abbrev pub LastAsk : Ask → SendEnd → Type 0
LastAsk (ask.Denied lane g k) b = s.MayMake b s.Denied
LastAsk (ask.Sent lane g k) b = s.MayMake b s.Sent
LastAsk (ask.CloseLane lane g) b = Unit {0}
LastAsk q b = ⊥

abbrev pub LastAt : Action → SendEnd → Type 0
LastAt (action.Ask q) b = LastAsk q b
LastAt action.Read b = ⊥
LastAt (action.Put y) b = Unit {0}
LastAt (action.Finish y) b = Unit {0}

abbrev pub LeftAt : Phase → State → Action → SendEnd → Type 0
LeftAt (phase.AsksStep step) t a b = Unit {0}
LeftAt phase.AsksState t a b = Unit {0}
LeftAt phase.Reads t a b = Rested t b
LeftAt phase.AsksDenied t a b = LastAt a b
LeftAt phase.AsksClose t a b = LastAt a b
LeftAt (phase.AsksLast y) t a b = LastAt a b
LeftAt (phase.PutsLast y) t a b = LastAt a b
LeftAt (phase.Ended y) t a b = LastAt a b
LeftAt p t a b = Calm t b

-- what is wanted leaves it so
abbrev pub Leaves : SendEnd → Wanted → Type 0
Leaves b (Aborts reason) = Unit {0}
Leaves b (Rejects reason) = Unit {0}
Leaves b (Ends y) = Unit {0}
Leaves b (Puts y t) = (transfer_unit y ≡ []) × LeftAt t.phase t (action.Put y) b
Leaves b (Asks q t) = LeftAt t.phase t (action.Ask q) b
Leaves b (Reads t) = LeftAt t.phase t action.Read b
Leaves b (Goes_on t) = Calm t b
Leaves b (Excepts t f) = Calm t b
Leaves b Never = Unit {0}

-- ---- what is done

pub none_heard : (e : SendEnd) → e.heard ≡ None → s.CallsForNothing e
none_heard e n y step q c = absurd (let z : None ≡ Some y = sym n ∙ q in cc)

put_calm : (v : State) (y : AnyUnit) (z : LaneUnit) (new : State) (b : SendEnd) → transfer_unit y ≡ z ∷ []
    → new.phase ≡ phase.Puts → LeftAt new.phase new (action.Put y) (send_all b (puts_of (transfer_unit y)))
put_calm v y z new b e q =
    subst (λ p. LeftAt p new (action.Put y) (send_all b (puts_of (transfer_unit y)))) (sym q)
    (subst (λ us. Calm new (send_all b (puts_of us))) (sym e) (inl (none_heard (s.put b z) refl)))

answer_calm : (v new n : State) (a : Action) (b : SendEnd) → new ≡ n → n.phase ≡ phase.Puts → Calm n b
    → LeftAt new.phase new a b
answer_calm v new n a b e q k =
    subst (λ z. LeftAt z.phase z a b) (sym e) (subst (λ p. LeftAt p n a b) (sym q) k)

part_phase : (v : State) (part : Part) (y : AnyUnit) (new : State) → PutsFor v part y new
    → new.phase ≡ phase_behind y
part_phase v (Of_sender z) y new g = ap {A = State} (λ t. t.phase) g.2
part_phase v (Of_receiver z) y new g = ap {A = State} (λ t. t.phase) g.1
part_phase v Of_neither y new g = elim g [ ]

none_put : (reason : ℕ) (new : State) (b : SendEnd) → new.phase ≡ phase_behind (unit.Abort reason)
    → LeftAt new.phase new (action.Put (unit.Abort reason)) b
none_put reason new b q = subst (λ p. LeftAt p new (action.Put (unit.Abort reason)) b) (sym q) tt

puts_left : (v : State) (y : AnyUnit) (new : State) (b : SendEnd) → Calm v b → PutsFor v (part_of y) y new
    → LeftAt new.phase new (action.Put y) (send_all b (puts_of (transfer_unit y)))
puts_left v (unit.Start k) new b c g =
    put_calm v (unit.Start k) _ new b refl
    (part_phase v (part_of (unit.Start k)) (unit.Start k) new g)
puts_left v (unit.Piece k) new b c g =
    put_calm v (unit.Piece k) _ new b refl
    (part_phase v (part_of (unit.Piece k)) (unit.Piece k) new g)
puts_left v (unit.Sync k) new b c g =
    put_calm v (unit.Sync k) _ new b refl
    (part_phase v (part_of (unit.Sync k)) (unit.Sync k) new g)
puts_left v (unit.End k) new b c g =
    put_calm v (unit.End k) _ new b refl
    (part_phase v (part_of (unit.End k)) (unit.End k) new g)
puts_left v (unit.Resume k n) new b c g =
    put_calm v (unit.Resume k n) _ new b refl
    (part_phase v (part_of (unit.Resume k n)) (unit.Resume k n) new g)
puts_left v (unit.Discard k) new b c g =
    put_calm v (unit.Discard k) _ new b refl
    (part_phase v (part_of (unit.Discard k)) (unit.Discard k) new g)
puts_left v (unit.SyncAck k) new b c g = answer_calm v new _ (action.Put (unit.SyncAck k)) b g.1 refl c
puts_left v (unit.EndAck k) new b c g = answer_calm v new _ (action.Put (unit.EndAck k)) b g.1 refl c
puts_left v (unit.ResumeAck k n) new b c g = answer_calm v new _ (action.Put (unit.ResumeAck k n)) b g.1 refl c
puts_left v (unit.DiscardAck k) new b c g = answer_calm v new _ (action.Put (unit.DiscardAck k)) b g.1 refl c
puts_left v (unit.Abort reason) new b c g = none_put reason new b (part_phase v (part_of (unit.Abort reason))
    (unit.Abort reason) new g)
puts_left v y new b c g = elim g [ ]

at_state : (new n : State) (a : Action) (b : SendEnd) → new ≡ n → LeftAt n.phase n a b → LeftAt new.phase new a b
at_state new n a b e k = subst (λ z. LeftAt z.phase z a b) (sym e) k

asks_left : (v : State) (q : Ask) (new : State) (b : SendEnd) → Calm v b → AsksFor v q new
    → LeftAt new.phase new (action.Ask q) b
asks_left v (ask.Secure lane g k n octets) new b c a = at_state new _ _ b a.3 c
asks_left v (ask.Complete lane g k n octets) new b c a = at_state new _ _ b a.3 c
asks_left v (ask.DropActivity lane g k) new b c a = at_state new _ _ b a.3 c
asks_left v (ask.Ending lane g k) new b c a = at_state new _ _ b a.6 tt
asks_left v (ask.BatchFor peer) new b c a = at_state new _ _ b a.3 c
asks_left v q new b c a = elim a [ ]

calm_rested : (v : State) (b : SendEnd) → Calm v b → (t : v.ours ≡ true → s.OwesNothing v.send)
    → (v.ours ≡ true → v.send.stage ≡ s.Quiet → ⊥) → Rested v b
calm_rested v b (inl n) puts next = (n, λ o. (next o, (puts o).1))
calm_rested v b (inr k) puts next = absurd (k.1 (puts k.0).1)

goes_left : (v : State) (a : Action) (new : State) (b : SendEnd) → Calm v b → GoesOn v a new
    → LeftAt new.phase new a (send_all b (pending a))
goes_left v (action.Put y) new b c g = puts_left v y new b c g
goes_left v (action.Ask q) new b c g = asks_left v q new b c g
goes_left v action.Read new b c g = at_state new _ action.Read b g.1 (calm_rested v b c g.0.put g.0.next)
goes_left v (action.Finish y) new b c g = elim g [ ]

except_asked : (v : State) (f : Found) (q : Ask) (new : State) (b : SendEnd) → Calm v b
    → ExceptsFor v f (action.Ask q) new → LeftAt new.phase new (action.Ask q) b
except_asked v f (ask.DropActivity lane g k) new b c a = at_state new _ _ b a.3 c
except_asked v f q new b c a = elim a [ ]

except_put : (v : State) (f : Found) (y : AnyUnit) (new : State) (b : SendEnd) → Calm v b
    → ExceptsFor v f (action.Put y) new
    → LeftAt new.phase new (action.Put y) (send_all b (puts_of (transfer_unit y)))
except_put v f (unit.Exception kind at) new b c a = at_state new _ _ b a.3 c
except_put v f y new b c a = elim a [ ]

excepts_left : (v : State) (f : Found) (a : Action) (new : State) (b : SendEnd) → Calm v b → ExceptsFor v f a new
    → LeftAt new.phase new a (send_all b (pending a))
excepts_left v f (action.Put y) new b c g = except_put v f y new b c g
excepts_left v f (action.Ask q) new b c g = except_asked v f q new b c g
excepts_left v f any2 new b c g = elim g [ ]

abbrev Left : State → Action → SendEnd → Type 0
Left t a b = LeftAt t.phase t a (send_all b (pending a))

so_done : (a z : Action) (new n : State) (b : SendEnd) → a ≡ z → new ≡ n → Left n z b → Left new a b
so_done a z new n b p q k = subst (λ w. Left new w b) (sym p) (subst (λ w. Left w z b) (sym q) k)

pub left_after : (c : State) (w : Wanted) (a : Action) (new : State) (b : SendEnd) → Leaves b w → Does c w a new
    → LeftAt new.phase new a (send_all b (pending a))
left_after c (Puts y t) a new b k d =
    so_done a _ new t b d.0 d.1 (subst (λ us. LeftAt t.phase t (action.Put y) (send_all b (puts_of us))) (sym k.0) k.1)
left_after c (Asks q t) a new b k d = so_done a _ new t b d.0 d.1 k
left_after c (Reads t) a new b k d = so_done a _ new t b d.0 d.1 k
left_after c (Goes_on t) a new b k d = goes_left t a new b k d
left_after c (Excepts t f) a new b k d = excepts_left t f a new b k d
left_after c Never a new b k d = elim d [ ]
left_after c any1 a new b k d = so_done a _ new _ b d.0 d.1 tt

-- ---- the end of the list

-- an open session's
pub record OpenSend (p : Phase) (t : State) (a : Action) (b : SendEnd) : Type 0 where
  pub heard : Option LaneUnit
  pub before : List ℕ
  pub is : b ≡ listed t.send heard before
  pub may : MayFollow p (listed t.send heard before)
  pub left : LeftAt p t a b

-- while it is asked whether the own activity was given up, the list may have the Abandon already
pub record StateSend (t : State) (b : SendEnd) : Type 0 where
  pub heard : Option LaneUnit
  pub before : List ℕ
  pub is : (b ≡ listed t.send heard before)
      ⊎ ((is_sending t.send.state (last_of t.send.state) ≡ true) × (b ≡ s.made (listed t.send heard before) s.Abandon))

pub last_pending : (told : List SendEvent) (a : Action) → IsCommon a → with_action [] a ≡ [] → pending a ≡ []
last_pending told a i e = sym (action_put a i) ∙ e

-- where it goes on, what is put leads to the end that the session has
pub record OpenAfter (mid : SendEnd) (a : Action) (new : State) : Type 0 where
  pub ended : SendEnd
  pub run : s.IsSendingEnd mid (pending a) ended
  pub at : OpenSend new.phase new a ended

pub open_after : (mid : SendEnd) (c : State) (w : Wanted) (a : Action) (new : State) → SendGoes mid [] w → Leaves mid w
    → IsCommon a → Does c w a new → is_open new.phase ≡ true → OpenAfter mid a new
open_after mid c w a new g k i d o =
    let call = does_goes mid [] c w a new g d in
    let there = subst (λ b. ReachesBy b mid (with_action [] a) new.phase new.send) (open_goes_on new.phase o) call in
    let f : SendEnd = listed new.send there.0 there.1 in
    let run : s.IsSendingEnd mid (pending a) f = subst (λ z. s.IsSendingEnd mid z f) (action_put a i) there.2 in
    let same : f ≡ send_all mid (pending a) = (run_allowed mid f (pending a) run).1 in
    record {
      ended = f;
      run = run;
      at = record {
        heard = there.0;
        before = there.1;
        is = refl;
        may = there.3;
        left = subst (λ z. LeftAt new.phase new a z) (sym same) (left_after c w a new mid k d);
      };
    }
