-- One call of an open session, as the receiving end of its list sees it.
use Rattle.std.proofs.Common.{◌≡◌, ℕ, true, false}
use Rattle.std.proofs.Common.{List, [], ◌∷◌, ◌++◌, refl, sym, ap, subst, ◌∙◌}
use Rattle.std.proofs.lemmas.List.{append-nil}
use Rattle.mta_lane_recv.specs.Half.{is_done}
use Rattle.mta_units.specs.declared.unit.Unit.{Unit as AnyUnit}
use Rattle.mta_units.specs.declared.unit.Unit.TheVariants as unit
use Rattle.mta_transfer_rules.specs.Receiving as r
use Rattle.mta_transfer_rules.specs.Receiving.{RecvEnd, RecvEvent, RecvStage}
use Rattle.mta_session.specs.declared.ask.Ask.{Ask}
use Rattle.mta_session.specs.declared.ask.Ask.TheVariants as ask
use Rattle.mta_session.specs.declared.event.Action.{Action}
use Rattle.mta_session.specs.declared.event.Action.TheVariants as action
use Rattle.mta_session.specs.declared.phase.Found.{Found}
use Rattle.mta_session.specs.declared.phase.Phase.{Phase}
use Rattle.mta_session.specs.declared.phase.Phase.TheVariants as phase
use Rattle.mta_session.specs.State.{State}
use Rattle.mta_session.specs.Wanted.{Wanted, Aborts, Rejects, Ends, Puts, Asks, Reads, Goes_on, Excepts, Never}
use Rattle.mta_session.specs.Follows.{Part, Of_sender, Of_receiver, Of_neither, part_of, phase_behind, PutsFor, AsksFor}
use Rattle.mta_session.specs.Follows.{GoesOn, ExceptsFor, Does}
use Rattle.mta_session.specs.Fits.{Fits, FitsAt}
use Rattle.mta_session_laws.specs.Turning.{is_open}
use Rattle.mta_session_laws.specs.TurningRecv.{filled, whole, Reaches, ReachesBy, ReachesAt, RecvGoes, with_action}
use Rattle.mta_session_laws.proofs.CallsRecv.{at, on_goes, does_goes}
use Rattle.mta_session_laws.proofs.Runs.{open_goes_on}
use Rattle.mta_transfer_laws.specs.Sessions.{answer_unit, answers_of, recv_all}
use Rattle.mta_lane_match_laws.specs.Asks.{handed_by}
use Rattle.mta_session_list_laws.proofs.Found.{never}
use Rattle.mta_session_list_laws.proofs.Handing.{hands, is_common, NoHand}
use Rattle.mta_session_list_laws.proofs.Received.{put_same}

-- ---- lists of events

-- the rules allow each
abbrev pub Allowed : RecvEnd → List RecvEvent → Type 0
Allowed e [] = Unit {0}
Allowed e (y ∷ ys) = r.RecvAllows e y × Allowed (r.recv_after e y) ys

pub run_allowed : (e f : RecvEnd) (ys : List RecvEvent) → r.IsReceivingEnd e ys f → Allowed e ys × (f ≡ recv_all e ys)
run_allowed e f [] k = (tt, k)
run_allowed e f (y ∷ ys) k = let more = run_allowed (r.recv_after e y) f ys k.1 in ((k.0, more.0), more.1)

pub allowed_run : (e : RecvEnd) (ys : List RecvEvent) → Allowed e ys → r.IsReceivingEnd e ys (recv_all e ys)
allowed_run e [] k = refl
allowed_run e (y ∷ ys) k = (k.0, allowed_run (r.recv_after e y) ys k.1)

-- a run in two parts
pub split_run : (e f : RecvEnd) (xs ys : List RecvEvent) → r.IsReceivingEnd e (xs ++ ys) f
    → Allowed e xs × r.IsReceivingEnd (recv_all e xs) ys f
split_run e f [] ys k = (tt, k)
split_run e f (x ∷ xs) ys k = let more = split_run (r.recv_after e x) f xs ys k.1 in ((k.0, more.0), more.1)

-- ---- what an action puts

abbrev pub pending : Action → List RecvEvent
pending (action.Put u) = answers_of (answer_unit u)
pending a = []

abbrev pub IsCommon : Action → Type 0
IsCommon (action.Put u) = is_common u ≡ true
IsCommon a = Unit {0}

pub common_action : (told : List RecvEvent) (a : Action) → IsCommon a → with_action told a ≡ told ++ pending a
common_action told (action.Put u) i = put_same told u i
common_action told any1 i = sym (append-nil told)

common_put : (v : State) (y : AnyUnit) (new : State) → PutsFor v (part_of y) y new → is_common y ≡ true
common_put v (unit.Open o) new g = elim g [ ]
common_put v (unit.Accept c w a) new g = elim g [ ]
common_put v (unit.Reject reason) new g = elim g [ ]
common_put v y new g = refl

pub goes_common : (v : State) (a : Action) (new : State) → GoesOn v a new → IsCommon a
goes_common v (action.Put y) new g = common_put v y new g
goes_common v any1 new g = tt

except_common : (v : State) (f : Found) (y : AnyUnit) (new : State) → ExceptsFor v f (action.Put y) new → is_common y
    ≡ true
except_common v f (unit.Exception kind at_) new g = refl
except_common v f y new g = elim g [ ]

excepts_common : (v : State) (f : Found) (a : Action) (new : State) → ExceptsFor v f a new → IsCommon a
excepts_common v f (action.Put y) new g = except_common v f y new g
excepts_common v f any2 new g = tt

pub does_common : (c : State) (w : Wanted) (a : Action) (new : State) → NoHand w → Does c w a new → IsCommon a
does_common c (Aborts reason) a new n d = subst IsCommon (sym d.0) refl
does_common c (Rejects reason) a new n d = absurd n
does_common c (Puts u t) a new n d = subst IsCommon (sym d.0) n.0
does_common c (Goes_on t) a new n d = goes_common t a new d
does_common c (Excepts t f) a new n d = excepts_common t f a new d
does_common c Never a new n d = elim d [ ]
does_common c any1 a new n d = subst IsCommon (sym d.0) tt

-- ---- what is handed on

abbrev pub handed : Action → List ℕ
handed (action.Ask a) = handed_by a
handed a = []

-- the piece that the list's end has is the one that was asked with
abbrev pub HandsOn : Phase → Action → List ℕ → Type 0
HandsOn (phase.AsksSecure k n) a q = handed a ≡ q
HandsOn (phase.AsksComplete k n) a q = handed a ≡ q
HandsOn p a q = Unit {0}

no_hand : (p : Phase) (a : Action) (q : List ℕ) → hands p ≡ false → HandsOn p a q
no_hand (phase.AsksSecure k n) a q i = absurd (never (sym i))
no_hand (phase.AsksComplete k n) a q i = absurd (never (sym i))
no_hand p a q i = tt

pub record Next (e : RecvEnd) (events : List RecvEvent) (a : Action) (new : State) : Type 0 where
  pub piece : List ℕ
  pub on : HandsOn new.phase a piece
  pub run : r.IsReceivingEnd e events (whole new.phase new.recv piece)

reached_next : (e : RecvEnd) (events : List RecvEvent) (a : Action) (new : State) → hands new.phase ≡ false
    → is_open new.phase ≡ true → ReachesAt e events new.phase new.recv → Next e events a new
reached_next e events a new h i k =
    let there = subst (λ b. ReachesBy b e events new.phase new.recv) (open_goes_on new.phase i) k in
    record { piece = there.0; on = no_hand new.phase a there.0 h; run = there.1 }

at_open : (e : RecvEnd) (k n : ℕ) (held p : List ℕ) → e.stage ≡ r.Ended k n held → is_done e.last k ≡ false
    → filled e.last e.stage p ≡ r.Ended k n held
at_open e k n held p q d = rw q (rw d refl)

behind_none : (y : AnyUnit) → hands (phase_behind y) ≡ false
behind_none (unit.Abort reason) = refl
behind_none y = refl

put_hands : (v : State) (part : Part) (y : AnyUnit) (new : State) → PutsFor v part y new → hands new.phase ≡ false
put_hands v (Of_sender z) y new g = ap {A = State} (λ t. hands t.phase) g.2 ∙ behind_none y
put_hands v (Of_receiver z) y new g = ap {A = State} (λ t. hands t.phase) g.1 ∙ behind_none y
put_hands v Of_neither y new g = elim g [ ]

asks_next : (e : RecvEnd) (events : List RecvEvent) (v : State) (q : Ask) (new : State) → AsksFor v q new → Fits new
    → Reaches e events phase.Puts v.recv → is_open new.phase ≡ true → Next e events (action.Ask q) new
asks_next e events v (ask.Secure lane g k n octets) new a f k' i =
    subst (λ t. Next e events (action.Ask (ask.Secure lane g k n octets)) t) (sym a.3)
    (record {
      piece = octets;
      on = refl;
      run = subst (λ s. r.IsReceivingEnd e events (record v.recv { stage = s }))
          (at v.recv (r.Synced k n octets) k'.0 a.0.0 refl) k'.1;
    })
asks_next e events v (ask.Complete lane g k n octets) new a f k' i =
    let fits = subst (λ t. FitsAt t.phase t) a.3 f in
    subst (λ t. Next e events (action.Ask (ask.Complete lane g k n octets)) t) (sym a.3)
    (record {
      piece = octets;
      on = refl;
      run = subst (λ s. r.IsReceivingEnd e events (record v.recv { stage = s }))
          (at_open v.recv k n octets k'.0 a.0.0 fits.3) k'.1;
    })
asks_next e events v (ask.DropActivity lane g k) new a f k' i =
    reached_next e events _ new (ap {A = State} (λ t. hands t.phase) a.3) i
    (on_goes e events v (action.Ask (ask.DropActivity lane g k)) new a f k')
asks_next e events v (ask.Ending lane g k) new a f k' i =
    reached_next e events _ new (ap {A = State} (λ t. hands t.phase) a.6) i
    (on_goes e events v (action.Ask (ask.Ending lane g k)) new a f k')
asks_next e events v (ask.BatchFor peer) new a f k' i =
    reached_next e events _ new (ap {A = State} (λ t. hands t.phase) a.3) i
    (on_goes e events v (action.Ask (ask.BatchFor peer)) new a f k')
asks_next e events v q new a f k' i = elim a [ ]

pub goes_next : (e : RecvEnd) (events : List RecvEvent) (v : State) (a : Action) (new : State) → GoesOn v a new → Fits
    new
    → Reaches e events phase.Puts v.recv → is_open new.phase ≡ true → Next e (with_action events a) a new
goes_next e events v (action.Put y) new g f k i =
    reached_next e _ _ new (put_hands v (part_of y) y new g) i (on_goes e events v (action.Put y) new g f k)
goes_next e events v (action.Ask q) new g f k i = asks_next e events v q new g f k i
goes_next e events v action.Read new g f k i =
    reached_next e _ _ new (ap {A = State} (λ t. hands t.phase) g.1) i (on_goes e events v action.Read new g f k)
goes_next e events v (action.Finish y) new g f k i = elim g [ ]

except_hands : (v : State) (f : Found) (q : Ask) (new : State) → ExceptsFor v f (action.Ask q) new → hands new.phase
    ≡ false
except_hands v f (ask.DropActivity lane g k) new a = ap {A = State} (λ t. hands t.phase) a.3
except_hands v f q new a = elim a [ ]

except_put_hands : (v : State) (f : Found) (y : AnyUnit) (new : State) → ExceptsFor v f (action.Put y) new → hands
    new.phase ≡ false
except_put_hands v f (unit.Exception kind at_) new a = ap {A = State} (λ t. hands t.phase) a.3
except_put_hands v f y new a = elim a [ ]

excepts_hands : (v : State) (f : Found) (a : Action) (new : State) → ExceptsFor v f a new → hands new.phase ≡ false
excepts_hands v f (action.Put y) new g = except_put_hands v f y new g
excepts_hands v f (action.Ask q) new g = except_hands v f q new g
excepts_hands v f any2 new g = elim g [ ]

-- A call that leaves the session open: the events that were told, and what is put now, lead to the end that it has.
pub does_next : (e : RecvEnd) (told : List RecvEvent) (c : State) (w : Wanted) (a : Action) (new : State)
    → RecvGoes e told w → NoHand w → Does c w a new → Fits new → is_open new.phase ≡ true
    → Next e (with_action told a) a new
does_next e told c (Aborts reason) a new g n d f i = reached_next e _ a new (ap {A = State} (λ t. hands t.phase) d.1)
    i (does_goes e told c (Aborts reason) a new g d f)
does_next e told c (Rejects reason) a new g n d f i = absurd n
does_next e told c (Ends y) a new g n d f i = reached_next e _ a new (ap {A = State} (λ t. hands t.phase) d.1) i
    (does_goes e told c (Ends y) a new g d f)
does_next e told c (Puts u t) a new g n d f i = reached_next e _ a new (ap {A = State} (λ z. hands z.phase) d.1 ∙ n.1)
    i (does_goes e told c (Puts u t) a new g d f)
does_next e told c (Asks q t) a new g n d f i = reached_next e _ a new (ap {A = State} (λ z. hands z.phase) d.1 ∙ n) i
    (does_goes e told c (Asks q t) a new g d f)
does_next e told c (Reads t) a new g n d f i = reached_next e _ a new (ap {A = State} (λ z. hands z.phase) d.1 ∙ n) i
    (does_goes e told c (Reads t) a new g d f)
does_next e told c (Goes_on t) a new g n d f i = goes_next e told t a new d f g i
does_next e told c (Excepts t y) a new g n d f i = reached_next e _ a new (excepts_hands t y a new d) i
    (does_goes e told c (Excepts t y) a new g d f)
does_next e told c Never a new g n d f i = elim d [ ]
