-- The sending end of a session's list in each phase, and what a session wants before it is open and at its end.
use Rattle.std.proofs.Common.{◌≡◌, inl, inr, ℕ, ◌*◌, not, if◌then◌else◌, Bool, true, false, Option}
use Rattle.std.proofs.Common.{List, [], refl, sym, ap, subst, ◌∙◌}
use Rattle.mta_transfer_rules.specs.Lanes.{Halves}
use Rattle.mta_transfer_rules.specs.Units.{LaneUnit}
use Rattle.mta_transfer_rules.specs.Units as u
use Rattle.mta_transfer_rules.specs.Sending as s
use Rattle.mta_transfer_rules.specs.Sending.{SendEnd, SendEvent}
use Rattle.mta_session.specs.declared.event.Action.{Action}
use Rattle.mta_session.specs.declared.event.Action.TheVariants as action
use Rattle.mta_session.specs.declared.event.Side.{Side}
use Rattle.mta_session.specs.declared.event.Side.TheVariants as side
use Rattle.mta_session.specs.declared.phase.Phase.{Phase}
use Rattle.mta_session.specs.declared.phase.Phase.TheVariants as phase
use Rattle.mta_session.specs.State.{State, is_initiator}
use Rattle.mta_session.specs.Wanted.{Wanted, Aborts, Rejects, Ends, Puts, Asks, Reads, Goes_on, Excepts, Never}
use Rattle.mta_session.specs.Follows.{Does, GoesOn}
use Rattle.mta_session.specs.Fits.{HasSize}
use Rattle.mta_session_laws.specs.Turning.{kept, listed, is_open, is_last_phase}
use Rattle.mta_session_laws.proofs.Ending.{IsPutLast, Answered, goes_way}
use Rattle.mta_transfer_laws.specs.Sendings.{end_on_link}
use Rattle.mta_transfer_laws.specs.Sessions.{transfer_unit, puts_of, send_all}
use Rattle.mta_session_list_laws.proofs.Found.{never}
use Rattle.mta_session_list_laws.proofs.Receiving.{goes_common}
use Rattle.mta_session_list_laws.proofs.SendingGoes.{pending, action_put}
use Rattle.mta_session_list_laws.proofs.SendingLeft.{Calm, LastAt, LeftAt, left_after, OpenSend, StateSend, OpenAfter}
use Rattle.mta_session_list_laws.proofs.SendingLeft.{open_after}

abbrev pub asks_state : Phase → Bool
asks_state phase.AsksState = true
asks_state p = false

-- ---- the half as the session has it

module _ (l : Halves) (size window : ℕ) (accepted : Bool) where
  abbrev pub one : SendEnd
  one = end_on_link l size window accepted

  -- as the lane has it on a link on which nothing was done
  abbrev pub HasHalf : State → Type 0
  HasHalf t =
      (t.send.state ≡ l.state) × (kept t.send.state l.octets t.send.octets ≡ l.octets)
      × (t.send.stage ≡ s.stage_on_link l.state)

  -- a responder needs no Accept
  abbrev pub IsSide : State → Type 0
  IsSide t = accepted ≡ not (is_initiator t.side)

  -- with the lane's values, where they are agreed
  abbrev pub HasValues : State → Type 0
  HasValues t = HasSize t × (t.agreed ≡ true → (size ≡ 1024 * t.checkpoint) × (window ≡ t.window)) × IsSide t

  abbrev pub Has : State → Type 0
  Has t = HasHalf t × HasValues t

  abbrev pub NewSend : Side → State → Type 0
  NewSend (side.Initiator p) t = p.recovering ≡ false → Has t
  NewSend (side.Responder own) t = ⊥

  -- (`early` is what is known while the spool is asked for the lane)
  abbrev pub SendAt : (early : Type 0) → Phase → State → Action → SendEnd → Type 0
  SendAt early phase.Begin t a b = (b ≡ one) × NewSend t.side t × IsSide t × early
  SendAt early phase.AsksValues t a b = (b ≡ one) × IsSide t × early
  SendAt early phase.AsksRecovery t a b = (b ≡ one) × HasValues t × early
  SendAt early (phase.AsksReceiving state) t a b = (b ≡ one) × HasValues t × (l.state ≡ state) × early
  SendAt early (phase.AsksResumed state) t a b = (b ≡ one) × HasValues t × (l.state ≡ state) × early
  SendAt early phase.PutsOpen t a b = (b ≡ one) × Has t
  SendAt early phase.ReadsAnswer t a b = (b ≡ one) × Has t
  SendAt early phase.AsksAgree t a b = (b ≡ s.got one u.Accept) × HasHalf t × HasSize t
  SendAt early phase.PutsAccept t a b = (b ≡ one) × Has t × (accepted ≡ true)
  SendAt early phase.AsksState t a b = StateSend t b
  SendAt early phase.AsksDenied t a b = LastAt a b
  SendAt early phase.AsksClose t a b = LastAt a b
  SendAt early (phase.AsksLast y) t a b = LastAt a b
  SendAt early (phase.PutsLast y) t a b = LastAt a b
  SendAt early (phase.Ended y) t a b = LastAt a b
  SendAt early phase.ReadsOpen t a b = ⊥
  SendAt early phase.AsksPeer t a b = ⊥
  SendAt early phase.AsksStands t a b = ⊥
  SendAt early (phase.AsksNewLane again) t a b = ⊥
  SendAt early phase.AsksSpare t a b = ⊥
  SendAt early phase.AsksRoom t a b = ⊥
  SendAt early phase.AsksOldLane t a b = ⊥
  SendAt early phase.AsksBind t a b = ⊥
  SendAt early p t a b = OpenSend p t a b

  pub open_at : (early : Type 0) (p : Phase) (t : State) (a : Action) (b : SendEnd) → is_open p ≡ true
      → OpenSend p t a b → SendAt early p t a b
  open_at early phase.Puts t a b i k = k
  open_at early phase.Reads t a b i k = k
  open_at early phase.AsksDue t a b i k = k
  open_at early phase.AsksBatch t a b i k = k
  open_at early phase.AsksStart t a b i k = k
  open_at early phase.AsksStillIdle t a b i k = k
  open_at early (phase.AsksStep step) t a b i k = k
  open_at early phase.AsksState t a b i k = record { heard = k.heard; before = k.before; is = inl k.is }
  open_at early (phase.AsksSecure j n) t a b i k = k
  open_at early (phase.AsksComplete j n) t a b i k = k
  open_at early (phase.AsksDrop j found) t a b i k = k
  open_at early phase.PutsClose t a b i k = k
  open_at early phase.ReadsCloseAck t a b i k = k
  open_at early p t a b i k = absurd (never i)

  pub at_open : (early : Type 0) (p : Phase) (t : State) (a : Action) (b : SendEnd) → is_open p ≡ true
      → asks_state p ≡ false → SendAt early p t a b → OpenSend p t a b
  at_open early phase.Puts t a b i j k = k
  at_open early phase.Reads t a b i j k = k
  at_open early phase.AsksDue t a b i j k = k
  at_open early phase.AsksBatch t a b i j k = k
  at_open early phase.AsksStart t a b i j k = k
  at_open early phase.AsksStillIdle t a b i j k = k
  at_open early (phase.AsksStep step) t a b i j k = k
  at_open early phase.AsksState t a b i j k = absurd (never (sym j))
  at_open early (phase.AsksSecure m n) t a b i j k = k
  at_open early (phase.AsksComplete m n) t a b i j k = k
  at_open early (phase.AsksDrop m found) t a b i j k = k
  at_open early phase.PutsClose t a b i j k = k
  at_open early phase.ReadsCloseAck t a b i j k = k
  at_open early p t a b i j k = absurd (never i)

  pub last_at : (early : Type 0) (p : Phase) (t : State) (a : Action) (b : SendEnd) → is_last_phase p ≡ true
      → LeftAt p t a b → SendAt early p t a b
  last_at early phase.AsksDenied t a b i k = k
  last_at early phase.AsksClose t a b i k = k
  last_at early (phase.AsksLast y) t a b i k = k
  last_at early (phase.PutsLast y) t a b i k = k
  last_at early (phase.Ended y) t a b i k = k
  last_at early p t a b i k = absurd (never i)

  pub at_last : (early : Type 0) (p : Phase) (t : State) (a : Action) (b : SendEnd) → is_last_phase p ≡ true
      → SendAt early p t a b → LastAt a b
  at_last early phase.AsksDenied t a b i k = k
  at_last early phase.AsksClose t a b i k = k
  at_last early (phase.AsksLast y) t a b i k = k
  at_last early (phase.PutsLast y) t a b i k = k
  at_last early (phase.Ended y) t a b i k = k
  at_last early p t a b i k = absurd (never i)

  -- behind an event: what is put now is allowed, and leads to the end that the session has
  pub record AfterSend (early : Type 0) (mid : SendEnd) (a : Action) (new : State) : Type 0 where
    pub ended : SendEnd
    pub run : s.IsSendingEnd mid (pending a) ended
    pub at : SendAt early new.phase new a ended

  pub opened_after : (early : Type 0) (mid : SendEnd) (a : Action) (new : State) → is_open new.phase ≡ true
      → OpenAfter mid a new → AfterSend early mid a new
  opened_after early mid a new i k =
      record { ended = k.ended; run = k.run; at = open_at early new.phase new a k.ended i k.at }

  pub ended_after : (early : Type 0) (mid : SendEnd) (a : Action) (new : State) → is_last_phase new.phase ≡ true
      → pending a ≡ [] → LeftAt new.phase new a (send_all mid (pending a)) → AfterSend early mid a new
  ended_after early mid a new i e k = record {
    ended = mid;
    run = subst (λ z. s.IsSendingEnd mid z mid) (sym e) refl;
    at = last_at early new.phase new a mid i (subst (λ z. LeftAt new.phase new a (send_all mid z)) e k);
  }

  put_last : (p : Phase) → IsPutLast p → is_last_phase p ≡ true
  put_last (phase.PutsLast y) k = refl
  put_last p k = elim k [ ]

  -- ---- what is wanted

  -- the session is open from here on
  pub record OpensAs (t : State) (mid : SendEnd) : Type 0 where
    pub heard : Option LaneUnit
    pub before : List ℕ
    pub is : mid ≡ listed t.send heard before
    pub calm : Calm t mid

  abbrev pub SendWaits : (early : Type 0) (mid : SendEnd) → Wanted → Type 0
  SendWaits early mid (Aborts reason) = Unit {0}
  SendWaits early mid (Rejects reason) = Unit {0}
  SendWaits early mid (Ends y) = Unit {0}
  SendWaits early mid (Puts y t) = (transfer_unit y ≡ []) × SendAt early t.phase t (action.Put y) mid
  SendWaits early mid (Asks q t) = SendAt early t.phase t (action.Ask q) mid
  SendWaits early mid (Reads t) = SendAt early t.phase t action.Read mid
  SendWaits early mid (Goes_on t) = OpensAs t mid
  SendWaits early mid (Excepts t f) = ⊥
  SendWaits early mid Never = Unit {0}

  pub if_waits : (early : Type 0) (mid : SendEnd) (c : Bool) (w z : Wanted) → (c ≡ true → SendWaits early mid w)
      → (c ≡ false → SendWaits early mid z) → SendWaits early mid (if c then w else z)
  if_waits early mid true w z p q = p refl
  if_waits early mid false w z p q = q refl

  goes_after : (early : Type 0) (mid : SendEnd) (v : State) (a : Action) (new : State) → OpensAs v mid
      → GoesOn v a new → AfterSend early mid a new
  goes_after early mid v a new k g =
      elim (goes_way v a new g) [ inl i ↦ on i | inr j ↦ off j ]
    where
      on : is_open new.phase ≡ true → AfterSend early mid a new
      on i = opened_after early mid a new i
          (open_after mid v (Goes_on v) a new (k.heard, k.before, sym k.is, tt) k.calm (goes_common v a new g) g i)

      off : Answered a new → AfterSend early mid a new
      off j = ended_after early mid a new (put_last new.phase j.last)
          (sym (action_put a (goes_common v a new g)) ∙ j.silent [])
          (left_after v (Goes_on v) a new mid k.calm g)

  quiet_after : (early : Type 0) (mid : SendEnd) (a z : Action) (new n : State) → a ≡ z → new ≡ n → pending z ≡ []
      → SendAt early n.phase n z mid → AfterSend early mid a new
  quiet_after early mid a z new n p q e k = record {
    ended = mid;
    run = subst (λ w. s.IsSendingEnd mid (pending w) mid) (sym p)
        (subst (λ w. s.IsSendingEnd mid w mid) (sym e) refl);
    at = subst (λ w. SendAt early new.phase new w mid) (sym p)
        (subst (λ w. SendAt early w.phase w z mid) (sym q) k);
  }

  pub waits_after : (early : Type 0) (mid : SendEnd) (c : State) (w : Wanted) (a : Action) (new : State)
      → SendWaits early mid w → Does c w a new → AfterSend early mid a new
  waits_after early mid c (Puts y t) a new k d = quiet_after early mid a _ new t d.0 d.1 (ap puts_of k.0) k.1
  waits_after early mid c (Asks q t) a new k d = quiet_after early mid a _ new t d.0 d.1 refl k
  waits_after early mid c (Reads t) a new k d = quiet_after early mid a _ new t d.0 d.1 refl k
  waits_after early mid c (Goes_on t) a new k d = goes_after early mid t a new k d
  waits_after early mid c (Excepts t f) a new k d = absurd k
  waits_after early mid c Never a new k d = elim d [ ]
  waits_after early mid c any3 a new k d = quiet_after early mid a _ new _ d.0 d.1 refl tt
