-- What the first agent does over the link, and that it does what is next.
use Rattle.std.proofs.Common.{◌≡◌, ◌<◌, ◌≤◌, ℕ, zero, suc, ◌+◌, ◌-◌, ◌==◌, Bool, true, false, nat_lt}
use Rattle.std.proofs.Common.{if◌then◌else◌, List, [], ◌∷◌, ◌++◌, Some, refl, sym, ◌∙◌, ap}
use Rattle.std.proofs.Common.{subst, arith}
use Rattle.std.proofs.lemmas.Bool.{eq-eqb, lt-ltb, le-ltb}
use Rattle.mta_units.specs.declared.unit.Unit.{Unit as AnyUnit}
use Rattle.mta_units.specs.declared.unit.Unit.TheVariants as unit
use Rattle.mta_lane_send.specs.declared.state.SendState.{SendState}
use Rattle.mta_lane_send.specs.declared.state.SendState.TheVariants as state
use Rattle.mta_lane_send.specs.Half.{confirmed_of, goes_on}
use Rattle.mta_transfer_rules.specs.Pieces.{is_last, piece_of}
use Rattle.mta_transfer_rules.specs.Sending as s
use Rattle.mta_transfer_rules.specs.Sending.{SendEnd, SendStage, is_dropping, stage_at_piece}
use Rattle.mta_session.specs.declared.event.Action.{Action}
use Rattle.mta_session.specs.declared.event.Action.TheVariants as action
use Rattle.mta_session.specs.declared.event.Event.TheVariants as event
use Rattle.mta_session.specs.declared.phase.Phase.{Phase}
use Rattle.mta_session.specs.declared.phase.Phase.TheVariants as phase
use Rattle.mta_session.specs.declared.phase.OwnStep.{OwnStep}
use Rattle.mta_session.specs.declared.phase.OwnStep.TheVariants as own
use Rattle.mta_session.specs.Follows.{Does, GoesOn, counted}
use Rattle.mta_session.specs.Sending.{called}
use Rattle.mta_session.specs.State.{State}
use Rattle.mta_session.specs.Wanted.{Asks, ask_of}
use Rattle.mta_session_next_laws.specs.Next.{next_of_sender}
use Rattle.mta_session_next_laws.proofs.Answers.{sync_acks, end_acks}
use Rattle.mta_session_next_laws.proofs.Calls.{holders_ask}
use Rattle.mta_session_next_laws.proofs.Holding.{holders_go_on}
use Rattle.mta_drill_stage_laws.specs.Settings.{FirstHolds, Listens, SecondHolds, Setting, acks, caller, half_at}
use Rattle.mta_drill_stage_laws.specs.Settings.{octets_behind, under_way}
use Rattle.mta_drill_stage_laws.specs.Stages.{First, Second}
use Rattle.mta_drill_stage_laws.specs.Breaks.{Breaks}
use Rattle.mta_drill_stage_laws.specs.World.{CallerActs, Link, Party, World, came_to}
use Rattle.mta_drill_stage_laws.proofs.Acts.{puts_over, reads_first, told_at}
use Rattle.mta_drill_stage_laws.proofs.Pieces.{suc-is}
use Rattle.mta_drill_stage_laws.proofs.Spools.{confirmed_so, going_so, last_so}
use Rattle.mta_lane_recv.specs.declared.state.Last.{Last}
use Rattle.mta_transfer_rules.specs.Receiving.{RecvEnd}

-- ---- pairs

-- what is next, as two facts
pub action_is : (p q : Action × State) → p ≡ q → p.0 ≡ q.0
action_is p q e = ap (λ (z : Action × State). z.0) e

pub state_is : (p q : Action × State) → p ≡ q → p.1 ≡ q.1
state_is p q e = ap (λ (z : Action × State). z.1) e

pub pick_so : (b : Bool) (p q : Action × State) → b ≡ true → (if b then p else q) ≡ p
pick_so b p q e = rw e refl

pub pick_not : (b : Bool) (p q : Action × State) → b ≡ false → (if b then p else q) ≡ q
pick_not b p q e = rw e refl

-- ---- acknowledgements

pub acks-first : (c j : ℕ) → acks c (j + 1) ≡ unit.SyncAck (c + 1) ∷ acks (c + 1) j
acks-first c j = ap (acks c) (sym (suc-is j))

pub acks-last : (c j n : ℕ) → c + j ≡ n → acks c j ++ unit.SyncAck (n + 1) ∷ [] ≡ acks c (j + 1)
acks-last c zero n e =
    ap (λ (z : ℕ). unit.SyncAck (z + 1) ∷ []) (let q : n ≡ c = omega (arith, e) in q) ∙ sym (acks-first c 0)
acks-last c (suc j) n e =
    ap (λ us. unit.SyncAck (c + 1) ∷ us) (acks-last (c + 1) j n (omega (arith, e)))
    ∙ ap (λ us. unit.SyncAck (c + 1) ∷ us) (ap (acks (c + 1)) (sym (suc-is j))) ∙ ap (acks c) (suc-is (suc j))

-- ---- what is next

phase_free : (z : SendStage) (x : Setting) (left : ℕ) (at : Phase) (e : SendEnd)
    → next_of_sender z (caller x left at e) ≡ next_of_sender z (caller x left phase.Puts e)
phase_free s.Quiet x left at e = refl
phase_free s.Opened x left at e = refl
phase_free (s.Started k) x left at e = refl
phase_free (s.Next k n) x left at e = refl
phase_free (s.Sync_next k n) x left at e = refl
phase_free (s.Last_put k n) x left at e = refl
phase_free (s.End_put k n) x left at e = refl
phase_free (s.Resume_put k n) x left at e = refl
phase_free (s.Discard_put k) x left at e = refl

pub caller_goes : (x : Setting) (left : ℕ) (at : Phase) (e : SendEnd) (a : Action) (new : State)
    → is_dropping e.state ≡ false → GoesOn (caller x left at e) a new
    → ◌≡◌ {A = Action × State} (a, new) (next_of_sender e.stage (caller x left phase.Puts e))
caller_goes x left at e a new d g =
    holders_go_on (caller x left at e) a new refl d refl g ∙ phase_free e.stage x left at e

pub not_dropped : (b : Bool) (k c : ℕ) → is_dropping (under_way b k c) ≡ false
not_dropped true k c = refl
not_dropped false k c = refl

-- ---- a unit is put

-- the caller has put a unit, and goes on from this stage
pub record Spoke (x : Setting) (w v : World) (left : ℕ) (st : SendState) (octets : List ℕ) (z : SendStage) (y : AnyUnit)
    : Type 0 where
  pub says : ◌≡◌ {A = Action × State} (v.calling.wants, v.calling.session)
      (next_of_sender z (caller x left phase.Puts (half_at st octets z)))
  pub spool : v.calling.spool ≡ w.calling.spool
  pub came_is : v.calling.came ≡ w.calling.came
  pub link : v.link ≡ w.link
  pub other : v.listening ≡ came_to w.listening (y ∷ [])

pub put_goes : (x : Setting) (left : ℕ) (st : SendState) (octets : List ℕ) (z : SendStage) (y : AnyUnit) (w v : World)
    → is_dropping st ≡ false
    → ◌≡◌ {A = Action × State} (w.calling.wants, w.calling.session)
    (action.Put y, caller x left phase.Puts (half_at st octets z))
    → w.link.is_broken ≡ false → CallerActs w v → Spoke x w v left st octets z y
put_goes x left st octets z y w v d says b h =
    let wants = action_is (w.calling.wants, w.calling.session)
    (action.Put y, caller x left phase.Puts (half_at st octets z)) says in
    let session = state_is (w.calling.wants, w.calling.session)
    (action.Put y, caller x left phase.Puts (half_at st octets z)) says in
    let talk = puts_over w.calling v.calling w.link v.link h.did y wants b h.acts in
    let f = told_at w.calling v.calling event.Go w.calling.came (caller x left phase.Puts (half_at st octets z)) session
    talk.told in
    record {
      says = caller_goes x left phase.Puts (half_at st octets z) v.calling.wants v.calling.session d f;
      spool = talk.spool;
      came_is = talk.told.came_is;
      link = talk.link;
      other = h.other ∙ ap (came_to w.listening) talk.put_is;
    }

abbrev pub first_spoke : (x : Setting) (w v : World) (done c : ℕ) (ending : Bool) (z to : SendStage) (y : AnyUnit)
    (h : First x w done c ending z)
    → Spoke x w v h.left (under_way ending (done + 1) c) (octets_behind x done) to y → First x v done c ending to
first_spoke x w v done c ending z to y h spoke = record {
  below = h.below;
  left = h.left;
  transfer = h.transfer;
  is = h.is;
  speaks = record {
    says = spoke.says;
    first = subst (λ q. FirstHolds x q done (under_way ending (done + 1) c) (Some h.transfer)) (sym spoke.spool)
        h.speaks.first;
  };
  room = h.room;
}

pub second_gets : (x : Setting) (w v : World) (done read left : ℕ) (Has : ℕ → ℕ → Last → List (List ℕ) → Type 0)
    (Bears : Breaks → Type 0) (f : RecvEnd) (up : List AnyUnit) (st : SendState) (octets : List ℕ) (z : SendStage)
    (y : AnyUnit) → Second x w done Has Bears read action.Read phase.Reads f [] up
    → Spoke x w v left st octets z y
    → Second x v done Has Bears read action.Read phase.Reads f (y ∷ []) up
second_gets x w v done read left Has Bears f up st octets z y h spoke = record {
  right = h.right;
  listens = subst (λ q. Listens x q action.Read phase.Reads h.right f (y ∷ [])) (sym spoke.other) (record {
    wants_is = h.listens.wants_is;
    session_is = h.listens.session_is;
    came_is = ap (λ us. us ++ y ∷ []) h.listens.came_is;
  });
  got = h.got;
  pieces = h.pieces;
  holds = subst (λ (q : Party). SecondHolds x q.spool h.got f.high f.last h.pieces) (sym spoke.other) h.holds;
  stands = h.stands;
  room = h.room;
  up_is = spoke.came_is ∙ h.up_is;
  whole_link = ap (λ (l : Link). l.is_broken) spoke.link ∙ h.whole_link;
  marks = subst (λ (l : Link). Bears l.breaks) (sym spoke.link) h.marks;
}

-- ---- pieces

-- the next piece is put while the window lets it
pub piece_due : (x : Setting) (left k c n : ℕ) (b : Bool) (octets : List ℕ) → n < c + 2
    → next_of_sender (s.Next k n) (caller x left phase.Puts (half_at (under_way b k c) octets (s.Next k n)))
    ≡ (
      action.Put (unit.Piece (piece_of 1024 octets (n + 1))),
      caller x left phase.Puts (half_at (under_way b k c) octets (stage_at_piece 1024 octets (s.Next k n))),
    )
piece_due x left k c n b octets less =
    pick_so (nat_lt n (confirmed_of (under_way b k c) + 2)) _ _
    (lt-ltb n (confirmed_of (under_way b k c) + 2) (omega (arith, confirmed_so b k c, less)))

-- and the next unit is read where it is full
pub window_full : (x : Setting) (left k c n : ℕ) (b : Bool) (octets : List ℕ) → n ≡ c + 2
    → next_of_sender (s.Next k n) (caller x left phase.Puts (half_at (under_way b k c) octets (s.Next k n)))
    ≡ (action.Read, caller x left phase.Reads (half_at (under_way b k c) octets (s.Next k n)))
window_full x left k c n b octets full =
    pick_not (nat_lt n (confirmed_of (under_way b k c) + 2)) _ _
    (le-ltb n (confirmed_of (under_way b k c) + 2) (omega (arith, confirmed_so b k c, full)))

pub stage_so : (k n : ℕ) (b : Bool) (octets : List ℕ) → is_last 1024 octets (n + 1) ≡ b
    → stage_at_piece 1024 octets (s.Next k n) ≡ (if b then s.Last_put k (n + 1) else s.Sync_next k (n + 1))
stage_so k n b octets e = ap (λ (z : Bool). if z then s.Last_put k (n + 1) else s.Sync_next k (n + 1)) e

-- End is put where it may not be given up any more
pub end_due : (x : Setting) (left k c n : ℕ) (octets : List ℕ)
    → next_of_sender (s.Last_put k n) (caller x left phase.Puts (half_at (state.Ending k c) octets (s.Last_put k n)))
    ≡ (action.Put (unit.End k), caller x left phase.Puts (half_at (state.Ending k c) octets (s.End_put k n)))
end_due x left k c n octets = pick_so (k == k) _ _ (eq-eqb k k refl)

-- ---- answers are read

-- the caller has read a unit for which a step is called
pub record Called (x : Setting) (w v : World) (left : ℕ) (e : SendEnd) (step : OwnStep) (rest : List AnyUnit)
    : Type 0 where
  pub wants : v.calling.wants ≡ action.Ask (ask_of (caller x left phase.Reads e) step)
  pub session : v.calling.session ≡ caller x left (phase.AsksStep step) e
  pub spool : v.calling.spool ≡ w.calling.spool
  pub came_is : v.calling.came ≡ rest
  pub link : v.link ≡ w.link
  pub other : v.listening ≡ came_to w.listening []

pub read_calls : (x : Setting) (left : ℕ) (e : SendEnd) (y : AnyUnit) (rest : List AnyUnit) (step : OwnStep)
    (w v : World) → w.calling.wants ≡ action.Read → w.calling.session ≡ caller x left phase.Reads e
    → w.calling.came ≡ y ∷ rest → w.link.is_broken ≡ false → 1 < left → called e y ≡ Some step → CallerActs w v
    → Called x w v (left - 1) e step rest
read_calls x left e y rest step w v wants session came b more calls h =
    let talk = reads_first w.calling v.calling w.link v.link h.did rest y wants b came h.acts in
    let t = caller x left phase.Reads e in
    let f = told_at w.calling v.calling (event.Unit y) rest t session talk.told in
    let does : Does (counted t (event.Unit y))
    (Asks (ask_of (caller x (left - 1) phase.Reads e) step) (caller x (left - 1) (phase.AsksStep step) e))
    v.calling.wants v.calling.session
    = subst (λ z. Does (counted t (event.Unit y)) z v.calling.wants v.calling.session)
    (holders_ask t y step refl refl more calls) f in
    record {
      wants = does.0;
      session = does.1;
      spool = talk.spool;
      came_is = talk.told.came_is;
      link = talk.link;
      other = h.other ∙ ap (came_to w.listening) talk.put_is;
    }

-- an acknowledgement calls for Confirm
pub ack_calls : (b : Bool) (k c : ℕ) (octets : List ℕ) (z : SendStage) → c + 1 ≤ s.synced z
    → called (half_at (under_way b k c) octets z) (unit.SyncAck (c + 1)) ≡ Some (own.Confirm (c + 1))
ack_calls b k c octets z within = sync_acks (half_at (under_way b k c) octets z) (c + 1)
    (subst (λ m. goes_on (under_way b k c) m ≡ true) (sym (last_so b k c)) (going_so b k c))
    (omega (arith, confirmed_so b k c)) within

pub end_calls : (k c n : ℕ) (octets : List ℕ)
    → called (half_at (state.Ending k c) octets (s.End_put k n)) (unit.EndAck k) ≡ Some own.Sent
end_calls k c n octets =
    end_acks (half_at (state.Ending k c) octets (s.End_put k n)) k n (eq-eqb k k refl) refl
