-- What a session finds of octets is so, call by call.
use Rattle.std.proofs.Common.{◌≡◌, inl, inr, ℕ, zero, suc, ◌+◌, ◌-◌, ◌≤◌, if◌then◌else◌, Bool, false}
use Rattle.std.proofs.Common.{Option, Some, None, Result, Ok, Err, List, [], ◌∷◌, ◌++◌, take}
use Rattle.std.proofs.Common.{refl, sym, ap, subst, ◌∙◌, arith}
use Rattle.std.proofs.lemmas.Option.{slice_get_within}
use Rattle.std.proofs.lemmas.Bool.{eq-eqb}
use Rattle.mta_units.specs.declared.unit.Unit.{Unit as AnyUnit}
use Rattle.mta_transfer_rules.specs.Lanes as h
use Rattle.mta_transfer_rules.specs.Lanes.{Halves, SeenStep, Seen, On, Allows, IsHeld, lane_in, halves_after}
use Rattle.mta_transfer_rules.specs.Pieces.{octets_with}
use Rattle.mta_transfer_rules.specs.Receiving as r
use Rattle.mta_transfer_rules.specs.Receiving.{RecvEnd, RecvEvent, RecvStep}
use Rattle.mta_transfer_rules.specs.Units.{LaneUnit}
use Rattle.mta_transfer_rules.specs.Lanes.{Unopened, Open}
use Rattle.mta_transfer_laws.specs.History.{IsOfLanes}
use Rattle.mta_transfer_laws.proofs.Histories.{upto-take}
use Rattle.mta_world.specs.Steps.{pieces_after, IsFaulty, SpellsNothing}
use Rattle.mta_records.specs.declared.fault.CompleteFault.{CompleteFault}
use Rattle.mta_records.specs.declared.fault.CompleteFault.TheVariants as piece
use Rattle.mta_records.specs.declared.fault.StepFault.{StepFault}
use Rattle.mta_session.specs.declared.ask.Ask.{Ask}
use Rattle.mta_session.specs.declared.ask.Ask.TheVariants as ask
use Rattle.mta_session.specs.declared.ask.Reply.{Reply}
use Rattle.mta_session.specs.declared.ask.Reply.TheVariants as reply
use Rattle.mta_session.specs.declared.event.Action.{Action}
use Rattle.mta_session.specs.declared.event.Action.TheVariants as action
use Rattle.mta_session.specs.declared.event.Event.{Event}
use Rattle.mta_session.specs.declared.event.Event.TheVariants as event
use Rattle.mta_session.specs.declared.phase.OwnStep.TheVariants as own
use Rattle.mta_session.specs.declared.phase.Phase.{Phase}
use Rattle.mta_session.specs.declared.phase.Phase.TheVariants as phase
use Rattle.mta_session.specs.State.{State}
use Rattle.mta_session.specs.Wanted.{Wanted, Aborts, Rejects}
use Rattle.mta_session.specs.Fits.{RepliesTo}
use Rattle.mta_session_laws.specs.Runs.{Turn}
use Rattle.mta_session_laws.specs.Turning.{called_for, is_last_phase}
use Rattle.mta_transfer_laws.specs.Receivings.{AreTrue, pieces_behind}
use Rattle.mta_transfer_laws.specs.Sessions as x
use Rattle.mta_transfer_laws.specs.Sessions.{SessionEvent, Made, Looked, Got, Refused, Put, receiving_event}
use Rattle.mta_transfer_laws.specs.Sessions.{receiving_step_of}
use Rattle.mta_transfer_laws.specs.Sessions.{took_of, answers_of, transfer_unit, answer_unit, recv_all, found_by}
use Rattle.mta_lane_match_laws.specs.Asks.{IsAskOf, handed_by}
use Rattle.mta_session_list_laws.specs.Calls.{StepOn, step_told, look_told, told_as, got_as, come_of}
use Rattle.mta_session_list_laws.specs.Standing.{Stands, Looks, StandsAs, ComesTrue}
use Rattle.mta_session_list_laws.proofs.Found.{never}
use Rattle.mta_session_list_laws.proofs.Lanes.{lane_at, step_allowed, step_leads}
use Rattle.mta_session_list_laws.proofs.Received.{is_receiving, quiet_reply, QuietStep, quiet_step}
use Rattle.mta_session_list_laws.proofs.ReceivingPhases.{first, RecvAt, OpenAt}
use Rattle.mta_session_list_laws.proofs.Finding.{Tracks, held_pieces, tracks_between, Owned, IsElse, owned_behind}
use Rattle.mta_session_list_laws.proofs.Finding.{looked_else, got_else, refused_else, made_else, owned_step}
use Rattle.mta_session_list_laws.proofs.Finding.{StandBehind, none_before_step, none_before_look}

-- ---- what is asked of a list

abbrev pub pieces_all : List (List ℕ) → List RecvEvent → List (List ℕ)
pieces_all pieces [] = pieces
pieces_all pieces (y ∷ ys) = pieces_all (pieces_behind pieces y) ys

abbrev pub FindKeeps : (spells : List ℕ → Bool) (lane : ℕ) → RecvEnd → List (List ℕ) → List SessionEvent → Type 0
FindKeeps spells lane b pieces [] = Unit {0}
FindKeeps spells lane b pieces (y ∷ ys) = AreTrue spells b pieces (receiving_event lane y)
    × FindKeeps spells lane (recv_all b (receiving_event lane y)) (pieces_all pieces (receiving_event lane y)) ys

-- units change no pieces
took_true : (spells : List ℕ → Bool) (b : RecvEnd) (pieces : List (List ℕ)) (us : List LaneUnit)
    → AreTrue spells b pieces (took_of us) × (pieces_all pieces (took_of us) ≡ pieces)
took_true spells b pieces [] = (tt, refl)
took_true spells b pieces (y ∷ us) =
    let more = took_true spells (r.recv_after b (r.Took y)) pieces us in ((tt, more.0), more.1)

pub put_true : (spells : List ℕ → Bool) (b : RecvEnd) (pieces : List (List ℕ)) (us : List LaneUnit)
    → AreTrue spells b pieces (answers_of us) × (pieces_all pieces (answers_of us) ≡ pieces)
put_true spells b pieces [] = (tt, refl)
put_true spells b pieces (y ∷ us) =
    let more = put_true spells (r.recv_after b (r.Put y)) pieces us in ((tt, more.0), more.1)

pub got_true : (spells : List ℕ → Bool) (lane : ℕ) (b : RecvEnd) (pieces : List (List ℕ)) (w : Wanted) (y : AnyUnit)
    → AreTrue spells b pieces (receiving_event lane (got_as w y))
    × (pieces_all pieces (receiving_event lane (got_as w y)) ≡ pieces)
got_true spells lane b pieces (Aborts reason) y = (tt, refl)
got_true spells lane b pieces any4 y = took_true spells b pieces (transfer_unit y)

-- ---- positions

module _ (spells : List ℕ → Bool) (history : List Seen) (lane : ℕ) (allow : IsOfLanes spells history) (gen : ℕ) where
  abbrev pub Behind : ℕ → List SessionEvent → Type 0
  Behind n ys = StandBehind spells history lane allow gen n ys

  made_is : (p q i j : ℕ) (a b : SeenStep) → Made p i a ≡ Made q j b → p ≡ q
  made_is p q i j a b e = cc

  pub behind_other : (from seen : ℕ) (y : SessionEvent) (rest : List SessionEvent) → from ≤ seen
      → ((q j : ℕ) (step : SeenStep) → Made q j step ≡ y → from ≤ q) → Behind seen rest → Behind from (y ∷ rest)
  behind_other from seen y rest le here more q j step (inl e) = here q j step e
  behind_other from seen y rest le here more q j step (inr k) =
      let a = more q j step k in omega (arith, le, a)

  pub told_behind : (from seen : ℕ) (q : Ask) (y : Reply) (o : Option StepOn) (look : x.Look) (rest : List SessionEvent)
      → StandsAs spells history from seen q y o → Behind seen rest → Behind from (told_as seen o look ∷ rest)
  told_behind from seen q y (Some z) look rest k more =
      let lt = k.later in
      behind_other from seen (Made (seen - 1) z.lane z.step) rest (omega (arith, lt))
      (λ p j step e. let same = made_is p (seen - 1) j z.lane step z.step e in omega (arith, lt, same)) more
  told_behind from seen q y None look rest k more =
      behind_other from seen (Looked seen look) rest k.later (λ p j step e. cc) more

  got_behind : (from seen : ℕ) (w : Wanted) (u : AnyUnit) (rest : List SessionEvent) → from ≤ seen → Behind seen rest
      → Behind from (got_as w u ∷ rest)
  got_behind from seen (Aborts reason) u rest le more =
      behind_other from seen (Refused u) rest le (λ p j step e. cc) more
  got_behind from seen (Rejects reason) u rest le more =
      behind_other from seen (Got u) rest le (λ p j step e. cc) more
  got_behind from seen any2 u rest le more = behind_other from seen (Got u) rest le (λ p j step e. cc) more

  same_behind : (from seen : ℕ) (rest : List SessionEvent) → seen ≡ from → Behind seen rest → Behind from rest
  same_behind from seen rest e more = subst (λ n. Behind n rest) e more

  pub come_behind : (from seen : ℕ) (p : Phase) (a : Action) (t : Turn) (e : Event) (rest : List SessionEvent)
      → ComesTrue spells history from seen p a e → Behind seen rest → Behind from (come_of a t seen e ++ rest)
  come_behind from seen p (action.Put u) t e rest is more =
      behind_other from seen (Put u) rest (omega (arith, is)) (λ q j step k. cc) more
  come_behind from seen p action.Read t (event.Unit u) rest is more =
      got_behind from seen (called_for t.before.phase t.before u) u rest (omega (arith, is)) more
  come_behind from seen p action.Read t any5 rest is more = same_behind from seen rest is more
  come_behind from seen p (action.Ask a) t (event.Reply y) rest is more =
      told_behind from seen a y (step_told a y) (look_told a y) rest is.1 more
  come_behind from seen p (action.Ask a) t any5 rest is more = same_behind from seen rest is more
  come_behind from seen p (action.Finish y) t e rest is more = same_behind from seen rest is more

-- ---- a reply

told_else : (spells : List ℕ → Bool) (history : List Seen) (lane : ℕ) (allow : IsOfLanes spells history) (gen : ℕ)
    (seen : ℕ) (o : Option StepOn) (look : x.Look) → QuietStep o
    → IsElse spells history lane allow gen (told_as seen o look)
told_else spells history lane allow gen seen (Some z) look k =
    made_else spells history lane allow gen (seen - 1) z.lane z.step k
told_else spells history lane allow gen seen None look k = looked_else spells history lane allow gen seen look

pub got_as_else : (spells : List ℕ → Bool) (history : List Seen) (lane : ℕ) (allow : IsOfLanes spells history) (gen :
    ℕ)
    (w : Wanted) (y : AnyUnit) → IsElse spells history lane allow gen (got_as w y)
got_as_else spells history lane allow gen (Aborts reason) y = refused_else spells history lane allow gen y
got_as_else spells history lane allow gen any5 y = got_else spells history lane allow gen y

secure_phase : (p : Phase) (t : State) (z : Result (Unit {0}) CompleteFault) → is_last_phase p ≡ false
    → RepliesTo p t (reply.Secure z) → (k n : ℕ) × (p ≡ phase.AsksSecure k n)
secure_phase (phase.AsksSecure k n) t z i f = (k, n, refl)
secure_phase (phase.AsksLast e) t z i f = absurd (never (sym i))
secure_phase (phase.AsksStep (own.Confirm m)) t z i f = absurd f
secure_phase p t z i f = absurd f

complete_phase : (p : Phase) (t : State) (z : Result ℕ CompleteFault) → is_last_phase p ≡ false
    → RepliesTo p t (reply.Complete z) → (k n : ℕ) × (p ≡ phase.AsksComplete k n)
complete_phase (phase.AsksComplete k n) t z i f = (k, n, refl)
complete_phase (phase.AsksLast e) t z i f = absurd (never (sym i))
complete_phase (phase.AsksStep (own.Confirm m)) t z i f = absurd f
complete_phase p t z i f = absurd f

drop_ask : (p : Phase) (t : State) (q : Ask) (z : Result (Unit {0}) StepFault) → is_last_phase p ≡ false
    → RepliesTo p t (reply.DropActivity z) → IsAskOf p t q → (k : ℕ) × (q ≡ ask.DropActivity t.lane t.generation k)
drop_ask (phase.AsksDrop k found) t q z i f a = (k, a)
drop_ask (phase.AsksLast e) t q z i f a = absurd (never (sym i))
drop_ask (phase.AsksStep (own.Confirm m)) t q z i f a = absurd f
drop_ask p t q z i f a = absurd f

module _ (spells : List ℕ → Bool) (history : List Seen) (lane : ℕ) (allow : IsOfLanes spells history) (gen : ℕ) where
  -- the pieces that the list leaves, at a length of the history up to which it has each step
  pub record FoundSo (upto : ℕ) (pieces : List (List ℕ)) (n : ℕ) (rest : List SessionEvent) : Type 0 where
    pub before : n ≤ upto
    pub tracks : Tracks gen pieces (lane_at spells history lane allow.allowed n)
    pub owned : Owned spells history lane allow gen n rest

  -- an event that is no step of the pieces
  pub else_found : (from seen : ℕ) (pieces : List (List ℕ)) (n : ℕ) (y : SessionEvent) (rest : List SessionEvent)
      → from ≤ seen → IsElse spells history lane allow gen y → FoundSo from pieces n (y ∷ rest)
      → FoundSo seen pieces n rest
  else_found from seen pieces n y rest le other k =
      let b = k.before in
      record {
        before = omega (arith, le, b);
        tracks = k.tracks;
        owned = owned_behind spells history lane allow gen n y rest other k.owned;
      }

-- a lane that is open was opened
held_seen : (history : List Seen) (lane n : ℕ) → (lane_in lane (take n history)).phase ≡ Open → 1 ≤ n
held_seen history lane zero e = absurd (let c : Unopened ≡ Open = e in cc)
held_seen history lane (suc n) e = omega arith

module _ (spells : List ℕ → Bool) (history : List Seen) (lane : ℕ) (allow : IsOfLanes spells history) (gen : ℕ)
    (l : Halves) (early : Type 0) (After_at : RecvEnd → Type 0) (Goes : Type 0) where
  abbrev pub So_far : (upto : ℕ) → List (List ℕ) → (n : ℕ) → List SessionEvent → Type 0
  So_far upto pieces n rest = FoundSo spells history lane allow gen upto pieces n rest

  -- what follows a call
  abbrev pub More : (seen : ℕ) → List SessionEvent → Type 0
  More seen rest = (b : RecvEnd) (pieces : List (List ℕ)) (n : ℕ) → After_at b
      → (Goes → So_far seen pieces n rest) → FindKeeps spells lane b pieces rest

  -- ---- a question is answered

  pub record Replied (q : Ask) (y : Reply) (b : RecvEnd) (pieces : List (List ℕ)) (n from seen : ℕ)
      (rest : List SessionEvent) : Type 0 where
    pub stands : StandsAs spells history from seen q y (step_told q y)
    pub found : So_far from pieces n (told_as seen (step_told q y) (look_told q y) ∷ rest)
    pub after : After_at (recv_all b (receiving_event lane (told_as seen (step_told q y) (look_told q y))))
    pub behind : Behind spells history lane allow gen seen rest

  module _ (t : State) (b : RecvEnd) (pieces : List (List ℕ)) (n from seen : ℕ) (rest : List SessionEvent)
      (more : More seen rest) where
    abbrev pub Here : Ask → Reply → Type 0
    Here q y = Replied q y b pieces n from seen rest

    abbrev pub Goal : Ask → Reply → Type 0
    Goal q y = FindKeeps spells lane b pieces (told_as seen (step_told q y) (look_told q y) ∷ rest)

    later_of : (q : Ask) (y : Reply) (o : Option StepOn) → StandsAs spells history from seen q y o → from ≤ seen
    later_of q y (Some z) k = let a = k.later in omega (arith, a)
    later_of q y None k = k.later

    -- a step of the pieces
    piece_goal : (q : Ask) (y : Reply) (step : SeenStep) (st : RecvStep) → Here q y
        → step_told q y ≡ Some (record { lane = lane; step = step }) → receiving_step_of step ≡ r.Made st ∷ []
        → ((m : Halves) → Allows spells m step → gen ≡ m.generation)
        → ((m : Halves) → ((halves_after m step).generation ≡ m.generation)
        × ((halves_after m step).phase ≡ m.phase) × ((halves_after m step).pieces ≡ pieces_after m.pieces st))
        → Goal q y
    piece_goal q y step st k told received held leaves =
        let there : Stands history from seen (record { lane = lane; step = step }) =
        subst (λ o. StandsAs spells history from seen q y o) told k.stands in
        let made : SessionEvent = Made (seen - 1) lane step in
        let lt = there.later in
        let p : ℕ = seen - 1 in
        let up : n ≤ p = (let w = k.found.before in omega (arith, w, lt)) in
        let events : receiving_event lane made ≡ r.Made st ∷ [] =
        ap (λ (c : Bool). if c then receiving_step_of step else []) (eq-eqb lane lane refl) ∙ received in
        let found : So_far from pieces n (made ∷ rest) =
        subst (λ o. So_far from pieces n (told_as seen o (look_told q y) ∷ rest)) told k.found in
        let after : After_at (recv_all b (r.Made st ∷ [])) =
        subst (λ z. After_at (recv_all b z)) events
        (subst (λ o. After_at (recv_all b (receiving_event lane (told_as seen o (look_told q y))))) told k.after) in
        let behind : Behind spells history lane allow gen (p + 1) rest =
        (let e : seen ≡ p + 1 = omega (arith, lt) in
        subst (λ z. Behind spells history lane allow gen z rest) e k.behind) in
        let inside = slice_get_within history p _ there.entry in
        let tracks : Tracks gen pieces (lane_at spells history lane allow.allowed p) =
        tracks_between spells history lane allow gen pieces n p up (omega (arith, inside))
        (none_before_step spells history lane allow gen n p lane step rest found.owned behind) found.tracks in
        let m : Halves = lane_at spells history lane allow.allowed p in
        let now : gen ≡ m.generation = held m (step_allowed spells history lane allow.allowed p step there.entry) in
        let same : m.pieces ≡ pieces = held_pieces gen pieces m now tracks in
        let e : suc p ≡ p + 1 = omega arith in
        let leads : lane_at spells history lane allow.allowed (p + 1) ≡ halves_after m step =
        ap (λ (z : ℕ). lane_at spells history lane allow.allowed z) (sym e)
        ∙ step_leads spells history lane allow.allowed p step there.entry in
        let left = leaves m in
        let tracked : Tracks gen (pieces_after pieces st) (lane_at spells history lane allow.allowed (p + 1)) =
        subst (λ z. Tracks gen (pieces_after pieces st) z) (sym leads) (
          (λ u. tracks.0 (sym left.1 ∙ u)),
          inr (left.0 ∙ sym now, left.2 ∙ ap (λ (z : List (List ℕ)). pieces_after z st) same),
        ) in
        subst (λ o. FindKeeps spells lane b pieces (told_as seen o (look_told q y) ∷ rest)) (sym told)
        (subst (λ z. AreTrue spells b pieces z × FindKeeps spells lane (recv_all b z) (pieces_all pieces z) rest)
        (sym events) (
          (tt, tt),
          more (recv_all b (r.Made st ∷ [])) (pieces_after pieces st) (p + 1) after
              (λ i. record {
                before = omega (arith, lt);
                tracks = tracked;
                owned = owned_step spells history lane allow gen n p lane step rest up found.owned;
              }),
        ))

    -- octets that are none of a message
    finds_goal : (q : Ask) (y : Reply) (j m : ℕ) (o : List ℕ) → Here q y → step_told q y ≡ None
        → look_told q y ≡ x.Finds j m o → IsHeld (lane_in lane (take seen history)) gen
        → ((lane_in lane (take seen history)).pieces ≡ pieces → IsFaulty spells b.stage (octets_with pieces m o))
        → Goal q y
    finds_goal q y j m o k told looked held faulty =
        let there : Looks spells history from seen q y =
        subst (λ z. StandsAs spells history from seen q y z) told k.stands in
        let y0 : SessionEvent = Looked seen (x.Finds j m o) in
        let found : So_far from pieces n (y0 ∷ rest) =
        subst (λ z. So_far from pieces n (Looked seen z ∷ rest)) looked
        (subst (λ z. So_far from pieces n (told_as seen z (look_told q y) ∷ rest)) told k.found) in
        let after : After_at (recv_all b (r.Finds j m o ∷ [])) =
        subst (λ z. After_at (recv_all b (receiving_event lane (Looked seen z)))) looked
        (subst (λ z. After_at (recv_all b (receiving_event lane (told_as seen z (look_told q y))))) told k.after) in
        let up : n ≤ seen = (let w = found.before in let z = there.later in omega (arith, w, z)) in
        let tracks = tracks_between spells history lane allow gen pieces n seen up there.within
        (none_before_look spells history lane allow gen n seen (x.Finds j m o) rest found.owned k.behind)
        found.tracks in
        let as_told : lane_at spells history lane allow.allowed seen ≡ lane_in lane (take seen history) =
        upto-take history lane seen (held_seen history lane seen held.0) in
        let same = held_pieces gen pieces (lane_in lane (take seen history)) held.1
        (subst (Tracks gen pieces) as_told tracks) in
        subst (λ z. FindKeeps spells lane b pieces (told_as seen z (look_told q y) ∷ rest)) (sym told)
        (subst (λ z. FindKeeps spells lane b pieces (Looked seen z ∷ rest)) (sym looked) (
          (faulty same, tt),
          more (recv_all b (r.Finds j m o ∷ [])) pieces n after
              (λ i. else_found spells history lane allow gen from seen pieces n y0 rest there.later
              (looked_else spells history lane allow gen seen (x.Finds j m o)) found),
        ))

    -- anything else
    else_goal : (q : Ask) (y : Reply) → Here q y
        → receiving_event lane (told_as seen (step_told q y) (look_told q y)) ≡ []
        → IsElse spells history lane allow gen (told_as seen (step_told q y) (look_told q y)) → Goal q y
    else_goal q y k none other =
        let y0 : SessionEvent = told_as seen (step_told q y) (look_told q y) in
        let after : After_at b = subst (λ z. After_at (recv_all b z)) none k.after in
        subst (λ z. AreTrue spells b pieces z × FindKeeps spells lane (recv_all b z) (pieces_all pieces z) rest)
        (sym none) (
          tt,
          more b pieces n after
              (λ i. else_found spells history lane allow gen from seen pieces n y0 rest (later_of q y (step_told q y)
              k.stands) other k.found),
        )

    secured_goal : (j m : ℕ) (o : List ℕ) (z : Result (Unit {0}) CompleteFault)
        → Here (ask.Secure lane gen j m o) (reply.Secure z) → b.stage ≡ r.Synced j m o
        → Goal (ask.Secure lane gen j m o) (reply.Secure z)
    secured_goal j m o (Ok w) k s =
        piece_goal (ask.Secure lane gen j m o) (reply.Secure (Ok w)) (h.Secure gen j m o) (r.Secure j m o) k refl refl
        (λ c may. may.0.1) (λ c. (refl, refl, refl))
    secured_goal j m o (Err (piece.Bad f)) k s =
        let told = k.stands.told in
        finds_goal (ask.Secure lane gen j m o) (reply.Secure (Err (piece.Bad f))) j m o k refl refl told.0
        (λ e. subst (λ z. IsFaulty spells z (octets_with pieces m o)) (sym s)
        (subst (λ z. SpellsNothing spells (octets_with z m o)) e told.1))
    secured_goal j m o (Err (piece.Step f)) k s =
        else_goal (ask.Secure lane gen j m o) (reply.Secure (Err (piece.Step f))) k refl
        (looked_else spells history lane allow gen seen x.Elsewhere)

    completed_goal : (j m : ℕ) (o : List ℕ) (z : Result ℕ CompleteFault)
        → Here (ask.Complete lane gen j m o) (reply.Complete z) → b.stage ≡ r.Ended j m o
        → Goal (ask.Complete lane gen j m o) (reply.Complete z)
    completed_goal j m o (Ok w) k s =
        piece_goal (ask.Complete lane gen j m o) (reply.Complete (Ok w)) (h.Complete gen j m o) (r.Complete j m o) k
        refl
        refl (λ c may. may.0.1) (λ c. (refl, refl, refl))
    completed_goal j m o (Err (piece.Bad f)) k s =
        let told = k.stands.told in
        finds_goal (ask.Complete lane gen j m o) (reply.Complete (Err (piece.Bad f))) j m o k refl refl told.0
        (λ e. subst (λ z. IsFaulty spells z (octets_with pieces m o)) (sym s)
        (subst (λ z. spells (octets_with z m o) ≡ false) e told.1))
    completed_goal j m o (Err (piece.Step f)) k s =
        else_goal (ask.Complete lane gen j m o) (reply.Complete (Err (piece.Step f))) k refl
        (looked_else spells history lane allow gen seen x.Elsewhere)

    dropped_goal : (j : ℕ) (z : Result (Unit {0}) StepFault) → Here (ask.DropActivity lane gen j) (reply.DropActivity z)
        → Goal (ask.DropActivity lane gen j) (reply.DropActivity z)
    dropped_goal j (Ok w) k =
        piece_goal (ask.DropActivity lane gen j) (reply.DropActivity (Ok w)) (h.Drop gen j) (r.Drop j) k refl refl
        (λ c may. may.0.1) (λ c. (refl, refl, refl))
    dropped_goal j (Err f) k =
        else_goal (ask.DropActivity lane gen j) (reply.DropActivity (Err f)) k refl
        (looked_else spells history lane allow gen seen x.Elsewhere)

    quiet_goal : (q : Ask) (y : Reply) → Here q y → is_receiving y ≡ false → Goal q y
    quiet_goal q y k i =
        else_goal q y k (quiet_reply lane seen q y i)
        (told_else spells history lane allow gen seen (step_told q y) (look_told q y) (quiet_step q y i))

    -- by the reply

    abbrev pub Stage_at : Ask → Type 0
    Stage_at q = RecvAt early (first l early) t.phase t (action.Ask q) b

    secure_reply : (q : Ask) (z : Result (Unit {0}) CompleteFault) → Here q (reply.Secure z)
        → is_last_phase t.phase ≡ false → IsAskOf t.phase t q
        → RepliesTo t.phase t (reply.Secure z) → t.lane ≡ lane → t.generation ≡ gen
        → Stage_at q → Goal q (reply.Secure z)
    secure_reply q z k i a f e d at =
        let p = secure_phase t.phase t z i f in
        let asked : q ≡ ask.Secure t.lane t.generation p.0 p.1 (handed_by q) =
        subst (λ c. IsAskOf c t q) p.2 a in
        let open_ : OpenAt (phase.AsksSecure p.0 p.1) t (action.Ask q) b =
        subst (λ c. RecvAt early (first l early) c t (action.Ask q) b) p.2 at in
        let same : q ≡ ask.Secure lane gen p.0 p.1 (handed_by q) =
        asked ∙ ap (λ (c : ℕ). ask.Secure c t.generation p.0 p.1 (handed_by q)) e
        ∙ ap (λ (c : ℕ). ask.Secure lane c p.0 p.1 (handed_by q)) d in
        let stage : b.stage ≡ r.Synced p.0 p.1 (handed_by q) =
        ap (λ (c : RecvEnd). c.stage) open_.is ∙ ap (λ (c : List ℕ). r.Synced p.0 p.1 c) (sym open_.on) in
        subst (λ c. Here c (reply.Secure z) → Goal c (reply.Secure z)) (sym same)
        (λ w. secured_goal p.0 p.1 (handed_by q) z w stage) k

    complete_reply : (q : Ask) (z : Result ℕ CompleteFault) → Here q (reply.Complete z)
        → is_last_phase t.phase ≡ false → IsAskOf t.phase t q
        → RepliesTo t.phase t (reply.Complete z) → t.lane ≡ lane → t.generation ≡ gen
        → Stage_at q → Goal q (reply.Complete z)
    complete_reply q z k i a f e d at =
        let p = complete_phase t.phase t z i f in
        let asked : q ≡ ask.Complete t.lane t.generation p.0 p.1 (handed_by q) =
        subst (λ c. IsAskOf c t q) p.2 a in
        let open_ : OpenAt (phase.AsksComplete p.0 p.1) t (action.Ask q) b =
        subst (λ c. RecvAt early (first l early) c t (action.Ask q) b) p.2 at in
        let same : q ≡ ask.Complete lane gen p.0 p.1 (handed_by q) =
        asked ∙ ap (λ (c : ℕ). ask.Complete c t.generation p.0 p.1 (handed_by q)) e
        ∙ ap (λ (c : ℕ). ask.Complete lane c p.0 p.1 (handed_by q)) d in
        let stage : b.stage ≡ r.Ended p.0 p.1 (handed_by q) =
        ap (λ (c : RecvEnd). c.stage) open_.is ∙ ap (λ (c : List ℕ). r.Ended p.0 p.1 c) (sym open_.on) in
        subst (λ c. Here c (reply.Complete z) → Goal c (reply.Complete z)) (sym same)
        (λ w. completed_goal p.0 p.1 (handed_by q) z w stage) k

    drop_reply : (q : Ask) (z : Result (Unit {0}) StepFault) → Here q (reply.DropActivity z)
        → is_last_phase t.phase ≡ false → IsAskOf t.phase t q
        → RepliesTo t.phase t (reply.DropActivity z) → t.lane ≡ lane → t.generation ≡ gen
        → Goal q (reply.DropActivity z)
    drop_reply q z k i a f e d =
        let p = drop_ask t.phase t q z i f a in
        let same : q ≡ ask.DropActivity lane gen p.0 =
        p.1 ∙ ap (λ (c : ℕ). ask.DropActivity c t.generation p.0) e
        ∙ ap (λ (c : ℕ). ask.DropActivity lane c p.0) d in
        subst (λ c. Here c (reply.DropActivity z) → Goal c (reply.DropActivity z)) (sym same)
        (λ w. dropped_goal p.0 z w) k

    pub reply_finds : (q : Ask) (y : Reply) → Here q y → is_last_phase t.phase ≡ false
        → IsAskOf t.phase t q → RepliesTo t.phase t y → t.lane ≡ lane
        → t.generation ≡ gen → Stage_at q → Goal q y
    reply_finds q (reply.Secure z) k i a f e d at = secure_reply q z k i a f e d at
    reply_finds q (reply.Complete z) k i a f e d at = complete_reply q z k i a f e d at
    reply_finds q (reply.DropActivity z) k i a f e d at = drop_reply q z k i a f e d
    reply_finds q y k i a f e d at = quiet_goal q y k refl
