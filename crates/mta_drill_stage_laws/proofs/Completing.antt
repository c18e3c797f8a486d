-- What the second agent makes durable, and the end of a message.
use Rattle.std.proofs.Common.{◌≡◌, ◌<◌, ◌≤◌, ℕ, ◌+◌, ◌-◌, ◌*◌, ◌==◌, ◌&&◌, ◌||◌, Bool, true, false, nat_le}
use Rattle.std.proofs.Common.{List, [], ◌∷◌, ◌++◌, Some, Result, refl, sym, ◌∙◌, ap, subst}
use Rattle.std.proofs.Common.{arith, append-nil}
use Rattle.std.proofs.lemmas.Bool.{and_from, eq-eqb, le-leb, or_left, or_right}
use Rattle.mta_units.specs.declared.unit.Unit.{Unit as AnyUnit}
use Rattle.mta_units.specs.declared.unit.Unit.TheVariants as unit
use Rattle.mta_lane_recv.specs.declared.state.Last.TheVariants as last
use Rattle.mta_lane_recv.specs.Half.{is_done, stands, takes_piece}
use Rattle.mta_transfer_rules.specs.Pieces.{is_last, piece_of}
use Rattle.mta_transfer_rules.specs.Receiving as r
use Rattle.mta_transfer_rules.specs.Receiving.{RecvEnd}
use Rattle.mta_transfer_rules.specs.Units as u
use Rattle.mta_records.specs.declared.fault.CompleteFault.{CompleteFault}
use Rattle.mta_records.specs.declared.step.Step.TheVariants as step
use Rattle.mta_histories.specs.Lanes.{Lane, lane_at}
use Rattle.mta_histories.specs.Lanes.{State as SpoolState}
use Rattle.mta_session.specs.declared.ask.Ask.TheVariants as ask
use Rattle.mta_session.specs.declared.ask.Reply.{Reply}
use Rattle.mta_session.specs.declared.ask.Reply.TheVariants as reply
use Rattle.mta_session.specs.declared.event.Action.{Action}
use Rattle.mta_session.specs.declared.event.Action.TheVariants as action
use Rattle.mta_session.specs.declared.event.Event.TheVariants as event
use Rattle.mta_session.specs.declared.phase.Phase.TheVariants as phase
use Rattle.mta_session.specs.Follows.{Follows, GoesOn}
use Rattle.mta_session.specs.Receiving.{taken}
use Rattle.mta_session.specs.RecvFits.{RecvFits, RecvFitsAt}
use Rattle.mta_session.specs.State.{State}
use Rattle.mta_session_next_laws.specs.Next.{next_of_receiver}
use Rattle.mta_drill_stage_laws.specs.Settings.{HasMore, HoldsPiece, IsSized, Marks, Of_part}
use Rattle.mta_drill_stage_laws.specs.Settings.{SecondHolds, Setting, Stands, StandsWhole, acks, firsts}
use Rattle.mta_drill_stage_laws.specs.Settings.{listener, octets_behind, second_lane}
use Rattle.mta_drill_stage_laws.specs.Stages.{Acknowledges, Answers, AtEnd, AtNext, Completes, Ended, SecondOf}
use Rattle.mta_drill_stage_laws.specs.World.{Completed, IsLane, Link, ListenerActs, Made, Replied}
use Rattle.mta_drill_stage_laws.specs.World.{World, came_to}
use Rattle.mta_drill_stage_laws.proofs.Acts.{asks_so, told_at, untaken}
use Rattle.mta_drill_stage_laws.proofs.Breaking.{Taken, complete_taken}
use Rattle.mta_drill_stage_laws.proofs.Hearing.{Heard, ack_due, answers_put, at_stage, done_is, goes_so, heard_as}
use Rattle.mta_drill_stage_laws.proofs.Hearing.{hears}
use Rattle.mta_drill_stage_laws.proofs.Hearing.{high_is, listener_goes, second_heard, staged, true_false, up_same}
use Rattle.mta_drill_stage_laws.proofs.Pieces.{few-more, piece-short, piece-some}
use Rattle.mta_drill_stage_laws.proofs.Speaking.{action_is, pick_not, pick_so, state_is}
use Rattle.mta_drill_stage_laws.proofs.Spools.{second_completes, second_secures, stands_got}

-- ---- a piece is made durable

secure_reply : (n g k m : ℕ) (piece : List ℕ) (t : State) (s new : SpoolState) (y : Reply)
    → Replied (ask.Secure n g k m piece) t s y new
    → (z : Result (Unit {0}) CompleteFault) × (y ≡ reply.Secure z) × Made s (step.Secure n g k m piece) z new
secure_reply n g k m piece t s new (reply.Secure z) h = (z, refl, h)
secure_reply n g k m piece t s new any0 h = elim h [ ]

partial_stands : (k n : ℕ) → stands (last.Partial k n) k n ≡ true
partial_stands k n = and_from (k == k) (nat_le n n) (eq-eqb k k refl) (le-leb n n (omega arith))

partial_goes : (k n : ℕ) → (is_done (last.Partial k n) k || takes_piece k (last.Partial k n) k (n + 1)) ≡ true
partial_goes k n = or_right (is_done (last.Partial k n) k) (takes_piece k (last.Partial k n) k (n + 1))
    (and_from ((k == k) && nat_le 1 (n + 1)) (nat_le (n + 1) (n + 1))
    (and_from (k == k) (nat_le 1 (n + 1)) (eq-eqb k k refl) (le-leb 1 (n + 1) (omega arith)))
    (le-leb (n + 1) (n + 1) (omega arith)))

pub secured : (x : Setting) (w v : World) (done c m j : ℕ) (f : RecvEnd) → done ≤ 1000 → c + j ≡ m
    → HasMore (octets_behind x done) m → f.stage ≡ r.Synced (done + 1) (m + 1) [] → f.acked + 1 ≡ m + 1
    → f.from < m + 1
    → SecondOf x w done c false m (2 * m + 3)
    (action.Ask (ask.Secure 1 x.generation (done + 1) (m + 1) (piece_of 1024 (octets_behind x done) (m + 1))))
    (phase.AsksSecure (done + 1) (m + 1)) f [] (acks c j)
    → ListenerActs w v → AtNext x v done c false (m + 1)
secured x w v done c m j f few sum more stage acked from h acts =
    let o = octets_behind x done in
    let q = ask.Secure 1 x.generation (done + 1) (m + 1) (piece_of 1024 o (m + 1)) in
    let asked = asks_so w.listening v.listening w.link v.link acts.did q h.listens.wants_is acts.acts in
    let rep = secure_reply 1 x.generation (done + 1) (m + 1) (piece_of 1024 o (m + 1)) w.listening.session
    w.listening.spool v.listening.spool asked.answer asked.replied in
    let made = second_secures x w.listening.spool v.listening.spool done m h.got f.high f.last h.pieces CompleteFault
    rep.0 h.holds h.stands more few rep.2 in
    let t = listener x h.right (phase.AsksSecure (done + 1) (m + 1)) f in
    let told = told_at w.listening v.listening (event.Reply asked.answer) w.listening.came t h.listens.session_is
    asked.told in
    let g : RecvEnd = record f {
      high = done + 1;
      last = last.Partial (done + 1) (m + 1);
      stage = r.Next (done + 1) (m + 1);
    } in
    let goes : GoesOn (listener x h.right (phase.AsksSecure (done + 1) (m + 1)) g) v.listening.wants v.listening.session
    = subst (λ y. Follows t (event.Reply y) v.listening.wants v.listening.session) (rep.1 ∙ ap reply.Secure made.0)
    told in
    let fits : RecvFits 1 g = (
      partial_goes (done + 1) (m + 1),
      omega (arith, from),
      omega (arith, acked),
      omega (arith, acked),
      λ less. (from, partial_stands (done + 1) (m + 1)),
    ) in
    let says = listener_goes x h.right (phase.AsksSecure (done + 1) (m + 1)) g v.listening.wants v.listening.session
    fits
    refl goes ∙ ack_due x h.right (m + 1) g (omega (arith, acked)) in
    let k : RecvEnd = r.put g (u.SyncAck (m + 1)) in
    let link = untaken w.link v.link q refl asked.taken in
    let next : Action × State = (action.Put (unit.SyncAck (m + 1)), listener x h.right phase.Puts k) in
    Acknowledges m j k refl sum (record {
      stage = (refl, refl);
      acked = omega (arith, acked);
      from = omega (arith, from);
    }) (record {
      right = h.right;
      listens = record {
        wants_is = action_is (v.listening.wants, v.listening.session) next says;
        session_is = state_is (v.listening.wants, v.listening.session) next says;
        came_is = asked.told.came_is ∙ h.listens.came_is;
      };
      got = h.got;
      pieces = firsts o (m + 1);
      holds = made.1;
      stands = Of_part (m + 1) (omega arith) (record {
        some = omega arith;
        got_is = stands_got done o m h.got f.high f.last h.pieces h.stands;
        high_is = refl;
        last_is = refl;
        pieces_is = refl;
      });
      room = h.room;
      up_is = up_same w v (acks c j) (acts.other ∙ ap (came_to w.calling) asked.put) h.up_is;
      whole_link = ap (λ (l : Link). l.is_broken) link ∙ h.whole_link;
      marks = subst (λ (l : Link). Marks x done c false l.breaks) (sym link) h.marks;
    })

-- ---- End

end_takes : (k n : ℕ) (piece : List ℕ) (f : RecvEnd) → f.stage ≡ r.Held k n piece
    → taken 1 f (unit.End k) ≡ Some (staged f (r.Ended k n piece))
end_takes k n piece f e =
    subst (λ z. r.take_end z f k ≡ Some (staged f (r.Ended k n piece))) (sym e) (by (k == k) (eq-eqb k k refl))
  where
    by : (b : Bool) → b ≡ true → r.when b (staged f (r.Ended k n piece)) ≡ Some (staged f (r.Ended k n piece))
    by b q = rw q refl

pub end_came : (x : Setting) (w v : World) (done c n : ℕ) (whole : Bool) (j : ℕ) (f : RecvEnd) → done < x.count
    → c + j ≡ n → HasMore (octets_behind x done) n → HoldsPiece f (done + 1) (n + 1) (octets_behind x done)
    → SecondOf x w done c whole n (2 * n + 2) action.Read phase.Reads f (unit.End (done + 1) ∷ []) (acks c j)
    → ListenerActs w v → AtEnd x v done c n
end_came x w v done c n whole j f below sum more held h acts = by whole h.stands refl
  where
    by : (b : Bool) → Stands b done (octets_behind x done) n h.got f.high f.last h.pieces → whole ≡ b
        → AtEnd x v done c n
    by b stands is =
        let piece = piece_of 1024 (octets_behind x done) (n + 1) in
        let g : RecvEnd = staged f (r.Ended (done + 1) (n + 1) piece) in
        let few = few-more x done n more in
        let fits : RecvFits 1 g = (
          omega (arith, piece-short (octets_behind x done) n),
          goes_so b done (octets_behind x done) n h.got f.high f.last h.pieces stands,
          λ not_done. piece-some (octets_behind x done) n more,
        ) in
        let heard = hears x h.right f g (unit.End (done + 1)) w v h.listens h.whole_link
        (omega (arith, h.room, below, few)) refl (end_takes (done + 1) (n + 1) piece f held.stage) fits
        (high_is b done (octets_behind x done) n h.got f.high f.last h.pieces stands) acts in
        then_ b stands is (done_is b done (octets_behind x done) n h.got f.high f.last h.pieces stands) heard
      where
        then_ : (b : Bool) → Stands b done (octets_behind x done) n h.got f.high f.last h.pieces → whole ≡ b
            → is_done f.last (done + 1) ≡ b
            → Heard w v [] (next_of_receiver
            (r.Ended (done + 1) (n + 1) (piece_of 1024 (octets_behind x done) (n + 1)))
            (listener x (h.right - 1) phase.Puts
            (staged f (r.Ended (done + 1) (n + 1) (piece_of 1024 (octets_behind x done) (n + 1))))))
            → AtEnd x v done c n
        then_ true stands is d heard =
            let few = few-more x done n more in
            let k : RecvEnd = staged f r.Free in
            let said = heard_as w v [] _ (action.Put (unit.EndAck (done + 1)), listener x (h.right - 1) phase.Puts k)
            (pick_so (is_done f.last (done + 1)) _ _ d) heard in
            Answers j k sum refl
            (second_heard x w v done (2 * n + 2) (2 * n + 3) (Stands whole done (octets_behind x done) n)
            (Stands true done (octets_behind x done) n) (Marks x done c whole) (Marks x done c true)
            action.Read (action.Put (unit.EndAck (done + 1))) phase.Reads phase.Puts f k (unit.End (done + 1) ∷ [])
            (acks c j) [] (acks c j) (h.right - 1) h refl refl said (omega (arith, h.room, below, few))
            (append-nil (acks c j))
            (λ got ps s. subst (λ z. Stands z done (octets_behind x done) n got f.high f.last ps) is s)
            (λ b s. subst (λ z. Marks x done c z b) is s))
        then_ false stands is d heard =
            let piece = piece_of 1024 (octets_behind x done) (n + 1) in
            let few = few-more x done n more in
            let k : RecvEnd = staged f (r.Ended (done + 1) (n + 1) []) in
            let said = heard_as w v [] _ (
              action.Ask (ask.Complete 1 x.generation (done + 1) (n + 1) piece),
              listener x (h.right - 1) (phase.AsksComplete (done + 1) (n + 1)) k,
            )
            (pick_not (is_done f.last (done + 1)) _ _ d) heard in
            Completes j k sum refl
            (second_heard x w v done (2 * n + 2) (2 * n + 3) (Stands whole done (octets_behind x done) n)
            (Stands false done (octets_behind x done) n) (Marks x done c whole) (Marks x done c false)
            action.Read (action.Ask (ask.Complete 1 x.generation (done + 1) (n + 1) piece)) phase.Reads
            (phase.AsksComplete (done + 1) (n + 1)) f k (unit.End (done + 1) ∷ [])
            (acks c j) [] (acks c j) (h.right - 1) h refl refl said (omega (arith, h.room, below, few))
            (append-nil (acks c j))
            (λ got ps s. subst (λ z. Stands z done (octets_behind x done) n got f.high f.last ps) is s)
            (λ b s. subst (λ z. Marks x done c z b) is s))

-- ---- the activity is completed

complete_reply : (n g k m : ℕ) (piece : List ℕ) (t : State) (s new : SpoolState) (y : Reply)
    → Replied (ask.Complete n g k m piece) t s y new
    → (z : Result ℕ CompleteFault) × (y ≡ reply.Complete z)
    × ((lane : Lane) → IsLane s n lane → Completed s n g k m piece z new lane)
complete_reply n g k m piece t s new (reply.Complete z) h = (z, refl, h)
complete_reply n g k m piece t s new any0 h = elim h [ ]

-- The message is complete: the link is broken, or not and this is answered.
pub record HasCompleted (x : Setting) (w v : World) (done c : ℕ) (right : ℕ) (f : RecvEnd) : Type 0 where
  pub wants : v.listening.wants ≡ action.Put (unit.EndAck (done + 1))
  pub session : v.listening.session ≡ listener x right phase.Puts f
  pub came_is : v.listening.came ≡ []
  pub got : ℕ
  pub holds : SecondHolds x v.listening.spool got (done + 1) (last.Done (done + 1)) []
  pub stands : StandsWhole done got (done + 1) (last.Done (done + 1)) []
  pub other : v.calling ≡ came_to w.calling []
  pub taken : Taken x done c true w.link v.link

pub completed : (x : Setting) (w v : World) (done c n j : ℕ) (f : RecvEnd) (up : List AnyUnit) → IsSized x
    → done < x.count
    → HasMore (octets_behind x done) n → is_last 1024 (octets_behind x done) (n + 1) ≡ true
    → f.stage ≡ r.Ended (done + 1) (n + 1) []
    → (h : SecondOf x w done c false n (2 * n + 3)
    (action.Ask (ask.Complete 1 x.generation (done + 1) (n + 1) (piece_of 1024 (octets_behind x done) (n + 1))))
    (phase.AsksComplete (done + 1) (n + 1)) f [] up)
    → ListenerActs w v
    → HasCompleted x w v done c h.right
    (record f { high = done + 1; last = last.Done (done + 1); stage = r.Free })
completed x w v done c n j f up sized below more l_is stage h acts =
    let o = octets_behind x done in
    let small : x.count ≤ 1000 = sized.few in
    let q = ask.Complete 1 x.generation (done + 1) (n + 1) (piece_of 1024 o (n + 1)) in
    let asked = asks_so w.listening v.listening w.link v.link acts.did q h.listens.wants_is acts.acts in
    let rep = complete_reply 1 x.generation (done + 1) (n + 1) (piece_of 1024 o (n + 1)) w.listening.session
    w.listening.spool v.listening.spool asked.answer asked.replied in
    let made = second_completes x w.listening.spool v.listening.spool done n h.got f.high f.last h.pieces CompleteFault
    rep.0 h.holds h.stands more l_is (omega (arith, below, small))
    (rep.2 (second_lane x f.high f.last h.pieces) (ap (lane_at 1) h.holds.lanes)) in
    let at = phase.AsksComplete (done + 1) (n + 1) in
    let t = listener x h.right at f in
    let told = told_at w.listening v.listening (event.Reply asked.answer) w.listening.came t h.listens.session_is
    asked.told in
    let ended : RecvEnd = record f { high = done + 1; last = last.Done (done + 1) } in
    let goes : GoesOn (listener x h.right at ended) v.listening.wants v.listening.session
    = subst (λ y. Follows t (event.Reply y) v.listening.wants v.listening.session) (rep.1 ∙ ap reply.Complete made.1)
    told in
    let all : is_done (last.Done (done + 1)) (done + 1) ≡ true = eq-eqb (done + 1) (done + 1) refl in
    let fits : RecvFits 1 ended = subst (λ z. RecvFitsAt 1 z ended) (sym stage) (
      omega arith,
      or_left (is_done (last.Done (done + 1)) (done + 1)) _ all,
      λ not_done. absurd (true_false (is_done (last.Done (done + 1)) (done + 1)) all not_done),
    ) in
    let k : RecvEnd = record f { high = done + 1; last = last.Done (done + 1); stage = r.Free } in
    let next : Action × State = (action.Put (unit.EndAck (done + 1)), listener x h.right phase.Puts k) in
    let says : ◌≡◌ {A = Action × State} (v.listening.wants, v.listening.session) next =
    at_stage (r.Ended (done + 1) (n + 1) []) x h.right ended (v.listening.wants, v.listening.session) stage
    (listener_goes x h.right at ended v.listening.wants v.listening.session fits refl goes)
    ∙ pick_so (is_done (last.Done (done + 1)) (done + 1)) _ _ all in
    record {
      wants = action_is (v.listening.wants, v.listening.session) next says;
      session = state_is (v.listening.wants, v.listening.session) next says;
      came_is = asked.told.came_is ∙ h.listens.came_is;
      got = h.got + 1;
      holds = made.2;
      stands = record {
        got_is = ap (λ (z : ℕ). z + 1) (stands_got done o n h.got f.high f.last h.pieces h.stands);
        high_is = refl;
        last_is = refl;
        pieces_is = refl;
      };
      other = acts.other ∙ ap (came_to w.calling) asked.put;
      taken = complete_taken x done c 1 x.generation (n + 1) (piece_of 1024 o (n + 1)) w.link v.link sized below h.marks
          asked.taken;
    }

-- ---- EndAck is put

pub answered : (x : Setting) (w v : World) (done c n j : ℕ) (f : RecvEnd) → c + j ≡ n → f.stage ≡ r.Free
    → SecondOf x w done c true n (2 * n + 3) (action.Put (unit.EndAck (done + 1))) phase.Puts f [] (acks c j)
    → ListenerActs w v → AtEnd x v done c n
answered x w v done c n j f sum free h acts =
    let o = octets_behind x done in
    let heard = answers_put x h.right f (unit.EndAck (done + 1)) w v h.listens h.whole_link
    (subst (λ z. RecvFitsAt 1 z f) (sym free) tt) (high_is true done o n h.got f.high f.last h.pieces h.stands) acts in
    let said = heard_as w v (unit.EndAck (done + 1) ∷ []) _ (action.Read, listener x h.right phase.Reads f)
    (ap (λ z. next_of_receiver z (listener x h.right phase.Puts f)) free) heard in
    Ended j f sum free
    (second_heard x w v done (2 * n + 3) (2 * n + 3) (Stands true done o n) (Stands true done o n)
    (Marks x done c true) (Marks x done c true) (action.Put (unit.EndAck (done + 1))) action.Read phase.Puts phase.Reads
    f f [] (acks c j) (unit.EndAck (done + 1) ∷ []) (acks c j ++ unit.EndAck (done + 1) ∷ []) h.right h refl refl said
    (omega arith) refl (λ got ps s. s) (λ b s. s))
