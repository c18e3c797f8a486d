-- What an agent of a drill answers its session, question by question.
use Rattle.std.proofs.Common.{◌≡◌, ◌<◌, ◌≤◌, ◌+◌, ◌^◌, ◌⊎◌, ℕ, Bool, true, false, List, [], ◌∷◌, length}
use Rattle.std.proofs.Common.{Option, None, Some, Result, Ok, Err, refl, sym, ap, subst, ◌∙◌, arith, inl, inr}
use Rattle.std.specs.Prelude.{IfOk, option_and_then, bytes_eq, ◌&&◌}
use Rattle.std.proofs.lemmas.Bool.{cases_lt}
use Rattle.std.proofs.lemmas.Result.{IfOk-weaker}
use Rattle.std.proofs.lemmas.Slice.Eq.{bytes_eq-Decides}
use Rattle.mta_ber.specs.declared.fault.Fault.{Fault}
use Rattle.mta_edge.specs.Views.{ClockView, DiskView}
use Rattle.mta_lane_send.specs.Half.{is_idle, last_of}
use Rattle.mta_records.specs.Outgoing.{Carried}
use Rattle.mta_records.specs.Reference.{Identifier}
use Rattle.mta_records.specs.declared.fault.CompleteFault.{CompleteFault}
use Rattle.mta_records.specs.declared.fault.CompleteFault.TheVariants as CompleteFaults
use Rattle.mta_records.specs.declared.fault.StepFault.{StepFault}
use Rattle.mta_records.specs.declared.lane.Batch.{Batch}
use Rattle.mta_records.specs.declared.lane.LaneRole.{LaneRole}
use Rattle.mta_records.specs.declared.lane.LaneRole.TheVariants as roles
use Rattle.mta_records.specs.declared.step.Step.{Step}
use Rattle.mta_records.specs.declared.step.Step.TheVariants as step
use Rattle.mta_tables.specs.Tables.{TablesValue}
use Rattle.mta_machine.specs.Items.{Machine, numbered}
use Rattle.mta_machine.specs.Machine.{last_tables}
use Rattle.mta_machine.specs.Rules.{tables_value}
use Rattle.mta_histories.specs.Classes.{agree, bind, start, confirm, to_end, settle, was_sent, secure, complete, close}
use Rattle.mta_histories.specs.History.{after_step, lane_after, on_lane_after, transfer_of}
use Rattle.mta_histories.specs.Lanes.{Lane, Transfer, lane_at, put_lane}
use Rattle.mta_histories.specs.Lanes.{State as SpoolState}
use Rattle.mta_histories.specs.Limits.{is_role}
use Rattle.mta_lanes.specs.Finds.{IsNamed, IsOfReference}
use Rattle.mta_edge.specs.Images.{memory_disk}
use Rattle.mta_edge.specs.Moments.{memory_clock}
use Rattle.mta_histories.proofs.LaneLists.{number-at}
use Rattle.mta_histories.proofs.Shown.{put-found}
use Rattle.mta_spool.specs.Answers.{IsBatchOf}
use Rattle.mta_spool.specs.Looking.{IsFirstNamed}
use Rattle.mta_spool.specs.OnLanes.{next_generation}
use Rattle.mta_spool.specs.Receiving.{IsBad, IsNoApdu, IsTooLong, Receives}
use Rattle.mta_spool.specs.Shown.{Shown}
use Rattle.mta_spool.specs.Stands.{Appends, AtMoment, fault_of}
use Rattle.mta_spool.specs.Starting.{Carries, IsResumed, StartsPastLast, next_activity}
use Rattle.mta_spool.proofs.Pieces.{not_too_long}
use Rattle.mta_session.specs.declared.ask.Ask.{Ask}
use Rattle.mta_session.specs.declared.ask.Ask.TheVariants as ask
use Rattle.mta_session.specs.declared.ask.Reply.{Reply}
use Rattle.mta_session.specs.declared.ask.Reply.TheVariants as reply
use Rattle.mta_session.specs.declared.peer.Peer.{Peer}
use Rattle.mta_worker.specs.Answers.{Answered, BeginsNow, Binds, IsKind, Refuses, lanes_of}
use Rattle.mta_worker.specs.Halting.{halt_after}
use Rattle.mta_worker.specs.Lines.{line_now}
use Rattle.mta_worker.specs.PeerLines.{line_in}
use Rattle.mta_drill_laws.specs.Tables.{gold_1, second_tables, second_text}
use Rattle.mta_drill_laws.proofs.TablesRead.{second_is_read}
use Rattle.mta_drill_stage_laws.specs.Lines.{line_of_first}
use Rattle.mta_drill_stage_laws.specs.World.{Asked, Bound, Found, IsLane, IsNextBatch, Made, Resumes, Started}
use Rattle.mta_drill_answer_laws.specs.Answers.{HasHistory, IsShort, QuestionsAreAsked}
use Rattle.mta_drill_answer_laws.proofs.Steps.{Clear, HasNumbers, at_once, completed, goes_on, made_by, on_lanes}
use Rattle.mta_drill_answer_laws.proofs.Steps.{piece_goes_on, piece_made, stays_so}

-- ---- looks

next-batch : (s : SpoolState) (peer : List ℕ) (b : Option Batch) → IsBatchOf s peer s.moment b → IsNextBatch s peer b
next-batch s peer None is = is
next-batch s peer (Some batch) is = is

not-idle : (b : Bool) → b ≡ true → b ≡ false → ⊥
not-idle b t f = let e : true ≡ false = sym t ∙ f in cc

resumes : (lane : Lane) (t : Transfer) (o : Option Carried) → is_idle lane.sending ≡ false → lane.transfer ≡ Some t
    → IsResumed (Some lane) o → Resumes o lane t
resumes lane t None busy found is = not-idle (is_idle lane.sending) is busy
resumes lane t (Some o) busy found is =
    let carries = subst (λ (x : Option Transfer). Carries x (last_of lane.sending) o) found is.1 in
    (carries.0, carries.1)

own-role : (r : LaneRole) → is_role r r ≡ true
own-role roles.Initiator = refl
own-role roles.Responder = refl

named : (role : LaneRole) (peer : List ℕ) (reference : Option Identifier) (lane : Lane) → lane.role ≡ role
    → lane.peer ≡ peer → reference ≡ Some lane.reference → IsNamed role peer reference lane
named role peer reference lane r p n =
    let one : is_role role lane.role ≡ true = subst (λ (x : LaneRole). is_role role x ≡ true) (sym r) (own-role role) in
    let other : bytes_eq peer lane.peer ≡ true = (bytes_eq-Decides peer lane.peer).1 (sym p) in (
      ap (λ b. b && bytes_eq peer lane.peer) one ∙ other,
      subst (λ (x : Option Identifier). IsOfReference x lane) (sym n) refl,
    )

found-one : (role : LaneRole) (peer : List ℕ) (reference : Option Identifier) (lane : Lane) (x : Option ℕ)
    → IsNamed role peer reference lane → IsFirstNamed role peer reference (lane ∷ []) x → x ≡ Some lane.number
found-one role peer reference lane x is (inl first) = first.1
found-one role peer reference lane x is (inr later) = absurd (later.0 is)

found : (s : SpoolState) (role : LaneRole) (peer : List ℕ) (reference : Option Identifier) (x : Option ℕ)
    → IsFirstNamed role peer reference s.lanes.open_lanes x → Found s role peer reference x
found s role peer reference x is = record {
  none = λ none. subst (λ (ls : List Lane). IsFirstNamed role peer reference ls x) none is;
  one = λ lane one r p n. found-one role peer reference lane x (named role peer reference lane r p n)
      (subst (λ (ls : List Lane). IsFirstNamed role peer reference ls x) one is);
}

-- the line of the first agent in the tables of the second
line-there : (m : Machine) → m.tables ≡ second_text ∷ [] → numbered m.tables (last_tables m) ≡ Some second_text
line-there m is = ap (λ (ts : List (List ℕ)). numbered ts (length ts)) is

line-read : line_in second_tables gold_1 ≡ Some line_of_first
unfolding gold_1
line-read = refl

line-is : (m : Machine) (name : List ℕ) → name ≡ gold_1 → m.tables ≡ second_text ∷ []
    → line_now m name ≡ Some line_of_first
line-is m name called is =
    ap (λ (n : List ℕ). line_now m n) called
    ∙ ap (λ (o : Option (List ℕ)). option_and_then (λ (t : TablesValue). line_in t gold_1)
    (option_and_then tables_value o)) (line-there m is)
    ∙ ap (λ (o : Option TablesValue). option_and_then (λ (t : TablesValue). line_in t gold_1) o) second_is_read
    ∙ line-read

-- ---- a Start

lane-left : (s : SpoolState) (n g k i : ℕ) (rs : List ℕ) (moment : ℕ) (lane : Lane) → IsLane s n lane
    → lane_at n (after_step s (step.Start n g k i rs moment)).lanes.open_lanes
    ≡ Some (lane_after s lane (start k i rs) moment)
lane-left s n g k i rs moment lane is =
    let new : Lane = lane_after s lane (start k i rs) moment in
    let number : n ≡ lane.number = number-at s.lanes.open_lanes n lane is in
    let put : lane_at lane.number (put_lane new s.lanes.open_lanes) ≡ Some new =
    put-found new lane s.lanes.open_lanes
    (subst (λ (m : ℕ). lane_at m s.lanes.open_lanes ≡ Some lane) number is) in
    ap (λ (o : Option Lane). lane_at n (on_lane_after s o (start k i rs) moment)) is
    ∙ subst (λ (m : ℕ). lane_at m (put_lane new s.lanes.open_lanes) ≡ Some new) (sym number) put

-- what the activity carries that was started
begun : (s t : SpoolState) (n g i : ℕ) (rs : List ℕ) (lane : Lane) (o : Carried) → IsLane s n lane
    → t ≡ after_step s (step.Start n g (last_of lane.sending + 1) i rs s.moment)
    → IsResumed (lane_at n t.lanes.open_lanes) (Some o)
    → (o.activity ≡ last_of lane.sending + 1) × (o.octets ≡ (transfer_of s.machine i rs s.moment).octets)
begun s t n g i rs lane o there made is =
    let left : lane_at n t.lanes.open_lanes ≡ Some (lane_after s lane (start (last_of lane.sending + 1) i rs) s.moment)
    =
    ap (λ (u : SpoolState). lane_at n u.lanes.open_lanes) made
    ∙ lane-left s n g (last_of lane.sending + 1) i rs s.moment lane there in
    let carries = subst (λ (x : Option Lane). IsResumed x (Some o)) left is in
    (carries.1.0, carries.1.1)

-- ---- one question

module _ {D C : Type 0} (disks : DiskView D) (clocks : ClockView C) (old new : Shown D C)
    (alive : HasHistory disks old) (still : (m : ℕ) → clocks.tells old.clock m → m ≡ 0) where
  -- what the spool makes of a step, and that it goes on
  abbrev Goes : {T E : Type 0} → Step → Result T E → Type 0
  Goes made x = Made old.current made x new.current × HasHistory disks new

  makes : {T : Type 0} (made : Step) (x : Result T StepFault) → HasNumbers old.current made
      → ((f : StepFault) → x ≡ Err f → Clear f) → Appends disks made old new (fault_of x) → Goes made x
  makes made x numbers clear m = (
    made_by disks old new made x numbers clear m,
    goes_on disks old new made x alive clear m,
  )

  now : (P : ℕ → Type 0) → AtMoment clocks old.clock old.current.moment P → P old.current.moment
  now P a = at_once disks old new clocks P still a

  same : {A : Type 0} → A → new ≡ old → A × (new.current ≡ old.current)
  same a e = (a, ap (λ (z : Shown D C). z.current) e)

  on : new ≡ old → HasHistory disks new
  on e = subst (λ (z : Shown D C). HasHistory disks z) (sym e) alive

  -- ---- a Bind

  binds : (n : ℕ) (x : Result ℕ StepFault) → ((f : StepFault) → x ≡ Err f → Clear f) → Binds disks clocks n old x new
      → (lane : Lane) → IsLane old.current n lane → Bound old.current n x new.current lane
  binds n x clear a lane there =
      let next : next_generation (lane_at n (lanes_of old)) ≡ lane.generation + 1 =
      ap (λ (o : Option Lane). next_generation o) there in
      record {
        made = λ fits.
            made_by disks old new (step.Bind n (lane.generation + 1)) x
            (on_lanes old.current (step.Bind n (lane.generation + 1)) n (Some (lane.generation + 1)) bind refl tt) clear
            (subst (λ (g : ℕ). Appends disks (step.Bind n g) old new (fault_of x)) next
            (a.0 (subst (λ (g : ℕ). g < 2 ^ 64) (sym next) fits)));
        generation = subst (λ (g : ℕ). IfOk x (λ h. h ≡ g)) next a.2;
      }

  bind-goes-on : (n : ℕ) (x : Result ℕ StepFault) → ((f : StepFault) → x ≡ Err f → Clear f)
      → Binds disks clocks n old x new
      → HasHistory disks new
  bind-goes-on n x clear a =
      elim (cases_lt (next_generation (lane_at n (lanes_of old))) (2 ^ 64)) [
        | inl fits ↦ goes_on disks old new (step.Bind n (next_generation (lane_at n (lanes_of old)))) x alive clear
            (a.0 fits)
        | inr past ↦ stays_so disks old new (a.1 past).0.0 (a.1 past).0.1 alive
      ]

  -- ---- a Start

  module _ (n g i : ℕ) (rs : List ℕ) (x : Result Carried StepFault) (clear : (f : StepFault) → x ≡ Err f → Clear f)
      (a : BeginsNow disks clocks n g i rs old x new) where
    appends : next_activity (lane_at n (lanes_of old)) < 2 ^ 32 → (k : ℕ) → next_activity (lane_at n (lanes_of old)) ≡ k
        → Appends disks (step.Start n g k i rs old.current.moment) old new (fault_of x)
    appends fits k is =
        now (λ m. Appends disks (step.Start n g k i rs m) old new (fault_of x))
        (subst (λ (k : ℕ). AtMoment clocks old.clock old.current.moment
        (λ m. Appends disks (step.Start n g k i rs m) old new (fault_of x))) is (a.0 fits))

    past-last : 2 ^ 32 ≤ next_activity (lane_at n (lanes_of old))
        → StartsPastLast n g i rs old.current.moment old new x
    past-last past = now (λ m. StartsPastLast n g i rs m old new x) (a.1 past)

    start-goes-on : HasHistory disks new
    start-goes-on =
        elim (cases_lt (next_activity (lane_at n (lanes_of old))) (2 ^ 32)) [
          | inl fits ↦ goes_on disks old new
              (step.Start n g (next_activity (lane_at n (lanes_of old))) i rs old.current.moment) x alive clear
              (appends fits (next_activity (lane_at n (lanes_of old))) refl)
          | inr past ↦ stays_so disks old new (past-last past).same.0 (past-last past).same.1 alive
        ]

  carried : (n g i : ℕ) (rs : List ℕ) (x : Result Carried StepFault) → ((f : StepFault) → x ≡ Err f → Clear f)
      → BeginsNow disks clocks n g i rs old x new → (lane : Lane) → IsLane old.current n lane
      → IfOk x (λ o. (o.activity ≡ last_of lane.sending + 1)
      × (o.octets ≡ (transfer_of old.current.machine i rs old.current.moment).octets))
  carried n g i rs (Err f) clear a lane there = tt
  carried n g i rs (Ok o) clear a lane there =
      let next : next_activity (lane_at n (lanes_of old)) ≡ last_of lane.sending + 1 =
      ap (λ (l : Option Lane). next_activity l) there in
      elim (cases_lt (next_activity (lane_at n (lanes_of old))) (2 ^ 32)) [
        | inl fits ↦ begun old.current new.current n g i rs lane o there
            ((appends n g i rs (Ok o) clear a fits (last_of lane.sending + 1) next).changed refl) a.2
        | inr past ↦
            let p = past-last n g i rs (Ok o) clear a past in
            let wrong : ◌≡◌ {A = Result Carried StepFault} (Ok o) (Err p.fault) = p.refused in absurd cc
      ]

  starts : (n g : ℕ) (batch : Batch) (x : Result Carried StepFault) → ((f : StepFault) → x ≡ Err f → Clear f)
      → BeginsNow disks clocks n g batch.item batch.recipients old x new → (lane : Lane) → IsLane old.current n lane
      → Started old.current n g batch x new.current lane
  starts n g batch x clear a lane there =
      let next : next_activity (lane_at n (lanes_of old)) ≡ last_of lane.sending + 1 =
      ap (λ (l : Option Lane). next_activity l) there in
      let what = carried n g batch.item batch.recipients x clear a lane there in
      record {
        made = λ fits.
            let made : Step =
            step.Start n g (last_of lane.sending + 1) batch.item batch.recipients old.current.moment in
            made_by disks old new made x
            (on_lanes old.current made n (Some g) (start (last_of lane.sending + 1) batch.item batch.recipients) refl
            tt)
            clear
            (appends n g batch.item batch.recipients x clear a (subst (λ (k : ℕ). k < 2 ^ 32) (sym next) fits)
            (last_of lane.sending + 1) next);
        activity = IfOk-weaker x _ _ (λ o both. both.0) what;
        octets = IfOk-weaker x _ _ (λ o both. both.1) what;
      }

  -- ---- a refusal of a kind

  no-kind : (kind : ℕ) → (IsKind kind → ⊥) ⊎ IsKind kind
  no-kind kind =
      elim (cases_lt kind 1) [
        | inl none ↦ inl (λ is. omega (arith, none, is.0))
        | inr some ↦ elim (cases_lt 12 kind) [
          | inl more ↦ inl (λ is. omega (arith, more, is.1))
          | inr few ↦ inr (some, few)
        ]
      ]

  refused : (n g k kind : ℕ) (x : Result (Unit {0}) StepFault) → ((f : StepFault) → x ≡ Err f → Clear f)
      → Refuses disks clocks n g k kind old x new → HasHistory disks new
  refused n g k kind x clear a =
      elim (no-kind kind) [
        | inl none ↦ on (a.1 none).0
        | inr is ↦ goes_on disks old new (step.Refused n g k kind old.current.moment) x alive clear
            (now (λ m. Appends disks (step.Refused n g k kind m) old new (fault_of x)) (a.0 is))
      ]

  -- ---- all questions

  abbrev Short : Reply → Type 0
  Short x = IsShort (halt_after x)

  answer : (q : Ask) (x : Reply) → Answered disks clocks q old x new → (Short x → ⊥)
      → Asked q old.current x new.current × HasHistory disks new
  answer (ask.BatchFor peer) (reply.BatchFor (Ok b)) a short = (
    (
      b,
      refl,
      next-batch old.current peer b (now (λ m. IsBatchOf old.current peer m b) a.0),
      a.1.1,
    ),
    stays_so disks old new a.1.0 a.1.1 alive,
  )
  answer (ask.BatchFor peer) (reply.BatchFor (Err m)) a short = absurd (short tt)
  answer (ask.BatchFor peer) any1 a short = absurd a
  answer (ask.LaneOpen role peer name twa size window) (reply.LaneOpen x) a short =
      let made : Step = step.LaneOpen role peer name twa size window old.current.moment in
      let did =
      makes made x
      (λ possible left spent.
      let few : old.current.lanes.count + 1 < 2 ^ 32 = possible.allowed.number in
      let none : 2 ^ 32 ≤ old.current.lanes.count + 1 = spent in
      omega (arith, few, none))
      (λ f e. subst (λ (y : Result ℕ StepFault). Short (reply.LaneOpen y) → ⊥) e short)
      (now (λ m. Appends disks (step.LaneOpen role peer name twa size window m) old new (fault_of x)) a.0) in
      ((did.0, a.1), did.1)
  answer (ask.LaneOpen role peer name twa size window) any1 a short = absurd a
  answer (ask.LaneAgree n g size window) (reply.LaneAgree x) a short =
      makes (step.LaneAgree n g size window) x
      (on_lanes old.current (step.LaneAgree n g size window) n (Some g) (agree size window) refl tt)
      (λ f e. subst (λ (y : Result (Unit {0}) StepFault). Short (reply.LaneAgree y) → ⊥) e short) a
  answer (ask.LaneAgree n g size window) any1 a short = absurd a
  answer (ask.Bind n) (reply.Bind x) a short =
      let clear : (f : StepFault) → x ≡ Err f → Clear f =
      λ f e. subst (λ (y : Result ℕ StepFault). Short (reply.Bind y) → ⊥) e short in
      (binds n x clear a, bind-goes-on n x clear a)
  answer (ask.Bind n) any1 a short = absurd a
  answer (ask.Start n g batch) (reply.Start x) a short =
      let clear : (f : StepFault) → x ≡ Err f → Clear f =
      λ f e. subst (λ (y : Result Carried StepFault). Short (reply.Start y) → ⊥) e short in (
        λ lane there. starts n g batch x clear a lane there,
        start-goes-on n g batch.item batch.recipients x clear a,
      )
  answer (ask.Start n g batch) any1 a short = absurd a
  answer (ask.Confirm n g k m) (reply.Confirm x) a short =
      makes (step.Confirm n g k m) x
      (on_lanes old.current (step.Confirm n g k m) n (Some g) (confirm k m) refl tt)
      (λ f e. subst (λ (y : Result (Unit {0}) StepFault). Short (reply.Confirm y) → ⊥) e short) a
  answer (ask.Confirm n g k m) any1 a short = absurd a
  answer (ask.Ending n g k) (reply.Ending x) a short =
      makes (step.Ending n g k) x (on_lanes old.current (step.Ending n g k) n (Some g) (to_end k) refl tt)
      (λ f e. subst (λ (y : Result (Unit {0}) StepFault). Short (reply.Ending y) → ⊥) e short) a
  answer (ask.Ending n g k) any1 a short = absurd a
  answer (ask.Sent n g k) (reply.Sent x) a short =
      makes (step.Sent n g k old.current.moment) x
      (on_lanes old.current (step.Sent n g k old.current.moment) n (Some g) (settle was_sent k) refl tt)
      (λ f e. subst (λ (y : Result (Unit {0}) StepFault). Short (reply.Sent y) → ⊥) e short)
      (now (λ m. Appends disks (step.Sent n g k m) old new (fault_of x)) a)
  answer (ask.Sent n g k) any1 a short = absurd a
  answer (ask.Dropped n g k) (reply.Dropped x) a short = (
    tt,
    goes_on disks old new (step.Dropped n g k) x alive
        (λ f e. subst (λ (y : Result (Unit {0}) StepFault). Short (reply.Dropped y) → ⊥) e short) a,
  )
  answer (ask.Dropped n g k) any1 a short = absurd a
  answer (ask.Denied n g k) (reply.Denied x) a short = (
    tt,
    goes_on disks old new (step.Denied n g k old.current.moment) x alive
        (λ f e. subst (λ (y : Result (Unit {0}) StepFault). Short (reply.Denied y) → ⊥) e short)
        (now (λ m. Appends disks (step.Denied n g k m) old new (fault_of x)) a),
  )
  answer (ask.Denied n g k) any1 a short = absurd a
  answer (ask.Refused n g k kind) (reply.Refused x) a short = (
    tt,
    refused n g k kind x (λ f e. subst (λ (y : Result (Unit {0}) StepFault). Short (reply.Refused y) → ⊥) e short) a,
  )
  answer (ask.Refused n g k kind) any1 a short = absurd a
  answer (ask.Secure n g k m piece) (reply.Secure x) a short =
      let clear : (f : StepFault) → x ≡ Err (CompleteFaults.Step f) → Clear f =
      λ f e. subst (λ (y : Result (Unit {0}) CompleteFault). Short (reply.Secure y) → ⊥) e short in
      let Bad : Fault → Type 0 =
      λ f. IsBad old.current n g (secure k m piece) old.current.moment (IsTooLong m piece f) in (
        piece_made disks old new (step.Secure n g k m piece) Bad x
            (on_lanes old.current (step.Secure n g k m piece) n (Some g) (secure k m piece) refl tt) clear
            (λ f possible bad.
            not_too_long old.current n g k m piece old.current.moment possible.allowed f bad) a,
        piece_goes_on disks old new (step.Secure n g k m piece) Bad x alive clear a,
      )
  answer (ask.Secure n g k m piece) any1 a short = absurd a
  answer (ask.Complete n g k m piece) (reply.Complete x) a short =
      let made : Step = step.Complete n g k m piece old.current.moment in
      let clear : (f : StepFault) → x ≡ Err (CompleteFaults.Step f) → Clear f =
      λ f e. subst (λ (y : Result ℕ CompleteFault). Short (reply.Complete y) → ⊥) e short in
      let Bad : Fault → Type 0 =
      λ f. IsBad old.current n g (complete k m piece) old.current.moment (IsNoApdu m piece f) in
      let got =
      now (λ moment. Receives disks (step.Complete n g k m piece moment)
      (λ f. IsBad old.current n g (complete k m piece) moment (IsNoApdu m piece f)) old new x) a.0 in (
        λ lane there. completed disks old new n g k m piece x clear got lane there,
        piece_goes_on disks old new made Bad x alive clear got,
      )
  answer (ask.Complete n g k m piece) any1 a short = absurd a
  answer (ask.DropActivity n g k) (reply.DropActivity x) a short = (
    tt,
    goes_on disks old new (step.Drop n g k) x alive
        (λ f e. subst (λ (y : Result (Unit {0}) StepFault). Short (reply.DropActivity y) → ⊥) e short) a,
  )
  answer (ask.DropActivity n g k) any1 a short = absurd a
  answer (ask.CloseLane n g) (reply.CloseLane x) a short =
      makes (step.CloseLane n g) x (on_lanes old.current (step.CloseLane n g) n (Some g) close refl tt)
      (λ f e. subst (λ (y : Result (Unit {0}) StepFault). Short (reply.CloseLane y) → ⊥) e short) a
  answer (ask.CloseLane n g) any1 a short = absurd a
  answer (ask.Resumed n) (reply.Resumed (Ok o)) a short = (
    (
      λ lane t there busy moved. resumes lane t o busy moved
          (subst (λ (l : Option Lane). IsResumed l o) there a.0),
      o,
      refl,
      ap (λ (z : Shown D C). z.current) a.1,
    ),
    on a.1,
  )
  answer (ask.Resumed n) (reply.Resumed (Err m)) a short = absurd (short tt)
  answer (ask.Resumed n) any1 a short = absurd a
  answer (ask.LaneOf role peer reference) (reply.LaneOf x) a short =
      (same (found old.current role peer reference x a.0) a.1, on a.1)
  answer (ask.LaneOf role peer reference) any1 a short = absurd a
  answer (ask.Recovery n) (reply.Recovery x) a short = (same a.0 a.1, on a.1)
  answer (ask.Recovery n) any1 a short = absurd a
  answer (ask.Receiving n) (reply.Receiving x) a short = (same a.0 a.1, on a.1)
  answer (ask.Receiving n) any1 a short = absurd a
  answer (ask.Values n) (reply.Values x) a short = (same a.0 a.1, on a.1)
  answer (ask.Values n) any1 a short = absurd a
  answer (ask.SpareLane role peer) (reply.SpareLane x) a short = (tt, on a.1)
  answer (ask.SpareLane role peer) any1 a short = absurd a
  answer (ask.Peer name) (reply.Peer (Ok p)) a short = (
    same
        (λ called is. ap (λ (l : Option Peer). Ok l) (a.0 ∙ line-is old.current.machine name called is)) a.1,
    on a.1,
  )
  answer (ask.Peer name) (reply.Peer (Err m)) a short = absurd (short tt)
  answer (ask.Peer name) any1 a short = absurd a

pub questions_are_asked : QuestionsAreAsked
questions_are_asked q old x new works a short =
    answer memory_disk memory_clock old new works.history works.clock q x a short
