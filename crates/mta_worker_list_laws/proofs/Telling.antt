-- What a reply of the spool tells of steps is so: the one that it tells was made, and none else.
use Rattle.std.proofs.Common.{◌≡◌, ℕ, ◌+◌, ◌*◌, true, false, Option, None, Ok, Err, inl, inr, refl, sym, ap}
use Rattle.std.proofs.Common.{subst, ◌∙◌}
use Rattle.mta_edge.specs.Views.{ClockView, DiskView}
use Rattle.mta_transfer_rules.specs.Lanes.{On}
use Rattle.mta_transfer_rules.specs.Lanes as h
use Rattle.mta_records.specs.declared.fault.StepFault.{StepFault}
use Rattle.mta_records.specs.declared.fault.StepFault.TheVariants as StepFaults
use Rattle.mta_records.specs.declared.lane.LaneRole.{LaneRole}
use Rattle.mta_records.specs.declared.lane.LaneRole.TheVariants.{Initiator, Responder}
use Rattle.mta_histories.specs.Lanes.{State}
use Rattle.mta_histories.specs.History.{is_role}
use Rattle.mta_histories.specs.Seen.{checkpoint_unit}
use Rattle.mta_session.specs.State.{State as Session}
use Rattle.mta_session.specs.declared.ask.Ask.{Ask}
use Rattle.mta_session.specs.declared.ask.Ask.TheVariants as ask
use Rattle.mta_session.specs.declared.ask.Reply.{Reply}
use Rattle.mta_session.specs.declared.ask.Reply.TheVariants as reply
use Rattle.mta_session_list_laws.specs.Calls.{StepOn, opened, step_told}
use Rattle.mta_spool.specs.Shown.{Shown}
use Rattle.mta_worker.specs.Answers.{Answered}
use Rattle.mta_worker.specs.Turns.{Replied}
use Rattle.mta_worker_list_laws.proofs.Making.{Makes, WasPossible, same, unchanged, made, refused, bound, not_bound}
use Rattle.mta_worker_list_laws.proofs.Making.{not_refused, refusal_refused, taken, not_taken, begun, not_begun}

-- a step on a lane, as it is told
abbrev at : (lane : ℕ) → h.SeenStep → StepOn
at lane step = record { lane = lane; step = step }

-- a new lane has the next number
opens_at : (s : State) (role : LaneRole) (n lane c w : ℕ) → lane ≡ n
    → On n (h.LaneOpen (is_role Responder role) (checkpoint_unit * c) w) ≡ On lane (opened role c w)
opens_at s Initiator n lane c w e = ap (λ (k : ℕ). On k (h.LaneOpen false (1024 * c) w)) (sym e)
opens_at s Responder n lane c w e = ap (λ (k : ℕ). On k (h.LaneOpen true (1024 * c) w)) (sym e)

never_told : (q : Ask) (f : StepFault) → step_told q (reply.Start (Err f)) ≡ None
never_told (ask.Start lane g batch) f = refl
never_told q f = refl

module _ {D C : Type 0} (disks : DiskView D) (clocks : ClockView C) where
  pub answer_made : (q : Ask) (old : Shown D C) (x : Reply) (new : Shown D C) → WasPossible old new
      → Answered disks clocks q old x new → Makes (step_told q x) old new
  answer_made (ask.BatchFor peer) old (reply.BatchFor x) new may a = unchanged old new a.1
  answer_made (ask.LaneOpen role peer name twa c w) old (reply.LaneOpen (Ok lane)) new may a =
      made disks clocks _ (at lane (opened role c w)) old new a.0.at
      (opens_at old.current role (old.current.lanes.count + 1) lane c w a.1)
  answer_made (ask.LaneOpen role peer name twa c w) old (reply.LaneOpen (Err f)) new may a =
      refused disks clocks _ f old new a.0.at
  answer_made (ask.LaneAgree lane g c w) old (reply.LaneAgree (Ok x)) new may a =
      made disks clocks _ (at lane (h.LaneAgree (1024 * c) w)) old new a refl
  answer_made (ask.LaneAgree lane g c w) old (reply.LaneAgree (Err f)) new may a = refused disks clocks _ f old new a
  answer_made (ask.Bind lane) old (reply.Bind (Ok g)) new may a =
      bound disks clocks lane g (at lane (h.Bind g)) old new a refl
  answer_made (ask.Bind lane) old (reply.Bind (Err f)) new may a = not_bound disks clocks lane f old new a
  answer_made (ask.Start lane g batch) old (reply.Start (Ok o)) new may a =
      begun disks clocks lane g batch.item batch.recipients o (at lane (h.Start g o.activity o.octets)) old new may a
      refl
  answer_made (ask.Start lane g batch) old (reply.Start (Err f)) new may a =
      not_begun disks clocks lane g batch.item batch.recipients f old new a
  answer_made (ask.Confirm lane g k n) old (reply.Confirm (Ok x)) new may a =
      made disks clocks _ (at lane (h.Confirm g k n)) old new a refl
  answer_made (ask.Confirm lane g k n) old (reply.Confirm (Err f)) new may a = refused disks clocks _ f old new a
  answer_made (ask.Ending lane g k) old (reply.Ending (Ok x)) new may a =
      made disks clocks _ (at lane (h.To_end g k)) old new a refl
  answer_made (ask.Ending lane g k) old (reply.Ending (Err f)) new may a = refused disks clocks _ f old new a
  answer_made (ask.Sent lane g k) old (reply.Sent (Ok x)) new may a =
      made disks clocks _ (at lane (h.Sent g k)) old new a.at refl
  answer_made (ask.Sent lane g k) old (reply.Sent (Err f)) new may a = refused disks clocks _ f old new a.at
  answer_made (ask.Dropped lane g k) old (reply.Dropped (Ok x)) new may a =
      made disks clocks _ (at lane (h.Dropped g k)) old new a refl
  answer_made (ask.Dropped lane g k) old (reply.Dropped (Err f)) new may a = refused disks clocks _ f old new a
  answer_made (ask.Denied lane g k) old (reply.Denied (Ok x)) new may a =
      made disks clocks _ (at lane (h.Denied g k)) old new a.at refl
  answer_made (ask.Denied lane g k) old (reply.Denied (Err f)) new may a = refused disks clocks _ f old new a.at
  answer_made (ask.Refused lane g k kind) old (reply.Refused (Ok x)) new may a =
      not_refused disks clocks lane g k kind x (at lane (h.Refused g k)) old new a refl
  answer_made (ask.Refused lane g k kind) old (reply.Refused (Err f)) new may a =
      refusal_refused disks clocks lane g k kind f old new a
  answer_made (ask.Secure lane g k n piece) old (reply.Secure (Ok x)) new may a =
      taken disks clocks _ _ (at lane (h.Secure g k n piece)) x old new a refl
  answer_made (ask.Secure lane g k n piece) old (reply.Secure (Err f)) new may a = not_taken disks clocks _ _ f old
      new a
  answer_made (ask.Complete lane g k n piece) old (reply.Complete (Ok x)) new may a =
      taken disks clocks _ _ (at lane (h.Complete g k n piece)) x old new a.0.at refl
  answer_made (ask.Complete lane g k n piece) old (reply.Complete (Err f)) new may a =
      not_taken disks clocks _ _ f old new a.0.at
  answer_made (ask.DropActivity lane g k) old (reply.DropActivity (Ok x)) new may a =
      made disks clocks _ (at lane (h.Drop g k)) old new a refl
  answer_made (ask.DropActivity lane g k) old (reply.DropActivity (Err f)) new may a =
      refused disks clocks _ f old new a
  answer_made (ask.CloseLane lane g) old (reply.CloseLane (Ok x)) new may a =
      made disks clocks _ (at lane (h.CloseLane g)) old new a refl
  answer_made (ask.CloseLane lane g) old (reply.CloseLane (Err f)) new may a = refused disks clocks _ f old new a
  answer_made (ask.Resumed lane) old (reply.Resumed x) new may a = same old new a.1
  answer_made (ask.LaneOf role peer name) old (reply.LaneOf x) new may a = same old new a.1
  answer_made (ask.Recovery lane) old (reply.Recovery x) new may a = same old new a.1
  answer_made (ask.Receiving lane) old (reply.Receiving x) new may a = same old new a.1
  answer_made (ask.Values lane) old (reply.Values x) new may a = same old new a.1
  answer_made (ask.SpareLane role peer) old (reply.SpareLane x) new may a = same old new a.1
  answer_made (ask.Peer name) old (reply.Peer x) new may a = same old new a.1
  answer_made q old x new may a = elim a [ ]

  -- What the reply tells was made, and where it tells of no step none was.
  pub reply_made : (q : Ask) (t : Session) (old : Shown D C) (x : Reply) (new : Shown D C) → WasPossible old new
      → Replied disks clocks q t old x new → Makes (step_told q x) old new
  reply_made q t old x new may r =
      elim r [
        | inl u ↦ subst (λ (z : Option StepOn). Makes z old new)
            (sym (never_told q StepFaults.Unexpected) ∙ ap (λ (y : Reply). step_told q y) (sym u.1)) (same old new u.2)
        | inr a ↦ answer_made q old x new may a.1
      ]
