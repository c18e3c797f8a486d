-- Answers that the sending end calls for, and steps that are made.
use Rattle.std.proofs.Common.{◌≡◌, ℕ, ◌==◌, ◌&&◌, nat_lt, nat_le, Bool, true, Some, None}
use Rattle.std.proofs.Common.{Ok}
use Rattle.std.proofs.Common.{if◌then◌else◌, refl, ap, ◌∙◌}
use Rattle.std.proofs.lemmas.Bool.{and_from, eq-eqb, le-leb, lt-ltb}
use Rattle.mta_units.specs.declared.unit.Unit.TheVariants as unit
use Rattle.mta_lane_send.specs.Half.{confirmed_of, goes_on, is_ending, last_of}
use Rattle.mta_transfer_rules.specs.Units as u
use Rattle.mta_transfer_rules.specs.Sending as s
use Rattle.mta_transfer_rules.specs.Sending.{SendEnd, SendStage, stage_got, synced}
use Rattle.mta_session.specs.declared.ask.Reply.TheVariants as reply
use Rattle.mta_session.specs.declared.phase.OwnStep.{OwnStep}
use Rattle.mta_session.specs.declared.phase.OwnStep.TheVariants as own
use Rattle.mta_session.specs.Sending.{heard, is_end_put, is_resume_put, when}
use Rattle.mta_session_next_laws.specs.Next.{CompletesGoOn, EndAcksAreCalledFor, MadeStepsGoOn, PutsGoOn}
use Rattle.mta_session_next_laws.specs.Next.{ResumeAcksAreHeard}
use Rattle.mta_session_next_laws.specs.Next.{SecuresGoOn, StartsGoOn, SyncAcksAreCalledFor}
use Rattle.mta_session_next_laws.proofs.Calls.{not_last}

when_so : (b : Bool) (step : OwnStep) → b ≡ true → when b step ≡ Some step
when_so b step e = rw e refl

pub sync_acks : SyncAcksAreCalledFor
sync_acks e n g more within = when_so
    (goes_on e.state (last_of e.state) && nat_lt (confirmed_of e.state) n && nat_le n (synced e.stage)) (own.Confirm n)
    (and_from (goes_on e.state (last_of e.state) && nat_lt (confirmed_of e.state) n) (nat_le n (synced e.stage))
    (and_from (goes_on e.state (last_of e.state)) (nat_lt (confirmed_of e.state) n) g
    (lt-ltb (confirmed_of e.state) n more))
    (le-leb n (synced e.stage) within))

pub end_acks : EndAcksAreCalledFor
end_acks e k n i z = when_so (is_ending e.state k && is_end_put e.stage k) own.Sent
    (and_from (is_ending e.state k) (is_end_put e.stage k) i put)
  where
    put : is_end_put e.stage k ≡ true
    put = ap (λ x. is_end_put x k) z ∙ eq-eqb k k refl

both_same : (k n : ℕ) → ((k == k) && (n == n)) ≡ true
both_same k n = and_from (k == k) (n == n) (eq-eqb k k refl) (eq-eqb n n refl)

stage_behind : (z : SendStage) (k n : ℕ) → z ≡ s.Resume_put k n → stage_got z (u.ResumeAck k n) ≡ s.Next k n
stage_behind z k n e = ap (λ x. stage_got x (u.ResumeAck k n)) e ∙ by ((k == k) && (n == n)) (both_same k n)
  where
    by : (b : Bool) → b ≡ true → (if b then s.Next k n else s.Resume_put k n) ≡ s.Next k n
    by b q = rw q refl

heard_so : (e : SendEnd) (k n : ℕ) → e.stage ≡ s.Resume_put k n
    → heard e (unit.ResumeAck k n) ≡ Some (record e { stage = s.Next k n })
heard_so e k n z = by (is_resume_put e.stage k n) put
    ∙ ap (λ x. Some (record e { stage = x })) (stage_behind e.stage k n z)
  where
    put : is_resume_put e.stage k n ≡ true
    put = ap (λ x. is_resume_put x k n) z ∙ both_same k n

    by : (b : Bool) → b ≡ true
        → (if b then Some (record e { stage = stage_got e.stage (u.ResumeAck k n) }) else None)
        ≡ Some (record e { stage = stage_got e.stage (u.ResumeAck k n) })
    by b q = rw q refl

pub resume_acks : ResumeAcksAreHeard
resume_acks t k n p i l z = rw (not_last t.left l, p, i, heard_so t.send k n z) refl

pub made_steps : MadeStepsGoOn
made_steps t (own.Confirm n) (reply.Confirm (Ok x)) p e = rw p refl
made_steps t own.Ending (reply.Ending (Ok x)) p e = rw p refl
made_steps t own.Sent (reply.Sent (Ok x)) p e = rw p refl
made_steps t any1 any2 p e = absurd cc

pub starts : StartsGoOn
starts t o p = rw p refl

pub secures : SecuresGoOn
secures t k n p = rw p refl

pub completes : CompletesGoOn
completes t k n item p = rw p refl

pub puts : PutsGoOn
puts t p = rw p refl
