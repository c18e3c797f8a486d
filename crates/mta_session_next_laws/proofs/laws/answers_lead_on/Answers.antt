use Rattle.mta_session_next_laws.proofs.Answers.{completes, end_acks, made_steps, puts, resume_acks, secures, starts}
use Rattle.mta_session_next_laws.proofs.Answers.{sync_acks}
use Rattle.mta_session_next_laws.proofs.laws.answers_lead_on.Goals as goal

pub returns : goal.returns
returns c = record {
  syncs = sync_acks;
  ends = end_acks;
  resumes = resume_acks;
  steps = made_steps;
  starts = starts;
  secures = secures;
  completes = completes;
  puts = puts;
}
