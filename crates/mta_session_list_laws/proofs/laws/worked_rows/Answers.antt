use Rattle.mta_session_list_laws.proofs.Worked.{takes_one, gives_up, resumes}
use Rattle.mta_session_list_laws.proofs.laws.worked_rows.Goals as goal

pub returns : goal.returns
returns c = record { takes = takes_one; gives_up = gives_up; resumes = resumes }
