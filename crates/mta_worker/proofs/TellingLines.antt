-- A line of tables may be answered.
use Rattle.std.proofs.Common.{ℕ, List, subst}
use Rattle.mta_rtse.specs.declared.types.Request.{Request}
use Rattle.mta_rtse.specs.declared.types.Request.TheVariants as request
use Rattle.mta_rtse.specs.Canon.{IsWritableBind, IsWritableRequest}
use Rattle.mta_rtse.specs.Spelling.{request_of}
use Rattle.mta_session.specs.declared.peer.Peer.{Peer}
use Rattle.mta_session.specs.Wanted.{answer_to}
use Rattle.mta_session_laws.specs.Writing.{SideWrites}
use Rattle.mta_worker.specs.PeerLines.{IsLine}
use Rattle.mta_worker.specs.Names.{IsName}
use Rattle.mta_worker.specs.Told.{TellsLine, LinesMayBeAccepted, LinesMayBeTold}
use Rattle.mta_worker.proofs.Wordings.{password_is_text}

pub bind : (own : List ℕ) (p : Peer) → IsName own → IsLine p → IsWritableBind own p.send_password
bind own p name line = record { name_fits = name; password_fits = password_is_text p.send_password line.send }

answer : (own : List ℕ) (p : Peer) (r : Request) → IsName own → IsLine p →
    IsWritableRequest (request_of (answer_to own p r))
answer own p request.Null name line = bind own p name line
answer own p (request.Bind n password) name line = bind own p name line
answer own p (request.Recover reference) name line = tt

pub lines_may_be_accepted : LinesMayBeAccepted
lines_may_be_accepted own o p name line = λ checkpoint window fits. answer own p o.request name line

pub lines_may_be_told : LinesMayBeTold
lines_may_be_told t e writes tells = λ own o p side opened is.
    lines_may_be_accepted own o p (subst SideWrites side writes) (subst TellsLine is tells)
