-- What is proposed on a line may be written.
use Rattle.std.proofs.Common.{ℕ, Bool, true, false, List}
use Rattle.mta_records.specs.Reference.{Identifier}
use Rattle.mta_rtse.specs.Canon.{IsWritableRequest}
use Rattle.mta_session.specs.declared.peer.Peer.{Peer}
use Rattle.mta_session.specs.Wanted.{request_of}
use Rattle.mta_worker.specs.PeerLines.{IsLine}
use Rattle.mta_worker.specs.Names.{IsName}
use Rattle.mta_worker.specs.Plans.{plan_of, IsPlan}
use Rattle.mta_worker.proofs.TellingLines.{bind}

request : (own : List ℕ) (p : Peer) (r : Identifier) (recovering : Bool) → IsName own → IsLine p →
    IsWritableRequest (request_of (plan_of own p r recovering))
request own p r true name line = tt
request own p r false name line = bind own p name line

pub is_plan : (own : List ℕ) (p : Peer) (r : Identifier) (recovering : Bool) → IsName own → IsLine p →
    IsPlan (plan_of own p r recovering)
is_plan own p r recovering name line = record {
  opens = λ checkpoint window twa fits. record {
    name_fits = name;
    request_fits = request own p r recovering name line;
  };
  values = line.values;
}
