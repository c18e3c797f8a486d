use Rattle.std.proofs.Common.{Ok, Err, arith}
use Rattle.mta_envelope.proofs.ContentLaws.{seen_only}
use Rattle.mta_apdu.specs.Apdus.{apdu_value, apdu_of}
use Rattle.mta_apdu.proofs.ApduLaws.{apdu_sound, apdu_full}
use Rattle.mta_apdu.proofs.apdu.Apdu.read.Goals as goal

pub returns-in-Ok-clause-found : goal.returns-in-Ok-clause-found
returns-in-Ok-clause-found c = apdu_sound c.args.bytes.now (apdu_value c.in-Ok.apdu)
    (λ i. omega (arith, c.type_inv.bytes i)) c.in-Ok.ensures.exact

pub returns-in-Ok-clause-only : goal.returns-in-Ok-clause-only
returns-in-Ok-clause-only c = λ v h. seen_only apdu_value (Ok c.in-Ok.apdu)
    (apdu_of c.args.bytes.now) v c.in-Ok.ensures.exact (apdu_full c.args.bytes.now v h)

pub returns-in-Err-clause-only : goal.returns-in-Err-clause-only
returns-in-Err-clause-only c = λ v h. seen_only apdu_value (Err c.in-Err.fault)
    (apdu_of c.args.bytes.now) v c.in-Err.ensures.exact (apdu_full c.args.bytes.now v h)
