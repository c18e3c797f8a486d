-- What a writer has, part by part.
use Rattle.std.proofs.Common.{◌≡◌, []}
use Rattle.mta_ber.specs.Canon.{Written, appended}
use Rattle.mta_names.proofs.Written as names

pub appended_none : (w : Written) → appended w [] ≡ w
appended_none w = names.appended_none w
