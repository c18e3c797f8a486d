use Rattle.std.proofs.Common.{◌<◌, arith}
use Rattle.mta_rules.proofs.Digits.{one_digit_more}
use Rattle.mta_rules.proofs.identifier.+put_digits.Goals as goal

pub returns : goal.returns
returns t c =
    let some : 0 < c.args.count = omega arith in
    one_digit_more c.args.octets.now.items c.put_digits.new.octets.items c.push.new.self.items c.args.count
    c.args.number some c.in_ok-put_digits.ensures c.in_ok-push.ensures.items
