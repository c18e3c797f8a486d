use Rattle.std.proofs.Common.{◌+◌, ◌-◌, length, arith, sym, ap, subst}
use Rattle.std.proofs.lemmas.List.{length-take, length-drop}
use Rattle.mta_ber.specs.Octet.{IsOctets}
use Rattle.mta_ber.proofs.RowLaws.{IsBytes-take, IsBytes-drop}
use Rattle.mta_ber.proofs.reading.view_of.Goals as goal

pub invariant_of-result-clause-bytes : goal.invariant_of-result-clause-bytes
invariant_of-result-clause-bytes c = IsBytes-take (c.in_ok-used-in-None.used - 2) c.args.head.body.now c.requires.octets

pub invariant_of-result-clause-rest_bytes : goal.invariant_of-result-clause-rest_bytes
invariant_of-result-clause-rest_bytes c =
    subst IsOctets (sym c.behind-rest.ensures.exact)
    (IsBytes-drop c.in_ok-used-in-None.used c.args.head.body.now c.requires.octets)

pub invariant_of-result-clause-room : goal.invariant_of-result-clause-room
invariant_of-result-clause-room c =
    omega (arith, length-take (c.in_ok-used-in-None.used - 2) c.args.head.body.now, c.requires.room, c.requires.shorter)

pub invariant_of-result-clause-whole : goal.invariant_of-result-clause-whole
invariant_of-result-clause-whole c =
    omega (
      arith,
      length-take (length c.args.bytes.now - length c.args.head.body.now + c.in_ok-used-in-None.used)
          c.args.bytes.now,
      ap length c.behind-rest.ensures.exact,
      length-drop c.in_ok-used-in-None.used c.args.head.body.now,
      c.requires.room,
      c.requires.shorter,
      c.in_ok-used-in-None.ensures.within,
    )

pub invariant_of-result-in-Some-clause-bytes : goal.invariant_of-result-in-Some-clause-bytes
invariant_of-result-in-Some-clause-bytes c = IsBytes-take c.in-Some.count c.args.head.body.now c.requires.octets

pub invariant_of-result-in-Some-clause-rest_bytes : goal.invariant_of-result-in-Some-clause-rest_bytes
invariant_of-result-in-Some-clause-rest_bytes c =
    subst IsOctets (sym c.behind-rest-in-Some.ensures.exact)
    (IsBytes-drop c.in-Some.count c.args.head.body.now c.requires.octets)

pub invariant_of-result-in-Some-clause-room : goal.invariant_of-result-in-Some-clause-room
invariant_of-result-in-Some-clause-room c =
    omega (arith, length-take (c.in-Some.count) c.args.head.body.now, c.requires.room, c.requires.shorter)

pub invariant_of-result-in-Some-clause-whole : goal.invariant_of-result-in-Some-clause-whole
invariant_of-result-in-Some-clause-whole c =
    omega (
      arith,
      length-take (length c.args.bytes.now - length c.args.head.body.now + c.in-Some.count)
          c.args.bytes.now,
      ap length c.behind-rest-in-Some.ensures.exact,
      length-drop c.in-Some.count c.args.head.body.now,
      c.requires.room,
      c.requires.shorter,
      rw c.in-Some.is at c.requires.within,
    )
