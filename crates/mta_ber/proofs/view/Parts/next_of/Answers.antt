use Rattle.mta_ber.proofs.view.Parts.next_of.Goals as goal

pub invariant_of-self-clause-bytes : goal.invariant_of-self-clause-bytes
invariant_of-self-clause-bytes c = c.in_ok-view.view.rest_bytes
