use Rattle.std.proofs.Common.{◌++◌}
use Rattle.mta_ber.specs.Canon.{optional}
use Rattle.mta_names.specs.Standard.{canonical_text}
use Rattle.mta_names.proofs.length.person_content_length.Goals as goal

pub returns : goal.returns
returns c =
    let p = c.args.person.now in
    let a = canonical_text 0 p.surname in
    let b = optional (canonical_text 1) p.given in
    let d = optional (canonical_text 2) p.initials in
    let e = optional (canonical_text 3) p.generation in
    c.length_of_both.ensures (a ++ b ++ d) e
    (c.length_of_both-begun.ensures (a ++ b) d
    (c.length_of_both-named.ensures a b c.string_length-surname.ensures c.text_length-given.ensures)
    c.text_length-initials.ensures) c.text_length-generation.ensures
