-- The place that the index says is the one that a scan finds.
use Rattle.std.proofs.Common.{sym, ap, ◌∙◌}
use Rattle.mta_name_digest.specs.Places.{place_of}
use Rattle.mta_tables.specs.Indexes.{mailbox_name, digest_of_name}
use Rattle.mta_tables.specs.Reading.{is_of_mailbox}
use Rattle.mta_tables.specs.Surnames.{name_of_surname}
use Rattle.mta_tables.proofs.Indexes.{found_by, same_name_digest}
use Rattle.mta_tables.proofs.mailboxes.Mailboxes.of_surname.Goals as goal

pub returns-then-is_whole : goal.returns-then-is_whole
returns-then-is_whole c =
    let n = name_of_surname c.args.country.now c.args.admd.now c.args.surname.now in
    let places = c.self.inside.names in
    found_by (is_of_mailbox n) mailbox_name (digest_of_name n) c.self.inside.inner.items c.args.self.now places
    c.of-said.result c.checked_surname.result
    c.self.view_is c.self.invariant.2 (sym c.is_whole.ensures ∙ c.if-is_whole.true) (λ m h. same_name_digest m.name n h)
    (c.of-said.ensures ∙ ap (place_of places) c.surname_digest.ensures) c.checked_surname.ensures
