-- The domain of tables that are read is one that may be written, since it is read as a name.
use Rattle.std.proofs.Common.{◌≡◌, ℕ, List, [], ◌∷◌, Some, Ok, subst}
use Rattle.std.specs.Prelude.{All}
use Rattle.std.proofs.lemmas.List.Elements.{All-head, All-tail}
use Rattle.mta_names.specs.Values.{Each, IsName}
use Rattle.mta_name_text.proofs.FormsTold.{forms_told}
use Rattle.mta_fields.specs.declared.domain.DomainFields.{DomainFields}
use Rattle.mta_fields.specs.Domains.{IsDomain}
use Rattle.mta_tables.specs.declared.line.Line.{Line}
use Rattle.mta_tables.specs.declared.line.Line.TheVariants as Said
use Rattle.mta_tables.specs.Domain.{name_of_domain}
use Rattle.mta_tables.specs.Grammar.{Words, DomainLine, Mean, Row, IsRow, said_by, domains_of, first_of}
use Rattle.mta_tables.specs.Tables.{TablesValue, tables_of}
use Rattle.mta_tables.proofs.Grammars.{tables_found}

abbrev IsDomainLine : Line → Type 0
IsDomainLine (Said.Domain d) = IsDomain d
IsDomainLine _ = Unit {0}

named-domain : (d : DomainFields) → IsName (name_of_domain d) → IsDomain d
named-domain d h = record { country = h.country; admd = h.admd; prmd = h.prmd }

domain-line : (s : Line) (w : Words) → Mean w s → IsDomainLine s
domain-line (Said.Domain d) (DomainLine text) h =
    named-domain d ((forms_told text (name_of_domain d)).0 h).0.name
domain-line (Said.Domain d) any1 h = absurd h
domain-line (Said.Hold h) w k = tt
domain-line any0 w h = tt

domain-lines : (rows : List Row) → All IsRow rows → Each IsDomainLine (said_by rows)
domain-lines [] h = tt
domain-lines (r ∷ rows) h =
    (domain-line r.says r.words (All-head IsRow r rows h).meaning, domain-lines rows (All-tail IsRow r rows h))

domains-said : (said : List Line) → Each IsDomainLine said → Each IsDomain (domains_of said)
domains-said [] h = tt
domains-said (Said.Domain d ∷ said) h = (h.0, domains-said said h.1)
domains-said (Said.Nothing ∷ said) h = domains-said said h.1
domains-said (Said.Name n ∷ said) h = domains-said said h.1
domains-said (Said.Peer p ∷ said) h = domains-said said h.1
domains-said (Said.Mailbox m ∷ said) h = domains-said said h.1
domains-said (Said.List l ∷ said) h = domains-said said h.1
domains-said (Said.From f ∷ said) h = domains-said said h.1
domains-said (Said.Member m ∷ said) h = domains-said said h.1
domains-said (Said.Route r ∷ said) h = domains-said said h.1
domains-said (Said.Hold x ∷ said) h = domains-said said h.1

first-said : (ds : List DomainFields) (d : DomainFields) → Each IsDomain ds → first_of ds ≡ Some d → IsDomain d
first-said [] d h e = absurd cc
first-said (x ∷ ds) d h e = subst IsDomain (same x d e) h.0
  where
    same : (a b : DomainFields) → Some a ≡ Some b → a ≡ b
    same a b f = cc

pub tables-domain : (text : List ℕ) (t : TablesValue) → tables_of text ≡ Ok t → IsDomain t.domain
tables-domain text t e =
    let found = tables_found text t e in
    first-said (domains_of (said_by found.rows)) t.domain
    (domains-said (said_by found.rows) (domain-lines found.rows found.are_rows)) found.said.domain
