-- Behind lines that can stand in one text some text of tables goes on.
use Rattle.std.proofs.Common.{◌≡◌, ℕ, ◌+◌, ◌<◌, ◌≤◌, false, eqb, List, [], ◌∷◌, ◌++◌, length, Option, Some, None, refl}
use Rattle.std.proofs.Common.{sym, ap, subst, ◌∙◌, arith, append_assoc, append-nil, length-append, not, codes}
use Rattle.std.specs.Prelude.{All}
use Rattle.std.proofs.lemmas.List.{map-append}
use Rattle.std.proofs.lemmas.List.Concat.{flat_map-append}
use Rattle.std.proofs.lemmas.List.Elements.{All-nil, All-append, All-push}
use Rattle.mta_fields.specs.declared.domain.DomainFields.{DomainFields}
use Rattle.mta_names.specs.declared.attributes.Label.{Label}
use Rattle.mta_name_text.specs.declared.key.Key.TheVariants as Keys
use Rattle.mta_name_text.specs.Forms.{keyed}
use Rattle.mta_name_text.specs.Grammar.{start, behind}
use Rattle.mta_name_text.specs.Made.{printable_label}
use Rattle.mta_name_text.specs.Shapes.{is_value}
use Rattle.mta_tables.specs.declared.line.Line.{Line}
use Rattle.mta_tables.specs.declared.line.Line.TheVariants as Said
use Rattle.mta_tables.specs.Grammar.{DomainLine, NameLine, Row, IsRow, row_octets, text_of, said_by, domain_in, name_in}
use Rattle.mta_tables.specs.Grammar.{domains_of, names_of, first_of, MayFollow, CanStand, IsTablesText}
use Rattle.mta_tables.specs.Reading.{lines_of}
use Rattle.mta_tables.specs.Tables.{TablesValue, tables}
use Rattle.mta_tables.proofs.Cuttings.{none_of}
use Rattle.mta_tables.proofs.Grammars.{lines_said, with_text}
use Rattle.mta_tables.proofs.Standing.{draft_of, stand_more}

-- ---- a line with a domain, and one with a name

abbrev some_domain : DomainFields
some_domain = record { country = printable_label (codes "AA"); admd = printable_label []; prmd = None }

abbrev domain_row : Row
domain_row = record {
  octets = codes "domain C=AA;A=";
  words = DomainLine (codes "C=AA;A=");
  says =
      Said.Domain some_domain;
}

abbrev name_row : Row
name_row = record { octets = codes "name a"; words = NameLine (codes "a"); says = Said.Name (codes "a") }

domain_is_row : IsRow domain_row
unfolding is_value
domain_is_row = record {
  one_line = none_of (λ c. not (eqb c 10)) 10 (codes "domain C=AA;A=") refl refl;
  has_words = refl;
  meaning = record {
    parts = keyed Keys.Country (codes "AA") ∷ keyed Keys.Admd [] ∷ [];
    form = record {
      last = behind (behind start Keys.Country) Keys.Admd;
      follow = (refl, record { kind = refl; value = refl }, (refl, record { kind = refl; value = refl }, refl));
      some = omega arith;
      text_is = refl;
    };
    name_is = refl;
  };
}

name_is_row : IsRow name_row
name_is_row = record {
  one_line = none_of (λ c. not (eqb c 10)) 10 (codes "name a") refl refl;
  has_words = (refl, refl);
  meaning = refl;
}

-- ---- rows behind rows

record Going (rows : List Row) (size : ℕ) : Type 0 where
  more : List Row
  are_rows : All IsRow more
  stand : CanStand (said_by (rows ++ more))
  short : length (text_of more) ≤ size

abbrev said_in : (rows : List Row) (size : ℕ) → Going rows size → List Line
said_in rows size g = said_by (rows ++ g.more)

said_more : (rows more : List Row) (row : Row) → said_by (rows ++ (more ++ row ∷ [])) ≡ said_by (rows ++ more)
    ++ row.says ∷ []
said_more rows more row = ap said_by (sym (append_assoc rows more (row ∷ [])))
    ∙ map-append (λ (r : Row). r.says) (rows ++ more) (row ∷ [])

longer : (more : List Row) (row : Row) (n k : ℕ) → length (text_of more) ≤ n → length (row_octets row) ≤ k
    → length (text_of (more ++ row ∷ [])) ≤ n + k
longer more row n k l m =
    let e : length (text_of (more ++ row ∷ [])) ≡ length (text_of more) + length (row_octets row) =
    ap length (flat_map-append row_octets more (row ∷ []) ∙ ap (λ x. text_of more ++ x) (append-nil (row_octets row)))
    ∙ length-append (text_of more) (row_octets row) in
    omega arith

row_more : (rows : List Row) (n k : ℕ) (g : Going rows n) (row : Row) → IsRow row → length (row_octets row) ≤ k
    → MayFollow (said_in rows n g) row.says → Going rows (n + k)
row_more rows n k g row r l f = record {
  more = g.more ++ row ∷ [];
  are_rows = All-push IsRow g.more row g.are_rows r;
  stand = subst CanStand (sym (said_more rows g.more row)) (stand_more (said_by (rows ++ g.more)) row.says g.stand f);
  short = longer g.more row n k g.short l;
}

wider : (rows : List Row) (n k : ℕ) → Going rows n → Going rows (n + k)
wider rows n k g = record {
  more = g.more;
  are_rows = g.are_rows;
  stand = g.stand;
  short =
      (let l = g.short in omega arith);
}

none_first : {X : Type 0} (xs : List X) → first_of xs ≡ None → 0 < length xs → ⊥
none_first [] e l = omega arith
none_first (x ∷ xs) e l = cc

first_last : {X : Type 0} (xs : List X) (x : X) → first_of xs ≡ None → first_of (xs ++ x ∷ []) ≡ Some x
first_last [] x e = refl
first_last (y ∷ ys) x e = absurd cc

record WithDomain (rows : List Row) (size : ℕ) : Type 0 where
  going : Going rows size
  domain : DomainFields
  domain_is : first_of (domains_of (said_in rows size going)) ≡ Some domain

record WithName (rows : List Row) (size : ℕ) : Type 0 where
  going : Going rows size
  domain : DomainFields
  own : List ℕ
  domain_is : first_of (domains_of (said_in rows size going)) ≡ Some domain
  own_is : first_of (names_of (said_in rows size going)) ≡ Some own

domains_more : (said : List Line) (s : Line) → domains_of (said ++ s ∷ []) ≡ domains_of said ++ domain_in s
domains_more said s = flat_map-append domain_in said (s ∷ [])
    ∙ ap (λ x. domains_of said ++ x) (append-nil (domain_in s))

names_more : (said : List Line) (s : Line) → names_of (said ++ s ∷ []) ≡ names_of said ++ name_in s
names_more said s = flat_map-append name_in said (s ∷ []) ∙ ap (λ x. names_of said ++ x) (append-nil (name_in s))

with_domain : (rows : List Row) (n : ℕ) (g : Going rows n) (o : Option DomainFields)
    → first_of (domains_of (said_in rows n g)) ≡ o → WithDomain rows (n + 15)
unfolding row_more wider
with_domain rows n g (Some x) e = record { going = wider rows n 15 g; domain = x; domain_is = e }
with_domain rows n g None e =
    let said = said_by (rows ++ g.more) in
    let f : MayFollow said (Said.Domain some_domain) =
    record { known = λ h. h; first = none_first (domains_of said) e; room = λ h. h } in
    record {
      going = row_more rows n 15 g domain_row domain_is_row (omega arith) f;
      domain = some_domain;
      domain_is = ap (λ s. first_of (domains_of s)) (said_more rows g.more domain_row)
          ∙ ap first_of (domains_more said (Said.Domain some_domain)) ∙ first_last (domains_of said) some_domain e;
    }

with_name : (rows : List Row) (n : ℕ) (w : WithDomain rows n) (o : Option (List ℕ))
    → first_of (names_of (said_in rows n w.going)) ≡ o → WithName rows (n + 7)
unfolding row_more wider
with_name rows n w (Some x) e =
    record { going = wider rows n 7 w.going; domain = w.domain; own = x; domain_is = w.domain_is; own_is = e }
with_name rows n w None e =
    let g = w.going in
    let said = said_by (rows ++ g.more) in
    let f : MayFollow said (Said.Name (codes "a")) =
    record { known = λ h. h; first = none_first (names_of said) e; room = λ h. h } in
    record {
      going = row_more rows n 7 g name_row name_is_row (omega arith) f;
      domain = w.domain;
      own = codes "a";
      domain_is = ap (λ s. first_of (domains_of s)) (said_more rows g.more name_row)
          ∙ ap first_of (domains_more said (Said.Name (codes "a")) ∙ append-nil (domains_of said)) ∙ w.domain_is;
      own_is = ap (λ s. first_of (names_of s)) (said_more rows g.more name_row)
          ∙ ap first_of (names_more said (Said.Name (codes "a"))) ∙ first_last (names_of said) (codes "a") e;
    }

begun : (rows : List Row) → CanStand (said_by rows) → Going rows 0
begun rows st = record {
  more = [];
  are_rows = All-nil IsRow;
  stand = subst (λ r. CanStand (said_by r)) (sym (append-nil rows)) st;
  short = omega arith;
}

pub goes_on : (rows : List Row) → All IsRow rows → CanStand (said_by rows) → length (text_of rows) + 22 ≤ 1048576
    → (rest : List ℕ) × ((t : TablesValue) × IsTablesText (text_of rows ++ rest) t)
goes_on rows a st l =
    let b = begun rows st in
    let c = with_domain rows 0 b (first_of (domains_of (said_in rows 0 b))) refl in
    let d = with_name rows (0 + 15) c (first_of (names_of (said_in rows (0 + 15) c.going))) refl in
    let g = d.going in
    let short = g.short in
    let rest = text_of g.more in
    let said = said_by (rows ++ g.more) in
    let lines = lines_of (draft_of said) d.domain d.own in (
      rest,
      (
        tables (text_of rows ++ rest) lines,
        record {
          rows = rows ++ g.more;
          are_rows = All-append IsRow rows g.more a g.are_rows;
          text_is = sym (flat_map-append row_octets rows g.more);
          fits = omega (arith, length-append (text_of rows) rest);
          stand = g.stand;
          kept = refl;
          said = with_text said lines (text_of rows ++ rest) (lines_said said d.domain d.own d.domain_is d.own_is);
        },
      ),
    )
