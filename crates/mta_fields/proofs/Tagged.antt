-- Types that have one tag each: what is written is read again, and no spelling begins another.
use Rattle.std.proofs.Common.{◌≡◌, ℕ, ◌+◌, ◌≤◌, ◌<◌, ◌^◌, List, [], ◌++◌, length, Result, Ok, sym, subst, ◌∙◌}
use Rattle.mta_ber.specs.declared.fault.Fault.{Fault}
use Rattle.mta_ber.specs.declared.tag.Tag.{Tag}
use Rattle.mta_ber.specs.Canon.{IsTag, element}
use Rattle.mta_ber.specs.Element.{Part}
use Rattle.mta_ber.proofs.CanonLaws.{lent}
use Rattle.mta_ber.proofs.RowLaws.{one_spelling, lent_part}
use Rattle.mta_ber.proofs.Steps.{ok_is}
use Rattle.mta_names.specs.Laws.{IsReadAgain}
use Rattle.mta_names.proofs.Rows.{read_again}
use Rattle.mta_fields.specs.Tagged.{NoTaggedBeginsAnother}

pub tagged_again : {A : Type 0} (read : Part → Result A Fault) (spells : ℕ → Tag → List ℕ → A → Type 0)
    → ((v : A) (p : Part) → spells p.depth p.tag p.content v → read p ≡ Ok v)
    → (depth : ℕ) (tag : Tag) (content : List ℕ) (v : A) → IsTag tag → depth ≤ 16
    → (length content < 2 ^ 64 → spells depth tag content v) → IsReadAgain read depth (element tag content) v
tagged_again read spells full depth tag content v low d f =
    read_again read depth tag content v low d (λ short at more. full v (lent at depth tag content more) (f short))

-- a value that is spelled is the only one, and so are its octets
pub none_tagged_begins : {A : Type 0} (read : Part → Result A Fault) (spells : ℕ → Tag → List ℕ → A → Type 0)
    → ((v : A) (p : Part) → p.depth ≤ 16 → spells p.depth p.tag p.content v → read p ≡ Ok v)
    → NoTaggedBeginsAnother spells
none_tagged_begins read spells full depth e e' x y v w h k same =
    let one = one_spelling depth h.tag k.tag h.content k.content e e' x y h.stands k.stands same in
    let p = lent_part 0 depth h.tag 0 h.content [] e in
    let second = subst (λ t. spells depth t h.content w) (sym one.1)
    (subst (λ c. spells depth k.tag c w) (sym one.2) k.spelled) in
    (one.0, ok_is v w (sym (full v p h.stands.shallow h.spelled) ∙ full w p h.stands.shallow second))
