-- The levels in which an element stands: with it each level above, and where its length is definite every level.
use Rattle.std.proofs.Common.{◌≡◌, ℕ, zero, suc, ◌-◌, ◌≤◌, Bool, true, false, List, [], ◌∷◌, Option, Some, None, refl}
use Rattle.std.proofs.Common.{sym, subst, arith}
use Rattle.std.specs.Prelude.{IfNone}
use Rattle.mta_ber.specs.declared.tag.Tag.{Tag}
use Rattle.mta_ber.specs.Spelling.{IsRow, Row, IsContent, Whole, Stands}
use Rattle.mta_ber.proofs.RowLaws.{one_spelling}
use Rattle.mta_names.specs.Laws.{IsRawAt}

-- ---- in a level above there is more room for what is inside

each_whole : (P Q : List ℕ → Type 0) → ((e : List ℕ) → P e → Q e) → (marked : Bool) (es : List (List ℕ))
    → IsRow P marked es → IsRow Q marked es
each_whole P Q f marked [] h = tt
each_whole P Q f marked (e ∷ es) h = (f e h.0, h.1, each_whole P Q f marked es h.2)

row_whole : (P Q : List ℕ → Type 0) → ((e : List ℕ) → P e → Q e) → (marked : Bool) (content : List ℕ)
    → Row P marked content → Row Q marked content
row_whole P Q f marked content h =
    record { elements = h.elements; each = each_whole P Q f marked h.elements h.each; joined = h.joined }

content_whole : (P Q : List ℕ → Type 0) → ((e : List ℕ) → P e → Q e) → (c : Bool) (count : Option ℕ) (content : List ℕ)
    → IsContent P c count content → IsContent Q c count content
content_whole P Q f c (Some n) content h = (h.0, λ e. row_whole P Q f false content (h.1 e))
content_whole P Q f c None content h = row_whole P Q f true content h

whole_in_more : (left more : ℕ) → left ≤ more → (e : List ℕ) → Whole left e → Whole more e
whole_in_more zero more le e h = absurd h
whole_in_more (suc left) zero le e h = absurd (omega arith)
whole_in_more (suc left) (suc more) le e h = record {
  tag = h.tag;
  count = h.count;
  header = h.header;
  content = h.content;
  is_header = h.is_header;
  is_content = content_whole (Whole left) (Whole more) (whole_in_more left more (omega arith)) h.tag.constructed h.count
      h.content h.is_content;
  octets_are = h.octets_are;
}

none_so : {A B : Type 0} (count : Option ℕ) → (A → B) → IfNone count A → IfNone count B
none_so None f h = f h
none_so (Some n) f h = tt

-- an element of a level stands in each level above
pub stands_above : (depth above : ℕ) (t : Tag) (content octets : List ℕ) → above ≤ depth → Stands depth t content octets
    → Stands above t content octets
stands_above depth above t content octets le h = record {
  count = h.count;
  header = h.header;
  is_header = h.is_header;
  shallow = let s = h.shallow in omega arith;
  definite = h.definite;
  indefinite = none_so {A = Row (Whole (16 - depth)) true content} {B = Row (Whole (16 - above)) true content} h.count
      (row_whole (Whole (16 - depth)) (Whole (16 - above)) (whole_in_more (16 - depth) (16 - above) (omega arith)) true
      content) h.indefinite;
  octets_are = h.octets_are;
}

pub raw_above : (depth above class number : ℕ) (octets : List ℕ) → above ≤ depth → IsRawAt depth class number octets
    → IsRawAt above class number octets
raw_above depth above class number octets le h =
    record {
      tag = h.tag;
      content = h.content;
      is_tag_of = h.is_tag_of;
      stands =
          stands_above depth above h.tag h.content octets le h.stands;
    }

-- ---- an element of a definite length: what is in it is not looked into

pub stands_everywhere : (depth other size : ℕ) (t : Tag) (content octets : List ℕ) (h : Stands depth t content octets)
    → h.count ≡ Some size → other ≤ 16 → Stands other t content octets
stands_everywhere depth other size t content octets h is le = record {
  count = h.count;
  header = h.header;
  is_header = h.is_header;
  shallow = le;
  definite = h.definite;
  indefinite = subst (λ o. IfNone o (Row (Whole (16 - other)) true content)) (sym is) tt;
  octets_are = h.octets_are;
}

-- ---- an element has one tag, in whatever level it stands

pub one_tag : (depth other : ℕ) (t u : Tag) (c d octets : List ℕ) → Stands depth t c octets → Stands other u d octets
    → t ≡ u
one_tag depth other t u c d octets h k =
    (one_spelling 0 t u c d octets octets [] [] (stands_above depth 0 t c octets (omega arith) h)
    (stands_above other 0 u d octets (omega arith) k) refl).1
