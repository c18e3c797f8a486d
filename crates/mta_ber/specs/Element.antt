-- Elements: where an indefinite content ends, and the parts that a reader is lent.
use Rattle.std.specs.Prelude.{◌≡◌, ℕ, zero, suc, ◌+◌, ◌-◌, Bool, true, false, List, [], ◌∷◌, length}
use Rattle.std.specs.Prelude.{take, drop, Option, Some, None, Result, Ok, ◌==◌, if◌then◌else◌, ◌&&◌}
use Rattle.mta_ber.specs.declared.fault.Fault.{Fault}
use Rattle.mta_ber.specs.declared.fault.Kind.TheVariants.{Truncated, BadTag}
use Rattle.mta_ber.specs.declared.tag.Tag.{Tag}
use Rattle.mta_ber.specs.Head.{◌>>=◌, fault, Header, head}

-- A row of elements ends where nothing is left, or, in an indefinite content, where two zero octets stand.
abbrev pub at_end : Bool → List ℕ → Bool
at_end false [] = true
at_end false (b ∷ bs) = false
at_end true [] = false
at_end true (b ∷ []) = false
at_end true (b ∷ c ∷ bs) = (b == 0) && (c == 0)

abbrev pub end_size : Bool → ℕ
end_size false = 0
end_size true = 2

-- how many octets a row has up to its end
abbrev pub Extent : Type 0
Extent = Bool → ℕ → List ℕ → Result ℕ Fault

-- how many octets a content has, and behind an indefinite one the two octets of its end
unfoldable pub content_size : Extent → ℕ → Header → Result ℕ Fault
content_size inside start h = elim (h.count) [
  | None ↦ inside true start h.body
  | Some n ↦ if h.tag.constructed then (inside false start (take n h.body) >>= λ _. Ok n) else Ok n
]

-- how many octets the element at the front has, where those inside it are measured by `inside`
unfoldable pub element_size : Extent → ℕ → ℕ → List ℕ → Result ℕ Fault
element_size inside depth at bytes =
    head at depth bytes >>= λ h.
    content_size inside (at + (length bytes - length h.body)) h >>= λ n.
    Ok (length bytes - length h.body + n)

-- the elements in a row, at most as many as there are octets
unfoldable pub row : Extent → ℕ → ℕ → Extent
row inside depth zero marked at bytes = fault at Truncated
row inside depth (suc turns) marked at bytes =
    if at_end marked bytes then Ok (end_size marked)
    else (element_size inside depth at bytes >>= λ n. row inside depth turns marked (at + n)
    (drop n bytes) >>= λ m. Ok
    (n + m))

-- the elements in a row with `left` levels left for them, of 17: in the last of these each has a fault
unfoldable pub run : ℕ → Extent
run zero marked at bytes = fault at Truncated
run (suc left) marked at bytes = row (run left) (17 - left) (suc (length bytes)) marked at bytes

-- an element as it is lent: its tag, offset and level, the offset of its content, the content, what follows, and its
-- own octets
pub record Part : Type 0 where
  pub tag : Tag
  pub at : ℕ
  pub depth : ℕ
  pub start : ℕ
  pub content : List ℕ
  pub rest : List ℕ
  pub octets : List ℕ

unfoldable pub part_from : ℕ → ℕ → List ℕ → Header → Result Part Fault
part_from at depth bytes h = elim (h.count) [
  | None ↦ (run (17 - depth) true (at + (length bytes - length h.body)) h.body >>= λ k.
      Ok (record {
        tag = h.tag;
        at = at;
        depth = depth;
        start = at + (length bytes - length h.body);
        content =
            take (k - 2) h.body;
        rest = drop k h.body;
        octets = take (length bytes - length h.body + k) bytes;
      }))
  | Some n ↦ Ok (record {
    tag = h.tag;
    at = at;
    depth = depth;
    start = at + (length bytes - length h.body);
    content =
        take n h.body;
    rest = drop n h.body;
    octets = take (length bytes - length h.body + n) bytes;
  })
]

-- the element at the front, in the level `depth`
unfoldable pub part : ℕ → ℕ → List ℕ → Result Part Fault
part at depth bytes = head at depth bytes >>= part_from at depth bytes

-- the outermost level is 1, or 2 where the tag is context 2
abbrev pub outermost : Tag → ℕ
outermost tag = if (tag.class == 2) && (tag.number == 2) then 2 else 1

unfoldable pub first : ℕ → List ℕ → Result Part Fault
first at bytes = head at 1 bytes >>= λ h. part_from at (outermost h.tag) bytes h

-- the next part of a row that ends with its octets
unfoldable pub next_part : ℕ → ℕ → List ℕ → Result (Option Part) Fault
next_part at depth [] = Ok None
next_part at depth (b ∷ bs) = part at depth (b ∷ bs) >>= λ p. Ok (Some p)

-- what is left, and its offset, where the rest follows an element
pub record IsBehind (at : ℕ) (bytes rest : List ℕ) (new_at : ℕ) (left : List ℕ) : Type 0 where
  pub follows : left ≡ rest
  pub offset : new_at ≡ at + (length bytes - length rest)

-- the one element inside an explicit tag; where none stands, its identifier octet is missing
unfoldable pub inner : Part → Result Part Fault
inner p = if p.tag.constructed then part p.start (p.depth + 1) p.content else fault p.at BadTag

-- nothing stands behind an element in what encloses it
abbrev pub nothing_at : ℕ → ℕ → List ℕ → Result (Unit {0}) Fault
nothing_at at depth [] = Ok tt
nothing_at at depth (b ∷ bs) = part at depth (b ∷ bs) >>= λ q. fault q.at BadTag

unfoldable pub alone : Part → Result (Unit {0}) Fault
alone p = nothing_at (p.at + length p.octets) p.depth p.rest

-- an explicit tag around what `read` reads
abbrev pub explicit : {A : Type 0} → (Part → Result A Fault) → Part → Result A Fault
explicit read p = inner p >>= λ q. read q >>= λ x. alone q >>= λ _. Ok x
