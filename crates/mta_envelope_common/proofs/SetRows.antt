-- The components of a SET that are written one behind the other, some of which may be absent.
use Rattle.std.proofs.Common.{ℕ, ◌<◌, ◌^◌, List, [], ◌++◌, length, Option, Some, None, subst}
use Rattle.std.specs.Prelude.{IfSome}
use Rattle.std.proofs.lemmas.List.{append-nil}
use Rattle.mta_ber.specs.Canon.{optional}
use Rattle.mta_ber.specs.Components.{Makes, IsComponent}
use Rattle.mta_names.proofs.Rows.{IsRow, no_row, row_more, short_front, short_back}

module _ {S : Type 0} (makes : Makes S) (depth : ℕ) where
  -- octets that can be written are components one behind the other
  abbrev pub SetRow : S → List ℕ → S → Type 0
  SetRow s bytes t = length bytes < 2 ^ 64 → IsRow makes depth s bytes t

  -- one component
  abbrev pub SetPiece : S → List ℕ → S → Type 0
  SetPiece s octets t = length octets < 2 ^ 64 → IsComponent makes depth s octets t

  pub set_none : (s : S) → SetRow s [] s
  set_none s short = no_row makes depth s

  pub set_more : (s t u : S) (octets rest : List ℕ) → SetPiece s octets t → SetRow t rest u
      → SetRow s (octets ++ rest) u
  set_more s t u octets rest h r short = row_more makes depth s t u octets rest (h (short_front octets rest short))
      (r (short_back octets rest short))

  pub set_optional : {A : Type 0} (write : A → List ℕ) (P : A → Type 0) (put : Option A → S) (o : Option A)
      (rest : List ℕ) (u : S) → IfSome o P
      → ((x : A) → P x → SetPiece (put None) (write x) (put (Some x))) → SetRow (put o) rest u
      → SetRow (put None) (optional write o ++ rest) u
  set_optional write P put None rest u h piece r = r
  set_optional write P put (Some x) rest u h piece r = set_more (put None) (put (Some x)) u (write x) rest (piece x h) r

  -- the last component, behind which nothing stands
  pub set_last : (s u : S) (bytes : List ℕ) → SetRow s (bytes ++ []) u → SetRow s bytes u
  set_last s u bytes h = subst (λ x. SetRow s x u) (append-nil bytes) h
