-- The components of a SET of Reliable Transfer (X.228), and of the bind of message transfer agents, stand in any order
-- (X.690, 8.11): where octets spell a value, the octets of its components, each spelled as it is there, spell the same
-- value in every other order. One law for each SET. The octets of the element itself play no part in its value.
use Rattle.std.specs.Prelude.{ℕ, Bool, List}
use Rattle.std.specs.List.{concat}
use Rattle.mta_ber.specs.declared.tag.Tag.{Tag}
use Rattle.mta_rtse.specs.declared.types.Request.{Request}
use Rattle.mta_rtse.specs.declared.types.OpenRequest.{OpenRequest}
use Rattle.mta_rtse.specs.declared.types.OpenAnswer.{OpenAnswer}
use Rattle.mta_rtse.specs.Spelling.{SpellsBind, SpellsRtorq, SpellsRtoac, SpellsReason}
use Rattle.mta_set_laws.specs.Orders.{IsOrderOf}

-- the bind of an agent: its name, its credentials and a security context
abbrev pub BindsInAnyOrder : Type 0
BindsInAnyOrder =
    (depth : ℕ) (tag : Tag) (content octets others : List ℕ) (v : Request)
    → (h : SpellsBind depth tag content octets v) → (ys : List (List ℕ))
    → IsOrderOf h.spelled.components ys → SpellsBind depth tag (concat ys) others v

-- RTORQ, which opens an association
abbrev pub RequestsInAnyOrder : Type 0
RequestsInAnyOrder =
    (depth : ℕ) (tag : Tag) (content octets others : List ℕ) (v : OpenRequest)
    → (h : SpellsRtorq depth tag content octets v) → (ys : List (List ℕ))
    → IsOrderOf h.spelled.components ys → SpellsRtorq depth tag (concat ys) others v

-- RTOAC, which accepts one
abbrev pub AnswersInAnyOrder : Type 0
AnswersInAnyOrder =
    (depth : ℕ) (tag : Tag) (content octets others : List ℕ) (v : OpenAnswer)
    → (h : SpellsRtoac depth tag content octets v) → (ys : List (List ℕ))
    → IsOrderOf h.spelled.components ys → SpellsRtoac depth tag (concat ys) others v

-- RTORJ, which refuses one, and RTAB, which aborts one
abbrev pub ReasonsInAnyOrder : Type 0
ReasonsInAnyOrder =
    (number : ℕ) (aborts : Bool) (depth : ℕ) (tag : Tag) (content octets others : List ℕ) (reason : ℕ)
    → (h : SpellsReason number aborts depth tag content octets reason) → (ys : List (List ℕ))
    → IsOrderOf h.spelled.components ys → SpellsReason number aborts depth tag (concat ys) others reason
