-- Where a walk ends, by what becomes of the name at its last agent.
use Rattle.std.proofs.Common.{◌≡◌, ℕ, Bool, false, List, Option, Some, None, refl, sym, ap, subst, ◌∙◌, ◌↔◌}
use Rattle.std.specs.Prelude.{IsTrue, Contains}
use Rattle.mta_tables.specs.Tables.{TablesValue}
use Rattle.mta_rehearse_run.specs.declared.turn.Turn.{Turn}
use Rattle.mta_rehearse_run.specs.declared.turn.Turn.TheVariants.{On, Over}
use Rattle.mta_rehearse_run.specs.declared.walked.WalkEnd.{WalkEnd}
use Rattle.mta_rehearse_run.specs.declared.walked.WalkEnd.TheVariants as Ends
use Rattle.mta_rehearse_run.specs.Agents.{agent_named}
use Rattle.mta_rehearse_run.specs.Turns.{on_or_unknown, to_word}
use Rattle.mta_rehearse_run.specs.Walks.{EndsBy, over, around, GoesBack}

on_over : (a : ℕ) (end : WalkEnd) → On a ≡ Over end → ⊥
on_over a end e = absurd cc

same_over : (a b : WalkEnd) → Over a ≡ Over b → a ≡ b
same_over a b e = cc

same_on : (a b : ℕ) → On a ≡ On b → a ≡ b
same_on a b e = cc

over_is : (t : Turn) (e : WalkEnd) (agents : List ℕ) (end : WalkEnd) → t ≡ Over e → EndsBy t agents end → end ≡ e
over_is t e agents end is (over h) = same_over end e (sym h ∙ is)
over_is t e agents end is (around a h i k) = absurd (on_over a e (sym h ∙ is))

pub over_ends : (t : Turn) (e : WalkEnd) (agents : List ℕ) (end : WalkEnd) (r : Bool) → t ≡ Over e
    → (IsTrue r ↔ (end ≡ e)) → (IsTrue r ↔ EndsBy t agents end)
over_ends t e agents end r is h = (
  λ y. over (is ∙ ap Over (sym (h.0 y))),
  λ k. h.1 (over_is t e agents end is k),
)

loop_back : (t : Turn) (agents : List ℕ) (a : ℕ) (end : WalkEnd) → ((b : WalkEnd) → t ≡ Over b → end ≡ b → ⊥)
    → end ≡ Ends.Loop a → EndsBy t agents end → GoesBack t agents a
loop_back t agents a end no_over is (over h) = absurd (no_over end h refl)
loop_back t agents a end no_over is (around b h i k) =
    let same = same_loop b a (sym k ∙ is) in
    (h ∙ ap On same, subst (Contains agents) same i)
  where
    same_loop : (b a : ℕ) → Ends.Loop b ≡ Ends.Loop a → b ≡ a
    same_loop b a e = cc

-- a peer's name leads on, or is unknown
unknown_only : (o : Option ℕ) (word : List ℕ) (e : WalkEnd) → on_or_unknown o word ≡ Over e → e ≡ Ends.Unknown word
unknown_only None word e h = same_over e (Ends.Unknown word) (sym h)
unknown_only (Some a) word e h = absurd (on_over a e h)

no_loop : (a : ℕ) (word : List ℕ) → Ends.Loop a ≡ Ends.Unknown word → ⊥
no_loop a word e = absurd cc

pub loop_ends : (xs : List TablesValue) (word : List ℕ) (agents : List ℕ) (a : ℕ) (r : Bool)
    → (IsTrue r ↔ GoesBack (to_word xs word) agents a)
    → (IsTrue r ↔ EndsBy (to_word xs word) agents (Ends.Loop a))
loop_ends xs word agents a r h = (
  λ y. (let g = h.0 y in around a g.0 g.1 refl),
  λ k. h.1 (loop_back (to_word xs word) agents a (Ends.Loop a)
      (λ b e f. no_loop a word (f ∙ unknown_only (agent_named xs word) word b e)) refl k),
)

unknown_over : (t : Turn) (agents : List ℕ) (said : List ℕ) (end : WalkEnd) → end ≡ Ends.Unknown said
    → EndsBy t agents end → t ≡ Over (Ends.Unknown said)
unknown_over t agents said end is (over h) = h ∙ ap Over is
unknown_over t agents said end is (around a h i k) = absurd (no_loop a said (sym k ∙ is))

pub unknown_ends : (t : Turn) (agents : List ℕ) (said : List ℕ) (r : Bool)
    → (IsTrue r ↔ (t ≡ Over (Ends.Unknown said)))
    → (IsTrue r ↔ EndsBy t agents (Ends.Unknown said))
unknown_ends t agents said r h = (
  λ y. over (h.0 y),
  λ k. h.1 (unknown_over t agents said (Ends.Unknown said) refl k),
)

-- the other ends do not come behind a peer's name
data IsOwnEnd : WalkEnd → Type 0 where
  mailbox : (place : ℕ) → IsOwnEnd (Ends.Mailbox place)
  list : (place : ℕ) → IsOwnEnd (Ends.List place)
  no_route : IsOwnEnd Ends.NoRoute

not_unknown : (end : WalkEnd) (word : List ℕ) → IsOwnEnd end → end ≡ Ends.Unknown word → ⊥
not_unknown end word (mailbox place) e = absurd cc
not_unknown end word (list place) e = absurd cc
not_unknown end word no_route e = absurd cc

not_loop : (end : WalkEnd) (a : ℕ) → IsOwnEnd end → end ≡ Ends.Loop a → ⊥
not_loop end a (mailbox place) e = absurd cc
not_loop end a (list place) e = absurd cc
not_loop end a no_route e = absurd cc

no_end : (xs : List TablesValue) (word : List ℕ) (agents : List ℕ) (end : WalkEnd) → IsOwnEnd end
    → EndsBy (to_word xs word) agents end → ⊥
no_end xs word agents end own (over h) = not_unknown end word own (unknown_only (agent_named xs word) word end h)
no_end xs word agents end own (around a h i k) = not_loop end a own k

is_false : IsTrue false → ⊥
is_false e = absurd cc

own_ends : (xs : List TablesValue) (word : List ℕ) (agents : List ℕ) (end : WalkEnd) → IsOwnEnd end
    → (IsTrue false ↔ EndsBy (to_word xs word) agents end)
own_ends xs word agents end own = (λ y. absurd (is_false y), λ k. absurd (no_end xs word agents end own k))

pub mailbox_ends : (xs : List TablesValue) (word : List ℕ) (agents : List ℕ) (place : ℕ)
    → (IsTrue false ↔ EndsBy (to_word xs word) agents (Ends.Mailbox place))
mailbox_ends xs word agents place = own_ends xs word agents (Ends.Mailbox place) (mailbox place)

pub list_ends : (xs : List TablesValue) (word : List ℕ) (agents : List ℕ) (place : ℕ)
    → (IsTrue false ↔ EndsBy (to_word xs word) agents (Ends.List place))
list_ends xs word agents place = own_ends xs word agents (Ends.List place) (list place)

pub no_route_ends : (xs : List TablesValue) (word : List ℕ) (agents : List ℕ)
    → (IsTrue false ↔ EndsBy (to_word xs word) agents Ends.NoRoute)
no_route_ends xs word agents = own_ends xs word agents Ends.NoRoute no_route
