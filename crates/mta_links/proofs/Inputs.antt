-- Call after call of a link.
use Rattle.std.proofs.Common.{◌≤◌, ℕ, List, ◌++◌, length, take, drop, sym, ap, subst, ◌∙◌, append_assoc}
use Rattle.std.proofs.lemmas.List.{take-append-drop}
use Rattle.mta_links.specs.Laws.{InOrder, OneInput}
use Rattle.mta_links.proofs.Carried.{take-plus}

pub one_input : OneInput
one_input n into f g gets =
    ap (λ (l : List ℕ). g.got ++ l) gets.left ∙ ap (λ (l : List ℕ). l ++ drop n f.left) gets.got
    ∙ append_assoc f.got (take n f.left) (drop n f.left) ∙ ap (λ (l : List ℕ). f.got ++ l) (take-append-drop n f.left)

pub in_order : InOrder
in_order n m into next f g h first then =
    let rest : List ℕ = drop n f.left in
    let fits : m ≤ length rest = subst (λ (l : List ℕ). m ≤ length l) first.left then.fits in
    then.got ∙ ap (λ (l : List ℕ). g.got ++ take m l) first.left ∙ ap (λ (l : List ℕ). l ++ take m rest) first.got
    ∙ append_assoc f.got (take n f.left) (take m rest)
    ∙ ap (λ (l : List ℕ). f.got ++ l) (sym (take-plus f.left n m fits))
