-- What was found of the words.
use Rattle.std.proofs.Common.{◌≡◌, ℕ, ◌≤◌, ◌<◌, List, [], ◌∷◌, length, get_or, Option, Some, None, sym}
use Rattle.std.proofs.Common.{ap, subst, ◌∙◌, arith}
use Rattle.std.specs.Prelude.{codes}
use Rattle.mta_follow_run.specs.declared.words.Command.{Command}
use Rattle.mta_follow_run.specs.declared.words.Command.TheVariants as Commands
use Rattle.mta_follow_run.specs.Words.{Asked, IsFound, IsFoundPull, IsFoundPush, IsHost, IsPort, Push, Says, says_pull}
use Rattle.mta_follow_run.specs.Words.{says_push}

-- ---- lists of two and of three

pub two_of : {A : Type 0} (xs : List A) (a b : A) → 2 ≤ length xs → length xs < 3 → a ≡ get_or xs 0 a
    → b ≡ get_or xs 1 b → xs ≡ a ∷ b ∷ []
two_of [] a b least most p q = absurd (omega (arith, least))
two_of (x ∷ []) a b least most p q = absurd (omega (arith, least))
two_of {A} (x ∷ y ∷ []) a b least most p q =
    ap (λ (l : A). l ∷ y ∷ []) (sym p) ∙ ap (λ (l : A). a ∷ l ∷ []) (sym q)
two_of (x ∷ y ∷ z ∷ xs) a b least most p q = absurd (omega (arith, most))

pub three_of : {A : Type 0} (xs : List A) (a b c : A) → 3 ≤ length xs → length xs < 4 → a ≡ get_or xs 0 a
    → b ≡ get_or xs 1 b → c ≡ get_or xs 2 c → xs ≡ a ∷ b ∷ c ∷ []
three_of [] a b c least most p q r = absurd (omega (arith, least))
three_of (x ∷ []) a b c least most p q r = absurd (omega (arith, least))
three_of (x ∷ y ∷ []) a b c least most p q r = absurd (omega (arith, least))
three_of {A} (x ∷ y ∷ z ∷ []) a b c least most p q r =
    ap (λ (l : A). l ∷ y ∷ z ∷ []) (sym p) ∙ ap (λ (l : A). a ∷ l ∷ z ∷ []) (sym q)
    ∙ ap (λ (l : A). a ∷ b ∷ l ∷ []) (sym r)
three_of (x ∷ y ∷ z ∷ w ∷ xs) a b c least most p q r = absurd (omega (arith, most))

-- ---- `pull` and a port

pull_none : (words : List (List ℕ)) (verb text : List ℕ) → words ≡ verb ∷ text ∷ []
    → ((port : ℕ) → IsPort text port → ⊥) → (asked : Asked) → Says words asked → ⊥
pull_none words verb text is none asked (says_push host t port same at p) =
    let short : 2 ≡ 3 = ap length (sym is ∙ same) in omega (arith, short)
pull_none words verb text is none asked (says_pull t port same p) =
    let one : verb ∷ text ∷ [] ≡ codes "pull" ∷ t ∷ [] = sym is ∙ same in
    let e : text ≡ t = cc in none port (subst (λ (l : List ℕ). IsPort l port) (sym e) p)

pub pull_found : (words : List (List ℕ)) (verb text : List ℕ) (r : Option Command) → words ≡ verb ∷ text ∷ []
    → verb ≡ codes "pull" → IsFoundPull text r → IsFound words r
pull_found words verb text None is named h = pull_none words verb text is h
pull_found words verb text (Some (Commands.Push found port)) is named h = absurd h
pull_found words verb text (Some (Commands.Pull port)) is named h =
    says_pull text port (is ∙ ap (λ (l : List ℕ). l ∷ text ∷ []) named) h

-- ---- `push`, a host and a port

push_none : (words : List (List ℕ)) (verb host text : List ℕ) → words ≡ verb ∷ host ∷ text ∷ []
    → (IsHost host → (port : ℕ) → IsPort text port → ⊥) → (asked : Asked) → Says words asked → ⊥
push_none words verb host text is none asked (says_push h t port same at p) =
    let one : verb ∷ host ∷ text ∷ [] ≡ codes "push" ∷ h ∷ t ∷ [] = sym is ∙ same in
    let e : host ≡ h = cc in
    let f : text ≡ t = cc in
    none (subst IsHost (sym e) at) port (subst (λ (l : List ℕ). IsPort l port) (sym f) p)
push_none words verb host text is none asked (says_pull t port same p) =
    let long : 3 ≡ 2 = ap length (sym is ∙ same) in omega (arith, long)

pub push_found : (words : List (List ℕ)) (verb host text : List ℕ) (r : Option Command)
    → words ≡ verb ∷ host ∷ text ∷ [] → verb ≡ codes "push" → IsFoundPush host text r → IsFound words r
push_found words verb host text None is named h = push_none words verb host text is h
push_found words verb host text (Some (Commands.Push found port)) is named h =
    subst (λ (l : List ℕ). Says words (Push l port)) (sym h.0)
    (says_push host text port (is ∙ ap (λ (l : List ℕ). l ∷ host ∷ text ∷ []) named) h.1 h.2)
push_found words verb host text (Some (Commands.Pull port)) is named h = absurd h

-- three words of which the first is another
pub not_push : (words : List (List ℕ)) (verb host text : List ℕ) → words ≡ verb ∷ host ∷ text ∷ []
    → (verb ≡ codes "push" → ⊥) → (asked : Asked) → Says words asked → ⊥
not_push words verb host text is other asked (says_push h t port same at p) =
    let one : verb ∷ host ∷ text ∷ [] ≡ codes "push" ∷ h ∷ t ∷ [] = sym is ∙ same in
    let e : verb ≡ codes "push" = cc in other e
not_push words verb host text is other asked (says_pull t port same p) =
    let long : 3 ≡ 2 = ap length (sym is ∙ same) in omega (arith, long)
