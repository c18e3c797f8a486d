-- Taking parts one after the other, as a loop does.
use Rattle.std.proofs.Common.{◌≡◌, ℕ, zero, suc, ◌+◌, ◌-◌, ◌≤◌, ◌<◌, List, [], ◌∷◌, length, Option, Some, None, Result}
use Rattle.std.proofs.Common.{Ok, Err, refl, sym, ap, ◌∙◌, arith}
use Rattle.mta_ber.specs.declared.fault.Fault.{Fault}
use Rattle.mta_ber.specs.declared.fault.ReadFault.{ReadFault}
use Rattle.mta_ber.specs.declared.fault.ReadFault.TheVariants as faults
use Rattle.mta_ber.specs.Head.{◌>>=◌}
use Rattle.mta_ber.specs.Element.{Part, part, next_part}
use Rattle.mta_ber.specs.Parts.{parts_from, parts_of, Fails}

module _ {S : Type 0} (step : S → Part → Result S Fault) (depth : ℕ) where
  pub record Left (at : ℕ) (s : S) (bytes : List ℕ) (total : Result S Fault) : Type 0 where
    pub turns : ℕ
    pub enough : length bytes ≤ turns
    pub so_far : parts_from step depth turns at s bytes ≡ total

  -- the part that comes next
  comes : (at : ℕ) (b : ℕ) (bs : List ℕ) (o : Option Part) → next_part at depth (b ∷ bs) ≡ Ok o → (p : Part)
      × (o ≡ Some p) × (part at depth (b ∷ bs) ≡ Ok p)
  unfolding next_part
  comes at b bs o e = go (part at depth (b ∷ bs)) refl e
    where
      go : (r : Result Part Fault) → part at depth (b ∷ bs) ≡ r → (r >>= λ p. Ok (Some p)) ≡ Ok o → (p : Part)
          × (o ≡ Some p) × (part at depth (b ∷ bs) ≡ Ok p)
      go (Ok p) is e = (p, cc, is)
      go (Err f) is e = absurd cc

  fails_so : (at : ℕ) (b : ℕ) (bs : List ℕ) (f : Fault) → next_part at depth (b ∷ bs) ≡ Err f
      → part at depth (b ∷ bs) ≡ Err f
  unfolding next_part
  fails_so at b bs f e = go (part at depth (b ∷ bs)) refl e
    where
      go : (r : Result Part Fault) → part at depth (b ∷ bs) ≡ r → (r >>= λ p. Ok (Some p)) ≡ Err f
          → part at depth (b ∷ bs) ≡ Err f
      go (Ok p) is e = absurd cc
      go (Err g) is e = is ∙ cc

  nothing_comes : (at : ℕ) (p : Part) → next_part at depth [] ≡ Ok (Some p) → ⊥
  unfolding next_part
  nothing_comes at p e = cc

  nothing_fails : (at : ℕ) (f : Fault) → next_part at depth [] ≡ Err f → ⊥
  unfolding next_part
  nothing_fails at f e = cc

  one_more : (turns at : ℕ) (s t : S) (b : ℕ) (bs : List ℕ) (p : Part) → part at depth (b ∷ bs) ≡ Ok p → step s p ≡ Ok t
      → parts_from step depth (suc turns) at s (b ∷ bs) ≡ parts_from step depth turns
      (at + (length (b ∷ bs) - length p.rest)) t p.rest
  unfolding parts_from
  one_more turns at s t b bs p e h = rw (e, h) refl

  pub goes_on : (at : ℕ) (s t : S) (bytes : List ℕ) (p : Part) (total : Result S Fault)
      → next_part at depth bytes ≡ Ok (Some p) → step s p ≡ Ok t → length p.rest < length bytes
      → Left at s bytes total → Left (at + (length bytes - length p.rest)) t p.rest total
  goes_on at s t [] p total e h shorter g = absurd (nothing_comes at p e)
  goes_on at s t (b ∷ bs) p total e h shorter g = go g.turns g.enough g.so_far
    where
      is : part at depth (b ∷ bs) ≡ Ok p
      is = let c = comes at b bs (Some p) e in let q : c.0 ≡ p = cc in c.2 ∙ ap Ok q

      go : (turns : ℕ) → length (b ∷ bs) ≤ turns → parts_from step depth turns at s (b ∷ bs) ≡ total
          → Left (at + (length (b ∷ bs) - length p.rest)) t p.rest total
      go zero enough so_far = absurd (omega arith)
      go (suc turns) enough so_far = record {
        turns = turns;
        enough = omega arith;
        so_far =
            sym (one_more turns at s t b bs p is h) ∙ so_far;
      }

  at_nothing : (turns at : ℕ) (s : S) → parts_from step depth turns at s [] ≡ Ok s
  unfolding parts_from
  at_nothing zero at s = refl
  at_nothing (suc turns) at s = refl

  pub is_done : (at : ℕ) (s : S) (bytes : List ℕ) (total : Result S Fault) → next_part at depth bytes ≡ Ok None
      → Left at s bytes total → total ≡ Ok s
  is_done at s [] total e g = sym g.so_far ∙ at_nothing g.turns at s
  is_done at s (b ∷ bs) total e g = let c = comes at b bs None e in absurd cc

  part_fails : (turns at : ℕ) (s : S) (b : ℕ) (bs : List ℕ) (f : Fault) → part at depth (b ∷ bs) ≡ Err f
      → parts_from step depth (suc turns) at s (b ∷ bs) ≡ Err f
  unfolding parts_from
  part_fails turns at s b bs f e = rw e refl

  pub next_fails : (at : ℕ) (s : S) (bytes : List ℕ) (f : Fault) (total : Result S Fault)
      → next_part at depth bytes ≡ Err f → Left at s bytes total → total ≡ Err f
  next_fails at s [] f total e g = absurd (nothing_fails at f e)
  next_fails at s (b ∷ bs) f total e g = go g.turns g.enough g.so_far
    where
      go : (turns : ℕ) → length (b ∷ bs) ≤ turns → parts_from step depth turns at s (b ∷ bs) ≡ total → total ≡ Err f
      go zero enough so_far = absurd (omega arith)
      go (suc turns) enough so_far = sym so_far ∙ part_fails turns at s b bs f (fails_so at b bs f e)

  step_fails_so : (turns at : ℕ) (s : S) (b : ℕ) (bs : List ℕ) (p : Part) (f : Fault) → part at depth (b ∷ bs) ≡ Ok p
      → step s p ≡ Err f → parts_from step depth (suc turns) at s (b ∷ bs) ≡ Err f
  unfolding parts_from
  step_fails_so turns at s b bs p f e h = rw (e, h) refl

  pub step_fails : (e : ReadFault) (at : ℕ) (s : S) (bytes : List ℕ) (p : Part) (total : Result S Fault)
      → next_part at depth bytes ≡ Ok (Some p) → Fails e (step s p) → Left at s bytes total → Fails e total
  step_fails faults.Memory at s bytes p total n h g = tt
  step_fails (faults.Bad f) at s [] p total n h g = absurd (nothing_comes at p n)
  step_fails (faults.Bad f) at s (b ∷ bs) p total n h g = go g.turns g.enough g.so_far
    where
      is : part at depth (b ∷ bs) ≡ Ok p
      is = let c = comes at b bs (Some p) n in let q : c.0 ≡ p = cc in c.2 ∙ ap Ok q

      go : (turns : ℕ) → length (b ∷ bs) ≤ turns → parts_from step depth turns at s (b ∷ bs) ≡ total → total ≡ Err f
      go zero enough so_far = absurd (omega arith)
      go (suc turns) enough so_far = sym so_far ∙ step_fails_so turns at s b bs p f is h

pub starts : {S : Type 0} (step : S → Part → Result S Fault) (s : S) (p : Part)
    → Left step (p.depth + 1) p.start s p.content (parts_of step s p)
unfolding parts_of
starts step s p = record { turns = length p.content; enough = omega arith; so_far = refl }
