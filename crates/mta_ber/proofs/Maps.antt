-- What is gathered, seen through a function.
use Rattle.std.proofs.Common.{◌≡◌, ℕ, zero, suc, ◌+◌, ◌-◌, Bool, true, false, cond, List, [], ◌∷◌, length, Result, Ok}
use Rattle.std.proofs.Common.{Err, refl}
use Rattle.std.specs.Prelude.{◌&&◌}
use Rattle.mta_ber.specs.declared.fault.Fault.{Fault}
use Rattle.mta_ber.specs.declared.fault.Kind.TheVariants.{BadTag}
use Rattle.mta_ber.specs.Head.{◌>>=◌, fault}
use Rattle.mta_ber.specs.Element.{Part, part}
use Rattle.mta_ber.specs.Parts.{parts_from, parts_of}
use Rattle.mta_ber.specs.Strings.{Piece, is_segment, is_empty, segment, gather}

module _ {S T : Type 0} (f : S → T) where
  abbrev pub seen : Result S Fault → Result T Fault
  seen r = r >>= λ s. Ok (f s)

  parts_map : (step : S → Part → Result S Fault) (step' : T → Part → Result T Fault)
      → ((s : S) (p : Part) → step' (f s) p ≡ seen (step s p))
      → (depth turns at : ℕ) (s : S) (bytes : List ℕ)
      → parts_from step' depth turns at (f s) bytes ≡ seen (parts_from step depth turns at s bytes)
  unfolding parts_from
  parts_map step step' h depth zero at s [] = refl
  parts_map step step' h depth (suc turns) at s [] = refl
  parts_map step step' h depth zero at s (b ∷ bs) = refl
  parts_map step step' h depth (suc turns) at s (b ∷ bs) =
      behind_part step step' h depth turns at s (b ∷ bs) (λ at t bytes. parts_map step step' h depth turns at t bytes)
      (part at depth (b ∷ bs))
    where
      behind_step : (step : S → Part → Result S Fault) (step' : T → Part → Result T Fault) (depth turns at : ℕ)
          (bytes : List ℕ) → ((at : ℕ) (t : S) (bytes : List ℕ)
          → parts_from step' depth turns at (f t) bytes ≡ seen (parts_from step depth turns at t bytes))
          → (p : Part) (r : Result S Fault)
          → (seen r >>= λ t. parts_from step' depth turns (at + (length bytes - length p.rest)) t p.rest) ≡ seen
          (r >>= λ t. parts_from step depth turns (at + (length bytes - length p.rest)) t p.rest)
      behind_step step step' depth turns at bytes again p (Ok t) = again (at + (length bytes - length p.rest)) t p.rest
      behind_step step step' depth turns at bytes again p (Err e) = refl

      behind_part : (step : S → Part → Result S Fault) (step' : T → Part → Result T Fault)
          → ((s : S) (p : Part) → step' (f s) p ≡ seen (step s p)) → (depth turns at : ℕ) (s : S) (bytes : List ℕ)
          → ((at : ℕ) (t : S) (bytes : List ℕ)
          → parts_from step' depth turns at (f t) bytes ≡ seen (parts_from step depth turns at t bytes))
          → (r : Result Part Fault) → (r >>= λ p. step' (f s) p >>= λ t. parts_from step' depth turns
          (at + (length bytes - length p.rest)) t p.rest) ≡ seen
          (r >>= λ p. step s p >>= λ t. parts_from step depth turns (at + (length bytes - length p.rest)) t p.rest)
      behind_part step step' h depth turns at s bytes again (Ok p) =
          rw (h s p) (behind_step step step' depth turns at bytes again p (step s p))
      behind_part step step' h depth turns at s bytes again (Err e) = refl

  pub gather_map : (piece : Piece S) (piece' : Piece T)
      → ((last : Bool) (s : S) (p : Part) → piece' last (f s) p ≡ seen (piece last s p))
      → (first second left : ℕ) (last : Bool) (s : S) (p : Part)
      → gather piece' left first second last (f s) p ≡ seen (gather piece left first second last s p)
  unfolding gather parts_of
  gather_map piece piece' h first second zero last s p = refl
  gather_map piece piece' h first second (suc left) last s p =
      either (λ last s q. gather_map piece piece' h first second left last s q) p.tag.constructed
    where
      one : ((last : Bool) (s : S) (q : Part)
          → gather piece' left first second last (f s) q ≡ seen (gather piece left first second last s q))
          → (b : Bool) (s : S) (q : Part)
          → (cond b (gather piece' left first second (last && is_empty q.rest) (f s) q) (fault q.at BadTag)) ≡ seen
          (cond b (gather piece left first second (last && is_empty q.rest) s q) (fault q.at BadTag))
      one again true s q = again (last && is_empty q.rest) s q
      one again false s q = refl

      either : ((last : Bool) (s : S) (q : Part)
          → gather piece' left first second last (f s) q ≡ seen (gather piece left first second last s q))
          → (b : Bool) → (cond b (parts_of (segment (gather piece' left first second) first second last) (f s) p)
          (piece' last (f s) p)) ≡ seen (cond b
          (parts_of (segment (gather piece left first second) first second last) s p) (piece last s p))
      either again true = parts_map (segment (gather piece left first second) first second last)
          (segment (gather piece' left first second) first second last)
          (λ s q. one again (is_segment first second q.tag) s q) (p.depth + 1) (length p.content) p.start s p.content
      either again false = h last s p
