-- A piece that is put part by part.
use Rattle.std.proofs.Common.{◌≡◌, ℕ, List, ◌++◌, length, take, drop, ap, ◌∙◌, append_assoc, arith}
use Rattle.std.proofs.lemmas.List.{take-append-drop, length-append}
use Rattle.mta_edge.specs.Streams.{TakesBut}

pub takes_more : (bytes rest after : List ℕ) (n : ℕ) (f h k : List ℕ) → after ≡ drop n rest → TakesBut bytes rest f h
    → k ≡ h ++ take n rest → TakesBut bytes after f k
takes_more bytes rest after n f h k e so_far more = record {
  whole = ap (λ (x : List ℕ). k ++ x) e ∙ ap (λ (x : List ℕ). x ++ drop n rest) more
      ∙ append_assoc h (take n rest) (drop n rest) ∙ ap (λ (x : List ℕ). h ++ x) (take-append-drop n rest)
      ∙ so_far.whole;
  longer = omega (arith, so_far.longer, ap length more, length-append h (take n rest));
}
