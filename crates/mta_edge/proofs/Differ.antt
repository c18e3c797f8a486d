-- Different tears leave different images.
use Rattle.std.proofs.Common.{◌≡◌, ◌≢◌, ℕ, ◌+◌, ◌-◌, ◌/◌, ◌≤◌, List, [], ◌∷◌, ◌++◌, length, take, drop, get_or, sym, ap}
use Rattle.std.proofs.Common.{◌∙◌, arith}
use Rattle.std.proofs.lemmas.Bool.Decides.{nat_tests}
use Rattle.std.proofs.lemmas.List.{length-take, length-map, take_all, drop_all, append-nil, append_cancel_left}
use Rattle.mta_edge.specs.Outside.{written}
use Rattle.mta_edge.specs.Tears.{others, piece_of, torn_write, TearsDiffer}
use Rattle.mta_edge.specs.declared.tear.Tear.{Tear}
use Rattle.mta_edge.specs.declared.tear.Tear.TheVariants.{Nothing, Whole, Half, Other}

-- what is written at the end stands behind the rest
at_end : (tear : Tear) (bytes f : List ℕ) → torn_write tear (length f) bytes f ≡ f ++ piece_of tear bytes
at_end tear bytes f =
    let fits : torn_write tear (length f) bytes f ≡ written (length f) (piece_of tear bytes) f =
    grind (arith, nat_tests) in
    fits ∙ ap (λ (l : List ℕ). l ++ piece_of tear bytes ++ drop (length f + length (piece_of tear bytes)) f)
    (take_all (length f) f (omega arith))
    ∙ ap (λ (l : List ℕ). f ++ piece_of tear bytes ++ l)
    (drop_all (length f + length (piece_of tear bytes)) f (omega arith)) ∙ append-nil (f ++ piece_of tear bytes)

same_piece : (s t : Tear) (bytes f : List ℕ) → torn_write s (length f) bytes f ≡ torn_write t (length f) bytes f
    → piece_of s bytes ≡ piece_of t bytes
same_piece s t bytes f e = append_cancel_left f (piece_of s bytes) (piece_of t bytes)
    (sym (at_end s bytes f) ∙ e ∙ at_end t bytes f)

length-half : (bytes : List ℕ) → length (take (length bytes / 2) bytes) ≡ length bytes / 2
length-half bytes = simp length-take (omega arith)

not_others : (bytes : List ℕ) → 2 ≤ length bytes → bytes ≢ others bytes
not_others [] long e = omega arith
not_others (b ∷ bytes) long e = let head : b ≡ 255 - b = ap (λ (l : List ℕ). get_or l 0 0) e in omega arith

pub tears_differ : TearsDiffer
tears_differ bytes f long =
    let half = length-half bytes in
    let other = length-map bytes (λ b. 255 - b) in
    record {
      nothing_whole = λ e. let s = ap length (same_piece Nothing Whole bytes f e) in omega arith;
      nothing_half = λ e. let s = ap length (same_piece Nothing Half bytes f e) in omega arith;
      nothing_other = λ e. let s = ap length (same_piece Nothing Other bytes f e) in omega arith;
      half_whole = λ e. let s = ap length (same_piece Half Whole bytes f e) in omega arith;
      half_other = λ e. let s = ap length (same_piece Half Other bytes f e) in omega arith;
      whole_other = λ e. not_others bytes long (same_piece Whole Other bytes f e);
    }
