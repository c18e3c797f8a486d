-- A record whose parts are written one behind the other, before one sync.
use Rattle.std.proofs.Common.{◌≡◌, ℕ, ◌+◌, ◌-◌, ◌≤◌, List, [], ◌∷◌, ◌++◌, length, take, drop, Option, Some, refl}
use Rattle.std.proofs.Common.{sym, ap, subst, ◌∙◌, append_assoc, length-append, arith}
use Rattle.std.specs.Int.{w32, to_be_bytes}
use Rattle.std.proofs.lemmas.List.{take_at, drop_at, take-take, drop-drop, length-take-le}
use Rattle.mta_edge.specs.Views.{DiskView, DiskLaws}
use Rattle.mta_edge.specs.Crashes.{Crash, AtAnyMoment, Settled, Stays}
use Rattle.mta_edge.specs.Outside.{Goes, Goes-map, Goes-then, Torn, written}
use Rattle.mta_edge.proofs.Moments.{goes_on, weaken}
use Rattle.mta_disk.specs.Records.{counted, IsPutAt}
use Rattle.mta_disk.proofs.Writing.{wrote, goes_still}

-- a torn range is one of a longer range
pub torn_wider : (at n m : ℕ) (f g : List ℕ) → n ≤ m → Torn at n f g → Torn at m f g
torn_wider at n m f g le torn =
    let there : at + n + (m - n) ≡ at + m = omega (arith, le) in
    record {
      before = torn.before;
      after = sym (ap (λ (k : ℕ). drop k g) there) ∙ sym (drop-drop (m - n) (at + n) g)
          ∙ ap (drop (m - n)) torn.after
          ∙ drop-drop (m - n) (at + n) f ∙ ap (λ (k : ℕ). drop k f) there;
      no_shorter = torn.no_shorter;
      no_longer = omega (arith, torn.no_longer, le);
    }

-- and so are two, one right behind the other
pub torn_joined : (at n m : ℕ) (f g h : List ℕ) → Torn at n f g → Torn (at + n) m g h → Torn at (n + m) f h
torn_joined at n m f g h p q =
    let there : at + n + m ≡ at + (n + m) = omega arith in
    record {
      before = sym (take-take at (at + n) h (omega arith)) ∙ ap (take at) q.before
          ∙ take-take at (at + n) g (omega arith) ∙ p.before;
      after = sym (ap (λ (k : ℕ). drop k h) there) ∙ q.after ∙ sym (drop-drop m (at + n) g) ∙ ap (drop m) p.after
          ∙ drop-drop m (at + n) f ∙ ap (λ (k : ℕ). drop k f) there;
      no_shorter = omega (arith, p.no_shorter, q.no_shorter);
      no_longer = omega (arith, p.no_longer, q.no_longer);
    }

-- octets written right behind others are written with them
pub written_joined : (at : ℕ) (b c f : List ℕ) → at ≤ length f
    → written (at + length b) c (written at b f) ≡ written at (b ++ c) f
written_joined at b c f le =
    let n : ℕ = at + length b in
    let rest : List ℕ = drop n f in
    let front : List ℕ = take at f ++ b in
    let g : List ℕ = written at b f in
    let whole : length (take at f) ≡ at = length-take-le at f le in
    let size : length front ≡ n = omega (arith, length-append (take at f) b, whole) in
    let before : take n g ≡ front = take_at front rest n size in
    let to : n + length c ≡ at + length (b ++ c) = omega (arith, length-append b c) in
    let behind : drop (n + length c) g ≡ drop (at + length (b ++ c)) f =
    sym (drop-drop (length c) n g) ∙ ap (drop (length c)) (drop_at front rest n size) ∙ drop-drop (length c) n f
    ∙ ap (λ (k : ℕ). drop k f) to in
    let last : List ℕ = drop (at + length (b ++ c)) f in
    ap (λ (x : List ℕ). x ++ c ++ drop (n + length c) g) before ∙ ap (λ (x : List ℕ). front ++ c ++ x) behind
    ∙ ap (λ (x : List ℕ). x ++ last) (append_assoc (take at f) b c)

-- length, body and a closed gate, one behind the other, are the frame
long_put : (gate : ℕ) (bytes body f g h k : List ℕ) → bytes ≡ to_be_bytes w32 (length body) → gate + 1 ≤ length f
    → g ≡ written (gate + 1) bytes f → h ≡ written (gate + 5) body g
    → k ≡ written (gate + 5 + length body) (0 ∷ []) h → IsPutAt gate body f k
unfolding counted
long_put gate bytes body f g h k bytes_is le one two three =
    let four : length bytes ≡ 4 = ap length bytes_is in
    let at_two : gate + 5 ≡ gate + 1 + length bytes = omega (arith, four) in
    let both : h ≡ written (gate + 1) (bytes ++ body) f =
    two ∙ ap (λ (n : ℕ). written n body g) at_two ∙ ap (λ (x : List ℕ). written (gate + 1 + length bytes) body x) one
    ∙ written_joined (gate + 1) bytes body f le in
    let at_three : gate + 5 + length body ≡ gate + 1 + length (bytes ++ body) =
    omega (arith, four, length-append bytes body) in
    three ∙ ap (λ (n : ℕ). written n (0 ∷ []) h) at_three
    ∙ ap (λ (x : List ℕ). written (gate + 1 + length (bytes ++ body)) (0 ∷ []) x) both
    ∙ written_joined (gate + 1) (bytes ++ body) (0 ∷ []) f le
    ∙ ap (λ (x : List ℕ). written (gate + 1) ((x ++ body) ++ 0 ∷ []) f) bytes_is

-- the octets of one write behind those of another
Both : ℕ → ℕ → List ℕ → List ℕ → List ℕ → List ℕ → Type 0
Both at behind bytes body f h = h ≡ written behind body (written at bytes f)

-- three writes and a sync put the body
pub long_goes : (gate : ℕ) (bytes body : List ℕ) (old one two three new : Option (List ℕ))
    → bytes ≡ to_be_bytes w32 (length body) → ((f : List ℕ) → old ≡ Some f → gate + 1 ≤ length f)
    → Goes (λ f g. g ≡ written (gate + 1) bytes f) old one → Goes (λ f g. g ≡ written (gate + 5) body f) one two
    → Goes (λ f g. g ≡ written (gate + 5 + length body) (0 ∷ []) f) two three → new ≡ three
    → Goes (IsPutAt gate body) old new
unfolding Both
long_goes gate bytes body old one two three new bytes_is within p q r same =
    let both : Goes (Both (gate + 1) (gate + 5) bytes body) old two =
    Goes-then (λ f g h was x y. y ∙ ap (λ (z : List ℕ). written (gate + 5) body z) x) p q in
    let whole : Goes (IsPutAt gate body) old three =
    Goes-then (λ f h k was x y.
    long_put gate bytes body f (written (gate + 1) bytes f) h k bytes_is (within f was) refl x y) both r in
    Goes-map {s = IsPutAt gate body} {t = IsPutAt gate body} refl same (λ f g was put. put) whole

module _ {D : Type 0} (model : DiskView D) (laws : DiskLaws model) where
  -- a write right behind one that is not synced
  wrote_behind : (at n m : ℕ) (old mid new : D) (f : List ℕ) → AtAnyMoment model (Torn at n f) old mid
      → Crash model (Torn (at + n) m) mid new → AtAnyMoment model (Torn at (n + m) f) old new
  wrote_behind at n m old mid new f so_far next =
      goes_on model (Torn at (n + m) f) (Torn (at + n) m) old mid new
      (weaken model (Torn at n f) (Torn at (n + m) f) old mid
      (λ g torn. torn_wider at n (n + m) f g (omega arith) torn) so_far) next
      (λ g h may torn.
      torn_joined at n m f g h (so_far.each g (laws.counts_now mid (model.moment old) g so_far.later may)) torn)

  module _ (gate : ℕ) (bytes body f : List ℕ) (old : D) (bytes_is : bytes ≡ to_be_bytes w32 (length body))
      (settled : Settled model old) (told : model.content old ≡ Some f) where
    wider : (n : ℕ) (new : D) → n ≤ length body + 5 → AtAnyMoment model (Torn (gate + 1) n f) old new
        → AtAnyMoment model (Torn (gate + 1) (length body + 5) f) old new
    wider n new le so_far =
        weaken model (Torn (gate + 1) n f) (Torn (gate + 1) (length body + 5) f) old new
        (λ g torn. torn_wider (gate + 1) n (length body + 5) f g le torn) so_far

    after_length : (one : D) → Crash model (Torn (gate + 1) (length bytes)) old one
        → AtAnyMoment model (Torn (gate + 1) 4 f) old one
    after_length one crash =
        wrote model laws (gate + 1) 4 old one f settled told
        (subst (λ (n : ℕ). Crash model (Torn (gate + 1) n) old one) (ap length bytes_is) crash)

    after_body : (one two : D) → AtAnyMoment model (Torn (gate + 1) 4 f) old one
        → Crash model (Torn (gate + 5) (length body)) one two
        → AtAnyMoment model (Torn (gate + 1) (4 + length body) f) old two
    after_body one two so_far crash =
        let there : gate + 5 ≡ gate + 1 + 4 = omega arith in
        wrote_behind (gate + 1) 4 (length body) old one two f so_far
        (subst (λ (n : ℕ). Crash model (Torn n (length body)) one two) there crash)

    after_gate : (two three : D) → AtAnyMoment model (Torn (gate + 1) (4 + length body) f) old two
        → Crash model (Torn (gate + 5 + length body) 1) two three
        → AtAnyMoment model (Torn (gate + 1) (4 + length body + 1) f) old three
    after_gate two three so_far crash =
        let there : gate + 5 + length body ≡ gate + 1 + (4 + length body) = omega arith in
        wrote_behind (gate + 1) (4 + length body) 1 old two three f so_far
        (subst (λ (n : ℕ). Crash model (Torn n 1) two three) there crash)

    -- what a crash leaves once the length was written
    pub long_1 : (one : D) → Crash model (Torn (gate + 1) (length bytes)) old one
        → AtAnyMoment model (Torn (gate + 1) (length body + 5) f) old one
    long_1 one a = wider 4 one (omega arith) (after_length one a)

    -- and the body
    pub long_2 : (one two : D) → Crash model (Torn (gate + 1) (length bytes)) old one
        → Crash model (Torn (gate + 5) (length body)) one two
        → AtAnyMoment model (Torn (gate + 1) (length body + 5) f) old two
    long_2 one two a b = wider (4 + length body) two (omega arith) (after_body one two (after_length one a) b)

    -- and the closed gate
    pub long_3 : (one two three : D) → Crash model (Torn (gate + 1) (length bytes)) old one
        → Crash model (Torn (gate + 5) (length body)) one two → Crash model (Torn (gate + 5 + length body) 1) two three
        → AtAnyMoment model (Torn (gate + 1) (length body + 5) f) old three
    long_3 one two three a b d =
        wider (4 + length body + 1) three (omega arith)
        (after_gate two three (after_body one two (after_length one a) b) d)

    -- and the sync was made
    pub long_4 : (one two three new : D) → Crash model (Torn (gate + 1) (length bytes)) old one
        → Crash model (Torn (gate + 5) (length body)) one two → Crash model (Torn (gate + 5 + length body) 1) two three
        → Crash model Stays three new → AtAnyMoment model (Torn (gate + 1) (length body + 5) f) old new
    long_4 one two three new a b d e =
        goes_still model laws (Torn (gate + 1) (length body + 5) f) old three new (long_3 one two three a b d) e
