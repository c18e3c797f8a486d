-- A write on a disk with nothing pending, and what a crash leaves until it is synced.
use Rattle.std.proofs.Common.{◌≡◌, ℕ, ◌+◌, List, [], ◌∷◌, ◌++◌, length, Some, sym, ap, subst, arith, length-append}
use Rattle.std.specs.Int.{w64, to_be_bytes}
use Rattle.mta_edge.specs.Views.{DiskView, DiskLaws}
use Rattle.mta_edge.specs.Crashes.{Crash, AtAnyMoment, CutShort, Settled, Stays}
use Rattle.mta_edge.specs.Outside.{Torn}
use Rattle.mta_edge.proofs.Moments.{at_once, goes_on, weaken}
use Rattle.mta_edge.proofs.Logged.{Torn-same, CutShort-same}
use Rattle.mta_disk.specs.Records.{counted, IsTornAt}

module _ {D : Type 0} (model : DiskView D) (laws : DiskLaws model) where
  -- with nothing pending the one image is what a read gives
  pub settled_once : (P : List ℕ → Type 0) (old : D) (f : List ℕ) → Settled model old → model.content old ≡ Some f → P f
      → AtAnyMoment model P old old
  settled_once P old f settled told here =
      at_once model P old (λ g left. subst P (sym (settled f told g (laws.only_now old g left))) here)

  pub wrote : (at n : ℕ) (old new : D) (f : List ℕ) → Settled model old → model.content old ≡ Some f
      → Crash model (Torn at n) old new → AtAnyMoment model (Torn at n f) old new
  wrote at n old new f settled told crash =
      goes_on model (Torn at n f) (Torn at n) old old new
      (settled_once (Torn at n f) old f settled told (Torn-same at n f)) crash
      (λ before g may torn. subst (λ (x : List ℕ). Torn at n x g) (settled f told before may) torn)

  -- a call that does nothing to the images
  pub goes_still : (P : List ℕ → Type 0) (old mid new : D) → AtAnyMoment model P old mid → Crash model Stays mid new
      → AtAnyMoment model P old new
  goes_still P old mid new so_far crash =
      goes_on model P Stays old mid new so_far crash
      (λ f g may same. subst P (sym same) (so_far.each f (laws.counts_now mid (model.moment old) f so_far.later may)))

  -- a write and then a sync, which may have failed
  pub wrote_synced : (at n : ℕ) (old mid new : D) (f : List ℕ) → Settled model old → model.content old ≡ Some f
      → Crash model (Torn at n) old mid → Crash model Stays mid new → AtAnyMoment model (Torn at n f) old new
  wrote_synced at n old mid new f settled told write sync =
      goes_still (Torn at n f) old mid new (wrote at n old mid f settled told write) sync

  -- eight octets of a number
  pub eight : (e : ℕ) (bytes : List ℕ) (old new : D) → bytes ≡ to_be_bytes w64 e
      → Crash model (Torn 15 (length bytes)) old new
      → Crash model (Torn 15 8) old new
  eight e bytes old new is crash = subst (λ (n : ℕ). Crash model (Torn 15 n) old new) (ap length is) crash

  -- a second write on top of one that is not synced
  pub wrote_both : (e : ℕ) (old mid new : D) (f : List ℕ) → Settled model old → model.content old ≡ Some f
      → Crash model (Torn 15 8) old mid → Crash model (Torn e 1) mid new → AtAnyMoment model (IsTornAt e f) old new
  wrote_both e old mid new f settled told first second =
      let so_far = wrote 15 8 old mid f settled told first in
      goes_on model (IsTornAt e f) (Torn e 1) old mid new
      (weaken model (Torn 15 8 f) (IsTornAt e f) old mid (λ g torn. (g, torn, Torn-same e 1 g)) so_far) second
      (λ h g may torn. (h, so_far.each h (laws.counts_now mid (model.moment old) h so_far.later may), torn))

  -- a cut, and then a sync, which may have failed
  pub cut : (size : ℕ) (old new : D) (f : List ℕ) → Settled model old → model.content old ≡ Some f
      → Crash model (CutShort size) old new → AtAnyMoment model (CutShort size f) old new
  cut size old new f settled told crash =
      goes_on model (CutShort size f) (CutShort size) old old new
      (settled_once (CutShort size f) old f settled told (CutShort-same size f)) crash
      (λ before g may short. subst (λ (x : List ℕ). CutShort size x g) (settled f told before may) short)

  pub cut_synced : (size : ℕ) (old mid new : D) (f : List ℕ) → Settled model old → model.content old ≡ Some f
      → Crash model (CutShort size) old mid → Crash model Stays mid new → AtAnyMoment model (CutShort size f) old new
  cut_synced size old mid new f settled told crash sync =
      goes_still (CutShort size f) old mid new (cut size old mid f settled told crash) sync

pub length-counted : (body : List ℕ) → length (counted body) ≡ length body + 4
unfolding counted
length-counted body = omega arith

pub length-closed : (body : List ℕ) → length (counted body ++ 0 ∷ []) ≡ length body + 5
length-closed body = omega (arith, length-append (counted body) (0 ∷ []), length-counted body)
