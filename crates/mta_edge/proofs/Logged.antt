-- A call of a disk in memory, which is logged or not.
use Rattle.std.proofs.Common.{inl, inr, ⊎_elim, ◌≡◌, ◌⊎◌, ℕ, zero, suc, ◌+◌, ◌-◌, ◌≤◌, ◌<◌, List, [], ◌∷◌, ◌++◌, length}
use Rattle.std.proofs.Common.{take, drop, refl, sym, ap, subst, ◌∙◌, arith, append_assoc, length-append}
use Rattle.std.proofs.lemmas.Bool.{cases_lt}
use Rattle.std.proofs.lemmas.List.{take-append-le, take_all, take_min, take_at, drop_at, drop-drop, length-take}
use Rattle.std.proofs.lemmas.List.{length-take-le, length-drop}
use Rattle.mta_edge.specs.Outside.{Torn, written}
use Rattle.mta_edge.specs.Crashes.{CutShort, Settled, Stays}
use Rattle.mta_edge.specs.Held.{HeldDisk}
use Rattle.mta_edge.specs.Images.{after_call, after_calls, MayLeave, MemoryCrash, memory_disk, seen_at, LeftAt}
use Rattle.mta_edge.specs.Images.{LeftSince}
use Rattle.mta_edge.specs.ImageLaws.{left_at_end, some_same}
use Rattle.mta_edge.specs.declared.log.Called.{Called}
use Rattle.mta_edge.specs.declared.log.Done.{Done}
use Rattle.mta_edge.specs.declared.log.Done.TheVariants.{Look, Write, Cut, Sync}

after_calls-more : (images : List ℕ → Type 0) (log : List Called) (call : Called) (g : List ℕ)
    → after_calls images (log ++ call ∷ []) g
    → after_call (λ f. after_calls images log f ⊎ (f ≡ call.before)) call.before call.done g
unfolding after_calls
after_calls-more images [] call g left = left
after_calls-more images (x ∷ log) call g left =
    after_calls-more (after_call (λ f. images f ⊎ (f ≡ x.before)) x.before x.done) log call g left

seen_at-more : (log : List Called) (call : Called) (k : ℕ) (now next : List ℕ) → call.before ≡ now → k ≤ length log
    → seen_at (log ++ call ∷ []) k next ≡ seen_at log k now
unfolding seen_at
seen_at-more [] call zero now next e le = e
seen_at-more [] call (suc k) now next e le = absurd (omega arith)
seen_at-more (x ∷ log) call zero now next e le = refl
seen_at-more (x ∷ log) call (suc k) now next e le = seen_at-more log call k now next e (omega arith)

-- the call of a disk that has this content
abbrev call_of : HeldDisk → Done → Called
call_of d done = record { before = d.octets; done = done }

module _ (old new : HeldDisk) (done : Done) (is : new.log ≡ old.log ++ record { before = old.octets; done = done } ∷ [])
  where
    longer : length new.log ≡ length old.log + 1
    longer = ap length is ∙ length-append old.log (call_of old done ∷ [])

    same_calls : (k : ℕ) → k ≤ length old.log → take k new.log ≡ take k old.log
    same_calls k le = ap (take k) is ∙ take-append-le k old.log (call_of old done ∷ []) le

    same_seen : (k : ℕ) → k ≤ length old.log → seen_at new.log k new.octets ≡ seen_at old.log k old.octets
    same_seen k le = ap (λ (log : List Called). seen_at log k new.octets) is
        ∙ seen_at-more old.log (call_of old done) k old.octets new.octets refl le

    earlier : (k : ℕ) (g : List ℕ) → k ≤ length old.log → LeftAt new k g → LeftAt old k g
    earlier k g le left =
        subst (λ (log : List Called). MayLeave log (seen_at old.log k old.octets) g) (same_calls k le)
        (subst (λ (now : List ℕ). MayLeave (take k new.log) now g) (same_seen k le) left)

    still : (k : ℕ) (g : List ℕ) → k ≤ length old.log → LeftAt old k g → LeftAt new k g
    still k g le left =
        subst (λ (now : List ℕ). MayLeave (take k new.log) now g) (sym (same_seen k le))
        (subst (λ (log : List Called). MayLeave log (seen_at old.log k old.octets) g) (sym (same_calls k le)) left)

    from_old : (t : ℕ) (g : List ℕ) → LeftSince new t g → LeftSince old t g ⊎ MayLeave new.log new.octets g
    from_old t g left = ⊎_elim {C = LeftSince old t g ⊎ MayLeave new.log new.octets g}
        (λ (lt : left.calls < length new.log).
        let le : left.calls ≤ length old.log = omega (arith, longer, lt) in
        inl (record { calls = left.calls; from = left.from; until = le; image = earlier left.calls g le left.image }))
        (λ (ge : length new.log ≤ left.calls). inr (left_at_end new left.calls g ge left.image))
        (cases_lt left.calls (length new.log))

    -- the step leads from the content before to the one after, and from the images before to those after
    pub logged : (step : List ℕ → List ℕ → Type 0) → step old.octets new.octets
        → ((g : List ℕ) → after_call (MayLeave old.log old.octets) old.octets done g → (f : List ℕ)
        × MayLeave old.log old.octets f × step f g)
        → MemoryCrash step old new
    logged step here leads = record {
      later = omega (arith, longer);
      image = λ g may. ⊎_elim
          (λ left. leads g (after_calls-more (λ f. ⊥) old.log (call_of old done) g
          (subst (λ (log : List Called). after_calls (λ f. ⊥) log g) is left)))
          (λ (now : g ≡ new.octets). (old.octets, inr refl, subst (step old.octets) (sym now) here)) may;
      since = λ t g le left. from_old t g left;
      kept = λ t g le left. record {
        calls = left.calls;
        from = left.from;
        until = omega (arith, longer, left.until);
        image = still left.calls g left.until left.image;
      };
    }

-- nothing was logged, and the content stays
pub unlogged : (old new : HeldDisk) (step : List ℕ → List ℕ → Type 0) → new.log ≡ old.log → new.octets ≡ old.octets
    → ((f : List ℕ) → step f f)
    → MemoryCrash step old new
unlogged old new step log octets stays =
    let back : (k : ℕ) (g : List ℕ) → LeftAt new k g → LeftAt old k g = λ k g left.
    subst (λ (l : List Called). MayLeave (take k l) (seen_at l k old.octets) g) log
    (subst (λ (now : List ℕ). MayLeave (take k new.log) (seen_at new.log k now) g) octets left) in
    let forth : (k : ℕ) (g : List ℕ) → LeftAt old k g → LeftAt new k g = λ k g left.
    subst (λ (now : List ℕ). MayLeave (take k new.log) (seen_at new.log k now) g) (sym octets)
    (subst (λ (l : List Called). MayLeave (take k l) (seen_at l k old.octets) g) (sym log) left) in
    record {
      later = omega (arith, ap length log);
      image = λ g may. (
        g,
        subst (λ (l : List Called). MayLeave l old.octets g) log
            (subst (λ (now : List ℕ). MayLeave new.log now g) octets may),
        stays g,
      );
      since = λ t g le left. inl (record {
        calls = left.calls;
        from = left.from;
        until =
            omega (arith, ap length log, left.until);
        image = back left.calls g left.image;
      });
      kept = λ t g le left. record {
        calls = left.calls;
        from = left.from;
        until =
            omega (arith, ap length log, left.until);
        image = forth left.calls g left.image;
      };
    }

pub Torn-same : (at n : ℕ) (f : List ℕ) → Torn at n f f
Torn-same at n f = record { before = refl; after = refl; no_shorter = omega arith; no_longer = omega arith }

pub CutShort-same : (size : ℕ) (f : List ℕ) → CutShort size f f
CutShort-same size f = record { no_shorter = omega arith; front = take_all (length f) f (omega arith) }

pub CutShort-cut : (size : ℕ) (f : List ℕ) → CutShort size f (take size f)
CutShort-cut size f = record {
  no_shorter = simp length-take (omega arith);
  front = ap (λ (n : ℕ). take n f) (length-take size f) ∙ take_min size f;
}

-- ---- by what the call does; `view` is the disk before it

module _ (view old new : HeldDisk) (same : view ≡ old) where
  log_is : (done : Done) → new.log ≡ view.log ++ record { before = view.octets; done = done } ∷ [] → new.log ≡ old.log
      ++ call_of old done ∷ []
  log_is done is = subst (λ (d : HeldDisk). new.log ≡ d.log ++ call_of d done ∷ []) same is

  pub unlogged_from : (step : List ℕ → List ℕ → Type 0) → new.log ≡ view.log → new.octets ≡ view.octets
      → ((f : List ℕ) → step f f) → MemoryCrash step old new
  unlogged_from step log octets stays =
      unlogged old new step (log ∙ ap (λ (d : HeldDisk). d.log) same)
      (octets ∙ ap (λ (d : HeldDisk). d.octets) same) stays

  pub logged_look : new.log ≡ view.log ++ record { before = view.octets; done = Look } ∷ [] → new.octets ≡ view.octets
      → MemoryCrash Stays old new
  logged_look is octets = logged old new Look (log_is Look is) Stays (octets ∙ ap (λ (d : HeldDisk). d.octets) same)
      (λ g left. (g, left, refl))

  pub logged_write : (at : ℕ) (octets bytes : List ℕ) → octets ≡ bytes → new.log ≡ view.log
      ++ record { before = view.octets; done = Write at octets } ∷ []
      → Torn at (length bytes) view.octets new.octets → MemoryCrash (Torn at (length bytes)) old new
  logged_write at octets bytes e is torn =
      logged old new (Write at octets) (log_is (Write at octets) is) (Torn at (length bytes))
      (subst (λ (d : HeldDisk). Torn at (length bytes) d.octets new.octets) same torn)
      (λ g left. (left.0, left.1, subst (λ (b : List ℕ). Torn at (length b) left.0 g) e left.2))

  pub logged_cut : (size : ℕ) → new.log ≡ view.log ++ record { before = view.octets; done = Cut size } ∷ []
      → CutShort size view.octets new.octets → MemoryCrash (CutShort size) old new
  logged_cut size is cut =
      logged old new (Cut size) (log_is (Cut size) is) (CutShort size)
      (subst (λ (d : HeldDisk). CutShort size d.octets new.octets) same cut) (λ g left. left)

  pub logged_sync : new.log ≡ view.log ++ record { before = view.octets; done = Sync } ∷ [] → new.octets ≡ view.octets
      → MemoryCrash Stays old new
  logged_sync is octets =
      logged old new Sync (log_is Sync is) Stays (octets ∙ ap (λ (d : HeldDisk). d.octets) same)
      (λ g (left : g ≡ old.octets). (old.octets, inr refl, left))

  -- a sync that succeeded leaves nothing pending
  pub settled_sync : new.log ≡ view.log ++ record { before = view.octets; done = Sync } ∷ [] → new.octets ≡ view.octets
      → Settled memory_disk new
  settled_sync is octets f told g may =
      let whole : g ≡ new.octets = ⊎_elim {C = g ≡ new.octets}
      (λ left. after_calls-more (λ f. ⊥) view.log (record { before = view.octets; done = Sync }) g
      (subst (λ (log : List Called). after_calls (λ f. ⊥) log g) is left) ∙ sym octets)
      (λ now. now) may in
      whole ∙ sym (some_same new.octets f told)

pub written_torn : (at : ℕ) (bytes piece f : List ℕ) → length piece ≤ length bytes → at ≤ length f
    → Torn at (length bytes) f (written at piece f)
written_torn at bytes piece f short le =
    let front : List ℕ = take at f ++ piece in
    let rest : List ℕ = drop (at + length piece) f in
    let size : length front ≡ at + length piece = simp (length-append, length-take) (omega arith) in
    let whole : length (written at piece f) ≡ at + length piece + (length f - (at + length piece)) =
    simp (length-append, length-take, length-drop) (omega arith) in
    let gap : ℕ = length bytes - length piece in
    let there : at + length bytes ≡ at + length piece + gap = omega arith in
    record {
      before = ap (take at) (append_assoc (take at f) piece rest)
          ∙ take_at (take at f) (piece ++ rest) at (length-take-le at f le);
      after = ap (λ (n : ℕ). drop n (front ++ rest)) there ∙ sym (drop-drop gap (at + length piece) (front ++ rest))
          ∙ ap (drop gap) (drop_at front rest (at + length piece) size)
          ∙ drop-drop gap (at + length piece) f ∙ ap (λ (n : ℕ). drop n f) (sym there);
      no_shorter = omega (arith, whole);
      no_longer = omega (arith, whole);
    }
