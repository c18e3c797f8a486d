-- What a break leaves, and what is so where none is due.
use Rattle.std.proofs.Common.{◌≡◌, ◌⊎◌, inl, inr, ◌<◌, ◌≤◌, ℕ, suc, ◌+◌, ◌-◌, ◌^◌, min, Bool, true, false, List}
use Rattle.std.proofs.Common.{Option, Some, None, refl, sym, ◌∙◌, ap, subst, arith}
use Rattle.std.proofs.lemmas.Bool.{cases_lt}
use Rattle.mta_session.specs.declared.ask.Ask.{Ask}
use Rattle.mta_session.specs.declared.ask.Ask.TheVariants as ask
use Rattle.mta_drill_text.specs.declared.breaks.Break.{Break}
use Rattle.mta_drill_text.specs.declared.breaks.Break.TheVariants.{BehindConfirm, BehindComplete}
use Rattle.mta_drill_text.specs.Breaks.{break_of, breaks_up_to, count_of}
use Rattle.mta_drill_stage_laws.specs.Breaks.{Breaks, IsDue, IsDueIn, IsReached, message_in, one_more}
use Rattle.mta_drill_stage_laws.specs.Settings.{IsSized, IsUntouched, Marks, Not_yet, Once, Setting, WasBroken}
use Rattle.mta_drill_stage_laws.specs.World.{IsTaken, Link}

breaks-suc : (n : ℕ) → breaks_up_to (suc n) ≡ breaks_up_to n + count_of (break_of (suc n))
unfolding breaks_up_to
breaks-suc n = refl

pub breaks-next : (before done : ℕ)
    → breaks_up_to (before + (done + 1)) ≡ breaks_up_to (before + done) + count_of (break_of (before + (done + 1)))
breaks-next before done =
    let e : suc (before + done) ≡ before + (done + 1) = omega arith in
    subst (λ (m : ℕ). breaks_up_to m ≡ breaks_up_to (before + done) + count_of (break_of m)) e
    (breaks-suc (before + done))

-- the message of the next activity
message_so : (x : Setting) (done a : ℕ) (b : Breaks) → IsSized x → done < x.count → b.before ≡ x.before → a ≡ done + 1
    → message_in b a ≡ x.before + (done + 1)
message_so x done a b sized below eb ea =
    let small : x.before + x.count < 2 ^ 32 = sized.small in
    omega (arith, eb, ea, below, small)

marked : (x : Setting) (done a : ℕ) (b : Breaks) (place : Break) → IsSized x → done < x.count → IsUntouched x done b
    → a ≡ done + 1 → break_of (message_in b a) ≡ Some place → WasBroken x done (one_more b a)
marked x done a b place sized below u ea there =
    let small : x.count ≤ 1000 = sized.few in
    let here : break_of (x.before + (done + 1)) ≡ Some place =
    ap break_of (sym (message_so x done a b sized below u.before ea)) ∙ there in
    let one : count_of (break_of (x.before + (done + 1))) ≡ 1 = ap count_of here in
    let more : min (b.made + 1) (2 ^ 32 - 1) ≡ b.made + 1 = omega (arith, u.few, below, small) in
    record {
      before = u.before;
      last = ea;
      made = omega (arith, more, u.made, breaks-next x.before done, one);
      few = omega (arith, more, u.few);
      later = omega (arith, more, u.later);
      since = u.since;
    }

once_more : (x : Setting) (done a : ℕ) (b : Breaks) → IsSized x → done < x.count → IsUntouched x done b
    → x.broken < (one_more b a).made
once_more x done a b sized below u =
    let small : x.count ≤ 1000 = sized.few in
    let more : min (b.made + 1) (2 ^ 32 - 1) ≡ b.made + 1 = omega (arith, u.few, below, small) in
    omega (arith, more, u.later)

complete_place : (place : Break) (a n g k m : ℕ) (piece : List ℕ) → IsReached place a (ask.Complete n g k m piece)
    → k ≡ a
complete_place BehindComplete a n g k m piece h = h
complete_place BehindConfirm a n g k m piece h = elim h [ ]

confirm_place : (place : Break) (a n g k m : ℕ) → IsReached place a (ask.Confirm n g k m) → (m ≡ 1) × (k ≡ a)
confirm_place BehindConfirm a n g k m h = h
confirm_place BehindComplete a n g k m h = elim h [ ]

-- the link is broken, or it is as it was and the marks are these
abbrev pub Taken : Setting → (done c : ℕ) → (whole : Bool) → (l m : Link) → Type 0
Taken x done c whole l m =
    ((m.is_broken ≡ true) × WasBroken x done m.breaks × (x.broken < m.breaks.made))
    ⊎ ((m ≡ l) × Marks x done c whole m.breaks)

broken_so : (x : Setting) (done c : ℕ) (whole : Bool) (l m : Link) (q : Ask) (a : ℕ) → IsSized x → done < x.count
    → Marks x done c whole l.breaks → a ≡ done + 1 → (due : IsDueIn l.breaks q a)
    → m ≡ record { is_broken = true; breaks = one_more l.breaks a }
    → (m.is_broken ≡ true) × WasBroken x done m.breaks × (x.broken < m.breaks.made)
broken_so x done c whole l m q a sized below (Not_yet u conf comp) ea due e = (
  ap (λ (z : Link). z.is_broken) e,
  subst (λ (z : Link). WasBroken x done z.breaks) (sym e)
      (marked x done a l.breaks due.place sized below u ea due.there),
  subst (λ (z : Link). x.broken < z.breaks.made) (sym e) (once_more x done a l.breaks sized below u),
)
broken_so x done c whole l m q a sized below (Once w) ea due e =
    let once : l.breaks.last < a = due.once in
    absurd (omega (arith, w.last, once, ea))

-- a place that is not due is not the one of this message
not_due : (x : Setting) (done : ℕ) (b : Breaks) (q : Ask) (place : Break) → IsSized x → done < x.count
    → IsUntouched x done b → IsReached place (done + 1) q → (IsDue b q → ⊥)
    → break_of (x.before + (done + 1)) ≡ Some place → ⊥
not_due x done b q place sized below u reached none e = none (
  done + 1,
  record {
    place = place;
    reached = reached;
    once = omega (arith, u.last);
    there = ap break_of (message_so x done (done + 1) b sized below u.before refl) ∙ e;
  },
)

complete_marks : (x : Setting) (done c n g m : ℕ) (piece : List ℕ) (b : Breaks) → IsSized x → done < x.count
    → Marks x done c false b → (IsDue b (ask.Complete n g (done + 1) m piece) → ⊥) → Marks x done c true b
complete_marks x done c n g m piece b sized below (Not_yet u conf comp) none = Not_yet u conf
    (λ i. not_due x done b (ask.Complete n g (done + 1) m piece) BehindComplete sized below u refl none)
complete_marks x done c n g m piece b sized below (Once w) none = Once w

pub complete_taken : (x : Setting) (done c n g m : ℕ) (piece : List ℕ) (l k : Link) → IsSized x → done < x.count
    → Marks x done c false l.breaks → IsTaken l (ask.Complete n g (done + 1) m piece) k → Taken x done c true l k
complete_taken x done c n g m piece l k sized below marks (inl h) = inl (broken_so x done c false l k
    (ask.Complete n g (done + 1) m piece) h.0 sized below marks
    (sym (complete_place h.1.place h.0 n g (done + 1) m piece h.1.reached)) h.1 h.2)
complete_taken x done c n g m piece l k sized below marks (inr h) = inr (
  h.1,
  subst (λ (z : Link). Marks x done c true z.breaks) (sym h.1)
      (complete_marks x done c n g m piece l.breaks sized below marks h.0),
)

confirm_marks : (x : Setting) (done c n g : ℕ) (whole : Bool) (b : Breaks) → IsSized x → done < x.count
    → Marks x done c whole b → (IsDue b (ask.Confirm n g (done + 1) (c + 1)) → ⊥) → Marks x done (c + 1) whole b
confirm_marks x done c n g whole b sized below (Not_yet u conf comp) none = Not_yet u (λ le. by (cases_lt 0 c)) comp
  where
    by : (0 < c) ⊎ (c ≤ 0) → break_of (x.before + (done + 1)) ≡ Some BehindConfirm → ⊥
    by (inl some) = conf some
    by (inr zero_) = not_due x done b (ask.Confirm n g (done + 1) (c + 1)) BehindConfirm sized below u
        (omega (arith, zero_), refl) none
confirm_marks x done c n g whole b sized below (Once w) none = Once w

pub confirm_taken : (x : Setting) (done c n g : ℕ) (whole : Bool) (l k : Link) → IsSized x → done < x.count
    → Marks x done c whole l.breaks → IsTaken l (ask.Confirm n g (done + 1) (c + 1)) k
    → Taken x done (c + 1) whole l k
confirm_taken x done c n g whole l k sized below marks (inl h) = inl (broken_so x done c whole l k
    (ask.Confirm n g (done + 1) (c + 1)) h.0 sized below marks
    (sym (confirm_place h.1.place h.0 n g (done + 1) (c + 1) h.1.reached).1) h.1 h.2)
confirm_taken x done c n g whole l k sized below marks (inr h) = inr (
  h.1,
  subst (λ (z : Link). Marks x done (c + 1) whole z.breaks) (sym h.1)
      (confirm_marks x done c n g whole l.breaks sized below marks h.0),
)

-- behind a message that is sent and of which a piece was confirmed and all is complete
pub sent_marks : (x : Setting) (done c : ℕ) (b : Breaks) → 1 ≤ c → Marks x done c true b → IsUntouched x (done + 1) b
sent_marks x done c b some (Once w) = record {
  before = w.before;
  last = omega (arith, w.last);
  made = w.made;
  few = w.few;
  later = w.later;
  since = omega (arith, w.since);
}
sent_marks x done c b some (Not_yet u conf comp) = record {
  before = u.before;
  last = omega (arith, u.last);
  made = omega (arith, u.made, breaks-next x.before done, none (break_of (x.before + (done + 1))) refl);
  few = omega (arith, u.few);
  later = u.later;
  since = omega (arith, u.since);
}
  where
    none : (o : Option Break) → break_of (x.before + (done + 1)) ≡ o
        → count_of (break_of (x.before + (done + 1))) ≡ 0
    none None e = ap count_of e
    none (Some BehindConfirm) e = absurd (conf some e)
    none (Some BehindComplete) e = absurd (comp refl e)
