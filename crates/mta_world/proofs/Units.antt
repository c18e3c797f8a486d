-- Lists of units, and what each unit of one may be.
use Rattle.std.proofs.Common.{◌≡◌, ◌⊎◌, ◌<◌, ◌≤◌, ℕ, ◌+◌, List, [], ◌∷◌, ◌++◌, refl, sym, ap, subst, arith, inl, inr}
use Rattle.mta_transfer_rules.specs.Units.{LaneUnit, Start, Piece, Sync, End, Resume, Discard, SyncAck, EndAck}
use Rattle.mta_transfer_rules.specs.Units.{ResumeAck, DiscardAck, Exception, Completed, Unrecognized, CannotRecover}
use Rattle.mta_transfer_rules.specs.Units.{Accept, Other}
use Rattle.mta_transfer_rules.specs.Receiving as r
use Rattle.mta_transfer_rules.specs.Receiving.{RecvStage}

abbrev pub Each : (LaneUnit → Type 0) → List LaneUnit → Type 0
Each P [] = Unit {0}
Each P (x ∷ xs) = P x × Each P xs

pub each-snoc : (P : LaneUnit → Type 0) (xs : List LaneUnit) (x : LaneUnit) → Each P xs → P x → Each P (xs ++ x ∷ [])
each-snoc P [] x e p = (p, tt)
each-snoc P (y ∷ ys) x e p = (e.0, each-snoc P ys x e.1 p)

pub each-map : (P Q : LaneUnit → Type 0) (xs : List LaneUnit) → ((x : LaneUnit) → P x → Q x) → Each P xs → Each Q xs
each-map P Q [] f e = tt
each-map P Q (x ∷ xs) f e = (f x e.0, each-map P Q xs f e.1)

pub each-both : (P Q R : LaneUnit → Type 0) (xs : List LaneUnit) → ((x : LaneUnit) → P x → Q x → R x) → Each P xs
    → Each Q xs → Each R xs
each-both P Q R [] f e g = tt
each-both P Q R (x ∷ xs) f e g = (f x e.0 g.0, each-both P Q R xs f e.1 g.1)

-- the units that a receiving end acts on
abbrev pub transfers : List LaneUnit → List LaneUnit
transfers [] = []
transfers (Accept ∷ xs) = transfers xs
transfers (Other ∷ xs) = transfers xs
transfers (Start k ∷ xs) = Start k ∷ transfers xs
transfers (Piece o ∷ xs) = Piece o ∷ transfers xs
transfers (Sync n ∷ xs) = Sync n ∷ transfers xs
transfers (End k ∷ xs) = End k ∷ transfers xs
transfers (Resume k n ∷ xs) = Resume k n ∷ transfers xs
transfers (Discard k ∷ xs) = Discard k ∷ transfers xs
transfers (SyncAck n ∷ xs) = SyncAck n ∷ transfers xs
transfers (EndAck k ∷ xs) = EndAck k ∷ transfers xs
transfers (ResumeAck k n ∷ xs) = ResumeAck k n ∷ transfers xs
transfers (DiscardAck k ∷ xs) = DiscardAck k ∷ transfers xs
transfers (Exception ∷ xs) = Exception ∷ transfers xs
transfers (Completed ∷ xs) = Completed ∷ transfers xs
transfers (Unrecognized ∷ xs) = Unrecognized ∷ transfers xs
transfers (CannotRecover ∷ xs) = CannotRecover ∷ transfers xs

-- transfers, one unit more: the same list, or that unit behind it
pub transfers-snoc : (xs : List LaneUnit) (x : LaneUnit) → transfers (xs ++ x ∷ []) ≡ transfers xs ++ transfers (x ∷ [])
transfers-snoc [] Accept = refl
transfers-snoc [] Other = refl
transfers-snoc [] _ = refl
transfers-snoc (Accept ∷ xs) x = transfers-snoc xs x
transfers-snoc (Other ∷ xs) x = transfers-snoc xs x
transfers-snoc (Start k ∷ xs) x = ap (λ (z : List LaneUnit). Start k ∷ z) (transfers-snoc xs x)
transfers-snoc (Piece o ∷ xs) x = ap (λ (z : List LaneUnit). Piece o ∷ z) (transfers-snoc xs x)
transfers-snoc (Sync n ∷ xs) x = ap (λ (z : List LaneUnit). Sync n ∷ z) (transfers-snoc xs x)
transfers-snoc (End k ∷ xs) x = ap (λ (z : List LaneUnit). End k ∷ z) (transfers-snoc xs x)
transfers-snoc (Resume k n ∷ xs) x = ap (λ (z : List LaneUnit). Resume k n ∷ z) (transfers-snoc xs x)
transfers-snoc (Discard k ∷ xs) x = ap (λ (z : List LaneUnit). Discard k ∷ z) (transfers-snoc xs x)
transfers-snoc (SyncAck n ∷ xs) x = ap (λ (z : List LaneUnit). SyncAck n ∷ z) (transfers-snoc xs x)
transfers-snoc (EndAck k ∷ xs) x = ap (λ (z : List LaneUnit). EndAck k ∷ z) (transfers-snoc xs x)
transfers-snoc (ResumeAck k n ∷ xs) x = ap (λ (z : List LaneUnit). ResumeAck k n ∷ z) (transfers-snoc xs x)
transfers-snoc (DiscardAck k ∷ xs) x = ap (λ (z : List LaneUnit). DiscardAck k ∷ z) (transfers-snoc xs x)
transfers-snoc (Exception ∷ xs) x = ap (λ (z : List LaneUnit). Exception ∷ z) (transfers-snoc xs x)
transfers-snoc (Completed ∷ xs) x = ap (λ (z : List LaneUnit). Completed ∷ z) (transfers-snoc xs x)
transfers-snoc (Unrecognized ∷ xs) x = ap (λ (z : List LaneUnit). Unrecognized ∷ z) (transfers-snoc xs x)
transfers-snoc (CannotRecover ∷ xs) x = ap (λ (z : List LaneUnit). CannotRecover ∷ z) (transfers-snoc xs x)

-- the unit that was taken and is not answered
abbrev pub pending : RecvStage → List LaneUnit
pending (r.Ended k n o) = End k ∷ []
pending (r.Asked k n) = Resume k n ∷ []
pending (r.Discards k) = Discard k ∷ []
pending any0 = []

-- Units that go up ------------------------------------------------------------------------------

-- a unit in the transfer of h, behind its first
abbrev pub Own : ℕ → LaneUnit → Type 0
Own h (Start k) = ⊥
Own h (Resume k n) = ⊥
Own h (End k) = k ≡ h
Own h (Discard k) = k ≡ h
Own h _ = Unit {0}

-- the activity that a unit names is at most h
abbrev pub UpTo : ℕ → LaneUnit → Type 0
UpTo h (Start k) = k ≤ h
UpTo h (End k) = k ≤ h
UpTo h (Resume k n) = k ≤ h
UpTo h (Discard k) = k ≤ h
UpTo h _ = Unit {0}

abbrev pub StageUpTo : ℕ → RecvStage → Type 0
StageUpTo h r.Free = Unit {0}
StageUpTo h (r.Next k n) = k ≤ h
StageUpTo h (r.Held k n o) = k ≤ h
StageUpTo h (r.Synced k n o) = k ≤ h
StageUpTo h (r.Ended k n o) = k ≤ h
StageUpTo h (r.Asked k n) = k ≤ h
StageUpTo h (r.Discards k) = k ≤ h
StageUpTo h (r.Found k) = k ≤ h
StageUpTo h (r.Skips k) = k ≤ h

-- what is left of activities below h, all of them bad
abbrev pub Leftover : (ℕ → Type 0) → ℕ → LaneUnit → Type 0
Leftover bad h (Start k) = ⊥
Leftover bad h (Resume k n) = ⊥
Leftover bad h (End k) = (k < h) × bad k
Leftover bad h (Discard k) = (k < h) × bad k
Leftover bad h _ = Unit {0}

-- the unit that begins the transfer of h
abbrev pub Opens : ℕ → LaneUnit → Type 0
Opens h (Start k) = k ≡ h
Opens h (Resume k n) = k ≡ h
Opens h (Discard k) = k ≡ h
Opens h _ = ⊥

-- the transfer of h begins once, behind what is left of others
abbrev pub HasBegin : (ℕ → Type 0) → ℕ → List LaneUnit → Type 0
HasBegin bad h [] = ⊥
HasBegin bad h (x ∷ xs) = (Opens h x × Each (Own h) xs) ⊎ (Leftover bad h x × HasBegin bad h xs)

abbrev pub Finishes : ℕ → LaneUnit → Type 0
Finishes h (End k) = k ≡ h
Finishes h (Discard k) = k ≡ h
Finishes h _ = ⊥

abbrev pub NoFinish : ℕ → LaneUnit → Type 0
NoFinish h x = Finishes h x → ⊥

abbrev pub NoEnd : ℕ → LaneUnit → Type 0
NoEnd h (End k) = k ≡ h → ⊥
NoEnd h _ = Unit {0}

abbrev pub NoDiscard : ℕ → LaneUnit → Type 0
NoDiscard h (Discard k) = k ≡ h → ⊥
NoDiscard h _ = Unit {0}

-- nothing stands behind the unit that finishes h
abbrev pub LastOnly : ℕ → List LaneUnit → Type 0
LastOnly h [] = Unit {0}
LastOnly h (x ∷ xs) = (Finishes h x → xs ≡ []) × LastOnly h xs

-- Units that come down --------------------------------------------------------------------------

-- answers that settle h
abbrev pub Ends : ℕ → LaneUnit → Type 0
Ends h (EndAck k) = k ≡ h
Ends h (DiscardAck k) = k ≡ h
Ends h Exception = Unit {0}
Ends h Completed = Unit {0}
Ends h Unrecognized = Unit {0}
Ends h CannotRecover = Unit {0}
Ends h _ = ⊥

abbrev pub NoEnds : ℕ → LaneUnit → Type 0
NoEnds h x = Ends h x → ⊥

-- no answer but a DiscardAck of an activity below h
abbrev pub Clean : ℕ → LaneUnit → Type 0
Clean h (SyncAck n) = ⊥
Clean h (EndAck k) = ⊥
Clean h (ResumeAck k n) = ⊥
Clean h (DiscardAck k) = k < h
Clean h Exception = ⊥
Clean h Completed = ⊥
Clean h Unrecognized = ⊥
Clean h CannotRecover = ⊥
Clean h _ = Unit {0}

-- behind an answer that settles h there is none but a DiscardAck
abbrev pub Answered : ℕ → List LaneUnit → Type 0
Answered h [] = Unit {0}
Answered h (x ∷ xs) = (Ends h x → Each (Clean (h + 1)) xs) × Answered h xs

abbrev pub NoResumeAck : LaneUnit → Type 0
NoResumeAck (ResumeAck k n) = ⊥
NoResumeAck _ = Unit {0}

-- no unit that says something of a transfer
abbrev pub IsSilent : LaneUnit → Type 0
IsSilent Accept = Unit {0}
IsSilent Other = Unit {0}
IsSilent _ = ⊥

-- Facts -----------------------------------------------------------------------------------------

pub begin-snoc : (bad : ℕ → Type 0) (h : ℕ) (xs : List LaneUnit) (x : LaneUnit) → Each (Leftover bad h) xs → Opens h x
    → HasBegin bad h (xs ++ x ∷ [])
begin-snoc bad h [] x e o = inl (o, tt)
begin-snoc bad h (y ∷ ys) x e o = inr (e.0, begin-snoc bad h ys x e.1 o)

pub begin-more : (bad : ℕ → Type 0) (h : ℕ) (xs : List LaneUnit) (x : LaneUnit) → HasBegin bad h xs → Own h x
    → HasBegin bad h (xs ++ x ∷ [])
begin-more bad h [] x b n = absurd b
begin-more bad h (y ∷ ys) x b n =
    elim b [ inl p ↦ inl (p.0, each-snoc (Own h) ys x p.1 n) | inr p ↦ inr (p.0, begin-more bad h ys x p.1 n) ]

pub last-snoc : (h : ℕ) (xs : List LaneUnit) (x : LaneUnit) → Each (NoFinish h) xs → LastOnly h (xs ++ x ∷ [])
last-snoc h [] x e = ((λ f. refl), tt)
last-snoc h (y ∷ ys) x e = ((λ f. absurd (e.0 f)), last-snoc h ys x e.1)

pub last-none : (h : ℕ) (xs : List LaneUnit) → Each (NoFinish h) xs → LastOnly h xs
last-none h [] e = tt
last-none h (y ∷ ys) e = ((λ f. absurd (e.0 f)), last-none h ys e.1)

pub answered-none : (h : ℕ) (xs : List LaneUnit) → Each (NoEnds h) xs → Answered h xs
answered-none h [] e = tt
answered-none h (y ∷ ys) e = ((λ f. absurd (e.0 f)), answered-none h ys e.1)

-- an answer that settles goes behind others that do not
pub answered-snoc : (h : ℕ) (xs : List LaneUnit) (x : LaneUnit) → Each (NoEnds h) xs → Answered h (xs ++ x ∷ [])
answered-snoc h [] x e = ((λ f. tt), tt)
answered-snoc h (y ∷ ys) x e = ((λ f. absurd (e.0 f)), answered-snoc h ys x e.1)

-- what is put once h is settled
pub answered-more : (h : ℕ) (xs : List LaneUnit) (x : LaneUnit) → Answered h xs → Clean (h + 1) x
    → Answered h (xs ++ x ∷ [])
answered-more h [] x a c = ((λ f. tt), tt)
answered-more h (y ∷ ys) x a c = ((λ f. each-snoc (Clean (h + 1)) ys x (a.0 f) c), answered-more h ys x a.1 c)

pub own-left : (bad : ℕ → Type 0) (h : ℕ) → bad h → (x : LaneUnit) → Own h x → Leftover bad (h + 1) x
own-left bad h b (Start k) o = o
own-left bad h b (Resume k n) o = o
own-left bad h b (End k) o = (omega arith, subst bad (sym o) b)
own-left bad h b (Discard k) o = (omega arith, subst bad (sym o) b)
own-left bad h b _ o = tt
