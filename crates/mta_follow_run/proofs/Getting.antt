-- Units that come over a link, piece by piece.
use Rattle.std.proofs.Common.{◌≡◌, append_assoc, append-nil, ℕ, ◌+◌, ◌-◌, ◌^◌, ◌≤◌, ◌<◌, Bool, true, false, List, []}
use Rattle.std.proofs.Common.{◌++◌, inl, inr}
use Rattle.std.proofs.Common.{length, refl, sym, ap, subst, ◌∙◌, arith}
use Rattle.std.proofs.lemmas.List.{length-append}
use Rattle.std.proofs.Common.{zero, suc, take, drop, ⊎_elim}
use Rattle.std.proofs.lemmas.List.{length-take}
use Rattle.mta_edge.specs.Causes.{Rose}
use Rattle.mta_links.specs.Links.{Gets as LinkGets, Leads, LinkView, Talk}
use Rattle.mta_follow_units.specs.declared.due.Due.{Due}
use Rattle.mta_follow_units.specs.Feed.{Feed, fed as feed_on, with_spare}
use Rattle.mta_follow_units.specs.Laws.{StandsAlone}
use Rattle.mta_follow_units.specs.Look.{Cut, Look, look}
use Rattle.mta_follow_units.specs.Units.{IsCut, MayHaveSize, in_body, in_kind, in_size, size_in}
use Rattle.mta_follow_units.specs.declared.due.Due.TheVariants as due
use Rattle.mta_follow_run.specs.Getting.{Feeds, Gets, HasFed, Moves, ended, moved}
use Rattle.mta_follow_run.specs.Talks.{IsOver, Talks}
use Rattle.mta_follow_run.proofs.Carrying.{talks_are, talks_got, talks_none, talks_still, talks_then}

-- a unit that is cut off is no longer than a unit
size_short : (d : Due) (size : ℕ) → MayHaveSize d size → 5 + size < 2 ^ 32
size_short (due.Record zero) size short = omega (arith, short)
size_short (due.Record (suc got)) size short = omega (arith, short)
size_short (due.Kept number) size is = omega (arith, is)

cut_short : (d : Due) (octets : List ℕ) → IsCut d octets → length octets < 2 ^ 32
cut_short d octets (in_size short) = omega (arith, short)
cut_short d octets (in_kind four sized) = omega (arith, four)
cut_short d octets (in_body long short sized of) = omega (arith, short, size_short d (size_in octets) sized)

module _ {L : Type 0} (links : LinkView L) where
  pub fed_none : (old : L) (fed : Feed) → HasFed links old fed old fed
  fed_none old fed = record {
    piece = [];
    feeds = record { talks = talks_none links old; at = refl; left = sym (append-nil fed.left) };
  }

  pub feeds_then : (a b : List ℕ) (x : L) (f : Feed) (y : L) (g : Feed) (z : L) (h : Feed) → Feeds links a x f y g
      → Feeds links b y g z h → Feeds links (a ++ b) x f z h
  feeds_then a b x f y g z h p q = record {
    talks = talks_are links (a ++ b) ([] ++ []) (a ++ b) [] x z refl refl
        (talks_then links a [] b [] x y z p.talks q.talks);
    at = q.at ∙ p.at;
    left = q.left ∙ ap (λ (l : List ℕ). l ++ b) p.left ∙ append_assoc f.left a b;
  }

  pub fed_more : (x : L) (f : Feed) (y : L) (g : Feed) (z : L) (h : Feed) → HasFed links x f y g → Moves links true y g z h
      → HasFed links x f z h
  fed_more x f y g z h p (moved old fed new now piece q some) =
      record { piece = p.piece ++ piece; feeds = feeds_then p.piece piece x f y g z h p.feeds q }

  -- what came of it grows
  pub fed_grows : (y : L) (g : Feed) (z : L) (h : Feed) → Moves links true y g z h
      → (h.at ≡ g.at) × (length g.left < length h.left)
  fed_grows y g z h (moved old fed new now piece q some) =
      (q.at, omega (arith, ap length q.left, length-append g.left piece, some))

  -- no more comes
  pub fed_over : (x : L) (f : Feed) (y : L) (g : Feed) (z : L) (h : Feed) → HasFed links x f y g → Moves links false y g z h
      → HasFed links x f z h × IsOver links y z × (h.left ≡ g.left)
  fed_over x f y g z h p (ended old fed new now q over) = (
    record {
      piece = p.piece ++ [];
      feeds = feeds_then p.piece [] x f y g z h p.feeds q;
    },
    over,
    q.left ∙ append-nil g.left,
  )

  pub over_on : (x y z : L) (piece : List ℕ) → Talks links piece [] x y → IsOver links y z → IsOver links x z
  over_on x y z piece t (inl rose) = inl (omega (arith, rose, t.later))
  over_on x y z piece t (inr end) = inr end

  -- a call that left both as they were
  pub kept_on : (x : L) (f : Feed) (y : L) (g : Feed) (z : L) (h : Feed) → HasFed links x f y g → z ≡ y → h ≡ g
      → HasFed links x f z h
  kept_on x f y g z h p same is =
      subst (λ (l : L). HasFed links x f l h) (sym same) (subst (λ (k : Feed). HasFed links x f y k) (sym is) p)

  -- ---- one call of the link

  -- memory was taken for so many octets, and it failed
  pub over_failed : (old new : L) (fed now : Feed) (count : ℕ) → now ≡ with_spare fed count
      → links.talk new ≡ links.talk old → links.faults old ≤ links.faults new
      → Rose (links.faults old) (links.faults new) → Moves links false old fed new now
  over_failed old new fed now count is same later rose =
      subst (λ (f : Feed). Moves links false old fed new f) (sym is)
      (ended old fed new (with_spare fed count)
      (record { talks = talks_still links old new same later; at = refl; left = sym (append-nil fed.left) })
      (inl rose))

  -- it gave none, and so none are left
  pub over_end : (old new : L) (fed now : Feed) (count n : ℕ) (into : List ℕ) → now ≡ with_spare fed count → n ≡ 0
      → 0 < length into → Leads (LinkGets n into) (links.talk old) (links.talk new)
      → links.faults old ≤ links.faults new → Moves links false old fed new now
  over_end old new fed now count n into is none room leads later =
      subst (λ (f : Feed). Moves links false old fed new f) (sym is)
      (ended old fed new (with_spare fed count)
      (record {
        talks = talks_got links n into [] old new (sym (ap (λ (m : ℕ). take m into) none)) leads later;
        at = refl;
        left = sym (append-nil fed.left);
      })
      (inr (λ g now. let b = leads.back g now in at_end b.0 g b.2)))
    where
      at_end : (f g : Talk) → LinkGets n into f g → g.left ≡ []
      at_end f g p =
          ⊎_elim (λ empty. absurd (omega (arith, empty, room)))
          (λ all. p.left ∙ ap (λ (m : ℕ). drop m f.left) none ∙ all) (p.some none)

  -- what it gave is fed
  pub moved_by : (old new : L) (fed mid now : Feed) (count n : ℕ) (into piece : List ℕ) → mid ≡ with_spare fed count
      → piece ≡ take n into → (n ≡ 0 → ⊥) → n ≤ length into
      → Leads (LinkGets n into) (links.talk old) (links.talk new) → links.faults old ≤ links.faults new
      → now ≡ feed_on mid piece → Moves links true old fed new now
  moved_by old new fed mid now count n into piece room is some fits leads later now_is =
      moved old fed new now piece
      (record {
        talks = talks_got links n into piece old new is leads later;
        at = ap (λ (f : Feed). f.at) (now_is ∙ ap (λ (f : Feed). feed_on f piece) room);
        left = ap (λ (f : Feed). f.left) (now_is ∙ ap (λ (f : Feed). feed_on f piece) room);
      })
      (long n some (omega (arith, ap length is, length-take n into, fits)))
    where
      long : (m : ℕ) → (m ≡ 0 → ⊥) → length piece ≡ m → 0 < length piece
      long zero none e = absurd (none refl)
      long (suc m) none e = omega (arith, e)

  -- ---- calls until the unit is told

  -- no more come, and the unit is cut off
  pub got_cut : (d : Due) (x : L) (f : Feed) (y : L) (g : Feed) (z : L) (h : Feed) (more : Bool) → HasFed links x f y g
      → more ≡ false → Moves links more y g z h → IsCut d g.left → Gets links d false x f z h
  got_cut d x f y g z h more p none moves cut =
      let o = fed_over x f y g z h p (subst (λ (b : Bool). Moves links b y g z h) none moves) in
      record {
        piece = o.0.piece;
        feeds = o.0.feeds;
        whole = λ e. cc;
        over = λ e. (subst (IsCut d) (sym o.2) cut, over_on x y z p.piece p.feeds.talks o.1);
      }

  -- the unit is told
  pub got_told : (d : Due) (x : L) (f : Feed) (y : L) (g : Feed) → HasFed links x f y g → (look d g.left ≡ Cut → ⊥)
      → Gets links d true x f y g
  got_told d x f y g p told =
      record { piece = p.piece; feeds = p.feeds; whole = λ e. told; over = λ e. cc }

  -- another octet came
  pub fed_on : (x : L) (f : Feed) (y : L) (g : Feed) (z : L) (h : Feed) (more : Bool) → HasFed links x f y g
      → more ≡ true → Moves links more y g z h → HasFed links x f z h
  fed_on x f y g z h more p some moves =
      fed_more x f y g z h p (subst (λ (b : Bool). Moves links b y g z h) some moves)

  pub fed_up : (d : Due) (y : L) (g : Feed) (z : L) (h : Feed) (more : Bool) → more ≡ true → Moves links more y g z h
      → IsCut d g.left → 2 ^ 32 - length h.left < 2 ^ 32 - length g.left
  fed_up d y g z h more some moves cut =
      let grown = fed_grows y g z h (subst (λ (b : Bool). Moves links b y g z h) some moves) in
      omega (arith, grown.1, cut_short d g.left cut)

-- what was seen stands alone
pub alone_at : (d : Due) (seen : Look) (octets : List ℕ) → look d octets ≡ seen
    → StandsAlone d (look d octets) octets → StandsAlone d seen octets
alone_at d seen octets is stands = subst (λ (s : Look). StandsAlone d s octets) is stands
