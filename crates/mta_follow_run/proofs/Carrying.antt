-- What a link carries, call after call.
use Rattle.std.proofs.Common.{◌≡◌, append_assoc, append-nil, ℕ, ◌≤◌, true, false, Option}
use Rattle.std.proofs.Common.{eqb}
use Rattle.std.proofs.Common.{List, [], ◌∷◌, ◌++◌, length, take, drop, Result, Ok, Err, refl, sym, ap, subst, ◌∙◌}
use Rattle.std.proofs.Common.{arith}
use Rattle.std.specs.Prelude.{is_err}
use Rattle.std.proofs.lemmas.Bool.{eqb-true}
use Rattle.std.proofs.lemmas.List.{take-append-drop}
use Rattle.mta_edge.specs.Causes.{Rose}
use Rattle.mta_edge.specs.declared.outside.Failed.{Failed}
use Rattle.mta_links.specs.Links.{Gets as LinkGets, Leads, LinkView, Puts, Talk}
use Rattle.mta_follow_run.specs.Fronts.{IsFront}
use Rattle.mta_follow_run.specs.Talks.{Carries, HasPut, Talks, put_front, put_whole}

-- ---- no octets

pub none_of : (l : List ℕ) → eqb (length l) 0 ≡ true → l ≡ []
none_of [] e = refl
none_of (x ∷ l) e = absurd (omega (arith, eqb-true (length (x ∷ l)) 0 e))

-- ---- steps of a link

leads_then : {s t u : Talk → Talk → Type 0} {a b c : Option Talk} → ((f g h : Talk) → s f g → t g h → u f h)
    → Leads s a b → Leads t b c → Leads u a c
leads_then join p q = record {
  each = λ f was. let x = p.each f was in let y = q.each x.0 x.1 in (y.0, y.1, join f x.0 y.0 x.2 y.2);
  back = λ h was. let y = q.back h was in let x = p.back y.0 y.1 in (x.0, x.1, join x.0 y.0 h x.2 y.2);
}

leads_map : {s t : Talk → Talk → Type 0} {a b : Option Talk} → ((f g : Talk) → s f g → t f g) → Leads s a b
    → Leads t a b
leads_map less p = record {
  each = λ f was. let x = p.each f was in (x.0, x.1, less f x.0 x.2);
  back = λ g now. let x = p.back g now in (x.0, x.1, less x.0 g x.2);
}

leads_refl : {s : Talk → Talk → Type 0} {a : Option Talk} → ((f : Talk) → s f f) → Leads s a a
leads_refl same = record { each = λ f was. (f, was, same f); back = λ g now. (g, now, same g) }

leads_same : {s : Talk → Talk → Type 0} {a b c : Option Talk} → c ≡ b → Leads s a b → Leads s a c
leads_same q p = record {
  each = λ f was. let x = p.each f was in (x.0, q ∙ x.1, x.2);
  back = λ g now. p.back g (sym q ∙ now);
}

carries_none : (f : Talk) → Carries [] [] f f
carries_none f = record { got = sym (append-nil f.got); left = refl; put = sym (append-nil f.put) }

carries_then : (a b c d : List ℕ) (f g h : Talk) → Carries a b f g → Carries c d g h → Carries (a ++ c) (b ++ d) f h
carries_then a b c d f g h p q = record {
  got = q.got ∙ ap (λ (x : List ℕ). x ++ c) p.got ∙ append_assoc f.got a c;
  left = p.left ∙ ap (λ (x : List ℕ). a ++ x) q.left ∙ sym (append_assoc a c h.left);
  put = q.put ∙ ap (λ (x : List ℕ). x ++ d) p.put ∙ append_assoc f.put b d;
}

carries_put : (n : ℕ) (bytes : List ℕ) (f g : Talk) → Puts n bytes f g → Carries [] (take n bytes) f g
carries_put n bytes f g p = record {
  got = p.got ∙ sym (append-nil f.got);
  left = sym p.left;
  put = p.put;
}

carries_got : (n : ℕ) (into piece : List ℕ) (f g : Talk) → piece ≡ take n into → LinkGets n into f g
    → Carries piece [] f g
carries_got n into piece f g is p =
    let same : take n f.left ≡ piece = sym p.moved ∙ sym is in
    record {
      got = p.got ∙ ap (λ (x : List ℕ). f.got ++ x) same;
      left = sym (take-append-drop n f.left) ∙ ap (λ (x : List ℕ). x ++ drop n f.left) same
          ∙ ap (λ (x : List ℕ). piece ++ x) (sym p.left);
      put = p.put ∙ sym (append-nil f.put);
    }

module _ {L : Type 0} (links : LinkView L) where
  pub talks_none : (l : L) → Talks links [] [] l l
  talks_none l = record { carried = leads_refl carries_none; later = omega arith }

  pub talks_then : (a b c d : List ℕ) (x y z : L) → Talks links a b x y → Talks links c d y z
      → Talks links (a ++ c) (b ++ d) x z
  talks_then a b c d x y z p q = record {
    carried = leads_then (carries_then a b c d) p.carried q.carried;
    later = omega (arith, p.later, q.later);
  }

  pub talks_are : (a b c d : List ℕ) (x y : L) → a ≡ c → b ≡ d → Talks links a b x y → Talks links c d x y
  talks_are a b c d x y i j p = subst (λ l. Talks links c l x y) j (subst (λ l. Talks links l b x y) i p)

  pub talks_put : (n : ℕ) (bytes : List ℕ) (x y : L) → Leads (Puts n bytes) (links.talk x) (links.talk y)
      → links.faults x ≤ links.faults y → Talks links [] (take n bytes) x y
  talks_put n bytes x y p later = record { carried = leads_map (carries_put n bytes) p; later = later }

  pub talks_got : (n : ℕ) (into piece : List ℕ) (x y : L) → piece ≡ take n into
      → Leads (LinkGets n into) (links.talk x) (links.talk y) → links.faults x ≤ links.faults y
      → Talks links piece [] x y
  talks_got n into piece x y is p later =
      record { carried = leads_map (λ f g. carries_got n into piece f g is) p; later = later }

  pub talks_still : (x y : L) → links.talk y ≡ links.talk x → links.faults x ≤ links.faults y → Talks links [] [] x y
  talks_still x y same later = record { carried = leads_same same (leads_refl carries_none); later = later }

  -- ---- a piece that is put part by part

  -- all of these octets were put but the rest
  pub record PutsPart (bytes rest : List ℕ) (x y : L) : Type 0 where
    pub done : List ℕ
    pub split : bytes ≡ done ++ rest
    pub talks : Talks links [] done x y

  pub part_none : (bytes : List ℕ) (x : L) → PutsPart bytes bytes x x
  part_none bytes x = record { done = []; split = refl; talks = talks_none x }

  pub part_more : (bytes rest after : List ℕ) (n : ℕ) (x y z : L) → after ≡ drop n rest → PutsPart bytes rest x y
      → Leads (Puts n rest) (links.talk y) (links.talk z) → links.faults y ≤ links.faults z
      → PutsPart bytes after x z
  part_more bytes rest after n x y z is p puts later = record {
    done = p.done ++ take n rest;
    split = p.split ∙ ap (λ (l : List ℕ). p.done ++ l) (sym (take-append-drop n rest))
        ∙ sym (append_assoc p.done (take n rest) (drop n rest))
        ∙ ap (λ (l : List ℕ). (p.done ++ take n rest) ++ l) (sym is);
    talks = talks_then [] p.done [] (take n rest) x y z p.talks (talks_put n rest y z puts later);
  }

  pub part_whole : (bytes rest : List ℕ) (x y : L) → rest ≡ [] → PutsPart bytes rest x y
      → HasPut links bytes x y (Ok tt)
  part_whole bytes rest x y none p =
      put_whole (talks_are [] p.done [] bytes x y refl
      (sym (p.split ∙ ap (λ (l : List ℕ). p.done ++ l) none ∙ append-nil p.done)) p.talks)

  pub part_front : (bytes rest : List ℕ) (x y z : L) (e : Failed) → PutsPart bytes rest x y
      → links.talk z ≡ links.talk y → links.faults y ≤ links.faults z → Rose (links.faults y) (links.faults z)
      → HasPut links bytes x z (Err e)
  part_front bytes rest x y z e p same later rose =
      put_front p.done e (record { rest = rest; whole_is = p.split })
      (talks_are [] (p.done ++ []) [] p.done x z refl (append-nil p.done)
      (talks_then [] p.done [] [] x y z p.talks (talks_still y z same later)))
      (omega (arith, p.talks.later, rose))

  -- ---- two pieces, one behind the other

  pub put_both : (a b : List ℕ) (x y z : L) → Talks links [] a x y → Talks links [] b y z
      → HasPut links (a ++ b) x z (Ok tt)
  put_both a b x y z p q = put_whole (talks_then [] a [] b x y z p q)

  pub put_first : (a b : List ℕ) (x y : L) (e : Failed) → HasPut links a x y (Err e) → HasPut links (a ++ b) x y (Err e)
  put_first a b x y e (put_front piece r is talks rose) =
      put_front piece e (record {
        rest = is.rest ++ b;
        whole_is = ap (λ (l : List ℕ). l ++ b) is.whole_is ∙ append_assoc piece is.rest b;
      }) talks rose

  pub put_second : (a b : List ℕ) (x y z : L) (e : Failed) → Talks links [] a x y → HasPut links b y z (Err e)
      → HasPut links (a ++ b) x z (Err e)
  put_second a b x y z e p (put_front piece r is talks rose) =
      put_front (a ++ piece) e (record {
        rest = is.rest;
        whole_is = ap (λ (l : List ℕ). a ++ l) is.whole_is ∙ sym (append_assoc a piece is.rest);
      })
      (talks_then [] a [] piece x y z p talks) (omega (arith, p.later, rose))

  -- what calls of putting leave, one behind the other

  pub put_cut : (a b : List ℕ) (x y : L) (r s : Result (Unit {0}) Failed) (e w : Failed) → r ≡ Err e → s ≡ Err w
      → HasPut links a x y r → HasPut links (a ++ b) x y s
  put_cut a b x y r s e w was is h =
      subst (HasPut links (a ++ b) x y) (sym is) (go (subst (HasPut links a x y) was h))
    where
      go : HasPut links a x y (Err e) → HasPut links (a ++ b) x y (Err w)
      go (put_front piece f front talks rose) =
          put_front piece w (record {
            rest = front.rest ++ b;
            whole_is = ap (λ (l : List ℕ). l ++ b) front.whole_is ∙ append_assoc piece front.rest b;
          }) talks rose

  pub put_then : (a b : List ℕ) (x y z : L) (q r : Result (Unit {0}) Failed) (t : Unit {0}) → q ≡ Ok t
      → HasPut links a x y q → HasPut links b y z r → HasPut links (a ++ b) x z r
  put_then a b x y z q r t was h k = go r (subst (HasPut links a x y) was h) k
    where
      go : (r : Result (Unit {0}) Failed) → HasPut links a x y (Ok tt) → HasPut links b y z r
          → HasPut links (a ++ b) x z r
      go r (put_whole p) (put_whole q) = put_both a b x y z p q
      go r (put_whole p) (put_front piece f front talks rose) =
          put_second a b x y z f p (put_front piece f front talks rose)

  -- octets that were put whole were taken, and else a front of them
  pub all_put : (a : List ℕ) (x y : L) (r : Result (Unit {0}) Failed) (t : Unit {0}) → r ≡ Ok t → HasPut links a x y r
      → Talks links [] a x y
  all_put a x y r t is h = go (subst (HasPut links a x y) is h)
    where
      go : HasPut links a x y (Ok tt) → Talks links [] a x y
      go (put_whole p) = p

  -- the front of them that was taken
  pub record IsCut (a : List ℕ) (x y : L) : Type 0 where
    pub piece : List ℕ
    pub front : IsFront piece a
    pub talks : Talks links [] piece x y
    pub rose : Rose (links.faults x) (links.faults y)

  pub cut_put : (a : List ℕ) (x y : L) (r : Result (Unit {0}) Failed) → is_err r ≡ true → HasPut links a x y r
      → IsCut a x y
  cut_put a x y r failed (put_whole p) = absurd cc
  cut_put a x y r failed (put_front piece f front talks rose) =
      record { piece = piece; front = front; talks = talks; rose = rose }

  pub whole_put : (a : List ℕ) (x y : L) (r : Result (Unit {0}) Failed) → is_err r ≡ false → HasPut links a x y r
      → Talks links [] a x y
  whole_put a x y r good (put_whole p) = p
  whole_put a x y r good (put_front piece f front talks rose) = absurd cc
