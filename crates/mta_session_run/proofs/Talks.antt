-- What a link has carried, call after call.
use Rattle.std.proofs.Common.{◌≡◌, inl, inr, Bool, true, false, ℕ, zero, suc, ◌+◌, ◌-◌, ◌≤◌, Option, Result, Ok, Err}
use Rattle.std.proofs.Common.{IfOk, OnErr, List, [], ◌++◌, ◌∷◌, length, take, drop, refl, sym, ap, subst, ◌∙◌, arith}
use Rattle.std.proofs.Common.{append_assoc, append-nil}
use Rattle.std.proofs.lemmas.Grind.{common_steps}
use Rattle.mta_edge.specs.Causes.{Rose}
use Rattle.std.proofs.lemmas.List.{take-append-drop, drop-drop, length-drop}
use Rattle.mta_ber.specs.declared.memory.Memory.{Memory as NoMemory}
use Rattle.mta_links.specs.Links.{LinkView, Leads, Talk, Gets, Puts}
use Rattle.mta_units.specs.declared.unit.Unit.{Unit as AnyUnit}
use Rattle.mta_units.specs.declared.next.Next.{Next}
use Rattle.mta_units.specs.declared.next.Next.TheVariants as next
use Rattle.mta_units.specs.Feed.{Feed, Goes, answered, after, seen, fed, with_spare}
use Rattle.mta_units.specs.Look.{Look, Nothing, Fails, Reads}
use Rattle.mta_units.specs.Spelling.{IsCutOff}
use Rattle.mta_units.specs.Reading.{HasRead, and_next}
use Rattle.mta_session_run.specs.Carried.{Carried, Fronted, FedBy, IsOver, PutsAll, PutsFront}

-- one step after another, and a step that says less
pub leads_then : {s t u : Talk → Talk → Type 0} {a b c : Option Talk} → ((f g h : Talk) → s f g → t g h → u f h)
    → Leads s a b → Leads t b c → Leads u a c
leads_then join p q = record {
  each = λ f was. let x = p.each f was in let y = q.each x.0 x.1 in (y.0, y.1, join f x.0 y.0 x.2 y.2);
  back = λ h was. let y = q.back h was in let x = p.back y.0 y.1 in (x.0, x.1, join x.0 y.0 h x.2 y.2);
}

pub leads_map : {s t : Talk → Talk → Type 0} {a b : Option Talk} → ((f g : Talk) → s f g → t f g) → Leads s a b
    → Leads t a b
leads_map less p = record {
  each = λ f was. let x = p.each f was in (x.0, x.1, less f x.0 x.2);
  back = λ g now. let x = p.back g now in (x.0, x.1, less x.0 g x.2);
}

pub leads_same : {s : Talk → Talk → Type 0} {a b c : Option Talk} → c ≡ b → Leads s a b → Leads s a c
leads_same q p = record {
  each = λ f was. let x = p.each f was in (x.0, q ∙ x.1, x.2);
  back = λ g now. p.back g (sym q ∙ now);
}

pub leads_refl : {s : Talk → Talk → Type 0} {a : Option Talk} → ((f : Talk) → s f f) → Leads s a a
leads_refl same = record { each = λ f was. (f, was, same f); back = λ g now. (g, now, same g) }

-- the units that were read, of the octets that were fed
pub carried_front : (us : List AnyUnit) (octets : List ℕ) (feed : Feed) (f g : Talk) → Carried us octets feed f g
    → Fronted us octets f g
carried_front us octets feed f g c = record {
  front = c.read.front;
  rest = feed.left;
  spelled = c.read.spelled;
  got = c.got ∙ ap (λ (x : List ℕ). f.got ++ x) c.read.stream_is;
  put = c.put;
}

-- a unit is taken of them
pub carried_next : (us : List AnyUnit) (octets : List ℕ) (old new : Feed) (f g : Talk) (r : Result Next NoMemory)
    → (c : Carried us octets old f g) →
    IfOk r (λ n. HasRead (and_next us n) c.stream new) → IfOk r (λ n. Carried (and_next us n) octets new f g)
carried_next us octets old new f g (Ok n) c h = record { stream = c.stream; read = h; got = c.got; put = c.put }
carried_next us octets old new f g (Err e) c h = tt

-- whatever was answered
pub on_err : {A E : Type 0} (X : Type 0) (r : Result A E) → X → OnErr r X
on_err X (Ok a) x = tt
on_err X (Err e) x = x

-- octets are moved into the frames
pub carried_fed : (us : List AnyUnit) (octets : List ℕ) (old new : Feed) (n : ℕ) (into piece : List ℕ) (f g h : Talk)
    → piece ≡ take n into →
    ((us : List AnyUnit) (stream : List ℕ) → HasRead us stream old → HasRead us (stream ++ piece) new)
    → Carried us octets old f g → Gets n into g h → Carried us octets new f h
carried_fed us octets old new n into piece f g h e reads c t = record {
  stream = c.stream ++ piece;
  read = reads us c.stream c.read;
  got = t.got ∙ ap (λ (x : List ℕ). x ++ take n g.left) c.got ∙ append_assoc f.got c.stream (take n g.left)
      ∙ ap (λ (x : List ℕ). f.got ++ (c.stream ++ x)) (sym t.moved ∙ sym e);
  put = t.put ∙ c.put;
}

-- memory is taken for more
pub carried_room : (us : List AnyUnit) (octets : List ℕ) (old new : Feed) (count : ℕ) (f g : Talk)
    → new ≡ with_spare old count → Carried us octets old f g → Carried us octets new f g
carried_room us octets old new count f g e c =
    subst (λ (x : Feed). Carried us octets x f g) (sym e) (record {
      stream = c.stream;
      read = record {
        front = c.read.front;
        spelled = c.read.spelled;
        stream_is = c.read.stream_is;
        at_is = c.read.at_is;
      };
      got = c.got;
      put = c.put;
    })

-- nothing was got
pub carried_none : (us : List AnyUnit) (octets : List ℕ) (feed : Feed) (n : ℕ) (into : List ℕ) (f g h : Talk) → n ≡ 0
    → Carried us octets feed f g → Gets n into g h → Carried us octets feed f h
carried_none us octets feed n into f g h e c t = record {
  stream = c.stream;
  read = c.read;
  got = t.got ∙ ap (λ (k : ℕ). g.got ++ take k g.left) e ∙ append-nil g.got ∙ c.got;
  put = t.put ∙ c.put;
}

-- What a call of the link leaves, where memory was taken for more before it: it failed, or gave nothing, or octets that
-- were moved into the frames.
pub room_failed : (us : List AnyUnit) (octets : List ℕ) (old new : Feed) (count : ℕ) (since a b : Option Talk)
    → new ≡ with_spare old count → b ≡ a → Leads (Carried us octets old) since a → Leads (Carried us octets new) since b
room_failed us octets old new count since a b e same k =
    leads_same same (leads_map (λ f g c. carried_room us octets old new count f g e c) k)

pub room_none : (us : List AnyUnit) (octets : List ℕ) (old new : Feed) (count n : ℕ) (into : List ℕ)
    (since a b : Option Talk) → new ≡ with_spare old count → n ≡ 0 → Leads (Carried us octets old) since a
    → Leads (Gets n into) a b → Leads (Carried us octets new) since b
room_none us octets old new count n into since a b e none k got =
    leads_then (λ f g h one two. carried_none us octets new n into f g h none one two)
    (leads_map (λ f g c. carried_room us octets old new count f g e c) k) got

pub room_fed : (us : List AnyUnit) (octets : List ℕ) (old mid new : Feed) (count n : ℕ) (into piece : List ℕ)
    (since a b : Option Talk) → mid ≡ with_spare old count → piece ≡ take n into
    → ((us : List AnyUnit) (stream : List ℕ) → HasRead us stream mid → HasRead us (stream ++ piece) new)
    → Leads (Carried us octets old) since a → Leads (Gets n into) a b → Leads (Carried us octets new) since b
room_fed us octets old mid new count n into piece since a b e is reads k got =
    leads_then (λ f g h one two. carried_fed us octets mid new n into piece f g h is reads one two)
    (leads_map (λ f g c. carried_room us octets old mid count f g e c) k) got

-- a call that left both as they were
pub kept_same : {L : Type 0} → (model : LinkView L) (us : List AnyUnit) (octets : List ℕ) (since : Option Talk)
    (mid at : L) (half feed : Feed) → at ≡ mid → feed ≡ half → Leads (Carried us octets half) since (model.talk mid)
    → Leads (Carried us octets feed) since (model.talk at)
kept_same {L} model us octets since mid at half feed same is k =
    subst (λ (z : L). Leads (Carried us octets feed) since (model.talk z)) (sym same)
    (subst (λ (z : Feed). Leads (Carried us octets z) since (model.talk mid)) (sym is) k)

-- nothing is told to be left where nothing of a buffer was filled
pub at_end : (n : ℕ) (into : List ℕ) (f g : Talk) → n ≡ 0 → length into ≡ 4096 → Gets n into f g → g.left ≡ []
at_end n into f g e size t =
    let left : g.left ≡ f.left = t.left ∙ ap (λ (k : ℕ). drop k f.left) e in
    elim (t.some e) [
      | inl none ↦ absurd (omega (arith, none, size))
      | inr all ↦ left ∙ all
    ]

-- where more is needed nothing was taken
more_is : (f : Feed) (l : Look) → next.More ≡ answered f.at l → after f l ≡ f
more_is f Nothing e = refl
more_is f (Fails k) e = cc
more_is f (Reads u rest) e = cc

pub more_same : (old new : Feed) (n : Next) → Goes old n new → n ≡ next.More → new ≡ old
more_same old new n g e = g.left ∙ more_is old (seen old) (sym e ∙ g.answer)

-- Octets that are put part by part -------------------------------------------------------------

-- the first n octets are put, and the others are left
pub record Parts (bytes rest : List ℕ) (n : ℕ) : Type 0 where
  pub rest_is : rest ≡ drop n bytes
  pub within : n ≤ length bytes

abbrev pub PutsPart : (bytes rest : List ℕ) → Option Talk → Option Talk → Type 0
PutsPart bytes rest old new = (n : ℕ) × Parts bytes rest n × Leads (PutsAll (take n bytes)) old new

puts_none : (f : Talk) → PutsAll [] f f
puts_none f = record { got = refl; left = refl; put = sym (append-nil f.put) }

pub part_none : (bytes : List ℕ) (a : Option Talk) → PutsPart bytes bytes a a
part_none bytes a = (0, record { rest_is = refl; within = omega arith }, leads_refl puts_none)

-- the first n octets and m behind them
take_both : (bytes : List ℕ) (n m : ℕ) → n ≤ length bytes → take n bytes ++ take m (drop n bytes) ≡ take (n + m) bytes
take_both bytes zero m l = let e : m ≡ 0 + m = omega arith in ap (λ (k : ℕ). take k bytes) e
take_both [] (suc n) m l = absurd (omega (arith, l))
take_both (x ∷ bytes) (suc n) m l =
    let e : suc (n + m) ≡ suc n + m = omega arith in
    ap (λ (z : List ℕ). x ∷ z) (take_both bytes n m (omega (arith, l))) ∙ ap (λ (k : ℕ). take k (x ∷ bytes)) e

puts_both : (bytes rest : List ℕ) (n m : ℕ) (f g h : Talk) → Parts bytes rest n → PutsAll (take n bytes) f g
    → Puts m rest g h → PutsAll (take (n + m) bytes) f h
puts_both bytes rest n m f g h p one two = record {
  got = two.got ∙ one.got;
  left = two.left ∙ one.left;
  put = two.put ∙ ap (λ (x : List ℕ). x ++ take m rest) one.put ∙ append_assoc f.put (take n bytes) (take m rest)
      ∙ ap (λ (x : List ℕ). f.put ++ (take n bytes ++ take m x)) p.rest_is
      ∙ ap (λ (x : List ℕ). f.put ++ x) (take_both bytes n m p.within);
}

pub part_more : (bytes rest behind : List ℕ) (m : ℕ) (a b c : Option Talk) → behind ≡ drop m rest → m ≤ length rest
    → PutsPart bytes rest a b → Leads (Puts m rest) b c → PutsPart bytes behind a c
part_more bytes rest behind m a b c e le p more =
    let size : length rest ≡ length bytes - p.0 = ap length p.1.rest_is ∙ length-drop p.0 bytes in (
      p.0 + m,
      record {
        rest_is = e ∙ ap (drop m) p.1.rest_is ∙ drop-drop m p.0 bytes;
        within = omega (arith, p.1.within, size, le);
      },
      leads_then (λ f g h one two. puts_both bytes rest p.0 m f g h p.1 one two) p.2 more,
    )

take_whole : (bytes rest : List ℕ) (n : ℕ) → rest ≡ [] → Parts bytes rest n → take n bytes ≡ bytes
take_whole bytes rest n e p =
    sym (append-nil (take n bytes)) ∙ ap (λ (x : List ℕ). take n bytes ++ x) (sym e ∙ p.rest_is)
    ∙ take-append-drop n bytes

pub part_whole : (bytes rest : List ℕ) (a b : Option Talk) → rest ≡ [] → PutsPart bytes rest a b
    → Leads (PutsAll bytes) a b
part_whole bytes rest a b e p = subst (λ (x : List ℕ). Leads (PutsAll x) a b) (take_whole bytes rest p.0 e p.1) p.2

pub part_front : (bytes rest : List ℕ) (a b : Option Talk) → PutsPart bytes rest a b → PutsFront bytes a b
part_front bytes rest a b p = (p.0, p.2)

-- Why no more comes -----------------------------------------------------------------------------

rose_before : (a b c : ℕ) → a ≤ b → Rose b c → Rose a c
rose_before a b c l r = first_of (omega (arith, l, r), grind (arith, common_steps))

over_before : {L : Type 0} → (model : LinkView L) (a b : ℕ) (link : L) → a ≤ b
    → IsOver model b link → IsOver model a link
over_before model a b link l (inl r) = inl (rose_before a b (model.faults link) l r)
over_before model a b link l (inr r) = inr r

pub fill_ends : {L : Type 0} → (model : LinkView L) (a b : ℕ) (more : Bool) (mid new : Feed) (link : L)
    → a ≤ b → more ≡ false → IsCutOff mid.left → FedBy more mid new → (more ≡ false → IsOver model b link)
    → IsCutOff new.left × IsOver model a link
fill_ends model a b true mid new link l n cut fed over = cc
fill_ends model a b false mid new link l n cut fed over =
    (subst IsCutOff (sym fed) cut, over_before model a b link l (over refl))
