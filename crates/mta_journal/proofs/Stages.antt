-- How the stages of a disk of two areas follow from one another.
use Rattle.std.proofs.Common.{inl, inr, ⊎_elim, ◌≡◌, ◌≢◌, ◌⊎◌, ℕ, ◌+◌, ◌-◌, ◌≤◌, ◌<◌, ◌^◌, List, [], ◌∷◌, ◌++◌, length}
use Rattle.std.proofs.Common.{take, drop, get_or, refl, sym, ap, subst, ◌∙◌, append_assoc, arith}
use Rattle.std.specs.Int.{w64, to_be_bytes, from_be_bytes}
use Rattle.std.proofs.lemmas.Bool.{cases_eq}
use Rattle.std.proofs.lemmas.List.{take_at, drop_at, take-take, drop-drop, drop-take, take-append-drop, append-nil}
use Rattle.std.proofs.lemmas.List.{length-append, length-take, length-take-le, length-drop, get_or-take, get_or-drop}
use Rattle.std.proofs.lemmas.Nat.{from_be_bytes-to_be_bytes_8}
use Rattle.mta_edge.specs.Outside.{Torn, written}
use Rattle.mta_edge.specs.Crashes.{CutShort}
use Rattle.mta_edge.proofs.Logged.{written_torn, CutShort-cut}
use Rattle.mta_disk.specs.Records.{counted, frame_of, IsFramedAt, IsLiftedAt, IsShutAt, IsChosen, IsPointedAt, IsTornAt}
use Rattle.mta_disk.specs.Records.{IsCutTo}
use Rattle.mta_disk.proofs.Writing.{length-closed, length-counted}
use Rattle.mta_journal.specs.Bodies.{longest_first, records, open_record, need_of, HasRecords, selector, HasBodies}
use Rattle.mta_journal.specs.Bodies.{HasBodiesAt, first, second}
use Rattle.mta_journal.specs.Stages.{HasFirst, HasSecond, Fits, HasEither, KeepsFirst, KeepsSecond, KeepsBoth}
use Rattle.mta_journal.specs.Stages.{LeavesFirst, PutsSecond, PutsFirst}
use Rattle.mta_journal.proofs.Unique.{inside}

-- ---- octets apart from a range that was torn

-- where both begin alike, so does what stands there
pub same_before : (at gate m : ℕ) (f g : List ℕ) → take at g ≡ take at f → gate + m ≤ at → take m (drop gate g)
    ≡ take m (drop gate f)
same_before at gate m f g same le =
    let upto : take (gate + m) g ≡ take (gate + m) f =
    sym (take-take (gate + m) at g le) ∙ ap (take (gate + m)) same ∙ take-take (gate + m) at f le in
    sym (drop-take gate m g) ∙ ap (drop gate) upto ∙ drop-take gate m f

pub torn_before : (at n gate m : ℕ) (f g : List ℕ) → Torn at n f g → gate + m ≤ at → take m (drop gate g)
    ≡ take m (drop gate f)
torn_before at n gate m f g torn le = same_before at gate m f g torn.before le

torn_behind : (at n gate : ℕ) (f g : List ℕ) → Torn at n f g → at + n ≤ gate → drop gate g ≡ drop gate f
torn_behind at n gate f g torn le =
    let there : at + n + (gate - (at + n)) ≡ gate = omega arith in
    sym (ap (λ (k : ℕ). drop k g) there) ∙ sym (drop-drop (gate - (at + n)) (at + n) g)
    ∙ ap (drop (gate - (at + n))) torn.after
    ∙ drop-drop (gate - (at + n)) (at + n) f ∙ ap (λ (k : ℕ). drop k f) there

-- the selector is no part of a range from 15 on
selector_torn : (at n : ℕ) (f g : List ℕ) → Torn at n f g → 15 ≤ at → selector g ≡ selector f
selector_torn at n f g torn le =
    sym (get_or-take 15 g 14 0 (omega arith)) ∙ ap (λ (l : List ℕ). get_or l 14 0) (torn_before at n 0 15 f g torn le)
    ∙ get_or-take 15 f 14 0 (omega arith)

-- ---- the two areas apart from such a range

pub records_kept : (gate m : ℕ) (bodies : List (List ℕ)) (f g : List ℕ) → length (records bodies) < m
    → take m (drop gate g) ≡ take m (drop gate f) → HasRecords gate bodies f → HasRecords gate bodies g
records_kept gate m bodies f g lt same has =
    let upto : List ℕ = records bodies ++ has.octet ∷ [] in
    let k : ℕ = length (records bodies) + 1 in
    let size : length upto ≡ k = omega (arith, length-append (records bodies) (has.octet ∷ [])) in
    let split : drop gate f ≡ upto ++ has.rest = has.octets
    ∙ sym (append_assoc (records bodies) (has.octet ∷ []) has.rest) in
    let here : take k (drop gate g) ≡ upto =
    sym (take-take k m (drop gate g) (omega (arith, lt))) ∙ ap (take k) same
    ∙ take-take k m (drop gate f) (omega (arith, lt))
    ∙ ap (take k) split ∙ take_at upto has.rest k size in
    record {
      octet = has.octet;
      rest = drop k (drop gate g);
      octets = sym (take-append-drop k (drop gate g)) ∙ ap (λ (x : List ℕ). x ++ drop k (drop gate g)) here
          ∙ append_assoc (records bodies) (has.octet ∷ []) (drop k (drop gate g));
      closed = has.closed;
      each = has.each;
    }

first_torn : (e at n : ℕ) (bodies : List (List ℕ)) (f g : List ℕ) → Torn at n f g → 14 ≤ at → (at + n ≤ 23) ⊎ (e ≤ at)
    → HasFirst e bodies f → HasFirst e bodies g
first_torn e at n bodies f g torn from apart has =
    let same : take (e - 23) (drop 23 g) ≡ take (e - 23) (drop 23 f) =
    ⊎_elim {C = take (e - 23) (drop 23 g) ≡ take (e - 23) (drop 23 f)}
    (λ (le : at + n ≤ 23). ap (take (e - 23)) (torn_behind at n 23 f g torn le))
    (λ (le : e ≤ at). torn_before at n 23 (e - 23) f g torn (omega (arith, le, has.ends))) apart in
    let stand : HasRecords 23 bodies g = records_kept 23 (e - 23) bodies f g (omega (arith, has.ends)) same has.stand in
    record {
      areas = record {
        front = torn_before at n 0 14 f g torn from
            ∙ has.areas.front;
        inside = omega (arith, inside 23 bodies g stand);
      };
      stand = stand;
      ends = has.ends;
    }

second_torn : (e at n : ℕ) (body f g : List ℕ) → Torn at n f g → 14 ≤ at → (at + n ≤ 15) ⊎ (23 ≤ at) → at + n ≤ e
    → HasSecond e body f → HasSecond e body g
second_torn e at n body f g torn from apart ends has =
    let stand : HasRecords e (body ∷ []) g = record {
      octet = has.stand.octet;
      rest = has.stand.rest;
      octets = torn_behind at n e f g torn ends ∙ has.stand.octets;
      closed = has.stand.closed;
      each = has.stand.each;
    } in
    let eight : take 8 (drop 15 g) ≡ take 8 (drop 15 f) =
    ⊎_elim {C = take 8 (drop 15 g) ≡ take 8 (drop 15 f)}
    (λ (le : at + n ≤ 15). ap (take 8) (torn_behind at n 15 f g torn le))
    (λ (le : 23 ≤ at). torn_before at n 15 8 f g torn le) apart in
    record {
      areas = record {
        front = torn_before at n 0 14 f g torn from ∙ has.areas.front;
        inside = omega (arith, inside e (body ∷ []) g stand, has.below);
      };
      place = ap (from_be_bytes w64) eight ∙ has.place;
      stand = stand;
      below = has.below;
    }

-- a cut behind the first area
pub first_cut : (size e : ℕ) (bodies : List (List ℕ)) (f g : List ℕ) → CutShort size f g → size ≡ 24
    + length (records bodies)
    → HasFirst e bodies f → (selector g ≡ selector f) × HasFirst e bodies g
first_cut size e bodies f g short size_is has =
    let k : ℕ = length g in
    let long : size ≤ length g = omega (arith, short.no_shorter, size_is, inside 23 bodies f has.stand) in
    let m : ℕ = length (records bodies) + 1 in
    let upto : 23 + (length g - 23) ≡ length g = omega (arith, long, size_is) in
    let behind : drop 23 g ≡ take (length g - 23) (drop 23 f) =
    ap (drop 23) (sym short.front ∙ ap (λ (n : ℕ). take n f) (sym upto)) ∙ drop-take 23 (length g - 23) f in
    let same : take m (drop 23 g) ≡ take m (drop 23 f) =
    ap (take m) behind ∙ take-take m (length g - 23) (drop 23 f) (omega (arith, long, size_is)) in (
      ap (λ (l : List ℕ). get_or l 14 0) (sym short.front)
          ∙ get_or-take (length g) f 14 0 (omega (arith, long, size_is)),
      record {
        areas = record {
          front = ap (take 14) (sym short.front) ∙ take-take 14 (length g) f (omega (arith, long, size_is))
              ∙ has.areas.front;
          inside = omega (arith, long, size_is);
        };
        stand = records_kept 23 m bodies f g (omega arith) same has.stand;
        ends = has.ends;
      },
    )

-- ---- which bodies an image has

pub bodies_first : (e : ℕ) (bodies : List (List ℕ)) (f : List ℕ) → HasFirst e bodies f → selector f ≢ 1
    → HasBodiesAt 23 bodies f
bodies_first e bodies f has other = record { current = first has.areas other refl; stand = has.stand }

pub bodies_second : (e : ℕ) (body f : List ℕ) → HasSecond e body f → selector f ≡ 1 → HasBodiesAt e (body ∷ []) f
bodies_second e body f has one = record {
  current = second has.areas one (sym has.place) body refl has.below;
  stand =
      has.stand;
}

pub either : (e : ℕ) (bodies : List (List ℕ)) (body f : List ℕ) → HasFirst e bodies f → HasSecond e body f
    → HasEither 23 bodies (body ∷ []) f
either e bodies body f has one = ⊎_elim {C = HasEither 23 bodies (body ∷ []) f}
    (λ (is : selector f ≡ 1). inr (e, bodies_second e body f one is))
    (λ (other : selector f ≢ 1). inl (bodies_first e bodies f has other))
    (cases_eq (selector f) 1)

pub same_either : (bodies : List (List ℕ)) (f : List ℕ) → HasEither 23 bodies bodies f → HasBodies f bodies
same_either bodies f (inl has) = (23, has)
same_either bodies f (inr has) = has

-- while the selector is written both areas stay
pub chosen_first : (e : ℕ) (bodies : List (List ℕ)) (f g : List ℕ) → Torn 14 1 f g → HasFirst e bodies f
    → HasFirst e bodies g
chosen_first e bodies f g torn has = first_torn e 14 1 bodies f g torn (omega arith) (inl (omega arith)) has

pub chosen_second : (e : ℕ) (body f g : List ℕ) → Torn 14 1 f g → HasSecond e body f → HasSecond e body g
chosen_second e body f g torn has = second_torn e 14 1 body f g torn (omega arith) (inl (omega arith))
    (omega (arith, has.below)) has

-- ---- what is written

pub length-written : (at : ℕ) (bytes f : List ℕ) → at ≤ length f → at + length bytes ≤ length (written at bytes f)
length-written at bytes f le = simp (length-append, length-take, length-drop) (omega arith)

pub torn_of : (at : ℕ) (bytes f g : List ℕ) → at ≤ length f → g ≡ written at bytes f → Torn at (length bytes) f g
torn_of at bytes f g le is = subst (λ (x : List ℕ). Torn at (length bytes) f x) (sym is)
    (written_torn at bytes bytes f (omega arith) le)

pub written_at : (at : ℕ) (bytes f g : List ℕ) → at ≤ length f → g ≡ written at bytes f → drop at g ≡ bytes
    ++ drop (at + length bytes) f
written_at at bytes f g le is =
    let rest : List ℕ = drop (at + length bytes) f in
    ap (drop at) (is ∙ append_assoc (take at f) bytes rest)
    ∙ drop_at (take at f) (bytes ++ rest) at (length-take-le at f le)

pub chosen_is : (s : ℕ) (f g : List ℕ) → 14 ≤ length f → IsChosen s f g → selector g ≡ s
chosen_is s f g le is =
    let here : drop 14 g ≡ (s ∷ []) ++ drop 15 f = written_at 14 (s ∷ []) f g le is in
    sym (get_or-drop 14 g 0 0) ∙ ap (λ (l : List ℕ). get_or l 0 0) here

-- a record that was put behind a gate, which was then opened
record_there : (gate : ℕ) (body frame f g h : List ℕ) → frame ≡ frame_of body → length body ≤ longest_first → gate + 1
    ≤ length f
    → IsFramedAt gate frame f g → IsLiftedAt gate g h → HasRecords gate (body ∷ []) h
record_there gate body frame f g h frame_is short le put lifted =
    let rest : List ℕ = drop (gate + 1 + length frame) f in
    let wide : gate ≤ length g = omega (arith, le, (torn_of (gate + 1) frame f g le put).no_shorter) in
    let gate_is : drop gate h ≡ 1 ∷ drop (gate + 1) g = written_at gate (1 ∷ []) g h wide lifted in
    let behind : drop (gate + 1) g ≡ frame ++ rest = written_at (gate + 1) frame f g le put in
    let body_is : frame ++ rest ≡ counted body ++ 0 ∷ rest = ap (λ (x : List ℕ). x ++ rest) frame_is
    ∙ append_assoc (counted body) (0 ∷ []) rest in
    record {
      octet = 0;
      rest = rest;
      octets = gate_is ∙ ap (λ (x : List ℕ). 1 ∷ x) (behind ∙ body_is)
          ∙ ap (λ (x : List ℕ). x ++ 0 ∷ rest) (sym (append-nil (open_record body)));
      closed = λ z. cc;
      each = (short, tt);
    }

-- ---- parts 1 and 2

pub keeps_first_then : (e : ℕ) (f g h : List ℕ) → KeepsFirst e f g → KeepsFirst e g h → KeepsFirst e f h
keeps_first_then e f g h p q = (q.0 ∙ p.0, λ bodies has. q.1 bodies (p.1 bodies has))

keeps_first_torn : (e at n : ℕ) (f g : List ℕ) → Torn at n f g → 15 ≤ at → (at + n ≤ 23) ⊎ (e ≤ at) → KeepsFirst e f g
keeps_first_torn e at n f g torn from apart =
    (selector_torn at n f g torn from, λ bodies has. first_torn e at n bodies f g torn (omega (arith, from)) apart has)

pub keeps_pointed : (e : ℕ) (f g : List ℕ) → 23 < e → IsTornAt e f g → KeepsFirst e f g
keeps_pointed e f g some torn =
    keeps_first_then e f torn.0 g (keeps_first_torn e 15 8 f torn.0 torn.1 (omega arith) (inl (omega arith)))
    (keeps_first_torn e e 1 torn.0 g torn.2 (omega (arith, some)) (inr (omega arith)))

pub keeps_behind : (e at n : ℕ) (f g : List ℕ) → 23 < e → e ≤ at → Torn at n f g → KeepsFirst e f g
keeps_behind e at n f g some le torn = keeps_first_torn e at n f g torn (omega (arith, some, le)) (inr le)

pub pointed_torn : (e : ℕ) (f g : List ℕ) → 23 < e → e ≤ length f → IsPointedAt e f g → IsTornAt e f g
pointed_torn e f g some le is =
    let mid : List ℕ = written 15 (to_be_bytes w64 e) f in
    let one : Torn 15 8 f mid = torn_of 15 (to_be_bytes w64 e) f mid (omega (arith, some, le)) refl in
    (mid, one, torn_of e (0 ∷ []) mid g (omega (arith, le, one.no_shorter)) is)

pub pointed_longer : (e : ℕ) (f g : List ℕ) → 23 < e → e ≤ length f → IsPointedAt e f g → e + 1 ≤ length g
pointed_longer e f g some le is =
    let mid : List ℕ = written 15 (to_be_bytes w64 e) f in
    let one : Torn 15 8 f mid = torn_of 15 (to_be_bytes w64 e) f mid (omega (arith, some, le)) refl in
    omega (arith, length-written e (0 ∷ []) mid (omega (arith, le, one.no_shorter)), ap length is)

pub second_put : (e : ℕ) (frame f g h k : List ℕ) → 23 < e → e < 2 ^ 64 → e ≤ length f → IsPointedAt e f g
    → IsFramedAt e frame g h
    → IsLiftedAt e h k → PutsSecond e frame f k
second_put e frame f g h k some small le pointed put lifted bodies body fits has =
    let mid : List ℕ = written 15 (to_be_bytes w64 e) f in
    let one : Torn 15 8 f mid = torn_of 15 (to_be_bytes w64 e) f mid (omega (arith, some, le)) refl in
    let two : Torn e 1 mid g = torn_of e (0 ∷ []) mid g (omega (arith, le, one.no_shorter)) pointed in
    let wide : e + 1 ≤ length g = pointed_longer e f g some le pointed in
    let three : Torn (e + 1) (length frame) g h = torn_of (e + 1) frame g h wide put in
    let four : Torn e 1 h k = torn_of e (1 ∷ []) h k (omega (arith, wide, three.no_shorter)) lifted in
    let keeps : KeepsFirst e f k =
    keeps_first_then e f h k
    (keeps_first_then e f g h (keeps_pointed e f g some (mid, one, two))
    (keeps_behind e (e + 1) (length frame) g h some (omega arith) three))
    (keeps_behind e e 1 h k some (omega arith) four) in
    let eight : take 8 (drop 15 k) ≡ to_be_bytes w64 e =
    torn_before e 1 15 8 h k four (omega (arith, some))
    ∙ torn_before (e + 1) (length frame) 15 8 g h three (omega (arith, some))
    ∙ torn_before e 1 15 8 mid g two (omega (arith, some))
    ∙ ap (take 8) (written_at 15 (to_be_bytes w64 e) f mid (omega (arith, some, le)) refl)
    ∙ take_at (to_be_bytes w64 e) (drop 23 f) 8 refl in
    let kept = keeps.1 bodies has in (
      keeps.0,
      kept,
      record {
        areas = kept.areas;
        place = ap (from_be_bytes w64) eight ∙ from_be_bytes-to_be_bytes_8 e small;
        stand = record_there e body frame g h k fits.frame_is fits.short wide put lifted;
        below = fits.below;
      },
    )

-- ---- part 4

frame_ends : (e : ℕ) (frame body : List ℕ) → Fits e frame body → 24 + length frame ≤ e
frame_ends e frame body fits = omega (arith, fits.below, ap length fits.frame_is, length-closed body)

pub keeps_second_then : (frame f g h : List ℕ) → KeepsSecond frame f g → KeepsSecond frame g h → KeepsSecond frame f h
keeps_second_then frame f g h p q e body fits has =
    let x = p e body fits has in let y = q e body fits x.1 in (y.0 ∙ x.0, y.1)

keeps_second_torn : (frame : List ℕ) (at n : ℕ) (f g : List ℕ) → Torn at n f g → 23 ≤ at → at + n ≤ 24 + length frame
    → KeepsSecond frame f g
keeps_second_torn frame at n f g torn from upto e body fits has = (
  selector_torn at n f g torn (omega (arith, from)),
  second_torn e at n body f g torn (omega (arith, from)) (inr from) (omega (arith, upto, frame_ends e frame body fits))
      has,
)

pub keeps_gate : (frame f g : List ℕ) → Torn 23 1 f g → KeepsSecond frame f g
keeps_gate frame f g torn = keeps_second_torn frame 23 1 f g torn (omega arith) (omega arith)

pub keeps_frame : (frame f g : List ℕ) → Torn 24 (length frame) f g → KeepsSecond frame f g
keeps_frame frame f g torn = keeps_second_torn frame 24 (length frame) f g torn (omega arith) (omega arith)

pub length-one : (body : List ℕ) → length (records (body ∷ [])) ≡ need_of body
length-one body = omega (arith, length-append (open_record body) [], length-counted body)

pub first_put : (frame f g h k : List ℕ) → 24 ≤ length f → IsShutAt 23 f g → IsFramedAt 23 frame g h → IsLiftedAt 23 h k
    → PutsFirst frame f k
first_put frame f g h k le shut put lifted e body fits has =
    let one : Torn 23 1 f g = torn_of 23 (0 ∷ []) f g (omega (arith, le)) shut in
    let two : Torn 24 (length frame) g h = torn_of 24 frame g h (omega (arith, le, one.no_shorter)) put in
    let three : Torn 23 1 h k = torn_of 23 (1 ∷ []) h k (omega (arith, le, one.no_shorter, two.no_shorter)) lifted in
    let keeps : KeepsSecond frame f k =
    keeps_second_then frame f h k (keeps_second_then frame f g h (keeps_gate frame f g one) (keeps_frame frame g h two))
    (keeps_gate frame h k three) in
    let kept = keeps e body fits has in (
      kept.0,
      record {
        areas = kept.1.areas;
        stand = record_there 23 body frame g h k fits.frame_is fits.short (omega (arith, le, one.no_shorter)) put
            lifted;
        ends = omega (arith, fits.below, length-one body);
      },
      kept.1,
    )

pub longer_put : (frame f g h k : List ℕ) → 24 ≤ length f → IsShutAt 23 f g → IsFramedAt 23 frame g h
    → IsLiftedAt 23 h k
    → 24 + length frame ≤ length k
longer_put frame f g h k le shut put lifted =
    let one : Torn 23 1 f g = torn_of 23 (0 ∷ []) f g (omega (arith, le)) shut in
    let wide : 24 ≤ length g = omega (arith, le, one.no_shorter) in
    let two : Torn 24 (length frame) g h = torn_of 24 frame g h wide put in
    let three : Torn 23 1 h k = torn_of 23 (1 ∷ []) h k (omega (arith, wide, two.no_shorter)) lifted in
    omega (arith, length-written 24 frame g wide, ap length put, three.no_shorter)

-- ---- parts 5 and 6

-- while the selector is written, with the record in both areas
pub keeps_both : (frame f g : List ℕ) → Torn 14 1 f g → KeepsBoth frame f g
keeps_both frame f g torn e body fits one two =
    same_either (body ∷ []) g (either e (body ∷ []) body g (chosen_first e (body ∷ []) f g torn one)
    (chosen_second e body f g torn two))

not_one : (n : ℕ) → n ≡ 0 → n ≡ 1 → ⊥
not_one n e d = absurd (omega (arith, e, d))

-- and while the disk is cut behind it
pub keeps_cut : (frame f g h : List ℕ) → 14 ≤ length f → IsChosen 0 f g → CutShort (24 + length frame) g h
    → LeavesFirst frame f h
keeps_cut frame f g h le chosen short e body fits one two =
    let torn : Torn 14 1 f g = torn_of 14 (0 ∷ []) f g le chosen in
    let size : 24 + length frame ≡ 24 + length (records (body ∷ [])) =
    omega (arith, ap length fits.frame_is, length-closed body, length-one body) in
    let kept = first_cut (24 + length frame) e (body ∷ []) g h short size (chosen_first e (body ∷ []) f g torn one) in
    bodies_first e (body ∷ []) h kept.1 (λ is. not_one (selector h) (kept.0 ∙ chosen_is 0 f g le chosen) is)

pub cut_short : (size : ℕ) (g h : List ℕ) → IsCutTo size g h → CutShort size g h
cut_short size g h is = subst (λ (x : List ℕ). CutShort size g x) (sym is) (CutShort-cut size g)
