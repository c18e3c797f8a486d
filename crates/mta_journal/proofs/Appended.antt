-- What the two writes of an append leave, and what a crash leaves of them.
use Rattle.std.proofs.Common.{inl, inr, ⊎_elim, ◌≡◌, ◌≢◌, ℕ, ◌+◌, ◌≤◌, ◌<◌, List, [], ◌∷◌, ◌++◌, length, take, drop}
use Rattle.std.proofs.Common.{get_or, refl, sym, ap, subst, ◌∙◌, append_assoc, arith}
use Rattle.std.specs.Int.{w32, from_be_bytes}
use Rattle.std.proofs.lemmas.Bool.{cases_eq}
use Rattle.std.proofs.lemmas.List.{take_at, take-take, drop-drop, drop-take, drop_more, flat_map_more, length-append}
use Rattle.std.proofs.lemmas.List.{take-append-drop, get_or-take}
use Rattle.std.proofs.Math.Seq.{take-add}
use Rattle.mta_edge.specs.Outside.{Torn}
use Rattle.mta_disk.specs.Records.{counted, frame_of, IsFramedAt, IsLiftedAt}
use Rattle.mta_disk.proofs.Writing.{length-counted}
use Rattle.mta_journal.specs.Bodies.{magic, mark, longest_body, longest_first, open_record, records, need_of, AreWithin}
use Rattle.mta_journal.specs.Bodies.{most_behind, HasRecords, HasAreas, IsCurrent, alone, first, second, HasBodiesAt}
use Rattle.mta_journal.specs.Bodies.{HasOrOneMore}
use Rattle.mta_journal.specs.Appending.{CanFollow, IsShortEnough}
use Rattle.mta_journal.proofs.Unique.{counted_length, inside}
use Rattle.mta_journal.proofs.Stages.{same_before, records_kept, written_at, torn_of, length-written}

pub records-more : (bodies : List (List ℕ)) (body : List ℕ) → records (bodies ++ body ∷ []) ≡ records bodies
    ++ open_record body
records-more bodies body = sym (flat_map_more open_record [] bodies body)

pub length-records-more : (bodies : List (List ℕ)) (body : List ℕ) → length (records (bodies ++ body ∷ []))
    ≡ length (records bodies) + length body + 5
length-records-more bodies body = ap length (records-more bodies body)
    ∙ length-append (records bodies) (open_record body) ∙ (let e = length-counted body in omega (arith, e))

pub AreWithin-more : (most : ℕ) (bodies : List (List ℕ)) (body : List ℕ) → AreWithin most bodies → length body
    ≤ most_behind most bodies
    → AreWithin most (bodies ++ body ∷ [])
AreWithin-more most [] body each short = (short, tt)
AreWithin-more most (b ∷ bodies) body each short = (each.0, AreWithin-more longest_body bodies body each.1 short)

most_at_least : (most : ℕ) (bodies : List (List ℕ)) → longest_body ≤ most → longest_body ≤ most_behind most bodies
most_at_least most [] le = le
most_at_least most (b ∷ bodies) le = most_at_least longest_body bodies (omega arith)

most_first : (bodies : List (List ℕ)) → length (records bodies) ≡ 0 → most_behind longest_first bodies ≡ longest_first
most_first [] none = refl
most_first (b ∷ bodies) none = absurd (omega (arith, none, length-append (open_record b) (records bodies)))

pub short_enough : (gate size : ℕ) (bodies : List (List ℕ)) (body : List ℕ) → IsShortEnough gate size body
    → size ≡ gate + length (records bodies) + 1 → length body ≤ most_behind longest_first bodies
short_enough gate size bodies body (inl short) size_is = let le =
    most_at_least longest_first bodies (omega arith) in omega (arith, short, le)
short_enough gate size bodies body (inr long) size_is =
    let is = most_first bodies (omega (arith, size_is, long.1)) in omega (arith, long.0, is)

-- what begins the records of a disk of two areas
abbrev head : List ℕ
head = 1 ∷ 0 ∷ 0 ∷ 0 ∷ 10 ∷ 255 ∷ []

pub mark_is : magic ++ head ≡ mark
unfolding magic mark
mark_is = refl

pub mark_head : drop 8 mark ≡ head
unfolding mark
mark_head = refl

-- Where the first of these records stands behind gate 8 in both, the one has two areas where the other has.
areas_back : (bodies : List (List ℕ)) (f g : List ℕ) → 0 < length (records bodies) → HasRecords 8 bodies f → take 8 f
    ≡ magic
    → take (length (records bodies)) (drop 8 g) ≡ records bodies → HasAreas g → HasAreas f
areas_back [] f g some has begins same areas = absurd (omega (arith, some))
areas_back (b ∷ bodies) f g some has begins same areas =
    let all : List ℕ = records (b ∷ bodies) in
    let more : List ℕ = records bodies ++ drop (length all) (drop 8 g) in
    let six : take 6 (drop 8 g) ≡ head = sym (drop-take 8 6 g) ∙ ap (drop 8) areas.front ∙ mark_head in
    let whole : drop 8 g ≡ 1 ∷ (counted b ++ more) =
    sym (take-append-drop (length all) (drop 8 g)) ∙ ap (λ (x : List ℕ). x ++ drop (length all) (drop 8 g)) same
    ∙ append_assoc (open_record b) (records bodies) (drop (length all) (drop 8 g)) in
    let six_too : take 6 (1 ∷ (counted b ++ more)) ≡ head = ap (take 6) (sym whole) ∙ six in
    let four : take 4 (counted b ++ more) ≡ 0 ∷ 0 ∷ 0 ∷ 10 ∷ [] =
    sym (take-take 4 5 (counted b ++ more) (omega arith)) ∙ ap (λ (x : List ℕ). take 4 (drop 1 x)) six_too in
    let ten : length b ≡ 10 = sym (counted_length b more has.each.0) ∙ ap (from_be_bytes w32) four in
    let long : 15 ≤ length all = omega (arith, ten, length-counted b, length-append (open_record b) (records bodies)) in
    let in_f : take (length all) (drop 8 f) ≡ all = ap (take (length all)) has.octets
    ∙ take_at all (has.octet ∷ has.rest) (length all) refl in
    let six_f : take 6 (drop 8 f) ≡ head =
    sym (take-take 6 (length all) (drop 8 f) (omega (arith, long))) ∙ ap (take 6) (in_f ∙ sym same)
    ∙ take-take 6 (length all) (drop 8 g) (omega (arith, long)) ∙ six in
    record {
      front = take-add 8 6 f ∙ ap (λ (x : List ℕ). x ++ take 6 (drop 8 f)) begins
          ∙ ap (λ (x : List ℕ). magic ++ x) six_f ∙ mark_is;
      inside = omega (arith, long, inside 8 (b ∷ bodies) f has);
    }

module _ (begin gate : ℕ) (bodies : List (List ℕ)) (body : List ℕ) (can : CanFollow begin gate bodies body) where
  -- in what begins alike, the area that was current still is
  current_more : (others : List (List ℕ)) (f g : List ℕ) → take gate g ≡ take gate f → HasRecords begin bodies f
      → IsCurrent begin bodies f
      → HasRecords begin others g → IsCurrent begin others g
  current_more others f g same has (alone begins lone is) stand =
      let here : HasRecords 8 bodies f = subst (λ (n : ℕ). HasRecords n bodies f) is has in
      let k : ℕ = length (records bodies) in
      let in_f : take k (drop 8 f) ≡ records bodies = ap (take k) here.octets
      ∙ take_at (records bodies) (here.octet ∷ here.rest) k refl in
      let past : 8 < gate = can.some is in
      alone (same_before gate 0 8 f g same (omega (arith, past)) ∙ begins)
      (λ areas. lone (areas_back bodies f g (omega (arith, can.place, past, is)) here begins
      (same_before gate 8 k f g same (omega (arith, can.place, is)) ∙ in_f) areas)) is
  current_more others f g same has (first areas other is) stand =
      let past : 23 ≤ gate = omega (arith, can.place, is) in
      first (record {
        front = same_before gate 0 14 f g same (omega (arith, past)) ∙ areas.front;
        inside = omega (arith, inside begin others g stand, is);
      })
      (λ one. other (sym (get_or-take 15 f 14 0 (omega arith))
      ∙ ap (λ (l : List ℕ). get_or l 14 0) (sym (same_before gate 0 15 f g same (omega (arith, past))))
      ∙ get_or-take 15 g 14 0 (omega arith) ∙ one)) is
  current_more others f g same has (second areas chosen is one only below) stand =
      absurd (⊎_elim {C = ⊥} (λ (e : begin ≡ 8). omega (arith, e, below)) (λ (e : begin ≡ 23). omega (arith, e, below))
      can.plain)

  -- what is written behind the closed gate leaves the bodies as they were
  pub behind_gate : (n : ℕ) (f g : List ℕ) → HasBodiesAt begin bodies f → Torn (gate + 1) n f g
      → HasBodiesAt begin bodies g
  behind_gate n f g has torn =
      let k : ℕ = length (records bodies) + 1 in
      let stand : HasRecords begin bodies g =
      records_kept begin k bodies f g (omega arith)
      (same_before (gate + 1) begin k f g torn.before (omega (arith, can.place))) has.stand in
      let same : take gate g ≡ take gate f = same_before (gate + 1) 0 gate f g torn.before (omega arith) in
      record { current = current_more bodies f g same has.stand has.current stand; stand = stand }

  -- from the first gate on stand the bodies, then a gate and what is behind it
  from_first : (octet : ℕ) (rest f h : List ℕ) → HasRecords begin bodies f → take gate h ≡ take gate f → drop gate h
      ≡ octet ∷ (counted body ++ 0 ∷ rest)
      → drop begin h ≡ records bodies ++ octet ∷ (counted body ++ 0 ∷ rest)
  from_first octet rest f h has same behind =
      let k : ℕ = length (records bodies) in
      let front : take k (drop begin h) ≡ records bodies =
      same_before gate begin k f h same (omega (arith, can.place)) ∙ ap (take k) has.octets
      ∙ take_at (records bodies) (has.octet ∷ has.rest) k refl in
      let there : drop k (drop begin h) ≡ octet ∷ (counted body ++ 0 ∷ rest) =
      drop-drop k begin h ∙ ap (λ (n : ℕ). drop n h) (sym can.place) ∙ behind in
      sym (take-append-drop k (drop begin h)) ∙ ap (λ (x : List ℕ). x ++ drop k (drop begin h)) front
      ∙ ap (λ (x : List ℕ). records bodies ++ x) there

  -- with an open gate before it the record counts
  opened : (rest f h : List ℕ) → HasBodiesAt begin bodies f → take gate h ≡ take gate f → drop gate h ≡ 1
      ∷ (counted body ++ 0 ∷ rest)
      → HasBodiesAt begin (bodies ++ body ∷ []) h
  opened rest f h has same behind =
      let stand : HasRecords begin (bodies ++ body ∷ []) h = record {
        octet = 0;
        rest = rest;
        octets = from_first 1 rest f h has.stand same behind
            ∙ sym (append_assoc (records bodies) (open_record body) (0 ∷ rest))
            ∙ ap (λ (x : List ℕ). x ++ 0 ∷ rest) (sym (records-more bodies body));
        closed = λ z. cc;
        each = AreWithin-more longest_first bodies body has.stand.each can.short;
      } in
      record { current = current_more (bodies ++ body ∷ []) f h same has.stand has.current stand; stand = stand }

  -- and with a closed one it does not
  gated : (octet : ℕ) (rest f h : List ℕ) → HasBodiesAt begin bodies f → take gate h ≡ take gate f → drop gate h ≡ octet
      ∷ (counted body ++ 0 ∷ rest)
      → HasOrOneMore begin bodies body h
  gated octet rest f h has same behind = ⊎_elim {C = HasOrOneMore begin bodies body h}
      (λ (one : octet ≡ 1). inr (opened rest f h has same
      (behind ∙ ap (λ (n : ℕ). n ∷ (counted body ++ 0 ∷ rest)) one)))
      (λ (closed : octet ≢ 1).
      let stand : HasRecords begin bodies h = record {
        octet = octet;
        rest = counted body ++ 0 ∷ rest;
        octets = from_first octet rest f h has.stand same behind;
        closed = closed;
        each = has.stand.each;
      } in
      inl (record { current = current_more bodies f h same has.stand has.current stand; stand = stand }))
      (cases_eq octet 1)

  -- what stands behind the standing gate then
  staged : (f g : List ℕ) → gate + 1 ≤ length f → IsFramedAt gate (frame_of body) f g
      → drop (gate + 1) g ≡ counted body ++ 0 ∷ drop (gate + 1 + length (frame_of body)) f
  staged f g le put = written_at (gate + 1) (frame_of body) f g le put
      ∙ append_assoc (counted body) (0 ∷ []) (drop (gate + 1 + length (frame_of body)) f)

  -- a crash while the gate is lifted leaves the record with an open gate or a closed one
  pub at_gate : (f g h : List ℕ) → gate + 1 ≤ length f → HasBodiesAt begin bodies f
      → IsFramedAt gate (frame_of body) f g → Torn gate 1 g h → HasOrOneMore begin bodies body h
  at_gate f g h le has put torn =
      let first_torn = torn_of (gate + 1) (frame_of body) f g le put in
      let rest : List ℕ = drop (gate + 1 + length (frame_of body)) f in
      let octet : ℕ = get_or h gate 0 in
      let same : take gate h ≡ take gate f = torn.before
      ∙ same_before (gate + 1) 0 gate f g first_torn.before (omega arith) in
      gated octet rest f h has same
      (drop_more h gate 0 (omega (arith, le, first_torn.no_shorter, torn.no_shorter))
      ∙ ap (λ (x : List ℕ). octet ∷ x) (torn.after ∙ staged f g le put))

  -- both writes put the body behind the others
  pub appended : (f g h : List ℕ) → gate + 1 ≤ length f → HasBodiesAt begin bodies f
      → IsFramedAt gate (frame_of body) f g → IsLiftedAt gate g h → HasBodiesAt begin (bodies ++ body ∷ []) h
  appended f g h le has put lifted =
      let first_torn = torn_of (gate + 1) (frame_of body) f g le put in
      let wide : gate ≤ length g = omega (arith, le, first_torn.no_shorter) in
      let torn = torn_of gate (1 ∷ []) g h wide lifted in
      let same : take gate h ≡ take gate f = torn.before
      ∙ same_before (gate + 1) 0 gate f g first_torn.before (omega arith) in
      opened (drop (gate + 1 + length (frame_of body)) f) f h has same
      (written_at gate (1 ∷ []) g h wide lifted ∙ ap (λ (x : List ℕ). 1 ∷ x) (staged f g le put))

-- both writes make the disk long enough for the record and the next gate
pub long_enough : (gate : ℕ) (body f g h : List ℕ) → gate + 1 ≤ length f → IsFramedAt gate (frame_of body) f g
    → IsLiftedAt gate g h → gate + need_of body < length h
long_enough gate body f g h le put lifted =
    let size = length-written (gate + 1) (frame_of body) f le in
    let first_torn = torn_of (gate + 1) (frame_of body) f g le put in
    let torn = torn_of gate (1 ∷ []) g h (omega (arith, le, first_torn.no_shorter)) lifted in
    omega (arith, size, ap length put, torn.no_shorter, length-append (counted body) (0 ∷ []), length-counted body)
