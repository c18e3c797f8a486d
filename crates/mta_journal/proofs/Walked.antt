-- One record more that is read.
use Rattle.std.proofs.Common.{inl, ◌≡◌, ℕ, ◌+◌, ◌≤◌, ◌<◌, List, [], ◌∷◌, ◌++◌, length, take, drop, get_or, refl, sym}
use Rattle.std.proofs.Common.{ap, subst, ◌∙◌, append_assoc, arith}
use Rattle.std.proofs.lemmas.List.{drop_at, drop-drop, append-nil}
use Rattle.mta_edge.specs.Views.{DiskView}
use Rattle.mta_edge.specs.Crashes.{Crash, Stays}
use Rattle.mta_disk.specs.Records.{counted}
use Rattle.mta_disk.proofs.Writing.{length-counted}
use Rattle.mta_journal.specs.Bodies.{longest_body, longest_first, open_record, records, AreWithin, most_behind}
use Rattle.mta_journal.specs.Bodies.{HasRecords}
use Rattle.mta_journal.specs.Faults.{FaultyAt, IsFaulty}
use Rattle.mta_journal.specs.Opening.{StandsAt, ClosedAt, BrokenAt, HasNotOne}
use Rattle.mta_journal.proofs.Appended.{records-more, length-records-more, AreWithin-more}
use Rattle.mta_journal.proofs.Unique.{counted_split, not_past_one}

most_after : (most : ℕ) (bodies : List (List ℕ)) (body : List ℕ) → most_behind most (bodies ++ body ∷ []) ≡ longest_body
most_after most [] body = refl
most_after most (b ∷ bodies) body = most_after longest_body bodies body

-- what has been read when these records stand in front of a gate
pub record Read (begin gate most : ℕ) (bodies : List (List ℕ)) : Type 0 where
  pub place : gate ≡ begin + length (records bodies)
  pub each : AreWithin longest_first bodies
  pub most_is : most ≡ most_behind longest_first bodies

pub read_none : (begin : ℕ) (bodies : List (List ℕ)) → bodies ≡ [] → Read begin begin longest_first bodies
read_none begin bodies e =
    subst (Read begin begin longest_first) (sym e) (record { place = omega arith; each = tt; most_is = refl })

pub read_next : (begin gate most n : ℕ) (bodies next : List (List ℕ)) (body : List ℕ) → Read begin gate most bodies
    → next ≡ bodies ++ body ∷ []
    → n ≡ length body → length body ≤ most → Read begin (gate + (n + 5)) longest_body next
read_next begin gate most n bodies next body so_far e n_is short =
    subst (Read begin (gate + (n + 5)) longest_body) (sym e) (record {
      place = omega (arith, so_far.place, length-records-more bodies body, n_is);
      each = AreWithin-more longest_first bodies body so_far.each (omega (arith, short, so_far.most_is));
      most_is = sym (most_after longest_first bodies body);
    })

pub starts : (begin : ℕ) (bodies : List (List ℕ)) (f : List ℕ) → bodies ≡ [] → drop begin f ≡ records bodies
    ++ drop begin f
starts begin bodies f e = ap (λ (b : List (List ℕ)). records b ++ drop begin f) (sym e)

module _ (begin gate most : ℕ) (bodies : List (List ℕ)) (f : List ℕ) (so_far : Read begin gate most bodies)
    (before : drop begin f ≡ records bodies ++ drop gate f) where
  pub ends : ClosedAt gate f → HasRecords begin bodies f
  ends here = record {
    octet = here.octet;
    rest = here.rest;
    octets = before ∙ ap (λ (x : List ℕ). records bodies ++ x) here.octets;
    closed = here.closed;
    each = so_far.each;
  }

  pub breaks : BrokenAt most gate f → FaultyAt begin f gate
  breaks here = record {
    bodies = bodies;
    rest = here.rest;
    octets = before ∙ ap (λ (x : List ℕ). records bodies ++ x) here.octets;
    each = so_far.each;
    place = so_far.place;
    faulty = subst (λ (m : ℕ). IsFaulty m here.rest) so_far.most_is here.faulty;
  }

  pub goes_past : (body : List ℕ) (next : List (List ℕ)) (n : ℕ) → next ≡ bodies ++ body ∷ [] → n ≡ length body
      → StandsAt most gate body f
      → drop begin f ≡ records next ++ drop (gate + (n + 5)) f
  goes_past body next n e n_is here =
      let size : length (open_record body) ≡ n + 5 = omega (arith, n_is, length-counted body) in
      let rest : drop (gate + (n + 5)) f ≡ here.rest =
      sym (drop-drop (n + 5) gate f) ∙ ap (drop (n + 5)) here.octets
      ∙ drop_at (open_record body) here.rest (n + 5) size in
      before ∙ ap (λ (x : List ℕ). records bodies ++ x)
      (here.octets ∙ ap (λ (x : List ℕ). open_record body ++ x) (sym rest))
      ∙ sym (append_assoc (records bodies) (open_record body) (drop (gate + (n + 5)) f))
      ∙ ap (λ (x : List ℕ). x ++ drop (gate + (n + 5)) f) (sym (records-more bodies body) ∙ ap records (sym e))

-- ---- one record

one_octets : (gate : ℕ) (body f : List ℕ) → (has : HasRecords gate (body ∷ []) f) → drop gate f ≡ 1
    ∷ (counted body ++ has.octet ∷ has.rest)
one_octets gate body f has = has.octets ∙ ap (λ (x : List ℕ). x ++ has.octet ∷ has.rest) (append-nil (open_record body))

pub not_closed : (gate : ℕ) (f : List ℕ) → ClosedAt gate f → HasNotOne gate f
not_closed gate f here body has = here.closed
    (ap (λ (l : List ℕ). get_or l 0 0) (sym here.octets ∙ one_octets gate body f has))

pub not_broken : (gate : ℕ) (f : List ℕ) → BrokenAt longest_first gate f → HasNotOne gate f
not_broken gate f here body has =
    not_past_one body (has.octet ∷ has.rest) here.rest has.each.0 (omega arith)
    (ap (drop 1) (sym here.octets ∙ one_octets gate body f has)) here.faulty

pub not_more : (gate : ℕ) (body next f : List ℕ) → StandsAt longest_first gate body f → next
    ≡ take 1 (drop (gate + 5 + length body) f)
    → get_or next 0 0 ≡ 1 → HasNotOne gate f
not_more gate body next f here next_is one_is other has =
    let size : length (open_record body) ≡ length body + 5 = omega (arith, length-counted body) in
    let there : gate + (length body + 5) ≡ gate + 5 + length body = omega arith in
    let rest : drop (gate + 5 + length body) f ≡ here.rest =
    ap (λ (n : ℕ). drop n f) (sym there) ∙ sym (drop-drop (length body + 5) gate f)
    ∙ ap (drop (length body + 5)) here.octets ∙ drop_at (open_record body) here.rest (length body + 5) size in
    let same = counted_split body other here.rest (has.octet ∷ has.rest) here.short has.each.0
    (ap (drop 1) (sym here.octets ∙ one_octets gate other f has)) in
    has.closed (ap (λ (l : List ℕ). get_or (take 1 l) 0 0) (sym same.1 ∙ sym rest)
    ∙ ap (λ (l : List ℕ). get_or l 0 0) (sym next_is) ∙ one_is)

first_of : (tail : List ℕ) → 0 < length tail → tail ≡ get_or (take 1 tail) 0 0 ∷ drop 1 tail
first_of [] some = absurd (omega (arith, some))
first_of (x ∷ tail) some = refl

pub is_one : (gate : ℕ) (body next f : List ℕ) → StandsAt longest_first gate body f → next
    ≡ take 1 (drop (gate + 5 + length body) f)
    → (get_or next 0 0 ≡ 1 → ⊥) → HasRecords gate (body ∷ []) f
is_one gate body next f here next_is closed =
    let size : length (open_record body) ≡ length body + 5 = omega (arith, length-counted body) in
    let there : gate + (length body + 5) ≡ gate + 5 + length body = omega arith in
    let rest : drop (gate + 5 + length body) f ≡ here.rest =
    ap (λ (n : ℕ). drop n f) (sym there) ∙ sym (drop-drop (length body + 5) gate f)
    ∙ ap (drop (length body + 5)) here.octets ∙ drop_at (open_record body) here.rest (length body + 5) size in
    let octet : get_or next 0 0 ≡ get_or (take 1 here.rest) 0 0 =
    ap (λ (l : List ℕ). get_or l 0 0) (next_is ∙ ap (take 1) rest) in
    record {
      octet = get_or (take 1 here.rest) 0 0;
      rest = drop 1 here.rest;
      octets = here.octets ∙ ap (λ (x : List ℕ). open_record body ++ x) (first_of here.rest here.more)
          ∙ ap (λ (x : List ℕ). x ++ get_or (take 1 here.rest) 0 0 ∷ drop 1 here.rest)
          (sym (append-nil (open_record body)));
      closed = λ e. closed (octet ∙ e);
      each = (here.short, tt);
    }

pub Stays-none : {D : Type 0} (model : DiskView D) (d : D) → Crash model Stays d d
Stays-none model d = record {
  later = omega arith;
  image = λ g may. (g, may, refl);
  since = λ t g le left. inl left;
  kept = λ t g le left. left;
}
