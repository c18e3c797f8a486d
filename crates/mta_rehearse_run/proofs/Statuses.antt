-- The status for which the words and the texts call is the one that is answered, but for what fails.
use Rattle.std.proofs.Common.{◌≡◌, ℕ, ◌+◌, List, Option, Some, None, Result, Ok, Err, refl, sym, ap, subst, ◌∙◌, ◌⊎◌}
use Rattle.std.proofs.Common.{inl, inr}
use Rattle.mta_tables.specs.declared.fault.LineKind.{LineKind}
use Rattle.mta_tables.specs.Reading.{Bad, bad}
use Rattle.mta_tables.specs.Tables.{TablesValue}
use Rattle.mta_rehearse_run.specs.declared.asked.Asked.{Asked}
use Rattle.mta_rehearse_run.specs.declared.rehearsal.Rehearsal.{Rehearsal}
use Rattle.mta_rehearse_run.specs.declared.stop.Stop.{Stop}
use Rattle.mta_rehearse_run.specs.declared.stop.Stop.TheVariants as Stops
use Rattle.mta_rehearse_run.specs.declared.walked.Walk.{Walk}
use Rattle.mta_rehearse_run.specs.Agents.{agent_named, AreApart, IsFirstTwice}
use Rattle.mta_rehearse_run.specs.Network.{network_of, AreTablesIn, AreRead}
use Rattle.mta_rehearse_run.specs.Ran.{CallsFor, usage, bad_line, twice, no_agent, walked}
use Rattle.mta_rehearse_run.specs.Rehearsal.{ShowsAsked, LacksAgent, IsRehearsed, Outcome, unasked, unread, answered}
use Rattle.mta_rehearse_run.specs.Rehearsal.{short as no_memory}
use Rattle.mta_rehearse_run.specs.Stops.{status_of as status_of_stop}
use Rattle.mta_rehearse_run.specs.Turns.{turn_of}
use Rattle.mta_rehearse_run.specs.Walks.{IsWalk}
use Rattle.mta_rehearse_run.specs.WalkText.{status_of}
use Rattle.mta_rehearse_run.proofs.Names.{equal}
use Rattle.mta_rehearse_run.proofs.Paths.{one_walk}

-- ---- values that are one

pub same_ok : (xs ys : List TablesValue) (r : Result (List TablesValue) Bad) → r ≡ Ok xs → r ≡ Ok ys → xs ≡ ys
same_ok xs ys r e f = cc

pub ok_bad : (xs : List TablesValue) (n : ℕ) (kind : LineKind) (r : Result (List TablesValue) Bad) → r ≡ Ok xs
    → r ≡ bad n kind → ⊥
ok_bad xs n kind r e f = absurd cc

pub same_asked : (a b : Asked) (asked : Option Asked) → asked ≡ Some a → asked ≡ Some b → a ≡ b
same_asked a b asked e f = cc

pub not_asked : (a : Asked) (asked : Option Asked) → asked ≡ Some a → asked ≡ None → ⊥
not_asked a asked e f = absurd cc

same_place : (i j : ℕ) (o : Option ℕ) → o ≡ Some i → o ≡ Some j → i ≡ j
same_place i j o e f = cc

pub no_place : (i : ℕ) (o : Option ℕ) → o ≡ Some i → o ≡ None → ⊥
no_place i o e f = absurd cc

pub named_same : (xs ys : List TablesValue) (a b : Asked) (o : Option ℕ) → ys ≡ xs → b ≡ a → agent_named ys b.agent ≡ o
    → agent_named xs a.agent ≡ o
named_same xs ys a b o e f h =
    subst (λ (d : Asked). agent_named xs d.agent ≡ o) f
    (subst (λ (zs : List TablesValue). agent_named zs b.agent ≡ o) e h)

walk_same : (xs ys : List TablesValue) (a b : Asked) (i j : ℕ) (w : Walk) → ys ≡ xs → b ≡ a → j ≡ i
    → IsWalk ys j b.name w → IsWalk xs i a.name w
walk_same xs ys a b i j w e f g k =
    subst (λ (s : ℕ). IsWalk xs s a.name w) g
    (subst (λ (d : Asked). IsWalk xs j d.name w) f (subst (λ (zs : List TablesValue). IsWalk zs j b.name w) e k))

pub twice_same : (xs ys : List TablesValue) (n : ℕ) → ys ≡ xs → IsFirstTwice ys n → IsFirstTwice xs n
twice_same xs ys n e h = subst (λ (zs : List TablesValue). IsFirstTwice zs n) e h

pub not_apart : (xs : List TablesValue) (n : ℕ) → AreApart xs → IsFirstTwice xs n → ⊥
not_apart xs n apart h = apart h.place h.twice

one_twice : (xs : List TablesValue) (m n : ℕ) → IsFirstTwice xs m → IsFirstTwice xs n → m ≡ n
one_twice xs m n h k =
    let same = equal h.place k.place (λ l. k.none_before h.place l h.twice) (λ l. h.none_before k.place l k.twice) in
    h.number_is ∙ ap (λ (i : ℕ). i + 1) same ∙ sym k.number_is

-- ---- what comes of the words and the texts

-- the status that is wanted is that of the stop; or memory ran out, or the source failed
abbrev pub Stopped : (fails : Type 0) → ℕ → Stop → Type 0
Stopped fails wanted stop =
    (wanted ≡ status_of_stop stop) ⊎ (stop ≡ Stops.Memory) ⊎ ((stop ≡ Stops.Source) × fails)

module _ (told : Option (List ℕ)) (fails : Type 0) (asked : Option Asked) (c : List ℕ) (there : told ≡ Some c) where
  pub read_in : (xs : List TablesValue) → AreTablesIn told xs → network_of c ≡ Ok xs
  read_in xs h = subst (λ (o : List ℕ). network_of o ≡ Ok xs) (h.told_is c there) h.read

  shown : (r : Rehearsal) (a : Asked) (xs : List TablesValue) → asked ≡ Some a → network_of c ≡ Ok xs
      → ShowsAsked xs a r → (wanted : ℕ) → CallsFor asked c wanted → r.status ≡ wanted
  shown r a xs is read s wanted (usage e) = absurd (not_asked a asked is e)
  shown r a xs is read s wanted (bad_line b n kind e f) = absurd (ok_bad xs n kind (network_of c) read f)
  shown r a xs is read s wanted (twice b ys n e f h) =
      absurd (not_apart xs n s.apart (twice_same xs ys n (same_ok ys xs (network_of c) f read) h))
  shown r a xs is read s wanted (no_agent b ys e f h none) =
      let same = same_ok ys xs (network_of c) f read in
      absurd (no_place s.start (agent_named xs a.agent) s.named
      (named_same xs ys a b None same (same_asked b a asked e is) none))
  shown r a xs is read s wanted (walked b ys start w e f h named k) =
      let same = same_ok ys xs (network_of c) f read in
      let one = same_asked b a asked e is in
      let place = same_place start s.start (agent_named xs a.agent)
      (named_same xs ys a b (Some start) same one named) s.named in
      let other = walk_same xs ys a b s.start start w same one place k in
      let ends = one_walk (turn_of xs a.name) s.start s.shows.walk.agents w.agents s.shows.walk.end w.end
      s.shows.walked other in
      s.shows.status_is ∙ ap status_of ends.1

  pub shown_status : (r : Rehearsal) → Outcome told fails asked (Ok r) → (wanted : ℕ) → CallsFor asked c wanted
      → r.status ≡ wanted
  shown_status r (answered a xs result is read h) wanted calls = shown r a xs is (read_in xs read) h wanted calls

  usage_called : asked ≡ None → (wanted : ℕ) → CallsFor asked c wanted → wanted ≡ 1
  usage_called none wanted (usage e) = refl
  usage_called none wanted (bad_line b n kind e f) = absurd (not_asked b asked e none)
  usage_called none wanted (twice b ys n e f h) = absurd (not_asked b asked e none)
  usage_called none wanted (no_agent b ys e f h k) = absurd (not_asked b asked e none)
  usage_called none wanted (walked b ys start w e f h named k) = absurd (not_asked b asked e none)

  bad_called : (a : Asked) (n : ℕ) (kind : LineKind) → asked ≡ Some a → network_of c ≡ bad n kind → (wanted : ℕ)
      → CallsFor asked c wanted → wanted ≡ 2
  bad_called a n kind is read wanted (usage e) = absurd (not_asked a asked is e)
  bad_called a n kind is read wanted (bad_line b m other e f) = refl
  bad_called a n kind is read wanted (twice b ys m e f h) = absurd (ok_bad ys n kind (network_of c) f read)
  bad_called a n kind is read wanted (no_agent b ys e f h k) = absurd (ok_bad ys n kind (network_of c) f read)
  bad_called a n kind is read wanted (walked b ys start w e f h named k) =
      absurd (ok_bad ys n kind (network_of c) f read)

  twice_called : (a : Asked) (xs : List TablesValue) (n : ℕ) → asked ≡ Some a → network_of c ≡ Ok xs
      → IsFirstTwice xs n → (wanted : ℕ) → CallsFor asked c wanted → wanted ≡ 19
  twice_called a xs n is read h wanted (usage e) = absurd (not_asked a asked is e)
  twice_called a xs n is read h wanted (bad_line b m kind e f) = absurd (ok_bad xs m kind (network_of c) read f)
  twice_called a xs n is read h wanted (twice b ys m e f k) = refl
  twice_called a xs n is read h wanted (no_agent b ys e f k none) =
      absurd (not_apart ys n k (twice_same ys xs n (same_ok xs ys (network_of c) read f) h))
  twice_called a xs n is read h wanted (walked b ys start w e f k named g) =
      absurd (not_apart ys n k (twice_same ys xs n (same_ok xs ys (network_of c) read f) h))

  lacking_called : (a : Asked) (xs : List TablesValue) (name : List ℕ) → asked ≡ Some a → network_of c ≡ Ok xs
      → LacksAgent xs a name → (wanted : ℕ) → CallsFor asked c wanted → wanted ≡ 10
  lacking_called a xs name is read h wanted (usage e) = absurd (not_asked a asked is e)
  lacking_called a xs name is read h wanted (bad_line b m kind e f) = absurd (ok_bad xs m kind (network_of c) read f)
  lacking_called a xs name is read h wanted (twice b ys m e f k) =
      absurd (not_apart xs m h.apart (twice_same xs ys m (same_ok ys xs (network_of c) f read) k))
  lacking_called a xs name is read h wanted (no_agent b ys e f k none) = refl
  lacking_called a xs name is read h wanted (walked b ys start w e f k named g) =
      let same = same_ok ys xs (network_of c) f read in
      absurd (no_place start (agent_named xs a.agent)
      (named_same xs ys a b (Some start) same (same_asked b a asked e is) named) h.none)

  unread_status : (a : Asked) (stop : Stop) → asked ≡ Some a → AreRead told fails (Err stop) → (wanted : ℕ)
      → CallsFor asked c wanted → Stopped fails wanted stop
  unread_status a Stops.Usage is h wanted calls = absurd h
  unread_status a (Stops.Tables n kind) is h wanted calls = inl (bad_called a n kind is (h c there) wanted calls)
  unread_status a Stops.Memory is h wanted calls = inr (inl refl)
  unread_status a Stops.Source is h wanted calls = inr (inr (refl, h))
  unread_status a (Stops.Twice n) is h wanted calls = absurd h
  unread_status a (Stops.NoAgent name) is h wanted calls = absurd h

  answered_status : (a : Asked) (xs : List TablesValue) (stop : Stop) → asked ≡ Some a → network_of c ≡ Ok xs
      → IsRehearsed xs a (Err stop) → (wanted : ℕ) → CallsFor asked c wanted → Stopped fails wanted stop
  answered_status a xs Stops.Usage is read h wanted calls = absurd h
  answered_status a xs (Stops.Tables n kind) is read h wanted calls = absurd h
  answered_status a xs Stops.Memory is read h wanted calls = inr (inl refl)
  answered_status a xs Stops.Source is read h wanted calls = absurd h
  answered_status a xs (Stops.Twice n) is read h wanted calls = inl (twice_called a xs n is read h wanted calls)
  answered_status a xs (Stops.NoAgent name) is read h wanted calls =
      inl (lacking_called a xs name is read h wanted calls)

  pub stopped_status : (stop : Stop) → Outcome told fails asked (Err stop) → (wanted : ℕ) → CallsFor asked c wanted
      → Stopped fails wanted stop
  stopped_status stop (unasked e) wanted calls = inl (usage_called e wanted calls)
  stopped_status stop (unread a other is h) wanted calls = unread_status a other is h wanted calls
  stopped_status stop (answered a xs result is read h) wanted calls =
      answered_status a xs stop is (read_in xs read) h wanted calls
  stopped_status stop no_memory wanted calls = inr (inl refl)
