-- The grammar of stations, and what is read of a word.
use Rattle.std.proofs.Common.{◌≡◌, ◌∙◌, ℕ, ◌≤◌, Bool, true, false, codes, List, [], ◌∷◌}
use Rattle.std.proofs.Common.{◌++◌, Option, Some, None, refl, sym, ap, subst, inl, inr, cond, append_assoc}
use Rattle.std.proofs.Common.{append-nil}
use Rattle.std.specs.Prelude.{IsTrue, not, ◌==◌}
use Rattle.std.specs.Str.{bytes_eq}
use Rattle.std.proofs.lemmas.Bool.{cases_Bool, and_parts, leb-true, le-leb}
use Rattle.std.proofs.lemmas.Slice.Eq.{bytes_eq-Decides}
use Rattle.mta_tables.specs.Grammar.{HasNo, IsNumber}
use Rattle.mta_tables.specs.Words.{cut_at, is_decimal, is_filled, is_number, is_word, is_word_octet, number_of}
use Rattle.mta_tables.proofs.Cuttings.{cut_made, cut_back, cut_clean, none_of, rejoined}
use Rattle.mta_words.specs.declared.station.StationWord.{StationWord}
use Rattle.mta_words.specs.declared.station.StationWord.TheVariants as Station
use Rattle.mta_words.specs.Stations.{AreStations, IsIn, IsOut, IsStation, MayStand, in_said, joined, may_follow}
use Rattle.mta_words.specs.Stations.{number_said, out_behind_host, out_behind_peer, out_said, out_with}
use Rattle.mta_words.specs.Stations.{station_behind, station_of, stations_from, with_station}

-- ---- numbers

number_is_one : (low high : ℕ) (text : List ℕ) (n : ℕ) → IsNumber low high text n
    → is_number low high text ≡ true
number_is_one low high text n h =
    let l : low ≤ number_of text = subst (λ m. low ≤ m) h.number_is h.least in
    let m : number_of text ≤ high = subst (λ m. m ≤ high) h.number_is h.most in
    let a = le-leb low (number_of text) l in
    let b = le-leb (number_of text) high m in
    let d : is_decimal text ≡ true = h.decimal in
    rw (d, a, b) refl

pub number_only : (low high : ℕ) (text : List ℕ) (n : ℕ) → IsNumber low high text n
    → number_said low high text ≡ Some n
number_only low high text n h =
    let e = number_is_one low high text n h in
    rw e (ap (λ (m : ℕ). Some m) (sym h.number_is))

pub number_found : (low high : ℕ) (text : List ℕ) (n : ℕ) → number_said low high text ≡ Some n
    → IsNumber low high text n
number_found low high text n e =
    elim (cases_Bool (is_number low high text)) [
      | inl good ↦
          (let whole = and_parts (is_decimal text) _ (and_parts _ _ good).0 in
          let same : Some (number_of text) ≡ Some n = rw good at e in
          let n_is : n ≡ number_of text = cc in
          let least = leb-true low (number_of text) whole.1 in
          let most = leb-true (number_of text) high (and_parts _ _ good).1 in
          record {
            decimal = whole.0;
            number_is = n_is;
            least = subst (λ m. low ≤ m) (sym n_is) least;
            most = subst (λ m. m ≤ high) (sym n_is) most;
          })
      | inr bad ↦ (let none : None ≡ Some n = rw bad at e in absurd cc)
    ]

-- ---- one station

word_whole : (word : List ℕ) → IsTrue (is_word word) → HasNo 58 word
word_whole word h = none_of is_word_octet 58 word refl (and_parts _ _ (and_parts _ _ h).0).0

other_than_colon : ℕ → Bool
other_than_colon c = not (c == 58)

in_whole : HasNo 58 (codes "in")
unfolding other_than_colon
in_whole = none_of other_than_colon 58 (codes "in") refl refl

out_whole : HasNo 58 (codes "out")
unfolding other_than_colon
out_whole = none_of other_than_colon 58 (codes "out") refl refl

pub station_only : (word : List ℕ) (station : StationWord) → IsStation word station
    → station_of word ≡ Some station
unfolding station_of
station_only word (Station.In port) h =
    let cut : cut_at 58 word ≡ (codes "in", Some h.text) =
    ap (cut_at 58) h.spelled ∙ cut_made 58 (codes "in") h.text in_whole in
    ap (λ (p : List ℕ × Option (List ℕ)). station_behind p.0 p.1) cut
    ∙ ap in_said (number_only 1 65535 h.text port h.number)
station_only word (Station.Out peer host port) h =
    let cut : cut_at 58 word ≡ (codes "out", Some (joined peer (joined host h.text))) =
    ap (cut_at 58) h.spelled ∙ cut_made 58 (codes "out") (joined peer (joined host h.text)) out_whole in
    let first = cut_made 58 peer (joined host h.text) (word_whole peer h.peer_is_word) in
    let second = cut_made 58 host h.text h.host_whole in
    let peer_is : is_word peer ≡ true = h.peer_is_word in
    let host_is : is_filled host ≡ true = h.host_filled in
    ap (λ (p : List ℕ × Option (List ℕ)). station_behind p.0 p.1) cut
    ∙ ap (λ (p : List ℕ × Option (List ℕ)). out_behind_peer p.0 p.1) first
    ∙ ap (λ (p : List ℕ × Option (List ℕ)). out_behind_host peer p.0 p.1) second
    ∙ rw (peer_is, host_is) (ap (out_said peer host) (number_only 1 65535 h.text port h.number))

in_found : (word text : List ℕ) (station : StationWord) (n : Option ℕ) → word ≡ joined (codes "in") text
    → number_said 1 65535 text ≡ n → in_said n ≡ Some station → IsStation word station
in_found word text station None spelled number e = absurd (cc)
in_found word text station (Some port) spelled number e =
    let same : Station.In port ≡ station = cc in
    let here : IsIn word port =
    record { text = text; spelled = spelled; number = number_found 1 65535 text port number } in
    subst (IsStation word) same here

out_found : (word peer host text : List ℕ) (station : StationWord) (n : Option ℕ)
    → word ≡ joined (codes "out") (joined peer (joined host text)) → IsTrue (is_word peer)
    → IsTrue (is_filled host) → HasNo 58 host → number_said 1 65535 text ≡ n
    → out_said peer host n ≡ Some station
    → IsStation word station
out_found word peer host text station None spelled peer_is host_is whole number e = absurd (cc)
out_found word peer host text station (Some port) spelled peer_is host_is whole number e =
    let same : Station.Out peer host port ≡ station = cc in
    let here : IsOut word peer host port = record {
      text = text;
      spelled = spelled;
      peer_is_word = peer_is;
      host_filled = host_is;
      host_whole = whole;
      number = number_found 1 65535 text port number;
    } in
    subst (IsStation word) same here

with_found : (word peer host text : List ℕ) (station : StationWord)
    → word ≡ joined (codes "out") (joined peer (joined host text)) → HasNo 58 host
    → out_with peer host text ≡ Some station → IsStation word station
with_found word peer host text station spelled whole e =
    elim (cases_Bool (is_word peer)) [
      | inl peer_is ↦ elim (cases_Bool (is_filled host)) [
        | inl host_is ↦
            out_found word peer host text station (number_said 1 65535 text) spelled peer_is host_is whole refl
            (rw (peer_is, host_is) at e)
        | inr bad ↦ (let none : None ≡ Some station = rw (peer_is, bad) at e in absurd cc)
      ]
      | inr bad ↦ (let none : None ≡ Some station = rw bad at e in absurd cc)
    ]

host_found : (word peer host : List ℕ) (behind : Option (List ℕ)) (station : StationWord)
    → word ≡ joined (codes "out") (joined peer (rejoined 58 host behind)) → HasNo 58 host
    → out_behind_host peer host behind ≡ Some station → IsStation word station
host_found word peer host None station spelled whole e = absurd (cc)
host_found word peer host (Some text) station spelled whole e = with_found word peer host text station spelled whole e

peer_found : (word peer : List ℕ) (behind : Option (List ℕ)) (station : StationWord)
    → word ≡ joined (codes "out") (rejoined 58 peer behind)
    → out_behind_peer peer behind ≡ Some station → IsStation word station
peer_found word peer None station spelled e = absurd (cc)
peer_found word peer (Some rest) station spelled e =
    host_found word peer (cut_at 58 rest).0 (cut_at 58 rest).1 station
    (spelled ∙ ap (λ (r : List ℕ). joined (codes "out") (joined peer r)) (cut_back 58 rest))
    (cut_clean 58 rest) e

behind_found : (word front : List ℕ) (behind : Option (List ℕ)) (station : StationWord)
    → word ≡ rejoined 58 front behind → station_behind front behind ≡ Some station → IsStation word station
behind_found word front None station spelled e = absurd (cc)
behind_found word front (Some rest) station spelled e =
    elim (cases_Bool (bytes_eq front (codes "in"))) [
      | inl is_in ↦
          (let front_is : front ≡ codes "in" = (bytes_eq-Decides front (codes "in")).0 is_in in
          in_found word rest station (number_said 1 65535 rest)
          (spelled ∙ ap (λ (f : List ℕ). joined f rest) front_is) refl
          (rw is_in at e))
      | inr not_in ↦ elim (cases_Bool (bytes_eq front (codes "out"))) [
        | inl is_out ↦
            (let front_is : front ≡ codes "out" = (bytes_eq-Decides front (codes "out")).0 is_out in
            peer_found word (cut_at 58 rest).0 (cut_at 58 rest).1 station
            (spelled ∙ ap (λ (f : List ℕ). joined f rest) front_is
            ∙ ap (joined (codes "out")) (cut_back 58 rest))
            (rw (not_in, is_out) at e))
        | inr not_out ↦ (let none : None ≡ Some station = rw (not_in, not_out) at e in absurd cc)
      ]
    ]

pub station_found : (word : List ℕ) (station : StationWord) → station_of word ≡ Some station
    → IsStation word station
unfolding station_of
station_found word station e =
    behind_found word (cut_at 58 word).0 (cut_at 58 word).1 station (cut_back 58 word) e

-- ---- stations in a row

pub stations_only : (earlier : List StationWord) (words : List (List ℕ)) (stations : List StationWord)
    → AreStations words stations → MayStand earlier stations
    → stations_from (Some earlier) words ≡ Some (earlier ++ stations)
stations_only earlier [] [] are stand = ap (λ (s : List StationWord). Some s) (sym (append-nil earlier))
stations_only earlier [] (station ∷ stations) are stand = absurd are
stations_only earlier (word ∷ words) [] are stand = absurd are
stations_only earlier (word ∷ words) (station ∷ stations) are stand =
    let follows : may_follow earlier station ≡ true = stand.0 in
    let added : with_station earlier (Some station) ≡ Some (earlier ++ station ∷ []) = rw follows refl in
    ap (λ (o : Option StationWord). stations_from (with_station earlier o) words) (station_only word station are.0)
    ∙ ap (λ (o : Option (List StationWord)). stations_from o words) added
    ∙ stations_only (earlier ++ station ∷ []) words stations are.1 stand.1
    ∙ ap (λ (s : List StationWord). Some s) (append_assoc earlier (station ∷ []) stations)

pub none_from : (words : List (List ℕ)) → stations_from None words ≡ None
none_from [] = refl
none_from (word ∷ words) = refl

-- the stations behind the earlier ones
pub record AreBehind (earlier : List StationWord) (words : List (List ℕ)) (all : List StationWord) : Type 0 where
  pub stations : List StationWord
  pub all_are : all ≡ earlier ++ stations
  pub are : AreStations words stations
  pub stand : MayStand earlier stations

pub stations_found : (earlier : List StationWord) (words : List (List ℕ)) (all : List StationWord)
    → stations_from (Some earlier) words ≡ Some all → AreBehind earlier words all
stations_found earlier [] all e =
    let same : all ≡ earlier = cc in
    record { stations = []; all_are = same ∙ sym (append-nil earlier); are = tt; stand = tt }
stations_found earlier (word ∷ words) all e =
    go (λ station. stations_found (earlier ++ station ∷ []) words all) (station_of word) refl e
  where
    added : (station : StationWord)
        → (stations_from (Some (earlier ++ station ∷ [])) words ≡ Some all
        → AreBehind (earlier ++ station ∷ []) words all)
        → (b : Bool) → station_of word ≡ Some station → may_follow earlier station ≡ b
        → stations_from (cond b (Some (earlier ++ station ∷ [])) None) words ≡ Some all
        → AreBehind earlier (word ∷ words) all
    added station more true is follows e =
        let rest = more e in
        record {
          stations = station ∷ rest.stations;
          all_are = rest.all_are ∙ append_assoc earlier (station ∷ []) rest.stations;
          are = (station_found word station is, rest.are);
          stand = (follows, rest.stand);
        }
    added station more false is follows e =
        let none : None ≡ Some all = sym (none_from words) ∙ e in absurd cc

    go : ((station : StationWord) → stations_from (Some (earlier ++ station ∷ [])) words ≡ Some all
        → AreBehind (earlier ++ station ∷ []) words all)
        → (said : Option StationWord) → station_of word ≡ said
        → stations_from (with_station earlier said) words ≡ Some all → AreBehind earlier (word ∷ words) all
    go more None is e = (let none : None ≡ Some all = sym (none_from words) ∙ e in absurd cc)
    go more (Some station) is e = added station (more station) (may_follow earlier station) is refl e
