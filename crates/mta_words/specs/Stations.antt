-- The words of stations: what each says, and which may stand together.
use Rattle.std.specs.Prelude.{◌≡◌, ℕ, Bool, false, List, [], ◌∷◌, ◌++◌}
use Rattle.std.specs.Prelude.{length, Option, Some, None}
use Rattle.std.specs.Prelude.{IsTrue, nat_lt, not, ◌&&◌, if◌then◌else◌, codes}
use Rattle.std.specs.List.{list_any}
use Rattle.std.specs.Str.{bytes_eq}
use Rattle.mta_tables.specs.Grammar.{HasNo, IsNumber}
use Rattle.mta_tables.specs.Words.{cut_at, is_word, is_filled, is_number, number_of}
use Rattle.mta_words.specs.declared.station.StationWord.{StationWord}
use Rattle.mta_words.specs.declared.station.StationWord.TheVariants as Station

-- ---- what a word says

-- one text, the other, and the colon between them
abbrev pub joined : List ℕ → List ℕ → List ℕ
joined front rest = front ++ 58 ∷ rest

-- `in:PORT`, the port of TCP as a number from 1 to 65535
pub record IsIn (word : List ℕ) (port : ℕ) : Type 0 where
  pub text : List ℕ
  pub spelled : word ≡ joined (codes "in") text
  pub number : IsNumber 1 65535 text port

-- `out:PEER:HOST:PORT`, the peer a word of 1 to 32 letters, digits or -, and the host not empty and without a colon
pub record IsOut (word peer host : List ℕ) (port : ℕ) : Type 0 where
  pub text : List ℕ
  pub spelled : word ≡ joined (codes "out") (joined peer (joined host text))
  pub peer_is_word : IsTrue (is_word peer)
  pub host_filled : IsTrue (is_filled host)
  pub host_whole : HasNo 58 host
  pub number : IsNumber 1 65535 text port

abbrev pub IsStation : List ℕ → StationWord → Type 0
IsStation word (Station.In port) = IsIn word port
IsStation word (Station.Out peer host port) = IsOut word peer host port

-- each word says its station
abbrev pub AreStations : List (List ℕ) → List StationWord → Type 0
AreStations [] [] = Unit {0}
AreStations [] (station ∷ stations) = ⊥
AreStations (word ∷ words) [] = ⊥
AreStations (word ∷ words) (station ∷ stations) = IsStation word station × AreStations words stations

-- ---- which may stand together

-- the station calls this peer
abbrev pub calls : List ℕ → StationWord → Bool
calls peer (Station.In port) = false
calls peer (Station.Out other host port) = bytes_eq other peer

-- it calls a peer that one of these calls
abbrev pub calls_again : List StationWord → StationWord → Bool
calls_again stations (Station.In port) = false
calls_again stations (Station.Out peer host port) = list_any (calls peer) stations

-- it may stand behind these: they are fewer than 16, and none of them calls its peer
abbrev pub may_follow : List StationWord → StationWord → Bool
may_follow stations station = nat_lt (length stations) 16 && not (calls_again stations station)

-- there are 16 at most, and no peer is called twice: each may stand behind those before it
abbrev pub MayStand : List StationWord → List StationWord → Type 0
MayStand earlier [] = Unit {0}
MayStand earlier (station ∷ later) = IsTrue (may_follow earlier station) × MayStand (earlier ++ station ∷ []) later

-- ---- the same, as they are read

-- the number that a text says, where it is one from `low` to `high`
abbrev pub number_said : ℕ → ℕ → List ℕ → Option ℕ
number_said low high text = if is_number low high text then Some (number_of text) else None

abbrev pub in_said : Option ℕ → Option StationWord
in_said None = None
in_said (Some port) = Some (Station.In port)

abbrev pub out_said : List ℕ → List ℕ → Option ℕ → Option StationWord
out_said peer host None = None
out_said peer host (Some port) = Some (Station.Out peer host port)

abbrev pub out_with : List ℕ → List ℕ → List ℕ → Option StationWord
out_with peer host text =
    if is_word peer && is_filled host then out_said peer host (number_said 1 65535 text) else None

abbrev pub out_behind_host : List ℕ → List ℕ → Option (List ℕ) → Option StationWord
out_behind_host peer host None = None
out_behind_host peer host (Some text) = out_with peer host text

abbrev pub out_behind_peer : List ℕ → Option (List ℕ) → Option StationWord
out_behind_peer peer None = None
out_behind_peer peer (Some rest) = out_behind_host peer (cut_at 58 rest).0 (cut_at 58 rest).1

abbrev pub out_station : List ℕ → Option StationWord
out_station text = out_behind_peer (cut_at 58 text).0 (cut_at 58 text).1

abbrev pub station_behind : List ℕ → Option (List ℕ) → Option StationWord
station_behind front None = None
station_behind front (Some rest) =
    if bytes_eq front (codes "in") then in_said (number_said 1 65535 rest)
    else if bytes_eq front (codes "out") then out_station rest
    else None

unfoldable pub station_of : List ℕ → Option StationWord
station_of word = station_behind (cut_at 58 word).0 (cut_at 58 word).1

abbrev pub with_station : List StationWord → Option StationWord → Option (List StationWord)
with_station stations None = None
with_station stations (Some station) =
    if may_follow stations station then Some (stations ++ station ∷ []) else None

-- the stations with those of these words behind them
abbrev pub stations_from : Option (List StationWord) → List (List ℕ) → Option (List StationWord)
stations_from stations [] = stations
stations_from None (word ∷ words) = None
stations_from (Some stations) (word ∷ words) = stations_from (with_station stations (station_of word)) words
