-- No two stations that words name call one peer.
use Rattle.std.proofs.Common.{◌≡◌, ℕ, Bool, true, false, not, ◌||◌, List, [], ◌∷◌, ◌++◌, refl, ap}
use Rattle.std.proofs.Common.{subst, ◌∙◌, inl, inr}
use Rattle.std.specs.List.{list_any}
use Rattle.std.proofs.lemmas.Bool.{and_parts}
use Rattle.std.proofs.lemmas.List.Folds.{list_any-append}
use Rattle.std.proofs.lemmas.Slice.Eq.{bytes_eq-Decides}
use Rattle.mta_links.specs.declared.role.Role.TheVariants as Roles
use Rattle.mta_lane_list_laws.specs.Called.{CallOthers, IsCalled}
use Rattle.mta_stations.specs.Roles.{role_of, roles_of}
use Rattle.mta_words.specs.Stations.{calls, MayStand}
use Rattle.mta_words.specs.Words.{Says}
use Rattle.mta_words.specs.declared.station.StationWord.{StationWord}
use Rattle.mta_words.specs.declared.station.StationWord.TheVariants as Station
use Rattle.mta_words.specs.declared.words.Words.{Words}
use Rattle.mta_words.specs.declared.words.Words.TheVariants as Say
use Rattle.mta_commands.specs.Words.{IsSaid}

in_out : {A : Type 0} (peer : List ℕ) → Roles.In ≡ Roles.Out peer → A
in_out peer e = absurd cc

same_peer : (other peer : List ℕ) → Roles.Out other ≡ Roles.Out peer → other ≡ peer
same_peer other peer e = cc

refuted : (b : Bool) → not b ≡ true → b ≡ true → ⊥
refuted true n e = cc
refuted false n e = cc

-- the peer is called by one of more stations too
more_front : (a b : Bool) → a ≡ true → (a || b) ≡ true
more_front true b e = refl
more_front false b e = absurd cc

more_back : (a b : Bool) → b ≡ true → (a || (b || false)) ≡ true
more_back true b e = refl
more_back false true e = refl
more_back false false e = absurd cc

called_more : (peer : List ℕ) (xs ys : List StationWord) → list_any (calls peer) xs ≡ true
    → list_any (calls peer) (xs ++ ys) ≡ true
called_more peer xs ys e =
    list_any-append (calls peer) xs ys
    ∙ more_front (list_any (calls peer) xs) (list_any (calls peer) ys) e

called_last : (peer : List ℕ) (xs : List StationWord) (x : StationWord) → calls peer x ≡ true
    → list_any (calls peer) (xs ++ x ∷ []) ≡ true
called_last peer xs x e =
    list_any-append (calls peer) xs (x ∷ [])
    ∙ more_back (list_any (calls peer) xs) (calls peer x) e

-- a peer that an earlier one calls is called by none behind
not_again : (peer : List ℕ) (earlier later : List StationWord) → list_any (calls peer) earlier ≡ true
    → MayStand earlier later → IsCalled peer (roles_of later) → ⊥
not_again peer earlier [] e m c = c
not_again peer earlier (Station.In port ∷ later) e m c =
    elim c [
      | inl same ↦ in_out peer same
      | inr more ↦ not_again peer (earlier ++ Station.In port ∷ []) later
          (called_more peer earlier (Station.In port ∷ []) e) m.1 more
    ]
not_again peer earlier (Station.Out other host port ∷ later) e m c =
    elim c [
      | inl same ↦ refuted (list_any (calls other) earlier) (and_parts _ _ m.0).1
          (ap (λ (p : List ℕ). list_any (calls p) earlier) (same_peer other peer same) ∙ e)
      | inr more ↦ not_again peer (earlier ++ Station.Out other host port ∷ []) later
          (called_more peer earlier (Station.Out other host port ∷ []) e) m.1 more
    ]

first_other : (earlier later : List StationWord) (x : StationWord) (peer : List ℕ)
    → MayStand (earlier ++ x ∷ []) later → role_of x ≡ Roles.Out peer → IsCalled peer (roles_of later) → ⊥
first_other earlier later (Station.In port) peer m e c = in_out peer e
first_other earlier later (Station.Out other host port) peer m e c =
    not_again peer (earlier ++ Station.Out other host port ∷ []) later
    (called_last peer earlier (Station.Out other host port)
    ((bytes_eq-Decides other peer).1 (same_peer other peer e))) m c

stand_others : (earlier later : List StationWord) → MayStand earlier later → CallOthers (roles_of later)
stand_others earlier [] m = tt
stand_others earlier (x ∷ later) m =
    ((λ peer e c. first_other earlier later x peer m.1 e c), stand_others (earlier ++ x ∷ []) later m.1)

-- these texts say the words
pub said_by : (texts : List (List ℕ)) (words : Words) → Says texts words → IsSaid words
said_by texts words s = record { texts = texts; says = s }

pub call_others : (words : Words) (sessions : ℕ) (named : List StationWord) → words ≡ Say.Serve sessions named
    → IsSaid words → CallOthers (roles_of named)
call_others words sessions named is said =
    let serves : Says said.texts (Say.Serve sessions named) =
    subst (λ (w : Words). Says said.texts w) is said.says in
    stand_others [] named serves.spelled.stand
