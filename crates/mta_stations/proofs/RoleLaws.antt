-- Roles are those of the words exactly where they are found so.
use Rattle.std.proofs.Common.{◌≡◌, ℕ, true, List, [], ◌∷◌, refl, sym, ap, subst}
use Rattle.std.specs.Prelude.{◌↔◌, IsTrue}
use Rattle.std.proofs.lemmas.Bool.{and_parts}
use Rattle.std.proofs.lemmas.Slice.Eq.{bytes_eq-Decides}
use Rattle.mta_links.specs.declared.role.Role.{Role}
use Rattle.mta_links.specs.declared.role.Role.TheVariants as Roles
use Rattle.mta_words.specs.declared.station.StationWord.{StationWord}
use Rattle.mta_words.specs.declared.station.StationWord.TheVariants as Station
use Rattle.mta_stations.specs.Roles.{are_roles_of, is_role_of, role_of, roles_of}

said : (word : StationWord) (role : Role) → is_role_of word role ≡ true → role ≡ role_of word
said (Station.In port) Roles.In e = refl
said (Station.In port) (Roles.Out peer) e = absurd cc
said (Station.Out peer host port) Roles.In e = absurd cc
said (Station.Out peer host port) (Roles.Out other) e =
    ap (λ (name : List ℕ). Roles.Out name) ((bytes_eq-Decides other peer).0 e)

says : (word : StationWord) → is_role_of word (role_of word) ≡ true
says (Station.In port) = refl
says (Station.Out peer host port) = (bytes_eq-Decides peer peer).1 refl

all_said : (words : List StationWord) (roles : List Role) → are_roles_of words roles ≡ true → roles ≡ roles_of words
all_said [] [] e = refl
all_said [] (role ∷ roles) e = absurd cc
all_said (word ∷ words) [] e = absurd cc
all_said (word ∷ words) (role ∷ roles) e =
    let parts = and_parts _ _ e in
    let first : role ≡ role_of word = said word role parts.0 in
    let others : roles ≡ roles_of words = all_said words roles parts.1 in
    cc

all_say : (words : List StationWord) → are_roles_of words (roles_of words) ≡ true
all_say [] = refl
all_say (word ∷ words) = rw (says word, all_say words) refl

pub roles_same : (words : List StationWord) (roles : List Role)
    → IsTrue (are_roles_of words roles) ↔ (roles ≡ roles_of words)
roles_same words roles =
    (all_said words roles, λ e. subst (λ rs. are_roles_of words rs ≡ true) (sym e) (all_say words))
