-- The grammar of the words, and what is read of them.
use Rattle.std.proofs.Common.{◌≡◌, ◌⊎◌, ◌∙◌, ℕ, Bool, true, false, eqb, codes, List, []}
use Rattle.std.proofs.Common.{◌∷◌, Option, Some, None, Result, Ok, Err, refl, sym, ap, ap₂, subst, inl, inr}
use Rattle.std.proofs.Common.{map, string_bytes, Global, String}
use Rattle.std.specs.Prelude.{All, IfOk, if◌then◌else◌, ◌&&◌}
use Rattle.std.specs.List.{list_all}
use Rattle.std.specs.Str.{bytes_eq}
use Rattle.std.proofs.lemmas.Bool.{cases_Bool, and_parts, ne_eqb, eq-eqb}
use Rattle.std.proofs.lemmas.List.Elements.{All-nil, All-cons, All-head, All-tail}
use Rattle.std.proofs.lemmas.List.Folds.{list_all-map}
use Rattle.std.proofs.lemmas.Slice.Eq.{bytes_eq-Decides}
use Rattle.mta_ber.specs.declared.memory.Memory.{Memory}
use Rattle.mta_tables.specs.Words.{is_word}
use Rattle.mta_words.specs.declared.station.StationWord.{StationWord}
use Rattle.mta_words.specs.declared.verb.Verb.{Verb}
use Rattle.mta_words.specs.declared.verb.Verb.TheVariants as Verbs
use Rattle.mta_words.specs.declared.words.Words.{Words}
use Rattle.mta_words.specs.declared.words.Words.TheVariants as Say
use Rattle.mta_words.specs.Split.{Undashed, behind, first_and_others, only_word}
use Rattle.mta_words.specs.Stations.{AreStations, MayStand, number_said, stations_from}
use Rattle.mta_words.specs.Words.{Says, Spell, SpellDrill, SpellServe, alone, behind_verb, command_in, command_of}
use Rattle.mta_words.specs.Words.{drill_of, drill_said, is_undashed, mailbox_of, serve_of, serve_said, verb_of}
use Rattle.mta_words.proofs.StationLaws.{number_only, number_found, stations_only, stations_found}

-- ---- no word begins with -

undashed_one : (word : List ℕ) → is_undashed word ≡ true → Undashed word
undashed_one [] h = tt
undashed_one (c ∷ cs) h = λ e. (let same : eqb c 45 ≡ true = eq-eqb c 45 e in
    let bad : false ≡ true = rw same at h in absurd cc)

tested_one : (word : List ℕ) → Undashed word → is_undashed word ≡ true
tested_one [] h = refl
tested_one (c ∷ cs) h = (let other : eqb c 45 ≡ false = ne_eqb c 45 h in rw other refl)

pub undashed_all : (words : List (List ℕ)) → list_all is_undashed words ≡ true → All Undashed words
undashed_all [] h = All-nil Undashed
undashed_all (word ∷ words) h =
    let parts = and_parts (is_undashed word) (list_all is_undashed words) h in
    All-cons Undashed word words (undashed_one word parts.0) (undashed_all words parts.1)

tested_all : (words : List (List ℕ)) → All Undashed words → list_all is_undashed words ≡ true
tested_all [] h = refl
tested_all (word ∷ words) h =
    ap₂ (λ (a b : Bool). a && b) (tested_one word (All-head Undashed word words h))
    (tested_all words (All-tail Undashed word words h))

-- the same of the words as they come
abbrev tested : List (String Global) → Bool
tested words = list_all (λ word. is_undashed (string_bytes word)) words

tested_texts : (words : List (String Global)) → list_all is_undashed (map string_bytes words) ≡ tested words
tested_texts words = list_all-map is_undashed string_bytes words

pub undashed_behind : (words : List (String Global)) → tested words ≡ true
    → All Undashed (behind (map string_bytes words))
undashed_behind words h = go (map string_bytes words) (undashed_all (map string_bytes words) (tested_texts words ∙ h))
  where
    go : (texts : List (List ℕ)) → All Undashed texts → All Undashed (behind texts)
    go [] all = all
    go (text ∷ texts) all = All-tail Undashed text texts all

pub dashed_none : (words : List (String Global)) → tested words ≡ false
    → None ≡ command_of (map string_bytes words)
unfolding command_of
dashed_none words h = (let e = tested_texts words ∙ h in rw e refl)

pub undashed_command : (words : List (String Global)) → tested words ≡ true
    → command_in (map string_bytes words) ≡ command_of (map string_bytes words)
unfolding command_of
undashed_command words h = (let e = tested_texts words ∙ h in rw e refl)

pub ruleset of_words = (undashed_behind, dashed_none, undashed_command)

-- ---- what the words say is read

spell_read : (words : List (List ℕ)) (command : Words) → Spell words command → command_in words ≡ Some command
spell_read words Say.Submit h = ap command_in h
spell_read words (Say.Serve sessions stations) h =
    ap command_in h.spelled
    ∙ ap₂ serve_said (number_only 1 1000000 h.text sessions h.number)
    (stations_only [] (h.first ∷ h.others) stations h.stations_are h.stand)
spell_read words Say.Queue h = ap command_in h
spell_read words (Say.Mailbox name) h =
    let named : is_word name ≡ true = h.1 in
    ap command_in h.0 ∙ rw named refl
spell_read words Say.Decode h = ap command_in h
spell_read words (Say.Drill messages) h =
    ap command_in h.spelled ∙ ap drill_said (number_only 1 100000 h.text messages h.number)

pub said_only : (words : List (List ℕ)) (command : Words) → Says words command → command_of words ≡ Some command
unfolding command_of
said_only words command h =
    let plain = tested_all words h.undashed in
    rw plain (spell_read words command h.spelled)

-- ---- what is read is what the words say

alone_found : (command said : Words) (words : List (List ℕ)) → alone command words ≡ Some said
    → (words ≡ []) × (command ≡ said)
alone_found command said [] e = (let same : command ≡ said = cc in (refl, same))
alone_found command said (word ∷ words) e = (let none : None ≡ Some said = e in absurd cc)

serve_found : (text first : List ℕ) (others : List (List ℕ)) (said : Words) (n : Option ℕ)
    (s : Option (List StationWord))
    → number_said 1 1000000 text ≡ n → stations_from (Some []) (first ∷ others) ≡ s
    → serve_said n s ≡ Some said
    → Spell (codes "serve" ∷ text ∷ first ∷ others) said
serve_found text first others said (Some sessions) (Some stations) number are e =
    let same : Say.Serve sessions stations ≡ said = cc in
    let behind = stations_found [] (first ∷ others) stations are in
    let here : SpellServe (codes "serve" ∷ text ∷ first ∷ others) sessions stations = record {
      text = text;
      first = first;
      others = others;
      spelled = refl;
      number = number_found 1 1000000 text sessions number;
      stations_are = subst (λ (s : List StationWord). AreStations (first ∷ others) s)
          (sym behind.all_are) behind.are;
      stand = subst (λ (s : List StationWord). MayStand [] s) (sym behind.all_are) behind.stand;
    } in
    subst (Spell (codes "serve" ∷ text ∷ first ∷ others)) same here
serve_found text first others said (Some sessions) None number are e = (let none : None ≡ Some said = e in absurd cc)
serve_found text first others said None (Some stations) number are e = (let none : None ≡ Some said = e in absurd cc)
serve_found text first others said None None number are e = (let none : None ≡ Some said = e in absurd cc)

serve_said_found : (words : List (List ℕ)) (said : Words) → serve_of (first_and_others words) ≡ Some said
    → Spell (codes "serve" ∷ words) said
serve_said_found [] said e = (let none : None ≡ Some said = e in absurd cc)
serve_said_found (text ∷ []) said e = (let none : None ≡ Some said = e in absurd cc)
serve_said_found (text ∷ first ∷ others) said e =
    serve_found text first others said (number_said 1 1000000 text)
    (stations_from (Some []) (first ∷ others)) refl refl e

mailbox_found : (words : List (List ℕ)) (said : Words) → mailbox_of (only_word words) ≡ Some said
    → Spell (codes "read" ∷ words) said
mailbox_found [] said e = (let none : None ≡ Some said = e in absurd cc)
mailbox_found (name ∷ word ∷ words) said e = (let none : None ≡ Some said = e in absurd cc)
mailbox_found (name ∷ []) said e =
    elim (cases_Bool (is_word name)) [
      | inl named ↦
          (let found : Some (Say.Mailbox name) ≡ Some said = rw named at e in
          let same : Say.Mailbox name ≡ said = cc in
          let here : Spell (codes "read" ∷ name ∷ []) (Say.Mailbox name) = (refl, named) in
          subst (Spell (codes "read" ∷ name ∷ [])) same here)
      | inr bad ↦ (let none : None ≡ Some said = rw bad at e in absurd cc)
    ]

drill_found : (text : List ℕ) (said : Words) (n : Option ℕ) → number_said 1 100000 text ≡ n
    → drill_said n ≡ Some said
    → Spell (codes "drill" ∷ text ∷ []) said
drill_found text said None number e = (let none : None ≡ Some said = e in absurd cc)
drill_found text said (Some messages) number e =
    let same : Say.Drill messages ≡ said = cc in
    let here : SpellDrill (codes "drill" ∷ text ∷ []) messages =
    record { text = text; spelled = refl; number = number_found 1 100000 text messages number } in
    subst (Spell (codes "drill" ∷ text ∷ [])) same here

drill_said_found : (words : List (List ℕ)) (said : Words) → drill_of (only_word words) ≡ Some said
    → Spell (codes "drill" ∷ words) said
drill_said_found [] said e = (let none : None ≡ Some said = e in absurd cc)
drill_said_found (text ∷ word ∷ words) said e = (let none : None ≡ Some said = e in absurd cc)
drill_said_found (text ∷ []) said e = drill_found text said (number_said 1 100000 text) refl e

abbrev verb_text : Verb → List ℕ
verb_text Verbs.Submit = codes "submit"
verb_text Verbs.Serve = codes "serve"
verb_text Verbs.Spool = codes "spool"
verb_text Verbs.Read = codes "read"
verb_text Verbs.Decode = codes "decode"
verb_text Verbs.Drill = codes "drill"

-- a command without further words
alone_spell : (word : List ℕ) (command said : Words) (words : List (List ℕ)) → Spell (word ∷ []) command
    → alone command words ≡ Some said → Spell (word ∷ words) said
alone_spell word command said words here e =
    let found = alone_found command said words e in
    subst (λ (w : List (List ℕ)). Spell (word ∷ w) said) (sym found.0) (subst (Spell (word ∷ [])) found.1 here)

behind_found : (verb : Verb) (words : List (List ℕ)) (said : Words) → behind_verb (Some verb) words ≡ Some said
    → Spell (verb_text verb ∷ words) said
behind_found Verbs.Submit words said e = alone_spell (codes "submit") Say.Submit said words refl e
behind_found Verbs.Serve words said e = serve_said_found words said e
behind_found Verbs.Spool words said e = alone_spell (codes "spool") Say.Queue said words refl e
behind_found Verbs.Read words said e = mailbox_found words said e
behind_found Verbs.Decode words said e = alone_spell (codes "decode") Say.Decode said words refl e
behind_found Verbs.Drill words said e = drill_said_found words said e

verb_if : (b : Bool) (verb found : Verb) (other : Option Verb) → (if b then Some verb else other) ≡ Some found
    → ((b ≡ true) × (verb ≡ found)) ⊎ (other ≡ Some found)
verb_if true verb found other e = (let same : verb ≡ found = cc in inl (refl, same))
verb_if false verb found other e = inr e

verb_spelled : (word : List ℕ) (verb found : Verb) → bytes_eq word (verb_text verb) ≡ true → verb ≡ found
    → word ≡ verb_text found
verb_spelled word verb found e same = (bytes_eq-Decides word (verb_text verb)).0 e ∙ ap verb_text same

verb_found : (word : List ℕ) (found : Verb) → verb_of word ≡ Some found → word ≡ verb_text found
verb_found word found e =
    elim (verb_if (bytes_eq word (codes "submit")) Verbs.Submit found _ e) [
      | inl h ↦ verb_spelled word Verbs.Submit found h.0 h.1
      | inr e ↦ elim (verb_if (bytes_eq word (codes "serve")) Verbs.Serve found _ e) [
        | inl h ↦ verb_spelled word Verbs.Serve found h.0 h.1
        | inr e ↦ elim (verb_if (bytes_eq word (codes "spool")) Verbs.Spool found _ e) [
          | inl h ↦ verb_spelled word Verbs.Spool found h.0 h.1
          | inr e ↦ elim (verb_if (bytes_eq word (codes "read")) Verbs.Read found _ e) [
            | inl h ↦ verb_spelled word Verbs.Read found h.0 h.1
            | inr e ↦ elim (verb_if (bytes_eq word (codes "decode")) Verbs.Decode found _ e) [
              | inl h ↦ verb_spelled word Verbs.Decode found h.0 h.1
              | inr e ↦ elim (verb_if (bytes_eq word (codes "drill")) Verbs.Drill found _ e) [
                | inl h ↦ verb_spelled word Verbs.Drill found h.0 h.1
                | inr e ↦ (let none : None ≡ Some found = e in absurd cc)
              ]
            ]
          ]
        ]
      ]
    ]

in_found : (words : List (List ℕ)) (said : Words) → command_in words ≡ Some said → Spell words said
in_found [] said e = (let none : None ≡ Some said = e in absurd cc)
in_found (word ∷ words) said e = go (verb_of word) refl e
  where
    go : (o : Option Verb) → verb_of word ≡ o → behind_verb o words ≡ Some said → Spell (word ∷ words) said
    go None is e = (let none : None ≡ Some said = e in absurd cc)
    go (Some verb) is e =
        subst (λ (w : List ℕ). Spell (w ∷ words) said) (sym (verb_found word verb is))
        (behind_found verb words said e)

pub said_found : (words : List (List ℕ)) (command : Words) → command_of words ≡ Some command
    → Says words command
unfolding command_of
said_found words command e =
    elim (cases_Bool (list_all is_undashed words)) [
      | inl plain ↦ record { undashed = undashed_all words plain; spelled = in_found words command (rw plain at e) }
      | inr dashed ↦ (let none : None ≡ Some command = rw dashed at e in absurd cc)
    ]

-- ---- what a reader answers

pub read_found : (r : Result (Option Words) Memory) (words : List (List ℕ)) → IfOk r (λ o. o ≡ command_of words)
    → (command : Words) → r ≡ Ok (Some command) → Says words command
read_found (Ok o) words h command e =
    let same : o ≡ Some command = cc in
    said_found words command (sym h ∙ same)
read_found (Err error) words h command e = absurd (cc)

pub read_only : (r : Result (Option Words) Memory) (words : List (List ℕ)) → IfOk r (λ o. o ≡ command_of words)
    → (command : Words) → Says words command → IfOk r (λ o. o ≡ Some command)
read_only (Ok o) words h command says = h ∙ said_only words command says
read_only (Err error) words h command says = tt
