-- Reading a text form octet by octet.
use Rattle.std.specs.Prelude.{◌≡◌, ℕ, ◌+◌, Bool, true, false, List, [], ◌∷◌, ◌++◌, Option}
use Rattle.std.specs.Prelude.{Some, None, Result, Ok, Err, ◌==◌, ◌&&◌, if◌then◌else◌}
use Rattle.std.specs.List.{find, list_any}
use Rattle.std.specs.Str.{bytes_eq}
use Rattle.mta_name_text.specs.declared.draft.Draft.{Draft}
use Rattle.mta_name_text.specs.declared.draft.Stage.{Stage}
use Rattle.mta_name_text.specs.declared.draft.Stage.TheVariants.{Front, Kind, Value}
use Rattle.mta_name_text.specs.declared.fault.NameFault.{NameFault}
use Rattle.mta_name_text.specs.declared.fault.NameFault.TheVariants as Faults
use Rattle.mta_name_text.specs.declared.key.Key.{Key}
use Rattle.mta_name_text.specs.declared.part.Part.{Part}
use Rattle.mta_name_text.specs.declared.place.Grammar.{Grammar}
use Rattle.mta_name_text.specs.declared.place.Place.{Place}
use Rattle.mta_name_text.specs.declared.shape.Shape.TheVariants as Shapes
use Rattle.mta_name_text.specs.Grammar.{start, behind, follows}
use Rattle.mta_name_text.specs.Keys.{keys, lead, has_kind, shape_of}
use Rattle.mta_name_text.specs.Shapes.{is_value, is_begun}

-- the first is the beginning of the second, and shorter
abbrev pub begins : List ℕ → List ℕ → Bool
begins [] [] = false
begins [] (d ∷ ds) = true
begins (c ∷ cs) [] = false
begins (c ∷ cs) (d ∷ ds) = (c == d) && begins cs ds

-- a key that may stand here begins so
unfoldable pub is_front : Grammar → Place → List ℕ → Bool
is_front g p front = list_any (λ k. begins front (lead k) && follows g p k) keys

-- the key that is written so, with what ends it
unfoldable pub named : List ℕ → Option Key
named front = find (λ k. bytes_eq (lead k) front) keys

abbrev pub draft : List Part → Place → Stage → Draft
draft ps p s = record { parts = ps; place = p; stage = s }

abbrev pub nothing_read : Draft
nothing_read = draft [] start (Front [])

abbrev pub opened_as : Bool → Key → Stage
opened_as true k = Kind k []
opened_as false k = Value k [] []

-- behind a key
abbrev pub opened : Key → Stage
opened k = opened_as (has_kind k) k

abbrev pub open_key : Grammar → List Part → Place → Option Key → Option Draft
open_key g ps p None = None
open_key g ps p (Some k) = if follows g p k then Some (draft ps p (opened k)) else None

abbrev pub front_read : Grammar → List Part → Place → List ℕ → Option Draft
front_read g ps p front = if is_front g p front then Some (draft ps p (Front front)) else open_key g ps p (named front)

unfoldable pub step_front : Grammar → List Part → Place → List ℕ → ℕ → Option Draft
step_front g ps p front c = front_read g ps p (front ++ c ∷ [])

-- an equals sign ends a type
unfoldable pub step_kind : List Part → Place → Key → List ℕ → ℕ → Option Draft
step_kind ps p k t c =
    if c == 61 then (if is_value Shapes.Kind t then Some (draft ps p (Value k t [])) else None)
    else if is_begun Shapes.Kind (t ++ c ∷ []) then Some (draft ps p (Kind k (t ++ c ∷ []))) else None

abbrev pub part : Key → List ℕ → List ℕ → Part
part k t v = record { key = k; kind = t; value = v }

-- a semicolon ends a value that another part may follow
abbrev pub end_value : Grammar → List Part → Place → Key → List ℕ → List ℕ → Option Draft
end_value g ps p k t v = if is_value (shape_of k) v && is_front g (behind p k) [] then
    Some (draft (ps ++ part k t v ∷ []) (behind p k) (Front [])) else None

abbrev pub more_value : List Part → Place → Key → List ℕ → List ℕ → Option Draft
more_value ps p k t v = if is_begun (shape_of k) v then Some (draft ps p (Value k t v)) else None

unfoldable pub step_value : Grammar → List Part → Place → Key → List ℕ → List ℕ → ℕ → Option Draft
step_value g ps p k t v c = if c == 59 then end_value g ps p k t v else more_value ps p k t (v ++ c ∷ [])

abbrev pub step_at : Grammar → List Part → Place → Stage → ℕ → Option Draft
step_at g ps p (Front front) c = step_front g ps p front c
step_at g ps p (Kind k t) c = step_kind ps p k t c
step_at g ps p (Value k t v) c = step_value g ps p k t v c

unfoldable pub step : Grammar → Draft → ℕ → Option Draft
step g d c = step_at g d.parts d.place d.stage c

abbrev pub finish_at : List Part → Stage → Option (List Part)
finish_at ps (Front front) = None
finish_at ps (Kind k t) = None
finish_at ps (Value k t v) = if is_value (shape_of k) v then Some (ps ++ part k t v ∷ []) else None

unfoldable pub finish : Draft → Option (List Part)
finish d = finish_at d.parts d.stage

abbrev pub ended : ℕ → Option (List Part) → Result (List Part) ℕ
ended at None = Err at
ended at (Some ps) = Ok ps

-- what is read behind an octet, where it was taken
abbrev pub read_behind : ℕ → (Draft → Result (List Part) ℕ) → Option Draft → Result (List Part) ℕ
read_behind at next None = Err at
read_behind at next (Some d) = next d

-- the parts, or the offset of the first octet that was not taken
abbrev pub read_on : Grammar → ℕ → Draft → List ℕ → Result (List Part) ℕ
read_on g at d [] = ended at (finish d)
read_on g at d (c ∷ cs) = read_behind at (λ e. read_on g (at + 1) e cs) (step g d c)

unfoldable pub parts_of_text : Grammar → List ℕ → Result (List Part) ℕ
parts_of_text g text = read_on g 0 nothing_read text

-- what is answered is what is read, unless memory ran out
abbrev pub Reads : {X : Type 0} → Result X NameFault → Result X ℕ → Type 0
Reads (Ok x) read = read ≡ Ok x
Reads (Err (Faults.NameText at)) read = read ≡ Err at
Reads (Err Faults.Memory) read = Unit {0}

-- what is answered is this, unless memory ran out
abbrev pub IsReadAs : {X : Type 0} → Result X NameFault → X → Type 0
IsReadAs (Ok y) x = y ≡ x
IsReadAs (Err (Faults.NameText at)) x = ⊥
IsReadAs (Err Faults.Memory) x = Unit {0}
