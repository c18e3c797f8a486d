-- The keys of a text form: their order, and what their parts may have (X.402, clause 18; X.411, upper bounds).
use Rattle.std.specs.Prelude.{ℕ, Bool, true, false, List, [], ◌∷◌, ◌++◌}
use Rattle.mta_ber.specs.declared.text.TextClass.TheVariants.{Numeric, Printable}
use Rattle.mta_name_text.specs.declared.key.Key.{Key}
use Rattle.mta_name_text.specs.declared.key.Key.TheVariants.{Country, Admd, Prmd, Organization, Unit}
use Rattle.mta_name_text.specs.declared.key.Key.TheVariants.{Surname, Given, Initials, Generation, Common}
use Rattle.mta_name_text.specs.declared.key.Key.TheVariants.{Network, Terminal, User, Pair}
use Rattle.mta_name_text.specs.declared.shape.Shape.{Shape}
use Rattle.mta_name_text.specs.declared.shape.Shape.TheVariants as Shapes
use Rattle.mta_name_text.specs.Forms.{key_text}

-- in their order
abbrev pub keys : List Key
keys = Country ∷ Admd ∷ Prmd ∷ Organization ∷ Unit ∷ Surname ∷ Given ∷ Initials ∷ Generation ∷ Common
    ∷ Network ∷
    Terminal ∷ User ∷ Pair ∷ []

abbrev pub place_of : Key → ℕ
place_of Country = 1
place_of Admd = 2
place_of Prmd = 3
place_of Organization = 4
place_of Unit = 5
place_of Surname = 6
place_of Given = 7
place_of Initials = 8
place_of Generation = 9
place_of Common = 10
place_of Network = 11
place_of Terminal = 12
place_of User = 13
place_of Pair = 14

-- how many more parts of the key may follow the first: at most four units and four domain-defined attributes
abbrev pub repeats : Key → ℕ
repeats Unit = 3
repeats Pair = 3
repeats _ = 0

abbrev pub is_surname : Key → Bool
is_surname Surname = true
is_surname _ = false

-- given name, initials and generation stand only behind a surname
abbrev pub needs_surname : Key → Bool
needs_surname Given = true
needs_surname Initials = true
needs_surname Generation = true
needs_surname _ = false

-- a domain-defined attribute has its type between the key and the `=`
abbrev pub has_kind : Key → Bool
has_kind Pair = true
has_kind _ = false

abbrev pub lead_of : Bool → List ℕ → List ℕ
lead_of true text = text
lead_of false text = text ++ 61 ∷ []

-- what stands before the value, or before the type of a domain-defined attribute
abbrev pub lead : Key → List ℕ
lead k = lead_of (has_kind k) (key_text k)

-- what the value may be
abbrev pub shape_of : Key → Shape
shape_of Country = Shapes.Country
shape_of Admd = Shapes.Text Printable 0 16
shape_of Prmd = Shapes.Text Printable 1 16
shape_of Organization = Shapes.Text Printable 1 64
shape_of Unit = Shapes.Text Printable 1 32
shape_of Surname = Shapes.Text Printable 1 40
shape_of Given = Shapes.Text Printable 1 16
shape_of Initials = Shapes.Text Printable 1 5
shape_of Generation = Shapes.Text Printable 1 3
shape_of Common = Shapes.Text Printable 1 64
shape_of Network = Shapes.Text Numeric 1 16
shape_of Terminal = Shapes.Text Printable 1 24
shape_of User = Shapes.Text Numeric 1 32
shape_of Pair = Shapes.Text Printable 1 128
