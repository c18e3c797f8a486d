-- Laws over names, patterns and their text forms.
use Rattle.std.specs.Prelude.{◌≡◌, ◌↔◌, ℕ, List, Ok, Err}
use Rattle.mta_names.specs.declared.attributes.Attributes.{Attributes}
use Rattle.mta_name_text.specs.declared.place.Grammar.TheVariants.{Names, Patterns}
use Rattle.mta_name_text.specs.Forms.{text_form}
use Rattle.mta_name_text.specs.Grammar.{IsFirstFault}
use Rattle.mta_name_text.specs.Made.{IsTextForm, name_of_text, IsTold, IsPatternForm, pattern_of_text}

-- a name of which the text form says all is read from it
abbrev pub NamesAreReadAgain : Type 0
NamesAreReadAgain = (n : Attributes) → IsTold n → name_of_text (text_form n) ≡ Ok n

-- that name is read from a text whose text form it is
abbrev pub NameFormsAreWhatIsRead : Type 0
NameFormsAreWhatIsRead = (text : List ℕ) (n : Attributes) → (name_of_text text ≡ Ok n) ↔ IsTextForm text n

-- the text forms are the texts that are written of names of which they say all
abbrev pub TextFormsAreWhatIsWritten : Type 0
TextFormsAreWhatIsWritten = (text : List ℕ) (n : Attributes)
    → IsTextForm text n ↔ (IsTold n × (text ≡ text_form n))

-- that octet is at fault which is the first at which no text form of a name goes on
abbrev pub NameFaultsAreFirst : Type 0
NameFaultsAreFirst = (text : List ℕ) (at : ℕ) → (name_of_text text ≡ Err at) ↔ IsFirstFault Names text at

-- those parts are read from a text whose text form they are
abbrev pub PatternFormsAreWhatIsRead : Type 0
PatternFormsAreWhatIsRead = (text : List ℕ) (values : List (List ℕ))
    → (pattern_of_text text ≡ Ok values) ↔ IsPatternForm text values

-- that octet is at fault which is the first at which no text form of a pattern goes on
abbrev pub PatternFaultsAreFirst : Type 0
PatternFaultsAreFirst = (text : List ℕ) (at : ℕ)
    → (pattern_of_text text ≡ Err at) ↔ IsFirstFault Patterns text at
