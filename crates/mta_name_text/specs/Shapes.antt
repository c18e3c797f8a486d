-- The characters and the sizes of values (X.402, clause 18; X.411, upper bounds).
use Rattle.std.specs.Prelude.{ℕ, Bool, List, length, nat_le, ◌==◌, ◌&&◌, ◌||◌, not}
use Rattle.std.specs.List.{list_all}
use Rattle.mta_ber.specs.Strings.{in_class}
use Rattle.mta_ber.specs.declared.text.TextClass.TheVariants.{Printable}
use Rattle.mta_names.specs.Values.{is_letter, is_digit}
use Rattle.mta_name_text.specs.declared.shape.Shape.{Shape}
use Rattle.mta_name_text.specs.declared.shape.Shape.TheVariants.{Country, Kind, Text}

abbrev pub is_no_equals : ℕ → Bool
is_no_equals c = not (c == 61)

-- a country has two letters or three digits, the type of a domain-defined attribute 1 to 8 characters of
-- PrintableString but `=`
unfoldable pub is_value : Shape → List ℕ → Bool
is_value Country v = (list_all is_letter v && (length v == 2)) || (list_all is_digit v && (length v == 3))
is_value Kind v = list_all is_no_equals v && list_all (in_class Printable) v && nat_le 1 (length v) && nat_le
    (length v) 8
is_value (Text class low high) v = list_all (in_class class) v && nat_le low (length v) && nat_le (length v) high

-- what some such value begins with
unfoldable pub is_begun : Shape → List ℕ → Bool
is_begun Country v = (list_all is_letter v && nat_le (length v) 2) || (list_all is_digit v && nat_le (length v) 3)
is_begun Kind v = list_all is_no_equals v && list_all (in_class Printable) v && nat_le (length v) 8
is_begun (Text class low high) v = list_all (in_class class) v && nat_le (length v) high
