-- The texts of both agents are tables.
use Rattle.std.proofs.Common.{◌≡◌, true, Some, refl}
use Rattle.mta_names.specs.Extensions.{value_in, attribute_step, attribute_parts_in, attribute_in, extension_step}
use Rattle.mta_names.specs.Extensions.{extensions_in}
use Rattle.mta_names.specs.Labels.{country_choice, label_choice}
use Rattle.mta_names.specs.Names.{canonical_name}
use Rattle.mta_names.specs.Normal.{normal_text, is_same_name}
use Rattle.mta_name_text.specs.Forms.{text_form}
use Rattle.mta_name_text.specs.Made.{name_of_text, pattern_of_text}
use Rattle.mta_name_text.specs.Reading.{is_front, named, step_front, step_kind, step_value, step as text_step, finish}
use Rattle.mta_name_text.specs.Reading.{parts_of_text}
use Rattle.mta_name_text.specs.Shapes.{is_value, is_begun}
use Rattle.mta_tables.specs.Lines.{name_of, pattern_of, peer_words, hold_words, route_line, peer_line, mailbox_line}
use Rattle.mta_tables.specs.Lines.{list_line, from_line, member_line, hold_line, line_of}
use Rattle.mta_tables.specs.Reading.{take_line}
use Rattle.mta_tables.specs.Tables.{tables_of}
use Rattle.mta_machine.specs.Rules.{mailbox_word, names_peer, peer_word, tables_value}
use Rattle.mta_drill_laws.specs.Laws.{TablesAreRead}
use Rattle.mta_drill_laws.specs.Tables.{east, first_tables, first_text, gold_1, mailbox, second_tables, second_text}

pub first_is_read : tables_value first_text ≡ Some first_tables
unfolding value_in attribute_step attribute_parts_in attribute_in extension_step extensions_in country_choice
    label_choice canonical_name normal_text is_same_name text_form name_of_text pattern_of_text is_front named
    step_front step_kind step_value text_step finish parts_of_text is_value is_begun name_of pattern_of peer_words
    hold_words route_line peer_line mailbox_line list_line from_line member_line hold_line line_of take_line tables_of
    tables_value first_text
first_is_read = refl

pub second_is_read : tables_value second_text ≡ Some second_tables
unfolding value_in attribute_step attribute_parts_in attribute_in extension_step extensions_in country_choice
    label_choice canonical_name normal_text is_same_name text_form name_of_text pattern_of_text is_front named
    step_front step_kind step_value text_step finish parts_of_text is_value is_begun name_of pattern_of peer_words
    hold_words route_line peer_line mailbox_line list_line from_line member_line hold_line line_of take_line tables_of
    tables_value second_text
second_is_read = refl

names_east : names_peer first_text east ≡ true
unfolding names_peer east
names_east = rw first_is_read refl

names_gold : names_peer second_text gold_1 ≡ true
unfolding names_peer gold_1
names_gold = rw second_is_read refl

pub first_to_east : peer_word first_text 0 ≡ Some east
unfolding peer_word east
first_to_east = rw first_is_read refl

pub second_to_watt : mailbox_word second_text 0 ≡ Some mailbox
unfolding mailbox_word mailbox
second_to_watt = rw second_is_read refl

pub both_are_read : TablesAreRead
both_are_read = record {
  first = first_is_read;
  second = second_is_read;
  first_names = names_east;
  second_names = names_gold;
  to_east = first_to_east;
  to_watt = second_to_watt;
}
