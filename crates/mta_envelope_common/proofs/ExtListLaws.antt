-- Lists of extension fields are read exactly where they are spelled.
use Rattle.std.proofs.Common.{◌≡◌, List, [], Ok}
use Rattle.mta_ber.specs.Element.{Part}
use Rattle.mta_ber.specs.Octet.{IsOctets}
use Rattle.mta_ber.proofs.ExplicitLaws.{ReadSound, ReadFull}
use Rattle.mta_names.specs.Lists.{is_sequence}
use Rattle.mta_names.specs.Strings.{AddsItem}
use Rattle.mta_names.proofs.Tools.{components_sound, components_full, item_sound, item_full}
use Rattle.mta_fields.specs.declared.extension.ExtFields.{ExtFields}
use Rattle.mta_fields.specs.ExtensionFields.{ext_in}
use Rattle.mta_fields.proofs.ExtLaws.{ext_sound, ext_full}
use Rattle.mta_envelope_common.specs.ExtensionLists.{ext_list_step, ext_list_in, SpellsExtItem, SpellsExtList}

field_sound : ReadSound ext_in SpellsExtItem
field_sound v p shallow content octets e = ext_sound v p content e

field_full : ReadFull ext_in SpellsExtItem
field_full v p shallow h = ext_full v p h

pub ext_list_sound : (vs : List ExtFields) (p : Part) → IsOctets p.content → ext_list_in p ≡ Ok vs
    → SpellsExtList p.depth p.tag.constructed p.content vs
unfolding ext_list_in
ext_list_sound vs p octets e =
    let c = components_sound ext_list_step (AddsItem is_sequence SpellsExtItem)
    (item_sound is_sequence ext_in SpellsExtItem field_sound) [] vs p octets e in
    record { is_constructed = c.0; spelled = c.1 }

pub ext_list_full : (vs : List ExtFields) (p : Part) → SpellsExtList p.depth p.tag.constructed p.content vs
    → ext_list_in p ≡ Ok vs
unfolding ext_list_in
ext_list_full vs p h = components_full ext_list_step (AddsItem is_sequence SpellsExtItem)
    (item_full is_sequence ext_in SpellsExtItem field_full) [] vs p h.is_constructed h.spelled
