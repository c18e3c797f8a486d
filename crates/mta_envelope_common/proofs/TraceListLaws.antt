-- Traces are read exactly where they are spelled.
use Rattle.std.proofs.Common.{◌≡◌, List, Ok}
use Rattle.mta_ber.specs.Element.{Part}
use Rattle.mta_ber.specs.Octet.{IsOctets}
use Rattle.mta_ber.proofs.ExplicitLaws.{ReadSound, ReadFull}
use Rattle.mta_names.specs.Lists.{is_sequence}
use Rattle.mta_names.proofs.Tools.{list_sound, list_full}
use Rattle.mta_fields.specs.declared.trace.TraceFields.{TraceFields}
use Rattle.mta_fields.specs.TraceElements.{trace_in}
use Rattle.mta_fields.proofs.TraceLaws.{trace_sound, trace_full}
use Rattle.mta_envelope_common.specs.TraceLists.{trace_list_in, SpellsTraceItem, SpellsTraceList}

item_sound : ReadSound trace_in SpellsTraceItem
item_sound v p shallow content octets e = trace_sound v p content e

item_full : ReadFull trace_in SpellsTraceItem
item_full v p shallow h = trace_full v p h

pub trace_list_sound : (vs : List TraceFields) (p : Part) → IsOctets p.content → trace_list_in p ≡ Ok vs
    → SpellsTraceList p.depth p.tag.constructed p.content vs
unfolding trace_list_in
trace_list_sound vs p octets e = list_sound is_sequence trace_in SpellsTraceItem item_sound 0 512 p vs octets e

pub trace_list_full : (vs : List TraceFields) (p : Part) → SpellsTraceList p.depth p.tag.constructed p.content vs
    → trace_list_in p ≡ Ok vs
unfolding trace_list_in
trace_list_full vs p h = list_full is_sequence trace_in SpellsTraceItem item_full 0 512 p vs h
