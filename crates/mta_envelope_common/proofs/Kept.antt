-- What was read of a trace and of a list of extension fields stands in the level of its place.
use Rattle.std.proofs.Common.{ℕ, ◌+◌, ◌≤◌, Bool, List, [], Option, Some, None, sym, subst, arith}
use Rattle.std.specs.Prelude.{IfSome, unwrap_or}
use Rattle.mta_names.specs.Lists.{is_sequence}
use Rattle.mta_names.specs.Strings.{AddsItem}
use Rattle.mta_names.specs.Values.{Each}
use Rattle.mta_names.proofs.Kept.{KeepsAt, spelled_kept}
use Rattle.mta_names.proofs.Tools.{each_more}
use Rattle.mta_fields.specs.declared.extension.ExtFields.{ExtFields}
use Rattle.mta_fields.specs.declared.trace.TraceFields.{TraceFields}
use Rattle.mta_fields.specs.ExtensionFields.{IsExtField}
use Rattle.mta_fields.specs.Laws.{IsWholeTrace, KeepsTrace, KeepsExtField}
use Rattle.mta_fields.proofs.ExtLaws.{ext_is}
use Rattle.mta_fields.proofs.Kept.{extension_field_kept, trace_kept, trace_whole}
use Rattle.mta_envelope_common.specs.ExtensionLists.{SpellsExtItem, SpellsExtList}
use Rattle.mta_envelope_common.specs.TraceLists.{SpellsTraceItem, SpellsTraceList}

-- ---- traces

-- each is a trace element, and keeps what it keeps in the level `depth`
pub record AreKeptTraces (depth : ℕ) (vs : List TraceFields) : Type 0 where
  pub traces : Each IsWholeTrace vs
  pub kept : Each (KeepsTrace depth) vs

trace_more : (depth : ℕ) → KeepsAt (AddsItem is_sequence SpellsTraceItem) (AreKeptTraces depth) depth
trace_more depth s t tag content octets stands m h =
    let v = m.item in
    subst (AreKeptTraces depth) (sym m.after_is) (record {
      traces = each_more IsWholeTrace s v h.traces (trace_whole depth tag content v m.spelled);
      kept = each_more (KeepsTrace depth) s v h.kept (trace_kept depth tag content v m.spelled);
    })

pub trace_list_kept : (depth : ℕ) (c : Bool) (content : List ℕ) (vs : List TraceFields)
    → SpellsTraceList depth c content vs → AreKeptTraces (depth + 1) vs
trace_list_kept depth c content vs h =
    spelled_kept (AddsItem is_sequence SpellsTraceItem) (AreKeptTraces (depth + 1)) depth
    (trace_more (depth + 1)) [] vs content h.spelled (record { traces = tt; kept = tt })

-- ---- extension fields

-- each is a field, and keeps its value in the level `depth`
pub record AreKeptFields (depth : ℕ) (vs : List ExtFields) : Type 0 where
  pub fields : Each IsExtField vs
  pub kept : Each (KeepsExtField depth) vs

field_more : (depth : ℕ) → depth + 2 ≤ 16 → KeepsAt (AddsItem is_sequence SpellsExtItem) (AreKeptFields depth) depth
field_more depth d s t tag content octets stands m h =
    let v = m.item in
    subst (AreKeptFields depth) (sym m.after_is) (record {
      fields = each_more IsExtField s v h.fields (ext_is depth tag content v m.spelled);
      kept = each_more (KeepsExtField depth) s v h.kept
          (extension_field_kept depth depth tag content v m.spelled (omega arith) d);
    })

pub ext_list_kept : (depth : ℕ) (c : Bool) (content : List ℕ) (vs : List ExtFields) → SpellsExtList depth c content vs
    → depth + 3 ≤ 16 → AreKeptFields (depth + 1) vs
ext_list_kept depth c content vs h d =
    spelled_kept (AddsItem is_sequence SpellsExtItem) (AreKeptFields (depth + 1)) depth
    (field_more (depth + 1) (omega arith)) [] vs content h.spelled (record { fields = tt; kept = tt })

-- no extensions are the default
pub fields_or_none_kept : (depth : ℕ) (o : Option (List ExtFields)) → IfSome o (AreKeptFields depth)
    → AreKeptFields depth (unwrap_or o [])
fields_or_none_kept depth None h = record { fields = tt; kept = tt }
fields_or_none_kept depth (Some vs) h = h
