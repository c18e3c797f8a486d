-- Before the first session.
use Rattle.std.proofs.Common.{◌≡◌, ◌≤◌, ℕ, ◌+◌, false, refl, ◌∙◌, ap, arith}
use Rattle.mta_records.specs.Reference.{Identifier}
use Rattle.mta_drill_text.specs.Breaks.{breaks_up_to}
use Rattle.mta_rtse.specs.declared.types.Request.TheVariants as request
use Rattle.mta_units.specs.declared.unit.OpenUnit.{OpenUnit}
use Rattle.std.specs.Prelude.{codes}
use Rattle.mta_drill_laws.specs.Tables.{gold_1}
use Rattle.mta_drill_stage_laws.specs.Sessions.{Before_all, DrillsBegin}
use Rattle.mta_drill_stage_laws.specs.Settings.{IsUntouched, Setting}

-- what the first agent asks on a lane of this reference
abbrev opened_on : Identifier → OpenUnit
opened_on reference = record {
  name = gold_1;
  reference = reference;
  checkpoint = 1;
  window = 2;
  twa = false;
  request = request.Bind gold_1 (codes "from-gold");
}

-- the setting of the first session
abbrev first_of : (before count : ℕ) → Identifier → Setting
first_of before count reference = record {
  before = before;
  count = count;
  reference = reference;
  generation = 1;
  recovering = false;
  opened = opened_on reference;
  given = 0;
  since = 0;
  broken = 0;
}

none_broken : (before : ℕ) → 0 + breaks_up_to before ≡ breaks_up_to (before + 0)
none_broken before =
    let one : 0 + breaks_up_to before ≡ breaks_up_to before = omega arith in
    let same : before ≡ before + 0 = omega arith in
    one ∙ ap breaks_up_to same

none_yet : (m : ℕ) → 0 ≤ m
none_yet m = omega arith

pub drills_begin : DrillsBegin
drills_begin before count reference first second empty none accepted first_moment second_empty second_none has
    second_moment =
    let x = first_of before count reference in
    let marks : IsUntouched x 0 (record { before = before; last = 0; made = 0 }) = record {
      before = refl;
      last = none_yet 0;
      made = none_broken before;
      few = none_yet 0;
      later = none_yet 0;
      since = none_yet 0;
    } in
    Before_all x
    (record { before_is = refl; count_is = refl; reference_is = refl; generation_is = refl }) refl refl
    (record { new = refl; first = refl; opened = refl })
    (record { lanes = empty; count = none; accepted = accepted; moment = first_moment })
    (record { lanes = second_empty; count = second_none; has = has; moment = second_moment }) marks
