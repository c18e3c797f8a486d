-- What each part of a recipient of whom is reported may be (X.411, PerRecipientReportTransferFields).
use Rattle.std.specs.Prelude.{ℕ, ◌≤◌, IfSome}
use Rattle.mta_ber.specs.Times.{last_moment}
use Rattle.mta_names.specs.Bounded.{IsCode}
use Rattle.mta_names.specs.Values.{IsRaw}
use Rattle.mta_envelope_common.specs.Indicators.{IsIndicators}
use Rattle.mta_report_recipient.specs.declared.outcome.Outcome.{Outcome}
use Rattle.mta_report_recipient.specs.declared.outcome.Outcome.TheVariants.{Delivery, NonDelivery}
use Rattle.mta_report_recipient.specs.declared.last.LastTrace.{LastTrace}
use Rattle.mta_report_recipient.specs.declared.reported.ReportedFields.{ReportedFields}

-- a moment that a UTCTime can say
abbrev pub IsMoment : ℕ → Type 0
IsMoment m = m ≤ last_moment

-- the number of a recipient
abbrev pub IsNumber : ℕ → Type 0
IsNumber n = (1 ≤ n) × (n ≤ 32767)

abbrev pub IsOutcome : Outcome → Type 0
IsOutcome (Delivery moment user) = IsMoment moment × IsCode user
IsOutcome (NonDelivery reason diagnostic) = IsCode reason × IfSome diagnostic IsCode

pub record IsLast (v : LastTrace) : Type 0 where
  pub arrival : IsMoment v.arrival
  pub converted : IfSome v.converted (IsRaw 1 5)
  pub outcome : IsOutcome v.outcome

pub record IsReported (v : ReportedFields) : Type 0 where
  pub number : IsNumber v.number
  pub indicators : IsIndicators v.indicators
  pub arrival : IsMoment v.arrival
  pub converted : IfSome v.converted (IsRaw 1 5)
  pub outcome : IsOutcome v.outcome
  pub supplementary : IfSome v.supplementary (IsRaw 2 5)
