-- The texts of APDUs: of a message, a probe or a report.
use Rattle.std.specs.Prelude.{ℕ, List}
use Rattle.mta_apdu.specs.Apdus.{ApduValue, message, probe, report}
use Rattle.mta_apdu_text.specs.Envelopes.{message_text, probe_text}
use Rattle.mta_apdu_text.specs.Reports.{report_text}

abbrev pub apdu_text : ApduValue → List ℕ
apdu_text (message m) = message_text m
apdu_text (probe e) = probe_text e
apdu_text (report r) = report_text r
