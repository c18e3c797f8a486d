-- What became of a recipient, in words.
use Rattle.std.specs.Prelude.{ℕ, List, [], ◌∷◌, ◌++◌, Option, Some, None, codes, decimal}
use Rattle.mta_names.specs.declared.attributes.Attributes.{Attributes}
use Rattle.mta_name_text.specs.Forms.{text_form}
use Rattle.mta_apdu_text.specs.Pieces.{moment_text}
use Rattle.mta_apdu_text.specs.Reporteds.{diagnostic_text}
use Rattle.mta_records.specs.declared.state.Status.{Status}
use Rattle.mta_records.specs.declared.state.Status.TheVariants.{Pending, Delivered, Expanded, Sent, Reported, Affirmed}
use Rattle.mta_records.specs.declared.state.Status.TheVariants.{Discarded, Passed}

-- a word, with the space behind it, and when it came to be so
unfoldable pub timed_text : List ℕ → ℕ → List ℕ
timed_text word moment = word ++ moment_text moment

-- when, and to which peer
unfoldable pub sent_text : ℕ → List ℕ → List ℕ
sent_text moment peer = timed_text (codes "sent ") moment ++ 32 ∷ peer

-- when, the reason, and the diagnostic or a dash
unfoldable pub reported_text : ℕ → ℕ → Option ℕ → List ℕ
reported_text moment reason diagnostic =
    timed_text (codes "reported ") moment ++ (32 ∷ decimal reason ++ 32 ∷ diagnostic_text diagnostic)

-- what became of it, in words
abbrev pub status_text : Status → List ℕ
status_text Pending = codes "pending"
status_text (Delivered moment) = timed_text (codes "delivered ") moment
status_text (Expanded moment) = timed_text (codes "expanded ") moment
status_text (Sent moment peer) = sent_text moment peer
status_text (Reported moment reason diagnostic) = reported_text moment reason diagnostic
status_text (Affirmed moment) = timed_text (codes "affirmed ") moment
status_text (Discarded moment) = timed_text (codes "discarded ") moment
status_text (Passed moment) = timed_text (codes "passed ") moment

unfoldable pub status_line : ℕ → Status → Attributes → List ℕ
status_line number status name =
    codes "recipient "
    ++ (decimal number ++ (32 ∷ status_text status ++ (32 ∷ text_form name ++ 10 ∷ [])))

-- nothing for a recipient that has no status
abbrev pub status_line_if : ℕ → Option Status → Attributes → List ℕ
status_line_if number None name = []
status_line_if number (Some status) name = status_line number status name
