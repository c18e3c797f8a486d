use Rattle.std.proofs.Common.{sym, subst, ◌≤◌}
use Rattle.std.specs.Prelude.{IfSome}
use Rattle.mta_ber.specs.Times.{last_moment}
use Rattle.mta_records.specs.declared.step.Step.{Step}
use Rattle.mta_records.specs.Body.{HasFields}
use Rattle.mta_histories.specs.Classes.{moment_of}
use Rattle.mta_spool.proofs.due.same.Goals as goal

pub returns-in-Deliver-clause-fields : goal.returns-in-Deliver-clause-fields
returns-in-Deliver-clause-fields c =
    subst HasFields (sym c.in-Deliver.is) (
      c.numbers_fit.ensures.first,
      (
        c.numbers_fit.ensures.second,
        subst (λ (s : Step). IfSome (moment_of s) (λ m. m ≤ last_moment)) c.in-Deliver.is c.requires.fits,
      ),
    )

pub returns-in-Expand-clause-fields : goal.returns-in-Expand-clause-fields
returns-in-Expand-clause-fields c =
    subst HasFields (sym c.in-Expand.is) (
      c.numbers_fit-in-Expand.ensures.first,
      (
        c.numbers_fit-in-Expand.ensures.second,
        subst (λ (s : Step). IfSome (moment_of s) (λ m. m ≤ last_moment)) c.in-Expand.is c.requires.fits,
      ),
    )

pub returns-in-Report-clause-fields : goal.returns-in-Report-clause-fields
returns-in-Report-clause-fields c =
    subst HasFields (sym c.in-Report.is) (
      c.numbers_fit-in-Report.ensures.first,
      (
        c.numbers_fit-in-Report.ensures.second,
        subst (λ (s : Step). IfSome (moment_of s) (λ m. m ≤ last_moment)) c.in-Report.is c.requires.fits,
      ),
    )

pub returns-in-Affirm-clause-fields : goal.returns-in-Affirm-clause-fields
returns-in-Affirm-clause-fields c =
    subst HasFields (sym c.in-Affirm.is) (
      c.numbers_fit-in-Affirm.ensures.first,
      (
        c.numbers_fit-in-Affirm.ensures.second,
        subst (λ (s : Step). IfSome (moment_of s) (λ m. m ≤ last_moment)) c.in-Affirm.is c.requires.fits,
      ),
    )

pub returns-in-Discard-clause-fields : goal.returns-in-Discard-clause-fields
returns-in-Discard-clause-fields c =
    subst HasFields (sym c.in-Discard.is) (
      c.numbers_fit-in-Discard.ensures.first,
      (
        c.numbers_fit-in-Discard.ensures.second,
        subst (λ (s : Step). IfSome (moment_of s) (λ m. m ≤ last_moment)) c.in-Discard.is c.requires.fits,
      ),
    )

pub returns-in-Back-clause-fields : goal.returns-in-Back-clause-fields
returns-in-Back-clause-fields c =
    subst HasFields (sym c.in-Back.is) (
      c.numbers_fit-in-Back.ensures.first,
      (
        c.numbers_fit-in-Back.ensures.second,
        subst (λ (s : Step). IfSome (moment_of s) (λ m. m ≤ last_moment)) c.in-Back.is c.requires.fits,
      ),
    )

pub returns-in-Abandon-clause-fields : goal.returns-in-Abandon-clause-fields
returns-in-Abandon-clause-fields c =
    subst HasFields (sym c.in-Abandon.is) (
      c.numbers_fit-in-Abandon.ensures.first,
      (
        c.numbers_fit-in-Abandon.ensures.second,
        subst (λ (s : Step). IfSome (moment_of s) (λ m. m ≤ last_moment)) c.in-Abandon.is c.requires.fits,
      ),
    )
