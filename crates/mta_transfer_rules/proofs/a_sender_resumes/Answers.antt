use Rattle.std.proofs.Common.{refl, arith}
use Rattle.mta_transfer_rules.specs.Units.{SyncAck, EndAck}
use Rattle.mta_transfer_rules.proofs.a_sender_resumes.Goals as goal

pub returns : goal.returns
returns c = (
  tt,
  (
    ((λ t. refl), (refl, refl, omega arith, refl)),
    (
      tt,
      (
        ((λ t. refl), (1, 1, refl, refl, omega arith, refl)),
        (
          ((λ t. refl), (1, refl, refl)),
          (
            tt,
            (
              (SyncAck 2, refl, (refl, refl, omega arith, omega arith)),
              (
                ((λ t. refl), (1, 2, refl, refl, omega arith, refl)),
                (
                  refl,
                  (
                    ((λ t. refl), (3, refl, refl)),
                    (
                      tt,
                      ((EndAck 1, refl, refl), refl),
                    ),
                  ),
                ),
              ),
            ),
          ),
        ),
      ),
    ),
  ),
)
