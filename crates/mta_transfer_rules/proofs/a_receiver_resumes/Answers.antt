use Rattle.std.proofs.Common.{[], ◌∷◌, refl, arith}
use Rattle.mta_transfer_rules.proofs.a_receiver_resumes.Goals as goal

pub returns : goal.returns
returns c = (
  tt,
  (
    refl,
    (
      (refl, omega arith, refl),
      (
        refl,
        (
          refl,
          (
            (refl, refl),
            (
              (1, (refl, omega arith), omega arith, refl),
              (
                refl,
                (
                  refl,
                  (
                    (refl, refl),
                    ((3, 5 ∷ [], refl, refl), refl),
                  ),
                ),
              ),
            ),
          ),
        ),
      ),
    ),
  ),
)
