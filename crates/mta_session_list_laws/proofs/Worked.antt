-- The worked rows hold.
use Rattle.std.proofs.Common.{refl, arith}
use Rattle.mta_session_list_laws.specs.Examples.{TakesOne, GivesUp, Resumes}

pub takes_one : TakesOne
takes_one = record {
  true_ = (
    refl,
    (
      refl,
      (
        refl,
        (
          refl,
          (
            (tt, record { later = omega arith; entry = refl }),
            (refl, (refl, ((tt, record { later = omega arith; entry = refl }), (refl, tt)))),
          ),
        ),
      ),
    ),
  );
  list = refl;
}

pub gives_up : GivesUp
gives_up = record {
  true_ = (
    refl,
    (
      refl,
      (
        refl,
        (
          (tt, record { later = omega arith; entry = refl }),
          (
            (tt, record { later = omega arith; within = omega arith; told = tt }),
            (
              (tt, record { later = omega arith; entry = refl }),
              (
                refl,
                (
                  refl,
                  (
                    (tt, record { later = omega arith; within = omega arith; told = tt }),
                    (
                      (tt, record { later = omega arith; within = omega arith; told = refl }),
                      (refl, (refl, ((tt, record { later = omega arith; entry = refl }), tt))),
                    ),
                  ),
                ),
              ),
            ),
          ),
        ),
      ),
    ),
  );
  list = refl;
  completed = refl;
}

pub resumes : Resumes
resumes = refl
