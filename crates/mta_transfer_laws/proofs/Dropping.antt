-- A session whose activity another pass gives up, and lists that are not good.
use Rattle.std.proofs.Common.{◌≡◌, ℕ, true, false, Some, None, [], refl, sym, subst, inr, arith}
use Rattle.mta_lane_send.specs.declared.state.SendState.TheVariants as state
use Rattle.mta_lane_recv.specs.declared.state.Last.TheVariants as last
use Rattle.mta_rtse.specs.declared.types.Answer.{Answer}
use Rattle.mta_units.specs.declared.unit.OpenUnit.{OpenUnit}
use Rattle.mta_transfer_rules.specs.Units as u
use Rattle.mta_transfer_rules.specs.Sending as s
use Rattle.mta_transfer_rules.specs.Receiving as r
use Rattle.mta_transfer_laws.specs.Examples.{three, ASessionDrops, ALateAbandonIsNotGood, AnUnconfirmedSyncIsNotGood}
use Rattle.mta_transfer_laws.specs.Examples.{ACrossedCloseIsGood, AnUnclosedLaneIsGood}

none : (y : u.LaneUnit) → None ≡ Some y → ⊥
none y e = cc

next-quiet : (k n : ℕ) → s.Next k n ≡ s.Quiet → ⊥
next-quiet k n e = cc

discard-quiet : (k : ℕ) → s.Discard_put k ≡ s.Quiet → ⊥
discard-quiet k e = cc

accept_calls : (e : s.SendEnd) (step : s.SendStep) → s.IsCalledBy e step u.Accept → ⊥
accept_calls e (s.Start octets) c = c
accept_calls e any1 c = c

-- Accept calls for no step
heard_accept : (e : s.SendEnd) (y : u.LaneUnit) (step : s.SendStep) → Some u.Accept ≡ Some y
    → s.IsCalledBy e step y → ⊥
heard_accept e y step h c =
    let same : u.Accept ≡ y = cc in
    accept_calls e step (subst (s.IsCalledBy e step) (sym same) c)

module _ (proposal : OpenUnit) (size window : ℕ) (answer : Answer) where
  pub drops : (ASessionDrops proposal size window answer)
  drops = record {
    begun = omega arith;
    stands = (refl, (refl, (refl, (omega arith, (omega arith, (refl, tt))))));
    never_fall = (omega arith, (omega arith, (tt, (omega arith, (omega arith, (omega arith, tt))))));
    sending = record {
      plain = (tt, (tt, (tt, (tt, (tt, (tt, (tt, (tt, (tt, (tt, tt))))))))));
      last_end = record {
        state = state.Idle 1;
        octets = three;
        size = 2;
        window = 1;
        accepted = true;
        stage = s.Quiet;
        heard = None;
      };
      allowed = (
        tt,
        (
          (refl, refl, omega arith),
          (
            ((λ t. refl), (refl, refl)),
            (
              ((λ t. refl), (1, 0, refl, refl, omega arith, refl)),
              (
                ((λ t. refl), (1, refl, refl)),
                (tt, (refl, (((λ t. refl), inr (refl, refl)), (tt, ((u.DiscardAck 1, refl, refl), refl))))),
              ),
            ),
          ),
        ),
      );
    };
    receiving = record {
      plain = tt;
      last_end =
          record { high = 0; last = last.None; stage = r.Free; from = 0; acked = 0 };
      allowed = refl;
      findings = tt;
    };
    turn = (tt, (tt, (tt, (tt, (tt, (tt, (tt, (tt, (tt, (tt, (tt, (tt, (tt, (tt, tt))))))))))))));
    rests = (
      tt,
      (
        ((λ y st e c. none y e), tt),
        (
          tt,
          (
            tt,
            (
              tt,
              (
                tt,
                (
                  tt,
                  (
                    (((λ e. next-quiet 1 1 e), ((λ y st e c. none y e), (refl, refl))), tt),
                    (tt, (tt, (tt, (tt, ((((λ e. discard-quiet 1 e), ((λ y st e c. none y e), tt)), tt), (tt, tt)))))),
                  ),
                ),
              ),
            ),
          ),
        ),
      ),
    );
    refuses = tt;
    placed = (
      tt,
      (
        tt,
        (
          tt,
          (
            (omega arith, (λ i. absurd (let c : false ≡ true = i in cc))),
            (
              tt,
              (
                tt,
                (
                  tt,
                  (
                    tt,
                    (
                      (omega arith, (λ i p a b e. absurd (omega (arith, a, b)))),
                      (
                        (omega arith, (λ i. absurd (let c : false ≡ true = i in cc))),
                        (
                          (omega arith, (λ i. absurd (let c : false ≡ true = i in cc))),
                          (tt, (tt, ((omega arith, (λ i. absurd (let c : false ≡ true = i in cc))), tt))),
                        ),
                      ),
                    ),
                  ),
                ),
              ),
            ),
          ),
        ),
      ),
    );
  }

  -- the look of length 4 has the Abandon at 3
  pub late : (ALateAbandonIsNotGood proposal size window answer)
  late g = g.placed.1.1.1.1.1.1.1.1.0.1 refl 3 (omega arith) (omega arith) refl

  -- SyncAck calls for Confirm
  pub idle : (AnUnconfirmedSyncIsNotGood proposal size window answer)
  idle g = g.rests.1.1.1.1.1.1.1.1.0.0.1.0 (u.SyncAck 1) (s.Confirm 1) refl (refl, refl, omega arith, omega arith)

  -- Give behind the Close gives the turn
  pub crosses : (ACrossedCloseIsGood proposal size window answer)
  crosses = record {
    begun = omega arith;
    stands = (refl, tt);
    never_fall = (omega arith, tt);
    sending = record {
      plain = (tt, (tt, tt));
      last_end = record {
        state = state.Sending 1 0;
        octets = three;
        size = 2;
        window = 1;
        accepted = true;
        stage = s.Next 1 0;
        heard = None;
      };
      allowed = ((refl, refl, omega arith), (((λ t. refl), (refl, refl)), refl));
    };
    receiving = record {
      plain = (tt, tt);
      last_end = record { high = 0; last = last.None; stage = r.Free; from = 0; acked = 0 };
      allowed = (tt, refl);
      findings = (tt, tt);
    };
    turn = (tt, (tt, (tt, (tt, (tt, (tt, tt))))));
    rests = (tt, (tt, (((λ y st e c. none y e), tt), (((λ y st e c. none y e), tt), (tt, (tt, tt))))));
    refuses = tt;
    placed = (tt, (tt, (tt, (tt, ((omega arith, (λ i. absurd (let c : false ≡ true = i in cc))), (tt, tt))))));
  }

  agreed_end : s.SendEnd
  agreed_end = record {
    state = state.Idle 0;
    octets = [];
    size = 2;
    window = 1;
    accepted = true;
    stage = s.Quiet;
    heard = Some u.Accept;
  }

  -- an Abort behind CloseAck
  pub unclosed : (AnUnclosedLaneIsGood proposal size window answer)
  unfolding agreed_end
  unclosed = record {
    begun = omega arith;
    stands = (refl, (omega arith, (omega arith, tt)));
    never_fall = (omega arith, (omega arith, (omega arith, tt)));
    sending = record { plain = (tt, tt); last_end = agreed_end; allowed = (tt, refl) };
    receiving = record {
      plain = tt;
      last_end = record { high = 0; last = last.None; stage = r.Free; from = 0; acked = 0 };
      allowed = refl;
      findings = tt;
    };
    turn = (tt, (tt, (tt, (tt, (tt, (tt, (tt, (tt, tt))))))));
    rests = (
      tt,
      (
        ((λ y st e c. none y e), tt),
        (
          tt,
          (
            tt,
            (
              tt,
              (
                ((λ y st e c. heard_accept agreed_end y st e c), tt),
                (tt, (tt, tt)),
              ),
            ),
          ),
        ),
      ),
    );
    refuses = tt;
    placed = (tt, (tt, (tt, (tt, (tt, (tt, (tt, (tt, tt))))))));
  }
