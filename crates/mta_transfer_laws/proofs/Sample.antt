-- Two sessions that send a message, and a world that has them.
use Rattle.std.proofs.Common.{◌≡◌, ◌⊎◌, ◌≤◌, ◌==◌, ℕ, Bool, inl, inr, true, false, Some, None, slice_get, zero, suc, []}
use Rattle.std.proofs.Common.{◌∷◌, refl, arith}
use Rattle.std.proofs.lemmas.Bool.{eqb-true}
use Rattle.mta_lane_send.specs.declared.state.SendState.TheVariants as state
use Rattle.mta_lane_recv.specs.declared.state.Last.TheVariants as last
use Rattle.mta_rtse.specs.declared.types.Answer.{Answer}
use Rattle.mta_units.specs.declared.unit.OpenUnit.{OpenUnit}
use Rattle.mta_transfer_rules.specs.Units as u
use Rattle.mta_transfer_rules.specs.Sending as s
use Rattle.mta_transfer_rules.specs.Receiving as r
use Rattle.mta_world.specs.Steps as step
use Rattle.mta_world.specs.World.{Whole}
use Rattle.mta_transfer_rules.specs.Lanes.{On, LanesAllow}
use Rattle.mta_transfer_laws.specs.Covering as covering
use Rattle.mta_transfer_laws.specs.ReceivingOrder as received
use Rattle.mta_transfer_laws.specs.Receivings as receiving
use Rattle.mta_transfer_rules.specs.Lanes as h
use Rattle.mta_transfer_laws.specs.Sendings as sending
use Rattle.mta_transfer_laws.specs.Sessions.{IsGoodSession}
use Rattle.mta_transfer_laws.specs.Run.{SendsIn}
use Rattle.mta_transfer_laws.specs.Examples.{steps, three, first_session, second_session, both, happened, at_first}
use Rattle.mta_transfer_laws.specs.Examples.{TwoSessionsSend}

none : (y : u.LaneUnit) → None ≡ Some y → ⊥
none y e = cc

next-quiet : (k n : ℕ) → s.Next k n ≡ s.Quiet → ⊥
next-quiet k n e = cc

resume-quiet : (k n : ℕ) → s.Resume_put k n ≡ s.Quiet → ⊥
resume-quiet k n e = cc

end-quiet : (k n : ℕ) → s.End_put k n ≡ s.Quiet → ⊥
end-quiet k n e = cc

never : (p : ℕ) → slice_get steps p ≡ Some (On 0 (h.Abandon 1)) → ⊥
never zero e = cc
never (suc zero) e = cc
never (suc (suc zero)) e = cc
never (suc (suc (suc zero))) e = cc
never (suc (suc (suc (suc zero)))) e = cc
never (suc (suc (suc (suc (suc zero))))) e = cc
never (suc (suc (suc (suc (suc (suc zero)))))) e = cc
never (suc (suc (suc (suc (suc (suc (suc zero))))))) e = cc
never (suc (suc (suc (suc (suc (suc (suc (suc zero)))))))) e = cc
never (suc (suc (suc (suc (suc (suc (suc (suc (suc p))))))))) e = cc

module _ (proposal : OpenUnit) (size window : ℕ) (answer : Answer) where
  pub good_first : IsGoodSession (λ o. true) steps 0 2 1 true (first_session proposal size window answer)
  good_first = record {
    begun = omega arith;
    stands = (refl, (refl, (refl, (refl, tt))));
    never_fall = (omega arith, (omega arith, (omega arith, (omega arith, tt))));
    sending = record {
      plain = (tt, (tt, (tt, (tt, (tt, (tt, (tt, (tt, (tt, (tt, tt))))))))));
      last_end = record {
        state = state.Ending 1 1;
        octets = three;
        size = 2;
        window = 1;
        accepted = true;
        stage =
            s.End_put 1 2;
        heard = None;
      };
      allowed = (
        tt,
        (
          (refl, refl, omega arith),
          (
            ((λ t. refl), (refl, refl)),
            (
              ((λ t. refl), (1, 0, refl, refl, omega arith, refl)),
              (
                ((λ t. refl), (1, refl, refl)),
                (
                  tt,
                  (
                    (u.SyncAck 1, refl, (refl, refl, omega arith, omega arith)),
                    (((λ t. refl), (1, 1, refl, refl, omega arith, refl)), (refl, (((λ t. refl), (2, refl, refl)), refl))),
                  ),
                ),
              ),
            ),
          ),
        ),
      );
    };
    receiving = record {
      plain = tt;
      last_end =
          record { high = 0; last = last.None; stage = r.Free; from = 0; acked = 0 };
      allowed = refl;
      findings = tt;
    };
    turn = (tt, (tt, (tt, (tt, (tt, (tt, (tt, (tt, (tt, (tt, (tt, (tt, tt))))))))))));
    rests = (
      tt,
      (
        ((λ y st e c. none y e), tt),
        (
          tt,
          (
            tt,
            (
              tt,
              (
                tt,
                (
                  tt,
                  (
                    (((λ e. next-quiet 1 1 e), ((λ y st e c. none y e), (refl, refl))), tt),
                    (tt, (tt, (tt, (tt, tt)))),
                  ),
                ),
              ),
            ),
          ),
        ),
      ),
    );
    refuses = tt;
    placed = (
      tt,
      (
        tt,
        (
          tt,
          (
            (omega arith, (λ i. absurd (let c : false ≡ true = i in cc))),
            (
              tt,
              (
                tt,
                (
                  tt,
                  (
                    tt,
                    (
                      (omega arith, (λ i p a b. never p)),
                      (tt, ((omega arith, (λ i p a b. never p)), (tt, tt))),
                    ),
                  ),
                ),
              ),
            ),
          ),
        ),
      ),
    );
  }

  pub good_second : IsGoodSession (λ o. true) steps 0 2 1 true (second_session proposal size window answer)
  good_second = record {
    begun = omega arith;
    stands = (refl, (omega arith, (refl, tt)));
    never_fall = (omega arith, (omega arith, (omega arith, tt)));
    sending = record {
      plain = (tt, (tt, (tt, (tt, (tt, (tt, (tt, tt)))))));
      last_end = record {
        state = state.Idle 1;
        octets = three;
        size = 2;
        window = 1;
        accepted = true;
        stage = s.Quiet;
        heard = None;
      };
      allowed = (
        tt,
        (
          ((λ t. refl), (refl, refl, omega arith, refl)),
          (
            tt,
            (
              ((λ t. refl), (1, 1, refl, refl, omega arith, refl)),
              (((λ t. refl), (2, refl, refl)), (tt, ((u.EndAck 1, refl, refl), refl))),
            ),
          ),
        ),
      );
    };
    receiving = record {
      plain = tt;
      last_end =
          record { high = 0; last = last.None; stage = r.Free; from = 0; acked = 0 };
      allowed = refl;
      findings = tt;
    };
    turn = (tt, (tt, (tt, (tt, (tt, (tt, (tt, (tt, (tt, (tt, (tt, (tt, tt))))))))))));
    rests = (
      tt,
      (
        ((λ y st e c. none y e), tt),
        (
          tt,
          (
            (((λ e. resume-quiet 1 1 e), ((λ y st e c. none y e), refl)), tt),
            (
              tt,
              (
                tt,
                (
                  (((λ e. end-quiet 1 2 e), ((λ y st e c. none y e), tt)), tt),
                  (tt, (tt, (tt, (((λ y st e c. none y e), tt), (tt, tt))))),
                ),
              ),
            ),
          ),
        ),
      ),
    );
    refuses = tt;
    placed = (
      tt,
      (
        tt,
        (
          tt,
          (
            tt,
            (
              tt,
              (tt, (tt, ((omega arith, (λ i. absurd (let c : false ≡ true = i in cc))), (tt, (tt, (tt, (tt, tt))))))),
            ),
          ),
        ),
      ),
    );
  }

  pub sent : SendsIn (λ o. true) [] steps 0 2 1 true (both proposal size window answer) at_first happened
  sent = record {
    run = step.Begins true 2 1;
    begins = record { state = refl; octets = λ i. refl };
    size_agreed = refl;
    window_agreed = refl;
    role = refl;
    order = sending.Stands 0 _ (sending.Stands 1 _ sending.Ends);
    fits = (
      (refl, refl),
      (
        (refl, omega arith, refl),
        (
          (refl, refl),
          (
            ((refl, refl), Whole),
            (
              (refl, refl),
              (
                (refl, refl),
                (
                  (refl, refl),
                  (
                    (refl, refl),
                    (
                      ((refl, refl), Whole),
                      (
                        ((refl, refl), Whole),
                        (
                          ((refl, refl), Whole),
                          (
                            (refl, refl),
                            (
                              (refl, refl),
                              (
                                ((refl, refl), Whole),
                                (
                                  (refl, refl),
                                  (
                                    (refl, refl),
                                    (
                                      (refl, refl),
                                      (
                                        (refl, refl),
                                        (
                                          tt,
                                          (
                                            (refl, refl),
                                            (
                                              (refl, omega arith, refl),
                                              (
                                                (refl, refl),
                                                (
                                                  ((refl, refl), Whole),
                                                  (
                                                    (refl, refl),
                                                    (
                                                      ((refl, refl), Whole),
                                                      (
                                                        (refl, refl),
                                                        (
                                                          ((refl, refl), Whole),
                                                          (
                                                            (refl, refl),
                                                            (
                                                              (refl, refl),
                                                              (
                                                                ((refl, refl), Whole),
                                                                (
                                                                  ((refl, refl), Whole),
                                                                  (
                                                                    (refl, refl),
                                                                    ((refl, refl), (((refl, refl), Whole), ((refl, refl), tt))),
                                                                  ),
                                                                ),
                                                              ),
                                                            ),
                                                          ),
                                                        ),
                                                      ),
                                                    ),
                                                  ),
                                                ),
                                              ),
                                            ),
                                          ),
                                        ),
                                      ),
                                    ),
                                  ),
                                ),
                              ),
                            ),
                          ),
                        ),
                      ),
                    ),
                  ),
                ),
              ),
            ),
          ),
        ),
      ),
    );
    other = (
      tt,
      (
        tt,
        (
          (tt, (λ e c. refl)),
          (
            tt,
            (
              tt,
              (
                tt,
                (
                  tt,
                  (
                    tt,
                    (
                      (_, refl),
                      (
                        (_, refl),
                        (
                          (_, refl),
                          (
                            (refl, (refl, refl), tt),
                            (
                              ((1, (refl, omega arith), omega arith, refl), (λ e c. refl)),
                              (
                                tt,
                                (
                                  tt,
                                  (
                                    tt,
                                    (
                                      tt,
                                      (
                                        tt,
                                        (
                                          tt,
                                          (
                                            tt,
                                            (
                                              tt,
                                              (
                                                (tt, (λ e c. refl)),
                                                (
                                                  tt,
                                                  (
                                                    tt,
                                                    (
                                                      (_, refl),
                                                      (
                                                        ((refl, omega arith, refl), (λ e c. refl)),
                                                        (
                                                          tt,
                                                          (
                                                            tt,
                                                            (
                                                              tt,
                                                              (
                                                                (_, refl),
                                                                (
                                                                  (_, refl),
                                                                  (
                                                                    (refl, (refl, refl), refl),
                                                                    (
                                                                      ((2, 3 ∷ [], refl, refl), (λ e c. refl)),
                                                                      (tt, (tt, tt)),
                                                                    ),
                                                                  ),
                                                                ),
                                                              ),
                                                            ),
                                                          ),
                                                        ),
                                                      ),
                                                    ),
                                                  ),
                                                ),
                                              ),
                                            ),
                                          ),
                                        ),
                                      ),
                                    ),
                                  ),
                                ),
                              ),
                            ),
                          ),
                        ),
                      ),
                    ),
                  ),
                ),
              ),
            ),
          ),
        ),
      ),
    );
  }

  other-lane : (lane : ℕ) (b : Bool) → (0 == suc lane) ≡ b → b ≡ false
  other-lane lane true e = absurd (let c : 0 ≡ suc lane = eqb-true 0 (suc lane) e in omega (arith, c))
  other-lane lane false e = refl

  possible : LanesAllow (λ o. true) steps
  possible zero = (
    refl,
    (
      (refl, refl),
      (
        ((refl, refl), refl, refl, omega arith, omega arith),
        (
          ((refl, refl), refl, omega arith, refl),
          (((refl, refl), refl), ((refl, refl), (((refl, refl), refl), (((refl, refl), refl), tt)))),
        ),
      ),
    ),
  )
  possible (suc lane) = let e : (0 == suc lane) ≡ false = other-lane lane (0 == suc lane) refl in rw e tt

  owned-sending : (p : ℕ) (y : sending.HalfStep) → 0 ≤ p → covering.step_at steps 0 p ≡ y ∷ []
      → covering.HasPosition p (covering.placed_lists 0 (both proposal size window answer))
      ⊎ (y ≡ sending.Makes s.Abandon)
  owned-sending zero y le e = inl (inl refl)
  owned-sending (suc zero) y le e = absurd (let c : [] ≡ y ∷ [] = e in cc)
  owned-sending (suc (suc zero)) y le e = inl (inr (inl refl))
  owned-sending (suc (suc (suc zero))) y le e = inl (inr (inr (inl refl)))
  owned-sending (suc (suc (suc (suc zero)))) y le e = absurd (let c : [] ≡ y ∷ [] = e in cc)
  owned-sending (suc (suc (suc (suc (suc zero))))) y le e = inl (inr (inr (inr (inl refl))))
  owned-sending (suc (suc (suc (suc (suc (suc zero)))))) y le e = inl (inr (inr (inr (inr (inl refl)))))
  owned-sending (suc (suc (suc (suc (suc (suc (suc zero))))))) y le e = inl (inr (inr (inr (inr (inr (inl refl))))))
  owned-sending (suc (suc (suc (suc (suc (suc (suc (suc zero)))))))) y le e = absurd (let c : [] ≡ y ∷ [] = e in cc)
  owned-sending (suc (suc (suc (suc (suc (suc (suc (suc (suc p))))))))) y le e = absurd (let c : [] ≡ y ∷ [] = e in cc)

  owned-receiving : (p : ℕ) (y : receiving.HalfStep) → 0 ≤ p → received.step_at steps 0 p ≡ y ∷ []
      → received.HasPosition p (received.placed_lists 0 (both proposal size window answer))
  owned-receiving zero y le e = inl refl
  owned-receiving (suc zero) y le e = absurd (let c : [] ≡ y ∷ [] = e in cc)
  owned-receiving (suc (suc zero)) y le e = absurd (let c : [] ≡ y ∷ [] = e in cc)
  owned-receiving (suc (suc (suc zero))) y le e = absurd (let c : [] ≡ y ∷ [] = e in cc)
  owned-receiving (suc (suc (suc (suc zero)))) y le e = absurd (let c : [] ≡ y ∷ [] = e in cc)
  owned-receiving (suc (suc (suc (suc (suc zero))))) y le e = absurd (let c : [] ≡ y ∷ [] = e in cc)
  owned-receiving (suc (suc (suc (suc (suc (suc zero)))))) y le e = inr (inl refl)
  owned-receiving (suc (suc (suc (suc (suc (suc (suc zero))))))) y le e = absurd (let c : [] ≡ y ∷ [] = e in cc)
  owned-receiving (suc (suc (suc (suc (suc (suc (suc (suc zero)))))))) y le e = absurd (let c : [] ≡ y ∷ [] = e in cc)
  owned-receiving (suc (suc (suc (suc (suc (suc (suc (suc (suc p))))))))) y le e =
      absurd (let c : [] ≡ y ∷ [] = e in cc)

  owns-sending : covering.Owns steps 0 0 (both proposal size window answer)
  owns-sending = record {
    binds = (refl, (refl, tt));
    rise =
        (omega arith, (omega arith, (omega arith, (omega arith, (omega arith, (omega arith, tt))))));
    owned =
        owned-sending;
  }

  owns-receiving : received.Owns steps 0 0 (both proposal size window answer)
  owns-receiving = record {
    binds = (refl, good_first.stands, (refl, good_second.stands, tt));
    rise =
        (omega arith, (omega arith, tt));
    owned = owned-receiving;
  }

  pub two : (TwoSessionsSend proposal size window answer)
  two = record {
    possible = possible;
    owns_sending = owns-sending;
    owns_receiving = owns-receiving;
    good =
        (good_first, (good_second, tt));
    sends = sent;
    once = refl;
    sent = refl;
  }
