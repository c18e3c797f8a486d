-- A seat that sits down or stands up.
use Rattle.std.proofs.Common.{◌≡◌, ℕ, ◌<◌, ◌≤◌, List, [], Option, refl, sym, ap, ◌∙◌, subst, arith}
use Rattle.atomic_table.specs.Table.{Me}
use Rattle.mta_shared.specs.declared.history.View.{View}
use Rattle.mta_shared.specs.declared.history.Base.{Base}
use Rattle.mta_shared.specs.Rule.{IsFree, IsSound, Agrees, opened, less_one, one_part, after_turn, both, settled, Grows}
use Rattle.mta_shared.specs.Passes.{Sits}
use Rattle.mta_shared.proofs.Sound.{sound_opened, sound_less, sound_part, sound_after, sound_both}
use Rattle.mta_shared.proofs.Steps.{grows_prefix}

module _ {E V : Type 0} where
  pub sits_opened : (from : ℕ) (base : Base) (xs : List E) (m : Me (Option V) (View E)) → m ≡ (opened from base xs, [])
      → Sits m
  sits_opened from base xs m is =
      subst (λ (x : Me (Option V) (View E)). Sits x) (sym is)
      (record {
        empty = refl;
        free = record { no_ticket = refl; no_turn = refl; no_met = refl; alive = omega arith };
        sound = sound_opened from base xs;
      })

  pub sits_less : (v m : Me (Option V) (View E)) → m ≡ (less_one v.0, v.1) → Sits v → 2 ≤ v.0.parts → Sits m
  sits_less v m is s two = subst (λ (x : Me (Option V) (View E)). Sits x) (sym is)
      (record {
        empty = s.empty;
        free =
            record { no_ticket = s.free.no_ticket; no_turn = s.free.no_turn; no_met = s.free.no_met; alive = omega arith };
        sound = sound_less v.0 s.sound;
      })

  pub sits_part : (v m : Me (Option V) (View E)) → m ≡ (one_part v.0, []) → Sits v → Sits m
  sits_part v m is s = subst (λ (x : Me (Option V) (View E)). Sits x) (sym is)
      (record {
        empty = refl;
        free = record {
          no_ticket = s.free.no_ticket;
          no_turn = s.free.no_turn;
          no_met =
              s.free.no_met;
          alive = omega arith;
        };
        sound = sound_part v.0;
      })

  pub sits_after : (xs : List E) (v m : Me (Option V) (View E)) → m ≡ (after_turn xs v.0, []) → 0 < v.0.parts
      → v.0.met ≡ [] → Grows v.0.seen xs → IsSound v.0 → Sits m
  sits_after xs v m is alive no_met grows sound =
      subst (λ (x : Me (Option V) (View E)). Sits x) (sym is)
      (record {
        empty = refl;
        free = record { no_ticket = refl; no_turn = refl; no_met = no_met; alive = alive };
        sound = sound_after v.0 xs (grows_prefix v.0.seen xs grows) sound;
      })

  pub sits_joined : (v w j m : Me (Option V) (View E)) → j ≡ (both v.0 w.0, v.1) → m ≡ (settled j.0, j.1) → Agrees j.0
      → Sits v → Sits w → Sits m
  sits_joined v w j m is is' a s t =
      let e : m.0 ≡ settled (both v.0 w.0) = ap (λ x. x.0) is' ∙ ap settled (ap (λ x. x.0) is) in
      let f : IsFree (settled (both v.0 w.0)) =
      record {
        no_ticket = s.free.no_ticket;
        no_turn = s.free.no_turn;
        no_met = refl;
        alive =
            let h : 0 < v.0.parts = s.free.alive in omega arith;
      } in
      record {
        empty = ap (λ x. x.1) is' ∙ (ap (λ x. x.1) is ∙ s.empty);
        free = subst (λ (x : View E). IsFree x) (sym e) f;
        sound = sound_both v.0 w.0 m.0 e (subst (λ (x : View E). Agrees x) (ap (λ x. x.0) is) a) s.sound t.sound;
      }
