-- The kinds of steps, by the first octets of their bodies.
use Rattle.std.proofs.Common.{◌≡◌, ℕ, ◌<◌, List, ◌∷◌, get_or, inl, inr, ⊎_elim, refl, ap, arith}
use Rattle.std.specs.Prelude.{◌⊎◌}
use Rattle.mta_records.specs.State.{SnapshotValue}
use Rattle.mta_records.specs.declared.step.Step.{Step}
use Rattle.mta_records.specs.declared.step.Step.TheVariants as Steps
use Rattle.mta_records.specs.Body.{body_of}

-- another octet stands first
other : (a : ℕ) → a < 24 ⊎ 24 < a → (xs ys : List ℕ) → a ∷ xs ≡ 24 ∷ ys → ⊥
other a apart xs ys e = not_24 (ap (λ (l : List ℕ). get_or l 0 0) e)
  where
    not_24 : a ≡ 24 → ⊥
    not_24 is = ⊎_elim {C = ⊥} (λ (less : a < 24). omega (arith, less, is)) (λ (more : 24 < a). omega (arith, more, is))
        apart

-- a body that begins with the kind octet of snapshots is that of one
pub snapshot_step : (step : Step) (rest : List ℕ) → body_of step ≡ 24 ∷ rest
    → (t : SnapshotValue) × (step ≡ Steps.Snapshot t)
snapshot_step (Steps.Tables text) rest e = absurd (other 1 (inl (omega arith)) _ rest e)
snapshot_step (Steps.Accept moment apdu) rest e = absurd (other 2 (inl (omega arith)) _ rest e)
snapshot_step (Steps.Deliver item recipient moment) rest e = absurd (other 3 (inl (omega arith)) _ rest e)
snapshot_step (Steps.Expand item recipient moment) rest e = absurd (other 4 (inl (omega arith)) _ rest e)
snapshot_step (Steps.Report item recipient moment) rest e = absurd (other 5 (inl (omega arith)) _ rest e)
snapshot_step (Steps.Affirm item recipient moment) rest e = absurd (other 6 (inl (omega arith)) _ rest e)
snapshot_step (Steps.Discard item recipient moment) rest e = absurd (other 7 (inl (omega arith)) _ rest e)
snapshot_step (Steps.Back item recipient moment) rest e = absurd (other 8 (inl (omega arith)) _ rest e)
snapshot_step (Steps.LaneOpen role peer reference twa checkpoint window moment) rest e =
    absurd (other 9 (inl (omega arith)) _ rest e)
snapshot_step (Steps.LaneAgree lane generation checkpoint window) rest e =
    absurd (other 10 (inl (omega arith)) _ rest e)
snapshot_step (Steps.Bind lane generation) rest e = absurd (other 11 (inl (omega arith)) _ rest e)
snapshot_step (Steps.Start lane generation activity item recipients moment) rest e =
    absurd (other 12 (inl (omega arith)) _ rest e)
snapshot_step (Steps.Confirm lane generation activity checkpoint) rest e =
    absurd (other 13 (inl (omega arith)) _ rest e)
snapshot_step (Steps.Ending lane generation activity) rest e = absurd (other 14 (inl (omega arith)) _ rest e)
snapshot_step (Steps.Sent lane generation activity moment) rest e = absurd (other 15 (inl (omega arith)) _ rest e)
snapshot_step (Steps.Refused lane generation activity fault moment) rest e =
    absurd (other 16 (inl (omega arith)) _ rest e)
snapshot_step (Steps.Denied lane generation activity moment) rest e = absurd (other 17 (inl (omega arith)) _ rest e)
snapshot_step (Steps.Dropped lane generation activity) rest e = absurd (other 18 (inl (omega arith)) _ rest e)
snapshot_step (Steps.Abandon lane activity moment) rest e = absurd (other 19 (inl (omega arith)) _ rest e)
snapshot_step (Steps.Secure lane generation activity number piece) rest e =
    absurd (other 20 (inl (omega arith)) _ rest e)
snapshot_step (Steps.Complete lane generation activity number piece moment) rest e =
    absurd (other 21 (inl (omega arith)) _ rest e)
snapshot_step (Steps.Drop lane generation activity) rest e = absurd (other 22 (inl (omega arith)) _ rest e)
snapshot_step (Steps.CloseLane lane generation) rest e = absurd (other 23 (inl (omega arith)) _ rest e)
snapshot_step (Steps.Snapshot t) rest e = (t, refl)
snapshot_step (Steps.Format version) rest e = absurd (other 25 (inr (omega arith)) _ rest e)
