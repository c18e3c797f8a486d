-- What a snapshot that fits gives to who writes it.
use Rattle.std.proofs.Common.{◌≡◌, ℕ, ◌<◌, ◌≤◌, ◌^◌, eqb, Bool, List, ◌++◌, length, Option, Some, None, Result, OnOk}
use Rattle.std.proofs.Common.{ap, subst}
use Rattle.std.specs.Int.{w32, w64}
use Rattle.mta_lane_send.specs.declared.state.SendState.{SendState}
use Rattle.mta_lane_send.specs.declared.state.SendState.TheVariants.{Sending, Ending, Dropping}
use Rattle.mta_ber.specs.Times.{last_moment}
use Rattle.mta_records.specs.Fields.{string, a_string}
use Rattle.mta_records.specs.Form.{number_octets, listed, list_of}
use Rattle.mta_records.specs.Snapshots.{item_form, line_form, no_transfer, a_transfer, IsGiven, SendingHalf}
use Rattle.mta_records.specs.Snapshots.{sending_form, lane_form, a_snapshot}
use Rattle.mta_records.specs.State.{Transfer, SnapshotValue}
use Rattle.mta_records.proofs.Appending.{last_of_seven}

-- ---- lanes

few_recipients : (two : Bool) (t : Transfer) → (a_transfer two).Fits t → length t.recipients < 2 ^ 32
unfolding a_transfer
few_recipients two t fits = fits.0.1.0.0

none_given : ◌≡◌ {A = Option Transfer} (Some no_transfer) None → ⊥
none_given e = absurd cc

sending_gives : (two : Bool) (k n : ℕ) (o : Option Transfer) → (sending_form two).Fits (Sending k n, o) → IsGiven o
unfolding sending_form
sending_gives two k n None fits = none_given (ap (λ (h : SendingHalf). h.1) fits.1.1)
sending_gives two k n (Some t) fits = few_recipients two t fits.1.0.1.1

ending_gives : (two : Bool) (k n : ℕ) (o : Option Transfer) → (sending_form two).Fits (Ending k n, o) → IsGiven o
unfolding sending_form
ending_gives two k n None fits = none_given (ap (λ (h : SendingHalf). h.1) fits.1.1)
ending_gives two k n (Some t) fits = few_recipients two t fits.1.0.1.1

dropping_gives : (two : Bool) (k : ℕ) (o : Option Transfer) → (sending_form two).Fits (Dropping k, o) → IsGiven o
unfolding sending_form
dropping_gives two k None fits = none_given (ap (λ (h : SendingHalf). h.1) fits.1.1)
dropping_gives two k (Some t) fits = few_recipients two t fits.1.0.1.1

pub given_sending : (two : Bool) (st : SendState) (o : Option Transfer) (k n : ℕ) → st ≡ Sending k n
    → (sending_form two).Fits (st, o) → IsGiven o
given_sending two st o k n is fits =
    sending_gives two k n o (subst (λ (s : SendState). (sending_form two).Fits (s, o)) is fits)

pub given_ending : (two : Bool) (st : SendState) (o : Option Transfer) (k n : ℕ) → st ≡ Ending k n
    → (sending_form two).Fits (st, o) → IsGiven o
given_ending two st o k n is fits =
    ending_gives two k n o (subst (λ (s : SendState). (sending_form two).Fits (s, o)) is fits)

pub given_dropping : (two : Bool) (st : SendState) (o : Option Transfer) (k : ℕ) → st ≡ Dropping k
    → (sending_form two).Fits (st, o) → IsGiven o
given_dropping two st o k is fits =
    dropping_gives two k o (subst (λ (s : SendState). (sending_form two).Fits (s, o)) is fits)

-- ---- the whole

pub record Parts (s : SnapshotValue) : Type 0 where
  pub moment : s.moment ≤ last_moment
  pub tables : (list_of a_string).Fits s.tables
  pub items : (list_of item_form).Fits s.items
  pub mailboxes : (list_of line_form).Fits s.mailboxes
  pub lanes : (list_of (lane_form (eqb s.format 2))).Fits s.lanes

pub parts_fit : (s : SnapshotValue) → a_snapshot.Fits s → Parts s
unfolding a_snapshot
parts_fit s fits = record {
  moment = fits.1.0.0;
  tables = fits.1.0.1.0;
  items = fits.1.0.1.1.0;
  mailboxes = fits.1.0.1.1.1.0;
  lanes = fits.1.0.1.1.1.1.1;
}

pub snapshot_put : {X E : Type 0} (r : Result X E) (s : SnapshotValue) (out o1 o2 o3 o4 o5 o6 z : List ℕ)
    → o1 ≡ out ++ number_octets w32 s.format → o2 ≡ o1 ++ number_octets w64 s.moment
    → o3 ≡ o2 ++ listed string s.tables → o4 ≡ o3 ++ listed item_form.spelled s.items
    → o5 ≡ o4 ++ listed line_form.spelled s.mailboxes → o6 ≡ o5 ++ number_octets w32 s.lane_count
    → OnOk r (z ≡ o6 ++ listed (lane_form (eqb s.format 2)).spelled s.lanes)
    → OnOk r (z ≡ out ++ a_snapshot.spelled s)
unfolding a_snapshot
snapshot_put r s out o1 o2 o3 o4 o5 o6 z e1 e2 e3 e4 e5 e6 h =
    last_of_seven r out (number_octets w32 s.format) (number_octets w64 s.moment) (listed string s.tables)
    (listed item_form.spelled s.items) (listed line_form.spelled s.mailboxes) (number_octets w32 s.lane_count)
    (listed (lane_form (eqb s.format 2)).spelled s.lanes) o1 o2 o3 o4 o5 o6 z e1 e2 e3 e4 e5 e6 h
