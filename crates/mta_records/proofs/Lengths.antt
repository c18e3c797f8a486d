-- How many octets fields have.
use Rattle.std.proofs.Common.{◌≡◌, ℕ, ◌+◌, ◌-◌, ◌*◌, ◌^◌, Bool, true, false, eqb, List, [], ◌∷◌, ◌++◌, length, Option}
use Rattle.std.proofs.Common.{Some, None, refl, ap, sym, subst, ◌∙◌, arith, length-append, min, if◌then◌else◌}
use Rattle.std.specs.Prelude.{flat_map}
use Rattle.std.specs.Int.{w32, w64}
use Rattle.mta_lane_send.specs.declared.state.SendState.{SendState}
use Rattle.mta_lane_send.specs.declared.state.SendState.TheVariants.{Idle, Sending, Ending, Dropping}
use Rattle.mta_records.specs.Fields.{string, numbers, additional, reference}
use Rattle.mta_records.specs.Form.{number_octets, listed}
use Rattle.mta_records.specs.Reference.{Identifier}
use Rattle.mta_records.specs.Sizes.{capped}
use Rattle.mta_records.specs.Snapshots.{item_form, line_form, no_transfer, transfer_in, start_format, no_start_format}
use Rattle.mta_records.specs.Snapshots.{a_transfer, all_zero, unused, sending_form, lane_form, a_snapshot}
use Rattle.mta_records.specs.State.{Transfer, SnapshotValue}

pub number_length : (n : ℕ) → length (number_octets w32 n) ≡ 4
unfolding number_octets
number_length n = refl

pub long_length : (n : ℕ) → length (number_octets w64 n) ≡ 8
unfolding number_octets
long_length n = refl

pub numbers_length : (xs : List ℕ) → length (flat_map (number_octets w32) xs) ≡ length xs * 4
numbers_length [] = refl
numbers_length (x ∷ xs) =
    length-append (number_octets w32 x) (flat_map (number_octets w32) xs)
    ∙ omega (arith, number_length x, numbers_length xs)

pub string_length : (s : List ℕ) → length (string s) ≡ 4 + length s
unfolding string
string_length s = length-append (number_octets w32 (length s)) s ∙ omega (arith, number_length (length s))

none_length : length (numbers []) ≡ 4
unfolding numbers
none_length = length-append (number_octets w32 0) [] ∙ omega (arith, number_length 0)

pub ruleset lengths = (length-append, number_length, long_length, numbers_length, string_length)

-- ---- octets one behind the other

four_lengths : (a b c d : List ℕ) → length (a ++ (b ++ (c ++ d))) ≡ length a + (length b + (length c + length d))
four_lengths a b c d =
    length-append a (b ++ (c ++ d))
    ∙ omega (arith, length-append b (c ++ d), length-append c d)

six_lengths : (a b c d e f : List ℕ) → length (a ++ (b ++ (c ++ (d ++ (e ++ f)))))
    ≡ length a + (length b + (length c + (length d + (length e + length f))))
six_lengths a b c d e f =
    length-append a (b ++ (c ++ (d ++ (e ++ f))))
    ∙ omega (arith, length-append b (c ++ (d ++ (e ++ f))), four_lengths c d e f)

-- ---- lists and names

pub list_sized : {A : Type 0} (f : A → List ℕ) (xs : List A) (s r : ℕ) → s ≡ capped (length (flat_map f xs))
    → r ≡ min (s + 4) (2 ^ 64 - 1) → r ≡ capped (length (listed f xs))
list_sized f xs s r e g =
    let whole : length (listed f xs) ≡ 4 + length (flat_map f xs) =
    length-append (number_octets w32 (length xs)) (flat_map f xs) ∙ omega (arith, number_length (length xs)) in
    omega (arith, e, g, whole)

pub reference_sized : (i : Identifier) (a b s r : ℕ) → a ≡ capped (length (string i.calling))
    → b ≡ capped (length (additional i.additional)) → s ≡ min (a + b) (2 ^ 64 - 1) → r ≡ min (s + 8) (2 ^ 64 - 1)
    → r ≡ capped (length (reference i))
unfolding reference
reference_sized i a b s r e f g h =
    let tail : length (number_octets w64 i.common ++ additional i.additional) ≡ 8 + length (additional i.additional) =
    length-append (number_octets w64 i.common) (additional i.additional) ∙ omega (arith, long_length i.common) in
    let whole : length (string i.calling ++ (number_octets w64 i.common ++ additional i.additional))
    ≡ length (string i.calling) + (8 + length (additional i.additional)) =
    length-append (string i.calling) (number_octets w64 i.common ++ additional i.additional)
    ∙ ap (λ (n : ℕ). length (string i.calling) + n) tail in
    of_sum (length (string i.calling)) (length (additional i.additional)) a b s r e f g h
    ∙ ap capped (sum_of (length (string i.calling)) (length (additional i.additional)) ∙ sym whole)
  where
    of_sum : (m n a b s r : ℕ) → a ≡ capped m → b ≡ capped n → s ≡ min (a + b) (2 ^ 64 - 1)
        → r ≡ min (s + 8) (2 ^ 64 - 1) → r ≡ capped (m + n + 8)
    of_sum m n a b s r e f g h = omega (arith, e, f, g, h)

    sum_of : (m n : ℕ) → m + n + 8 ≡ m + (8 + n)
    sum_of m n = omega arith

-- ---- transfers

transfer_length : (two : Bool) (t : Transfer) → length ((a_transfer two).spelled t)
    ≡ length (numbers t.recipients) + (length t.octets + (if two then 24 else 20))
unfolding a_transfer
transfer_length true t =
    six_lengths (number_octets w32 t.item) (numbers t.recipients) (number_octets w64 t.moment)
    (number_octets w32 t.tables) (number_octets w32 t.format) (string t.octets)
    ∙ omega (
      arith,
      number_length t.item,
      long_length t.moment,
      number_length t.tables,
      number_length t.format,
      string_length t.octets,
    )
transfer_length false t =
    six_lengths (number_octets w32 t.item) (numbers t.recipients) (number_octets w64 t.moment)
    (number_octets w32 t.tables) [] (string t.octets)
    ∙ omega (arith, number_length t.item, long_length t.moment, number_length t.tables, string_length t.octets)

sum_sized : (m n f l a s r : ℕ) → a ≡ capped m → s ≡ min (a + n) (2 ^ 64 - 1) → r ≡ min (s + f) (2 ^ 64 - 1)
    → l ≡ m + (n + f) → r ≡ capped l
sum_sized m n f l a s r e g h i = omega (arith, e, g, h, i)

pub transfer_sized : (two : Bool) (t : Transfer) (a b f s r : ℕ) → a ≡ capped (length (numbers t.recipients))
    → b ≡ length t.octets → f ≡ (if two then 24 else 20) → s ≡ min (a + b) (2 ^ 64 - 1) → r ≡ min (s + f) (2 ^ 64 - 1)
    → r ≡ capped (length ((a_transfer two).spelled t))
transfer_sized two t a b f s r e g h i j =
    sum_sized (length (numbers t.recipients)) b f (length ((a_transfer two).spelled t)) a s r e i j
    (transfer_length two t
    ∙ ap (λ (n : ℕ). length (numbers t.recipients) + (n + (if two then 24 else 20))) (sym g)
    ∙ ap (λ (n : ℕ). length (numbers t.recipients) + (b + n)) (sym h))

none_spelled : (two : Bool) → length ((a_transfer two).spelled no_transfer) ≡ (if two then 28 else 24)
none_spelled true = transfer_length true no_transfer ∙ omega (arith, none_length)
none_spelled false = transfer_length false no_transfer ∙ omega (arith, none_length)

small_sized : (two : Bool) (l r : ℕ) → r ≡ (if two then 28 else 24) → l ≡ (if two then 28 else 24) → r ≡ capped l
small_sized true l r e f = omega (arith, e, f)
small_sized false l r e f = omega (arith, e, f)

pub none_sized : (two : Bool) (o : Option Transfer) (r : ℕ) → o ≡ None → r ≡ (if two then 28 else 24)
    → r ≡ capped (length ((a_transfer two).spelled (transfer_in o)))
none_sized two None r is e = small_sized two (length ((a_transfer two).spelled no_transfer)) r e (none_spelled two)
none_sized two (Some t) r is e = absurd cc

-- ---- sending halves

unused_length : (two : Bool) → length ((unused two).spelled all_zero) ≡ (if two then 28 else 24)
unfolding unused
unused_length true =
    six_lengths (number_octets w32 0) (numbers []) (number_octets w64 0) (number_octets w32 0) (number_octets w32 0)
    (string [])
    ∙ omega (arith, number_length 0, none_length, long_length 0, string_length [])
unused_length false =
    six_lengths (number_octets w32 0) (numbers []) (number_octets w64 0) (number_octets w32 0) [] (string [])
    ∙ omega (arith, number_length 0, none_length, long_length 0, string_length [])

-- an octet and two numbers stand before what is counted
half_sized : (o k n : ℕ) (rest : List ℕ) (a r : ℕ) → a ≡ capped (length rest) → r ≡ min (a + 9) (2 ^ 64 - 1)
    → r ≡ capped (length ((o ∷ []) ++ (number_octets w32 k ++ (number_octets w32 n ++ rest))))
half_sized o k n rest a r e g =
    let whole = four_lengths (o ∷ []) (number_octets w32 k) (number_octets w32 n) rest in
    omega (arith, e, g, whole, number_length k, number_length n)

pub idle_sized : (two : Bool) (st : SendState) (o : Option Transfer) (k a r : ℕ) → st ≡ Idle k
    → a ≡ (if two then 28 else 24) → r ≡ min (a + 9) (2 ^ 64 - 1)
    → r ≡ capped (length ((sending_form two).spelled (st, o)))
unfolding sending_form
idle_sized two (Idle l) o k a r is e g =
    half_sized 0 l 0 ((unused two).spelled all_zero) a r
    (small_sized two (length ((unused two).spelled all_zero)) a e (unused_length two)) g
idle_sized two (Sending l n) o k a r is e g = absurd cc
idle_sized two (Ending l n) o k a r is e g = absurd cc
idle_sized two (Dropping l) o k a r is e g = absurd cc

pub sending_sized : (two : Bool) (st : SendState) (o : Option Transfer) (k n a r : ℕ) → st ≡ Sending k n
    → a ≡ capped (length ((a_transfer two).spelled (transfer_in o))) → r ≡ min (a + 9) (2 ^ 64 - 1)
    → r ≡ capped (length ((sending_form two).spelled (st, o)))
unfolding sending_form
sending_sized two (Sending l m) o k n a r is e g = half_sized 1 l m ((a_transfer two).spelled (transfer_in o)) a r e g
sending_sized two (Idle l) o k n a r is e g = absurd cc
sending_sized two (Ending l m) o k n a r is e g = absurd cc
sending_sized two (Dropping l) o k n a r is e g = absurd cc

pub ending_sized : (two : Bool) (st : SendState) (o : Option Transfer) (k n a r : ℕ) → st ≡ Ending k n
    → a ≡ capped (length ((a_transfer two).spelled (transfer_in o))) → r ≡ min (a + 9) (2 ^ 64 - 1)
    → r ≡ capped (length ((sending_form two).spelled (st, o)))
unfolding sending_form
ending_sized two (Ending l m) o k n a r is e g = half_sized 2 l m ((a_transfer two).spelled (transfer_in o)) a r e g
ending_sized two (Idle l) o k n a r is e g = absurd cc
ending_sized two (Sending l m) o k n a r is e g = absurd cc
ending_sized two (Dropping l) o k n a r is e g = absurd cc

pub dropping_sized : (two : Bool) (st : SendState) (o : Option Transfer) (k a r : ℕ) → st ≡ Dropping k
    → a ≡ capped (length ((a_transfer two).spelled (transfer_in o))) → r ≡ min (a + 9) (2 ^ 64 - 1)
    → r ≡ capped (length ((sending_form two).spelled (st, o)))
unfolding sending_form
dropping_sized two (Dropping l) o k a r is e g = half_sized 3 l 0 ((a_transfer two).spelled (transfer_in o)) a r e g
dropping_sized two (Idle l) o k a r is e g = absurd cc
dropping_sized two (Sending l m) o k a r is e g = absurd cc
dropping_sized two (Ending l m) o k a r is e g = absurd cc

-- ---- the whole

pub snapshot_sized : (s : SnapshotValue) (a b d e s1 s2 s3 r : ℕ) → a ≡ capped (length (listed string s.tables))
    → b ≡ capped (length (listed item_form.spelled s.items))
    → d ≡ capped (length (listed line_form.spelled s.mailboxes))
    → e ≡ capped (length (listed (lane_form (eqb s.format 2)).spelled s.lanes))
    → s1 ≡ min (a + b) (2 ^ 64 - 1) → s2 ≡ min (s1 + d) (2 ^ 64 - 1) → s3 ≡ min (s2 + e) (2 ^ 64 - 1)
    → r ≡ min (s3 + 16) (2 ^ 64 - 1) → r ≡ capped (length (a_snapshot.spelled s))
unfolding a_snapshot
snapshot_sized s a b d e s1 s2 s3 r fa fb fd fe f1 f2 f3 fr =
    let tables = listed string s.tables in
    let items = listed item_form.spelled s.items in
    let lines = listed line_form.spelled s.mailboxes in
    let lanes = listed (lane_form (eqb s.format 2)).spelled s.lanes in
    four_sized (length tables) (length items) (length lines) (length lanes) a b d e s1 s2 s3 r fa fb fd fe f1 f2 f3 fr
    ∙ ap capped (sym (
    length-append (number_octets w32 s.format)
    (number_octets w64 s.moment ++ (tables ++ (items ++ (lines ++ (number_octets w32 s.lane_count ++ lanes)))))
    ∙ whole (number_octets w32 s.format) (number_octets w64 s.moment) tables items lines
    (number_octets w32 s.lane_count) lanes (number_length s.format) (long_length s.moment)
    (number_length s.lane_count)))
  where
    four_sized : (m n p q a b d e s1 s2 s3 r : ℕ) → a ≡ capped m → b ≡ capped n → d ≡ capped p → e ≡ capped q
        → s1 ≡ min (a + b) (2 ^ 64 - 1) → s2 ≡ min (s1 + d) (2 ^ 64 - 1) → s3 ≡ min (s2 + e) (2 ^ 64 - 1)
        → r ≡ min (s3 + 16) (2 ^ 64 - 1) → r ≡ capped (m + n + p + q + 16)
    four_sized m n p q a b d e s1 s2 s3 r fa fb fd fe f1 f2 f3 fr =
        let x1 : s1 ≡ capped (m + n) = omega (arith, fa, fb, f1) in
        let x2 : s2 ≡ capped (m + n + p) = omega (arith, x1, fd, f2) in
        let x3 : s3 ≡ capped (m + n + p + q) = omega (arith, x2, fe, f3) in
        omega (arith, x3, fr)

    whole : (format moment tables items lines count lanes : List ℕ) → length format ≡ 4 → length moment ≡ 8
        → length count ≡ 4
        → length format + length (moment ++ (tables ++ (items ++ (lines ++ (count ++ lanes)))))
        ≡ length tables + length items + length lines + length lanes + 16
    whole format moment tables items lines count lanes f m c =
        omega (arith, f, m, c, six_lengths moment tables items lines count lanes)
