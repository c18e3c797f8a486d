-- A moment is read exactly where it is spelled.
use Rattle.std.proofs.Common.{◌≡◌, ℕ, ◌+◌, ◌-◌, ◌*◌, ◌/◌, ◌%◌, ◌≤◌, ◌<◌, ◌⊎◌, Bool, true, false, cond, ltb, eqb, List}
use Rattle.std.proofs.Common.{[], ◌∷◌, length, Option, Some, None, Ok, refl, sym, ap, subst, ◌∙◌, arith, inl, inr, ℤ}
use Rattle.std.proofs.Common.{pos, negsuc}
use Rattle.std.specs.Prelude.{◌&&◌, ◌||◌}
use Rattle.std.proofs.lemmas.Bool.{le-ltb, ltb-false, eqb-true}
use Rattle.std.proofs.lemmas.Bool.Decides.{nat_tests}
use Rattle.mta_ber.specs.declared.stamp.Stamp.{Stamp}
use Rattle.mta_ber.specs.Element.{Part}
use Rattle.mta_ber.specs.Times.{◌then?◌, is_digit, two, seconds, at_the_end, offset, zone, stamp, is_good}
use Rattle.mta_ber.specs.Times.{stamp_seconds, in_range, moment_of_stamp, moment_of, timed, utc_in, last_moment}
use Rattle.mta_ber.specs.Contents.{two_digits}
use Rattle.mta_ber.specs.Moments.{HasOffset, sign, HasZone, HasSeconds, HasStamp, IsMomentText, SpellsMoment}
use Rattle.mta_ber.specs.Octet.{IsOctets}
use Rattle.mta_ber.specs.Strings.{joined_as}
use Rattle.mta_ber.proofs.Steps.{bind_ok, ok_is}
use Rattle.mta_ber.proofs.StringLaws.{joined_sound, joined_full}
use Rattle.mta_ber.proofs.HeadLaws.{some_is}

abbrev pair : ℕ → List ℕ → ℕ × List ℕ
pair n rest = (n, rest)

digit_so : (c : ℕ) → is_digit c ≡ true → (48 ≤ c) × (c ≤ 57)
digit_so c e = grind (arith, nat_tests)

is_digit_of : (d : ℕ) → d < 10 → is_digit (48 + d) ≡ true
is_digit_of d lt = grind (arith, nat_tests)

-- two digits that were read
record Two (text : List ℕ) (n : ℕ) (rest : List ℕ) : Type 0 where
  small : n < 100
  text_is : text ≡ two_digits n rest

two_sound : (text : List ℕ) (n : ℕ) (rest : List ℕ) → two text ≡ Some (n, rest) → Two text n rest
two_sound [] n rest e = absurd cc
two_sound (a ∷ []) n rest e = absurd cc
two_sound (a ∷ b ∷ cs) n rest e = go (is_digit a) (is_digit b) refl refl e
  where
    same : (m : ℕ) → ◌≡◌ {A = Option (ℕ × List ℕ)} (Some (m, cs)) (Some (n, rest)) → (m ≡ n) × (cs ≡ rest)
    same m e = let k = some_is (pair m cs) (pair n rest) e in
        (ap (λ (p : ℕ × List ℕ). p.0) k, ap (λ (p : ℕ × List ℕ). p.1) k)

    go : (p q : Bool) → is_digit a ≡ p → is_digit b ≡ q
        → cond (p && q) (Some (pair ((a - 48) * 10 + (b - 48)) cs)) None ≡ Some (n, rest) → Two (a ∷ b ∷ cs) n rest
    go true true da db e =
        let h = same ((a - 48) * 10 + (b - 48)) e in
        let la = digit_so a da in
        let lb = digit_so b db in
        let first : a ≡ 48 + n / 10 = omega (arith, h.0) in
        let second : b ≡ 48 + n % 10 = omega (arith, h.0) in
        record { small = omega (arith, h.0); text_is = cc (first, second, h.1) }
    go true false da db e = absurd cc
    go false q da db e = absurd cc

two_full : (n : ℕ) (rest : List ℕ) → n < 100 → two (two_digits n rest) ≡ Some (n, rest)
two_full n rest lt =
    let a = is_digit_of (n / 10) (omega arith) in
    let b = is_digit_of (n % 10) (omega arith) in
    let v : (48 + n / 10 - 48) * 10 + (48 + n % 10 - 48) ≡ n = omega arith in
    rw (a, b, v) refl

-- ---- steps that may give nothing

record Given {A B : Type 0} (o : Option A) (f : A → Option B) (y : B) : Type 0 where
  x : A
  is : o ≡ Some x
  then_is : f x ≡ Some y

given : {A B : Type 0} (o : Option A) (f : A → Option B) (y : B) → (o then? f) ≡ Some y → Given o f y
given None f y e = absurd cc
given (Some x) f y e = record { x = x; is = refl; then_is = e }

-- ---- what is read as digits is spelled so

record Seconds (text : List ℕ) (n : ℕ) (rest : List ℕ) : Type 0 where
  small : n < 100
  text_is : ((n ≡ 0) × (text ≡ rest)) ⊎ (text ≡ two_digits n rest)

seconds_sound : (text : List ℕ) (n : ℕ) (rest : List ℕ) → seconds text ≡ Some (n, rest) → Seconds text n rest
seconds_sound [] n rest e = absurd cc
seconds_sound (a ∷ cs) n rest e = go (is_digit a) e
  where
    go : (b : Bool) → cond b (two (a ∷ cs)) (Some (0, a ∷ cs)) ≡ Some (n, rest) → Seconds (a ∷ cs) n rest
    go true e = let h = two_sound (a ∷ cs) n rest e in record { small = h.small; text_is = inr h.text_is }
    go false e =
        let k = some_is (pair 0 (a ∷ cs)) (pair n rest) e in
        let zero_is = ap (λ (p : ℕ × List ℕ). p.0) k in
        record { small = omega (arith, zero_is); text_is = inl (sym zero_is, ap (λ (p : ℕ × List ℕ). p.1) k) }

abbrev Zone : Type 0
Zone = Bool × ℕ × ℕ

abbrev zone_parts : Bool → ℕ → ℕ → Zone
zone_parts a h m = (a, h, m)

end_sound : (x y : Zone) (text : List ℕ) → at_the_end x text ≡ Some y → (text ≡ []) × (x ≡ y)
end_sound x y [] e = (refl, some_is x y e)
end_sound x y (c ∷ cs) e = absurd cc

record IsOffset (ahead : Bool) (text : List ℕ) (z : Zone) : Type 0 where
  ahead_is : z.0 ≡ ahead
  has : HasOffset 0 z.1 z.2 (0 ∷ text)

offset_sound : (ahead : Bool) (text : List ℕ) (z : Zone) → offset ahead text ≡ Some z → IsOffset ahead text z
unfolding offset
offset_sound ahead text z e =
    let a = given (two text) (λ hour. two hour.1 then? λ minute. at_the_end (ahead, hour.0, minute.0) minute.1) z e in
    let b = given (two a.x.1) (λ minute. at_the_end (ahead, a.x.0, minute.0) minute.1) z a.then_is in
    let c = end_sound (zone_parts ahead a.x.0 b.x.0) z b.x.1 b.then_is in
    let h = two_sound text a.x.0 a.x.1 a.is in
    let m = two_sound a.x.1 b.x.0 b.x.1 b.is in
    subst (IsOffset ahead text) c.1
    (record {
      ahead_is = refl;
      has =
          record {
            small_hour = h.small;
            small_minute = m.small;
            text_is =
                ap (λ l. 0 ∷ l) (h.text_is ∙ ap (two_digits a.x.0) (m.text_is ∙ ap (two_digits b.x.0) c.0));
          };
    })

-- a zone, by its parts
record IsZone (text : List ℕ) (z : Zone) : Type 0 where
  spelled : ((z.0 ≡ true) × (z.1 ≡ 0) × (z.2 ≡ 0) × (text ≡ 90 ∷ [])) ⊎ HasOffset (sign z.0) z.1 z.2 text

tail_is : (x y : ℕ) (a b : List ℕ) → x ∷ a ≡ y ∷ b → a ≡ b
tail_is x y a b e = cc

signed_zone : (ahead : Bool) (c : ℕ) (rest : List ℕ) (z : Zone) → c ≡ sign ahead → offset ahead rest ≡ Some z
    → IsZone (c ∷ rest) z
signed_zone ahead c rest z c-is e =
    let h = offset_sound ahead rest z e in
    record {
      spelled = inr (subst (λ b. HasOffset (sign b) z.1 z.2 (c ∷ rest)) (sym h.ahead_is)
          (record {
            small_hour = h.has.small_hour;
            small_minute = h.has.small_minute;
            text_is =
                cc (c-is, tail_is 0 0 _ _ h.has.text_is);
          }));
    }

zone_sound : (text : List ℕ) (z : Zone) → zone text ≡ Some z → IsZone text z
zone_sound [] z e = absurd cc
zone_sound (c ∷ rest) z e = go (eqb c 90) (eqb c 43) (eqb c 45) refl refl refl e
  where
    go : (p q r : Bool) → eqb c 90 ≡ p → eqb c 43 ≡ q → eqb c 45 ≡ r
        → cond p (at_the_end (true, 0, 0) rest) (cond q (offset true rest) (cond r (offset false rest) None)) ≡ Some z
        → IsZone (c ∷ rest) z
    go true q r a b d e =
        let k = end_sound (zone_parts true 0 0) z rest e in
        let c-is = eqb-true c 90 a in
        record {
          spelled = inl (
            sym (ap (λ (x : Zone). x.0) k.1),
            sym (ap (λ (x : Zone). x.1) k.1),
            sym (ap (λ (x : Zone). x.2) k.1),
            cc (c-is, k.0),
          );
        }
    go false true r a b d e = signed_zone true c rest z (eqb-true c 43 b) e
    go false false true a b d e = signed_zone false c rest z (eqb-true c 45 d) e
    go false false false a b d e = absurd cc

zone_has : (s : Stamp) (text : List ℕ) (z : Zone) → IsZone text z → s.ahead ≡ z.0 → s.offset_hour ≡ z.1
    → s.offset_minute ≡ z.2 → HasZone s text
zone_has s text z h a b d = elim h.spelled [
  | inl n ↦ inl (record { ahead = a ∙ n.0; no_hour = b ∙ n.1; no_minute = d ∙ n.2; text_is = n.3 })
  | inr o ↦ inr (subst (λ x. HasOffset (sign x) s.offset_hour s.offset_minute text) (sym a)
      (subst (λ x. HasOffset (sign z.0) x s.offset_minute text) (sym b)
      (subst (λ x. HasOffset (sign z.0) z.1 x text) (sym d) o)))
]

abbrev made : ℕ → ℕ → ℕ → ℕ → ℕ → ℕ → Zone → Stamp
made y mo d h mi s z = record {
  year = y;
  month = mo;
  day = d;
  hour = h;
  minute = mi;
  second = s;
  ahead = z.0;
  offset_hour = z.1;
  offset_minute = z.2;
}

stamp_sound : (text : List ℕ) (s : Stamp) → stamp text ≡ Some s → HasStamp s text
unfolding stamp
stamp_sound text s e =
    let y = given (two text) _ s e in
    let mo = given (two y.x.1) _ s y.then_is in
    let d = given (two mo.x.1) _ s mo.then_is in
    let h = given (two d.x.1) _ s d.then_is in
    let mi = given (two h.x.1) _ s h.then_is in
    let se = given (seconds mi.x.1) _ s mi.then_is in
    let z = given (zone se.x.1) (λ z. Some (made y.x.0 mo.x.0 d.x.0 h.x.0 mi.x.0 se.x.0 z)) s se.then_is in
    let same = some_is (made y.x.0 mo.x.0 d.x.0 h.x.0 mi.x.0 se.x.0 z.x) s z.then_is in
    let a = two_sound text y.x.0 y.x.1 y.is in
    let b = two_sound y.x.1 mo.x.0 mo.x.1 mo.is in
    let c = two_sound mo.x.1 d.x.0 d.x.1 d.is in
    let f = two_sound d.x.1 h.x.0 h.x.1 h.is in
    let g = two_sound h.x.1 mi.x.0 mi.x.1 mi.is in
    let k = seconds_sound mi.x.1 se.x.0 se.x.1 se.is in
    let w = zone_has (made y.x.0 mo.x.0 d.x.0 h.x.0 mi.x.0 se.x.0 z.x) se.x.1 z.x
    (zone_sound se.x.1 z.x z.is) refl refl refl in
    subst (λ (x : Stamp). HasStamp x text) same (record {
      small_year = a.small;
      small_month = b.small;
      small_day = c.small;
      small_hour = f.small;
      small_minute = g.small;
      seconds = mi.x.1;
      has_seconds = record { small = k.small; zone = se.x.1; is_zone = w; text_is = k.text_is };
      text_is = a.text_is ∙ ap (two_digits y.x.0)
          (b.text_is ∙ ap (two_digits mo.x.0)
          (c.text_is ∙ ap (two_digits d.x.0) (f.text_is ∙ ap (two_digits h.x.0) g.text_is)));
    })

-- ---- and what is spelled so is read

offset_full : (ahead : Bool) (hour minute : ℕ) → hour < 100 → minute < 100
    → offset ahead (two_digits hour (two_digits minute [])) ≡ Some (ahead, hour, minute)
unfolding offset
offset_full ahead hour minute a b = rw (two_full hour (two_digits minute []) a, two_full minute [] b) refl

zone_full : (s : Stamp) (text : List ℕ) → HasZone s text → zone text ≡ Some (s.ahead, s.offset_hour, s.offset_minute)
zone_full s text h = elim h [
  | inl n ↦ ap zone n.text_is ∙ ap (λ x. Some (zone_parts x 0 0)) (sym n.ahead)
      ∙ ap (λ x. Some (zone_parts s.ahead x 0)) (sym n.no_hour)
      ∙ ap (λ x. Some (zone_parts s.ahead s.offset_hour x)) (sym n.no_minute)
  | inr o ↦ ap zone o.text_is ∙ either s.ahead s.offset_hour s.offset_minute o.small_hour o.small_minute
]
  where
    either : (b : Bool) (hour minute : ℕ) → hour < 100 → minute < 100
        → zone (sign b ∷ two_digits hour (two_digits minute [])) ≡ Some (b, hour, minute)
    either true hour minute x y = offset_full true hour minute x y
    either false hour minute x y = offset_full false hour minute x y

zone_plain : (s : Stamp) (text : List ℕ) → HasZone s text → seconds text ≡ Some (0, text)
zone_plain s text h = elim h [
  | inl n ↦ ap seconds n.text_is ∙ ap (λ l. Some (pair 0 l)) (sym n.text_is)
  | inr o ↦ ap seconds o.text_is ∙ either s.ahead (two_digits s.offset_hour (two_digits s.offset_minute []))
      ∙ ap (λ l. Some (pair 0 l)) (sym o.text_is)
]
  where
    either : (b : Bool) (rest : List ℕ) → seconds (sign b ∷ rest) ≡ Some (0, sign b ∷ rest)
    either true rest = refl
    either false rest = refl

seconds_full : (s : Stamp) (text : List ℕ) (h : HasSeconds s text) → seconds text ≡ Some (s.second, h.zone)
seconds_full s text h = elim h.text_is [
  | inl n ↦ ap seconds n.1 ∙ zone_plain s h.zone h.is_zone ∙ ap (λ k. Some (pair k h.zone)) (sym n.0)
  | inr d ↦ ap seconds d ∙ (let a = is_digit_of (s.second / 10) (omega (arith, h.small)) in
      ap (λ t. cond t (two (two_digits s.second h.zone)) (Some (pair 0 (two_digits s.second h.zone)))) a
      ∙ two_full s.second h.zone h.small)
]

stamp_full : (text : List ℕ) (s : Stamp) → HasStamp s text → stamp text ≡ Some s
unfolding stamp
stamp_full text s h =
    let se = seconds_full s h.seconds h.has_seconds in
    let z = zone_full s h.has_seconds.zone h.has_seconds.is_zone in
    rw (
      h.text_is,
      two_full s.year (two_digits s.month (two_digits s.day (two_digits s.hour (two_digits s.minute h.seconds))))
          h.small_year,
      two_full s.month (two_digits s.day (two_digits s.hour (two_digits s.minute h.seconds))) h.small_month,
      two_full s.day (two_digits s.hour (two_digits s.minute h.seconds)) h.small_day,
      two_full s.hour (two_digits s.minute h.seconds) h.small_hour,
      two_full s.minute h.seconds h.small_minute,
      se,
      z,
    ) refl

stamp_short : (text : List ℕ) (s : Stamp) → HasStamp s text → length text ≤ 17
stamp_short text s h = omega (arith, ap length h.text_is, seconds_short s h.seconds h.has_seconds)
  where
    zone_short : (s : Stamp) (text : List ℕ) → HasZone s text → length text ≤ 5
    zone_short s text h = elim h [
      | inl n ↦ omega (arith, ap length n.text_is)
      | inr o ↦ omega (arith, ap length o.text_is)
    ]

    seconds_short : (s : Stamp) (text : List ℕ) → HasSeconds s text → length text ≤ 7
    seconds_short s text h = let z = zone_short s h.zone h.is_zone in
        elim h.text_is [ inl n ↦ omega (arith, ap length n.1, z) | inr d ↦ omega (arith, ap length d, z) ]

-- ---- moments

range_sound : (n : ℤ) (m : ℕ) → in_range n ≡ Some m → (n ≡ pos m) × (m ≤ last_moment)
range_sound (pos k) m e = go (ltb k 0) (ltb last_moment k) refl refl e
  where
    go : (a b : Bool) → ltb k 0 ≡ a → ltb last_moment k ≡ b → cond (a || b) None (Some k) ≡ Some m → (pos k ≡ pos m)
        × (m ≤ last_moment)
    go true b x y e = absurd cc
    go false true x y e = absurd cc
    go false false x y e = let same = some_is k m e in (ap pos same, omega (arith, ltb-false last_moment k y, same))
range_sound (negsuc k) m e = absurd cc

range_full : (m : ℕ) → m ≤ last_moment → in_range (pos m) ≡ Some m
range_full m le =
    let low : ltb m 0 ≡ false = le-ltb m 0 (omega arith) in
    let high : ltb last_moment m ≡ false = le-ltb last_moment m le in
    rw (low, high) refl

pub moment_sound : (text : List ℕ) (m : ℕ) → moment_of text ≡ Some m → IsMomentText text m
unfolding moment_of moment_of_stamp
moment_sound text m e = go (ltb 17 (length text)) e
  where
    good : (s : Stamp) (b : Bool) → is_good s ≡ b → cond b (in_range (stamp_seconds s)) None ≡ Some m
        → stamp text ≡ Some s → IsMomentText text m
    good s true g e is = let r = range_sound (stamp_seconds s) m e in
        record { stamp = s; has_stamp = stamp_sound text s is; good = g; seconds_are = r.0; in_range = r.1 }
    good s false g e is = absurd cc

    go : (b : Bool) → cond b None (stamp text then? moment_of_stamp) ≡ Some m → IsMomentText text m
    go true e = absurd cc
    go false e = let s = given (stamp text) moment_of_stamp m e in good s.x (is_good s.x) refl s.then_is s.is

pub moment_full : (text : List ℕ) (m : ℕ) → IsMomentText text m → moment_of text ≡ Some m
unfolding moment_of moment_of_stamp
moment_full text m h =
    let few : ltb 17 (length text) ≡ false = le-ltb 17 (length text) (stamp_short text h.stamp h.has_stamp) in
    rw (few, stamp_full text h.stamp h.has_stamp, h.good, h.seconds_are) (range_full m h.in_range)

-- ---- and what a view spells

pub utc_sound : (p : Part) (m : ℕ) → p.depth ≤ 16 → IsOctets p.content → utc_in p ≡ Ok m
    → SpellsMoment p.depth p.tag.constructed p.content m
unfolding utc_in
utc_sound p m d octets e =
    let j = bind_ok (joined_as 23 p) (λ t. timed p.at (moment_of t)) m e in
    record {
      text = j.0;
      spelled = joined_sound 23 p j.0 d octets j.1;
      is_text =
          moment_sound j.0 m (timed_so (moment_of j.0) j.2);
    }
  where
    timed_so : (o : Option ℕ) → timed p.at o ≡ Ok m → o ≡ Some m
    timed_so None e = absurd cc
    timed_so (Some n) e = ap (λ k. Some k) (ok_is n m e)

pub utc_full : (p : Part) (m : ℕ) → p.depth ≤ 16 → SpellsMoment p.depth p.tag.constructed p.content m → utc_in p ≡ Ok m
unfolding utc_in
utc_full p m d h = rw (joined_full 23 p h.text d h.spelled, moment_full h.text m h.is_text) refl
