-- The spool's side of a session, record after record.
use Rattle.std.proofs.Common.{◌≡◌, append_assoc, append-nil, inl, inr, ℕ, zero, suc, ◌+◌, ◌^◌, ◌≤◌, ◌<◌, List, []}
use Rattle.std.proofs.Common.{◌∷◌}
use Rattle.std.proofs.Common.{◌++◌}
use Rattle.std.proofs.Common.{length, take, get_or, Result, Ok, Err, refl, sym, ap, subst, ◌∙◌, arith}
use Rattle.std.proofs.lemmas.List.{length-append}
use Rattle.mta_links.specs.Links.{LinkView}
use Rattle.mta_journal.specs.Bodies.{AreWithin, longest_body, longest_first}
use Rattle.mta_follow_units.specs.Feed.{Feed}
use Rattle.mta_follow_units.specs.Units.{done_unit, kept_unit, record_unit, record_units}
use Rattle.mta_follow_run.specs.Fronts.{IsFront}
use Rattle.mta_follow_run.specs.Pushing.{IsPushing, PushEnds, Pushes, PushesOne, one_put, one_unput, push_bad}
use Rattle.mta_follow_run.specs.Pushing.{push_broken, push_done, push_short, push_undone, push_unput, waits_bad}
use Rattle.mta_follow_run.specs.Pushing.{waits_broken, waits_kept, waits_short}
use Rattle.mta_follow_run.specs.Taking.{StandsBehind}
use Rattle.mta_follow_run.specs.Talks.{IsOver, LinkFailed, Talks, kept_units}
use Rattle.mta_follow_run.specs.declared.stop.Stop.{Stop}
use Rattle.mta_follow_run.specs.declared.stop.Stop.TheVariants as Stops
use Rattle.mta_follow_run.proofs.Carrying.{talks_are, talks_none, talks_then}
use Rattle.mta_follow_run.proofs.Fronts.{units-more}

-- an element stands behind those before it
pub behind_at : (i : ℕ) (bodies : List (List ℕ)) (body : List ℕ) → i < length bodies → body ≡ get_or bodies i body
    → StandsBehind i body bodies
behind_at i [] body inside is = absurd (omega (arith, inside))
behind_at zero (x ∷ bodies) body inside is = record {
  front = [];
  more = bodies;
  bodies_are = ap (λ (l : List ℕ). l ∷ bodies) (sym is);
  count_is = refl;
}
behind_at (suc i) (x ∷ bodies) body inside is =
    let h = behind_at i bodies body (omega (arith, inside)) is in record {
      front = x ∷ h.front;
      more = h.more;
      bodies_are = ap (λ (l : List (List ℕ)). x ∷ l) h.bodies_are;
      count_is = ap suc h.count_is;
    }

-- it is short enough for a unit
pub at_within : (i : ℕ) (bodies : List (List ℕ)) (body : List ℕ) → AreWithin longest_first bodies → i < length bodies
    → body ≡ get_or bodies i body → length body < 2 ^ 32
at_within i [] body each inside is = absurd (omega (arith, inside))
at_within zero (x ∷ bodies) body each inside is = omega (arith, ap length is, each.0)
at_within (suc i) (x ∷ bodies) body each inside is = behind i bodies each.1 (omega (arith, inside)) is
  where
    behind : (i : ℕ) (bodies : List (List ℕ)) → AreWithin longest_body bodies → i < length bodies
        → body ≡ get_or bodies i body → length body < 2 ^ 32
    behind i [] each inside is = absurd (omega (arith, inside))
    behind zero (x ∷ bodies) each inside is = omega (arith, ap length is, each.0)
    behind (suc i) (x ∷ bodies) each inside is = behind i bodies each.1 (omega (arith, inside)) is

-- those up to it, and with it
taken : (s t : List (List ℕ)) → take (length s) (s ++ t) ≡ s
taken [] t = refl
taken (x ∷ s) t = ap (λ (l : List (List ℕ)). x ∷ l) (taken s t)

pub take_more : (i : ℕ) (bodies : List (List ℕ)) (body : List ℕ) → StandsBehind i body bodies
    → take (i + 1) bodies ≡ take i bodies ++ body ∷ []
take_more i bodies body h =
    let whole : bodies ≡ (h.front ++ body ∷ []) ++ h.more =
    h.bodies_are ∙ sym (append_assoc h.front (body ∷ []) h.more) in
    let long : i + 1 ≡ length (h.front ++ body ∷ []) =
    omega (arith, h.count_is, length-append h.front (body ∷ [])) in
    let here : take i bodies ≡ h.front =
    ap (λ (n : ℕ). take n bodies) h.count_is ∙ ap (take (length h.front)) h.bodies_are
    ∙ taken h.front (body ∷ h.more) in
    ap (λ (n : ℕ). take n bodies) long ∙ ap (take (length (h.front ++ body ∷ []))) whole
    ∙ taken (h.front ++ body ∷ []) h.more ∙ ap (λ (l : List (List ℕ)). l ++ body ∷ []) (sym here)

pub take_whole : (bodies : List (List ℕ)) → take (length bodies) bodies ≡ bodies
take_whole [] = refl
take_whole (x ∷ bodies) = ap (λ (l : List (List ℕ)). x ∷ l) (take_whole bodies)

module _ {L : Type 0} (links : LinkView L) (bodies : List (List ℕ)) (begun : L) where
  pub pushing_none : (feed : Feed) → feed.at ≡ 0 → feed.left ≡ [] → IsPushing links bodies begun begun feed 0
  pushing_none feed at left = record {
    within = omega arith;
    talks = talks_none links begun;
    feed_at = at;
    feed_left =
        left;
  }

  module _ (link : L) (feed : Feed) (count : ℕ) (p : IsPushing links bodies begun link feed count) (body : List ℕ)
      (stands : StandsBehind count body bodies) where
    within_one : count + 1 ≤ length bodies
    within_one =
        let long = length-append stands.front (body ∷ stands.more) in
        omega (arith, stands.count_is, ap length stands.bodies_are, long)

    -- with the record put
    put_one : (mid : L) → Talks links [] (record_unit body) link mid
        → Talks links (kept_units count) (record_units (take count bodies) ++ record_unit body) begun mid
    put_one mid t =
        talks_are links (kept_units count ++ []) (record_units (take count bodies) ++ record_unit body)
        (kept_units count)
        (record_units (take count bodies) ++ record_unit body) begun mid (append-nil (kept_units count)) refl
        (talks_then links (kept_units count) (record_units (take count bodies)) [] (record_unit body) begun link mid
        p.talks t)

    units_are : record_units (take (count + 1) bodies) ≡ record_units (take count bodies) ++ record_unit body
    units_are = ap record_units (take_more count bodies body stands) ∙ units-more (take count bodies) body

    pub pushing_more : (new : L) (now : Feed) → PushesOne links (count + 1) body link feed new now (Ok tt)
        → IsPushing links bodies begun new now (count + 1)
    pushing_more new now (one_put mid r put (waits_kept t at left)) =
        let more : kept_units (count + 1) ≡ kept_units count ++ kept_unit (count + 1) = kept_next count in
        record {
          within = within_one;
          talks = talks_are links (kept_units count ++ kept_unit (count + 1))
              ((record_units (take count bodies) ++ record_unit body) ++ []) (kept_units (count + 1))
              (record_units (take (count + 1) bodies)) begun new (sym more)
              (append-nil (record_units (take count bodies) ++ record_unit body) ∙ sym units_are)
              (talks_then links (kept_units count) (record_units (take count bodies) ++ record_unit body)
              (kept_unit (count + 1)) [] begun mid new (put_one mid put) t);
          feed_at = at ∙ omega (
            arith,
            p.feed_at,
            ap length more,
            length-append (kept_units count)
                (kept_unit (count + 1)),
          );
          feed_left = left;
        }
      where
        kept_next : (n : ℕ) → kept_units (n + 1) ≡ kept_units n ++ kept_unit (n + 1)
        kept_next n =
            let next : suc n ≡ n + 1 = omega arith in
            subst (λ (m : ℕ). kept_units m ≡ kept_units n ++ kept_unit m) next refl

    -- what came behind the record that was put
    waited : (rest : List ℕ) (mid new : L) → Talks links [] (record_unit body) link mid → Talks links rest [] mid new
        → Talks links (kept_units count ++ rest) (record_units (take count bodies) ++ record_unit body) begun new
    waited rest mid new put t =
        talks_are links (kept_units count ++ rest) ((record_units (take count bodies) ++ record_unit body) ++ [])
        (kept_units count ++ rest) (record_units (take count bodies) ++ record_unit body) begun new refl
        (append-nil (record_units (take count bodies) ++ record_unit body))
        (talks_then links (kept_units count) (record_units (take count bodies) ++ record_unit body) rest [] begun mid
        new
        (put_one mid put) t)

    ended : (rest piece : List ℕ) (new : L) (result : Result ℕ Stop)
        → Talks links (kept_units count ++ rest) (record_units (take count bodies) ++ piece) begun new
        → PushEnds links bodies count rest piece begun new result → Pushes links bodies begun new result
    ended rest piece new result t ends =
        record { count = count; rest = rest; piece = piece; within = p.within; talks = t; ends = ends }

    over_on : (mid new : L) → Talks links [] (record_unit body) link mid → IsOver links mid new → IsOver links begun new
    over_on mid new put (inl rose) = inl (omega (arith, rose, p.talks.later, put.later))
    over_on mid new put (inr end) = inr end

    pub pushes_ended : (new : L) (now : Feed) (stop : Stop)
        → PushesOne links (count + 1) body link feed new now (Err stop) → Pushes links bodies begun new (Err stop)
    pushes_ended new now stop (one_put mid r put (waits_broken rest t cut over)) =
        ended rest (record_unit body) new (Err stop) (waited rest mid new put t)
        (push_broken body stands refl cut (over_on mid new put over))
    pushes_ended new now stop (one_put mid r put (waits_bad rest t bad)) =
        ended rest (record_unit body) new (Err stop) (waited rest mid new put t)
        (subst (λ (n : ℕ). PushEnds links bodies count rest (record_unit body) begun new (Err (Stops.BadUnit n)))
        (sym p.feed_at) (push_bad body stands refl bad))
    pushes_ended new now stop (one_put mid r put (waits_short rest f)) =
        ended rest (record_unit body) new (Err stop) (waited rest mid new put f.talks) push_short
    pushes_ended new now stop (one_unput piece front t failed) =
        ended [] piece new (Err stop)
        (talks_are links (kept_units count ++ []) (record_units (take count bodies) ++ piece) (kept_units count ++ [])
        (record_units (take count bodies) ++ piece) begun new refl refl
        (talks_then links (kept_units count) (record_units (take count bodies)) [] piece begun link new p.talks t))
        (push_unput body stands refl front (omega (arith, failed, p.talks.later)))

  -- all were put and told kept
  module _ (link : L) (feed : Feed) (count : ℕ) (p : IsPushing links bodies begun link feed count)
      (all : count ≡ length bodies) where
    with_end : (piece : List ℕ) (new : L) → Talks links [] piece link new
        → Talks links (kept_units count ++ []) (record_units (take count bodies) ++ piece) begun new
    with_end piece new t =
        talks_then links (kept_units count) (record_units (take count bodies)) [] piece begun link new p.talks t

    pub pushes_done : (new : L) → Talks links [] (done_unit count) link new → Pushes links bodies begun new (Ok count)
    pushes_done new t = record {
      count = count;
      rest = [];
      piece = done_unit count;
      within = p.within;
      talks = with_end (done_unit count) new t;
      ends = push_done all refl refl;
    }

    pub pushes_undone : (new : L) (piece : List ℕ) → IsFront piece (done_unit count) → Talks links [] piece link new
        → LinkFailed links link new → Pushes links bodies begun new (Err Stops.Broken)
    pushes_undone new piece front t failed = record {
      count = count;
      rest = [];
      piece = piece;
      within = p.within;
      talks = with_end piece new t;
      ends = push_undone all refl front (omega (arith, failed, p.talks.later));
    }
