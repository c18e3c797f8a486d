-- A session of a standby, round after round.
use Rattle.std.proofs.Common.{◌≡◌, append-nil, inl, inr, ℕ, zero, suc, ◌+◌, ◌-◌, ◌^◌, ◌≤◌}
use Rattle.std.proofs.Common.{◌<◌}
use Rattle.std.proofs.Common.{true, false, IsOk, List, [], ◌∷◌, ◌++◌, length, Result, Ok, Err}
use Rattle.std.proofs.Common.{refl, sym, ap}
use Rattle.std.proofs.Common.{subst, ◌∙◌, arith}
use Rattle.std.proofs.lemmas.List.{length-append}
use Rattle.mta_edge.specs.Views.{DiskLaws, DiskView}
use Rattle.mta_edge.specs.Crashes.{AtAnyMoment}
use Rattle.mta_links.specs.Links.{LinkView}
use Rattle.mta_journal.specs.Bodies.{records}
use Rattle.mta_journal.specs.Appending.{Appends, IsShortEnough}
use Rattle.mta_journal.specs.Shown.{Holds, IsPlain, Shown}
use Rattle.mta_journal.specs.declared.journal.AppendFault.{AppendFault}
use Rattle.mta_follow_units.specs.Feed.{Feed}
use Rattle.mta_follow_units.specs.Units.{IsBad, IsCut, done_unit, kept_unit, most, record_unit, record_units}
use Rattle.mta_follow_units.specs.declared.due.Due.TheVariants as due
use Rattle.mta_follow_run.specs.declared.pull.Pulled.{Pulled}
use Rattle.mta_follow_run.specs.declared.pull.Round.TheVariants as RoundCases
use Rattle.mta_follow_run.specs.declared.stop.Stop.{Stop}
use Rattle.mta_follow_run.specs.declared.stop.Stop.TheVariants as Stops
use Rattle.mta_follow_run.specs.Fronts.{IsFront}
use Rattle.mta_follow_run.specs.Pulling.{IsFollowed, IsPullingNow, NextOf, PullEnds, Pulls, Rounds}
use Rattle.mta_follow_run.specs.Pulling.{ends_bad, ends_broken, ends_differs, ends_done, ends_failed, ends_full}
use Rattle.mta_follow_run.specs.Pulling.{ends_more}
use Rattle.mta_follow_run.specs.Pulling.{ends_none, ends_short, ends_unsaid, next_broken, next_short, next_taken}
use Rattle.mta_follow_run.specs.Pulling.{round_done}
use Rattle.mta_follow_run.specs.Pulling.{round_none, round_one, round_over, said, said_all, said_cut, unsaid}
use Rattle.mta_follow_run.specs.Taking.{Keeps, StandsBehind, Takes, add_failed, add_short, added}
use Rattle.mta_follow_run.specs.Taking.{is_behind}
use Rattle.mta_follow_run.specs.Taking.{is_equal, is_other, no_room, no_step, takes_bad, takes_done, takes_more}
use Rattle.mta_follow_run.specs.Taking.{takes_none, takes_one}
use Rattle.mta_follow_run.specs.Talks.{IsOver, LinkFailed, Talks, kept_units}
use Rattle.mta_follow_run.proofs.Carrying.{talks_are, talks_none, talks_then}
use Rattle.mta_follow_run.proofs.Following.{IsHolding, each_failed, holding_added, holding_equal, holding_none}
use Rattle.mta_follow_run.proofs.Following.{holding_on, images_added, images_still, told_added}
use Rattle.mta_follow_run.proofs.Fronts.{length-more, units-more, up_behind}

module _ {D L : Type 0} (disks : DiskView D) (links : LinkView L) (kept : List (List ℕ)) (old : Shown D) (begun : L)
  where
    -- So many records came, and all are kept and told so.
    pub record IsPulling (now : Shown D) (link : L) (feed : Feed) (count : ℕ) : Type 0 where
      pub got : List (List ℕ)
      pub count_is : count ≡ length got
      pub holding : IsHolding disks links kept old begun now got link
      pub talks : Talks links (record_units got) (kept_units (length got)) begun link
      pub at : feed.at ≡ length (record_units got)
      pub left : feed.left ≡ []

    pub pulling_none : DiskLaws disks → Holds disks old kept → IsPlain old.first → (feed : Feed) → feed.at ≡ 0
        → feed.left ≡ [] → IsPulling old begun feed 0
    pulling_none laws holds plain feed at left = record {
      got = [];
      count_is = refl;
      holding = holding_none disks links kept old begun laws holds plain;
      talks = talks_none links begun;
      at = at;
      left = left;
    }

    -- what may be the first record of all is one of an empty journal
    short_enough : (n : ℕ) (now : Shown D) (got : List (List ℕ)) (link : L)
        → IsHolding disks links kept old begun now got link
        → n ≡ length got → length kept ≤ n → (body : List ℕ) → length body ≤ most n
        → IsShortEnough now.first now.size body
    short_enough zero now got link h is within body fits =
        let all : h.bodies ≡ got = (up_behind kept got h.bodies h.up_to (omega (arith, is, within))).0 in
        let none : length (records h.bodies) ≡ 0 = empty h.bodies (ap length all ∙ sym is) in
        inr (fits, omega (arith, h.holds.size, none))
      where
        empty : (bodies : List (List ℕ)) → length bodies ≡ 0 → length (records bodies) ≡ 0
        empty [] e = refl
        empty (b ∷ bodies) e = absurd (omega (arith, e))
    short_enough (suc n) now got link h is within body fits = inl fits

    -- what the next round needs
    pub pulling_now : (now : Shown D) (link : L) (feed : Feed) (count : ℕ) → IsPulling now link feed count
        → IsPullingNow disks links kept now link feed count
    pulling_now now link feed count p = record {
      left = p.left;
      plain = p.holding.plain;
      short = λ within body fits. short_enough count now p.got link p.holding p.count_is within body fits;
    }

    module _ (laws : DiskLaws disks) (now : Shown D) (link : L) (feed : Feed) (count : ℕ)
        (p : IsPulling now link feed count) where
      -- a record that came and is kept, of which nothing is told yet
      pub record HasTaken (next : Shown D) (mid : L) (fed : Feed) : Type 0 where
        pub body : List ℕ
        pub holding : IsHolding disks links kept old begun next (p.got ++ body ∷ []) mid
        pub talks : Talks links (record_units (p.got ++ body ∷ [])) (kept_units (length p.got)) begun mid
        pub at : fed.at ≡ length (record_units (p.got ++ body ∷ []))
        pub left : fed.left ≡ []

      -- what the link has carried, with what came now
      carried : (octets : List ℕ) (mid : L) → Talks links octets [] link mid
          → Talks links (record_units p.got ++ octets) (kept_units (length p.got)) begun mid
      carried octets mid t =
          talks_are links (record_units p.got ++ octets) (kept_units (length p.got) ++ [])
          (record_units p.got ++ octets)
          (kept_units (length p.got)) begun mid refl (append-nil (kept_units (length p.got)))
          (talks_then links (record_units p.got) (kept_units (length p.got)) octets [] begun link mid p.talks t)

      -- the journal as it was, where more came
      still_on : (octets : List ℕ) (mid : L) → Talks links octets [] link mid
          → IsHolding disks links kept old begun now p.got mid
      still_on octets mid t = holding_on disks links kept old begun now p.got link mid octets [] t p.holding

      kept_now : (octets body : List ℕ) (next : Shown D) (mid : L) → Talks links octets [] link mid
          → Talks links (record_units (p.got ++ body ∷ [])) (kept_units (length p.got)) begun mid
          → Keeps disks kept count feed.at body now next (Ok tt)
          → IsHolding disks links kept old begun next (p.got ++ body ∷ []) mid
      kept_now octets body next mid t talks (is_equal stands same) =
          subst (λ (n : Shown D). IsHolding disks links kept old begun n (p.got ++ body ∷ []) mid) (sym same)
          (holding_equal disks links kept old begun now p.got mid (still_on octets mid t) laws body
          (subst (λ (n : ℕ). StandsBehind n body kept) p.count_is stands) talks)
      kept_now octets body next mid t talks (is_behind result short (added is r ok a)) =
          holding_added disks links kept old begun now p.got mid (still_on octets mid t) body next r a
          (omega (arith, short, p.count_is)) laws (subst IsOk (sym ok) refl) talks

      taken_now : (octets body : List ℕ) (next : Shown D) (mid : L) (fed : Feed) → octets ≡ record_unit body
          → Keeps disks kept count feed.at body now next (Ok tt) → Talks links octets [] link mid
          → fed.at ≡ feed.at + length octets → fed.left ≡ [] → HasTaken next mid fed
      taken_now octets body next mid fed is keeps t at left =
          let units : record_units p.got ++ octets ≡ record_units (p.got ++ body ∷ []) =
          ap (λ (l : List ℕ). record_units p.got ++ l) is ∙ sym (units-more p.got body) in
          let talks : Talks links (record_units (p.got ++ body ∷ [])) (kept_units (length p.got)) begun mid =
          talks_are links (record_units p.got ++ octets) (kept_units (length p.got))
          (record_units (p.got ++ body ∷ [])) (kept_units (length p.got)) begun mid units refl
          (carried octets mid t) in
          record {
            body = body;
            holding = kept_now octets body next mid t talks keeps;
            talks = talks;
            at = at ∙ omega (arith, p.at, length-append (record_units p.got) octets, ap length units);
            left = left;
          }

      pub has_taken : (next : Shown D) (mid : L) (fed : Feed)
          → NextOf disks links kept now link feed count next mid fed (Ok true) → HasTaken next mid fed
      has_taken next mid fed (next_taken octets r t (takes_one body is short keeps) goes) =
          let g = goes refl in taken_now octets body next mid fed is keeps t g.0 g.1

      -- and it is told so
      pub pulling_more : (next : Shown D) (mid new : L) (fed : Feed) → HasTaken next mid fed
          → Talks links [] (kept_unit (count + 1)) mid new → IsPulling next new fed (count + 1)
      pulling_more next mid new fed h t =
          let more : length (p.got ++ h.body ∷ []) ≡ suc (length p.got) = omega (arith, length-more p.got h.body) in
          let next_is : count + 1 ≡ suc (length p.got) = omega (arith, p.count_is) in
          let told : kept_units (length p.got) ++ kept_unit (count + 1) ≡ kept_units (length (p.got ++ h.body ∷ [])) =
          ap (λ (n : ℕ). kept_units (length p.got) ++ kept_unit n) next_is ∙ sym (ap kept_units more) in
          record {
            got = p.got ++ h.body ∷ [];
            count_is = omega (arith, p.count_is, length-more p.got h.body);
            holding = holding_on disks links kept old begun next (p.got ++ h.body ∷ []) mid new []
                (kept_unit (count + 1)) t h.holding;
            talks = talks_are links (record_units (p.got ++ h.body ∷ []) ++ [])
                (kept_units (length p.got) ++ kept_unit (count + 1)) (record_units (p.got ++ h.body ∷ []))
                (kept_units (length (p.got ++ h.body ∷ []))) begun new
                (append-nil (record_units (p.got ++ h.body ∷ [])))
                told
                (talks_then links (record_units (p.got ++ h.body ∷ [])) (kept_units (length p.got)) []
                (kept_unit (count + 1)) begun mid new h.talks t);
            at = h.at;
            left = h.left;
          }

      -- ---- how a session ends

      -- nothing was done to the journal
      ended_still : (rest : List ℕ) (next : Shown D) (new : L) (ended : Result Unit Stop) → next ≡ now
          → Talks links rest [] link new
          → PullEnds disks links kept p.got rest (kept_units (length p.got)) old.disk now.disk now.size begun new ended
          → Pulls disks links kept old next begun new count ended
      ended_still rest next new ended same t ends =
          subst (λ (n : Shown D). Pulls disks links kept old n begun new count ended) (sym same)
          (record {
            got = p.got;
            rest = rest;
            put = kept_units (length p.got);
            count_is = p.count_is;
            talks = carried rest new t;
            said = said_all refl;
            holds = λ calm. (p.holding.bodies, p.holding.up_to, p.holding.holds);
            told = p.holding.told;
            later = p.holding.later;
            images = images_still disks links kept old begun now p.got link p.holding rest;
            each = (still_on rest new t).each;
            ends = ends;
          })

      -- the disk failed while a record was appended
      ended_failed : (octets body : List ℕ) (next : Shown D) (new : L) (r : Result Unit AppendFault)
          → octets ≡ record_unit body → Appends disks body now next r → length kept ≤ count
          → Talks links octets [] link new
          → PullEnds disks links kept p.got octets (kept_units (length p.got)) old.disk next.disk next.size begun new
          (Err Stops.Disk) → Pulls disks links kept old next begun new count (Err Stops.Disk)
      ended_failed octets body next new r is a short t ends =
          let within : length kept ≤ length p.got = omega (arith, short, p.count_is) in
          record {
            got = p.got;
            rest = octets;
            put = kept_units (length p.got);
            count_is = p.count_is;
            talks = carried octets new t;
            said = said_all refl;
            holds = λ calm. absurd (calm refl);
            told = told_added disks links kept old begun now p.got new (still_on octets new t) body next r a within;
            later = omega (arith, p.holding.later, a.later);
            images = λ f told.
                subst (λ (o : List ℕ). AtAnyMoment disks (IsFollowed kept (record_units p.got ++ o)) old.disk next.disk)
                (sym is) (images_added disks links kept old begun now p.got new (still_on octets new t) body next r a
                within f told);
            each = each_failed disks links kept old begun now p.got new (still_on octets new t) body next r a within;
            ends = ends;
          }

      rose_on : (new : L) → LinkFailed links link new → LinkFailed links begun new
      rose_on new rose = omega (arith, rose, p.talks.later)

      over_on : (new : L) → IsOver links link new → IsOver links begun new
      over_on new (inl rose) = inl (rose_on new rose)
      over_on new (inr end) = inr end

      -- the next one is behind so many
      behind_it : (own : List ℕ) → StandsBehind count own kept → StandsBehind (length p.got) own kept
      behind_it own stands = subst (λ (n : ℕ). StandsBehind n own kept) p.count_is stands

      within_it : length kept ≤ count → length kept ≤ length p.got
      within_it short = omega (arith, short, p.count_is)

      abbrev EndsAt : (octets : List ℕ) (next : D) (new : L) → ℕ → Stop → Type 0
      EndsAt octets next new size stop =
          PullEnds disks links kept p.got octets (kept_units (length p.got)) old.disk next size begun new (Err stop)

      ends_at : (octets : List ℕ) (next : D) (new : L) (size at other : ℕ) → other ≡ at
          → EndsAt octets next new size (Stops.BadUnit at) → EndsAt octets next new size (Stops.BadUnit other)
      ends_at octets next new size at other is ends =
          subst (λ (n : ℕ). EndsAt octets next new size (Stops.BadUnit n)) (sym is) ends

      not_kept : (octets body : List ℕ) (next : Shown D) (new : L) (stop : Stop) → octets ≡ record_unit body
          → Talks links octets [] link new → Keeps disks kept count feed.at body now next (Err stop)
          → Pulls disks links kept old next begun new count (Err stop)
      not_kept octets body next new stop is t (is_other own stands differs same) =
          ended_still octets next new (Err stop) same t
          (subst (λ (n : ℕ). EndsAt octets now.disk new now.size (Stops.Diverged (n + 1))) (sym p.count_is)
          (ends_differs body own is (behind_it own stands) differs))
      not_kept octets body next new stop is t (is_behind result short (no_step none same)) =
          ended_still octets next new (Err stop) same t
          (ends_at octets now.disk new now.size (length (record_units p.got)) feed.at p.at
          (ends_none body is (within_it short) none))
      not_kept octets body next new stop is t (is_behind result short (no_room size need one size_is need_is over same))
          =
          ended_still octets next new (Err stop) same t
          (subst (λ (n : ℕ). EndsAt octets now.disk new now.size (Stops.Full n need)) (sym size_is)
          (ends_full body need is (within_it short) one need_is (omega (arith, over, size_is))))
      not_kept octets body next new stop is t (is_behind result short (add_failed one r failed a)) =
          let rose = a.disk failed in
          ended_failed octets body next new r is a short t
          (ends_failed body is (within_it short) one (omega (arith, rose, p.holding.later)))
      not_kept octets body next new stop is t (is_behind result short (add_short same)) =
          ended_still octets next new (Err stop) same t ends_short

      not_taken : (octets : List ℕ) (next : Shown D) (new : L) (stop : Stop) → Talks links octets [] link new
          → Takes disks kept count feed.at octets now next (Err stop)
          → Pulls disks links kept old next begun new count (Err stop)
      not_taken octets next new stop t (takes_none body s is short keeps) =
          not_kept octets body next new stop is t keeps
      not_taken octets next new stop t (takes_more is longer same) =
          ended_still octets next new (Err stop) same t
          (subst (λ (n : ℕ). EndsAt octets now.disk new now.size (Stops.Diverged n)) (sym p.count_is)
          (ends_more (is ∙ ap done_unit p.count_is) (omega (arith, longer, p.count_is))))
      not_taken octets next new stop t (takes_bad bad same) =
          ended_still octets next new (Err stop) same t
          (ends_at octets now.disk new now.size (length (record_units p.got)) feed.at p.at
          (ends_bad (subst (λ (n : ℕ). IsBad (due.Record n) octets) p.count_is bad)))

      pub pulls_none : (next : Shown D) (new : L) (fed : Feed) (stop : Stop)
          → NextOf disks links kept now link feed count next new fed (Err stop)
          → Pulls disks links kept old next begun new count (Err stop)
      pulls_none next new fed stop (next_taken octets r t takes goes) = not_taken octets next new stop t takes
      pulls_none next new fed stop (next_broken octets t cut over same) =
          ended_still octets next new (Err stop) same t
          (ends_broken (subst (λ (n : ℕ). IsCut (due.Record n) octets) p.count_is cut) (over_on new over))
      pulls_none next new fed stop (next_short octets f same) =
          ended_still octets next new (Err stop) same f.talks ends_short

      pub pulls_done : (next : Shown D) (new : L) (fed : Feed)
          → NextOf disks links kept now link feed count next new fed (Ok false)
          → Pulls disks links kept old next begun new count (Ok tt)
      pulls_done next new fed (next_taken octets r t (takes_done is short same) goes) =
          ended_still octets next new (Ok tt) same t
          (ends_done (is ∙ ap done_unit p.count_is) (within_it short) refl)

      -- the last record that came is kept, and the link failed while it was told so
      pub pulls_unsaid : (next : Shown D) (mid new : L) (fed : Feed) (piece : List ℕ) → HasTaken next mid fed
          → IsFront piece (kept_unit (count + 1)) → Talks links [] piece mid new → LinkFailed links mid new
          → Pulls disks links kept old next begun new (count + 1) (Err Stops.Broken)
      pulls_unsaid next mid new fed piece h front t failed =
          let got = p.got ++ h.body ∷ [] in
          let long : count + 1 ≡ length got = omega (arith, p.count_is, length-more p.got h.body) in
          let before : length p.got ≡ length got - 1 = omega (arith, p.count_is, length-more p.got h.body) in
          record {
            got = got;
            rest = [];
            put = kept_units (length p.got) ++ piece;
            count_is = long;
            talks = talks_are links (record_units got ++ []) (kept_units (length p.got) ++ piece)
                (record_units got ++ [])
                (kept_units (length p.got) ++ piece) begun new refl refl
                (talks_then links (record_units got) (kept_units (length p.got)) [] piece begun mid new h.talks t);
            said = said_cut piece (omega (arith, long))
                (ap (λ (n : ℕ). kept_units n ++ piece) before)
                (subst (λ (n : ℕ). IsFront piece (kept_unit n)) long front);
            holds = λ calm. (h.holding.bodies, h.holding.up_to, h.holding.holds);
            told = h.holding.told;
            later = h.holding.later;
            images = images_still disks links kept old begun next got mid h.holding [];
            each = (holding_on disks links kept old begun next got mid new [] piece t h.holding).each;
            ends = ends_unsaid refl (omega (arith, failed, h.talks.later));
          }

      -- a round that is the last one
      pub pulls_end : (next : Shown D) (new : L) (fed : Feed) (pulled : Pulled)
          → Rounds disks links kept now link feed count next new fed (RoundCases.Ended pulled)
          → Pulls disks links kept old next begun new pulled.kept pulled.ended
      pulls_end next new fed pulled (round_one mid round fits n (unsaid piece front t failed)) =
          pulls_unsaid next mid new fed piece (has_taken next mid fed n) front t failed
      pulls_end next new fed pulled (round_done n) = pulls_done next new fed n
      pulls_end next new fed pulled (round_none stop n) = pulls_none next new fed stop n
      pulls_end next new fed pulled (round_over same still) =
          subst (λ (l : L). Pulls disks links kept old next begun l count (Err Stops.Memory)) (sym still)
          (ended_still [] next link (Err Stops.Memory) same (talks_none links link) ends_short)

      -- and one that is not
      pub pulls_on : (next : Shown D) (new : L) (fed : Feed)
          → Rounds disks links kept now link feed count next new fed RoundCases.Kept
          → IsPulling next new fed (count + 1)
      pulls_on next new fed (round_one mid round fits n (said t)) =
          pulling_more next mid new fed (has_taken next mid fed n) t

      -- one that is not the last one had another number to count
      pub rounds_fit : (next : Shown D) (new : L) (fed : Feed)
          → Rounds disks links kept now link feed count next new fed RoundCases.Kept → count + 1 < 2 ^ 64
      rounds_fit next new fed (round_one mid round fits n says) = fits
