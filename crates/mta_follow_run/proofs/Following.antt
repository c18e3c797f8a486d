-- What a standby's side of a session keeps, round after round.
use Rattle.std.proofs.Common.{◌≡◌, append-nil, ⊎_elim, ℕ, suc, ◌≤◌, ◌<◌}
use Rattle.std.proofs.Common.{Some}
use Rattle.std.proofs.Common.{List, [], ◌∷◌, ◌++◌, length, take, Result, refl, sym, ap, subst, arith}
use Rattle.std.proofs.Common.{IsOk}
use Rattle.std.proofs.lemmas.Bool.{cases_lt}
use Rattle.std.proofs.lemmas.List.{take-append-le}
use Rattle.mta_edge.specs.Crashes.{AtAnyMoment, Settled}
use Rattle.mta_edge.specs.Views.{DiskLaws, DiskView, StaysTold, WhereTold}
use Rattle.mta_edge.proofs.Moments.{at_once, joined, weaken}
use Rattle.mta_links.specs.Links.{LinkView}
use Rattle.mta_journal.specs.Appending.{Appends}
use Rattle.mta_journal.specs.Bodies.{HasBodiesAt, HasOrOneMore}
use Rattle.mta_journal.specs.Shown.{Holds, IsPlain, Shown}
use Rattle.mta_journal.specs.declared.journal.AppendFault.{AppendFault}
use Rattle.mta_journal.proofs.OpenedDisk.{stands_for}
use Rattle.mta_images.proofs.GoingOn.{plain_alone}
use Rattle.mta_follow_units.specs.Units.{record_unit, record_units}
use Rattle.mta_follow_run.specs.Copies.{AreKept, Bring, HasFirst, IsKeptFrom, IsUpTo, within}
use Rattle.mta_follow_run.specs.Fronts.{IsFront}
use Rattle.mta_follow_run.specs.Pulling.{IsFollowed}
use Rattle.mta_follow_run.specs.Taking.{StandsBehind}
use Rattle.mta_follow_run.specs.Talks.{Talks, kept_units}
use Rattle.mta_follow_run.proofs.Carrying.{talks_none, talks_then}
use Rattle.mta_follow_run.proofs.Fronts.{follows_more, front_more, front_none, front_same, front_take, length-more}
use Rattle.mta_follow_run.proofs.Fronts.{units-more, up_behind, up_equal, up_follows, up_front, up_more}

-- what is followed is followed however more comes
pub followed_more : (kept : List (List ℕ)) (octets rest image : List ℕ) → IsFollowed kept octets image
    → IsFollowed kept (octets ++ rest) image
followed_more kept octets rest image h = record {
  bodies = h.bodies;
  stands = h.stands;
  follows = follows_more kept h.bodies octets rest h.follows;
  plain = h.plain;
}

-- an image with these bodies in the only area or the first
pub followed_at : (kept got bodies : List (List ℕ)) (octets : List ℕ) (gate : ℕ) (image : List ℕ) → IsPlain gate
    → IsUpTo kept got bodies → Bring octets got → HasBodiesAt gate bodies image → IsFollowed kept octets image
followed_at kept got bodies octets gate image plain up bring has = record {
  bodies = bodies;
  stands = stands_for gate image bodies has;
  follows = up_follows kept got bodies octets up bring;
  plain = plain_alone gate bodies image plain has;
}

pub first_at : (got bodies : List (List ℕ)) (gate : ℕ) (image : List ℕ) → IsFront got bodies
    → HasBodiesAt gate bodies image → HasFirst got image
first_at got bodies gate image f has =
    record { all = bodies; stands = stands_for gate image bodies has; front = f }

-- with nothing pending the one image is what a read gives
still_once : {D : Type 0} (disks : DiskView D) → DiskLaws disks → (P : List ℕ → Type 0) (old : D) (f : List ℕ)
    → Settled disks old → disks.content old ≡ Some f → P f → AtAnyMoment disks P old old
still_once disks laws P old f settled told here =
    at_once disks P old (λ g left. subst P (sym (settled f told g (laws.only_now old g left))) here)

module _ {D L : Type 0} (disks : DiskView D) (links : LinkView L) (kept : List (List ℕ)) (old : Shown D) (begun : L)
  where
    -- The journal holds those that were kept and these, and so does a crash, where the link has come to `last`.
    pub record IsHolding (now : Shown D) (got : List (List ℕ)) (last : L) : Type 0 where
      pub bodies : List (List ℕ)
      pub up_to : IsUpTo kept got bodies
      pub holds : Holds disks now bodies
      pub plain : IsPlain now.first
      pub told : StaysTold disks old.disk now.disk
      pub later : disks.faults old.disk ≤ disks.faults now.disk
      pub images : WhereTold disks old.disk
          (λ f. AtAnyMoment disks (IsFollowed kept (record_units got)) old.disk now.disk)
      pub each : WhereTold disks old.disk (λ f. AreKept disks links got begun last now.disk)

    -- nothing came yet
    pub holding_none : DiskLaws disks → Holds disks old kept → IsPlain old.first → IsHolding old [] begun
    holding_none laws holds plain = record {
      bodies = kept;
      up_to = within refl (front_none kept);
      holds = holds;
      plain = plain;
      told = λ f told. (f, told);
      later = omega arith;
      images = λ f told.
          still_once disks laws (IsFollowed kept []) old.disk f holds.settled told
          (followed_at kept [] kept [] old.first f plain (within refl (front_none kept)) (front_same [])
          (holds.file f told));
      each = λ f told count some. absurd (omega (arith, some));
    }

    -- the link went on
    pub holding_on : (now : Shown D) (got : List (List ℕ)) (last next : L) (came gone : List ℕ)
        → Talks links came gone last next → IsHolding now got last → IsHolding now got next
    holding_on now got last next came gone t h = record {
      bodies = h.bodies;
      up_to = h.up_to;
      holds = h.holds;
      plain = h.plain;
      told = h.told;
      later = h.later;
      images = h.images;
      each = λ f told count some. kept_on count (h.each f told count some);
    }
      where
        kept_on : (count : ℕ) → IsKeptFrom disks links got begun last now.disk count
            → IsKeptFrom disks links got begun next now.disk count
        kept_on count k = record {
          mid = k.mid;
          link = k.link;
          until = k.until;
          so_far = k.so_far;
          came = k.came ++ came;
          gone = k.gone ++ gone;
          behind = talks_then links k.came k.gone came gone k.link last next k.behind t;
          stays = k.stays;
        }

    module _ (now : Shown D) (got : List (List ℕ)) (last : L) (h : IsHolding now got last) where
      -- ---- another record that stands already

      pub images_still : (rest : List ℕ) → WhereTold disks old.disk
          (λ f. AtAnyMoment disks (IsFollowed kept (record_units got ++ rest)) old.disk now.disk)
      images_still rest f told =
          weaken disks (IsFollowed kept (record_units got)) (IsFollowed kept (record_units got ++ rest)) old.disk
          now.disk
          (λ g. followed_more kept (record_units got) rest g) (h.images f told)

      -- the last of these is kept from now on, where the link has given them and taken that those before it are kept
      point : DiskLaws disks → (next : Shown D) (body : List ℕ) (bodies : List (List ℕ)) → Holds disks next bodies
          → IsFront (got ++ body ∷ []) bodies → StaysTold disks old.disk next.disk
          → Talks links (record_units (got ++ body ∷ [])) (kept_units (length got)) begun last
          → (f : List ℕ) → disks.content old.disk ≡ Some f
          → IsKeptFrom disks links (got ++ body ∷ []) begun last next.disk (length got)
      point laws next body bodies holds front told talks f was =
          let content = told f was in
          let all : got ++ body ∷ [] ≡ take (suc (length got)) (got ++ body ∷ []) = sym (whole_take got body) in
          record {
            mid = next.disk;
            link = last;
            until = omega arith;
            so_far =
                subst (λ (l : List (List ℕ)). Talks links (record_units l) (kept_units (length got)) begun last) all
                talks;
            came = [];
            gone = [];
            behind = talks_none links last;
            stays = λ g left.
                let now_is : g ≡ content.0 = holds.settled content.0 content.1 g (laws.only_now next.disk g left) in
                subst (λ (l : List (List ℕ)). HasFirst l g) all
                (first_at (got ++ body ∷ []) bodies next.first g front
                (subst (λ (x : List ℕ). HasBodiesAt next.first bodies x) (sym now_is)
                (holds.file content.0 content.1)));
          }
        where
          whole_take : (l : List (List ℕ)) (b : List ℕ) → take (suc (length l)) (l ++ b ∷ []) ≡ l ++ b ∷ []
          whole_take [] b = refl
          whole_take (x ∷ l) b = ap (λ (t : List (List ℕ)). x ∷ t) (whole_take l b)

      -- of those that were kept before nothing changes
      pub kept_still : (next : D) (P : List ℕ → Type 0) (more : List (List ℕ)) → AtAnyMoment disks P now.disk next
          → ((g : List ℕ) → P g → HasFirst got g) → AreKept disks links got begun last now.disk
          → (count : ℕ) → count < length got
          → IsKeptFrom disks links (got ++ more) begun last next count
      kept_still next P more moments gives each count some =
          let k = each count some in
          let same : take (suc count) got ≡ take (suc count) (got ++ more) =
          sym (take-append-le (suc count) got more (omega (arith, some))) in
          record {
            mid = k.mid;
            link = k.link;
            until = omega (arith, k.until, moments.later);
            so_far =
                subst (λ (l : List (List ℕ)). Talks links (record_units l) (kept_units count) begun k.link) same
                k.so_far;
            came = k.came;
            gone = k.gone;
            behind = k.behind;
            stays = λ g left.
                subst (λ (l : List (List ℕ)). HasFirst l g) same
                (⊎_elim (k.stays g)
                (λ p. let first = gives g p in record {
                  all = first.all;
                  stands = first.stands;
                  front = front_take (suc count) got first.all first.front;
                }) (moments.since (disks.moment k.mid) g k.until left));
          }

      -- with the last one, all are kept
      each_more : (next : D) (body : List ℕ)
          → IsKeptFrom disks links (got ++ body ∷ []) begun last next (length got)
          → ((count : ℕ) → count < length got → IsKeptFrom disks links (got ++ body ∷ []) begun last next count)
          → AreKept disks links (got ++ body ∷ []) begun last next
      each_more next body one before count some =
          ⊎_elim (λ inside. before count inside)
          (λ past.
          let same : length got ≡ count = omega (arith, past, some, length-more got body) in
          subst (IsKeptFrom disks links (got ++ body ∷ []) begun last next) same one)
          (cases_lt count (length got))

      -- the next record is the one that stands there
      pub holding_equal : DiskLaws disks → (body : List ℕ) → StandsBehind (length got) body kept
          → Talks links (record_units (got ++ body ∷ [])) (kept_units (length got)) begun last
          → IsHolding now (got ++ body ∷ []) last
      holding_equal laws body stands talks =
          let up = up_equal kept got h.bodies body h.up_to stands in
          let front = up_front kept (got ++ body ∷ []) h.bodies up in
          let first = up_front kept got h.bodies h.up_to in
          record {
            bodies = h.bodies;
            up_to = up;
            holds = h.holds;
            plain = h.plain;
            told = h.told;
            later = h.later;
            images = λ f told.
                subst (λ (o : List ℕ). AtAnyMoment disks (IsFollowed kept o) old.disk now.disk)
                (sym (units-more got body)) (images_still (record_unit body) f told);
            each = λ f told. let content = h.told f told in
                each_more now.disk body
                (point laws now body h.bodies h.holds front h.told talks f told)
                (kept_still now.disk (HasBodiesAt now.first h.bodies) (body ∷ [])
                (still_once disks laws (HasBodiesAt now.first h.bodies) now.disk content.0 h.holds.settled content.1
                (h.holds.file content.0 content.1))
                (λ g has. first_at got h.bodies now.first g first has) (h.each f told));
          }

      -- ---- another record that is appended

      module _ (body : List ℕ) (next : Shown D) (r : Result Unit AppendFault) (a : Appends disks body now next r)
          (short : length kept ≤ length got) where
        all_held : h.bodies ≡ got
        all_held = (up_behind kept got h.bodies h.up_to short).0

        -- what a crash leaves while it is appended
        torn : (f : List ℕ) → disks.content old.disk ≡ Some f
            → AtAnyMoment disks (HasOrOneMore now.first h.bodies body) now.disk next.disk
        torn f told = let content = h.told f told in a.images content.0 content.1 h.bodies h.holds

        torn_follows : (g : List ℕ) → HasOrOneMore now.first h.bodies body g
            → IsFollowed kept (record_units got ++ record_unit body) g
        torn_follows g one =
            ⊎_elim
            (λ has. followed_at kept got h.bodies (record_units got ++ record_unit body) now.first g h.plain h.up_to
            (front_more (record_units got) (record_units got) (record_unit body) (front_same (record_units got))) has)
            (λ has. followed_at kept (got ++ body ∷ []) (h.bodies ++ body ∷ [])
            (record_units got ++ record_unit body) now.first g h.plain (up_more kept got h.bodies body h.up_to short)
            (subst (λ (o : List ℕ). IsFront o (record_units got ++ record_unit body)) (sym (units-more got body))
            (front_same (record_units got ++ record_unit body))) has)
            one

        torn_first : (g : List ℕ) → HasOrOneMore now.first h.bodies body g → HasFirst got g
        torn_first g one =
            let first = up_front kept got h.bodies h.up_to in
            ⊎_elim (λ has. first_at got h.bodies now.first g first has)
            (λ has. first_at got (h.bodies ++ body ∷ []) now.first g
            (front_more got h.bodies (body ∷ []) first) has)
            one

        pub images_added : WhereTold disks old.disk
            (λ f. AtAnyMoment disks (IsFollowed kept (record_units got ++ record_unit body)) old.disk next.disk)
        images_added f told =
            joined disks (IsFollowed kept (record_units got ++ record_unit body)) old.disk now.disk next.disk
            (images_still (record_unit body) f told)
            (weaken disks (HasOrOneMore now.first h.bodies body)
            (IsFollowed kept (record_units got ++ record_unit body)) now.disk next.disk torn_follows (torn f told))

        pub told_added : StaysTold disks old.disk next.disk
        told_added f was = let content = h.told f was in a.told content.0 content.1

        -- those that came before are kept, also where the disk fails
        pub each_still : (more : List (List ℕ)) → WhereTold disks old.disk (λ f. (count : ℕ) → count < length got
            → IsKeptFrom disks links (got ++ more) begun last next.disk count)
        each_still more f told =
            kept_still next.disk (HasOrOneMore now.first h.bodies body) more (torn f told) torn_first (h.each f told)

        pub each_failed : WhereTold disks old.disk (λ f. AreKept disks links got begun last next.disk)
        each_failed f told count inside =
            subst (λ (l : List (List ℕ)). IsKeptFrom disks links l begun last next.disk count) (append-nil got)
            (each_still [] f told count inside)

        pub holding_added : DiskLaws disks → IsOk r
            → Talks links (record_units (got ++ body ∷ [])) (kept_units (length got)) begun last
            → IsHolding next (got ++ body ∷ []) last
        holding_added laws ok talks =
            let holds = a.done ok h.bodies h.holds in
            let up = up_more kept got h.bodies body h.up_to short in
            record {
              bodies = h.bodies ++ body ∷ [];
              up_to = up;
              holds = holds;
              plain = subst IsPlain (sym a.place) h.plain;
              told = told_added;
              later = omega (arith, h.later, a.later);
              images = λ f told.
                  subst (λ (o : List ℕ). AtAnyMoment disks (IsFollowed kept o) old.disk next.disk)
                  (sym (units-more got body)) (images_added f told);
              each = λ f told.
                  each_more next.disk body
                  (point laws next body (h.bodies ++ body ∷ []) holds
                  (up_front kept (got ++ body ∷ []) (h.bodies ++ body ∷ []) up) told_added talks f told)
                  (each_still (body ∷ []) f told);
            }
