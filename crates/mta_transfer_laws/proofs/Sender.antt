-- What a sending end does by its rules is what its rules allow in the world.
use Rattle.std.proofs.Common.{◌≡◌, ◌<◌, ◌≤◌, ℕ, ◌+◌, ◌==◌, Bool, true, false, not, if◌then◌else◌, Some, None, List, []}
use Rattle.std.proofs.Common.{◌∷◌, refl, sym, ◌∙◌, ap, subst, arith}
use Rattle.std.proofs.lemmas.Bool.{eqb-true, eqb-false}
use Rattle.mta_lane_send.specs.declared.state.SendState.{SendState}
use Rattle.mta_lane_send.specs.declared.state.SendState.TheVariants as state
use Rattle.mta_lane_send.specs.Half.{last_of, is_idle, is_sending, goes_on, confirmed_at}
use Rattle.mta_transfer_rules.specs.Units.{LaneUnit}
use Rattle.mta_transfer_rules.specs.Units as u
use Rattle.mta_transfer_rules.specs.Pieces.{piece_of}
use Rattle.mta_transfer_rules.specs.Sending as s
use Rattle.mta_transfer_rules.specs.Sending.{SendEnd, SendEvent, SendStep, stage_on_link}
use Rattle.mta_world.specs.World.{World, Link, SendPart, set_at, send_end}
use Rattle.mta_world.specs.Steps as step
use Rattle.mta_transfer_laws.specs.Events as x
use Rattle.mta_transfer_laws.specs.Events.{WorldEvent, after, AllFit, SenderKeepsRules}
use Rattle.mta_transfer_laws.specs.Sendings.{OwnEvent, Joins, Does, Gives_up, own_events, IsPlain}

-- The own end: on no link yet in these events, or on this one
pub data Own : Type 0 where
  Away : SendState → List ℕ → Own
  Here : (link : ℕ) → SendEnd → Own

abbrev pub state_of : Own → SendState
state_of (Away st o) = st
state_of (Here j e) = e.state

abbrev pub octets_of : Own → List ℕ
octets_of (Away st o) = o
octets_of (Here j e) = e.octets

abbrev pub begin : SendState → List ℕ → (size window : ℕ) → Bool → SendEnd
begin st o size window accepted = record {
  state = st;
  octets = o;
  size = size;
  window = window;
  accepted = accepted;
  stage = stage_on_link st;
  heard = None;
}

abbrev pub give_up : Own → Own
give_up (Away st o) = Away (s.state_after st s.Abandon) o
give_up (Here j e) = Here j (s.made e s.Abandon)

abbrev pub IsNamed : SendEvent → Type 0
IsNamed (s.Made s.Abandon) = ⊥
IsNamed _ = Unit {0}

abbrev pub OwnRun : (size window : ℕ) → Bool → Own → List OwnEvent → Type 0
OwnRun size window accepted own [] = Unit {0}
OwnRun size window accepted own (Joins i ∷ es) =
    (o : List ℕ) × (is_idle (state_of own) ≡ false → octets_of own ≡ o)
    × OwnRun size window accepted (Here i (begin (state_of own) o size window accepted)) es
OwnRun size window accepted own (Gives_up ∷ es) = (is_sending (state_of own) (last_of (state_of own)) ≡ true)
    × OwnRun size window accepted (give_up own) es
OwnRun size window accepted (Away st o) (Does i e ∷ es) = ⊥
OwnRun size window accepted (Here j f) (Does i e ∷ es) =
    (i ≡ j) × IsPlain e × IsNamed e × s.SendAllows f e × OwnRun size window accepted (Here j (s.send_after f e)) es

abbrev pub with_octets : List ℕ → SendEnd → SendEnd
with_octets o e = record e { octets = o }

-- The end as its rules see it in the world, where the octets count only while an activity is under way
pub record IsHere (w : World) (j : ℕ) (e : SendEnd) : Type 0 where
  pub same : e ≡ with_octets e.octets (send_end w (w.links j).send)
  pub octets : is_idle w.state ≡ false → w.octets (last_of w.state) ≡ e.octets
  pub newest : w.send_link ≡ Some j
  pub below : j < w.opened

abbrev pub Rel : World → Own → Type 0
Rel w (Away st o) = (w.state ≡ st) × (is_idle w.state ≡ false → w.octets (last_of w.state) ≡ o)
Rel w (Here j e) = IsHere w j e

rel-state : (w : World) (own : Own) → Rel w own → w.state ≡ state_of own
rel-state w (Away st o) g = g.0
rel-state w (Here j e) g = sym (ap (λ (z : SendEnd). z.state) g.same)

rel-octets : (w : World) (own : Own) → Rel w own → is_idle w.state ≡ false → w.octets (last_of w.state) ≡ octets_of own
rel-octets w (Away st o) g = g.1
rel-octets w (Here j e) g = g.octets

-- Links -------------------------------------------------------------------------------------------------

pub set-same : (f : ℕ → Link) (i : ℕ) (v : Link) → set_at f i v i ≡ v
set-same f i v = by_number (i == i) refl
  where
    by_number : (b : Bool) → (i == i) ≡ b → (if b then v else f i) ≡ v
    by_number true e = refl
    by_number false e = absurd (eqb-false i i e refl)

set-here : (f : ℕ → List ℕ) (i : ℕ) (v : List ℕ) → set_at f i v i ≡ v
set-here f i v = by_number (i == i) refl
  where
    by_number : (b : Bool) → (i == i) ≡ b → (if b then v else f i) ≡ v
    by_number true e = refl
    by_number false e = absurd (eqb-false i i e refl)

pub set-other : (f : ℕ → Link) (i j : ℕ) (v : Link) (P : Link → Type 0) → (j ≡ i → P v) → ((j ≡ i → ⊥) → P (f j))
    → P (set_at f i v j)
set-other f i j v P yes_ not_ = by_number (j == i) refl
  where
    by_number : (b : Bool) → (j == i) ≡ b → P (if b then v else f j)
    by_number true e = yes_ (eqb-true j i e)
    by_number false e = not_ (eqb-false j i e)

-- a link whose sending part stays
kept-send : (f : ℕ → Link) (i j : ℕ) (v : Link) → v.send ≡ (f i).send → (set_at f i v j).send ≡ (f j).send
kept-send f i j v e = set-other f i j v (λ (l : Link). l.send ≡ (f j).send)
    (λ g. e ∙ ap (λ (z : ℕ). (f z).send) (sym g)) (λ n. refl)

-- What the other end and the links do leaves the own end as it is ------------------------------------------

record Leaves (w v : World) : Type 0 where
  state : v.state ≡ w.state
  octets : v.octets ≡ w.octets
  size : v.size ≡ w.size
  window : v.window ≡ w.window
  newest : v.send_link ≡ w.send_link
  opened : w.opened ≤ v.opened
  sends : (j : ℕ) → j < w.opened → (v.links j).send ≡ (w.links j).send

-- what left the sender's part as it was, field by field
leaves : {w v : World} → v.state ≡ w.state → v.octets ≡ w.octets → v.size ≡ w.size
    → v.window ≡ w.window → v.send_link ≡ w.send_link → w.opened ≤ v.opened
    → ((j : ℕ) → j < w.opened → (v.links j).send ≡ (w.links j).send) → Leaves w v
leaves state octets size window newest opened sends =
    record {
      state = state;
      octets = octets;
      size = size;
      window = window;
      newest = newest;
      opened = opened;
      sends = sends;
    }

whole-same : (a b : SendState) (c d m n : ℕ) (p q : SendPart) (o : List ℕ) → a ≡ b → c ≡ d → m ≡ n → p ≡ q
    → with_octets o (record {
      state = a;
      octets = o;
      size = c;
      window = m;
      accepted = p.accepted;
      stage = p.stage;
      heard = p.heard;
    })
    ≡ with_octets o (record {
      state = b;
      octets = o;
      size = d;
      window = n;
      accepted = q.accepted;
      stage = q.stage;
      heard = q.heard;
    })
whole-same a b c d m n p q o ab cd mn pq =
    ap (λ (z : SendState). record {
      state = z;
      octets = o;
      size = c;
      window = m;
      accepted = p.accepted;
      stage = p.stage;
      heard = p.heard;
    }) ab
    ∙ ap (λ (z : ℕ). record {
      state = b;
      octets = o;
      size = z;
      window = m;
      accepted = p.accepted;
      stage = p.stage;
      heard = p.heard;
    }) cd
    ∙ ap (λ (z : ℕ). record {
      state = b;
      octets = o;
      size = d;
      window = z;
      accepted = p.accepted;
      stage = p.stage;
      heard = p.heard;
    }) mn
    ∙ ap (λ (z : SendPart). record {
      state = b;
      octets = o;
      size = d;
      window = n;
      accepted = z.accepted;
      stage =
          z.stage;
      heard = z.heard;
    }) pq

left : (w v : World) (own : Own) → Leaves w v → Rel w own → Rel v own
left w v (Away st o) l g = (
  l.state ∙ g.0,
  λ i. (let a : is_idle w.state ≡ false = sym (ap is_idle l.state) ∙ i in let b : v.octets (last_of v.state)
      ≡ w.octets (last_of w.state) = cc in b ∙ g.1 a),
)
left w v (Here j e) l g = record {
  same = g.same ∙ whole-same w.state v.state w.size v.size w.window v.window (w.links j).send (v.links j).send e.octets
      (sym l.state) (sym l.size) (sym l.window) (sym (l.sends j g.below));
  octets = λ i. (let a : is_idle w.state ≡ false = sym (ap is_idle l.state) ∙ i in let b : v.octets (last_of v.state)
      ≡ w.octets (last_of w.state) = cc in b ∙ g.octets a);
  newest = l.newest ∙ g.newest;
  below = omega (arith, g.below, l.opened);
}

-- The own end joins a link --------------------------------------------------------------------------------

joined : (w v : World) (own : Own) (o : List ℕ) (j : ℕ) (b : Bool) → Rel w own
    → (is_idle (state_of own) ≡ false → octets_of own ≡ o) → v.state ≡ w.state → v.octets ≡ w.octets → v.size ≡ w.size
    → v.window ≡ w.window
    → (v.links j).send ≡ record { accepted = b; stage = stage_on_link w.state; heard = None } → v.send_link ≡ Some j → j
    < v.opened
    → Rel v (Here j (begin (state_of own) o w.size w.window b))
joined w v own o j b g so st oc sz wi se ne be = record {
  same =
      subst (λ (z : SendState). begin z o w.size w.window b ≡ with_octets o (send_end v (v.links j).send))
      (rel-state w own g)
      (whole-same w.state v.state w.size v.size w.window v.window
      (record { accepted = b; stage = stage_on_link w.state; heard = None }) (v.links j).send o (sym st) (sym sz)
      (sym wi) (sym se));
  octets = λ i. (let a : is_idle w.state ≡ false = sym (ap is_idle st) ∙ i in let c : v.octets (last_of v.state)
      ≡ w.octets (last_of w.state) = cc in c ∙ rel-octets w own g a ∙ so (ap is_idle (sym (rel-state w own g)) ∙ a));
  newest = ne;
  below = be;
}

-- The own end puts a unit ------------------------------------------------------------------------------------

live : (st : SendState) (k : ℕ) → goes_on st k ≡ true → is_idle st ≡ false
live (state.Idle l) k e = absurd cc
live any0 k e = refl

put-allowed : (e : SendEnd) (o : List ℕ) (y : LaneUnit) → s.MayPut (with_octets o e) y
    → (is_idle e.state ≡ false → e.octets ≡ o) → s.MayPut e y
put-allowed e o (u.Piece piece) m f =
    let same : e.octets ≡ o = f (live e.state m.1.0 m.1.3) in (
      m.0,
      (
        m.1.0,
        m.1.1,
        m.1.2,
        m.1.3,
        m.1.4,
        subst (λ (z : List ℕ). piece ≡ piece_of e.size z (m.1.1 + 1)) (sym same) m.1.5,
      ),
    )
put-allowed e o _ m f = m

put-octets : (e : SendEnd) (o : List ℕ) (y : LaneUnit) → s.MayPut (with_octets o e) y
    → (is_idle e.state ≡ false → e.octets ≡ o) → s.put (with_octets o e) y ≡ with_octets o (s.put e y)
put-octets e o (u.Piece piece) m f =
    let same : e.octets ≡ o = f (live e.state m.1.0 m.1.3) in
    subst (λ (z : List ℕ). s.put (with_octets z e) (u.Piece piece) ≡ with_octets z (s.put e (u.Piece piece))) same refl
put-octets e o _ m f = refl

sending-live : (st : SendState) (k : ℕ) → is_sending st k ≡ true → is_idle st ≡ false
sending-live (state.Sending j c) k e = refl
sending-live any0 k e = absurd cc

-- The own end's half makes a step ------------------------------------------------------------------------------

confirmed-octets : (oc : ℕ → List ℕ) (o : List ℕ) (a : SendState) (n : ℕ) → is_idle (confirmed_at a n) ≡ false
    → (is_idle a ≡ false → oc (last_of a) ≡ o) → oc (last_of (confirmed_at a n)) ≡ o
confirmed-octets oc o (state.Idle l) n i f = absurd (let c : true ≡ false = i in cc)
confirmed-octets oc o any2 n i f = f refl

called-octets : (e : SendEnd) (o : List ℕ) (st : SendStep) (y : LaneUnit) → s.IsCalledBy (with_octets o e) st y
    → s.IsCalledBy e st y
called-octets e o (s.Confirm n) (u.SyncAck m) c = c
called-octets e o s.Sent (u.EndAck k) c = c
called-octets e o s.Sent u.Completed c = c
called-octets e o s.Dropped (u.DiscardAck k) c = c
called-octets e o s.Refused u.Exception c = c
called-octets e o s.Denied u.Unrecognized c = c
called-octets e o s.Denied u.CannotRecover c = c
called-octets e o _ _ c = absurd c

make-allowed : (e : SendEnd) (o : List ℕ) (st : SendStep) → s.MayMake (with_octets o e) st → s.MayMake e st
make-allowed e o (s.Confirm n) m = (m.0, m.1, called-octets e o (s.Confirm n) m.0 m.2)
make-allowed e o s.Sent m = (m.0, m.1, called-octets e o s.Sent m.0 m.2)
make-allowed e o s.Dropped m = (m.0, m.1, called-octets e o s.Dropped m.0 m.2)
make-allowed e o s.Refused m = (m.0, m.1, called-octets e o s.Refused m.0 m.2)
make-allowed e o s.Denied m = (m.0, m.1, called-octets e o s.Denied m.0 m.2)
make-allowed e o any2 m = m

made-octets : (e : SendEnd) (o : List ℕ) (st : SendStep) → s.made (with_octets o e) st
    ≡ with_octets (s.octets_after o st) (s.made e st)
made-octets e o (s.Start new) = refl
made-octets e o any2 = refl

module _ (w : World) (j : ℕ) (e : SendEnd) (g : IsHere w j e) where
  puts : (y : LaneUnit) → s.MayPut e y → x.SenderAllows w (x.Sender_puts j y)
      × Rel (step.sender_put w j y) (Here j (s.put e y))
  puts y m =
      let f : is_idle w.state ≡ false → w.octets (last_of w.state) ≡ e.octets = g.octets in
      let n : s.MayPut (with_octets e.octets (send_end w (w.links j).send)) y =
      subst (λ (z : SendEnd). s.MayPut z y) g.same m in (
        ((λ t. g.newest), put-allowed (send_end w (w.links j).send) e.octets y n f),
        record {
          same =
              ap (λ (z : SendEnd). s.put z y) g.same
              ∙ put-octets (send_end w (w.links j).send) e.octets y n f
              ∙ ap (λ (z : Link). with_octets e.octets (send_end w z.send)) (sym (set-same w.links j _));
          octets = f;
          newest = g.newest;
          below = g.below;
        },
      )

  gets : (y : LaneUnit) → Rel (step.sender_got w j y (x.behind (w.links j).down)) (Here j (s.got e y))
  gets y = record {
    same = ap (λ (z : SendEnd). s.got z y) g.same
        ∙ ap (λ (z : Link). with_octets e.octets (send_end w z.send)) (sym (set-same w.links j _));
    octets = g.octets;
    newest = g.newest;
    below = g.below;
  }

  gives-up : is_sending e.state (last_of e.state) ≡ true → x.SenderAllows w x.Sender_gives_up
      × Rel (step.given_up w) (Here j (s.made e s.Abandon))
  gives-up i =
      let st : w.state ≡ e.state = sym (ap (λ (z : SendEnd). z.state) g.same) in
      let k : is_sending w.state (last_of w.state)
      ≡ true = subst (λ (z : SendState). is_sending z (last_of z) ≡ true) (sym st) i in (
        k,
        record {
          same = ap (λ (z : SendEnd). s.made z s.Abandon) g.same;
          octets = λ n. g.octets (sending-live w.state (last_of w.state) k);
          newest = g.newest;
          below = g.below;
        },
      )

  makes : (st : SendStep) → IsNamed (s.Made st) → s.MayMake e st → x.SenderAllows w (x.Sender_makes j st)
      × Rel (step.sender_made w j st) (Here j (s.made e st))
  makes st nm m =
      let f : is_idle w.state ≡ false → w.octets (last_of w.state) ≡ e.octets = g.octets in
      let n : s.MayMake (with_octets e.octets (send_end w (w.links j).send)) st =
      subst (λ (z : SendEnd). s.MayMake z st) g.same m in
      let k : s.MayMake (send_end w (w.links j).send) st = make-allowed (send_end w (w.links j).send) e.octets st n in (
        (g.newest, newest-of st nm, k),
        record {
          same =
              ap (λ (z : SendEnd). s.made z st) g.same
              ∙ made-octets (send_end w (w.links j).send) e.octets st
              ∙ ap (λ (z : Link). with_octets (s.octets_after e.octets st) (send_end (step.sender_made w j st) z.send))
              (sym (set-same w.links j _));
          octets = octets-made st k f;
          newest = g.newest;
          below = g.below;
        },
      )
    where
      newest-of : (st : SendStep) → IsNamed (s.Made st) → step.IsOnNewest st
      newest-of s.Abandon nm = absurd nm
      newest-of _ nm = tt

      octets-made : (st : SendStep) → s.MayMake (send_end w (w.links j).send) st
          → (is_idle w.state ≡ false → w.octets (last_of w.state) ≡ e.octets)
          → is_idle (s.state_after w.state st) ≡ false → step.octets_after w st (last_of (s.state_after w.state st))
          ≡ s.octets_after e.octets st
      octets-made (s.Start new) m f i = set-here w.octets (last_of w.state + 1) new
      octets-made (s.Confirm n) m f i = confirmed-octets w.octets e.octets w.state n i f
      octets-made s.To_end m f i = f (sending-live w.state (last_of w.state) m)
      octets-made s.Abandon m f i = f (sending-live w.state (last_of w.state) m)
      octets-made any0 m f i = absurd (let c : true ≡ false = i in cc)

-- Each event -----------------------------------------------------------------------------------------------------

given : (w : World) (own : Own) → Rel w own → is_sending (state_of own) (last_of (state_of own)) ≡ true
    → x.SenderAllows w x.Sender_gives_up × Rel (step.given_up w) (give_up own)
given w (Away st o) g i =
    let k : is_sending w.state (last_of w.state)
    ≡ true = subst (λ (z : SendState). is_sending z (last_of z) ≡ true) (sym g.0) i in
    (k, (ap (λ (z : SendState). s.state_after z s.Abandon) g.0, λ n. g.1 (sending-live w.state (last_of w.state) k)))
given w (Here j e) g i = gives-up w j e g i

-- what is done on a link is done on this one
at-link : (i j : ℕ) (w : World) (event : ℕ → WorldEvent) (own : Own) → i ≡ j → x.SenderAllows w (event j)
    × Rel (after w (event j)) own → x.SenderAllows w (event i) × Rel (after w (event i)) own
at-link i j w event own e g = subst (λ (z : ℕ). x.SenderAllows w (event z) × Rel (after w (event z)) own) (sym e) g

pub keeps : (w : World) (own : Own) (events : List WorldEvent) → AllFit w events
    → OwnRun w.size w.window (not w.sender_opens) own (own_events events) → Rel w own → SenderKeepsRules w events
keeps w own [] f r g = tt
keeps w own (x.Sender_opens i ∷ es) f r g =
    let so : w.sender_opens ≡ true = f.0.0 in
    let here : Rel (step.opened_by_sender w) (Here i (begin (state_of own) r.0 w.size w.window false)) =
    joined w (step.opened_by_sender w) own r.0 i false g r.1 refl refl refl refl
    (subst (λ (z : ℕ). ((step.opened_by_sender w).links z).send
    ≡ record { accepted = false; stage = stage_on_link w.state; heard = None }) (sym f.0.1)
    (ap (λ (l : Link). l.send) (set-same w.links w.opened _)))
    (ap (λ (z : ℕ). Some z) (sym f.0.1)) (omega (arith, f.0.1)) in (
      tt,
      keeps (step.opened_by_sender w) (Here i (begin (state_of own) r.0 w.size w.window (not w.sender_opens))) es f.1
          r.2
          (subst (λ (b : Bool). Rel (step.opened_by_sender w)
          (Here i (begin (state_of own) r.0 w.size w.window (not b)))) (sym so) here),
    )
keeps w own (x.Sender_joins i ∷ es) f r g =
    let so : w.sender_opens ≡ false = f.0.0 in
    let v : World = step.joined_by_sender w i (w.links i) in
    let here : Rel v (Here i (begin (state_of own) r.0 w.size w.window true)) =
    joined w v own r.0 i true g r.1 refl refl refl refl (ap (λ (l : Link). l.send) (set-same w.links i _)) refl
    f.0.1 in (
      tt,
      keeps v (Here i (begin (state_of own) r.0 w.size w.window (not w.sender_opens))) es f.1 r.2
          (subst (λ (b : Bool). Rel v (Here i (begin (state_of own) r.0 w.size w.window (not b)))) (sym so) here),
    )
keeps w (Away st o) (x.Sender_puts i y ∷ es) f r g = absurd r
keeps w (Here j e) (x.Sender_puts i y ∷ es) f r g =
    let d : x.SenderAllows w (x.Sender_puts i y)
    × Rel (step.sender_put w i y) (Here j (s.put e y)) =
    at-link i j w (λ z. x.Sender_puts z y) (Here j (s.put e y)) r.0 (puts w j e g y r.3) in
    (d.0, keeps (step.sender_put w i y) (Here j (s.put e y)) es f.1 r.4 d.1)
keeps w (Away st o) (x.Sender_gets i y ∷ es) f r g = absurd r
keeps w (Here j e) (x.Sender_gets i y ∷ es) f r g =
    let d : x.SenderAllows w (x.Sender_gets i y)
    × Rel (after w (x.Sender_gets i y)) (Here j (s.got e y)) =
    at-link i j w (λ z. x.Sender_gets z y) (Here j (s.got e y)) r.0 (tt, gets w j e g y) in
    (tt, keeps (after w (x.Sender_gets i y)) (Here j (s.got e y)) es f.1 r.4 d.1)
keeps w (Away st o) (x.Sender_makes i step ∷ es) f r g = absurd r
keeps w (Here j e) (x.Sender_makes i st ∷ es) f r g =
    let d : x.SenderAllows w (x.Sender_makes i st)
    × Rel (step.sender_made w i st) (Here j (s.made e st)) =
    at-link i j w (λ z. x.Sender_makes z st) (Here j (s.made e st)) r.0 (makes w j e g st r.2 r.3) in
    (d.0, keeps (step.sender_made w i st) (Here j (s.made e st)) es f.1 r.4 d.1)
keeps w own (x.Sender_gives_up ∷ es) f r g =
    let d : x.SenderAllows w x.Sender_gives_up × Rel (step.given_up w) (give_up own) = given w own g r.0 in
    (d.0, keeps (step.given_up w) (give_up own) es f.1 r.1 d.1)
keeps w own (x.Receiver_opens i ∷ es) f r g =
    let v : World = after w (x.Receiver_opens i) in
    let l : Leaves w v = leaves refl refl refl refl refl (omega arith)
    (λ j lt. set-other w.links w.opened j _ (λ (l : Link). l.send ≡ (w.links j).send)
    (λ e. absurd (omega (arith, e, lt))) (λ n. refl)) in
    (tt, keeps v own es f.1 r (left w v own l g))
keeps w own (x.Receiver_joins i ∷ es) f r g =
    let v : World = after w (x.Receiver_joins i) in
    let l : Leaves w v = leaves refl refl refl refl refl (omega arith) (λ j lt. kept-send w.links i j _ refl) in
    (tt, keeps v own es f.1 r (left w v own l g))
keeps w own (x.Receiver_takes i y ∷ es) f r g =
    let v : World = after w (x.Receiver_takes i y) in
    let l : Leaves w v = leaves refl refl refl refl refl (omega arith) (λ j lt. kept-send w.links i j _ refl) in
    (tt, keeps v own es f.1 r (left w v own l g))
keeps w own (x.Receiver_puts i y ∷ es) f r g =
    let v : World = after w (x.Receiver_puts i y) in
    let l : Leaves w v = leaves refl refl refl refl refl (omega arith) (λ j lt. kept-send w.links i j _ refl) in
    (tt, keeps v own es f.1 r (left w v own l g))
keeps w own (x.Receiver_makes i st ∷ es) f r g =
    let v : World = after w (x.Receiver_makes i st) in
    let l : Leaves w v = leaves refl refl refl refl refl (omega arith) (λ j lt. kept-send w.links i j _ refl) in
    (tt, keeps v own es f.1 r (left w v own l g))
keeps w own (x.Receiver_finds i k n piece ∷ es) f r g =
    let v : World = after w (x.Receiver_finds i k n piece) in
    let l : Leaves w v = leaves refl refl refl refl refl (omega arith) (λ j lt. kept-send w.links i j _ refl) in
    (tt, keeps v own es f.1 r (left w v own l g))
keeps w own (x.Loses_up i n ∷ es) f r g =
    let v : World = after w (x.Loses_up i n) in
    let l : Leaves w v = leaves refl refl refl refl refl (omega arith) (λ j lt. kept-send w.links i j _ refl) in
    (tt, keeps v own es f.1 r (left w v own l g))
keeps w own (x.Loses_down i n ∷ es) f r g =
    let v : World = after w (x.Loses_down i n) in
    let l : Leaves w v = leaves refl refl refl refl refl (omega arith) (λ j lt. kept-send w.links i j _ refl) in
    (tt, keeps v own es f.1 r (left w v own l g))
keeps w own (x.Sender_stops i ∷ es) f r g =
    let v : World = after w (x.Sender_stops i) in
    let l : Leaves w v = leaves refl refl refl refl refl (omega arith) (λ j lt. kept-send w.links i j _ refl) in
    (tt, keeps v own es f.1 r (left w v own l g))
keeps w own (x.Receiver_stops i ∷ es) f r g =
    let v : World = after w (x.Receiver_stops i) in
    let l : Leaves w v = leaves refl refl refl refl refl (omega arith) (λ j lt. kept-send w.links i j _ refl) in
    (tt, keeps v own es f.1 r (left w v own l g))
keeps w own (x.Sender_crashes ∷ es) f r g =
    let v : World = after w x.Sender_crashes in
    let l : Leaves w v = leaves refl refl refl refl refl (omega arith) (λ j lt. refl) in
    (tt, keeps v own es f.1 r (left w v own l g))
keeps w own (x.Receiver_crashes ∷ es) f r g =
    let v : World = after w x.Receiver_crashes in
    let l : Leaves w v = leaves refl refl refl refl refl (omega arith) (λ j lt. refl) in
    (tt, keeps v own es f.1 r (left w v own l g))
