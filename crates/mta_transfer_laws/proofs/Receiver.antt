-- What a receiving end does by its rules is what its rules allow in the world.
use Rattle.std.proofs.Common.{◌≡◌, ◌<◌, ◌≤◌, ℕ, Bool, true, false, if◌then◌else◌, Option, Some, None, IsSome, unwrap_or}
use Rattle.std.proofs.Common.{List, [], ◌∷◌, refl, sym, ◌∙◌, ap, subst, arith}
use Rattle.mta_lane_recv.specs.declared.state.Last.{Last}
use Rattle.mta_transfer_rules.specs.Units.{LaneUnit}
use Rattle.mta_transfer_rules.specs.Units as u
use Rattle.mta_transfer_rules.specs.Receiving as r
use Rattle.mta_transfer_rules.specs.Receiving.{RecvEnd, RecvEvent, RecvStep}
use Rattle.mta_world.specs.World.{World, Link, RecvPart, set_at, recv_end, recv_part}
use Rattle.mta_world.specs.Steps as step
use Rattle.mta_transfer_rules.specs.Pieces.{octets_with}
use Rattle.mta_world.specs.Steps.{Spells, IsFaulty, pieces_after}
use Rattle.mta_transfer_laws.specs.Events as x
use Rattle.mta_transfer_laws.specs.Events.{WorldEvent, after, AllFit, ReceiverKeepsRules}
use Rattle.mta_transfer_laws.specs.Receivings.{OwnEvent, Joins, Does, own_events, IsPlain, IsTrue, pieces_behind}
use Rattle.mta_transfer_laws.proofs.Sender.{set-same, set-other}

pub data Own : Type 0 where
  Away : (high : ℕ) → Last → List (List ℕ) → Own
  Here : (link : ℕ) → RecvEnd → List (List ℕ) → Own

abbrev pub high_of : Own → ℕ
high_of (Away h l p) = h
high_of (Here j e p) = e.high

abbrev pub last_of : Own → Last
last_of (Away h l p) = l
last_of (Here j e p) = e.last

abbrev pub pieces_of : Own → List (List ℕ)
pieces_of (Away h l p) = p
pieces_of (Here j e p) = p

abbrev pub begin : ℕ → Last → RecvEnd
begin h l = record { high = h; last = l; stage = r.Free; from = 0; acked = 0 }

-- a message that is completed is one
abbrev pub IsSpelt : (List ℕ → Bool) → List (List ℕ) → RecvEvent → Type 0
IsSpelt spells pieces (r.Made (r.Complete k n piece)) = spells (octets_with pieces n piece) ≡ true
IsSpelt spells pieces _ = Unit {0}

abbrev pub OwnRun : (List ℕ → Bool) → Own → List OwnEvent → Type 0
OwnRun spells own [] = Unit {0}
OwnRun spells own (Joins i ∷ es) = OwnRun spells (Here i (begin (high_of own) (last_of own)) (pieces_of own)) es
OwnRun spells (Away h l p) (Does i e ∷ es) = ⊥
OwnRun spells (Here j f p) (Does i e ∷ es) =
    (i ≡ j) × IsPlain e × r.RecvAllows f e × IsTrue spells f p e × IsSpelt spells p e
    × OwnRun spells (Here j (r.recv_after f e) (pieces_behind p e)) es

-- The end as its rules see it in the world
pub record IsHere (w : World) (j : ℕ) (e : RecvEnd) (p : List (List ℕ)) : Type 0 where
  pub same : e ≡ recv_end w (w.links j).recv
  pub pieces : w.pieces ≡ p
  pub newest : w.recv_link ≡ Some j
  pub below : j < w.opened

abbrev pub Rel : World → Own → Type 0
Rel w (Away h l p) = (w.high ≡ h) × (w.last ≡ l) × (w.pieces ≡ p)
Rel w (Here j e p) = IsHere w j e p

rel-high : (w : World) (own : Own) → Rel w own → w.high ≡ high_of own
rel-high w (Away h l p) g = g.0
rel-high w (Here j e p) g = sym (ap (λ (z : RecvEnd). z.high) g.same)

rel-last : (w : World) (own : Own) → Rel w own → w.last ≡ last_of own
rel-last w (Away h l p) g = g.1
rel-last w (Here j e p) g = sym (ap (λ (z : RecvEnd). z.last) g.same)

rel-pieces : (w : World) (own : Own) → Rel w own → w.pieces ≡ pieces_of own
rel-pieces w (Away h l p) g = g.2
rel-pieces w (Here j e p) g = g.pieces

-- a link whose receiving part stays
kept-recv : (f : ℕ → Link) (i j : ℕ) (v : Link) → v.recv ≡ (f i).recv → (set_at f i v j).recv ≡ (f j).recv
kept-recv f i j v e = set-other f i j v (λ (l : Link). l.recv ≡ (f j).recv)
    (λ g. e ∙ ap (λ (z : ℕ). (f z).recv) (sym g)) (λ n. refl)

abbrev the_end : ℕ → Last → RecvPart → RecvEnd
the_end h l p = record { high = h; last = l; stage = p.stage; from = p.from; acked = p.acked }

record Leaves (w v : World) : Type 0 where
  high : v.high ≡ w.high
  last : v.last ≡ w.last
  pieces : v.pieces ≡ w.pieces
  newest : v.recv_link ≡ w.recv_link
  opened : w.opened ≤ v.opened
  recvs : (j : ℕ) → j < w.opened → (v.links j).recv ≡ (w.links j).recv

whole-same : (a b : ℕ) (c d : Last) (p q : RecvPart) → a ≡ b → c ≡ d → p ≡ q
    → record { high = a; last = c; stage = p.stage; from = p.from; acked = p.acked } ≡ the_end b d q
whole-same a b c d p q ab cd pq =
    ap (λ (z : ℕ). the_end z c p) ab ∙ ap (λ (z : Last). the_end b z p) cd ∙ ap (λ (z : RecvPart). the_end b d z) pq

left : (w v : World) (own : Own) → Leaves w v → Rel w own → Rel v own
left w v (Away h l p) g k = (g.high ∙ k.0, g.last ∙ k.1, g.pieces ∙ k.2)
left w v (Here j e p) g k = record {
  same = k.same ∙ whole-same w.high v.high w.last v.last (w.links j).recv (v.links j).recv (sym g.high) (sym g.last)
      (sym (g.recvs j k.below));
  pieces = g.pieces ∙ k.pieces;
  newest = g.newest ∙ k.newest;
  below = omega (arith, k.below, g.opened);
}

joined : (w v : World) (own : Own) (j : ℕ) → Rel w own → v.high ≡ w.high → v.last ≡ w.last → v.pieces ≡ w.pieces
    → (v.links j).recv ≡ record { stage = r.Free; from = 0; acked = 0 } → v.recv_link ≡ Some j → j < v.opened
    → Rel v (Here j (begin (high_of own) (last_of own)) (pieces_of own))
joined w v own j g hi la pi re ne be = record {
  same = whole-same (high_of own) v.high (last_of own) v.last (record { stage = r.Free; from = 0; acked = 0 })
      (v.links j).recv (sym (hi ∙ rel-high w own g)) (sym (la ∙ rel-last w own g)) (sym re);
  pieces = pi ∙ rel-pieces w own g;
  newest = ne;
  below = be;
}

pub taken : (e : RecvEnd) (o : Option RecvEnd) → IsSome o → (f : RecvEnd) × (o ≡ Some f)
taken e None s = absurd (let c : false ≡ true = s in cc)
taken e (Some f) s = (f, refl)

spelt : (spells : List ℕ → Bool) (w : World) (st : RecvStep) → IsSpelt spells w.pieces (r.Made st) → Spells spells w st
spelt spells w (r.Complete k n piece) g = g
spelt spells w any2 g = tt

-- taking and putting leave the durable half ------------------------------------------------------------------

abbrev pub KeepsHalf : RecvEnd → RecvEnd → Type 0
KeepsHalf e f = (f.high ≡ e.high) × (f.last ≡ e.last)

some-is : (a b : RecvEnd) (e : RecvEnd) → KeepsHalf e a → Some a ≡ Some b → KeepsHalf e b
some-is a b e k s = subst (λ (z : RecvEnd). KeepsHalf e z) (let c : a ≡ b = cc in c) k

when-keeps : (b : Bool) (a f e : RecvEnd) → KeepsHalf e a → r.when b a ≡ Some f → KeepsHalf e f
when-keeps true a f e k s = some-is a f e k s
when-keeps false a f e k s = absurd (let c : None ≡ Some f = s in cc)

if-keeps : (b : Bool) (a c f e : RecvEnd) → KeepsHalf e a → KeepsHalf e c → (if b then Some a else Some c) ≡ Some f
    → KeepsHalf e f
if-keeps true a c f e k l s = some-is a f e k s
if-keeps false a c f e k l s = some-is c f e l s

pub take-keeps : (st : r.RecvStage) (e f : RecvEnd) (y : LaneUnit) → e.stage ≡ st → r.take e y ≡ Some f → KeepsHalf e f
take-keeps st e f y se t = by_unit y t
  where
    by_start : (a : r.RecvStage) (k : ℕ) → r.take_start a e k ≡ Some f → KeepsHalf e f
    by_start r.Free k t = when-keeps _ _ f e (refl, refl) t
    by_start (r.Skips j) k t = when-keeps _ _ f e (refl, refl) t
    by_start _ k t = absurd (let c : None ≡ Some f = t in cc)

    by_piece : (a : r.RecvStage) (p : List ℕ) → r.take_piece a e p ≡ Some f → KeepsHalf e f
    by_piece (r.Next k n) p t = some-is _ f e (refl, refl) t
    by_piece (r.Synced k n q) p t = some-is _ f e (refl, refl) t
    by_piece (r.Skips k) p t = some-is _ f e (refl, refl) t
    by_piece _ p t = absurd (let c : None ≡ Some f = t in cc)

    by_sync : (a : r.RecvStage) (m : ℕ) → r.take_sync a e m ≡ Some f → KeepsHalf e f
    by_sync (r.Held k n q) m t = when-keeps _ _ f e (refl, refl) t
    by_sync (r.Skips k) m t = some-is _ f e (refl, refl) t
    by_sync _ m t = absurd (let c : None ≡ Some f = t in cc)

    by_end : (a : r.RecvStage) (k : ℕ) → r.take_end a e k ≡ Some f → KeepsHalf e f
    by_end (r.Held k n q) m t = when-keeps _ _ f e (refl, refl) t
    by_end (r.Skips k) m t = when-keeps _ _ f e (refl, refl) t
    by_end _ m t = absurd (let c : None ≡ Some f = t in cc)

    by_resume : (a : r.RecvStage) (k n : ℕ) → r.take_resume a e k n ≡ Some f → KeepsHalf e f
    by_resume r.Free k n t = when-keeps _ _ f e (refl, refl) t
    by_resume _ k n t = absurd (let c : None ≡ Some f = t in cc)

    by_discard : (a : r.RecvStage) (k : ℕ) → r.take_discard a e k ≡ Some f → KeepsHalf e f
    by_discard r.Free k t = some-is _ f e (refl, refl) t
    by_discard (r.Next j n) k t = when-keeps _ _ f e (refl, refl) t
    by_discard (r.Held j n q) k t = when-keeps _ _ f e (refl, refl) t
    by_discard (r.Synced j n q) k t = when-keeps _ _ f e (refl, refl) t
    by_discard (r.Skips j) k t = if-keeps _ _ _ f e (refl, refl) (refl, refl) t
    by_discard _ k t = absurd (let c : None ≡ Some f = t in cc)

    by_unit : (y : LaneUnit) → r.take e y ≡ Some f → KeepsHalf e f
    by_unit (u.Start k) t = by_start e.stage k t
    by_unit (u.Piece p) t = by_piece e.stage p t
    by_unit (u.Sync m) t = by_sync e.stage m t
    by_unit (u.End k) t = by_end e.stage k t
    by_unit (u.Resume k n) t = by_resume e.stage k n t
    by_unit (u.Discard k) t = by_discard e.stage k t
    by_unit u.Accept t = some-is _ f e (refl, refl) t
    by_unit u.Other t = some-is _ f e (refl, refl) t
    by_unit _ t = absurd (let c : None ≡ Some f = t in cc)

pub put-keeps : (e : RecvEnd) (y : LaneUnit) → KeepsHalf e (r.put e y)
put-keeps e (u.SyncAck m) = (refl, refl)
put-keeps e (u.EndAck k) = (refl, refl)
put-keeps e (u.ResumeAck k n) = (refl, refl)
put-keeps e (u.DiscardAck k) = (refl, refl)
put-keeps e u.Unrecognized = (refl, refl)
put-keeps e u.Completed = (refl, refl)
put-keeps e u.Exception = (refl, refl)
put-keeps e _ = (refl, refl)

-- an end whose durable half is the world's
of-world : (w : World) (e : RecvEnd) → e.high ≡ w.high → e.last ≡ w.last → e ≡ recv_end w (recv_part e)
of-world w e hi la = whole-same e.high w.high e.last w.last (recv_part e) (recv_part e) hi la refl

module _ (spells : List ℕ → Bool) (w : World) (j : ℕ) (p : List (List ℕ)) (pieces : w.pieces ≡ p)
    (newest : w.recv_link ≡ Some j) (below : j < w.opened) where
  abbrev E : RecvEnd
  E = recv_end w (w.links j).recv

  takes : (y : LaneUnit) → r.RecvAllows E (r.Took y) → x.ReceiverAllows spells w (x.Receiver_takes j y)
      × Rel (after w (x.Receiver_takes j y)) (Here j (r.recv_after E (r.Took y)) p)
  takes y m =
      let t : (f : RecvEnd) × (r.take E y ≡ Some f) = taken E (r.take E y) m in
      let v : unwrap_or (r.take E y) E ≡ t.0 = ap (λ (z : Option RecvEnd). unwrap_or z E) t.1 in
      let k : KeepsHalf E t.0 = take-keeps E.stage E t.0 y refl t.1 in (
        t,
        record {
          same =
              v ∙ of-world w t.0 k.0 k.1 ∙ ap (λ (z : RecvEnd). recv_end w (recv_part z)) (sym v)
              ∙ ap (λ (z : Link). recv_end w z.recv) (sym (set-same w.links j _));
          pieces = pieces;
          newest = newest;
          below = below;
        },
      )

  puts : (y : LaneUnit) → r.MayPut E y → x.ReceiverAllows spells w (x.Receiver_puts j y)
      × Rel (after w (x.Receiver_puts j y)) (Here j (r.put E y) p)
  puts y m =
      let k : KeepsHalf E (r.put E y) = put-keeps E y in (
        (m, λ so c. newest),
        record {
          same = of-world w (r.put E y) k.0 k.1 ∙ ap (λ (z : Link). recv_end w z.recv) (sym (set-same w.links j _));
          pieces = pieces;
          newest = newest;
          below = below;
        },
      )

  makes : (st : RecvStep) → r.MayMake E st → IsSpelt spells p (r.Made st)
      → x.ReceiverAllows spells w (x.Receiver_makes j st)
      × Rel (after w (x.Receiver_makes j st)) (Here j (r.made E st) (pieces_after p st))
  makes st m q = (
    (newest, m, spelt spells w st (subst (λ (z : List (List ℕ)). IsSpelt spells z (r.Made st)) (sym pieces) q)),
    record {
      same = ap (λ (z : Link). recv_end (step.receiver_made w j st) z.recv) (sym (set-same w.links j _));
      pieces = ap (λ (z : List (List ℕ)). pieces_after z st) pieces;
      newest = newest;
      below = below;
    },
  )

  finds : (k n : ℕ) (piece : List ℕ) → r.MayFind E k n piece → IsFaulty spells E.stage (octets_with p n piece)
      → x.ReceiverAllows spells w (x.Receiver_finds j k n piece)
      × Rel (after w (x.Receiver_finds j k n piece)) (Here j (r.found E k) p)
  finds k n piece m q = (
    (m, subst (λ (z : List (List ℕ)). IsFaulty spells E.stage (octets_with z n piece)) (sym pieces) q),
    record {
      same = ap (λ (z : Link). recv_end w z.recv) (sym (set-same w.links j _));
      pieces = pieces;
      newest = newest;
      below = below;
    },
  )

-- what is done on a link is done on this one, by this end
at-link : (spells : List ℕ → Bool) (w : World) (i j : ℕ) (e : RecvEnd) (p : List (List ℕ)) (event : ℕ → WorldEvent)
    (own : RecvEnd → Own) → i ≡ j → e ≡ recv_end w (w.links j).recv
    → x.ReceiverAllows spells w (event j) × Rel (after w (event j)) (own (recv_end w (w.links j).recv))
    → x.ReceiverAllows spells w (event i) × Rel (after w (event i)) (own e)
at-link spells w i j e p event own ij se g =
    subst (λ (z : ℕ). x.ReceiverAllows spells w (event z) × Rel (after w (event z)) (own e)) (sym ij)
    (subst (λ (z : RecvEnd). x.ReceiverAllows spells w (event j) × Rel (after w (event j)) (own z)) (sym se) g)

module _ (spells : List ℕ → Bool) where
  pub keeps : (w : World) (own : Own) (events : List WorldEvent) → AllFit w events
      → OwnRun spells own (own_events events) → Rel w own → ReceiverKeepsRules spells w events
  keeps w own [] f r g = tt
  keeps w (Away a b c) (x.Receiver_takes i y ∷ es) f o g = absurd o
  keeps w (Here j e p) (x.Receiver_takes i y ∷ es) f o g =
      let d : x.ReceiverAllows spells w (x.Receiver_takes i y)
      × Rel (after w (x.Receiver_takes i y)) (Here j (r.recv_after e (r.Took y)) p) =
      at-link spells w i j e p (λ z. x.Receiver_takes z y) (λ z. Here j (r.recv_after z (r.Took y)) p) o.0 g.same
      (takes spells w j p g.pieces g.newest g.below y
      (subst (λ (z : RecvEnd). r.RecvAllows z (r.Took y)) g.same o.2)) in
      (d.0, keeps (after w (x.Receiver_takes i y)) (Here j (r.recv_after e (r.Took y)) p) es f.1 o.5 d.1)
  keeps w (Away a b c) (x.Receiver_puts i y ∷ es) f o g = absurd o
  keeps w (Here j e p) (x.Receiver_puts i y ∷ es) f o g =
      let d : x.ReceiverAllows spells w (x.Receiver_puts i y)
      × Rel (after w (x.Receiver_puts i y)) (Here j (r.put e y) p) =
      at-link spells w i j e p (λ z. x.Receiver_puts z y) (λ z. Here j (r.put z y) p) o.0 g.same
      (puts spells w j p g.pieces g.newest g.below y (subst (λ (z : RecvEnd). r.MayPut z y) g.same o.2)) in
      (d.0, keeps (after w (x.Receiver_puts i y)) (Here j (r.put e y) p) es f.1 o.5 d.1)
  keeps w (Away a b c) (x.Receiver_makes i st ∷ es) f o g = absurd o
  keeps w (Here j e p) (x.Receiver_makes i st ∷ es) f o g =
      let d : x.ReceiverAllows spells w (x.Receiver_makes i st)
      × Rel (after w (x.Receiver_makes i st)) (Here j (r.made e st) (pieces_after p st)) =
      at-link spells w i j e p (λ z. x.Receiver_makes z st) (λ z. Here j (r.made z st) (pieces_after p st)) o.0 g.same
      (makes spells w j p g.pieces g.newest g.below st (subst (λ (z : RecvEnd). r.MayMake z st) g.same o.2) o.4) in
      (d.0, keeps (after w (x.Receiver_makes i st)) (Here j (r.made e st) (pieces_after p st)) es f.1 o.5 d.1)
  keeps w (Away a b c) (x.Receiver_finds i k n piece ∷ es) f o g = absurd o
  keeps w (Here j e p) (x.Receiver_finds i k n piece ∷ es) f o g =
      let d : x.ReceiverAllows spells w (x.Receiver_finds i k n piece)
      × Rel (after w (x.Receiver_finds i k n piece)) (Here j (r.found e k) p) =
      at-link spells w i j e p (λ z. x.Receiver_finds z k n piece) (λ z. Here j (r.found z k) p) o.0 g.same
      (finds spells w j p g.pieces g.newest g.below k n piece
      (subst (λ (z : RecvEnd). r.MayFind z k n piece) g.same o.2)
      (subst (λ (z : RecvEnd). IsFaulty spells z.stage (octets_with p n piece)) g.same o.3)) in
      (d.0, keeps (after w (x.Receiver_finds i k n piece)) (Here j (r.found e k) p) es f.1 o.5 d.1)
  keeps w own (x.Receiver_opens i ∷ es) f o g =
      let v : World = step.opened_by_receiver w in
      let here : Rel v (Here i (begin (high_of own) (last_of own)) (pieces_of own)) =
      joined w v own i g refl refl refl
      (subst (λ (z : ℕ). (v.links z).recv ≡ record { stage = r.Free; from = 0; acked = 0 }) (sym f.0.1)
      (ap (λ (l : Link). l.recv) (set-same w.links w.opened _)))
      (ap (λ (z : ℕ). Some z) (sym f.0.1)) (omega (arith, f.0.1)) in
      (tt, keeps v (Here i (begin (high_of own) (last_of own)) (pieces_of own)) es f.1 o here)
  keeps w own (x.Receiver_joins i ∷ es) f o g =
      let v : World = step.joined_by_receiver w i (w.links i) in
      let here : Rel v (Here i (begin (high_of own) (last_of own)) (pieces_of own)) =
      joined w v own i g refl refl refl (ap (λ (l : Link). l.recv) (set-same w.links i _)) refl f.0.1 in
      (tt, keeps v (Here i (begin (high_of own) (last_of own)) (pieces_of own)) es f.1 o here)
  keeps w own (x.Sender_opens i ∷ es) f o g = (
    tt,
    keeps (after w (x.Sender_opens i)) own es f.1 o
        (left w (after w (x.Sender_opens i)) own
        (record {
          high = refl;
          last = refl;
          pieces = refl;
          newest = refl;
          opened = omega arith;
          recvs =
              λ j lt. set-other w.links w.opened j _ (λ (l : Link). l.recv ≡ (w.links j).recv)
              (λ e. absurd (omega (arith, e, lt))) (λ n. refl);
        }) g),
  )
  keeps w own (x.Sender_joins i ∷ es) f o g = (
    tt,
    keeps (after w (x.Sender_joins i)) own es f.1 o
        (left w (after w (x.Sender_joins i)) own
        (record {
          high = refl;
          last = refl;
          pieces = refl;
          newest = refl;
          opened = omega arith;
          recvs =
              λ j lt. kept-recv w.links i j _ refl;
        }) g),
  )
  keeps w own (x.Sender_puts i y ∷ es) f o g = (
    tt,
    keeps (after w (x.Sender_puts i y)) own es f.1 o
        (left w (after w (x.Sender_puts i y)) own
        (record {
          high = refl;
          last = refl;
          pieces = refl;
          newest = refl;
          opened = omega arith;
          recvs =
              λ j lt. kept-recv w.links i j _ refl;
        }) g),
  )
  keeps w own (x.Sender_gets i y ∷ es) f o g = (
    tt,
    keeps (after w (x.Sender_gets i y)) own es f.1 o
        (left w (after w (x.Sender_gets i y)) own
        (record {
          high = refl;
          last = refl;
          pieces = refl;
          newest = refl;
          opened = omega arith;
          recvs =
              λ j lt. kept-recv w.links i j _ refl;
        }) g),
  )
  keeps w own (x.Sender_makes i st ∷ es) f o g = (
    tt,
    keeps (after w (x.Sender_makes i st)) own es f.1 o
        (left w (after w (x.Sender_makes i st)) own
        (record {
          high = refl;
          last = refl;
          pieces = refl;
          newest = refl;
          opened = omega arith;
          recvs =
              λ j lt. kept-recv w.links i j _ refl;
        }) g),
  )
  keeps w own (x.Loses_up i n ∷ es) f o g = (
    tt,
    keeps (after w (x.Loses_up i n)) own es f.1 o
        (left w (after w (x.Loses_up i n)) own
        (record {
          high = refl;
          last = refl;
          pieces = refl;
          newest = refl;
          opened = omega arith;
          recvs =
              λ j lt. kept-recv w.links i j _ refl;
        }) g),
  )
  keeps w own (x.Loses_down i n ∷ es) f o g = (
    tt,
    keeps (after w (x.Loses_down i n)) own es f.1 o
        (left w (after w (x.Loses_down i n)) own
        (record {
          high = refl;
          last = refl;
          pieces = refl;
          newest = refl;
          opened = omega arith;
          recvs =
              λ j lt. kept-recv w.links i j _ refl;
        }) g),
  )
  keeps w own (x.Sender_stops i ∷ es) f o g = (
    tt,
    keeps (after w (x.Sender_stops i)) own es f.1 o
        (left w (after w (x.Sender_stops i)) own
        (record {
          high = refl;
          last = refl;
          pieces = refl;
          newest = refl;
          opened = omega arith;
          recvs =
              λ j lt. kept-recv w.links i j _ refl;
        }) g),
  )
  keeps w own (x.Receiver_stops i ∷ es) f o g = (
    tt,
    keeps (after w (x.Receiver_stops i)) own es f.1 o
        (left w (after w (x.Receiver_stops i)) own
        (record {
          high = refl;
          last = refl;
          pieces = refl;
          newest = refl;
          opened = omega arith;
          recvs =
              λ j lt. kept-recv w.links i j _ refl;
        }) g),
  )
  keeps w own (x.Sender_gives_up ∷ es) f o g = (
    tt,
    keeps (after w (x.Sender_gives_up)) own es f.1 o
        (left w (after w (x.Sender_gives_up)) own
        (record {
          high = refl;
          last = refl;
          pieces = refl;
          newest = refl;
          opened = omega arith;
          recvs =
              λ j lt. refl;
        }) g),
  )
  keeps w own (x.Sender_crashes ∷ es) f o g = (
    tt,
    keeps (after w (x.Sender_crashes)) own es f.1 o
        (left w (after w (x.Sender_crashes)) own
        (record {
          high = refl;
          last = refl;
          pieces = refl;
          newest = refl;
          opened = omega arith;
          recvs =
              λ j lt. refl;
        }) g),
  )
  keeps w own (x.Receiver_crashes ∷ es) f o g = (
    tt,
    keeps (after w (x.Receiver_crashes)) own es f.1 o
        (left w (after w (x.Receiver_crashes)) own
        (record {
          high = refl;
          last = refl;
          pieces = refl;
          newest = refl;
          opened = omega arith;
          recvs =
              λ j lt. refl;
        }) g),
  )
