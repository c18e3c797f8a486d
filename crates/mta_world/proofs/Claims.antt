-- What holds of a world at every moment, link by link.
use Rattle.std.proofs.Common.{◌≡◌, ◌⊎◌, ◌≤◌, ℕ, ◌==◌, Bool, true, false, if◌then◌else◌, Option, Some, None, List, []}
use Rattle.std.proofs.Common.{◌∷◌, ◌++◌, refl, sym, ◌∙◌, ap, subst}
use Rattle.std.proofs.lemmas.Bool.{eqb-true, eqb-false}
use Rattle.mta_lane_send.specs.declared.state.SendState.{SendState}
use Rattle.mta_lane_send.specs.Half.{last_of, is_ending, is_live, is_idle, confirmed_of}
use Rattle.mta_lane_recv.specs.declared.state.Last.{Last}
use Rattle.mta_lane_recv.specs.Half.{is_done, is_partial_of}
use Rattle.mta_transfer_rules.specs.Units.{LaneUnit, End, Resume, Discard, SyncAck, EndAck, DiscardAck, Exception}
use Rattle.mta_transfer_rules.specs.Units.{Completed, Unrecognized, CannotRecover, Accept}
use Rattle.mta_transfer_rules.specs.Sending as s
use Rattle.mta_transfer_rules.specs.Sending.{SendStage, is_dropping}
use Rattle.mta_transfer_rules.specs.Receiving as r
use Rattle.mta_transfer_rules.specs.Receiving.{RecvStage}
use Rattle.mta_world.specs.World.{Link, Message, SendPart, set_at}
use Rattle.mta_world.specs.Agrees.{IsAmong}
use Rattle.mta_world.proofs.Units.{Each, pending, transfers, UpTo, StageUpTo, NoEnd, NoDiscard, IsSilent}
use Rattle.mta_world.proofs.Flow.{after, place, Flows, Order}
use Rattle.mta_world.proofs.Talk.{Phase, At_rest, Before, During, Behind, phase, Talk, Names, Finish, IsCutAt, Genuine}

-- The lists of a link
abbrev pub heard_with : Option LaneUnit → List LaneUnit → List LaneUnit
heard_with None way = way
heard_with (Some x) way = x ∷ way

abbrev pub ups : RecvStage → List LaneUnit → List LaneUnit
ups stage way = pending stage ++ transfers way

pub unheard : (Q : List LaneUnit → Type 0) → ((x : LaneUnit) (D : List LaneUnit) → Q (x ∷ D) → Q D)
    → (o : Option LaneUnit) (way : List LaneUnit) → Q (heard_with o way) → Q way
unheard Q f None way q = q
unheard Q f (Some x) way q = f x way q

-- what all claims share: the octets of the activities, both durable halves, the newest links
pub record Sides : Type 0 where
  pub spells : List ℕ → Bool
  pub size : ℕ
  pub octets : ℕ → List ℕ
  pub sender_opens : Bool
  pub state : SendState
  pub last : Last
  pub completed : List Message
  pub send_link : Option ℕ
  pub recv_link : Option ℕ

abbrev pub Bad : Sides → ℕ → Type 0
Bad p k = p.spells (p.octets k) ≡ false

abbrev pub Good : Sides → ℕ → Type 0
Good p k = p.spells (p.octets k) ≡ true

-- some of k stands, or all of it
abbrev pub StandsSome : Last → ℕ → Type 0
StandsSome last k = (is_partial_of last k ≡ true) ⊎ (is_done last k ≡ true)

abbrev pub NoAccept : LaneUnit → Type 0
NoAccept Accept = ⊥
NoAccept _ = Unit {0}

-- Any link ------------------------------------------------------------------------------------------

pub record LinkParts (p : Sides) (up down : List LaneUnit) (send : SendPart) (stage : RecvStage)
    (send_joined recv_joined : Bool) : Type 0 where
  pub flows : Flows p.size p.octets (place stage) (ups stage up)
  pub genuine : Genuine p.size p.octets (Bad p) stage
  pub named : Each (UpTo (last_of p.state)) (ups stage up)
  pub stage_named : StageUpTo (last_of p.state) stage
  -- before an initiator got Accept, or a responder joined, nothing of a transfer is on a link
  pub fresh : send.accepted ≡ false → (stage ≡ r.Free) × (transfers up ≡ [])
      × Each IsSilent (heard_with send.heard down)
  pub not_joined : p.sender_opens ≡ true → recv_joined ≡ false → (send.accepted ≡ false)
      × Each NoAccept (heard_with send.heard down)
  pub not_on : p.sender_opens ≡ false → send_joined ≡ false → send.accepted ≡ false

abbrev pub LinkOk : Sides → Link → Type 0
LinkOk p l = LinkParts p l.up.way l.down.way l.send l.recv.stage l.send_joined l.recv_joined

-- The sending end's newest link ---------------------------------------------------------------------

abbrev pub is_rest : Phase → Bool
is_rest At_rest = true
is_rest any0 = false

-- a transfer whose Syncs a SyncAck may confirm
abbrev pub IsGoing : SendStage → Type 0
IsGoing (s.Next k n) = Unit {0}
IsGoing (s.Sync_next k n) = Unit {0}
IsGoing (s.Last_put k n) = Unit {0}
IsGoing (s.End_put k n) = Unit {0}
IsGoing (s.Resume_put k n) = Unit {0}
IsGoing _ = ⊥

-- what an answer on its way says is true, where h is the last activity
abbrev pub TruthOf : Sides → (h : ℕ) → (dropping : Bool) → SendStage → LaneUnit → Type 0
TruthOf p h dropping stage (EndAck j) = IsAmong j p.completed
TruthOf p h dropping stage Completed = IsAmong h p.completed
TruthOf p h dropping stage Exception = Bad p h
TruthOf p h dropping stage Unrecognized = Bad p h
TruthOf p h dropping stage CannotRecover = ⊥
TruthOf p h dropping stage (DiscardAck j) = j ≡ h → (stage ≡ s.Discard_put h) × (Good p h → IsAmong h p.completed → ⊥)
TruthOf p h dropping stage (SyncAck n) = dropping ≡ false → IsGoing stage → Good p h → StandsSome p.last h
TruthOf p h dropping stage _ = Unit {0}

abbrev pub Truth : Sides → SendStage → LaneUnit → Type 0
Truth p stage x = TruthOf p (last_of p.state) (is_dropping p.state) stage x

-- what is resumed stands
abbrev pub Resumed : Sides → LaneUnit → Type 0
Resumed p (Resume j n) = is_idle p.state ≡ false → j ≡ last_of p.state → Good p j → StandsSome p.last j
Resumed p _ = Unit {0}

pub record SendParts (p : Sides) (stage : SendStage) (D V : List LaneUnit) (other : RecvStage) : Type 0 where
  pub idle : is_idle p.state ≡ is_rest (phase stage)
  pub names : Names (last_of p.state) stage
  pub talk : Talk (Bad p) (last_of p.state) (phase stage) other V D
  pub finish : Finish (last_of p.state) stage V
  pub cut : IsCutAt p.size p.octets stage
  pub order : Order stage D (after (place other) V)
  pub truth : is_idle p.state ≡ false → Each (Truth p stage) D
  pub resumed : Each (Resumed p) V
  pub stands : 1 ≤ confirmed_of p.state → Good p (last_of p.state) → StandsSome p.last (last_of p.state)

abbrev pub SendOk : Sides → Link → Type 0
SendOk p l = SendParts p l.send.stage (heard_with l.send.heard l.down.way) (ups l.recv.stage l.up.way) l.recv.stage

-- The receiving end's newest link -------------------------------------------------------------------

-- End is on its way only of an activity that is ending, or was completed
abbrev pub Ended : Sides → LaneUnit → Type 0
Ended p (End j) = Good p j → (is_ending p.state j ≡ true) ⊎ IsAmong j p.completed
Ended p _ = Unit {0}

abbrev pub RecvOk : Sides → Link → Type 0
RecvOk p l = Each (Ended p) (ups l.recv.stage l.up.way)

-- Both ------------------------------------------------------------------------------------------------

abbrev pub IsFirst : SendStage → Type 0
IsFirst s.Opened = Unit {0}
IsFirst (s.Discard_put k) = Unit {0}
IsFirst _ = ⊥

-- the activity under way comes to nothing, unless it is complete already
abbrev pub IsDoomed : SendState → SendStage → Type 0
IsDoomed state stage = (is_dropping state ≡ true) ⊎ ((confirmed_of state ≡ 0) × IsFirst stage)

abbrev pub Discarded : Sides → SendStage → LaneUnit → Type 0
Discarded p stage (Discard j) = Good p j → is_live p.state j ≡ true → IsDoomed p.state stage
Discarded p stage _ = Unit {0}

abbrev pub Acked : Sides → List LaneUnit → LaneUnit → Type 0
Acked p V (DiscardAck j) = is_idle p.state ≡ false → j ≡ last_of p.state → Good p j → Each (NoEnd j) V
Acked p V _ = Unit {0}

abbrev pub ResumedApart : Sides → List LaneUnit → LaneUnit → Type 0
ResumedApart p V (Resume j n) = Good p j → Each (NoDiscard j) V
ResumedApart p V _ = Unit {0}

-- D and X are on the sending end's link, V on the receiving end's
pub record CrossParts (p : Sides) (x y : ℕ) (stage : SendStage) (D X : List LaneUnit) (recv_joined : Bool)
    (V : List LaneUnit) : Type 0 where
  pub discarded : Each (Discarded p stage) V
  pub acked : Each (Acked p V) D
  pub apart : (x ≡ y → ⊥) → Each (ResumedApart p V) X
  pub old : p.sender_opens ≡ true → recv_joined ≡ true → (x ≡ y → ⊥) → V ≡ []

abbrev pub CrossOk : Sides → ℕ → ℕ → Link → Link → Type 0
CrossOk p x y a b = CrossParts p x y a.send.stage (heard_with a.send.heard a.down.way)
    (ups a.recv.stage a.up.way) a.recv_joined (ups b.recv.stage b.up.way)

pub record Linked (p : Sides) (f : ℕ → Link) : Type 0 where
  pub links : (i : ℕ) → LinkOk p (f i)
  pub sends : (x : ℕ) → p.send_link ≡ Some x → SendOk p (f x)
  pub recvs : (y : ℕ) → p.recv_link ≡ Some y → RecvOk p (f y)
  pub cross : (x y : ℕ) → p.send_link ≡ Some x → p.recv_link ≡ Some y → CrossOk p x y (f x) (f y)

-- One link changes ------------------------------------------------------------------------------------

pub set-case : (f : ℕ → Link) (i : ℕ) (v : Link) (j : ℕ) (P : Link → Type 0) → (j ≡ i → P v) → ((j ≡ i → ⊥) → P (f j))
    → P (set_at f i v j)
set-case f i v j P yes_ not_ = by_number (j == i) refl
  where
    by_number : (b : Bool) → (j == i) ≡ b → P (if b then v else f j)
    by_number true e = yes_ (eqb-true j i e)
    by_number false e = not_ (eqb-false j i e)

-- the claims of the new link, and of the others under the new halves
pub record Relinks (p q : Sides) (f : ℕ → Link) (i : ℕ) (v : Link) : Type 0 where
  pub others : (l : Link) → LinkOk p l → LinkOk q l
  pub link : LinkOk q v
  pub send_here : q.send_link ≡ Some i → SendOk q v
  pub send_there : (x : ℕ) → (x ≡ i → ⊥) → q.send_link ≡ Some x → SendOk q (f x)
  pub recv_here : q.recv_link ≡ Some i → RecvOk q v
  pub recv_there : (y : ℕ) → (y ≡ i → ⊥) → q.recv_link ≡ Some y → RecvOk q (f y)
  pub both_here : q.send_link ≡ Some i → q.recv_link ≡ Some i → CrossOk q i i v v
  pub sends_here : (y : ℕ) → (y ≡ i → ⊥) → q.send_link ≡ Some i → q.recv_link ≡ Some y → CrossOk q i y v (f y)
  pub recvs_here : (x : ℕ) → (x ≡ i → ⊥) → q.send_link ≡ Some x → q.recv_link ≡ Some i → CrossOk q x i (f x) v
  pub none_here : (x y : ℕ) → (x ≡ i → ⊥) → (y ≡ i → ⊥) → q.send_link ≡ Some x → q.recv_link ≡ Some y
      → CrossOk q x y (f x) (f y)

pub relinked : (p q : Sides) (f : ℕ → Link) (i : ℕ) (v : Link) → Linked p f → Relinks p q f i v
    → Linked q (set_at f i v)
relinked p q f i v o n = record {
  links = λ j. set-case f i v j (LinkOk q) (λ e. n.link) (λ e. n.others (f j) (o.links j));
  sends = λ x sx. set-case f i v x (SendOk q) (λ e. n.send_here (sx ∙ ap (λ (z : ℕ). Some z) e))
      (λ e. n.send_there x e sx);
  recvs = λ y ry. set-case f i v y (RecvOk q) (λ e. n.recv_here (ry ∙ ap (λ (z : ℕ). Some z) e))
      (λ e. n.recv_there y e ry);
  cross = λ x y sx ry.
      set-case f i v x (λ (a : Link). CrossOk q x y a (set_at f i v y))
      (λ e. set-case f i v y (λ (b : Link). CrossOk q x y v b)
      (λ g. subst (λ (z : ℕ). CrossOk q z y v v) (sym e)
      (subst (λ (z : ℕ). CrossOk q i z v v) (sym g)
      (n.both_here (sx ∙ ap (λ (z : ℕ). Some z) e) (ry ∙ ap (λ (z : ℕ). Some z) g))))
      (λ g. subst (λ (z : ℕ). CrossOk q z y v (f y)) (sym e) (n.sends_here y g (sx ∙ ap (λ (z : ℕ). Some z) e) ry)))
      (λ e. set-case f i v y (λ (b : Link). CrossOk q x y (f x) b)
      (λ g. subst (λ (z : ℕ). CrossOk q x z (f x) v) (sym g) (n.recvs_here x e sx (ry ∙ ap (λ (z : ℕ). Some z) g)))
      (λ g. n.none_here x y e g sx ry));
}
