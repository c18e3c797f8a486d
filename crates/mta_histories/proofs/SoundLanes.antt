-- Open lanes stay sound: beside a step, and by one of their own.
use Rattle.std.proofs.Common.{◌≡◌, ℕ, zero, suc, ◌+◌, ◌-◌, ◌≤◌, Bool, true, false, cond, eqb, List, [], ◌∷◌, ◌++◌}
use Rattle.std.proofs.Common.{length, take, Option, Some, None, refl, sym, ap, subst, ◌∙◌, arith, inl, inr}
use Rattle.std.proofs.Common.{length-append}
use Rattle.std.specs.Prelude.{◌⊎◌, count_by}
use Rattle.std.specs.List.{AllByRecursion}
use Rattle.std.proofs.lemmas.Bool.{true≢false}
use Rattle.std.proofs.lemmas.List.Sums.{sum_by-cons, sum_by-append}
use Rattle.mta_lane_recv.specs.declared.state.Last.{Last}
use Rattle.mta_lane_recv.specs.declared.state.Last.TheVariants as last
use Rattle.mta_lane_send.specs.Half.{is_idle, last_of}
use Rattle.mta_records.specs.declared.lane.LaneRole.{LaneRole}
use Rattle.mta_records.specs.declared.lane.LaneRole.TheVariants.{Responder}
use Rattle.mta_machine.specs.Items.{ItemValue, Machine, numbered}
use Rattle.mta_machine.specs.Rules.{outgoing_copy}
use Rattle.mta_machine.specs.Machine.{MachineStep, set_tables, set_format, accept, discharge, machine_after}
use Rattle.mta_machine.specs.Machine.{machine_run}
use Rattle.mta_machine.specs.Machine.{IsRun, last_tables}
use Rattle.mta_machine.proofs.Decided.{IsSameApdu, Stays, item-stays, tables-stay, format-grows}
use Rattle.mta_machine.proofs.Later.{items-grow}
use Rattle.mta_histories.specs.Lanes.{Transfer, Lane, Lanes, State, lane_at, put_lane, without_lane, EachLane}
use Rattle.mta_histories.specs.Lanes.{is_transferring}
use Rattle.mta_histories.specs.Limits.{longest_piece, octets_of, copied, is_with}
use Rattle.mta_histories.specs.Classes.{was_sent, was_refused, was_denied, was_dropped, LaneStep, agree, bind, start}
use Rattle.mta_histories.specs.Classes.{confirm, to_end, settle, abandon, secure, complete, drop_pieces, close}
use Rattle.mta_histories.specs.History.{LaneNeeds, lane_steps, lane_after, with_piece}
use Rattle.mta_histories.specs.Kept.{ArePieces, IsWhole}
use Rattle.mta_histories.specs.Sound.{HasSoundTransfer, IsPieceOf, IsSoundLane, AreApart}
use Rattle.mta_histories.proofs.Halves.{confirmed-transferring, confirmed-idle, confirmed-last, sending-transferring}
use Rattle.mta_histories.proofs.Halves.{sending-busy, sending-last}
use Rattle.mta_histories.proofs.LaneLists.{each-at, each-put, each-without, each-more, each-weaker, bit_of}
use Rattle.mta_histories.proofs.SoundItems.{all-append}
use Rattle.mta_histories.proofs.SoundMachine.{numbered-within, numbered-some, HasFormat}

-- the state that steps of the machine leave
abbrev pub left_by : State → List MachineStep → Lanes → ℕ → State
left_by s steps ls moment = record {
  machine = machine_run s.machine steps;
  lanes = ls;
  moment = moment;
  begun = true;
}

-- ---- what is transferred

tables-stay-run : (m : Machine) (steps : List MachineStep) (t : ℕ) (text : List ℕ) → numbered m.tables t ≡ Some text
    → numbered (machine_run m steps).tables t ≡ Some text
tables-stay-run m [] t text e = e
tables-stay-run m (step ∷ steps) t text e =
    tables-stay-run (machine_after m step) steps t text (tables-stay m step t text e)

item-stays-run : (m : Machine) (steps : List MachineStep) (i : ℕ) (item : ItemValue) → numbered m.items i ≡ Some item
    → Stays (machine_run m steps).items i item
item-stays-run m [] i item e = (item, e, record { octets = refl; arrival = refl })
item-stays-run m (step ∷ steps) i item e =
    let one = item-stays m step i item e in
    let two = item-stays-run (machine_after m step) steps i one.0 one.1 in
    (two.0, two.1, record { octets = two.2.octets ∙ one.2.octets; arrival = two.2.arrival ∙ one.2.arrival })

tables-grow-one : (m : Machine) (step : MachineStep) → length m.tables ≤ length (machine_after m step).tables
tables-grow-one m (set_tables text) = omega (arith, length-append m.tables (text ∷ []))
tables-grow-one m set_format = omega arith
tables-grow-one m (accept octets origin moment) = omega arith
tables-grow-one m (discharge i rs how moment) = omega arith

tables-grow : (m : Machine) (steps : List MachineStep) → length m.tables ≤ length (machine_run m steps).tables
tables-grow m [] = omega arith
tables-grow m (step ∷ steps) = omega (arith, tables-grow-one m step, tables-grow (machine_after m step) steps)

copied-apdu : (text : List ℕ) (old now : ItemValue) (rs : List ℕ) (moment : ℕ) → IsSameApdu old now
    → copied (Some text) (Some now) rs moment ≡ copied (Some text) (Some old) rs moment
copied-apdu text old now rs moment same =
    ap (λ (o : List ℕ). octets_of (outgoing_copy text o now.arrival rs moment)) same.octets
    ∙ ap (λ (a : ℕ). octets_of (outgoing_copy text old.octets a rs moment)) same.arrival

copied-stays : (m : Machine) (steps : List MachineStep) (t i : ℕ) (rs : List ℕ) (moment : ℕ) → 1 ≤ t
    → t ≤ length m.tables → 1 ≤ i → i ≤ length m.items
    → copied (numbered m.tables t) (numbered m.items i) rs moment
    ≡ copied (numbered (machine_run m steps).tables t) (numbered (machine_run m steps).items i) rs moment
copied-stays m steps t i rs moment some few one most =
    let a = numbered-some m.tables t some few in
    let b = numbered-some m.items i one most in
    let c = tables-stay-run m steps t a.0 a.1 in
    let d = item-stays-run m steps i b.0 b.1 in
    ap (λ (o : Option (List ℕ)). copied o (numbered m.items i) rs moment) a.1
    ∙ (ap (λ (o : Option ItemValue). copied (Some a.0) o rs moment) b.1
    ∙ (sym (copied-apdu a.0 b.0 d.0 rs moment d.2)
    ∙ (sym (ap (λ (o : Option ItemValue). copied (Some a.0) o rs moment) d.1)
    ∙ sym (ap (λ (o : Option (List ℕ)). copied o (numbered (machine_run m steps).items i) rs moment) c))))

-- a half that has the same activity, and that moves only where it did
has-stays : (s : State) (steps : List MachineStep) (ls : Lanes) (n : ℕ) (old new : Lane) → s.moment ≤ n
    → IsRun s.machine steps → (1 ≤ last_of old.sending → 1 ≤ last_of new.sending)
    → (is_transferring new.sending ≡ true → is_transferring old.sending ≡ true)
    → is_idle new.sending ≡ is_idle old.sending → (o : Option Transfer) → HasSoundTransfer s old o
    → HasSoundTransfer (left_by s steps ls n) new o
has-stays s steps ls n old new later run activity moves idle None h = idle ∙ h
has-stays s steps ls n old new later run activity moves idle (Some t) h = (
  idle ∙ h.0,
  record {
    activity = activity h.1.activity;
    item = (h.1.item.0, omega (arith, h.1.item.1, items-grow s.machine steps));
    tables = (h.1.tables.0, omega (arith, h.1.tables.1, tables-grow s.machine steps));
    format = (h.1.format.0, omega (arith, h.1.format.1, format-grows s.machine steps run));
    timely = omega (arith, h.1.timely, later);
    copy = λ m. h.1.copy (moves m)
        ∙ copied-stays s.machine steps t.tables t.item t.recipients t.moment h.1.tables.0 h.1.tables.1 h.1.item.0
        h.1.item.1;
  },
)

-- ---- pieces

pieces-of : (old new : Lane) → new.checkpoint ≡ old.checkpoint → (ps : List (List ℕ))
    → AllByRecursion (IsPieceOf old) ps → AllByRecursion (IsPieceOf new) ps
pieces-of old new e [] each = tt
pieces-of old new e (p ∷ ps) each =
    ((each.0.0, subst (λ (c : ℕ). length p ≤ longest_piece c) (sym e) each.0.1), pieces-of old new e ps each.1)

no-pieces : (lane : Lane) (l : Last) (ps : List (List ℕ)) → l ≡ last.None → ArePieces l ps
    → AllByRecursion (IsPieceOf lane) ps
no-pieces lane last.None ps e are = subst (λ (xs : List (List ℕ)). AllByRecursion (IsPieceOf lane) xs) (sym are) tt
no-pieces lane (last.Partial k p) ps e are = absurd cc
no-pieces lane (last.Done k) ps e are = absurd cc

all-take : {A : Type 0} (P : A → Type 0) (xs : List A) (n : ℕ) → AllByRecursion P xs → AllByRecursion P (take n xs)
all-take P [] zero each = tt
all-take P [] (suc n) each = tt
all-take P (x ∷ xs) zero each = tt
all-take P (x ∷ xs) (suc n) each = (each.0, all-take P xs n each.1)

-- ---- a lane

-- a lane on which nothing is done
pub lane-stays : (s : State) (steps : List MachineStep) (ls : Lanes) (n : ℕ) (lane : Lane) → s.moment ≤ n
    → IsRun s.machine steps → IsSoundLane s lane → IsSoundLane (left_by s steps ls n) lane
lane-stays s steps ls n lane later run x = record {
  responder = x.responder;
  before_agreed = x.before_agreed;
  transfer = has-stays s steps ls n lane lane later run (λ a. a) (λ b. b) refl lane.transfer x.transfer;
  pieces = x.pieces;
}

some-format : (m : Machine) → (m.format ≡ 1) ⊎ (m.format ≡ 2) → 1 ≤ m.format
some-format m (inl e) = omega (arith, e)
some-format m (inr e) = omega (arith, e)

-- nothing is sent and nothing stands of a lane that is not agreed, so one that sends is agreed
busy-agreed : {A : Type 0} (s : State) (lane : Lane) → IsSoundLane s lane → is_idle lane.sending ≡ false
    → lane.agreed ≡ false → A
busy-agreed s lane x busy new = absurd (true≢false (sym (x.before_agreed new).0 ∙ busy))

-- a lane is sound where what it rests on is
sound-lane : {s : State} {lane : Lane} → (lane.role ≡ Responder → lane.agreed ≡ true)
    → (lane.agreed ≡ false → (is_idle lane.sending ≡ true) × (lane.last ≡ last.None))
    → HasSoundTransfer s lane lane.transfer → AllByRecursion (IsPieceOf lane) lane.pieces → IsSoundLane s lane
sound-lane responder before_agreed transfer pieces =
    record { responder = responder; before_agreed = before_agreed; transfer = transfer; pieces = pieces }

pub lane-sound-after : (s : State) (lane : Lane) (step : LaneStep) (moment : ℕ) (ls : Lanes)
    → LaneNeeds s lane step moment → IsWhole lane → HasFormat s.machine → s.moment ≤ moment
    → IsRun s.machine (lane_steps lane step moment) → IsSoundLane s lane
    → IsSoundLane (left_by s (lane_steps lane step moment) ls moment) (lane_after s lane step moment)
lane-sound-after s lane (agree checkpoint window) moment ls needs w format later run x =
    let new : Lane = lane_after s lane (agree checkpoint window) moment in
    sound-lane (λ e. refl) (λ e. absurd (true≢false e))
    (has-stays s [] ls moment lane new later tt (λ a. a) (λ b. b) refl lane.transfer x.transfer)
    (no-pieces new lane.last lane.pieces (x.before_agreed needs.1).1 w.pieces)
lane-sound-after s lane bind moment ls needs w format later run x =
    let new : Lane = lane_after s lane bind moment in
    sound-lane x.responder x.before_agreed
    (has-stays s [] ls moment lane new later tt (λ a. a) (λ b. b) refl lane.transfer x.transfer)
    (pieces-of lane new refl lane.pieces x.pieces)
lane-sound-after s lane (start k i rs) moment ls needs w format later run x =
    let new : Lane = lane_after s lane (start k i rs) moment in
    let text = numbered-within s.machine.tables (last_tables s.machine) needs.text needs.text_is in
    let item = numbered-within s.machine.items i needs.item needs.item_is in
    let one = some-format s.machine format in
    sound-lane x.responder (λ e. absurd (true≢false (sym needs.agreed ∙ e))) (
      refl,
      record {
        activity = omega arith;
        item = item;
        tables = text;
        format = (one, omega arith);
        timely =
            omega arith;
        copy = λ m. refl;
      },
    )
    (pieces-of lane new refl lane.pieces x.pieces)
lane-sound-after s lane (confirm k n) moment ls needs w format later run x =
    let new : Lane = lane_after s lane (confirm k n) moment in
    sound-lane x.responder (λ e. (confirmed-idle lane.sending n ∙ (x.before_agreed e).0, (x.before_agreed e).1))
    (has-stays s [] ls moment lane new later tt (λ a. subst (λ (l : ℕ). 1 ≤ l) (sym (confirmed-last lane.sending n)) a)
    (λ b. sym (confirmed-transferring lane.sending n) ∙ b) (confirmed-idle lane.sending n) lane.transfer x.transfer)
    (pieces-of lane new refl lane.pieces x.pieces)
lane-sound-after s lane (to_end k) moment ls needs w format later run x =
    let new : Lane = lane_after s lane (to_end k) moment in
    let busy : is_idle lane.sending ≡ false = sending-busy lane.sending k needs in
    sound-lane x.responder (λ e. busy-agreed s lane x busy e)
    (has-stays s [] ls moment lane new later tt
    (λ a. subst (λ (l : ℕ). 1 ≤ l) (sym (sending-last lane.sending k needs)) a)
    (λ b. sending-transferring lane.sending k needs) (sym busy) lane.transfer x.transfer)
    (pieces-of lane new refl lane.pieces x.pieces)
lane-sound-after s lane (settle was_sent k) moment ls needs w format later run x =
    sound-lane x.responder (λ e. (refl, (x.before_agreed e).1)) refl
    (pieces-of lane (lane_after s lane (settle was_sent k) moment) refl lane.pieces x.pieces)
lane-sound-after s lane (settle (was_refused kind) k) moment ls needs w format later run x =
    sound-lane x.responder (λ e. (refl, (x.before_agreed e).1)) refl
    (pieces-of lane (lane_after s lane (settle (was_refused kind) k) moment) refl lane.pieces x.pieces)
lane-sound-after s lane (settle was_denied k) moment ls needs w format later run x =
    sound-lane x.responder (λ e. (refl, (x.before_agreed e).1)) refl
    (pieces-of lane (lane_after s lane (settle was_denied k) moment) refl lane.pieces x.pieces)
lane-sound-after s lane (settle was_dropped k) moment ls needs w format later run x =
    sound-lane x.responder (λ e. (refl, (x.before_agreed e).1)) refl
    (pieces-of lane (lane_after s lane (settle was_dropped k) moment) refl lane.pieces x.pieces)
lane-sound-after s lane (abandon k) moment ls needs w format later run x =
    let new : Lane = lane_after s lane (abandon k) moment in
    let busy : is_idle lane.sending ≡ false = sending-busy lane.sending k needs.0 in
    sound-lane x.responder (λ e. busy-agreed s lane x busy e)
    (has-stays s (lane_steps lane (abandon k) moment) ls moment lane new later run
    (λ a. subst (λ (l : ℕ). 1 ≤ l) (sym (sending-last lane.sending k needs.0)) a)
    (λ b. sending-transferring lane.sending k needs.0) (sym busy) lane.transfer x.transfer)
    (pieces-of lane new refl lane.pieces x.pieces)
lane-sound-after s lane (secure k n piece) moment ls needs w format later run x =
    let new : Lane = lane_after s lane (secure k n piece) moment in
    sound-lane x.responder (λ e. absurd (true≢false (sym needs.agreed ∙ e)))
    (has-stays s [] ls moment lane new later tt (λ a. a) (λ b. b) refl lane.transfer x.transfer)
    (pieces-of lane new refl (with_piece lane.pieces n piece)
    (all-append (IsPieceOf lane) (take (n - 1) lane.pieces) (piece ∷ [])
    (all-take (IsPieceOf lane) lane.pieces (n - 1) x.pieces) ((needs.some_octets, needs.short), tt)))
lane-sound-after s lane (complete k n piece) moment ls needs w format later run x =
    let new : Lane = lane_after s lane (complete k n piece) moment in
    sound-lane x.responder (λ e. absurd (true≢false (sym needs.0.agreed ∙ e)))
    (has-stays s (lane_steps lane (complete k n piece) moment) ls moment lane new later run (λ a. a)
    (λ b. b) refl lane.transfer x.transfer)
    tt
lane-sound-after s lane (drop_pieces k) moment ls needs w format later run x =
    let new : Lane = lane_after s lane (drop_pieces k) moment in
    sound-lane x.responder (λ e. ((x.before_agreed e).0, refl))
    (has-stays s [] ls moment lane new later tt (λ a. a) (λ b. b) refl lane.transfer x.transfer) tt
lane-sound-after s lane close moment ls needs w format later run x = lane-stays s [] ls moment lane later tt x

-- ---- how many lanes there are with a peer

pub record IsNamedAs (old new : Lane) : Type 0 where
  pub number : new.number ≡ old.number
  pub role : new.role ≡ old.role
  pub peer : new.peer ≡ old.peer
  pub reference : new.reference ≡ old.reference

with-cons : (role : LaneRole) (peer : List ℕ) (l : Lane) (lanes : List Lane)
    → count_by (is_with role peer) (l ∷ lanes)
    ≡ bit_of (is_with role peer l) + count_by (is_with role peer) lanes
with-cons role peer l lanes = sum_by-cons (λ (x : Lane). cond (is_with role peer x) 1 0) l lanes

pub with-more : (role : LaneRole) (peer : List ℕ) (lanes : List Lane) (new : Lane)
    → count_by (is_with role peer) (lanes ++ new ∷ [])
    ≡ count_by (is_with role peer) lanes + bit_of (is_with role peer new)
with-more role peer lanes new =
    let all = sum_by-append (λ (x : Lane). cond (is_with role peer x) 1 0) lanes (new ∷ []) in
    let one = with-cons role peer new [] in
    omega (arith, all, one)

with-same : (role : LaneRole) (peer : List ℕ) (old new : Lane) → IsNamedAs old new
    → is_with role peer new ≡ is_with role peer old
with-same role peer old new named =
    ap (λ (r : LaneRole). is_with role peer (record new { role = r })) named.role
    ∙ ap (λ (p : List ℕ). is_with role peer (record new { role = old.role; peer = p })) named.peer

pub with-put : (role : LaneRole) (peer : List ℕ) (lanes : List Lane) (old new : Lane)
    → lane_at new.number lanes ≡ Some old → IsNamedAs old new
    → count_by (is_with role peer) (put_lane new lanes) ≡ count_by (is_with role peer) lanes
with-put role peer [] old new e named = absurd cc
with-put role peer (l ∷ lanes) old new e named =
    by_test (λ rest. with-put role peer lanes old new rest named) (eqb new.number l.number) e
  where
    by_test : (lane_at new.number lanes ≡ Some old
        → count_by (is_with role peer) (put_lane new lanes) ≡ count_by (is_with role peer) lanes)
        → (b : Bool) → cond b (Some l) (lane_at new.number lanes) ≡ Some old
        → count_by (is_with role peer) (cond b (new ∷ lanes) (l ∷ put_lane new lanes))
        ≡ count_by (is_with role peer) (l ∷ lanes)
    by_test again true same =
        let here : l ≡ old = cc in
        let bits : bit_of (is_with role peer new) ≡ bit_of (is_with role peer l) =
        ap bit_of
        (with-same role peer old new named ∙ sym (ap (λ (x : Lane). is_with role peer x) here)) in
        omega (arith, bits, with-cons role peer new lanes, with-cons role peer l lanes)
    by_test again false rest =
        omega (arith, again rest, with-cons role peer l lanes, with-cons role peer l (put_lane new lanes))

pub with-without : (role : LaneRole) (peer : List ℕ) (lanes : List Lane) (n : ℕ)
    → count_by (is_with role peer) (without_lane n lanes) ≤ count_by (is_with role peer) lanes
with-without role peer [] n = omega arith
with-without role peer (l ∷ lanes) n = by_test (with-without role peer lanes n) (eqb n l.number)
  where
    by_test : count_by (is_with role peer) (without_lane n lanes) ≤ count_by (is_with role peer) lanes → (b : Bool)
        → count_by (is_with role peer) (cond b lanes (l ∷ without_lane n lanes))
        ≤ count_by (is_with role peer) (l ∷ lanes)
    by_test again true = omega (arith, with-cons role peer l lanes)
    by_test again false =
        omega (arith, again, with-cons role peer l lanes, with-cons role peer l (without_lane n lanes))

-- ---- lanes of different names

abbrev IsApart : Lane → Lane → Type 0
IsApart lane = λ (l : Lane). l.role ≡ lane.role → l.peer ≡ lane.peer → l.reference ≡ lane.reference → ⊥

pub apart-more : (lanes : List Lane) (new : Lane)
    → EachLane (λ l. l.role ≡ new.role → l.peer ≡ new.peer → l.reference ≡ new.reference → ⊥) lanes
    → AreApart lanes → AreApart (lanes ++ new ∷ [])
apart-more [] new each apart = (tt, tt)
apart-more (l ∷ lanes) new each apart = (
  each-more (IsApart l) lanes new (λ a b c. each.0 (sym a) (sym b) (sym c)) apart.0,
  apart-more lanes new each.1 apart.1,
)

apart-as : (old new : Lane) → IsNamedAs old new → (l : Lane) → IsApart old l → IsApart new l
apart-as old new named l h a b c = h (a ∙ named.role) (b ∙ named.peer) (c ∙ named.reference)

apart-from : (old new : Lane) → IsNamedAs old new → (l : Lane) → IsApart l old → IsApart l new
apart-from old new named l h a b c = h (sym named.role ∙ a) (sym named.peer ∙ b) (sym named.reference ∙ c)

pub apart-put : (lanes : List Lane) (old new : Lane) → lane_at new.number lanes ≡ Some old → IsNamedAs old new
    → AreApart lanes → AreApart (put_lane new lanes)
apart-put [] old new e named apart = tt
apart-put (l ∷ lanes) old new e named apart =
    by_test (λ rest. apart-put lanes old new rest named apart.1) (eqb new.number l.number) e
  where
    by_test : (lane_at new.number lanes ≡ Some old → AreApart (put_lane new lanes)) → (b : Bool)
        → cond b (Some l) (lane_at new.number lanes) ≡ Some old
        → AreApart (cond b (new ∷ lanes) (l ∷ put_lane new lanes))
    by_test again true same =
        let here : l ≡ old = cc in (
          each-weaker (IsApart l) (IsApart new) lanes
              (λ x h. apart-as old new named x (subst (λ (y : Lane). IsApart y x) here h)) apart.0,
          apart.1,
        )
    by_test again false rest = (
      each-put (IsApart l) new lanes
          (apart-from old new named l (each-at (IsApart l) lanes new.number old rest apart.0)) apart.0,
      again rest,
    )

pub apart-without : (lanes : List Lane) (n : ℕ) → AreApart lanes → AreApart (without_lane n lanes)
apart-without [] n apart = tt
apart-without (l ∷ lanes) n apart = by_test (apart-without lanes n apart.1) (eqb n l.number)
  where
    by_test : AreApart (without_lane n lanes) → (b : Bool) → AreApart (cond b lanes (l ∷ without_lane n lanes))
    by_test again true = apart.1
    by_test again false = (each-without (IsApart l) n lanes apart.0, again)
