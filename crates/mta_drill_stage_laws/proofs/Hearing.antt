-- What the second agent does, and that it does what is next.
use Rattle.std.proofs.Common.{◌≡◌, ◌<◌, ◌≤◌, ℕ, zero, suc, ◌+◌, ◌-◌, ◌*◌, ◌==◌, ◌&&◌, ◌||◌, Bool, true, false}
use Rattle.std.proofs.Common.{nat_lt, not, if◌then◌else◌, List, [], ◌∷◌, ◌++◌, length, Option, Some, None}
use Rattle.std.proofs.Common.{refl, sym, ◌∙◌, ap, subst, arith, append-nil}
use Rattle.std.proofs.lemmas.Bool.{and_from, eq-eqb, lt-ltb, le-ltb, ne_eqb, not_from_false, or_left, or_right}
use Rattle.mta_units.specs.declared.unit.Unit.{Unit as AnyUnit}
use Rattle.mta_units.specs.declared.unit.Unit.TheVariants as unit
use Rattle.mta_lane_recv.specs.declared.state.Last.{Last}
use Rattle.mta_lane_recv.specs.Half.{IsOfHigh, is_done, is_partial, stands, takes_piece}
use Rattle.mta_transfer_rules.specs.Pieces.{piece_of}
use Rattle.mta_transfer_rules.specs.Units as u
use Rattle.mta_transfer_rules.specs.Sending.{SendStage}
use Rattle.mta_transfer_rules.specs.Receiving as r
use Rattle.mta_transfer_rules.specs.Receiving.{RecvEnd, RecvStage}
use Rattle.mta_session.specs.declared.ask.Ask.TheVariants as ask
use Rattle.mta_session.specs.declared.event.Action.{Action}
use Rattle.mta_session.specs.declared.event.Action.TheVariants as action
use Rattle.mta_session.specs.declared.event.Event.TheVariants as event
use Rattle.mta_session.specs.declared.phase.Phase.{Phase}
use Rattle.mta_session.specs.declared.phase.Phase.TheVariants as phase
use Rattle.mta_session.specs.Follows.{Does, GoesOn, counted}
use Rattle.mta_session.specs.Receiving.{admits, taken}
use Rattle.mta_session.specs.RecvFits.{RecvFits, RecvFitsAt}
use Rattle.mta_session.specs.State.{State}
use Rattle.mta_session_next_laws.specs.Next.{ack_next, is_transfer, next_of_receiver}
use Rattle.mta_session_next_laws.proofs.Calls.{listeners_take}
use Rattle.mta_session_next_laws.proofs.Listening.{listeners_go_on}
use Rattle.mta_session_next_laws.proofs.Pieces.{pieces_are_admitted}
use Rattle.mta_drill_stage_laws.specs.Breaks.{Breaks}
use Rattle.mta_drill_stage_laws.specs.Settings.{HasMore, HoldsPiece, IsBehind, IsBehindAt, Listens, Of_none}
use Rattle.mta_drill_stage_laws.specs.Settings.{Of_part, SecondHolds, Setting, Speaks, Stands, StandsFirst, StandsNone}
use Rattle.mta_drill_stage_laws.specs.Settings.{IsUntouched, Marks, Not_yet, acks, lasting, listener, octets_behind}
use Rattle.mta_drill_stage_laws.specs.Settings.{under_way}
use Rattle.mta_drill_stage_laws.specs.Stages.{AtHeld, AtNext, First, Holds, Second, SecondOf}
use Rattle.mta_drill_stage_laws.specs.Stages.{Acknowledges, Rests, Secures}
use Rattle.mta_drill_stage_laws.specs.World.{Link, ListenerActs}
use Rattle.mta_drill_stage_laws.specs.World.{Party, World, came_to}
use Rattle.mta_drill_stage_laws.proofs.Acts.{puts_over, reads_first, told_at}
use Rattle.mta_drill_stage_laws.proofs.Pieces.{few-more, piece-any, piece-short, piece-some}
use Rattle.mta_drill_stage_laws.proofs.Speaking.{acks-last, action_is, state_is, pick_so, pick_not}
use Rattle.mta_drill_stage_laws.proofs.Spools.{takes_first}

-- ---- what stands

last_done : (d : ℕ) → is_done (lasting d) (d + 1) ≡ false
last_done zero = refl
last_done (suc d) = ne_eqb (suc d + 1) (suc d) (λ e. omega (arith, e))

-- all stands exactly where it is said to
pub done_is : (whole : Bool) (done : ℕ) (o : List ℕ) (n got high : ℕ) (l : Last) (ps : List (List ℕ))
    → Stands whole done o n got high l ps → is_done l (done + 1) ≡ whole
done_is true done o n got high l ps h =
    ap (λ (z : Last). is_done z (done + 1)) h.last_is ∙ eq-eqb (done + 1) (done + 1) refl
done_is false done o n got high l ps (Of_none z h) =
    ap (λ (z : Last). is_done z (done + 1)) h.last_is ∙ last_done done
done_is false done o n got high l ps (Of_part m le h) = ap (λ (z : Last). is_done z (done + 1)) h.last_is

last_high : (d high : ℕ) → high ≡ d → IsOfHigh high (lasting d)
last_high zero high e = tt
last_high (suc d) high e = sym e

pub none_high : (done got high : ℕ) (l : Last) (ps : List (List ℕ)) → StandsNone done got high l ps → IsOfHigh high l
none_high done got high l ps h = subst (λ (z : Last). IsOfHigh high z) (sym h.last_is) (last_high done high h.high_is)

pub high_is : (whole : Bool) (done : ℕ) (o : List ℕ) (n got high : ℕ) (l : Last) (ps : List (List ℕ))
    → Stands whole done o n got high l ps → IsOfHigh high l
high_is true done o n got high l ps h = subst (λ (z : Last). IsOfHigh high z) (sym h.last_is) (sym h.high_is)
high_is false done o n got high l ps (Of_none z h) = none_high done got high l ps h
high_is false done o n got high l ps (Of_part m le h) =
    subst (λ (z : Last). IsOfHigh high z) (sym h.last_is) (sym h.high_is)

-- the piece behind the first n may come
pub goes_so : (whole : Bool) (done : ℕ) (o : List ℕ) (n got high : ℕ) (l : Last) (ps : List (List ℕ))
    → Stands whole done o n got high l ps
    → (is_done l (done + 1) || takes_piece high l (done + 1) (n + 1)) ≡ true
goes_so true done o n got high l ps h =
    or_left (is_done l (done + 1)) (takes_piece high l (done + 1) (n + 1)) (done_is true done o n got high l ps h)
goes_so false done o n got high l ps h =
    or_right (is_done l (done + 1)) (takes_piece high l (done + 1) (n + 1)) (takes_first done o n got high l ps h)

last_partial : (d : ℕ) → is_partial (lasting d) ≡ false
last_partial zero = refl
last_partial (suc d) = refl

-- ---- what is next

phase_free : (z : RecvStage) (x : Setting) (right : ℕ) (at : Phase) (f : RecvEnd)
    → next_of_receiver z (listener x right at f) ≡ next_of_receiver z (listener x right phase.Puts f)
phase_free r.Free x right at f = refl
phase_free (r.Next k n) x right at f = refl
phase_free (r.Held k n piece) x right at f = refl
phase_free (r.Synced k n piece) x right at f = refl
phase_free (r.Ended k n piece) x right at f = refl
phase_free (r.Asked k n) x right at f = refl
phase_free (r.Discards k) x right at f = refl
phase_free (r.Found k) x right at f = refl
phase_free (r.Skips k) x right at f = refl

pub listener_goes : (x : Setting) (right : ℕ) (at : Phase) (f : RecvEnd) (a : Action) (new : State)
    → RecvFits 1 f → IsOfHigh f.high f.last → GoesOn (listener x right at f) a new
    → ◌≡◌ {A = Action × State} (a, new) (next_of_receiver f.stage (listener x right phase.Puts f))
listener_goes x right at f a new fits high g =
    listeners_go_on (listener x right at f) a new refl fits high g ∙ phase_free f.stage x right at f

-- the stage is known
pub at_stage : (z : RecvStage) (x : Setting) (right : ℕ) (f : RecvEnd) (p : Action × State) → f.stage ≡ z
    → p ≡ next_of_receiver f.stage (listener x right phase.Puts f)
    → p ≡ next_of_receiver z (listener x right phase.Puts f)
at_stage z x right f p e h = subst (λ s. p ≡ next_of_receiver s (listener x right phase.Puts f)) e h

-- ---- one act

-- the listener did something at the link, and goes on from this end
pub record Heard (w v : World) (did : List AnyUnit) (p : Action × State) : Type 0 where
  pub says : ◌≡◌ {A = Action × State} (v.listening.wants, v.listening.session) p
  pub spool : v.listening.spool ≡ w.listening.spool
  pub came_is : v.listening.came ≡ []
  pub link : v.link ≡ w.link
  pub other : v.calling ≡ came_to w.calling did

-- what is said is the same
pub heard_as : (w v : World) (did : List AnyUnit) (p q : Action × State) → p ≡ q → Heard w v did p → Heard w v did q
heard_as w v did p q e h = record {
  says = h.says ∙ e;
  spool = h.spool;
  came_is = h.came_is;
  link = h.link;
  other = h.other;
}

pub hears : (x : Setting) (right : ℕ) (f g : RecvEnd) (y : AnyUnit) (w v : World)
    → Listens x w.listening action.Read phase.Reads right f (y ∷ []) → w.link.is_broken ≡ false → 1 < right
    → is_transfer y ≡ true → taken 1 f y ≡ Some g → RecvFits 1 g → IsOfHigh g.high g.last → ListenerActs w v
    → Heard w v [] (next_of_receiver g.stage (listener x (right - 1) phase.Puts g))
hears x right f g y w v l b more is takes fits high h =
    let talk = reads_first w.listening v.listening w.link v.link h.did [] y l.wants_is b l.came_is h.acts in
    let t = listener x right phase.Reads f in
    let e = told_at w.listening v.listening (event.Unit y) [] t l.session_is talk.told in
    let goes : GoesOn (listener x (right - 1) phase.Reads g) v.listening.wants v.listening.session
    = subst (λ z. Does (counted t (event.Unit y)) z v.listening.wants v.listening.session)
    (listeners_take t y g refl refl more is takes) e in
    record {
      says = listener_goes x (right - 1) phase.Reads g v.listening.wants v.listening.session fits high goes;
      spool = talk.spool;
      came_is = talk.told.came_is;
      link = talk.link;
      other = h.other ∙ ap (came_to w.calling) talk.put_is;
    }

pub answers_put : (x : Setting) (right : ℕ) (f : RecvEnd) (y : AnyUnit) (w v : World)
    → Listens x w.listening (action.Put y) phase.Puts right f [] → w.link.is_broken ≡ false
    → RecvFits 1 f → IsOfHigh f.high f.last → ListenerActs w v
    → Heard w v (y ∷ []) (next_of_receiver f.stage (listener x right phase.Puts f))
answers_put x right f y w v l b fits high h =
    let talk = puts_over w.listening v.listening w.link v.link h.did y l.wants_is b h.acts in
    let e = told_at w.listening v.listening event.Go w.listening.came (listener x right phase.Puts f) l.session_is
    talk.told in
    record {
      says = listener_goes x right phase.Puts f v.listening.wants v.listening.session fits high e;
      spool = talk.spool;
      came_is = talk.told.came_is ∙ l.came_is;
      link = talk.link;
      other = h.other ∙ ap (came_to w.calling) talk.put_is;
    }

-- the first agent is as it was, but for what came
abbrev pub first_kept : (x : Setting) (w v : World) (done c : ℕ) (ending : Bool) (z : SendStage) (did : List AnyUnit)
    → v.calling ≡ came_to w.calling did → First x w done c ending z → First x v done c ending z
first_kept x w v done c ending z did e h = record {
  below = h.below;
  left = h.left;
  transfer = h.transfer;
  is = h.is;
  speaks = subst (λ q. Speaks x q done h.left (under_way ending (done + 1) c) (octets_behind x done) z
      (Some h.transfer)) (sym e) (record { says = h.speaks.says; first = h.speaks.first });
  room = h.room;
}

-- what came to the first agent
pub up_so : (w v : World) (did up : List AnyUnit) → v.calling ≡ came_to w.calling did → w.calling.came ≡ up
    → v.calling.came ≡ up ++ did
up_so w v did up e h = ap (λ (p : Party). p.came) e ∙ ap (λ us. us ++ did) h

pub up_same : (w v : World) (up : List AnyUnit) → v.calling ≡ came_to w.calling [] → w.calling.came ≡ up
    → v.calling.came ≡ up
up_same w v up e h = up_so w v [] up e h ∙ append-nil up

-- The second agent behind an act at the link: the spool and the link are as they were.
pub second_heard : (x : Setting) (w v : World) (done read more : ℕ) (Has New : ℕ → ℕ → Last → List (List ℕ) → Type 0)
    (Bears Bear : Breaks → Type 0) (wants next : Action) (at to : Phase) (f g : RecvEnd)
    (came up did new_up : List AnyUnit) (right : ℕ)
    → (h : Second x w done Has Bears read wants at f came up) → g.high ≡ f.high → g.last ≡ f.last
    → Heard w v did (next, listener x right to g) → h.right + read ≤ right + more
    → up ++ did ≡ new_up
    → ((got : ℕ) (ps : List (List ℕ)) → Has got f.high f.last ps → New got g.high g.last ps)
    → ((b : Breaks) → Bears b → Bear b)
    → Second x v done New Bear more next to g [] new_up
second_heard x w v done read more Has New Bears Bear wants next at to f g came up did new_up right h eh el heard few ups
    stands bears = record {
      right = right;
      listens = record {
        wants_is = action_is (v.listening.wants, v.listening.session) (next, listener x right to g) heard.says;
        session_is = state_is (v.listening.wants, v.listening.session) (next, listener x right to g) heard.says;
        came_is = heard.came_is;
      };
      got = h.got;
      pieces = h.pieces;
      holds = subst (λ s. SecondHolds x s h.got g.high g.last h.pieces) (sym heard.spool)
          (subst (λ (z : ℕ). SecondHolds x w.listening.spool h.got z g.last h.pieces) (sym eh)
          (subst (λ (z : Last). SecondHolds x w.listening.spool h.got f.high z h.pieces) (sym el) h.holds));
      stands = stands h.got h.pieces h.stands;
      room = omega (arith, h.room, few);
      up_is = up_so w v did up heard.other h.up_is ∙ ups;
      whole_link = ap (λ (l : Link). l.is_broken) heard.link ∙ h.whole_link;
      marks = subst (λ (l : Link). Bear l.breaks) (sym heard.link) (bears w.link.breaks h.marks);
    }

-- ---- what may be next fits

pub true_false : (b : Bool) → b ≡ true → b ≡ false → ⊥
true_false b e f = absurd cc

-- the end once it took a unit
abbrev pub staged : RecvEnd → RecvStage → RecvEnd
staged f z = record f { stage = z }

pub behind_fits : (whole : Bool) (done n got : ℕ) (o : List ℕ) (f : RecvEnd) (ps : List (List ℕ))
    → IsBehind f whole (done + 1) n o → Stands whole done o n got f.high f.last ps → RecvFits 1 f
behind_fits whole done n got o f ps b h = by f.stage b.stage
  where
    goes_at : (j m : ℕ) → j ≡ done + 1 → m ≡ n → (is_done f.last j || takes_piece f.high f.last j (m + 1)) ≡ true
    goes_at j m ej em =
        subst (λ (z : ℕ). (is_done f.last z || takes_piece f.high f.last z (m + 1)) ≡ true) (sym ej)
        (subst (λ (z : ℕ). (is_done f.last (done + 1) || takes_piece f.high f.last (done + 1) (z + 1)) ≡ true) (sym em)
        (goes_so whole done o n got f.high f.last ps h))

    by : (z : RecvStage) → IsBehindAt z whole f.from (done + 1) n o → RecvFitsAt 1 z f
    by (r.Next j m) e =
        let em : m ≡ n = e.1 in (
          goes_at j m e.0 e.1,
          omega (arith, b.from, em),
          omega (arith, b.acked, em),
          omega (arith, b.acked, em),
          λ less. absurd (omega (arith, b.acked, em, less)),
        )
    by (r.Synced j m piece) e =
        let em : m ≡ n = e.1 in
        let ej : j ≡ done + 1 = e.0 in
        let all : is_done f.last j ≡ true = ap (is_done f.last) ej
        ∙ done_is whole done o n got f.high f.last ps h ∙ e.4 in (
          omega (arith, ap length e.2, piece-any o n),
          or_left (is_done f.last j) (takes_piece f.high f.last j m) all,
          omega (arith, e.3, em),
          omega (arith, b.acked, em),
          omega (arith, b.acked, em),
          λ less. all,
          λ not_all. absurd (true_false (is_done f.last j) all not_all),
        )
    by any0 e = elim e [ ]

-- ---- Start

start_takes : (x : Setting) (done got : ℕ) (f : RecvEnd) (ps : List (List ℕ)) → f.stage ≡ r.Free
    → StandsNone done got f.high f.last ps
    → taken 1 f (unit.Start (done + 1)) ≡ Some (record f { stage = r.Next (done + 1) 0; from = 0; acked = 0 })
start_takes x done got f ps e h =
    subst (λ z. r.take_start z f (done + 1) ≡ Some (record f { stage = r.Next (done + 1) 0; from = 0; acked = 0 }))
    (sym e)
    (when_so (nat_lt f.high (done + 1) && not (is_partial f.last)) (and_from (nat_lt f.high (done + 1))
    (not (is_partial f.last)) (lt-ltb f.high (done + 1) (omega (arith, h.high_is)))
    (not_from_false (is_partial f.last) (ap is_partial h.last_is ∙ last_partial done))))
  where
    when_so : (b : Bool) → b ≡ true
        → r.when b (record f { stage = r.Next (done + 1) 0; from = 0; acked = 0 })
        ≡ Some (record f { stage = r.Next (done + 1) 0; from = 0; acked = 0 })
    when_so b q = rw q refl

-- nothing is broken before an activity begins
pub untouched_marks : (x : Setting) (done : ℕ) (b : Breaks) → IsUntouched x done b → Marks x done 0 false b
untouched_marks x done b h = Not_yet h (λ (le : 1 ≤ 0). absurd (omega (arith, le))) (λ (e : false ≡ true). absurd cc)

pub start_came : (x : Setting) (w v : World) (done : ℕ) (f : RecvEnd) → done < x.count → f.stage ≡ r.Free
    → Second x w done (StandsNone done) (IsUntouched x done) 0 action.Read phase.Reads f (unit.Start (done + 1) ∷ []) []
    → ListenerActs w v → AtNext x v done 0 false 0
start_came x w v done f below free h acts =
    let g : RecvEnd = record f { stage = r.Next (done + 1) 0; from = 0; acked = 0 } in
    let o = octets_behind x done in
    let behind : IsBehind g false (done + 1) 0 o = record { stage = (refl, refl); acked = refl; from = omega arith } in
    let stands : StandsFirst done o 0 h.got f.high f.last h.pieces = Of_none refl h.stands in
    let heard = hears x h.right f g (unit.Start (done + 1)) w v h.listens h.whole_link
    (omega (arith, h.room, below)) refl (start_takes x done h.got f h.pieces free h.stands)
    (behind_fits false done 0 h.got o g h.pieces behind stands)
    (none_high done h.got f.high f.last h.pieces h.stands) acts in
    Rests 0 g (omega arith) behind (second_heard x w v done 0 1 (StandsNone done) (Stands false done o 0)
    (IsUntouched x done) (Marks x done 0 false) action.Read action.Read phase.Reads phase.Reads f g
    (unit.Start (done + 1) ∷ []) [] [] [] (h.right - 1) h refl refl heard (omega (arith, h.room, below)) refl
    (λ got ps s. Of_none refl s) (untouched_marks x done))

-- ---- a piece

pub if_so : (b : Bool) (p q : Option RecvEnd) → b ≡ true → (if b then p else q) ≡ p
if_so b p q e = rw e refl

piece_takes : (x : Setting) (done n : ℕ) (whole : Bool) (f : RecvEnd)
    → IsBehind f whole (done + 1) n (octets_behind x done) → HasMore (octets_behind x done) n
    → taken 1 f (unit.Piece (piece_of 1024 (octets_behind x done) (n + 1)))
    ≡ Some (staged f (r.Held (done + 1) (n + 1) (piece_of 1024 (octets_behind x done) (n + 1))))
piece_takes x done n whole f b more = by f.stage b.stage
  where
    piece : List ℕ
    piece = piece_of 1024 (octets_behind x done) (n + 1)

    admitted : (held : List ℕ) → (admits 1 (r.Next (done + 1) n) (piece_of 1024 (octets_behind x done) (n + 1)) ≡ true)
        × (admits 1 (r.Synced (done + 1) n held) (piece_of 1024 (octets_behind x done) (n + 1)) ≡ true)
    admitted held = pieces_are_admitted 1 (done + 1) n (octets_behind x done) held (omega arith) more
        (omega (arith, few-more x done n more))

    by : (z : RecvStage) → IsBehindAt z whole f.from (done + 1) n (octets_behind x done)
        → (if admits 1 z (piece_of 1024 (octets_behind x done) (n + 1))
        then r.take_piece z f (piece_of 1024 (octets_behind x done) (n + 1)) else None)
        ≡ Some (staged f (r.Held (done + 1) (n + 1) (piece_of 1024 (octets_behind x done) (n + 1))))
    by (r.Next j m) e =
        let p = piece_of 1024 (octets_behind x done) (n + 1) in
        let ej : j ≡ done + 1 = e.0 in
        let em : m ≡ n = e.1 in
        subst (λ (a : ℕ). (if admits 1 (r.Next a m) p then r.take_piece (r.Next a m) f p else None)
        ≡ Some (staged f (r.Held (done + 1) (n + 1) p))) (sym ej)
        (subst (λ (a : ℕ). (if admits 1 (r.Next (done + 1) a) p then r.take_piece (r.Next (done + 1) a) f p else None)
        ≡ Some (staged f (r.Held (done + 1) (n + 1) p))) (sym em)
        (if_so (admits 1 (r.Next (done + 1) n) p) _ _ (admitted []).0))
    by (r.Synced j m held) e =
        let p = piece_of 1024 (octets_behind x done) (n + 1) in
        let ej : j ≡ done + 1 = e.0 in
        let em : m ≡ n = e.1 in
        subst (λ (a : ℕ). (if admits 1 (r.Synced a m held) p then r.take_piece (r.Synced a m held) f p else None)
        ≡ Some (staged f (r.Held (done + 1) (n + 1) p))) (sym ej)
        (subst (λ (a : ℕ). (if admits 1 (r.Synced (done + 1) a held) p
        then r.take_piece (r.Synced (done + 1) a held) f p else None)
        ≡ Some (staged f (r.Held (done + 1) (n + 1) p))) (sym em)
        (if_so (admits 1 (r.Synced (done + 1) n held) p) _ _ (admitted held).1))
    by any0 e = elim e [ ]

pub piece_came : (x : Setting) (w v : World) (done c n : ℕ) (whole : Bool) (j : ℕ) (f : RecvEnd) → done < x.count
    → c + j ≡ n → HasMore (octets_behind x done) n → IsBehind f whole (done + 1) n (octets_behind x done)
    → SecondOf x w done c whole n (2 * n + 1) action.Read phase.Reads f
    (unit.Piece (piece_of 1024 (octets_behind x done) (n + 1)) ∷ []) (acks c j)
    → ListenerActs w v → AtHeld x v done c whole n
piece_came x w v done c n whole j f below sum more b h acts =
    let o = octets_behind x done in
    let piece = piece_of 1024 o (n + 1) in
    let g : RecvEnd = staged f (r.Held (done + 1) (n + 1) piece) in
    let few = few-more x done n more in
    let fits : RecvFits 1 g = (
      omega (arith, piece-short o n),
      goes_so whole done o n h.got f.high f.last h.pieces h.stands,
      omega (arith, b.from),
      omega (arith, b.acked),
      piece-some o n more,
    ) in
    let heard = hears x h.right f g (unit.Piece piece) w v h.listens h.whole_link
    (omega (arith, h.room, below, few)) refl (piece_takes x done n whole f b more) fits
    (high_is whole done o n h.got f.high f.last h.pieces h.stands) acts in
    Holds j g sum (record { stage = refl; acked = omega (arith, b.acked); from = omega (arith, b.from) })
    (second_heard x w v done (2 * n + 1) (2 * n + 2) (Stands whole done o n) (Stands whole done o n)
    (Marks x done c whole) (Marks x done c whole) action.Read action.Read phase.Reads phase.Reads f g
    (unit.Piece piece ∷ []) (acks c j) [] (acks c j) (h.right - 1) h refl refl heard
    (omega (arith, h.room, below, few)) (append-nil (acks c j)) (λ got ps s. s) (λ m s. s))

-- ---- a Sync

sync_takes : (x : Setting) (k n : ℕ) (piece : List ℕ) (f : RecvEnd) → f.stage ≡ r.Held k n piece
    → taken 1 f (unit.Sync n) ≡ Some (staged f (r.Synced k n piece))
sync_takes x k n piece f e =
    subst (λ z. r.take_sync z f n ≡ Some (staged f (r.Synced k n piece))) (sym e) (by (n == n) (eq-eqb n n refl))
  where
    by : (b : Bool) → b ≡ true → r.when b (staged f (r.Synced k n piece)) ≡ Some (staged f (r.Synced k n piece))
    by b q = rw q refl

-- the acknowledgement is put
pub ack_due : (x : Setting) (right n : ℕ) (f : RecvEnd) → f.acked < n
    → ◌≡◌ {A = Action × State} (ack_next n (listener x right phase.Puts f))
    (action.Put (unit.SyncAck n), listener x right phase.Puts (r.put f (u.SyncAck n)))
ack_due x right n f less = pick_so (nat_lt f.acked n) _ _ (lt-ltb f.acked n less)

synced_fits : (x : Setting) (done m got : ℕ) (whole : Bool) (f : RecvEnd) (ps : List (List ℕ))
    → HoldsPiece f (done + 1) (m + 1) (octets_behind x done)
    → Stands whole done (octets_behind x done) m got f.high f.last ps → HasMore (octets_behind x done) m
    → RecvFits 1 (staged f (r.Synced (done + 1) (m + 1) (piece_of 1024 (octets_behind x done) (m + 1))))
synced_fits x done m got whole f ps held stands more =
    let o = octets_behind x done in (
      omega (arith, piece-short o m),
      goes_so whole done o m got f.high f.last ps stands,
      held.from,
      omega (arith, held.acked),
      omega (arith, held.acked),
      λ less. absurd (omega (arith, less, held.acked)),
      λ not_done. piece-some o m more,
    )

pub sync_came : (x : Setting) (w v : World) (done c m : ℕ) (whole : Bool) (j : ℕ) (f : RecvEnd) → done < x.count
    → c + j ≡ m → HasMore (octets_behind x done) m → HoldsPiece f (done + 1) (m + 1) (octets_behind x done)
    → SecondOf x w done c whole m (2 * m + 2) action.Read phase.Reads f (unit.Sync (m + 1) ∷ []) (acks c j)
    → ListenerActs w v → AtNext x v done c whole (m + 1)
sync_came x w v done c m whole j f below sum more held h acts = by whole h.stands refl
  where
    o : List ℕ
    o = octets_behind x done

    by : (b : Bool) → Stands b done (octets_behind x done) m h.got f.high f.last h.pieces → whole ≡ b
        → AtNext x v done c whole (m + 1)
    by b stands is =
        let piece = piece_of 1024 (octets_behind x done) (m + 1) in
        let g : RecvEnd = staged f (r.Synced (done + 1) (m + 1) piece) in
        let few = few-more x done m more in
        let heard = hears x h.right f g (unit.Sync (m + 1)) w v h.listens h.whole_link
        (omega (arith, h.room, below, few)) refl (sync_takes x (done + 1) (m + 1) piece f held.stage)
        (synced_fits x done m h.got b f h.pieces held stands more)
        (high_is b done (octets_behind x done) m h.got f.high f.last h.pieces stands) acts in
        then_ b stands is (done_is b done (octets_behind x done) m h.got f.high f.last h.pieces stands) heard
      where
        then_ : (b : Bool) → Stands b done (octets_behind x done) m h.got f.high f.last h.pieces → whole ≡ b
            → is_done f.last (done + 1) ≡ b
            → Heard w v [] (next_of_receiver
            (r.Synced (done + 1) (m + 1) (piece_of 1024 (octets_behind x done) (m + 1)))
            (listener x (h.right - 1) phase.Puts
            (staged f (r.Synced (done + 1) (m + 1) (piece_of 1024 (octets_behind x done) (m + 1))))))
            → AtNext x v done c whole (m + 1)
        then_ true stands is d heard =
            let piece = piece_of 1024 (octets_behind x done) (m + 1) in
            let few = few-more x done m more in
            let g : RecvEnd = staged f (r.Synced (done + 1) (m + 1) piece) in
            let k : RecvEnd = r.put g (u.SyncAck (m + 1)) in
            let said = heard_as w v [] _ (action.Put (unit.SyncAck (m + 1)), listener x (h.right - 1) phase.Puts k)
            (pick_so (is_done f.last (done + 1)) _ _ d
            ∙ ack_due x (h.right - 1) (m + 1) g (omega (arith, held.acked))) heard in
            subst (λ z. AtNext x v done c z (m + 1)) (sym is)
            (Acknowledges m j k refl sum (record {
              stage = (refl, refl, refl, held.from, refl);
              acked = omega (arith, held.acked);
              from = omega (arith, held.from);
            })
            (second_heard x w v done (2 * m + 2) (2 * m + 3) (Stands whole done (octets_behind x done) m)
            (Stands true done (octets_behind x done) (m + 1)) (Marks x done c whole) (Marks x done c true)
            action.Read (action.Put (unit.SyncAck (m + 1))) phase.Reads phase.Puts f k (unit.Sync (m + 1) ∷ [])
            (acks c j) [] (acks c j) (h.right - 1) h refl refl said (omega (arith, h.room, below, few))
            (append-nil (acks c j))
            (λ got ps s. subst (λ z. Stands z done (octets_behind x done) m got f.high f.last ps) is s)
            (λ b s. subst (λ z. Marks x done c z b) is s)))
        then_ false stands is d heard =
            let piece = piece_of 1024 (octets_behind x done) (m + 1) in
            let few = few-more x done m more in
            let k : RecvEnd = staged f (r.Synced (done + 1) (m + 1) []) in
            let said = heard_as w v [] _ (
              action.Ask (ask.Secure 1 x.generation (done + 1) (m + 1) piece),
              listener x (h.right - 1) (phase.AsksSecure (done + 1) (m + 1)) k,
            )
            (pick_not (is_done f.last (done + 1)) _ _ d) heard in
            Secures m j k refl sum is refl held.acked held.from
            (second_heard x w v done (2 * m + 2) (2 * m + 3) (Stands whole done (octets_behind x done) m)
            (Stands false done (octets_behind x done) m) (Marks x done c whole) (Marks x done c false)
            action.Read (action.Ask (ask.Secure 1 x.generation (done + 1) (m + 1) piece)) phase.Reads
            (phase.AsksSecure (done + 1) (m + 1)) f k (unit.Sync (m + 1) ∷ [])
            (acks c j) [] (acks c j) (h.right - 1) h refl refl said (omega (arith, h.room, below, few))
            (append-nil (acks c j))
            (λ got ps s. subst (λ z. Stands z done (octets_behind x done) m got f.high f.last ps) is s)
            (λ b s. subst (λ z. Marks x done c z b) is s))

-- ---- the acknowledgement is put

pub behind_reads : (x : Setting) (right done n got : ℕ) (whole : Bool) (o : List ℕ) (f : RecvEnd) (ps : List (List ℕ))
    → IsBehind f whole (done + 1) n o → Stands whole done o n got f.high f.last ps
    → next_of_receiver f.stage (listener x right phase.Puts f) ≡ (action.Read, listener x right phase.Reads f)
behind_reads x right done n got whole o f ps b h = by f.stage b.stage
  where
    all_acked : (m : ℕ) → m ≡ n → nat_lt f.acked m ≡ false
    all_acked m e = le-ltb f.acked m (omega (arith, b.acked, e))

    by : (z : RecvStage) → IsBehindAt z whole f.from (done + 1) n o
        → next_of_receiver z (listener x right phase.Puts f) ≡ (action.Read, listener x right phase.Reads f)
    by (r.Next j m) e = pick_not (nat_lt f.acked m) _ _ (all_acked m e.1)
    by (r.Synced j m piece) e =
        pick_so (is_done f.last j) _ _ (ap (is_done f.last) e.0
        ∙ done_is whole done o n got f.high f.last ps h ∙ e.4)
        ∙ pick_not (nat_lt f.acked m) _ _ (all_acked m e.1)
    by any0 e = elim e [ ]

pub acknowledged : (x : Setting) (w v : World) (done c m : ℕ) (whole : Bool) (j : ℕ) (f : RecvEnd) → c + j ≡ m
    → IsBehind f whole (done + 1) (m + 1) (octets_behind x done)
    → SecondOf x w done c whole (m + 1) (2 * m + 3) (action.Put (unit.SyncAck (m + 1))) phase.Puts f [] (acks c j)
    → ListenerActs w v → AtNext x v done c whole (m + 1)
acknowledged x w v done c m whole j f sum b h acts =
    let o = octets_behind x done in
    let heard = answers_put x h.right f (unit.SyncAck (m + 1)) w v h.listens h.whole_link
    (behind_fits whole done (m + 1) h.got o f h.pieces b h.stands)
    (high_is whole done o (m + 1) h.got f.high f.last h.pieces h.stands) acts in
    let said = heard_as w v (unit.SyncAck (m + 1) ∷ []) _ (action.Read, listener x h.right phase.Reads f)
    (behind_reads x h.right done (m + 1) h.got whole o f h.pieces b h.stands) heard in
    Rests (j + 1) f (omega (arith, sum)) b
    (second_heard x w v done (2 * m + 3) (2 * (m + 1) + 1) (Stands whole done o (m + 1)) (Stands whole done o (m + 1))
    (Marks x done c whole) (Marks x done c whole) (action.Put (unit.SyncAck (m + 1))) action.Read phase.Puts phase.Reads
    f f [] (acks c j) (unit.SyncAck (m + 1) ∷ []) (acks c (j + 1)) h.right h refl refl said (omega arith)
    (acks-last c j m sum) (λ got ps s. s) (λ b s. s))
