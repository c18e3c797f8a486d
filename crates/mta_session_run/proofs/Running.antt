-- A session that is carried on, call after call.
use Rattle.std.proofs.Common.{◌≡◌, ℕ, ◌≤◌, true, false, Option, None, Result, Ok, Err, OnErr, List, [], ◌∷◌, ◌++◌, take}
use Rattle.std.proofs.Common.{refl, sym, ap, subst, ◌∙◌, arith, append_assoc, append-nil}
use Rattle.mta_edge.specs.Causes.{Rose}
use Rattle.mta_links.specs.Links.{LinkView, Talk, Leads}
use Rattle.mta_units.specs.declared.unit.Unit.{Unit as AnyUnit}
use Rattle.mta_units.specs.Feed.{Feed}
use Rattle.mta_units.specs.Canon.{unit_octets}
use Rattle.mta_session_run.specs.Carried.{Carried, PutsAll}
use Rattle.mta_session.specs.declared.ask.Reply.{Reply}
use Rattle.mta_session.specs.declared.event.Event.{Event}
use Rattle.mta_session.specs.declared.event.Event.TheVariants as event
use Rattle.mta_session.specs.declared.event.Action.{Action}
use Rattle.mta_session.specs.declared.event.Action.TheVariants as action
use Rattle.mta_session.specs.declared.phase.Phase.{Phase}
use Rattle.mta_session.specs.declared.phase.Phase.TheVariants as phase
use Rattle.mta_session.specs.State.{State}
use Rattle.mta_session.specs.Session.{StepsTo}
use Rattle.mta_session.specs.Fits.{Fits, Answers, AnswersAt, answers_put, answers_read}
use Rattle.mta_session.specs.Rank.{is_over}
use Rattle.mta_session_laws.specs.Runs.{Turn, IsTurn}
use Rattle.mta_session_laws.specs.Whole.{AreCalls}
use Rattle.mta_session_laws.specs.Writing.{TellsWritable, PutsMayBeWritten}
use Rattle.mta_session_laws.specs.Order.{awaits, is_putting, is_reading, ActionsAreAwaited}
use Rattle.mta_session_run.specs.Running.{HasPut, HasGot, HasDone, IsRead, units_of, IsCalled, HasTold, PutFor, is_cut}
use Rattle.mta_session_run.specs.Running.{Runs, Not_yet, Goes_on, IsRun, HasRun, HasStopped, IsShort, IsUndone, HasKept}
use Rattle.mta_session_run.specs.Running.{Not_done, Not_told, Not_put, Not_read, AllDone, Exchanged, action_of}
use Rattle.mta_session_run.specs.Running.{RunsAreCalls}
use Rattle.mta_session_run.proofs.Talks.{carried_front, leads_map}
use Rattle.mta_session_run.specs.declared.came.Came.{Came}
use Rattle.mta_session_run.specs.declared.link.Done.{Done}
use Rattle.mta_session_run.specs.declared.link.Done.TheVariants as done

never : false ≡ true → ⊥
never i = cc

-- one step after another
leads_then : {s t u : Talk → Talk → Type 0} {a b c : Option Talk} → ((f g h : Talk) → s f g → t g h → u f h)
    → Leads s a b → Leads t b c → Leads u a c
leads_then join p q = record {
  each = λ f was. let x = p.each f was in let y = q.each x.0 x.1 in (y.0, y.1, join f x.0 y.0 x.2 y.2);
  back = λ h was. let y = q.back h was in let x = p.back y.0 y.1 in (x.0, x.1, join x.0 y.0 h x.2 y.2);
}

-- What comes of an action ------------------------------------------------------------------

put_answers : (p : Phase) (t : State) (e : Event) → is_putting p ≡ true → answers_put e ≡ true → AnswersAt p t e
put_answers phase.PutsOpen t e i a = a
put_answers phase.PutsAccept t e i a = a
put_answers phase.Puts t e i a = a
put_answers phase.PutsClose t e i a = a
put_answers (phase.PutsLast x) t e i a = a
put_answers p t e i a = absurd (never i)

read_answers : (p : Phase) (t : State) (e : Event) → is_reading p ≡ true → answers_read e ≡ true → AnswersAt p t e
read_answers phase.ReadsOpen t e i a = a
read_answers phase.ReadsAnswer t e i a = a
read_answers phase.Reads t e i a = a
read_answers phase.ReadsCloseAck t e i a = a
read_answers p t e i a = absurd (never i)

is_put : {L : Type 0} → (model : LinkView L) (u : AnyUnit) (old : L) (e : Event) (new : L) → HasPut model u old e new
    → answers_put e ≡ true
is_put model u old event.Go new h = refl
is_put model u old event.Over new h = refl
is_put model u old (event.Unit x) new h = elim h [ ]
is_put model u old event.BadUnit new h = elim h [ ]
is_put model u old (event.Reply x) new h = elim h [ ]

is_got : {L : Type 0} → (model : LinkView L) (n : ℕ) (e : Event) (new : L) (feed : Feed) → IsRead model n e new feed
    → answers_read e ≡ true
is_got model n (event.Unit x) new feed h = refl
is_got model n event.BadUnit new feed h = refl
is_got model n event.Over new feed h = refl
is_got model n event.Go new feed h = elim h [ ]
is_got model n (event.Reply x) new feed h = elim h [ ]

pub done_answers : {L : Type 0} → (model : LinkView L) (t : State) (a : Action) (old : L) (fed : Feed) (e : Event)
    (new : L) (feed : Feed) → awaits a t.phase ≡ true → HasDone model a old fed e new feed → Answers t e
done_answers model t (action.Put u) old fed e new feed w h = put_answers t.phase t e w (is_put model u old e new h.0)
done_answers model t action.Read old fed e new feed w h = read_answers t.phase t e w (is_got model _ e new feed h.read)
done_answers model t (action.Ask x) old fed e new feed w h = elim h [ ]
done_answers model t (action.Finish x) old fed e new feed w h = elim h [ ]

-- what comes of it tells of no peer
go_reply : (x : Reply) → event.Go ≡ event.Reply x → ⊥
go_reply x i = cc

unit_reply : (u : AnyUnit) (x : Reply) → event.Unit u ≡ event.Reply x → ⊥
unit_reply u x i = cc

bad_reply : (x : Reply) → event.BadUnit ≡ event.Reply x → ⊥
bad_reply x i = cc

over_reply : (x : Reply) → event.Over ≡ event.Reply x → ⊥
over_reply x i = cc

put_tells : (e : Event) (t : State) → answers_put e ≡ true → TellsWritable t e
put_tells event.Go t a = λ own o p i j k. absurd (go_reply _ k)
put_tells event.Over t a = λ own o p i j k. absurd (over_reply _ k)
put_tells (event.Unit u) t a = absurd (never a)
put_tells event.BadUnit t a = absurd (never a)
put_tells (event.Reply x) t a = absurd (never a)

read_tells : (e : Event) (t : State) → answers_read e ≡ true → TellsWritable t e
read_tells event.Over t a = λ own o p i j k. absurd (over_reply _ k)
read_tells (event.Unit u) t a = λ own o p i j k. absurd (unit_reply u _ k)
read_tells event.BadUnit t a = λ own o p i j k. absurd (bad_reply _ k)
read_tells event.Go t a = absurd (never a)
read_tells (event.Reply x) t a = absurd (never a)

pub done_tells : {L : Type 0} → (model : LinkView L) (t : State) (a : Action) (old : L) (fed : Feed) (e : Event)
    (new : L) (feed : Feed) → HasDone model a old fed e new feed → TellsWritable t e
done_tells model t (action.Put u) old fed e new feed h = put_tells e t (is_put model u old e new h.0)
done_tells model t action.Read old fed e new feed h = read_tells e t (is_got model _ e new feed h.read)
done_tells model t (action.Ask x) old fed e new feed h = elim h [ ]
done_tells model t (action.Finish x) old fed e new feed h = elim h [ ]

putting_goes : (p : Phase) → is_putting p ≡ true → is_over p ≡ false
putting_goes (phase.Ended x) i = absurd (never i)
putting_goes p i = refl

reading_goes : (p : Phase) → is_reading p ≡ true → is_over p ≡ false
reading_goes (phase.Ended x) i = absurd (never i)
reading_goes p i = refl

pub done_goes : {L : Type 0} → (model : LinkView L) (t : State) (a : Action) (old : L) (fed : Feed) (e : Event)
    (new : L) (feed : Feed) → awaits a t.phase ≡ true → HasDone model a old fed e new feed → is_over t.phase ≡ false
done_goes model t (action.Put u) old fed e new feed w h = putting_goes t.phase w
done_goes model t action.Read old fed e new feed w h = reading_goes t.phase w
done_goes model t (action.Ask x) old fed e new feed w h = elim h [ ]
done_goes model t (action.Finish x) old fed e new feed w h = elim h [ ]

-- What the link has carried then -----------------------------------------------------------

put_carried : (us : List AnyUnit) (os piece : List ℕ) (fed feed : Feed) (f g h : Talk) → feed ≡ fed
    → Carried us os fed f g → PutsAll piece g h → Carried (us ++ []) (os ++ piece) feed f h
put_carried us os piece fed feed f g h e c p =
    let there : Carried us (os ++ piece) fed f h = record {
      stream = c.stream;
      read = c.read;
      got = p.got ∙ c.got;
      put = p.put ∙ ap (λ (x : List ℕ). x ++ piece) c.put ∙ append_assoc f.put os piece;
    } in
    subst (λ (x : List AnyUnit). Carried x (os ++ piece) feed f h) (sym (append-nil us))
    (subst (λ (x : Feed). Carried us (os ++ piece) x f h) (sym e) there)

-- the octets that were put for an action, and what was carried
abbrev Carries : {L : Type 0} → LinkView L → Action → L → Feed → Event → L → Feed → Type 0
Carries model a old fed e new feed =
    (piece : List ℕ) × PutFor a e piece × (is_cut a e ≡ true → Rose (model.faults old) (model.faults new))
    × ((since : Option Talk) (us : List AnyUnit) (os : List ℕ) → Leads (Carried us os fed) since (model.talk old)
    → Leads (Carried (us ++ units_of e) (os ++ piece) feed) since (model.talk new))

put_carries : {L : Type 0} → (model : LinkView L) (u : AnyUnit) (old : L) (fed : Feed) (e : Event) (new : L)
    (feed : Feed) → HasPut model u old e new → feed ≡ fed → Carries model (action.Put u) old fed e new feed
put_carries model u old fed event.Go new feed h q = (
  unit_octets u,
  refl,
  (λ i. absurd (never i)),
  λ since us os c. leads_then (λ f g k one two. put_carried us os (unit_octets u) fed feed f g k q one two) c h,
)
put_carries model u old fed event.Over new feed h q = (
  take h.0.0 (unit_octets u),
  (h.0.0, refl),
  (λ i. h.1),
  λ since us os c. leads_then (λ f g k one two. put_carried us os
      (take h.0.0 (unit_octets u)) fed feed f g k q one two) c h.0.1,
)
put_carries model u old fed (event.Unit x) new feed h q = elim h [ ]
put_carries model u old fed event.BadUnit new feed h q = elim h [ ]
put_carries model u old fed (event.Reply x) new feed h q = elim h [ ]

got_carries : {L : Type 0} → (model : LinkView L) (old : L) (fed : Feed) (e : Event) (new : L) (feed : Feed)
    → HasGot model old fed e new feed → Carries model action.Read old fed e new feed
got_carries model old fed e new feed h = (
  [],
  refl,
  (λ i. absurd (never i)),
  λ since us os c. subst (λ (x : List ℕ). Leads (Carried (us ++ units_of e) x feed) since (model.talk new))
      (sym (append-nil os)) (h.carried since us os c),
)

done_carries : {L : Type 0} → (model : LinkView L) (a : Action) (old : L) (fed : Feed) (e : Event) (new : L)
    (feed : Feed) → HasDone model a old fed e new feed → Carries model a old fed e new feed
done_carries model (action.Put u) old fed e new feed h = put_carries model u old fed e new feed h.0 h.1
done_carries model action.Read old fed e new feed h = got_carries model old fed e new feed h
done_carries model (action.Ask x) old fed e new feed h = elim h [ ]
done_carries model (action.Finish x) old fed e new feed h = elim h [ ]

-- Where there was no memory for it ---------------------------------------------------------

-- nothing was put
pub put_undone : {L : Type 0} → (model : LinkView L) (a : Action) (u : AnyUnit) (old : L) (fed : Feed) (new : L)
    → a ≡ action.Put u → model.talk new ≡ model.talk old → IsUndone model a old fed new
put_undone model a u old fed new i same = Not_put u i same

-- none was read
pub read_undone : {L : Type 0} → (model : LinkView L) (a : Action) (old : L) (fed : Feed) (new : L) (feed : Feed)
    → a ≡ action.Read → ((since : Option Talk) (us : List AnyUnit) (octets : List ℕ)
    → Leads (Carried us octets fed) since (model.talk old) → Leads (Carried us octets feed) since (model.talk new))
    → IsUndone model a old fed new
read_undone model a old fed new feed i kept =
    Not_read i (λ since us octets l. leads_map (λ f g c. carried_front us octets feed f g c) (kept since us octets l))

-- Calls ------------------------------------------------------------------------------------

runs_later : (failed gone : Type 0) (t : State) (a : Action) (xs : List Turn) (us : List AnyUnit) (os : List ℕ)
    (u : State) (b : Action) → (failed → gone) → Runs failed t a xs us os u b → Runs gone t a xs us os u b
runs_later failed gone t a xs us os u b f Not_yet = Not_yet
runs_later failed gone t a xs us os u b f (Goes_on ys vs ps w d e c v piece r turn put cut) =
    Goes_on ys vs ps w d e c v piece (runs_later failed gone t a ys vs ps w d f r) turn put (λ i. f (cut i))

-- what was wanted behind these calls
abbrev pub last_of : Action → List Turn → Action
last_of a [] = a
last_of a (x ∷ xs) = last_of x.action xs

last_more : (xs : List Turn) (a : Action) (x : Turn) → last_of a (xs ++ x ∷ []) ≡ x.action
last_more [] a x = refl
last_more (y ∷ ys) a x = last_more ys y.action x

runs_last : (failed : Type 0) (t : State) (a : Action) (xs : List Turn) (us : List AnyUnit) (os : List ℕ) (u : State)
    (b : Action) → Runs failed t a xs us os u b → last_of a xs ≡ b
runs_last failed t a xs us os u b Not_yet = refl
runs_last failed t a xs us os u b (Goes_on ys vs ps w d e c v piece r turn put cut) =
    last_more ys a (record { before = w; event = e; action = c; after = v })

-- what came of one action more
pub done_more : {L : Type 0} → (model : LinkView L) (xs : List Turn) (a b : Action) (old : L) (fed : Feed) (mid : L)
    (half : Feed) (x : Turn) (new : L) (feed : Feed) → last_of a xs ≡ b → AllDone model a xs old fed mid half
    → HasDone model b mid half x.event new feed → model.faults mid ≤ model.faults new
    → AllDone model a (xs ++ x ∷ []) old fed new feed
done_more {L} model [] a b old fed mid half x new feed e d h m =
    let here : HasDone model b old half x.event new feed =
    subst (λ (z : L). HasDone model b z half x.event new feed) d.0 h in
    let there : HasDone model b old fed x.event new feed =
    subst (λ (z : Feed). HasDone model b old z x.event new feed) d.1 here in (
      new,
      feed,
      subst (λ (z : Action). HasDone model z old fed x.event new feed) (sym e) there,
      subst (λ (z : L). model.faults z ≤ model.faults new) d.0 m,
      (refl, refl),
    )
done_more model (y ∷ ys) a b old fed mid half x new feed e d h m =
    (d.0, d.1, d.2, d.3, done_more model ys y.action b d.0 d.1 mid half x new feed e d.4 h m)

rose_after : (a b c : ℕ) → b ≤ c → Rose a b → Rose a c
rose_after a b c l r = omega (arith, l, r)

rose_before : (a b c : ℕ) → a ≤ b → Rose b c → Rose a c
rose_before a b c l r = omega (arith, l, r)

pub not_yet : {L : Type 0} → (model : LinkView L) (t : State) (a : Action) (old : L) (fed : Feed)
    → IsRun model t a old fed t a old fed
not_yet model t a old fed = record {
  turns = [];
  units = [];
  octets = [];
  runs = Not_yet;
  carried = λ since us os c.
      subst (λ (x : List AnyUnit). Leads (Carried x (os ++ []) fed) since (model.talk old)) (sym (append-nil us))
      (subst (λ (x : List ℕ). Leads (Carried us x fed) since (model.talk old)) (sym (append-nil os)) c);
  done = (refl, refl);
}

-- units behind units, and octets behind octets
carried_both : (since : Option Talk) (us vs ws : List AnyUnit) (os ps qs : List ℕ) (feed : Feed) (now : Option Talk)
    → Leads (Carried ((us ++ vs) ++ ws) ((os ++ ps) ++ qs) feed) since now
    → Leads (Carried (us ++ (vs ++ ws)) (os ++ (ps ++ qs)) feed) since now
carried_both since us vs ws os ps qs feed now c =
    subst (λ (x : List AnyUnit). Leads (Carried x (os ++ (ps ++ qs)) feed) since now) (append_assoc us vs ws)
    (subst (λ (x : List ℕ). Leads (Carried ((us ++ vs) ++ ws) x feed) since now) (append_assoc os ps qs) c)

pub one_more : {L : Type 0} → (model : LinkView L) (t : State) (a : Action) (old : L) (fed : Feed) (u : State)
    (b : Action) (mid : L) (half : Feed) (e : Event) (c : Action) (v : State) (new : L) (feed : Feed) →
    IsRun model t a old fed u b mid half → HasDone model b mid half e new feed
    → IsTurn (record { before = u; event = e; action = c; after = v }) →
    model.faults old ≤ model.faults mid → model.faults mid ≤ model.faults new → IsRun model t a old fed v c new feed
one_more model t a old fed u b mid half e c v new feed r h turn l m =
    let k = done_carries model b mid half e new feed h in
    record {
      turns = r.turns ++ record { before = u; event = e; action = c; after = v } ∷ [];
      units = r.units ++ units_of e;
      octets = r.octets ++ k.0;
      runs =
          Goes_on r.turns r.units r.octets u b e c v k.0
          (runs_later _ _ t a r.turns r.units r.octets u b
          (λ y. rose_after (model.faults old) (model.faults mid) (model.faults new) m y) r.runs)
          turn k.1 (λ i. rose_before (model.faults old) (model.faults mid) (model.faults new) l (k.2 i));
      carried = λ since us os y. carried_both since us r.units (units_of e) os r.octets k.0 feed (model.talk new)
          (k.3 since (us ++ r.units) (os ++ r.octets) (r.carried since us os y));
      done =
          done_more model r.turns a b old fed mid half (record { before = u; event = e; action = c; after = v })
          new feed (runs_last _ t a r.turns r.units r.octets u b r.runs) r.done h m;
    }

-- the calls of a session, and one more
calls_more : (xs : List Turn) (t u : State) (x : Turn) → AreCalls t xs u → x.before ≡ u → IsTurn x
    → AreCalls t (xs ++ x ∷ []) x.after
calls_more [] t u x run e is = (e ∙ run, is, refl)
calls_more (y ∷ ys) t u x run e is = (run.0, run.1, calls_more ys y.after u x run.2 e is)

pub called_more : (t : State) (b : Action) (e : Event) (a : Action) (u : State) → IsCalled t b → TellsWritable t e
    → HasTold t e a u → IsCalled u a
called_more t b e a u k w h =
    let x : Turn = record { before = t; event = e; action = a; after = u } in
    let calls : AreCalls k.first (k.turns ++ x ∷ []) u = calls_more k.turns k.first t x k.calls refl h.turn in
    let wrote = h.writes k.writes w in
    record {
      first = k.first;
      turns = k.turns ++ x ∷ [];
      new = k.new;
      calls = calls;
      writes = wrote.0;
      writable = wrote.1;
      awaited = h.awaited k.first k.turns k.new calls;
    }

pub stopped : {L : Type 0} → (model : LinkView L) (t : State) (a : Action) (old : L) (fed : Feed) (u : State)
    (b : Action) (mid : L) (half : Feed) (new : L) → IsRun model t a old fed u b mid half
    → model.faults mid ≤ model.faults new → IsShort model u b mid half new → HasStopped model t a old fed u new
stopped model t a old fed u b mid half new r m why = record {
  turns = r.turns;
  units = r.units;
  octets = r.octets;
  last = b;
  runs = runs_later _ _ t a r.turns r.units r.octets u b
      (λ y. rose_after (model.faults old) (model.faults mid) (model.faults new) m y) r.runs;
  mid = mid;
  mid_fed = half;
  carried = r.carried;
  done = r.done;
  short = why;
}

-- there was no memory at the link for its action
pub stopped_there : {L : Type 0} → (model : LinkView L) (t : State) (a : Action) (old : L) (fed : Feed) (u : State)
    (b : Action) (mid : L) (half : Feed) (new : L) → IsRun model t a old fed u b mid half
    → model.faults mid ≤ model.faults new → IsUndone model b mid half new → HasStopped model t a old fed u new
stopped_there model t a old fed u b mid half new r m undone =
    stopped model t a old fed u b mid half new r m (Not_done undone)

runs_calls : (failed : Type 0) (t : State) (a : Action) (xs : List Turn) (us : List AnyUnit) (os : List ℕ) (u : State)
    (b : Action) → Runs failed t a xs us os u b → AreCalls t xs u
runs_calls failed t a xs us os u b Not_yet = refl
runs_calls failed t a xs us os u b (Goes_on ys vs ps w d e c v piece r turn put cut) =
    calls_more ys t w (record { before = w; event = e; action = c; after = v })
    (runs_calls failed t a ys vs ps w d r) refl turn

pub runs_are_calls : RunsAreCalls
runs_are_calls before now t a xs us os u b r = runs_calls (Rose before now) t a xs us os u b r

pub told_so : (t : State) (e : Event) (a : Action) (u : State) → Fits t → t.send.heard ≡ None → Answers t e
    → StepsTo t e (Ok a) u → Fits u → PutsMayBeWritten → ActionsAreAwaited → HasTold t e a u
told_so t e a u f h k s g writes waits = record {
  turn = record { fits = f; heard = h; answers = k; follows = s.0; fits_after = g };
  falls = s.1;
  writes = λ w y. writes t e a u f g w y s.0;
  awaited = λ first turns n run. waits first u turns (record { before = t; event = e; action = a; after = u }) n run;
}

-- What comes of an action, by which kind it is ---------------------------------------------

pub told_done : {L : Type 0} → (model : LinkView L) (b : Action) (mid : L) (half : Feed) (d : Done) (e : Event)
    (new : L) (feed : Feed) → d ≡ done.Told e → Exchanged model b mid half d new feed
    → HasDone model b mid half e new feed
told_done model b mid half d e new feed i h = subst (λ (z : Done). Exchanged model b mid half z new feed) i h

pub came_so : {L : Type 0} → (model : LinkView L) (t : State) (a : Action) (old : L) (fed : Feed) (u : State)
    (b : Action) (mid : L) (half : Feed) (d : Done) (x : Came) (new : L) (feed : Feed) →
    d ≡ done.Came x → Exchanged model b mid half d new feed → IsRun model t a old fed u b mid half → IsCalled u b
    → HasRun model t a old fed x u new feed
came_so {L} model t a old fed u b mid half d x new feed i h r k =
    let at : (b ≡ action_of x) × (new ≡ mid) × (feed ≡ half) =
    subst (λ (z : Done). Exchanged model b mid half z new feed) i h in
    let here : IsRun model t a old fed u b mid feed =
    subst (λ (z : Feed). IsRun model t a old fed u b mid z) (sym at.2) r in
    let there : IsRun model t a old fed u b new feed =
    subst (λ (z : L). IsRun model t a old fed u b z feed) (sym at.1) here in
    record {
      run = subst (λ (z : Action). IsRun model t a old fed u z new feed) at.0 there;
      called = subst (λ (z : Action). IsCalled u z) at.0 k;
    }

-- the session was not told what came of its action
pub stopped_still : {L : Type 0} → (model : LinkView L) (t : State) (a : Action) (old : L) (fed : Feed) (u : State)
    (b : Action) (mid : L) (half : Feed) (e : Event) (v : State) (new : L) (feed : Feed) →
    v ≡ u → IsRun model t a old fed u b mid half → model.faults mid ≤ model.faults new
    → HasDone model b mid half e new feed → Answers u e → HasStopped model t a old fed v new
stopped_still model t a old fed u b mid half e v new feed same r m h k =
    subst (λ (z : State). HasStopped model t a old fed z new) (sym same)
    (stopped model t a old fed u b mid half new r m (Not_told e feed h k))

-- What the link gave then -------------------------------------------------------------------

-- the calls so far, and nothing of their last action
pub kept_there : {L : Type 0} → (model : LinkView L) (t : State) (a : Action) (old : L) (fed : Feed) (u : State)
    (b : Action) (mid : L) (half : Feed) (new : L) (feed : Feed) → IsRun model t a old fed u b mid half
    → ((since : Option Talk) (us : List AnyUnit) (octets : List ℕ)
    → Leads (Carried us octets half) since (model.talk mid) → Leads (Carried us octets feed) since (model.talk new))
    → HasKept model old fed new feed
kept_there model t a old fed u b mid half new feed r kept = record {
  units = r.units;
  octets = r.octets;
  carried = λ since us os y. kept since (us ++ r.units) (os ++ r.octets) (r.carried since us os y);
}

-- and an event that the session was not told
pub kept_still : {L : Type 0} → (model : LinkView L) (t : State) (a : Action) (old : L) (fed : Feed) (u : State)
    (b : Action) (mid : L) (half : Feed) (e : Event) (new : L) (feed : Feed) → IsRun model t a old fed u b mid half
    → HasDone model b mid half e new feed → HasKept model old fed new feed
kept_still model t a old fed u b mid half e new feed r h =
    let k = done_carries model b mid half e new feed h in
    record {
      units = r.units ++ units_of e;
      octets = r.octets ++ k.0;
      carried = λ since us os y. carried_both since us r.units (units_of e) os r.octets k.0 feed (model.talk new)
          (k.3 since (us ++ r.units) (os ++ r.octets) (r.carried since us os y));
    }

-- whatever was answered
pub on_err : {A E : Type 0} (X : Type 0) (r : Result A E) → X → OnErr r X
on_err X (Ok a) x = tt
on_err X (Err e) x = x
