-- All that is done for a session, one thing after another, are calls of it that the history has.
use Rattle.std.proofs.Common.{◌≡◌, ℕ, ◌+◌, ◌≤◌, Bool, List, [], ◌∷◌, ◌++◌, length, map, false, refl, sym, ap, subst}
use Rattle.std.proofs.Common.{◌∙◌, ◌⊎◌, ◌-◌, append-nil, append_assoc, inl, inr, arith, true}
use mathlib.Core.List.{IsPrefix}
use Rattle.mta_edge.specs.Causes.{Rose}
use Rattle.mta_edge.specs.Views.{ClockView, DiskView}
use Rattle.mta_links.specs.Links.{LinkView}
use Rattle.mta_links.specs.Links as link
use Rattle.mta_session_run.specs.Carried.{Carried}
use Rattle.mta_units.specs.Feed.{Feed}
use Rattle.mta_transfer_rules.specs.Lanes.{Seen}
use Rattle.mta_records.specs.declared.step.Step.{Step}
use Rattle.mta_records.specs.Body.{body_of}
use Rattle.mta_records.proofs.Records.{body_same}
use Rattle.mta_units.specs.declared.unit.Unit.{Unit as AnyUnit}
use Rattle.mta_histories.specs.History.{after, IsHistory}
use Rattle.mta_histories.specs.Lanes.{State}
use Rattle.mta_images.specs.Image.{AreRecords}
use Rattle.mta_session.specs.State.{State as Session}
use Rattle.mta_session.specs.declared.ask.Ask.{Ask}
use Rattle.mta_session.specs.declared.ask.Reply.{Reply}
use Rattle.mta_session.specs.declared.event.Event.{Event}
use Rattle.mta_session.specs.declared.event.Action.{Action}
use Rattle.mta_session.specs.declared.event.Action.TheVariants as action
use Rattle.mta_session.specs.declared.phase.Phase.{Phase}
use Rattle.mta_session_laws.specs.Runs.{IsTurn, Turn}
use Rattle.mta_session_run.specs.Running.{action_of as action_of_came, Goes_on, Not_yet, PutFor, Runs, units_of}
use Rattle.mta_session_list_laws.specs.Calls.{action_of, Call}
use Rattle.mta_session_list_laws.specs.Standing.{ComesTrue}
use Rattle.mta_shared.specs.declared.history.Base.{Base}
use Rattle.mta_shared.specs.Counts.{row}
use Rattle.mta_shared.specs.Held.{Held}
use Rattle.mta_shared.proofs.Fronts.{prefix_length, prefix_self, prefix_trans}
use Rattle.mta_spool.specs.Bases.{Keeps}
use Rattle.mta_spool.specs.Shown.{Shown}
use Rattle.mta_worker.specs.Serving.{Answers, At, Carries, Does, Goes, InTurn}
use Rattle.mta_worker.specs.Turns.{HasAnswered, Replied, told_reply}
use Rattle.mta_worker.proofs.Growing.{replied_grows}
use Rattle.mta_worker_list_laws.specs.Histories.{AreEntries, TellsApdus, place, whole}
use Rattle.mta_worker_list_laws.specs.Leads.{AreCarried, got_in, Leads, made_by, made_in, PutBy, PutIn}
use Rattle.mta_worker_list_laws.proofs.Calm.{is_calm, is_looking}
use Rattle.mta_worker_list_laws.specs.Roles.{AreGiven}
use Rattle.mta_worker_list_laws.proofs.Given.{given_more, looks_given, reply_given, unheard}
use Rattle.mta_worker_list_laws.proofs.Heard.{turn_minds}
use Rattle.mta_worker_list_laws.proofs.Joining.{carried_more, got_more, leads_more, made_more, no_calls, none_carried}
use Rattle.mta_worker_list_laws.proofs.Joining.{owns_more, put_more}
use Rattle.mta_worker_list_laws.proofs.Known.{between_knows, calm_knows, Knows}
use Rattle.mta_worker_list_laws.proofs.Turns.{calls_at, history_then, reply_stands, turn_leads}
use Rattle.mta_worker_list_laws.proofs.Waits.{calls_wait, looks_not, no_reply, run_calm, run_still, Waits, waits_next}

-- ---- the history that opening gave

front_records : (xs ys : List Step) → AreRecords (xs ++ ys) → AreRecords xs
front_records [] ys each = tt
front_records (x ∷ xs) ys each = (each.0, front_records xs ys each.1)

same_steps : (xs ys : List Step) → AreRecords xs → AreRecords ys → map body_of xs ≡ map body_of ys → xs ≡ ys
same_steps [] [] fits fit e = refl
same_steps [] (y ∷ ys) fits fit e = absurd cc
same_steps (x ∷ xs) [] fits fit e = absurd cc
same_steps (x ∷ xs) (y ∷ ys) fits fit e =
    let here : body_of x ≡ body_of y = cc in
    let behind : map body_of xs ≡ map body_of ys = cc in
    let first : x ≡ y = body_same x y fits.0 fit.0 here in
    let rest : xs ≡ ys = same_steps xs ys fits.1 fit.1 behind in
    cc

module _ {D C : Type 0} (disks : DiskView D) (clocks : ClockView C) where
  -- the spool's state under a base is the one behind the entries of the lock
  pub state_then : (s : Shown D C) (base : Base) (first entries : List Step) → Keeps disks clocks s base
      → AreEntries base first entries → s.current ≡ after (first ++ s.entries)
  state_then s base first entries k e =
      let same : k.first ≡ first =
      same_steps k.first first (front_records k.first s.entries k.each) (front_records first entries e.each)
      (k.found ∙ sym e.found) in
      k.state ∙ ap (λ (xs : List Step). after (xs ++ s.entries)) same

  -- ---- a turn of the lock

  pub turn_grows : (done : Shown D C → Shown D C → Type 0) (p q : Held Step)
      → ((s t : Shown D C) → done s t → IsPrefix s.entries t.entries) → InTurn disks clocks done p q
      → IsPrefix p.seen q.seen
  turn_grows done p q grow i =
      subst (λ (xs : List Step). IsPrefix p.seen xs) (sym (ap (λ (h : Held Step). h.seen) i.left))
      (prefix_trans p.seen i.before.entries i.after.entries i.begins (grow i.before i.after i.did))

  pub turn_base : (done : Shown D C → Shown D C → Type 0) (p q : Held Step) → InTurn disks clocks done p q
      → q.base ≡ p.base
  turn_base done p q i = ap (λ (h : Held Step). h.base) i.left

-- what a session knows of its lane it knows in a later state too
pub since_knows : {D C : Type 0} (t : Session) (first seen : List Step) (s : Shown D C) → IsPrefix seen s.entries
    → IsHistory (first ++ s.entries) → s.current ≡ after (first ++ s.entries) → is_looking t.phase ≡ false
    → Knows t (after (first ++ seen)) → Knows t s.current
since_knows t first seen s front history state calm k =
    let parts : (first ++ seen) ++ front.0 ≡ first ++ s.entries =
    append_assoc first seen front.0 ∙ ap (λ (xs : List Step). first ++ xs) front.1 in
    subst (λ (z : State). Knows t z) (sym state)
    (subst (λ (xs : List Step). Knows t (after xs)) parts
    (between_knows t (first ++ seen) front.0 (subst (λ (xs : List Step). IsHistory xs) (sym parts) history) calm k))

-- ---- a session that is carried on

-- what was put for an action, and what comes of it
put_true : (spells : List ℕ → Bool) (history : List Seen) (n : ℕ) (p : Phase) (b : Action) (e : Event)
    (piece : List ℕ) → PutFor b e piece → ComesTrue spells history n n p b e
put_true spells history n p (action.Ask q) e piece f = absurd f
put_true spells history n p any4 e piece f = refl

put_by : (b : Action) (e : Event) (piece : List ℕ) → PutFor b e piece → PutBy b e piece
put_by (action.Ask q) e piece f = absurd f
put_by (action.Finish x) e piece f = absurd f
put_by any0 e piece f = f

none_made : (n seen : ℕ) (b : Action) (e : Event) (piece : List ℕ) → PutFor b e piece → made_by n seen b e ≡ []
none_made n seen (action.Ask q) e piece f = absurd f
none_made n seen any2 e piece f = refl

module _ (spells : List ℕ → Bool) (history : List Seen) (n : ℕ) where
  -- the calls of a session that was carried on: no entry is made in them, and no lane is given
  pub record Ran (k : ℕ) (t : Session) (a : Action) (us : List AnyUnit) (octets : List ℕ) (u : Session) (b : Action)
      : Type 0 where
    pub calls : List Call
    pub leads : Leads spells history k t a calls k u b
    pub got : got_in calls ≡ us
    pub put : PutIn a calls octets
    pub made : made_in n a calls ≡ []
    pub given : (steps : List Step) → AreGiven steps calls
    pub waits : Waits b u
    pub still : is_looking u.phase ≡ false
    -- where it was told anything, it is not about to bind a lane
    pub left : (u ≡ t) ⊎ (is_calm u.phase ≡ true)

  -- one call more
  ran_more : (k : ℕ) (t v w : Session) (a c d : Action) (e : Event) (us : List AnyUnit) (octets piece : List ℕ)
      → Ran k t a us octets v c → IsTurn (record { before = v; event = e; action = d; after = w }) → PutFor c e piece
      → Ran k t a (us ++ units_of e) (octets ++ piece) w d
  ran_more k t v w a c d e us octets piece x turn put =
      let call : Call = record { turn = record { before = v; event = e; action = d; after = w }; seen = k } in
      let last : action_of a x.calls ≡ c = x.leads.wanted in
      let one_put : PutIn c (call ∷ []) piece = (piece, [], put_by c e piece put, refl, sym (append-nil piece)) in
      record {
        calls = x.calls ++ call ∷ [];
        leads =
            leads_more spells history x.calls (call ∷ []) k k k t v w a c d x.leads
            (record {
              calls_are = (refl, turn, refl);
              come_true = (put_true spells history k v.phase c e piece put, tt);
              wanted = refl;
              seen = refl;
            });
        got =
            got_more x.calls (call ∷ []) ∙ ap (λ (vs : List AnyUnit). vs ++ (units_of e ++ [])) x.got
            ∙ ap (λ (vs : List AnyUnit). us ++ vs) (append-nil (units_of e));
        put =
            put_more x.calls (call ∷ []) a octets piece x.put
            (subst (λ (z : Action). PutIn z (call ∷ []) piece) (sym last) one_put);
        made =
            made_more x.calls (call ∷ []) n a
            ∙ ap (λ (ns : List ℕ). ns ++ (made_by n k (action_of a x.calls) e ++ [])) x.made
            ∙ append-nil (made_by n k (action_of a x.calls) e)
            ∙ ap (λ (z : Action). made_by n k z e) last ∙ none_made n k c e piece put;
        given = λ steps.
            given_more steps x.calls (call ∷ []) (x.given steps)
            (unheard steps call.turn k (no_reply c e piece v put x.waits.waits turn.answers));
        waits = waits_next call.turn turn x.waits.due;
        still = run_still call.turn c piece turn x.waits x.still put;
        left = inr (run_calm call.turn c piece turn x.waits x.still put);
      }

  pub run_ran : (failed : Type 0) (k : ℕ) (t : Session) (a : Action) (xs : List Turn) (us : List AnyUnit)
      (octets : List ℕ) (u : Session) (b : Action) → Waits a t → is_looking t.phase ≡ false
      → Runs failed t a xs us octets u b → Ran k t a us octets u b
  run_ran failed k t a xs us octets u b w i Not_yet = record {
    calls = [];
    leads = no_calls spells history k t a;
    got = refl;
    put = refl;
    made = refl;
    given = λ steps. tt;
    waits = w;
    still = i;
    left = inl refl;
  }
  run_ran failed k t a xs us octets u b w i (Goes_on ys vs os v c e d x piece r turn put cut) =
      ran_more k t v x a c d e vs os piece (run_ran failed k t a ys vs os v c w i r) turn put

-- ---- one thing after another

module _ {D C L : Type 0} (disks : DiskView D) (clocks : ClockView C) (links : LinkView L) where
  pub answers_grow : (q : Ask) (t : Session) (s s' : Shown D C) (x : Reply) → Replied disks clocks q t s x s'
      → IsPrefix s.entries s'.entries
  answers_grow q t s s' x r =
      elim (replied_grows disks clocks q t s x s' r) [
        | inl e ↦ subst (λ (xs : List Step). IsPrefix s.entries xs) (sym e) (prefix_self s.entries)
        | inr more ↦ subst (λ (xs : List Step). IsPrefix s.entries xs) (sym more.1) (more.0 ∷ [], refl)
      ]

  pub does_grow : (x z : At L) → Does disks clocks links x z → IsPrefix x.pass.seen z.pass.seen
  does_grow x z (Carries came run wanted pass halt) =
      subst (λ (h : Held Step). IsPrefix x.pass.seen h.seen) (sym pass) (prefix_self x.pass.seen)
  does_grow x z (Answers q asks i link feed) =
      turn_grows disks clocks
      (λ s s'. HasAnswered disks clocks q s x.session x.halt s' z.session z.action z.halt) x.pass z.pass
      (λ s s' h. answers_grow q x.session s s' h.answer h.replied) i

  pub does_base : (x z : At L) → Does disks clocks links x z → z.pass.base ≡ x.pass.base
  does_base x z (Carries came run wanted pass halt) = ap (λ (h : Held Step). h.base) pass
  does_base x z (Answers q asks i link feed) =
      turn_base disks clocks
      (λ s s'. HasAnswered disks clocks q s x.session x.halt s' z.session z.action z.halt) x.pass z.pass i

  pub goes_grow : (x : At L) (zs : List (At L)) (y : At L) → Goes disks clocks links x zs y
      → IsPrefix x.pass.seen y.pass.seen
  goes_grow x [] y g = subst (λ (z : At L). IsPrefix x.pass.seen z.pass.seen) (sym g) (prefix_self x.pass.seen)
  goes_grow x (z ∷ zs) y g =
      prefix_trans x.pass.seen z.pass.seen y.pass.seen (does_grow x z g.0) (goes_grow z zs y g.1)

  pub goes_base : (x : At L) (zs : List (At L)) (y : At L) → Goes disks clocks links x zs y
      → y.pass.base ≡ x.pass.base
  goes_base x [] y g = ap (λ (z : At L). z.pass.base) g
  goes_base x (z ∷ zs) y g = goes_base z zs y g.1 ∙ does_base x z g.0

  module _ (spells : List ℕ → Bool) (tells : TellsApdus spells) (first entries : List Step) where
    abbrev history : List Seen
    history = whole first entries

    -- These calls lead from the one to the other: they tell the entries that were made, and what went over the link;
    -- and the session waits for what comes of its action then, and does not look at its lane.
    pub record Reaches (x y : At L) : Type 0 where
      pub calls : List Call
      pub leads : Leads spells history (place first x.pass) x.session x.action calls (place first y.pass) y.session
          y.action
      pub owns : y.pass.own ≡ x.pass.own ++ made_in (length first) x.action calls
      pub given : AreGiven (first ++ entries) calls
      pub carried : AreCarried links x.action calls x.link x.feed y.link y.feed
      pub waits : Waits y.action y.session
      pub still : is_looking y.session.phase ≡ false
      pub knows : Knows y.session (after (first ++ y.pass.seen))

    pub reaches_self : (x : At L) → Waits x.action x.session → is_looking x.session.phase ≡ false
        → Knows x.session (after (first ++ x.pass.seen)) → Reaches x x
    reaches_self x w i k = record {
      calls = [];
      leads = no_calls spells history (place first x.pass) x.session x.action;
      owns = sym (append-nil x.pass.own);
      given = tt;
      carried = none_carried links [] x.action x.link x.feed refl refl;
      waits = w;
      still = i;
      knows = k;
    }

    pub reaches_more : (x y z : At L) → Reaches x y → Reaches y z → Reaches x z
    reaches_more x y z a b = record {
      calls = a.calls ++ b.calls;
      leads =
          leads_more spells history a.calls b.calls (place first x.pass) (place first y.pass) (place first z.pass)
          x.session y.session z.session x.action y.action z.action a.leads b.leads;
      owns =
          owns_more a.calls b.calls (length first) x.action y.action x.pass.own y.pass.own z.pass.own a.leads.wanted
          a.owns b.owns;
      given = given_more (first ++ entries) a.calls b.calls a.given b.given;
      carried =
          carried_more links a.calls b.calls x.action y.action x.link y.link z.link x.feed y.feed z.feed a.leads.wanted
          a.carried b.carried;
      waits = b.waits;
      still = b.still;
      knows = b.knows;
    }

    does_led : (x z : At L) → AreEntries x.pass.base first entries → Waits x.action x.session
        → is_looking x.session.phase ≡ false → Knows x.session (after (first ++ x.pass.seen))
        → Does disks clocks links x z → IsPrefix z.pass.seen entries → Reaches x z
    does_led x z are w calm k (Carries came carried_on wanted pass halt) front =
        let n : ℕ = place first x.pass in
        let run = carried_on.run in
        let ran = run_ran spells history (length first) (Rose (links.faults x.link) (links.faults z.link)) n x.session
        x.action run.turns run.units run.octets z.session (action_of_came came) w calm run.runs in
        let made : x.pass.own ++ made_in (length first) x.action ran.calls ≡ x.pass.own =
        ap (λ (ns : List ℕ). x.pass.own ++ ns) ran.made ∙ append-nil x.pass.own in
        record {
          calls = ran.calls;
          leads =
              subst (λ (h : Held Step). Leads spells history n x.session x.action ran.calls (place first h) z.session
              z.action) (sym pass)
              (subst (λ (b : Action). Leads spells history n x.session x.action ran.calls n z.session b) (sym wanted)
              ran.leads);
          owns = ap (λ (h : Held Step). h.own) pass ∙ sym made;
          given = ran.given (first ++ entries);
          carried = record {
            octets = run.octets;
            put = ran.put;
            carried = λ since us os l.
                subst (λ (vs : List AnyUnit). link.Leads (Carried (us ++ vs) (os ++ run.octets) z.feed) since
                (links.talk z.link)) (sym ran.got) (run.carried since us os l);
          };
          waits = subst (λ (b : Action). Waits b z.session) (sym wanted) ran.waits;
          still = ran.still;
          knows =
              elim ran.left [
                | inl same ↦ subst (λ (h : Held Step). Knows z.session (after (first ++ h.seen))) (sym pass)
                    (subst (λ (t : Session). Knows t (after (first ++ x.pass.seen))) (sym same) k)
                | inr still ↦ calm_knows z.session.phase z.session (after (first ++ z.pass.seen)) still
              ];
        }
    does_led x z are w calm k (Answers q asks i same_link same_feed) front =
        let n : ℕ = place first x.pass in
        let left : z.pass.seen ≡ i.after.entries = ap (λ (h : Held Step). h.seen) i.left in
        let owned : z.pass.own
        ≡ x.pass.own ++ row (length i.before.entries) (length i.after.entries - length i.before.entries) =
        ap (λ (h : Held Step). h.own) i.left in
        let behind : IsPrefix i.after.entries entries = subst (λ (xs : List Step). IsPrefix xs entries) left front in
        let state = state_then disks clocks i.before x.pass.base first entries i.keeps are in
        let long : length x.pass.seen ≤ length i.before.entries =
        prefix_length x.pass.seen i.before.entries i.begins in
        let led = turn_leads disks clocks spells tells first entries are.possible q x.session x.halt i.before i.after
        z.session z.action z.halt n state behind (omega (arith, long)) calm i.did in
        let there : ℕ = length first + length i.after.entries in
        let waits : Waits (action.Ask q) x.session = subst (λ (b : Action). Waits b x.session) asks w in
        let waits_then : Waits z.action z.session =
        subst (λ (b : Action). Waits b z.session) led.leads.wanted
        (calls_wait led.calls (action.Ask q) x.session z.session waits led.leads.calls_are) in
        let before : IsPrefix i.before.entries entries =
        prefix_trans i.before.entries i.after.entries entries
        (answers_grow q x.session i.before i.after i.did.answer i.did.replied) behind in
        let knew : Knows x.session i.before.current =
        since_knows x.session first x.pass.seen i.before i.begins
        (history_then disks clocks spells tells first entries are.possible i.before before) state calm k in
        let minds = turn_minds disks clocks spells tells first entries are.possible q x.session x.halt i.before i.after
        z.session z.action z.halt state behind (record { waits = waits; knows = knew }) i.did in
        let stands = reply_stands disks clocks spells tells first entries are.possible q x.session i.did.answer i.before
        i.after state behind i.did.replied in
        record {
          calls = led.calls;
          leads =
              subst (λ (xs : List Step). Leads spells history n x.session x.action led.calls (length first + length xs)
              z.session z.action) (sym left)
              (subst (λ (b : Action). Leads spells history n x.session b led.calls
              (length first + length i.after.entries) z.session z.action) (sym asks) led.leads);
          owns =
              owned ∙ ap (λ (ns : List ℕ). x.pass.own ++ ns) (sym led.quiet.made)
              ∙ ap (λ (b : Action). x.pass.own ++ made_in (length first) b led.calls) (sym asks);
          given =
              given_more (first ++ entries) (record {
                turn = told_reply x.session i.did.answer i.did.wanted i.did.heard;
                seen = there;
              } ∷ []) (calls_at there i.did.looked.turns)
              (reply_given disks clocks spells tells first entries are.possible q x.session i.did.answer i.did.wanted
              i.did.heard i.before i.after there state behind (record { waits = waits; knows = knew }) i.did.replied
              i.did.told)
              (looks_given disks clocks (first ++ entries) i.did.looked.turns i.after i.did.heard i.did.wanted z.session
              z.action there i.did.looked.looks);
          carried =
              subst (λ (b : Action). AreCarried links b led.calls x.link x.feed z.link z.feed) (sym asks)
              (subst (λ (l : L). AreCarried links (action.Ask q) led.calls x.link x.feed l z.feed) (sym same_link)
              (subst (λ (f : Feed). AreCarried links (action.Ask q) led.calls x.link x.feed x.link f) (sym same_feed)
              (none_carried links led.calls (action.Ask q) x.link x.feed led.quiet.got led.quiet.put)));
          waits = waits_then;
          still = looks_not z.action z.session waits_then i.did.all_looked;
          knows =
              subst (λ (xs : List Step). Knows z.session (after (first ++ xs))) (sym left)
              (subst (λ (s : State). Knows z.session s) stands.state minds.knows);
        }

    pub goes_led : (x : At L) (zs : List (At L)) (y : At L) → AreEntries x.pass.base first entries
        → Waits x.action x.session → is_looking x.session.phase ≡ false
        → Knows x.session (after (first ++ x.pass.seen)) → Goes disks clocks links x zs y
        → IsPrefix y.pass.seen entries → Reaches x y
    goes_led x [] y are w calm k g front = subst (λ (z : At L). Reaches x z) (sym g) (reaches_self x w calm k)
    goes_led x (z ∷ zs) y are w calm k g front =
        let grown_on = goes_grow z zs y g.1 in
        let one = does_led x z are w calm k g.0 (prefix_trans z.pass.seen y.pass.seen entries grown_on front) in
        let base : z.pass.base ≡ x.pass.base = does_base x z g.0 in
        reaches_more x z y one
        (goes_led z zs y (subst (λ (b : Base). AreEntries b first entries) (sym base) are) one.waits one.still
        one.knows g.1 front)
