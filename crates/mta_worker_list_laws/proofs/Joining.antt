-- Calls that follow calls.
use Rattle.std.proofs.Common.{◌≡◌, ℕ, Bool, List, [], ◌∷◌, ◌++◌, refl, sym, ap, subst, ◌∙◌, append_assoc, append-nil}
use Rattle.mta_links.specs.Links.{LinkView}
use Rattle.mta_links.specs.Links as link
use Rattle.mta_units.specs.Feed.{Feed}
use Rattle.mta_units.specs.declared.unit.Unit.{Unit as AnyUnit}
use Rattle.mta_session_run.specs.Carried.{Carried}
use Rattle.mta_transfer_rules.specs.Lanes.{Seen}
use Rattle.mta_session.specs.State.{State}
use Rattle.mta_session.specs.declared.event.Action.{Action}
use Rattle.mta_session_laws.specs.Runs.{Turn}
use Rattle.mta_session_laws.specs.Whole.{AreCalls}
use Rattle.mta_session_list_laws.specs.Calls.{Call, turns_of, action_of}
use Rattle.mta_session_list_laws.specs.Over.{seen_of}
use Rattle.mta_session_list_laws.specs.Standing.{AllComeTrue}
use Rattle.mta_session_run.specs.Running.{units_of}
use Rattle.mta_worker_list_laws.specs.Leads.{AreCarried, got_in, Leads, made_by, made_in, PutIn}

turns_more : (cs ds : List Call) → turns_of (cs ++ ds) ≡ turns_of cs ++ turns_of ds
turns_more [] ds = refl
turns_more (c ∷ cs) ds = ap (λ (xs : List Turn). c.turn ∷ xs) (turns_more cs ds)

calls_more : (xs ys : List Turn) (t u v : State) → AreCalls t xs u → AreCalls u ys v → AreCalls t (xs ++ ys) v
calls_more [] ys t u v a b = subst (λ (z : State). AreCalls z ys v) a b
calls_more (x ∷ xs) ys t u v a b = (a.0, a.1, calls_more xs ys x.after u v a.2 b)

pub action_more : (cs ds : List Call) (a : Action) → action_of a (cs ++ ds) ≡ action_of (action_of a cs) ds
action_more [] ds a = refl
action_more (c ∷ cs) ds a = action_more cs ds c.turn.action

pub seen_more : (cs ds : List Call) (from : ℕ) → seen_of from (cs ++ ds) ≡ seen_of (seen_of from cs) ds
seen_more [] ds from = refl
seen_more (c ∷ cs) ds from = seen_more cs ds c.seen

module _ (spells : List ℕ → Bool) (history : List Seen) where
  true_more : (cs ds : List Call) (from : ℕ) (a : Action) → AllComeTrue spells history from a cs
      → AllComeTrue spells history (seen_of from cs) (action_of a cs) ds → AllComeTrue spells history from a (cs ++ ds)
  true_more [] ds from a first rest = rest
  true_more (c ∷ cs) ds from a first rest = (first.0, true_more cs ds c.seen c.turn.action first.1 rest)

  pub no_calls : (from : ℕ) (t : State) (a : Action) → Leads spells history from t a [] from t a
  no_calls from t a = record { calls_are = refl; come_true = tt; wanted = refl; seen = refl }

  pub leads_more : (cs ds : List Call) (from mid upto : ℕ) (t u v : State) (a b c : Action)
      → Leads spells history from t a cs mid u b → Leads spells history mid u b ds upto v c
      → Leads spells history from t a (cs ++ ds) upto v c
  leads_more cs ds from mid upto t u v a b c x y = record {
    calls_are =
        subst (λ (zs : List Turn). AreCalls t zs v) (sym (turns_more cs ds))
        (calls_more (turns_of cs) (turns_of ds) t u v x.calls_are y.calls_are);
    come_true =
        true_more cs ds from a x.come_true
        (subst (λ (n : ℕ). AllComeTrue spells history n (action_of a cs) ds) (sym x.seen)
        (subst (λ (z : Action). AllComeTrue spells history mid z ds) (sym x.wanted) y.come_true));
    wanted = action_more cs ds a ∙ ap (λ (z : Action). action_of z ds) x.wanted ∙ y.wanted;
    seen = seen_more cs ds from ∙ ap (λ (n : ℕ). seen_of n ds) x.seen ∙ y.seen;
  }

-- ---- entries

pub made_more : (cs ds : List Call) (n : ℕ) (a : Action)
    → made_in n a (cs ++ ds) ≡ made_in n a cs ++ made_in n (action_of a cs) ds
made_more [] ds n a = refl
made_more (c ∷ cs) ds n a =
    ap (λ (xs : List ℕ). made_by n c.seen a c.turn.event ++ xs) (made_more cs ds n c.turn.action)
    ∙ sym (append_assoc (made_by n c.seen a c.turn.event) (made_in n c.turn.action cs)
    (made_in n (action_of c.turn.action cs) ds))

pub owns_more : (cs ds : List Call) (n : ℕ) (a b : Action) (own mid owned : List ℕ) → action_of a cs ≡ b
    → mid ≡ own ++ made_in n a cs → owned ≡ mid ++ made_in n b ds → owned ≡ own ++ made_in n a (cs ++ ds)
owns_more cs ds n a b own mid owned is x y =
    y ∙ ap (λ (xs : List ℕ). xs ++ made_in n b ds) x ∙ append_assoc own (made_in n a cs) (made_in n b ds)
    ∙ ap (λ (z : Action). own ++ (made_in n a cs ++ made_in n z ds)) (sym is)
    ∙ ap (λ (xs : List ℕ). own ++ xs) (sym (made_more cs ds n a))

-- ---- the link

pub got_more : (cs ds : List Call) → got_in (cs ++ ds) ≡ got_in cs ++ got_in ds
got_more [] ds = refl
got_more (c ∷ cs) ds =
    ap (λ (us : List AnyUnit). units_of c.turn.event ++ us) (got_more cs ds)
    ∙ sym (append_assoc (units_of c.turn.event) (got_in cs) (got_in ds))

pub put_more : (cs ds : List Call) (a : Action) (os ps : List ℕ) → PutIn a cs os → PutIn (action_of a cs) ds ps
    → PutIn a (cs ++ ds) (os ++ ps)
put_more [] ds a os ps x y = subst (λ (zs : List ℕ). PutIn a ds (zs ++ ps)) (sym x) y
put_more (c ∷ cs) ds a os ps x y = (
  x.0,
  x.1 ++ ps,
  x.2,
  put_more cs ds c.turn.action x.1 ps x.3 y,
  ap (λ (zs : List ℕ). zs ++ ps) x.4 ∙ append_assoc x.0 x.1 ps,
)

module _ {L : Type 0} (links : LinkView L) where
  pub carried_more : (cs ds : List Call) (a b : Action) (old mid new : L) (fed between feed : Feed)
      → action_of a cs ≡ b → AreCarried links a cs old fed mid between → AreCarried links b ds mid between new feed
      → AreCarried links a (cs ++ ds) old fed new feed
  carried_more cs ds a b old mid new fed between feed is x y = record {
    octets = x.octets ++ y.octets;
    put = put_more cs ds a x.octets y.octets x.put (subst (λ (z : Action). PutIn z ds y.octets) (sym is) y.put);
    carried = λ since us os l.
        subst (λ (vs : List AnyUnit). link.Leads (Carried vs (os ++ (x.octets ++ y.octets)) feed) since
        (links.talk new))
        (append_assoc us (got_in cs) (got_in ds) ∙ ap (λ (vs : List AnyUnit). us ++ vs) (sym (got_more cs ds)))
        (subst (λ (ps : List ℕ). link.Leads (Carried ((us ++ got_in cs) ++ got_in ds) ps feed) since (links.talk new))
        (append_assoc os x.octets y.octets)
        (y.carried since (us ++ got_in cs) (os ++ x.octets) (x.carried since us os l)));
  }

  -- nothing went over it
  pub none_carried : (calls : List Call) (a : Action) (old : L) (fed : Feed) → got_in calls ≡ [] → PutIn a calls []
      → AreCarried links a calls old fed old fed
  none_carried calls a old fed none put = record {
    octets = [];
    put = put;
    carried = λ since us os l.
        subst (λ (vs : List AnyUnit). link.Leads (Carried vs (os ++ []) fed) since (links.talk old))
        (sym (append-nil us) ∙ ap (λ (vs : List AnyUnit). us ++ vs) (sym none))
        (subst (λ (ps : List ℕ). link.Leads (Carried us ps fed) since (links.talk old)) (sym (append-nil os)) l);
  }
