-- Tables that are read are whole.
use Rattle.std.proofs.Common.{◌≡◌, ℕ, ◌+◌, ◌<◌, ◌≤◌, Bool, true, false, List, [], ◌∷◌, ◌++◌, length, Option, Some, None}
use Rattle.std.proofs.Common.{Ok, refl, sym, ap, subst, ◌∙◌, ◌⊎◌, inl, inr, arith, append_assoc, append-nil}
use Rattle.std.proofs.Common.{length-append}
use Rattle.std.specs.Prelude.{map, slice_get, All}
use Rattle.std.proofs.lemmas.List.Elements.{All-head, All-tail}
use Rattle.std.specs.List.{position, Any}
use Rattle.std.specs.Str.{bytes_eq}
use Rattle.std.proofs.lemmas.Bool.{cases_Bool, cases_lt}
use Rattle.std.proofs.lemmas.List.{length-map}
use Rattle.std.proofs.lemmas.Slice.Eq.{bytes_eq-Decides}
use Rattle.mta_names.specs.declared.attributes.Attributes.{Attributes}
use Rattle.mta_names.specs.Normal.{IsSameName}
use Rattle.mta_tables.specs.declared.draft.Draft.{Draft}
use Rattle.mta_tables.specs.declared.entry.Mailbox.{Mailbox}
use Rattle.mta_tables.specs.declared.entry.MailList.{MailList}
use Rattle.mta_tables.specs.declared.entry.Peer.{Peer}
use Rattle.mta_tables.specs.declared.entry.Route.{Route}
use Rattle.mta_tables.specs.declared.entry.Target.{Target}
use Rattle.mta_tables.specs.declared.entry.Target.TheVariants as Targets
use Rattle.mta_tables.specs.declared.line.Grade.{Grade}
use Rattle.mta_tables.specs.declared.line.Grade.TheVariants as Grades
use Rattle.mta_tables.specs.declared.line.Line.{Line}
use Rattle.mta_tables.specs.declared.line.Line.TheVariants as Said
use Rattle.mta_tables.specs.declared.line.ListHead.{ListHead}
use Rattle.mta_tables.specs.Grammar.{Words, HoldLine, peers_of, mailboxes_of, lists_of, routes_of, is_grade, hold_in}
use Rattle.mta_tables.specs.Grammar.{holds_in, first_of, holds_said, HasFrom, HasMembers, MayFollow, CanStand, said_by}
use Rattle.mta_tables.specs.Grammar.{Row, IsRow, Mean, IsTablesText}
use Rattle.mta_tables.specs.Reading.{has_peer_word, has_list_word, added, holding, or_usual, opened, permitted, joined}
use Rattle.mta_tables.specs.Reading.{to_place, target_of, route_to}
use Rattle.mta_tables.specs.Sameness.{IsSamePattern}
use Rattle.mta_tables.specs.Tables.{TablesValue, tables_of}
use Rattle.mta_tables.specs.Whole.{IsAt, AreApart, IsPeerWord, IsMailboxWord, IsMailboxName, IsListWord, IsListName}
use Rattle.mta_tables.specs.Whole.{IsRoutePattern, IsTarget, AreHolds, AreTables}
use Rattle.mta_tables.proofs.Grammars.{tables_found}
use Rattle.mta_tables.proofs.Standing.{draft_of, added_is}
use Rattle.mta_tables.proofs.Places.{position_within, at_more, any_at, apart_more, at_mapped, apart_mapped}

-- ---- what every text of lines keeps

pub record ArePeers (ps : List Peer) : Type 0 where
  pub few : length ps ≤ 64
  pub words : AreApart IsPeerWord ps

pub record AreMailboxes (ms : List Mailbox) : Type 0 where
  pub few : length ms ≤ 4096
  pub words : AreApart IsMailboxWord ms
  pub names : AreApart IsMailboxName ms

pub record AreLists (ls : List MailList) : Type 0 where
  pub few : length ls ≤ 256
  pub few_from : (i : ℕ) (l : MailList) → IsAt ls i l → length l.from ≤ 100
  pub few_members : (i : ℕ) (l : MailList) → IsAt ls i l → length l.members ≤ 1000
  pub words : AreApart IsListWord ls
  pub names : AreApart IsListName ls

abbrev AreNames : List Mailbox → List MailList → Type 0
AreNames ms ls = (i j : ℕ) (m : Mailbox) (l : MailList) → IsAt ms i m → IsAt ls j l → IsSameName m.name l.name → ⊥

pub record AreRoutes (peers : ℕ) (rs : List Route) : Type 0 where
  pub few : length rs ≤ 4096
  pub patterns : AreApart IsRoutePattern rs
  pub targets : (i : ℕ) (r : Route) → IsAt rs i r → IsTarget peers r.target

pub record IsSound (d : Draft) : Type 0 where
  pub peers : ArePeers d.peers
  pub mailboxes : AreMailboxes d.mailboxes
  pub lists : AreLists d.lists
  pub names : AreNames d.mailboxes d.lists
  pub routes : AreRoutes (length d.peers) d.routes

abbrev nothing_of : {X : Type 0} → List X
nothing_of = []

sound_at_first : IsSound (draft_of [])
sound_at_first = record {
  peers = record { few = omega arith; words = λ i j x y p q s. absurd (no_part i x p.found) };
  mailboxes = record {
    few = omega arith;
    words = λ i j x y p q s. absurd (no_part i x p.found);
    names =
        λ i j x y p q s. absurd (no_part i x p.found);
  };
  lists = record {
    few = omega arith;
    few_from = λ i l h. absurd (no_part i l h.found);
    few_members = λ i l h. absurd (no_part i l h.found);
    words = λ i j x y p q s. absurd (no_part i x p.found);
    names = λ i j x y p q s. absurd (no_part i x p.found);
  };
  names = λ i j m l p q s. absurd (no_part i m p.found);
  routes = record {
    few = omega arith;
    patterns = λ i j x y p q s. absurd (no_part i x p.found);
    targets =
        λ i r h. absurd (no_part i r h.found);
  };
}
  where
    no_part : {X : Type 0} (i : ℕ) (x : X) → slice_get (nothing_of {X = X}) i ≡ Some x → ⊥
    no_part i x e = cc

one_longer : {X : Type 0} (xs : List X) (x : X) → length (xs ++ x ∷ []) ≡ length xs + 1
one_longer xs x = length-append xs (x ∷ [])

below : (m n : ℕ) → (n ≤ m → ⊥) → m < n
below m n h = elim (cases_lt m n) [ inl l ↦ l | inr g ↦ absurd (h g) ]

-- ---- a peer, a mailbox, a list

peer_more : (ps : List Peer) (p : Peer) → ArePeers ps → (64 ≤ length ps → ⊥)
    → (Any (λ (q : Peer). q.name ≡ p.name) ps → ⊥) → ArePeers (ps ++ p ∷ [])
peer_more ps p h room none = record {
  few = (let l = below (length ps) 64 room in let n = one_longer ps p in omega arith);
  words = apart_more IsPeerWord ps p (λ q e. sym e) h.words none;
}

further : (n : ℕ) (t : Target) → IsTarget n t → IsTarget (n + 1) t
further n Targets.Here h = tt
further n (Targets.Peer place) h = omega arith

routes_further : (ps : List Peer) (p : Peer) (rs : List Route) → AreRoutes (length ps) rs
    → AreRoutes (length (ps ++ p ∷ [])) rs
routes_further ps p rs h = subst (λ n. AreRoutes n rs) (sym (one_longer ps p))
    (record { few = h.few; patterns = h.patterns; targets = λ i r a. further (length ps) r.target (h.targets i r a) })

mailbox_more : (ms : List Mailbox) (m : Mailbox) → AreMailboxes ms → (4096 ≤ length ms → ⊥)
    → (Any (λ (n : Mailbox). n.word ≡ m.word) ms → ⊥) → (Any (λ (n : Mailbox). IsSameName n.name m.name) ms → ⊥)
    → AreMailboxes (ms ++ m ∷ [])
mailbox_more ms m h room other unnamed = record {
  few = (let l = below (length ms) 4096 room in let n = one_longer ms m in omega arith);
  words = apart_more IsMailboxWord ms m (λ n e. sym e) h.words other;
  names = apart_more IsMailboxName ms m (λ n e. sym e) h.names unnamed;
}

mailbox_names : (ms : List Mailbox) (m : Mailbox) (ls : List MailList) → AreNames ms ls
    → (Any (λ (l : MailList). IsSameName l.name m.name) ls → ⊥) → AreNames (ms ++ m ∷ []) ls
mailbox_names ms m ls h unnamed i j n l p q s =
    elim (at_more ms m i n p.found) [
      | inl e ↦ h i j n l (record { found = e }) q s
      | inr e ↦ unnamed (any_at (λ (k : MailList). IsSameName k.name m.name) ls j l q.found (sym s ∙ same_list n m e.1))
    ]
  where
    same_list : (a b : Mailbox) → a ≡ b → IsSameName a.name b.name
    same_list a b e = subst (λ (c : Mailbox). IsSameName a.name c.name) e refl

list_more : (ls : List MailList) (l : ListHead) → AreLists ls → (256 ≤ length ls → ⊥)
    → (Any (λ (k : MailList). k.word ≡ l.word) ls → ⊥) → (Any (λ (k : MailList). IsSameName k.name l.name) ls → ⊥)
    → AreLists (ls ++ opened l ∷ [])
list_more ls l h room other unnamed = record {
  few = (let a = below (length ls) 256 room in let n = one_longer ls (opened l) in omega arith);
  few_from = λ i k p. from_at i k (at_more ls (opened l) i k p.found);
  few_members = λ i k p. members_at i k (at_more ls (opened l) i k p.found);
  words = apart_more IsListWord ls (opened l) (λ n e. sym e) h.words other;
  names = apart_more IsListName ls (opened l) (λ n e. sym e) h.names unnamed;
}
  where
    from_at : (i : ℕ) (k : MailList) → (slice_get ls i ≡ Some k) ⊎ ((i ≡ length ls) × (k ≡ opened l))
        → length k.from ≤ 100
    from_at i k (inl e) = h.few_from i k (record { found = e })
    from_at i k (inr e) = subst (λ (x : MailList). length x.from ≤ 100) (sym e.1) (omega arith)

    members_at : (i : ℕ) (k : MailList) → (slice_get ls i ≡ Some k) ⊎ ((i ≡ length ls) × (k ≡ opened l))
        → length k.members ≤ 1000
    members_at i k (inl e) = h.few_members i k (record { found = e })
    members_at i k (inr e) = subst (λ (x : MailList). length x.members ≤ 1000) (sym e.1) (omega arith)

list_names : (ms : List Mailbox) (l : ListHead) (ls : List MailList) → AreNames ms ls
    → (Any (λ (m : Mailbox). IsSameName m.name l.name) ms → ⊥) → AreNames ms (ls ++ opened l ∷ [])
list_names ms l ls h unnamed i j m k p q s =
    elim (at_more ls (opened l) j k q.found) [
      | inl e ↦ h i j m k p (record { found = e }) s
      | inr e ↦ unnamed (any_at (λ (n : Mailbox). IsSameName n.name l.name) ms i m p.found
          (subst (λ (x : MailList). IsSameName m.name x.name) e.1 s))
    ]

-- ---- what lists are given

permitted_word : (w : List ℕ) (p : List (List ℕ)) (l : MailList) → (permitted w p l).word ≡ l.word
permitted_word w p l = elim (cases_Bool (bytes_eq l.word w)) [ inl e ↦ rw e refl | inr e ↦ rw e refl ]

permitted_name : (w : List ℕ) (p : List (List ℕ)) (l : MailList) → (permitted w p l).name ≡ l.name
permitted_name w p l = elim (cases_Bool (bytes_eq l.word w)) [ inl e ↦ rw e refl | inr e ↦ rw e refl ]

permitted_members : (w : List ℕ) (p : List (List ℕ)) (l : MailList) → (permitted w p l).members ≡ l.members
permitted_members w p l = elim (cases_Bool (bytes_eq l.word w)) [ inl e ↦ rw e refl | inr e ↦ rw e refl ]

permitted_from : (w : List ℕ) (p : List (List ℕ)) (l : MailList) → length l.from ≤ 100 → (HasFrom w l → ⊥)
    → length (permitted w p l).from ≤ 100
permitted_from w p l h room =
    elim (cases_Bool (bytes_eq l.word w)) [
      | inl e ↦ rw e (let a = below (length l.from) 100 (λ m. room ((bytes_eq-Decides l.word w).0 e, m)) in let n =
          one_longer l.from p in omega arith)
      | inr e ↦ rw e h
    ]

joined_word : (w : List ℕ) (n : Attributes) (l : MailList) → (joined w n l).word ≡ l.word
joined_word w n l = elim (cases_Bool (bytes_eq l.word w)) [ inl e ↦ rw e refl | inr e ↦ rw e refl ]

joined_name : (w : List ℕ) (n : Attributes) (l : MailList) → (joined w n l).name ≡ l.name
joined_name w n l = elim (cases_Bool (bytes_eq l.word w)) [ inl e ↦ rw e refl | inr e ↦ rw e refl ]

joined_from : (w : List ℕ) (n : Attributes) (l : MailList) → (joined w n l).from ≡ l.from
joined_from w n l = elim (cases_Bool (bytes_eq l.word w)) [ inl e ↦ rw e refl | inr e ↦ rw e refl ]

joined_members : (w : List ℕ) (n : Attributes) (l : MailList) → length l.members ≤ 1000 → (HasMembers w l → ⊥)
    → length (joined w n l).members ≤ 1000
joined_members w n l h room =
    elim (cases_Bool (bytes_eq l.word w)) [
      | inl e ↦ rw e (let a = below (length l.members) 1000 (λ m. room ((bytes_eq-Decides l.word w).0 e, m)) in let k =
          one_longer l.members n in omega arith)
      | inr e ↦ rw e h
    ]

-- what keeps the words and the names of lists, and as many patterns and members as there may be
record Keeps (f : MailList → MailList) (ls : List MailList) : Type 0 where
  word : (l : MailList) → (f l).word ≡ l.word
  name : (l : MailList) → (f l).name ≡ l.name
  from : (i : ℕ) (l : MailList) → IsAt ls i l → length (f l).from ≤ 100
  members : (i : ℕ) (l : MailList) → IsAt ls i l → length (f l).members ≤ 1000

lists_kept : (f : MailList → MailList) (ls : List MailList) → Keeps f ls → AreLists ls → AreLists (map f ls)
lists_kept f ls k h = record {
  few = (let n = length-map ls f in let m = h.few in omega arith);
  few_from = λ i l p. (let a = at_mapped f ls i l p.found in
      subst (λ (x : MailList). length x.from ≤ 100) (sym a.1.1) (k.from i a.0 (record { found = a.1.0 })));
  few_members = λ i l p. (let a = at_mapped f ls i l p.found in
      subst (λ (x : MailList). length x.members ≤ 1000) (sym a.1.1) (k.members i a.0 (record { found = a.1.0 })));
  words = apart_mapped IsListWord f ls (λ x y s. sym (k.word x) ∙ s ∙ k.word y) h.words;
  names = apart_mapped IsListName f ls
      (λ x y s. subst (λ n. IsSameName n y.name) (k.name x) (subst (λ n. IsSameName (f x).name n) (k.name y) s))
      h.names;
}

names_kept : (f : MailList → MailList) (ms : List Mailbox) (ls : List MailList) → Keeps f ls → AreNames ms ls
    → AreNames ms (map f ls)
names_kept f ms ls k h i j m l p q s =
    let a = at_mapped f ls j l q.found in
    h i j m a.0 p (record { found = a.1.0 })
    (subst (λ n. IsSameName m.name n) (k.name a.0) (subst (λ (x : MailList). IsSameName m.name x.name) a.1.1 s))

permits : (w : List ℕ) (p : List (List ℕ)) (ls : List MailList) → AreLists ls → (Any (HasFrom w) ls → ⊥)
    → Keeps (permitted w p) ls
permits w p ls h room = record {
  word = permitted_word w p;
  name = permitted_name w p;
  from = λ i l a. permitted_from w p l (h.few_from i l a) (λ full. room (any_at (HasFrom w) ls i l a.found full));
  members = λ i l a. subst (λ (x : List Attributes). length x ≤ 1000) (sym (permitted_members w p l))
      (h.few_members i l a);
}

joins : (w : List ℕ) (n : Attributes) (ls : List MailList) → AreLists ls → (Any (HasMembers w) ls → ⊥)
    → Keeps (joined w n) ls
joins w n ls h room = record {
  word = joined_word w n;
  name = joined_name w n;
  from = λ i l a. subst (λ (x : List (List (List ℕ))). length x ≤ 100) (sym (joined_from w n l)) (h.few_from i l a);
  members = λ i l a. joined_members w n l (h.few_members i l a)
      (λ full. room (any_at (HasMembers w) ls i l a.found full));
}

-- ---- a route

placed : (ps : List Peer) (w : List ℕ) (o : Option ℕ) → position (has_peer_word w) ps ≡ o
    → IsTarget (length ps) (to_place o)
placed ps w None e = tt
placed ps w (Some i) e = position_within (has_peer_word w) ps i e

target_there : (ps : List Peer) (o : Option (List ℕ)) → IsTarget (length ps) (target_of ps o)
target_there ps None = tt
target_there ps (Some w) = placed ps w (position (has_peer_word w) ps) refl

route_more : (n : ℕ) (rs : List Route) (p : List (List ℕ)) (t : Target) → AreRoutes n rs → (4096 ≤ length rs → ⊥)
    → (Any (λ (r : Route). IsSamePattern r.pattern p) rs → ⊥) → IsTarget n t
    → AreRoutes n (rs ++ route_to p t ∷ [])
route_more n rs p t h room other there = record {
  few = (let a = below (length rs) 4096 room in let l = one_longer rs (route_to p t) in omega arith);
  patterns = apart_more IsRoutePattern rs (route_to p t) (λ r e. sym e) h.patterns other;
  targets = λ i r a. at i r (at_more rs (route_to p t) i r a.found);
}
  where
    at : (i : ℕ) (r : Route) → (slice_get rs i ≡ Some r) ⊎ ((i ≡ length rs) × (r ≡ route_to p t)) → IsTarget n r.target
    at i r (inl e) = h.targets i r (record { found = e })
    at i r (inr e) = subst (λ (x : Route). IsTarget n x.target) (sym e.1) there

-- ---- a line

held_kept : (d : Draft) (g : Grade) (n : ℕ) → IsSound d → IsSound (holding g n d)
held_kept d Grades.Urgent n h =
    record { peers = h.peers; mailboxes = h.mailboxes; lists = h.lists; names = h.names; routes = h.routes }
held_kept d Grades.Normal n h =
    record { peers = h.peers; mailboxes = h.mailboxes; lists = h.lists; names = h.names; routes = h.routes }
held_kept d Grades.NonUrgent n h =
    record { peers = h.peers; mailboxes = h.mailboxes; lists = h.lists; names = h.names; routes = h.routes }

sound_more : (said : List Line) (s : Line) → IsSound (draft_of said) → MayFollow said s
    → IsSound (added (draft_of said) s)
sound_more said Said.Nothing h f = h
sound_more said (Said.Domain d) h f =
    record { peers = h.peers; mailboxes = h.mailboxes; lists = h.lists; names = h.names; routes = h.routes }
sound_more said (Said.Name w) h f =
    record { peers = h.peers; mailboxes = h.mailboxes; lists = h.lists; names = h.names; routes = h.routes }
sound_more said (Said.Peer p) h f = record {
  peers = peer_more (peers_of said) p h.peers f.room f.first;
  mailboxes = h.mailboxes;
  lists = h.lists;
  names = h.names;
  routes = routes_further (peers_of said) p (routes_of said) h.routes;
}
sound_more said (Said.Mailbox m) h f = record {
  peers = h.peers;
  mailboxes = mailbox_more (mailboxes_of said) m h.mailboxes f.room (λ a. f.first (inl a)) (λ a. f.first (inr (inl a)));
  lists = h.lists;
  names = mailbox_names (mailboxes_of said) m (lists_of said) h.names (λ a. f.first (inr (inr a)));
  routes = h.routes;
}
sound_more said (Said.List l) h f = record {
  peers = h.peers;
  mailboxes = h.mailboxes;
  lists = list_more (lists_of said) l h.lists f.room (λ a. f.first (inl a)) (λ a. f.first (inr (inr a)));
  names = list_names (mailboxes_of said) l (lists_of said) h.names (λ a. f.first (inr (inl a)));
  routes = h.routes;
}
sound_more said (Said.From p) h f = (
    let k = permits p.word p.pattern (lists_of said) h.lists f.room in
    record {
      peers = h.peers;
      mailboxes = h.mailboxes;
      lists = lists_kept (permitted p.word p.pattern) (lists_of said) k h.lists;
      names = names_kept (permitted p.word p.pattern) (mailboxes_of said) (lists_of said) k h.names;
      routes = h.routes;
    })
sound_more said (Said.Member m) h f = (
    let k = joins m.word m.name (lists_of said) h.lists f.room in
    record {
      peers = h.peers;
      mailboxes = h.mailboxes;
      lists = lists_kept (joined m.word m.name) (lists_of said) k h.lists;
      names = names_kept (joined m.word m.name) (mailboxes_of said) (lists_of said) k h.names;
      routes = h.routes;
    })
sound_more said (Said.Route r) h f = record {
  peers = h.peers;
  mailboxes = h.mailboxes;
  lists = h.lists;
  names = h.names;
  routes = route_more (length (peers_of said)) (routes_of said) r.pattern
      (target_of (peers_of said) r.peer) h.routes f.room f.first (target_there (peers_of said) r.peer);
}
sound_more said (Said.Hold k) h f = held_kept (draft_of said) k.grade k.seconds h

sound_behind : (rest before : List Line) → IsSound (draft_of before) → CanStand (before ++ rest)
    → IsSound (draft_of (before ++ rest))
sound_behind [] before h st = subst (λ l. IsSound (draft_of l)) (sym (append-nil before)) h
sound_behind (s ∷ rest) before h st =
    let f = st before s rest refl in
    let same = append_assoc before (s ∷ []) rest in
    let one = subst IsSound (added_is before s f.first) (sound_more before s h f) in
    subst (λ l. IsSound (draft_of l)) same (sound_behind rest (before ++ s ∷ []) one (subst CanStand (sym same) st))

pub sound : (said : List Line) → CanStand said → IsSound (draft_of said)
sound said st = sound_behind said [] sound_at_first st

-- ---- hold times

abbrev IsModest : Line → Type 0
IsModest (Said.Hold h) = h.seconds ≤ 31536000
IsModest s = Unit {0}

modest_of : (words : Words) (s : Line) → Mean words s → IsModest s
modest_of (HoldLine g w) (Said.Hold h) m = m.1.most
modest_of words (Said.Hold h) m = absurd m
modest_of words s m = tt

one_held : (g : Grade) (usual : ℕ) (s : Line) (rest : List Line) → IsModest s
    → or_usual usual (first_of (holds_in g rest)) ≤ 31536000
    → or_usual usual (first_of (hold_in g s ++ holds_in g rest)) ≤ 31536000
one_held g usual (Said.Hold h) rest m r = elim (cases_Bool (is_grade g h.grade)) [ inl e ↦ rw e m | inr e ↦ rw e r ]
one_held g usual s rest m r = r

held_modest : (g : Grade) (usual : ℕ) (rows : List Row) → usual ≤ 31536000 → All IsRow rows
    → or_usual usual (first_of (holds_in g (said_by rows))) ≤ 31536000
held_modest g usual [] l a = l
held_modest g usual (row ∷ rows) l a =
    one_held g usual row.says (said_by rows) (modest_of row.words row.says (All-head IsRow row rows a).meaning)
    (held_modest g usual rows l (All-tail IsRow row rows a))

holds_modest : (rows : List Row) → All IsRow rows → AreHolds (holds_said (said_by rows))
holds_modest rows a = record {
  urgent = held_modest Grades.Urgent 14400 rows (omega arith) a;
  normal = held_modest Grades.Normal 86400 rows (omega arith) a;
  non_urgent = held_modest Grades.NonUrgent 345600 rows (omega arith) a;
}

-- ---- tables

pub are_whole : (text : List ℕ) (t : TablesValue) → tables_of text ≡ Ok t → AreTables t
are_whole text t e =
    let h = tables_found text t e in
    let s = sound (said_by h.rows) h.stand in
    let ps = subst ArePeers (sym h.said.peers) s.peers in
    let ms = subst AreMailboxes (sym h.said.mailboxes) s.mailboxes in
    let ls = subst AreLists (sym h.said.lists) s.lists in
    let ns = subst (λ l. AreNames t.mailboxes l) (sym h.said.lists)
    (subst (λ m. AreNames m (lists_of (said_by h.rows))) (sym h.said.mailboxes) s.names) in
    let rs = subst (λ r. AreRoutes (length t.peers) r) (sym h.said.routes)
    (subst (λ p. AreRoutes (length p) (routes_of (said_by h.rows))) (sym h.said.peers) s.routes) in
    record {
      few_peers = ps.few;
      few_mailboxes = ms.few;
      few_lists = ls.few;
      few_routes = rs.few;
      few_from = ls.few_from;
      few_members = ls.few_members;
      peer_words = ps.words;
      mailbox_words = ms.words;
      list_words = ls.words;
      mailbox_names = ms.names;
      list_names = ls.names;
      names = ns;
      patterns = rs.patterns;
      targets = rs.targets;
      holds = subst AreHolds (sym h.said.holds) (holds_modest h.rows h.are_rows);
    }
