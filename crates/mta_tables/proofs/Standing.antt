-- What the lines so far have said, and whether one more can stand behind them.
use Rattle.std.proofs.Common.{◌≡◌, ℕ, ◌+◌, ◌<◌, ◌≤◌, Bool, true, false, cond, leb, List, [], ◌∷◌, ◌++◌, length, Option}
use Rattle.std.proofs.Common.{Some, None, Result, Ok, Err, refl, sym, ap, subst, ◌∙◌, ◌⊎◌, ◌↔◌, inl, inr, arith}
use Rattle.std.proofs.Common.{append_assoc, append-nil, not}
use Rattle.std.specs.Prelude.{map, is_some, ◌||◌, ◌&&◌}
use Rattle.std.specs.List.{flat_map, list_any, Any}
use Rattle.std.specs.Str.{bytes_eq}
use Rattle.std.proofs.lemmas.Bool.{cases_Bool, or_cases, or_left, or_right, and_parts, and_from, leb-true, le-leb}
use Rattle.std.proofs.lemmas.Bool.{both_ways}
use Rattle.std.proofs.lemmas.List.Concat.{flat_map-append}
use Rattle.std.proofs.lemmas.List.Folds.{Any-from_list_any, list_any-from_Any}
use Rattle.std.proofs.lemmas.Slice.Eq.{bytes_eq-Decides}
use Rattle.mta_names.specs.declared.attributes.Attributes.{Attributes}
use Rattle.mta_names.specs.Normal.{is_same_name, IsSameName, is_same_texts, is_same_text, normal_text}
use Rattle.mta_names.proofs.NormalLaws.{name_decides, list_decides, text_decides}
use Rattle.mta_tables.specs.declared.draft.Draft.{Draft}
use Rattle.mta_tables.specs.declared.entry.Mailbox.{Mailbox}
use Rattle.mta_tables.specs.declared.entry.MailList.{MailList}
use Rattle.mta_tables.specs.declared.entry.Peer.{Peer}
use Rattle.mta_tables.specs.declared.entry.Route.{Route}
use Rattle.mta_tables.specs.declared.fault.LineKind.{LineKind}
use Rattle.mta_tables.specs.declared.fault.LineKind.TheVariants as Kinds
use Rattle.mta_tables.specs.declared.line.Grade.{Grade}
use Rattle.mta_tables.specs.declared.line.Grade.TheVariants as Grades
use Rattle.mta_tables.specs.declared.line.Hold.{Hold}
use Rattle.mta_tables.specs.declared.line.Line.{Line}
use Rattle.mta_tables.specs.declared.line.Line.TheVariants as Said
use Rattle.mta_tables.specs.declared.line.ListHead.{ListHead}
use Rattle.mta_tables.specs.Grammar.{domain_in, name_in, peer_in, mailbox_in, head_in, route_in, pattern_in, member_in}
use Rattle.mta_tables.specs.Grammar.{hold_in, domains_of, names_of, peers_of, mailboxes_of, patterns_for, members_for}
use Rattle.mta_tables.specs.Grammar.{holds_in, list_of, lists_of, route_behind, routes_behind, routes_of, first_of}
use Rattle.mta_tables.specs.Grammar.{HasFrom, HasMembers, IsUnknownPeer, IsUnknown, IsSaid, IsMany, MayFollow, CanStand}
use Rattle.mta_tables.specs.Reading.{nothing, has_peer_word, has_mailbox_word, has_list_word, is_of_mailbox, is_of_list}
use Rattle.mta_tables.specs.Reading.{has_pattern, held, knows_no_peer, is_unknown, is_said, is_many, is_full_from}
use Rattle.mta_tables.specs.Reading.{is_full_list, opened, permitted, joined, holding, added, add}
use Rattle.mta_tables.specs.Sameness.{IsSamePattern}

-- ---- what has been said, as the lines say it

abbrev pub draft_of : List Line → Draft
draft_of said = record {
  domain = first_of (domains_of said);
  own = first_of (names_of said);
  peers = peers_of said;
  mailboxes = mailboxes_of said;
  lists = lists_of said;
  routes = routes_of said;
  urgent = first_of (holds_in Grades.Urgent said);
  normal = first_of (holds_in Grades.Normal said);
  non_urgent = first_of (holds_in Grades.NonUrgent said);
}

-- ---- tests decide

abbrev Decides : Bool → Type 0 → Type 0
Decides b P = (b ≡ true) ↔ P

any_decides : {X : Type 0} (p : X → Bool) (P : X → Type 0) (xs : List X) → ((x : X) → Decides (p x) (P x))
    → Decides (list_any p xs) (Any P xs)
any_decides p P xs d = (
  λ e. let a = Any-from_list_any p xs e in (a.0, a.1, a.2, a.3, (d a.1).0 a.4),
  λ a. list_any-from_Any p xs (a.0, a.1, a.2, a.3, (d a.1).1 a.4),
)

or_decides : (b c : Bool) (P Q : Type 0) → Decides b P → Decides c Q → Decides (b || c) (P ⊎ Q)
or_decides b c P Q d e = (
  λ h. elim (or_cases b c h) [ inl x ↦ inl (d.0 x) | inr y ↦ inr (e.0 y) ],
  λ h. either h,
)
  where
    either : P ⊎ Q → (b || c) ≡ true
    either (inl x) = or_left _ _ (d.1 x)
    either (inr y) = or_right b _ (e.1 y)

and_decides : (b c : Bool) (P Q : Type 0) → Decides b P → Decides c Q → Decides (b && c) (P × Q)
and_decides b c P Q d e = (
  λ h. let p = and_parts b c h in (d.0 p.0, e.0 p.1),
  λ h. and_from b c (d.1 h.0) (e.1 h.1),
)

not_decides : (b : Bool) (P : Type 0) → Decides b P → Decides (not b) (P → ⊥)
not_decides true P d = (λ e. absurd cc, λ h. absurd (h (d.0 refl)))
not_decides false P d = (λ e p. absurd (both_ways false refl (d.1 p)), λ h. refl)

at_least : (m n : ℕ) → Decides (leb m n) (m ≤ n)
at_least m n = (leb-true m n, le-leb m n)

never : Decides false ⊥
never = (λ e. absurd cc, λ h. absurd h)

some_decides : {X : Type 0} (xs : List X) → Decides (is_some (first_of xs)) (0 < length xs)
some_decides [] = (λ e. absurd cc, λ h. absurd (omega arith))
some_decides (x ∷ xs) = (λ e. omega arith, λ h. refl)

same_word : (a b : List ℕ) → Decides (bytes_eq a b) (a ≡ b)
same_word a b = bytes_eq-Decides a b

same_pattern : (p q : List (List ℕ)) → Decides (is_same_texts p q) (IsSamePattern p q)
same_pattern p q = list_decides is_same_text normal_text text_decides p q

-- ---- which line may stand

named_decides : (said : List Line) (n : Attributes)
    → Decides (list_any (is_of_mailbox n) (mailboxes_of said) || list_any (is_of_list n) (lists_of said))
    (Any (λ (m : Mailbox). IsSameName m.name n) (mailboxes_of said)
    ⊎ Any (λ (l : MailList). IsSameName l.name n) (lists_of said))
named_decides said n =
    or_decides _ _ _ _ (any_decides (is_of_mailbox n) (λ (m : Mailbox). IsSameName m.name n) (mailboxes_of said)
    (λ m. name_decides m.name n))
    (any_decides (is_of_list n) (λ (l : MailList). IsSameName l.name n) (lists_of said) (λ l. name_decides l.name n))

peer_decides : (said : List Line) (word : List ℕ)
    → Decides (list_any (has_peer_word word) (peers_of said)) (Any (λ (p : Peer). p.name ≡ word) (peers_of said))
peer_decides said word = any_decides (has_peer_word word) (λ (p : Peer). p.name ≡ word) (peers_of said)
    (λ p. same_word p.name word)

list_decides_word : (said : List Line) (word : List ℕ)
    → Decides (list_any (has_list_word word) (lists_of said)) (Any (λ (l : MailList). l.word ≡ word) (lists_of said))
list_decides_word said word = any_decides (has_list_word word) (λ (l : MailList). l.word ≡ word) (lists_of said)
    (λ l. same_word l.word word)

unknown_peer_decides : (said : List Line) (o : Option (List ℕ))
    → Decides (knows_no_peer (draft_of said) o) (IsUnknownPeer said o)
unknown_peer_decides said None = never
unknown_peer_decides said (Some word) = not_decides _ _ (peer_decides said word)

pub unknown_decides : (said : List Line) (s : Line) → Decides (is_unknown (draft_of said) s) (IsUnknown said s)
unknown_decides said (Said.From f) = not_decides _ _ (list_decides_word said f.word)
unknown_decides said (Said.Member m) = not_decides _ _ (list_decides_word said m.word)
unknown_decides said (Said.Route r) = unknown_peer_decides said r.peer
unknown_decides said s = never

held_decides : (said : List Line) (g : Grade)
    → Decides (is_some (held g (draft_of said))) (0 < length (holds_in g said))
held_decides said Grades.Urgent = some_decides (holds_in Grades.Urgent said)
held_decides said Grades.Normal = some_decides (holds_in Grades.Normal said)
held_decides said Grades.NonUrgent = some_decides (holds_in Grades.NonUrgent said)

pub said_decides : (said : List Line) (s : Line) → Decides (is_said (draft_of said) s) (IsSaid said s)
said_decides said (Said.Domain d) = some_decides (domains_of said)
said_decides said (Said.Name w) = some_decides (names_of said)
said_decides said (Said.Peer p) = peer_decides said p.name
said_decides said (Said.Mailbox m) =
    or_decides _ _ _ _ (any_decides (has_mailbox_word m.word) (λ (n : Mailbox). n.word ≡ m.word) (mailboxes_of said)
    (λ n. same_word n.word m.word)) (named_decides said m.name)
said_decides said (Said.List l) = or_decides _ _ _ _ (list_decides_word said l.word) (named_decides said l.name)
said_decides said (Said.Route r) =
    any_decides (has_pattern r.pattern) (λ (q : Route). IsSamePattern q.pattern r.pattern) (routes_of said)
    (λ q. same_pattern q.pattern r.pattern)
said_decides said (Said.Hold h) = held_decides said h.grade
said_decides said s = never

pub many_decides : (said : List Line) (s : Line) → Decides (is_many (draft_of said) s) (IsMany said s)
many_decides said (Said.Peer p) = at_least 64 (length (peers_of said))
many_decides said (Said.Mailbox m) = at_least 4096 (length (mailboxes_of said))
many_decides said (Said.List l) = at_least 256 (length (lists_of said))
many_decides said (Said.From f) = any_decides (is_full_from f.word) (HasFrom f.word) (lists_of said)
    (λ l. and_decides _ _ _ _ (same_word l.word f.word) (at_least 100 (length l.from)))
many_decides said (Said.Member m) = any_decides (is_full_list m.word) (HasMembers m.word) (lists_of said)
    (λ l. and_decides _ _ _ _ (same_word l.word m.word) (at_least 1000 (length l.members)))
many_decides said (Said.Route r) = at_least 4096 (length (routes_of said))
many_decides said s = never

-- ---- one line more

more : {A : Type 0} (f : Line → List A) (said : List Line) (s : Line) → flat_map f (said ++ s ∷ []) ≡ flat_map f said
    ++ f s
more f said s = flat_map-append f said (s ∷ []) ∙ ap (λ x. flat_map f said ++ x) (append-nil (f s))

-- what a line changes of a list that was said
abbrev pub list_with : Line → MailList → MailList
list_with (Said.From f) l = permitted f.word f.pattern l
list_with (Said.Member m) l = joined m.word m.name l
list_with s l = l

list_more : (later : List Line) (s : Line) (h : ListHead) → list_of (later ++ s ∷ []) h ≡ list_with s (list_of later h)
list_more later (Said.From f) h =
    let a = more (pattern_in h.word) later (Said.From f) in
    let b = more (member_in h.word) later (Said.From f) ∙ append-nil (members_for h.word later) in
    elim (cases_Bool (bytes_eq h.word f.word)) [
      | inl same ↦ rw (a, b, same) refl
      | inr other ↦ rw (a, b, other) (rw append-nil refl)
    ]
list_more later (Said.Member m) h =
    let a = more (pattern_in h.word) later (Said.Member m) ∙ append-nil (patterns_for h.word later) in
    let b = more (member_in h.word) later (Said.Member m) in
    elim (cases_Bool (bytes_eq h.word m.word)) [
      | inl same ↦ rw (a, b, same) refl
      | inr other ↦ rw (a, b, other) (rw append-nil refl)
    ]
list_more later s h =
    let a = more (pattern_in h.word) later s ∙ append-nil (patterns_for h.word later) in
    let b = more (member_in h.word) later s ∙ append-nil (members_for h.word later) in
    rw (a, b) refl

heads_more : (later : List Line) (s t : Line) → map (list_of (later ++ s ∷ [])) (head_in t) ≡ map (list_with s)
    (map (list_of later) (head_in t))
heads_more later s (Said.List h) = ap (λ l. l ∷ []) (list_more later s h)
heads_more later s t = refl

map_both : {X Y : Type 0} (f : X → Y) (xs ys : List X) → map f (xs ++ ys) ≡ map f xs ++ map f ys
map_both f [] ys = refl
map_both f (x ∷ xs) ys = ap (λ l. f x ∷ l) (map_both f xs ys)

lists_more : (said : List Line) (s : Line) → lists_of (said ++ s ∷ []) ≡ map (list_with s) (lists_of said)
    ++ map (list_of []) (head_in s)
lists_more [] s = append-nil (map (list_of []) (head_in s))
lists_more (t ∷ later) s =
    let a = heads_more later s t in
    let b = lists_more later s in
    let c = map_both (list_with s) (map (list_of later) (head_in t)) (lists_of later) in
    rw (a, b, c) (sym (append_assoc (map (list_with s) (map (list_of later) (head_in t)))
    (map (list_with s) (lists_of later)) (map (list_of []) (head_in s))))

same_lists : (f : MailList → MailList) (ls : List MailList) → ((l : MailList) → f l ≡ l) → map f ls ≡ ls
same_lists f [] h = refl
same_lists f (l ∷ ls) h = (let a = h l in let b = same_lists f ls h in rw (a, b) refl)

routes_more : (earlier said : List Line) (s : Line)
    → routes_behind earlier (said ++ s ∷ []) ≡ routes_behind earlier said
    ++ map (route_behind (earlier ++ said)) (route_in s)
routes_more earlier [] s = append-nil _ ∙ ap (λ e. map (route_behind e) (route_in s)) (sym (append-nil earlier))
routes_more earlier (t ∷ said) s =
    let a = routes_more (earlier ++ t ∷ []) said s in
    let b = append_assoc earlier (t ∷ []) said in
    rw (a, b) (sym (append_assoc (map (route_behind earlier) (route_in t)) (routes_behind (earlier ++ t ∷ []) said)
    (map (route_behind (earlier ++ t ∷ said)) (route_in s))))

-- what a line adds to what was said
abbrev draft_with : List Line → Line → Draft
draft_with said s = record {
  domain = first_of (domains_of said ++ domain_in s);
  own = first_of (names_of said ++ name_in s);
  peers = peers_of said ++ peer_in s;
  mailboxes = mailboxes_of said ++ mailbox_in s;
  lists = map (list_with s) (lists_of said) ++ map (list_of []) (head_in s);
  routes = routes_of said ++ map (route_behind said) (route_in s);
  urgent = first_of (holds_in Grades.Urgent said ++ hold_in Grades.Urgent s);
  normal = first_of (holds_in Grades.Normal said ++ hold_in Grades.Normal s);
  non_urgent = first_of (holds_in Grades.NonUrgent said ++ hold_in Grades.NonUrgent s);
}

drafted : (said : List Line) (s : Line) → draft_of (said ++ s ∷ []) ≡ draft_with said s
drafted said s =
    let a = more domain_in said s in
    let b = more name_in said s in
    let c = more peer_in said s in
    let d = more mailbox_in said s in
    let e = lists_more said s in
    let f = routes_more [] said s in
    let g = more (hold_in Grades.Urgent) said s in
    let h = more (hold_in Grades.Normal) said s in
    let i = more (hold_in Grades.NonUrgent) said s in
    cc

empty_is : {X : Type 0} (xs : List X) → (0 < length xs → ⊥) → xs ≡ []
empty_is [] h = refl
empty_is (x ∷ xs) h = absurd (h (omega arith))

unchanged : (ls : List MailList) → map (λ (l : MailList). l) ls ≡ ls
unchanged ls = same_lists (λ l. l) ls (λ l. refl)

hold_added : (said : List Line) (g : Grade) (n : ℕ) → (0 < length (holds_in g said) → ⊥)
    → draft_with said (Said.Hold (record { grade = g; seconds = n })) ≡ holding g n (draft_of said)
hold_added said Grades.Urgent n h =
    (let e = empty_is (holds_in Grades.Urgent said) h in let u = unchanged (lists_of said) in
    rw (e, u) (simp append-nil))
hold_added said Grades.Normal n h =
    (let e = empty_is (holds_in Grades.Normal said) h in let u = unchanged (lists_of said) in
    rw (e, u) (simp append-nil))
hold_added said Grades.NonUrgent n h =
    (let e = empty_is (holds_in Grades.NonUrgent said) h in let u = unchanged (lists_of said) in
    rw (e, u) (simp append-nil))

with_is : (said : List Line) (s : Line) → (IsSaid said s → ⊥) → draft_with said s ≡ added (draft_of said) s
with_is said Said.Nothing h = (let u = unchanged (lists_of said) in rw u (simp append-nil))
with_is said (Said.Domain d) h =
    (let e = empty_is (domains_of said) h in let u = unchanged (lists_of said) in rw (e, u) (simp append-nil))
with_is said (Said.Name w) h = (let e = empty_is (names_of said) h in let u = unchanged (lists_of said) in
    rw (e, u) (simp append-nil))
with_is said (Said.Peer p) h = (let u = unchanged (lists_of said) in rw u (simp append-nil))
with_is said (Said.Mailbox m) h = (let u = unchanged (lists_of said) in rw u (simp append-nil))
with_is said (Said.List l) h = (let u = unchanged (lists_of said) in rw u (simp append-nil))
with_is said (Said.From f) h = simp append-nil
with_is said (Said.Member m) h = simp append-nil
with_is said (Said.Route r) h = (let u = unchanged (lists_of said) in rw u (simp append-nil))
with_is said (Said.Hold k) h = hold_added said k.grade k.seconds h

pub added_is : (said : List Line) (s : Line) → (IsSaid said s → ⊥) → added (draft_of said) s ≡ draft_of (said ++ s ∷ [])
added_is said s h = sym (drafted said s ∙ with_is said s h)

-- ---- lines that can stand

pub nothing_stands : CanStand []
nothing_stands = λ before s after e. none before s after e
  where
    none : (before : List Line) (s : Line) (after : List Line) → [] ≡ before ++ s ∷ after → MayFollow before s
    none [] s after e = absurd cc
    none (t ∷ before) s after e = absurd cc

line_is : (s t : Line) (xs ys : List Line) → s ∷ xs ≡ t ∷ ys → (s ≡ t) × (xs ≡ ys)
line_is s t xs ys e = ((cc), (cc))

-- of lines and one more, a line is among them or it is the last
split : (said : List Line) (s : Line) (before : List Line) (t : Line) (after : List Line) → said ++ s ∷ [] ≡ before ++ t
    ∷ after
    → ((before ≡ said) × (t ≡ s)) ⊎ ((rest : List Line) × (said ≡ before ++ t ∷ rest))
split [] s [] t after e = (let p = line_is s t [] after e in inl (refl, sym p.0))
split [] s (b ∷ before) t after e = (let p = line_is s b [] (before ++ t ∷ after) e in absurd (no_end before p.1))
  where
    no_end : (before : List Line) → [] ≡ before ++ t ∷ after → ⊥
    no_end [] h = cc
    no_end (c ∷ cs) h = cc
split (x ∷ said) s [] t after e = (let p = line_is x t (said ++ s ∷ []) after e in inr (said, ap (λ y. y ∷ said) p.0))
split (x ∷ said) s (b ∷ before) t after e =
    let p = line_is x b (said ++ s ∷ []) (before ++ t ∷ after) e in
    elim (split said s before t after p.1) [
      | inl h ↦ inl (ap (λ y. y ∷ before) (sym p.0) ∙ ap (λ ys. x ∷ ys) h.0, h.1)
      | inr h ↦ inr (h.0, ap (λ y. y ∷ said) p.0 ∙ ap (λ ys. b ∷ ys) h.1)
    ]

pub stand_more : (said : List Line) (s : Line) → CanStand said → MayFollow said s → CanStand (said ++ s ∷ [])
stand_more said s h m = λ before t after e. elim (split said s before t after e) [
  | inl last ↦ subst (MayFollow before) (sym last.1) (subst (λ b. MayFollow b s) (sym last.0) m)
  | inr among ↦ h before t among.0 among.1
]

pub stand_last : (said : List Line) (s : Line) → CanStand (said ++ s ∷ []) → MayFollow said s
stand_last said s h = h said s [] refl

pub stand_front : (said more : List Line) → CanStand (said ++ more) → CanStand said
stand_front said more h = λ before s after e. h before s (after ++ more)
    (ap (λ x. x ++ more) e ∙ append_assoc before (s ∷ after) more)

-- ---- adding a line

abbrev pub Added : List Line → Line → Result Draft LineKind → Type 0
Added said s (Ok e) = (e ≡ draft_of (said ++ s ∷ [])) × MayFollow said s
Added said s (Err Kinds.Unknown) = IsUnknown said s
Added said s (Err Kinds.Twice) = (IsUnknown said s → ⊥) × IsSaid said s
Added said s (Err Kinds.TooMany) = (IsUnknown said s → ⊥) × ((IsSaid said s → ⊥) × IsMany said s)
Added said s (Err kind) = ⊥

fails : (b : Bool) (P : Type 0) → Decides b P → b ≡ false → P → ⊥
fails b P d e p = both_ways b e (d.1 p)

pub added_so : (said : List Line) (s : Line) → Added said s (add (draft_of said) s)
added_so said s =
    elim (cases_Bool (is_unknown (draft_of said) s)) [
      | inl a ↦ rw a ((unknown_decides said s).0 a)
      | inr a ↦ elim (cases_Bool (is_said (draft_of said) s)) [
        | inl b ↦ rw (a, b) (fails _ _ (unknown_decides said s) a, (said_decides said s).0 b)
        | inr b ↦ elim (cases_Bool (is_many (draft_of said) s)) [
          | inl c ↦ rw (a, b, c) (
            fails _ _ (unknown_decides said s) a,
            (fails _ _ (said_decides said s) b, (many_decides said s).0 c),
          )
          | inr c ↦ rw (a, b, c) (
            added_is said s (fails _ _ (said_decides said s) b),
            record {
              known = fails _ _ (unknown_decides said s) a;
              first = fails _ _ (said_decides said s) b;
              room =
                  fails _ _ (many_decides said s) c;
            },
          )
        ]
      ]
    ]

-- ---- and back

is_false : (b : Bool) (P : Type 0) → Decides b P → (P → ⊥) → b ≡ false
is_false true P d h = absurd (h (d.0 refl))
is_false false P d h = refl

pub follows_is : (said : List Line) (s : Line) → MayFollow said s
    → add (draft_of said) s ≡ Ok (draft_of (said ++ s ∷ []))
follows_is said s h =
    let a = is_false _ _ (unknown_decides said s) h.known in
    let b = is_false _ _ (said_decides said s) h.first in
    let c = is_false _ _ (many_decides said s) h.room in
    let d = added_is said s h.first in
    rw (a, b, c, d) refl

pub unknown_is : (said : List Line) (s : Line) → IsUnknown said s → add (draft_of said) s ≡ Err Kinds.Unknown
unknown_is said s h = (let a = (unknown_decides said s).1 h in rw a refl)

pub twice_is : (said : List Line) (s : Line) → (IsUnknown said s → ⊥) → IsSaid said s
    → add (draft_of said) s ≡ Err Kinds.Twice
twice_is said s k h =
    let a = is_false _ _ (unknown_decides said s) k in
    let b = (said_decides said s).1 h in
    rw (a, b) refl

pub many_is : (said : List Line) (s : Line) → (IsUnknown said s → ⊥) → (IsSaid said s → ⊥) → IsMany said s
    → add (draft_of said) s ≡ Err Kinds.TooMany
many_is said s k f h =
    let a = is_false _ _ (unknown_decides said s) k in
    let b = is_false _ _ (said_decides said s) f in
    let c = (many_decides said s).1 h in
    rw (a, b, c) refl
