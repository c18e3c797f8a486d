-- What the words of a line mean, and so what the grammar says of a line by itself.
use Rattle.std.proofs.Common.{◌≡◌, ℕ, ◌≤◌, Bool, true, false, cond, eqb, leb, List, [], ◌∷◌, ◌++◌, Option, Some, None}
use Rattle.std.proofs.Common.{Result, Ok, Err, refl, sym, ap, subst, ◌∙◌, ◌⊎◌, inl, inr, codes, not, append_assoc}
use Rattle.std.specs.Prelude.{is_none, IsTrue}
use Rattle.std.specs.Str.{bytes_eq}
use Rattle.std.proofs.lemmas.Bool.{cases_Bool, and_parts, or_cases, leb-true, le-leb, both_ways}
use Rattle.std.proofs.lemmas.Slice.Eq.{bytes_eq-Decides}
use Rattle.mta_fields.specs.declared.domain.DomainFields.{DomainFields}
use Rattle.mta_names.specs.declared.attributes.Attributes.{Attributes}
use Rattle.mta_names.specs.declared.attributes.Extra.{Extra}
use Rattle.mta_names.specs.declared.attributes.Label.{Label}
use Rattle.mta_names.specs.declared.attributes.Pair.{Pair}
use Rattle.mta_names.specs.declared.attributes.Person.{Person}
use Rattle.mta_name_text.specs.Made.{IsTextForm, name_of_text, IsPatternForm, pattern_of_text}
use Rattle.mta_name_text.proofs.MadeLaws.{name_found, name_read, pattern_found, pattern_read}
use Rattle.mta_tables.specs.declared.command.Command.{Command}
use Rattle.mta_tables.specs.declared.command.Command.TheVariants as Commands
use Rattle.mta_tables.specs.declared.entry.Peer.{Peer}
use Rattle.mta_tables.specs.declared.fault.LineKind.{LineKind}
use Rattle.mta_tables.specs.declared.fault.LineKind.TheVariants as Kinds
use Rattle.mta_tables.specs.declared.line.Grade.{Grade}
use Rattle.mta_tables.specs.declared.line.Grade.TheVariants as Grades
use Rattle.mta_tables.specs.declared.line.Line.{Line}
use Rattle.mta_tables.specs.declared.line.Line.TheVariants as Said
use Rattle.mta_tables.specs.Domain.{name_of_domain, domain_of, domain_from, is_bare, has_none}
use Rattle.mta_tables.specs.Grammar.{Words, SilentLine, DomainLine, NameLine, PeerLine, MailboxLine, ListLine, FromLine}
use Rattle.mta_tables.specs.Grammar.{MemberLine, HereLine, RouteLineTo, HoldLine, HasNo, spaced, peer_text, EndsInPeer}
use Rattle.mta_tables.specs.Grammar.{alone, behind, ArePeerWords, HasWords, IsNumber, LacksNumber, IsPeerOf, Mean, Says}
use Rattle.mta_tables.specs.Lines.{◌>>=◌, PeerText, are_peer_words, peer, name_of, pattern_of, named, number_in}
use Rattle.mta_tables.specs.Lines.{domain_said, domain_words, name_words, peer_words, mailbox_words, list_words}
use Rattle.mta_tables.specs.Lines.{from_words, member_words, here_words, route_words, hold_for, hold_words, next_word}
use Rattle.mta_tables.specs.Lines.{there, ending, last_word, peer_cut, before_peer, route_hop, route_cut, route_line}
use Rattle.mta_tables.specs.Lines.{peer_line, mailbox_line, list_line, from_line, member_line, hold_line, said_of}
use Rattle.mta_tables.specs.Lines.{said_if, line_of}
use Rattle.mta_tables.specs.Words.{cut_at, cut_last, is_word_octet, is_word, is_password_octet, is_password, is_mode}
use Rattle.mta_tables.specs.Words.{is_twa, is_policy, is_back, grade_text, grade_of, is_filled, is_decimal, is_number}
use Rattle.mta_tables.specs.Words.{number_of, command_text, command_of, is_silent}
use Rattle.mta_tables.proofs.Cuttings.{cut_made, cut_none, cut_clean, rejoined, cut_back, last_none, last_made}
use Rattle.mta_tables.proofs.Cuttings.{rejoined_last, last_back, last_clean, none_of}
use Rattle.mta_tables.proofs.Wordings.{meant, words_read, line_decided}

-- ---- what the words mean

abbrev pub Judged : Words → Result Line LineKind → Type 0
Judged words (Ok s) = Mean words s
Judged words (Err Kinds.Number) = LacksNumber words
Judged words (Err Kinds.Name) = (LacksNumber words → ⊥) × ((s : Line) → Mean words s → ⊥)
Judged words (Err kind) = ⊥

abbrev says : Line → Result Line LineKind
says s = Ok s

abbrev found_name : Attributes → Result Attributes ℕ
found_name n = Ok n

-- a number is one, or the word lacks it
abbrev pub NumberJudged : ℕ → ℕ → List ℕ → Result ℕ LineKind → Type 0
NumberJudged low high w (Ok n) = IsNumber low high w n
NumberJudged low high w (Err kind) = (kind ≡ Kinds.Number) × ((n : ℕ) → IsNumber low high w n → ⊥)

is_number_of : (low high : ℕ) (w : List ℕ) (n : ℕ) → IsNumber low high w n → is_number low high w ≡ true
is_number_of low high w n h =
    let l : low ≤ number_of w = subst (λ m. low ≤ m) h.number_is h.least in
    let m : number_of w ≤ high = subst (λ m. m ≤ high) h.number_is h.most in
    let a = le-leb low (number_of w) l in
    let b = le-leb (number_of w) high m in
    let d : is_decimal w ≡ true = h.decimal in
    rw (d, a, b) refl

number_judged : (low high : ℕ) (w : List ℕ) → NumberJudged low high w (number_in low high w)
number_judged low high w =
    elim (cases_Bool (is_number low high w)) [
      | inl good ↦ rw good (
          let p = and_parts _ (leb (number_of w) high) good in
          let q = and_parts (is_decimal w) (leb low (number_of w)) p.0 in
          record {
            decimal = q.0;
            number_is = refl;
            least = leb-true low (number_of w) q.1;
            most =
                leb-true (number_of w) high p.1;
          })
      | inr other ↦ rw other (
        refl,
        λ n h. absurd
            (both_ways (is_number low high w) other (is_number_of low high w n h)),
      )
    ]

pub number_read : (low high : ℕ) (w : List ℕ) (n : ℕ) → IsNumber low high w n → number_in low high w ≡ Ok n
number_read low high w n h =
    let e = is_number_of low high w n h in
    rw e (ap (λ (m : ℕ). the_number m) (sym h.number_is))
  where
    the_number : ℕ → Result ℕ LineKind
    the_number m = Ok m

-- a text is the form of a name or of a pattern, or it is none
abbrev NameJudged : List ℕ → Result Attributes LineKind → Type 0
NameJudged text (Ok n) = IsTextForm text n
NameJudged text (Err kind) = (kind ≡ Kinds.Name) × ((n : Attributes) → IsTextForm text n → ⊥)

abbrev name_at_fault : ℕ → Result Attributes ℕ
name_at_fault at = Err at

no_name : (text : List ℕ) (at : ℕ) (n : Attributes) → name_of_text text ≡ Err at → IsTextForm text n → ⊥
no_name text at n e h = (let f : name_at_fault at ≡ found_name n = sym e ∙ name_read text n h in absurd cc)

name_judged_of : (text : List ℕ) (r : Result Attributes ℕ) → name_of_text text ≡ r → NameJudged text (named r)
name_judged_of text (Ok n) e = name_found text n e
name_judged_of text (Err at) e = (refl, λ n h. no_name text at n e h)

name_judged : (text : List ℕ) → NameJudged text (name_of text)
unfolding name_of
name_judged text = name_judged_of text (name_of_text text) refl

pub name_is_read : (text : List ℕ) (n : Attributes) → IsTextForm text n → name_of text ≡ Ok n
unfolding name_of
name_is_read text n h = ap named (name_read text n h)

abbrev PatternJudged : List ℕ → Result (List (List ℕ)) LineKind → Type 0
PatternJudged text (Ok p) = IsPatternForm text p
PatternJudged text (Err kind) = (kind ≡ Kinds.Name) × ((p : List (List ℕ)) → IsPatternForm text p → ⊥)

abbrev found_pattern : List (List ℕ) → Result (List (List ℕ)) ℕ
found_pattern p = Ok p

abbrev pattern_at_fault : ℕ → Result (List (List ℕ)) ℕ
pattern_at_fault at = Err at

no_pattern : (text : List ℕ) (at : ℕ) (p : List (List ℕ)) → pattern_of_text text ≡ Err at → IsPatternForm text p → ⊥
no_pattern text at p e h = (let f : pattern_at_fault at ≡ found_pattern p = sym e ∙ pattern_read text p h in absurd cc)

pattern_judged_of : (text : List ℕ) (r : Result (List (List ℕ)) ℕ) → pattern_of_text text ≡ r
    → PatternJudged text (named r)
pattern_judged_of text (Ok p) e = pattern_found text p e
pattern_judged_of text (Err at) e = (refl, λ p h. no_pattern text at p e h)

pattern_judged : (text : List ℕ) → PatternJudged text (pattern_of text)
unfolding pattern_of
pattern_judged text = pattern_judged_of text (pattern_of_text text) refl

pub pattern_is_read : (text : List ℕ) (p : List (List ℕ)) → IsPatternForm text p → pattern_of text ≡ Ok p
unfolding pattern_of
pattern_is_read text p h = ap named (pattern_read text p h)

-- ---- domains

none_is : {X : Type 0} (o : Option X) → is_none o ≡ true → o ≡ None
none_is None h = refl
none_is (Some x) h = absurd cc

has_none_is : {X : Type 0} (xs : List X) → has_none xs ≡ true → xs ≡ []
has_none_is [] h = refl
has_none_is (x ∷ xs) h = absurd cc

-- a name of its parts
name_from : Option Label → Option Label → Option (List ℕ) → Option (List ℕ) → Option Label → Option (List ℕ)
    → Option (List ℕ) → Option Person → List (List ℕ) → List Pair → Option (List ℕ) → List Extra
    → Option (List ℕ) → Attributes
name_from c a x t p o u s us ds k es d = record {
  country = c;
  admd = a;
  network = x;
  terminal = t;
  prmd = p;
  organization = o;
  user = u;
  person = s;
  units = us;
  pairs = ds;
  common = k;
  extras = es;
  directory = d;
}

all_parts : (n : Attributes) → n ≡ name_from n.country n.admd n.network n.terminal n.prmd n.organization n.user n.person
    n.units n.pairs n.common n.extras n.directory
unfolding name_from
all_parts n = refl

-- a name with the labels of a domain alone is the name of that domain
bare_name : (n : Attributes) (c a : Label) → is_bare n ≡ true → n.country ≡ Some c → n.admd ≡ Some a
    → n ≡ name_of_domain (record { country = c; admd = a; prmd = n.prmd })
bare_name n c a h e f =
    let p9 = and_parts _ (is_none n.directory) h in
    let p8 = and_parts _ (has_none n.extras) p9.0 in
    let p7 = and_parts _ (is_none n.common) p8.0 in
    let p6 = and_parts _ (has_none n.pairs) p7.0 in
    let p5 = and_parts _ (has_none n.units) p6.0 in
    let p4 = and_parts _ (is_none n.person) p5.0 in
    let p3 = and_parts _ (is_none n.user) p4.0 in
    let p2 = and_parts _ (is_none n.organization) p3.0 in
    let p1 = and_parts (is_none n.network) (is_none n.terminal) p2.0 in
    let e0 = none_is n.network p1.0 in
    let e1 = none_is n.terminal p1.1 in
    let e2 = none_is n.organization p2.1 in
    let e3 = none_is n.user p3.1 in
    let e4 = none_is n.person p4.1 in
    let e5 = has_none_is n.units p5.1 in
    let e6 = has_none_is n.pairs p6.1 in
    let e7 = none_is n.common p7.1 in
    let e8 = has_none_is n.extras p8.1 in
    let e9 = none_is n.directory p9.1 in
    let there = all_parts n in
    let here = all_parts (name_of_domain (record { country = c; admd = a; prmd = n.prmd })) in
    cc

not_said : (kind : LineKind) (s : Line) → Err kind ≡ says s → ⊥
not_said kind s e = cc

name_of_it : (d : DomainFields) → domain_of (name_of_domain d) ≡ Some d
name_of_it d = refl

domain_from_is : (n : Attributes) (c a : Option Label) (d : DomainFields) → n.country ≡ c → n.admd ≡ a
    → is_bare n ≡ true → domain_from c a n.prmd ≡ Some d → n ≡ name_of_domain d
domain_from_is n (Some c) (Some a) d e f h g = bare_name n c a h e f
    ∙ ap name_of_domain (some_domain_is (record { country = c; admd = a; prmd = n.prmd }) d g)
  where
    some_domain_is : (x y : DomainFields) → Some x ≡ Some y → x ≡ y
    some_domain_is x y e = cc
domain_from_is n (Some c) None d e f h g = absurd cc
domain_from_is n None a d e f h g = absurd cc

domain_is : (n : Attributes) (d : DomainFields) → domain_of n ≡ Some d → n ≡ name_of_domain d
domain_is n d e =
    elim (cases_Bool (is_bare n)) [
      | inl bare ↦ domain_from_is n n.country n.admd d refl refl bare (rw bare at e)
      | inr other ↦ (let f : None ≡ Some d = rw other at e in absurd cc)
    ]

domain_means : (text : List ℕ) (n : Attributes) (o : Option DomainFields) → IsTextForm text n → domain_of n ≡ o
    → Judged (DomainLine text) (domain_said o)
domain_means text n (Some d) h e = subst (IsTextForm text) (domain_is n d e) h
domain_means text n None h e = ((λ x. x), λ s m. no_domain s m)
  where
    same_names : (m : Attributes) → IsTextForm text m → m ≡ n
    same_names m k = (let f : found_name m ≡ found_name n = sym (name_read text m k) ∙ name_read text n h in cc)

    no_domain : (s : Line) → Mean (DomainLine text) s → ⊥
    no_domain (Said.Domain d) m =
        let a : Some d ≡ None = sym (name_of_it d) ∙ ap domain_of (same_names (name_of_domain d) m) ∙ e in
        absurd cc
    no_domain s m = m

domain_judged : (text : List ℕ) (r : Result Attributes LineKind) → NameJudged text r
    → Judged (DomainLine text) (r >>= λ n. domain_said (domain_of n))
domain_judged text (Ok n) h = domain_means text n (domain_of n) h refl
domain_judged text (Err kind) h =
    subst (λ k. Judged (DomainLine text) (Err k)) (sym h.0) ((λ x. x), λ s m. no_domain s m)
  where
    no_domain : (s : Line) → Mean (DomainLine text) s → ⊥
    no_domain (Said.Domain d) m = h.1 (name_of_domain d) m
    no_domain s m = m

-- ---- the other lines

mailbox_judged : (word text : List ℕ) (r : Result Attributes LineKind) → NameJudged text r
    → Judged (MailboxLine word text) (r >>= λ n. Ok (Said.Mailbox (record { word = word; name = n })))
mailbox_judged word text (Ok n) h = (refl, h)
mailbox_judged word text (Err kind) h = subst (λ k. Judged (MailboxLine word text) (Err k)) (sym h.0)
    ((λ x. x), λ s m. none s m)
  where
    none : (s : Line) → Mean (MailboxLine word text) s → ⊥
    none (Said.Mailbox b) m = h.1 b.name m.1
    none s m = m

list_judged : (word policy text : List ℕ) (r : Result Attributes LineKind) → NameJudged text r
    → Judged (ListLine word policy text)
    (r >>= λ n. Ok (Said.List (record { word = word; back = is_back policy; name = n })))
list_judged word policy text (Ok n) h = (refl, (refl, h))
list_judged word policy text (Err kind) h = subst (λ k. Judged (ListLine word policy text) (Err k)) (sym h.0)
    ((λ x. x), λ s m. none s m)
  where
    none : (s : Line) → Mean (ListLine word policy text) s → ⊥
    none (Said.List l) m = h.1 l.name m.1.1
    none s m = m

from_judged : (word text : List ℕ) (r : Result (List (List ℕ)) LineKind) → PatternJudged text r
    → Judged (FromLine word text) (r >>= λ p. Ok (Said.From (record { word = word; pattern = p })))
from_judged word text (Ok p) h = (refl, h)
from_judged word text (Err kind) h =
    subst (λ k. Judged (FromLine word text) (Err k)) (sym h.0) ((λ x. x), λ s m. none s m)
  where
    none : (s : Line) → Mean (FromLine word text) s → ⊥
    none (Said.From f) m = h.1 f.pattern m.1
    none s m = m

member_judged : (word text : List ℕ) (r : Result Attributes LineKind) → NameJudged text r
    → Judged (MemberLine word text) (r >>= λ n. Ok (Said.Member (record { word = word; name = n })))
member_judged word text (Ok n) h = (refl, h)
member_judged word text (Err kind) h = subst (λ k. Judged (MemberLine word text) (Err k)) (sym h.0)
    ((λ x. x), λ s m. none s m)
  where
    none : (s : Line) → Mean (MemberLine word text) s → ⊥
    none (Said.Member b) m = h.1 b.name m.1
    none s m = m

here_judged : (text : List ℕ) (r : Result (List (List ℕ)) LineKind) → PatternJudged text r
    → Judged (HereLine text) (r >>= λ p. Ok (Said.Route (record { pattern = p; peer = None })))
here_judged text (Ok p) h = (refl, h)
here_judged text (Err kind) h = subst (λ k. Judged (HereLine text) (Err k)) (sym h.0) ((λ x. x), λ s m. none s m)
  where
    none : (s : Line) → Mean (HereLine text) s → ⊥
    none (Said.Route r) m = h.1 r.pattern m.1
    none s m = m

route_judged : (text word : List ℕ) (r : Result (List (List ℕ)) LineKind) → PatternJudged text r
    → Judged (RouteLineTo text word) (r >>= λ p. Ok (Said.Route (record { pattern = p; peer = Some word })))
route_judged text word (Ok p) h = (refl, h)
route_judged text word (Err kind) h = subst (λ k. Judged (RouteLineTo text word) (Err k)) (sym h.0)
    ((λ x. x), λ s m. none s m)
  where
    none : (s : Line) → Mean (RouteLineTo text word) s → ⊥
    none (Said.Route r) m = h.1 r.pattern m.1
    none s m = m

hold_judged : (g : Grade) (w : List ℕ) (r : Result ℕ LineKind) → NumberJudged 0 31536000 w r
    → Judged (HoldLine g w) (r >>= λ n. Ok (Said.Hold (record { grade = g; seconds = n })))
hold_judged g w (Ok n) h = (refl, h)
hold_judged g w (Err kind) h = subst (λ k. Judged (HoldLine g w) (Err k)) (sym h.0) h.1

peer_judged : (p : PeerText) (r s : Result ℕ LineKind) → NumberJudged 0 64 p.size r → NumberJudged 1 8 p.window s
    → Judged (PeerLine p) (r >>= λ size. s >>= λ window. Ok (Said.Peer (peer p size window)))
peer_judged p (Ok a) (Ok b) h k =
    record { name = refl; send = refl; expected = refl; twa = refl; checkpoint = h; window = k }
peer_judged p (Ok a) (Err kind) h k = subst (λ l. Judged (PeerLine p) (Err l)) (sym k.0) (inr k.1)
peer_judged p (Err kind) s h k = subst (λ l. Judged (PeerLine p) (Err l)) (sym h.0) (inl h.1)

judged : (line : List ℕ) (words : Words) → HasWords line words → Judged words (meant words)
unfolding peer_words
judged line SilentLine h = tt
judged line (DomainLine text) h = domain_judged text (name_of text) (name_judged text)
judged line (NameLine word) h = (let e : is_word word ≡ true = h.0 in rw e refl)
judged line (PeerLine p) h = (let e : are_peer_words p ≡ true = h.0.words in
    rw e (peer_judged p (number_in 0 64 p.size) (number_in 1 8 p.window) (number_judged 0 64 p.size)
    (number_judged 1 8 p.window)))
judged line (MailboxLine word text) h =
    (let e : is_word word ≡ true = h.0 in rw e (mailbox_judged word text (name_of text) (name_judged text)))
judged line (ListLine word policy text) h =
    let e : is_word word ≡ true = h.0 in
    let f : is_policy policy ≡ true = h.1.0 in
    rw (e, f) (list_judged word policy text (name_of text) (name_judged text))
judged line (FromLine word text) h =
    (let e : is_word word ≡ true = h.0 in rw e (from_judged word text (pattern_of text) (pattern_judged text)))
judged line (MemberLine word text) h =
    (let e : is_word word ≡ true = h.0 in rw e (member_judged word text (name_of text) (name_judged text)))
judged line (HereLine text) h = here_judged text (pattern_of text) (pattern_judged text)
judged line (RouteLineTo text word) h =
    (let e : is_word word ≡ true = h.0 in rw e (route_judged text word (pattern_of text) (pattern_judged text)))
judged line (HoldLine g w) h = hold_judged g w (number_in 0 31536000 w) (number_judged 0 31536000 w)

-- ---- and back

peer_is : (p : PeerText) (q : Peer) → IsPeerOf p q
    → says (Said.Peer (peer p q.checkpoint q.window)) ≡ says (Said.Peer q)
peer_is p q h =
    let a = h.name in
    let b = h.send in
    let c = h.expected in
    let d = h.twa in
    rw (← a, ← b, ← c, ← d) refl

meaning_read : (line : List ℕ) (words : Words) (s : Line) → HasWords line words → Mean words s → meant words ≡ Ok s
unfolding peer_words
meaning_read line SilentLine Said.Nothing h m = refl
meaning_read line (DomainLine text) (Said.Domain d) h m = (let e = name_is_read text (name_of_domain d) m in rw e refl)
meaning_read line (NameLine word) (Said.Name w) h m = (let e : is_word word ≡ true = h.0 in rw (e, m) refl)
meaning_read line (PeerLine p) (Said.Peer q) h m =
    let e : are_peer_words p ≡ true = h.0.words in
    let a = number_read 0 64 p.size q.checkpoint m.checkpoint in
    let b = number_read 1 8 p.window q.window m.window in
    rw (e, a, b) (peer_is p q m)
meaning_read line (MailboxLine word text) (Said.Mailbox b) h m =
    let e : is_word word ≡ true = h.0 in
    let f = name_is_read text b.name m.1 in
    rw (e, f) (ap (λ w. says (Said.Mailbox (record { word = w; name = b.name }))) (sym m.0))
meaning_read line (ListLine word policy text) (Said.List l) h m =
    let e : is_word word ≡ true = h.0 in
    let k : is_policy policy ≡ true = h.1.0 in
    let f = name_is_read text l.name m.1.1 in
    rw (e, k, f) (ap (λ w. says (Said.List (record { word = w; back = is_back policy; name = l.name }))) (sym m.0)
    ∙ ap (λ b. says (Said.List (record { word = l.word; back = b; name = l.name }))) (sym m.1.0))
meaning_read line (FromLine word text) (Said.From f) h m =
    let e : is_word word ≡ true = h.0 in
    let g = pattern_is_read text f.pattern m.1 in
    rw (e, g) (ap (λ w. says (Said.From (record { word = w; pattern = f.pattern }))) (sym m.0))
meaning_read line (MemberLine word text) (Said.Member b) h m =
    let e : is_word word ≡ true = h.0 in
    let f = name_is_read text b.name m.1 in
    rw (e, f) (ap (λ w. says (Said.Member (record { word = w; name = b.name }))) (sym m.0))
meaning_read line (HereLine text) (Said.Route r) h m =
    let g = pattern_is_read text r.pattern m.1 in
    rw g (ap (λ p. says (Said.Route (record { pattern = r.pattern; peer = p }))) (sym m.0))
meaning_read line (RouteLineTo text word) (Said.Route r) h m =
    let e : is_word word ≡ true = h.0 in
    let g = pattern_is_read text r.pattern m.1 in
    rw (e, g) (ap (λ p. says (Said.Route (record { pattern = r.pattern; peer = p }))) (sym m.0))
meaning_read line (HoldLine g w) (Said.Hold k) h m =
    let a = number_read 0 31536000 w k.seconds m.1 in
    rw a (ap (λ x. says (Said.Hold (record { grade = x; seconds = k.seconds }))) (sym m.0))
meaning_read line words s h m = absurd m

-- words that lack a number mean nothing
lacking : (words : Words) (s : Line) → Mean words s → LacksNumber words → ⊥
lacking (PeerLine p) (Said.Peer q) m (inl h) = h q.checkpoint m.checkpoint
lacking (PeerLine p) (Said.Peer q) m (inr h) = h q.window m.window
lacking (HoldLine g w) (Said.Hold k) m h = h k.seconds m.1
lacking (PeerLine p) s m h = absurd m
lacking (HoldLine g w) s m h = absurd m
lacking words s m h = absurd h

-- ---- lines

-- what the grammar says of a line by itself
abbrev pub LineJudged : List ℕ → Result Line LineKind → Type 0
LineJudged line (Ok s) = Says line s
LineJudged line (Err Kinds.Word) = (words : Words) → HasWords line words → ⊥
LineJudged line (Err Kinds.Number) = (words : Words) × (HasWords line words × LacksNumber words)
LineJudged line (Err Kinds.Name) = (words : Words)
    × (HasWords line words × ((LacksNumber words → ⊥) × ((s : Line) → Mean words s → ⊥)))
LineJudged line (Err kind) = ⊥

worded_judged : (line : List ℕ) (words : Words) (r : Result Line LineKind) → HasWords line words → Judged words r
    → LineJudged line r
worded_judged line words (Ok s) h j = (words, (h, j))
worded_judged line words (Err Kinds.Number) h j = (words, (h, j))
worded_judged line words (Err Kinds.Name) h j = (words, (h, j))
worded_judged line words (Err kind) h j = absurd j

word_is_none : (words : Words) (r : Result Line LineKind) → Judged words r → r ≡ Err Kinds.Word → ⊥
word_is_none words r j e = subst (Judged words) e j

pub line_judged : (line : List ℕ) → LineJudged line (line_of line)
line_judged line =
    elim (line_decided line) [
      | inl e ↦ subst (LineJudged line) (sym e)
          (λ words h. word_is_none words (meant words) (judged line words h) (sym (words_read line words h) ∙ e))
      | inr w ↦ subst (LineJudged line) (sym (words_read line w.0 w.1))
          (worded_judged line w.0 (meant w.0) w.1 (judged line w.0 w.1))
    ]

pub said_is_read : (line : List ℕ) (s : Line) → Says line s → line_of line ≡ Ok s
said_is_read line s h = words_read line h.0 h.1.0 ∙ meaning_read line h.0 s h.1.0 h.1.1

pub wordless_read : (line : List ℕ) → ((words : Words) → HasWords line words → ⊥) → line_of line ≡ Err Kinds.Word
wordless_read line h = elim (line_decided line) [ inl e ↦ e | inr w ↦ absurd (h w.0 w.1) ]

lacks_is : (words : Words) (r : Result Line LineKind) → Judged words r → LacksNumber words → r ≡ Err Kinds.Number
lacks_is words (Ok s) j h = absurd (lacking words s j h)
lacks_is words (Err Kinds.Number) j h = refl
lacks_is words (Err Kinds.Name) j h = absurd (j.0 h)
lacks_is words (Err kind) j h = absurd j

pub numberless_read : (line : List ℕ) (words : Words) → HasWords line words → LacksNumber words
    → line_of line ≡ Err Kinds.Number
numberless_read line words h l = words_read line words h ∙ lacks_is words (meant words) (judged line words h) l

nameless_is : (words : Words) (r : Result Line LineKind) → Judged words r → (LacksNumber words → ⊥)
    → ((s : Line) → Mean words s → ⊥) → r ≡ Err Kinds.Name
nameless_is words (Ok s) j l none = absurd (none s j)
nameless_is words (Err Kinds.Number) j l none = absurd (l j)
nameless_is words (Err Kinds.Name) j l none = refl
nameless_is words (Err kind) j l none = absurd j

pub nameless_read : (line : List ℕ) (words : Words) → HasWords line words → (LacksNumber words → ⊥)
    → ((s : Line) → Mean words s → ⊥) → line_of line ≡ Err Kinds.Name
nameless_read line words h l none = words_read line words h
    ∙ nameless_is words (meant words) (judged line words h) l none
