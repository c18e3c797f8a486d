-- A line has one wording, which is what is read of it, or it is refused for its words.
use Rattle.std.proofs.Common.{◌≡◌, ℕ, ◌≤◌, Bool, true, false, cond, eqb, leb, List, [], ◌∷◌, ◌++◌, Option, Some, None}
use Rattle.std.proofs.Common.{Result, Ok, Err, refl, sym, ap, subst, ◌∙◌, ◌⊎◌, inl, inr, codes, not, append_assoc}
use Rattle.std.specs.Prelude.{is_none, IsTrue}
use Rattle.std.specs.Str.{bytes_eq}
use Rattle.std.proofs.lemmas.Bool.{cases_Bool, and_parts, or_cases, leb-true, le-leb, both_ways}
use Rattle.std.proofs.lemmas.Slice.Eq.{bytes_eq-Decides}
use Rattle.mta_fields.specs.declared.domain.DomainFields.{DomainFields}
use Rattle.mta_names.specs.declared.attributes.Attributes.{Attributes}
use Rattle.mta_names.specs.declared.attributes.Extra.{Extra}
use Rattle.mta_names.specs.declared.attributes.Label.{Label}
use Rattle.mta_names.specs.declared.attributes.Pair.{Pair}
use Rattle.mta_names.specs.declared.attributes.Person.{Person}
use Rattle.mta_name_text.specs.Made.{IsTextForm, name_of_text, IsPatternForm, pattern_of_text}
use Rattle.mta_name_text.proofs.MadeLaws.{name_found, name_read, pattern_found, pattern_read}
use Rattle.mta_tables.specs.declared.command.Command.{Command}
use Rattle.mta_tables.specs.declared.command.Command.TheVariants as Commands
use Rattle.mta_tables.specs.declared.entry.Peer.{Peer}
use Rattle.mta_tables.specs.declared.fault.LineKind.{LineKind}
use Rattle.mta_tables.specs.declared.fault.LineKind.TheVariants as Kinds
use Rattle.mta_tables.specs.declared.line.Grade.{Grade}
use Rattle.mta_tables.specs.declared.line.Grade.TheVariants as Grades
use Rattle.mta_tables.specs.declared.line.Line.{Line}
use Rattle.mta_tables.specs.declared.line.Line.TheVariants as Said
use Rattle.mta_tables.specs.Domain.{name_of_domain, domain_of, domain_from, is_bare, has_none}
use Rattle.mta_tables.specs.Grammar.{Words, SilentLine, DomainLine, NameLine, PeerLine, MailboxLine, ListLine, FromLine}
use Rattle.mta_tables.specs.Grammar.{MemberLine, HereLine, RouteLineTo, HoldLine, HasNo, spaced, peer_text, EndsInPeer}
use Rattle.mta_tables.specs.Grammar.{alone, behind, ArePeerWords, HasWords, IsNumber, LacksNumber, IsPeerOf, Mean, Says}
use Rattle.mta_tables.specs.Lines.{◌>>=◌, PeerText, are_peer_words, peer, name_of, pattern_of, named, number_in}
use Rattle.mta_tables.specs.Lines.{domain_said, domain_words, name_words, peer_words, mailbox_words, list_words}
use Rattle.mta_tables.specs.Lines.{from_words, member_words, here_words, route_words, hold_for, hold_words, next_word}
use Rattle.mta_tables.specs.Lines.{there, ending, last_word, peer_cut, before_peer, route_hop, route_cut, route_line}
use Rattle.mta_tables.specs.Lines.{peer_line, mailbox_line, list_line, from_line, member_line, hold_line, said_of}
use Rattle.mta_tables.specs.Lines.{said_if, line_of}
use Rattle.mta_tables.specs.Words.{cut_at, cut_last, is_word_octet, is_word, is_password_octet, is_password, is_mode}
use Rattle.mta_tables.specs.Words.{is_twa, is_policy, is_back, grade_text, grade_of, is_filled, is_decimal, is_number}
use Rattle.mta_tables.specs.Words.{number_of, command_text, command_of, is_silent}
use Rattle.mta_tables.proofs.Cuttings.{cut_made, cut_none, cut_clean, rejoined, cut_back, last_none, last_made}
use Rattle.mta_tables.proofs.Cuttings.{rejoined_last, last_back, last_clean, none_of}

-- ---- words have no spaces

pub word_spaceless : (w : List ℕ) → is_word w ≡ true → HasNo 32 w
word_spaceless w h = none_of is_word_octet 32 w refl (and_parts _ _ (and_parts _ _ h).0).0

password_spaceless : (w : List ℕ) → is_password w ≡ true → HasNo 32 w
password_spaceless w h = none_of is_password_octet 32 w refl (and_parts _ _ (and_parts _ _ h).0).0

abbrev other_than : ℕ → ℕ → Bool
other_than s c = not (eqb c s)

one_of_two : (w a b : List ℕ) → HasNo 32 a → HasNo 32 b → (w ≡ a) ⊎ (w ≡ b) → HasNo 32 w
one_of_two w a b h k (inl e) = subst (HasNo 32) (sym e) h
one_of_two w a b h k (inr e) = subst (HasNo 32) (sym e) k

either : (w a b : List ℕ) → (bytes_eq w a ≡ true) ⊎ (bytes_eq w b ≡ true) → (w ≡ a) ⊎ (w ≡ b)
either w a b (inl e) = inl ((bytes_eq-Decides w a).0 e)
either w a b (inr e) = inr ((bytes_eq-Decides w b).0 e)

mode_spaceless : (w : List ℕ) → is_mode w ≡ true → HasNo 32 w
mode_spaceless w h =
    one_of_two w (codes "monologue") (codes "twa") (none_of (other_than 32) 32 (codes "monologue") refl refl)
    (none_of (other_than 32) 32 (codes "twa") refl refl)
    (either w (codes "monologue") (codes "twa") (or_cases _ _ h))

policy_spaceless : (w : List ℕ) → is_policy w ≡ true → HasNo 32 w
policy_spaceless w h =
    one_of_two w (codes "keep") (codes "back") (none_of (other_than 32) 32 (codes "keep") refl refl)
    (none_of (other_than 32) 32 (codes "back") refl refl)
    (either w (codes "keep") (codes "back") (or_cases _ _ h))

grade_spaceless : (g : Grade) → HasNo 32 (grade_text g)
grade_spaceless Grades.Urgent = none_of (other_than 32) 32 (codes "urgent") refl refl
grade_spaceless Grades.Normal = none_of (other_than 32) 32 (codes "normal") refl refl
grade_spaceless Grades.NonUrgent = none_of (other_than 32) 32 (codes "non-urgent") refl refl

grade_again : (g : Grade) → grade_of (grade_text g) ≡ Some g
grade_again Grades.Urgent = refl
grade_again Grades.Normal = refl
grade_again Grades.NonUrgent = refl

-- ---- what is read from the words

abbrev pub meant : Words → Result Line LineKind
meant SilentLine = Ok Said.Nothing
meant (DomainLine text) = domain_words text
meant (NameLine word) = name_words word
meant (PeerLine words) = peer_words words
meant (MailboxLine word text) = mailbox_words word text
meant (ListLine word policy text) = list_words word policy text
meant (FromLine word text) = from_words word text
meant (MemberLine word text) = member_words word text
meant (HereLine text) = here_words text
meant (RouteLineTo text word) = route_words text word
meant (HoldLine grade seconds) = hold_for grade seconds

abbrev Cut : Type 0
Cut = List ℕ × Option (List ℕ)

peer_made : (p : PeerText) → ArePeerWords p → peer_cut (Some (peer_text p)) ≡ Ok p
peer_made p h =
    let parts5 = and_parts _ (is_filled p.window) h.words in
    let parts4 = and_parts _ (is_filled p.size) parts5.0 in
    let parts3 = and_parts _ (is_mode p.mode) parts4.0 in
    let parts2 = and_parts _ (is_password p.expected) parts3.0 in
    let parts1 = and_parts (is_word p.name) (is_password p.send) parts2.0 in
    let a = cut_made 32 p.name (spaced p.send (spaced p.expected (spaced p.mode (spaced p.size p.window))))
    (word_spaceless p.name parts1.0) in
    let b = cut_made 32 p.send (spaced p.expected (spaced p.mode (spaced p.size p.window)))
    (password_spaceless p.send parts1.1) in
    let c = cut_made 32 p.expected (spaced p.mode (spaced p.size p.window)) (password_spaceless p.expected parts2.1) in
    let d = cut_made 32 p.mode (spaced p.size p.window) (mode_spaceless p.mode parts3.1) in
    let e = cut_made 32 p.size p.window h.size in
    let f = cut_none 32 p.window h.window in
    rw (a, b, c, d, e, f) refl

peer_is_none : (w : List ℕ) → (bytes_eq w (codes "peer") ≡ true → ⊥) → bytes_eq w (codes "peer") ≡ false
peer_is_none w h = elim (cases_Bool (bytes_eq w (codes "peer"))) [ inl e ↦ absurd (h e) | inr e ↦ e ]

-- the last word of a text that does not end in `peer`
last_peer : (text : List ℕ) (o : Option (List ℕ)) (last : List ℕ) → text ≡ rejoined_last 32 o last → last ≡ codes "peer"
    → EndsInPeer text
last_peer text None last e h = alone (e ∙ h)
last_peer text (Some front) last e h = behind front (e ∙ ap (spaced front) h)

here_made : (text : List ℕ) → (EndsInPeer text → ⊥) → route_line (spaced text (codes "here")) ≡ here_words text
unfolding route_line
here_made text h =
    let a = last_made 32 text (codes "here") (none_of (other_than 32) 32 (codes "here") refl refl) in
    let other : bytes_eq (cut_last 32 text).1 (codes "peer") ≡ false =
    peer_is_none (cut_last 32 text).1
    (λ e. h (last_peer text (cut_last 32 text).0 (cut_last 32 text).1 (last_back 32 text)
    ((bytes_eq-Decides (cut_last 32 text).1 (codes "peer")).0 e))) in
    rw (a, other) refl

peer_route_made : (text word : List ℕ) → is_word word ≡ true
    → route_line (spaced (spaced text (codes "peer")) word) ≡ route_words text word
unfolding route_line
peer_route_made text word h =
    let a = last_made 32 (spaced text (codes "peer")) word (word_spaceless word h) in
    let b = last_made 32 text (codes "peer") (none_of (other_than 32) 32 (codes "peer") refl refl) in
    rw (a, b) refl

hold_made : (g : Grade) (seconds : List ℕ) → is_filled seconds ≡ true
    → hold_words (grade_text g) seconds ≡ hold_for g seconds
unfolding hold_words
hold_made g seconds h = (let a = grade_again g in rw (a, h) refl)

pub words_read : (line : List ℕ) (words : Words) → HasWords line words → line_of line ≡ meant words
unfolding line_of mailbox_line list_line from_line member_line peer_line hold_line
words_read line SilentLine h = rw h refl
words_read line (DomainLine text) h = ap line_of h
words_read line (NameLine word) h = ap line_of h.1
words_read line (PeerLine words) h = ap line_of h.1 ∙ ap (λ r. r >>= peer_words) (peer_made words h.0)
words_read line (MailboxLine word text) h = ap line_of h.1
    ∙ ap (λ (c : Cut). there c.1 >>= mailbox_words c.0) (cut_made 32 word text (word_spaceless word h.0))
words_read line (ListLine word policy text) h =
    ap line_of h.1.1
    ∙ ap (λ (c : Cut). next_word c.1 >>= λ b. there b.1 >>= list_words c.0 b.0)
    (cut_made 32 word (spaced policy text) (word_spaceless word h.0))
    ∙ ap (λ (b : Cut). there b.1 >>= list_words word b.0) (cut_made 32 policy text (policy_spaceless policy h.1.0))
words_read line (FromLine word text) h = ap line_of h.1
    ∙ ap (λ (c : Cut). there c.1 >>= from_words c.0) (cut_made 32 word text (word_spaceless word h.0))
words_read line (MemberLine word text) h = ap line_of h.1
    ∙ ap (λ (c : Cut). there c.1 >>= member_words c.0) (cut_made 32 word text (word_spaceless word h.0))
words_read line (HereLine text) h = ap line_of h.1 ∙ here_made text h.0
words_read line (RouteLineTo text word) h = ap line_of h.1 ∙ peer_route_made text word h.0
words_read line (HoldLine g seconds) h =
    ap line_of h.1.1
    ∙ ap (λ (c : Cut). last_word c.1 >>= hold_words c.0) (cut_made 32 (grade_text g) seconds (grade_spaceless g))
    ∙ ap (λ (c : Cut). ending c.0 c.1 >>= hold_words (grade_text g)) (cut_none 32 seconds h.1.0)
    ∙ hold_made g seconds h.0

-- ---- which lines have words

abbrev pub HasSome : List ℕ → Type 0
HasSome line = (words : Words) × HasWords line words

abbrev pub Refused : Result Line LineKind → Type 0
Refused r = r ≡ Err Kinds.Word

abbrev pub Decided : List ℕ → Result Line LineKind → Type 0
Decided line r = Refused r ⊎ HasSome line

abbrev wrong_word : Result Line LineKind
wrong_word = Err Kinds.Word

name_decided : (line word : List ℕ) → line ≡ codes "name " ++ word → Decided line (name_words word)
name_decided line word e = elim (cases_Bool (is_word word)) [
  | inl good ↦ inr (NameLine word, (good, e))
  | inr other ↦ inl (rw other refl)
]

-- a word and a text behind it
record TwoParts (line front word : List ℕ) : Type 0 where
  text : List ℕ
  is_word_of : is_word word ≡ true
  line_is : line ≡ front ++ spaced word text

two_parts : (line front word : List ℕ) (t : Option (List ℕ)) (f : List ℕ → Result Line LineKind) → line ≡ front
    ++ rejoined 32 word t → ((text : List ℕ) → is_word word ≡ false → f text ≡ wrong_word)
    → Refused (there t >>= f) ⊎ TwoParts line front word
two_parts line front word None f e wordless = inl refl
two_parts line front word (Some text) f e wordless =
    elim (cases_Bool (is_word word)) [
      | inl good ↦ inr (record { text = text; is_word_of = good; line_is = e })
      | inr other ↦ inl (wordless text other)
    ]

mailbox_decided : (line x : List ℕ) → line ≡ codes "mailbox " ++ x → Decided line (mailbox_line (Some x))
unfolding mailbox_line
mailbox_decided line x e =
    let word = (cut_at 32 x).0 in
    elim (two_parts line (codes "mailbox ") word (cut_at 32 x).1 (mailbox_words word)
    (e ∙ ap (λ y. codes "mailbox " ++ y) (cut_back 32 x)) (λ text other. rw other refl)) [
      | inl r ↦ inl r
      | inr p ↦ inr (MailboxLine word p.text, (p.is_word_of, p.line_is))
    ]

from_decided : (line x : List ℕ) → line ≡ codes "from " ++ x → Decided line (from_line (Some x))
unfolding from_line
from_decided line x e =
    let word = (cut_at 32 x).0 in
    elim (two_parts line (codes "from ") word (cut_at 32 x).1 (from_words word)
    (e ∙ ap (λ y. codes "from " ++ y) (cut_back 32 x)) (λ text other. rw other refl)) [
      | inl r ↦ inl r
      | inr p ↦ inr (FromLine word p.text, (p.is_word_of, p.line_is))
    ]

member_decided : (line x : List ℕ) → line ≡ codes "member " ++ x → Decided line (member_line (Some x))
unfolding member_line
member_decided line x e =
    let word = (cut_at 32 x).0 in
    elim (two_parts line (codes "member ") word (cut_at 32 x).1 (member_words word)
    (e ∙ ap (λ y. codes "member " ++ y) (cut_back 32 x)) (λ text other. rw other refl)) [
      | inl r ↦ inl r
      | inr p ↦ inr (MemberLine word p.text, (p.is_word_of, p.line_is))
    ]

list_wordless : (word policy text : List ℕ) → is_word word ≡ false → list_words word policy text ≡ wrong_word
list_wordless word policy text h = rw h refl

list_parts : (line word policy : List ℕ) (t : Option (List ℕ)) → line ≡ codes "list "
    ++ spaced word (rejoined 32 policy t) → Decided line (there t >>= list_words word policy)
list_parts line word policy None e = inl refl
list_parts line word policy (Some text) e =
    elim (cases_Bool (is_word word)) [
      | inr other ↦ inl (list_wordless word policy text other)
      | inl good ↦ elim (cases_Bool (is_policy policy)) [
        | inl known ↦ inr (ListLine word policy text, (good, (known, e)))
        | inr unknown ↦ inl (rw (good, unknown) refl)
      ]
    ]

list_cut : (line word : List ℕ) (t : Option (List ℕ)) → line ≡ codes "list " ++ rejoined 32 word t
    → Decided line (next_word t >>= λ b. there b.1 >>= list_words word b.0)
list_cut line word None e = inl refl
list_cut line word (Some y) e =
    list_parts line word (cut_at 32 y).0 (cut_at 32 y).1 (e ∙ ap (λ z. codes "list " ++ spaced word z) (cut_back 32 y))

list_decided : (line x : List ℕ) → line ≡ codes "list " ++ x → Decided line (list_line (Some x))
unfolding list_line
list_decided line x e = list_cut line (cut_at 32 x).0 (cut_at 32 x).1 (e ∙ ap (λ y. codes "list " ++ y) (cut_back 32 x))

-- ---- peers

-- the six words, or too few or too many
record Six (t : Option (List ℕ)) (p : PeerText) : Type 0 where
  text_is : t ≡ Some (peer_text p)
  size : HasNo 32 p.size
  window : HasNo 32 p.window

abbrev CutIn : Option (List ℕ) → Result PeerText LineKind → Type 0
CutIn t r = (r ≡ Err Kinds.Word) ⊎ ((p : PeerText) × ((r ≡ Ok p) × Six t p))

abbrev some_text : List ℕ → Option (List ℕ)
some_text x = Some x

cut_window : (t : Option (List ℕ)) (a b c d e x : List ℕ) (o : Option (List ℕ)) → HasNo 32 e → HasNo 32 x
    → t ≡ Some (spaced a (spaced b (spaced c (spaced d (spaced e (rejoined 32 x o))))))
    → CutIn t (ending x o >>= λ f. Ok (record { name = a; send = b; expected = c; mode = d; size = e; window = f }))
cut_window t a b c d e x None h k is =
    inr (
      record { name = a; send = b; expected = c; mode = d; size = e; window = x },
      (refl, record { text_is = is; size = h; window = k }),
    )
cut_window t a b c d e x (Some y) h k is = inl refl

cut_size : (t : Option (List ℕ)) (a b c d e : List ℕ) (o : Option (List ℕ)) → HasNo 32 e
    → t ≡ Some (spaced a (spaced b (spaced c (spaced d (rejoined 32 e o)))))
    → CutIn t (last_word o >>= λ f. Ok (record { name = a; send = b; expected = c; mode = d; size = e; window = f }))
cut_size t a b c d e None h is = inl refl
cut_size t a b c d e (Some y) h is =
    cut_window t a b c d e (cut_at 32 y).0 (cut_at 32 y).1 h (cut_clean 32 y)
    (is ∙ ap (λ z. some_text (spaced a (spaced b (spaced c (spaced d (spaced e z)))))) (cut_back 32 y))

cut_mode : (t : Option (List ℕ)) (a b c d : List ℕ) (o : Option (List ℕ))
    → t ≡ Some (spaced a (spaced b (spaced c (rejoined 32 d o))))
    → CutIn t (next_word o >>= λ e. last_word e.1 >>= λ f. Ok
    (record { name = a; send = b; expected = c; mode = d; size = e.0; window = f }))
cut_mode t a b c d None is = inl refl
cut_mode t a b c d (Some y) is = cut_size t a b c d (cut_at 32 y).0 (cut_at 32 y).1 (cut_clean 32 y)
    (is ∙ ap (λ z. some_text (spaced a (spaced b (spaced c (spaced d z))))) (cut_back 32 y))

cut_expected : (t : Option (List ℕ)) (a b c : List ℕ) (o : Option (List ℕ))
    → t ≡ Some (spaced a (spaced b (rejoined 32 c o)))
    → CutIn t (next_word o >>= λ d. next_word d.1 >>= λ e. last_word e.1 >>= λ f. Ok
    (record { name = a; send = b; expected = c; mode = d.0; size = e.0; window = f }))
cut_expected t a b c None is = inl refl
cut_expected t a b c (Some y) is =
    cut_mode t a b c (cut_at 32 y).0 (cut_at 32 y).1
    (is ∙ ap (λ z. some_text (spaced a (spaced b (spaced c z)))) (cut_back 32 y))

cut_send : (t : Option (List ℕ)) (a b : List ℕ) (o : Option (List ℕ)) → t ≡ Some (spaced a (rejoined 32 b o))
    → CutIn t (next_word o >>= λ c. next_word c.1 >>= λ d. next_word d.1 >>= λ e. last_word e.1 >>= λ f. Ok
    (record { name = a; send = b; expected = c.0; mode = d.0; size = e.0; window = f }))
cut_send t a b None is = inl refl
cut_send t a b (Some y) is = cut_expected t a b (cut_at 32 y).0 (cut_at 32 y).1
    (is ∙ ap (λ z. some_text (spaced a (spaced b z))) (cut_back 32 y))

cut_name : (t : Option (List ℕ)) (a : List ℕ) (o : Option (List ℕ)) → t ≡ Some (rejoined 32 a o)
    → CutIn t (next_word o >>= λ b. next_word b.1 >>= λ c. next_word c.1 >>= λ d. next_word d.1 >>= λ e. last_word e.1
    >>= λ f. Ok (record { name = a; send = b.0; expected = c.0; mode = d.0; size = e.0; window = f }))
cut_name t a None is = inl refl
cut_name t a (Some y) is = cut_send t a (cut_at 32 y).0 (cut_at 32 y).1
    (is ∙ ap (λ z. some_text (spaced a z)) (cut_back 32 y))

peer_is_cut : (x : List ℕ) → CutIn (Some x) (peer_cut (Some x))
peer_is_cut x = cut_name (Some x) (cut_at 32 x).0 (cut_at 32 x).1 (ap some_text (cut_back 32 x))

some_text_is : (x y : List ℕ) → some_text x ≡ some_text y → x ≡ y
some_text_is x y e = cc

peer_wordless : (p : PeerText) → are_peer_words p ≡ false → peer_words p ≡ wrong_word
unfolding peer_words
peer_wordless p h = rw h refl

peer_decided : (line x : List ℕ) → line ≡ codes "peer " ++ x → Decided line (peer_line (Some x))
unfolding peer_line
peer_decided line x e =
    elim (peer_is_cut x) [
      | inl r ↦ inl (ap (λ y. y >>= peer_words) r)
      | inr f ↦ elim (cases_Bool (are_peer_words f.0)) [
        | inl good ↦ inr (
          PeerLine f.0,
          (
            record { words = good; size = f.1.1.size; window = f.1.1.window },
            e
                ∙ ap (λ y. codes "peer " ++ y) (some_text_is x (peer_text f.0) f.1.1.text_is),
          ),
        )
        | inr other ↦ inl (ap (λ y. y >>= peer_words) f.1.0 ∙ peer_wordless f.0 other)
      ]
    ]

-- ---- routes

before_decided : (line : List ℕ) (o : Option (List ℕ)) (word : List ℕ) → line ≡ codes "route "
    ++ spaced (rejoined_last 32 o (codes "peer")) word → Decided line (before_peer o word)
before_decided line None word e = inl refl
before_decided line (Some text) word e =
    elim (cases_Bool (is_word word)) [
      | inl good ↦ inr (RouteLineTo text word, (good, e))
      | inr other ↦ inl (rw other refl)
    ]

hop_decided : (line front last : List ℕ) → line ≡ codes "route " ++ spaced front last
    → Decided line (route_hop front last (cut_last 32 front))
hop_decided line front last e =
    let cut = cut_last 32 front in
    let back : front ≡ rejoined_last 32 cut.0 cut.1 = last_back 32 front in
    elim (cases_Bool (bytes_eq cut.1 (codes "peer"))) [
      | inl p ↦ rw p (before_decided line cut.0 last
          (e ∙ ap (λ y. codes "route " ++ spaced y last)
          (back ∙ ap (rejoined_last 32 cut.0) ((bytes_eq-Decides cut.1 (codes "peer")).0 p))))
      | inr p ↦ elim (cases_Bool (bytes_eq last (codes "here"))) [
        | inl h ↦ rw (p, h) (inr (
          HereLine front,
          (
            no_peer front cut p refl,
            e ∙ ap (λ y. codes "route " ++ spaced front y)
                ((bytes_eq-Decides last (codes "here")).0 h),
          ),
        ))
        | inr h ↦ rw (p, h) (inl refl)
      ]
    ]
  where
    peers : List ℕ
    peers = codes "peer"

    no_peer : (text : List ℕ) (cut : Option (List ℕ) × List ℕ) → bytes_eq cut.1 (codes "peer") ≡ false
        → cut_last 32 text ≡ cut → EndsInPeer text → ⊥
    no_peer text cut p is (alone e) =
        let a : cut ≡ (None, codes "peer") = sym is ∙ ap (cut_last 32) e
        ∙ last_none 32 (codes "peer") (none_of (other_than 32) 32 (codes "peer") refl refl) in
        let b : bytes_eq (codes "peer") (codes "peer") ≡ false =
        subst (λ (c : Option (List ℕ) × List ℕ). bytes_eq c.1 (codes "peer") ≡ false) a p in
        absurd cc
    no_peer text cut p is (behind front e) =
        let a : cut ≡ (Some front, codes "peer") = sym is ∙ ap (cut_last 32) e
        ∙ last_made 32 front (codes "peer") (none_of (other_than 32) 32 (codes "peer") refl refl) in
        let b : bytes_eq (codes "peer") (codes "peer") ≡ false =
        subst (λ (c : Option (List ℕ) × List ℕ). bytes_eq c.1 (codes "peer") ≡ false) a p in
        absurd cc

route_parts : (line : List ℕ) (o : Option (List ℕ)) (last : List ℕ) → line ≡ codes "route " ++ rejoined_last 32 o last
    → Decided line (route_cut o last)
route_parts line None last e = inl refl
route_parts line (Some front) last e = hop_decided line front last e

route_decided : (line x : List ℕ) → line ≡ codes "route " ++ x → Decided line (route_line x)
unfolding route_line
route_decided line x e = route_parts line (cut_last 32 x).0 (cut_last 32 x).1
    (e ∙ ap (λ y. codes "route " ++ y) (last_back 32 x))

-- ---- hold times

grade_found : (w : List ℕ) (g : Grade) → grade_of w ≡ Some g → w ≡ grade_text g
grade_found w g e =
    elim (cases_Bool (bytes_eq w (codes "urgent"))) [
      | inl a ↦ (let f : Some Grades.Urgent ≡ Some g = rw a at e in (bytes_eq-Decides w (codes "urgent")).0 a
          ∙ ap grade_text (some_grade Grades.Urgent g f))
      | inr a ↦ elim (cases_Bool (bytes_eq w (codes "normal"))) [
        | inl b ↦ (let f : Some Grades.Normal ≡ Some g = rw (a, b) at e in (bytes_eq-Decides w (codes "normal")).0 b
            ∙ ap grade_text (some_grade Grades.Normal g f))
        | inr b ↦ elim (cases_Bool (bytes_eq w (codes "non-urgent"))) [
          | inl c ↦ (let f : Some Grades.NonUrgent ≡ Some g = rw (a, b, c) at e in
              (bytes_eq-Decides w (codes "non-urgent")).0 c ∙ ap grade_text (some_grade Grades.NonUrgent g f))
          | inr c ↦ (let f : None ≡ Some g = rw (a, b, c) at e in absurd cc)
        ]
      ]
    ]
  where
    some_grade : (g h : Grade) → Some g ≡ Some h → g ≡ h
    some_grade g h e = cc

hold_parts : (line word x : List ℕ) (o : Option Grade) → grade_of word ≡ o → HasNo 32 x → line ≡ codes "hold "
    ++ spaced word x → Decided line (hold_words word x)
unfolding hold_words
hold_parts line word x None h k e = inl (rw h refl)
hold_parts line word x (Some g) h k e =
    elim (cases_Bool (is_filled x)) [
      | inl filled ↦ inr (HoldLine g x, (filled, (k, e ∙ ap (λ y. codes "hold " ++ spaced y x) (grade_found word g h))))
      | inr empty ↦ inl (rw (h, empty) refl)
    ]

hold_last : (line word x : List ℕ) (o : Option (List ℕ)) → HasNo 32 x → line ≡ codes "hold "
    ++ spaced word (rejoined 32 x o) → Decided line (ending x o >>= hold_words word)
hold_last line word x None k e = hold_parts line word x (grade_of word) refl k e
hold_last line word x (Some y) k e = inl refl

hold_cut : (line word : List ℕ) (o : Option (List ℕ)) → line ≡ codes "hold " ++ rejoined 32 word o
    → Decided line (last_word o >>= hold_words word)
hold_cut line word None e = inl refl
hold_cut line word (Some y) e = hold_last line word (cut_at 32 y).0 (cut_at 32 y).1 (cut_clean 32 y)
    (e ∙ ap (λ z. codes "hold " ++ spaced word z) (cut_back 32 y))

hold_decided : (line x : List ℕ) → line ≡ codes "hold " ++ x → Decided line (hold_line (Some x))
unfolding hold_line
hold_decided line x e = hold_cut line (cut_at 32 x).0 (cut_at 32 x).1 (e ∙ ap (λ y. codes "hold " ++ y) (cut_back 32 x))

-- ---- all lines

abbrev some_command : Command → Option Command
some_command k = Some k

chosen : (w t : List ℕ) (a k : Command) (rest : Option Command) → cond (bytes_eq w t) (Some a) rest ≡ Some k
    → ((w ≡ t) × (a ≡ k)) ⊎ (rest ≡ Some k)
chosen w t a k rest e =
    elim (cases_Bool (bytes_eq w t)) [
      | inl same ↦ (let f : some_command a ≡ some_command k = rw same at e in
          inl ((bytes_eq-Decides w t).0 same, command_is a k f))
      | inr other ↦ inr (rw other at e)
    ]
  where
    command_is : (a b : Command) → some_command a ≡ some_command b → a ≡ b
    command_is a b e = cc

named_so : (w : List ℕ) (a k : Command) → (w ≡ command_text a) × (a ≡ k) → w ≡ command_text k
named_so w a k h = h.0 ∙ ap command_text h.1

command_found : (w : List ℕ) (k : Command) → command_of w ≡ Some k → w ≡ command_text k
command_found w k e =
    elim (chosen w (codes "domain") Commands.Domain k _ e) [
      | inl h ↦ named_so w Commands.Domain k h
      | inr e ↦
          elim (chosen w (codes "name") Commands.Name k _ e) [
            | inl h ↦ named_so w Commands.Name k h
            | inr e ↦
                elim (chosen w (codes "peer") Commands.Peer k _ e) [
                  | inl h ↦ named_so w Commands.Peer k h
                  | inr e ↦
                      elim (chosen w (codes "mailbox") Commands.Mailbox k _ e) [
                        | inl h ↦ named_so w Commands.Mailbox k h
                        | inr e ↦
                            elim (chosen w (codes "list") Commands.List k _ e) [
                              | inl h ↦ named_so w Commands.List k h
                              | inr e ↦
                                  elim (chosen w (codes "from") Commands.From k _ e) [
                                    | inl h ↦ named_so w Commands.From k h
                                    | inr e ↦
                                        elim (chosen w (codes "member") Commands.Member k _ e) [
                                          | inl h ↦ named_so w Commands.Member k h
                                          | inr e ↦
                                              elim (chosen w (codes "route") Commands.Route k _ e) [
                                                | inl h ↦ named_so w Commands.Route k h
                                                | inr e ↦
                                                    elim (chosen w (codes "hold") Commands.Hold k _ e)
                                                    [ inl h ↦ named_so w Commands.Hold k h | inr e ↦ absurd cc ]
                                              ]
                                        ]
                                  ]
                            ]
                      ]
                ]
          ]
    ]

said_decided : (line : List ℕ) (k : Command) (t : Option (List ℕ)) → line ≡ rejoined 32 (command_text k) t
    → Decided line (said_of k t)
unfolding mailbox_line list_line from_line member_line peer_line hold_line
said_decided line Commands.Domain None e = inl refl
said_decided line Commands.Domain (Some x) e = inr (DomainLine x, e)
said_decided line Commands.Name None e = inl refl
said_decided line Commands.Name (Some x) e = name_decided line x e
said_decided line Commands.Peer None e = inl refl
said_decided line Commands.Peer (Some x) e = peer_decided line x e
said_decided line Commands.Mailbox None e = inl refl
said_decided line Commands.Mailbox (Some x) e = mailbox_decided line x e
said_decided line Commands.List None e = inl refl
said_decided line Commands.List (Some x) e = list_decided line x e
said_decided line Commands.From None e = inl refl
said_decided line Commands.From (Some x) e = from_decided line x e
said_decided line Commands.Member None e = inl refl
said_decided line Commands.Member (Some x) e = member_decided line x e
said_decided line Commands.Route None e = inl refl
said_decided line Commands.Route (Some x) e = route_decided line x e
said_decided line Commands.Hold None e = inl refl
said_decided line Commands.Hold (Some x) e = hold_decided line x e

command_decided : (line w : List ℕ) (o : Option Command) (t : Option (List ℕ)) → command_of w ≡ o
    → line ≡ rejoined 32 w t → Decided line (said_if o t)
command_decided line w None t h e = inl refl
command_decided line w (Some k) t h e = said_decided line k t (e ∙ ap (λ v. rejoined 32 v t) (command_found w k h))

-- a line has words, or it is refused for them
pub line_decided : (line : List ℕ) → Decided line (line_of line)
unfolding line_of
line_decided line =
    elim (cases_Bool (is_silent line)) [
      | inl silent ↦ inr (SilentLine, silent)
      | inr other ↦ rw other (command_decided line (cut_at 32 line).0 (command_of (cut_at 32 line).0)
          (cut_at 32 line).1 refl (cut_back 32 line))
    ]
