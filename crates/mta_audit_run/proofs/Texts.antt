-- Lines that are put one behind the other.
use Rattle.std.proofs.Common.{◌≡◌, ℕ, ◌+◌, ◌≤◌, ◌<◌, take, get_or, subst, Bool, true, false, List, [], ◌∷◌, ◌++◌}
use Rattle.std.proofs.Common.{length, refl, sym, ap, ◌∙◌, append_assoc, Option}
use Rattle.std.specs.Prelude.{◌&&◌}
use Rattle.std.proofs.lemmas.Grind.{flat_map-append}
use Rattle.std.proofs.lemmas.List.{append-nil, take_all, take_more}
use Rattle.mta_audit_run.specs.declared.account.Account.{Account}
use Rattle.mta_audit_run.specs.declared.stop.Spool.{Spool}
use Rattle.mta_audit_run.specs.Lines.{Line, agrees_where_covered, all_agree, lane_lines, line_text, lines_from, text_of}
use Rattle.mta_audit_run.specs.Texts.{Puts}

text-append : (ls ms : List Line) → text_of (ls ++ ms) ≡ text_of ls ++ text_of ms
text-append [] ms = refl
text-append (l ∷ ls) ms =
    ap (λ (t : List ℕ). line_text l ++ t) (text-append ls ms)
    ∙ sym (append_assoc (line_text l) (text_of ls) (text_of ms))

and-assoc : (a b c : Bool) → (a && (b && c)) ≡ ((a && b) && c)
and-assoc true b c = refl
and-assoc false b c = refl

agree-append : (ls ms : List Line) → all_agree (ls ++ ms) ≡ (all_agree ls && all_agree ms)
agree-append [] ms = refl
agree-append (l ∷ ls) ms =
    ap (λ (b : Bool). agrees_where_covered l.half && b) (agree-append ls ms)
    ∙ and-assoc (agrees_where_covered l.half) (all_agree ls) (all_agree ms)

pub puts_none : (text : List ℕ) → Puts [] text text true
puts_none text = record { text = sym (append-nil text); agree = refl }

pub puts_more : (ls ms : List Line) (old mid new : List ℕ) (a b c : Bool) → Puts ls old mid a → Puts ms mid new b
    → c ≡ (a && b) → Puts (ls ++ ms) old new c
puts_more ls ms old mid new a b c first second both = record {
  text = second.text ∙ ap (λ (t : List ℕ). t ++ text_of ms) first.text
      ∙ append_assoc old (text_of ls) (text_of ms) ∙ ap (λ (t : List ℕ). old ++ t) (sym (text-append ls ms));
  agree = both ∙ ap (λ (x : Bool). x && b) first.agree ∙ ap (λ (x : Bool). all_agree ls && x) second.agree
      ∙ sym (agree-append ls ms);
}

-- the lines of one lane more
pub lanes_on : (spool : Spool) (own other : Option (List ℕ)) (begun : Bool) (others xs : List Account) (i : ℕ)
    (x : Account) (old mid new : List ℕ) (a b c : Bool)
    → Puts (lines_from spool own other begun others (take i xs)) old mid a
    → Puts (lane_lines spool own other begun others x) mid new b → c ≡ (a && b) → x ≡ get_or xs i x → i < length xs
    → Puts (lines_from spool own other begun others (take (i + 1) xs)) old new c
lanes_on spool own other begun others xs i x old mid new a b c first second is at inside =
    subst (λ (ls : List Line). Puts ls old new c) (sym whole)
    (puts_more (lines_from spool own other begun others (take i xs)) (lane_lines spool own other begun others x) old mid
    new a b c first second is)
  where
    more : take (i + 1) xs ≡ take i xs ++ x ∷ []
    more = take_more xs i x inside ∙ ap (λ (y : Account). take i xs ++ y ∷ []) (sym at)

    whole : lines_from spool own other begun others (take (i + 1) xs)
        ≡ lines_from spool own other begun others (take i xs) ++ lane_lines spool own other begun others x
    whole = ap (lines_from spool own other begun others) more
        ∙ flat_map-append (lane_lines spool own other begun others) (take i xs) (x ∷ [])
        ∙ ap (λ (ls : List Line). lines_from spool own other begun others (take i xs) ++ ls)
        (append-nil (lane_lines spool own other begun others x))

-- and all of them
pub lanes_all : (spool : Spool) (own other : Option (List ℕ)) (begun : Bool) (others xs : List Account) (i : ℕ)
    (old new : List ℕ) (a : Bool) → Puts (lines_from spool own other begun others (take i xs)) old new a
    → length xs ≤ i → Puts (lines_from spool own other begun others xs) old new a
lanes_all spool own other begun others xs i old new a each all =
    subst (λ (t : List Account). Puts (lines_from spool own other begun others t) old new a) (take_all i xs all) each
