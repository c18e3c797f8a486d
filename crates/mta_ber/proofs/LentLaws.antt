-- What readers answer that lend a part of an element.
use Rattle.std.proofs.Common.{◌≡◌, ℕ, suc, ◌+◌, ◌-◌, ◌≤◌, Bool, true, false, cond, List, [], ◌∷◌, ◌++◌, length, Option}
use Rattle.std.proofs.Common.{Some, None, Result, Ok, Err, refl, sym, ap, subst, ◌∙◌, arith}
use Rattle.std.specs.Prelude.{IfOk, IfSome, IsOkAnd, IsSomeAnd}
use Rattle.std.specs.Borrow.{Bor}
use Rattle.mta_ber.specs.declared.fault.Fault.{Fault}
use Rattle.mta_ber.specs.declared.fault.Kind.TheVariants.{BadTag}
use Rattle.mta_ber.specs.declared.tag.Tag.{Tag}
use Rattle.mta_ber.specs.declared.view.View.{View}
use Rattle.mta_ber.specs.Head.{fault}
use Rattle.mta_ber.specs.Element.{Part, part, inner, nothing_at, alone}
use Rattle.mta_ber.specs.Octet.{IsOctets}
use Rattle.mta_ber.specs.Oid.{oid_in, SpellsOid}
use Rattle.mta_ber.specs.Seen.{Gives, view}
use Rattle.mta_ber.specs.Segmented.{AddsOctets, SpellsString, SpellsOctets}
use Rattle.mta_ber.specs.Spelling.{Stands, IsLentAt}
use Rattle.mta_ber.specs.Explicit.{StandsInside}
use Rattle.mta_ber.proofs.OidLaws.{oid_sound, oid_full}
use Rattle.mta_ber.proofs.RowLaws.{part_sound, stands_again, standing_lent, lent_part, part_is}
use Rattle.mta_ber.proofs.RoundTrip.{no_part}
use Rattle.mta_ber.proofs.Steps.{bind_ok, taken, ok_is}
use Rattle.mta_ber.proofs.StringLaws.{octets_spelled}

abbrev Lent : Type 0
Lent = Bor (List ℕ)

-- ---- object identifiers

pub oid_found : (p : Part) (r : Result Lent Fault) → Gives (λ c. c.now) r (oid_in p)
    → IfOk r (λ c. SpellsOid p.tag.constructed p.content c.now)
oid_found p (Ok c) g = oid_sound p c.now g
oid_found p (Err f) g = tt

pub oid_only : (p : Part) (r : Result Lent Fault) → Gives (λ c. c.now) r (oid_in p) → (o : List ℕ)
    → SpellsOid p.tag.constructed p.content o → IsOkAnd r (λ c. c.now ≡ o)
oid_only p (Ok c) g o h = ok_is c.now o (sym g ∙ oid_full p o h)
oid_only p (Err f) g o h = absurd (let k = sym g ∙ oid_full p o h in cc)

-- ---- a plain content

pub plain_found : (depth : ℕ) (constructed : Bool) (c : Lent) (r : Option Lent) → depth ≤ 16
    → r ≡ cond constructed None (Some c) → IfSome r (λ c'. (own : ℕ) → SpellsOctets own depth constructed c.now c'.now)
plain_found depth true c r d e = subst (λ r. IfSome r (λ c'. (own : ℕ) → SpellsOctets own depth true c.now c'.now))
    (sym e) tt
plain_found depth false c r d e = subst (λ r. IfSome r (λ c'. (own : ℕ) → SpellsOctets own depth false c.now c'.now))
    (sym e) (λ own. octets_spelled own depth c.now d)

pub plain_only : (depth : ℕ) (constructed : Bool) (c : Lent) (r : Option Lent) → depth ≤ 16
    → r ≡ cond constructed None (Some c)
    → (own : ℕ) (o : List ℕ) → constructed ≡ false → SpellsOctets own depth constructed c.now o
    → IsSomeAnd r (λ c'. c'.now ≡ o)
plain_only depth true c r d e own o primitive h = absurd cc
plain_only depth false c r d e own o primitive h =
    let left : 17 - depth ≡ suc (16 - depth) = omega arith in
    let is = subst (λ k. SpellsString AddsOctets 4 own k false true [] c.now o) left h in
    subst (λ r. IsSomeAnd r (λ c'. c'.now ≡ o)) (sym e) (sym is)

-- ---- the element inside an explicit tag

inner_so : (p q : Part) → inner p ≡ Ok q → (p.tag.constructed ≡ true) × (part p.start (p.depth + 1) p.content ≡ Ok q)
unfolding inner
inner_so p q e = taken p.tag.constructed (part p.start (p.depth + 1) p.content) _ q e

inner_full : (p q : Part) → p.tag.constructed ≡ true → part p.start (p.depth + 1) p.content ≡ Ok q → inner p ≡ Ok q
unfolding inner
inner_full p q c e = ap (λ b. cond b (part p.start (p.depth + 1) p.content) (fault p.at BadTag)) c ∙ e

pub inner_found : (p : Part) (r : Result View Fault) → IsOctets p.content → Gives view r (inner p)
    → IfOk r (λ v. StandsInside p.start p.depth p.tag.constructed p.content (view v))
inner_found p (Ok v) octets g = let a = inner_so p (view v) g in
    record { is_constructed = a.0; standing = part_sound p.start (p.depth + 1) p.content (view v) octets a.1 }
inner_found p (Err f) octets g = tt

pub inner_lent : (p : Part) (r : Result View Fault) → IsOctets p.content → Gives view r (inner p)
    → IfOk r (λ v. IsLentAt p.start (view v) p.content)
inner_lent p (Ok v) octets g = let a = inner_so p (view v) g in
    standing_lent p.start (p.depth + 1) (view v) p.content
    (part_sound p.start (p.depth + 1) p.content (view v) octets a.1)
inner_lent p (Err f) octets g = tt

pub inner_only : (p : Part) (r : Result View Fault) → Gives view r (inner p) → (t : Tag) (content octets rest : List ℕ)
    → p.tag.constructed ≡ true → Stands (p.depth + 1) t content octets → p.content ≡ octets ++ rest
    → IsOkAnd r (λ v. (v.tag ≡ t) × (v.content.now ≡ content) × (v.rest.now ≡ rest) × (v.octets.now ≡ octets))
inner_only p r g t content octets rest c h e =
    go r g (inner_full p lent c (ap (part p.start (p.depth + 1)) e
    ∙ stands_again p.start (p.depth + 1) t content octets rest h))
  where
    lent : Part
    lent = lent_part p.start (p.depth + 1) t (length h.header) content rest octets

    go : (r : Result View Fault) → Gives view r (inner p) → inner p ≡ Ok lent
        → IsOkAnd r (λ v. (v.tag ≡ t) × (v.content.now ≡ content) × (v.rest.now ≡ rest) × (v.octets.now ≡ octets))
    go (Ok v) g is =
        let q = part_is (view v) lent (sym g ∙ is) in (
          ap (λ (p : Part). p.tag) q,
          ap (λ (p : Part). p.content) q,
          ap (λ (p : Part). p.rest) q,
          ap (λ (p : Part). p.octets) q,
        )
    go (Err f) g is = absurd (let k = sym g ∙ is in cc)

-- ---- nothing behind it

nothing_so : (at depth : ℕ) (rest : List ℕ) (u : Unit {0}) → nothing_at at depth rest ≡ Ok u → rest ≡ []
nothing_so at depth [] u e = refl
nothing_so at depth (b ∷ bs) u e =
    absurd (let q = bind_ok (part at depth (b ∷ bs)) (λ q. fault q.at BadTag) u e in let k = q.2 in cc)

something_at : (at depth : ℕ) (rest : List ℕ) (q : Part) → part at depth rest ≡ Ok q
    → nothing_at at depth rest ≡ fault q.at BadTag
something_at at depth [] q e = absurd (no_part at depth q e)
something_at at depth (b ∷ bs) q e = rw e refl

pub alone_found : (p : Part) (r : Result (Unit {0}) Fault) → r ≡ alone p → IfOk r (λ u. p.rest ≡ [])
unfolding alone
alone_found p (Ok u) e = nothing_so (p.at + length p.octets) p.depth p.rest u (sym e)
alone_found p (Err f) e = tt

pub alone_only : (p : Part) (r : Result (Unit {0}) Fault) → r ≡ alone p → p.rest ≡ [] → r ≡ Ok tt
unfolding alone
alone_only p r e none = e ∙ ap (nothing_at (p.at + length p.octets) p.depth) none

pub alone_behind : (p : Part) (r : Result (Unit {0}) Fault) → r ≡ alone p → (t : Tag) (content octets more : List ℕ)
    → Stands p.depth t content octets → p.rest ≡ octets ++ more
    → r ≡ Err (record { at = p.at + length p.octets; kind = BadTag })
unfolding alone
alone_behind p r e t content octets more h is =
    let found : part (p.at + length p.octets) p.depth p.rest ≡ Ok
    (lent_part (p.at + length p.octets) p.depth t (length h.header) content more octets) =
    ap (part (p.at + length p.octets) p.depth) is
    ∙ stands_again (p.at + length p.octets) p.depth t content octets more h in
    e ∙ something_at (p.at + length p.octets) p.depth p.rest
    (lent_part (p.at + length p.octets) p.depth t (length h.header) content more octets) found
