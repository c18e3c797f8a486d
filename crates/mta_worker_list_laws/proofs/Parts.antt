-- What was done with a link is in parts of the history.
use Rattle.std.proofs.Common.{◌≡◌, ℕ, Some, List, [], ◌∷◌, ◌++◌, length, refl, sym, ap, subst, ◌∙◌}
use Rattle.std.proofs.Common.{append_assoc, append-nil, arith}
use Rattle.mta_links.specs.Links.{LinkView}
use Rattle.mta_transfer_rules.specs.Lanes.{CloseLane, On, Seen, SeenStep}
use Rattle.mta_session.specs.declared.event.Action.TheVariants as action
use Rattle.mta_worker_list_laws.specs.Begun.{begun_by, made_over}
use Rattle.mta_worker_list_laws.specs.Histories.{place, whole}
use Rattle.mta_worker_list_laws.specs.Leads.{made_in}
use Rattle.mta_worker_list_laws.specs.Linked.{AreClosings, Began, None_began}
use Rattle.mta_worker_list_laws.specs.Parts.{AreForNone, IsForNone, LinksHaveParts, plain}
use Rattle.mta_worker_list_laws.specs.Segments.{IsOwnStep, IsSegment}
use Rattle.mta_worker_list_laws.proofs.Sessions.{sessions_are_segments}

-- a lane that is closed concerns no pieces
closes_none : (l m g h : ℕ) (step : SeenStep) → Some (On l (CloseLane g)) ≡ Some (On m step) → IsOwnStep h step → ⊥
closes_none l m g h step e piece =
    let same : CloseLane g ≡ step = cc in
    subst (λ (z : SeenStep). IsOwnStep h z) (sym same) piece

pub closings_plain : (history : List Seen) (n : ℕ) (ks : List ℕ) → AreClosings history n ks
    → IsSegment history n (plain ks)
closings_plain history n ks are = record {
  begins = tt;
  lists = λ k lane g step hit get piece.
      let closed = are k hit in
      closes_none closed.0 lane closed.1 g step (sym closed.2 ∙ get) piece;
  once = λ k lane g hit begins. tt;
}

seen_same : (x y : Seen) → Some x ≡ Some y → x ≡ y
seen_same x y e = cc

pub closings_for_none : (history : List Seen) (n : ℕ) (ks : List ℕ) → AreClosings history n ks
    → AreForNone history n (plain ks)
closings_for_none history n ks are = record {
  none = refl;
  entries = λ k x hit get.
      let closed = are k hit in
      subst IsForNone (seen_same (On closed.0 (CloseLane closed.1)) x (sym closed.2 ∙ get)) tt;
}

module _ {L : Type 0} (links : LinkView L) where
  pub links_have_parts : LinksHaveParts links
  links_have_parts spells first entries role old new p q served (None_began closings are none owns same) = record {
    parts = plain closings ∷ [];
    are = (closings_plain (whole first entries) (length first) closings are, tt);
    owns = owns ∙ ap (λ (ns : List ℕ). p.own ++ ns) (sym (append-nil closings));
    of_it = refl;
  }
  links_have_parts spells first entries role old new p q served
      (Began closings t begun calls ran of_role are owns later after) =
      let n : ℕ = length first in
      let s = sessions_are_segments spells (whole first entries) n (place first begun) (place first ran.done.mid)
      (place first q) t ran.done.last ran.done.wanted calls ran.begins ran.done.over (omega (arith, later))
      ran.done.leads in
      let made : List ℕ = made_in n action.Read calls in
      let behind : List ℕ = made_over n ran.done.over in
      let opened : List ℕ = begun_by n ran.begins in
      let own : q.own ≡ ((p.own ++ (closings ++ opened)) ++ made) ++ behind =
      ran.done.owns_over ∙ ap (λ (ns : List ℕ). ns ++ behind) ran.done.owns
      ∙ ap (λ (ns : List ℕ). (ns ++ made) ++ behind) owns in
      let joined : ((p.own ++ (closings ++ opened)) ++ made) ++ behind
      ≡ p.own ++ (closings ++ (opened ++ (made ++ behind))) =
      append_assoc (p.own ++ (closings ++ opened)) made behind
      ∙ append_assoc p.own (closings ++ opened) (made ++ behind)
      ∙ ap (λ (ns : List ℕ). p.own ++ ns) (append_assoc closings opened (made ++ behind)) in
      let parts_own : s.0.own ++ [] ≡ opened ++ (made ++ behind) = append-nil s.0.own ∙ s.1.own in
      record {
        parts = plain closings ∷ s.0 ∷ [];
        are = (closings_plain (whole first entries) n closings are, (s.2, tt));
        owns = own ∙ joined ∙ ap (λ (ns : List ℕ). p.own ++ (closings ++ ns)) (sym parts_own);
        of_it = (s.0, refl, s.1);
      }
