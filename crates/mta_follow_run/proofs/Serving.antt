-- A session over the next link of a station.
use Rattle.std.proofs.Common.{◌≡◌, ℕ, List, [], ◌∷◌, ◌++◌, Some, sym, ap, ◌∙◌}
use Rattle.std.proofs.Common.{Result, Ok, Err}
use Rattle.std.specs.Prelude.{IfErr}
use Rattle.mta_links.specs.Links.{Ends, Gives, Leads, LeadsBack, LinkView, NoneLeft, Served, Session, StationView}
use Rattle.mta_links.specs.Links.{Talk}
use Rattle.mta_follow_run.specs.Talks.{Carries, HasNoLink, HasServed, HasSession, Talks, none_left}

module _ {L S : Type 0} (links : LinkView L) (stations : StationView S) (old mid new : S) (begun link : L) where
  -- the link that the station gave came back
  pub served : (got put : List ℕ)
      → Leads (Gives (links.talk begun) (links.faults begun)) (stations.served old) (stations.served mid)
      → Talks links got put begun link → LeadsBack links link (stations.served mid) (stations.served new)
      → HasServed stations got put old new
  served got put gives talks back f g was now =
      let x = gives.each f was in
      let t = x.2.first in
      let u = talks.carried.each t.0 t.1 in
      let y = (back u.0 u.1).each x.0 x.1 in
      session f x.0 y.0 g (cc (y.1, now)) x.2 t u.0 u.2 y.2
    where
      session : (f m h g : Served) → h ≡ g → Gives (links.talk begun) (links.faults begun) f m
          → (t : (t : Talk) × (links.talk begun ≡ Some t)
          × (f.to_come ≡ record { talk = t; faults = links.faults begun } ∷ m.to_come))
          → (u : Talk) → Carries got put t.0 u → Ends u (links.faults link) m h → HasSession got put f g
      session f m h g same gave t u carried ends = record {
        first = record { talk = t.0; faults = links.faults begun };
        last = record { talk = u; faults = links.faults link };
        given =
            t.2 ∙ ap (λ (l : List Session). record { talk = t.0; faults = links.faults begun } ∷ l) (sym ends.to_come
            ∙ ap (λ (s : Served). s.to_come) same);
        over =
            sym (ap (λ (s : Served). s.over) same) ∙ ends.over
            ∙ ap (λ (l : List Session). l ++ record { talk = u; faults = links.faults link } ∷ []) gave.over;
        carried = carried;
      }

module _ {S : Type 0} (stations : StationView S) (old new : S) where
  -- the station has no link
  pub no_link : Leads NoneLeft (stations.served old) (stations.served new) → HasNoLink stations old new
  no_link leads = none_left (λ f was. let x = leads.each f was in x.2.0)

-- what an error says
pub err_weaker : {T E : Type 0} (r : Result T E) (P Q : E → Type 0) → ((e : E) → P e → Q e) → IfErr r P → IfErr r Q
err_weaker (Ok t) P Q less h = tt
err_weaker (Err e) P Q less h = less e h
