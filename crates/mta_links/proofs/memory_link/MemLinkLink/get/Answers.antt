use Rattle.std.proofs.Common.{◌≡◌, ◌≤◌, ◌⊎◌, ◌+◌, ℕ, List, length, take, drop, Some, subst}
use Rattle.mta_links.specs.Held.{HeldLink}
use Rattle.mta_links.specs.Links.{Gets, Leads, Talk}
use Rattle.mta_links.proofs.Carried.{gets, talk_at}
use Rattle.mta_links.proofs.Told.{leads}
use Rattle.mta_links.proofs.memory_link.MemLinkLink.get.Goals as goal

pub returns-clause-got : goal.returns-clause-got
returns-clause-got c =
    let l = c.self.inside in
    let n = c.give-count.result in
    let into = c.give-count.new.into in
    let gave = c.give-count.ensures in
    let same : c.as_slice.result.now ≡ l.input = c.as_slice.ensures in
    let fits : n ≤ length (drop l.at l.input) = subst (λ (f : List ℕ). n ≤ length (drop l.at f)) same gave.fits in
    let moved : take n into ≡ take n (drop l.at l.input) =
    subst (λ (f : List ℕ). take n into ≡ take n (drop l.at f)) same gave.moved in
    let most : (n ≡ length into) ⊎ (n ≡ length (drop l.at l.input)) =
    subst (λ (f : List ℕ). (n ≡ length into) ⊎ (n ≡ length (drop l.at f))) same gave.most in
    let before : Talk = talk_at l.input l.at l.put in
    let after : Talk = talk_at l.input (l.at + n) l.put in
    subst (λ (d : HeldLink). Leads (Gets n into) (Some d.talk) (Some after)) c.self.view_is
    (leads (Gets n into) before after (gets l.input l.at n l.put into fits moved most))
