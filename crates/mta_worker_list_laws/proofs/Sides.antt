-- Sessions of one lane are on one side.
use Rattle.std.proofs.Common.{◌≡◌, ◌⊎◌, ℕ, ◌≤◌, Bool, true, false, List, [], ◌∷◌, ◌++◌, Option, Some, refl, sym, ap}
use Rattle.std.proofs.Common.{subst, ◌∙◌, inl, inr, arith}
use Rattle.mta_links.specs.declared.role.Role.{Role}
use Rattle.mta_links.specs.declared.role.Role.TheVariants as Roles
use Rattle.mta_transfer_rules.specs.Lanes.{Seen}
use Rattle.mta_links.specs.Links.{LinkView}
use Rattle.mta_records.specs.declared.lane.LaneRole.{LaneRole}
use Rattle.mta_records.specs.declared.lane.LaneRole.TheVariants.{Initiator, Responder}
use Rattle.mta_records.specs.declared.step.Step.{Step}
use Rattle.mta_histories.specs.History.{after, after_from, IsHistory}
use Rattle.mta_histories.specs.Kept.{IsKept}
use Rattle.mta_histories.specs.Lanes.{Lane, State as Spool, lane_at}
use Rattle.mta_histories.proofs.Keeps.{histories_keep, steps_keep}
use Rattle.mta_histories.proofs.LaneLists.{number-at, number-within}
use Rattle.mta_lane_match_laws.specs.Matches.{WhereOpen}
use Rattle.mta_lane_match_laws.proofs.Staying.{lanes_keep_roles}
use Rattle.mta_transfer_laws.specs.Sessions.{SessionList}
use Rattle.mta_session.specs.State.{is_initiator, State}
use Rattle.mta_session_list_laws.specs.Calls.{Call, StepOn}
use Rattle.mta_session_list_laws.specs.Lists.{Initiates, IsListOf, Responds, step_by}
use Rattle.mta_session_list_laws.proofs.Found.{never}
use Rattle.mta_worker_list_laws.specs.Begun.{Calls, IsCalledOn, IsNewAt, Listens}
use Rattle.mta_worker_list_laws.specs.Histories.{whole}
use Rattle.mta_worker_list_laws.specs.Parts.{IsSession}
use Rattle.mta_worker_list_laws.specs.Roles.{AreGiven, IsOpenAs, WasOpenAs, WasOpenTo}
use Rattle.mta_worker_list_laws.specs.Segments.{ListsAs, OnLane, Segment, told_over}
use Rattle.mta_worker_list_laws.specs.Sides.{SidesAgree}
use Rattle.mta_worker_list_laws.proofs.Annotating.{after_all, front_history, rest_history}
use Rattle.mta_worker_list_laws.proofs.Peers.{fronts, opened_to}

-- ---- the role of a lane

role_stays : (r q : LaneRole) (n : ℕ) (xs more : List Step) → IsHistory (xs ++ more) → IsOpenAs r n (after xs)
    → IsOpenAs q n (after (xs ++ more)) → r ≡ q
role_stays r q n xs more history a b =
    let kept : IsKept (after xs) = histories_keep xs (front_history xs more history) in
    let at : n ≡ a.now.number = number-at (after xs).lanes.open_lanes n a.now a.now_is in
    let below : a.now.number ≤ (after xs).lanes.count =
    number-within 0 (after xs).lanes.open_lanes (after xs).lanes.count n a.now kept.numbered_lanes a.now_is in
    let before : WhereOpen (λ lane. lane.role ≡ r) (lane_at n (after xs).lanes.open_lanes) =
    subst (λ (o : Option Lane). WhereOpen (λ lane. lane.role ≡ r) o) (sym a.now_is) a.role_is in
    let then : WhereOpen (λ lane. lane.role ≡ r) (lane_at n (after_from (after xs) more).lanes.open_lanes) =
    lanes_keep_roles steps_keep n r (after xs) more kept (rest_history xs more history) (omega (arith, at, below))
    before in
    let here : lane_at n (after_from (after xs) more).lanes.open_lanes ≡ Some b.now =
    ap (λ (s : Spool). lane_at n s.lanes.open_lanes) (sym (after_all xs more)) ∙ b.now_is in
    let same : b.now.role ≡ r =
    subst (λ (o : Option Lane). WhereOpen (λ lane. lane.role ≡ r) o) here then in
    sym same ∙ b.role_is

pub was_same : (r q : LaneRole) (n : ℕ) (steps : List Step) → IsHistory steps → WasOpenAs r n steps
    → WasOpenAs q n steps → r ≡ q
was_same r q n steps history a b =
    elim (fronts a.before a.behind b.before b.behind (a.parts ∙ sym b.parts)) [
      | inl f ↦ role_stays r q n a.before f.0
          (front_history (a.before ++ f.0) b.behind
          (subst IsHistory (sym (ap (λ (xs : List Step). xs ++ b.behind) (sym f.1) ∙ b.parts)) history)) a.opened
          (subst (λ (xs : List Step). IsOpenAs q n (after xs)) f.1 b.opened)
      | inr f ↦ sym (role_stays q r n b.before f.0
          (front_history (b.before ++ f.0) a.behind
          (subst IsHistory (sym (ap (λ (xs : List Step). xs ++ a.behind) (sym f.1) ∙ a.parts)) history)) b.opened
          (subst (λ (xs : List Step). IsOpenAs r n (after xs)) f.1 a.opened))
    ]

-- ---- the side of a session

abbrev pub role_of : Bool → LaneRole
role_of true = Initiator
role_of false = Responder

side_is : (a b : Bool) → role_of a ≡ role_of b → a ≡ b
side_is true true e = refl
side_is false false e = refl
side_is true false e = absurd (let f : Initiator ≡ Responder = e in cc)
side_is false true e = absurd (let f : Responder ≡ Initiator = e in cc)

-- a session of an initiator is of a station that calls a peer, to which its lane was opened
pub record CallsPeer (r : Role) (lane : ℕ) (steps : List Step) : Type 0 where
  pub peer : List ℕ
  pub role_is : r ≡ Roles.Out peer
  pub opened : WasOpenTo peer lane steps

pub called_by : {history : List Seen} {from : ℕ} {t : State} (steps : List Step) (r : Role)
    (new : IsNewAt history from t) → IsCalledOn steps r new → is_initiator t.side ≡ true → CallsPeer r t.lane steps
called_by steps (Roles.Out peer) (Calls p units at from is has opens) c i =
    record { peer = peer; role_is = refl; opened = c }
called_by steps Roles.In (Calls p units at from is has opens) c i = absurd c
called_by steps (Roles.Out peer) (Listens own units from) c i = absurd c
called_by steps Roles.In (Listens own units from) c i = absurd (never i)

called_lane : {history : List Seen} {from : ℕ} {t : State} (steps : List Step) (r : Role) (new : IsNewAt history from t)
    → IsCalledOn steps r new → is_initiator t.side ≡ true → WasOpenAs Initiator t.lane steps
called_lane steps r new c i = let by = called_by steps r new c i in opened_to by.peer _ steps by.opened

given_lane : (steps : List Step) (before calls : List Call) (c : Call) (x : StepOn)
    → AreGiven steps (before ++ c ∷ calls) → step_by c.turn.before.phase c.turn.event c.turn.after ≡ Some x
    → WasOpenAs Responder c.turn.after.lane steps
given_lane steps [] calls c x g e = g.0 x e
given_lane steps (b ∷ bs) calls c x g e = given_lane steps bs calls c x g.1 e

pub listed_lane : (spells : List ℕ → Bool) (history : List Seen) (steps : List Step) (t : State) (calls : List Call)
    (lane : ℕ) (l : SessionList) → IsListOf spells history t calls lane l → AreGiven steps calls
    → ((is_initiator t.side ≡ true) × (lane ≡ t.lane))
    ⊎ ((is_initiator t.side ≡ false) × WasOpenAs Responder lane steps)
listed_lane spells history steps t calls lane l (Initiates p units at cs has come) g = inl (refl, refl)
listed_lane spells history steps t calls lane l (Responds own units at before cs c x by seen has come) g =
    inr (refl, given_lane steps before cs c x g by)

pub had_role : {L : Type 0} {links : LinkView L} {spells : List ℕ → Bool} {first entries : List Step} {s : Segment}
    (x : IsSession links spells first entries s) (on : OnLane) → s.list ≡ Some on
    → WasOpenAs (role_of (is_initiator x.new.side)) on.lane (first ++ entries)
had_role {spells = spells} {first = first} {entries = entries} x on has =
    let steps : List Step = first ++ entries in
    let listed : ListsAs spells (whole first entries) x.new x.calls (told_over x.ran.done.over) (Some on) =
    subst (λ (o : Option OnLane). ListsAs spells (whole first entries) x.new x.calls (told_over x.ran.done.over) o)
    has x.of_it.list in
    elim (listed_lane spells (whole first entries) steps x.new x.calls on.lane listed.0 listed.1 x.ran.done.given) [
      | inl i ↦ subst (λ (b : Bool). WasOpenAs (role_of b) on.lane steps) (sym i.0)
          (subst (λ (n : ℕ). WasOpenAs Initiator n steps) (sym i.1)
          (called_lane steps x.ran.role x.ran.begins x.ran.called i.0))
      | inr i ↦ subst (λ (b : Bool). WasOpenAs (role_of b) on.lane steps) (sym i.0) i.1
    ]

pub sides_agree : {L : Type 0} (links : LinkView L) → SidesAgree links
sides_agree links spells first entries s r x y on other history has had same =
    side_is (is_initiator x.new.side) (is_initiator y.new.side)
    (was_same (role_of (is_initiator x.new.side)) (role_of (is_initiator y.new.side)) on.lane (first ++ entries) history
    (had_role x on has)
    (subst (λ (n : ℕ). WasOpenAs (role_of (is_initiator y.new.side)) n (first ++ entries)) (sym same)
    (had_role y other had)))
