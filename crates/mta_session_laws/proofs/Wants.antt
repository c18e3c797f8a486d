-- What an event calls for: which phases it leads to, what is put and asked, and which answers are due then.
use Rattle.std.proofs.Common.{◌≡◌, ◌⊎◌, ℕ, Bool, true, false, None, Ok, sym}
use Rattle.std.proofs.Common.{◌∙◌}
use Rattle.mta_units.specs.declared.unit.Unit.{Unit as AnyUnit}
use Rattle.mta_units.specs.declared.unit.Unit.TheVariants as unit
use Rattle.mta_transfer_rules.specs.Receiving.{RecvStage}
use Rattle.mta_session.specs.declared.ask.Ask.{Ask}
use Rattle.mta_session.specs.declared.ask.Ask.TheVariants as ask
use Rattle.mta_session.specs.declared.ask.Reply.TheVariants as reply
use Rattle.mta_session.specs.declared.event.Event.{Event}
use Rattle.mta_session.specs.declared.event.Event.TheVariants as event
use Rattle.mta_session.specs.declared.phase.Phase.{Phase}
use Rattle.mta_session.specs.declared.phase.Phase.TheVariants as phase
use Rattle.mta_session.specs.State.{State}
use Rattle.mta_session.specs.Wanted.{Wanted, Aborts, Rejects, Ends, Puts, Asks, Reads, Goes_on, Excepts, Never}
use Rattle.mta_session_laws.specs.Order.{is_due, is_putting, is_asking, IsBusy, IsClosing, IsAtClose}

abbrev pub is_reads : Phase → Bool
is_reads phase.Reads = true
is_reads _ = false

-- a read that an opening or a closing calls for
abbrev pub waits : Phase → Bool
waits phase.ReadsOpen = true
waits phase.ReadsAnswer = true
waits phase.ReadsCloseAck = true
waits _ = false

abbrev pub FoundNone : Event → Type 0
FoundNone e = e ≡ event.Reply (reply.BatchFor (Ok None))

abbrev pub Enters : State → Event → Phase → Type 0
Enters t e phase.PutsClose = FoundNone e
Enters t e phase.ReadsCloseAck = (t.phase ≡ phase.PutsClose) × (e ≡ event.Go)
Enters t e phase.AsksClose = IsAtClose e
Enters t e _ = Unit {0}

abbrev pub Says : State → Event → AnyUnit → Type 0
Says t e unit.Close = FoundNone e
Says t e unit.Give = FoundNone e ⊎ ((t.phase ≡ phase.ReadsCloseAck) × (n : ℕ) × (e ≡ event.Unit (unit.Please n)))
Says t e _ = Unit {0}

abbrev pub SaysAsk : Event → Ask → Type 0
SaysAsk e (ask.CloseLane lane generation) = IsClosing e
SaysAsk e (ask.SpareLane role peer) = IsBusy e
SaysAsk e _ = Unit {0}

abbrev pub Due : Phase → RecvStage → Type 0
Due (phase.AsksDrop k None) stage = Unit {0}
Due _ stage = is_due stage ≡ false

abbrev pub Leads : State → Event → Wanted → Type 0
Leads t e (Aborts reason) = Unit {0}
Leads t e (Rejects reason) = Unit {0}
Leads t e (Ends x) = Unit {0}
Leads t e (Puts x v) = (is_putting v.phase ≡ true) × Enters t e v.phase × Says t e x × Due v.phase v.recv.stage
Leads t e (Asks x v) = (is_asking v.phase ≡ true) × Enters t e v.phase × SaysAsk e x × Due v.phase v.recv.stage
Leads t e (Reads v) = (waits v.phase ≡ true) × Enters t e v.phase × Due v.phase v.recv.stage
Leads t e (Goes_on v) = v.ours ≡ true → is_due v.recv.stage ≡ false
Leads t e (Excepts v f) = is_due v.recv.stage ≡ false
Leads t e Never = Unit {0}

pub never : false ≡ true → ⊥
never i = cc

pub not_ours : (b : Bool) → b ≡ false → b ≡ true → ⊥
not_ours b i o = never (sym i ∙ o)
