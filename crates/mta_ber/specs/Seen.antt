-- What a function returned, seen by view, is what reading gives.
use Rattle.std.specs.Prelude.{◌≡◌, Option, Some, None, Result, Ok, Err}
use Rattle.mta_ber.specs.declared.fault.Fault.{Fault}
use Rattle.mta_ber.specs.declared.head.Head.{Head}
use Rattle.mta_ber.specs.Head.{Header}
use Rattle.mta_ber.specs.Element.{Part}
use Rattle.mta_ber.specs.declared.view.View.{View}

abbrev pub GivesSome : {X Y : Type 0} → (X → Y) → Option X → Option Y → Type 0
GivesSome view (Some x) read = read ≡ Some (view x)
GivesSome view None read = read ≡ None

abbrev pub Gives : {X Y : Type 0} → (X → Y) → Result X Fault → Result Y Fault → Type 0
Gives view (Ok x) read = read ≡ Ok (view x)
Gives view (Err e) read = read ≡ Err e

abbrev pub head_view : Head → Header
head_view h = record { tag = h.tag; count = h.length; body = h.body.now }

abbrev pub view : View → Part
view v = record {
  tag = v.tag;
  at = v.at;
  depth = v.depth;
  start = v.start;
  content = v.content.now;
  rest = v.rest.now;
  octets = v.octets.now;
}

abbrev pub next_view : Option View → Option Part
next_view None = None
next_view (Some v) = Some (view v)
