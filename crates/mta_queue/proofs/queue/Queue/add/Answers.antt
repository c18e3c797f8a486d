use Rattle.std.proofs.Common.{◌≡◌, ◌≤◌, ◌<◌, ◌+◌, ℕ, List, Ok, Err, length, get_or, insert, sym, ap, subst, ◌∙◌, arith}
use Rattle.std.specs.Prelude.{slice_set}
use Rattle.std.proofs.lemmas.List.Sorted.{searched}
use Rattle.mta_queue.specs.Queue.{IsWhole, QueueValue, count_beside, more_of, waits}
use Rattle.mta_queue.proofs.Beside.{more_found, more_missing, more_self, none_waits, not_falling, one_waits}
use Rattle.mta_queue.proofs.Beside.{whole_inserted}
use Rattle.mta_queue.proofs.Beside.{whole_set}
use Rattle.mta_queue.proofs.queue.Queue.add.Goals as goal

pub overflow_add-before : goal.overflow_add-before
overflow_add-before c =
    let ns = c.self.inside.numbers.items in
    let cs = c.self.inside.counts.items in
    let found = searched ns c.args.item (Ok c.in-Ok.place) (rw c.as_slice.ensures at c.in-Ok.ensures.ok)
    (λ i j le lt. not_falling ns i j c.self.invariant.ascending le lt) in
    let here = one_waits ns cs c.self.invariant c.args.item c.in-Ok.place found.0 found.1 in
    let was = ap (λ (v : QueueValue). waits v c.args.item) c.self.view_is in
    let read = ap (λ (xs : List ℕ). get_or xs c.in-Ok.place 0) c.as_slice-in-Ok.ensures in
    omega (arith, c.requires.fits, here, was, read)

pub invariant_of-self : goal.invariant_of-self
invariant_of-self c =
    let ns = c.self.inside.numbers.items in
    let cs = c.self.inside.counts.items in
    let read = ap (λ (xs : List ℕ). get_or xs c.in-Ok.place 0) c.as_slice-in-Ok.ensures in
    subst (λ (xs : List ℕ). IsWhole ns xs) (sym c.set.ensures.items)
    (whole_set ns cs c.self.invariant c.args.item c.in-Ok.place _ (omega (arith, c.requires.some)))

pub invariant_of-self-in-Err : goal.invariant_of-self-in-Err
invariant_of-self-in-Err c =
    let ns = c.self.inside.numbers.items in
    let cs = c.self.inside.counts.items in
    let found = searched ns c.args.item (Err c.in-Err.place) (rw c.as_slice.ensures at c.in-Err.ensures.position)
    (λ i j le lt. not_falling ns i j c.self.invariant.ascending le lt) in
    subst (λ (xs : List ℕ). IsWhole xs c.insert-in-Err.new.self.items) (sym c.insert.ensures.items)
    (subst (λ (xs : List ℕ). IsWhole (insert ns c.in-Err.place c.args.item) xs) (sym c.insert-in-Err.ensures.items)
    (whole_inserted ns cs c.self.invariant c.args.item c.in-Err.place found.0 found.1 found.2 c.args.count
    c.requires.some))

pub returns-in-Ok-clause-waits : goal.returns-in-Ok-clause-waits
returns-in-Ok-clause-waits c = λ k.
    let ns = c.self.inside.numbers.items in
    let cs = c.self.inside.counts.items in
    let found = searched ns c.args.item (Ok c.in-Ok.place) (rw c.as_slice.ensures at c.in-Ok.ensures.ok)
    (λ i j le lt. not_falling ns i j c.self.invariant.ascending le lt) in
    let read = ap (λ (xs : List ℕ). get_or xs c.in-Ok.place 0) c.as_slice-in-Ok.ensures in
    ap (λ (xs : List ℕ). count_beside ns xs k) c.set.ensures.items
    ∙ (ap (λ (x : ℕ). count_beside ns (slice_set cs c.in-Ok.place (x + c.args.count)) k) read
    ∙ (more_found ns cs c.self.invariant c.args.item c.in-Ok.place found.0 found.1 c.args.count k
    ∙ ap (λ (v : QueueValue). waits v k + more_of c.args.item c.args.count k) c.self.view_is))

pub returns-in-Err-clause-waits : goal.returns-in-Err-clause-waits
returns-in-Err-clause-waits c = λ k.
    let ns = c.self.inside.numbers.items in
    let cs = c.self.inside.counts.items in
    let found = searched ns c.args.item (Err c.in-Err.place) (rw c.as_slice.ensures at c.in-Err.ensures.position)
    (λ i j le lt. not_falling ns i j c.self.invariant.ascending le lt) in
    ap (λ (xs : List ℕ). count_beside xs c.insert-in-Err.new.self.items k) c.insert.ensures.items
    ∙ (ap (λ (xs : List ℕ). count_beside (insert ns c.in-Err.place c.args.item) xs k) c.insert-in-Err.ensures.items
    ∙ (more_missing ns cs c.self.invariant c.args.item c.in-Err.place found.0 found.1 found.2 c.args.count k
    ∙ ap (λ (v : QueueValue). waits v k + more_of c.args.item c.args.count k) c.self.view_is))

pub insert-requires-clause-room : goal.insert-requires-clause-room
insert-requires-clause-room c =
    let ns = c.self.inside.numbers.items in
    let cs = c.self.inside.counts.items in
    let found = searched ns c.args.item (Err c.in-Err.place) (rw c.as_slice.ensures at c.in-Err.ensures.position)
    (λ i j le lt. not_falling ns i j c.self.invariant.ascending le lt) in
    let nothing = none_waits ns cs c.self.invariant c.args.item c.in-Err.place found.0 found.1 found.2 in
    let was = ap (λ (v : QueueValue). v.room + waits v c.args.item) c.self.view_is in
    omega (arith, c.requires.room, nothing, was)

pub insert-requires-in-Err-clause-room : goal.insert-requires-in-Err-clause-room
insert-requires-in-Err-clause-room c =
    let ns = c.self.inside.numbers.items in
    let cs = c.self.inside.counts.items in
    let found = searched ns c.args.item (Err c.in-Err.place) (rw c.as_slice.ensures at c.in-Err.ensures.position)
    (λ i j le lt. not_falling ns i j c.self.invariant.ascending le lt) in
    let nothing = none_waits ns cs c.self.invariant c.args.item c.in-Err.place found.0 found.1 found.2 in
    let was = ap (λ (v : QueueValue). v.room + waits v c.args.item) c.self.view_is in
    omega (arith, c.requires.room, nothing, was)

pub returns-in-Ok-clause-room : goal.returns-in-Ok-clause-room
returns-in-Ok-clause-room c =
    let more = returns-in-Ok-clause-waits c c.args.item in
    let all = more_self c.args.item c.args.count in
    let was = ap (λ (v : QueueValue). v.room) c.self.view_is in
    omega (arith, c.requires.some, more, all, was, c.set.ensures.room)

pub returns-in-Err-clause-room : goal.returns-in-Err-clause-room
returns-in-Err-clause-room c =
    let ns = c.self.inside.numbers.items in
    let cs = c.self.inside.counts.items in
    let found = searched ns c.args.item (Err c.in-Err.place) (rw c.as_slice.ensures at c.in-Err.ensures.position)
    (λ i j le lt. not_falling ns i j c.self.invariant.ascending le lt) in
    let nothing = none_waits ns cs c.self.invariant c.args.item c.in-Err.place found.0 found.1 found.2 in
    let more = returns-in-Err-clause-waits c c.args.item in
    let all = more_self c.args.item c.args.count in
    let was = ap (λ (v : QueueValue). v.room) c.self.view_is in
    let none = ap (λ (v : QueueValue). waits v c.args.item) c.self.view_is in
    omega (arith, c.requires.some, more, all, was, none, nothing, c.insert.ensures.room, c.insert-in-Err.ensures.room)
