use Rattle.std.proofs.Common.{◌≡◌, ◌≤◌, ◌<◌, ◌+◌, ◌-◌, ℕ, List, Ok, Err, length, get_or, remove, sym, ap, subst, ◌∙◌}
use Rattle.std.proofs.Common.{arith}
use Rattle.std.specs.Prelude.{slice_set}
use Rattle.std.proofs.lemmas.List.Sorted.{searched}
use Rattle.mta_queue.specs.Queue.{IsWhole, QueueValue, count_beside, more_of, waits}
use Rattle.mta_queue.proofs.Beside.{fewer_found, none_found, none_more, none_waits, not_falling, one_waits}
use Rattle.mta_queue.proofs.Beside.{more_self, whole_removed, whole_set}
use Rattle.mta_queue.proofs.queue.Queue.take.Goals as goal

pub returns-in_default-clause-waits : goal.returns-in_default-clause-waits
returns-in_default-clause-waits c = λ k.
    let ns = c.self.inside.numbers.items in
    let cs = c.self.inside.counts.items in
    let found = searched ns c.args.item (Err c.in_default.field-0)
    (rw c.as_slice.ensures at c.in_default.ensures.position)
    (λ i j le lt. not_falling ns i j c.self.invariant.ascending le lt) in
    let nothing = none_waits ns cs c.self.invariant c.args.item c.in_default.field-0 found.0 found.1 found.2 in
    let was = ap (λ (v : QueueValue). waits v c.args.item) c.self.view_is in
    let none = none_more c.args.item c.args.count k (omega (arith, c.requires, nothing, was)) in
    omega (arith, none)

pub invariant_of-self : goal.invariant_of-self
invariant_of-self c =
    let ns = c.self.inside.numbers.items in
    let cs = c.self.inside.counts.items in
    subst (λ (xs : List ℕ). IsWhole xs c.remove-then-before-count.new.self.items) (sym c.remove.ensures.items)
    (subst (λ (xs : List ℕ). IsWhole (remove ns c.in-Ok.place) xs)
    (sym c.remove-then-before-count.ensures.items)
    (whole_removed ns cs c.self.invariant c.args.item c.in-Ok.place))

pub overflow_sub-before : goal.overflow_sub-before
overflow_sub-before c =
    let ns = c.self.inside.numbers.items in
    let cs = c.self.inside.counts.items in
    let found = searched ns c.args.item (Ok c.in-Ok.place) (rw c.as_slice.ensures at c.in-Ok.ensures.ok)
    (λ i j le lt. not_falling ns i j c.self.invariant.ascending le lt) in
    let here = one_waits ns cs c.self.invariant c.args.item c.in-Ok.place found.0 found.1 in
    let was = ap (λ (v : QueueValue). waits v c.args.item) c.self.view_is in
    let read = ap (λ (xs : List ℕ). get_or xs c.in-Ok.place 0) c.as_slice-2.ensures in
    omega (arith, c.requires, here, was, read)

pub invariant_of-self-else-before-count : goal.invariant_of-self-else-before-count
invariant_of-self-else-before-count c =
    let ns = c.self.inside.numbers.items in
    let cs = c.self.inside.counts.items in
    let found = searched ns c.args.item (Ok c.in-Ok.place) (rw c.as_slice.ensures at c.in-Ok.ensures.ok)
    (λ i j le lt. not_falling ns i j c.self.invariant.ascending le lt) in
    let here = one_waits ns cs c.self.invariant c.args.item c.in-Ok.place found.0 found.1 in
    let was = ap (λ (v : QueueValue). waits v c.args.item) c.self.view_is in
    let read = ap (λ (xs : List ℕ). get_or xs c.in-Ok.place 0) c.as_slice-2.ensures in
    let differ = c.if-before-count.false in
    subst (λ (xs : List ℕ). IsWhole ns xs) (sym c.set.ensures.items)
    (whole_set ns cs c.self.invariant c.args.item c.in-Ok.place _ (omega (arith, c.requires, here, was, read, differ)))

pub returns-then-before-count-clause-waits : goal.returns-then-before-count-clause-waits
returns-then-before-count-clause-waits c = λ k.
    let ns = c.self.inside.numbers.items in
    let cs = c.self.inside.counts.items in
    let found = searched ns c.args.item (Ok c.in-Ok.place) (rw c.as_slice.ensures at c.in-Ok.ensures.ok)
    (λ i j le lt. not_falling ns i j c.self.invariant.ascending le lt) in
    let read = ap (λ (xs : List ℕ). get_or xs c.in-Ok.place 0) c.as_slice-2.ensures in
    let all = c.if-before-count.true in
    ap (λ (xs : List ℕ). count_beside xs c.remove-then-before-count.new.self.items k
    + more_of c.args.item c.args.count k) c.remove.ensures.items
    ∙ (ap (λ (xs : List ℕ). count_beside (remove ns c.in-Ok.place) xs k + more_of c.args.item c.args.count k)
    c.remove-then-before-count.ensures.items
    ∙ (none_found ns cs c.self.invariant c.args.item c.in-Ok.place found.0 found.1 c.args.count k
    (sym read ∙ all)
    ∙ ap (λ (v : QueueValue). waits v k) c.self.view_is))

pub returns-else-before-count-clause-waits : goal.returns-else-before-count-clause-waits
returns-else-before-count-clause-waits c = λ k.
    let ns = c.self.inside.numbers.items in
    let cs = c.self.inside.counts.items in
    let found = searched ns c.args.item (Ok c.in-Ok.place) (rw c.as_slice.ensures at c.in-Ok.ensures.ok)
    (λ i j le lt. not_falling ns i j c.self.invariant.ascending le lt) in
    let here = one_waits ns cs c.self.invariant c.args.item c.in-Ok.place found.0 found.1 in
    let was = ap (λ (v : QueueValue). waits v c.args.item) c.self.view_is in
    let read = ap (λ (xs : List ℕ). get_or xs c.in-Ok.place 0) c.as_slice-2.ensures in
    ap (λ (xs : List ℕ). count_beside ns xs k + more_of c.args.item c.args.count k) c.set.ensures.items
    ∙ (ap (λ (x : ℕ). count_beside ns (slice_set cs c.in-Ok.place (x - c.args.count)) k
    + more_of c.args.item c.args.count k) read
    ∙ (fewer_found ns cs c.self.invariant c.args.item c.in-Ok.place found.0 found.1 c.args.count k
    (omega (arith, c.requires, here, was))
    ∙ ap (λ (v : QueueValue). waits v k) c.self.view_is))

pub returns-else-before-count-clause-room : goal.returns-else-before-count-clause-room
returns-else-before-count-clause-room c =
    let ns = c.self.inside.numbers.items in
    let cs = c.self.inside.counts.items in
    let found = searched ns c.args.item (Ok c.in-Ok.place) (rw c.as_slice.ensures at c.in-Ok.ensures.ok)
    (λ i j le lt. not_falling ns i j c.self.invariant.ascending le lt) in
    let here = one_waits ns cs c.self.invariant c.args.item c.in-Ok.place found.0 found.1 in
    let had = ap (λ (v : QueueValue). waits v c.args.item) c.self.view_is in
    let read = ap (λ (xs : List ℕ). get_or xs c.in-Ok.place 0) c.as_slice-2.ensures in
    let fewer = returns-else-before-count-clause-waits c c.args.item in
    let all = more_self c.args.item c.args.count in
    let was = ap (λ (v : QueueValue). v.room) c.self.view_is in
    omega (arith, c.requires, here, had, read, fewer, all, was, c.if-before-count.false, c.set.ensures.room)
